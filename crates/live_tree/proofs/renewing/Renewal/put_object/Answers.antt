use Rattle.std.proofs.Common.{◌∷◌, [], ◌++◌, cond, not, append-nil, sym, ap, refl, ◌∙◌}
use Rattle.ctx_pass.specs.declared.contexts.Context.{Context}
use Rattle.ax_fresh.specs.Gathering.{with_records}
use Rattle.live_tree.specs.Remaking.{has_record}
use Rattle.live_tree.proofs.Remaking.{a_cell, put_is, made_of, rects_within}
use Rattle.live_tree.proofs.renewing.Renewal.put_object.Goals as goal

pub has_record-requires : goal.has_record-requires
has_record-requires c = rects_within c.args.self.now.dom.now c.requires.present.tree c.args.id c.args.cell.now c.requires.cell

pub returns-then-has_record : goal.returns-then-has_record
returns-then-has_record c =
    let d = c.args.self.now.dom.now in
    let known = a_cell d c.args.id c.args.cell.now c.requires.cell in
    let same = made_of d c.args.id c.args.cell.now _ _ _ _ _ _ known.1 c.node_role.ensures (ap (λ (x : Context). x.live) (c.context.ensures d c.requires.present.passes.contexts known.0)) c.requires.parent
    (c.kids.ensures d c.requires.present.passes.kids known.0) (c.name.ensures d c.requires.present.passes.saids known.0) (c.description.ensures d c.requires.present.passes.saids known.0) in
    let is = c.if-has_record.ensures ∙ ap (has_record c.args.self.now.kept.now c.args.id) same in
    record {
      records = ap (λ b. with_records d c.args.made.now.records (cond (not b) (c.args.id ∷ []) [])) is;
      same = c.in_ok-push.ensures.ok ∙ ap (λ b. c.args.made.now.same ++ cond b (c.args.id ∷ []) []) is;
    }

pub make-requires : goal.make-requires
make-requires c = rects_within c.args.self.now.dom.now c.requires.present.tree c.args.id c.args.cell.now c.requires.cell

pub returns : goal.returns
returns c =
    let d = c.args.self.now.dom.now in
    let known = a_cell d c.args.id c.args.cell.now c.requires.cell in
    let same = made_of d c.args.id c.args.cell.now _ _ _ _ _ _ known.1 c.node_role.ensures (ap (λ (x : Context). x.live) (c.context.ensures d c.requires.present.passes.contexts known.0)) c.requires.parent
    (c.kids.ensures d c.requires.present.passes.kids known.0) (c.name.ensures d c.requires.present.passes.saids known.0) (c.description.ensures d c.requires.present.passes.saids known.0) in
    let is = c.if-has_record.ensures ∙ ap (has_record c.args.self.now.kept.now c.args.id) same in
    record {
      records = put_is d c.args.made.now.records c.put.new.self c.in_ok-object.object c.args.id c.args.id c.in_ok-put.ensures (c.in_ok-object.ensures ∙ same) refl ∙ ap (λ b. with_records d c.args.made.now.records (cond (not b) (c.args.id ∷ []) [])) is;
      same = sym (append-nil c.args.made.now.same) ∙ ap (λ b. c.args.made.now.same ++ cond b (c.args.id ∷ []) []) is;
    }
