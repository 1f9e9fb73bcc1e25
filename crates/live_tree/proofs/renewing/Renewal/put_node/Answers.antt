use Rattle.std.proofs.Common.{[], ◌∷◌, ◌++◌, cond, not, append-nil, sym, ap, ◌∙◌}
use Rattle.std.proofs.lemmas.Bool.{false≢true}
use Rattle.ax_dom.specs.declared.cell.Cell.{Cell}
use Rattle.ax_fresh.specs.Gathering.{with_records}
use Rattle.live_tree.specs.Hosts.{host_above}
use Rattle.live_tree.specs.Remaking.{is_same}
use Rattle.live_tree.proofs.Remaking.{no_cell, a_cell}
use Rattle.live_tree.proofs.Hosting.{object_hangs, other_hangs, one_kept, none_kept}
use Rattle.live_tree.proofs.renewing.Renewal.put_node.Goals as goal

pub returns-in_default-clause-records : goal.returns-in_default-clause-records
returns-in_default-clause-records g c = absurd (false≢true (sym (no_cell c.args.self.now.dom.now c.args.id c.in_default.ensures.value) ∙ c.requires.known))

pub returns-in_default-clause-same : goal.returns-in_default-clause-same
returns-in_default-clause-same g c = absurd (false≢true (sym (no_cell c.args.self.now.dom.now c.args.id c.in_default.ensures.value) ∙ c.requires.known))

pub returns-in_default-clause-hosts : goal.returns-in_default-clause-hosts
returns-in_default-clause-hosts g c = absurd (false≢true (sym (no_cell c.args.self.now.dom.now c.args.id c.in_default.ensures.value) ∙ c.requires.known))

pub is_object-requires : goal.is_object-requires
is_object-requires g c = record { tree = c.requires.present.tree; kids = c.requires.present.passes.kids }

pub returns-then-not-is_object-clause-records : goal.returns-then-not-is_object-clause-records
returns-then-not-is_object-clause-records g c =
    let d = c.args.self.now.dom.now in
    let same = is_same c.args.self.now.kept.now d c.args.id in
    ap (λ b. with_records d c.args.made.now.records (cond b (cond (not same) (c.args.id ∷ []) []) [])) c.if-not-is_object.ensures

pub returns-then-not-is_object-clause-same : goal.returns-then-not-is_object-clause-same
returns-then-not-is_object-clause-same g c =
    let d = c.args.self.now.dom.now in
    let same = is_same c.args.self.now.kept.now d c.args.id in
    sym (append-nil c.args.made.now.same) ∙ ap (λ b. c.args.made.now.same ++ cond b (cond same (c.args.id ∷ []) []) []) c.if-not-is_object.ensures

pub returns-then-not-is_object-clause-hosts : goal.returns-then-not-is_object-clause-hosts
returns-then-not-is_object-clause-hosts g c =
    let d = c.args.self.now.dom.now in
    let known = a_cell d c.args.id c.in-Some.cell.now c.in-Some.ensures.value in
    let off = sym c.if-not-is_object.ensures in
    let above = c.above-above.ensures ∙ ap (λ (x : Cell). host_above c.args.hosts.now x.parent) known.1 in
    one_kept d c.requires.present.tree c.args.hosts.now c.put.new.self c.args.id c.above-above.result off (other_hangs d c.requires.present.tree c.args.hosts.now c.args.id known.0 c.requires.parent c.above-above.result above off) c.in_ok-put.ensures

pub put_object-requires-clause-parent : goal.put_object-requires-clause-parent
put_object-requires-clause-parent g c =
    let d = c.args.self.now.dom.now in
    let known = a_cell d c.args.id c.in-Some.cell.now c.in-Some.ensures.value in
    let above = c.above-above.ensures ∙ ap (λ (x : Cell). host_above c.args.hosts.now x.parent) known.1 in
    object_hangs d c.requires.present.tree c.args.hosts.now c.args.id known.0 c.requires.parent c.above-above.result above (sym c.if-not-is_object.ensures)

pub returns-clause-records : goal.returns-clause-records
returns-clause-records g c =
    let d = c.args.self.now.dom.now in
    let same = is_same c.args.self.now.kept.now d c.args.id in
    c.in_ok-put_object.ensures.records ∙ ap (λ b. with_records d c.args.made.now.records (cond b (cond (not same) (c.args.id ∷ []) []) [])) c.if-not-is_object.ensures

pub returns-clause-same : goal.returns-clause-same
returns-clause-same g c =
    let d = c.args.self.now.dom.now in
    let same = is_same c.args.self.now.kept.now d c.args.id in
    c.in_ok-put_object.ensures.same ∙ ap (λ b. c.args.made.now.same ++ cond b (cond same (c.args.id ∷ []) []) []) c.if-not-is_object.ensures

pub returns-clause-hosts : goal.returns-clause-hosts
returns-clause-hosts g c = none_kept c.args.self.now.dom.now c.requires.present.tree c.args.hosts.now c.args.id (sym c.if-not-is_object.ensures)
