use Rattle.std.proofs.Common.{◌∙◌, sym, ap, arith, take, codes}
use Rattle.std.proofs.lemmas.Result.{IfOk-weaker}
use Rattle.std.specs.List.{flat_map}
use Rattle.ax_base.specs.Document.{IsChild}
use Rattle.ax_base.specs.Values.{text_in}
use Rattle.ax_base.specs.Said.{child_text}
use Rattle.ax_dom.specs.declared.cell.Cell.{Cell}
use Rattle.ax_names.specs.OwnTexts.{own_text, title_said, said_or}
use Rattle.ax_names.specs.Scopes.{children_say}
use Rattle.ax_names.proofs.Speaking.{child_of}
use Rattle.ax_names.proofs.Showing.{falls_below, one_more_text, says_nothing, says_words, says_element}
use Rattle.ax_names.proofs.Turns.{told_counts, third_counts}
use Rattle.ax_names.proofs.name_from_content.+content.Goals as goal

pub said_by_children-said_by_child-requires : goal.said_by_children-said_by_child-requires
said_by_children-said_by_child-requires g t c κs within =
    let d = c.args.dom.now in
    let tree = c.children-child-items.ensures.tree in
    let child : IsChild d c.args.id c.child-item.result = child_of d c.args.id c.loop-child.child-index _ _ c.children-child-items.ensures.value (omega arith) c.child-item.is in
    let l = c.decreases in
    let m = falls_below d tree c.args.id c.child-item.result child in
    (omega arith, (within.0, (within.1.0, (within.1.1, (tree.known c.args.id c.child-item.result child, c.loop-child.invariant.1)))))

pub said_by_children-loop-child-preserved : goal.said_by_children-loop-child-preserved
said_by_children-loop-child-preserved g t c =
    let text = child_text c.args.dom.now g.S.Scope.leaves_out (g.S.Scope.says c.args.dom.now) in
    let cs = c.children-child-items.result.now in (
      c.in_ok-append.ensures (flat_map text (take c.loop-child.child-index cs)) (text c.child-item.result) c.loop-child.invariant.0 c.in_ok-said.ensures.value
          ∙ ap g.G.Gather.of (sym (one_more_text text c.loop-child.child-index c.child-item.result cs (omega arith) c.child-item.is)),
      c.in_ok-said.ensures.kept,
    )

pub said_below-returns-in-Some-clause-value : goal.said_below-returns-in-Some-clause-value
said_below-returns-in-Some-clause-value g t c =
    let kept = c.in-Some.ensures c.args.dom.now c.requires.kept in
    IfOk-weaker c.copy.result _ _ (λ p e. e ∙ kept) c.copy.ensures

pub said_by_cell-returns-then-is_left_out-clause-value : goal.said_by_cell-returns-then-is_left_out-clause-value
said_by_cell-returns-then-is_left_out-clause-value g t c =
    let s = g.S.Scope in
    c.empty.ensures ∙ ap g.G.Gather.of (says_nothing s.leaves_out s.refers s.says g.met.S.Scope.tells c.args.dom.now c.requires.tree c.args.cell.now.id c.args.cell.now.body (ap (λ (x : Cell). x.body) c.requires.cell) c.is_left_out.result c.is_left_out.ensures c.if-is_left_out.true)

pub said_by_cell-returns-in-Words-clause-value : goal.said_by_cell-returns-in-Words-clause-value
said_by_cell-returns-in-Words-clause-value g t c =
    let s = g.S.Scope in
    IfOk-weaker c.from_str.result _ _ (λ p e. e ∙ ap g.G.Gather.of (says_words s.leaves_out s.refers s.says g.met.S.Scope.tells c.args.dom.now c.requires.tree c.args.cell.now.id c.args.cell.now.body (ap (λ (x : Cell). x.body) c.requires.cell) c.is_left_out.result c.is_left_out.ensures c.if-is_left_out.false c.in-Words.chars c.in-Words.runs c.in-Words.is _ c.as_str.ensures)) c.from_str.ensures

pub said_by_cell-returns-in-Element-clause-value : goal.said_by_cell-returns-in-Element-clause-value
said_by_cell-returns-in-Element-clause-value g t c =
    let s = g.S.Scope in
    IfOk-weaker c.said_by_element.result _ _ (λ p e. e ∙ ap g.G.Gather.of (says_element s.leaves_out s.refers s.says g.met.S.Scope.tells c.args.dom.now c.requires.tree c.args.cell.now.id c.args.cell.now.body (ap (λ (x : Cell). x.body) c.requires.cell) c.is_left_out.result c.is_left_out.ensures c.if-is_left_out.false c.node_role-role.result c.node_role-role.ensures c.in-Element.tag c.in-Element.attrs c.in-Element.frame c.in-Element.is _ c.as_str-in-Element.ensures)) c.said_by_element.ensures.value

pub said_by_element-returns-in-Some-clause-value : goal.said_by_element-returns-in-Some-clause-value
said_by_element-returns-in-Some-clause-value g t c =
    let d = c.args.dom.now in
    let attrs = c.args.attrs.now in
    let referred = g.S.Scope.refers d (text_in (codes "aria-labelledby") attrs) in
    let below = children_say d g.S.Scope.leaves_out (g.S.Scope.says d) c.args.id in
    told_counts g.G.Gather.of referred (own_text c.args.role c.args.tag.now attrs) (said_or below (title_said attrs)) _ c.in-Some.said c.in-Some.is (c.in_ok-said.ensures referred c.in_ok-referred.ensures.value)

pub said_by_element-returns-clause-value : goal.said_by_element-returns-clause-value
said_by_element-returns-clause-value g t c =
    let d = c.args.dom.now in
    let attrs = c.args.attrs.now in
    let referred = g.S.Scope.refers d (text_in (codes "aria-labelledby") attrs) in
    let below = children_say d g.S.Scope.leaves_out (g.S.Scope.says d) c.args.id in
    IfOk-weaker c.said_after.result _ _ (λ p e.
    third_counts g.G.Gather.of referred (own_text c.args.role c.args.tag.now attrs) (said_or below (title_said attrs)) _ p c.in_default.is (c.in_ok-said.ensures referred c.in_ok-referred.ensures.value) (e below c.in_ok-below.ensures.value)) c.said_after.ensures
