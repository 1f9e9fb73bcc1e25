use Rattle.std.proofs.Common.{◌∙◌, ◌+◌, ◌++◌, sym, ap, subst}
use Rattle.ax_base.specs.Trees.{HasNoRepeats}
use Rattle.ax_dom.specs.Places.{placed, without}
use Rattle.ax_dom.specs.Subtrees.{subtree}
use Rattle.ax_dom.proofs.Subtrees.{subtree_once}
use Rattle.ax_dom.proofs.MovedEntries.{document_moved, kept_moved}
use Rattle.ax_dom.proofs.dom.Dom.move_node.Goals as goal

pub rebase_depths-requires-clause-once : goal.rebase_depths-requires-clause-once
rebase_depths-requires-clause-once c =
    let whole = c.as_slice.ensures ∙ c.in_ok-push_subtree.ensures ∙ ap (λ xs. xs ++ subtree c.args.self.now c.args.id) c.new-whole.ensures in
    subst HasNoRepeats (sym whole) (subtree_once c.args.self.now c.parent_of-from.ensures.tree c.args.id)

pub invariant_of-self : goal.invariant_of-self
invariant_of-self c =
    let whole = c.as_slice.ensures ∙ c.in_ok-push_subtree.ensures ∙ ap (λ xs. xs ++ subtree c.args.self.now c.args.id) c.new-whole.ensures in
    kept_moved c.self.inside.entries c.self.inside.focus c.self.inside.used c.self.invariant c.args.self.now c.self.view_is c.args.id c.args.into c.args.before.now c.requires
    c.in_ok-list.list (c.in_ok-list.ensures ∙ ap (λ xs. placed c.args.before.now c.args.id (without c.args.id xs)) c.children_of.ensures.value)
    _ _ (ap (λ n. n + 1) (c.from-base.ensures ∙ c.depth_of.ensures)) (c.from-top.ensures ∙ c.depth_of-2.ensures) _ c.parent_of-from.ensures.value _ whole
    _ _ _ c.relink_child.ensures c.set_parent.ensures c.rebase_depths.ensures

pub returns-clause-ok : goal.returns-clause-ok
returns-clause-ok c =
    let whole = c.as_slice.ensures ∙ c.in_ok-push_subtree.ensures ∙ ap (λ xs. xs ++ subtree c.args.self.now c.args.id) c.new-whole.ensures in
    document_moved c.self.inside.entries c.self.inside.focus c.self.inside.used c.self.invariant c.args.self.now c.self.view_is c.args.id c.args.into c.args.before.now c.requires
    c.in_ok-list.list (c.in_ok-list.ensures ∙ ap (λ xs. placed c.args.before.now c.args.id (without c.args.id xs)) c.children_of.ensures.value)
    _ _ (ap (λ n. n + 1) (c.from-base.ensures ∙ c.depth_of.ensures)) (c.from-top.ensures ∙ c.depth_of-2.ensures) _ c.parent_of-from.ensures.value _ whole
    _ _ _ c.relink_child.ensures c.set_parent.ensures c.rebase_depths.ensures
