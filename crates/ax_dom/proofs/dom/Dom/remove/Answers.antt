use Rattle.std.proofs.Common.{◌∙◌, ◌++◌, sym, ap}
use Rattle.ax_dom.specs.Subtrees.{subtree}
use Rattle.ax_dom.specs.Changes.{focus_outside}
use Rattle.ax_dom.proofs.RemovedEntries.{rising_out, document_removed, kept_removed}
use Rattle.ax_dom.proofs.dom.Dom.remove.Goals as goal

pub remove_all-requires : goal.remove_all-requires
remove_all-requires c =
    rising_out c.self.inside.entries c.self.inside.focus c.self.inside.used c.self.invariant c.args.self.now c.self.view_is c.args.id c.requires.apart
    _ c.parent_of-from.ensures.value _ c.unlink_child.ensures
    _ (c.as_slice-2.ensures ∙ c.in_ok-push_subtree.ensures ∙ ap (λ xs. xs ++ subtree c.args.self.now c.args.id) c.new-gone.ensures)

pub invariant_of-self : goal.invariant_of-self
invariant_of-self c =
    let gone = c.as_slice-2.ensures ∙ c.in_ok-push_subtree.ensures ∙ ap (λ xs. xs ++ subtree c.args.self.now c.args.id) c.new-gone.ensures in
    kept_removed c.self.inside.entries c.self.inside.focus c.self.inside.used c.self.invariant c.args.self.now c.self.view_is c.args.id c.requires.apart
    _ c.parent_of-from.ensures.value _ c.unlink_child.ensures _ gone _ c.remove_all.ensures _
    (c.focus_without-focus.ensures ∙ (λ i. focus_outside ((c.as_slice.ensures ∙ sym c.as_slice-2.ensures ∙ gone) i) ((c.focus.ensures ∙ sym (ap (λ d. d.focus) c.self.view_is)) i)))

pub returns-clause-ok : goal.returns-clause-ok
returns-clause-ok c =
    let gone = c.as_slice-2.ensures ∙ c.in_ok-push_subtree.ensures ∙ ap (λ xs. xs ++ subtree c.args.self.now c.args.id) c.new-gone.ensures in
    document_removed c.self.inside.entries c.self.inside.focus c.self.inside.used c.self.invariant c.args.self.now c.self.view_is c.args.id c.requires.apart
    _ c.parent_of-from.ensures.value _ c.unlink_child.ensures _ gone _ c.remove_all.ensures _
    (c.focus_without-focus.ensures ∙ (λ i. focus_outside ((c.as_slice.ensures ∙ sym c.as_slice-2.ensures ∙ gone) i) ((c.focus.ensures ∙ sym (ap (λ d. d.focus) c.self.view_is)) i)))
