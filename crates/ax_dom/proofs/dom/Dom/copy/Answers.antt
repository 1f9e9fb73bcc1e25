use Rattle.std.proofs.Common.{◌∙◌, ◌++◌, refl, ap}
use Rattle.ax_dom.specs.Subtrees.{subtree}
use Rattle.ax_dom.proofs.Copied.{copied_kept, copied_document}
use Rattle.ax_dom.proofs.dom.Dom.copy.Goals as goal

pub invariant_of-result : goal.invariant_of-result
invariant_of-result c =
    let all = c.as_slice.ensures ∙ c.in_ok-push_subtree.ensures ∙ ap (λ xs. xs ++ subtree c.args.self.now 1) c.new-nodes.ensures in
    copied_kept c.self.inside.entries c.self.inside.focus c.self.inside.used c.self.invariant c.args.self.now c.self.view_is c.in_ok-entries.entries _ all c.in_ok-entries.ensures _ _ refl c.in_ok-used.ensures

pub returns : goal.returns
returns c =
    let all = c.as_slice.ensures ∙ c.in_ok-push_subtree.ensures ∙ ap (λ xs. xs ++ subtree c.args.self.now 1) c.new-nodes.ensures in
    copied_document c.self.inside.entries c.self.inside.focus c.self.inside.used c.self.invariant c.args.self.now c.self.view_is c.in_ok-entries.entries _ all c.in_ok-entries.ensures _ _ refl c.in_ok-used.ensures
