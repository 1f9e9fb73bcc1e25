use Rattle.std.proofs.Common.{◌≡◌, not, take}
use Rattle.std.specs.List.{filter}
use Rattle.ax_dom.specs.Among.{is_in}
use Rattle.live_tree.proofs.renewing.without.Given as goal

-- those that are left of the ids so far
abbrev pub invariant-loop-id : goal.invariant-loop-id
invariant-loop-id l = l.left ≡ filter (λ n. not (is_in l.fn.others n)) (take l.id-index l.ids)
