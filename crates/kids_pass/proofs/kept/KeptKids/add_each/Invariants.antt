use Rattle.std.proofs.Common.{length, ◌-◌, ◌≡◌, ◌≤◌, ◌++◌, true, take}
use Rattle.std.specs.List.{flat_map}
use Rattle.kids_pass.specs.Kids.{given_at, AreObjects}
use Rattle.kids_pass.proofs.kept.KeptKids.add_each.Given as goal

abbrev pub invariant-loop-done : goal.invariant-loop-done
invariant-loop-done l = record {
  low : l.done ≤ length l.children;
  added : l.list.items ≡ l.initial.list.items ++ flat_map (given_at l.self) (take l.done l.children);
  objects : l.are_objects ≡ true → AreObjects l.self (flat_map (given_at l.self) (take l.done l.children));
}

abbrev pub decreases-loop-done : goal.decreases-loop-done
decreases-loop-done l = length l.children - l.done
