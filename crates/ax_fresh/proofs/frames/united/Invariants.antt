use Rattle.std.proofs.Common.{◌≡◌, map, drop}
use Rattle.std.specs.Prelude.{fold}
use Rattle.ax_base.specs.declared.rect.Run.{Run}
use Rattle.ax_base.specs.Rects.{IsWithinBounds, unite}
use Rattle.ax_fresh.proofs.frames.united.Given as goal

-- the frame so far, united with the runs that are left, is the whole
abbrev pub invariant-loop-run : goal.invariant-loop-run
invariant-loop-run l = record {
  value : fold unite l.frame (map (λ (r : Run). r.rect) (drop l.run-index l.others)) ≡ fold unite l.fn.first (map (λ (r : Run). r.rect) l.others);
  within : IsWithinBounds l.frame;
}
