use Rattle.std.proofs.Common.{◌≡◌, drop}
use Rattle.std.specs.List.{list_any}
use Rattle.ax_base.specs.Values.{is_filled}
use Rattle.ax_base.proofs.focusable.has_filled.Given as goal

-- none of the attributes so far is filled
abbrev pub invariant-loop-name : goal.invariant-loop-name
invariant-loop-name l = list_any (λ name. is_filled name.now l.attrs) (drop l.name-index l.names) ≡ list_any (λ name. is_filled name.now l.attrs) l.names
