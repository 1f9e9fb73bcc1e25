use Rattle.std.proofs.Common.{◌≡◌, drop}
use Rattle.ax_base.specs.Attributes.{value_of}
use Rattle.ax_base.proofs.attrs.Attrs.get.Given as goal

-- none of the attributes so far has the name
abbrev pub invariant-loop-attr : goal.invariant-loop-attr
invariant-loop-attr l = value_of l.name (drop l.attr-index l.attr-items) ≡ value_of l.name l.attr-items
