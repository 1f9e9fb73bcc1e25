-- How nodes take part in the tree (WAI-ARIA 1.2, section 7, 'Accessibility Tree').
use Rattle.std.specs.Prelude.{ℕ, Bool, true, false, if◌then◌else◌}
use Rattle.ax_base.specs.Context.{is_out}
use Rattle.ax_base.specs.Document.{Document, spot}
use Rattle.ax_base.specs.Roles.{ignored}
use Rattle.ax_roles.specs.declared.inclusion.Inclusion.{Inclusion}
use Rattle.ax_roles.specs.declared.inclusion.Inclusion.TheVariants.{Included, Ignored, Excluded}

-- a node that is out is excluded; of the others, those that are left out in favour of their kids are ignored
abbrev pub inclusion_by : Bool → Bool → Inclusion
inclusion_by out ignored = if out then Excluded else if ignored then Ignored else Included

-- whether a node that takes part so is an object
abbrev pub is_object_by : Inclusion → Bool
is_object_by Included = true
is_object_by Ignored = false
is_object_by Excluded = false

-- how a node of a document takes part
abbrev pub inclusion : Document → ℕ → Inclusion
inclusion d n = inclusion_by (is_out d n) (ignored (spot d n))
