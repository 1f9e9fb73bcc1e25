-- What is known of a node by how it takes part.
use Rattle.std.proofs.Common.{◌≡◌, Bool, true, false, refl}
use Rattle.ax_roles.specs.declared.inclusion.Inclusion.TheVariants.{Included, Ignored, Excluded}
use Rattle.ax_roles.specs.Inclusion.{inclusion_by}

-- who is excluded is out
pub by_excluded : (out ignored : Bool) → Excluded ≡ inclusion_by out ignored → out ≡ true
by_excluded true ignored is = refl
by_excluded false true is = cc
by_excluded false false is = cc

-- who is ignored is not out
pub by_ignored : (out ignored : Bool) → Ignored ≡ inclusion_by out ignored → (out ≡ false) × (ignored ≡ true)
by_ignored true ignored is = cc
by_ignored false true is = (refl, refl)
by_ignored false false is = cc

-- who is included is neither
pub by_included : (out ignored : Bool) → Included ≡ inclusion_by out ignored → (out ≡ false) × (ignored ≡ false)
by_included true ignored is = cc
by_included false true is = cc
by_included false false is = (refl, refl)
