-- The values that a marker is made of.
use Rattle.std.proofs.Common.{◌≡◌, ◌≢◌, List, [], ◌∷◌, length, None, refl}
use Rattle.serde_json.specs.declared.value.Value.{Value}
use Rattle.serde_json.specs.View.{items_view}
use Rattle.story_lines.specs.Markers.{marker}

-- no other number of values than two makes a marker
pub not_two_for_marker : (vs : List Value) → length vs ≢ 2 → None ≡ marker (items_view vs)
not_two_for_marker [] h = refl
not_two_for_marker (a ∷ []) h = refl
not_two_for_marker (a ∷ b ∷ []) h = absurd (h refl)
not_two_for_marker (a ∷ b ∷ c ∷ vs) h = refl
