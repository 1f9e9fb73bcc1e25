-- The keys of an object, as a list and as members.
use Rattle.std.proofs.Common.{◌≡◌, ℕ, List, [], ◌∷◌, ◌&&◌, ◌||◌, refl, ap, ◌∙◌, map, Bor}
use Rattle.std.specs.Prelude.{String, string_bytes, bytes_eq}
use Rattle.std.specs.declared.alloc.Global.{Global}
use Rattle.std.specs.List.{list_any, list_all}
use Rattle.std.specs.Map.{keys_of}
use Rattle.serde_json.specs.declared.value.Value.{Value}
use Rattle.serde_json.specs.View.{members_view}
use Rattle.story_lines.specs.Values.{only_keys}

any_seen : (allowed : List (Bor (List ℕ))) (k : List ℕ) → list_any (λ (a : Bor (List ℕ)). bytes_eq a.now k) allowed ≡ list_any (λ a. bytes_eq a k) (map (λ (a : Bor (List ℕ)). a.now) allowed)
any_seen [] k = refl
any_seen (a ∷ rest) k = ap (λ b. bytes_eq a.now k || b) (any_seen rest k)

-- the test of each key of a map's entries is the test of their members
pub all_seen : (allowed : List (Bor (List ℕ))) (es : List (String Global × Value)) → list_all (λ k. list_any (λ (a : Bor (List ℕ)). bytes_eq a.now (string_bytes k)) allowed) (keys_of es) ≡ only_keys (map (λ (a : Bor (List ℕ)). a.now) allowed) (members_view es)
all_seen allowed [] = refl
all_seen allowed (e ∷ es) = let first = any_seen allowed (string_bytes e.0) in let rest = all_seen allowed es in ap (λ b. b && list_all (λ k. list_any (λ (a : Bor (List ℕ)). bytes_eq a.now (string_bytes k)) allowed) (keys_of es)) first ∙ ap (λ b. list_any (λ a. bytes_eq a (string_bytes e.0)) (map (λ (a : Bor (List ℕ)). a.now) allowed) && b) rest
