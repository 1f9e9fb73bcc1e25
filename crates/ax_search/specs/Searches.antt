-- The search over the objects of a tree (this project's own).
use Rattle.std.specs.Prelude.{ℕ, Bool, true, false, ◌&&◌, List, Option, Some, None, reverse, take, filter}
use Rattle.std.specs.Option.{option_map, option_map_or}
use Rattle.ax_base.specs.Characters.{Chars}
use Rattle.ax_ask.specs.declared.requests.SearchKey.{SearchKey}
use Rattle.ax_ask.specs.declared.requests.SearchRequest.{SearchRequest}
use Rattle.ax_record.specs.declared.record.Record.{Record}
use Rattle.ax_record.specs.Tree.{Tree, preorder}
use Rattle.ax_record.specs.Orders.{wanted_at, after, before}
use Rattle.ax_search.specs.Keys.{has_any_key}
use Rattle.ax_search.specs.Folding.{folded, holds}

-- whether an object is of one of some kinds and, where there are folded words, its folded name holds them
abbrev pub is_found_by : List SearchKey → Option Chars → Record → Bool
is_found_by keys words r = has_any_key keys r && option_map_or (holds (folded r.name)) words true

-- the objects that a search goes over, in its order: those after the origin in preorder or, backward, those before it in reverse; without an origin all of them
abbrev pub candidates : Tree → Option ℕ → Bool → List ℕ
candidates t None false = preorder t
candidates t None true = reverse (preorder t)
candidates t (Some n) false = after n (preorder t)
candidates t (Some n) true = reverse (before n (preorder t))

-- those of some objects that are wanted, the first ones up to a limit
abbrev pub found_among : (ℕ → Bool) → List ℕ → ℕ → List ℕ
found_among wanted some limit = take limit (filter wanted some)

-- what a search finds
abbrev pub found : Tree → SearchRequest → List ℕ
found t r = found_among (wanted_at t (is_found_by r.keys (option_map folded r.words))) (candidates t r.origin r.backward) r.limit
