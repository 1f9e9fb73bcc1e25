-- What the calls on markers answer, with their refusals in their order.
use Rattle.std.specs.Prelude.{◌≡◌, ℕ, ◌+◌, ◌<◌, ◌++◌, ◌||◌, nat_lt, List, length, Option, Some, None, Result, Ok, Err, encode_utf8_all, if◌then◌else◌, ⊤}
use Rattle.ax_base.specs.Characters.{Chars}
use Rattle.ax_ask.specs.declared.requests.Marker.{Marker}
use Rattle.ax_record.specs.Tree.{Tree}
use Rattle.text_marker.specs.Markers.{is_stale, is_out}
use Rattle.text_marker.specs.Ranges.{range_words}
use Rattle.text_marker.specs.declared.errors.MarkError.{MarkError}
use Rattle.text_marker.specs.declared.errors.MarkError.TheVariants.{Stale, Out, Long, NoMemory}
use Rattle.text_marker.specs.declared.contents.TheConstants.{MAX_RANGE_CHARACTERS}

-- why a marker has no answer: stale comes first, then out
abbrev pub refusal : Tree → Marker → Option MarkError
refusal t m = if is_stale t m then Some Stale else (if is_out t m then Some Out else None)

-- why two markers have none: stale where either is stale, else out where either is out
abbrev pub refusal_of_both : Tree → Marker → Marker → Option MarkError
refusal_of_both t a b = if is_stale t a || is_stale t b then Some Stale else (if is_out t a || is_out t b then Some Out else None)

-- a refusal goes before the answer
abbrev pub unless : {A : Type 0} → Option MarkError → Result A MarkError → Result A MarkError
unless None answer = answer
unless (Some e) answer = Err e

-- what a call about one marker answers
abbrev pub answered : {A : Type 0} → Tree → Marker → A → Result A MarkError
answered t m value = unless (refusal t m) (Ok value)

-- what a call about two markers answers
abbrev pub answered_both : {A : Type 0} → Tree → Marker → Marker → Result A MarkError → Result A MarkError
answered_both t a b answer = unless (refusal_of_both t a b) answer

-- more than 4,096 characters are long
abbrev pub unless_long : List ℕ → Result Chars MarkError
unless_long cs = if nat_lt MAX_RANGE_CHARACTERS (length cs) then Err Long else Ok (encode_utf8_all cs)

-- the text of a range
abbrev pub range_text : Tree → Marker → Marker → Result Chars MarkError
range_text t a b = answered_both t a b (unless_long (range_words t a b))

-- what is refused for a cause is what is to be answered; only want of memory may come in its place
abbrev pub IsRefusalOf : {A : Type 0} → Result A MarkError → MarkError → Type 0
IsRefusalOf answer Stale = answer ≡ Err Stale
IsRefusalOf answer Out = answer ≡ Err Out
IsRefusalOf answer Long = answer ≡ Err Long
IsRefusalOf answer NoMemory = ⊤

-- characters were added to a text, where so many could still be added: how many can be added after that. Or there were more, or no memory.
abbrev pub Pushed : ℕ → List ℕ → List ℕ → List ℕ → Result ℕ MarkError → Type 0
Pushed left cs old new (Ok rest) = (rest + length cs ≡ left) × (new ≡ old ++ encode_utf8_all cs)
Pushed left cs old new (Err Long) = left < length cs
Pushed left cs old new (Err NoMemory) = ⊤
Pushed left cs old new (Err Stale) = ⊥
Pushed left cs old new (Err Out) = ⊥
