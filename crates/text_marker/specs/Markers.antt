-- Text markers, their order, and their moves (this project's own).
use Rattle.std.specs.Prelude.{ℕ, Bool, not, ◌||◌, ◌&&◌, ◌==◌, nat_lt, nat_le, nat_eq, List, [], map, length, reverse, find, Option, chars, if◌then◌else◌}
use Rattle.std.specs.List.{flat_map, list_any}
use Rattle.std.specs.Option.{option_and_then, unwrap_or}
use Rattle.ax_base.specs.Characters.{Chars}
use Rattle.ax_ask.specs.declared.requests.Marker.{Marker}
use Rattle.ax_ask.specs.declared.replies.Placing.{Placing}
use Rattle.ax_ask.specs.declared.replies.Placing.TheVariants.{Before, Same, After}
use Rattle.ax_record.specs.Tree.{Tree, record_at, has_object}
use Rattle.text_order.specs.Texts.{is_text, texts, place}
use Rattle.text_marker.specs.Stops.{stops_of, word_begins}

-- the text of a text object; the empty text of another
abbrev pub text_at : Tree → ℕ → Chars
text_at t n = unwrap_or (option_and_then (λ r. r.text) (record_at t n)) []

-- the characters of a text object; none of another
abbrev pub words_of : Tree → ℕ → List ℕ
words_of t n = chars (text_at t n)

abbrev pub mark : ℕ → ℕ → Marker
mark n at = record { id = n; offset = at }

-- a marker is stale exactly where the tree lacks its object
abbrev pub is_stale : Tree → Marker → Bool
is_stale t m = not (has_object t m.id)

-- one that is not stale is out exactly where its object is no text object, or the offset exceeds its length in characters
abbrev pub is_out : Tree → Marker → Bool
is_out t m = not (is_text t m.id && nat_le m.offset (length (words_of t m.id)))

-- whether a marker stands above another: its text is a later one, or the same and its offset is greater
abbrev pub is_above : Tree → Marker → Marker → Bool
is_above t m s = nat_lt (place t m.id) (place t s.id) || (s.id == m.id && nat_lt m.offset s.offset)

-- where a marker stands, seen from another
abbrev pub placing : Tree → Marker → Marker → Placing
placing t a b = if is_above t a b then Before else (if is_above t b a then After else Same)

-- the stops of a text object
abbrev pub stops_at : Tree → ℕ → List Marker
stops_at t n = map (mark n) (stops_of (text_at t n))

-- all stops, in the order of the markers
abbrev pub stops : Tree → List Marker
stops t = flat_map (stops_at t) (texts t)

-- whether a word begins at a stop
abbrev pub begins_word : Tree → Marker → Bool
begins_word t s = list_any (nat_eq s.offset) (word_begins (text_at t s.id))

-- the least stop above a marker: the first of the stops that stands above it
abbrev pub next_char : Tree → Marker → Option Marker
next_char t m = find (is_above t m) (stops t)

-- the greatest stop below a marker: the last of the stops that it stands above
abbrev pub prev_char : Tree → Marker → Option Marker
prev_char t m = find (λ s. is_above t s m) (reverse (stops t))

-- the least stop above a marker at which a word begins
abbrev pub next_word : Tree → Marker → Option Marker
next_word t m = find (λ s. is_above t m s && begins_word t s) (stops t)
