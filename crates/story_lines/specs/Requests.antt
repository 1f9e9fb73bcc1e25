-- The forms of a request. Each is an object with the key `q`, whose word says what is asked, and exactly the further keys of its kind, of which some may be missing.
use Rattle.std.specs.Prelude.{ℕ, ◌^◌, ◌&&◌, [], ◌∷◌, codes, bytes_eq, if◌then◌else◌, Option, Some, None, option_map}
use Rattle.serde_json.specs.Data.{Data}
use Rattle.serde_json.specs.Find.{get}
use Rattle.ax_base.specs.Characters.{Chars}
use Rattle.ax_ask.specs.declared.requests.Marker.{Marker}
use Rattle.ax_ask.specs.declared.requests.Request.{Request}
use Rattle.ax_ask.specs.declared.requests.Request.TheVariants.{Root, Focus, Role, Name, Description, Value, States, Level, Live, Frame, Parent, Children, Compare, NextChar, PrevChar, NextWord, LineAt, TextOf, BoundsOf, Search, Hit}
use Rattle.story_lines.specs.Values.{◌>>=◌, ◌or_else◌, has_only, integer, id_at, signed_at, text_at}
use Rattle.story_lines.specs.Markers.{marker_at}
use Rattle.story_lines.specs.Searches.{search_at}

-- what is asked by a word alone
abbrev pub alone : Chars → Option Request
alone word =
    if bytes_eq word (codes "root") then Some Root else
    if bytes_eq word (codes "focus") then Some Focus else
    None

-- root, focus: nothing more than `q`
unfoldable pub alone_of : Chars → Data → Option Request
alone_of word d = if has_only (codes "q" ∷ []) d then alone word else None

-- what is asked of an object
abbrev pub about : Chars → ℕ → Option Request
about word id =
    if bytes_eq word (codes "role") then Some (Role id) else
    if bytes_eq word (codes "name") then Some (Name id) else
    if bytes_eq word (codes "description") then Some (Description id) else
    if bytes_eq word (codes "value") then Some (Value id) else
    if bytes_eq word (codes "states") then Some (States id) else
    if bytes_eq word (codes "level") then Some (Level id) else
    if bytes_eq word (codes "live") then Some (Live id) else
    if bytes_eq word (codes "frame") then Some (Frame id) else
    if bytes_eq word (codes "parent") then Some (Parent id) else
    None

-- role, name, description, value, states, level, live, frame, parent: `id`
unfoldable pub about_of : Chars → Data → Option Request
about_of word d = if has_only (codes "q" ∷ codes "id" ∷ []) d then (do
  id ← id_at (codes "id") d
  about word id)
    else None

-- a place among the children, which is 0 where none is given
abbrev pub place_or_first : Option Data → Option ℕ
place_or_first None = Some 0
place_or_first (Some d) = integer 0 (2 ^ 16) d

-- children: `id`, and where it is given `from`
unfoldable pub children_of : Chars → Data → Option Request
children_of word d = if bytes_eq word (codes "children") && has_only (codes "q" ∷ codes "id" ∷ codes "from" ∷ []) d then (do
  id ← id_at (codes "id") d
  from ← place_or_first (get (codes "from") d)
  Some (Children id from))
    else None

-- what is asked of two markers
abbrev pub two_markers : Chars → Marker → Marker → Option Request
two_markers word a b =
    if bytes_eq word (codes "compare") then Some (Compare a b) else
    if bytes_eq word (codes "text") then Some (TextOf a b) else
    if bytes_eq word (codes "bounds") then Some (BoundsOf a b) else
    None

-- compare, text, bounds: `a` and `b`
unfoldable pub two_markers_of : Chars → Data → Option Request
two_markers_of word d = if has_only (codes "q" ∷ codes "a" ∷ codes "b" ∷ []) d then (do
  a ← marker_at (codes "a") d
  b ← marker_at (codes "b") d
  two_markers word a b)
    else None

-- what is asked of one marker
abbrev pub one_marker : Chars → Marker → Option Request
one_marker word at =
    if bytes_eq word (codes "next_char") then Some (NextChar at) else
    if bytes_eq word (codes "prev_char") then Some (PrevChar at) else
    if bytes_eq word (codes "next_word") then Some (NextWord at) else
    if bytes_eq word (codes "line") then Some (LineAt at) else
    None

-- next_char, prev_char, next_word, line: `at`
unfoldable pub one_marker_of : Chars → Data → Option Request
one_marker_of word d = if has_only (codes "q" ∷ codes "at" ∷ []) d then (do
  at ← marker_at (codes "at") d
  one_marker word at)
    else None

-- search: `from`, `dir`, `keys`, `limit`, and where it is given `text`
unfoldable pub search_of : Chars → Data → Option Request
search_of word d =
    if bytes_eq word (codes "search") && has_only (codes "q" ∷ codes "from" ∷ codes "dir" ∷ codes "keys" ∷ codes "text" ∷ codes "limit" ∷ []) d
    then option_map Search (search_at d) else None

-- hit: `x` and `y`
unfoldable pub hit_of : Chars → Data → Option Request
hit_of word d = if bytes_eq word (codes "hit") && has_only (codes "q" ∷ codes "x" ∷ codes "y" ∷ []) d then (do
  x ← signed_at (codes "x") d
  y ← signed_at (codes "y") d
  Some (Hit x y))
    else None

-- what a word asks by these keys: no word has two rows
unfoldable pub asked_by : Chars → Data → Option Request
asked_by word d =
    alone_of word d
    or_else about_of word d
    or_else children_of word d
    or_else two_markers_of word d
    or_else one_marker_of word d
    or_else search_of word d
    or_else hit_of word d

-- a request
abbrev pub request_of : Data → Option Request
request_of d = do
  word ← text_at (codes "q") d
  asked_by word d

-- the request at a value's one key
abbrev pub request_by : Chars → Data → Option Request
request_by key d = if has_only (key ∷ []) d then get key d >>= request_of else None
