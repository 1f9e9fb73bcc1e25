-- What a search looks for.
use Rattle.std.specs.Prelude.{ℕ, ◌&&◌, List, [], ◌∷◌, length, codes, bytes_eq, Bool, true, false, nat_le, if◌then◌else◌, Option, Some, None}
use Rattle.serde_json.specs.Data.{Data, Items, no_items, item}
use Rattle.serde_json.specs.Find.{get, as_array, as_str}
use Rattle.ax_base.specs.Characters.{Chars}
use Rattle.ax_ask.specs.declared.requests.SearchKey.{SearchKey}
use Rattle.ax_ask.specs.declared.requests.SearchKey.TheVariants.{Any, Text, Heading, Link, Button, Checkbox, Radio, List as ListKey, Field, Control, Landmark, Table, Image, Live, Focusable}
use Rattle.ax_ask.specs.declared.requests.SearchRequest.{SearchRequest}
use Rattle.story_lines.specs.Values.{◌>>=◌, integer_at, id_or_none_at, text_at}

-- the kind of objects that a word names
abbrev pub search_key : Chars → Option SearchKey
search_key word =
    if bytes_eq word (codes "any") then Some Any else
    if bytes_eq word (codes "text") then Some Text else
    if bytes_eq word (codes "heading") then Some Heading else
    if bytes_eq word (codes "link") then Some Link else
    if bytes_eq word (codes "button") then Some Button else
    if bytes_eq word (codes "checkbox") then Some Checkbox else
    if bytes_eq word (codes "radio") then Some Radio else
    if bytes_eq word (codes "list") then Some ListKey else
    if bytes_eq word (codes "field") then Some Field else
    if bytes_eq word (codes "control") then Some Control else
    if bytes_eq word (codes "landmark") then Some Landmark else
    if bytes_eq word (codes "table") then Some Table else
    if bytes_eq word (codes "image") then Some Image else
    if bytes_eq word (codes "live") then Some Live else
    if bytes_eq word (codes "focusable") then Some Focusable else
    None

-- one key word
abbrev pub search_key_in : Data → Option SearchKey
search_key_in d = as_str d >>= search_key

-- some key words, in their order
abbrev pub search_keys : Items → Option (List SearchKey)
search_keys no_items = Some []
search_keys (item d ds) = do
  one ← search_key_in d
  more ← search_keys ds
  Some (one ∷ more)

-- the 1 to 8 key words at `keys`
abbrev pub search_keys_at : Data → Option (List SearchKey)
search_keys_at d = get (codes "keys") d >>= as_array >>= search_keys >>= λ keys. if nat_le 1 (length keys) && nat_le (length keys) 8 then Some keys else None

-- the word at `dir` says whether the search goes backward: `prev` does, `next` does not
abbrev pub backward_at : Data → Option Bool
backward_at d = text_at (codes "dir") d >>= λ word.
    if bytes_eq word (codes "next") then Some false else
    if bytes_eq word (codes "prev") then Some true else
    None

-- a text of at most 4,096 bytes, which may be missing
abbrev pub maybe_words : Option Data → Option (Option Chars)
maybe_words None = Some None
maybe_words (Some d) = as_str d >>= λ text. if nat_le (length text) 4096 then Some (Some text) else None

-- how many objects are told at most: from 1 to 100
abbrev pub limit_at : Data → Option ℕ
limit_at d = integer_at (codes "limit") 1 100 d

-- a search: `from` is an object, or 0 where the search begins at no object
abbrev pub search_at : Data → Option SearchRequest
search_at d = do
  origin ← id_or_none_at (codes "from") d
  backward ← backward_at d
  keys ← search_keys_at d
  words ← maybe_words (get (codes "text") d)
  limit ← limit_at d
  Some (record { origin = origin; backward = backward; keys = keys; words = words; limit = limit })
