-- What stands in a line: keys, whole numbers within bounds, texts and names.
use Rattle.std.specs.Prelude.{ℕ, ◌^◌, ◌-◌, ◌&&◌, ◌||◌, ◌==◌, ℤ, pos, negsuc, List, [], ◌∷◌, length, codes, Bool, true, false, nat_le, nat_lt, if◌then◌else◌, Option, Some, None, option_map, option_and_then, unwrap_or, bytes_eq}
use Rattle.std.specs.Char.{is_ascii_lowercase, is_ascii_digit}
use Rattle.std.specs.List.{list_any, list_all}
use Rattle.std.specs.Option.{option_map_or}
use Rattle.serde_json.specs.Data.{Data, Members, no_members, member}
use Rattle.serde_json.specs.Find.{get, as_object, as_bool, as_str, as_number, as_i64}
use Rattle.ax_base.specs.Characters.{Chars}

infixl 10 ◌>>=◌
-- what comes of a value, where there is one
abbrev pub ◌>>=◌ : {A B : Type 0} → Option A → (A → Option B) → Option B
o >>= f = option_and_then f o

infixr 5 ◌or_else◌
-- the first that is there
abbrev pub ◌or_else◌ : {A : Type 0} → Option A → Option A → Option A
None or_else p = p
Some x or_else p = Some x

-- each key is one of these
abbrev pub only_keys : List Chars → Members → Bool
only_keys allowed no_members = true
only_keys allowed (member key value ms) = list_any (λ a. bytes_eq a key) allowed && only_keys allowed ms

-- an object with no other keys than these
abbrev pub has_only : List Chars → Data → Bool
has_only allowed d = option_map_or (only_keys allowed) (as_object d) false

-- a number within bounds
abbrev pub between : ℕ → ℕ → ℤ → Option ℕ
between low high (pos n) = if nat_le low n && nat_le n high then Some n else None
between low high (negsuc n) = None

-- a value that is a whole number within bounds: one that is written with a point or an exponent is none, and neither is `-0`
abbrev pub integer : ℕ → ℕ → Data → Option ℕ
integer low high d = as_number d >>= as_i64 >>= between low high

-- the whole number at a key
abbrev pub integer_at : Chars → ℕ → ℕ → Data → Option ℕ
integer_at key low high d = get key d >>= integer low high

-- the greatest id of a node
abbrev pub max_id : ℕ
max_id = 2 ^ 31 - 1

-- the id of a node at a key
abbrev pub id_at : Chars → Data → Option ℕ
id_at key d = integer_at key 1 max_id d

-- the id at a key that may be missing
abbrev pub maybe_id : Option Data → Option (Option ℕ)
maybe_id None = Some None
maybe_id (Some d) = option_map Some (integer 1 max_id d)

-- no node where the number is 0
abbrev pub id_or_none : ℕ → Option ℕ
id_or_none n = if n == 0 then None else Some n

-- the id at a key, or none where 0 stands there
abbrev pub id_or_none_at : Chars → Data → Option (Option ℕ)
id_or_none_at key d = option_map id_or_none (integer_at key 0 max_id d)

-- a number from -most to most
abbrev pub around_zero : ℕ → ℤ → Option ℤ
around_zero most (pos n) = if nat_le n most then Some (pos n) else None
around_zero most (negsuc n) = if nat_lt n most then Some (negsuc n) else None

-- a number from -2^31 to 2^31 - 1
abbrev pub signed : ℤ → Option ℤ
signed (pos n) = if nat_lt n (2 ^ 31) then Some (pos n) else None
signed (negsuc n) = if nat_lt n (2 ^ 31) then Some (negsuc n) else None

-- such a whole number at a key
abbrev pub signed_at : Chars → Data → Option ℤ
signed_at key d = get key d >>= as_number >>= as_i64 >>= signed

-- `true` stands at the key
abbrev pub has_true : Chars → Data → Bool
has_true key d = unwrap_or (get key d >>= as_bool) false

-- the word is the one key, and `true` stands there
abbrev pub is_word : Chars → Data → Bool
is_word word d = has_only (word ∷ []) d && has_true word d

-- the greatest number of a moment
abbrev pub max_moment : ℕ
max_moment = 2 ^ 30 - 1

-- the word is the one key, and a moment stands there
abbrev pub moment_by : Chars → Data → Option ℕ
moment_by word d = if has_only (word ∷ []) d then integer_at word 0 max_moment d else None

-- the text at a key
abbrev pub text_at : Chars → Data → Option Chars
text_at key d = get key d >>= as_str

-- the first byte is a letter from `a` to `z`
abbrev pub begins_with_letter : Chars → Bool
begins_with_letter [] = false
begins_with_letter (b ∷ bytes) = is_ascii_lowercase b

-- a byte of a tag: `a` to `z`, a digit or `-`
abbrev pub is_tag_byte : ℕ → Bool
is_tag_byte b = is_ascii_lowercase b || is_ascii_digit b || b == 45

-- a byte of an attribute's name: one of a tag, or `_`, `:` or `.`
abbrev pub is_name_byte : ℕ → Bool
is_name_byte b = is_tag_byte b || b == 95 || b == 58 || b == 46

-- the tag of an element: 1 to 32 bytes, the first a letter
abbrev pub is_tag : Chars → Bool
is_tag t = begins_with_letter t && nat_le (length t) 32 && list_all is_tag_byte t

-- the name of an attribute: 1 to 64 bytes, the first a letter
abbrev pub is_attribute_name : Chars → Bool
is_attribute_name t = begins_with_letter t && nat_le (length t) 64 && list_all is_name_byte t

-- the tag at the key `tag`
abbrev pub tag_at : Data → Option Chars
tag_at d = text_at (codes "tag") d >>= λ t. if is_tag t then Some t else None

-- the attribute's name at the key `name`
abbrev pub name_at : Data → Option Chars
name_at d = text_at (codes "name") d >>= λ t. if is_attribute_name t then Some t else None
