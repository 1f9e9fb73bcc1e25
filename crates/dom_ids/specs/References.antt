-- The texts by which elements name one another.
use Rattle.std.specs.Prelude.{ℕ, Bool, ◌||◌, ◌+◌, bytes_eq, codes, if◌then◌else◌, take, length, List, [], ◌∷◌, ◌++◌, Option, Some, None}
use Rattle.std.specs.List.{list_any}
use Rattle.ax_base.specs.declared.body.Body.{Body}
use Rattle.ax_base.specs.declared.body.Body.TheVariants.{Element, Words}
use Rattle.ax_base.specs.Attributes.{value_of}
use Rattle.ax_base.specs.Characters.{Chars, tokens}
use Rattle.ax_base.specs.Document.{attr, text_of}
use Rattle.ax_base.specs.declared.limits.TheConstants.{MAX_REFERENCES}

-- what there is, as a list
abbrev pub listed : {A : Type 0} → Option A → List A
listed None = []
listed (Some x) = x ∷ []

-- whether a text is among some
abbrev pub is_text_in : List Chars → Chars → Bool
is_text_in xs x = list_any (bytes_eq x) xs

-- the first eight tokens of an attribute
abbrev pub first_eight : Chars → Body → List Chars
first_eight name b = take MAX_REFERENCES (tokens (text_of name b))

-- whether the first eight tokens of `aria-labelledby` or of `aria-describedby` have the text (WAI-ARIA 1.2, section 6.6)
abbrev pub names_text : Chars → Body → Bool
names_text x b = is_text_in (first_eight (codes "aria-labelledby") b) x || is_text_in (first_eight (codes "aria-describedby") b) x

-- the `for` of a `label` (HTML, section 4.10.4)
abbrev pub label_for : Body → Option Chars
label_for (Words chars runs) = None
label_for (Element tag attrs frame) = if bytes_eq tag (codes "label") then value_of (codes "for") attrs else None

-- whether an attribute is one by which elements are named, or name others
abbrev pub is_tie : Chars → Bool
is_tie name = bytes_eq name (codes "id") || (bytes_eq name (codes "for") || (bytes_eq name (codes "aria-labelledby") || bytes_eq name (codes "aria-describedby")))

-- the texts by which a node is named, or a `label` names one: its `id`, and the `for` of a `label`
abbrev pub carried : Body → List Chars
carried b = listed (attr (codes "id") b) ++ listed (label_for b)

-- how many tokens a node refers by: the first eight of each attribute, and the `for` of a `label`
abbrev pub reference_tokens : Body → ℕ
reference_tokens b =
    length (first_eight (codes "aria-labelledby") b)
    + length (first_eight (codes "aria-describedby") b)
    + length (listed (label_for b))
