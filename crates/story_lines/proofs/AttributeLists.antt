-- The attributes that the members of an object are.
use Rattle.std.proofs.Common.{◌≡◌, List, [], ◌∷◌, ◌++◌, Bool, true, false, cond, Option, Some, None, option_and_then, refl, ap, sym, subst, ◌∙◌, string_bytes, String, Less, is_eq}
use Rattle.std.specs.declared.alloc.Global.{Global}
use Rattle.std.specs.Prelude.{bytes_eq}
use Rattle.std.specs.List.{AllByRecursion}
use Rattle.std.specs.List.Sorted.{IsStrictlySortedBy}
use Rattle.std.specs.Map.{keys_of}
use Rattle.std.specs.String.{string_cmp}
use Rattle.std.proofs.lemmas.Map.Text.{is_eq-slice_cmp}
use Rattle.std.proofs.lemmas.Option.{same_Some}
use Rattle.serde_json.specs.Data.{Data, Members, member}
use Rattle.serde_json.specs.declared.value.Value.{Value}
use Rattle.serde_json.specs.View.{view, members_view}
use Rattle.ax_base.specs.declared.attrs.Attr.{Attr}
use Rattle.ax_base.specs.Attributes.{value_of, HasDistinctNames}
use Rattle.ax_base.specs.Characters.{Chars}
use Rattle.ax_base.proofs.AttributeNames.{bytes_eq-flip}
use Rattle.story_lines.specs.Attributes.{attribute, attributes}
use Rattle.story_lines.proofs.Gathered.{after, after_one}

abbrev pub Entry : Type 0
Entry = String Global × Value

-- a member that is an attribute goes to those that are done
pub next_one : (done : List Attr) (name : Chars) (value : Data) (ms : Members) (a : Attr) → attribute name value ≡ Some a → after done (attributes (member name value ms)) ≡ after (done ++ a ∷ []) (attributes ms)
next_one done name value ms a is = rw is (after_one done a (attributes ms))

-- where one is none, there are none
pub no_more : (done : List Attr) (name : Chars) (value : Data) (ms : Members) → attribute name value ≡ None → after done (attributes (member name value ms)) ≡ None
no_more done name value ms is = rw is refl

-- the first attribute of members that are attributes, and the rest
split : (first : Option Attr) (rest : Option (List Attr)) (attrs : List Attr) → option_and_then (λ a. option_and_then (λ more. Some (a ∷ more)) rest) first ≡ Some attrs
    → (a : Attr) × (more : List Attr) × (first ≡ Some a) × (rest ≡ Some more) × (a ∷ more ≡ attrs)
split None rest attrs e = cc
split (Some a) None attrs e = cc
split (Some a) (Some more) attrs e = (a, more, refl, refl, same_Some (a ∷ more) attrs e)

named : (name : Chars) (text : Option Chars) (b : Bool) (a : Attr) → option_and_then (λ t. cond b (Some (record { name = name; value = t })) None) text ≡ Some a → a.name ≡ name
named name None b a e = cc
named name (Some t) true a e = sym (ap (λ (x : Attr). x.name) (same_Some (record { name = name; value = t }) a e))
named name (Some t) false a e = cc

-- a name that no key is, is no attribute's
apart : (name : Chars) (es : List Entry) → AllByRecursion (λ k. bytes_eq (string_bytes k) name ≡ false) (keys_of es) → (attrs : List Attr) → attributes (members_view es) ≡ Some attrs → value_of name attrs ≡ None
apart name [] h attrs e = let P : List Attr → Type 0 = λ xs. value_of name xs ≡ None in subst P (same_Some [] attrs e) refl
apart name (x ∷ es) h attrs e =
    let p = split (attribute (string_bytes x.0) (view x.1)) (attributes (members_view es)) attrs e in
    let other : bytes_eq p.0.name name ≡ false = ap (λ n. bytes_eq n name) (named (string_bytes x.0) _ _ p.0 p.2) ∙ h.0 in
    let P : List Attr → Type 0 = λ xs. value_of name xs ≡ None in
    subst P p.4 (rw other (apart name es h.1 p.1 p.3))

-- keys that are above one are other keys
others : (k : String Global) (ks : List (String Global)) → AllByRecursion (λ y. string_cmp k y ≡ Less) ks → AllByRecursion (λ y. bytes_eq (string_bytes y) (string_bytes k) ≡ false) ks
others k [] h = tt
others k (y ∷ ks) h = (bytes_eq-flip (string_bytes y) (string_bytes k) ∙ sym (is_eq-slice_cmp (string_bytes k) (string_bytes y)) ∙ ap is_eq h.0, others k ks h.1)

-- the attributes of a map's entries have distinct names
pub distinct : (es : List Entry) → IsStrictlySortedBy string_cmp (keys_of es) → (attrs : List Attr) → attributes (members_view es) ≡ Some attrs → HasDistinctNames attrs
unfolding IsStrictlySortedBy
distinct [] h attrs e = subst HasDistinctNames (same_Some [] attrs e) tt
distinct (x ∷ es) h attrs e =
    let p = split (attribute (string_bytes x.0) (view x.1)) (attributes (members_view es)) attrs e in
    let none : value_of p.0.name p.1 ≡ None = rw (named (string_bytes x.0) _ _ p.0 p.2) (apart (string_bytes x.0) es (others x.0 (keys_of es) h.0) p.1 p.3) in
    subst HasDistinctNames p.4 (none, distinct es h.1 p.1 p.3)
