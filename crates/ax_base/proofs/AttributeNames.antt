-- Attributes with distinct names.
use Rattle.std.proofs.Common.{◌≡◌, ℕ, zero, suc, ◌+◌, ◌<◌, List, [], ◌∷◌, ◌++◌, length, get_or, set, Bool, true, false, cond, not, Some, None, refl, sym, ap, subst, ◌∙◌, arith}
use Rattle.std.specs.Prelude.{bytes_eq, Option}
use Rattle.std.specs.List.{position, position_from, remove}
use Rattle.std.proofs.lemmas.Cmp.{nat_list_eq_equiv}
use Rattle.std.proofs.lemmas.Slice.Eq.{bytes_eq-Decides}
use Rattle.std.proofs.lemmas.List.Quantifiers.{position-Some}
use Rattle.std.proofs.lemmas.Iterator.Adapters.{position_from-zero}
use Rattle.ax_base.specs.declared.attrs.Attr.{Attr}
use Rattle.ax_base.specs.Characters.{Chars}
use Rattle.ax_base.specs.Attributes.{value_of, with_value, without_name, HasDistinctNames}

-- a name is not found among more attributes, if the one that is added has another name
value_of-push : (name : Chars) (attrs : List Attr) (a : Attr) → value_of name attrs ≡ None → bytes_eq a.name name ≡ false → value_of name (attrs ++ a ∷ []) ≡ None
value_of-push name [] a none apart = ap (λ b. cond b (Some a.value) None) apart
value_of-push name (x ∷ xs) a none apart = go (bytes_eq x.name name) none (value_of-push name xs a)
  where
    go : (b : Bool) → cond b (Some x.value) (value_of name xs) ≡ None → (value_of name xs ≡ None → bytes_eq a.name name ≡ false → value_of name (xs ++ a ∷ []) ≡ None) → cond b (Some x.value) (value_of name (xs ++ a ∷ [])) ≡ None
    go true n rest = cc
    go false n rest = rest n apart

-- two names are tested alike from both sides
pub bytes_eq-flip : (a b : Chars) → bytes_eq a b ≡ bytes_eq b a
bytes_eq-flip a b = nat_list_eq_equiv.symm a b

first_apart : (name value : Chars) (rest : Option Chars) (b : Bool) → cond b (Some value) rest ≡ None → (b ≡ false) × (rest ≡ None)
first_apart name value rest true none = cc
first_apart name value rest false none = (refl, none)

-- one more attribute, of a name that none has
pub distinct-push : (attrs : List Attr) (a : Attr) → HasDistinctNames attrs → value_of a.name attrs ≡ None → HasDistinctNames (attrs ++ a ∷ [])
distinct-push [] a distinct none = (refl, tt)
distinct-push (x ∷ xs) a distinct none =
    let parts : (bytes_eq x.name a.name ≡ false) × (value_of a.name xs ≡ None) = first_apart a.name x.value (value_of a.name xs) (bytes_eq x.name a.name) none in
    (value_of-push x.name xs a distinct.0 (bytes_eq-flip a.name x.name ∙ parts.0), distinct-push xs a distinct.1 parts.1)

-- whether an attribute has a name
abbrev pub is_named : Chars → Attr → Bool
is_named name a = bytes_eq a.name name

named_nowhere : (name : Chars) (n : ℕ) (attrs : List Attr) → position_from (is_named name) n attrs ≡ None → value_of name attrs ≡ None
named_nowhere name n [] none = refl
named_nowhere name n (a ∷ attrs) none = go (is_named name a) (named_nowhere name (n + 1) attrs) none
  where
    go : (b : Bool) → (position_from (is_named name) (n + 1) attrs ≡ None → value_of name attrs ≡ None) → cond b (Some n) (position_from (is_named name) (n + 1) attrs) ≡ None → cond b (Some a.value) (value_of name attrs) ≡ None
    go true rest none = cc
    go false rest none = rest none

-- where no place has the name, there is no value
pub no_value : (name : Chars) (attrs : List Attr) → None ≡ position (is_named name) attrs → value_of name attrs ≡ None
no_value name attrs none = named_nowhere name 0 attrs (sym (none ∙ position_from-zero (is_named name) attrs))

-- where there is no value, it is added at the end
pub with_value-none : (name value : Chars) (attrs : List Attr) → value_of name attrs ≡ None → with_value name value attrs ≡ attrs ++ record { name = name; value = value } ∷ []
with_value-none name value [] none = refl
with_value-none name value (a ∷ attrs) none = go (is_named name a) (with_value-none name value attrs) none
  where
    go : (b : Bool) → (value_of name attrs ≡ None → with_value name value attrs ≡ attrs ++ record { name = name; value = value } ∷ [])
        → cond b (Some a.value) (value_of name attrs) ≡ None → cond b (record { name = a.name; value = value } ∷ attrs) (a ∷ with_value name value attrs) ≡ a ∷ attrs ++ record { name = name; value = value } ∷ []
    go true rest none = cc
    go false rest none = ap (λ l. a ∷ l) (rest none)

-- what is known of the first place of a name
abbrev FirstAt : Chars → List Attr → ℕ → Attr → Type 0
FirstAt name attrs i d = (i < length attrs) × (is_named name (get_or attrs i d) ≡ true) × ((k : ℕ) → k < i → is_named name (get_or attrs k d) ≡ false)

at_tail : (name : Chars) (a : Attr) (attrs : List Attr) (i : ℕ) (d : Attr) → FirstAt name (a ∷ attrs) (suc i) d → (is_named name a ≡ false) × FirstAt name attrs i d
at_tail name a attrs i d (low, passes, before) = (before 0 (omega arith), (omega arith, passes, λ k below. before (suc k) (omega arith)))

-- where a place has the name, its value is replaced
with_value_at : (name value : Chars) (attrs : List Attr) (i : ℕ) (d : Attr) → FirstAt name attrs i d → with_value name value attrs ≡ set attrs i (record { name = (get_or attrs i d).name; value = value })
with_value_at name value [] i d (low, passes, before) = absurd (omega arith)
with_value_at name value (a ∷ attrs) zero d (low, passes, before) = ap (λ b. cond b (record { name = a.name; value = value } ∷ attrs) (a ∷ with_value name value attrs)) passes
with_value_at name value (a ∷ attrs) (suc i) d first =
    let rest = at_tail name a attrs i d first in
    ap (λ b. cond b (record { name = a.name; value = value } ∷ attrs) (a ∷ with_value name value attrs)) rest.0 ∙ ap (λ l. a ∷ l) (with_value_at name value attrs i d rest.1)

pub with_value-found : (name value : Chars) (attrs : List Attr) (i : ℕ) (d : Attr) → Some i ≡ position (is_named name) attrs → with_value name value attrs ≡ set attrs i (record { name = (get_or attrs i d).name; value = value })
with_value-found name value attrs i d found = with_value_at name value attrs i d (position-Some (is_named name) attrs i d (sym found))

-- a value of another name stays
value_of-with_value : (other name value : Chars) (attrs : List Attr) → bytes_eq name other ≡ false → value_of other attrs ≡ None → value_of other (with_value name value attrs) ≡ None
value_of-with_value other name value [] apart none = ap (λ b. cond b (Some value) None) apart
value_of-with_value other name value (a ∷ attrs) apart none =
    let parts : (bytes_eq a.name other ≡ false) × (value_of other attrs ≡ None) = first_apart other a.value (value_of other attrs) (bytes_eq a.name other) none in
    go (is_named name a) parts (value_of-with_value other name value attrs apart parts.1)
  where
    go : (b : Bool) → (bytes_eq a.name other ≡ false) × (value_of other attrs ≡ None) → value_of other (with_value name value attrs) ≡ None → value_of other (cond b (record { name = a.name; value = value } ∷ attrs) (a ∷ with_value name value attrs)) ≡ None
    go true parts rest = ap (λ b. cond b (Some value) (value_of other attrs)) parts.0 ∙ parts.1
    go false parts rest = ap (λ b. cond b (Some a.value) (value_of other (with_value name value attrs))) parts.0 ∙ rest

pub distinct-with_value : (name value : Chars) (attrs : List Attr) → HasDistinctNames attrs → HasDistinctNames (with_value name value attrs)
distinct-with_value name value [] distinct = (refl, tt)
distinct-with_value name value (a ∷ attrs) distinct = go (is_named name a) refl (distinct-with_value name value attrs distinct.1)
  where
    go : (b : Bool) → is_named name a ≡ b → HasDistinctNames (with_value name value attrs) → HasDistinctNames (cond b (record { name = a.name; value = value } ∷ attrs) (a ∷ with_value name value attrs))
    go true same rest = distinct
    go false apart rest = (value_of-with_value a.name name value attrs (bytes_eq-flip name a.name ∙ apart) distinct.0, rest)

-- without a name that is nowhere
pub without_name-none : (name : Chars) (attrs : List Attr) → value_of name attrs ≡ None → attrs ≡ without_name name attrs
without_name-none name [] none = refl
without_name-none name (a ∷ attrs) none = go (is_named name a) (without_name-none name attrs) none
  where
    go : (b : Bool) → (value_of name attrs ≡ None → attrs ≡ without_name name attrs) → cond b (Some a.value) (value_of name attrs) ≡ None → a ∷ attrs ≡ cond (not b) (a ∷ without_name name attrs) (without_name name attrs)
    go true rest none = cc
    go false rest none = ap (λ l. a ∷ l) (rest none)

-- names that are equal have one value
value_of_same : (x y : Chars) (attrs : List Attr) → bytes_eq x y ≡ true → value_of x attrs ≡ value_of y attrs
value_of_same x y attrs same = ap (λ n. value_of n attrs) ((bytes_eq-Decides x y).0 same)

without_name_at : (name : Chars) (attrs : List Attr) (i : ℕ) (d : Attr) → HasDistinctNames attrs → FirstAt name attrs i d → remove attrs i ≡ without_name name attrs
without_name_at name [] i d distinct (low, passes, before) = absurd (omega arith)
without_name_at name (a ∷ attrs) zero d distinct (low, passes, before) =
    without_name-none name attrs (sym (value_of_same a.name name attrs passes) ∙ distinct.0)
    ∙ ap (λ b. cond (not b) (a ∷ without_name name attrs) (without_name name attrs)) (sym passes)
without_name_at name (a ∷ attrs) (suc i) d distinct first =
    let rest = at_tail name a attrs i d first in
    ap (λ l. a ∷ l) (without_name_at name attrs i d distinct.1 rest.1) ∙ ap (λ b. cond (not b) (a ∷ without_name name attrs) (without_name name attrs)) (sym rest.0)

-- to take out the place of a name takes out the name
pub without_name-found : (name : Chars) (attrs : List Attr) (i : ℕ) (d : Attr) → HasDistinctNames attrs → Some i ≡ position (is_named name) attrs → remove attrs i ≡ without_name name attrs
without_name-found name attrs i d distinct found = without_name_at name attrs i d distinct (position-Some (is_named name) attrs i d (sym found))

value_of-without_name : (other name : Chars) (attrs : List Attr) → value_of other attrs ≡ None → value_of other (without_name name attrs) ≡ None
value_of-without_name other name [] none = refl
value_of-without_name other name (a ∷ attrs) none =
    let parts : (bytes_eq a.name other ≡ false) × (value_of other attrs ≡ None) = first_apart other a.value (value_of other attrs) (bytes_eq a.name other) none in
    go (is_named name a) parts (value_of-without_name other name attrs parts.1)
  where
    go : (b : Bool) → (bytes_eq a.name other ≡ false) × (value_of other attrs ≡ None) → value_of other (without_name name attrs) ≡ None → value_of other (cond (not b) (a ∷ without_name name attrs) (without_name name attrs)) ≡ None
    go true parts rest = rest
    go false parts rest = ap (λ b. cond b (Some a.value) (value_of other (without_name name attrs))) parts.0 ∙ rest

pub distinct-without_name : (name : Chars) (attrs : List Attr) → HasDistinctNames attrs → HasDistinctNames (without_name name attrs)
distinct-without_name name [] distinct = tt
distinct-without_name name (a ∷ attrs) distinct = go (is_named name a) (distinct-without_name name attrs distinct.1)
  where
    go : (b : Bool) → HasDistinctNames (without_name name attrs) → HasDistinctNames (cond (not b) (a ∷ without_name name attrs) (without_name name attrs))
    go true rest = rest
    go false rest = (value_of-without_name a.name name attrs distinct.0, rest)

-- what a write at the place of a name comes to
pub value_replaced : (name value : Chars) (items now : List Attr) → items ≡ now → (i : ℕ) (x : Attr) → x ≡ get_or items i x → Some i ≡ position (is_named name) now → set items i (record { name = x.name; value = value }) ≡ with_value name value now
value_replaced name value items now view i x read found =
    let there : x ≡ get_or now i x = read ∙ ap (λ xs. get_or xs i x) view in
    (λ k. set (view k) i (record { name = (there k).name; value = value })) ∙ sym (with_value-found name value now i x found)

pub distinct_replaced : (name value : Chars) (items now : List Attr) → items ≡ now → HasDistinctNames items → (i : ℕ) (x : Attr) → x ≡ get_or items i x → Some i ≡ position (is_named name) now → HasDistinctNames (set items i (record { name = x.name; value = value }))
distinct_replaced name value items now view distinct i x read found =
    subst HasDistinctNames (sym (value_replaced name value items now view i x read found)) (distinct-with_value name value now (subst HasDistinctNames view distinct))

-- what taking out the place of a name comes to
pub name_removed : (name : Chars) (items now : List Attr) → items ≡ now → HasDistinctNames items → (i : ℕ) (d : Attr) → Some i ≡ position (is_named name) now → remove items i ≡ without_name name now
name_removed name items now view distinct i d found =
    ap (λ xs. remove xs i) view ∙ without_name-found name now i d (subst HasDistinctNames view distinct) found

pub distinct_removed : (name : Chars) (items now : List Attr) → items ≡ now → HasDistinctNames items → (i : ℕ) (d : Attr) → Some i ≡ position (is_named name) now → HasDistinctNames (remove items i)
distinct_removed name items now view distinct i d found =
    subst HasDistinctNames (sym (name_removed name items now view distinct i d found)) (distinct-without_name name now (subst HasDistinctNames view distinct))
