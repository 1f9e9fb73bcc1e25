-- Rewriting one entry, and several.
use Rattle.std.proofs.Common.{◌≡◌, ℕ, ◌+◌, ◌<◌, ◌||◌, List, length, take, get_or, Bool, true, false, cond, Option, Some, None, is_some, Contains, refl, sym, ap, subst, ◌∙◌, eqb, arith}
use Rattle.std.specs.Prelude.{nat_eq}
use Rattle.std.specs.List.{list_any}
use Rattle.std.specs.Option.{option_map}
use Rattle.std.specs.Ordering.{nat_cmp}
use Rattle.std.specs.Map.{keys_of, set_value}
use Rattle.std.specs.BTreeMap.{is_at}
use Rattle.std.specs.Cmp.{nat_eq_equiv}
use Rattle.std.proofs.lemmas.Bool.{eqb-true}
use Rattle.std.proofs.lemmas.Map.{keys-set_value}
use Rattle.std.proofs.lemmas.Map.Views.{Contains-from_any}
use Rattle.std.proofs.lemmas.List.{get_or_default, get_or-take, length-take-le}
use Rattle.std.proofs.lemmas.List.Folds.{list_any_more}
use Rattle.ax_base.specs.Trees.{HasNoRepeats}
use Rattle.ax_base.proofs.Lookups.{finds, finds_is, found_is, lookup-set_value_at}
use Rattle.ax_dom.specs.declared.cell.NodeEntry.{NodeEntry}
use Rattle.ax_dom.specs.NodeMaps.{entry_at}
use Rattle.ax_dom.specs.Rewrites.{IsRewritten, rebased, rebased_among}

kept-map : (o : Option NodeEntry) → o ≡ option_map (λ x. x) o
kept-map None = refl
kept-map (Some x) = refl

composed-map : (F G : NodeEntry → NodeEntry) (o : Option NodeEntry) → option_map G (option_map F o) ≡ option_map (λ x. G (F x)) o
composed-map F G None = refl
composed-map F G (Some x) = refl

-- nothing is rewritten
pub rewritten_nothing : (es : List (ℕ × NodeEntry)) (F : ℕ → NodeEntry → NodeEntry) → ((q : ℕ) (s : NodeEntry) → entry_at es q ≡ Some s → F q s ≡ s) → IsRewritten es es F
rewritten_nothing es F same = record { same_ids = refl; each = λ q. go q (entry_at es q) refl }
  where
    go : (q : ℕ) (o : Option NodeEntry) → entry_at es q ≡ o → o ≡ option_map (F q) o
    go q None is = refl
    go q (Some s) is = ap (λ x. Some x) (sym (same q s is))

-- one entry is written
pub rewritten_at : (es fs : List (ℕ × NodeEntry)) (k : ℕ) (G : NodeEntry → NodeEntry) (s : NodeEntry) → Some s ≡ entry_at es k → fs ≡ set_value (is_at (nat_cmp k)) es (G s) → IsRewritten es fs (λ q x. cond (eqb k q) (G x) x)
rewritten_at es fs k G s found written = record {
  same_ids = ap keys_of written ∙ keys-set_value (is_at (nat_cmp k)) es (G s);
  each = λ q. ap (λ xs. entry_at xs q) written ∙ lookup-set_value_at q k (G s) es (ap is_some (sym found)) ∙ go q (finds k q) refl;
}
  where
    go : (q : ℕ) (x : Bool) → finds k q ≡ x → cond x (Some (G s)) (entry_at es q) ≡ option_map (λ x. cond (eqb k q) (G x) x) (entry_at es q)
    go q true same =
        let here : entry_at es q ≡ Some s = ap (entry_at es) (sym (found_is k q same)) ∙ sym found in
        ap (λ b. Some (cond b (G s) s)) (sym (sym (finds_is k q) ∙ same)) ∙ ap (option_map (λ x. cond (eqb k q) (G x) x)) (sym here)
    go q false other = kept-map (entry_at es q) ∙ (λ i. option_map (λ x. cond ((sym other ∙ finds_is k q) i) (G x) x) (entry_at es q))

-- one entry that is not there
pub rewritten_missing : (es : List (ℕ × NodeEntry)) (k : ℕ) (G : NodeEntry → NodeEntry) → None ≡ entry_at es k → IsRewritten es es (λ q x. cond (eqb k q) (G x) x)
rewritten_missing es k G none = rewritten_nothing es (λ q x. cond (eqb k q) (G x) x) (λ q s found. go q s found (eqb k q) refl)
  where
    go : (q : ℕ) (s : NodeEntry) → entry_at es q ≡ Some s → (x : Bool) → eqb k q ≡ x → cond x (G s) s ≡ s
    go q s found true same = let gone : None ≡ Some s = none ∙ ap (entry_at es) (eqb-true k q same) ∙ found in cc
    go q s found false other = refl

-- the same, where it is said of what comes out
pub rewritten_none : (es fs : List (ℕ × NodeEntry)) (k : ℕ) (G : NodeEntry → NodeEntry) → None ≡ entry_at es k → fs ≡ es → IsRewritten es fs (λ q x. cond (eqb k q) (G x) x)
rewritten_none es fs k G none is = subst (λ gs. IsRewritten es gs (λ q x. cond (eqb k q) (G x) x)) (sym is) (rewritten_missing es k G none)

-- one after the other
pub rewritten_then : (es fs gs : List (ℕ × NodeEntry)) (F G : ℕ → NodeEntry → NodeEntry) → IsRewritten es fs F → IsRewritten fs gs G → IsRewritten es gs (λ q x. G q (F q x))
rewritten_then es fs gs F G first second = record {
  same_ids = second.same_ids ∙ first.same_ids;
  each = λ q. second.each q ∙ ap (option_map (G q)) (first.each q) ∙ composed-map (F q) (G q) (entry_at es q);
}

-- the same by a function that is alike
pub rewritten_alike : (es fs : List (ℕ × NodeEntry)) (F G : ℕ → NodeEntry → NodeEntry) → ((q : ℕ) (s : NodeEntry) → F q s ≡ G q s) → IsRewritten es fs F → IsRewritten es fs G
rewritten_alike es fs F G alike was = record { same_ids = was.same_ids; each = λ q. was.each q ∙ (λ i. option_map (λ s. alike q s i) (entry_at es q)) }

-- one more of some nodes is re-based
pub rebased_more : (es fs gs : List (ℕ × NodeEntry)) (ids : List ℕ) (i x base top : ℕ) → HasNoRepeats ids → i < length ids → x ≡ get_or ids i x → IsRewritten es fs (rebased_among (take i ids) base top) → IsRewritten fs gs (λ q s. cond (eqb x q) (rebased base top s) s)
    → IsRewritten es gs (rebased_among (take (i + 1) ids) base top)
rebased_more es fs gs ids i x base top once low is first second =
    rewritten_alike es gs (λ q s. cond (eqb x q) (rebased base top (rebased_among (take i ids) base top q s)) (rebased_among (take i ids) base top q s)) (rebased_among (take (i + 1) ids) base top)
    (λ q s. go q s (list_any (nat_eq q) (take i ids)) (eqb x q) refl refl ∙ ap (λ b. cond b (rebased base top s) s) (sym (more q)))
    (rewritten_then es fs gs (rebased_among (take i ids) base top) (λ q s. cond (eqb x q) (rebased base top s) s) first second)
  where
    here : get_or ids i 0 ≡ x
    here = get_or_default ids i 0 x low ∙ sym is

    flip : (a b : ℕ) → eqb a b ≡ eqb b a
    flip a b = nat_eq_equiv.symm a b

    more : (q : ℕ) → list_any (nat_eq q) (take (i + 1) ids) ≡ (list_any (nat_eq q) (take i ids) || eqb x q)
    more q = list_any_more (nat_eq q) ids i 0 low ∙ ap (λ y. list_any (nat_eq q) (take i ids) || eqb q y) here ∙ ap (λ b. list_any (nat_eq q) (take i ids) || b) (flip q x)

    -- it is none of those before
    fresh : (q : ℕ) → list_any (nat_eq q) (take i ids) ≡ true → eqb x q ≡ true → ⊥
    fresh q among same =
        let place : Contains (take i ids) q = Contains-from_any eqb-true q (take i ids) among in
        let size : length (take i ids) ≡ i = length-take-le i ids (omega arith) in
        let k : ℕ = place.0 in
        let below : k < i = omega arith in
        let at : get_or ids k 0 ≡ q = sym (get_or-take i ids k 0 below) ∙ get_or_default (take i ids) k 0 q place.1 ∙ place.2 in
        let one : k ≡ i = once k i (omega arith) low (at ∙ sym (eqb-true x q same) ∙ sym here) in
        omega arith

    go : (q : ℕ) (s : NodeEntry) (a b : Bool) → list_any (nat_eq q) (take i ids) ≡ a → eqb x q ≡ b → cond b (rebased base top (cond a (rebased base top s) s)) (cond a (rebased base top s) s) ≡ cond (a || b) (rebased base top s) s
    go q s true true among same = absurd (fresh q among same)
    go q s true false among same = refl
    go q s false true among same = refl
    go q s false false among same = refl
