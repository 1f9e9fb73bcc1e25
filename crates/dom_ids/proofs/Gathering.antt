-- What a walk on the ways to some nodes takes.
use Rattle.std.proofs.Common.{◌≡◌, ◌⊎◌, inl, inr, ℕ, zero, suc, ◌+◌, ◌<◌, ◌≤◌, List, [], ◌∷◌, ◌++◌, take, get_or, length, Bool, true, false, cond, ◌||◌, Contains, refl, sym, ap, subst, ◌∙◌, arith, append_assoc, append-nil}
use Rattle.std.specs.Prelude.{filter, nat_eq}
use Rattle.std.specs.List.{flat_map}
use Rattle.std.proofs.lemmas.Bool.{false≢true, eq-eqb, eqb-true}
use Rattle.std.proofs.lemmas.Bool.Decides.{eqb_tells}
use Rattle.std.proofs.lemmas.List.{take_all}
use Rattle.ax_base.specs.Document.{Document, has, root, order, children}
use Rattle.ax_base.specs.Trees.{IsTree, HasNoRepeats}
use Rattle.ax_base.proofs.Joins.{Contains-cases}
use Rattle.ax_base.proofs.Membership.{Contains-head, Contains-tail}
use Rattle.ax_base.proofs.Repeats.{head_apart, tail_no_repeats}
use Rattle.ax_dom.specs.Among.{is_in}
use Rattle.ax_dom.specs.Subtrees.{subtree}
use Rattle.ax_dom.proofs.Copied.{in_order}
use Rattle.ax_dom.proofs.Subtrees.{subtree_unfolds, within_parent, subtree_once}
use Rattle.dom_ids.specs.Ordering.{AreWaysTo, in_order as ordered}
use Rattle.dom_ids.proofs.Changes.{one_more}
use Rattle.dom_ids.proofs.Staying.{filter_both, filter_no}

-- no way leads to what has none of the nodes
pub none_below : (d : Document) (t : IsTree d) (ns ways : List ℕ) → AreWaysTo d ns ways → (n : ℕ) → false ≡ is_in ways n → filter (is_in ns) (subtree d n) ≡ []
none_below d t ns ways far n off = filter_no (is_in ns) (subtree d n) (λ q inside. none q inside (is_in ns q) refl)
  where
    up : (l q : ℕ) → t.level q ≤ l → Contains (subtree d n) q → is_in ways q ≡ true → is_in ways n ≡ true
    up zero q low inside on = elim (within_parent d t n q inside) [
      | inl is ↦ ap (is_in ways) (sym is) ∙ on
      | inr (p, child, above) ↦ (let e = t.deeper p q child in absurd (omega arith))
    ]
    up (suc l) q low inside on = elim (within_parent d t n q inside) [
      | inl is ↦ ap (is_in ways) (sym is) ∙ on
      | inr (p, child, above) ↦ (let e = t.deeper p q child in up l p (omega arith) above (far.closed p q child on))
    ]

    none : (q : ℕ) → Contains (subtree d n) q → (b : Bool) → is_in ns q ≡ b → b ≡ false
    none q inside false is = refl
    none q inside true is = absurd (false≢true (off ∙ up (t.level q) q (omega arith) inside (far.all q is)))

pub nothing_gathered : (d : Document) (t : IsTree d) (ns ways out : List ℕ) → AreWaysTo d ns ways → (n : ℕ) → false ≡ is_in ways n → out ≡ out ++ filter (is_in ns) (subtree d n)
nothing_gathered d t ns ways out far n off = sym (append-nil out) ∙ ap (λ l. out ++ l) (sym (none_below d t ns ways far n off))

joined_more : (f : ℕ → List ℕ) (xs : List ℕ) (x : ℕ) → flat_map f (xs ++ x ∷ []) ≡ flat_map f xs ++ f x
joined_more f [] x = append-nil (f x)
joined_more f (y ∷ ys) x = ap (λ l. f y ++ l) (joined_more f ys x) ∙ sym (append_assoc (f y) (flat_map f ys) (f x))

-- what was gathered below a node and its children so far, one more child, and all of them
pub more_gathered : (d : Document) (ns old out more : List ℕ) (n i x : ℕ) (cs : List ℕ) → i < length cs → x ≡ get_or cs i x → out ≡ old ++ filter (is_in ns) (n ∷ flat_map (subtree d) (take i cs)) → more ≡ out ++ filter (is_in ns) (subtree d x)
    → more ≡ old ++ filter (is_in ns) (n ∷ flat_map (subtree d) (take (i + 1) cs))
more_gathered d ns old out more n i x cs low is far adds =
    adds ∙ ap (λ l. l ++ filter (is_in ns) (subtree d x)) far
    ∙ append_assoc old (filter (is_in ns) (n ∷ flat_map (subtree d) (take i cs))) (filter (is_in ns) (subtree d x))
    ∙ ap (λ l. old ++ l) (sym (filter_both (is_in ns) (n ∷ flat_map (subtree d) (take i cs)) (subtree d x)) ∙ ap (λ l. filter (is_in ns) (n ∷ l)) (sym (ap (flat_map (subtree d)) (one_more cs i x low is) ∙ joined_more (subtree d) (take i cs) x)))

pub all_gathered : (d : Document) (t : IsTree d) (ns old out : List ℕ) (n i : ℕ) (cs : List ℕ) → cs ≡ children d n → length cs ≤ i → out ≡ old ++ filter (is_in ns) (n ∷ flat_map (subtree d) (take i cs)) → out ≡ old ++ filter (is_in ns) (subtree d n)
all_gathered d t ns old out n i cs same past far =
    far ∙ ap (λ l. old ++ filter (is_in ns) (n ∷ flat_map (subtree d) l)) (take_all i cs past ∙ same)
    ∙ ap (λ l. old ++ filter (is_in ns) l) (sym (subtree_unfolds d t n))

-- another list of the same nodes
pub ordered_same : (d : Document) (ns ms : List ℕ) → ((n : ℕ) → is_in ns n ≡ is_in ms n) → ordered d ns ≡ ordered d ms
ordered_same d ns ms same = go (order d)
  where
    go : (xs : List ℕ) → filter (is_in ns) xs ≡ filter (is_in ms) xs
    go [] = refl
    go (x ∷ xs) = λ i. cond (same x i) (x ∷ go xs i) (go xs i)

pub ways_same : (d : Document) (ns ms ways : List ℕ) → ((n : ℕ) → is_in ms n ≡ is_in ns n) → AreWaysTo d ns ways → AreWaysTo d ms ways
ways_same d ns ms ways same far = record { all = λ n on. far.all n (sym (same n) ∙ on); closed = far.closed }

-- one node alone is in order
only : (n : ℕ) (xs : List ℕ) → HasNoRepeats xs → Contains xs n → filter (is_in (n ∷ [])) xs ≡ n ∷ []
only n [] once inside = absurd (omega arith)
only n (x ∷ xs) once inside = elim (Contains-cases n x xs inside) [
  | inl is ↦ (λ i. cond (lone x n is i) (x ∷ rest is i) (rest is i)) ∙ ap (λ k. k ∷ []) is
  | inr more ↦ (λ i. cond (apart more i) (x ∷ only n xs (tail_no_repeats x xs once) more i) (only n xs (tail_no_repeats x xs once) more i))
]
  where
    lone : (a b : ℕ) → a ≡ b → is_in (b ∷ []) a ≡ true
    lone a b is = ap (λ k. k || false) (eq-eqb a b is)

    off : (q : ℕ) → (q ≡ n → ⊥) → is_in (n ∷ []) q ≡ false
    off q differs = elim (eqb_tells q n) [ inl (_, same) ↦ absurd (differs same) | inr (none, _) ↦ ap (λ k. k || false) none ]

    rest : x ≡ n → filter (is_in (n ∷ [])) xs ≡ []
    rest is = filter_no (is_in (n ∷ [])) xs (λ q among. off q (λ same. head_apart x xs once (subst (Contains xs) (same ∙ sym is) among)))

    apart : Contains xs n → is_in (n ∷ []) x ≡ false
    apart more = off x (λ same. head_apart x xs once (subst (Contains xs) (sym same) more))

pub few_in_order : (d : Document) (t : IsTree d) (ns : List ℕ) → length ns ≤ 1 → ((n : ℕ) → Contains ns n → has d n ≡ true) → ns ≡ ordered d ns
few_in_order d t [] few known = sym (filter_no (is_in []) (order d) (λ q inside. refl))
few_in_order d t (n ∷ []) few known = sym (only n (order d) (subtree_once d t root) (in_order d t (t.level n) n (omega arith) (known n (Contains-head n []))))
few_in_order d t (n ∷ m ∷ ns) few known = absurd (omega arith)
