-- Which nodes are among some.
use Rattle.std.proofs.Common.{◌≡◌, ◌⊎◌, inl, inr, ℕ, zero, suc, ◌+◌, ◌<◌, ◌≤◌, ◌||◌, List, [], ◌∷◌, ◌++◌, length, take, drop, get_or, Bool, true, false, refl, sym, ap, ◌∙◌, arith}
use Rattle.std.specs.Prelude.{nat_eq}
use Rattle.std.proofs.lemmas.List.{drop_more}
use Rattle.std.proofs.lemmas.List.Folds.{list_any_more}
use Rattle.std.proofs.lemmas.Bool.Decides.{eqb_tells}
use Rattle.ax_dom.specs.Among.{is_in}

-- a node is among some, or not
pub either : (b : Bool) → (b ≡ false) ⊎ (b ≡ true)
either true = inr refl
either false = inl refl

pub same_is_in : (n : ℕ) → nat_eq n n ≡ true
same_is_in n = elim (eqb_tells n n) [ inl (on, _) ↦ on | inr (_, apart) ↦ absurd (apart refl) ]

-- one more at the end
pub is_in_push : (ns : List ℕ) (x n : ℕ) → is_in (ns ++ x ∷ []) n ≡ (is_in ns n || nat_eq n x)
is_in_push [] x n = go (nat_eq n x)
  where
    go : (b : Bool) → (b || false) ≡ b
    go true = refl
    go false = refl
is_in_push (y ∷ ys) x n = ap (λ b. nat_eq n y || b) (is_in_push ys x n) ∙ assoc (nat_eq n y) (is_in ys n) (nat_eq n x)
  where
    assoc : (a b c : Bool) → (a || (b || c)) ≡ ((a || b) || c)
    assoc true b c = refl
    assoc false b c = refl

-- what is among the first few and one more
pub taken_cases : (ns : List ℕ) (i x n : ℕ) → i < length ns → x ≡ get_or ns i x → is_in (take (i + 1) ns) n ≡ true → (is_in (take i ns) n ≡ true) ⊎ (n ≡ x)
taken_cases ns i x n low is on = go (is_in (take i ns) n) refl
  where
    go : (b : Bool) → is_in (take i ns) n ≡ b → (is_in (take i ns) n ≡ true) ⊎ (n ≡ x)
    go true before = inl before
    go false off = elim (eqb_tells n x) [
      | inl (_, same) ↦ inr same
      | inr (apart, _) ↦ absurd (wrong apart)
    ]
      where
        wrong : nat_eq n x ≡ false → ⊥
        wrong apart = let all : false ≡ true = sym (ap (λ b. b || nat_eq n (get_or ns i x)) off ∙ ap (nat_eq n) (sym is) ∙ apart) ∙ sym (list_any_more (nat_eq n) ns i x low) ∙ on in cc

-- what is among some is among the first few, or behind them
pub parted : (ns : List ℕ) (i n : ℕ) → is_in ns n ≡ (is_in (take i ns) n || is_in (drop i ns) n)
parted [] zero n = refl
parted [] (suc i) n = refl
parted (y ∷ ys) zero n = refl
parted (y ∷ ys) (suc i) n = ap (λ b. nat_eq n y || b) (parted ys i n) ∙ assoc (nat_eq n y) (is_in (take i ys) n) (is_in (drop i ys) n)
  where
    assoc : (a b c : Bool) → (a || (b || c)) ≡ ((a || b) || c)
    assoc true b c = refl
    assoc false b c = refl

-- at which place one of some stands
pub place_of : (ns : List ℕ) (n : ℕ) → is_in ns n ≡ true → (i : ℕ) × (i < length ns) × (n ≡ get_or ns i n)
place_of [] n on = absurd (wrong on)
  where
    wrong : false ≡ true → ⊥
    wrong e = cc
place_of (y ∷ ys) n on = elim (eqb_tells n y) [
  | inl (_, same) ↦ (0, omega arith, same)
  | inr (apart, _) ↦ (let r = place_of ys n (sym (ap (λ b. b || is_in ys n) apart) ∙ on) in (suc r.0, omega arith, r.2))
]

-- what stands among the first few is among some
pub taken_in : (ns : List ℕ) (i n : ℕ) → is_in (take i ns) n ≡ true → is_in ns n ≡ true
taken_in ns i n on = parted ns i n ∙ ap (λ b. b || is_in (drop i ns) n) on

pub dropped_in : (ns : List ℕ) (i n : ℕ) → is_in (drop i ns) n ≡ true → is_in ns n ≡ true
dropped_in ns i n on = parted ns i n ∙ ap (λ b. is_in (take i ns) n || b) on ∙ go (is_in (take i ns) n)
  where
    go : (b : Bool) → (b || true) ≡ true
    go true = refl
    go false = refl

-- what stands among the first few stands among more
pub taken_less : (ns : List ℕ) (i j n : ℕ) → i ≤ j → is_in (take i ns) n ≡ true → is_in (take j ns) n ≡ true
taken_less ns zero j n le on = absurd (wrong on)
  where
    wrong : false ≡ true → ⊥
    wrong e = cc
taken_less [] (suc i) zero n le on = absurd (omega arith)
taken_less [] (suc i) (suc j) n le on = on
taken_less (y ∷ ys) (suc i) zero n le on = absurd (omega arith)
taken_less (y ∷ ys) (suc i) (suc j) n le on = go (taken_less ys i j n (omega arith)) (eqb_tells n y)
  where
    go : (is_in (take i ys) n ≡ true → is_in (take j ys) n ≡ true) → ((nat_eq n y ≡ true) × (n ≡ y)) ⊎ ((nat_eq n y ≡ false) × (n ≡ y → ⊥)) → (nat_eq n y || is_in (take j ys) n) ≡ true
    go rest which = elim which [
      | inl (same, _) ↦ ap (λ b. b || is_in (take j ys) n) same
      | inr (apart, _) ↦ ap (λ b. b || is_in (take j ys) n) apart ∙ rest (sym (ap (λ b. b || is_in (take i ys) n) apart) ∙ on)
    ]

-- the node at a place stands among those from there on
pub at_place : (ns : List ℕ) (i x : ℕ) → i < length ns → x ≡ get_or ns i x → drop i ns ≡ x ∷ drop (i + 1) ns
at_place ns i x low is = drop_more ns i x low ∙ ap (λ y. y ∷ drop (i + 1) ns) (sym is)
