-- What the climbs from the nodes that a rule picks take.
use Rattle.std.proofs.Common.{◌≡◌, ◌⊎◌, inl, inr, ℕ, ◌+◌, ◌≤◌, ◌<◌, List, [], ◌∷◌, ◌++◌, length, take, get_or, Bool, true, false, cond, ◌||◌, Option, Some, None, Contains, refl, sym, ap, subst, ◌∙◌, arith}
use Rattle.std.specs.Prelude.{codes, nat_eq}
use Rattle.std.specs.List.{list_any}
use Rattle.std.specs.List.Sorted.{IsStrictlyIncreasing}
use Rattle.std.specs.Option.{option_map_or}
use Rattle.std.proofs.lemmas.Bool.{false≢true, or_left, or_right, eq-eqb}
use Rattle.std.proofs.lemmas.Option.{same_Some}
use Rattle.ax_dom.specs.declared.cell.Cell.{Cell}
use Rattle.ax_dom.specs.NodeMaps.{cell_of, cell_at}
use Rattle.std.proofs.lemmas.List.{take_all, take_more}
use Rattle.std.proofs.lemmas.List.Elements.{Contains-push_cases}
use Rattle.ax_base.specs.Characters.{Chars}
use Rattle.ax_base.specs.Document.{Document, body, has, ids, order, attr, has_id}
use Rattle.ax_base.specs.Trees.{IsTree}
use Rattle.ax_base.specs.AccessibleNames.{is_label_for}
use Rattle.ax_base.proofs.Places.{among_ids}
use Rattle.ax_dom.proofs.Copied.{in_order}
use Rattle.dom_ids.specs.References.{names_text}
use Rattle.dirty_set.specs.Reach.{ties_to, is_label_of}
use Rattle.dom_ids.specs.Index.{carriers, namers, labels}
use Rattle.dirty_set.proofs.Edits.{kept_in}
use Rattle.dirty_set.proofs.Firsts.{kept_cases}
use Rattle.dirty_set.proofs.Tests.{any_at, found}
use Rattle.dirty_set.specs.NodeSets.{mem, IsUpClosed, KeepsAll}
use Rattle.dirty_set.specs.Near.{ComesFrom, HasKnownOf}
use Rattle.dirty_set.specs.Reaching.{HasAllThat, OnlyFrom, IsTiedTo, IsTiedToSome, IsLabelOf, IsLabelOfSome}

-- a rule that picks more
pub only_more : (d : Document) (P Q : ℕ → Type 0) (old new : List ℕ) → ((q : ℕ) → P q → Q q) → OnlyFrom d P old new → OnlyFrom d Q old new
only_more d P Q old new more only n on = elim (only n on) [ inl was ↦ inl was | inr (q, there, picked, inside) ↦ inr (q, there, more q picked, inside) ]

-- one climb after another
pub only_then : (d : Document) (P : ℕ → Type 0) (old mid new : List ℕ) → OnlyFrom d P old mid → OnlyFrom d P mid new → OnlyFrom d P old new
only_then d P old mid new first second n on = elim (second n on) [ inl was ↦ first n was | inr from ↦ inr from ]

pub only_listed : (d : Document) (P : ℕ → Type 0) (some : List ℕ) (old new : List ℕ) → ((q : ℕ) → Contains some q → P q) → ((n : ℕ) → mem new n ≡ true → (mem old n ≡ true) ⊎ ComesFrom d some n) → OnlyFrom d P old new
only_listed d P some old new picks only n on = elim (only n on) [ inl was ↦ inl was | inr (q, among, there, inside) ↦ inr (q, there, picks q among, inside) ]

-- what a text ties are the three lists of an index
module _ (d : Document) (t : IsTree d) (x : Chars) where
  pub carrier_tied : (q : ℕ) → Contains (carriers d x) q → IsTiedTo d x q
  carrier_tied q among = or_left (has_id x (body d q)) (names_text x (body d q) || is_label_for x (body d q)) (kept_cases (λ n. has_id x (body d n)) (ids d) q among).1

  pub namer_tied : (q : ℕ) → Contains (namers d x) q → IsTiedTo d x q
  namer_tied q among = or_right (has_id x (body d q)) (names_text x (body d q) || is_label_for x (body d q)) (or_left (names_text x (body d q)) (is_label_for x (body d q)) (kept_cases (λ n. names_text x (body d n)) (ids d) q among).1)

  pub label_tied : (q : ℕ) → Contains (labels d x) q → IsTiedTo d x q
  label_tied q among = or_right (has_id x (body d q)) (names_text x (body d q) || is_label_for x (body d q)) (or_right (names_text x (body d q)) (is_label_for x (body d q)) (kept_cases (λ n. is_label_for x (body d n)) (order d) q among).1)

  pub label_listed : (q : ℕ) → has d q ≡ true → is_label_for x (body d q) ≡ true → Contains (labels d x) q
  label_listed q there on = kept_in (λ n. is_label_for x (body d n)) (order d) q (in_order d t (t.level q) q (omega arith) there) on

  pub tied_listed : (q : ℕ) → has d q ≡ true → IsTiedTo d x q → Contains (carriers d x) q ⊎ (Contains (namers d x) q ⊎ Contains (labels d x) q)
  tied_listed q there tied = go (has_id x (body d q)) (names_text x (body d q)) refl refl tied
    where
      go : (a b : Bool) → has_id x (body d q) ≡ a → names_text x (body d q) ≡ b → (a || (b || is_label_for x (body d q))) ≡ true → Contains (carriers d x) q ⊎ (Contains (namers d x) q ⊎ Contains (labels d x) q)
      go true b carries names on = inl (kept_in (λ n. has_id x (body d n)) (ids d) q (among_ids d.nodes q there) carries)
      go false true carries names on = inr (inl (kept_in (λ n. names_text x (body d n)) (ids d) q (among_ids d.nodes q there) names))
      go false false carries names on = inr (inr (label_listed q there on))

  -- the three climbs of a text
  pub text_all : (a b c : List ℕ) → HasKnownOf d (carriers d x) a → KeepsAll a b → HasKnownOf d (namers d x) b → KeepsAll b c → HasKnownOf d (labels d x) c → HasAllThat d (IsTiedTo d x) c
  text_all a b c first keep second keep_on third n there tied = elim (tied_listed n there tied) [
    | inl one ↦ keep_on n (keep n (first n one there))
    | inr more ↦ (elim more [ inl two ↦ keep_on n (second n two there) | inr last ↦ third n last there ])
  ]

  pub text_only : (old a b c : List ℕ) → ((n : ℕ) → mem a n ≡ true → (mem old n ≡ true) ⊎ ComesFrom d (carriers d x) n) → ((n : ℕ) → mem b n ≡ true → (mem a n ≡ true) ⊎ ComesFrom d (namers d x) n)
      → ((n : ℕ) → mem c n ≡ true → (mem b n ≡ true) ⊎ ComesFrom d (labels d x) n) → OnlyFrom d (IsTiedTo d x) old c
  text_only old a b c first second third =
      only_then d (IsTiedTo d x) old a c (only_listed d (IsTiedTo d x) (carriers d x) old a carrier_tied first)
      (only_then d (IsTiedTo d x) a b c (only_listed d (IsTiedTo d x) (namers d x) a b namer_tied second) (only_listed d (IsTiedTo d x) (labels d x) b c label_tied third))

-- the first so many of some texts
some_more : (d : Document) (xs : List Chars) (i : ℕ) (x : Chars) → i < length xs → x ≡ get_or xs i x → (n : ℕ) → IsTiedToSome d (take (i + 1) xs) n → IsTiedToSome d (take i xs) n ⊎ IsTiedTo d x n
some_more d xs i x low is n on =
    let r = found (ties_to (body d n)) (take (i + 1) xs) on in
    elim (Contains-push_cases (take i xs) x r.0 (subst (λ l. Contains l r.0) (take_more xs i x low ∙ ap (λ y. take i xs ++ y ∷ []) (sym is)) r.1)) [
      | inl old ↦ inl (any_at (ties_to (body d n)) (take i xs) r.0 old r.2)
      | inr new ↦ inr (ap (ties_to (body d n)) new ∙ r.2)
    ]

-- what a loop over texts has done
pub record TiedSoFar (d : Document) (old now : List ℕ) (first steps i : ℕ) (xs : List Chars) : Type 0 where
  pub rises : IsStrictlyIncreasing now
  pub counted : steps + length old ≤ first + length now
  pub closed : IsUpClosed d now
  pub all : HasAllThat d (IsTiedToSome d (take i xs)) now
  pub keeps : KeepsAll old now
  pub only : OnlyFrom d (IsTiedToSome d xs) old now

pub tied_first : (d : Document) (old : List ℕ) (steps : ℕ) (xs : List Chars) → IsUpClosed d old → IsStrictlyIncreasing old → TiedSoFar d old old steps steps 0 xs
tied_first d old steps xs closed rising = record { rises = rising; counted = omega arith; closed = closed; all = λ n there none. absurd (false≢true none); keeps = λ n on. on; only = λ n on. inl on }

module _ (d : Document) (old now : List ℕ) (first steps i : ℕ) (x : Chars) (xs : List Chars) (low : i < length xs) (is : x ≡ get_or xs i x) (far : TiedSoFar d old now first steps i xs)
    (after : List ℕ) (last : ℕ) (keeps : KeepsAll now after) (only : OnlyFrom d (IsTiedTo d x) now after) (counted : last + length now ≤ steps + length after) where
  among : (q : ℕ) → IsTiedTo d x q → IsTiedToSome d xs q
  among q tied = any_at (ties_to (body d q)) xs x (i, low, sym is) tied

  pub tied_keeps : KeepsAll old after
  tied_keeps n on = keeps n (far.keeps n on)

  pub tied_only : OnlyFrom d (IsTiedToSome d xs) old after
  tied_only = only_then d (IsTiedToSome d xs) old now after far.only (only_more d (IsTiedTo d x) (IsTiedToSome d xs) now after among only)

  pub tied_counted : last + length old ≤ first + length after
  tied_counted = let c = far.counted in omega arith

  pub tied_more : IsUpClosed d after → HasAllThat d (IsTiedTo d x) after → IsStrictlyIncreasing after → TiedSoFar d old after first last (i + 1) xs
  tied_more closed all rising = record {
    rises = rising;
    counted = tied_counted;
    closed = closed;
    all = λ n there on. elim (some_more d xs i x low is n on) [ inl earlier ↦ keeps n (far.all n there earlier) | inr here ↦ all n there here ];
    keeps = tied_keeps;
    only = tied_only;
  }

pub tied_all : (d : Document) (old now : List ℕ) (first steps i : ℕ) (xs : List Chars) → length xs ≤ i → TiedSoFar d old now first steps i xs → HasAllThat d (IsTiedToSome d xs) now
tied_all d old now first steps i xs past far n there on = far.all n there (ap (list_any (ties_to (body d n))) (take_all i xs past) ∙ on)

-- what a loop over members has done
pub record LabelsSoFar (d : Document) (old now : List ℕ) (first steps i : ℕ) (vs : List ℕ) : Type 0 where
  pub rises : IsStrictlyIncreasing now
  pub counted : steps + length old ≤ first + length now + i
  pub closed : IsUpClosed d now
  pub all : HasAllThat d (IsLabelOfSome d (take i vs)) now
  pub keeps : KeepsAll old now
  pub only : OnlyFrom d (IsLabelOfSome d vs) old now

pub labels_first : (d : Document) (old : List ℕ) (steps : ℕ) (vs : List ℕ) → IsUpClosed d old → IsStrictlyIncreasing old → LabelsSoFar d old old steps steps 0 vs
labels_first d old steps vs closed rising = record { rises = rising; counted = omega arith; closed = closed; all = λ n there none. nothing n none; keeps = λ n on. on; only = λ n on. inl on }
  where
    nothing : (n : ℕ) → IsLabelOfSome d [] n → mem old n ≡ true
    nothing n (v, inside, on) = absurd (omega arith)

module _ (d : Document) (old now : List ℕ) (first steps i x : ℕ) (vs : List ℕ) (low : i < length vs) (is : x ≡ get_or vs i x) (far : LabelsSoFar d old now first steps i vs)
    (after : List ℕ) (last : ℕ) (keeps : KeepsAll now after) (only : OnlyFrom d (IsLabelOf d x) now after) (counted : last + length now ≤ steps + length after + 1) where
  pub labels_keeps : KeepsAll old after
  labels_keeps n on = keeps n (far.keeps n on)

  pub labels_only : OnlyFrom d (IsLabelOfSome d vs) old after
  labels_only = only_then d (IsLabelOfSome d vs) old now after far.only (only_more d (IsLabelOf d x) (IsLabelOfSome d vs) now after (λ q on. (x, (i, low, sym is), on)) only)

  more_read : last + length old ≤ first + length after + (i + 1)
  more_read = let c = far.counted in omega arith

  pub labels_counted : last + length old ≤ first + length after + length vs
  labels_counted = let c = far.counted in omega arith

  pub labels_more : IsUpClosed d after → HasAllThat d (IsLabelOf d x) after → IsStrictlyIncreasing after → LabelsSoFar d old after first last (i + 1) vs
  labels_more closed all rising = record {
    rises = rising;
    counted = more_read;
    closed = closed;
    all = λ n there some. elim (Contains-push_cases (take i vs) x some.0 (subst (λ l. Contains l some.0) (take_more vs i x low ∙ ap (λ y. take i vs ++ y ∷ []) (sym is)) some.1)) [
      | inl earlier ↦ keeps n (far.all n there (some.0, earlier, some.2))
      | inr here ↦ all n there (subst (λ v. IsLabelOf d v n) (sym here) some.2)
    ];
    keeps = labels_keeps;
    only = labels_only;
  }

pub labels_all : (d : Document) (old now : List ℕ) (first steps i : ℕ) (vs : List ℕ) → length vs ≤ i → LabelsSoFar d old now first steps i vs → HasAllThat d (IsLabelOfSome d vs) now
labels_all d old now first steps i vs past far n there some = far.all n there (some.0, subst (λ l. Contains l some.0) (sym (take_all i vs past)) some.1, some.2)

pub focus_is : (o : Option ℕ) (id : ℕ) → Some id ≡ o → option_map_or (nat_eq id) o false ≡ true
focus_is None id is = cc
focus_is (Some f) id is = eq-eqb id f (same_Some id f is)

-- the labels of a node, by its id
module _ (d : Document) (t : IsTree d) (v : ℕ) (cell : Cell) (found_cell : Some cell ≡ cell_at d v) (x : Chars) (own : Some x ≡ attr (codes "id") cell.body) (some : List ℕ) (list : some ≡ labels d x) where
  body_is : (o : Bool) → has d v ≡ o → Some cell ≡ cond o (Some (cell_of d v)) None → cell.body ≡ body d v
  body_is true there is = ap (λ (c : Cell). c.body) (same_Some cell (cell_of d v) is)
  body_is false there is = cc

  own_is : attr (codes "id") (body d v) ≡ Some x
  own_is = ap (attr (codes "id")) (sym (body_is (has d v) refl found_cell)) ∙ sym own

  label_same : (q : ℕ) → is_label_of (body d q) (body d v) ≡ is_label_for x (body d q)
  label_same q = ap (λ o. option_map_or (λ y. is_label_for y (body d q)) o false) own_is

  pub own_all : (ks : List ℕ) → HasKnownOf d some ks → HasAllThat d (IsLabelOf d v) ks
  own_all ks known n there on = known n (subst (λ l. Contains l n) (sym list) (label_listed d t x n there (sym (label_same n) ∙ on))) there

  pub own_only : (old new : List ℕ) → ((n : ℕ) → mem new n ≡ true → (mem old n ≡ true) ⊎ ComesFrom d some n) → OnlyFrom d (IsLabelOf d v) old new
  own_only old new only = only_listed d (IsLabelOf d v) some old new (λ q among. label_same q ∙ (kept_cases (λ n. is_label_for x (body d n)) (order d) q (subst (λ l. Contains l q) list among)).1) only

pub known_as : (d : Document) (some list ks : List ℕ) → some ≡ list → HasKnownOf d some ks → HasKnownOf d list ks
known_as d some list ks same known = subst (λ l. HasKnownOf d l ks) same known

pub only_as : (d : Document) (some list old new : List ℕ) → some ≡ list → ((n : ℕ) → mem new n ≡ true → (mem old n ≡ true) ⊎ ComesFrom d some n) → (n : ℕ) → mem new n ≡ true → (mem old n ≡ true) ⊎ ComesFrom d list n
only_as d some list old new same only = subst (λ l. (n : ℕ) → mem new n ≡ true → (mem old n ≡ true) ⊎ ComesFrom d l n) same only
