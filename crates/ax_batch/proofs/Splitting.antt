-- A batch that is handed out, list by list.
use Rattle.std.proofs.Common.{◌≡◌, ℕ, zero, suc, ◌+◌, ◌≤◌, List, [], ◌∷◌, ◌++◌, true, cond, Option, Some, is_some, take, length, Contains, refl, sym, ap, subst, ◌∙◌, eqb, nat_eq, append_assoc, arith}
use Rattle.std.specs.Prelude.{slice_get}
use Rattle.std.specs.Option.{option_or}
use Rattle.std.specs.Ordering.{nat_cmp}
use Rattle.std.specs.Cmp.{nat_cmp_total, eq_by_cmp_equiv}
use Rattle.std.specs.List.{IsDistinct}
use Rattle.std.specs.List.Sorted.{IsPermutation, IsSorted, IsStrictlyIncreasing}
use Rattle.std.specs.Map.{lookup, keys_of, remove_entry}
use Rattle.std.specs.BTreeMap.{is_at}
use Rattle.std.proofs.lemmas.Bool.Decides.{nat_tests}
use Rattle.std.proofs.lemmas.Map.Keys.{IsStrictlyIncreasing-from_distinct, IsDistinct-IsPermutation}
use Rattle.std.proofs.lemmas.Map.Views.{Contains-from_any, list_any-from_Contains}
use Rattle.std.proofs.lemmas.List.Sorted.{Contains-permutation, IsPermutation-sym, IsNonDecreasingBy-from_sort}
use Rattle.ax_base.proofs.Lookups.{finds, finds_is, finds_same, found_is}
use Rattle.ax_base.proofs.Rising.{rising_same}
use Rattle.ax_record.proofs.TreeOf.{is_some-lookup}
use Rattle.ax_batch.specs.declared.fate.Fate.{Fate}
use Rattle.ax_record.specs.declared.record.Record.{Record}
use Rattle.ax_batch.specs.declared.batch.Batch.{Batch}
use Rattle.ax_batch.specs.declared.batch.Change.{Change}
use Rattle.ax_batch.specs.Rooms.{HasListRoom, HasRoom}
use Rattle.ax_batch.specs.declared.merged.Room.{Room}
use Rattle.ax_batch.specs.Rising.{by_rising}
use Rattle.ax_batch.specs.Fates.{Fates, fate_at, made_by, made_of, listed, joint_update, set_fates, merged, batch_of, AreOwn}
use Rattle.std.specs.Prelude.{map}
use Rattle.ax_batch.proofs.Entries.{Rise}
use Rattle.ax_batch.proofs.Orders.{rises, finds_alike}
use Rattle.ax_batch.proofs.Merging.{all_set, merged_is, own_joint}

module _ {X : Type 0} where
  -- one key more
  pub keys_more : (es : List (ℕ × X)) (i : ℕ) (e : ℕ × X) → slice_get es i ≡ Some e → keys_of (take (i + 1) es) ≡ keys_of (take i es) ++ e.0 ∷ []
  keys_more es i e is = let next : i + 1 ≡ suc i = omega arith in ap (λ k. keys_of (take k es)) next ∙ by_place es i is
    where
      by_place : (xs : List (ℕ × X)) (k : ℕ) → slice_get xs k ≡ Some e → keys_of (take (suc k) xs) ≡ keys_of (take k xs) ++ e.0 ∷ []
      by_place [] k at = absurd (cc)
      by_place (x ∷ xs) zero at = (let same : x ≡ e = cc in ap (λ (y : ℕ × X). y.0 ∷ []) same)
      by_place (x ∷ xs) (suc k) at = ap (λ l. x.0 ∷ l) (by_place xs k at)

  tests_alike : (q : ℕ) (es : List (ℕ × X)) → lookup (is_at (nat_cmp q)) es ≡ lookup (nat_eq q) es
  tests_alike q [] = refl
  tests_alike q (e ∷ es) = λ i. cond (finds_is q e.0 i) (Some e.1) (tests_alike q es i)

  key_there : (q : ℕ) (es : List (ℕ × X)) → Contains (keys_of es) q → is_some (lookup (is_at (nat_cmp q)) es) ≡ true
  key_there q es inside = sym (is_some-lookup q es) ∙ list_any-from_Contains (eq_by_cmp_equiv nat_cmp_total) q (keys_of es) inside

  pub there_key : (q : ℕ) (es : List (ℕ × X)) → is_some (lookup (is_at (nat_cmp q)) es) ≡ true → Contains (keys_of es) q
  there_key q es there = Contains-from_any found_is q (keys_of es) (is_some-lookup q es ∙ there)

  -- the keys in any order, sorted, are those of the entries by rising keys
  pub sorted_keys : (es : List (ℕ × X)) (all sorted : List ℕ) → IsDistinct eqb (keys_of es) → all ≡ keys_of es → IsPermutation all sorted → IsSorted nat_cmp sorted → sorted ≡ keys_of (by_rising es)
  sorted_keys es all sorted once is moved ordered =
      rising_same sorted (keys_of (by_rising es)) climbs (rises es)
      (λ n inside. there_key n (by_rising es) (ap is_some (finds_alike n es ∙ sym (tests_alike n es)) ∙ key_there n es (subst (λ l. Contains l n) is (Contains-permutation sorted all n (IsPermutation-sym all sorted moved) inside))))
      (λ n inside. Contains-permutation all sorted n moved (subst (λ l. Contains l n) (sym is) (there_key n es (ap is_some (tests_alike n es ∙ sym (finds_alike n es)) ∙ key_there n (by_rising es) inside))))
    where
      climbs : IsStrictlyIncreasing sorted
      climbs = IsStrictlyIncreasing-from_distinct sorted (IsNonDecreasingBy-from_sort (λ x. x) sorted ordered) (IsDistinct-IsPermutation eqb (λ x y. grind (arith, nat_tests)) all sorted moved (subst (IsDistinct eqb) (sym is) once))

-- the first entry is moved
pub keys_left : (es : Fates) (n : ℕ) (rest : List ℕ) → keys_of es ≡ n ∷ rest → keys_of (remove_entry (is_at (nat_cmp n)) es) ≡ rest
keys_left [] n rest is = absurd (cc)
keys_left (e ∷ es) n rest is =
    (let same : e.0 ≡ n = cc in let later : keys_of es ≡ rest = cc in ap (λ c. keys_of (cond c es (e ∷ remove_entry (is_at (nat_cmp n)) es))) (finds_same n e.0 (sym same)) ∙ later)

made_left : {Y : Type 0} (make : ℕ → Fate → List Y) (es : Fates) (n : ℕ) (rest : List ℕ) → keys_of es ≡ n ∷ rest → made_by make es ≡ made_of make n (fate_at es n) ++ made_by make (remove_entry (is_at (nat_cmp n)) es)
unfolding made_by
made_left make [] n rest is = absurd (cc)
made_left make (e ∷ es) n rest is =
    (let same : e.0 ≡ n = cc in let on : finds n e.0 ≡ true = finds_same n e.0 (sym same) in
    (λ i. make (same i) e.1 ++ made_by make es) ∙ (λ i. made_of make n (cond (sym on i) (Some e.1) (fate_at es n)) ++ made_by make (cond (sym on i) es (e ∷ remove_entry (is_at (nat_cmp n)) es))))

pub moved_on : {Y : Type 0} (make : ℕ → Fate → List Y) (es left : Fates) (n : ℕ) (rest : List ℕ) (old new whole : List Y) → keys_of es ≡ n ∷ rest → left ≡ remove_entry (is_at (nat_cmp n)) es
    → new ≡ old ++ made_of make n (fate_at es n) → old ++ made_by make es ≡ whole → new ++ made_by make left ≡ whole
moved_on make es left n rest old new whole keys is more so_far =
    (λ i. more i ++ made_by make (is i)) ∙ append_assoc old (made_of make n (fate_at es n)) (made_by make (remove_entry (is_at (nat_cmp n)) es)) ∙ ap (λ l. old ++ l) (sym (made_left make es n rest keys)) ∙ so_far

-- what is left to be moved, by the ids that are left
abbrev pub left_by : {Y : Type 0} → (ℕ → Fate → List Y) → Fates → List ℕ → List Y
left_by make es [] = []
left_by make es (n ∷ ns) = made_by make es

pub left_is : {Y : Type 0} (make : ℕ → Fate → List Y) (es : Fates) (ns : List ℕ) → keys_of es ≡ ns → left_by make es ns ≡ made_by make es
unfolding made_by
left_is make [] [] keys = refl
left_is make (e ∷ es) [] keys = absurd (cc)
left_is make es (n ∷ ns) keys = refl

pub left_on : {Y : Type 0} (make : ℕ → Fate → List Y) (es left : Fates) (all : List ℕ) (n : ℕ) (rest : List ℕ) (old new whole : List Y) → keys_of es ≡ all → all ≡ n ∷ rest → left ≡ remove_entry (is_at (nat_cmp n)) es
    → new ≡ old ++ made_of make n (fate_at es n) → old ++ left_by make es all ≡ whole → new ++ left_by make left rest ≡ whole
left_on make es left all n rest old new whole keys first is more so_far =
    ap (λ l. new ++ l) (left_is make left rest (ap keys_of is ∙ keys_left es n rest (keys ∙ first)))
    ∙ moved_on make es left n rest old new whole (keys ∙ first) is more (ap (λ l. old ++ l) (sym (left_is make es all keys)) ∙ so_far)

-- a batch that is merged into one that is kept by its fates
pub taken_in : (es new : Fates) (old now : Option (Option ℕ)) (b : Batch) (us : List (ℕ × Option Fate)) → Rise es → AreOwn es → new ≡ set_fates es us → us ≡ map (joint_update es) (listed b) → now ≡ option_or b.focus old → batch_of new now ≡ merged (batch_of es old) b
taken_in es new old now b us climbs own set is focus =
    (λ i. batch_of ((set ∙ ap (set_fates es) is ∙ all_set es b climbs) i) (focus i)) ∙ sym (merged_is es old b climbs own)

pub own_after : (es new : Fates) (b : Batch) (us : List (ℕ × Option Fate)) → Rise es → AreOwn es → new ≡ set_fates es us → us ≡ map (joint_update es) (listed b) → AreOwn new
own_after es new b us climbs own set is = subst AreOwn (sym (set ∙ ap (set_fates es) is ∙ all_set es b climbs)) (own_joint es b climbs own)

pub room_left : (added : List Record × ℕ) (changed : List Change × ℕ) (removed : List ℕ × ℕ) (all : List ℕ) (n : ℕ) (rest : List ℕ) → all ≡ n ∷ rest → HasListRoom (length all) added changed removed → HasListRoom (length rest + 1) added changed removed
room_left added changed removed all n rest is room = let len : length all ≡ length rest + 1 = ap length is ∙ (omega arith) in subst (λ k. HasListRoom k added changed removed) len room

pub less_room : (m n : ℕ) (r : Room) → m ≤ n → HasRoom n r → HasRoom m r
less_room m n r fewer room = record {
  none = room.none;
  ids = let most = room.ids in omega arith;
  lists = ((let most = room.lists.0 in omega arith), (let most = room.lists.1 in omega arith), (let most = room.lists.2 in omega arith));
}
