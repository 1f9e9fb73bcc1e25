-- Fates of objects by rising id, and what two batches do that come one after the other.
use Rattle.std.proofs.Common.{◌≡◌, inl, inr, ℕ, List, [], ◌∷◌, ◌++◌, map, Bool, true, false, cond, ◌||◌, Option, Some, None, is_some, refl, sym, ap, subst, ◌∙◌, arith}
use Rattle.std.specs.Prelude.{flat_map}
use Rattle.std.specs.Option.{option_or}
use Rattle.std.specs.List.{list_any, AllByRecursion}
use Rattle.std.specs.List.Sorted.{IsStrictlySortedBy, IsStrictlyIncreasing}
use Rattle.std.specs.declared.cmp.Ordering.TheVariants.{Less}
use Rattle.std.specs.Ordering.{nat_cmp, is_eq}
use Rattle.std.specs.Map.{lookup, keys_of}
use Rattle.std.specs.BTreeMap.{is_at, insert_entry}
use Rattle.std.proofs.lemmas.Option.{same_Some}
use Rattle.std.proofs.lemmas.Map.Keys.{IsStrictlyIncreasing-from_sorted, sorted_from_strictly_increasing}
use Rattle.ax_base.proofs.Lookups.{finds, finds_same, found_is, finds_tells, lookup-insert_entry}
use Rattle.ax_base.proofs.SameLookups.{same_lookups}
use Rattle.ax_record.specs.declared.record.Record.{Record}
use Rattle.ax_record.specs.Differences.{with_props}
use Rattle.ax_record.proofs.TreeOf.{is_some-lookup}
use Rattle.ax_batch.specs.declared.batch.Batch.{Batch}
use Rattle.ax_batch.specs.declared.batch.Change.{Change}
use Rattle.ax_batch.specs.declared.fate.Fate.{Fate}
use Rattle.ax_batch.specs.declared.fate.Fate.TheVariants.{Added, Changed, Removed}
use Rattle.ax_batch.specs.Fates.{joint_fate, joint_props, all_props, Fates, fate_at, put_all, removals, changes, additions, listed, fates, added_by, changed_by, removed_by, made_by, batch_of, entry_of, joint_fates, merged, no_change, IsOwn, AreOwn, set_fate, set_fates, joint_update}
use Rattle.ax_batch.proofs.Entries.{Rise, rise_with, rise_without, lookup_without}
use Rattle.ax_batch.proofs.TakingOver.{kept_id}

pub finds_flip : (a b : ℕ) → finds a b ≡ finds b a
finds_flip a b = elim (finds_tells a b) [
  | inl (at, is) ↦ at ∙ sym (finds_same b a (sym is))
  | inr (off, apart) ↦ off ∙ elim (finds_tells b a) [ inl (at, is) ↦ absurd (apart (sym is)) | inr (away, other) ↦ sym away ]
]

module _ {X : Type 0} where
  abbrev at : List (ℕ × X) → ℕ → Option X
  at es q = lookup (is_at (nat_cmp q)) es

  pub rise_put : (es xs : List (ℕ × X)) → Rise es → Rise (put_all es xs)
  rise_put es [] rises = rises
  rise_put es (x ∷ xs) rises = rise_put (insert_entry nat_cmp es x.0 x.1) xs (rise_with x.0 x.1 es rises)

  -- the last value that stands at a key
  pub last_of : ℕ → List (ℕ × X) → Option X
  last_of q [] = None
  last_of q (x ∷ xs) = option_or (last_of q xs) (cond (finds q x.0) (Some x.1) None)

  put_is : (xs es : List (ℕ × X)) (q : ℕ) → at (put_all es xs) q ≡ option_or (last_of q xs) (at es q)
  unfolding last_of
  put_is [] es q = refl
  put_is (x ∷ xs) es q = put_is xs (insert_entry nat_cmp es x.0 x.1) q ∙ ap (option_or (last_of q xs)) (lookup-insert_entry q x.0 x.1 es) ∙ over (last_of q xs) (finds q x.0)
    where
      over : (o : Option X) (b : Bool) → option_or o (cond b (Some x.1) (at es q)) ≡ option_or (option_or o (cond b (Some x.1) None)) (at es q)
      over (Some y) b = refl
      over None true = refl
      over None false = refl

  none_last : (q : ℕ) (xs : List (ℕ × X)) → last_of q xs ≡ None → at xs q ≡ None
  unfolding last_of
  none_last q [] none = refl
  none_last q (x ∷ xs) none = go (last_of q xs) (finds q x.0) refl none (none_last q xs)
    where
      go : (o : Option X) (b : Bool) → last_of q xs ≡ o → option_or o (cond b (Some x.1) None) ≡ None → (last_of q xs ≡ None → at xs q ≡ None) → cond b (Some x.1) (at xs q) ≡ None
      go (Some y) b is none rest = absurd (cc)
      go None true is none rest = absurd (cc)
      go None false is none rest = rest is

  pub last_both : (q : ℕ) (xs ys : List (ℕ × X)) → last_of q (xs ++ ys) ≡ option_or (last_of q ys) (last_of q xs)
  unfolding last_of
  last_both q [] ys = or_none (last_of q ys)
    where
      or_none : (o : Option X) → o ≡ option_or o None
      or_none None = refl
      or_none (Some x) = refl
  last_both q (x ∷ xs) ys = ap (λ o. option_or o (cond (finds q x.0) (Some x.1) None)) (last_both q xs ys) ∙ over (last_of q ys) (last_of q xs)
    where
      over : (o p : Option X) → option_or (option_or o p) (cond (finds q x.0) (Some x.1) None) ≡ option_or o (option_or p (cond (finds q x.0) (Some x.1) None))
      over (Some y) p = refl
      over None p = refl

  -- a key below all others is not among them
  absent : (k : ℕ) (xs : List (ℕ × X)) → AllByRecursion (λ y. nat_cmp k y ≡ Less) (keys_of xs) → at xs k ≡ None
  absent k [] all = refl
  absent k (x ∷ xs) all = ap (λ c. cond (is_eq c) (Some x.1) (at xs k)) all.0 ∙ absent k xs all.1

  abbrev Sorts : List (ℕ × X) → Type 0
  Sorts es = IsStrictlySortedBy nat_cmp (keys_of es)

  pub first_absent : (e : ℕ × X) (es : List (ℕ × X)) → Sorts (e ∷ es) → at es e.0 ≡ None
  unfolding IsStrictlySortedBy
  first_absent e es sorts = absent e.0 es sorts.0

  pub rest_sorts : (e : ℕ × X) (es : List (ℕ × X)) → Sorts (e ∷ es) → Sorts es
  unfolding IsStrictlySortedBy
  rest_sorts e es sorts = sorts.1

  -- what is found among the entries that are made of some keys
  module _ (g : ℕ → Option X) where
    abbrev made : List ℕ → List (ℕ × X)
    made ns = flat_map (λ n. entry_of n (g n)) ns

    pub made_is : (q : ℕ) (ns : List ℕ) → at (made ns) q ≡ cond (list_any (finds q) ns) (g q) None
    made_is q [] = refl
    made_is q (n ∷ ns) = elim (finds_tells q n) [
      | inl (on, is) ↦ hit (g n) refl on is (made_is q ns)
      | inr (off, apart) ↦ miss (g n) off ∙ made_is q ns ∙ (λ i. cond (sym off i || list_any (finds q) ns) (g q) None)
    ]
      where
        hit : (o : Option X) → g n ≡ o → finds q n ≡ true → q ≡ n → at (made ns) q ≡ cond (list_any (finds q) ns) (g q) None → at (entry_of n o ++ made ns) q ≡ cond (finds q n || list_any (finds q) ns) (g q) None
        hit (Some x) has on is rest = (λ i. cond (on i) (Some x) (at (made ns) q)) ∙ sym has ∙ sym (ap g is) ∙ (λ i. cond (sym on i || list_any (finds q) ns) (g q) None)
        hit None has on is rest = rest ∙ none (list_any (finds q) ns) ∙ sym (ap g is ∙ has) ∙ (λ i. cond (sym on i || list_any (finds q) ns) (g q) None)
          where
            none : (c : Bool) → cond c (g q) None ≡ None
            none true = ap g is ∙ has
            none false = refl

        miss : (o : Option X) → finds q n ≡ false → at (entry_of n o ++ made ns) q ≡ at (made ns) q
        miss (Some x) off = λ i. cond (off i) (Some x) (at (made ns) q)
        miss None off = refl

    pub last_made : (q : ℕ) (ns : List ℕ) → last_of q (made ns) ≡ cond (list_any (finds q) ns) (g q) None
    unfolding last_of
    last_made q [] = refl
    last_made q (n ∷ ns) = elim (finds_tells q n) [
      | inl (on, is) ↦ hit (g n) refl on is (last_made q ns)
      | inr (off, apart) ↦ miss (g n) off ∙ last_made q ns ∙ (λ i. cond (sym off i || list_any (finds q) ns) (g q) None)
    ]
      where
        either : (c : Bool) (o p : Option X) → p ≡ o → option_or (cond c p None) o ≡ o
        either true o None e = refl
        either true o (Some x) e = e
        either false o p e = refl

        hit : (o : Option X) → g n ≡ o → finds q n ≡ true → q ≡ n → last_of q (made ns) ≡ cond (list_any (finds q) ns) (g q) None → last_of q (entry_of n o ++ made ns) ≡ cond (finds q n || list_any (finds q) ns) (g q) None
        hit (Some x) has on is rest = (λ i. option_or (rest i) (cond (on i) (Some x) None)) ∙ either (list_any (finds q) ns) (Some x) (g q) (ap g is ∙ has) ∙ sym has ∙ sym (ap g is) ∙ (λ i. cond (sym on i || list_any (finds q) ns) (g q) None)
        hit None has on is rest = rest ∙ none (list_any (finds q) ns) ∙ sym (ap g is ∙ has) ∙ (λ i. cond (sym on i || list_any (finds q) ns) (g q) None)
          where
            none : (c : Bool) → cond c (g q) None ≡ None
            none true = ap g is ∙ has
            none false = refl

        or_none : (o : Option X) → option_or o None ≡ o
        or_none None = refl
        or_none (Some x) = refl

        miss : (o : Option X) → finds q n ≡ false → last_of q (entry_of n o ++ made ns) ≡ last_of q (made ns)
        miss (Some x) off = (λ i. option_or (last_of q (made ns)) (cond (off i) (Some x) None)) ∙ or_none (last_of q (made ns))
        miss None off = refl

    all_made : (P : ℕ → Type 0) (ns : List ℕ) → AllByRecursion P ns → AllByRecursion P (keys_of (made ns))
    all_made P [] all = tt
    all_made P (n ∷ ns) all = go (g n) (all_made P ns all.1)
      where
        go : (o : Option X) → AllByRecursion P (keys_of (made ns)) → AllByRecursion P (keys_of (entry_of n o ++ made ns))
        go None rest = rest
        go (Some x) rest = (all.0, rest)

    sorted_made : (ns : List ℕ) → IsStrictlySortedBy nat_cmp ns → Sorts (made ns)
    unfolding IsStrictlySortedBy
    sorted_made [] sorted = tt
    sorted_made (n ∷ ns) sorted = go (g n) (sorted_made ns sorted.1)
      where
        go : (o : Option X) → Sorts (made ns) → Sorts (entry_of n o ++ made ns)
        go None rest = rest
        go (Some x) rest = (all_made (λ y. nat_cmp n y ≡ Less) ns sorted.0, rest)

    pub rise_made : (ns : List ℕ) → IsStrictlyIncreasing ns → Rise (made ns)
    rise_made ns rises = IsStrictlyIncreasing-from_sorted _ (sorted_made ns (sorted_from_strictly_increasing ns rises))

pub sorts : {X : Type 0} (es : List (ℕ × X)) → Rise es → IsStrictlySortedBy nat_cmp (keys_of es)
sorts es rises = sorted_from_strictly_increasing (keys_of es) rises

pub rise_fates : (b : Batch) → Rise (fates b)
rise_fates b = rise_put [] (listed b) (λ i low. absurd (omega arith))

-- what becomes of an object
pub joint_is : (es fs : Fates) (q : ℕ) → fate_at (joint_fates es fs) q ≡ joint_fate (fate_at es q) (fate_at fs q)
unfolding joint_fates
joint_is es fs q =
    made_is (λ n. joint_fate (fate_at es n) (fate_at fs n)) q (keys_of (put_all es fs))
    ∙ ap (λ c. cond c (joint_fate (fate_at es q) (fate_at fs q)) None) (is_some-lookup q (put_all es fs) ∙ ap is_some (put_is fs es q))
    ∙ last (last_of q fs) (fate_at es q) (fate_at fs q) (none_last q fs)
  where
    last : (l a f : Option Fate) → (l ≡ None → f ≡ None) → cond (is_some (option_or l a)) (joint_fate a f) None ≡ joint_fate a f
    last (Some x) a f none = refl
    last None (Some x) f none = refl
    last None None f none = ap (joint_fate None) (sym (none refl))

pub rise_joint : (es fs : Fates) → Rise es → Rise (joint_fates es fs)
unfolding joint_fates
rise_joint es fs rises = rise_made (λ n. joint_fate (fate_at es n) (fate_at fs n)) (keys_of (put_all es fs)) (rise_put es fs rises)

-- each object's fate is set to what becomes of it
set_one_is : (es : Fates) (k q : ℕ) (o : Option Fate) → Rise es → fate_at (set_fate es k o) q ≡ cond (finds q k) o (fate_at es q)
set_one_is es k q None rises = lookup_without q k es rises ∙ ap (λ c. cond c None (fate_at es q)) (finds_flip k q)
set_one_is es k q (Some f) rises = lookup-insert_entry q k f es

rise_set_one : (es : Fates) (k : ℕ) (o : Option Fate) → Rise es → Rise (set_fate es k o)
rise_set_one es k None rises = rise_without k es rises
rise_set_one es k (Some f) rises = rise_with k f es rises

rise_set_all : (us : List (ℕ × Option Fate)) (es : Fates) → Rise es → Rise (set_fates es us)
rise_set_all [] es rises = rises
rise_set_all (u ∷ us) es rises = rise_set_all us (set_fate es u.0 u.1) (rise_set_one es u.0 u.1 rises)

-- what is found after an object's last fate
abbrev picked : Option Fate → Option Fate → Option Fate → Option Fate
picked was now None = now
picked was now (Some f) = joint_fate was (Some f)

set_all_is : (start : Fates) (xs es : Fates) (q : ℕ) → Rise es → fate_at (set_fates es (map (joint_update start) xs)) q ≡ picked (fate_at start q) (fate_at es q) (last_of q xs)
unfolding last_of
set_all_is start [] es q rises = refl
set_all_is start (x ∷ xs) es q rises =
    set_all_is start xs (set_fate es x.0 (joint_fate (fate_at start x.0) (Some x.1))) q (rise_set_one es x.0 (joint_fate (fate_at start x.0) (Some x.1)) rises)
    ∙ ap (λ o. picked (fate_at start q) o (last_of q xs)) (set_one_is es x.0 q (joint_fate (fate_at start x.0) (Some x.1)) rises)
    ∙ over (last_of q xs)
  where
    over : (l : Option Fate) → picked (fate_at start q) (cond (finds q x.0) (joint_fate (fate_at start x.0) (Some x.1)) (fate_at es q)) l ≡ picked (fate_at start q) (fate_at es q) (option_or l (cond (finds q x.0) (Some x.1) None))
    over (Some f) = refl
    over None = elim (finds_tells q x.0) [
      | inl (on, is) ↦ (λ i. cond (on i) (joint_fate (fate_at start x.0) (Some x.1)) (fate_at es q)) ∙ ap (λ k. joint_fate (fate_at start k) (Some x.1)) (sym is) ∙ (λ i. picked (fate_at start q) (fate_at es q) (cond (sym on i) (Some x.1) None))
      | inr (off, apart) ↦ (λ i. cond (off i) (joint_fate (fate_at start x.0) (Some x.1)) (fate_at es q)) ∙ (λ i. picked (fate_at start q) (fate_at es q) (cond (sym off i) (Some x.1) None))
    ]

pub fates_are : (b : Batch) (q : ℕ) → fate_at (fates b) q ≡ last_of q (listed b)
fates_are b q = put_is (listed b) [] q ∙ or_none (last_of q (listed b))
  where
    or_none : (o : Option Fate) → option_or o None ≡ o
    or_none None = refl
    or_none (Some f) = refl

pub all_set : (es : Fates) (b : Batch) → Rise es → set_fates es (map (joint_update es) (listed b)) ≡ joint_fates es (fates b)
all_set es b rises =
    same_lookups (set_fates es (map (joint_update es) (listed b))) (joint_fates es (fates b)) (rise_set_all (map (joint_update es) (listed b)) es rises) (rise_joint es (fates b) rises)
    (λ q. set_all_is es (listed b) es q rises ∙ whole (fate_at es q) (last_of q (listed b)) ∙ sym (joint_is es (fates b) q ∙ ap (joint_fate (fate_at es q)) (fates_are b q)))
  where
    whole : (a l : Option Fate) → picked a a l ≡ joint_fate a l
    whole a (Some f) = refl
    whole None None = refl
    whole (Some f) None = refl

-- of their own ids, by look-ups
pub own_at : (es : Fates) (n : ℕ) (f : Fate) → AreOwn es → fate_at es n ≡ Some f → IsOwn n f
own_at [] n f own is = absurd (cc)
own_at (e ∷ es) n f own is = go (finds n e.0) refl is (own_at es n f own.1)
  where
    go : (b : Bool) → finds n e.0 ≡ b → cond b (Some e.1) (fate_at es n) ≡ Some f → (fate_at es n ≡ Some f → IsOwn n f) → IsOwn n f
    go true on is rest = (let same : e.1 ≡ f = cc in subst (λ (x : ℕ × Fate). IsOwn x.0 x.1) (λ i. (sym (found_is n e.0 on) i, same i)) own.0)
    go false off is rest = rest is

pub own_from : (es : Fates) → IsStrictlySortedBy nat_cmp (keys_of es) → ((n : ℕ) (f : Fate) → fate_at es n ≡ Some f → IsOwn n f) → AreOwn es
own_from [] sorted each = tt
own_from (e ∷ es) sorted each = (each e.0 e.1 (ap (λ c. cond c (Some e.1) (fate_at es e.0)) (finds_same e.0 e.0 refl)), own_from es (rest_sorts e es sorted) later)
  where
    later : (n : ℕ) (f : Fate) → fate_at es n ≡ Some f → IsOwn n f
    later n f is = each n f (go (finds n e.0) refl)
      where
        go : (b : Bool) → finds n e.0 ≡ b → cond (finds n e.0) (Some e.1) (fate_at es n) ≡ Some f
        go true on = (let none : fate_at es n ≡ None = ap (fate_at es) (found_is n e.0 on) ∙ first_absent e es sorted in absurd (cc))
        go false off = (λ i. cond (off i) (Some e.1) (fate_at es n)) ∙ is

own_both : (xs ys : Fates) → AreOwn xs → AreOwn ys → AreOwn (xs ++ ys)
own_both [] ys a b = b
own_both (x ∷ xs) ys a b = (a.0, own_both xs ys a.1 b)

own_listed : (b : Batch) → AreOwn (listed b)
own_listed b = own_both (removals b.removed) (changes b.changed ++ additions b.added) (gone b.removed) (own_both (changes b.changed) (additions b.added) (changed b.changed) (added b.added))
  where
    gone : (ns : List ℕ) → AreOwn (removals ns)
    gone [] = tt
    gone (n ∷ ns) = (tt, gone ns)

    changed : (cs : List Change) → AreOwn (changes cs)
    changed [] = tt
    changed (c ∷ cs) = (tt, changed cs)

    added : (rs : List Record) → AreOwn (additions rs)
    added [] = tt
    added (r ∷ rs) = (refl, added rs)

last_own : (q : ℕ) (xs : Fates) (f : Fate) → AreOwn xs → last_of q xs ≡ Some f → IsOwn q f
unfolding last_of
last_own q [] f own is = absurd (cc)
last_own q (x ∷ xs) f own is = go (last_of q xs) (finds q x.0) refl refl is (last_own q xs f own.1)
  where
    go : (o : Option Fate) (b : Bool) → last_of q xs ≡ o → finds q x.0 ≡ b → option_or o (cond b (Some x.1) None) ≡ Some f → (last_of q xs ≡ Some f → IsOwn q f) → IsOwn q f
    go (Some g) b has on is rest = rest (has ∙ is)
    go None true has on is rest = (let same : x.1 ≡ f = cc in subst (λ (y : ℕ × Fate). IsOwn y.0 y.1) (λ i. (sym (found_is q x.0 on) i, same i)) own.0)
    go None false has on is rest = absurd (cc)

pub fates_own : (b : Batch) (n : ℕ) (f : Fate) → fate_at (fates b) n ≡ Some f → IsOwn n f
fates_own b n f is = last_own n (listed b) f (own_listed b) (sym (fates_are b n) ∙ is)

as_is : (n : ℕ) (x f : Fate) → Some x ≡ Some f → IsOwn n x → IsOwn n f
as_is n x f is own = subst (IsOwn n) (same_Some x f is) own

joint_own : (n : ℕ) (a b : Option Fate) (f : Fate) → ((x : Fate) → a ≡ Some x → IsOwn n x) → ((x : Fate) → b ≡ Some x → IsOwn n x) → joint_fate a b ≡ Some f → IsOwn n f
joint_own n None None f own more is = absurd (cc)
joint_own n None (Some g) f own more is = more f is
joint_own n (Some g) None f own more is = own f is
joint_own n (Some (Added r)) (Some (Changed ps)) f own more is = as_is n (Added (with_props r ps)) f is (kept_id r ps ∙ own (Added r) refl)
joint_own n (Some (Added r)) (Some Removed) f own more is = absurd (cc)
joint_own n (Some (Changed ps)) (Some (Changed qs)) f own more is = as_is n (Changed (joint_props ps qs)) f is tt
joint_own n (Some (Changed ps)) (Some Removed) f own more is = as_is n Removed f is tt
joint_own n (Some Removed) (Some (Added r)) f own more is = as_is n (Changed (all_props r)) f is tt
joint_own n (Some (Added r)) (Some (Added s)) f own more is = as_is n (Added s) f is (more (Added s) refl)
joint_own n (Some (Changed ps)) (Some (Added s)) f own more is = as_is n (Added s) f is (more (Added s) refl)
joint_own n (Some Removed) (Some (Changed qs)) f own more is = as_is n Removed f is tt
joint_own n (Some Removed) (Some Removed) f own more is = as_is n Removed f is tt

pub own_joint : (es : Fates) (b : Batch) → Rise es → AreOwn es → AreOwn (joint_fates es (fates b))
own_joint es b rises own =
    own_from (joint_fates es (fates b)) (sorts _ (rise_joint es (fates b) rises))
    (λ n f is. joint_own n (fate_at es n) (fate_at (fates b) n) f (λ x. own_at es n x own) (λ x. fates_own b n x) (sym (joint_is es (fates b) n) ∙ is))

-- a batch has the fates that it is made of
module _ where
  keep : (Fate → Bool) → Option Fate → Option Fate
  keep test None = None
  keep test (Some f) = cond (test f) (Some f) None

  kept_entries : (Fate → Bool) → Fates → Fates
  kept_entries test [] = []
  kept_entries test (e ∷ es) = cond (test e.1) (e ∷ []) [] ++ kept_entries test es

  is_added : Fate → Bool
  is_added (Added r) = true
  is_added (Changed ps) = false
  is_added Removed = false

  is_changed : Fate → Bool
  is_changed (Added r) = false
  is_changed (Changed ps) = true
  is_changed Removed = false

  is_removed : Fate → Bool
  is_removed (Added r) = false
  is_removed (Changed ps) = false
  is_removed Removed = true

  last_kept : (test : Fate → Bool) (q : ℕ) (es : Fates) → IsStrictlySortedBy nat_cmp (keys_of es) → last_of q (kept_entries test es) ≡ keep test (fate_at es q)
  unfolding last_of keep kept_entries
  last_kept test q [] sorted = refl
  last_kept test q (e ∷ es) sorted = go (test e.1) (finds q e.0) refl refl (last_kept test q es (rest_sorts e es sorted))
    where
      or_none : (o : Option Fate) → option_or o None ≡ o
      or_none None = refl
      or_none (Some x) = refl

      none_here : finds q e.0 ≡ true → fate_at es q ≡ None
      none_here on = ap (fate_at es) (found_is q e.0 on) ∙ first_absent e es sorted

      go : (t b : Bool) → test e.1 ≡ t → finds q e.0 ≡ b → last_of q (kept_entries test es) ≡ keep test (fate_at es q)
          → last_of q (cond t (e ∷ []) [] ++ kept_entries test es) ≡ keep test (cond b (Some e.1) (fate_at es q))
      go true true is on rest =
          (λ i. option_or (rest i) (cond (on i) (Some e.1) None)) ∙ ap (λ o. option_or (keep test o) (Some e.1)) (none_here on) ∙ (λ i. cond (sym is i) (Some e.1) None)
      go true false is on rest = (λ i. option_or (rest i) (cond (on i) (Some e.1) None)) ∙ or_none (keep test (fate_at es q))
      go false true is on rest = rest ∙ ap (keep test) (none_here on) ∙ (λ i. cond (sym is i) (Some e.1) None)
      go false false is on rest = rest

  relisted_removed : (es : Fates) → removals (made_by removed_by es) ≡ kept_entries is_removed es
  unfolding made_by kept_entries is_removed
  relisted_removed [] = refl
  relisted_removed (e ∷ es) = go e.1 (relisted_removed es)
    where
      go : (f : Fate) → removals (made_by removed_by es) ≡ kept_entries is_removed es → removals (removed_by e.0 f ++ made_by removed_by es) ≡ cond (is_removed f) ((e.0, f) ∷ []) [] ++ kept_entries is_removed es
      go (Added r) rest = rest
      go (Changed ps) rest = rest
      go Removed rest = ap (λ l. (e.0, Removed) ∷ l) rest

  relisted_changed : (es : Fates) → changes (made_by changed_by es) ≡ kept_entries is_changed es
  unfolding made_by kept_entries is_changed
  relisted_changed [] = refl
  relisted_changed (e ∷ es) = go e.1 (relisted_changed es)
    where
      go : (f : Fate) → changes (made_by changed_by es) ≡ kept_entries is_changed es → changes (changed_by e.0 f ++ made_by changed_by es) ≡ cond (is_changed f) ((e.0, f) ∷ []) [] ++ kept_entries is_changed es
      go (Added r) rest = rest
      go (Changed ps) rest = ap (λ l. (e.0, Changed ps) ∷ l) rest
      go Removed rest = rest

  relisted_added : (es : Fates) → AreOwn es → additions (made_by added_by es) ≡ kept_entries is_added es
  unfolding made_by kept_entries is_added
  relisted_added [] own = refl
  relisted_added (e ∷ es) own = go e.1 own.0 (relisted_added es own.1)
    where
      go : (f : Fate) → IsOwn e.0 f → additions (made_by added_by es) ≡ kept_entries is_added es → additions (added_by e.0 f ++ made_by added_by es) ≡ cond (is_added f) ((e.0, f) ∷ []) [] ++ kept_entries is_added es
      go (Added r) id rest = λ i. (id i, Added r) ∷ rest i
      go (Changed ps) id rest = rest
      go Removed id rest = rest

  pub fates_back : (es : Fates) (focus : Option (Option ℕ)) → Rise es → AreOwn es → fates (batch_of es focus) ≡ es
  unfolding keep is_added is_changed is_removed
  fates_back es focus rises own =
      same_lookups (fates (batch_of es focus)) es (rise_fates (batch_of es focus)) rises
      (λ q. fates_are (batch_of es focus) q
      ∙ last_both q (removals (made_by removed_by es)) (changes (made_by changed_by es) ++ additions (made_by added_by es))
      ∙ ap (λ o. option_or o (last_of q (removals (made_by removed_by es)))) (last_both q (changes (made_by changed_by es)) (additions (made_by added_by es)))
      ∙ (λ i. option_or (option_or (last_of q (relisted_added es own i)) (last_of q (relisted_changed es i))) (last_of q (relisted_removed es i)))
      ∙ (λ i. option_or (option_or (last_kept is_added q es (sorts es rises) i) (last_kept is_changed q es (sorts es rises) i)) (last_kept is_removed q es (sorts es rises) i))
      ∙ whole (fate_at es q))
    where
      whole : (o : Option Fate) → option_or (option_or (keep is_added o) (keep is_changed o)) (keep is_removed o) ≡ o
      whole None = refl
      whole (Some (Added r)) = refl
      whole (Some (Changed ps)) = refl
      whole (Some Removed) = refl

-- a batch with fates that rise, merged with another
pub merged_is : (es : Fates) (focus : Option (Option ℕ)) (b : Batch) → Rise es → AreOwn es → merged (batch_of es focus) b ≡ batch_of (joint_fates es (fates b)) (option_or b.focus focus)
unfolding merged
merged_is es focus b rises own = ap (λ (l : Fates). batch_of (joint_fates l (fates b)) (option_or b.focus focus)) (fates_back es focus rises own)

-- what is merged into nothing, and then with another
pub from_nothing : (a b : Batch) → merged (merged no_change a) b ≡ merged a b
unfolding merged
from_nothing a b =
    (λ i. batch_of (joint_fates (same i) (fates b)) (option_or b.focus (focus a.focus i)))
  where
    start : fates no_change ≡ []
    start = refl

    same : fates (merged no_change a) ≡ fates a
    same =
        fates_back (joint_fates [] (fates a)) (option_or a.focus None) (rise_joint [] (fates a) (λ i low. absurd (omega arith))) (own_joint [] a (λ i low. absurd (omega arith)) tt)
        ∙ same_lookups (joint_fates [] (fates a)) (fates a) (rise_joint [] (fates a) (λ i low. absurd (omega arith))) (rise_fates a) (λ q. joint_is [] (fates a) q ∙ after_none (fate_at (fates a) q))
      where
        after_none : (o : Option Fate) → joint_fate None o ≡ o
        after_none None = refl
        after_none (Some f) = refl

    focus : (o : Option (Option ℕ)) → option_or o None ≡ o
    focus None = refl
    focus (Some f) = refl
