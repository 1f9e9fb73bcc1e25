-- What is kept by node, before and after one more is put in.
use Rattle.std.proofs.Common.{◌≡◌, ◌≢◌, ◌⊎◌, inl, inr, ℕ, List, Bool, true, false, not, cond, Some, Contains, refl, sym, ap, subst, ◌∙◌}
use Rattle.std.specs.Ordering.{nat_cmp}
use Rattle.std.specs.Map.{lookup}
use Rattle.std.specs.Prelude.{Result, Ok}
use Rattle.std.specs.Set.{remove_key}
use Rattle.std.specs.BTreeMap.{is_at, insert_entry}
use Rattle.std.specs.BTreeSet.{insert_key}
use Rattle.std.proofs.lemmas.Bool.{false≢true, or_parts}
use Rattle.ax_base.specs.Document.{Document}
use Rattle.ax_base.proofs.Lookups.{finds, finds_same, finds_tells, lookup-insert_entry, list_any-insert_key}
use Rattle.ax_roles.specs.Inclusion.{is_object_by}
use Rattle.ax_roles.specs.declared.inclusion.Inclusion.{Inclusion}
use Rattle.ctx_pass.specs.Marks.{is_marked}
use Rattle.ctx_pass.proofs.Marking.{once_marked, once_unmarked}
use Rattle.kids_pass.specs.declared.children.NodeKids.{NodeKids}
use Rattle.kids_pass.specs.Stamps.{Stamps, IsCurrent}
use Rattle.kids_pass.specs.Kids.{kept_kids, kids_at, listed, listed_of, is_object_or, AreObjects, AreMarksRight, IsKeptIn, IsKidsKept}
use Rattle.kids_pass.proofs.Gathering.{made}

pub kept_in : (old new : List (ℕ × NodeKids)) (id : ℕ) (part : Inclusion) (kids list : List ℕ) → kids ≡ list → new ≡ insert_entry nat_cmp old id (made part kids) → IsKeptIn old new id (made part list)
kept_in old new id part kids list same puts n = ap (lookup (is_at (nat_cmp n))) (puts ∙ ap (λ l. insert_entry nat_cmp old id (made part l)) same) ∙ lookup-insert_entry n id (made part list) old

put_in : (old new : List (ℕ × NodeKids)) (id : ℕ) (value : NodeKids) → new ≡ insert_entry nat_cmp old id value → IsKeptIn old new id value
put_in old new id value puts n = ap (lookup (is_at (nat_cmp n))) puts ∙ lookup-insert_entry n id value old

module _ (old new : List (ℕ × NodeKids)) (id : ℕ) (value : NodeKids) (puts : IsKeptIn old new id value) where
  there : kids_at new id ≡ Some value
  there = puts id ∙ ap (λ b. cond b (Some value) (kids_at old id)) (finds_same id id refl)

  elsewhere : (n : ℕ) → n ≢ id → kids_at new n ≡ kids_at old n
  elsewhere n off = elim (finds_tells n id) [
    | inl (_, same) ↦ absurd (off same)
    | inr (apart, _) ↦ puts n ∙ ap (λ b. cond b (Some value) (kids_at old n)) apart
  ]

  -- what is put in is right there, and what was right stays so
  pub right_here : (d : Document) → value ≡ kept_kids d id → IsKidsKept d new id
  right_here d right = there ∙ ap Some right

  pub right_still : (d : Document) → value ≡ kept_kids d id → (n : ℕ) → IsKidsKept d old n → IsKidsKept d new n
  right_still d right n was = elim (finds_tells n id) [
    | inl (_, same) ↦ subst (IsKidsKept d new) (sym same) (right_here d right)
    | inr (_, apart) ↦ elsewhere n apart ∙ was
  ]

  -- an object stays one, where what is put in is an object or none was there
  still_object : (is_object_by value.inclusion ≡ true) ⊎ (is_object_or false (kids_at old id) ≡ false) → (n : ℕ) → is_object_or false (kids_at old n) ≡ true → is_object_or false (kids_at new n) ≡ true
  still_object which n was = elim (finds_tells n id) [
    | inl (_, same) ↦ elim which [
      | inl on ↦ subst (λ k. is_object_or false (kids_at new k) ≡ true) (sym same) (ap (is_object_or false) there ∙ on)
      | inr off ↦ absurd (false≢true (sym off ∙ ap (λ k. is_object_or false (kids_at old k)) (sym same) ∙ was))
    ]
    | inr (_, apart) ↦ ap (is_object_or false) (elsewhere n apart) ∙ was
  ]

  -- The kids of nodes with the current stamp are objects. This node lost its stamp first, or all nodes did, and got it again where its kids are known to be objects.
  pub objects_still : (before between after : Stamps) (known : Bool)
      → ((n : ℕ) → IsCurrent before n → AreObjects old (listed old n))
      → ((n : ℕ) → IsCurrent between n → IsCurrent before n × (n ≢ id) × ((is_object_by value.inclusion ≡ true) ⊎ (is_object_or false (kids_at old id) ≡ false)))
      → ((n : ℕ) → IsCurrent after n → IsCurrent between n ⊎ ((n ≡ id) × (known ≡ true)))
      → (known ≡ true → AreObjects old value.kids × ((is_object_by value.inclusion ≡ true) ⊎ (is_object_or false (kids_at old id) ≡ false)))
      → (n : ℕ) → IsCurrent after n → AreObjects new (listed new n)
  objects_still before between after known each gone came sure n on k inside = elim (came n on) [
    | inl still ↦
        let (was, apart, which) = gone n still in
        still_object which k (each n was k (subst (λ o. Contains (listed_of o) k) (elsewhere n apart) inside))
    | inr (same, wanted) ↦
        let (objects, which) = sure wanted in
        still_object which k (objects k (subst (λ o. Contains (listed_of o) k) (ap (kids_at new) same ∙ there) inside))
  ]

-- a node that has no mark after another got one had none before
pub marked_before : (marks more : List ℕ) (id : ℕ) → more ≡ insert_key nat_cmp marks id → (n : ℕ) → is_marked more n ≡ false → is_marked marks n ≡ false
marked_before marks more id marked n off = (or_parts (finds n id) (is_marked marks n) (list_any-insert_key n id marks ∙ ap (λ l. is_marked l n) (sym marked) ∙ off)).1

-- what is right of marks and stamps is so still where marks are added, stamps are taken away, and nothing is put in
pub still_right : (marks more : List ℕ) (before after : Stamps) (old new : List (ℕ × NodeKids)) → AreMarksRight marks before old → ((n : ℕ) → is_marked more n ≡ false → is_marked marks n ≡ false)
    → ((n : ℕ) → IsCurrent after n → IsCurrent before n) → new ≡ old → AreMarksRight more after new
still_right marks more before after old new right fewer less same = record {
  others = λ n off. ap (λ l. is_object_or true (kids_at l n)) same ∙ right.others n (fewer n off);
  objects = λ n on. subst (λ l. AreObjects l (listed l n)) (sym same) (right.objects n (less n on));
}

pub not_was : (b : Bool) → not b ≡ true → b ≡ false
not_was true off = absurd (false≢true off)
not_was false off = refl

abbrev succeeded : Result Bool Bool
succeeded = Ok true

module _ (marks more : List ℕ) (before between after : Stamps) (old now new : List (ℕ × NodeKids)) (id : ℕ) (value : NodeKids) (known : Bool) where
  -- an object is put in, which lost its mark then
  pub right_unmarked : AreMarksRight marks before old → old ≡ now → more ≡ remove_key (is_at (nat_cmp id)) marks → new ≡ insert_entry nat_cmp old id value → is_object_by value.inclusion ≡ true
      → ((n : ℕ) → IsCurrent between n → IsCurrent before n × (n ≢ id))
      → ((n : ℕ) → IsCurrent after n → IsCurrent between n ⊎ ((n ≡ id) × (known ≡ true)))
      → (known ≡ true → AreObjects now value.kids)
      → AreMarksRight more after new
  right_unmarked right seen unmarked puts on gone came sure = record {
    others = once_unmarked (λ n o. is_object_or true o ≡ true) marks old id value right.others more new unmarked puts on;
    objects =
        objects_still old new id value (put_in old new id value puts) before between after known right.objects
        (λ n current. let (was, apart) = gone n current in (was, apart, inl on)) came (λ wanted. (subst (λ l. AreObjects l value.kids) (sym seen) (sure wanted), inl on));
  }

  -- what is no object is put in, which got a mark before
  pub right_marked : (was : Bool) → AreMarksRight marks before old → old ≡ now → more ≡ insert_key nat_cmp marks id → new ≡ insert_entry nat_cmp old id value → was ≡ is_object_or false (kids_at now id)
      → ((n : ℕ) → IsCurrent between n → IsCurrent before n × (n ≢ id) × (was ≡ false))
      → ((n : ℕ) → IsCurrent after n → IsCurrent between n ⊎ ((n ≡ id) × (known ≡ true)))
      → (known ≡ true → AreObjects now value.kids × (was ≡ false))
      → AreMarksRight more after new
  right_marked was right seen marked puts is gone came sure = record {
    others = once_marked (λ n o. is_object_or true o ≡ true) marks old id value right.others succeeded more new marked puts tt;
    objects =
        objects_still old new id value (put_in old new id value puts) before between after known right.objects
        (λ n current. let (stood, apart, off) = gone n current in (stood, apart, inr (none off))) came
        (λ wanted. let (objects, off) = sure wanted in (subst (λ l. AreObjects l value.kids) (sym seen) objects, inr (none off)));
  }
    where
      none : was ≡ false → is_object_or false (kids_at old id) ≡ false
      none off = ap (λ l. is_object_or false (kids_at l id)) seen ∙ sym is ∙ off
