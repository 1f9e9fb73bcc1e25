-- Notices made of candidates are all notices.
use Rattle.std.proofs.Common.{◌≡◌, ◌⊎◌, inl, inr, ℕ, List, [], ◌∷◌, ◌++◌, Bool, true, false, not, ◌&&◌, cond, Contains, Option, Some, None, is_some, refl, sym, ap, subst, ◌∙◌, bytes_eq, arith}
use Rattle.std.specs.List.{flat_map, list_any}
use Rattle.std.specs.Option.{option_map_or}
use Rattle.std.specs.Cmp.Lexicographic.{pointwise}
use Rattle.std.specs.Cmp.{nat_cmp_total, eq_by_cmp_equiv}
use Rattle.std.proofs.lemmas.Bool.{false≢true}
use Rattle.std.proofs.lemmas.Slice.Eq.{bytes_eq-Decides}
use Rattle.std.proofs.lemmas.List.Kept.{AllPairs-from_increasing}
use Rattle.std.proofs.lemmas.Map.Views.{Contains-from_any, list_any-from_Contains}
use Rattle.ax_base.specs.declared.notices.Notice.{Notice}
use Rattle.ax_base.specs.declared.notices.NoticeKind.{NoticeKind}
use Rattle.ax_base.specs.declared.notices.NoticeKind.TheVariants.{Focus, Children, Name, Value, Checked, Expanded, Selected, Live}
use Rattle.ax_base.specs.declared.states.Live.TheVariants.{Off}
use Rattle.ax_base.specs.contracts.states.LivePartialEq.TheImpl as lives
use Rattle.ax_base.proofs.Below.{from_below_same}
use Rattle.ax_base.proofs.Joins.{Contains-cases}
use Rattle.ax_base.proofs.Membership.{Contains-head, Contains-tail}
use Rattle.ax_record.specs.declared.prop.PropValue.{PropValue}
use Rattle.ax_base.proofs.Lookups.{finds, found_is}
use Rattle.ax_record.specs.declared.record.Record.{Record}
use Rattle.ax_record.specs.Tree.{Tree, record_at, object_ids, has_object, kids_of, IsKid, made_at}
use Rattle.ax_record.specs.ObjectTrees.{IsObjectTree}
use Rattle.ax_record.specs.Differences.{changed_props}
use Rattle.ax_base.proofs.Rising.{Rises, rises_from, among}
use Rattle.ax_record.proofs.TakenOver.{same_self, same_record}
use Rattle.ax_record.proofs.Equalities.{list_equality, option_equality, bool_equality, checked_equality}
use Rattle.ax_record.proofs.Walking.{id_there, there_id}
use Rattle.ax_notice.specs.Notices.{notice, is_same_in, told_at, kind_notices, told_kinds, text_of, leaf_of, leaf_at, leaves_from, leaf_texts, live_above, is_region, live_at, focus_notice, notices_among, notices_between}
use Rattle.ax_notice.specs.Candidates.{AreCandidates}
use Rattle.ax_record.specs.declared.prop.Prop.TheVariants.{Name as TheName, Value as TheValue, Kids as TheKids}

none_same : (kind : NoticeKind) (r : Record) → is_same_in kind r r ≡ true
none_same Focus r = refl
none_same Children r = same_self TheKids r
none_same Name r = same_self TheName r
none_same Value r = same_self TheValue r
none_same Checked r = (option_equality _ checked_equality r.states.checked r.states.checked).1 refl
none_same Expanded r = (option_equality _ bool_equality r.states.expanded r.states.expanded).1 refl
none_same Selected r = (option_equality _ bool_equality r.states.selected r.states.selected).1 refl
none_same Live r = refl

-- of an object whose record is the one that it had nothing is told
none_told : (j : ℕ) (kind : NoticeKind) (o : Option Record) (n : ℕ) → told_at j kind o o n ≡ []
none_told j kind None n = refl
none_told j kind (Some r) n = ap (λ c. cond c [] (notice j kind n ∷ [])) (none_same kind r)

none_lacked : (j : ℕ) (kind : NoticeKind) (o : Option Record) (n : ℕ) → told_at j kind o None n ≡ []
none_lacked j kind None n = refl
none_lacked j kind (Some r) n = refl

module _ (a b : Tree) (tb : IsObjectTree b) (ns : List ℕ) (c : AreCandidates a b ns) where
  -- an object that is no candidate
  abbrev IsApart : ℕ → Type 0
  IsApart n = (has_object b n ≡ true) × (list_any (finds n) ns ≡ false)

  inside_is : (n : ℕ) → Contains ns n → list_any (finds n) ns ≡ true
  inside_is n inside = list_any-from_Contains (eq_by_cmp_equiv nat_cmp_total) n ns inside

  is_inside : (n : ℕ) → list_any (finds n) ns ≡ true → Contains ns n
  is_inside n e = Contains-from_any found_is n ns e

  -- has the record that it had
  same_at : (n : ℕ) → IsApart n → record_at a n ≡ record_at b n
  same_at n apart = elim (c.differ n apart.0) [
    | inl inside ↦ absurd (false≢true (sym apart.1 ∙ inside_is n inside))
    | inr same ↦ same
  ]

  kids_same : (n : ℕ) → IsApart n → kids_of a n ≡ kids_of b n
  kids_same n apart = ap (λ o. option_map_or (λ (r : Record). r.kids) o []) (same_at n apart)

  -- and so has all that is below it
  closed : (n k : ℕ) → IsApart n → Contains (kids_of a n) k → IsApart k
  closed n k apart kid =
      let now : IsKid b n k = subst (λ l. Contains l k) (kids_same n apart) kid in
      (tb.known n k now, off (list_any (finds k) ns) refl now)
    where
      off : (x : Bool) → list_any (finds k) ns ≡ x → IsKid b n k → list_any (finds k) ns ≡ false
      off true e now = absurd (false≢true (sym apart.1 ∙ inside_is n (c.up n k now (is_inside k e))))
      off false e now = e

  -- so its leaf texts are those that it had
  pub leaves_same : (n : ℕ) → IsApart n → leaf_texts a n ≡ leaf_texts b n
  leaves_same n apart =
      from_below_same leaves_from (leaf_at a) (leaf_at b) (kids_of a) (kids_of b) IsApart
      (λ k far. ap (λ o. option_map_or (λ r. leaf_of r.kids (text_of r)) o []) (same_at k far)) kids_same closed 128 n apart

  -- each id is a candidate, or that of no object, or apart
  kind_of : (n : ℕ) → has_object b n ≡ true → Contains ns n ⊎ IsApart n
  kind_of n there = go (list_any (finds n) ns) refl
    where
      go : (x : Bool) → list_any (finds n) ns ≡ x → Contains ns n ⊎ IsApart n
      go true e = inl (is_inside n e)
      go false e = inr (there, e)

  none_live : (j n : ℕ) → IsApart n → live_at j a b n ≡ []
  none_live j n apart =
      ap (λ x. cond (is_region b n && not x) (notice j Live n ∷ []) []) ((list_equality bytes_eq bytes_eq-Decides (leaf_texts a n) (leaf_texts b n)).1 (leaves_same n apart))
      ∙ ap (λ x. cond x (notice j Live n ∷ []) []) (no (is_region b n))
    where
      no : (x : Bool) → (x && false) ≡ false
      no true = refl
      no false = refl

  lacks : (n : ℕ) → has_object b n ≡ false → record_at b n ≡ None
  lacks n none = go (record_at b n) none
    where
      go : (o : Option Record) → is_some o ≡ false → o ≡ None
      go None e = refl
      go (Some r) e = absurd (false≢true (sym e))

  none_lacking : (j n : ℕ) → has_object b n ≡ false → live_at j a b n ≡ []
  none_lacking j n none =
      ap (λ o. cond ((not (lives.ghosts.eq (option_map_or (λ (r : Record). r.live) o Off) Off) && not (lives.ghosts.eq (option_map_or (λ (r : Record). r.live) o Off) (live_above b n))) && not (pointwise bytes_eq (leaf_texts a n) (leaf_texts b n))) (notice j Live n ∷ []) []) (lacks n none)

  climbs : (t : Tree) → IsObjectTree t → Rises (object_ids t)
  climbs t hangs = rises_from (object_ids t) (AllPairs-from_increasing (object_ids t) hangs.rising)

  -- what is made of all ids is what is made of the candidates, where nothing is made at ids that are apart or lacking
  all_made : (f : ℕ → List Notice) → ((n : ℕ) → IsApart n → f n ≡ []) → ((n : ℕ) → has_object b n ≡ false → f n ≡ []) → flat_map f (object_ids b) ≡ flat_map f ns
  all_made f far none =
      among f (object_ids b) ns (climbs b tb) (rises_from ns (AllPairs-from_increasing ns c.rising))
      (λ n inside. elim (kind_of n (there_id b n inside)) [ inl candidate ↦ inl candidate | inr apart ↦ inr (far n apart) ])
      (λ n inside. there_or (has_object b n) n refl)
    where
      there_or : (x : Bool) (n : ℕ) → has_object b n ≡ x → Contains (object_ids b) n ⊎ (f n ≡ [])
      there_or true n e = inl (id_there b n e)
      there_or false n e = inr (none n e)

  told_apart : (j : ℕ) (kind : NoticeKind) (n : ℕ) → IsApart n → made_at (told_at j kind) a b n ≡ []
  told_apart j kind n apart = ap (λ o. told_at j kind o (record_at b n) n) (same_at n apart) ∙ none_told j kind (record_at b n) n

  told_lacking : (j : ℕ) (kind : NoticeKind) (n : ℕ) → has_object b n ≡ false → made_at (told_at j kind) a b n ≡ []
  told_lacking j kind n none = ap (λ o. told_at j kind (record_at a n) o n) (lacks n none) ∙ none_lacked j kind (record_at a n) n

  each_kind : (j : ℕ) (kinds : List NoticeKind) → flat_map (kind_notices j a b (object_ids b)) kinds ≡ flat_map (kind_notices j a b ns) kinds
  unfolding kind_notices
  each_kind j [] = refl
  each_kind j (kind ∷ kinds) = λ i. all_made (made_at (told_at j kind) a b) (told_apart j kind) (told_lacking j kind) i ++ each_kind j kinds i

  -- the notices of candidates are all notices
  pub notices_of_candidates : (j : ℕ) → notices_between a b j ≡ notices_among j a b ns
  notices_of_candidates j = λ i. focus_notice j a b ++ each_kind j told_kinds i ++ all_made (live_at j a b) (none_live j) (none_lacking j) i
