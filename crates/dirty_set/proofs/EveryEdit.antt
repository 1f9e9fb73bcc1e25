-- Every edit that nothing refuses leads to a document that follows by its marks.
use Rattle.std.proofs.Common.{◌≡◌, ◌≢◌, ℕ, ◌+◌, ◌≤◌, ◌-◌, [], ◌∷◌, Bool, true, false, not, ◌||◌, Some, None, Contains, refl, sym, subst, ◌∙◌, arith}
use Rattle.std.specs.Prelude.{nat_lt, nat_le, nat_eq, length}
use Rattle.std.specs.Cmp.{nat_eq_equiv}
use Rattle.std.proofs.lemmas.Bool.{false≢true, or_parts, ltb-false, leb-false, eq-eqb}
use Rattle.std.proofs.lemmas.Map.Views.{list_any-from_Contains}
use Rattle.ax_base.specs.declared.body.Body.TheVariants.{Element, Words}
use Rattle.ax_base.specs.Document.{Document, root, has, ids, body, depth, lineage}
use Rattle.ax_base.specs.Trees.{IsTree}
use Rattle.ax_base.proofs.Places.{depth-level}
use Rattle.ax_dom.specs.declared.cause.EditCause.TheVariants.{NoNode, UsedId, BadPlace, NotElement, NotText, IntoItself, RootFixed, TooDeep, TooMany, BadRuns, TooLong}
use Rattle.ax_dom.specs.declared.edit.Edit.{Edit}
use Rattle.ax_dom.specs.declared.edit.Edit.TheVariants.{InsertElement, InsertText, Remove, Move, Chars as NewChars, Set, Unset, SetRuns, Frame, Focus}
use Rattle.ax_dom.specs.Changes.{edited, no_frame}
use Rattle.ax_dom.specs.Bodies.{with_chars, with_attr, without_attr, with_runs, with_frame}
use Rattle.ax_dom.specs.Refusals.{edit_cause, first_cause, lacks_node, reuses_id, lacks_place, wants_element, wants_text, goes_into_itself, removes_root, goes_too_deep, is_one_too_many, breaks_runs, is_too_long}
use Rattle.ax_dom.specs.Subtrees.{subtree}
use Rattle.ax_dom.specs.Used.{is_used}
use Rattle.ax_dom.proofs.Amended.{kind_stays}
use Rattle.ax_dom.proofs.Bounded.{no_runs_within, no_frame_within}
use Rattle.ax_dom.proofs.Few.{few_nodes}
use Rattle.ax_dom.proofs.Fitting.{text_fits}
use Rattle.ax_dom.proofs.MovedEntries.{root_above}
use Rattle.ax_dom.proofs.Subtrees.{lineage_within_subtree}
use Rattle.dirty_set.specs.Marking.{marked, key_of}
use Rattle.dirty_set.proofs.Tests.{none_at}
use Rattle.dirty_set.proofs.Follows.{Follows}
use Rattle.dirty_set.proofs.EachEdit.{first_in, follows_amended, follows_focus, follows_removed, follows_inserted, follows_moved, amended_body, removed_body, inserted_body, moved_body}

-- no cause holds
pub record IsFree (d : Document) (e : Edit) : Type 0 where
  pub known : lacks_node d e ≡ false
  pub fresh : reuses_id d e ≡ false
  pub place : lacks_place d e ≡ false
  pub element : wants_element d e ≡ false
  pub text : wants_text d e ≡ false
  pub apart : goes_into_itself d e ≡ false
  pub no_root : removes_root e ≡ false
  pub low : goes_too_deep d e ≡ false
  pub few : is_one_too_many d e ≡ false
  pub runs : breaks_runs d e ≡ false
  pub short : is_too_long e ≡ false

all_off : (a b c f g h i j k l m : Bool) → first_cause ((a, NoNode) ∷ (b, UsedId) ∷ (c, BadPlace) ∷ (f, NotElement) ∷ (g, NotText) ∷ (h, IntoItself) ∷ (i, RootFixed) ∷ (j, TooDeep) ∷ (k, TooMany) ∷ (l, BadRuns) ∷ (m, TooLong) ∷ []) ≡ None
    → (a ≡ false) × (b ≡ false) × (c ≡ false) × (f ≡ false) × (g ≡ false) × (h ≡ false) × (i ≡ false) × (j ≡ false) × (k ≡ false) × (l ≡ false) × (m ≡ false)
all_off true b c f g h i j k l m none = cc
all_off false true c f g h i j k l m none = cc
all_off false false true f g h i j k l m none = cc
all_off false false false true g h i j k l m none = cc
all_off false false false false true h i j k l m none = cc
all_off false false false false false true i j k l m none = cc
all_off false false false false false false true j k l m none = cc
all_off false false false false false false false true k l m none = cc
all_off false false false false false false false false true l m none = cc
all_off false false false false false false false false false true m none = cc
all_off false false false false false false false false false false true none = cc
all_off false false false false false false false false false false false none = (refl, refl, refl, refl, refl, refl, refl, refl, refl, refl, refl)

pub free_from : (d : Document) (e : Edit) → edit_cause d e ≡ None → IsFree d e
free_from d e none =
    let all = all_off (lacks_node d e) (reuses_id d e) (lacks_place d e) (wants_element d e) (wants_text d e) (goes_into_itself d e) (removes_root e) (goes_too_deep d e) (is_one_too_many d e) (breaks_runs d e) (is_too_long e) none in
    record { known = all.0; fresh = all.1; place = all.2; element = all.3; text = all.4; apart = all.5; no_root = all.6; low = all.7; few = all.8; runs = all.9; short = all.10 }

shown : (b : Bool) → not b ≡ false → b ≡ true
shown true e = refl
shown false e = sym e

module _ (d : Document) (t : IsTree d) (inserted_all : (n : ℕ) → has d n ≡ true → n ≢ root → is_used d n ≡ true) where
  fresh_lacks : (id : ℕ) → (nat_eq id root || is_used d id) ≡ false → has d id ≡ false
  fresh_lacks id free = go (has d id) refl
    where
      parts : (nat_eq id root ≡ false) × (is_used d id ≡ false)
      parts = or_parts (nat_eq id root) (is_used d id) free

      go : (b : Bool) → has d id ≡ b → b ≡ false
      go true there = absurd (false≢true (sym parts.1 ∙ inserted_all id there (λ same. false≢true (sym parts.0 ∙ eq-eqb id root same))))
      go false off = refl

  low_into : (into : ℕ) → has d into ≡ true → nat_lt 64 (depth d into + 1) ≡ false → t.level into ≤ 63
  low_into into there low = let a = ltb-false 64 (depth d into + 1) low in let b = depth-level d t into there in omega arith

  room : nat_le 65536 (length d.used) ≡ false → length (ids d) ≤ 65536
  room free = let few = few_nodes d t.rising inserted_all in let less = leb-false 65536 (length d.used) free in omega arith

  pub follows_edit : (e : Edit) → IsFree d e → (u : IsTree (edited d e)) → Follows d (edited d e) (marked d (edited d e) e)
  follows_edit (InsertElement id into before tag attrs) free u =
      let there = shown (has d into) free.known in
      follows_inserted d t id into before (Element tag attrs no_frame) (fresh_lacks id free.fresh) there (low_into into there free.low) free.element (room free.few) tt tt no_frame_within u (InsertElement id into before tag attrs) refl refl
  follows_edit (InsertText id into before chars) free u =
      let there = shown (has d into) free.known in
      follows_inserted d t id into before (Words chars []) (fresh_lacks id free.fresh) there (low_into into there free.low) free.element (room free.few) (text_fits chars free.short) refl no_runs_within u (InsertText id into before chars) refl refl
  follows_edit (Remove id) free u = follows_removed d t id (λ same. false≢true (sym free.no_root ∙ eq-eqb id root same)) u
  follows_edit (Move id into before) free u =
      let known = or_parts (not (has d id)) (not (has d into)) free.known in
      let there = shown (has d id) known.0 in
      let old = shown (has d into) known.1 in
      follows_moved d t id into before
      (λ same. false≢true (sym free.apart ∙ list_any-from_Contains nat_eq_equiv id (lineage d into) (subst (Contains (lineage d into)) (sym same) (root_above d t (t.level into) into old (omega arith)))))
      there old free.element
      (λ inside. false≢true (sym free.apart ∙ list_any-from_Contains nat_eq_equiv id (lineage d into) (lineage_within_subtree d t id into inside)))
      (λ m inside. ltb-false 64 (depth d into + 1 + (depth d m - depth d id)) (none_at (λ m. nat_lt 64 (depth d into + 1 + (depth d m - depth d id))) (subtree d id) m free.low inside))
      u
  follows_edit (NewChars id chars) free u = follows_amended d t id (with_chars chars (body d id)) (shown (has d id) free.known) (kind_stays (NewChars id chars) (body d id)) u (NewChars id chars) (first_in id [])
  follows_edit (Set id name value) free u = follows_amended d t id (with_attr name value (body d id)) (shown (has d id) free.known) (kind_stays (Set id name value) (body d id)) u (Set id name value) (first_in id [])
  follows_edit (Unset id name) free u = follows_amended d t id (without_attr name (body d id)) (shown (has d id) free.known) (kind_stays (Unset id name) (body d id)) u (Unset id name) (first_in id [])
  follows_edit (SetRuns id runs) free u = follows_amended d t id (with_runs runs (body d id)) (shown (has d id) free.known) (kind_stays (SetRuns id runs) (body d id)) u (SetRuns id runs) (first_in id [])
  follows_edit (Frame id rect) free u = follows_amended d t id (with_frame rect (body d id)) (shown (has d id) free.known) (kind_stays (Frame id rect) (body d id)) u (Frame id rect) (first_in id [])
  follows_edit (Focus f) free u = follows_focus d t f u (Focus f)

  -- the body of each node but the one that the edit names by its first key is the same
  pub bodies_stay : (e : Edit) → IsFree d e → (u : IsTree (edited d e)) → (q : ℕ) → has d q ≡ true → has (edited d e) q ≡ true → ((n : ℕ) → key_of e ≡ Some n → n ≢ q) → body d q ≡ body (edited d e) q
  bodies_stay (InsertElement id into before tag attrs) free u q was still apart =
      let there = shown (has d into) free.known in
      inserted_body d t id into before (Element tag attrs no_frame) (fresh_lacks id free.fresh) there (low_into into there free.low) free.element (room free.few) tt tt no_frame_within u (InsertElement id into before tag attrs) refl refl q was
  bodies_stay (InsertText id into before chars) free u q was still apart =
      let there = shown (has d into) free.known in
      inserted_body d t id into before (Words chars []) (fresh_lacks id free.fresh) there (low_into into there free.low) free.element (room free.few) (text_fits chars free.short) refl no_runs_within u (InsertText id into before chars) refl refl q was
  bodies_stay (Remove id) free u q was still apart = removed_body d t id (λ same. false≢true (sym free.no_root ∙ eq-eqb id root same)) u q still
  bodies_stay (Move id into before) free u q was still apart =
      let known = or_parts (not (has d id)) (not (has d into)) free.known in
      let there = shown (has d id) known.0 in
      let old = shown (has d into) known.1 in
      moved_body d t id into before
      (λ same. false≢true (sym free.apart ∙ list_any-from_Contains nat_eq_equiv id (lineage d into) (subst (Contains (lineage d into)) (sym same) (root_above d t (t.level into) into old (omega arith)))))
      there old free.element
      (λ inside. false≢true (sym free.apart ∙ list_any-from_Contains nat_eq_equiv id (lineage d into) (lineage_within_subtree d t id into inside)))
      (λ m inside. ltb-false 64 (depth d into + 1 + (depth d m - depth d id)) (none_at (λ m. nat_lt 64 (depth d into + 1 + (depth d m - depth d id))) (subtree d id) m free.low inside))
      u q
  bodies_stay (NewChars id chars) free u q was still apart = amended_body d t id (with_chars chars (body d id)) (shown (has d id) free.known) (kind_stays (NewChars id chars) (body d id)) u (NewChars id chars) (first_in id []) q (apart id refl)
  bodies_stay (Set id name value) free u q was still apart = amended_body d t id (with_attr name value (body d id)) (shown (has d id) free.known) (kind_stays (Set id name value) (body d id)) u (Set id name value) (first_in id []) q (apart id refl)
  bodies_stay (Unset id name) free u q was still apart = amended_body d t id (without_attr name (body d id)) (shown (has d id) free.known) (kind_stays (Unset id name) (body d id)) u (Unset id name) (first_in id []) q (apart id refl)
  bodies_stay (SetRuns id runs) free u q was still apart = amended_body d t id (with_runs runs (body d id)) (shown (has d id) free.known) (kind_stays (SetRuns id runs) (body d id)) u (SetRuns id runs) (first_in id []) q (apart id refl)
  bodies_stay (Frame id rect) free u q was still apart = amended_body d t id (with_frame rect (body d id)) (shown (has d id) free.known) (kind_stays (Frame id rect) (body d id)) u (Frame id rect) (first_in id []) q (apart id refl)
  bodies_stay (Focus f) free u q was still apart = refl
