-- The tree of each moment of an accepted story is a tree.
use Rattle.std.proofs.Common.{◌≡◌, ◌≢◌, inl, inr, ℕ, zero, suc, ◌+◌, ◌-◌, ◌≤◌, List, [], ◌∷◌, length, Bool, true, false, Option, Some, None, Contains, refl, sym, ap, subst, ◌∙◌, arith}
use Rattle.std.specs.Prelude.{not, nat_eq, nat_lt, nat_le, ◌==◌, codes}
use Rattle.std.specs.List.{list_any}
use Rattle.std.specs.Ordering.{nat_cmp}
use Rattle.std.specs.BTreeMap.{is_at}
use Rattle.std.specs.Cmp.{nat_eq_equiv}
use Rattle.std.proofs.lemmas.Bool.{false≢true, ltb-false, leb-false, or_left, or_right, or_parts}
use Rattle.std.proofs.lemmas.Map.Views.{list_any-from_Contains}
use Rattle.ax_base.specs.declared.body.Body.{Body}
use Rattle.ax_base.specs.declared.body.Body.TheVariants.{Element, Words}
use Rattle.ax_base.specs.Document.{Document, root, ids, has, depth, body, is_text, lineage}
use Rattle.ax_base.specs.Rects.{HasRectsWithin}
use Rattle.ax_base.specs.Runs.{KeepsRuns}
use Rattle.ax_base.specs.Texts.{IsFitting}
use Rattle.ax_base.specs.Trees.{IsTree}
use Rattle.ax_base.proofs.Lookups.{finds, finds_same, found_is, list_any-insert_key}
use Rattle.ax_base.proofs.Places.{depth-level}
use Rattle.ax_base.proofs.Shapes.{HasShapeOf, tree_same}
use Rattle.ax_dom.specs.declared.edit.Edit.{Edit}
use Rattle.ax_dom.specs.declared.edit.Edit.TheVariants.{InsertElement, InsertText, Remove, Move, Chars, Set, Unset, SetRuns, Frame, Focus}
use Rattle.ax_dom.specs.declared.cause.EditCause.{EditCause}
use Rattle.ax_dom.specs.declared.cause.EditCause.TheVariants.{NoNode, UsedId, BadPlace, NotElement, NotText, IntoItself, RootFixed, TooDeep, TooMany, BadRuns, TooLong}
use Rattle.ax_dom.specs.Bodies.{body_after}
use Rattle.ax_dom.specs.Bounds.{EditKeepsBounds}
use Rattle.ax_dom.specs.Changes.{edited, inserted, removed, moved, with_body, with_focus, new_document, no_frame}
use Rattle.ax_dom.specs.Refusals.{edit_cause, first_cause, lacks_node, reuses_id, lacks_place, wants_element, wants_text, goes_into_itself, removes_root, goes_too_deep, is_one_too_many, breaks_runs, is_too_long, has_wrong_runs, may_focus}
use Rattle.ax_dom.specs.NodeMaps.{document_of}
use Rattle.ax_dom.specs.Subtrees.{subtree}
use Rattle.ax_dom.specs.Used.{is_used}
use Rattle.ax_dom.proofs.Amended.{kind_stays, body_fits, shape_amended, body_here, body_apart}
use Rattle.ax_dom.proofs.Bounded.{no_frame_within, no_runs_within, body_within}
use Rattle.ax_dom.proofs.Few.{few_nodes}
use Rattle.ax_dom.proofs.Fitting.{text_fits}
use Rattle.ax_dom.proofs.Fresh.{new_kept}
use Rattle.ax_dom.proofs.Inserts.{tree_after, has_cases}
use Rattle.ax_dom.proofs.Moved.{tree_moved, has_moved}
use Rattle.ax_dom.proofs.MovedEntries.{root_above, list_any_member}
use Rattle.ax_dom.proofs.Removed.{tree_left, left_was}
use Rattle.ax_dom.proofs.RightRuns.{runs_after}
use Rattle.ax_dom.proofs.Subtrees.{lineage_within_subtree}
use Rattle.ax_record.proofs.TreeOf.{tree_hangs}
use Rattle.story_check.specs.declared.story.PageLine.{PageLine}
use Rattle.story_check.specs.declared.story.PageLine.TheVariants.{Change, Flush, Until}
use Rattle.story_check.specs.Stories.{Story}
use Rattle.story_check.specs.Moments.{after_edits, after_flushes, document_at, tree_at, MayBeDone, AreAccepted, AreLinesAccepted, IsAccepted, AreTrees}

-- a document that is a tree, and whose nodes but the root were inserted
record IsGrown (d : Document) : Type 0 where
  tree : IsTree d
  marked : (n : ℕ) → has d n ≡ true → n ≢ root → is_used d n ≡ true

was_true : (x : Bool) → not x ≡ false → x ≡ true
was_true true e = refl
was_true false e = absurd (false≢true (sym e))

-- no test of an edit holds
record IsFree (d : Document) (e : Edit) : Type 0 where
  known : lacks_node d e ≡ false
  fresh : reuses_id d e ≡ false
  element : wants_element d e ≡ false
  outside : goes_into_itself d e ≡ false
  below : removes_root e ≡ false
  low : goes_too_deep d e ≡ false
  room : is_one_too_many d e ≡ false
  right : breaks_runs d e ≡ false
  short : is_too_long e ≡ false

abbrev AreOff : List (Bool × EditCause) → Type 0
AreOff [] = Unit {0}
AreOff (c ∷ cs) = (c.0 ≡ false) × AreOff cs

are_off : (cs : List (Bool × EditCause)) → first_cause cs ≡ None → AreOff cs
are_off [] e = tt
are_off ((true, k) ∷ cs) e = absurd (cc)
are_off ((false, k) ∷ cs) e = (refl, are_off cs e)

is_free : (d : Document) (e : Edit) → edit_cause d e ≡ None → IsFree d e
is_free d e none =
    let tests : List (Bool × EditCause) = (lacks_node d e, NoNode) ∷ (reuses_id d e, UsedId) ∷ (lacks_place d e, BadPlace) ∷ (wants_element d e, NotElement)
    ∷ (wants_text d e, NotText) ∷ (goes_into_itself d e, IntoItself) ∷ (removes_root e, RootFixed) ∷ (goes_too_deep d e, TooDeep)
    ∷ (is_one_too_many d e, TooMany) ∷ (breaks_runs d e, BadRuns) ∷ (is_too_long e, TooLong) ∷ [] in
    let off : AreOff tests = are_off tests none in
    record {
      known = off.0;
      fresh = off.1.0;
      element = off.1.1.1.0;
      outside = off.1.1.1.1.1.0;
      below = off.1.1.1.1.1.1.0;
      low = off.1.1.1.1.1.1.1.0;
      room = off.1.1.1.1.1.1.1.1.0;
      right = off.1.1.1.1.1.1.1.1.1.0;
      short = off.1.1.1.1.1.1.1.1.1.1.0;
    }

-- a test of equal ids that fails
differ : (n : ℕ) → (n == root) ≡ false → n ≢ root
differ n off same = false≢true (sym off ∙ ap (λ k. k == root) same)

-- a new node
module _ (d : Document) (g : IsGrown d) (id into : ℕ) (before : Option ℕ) (b : Body) (known : has d into ≡ true) (taken : (id == root) ≡ false) (fresh : is_used d id ≡ false)
    (element : is_text (body d into) ≡ false) (deep : nat_lt 64 (depth d into + 1) ≡ false) (more : nat_le 65536 (length d.used) ≡ false) (fit : IsFitting b) (right : KeepsRuns b) (near : HasRectsWithin b) where
  lacks : has d id ≡ false
  lacks = go (has d id) refl
    where
      go : (x : Bool) → has d id ≡ x → x ≡ false
      go true there = absurd (false≢true (sym fresh ∙ g.marked id there (differ id taken)))
      go false there = refl

  low : g.tree.level into ≤ 63
  low = let l = depth-level d g.tree into known in let m = ltb-false 64 (depth d into + 1) deep in omega arith

  room : length (ids d) ≤ 65536
  room = let few = few_nodes d g.tree.rising g.marked in let m = leb-false 65536 (length d.used) more in omega arith

  grown_insert : IsGrown (inserted d id into before b)
  grown_insert = record {
    tree = tree_after d g.tree id into before b lacks known low element room fit right near;
    marked = λ n there top. sym (list_any-insert_key n id d.used) ∙ (elim (has_cases d g.tree id into before b lacks known low element room fit right near n there) [
      | inl same ↦ or_left (finds n id) (list_any (is_at (nat_cmp n)) d.used) (finds_same n id same)
      | inr was ↦ or_right (finds n id) (list_any (is_at (nat_cmp n)) d.used) (g.marked n was top)
    ]);
  }

-- another body of the same kind
module _ (d : Document) (g : IsGrown d) (n : ℕ) (e : Edit) (there : has d n ≡ true) (short : is_too_long e ≡ false) (right : has_wrong_runs e (body d n) ≡ false) (near : EditKeepsBounds e) where
  abbrev b : Body
  b = body_after e (body d n)

  kind : is_text b ≡ is_text (body d n)
  kind = kind_stays e (body d n)

  each_is : (P : Body → Type 0) → P b → ((q : ℕ) → P (body d q)) → (q : ℕ) → P (body (with_body d n b) q)
  each_is P new old q = go (finds n q) refl
    where
      go : (x : Bool) → finds n q ≡ x → P (body (with_body d n b) q)
      go true same = subst (λ m. P (body (with_body d n b) m)) (found_is n q same) (subst P (sym (body_here d n b there kind)) new)
      go false apart = subst P (sym (body_apart d n b there kind q apart)) (old q)

  grown_body : IsGrown (with_body d n b)
  grown_body =
      let shape : HasShapeOf d (with_body d n b) = shape_amended d n b there kind in
      record {
        tree = tree_same d (with_body d n b) shape (each_is IsFitting (body_fits e (body d n) short (g.tree.fits n)) g.tree.fits) (each_is KeepsRuns (runs_after e (body d n) right (g.tree.runs n)) g.tree.runs)
            (each_is HasRectsWithin (body_within e (body d n) near (g.tree.within n)) g.tree.within) (λ q some. shape.has_same q ∙ g.tree.focused q some) g.tree;
        marked = λ q has_q top. g.marked q (sym (shape.has_same q) ∙ has_q) top;
      }

focus_there : (d : Document) (focus : Option ℕ) → may_focus d focus ≡ true → (n : ℕ) → focus ≡ Some n → has d n ≡ true
focus_there d None may n some = cc
focus_there d (Some m) may n some = let same : m ≡ n = cc in ap (has d) (sym same) ∙ may

grown_focus : (d : Document) → IsGrown d → (focus : Option ℕ) → may_focus d focus ≡ true → IsGrown (with_focus d focus)
grown_focus d g focus may =
    let shape : HasShapeOf d (with_focus d focus) = record { ids_same = refl; has_same = λ n. refl; children_same = λ n. refl; text_same = λ n. refl } in
    record {
      tree = tree_same d (with_focus d focus) shape g.tree.fits g.tree.runs g.tree.within (focus_there d focus may) g.tree;
      marked = g.marked;
    }

grown_remove : (d : Document) → IsGrown d → (n : ℕ) → n ≢ root → IsGrown (removed d n)
grown_remove d g n apart = record {
  tree = tree_left d g.tree n apart;
  marked = λ q there top. g.marked q (left_was d g.tree n apart q there).0 top;
}

-- a node that moves
module _ (d : Document) (g : IsGrown d) (n into : ℕ) (before : Option ℕ) (known : has d n ≡ true) (old : has d into ≡ true) (element : is_text (body d into) ≡ false)
    (outside : list_any (nat_eq n) (lineage d into) ≡ false) (deep : list_any (λ m. nat_lt 64 (depth d into + 1 + (depth d m - depth d n))) (subtree d n) ≡ false) where
  -- the root is above each node
  apart : n ≢ root
  apart same = false≢true (sym outside ∙ list_any-from_Contains nat_eq_equiv n (lineage d into) (subst (Contains (lineage d into)) (sym same) (root_above d g.tree (g.tree.level into) into old (omega arith))))

  out : Contains (subtree d n) into → ⊥
  out inside = false≢true (sym outside ∙ list_any-from_Contains nat_eq_equiv n (lineage d into) (lineage_within_subtree d g.tree n into inside))

  low_moved : (m : ℕ) → Contains (subtree d n) m → depth d into + 1 + (depth d m - depth d n) ≤ 64
  low_moved m inside =
      ltb-false 64 (depth d into + 1 + (depth d m - depth d n)) (list_any_member (λ k. nat_lt 64 (depth d into + 1 + (depth d k - depth d n))) (subtree d n) m inside deep)

  grown_move : IsGrown (moved d n into before)
  grown_move = record {
    tree = tree_moved d g.tree n into before apart known old element out low_moved;
    marked = λ q there top. g.marked q (sym (has_moved d g.tree n into before apart known old element out low_moved q) ∙ there) top;
  }

-- an edit that may be done
grown_edit : (d : Document) (e : Edit) → IsGrown d → MayBeDone d e → IsGrown (edited d e)
grown_edit d (InsertElement id into before tag attrs) g may =
    let f = is_free d (InsertElement id into before tag attrs) may.0 in
    let fresh = or_parts (id == root) (is_used d id) f.fresh in
    grown_insert d g id into before (Element tag attrs no_frame) (was_true (has d into) f.known) fresh.0 fresh.1 f.element f.low f.room tt tt no_frame_within
grown_edit d (InsertText id into before new) g may =
    let f = is_free d (InsertText id into before new) may.0 in
    let fresh = or_parts (id == root) (is_used d id) f.fresh in
    grown_insert d g id into before (Words new []) (was_true (has d into) f.known) fresh.0 fresh.1 f.element f.low f.room (text_fits new f.short) refl no_runs_within
grown_edit d (Remove id) g may =
    let f = is_free d (Remove id) may.0 in
    grown_remove d g id (differ id f.below)
grown_edit d (Move id into before) g may =
    let f = is_free d (Move id into before) may.0 in
    let there = or_parts (not (has d id)) (not (has d into)) f.known in
    grown_move d g id into before (was_true (has d id) there.0) (was_true (has d into) there.1) f.element f.outside f.low
grown_edit d (Chars id new) g may = let f = is_free d (Chars id new) may.0 in grown_body d g id (Chars id new) (was_true (has d id) f.known) f.short refl may.1
grown_edit d (Set id name value) g may = let f = is_free d (Set id name value) may.0 in grown_body d g id (Set id name value) (was_true (has d id) f.known) f.short refl may.1
grown_edit d (Unset id name) g may = let f = is_free d (Unset id name) may.0 in grown_body d g id (Unset id name) (was_true (has d id) f.known) f.short refl may.1
grown_edit d (SetRuns id runs) g may = let f = is_free d (SetRuns id runs) may.0 in grown_body d g id (SetRuns id runs) (was_true (has d id) f.known) f.short f.right may.1
grown_edit d (Frame id rect) g may = let f = is_free d (Frame id rect) may.0 in grown_body d g id (Frame id rect) (was_true (has d id) f.known) f.short refl may.1
grown_edit d (Focus id) g may = let f = is_free d (Focus id) may.0 in grown_focus d g id (was_true (may_focus d id) f.known)

grown_new : IsGrown new_document
grown_new =
    let kept = new_kept _ [] (Element (codes "html") [] no_frame) [] [] refl no_frame_within refl refl refl refl in
    record { tree = kept.tree; marked = kept.marked }

grown_edits : (d : Document) (es : List Edit) → IsGrown d → AreAccepted d es → IsGrown (after_edits d es)
grown_edits d [] g a = g
grown_edits d (e ∷ es) g a = grown_edits (edited d e) es (grown_edit d e g a.0) a.1

grown_flushes : (d : Document) (xs : List PageLine) (k : ℕ) → IsGrown d → AreLinesAccepted d xs → IsGrown (after_flushes d xs k)
grown_flushes d xs zero g a = g
grown_flushes d [] (suc k) g a = g
grown_flushes d (Change e ∷ xs) (suc k) g a = grown_flushes (edited d e) xs (suc k) (grown_edit d e g a.0) a.1
grown_flushes d (Flush ∷ xs) (suc k) g a = grown_flushes d xs k g a
grown_flushes d (Until j ∷ xs) (suc k) g a = grown_flushes d xs (suc k) g a

-- the tree of each moment of an accepted story is a tree
pub are_trees : (s : Story) → IsAccepted s → AreTrees s
unfolding document_at tree_at
are_trees s a k = tree_hangs (document_at s k) (grown_flushes (after_edits new_document s.base) s.page k (grown_edits new_document s.base grown_new a.base) a.lines).tree
