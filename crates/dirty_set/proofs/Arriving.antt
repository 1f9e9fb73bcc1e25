-- The climbs together give what marks reach.
use Rattle.std.proofs.Common.{◌≡◌, inl, inr, ℕ, ◌≤◌, length, List, Bool, true, false, ◌||◌, ◌&&◌, Contains, refl, sym, subst, arith}
use Rattle.std.specs.List.{list_any}
use Rattle.std.specs.List.Sorted.{IsStrictlyIncreasing}
use Rattle.std.proofs.lemmas.Bool.{or_left, or_right, and_from}
use Rattle.ax_base.specs.Document.{Document, body, has, ids}
use Rattle.ax_base.specs.Trees.{IsTree}
use Rattle.ax_base.proofs.Places.{among_ids, has_children}
use Rattle.ax_dom.specs.Subtrees.{subtree}
use Rattle.ax_dom.proofs.Subtrees.{subtree_has, within_known}
use Rattle.dirty_set.specs.NodeSets.{mem, IsUpClosed, KeepsAll}
use Rattle.ax_dom.specs.Among.{has_within}
use Rattle.dirty_set.specs.Reach.{Marked, is_at_marks, nodes_near, is_focus, is_source, ties_to, is_tied, is_label_of, is_label_of_tied, is_touched, is_reached, reach, weight}
use Rattle.dirty_set.specs.Reaching.{HasAllThat, OnlyFrom, IsTiedToSome, IsLabelOfSome, IsFocused}
use Rattle.dirty_set.proofs.Tests.{any_at, found}
use Rattle.dirty_set.proofs.Closing.{has_id, mem_in, in_mem}
use Rattle.dirty_set.proofs.Nearness.{both_true, within_up, above_too, at_lineage, kept_there, there_kept, kept_rises, kept_is, kept_few}
use Rattle.dirty_set.proofs.Weighing.{length_weighs}

more_within : (d : Document) (test more : ℕ → Bool) (n : ℕ) → ((q : ℕ) → test q ≡ true → more q ≡ true) → has_within d test n ≡ true → has_within d more n ≡ true
more_within d test more n implies on = let r = found test (subtree d n) on in any_at more (subtree d n) r.0 r.1 (implies r.0 r.2)

module _ (d : Document) (t : IsTree d) (m : Marked) where
  -- a node is there, and has a node that is tied to the marks at it or below it
  abbrev pub IsTiedWithin : ℕ → Type 0
  IsTiedWithin n = (has d n ≡ true) × (has_within d (is_tied d m) n ≡ true)

  -- a node is there, and the marks reach it
  abbrev pub IsReached : ℕ → Type 0
  IsReached n = (has d n ≡ true) × (is_reached d m n ≡ true)

  tied_marks : (q : ℕ) → is_at_marks m.nodes m.roots d q ≡ true → is_tied d m q ≡ true
  tied_marks q on = or_left (is_source d m q) (list_any (ties_to (body d q)) m.texts) (or_left (is_at_marks m.nodes m.roots d q) (is_focus d q) on)

  tied_focus : (q : ℕ) → is_focus d q ≡ true → is_tied d m q ≡ true
  tied_focus q on = or_left (is_source d m q) (list_any (ties_to (body d q)) m.texts) (or_right (is_at_marks m.nodes m.roots d q) (is_focus d q) on)

  tied_text : (q : ℕ) → list_any (ties_to (body d q)) m.texts ≡ true → is_tied d m q ≡ true
  tied_text q on = or_right (is_source d m q) (list_any (ties_to (body d q)) m.texts) on

  module _ (a : List ℕ) (near : a ≡ nodes_near m.nodes m.roots d) where
    in_near : (n : ℕ) → mem a n ≡ true → (has d n ≡ true) × (has_within d (is_at_marks m.nodes m.roots d) n ≡ true)
    in_near n on = kept_there d t (has_within d (is_at_marks m.nodes m.roots d)) n (subst (λ l. Contains l n) near (mem_in a n on))

    near_in : (n : ℕ) → has d n ≡ true → has_within d (is_at_marks m.nodes m.roots d) n ≡ true → mem a n ≡ true
    near_in n there on = in_mem a n (subst (λ l. Contains l n) (sym near) (there_kept d t (has_within d (is_at_marks m.nodes m.roots d)) n there on))

    pub near_rises : IsStrictlyIncreasing a
    near_rises = subst IsStrictlyIncreasing (sym near) (kept_rises d t (has_within d (is_at_marks m.nodes m.roots d)))

    pub near_closed : IsUpClosed d a
    near_closed p c child on = near_in p (has_children d p c child) (within_up d t (is_at_marks m.nodes m.roots d) p c child (in_near c on).1)

    pub near_tied : (n : ℕ) → mem a n ≡ true → IsTiedWithin n
    near_tied n on = let r = in_near n on in (r.0, more_within d (is_at_marks m.nodes m.roots d) (is_tied d m) n tied_marks r.1)

  pub focus_tied : (a b : List ℕ) → ((n : ℕ) → mem a n ≡ true → IsTiedWithin n) → OnlyFrom d (IsFocused d) a b → (n : ℕ) → mem b n ≡ true → IsTiedWithin n
  focus_tied a b was only n on = elim (only n on) [
    | inl first ↦ was n first
    | inr (q, there, focus, inside) ↦ at_lineage d t (is_tied d m) n q there inside (tied_focus q focus)
  ]

  pub texts_tied : (b c : List ℕ) → ((n : ℕ) → mem b n ≡ true → IsTiedWithin n) → OnlyFrom d (IsTiedToSome d m.texts) b c → (n : ℕ) → mem c n ≡ true → IsTiedWithin n
  texts_tied b c was only n on = elim (only n on) [
    | inl first ↦ was n first
    | inr (q, there, tied, inside) ↦ at_lineage d t (is_tied d m) n q there inside (tied_text q tied)
  ]

  pub tied_reached : (n : ℕ) → IsTiedWithin n → IsReached n
  tied_reached n (there, on) = (there, more_within d (is_tied d m) (is_touched d m) n (λ q tied. or_left (is_tied d m q) (is_label_of_tied d m q) tied) on)

  pub labels_reached : (c members e : List ℕ) → ((n : ℕ) → mem c n ≡ true → IsTiedWithin n) → members ≡ c → OnlyFrom d (IsLabelOfSome d members) c e → (n : ℕ) → mem e n ≡ true → IsReached n
  labels_reached c members e was list only n on = elim (only n on) [
    | inl first ↦ tied_reached n (was n first)
    | inr (q, there, (v, among, label), inside) ↦
        (let member = was v (in_mem c v (subst (λ l. Contains l v) list among)) in
        at_lineage d t (is_touched d m) n q there inside (or_right (is_tied d m q) (is_label_of_tied d m q)
        (any_at (λ w. has_within d (is_tied d m) w && is_label_of (body d q) (body d w)) (ids d) v (among_ids d.nodes v member.0) (and_from (has_within d (is_tied d m) v) (is_label_of (body d q) (body d v)) member.1 label))))
  ]

  -- rising ids of nodes that the marks reach are no more than the marks weigh
  pub few_reached : (ks : List ℕ) → IsStrictlyIncreasing ks → ((n : ℕ) → mem ks n ≡ true → IsReached n) → length ks ≤ weight d m
  few_reached ks rises goes =
      let few = kept_few d t (is_reached d m) ks rises goes in
      let all = length_weighs d (reach d m) in
      omega arith

  -- what the climbs have so far is no more than the marks weigh
  pub few_near : length (nodes_near m.nodes m.roots d) ≤ weight d m
  few_near = few_reached (nodes_near m.nodes m.roots d) (near_rises (nodes_near m.nodes m.roots d) refl) (λ n on. tied_reached n (near_tied (nodes_near m.nodes m.roots d) refl n on))

  module _ (a b c : List ℕ) (near : a ≡ nodes_near m.nodes m.roots d) (only_focus : OnlyFrom d (IsFocused d) a b) where
    tied_b : (n : ℕ) → mem b n ≡ true → IsTiedWithin n
    tied_b = focus_tied a b (near_tied a near) only_focus

    pub few_focus : IsStrictlyIncreasing b → length b ≤ weight d m
    few_focus rises = few_reached b rises (λ n on. tied_reached n (tied_b n on))

    pub tied_c : OnlyFrom d (IsTiedToSome d m.texts) b c → (n : ℕ) → mem c n ≡ true → IsTiedWithin n
    tied_c only = texts_tied b c tied_b only

    pub few_texts : OnlyFrom d (IsTiedToSome d m.texts) b c → IsStrictlyIncreasing c → length c ≤ weight d m
    few_texts only rises = few_reached c rises (λ n on. tied_reached n (tied_c only n on))

    module _ (members e : List ℕ) (only_texts : OnlyFrom d (IsTiedToSome d m.texts) b c) (list : members ≡ c) (only_labels : OnlyFrom d (IsLabelOfSome d members) c e) where
      pub all_reached : (n : ℕ) → mem e n ≡ true → IsReached n
      all_reached = labels_reached c members e (tied_c only_texts) list only_labels

      pub few_labels : IsStrictlyIncreasing e → length e ≤ weight d m
      few_labels rises = few_reached e rises all_reached

  module _ (a b c members e : List ℕ) (near : a ≡ nodes_near m.nodes m.roots d)
      (all_focus : HasAllThat d (IsFocused d) b) (keep_focus : KeepsAll a b)
      (closed_tied : IsUpClosed d c) (all_tied : HasAllThat d (IsTiedToSome d m.texts) c) (keep_tied : KeepsAll b c)
      (list : members ≡ c)
      (closed : IsUpClosed d e) (all_labels : HasAllThat d (IsLabelOfSome d members) e) (keep_labels : KeepsAll c e) where
    tied_member : (q : ℕ) → has d q ≡ true → is_tied d m q ≡ true → mem c q ≡ true
    tied_member q there on = go (is_at_marks m.nodes m.roots d q) (is_focus d q) refl refl on
      where
        go : (x y : Bool) → is_at_marks m.nodes m.roots d q ≡ x → is_focus d q ≡ y → ((x || y) || list_any (ties_to (body d q)) m.texts) ≡ true → mem c q ≡ true
        go true y marks focus on = keep_tied q (keep_focus q (near_in a near q there (any_at (is_at_marks m.nodes m.roots d) (subtree d q) q (subtree_has d t q) marks)))
        go false true marks focus on = keep_tied q (all_focus q there focus)
        go false false marks focus on = all_tied q there on

    within_member : (n : ℕ) → has d n ≡ true → has_within d (is_tied d m) n ≡ true → mem c n ≡ true
    within_member n there on =
        let r = found (is_tied d m) (subtree d n) on in
        above_too d t c closed_tied (t.level r.0) n r.0 (omega arith) r.1 (tied_member r.0 (within_known d t n r.0 there r.1) r.2)

    touched_there : (q : ℕ) → has d q ≡ true → is_touched d m q ≡ true → mem e q ≡ true
    touched_there q there on = go (is_tied d m q) refl on
      where
        go : (x : Bool) → is_tied d m q ≡ x → (x || is_label_of_tied d m q) ≡ true → mem e q ≡ true
        go true tied on = keep_labels q (tied_member q there tied)
        go false tied on =
            let r = found (λ w. has_within d (is_tied d m) w && is_label_of (body d q) (body d w)) (ids d) on in
            let p = both_true (has_within d (is_tied d m) r.0) (is_label_of (body d q) (body d r.0)) r.2 in
            all_labels q there (r.0, subst (λ l. Contains l r.0) (sym list) (mem_in c r.0 (within_member r.0 (has_id d.nodes r.0 r.1) p.0)), p.1)

    comes : (n : ℕ) → has d n ≡ true → is_reached d m n ≡ true → mem e n ≡ true
    comes n there on =
        let r = found (is_touched d m) (subtree d n) on in
        above_too d t e closed (t.level r.0) n r.0 (omega arith) r.1 (touched_there r.0 (within_known d t n r.0 there r.1) r.2)

    pub reach_is : IsStrictlyIncreasing e → ((n : ℕ) → mem e n ≡ true → IsReached n) → e ≡ reach d m
    reach_is rises goes = kept_is d t (is_reached d m) e rises goes comes
