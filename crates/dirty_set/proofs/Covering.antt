-- Marks cover what differs, and go on to do so.
use Rattle.std.proofs.Common.{◌≡◌, ◌⊎◌, inl, inr, ℕ, List, ◌++◌, Bool, true, false, ◌||◌, ◌&&◌, Option, Some, None, Contains, refl, sym, ap, ◌∙◌}
use Rattle.std.specs.Prelude.{codes, bytes_eq, nat_eq}
use Rattle.std.specs.List.{list_any}
use Rattle.std.specs.Option.{option_map_or}
use Rattle.std.proofs.lemmas.Bool.{false≢true, or_parts, or_left, or_right, or_from}
use Rattle.std.proofs.lemmas.List.Folds.{list_any-append}
use Rattle.ax_base.specs.declared.body.Body.{Body}
use Rattle.ax_base.specs.Characters.{Chars}
use Rattle.ax_base.specs.Document.{Document, body, has, ids, lineage, attr, has_id}
use Rattle.ax_base.specs.AccessibleNames.{is_label_for}
use Rattle.ax_base.proofs.Places.{among_ids}
use Rattle.ax_dom.specs.Subtrees.{subtree}
use Rattle.ax_dom.specs.Among.{is_in, has_within}
use Rattle.dom_ids.specs.References.{is_text_in, names_text}
use Rattle.dirty_set.specs.Reach.{Marked, joined_marks, is_at_marks, is_focus, is_source, ties_to, is_tied, is_label_of, is_label_of_tied, is_touched, is_reached}
use Rattle.dirty_set.specs.Covers.{IsSame, Covers}
use Rattle.dirty_set.proofs.Tests.{none_at, none, any_less}
use Rattle.dirty_set.proofs.Follows.{Follows, lineage_same, quiet_unrooted, quiet_was, quiet_body, quiet_children, subtree_same, hidden_same, pruned_same, out_same, live_same, kids_same, said0_same, said_all_same}
use Rattle.dirty_set.proofs.Texts.{IsCalm, itself, known_by, carried_id, calm_quiet, calm_within, tie_free, untied, said1_same, name_same, description_same}

same_on : (a b c : Document) (n : ℕ) → IsSame a b n → IsSame b c n → IsSame a c n
same_on a b c n p q = record {
  was = p.was;
  body_same = p.body_same ∙ q.body_same;
  children_same = p.children_same ∙ q.children_same;
  hidden = p.hidden ∙ q.hidden;
  pruned = p.pruned ∙ q.pruned;
  out = p.out ∙ q.out;
  live = p.live ∙ q.live;
  kids_are = p.kids_are ∙ q.kids_are;
  said = p.said ∙ q.said;
  all_said = p.all_said ∙ q.all_said;
  part_said = p.part_said ∙ q.part_said;
  name = p.name ∙ q.name;
  description = p.description ∙ q.description;
}

-- with no edit nothing differs
pub covers_none : (d : Document) (m : Marked) → Covers d d m
covers_none d m n there off = record { was = there; body_same = refl; children_same = refl; hidden = refl; pruned = refl; out = refl; live = refl; kids_are = refl; said = refl; all_said = refl; part_said = refl; name = refl; description = refl }

module _ (old now : Document) (m : Marked) (s : Follows old now m) where
  pub calm_same : (n : ℕ) → IsCalm old now m s n → IsSame old now n
  calm_same n calm =
      let quiet = calm_quiet old now m s n calm in
      let un = quiet_unrooted old now m s n quiet in
      record {
        was = quiet_was old now m s n quiet;
        body_same = quiet_body old now m s n quiet;
        children_same = quiet_children old now m s n quiet;
        hidden = hidden_same old now m s n un;
        pruned = pruned_same old now m s n un;
        out = out_same old now m s n un;
        live = live_same old now m s n un;
        kids_are = kids_same old now m s n quiet;
        said = said0_same old now m s n quiet;
        all_said = said_all_same old now m s n quiet;
        part_said = said1_same old now m s n calm;
        name = name_same old now m s n calm;
        description = description_same old now m s n calm;
      }

  module _ (earlier : Marked) where
    abbrev all : Marked
    all = joined_marks earlier m

    in_left : (xs ys : List ℕ) (n : ℕ) → is_in (xs ++ ys) n ≡ false → (is_in xs n ≡ false) × (is_in ys n ≡ false)
    in_left xs ys n off = or_parts (is_in xs n) (is_in ys n) (sym (list_any-append (nat_eq n) xs ys) ∙ off)

    -- what is free of all marks is free of those of each
    parts_at : (q : ℕ) → is_at_marks all.nodes all.roots now q ≡ false → (is_at_marks earlier.nodes earlier.roots now q ≡ false) × (is_at_marks m.nodes m.roots now q ≡ false)
    parts_at q off =
        let p = or_parts (is_in all.nodes q) (list_any (is_in all.roots) (lineage now q)) off in
        let n = in_left earlier.nodes m.nodes q p.0 in (
          or_from (is_in earlier.nodes q) (list_any (is_in earlier.roots) (lineage now q)) n.0 (none (is_in earlier.roots) (lineage now q) (λ a inside on. false≢true (sym (in_left earlier.roots m.roots a (none_at (is_in all.roots) (lineage now q) a p.1 inside)).0 ∙ on))),
          or_from (is_in m.nodes q) (list_any (is_in m.roots) (lineage now q)) n.1 (none (is_in m.roots) (lineage now q) (λ a inside on. false≢true (sym (in_left earlier.roots m.roots a (none_at (is_in all.roots) (lineage now q) a p.1 inside)).1 ∙ on))),
        )

    abbrev IsAllCalm : ℕ → Type 0
    IsAllCalm n = (has now n ≡ true) × (has_within now (is_tied now all) n ≡ false)

    record Parts (q : ℕ) : Type 0 where
      marks_off : is_at_marks earlier.nodes earlier.roots now q ≡ false
      new_off : is_at_marks m.nodes m.roots now q ≡ false
      focus_off : is_focus now q ≡ false
      texts_off : list_any (ties_to (body now q)) earlier.texts ≡ false
      new_texts_off : list_any (ties_to (body now q)) m.texts ≡ false

    parts : (q : ℕ) → is_tied now all q ≡ false → Parts q
    parts q off =
        let p = or_parts (is_source now all q) (list_any (ties_to (body now q)) all.texts) off in
        let r = or_parts (is_at_marks all.nodes all.roots now q) (is_focus now q) p.0 in
        let t = or_parts (list_any (ties_to (body now q)) earlier.texts) (list_any (ties_to (body now q)) m.texts) (sym (list_any-append (ties_to (body now q)) earlier.texts m.texts) ∙ p.1) in
        let a = parts_at q r.0 in
        record { marks_off = a.0; new_off = a.1; focus_off = r.1; texts_off = t.0; new_texts_off = t.1 }

    all_calm : (n : ℕ) → IsAllCalm n → IsCalm old now m s n
    all_calm n calm = (
      calm.0,
      none (is_tied now m) (subtree now n) (λ q inside on.
          let p = parts q (none_at (is_tied now all) (subtree now n) q calm.1 inside) in
          false≢true (sym (or_from (is_source now m q) (list_any (ties_to (body now q)) m.texts) (or_from (is_at_marks m.nodes m.roots now q) (is_focus now q) p.new_off p.focus_off) p.new_texts_off) ∙ on)),
    )

    -- what all marks leave alone now, the earlier ones left alone then
    untied_then : (q : ℕ) → IsCalm old now m s q → is_tied now all q ≡ false → is_tied old earlier q ≡ false
    untied_then q calm off =
        let p = parts q off in
        let quiet = calm_quiet old now m s q calm in
        let e = or_parts (is_in earlier.nodes q) (list_any (is_in earlier.roots) (lineage now q)) p.marks_off in
        or_from (is_source old earlier q) (list_any (ties_to (body old q)) earlier.texts)
        (or_from (is_at_marks earlier.nodes earlier.roots old q) (is_focus old q)
        (or_from (is_in earlier.nodes q) (list_any (is_in earlier.roots) (lineage old q)) e.0 (ap (list_any (is_in earlier.roots)) (lineage_same old now m s q (quiet_unrooted old now m s q quiet)) ∙ e.1))
        (go (is_focus old q) refl p.new_off))
        (ap (λ b. list_any (ties_to b) earlier.texts) (quiet_body old now m s q quiet) ∙ p.texts_off)
      where
        go : (b : Bool) → is_focus old q ≡ b → is_at_marks m.nodes m.roots now q ≡ false → b ≡ false
        go true on new_off = absurd (false≢true (sym (or_parts (is_in m.nodes q) (list_any (is_in m.roots) (lineage now q)) new_off).0 ∙ s.focus_was q on))
        go false is new_off = refl

    tied_then : (n : ℕ) → IsAllCalm n → has_within old (is_tied old earlier) n ≡ false
    tied_then n calm =
        ap (list_any (is_tied old earlier)) (subtree_same old now m s n (calm_quiet old now m s n (all_calm n calm)))
        ∙ none (is_tied old earlier) (subtree now n) (λ q inside on.
        false≢true (sym (untied_then q (calm_within old now m s n q (all_calm n calm) inside) (none_at (is_tied now all) (subtree now n) q calm.1 inside)) ∙ on))

    abbrev IsFar : ℕ → Type 0
    IsFar n = (has now n ≡ true) × (is_reached now all n ≡ false)

    touch_parts : (q : ℕ) → is_touched now all q ≡ false → (is_tied now all q ≡ false) × (is_label_of_tied now all q ≡ false)
    touch_parts q off = or_parts (is_tied now all q) (is_label_of_tied now all q) off

    far_calm : (n : ℕ) → IsFar n → IsAllCalm n
    far_calm n far = (far.0, any_less (is_tied now all) (is_touched now all) (subtree now n) (λ q inside on. or_left (is_tied now all q) (is_label_of_tied now all q) on) far.1)

    -- the id by which a label names a node
    label_id : (l b : Body) → is_label_of l b ≡ true → (x : Chars) × (has_id x b ≡ true) × (is_label_for x l ≡ true)
    label_id l b on = go (attr (codes "id") b) refl on
      where
        go : (o : Option Chars) → attr (codes "id") b ≡ o → option_map_or (λ x. is_label_for x l) o false ≡ true → (x : Chars) × (has_id x b ≡ true) × (is_label_for x l ≡ true)
        go None is on = cc
        go (Some x) is on = (x, ap (λ o. option_map_or (bytes_eq x) o false) is ∙ itself x, on)

    -- a label of a node that was tied would be one of a node that is tied
    no_label : (q v : ℕ) → IsCalm old now m s q → is_label_of_tied now all q ≡ false → has_within old (is_tied old earlier) v ≡ true → is_label_of (body old q) (body old v) ≡ true → ⊥
    no_label q v calm off tied labels = by_now (has now v) refl
      where
        same : body old q ≡ body now q
        same = quiet_body old now m s q (calm_quiet old now m s q calm)

        id : (x : Chars) × (has_id x (body old v) ≡ true) × (is_label_for x (body old q) ≡ true)
        id = label_id (body old q) (body old v) labels

        free : is_text_in m.texts id.0 ≡ false
        free = tie_free old now m s (body now q) id.0 (untied old now m s q calm)
            (or_right (has_id id.0 (body now q)) (names_text id.0 (body now q) || is_label_for id.0 (body now q)) (or_right (names_text id.0 (body now q)) (is_label_for id.0 (body now q)) (ap (is_label_for id.0) (sym same) ∙ id.2)))

        there : has old v ≡ true
        there = known_by old (is_label_of (body old q)) refl v labels

        told : (is_in m.nodes v ≡ true) ⊎ ((r : ℕ) × (s.top r ≡ true) × Contains (subtree old r) v) → ⊥
        told near = false≢true (sym free ∙ s.texts_were v id.0 near (carried_id id.0 (body old v) id.1))

        by_nodes : (b : Bool) → is_in m.nodes v ≡ b → has now v ≡ true → ⊥
        by_nodes true on still = told (inl on)
        by_nodes false apart still =
            let bodies : body old v ≡ body now v = s.bodies v still there apart in
            let here : is_label_of (body now q) (body now v) ≡ true = (λ i. is_label_of (sym same i) (sym bodies i)) ∙ labels in
            let none_v = none_at (λ k. has_within now (is_tied now all) k && is_label_of (body now q) (body now k)) (ids now) v off (among_ids now.nodes v still) in
            let calm_v : has_within now (is_tied now all) v ≡ false = only (has_within now (is_tied now all) v) (is_label_of (body now q) (body now v)) none_v here in
            false≢true (sym (tied_then v (still, calm_v)) ∙ tied)
          where
            only : (a b : Bool) → (a && b) ≡ false → b ≡ true → a ≡ false
            only true b off on = absurd (false≢true (sym off ∙ on))
            only false b off on = refl

        by_now : (b : Bool) → has now v ≡ b → ⊥
        by_now true still = by_nodes (is_in m.nodes v) refl still
        by_now false lost = told (inr (s.gone v there lost))

    both_true : (a b : Bool) → (a && b) ≡ true → (a ≡ true) × (b ≡ true)
    both_true true b on = (refl, on)
    both_true false b on = absurd (false≢true on)

    -- what all marks do not reach now, the earlier ones did not reach then
    reached_then : (n : ℕ) → IsFar n → is_reached old earlier n ≡ false
    reached_then n far =
        let calm = all_calm n (far_calm n far) in
        ap (list_any (is_touched old earlier)) (subtree_same old now m s n (calm_quiet old now m s n calm))
        ∙ none (is_touched old earlier) (subtree now n) (λ q inside on.
        let p = touch_parts q (none_at (is_touched now all) (subtree now n) q far.1 inside) in
        let calm_q = calm_within old now m s n q calm inside in
        false≢true (sym (or_from (is_tied old earlier q) (is_label_of_tied old earlier q) (untied_then q calm_q p.0)
        (none (λ v. has_within old (is_tied old earlier) v && is_label_of (body old q) (body old v)) (ids old) (λ v among both.
        let r = both_true (has_within old (is_tied old earlier) v) (is_label_of (body old q) (body old v)) both in
        no_label q v calm_q p.1 r.0 r.1))) ∙ on))

    -- so marks that cover go on to cover
    pub covers_on : (flushed : Document) → Covers flushed old earlier → Covers flushed now all
    covers_on flushed covers n there off =
        let calm = all_calm n (far_calm n (there, off)) in
        same_on flushed old now n (covers n (quiet_was old now m s n (calm_quiet old now m s n calm)) (reached_then n (there, off))) (calm_same n calm)
