-- What an index answers for a text stays, where no node that is marked carries the text.
use Rattle.std.proofs.Common.{◌≡◌, ◌⊎◌, inl, inr, ℕ, [], Bool, true, false, Contains, refl, sym, ap, ◌∙◌}
use Rattle.std.specs.Prelude.{filter}
use Rattle.std.proofs.lemmas.Bool.{false≢true}
use Rattle.std.proofs.lemmas.List.Kept.{IsStrictlyIncreasing-filter}
use Rattle.ax_base.specs.declared.body.Body.{Body}
use Rattle.ax_base.specs.declared.body.Body.TheVariants.{Words}
use Rattle.ax_base.specs.Characters.{Chars, tokens}
use Rattle.ax_base.specs.Document.{Document, body, has, ids, lineage, has_id}
use Rattle.ax_base.specs.AccessibleNames.{is_label_for}
use Rattle.ax_base.proofs.Places.{among_ids}
use Rattle.ax_dom.specs.Subtrees.{subtree}
use Rattle.ax_dom.specs.Among.{is_in}
use Rattle.dom_ids.specs.References.{names_text}
use Rattle.dirty_set.specs.Reach.{Marked}
use Rattle.dom_ids.specs.Index.{carriers, namers, labels}
use Rattle.dirty_set.proofs.Follows.{Follows, quiet_was, quiet_body, quiet_unrooted, unmarked, lineage_head}
use Rattle.dirty_set.proofs.Tests.{none_at}
use Rattle.dirty_set.proofs.Firsts.{kept_cases}
use Rattle.dirty_set.proofs.Gathered.{gathered_same}
use Rattle.dirty_set.proofs.Texts.{IsFree, clear_test, carrier_quiet, carried_id, carried_for, known_by}
use Rattle.dirty_set.proofs.Edits.{kept_in}
use Rattle.ax_base.proofs.Rising.{rising_same}

-- an empty text refers to nothing
names_nothing : (x : Chars) → names_text x (Words [] []) ≡ false
unfolding tokens
names_nothing x = refl

module _ (old now : Document) (m : Marked) (s : Follows old now m) where
  pub labels_same : (x : Chars) → IsFree old now m s x → labels old x ≡ labels now x
  labels_same x free = gathered_same old now m s (is_label_for x)
      (λ n near. clear_test old now m s x free (is_label_for x) (carried_for x) (body old n) (s.texts_were n x near))
      (λ n near. clear_test old now m s x free (is_label_for x) (carried_for x) (body now n) (s.texts_are n x near))

  -- a node that passes a test which nothing marked passes was there, and is there
  module _ (g : Body → Bool) (fails : g (Words [] []) ≡ false)
      (clear_old : (n : ℕ) → (is_in m.nodes n ≡ true) ⊎ ((r : ℕ) × (s.top r ≡ true) × Contains (subtree old r) n) → g (body old n) ≡ false)
      (clear_now : (n : ℕ) → (is_in m.nodes n ≡ true) ⊎ (s.top n ≡ true) → g (body now n) ≡ false) where
    goes_on : (n : ℕ) → g (body old n) ≡ true → (has now n ≡ true) × (g (body now n) ≡ true)
    goes_on n on = by_now (has now n) refl
      where
        there : has old n ≡ true
        there = known_by old g fails n on

        by_nodes : has now n ≡ true → (b : Bool) → is_in m.nodes n ≡ b → (has now n ≡ true) × (g (body now n) ≡ true)
        by_nodes still true marked = absurd (false≢true (sym (clear_old n (inl marked)) ∙ on))
        by_nodes still false apart = (still, sym (ap g (s.bodies n still there apart)) ∙ on)

        by_now : (b : Bool) → has now n ≡ b → (has now n ≡ true) × (g (body now n) ≡ true)
        by_now true still = by_nodes still (is_in m.nodes n) refl
        by_now false lost = absurd (false≢true (sym (clear_old n (inr (s.gone n there lost))) ∙ on))

    came_from : (n : ℕ) → g (body now n) ≡ true → (has old n ≡ true) × (g (body old n) ≡ true)
    came_from n on = by_top (s.top n) (is_in m.nodes n) refl refl
      where
        there : has now n ≡ true
        there = known_by now g fails n on

        by_top : (a b : Bool) → s.top n ≡ a → is_in m.nodes n ≡ b → (has old n ≡ true) × (g (body old n) ≡ true)
        by_top true b hung marked = absurd (false≢true (sym (clear_now n (inr hung)) ∙ on))
        by_top false true hung marked = absurd (false≢true (sym (clear_now n (inl marked)) ∙ on))
        by_top false false hung apart = let was = s.was n there hung in (was, ap g (s.bodies n there was apart) ∙ on)

    pub passing_same : filter (λ n. g (body old n)) (ids old) ≡ filter (λ n. g (body now n)) (ids now)
    passing_same = rising_same (filter (λ n. g (body old n)) (ids old)) (filter (λ n. g (body now n)) (ids now))
        (IsStrictlyIncreasing-filter (λ n. g (body old n)) (ids old) s.was_tree.rising) (IsStrictlyIncreasing-filter (λ n. g (body now n)) (ids now) s.is_tree.rising)
        (λ n inside. let r = kept_cases (λ n. g (body old n)) (ids old) n inside in let q = goes_on n r.1 in kept_in (λ n. g (body now n)) (ids now) n (among_ids now.nodes n q.0) q.1)
        (λ n inside. let r = kept_cases (λ n. g (body now n)) (ids now) n inside in let q = came_from n r.1 in kept_in (λ n. g (body old n)) (ids old) n (among_ids old.nodes n q.0) q.1)

  -- the elements that refer to a text, where none that changed does
  pub namers_same : (x : Chars)
      → ((n : ℕ) → (is_in m.nodes n ≡ true) ⊎ ((r : ℕ) × (s.top r ≡ true) × Contains (subtree old r) n) → names_text x (body old n) ≡ false)
      → ((n : ℕ) → (is_in m.nodes n ≡ true) ⊎ (s.top n ≡ true) → names_text x (body now n) ≡ false)
      → namers old x ≡ namers now x
  namers_same x before after = passing_same (names_text x) (names_nothing x) before after

  -- the elements with an id that no marked node carries
  pub carriers_same : (x : Chars) → IsFree old now m s x → carriers old x ≡ carriers now x
  carriers_same x free = rising_same (carriers old x) (carriers now x)
      (IsStrictlyIncreasing-filter (λ n. has_id x (body old n)) (ids old) s.was_tree.rising) (IsStrictlyIncreasing-filter (λ n. has_id x (body now n)) (ids now) s.is_tree.rising)
      (λ n inside. let r = kept_cases (λ n. has_id x (body old n)) (ids old) n inside in
      let q = goes_on (has_id x) refl (λ k near. clear_test old now m s x free (has_id x) (carried_id x) (body old k) (s.texts_were k x near)) clear_later n r.1 in
      kept_in (λ n. has_id x (body now n)) (ids now) n (among_ids now.nodes n q.0) q.1)
      (λ n inside. let r = kept_cases (λ n. has_id x (body now n)) (ids now) n inside in
      let there = known_by now (has_id x) refl n r.1 in
      let quiet = carrier_quiet old now m s x free n there (carried_id x (body now n) r.1) in
      kept_in (λ n. has_id x (body old n)) (ids old) n (among_ids old.nodes n (quiet_was old now m s n quiet)) (ap (has_id x) (quiet_body old now m s n quiet) ∙ r.1))
    where
      clear_later : (n : ℕ) → (is_in m.nodes n ≡ true) ⊎ (s.top n ≡ true) → has_id x (body now n) ≡ false
      clear_later n near = go (has_id x (body now n)) refl near
        where
          go : (b : Bool) → has_id x (body now n) ≡ b → (is_in m.nodes n ≡ true) ⊎ (s.top n ≡ true) → b ≡ false
          go false off near = refl
          go true on (inl marked) = absurd (false≢true (sym (unmarked old now m s n (carrier_quiet old now m s x free n (known_by now (has_id x) refl n on) (carried_id x (body now n) on))) ∙ marked))
          go true on (inr hung) =
              let quiet = carrier_quiet old now m s x free n (known_by now (has_id x) refl n on) (carried_id x (body now n) on) in
              absurd (false≢true (sym (none_at (is_in m.roots) (lineage now n) n (quiet_unrooted old now m s n quiet).1 (lineage_head now n)) ∙ s.rooted n quiet.0 hung))
