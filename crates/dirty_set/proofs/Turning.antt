-- Only the node that an edit names by its first key can hide, leave out or set otherwise than before.
use Rattle.std.proofs.Common.{◌≡◌, ◌≢◌, inl, inr, ℕ, [], ◌∷◌, Bool, true, false, cond, not, ◌&&◌, Option, Some, None, Contains, refl, sym, ap, subst, ◌∙◌, arith}
use Rattle.std.specs.Option.{option_eq}
use Rattle.std.specs.List.Sorted.{IsStrictlyIncreasing}
use Rattle.std.proofs.lemmas.Bool.{false≢true}
use Rattle.std.proofs.lemmas.Bool.Decides.{eqb_tells}
use Rattle.std.proofs.lemmas.Option.{same_Some}
use Rattle.std.proofs.lemmas.List.Kept.{IsStrictlyIncreasing-filter}
use mathlib.Core.Bool.{beq}
use Rattle.ax_base.specs.declared.states.Live.{Live}
use Rattle.ax_base.specs.declared.states.Live.TheVariants.{Off, Polite, Assertive}
use Rattle.ax_base.specs.contracts.states.LivePartialEq.TheImpl as lives
use Rattle.ax_base.specs.Document.{Document, root, body, has, ids}
use Rattle.ax_base.specs.Trees.{IsTree}
use Rattle.ax_base.proofs.Joins.{Contains-cases}
use Rattle.ax_base.proofs.Membership.{Contains-head}
use Rattle.ax_base.proofs.Places.{among_ids}
use Rattle.ax_base.proofs.Rising.{rising_same}
use Rattle.ax_dom.specs.declared.edit.Edit.{Edit}
use Rattle.ax_dom.specs.declared.cell.Cell.{Cell}
use Rattle.ax_dom.specs.NodeMaps.{cell_of, cell_at}
use Rattle.ax_dom.specs.Changes.{edited}
use Rattle.ax_dom.specs.Refusals.{edit_cause}
use Rattle.ax_dom.specs.Used.{is_used}
use Rattle.dirty_set.specs.Marking.{Own, own_at, own, same_own, key_of, turned}
use Rattle.dirty_set.proofs.Closing.{has_id}
use Rattle.dirty_set.proofs.Edits.{kept_in}
use Rattle.dirty_set.proofs.EveryEdit.{free_from, bodies_stay}
use Rattle.dirty_set.proofs.Firsts.{kept_cases}

-- whether both documents have a node and it is otherwise than before
abbrev pub turns : Document → Document → ℕ → Bool
turns old now n = has old n && (has now n && not (same_own (own old n) (own now n)))

same_bool : (b : Bool) → beq b b ≡ true
same_bool true = refl
same_bool false = refl

same_live : (o : Option Live) → option_eq lives.ghosts.eq o o ≡ true
same_live None = refl
same_live (Some Off) = refl
same_live (Some Polite) = refl
same_live (Some Assertive) = refl

same_self : (a : Own) → same_own a a ≡ true
same_self a = λ i. same_bool a.hides i && (same_bool a.prunes i && same_live a.live i)

both_on : (a b : Bool) → (a && b) ≡ true → (a ≡ true) × (b ≡ true)
both_on true b on = (refl, on)
both_on false b on = absurd (false≢true on)

one_rises : (n : ℕ) → IsStrictlyIncreasing (n ∷ [])
one_rises n = λ k low. absurd (omega arith)

pub none_rises : IsStrictlyIncreasing []
none_rises = λ k low. absurd (omega arith)

-- what a look for a cell tells
cell_there : (d : Document) (n : ℕ) (cell : Cell) → Some cell ≡ cell_at d n → (has d n ≡ true) × (cell.body ≡ body d n)
cell_there d n cell is = go (has d n) refl is
  where
    go : (b : Bool) → has d n ≡ b → Some cell ≡ cond b (Some (cell_of d n)) None → (has d n ≡ true) × (cell.body ≡ body d n)
    go true there is = (there, ap (λ (c : Cell). c.body) (same_Some cell (cell_of d n) is))
    go false there is = cc

no_cell : (d : Document) (n : ℕ) → None ≡ cell_at d n → has d n ≡ false
no_cell d n is = go (has d n) refl is
  where
    go : (b : Bool) → has d n ≡ b → None ≡ cond b (Some (cell_of d n)) None → has d n ≡ false
    go true there is = cc
    go false there is = there

module _ (old now : Document) (n : ℕ) where
  pub no_second : (own_was : Own) → None ≡ cell_at now n → false ≡ (has now n && not (same_own own_was (own now n)))
  no_second own_was none = sym (ap (λ b. b && not (same_own own_was (own now n))) (no_cell now n none))

  pub second_is : (own_was : Own) (is : Cell) → Some is ≡ cell_at now n → (r : Bool) → r ≡ not (same_own own_was (own_at (record { id = n; body = is.body }))) → r ≡ (has now n && not (same_own own_was (own now n)))
  second_is own_was is at r same =
      let b = cell_there now n is at in
      same ∙ ap (λ x. not (same_own own_was (own_at (record { id = n; body = x })))) b.1 ∙ sym (ap (λ x. x && not (same_own own_was (own now n))) b.0)

  pub no_first : None ≡ cell_at old n → false ≡ turns old now n
  no_first none = sym (ap (λ b. b && (has now n && not (same_own (own old n) (own now n)))) (no_cell old n none))

  pub first_is : (was : Cell) → Some was ≡ cell_at old n → (r : Bool) → r ≡ (has now n && not (same_own (own_at (record { id = n; body = was.body })) (own now n))) → r ≡ turns old now n
  first_is was at r same =
      let a = cell_there old n was at in
      same ∙ ap (λ x. has now n && not (same_own (own_at (record { id = n; body = x })) (own now n))) a.1 ∙ sym (ap (λ x. x && (has now n && not (same_own (own old n) (own now n)))) a.0)

module _ (old now : Document) (e : Edit) (t : IsTree old) (u : IsTree now) (inserted : (n : ℕ) → has old n ≡ true → n ≢ root → is_used old n ≡ true) (free : edit_cause old e ≡ None) (leads : now ≡ edited old e) where
  stays : (q : ℕ) → has old q ≡ true → has now q ≡ true → ((n : ℕ) → key_of e ≡ Some n → n ≢ q) → body old q ≡ body now q
  stays = subst (λ d. IsTree d → (q : ℕ) → has old q ≡ true → has d q ≡ true → ((n : ℕ) → key_of e ≡ Some n → n ≢ q) → body old q ≡ body d q) (sym leads)
      (λ v. bodies_stay old t inserted e (free_from old e free) v) u

  apart_same : (q : ℕ) → ((n : ℕ) → key_of e ≡ Some n → n ≢ q) → has now q ≡ true → has old q ≡ true → same_own (own old q) (own now q) ≡ true
  apart_same q apart is was = ap (λ b. same_own (own old q) (own_at (record { id = q; body = b }))) (sym (stays q was is apart)) ∙ same_self (own old q)

  -- what is turned is the node that the edit names first
  is_key : (q : ℕ) → Contains (turned old now) q → turns old now q ≡ true
  is_key q inside =
      let r = kept_cases (λ n. has old n && not (same_own (own old n) (own now n))) (ids now) q inside in
      let p = both_on (has old q) (not (same_own (own old q) (own now q))) r.1 in
      λ i. p.0 i && (has_id now.nodes q r.0 i && p.1 i)

  only_key : (q : ℕ) → Contains (turned old now) q → ((n : ℕ) → key_of e ≡ Some n → n ≢ q) → ⊥
  only_key q inside apart =
      let r = kept_cases (λ n. has old n && not (same_own (own old n) (own now n))) (ids now) q inside in
      let p = both_on (has old q) (not (same_own (own old q) (own now q))) r.1 in
      false≢true (ap not (sym (apart_same q apart (has_id now.nodes q r.0) p.0)) ∙ p.1)

  rises : IsStrictlyIncreasing (turned old now)
  rises = IsStrictlyIncreasing-filter (λ n. has old n && not (same_own (own old n) (own now n))) (ids now) u.rising

  -- with no such node nothing is turned
  pub none_turned : key_of e ≡ None → turned old now ≡ []
  none_turned none = rising_same (turned old now) [] rises none_rises
      (λ n inside. absurd (only_key n inside (λ m is. λ same. nothing m (sym none ∙ is))))
      (λ n inside. absurd (omega arith))
    where
      nothing : (m : ℕ) → None ≡ Some m → ⊥
      nothing m is = cc

  pub turned_is : (id : ℕ) → key_of e ≡ Some id → turned old now ≡ cond (turns old now id) (id ∷ []) []
  turned_is id key = go (turns old now id) refl
    where
      apart_from : (q : ℕ) → id ≢ q → (n : ℕ) → key_of e ≡ Some n → n ≢ q
      apart_from q other n is same = other (named n (sym key ∙ is) ∙ same)
        where
          named : (n : ℕ) → Some id ≡ Some n → id ≡ n
          named n is = cc

      is_id : (q : ℕ) → Contains (turned old now) q → id ≡ q
      is_id q inside = elim (eqb_tells id q) [
        | inl (_, same) ↦ same
        | inr (_, other) ↦ absurd (only_key q inside (apart_from q other))
      ]

      go : (b : Bool) → turns old now id ≡ b → turned old now ≡ cond b (id ∷ []) []
      go true on =
          let r = both_on (has old id) (has now id && not (same_own (own old id) (own now id))) on in
          let p = both_on (has now id) (not (same_own (own old id) (own now id))) r.1 in
          rising_same (turned old now) (id ∷ []) rises (one_rises id)
          (λ n inside. subst (Contains (id ∷ [])) (is_id n inside) (Contains-head id []))
          (λ n inside. elim (Contains-cases n id [] inside) [
            | inl same ↦ subst (Contains (turned old now)) same (kept_in (λ k. has old k && not (same_own (own old k) (own now k))) (ids now) id (among_ids now.nodes id p.0) (λ i. r.0 i && p.1 i))
            | inr more ↦ absurd (no_more n more)
          ])
        where
          no_more : (n : ℕ) → Contains [] n → ⊥
          no_more n more = omega arith
      go false off = rising_same (turned old now) [] rises none_rises
          (λ n inside. absurd (false≢true (sym off ∙ ap (turns old now) (is_id n inside) ∙ is_key n inside)))
          (λ n inside. absurd (omega arith))

  pub turned_on : (id : ℕ) → key_of e ≡ Some id → true ≡ turns old now id → turned old now ≡ id ∷ []
  turned_on id key on = turned_is id key ∙ ap (λ b. cond b (id ∷ []) []) (sym on)

  pub turned_off : (id : ℕ) → key_of e ≡ Some id → false ≡ turns old now id → turned old now ≡ []
  turned_off id key off = turned_is id key ∙ ap (λ b. cond b (id ∷ []) []) (sym off)
