-- What is outside of the reach of marks is as it was.
use Rattle.std.proofs.Common.{◌≡◌, ℕ, List, Bool, true, false, Some, refl, sym, ap, ◌∙◌}
use Rattle.std.specs.Prelude.{nat_eq}
use Rattle.std.specs.List.{list_any}
use Rattle.std.specs.Option.{option_map_or}
use Rattle.std.specs.Cmp.{nat_eq_equiv}
use Rattle.std.specs.List.Sorted.{IsStrictlyIncreasing}
use Rattle.std.proofs.lemmas.Bool.{false≢true, or_left, or_right, eqb-true, eq-eqb}
use Rattle.std.proofs.lemmas.Map.Views.{Contains-from_any, list_any-from_Contains}
use Rattle.ax_base.specs.Document.{Document, has, body}
use Rattle.ax_base.specs.Roles.{ignored}
use Rattle.ax_base.specs.Trees.{IsTree}
use Rattle.ax_base.proofs.Places.{has_children}
use Rattle.ax_dom.specs.Among.{is_in, IsClosedUp}
use Rattle.dirty_set.specs.Reach.{Marked, is_at_marks, is_focus, is_source, ties_to, is_tied, is_label_of_tied, is_touched, is_reached, reach}
use Rattle.dirty_set.specs.Covers.{Covers}
use Rattle.dirty_set.proofs.Follows.{lineage_head}
use Rattle.dirty_set.proofs.Nearness.{at_lineage, within_up, kept_there, there_kept, kept_rises}
use Rattle.ctx_pass.specs.declared.standing.Standing.{Standing}
use Rattle.ctx_pass.specs.Contexts.{standing}
use Rattle.ctx_pass.specs.Contexts.{AreContextsOf, IsContextKept}
use Rattle.ax_roles.specs.Inclusion.{inclusion_by}
use Rattle.kids_pass.specs.declared.children.NodeKids.{NodeKids}
use Rattle.kids_pass.specs.Kids.{AreKidsOf, IsKidsKept}
use Rattle.said_pass.specs.declared.saids.Saids.{Saids}
use Rattle.said_pass.specs.Saids.{AreSaidsOf, IsSaidKept}
use Rattle.said_pass.proofs.Same.{kept_same}
use Rattle.tree_diff.specs.Alike.{AreAlikeBut}
use Rattle.live_tree.specs.declared.passes.Passes.{Passes}
use Rattle.live_tree.specs.Living.{HasFocusAmong, ArePassesOf, ArePassesBut}

module _ (d : Document) (t : IsTree d) (m : Marked) where
  pub reach_rises : IsStrictlyIncreasing (reach d m)
  reach_rises = kept_rises d t (is_reached d m)

  pub reach_closed : IsClosedUp d (reach d m)
  reach_closed p c child on =
      let k = kept_there d t (is_reached d m) c (Contains-from_any eqb-true c (reach d m) on) in
      list_any-from_Contains nat_eq_equiv p (reach d m) (there_kept d t (is_reached d m) p (has_children d p c child) (within_up d t (is_touched d m) p c child k.1))

  -- what is reached is there
  pub reach_known : (n : ℕ) → is_in (reach d m) n ≡ true → has d n ≡ true
  reach_known n on = (kept_there d t (is_reached d m) n (Contains-from_any eqb-true n (reach d m) on)).0

  -- the focused node is reached
  pub reach_focused : HasFocusAmong d (reach d m)
  reach_focused n is =
      let there = t.focused n is in
      let on : is_focus d n ≡ true = ap (λ o. option_map_or (nat_eq n) o false) is ∙ eq-eqb n n refl in
      let source = or_right (is_at_marks m.nodes m.roots d n) (is_focus d n) on in
      let tied = or_left (is_source d m n) (list_any (ties_to (body d n)) m.texts) source in
      let touched = or_left (is_tied d m n) (is_label_of_tied d m n) tied in
      list_any-from_Contains nat_eq_equiv n (reach d m) (there_kept d t (is_reached d m) n there (at_lineage d t (is_touched d m) n n there (lineage_head d n) touched).1)

  unreached : (n : ℕ) → has d n ≡ true → is_in (reach d m) n ≡ false → is_reached d m n ≡ false
  unreached n there out = go (is_reached d m n) refl
    where
      go : (b : Bool) → is_reached d m n ≡ b → b ≡ false
      go true on = absurd (false≢true (sym out ∙ list_any-from_Contains nat_eq_equiv n (reach d m) (there_kept d t (is_reached d m) n there on)))
      go false off = refl

  module _ (old : Document) (covers : Covers old d m) where
    pub still_alike : AreAlikeBut old d (reach d m)
    still_alike n there out =
        let s = covers n there (unreached n there out) in
        record { was = s.was; body_same = s.body_same; out = s.out; live = s.live; kids_are = s.kids_are; name = s.name; description = s.description }

    contexts_kept : (kept : List (ℕ × Standing)) → AreContextsOf old kept → (n : ℕ) → has d n ≡ true → is_in (reach d m) n ≡ false → IsContextKept d kept n
    contexts_kept kept are n there out =
        let s = covers n there (unreached n there out) in
        are n s.was ∙ (λ i. Some (standing (record { hidden = s.hidden i; pruned = s.pruned i; live = s.live i }) (record { id = n; body = s.body_same i })))

    kids_kept : (kept : List (ℕ × NodeKids)) → AreKidsOf old kept → (n : ℕ) → has d n ≡ true → is_in (reach d m) n ≡ false → IsKidsKept d kept n
    kids_kept kept are n there out =
        let s = covers n there (unreached n there out) in
        are n s.was ∙ (λ i. Some (record { inclusion = inclusion_by (s.out i) (ignored (record { id = n; body = s.body_same i })); kids = s.kids_are i }))

    saids_kept : (kept : Saids) → AreSaidsOf old kept → (n : ℕ) → has d n ≡ true → is_in (reach d m) n ≡ false → IsSaidKept d kept n
    saids_kept kept are n there out =
        let s = covers n there (unreached n there out) in
        kept_same old d n s.body_same s.said s.all_said s.part_said s.name s.description kept (record { text = are.texts n s.was; name = are.names n s.was })

    -- what is kept of each node outside of the reach stays right
    pub passes_kept : (p : Passes) → ArePassesOf old p → ArePassesBut d p (reach d m)
    passes_kept p are = record { contexts = contexts_kept p.contexts are.contexts; kids = kids_kept p.kids are.kids; saids = saids_kept p.saids are.saids }
