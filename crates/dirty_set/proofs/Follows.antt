-- What stays the same from one document to the next, outside what an edit marks.
use Rattle.std.proofs.Common.{◌≡◌, ◌⊎◌, inl, inr, ℕ, zero, suc, ◌≤◌, ◌-◌, List, [], ◌∷◌, Bool, true, false, not, ◌||◌, Option, Some, None, Contains, refl, sym, ap, subst, ◌∙◌, arith}
use Rattle.std.specs.Prelude.{filter}
use Rattle.std.specs.List.{list_any}
use Rattle.std.specs.Option.{option_map_or, unwrap_or}
use Rattle.std.proofs.lemmas.Bool.{false≢true, or_parts}
use Rattle.ax_base.specs.Characters.{Chars}
use Rattle.ax_base.specs.Document.{Document, Spot, spot, body, has, children, parent, lineage, lineage_within, ancestors, preorder, from_children, IsChild}
use Rattle.ax_base.specs.Trees.{IsTree}
use Rattle.ax_base.specs.Roles.{hides, prunes, ignored}
use Rattle.ax_base.specs.Kids.{standing, kids_from, kids}
use Rattle.ax_base.specs.Said.{said0_from, said0, said_all_from, said_all}
use Rattle.ax_base.specs.Context.{is_hidden, is_presentational_descendant, is_out, first_live, live_at}
use Rattle.ax_base.proofs.Below.{from_below_same}
use Rattle.ax_base.proofs.Joins.{Contains-cases}
use Rattle.ax_base.proofs.Membership.{Contains-head, Contains-tail}
use Rattle.ax_base.proofs.Places.{has_children, lineage-child}
use Rattle.ax_dom.specs.Subtrees.{subtree}
use Rattle.ax_dom.proofs.Subtrees.{subtree_has, subtree_cases, within_child, within_known}
use Rattle.ax_dom.proofs.Walks.{child_from_parent}
use Rattle.ax_dom.specs.Among.{is_in, has_within}
use Rattle.dom_ids.specs.References.{is_text_in, carried}
use Rattle.dirty_set.specs.Reach.{Marked, is_at_marks, is_focus}
use Rattle.dirty_set.specs.Marking.{Own, own}
use Rattle.dirty_set.proofs.Tests.{none_at, none, any_same}

-- One document comes from another by a change that the marks tell.
pub record Follows (old now : Document) (m : Marked) : Type 0 where
  pub was_tree : IsTree old
  pub is_tree : IsTree now
  -- whether a node is hung anew, or is taken out, with all that is below it
  pub top : ℕ → Bool
  pub was : (n : ℕ) → has now n ≡ true → top n ≡ false → has old n ≡ true
  pub rooted : (n : ℕ) → has now n ≡ true → top n ≡ true → is_in m.roots n ≡ true
  pub gone : (n : ℕ) → has old n ≡ true → has now n ≡ false → (r : ℕ) × (top r ≡ true) × Contains (subtree old r) n
  pub bodies : (n : ℕ) → has now n ≡ true → has old n ≡ true → is_in m.nodes n ≡ false → body old n ≡ body now n
  pub same_children : (n : ℕ) → has now n ≡ true → has old n ≡ true → is_in m.nodes n ≡ false → children old n ≡ children now n
  pub parents : (n : ℕ) → has now n ≡ true → top n ≡ false → parent old n ≡ parent now n
  pub owns : (n : ℕ) → has now n ≡ true → is_in m.roots n ≡ false → own old n ≡ own now n
  pub hung : (n : ℕ) → has now n ≡ true → has old n ≡ true → filter (λ c. not (top c)) (children old n) ≡ filter (λ c. not (top c)) (children now n)
  pub focus_was : (n : ℕ) → is_focus old n ≡ true → is_in m.nodes n ≡ true
  pub focus_is : (n : ℕ) → is_focus now n ≡ true → is_in m.nodes n ≡ true
  pub texts_were : (n : ℕ) (x : Chars) → (is_in m.nodes n ≡ true) ⊎ ((r : ℕ) × (top r ≡ true) × Contains (subtree old r) n) → Contains (carried (body old n)) x → is_text_in m.texts x ≡ true
  pub texts_are : (n : ℕ) (x : Chars) → has_within now (is_at_marks m.nodes m.roots now) n ≡ true → Contains (carried (body now n)) x → is_text_in m.texts x ≡ true

pub lineage_head : (d : Document) (n : ℕ) → Contains (lineage d n) n
unfolding lineage_within
lineage_head d n = Contains-head n _

-- what is in a lineage is in the document
pub lineage_known : (d : Document) (levels n a : ℕ) → has d n ≡ true → Contains (lineage_within levels d n) a → has d a ≡ true
unfolding lineage_within
lineage_known d zero n a there inside = elim (Contains-cases a n [] inside) [ inl is ↦ ap (has d) (sym is) ∙ there | inr more ↦ absurd (omega (arith, more)) ]
lineage_known d (suc levels) n a there inside = elim (Contains-cases a n _ inside) [
  | inl is ↦ ap (has d) (sym is) ∙ there
  | inr more ↦ go (parent d n) refl more (λ p known in_p. lineage_known d levels p a known in_p)
]
  where
    go : (o : Option ℕ) → parent d n ≡ o → Contains (option_map_or (lineage_within levels d) o []) a
        → ((p : ℕ) → has d p ≡ true → Contains (lineage_within levels d p) a → has d a ≡ true) → has d a ≡ true
    go None is inside rest = absurd (omega arith)
    go (Some p) is inside rest = rest p (has_children d p n (child_from_parent d n p is)) inside

-- what is within a node within another is within that
pub within_below : (d : Document) (t : IsTree d) (n q k : ℕ) → Contains (subtree d n) q → Contains (subtree d q) k → Contains (subtree d n) k
within_below d t n q k inside below = by_level (64 - t.level q) q k (omega arith) inside below
  where
    by_level : (r q k : ℕ) → 64 - t.level q ≤ r → Contains (subtree d n) q → Contains (subtree d q) k → Contains (subtree d n) k
    by_level zero q k low inside below = elim (subtree_cases d t q k below) [
      | inl is ↦ subst (Contains (subtree d n)) is inside
      | inr (c, child, more) ↦ (let e = t.deeper q c child in let f = t.shallow c in absurd (omega arith))
    ]
    by_level (suc r) q k low inside below = elim (subtree_cases d t q k below) [
      | inl is ↦ subst (Contains (subtree d n)) is inside
      | inr (c, child, more) ↦ (let e = t.deeper q c child in let f = t.shallow c in by_level r c k (omega arith) (within_child d t n q c inside child) more)
    ]

module _ (old now : Document) (m : Marked) (s : Follows old now m) where
  -- no ancestor is a marked root
  abbrev pub IsUnrooted : ℕ → Type 0
  IsUnrooted n = (has now n ≡ true) × (list_any (is_in m.roots) (lineage now n) ≡ false)

  -- nothing at or below the node is marked, and it is not below a marked root
  abbrev pub IsQuiet : ℕ → Type 0
  IsQuiet n = (has now n ≡ true) × (has_within now (is_at_marks m.nodes m.roots now) n ≡ false)

  no_top : (n : ℕ) → has now n ≡ true → is_in m.roots n ≡ false → s.top n ≡ false
  no_top n there off = go (s.top n) refl
    where
      go : (b : Bool) → s.top n ≡ b → b ≡ false
      go true on = absurd (false≢true (sym off ∙ s.rooted n there on))
      go false off = refl

  lineage_alike : (levels n : ℕ) → has now n ≡ true → list_any (is_in m.roots) (lineage_within levels now n) ≡ false → lineage_within levels old n ≡ lineage_within levels now n
  unfolding lineage_within
  lineage_alike zero n there off = refl
  lineage_alike (suc levels) n there off =
      let parts = or_parts (is_in m.roots n) (list_any (is_in m.roots) (option_map_or (lineage_within levels now) (parent now n) [])) off in
      (λ i. n ∷ option_map_or (lineage_within levels old) (s.parents n there (no_top n there parts.0) i) [])
      ∙ ap (λ l. n ∷ l) (go (parent now n) refl parts.1 (λ p known free. lineage_alike levels p known free))
    where
      go : (o : Option ℕ) → parent now n ≡ o → list_any (is_in m.roots) (option_map_or (lineage_within levels now) o []) ≡ false
          → ((p : ℕ) → has now p ≡ true → list_any (is_in m.roots) (lineage_within levels now p) ≡ false → lineage_within levels old p ≡ lineage_within levels now p)
          → option_map_or (lineage_within levels old) o [] ≡ option_map_or (lineage_within levels now) o []
      go None is free rest = refl
      go (Some p) is free rest = rest p (has_children now p n (child_from_parent now n p is)) free

  pub lineage_same : (n : ℕ) → IsUnrooted n → lineage old n ≡ lineage now n
  lineage_same n un = lineage_alike 64 n un.0 un.1

  -- each node of its lineage does by itself what it did
  own_above : (n a : ℕ) → IsUnrooted n → Contains (lineage now n) a → own old a ≡ own now a
  own_above n a un inside = s.owns a (lineage_known now 64 n a un.0 inside) (none_at (is_in m.roots) (lineage now n) a un.1 inside)

  pub hidden_same : (n : ℕ) → IsUnrooted n → is_hidden old n ≡ is_hidden now n
  hidden_same n un =
      ap (list_any (λ a. hides (spot old a))) (lineage_same n un)
      ∙ any_same (λ a. hides (spot old a)) (λ a. hides (spot now a)) (lineage now n) (λ a inside. ap (λ (o : Own). o.hides) (own_above n a un inside))

  first_live_same : (ns : List ℕ) → ((a : ℕ) → Contains ns a → own old a ≡ own now a) → first_live old ns ≡ first_live now ns
  first_live_same [] each = refl
  first_live_same (n ∷ ns) each = λ i. unwrap_or ((each n (Contains-head n ns) i).live) (first_live_same ns (λ a inside. each a (Contains-tail n a ns inside)) i)

  pub live_same : (n : ℕ) → IsUnrooted n → live_at old n ≡ live_at now n
  live_same n un = ap (first_live old) (lineage_same n un) ∙ first_live_same (lineage now n) (λ a inside. own_above n a un inside)

  -- an ancestor hides, prunes: the same above
  ancestors_alike : (n : ℕ) → IsUnrooted n → (parent old n ≡ parent now n) → ((p : ℕ) → parent now n ≡ Some p → IsUnrooted p) → ancestors old n ≡ ancestors now n
  ancestors_alike n un same above = ap (λ o. option_map_or (lineage old) o []) same ∙ go (parent now n) (λ p is. lineage_same p (above p is))
    where
      go : (o : Option ℕ) → ((p : ℕ) → o ≡ Some p → lineage old p ≡ lineage now p) → option_map_or (lineage old) o [] ≡ option_map_or (lineage now) o []
      go None each = refl
      go (Some p) each = each p refl

  pub parent_unrooted : (n p : ℕ) → IsUnrooted n → parent now n ≡ Some p → IsUnrooted p
  parent_unrooted n p un is =
      let child : IsChild now p n = child_from_parent now n p is in
      (has_children now p n child, (or_parts (is_in m.roots n) (list_any (is_in m.roots) (lineage now p)) (ap (list_any (is_in m.roots)) (sym (lineage-child now s.is_tree p n child)) ∙ un.1)).1)

  pub ancestors_same : (n : ℕ) → IsUnrooted n → ancestors old n ≡ ancestors now n
  ancestors_same n un = ancestors_alike n un (s.parents n un.0 (no_top n un.0 (none_at (is_in m.roots) (lineage now n) n un.1 (lineage_head now n)))) (λ p is. parent_unrooted n p un is)

  ancestor_above : (n a : ℕ) → IsUnrooted n → Contains (ancestors now n) a → own old a ≡ own now a
  ancestor_above n a un inside = go (parent now n) refl inside
    where
      go : (o : Option ℕ) → parent now n ≡ o → Contains (option_map_or (lineage now) o []) a → own old a ≡ own now a
      go None is inside = absurd (omega arith)
      go (Some p) is inside = own_above p a (parent_unrooted n p un is) inside

  pub pruned_same : (n : ℕ) → IsUnrooted n → is_presentational_descendant old n ≡ is_presentational_descendant now n
  pruned_same n un =
      ap (list_any (λ a. prunes (spot old a))) (ancestors_same n un)
      ∙ any_same (λ a. prunes (spot old a)) (λ a. prunes (spot now a)) (ancestors now n) (λ a inside. ap (λ (o : Own). o.prunes) (ancestor_above n a un inside))

  pub out_same : (n : ℕ) → IsUnrooted n → is_out old n ≡ is_out now n
  out_same n un = λ i. hidden_same n un i || pruned_same n un i

  -- a quiet node is neither marked nor below a marked root, and so is each node below it
  at_node : (n : ℕ) → IsQuiet n → is_at_marks m.nodes m.roots now n ≡ false
  at_node n quiet = none_at (is_at_marks m.nodes m.roots now) (subtree now n) n quiet.1 (subtree_has now s.is_tree n)

  pub quiet_unrooted : (n : ℕ) → IsQuiet n → IsUnrooted n
  quiet_unrooted n quiet = (quiet.0, (or_parts (is_in m.nodes n) (list_any (is_in m.roots) (lineage now n)) (at_node n quiet)).1)

  pub unmarked : (n : ℕ) → IsQuiet n → is_in m.nodes n ≡ false
  unmarked n quiet = (or_parts (is_in m.nodes n) (list_any (is_in m.roots) (lineage now n)) (at_node n quiet)).0

  pub quiet_was : (n : ℕ) → IsQuiet n → has old n ≡ true
  quiet_was n quiet = s.was n quiet.0 (no_top n quiet.0 (none_at (is_in m.roots) (lineage now n) n (quiet_unrooted n quiet).1 (lineage_head now n)))

  pub quiet_body : (n : ℕ) → IsQuiet n → body old n ≡ body now n
  quiet_body n quiet = s.bodies n quiet.0 (quiet_was n quiet) (unmarked n quiet)

  pub quiet_spot : (n : ℕ) → IsQuiet n → spot old n ≡ spot now n
  quiet_spot n quiet = λ i. record { id = n; body = quiet_body n quiet i }

  pub quiet_children : (n : ℕ) → IsQuiet n → children old n ≡ children now n
  quiet_children n quiet = s.same_children n quiet.0 (quiet_was n quiet) (unmarked n quiet)

  pub quiet_within : (n q : ℕ) → IsQuiet n → Contains (subtree now n) q → IsQuiet q
  quiet_within n q quiet inside = (
    within_known now s.is_tree n q quiet.0 inside,
    none (is_at_marks m.nodes m.roots now) (subtree now q) (λ k below on. false≢true (sym (none_at (is_at_marks m.nodes m.roots now) (subtree now n) k quiet.1 (within_below now s.is_tree n q k inside below)) ∙ on)),
  )

  pub quiet_child : (n c : ℕ) → IsQuiet n → IsChild now n c → IsQuiet c
  quiet_child n c quiet child = quiet_within n c quiet (within_child now s.is_tree n n c (subtree_has now s.is_tree n) child)

  quiet_old_child : (n c : ℕ) → IsQuiet n → IsChild old n c → IsQuiet c
  quiet_old_child n c quiet child = quiet_child n c quiet (subst (λ cs. Contains cs c) (quiet_children n quiet) child)

  -- what a definition makes of a quiet node out of spots below it is the same
  pub fold_same : {A : Type 0} (make : Spot → List (Spot × A) → A) (n : ℕ) → IsQuiet n → from_children make old n ≡ from_children make now n
  fold_same make n quiet = from_below_same make (spot old) (spot now) (children old) (children now) IsQuiet quiet_spot quiet_children quiet_old_child 64 n quiet

  pub subtree_same : (n : ℕ) → IsQuiet n → subtree old n ≡ subtree now n
  subtree_same n quiet = fold_same preorder n quiet

  pub said0_same : (n : ℕ) → IsQuiet n → said0 old n ≡ said0 now n
  said0_same n quiet = fold_same said0_from n quiet

  pub said_all_same : (n : ℕ) → IsQuiet n → said_all old n ≡ said_all now n
  said_all_same n quiet = fold_same said_all_from n quiet

  standing_same : (n : ℕ) → IsQuiet n → standing old n ≡ standing now n
  standing_same n quiet = λ i. record { id = n; out = out_same n (quiet_unrooted n quiet) i; ignored = ignored (quiet_spot n quiet i) }

  pub kids_same : (n : ℕ) → IsQuiet n → kids old n ≡ kids now n
  kids_same n quiet = from_below_same kids_from (standing old) (standing now) (children old) (children now) IsQuiet standing_same quiet_children quiet_old_child 64 n quiet
