-- Records differ only at nodes that are not alike, and at what hangs on them.
use Rattle.std.proofs.Common.{◌≡◌, ◌⊎◌, inl, inr, ℕ, List, Bool, true, false, cond, Some, None, Contains, refl, sym, ap, subst, ◌∙◌, arith}
use Rattle.std.proofs.lemmas.Bool.{false≢true}
use Rattle.ax_base.specs.Document.{Document, has, root, spot}
use Rattle.ax_base.specs.Trees.{IsTree}
use Rattle.ax_base.specs.Roles.{role, ignored}
use Rattle.ax_base.specs.States.{value, states, level}
use Rattle.ax_base.specs.Kids.{kids, objects}
use Rattle.ax_base.proofs.Objects.{kids_known, objects_known, objects_shown, objects_hung, one_holder}
use Rattle.ax_base.proofs.KidsLaws.{kids_deeper}
use Rattle.ax_record.specs.Tree.{record_at}
use Rattle.ax_record.specs.Records.{tree, record_of, object_parent, is_object, frame_of, chars_of, runs_of}
use Rattle.ax_record.proofs.TreeOf.{object_is, is_one, record_is, object_parent_is, object_parent-root}
use Rattle.ax_dom.specs.Among.{is_in}
use Rattle.tree_diff.specs.Alike.{IsAlike, AreAlikeBut}
use Rattle.tree_diff.proofs.Visible.{object_from, objects_visible}

module _ (old now : Document) (t : IsTree old) (u : IsTree now) (ns : List ℕ) (alike : AreAlikeBut old now ns) where
  abbrev pub IsFar : ℕ → Type 0
  IsFar n = (has now n ≡ true) × (is_in ns n ≡ false)

  same : (n : ℕ) → IsFar n → IsAlike old now n
  same n far = alike n far.0 far.1

  same_spot : (n : ℕ) → IsFar n → spot old n ≡ spot now n
  same_spot n far = λ i. record { id = n; body = (same n far).body_same i }

  was_object : (n : ℕ) → IsFar n → Contains (objects now) n → Contains (objects old) n
  was_object n far object = object_from old t n (same n far).was ((same n far).out ∙ objects_visible now u n object) (ap ignored (same_spot n far) ∙ objects_shown now u n object)

  is_still : (n : ℕ) → IsFar n → Contains (objects old) n → Contains (objects now) n
  is_still n far object = object_from now u n far.0 (sym (same n far).out ∙ objects_visible old t n object) (sym (ap ignored (same_spot n far)) ∙ objects_shown old t n object)

  -- a node that is far, and hangs on what is far, has its record
  record_same : (n : ℕ) → IsFar n → object_parent old n ≡ object_parent now n → record_of old n ≡ record_of now n
  record_same n far held = λ i. record {
    id = n;
    role = role (same_spot n far i);
    name = (same n far).name i;
    description = (same n far).description i;
    value = value (same_spot n far i);
    states = states (same_spot n far i);
    level = level (same_spot n far i);
    live = (same n far).live i;
    frame = frame_of ((same n far).body_same i);
    text = chars_of ((same n far).body_same i);
    runs = runs_of ((same n far).body_same i);
    parent = held i;
    kids = (same n far).kids_are i;
  }

  held_same : (n : ℕ) → IsFar n → ((p : ℕ) → Contains (objects now) p → Contains (kids now p) n → is_in ns p ≡ false) → Contains (objects now) n → object_parent old n ≡ object_parent now n
  held_same n far hangs object = elim (objects_hung now u n object) [
    | inl is ↦ ap (object_parent old) (sym is) ∙ object_parent-root old t ∙ sym (ap (object_parent now) (sym is) ∙ object_parent-root now u)
    | inr (p, up, kid) ↦
        (let far_p : IsFar p = (objects_known now u p up, hangs p up kid) in
        object_parent_is old t p n (was_object p far_p up) (subst (λ l. Contains l n) (sym (same p far_p).kids_are) kid) ∙ sym (object_parent_is now u p n up kid))
  ]

  both_objects : (n : ℕ) → IsFar n → is_object old n ≡ is_object now n
  both_objects n far = go (is_object now n) (is_object old n) refl refl
    where
      go : (a b : Bool) → is_object now n ≡ a → is_object old n ≡ b → b ≡ a
      go true true x y = refl
      go false false x y = refl
      go true false x y = sym y ∙ is_one old t n (was_object n far (object_is now u n x))
      go false true x y = sym (sym x ∙ is_one now u n (is_still n far (object_is old t n y)))

  -- a node that is far, and hangs on what it hung on, has the record that it had
  pub same_held : (n : ℕ) → IsFar n → object_parent old n ≡ object_parent now n → record_at (tree old) n ≡ record_at (tree now) n
  same_held n far held = record_is old t n ∙ (λ i. cond (both_objects n far i) (Some (record_same n far held i)) None) ∙ sym (record_is now u n)

  -- where a record differs, the node is among them, or the object that it hangs on
  pub same_record : (n : ℕ) → IsFar n → ((p : ℕ) → Contains (objects now) p → Contains (kids now p) n → is_in ns p ≡ false) → record_at (tree old) n ≡ record_at (tree now) n
  same_record n far hangs = record_is old t n ∙ go (is_object now n) refl ∙ sym (record_is now u n)
    where
      go : (b : Bool) → is_object now n ≡ b → cond (is_object old n) (Some (record_of old n)) None ≡ cond (is_object now n) (Some (record_of now n)) None
      go true on = λ i. cond (both_objects n far i) (Some (record_same n far (held_same n far hangs (object_is now u n on)) i)) None
      go false off = (λ i. cond ((both_objects n far ∙ off) i) (Some (record_of old n)) None) ∙ sym (λ i. cond (off i) (Some (record_of now n)) None)

  -- what is gone hung on what is gone too, or on one of them
  pub gone_hung : (n : ℕ) → Contains (objects old) n → has now n ≡ false → (p : ℕ) × Contains (objects old) p × Contains (kids old p) n × ((has now p ≡ false) ⊎ (is_in ns p ≡ true))
  gone_hung n object lost = elim (objects_hung old t n object) [
    | inl is ↦ absurd (false≢true (sym lost ∙ ap (has now) (sym is) ∙ u.has_root))
    | inr (p, up, kid) ↦ (p, up, kid, go p kid (has now p) (is_in ns p) refl refl)
  ]
    where
      go : (p : ℕ) → Contains (kids old p) n → (a b : Bool) → has now p ≡ a → is_in ns p ≡ b → (has now p ≡ false) ⊎ (is_in ns p ≡ true)
      go p kid false b there reached = inl there
      go p kid true true there reached = inr reached
      go p kid true false there reached = absurd (false≢true (sym lost ∙ kids_known now u p n (subst (λ l. Contains l n) (same p (there, reached)).kids_are kid)))

  -- each node of the document is one of them, or hangs on one, or has the record that it had
  pub found_or_same : (n : ℕ) → has now n ≡ true → (is_in ns n ≡ true) ⊎ (((p : ℕ) × Contains (objects now) p × Contains (kids now p) n × (is_in ns p ≡ true)) ⊎ (record_at (tree old) n ≡ record_at (tree now) n))
  found_or_same n there = by_node (is_in ns n) refl
    where
      at_root : is_in ns n ≡ false → root ≡ n → record_at (tree old) n ≡ record_at (tree now) n
      at_root off is = same_record n (there, off) (λ p up kid. absurd (root_no_kid p (subst (Contains (kids now p)) (sym is) kid)))
        where
          root_no_kid : (p : ℕ) → Contains (kids now p) root → ⊥
          root_no_kid p kid = let deep = kids_deeper now u p root kid in let top = u.root_level in omega arith

      under : is_in ns n ≡ false → (p : ℕ) → Contains (objects now) p → Contains (kids now p) n → (b : Bool) → is_in ns p ≡ b
          → ((q : ℕ) × Contains (objects now) q × Contains (kids now q) n × (is_in ns q ≡ true)) ⊎ (record_at (tree old) n ≡ record_at (tree now) n)
      under off p up kid true on = inl (p, up, kid, on)
      under off p up kid false far = inr (same_record n (there, off) (λ q other below. ap (is_in ns) (one_holder now u q p n (objects_shown now u q other) (objects_shown now u p up) below kid) ∙ far))

      no_object : is_in ns n ≡ false → is_object now n ≡ false → record_at (tree old) n ≡ record_at (tree now) n
      no_object off none = record_is old t n ∙ (λ i. cond ((both_objects n (there, off) ∙ none) i) (Some (record_of old n)) None) ∙ sym (record_is now u n ∙ (λ i. cond (none i) (Some (record_of now n)) None))

      by_object : is_in ns n ≡ false → (b : Bool) → is_object now n ≡ b → ((p : ℕ) × Contains (objects now) p × Contains (kids now p) n × (is_in ns p ≡ true)) ⊎ (record_at (tree old) n ≡ record_at (tree now) n)
      by_object off false none = inr (no_object off none)
      by_object off true on = elim (objects_hung now u n (object_is now u n on)) [
        | inl is ↦ inr (at_root off is)
        | inr (p, up, kid) ↦ under off p up kid (is_in ns p) refl
      ]

      by_node : (b : Bool) → is_in ns n ≡ b → (is_in ns n ≡ true) ⊎ (((p : ℕ) × Contains (objects now) p × Contains (kids now p) n × (is_in ns p ≡ true)) ⊎ (record_at (tree old) n ≡ record_at (tree now) n))
      by_node true on = inl on
      by_node false off = inr (by_object off (is_object now n) refl)

  -- what is neither in the document now nor was an object has no record in either tree
  pub never : (n : ℕ) → has now n ≡ false → is_object old n ≡ false → record_at (tree old) n ≡ record_at (tree now) n
  never n lost none = record_is old t n ∙ (λ i. cond (none i) (Some (record_of old n)) None) ∙ sym (record_is now u n ∙ (λ i. cond (no_more (is_object now n) refl i) (Some (record_of now n)) None))
    where
      no_more : (b : Bool) → is_object now n ≡ b → is_object now n ≡ false
      no_more true on = absurd (false≢true (sym lost ∙ objects_known now u n (object_is now u n on)))
      no_more false off = off
