-- What a walk downwards takes that passes what it was at before.
use Rattle.std.proofs.Common.{◌≡◌, ◌⊎◌, inl, inr, ℕ, zero, suc, ◌+◌, ◌≤◌, ◌<◌, List, [], ◌∷◌, ◌++◌, length, take, get_or, true, false, Contains, sym, ap, subst, ◌∙◌, arith, append-nil, append_assoc}
use Rattle.std.specs.List.{flat_map}
use Rattle.std.specs.List.Sorted.{IsStrictlyIncreasing}
use Rattle.std.specs.Ordering.{nat_cmp}
use Rattle.std.specs.BTreeSet.{insert_key}
use Rattle.std.proofs.lemmas.List.{take_all, take_more}
use Rattle.std.proofs.lemmas.List.Elements.{Contains-append_cases}
use Rattle.ax_base.specs.Document.{Document, children, IsChild}
use Rattle.ax_base.specs.Trees.{IsTree}
use Rattle.ax_base.proofs.Lookups.{rising-insert_key}
use Rattle.ax_dom.specs.Subtrees.{subtree}
use Rattle.ax_dom.proofs.Subtrees.{subtree_has, subtree_cases, within_child, within_level, within_parent}
use Rattle.ax_dom.proofs.Without.{joined_keeps}
use Rattle.dirty_set.specs.NodeSets.{mem, IsDownClosedBelow, HasAllOf, KeepsAll, OnlyAdds}
use Rattle.dirty_set.proofs.Climbing.{length-insert_key, after_cases, after_old, after_new}

flat_map_more : (f : ℕ → List ℕ) (xs : List ℕ) (x : ℕ) → flat_map f (xs ++ x ∷ []) ≡ flat_map f xs ++ f x
flat_map_more f [] x = append-nil (f x)
flat_map_more f (y ∷ ys) x = ap (λ l. f y ++ l) (flat_map_more f ys x) ∙ sym (append_assoc (f y) (flat_map f ys) (f x))

one_more : (f : ℕ → List ℕ) (cs : List ℕ) (i x : ℕ) → i < length cs → x ≡ get_or cs i x → flat_map f (take (i + 1) cs) ≡ flat_map f (take i cs) ++ f x
one_more f cs i x low is = ap (flat_map f) (take_more cs i x low ∙ ap (λ y. take i cs ++ y ∷ []) (sym is)) ∙ flat_map_more f (take i cs) x

-- what a loop over the children of a node has done
pub record WalkSoFar (d : Document) (old now : List ℕ) (id first steps i : ℕ) (cs : List ℕ) : Type 0 where
  pub near : (t : IsTree d) (p c : ℕ) → IsChild d p c → mem now p ≡ true → (mem now c ≡ true) ⊎ ((t.level p < t.level id) ⊎ (p ≡ id))
  pub done : HasAllOf now (flat_map (subtree d) (take i cs))
  pub here : mem now id ≡ true
  pub keeps : KeepsAll old now
  pub only : OnlyAdds old now (subtree d id)
  pub counted : steps + length old ≤ first + length now
  pub rises : IsStrictlyIncreasing now

module _ (d : Document) (t : IsTree d) where
  -- what is among them has all that is below it among them
  all_below : (ks : List ℕ) (id : ℕ) → IsDownClosedBelow d ks id → mem ks id ≡ true → (l n : ℕ) → t.level n ≤ l → Contains (subtree d id) n → mem ks n ≡ true
  all_below ks id closed on zero n low inside = elim (within_parent d t id n inside) [
    | inl is ↦ ap (mem ks) is ∙ on
    | inr (p, child, up) ↦ (let e = t.deeper p n child in absurd (omega arith))
  ]
  all_below ks id closed on (suc l) n low inside = elim (within_parent d t id n inside) [
    | inl is ↦ ap (mem ks) is ∙ on
    | inr (p, child, up) ↦ (let e = t.deeper p n child in elim (closed t p n child (all_below ks id closed on l p (omega arith) up)) [
      | inl there ↦ there
      | inr high ↦ (let f = within_level d t id p up in absurd (omega arith))
    ])
  ]

  pub walked_within : (ks : List ℕ) (id : ℕ) → IsDownClosedBelow d ks id → true ≡ mem ks id → HasAllOf ks (subtree d id)
  walked_within ks id closed on n inside = all_below ks id closed (sym on) (t.level n) n (omega arith) inside

  module _ (old now : List ℕ) (id : ℕ) (off : false ≡ mem old id) (adds : now ≡ insert_key nat_cmp old id) where
    new_cases : (q : ℕ) → mem now q ≡ true → (q ≡ id) ⊎ (mem old q ≡ true)
    new_cases q on = after_cases q id old (ap (λ ks. mem ks q) (sym adds) ∙ on)

    new_old : KeepsAll old now
    new_old q on = ap (λ ks. mem ks q) adds ∙ after_old q id old on

    longer : length now ≡ suc (length old)
    longer = ap length adds ∙ length-insert_key id old (sym off)

    pub added_keeps : KeepsAll old now
    added_keeps q on = new_old q on

    pub added_only : OnlyAdds old now (subtree d id)
    added_only q on = elim (new_cases q on) [ inl is ↦ inr (subst (Contains (subtree d id)) (sym is) (subtree_has d t id)) | inr was ↦ inl was ]

    pub added_counted : (steps : ℕ) → steps + length old ≤ steps + length now
    added_counted steps = let l = longer in omega arith

    pub walk_first : (first steps : ℕ) (cs : List ℕ) → IsDownClosedBelow d old id → IsStrictlyIncreasing old → steps ≡ first + 1 → WalkSoFar d old now id first steps 0 cs
    walk_first first steps cs closed rising one = record {
      near = λ u p c child on. elim (new_cases p on) [
        | inl is ↦ inr (inr is)
        | inr was ↦ (elim (closed u p c child was) [ inl there ↦ inl (new_old c there) | inr high ↦ inr (inl high) ])
      ];
      done = λ n inside. absurd (omega arith);
      here = ap (λ ks. mem ks id) adds ∙ after_new id old;
      keeps = added_keeps;
      only = added_only;
      counted = (let l = longer in omega arith);
      rises = subst IsStrictlyIncreasing (sym adds) (rising-insert_key id old rising);
    }

  module _ (old now : List ℕ) (id first steps i : ℕ) (cs : List ℕ) (same : cs ≡ children d id) (far : WalkSoFar d old now id first steps i cs) where
    -- a child is lower
    pub call_closed : (c : ℕ) → IsChild d id c → IsDownClosedBelow d now c
    call_closed c child u p k below on = elim (far.near u p k below on) [
      | inl there ↦ inl there
      | inr up ↦ (let e = u.deeper id c child in elim up [
        | inl high ↦ inr (omega arith)
        | inr is ↦ inr (let f : u.level p ≡ u.level id = ap u.level is in omega arith)
      ])
    ]

    child_within : (c n : ℕ) → IsChild d id c → Contains (subtree d c) n → Contains (subtree d id) n
    child_within c n child inside = by (t.level n) n (omega arith) inside
      where
        by : (l n : ℕ) → t.level n ≤ l → Contains (subtree d c) n → Contains (subtree d id) n
        by zero n low inside = elim (within_parent d t c n inside) [
          | inl is ↦ subst (Contains (subtree d id)) (sym is) (within_child d t id id c (subtree_has d t id) child)
          | inr (p, k, up) ↦ (let e = t.deeper p n k in absurd (omega arith))
        ]
        by (suc l) n low inside = elim (within_parent d t c n inside) [
          | inl is ↦ subst (Contains (subtree d id)) (sym is) (within_child d t id id c (subtree_has d t id) child)
          | inr (p, k, up) ↦ (let e = t.deeper p n k in within_child d t id p n (by l p (omega arith) up) k)
        ]

    module _ (x : ℕ) (child : IsChild d id x) (after : List ℕ) (last : ℕ) (keeps : KeepsAll now after) (only : OnlyAdds now after (subtree d x)) (counted : last + length now ≤ steps + length after) where
      pub early_keeps : KeepsAll old after
      early_keeps n on = keeps n (far.keeps n on)

      pub early_only : OnlyAdds old after (subtree d id)
      early_only n on = elim (only n on) [ inl was ↦ far.only n was | inr inside ↦ inr (child_within x n child inside) ]

      pub early_counted : last + length old ≤ first + length after
      early_counted = let c = far.counted in omega arith

      pub walk_more : i < length cs → x ≡ get_or cs i x → IsDownClosedBelow d after x → HasAllOf after (subtree d x) → IsStrictlyIncreasing after → WalkSoFar d old after id first last (i + 1) cs
      walk_more low is closed all rising = record {
        near = λ u p c below on. elim (only p on) [
          | inl was ↦ (elim (far.near u p c below was) [ inl there ↦ inl (keeps c there) | inr other ↦ inr other ])
          | inr inside ↦ (elim (closed u p c below on) [
            | inl there ↦ inl there
            | inr high ↦ (let f = within_level d u x p inside in absurd (omega arith))
          ])
        ];
        done = λ n inside. elim (Contains-append_cases (flat_map (subtree d) (take i cs)) (subtree d x) n (subst (λ l. Contains l n) (one_more (subtree d) cs i x low is) inside)) [
          | inl earlier ↦ keeps n (far.done n earlier)
          | inr here ↦ all n here
        ];
        here = keeps id far.here;
        keeps = early_keeps;
        only = early_only;
        counted = early_counted;
        rises = rising;
      }

    pub walk_closed : length cs ≤ i → IsDownClosedBelow d now id
    walk_closed past u p c child on = elim (far.near u p c child on) [
      | inl there ↦ inl there
      | inr up ↦ (elim up [
        | inl high ↦ inr high
        | inr is ↦ inl (far.done c (subst (λ l. Contains (flat_map (subtree d) l) c) (sym (take_all i cs past ∙ same)) (joined_keeps (subtree d) (children d id) c c (subst (λ q. IsChild d q c) is child) (subtree_has d t c))))
      ])
    ]

    pub walk_within : length cs ≤ i → HasAllOf now (subtree d id)
    walk_within past n inside = elim (subtree_cases d t id n inside) [
      | inl is ↦ ap (mem now) (sym is) ∙ far.here
      | inr (k, child, below) ↦ far.done n (subst (λ l. Contains (flat_map (subtree d) l) n) (sym (take_all i cs past ∙ same)) (joined_keeps (subtree d) (children d id) k n child below))
    ]
