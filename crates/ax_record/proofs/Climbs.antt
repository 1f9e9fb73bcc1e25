-- What comes after and before an object in preorder, by climbing.
use Rattle.std.proofs.Common.{◌≡◌, inl, inr, ℕ, zero, suc, ◌-◌, ◌<◌, ◌≤◌, List, [], ◌∷◌, ◌++◌, length, drop, true, sym, ap, subst, ◌∙◌, arith, append_assoc, append-nil}
use Rattle.std.specs.Prelude.{Some, None}
use Rattle.std.specs.List.{flat_map}
use Rattle.std.proofs.lemmas.Bool.Decides.{eqb_tells}
use Rattle.std.proofs.lemmas.List.Concat.{flat_map-append}
use Rattle.ax_base.specs.Document.{root}
use Rattle.ax_base.specs.Trees.{HasNoRepeats}
use Rattle.ax_base.proofs.Reached.{reached-below}
use Rattle.ax_record.specs.Tree.{Tree, has_object, kids_of, preorder, parent_of, IsKid, objects_within}
use Rattle.ax_record.specs.ObjectTrees.{IsObjectTree}
use Rattle.ax_record.proofs.Preorder.{preorder_once, has_kids}
use Rattle.ax_record.specs.Orders.{after, before}
use Rattle.ax_record.proofs.Past.{past}
use Rattle.ax_record.proofs.Lists.{parted, before_is, after_is, drop_front}

module _ (t : Tree) (hangs : IsObjectTree t) where
  rank : ℕ → ℕ
  rank n = 128 - hangs.level n

  low : (n : ℕ) → rank n ≤ 128
  unfolding rank
  low n = omega arith

  falls : (n k : ℕ) → IsKid t n k → rank k < rank n
  unfolding rank
  falls n k kid = let e = hangs.deeper n k kid in let s = hangs.shallow k in omega arith

  -- an object and all below it
  abbrev branch : ℕ → List ℕ
  branch n = objects_within t 128 n

  abbrev below : ℕ → List ℕ
  below n = flat_map branch (kids_of t n)

  branch-below : (n : ℕ) → branch n ≡ n ∷ below n
  branch-below n = reached-below (kids_of t) rank 128 low falls n

  -- where an object stands in the preorder: what is before it, it, what is below it, and what is past that
  abbrev Stands : ℕ → Type 0
  Stands n = (pre : List ℕ) × (post : List ℕ) × (preorder t ≡ pre ++ n ∷ (below n ++ post))

  -- the branches of some kids, one of which is at hand
  below_parted : (p n : ℕ) → IsKid t p n → below p ≡ flat_map branch (before n (kids_of t p)) ++ n ∷ (below n ++ flat_map branch (after n (kids_of t p)))
  below_parted p n kid =
      ap (flat_map branch) (parted n (kids_of t p) kid) ∙ flat_map-append branch (before n (kids_of t p)) (n ∷ after n (kids_of t p))
      ∙ ap (λ l. flat_map branch (before n (kids_of t p)) ++ (l ++ flat_map branch (after n (kids_of t p)))) (branch-below n)

  joined : (pre fs bs cs post : List ℕ) (p n : ℕ) → pre ++ p ∷ ((fs ++ n ∷ (bs ++ cs)) ++ post) ≡ (pre ++ p ∷ fs) ++ n ∷ (bs ++ (cs ++ post))
  joined pre fs bs cs post p n =
      ap (λ l. pre ++ p ∷ l) (append_assoc fs (n ∷ (bs ++ cs)) post ∙ ap (λ l. fs ++ n ∷ l) (append_assoc bs cs post)) ∙ sym (append_assoc pre (p ∷ fs) (n ∷ (bs ++ (cs ++ post))))

  -- a kid of an object that stands somewhere stands below it
  kid_stands : (p n : ℕ) → IsKid t p n → (pre post : List ℕ) → preorder t ≡ pre ++ p ∷ (below p ++ post)
      → preorder t ≡ (pre ++ p ∷ flat_map branch (before n (kids_of t p))) ++ n ∷ (below n ++ (flat_map branch (after n (kids_of t p)) ++ post))
  kid_stands p n kid pre post e =
      e ∙ ap (λ l. pre ++ p ∷ (l ++ post)) (below_parted p n kid) ∙ joined pre (flat_map branch (before n (kids_of t p))) (below n) (flat_map branch (after n (kids_of t p))) post p n

  root_stands : preorder t ≡ [] ++ root ∷ (below root ++ [])
  root_stands = branch-below root ∙ ap (λ l. root ∷ l) (sym (append-nil (below root)))

  stands_within : (levels n : ℕ) → hangs.level n ≤ levels → has_object t n ≡ true → Stands n
  stands_within zero n shallow there = elim (eqb_tells n root) [
    | inl (_, is) ↦ subst Stands (sym is) ([], [], root_stands)
    | inr (_, apart) ↦ let up = hangs.hung n there apart in let e = hangs.deeper up.0 n up.1 in absurd (omega arith)
  ]
  stands_within (suc levels) n shallow there = elim (eqb_tells n root) [
    | inl (_, is) ↦ subst Stands (sym is) ([], [], root_stands)
    | inr (_, apart) ↦
        let up = hangs.hung n there apart in
        let e = hangs.deeper up.0 n up.1 in
        let s = stands_within levels up.0 (omega arith) (has_kids t up.0 n up.1) in
        (s.0 ++ up.0 ∷ flat_map branch (before n (kids_of t up.0)), flat_map branch (after n (kids_of t up.0)) ++ s.1, kid_stands up.0 n up.1 s.0 s.1 s.2)
  ]

  pub stands : (n : ℕ) → has_object t n ≡ true → Stands n
  stands n there = stands_within (hangs.level n) n (omega arith) there

  before_at : (n : ℕ) (pre rest : List ℕ) → preorder t ≡ pre ++ n ∷ rest → before n (preorder t) ≡ pre
  before_at n pre rest e = ap (before n) e ∙ before_is n pre rest (subst HasNoRepeats e (preorder_once t hangs))

  after_at : (n : ℕ) (pre rest : List ℕ) → preorder t ≡ pre ++ n ∷ rest → after n (preorder t) ≡ rest
  after_at n pre rest e = ap (after n) e ∙ after_is n pre rest (subst HasNoRepeats e (preorder_once t hangs))

  past_at : (n : ℕ) (pre post : List ℕ) → preorder t ≡ pre ++ n ∷ (below n ++ post) → past t n ≡ post
  past_at n pre post e = ap (drop (length (below n))) (after_at n pre (below n ++ post) e) ∙ drop_front (below n) post

  -- after an object comes what is below it, and then what is past that
  pub after_below : (n : ℕ) → has_object t n ≡ true → after n (preorder t) ≡ below n ++ past t n
  after_below n there = let s = stands n there in after_at n s.0 (below n ++ s.1) s.2 ∙ ap (λ l. below n ++ l) (sym (past_at n s.0 s.1 s.2))

  -- past what is below a kid come the later kids of its parent with what is below them, and then what is past that
  pub past_kid : (p n : ℕ) → IsKid t p n → past t n ≡ flat_map branch (after n (kids_of t p)) ++ past t p
  past_kid p n kid =
      let s = stands p (has_kids t p n kid) in
      past_at n (s.0 ++ p ∷ flat_map branch (before n (kids_of t p))) (flat_map branch (after n (kids_of t p)) ++ s.1) (kid_stands p n kid s.0 s.1 s.2)
      ∙ ap (λ l. flat_map branch (after n (kids_of t p)) ++ l) (sym (past_at p s.0 s.1 s.2))

  -- nothing is past what is below the root
  pub past_root : past t root ≡ []
  past_root = past_at root [] [] root_stands

  -- before a kid come what is before its parent, its parent, and the earlier kids with what is below them
  pub before_kid : (p n : ℕ) → IsKid t p n → before n (preorder t) ≡ before p (preorder t) ++ p ∷ flat_map branch (before n (kids_of t p))
  before_kid p n kid =
      let s = stands p (has_kids t p n kid) in
      before_at n (s.0 ++ p ∷ flat_map branch (before n (kids_of t p))) (below n ++ (flat_map branch (after n (kids_of t p)) ++ s.1)) (kid_stands p n kid s.0 s.1 s.2)
      ∙ ap (λ l. l ++ p ∷ flat_map branch (before n (kids_of t p))) (sym (before_at p s.0 (below p ++ s.1) s.2))

  pub before_root : before root (preorder t) ≡ []
  before_root = before_at root [] (below root ++ []) root_stands

  -- what has a parent is its kid
  pub hangs_on : (n p : ℕ) → has_object t n ≡ true → parent_of t n ≡ Some p → IsKid t p n
  hangs_on n p there above = elim (eqb_tells n root) [
    | inl (_, is) ↦ absurd (no_parent (sym above ∙ ap (parent_of t) is ∙ hangs.root_parent))
    | inr (_, apart) ↦
        let up = hangs.hung n there apart in
        subst (λ m. IsKid t m n) (same (sym (hangs.parent up.0 n up.1) ∙ above)) up.1
  ]
    where
      no_parent : {x : ℕ} → Some x ≡ None → ⊥
      no_parent e = grind arith

      same : {x y : ℕ} → Some x ≡ Some y → x ≡ y
      same e = grind arith

  -- what has none is the root
  pub is_root : (n : ℕ) → has_object t n ≡ true → parent_of t n ≡ None → n ≡ root
  is_root n there none = elim (eqb_tells n root) [
    | inl (_, is) ↦ is
    | inr (_, apart) ↦ let up = hangs.hung n there apart in absurd (wrong (sym none ∙ hangs.parent up.0 n up.1))
  ]
    where
      wrong : {x : ℕ} → None ≡ Some x → ⊥
      wrong e = grind arith
