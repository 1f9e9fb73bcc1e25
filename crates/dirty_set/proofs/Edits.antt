-- Each edit leads to a document that follows by the marks of the edit.
use Rattle.std.proofs.Common.{◌≡◌, ◌⊎◌, inl, inr, ℕ, List, [], ◌∷◌, ◌++◌, Bool, true, false, cond, not, ◌||◌, ◌&&◌, Option, Some, None, Contains, refl, sym, ap, subst, ◌∙◌, arith}
use Rattle.std.specs.Prelude.{filter, bytes_eq, nat_eq, flat_map}
use Rattle.std.specs.List.{list_any}
use Rattle.std.specs.Option.{option_map_or, option_eq}
use mathlib.Core.Bool.{beq}
use Rattle.ax_base.specs.contracts.states.LivePartialEq.TheImpl as lives
use Rattle.std.specs.Cmp.{nat_eq_equiv}
use Rattle.std.proofs.lemmas.Bool.{false≢true, or_parts, or_left, or_right, eqb-true}
use Rattle.std.proofs.lemmas.List.Folds.{list_any-append}
use Rattle.std.proofs.lemmas.List.Elements.{Contains-append_left, Contains-append_right}
use Rattle.std.proofs.lemmas.Map.Views.{Contains-from_any, list_any-from_Contains}
use Rattle.ax_base.specs.declared.states.Live.{Live}
use Rattle.ax_base.specs.declared.states.Live.TheVariants.{Off, Polite, Assertive}
use Rattle.ax_base.specs.Characters.{Chars}
use Rattle.ax_base.specs.Document.{Document, body, has, ids, children, parent, lineage}
use Rattle.ax_base.specs.Trees.{IsTree}
use Rattle.ax_base.proofs.Joins.{Contains-cases}
use Rattle.ax_base.proofs.Membership.{Contains-head, Contains-tail}
use Rattle.ax_base.proofs.Places.{among_ids}
use Rattle.ax_dom.specs.declared.edit.Edit.{Edit}
use Rattle.ax_dom.specs.Subtrees.{subtree}
use Rattle.ax_dom.proofs.Subtrees.{subtree_has, lineage_within_subtree}
use Rattle.ax_dom.specs.Among.{is_in, has_within}
use Rattle.dom_ids.specs.References.{listed, is_text_in, carried}
use Rattle.dirty_set.specs.Reach.{is_at_marks, is_focus}
use Rattle.dirty_set.specs.Marking.{Own, own, same_own, named, put, out, left, turned, carried_near, marked_nodes, marked_roots, marked}
use Rattle.dirty_set.proofs.Tests.{any_at, found}
use Rattle.dirty_set.proofs.Follows.{Follows}
use Rattle.dirty_set.proofs.Texts.{itself, known_by}

pub kept_in : {X : Type 0} (keep : X → Bool) (xs : List X) (x : X) → Contains xs x → keep x ≡ true → Contains (filter keep xs) x
kept_in keep [] x inside on = absurd (omega arith)
kept_in {X} keep (y ∷ xs) x inside on = go (keep y) refl (Contains-cases x y xs inside) (λ more. kept_in keep xs x more on)
  where
    go : (b : Bool) → keep y ≡ b → (y ≡ x) ⊎ Contains xs x → (Contains xs x → Contains (filter keep xs) x) → Contains (cond b (y ∷ filter keep xs) (filter keep xs)) x
    go true is (inl same) rest = subst (Contains (y ∷ filter keep xs)) same (Contains-head y (filter keep xs))
    go true is (inr more) rest = Contains-tail y x (filter keep xs) (rest more)
    go false is (inl same) rest = absurd (false≢true (sym is ∙ ap keep same ∙ on))
    go false is (inr more) rest = rest more

in_parts : {Y : Type 0} (f : ℕ → List Y) (cs : List ℕ) (c : ℕ) (x : Y) → Contains cs c → Contains (f c) x → Contains (flat_map f cs) x
in_parts f [] c x among inside = absurd (omega arith)
in_parts f (b ∷ cs) c x among inside = elim (Contains-cases c b cs among) [
  | inl is ↦ Contains-append_left (f b) (flat_map f cs) x (subst (λ y. Contains (f y) x) (sym is) inside)
  | inr more ↦ Contains-append_right (f b) (flat_map f cs) x (in_parts f cs c x more inside)
]

pub in_from : (xs : List ℕ) (x : ℕ) → Contains xs x → is_in xs x ≡ true
in_from xs x inside = list_any-from_Contains nat_eq_equiv x xs inside

pub in_is : (xs : List ℕ) (x : ℕ) → is_in xs x ≡ true → Contains xs x
in_is xs x on = Contains-from_any eqb-true x xs on

more_left : (xs ys : List ℕ) (x : ℕ) → is_in xs x ≡ true → is_in (xs ++ ys) x ≡ true
more_left xs ys x on = list_any-append (nat_eq x) xs ys ∙ or_left (is_in xs x) (is_in ys x) on

more_right : (xs ys : List ℕ) (x : ℕ) → is_in ys x ≡ true → is_in (xs ++ ys) x ≡ true
more_right xs ys x on = list_any-append (nat_eq x) xs ys ∙ or_right (is_in xs x) (is_in ys x) on

both : (a b : Bool) → beq a b ≡ true → a ≡ b
both true true on = refl
both true false on = absurd (false≢true on)
both false true on = absurd (false≢true on)
both false false on = refl

same_lives : (a b : Option Live) → option_eq lives.ghosts.eq a b ≡ true → a ≡ b
same_lives None None on = refl
same_lives None (Some l) on = absurd (false≢true on)
same_lives (Some l) None on = absurd (false≢true on)
same_lives (Some a) (Some b) on = ap Some (go a b on)
  where
    go : (a b : Live) → lives.ghosts.eq a b ≡ true → a ≡ b
    go Off Off on = refl
    go Polite Polite on = refl
    go Assertive Assertive on = refl
    go _ _ on = absurd (false≢true on)

and_split : (a b : Bool) → (a && b) ≡ true → (a ≡ true) × (b ≡ true)
and_split true b on = (refl, on)
and_split false b on = absurd (false≢true on)

owns_same : (a b : Own) → same_own a b ≡ true → a ≡ b
owns_same a b on =
    let p = and_split (beq a.hides b.hides) (beq a.prunes b.prunes && option_eq lives.ghosts.eq a.live b.live) on in
    let q = and_split (beq a.prunes b.prunes) (option_eq lives.ghosts.eq a.live b.live) p.1 in
    λ i. record { hides = both a.hides b.hides p.0 i; prunes = both a.prunes b.prunes q.0 i; live = same_lives a.live b.live q.1 i }

listed_in : (o : Option ℕ) (n : ℕ) → option_map_or (nat_eq n) o false ≡ true → is_in (listed o) n ≡ true
listed_in None n on = absurd (false≢true on)
listed_in (Some m) n on = or_left (nat_eq n m) false on

-- the texts that are carried near
carried_in : (nodes roots : List ℕ) (d : Document) (n : ℕ) (x : Chars) → has_within d (is_at_marks nodes roots d) n ≡ true → Contains (carried (body d n)) x → Contains (carried_near nodes roots d) x
carried_in nodes roots d n x near inside =
    in_parts (λ k. carried (body d k)) (filter (has_within d (is_at_marks nodes roots d)) (ids d)) n x
    (kept_in (has_within d (is_at_marks nodes roots d)) (ids d) n (among_ids d.nodes n (known_by d (λ b. list_any (bytes_eq x) (carried b)) refl n (any_at (bytes_eq x) (carried (body d n)) x inside (itself x)))) near)
    inside

module _ (old now : Document) (e : Edit) (t : IsTree old) (u : IsTree now) (top : ℕ → Bool)
    (was : (n : ℕ) → has now n ≡ true → top n ≡ false → has old n ≡ true)
    (tops : (r : ℕ) → top r ≡ true → is_in (put e ++ out e) r ≡ true)
    (placed : (r : ℕ) → has now r ≡ true → top r ≡ true → is_in (put e) r ≡ true)
    (gone : (n : ℕ) → has old n ≡ true → has now n ≡ false → (r : ℕ) × (top r ≡ true) × Contains (subtree old r) n)
    (bodies : (n : ℕ) → has now n ≡ true → has old n ≡ true → is_in (marked_nodes old now e) n ≡ false → body old n ≡ body now n)
    (kids : (n : ℕ) → has now n ≡ true → has old n ≡ true → is_in (marked_nodes old now e) n ≡ false → children old n ≡ children now n)
    (parents : (n : ℕ) → has now n ≡ true → top n ≡ false → parent old n ≡ parent now n)
    (hung : (n : ℕ) → has now n ≡ true → has old n ≡ true → filter (λ c. not (top c)) (children old n) ≡ filter (λ c. not (top c)) (children now n)) where
  abbrev nodes : List ℕ
  nodes = marked_nodes old now e

  abbrev roots : List ℕ
  roots = marked_roots old now e

  -- a root of what is put or taken out is one by which texts are gathered
  rooted_more : (r : ℕ) → top r ≡ true → is_in (roots ++ out e) r ≡ true
  rooted_more r is =
      elim (or_cases (is_in (put e) r) (is_in (out e) r) (sym (list_any-append (nat_eq r) (put e) (out e)) ∙ tops r is)) [
        | inl on ↦ more_left roots (out e) r (more_left (put e) (turned old now) r on)
        | inr on ↦ more_right roots (out e) r on
      ]
    where
      or_cases : (a b : Bool) → (a || b) ≡ true → (a ≡ true) ⊎ (b ≡ true)
      or_cases true b on = inl refl
      or_cases false b on = inr on

  texts_were : (n : ℕ) (x : Chars) → (is_in nodes n ≡ true) ⊎ ((r : ℕ) × (top r ≡ true) × Contains (subtree old r) n) → Contains (carried (body old n)) x → is_text_in (marked old now e).texts x ≡ true
  texts_were n x near inside = any_at (bytes_eq x) _ x (Contains-append_left _ (carried_near nodes (roots ++ out e) now) x (carried_in nodes (roots ++ out e) old n x here inside)) (itself x)
    where
      at : is_at_marks nodes (roots ++ out e) old n ≡ true
      at = elim near [
        | inl on ↦ or_left (is_in nodes n) (list_any (is_in (roots ++ out e)) (lineage old n)) on
        | inr (r, is, below) ↦ or_right (is_in nodes n) (list_any (is_in (roots ++ out e)) (lineage old n)) (any_at (is_in (roots ++ out e)) (lineage old n) r (lineage_within_subtree old t r n below) (rooted_more r is))
      ]

      here : has_within old (is_at_marks nodes (roots ++ out e) old) n ≡ true
      here = any_at (is_at_marks nodes (roots ++ out e) old) (subtree old n) n (subtree_has old t n) at

  more_marks : (q : ℕ) → is_at_marks nodes roots now q ≡ true → is_at_marks nodes (roots ++ out e) now q ≡ true
  more_marks q on = go (is_in nodes q) refl on
    where
      go : (b : Bool) → is_in nodes q ≡ b → (b || list_any (is_in roots) (lineage now q)) ≡ true → is_at_marks nodes (roots ++ out e) now q ≡ true
      go true is on = or_left (is_in nodes q) (list_any (is_in (roots ++ out e)) (lineage now q)) is
      go false is on =
          let r = found (is_in roots) (lineage now q) on in
          or_right (is_in nodes q) (list_any (is_in (roots ++ out e)) (lineage now q)) (any_at (is_in (roots ++ out e)) (lineage now q) r.0 r.1 (more_left roots (out e) r.0 r.2))

  texts_are : (n : ℕ) (x : Chars) → has_within now (is_at_marks nodes roots now) n ≡ true → Contains (carried (body now n)) x → is_text_in (marked old now e).texts x ≡ true
  texts_are n x near inside =
      let r = found (is_at_marks nodes roots now) (subtree now n) near in
      any_at (bytes_eq x) _ x (Contains-append_right (carried_near nodes (roots ++ out e) old) _ x
      (carried_in nodes (roots ++ out e) now n x (any_at (is_at_marks nodes (roots ++ out e) now) (subtree now n) r.0 r.1 (more_marks r.0 r.2)) inside)) (itself x)

  owns : (n : ℕ) → has now n ≡ true → is_in roots n ≡ false → own old n ≡ own now n
  owns n there off = go (same_own (own old n) (own now n)) refl
    where
      parts : (is_in (put e) n ≡ false) × (is_in (turned old now) n ≡ false)
      parts = or_parts (is_in (put e) n) (is_in (turned old now) n) (sym (list_any-append (nat_eq n) (put e) (turned old now)) ∙ off)

      apart : (b : Bool) → top n ≡ b → b ≡ false
      apart true is = absurd (false≢true (sym parts.0 ∙ placed n there is))
      apart false is = refl

      go : (b : Bool) → same_own (own old n) (own now n) ≡ b → own old n ≡ own now n
      go true on = owns_same (own old n) (own now n) on
      go false differ = absurd (false≢true (sym parts.1 ∙ in_from (turned old now) n
          (kept_in (λ k. has old k && not (same_own (own old k) (own now k))) (ids now) n (among_ids now.nodes n there)
          (λ i. was n there (apart (top n) refl) i && not (differ i)))))

  focus_was : (n : ℕ) → is_focus old n ≡ true → is_in nodes n ≡ true
  focus_was n on = more_right (named e) _ n (more_right (left old e) _ n (more_left (listed old.focus) (listed now.focus) n (listed_in old.focus n on)))

  focus_is : (n : ℕ) → is_focus now n ≡ true → is_in nodes n ≡ true
  focus_is n on = more_right (named e) _ n (more_right (left old e) _ n (more_right (listed old.focus) (listed now.focus) n (listed_in now.focus n on)))

  pub follows_from : Follows old now (marked old now e)
  follows_from = record {
    was_tree = t;
    is_tree = u;
    top = top;
    was = was;
    rooted = λ n there is. more_left (put e) (turned old now) n (placed n there is);
    gone = gone;
    bodies = bodies;
    same_children = kids;
    parents = parents;
    owns = owns;
    hung = hung;
    focus_was = focus_was;
    focus_is = focus_is;
    texts_were = texts_were;
    texts_are = texts_are;
  }
