-- The tree of a document hangs together.
use Rattle.std.proofs.Common.{◌≡◌, inl, inr, ℕ, ◌≤◌, List, [], ◌∷◌, map, filter, length, Contains, Bool, true, false, cond, ◌||◌, ◌&&◌, Option, Some, None, is_some, refl, sym, ap, subst, ◌∙◌, arith}
use Rattle.std.specs.Prelude.{find, nat_eq, IfSome}
use Rattle.std.specs.Option.{option_map_or, option_and_then, MatchOption}
use Rattle.std.specs.List.{list_any}
use Rattle.std.specs.List.Sorted.{IsStrictlyIncreasing}
use Rattle.std.specs.Ordering.{nat_cmp}
use Rattle.std.specs.Cmp.{nat_eq_equiv}
use Rattle.std.specs.Map.{lookup}
use Rattle.std.specs.BTreeMap.{is_at}
use Rattle.std.specs.Str.{chars}
use Rattle.std.proofs.lemmas.Bool.{eqb-true, false≢true}
use Rattle.std.proofs.lemmas.Option.{none-some}
use Rattle.std.proofs.lemmas.Map.Keys.{IsStrictlyIncreasing-from_sorted, sorted_from_strictly_increasing}
use Rattle.std.proofs.lemmas.Map.Views.{Contains-from_any, list_any-from_Contains}
use Rattle.std.proofs.lemmas.List.Elements.{All-nil}
use Rattle.std.proofs.lemmas.List.Kept.{IsStrictlySortedBy-filter}
use Rattle.ax_base.specs.declared.body.Body.{Body}
use Rattle.ax_base.specs.declared.body.Body.TheVariants.{Element, Words}
use Rattle.ax_base.specs.declared.rect.Run.{Run}
use Rattle.ax_base.specs.Document.{Document, ids, root, body, lineage}
use Rattle.ax_base.specs.Trees.{IsTree, HasNoRepeats}
use Rattle.ax_base.specs.Rects.{IsWithinBounds, AreRunsWithin, HasRectsWithin}
use Rattle.ax_base.specs.Roles.{role_of}
use Rattle.ax_base.specs.Runs.{KeepsRuns}
use Rattle.ax_base.specs.Texts.{IsFitting}
use Rattle.ax_base.specs.Kids.{kids, objects}
use Rattle.ax_base.proofs.Membership.{fewer_pass}
use Rattle.ax_base.proofs.Places.{find_none}
use Rattle.ax_base.proofs.Lookups.{finds, found_is}
use Rattle.ax_base.proofs.KidsLaws.{kids_deeper}
use Rattle.ax_base.proofs.Rectangles.{frame_of_runs_within}
use Rattle.ax_base.proofs.TextRoles.{element_no_text}
use Rattle.ax_base.proofs.Objects.{find_one, kids_are_objects, kids_once, one_holder, root_is_object, objects_known, objects_shown, objects_hung}
use Rattle.ax_record.specs.declared.record.Record.{Record}
use Rattle.ax_record.specs.Tree.{record_at, has_object, kids_of, parent_of, IsKid}
use Rattle.ax_record.specs.ObjectTrees.{IsObjectTree, HasFittingText, KeepsBounds}
use Rattle.ax_record.specs.Records.{record_of, object_parent, is_object, tree, frame_of, chars_of, runs_of}

-- what is found among entries that are made of their keys
pub lookup-made : {X : Type 0} (f : ℕ → X) (n : ℕ) (ks : List ℕ) → lookup (is_at (nat_cmp n)) (map (λ k. (k, f k)) ks) ≡ cond (list_any (finds n) ks) (Some (f n)) None
lookup-made f n [] = refl
lookup-made {X} f n (k ∷ ks) = go (finds n k) refl (lookup-made f n ks)
  where
    go : (b : Bool) → finds n k ≡ b → lookup (is_at (nat_cmp n)) (map (λ k. (k, f k)) ks) ≡ cond (list_any (finds n) ks) (Some (f n)) None
        → cond b (Some (f k)) (lookup (is_at (nat_cmp n)) (map (λ k. (k, f k)) ks)) ≡ cond (b || list_any (finds n) ks) (Some (f n)) None
    go true e rest = ap (λ j. Some (f j)) (sym (found_is n k e))
    go false e rest = rest

keys-made : {X : Type 0} (f : ℕ → X) (ks : List ℕ) → map (λ (e : ℕ × X). e.0) (map (λ k. (k, f k)) ks) ≡ ks
keys-made f [] = refl
keys-made f (k ∷ ks) = ap (λ l. k ∷ l) (keys-made f ks)

-- whether a key is among those that pass
list_any-filter : (p : ℕ → Bool) (n : ℕ) (ks : List ℕ) → list_any (finds n) (filter p ks) ≡ (p n && list_any (finds n) ks)
list_any-filter p n [] = go (p n)
  where
    go : (b : Bool) → false ≡ (b && false)
    go true = refl
    go false = refl
list_any-filter p n (k ∷ ks) = go (p k) (finds n k) (p n) refl refl refl (list_any-filter p n ks)
  where
    go : (a b c : Bool) → p k ≡ a → finds n k ≡ b → p n ≡ c → list_any (finds n) (filter p ks) ≡ (c && list_any (finds n) ks)
        → list_any (finds n) (cond a (k ∷ filter p ks) (filter p ks)) ≡ (c && (b || list_any (finds n) ks))
    go true true true kept at here rest = ap (λ b. b || list_any (finds n) (filter p ks)) at
    go true true false kept at here rest = absurd (false≢true (sym here ∙ ap p (found_is n k at) ∙ kept))
    go true false c kept at here rest = ap (λ b. b || list_any (finds n) (filter p ks)) at ∙ rest
    go false true true kept at here rest = absurd (false≢true (sym kept ∙ ap p (sym (found_is n k at)) ∙ here))
    go false true false kept at here rest = rest
    go false false c kept at here rest = rest

-- whether something is found at a key
pub is_some-lookup : {X : Type 0} (n : ℕ) (es : List (ℕ × X)) → list_any (finds n) (map (λ e. e.0) es) ≡ is_some (lookup (is_at (nat_cmp n)) es)
is_some-lookup n [] = refl
is_some-lookup n (e ∷ es) = go (finds n e.0) (is_some-lookup n es)
  where
    go : (b : Bool) → list_any (finds n) (map (λ e. e.0) es) ≡ is_some (lookup (is_at (nat_cmp n)) es) → (b || list_any (finds n) (map (λ e. e.0) es)) ≡ is_some (cond b (Some e.1) (lookup (is_at (nat_cmp n)) es))
    go true rest = refl
    go false rest = rest

-- the first that passes does pass
pub find_passes : (p : ℕ → Bool) (xs : List ℕ) → IfSome (find p xs) (λ x. p x ≡ true)
find_passes p [] = tt
find_passes p (x ∷ xs) = go (p x) refl (find_passes p xs)
  where
    go : (b : Bool) → p x ≡ b → IfSome (find p xs) (λ y. p y ≡ true) → IfSome (cond b (Some x) (find p xs)) (λ y. p y ≡ true)
    go true e rest = e
    go false e rest = rest

fits : (r : Record) (at_root : Bool) (b : Body) → IsFitting b → KeepsRuns b → HasFittingText (record r { role = role_of at_root b; text = chars_of b; runs = runs_of b })
fits r at_root (Words text runs) short right = (refl, short, right)
fits r at_root (Element tag attrs frame) short right = (element_no_text at_root tag attrs frame, refl)

bounded : (b : Body) → HasRectsWithin b → IsWithinBounds (frame_of b) × AreRunsWithin (runs_of b)
bounded (Words text runs) within = (frame_of_runs_within runs within, within)
bounded (Element tag attrs frame) within = (within, All-nil (λ (r : Run). IsWithinBounds r.rect))

module _ (d : Document) (t : IsTree d) where
  pub object_is : (n : ℕ) → is_object d n ≡ true → Contains (objects d) n
  object_is n e = Contains-from_any eqb-true n (objects d) e

  pub is_one : (n : ℕ) → Contains (objects d) n → is_object d n ≡ true
  is_one n inside = list_any-from_Contains nat_eq_equiv n (objects d) inside

  -- each object is among the ids of the nodes
  objects_among : (n : ℕ) → (is_object d n && list_any (finds n) (ids d)) ≡ is_object d n
  objects_among n = go (is_object d n) refl
    where
      go : (b : Bool) → is_object d n ≡ b → (b && list_any (finds n) (ids d)) ≡ b
      go true e = is_some-lookup n d.nodes ∙ objects_known d t n (object_is n e)
      go false e = refl

  -- what the tree has at an id
  pub record_is : (n : ℕ) → record_at (tree d) n ≡ cond (is_object d n) (Some (record_of d n)) None
  record_is n = lookup-made (record_of d) n (filter (is_object d) (ids d)) ∙ ap (λ b. cond b (Some (record_of d n)) None) (list_any-filter (is_object d) n (ids d) ∙ objects_among n)

  -- whether the tree has an object of that id
  pub has_is : (n : ℕ) → has_object (tree d) n ≡ is_object d n
  has_is n = ap is_some (record_is n) ∙ go (is_object d n)
    where
      go : (b : Bool) → is_some (cond b (Some (record_of d n)) None) ≡ b
      go true = refl
      go false = refl

  -- the kids of an object in the tree
  pub kids_are : (n : ℕ) → kids_of (tree d) n ≡ cond (is_object d n) (kids d n) []
  kids_are n = ap (λ o. option_map_or (λ (r : Record). r.kids) o []) (record_is n) ∙ go (is_object d n)
    where
      go : (b : Bool) → option_map_or (λ (r : Record). r.kids) (cond b (Some (record_of d n)) None) [] ≡ cond b (kids d n) []
      go true = refl
      go false = refl

  parent_is : (n : ℕ) → parent_of (tree d) n ≡ cond (is_object d n) (object_parent d n) None
  parent_is n = ap (λ o. option_and_then (λ (r : Record). r.parent) o) (record_is n) ∙ go (is_object d n)
    where
      go : (b : Bool) → option_and_then (λ (r : Record). r.parent) (cond b (Some (record_of d n)) None) ≡ cond b (object_parent d n) None
      go true = refl
      go false = refl

  -- a kid in the tree hangs on an object
  pub kid_is : (n k : ℕ) → IsKid (tree d) n k → Contains (objects d) n × Contains (kids d n) k
  kid_is n k kid = go (is_object d n) refl (subst (λ l. Contains l k) (kids_are n) kid)
    where
      go : (b : Bool) → is_object d n ≡ b → Contains (cond b (kids d n) []) k → Contains (objects d) n × Contains (kids d n) k
      go true e inside = (object_is n e, inside)
      go false e inside = absurd (omega arith)

  kid_of : (n k : ℕ) → Contains (objects d) n → Contains (kids d n) k → IsKid (tree d) n k
  kid_of n k one kid = subst (λ l. Contains l k) (sym (kids_are n ∙ ap (λ b. cond b (kids d n) []) (is_one n one))) kid

  -- a kid's parent is the object that it hangs on
  pub object_parent_is : (n k : ℕ) → Contains (objects d) n → Contains (kids d n) k → object_parent d k ≡ Some n
  object_parent_is n k one kid =
      find_one (λ p. list_any (nat_eq k) (kids d p)) (objects d) n one (list_any-from_Contains nat_eq_equiv k (kids d n) kid)
      (λ q also passes. one_holder d t q n k (objects_shown d t q also) (objects_shown d t n one) (Contains-from_any eqb-true k (kids d q) passes) kid)

  -- the root hangs on nothing
  pub object_parent-root : object_parent d root ≡ None
  object_parent-root = find_none (λ p. list_any (nat_eq root) (kids d p)) (objects d)
      (λ q passes. let e = kids_deeper d t q root (Contains-from_any eqb-true root (kids d q) passes) in let r = t.root_level in absurd (omega arith))

  -- the record at an id is that of the object
  record_found : (n : ℕ) (r : Record) → record_at (tree d) n ≡ Some r → record_of d n ≡ r
  record_found n r e = go (is_object d n) (sym (record_is n) ∙ e)
    where
      go : (b : Bool) → cond b (Some (record_of d n)) None ≡ Some r → record_of d n ≡ r
      go true is = cc
      go false is = absurd (none-some r is)

  focus_held : (o : Option ℕ) → IfSome (option_and_then (λ n. find (is_object d) (lineage d n)) o) (λ n. has_object (tree d) n ≡ true)
  focus_held None = tt
  focus_held (Some n) = go (find (is_object d) (lineage d n)) (find_passes (is_object d) (lineage d n))
    where
      go : (o : Option ℕ) → IfSome o (λ x. is_object d x ≡ true) → IfSome o (λ x. has_object (tree d) x ≡ true)
      go None found = tt
      go (Some x) found = has_is x ∙ found

  -- the tree of a document hangs together
  pub tree_hangs : IsObjectTree (tree d)
  tree_hangs = record {
    level = t.level;
    deeper = λ n k kid. kids_deeper d t n k (kid_is n k kid).1;
    shallow = λ n. let s = t.shallow n in omega arith;
    rising = subst IsStrictlyIncreasing (sym (keys-made (record_of d) (filter (is_object d) (ids d))))
        (IsStrictlyIncreasing-from_sorted (filter (is_object d) (ids d)) (IsStrictlySortedBy-filter nat_cmp (is_object d) (ids d) (sorted_from_strictly_increasing (ids d) t.rising)));
    few = let fewer = fewer_pass (is_object d) (ids d) in let same = ap (λ (ks : List ℕ). length ks) (keys-made (record_of d) (filter (is_object d) (ids d))) in let all = t.few in omega arith;
    own_id = λ n r found. ap (λ (x : Record). x.id) (sym (record_found n r found));
    has_root = has_is root ∙ is_one root (root_is_object d t);
    root_parent = parent_is root ∙ ap (λ b. cond b (object_parent d root) None) (is_one root (root_is_object d t)) ∙ object_parent-root;
    root_no_kid = λ n kid. let e = kids_deeper d t n root (kid_is n root kid).1 in let r = t.root_level in absurd (omega arith);
    known = λ n k kid. has_is k ∙ is_one k (kids_are_objects d t n k (kid_is n k kid).0 (kid_is n k kid).1);
    one_list = λ m n k kid also. one_holder d t m n k (objects_shown d t m (kid_is m k kid).0) (objects_shown d t n (kid_is n k also).0) (kid_is m k kid).1 (kid_is n k also).1;
    once = λ n. subst HasNoRepeats (sym (kids_are n)) (once_each n (is_object d n));
    parent = λ n k kid. parent_is k ∙ ap (λ b. cond b (object_parent d k) None) (is_one k (kids_are_objects d t n k (kid_is n k kid).0 (kid_is n k kid).1)) ∙ object_parent_is n k (kid_is n k kid).0 (kid_is n k kid).1;
    hung = λ n there top. elim (objects_hung d t n (object_is n (sym (has_is n) ∙ there))) [ inl is ↦ absurd (top (sym is)) | inr (p, one, kid) ↦ (p, kid_of p n one kid) ];
    focused = focus_held d.focus;
    texts = λ n r found. subst HasFittingText (record_found n r found) (fits (record_of d n) (nat_eq n root) (body d n) (t.fits n) (t.runs n));
    within = λ n r found. subst KeepsBounds (record_found n r found) (bounded (body d n) (t.within n));
  }
    where
      once_each : (n : ℕ) (b : Bool) → HasNoRepeats (cond b (kids d n) [])
      once_each n true = kids_once d t n
      once_each n false = λ i j low high same. absurd (omega arith)
