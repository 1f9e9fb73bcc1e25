-- The first of some nodes, in tree order.
use Rattle.std.proofs.Common.{◌≡◌, ◌≤◌, length, take, ℕ, Bool, false, cond, Some, None, Option, List, [], ◌∷◌, ◌++◌, find, refl, sym, ap, ◌∙◌}
use Rattle.std.specs.List.{flat_map}
use Rattle.std.specs.HashMap.{get_by_text}
use Rattle.std.specs.Option.{option_map_or, option_or}
use Rattle.std.proofs.lemmas.List.{append_assoc, take_all}
use Rattle.std.proofs.lemmas.List.Folds.{find-append}
use Rattle.ax_base.specs.declared.body.Body.{Body}
use Rattle.ax_base.specs.declared.body.Body.TheVariants.{Words}
use Rattle.ax_base.specs.Characters.{Chars}
use Rattle.ax_base.specs.Document.{Document, Node, node, body, order, target, children}
use Rattle.ax_base.specs.Trees.{IsTree}
use Rattle.ax_base.specs.AccessibleNames.{is_label_for}
use Rattle.ax_base.proofs.Places.{find_none}
use Rattle.ax_dom.specs.NodeMaps.{cell_at}
use Rattle.ax_dom.specs.Subtrees.{subtree}
use Rattle.ax_dom.proofs.Subtrees.{subtree_unfolds}
use Rattle.ax_names.specs.declared.targets.Targets.{Targets}
use Rattle.ax_names.specs.Targets.{is_named, AreFirstAmong, AreTargetsOf}

-- the node itself, and then what its children add
pub added_below : (d : Document) → IsTree d → (n : ℕ) (old pushed now cs : List ℕ)
    → pushed ≡ old ++ n ∷ [] → cs ≡ children d n → (k : ℕ) → length cs ≤ k → now ≡ pushed ++ flat_map (subtree d) (take k cs) → now ≡ old ++ subtree d n
added_below d t n old pushed now cs first same k past is =
    let all = take_all k cs past in
    let whole = subtree_unfolds d t n in
    let apart = append_assoc old (n ∷ []) (flat_map (subtree d) (children d n)) in
    cc

-- a node that is not there is an empty text
unknown_body : (d : Document) (n : ℕ) → None ≡ cell_at d n → body d n ≡ Words [] []
unknown_body d n is = go (node d n) refl
  where
    go : (o : Option Node) → node d n ≡ o → body d n ≡ Words [] []
    go None same = ap (λ v. option_map_or (λ (e : Node). e.body) v (Words [] [])) same
    go (Some e) same = cc

unnamed : (x : Chars) (b : Body) → b ≡ Words [] [] → is_named x b ≡ false
unnamed [] b is = refl
unnamed (c ∷ cs) b is = ap (is_named (c ∷ cs)) is

-- one more node may be the first
one_more : (test : ℕ → Bool) (ns : List ℕ) (n : ℕ) (b : Bool) (old new : Option ℕ) → test n ≡ b → old ≡ find test ns
    → new ≡ option_or old (cond b (Some n) None) → new ≡ find test (ns ++ n ∷ [])
one_more test ns n b old new passes was is = let more = find-append test ns (n ∷ []) in cc

-- and is not where it fails the test
one_less : (test : ℕ → Bool) (ns : List ℕ) (n : ℕ) (old : Option ℕ) → test n ≡ false → old ≡ find test ns → old ≡ find test (ns ++ n ∷ [])
one_less test ns n None fails was = one_more test ns n false None None fails was refl
one_less test ns n (Some m) fails was = one_more test ns n false (Some m) (Some m) fails was refl

module _ (d : Document) (n : ℕ) (before : List ℕ) (old : Targets) (first : AreFirstAmong d before old) where
  pub unknown_more : None ≡ cell_at d n → AreFirstAmong d (before ++ n ∷ []) old
  unknown_more is =
      let e = unknown_body d n is in
      record {
        first = λ x. one_less (λ m. is_named x (body d m)) before n (get_by_text old.ids x) (unnamed x (body d n) e) (first.first x);
        label = λ x. one_less (λ m. is_label_for x (body d m)) before n (get_by_text old.labels x) (ap (is_label_for x) e) (first.label x);
      }

  pub known_more : (b : Body) → b ≡ body d n → (new : Targets) (named labels : Chars → Bool)
      → ((x : Chars) → is_named x b ≡ named x) → ((x : Chars) → is_label_for x b ≡ labels x)
      → ((x : Chars) → get_by_text new.ids x ≡ option_or (get_by_text old.ids x) (cond (named x) (Some n) None))
      → ((x : Chars) → get_by_text new.labels x ≡ option_or (get_by_text old.labels x) (cond (labels x) (Some n) None))
      → AreFirstAmong d (before ++ n ∷ []) new
  known_more b is new named labels by_name by_label ids others = record {
    first = λ x. one_more (λ m. is_named x (body d m)) before n (named x) (get_by_text old.ids x) (get_by_text new.ids x) (ap (is_named x) (sym is) ∙ by_name x) (first.first x) (ids x);
    label = λ x. one_more (λ m. is_label_for x (body d m)) before n (labels x) (get_by_text old.labels x) (get_by_text new.labels x) (ap (is_label_for x) (sym is) ∙ by_label x) (first.label x) (others x);
  }

-- the first of all nodes are those that ids name
named_first : (d : Document) (x : Chars) → find (λ m. is_named x (body d m)) (order d) ≡ target d x
named_first d [] = find_none (λ m. false) (order d) (λ q e. cc)
named_first d (c ∷ cs) = refl

pub targets_first : (d : Document) (ns all : List ℕ) → ns ≡ all → all ≡ order d → (k : ℕ) → length ns ≤ k → (t : Targets) → AreFirstAmong d (take k ns) t → AreTargetsOf d t
targets_first d ns all same is k past t among =
    let whole : take k ns ≡ order d = take_all k ns past ∙ same ∙ is in
    record {
      first = λ x. among.first x ∙ ap (find (λ m. is_named x (body d m))) whole ∙ named_first d x;
      label = λ x. among.label x ∙ ap (find (λ m. is_label_for x (body d m))) whole;
    }
