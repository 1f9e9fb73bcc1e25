-- What the marks of an edit take.
use Rattle.std.proofs.Common.{◌≡◌, ℕ, ◌+◌, ◌≤◌, ◌<◌, List, [], ◌∷◌, ◌++◌, length, take, get_or, Bool, true, false, cond, Option, Some, None, refl, sym, ap, ◌∙◌, append-nil, append_assoc}
use Rattle.std.specs.Prelude.{flat_map, codes}
use Rattle.std.specs.Option.{option_map_or}
use Rattle.std.proofs.lemmas.List.{take_all, take_more}
use Rattle.std.proofs.lemmas.Option.{same_Some}
use Rattle.ax_base.specs.declared.body.Body.TheVariants.{Words}
use Rattle.ax_base.specs.Characters.{Chars}
use Rattle.ax_base.specs.Document.{Document, Node, node, body, has, attr}
use Rattle.ax_dom.specs.declared.cell.Cell.{Cell}
use Rattle.ax_dom.specs.NodeMaps.{cell_of, cell_at}
use Rattle.dom_ids.specs.References.{listed, label_for, carried}
use Rattle.dirty_set.specs.Marking.{carried_by_all}

joined_more : (f : ℕ → List Chars) (xs : List ℕ) (x : ℕ) → flat_map f (xs ++ x ∷ []) ≡ flat_map f xs ++ f x
joined_more f [] x = append-nil (f x)
joined_more f (y ∷ ys) x = ap (λ l. f y ++ l) (joined_more f ys x) ∙ sym (append_assoc (f y) (flat_map f ys) (f x))

-- a loop over nodes that adds what each carries
pub carried_more : (d : Document) (old now more : List Chars) (ids : List ℕ) (i x : ℕ) → i < length ids → x ≡ get_or ids i x → now ≡ old ++ carried_by_all d (take i ids) → more ≡ now ++ carried (body d x) → more ≡ old ++ carried_by_all d (take (i + 1) ids)
carried_more d old now more ids i x low is far adds =
    adds ∙ ap (λ l. l ++ carried (body d x)) far ∙ append_assoc old (carried_by_all d (take i ids)) (carried (body d x))
    ∙ ap (λ l. old ++ l) (sym (ap (carried_by_all d) (take_more ids i x low ∙ ap (λ y. take i ids ++ y ∷ []) (sym is)) ∙ joined_more (λ n. carried (body d n)) (take i ids) x))

pub carried_all : (d : Document) (old now : List Chars) (ids near : List ℕ) (i : ℕ) → length ids ≤ i → ids ≡ near → now ≡ old ++ carried_by_all d (take i ids) → now ≡ old ++ carried_by_all d near
carried_all d old now ids near i past same far = far ∙ ap (λ l. old ++ carried_by_all d l) (take_all i ids past ∙ same)

-- a node that is not there carries nothing
pub none_carried : (d : Document) (n : ℕ) (old : List Chars) → None ≡ cell_at d n → old ≡ old ++ carried (body d n)
none_carried d n old none = go (node d n) refl
  where
    go : (o : Option Node) → node d n ≡ o → old ≡ old ++ carried (body d n)
    go None lacks = sym (ap (λ (p : Option Node). old ++ carried (option_map_or (λ (e : Node). e.body) p (Words [] []))) lacks ∙ append-nil old)
    go (Some x) there = absurd (nothing (none ∙ ap (λ (p : Option Node). cond (found p) (Some (cell_of d n)) None) there))
      where
        found : Option Node → Bool
        found None = false
        found (Some y) = true

        nothing : None ≡ Some (cell_of d n) → ⊥
        nothing e = cc

pub carried_is : (d : Document) (n : ℕ) (cell : Cell) → Some cell ≡ cell_at d n → (own label : Option Chars) → own ≡ attr (codes "id") cell.body → label ≡ label_for cell.body → (old now more : List Chars) → now ≡ old ++ listed own → more ≡ now ++ listed label → more ≡ old ++ carried (body d n)
carried_is d n cell at own label id for old now more first second =
    second ∙ ap (λ l. l ++ listed label) first ∙ append_assoc old (listed own) (listed label)
    ∙ (λ i. old ++ (listed (id i) ++ listed (for i)))
    ∙ ap (λ b. old ++ carried b) (same (has d n) at)
  where
    same : (b : Bool) → Some cell ≡ cond b (Some (cell_of d n)) None → cell.body ≡ body d n
    same true is = ap (λ (c : Cell). c.body) (same_Some cell (cell_of d n) is)
    same false is = cc

-- five lists added in turn
pub nodes_are : (a b c f g n0 n1 n2 n3 n4 n5 : List ℕ) → n0 ≡ [] → n1 ≡ n0 ++ a → n2 ≡ n1 ++ b → n3 ≡ n2 ++ c → n4 ≡ n3 ++ f → n5 ≡ n4 ++ g → n5 ≡ (a ++ b) ++ (c ++ (f ++ g))
nodes_are a b c f g n0 n1 n2 n3 n4 n5 e0 e1 e2 e3 e4 e5 =
    let two : n2 ≡ a ++ b = e2 ∙ ap (λ l. l ++ b) (e1 ∙ ap (λ l. l ++ a) e0) in
    e5 ∙ ap (λ l. l ++ g) (e4 ∙ ap (λ l. l ++ f) (e3 ∙ ap (λ l. l ++ c) two))
    ∙ append_assoc (((a ++ b) ++ c)) f g ∙ append_assoc (a ++ b) c (f ++ g)
