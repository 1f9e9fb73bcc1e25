-- Entries against the nodes that they stand for.
use Rattle.std.proofs.Common.{◌≡◌, ℕ, List, [], ◌∷◌, Bool, true, false, cond, Option, Some, None, is_some, refl, sym, ap, ◌∙◌}
use Rattle.std.specs.declared.cmp.Ordering.{Ordering}
use Rattle.std.specs.declared.cmp.Ordering.TheVariants.{Less, Equal, Greater}
use Rattle.std.specs.Ordering.{nat_cmp, match_ordering}
use Rattle.std.specs.Map.{set_value}
use Rattle.std.specs.BTreeMap.{insert_entry}
use Rattle.std.proofs.lemmas.Option.{none-some}
use Rattle.ax_base.proofs.Lookups.{finds, found_is, lookup-insert_entry}
use Rattle.ax_dom.specs.declared.cell.NodeEntry.{NodeEntry}
use Rattle.ax_dom.specs.NodeMaps.{node_of, nodes_of, entry_at}

pub nodes_of-insert_entry : (es : List (ℕ × NodeEntry)) (k : ℕ) (v : NodeEntry) → nodes_of (insert_entry nat_cmp es k v) ≡ insert_entry nat_cmp (nodes_of es) k (node_of v)
nodes_of-insert_entry [] k v = refl
nodes_of-insert_entry (e ∷ es) k v = go (nat_cmp k e.0) (nodes_of-insert_entry es k v)
  where
    go : (r : Ordering) → nodes_of (insert_entry nat_cmp es k v) ≡ insert_entry nat_cmp (nodes_of es) k (node_of v)
        → nodes_of (match_ordering r ((k, v) ∷ e ∷ es) ((e.0, v) ∷ es) (e ∷ insert_entry nat_cmp es k v))
        ≡ match_ordering r ((k, node_of v) ∷ (e.0, node_of e.1) ∷ nodes_of es) ((e.0, node_of v) ∷ nodes_of es) ((e.0, node_of e.1) ∷ insert_entry nat_cmp (nodes_of es) k (node_of v))
    go Less rest = refl
    go Equal rest = refl
    go Greater rest = ap (λ l. (e.0, node_of e.1) ∷ l) rest

pub nodes_of-set_value : (test : ℕ → Bool) (es : List (ℕ × NodeEntry)) (w : NodeEntry) → nodes_of (set_value test es w) ≡ set_value test (nodes_of es) (node_of w)
nodes_of-set_value test [] w = refl
nodes_of-set_value test (e ∷ es) w = go (test e.0) (nodes_of-set_value test es w)
  where
    go : (x : Bool) → nodes_of (set_value test es w) ≡ set_value test (nodes_of es) (node_of w)
        → nodes_of (cond x ((e.0, w) ∷ es) (e ∷ set_value test es w)) ≡ cond x ((e.0, node_of w) ∷ nodes_of es) ((e.0, node_of e.1) ∷ set_value test (nodes_of es) (node_of w))
    go true rest = refl
    go false rest = ap (λ l. (e.0, node_of e.1) ∷ l) rest

-- an entry that is there
pub the_entry : (o : Option NodeEntry) → is_some o ≡ true → (s : NodeEntry) × (o ≡ Some s)
the_entry None there = cc
the_entry (Some s) there = (s, refl)

pub entry_missing : (o : Option NodeEntry) → is_some o ≡ false → o ≡ None
entry_missing None off = refl
entry_missing (Some s) off = cc

-- what is there is there after another entry
pub still_there : (es : List (ℕ × NodeEntry)) (q k : ℕ) (v : NodeEntry) → is_some (entry_at es q) ≡ true → is_some (entry_at (insert_entry nat_cmp es k v) q) ≡ true
still_there es q k v there = ap is_some (lookup-insert_entry q k v es) ∙ go (finds q k)
  where
    go : (x : Bool) → is_some (cond x (Some v) (entry_at es q)) ≡ true
    go true = refl
    go false = there

pub same_there : (es : List (ℕ × NodeEntry)) (q k : ℕ) (v s : NodeEntry) → entry_at es k ≡ None → entry_at es q ≡ Some s → entry_at (insert_entry nat_cmp es k v) q ≡ Some s
same_there es q k v s fresh found = lookup-insert_entry q k v es ∙ go (finds q k) refl
  where
    go : (x : Bool) → finds q k ≡ x → cond x (Some v) (entry_at es q) ≡ Some s
    go true same = absurd (none-some s (sym fresh ∙ ap (entry_at es) (sym (found_is q k same)) ∙ found))
    go false apart = found
