-- What nodes that come or go change in what is kept of a text.
use Rattle.std.specs.Prelude.{ℕ, if◌then◌else◌, List, [], ◌∷◌, ◌++◌, Option, Some, None}
use Rattle.std.specs.List.Sorted.{IsStrictlyIncreasing}
use Rattle.std.specs.Option.{option_or}
use Rattle.std.specs.Ordering.{nat_cmp}
use Rattle.std.specs.BTreeSet.{insert_key}
use Rattle.ax_base.specs.declared.body.Body.{Body}
use Rattle.ax_base.specs.Characters.{Chars}
use Rattle.ax_base.specs.Document.{Document, body, has_id}
use Rattle.ax_base.specs.AccessibleNames.{is_label_for}
use Rattle.ax_dom.specs.Places.{without}
use Rattle.dom_ids.specs.declared.change.Change.{Change}
use Rattle.dom_ids.specs.declared.change.Change.TheVariants.{Comes, Goes}
use Rattle.dom_ids.specs.declared.index.Entry.{Entry}
use Rattle.dom_ids.specs.declared.index.IdIndex.{IdIndex}
use Rattle.dom_ids.specs.Index.{entry_at}
use Rattle.dom_ids.specs.References.{names_text}

-- the element that is found for a text; an empty text names none
abbrev pub unless_empty : Chars → Option ℕ → Option ℕ
unless_empty [] found = None
unless_empty (c ∷ cs) found = found

-- an element with the text as its `id` comes or goes; which element is the first, once one has gone, is told afterwards
abbrev pub carried_by : Change → ℕ → Chars → Entry → Entry
carried_by Comes n x e = record e { first = option_or e.first (unless_empty x (Some n)); carriers = insert_key nat_cmp e.carriers n }
carried_by Goes n x e = record e { carriers = without n e.carriers }

-- an element that refers to the text comes or goes
abbrev pub named_by : Change → ℕ → Entry → Entry
named_by Comes n e = record e { namers = insert_key nat_cmp e.namers n }
named_by Goes n e = record e { namers = without n e.namers }

-- a `label` for the text comes, behind those that came before, or goes
abbrev pub labelled_by : Change → ℕ → Entry → Entry
labelled_by Comes n e = record e { labels = e.labels ++ n ∷ [] }
labelled_by Goes n e = record e { labels = without n e.labels }

-- an entry after a node has come or gone
abbrev pub with_node : Change → ℕ → Body → Chars → Entry → Entry
with_node c n b x e =
    let carried = if has_id x b then carried_by c n x e else e in
    let labelled = if is_label_for x b then labelled_by c n carried else carried in
    if names_text x b then named_by c n labelled else labelled

-- the same of some nodes, one after another
abbrev pub with_nodes : Change → Document → List ℕ → Chars → Entry → Entry
with_nodes c d [] x e = e
with_nodes c d (n ∷ ns) x e = with_nodes c d ns x (with_node c n (body d n) x e)

-- the elements with a text and those that refer to it are by rising id
pub record IsRising (e : Entry) : Type 0 where
  pub carriers : IsStrictlyIncreasing e.carriers
  pub namers : IsStrictlyIncreasing e.namers

-- the same of each text
abbrev pub AreRising : IdIndex → Type 0
AreRising index = (x : Chars) → IsRising (entry_at index x)
