-- What is settled of the texts that an edit touches.
use Rattle.std.specs.Prelude.{◌≡◌, ℕ, Bool, ◌||◌, if◌then◌else◌, List}
use Rattle.std.specs.List.{list_any}
use Rattle.ax_base.specs.declared.body.Body.{Body}
use Rattle.ax_base.specs.Characters.{Chars}
use Rattle.ax_base.specs.Document.{Document, body, has_id}
use Rattle.ax_base.specs.AccessibleNames.{is_label_for}
use Rattle.ax_dom.specs.Among.{is_in}
use Rattle.dom_ids.specs.declared.index.Entry.{Entry}
use Rattle.dom_ids.specs.declared.index.IdIndex.{IdIndex}
use Rattle.dom_ids.specs.Index.{carriers, namers, entry_of, entry_at}

-- whether a node has the text as its `id`, or is a `label` for it
abbrev pub is_carried : Chars → Body → Bool
is_carried x b = has_id x b || is_label_for x b

-- whether one of some nodes does
abbrev pub is_carried_among : Document → List ℕ → Chars → Bool
is_carried_among d ns x = list_any (λ n. is_carried x (body d n)) ns

-- an entry has the nodes that it should have; its labels may stand in any order, and its first element may be any
pub record HasItsNodes (d : Document) (x : Chars) (e : Entry) : Type 0 where
  pub carriers_are : e.carriers ≡ carriers d x
  pub namers_are : e.namers ≡ namers d x
  pub labels_are : (n : ℕ) → is_in e.labels n ≡ is_label_for x (body d n)

-- the same of each text
abbrev pub HaveTheirNodes : Document → IdIndex → Type 0
HaveTheirNodes d index = (x : Chars) → HasItsNodes d x (entry_at index x)

-- the entries of some texts are those of the document, and the others stay
abbrev pub AreSettled : Document → (Chars → Bool) → IdIndex → IdIndex → Type 0
AreSettled d some old new = (x : Chars) → entry_at new x ≡ (if some x then entry_of d x else entry_at old x)
