-- What an index of a document answers for a text.
use Rattle.std.specs.Prelude.{◌≡◌, ℕ, List, [], filter, Option, None, unwrap_or}
use Rattle.std.specs.HashMap.{get_by_text}
use Rattle.ax_base.specs.Characters.{Chars}
use Rattle.ax_base.specs.Document.{Document, body, ids, order, has_id, target}
use Rattle.ax_base.specs.AccessibleNames.{is_label_for}
use Rattle.dom_ids.specs.declared.index.Entry.{Entry}
use Rattle.dom_ids.specs.declared.index.IdIndex.{IdIndex}
use Rattle.dom_ids.specs.References.{names_text}

-- the elements with an `id`, by rising id
abbrev pub carriers : Document → Chars → List ℕ
carriers d x = filter (λ n. has_id x (body d n)) (ids d)

-- the elements that refer to an `id`, by rising id
abbrev pub namers : Document → Chars → List ℕ
namers d x = filter (λ n. names_text x (body d n)) (ids d)

-- the `label` elements for an `id`, in tree order
abbrev pub labels : Document → Chars → List ℕ
labels d x = filter (λ n. is_label_for x (body d n)) (order d)

-- all that is kept of a text
abbrev pub entry_of : Document → Chars → Entry
entry_of d x = record { first = target d x; carriers = carriers d x; namers = namers d x; labels = labels d x }

-- what is kept of a text that no element has
abbrev pub no_entry : Entry
no_entry = record { first = None; carriers = []; namers = []; labels = [] }

-- what an index keeps of a text
abbrev pub entry_at : IdIndex → Chars → Entry
entry_at index x = unwrap_or (get_by_text index.entries x) no_entry

-- an index is that of a document
abbrev pub IsIndexOf : Document → IdIndex → Type 0
IsIndexOf d index = (x : Chars) → entry_at index x ≡ entry_of d x
