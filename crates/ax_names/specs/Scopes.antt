-- What nodes say, whichever of them count and whether references are followed.
use Rattle.std.specs.Prelude.{◌≡◌, ℕ, Bool, if◌then◌else◌, [], codes}
use Rattle.std.specs.List.{flat_map}
use Rattle.ax_base.specs.Characters.{Chars}
use Rattle.ax_base.specs.Document.{Document, Spot, spot, body, children, text_of}
use Rattle.ax_base.specs.Trees.{IsTree}
use Rattle.ax_base.specs.Roles.{role}
use Rattle.ax_base.specs.Said.{child_text, said_by}

-- what the children of a node say, joined, each between spaces where it is a block that is not left out
abbrev pub children_say : Document → (Spot → Bool) → (ℕ → Chars) → ℕ → Chars
children_say d left_out says n = flat_map (child_text d left_out says) (children d n)

-- that each node of a tree says nothing where it is left out, and else what its references, its own texts and its children say (AccName 1.2, section 4.3.2)
abbrev pub AreSaid : (Spot → Bool) → (Document → Chars → Chars) → (Document → ℕ → Chars) → Type 0
AreSaid left_out refers says =
    (d : Document) → IsTree d → (n : ℕ)
    → says d n
    ≡ (if left_out (spot d n) then [] else said_by (role (spot d n)) (refers d (text_of (codes "aria-labelledby") (body d n))) (body d n) (children_say d left_out (says d) n))
