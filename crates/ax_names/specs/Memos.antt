-- What is gathered of texts, kept by node, so that no text is put together twice.
use Rattle.std.specs.Prelude.{◌≡◌, ℕ, Option, Some, nat_eq}
use Rattle.std.specs.HashMap.{get}
use Rattle.ax_base.specs.Characters.{Chars}
use Rattle.ax_names.specs.declared.memo.Memo.{Memo}

-- what is kept of a node
abbrev pub kept_at : {G : Type 0} → Memo G → ℕ → Option G
kept_at m n = get nat_eq m.gathered n

-- each that is kept is what is gathered of the text of its node
abbrev pub Keeps : {G : Type 0} → (Chars → G) → (ℕ → Chars) → Memo G → Type 0
Keeps {G = G} of text m = (n : ℕ) (p : G) → kept_at m n ≡ Some p → p ≡ of (text n)
