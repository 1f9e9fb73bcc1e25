-- Nodes in an order from above, and what is right of them so far.
use Rattle.std.specs.Prelude.{◌≡◌, ◌<◌, ◌⊎◌, ℕ, true, false, List, length, get_or, take, drop}
use Rattle.ax_base.specs.Document.{Document, has, IsChild}
use Rattle.ax_dom.specs.Among.{is_in}

-- Some nodes of a document, each once and behind its parent, which is one of them.
pub record IsFromAbove (d : Document) (ns : List ℕ) : Type 0 where
  pub known : (n : ℕ) → is_in ns n ≡ true → has d n ≡ true
  pub once : (i n : ℕ) → i < length ns → n ≡ get_or ns i n → is_in (take i ns) n ≡ false
  pub behind : (i p n : ℕ) → i < length ns → n ≡ get_or ns i n → IsChild d p n → is_in (take i ns) p ≡ true

-- Something is right of each node that is none of some, or one of these before a place.
abbrev pub AreRightBefore : Document → List ℕ → ℕ → (ℕ → Type 0) → Type 0
AreRightBefore d ns i P = (n : ℕ) → has d n ≡ true → (is_in ns n ≡ false) ⊎ (is_in (take i ns) n ≡ true) → P n

-- Something is right of each node that is none of some, or one of these from a place on.
abbrev pub AreRightFrom : Document → List ℕ → ℕ → (ℕ → Type 0) → Type 0
AreRightFrom d ns i P = (n : ℕ) → has d n ≡ true → (is_in ns n ≡ false) ⊎ (is_in (drop i ns) n ≡ true) → P n
