-- Documents that are trees.
use Rattle.std.specs.Prelude.{◌≡◌, ◌≢◌, ◌<◌, ◌≤◌, ◌+◌, ℕ, suc, true, false, Some, List, [], length, get_or}
use Rattle.std.specs.List.Sorted.{IsStrictlyIncreasing}
use Rattle.ax_base.specs.Document.{Document, root, has, ids, body, is_text, children, IsChild}
use Rattle.ax_base.specs.Rects.{HasRectsWithin}
use Rattle.ax_base.specs.Runs.{KeepsRuns}
use Rattle.ax_base.specs.Texts.{IsFitting}
use Rattle.ax_base.specs.declared.limits.TheConstants.{MAX_DEPTH, MAX_INSERTS}

-- nothing stands at two places of a list
abbrev pub HasNoRepeats : List ℕ → Type 0
HasNoRepeats xs = (i j : ℕ) → i < length xs → j < length xs → get_or xs i 0 ≡ get_or xs j 0 → i ≡ j

-- Each node hangs on the root, in one place, at most 64 levels below it; texts have no children, are not too long and have runs that they may have; rectangles are within bounds; ids rise; there are 65,537 nodes at most; the focused node is there.
pub record IsTree (d : Document) : Type 0 where
  -- how far a node is below the root
  pub level : ℕ → ℕ
  pub has_root : has d root ≡ true
  pub root_level : level root ≡ 0
  pub root_element : is_text (body d root) ≡ false
  pub known : (n c : ℕ) → IsChild d n c → has d c ≡ true
  pub deeper : (n c : ℕ) → IsChild d n c → level c ≡ suc (level n)
  pub shallow : (n : ℕ) → level n ≤ MAX_DEPTH
  pub one_parent : (m n c : ℕ) → IsChild d m c → IsChild d n c → m ≡ n
  pub hung : (n : ℕ) → has d n ≡ true → n ≢ root → (p : ℕ) × IsChild d p n
  -- no child stands twice
  pub once : (n : ℕ) → HasNoRepeats (children d n)
  pub bare : (n : ℕ) → is_text (body d n) ≡ true → children d n ≡ []
  pub rising : IsStrictlyIncreasing (ids d)
  -- the root, and at most 65,536 others
  pub few : length (ids d) ≤ MAX_INSERTS + 1
  -- no text is too long
  pub fits : (n : ℕ) → IsFitting (body d n)
  -- the runs of each text go from its start to its end
  pub runs : (n : ℕ) → KeepsRuns (body d n)
  -- every rectangle is within bounds
  pub within : (n : ℕ) → HasRectsWithin (body d n)
  -- the focused node is there
  pub focused : (n : ℕ) → d.focus ≡ Some n → has d n ≡ true
