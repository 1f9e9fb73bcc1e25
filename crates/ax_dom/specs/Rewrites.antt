-- Entries that are rewritten in their places.
use Rattle.std.specs.Prelude.{◌≡◌, ℕ, false, nat_eq, ◌==◌, ◌+◌, ◌-◌, min, if◌then◌else◌, List, Option, Some}
use Rattle.std.specs.List.{list_any}
use Rattle.std.specs.Option.{option_map, option_map_or}
use Rattle.std.specs.Map.{keys_of}
use Rattle.ax_dom.specs.declared.cell.NodeEntry.{NodeEntry}
use Rattle.ax_dom.specs.Places.{without}
use Rattle.ax_dom.specs.NodeMaps.{entry_at}
use Rattle.ax_base.specs.declared.limits.TheConstants.{MAX_DEPTH}

-- The ids stay, and each entry is made of its id and of what it was.
pub record IsRewritten (old new : List (ℕ × NodeEntry)) (make : ℕ → NodeEntry → NodeEntry) : Type 0 where
  pub same_ids : keys_of new ≡ keys_of old
  pub each : (q : ℕ) → entry_at new q ≡ option_map (make q) (entry_at old q)

-- a node's parent has it among its children no more
abbrev pub unlinked : Option ℕ → ℕ → ℕ → NodeEntry → NodeEntry
unlinked from n q s = if option_map_or (λ p. p == q) from false then record s { children = without n s.children } else s

-- a node has other children
abbrev pub with_list : ℕ → List ℕ → ℕ → NodeEntry → NodeEntry
with_list n list q s = if n == q then record s { children = list } else s

-- a node hangs on its former parent no more, and `into` has other children
abbrev pub relinked : Option ℕ → ℕ → ℕ → List ℕ → ℕ → NodeEntry → NodeEntry
relinked from n into list q s = with_list into list q (unlinked from n q s)

-- a node has another parent
abbrev pub with_parent : ℕ → ℕ → ℕ → NodeEntry → NodeEntry
with_parent n parent q s = if n == q then record s { cell = record s.cell { parent = Some parent } } else s

-- a node's depth is re-based: `depth - top + base`
abbrev pub rebased : ℕ → ℕ → NodeEntry → NodeEntry
rebased base top s = record s { cell = record s.cell { depth = min (base + min (s.cell.depth - top) MAX_DEPTH) MAX_DEPTH } }

-- so is one node
abbrev pub rebased_at : ℕ → ℕ → ℕ → ℕ → NodeEntry → NodeEntry
rebased_at n base top q s = if n == q then rebased base top s else s

-- so are some nodes
abbrev pub rebased_among : List ℕ → ℕ → ℕ → ℕ → NodeEntry → NodeEntry
rebased_among ids base top q s = if list_any (nat_eq q) ids then rebased base top s else s
