-- The objects on which the children of nodes hang.
use Rattle.std.specs.Prelude.{◌≡◌, ℕ, not, ◌&&◌, if◌then◌else◌, find, List, Option, Some, None}
use Rattle.std.specs.Option.{option_map_or, option_and_then}
use Rattle.std.specs.Ordering.{nat_cmp}
use Rattle.std.specs.Map.{lookup}
use Rattle.std.specs.BTreeMap.{is_at}
use Rattle.ax_base.specs.Document.{Document, lineage}
use Rattle.ax_dom.specs.Among.{is_in}
use Rattle.ax_record.specs.Records.{is_object}

-- the object on which the children of a node hang: the nearest from the node on upward
abbrev pub host : Document → ℕ → Option ℕ
host d n = find (is_object d) (lineage d n)

-- what is kept of a node
abbrev pub host_at : List (ℕ × Option ℕ) → ℕ → Option (Option ℕ)
host_at hosts n = lookup (is_at (nat_cmp n)) hosts

-- what is kept of a node, or the node where nothing is
abbrev pub host_below : List (ℕ × Option ℕ) → ℕ → Option ℕ
host_below hosts n = option_map_or (λ (h : Option ℕ). h) (host_at hosts n) (Some n)

-- the same of a parent, and nothing without one
abbrev pub host_above : List (ℕ × Option ℕ) → Option ℕ → Option ℕ
host_above hosts parent = option_and_then (host_below hosts) parent

-- what should be kept of a node: nothing of an object, and of any other the object on which its children hang
abbrev pub host_kept : Document → ℕ → Option (Option ℕ)
host_kept d n = if not (is_object d n) then Some (host d n) else None

-- Of some nodes is kept what should be, and of others nothing.
abbrev pub AreHostsOf : Document → List ℕ → List (ℕ × Option ℕ) → Type 0
AreHostsOf d ns hosts = (n : ℕ) → host_at hosts n ≡ (if is_in ns n && not (is_object d n) then Some (host d n) else None)
