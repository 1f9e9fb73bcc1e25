-- Room for the lists of a batch.
use Rattle.std.specs.Prelude.{◌≡◌, ℕ, ◌≤◌, List, []}
use Rattle.ax_record.specs.declared.record.Record.{Record}
use Rattle.ax_batch.specs.declared.batch.Change.{Change}
use Rattle.ax_batch.specs.declared.merged.Room.{Room}

-- each list, with the room that it has, has room for n more
abbrev pub HasListRoom : ℕ → List Record × ℕ → List Change × ℕ → List ℕ × ℕ → Type 0
HasListRoom n added changed removed = (n ≤ added.1) × (n ≤ changed.1) × (n ≤ removed.1)

-- nothing is in the lists, and each has room for n
pub record HasRoom (n : ℕ) (r : Room) : Type 0 where
  pub none : (r.ids.0 ≡ []) × (r.added.0 ≡ []) × (r.changed.0 ≡ []) × (r.removed.0 ≡ [])
  pub ids : n ≤ r.ids.1
  pub lists : HasListRoom n r.added r.changed r.removed
