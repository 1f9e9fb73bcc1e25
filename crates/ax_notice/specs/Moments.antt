-- The notices of several moments.
use Rattle.std.specs.Prelude.{ℕ, zero, suc, ◌+◌, ◌-◌, List, [], ◌++◌}
use Rattle.ax_base.specs.declared.notices.Notice.{Notice}
use Rattle.ax_record.specs.Tree.{Tree}
use Rattle.ax_notice.specs.Notices.{notices_between}

-- the notices of the n moments after t, joined in order, where these are the trees of the moments
abbrev pub notices_after : (ℕ → Tree) → ℕ → ℕ → List Notice
notices_after trees t zero = []
notices_after trees t (suc n) = notices_between (trees t) (trees (t + 1)) (t + 1) ++ notices_after trees (t + 1) n

-- the notices of the moments t+1 to p, joined in order
abbrev pub notices_up_to : (ℕ → Tree) → ℕ → ℕ → List Notice
notices_up_to trees t p = notices_after trees t (p - t)
