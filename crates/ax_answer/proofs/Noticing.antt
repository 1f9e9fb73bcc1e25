-- The notices of the moments of a story, joined.
use Rattle.std.proofs.Common.{◌≡◌, ℕ, ◌≤◌, [], ◌++◌}
use Rattle.story_check.specs.Stories.{Story}
use Rattle.story_check.specs.Moments.{tree_at}
use Rattle.ax_notice.proofs.Joining.{notices-join as up_to-join, notices-none as up_to-none}
use Rattle.ax_answer.specs.Moments.{notices_of}

pub notices-join : (s : Story) (n m p : ℕ) → n ≤ m → m ≤ p → notices_of s n p ≡ notices_of s n m ++ notices_of s m p
unfolding notices_of
notices-join s n m p h k = up_to-join (tree_at s) n m p h k

pub notices-none : (s : Story) (p : ℕ) → notices_of s p p ≡ []
unfolding notices_of
notices-none s p = up_to-none (tree_at s) p
