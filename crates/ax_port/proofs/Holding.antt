-- One more moment in the log that the page holds.
use Rattle.std.proofs.Common.{◌≡◌, ℕ, ◌+◌, ◌≤◌, sym, ◌∙◌}
use Rattle.story_check.specs.Stories.{Story}
use Rattle.story_check.specs.Moments.{tree_at}
use Rattle.change_log.specs.declared.log.LogEntries.{LogEntries}
use Rattle.change_log.specs.Logs.{entry_after, appended, span}
use Rattle.change_log.proofs.Spans.{span-snoc}

pub one_more : (d : Story) (t p : ℕ) (e b log : LogEntries) → t ≤ p → log ≡ span (tree_at d) t p → b ≡ appended log e → e ≡ entry_after (tree_at d) p → b ≡ span (tree_at d) t (p + 1)
one_more d t p e b log h is f g = f ∙ ((λ i. appended (is i) (g i)) ∙ sym (span-snoc (tree_at d) t p h))
