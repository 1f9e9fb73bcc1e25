-- What is answered and noticed at each moment.
use Rattle.std.specs.Prelude.{ℕ, List}
use Rattle.ax_base.specs.declared.notices.Notice.{Notice}
use Rattle.ax_ask.specs.declared.requests.Request.{Request}
use Rattle.ax_ask.specs.declared.replies.Reply.{Reply}
use Rattle.ax_notice.specs.Moments.{notices_up_to}
use Rattle.ax_answer.specs.Answers.{answer}
use Rattle.story_check.specs.Stories.{Story}
use Rattle.story_check.specs.Moments.{tree_at}

-- the reply to a request at a moment
unfoldable pub answer_at : Story → ℕ → Request → Reply
answer_at s k q = answer (tree_at s k) q

-- the notices of the moments t+1 to p, joined in order
unfoldable pub notices_of : Story → ℕ → ℕ → List Notice
notices_of s t p = notices_up_to (tree_at s) t p
