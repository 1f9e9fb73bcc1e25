-- The last moment of a story.
use Rattle.std.specs.Prelude.{◌≡◌}
use Rattle.story_check.specs.declared.last.LastMoment.{LastMoment}
use Rattle.story_check.specs.Stories.{Story, flushes}
use Rattle.story_check.specs.Moments.{document_at}

-- this is the last moment of a story, with the lines of its client
pub record IsLastOf (s : Story) (last : LastMoment) : Type 0 where
  pub flushes_are : last.flushes ≡ flushes s.page
  pub client_is : last.client.items ≡ s.client
  pub document_is : last.document ≡ document_at s (flushes s.page)
