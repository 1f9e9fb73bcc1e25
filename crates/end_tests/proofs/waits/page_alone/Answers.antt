use Rattle.end_tests.proofs.Starts.{live_starts}
use Rattle.end_tests.proofs.waits.page_alone.Goals as goal

pub page_work-page-requires-clause-live : goal.page_work-page-requires-clause-live
page_work-page-requires-clause-live g c = live_starts c.args.story.now _ _ c.in_ok-live.ensures c.in_ok-document.ensures
