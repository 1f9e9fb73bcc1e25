use Rattle.std.proofs.Common.{sym, subst}
use Rattle.story_check.specs.Stories.{Story}
use Rattle.story_check.specs.Moments.{AreTrees}
use Rattle.story_check.proofs.Trees.{are_trees}
use Rattle.end_tests.proofs.Starts.{live_starts, tree_starts}
use Rattle.end_tests.proofs.waits.client_alone.Goals as goal

pub client_work-client-requires-clause-trees : goal.client_work-client-requires-clause-trees
client_work-client-requires-clause-trees g c = subst (λ (s : Story). AreTrees s) (sym c.in_ok-ports.ensures.stories.2) (are_trees c.args.story.now c.requires)

pub client_work-client-requires-clause-tree : goal.client_work-client-requires-clause-tree
client_work-client-requires-clause-tree g c = tree_starts c.args.story.now c.in_ok-ports.client.story _ c.in_ok-live.live c.in_ok-ports.ensures.stories.2 c.in_ok-tree.ensures (live_starts c.args.story.now _ _ c.in_ok-live.ensures c.in_ok-document.ensures)
