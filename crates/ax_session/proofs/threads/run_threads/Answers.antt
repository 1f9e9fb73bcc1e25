use Rattle.std.proofs.Common.{◌≡◌, ◌≤◌, length, sym, ap, ◌∙◌, subst}
use Rattle.story_check.specs.Stories.{Story, flushes}
use Rattle.story_check.specs.Moments.{tree_at, AreTrees}
use Rattle.story_check.specs.declared.story.ClientLine.{ClientLine}
use Rattle.story_check.proofs.Trees.{are_trees}
use Rattle.ax_session.proofs.Ending.{page_facts_at, client_facts_at, live_starts, tree_starts, told_legal}
use Rattle.ax_session.proofs.threads.run_threads.Goals as goal

pub pair-requires-clause-page : goal.pair-requires-clause-page
pair-requires-clause-page g c κs within =
    let made = c.in_ok-ports.ensures in
    (made.tables.0, made.records.0, made.stories.1, c.requires.accepted, live_starts c.args.story.now _ _ c.in_ok-live.ensures c.in_ok-document.ensures)

pub pair-requires-clause-client : goal.pair-requires-clause-client
pair-requires-clause-client g c κs within =
    let made = c.in_ok-ports.ensures in
    let lines = c.client-2.ensures in (
      made.tables.1,
      made.records.1,
      lines.is ∙ ap (λ (s : Story). s.client) (sym made.stories.2),
      subst (λ l. length l ≤ 16384) (sym lines.is) lines.most,
      c.flushes.ensures.is ∙ ap (λ (s : Story). flushes s.page) (sym made.stories.2),
      subst (λ (s : Story). AreTrees s) (sym made.stories.2) (are_trees c.args.story.now c.requires.accepted),
      tree_starts c.args.story.now c.in_ok-ports.client.story _ c.in_ok-live.live made.stories.2 c.in_ok-tree.ensures (live_starts c.args.story.now _ _ c.in_ok-live.ensures c.in_ok-document.ensures),
    )

pub settle-requires-clause-page : goal.settle-requires-clause-page
settle-requires-clause-page g c =
    let last = c.finish-last.ensures in
    page_facts_at c.args.story.now c.in_ok-ports.ports.story _ _ _ _ _ c.in_ok-ports.ensures.stories.0 last.published last.taken c.in-Some.ensures.page.1 last.last

pub settle-requires-clause-client : goal.settle-requires-clause-client
settle-requires-clause-client g c =
    let last = c.finish-last.ensures in
    client_facts_at c.args.story.now c.in_ok-ports.ports.story c.in_ok-ports.client.story _ _ _ _ _ c.in_ok-ports.ensures.stories.0 c.in_ok-ports.ensures.stories.2 last.published last.taken c.in-Some.ensures.client.1 last.last

pub returns-clause-legal : goal.returns-clause-legal
returns-clause-legal g c = told_legal c.args.story.now c.in_ok-ports.client.story c.in-Some.page-1-given.0.0.1.0.client _ _ c.in_ok-ports.ensures.stories.2 c.in-Some.ensures.client.1 c.settle.ensures.told
