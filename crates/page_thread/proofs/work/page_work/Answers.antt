use Rattle.std.proofs.Common.{◌≡◌, ◌+◌, ◌∷◌, List, drop, refl, sym, ap, ◌∙◌, subst}
use Rattle.story_check.specs.declared.story.PageLine.{PageLine}
use Rattle.story_check.specs.Stories.{Story}
use Rattle.live_tree.specs.LiveTrees.{LiveDocument}
use Rattle.page_thread.specs.declared.work.Side.{Side}
use Rattle.page_thread.specs.Pages.{PageStands}
use Rattle.page_thread.proofs.Lines.{page_starts, next_line, ends_closed}
use Rattle.page_thread.proofs.work.page_work.Goals as goal

pub loop-line-init : goal.loop-line-init
loop-line-init g c = record {
  own = (refl, refl);
  stands = subst (λ (l : List PageLine). PageStands c.args.story.now l c.args.port.page (record { live = c.args.live; published = 0 })) (sym c.page-line-items.ensures.is)
      (page_starts c.args.story.now _ _ c.requires.accepted c.page-line-items.ensures.most c.requires.fresh (ap (λ (l : LiveDocument). let s : Side = record { live = l; published = 0 } in s) c.requires.live));
}

pub line_done-requires-clause-stands : goal.line_done-requires-clause-stands
line_done-requires-clause-stands g c =
    let items = c.page-line-items.result.now in
    let i = c.loop-line.line-index in
    let here = next_line items i c.line-item.result c.loop-line-test.true c.line-item.is in
    let same : c.loop-line.port.story ≡ c.args.story.now = c.loop-line.invariant.own.1 ∙ c.requires.story in
    (drop (i + 1) items, subst (λ (y : Story × List PageLine). PageStands y.0 y.1 c.loop-line.port.page c.loop-line.side) (λ j. (sym same j, here j)) c.loop-line.invariant.stands)

pub returns-in-Err-clause-did : goal.returns-in-Err-clause-did
returns-in-Err-clause-did g c =
    let items = c.page-line-items.result.now in
    let i = c.loop-line.line-index in
    let here = next_line items i c.line-item.result c.loop-line-test.true c.line-item.is in
    let same : c.loop-line.port.story ≡ c.args.story.now = c.loop-line.invariant.own.1 ∙ c.requires.story in
    ends_closed _ _ c.line_done.new.port c.close.new.self _ same c.close.ensures
    (c.in-Err.ensures.did (drop (i + 1) items) (subst (λ (y : Story × List PageLine). PageStands y.0 y.1 c.loop-line.port.page c.loop-line.side) (λ j. (sym same j, here j)) c.loop-line.invariant.stands))

pub loop-line-preserved : goal.loop-line-preserved
loop-line-preserved g c =
    let items = c.page-line-items.result.now in
    let i = c.loop-line.line-index in
    let here = next_line items i c.line-item.result c.loop-line-test.true c.line-item.is in
    let same : c.loop-line.port.story ≡ c.args.story.now = c.loop-line.invariant.own.1 ∙ c.requires.story in
    record {
      own = (c.line_done.ensures.own.0 ∙ c.loop-line.invariant.own.0, c.line_done.ensures.own.1 ∙ c.loop-line.invariant.own.1);
      stands = subst (λ (s : Story). PageStands s (drop (i + 1) items) c.line_done.new.port.page c.in-Ok.next) same
          (c.in-Ok.ensures.did (drop (i + 1) items) (subst (λ (y : Story × List PageLine). PageStands y.0 y.1 c.loop-line.port.page c.loop-line.side) (λ j. (sym same j, here j)) c.loop-line.invariant.stands));
    }
