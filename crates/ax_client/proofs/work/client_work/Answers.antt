use Rattle.std.proofs.Common.{◌≡◌, ◌+◌, ◌∷◌, List, drop, refl, sym, ap, ◌∙◌, subst, arith}
use Rattle.story_check.specs.declared.story.ClientLine.{ClientLine}
use Rattle.story_check.specs.Stories.{Story}
use Rattle.ax_client.specs.Clients.{ClientStands}
use Rattle.ax_client.proofs.Standing.{client_starts_at, next_line, room, ends_closed}
use Rattle.ax_client.proofs.work.client_work.Goals as goal

pub loop-line-init : goal.loop-line-init
loop-line-init g c = record {
  own = (refl, refl);
  stands = client_starts_at c.args.port.story c.args.lines.now _ _ c.requires.trees c.requires.lines c.requires.fresh c.requires.few refl c.new-2.ensures refl c.requires.tree c.new.ensures;
}

pub overflow_add-side : goal.overflow_add-side
overflow_add-side g c =
    let lines = c.args.lines.now in
    let i = c.loop-line.line-index in
    let here = next_line lines i c.line-item.result c.loop-line-test.true c.line-item.is in
    let low = room c.args.port.story c.line-item.result (drop (i + 1) lines) _ c.loop-line.side (subst (λ (l : List ClientLine). ClientStands c.args.port.story l c.loop-line.port.client c.loop-line.side) here c.loop-line.invariant.stands) in
    omega arith

pub line_done-requires-clause-stands : goal.line_done-requires-clause-stands
line_done-requires-clause-stands g c =
    let lines = c.args.lines.now in
    let i = c.loop-line.line-index in
    let here = next_line lines i c.line-item.result c.loop-line-test.true c.line-item.is in
    (drop (i + 1) lines, subst (λ (y : Story × List ClientLine). ClientStands y.0 y.1 c.loop-line.port.client c.loop-line.side) (λ j. (sym c.loop-line.invariant.own.1 j, here j)) c.loop-line.invariant.stands)

pub returns-in-Err-clause-did : goal.returns-in-Err-clause-did
returns-in-Err-clause-did g c =
    let lines = c.args.lines.now in
    let i = c.loop-line.line-index in
    let here = next_line lines i c.line-item.result c.loop-line-test.true c.line-item.is in
    ends_closed _ _ c.line_done.new.port c.close.new.self _ c.loop-line.invariant.own.1 c.close.ensures
    (c.in-Err.ensures.did (drop (i + 1) lines) (subst (λ (y : Story × List ClientLine). ClientStands y.0 y.1 c.loop-line.port.client c.loop-line.side) (λ j. (sym c.loop-line.invariant.own.1 j, here j)) c.loop-line.invariant.stands))

pub loop-line-preserved : goal.loop-line-preserved
loop-line-preserved g c =
    let lines = c.args.lines.now in
    let i = c.loop-line.line-index in
    let here = next_line lines i c.line-item.result c.loop-line-test.true c.line-item.is in
    let same : c.loop-line.port.story ≡ c.args.port.story = c.loop-line.invariant.own.1 in
    record {
      own = (c.line_done.ensures.own.0 ∙ c.loop-line.invariant.own.0, c.line_done.ensures.own.1 ∙ same);
      stands = subst (λ (s : Story). ClientStands s (drop (i + 1) lines) c.line_done.new.port.client c.in-Ok.next) same
          (c.in-Ok.ensures.did (drop (i + 1) lines) (subst (λ (y : Story × List ClientLine). ClientStands y.0 y.1 c.loop-line.port.client c.loop-line.side) (λ j. (sym same j, here j)) c.loop-line.invariant.stands));
    }
