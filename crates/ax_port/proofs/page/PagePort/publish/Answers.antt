use Rattle.std.proofs.Common.{◌≡◌, ℕ, ◌+◌, ◌≤◌, refl, sym, ap, ◌∙◌, subst, arith}
use Rattle.story_check.specs.Stories.{Story, flushes, cap}
use Rattle.story_check.proofs.Caps.{cap_most}
use Rattle.story_check.specs.Moments.{tree_at}
use Rattle.change_log.specs.Logs.{entry_after}
use Rattle.turn_word.specs.declared.view.PageRecord.{PageRecord}
use Rattle.turn_word.specs.Steps.{page_holding}
use Rattle.turn_word.proofs.Holding.{page_held}
use Rattle.ax_port.specs.Spans.{IsSpan, IsWithinCap}
use Rattle.ax_port.specs.States.{PageState, story_or, page_or}
use Rattle.ax_port.proofs.Holding.{one_more}
use Rattle.ax_port.proofs.page.PagePort.publish.Goals as goal

pub page_publish-requires-clause-page : goal.page_publish-requires-clause-page
page_publish-requires-clause-page g c =
    let p = c.self.invariant.1 in
    let d : Story = p.0 in
    let r : PageRecord = p.1 in
    let story : c.args.self.now.story ≡ d = sym (ap (λ (v : PageState). v.story) c.self.view_is) ∙ ap (λ m. story_or m.0.story) p.2 in
    let page : c.args.self.now.page ≡ r = sym (ap (λ (v : PageState). v.page) c.self.view_is) ∙ ap (λ m. page_or m.0.page) p.2 in
    let h = page_held IsSpan IsWithinCap d r c.page_acquire-found.result _ _ _ _ _ _ _ p.2 c.page_acquire-found.ensures.takes c.exchange_content-log.ensures.before c.exchange_content-log.ensures.after c.exchange_content-empty.ensures.after in (
      d,
      page_holding r c.page_acquire-found.result.taken,
      c.page_acquire-found.result.taken,
      _,
      h.me_is,
      refl,
      (
        subst (λ (y : Story × PageRecord). y.1.published + 1 ≤ cap y.0.page y.1.seen) (λ i. (story i, page i)) c.requires.cap,
        one_more d _ r.published _ _ _ h.taken_published h.got_right c.in-Ok.ensures (c.requires.next ∙ (λ i. entry_after (tree_at (story i)) (page i).published)),
      ),
    )

pub overflow_add-result : goal.overflow_add-result
overflow_add-result g c =
    let p = c.self.invariant.1 in
    let d : Story = p.0 in
    let r : PageRecord = p.1 in
    let story : c.args.self.now.story ≡ d = sym (ap (λ (v : PageState). v.story) c.self.view_is) ∙ ap (λ m. story_or m.0.story) p.2 in
    let page : c.args.self.now.page ≡ r = sym (ap (λ (v : PageState). v.page) c.self.view_is) ∙ ap (λ m. page_or m.0.page) p.2 in
    let h = page_held IsSpan IsWithinCap d r c.page_acquire-found.result _ _ _ _ _ _ _ p.2 c.page_acquire-found.ensures.takes c.exchange_content-log.ensures.before c.exchange_content-log.ensures.after c.exchange_content-empty.ensures.after in
    let is = h.reads.published_is in
    let may : r.published + 1 ≤ cap d.page r.seen = subst (λ (y : Story × PageRecord). y.1.published + 1 ≤ cap y.0.page y.1.seen) (λ i. (story i, page i)) c.requires.cap in
    let most = cap_most d.page r.seen in
    let few = p.3.1 in
    omega arith
