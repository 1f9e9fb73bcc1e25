use Rattle.std.proofs.Common.{◌≡◌, None, sym, ◌∙◌}
use Rattle.ax_port.proofs.QuietLaws.{quiet_entry, quiet_cap}
use Rattle.ax_port.proofs.tests.publish.Goals as goal

pub publish-requires-clause-next : goal.publish-requires-clause-next
publish-requires-clause-next g c =
    (λ i. record { batch = record { added = c.new.ensures i; changed = c.new-2.ensures i; removed = c.new-3.ensures i; focus = None }; notices = c.new-4.ensures i })
    ∙ sym (quiet_entry c.args.port.now.story c.args.count c.args.port.now.page.published c.requires.at.quiet)

pub publish-requires-clause-cap : goal.publish-requires-clause-cap
publish-requires-clause-cap g c = quiet_cap c.args.port.now.story c.args.count c.args.port.now.page.seen c.args.so_far c.args.port.now.page.published c.requires.at.quiet c.requires.left c.requires.at.so_far
