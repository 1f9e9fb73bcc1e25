use Rattle.std.proofs.Common.{arith}
use Rattle.page_thread.proofs.Lines.{next_entry, room, page_may_publish}
use Rattle.page_thread.proofs.work.flushed.Goals as goal

pub overflow_add-next : goal.overflow_add-next
overflow_add-next g c = let low = room _ c.requires.stands.0 _ _ c.requires.stands.1 in omega arith

pub publish-requires-clause-next : goal.publish-requires-clause-next
publish-requires-clause-next g c = next_entry _ c.requires.stands.0 _ c.args.side _ _ c.in_ok-live.ensures.batch c.in_ok-live.ensures.notices c.requires.stands.1

pub publish-requires-clause-cap : goal.publish-requires-clause-cap
publish-requires-clause-cap g c = page_may_publish _ c.requires.stands.0 _ _ c.requires.stands.1
