use Rattle.std.proofs.Common.{◌≡◌, drop}
use Rattle.ax_port.specs.States.{SamePage}
use Rattle.page_thread.specs.Pages.{PageStands}
use Rattle.page_thread.proofs.work.page_work.Given as goal

abbrev pub invariant-loop-line : goal.invariant-loop-line
invariant-loop-line g l = record {
  own : SamePage l.fn.port l.port;
  stands : PageStands l.story (drop l.line-index l.line-items) l.port.page l.side;
}
