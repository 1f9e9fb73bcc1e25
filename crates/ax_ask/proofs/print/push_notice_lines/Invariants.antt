use Rattle.std.proofs.Common.{◌≡◌, ◌++◌, string_bytes, take}
use Rattle.std.specs.List.{flat_map}
use Rattle.ax_ask.specs.Transcripts.{notice_line}
use Rattle.ax_ask.proofs.print.push_notice_lines.Given as goal

abbrev pub invariant-loop-notice : goal.invariant-loop-notice
invariant-loop-notice l = string_bytes l.out ≡ string_bytes l.fn.out ++ flat_map notice_line (take l.notice-index l.notices)
