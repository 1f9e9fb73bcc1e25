-- The words of settings and of notices.
use Rattle.std.specs.Prelude.{codes}
use Rattle.ax_base.specs.Characters.{Chars}
use Rattle.ax_base.specs.declared.states.Checked.{Checked}
use Rattle.ax_base.specs.declared.states.Checked.TheVariants.{No, Yes, Mixed}
use Rattle.ax_base.specs.declared.states.Live.{Live}
use Rattle.ax_base.specs.declared.states.Live.TheVariants.{Off, Polite, Assertive}
use Rattle.ax_base.specs.declared.notices.NoticeKind.{NoticeKind}
use Rattle.ax_base.specs.declared.notices.NoticeKind.TheVariants.{Focus, Children, Name, Value, Checked as CheckedNotice, Expanded, Selected, Live as LiveNotice}

-- the word of a tristate (WAI-ARIA 1.2, values of `aria-checked` and `aria-pressed`)
abbrev pub checked_word : Checked → Chars
checked_word No = codes "false"
checked_word Yes = codes "true"
checked_word Mixed = codes "mixed"

-- the word of a live setting (WAI-ARIA 1.2, values of `aria-live`)
abbrev pub live_word : Live → Chars
live_word Off = codes "off"
live_word Polite = codes "polite"
live_word Assertive = codes "assertive"

-- what a notice is about
abbrev pub kind_word : NoticeKind → Chars
kind_word Focus = codes "focus"
kind_word Children = codes "children"
kind_word Name = codes "name"
kind_word Value = codes "value"
kind_word CheckedNotice = codes "checked"
kind_word Expanded = codes "expanded"
kind_word Selected = codes "selected"
kind_word LiveNotice = codes "live"
