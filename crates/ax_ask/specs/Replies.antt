-- The texts of replies.
use Rattle.std.specs.Prelude.{◌++◌, codes}
use Rattle.std.specs.Fmt.{decimal}
use Rattle.ax_base.specs.Characters.{Chars}
use Rattle.ax_base.specs.Quoting.{quoted}
use Rattle.ax_base.specs.RoleWords.{role_word}
use Rattle.ax_base.specs.SettingWords.{live_word}
use Rattle.ax_ask.specs.Words.{placing_word}
use Rattle.ax_ask.specs.Numbers.{all_spaced, marker_text, rect_text}
use Rattle.ax_ask.specs.StateWords.{state_words}
use Rattle.ax_ask.specs.declared.replies.Reply.{Reply}
use Rattle.ax_ask.specs.declared.replies.Reply.TheVariants.{Stale, Out, Long, Nothing, Root, Focus, Role, Name, Description, Value, States, Level, Live, Frame, Parent, Children, Order, Mark, Span, Words, Bounds, Found, Hit}

-- the text of a reply: a word, and what it tells
abbrev pub reply_text : Reply → Chars
reply_text Stale = codes "stale"
reply_text Out = codes "out"
reply_text Long = codes "long"
reply_text Nothing = codes "none"
reply_text (Root id) = codes "root " ++ decimal id
reply_text (Focus id) = codes "focus " ++ decimal id
reply_text (Role role) = codes "role " ++ role_word role
reply_text (Name text) = codes "name " ++ quoted text
reply_text (Description text) = codes "description " ++ quoted text
reply_text (Value text) = codes "value " ++ quoted text
reply_text (States states) = codes "states" ++ state_words states
reply_text (Level level) = codes "level " ++ decimal level
reply_text (Live live) = codes "live " ++ live_word live
reply_text (Frame rect) = codes "frame " ++ rect_text rect
reply_text (Parent id) = codes "parent " ++ decimal id
reply_text (Children count ids) = codes "children " ++ decimal count ++ all_spaced ids
reply_text (Order placing) = placing_word placing
reply_text (Mark marker) = codes "marker " ++ marker_text marker
reply_text (Span from to) = codes "range " ++ marker_text from ++ codes " " ++ marker_text to
reply_text (Words text) = codes "text " ++ quoted text
reply_text (Bounds rect) = codes "bounds " ++ rect_text rect
reply_text (Found ids) = codes "found" ++ all_spaced ids
reply_text (Hit id) = codes "hit " ++ decimal id
