-- What an edit makes of the one node that it changes.
use Rattle.std.specs.Prelude.{List, []}
use Rattle.ax_base.specs.declared.body.Body.{Body}
use Rattle.ax_base.specs.declared.body.Body.TheVariants.{Element, Words}
use Rattle.ax_base.specs.declared.rect.Rect.{Rect}
use Rattle.ax_base.specs.declared.rect.Run.{Run}
use Rattle.ax_base.specs.Characters.{Chars}
use Rattle.ax_base.specs.Attributes.{with_value, without_name}
use Rattle.ax_dom.specs.declared.cell.NodeEntry.{NodeEntry}
use Rattle.ax_dom.specs.declared.edit.Edit.{Edit}
use Rattle.ax_dom.specs.declared.edit.Edit.TheVariants.{Chars as NewChars, Set, Unset, SetRuns, Frame}

-- a text with other characters, and no runs
abbrev pub with_chars : Chars → Body → Body
with_chars new (Words chars runs) = Words new []
with_chars new (Element tag attrs frame) = Element tag attrs frame

-- an element with a value of an attribute
abbrev pub with_attr : Chars → Chars → Body → Body
with_attr name value (Element tag attrs frame) = Element tag (with_value name value attrs) frame
with_attr name value (Words chars runs) = Words chars runs

-- an element without an attribute
abbrev pub without_attr : Chars → Body → Body
without_attr name (Element tag attrs frame) = Element tag (without_name name attrs) frame
without_attr name (Words chars runs) = Words chars runs

-- a text with other runs
abbrev pub with_runs : List Run → Body → Body
with_runs new (Words chars runs) = Words chars new
with_runs new (Element tag attrs frame) = Element tag attrs frame

-- an element with another frame
abbrev pub with_frame : Rect → Body → Body
with_frame new (Element tag attrs frame) = Element tag attrs new
with_frame new (Words chars runs) = Words chars runs

-- the node after an edit that changes it alone
abbrev pub body_after : Edit → Body → Body
body_after (NewChars id new) b = with_chars new b
body_after (Set id name value) b = with_attr name value b
body_after (Unset id name) b = without_attr name b
body_after (SetRuns id new) b = with_runs new b
body_after (Frame id new) b = with_frame new b
body_after _ b = b

-- the entry after such an edit
abbrev pub entry_after : Edit → NodeEntry → NodeEntry
entry_after e s = record s { cell = record s.cell { body = body_after e s.cell.body } }
