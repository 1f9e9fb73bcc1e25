-- The states of an object in words (WAI-ARIA 1.2, section 6.6).
use Rattle.std.specs.Prelude.{Bool, true, false, Option, Some, None, [], ◌++◌, codes}
use Rattle.ax_base.specs.Characters.{Chars}
use Rattle.ax_base.specs.declared.states.Checked.{Checked}
use Rattle.ax_base.specs.declared.states.States.{States}
use Rattle.ax_base.specs.SettingWords.{checked_word}
use Rattle.ax_ask.specs.Words.{truth_word}

-- a word where the state holds
abbrev pub where_holds : Bool → Chars → Chars
where_holds true word = codes " " ++ word
where_holds false word = []

-- a state and whether it holds, where the object has it
abbrev pub where_told : Chars → Option Bool → Chars
where_told name (Some holds) = codes " " ++ name ++ codes "=" ++ truth_word holds
where_told name None = []

-- a tristate and its value, where the object has it
abbrev pub where_checked : Chars → Option Checked → Chars
where_checked name (Some checked) = codes " " ++ name ++ codes "=" ++ checked_word checked
where_checked name None = []

-- the states that hold or that the object has, each after a space
abbrev pub state_words : States → Chars
state_words s =
    let record {
      focusable = focusable;
      disabled = disabled;
      checked = checked;
      expanded = expanded;
      selected = selected;
      pressed = pressed;
      required = required;
      readonly = readonly;
      invalid = invalid;
      busy = busy;
    } = s in
    where_holds focusable (codes "focusable")
    ++ where_holds disabled (codes "disabled")
    ++ where_checked (codes "checked") checked
    ++ where_told (codes "expanded") expanded
    ++ where_told (codes "selected") selected
    ++ where_checked (codes "pressed") pressed
    ++ where_holds required (codes "required")
    ++ where_holds readonly (codes "readonly")
    ++ where_holds invalid (codes "invalid")
    ++ where_holds busy (codes "busy")
