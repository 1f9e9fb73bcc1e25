-- States, level, live and value: what a node tells beside its role and name.
use Rattle.std.specs.Prelude.{ℕ, Bool, true, false, not, ◌&&◌, ◌||◌, ◌==◌, if◌then◌else◌, List, Option, Some, None, unwrap_or, bytes_eq, codes}
use Rattle.std.specs.Option.{option_or}
use Rattle.ax_base.specs.declared.attrs.Attr.{Attr}
use Rattle.ax_base.specs.declared.body.Body.{Body}
use Rattle.ax_base.specs.declared.body.Body.TheVariants.{Element, Words}
use Rattle.ax_base.specs.declared.role.Role.{Role}
use Rattle.ax_base.specs.declared.role.Role.TheVariants.{Alert, Button, Checkbox, Columnheader, Combobox, Gridcell, Heading, Log, Marquee, Menuitemcheckbox, Menuitemradio, Meter, OptionItem, Progressbar, Radio, Row, Rowheader, Scrollbar, Searchbox, Slider, Spinbutton, Status, Switch, Tab, Textbox, Timer, Treeitem}
use Rattle.ax_base.specs.declared.states.Checked.{Checked}
use Rattle.ax_base.specs.declared.states.Checked.TheVariants.{No, Yes, Mixed}
use Rattle.ax_base.specs.declared.states.Live.{Live}
use Rattle.ax_base.specs.declared.states.Live.TheVariants.{Off, Polite, Assertive}
use Rattle.ax_base.specs.declared.states.States.{States}
use Rattle.ax_base.specs.Characters.{Chars}
use Rattle.ax_base.specs.Attributes.{value_of}
use Rattle.ax_base.specs.Values.{text_in, is_there, is_filled, has_word, trimmed, are_digits, number}
use Rattle.ax_base.specs.Focusable.{is_field, is_control, focusable}
use Rattle.ax_base.specs.Document.{Spot}
use Rattle.ax_base.specs.Roles.{role}

-- whether the word of an attribute is true
abbrev pub says_true : Chars → List Attr → Bool
says_true name attrs = has_word name (codes "true") attrs

-- what an attribute says whose word is true or false
abbrev pub truth_in : Chars → List Attr → Option Bool
truth_in name attrs = if says_true name attrs then Some true else (if has_word name (codes "false") attrs then Some false else None)

-- an element is disabled by `aria-disabled`, or as a control with `disabled` (WAI-ARIA 1.2, section 6.6)
abbrev pub is_disabled : Chars → List Attr → Bool
is_disabled tag attrs = says_true (codes "aria-disabled") attrs || (is_control tag && is_there (codes "disabled") attrs)

-- an element has to be filled in by `aria-required`, or as a field with `required` (WAI-ARIA 1.2, section 6.6)
abbrev pub is_required : Chars → List Attr → Bool
is_required tag attrs = says_true (codes "aria-required") attrs || (is_field tag && is_there (codes "required") attrs)

-- an element can't be edited by `aria-readonly`, or as a field with `readonly` (WAI-ARIA 1.2, section 6.6)
abbrev pub is_readonly : Chars → List Attr → Bool
is_readonly tag attrs = says_true (codes "aria-readonly") attrs || (is_field tag && is_there (codes "readonly") attrs)

-- an element is invalid where `aria-invalid` is not blank and its word is not false (WAI-ARIA 1.2, section 6.6)
abbrev pub is_invalid : List Attr → Bool
is_invalid attrs = is_filled (codes "aria-invalid") attrs && not (has_word (codes "aria-invalid") (codes "false") attrs)

-- the roles that can be checked (WAI-ARIA 1.2, `aria-checked`; which of them is this project's profile)
abbrev pub is_checkable : Role → Bool
is_checkable Checkbox = true
is_checkable Menuitemcheckbox = true
is_checkable Menuitemradio = true
is_checkable Radio = true
is_checkable Switch = true
is_checkable _ = false

-- the roles that can be checked in part (WAI-ARIA 1.2, `aria-checked`)
abbrev pub may_be_mixed : Role → Bool
may_be_mixed Checkbox = true
may_be_mixed Menuitemcheckbox = true
may_be_mixed _ = false

-- an `input` that is checked by `checked` alone: a checkbox or radio button of HTML
abbrev pub is_check_input : Chars → List Attr → Bool
is_check_input tag attrs = bytes_eq tag (codes "input") && (has_word (codes "type") (codes "checkbox") attrs || has_word (codes "type") (codes "radio") attrs)

-- checked or not
abbrev pub yes_where : Bool → Checked
yes_where true = Yes
yes_where false = No

-- whether an element of a role is checked by `aria-checked`: mixed is no where the role can't be checked in part, and so is any other word
abbrev pub checked_by_word : Role → List Attr → Checked
checked_by_word r attrs =
    if says_true (codes "aria-checked") attrs then Yes else
    (if has_word (codes "aria-checked") (codes "mixed") attrs && may_be_mixed r then Mixed else No)

-- whether an element of a role that can be checked is
abbrev pub checked_value : Role → Chars → List Attr → Checked
checked_value r tag attrs = if is_check_input tag attrs then yes_where (is_there (codes "checked") attrs) else checked_by_word r attrs

-- whether an element of a role is checked, where the role can be
abbrev pub checked_of : Role → Chars → List Attr → Option Checked
checked_of r tag attrs = if is_checkable r then Some (checked_value r tag attrs) else None

-- the roles that can be selected (WAI-ARIA 1.2, `aria-selected`; which of them is this project's profile)
abbrev pub is_selectable : Role → Bool
is_selectable Columnheader = true
is_selectable Gridcell = true
is_selectable OptionItem = true
is_selectable Row = true
is_selectable Rowheader = true
is_selectable Tab = true
is_selectable Treeitem = true
is_selectable _ = false

-- whether an element of a role is selected, where the role can be and `aria-selected` says so
abbrev pub selected_of : Role → List Attr → Option Bool
selected_of r attrs = if is_selectable r then truth_in (codes "aria-selected") attrs else None

-- what `aria-pressed` says: true, false or mixed
abbrev pub pressed_by_word : List Attr → Option Checked
pressed_by_word attrs =
    if says_true (codes "aria-pressed") attrs then Some Yes else
    (if has_word (codes "aria-pressed") (codes "false") attrs then Some No else
    (if has_word (codes "aria-pressed") (codes "mixed") attrs then Some Mixed else None))

-- whether an element of a role is pressed: a button of which `aria-pressed` says so (WAI-ARIA 1.2, `aria-pressed`)
abbrev pub pressed_of : Role → List Attr → Option Checked
pressed_of Button attrs = pressed_by_word attrs
pressed_of _ attrs = None

-- the states of an element of a role (WAI-ARIA 1.2, section 6.6)
unfoldable pub states_of : Role → Chars → List Attr → States
states_of r tag attrs = record {
  focusable = focusable tag attrs;
  disabled = is_disabled tag attrs;
  checked = checked_of r tag attrs;
  expanded = truth_in (codes "aria-expanded") attrs;
  selected = selected_of r attrs;
  pressed = pressed_of r attrs;
  required = is_required tag attrs;
  readonly = is_readonly tag attrs;
  invalid = is_invalid attrs;
  busy = says_true (codes "aria-busy") attrs;
}

-- no state at all
abbrev pub no_states : States
no_states = record {
  focusable = false;
  disabled = false;
  checked = None;
  expanded = None;
  selected = None;
  pressed = None;
  required = false;
  readonly = false;
  invalid = false;
  busy = false;
}

-- a level, which is at least 1
abbrev pub at_least_one : ℕ → Option ℕ
at_least_one n = if n == 0 then None else Some n

-- the level that 1 to 3 digits say
abbrev pub level_number : Chars → Option ℕ
level_number t = if are_digits 3 t then at_least_one (number t) else None

-- the level that `aria-level` says, trimmed (WAI-ARIA 1.2, `aria-level`)
abbrev pub level_given : List Attr → Option ℕ
level_given attrs = level_number (trimmed (text_in (codes "aria-level") attrs))

-- the level of a heading by its tag (HTML, 'The h1, h2, h3, h4, h5, and h6 elements')
abbrev pub level_by_tag : Chars → Option ℕ
level_by_tag tag =
    if bytes_eq tag (codes "h1") then Some 1 else
    (if bytes_eq tag (codes "h2") then Some 2 else
    (if bytes_eq tag (codes "h3") then Some 3 else
    (if bytes_eq tag (codes "h4") then Some 4 else
    (if bytes_eq tag (codes "h5") then Some 5 else
    (if bytes_eq tag (codes "h6") then Some 6 else None)))))

-- the level of a heading: that of `aria-level`, else of its tag, else 2 (WAI-ARIA 1.2, section 5.4: the implicit value of `aria-level` for heading)
abbrev pub heading_level : Chars → List Attr → ℕ
heading_level tag attrs = unwrap_or (option_or (level_given attrs) (level_by_tag tag)) 2

-- the level of an element of a role: a heading has one, a row or treeitem has that of `aria-level`, others have none
unfoldable pub level_of : Role → Chars → List Attr → Option ℕ
level_of Heading tag attrs = Some (heading_level tag attrs)
level_of Row tag attrs = level_given attrs
level_of Treeitem tag attrs = level_given attrs
level_of _ tag attrs = None

-- the live that the word of `aria-live` says (WAI-ARIA 1.2, `aria-live`)
abbrev pub live_by_word : List Attr → Option Live
live_by_word attrs =
    if has_word (codes "aria-live") (codes "off") attrs then Some Off else
    (if has_word (codes "aria-live") (codes "polite") attrs then Some Polite else
    (if has_word (codes "aria-live") (codes "assertive") attrs then Some Assertive else None))

-- the live that a role sets by itself (WAI-ARIA 1.2, section 5.4: the implicit value of `aria-live` for alert, log and status; for marquee and timer this project's profile)
abbrev pub live_by_role : Role → Option Live
live_by_role Alert = Some Assertive
live_by_role Log = Some Polite
live_by_role Marquee = Some Off
live_by_role Status = Some Polite
live_by_role Timer = Some Off
live_by_role _ = None

-- the live that an element of a role sets: that of its word, else that of its role
unfoldable pub live_set_by : Role → List Attr → Option Live
live_set_by r attrs = option_or (live_by_word attrs) (live_by_role r)

-- the roles whose value is a text (this project's profile)
abbrev pub has_text_value : Role → Bool
has_text_value Combobox = true
has_text_value Searchbox = true
has_text_value Textbox = true
has_text_value _ = false

-- the roles whose value is in a range (WAI-ARIA 1.2, `aria-valuenow`; which of them is this project's profile)
abbrev pub has_range_value : Role → Bool
has_range_value Meter = true
has_range_value Progressbar = true
has_range_value Scrollbar = true
has_range_value Slider = true
has_range_value Spinbutton = true
has_range_value _ = false

-- the value in a range: `aria-valuetext`, else `aria-valuenow`, each where not blank, else the `value` of an `input`
abbrev pub range_value : Chars → List Attr → Option Chars
range_value tag attrs =
    if is_filled (codes "aria-valuetext") attrs then value_of (codes "aria-valuetext") attrs else
    (if is_filled (codes "aria-valuenow") attrs then value_of (codes "aria-valuenow") attrs else
    (if bytes_eq tag (codes "input") then value_of (codes "value") attrs else None))

-- the value of an element of a role
unfoldable pub value_shown : Role → Chars → List Attr → Option Chars
value_shown r tag attrs =
    if has_text_value r then value_of (codes "value") attrs else
    (if has_range_value r then range_value tag attrs else None)

-- the states of a node of a role; a text has none
abbrev pub states_by : Role → Body → States
states_by r (Words chars runs) = no_states
states_by r (Element tag attrs frame) = states_of r tag attrs

-- the level of a node of a role; a text has none
abbrev pub level_by : Role → Body → Option ℕ
level_by r (Words chars runs) = None
level_by r (Element tag attrs frame) = level_of r tag attrs

-- the live that a node of a role sets; a text sets none
abbrev pub live_by : Role → Body → Option Live
live_by r (Words chars runs) = None
live_by r (Element tag attrs frame) = live_set_by r attrs

-- the value of a node of a role; a text has none
abbrev pub value_by : Role → Body → Option Chars
value_by r (Words chars runs) = None
value_by r (Element tag attrs frame) = value_shown r tag attrs

-- the states of a node
abbrev pub states : Spot → States
states n = states_by (role n) n.body

-- the level of a node
abbrev pub level : Spot → Option ℕ
level n = level_by (role n) n.body

-- the live that a node sets
abbrev pub sets_live : Spot → Option Live
sets_live n = live_by (role n) n.body

-- the value of a node
abbrev pub value : Spot → Option Chars
value n = value_by (role n) n.body
