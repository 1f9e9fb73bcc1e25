-- The kinds of objects that a search looks for (this project's own; the roles are those of WAI-ARIA 1.2, section 5.4).
use Rattle.std.specs.Prelude.{Bool, true, not, ◌||◌, List, [], ◌∷◌}
use Rattle.std.specs.List.{list_any}
use Rattle.ax_base.specs.declared.role.Role.{Role}
use Rattle.ax_base.specs.declared.role.Role.TheVariants.{Banner, Button, Checkbox, Combobox, Complementary, Contentinfo, Form, Grid, Heading, Img, Link, List as ListRole, Main, Navigation, Radio, Region, Search, Searchbox, Slider, Spinbutton, Switch, Table, Text, Textbox, Treegrid}
use Rattle.ax_base.specs.declared.states.Live.TheVariants.{Off}
use Rattle.ax_base.specs.contracts.role.RolePartialEq.TheImpl as roles
use Rattle.ax_base.specs.contracts.states.LivePartialEq.TheImpl as lives
use Rattle.ax_ask.specs.declared.requests.SearchKey.{SearchKey}
use Rattle.ax_ask.specs.declared.requests.SearchKey.TheVariants.{Any, Text as AText, Heading as AHeading, Link as ALink, Button as AButton, Checkbox as ACheckbox, Radio as ARadio, List as AList, Field, Control, Landmark, Table as ATable, Image, Live, Focusable}
use Rattle.ax_record.specs.declared.record.Record.{Record}

-- whether a role is one of some
abbrev pub is_one_of : Role → List Role → Bool
is_one_of role some = list_any (roles.ghosts.eq role) some

-- fields to fill in
abbrev pub fields : List Role
fields = Textbox ∷ Searchbox ∷ Combobox ∷ Spinbutton ∷ Slider ∷ []

-- controls that are no fields
abbrev pub switches : List Role
switches = Button ∷ Checkbox ∷ Radio ∷ Switch ∷ []

-- landmarks (WAI-ARIA 1.2, section 5.3.4)
abbrev pub landmarks : List Role
landmarks = Banner ∷ Complementary ∷ Contentinfo ∷ Form ∷ Main ∷ Navigation ∷ Region ∷ Search ∷ []

abbrev pub tables : List Role
tables = Table ∷ Grid ∷ Treegrid ∷ []

-- whether an object is of a kind
abbrev pub has_key : SearchKey → Record → Bool
has_key Any r = true
has_key AText r = roles.ghosts.eq r.role Text
has_key AHeading r = roles.ghosts.eq r.role Heading
has_key ALink r = roles.ghosts.eq r.role Link
has_key AButton r = roles.ghosts.eq r.role Button
has_key ACheckbox r = roles.ghosts.eq r.role Checkbox
has_key ARadio r = roles.ghosts.eq r.role Radio
has_key AList r = roles.ghosts.eq r.role ListRole
has_key Field r = is_one_of r.role fields
has_key Control r = is_one_of r.role fields || is_one_of r.role switches
has_key Landmark r = is_one_of r.role landmarks
has_key ATable r = is_one_of r.role tables
has_key Image r = roles.ghosts.eq r.role Img
has_key Live r = not (lives.ghosts.eq r.live Off)
has_key Focusable r = r.states.focusable

-- whether an object is of one of some kinds
abbrev pub has_any_key : List SearchKey → Record → Bool
has_any_key keys r = list_any (λ key. has_key key r) keys
