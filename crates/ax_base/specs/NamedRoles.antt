-- Which roles take their name from content, and which may not be named.
use Rattle.std.specs.Prelude.{Bool, true, false}
use Rattle.ax_base.specs.declared.role.Role.{Role}
use Rattle.ax_base.specs.declared.role.Role.TheVariants.{Button, Caption, Cell, Checkbox, Code, Columnheader, Emphasis, Generic, Gridcell, Heading, Link, Menuitem, NoRole, OptionItem, Paragraph, Radio, Row, Rowheader, Strong, Switch, Tab, Tooltip, Treeitem}

-- the roles that are named from content (WAI-ARIA 1.2, 'Roles Supporting Name from Content'; which of them is this project's profile)
abbrev pub names_from_content : Role → Bool
names_from_content Button = true
names_from_content Cell = true
names_from_content Checkbox = true
names_from_content Columnheader = true
names_from_content Gridcell = true
names_from_content Heading = true
names_from_content Link = true
names_from_content Menuitem = true
names_from_content OptionItem = true
names_from_content Radio = true
names_from_content Row = true
names_from_content Rowheader = true
names_from_content Switch = true
names_from_content Tab = true
names_from_content Tooltip = true
names_from_content Treeitem = true
names_from_content _ = false

-- the roles that may not be named (WAI-ARIA 1.2, 'Roles which cannot be named'; which of them is this project's profile)
abbrev pub name_prohibited : Role → Bool
name_prohibited Caption = true
name_prohibited Code = true
name_prohibited Emphasis = true
name_prohibited Generic = true
name_prohibited NoRole = true
name_prohibited Paragraph = true
name_prohibited Strong = true
name_prohibited _ = false
