-- The record of an object, from its node and what is known of it.
use Rattle.std.specs.Prelude.{ℕ, Bool, ◌&&◌, nat_eq, List, Option}
use Rattle.ax_base.specs.declared.role.Role.{Role}
use Rattle.ax_base.specs.declared.states.Live.{Live}
use Rattle.ax_base.specs.Characters.{Chars}
use Rattle.ax_base.specs.States.{states_by, level_by, value_by}
use Rattle.ax_dom.specs.declared.cell.Cell.{Cell}
use Rattle.ax_record.specs.declared.prop.Prop.TheVariants.{Role as InRole, Name as InName, Description as InDescription, Value as InValue, States as InStates, Level as InLevel, Live as InLive, Frame as InFrame, Text as InText, Runs as InRuns, Parent as InParent, Kids as InKids}
use Rattle.ax_record.specs.declared.record.Record.{Record}
use Rattle.ax_record.specs.Differences.{same_prop}
use Rattle.ax_record.specs.Records.{frame_of, chars_of, runs_of}

-- the record of an object of a role and a live, what it hangs on and what hangs on it, with its name and its description
abbrev pub record_by : Cell → Role → Live → Option ℕ → List ℕ → Chars → Chars → Record
record_by cell role live parent kids name description = record {
  id = cell.id;
  role = role;
  name = name;
  description = description;
  value = value_by role cell.body;
  states = states_by role cell.body;
  level = level_by role cell.body;
  live = live;
  frame = frame_of cell.body;
  text = chars_of cell.body;
  runs = runs_of cell.body;
  parent = parent;
  kids = kids;
}

-- whether two objects are of the same role and live, and have the same states, level and frame
abbrev pub same_kind : Record → Record → Bool
same_kind a b = (((same_prop InRole a b && same_prop InLive a b) && same_prop InStates a b) && same_prop InLevel a b) && same_prop InFrame a b

-- whether two objects have the same value, the same characters and the same runs
abbrev pub same_content : Record → Record → Bool
same_content a b = (same_prop InValue a b && same_prop InText a b) && same_prop InRuns a b

-- whether two objects have the same name and the same description
abbrev pub same_words : Record → Record → Bool
same_words a b = same_prop InName a b && same_prop InDescription a b

-- whether two objects have the same id, hang on the same one, and have the same ones hanging on them
abbrev pub same_place : Record → Record → Bool
same_place a b = (nat_eq a.id b.id && same_prop InParent a b) && same_prop InKids a b

-- whether two records are the same
abbrev pub same_record : Record → Record → Bool
same_record a b = ((same_kind a b && same_content a b) && same_words a b) && same_place a b
