-- Text markers.
use Rattle.std.specs.Prelude.{◌^◌, ◌-◌, Option, Some, None}
use Rattle.serde_json.specs.Data.{Data, Items, no_items, item}
use Rattle.serde_json.specs.Find.{get, as_array}
use Rattle.ax_base.specs.Characters.{Chars}
use Rattle.ax_ask.specs.declared.requests.Marker.{Marker}
use Rattle.story_lines.specs.Values.{◌>>=◌, integer, max_id}

-- a marker by its text and its place in it
abbrev pub marker_by : Data → Data → Option Marker
marker_by id offset = do
  text ← integer 1 max_id id
  place ← integer 0 (2 ^ 32 - 1) offset
  Some (record { id = text; offset = place })

-- `[id, offset]`
abbrev pub marker : Items → Option Marker
marker (item id (item offset no_items)) = marker_by id offset
marker _ = None

-- the marker at a key
abbrev pub marker_at : Chars → Data → Option Marker
marker_at key d = get key d >>= as_array >>= marker
