-- Small batches, merged.
use Rattle.std.specs.Prelude.{◌≡◌, ℕ, pos, codes, refl, List, [], ◌∷◌, false, Some, None}
use Rattle.ax_base.specs.declared.rect.Rect.{Rect}
use Rattle.ax_base.specs.declared.role.Role.TheVariants.{Button, Link}
use Rattle.ax_base.specs.declared.states.States.{States}
use Rattle.ax_base.specs.declared.states.Live.TheVariants.{Off}
use Rattle.ax_base.specs.Characters.{Chars}
use Rattle.ax_record.specs.declared.prop.PropValue.{PropValue}
use Rattle.ax_record.specs.declared.prop.PropValue.TheVariants.{Role, Name, Description, Value, States as AreStates, Level, Live, Frame, Text, Runs, Parent, Kids}
use Rattle.ax_record.specs.declared.record.Record.{Record}
use Rattle.ax_batch.specs.declared.batch.Batch.{Batch}
use Rattle.ax_batch.specs.Fates.{value_in, joint_props, all_props, made_by, joint_fates, merged, no_change}

at_origin : Rect
at_origin = record { x = pos 0; y = pos 0; w = pos 0; h = pos 0 }

no_states : States
no_states = record { focusable = false; disabled = false; checked = None; expanded = None; selected = None; pressed = None; required = false; readonly = false; invalid = false; busy = false }

-- a button in the root
abbrev button : ℕ → Chars → Record
button n name = record { id = n; role = Button; name = name; description = []; value = None; states = no_states; level = None; live = Off; frame = at_origin; text = None; runs = []; parent = Some 1; kids = [] }

abbrev adds : Record → Batch
adds r = record no_change { added = r ∷ [] }

abbrev changes : ℕ → List PropValue → Batch
changes n ps = record no_change { changed = record { id = n; props = ps } ∷ [] }

abbrev removes : ℕ → Batch
removes n = record no_change { removed = n ∷ [] }

-- added and then changed: added as it is then
added_changed : merged (adds (button 5 (codes "Save"))) (changes 5 (Name (codes "Open") ∷ [])) ≡ adds (button 5 (codes "Open"))
unfolding value_in joint_props all_props made_by joint_fates merged
added_changed = refl

-- added and then removed: nothing
added_removed : merged (adds (button 5 (codes "Save"))) (removes 5) ≡ no_change
unfolding value_in joint_props all_props made_by joint_fates merged
added_removed = refl

-- changed twice: what either changes, in the order of the properties, and of the name the later value
changed_twice : merged (changes 5 (Name (codes "Save") ∷ Kids [] ∷ [])) (changes 5 (Role Link ∷ Name (codes "Open") ∷ [])) ≡ changes 5 (Role Link ∷ Name (codes "Open") ∷ Kids [] ∷ [])
unfolding value_in joint_props all_props made_by joint_fates merged
changed_twice = refl

-- changed and then removed: removed
changed_removed : merged (changes 5 (Name (codes "Save") ∷ [])) (removes 5) ≡ removes 5
unfolding value_in joint_props all_props made_by joint_fates merged
changed_removed = refl

-- removed and then added: changed, with all twelve properties
removed_added : merged (removes 5) (adds (button 5 (codes "Save")))
    ≡ changes 5 (Role Button ∷ Name (codes "Save") ∷ Description [] ∷ Value None ∷ AreStates no_states ∷ Level None ∷ Live Off ∷ Frame at_origin ∷ Text None ∷ Runs [] ∷ Parent (Some 1) ∷ Kids [] ∷ [])
unfolding value_in joint_props all_props made_by joint_fates merged
removed_added = refl

-- objects that only one of the two names, by rising id
others_stay : merged (record no_change { added = button 7 [] ∷ []; removed = 4 ∷ [] }) (record no_change { added = button 6 [] ∷ []; changed = record { id = 3; props = Kids [] ∷ [] } ∷ []; removed = 2 ∷ [] })
    ≡ record { added = button 6 [] ∷ button 7 [] ∷ []; changed = record { id = 3; props = Kids [] ∷ [] } ∷ []; removed = 2 ∷ 4 ∷ []; focus = None }
unfolding value_in joint_props all_props made_by joint_fates merged
others_stay = refl

-- the later focus, where there is one
later_focus : merged (record no_change { focus = Some (Some 5) }) (record no_change { focus = Some None }) ≡ record no_change { focus = Some None }
unfolding value_in joint_props all_props made_by joint_fates merged
later_focus = refl

earlier_focus : merged (record no_change { focus = Some (Some 5) }) no_change ≡ record no_change { focus = Some (Some 5) }
unfolding value_in joint_props all_props made_by joint_fates merged
earlier_focus = refl
