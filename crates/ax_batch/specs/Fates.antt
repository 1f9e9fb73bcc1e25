-- What a batch does with each object, and what two batches do that come one after the other.
use Rattle.std.specs.Prelude.{◌≡◌, ℕ, Bool, true, false, List, [], ◌∷◌, ◌++◌, map, flat_map, Option, Some, None, option_map, option_to_list, if◌then◌else◌}
use Rattle.std.specs.Option.{option_or}
use Rattle.std.specs.Ordering.{nat_cmp}
use Rattle.std.specs.Map.{lookup, keys_of, remove_entry}
use Rattle.std.specs.BTreeMap.{is_at, insert_entry}
use Rattle.ax_record.specs.contracts.prop.PropPartialEq.TheImpl as props
use Rattle.ax_record.specs.declared.prop.Prop.{Prop}
use Rattle.ax_record.specs.declared.prop.Prop.TheVariants.{Role, Name, Description, Value, States, Level, Live, Frame, Text, Runs, Parent, Kids}
use Rattle.ax_record.specs.declared.prop.PropValue.{PropValue}
use Rattle.ax_record.specs.declared.prop.PropValue.TheVariants.{Role as IsRole, Name as IsName, Description as IsDescription, Value as IsValue, States as AreStates, Level as IsLevel, Live as IsLive, Frame as IsFrame, Text as IsText, Runs as AreRuns, Parent as IsParent, Kids as AreKids}
use Rattle.ax_record.specs.declared.record.Record.{Record}
use Rattle.ax_record.specs.Tree.{Tree, record_at}
use Rattle.ax_record.specs.Differences.{every_prop, prop_of, with_props}
use Rattle.ax_batch.specs.declared.batch.Batch.{Batch}
use Rattle.ax_batch.specs.declared.batch.Change.{Change}
use Rattle.ax_batch.specs.declared.fate.Fate.{Fate}
use Rattle.ax_batch.specs.declared.fate.Fate.TheVariants.{Added, Changed, Removed}

-- of which property a value is
abbrev pub prop_in : PropValue → Prop
prop_in (IsRole x) = Role
prop_in (IsName x) = Name
prop_in (IsDescription x) = Description
prop_in (IsValue x) = Value
prop_in (AreStates x) = States
prop_in (IsLevel x) = Level
prop_in (IsLive x) = Live
prop_in (IsFrame x) = Frame
prop_in (IsText x) = Text
prop_in (AreRuns x) = Runs
prop_in (IsParent x) = Parent
prop_in (AreKids x) = Kids

-- the value of a property among some, the last where it has several
unfoldable pub value_in : Prop → List PropValue → Option PropValue
value_in p [] = None
value_in p (v ∷ vs) = option_or (value_in p vs) (if props.ghosts.eq (prop_in v) p then Some v else None)

-- the properties of either list, in their order, with the second's value where it has one
unfoldable pub joint_props : List PropValue → List PropValue → List PropValue
joint_props ps qs = flat_map (λ p. option_to_list (option_or (value_in p qs) (value_in p ps))) every_prop

-- all properties of a record, in their order
unfoldable pub all_props : Record → List PropValue
all_props r = map (λ p. prop_of p r) every_prop

-- What becomes of an object with which one batch does the first and the next one the second. The last four rows are for a second
-- batch that does not follow the first: it adds an object that is there, or changes or removes one that is not.
abbrev pub joint_fate : Option Fate → Option Fate → Option Fate
joint_fate None None = None
joint_fate None (Some f) = Some f
joint_fate (Some f) None = Some f
joint_fate (Some (Added r)) (Some (Changed ps)) = Some (Added (with_props r ps))
joint_fate (Some (Added r)) (Some Removed) = None
joint_fate (Some (Changed ps)) (Some (Changed qs)) = Some (Changed (joint_props ps qs))
joint_fate (Some (Changed ps)) (Some Removed) = Some Removed
joint_fate (Some Removed) (Some (Added r)) = Some (Changed (all_props r))
joint_fate (Some (Added r)) (Some (Added s)) = Some (Added s)
joint_fate (Some (Changed ps)) (Some (Added s)) = Some (Added s)
joint_fate (Some Removed) (Some (Changed qs)) = Some Removed
joint_fate (Some Removed) (Some Removed) = Some Removed

-- what is there of an object after its fate
abbrev pub after_fate : Option Fate → Option Record → Option Record
after_fate None o = o
after_fate (Some (Added r)) o = Some r
after_fate (Some (Changed ps)) o = option_map (λ r. with_props r ps) o
after_fate (Some Removed) o = None

-- whether a fate fits what is there: only what is not there is added, and only what is there is changed or removed
abbrev pub fits_fate : Option Record → Option Fate → Bool
fits_fate o None = true
fits_fate None (Some (Added r)) = true
fits_fate None (Some (Changed ps)) = false
fits_fate None (Some Removed) = false
fits_fate (Some x) (Some (Added r)) = false
fits_fate (Some x) (Some (Changed ps)) = true
fits_fate (Some x) (Some Removed) = true

-- fates of objects, by rising id
abbrev pub Fates : Type 0
Fates = List (ℕ × Fate)

-- the fate of an object
abbrev pub fate_at : Fates → ℕ → Option Fate
fate_at es n = lookup (is_at (nat_cmp n)) es

-- entries by rising key, with some more put in
abbrev pub put_all : {X : Type 0} → List (ℕ × X) → List (ℕ × X) → List (ℕ × X)
put_all es [] = es
put_all es (x ∷ xs) = put_all (insert_entry nat_cmp es x.0 x.1) xs

-- what each list of a batch says
abbrev pub removals : List ℕ → List (ℕ × Fate)
removals ns = map (λ n. (n, Removed)) ns

abbrev pub changes : List Change → List (ℕ × Fate)
changes cs = map (λ c. (c.id, Changed c.props)) cs

abbrev pub additions : List Record → List (ℕ × Fate)
additions rs = map (λ r. (r.id, Added r)) rs

-- what a batch says
abbrev pub listed : Batch → List (ℕ × Fate)
listed b = removals b.removed ++ (changes b.changed ++ additions b.added)

-- the fates in a batch
abbrev pub fates : Batch → Fates
fates b = put_all [] (listed b)

abbrev pub added_by : ℕ → Fate → List Record
added_by n (Added r) = r ∷ []
added_by n (Changed ps) = []
added_by n Removed = []

abbrev pub changed_by : ℕ → Fate → List Change
changed_by n (Added r) = []
changed_by n (Changed ps) = record { id = n; props = ps } ∷ []
changed_by n Removed = []

abbrev pub removed_by : ℕ → Fate → List ℕ
removed_by n (Added r) = []
removed_by n (Changed ps) = []
removed_by n Removed = n ∷ []

-- what is made of each fate, in order
unfoldable pub made_by : {Y : Type 0} → (ℕ → Fate → List Y) → Fates → List Y
made_by make es = flat_map (λ (e : ℕ × Fate). make e.0 e.1) es

-- what is made of a fate, where there is one
abbrev pub made_of : {Y : Type 0} → (ℕ → Fate → List Y) → ℕ → Option Fate → List Y
made_of make n None = []
made_of make n (Some f) = make n f

-- the batch with these fates
abbrev pub batch_of : Fates → Option (Option ℕ) → Batch
batch_of es focus = record {
  added = made_by added_by es;
  changed = made_by changed_by es;
  removed = made_by removed_by es;
  focus = focus;
}

-- an entry, where there is a value
abbrev pub entry_of : {X : Type 0} → ℕ → Option X → List (ℕ × X)
entry_of n None = []
entry_of n (Some x) = (n, x) ∷ []

-- the fates of all objects that one of the two names
unfoldable pub joint_fates : Fates → Fates → Fates
joint_fates es fs = flat_map (λ n. entry_of n (joint_fate (fate_at es n) (fate_at fs n))) (keys_of (put_all es fs))

-- the batch that does what two do, one after the other
unfoldable pub merged : Batch → Batch → Batch
merged b c = batch_of (joint_fates (fates b) (fates c)) (option_or c.focus b.focus)

-- the lists of a batch are by rising id, and no id stands twice in them: it is the batch that its fates make
abbrev pub IsInOrder : Batch → Type 0
IsInOrder b = batch_of (fates b) b.focus ≡ b

-- each fate in a batch fits what is in a tree
abbrev pub FitsEach : Tree → Batch → Type 0
FitsEach t b = (n : ℕ) → fits_fate (record_at t n) (fate_at (fates b) n) ≡ true

-- the batch that does nothing
abbrev pub no_change : Batch
no_change = record { added = []; changed = []; removed = []; focus = None }

-- no id of an added record is another than that of its entry
abbrev pub IsOwn : ℕ → Fate → Type 0
IsOwn n (Added r) = r.id ≡ n
IsOwn n (Changed ps) = Unit {0}
IsOwn n Removed = Unit {0}

abbrev pub AreOwn : Fates → Type 0
AreOwn [] = Unit {0}
AreOwn (e ∷ es) = IsOwn e.0 e.1 × AreOwn es

-- entries with another value at a key, or with none
abbrev pub set_fate : Fates → ℕ → Option Fate → Fates
set_fate es n None = remove_entry (is_at (nat_cmp n)) es
set_fate es n (Some f) = insert_entry nat_cmp es n f

-- the same for some keys, in order
abbrev pub set_fates : Fates → List (ℕ × Option Fate) → Fates
set_fates es [] = es
set_fates es (u ∷ us) = set_fates (set_fate es u.0 u.1) us

-- what becomes of each object that some fates are of, where it had these before
abbrev pub joint_update : Fates → ℕ × Fate → ℕ × Option Fate
joint_update es x = (x.0, joint_fate (fate_at es x.0) (Some x.1))
