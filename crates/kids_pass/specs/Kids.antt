-- The objects that hang on nodes, as they are kept.
use Rattle.std.specs.Prelude.{◌≡◌, ◌≤◌, ℕ, Bool, true, false, if◌then◌else◌, List, [], ◌∷◌, length, take, drop, Option, Some, None, is_some, Contains}
use Rattle.std.specs.Ordering.{nat_cmp}
use Rattle.std.specs.Map.{lookup}
use Rattle.std.specs.BTreeMap.{is_at}
use Rattle.ax_base.specs.Document.{Document, has}
use Rattle.ax_base.specs.Kids.{kids}
use Rattle.ax_roles.specs.declared.inclusion.Inclusion.{Inclusion}
use Rattle.ax_roles.specs.declared.inclusion.Inclusion.TheVariants.{Included, Ignored, Excluded}
use Rattle.ax_roles.specs.Inclusion.{inclusion, is_object_by}
use Rattle.ctx_pass.specs.Marks.{is_marked}
use Rattle.kids_pass.specs.declared.children.NodeKids.{NodeKids}
use Rattle.kids_pass.specs.Stamps.{Stamps, IsCurrent}

-- how a node takes part in the tree, and its kids
abbrev pub kept_kids : Document → ℕ → NodeKids
kept_kids d n = record { inclusion = inclusion d n; kids = kids d n }

-- what is kept of a node
abbrev pub kids_at : List (ℕ × NodeKids) → ℕ → Option NodeKids
kids_at kept n = lookup (is_at (nat_cmp n)) kept

-- of a node is kept how it takes part, and its kids
abbrev pub IsKidsKept : Document → List (ℕ × NodeKids) → ℕ → Type 0
IsKidsKept d kept n = kids_at kept n ≡ Some (kept_kids d n)

-- the same of each node
abbrev pub AreKidsOf : Document → List (ℕ × NodeKids) → Type 0
AreKidsOf d kept = (n : ℕ) → has d n ≡ true → IsKidsKept d kept n

-- what a node with these kids gives to the kids of its parent: itself, or its kids where it is ignored, or nothing where it is excluded
abbrev pub given_by : Inclusion → List ℕ → ℕ → List ℕ
given_by Included kids n = n ∷ []
given_by Ignored kids n = kids
given_by Excluded kids n = []

-- the same by what is kept of it; a node of which nothing is kept gives itself
abbrev pub given : Option NodeKids → ℕ → List ℕ
given None n = n ∷ []
given (Some k) n = given_by k.inclusion k.kids n

-- the same by what is kept
abbrev pub given_at : List (ℕ × NodeKids) → ℕ → List ℕ
given_at kept n = given (kids_at kept n) n

-- the kids that are kept of a node
abbrev pub listed_of : Option NodeKids → List ℕ
listed_of None = []
listed_of (Some k) = k.kids

-- the same by what is kept
abbrev pub listed : List (ℕ × NodeKids) → ℕ → List ℕ
listed kept n = listed_of (kids_at kept n)

-- whether a node is an object by what is kept of it, or `unknown` where nothing is
abbrev pub is_object_or : Bool → Option NodeKids → Bool
is_object_or unknown None = unknown
is_object_or unknown (Some k) = is_object_by k.inclusion

-- of each of these is kept that it is an object
abbrev pub AreObjects : List (ℕ × NodeKids) → List ℕ → Type 0
AreObjects kept ids = (n : ℕ) → Contains ids n → is_object_or false (kids_at kept n) ≡ true

-- of each of these something is kept
abbrev pub AreKept : List (ℕ × NodeKids) → List ℕ → Type 0
AreKept kept ids = (n : ℕ) → Contains ids n → is_some (kids_at kept n) ≡ true

-- A node without a mark is an object, if anything is kept of it, and the kids that are kept of a node with the current stamp are objects.
pub record AreMarksRight (marks : List ℕ) (stamps : Stamps) (kept : List (ℕ × NodeKids)) : Type 0 where
  pub others : (n : ℕ) → is_marked marks n ≡ false → is_object_or true (kids_at kept n) ≡ true
  pub objects : (n : ℕ) → IsCurrent stamps n → AreObjects kept (listed kept n)

-- the children of a node before one place and those from another place on are objects by what is kept of them
pub record AreObjectsBut (start end : ℕ) (kept : List (ℕ × NodeKids)) (children : List ℕ) : Type 0 where
  pub order : start ≤ end
  pub within : end ≤ length children
  pub before : AreObjects kept (take start children)
  pub after : AreObjects kept (drop end children)

-- this is kept of a node now, and of the others what was kept
abbrev pub IsKeptIn : List (ℕ × NodeKids) → List (ℕ × NodeKids) → ℕ → NodeKids → Type 0
IsKeptIn old new id value = (n : ℕ) → kids_at new n ≡ (if is_at (nat_cmp n) id then Some value else kids_at old n)

-- this is kept, with so many kids
abbrev pub IsListOf : Option NodeKids → Inclusion → ℕ → Type 0
IsListOf o part count = (o ≡ Some (record { inclusion = part; kids = listed_of o })) × (length (listed_of o) ≡ count)
