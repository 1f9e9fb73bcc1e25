-- The document, and its nodes in order (DOM, section 4.2).
use Rattle.std.specs.Prelude.{ℕ, zero, suc, Bool, true, false, List, [], ◌∷◌, map, Option, None, is_some, find, flat_map, length, Contains, unwrap_or, bytes_eq, nat_eq, codes}
use Rattle.std.specs.List.{list_any}
use Rattle.std.specs.Option.{option_map_or}
use Rattle.std.specs.Ordering.{nat_cmp}
use Rattle.std.specs.Map.{lookup}
use Rattle.std.specs.BTreeMap.{is_at}
use Rattle.ax_base.specs.declared.body.Body.{Body}
use Rattle.ax_base.specs.declared.body.Body.TheVariants.{Element, Words}
use Rattle.ax_base.specs.Characters.{Chars}
use Rattle.ax_base.specs.Attributes.{value_of}
use Rattle.ax_base.specs.Recursion.{from_below}
use Rattle.ax_base.specs.declared.limits.TheConstants.{MAX_DEPTH}

-- a node: what it is, and its children in order
pub record Node : Type 0 where
  pub body : Body
  pub children : List ℕ

-- the nodes by their rising ids, the focused node, and the ids ever inserted, rising
pub record Document : Type 0 where
  pub nodes : List (ℕ × Node)
  pub focus : Option ℕ
  pub used : List ℕ

-- the root
abbrev pub root : ℕ
root = 1

-- the node of an id
abbrev pub node : Document → ℕ → Option Node
node d n = lookup (is_at (nat_cmp n)) d.nodes

-- the ids of the nodes, rising
abbrev pub ids : Document → List ℕ
ids d = map (λ e. e.0) d.nodes

-- whether the document has a node of that id
abbrev pub has : Document → ℕ → Bool
has d n = is_some (node d n)

-- a node and its id: all that a rule may see which looks at a node alone; of an id that the document lacks, an empty text
pub record Spot : Type 0 where
  pub id : ℕ
  pub body : Body

-- what a node is; of an id that the document lacks, an empty text
abbrev pub body : Document → ℕ → Body
body d n = option_map_or (λ e. e.body) (node d n) (Words [] [])

-- a node as a rule sees it that looks at the node alone
abbrev pub spot : Document → ℕ → Spot
spot d n = record { id = n; body = body d n }

-- the children of a node, in order; none of an unknown id
abbrev pub children : Document → ℕ → List ℕ
children d n = option_map_or (λ e. e.children) (node d n) []

-- c is a child of n
abbrev pub IsChild : Document → ℕ → ℕ → Type 0
IsChild d n c = Contains (children d n) c

-- what is made of each node out of itself and of its children, with what is made of those
abbrev pub from_children : {A : Type 0} → (Spot → List (Spot × A) → A) → Document → ℕ → A
from_children make d n = from_below make (spot d) (children d) MAX_DEPTH n

-- a node, and then what is below each of its children
abbrev pub preorder : Spot → List (Spot × List ℕ) → List ℕ
preorder n below = n.id ∷ flat_map (λ c. c.1) below

-- all nodes, in tree order (DOM, section 1.1)
abbrev pub order : Document → List ℕ
order d = from_children preorder d root

-- the value of an element's attribute
abbrev pub attr : Chars → Body → Option Chars
attr name (Element tag attrs frame) = value_of name attrs
attr name (Words chars runs) = None

-- the value of an attribute that is there, and else the empty text
abbrev pub text_of : Chars → Body → Chars
text_of name b = unwrap_or (attr name b) []

-- whether it is a text
abbrev pub is_text : Body → Bool
is_text (Words chars runs) = true
is_text (Element tag attrs frame) = false

-- whether the `id` is exactly x
abbrev pub has_id : Chars → Body → Bool
has_id x b = option_map_or (bytes_eq x) (attr (codes "id") b) false

-- the first element in tree order whose `id` is exactly x, for x that is not empty (DOM, section 4.2.4)
abbrev pub target : Document → Chars → Option ℕ
target d [] = None
target d (c ∷ cs) = find (λ n. has_id (c ∷ cs) (body d n)) (order d)

-- the parent of a node
abbrev pub parent : Document → ℕ → Option ℕ
parent d n = find (λ p. list_any (nat_eq n) (children d p)) (ids d)

-- a node and its ancestors, the nearest first, up to `levels` of them
unfoldable pub lineage_within : ℕ → Document → ℕ → List ℕ
lineage_within zero d n = n ∷ []
lineage_within (suc levels) d n = n ∷ option_map_or (lineage_within levels d) (parent d n) []

-- a node and its ancestors, the nearest first
abbrev pub lineage : Document → ℕ → List ℕ
lineage d n = lineage_within MAX_DEPTH d n

-- the ancestors of a node, the nearest first
abbrev pub ancestors : Document → ℕ → List ℕ
ancestors d n = option_map_or (lineage d) (parent d n) []

-- how many ancestors a node has
abbrev pub depth : Document → ℕ → ℕ
depth d n = length (ancestors d n)
