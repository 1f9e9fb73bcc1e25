-- What references from node to node say (AccName 1.2, section 4.3.2, 'LabelledBy').
use Rattle.std.specs.Prelude.{ℕ, if◌then◌else◌, List, [], take, map, codes}
use Rattle.std.specs.Option.{option_map_or}
use Rattle.ax_base.specs.Characters.{Chars, tokens, flat, joined_by_spaces}
use Rattle.ax_base.specs.Recursion.{from_below}
use Rattle.ax_base.specs.Document.{Document, Spot, spot, children, target, text_of}
use Rattle.ax_base.specs.Roles.{hides}
use Rattle.ax_base.specs.Context.{is_hidden}
use Rattle.ax_base.specs.Said.{said0, said_all, said_as, joined_children}
use Rattle.ax_base.specs.declared.limits.TheConstants.{MAX_DEPTH, MAX_REFERENCES}

-- what a node says that is referred to, made flat: where it is hidden, by itself or by an ancestor, all that it says. No reference is followed from there on
abbrev pub referred_node : Document → ℕ → Chars
referred_node d n = flat (if is_hidden d n then said_all d n else said0 d n)

-- what a token refers to, the first element with that id, says; nothing where there is none
abbrev pub referred_text : Document → Chars → Chars
referred_text d token = option_map_or (referred_node d) (target d token) []

-- what the first tokens, eight at most, of an attribute refer to, joined by single spaces; repeats count (the limit is this project's own)
abbrev pub refs : Document → Chars → Spot → Chars
refs d name n = joined_by_spaces (map (referred_text d) (take MAX_REFERENCES (tokens (text_of name n.body))))

-- a node, and what its `aria-labelledby` refers to
pub record Referring : Type 0 where
  pub spot : Spot
  pub text : Chars

-- a node with what its `aria-labelledby` refers to
abbrev pub referring : Document → ℕ → Referring
referring d n = record { spot = spot d n; text = refs d (codes "aria-labelledby") (spot d n) }

-- what a node says whose own references count, from what its children say so: nothing where it hides
abbrev pub said1_from : Referring → List (Referring × Chars) → Chars
said1_from n below = if hides n.spot then [] else said_as n.text n.spot (joined_children hides (map (λ (c : Referring × Chars). (c.0.spot, c.1)) below))

-- what a node says as a part of a name from content: its own references count, and those of what is below it (AccName 1.2, section 4.3.2, 'Name From Content')
abbrev pub said1 : Document → ℕ → Chars
said1 d n = from_below said1_from (referring d) (children d) MAX_DEPTH n
