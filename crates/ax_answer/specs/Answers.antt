-- What a tree answers to a request (Core Accessibility API Mappings 1.2, section 5: mapping WAI-ARIA to accessibility APIs).
use Rattle.std.specs.Prelude.{ℕ, Bool, true, false, if◌then◌else◌, List, [], ◌∷◌, length, take, drop, Option, Some, None, Result, Ok, Err}
use Rattle.std.specs.Option.{option_map_or}
use Rattle.ax_base.specs.Document.{root}
use Rattle.ax_base.specs.declared.rect.Rect.{Rect}
use Rattle.ax_ask.specs.declared.requests.Marker.{Marker}
use Rattle.ax_ask.specs.declared.requests.Request.{Request}
use Rattle.ax_ask.specs.declared.requests.Request.TheVariants.{Root, Focus, Role, Name, Description, Value, States, Level, Live, Frame, Parent, Children, Compare, NextChar, PrevChar, NextWord, LineAt, TextOf, BoundsOf, Search, Hit}
use Rattle.ax_ask.specs.declared.requests.SearchRequest.{SearchRequest}
use Rattle.ax_ask.specs.declared.replies.Reply.{Reply}
use Rattle.ax_ask.specs.declared.replies.Reply.TheVariants.{Stale, Nothing, Root as TheRoot, Focus as TheFocus, Role as TheRole, Name as TheName, Description as TheDescription, Value as TheValue, States as TheStates, Level as TheLevel, Live as TheLive, Frame as TheFrame, Parent as TheParent, Children as TheChildren, Out, Long, Order, Mark, Span, Words as WordsReply, Bounds, Found, Hit as TheHit}
use Rattle.ax_record.specs.declared.record.Record.{Record}
use Rattle.ax_record.specs.Tree.{Tree, record_at, has_object}
use Rattle.ax_search.specs.Searches.{found}
use Rattle.hit_test.specs.Hits.{hit}
use Rattle.text_marker.specs.declared.errors.MarkError.{MarkError}
use Rattle.text_marker.specs.declared.errors.MarkError.TheVariants.{Stale as IsStale, Out as IsOut, Long as IsLong, NoMemory as OutOfMemory}
use Rattle.text_marker.specs.Answers.{answered, answered_both, range_text}
use Rattle.text_marker.specs.Markers.{placing, next_char, prev_char, next_word}
use Rattle.text_marker.specs.Lines.{line_range}
use Rattle.text_marker.specs.Ranges.{range_bounds}

-- the object that a request is about
abbrev pub asked_object : Request → Option ℕ
asked_object Root = None
asked_object Focus = None
asked_object (Role id) = Some id
asked_object (Name id) = Some id
asked_object (Description id) = Some id
asked_object (Value id) = Some id
asked_object (States id) = Some id
asked_object (Level id) = Some id
asked_object (Live id) = Some id
asked_object (Frame id) = Some id
asked_object (Parent id) = Some id
asked_object (Children id from) = Some id
asked_object (Compare a b) = None
asked_object (NextChar at) = None
asked_object (PrevChar at) = None
asked_object (NextWord at) = None
asked_object (LineAt at) = None
asked_object (TextOf from to) = None
asked_object (BoundsOf from to) = None
asked_object (Search r) = None
asked_object (Hit x y) = None

-- the children from a place on, counted from 0, up to 256 of them
abbrev pub children_from : ℕ → List ℕ → List ℕ
children_from from kids = take 256 (drop from kids)

-- what the record of an object answers to a request about it
abbrev pub answer_of : Record → Request → Reply
answer_of r Root = Nothing
answer_of r Focus = Nothing
answer_of r (Role id) = TheRole r.role
answer_of r (Name id) = TheName r.name
answer_of r (Description id) = TheDescription r.description
answer_of r (Value id) = option_map_or TheValue r.value Nothing
answer_of r (States id) = TheStates r.states
answer_of r (Level id) = option_map_or TheLevel r.level Nothing
answer_of r (Live id) = TheLive r.live
answer_of r (Frame id) = TheFrame r.frame
answer_of r (Parent id) = option_map_or TheParent r.parent Nothing
answer_of r (Children id from) = TheChildren (length r.kids) (children_from from r.kids)
answer_of r (Compare a b) = Nothing
answer_of r (NextChar at) = Nothing
answer_of r (PrevChar at) = Nothing
answer_of r (NextWord at) = Nothing
answer_of r (LineAt at) = Nothing
answer_of r (TextOf from to) = Nothing
answer_of r (BoundsOf from to) = Nothing
answer_of r (Search q) = Nothing
answer_of r (Hit x y) = Nothing

-- what is told where markers have no answer; want of memory is none that a definition gives
abbrev pub refusal_reply : MarkError → Reply
refusal_reply IsStale = Stale
refusal_reply IsOut = Out
refusal_reply IsLong = Long
refusal_reply OutOfMemory = Nothing

-- what is told of an answer about markers, or of their refusal
abbrev pub told : {A : Type 0} → (A → Reply) → Result A MarkError → Reply
told tell (Ok value) = tell value
told tell (Err e) = refusal_reply e

abbrev pub mark_reply : Option Marker → Reply
mark_reply at = option_map_or Mark at Nothing

abbrev pub span_reply : Option (Marker × Marker) → Reply
span_reply ends = option_map_or (λ (e : Marker × Marker). Span e.0 e.1) ends Nothing

abbrev pub bounds_reply : Option Rect → Reply
bounds_reply bounds = option_map_or Bounds bounds Nothing

-- whether a search goes on from an object of the tree, or from none
abbrev pub has_origin : Tree → Option ℕ → Bool
has_origin t origin = option_map_or (has_object t) origin true

-- what is told of the objects that a search found
abbrev pub told_ids : List ℕ → Reply
told_ids [] = Nothing
told_ids (n ∷ ns) = Found (n ∷ ns)

-- what a tree answers to a search: it is stale exactly where the tree lacks its origin
abbrev pub answer_search : Tree → SearchRequest → Reply
answer_search t r = if has_origin t r.origin then told_ids (found t r) else Stale

-- what a tree answers to a request that is about no object of its own
abbrev pub answer_whole : Tree → Request → Reply
answer_whole t Root = TheRoot root
answer_whole t Focus = option_map_or TheFocus t.focus Nothing
answer_whole t (Role id) = Nothing
answer_whole t (Name id) = Nothing
answer_whole t (Description id) = Nothing
answer_whole t (Value id) = Nothing
answer_whole t (States id) = Nothing
answer_whole t (Level id) = Nothing
answer_whole t (Live id) = Nothing
answer_whole t (Frame id) = Nothing
answer_whole t (Parent id) = Nothing
answer_whole t (Children id from) = Nothing
answer_whole t (Compare a b) = told Order (answered_both t a b (Ok (placing t a b)))
answer_whole t (NextChar at) = told mark_reply (answered t at (next_char t at))
answer_whole t (PrevChar at) = told mark_reply (answered t at (prev_char t at))
answer_whole t (NextWord at) = told mark_reply (answered t at (next_word t at))
answer_whole t (LineAt at) = told span_reply (answered t at (line_range t at))
answer_whole t (TextOf a b) = told WordsReply (range_text t a b)
answer_whole t (BoundsOf a b) = told bounds_reply (answered_both t a b (Ok (range_bounds t a b)))
answer_whole t (Search r) = answer_search t r
answer_whole t (Hit x y) = option_map_or TheHit (hit t x y) Nothing

-- what a tree answers: about an object it is stale exactly where the tree lacks it
abbrev pub answer : Tree → Request → Reply
answer t q = option_map_or (λ id. option_map_or (λ r. answer_of r q) (record_at t id) Stale) (asked_object q) (answer_whole t q)
