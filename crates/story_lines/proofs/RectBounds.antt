-- The rectangles of a line are within bounds.
use Rattle.std.proofs.Common.{◌≡◌, ℕ, ◌-◌, ◌^◌, ◌≤◌, ◌<◌, ℤ, pos, negsuc, ◌≤ℤ◌, ◌&&◌, [], ◌∷◌, Bool, true, false, cond, Option, Some, None, Result, Ok, ◌∙◌, option_map, option_and_then, refl, subst, arith}
use Rattle.std.specs.Prelude.{IfSome, All, nat_le, nat_lt, codes}
use Rattle.std.specs.Option.{ok_or}
use Rattle.std.proofs.lemmas.Bool.{leb-true, ltb-true}
use Rattle.std.proofs.lemmas.Int.{ints}
use Rattle.std.proofs.lemmas.List.Elements.{All-cons, All-nil}
use Rattle.std.specs.Cmp.{second_so}
use Rattle.serde_json.specs.Data.{Data, Items, no_items, item}
use Rattle.serde_json.specs.Read.{read}
use Rattle.serde_json.specs.Find.{get, as_array, as_number, as_i64}
use Rattle.ax_base.specs.Characters.{Chars}
use Rattle.ax_base.specs.declared.rect.Rect.{Rect}
use Rattle.ax_base.specs.declared.rect.Run.{Run}
use Rattle.ax_dom.specs.declared.edit.Edit.TheVariants.{InsertElement, InsertText, Remove, Move, Set, Unset, Chars as SetChars, SetRuns, Frame, Focus}
use Rattle.story_lines.specs.declared.reading.Line.{Line}
use Rattle.story_lines.specs.declared.reading.Line.TheVariants.{Change, Start, Flush, Until, Ask, Again, Hear, Await, Notices, Turns}
use Rattle.story_lines.specs.Values.{◌or_else◌, id_at, maybe_id, id_or_none_at, name_at, tag_at, text_at, integer_at, between, integer, around_zero, is_word, moment_by}
use Rattle.story_lines.specs.Runs.{edge, size, rect_by, rect, rect_at, run_by, run, run_in, runs, runs_at}
use Rattle.story_lines.specs.Requests.{request_by}
use Rattle.story_lines.specs.Attributes.{maybe_attributes}
use Rattle.story_lines.specs.Forms.{insert_element_of, insert_text_of, remove_of, move_of, set_of, unset_of, text_of, runs_of, frame_of, focus_of, edit_of, start_of, flush_of, until_of, ask_of, again_of, hear_of, await_of, notices_of, turns_of, form_of}
use Rattle.ax_base.specs.Rects.{IsWithinBounds}
use Rattle.ax_dom.specs.Bounds.{EditKeepsBounds}
use Rattle.story_lines.specs.Bounds.{KeepsBounds}
use Rattle.story_lines.specs.declared.reading.LineFail.{LineFail}
use Rattle.story_lines.specs.declared.reading.LineFail.TheVariants.{BadJson, BadLine}
use Rattle.story_lines.specs.Lines.{◌>>=◌, is_blank_line, said_by, line_of}

-- what a reading gives is such
record Gives {A : Type 0} (o : Option A) (P : A → Type 0) : Type 0 where
  fact : IfSome o P

-- what is made of such a value, of any value, or of a value where a test is true
made : {A B : Type 0} (Q : A → Type 0) {P : B → Type 0} (o : Option A) (f : A → Option B) → Gives o Q → ((x : A) → Q x → Gives (f x) P) → Gives (option_and_then f o) P
made Q None f q h = record { fact = tt }
made Q (Some x) f q h = h x q.fact

from_any : {A B : Type 0} {P : B → Type 0} (o : Option A) (f : A → Option B) → ((x : A) → Gives (f x) P) → Gives (option_and_then f o) P
from_any None f h = record { fact = tt }
from_any (Some x) f h = h x

where_true : {A : Type 0} {P : A → Type 0} (b : Bool) (o : Option A) → (b ≡ true → Gives o P) → Gives (cond b o None) P
where_true true o h = h refl
where_true false o h = record { fact = tt }

-- one of two readings
either : {A : Type 0} {P : A → Type 0} (o p : Option A) → Gives o P → Gives p P → Gives (o or_else p) P
either None p h k = k
either (Some x) p h k = h

-- a value in a variant
mapped : {A B : Type 0} {P : B → Type 0} (f : A → B) (o : Option A) → ((x : A) → P (f x)) → Gives (option_map f o) P
mapped f None h = record { fact = tt }
mapped f (Some x) h = record { fact = h x }

mapped_from : {A B : Type 0} (Q : A → Type 0) {P : B → Type 0} (f : A → B) (o : Option A) → Gives o Q → ((x : A) → Q x → P (f x)) → Gives (option_map f o) P
mapped_from Q f None q h = record { fact = tt }
mapped_from Q f (Some x) q h = record { fact = h x q.fact }

-- a value itself
gives : {A : Type 0} {P : A → Type 0} (x : A) → P x → Gives (Some x) P
gives x h = record { fact = h }

-- from -2^20 to 2^20
abbrev IsEdge : ℤ → Type 0
IsEdge z = (negsuc (2 ^ 20 - 1) ≤ℤ z) × (z ≤ℤ pos (2 ^ 20))

-- from 0 to 2^20
abbrev IsSize : ℤ → Type 0
IsSize z = (pos 0 ≤ℤ z) × (z ≤ℤ pos (2 ^ 20))

around : (z : ℤ) → Gives (around_zero (2 ^ 20) z) IsEdge
around (pos n) = where_true (nat_le n (2 ^ 20)) (Some (pos n)) (λ h. let le : n ≤ 2 ^ 20 = leb-true n (2 ^ 20) h in gives (pos n) (omega (arith, ints), omega (arith, ints)))
around (negsuc n) = where_true (nat_lt n (2 ^ 20)) (Some (negsuc n)) (λ h. let lt : n < 2 ^ 20 = ltb-true n (2 ^ 20) h in gives (negsuc n) (omega (arith, ints), omega (arith, ints)))

edge_gives : (d : Data) → Gives (edge d) IsEdge
edge_gives d = from_any (option_and_then as_i64 (as_number d)) (around_zero (2 ^ 20)) around

between_gives : (low high : ℕ) (z : ℤ) → Gives (between low high z) (λ n. n ≤ high)
between_gives low high (pos n) = where_true (nat_le low n && nat_le n high) (Some n) (λ h. gives n (leb-true n high (second_so (nat_le low n) (nat_le n high) h)))
between_gives low high (negsuc n) = record { fact = tt }

integer_gives : (low high : ℕ) (d : Data) → Gives (integer low high d) (λ n. n ≤ high)
integer_gives low high d = from_any (option_and_then as_i64 (as_number d)) (between low high) (between_gives low high)

size_gives : (d : Data) → Gives (size d) IsSize
size_gives d = mapped_from (λ n. n ≤ 2 ^ 20) pos (integer 0 (2 ^ 20) d) (integer_gives 0 (2 ^ 20) d) (λ n h. (omega (arith, ints), omega (arith, ints)))

-- a left edge of 2^20 at most and a width of 2^20 at most give a right edge of 2^21 at most
rect_by_gives : (x y w h : Data) → Gives (rect_by x y w h) IsWithinBounds
rect_by_gives x y w h =
    made IsEdge (edge x) _ (edge_gives x) (λ left l. made IsEdge (edge y) _ (edge_gives y) (λ top t. made IsSize (size w) _ (size_gives w) (λ width v. made IsSize (size h) _ (size_gives h) (λ height u.
    gives (record { x = left; y = top; w = width; h = height }) (v.0, u.0, l.0, t.0, omega (arith, ints), omega (arith, ints))))))

rect_gives : (ds : Items) → Gives (rect ds) IsWithinBounds
rect_gives (item x (item y (item w (item h no_items)))) = rect_by_gives x y w h
rect_gives _ = record { fact = tt }

abbrev RunIsWithin : Run → Type 0
RunIsWithin r = IsWithinBounds r.rect

run_by_gives : (first past line : Data) (frame : Option Rect) → Gives frame IsWithinBounds → Gives (run_by first past line frame) RunIsWithin
run_by_gives first past line frame h =
    from_any (integer 0 (2 ^ 16) first) _ (λ from. from_any (integer 0 (2 ^ 16) past) _ (λ to. from_any (integer 0 (2 ^ 20) line) _ (λ number. made IsWithinBounds frame _ h (λ rect r.
    gives (record { first = from; past = to; line = number; rect = rect }) r))))

run_gives : (ds : Items) → Gives (run ds) RunIsWithin
run_gives (item first (item past (item line (item x (item y (item w (item h no_items))))))) = run_by_gives first past line (rect_by x y w h) (rect_by_gives x y w h)
run_gives _ = record { fact = tt }

runs_gives : (ds : Items) → Gives (runs ds) (All RunIsWithin)
runs_gives no_items = gives [] (All-nil RunIsWithin)
runs_gives (item d ds) =
    made RunIsWithin (run_in d) _ (from_any (as_array d) run run_gives) (λ one h. made (All RunIsWithin) (runs ds) _ (runs_gives ds) (λ more k.
    gives (one ∷ more) (All-cons RunIsWithin one more h k)))

-- each form of an edit has none but such rectangles
insert_element_gives : (d : Data) → Gives (insert_element_of d) EditKeepsBounds
unfolding insert_element_of
insert_element_gives d = where_true _ _ (λ e. from_any (id_at (codes "insert") d) _ (λ id. from_any (id_at (codes "into") d) _ (λ into. from_any (maybe_id (get (codes "before") d)) _ (λ before. from_any (tag_at d) _ (λ tag. from_any (maybe_attributes (get (codes "attrs") d)) _ (λ attrs. gives (InsertElement id into before tag attrs) tt))))))

insert_text_gives : (d : Data) → Gives (insert_text_of d) EditKeepsBounds
unfolding insert_text_of
insert_text_gives d = where_true _ _ (λ e. from_any (id_at (codes "insert") d) _ (λ id. from_any (id_at (codes "into") d) _ (λ into. from_any (maybe_id (get (codes "before") d)) _ (λ before. from_any (text_at (codes "text") d) _ (λ text. gives (InsertText id into before text) tt)))))

remove_gives : (d : Data) → Gives (remove_of d) EditKeepsBounds
unfolding remove_of
remove_gives d = where_true _ _ (λ e. from_any (id_at (codes "remove") d) _ (λ id. gives (Remove id) tt))

move_gives : (d : Data) → Gives (move_of d) EditKeepsBounds
unfolding move_of
move_gives d = where_true _ _ (λ e. from_any (id_at (codes "move") d) _ (λ id. from_any (id_at (codes "into") d) _ (λ into. from_any (maybe_id (get (codes "before") d)) _ (λ before. gives (Move id into before) tt))))

set_gives : (d : Data) → Gives (set_of d) EditKeepsBounds
unfolding set_of
set_gives d = where_true _ _ (λ e. from_any (id_at (codes "set") d) _ (λ id. from_any (name_at d) _ (λ name. from_any (text_at (codes "value") d) _ (λ value. gives (Set id name value) tt))))

unset_gives : (d : Data) → Gives (unset_of d) EditKeepsBounds
unfolding unset_of
unset_gives d = where_true _ _ (λ e. from_any (id_at (codes "unset") d) _ (λ id. from_any (name_at d) _ (λ name. gives (Unset id name) tt)))

text_gives : (d : Data) → Gives (text_of d) EditKeepsBounds
unfolding text_of
text_gives d = where_true _ _ (λ e. from_any (id_at (codes "text") d) _ (λ id. from_any (text_at (codes "to") d) _ (λ text. gives (SetChars id text) tt)))

focus_gives : (d : Data) → Gives (focus_of d) EditKeepsBounds
unfolding focus_of
focus_gives d = where_true _ _ (λ e. from_any (id_or_none_at (codes "focus") d) _ (λ node. gives (Focus node) tt))

runs_of_gives : (d : Data) → Gives (runs_of d) EditKeepsBounds
unfolding runs_of
runs_of_gives d = where_true _ _ (λ e. from_any (id_at (codes "runs") d) _ (λ id. made (All RunIsWithin) (runs_at d) _ (from_any (option_and_then as_array (get (codes "list") d)) runs runs_gives) (λ list h. gives (SetRuns id list) h)))

frame_gives : (d : Data) → Gives (frame_of d) EditKeepsBounds
unfolding frame_of
frame_gives d = where_true _ _ (λ e. from_any (id_at (codes "frame") d) _ (λ id. made IsWithinBounds (rect_at d) _ (from_any (option_and_then as_array (get (codes "rect") d)) rect rect_gives) (λ r h. gives (Frame id r) h)))

edit_gives : (d : Data) → Gives (edit_of d) EditKeepsBounds
unfolding edit_of
edit_gives d =
    either _ _ (insert_element_gives d) (either _ _ (insert_text_gives d) (either _ _ (remove_gives d) (either _ _ (move_gives d) (either _ _ (set_gives d)
    (either _ _ (unset_gives d) (either _ _ (text_gives d) (either _ _ (runs_of_gives d) (either _ _ (frame_gives d) (focus_gives d)))))))))

-- and so has each form of a line
line_gives : (d : Data) → Gives (form_of d) KeepsBounds
unfolding form_of start_of flush_of until_of ask_of again_of hear_of await_of notices_of turns_of
line_gives d =
    either _ _ (mapped_from EditKeepsBounds Change (edit_of d) (edit_gives d) (λ e h. h))
    (either _ _ (where_true _ _ (λ e. from_any (integer_at (codes "start") 1 1 d) _ (λ one. gives Start tt)))
    (either _ _ (where_true (is_word (codes "flush") d) (Some Flush) (λ e. gives Flush tt))
    (either _ _ (mapped Until (moment_by (codes "until") d) (λ n. tt))
    (either _ _ (mapped Ask (request_by (codes "ask") d) (λ r. tt))
    (either _ _ (mapped Again (request_by (codes "again") d) (λ r. tt))
    (either _ _ (where_true (is_word (codes "hear") d) (Some Hear) (λ e. gives Hear tt))
    (either _ _ (mapped Await (moment_by (codes "await") d) (λ n. tt))
    (either _ _ (where_true (is_word (codes "notices") d) (Some Notices) (λ e. gives Notices tt))
    (where_true _ _ (λ e. from_any (text_at (codes "turns") d) _ (λ turns. gives (Turns turns) tt)))))))))))

-- a line that a value has keeps the bounds
pub form_keeps_bounds : (d : Data) (line : Line) → form_of d ≡ Some line → KeepsBounds line
form_keeps_bounds d line e = let P : Option Line → Type 0 = λ o. IfSome o KeepsBounds in subst P e (line_gives d).fact

-- and so has one that a text says
pub line_keeps_bounds : (text : Chars) (line : Line) → line_of text ≡ Ok (Some line) → KeepsBounds line
line_keeps_bounds text line e = through (is_blank_line text) (read text) e
  where
    read_form : (d : Data) (o : Option Line) → form_of d ≡ o → ◌≡◌ {A = Result (Option Line) LineFail} (ok_or o BadLine >>= λ l. Ok (Some l)) (Ok (Some line)) → KeepsBounds line
    read_form d None is e = absurd (cc)
    read_form d (Some l) is e = form_keeps_bounds d line (is ∙ (cc))

    through : (b : Bool) (o : Option Data) → ◌≡◌ {A = Result (Option Line) LineFail} (cond b (Ok None) (ok_or o BadJson >>= said_by)) (Ok (Some line)) → KeepsBounds line
    through true o e = absurd (cc)
    through false None e = absurd (cc)
    through false (Some d) e = read_form d (form_of d) refl e
