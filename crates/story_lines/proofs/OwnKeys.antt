-- A value of one kind has no form of another.
use Rattle.std.proofs.Common.{◌≡◌, ℕ, ◌&&◌, ◌||◌, ◌==◌, List, [], ◌∷◌, Bool, true, false, Option, Some, None, Less, Equal, Greater, Ordering, option_map, option_and_then, refl, sym, ap, ◌∙◌, subst, is_eq}
use Rattle.std.specs.Prelude.{codes, bytes_eq, if◌then◌else◌, unwrap_or}
use Rattle.std.specs.List.{list_any}
use Rattle.std.specs.Option.{option_or, option_map_or}
use Rattle.std.specs.Ordering.{nat_cmp, match_ordering}
use Rattle.std.specs.Cmp.Lexicographic.{slice_cmp}
use Rattle.std.proofs.lemmas.Slice.Eq.{bytes_eq-Decides}
use Rattle.std.proofs.lemmas.Map.Text.{is_eq-slice_cmp}
use Rattle.serde_json.specs.Data.{Data, null, boolean, number, string, array, object, Members, no_members, member}
use Rattle.serde_json.specs.Find.{get, get_member, as_object, as_bool}
use Rattle.ax_base.specs.Characters.{Chars}
use Rattle.ax_dom.specs.declared.edit.Edit.{Edit}
use Rattle.story_lines.specs.declared.kinds.Kind.{Kind}
use Rattle.story_lines.specs.declared.kinds.Kind.TheVariants.{Insert, Remove, Move, Set, Unset, Chars as NewChars, SetRuns, Frame, Focus, Start, Flush, Until, Ask, Again, Hear, Await, Notices, Turns}
use Rattle.story_lines.specs.declared.reading.Line.{Line}
use Rattle.story_lines.specs.declared.reading.Line.TheVariants.{Change, Flush as FlushLine, Until as UntilLine, Ask as AskLine, Again as AgainLine, Hear as HearLine, Await as AwaitLine, Notices as NoticesLine}
use Rattle.story_lines.specs.Values.{◌or_else◌, only_keys, has_only, has_true, is_word, max_moment, moment_by, integer, integer_at, id_at}
use Rattle.story_lines.specs.Requests.{request_by, request_of}
use Rattle.story_lines.specs.Forms.{insert_element_of, insert_text_of, remove_of, move_of, set_of, unset_of, text_of, runs_of, frame_of, focus_of, edit_of, start_of, flush_of, until_of, ask_of, again_of, hear_of, await_of, notices_of, turns_of, form_of}
use Rattle.story_lines.specs.Kinds.{kind_by, kind_among, kind_of, form_by, form_where}

-- no kind, or this one
abbrev IsNoOther : Kind → Option Kind → Type 0
IsNoOther k None = Unit {0}
IsNoOther k (Some j) = j ≡ k

-- none of these keys is another kind's own
abbrev AreNoOthers : Kind → List Chars → Type 0
AreNoOthers k [] = Unit {0}
AreNoOthers k (a ∷ rest) = IsNoOther k (kind_by a) × AreNoOthers k rest

either : (k : Kind) (o p : Option Kind) → IsNoOther k o → IsNoOther k p → IsNoOther k (option_or o p)
either k None p h g = g
either k (Some j) p h g = h

and_left : (b c : Bool) → (b && c) ≡ true → b ≡ true
and_left true c e = refl
and_left false c e = e

and_right : (b c : Bool) → (b && c) ≡ true → c ≡ true
and_right true c e = e
and_right false c e = absurd (cc)

key_kind : (k : Kind) (allowed : List Chars) (key : Chars) → AreNoOthers k allowed → list_any (λ a. bytes_eq a key) allowed ≡ true → IsNoOther k (kind_by key)
key_kind k [] key own e = absurd (cc)
key_kind k (a ∷ rest) key own e = through (bytes_eq a key) refl e (key_kind k rest key own.1)
  where
    through : (b : Bool) → bytes_eq a key ≡ b → (b || list_any (λ a. bytes_eq a key) rest) ≡ true → (list_any (λ a. bytes_eq a key) rest ≡ true → IsNoOther k (kind_by key)) → IsNoOther k (kind_by key)
    through true same f more = subst (λ (x : Chars). IsNoOther k (kind_by x)) ((bytes_eq-Decides a key).0 same) own.0
    through false other f more = more f

-- members with these keys alone
members_kind : (k : Kind) (allowed : List Chars) (ms : Members) → AreNoOthers k allowed → only_keys allowed ms ≡ true → IsNoOther k (kind_among ms)
members_kind k allowed no_members own e = tt
members_kind k allowed (member key value ms) own e =
    either k (kind_by key) (kind_among ms) (key_kind k allowed key own (and_left _ _ e)) (members_kind k allowed ms own (and_right _ _ e))

some_none : {A : Type 0} (x : A) → Some x ≡ None → ⊥
some_none x e = cc

no_first : (o p : Option Kind) → option_or o p ≡ None → o ≡ None
no_first None p e = refl
no_first (Some x) p e = absurd (cc)

no_rest : (o p : Option Kind) → option_or o p ≡ None → p ≡ None
no_rest None p e = e
no_rest (Some x) p e = absurd (cc)

-- where no key is an own one, this own key is none of them
no_member : (k : Kind) (key : Chars) (ms : Members) → kind_by key ≡ Some k → kind_among ms ≡ None → get_member key ms ≡ None
no_member k key no_members own e = refl
no_member k key (member l value ms) own e = through (slice_cmp nat_cmp key l) refl (no_member k key ms own (no_rest (kind_by l) (kind_among ms) e))
  where
    through : (o : Ordering) → slice_cmp nat_cmp key l ≡ o → get_member key ms ≡ None → match_ordering o (get_member key ms) (Some value) (get_member key ms) ≡ None
    through Less f rest = rest
    through Greater f rest = rest
    through Equal f rest =
        let same : key ≡ l = (bytes_eq-Decides key l).0 (sym (is_eq-slice_cmp key l) ∙ ap is_eq f) in
        let none : kind_by l ≡ None = no_first (kind_by l) (kind_among ms) e in
        absurd (some_none k (sym own ∙ ap kind_by same ∙ none))

-- an object with these keys alone is of this kind, or has not its own key
lacks : (k : Kind) (key : Chars) (allowed : List Chars) (d : Data) → kind_by key ≡ Some k → AreNoOthers k allowed → (kind_of d ≡ Some k → ⊥) → has_only allowed d ≡ true → get key d ≡ None
lacks k key allowed null own all other e = refl
lacks k key allowed (boolean b) own all other e = refl
lacks k key allowed (number n) own all other e = refl
lacks k key allowed (string s) own all other e = refl
lacks k key allowed (array ds) own all other e = refl
lacks k key allowed (object ms) own all other e = through (kind_among ms) refl (members_kind k allowed ms all e) other
  where
    through : (o : Option Kind) → kind_among ms ≡ o → IsNoOther k o → (o ≡ Some k → ⊥) → get_member key ms ≡ None
    through None f h g = no_member k key ms own f
    through (Some j) f h g = absurd (g (ap (λ (x : Kind). Some x) h))

-- a form says nothing where its kind is another, if it says nothing without its own key
apart : {A : Type 0} (k : Kind) (key : Chars) (allowed : List Chars) (d : Data) (o : Option A) → kind_by key ≡ Some k → AreNoOthers k allowed → (kind_of d ≡ Some k → ⊥)
    → (get key d ≡ None → o ≡ None) → (if has_only allowed d then o else None) ≡ None
apart {A} k key allowed d o own all other missing = through (has_only allowed d) refl
  where
    through : (b : Bool) → has_only allowed d ≡ b → (if b then o else None) ≡ None
    through true e = missing (lacks k key allowed d own all other e)
    through false e = refl

own_key : (k : Kind) (key : Chars) → kind_by key ≡ Some k → AreNoOthers k (key ∷ [])
own_key k key own = (subst (λ (o : Option Kind). IsNoOther k o) (sym own) refl, tt)

-- a word
word-apart : (k : Kind) (key : Chars) (d : Data) (line : Line) → kind_by key ≡ Some k → (kind_of d ≡ Some k → ⊥) → (if is_word key d then Some line else None) ≡ None
word-apart k key d line own other = through (has_only (key ∷ []) d) refl
  where
    through : (b : Bool) → has_only (key ∷ []) d ≡ b → (if b && has_true key d then Some line else None) ≡ None
    through true e = ap (λ (o : Option Data). if unwrap_or (option_and_then as_bool o) false then Some line else None) (lacks k key (key ∷ []) d own (own_key k key own) other e)
    through false e = refl

-- a moment
moment-apart : (k : Kind) (key : Chars) (d : Data) → kind_by key ≡ Some k → (kind_of d ≡ Some k → ⊥) → moment_by key d ≡ None
moment-apart k key d own other = apart k key (key ∷ []) d (integer_at key 0 max_moment d) own (own_key k key own) other (λ e. ap (λ (o : Option Data). option_and_then (integer 0 max_moment) o) e)

-- a request
request-apart : (k : Kind) (key : Chars) (d : Data) → kind_by key ≡ Some k → (kind_of d ≡ Some k → ⊥) → request_by key d ≡ None
request-apart k key d own other = apart k key (key ∷ []) d (option_and_then request_of (get key d)) own (own_key k key own) other (λ e. ap (λ (o : Option Data). option_and_then request_of o) e)

then_none : {A B : Type 0} (o : Option A) (f : A → Option B) → ((x : A) → f x ≡ None) → option_and_then f o ≡ None
then_none None f h = refl
then_none (Some x) f h = h x

-- each form says nothing of a value of another kind
insert_element-apart : (d : Data) → (kind_of d ≡ Some Insert → ⊥) → insert_element_of d ≡ None
unfolding insert_element_of
insert_element-apart d other = apart Insert (codes "insert") (codes "insert" ∷ codes "into" ∷ codes "before" ∷ codes "tag" ∷ codes "attrs" ∷ []) d _ refl (refl, (tt, (tt, (tt, (tt, tt))))) other (λ e. rw e refl)

insert_text-apart : (d : Data) → (kind_of d ≡ Some Insert → ⊥) → insert_text_of d ≡ None
unfolding insert_text_of
insert_text-apart d other = apart Insert (codes "insert") (codes "insert" ∷ codes "into" ∷ codes "before" ∷ codes "text" ∷ []) d _ refl (refl, (tt, (tt, (tt, tt)))) other (λ e. rw e refl)

remove-apart : (d : Data) → (kind_of d ≡ Some Remove → ⊥) → remove_of d ≡ None
unfolding remove_of
remove-apart d other = apart Remove (codes "remove") (codes "remove" ∷ []) d _ refl (refl, tt) other (λ e. rw e refl)

move-apart : (d : Data) → (kind_of d ≡ Some Move → ⊥) → move_of d ≡ None
unfolding move_of
move-apart d other = apart Move (codes "move") (codes "move" ∷ codes "into" ∷ codes "before" ∷ []) d _ refl (refl, (tt, (tt, tt))) other (λ e. rw e refl)

set-apart : (d : Data) → (kind_of d ≡ Some Set → ⊥) → set_of d ≡ None
unfolding set_of
set-apart d other = apart Set (codes "set") (codes "set" ∷ codes "name" ∷ codes "value" ∷ []) d _ refl (refl, (tt, (tt, tt))) other (λ e. rw e refl)

unset-apart : (d : Data) → (kind_of d ≡ Some Unset → ⊥) → unset_of d ≡ None
unfolding unset_of
unset-apart d other = apart Unset (codes "unset") (codes "unset" ∷ codes "name" ∷ []) d _ refl (refl, (tt, tt)) other (λ e. rw e refl)

text-apart : (d : Data) → (kind_of d ≡ Some NewChars → ⊥) → text_of d ≡ None
unfolding text_of
text-apart d other = apart NewChars (codes "to") (codes "text" ∷ codes "to" ∷ []) d _ refl (tt, (refl, tt)) other (λ e. then_none (id_at (codes "text") d) _ (λ id. rw e refl))

runs-apart : (d : Data) → (kind_of d ≡ Some SetRuns → ⊥) → runs_of d ≡ None
unfolding runs_of
runs-apart d other = apart SetRuns (codes "runs") (codes "runs" ∷ codes "list" ∷ []) d _ refl (refl, (tt, tt)) other (λ e. rw e refl)

frame-apart : (d : Data) → (kind_of d ≡ Some Frame → ⊥) → frame_of d ≡ None
unfolding frame_of
frame-apart d other = apart Frame (codes "frame") (codes "frame" ∷ codes "rect" ∷ []) d _ refl (refl, (tt, tt)) other (λ e. rw e refl)

focus-apart : (d : Data) → (kind_of d ≡ Some Focus → ⊥) → focus_of d ≡ None
unfolding focus_of
focus-apart d other = apart Focus (codes "focus") (codes "focus" ∷ []) d _ refl (refl, tt) other (λ e. rw e refl)

start-apart : (d : Data) → (kind_of d ≡ Some Start → ⊥) → start_of d ≡ None
unfolding start_of
start-apart d other = apart Start (codes "start") (codes "start" ∷ []) d _ refl (refl, tt) other (λ e. rw e refl)

flush-apart : (d : Data) → (kind_of d ≡ Some Flush → ⊥) → flush_of d ≡ None
unfolding flush_of
flush-apart d other = word-apart Flush (codes "flush") d FlushLine refl other

until-apart : (d : Data) → (kind_of d ≡ Some Until → ⊥) → until_of d ≡ None
unfolding until_of
until-apart d other = ap (option_map UntilLine) (moment-apart Until (codes "until") d refl other)

ask-apart : (d : Data) → (kind_of d ≡ Some Ask → ⊥) → ask_of d ≡ None
unfolding ask_of
ask-apart d other = ap (option_map AskLine) (request-apart Ask (codes "ask") d refl other)

again-apart : (d : Data) → (kind_of d ≡ Some Again → ⊥) → again_of d ≡ None
unfolding again_of
again-apart d other = ap (option_map AgainLine) (request-apart Again (codes "again") d refl other)

hear-apart : (d : Data) → (kind_of d ≡ Some Hear → ⊥) → hear_of d ≡ None
unfolding hear_of
hear-apart d other = word-apart Hear (codes "hear") d HearLine refl other

await-apart : (d : Data) → (kind_of d ≡ Some Await → ⊥) → await_of d ≡ None
unfolding await_of
await-apart d other = ap (option_map AwaitLine) (moment-apart Await (codes "await") d refl other)

notices-apart : (d : Data) → (kind_of d ≡ Some Notices → ⊥) → notices_of d ≡ None
unfolding notices_of
notices-apart d other = word-apart Notices (codes "notices") d NoticesLine refl other

turns-apart : (d : Data) → (kind_of d ≡ Some Turns → ⊥) → turns_of d ≡ None
unfolding turns_of
turns-apart d other = apart Turns (codes "turns") (codes "turns" ∷ []) d _ refl (refl, tt) other (λ e. rw e refl)

-- the place of a kind among all
abbrev place : Kind → ℕ
place Insert = 0
place Remove = 1
place Move = 2
place Set = 3
place Unset = 4
place NewChars = 5
place SetRuns = 6
place Frame = 7
place Focus = 8
place Start = 9
place Flush = 10
place Until = 11
place Ask = 12
place Again = 13
place Hear = 14
place Await = 15
place Notices = 16
place Turns = 17

abbrev is_kind : Kind → Option Kind → Bool
is_kind k None = false
is_kind k (Some j) = place k == place j

-- a value where a test is true, and none elsewhere
abbrev only_where : {A : Type 0} → Bool → Option A → Option A
only_where true o = o
only_where false o = None

picked : {A : Type 0} (k : Kind) (d : Data) (o : Option A) → ((kind_of d ≡ Some k → ⊥) → o ≡ None) → is_kind k (Some k) ≡ true → o ≡ only_where (is_kind k (kind_of d)) o
picked k d o none same = through (is_kind k (kind_of d)) refl
  where
    through : (b : Bool) → is_kind k (kind_of d) ≡ b → o ≡ only_where b o
    through true e = refl
    through false e = none (λ f. let here : is_kind k (kind_of d) ≡ is_kind k (Some k) = ap (is_kind k) f in absurd (cc))

-- all forms, of which those of other kinds are left out
abbrev chosen : Option Kind → Data → Option Line
chosen o d =
    option_map Change (
    only_where (is_kind Insert o) (insert_element_of d)
    or_else only_where (is_kind Insert o) (insert_text_of d)
    or_else only_where (is_kind Remove o) (remove_of d)
    or_else only_where (is_kind Move o) (move_of d)
    or_else only_where (is_kind Set o) (set_of d)
    or_else only_where (is_kind Unset o) (unset_of d)
    or_else only_where (is_kind NewChars o) (text_of d)
    or_else only_where (is_kind SetRuns o) (runs_of d)
    or_else only_where (is_kind Frame o) (frame_of d)
    or_else only_where (is_kind Focus o) (focus_of d))
    or_else only_where (is_kind Start o) (start_of d)
    or_else only_where (is_kind Flush o) (flush_of d)
    or_else only_where (is_kind Until o) (until_of d)
    or_else only_where (is_kind Ask o) (ask_of d)
    or_else only_where (is_kind Again o) (again_of d)
    or_else only_where (is_kind Hear o) (hear_of d)
    or_else only_where (is_kind Await o) (await_of d)
    or_else only_where (is_kind Notices o) (notices_of d)
    or_else only_where (is_kind Turns o) (turns_of d)

form_chosen : (d : Data) → form_of d ≡ chosen (kind_of d) d
unfolding form_of edit_of
form_chosen d = λ i.
    option_map Change (
    picked Insert d (insert_element_of d) (insert_element-apart d) refl i
    or_else picked Insert d (insert_text_of d) (insert_text-apart d) refl i
    or_else picked Remove d (remove_of d) (remove-apart d) refl i
    or_else picked Move d (move_of d) (move-apart d) refl i
    or_else picked Set d (set_of d) (set-apart d) refl i
    or_else picked Unset d (unset_of d) (unset-apart d) refl i
    or_else picked NewChars d (text_of d) (text-apart d) refl i
    or_else picked SetRuns d (runs_of d) (runs-apart d) refl i
    or_else picked Frame d (frame_of d) (frame-apart d) refl i
    or_else picked Focus d (focus_of d) (focus-apart d) refl i)
    or_else picked Start d (start_of d) (start-apart d) refl i
    or_else picked Flush d (flush_of d) (flush-apart d) refl i
    or_else picked Until d (until_of d) (until-apart d) refl i
    or_else picked Ask d (ask_of d) (ask-apart d) refl i
    or_else picked Again d (again_of d) (again-apart d) refl i
    or_else picked Hear d (hear_of d) (hear-apart d) refl i
    or_else picked Await d (await_of d) (await-apart d) refl i
    or_else picked Notices d (notices_of d) (notices-apart d) refl i
    or_else picked Turns d (turns_of d) (turns-apart d) refl i

alone : {A : Type 0} (o : Option A) → o or_else None ≡ o
alone None = refl
alone (Some x) = refl

edit_alone : (o : Option Edit) → option_map Change (o or_else None) or_else None ≡ option_map Change o
edit_alone None = refl
edit_alone (Some e) = refl

insert_alone : (o p : Option Edit) → option_map Change (o or_else p or_else None) or_else None ≡ option_map Change (o or_else p)
insert_alone (Some e) p = refl
insert_alone None p = edit_alone p

only_one : (o : Option Kind) (d : Data) → chosen o d ≡ form_where o d
only_one None d = refl
only_one (Some Insert) d = insert_alone (insert_element_of d) (insert_text_of d)
only_one (Some Remove) d = edit_alone (remove_of d)
only_one (Some Move) d = edit_alone (move_of d)
only_one (Some Set) d = edit_alone (set_of d)
only_one (Some Unset) d = edit_alone (unset_of d)
only_one (Some NewChars) d = edit_alone (text_of d)
only_one (Some SetRuns) d = edit_alone (runs_of d)
only_one (Some Frame) d = edit_alone (frame_of d)
only_one (Some Focus) d = alone (option_map Change (focus_of d))
only_one (Some Start) d = alone (start_of d)
only_one (Some Flush) d = alone (flush_of d)
only_one (Some Until) d = alone (until_of d)
only_one (Some Ask) d = alone (ask_of d)
only_one (Some Again) d = alone (again_of d)
only_one (Some Hear) d = alone (hear_of d)
only_one (Some Await) d = alone (await_of d)
only_one (Some Notices) d = alone (notices_of d)
only_one (Some Turns) d = refl

-- what a value says is what its kind says
pub form_is : (d : Data) → form_of d ≡ form_where (kind_of d) d
form_is d = form_chosen d ∙ only_one (kind_of d) d
