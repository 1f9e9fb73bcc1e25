-- The line of a marker, by the runs of its text and of the texts around that.
use Rattle.std.proofs.Common.{◌≡◌, ℕ, zero, suc, ◌+◌, ◌<◌, List, [], ◌∷◌, ◌++◌, reverse, length, take, drop, get_or, Bool, true, false, cond, ◌&&◌, refl, sym, ap, ◌∙◌, arith, append_assoc, append-nil, inl, inr, chars}
use Rattle.std.specs.Prelude.{find, Some, None, Ok, slice_get}
use Rattle.std.specs.List.{flat_map}
use Rattle.std.specs.Option.{option_map, option_map_or, unwrap_or}
use Rattle.std.proofs.Math.Seq.{take-suc}
use Rattle.std.proofs.lemmas.Option.{slice_get-get_or}
use Rattle.std.proofs.lemmas.Bool.Decides.{eqb_tells}
use Rattle.std.proofs.lemmas.List.{reverse-append, reverse-reverse, map-append, length-drop, take_all}
use Rattle.ax_ask.specs.declared.requests.Marker.{Marker}
use Rattle.ax_base.specs.declared.rect.Run.{Run}
use Rattle.ax_record.specs.declared.record.Record.{Record}
use Rattle.ax_record.specs.Tree.{Tree, record_at}
use Rattle.ax_record.specs.ObjectTrees.{IsObjectTree}
use Rattle.text_order.specs.Texts.{is_text, later_texts, earlier_texts, place}
use Rattle.text_order.proofs.Laters.{parted_texts}
use Rattle.text_marker.specs.Markers.{mark, words_of}
use Rattle.text_marker.specs.Lines.{runs_of, of_text, runs_at, all_runs, is_run_of, is_run_at, stretch_start, stretch_end, stretch_around, line_range}
use Rattle.text_marker.specs.Answers.{refusal, unless, answered}
use Rattle.text_marker.proofs.Finding.{flat_parts, reverse-flat, behind, takes, skips, find_map, none_made, none_joined, find_alike}
use Rattle.text_marker.proofs.Places.{earlier_place, later_place}
use Rattle.text_marker.proofs.Texts.{text_is, accepted_text}

module _ (passes : ℕ × Run → Bool) where
  none_first : (x : ℕ × Run) (xs : List (ℕ × Run)) → find passes (x ∷ xs) ≡ None → (passes x ≡ false) × (find passes xs ≡ None)
  none_first x xs e = go (passes x) refl
    where
      go : (b : Bool) → passes x ≡ b → (passes x ≡ false) × (find passes xs ≡ None)
      go true b = let wrong : Some x ≡ None = sym (takes passes x xs b) ∙ e in absurd (grind arith)
      go false b = (b, sym (skips passes x xs b) ∙ e)

  -- where no run passes there is no stretch
  stretched_none : (back xs : List (ℕ × Run)) → find passes xs ≡ None → stretch_around passes back xs ≡ None
  stretched_none back [] e = refl
  stretched_none back (x ∷ xs) e =
      let n = none_first x xs e in
      ap (λ b. cond b (Some (stretch_start x.1.line (mark x.0 x.1.first) back, stretch_end x.1.line (mark x.0 x.1.past) xs)) (stretch_around passes (x ∷ back) xs)) n.0 ∙ stretched_none (x ∷ back) xs n.1

  -- the stretch around the first run that passes
  stretched : (back pre : List (ℕ × Run)) (x : ℕ × Run) (post : List (ℕ × Run)) → find passes pre ≡ None → passes x ≡ true
      → stretch_around passes back (pre ++ x ∷ post) ≡ Some (stretch_start x.1.line (mark x.0 x.1.first) (reverse pre ++ back), stretch_end x.1.line (mark x.0 x.1.past) post)
  stretched back [] x post none holds =
      ap (λ b. cond b (Some (stretch_start x.1.line (mark x.0 x.1.first) back, stretch_end x.1.line (mark x.0 x.1.past) post)) (stretch_around passes (x ∷ back) post)) holds
  stretched back (p ∷ pre) x post none holds =
      let n = none_first p pre none in
      ap (λ b. cond b (Some (stretch_start p.1.line (mark p.0 p.1.first) back, stretch_end p.1.line (mark p.0 p.1.past) (pre ++ x ∷ post))) (stretch_around passes (p ∷ back) (pre ++ x ∷ post))) n.0
      ∙ stretched (p ∷ back) pre x post n.1 holds
      ∙ ap (λ l. Some (stretch_start x.1.line (mark x.0 x.1.first) l, stretch_end x.1.line (mark x.0 x.1.past) post)) (sym (ap (λ l. l ++ back) (reverse-append (p ∷ []) pre) ∙ append_assoc (reverse pre) (p ∷ []) back))

-- one of a list stands between what is before and behind it
parted_at : (rs : List Run) (i : ℕ) (x : Run) → slice_get rs i ≡ Some x → rs ≡ take i rs ++ x ∷ drop (suc i) rs
parted_at [] i x e = absurd (grind arith)
parted_at (r ∷ rs) zero x e = let is : Some r ≡ Some x = e in let same : r ≡ x = cc in ap (λ z. z ∷ rs) same
parted_at (r ∷ rs) (suc i) x e = ap (λ l. r ∷ l) (parted_at rs i x e)

module _ (t : Tree) (hangs : IsObjectTree t) (m : Marker) (r : Record) (s : List ℕ) (rec : Some r ≡ record_at t m.id) (stands : refusal t m ≡ None) (is : s ≡ unwrap_or r.text [])
    (rs : List Run) (runs : rs ≡ r.runs) (count : ℕ) (long : count ≡ length (chars s)) where
  text : is_text t m.id ≡ true
  text = accepted_text t m stands

  answer : {A : Type 0} (value : A) → Ok value ≡ answered t m value
  answer value = sym (ap (λ e. unless e (Ok value)) stands)

  own_runs : runs_at t m.id ≡ of_text m.id rs
  own_runs = ap (of_text m.id) (sym (runs ∙ ap (λ o. option_map_or (λ (x : Record). x.runs) o []) rec))

  front : List (ℕ × Run)
  front = flat_map (runs_at t) (reverse (earlier_texts t m.id))

  back : List (ℕ × Run)
  back = flat_map (runs_at t) (later_texts t m.id)

  runs_are : all_runs t ≡ front ++ (of_text m.id rs ++ back)
  unfolding front back
  runs_are =
      ap (flat_map (runs_at t)) (parted_texts t hangs m.id text) ∙ flat_parts (runs_at t) (reverse (earlier_texts t m.id)) m.id (later_texts t m.id)
      ∙ ap (λ l. flat_map (runs_at t) (reverse (earlier_texts t m.id)) ++ (l ++ flat_map (runs_at t) (later_texts t m.id))) own_runs

  apart : (k : ℕ) (x : Run) → (place t k ≡ place t m.id → ⊥) → is_run_at t m (k, x) ≡ false
  apart k x off = elim (eqb_tells k m.id) [
    | inl (e, same) ↦ absurd (off (ap (place t) same))
    | inr (e, other) ↦ ap (λ b. b && is_run_of m.offset (length (words_of t m.id)) x) e
  ]

  none_front : find (is_run_at t m) front ≡ None
  unfolding front
  none_front =
      none_joined (is_run_at t m) (runs_at t) (reverse (earlier_texts t m.id))
      (λ k inside. none_made (is_run_at t m) (λ (x : Run). (k, x)) (runs_of t k) (λ x. apart k x (λ e. let low = earlier_place t hangs m.id text k inside in omega arith)))

  none_back : find (is_run_at t m) back ≡ None
  unfolding back
  none_back =
      none_joined (is_run_at t m) (runs_at t) (later_texts t m.id)
      (λ k inside. none_made (is_run_at t m) (λ (x : Run). (k, x)) (runs_of t k) (λ x. apart k x (λ e. let high = later_place t hangs m.id text k inside in omega arith)))

  own_test : (x : Run) → is_run_at t m (m.id, x) ≡ is_run_of m.offset count x
  own_test x = elim (eqb_tells m.id m.id) [
    | inl (e, same) ↦ ap (λ b. b && is_run_of m.offset (length (words_of t m.id)) x) e ∙ ap (λ n. is_run_of m.offset n x) (sym (long ∙ ap (λ l. length (chars l)) (text_is t m.id r s rec is)))
    | inr (e, other) ↦ absurd (other refl)
  ]

  own_none : (xs : List Run) → find (is_run_of m.offset count) xs ≡ None → find (is_run_at t m) (of_text m.id xs) ≡ None
  own_none xs none =
      find_map (is_run_at t m) (λ (x : Run). (m.id, x)) xs ∙ ap (option_map (λ (x : Run). (m.id, x))) (find_alike (λ x. is_run_at t m (m.id, x)) (is_run_of m.offset count) xs own_test ∙ none)

  -- the text has no run there
  pub line_none : find (is_run_of m.offset count) rs ≡ None → Ok None ≡ answered t m (line_range t m)
  line_none none =
      answer None ∙ ap (answered t m) (sym (ap (stretch_around (is_run_at t m) []) runs_are ∙ stretched_none (is_run_at t m) [] (front ++ (of_text m.id rs ++ back))
      (behind (is_run_at t m) front (of_text m.id rs ++ back) none_front ∙ behind (is_run_at t m) (of_text m.id rs) back (own_none rs none) ∙ none_back)))

  -- it has one
  pub line_some : (own : ℕ) (x : Run) (fronts rests : List Run) (start end : Marker) → slice_get rs own ≡ Some x → find (is_run_of m.offset count) (take own rs) ≡ None → is_run_of m.offset count x ≡ true
      → fronts ≡ take own rs → rests ≡ drop (suc own) rs
      → start ≡ stretch_start x.line (mark m.id x.first) (reverse (of_text m.id fronts) ++ flat_map (λ n. reverse (runs_at t n)) (earlier_texts t m.id))
      → end ≡ stretch_end x.line (mark m.id x.past) (of_text m.id rests ++ flat_map (runs_at t) (later_texts t m.id))
      → Ok (Some (start, end)) ≡ answered t m (line_range t m)
  unfolding front back
  line_some own x fronts rests start end there none holds is_front is_rest starts ends =
      let pre : List (ℕ × Run) = front ++ of_text m.id (take own rs) in
      let split : all_runs t ≡ pre ++ (m.id, x) ∷ (of_text m.id (drop (suc own) rs) ++ back) =
      runs_are ∙ ap (λ l. front ++ (of_text m.id l ++ back)) (parted_at rs own x there)
      ∙ ap (λ l. front ++ (l ++ back)) (map-append (λ (y : Run). (m.id, y)) (take own rs) (x ∷ drop (suc own) rs))
      ∙ ap (λ l. front ++ l) (append_assoc (of_text m.id (take own rs)) ((m.id, x) ∷ of_text m.id (drop (suc own) rs)) back)
      ∙ sym (append_assoc front (of_text m.id (take own rs)) ((m.id, x) ∷ (of_text m.id (drop (suc own) rs) ++ back))) in
      let no : find (is_run_at t m) pre ≡ None = behind (is_run_at t m) front (of_text m.id (take own rs)) none_front ∙ own_none (take own rs) none in
      let turned : reverse pre ++ [] ≡ reverse (of_text m.id (take own rs)) ++ flat_map (λ n. reverse (runs_at t n)) (earlier_texts t m.id) =
      append-nil (reverse pre) ∙ reverse-append front (of_text m.id (take own rs))
      ∙ ap (λ l. reverse (of_text m.id (take own rs)) ++ l) (reverse-flat (runs_at t) (reverse (earlier_texts t m.id)) ∙ ap (flat_map (λ n. reverse (runs_at t n))) (reverse-reverse (earlier_texts t m.id))) in
      let whole : line_range t m ≡ Some (stretch_start x.line (mark m.id x.first) (reverse pre ++ []), stretch_end x.line (mark m.id x.past) (of_text m.id (drop (suc own) rs) ++ back)) =
      ap (stretch_around (is_run_at t m) []) split ∙ stretched (is_run_at t m) [] pre (m.id, x) (of_text m.id (drop (suc own) rs) ++ back) no (own_test x ∙ holds) in
      let starts_so : start ≡ stretch_start x.line (mark m.id x.first) (reverse pre ++ []) =
      starts ∙ ap (λ l. stretch_start x.line (mark m.id x.first) (reverse (of_text m.id l) ++ flat_map (λ n. reverse (runs_at t n)) (earlier_texts t m.id))) is_front ∙ ap (stretch_start x.line (mark m.id x.first)) (sym turned) in
      let ends_so : end ≡ stretch_end x.line (mark m.id x.past) (of_text m.id (drop (suc own) rs) ++ back) =
      ends ∙ ap (λ l. stretch_end x.line (mark m.id x.past) (of_text m.id l ++ flat_map (runs_at t) (later_texts t m.id))) is_rest in
      answer (Some (start, end)) ∙ ap (answered t m) (ap (λ a. Some (a, end)) starts_so ∙ ap (λ b. Some (stretch_start x.line (mark m.id x.first) (reverse pre ++ []), b)) ends_so ∙ sym whole)

  -- the same of what an index reads
  pub line_at : (own j k : ℕ) (d : Run) (start end : Marker) → own < length rs → j ≡ suc own → k + j ≡ length rs → find (is_run_of m.offset count) (take own rs) ≡ None → ((x : Run) → slice_get rs own ≡ Some x → is_run_of m.offset count x ≡ true)
      → start ≡ stretch_start (get_or rs own d).line (mark m.id (get_or rs own d).first) (reverse (of_text m.id (take own rs)) ++ flat_map (λ n. reverse (runs_at t n)) (earlier_texts t m.id))
      → end ≡ stretch_end (get_or rs own d).line (mark m.id (get_or rs own d).past) (of_text m.id (take k (drop j rs)) ++ flat_map (runs_at t) (later_texts t m.id))
      → Ok (Some (start, end)) ≡ answered t m (line_range t m)
  line_at own j k d start end low next all none holds starts ends =
      let size = length-drop j rs in
      let there = slice_get-get_or rs own d low in
      line_some own (get_or rs own d) (take own rs) (take k (drop j rs)) start end there none (holds (get_or rs own d) there) refl (take_all k (drop j rs) (omega arith) ∙ ap (λ n. drop n rs) next) starts ends

-- one more run is not the one
pub not_yet : (q : Run → Bool) (rs : List Run) (own j : ℕ) (d : Run) → own < length rs → j ≡ suc own → find q (take own rs) ≡ None → q (get_or rs own d) ≡ false → find q (take j rs) ≡ None
not_yet q rs own j d low next none fails =
    ap (λ n. find q (take n rs)) next ∙ ap (find q) (take-suc rs own d low) ∙ behind q (take own rs) (get_or rs own d ∷ []) none ∙ skips q (get_or rs own d) [] fails

-- one run more, going back
pub back_more : (line first : ℕ) (id i j : ℕ) (rs : List Run) (x : Run) (start : Marker) (more : List (ℕ × Run)) → j ≡ suc i → slice_get rs i ≡ Some x → x.line ≡ line
    → stretch_start line start (reverse (of_text id (take j rs)) ++ more) ≡ stretch_start line (mark id x.first) (reverse (of_text id (take i rs)) ++ more)
back_more line first id i j rs x start more next is same =
    ap (λ n. stretch_start line start (reverse (of_text id (take n rs)) ++ more)) next ∙ ap (λ l. stretch_start line start (reverse (of_text id l) ++ more)) (last_one rs i is)
    ∙ ap (λ l. stretch_start line start (reverse l ++ more)) (map-append (λ (y : Run). (id, y)) (take i rs) (x ∷ []))
    ∙ ap (λ l. stretch_start line start (l ++ more)) (reverse-append (of_text id (take i rs)) ((id, x) ∷ []))
    ∙ elim (eqb_tells x.line line) [
      | inl (e, yes_it) ↦ ap (λ b. cond b (stretch_start line (mark id x.first) (reverse (of_text id (take i rs)) ++ more)) start) e
      | inr (e, other) ↦ absurd (other same)
    ]
  where
    last_one : (rs : List Run) (i : ℕ) → slice_get rs i ≡ Some x → take (suc i) rs ≡ take i rs ++ x ∷ []
    last_one [] i e = absurd (grind arith)
    last_one (r ∷ rs) zero e = let is : Some r ≡ Some x = e in let same : r ≡ x = cc in ap (λ z. z ∷ []) same
    last_one (r ∷ rs) (suc i) e = ap (λ l. r ∷ l) (last_one rs i e)
