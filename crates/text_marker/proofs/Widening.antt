-- Bounds that are widened run by run.
use Rattle.std.proofs.Common.{◌≡◌, ℕ, List, [], ◌∷◌, ◌++◌, length, map, filter, Bool, true, false, cond, eqb, refl, sym, ap, ◌∙◌}
use Rattle.std.specs.Prelude.{Option, Some, None, Ok, fold}
use Rattle.std.specs.List.{flat_map}
use Rattle.std.specs.Option.{option_map_or, unwrap_or}
use Rattle.std.specs.Str.{chars}
use Rattle.ax_ask.specs.declared.requests.Marker.{Marker}
use Rattle.ax_base.specs.declared.rect.Rect.{Rect}
use Rattle.ax_base.specs.declared.rect.Run.{Run}
use Rattle.ax_base.specs.Rects.{unite}
use Rattle.ax_record.specs.declared.record.Record.{Record}
use Rattle.ax_record.specs.Tree.{Tree, record_at}
use Rattle.text_order.specs.Texts.{later_texts}
use Rattle.text_marker.specs.Lines.{runs_of}
use Rattle.text_marker.specs.Ranges.{lesser, greater, low_of, high_of, range_runs, range_texts, up_to, shares, least_rect, widened, bounds_between, range_bounds}
use Rattle.text_marker.specs.Answers.{refusal_of_both, unless, answered_both}
use Rattle.text_marker.proofs.Texts.{text_is}

widened_join : (o : Option Rect) (xs ys : List Run) → widened o (xs ++ ys) ≡ widened (widened o xs) ys
widened_join o [] ys = refl
widened_join o (x ∷ xs) ys = widened_join (Some (option_map_or (λ (b : Rect). unite b x.rect) o x.rect)) xs ys

widened_some : (b : Rect) (rs : List Run) → widened (Some b) rs ≡ Some (fold unite b (map (λ (x : Run). x.rect) rs))
widened_some b [] = refl
widened_some b (r ∷ rs) = widened_some (unite b r.rect) rs

-- bounds from nothing on are the least rectangle
least_is : (rs : List Run) → widened None rs ≡ least_rect rs
least_is [] = refl
least_is (r ∷ rs) = widened_some r.rect rs

-- a run that shares a character, or does not
pub run_taken : (low high : ℕ) (b : Bool) (r : Run) (o : Option Rect) (u : Rect) (more : List Run) → b ≡ shares low high r → b ≡ true → u ≡ option_map_or (λ (b : Rect). unite b r.rect) o r.rect
    → widened o (filter (shares low high) (r ∷ more)) ≡ widened (Some u) (filter (shares low high) more)
run_taken low high b r o u more is holds e =
    ap (λ c. widened o (cond c (r ∷ filter (shares low high) more) (filter (shares low high) more))) (sym is ∙ holds) ∙ ap (λ v. widened (Some v) (filter (shares low high) more)) (sym e)

pub run_left : (low high : ℕ) (b : Bool) (r : Run) (o : Option Rect) (more : List Run) → b ≡ shares low high r → b ≡ false → widened o (filter (shares low high) (r ∷ more)) ≡ widened o (filter (shares low high) more)
run_left low high b r o more is fails = ap (λ c. widened o (cond c (r ∷ filter (shares low high) more) (filter (shares low high) more))) (sym is ∙ fails)

-- the runs of a text, by where its part begins and ends
pub text_widened : (t : Tree) (a b : Marker) (n low high count : ℕ) (r : Record) (s : List ℕ) (rs : List Run) (o u : Option Rect) → Some r ≡ record_at t n → s ≡ unwrap_or r.text [] → rs ≡ r.runs → count ≡ length (chars s) → low ≡ low_of a n
    → high ≡ cond (eqb n b.id) b.offset count → u ≡ widened o (filter (shares low high) rs) → u ≡ widened o (range_runs t a b n)
text_widened t a b n low high count r s rs o u rec is runs long lows highs e =
    let ends : high ≡ high_of t b n = highs ∙ ap (λ k. cond (eqb n b.id) b.offset k) (long ∙ ap (λ l. length (chars l)) (text_is t n r s rec is)) in
    let own : rs ≡ runs_of t n = runs ∙ ap (λ x. option_map_or (λ (y : Record). y.runs) x []) rec in
    e ∙ ap (λ k. widened o (filter (shares k high) rs)) lows ∙ ap (λ k. widened o (filter (shares (low_of a n) k) rs)) ends ∙ ap (λ l. widened o (filter (shares (low_of a n) (high_of t b n)) l)) own

module _ (t : Tree) (a b : Marker) (n : ℕ) (later ns : List ℕ) (is : later ≡ n ∷ ns) (o u whole : Option Rect) (wide : u ≡ widened o (range_runs t a b n))
    (sofar : whole ≡ widened o (flat_map (range_runs t a b) (up_to b.id later))) where
  step : (e : Bool) → eqb n b.id ≡ e → whole ≡ widened u (flat_map (range_runs t a b) (cond e [] (up_to b.id ns)))
  step e tells =
      sofar ∙ ap (λ l. widened o (flat_map (range_runs t a b) (up_to b.id l))) is ∙ ap (λ c. widened o (range_runs t a b n ++ flat_map (range_runs t a b) (cond c [] (up_to b.id ns)))) tells
      ∙ widened_join o (range_runs t a b n) (flat_map (range_runs t a b) (cond e [] (up_to b.id ns))) ∙ ap (λ v. widened v (flat_map (range_runs t a b) (cond e [] (up_to b.id ns)))) (sym wide)

  -- one more text, which is the last one
  pub widened_last : eqb n b.id ≡ true → u ≡ whole
  widened_last e = sym (step true e)

  -- or is not
  pub widened_more : eqb n b.id ≡ false → whole ≡ widened u (flat_map (range_runs t a b) (up_to b.id ns))
  widened_more e = step false e

-- none is left
pub widened_none : (t : Tree) (a b : Marker) (later : List ℕ) (o whole : Option Rect) → later ≡ [] → whole ≡ widened o (flat_map (range_runs t a b) (up_to b.id later)) → o ≡ whole
widened_none t a b later o whole is sofar = sym (sofar ∙ ap (λ l. widened o (flat_map (range_runs t a b) (up_to b.id l))) is)

module _ (t : Tree) (a b : Marker) (o : Option Rect) (first : o ≡ widened None (range_runs t a b a.id)) where
  all_texts : (e : Bool) → eqb a.id b.id ≡ e → bounds_between t a b ≡ widened o (flat_map (range_runs t a b) (cond e [] (up_to b.id (later_texts t a.id))))
  all_texts e tells =
      sym (least_is (flat_map (range_runs t a b) (range_texts t a b))) ∙ ap (λ c. widened None (range_runs t a b a.id ++ flat_map (range_runs t a b) (cond c [] (up_to b.id (later_texts t a.id))))) tells
      ∙ widened_join None (range_runs t a b a.id) (flat_map (range_runs t a b) (cond e [] (up_to b.id (later_texts t a.id))))
      ∙ ap (λ v. widened v (flat_map (range_runs t a b) (cond e [] (up_to b.id (later_texts t a.id))))) (sym first)

  -- the range has one text
  pub bounds_one : eqb a.id b.id ≡ true → o ≡ bounds_between t a b
  bounds_one e = sym (all_texts true e)

  -- or more
  pub bounds_more : (u : Option Rect) → eqb a.id b.id ≡ false → u ≡ widened o (flat_map (range_runs t a b) (up_to b.id (later_texts t a.id))) → u ≡ bounds_between t a b
  bounds_more u e more = more ∙ sym (all_texts false e)

-- what is answered of two markers that are not refused
pub bounds_answered : (t : Tree) (a b low high : Marker) (u : Option Rect) → refusal_of_both t a b ≡ None → low ≡ lesser t a b → high ≡ greater t a b → u ≡ bounds_between t low high → Ok u ≡ answered_both t a b (Ok (range_bounds t a b))
bounds_answered t a b low high u stand lows highs e =
    ap (λ v. Ok v) (e ∙ ap (λ m. bounds_between t m high) lows ∙ ap (bounds_between t (lesser t a b)) highs) ∙ sym (ap (λ x. unless x (Ok (range_bounds t a b))) stand)
