-- The values that rectangles and runs are made of.
use Rattle.std.proofs.Common.{◌≡◌, ◌<◌, ◌≤◌, List, [], ◌∷◌, ◌++◌, length, get_or, Some, None, refl, arith}
use Rattle.serde_json.specs.declared.value.Value.{Value}
use Rattle.serde_json.specs.View.{view, items_view}
use Rattle.ax_base.specs.declared.rect.Run.{Run}
use Rattle.story_lines.specs.Runs.{rect_by, rect, run_by, run, run_in, runs}
use Rattle.story_lines.proofs.Gathered.{after, after_one}

pub too_few_for_rect : (vs : List Value) → length vs < 4 → None ≡ rect (items_view vs)
too_few_for_rect [] h = refl
too_few_for_rect (a ∷ []) h = refl
too_few_for_rect (a ∷ b ∷ []) h = refl
too_few_for_rect (a ∷ b ∷ c ∷ []) h = refl
too_few_for_rect (a ∷ b ∷ c ∷ d ∷ vs) h = absurd (omega arith)

pub too_many_for_rect : (vs : List Value) → 4 < length vs → None ≡ rect (items_view vs)
too_many_for_rect [] h = refl
too_many_for_rect (a ∷ []) h = refl
too_many_for_rect (a ∷ b ∷ []) h = refl
too_many_for_rect (a ∷ b ∷ c ∷ []) h = refl
too_many_for_rect (a ∷ b ∷ c ∷ d ∷ []) h = absurd (omega arith)
too_many_for_rect (a ∷ b ∷ c ∷ d ∷ e ∷ vs) h = refl

pub too_few_for_run : (vs : List Value) → length vs < 7 → None ≡ run (items_view vs)
too_few_for_run [] h = refl
too_few_for_run (a ∷ []) h = refl
too_few_for_run (a ∷ b ∷ []) h = refl
too_few_for_run (a ∷ b ∷ c ∷ []) h = refl
too_few_for_run (a ∷ b ∷ c ∷ d ∷ []) h = refl
too_few_for_run (a ∷ b ∷ c ∷ d ∷ e ∷ []) h = refl
too_few_for_run (a ∷ b ∷ c ∷ d ∷ e ∷ f ∷ []) h = refl
too_few_for_run (a ∷ b ∷ c ∷ d ∷ e ∷ f ∷ g ∷ vs) h = absurd (omega arith)

pub too_many_for_run : (vs : List Value) → 7 < length vs → None ≡ run (items_view vs)
too_many_for_run [] h = refl
too_many_for_run (a ∷ []) h = refl
too_many_for_run (a ∷ b ∷ []) h = refl
too_many_for_run (a ∷ b ∷ c ∷ []) h = refl
too_many_for_run (a ∷ b ∷ c ∷ d ∷ []) h = refl
too_many_for_run (a ∷ b ∷ c ∷ d ∷ e ∷ []) h = refl
too_many_for_run (a ∷ b ∷ c ∷ d ∷ e ∷ f ∷ []) h = refl
too_many_for_run (a ∷ b ∷ c ∷ d ∷ e ∷ f ∷ g ∷ []) h = absurd (omega arith)
too_many_for_run (a ∷ b ∷ c ∷ d ∷ e ∷ f ∷ g ∷ i ∷ vs) h = refl

-- a run is made of its seven values
pub seven_for_run : (vs : List Value) → 7 ≤ length vs → length vs < 8 → (first past line x y w h : Value)
    → first ≡ get_or vs 0 first → past ≡ get_or vs 1 past → line ≡ get_or vs 2 line → x ≡ get_or vs 3 x → y ≡ get_or vs 4 y → w ≡ get_or vs 5 w → h ≡ get_or vs 6 h
    → run_by (view first) (view past) (view line) (rect_by (view x) (view y) (view w) (view h)) ≡ run (items_view vs)
seven_for_run [] least most first past line x y w h e0 e1 e2 e3 e4 e5 e6 = absurd (omega arith)
seven_for_run (a ∷ []) least most first past line x y w h e0 e1 e2 e3 e4 e5 e6 = absurd (omega arith)
seven_for_run (a ∷ b ∷ []) least most first past line x y w h e0 e1 e2 e3 e4 e5 e6 = absurd (omega arith)
seven_for_run (a ∷ b ∷ c ∷ []) least most first past line x y w h e0 e1 e2 e3 e4 e5 e6 = absurd (omega arith)
seven_for_run (a ∷ b ∷ c ∷ d ∷ []) least most first past line x y w h e0 e1 e2 e3 e4 e5 e6 = absurd (omega arith)
seven_for_run (a ∷ b ∷ c ∷ d ∷ e ∷ []) least most first past line x y w h e0 e1 e2 e3 e4 e5 e6 = absurd (omega arith)
seven_for_run (a ∷ b ∷ c ∷ d ∷ e ∷ f ∷ []) least most first past line x y w h e0 e1 e2 e3 e4 e5 e6 = absurd (omega arith)
seven_for_run (a ∷ b ∷ c ∷ d ∷ e ∷ f ∷ g ∷ []) least most first past line x y w h e0 e1 e2 e3 e4 e5 e6 =
    let s0 : first ≡ a = e0 in
    let s1 : past ≡ b = e1 in
    let s2 : line ≡ c = e2 in
    let s3 : x ≡ d = e3 in
    let s4 : y ≡ e = e4 in
    let s5 : w ≡ f = e5 in
    let s6 : h ≡ g = e6 in
    cc
seven_for_run (a ∷ b ∷ c ∷ d ∷ e ∷ f ∷ g ∷ i ∷ vs) least most first past line x y w h e0 e1 e2 e3 e4 e5 e6 = absurd (omega arith)

-- a value that is a run goes to those that are done
pub next_run : (done : List Run) (value : Value) (vs : List Value) (r : Run) → run_in (view value) ≡ Some r → after done (runs (items_view (value ∷ vs))) ≡ after (done ++ r ∷ []) (runs (items_view vs))
next_run done value vs r is = rw is (after_one done r (runs (items_view vs)))
