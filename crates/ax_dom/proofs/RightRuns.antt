-- Texts keep runs that they may have.
use Rattle.std.proofs.Common.{◌≡◌, Bool, true, false, refl, sym}
use Rattle.std.specs.Prelude.{not}
use Rattle.std.proofs.lemmas.Bool.{false≢true}
use Rattle.ax_base.specs.declared.body.Body.{Body}
use Rattle.ax_base.specs.declared.body.Body.TheVariants.{Element, Words}
use Rattle.ax_base.specs.Runs.{KeepsRuns}
use Rattle.ax_dom.specs.declared.edit.Edit.{Edit}
use Rattle.ax_dom.specs.declared.edit.Edit.TheVariants.{InsertElement, InsertText, Remove, Move, Chars, Set, Unset, SetRuns, Frame, Focus}
use Rattle.ax_dom.specs.Bodies.{body_after}
use Rattle.ax_dom.specs.Refusals.{has_wrong_runs}

was_true : (x : Bool) → not x ≡ false → x ≡ true
was_true true e = refl
was_true false e = absurd (false≢true (sym e))

-- an edit whose runs a node may have keeps the runs of that node right; other characters take them away
pub runs_after : (e : Edit) (b : Body) → has_wrong_runs e b ≡ false → KeepsRuns b → KeepsRuns (body_after e b)
runs_after (InsertElement id into before tag attrs) b new old = old
runs_after (InsertText id into before chars) b new old = old
runs_after (Remove id) b new old = old
runs_after (Move id into before) b new old = old
runs_after (Chars id chars) (Element tag attrs frame) new old = old
runs_after (Chars id chars) (Words was runs) new old = refl
runs_after (Set id name value) (Element tag attrs frame) new old = old
runs_after (Set id name value) (Words chars runs) new old = old
runs_after (Unset id name) (Element tag attrs frame) new old = old
runs_after (Unset id name) (Words chars runs) new old = old
runs_after (SetRuns id runs) (Element tag attrs frame) new old = old
runs_after (SetRuns id runs) (Words chars were) new old = was_true _ new
runs_after (Frame id rect) (Element tag attrs frame) new old = old
runs_after (Frame id rect) (Words chars runs) new old = old
runs_after (Focus id) b new old = old
