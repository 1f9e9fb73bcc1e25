-- Rectangles stay within bounds.
use Rattle.std.proofs.Common.{[], arith}
use Rattle.std.proofs.lemmas.Int.{ints}
use Rattle.std.proofs.lemmas.List.Elements.{All-nil}
use Rattle.ax_base.specs.declared.body.Body.{Body}
use Rattle.ax_base.specs.declared.body.Body.TheVariants.{Element, Words}
use Rattle.ax_base.specs.declared.rect.Run.{Run}
use Rattle.ax_base.specs.Rects.{IsWithinBounds, AreRunsWithin, HasRectsWithin}
use Rattle.ax_dom.specs.declared.edit.Edit.{Edit}
use Rattle.ax_dom.specs.declared.edit.Edit.TheVariants.{InsertElement, InsertText, Remove, Move, Chars, Set, Unset, SetRuns, Frame, Focus}
use Rattle.ax_dom.specs.Bodies.{body_after}
use Rattle.ax_dom.specs.Bounds.{EditKeepsBounds}
use Rattle.ax_dom.specs.Changes.{no_frame}

-- no runs
pub no_runs_within : AreRunsWithin []
no_runs_within = All-nil (λ (r : Run). IsWithinBounds r.rect)

-- the frame of a new element
pub no_frame_within : IsWithinBounds no_frame
no_frame_within = (omega (arith, ints), omega (arith, ints), omega (arith, ints), omega (arith, ints), omega (arith, ints), omega (arith, ints))

-- an edit whose rectangles are within bounds keeps those of a node there
pub body_within : (e : Edit) (b : Body) → EditKeepsBounds e → HasRectsWithin b → HasRectsWithin (body_after e b)
body_within (InsertElement id into before tag attrs) b new old = old
body_within (InsertText id into before chars) b new old = old
body_within (Remove id) b new old = old
body_within (Move id into before) b new old = old
body_within (Chars id chars) (Element tag attrs frame) new old = old
body_within (Chars id chars) (Words was runs) new old = no_runs_within
body_within (Set id name value) (Element tag attrs frame) new old = old
body_within (Set id name value) (Words chars runs) new old = old
body_within (Unset id name) (Element tag attrs frame) new old = old
body_within (Unset id name) (Words chars runs) new old = old
body_within (SetRuns id runs) (Element tag attrs frame) new old = old
body_within (SetRuns id runs) (Words chars were) new old = new
body_within (Frame id rect) (Element tag attrs frame) new old = new
body_within (Frame id rect) (Words chars runs) new old = old
body_within (Focus id) b new old = old
