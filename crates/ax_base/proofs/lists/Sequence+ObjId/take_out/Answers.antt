use Rattle.std.proofs.Common.{◌≡◌, ◌==◌, ◌<◌, length, take, filter, not, false, sym, ap, subst, ◌∙◌, arith}
use Rattle.std.specs.Prelude.{slice_index}
use Rattle.std.specs.List.{list_any, remove}
use Rattle.std.proofs.lemmas.List.{take_all}
use Rattle.ax_base.proofs.TakingOut.{none_goes, one_fewer, front_stays}
use Rattle.ax_base.proofs.lists.Sequence+ObjId.take_out.Goals as goal

pub loop-from-preserved-then-from-len : goal.loop-from-preserved-then-from-len
loop-from-preserved-then-from-len c =
    let xs = c.loop-from.self-inside.items.items in
    let ys = c.as_slice.result.now in
    let same : ys ≡ xs = c.as_slice.ensures.value in
    let at = c.first_place-from.result in
    let low : at < length xs = (let test = c.if-from-len.true in let size = c.len-in-loop-from.ensures in omega arith) in
    let taken : c.remove.new.self.items ≡ remove xs at = c.remove.ensures.items in
    let before : list_any (λ x. x == c.args.id) (take at xs) ≡ false =
    ap (λ l. list_any (λ x. x == c.args.id) (take at l)) (sym same) ∙ c.first_place-from.ensures.before (ap (λ l. list_any (λ x. x == c.args.id) (take c.loop-from.from l)) same ∙ c.loop-from.invariant.1) in
    let here = c.first_place-from.ensures.here (subst (λ l. at < length l) (sym same) low) in (
      omega arith,
      ap (λ l. list_any (λ x. x == c.args.id) (take at l)) taken ∙ ap (list_any (λ x. x == c.args.id)) (front_stays xs at low) ∙ before,
      ap (filter (λ x. not (x == c.args.id))) taken ∙ one_fewer c.args.id xs at low (subst (λ l. slice_index l at ≡ c.args.id) same here) ∙ c.loop-from.invariant.2,
    )

pub returns : goal.returns
returns c =
    let xs = c.loop-from.self-inside.items.items in
    let none : list_any (λ x. x == c.args.id) xs ≡ false = ap (list_any (λ x. x == c.args.id)) (sym (take_all c.loop-from.from xs (omega arith))) ∙ c.loop-from.invariant.1 in
    sym (none_goes c.args.id xs none) ∙ c.loop-from.invariant.2
