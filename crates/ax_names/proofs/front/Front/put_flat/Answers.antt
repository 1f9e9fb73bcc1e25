use Rattle.std.proofs.Common.{◌∙◌, ap, sym}
use Rattle.std.proofs.lemmas.Result.{on_ok_weaker}
use Rattle.ax_names.specs.Pieces.{followed}
use Rattle.ax_names.proofs.Evenly.{even_is}
use Rattle.ax_names.proofs.front.Front.put_flat.Goals as goal

pub returns-then-is_evenly_spaced : goal.returns-then-is_evenly_spaced
returns-then-is_evenly_spaced c =
    let old = c.args.self.now in
    on_ok_weaker c.put_even.result (λ e. e ∙ ap (followed old) (even_is old.words c.args.white c.args.text.now (sym c.is_evenly_spaced.ensures ∙ c.if-is_evenly_spaced.true))) c.put_even.ensures
