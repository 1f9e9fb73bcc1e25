use Rattle.std.proofs.Common.{◌≡◌, ◌∙◌, sym, not, ◌&&◌, rules, tests}
use Rattle.std.proofs.lemmas.Result.{on_ok_weaker}
use Rattle.ax_names.proofs.Putting.{empty_length, words_then}
use Rattle.ax_names.proofs.front.Front.put_words.Goals as goal

pub returns : goal.returns
returns c =
    let wanted : c.if-white.put_gap ≡ (c.args.white && not c.is_empty-bare.result) = search (rules, tests) in
    on_ok_weaker c.put_all.result
    (λ e. words_then c.args.self.now c.put_gap.new.self _ c.args.words.now.words c.args.white c.is_empty-bare.result c.if-white.put_gap (c.is_empty-bare.ensures ∙ sym (empty_length c.args.words.now.words)) wanted c.in_ok-put_gap.ensures e) c.put_all.ensures
