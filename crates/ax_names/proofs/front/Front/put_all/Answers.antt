use Rattle.std.proofs.Common.{◌≡◌, ◌∙◌, ◌++◌, string_bytes, sym, ap, arith}
use Rattle.std.specs.Fmt.{char_count}
use Rattle.ax_names.specs.Pieces.{Opening}
use Rattle.ax_names.proofs.Openings.{count_append, puts_text}
use Rattle.ax_names.proofs.front.Front.put_all.Goals as goal

pub invariant_of-self-then-words-self : goal.invariant_of-self-then-words-self
invariant_of-self-then-words-self c =
    let same : c.as_str.result.now ≡ string_bytes c.words.inside.string = c.as_str.ensures ∙ sym (ap (λ (o : Opening). o.words) c.words.view_is) in
    let all = ap char_count c.in_ok-push_str.ensures.bytes in
    let both = count_append (string_bytes c.self.inside.string) c.as_str.result.now in
    let added = ap char_count same in
    (omega arith, omega arith)

pub returns-then-words-self : goal.returns-then-words-self
returns-then-words-self c =
    let added = ap char_count (ap (λ (o : Opening). o.words) c.words.view_is) in
    puts_text c.args.self.now (string_bytes c.self.inside.string) c.args.words.now.words (string_bytes c.push_str.new.self) c.self.inside.more c.self.view_is c.if-self.false (omega arith)
    (c.in_ok-push_str.ensures.bytes ∙ ap (λ l. string_bytes c.self.inside.string ++ l) c.as_str.ensures)
