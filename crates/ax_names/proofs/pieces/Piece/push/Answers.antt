use Rattle.std.proofs.Common.{◌∙◌, ◌≡◌, ◌||◌, ◌&&◌, not, Bool, ap, rules, tests}
use Rattle.ax_names.specs.Pieces.{Phrase, is_empty, begins_white, ends_white, piece_of, joined}
use Rattle.ax_names.proofs.Joining.{pushed}
use Rattle.ax_names.proofs.Putting.{empty_length}
use Rattle.ax_names.proofs.pieces.Piece.push.Goals as goal

pub returns : goal.returns
returns c =
    let old = c.self.inside in
    let starts : c.if-self.self ≡ (old.starts || (is_empty old.words.words && begins_white c.args.text.now)) = search (rules, tests) in
    let ends : c.if-not-has_more.self ≡ (not c.put_flat.new.self.more && (ends_white c.args.text.now || (c.is_empty-nothing.result && old.ends))) = search (rules, tests) in
    pushed old.words old.starts old.ends c.args.text.now _ _ _ c.in_ok-put_flat.ensures starts
    (ends ∙ ap (λ (e : Bool). not c.put_flat.new.self.more && (ends_white c.args.text.now || (e && old.ends))) (c.is_empty-nothing.ensures ∙ empty_length c.args.text.now))
    ∙ ap (λ (p : Phrase). joined p (piece_of c.args.text.now)) c.self.view_is
