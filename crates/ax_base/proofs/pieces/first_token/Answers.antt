use Rattle.std.proofs.lemmas.Str.Ascii.{trim_ascii_start_is}
use Rattle.ax_base.proofs.FirstTokens.{no_token, some_left, none_over, token_split, shorter_split, piece_boundary, len_of}
use Rattle.ax_base.proofs.pieces.first_token.Goals as goal

pub split_at-requires : goal.split_at-requires
split_at-requires c = rw (len_of _ _ _ c.piece_len-len.ensures c.as_bytes.ensures.value) (piece_boundary c.trim_ascii_start-rest.result.now)

pub returns-clause-tokens : goal.returns-clause-tokens
returns-clause-tokens c =
    token_split c.args.text.now c.trim_ascii_start-rest.result.now _ _ c.piece_len-len.result (trim_ascii_start_is _ _ c.trim_ascii_start-rest.ensures.value) (some_left _ _ c.is_empty.ensures c.if-is_empty.false) (len_of _ _ _ c.piece_len-len.ensures c.as_bytes.ensures.value)
    c.split_at.ensures.front c.split_at.ensures.back

pub returns-clause-less : goal.returns-clause-less
returns-clause-less c =
    shorter_split c.args.text.now c.trim_ascii_start-rest.result.now _ c.piece_len-len.result (trim_ascii_start_is _ _ c.trim_ascii_start-rest.ensures.value) (some_left _ _ c.is_empty.ensures c.if-is_empty.false) (len_of _ _ _ c.piece_len-len.ensures c.as_bytes.ensures.value) c.split_at.ensures.back

pub returns-then-is_empty-clause-tokens : goal.returns-then-is_empty-clause-tokens
returns-then-is_empty-clause-tokens c =
    no_token c.args.text.now c.trim_ascii_start-rest.result.now (trim_ascii_start_is _ _ c.trim_ascii_start-rest.ensures.value) (none_over _ _ c.is_empty.ensures c.if-is_empty.true)

pub returns-then-is_empty-clause-less : goal.returns-then-is_empty-clause-less
returns-then-is_empty-clause-less c =
    no_token c.args.text.now c.trim_ascii_start-rest.result.now (trim_ascii_start_is _ _ c.trim_ascii_start-rest.ensures.value) (none_over _ _ c.is_empty.ensures c.if-is_empty.true)
