use Rattle.std.proofs.Common.{rules}
use Rattle.std.proofs.lemmas.Str.{chars_from_encodes}
use Rattle.text_marker.proofs.stops.count.Goals as goal

pub returns : goal.returns
returns c = record { value = search (rules, chars_from_encodes) }
