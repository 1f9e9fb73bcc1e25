-- Worked examples: the stories of one item and of five.
use Rattle.std.proofs.Common.{◌≡◌, refl, codes}
use Rattle.std.specs.Fmt.{digits}
use Rattle.story_gen.specs.Generated.{generated}

one_item : generated 1 ≡ codes "{\"insert\":2,\"into\":1,\"tag\":\"ul\"}\n{\"insert\":3,\"into\":2,\"tag\":\"li\"}\n{\"insert\":4,\"into\":3,\"tag\":\"button\"}\n{\"insert\":5,\"into\":4,\"text\":\"Item 1\"}\n{\"start\":1}\n{\"set\":4,\"name\":\"aria-label\",\"value\":\"Item 1 of 1\"}\n{\"ask\":{\"q\":\"name\",\"id\":4}}\n{\"await\":1}\n{\"notices\":true}\n"
unfolding generated digits
one_item = refl
