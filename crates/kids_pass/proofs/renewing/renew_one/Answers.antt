use Rattle.std.proofs.Common.{refl}
use Rattle.std.specs.List.{flat_map}
use Rattle.std.proofs.lemmas.Result.{on_ok_weaker}
use Rattle.kids_pass.specs.Kids.{given_at}
use Rattle.kids_pass.proofs.Entries.{right_here, right_still}
use Rattle.kids_pass.proofs.Gathering.{all_gathered, made, made_right}
use Rattle.kids_pass.proofs.renewing.renew_one.Goals as goal

pub returns-clause-here : goal.returns-clause-here
returns-clause-here g c =
    let d = c.args.dom.now in
    let list = flat_map (given_at c.args.kids.now) c.children-children.result.now in
    let gathers = all_gathered d c.requires.tree c.args.id c.children-children.result.now list c.args.kids.now c.children-children.ensures.value c.requires.children refl in
    let right = made_right d c.args.id c.inclusion_of-inclusion.result list c.inclusion_of-inclusion.ensures.value gathers in
    on_ok_weaker c.renew.result (λ puts. right_here c.args.kids.now c.renew.new.self c.args.id (made c.inclusion_of-inclusion.result list) puts d right) c.renew.ensures

pub returns-clause-keeps : goal.returns-clause-keeps
returns-clause-keeps g c =
    let d = c.args.dom.now in
    let list = flat_map (given_at c.args.kids.now) c.children-children.result.now in
    let gathers = all_gathered d c.requires.tree c.args.id c.children-children.result.now list c.args.kids.now c.children-children.ensures.value c.requires.children refl in
    let right = made_right d c.args.id c.inclusion_of-inclusion.result list c.inclusion_of-inclusion.ensures.value gathers in
    on_ok_weaker c.renew.result (λ puts. right_still c.args.kids.now c.renew.new.self c.args.id (made c.inclusion_of-inclusion.result list) puts d right) c.renew.ensures
