use Rattle.std.specs.List.{flat_map}
use Rattle.std.proofs.lemmas.Result.{on_ok_weaker}
use Rattle.kids_pass.specs.Kids.{given_at}
use Rattle.kids_pass.proofs.Entries.{kept_in}
use Rattle.kids_pass.proofs.Given.{same_kept}
use Rattle.kids_pass.proofs.kept.KeptKids.renew.Goals as goal

pub returns-then-is_kept : goal.returns-then-is_kept
returns-then-is_kept c =
    same_kept c.args.self.now c.args.id c.unsettled-start.result.0 c.args.inclusion c.args.children.now c.if-start-children.true
    c.unsettled-start.ensures.others.before c.unsettled-start.ensures.front (c.is_kept.ensures c.if-is_kept.true)

pub returns : goal.returns
returns c =
    on_ok_weaker c.keep.result
    (λ puts. kept_in c.args.self.now c.keep.new.self c.args.id c.args.inclusion c.in_ok-kids.kids (flat_map (given_at c.args.self.now) c.args.children.now) c.in_ok-kids.ensures.value puts)
    c.keep.ensures
