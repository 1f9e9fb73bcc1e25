use Rattle.std.proofs.Common.{ap, ◌∙◌}
use Rattle.dom_ids.specs.Index.{carriers, namers, labels}
use Rattle.dirty_set.specs.Reaching.{IsTiedTo}
use Rattle.dirty_set.proofs.Reachings.{known_as, only_as, only_listed, only_then, carrier_tied, namer_tied, text_all, text_only}
use Rattle.dirty_set.proofs.reach.climb_text.Goals as goal

pub returns-in_err-climb_all-clause-only : goal.returns-in_err-climb_all-clause-only
returns-in_err-climb_all-clause-only g c =
    let x = c.args.text.now in
    only_listed c.args.dom.now (IsTiedTo c.args.dom.now x) (carriers c.args.dom.now x) c.args.set.now c.climb_all.new.set (carrier_tied c.args.dom.now c.requires.tree x)
    (only_as c.args.dom.now c.carriers.result.now (carriers c.args.dom.now x) c.args.set.now c.climb_all.new.set (c.carriers.ensures c.args.dom.now c.requires.index ∙ ap (carriers c.args.dom.now) c.as_str-id.ensures) c.climb_all.ensures.only)

pub returns-in_err-climb_all-2-clause-only : goal.returns-in_err-climb_all-2-clause-only
returns-in_err-climb_all-2-clause-only g c =
    let x = c.args.text.now in
    only_then c.args.dom.now (IsTiedTo c.args.dom.now x) c.args.set.now c.climb_all.new.set c.climb_all-2.new.set
    (only_listed c.args.dom.now (IsTiedTo c.args.dom.now x) (carriers c.args.dom.now x) c.args.set.now c.climb_all.new.set (carrier_tied c.args.dom.now c.requires.tree x)
    (only_as c.args.dom.now c.carriers.result.now (carriers c.args.dom.now x) c.args.set.now c.climb_all.new.set (c.carriers.ensures c.args.dom.now c.requires.index ∙ ap (carriers c.args.dom.now) c.as_str-id.ensures) c.climb_all.ensures.only))
    (only_listed c.args.dom.now (IsTiedTo c.args.dom.now x) (namers c.args.dom.now x) c.climb_all.new.set c.climb_all-2.new.set (namer_tied c.args.dom.now c.requires.tree x)
    (only_as c.args.dom.now c.namers.result.now (namers c.args.dom.now x) c.climb_all.new.set c.climb_all-2.new.set (c.namers.ensures c.args.dom.now c.requires.index ∙ ap (namers c.args.dom.now) c.as_str-id.ensures) c.climb_all-2.ensures.only))

pub returns-in_err-climb_all-3-clause-only : goal.returns-in_err-climb_all-3-clause-only
returns-in_err-climb_all-3-clause-only g c =
    let x = c.args.text.now in
    text_only c.args.dom.now c.requires.tree x c.args.set.now c.climb_all.new.set c.climb_all-2.new.set c.climb_all-3.new.set
    (only_as c.args.dom.now c.carriers.result.now (carriers c.args.dom.now x) c.args.set.now c.climb_all.new.set (c.carriers.ensures c.args.dom.now c.requires.index ∙ ap (carriers c.args.dom.now) c.as_str-id.ensures) c.climb_all.ensures.only)
    (only_as c.args.dom.now c.namers.result.now (namers c.args.dom.now x) c.climb_all.new.set c.climb_all-2.new.set (c.namers.ensures c.args.dom.now c.requires.index ∙ ap (namers c.args.dom.now) c.as_str-id.ensures) c.climb_all-2.ensures.only)
    (only_as c.args.dom.now c.labels.result.now (labels c.args.dom.now x) c.climb_all-2.new.set c.climb_all-3.new.set (c.labels.ensures c.args.dom.now c.requires.index ∙ ap (labels c.args.dom.now) c.as_str-id.ensures) c.climb_all-3.ensures.only)

pub returns-clause-all : goal.returns-clause-all
returns-clause-all g c =
    let x = c.args.text.now in
    text_all c.args.dom.now c.requires.tree x c.climb_all.new.set c.climb_all-2.new.set c.climb_all-3.new.set
    (known_as c.args.dom.now c.carriers.result.now (carriers c.args.dom.now x) c.climb_all.new.set (c.carriers.ensures c.args.dom.now c.requires.index ∙ ap (carriers c.args.dom.now) c.as_str-id.ensures) c.in_ok-climb_all.ensures.all) c.climb_all-2.ensures.keeps
    (known_as c.args.dom.now c.namers.result.now (namers c.args.dom.now x) c.climb_all-2.new.set (c.namers.ensures c.args.dom.now c.requires.index ∙ ap (namers c.args.dom.now) c.as_str-id.ensures) c.in_ok-climb_all-2.ensures.all) c.climb_all-3.ensures.keeps
    (known_as c.args.dom.now c.labels.result.now (labels c.args.dom.now x) c.climb_all-3.new.set (c.labels.ensures c.args.dom.now c.requires.index ∙ ap (labels c.args.dom.now) c.as_str-id.ensures) c.in_ok-climb_all-3.ensures.all)

pub returns-clause-only : goal.returns-clause-only
returns-clause-only g c =
    let x = c.args.text.now in
    text_only c.args.dom.now c.requires.tree x c.args.set.now c.climb_all.new.set c.climb_all-2.new.set c.climb_all-3.new.set
    (only_as c.args.dom.now c.carriers.result.now (carriers c.args.dom.now x) c.args.set.now c.climb_all.new.set (c.carriers.ensures c.args.dom.now c.requires.index ∙ ap (carriers c.args.dom.now) c.as_str-id.ensures) c.climb_all.ensures.only)
    (only_as c.args.dom.now c.namers.result.now (namers c.args.dom.now x) c.climb_all.new.set c.climb_all-2.new.set (c.namers.ensures c.args.dom.now c.requires.index ∙ ap (namers c.args.dom.now) c.as_str-id.ensures) c.climb_all-2.ensures.only)
    (only_as c.args.dom.now c.labels.result.now (labels c.args.dom.now x) c.climb_all-2.new.set c.climb_all-3.new.set (c.labels.ensures c.args.dom.now c.requires.index ∙ ap (labels c.args.dom.now) c.as_str-id.ensures) c.climb_all-3.ensures.only)
