use Rattle.std.proofs.Common.{◌≤◌, length, get_or, arith}
use Rattle.std.proofs.lemmas.List.{get_or_default}
use Rattle.std.proofs.lemmas.List.Elements.{Contains-get_or}
use Rattle.open_choices.proofs.Searching.{is_found, not_found, not_so}
use Rattle.open_choices.proofs.Unsets.{no_life, uninitialised_more, uninitialised_all}
use Rattle.open_choices.proofs.unset.are_uninitialised.Goals as goal

pub returns-then-not-is_uninitialised : goal.returns-then-not-is_uninitialised
returns-then-not-is_uninitialised c =
    let xs = c.args.lives.now in
    let i = c.loop-life.life-index in
    not_found (λ all. not_so c.is_uninitialised.result c.is_uninitialised.ensures c.if-not-is_uninitialised.true
    (all (get_or xs i no_life) (Contains-get_or xs i no_life c.loop-life-test.true)))

pub loop-life-preserved : goal.loop-life-preserved
loop-life-preserved c =
    let xs = c.args.lives.now in
    let i = c.loop-life.life-index in
    let life = get_or xs i no_life in
    uninitialised_more c.args.edge xs i life c.loop-life-test.true
    (get_or_default xs i no_life life c.loop-life-test.true) c.loop-life.invariant
    (c.is_uninitialised.ensures.0 c.if-not-is_uninitialised.false)

pub returns : goal.returns
returns c =
    let end : length c.args.lives.now ≤ c.loop-life.life-index = omega arith in
    is_found (uninitialised_all c.args.edge c.args.lives.now c.loop-life.life-index end c.loop-life.invariant)
