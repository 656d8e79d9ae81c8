use Rattle.std.proofs.Common.{◌≡◌, ◌≤◌, true, length, get_or, subst, arith}
use Rattle.std.proofs.lemmas.List.{get_or_default}
use Rattle.path_origins.specs.declared.origins.Passing.{Passing}
use Rattle.path_origins.specs.declared.origins.Passed.TheVariants as Passes
use Rattle.text_choices.specs.Choices.{Adds}
use Rattle.open_choices.specs.reading.Found.{IsNew, IsPassed, IsOfSome}
use Rattle.open_choices.proofs.ChoiceLists.{added_some, added_whole}
use Rattle.open_choices.proofs.passings.add_passings.Goals as goal

abbrev nothing : Passing
nothing = record { place = record { line = 0; col = 0 }; passed = Passes.Pointer }

pub loop-passing-preserved : goal.loop-passing-preserved
loop-passing-preserved c =
    let xs = c.deref-passing-items.result.now in
    let i = c.loop-passing.passing-index in
    let x = get_or xs i nothing in
    let old = c.loop-passing.choices.items in
    let new = c.add_if.new.choices.items in
    added_some IsPassed xs c.args.choices.now.items old new i x c.loop-passing-test.true
    (get_or_default xs i nothing x c.loop-passing-test.true) c.loop-passing.invariant
    (subst (λ kind. Adds old new (IsNew kind x.place (true ≡ true))) c.passed_kind.ensures c.in_ok-add_if.ensures)

pub returns : goal.returns
returns c =
    let xs = c.deref-passing-items.result.now in
    let i = c.loop-passing.passing-index in
    let end : length xs ≤ i = omega arith in
    subst (λ ys. Adds c.args.choices.now.items c.loop-passing.choices.items (IsOfSome IsPassed ys))
    c.deref-passing-items.ensures.value
    (added_whole IsPassed xs c.args.choices.now.items c.loop-passing.choices.items i end c.loop-passing.invariant)
