use Rattle.std.proofs.Common.{◌∙◌}
use Rattle.operand_orders.specs.reading.Views.{solved}
use Rattle.open_choices.proofs.Unsets.{same_test}
use Rattle.open_choices.proofs.Marked.{enumerated}
use Rattle.open_choices.proofs.enumerations.stores_enumerated.Goals as goal

pub returns : goal.returns
returns c =
    same_test c.marks_one.result c.marks_one.ensures
    (enumerated (solved c.args.view) c.args.state.now c.args.scalar c.args.address c.as_slice.result.now
    (c.as_slice.ensures ∙ c.in_ok-targets.ensures) c.args.marks.now c.requires)
