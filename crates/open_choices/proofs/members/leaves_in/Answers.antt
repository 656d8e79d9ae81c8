use Rattle.strided_dom.specs.Progression.{Has}
use Rattle.operand_orders.specs.reading.Views.{solved}
use Rattle.open_choices.proofs.Searching.{not_found}
use Rattle.open_choices.proofs.Numbers.{none_at_all}
use Rattle.open_choices.proofs.members.leaves_in.Goals as goal

pub returns-in-None : goal.returns-in-None
returns-in-None c =
    not_found (none_at_all c.args.offsets.now (solved c.args.view) c.args.object c.args.target (Has c.args.steps.now)
    c.in-None.ensures)
