use Rattle.std.proofs.Common.{◌∙◌}
use Rattle.tm_laid.specs.Layouts.{laid_tree}
use Rattle.body_systems.specs.program_equations.Readings.{read_layout}
use Rattle.entry_states.proofs.States.{first_listed}
use Rattle.entry_states.proofs.entries.first_state.Goals as goal

pub returns : goal.returns
returns c =
    c.in_ok-first.ensures
    ∙ first_listed (read_layout (laid_tree c.args.laid.now)) c.args.body c.args.values.now c.requires.values
