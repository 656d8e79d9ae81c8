use Rattle.std.proofs.Common.{ap, ◌∙◌, length, []}
use Rattle.tm_laid.specs.Layouts.{laid_tree}
use Rattle.concrete_steps.specs.NextAction.{next}
use Rattle.concrete_steps.specs.Worlds.{settled}
use Rattle.concrete_worlds.specs.Held.{first_mutexes}
use Rattle.concrete_worlds.specs.Views.{standing_of}
use Rattle.concrete_worlds.proofs.Sets.{set_empty}
use Rattle.concrete_worlds.proofs.starts.start_standing.Goals as goal

pub returns : goal.returns
returns c =
    c.settled.ensures
    ∙ ap (λ a. settled (laid_tree c.args.laid.now) c.args.task a (standing_of (length c.args.laid.now.file.mutexes.items) (record { priority = c.args.priority; status = c.args.status; held = c.none.result }))) c.first_action.ensures
    ∙ ap (λ h. settled (laid_tree c.args.laid.now) c.args.task (next (laid_tree c.args.laid.now) c.args.task []) (record { priority = c.args.priority; status = c.args.status; held = h }))
    (ap (first_mutexes (length c.args.laid.now.file.mutexes.items)) c.none.ensures ∙ set_empty c.args.laid.now.file.mutexes.items)
