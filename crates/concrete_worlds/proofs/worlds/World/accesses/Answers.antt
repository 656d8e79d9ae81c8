use Rattle.std.proofs.Common.{◌++◌, ap, sym, ◌∙◌, [], ◌∷◌, arith}
use Rattle.std.proofs.lemmas.List.FromFn.{map-range_with_len_more}
use Rattle.concrete_steps.specs.Worlds.{next_at}
use Rattle.concrete_worlds.specs.Views.{laid_of, world_of}
use Rattle.concrete_worlds.specs.reading.Access.{access_of, access_after, accesses_after}
use Rattle.concrete_worlds.proofs.worlds.World.accesses.Goals as goal

pub loop-task-preserved : goal.loop-task-preserved
unfolding access_after next_at
loop-task-preserved c =
    let w = c.args.self.now in
    c.in_ok-push.ensures.items ∙ ap (λ z. z ++ c.access_of.result ∷ []) c.loop-task.invariant
    ∙ ap (λ z. accesses_after (laid_of w) (world_of w).answers c.loop-task.task ++ z ∷ [])
    (c.access_of.ensures ∙ ap access_of c.next_of.ensures)
    ∙ sym (map-range_with_len_more (access_after (laid_of w) (world_of w).answers) 0 c.loop-task.task c.loop-task.task (omega arith))
