use Rattle.std.proofs.Common.{◌≡◌, IfOk, subst}
use Rattle.pointer_dom.specs.Values.{joined_values}
use Rattle.interfere_set.proofs.reads.seen_with_task.Goals as goal

pub returns : goal.returns
returns c = subst (λ v. IfOk c.join.result (λ both. both ≡ joined_values c.args.seen.now v)) c.in_ok-more.ensures c.join.ensures
