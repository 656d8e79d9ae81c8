use Rattle.request_circles.proofs.Same.{one_list}
use Rattle.lock_waits.specs.Waits.{IsRequest}
use Rattle.lock_waits.proofs.laws.waits_are_one.Goals as goal

pub returns : goal.returns
returns c = λ p tables one other h k. one_list (IsRequest p tables) one other h k
