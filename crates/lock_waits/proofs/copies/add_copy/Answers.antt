use Rattle.std.proofs.lemmas.Result.{on_ok_weaker}
use Rattle.lock_waits.proofs.Asking.{asked_some}
use Rattle.lock_waits.proofs.copies.add_copy.Goals as goal

pub returns-in-Some : goal.returns-in-Some
returns-in-Some c =
    on_ok_weaker c.push_request.result
    (λ h r. asked_some c.request_of.result _ c.in-Some.request r c.request_of.ensures c.in-Some.is (h r))
    c.push_request.ensures
