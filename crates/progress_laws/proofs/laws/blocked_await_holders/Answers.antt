use Rattle.progress_laws.proofs.Holders.{blocked_await_holders}
use Rattle.progress_laws.proofs.laws.blocked_await_holders.Goals as goal

pub returns : goal.returns
returns c = blocked_await_holders
