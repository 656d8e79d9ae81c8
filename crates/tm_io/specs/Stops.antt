-- When a sink may say that it stops: by its count of faults, before a call and after it.
use Rattle.std.specs.Prelude.{◌≡◌, ◌≤◌, ℕ, Result, OnOk, IsErrOf}
use Rattle.tm_io.specs.Faults.{Rose}
use Rattle.tm_io.specs.declared.sinks.Stop.{Stop}
use Rattle.tm_io.specs.declared.sinks.Stop.TheVariants.{Failed, NoMemory}

-- the count never falls, stays where the call succeeds or memory runs out, and rises where the sink fails
pub record HasStopCause {T : Type 0} (old new : ℕ) (result : Result T Stop) : Type 0 where
  pub later : old ≤ new
  pub succeeded : OnOk result (new ≡ old)
  pub no_memory : IsErrOf result NoMemory → new ≡ old
  pub failed : IsErrOf result Failed → Rose old new
