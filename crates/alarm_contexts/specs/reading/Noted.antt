-- A flaw that is noted.
use Rattle.std.specs.Prelude.{◌≡◌, ℕ, Bool, true}
use Rattle.alarm_contexts.specs.declared.flaws.Flaw.{Flaw}
use Rattle.alarm_contexts.specs.declared.flaws.ObjectFlaw.{ObjectFlaw}

-- it is noted, and this is it
pub record IsNotedFlaw (object : ℕ) (flaw : Flaw) (noted : Bool) (f : ObjectFlaw) : Type 0 where
  pub noted_it : noted ≡ true
  pub is : f ≡ record { object = object; flaw = flaw }
