use Rattle.interfere_set.specs.laws.Hearing.{handed_upper, handed_rises}
use Rattle.interfere_set.proofs.laws.handed_entries.Goals as goal

pub returns : goal.returns
returns c = record {
  upper = λ task mutex cell j store left cells v is at_j at_m at_x other. handed_upper task mutex cell store j left cells v is.sync at_j at_m at_x other;
  rises = λ task mutex cell store other is is' below. handed_rises task mutex cell store other is is' below;
}
