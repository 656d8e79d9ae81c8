use Rattle.interfere_set.specs.laws.Hearing.{visible_upper, visible_rises}
use Rattle.interfere_set.proofs.laws.visible_entries.Goals as goal

pub returns : goal.returns
returns c = record {
  upper = λ reader fresh cell j l store written cells v is at_j at_l at_x shows. visible_upper reader cell fresh store j l written cells v is.weak at_j at_l at_x shows;
  rises = λ reader fresh fresh' cell store other is is' below fewer. visible_rises reader cell fresh fresh' fewer store other is is' below;
}
