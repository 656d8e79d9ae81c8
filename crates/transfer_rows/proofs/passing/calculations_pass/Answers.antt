use Rattle.transfer_rows.proofs.Passes.{calculation_passes, yield_passes, held_passes}
use Rattle.transfer_rows.proofs.passing.calculations_pass.Goals as goal

pub returns : goal.returns
returns c = record {
  calculations = λ s s' t temps temps' le keys h. calculation_passes s' t le keys s temps temps' h;
  waiting = λ s s' t temps le keys h. yield_passes s' t le keys s temps h;
  finds_held = λ s s' t temps temps' le keys h. held_passes s' t le keys s temps temps' h;
}
