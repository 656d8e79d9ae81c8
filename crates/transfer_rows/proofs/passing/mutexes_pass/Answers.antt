use Rattle.transfer_rows.proofs.Passes.{lock_passes, unlock_passes, free_passes}
use Rattle.transfer_rows.proofs.passing.mutexes_pass.Goals as goal

pub returns : goal.returns
returns c = record {
  locks = λ around s s' t store temps m le keys h. lock_passes s' t le keys s around store temps m h;
  unlocks = λ around s s' t temps m entry above le keys more h. unlock_passes s' t le keys s around temps m entry above more h;
  finds_free = λ around s s' t store temps m le keys h. free_passes s' t le keys s around store temps m h;
}
