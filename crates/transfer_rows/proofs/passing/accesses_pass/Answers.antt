use Rattle.transfer_rows.proofs.Passes.{load_passes, store_passes, clear_passes}
use Rattle.transfer_rows.proofs.passing.accesses_pass.Goals as goal

pub returns : goal.returns
returns c = record {
  loads = λ around s s' t temps u x w le keys h. load_passes s' t le keys s around temps u x w h;
  stores = λ around s s' t temps x w entry above le keys more h. store_passes s' t le keys s around temps x w entry above more h;
  clearings = λ around s s' t temps cleared le keys h. clear_passes s' t le keys s around temps cleared h;
}
