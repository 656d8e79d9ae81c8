use Rattle.std.proofs.Common.{◌≡◌, length}
use Rattle.post_recheck.specs.Pairs.{lists_of}
use Rattle.post_recheck.specs.program_systems.ProgramFacts.{program_with}
use Rattle.certificate_reading.specs.Tables.{EndsAnyTable, EndsTable, FitsBodyTable, lines_of_table}
use Rattle.certificate_reading.proofs.SeriesRead.{AreRowsSoFar}
use Rattle.certificate_reading.proofs.tables.tables_in.Given as goal

-- the tables so far, and the text behind them
abbrev pub invariant-loop-body : goal.invariant-loop-body
invariant-loop-body l = record {
  count : length l.tables.items ≡ l.body;
  far : (let p = program_with l.program l.facts in AreRowsSoFar lines_of_table (FitsBodyTable p) EndsAnyTable EndsTable
      (length p.bodies) l.fn.text (lists_of l.tables.items) l.text);
}
