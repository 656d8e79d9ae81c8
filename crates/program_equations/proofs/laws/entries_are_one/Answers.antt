use Rattle.program_equations.specs.laws.Sections.{section_is_one, entry_is_one}
use Rattle.program_equations.specs.laws.Tables.{table_is_one, pass_is_one, least_pass_is}
use Rattle.program_equations.proofs.laws.entries_are_one.Goals as goal

pub returns : goal.returns
returns c = record {
  sections = λ p is section first has. section_is_one p is has section (first has);
  entries = entry_is_one;
  tables = table_is_one;
  passes = pass_is_one;
  least_passes = least_pass_is;
}
