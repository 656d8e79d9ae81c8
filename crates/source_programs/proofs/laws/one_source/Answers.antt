use Rattle.source_programs.proofs.LargeScale.{large_accepts_more}
use Rattle.source_programs.proofs.OneSource.{none_is_both, one_program, one_refusal}
use Rattle.source_programs.proofs.laws.one_source.Goals as goal

pub returns-clause-apart : goal.returns-clause-apart
returns-clause-apart c = none_is_both

pub returns-clause-program : goal.returns-clause-program
returns-clause-program c = one_program

pub returns-clause-refusal : goal.returns-clause-refusal
returns-clause-refusal c = one_refusal

pub returns-clause-more : goal.returns-clause-more
returns-clause-more c = large_accepts_more
