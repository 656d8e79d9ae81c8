-- What a check answers.
use Rattle.std.specs.Prelude.{◌≡◌}
use Rattle.shared_programs.specs.program_equations.Programs.{ProgramBodies}
use Rattle.shared_programs.specs.program_equations.Solutions.{IsPair, IsUncoveredAt, IsUncoveredStore}
use Rattle.post_recheck.specs.Pairs.{Pair}
use Rattle.post_recheck.specs.declared.solutions.Checked.{Checked}
use Rattle.post_recheck.specs.declared.solutions.Checked.TheVariants as Answers

-- The answer: the pair that was given, where it is a solution; else the first edge that is not covered, by the number
-- of its body and then its own, where 0 is the entry; else, that the store is not covered.
abbrev pub IsAnswer : ProgramBodies → Pair → Checked → Type 0
IsAnswer p pair (Answers.Solution solution) = IsPair p pair.tables pair.store × (solution ≡ pair)
IsAnswer p pair (Answers.Uncovered body edge) = IsUncoveredAt p pair.tables pair.store body edge
IsAnswer p pair Answers.UncoveredStore = IsUncoveredStore p pair.tables pair.store
