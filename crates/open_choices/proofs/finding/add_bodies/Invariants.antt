use Rattle.tm_laid.specs.Layouts.{laid_tree}
use Rattle.text_choices.specs.Choices.{Adds}
use Rattle.post_recheck.specs.program_equations.Solutions.{tables_of}
use Rattle.post_recheck.specs.program_systems.ProgramFacts.{program_with}
use Rattle.post_recheck.specs.Pairs.{lists_of}
use Rattle.open_choices.specs.reading.Found.{IsOfNumber}
use Rattle.open_choices.specs.reading.Noted.{IsOfNoted}
use Rattle.open_choices.proofs.finding.add_bodies.Given as goal

abbrev pub invariant-loop-number : goal.invariant-loop-number
invariant-loop-number l = Adds l.initial.choices.items l.choices.items (IsOfNumber (IsOfNoted
    (laid_tree l.program.laid) (program_with l.program l.facts) (tables_of (lists_of l.tables)) l.store l.origins)
    l.number)
