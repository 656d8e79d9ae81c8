use Rattle.std.proofs.Common.{ap, sym, subst, ◌∙◌, List, Option}
use Rattle.program_equality.specs.transfer_rows.StateForms.{State}
use Rattle.program_equality.specs.program_equations.Systems.{task_entry}
use Rattle.program_systems.specs.ProgramFacts.{program_with}
use Rattle.program_systems.proofs.Bodies.{is_program, is_program_of}
use Rattle.thread_pass.specs.Analyses.{AreProgramSlots}
use Rattle.thread_pass.proofs.TaskTables.{entry_from}
use Rattle.thread_pass.proofs.analyses.Analysis.new.Goals as goal

pub invariant_of-result : goal.invariant_of-result
invariant_of-result c =
    let program = c.args.program in
    let facts = c.in_ok-facts.facts in
    record {
      analysable = c.requires;
      facts = c.in_ok-facts.ensures;
      slots = subst (AreProgramSlots (program_with program facts)) (sym c.in_ok-slots.ensures.ok) c.in_ok-each.ensures;
      section = c.in_ok-section.ensures;
      count = c.in_ok-entries.ensures.count;
      entries = λ t lt.
          c.in_ok-entries.ensures.each t lt
          ∙ ap (λ (xs : List (Option State)). task_entry (program_with program facts) xs t) c.states.ensures
          ∙ entry_from (program_with program facts) (is_program program facts c.requires c.in_ok-facts.ensures)
          c.in_ok-section.section c.in_ok-section.ensures t;
    }

pub returns : goal.returns
returns c = is_program_of c.args.program c.in_ok-facts.facts c.requires c.in_ok-facts.ensures
