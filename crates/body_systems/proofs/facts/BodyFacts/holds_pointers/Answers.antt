use Rattle.std.proofs.Common.{◌∙◌, ap, List, Bool}
use Rattle.transfer_mem.specs.edge_actions.transfer_rows.Accesses.{is_among}
use Rattle.program_equations.specs.Programs.{marked_from}
use Rattle.body_systems.specs.Facts.{Facts, pointers_of}
use Rattle.body_systems.proofs.Pointers.{mark_read, no_mark_read}
use Rattle.body_systems.proofs.facts.BodyFacts.holds_pointers.Goals as goal

pub returns-in-Some : goal.returns-in-Some
returns-in-Some c =
    let look = c.in-Some.ensures.lookup in
    mark_read c.deref.result.now c.args.temporary c.in-Some.mark.now look.3.0 look.1
    ∙ (ap (λ (marks : List Bool). is_among (marked_from 0 marks) c.args.temporary) c.deref.ensures.value
    ∙ ap (λ (f : Facts). is_among (pointers_of f) c.args.temporary) c.self.view_is)

pub returns-in-None : goal.returns-in-None
returns-in-None c =
    let look = c.in-None.ensures.lookup in
    no_mark_read c.deref.result.now c.args.temporary look.3
    ∙ (ap (λ (marks : List Bool). is_among (marked_from 0 marks) c.args.temporary) c.deref.ensures.value
    ∙ ap (λ (f : Facts). is_among (pointers_of f) c.args.temporary) c.self.view_is)
