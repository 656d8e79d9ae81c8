use Rattle.std.proofs.Common.{◌↔◌, Vec}
use Rattle.std.specs.Prelude.{Contains}
use Rattle.std.specs.declared.alloc.Global.{Global}
use Rattle.tm_laid.specs.Layouts.{laid_tree}
use Rattle.post_recheck.specs.program_equations.Solutions.{tables_of}
use Rattle.post_recheck.specs.program_systems.ProgramFacts.{program_with}
use Rattle.post_recheck.specs.Pairs.{lists_of}
use Rattle.text_choices.specs.declared.kinds.Choice.{Choice}
use Rattle.open_choices.specs.Choices.{AreRising, IsOfRuns, AreChoices}
use Rattle.open_choices.proofs.Runs.{in_order_all, if_both}
use Rattle.open_choices.proofs.finding.open_choices.Goals as goal

pub returns : goal.returns
returns c =
    let mid = c.in_ok-choices.choices.items in
    let others = c.args.others.items in
    let laid = laid_tree c.args.program.now.laid in
    let p = program_with c.args.program.now c.args.facts.now in
    let tables = tables_of (lists_of c.args.tables.now) in
    let store = c.args.store.now in
    let origins = c.args.origins.now in
    if_both c.in_order.result (λ (l : Vec Choice Global). AreRising l.items)
    (λ (l : Vec Choice Global). (x : Choice) → Contains l.items x ↔ Contains mid x)
    (λ (l : Vec Choice Global). AreChoices laid p tables store origins (Contains others) l.items)
    (λ l rises same. record {
      rising = rises;
      exact = in_order_all mid l.items (Contains others) (IsOfRuns laid p tables store origins) c.in_ok-choices.ensures
          same;
    }) c.in_order.ensures.rising c.in_order.ensures.same
