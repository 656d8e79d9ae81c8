use Rattle.std.proofs.Common.{◌≡◌, ◌↔◌, ◌⊎◌, ◌+◌, ap, sym, subst, ◌∙◌, length, Some, arith, Vec}
use Rattle.std.specs.Prelude.{Contains}
use Rattle.std.specs.declared.alloc.Global.{Global}
use Rattle.program_reports.specs.post_recheck.table_covers.Solutions.{at}
use Rattle.program_reports.specs.post_recheck.body_systems.Systems.{body_of}
use Rattle.access_races.proofs.Joins.{joined, unchanged}
use Rattle.program_reports.proofs.Steps.{copies_more, copies_same}
use Rattle.program_reports.proofs.Tables.{reached, fits_there}
use Rattle.alarm_contexts.specs.declared.exits.Context.{Context}
use Rattle.alarm_contexts.specs.reading.Found.{GivesContext, IsContextBelow}
use Rattle.alarm_contexts.proofs.bodies.add_copies.Goals as goal
use Rattle.alarm_contexts.proofs.bodies.add_copies.Goals.{in-Some+in_ok-add_copy-in-Some, in-None}

pub add_copy-requires-clause-fits : goal.add_copy-requires-clause-fits
add_copy-requires-clause-fits c =
    fits_there (body_of c.args.parts.body.now) c.args.parts c.requires.parts c.args.table.now c.requires.table
    c.loop-copy.copy c.loop-copy-test.true c.index-table-parts.result c.index-table-parts.is c.state.result.now
    (c.in-Some.is ∙ ap Some (sym c.state.ensures))

pub loop-copy-preserved : goal.loop-copy-preserved
loop-copy-preserved c =
    let b = body_of c.args.parts.body.now in
    let store = c.args.parts.body.now.store in
    let table = c.args.table.now in
    let k = c.loop-copy.copy in
    let there = reached b c.args.parts c.requires.parts table c.requires.table k c.loop-copy-test.true
    c.index-table-parts.result c.index-table-parts.is in
    let Found = λ (v : Vec Context Global). (x : Context) → Contains v.items x
    ↔ (Contains c.args.contexts.now.items x ⊎ IsContextBelow b store (at table) (k + 1) x) in
    elim c.match-table-parts.branch [
      | in-Some+in_ok-add_copy-in-Some w ↦ subst Found (sym w.contexts-is) (λ x.
          joined (w.in_ok-add_copy-in-Some.ensures x) (c.loop-copy.invariant x)
          (copies_more b (at table) (λ n s. GivesContext b store n s x) k w.state.result.now
          (there ∙ w.in-Some.is ∙ ap Some (sym w.state.ensures))))
      | in-None w ↦ subst Found (sym w.contexts-is) (λ x.
          unchanged (c.loop-copy.invariant x)
          (copies_same b (at table) (λ n s. GivesContext b store n s x) k (there ∙ w.in-None.is)))
    ]

pub returns : goal.returns
returns c = λ x.
    let end : c.loop-copy.copy ≡ length c.args.parts.copies.now = omega arith in
    subst (λ n. Contains c.loop-copy.contexts.items x ↔ (Contains c.args.contexts.now.items x
    ⊎ IsContextBelow (body_of c.args.parts.body.now) c.args.parts.body.now.store (at c.args.table.now) n x)) end
    (c.loop-copy.invariant x)
