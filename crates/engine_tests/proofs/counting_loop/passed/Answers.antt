use Rattle.std.proofs.Common.{◌≡◌, ◌∙◌, ℕ, length, ap, sym, subst, arith}
use Rattle.std.specs.Prelude.{IfSome, max}
use Rattle.table_covers.specs.Solutions.{NodeTable, at}
use Rattle.table_covers.specs.Systems.{from_of}
use Rattle.table_covers.specs.Passes.{added_below}
use Rattle.table_covers.specs.laws.Iterates.{least_is_least, least_is_one}
use Rattle.engine_tests.specs.Loops.{levels, loop_links, loop_pass, loop_system, loop_table, suits}
use Rattle.engine_tests.specs.LoopLaws.{level_join, level_order, loop_lawful}
use Rattle.engine_tests.proofs.SameAdded.{same_added}
use Rattle.engine_tests.proofs.counting_loop.passed.Goals as goal

pub joined_contributions-requires-clause-nodes : goal.joined_contributions-requires-clause-nodes
joined_contributions-requires-clause-nodes c κs = ap length c.deref.ensures.value ∙ c.in_ok-table.ensures.nodes

pub joined_contributions-requires-clause-fits : goal.joined_contributions-requires-clause-fits
joined_contributions-requires-clause-fits c κs =
    λ n lt. subst (λ xs. IfSome (at xs n) (suits n)) (sym c.deref.ensures.value)
    (c.in_ok-table.ensures.least.solves.fits n lt)

pub joined_contributions-requires-clause-least : goal.joined_contributions-requires-clause-least
joined_contributions-requires-clause-least c κs = λ x is. omega arith

pub returns : goal.returns
unfolding loop_pass
returns c =
    let mark = c.args.system.now.program.now in
    let store = c.args.system.now.store.now in
    let table = at c.in_ok-table.field-0.table.items in
    let same = least_is_one levels suits (loop_system mark store) level_order level_join (loop_lawful mark store)
    table (loop_table mark store) c.in_ok-table.ensures.least
    (least_is_least levels suits (loop_system mark store) level_order level_join (loop_lawful mark store)) in
    let total = λ (s : NodeTable ℕ). added_below loop_links 0 (λ e v. v) max 3 s in
    c.in_ok-added.ensures ∙ ap (λ xs. total (at xs)) c.deref.ensures.value
    ∙ same_added loop_links 0 (λ e v. v) max 3 table (loop_table mark store) (omega arith)
    (λ e lt. same (from_of loop_links e) ((loop_lawful mark store).from_node e lt))
