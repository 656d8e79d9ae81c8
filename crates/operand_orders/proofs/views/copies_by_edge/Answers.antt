use Rattle.std.proofs.Common.{get_or, subst, arith, ℕ}
use Rattle.post_recheck.specs.task_equations.Bodies.{no_copy}
use Rattle.operand_orders.specs.reading.Views.{IsNumberAdded}
use Rattle.operand_orders.proofs.Copies.{copies_none, copies_more, copies_all}
use Rattle.operand_orders.proofs.views.copies_by_edge.Goals as goal

pub loop-number-init : goal.loop-number-init
loop-number-init c =
    copies_none c.args.copies.now c.args.count_of_edges c.in_ok-lists.lists.items c.in_ok-lists.ensures

pub loop-number-preserved : goal.loop-number-preserved
loop-number-preserved c =
    copies_more c.args.copies.now c.args.count_of_edges c.loop-number.number c.loop-number-test.true
    c.loop-number.lists.items c.add_number.new.lists.items c.loop-number.invariant
    (subst (λ (n : ℕ). IsNumberAdded c.loop-number.lists.items
    (get_or c.args.copies.now c.loop-number.number no_copy).edge n c.add_number.new.lists.items)
    c.in_ok-held.ensures c.in_ok-add_number.ensures)

pub returns : goal.returns
returns c =
    copies_all c.args.copies.now c.args.count_of_edges c.loop-number.number (omega arith) c.loop-number.lists.items
    c.loop-number.invariant
