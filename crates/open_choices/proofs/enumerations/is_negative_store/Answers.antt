use Rattle.std.proofs.Common.{◌↔◌, IsTrue}
use Rattle.std.proofs.lemmas.Result.{IfOk-weaker}
use Rattle.operand_orders.specs.reading.Views.{solved}
use Rattle.open_choices.specs.reading.Enumerated.{StoresEnumerated, IsNegativeStore}
use Rattle.open_choices.proofs.Searching.{not_found, not_so}
use Rattle.open_choices.proofs.Marked.{negative_store, no_negative_store}
use Rattle.open_choices.proofs.enumerations.is_negative_store.Goals as goal

pub returns-then-has_negative : goal.returns-then-has_negative
returns-then-has_negative c =
    let b = solved c.args.view in
    let s = c.args.state.now in
    let address = c.args.address in
    let value = c.args.value in
    let scalar = c.args.scalar in
    IfOk-weaker c.stores_enumerated.result (λ is. IsTrue is ↔ StoresEnumerated b s scalar address)
    (λ is. IsTrue is ↔ IsNegativeStore b s address value scalar)
    (λ is same. negative_store b s address value scalar c.numbers_of.result c.numbers_of.ensures is
    (c.has_negative.ensures.0 c.if-has_negative.true) same) c.stores_enumerated.ensures

pub returns-else-has_negative : goal.returns-else-has_negative
returns-else-has_negative c =
    not_found (no_negative_store (solved c.args.view) c.args.state.now c.args.address c.args.value c.args.scalar
    c.numbers_of.result c.numbers_of.ensures c.has_negative.result
    (not_so c.has_negative.result c.has_negative.ensures c.if-has_negative.false))
