use Rattle.std.proofs.Common.{◌↔◌, ◌⊎◌, IsTrue, sym}
use Rattle.std.proofs.lemmas.Result.{IfOk-weaker}
use Rattle.operand_orders.specs.reading.Views.{solved}
use Rattle.open_choices.specs.reading.Left.{IsHeldByTemp, IsHeldByCell, IsHeldBehind}
use Rattle.open_choices.proofs.Leftover.{held_behind, none_behind}
use Rattle.open_choices.proofs.Searching.{not_found}
use Rattle.open_choices.proofs.Unsets.{same_test}
use Rattle.open_choices.proofs.beginnings.is_held_behind.Goals as goal

pub returns-in-Some : goal.returns-in-Some
returns-in-Some c =
    let b = solved c.args.view in
    let life = c.args.life in
    let s = c.in-Some.state.now in
    IfOk-weaker c.is_held_in.result
    (λ x. IsTrue x ↔ (IsHeldByTemp s c.args.own life.object ⊎ IsHeldByCell b life s))
    (λ x. IsTrue x ↔ IsHeldBehind b life c.args.own c.args.copy)
    (λ x h. same_test x h (held_behind b life c.args.own c.args.copy s (sym c.in-Some.ensures))) c.is_held_in.ensures

pub returns-in-None : goal.returns-in-None
returns-in-None c =
    not_found (none_behind (solved c.args.view) c.args.life c.args.own c.args.copy (sym c.in-None.ensures))
