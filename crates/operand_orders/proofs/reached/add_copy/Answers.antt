use Rattle.std.proofs.Common.{refl, sym}
use Rattle.std.proofs.lemmas.Result.{on_ok_weaker}
use Rattle.operand_orders.specs.reading.Views.{solved}
use Rattle.program_reports.proofs.Tables.{relabelled}
use Rattle.operand_orders.proofs.Elements.{alongside, nothing_more}
use Rattle.operand_orders.proofs.Touching.{target_is, no_target}
use Rattle.operand_orders.proofs.reached.add_copy.Goals as goal

pub returns-in-Some : goal.returns-in-Some
returns-in-Some c =
    on_ok_weaker c.add_in_state.result
    (λ h p. relabelled (h p) (alongside (target_is (solved c.args.view) c.args.access p.second c.args.copy
    c.in-Some.state.now (sym c.in-Some.ensures) _ refl)))
    c.add_in_state.ensures

pub returns-in-None : goal.returns-in-None
returns-in-None c = λ p. nothing_more (λ h.
    no_target (solved c.args.view) c.args.access p.second c.args.copy (sym c.in-None.ensures) h.1)
