use Rattle.std.proofs.Common.{◌≡◌, ◌↔◌, ◌⊎◌, ℕ, ap, sym, ◌∙◌, subst}
use Rattle.std.specs.Prelude.{Contains}
use Rattle.std.proofs.lemmas.Result.{on_ok_weaker}
use Rattle.operand_orders.specs.reading.Touches.{access_of, HasTargetAt}
use Rattle.operand_orders.specs.reading.Views.{solved}
use Rattle.program_reports.proofs.Tables.{relabelled}
use Rattle.operand_orders.proofs.Elements.{alongside, nothing_more}
use Rattle.operand_orders.proofs.Touching.{reaches_by, reaches_nothing}
use Rattle.operand_orders.proofs.reached.add_edge.Goals as goal

pub returns-in-Some : goal.returns-in-Some
returns-in-Some c =
    let b = solved c.args.view in
    let access = c.in-Some.access in
    let is = ap (access_of c.args.stores) (sym c.operation.ensures) ∙ sym c.in-Some.ensures in
    on_ok_weaker c.add_targets.result
    (λ h p. relabelled (subst (λ (e : ℕ). Contains c.add_targets.new.pairs.items p
    ↔ (Contains c.args.pairs.now.items p ⊎ ((p.first ≡ e) × HasTargetAt b access e p.second))) c.in_ok-held.ensures
    (h p)) (alongside (reaches_by b c.args.stores c.args.edge p.second access is))) c.add_targets.ensures

pub returns-in-None : goal.returns-in-None
returns-in-None c = λ p.
    let is = ap (access_of c.args.stores) (sym c.operation.ensures) ∙ sym c.in-None.ensures in
    nothing_more (λ h. reaches_nothing (solved c.args.view) c.args.stores c.args.edge p.second is h.1)
