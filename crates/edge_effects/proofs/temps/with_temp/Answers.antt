use Rattle.std.proofs.Common.{◌∙◌, sym, ap}
use Rattle.std.specs.FinMap.{insert}
use Rattle.calculations.specs.transfer_rows.StateForms.{Temp}
use Rattle.edge_effects.proofs.LiveTemps.{with_kept, without_kept}
use Rattle.edge_effects.proofs.temps.with_temp.Goals.{then-is_among+in_ok-put, else-is_among}
use Rattle.edge_effects.proofs.temps.with_temp.Goals as goal

pub returns : goal.returns
returns c = λ before is.
    let entry : Temp = record { value = c.args.value; copy = c.args.copy } in
    elim c.if-is_among.branch [
      | then-is_among+in_ok-put w ↦
          w.temps-is ∙ w.in_ok-put.ensures.written (λ e. e) ∙ ap (λ t. insert t c.args.temp entry) is
          ∙ with_kept before c.args.live.now c.args.temp entry (sym c.is_among.ensures ∙ w.if-is_among.true)
      | else-is_among w ↦ w.temps-is ∙ is ∙ without_kept before c.args.live.now c.args.temp entry (sym c.is_among.ensures ∙ w.if-is_among.false)
    ]
