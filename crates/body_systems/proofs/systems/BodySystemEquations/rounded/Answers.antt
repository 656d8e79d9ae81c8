use Rattle.std.proofs.Common.{◌∙◌, sym, ap, ℕ, List, Option, Some, Bor}
use Rattle.std.specs.Prelude.{option_map}
use Rattle.pointer_dom.specs.Values.{rounded_values}
use Rattle.cell_env.specs.States.{rounded_state_at}
use Rattle.transfer_mem.specs.edge_actions.transfer_rows.StateForms.{State}
use Rattle.task_equations.specs.Equations.{rounded_at}
use Rattle.body_systems.specs.Systems.{SystemOf}
use Rattle.body_systems.proofs.systems.BodySystemEquations.rounded.Goals as goal

pub returns-in_ok-outer-in-Some : goal.returns-in_ok-outer-in-Some
returns-in_ok-outer-in-Some c =
    let v = c.args.self.now.body.now in
    c.new.ensures
    ∙ (c.in_ok-outer-in-Some.ensures
    ∙ (ap (λ (s : State). rounded_state_at (rounded_values c.body.inside.marks.now) c.in-Some.cells.now s)
    c.state-in-Some.ensures
    ∙ (ap (λ (w : SystemOf). rounded_at w.marks (Some c.in-Some.cells.now) c.args.state) c.body.view_is
    ∙ ap (λ (cells : Option (List ℕ)). rounded_at v.marks cells c.args.state)
    (sym (ap (λ (cells : Option (Bor (List ℕ))). option_map (λ (x : Bor (List ℕ)). x.now) cells) c.in-Some.is)
    ∙ c.cells_at.ensures))))
