use Rattle.std.proofs.Common.{◌≡◌, ◌∙◌, ap, refl, Bool, true, false}
use Rattle.concrete_values.specs.declared.values.Value.{Value}
use Rattle.concrete_values.specs.Values.{truth_value, is_true}
use Rattle.concrete_values.specs.Pointers.{is_compared}
use Rattle.flow_graph.specs.Operations.{Temps, holds}
use Rattle.flow_graph.specs.declared.operations.Test.{Test}
use Rattle.flow_graph.specs.declared.operations.Test.TheVariants as Tests
use Rattle.std.proofs.Common.{ℕ, sym}
use Rattle.graph_positions.specs.Memories.{temps_of}
use Rattle.graph_positions.proofs.tests.holds.Goals as goal

truth : (b : Bool) → is_true (truth_value b) ≡ b
unfolding is_true
truth true = refl
truth false = refl

pointers_hold : (test : Test) (equal : Bool) (left right : ℕ) (t : Temps) (l r : Value) (b : Bool) → test ≡ Tests.Pointers equal left right → l ≡ t left → r ≡ t right → b ≡ is_true (truth_value (is_compared equal l r))
    → b ≡ holds test t
pointers_hold test equal left right t l r b e p q h =
    h ∙ truth (is_compared equal l r) ∙ ap (λ (x : Value). is_compared equal x r) p ∙ ap (λ (y : Value). is_compared equal (t left) y) q ∙ sym (ap (λ (x : Test). holds x t) e)

pub returns-in-Pointers : goal.returns-in-Pointers
returns-in-Pointers c =
    pointers_hold c.args.test c.in-Pointers.equal c.in-Pointers.left c.in-Pointers.right (temps_of c.args.temporaries.now) c.value_at-left-in-Pointers.result c.value_at-right-in-Pointers.result c.is_true.result
    c.in-Pointers.is c.value_at-left-in-Pointers.ensures c.value_at-right-in-Pointers.ensures (c.is_true.ensures ∙ ap is_true c.compared.ensures)
