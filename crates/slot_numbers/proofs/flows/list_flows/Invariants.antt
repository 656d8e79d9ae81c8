use Rattle.slot_numbers.specs.Numbered.{AreFlowsOf}
use Rattle.slot_numbers.proofs.flows.list_flows.Given as goal

abbrev pub invariant-loop-edge : goal.invariant-loop-edge
invariant-loop-edge l = AreFlowsOf l.graph l.placing l.cells l.edge l.flows.items
