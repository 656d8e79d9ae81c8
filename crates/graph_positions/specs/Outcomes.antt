-- What an operation does, as the code holds it.
use Rattle.flow_graph.specs.Operations.{Doing, gives, shut, asks, fails}
use Rattle.graph_positions.specs.declared.outcomes.Outcome.{Outcome}
use Rattle.graph_positions.specs.declared.outcomes.Outcome.TheVariants as Outcomes

abbrev pub doing_of : Outcome → Doing
doing_of (Outcomes.Gives value) = gives value
doing_of Outcomes.Shut = shut
doing_of (Outcomes.Asks action) = asks action
doing_of (Outcomes.Fails class place) = fails class place
