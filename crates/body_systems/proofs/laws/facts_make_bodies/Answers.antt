use Rattle.body_systems.specs.laws.Bodies.{facts_make_body}
use Rattle.body_systems.proofs.laws.facts_make_bodies.Goals as goal

pub returns : goal.returns
returns c = facts_make_body
