use Rattle.path_origins.specs.reading.Reading.{IsRead, IsGiven}
use Rattle.path_origins.proofs.expressions.walk_value.Goals as goal

pub returns : goal.returns
unfolding IsRead IsGiven
returns c = record { noted = c.walk_rvalue.ensures.noted; given = c.walk_rvalue.ensures.given }
