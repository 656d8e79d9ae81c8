use Rattle.std.proofs.Common.{All}
use Rattle.source_names.specs.Tags.{IsTagIn}
use Rattle.source_names.proofs.tags.tags_of.Given as goal

-- the tags so far stand there
abbrev pub invariant-loop-at : goal.invariant-loop-at
invariant-loop-at l = All (IsTagIn l.tokens) l.found.items
