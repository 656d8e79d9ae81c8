use Rattle.std.proofs.Common.{◌≡◌, drop}
use Rattle.tm_typed.specs.Scopes.{or_else}
use Rattle.source_names.specs.Steps.{last_begun}
use Rattle.source_names.proofs.steps.member_at.Given as goal

-- the last so far, or one of those that are left
abbrev pub invariant-loop-member : goal.invariant-loop-member
invariant-loop-member l = or_else (last_begun (drop l.member-index l.members) l.cell) l.found ≡ last_begun l.members l.cell
