-- What the code has noted, as a list of each kind.
use Rattle.std.specs.Prelude.{ℕ, List, get_or}
use Rattle.path_origins.specs.declared.origins.Notes.{Notes}
use Rattle.path_origins.specs.Noted.{Noted}

abbrev pub shown : Notes → Noted
shown n = record {
  size = n.size;
  edges = n.edges.items;
  calls = n.calls.items;
  operands = n.operands.items;
  reloads = n.reloads.items;
  overwrites = n.overwrites.items;
  lives = n.lives.items;
  falls = n.falls.items;
  passings = n.passings.items;
  pending = n.pending.items;
  unended = n.unended.items;
}

-- how many edges the body of a path has
abbrev pub sizes_in : List ℕ → ℕ → ℕ
sizes_in sizes path = get_or sizes path 0
