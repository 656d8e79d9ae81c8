-- The bodies of edges.
use Rattle.std.specs.Prelude.{ℕ, ◌-◌, Bool, not, ◌||◌, ◌==◌, List, slice_get, Option, Some, None}
use Rattle.alarm_contexts.specs.declared.alarm_context.ContextEdge.{ContextEdge}

-- the body of an edge of a list, by its place in it, and whether it is the first of its body
abbrev pub body_or_none : Option ContextEdge → ℕ
body_or_none None = 0
body_or_none (Some e) = e.body

abbrev pub edge_body : List ContextEdge → ℕ → ℕ
edge_body edges n = body_or_none (slice_get edges n)

abbrev pub is_first : List ContextEdge → ℕ → Bool
is_first edges n = (n == 0) || not (edge_body edges (n - 1) == edge_body edges n)
