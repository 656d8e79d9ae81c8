-- How many temporaries edges give, counted edge by edge.
use Rattle.std.proofs.Common.{◌≡◌, sym, ap, ◌∙◌, ℕ, ◌+◌, ◌<◌, ◌≤◌, ◌∷◌, length, get_or, drop, arith}
use Rattle.std.specs.Prelude.{max}
use Rattle.std.proofs.lemmas.List.{drop_more, drop_all}
use Rattle.flow_graph.specs.declared.graphs.Edge.{Edge}
use Rattle.flow_graph.specs.Graphs.{Edges}
use Rattle.flow_graph.specs.Operations.{given}
use Rattle.temporary_types.specs.Temporaries.{behind_given, temporaries_in}

-- what is counted before an edge, with what is behind it, is the count of all
abbrev pub IsCounted : Edges → ℕ → ℕ → Type 0
IsCounted graph k count = max count (temporaries_in (drop k graph)) ≡ temporaries_in graph

pub one_counted : (graph : Edges) (k count : ℕ) (e : Edge) → k < length graph → e ≡ get_or graph k e
    → IsCounted graph k count → IsCounted graph (k + 1) (max count (behind_given (given e.op)))
one_counted graph k count e lt is counted =
    together count (behind_given (given e.op)) (temporaries_in (drop (k + 1) graph)) (temporaries_in graph)
    (sym (ap (λ g. max count (temporaries_in g)) (drop_more graph k e lt ∙ ap (λ (x : Edge). x ∷ drop (k + 1) graph)
    (sym is))) ∙ counted)
  where
    together : (a b c all : ℕ) → max a (max b c) ≡ all → max (max a b) c ≡ all
    together a b c all same = omega (arith, same)

pub all_counted : (graph : Edges) (k count : ℕ) → length graph ≤ k → IsCounted graph k count
    → count ≡ temporaries_in graph
all_counted graph k count le counted =
    none_behind count (temporaries_in graph)
    (sym (ap (λ g. max count (temporaries_in g)) (drop_all k graph le)) ∙ counted)
  where
    none_behind : (a all : ℕ) → max a 0 ≡ all → a ≡ all
    none_behind a all same = omega (arith, same)
