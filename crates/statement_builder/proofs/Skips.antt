-- Edges to one node, one behind the other.
use Rattle.std.proofs.Common.{◌≡◌, ℕ, ◌+◌, ◌<◌, ◌≤◌, List, [], ◌∷◌, length, drop, get_or, refl, sym, ap, ◌∙◌}
use Rattle.std.proofs.lemmas.List.{append_assoc, append-nil, drop_more, drop_all}
use Rattle.flow_graph.specs.declared.operations.Operation.TheVariants as Op
use Rattle.flow_graph.specs.Graphs.{Edges}
use Rattle.body_builder.specs.lowering.Built.{Building, edge, skips}
use Rattle.body_builder.specs.Placing.{with_edge}
use Rattle.statement_builder.specs.reading.Meeting.{with_edges}

-- the edges from the nodes from this one on are left
pub record HasSkips (ns : List ℕ) (i n : ℕ) (b w : Building) : Type 0 where
  pub left : with_edges (skips (drop i ns) n) b ≡ w

abbrev with_these : Building → Edges → Building
with_these b es = record { edges = es; node = b.node; nodes = b.nodes; temps = b.temps }

pub skips_first : (ns : List ℕ) (n : ℕ) (b : Building) → HasSkips ns 0 n b (with_edges (skips ns n) b)
skips_first ns n b = record { left = refl }

pub skips_more : (ns : List ℕ) (i d n : ℕ) (b b1 w : Building) → i < length ns
    → b1 ≡ with_edge (edge (get_or ns i d) n Op.Skip) b → HasSkips ns i n b w → HasSkips ns (i + 1) n b1 w
skips_more ns i d n b b1 w lt e h =
    let rest : Edges = skips (drop (i + 1) ns) n in
    record {
      left = ap (with_edges rest) e
          ∙ (ap (with_these b) (append_assoc b.edges (edge (get_or ns i d) n Op.Skip ∷ []) rest)
          ∙ (sym (ap (λ (ms : List ℕ). with_edges (skips ms n) b) (drop_more ns i d lt)) ∙ h.left));
    }

pub skips_last : (ns : List ℕ) (i n : ℕ) (b w : Building) → length ns ≤ i → HasSkips ns i n b w → b ≡ w
skips_last ns i n b w le h =
    sym (ap (with_these b) (append-nil b.edges))
    ∙ (sym (ap (λ (ms : List ℕ). with_edges (skips ms n) b) (drop_all i ns le)) ∙ h.left)
