-- The graphs of bodies can be configured.
use Rattle.std.proofs.Common.{◌≡◌, ◌<◌, ◌≤◌, ℕ, sym, subst, length, arith, All, get_or}
use Rattle.cell_layout.specs.tm_laid.Layouts.{LaidTree}
use Rattle.lowering.specs.flow_graph.declared.graphs.Edge.{Edge}
use Rattle.lowering.specs.flow_graph.declared.graphs.Graph.{Graph}
use Rattle.lowering.specs.flow_graph.declared.operations.Operation.{Operation}
use Rattle.lowering.specs.flow_graph.declared.operations.Operation.TheVariants as Op
use Rattle.lowering.specs.flow_graph.Graphs.{Edges}
use Rattle.lowering.specs.Built.{built, graph_of}
use Rattle.mutex_configs.specs.Sets.{IsOfSixteen}
use Rattle.mutex_configs.specs.Graphs.{IsGraph}
use Rattle.lowering_laws.specs.LaidFiles.{IsLaidFile}
use Rattle.lowering_laws.specs.Mutexes.{HasMutex}
use Rattle.lowering_laws.proofs.Ranges.{joins_nodes, has_entry}
use Rattle.lowering_laws.proofs.TableGraphs.{mutexes_of_file, few_mutexes}

-- a mutex of so many is one of sixteen
of_sixteen : (n : ℕ) → n ≤ 16 → (op : Operation) → HasMutex n op → IsOfSixteen op
unfolding IsOfSixteen
of_sixteen n few (Op.Lock mutex place) h = omega (arith, few, h)
of_sixteen n few (Op.Unlock mutex place) h = omega (arith, few, h)
of_sixteen n few (Op.Probe to mutex place) h = omega (arith, few, h)
of_sixteen n few Op.Skip h = tt
of_sixteen n few (Op.Const to value) h = tt
of_sixteen n few (Op.Copy to from) h = tt
of_sixteen n few (Op.Un to operator of from place) h = tt
of_sixteen n few (Op.Bin to operator of left right place) h = tt
of_sixteen n few (Op.BinPointers to equal left right) h = tt
of_sixteen n few (Op.Convert to was of from) h = tt
of_sixteen n few (Op.Base to object) h = tt
of_sixteen n few (Op.Offset to from cells) h = tt
of_sixteen n few (Op.Index to from length' cells by place) h = tt
of_sixteen n few (Op.Move to from cells minus by place) h = tt
of_sixteen n few (Op.Deref to from target path place) h = tt
of_sixteen n few (Op.Load to address scalar place) h = tt
of_sixteen n few (Op.LoadAny to address scalar place) h = tt
of_sixteen n few (Op.Store address value scalar into place) h = tt
of_sixteen n few (Op.Any to low high) h = tt
of_sixteen n few (Op.Clear object) h = tt
of_sixteen n few (Op.Usable pointer place) h = tt
of_sixteen n few (Op.Assume test) h = tt
of_sixteen n few Op.Yield h = tt

module _ (laid : LaidTree) (file : IsLaidFile laid) (body : ℕ) (graph : Graph) (edges : graph.edges.items ≡ graph_of laid body)
    (nodes : graph.nodes ≡ (built laid body).nodes) where
  joined : All (λ (e : Edge). (e.from < graph.nodes) × (e.to < graph.nodes)) graph.edges.items
  joined = subst (λ (es : Edges). All (λ (e : Edge). (e.from < graph.nodes) × (e.to < graph.nodes)) es) (sym edges)
      (subst (λ n. All (λ (e : Edge). (e.from < n) × (e.to < n)) (graph_of laid body)) (sym nodes) (joins_nodes laid body))

  pub configurable : IsGraph graph
  configurable = record {
    entry = subst (λ n. 0 < n) (sym nodes) (has_entry laid body);
    from = λ k d lt. (joined k d lt).0;
    to = λ k d lt. (joined k d lt).1;
    mutexes = subst (λ (es : Edges). All (λ (e : Edge). IsOfSixteen e.op) es) (sym edges)
        (λ k d lt. of_sixteen (length laid.file.mutexes) (few_mutexes laid file) (get_or (graph_of laid body) k d).op (mutexes_of_file laid file body k d lt));
  }
