-- At the nodes that are reached the mutexes held are of the file.
use Rattle.std.specs.Prelude.{ℕ, ◌-◌, ◌^◌, bit_and, List, All}
use Rattle.std.proofs.Common.{arith}
use Rattle.std.proofs.lemmas.Nat.Bits.{bit_at_and, bit_at_or, same_from_bits}
use Rattle.std.proofs.lemmas.List.Elements.{All-contains}
use Rattle.mutex_configs.specs.tm_laid.Layouts.{LaidTree}
use Rattle.mutex_configs.specs.flow_graph.declared.graphs.Edge.{Edge}
use Rattle.mutex_configs.specs.flow_graph.declared.operations.Operation.{Operation}
use Rattle.mutex_configs.specs.flow_graph.declared.operations.Operation.TheVariants as Op
use Rattle.mutex_configs.specs.flow_graph.Graphs.{Edges}
use Rattle.mutex_configs.proofs.low.graph_facts.Edges.{contains_among}
use Rattle.state_fits.specs.cell_env.Cells.{IsWithin}
use Rattle.state_fits.specs.cell_env.laws.Bits.{within_trans, within_least}
use Rattle.state_fits.specs.temporary_types.Sorts.{Sort, FitsSorts}
use Rattle.state_fits.specs.Fits.{file_set}
use Rattle.state_fits.specs.laws.FileSets.{none_within, mutex_within}
use Rattle.mutex_configs.specs.declared.nodes.ConfiguredNode.{ConfiguredNode}
use Rattle.mutex_configs.specs.Sets.{held_after}
use Rattle.mutex_configs.specs.Nodes.{IsReached, at_entry, along}

and_within : (p k : ℕ) → IsWithin (bit_and p k) p
and_within p k = same_from_bits _ _ (λ i. omega (arith, bit_at_or (bit_and p k) p i, bit_at_and p k i))

module _ (laid : LaidTree) (sorts : List Sort) where
  -- an operation with a mutex of the file keeps the set
  held_within : (op : Operation) (held : ℕ) → FitsSorts laid sorts op → IsWithin held (file_set laid)
      → IsWithin (held_after op held) (file_set laid)
  unfolding held_after
  held_within (Op.Lock mutex place) held m h =
      within_least held (2 ^ mutex) (file_set laid) h (mutex_within laid mutex m.0)
  held_within (Op.Unlock mutex place) held m h =
      within_trans (bit_and held (65535 - 2 ^ mutex)) held (file_set laid) (and_within held (65535 - 2 ^ mutex)) h
  held_within op held m h = h

  pub held_reached : (g : Edges) → All (λ (e : Edge). FitsSorts laid sorts e.op) g → (q : ConfiguredNode)
      → IsReached g q → IsWithin q.held (file_set laid)
  held_reached g m _ at_entry = none_within (file_set laid)
  held_reached g m _ (along q e answer reached leaves c x) = held_within e.op q.held
      (All-contains (λ (f : Edge). FitsSorts laid sorts f.op) g e m (contains_among e g leaves.among))
      (held_reached g m q reached)
