-- Each program has a least solution: the store in which its passes end, with the least tables over it.
use Rattle.std.specs.Prelude.{List, ◌∷◌}
use Rattle.program_equations.specs.tm_lattice.Rounds.{IsHistory, IsClosed}
use Rattle.program_equations.specs.interfere_set.Stores.{Interferences}
use Rattle.program_equations.specs.interfere_set.laws.StoreLaws.{store_order, store_join, store_closure}
use Rattle.program_equations.specs.state_fits.laws.PlacesFit.{states_order, states_join}
use Rattle.program_equations.specs.table_covers.laws.WholeLeast as least
use Rattle.program_equations.specs.Programs.{ProgramBodies, IsProgram}
use Rattle.program_equations.specs.Systems.{states, stores, IsSection, IsSectionBelow, least_section, least_local}
use Rattle.program_equations.specs.Solutions.{node_count, links_in, after_in, entry_in, outward_in, heads_in, suits_in}
use Rattle.program_equations.specs.Solutions.{height_of, limit_in, added_in, passing, IsWholeLeast}
use Rattle.program_equations.specs.laws.StoresFit.{bottom}
use Rattle.program_equations.specs.laws.Lawful.{program_is_lawful}
use Rattle.program_equations.specs.laws.Passing.{fitting}
use Rattle.store_limits.specs.Limits.{HasWholeLeast}
use Rattle.store_limits.proofs.Ends.{ends}

module _ (p : ProgramBodies) (is : IsProgram p) where
  -- a closed store that ends a history, with the least tables over it
  closed_is_least : (store : Interferences) (earlier : List Interferences)
      → IsHistory stores passing p (store ∷ earlier) → IsClosed stores passing p store
      → IsWholeLeast p (least_section p) (λ t. least_local p t store) store
  closed_is_least store earlier history closed =
      least.history_is_least states (node_count p) (links_in p) (after_in p) (entry_in p) (outward_in p) (heads_in p)
      (suits_in p) (height_of p) (limit_in p) (added_in p) stores passing p (IsSectionBelow p) (IsSection p)
      (least_section p) (least_local p) states_order states_join store_order store_join store_closure (fitting p is)
      (bottom p.marks) (program_is_lawful p is) store earlier history closed

  pub has_least : HasWholeLeast p
  has_least =
      let end = ends p is in record {
        section = least_section p;
        tables = λ t. least_local p t end.store;
        store = end.store;
        least = closed_is_least end.store end.earlier end.history end.closed;
      }
