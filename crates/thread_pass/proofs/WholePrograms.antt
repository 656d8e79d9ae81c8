-- Closed stores are those of least solutions.
use Rattle.std.specs.Prelude.{List, ◌∷◌}
use Rattle.tm_lattice.specs.Rounds.{IsHistory, IsClosed}
use Rattle.interfere_set.specs.Stores.{Interferences}
use Rattle.interfere_set.specs.laws.StoreLaws.{store_order, store_join, store_closure}
use Rattle.program_equality.specs.state_fits.laws.PlacesFit.{states_order, states_join}
use Rattle.table_covers.specs.laws.WholeLeast as least
use Rattle.program_equality.specs.program_equations.Programs.{ProgramBodies, IsProgram}
use Rattle.program_equality.specs.program_equations.Systems.{states, stores, IsSection, IsSectionBelow, least_section}
use Rattle.program_equality.specs.program_equations.Systems.{least_local}
use Rattle.program_equality.specs.program_equations.Solutions.{node_count, links_in, after_in, entry_in, outward_in}
use Rattle.program_equality.specs.program_equations.Solutions.{heads_in, suits_in}
use Rattle.program_equality.specs.program_equations.Solutions.{height_of, limit_in, added_in, passing, IsWholeLeast}
use Rattle.program_equality.specs.program_equations.laws.StoresFit.{bottom}
use Rattle.program_equality.specs.program_equations.laws.Lawful.{program_is_lawful}
use Rattle.program_equality.specs.program_equations.laws.Passing.{fitting}

pub closed_is_least : (p : ProgramBodies) (store : Interferences) (earlier : List Interferences) → IsProgram p
    → IsHistory stores passing p (store ∷ earlier) → IsClosed stores passing p store
    → IsWholeLeast p (least_section p) (λ t. least_local p t store) store
closed_is_least p store earlier is history closed =
    least.history_is_least states (node_count p) (links_in p) (after_in p) (entry_in p) (outward_in p) (heads_in p)
    (suits_in p) (height_of p) (limit_in p) (added_in p) stores passing p (IsSectionBelow p) (IsSection p)
    (least_section p) (least_local p) states_order states_join store_order store_join store_closure (fitting p is)
    (bottom p.marks) (program_is_lawful p is) store earlier history closed
