-- What rows read and bring, as lists.
use Rattle.std.specs.Prelude.{ℕ, List, ◌∷◌, map, Option, Some}
use Rattle.std.specs.FinMap.{get}
use Rattle.std.specs.Option.{option_map}
use Rattle.table_covers.specs.tm_lattice.Tables.{Table}
use Rattle.edge_actions.specs.transfer_rows.StateForms.{Temp, Cell, State}
use Rattle.least_assignments.specs.Constraints.{Assignment}
use Rattle.front_constraints.specs.declared.standings.Standing.{Standing}
use Rattle.front_constraints.specs.Standings.{fronted, opened, holding}
use Rattle.front_constraints.specs.Systems.{Rule, row}
use Rattle.front_constraints.specs.Rules.{part_of, brings, targets_of}
use Rattle.body_slots.specs.Slots.{SlotSystemOf, sparse_of}

-- what stands at variables, and what stands at one
abbrev pub Stand : Type 0
Stand = Standing (Table Temp) Cell

abbrev pub Values : Type 0
Values = Assignment Stand

-- what a rule brings to its targets, in their order
abbrev pub brought_by : SlotSystemOf → Rule → Values → List (Option Stand)
brought_by v r a = map (brings (sparse_of v) r a) (targets_of (sparse_of v) r)

-- what a table has at cells
abbrev pub held_among : Table Cell → List ℕ → List (Option Stand)
held_among t xs = map (λ x. option_map holding (get t x)) xs

-- what a state has at cells
abbrev pub held_in : State → List ℕ → List (Option Stand)
held_in s xs = held_among s.cells xs

-- what an edge brings that leads to the state and touches these cells
abbrev pub state_parts_at : State → List ℕ → List (Option Stand)
state_parts_at s xs = Some (fronted s.temps) ∷ Some opened ∷ held_in s xs

-- what the row of an edge brings that is applied to the state
abbrev pub row_parts : SlotSystemOf → ℕ → State → List (Option Stand)
row_parts v e s =
    (let sys = sparse_of v in map (part_of sys (sys.equations.after e s)) (targets_of sys (row e)))
