-- The constraints of fronts and slots.
use Rattle.std.specs.Prelude.{ℕ, ◌+◌, ◌==◌, Bool, false, ◌&&◌, cond, List, [], ◌∷◌, map, slice_index_or}
use Rattle.std.specs.Prelude.{Option, Some}
use Rattle.std.specs.Prelude.{None, IfSome, is_some}
use Rattle.std.specs.Option.{option_map}
use Rattle.std.specs.List.{list_all}
use Rattle.sparse_tables.specs.table_covers.Solutions.{brought}
use Rattle.sparse_tables.specs.Fronts.{Fronts}
use Rattle.least_assignments.specs.Constraints.{Assignment, Constraints}
use Rattle.front_constraints.specs.declared.standings.Standing.{Standing}
use Rattle.front_constraints.specs.Standings.{fronted, opened, holding, front_in, cell_in, HasParts, changed_standing}
use Rattle.front_constraints.specs.Standings.{height_in}
use Rattle.front_constraints.specs.Systems.{SparseSystem, Variable, front_at, open_at, slot_at, Rule, entered, row}
use Rattle.front_constraints.specs.Systems.{flow}
use Rattle.front_constraints.specs.Systems.{from, to, kept_at, is_looked}

-- the second where there is a first
abbrev pub passed : {A B : Type 0} → Option A → Option B → Option B
passed None y = None
passed (Some a) y = y

module _ {V F D : Type 0} (sys : SparseSystem V F D) where
  -- what the assignment has at a variable
  abbrev pub standing : Assignment (Standing F D) → Variable → Option (Standing F D)
  standing a v = a (sys.numbers.number v)

  -- ## What is read

  -- what stands at a cell where it is kept for the node that the edge leaves
  abbrev pub seen_at : ℕ → Assignment (Standing F D) → ℕ → Option D
  seen_at e a x = cell_in (standing a (slot_at (kept_at sys (from sys e) x) x))

  -- the cells at which the edge may look, and what is in the scratch state at others
  abbrev pub seen : ℕ → Assignment (Standing F D) → ℕ → Option D
  seen e a x = cond (is_looked sys e x) (seen_at e a x) (sys.scratch x)

  -- something stands at each cell at which the edge may look
  abbrev pub is_ready : ℕ → (ℕ → Option D) → Bool
  is_ready e c = list_all (λ x. is_some (c x)) (sys.looked e)

  -- the state of a front and such cells
  abbrev pub small : ℕ → Option F → (ℕ → Option D) → Option V
  small e None c = None
  small e (Some f) c = cond (is_ready e c) (Some (sys.state_of f c)) None

  -- the state to which the edge's row is applied
  abbrev pub small_at : ℕ → Assignment (Standing F D) → Option V
  small_at e a = small e (front_in (standing a (front_at (from sys e)))) (seen e a)

  -- ## What is brought

  -- what a state has for a variable: its front, that there is one, or a cell
  abbrev pub part_of : Option V → Variable → Option (Standing F D)
  part_of None v = None
  part_of (Some s) (front_at n) = Some (fronted (sys.front s))
  part_of (Some s) (open_at e) = Some opened
  part_of (Some s) (slot_at n x) = option_map holding (sys.cell s x)

  -- the variables to which a rule brings something
  abbrev pub targets_of : Rule → List Variable
  targets_of entered = front_at 0 ∷ map (slot_at 0) sys.cells
  targets_of (row e) = front_at (to sys e) ∷ open_at e ∷ map (slot_at (to sys e)) (sys.touched e)
  targets_of (flow e x) = slot_at (to sys e) x ∷ []

  -- what an edge makes of what stands at a cell that it does not touch
  abbrev pub carried_along : ℕ → ℕ → Option (Standing F D) → Option (Standing F D)
  carried_along e x w = cond (sys.place.carries e x) (option_map (changed_standing (λ f. f) (sys.carry e x)) w) w

  -- and what it brings there
  abbrev pub brings : Rule → Assignment (Standing F D) → Variable → Option (Standing F D)
  brings entered a v = part_of sys.equations.entry v
  brings (row e) a v = part_of (brought (sys.equations.after e) (small_at e a)) v
  brings (flow e x) a v =
      passed (standing a (open_at e)) (carried_along e x (standing a (slot_at (kept_at sys (from sys e) x) x)))

  -- a row reads the front of the node that its edge leaves and the slots of the cells at which it may look, a flow
  -- whether its edge is open and where the cell is kept
  abbrev pub is_read : Rule → Variable → Bool
  is_read entered v = false
  is_read (row e) (front_at n) = n == from sys e
  is_read (row e) (open_at d) = false
  is_read (row e) (slot_at n x) = is_looked sys e x && (n == kept_at sys (from sys e) x)
  is_read (flow e x) (front_at n) = false
  is_read (flow e x) (open_at d) = d == e
  is_read (flow e x) (slot_at n y) = (y == x) && (n == kept_at sys (from sys e) x)

  -- a cell is rounded in its slot
  abbrev pub rounded_cell_at : Variable → D → D
  rounded_cell_at (slot_at n x) d = sys.outward n x d
  rounded_cell_at v d = d

  -- how high a front, and a cell, may be at a variable
  abbrev pub front_limit_at : Variable → ℕ
  front_limit_at (front_at n) = sys.front_limit n
  front_limit_at v = 0

  abbrev pub cell_limit_at : Variable → ℕ
  cell_limit_at (slot_at n x) = sys.cell_limit x
  cell_limit_at v = 0

  -- The constraints, by their numbers.
  abbrev pub front_constraints : Constraints (Standing F D)
  front_constraints = record {
    variable_count = sys.numbers.variable_count;
    constraint_count = sys.numbers.constraint_count;
    reads = λ k i. is_read (sys.numbers.rule k) (sys.numbers.variable i);
    targets = λ k. map sys.numbers.number (targets_of (sys.numbers.rule k));
    gives = λ k a j.
        let r = sys.numbers.rule k in brings r a (slice_index_or (targets_of r) j (front_at 0));
    outward = λ i. changed_standing (λ f. f) (rounded_cell_at (sys.numbers.variable i));
    height = λ w. height_in sys.front_height w.front + height_in sys.cell_height w.cell;
    limit = λ i. let v = sys.numbers.variable i in (front_limit_at v + 1) + (cell_limit_at v + 1);
  }

  -- ## Which assignments count

  module _ (fits_front : ℕ → F → Type 0) (fits_cell : ℕ → D → Type 0) where
    -- fronts stand at fronts of nodes alone, where they fit the node, and cells in slots alone, where they fit the cell
    abbrev pub FitsFrontAt : Variable → F → Type 0
    FitsFrontAt (front_at n) f = fits_front n f
    FitsFrontAt v f = ⊥

    abbrev pub FitsCellAt : Variable → D → Type 0
    FitsCellAt (slot_at n x) d = fits_cell x d
    FitsCellAt v d = ⊥

    abbrev pub FitsVariable : ℕ → Standing F D → Type 0
    FitsVariable i = HasParts (FitsFrontAt (sys.numbers.variable i)) (FitsCellAt (sys.numbers.variable i))

  -- a row may be applied where its state passes the check
  abbrev pub AllowsRule : (ℕ → V → Type 0) → Rule → Assignment (Standing F D) → Type 0
  AllowsRule checks (row e) a = IfSome (small_at e a) (checks e)
  AllowsRule checks r a = Unit {0}

  abbrev pub Allows : (ℕ → V → Type 0) → ℕ → Assignment (Standing F D) → Type 0
  Allows checks k a = AllowsRule checks (sys.numbers.rule k) a

  -- ## Read back

  -- the fronts and slots of an assignment
  abbrev pub fronts_of : Assignment (Standing F D) → Fronts F D
  fronts_of a = record {
    front_of = λ n. front_in (standing a (front_at n));
    is_open = λ e. is_some (standing a (open_at e));
    slot_of = λ n x. cond (sys.is_cell x) (cell_in (standing a (slot_at n x))) None;
  }
