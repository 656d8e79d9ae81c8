-- A program with one task that does nothing keeps what the equations ask of programs, and its pass adds nothing.
use Rattle.std.specs.Prelude.{◌≡◌, ◌<◌, ℕ, zero, suc, ℤ, List, [], ◌∷◌, None, refl}
use Rattle.std.proofs.Common.{arith}
use Rattle.region_cells.specs.tm_typed.declared.types.Scalar.{Scalar}
use Rattle.region_cells.specs.tm_typed.Files.{TypedFileTree}
use Rattle.region_cells.specs.tm_laid.Layouts.{LaidTree}
use Rattle.task_equations.specs.mutex_configs.Nodes.{entry_node}
use Rattle.edge_filters.specs.cell_env.Cells.{IsWithin}
use Rattle.edge_filters.specs.interfere_set.Stores.{Interferences, no_interference}
use Rattle.edge_filters.specs.transfer_rows.Actions.{Spot}
use Rattle.edge_filters.specs.transfer_rows.Meanings.{IsSpotOf}
use Rattle.edge_filters.specs.edge_actions.Layouts.{spots_of}
use Rattle.task_equations.specs.typed_values.Types.{HaveEnds}
use Rattle.task_equations.specs.state_fits.Fits.{file_set}
use Rattle.task_equations.specs.state_fits.laws.FileSets.{none_within}
use Rattle.task_equations.specs.Bodies.{Body, node_at}
use Rattle.task_equations.specs.Premises.{IsBody}
use Rattle.program_equations.specs.Programs.{ProgramBodies, IsBodyAt, IsProgram}
use Rattle.program_equations.specs.Systems.{pass_of}

module _ (file : TypedFileTree) (marks : List ℤ) (ends : HaveEnds marks) where
  -- no object, and one task
  abbrev layout : LaidTree
  layout = record {
    file = file;
    bodies = 0 ∷ [];
    first_paths = 0 ∷ [];
    paths = record { body = 0; function = 0; caller = None; paths = 1 } ∷ [];
    callees = [] ∷ [];
    first_objects = 0 ∷ [];
    statics = [];
    objects = [];
    cells = [];
    abstract_cells = [];
    initial = [];
  }

  -- the entry alone, and no edge
  abbrev idle : Body
  idle = record {
    laid = layout;
    task = 0;
    priorities = 1 ∷ 0 ∷ [];
    edges = [];
    nodes = entry_node ∷ [];
    copies = [];
    marks = marks;
    live = [] ∷ [];
    pointers = [];
    heads = [];
    written = [];
  }

  abbrev program : ProgramBodies
  program = record {
    laid = layout;
    marks = marks;
    tasks = 1;
    priorities = 1 ∷ 0 ∷ [];
    bodies = idle ∷ [];
  }

  no_spot : (scalar : Scalar) (spot : Spot) → IsSpotOf (spots_of layout 0 scalar) spot → ⊥
  unfolding spots_of
  no_spot scalar spot h = h

  none_held : (n : ℕ) → n < 1 → (let q = node_at idle n in IsWithin q.held (file_set layout))
  none_held zero lt = none_within (file_set layout)
  none_held (suc n) lt = absurd (omega (arith, lt))

  idle_is : IsBody idle []
  idle_is = record {
    some = omega arith;
    copies = λ k lt. absurd (let none : k < 0 = lt in omega (arith, none));
    held = none_held;
    entry = refl;
    marks = ends;
    spots = λ scalar spot h. absurd (no_spot scalar spot h);
    seen = λ scalar spot h. absurd (no_spot scalar spot h);
    operations = λ k lt. absurd (let none : k < 0 = lt in omega (arith, none));
    objects = λ k lt. absurd (let none : k < 0 = lt in omega (arith, none));
    settled = tt;
    flow = λ k lt t live other. absurd (let none : k < 0 = lt in omega (arith, none));
  }

  each : (t : ℕ) → t < 1 → IsBodyAt program t []
  each zero lt = record {
    body = idle_is;
    numbered = record { laid = refl; number = refl; priorities = refl; marks = refl };
    entry = refl;
    begins = refl;
    tests = λ k within. absurd (let none : k < 0 = within in omega (arith, none));
    within = λ scalar spot h. absurd (no_spot scalar spot h);
  }
  each (suc t) lt = absurd (omega (arith, lt))

  program_is : IsProgram program
  program_is = record {
    sorts = λ t. [];
    each = each;
    tasks = omega arith;
    section = omega arith;
    priorities = refl;
    initial = λ cell lt. absurd (let none : cell < 0 = lt in omega (arith, none));
    few_cells = omega arith;
    few = omega arith;
  }

  adds_nothing : (store : Interferences) → pass_of program 0 store ≡ no_interference
  unfolding pass_of
  adds_nothing store = refl
