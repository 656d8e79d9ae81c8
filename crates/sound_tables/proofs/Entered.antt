-- The tasks enter with what memory holds: at the start, or after the initial section.
use Rattle.std.specs.Prelude.{◌≡◌, ℕ, ◌<◌, false, length}
use Rattle.std.specs.Prelude.{is_none}
use Rattle.std.specs.Prelude.{Option, Some, IfSome}
use Rattle.std.proofs.Common.{refl, sym, ap, subst, ◌∙◌, inl, inr}
use Rattle.program_shape.specs.tm_laid.Layouts.{LaidTree, object_at, cell_at, abstract_at}
use Rattle.program_shape.specs.concrete_values.declared.values.Value.{Value}
use Rattle.program_shape.specs.concrete_values.Values.{nothing}
use Rattle.program_shape.specs.flow_graph.Operations.{Temps}
use Rattle.program_reports.specs.pointer_dom.Values.{Values, IsValueIn}
use Rattle.program_reports.specs.interfere_set.Stores.{Interferences}
use Rattle.program_reports.specs.transfer_rows.StateForms.{State}
use Rattle.program_reports.specs.edge_actions.Layouts.{is_shared_cell, open_value}
use Rattle.program_reports.specs.table_covers.Solutions.{NodeTable, IsSolution}
use Rattle.program_reports.specs.task_equations.Equations.{equations_of}
use Rattle.program_reports.specs.program_equations.Programs.{ProgramBodies, body_at, IsProgram}
use Rattle.program_reports.specs.program_equations.Entries.{initial_of, entry_state, first_state}
use Rattle.program_reports.specs.program_equations.Systems.{states, FitsBody, FitsProgram}
use Rattle.program_shape.specs.tm_soundness.Numbered.{TaskOf}
use Rattle.program_shape.specs.tm_soundness.Shape.{Shape, Content, Reads}
use Rattle.program_shape.specs.tm_soundness.Tables.{Tables}
use Rattle.program_shape.specs.tm_soundness.Covers as covers
use Rattle.program_shape.specs.Shape.{IsShared, IsOwned, abstract_of_cell, shape_of}
use Rattle.sound_tables.specs.Programs.{part_of}
use Rattle.sound_tables.specs.Premises.{LaysCells, IsGraphOf}
use Rattle.sound_tables.specs.Memberships.{scalar_as, state_at, tables_with}
use Rattle.sound_tables.specs.Starting.{initial_as, AreCleared, IsStartMemory}
use Rattle.sound_tables.proofs.Covering.{got, usable_reaches, shared_test, cell_within}
use Rattle.sound_tables.proofs.Openings.{read_open}
use Rattle.sound_tables.proofs.EntryStates.{static_own, local_own, none_fresh, none_stored, initial_held}
use Rattle.sound_tables.proofs.Entering.{IsEntered, entered, all_in}

none_false : (o : Option ℕ) (q : ℕ) → o ≡ Some q → is_none o ≡ false
none_false o q e = ap is_none e

pub local_test : (laid : LaidTree) (x body : ℕ) → IsOwned laid x body → is_shared_cell laid x ≡ false
local_test laid x body h = none_false (object_at laid (abstract_at laid x).object).owner h.path h.owner

module _ (p : ProgramBodies) (is : IsProgram p) (n : ℕ) (number : TaskOf n → ℕ) (rank : ℕ → ℕ)
    (within : (i : TaskOf n) → number i < length p.bodies) (graphs : (i : TaskOf n) → IsGraphOf p (number i))
    (tables : ℕ → NodeTable State) (store : Interferences) (store-fits : FitsProgram p store)
    (entry : TaskOf n → Option State)
    (entry-fits : (i : TaskOf n) → IfSome (entry i) (FitsBody (body_at p (number i)) 0))
    (solves : (i : TaskOf n) → IsSolution states (FitsBody (body_at p (number i)))
    (equations_of (body_at p (number i)) (entry i) store) (tables (number i)))
    (cells : LaysCells p.laid) (weak sync : TaskOf n → ℕ → ℕ → Value → Type 0) (memory : ℕ → Content Value) where
  abbrev P : Shape
  P = shape_of (part_of p n number rank)

  abbrev T : Tables P
  T = tables_with p n number rank tables weak sync

  -- a task that begins in an entry state with these values of static cells
  module _ (i : TaskOf n) (values : ℕ → Values)
      (begins : entry i ≡ Some (entry_state p.laid (number i) values)) where
    abbrev begin : State
    begin = entry_state p.laid (number i) values

    k : IsEntered p is n number rank within graphs tables store store-fits entry entry-fits solves i begin begins
    k = entered p is n number rank within graphs tables store store-fits entry entry-fits solves i begin begins

    pub entry_inside : (temps : Temps) → T.inside (P.entry i) temps
    entry_inside temps = record {
      state = k.state;
      is = k.stands;
      holds = all_in p is n number rank within graphs tables store store-fits entry entry-fits solves i begin begins k
          (λ t. scalar_as (temps t));
    }

    pub entry_static : (x : ℕ) (v : Value) → IsShared p.laid x → IsValueIn (values x) (scalar_as v)
        → T.own (P.entry i) x v
    entry_static x v shared h =
        let reach = usable_reaches p.laid (number i) x (inl shared) in record {
          state = k.state;
          is = k.stands;
          holds = k.own_raised x (scalar_as v) (static_own p.laid (number i) values x (scalar_as v)
              (record { cell = reach.0; seen = reach.1 }) (shared_test p.laid x shared) h);
        }

    pub entry_local : AreCleared p.laid memory → (c : ℕ) (v : Value)
        → IsOwned p.laid (abstract_of_cell p.laid c) (number i)
        → Reads P (abstract_of_cell p.laid c) (memory c) v → T.own (P.entry i) (abstract_of_cell p.laid c) v
    entry_local cleared c v own reads =
        let x = abstract_of_cell p.laid c in
        let reach = usable_reaches p.laid (number i) x (inr own) in
        let there = cell_within p.laid c x refl own.within in
        let scalar : (abstract_at p.laid x).scalar ≡ (cell_at p.laid c).scalar =
        ap (λ z. (abstract_at p.laid z).scalar) (sym there.1) ∙ cells.scalars c there.0 in
        record {
          state = k.state;
          is = k.stands;
          holds = k.own_raised x (scalar_as v) (local_own p.laid (number i) values x (scalar_as v)
              (record { cell = reach.0; seen = reach.1 }) (local_test p.laid x (number i) own)
              (subst (λ z. IsValueIn (open_value z) (scalar_as v)) (sym scalar)
              (read_open (part_of p n number rank) x (cell_at p.laid c).scalar v
              (subst (λ z. Reads P x z v) (cleared c (number i) own) reads) scalar)));
        }

    pub entry_fresh : (x : ℕ) → T.fresh (P.entry i) x → ⊥
    entry_fresh x h =
        none_fresh p.laid (number i) values x (k.fresh_lowered x
        (got (state_at p n number rank tables (P.entry i)) k.state k.stands h))

    pub entry_stored : (x : ℕ) → T.stored (P.entry i) x → ⊥
    entry_stored x h =
        none_stored p.laid (number i) values x (k.stored_lowered x
        (got (state_at p n number rank tables (P.entry i)) k.state k.stands h))

    pub entry_copies : (t x : ℕ) → T.copy (P.entry i) t x → ⊥
    entry_copies t x h =
        let c = got (state_at p n number rank tables (P.entry i)) k.state k.stands h in
        k.no_temps t c.entry c.stands

  -- Before anything has run: each body begins with the initial values.
  pub first_entered : ((i : TaskOf n) → entry i ≡ Some (first_state p.laid (number i))) → IsStartMemory p.laid memory
      → covers.IsEntered P T memory (λ i t. nothing)
  first_entered begins start = record {
    inside = λ i. entry_inside i (initial_of p.laid) (begins i) (λ t. nothing);
    shared = λ c shared.
        let k = start.statics c shared in
        let there = cell_within p.laid c (abstract_of_cell p.laid c) refl shared.within in (
          initial_as k.initial,
          k.stands,
          λ i. entry_static i (initial_of p.laid) (begins i)
              (abstract_of_cell p.laid c) (initial_as k.initial) shared
              (initial_held p is c (abstract_of_cell p.laid c) k.initial k.is k.within k.there there.1),
        );
    local = λ i c v own reads. entry_local i (initial_of p.laid) (begins i) start.locals c v own reads;
    fresh = λ i x h. entry_fresh i (initial_of p.laid) (begins i) x h;
    stored = λ i x h. entry_stored i (initial_of p.laid) (begins i) x h;
    copies = λ i t x h. entry_copies i (initial_of p.laid) (begins i) t x h;
  }
