-- What a task is about to store in a run lies in the weak entries of its store: so other tasks are told that the cell is
-- stored, and with which value.
use Rattle.std.proofs.Common.{◌≡◌, ◌≢◌, refl, sym, ap, subst, ◌∙◌, ℕ, ◌<◌, ◌≤◌, ◌^◌, Bool, true, List, length}
use Rattle.std.proofs.Common.{Option}
use Rattle.std.specs.Prelude.{pos}
use Rattle.std.specs.FinMap.{get-empty}
use Rattle.std.specs.Ordering.{nat_cmp}
use Rattle.std.proofs.lemmas.Bool.{false≢true}
use Rattle.sound_tables.specs.tm_terms.declared.places.Place.{Place}
use Rattle.sound_tables.specs.tm_laid.Layouts.{LaidTree, cell_of}
use Rattle.sound_tables.specs.concrete_values.declared.values.Value.{Value}
use Rattle.sound_tables.specs.concrete_values.declared.values.Value.TheVariants.{Number, Pointer as APointer}
use Rattle.sound_tables.specs.concrete_values.declared.values.Pointer.TheVariants as Pointers
use Rattle.sound_tables.specs.concrete_values.declared.actions.Next.{Next}
use Rattle.sound_tables.specs.concrete_steps.Worlds.{World, next_at}
use Rattle.sound_tables.specs.concrete_steps.Occurring.{IsReached, IsAccess, a_load_there, a_store_there}
use Rattle.sound_tables.specs.interfere_set.Stores.{Interferences}
use Rattle.sound_tables.specs.transfer_rows.StateForms.{State}
use Rattle.sound_tables.specs.transfer_rows.Contributions.{entry_at}
use Rattle.sound_tables.specs.interfere_set.strided_dom.Progression.{Has as HasNumber}
use Rattle.sound_tables.specs.program_reports.pointer_dom.PointerSets.{offsets_or_none}
use Rattle.sound_tables.specs.program_reports.pointer_dom.Values.{Values, no_value, IsValueIn}
use Rattle.sound_tables.specs.program_equations.Programs.{ProgramBodies, IsProgram}
use Rattle.sound_tables.specs.program_equations.Solutions.{IsPair}
use Rattle.sound_tables.specs.tm_soundness.Shape.{Shape, store, Content as AContent}
use Rattle.sound_tables.specs.tm_soundness.Tables.{Tables}
use Rattle.sound_tables.specs.tm_soundness.GraphWorlds.{Situation, IsAccess as IsEdgeAccess}
use Rattle.sound_tables.specs.tm_soundness.Shaped.{IsShaped}
use Rattle.sound_tables.specs.tm_soundness.Covers.{IsSolution, CoversStore}
use Rattle.sound_tables.specs.tm_soundness.Worlds.{Action, a_store, a_spins, Source, World as AWorld, Leaves, IsLowered}
use Rattle.sound_tables.specs.tm_soundness.Known.{IsKnown}
use Rattle.sound_tables.specs.tm_soundness.Numbered.{TaskOf}
use Rattle.sound_tables.specs.program_shape.Shape.{Parts, number_of, abstract_of_cell, IsShared}
use Rattle.sound_tables.specs.Memberships.{scalar_as}
use Rattle.sound_tables.proofs.Lawful.{shapes_lawful, pairs_cover}
use Rattle.sound_tables.proofs.low.program_shape.TaskNumbers.{IsNumbered}
use Rattle.sound_runs.specs.Sources.{action_of}
use Rattle.sound_runs.specs.Programs.{first_temps, source_in}
use Rattle.sound_runs.specs.Known.{tasks_in}
use Rattle.sound_runs.proofs.Moved.{next_is}
use Rattle.sound_core.specs.Sound.{IsProgramFrom}
use Rattle.sound_core.specs.Places.{MayAct}
use Rattle.sound_core.proofs.NextEdges.{here, IsNextEdge, next_edge}
use Rattle.sound_core.proofs.GroupedAccesses.{x as parts_in, P as shape_for, T as tables_for, Known, good, lowered}
use Rattle.sound_core.proofs.GroupedAccesses.{tasks_known, task_of}

-- ## In a world of the theorem's

store_acts : (P : Shape) (N : Source P) (a : Action P N.Object) (c : P.Cell) (v : P.Value) → a ≡ a_store c v
    → a ≡ a_spins → ⊥
store_acts P N a c v e f = cc

module _ (P : Shape) (T : Tables P) (N : Source P) (memory : P.Cell → AContent P.Value)
    (temps : P.Task → P.Valuation) (C : AWorld P N) (k : IsKnown P T N memory temps C) (shape : IsShaped P)
    (sol : IsSolution P T) (lowered_is : IsLowered P N temps) where
  abbrev z : P.Task → Situation P
  z i = here P T N memory temps C k i

  -- the task's weak entries have the value at the cell, under some mutexes
  record IsTold (i : P.Task) (c : P.Cell) (v : P.Value) : Type 0 where
    held : P.Held
    told : T.weak i held (P.abstract_cell c) v

  store_told : (i : P.Task) (c : P.Cell) (v : P.Value) → N.next i (C.answers i) ≡ a_store c v
      → P.shared (P.abstract_cell c) → IsTold i c v
  store_told i c v is shared =
      let x = lowered_is.at_store i (C.answers i) (z i).node (z i).temps c v (k.stands i) is in
      let l : Leaves P N i (z i).node (store x.0 x.1) = x.2 in
      let n : IsNextEdge P T N memory temps C k i l.edge =
      next_edge P T N memory temps C k shape sol lowered_is i (store x.0 x.1) l
      (λ e. store_acts P N (N.next i (C.answers i)) c v is e) in
      let a : IsEdgeAccess P l.edge (z i).temps x.0 c = x.3 in
      let covers : CoversStore P T l.edge (z i).temps (P.value_of (z i).temps x.1) c =
      sol.stores l.edge (z i).temps x.0 x.1 c l.operation n.inside a in
      record {
        held = P.held (P.from l.edge);
        told = subst (λ u. T.weak i (P.held (P.from l.edge)) (P.abstract_cell c) u) x.4
            (subst (λ j. T.weak j (P.held (P.from l.edge)) (P.abstract_cell c) (P.value_of (z i).temps x.1)) l.actor
            (covers.added shared));
      }

-- ## In a world that a run reaches

-- nothing lies in the empty set
none_in : (v : Value) → IsValueIn no_value (scalar_as v) → ⊥
unfolding HasNumber
none_in (Number n) h = h
none_in (APointer Pointers.Null) h = absurd (false≢true h)
none_in (APointer Pointers.Invalid) h = absurd (false≢true h)
none_in (APointer (Pointers.To object offset)) h =
    subst (λ o. HasNumber (offsets_or_none o).offsets (pos offset)) (get-empty nat_cmp object) h

not_none : (a : Values) (v : Value) → IsValueIn a (scalar_as v) → a ≢ no_value
not_none a v h e = none_in v (subst (λ x. IsValueIn x (scalar_as v)) e h)

-- the action of a store
stored_by : (y : Parts) (object offset : ℕ) (n : Next) (is_store : Bool) (place : Place)
    → IsAccess object offset n is_store place → is_store ≡ true
    → (v : Value) × (action_of y n ≡ a_store (cell_of y.laid object offset) v)
stored_by y object offset n is_store place (a_load_there {scalar} {volatile} {p = q}) e = absurd (false≢true e)
stored_by y object offset n is_store place (a_store_there {scalar} {x = v} {p = q}) e = (v, refl)

module _ (laid : LaidTree) (p : ProgramBodies) (from : IsProgramFrom laid p) (is : IsProgram p)
    (few : length laid.objects ≤ 2 ^ 32) (tables : List (List (Option State))) (store_of : Interferences)
    (pair : IsPair p tables store_of) (w : World) (reached : IsReached laid w) where
  abbrev y : Parts
  y = parts_in laid p from is few tables store_of pair w reached

  abbrev P' : Shape
  P' = shape_for laid p from is few tables store_of pair w reached

  abbrev T' : Tables P'
  T' = tables_for laid p from is few tables store_of pair w reached

  -- an entry of the task has something at the cell
  pub record IsWritten (task cell : ℕ) : Type 0 where
    pub held : ℕ
    pub some : entry_at store_of.weak task held cell ≢ no_value

  -- and has this value there
  pub record IsWrittenAs (task cell : ℕ) (v : Value) : Type 0 where
    pub held : ℕ
    pub has : IsValueIn (entry_at store_of.weak task held cell) (scalar_as v)

  stored_as : (i : TaskOf p.tasks) (memory : ℕ → AContent Value)
      → Known laid p from is few tables store_of pair w reached memory → (cell : ℕ) (v : Value)
      → action_of y (next_at laid w (number_of p.tasks i)) ≡ a_store cell v
      → IsShared p.laid (abstract_of_cell p.laid cell)
      → IsWrittenAs (number_of p.tasks i) (abstract_of_cell p.laid cell) v
  stored_as i memory known cell v is_store shared =
      let n = next_is laid w (number_of p.tasks i) in
      let told = store_told P' T' (source_in laid y) memory (λ j. first_temps) (tasks_in laid y w) known
      (shapes_lawful p is (good laid p from is few tables store_of pair w reached)).0
      (pairs_cover p is (good laid p from is few tables store_of pair w reached) tables store_of pair).0
      (lowered laid p from is few tables store_of pair w reached) i cell v (ap (action_of y) (sym n) ∙ is_store) shared in
      record { held = told.held; has = told.told }

  -- a task that is about to store to an object of static storage
  pub written_as : (task : ℕ) → task < length laid.file.tasks → MayAct laid w task → (cell : ℕ) (v : Value)
      → action_of y (next_at laid w task) ≡ a_store cell v → IsShared p.laid (abstract_of_cell p.laid cell)
      → IsWrittenAs task (abstract_of_cell p.laid cell) v
  written_as task lt may cell v is_store shared =
      let t : IsNumbered p.tasks task = task_of laid p from is few tables store_of pair w reached task lt in
      let k = tasks_known laid p from is few tables store_of pair w reached task lt may in
      subst (λ j. IsWrittenAs j (abstract_of_cell p.laid cell) v) t.is
      (stored_as t.task k.0 k.1 cell v
      (subst (λ j. action_of y (next_at laid w j) ≡ a_store cell v) (sym t.is) is_store) shared)

  pub written : (task : ℕ) → task < length laid.file.tasks → MayAct laid w task → (object offset : ℕ) (place : Place)
      → IsAccess object offset (next_at laid w task) true place
      → IsShared p.laid (abstract_of_cell p.laid (cell_of p.laid object offset))
      → IsWritten task (abstract_of_cell p.laid (cell_of p.laid object offset))
  written task lt may object offset place access shared =
      let s = stored_by y object offset (next_at laid w task) true place access refl in
      let a = written_as task lt may (cell_of p.laid object offset) s.0 s.1 shared in
      record {
        held = a.held;
        some = not_none (entry_at store_of.weak task a.held (abstract_of_cell p.laid (cell_of p.laid object offset))) s.0
            a.has;
      }
