-- What an operation does to temporaries, and with which class it may fail, as the rows of states read it.
use Rattle.std.specs.Prelude.{◌≡◌, ◌⊎◌, ℕ, Bool, List}
use Rattle.program_shape.specs.tm_cint.declared.Class.{Class}
use Rattle.program_shape.specs.tm_cint.declared.Class.TheVariants.{Pointer as PointerClass}
use Rattle.program_shape.specs.tm_laid.Layouts.{LaidTree, object_at}
use Rattle.program_shape.specs.flow_graph.declared.graphs.Edge.{Edge}
use Rattle.program_shape.specs.flow_graph.Operations.{Temps}
use Rattle.program_shape.specs.flow_graph.Graphs.{Among}
use Rattle.program_reports.specs.pointer_dom.Pointer.{ScalarValue, pointer, invalid}
use Rattle.program_reports.specs.pointer_dom.Values.{IsValueIn}
use Rattle.program_reports.specs.transfer_rows.StateForms.{State}
use Rattle.program_reports.specs.transfer_rows.Actions.{Action, skips, gives, refines, loads, loads_any, stores, usable}
use Rattle.program_reports.specs.transfer_rows.Meanings.{Valuation, put, MayGive, Fails as MayFail, Passes, IsOperand}
use Rattle.program_reports.specs.transfer_rows.Meanings.{IsFiltered}
use Rattle.program_reports.specs.transfer_rows.Covering.{AreIn}
use Rattle.program_reports.specs.temporary_types.Sorts.{types_of}
use Rattle.program_reports.specs.state_fits.Kinds.{OfTypes}
use Rattle.program_reports.specs.state_fits.Fits.{FitsPlace}
use Rattle.program_reports.specs.temporary_types.Sorts.{Sort}
use Rattle.program_reports.specs.task_equations.Bodies.{live_at}
use Rattle.program_reports.specs.program_equations.Programs.{ProgramBodies, body_at}
use Rattle.program_shape.specs.Shape.{Does, Fails}
use Rattle.sound_tables.specs.Memberships.{scalars_as, action_at}

module _ (sizes : ℕ → ℕ) where
  -- control goes on by itself, or with a chosen value: so from these temporaries to those
  abbrev pub Means : Action → Valuation → Valuation → Type 0
  Means skips temps temps' = temps' ≡ temps
  Means (gives target calculation) temps temps' =
      (w : ScalarValue) × MayGive sizes temps calculation w × (temps' ≡ put temps target w)
  Means (refines filter) temps temps' = Passes temps filter × (temps' ≡ temps)
  Means (loads_any spots target address range) temps temps' =
      (w : ScalarValue) × IsValueIn range w × (temps' ≡ put temps target w)
  Means action temps temps' = ⊥

  -- an error stops it
  abbrev pub FailsAs : Action → Valuation → Class → Type 0
  FailsAs (gives target calculation) temps class = MayFail sizes temps calculation class
  FailsAs (refines (usable source)) temps class = (class ≡ PointerClass) × (temps source ≡ pointer invalid)
  FailsAs action temps class = ⊥

-- the temporary is one that the action uses
abbrev pub IsUsed : Action → ℕ → Type 0
IsUsed (gives target calculation) u = IsOperand calculation u
IsUsed (refines filter) u = IsFiltered filter u
IsUsed (loads spots target address) u = u ≡ address
IsUsed (loads_any spots target address range) u = u ≡ address
IsUsed (stores spots address source) u = (u ≡ address) ⊎ (u ≡ source)
IsUsed action u = ⊥

-- the sizes of objects
abbrev pub sizes_of : LaidTree → ℕ → ℕ
sizes_of laid object = (object_at laid object).cells

-- What operations of a body do on single values is what the rows say of it, where temporaries lie in a state that fits
-- the place.
pub record HaveMeanings (p : ProgramBodies) (t : ℕ) (sorts : List Sort) : Type 0 where
  pub does : (e : Edge) → (let b = body_at p t in Among e b.edges) → (s : State)
      → FitsPlace p.laid t (OfTypes p.laid (types_of sorts)) (live_at (body_at p t) e.from) s → (temps temps' : Temps)
      → AreIn s (scalars_as temps) → Does p.laid e.op temps temps'
      → (answer : Bool) → Means (sizes_of p.laid) (action_at p t answer e.op) (scalars_as temps) (scalars_as temps')
  pub fails : (e : Edge) → (let b = body_at p t in Among e b.edges) → (s : State)
      → FitsPlace p.laid t (OfTypes p.laid (types_of sorts)) (live_at (body_at p t) e.from) s → (temps : Temps)
      (class : Class) → AreIn s (scalars_as temps) → Fails p.laid e.op temps class
      → (answer : Bool) → FailsAs (sizes_of p.laid) (action_at p t answer e.op) (scalars_as temps) class
