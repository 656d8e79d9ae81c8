-- What stands in a cell that a body may read is a value of the state where the body waits, or of what another task wrote.
use Rattle.std.proofs.Common.{◌≡◌, ◌≢◌, ◌⊎◌, inl, inr, refl, sym, subst, ◌∙◌, ℕ}
use Rattle.sound_tables.specs.tm_laid.Layouts.{LaidTree}
use Rattle.sound_tables.specs.concrete_values.declared.values.Value.{Value}
use Rattle.sound_tables.specs.interfere_set.Stores.{Interferences}
use Rattle.sound_tables.specs.transfer_rows.StateForms.{State, own_of}
use Rattle.sound_tables.specs.transfer_rows.Contributions.{entry_at}
use Rattle.sound_tables.specs.program_reports.pointer_dom.Values.{IsValueIn}
use Rattle.sound_tables.specs.program_reports.table_covers.Solutions.{NodeTable}
use Rattle.sound_tables.specs.program_equations.Programs.{ProgramBodies}
use Rattle.sound_tables.specs.tm_soundness.Shape.{Shape, Content as AContent, given, Reads, reads_given}
use Rattle.sound_tables.specs.tm_soundness.Tables.{Tables}
use Rattle.sound_tables.specs.tm_soundness.Section.{Section, alone}
use Rattle.sound_tables.specs.tm_soundness.Worlds.{World as AWorld}
use Rattle.sound_tables.specs.tm_soundness.Known.{IsKnown}
use Rattle.sound_tables.specs.tm_soundness.Numbered.{TaskOf}
use Rattle.sound_tables.specs.program_shape.Shape.{Parts, Node, IsShared, IsOwned, abstract_of_cell}
use Rattle.sound_tables.specs.Programs.{part_of, parts_of, section_alone}
use Rattle.sound_tables.specs.Memberships.{HasState, state_at, tables_of, section_tables, scalar_as}
use Rattle.sound_tables.proofs.Pairs.{number_same}
use Rattle.sound_runs.specs.Programs.{first_temps, first_memory, shape_in, section_in, source_in, section_source_in}

-- a cell of static storage, or one of the body's own
abbrev pub MayRead : ProgramBodies → ℕ → ℕ → Type 0
MayRead p t cell = IsShared p.laid (abstract_of_cell p.laid cell) ⊎ IsOwned p.laid (abstract_of_cell p.laid cell) t

-- a task other than the body wrote the value to the abstract cell
pub record IsFromOthers (store : Interferences) (t x : ℕ) (v : Value) : Type 0 where
  pub task : ℕ
  pub held : ℕ
  pub other : task ≢ t
  pub entered : IsValueIn (entry_at store.weak task held x) (scalar_as v)

-- the value is one of the abstract cell at the node where the body waits, or another task wrote it
abbrev pub IsRead : (p : ProgramBodies) (tables : ℕ → NodeTable State) → Interferences → (n : ℕ)
    (number : TaskOf n → ℕ) (rank : ℕ → ℕ) (i : TaskOf n) → Node (part_of p n number rank) → ℕ → Value → Type 0
IsRead p tables store n number rank i q x v =
    HasState (state_at p n number rank tables q) (λ s. IsValueIn (own_of s x) (scalar_as v))
    ⊎ IsFromOthers store (number i) x v

given_same : (u v : Value) → (let k : AContent Value = given u in k) ≡ given v → u ≡ v
given_same u v e = cc

module _ (laid : LaidTree) (p : ProgramBodies) (tables : ℕ → NodeTable State) (store : Interferences) where
  abbrev x : Parts
  x = parts_of p

  abbrev P : Shape
  P = shape_in laid x

  abbrev T : Tables P
  T = tables_of p tables store

  -- where a task waits
  module _ (memory : ℕ → AContent Value) (C : AWorld P (source_in laid x))
      (k : IsKnown P T (source_in laid x) memory (λ i. first_temps) C) (i : TaskOf p.tasks) (cell : ℕ) (v : Value)
      (stands : C.content cell ≡ given v) where
    abbrev q : Node x
    q = (let kept = k.kept in (let z = kept.world in (let s = z.situation i in s.node)))

    pub task_reads : MayRead p (x.number i) cell
        → IsRead p tables store p.tasks x.number x.rank i q (abstract_of_cell p.laid cell) v
    task_reads (inl shared) =
        let h = k.contents i cell shared in
        let same : h.0 ≡ v = given_same h.0 v (sym h.1 ∙ stands) in
        subst (IsRead p tables store p.tasks x.number x.rank i q (abstract_of_cell p.laid cell)) same (by_place h.0 h.2)
      where
        by_place : (u : Value) → T.own q (abstract_of_cell p.laid cell) u
            ⊎ ((j : TaskOf p.tasks) × (l : ℕ) × (j ≡ i → ⊥) × T.weak j l (abstract_of_cell p.laid cell) u)
            → IsRead p tables store p.tasks x.number x.rank i q (abstract_of_cell p.laid cell) u
        by_place u (inl own) = inl own
        by_place u (inr o) =
            inr (record {
              task = x.number o.0;
              held = o.1;
              other = λ e. o.2 (number_same p.tasks o.0 i e);
              entered = o.3;
            })
    task_reads (inr owned) =
        inl (k.locals i cell owned v (subst (λ c. Reads P (abstract_of_cell p.laid cell) c v) (sym stands) reads_given))

  -- where the initial section waits, which hears nobody
  abbrev X : Section P
  X = section_in laid x

  abbrev U : Tables (alone P X)
  U = section_tables p tables

  abbrev s : Parts
  s = section_alone p

  module _ (C : AWorld (alone P X) (section_source_in laid x))
      (k : IsKnown (alone P X) U (section_source_in laid x) (first_memory laid) (λ i. first_temps) C) (cell : ℕ)
      (v : Value) (stands : C.content cell ≡ given v) where
    abbrev o : Node s
    o = (let kept = k.kept in (let z = kept.world in (let situation = z.situation tt in situation.node)))

    pub section_reads : MayRead p p.tasks cell
        → IsRead p tables store 1 s.number s.rank tt o (abstract_of_cell p.laid cell) v
    section_reads (inl shared) =
        let h = k.contents tt cell shared in
        let same : h.0 ≡ v = given_same h.0 v (sym h.1 ∙ stands) in
        subst (IsRead p tables store 1 s.number s.rank tt o (abstract_of_cell p.laid cell)) same (by_place h.0 h.2)
      where
        by_place : (u : Value) → U.own o (abstract_of_cell p.laid cell) u
            ⊎ ((j : Unit {0}) × (l : ℕ) × (j ≡ tt → ⊥) × U.weak j l (abstract_of_cell p.laid cell) u)
            → IsRead p tables store 1 s.number s.rank tt o (abstract_of_cell p.laid cell) u
        by_place u (inl own) = inl own
        by_place u (inr h) = absurd (h.2 refl)
    section_reads (inr owned) =
        inl (k.locals tt cell owned v
        (subst (λ c. Reads (alone P X) (abstract_of_cell p.laid cell) c v) (sym stands) reads_given))
