-- The shape of a program's bodies is what the soundness theorem asks.
use Rattle.std.specs.Prelude.{◌≡◌, ℕ, ◌<◌, cond, true, length, Some, None}
use Rattle.std.proofs.Common.{refl, sym, ap, subst, ◌∙◌}
use native.Mathlib.Decide.{dec_lt}
use Rattle.program_reports.proofs.low.edge_actions.Lists.{lt_test}
use Rattle.program_shape.specs.tm_laid.Layouts.{LaidTree, path_at, object_at, cell_at}
use Rattle.program_shape.specs.concrete_steps.Worlds.{is_part}
use Rattle.program_shape.specs.flow_graph.declared.graphs.Edge.{Edge}
use Rattle.program_shape.specs.flow_graph.declared.operations.Operation.{Operation as GraphOperation}
use Rattle.program_shape.specs.flow_graph.declared.operations.Operation.TheVariants as Op
use Rattle.program_shape.specs.flow_graph.Graphs.{IsSure}
use Rattle.program_reports.specs.program_equations.Programs.{ProgramBodies, body_at}
use Rattle.program_shape.specs.tm_soundness.Numbered.{TaskOf}
use Rattle.program_shape.specs.tm_soundness.Shape.{Shape, Operation, calculation, load, load_any, store, clear}
use Rattle.program_shape.specs.tm_soundness.Shape.{probe}
use Rattle.program_shape.specs.tm_soundness.Shaped.{IsShaped, Passes}
use Rattle.program_shape.specs.Shape.{Has, IsOwned, IsPartOf, Clears, abstract_of_cell}
use Rattle.program_shape.specs.Shape.{operation_of, shape_of, truth}
use Rattle.sound_tables.specs.Programs.{part_of}
use Rattle.sound_tables.specs.Premises.{LaysCells, IsGraphOf}
use Rattle.sound_tables.proofs.MutexSets.{none_in, in_with, with_old, in_without, without_old}
use Rattle.sound_tables.proofs.SetsAfter.{IsQuiet, quiet_sets, is_lock, lock_sets, unlock_sets, yield_sets, free_sets}
use Rattle.sound_tables.proofs.Forks.{alone}

none_some : {A : Type 0} (a : A) → None ≡ Some a → ⊥
none_some a e = cc

pub abstract_within : (laid : LaidTree) (cell : ℕ) → cell < length laid.cells
    → abstract_of_cell laid cell ≡ (cell_at laid cell).abstract_cell
abstract_within laid cell lt =
    ap (λ b. cond b (cell_at laid cell).abstract_cell (length laid.abstract_cells))
    (lt_test cell (length laid.cells) lt)

clears_is : (laid : LaidTree) (op : GraphOperation) (cell : ℕ) → Clears laid op cell
    → (object : ℕ) × (op ≡ Op.Clear object) × IsPartOf laid object cell
clears_is laid (Op.Clear object) cell h = (object, refl, h)
clears_is laid op cell h = absurd h

is_part_of : (laid : LaidTree) (object cell : ℕ) → Dec (cell < length laid.cells)
    → Dec (is_part laid object cell ≡ true) → Dec (IsPartOf laid object cell)
is_part_of laid object cell (yes a) (yes b) = yes (record { within = a; part = b })
is_part_of laid object cell (no a) b = no (λ h. a h.within)
is_part_of laid object cell (yes a) (no b) = no (λ h. b h.part)

may_clear_by : (laid : LaidTree) (op : GraphOperation) (cell : ℕ) → Dec (Clears laid op cell)
may_clear_by laid (Op.Clear object) cell =
    is_part_of laid object cell (dec_lt cell (length laid.cells)) (truth (is_part laid object cell))
may_clear_by laid op cell = no (λ h. h)

module _ (p : ProgramBodies) (n : ℕ) (number : TaskOf n → ℕ) (rank : ℕ → ℕ) (cells : LaysCells p.laid)
    (graphs : (i : TaskOf n) → IsGraphOf p (number i)) (apart : (i k : TaskOf n) → number i ≡ number k → i ≡ k) where
  abbrev P : Shape
  P = shape_of (part_of p n number rank)

  some_of : (x : ℕ) (i : TaskOf n) → IsOwned p.laid x (number i)
      → (c : ℕ) × (abstract_of_cell p.laid c ≡ x)
  some_of x i h =
      let k = cells.some x h.within in (k.0, abstract_within p.laid k.0 k.1 ∙ k.2)

  own_of : (e : P.Edge) (c : ℕ) → Clears p.laid e.edge.op c
      → IsOwned p.laid (abstract_of_cell p.laid c) (number e.actor)
  own_of e c h =
      let k = clears_is p.laid e.edge.op c h in
      let part : IsPartOf p.laid k.0 c = k.2 in
      let own = ((graphs e.actor).clears e.edge k.0 e.among k.1).1 in
      let is = cells.parts k.0 c part.within part.part in
      subst (λ x. IsOwned p.laid x (number e.actor)) (sym (abstract_within p.laid c part.within)) (record {
        within = is.abstract;
        path = own.path;
        owner = ap (λ o. (object_at p.laid o).owner) is.part ∙ own.owner;
        own = own.own;
      })

  passes_quietly : (e : P.Edge) (o : Operation ℕ ℕ) → P.operation e ≡ o → IsQuiet o → Passes P (P.from e) (P.to e)
  passes_quietly e o is quiet =
      let k = quiet_sets e.edge.op e.answer e.held e.found (subst IsQuiet (sym is) quiet) in record {
        held_down = λ m h. subst (λ l. Has l m) k.0 h;
        held_up = λ m h. subst (λ l. Has l m) (sym k.0) h;
        found_down = λ m h. subst (λ l. Has l m) k.1 h;
      }

  pub is_shaped : IsShaped P
  is_shaped = record {
    not_both = λ x i s o. none_some o.path (sym s.static ∙ o.owner);
    one_owner = λ x i k o o'.
        let e : Some o.path ≡ Some o'.path = sym o.owner ∙ o'.owner in
        let f : o.path ≡ o'.path = cc in
        apart i k (sym o.own ∙ ap (λ q. (path_at p.laid q).body) f ∙ o'.own);
    some_cell = some_of;
    clears_own = own_of;
    may_clear = λ e c. may_clear_by p.laid e.edge.op c;
    ends_rest = λ q h e l. absurd (h e l);
    locks_rest = λ e m is f l.
        let k = is_lock e.edge.op e.answer m is in
        let same : f ≡ e.edge =
        alone (body_at p (number e.actor)).edges (graphs e.actor).plain e.edge.from e.edge f
        (subst IsSure (sym k.1) tt) (record { among = e.among; from = refl }) l in
        (m, k.0, ap (λ (z : Edge). z.op) same ∙ k.1);
    rests_lock = λ e r.
        let k = r e.edge (record { among = e.among; from = refl }) in (k.0, ap (λ o. operation_of o e.answer) k.2);
    entry_held = λ i m h. none_in m h;
    entry_found = λ i m h. none_in m h;
    calc_passes = λ e is. passes_quietly e calculation is tt;
    load_passes = λ e a t is. passes_quietly e (load a t) is tt;
    load_any_passes = λ e a is. passes_quietly e (load_any a) is tt;
    store_passes = λ e a v is. passes_quietly e (store a v) is tt;
    clear_passes = λ e is. passes_quietly e clear is tt;
    held_passes = λ e m t is. passes_quietly e (probe m t true) is tt;
    lock_held = λ e m k is free h.
        in_with e.held m k (subst (λ l. Has l k) (lock_sets e.edge.op e.answer e.held e.found m is).0 h);
    lock_kept = λ e m k is free h.
        subst (λ l. Has l k) (sym (lock_sets e.edge.op e.answer e.held e.found m is).0) (with_old e.held m k h);
    lock_found = λ e m k is free h.
        none_in k (subst (λ l. Has l k) (lock_sets e.edge.op e.answer e.held e.found m is).1 h);
    unlock_held = λ e m k is mine h.
        in_without e.held m k (subst (λ l. Has l k) (unlock_sets e.edge.op e.answer e.held e.found m is).0 h);
    unlock_kept = λ e m k is mine other h.
        subst (λ l. Has l k) (sym (unlock_sets e.edge.op e.answer e.held e.found m is).0)
        (without_old e.held m k mine.small other h);
    unlock_found = λ e m k is mine h.
        subst (λ l. Has l k) (unlock_sets e.edge.op e.answer e.held e.found m is).1 h;
    yield_held = λ e k is h. subst (λ l. Has l k) (yield_sets e.edge.op e.answer e.held e.found is).0 h;
    yield_kept = λ e k is h. subst (λ l. Has l k) (sym (yield_sets e.edge.op e.answer e.held e.found is).0) h;
    yield_found = λ e k is h. none_in k (subst (λ l. Has l k) (yield_sets e.edge.op e.answer e.held e.found is).1 h);
    free_held = λ e m t k is free h. subst (λ l. Has l k) (free_sets e.edge.op e.answer e.held e.found m t is).0 h;
    free_kept = λ e m t k is free h.
        subst (λ l. Has l k) (sym (free_sets e.edge.op e.answer e.held e.found m t is).0) h;
    free_found = λ e m t k is free h.
        in_with e.found m k (subst (λ l. Has l k) (free_sets e.edge.op e.answer e.held e.found m t is).1 h);
  }
