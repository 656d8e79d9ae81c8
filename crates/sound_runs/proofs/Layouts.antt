-- What the layout of a typed file gives to the soundness theorem.
use Rattle.std.proofs.Common.{refl, sym, subst, ℕ, zero, suc, ◌+◌, ◌<◌, ◌≤◌, ◌^◌, List, [], ◌∷◌, length}
use Rattle.std.proofs.Common.{get_or, arith}
use Rattle.std.proofs.Common.{inl, inr}
use Rattle.std.specs.Prelude.{All}
use Rattle.layout_laws.specs.tm_typed.Files.{TypedFileTree}
use Rattle.layout_laws.specs.tm_laid.declared.objects.DeclaredObject.{DeclaredObject}
use Rattle.layout_laws.specs.tm_laid.declared.objects.LaidObject.{LaidObject}
use Rattle.layout_laws.specs.tm_laid.TypeCells.{cells_of_type, abstract_cells_of_type}
use Rattle.layout_laws.specs.tm_laid.Objects.{objects_from}
use Rattle.layout_laws.specs.tm_laid.Paths.{paths_of}
use Rattle.layout_laws.specs.tm_laid.Layouts.{LaidTree, no_object, object_at, summed_types, declared_objects, layout_of}
use Rattle.layout_laws.specs.cell_layout.Laws.{IsCellOf}
use Rattle.layout_laws.proofs.low.cell_layout.CellPairs.{cells_of_objects}
use Rattle.layout_laws.specs.Limited.{IsLimited}
use Rattle.layout_laws.proofs.Counted.{cells_counted, abstracts_counted}
use Rattle.layout_laws.proofs.Kept.{limits_kept}
use Rattle.program_shape.specs.concrete_values.declared.values.Answer.{Answer}
use Rattle.program_shape.specs.concrete_steps.NextAction.{next}
use Rattle.program_shape.specs.flow_graph.declared.operations.Operation.{Operation}
use Rattle.program_shape.specs.flow_graph.declared.operations.Operation.TheVariants as Op
use Rattle.program_shape.specs.flow_graph.declared.graphs.Edge.{Edge}
use Rattle.program_shape.specs.flow_graph.Graphs.{Edges, Among}
use Rattle.program_shape.proofs.low.flow_graph.Positions.{runs_along}
use Rattle.lowering_laws.specs.lowering.Built.{graph_of}
use Rattle.program_shape.specs.mutex_configs.Sets.{IsOfSixteen}
use Rattle.lowering_laws.specs.LaidFiles.{IsLaidFile}
use Rattle.lowering_laws.specs.Mutexes.{HasMutex}
use Rattle.lowering_laws.proofs.Founded.{file_layable}
use Rattle.lowering_laws.proofs.GraphLaws.{run_as_next, are_plain}
use Rattle.lowering_laws.proofs.TableGraphs.{mutexes_of_file, few_mutexes}
use Rattle.next_action_laws.specs.Actions.{Fit, IsProper}
use Rattle.next_action_laws.specs.Laws.{HasLayout}
use Rattle.next_action_laws.proofs.Answered.{actions_are_proper}
use Rattle.program_equations.specs.Readings.{read_layout}
use Rattle.sound_runs.specs.Sources.{LaysCell, LaysCells, KeepsAddresses, IsRunning}
use Rattle.sound_runs.proofs.Readings.{fit_laid, runs_read, proper_read}

-- ## Edges

-- a mutex of so many is one of sixteen
of_sixteen : (n : ℕ) → n ≤ 16 → (op : Operation) → HasMutex n op → IsOfSixteen op
unfolding IsOfSixteen
of_sixteen n few (Op.Lock mutex place) h = omega (arith, few, h)
of_sixteen n few (Op.Unlock mutex place) h = omega (arith, few, h)
of_sixteen n few (Op.Probe to mutex place) h = omega (arith, few, h)
of_sixteen n few op h = tt

-- what holds of all edges holds of each
pub among_all : (P : Edge → Type 0) (g : Edges) → All P g → (e : Edge) → Among e g → P e
among_all P [] h e a = absurd a
among_all P (x ∷ g) h e (inl same) = subst P same (h 0 x (omega arith))
among_all P (x ∷ g) h e (inr more) = among_all P g (λ k d lt. h (suc k) d (omega (arith, lt))) e more

-- ## Cells

-- the cells of objects stand one behind the other, and so do their abstract cells
cells_behind : (file : TypedFileTree) (cell abstract : ℕ) (ds : List DeclaredObject) (o : ℕ)
    → o < length (objects_from file cell abstract ds)
    → (let x : LaidObject = get_or (objects_from file cell abstract ds) o no_object in
    x.first_cell + x.cells ≤ cell + summed_types (cells_of_type file) ds)
cells_behind file cell abstract [] o lt = absurd (omega (arith, lt))
cells_behind file cell abstract (d ∷ ds) zero lt = omega arith
cells_behind file cell abstract (d ∷ ds) (suc o) lt =
    let r = cells_behind file (cell + cells_of_type file d.of.number)
    (abstract + abstract_cells_of_type file d.of.number) ds o (omega (arith, lt)) in
    omega (arith, r)

abstracts_behind : (file : TypedFileTree) (cell abstract : ℕ) (ds : List DeclaredObject) (o : ℕ)
    → o < length (objects_from file cell abstract ds)
    → (let x : LaidObject = get_or (objects_from file cell abstract ds) o no_object in
    x.first_abstract + x.abstract_cells ≤ abstract + summed_types (abstract_cells_of_type file) ds)
abstracts_behind file cell abstract [] o lt = absurd (omega (arith, lt))
abstracts_behind file cell abstract (d ∷ ds) zero lt = omega arith
abstracts_behind file cell abstract (d ∷ ds) (suc o) lt =
    let r = abstracts_behind file (cell + cells_of_type file d.of.number)
    (abstract + abstract_cells_of_type file d.of.number) ds o (omega (arith, lt)) in
    omega (arith, r)

-- the cells of an object, and its abstract cells, are among those of the layout
pub record IsAmong (laid : LaidTree) (o : ℕ) : Type 0 where
  pub cells : (object_at laid o).first_cell + (object_at laid o).cells ≤ length laid.cells
  pub abstract_cells : (object_at laid o).first_abstract + (object_at laid o).abstract_cells ≤ length laid.abstract_cells

objects_among : (file : TypedFileTree) (o : ℕ) → o < length (layout_of file).objects → IsAmong (layout_of file) o
unfolding layout_of
objects_among file o lt =
    let ds = declared_objects file (paths_of file) in
    let behind = cells_behind file 0 0 ds o lt in
    let counted = cells_counted file 0 0 0 ds in
    let abstracts = abstracts_behind file 0 0 ds o lt in
    let all = abstracts_counted file 0 0 0 ds in
    record { cells = omega (arith, behind, counted); abstract_cells = omega (arith, abstracts, all) }

module _ (laid : LaidTree) (is : IsLaidFile laid) where
  pub limited : IsLimited is.file laid
  limited = limits_kept is.scale is.file laid is.answered

  -- what holds of the layout of the file holds of this one
  pub of_layout : (P : LaidTree → Type 0) → P (layout_of is.file) → P laid
  of_layout P h = let l = limited in subst P (sym l.whole) h

  abbrev pub AreCells : LaidTree → Type 0
  AreCells l = (o k : ℕ) → o < length l.objects → k < (object_at l o).cells → IsCellOf l o k

  pub cells_are : AreCells laid
  cells_are =
      let order = file_layable is.main is.items is.file is.typed in
      of_layout AreCells (cells_of_objects is.file order.0 order.1)

  pub among : (o : ℕ) → o < length laid.objects → IsAmong laid o
  among = of_layout (λ l. (o : ℕ) → o < length l.objects → IsAmong l o) (objects_among is.file)

  pub lays_cells : LaysCells laid
  lays_cells o k lo lk =
      let c : IsCellOf laid o k = cells_are o k lo lk in
      let a : IsAmong laid o = among o lo in
      record {
        within = (let w : (object_at laid o).first_cell + k < length laid.cells = omega (arith, a.cells, lk) in w);
        abstract = omega (arith, a.abstract_cells, c.most);
        object = c.abstract_object;
        scalar = c.scalar;
      }

  pub read_lays_cells : LaysCells (read_layout laid)
  read_lays_cells o k lo lk =
      let h : LaysCell laid o k = lays_cells o k lo lk in
      record { within = h.within; abstract = h.abstract; object = h.object; scalar = h.scalar }

  -- ## Graphs

  pub has_layout : length laid.objects ≤ 2 ^ 32 → (order : List ℕ) × HasLayout is.file order laid
  has_layout few =
      let order = file_layable is.main is.items is.file is.typed in
      (order.0, record { layable = order.1; scale = is.scale; is = is.answered; few = few })

  pub is_proper : length laid.objects ≤ 2 ^ 32 → (body : ℕ) → body < length laid.bodies → (answers : List Answer)
      → Fit laid (next laid body) answers → IsProper laid body (next laid body answers)
  is_proper few body lt answers fit =
      let h = has_layout few in
      actions_are_proper is.main is.items is.file is.typed h.0 laid h.1 body lt answers fit

  -- the mutexes of graphs are among sixteen
  pub mutexes_small : (body : ℕ) (e : Edge) → Among e (graph_of laid body) → IsOfSixteen e.op
  mutexes_small body e among =
      of_sixteen (length laid.file.mutexes) (few_mutexes laid is) e.op
      (among_all (λ (z : Edge). HasMutex (length laid.file.mutexes) z.op) (graph_of laid body)
      (mutexes_of_file laid is body) e among)

  -- the graph of a body runs along its next actions, over what is read of the layout
  pub is_running : length laid.objects ≤ 2 ^ 32 → (body : ℕ) → body < length laid.bodies
      → KeepsAddresses (read_layout laid) (graph_of laid body)
      → IsRunning (read_layout laid) (graph_of laid body) body (next laid body)
  is_running few body lt addresses = record {
    along = runs_along (read_layout laid) (graph_of laid body) (are_plain laid is body lt) (next laid body)
        (λ answers. runs_read laid (graph_of laid body)
        ((run_as_next laid is body lt answers (next laid body answers)).1 refl));
    plain = are_plain laid is body lt;
    proper = λ answers fit.
        proper_read laid body (next laid body answers)
        (is_proper few body lt answers (fit_laid laid answers (next laid body) fit));
    mutexes = mutexes_small body;
    addresses = addresses;
  }
