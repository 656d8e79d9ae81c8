-- The cell that a run loads or stores is among the targets of the access in the state of its node; and a pointer with
-- which it comes has the size of its object there. So what the list is of there is in the list.
use Rattle.std.proofs.Common.{◌≡◌, ◌≢◌, ◌⊎◌, inl, inr, refl, sym, ap, subst, ◌∙◌, ℕ, suc, ◌≤◌, ◌^◌, Bool, true}
use Rattle.std.proofs.Common.{false, List, [], ◌∷◌, length, Option, Some, None, arith, eqb}
use Rattle.std.specs.Prelude.{ℤ, pos, Contains, slice_get}
use Rattle.std.specs.FinMap.{get}
use Rattle.std.specs.List.{list_any}
use Rattle.std.proofs.lemmas.Bool.{false≢true, or_cases, eqb-true}
use Rattle.sound_tables.specs.tm_terms.declared.places.Place.{Place}
use Rattle.sound_tables.specs.tm_laid.Layouts.{LaidTree, object_at, cell_of, abstract_of}
use Rattle.sound_tables.specs.tm_typed.declared.types.Scalar.{Scalar}
use Rattle.sound_tables.specs.concrete_values.declared.values.Value.TheVariants.{Pointer as APointer}
use Rattle.sound_tables.specs.concrete_values.declared.values.Pointer.TheVariants as Pointers
use Rattle.sound_tables.specs.concrete_steps.Worlds.{World}
use Rattle.sound_tables.specs.flow_graph.declared.operations.Into.TheVariants as Intos
use Rattle.sound_tables.specs.flow_graph.declared.operations.Operation.{Operation}
use Rattle.sound_tables.specs.flow_graph.declared.operations.Operation.TheVariants as Op
use Rattle.sound_tables.specs.flow_graph.Graphs.{Among}
use Rattle.sound_tables.specs.flow_graph.Operations.{used}
use Rattle.sound_tables.specs.flow_graph.Runs.{Memory}
use Rattle.sound_tables.specs.interfere_set.Stores.{Interferences}
use Rattle.sound_tables.specs.transfer_rows.StateForms.{State, value_of}
use Rattle.sound_tables.specs.transfer_rows.Accesses.{is_among, targets_at}
use Rattle.sound_tables.specs.transfer_rows.Actions.{Spot}
use Rattle.sound_tables.specs.transfer_rows.Covering.{AreSized}
use Rattle.program_reports.proofs.low.transfer_rows.Covers.{target_found}
use Rattle.sound_tables.specs.program_reports.edge_actions.Layouts.{spots_of}
use Rattle.sound_tables.specs.program_reports.pointer_dom.OffsetSets.{OffsetSet}
use Rattle.sound_tables.specs.program_reports.pointer_dom.PointerSets.{offsets_or_none}
use Rattle.sound_tables.specs.program_reports.pointer_dom.PointerSets.{offsets_at}
use Rattle.sound_tables.specs.program_reports.pointer_dom.Values.{IsValueIn}
use Rattle.sound_tables.specs.interfere_set.strided_dom.Progression.{Has as HasNumber}
use Rattle.sound_tables.specs.temporary_types.Sorts.{types_of}
use Rattle.sound_tables.specs.task_equations.Bodies.{live_at}
use Rattle.sound_tables.specs.program_equations.Programs.{ProgramBodies, body_at, IsProgram}
use Rattle.sound_tables.specs.program_equations.Readings.{read_layout}
use Rattle.sound_tables.specs.program_equations.Solutions.{tables_of as lists_of, IsPair}
use Rattle.sound_tables.specs.program_equations.laws.ReadAlike.{spots_read}
use Rattle.sound_tables.specs.program_shape.Shape.{abstract_of_cell}
use Rattle.sound_tables.specs.Meanings.{sizes_of}
use Rattle.sound_tables.proofs.Arriving.{are_sized}
use Rattle.sound_tables.proofs.Covering.{IsSpotAt}
use Rattle.sound_runs.proofs.Stood.{abstract_is}
use Rattle.sound_core.specs.Sound.{IsProgramFrom}
use Rattle.part_extents.specs.Parts.{is_constant, inside_of}
use Rattle.path_origins.specs.declared.origins.Span.{Span}
use Rattle.edge_origins.specs.declared.origins.BodyOrigins.{BodyOrigins}
use Rattle.text_choices.specs.declared.kinds.Kind.TheVariants as Kinds
use Rattle.text_choices.specs.declared.kinds.Choice.{Choice}
use Rattle.operand_orders.specs.Reached.{SolvedBody, IsWithin, HasState, IsReached, targets, Loads, Stores}
use Rattle.operand_orders.specs.Reached.Loads.{by_load, by_any}
use Rattle.operand_orders.specs.Reached.Stores.{by_store}
use Rattle.operand_orders.specs.Order.{IsInitialising, Touches}
use Rattle.operand_orders.specs.Order.Touches.{loaded, stored}
use Rattle.operand_orders.specs.Order.Matters.{touching}
use Rattle.operand_orders.specs.Order.IsOfOrder.{operands, reloaded, overwritten}
use Rattle.open_choices.specs.Unset.IsUnset.{an_end}
use Rattle.open_choices.specs.Constants.{IsConst}
use Rattle.open_choices.specs.Constants.IsConst.{stored as stored_constant}
use Rattle.open_choices.specs.Members.{Compares, Meets}
use Rattle.open_choices.specs.Members.Compares.{for_value, as_branch}
use Rattle.open_choices.specs.Members.IsOfMember.{compared}
use Rattle.open_choices.specs.Choices.{IsOfBody, AreChoices}
use Rattle.sound_choices.specs.Promises.{ComesTo, origin_of}
use Rattle.sound_choices.specs.Accesses.{Accesses, Reaching, edge_of_copy, ListsTouched, ListsReloaded}
use Rattle.sound_choices.specs.Accesses.{ListsOverwritten, ListsConstants, ListsEnds, ListsCompared}
use Rattle.sound_choices.specs.Accesses.Accesses.{loads, loads_any, stores}
use Rattle.sound_choices.proofs.Kept.{solved, place, state, met, covered, covered_as, has, listed}
use Rattle.sound_choices.proofs.Accessed.{uses_address, is_laid, is_spot}

-- ## Targets

contains_of : (xs : List ℕ) (x : ℕ) → is_among xs x ≡ true → Contains xs x
contains_of [] x h = absurd (false≢true h)
contains_of (y ∷ ys) x h = by_case (contains_of ys x) (or_cases (eqb x y) (list_any (eqb x) ys) h)
  where
    by_case : (list_any (eqb x) ys ≡ true → Contains ys x) → (eqb x y ≡ true) ⊎ (list_any (eqb x) ys ≡ true)
        → Contains (y ∷ ys) x
    by_case rest (inl e) = (0, omega arith, sym (eqb-true x y e))
    by_case rest (inr more) = let c = rest more in (suc c.0, let lt = c.1 in omega (arith, lt), c.2)

-- an edge that loads or stores does so with its targets
loads_it : (b : SolvedBody) (edge cell : ℕ) (op : Operation) (a : ℕ) (z : Scalar) (s : State) (is_store : Bool)
    → Accesses op a z is_store → is_store ≡ false → HasState b edge op s → Contains (targets b z a s) cell
    → Loads b edge cell
loads_it b edge cell op a z s is_store loads e here target = by_load s here target
loads_it b edge cell op a z s is_store loads_any e here target = by_any s here target
loads_it b edge cell op a z s is_store stores e here target = absurd (false≢true (sym e))

stores_it : (b : SolvedBody) (edge cell : ℕ) (op : Operation) (a : ℕ) (z : Scalar) (s : State) (is_store : Bool)
    → Accesses op a z is_store → is_store ≡ true → HasState b edge op s → Contains (targets b z a s) cell
    → Stores b edge cell
stores_it b edge cell op a z s is_store loads e here target = absurd (false≢true e)
stores_it b edge cell op a z s is_store loads_any e here target = absurd (false≢true e)
stores_it b edge cell op a z s is_store stores e here target = by_store s here target

-- a store through a pointer
constant_it : (b : SolvedBody) (edge cell : ℕ) (op : Operation) (a : ℕ) (z : Scalar) (s : State) (is_store : Bool)
    → Accesses op a z is_store → HasState b edge op s → Contains (targets b z a s) cell → (address value : ℕ)
    (scalar : Scalar) (q : Place) → op ≡ Op.Store address value scalar Intos.Pointed q
    → is_constant b.laid (inside_of b.laid cell) ≡ true → IsConst b q
constant_it b edge cell op a z s is_store loads here target address value scalar q e h = absurd (cc)
constant_it b edge cell op a z s is_store loads_any here target address value scalar q e h = absurd (cc)
constant_it b edge cell op a z s is_store (stores {address = y} {scalar = x}) here target address value scalar q e h =
    let same_address : y ≡ address = cc in
    let same_scalar : x ≡ scalar = cc in
    stored_constant s cell (subst (λ o. HasState b edge o s) e here)
    (subst (λ v. Contains (targets b v address s) cell) same_scalar
    (subst (λ u. Contains (targets b x u s) cell) same_address target)) h

-- an edge with a state is reached
pub reached_at : (b : SolvedBody) (edge other : ℕ) (op : Operation) (s : State) → HasState b edge op s → edge ≡ other
    → IsReached b other
reached_at b edge other op s h same =
    subst (λ e. IsReached b e) same
    (record {
      state = s;
      has = record { number = h.number; copy = h.copy; is = h.is; of = h.of; state = h.state; operation = refl };
    })

-- ## Sizes of objects

sized_at : (o : Option OffsetSet) (size : ℕ) → ((x : OffsetSet) → o ≡ Some x → x.size ≡ size) → (z : ℤ)
    → HasNumber (offsets_or_none o).offsets z → (offsets_or_none o).size ≡ size
unfolding HasNumber
sized_at None size h z at = absurd at
sized_at (Some x) size h z at = h x refl

compares_left : (op : Operation) (left right : ℕ) → Compares op left right → Among left (used op)
compares_left op left right for_value = inl refl
compares_left op left right as_branch = inl refl

compares_right : (op : Operation) (left right : ℕ) → Compares op left right → Among right (used op)
compares_right op left right for_value = inr (inl refl)
compares_right op left right as_branch = inr (inl refl)

module _ (laid seen : LaidTree) (p : ProgramBodies) (from : IsProgramFrom laid p) (is : IsProgram p)
    (few : length laid.objects ≤ 2 ^ 32) (tables : List (List (Option State))) (store : Interferences)
    (pair : IsPair p tables store) (read : p.laid ≡ read_layout seen) (origins : List BodyOrigins) where
  abbrev body : ℕ → BodyOrigins → SolvedBody
  body t noted = solved laid seen p from is few tables store pair origins t noted

  -- the abstract cell of a cell of an object
  abbrev cell_at_offset : ℕ → ℕ → ℕ
  cell_at_offset object offset = abstract_of_cell seen (cell_of seen object offset)

  -- ## Where a run comes before a copy of an edge that loads or stores

  module _ (w : World) (t k object offset : ℕ) (is_store : Bool) (r : Reaching laid p w t k object offset is_store)
    where
      abbrev pub s : State
      s = state laid seen p from is few tables store pair origins w t k r.operation r.memory r.comes

      spot : IsSpotAt p.laid t r.scalar (let m = r.memory in m.temps r.address) (cell_of p.laid object offset)
      spot =
          is_spot laid seen p from is few tables store pair origins w t k r.operation r.memory r.comes r.address
          r.scalar is_store object offset r.accesses r.points

      leads : (let v = value_of s r.address in
          is_among (targets_at (spots_of p.laid t r.scalar) v.pointers) (abstract_of_cell p.laid (cell_of p.laid object offset)) ≡ true)
      leads =
          let h = spot in
          let v = value_of s r.address in
          subst (λ x. is_among (targets_at (spots_of p.laid t r.scalar) v.pointers) x ≡ true) h.cell
          (target_found (spots_of p.laid t r.scalar) v.pointers h.spot h.among
          (subst (λ x. IsValueIn v x) h.address
          (covered laid seen p from is few tables store pair origins w t k r.operation r.memory r.comes r.address
          (uses_address r.operation r.address r.scalar is_store r.accesses))))

      pub target_among : (noted : BodyOrigins)
          → Contains (targets (body t noted) r.scalar r.address s) (cell_at_offset object offset)
      target_among noted =
          let v = value_of s r.address in
          let there = contains_of (targets_at (spots_of p.laid t r.scalar) v.pointers)
          (abstract_of_cell p.laid (cell_of p.laid object offset)) leads in
          subst (λ (spots : List Spot). Contains (targets_at spots v.pointers) (cell_at_offset object offset))
          (spots_read seen t r.scalar)
          (subst (λ l. Contains (targets_at (spots_of l t r.scalar) v.pointers)
          (abstract_of_cell l (cell_of l object offset))) read there)

      -- which the layout names so too
      pub abstract_same : cell_at_offset object offset ≡ abstract_of seen object offset
      abstract_same =
          subst (λ l. abstract_of_cell l (cell_of l object offset) ≡ abstract_of l object offset) read
          (abstract_is p.laid object offset
          (is_laid laid seen p from is few tables store pair origins w t k r.operation r.memory r.comes r.address
          r.scalar is_store object offset r.accesses r.points))

      pub state_there : (noted : BodyOrigins) → HasState (body t noted) (edge_of_copy p t k) r.operation s
      state_there = has laid seen p from is few tables store pair origins w t k r.operation r.memory r.comes

      pub loads_there : (noted : BodyOrigins) → is_store ≡ false
          → Loads (body t noted) (edge_of_copy p t k) (cell_at_offset object offset)
      loads_there noted load =
          loads_it (body t noted) (edge_of_copy p t k) (cell_at_offset object offset) r.operation r.address r.scalar s
          is_store r.accesses load (state_there noted) (target_among noted)

      pub stores_there : (noted : BodyOrigins) → is_store ≡ true
          → Stores (body t noted) (edge_of_copy p t k) (cell_at_offset object offset)
      stores_there noted store' =
          stores_it (body t noted) (edge_of_copy p t k) (cell_at_offset object offset) r.operation r.address r.scalar s
          is_store r.accesses store' (state_there noted) (target_among noted)

  -- one operand stores the cell, and the other loads or stores it
  touch : (w v : World) (t k l object offset : ℕ) (noted : BodyOrigins) (first second : Span) (one other : Bool)
      → Reaching laid p w t k object offset one → IsWithin (edge_of_copy p t k) first
      → Reaching laid p v t l object offset other → IsWithin (edge_of_copy p t l) second
      → (one ≡ true) ⊎ (other ≡ true)
      → (one ≡ other → IsInitialising (body t noted) (edge_of_copy p t k)
      → IsInitialising (body t noted) (edge_of_copy p t l) → ⊥)
      → Touches (body t noted) first second ⊎ Touches (body t noted) second first
  touch w v t k l object offset noted first second true true r a q b some apart =
      inl (stored (cell_at_offset object offset) (edge_of_copy p t k) (edge_of_copy p t l) a
      (stores_there w t k object offset true r noted refl) b (stores_there v t l object offset true q noted refl)
      (apart refl))
  touch w v t k l object offset noted first second true false r a q b some apart =
      inl (loaded (cell_at_offset object offset)
      (record { edge = edge_of_copy p t k; within = a; stores = stores_there w t k object offset true r noted refl })
      (record { edge = edge_of_copy p t l; within = b; loads = loads_there v t l object offset false q noted refl }))
  touch w v t k l object offset noted first second false true r a q b some apart =
      inr (loaded (cell_at_offset object offset)
      (record { edge = edge_of_copy p t l; within = b; stores = stores_there v t l object offset true q noted refl })
      (record { edge = edge_of_copy p t k; within = a; loads = loads_there w t k object offset false r noted refl }))
  touch w v t k l object offset noted first second false false r a q b some apart =
      elim some [
        | inl e ↦ absurd (false≢true e)
        | inr e ↦ absurd (false≢true e)
      ]

  -- ## Pointers that are compared

  module _ (w : World) (t k : ℕ) (op : Operation) (m : Memory) (c : ComesTo laid p w t k op m) (left right : ℕ)
      (in_left : Among left (used op)) (in_right : Among right (used op)) (object other : ℕ) (apart : object ≢ other)
      (at_end : (let o = object_at laid object in m.temps left ≡ APointer (Pointers.To object o.cells)))
      (at_begin : m.temps right ≡ APointer (Pointers.To other 0)) where
    abbrev there : State
    there = state laid seen p from is few tables store pair origins w t k op m c

    sizes : AreSized (sizes_of p.laid) there
    sizes =
        let h = met laid seen p from is few tables store pair origins w t k op m c in
        are_sized p.laid t (types_of (is.sorts t))
        (live_at (body_at p t) (place laid seen p from is few tables store pair origins w t k op m c)) h.state h.fits

    abbrev size : ℕ
    size = (let o = object_at laid object in o.cells)

    same_size : sizes_of p.laid object ≡ size
    same_size = ap (λ l. sizes_of l object) (let of = from.is in of.laid)

    meet : (let a = value_of there left in let b = value_of there right in Meets a.pointers b.pointers)
    meet =
        let a = value_of there left in
        let end = covered_as laid seen p from is few tables store pair origins w t k op m c left
        (APointer (Pointers.To object size)) in_left at_end in
        let is_size = sized_at (get (let q = a.pointers in q.objects) object) (sizes_of p.laid object)
        (let h = sizes in h.size left object) (pos size) end in
        record {
          object = object;
          other = other;
          apart = apart;
          end = subst (λ n. (let o = offsets_at a.pointers object in HasNumber o.offsets (pos n)))
              (sym (is_size ∙ same_size)) end;
          begin = covered_as laid seen p from is few tables store pair origins w t k op m c right
              (APointer (Pointers.To other 0)) in_right at_begin;
        }

  -- ## The list

  module _ (others : Choice → Type 0) (choices : List Choice)
      (are : AreChoices seen p (lists_of tables) store origins others choices) where
    in_list : (w : World) (t k : ℕ) (op : Operation) (m : Memory) → ComesTo laid p w t k op m → (noted : BodyOrigins)
        → slice_get origins t ≡ Some noted → (choice : Choice) → IsOfBody (body t noted) choice
        → Contains choices choice
    in_list w t k op m c =
        listed laid seen p from is few tables store pair origins others choices are t c.body

    pub touched : ListsTouched laid seen p (lists_of tables) store origins choices
    touched w v t k l object offset one other noted both there member r a q b some apart =
        in_list w t k r.operation r.memory r.comes noted there (record { place = both.place; kind = Kinds.Order })
        (operands both member refl
        (touching (touch w v t k l object offset noted both.first both.second one other r a q b some apart)))

    pub reloads : ListsReloaded laid seen p (lists_of tables) store origins choices
    reloads w v t k l object offset noted reload there member r same q within =
        in_list w t k r.operation r.memory r.comes noted there (record { place = reload.place; kind = Kinds.Order })
        (reloaded (cell_at_offset object offset) reload member refl
        (subst (λ e. Loads (body t noted) e (cell_at_offset object offset)) same
        (loads_there w t k object offset false r noted refl))
        (record {
          edge = edge_of_copy p t l;
          within = within;
          stores = stores_there v t l object offset true q noted refl;
        }))

    pub overwrites : ListsOverwritten laid seen p (lists_of tables) store origins choices
    overwrites w v t k l object offset noted both there member r same q earlier =
        in_list w t k r.operation r.memory r.comes noted there (record { place = both.place; kind = Kinds.Order })
        (overwritten (cell_at_offset object offset) both member refl
        (subst (λ e. Stores (body t noted) e (cell_at_offset object offset)) same
        (stores_there w t k object offset true r noted refl))
        (subst (λ e. Stores (body t noted) e (cell_at_offset object offset)) earlier
        (stores_there v t l object offset true q noted refl)))

    pub constants : ListsConstants laid seen p (lists_of tables) store origins choices
    constants w t k object offset address value scalar q noted there r stored_so declared =
        in_list w t k r.operation r.memory r.comes noted there (record { place = q; kind = Kinds.Const })
        (constant_it (body t noted) (edge_of_copy p t k) (cell_at_offset object offset) r.operation r.address r.scalar
        (s w t k object offset true r) true r.accesses (state_there w t k object offset true r noted)
        (target_among w t k object offset true r noted) address value scalar q stored_so declared)

    pub ends : ListsEnds laid seen p (lists_of tables) store origins choices
    ends w t k op m noted fall there member c same =
        in_list w t k op m c noted there (record { place = fall.place; kind = Kinds.Unset })
        (an_end fall member refl
        (reached_at (body t noted) (edge_of_copy p t k) fall.edge op
        (state laid seen p from is few tables store pair origins w t k op m c)
        (has laid seen p from is few tables store pair origins w t k op m c noted) same))

    pub compares : ListsCompared laid seen p (lists_of tables) store origins choices
    compares w t k left right object other op m noted there c some apart at_end at_begin =
        let o = origin_of laid seen p (lists_of tables) store origins choices t k noted in
        let here = has laid seen p from is few tables store pair origins w t k op m c noted in
        let s' = state laid seen p from is few tables store pair origins w t k op m c in
        in_list w t k op m c noted there (record { place = o.place; kind = Kinds.Member })
        (elim some [
          | inl so ↦ compared (edge_of_copy p t k) s' here so refl
              (inl (meet w t k op m c left right (compares_left op left right so) (compares_right op left right so)
              object other apart at_end at_begin))
          | inr so ↦ compared (edge_of_copy p t k) s' here so refl
              (inr (meet w t k op m c left right (compares_right op right left so) (compares_left op right left so)
              object other apart at_end at_begin))
        ])
