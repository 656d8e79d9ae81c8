-- What the list of assumptions promises of enumerations that compilers may make unsigned holds.
use Rattle.std.proofs.Common.{◌≡◌, inl, inr, refl, sym, subst, ℕ, ◌≤◌, ◌^◌, Bool, true, List, length, Option}
use Rattle.std.specs.Prelude.{ℤ, Contains}
use Rattle.sound_tables.specs.tm_terms.declared.places.Place.{Place}
use Rattle.sound_tables.specs.tm_laid.Layouts.{LaidTree, cell_of}
use Rattle.sound_tables.specs.tm_typed.declared.types.Scalar.{Scalar}
use Rattle.sound_tables.specs.concrete_values.declared.values.Value.TheVariants.{Number}
use Rattle.sound_tables.specs.concrete_steps.Worlds.{World}
use Rattle.sound_tables.specs.flow_graph.declared.operations.Into.{Into}
use Rattle.sound_tables.specs.flow_graph.declared.operations.Operation.{Operation}
use Rattle.sound_tables.specs.flow_graph.declared.operations.Operation.TheVariants as Op
use Rattle.sound_tables.specs.flow_graph.Graphs.{Among}
use Rattle.sound_tables.specs.flow_graph.Operations.{used}
use Rattle.sound_tables.specs.flow_graph.Runs.{Memory}
use Rattle.sound_tables.specs.interfere_set.Stores.{Interferences}
use Rattle.sound_tables.specs.interfere_set.strided_dom.Progression.{Has as HasNumber}
use Rattle.sound_tables.specs.transfer_rows.StateForms.{State, value_of}
use Rattle.sound_tables.specs.program_equations.Programs.{ProgramBodies, IsProgram}
use Rattle.sound_tables.specs.program_equations.Readings.{read_layout}
use Rattle.sound_tables.specs.program_equations.Solutions.{tables_of as lists_of, IsPair}
use Rattle.sound_tables.specs.program_shape.Shape.{abstract_of_cell}
use Rattle.sound_core.specs.Sound.{IsProgramFrom}
use Rattle.part_extents.specs.Parts.{is_of_enumeration, inside_of}
use Rattle.path_origins.specs.declared.origins.Form.{Form}
use Rattle.edge_origins.specs.declared.origins.BodyOrigins.{BodyOrigins}
use Rattle.text_choices.specs.declared.kinds.Kind.TheVariants as Kinds
use Rattle.text_choices.specs.declared.kinds.Choice.{Choice}
use Rattle.operand_orders.specs.Reached.{SolvedBody, HasState, origin_at, targets}
use Rattle.open_choices.specs.Enumerations.{HasNegative, WorksOnNegative, IsOfEnum}
use Rattle.open_choices.specs.Enumerations.TurnsNegative.{negated as turns_negated, complemented as turns_complemented}
use Rattle.open_choices.specs.Enumerations.WorksOnNegative.{operand, result, one, compared}
use Rattle.open_choices.specs.Enumerations.StoresNegative.{stores as stores_negative}
use Rattle.open_choices.specs.Enumerations.IsOfEnum.{stored, worked}
use Rattle.open_choices.specs.Choices.{AreChoices}
use Rattle.sound_choices.specs.Promises.{ComesTo, origin_of}
use Rattle.sound_choices.specs.Accesses.{Accesses, Reaching, edge_of_copy}
use Rattle.sound_choices.specs.Accesses.Accesses.{loads, loads_any, stores}
use Rattle.sound_choices.specs.Enumerations.{IsNegative, WorksNegatively, ListsNegativeStores, ListsNegativeNumbers}
use Rattle.sound_choices.specs.Enumerations.{ListsEnumerations}
use Rattle.sound_choices.specs.Enumerations.WorksNegatively.{on_left, on_right, difference, on_one, negated}
use Rattle.sound_choices.specs.Enumerations.WorksNegatively.{complemented, compared_left, compared_right}
use Rattle.sound_choices.proofs.Kept.{solved, state, covered_as, has, listed}
use Rattle.sound_choices.proofs.Touched.{s as state_of, target_among, state_there}

-- a store of a negative number
negative_it : (b : SolvedBody) (edge cell : ℕ) (op : Operation) (a : ℕ) (z : Scalar) (s : State) (is_store : Bool)
    → Accesses op a z is_store → HasState b edge op s → Contains (targets b z a s) cell → (address value : ℕ)
    (scalar : Scalar) (into : Into) (q : Place) → op ≡ Op.Store address value scalar into q
    → is_of_enumeration b.laid (inside_of b.laid cell) ≡ true → (let v = value_of s value in HasNegative v.numbers)
    → (let o = origin_at b edge in IsOfEnum b o.place)
negative_it b edge cell op a z s is_store loads here target address value scalar into q e h negative = absurd (cc)
negative_it b edge cell op a z s is_store loads_any here target address value scalar into q e h negative = absurd (cc)
negative_it b edge cell op a z s is_store (stores {address = y} {scalar = x}) here target address value scalar into q e
    h negative =
    let same_address : y ≡ address = cc in
    let same_scalar : x ≡ scalar = cc in
    stored s (subst (λ o. HasState b edge o s) e here)
    (stores_negative cell
    (subst (λ v. Contains (targets b v address s) cell) same_scalar
    (subst (λ u. Contains (targets b x u s) cell) same_address target)) h negative) refl

-- it uses the number that it stores
uses_value : (op : Operation) (address value : ℕ) (scalar : Scalar) (into : Into) (q : Place)
    → op ≡ Op.Store address value scalar into q → Among value (used op)
uses_value op address value scalar into q e = subst (λ o. Among value (used o)) (sym e) (inr (inl refl))

module _ (laid seen : LaidTree) (p : ProgramBodies) (from : IsProgramFrom laid p) (is : IsProgram p)
    (few : length laid.objects ≤ 2 ^ 32) (tables : List (List (Option State))) (store : Interferences)
    (pair : IsPair p tables store) (read : p.laid ≡ read_layout seen) (origins : List BodyOrigins) where
  -- ## Where a run comes before a copy of an edge

  module _ (w : World) (t k : ℕ) (op : Operation) (m : Memory) (c : ComesTo laid p w t k op m) where
    abbrev s : State
    s = state laid seen p from is few tables store pair origins w t k op m c

    -- the state has each number with which the run comes
    at : (temp : ℕ) (n : ℤ) → Among temp (used op) → m.temps temp ≡ Number n
        → (let v = value_of s temp in HasNumber v.numbers n)
    at temp n among same =
        covered_as laid seen p from is few tables store pair origins w t k op m c temp (Number n) among same

    below : (temp : ℕ) → Among temp (used op) → IsNegative (m.temps temp)
        → (let v = value_of s temp in HasNegative v.numbers)
    below temp among h = record { number = h.number; has = at temp h.number among h.is; negative = h.below }

  works : (w : World) (t k : ℕ) (m : Memory) (form : Form) {op : Operation} (h : WorksNegatively form m op)
      (c : ComesTo laid p w t k op m) → WorksOnNegative (s w t k op m c) form op
  works w t k m form (on_left {left = left} is_form word negative) c =
      operand is_form word (inl (below w t k _ m c left (inl refl) negative))
  works w t k m form (on_right {right = right} is_form word negative) c =
      operand is_form word (inr (below w t k _ m c right (inr (inl refl)) negative))
  works w t k m form (difference {left = left} {right = right} n d is_form word is_left is_right less) c =
      result is_form word (record {
        number = n;
        other = d;
        has = at w t k _ m c left n (inl refl) is_left;
        beside = at w t k _ m c right d (inr (inl refl)) is_right;
        smaller = less;
      })
  works w t k m form (on_one {value = value} is_form word negative) c =
      one is_form word (inl (below w t k _ m c value (inl refl) negative))
  works w t k m form (negated {value = value} n is_form word is_value more) c =
      one is_form word (inr (turns_negated n (at w t k _ m c value n (inl refl) is_value) more))
  works w t k m form (complemented {value = value} n is_form word is_value) c =
      one is_form word (inr (turns_complemented n (at w t k _ m c value n (inl refl) is_value)))
  works w t k m form (compared_left {left = left} is_form word negative) c =
      compared is_form word (inl (below w t k _ m c left (inl refl) negative))
  works w t k m form (compared_right {right = right} is_form word negative) c =
      compared is_form word (inr (below w t k _ m c right (inr (inl refl)) negative))

  -- ## The list

  module _ (others : Choice → Type 0) (choices : List Choice)
      (are : AreChoices seen p (lists_of tables) store origins others choices) where
    negative_stores : ListsNegativeStores laid seen p (lists_of tables) store origins choices
    negative_stores w t k object offset address value scalar into q noted there r stored_so negative is_enum =
        let b = solved laid seen p from is few tables store pair origins t noted in
        let edge = edge_of_copy p t k in
        let o = origin_of laid seen p (lists_of tables) store origins choices t k noted in
        listed laid seen p from is few tables store pair origins others choices are t (let c = r.comes in c.body) noted
        there (record { place = o.place; kind = Kinds.Enum })
        (negative_it b edge (abstract_of_cell seen (cell_of seen object offset)) r.operation r.address r.scalar
        (state_of laid seen p from is few tables store pair read origins w t k object offset true r) true r.accesses
        (state_there laid seen p from is few tables store pair read origins w t k object offset true r noted)
        (target_among laid seen p from is few tables store pair read origins w t k object offset true r noted) address
        value scalar into q stored_so is_enum
        (below w t k r.operation r.memory r.comes value (uses_value r.operation address value scalar into q stored_so)
        negative))

    negative_numbers : ListsNegativeNumbers laid seen p (lists_of tables) store origins choices
    negative_numbers w t k op m noted there c negative =
        let o = origin_of laid seen p (lists_of tables) store origins choices t k noted in
        listed laid seen p from is few tables store pair origins others choices are t c.body noted there
        (record { place = o.place; kind = Kinds.Enum })
        (worked (s w t k op m c) (has laid seen p from is few tables store pair origins w t k op m c noted)
        (works w t k m o.form negative c) refl)

pub enumerations_listed : (laid : LaidTree) (p : ProgramBodies) → IsProgramFrom laid p → (is : IsProgram p)
    → length laid.objects ≤ 2 ^ 32 → (tables : List (List (Option State))) (store : Interferences)
    → IsPair p tables store → (seen : LaidTree) → p.laid ≡ read_layout seen → (origins : List BodyOrigins)
    (others : Choice → Type 0) (choices : List Choice) → AreChoices seen p (lists_of tables) store origins others choices
    → ListsEnumerations laid seen p (lists_of tables) store origins choices
enumerations_listed laid p from is few tables store pair seen read origins others choices are = record {
  stores = negative_stores laid seen p from is few tables store pair read origins others choices are;
  numbers = negative_numbers laid seen p from is few tables store pair read origins others choices are;
}
