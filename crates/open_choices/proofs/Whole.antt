-- What is found edge by edge, and what is noted, is all that the runs of a body leave open.
use Rattle.std.proofs.Common.{◌≡◌, ◌↔◌, ◌⊎◌, ℕ, ◌<◌, inl, inr, refl, sym, ap, subst, ◌∙◌, List, length, Some, true}
use Rattle.std.specs.Prelude.{Contains, slice_get}
use Rattle.tm_cint.specs.declared.operators.BinOp.{BinOp}
use Rattle.tm_cint.specs.declared.operators.BinOp.TheVariants as Ops
use Rattle.tm_cint.specs.declared.int_types.IntType.{IntType}
use Rattle.tm_terms.specs.declared.places.Place.{Place}
use Rattle.tm_typed.specs.declared.types.Scalar.{Scalar}
use Rattle.flow_graph.specs.declared.operations.Operation.{Operation}
use Rattle.flow_graph.specs.declared.operations.Operation.TheVariants as Op
use Rattle.flow_graph.specs.declared.operations.Into.{Into}
use Rattle.flow_graph.specs.declared.operations.Into.TheVariants as Intos
use Rattle.flow_graph.specs.declared.operations.Test.{Test}
use Rattle.flow_graph.specs.declared.operations.Test.TheVariants as Tests
use Rattle.mutex_configs.specs.declared.nodes.EdgeCopy.{EdgeCopy}
use Rattle.post_recheck.specs.transfer_rows.StateForms.{State, value_of}
use Rattle.text_choices.specs.declared.kinds.Kind.{Kind}
use Rattle.text_choices.specs.declared.kinds.Kind.TheVariants as Kinds
use Rattle.text_choices.specs.declared.kinds.Choice.{Choice}
use Rattle.text_choices.specs.Choices.{OfKind}
use Rattle.path_origins.specs.declared.origins.Passing.{Passing}
use Rattle.path_origins.specs.declared.origins.Passed.{Passed}
use Rattle.path_origins.specs.declared.origins.Passed.TheVariants as Passes
use Rattle.operand_orders.specs.Reached.{SolvedBody, operation_at, origin_at, HasState, IsOpen}
use Rattle.operand_orders.specs.Order.{IsOfOrder}
use Rattle.open_choices.specs.Unset.{IsUnset, a_load, a_volatile_load, an_end}
use Rattle.open_choices.specs.Conversions.{IsOfImplementation, converted, shifted}
use Rattle.open_choices.specs.Constants.{IsConst, given, stored}
use Rattle.open_choices.specs.Enumerations as enum
use Rattle.open_choices.specs.Enumerations.{IsOfEnum}
use Rattle.open_choices.specs.Lifetimes.{IsOfLifetime, PointsTo, Uses, follows, compares, used, begun}
use Rattle.open_choices.specs.Members.{IsOfMember, Compares, for_value, as_branch, moved, compared}
use Rattle.open_choices.specs.Choices.{IsOpenByRuns, IsOfBody}
use Rattle.open_choices.specs.reading.Looks.{look_of, store_of, bin_of, test_of}
use Rattle.open_choices.specs.declared.looks.Look.{Look}
use Rattle.open_choices.specs.reading.Enumerated.{enumerated_look_of}
use Rattle.open_choices.specs.reading.Found.{IsNew, IsOfSome, IsOfNumber, kind_of, place_at, Finds, IsFound, IsOfEdge}
use Rattle.open_choices.specs.reading.Found.{IsOpenAt, IsEnumeratedAt, IsFallen, passed_kind, IsPassed, IsBegun, IsMeeting}
use Rattle.open_choices.proofs.Enumerated.{enumerated_open, IsEnumerated, stored_found, worked_found}

module _ (b : SolvedBody) where
  -- ## What is found is left open

  store_found : (edge address value : ℕ) (scalar : Scalar) (place : Place) (s : State) (into : Into)
      → HasState b edge (Op.Store address value scalar into place) s
      → (let look = store_of into address scalar place in Finds b edge s look
      → IsOpenByRuns b (kind_of look) (place_at b edge look))
  store_found edge address value scalar place s Intos.Pointed has h =
      stored {edge = edge} {address = address} {value = value} {scalar = scalar} s h.cell has h.target h.constant
  store_found edge address value scalar place s (Intos.Object object) has h = absurd h

  bin_found : (edge to left right : ℕ) (of : IntType) (place : Place) (s : State) (operator : BinOp)
      → HasState b edge (Op.Bin to operator of left right place) s
      → (let look = bin_of operator left place in Finds b edge s look
      → IsOpenByRuns b (kind_of look) (place_at b edge look))
  bin_found edge to left right of place s Ops.Shr has h =
      shifted {edge = edge} {to = to} {left = left} {right = right} {of = of} s h.number has h.has h.negative
  bin_found edge to left right of place s operator has h = absurd h

  test_found : (edge : ℕ) (s : State) (test : Test) → HasState b edge (Op.Assume test) s
      → (let look = test_of test in Finds b edge s look → IsOpenByRuns b (kind_of look) (place_at b edge look))
  test_found edge s (Tests.Pointers equal left right) has h =
      compared {op = Op.Assume (Tests.Pointers equal left right)} {left = left} {right = right} edge s has as_branch
      refl h
  test_found edge s test has h = absurd h

  pub found_open : (edge : ℕ) (s : State) (op : Operation) → HasState b edge op s
      → (let look = look_of op in Finds b edge s look → IsOpenByRuns b (kind_of look) (place_at b edge look))
  found_open edge s (Op.Load to address scalar place) has h =
      a_load {edge = edge} {to = to} {address = address} {scalar = scalar} s h.cell has h.target h.finds
  found_open edge s (Op.LoadAny to address scalar place) has h =
      a_volatile_load {edge = edge} {to = to} {address = address} {scalar = scalar} s h.cell has h.target h.finds
  found_open edge s (Op.Store address value scalar into place) has h =
      store_found edge address value scalar place s into has h
  found_open edge s (Op.Convert to was of source) has h =
      converted {edge = edge} {to = to} {from = source} {was = was} {of = of} s h.number has h.has h.beyond refl
  found_open edge s (Op.Bin to operator of left right place) has h =
      bin_found edge to left right of place s operator has h
  found_open edge s (Op.Move to source cells minus by place) has h =
      let inside = h.moves.leaves in
      let away = inside.leaves in
      moved {edge = edge} {to = to} {from = source} {cells = cells} {by = by} {minus = minus} s h.target h.moves.object
      inside.offset away.leaves.step away.array has h.form inside.has away.leaves.by away.is away.leaves.leaves
  found_open edge s (Op.Deref to source target path place) has h =
      used {op = Op.Deref to source target path place} edge source h.object s has follows
      (record { offset = h.offset; has = h.has }) h.closed
  found_open edge s (Op.Usable pointer place) has h =
      used {op = Op.Usable pointer place} edge pointer h.object s has compares
      (record { offset = h.offset; has = h.has }) h.closed
  found_open edge s (Op.BinPointers to equal left right) has h =
      compared {op = Op.BinPointers to equal left right} {left = left} {right = right} edge s has for_value refl h
  found_open edge s (Op.Assume test) has h = test_found edge s test has h
  found_open edge s op has h = absurd h

  pub edge_open : (edge : ℕ) (c : Choice) → IsOpenAt b edge c → IsOfBody b c
  edge_open edge c h =
      subst (IsOfBody b) (sym h.found.1) (found_open edge h.state (operation_at b edge) h.has h.found.0)

  pub enumeration_open : (edge : ℕ) (c : Choice) → IsEnumeratedAt b edge c → IsOfBody b c
  enumeration_open edge c h =
      (let o = origin_at b edge in subst (IsOfBody b) (sym h.found.1)
      (enumerated_open b edge h.state o.form (operation_at b edge) h.has refl h.found.0))

  passing_open : (passing : Passing) (passed : Passed) → (let o = b.origins in Contains o.passings.items passing)
      → passing.passed ≡ passed → IsOpenByRuns b (passed_kind passed) passing.place
  passing_open passing Passes.Pointer has at = given passing has at refl
  passing_open passing Passes.Enumeration has at = enum.cast passing has at refl

  -- ## What is left open is found

  pub of_edge : (edge : ℕ) (op : Operation) (s : State) → HasState b edge op s → (kind : Kind) (place : Place)
      → (Looks : Operation → Look) → (let look = Looks op in Finds b edge s look → kind ≡ kind_of look
      → place ≡ place_at b edge look
      → IsOfEdge b edge (Looks (operation_at b edge)) (record { place = place; kind = kind }))
  of_edge edge op s has kind place Looks h kind-is place-is = record {
    state = s;
    has = record {
      number = has.number;
      copy = has.copy;
      is = has.is;
      of = has.of;
      state = has.state;
      operation = refl;
    };
    found = subst (λ o. IsFound b edge s (Looks o) (record { place = place; kind = kind })) (sym has.operation)
        (h, λ i. record { place = place-is i; kind = kind-is i });
  }

  module _ (below : (k : ℕ) (copy : EdgeCopy) → slice_get b.copies k ≡ Some copy → copy.edge < length b.edges) where
    abbrev pub IsOfEdges : Choice → Type 0
    IsOfEdges c = IsOfNumber (IsOpenAt b) (length b.edges) c

    abbrev pub AreEnumerations : Choice → Type 0
    AreEnumerations c = IsOfNumber (IsEnumeratedAt b) (length b.edges) c

    is_edge : (edge : ℕ) (op : Operation) (s : State) → HasState b edge op s → edge < length b.edges
    is_edge edge op s has = subst (λ n. n < length b.edges) has.of (below has.number has.copy has.is)

    there : (edge : ℕ) (op : Operation) (s : State) → HasState b edge op s → (kind : Kind) (place : Place)
        → (let look = look_of op in Finds b edge s look → kind ≡ kind_of look → place ≡ place_at b edge look
        → IsOfEdges (record { place = place; kind = kind }))
    there edge op s has kind place h kind-is place-is = record {
      number = edge;
      below = is_edge edge op s has;
      opens = of_edge edge op s has kind place look_of h kind-is place-is;
    }

    enumerated_there : (edge : ℕ) (op : Operation) (s : State) → HasState b edge op s → (place : Place)
        → (let o = origin_at b edge in IsEnumerated b edge s o.form op) → (let o = origin_at b edge in o.place ≡ place)
        → AreEnumerations (record { place = place; kind = Kinds.Enum })
    enumerated_there edge op s has place h at = record {
      number = edge;
      below = is_edge edge op s has;
      opens = (let o = origin_at b edge in of_edge edge op s has Kinds.Enum place (enumerated_look_of o.form) h.0
          (sym h.1) (sym at ∙ sym h.2));
    }

    -- all together
    abbrev pub IsOfAll : Choice → Type 0
    IsOfAll c = IsOfEdges c ⊎ (AreEnumerations c ⊎ ((let o = b.origins in IsOfSome (IsFallen b) o.falls.items c)
        ⊎ ((let o = b.origins in IsOfSome IsPassed o.passings.items c)
        ⊎ ((let o = b.origins in IsOfSome (IsBegun b) o.lives.items c) ⊎ OfKind Kinds.Order (IsOfOrder b) c))))

    unset_found : (place : Place) → IsUnset b place → IsOfAll (record { place = place; kind = Kinds.Unset })
    unset_found place (a_load {edge = edge} {to = to} {address = address} {scalar = scalar} s cell has target finds) =
        inl (there edge (Op.Load to address scalar place) s has Kinds.Unset place
        (record { cell = cell; target = target; finds = finds }) refl refl)
    unset_found place
        (a_volatile_load {edge = edge} {to = to} {address = address} {scalar = scalar} s cell has target finds) =
        inl (there edge (Op.LoadAny to address scalar place) s has Kinds.Unset place
        (record { cell = cell; target = target; finds = finds }) refl refl)
    unset_found place (an_end fall noted at reached) = inr (inr (inl (record {
      one = fall;
      has = noted;
      opens = (reached, λ i. record { place = sym at i; kind = Kinds.Unset });
    })))

    implementation_found : (place : Place) → IsOfImplementation b place
        → IsOfAll (record { place = place; kind = Kinds.Implementation })
    implementation_found place
        (converted {edge = edge} {to = to} {from = source} {was = was} {of = of} s n has number beyond at) =
        inl (there edge (Op.Convert to was of source) s has Kinds.Implementation place
        (record { number = n; has = number; beyond = beyond }) refl (sym at))
    implementation_found place
        (shifted {edge = edge} {to = to} {left = left} {right = right} {of = of} s n has number negative) =
        inl (there edge (Op.Bin to Ops.Shr of left right place) s has Kinds.Implementation place
        (record { number = n; has = number; negative = negative }) refl refl)

    const_found : (place : Place) → IsConst b place → IsOfAll (record { place = place; kind = Kinds.Const })
    const_found place (given passing noted passed at) = inr (inr (inr (inl (record {
      one = passing;
      has = noted;
      opens = (refl, λ i. record { place = sym at i; kind = passed_kind (sym passed i) });
    }))))
    const_found place
        (stored {edge = edge} {address = address} {value = value} {scalar = scalar} s cell has target constant) =
        inl (there edge (Op.Store address value scalar Intos.Pointed place) s has Kinds.Const place
        (record { cell = cell; target = target; constant = constant }) refl refl)

    enum_found : (place : Place) → IsOfEnum b place → IsOfAll (record { place = place; kind = Kinds.Enum })
    enum_found place (enum.cast passing noted passed at) = inr (inr (inr (inl (record {
      one = passing;
      has = noted;
      opens = (refl, λ i. record { place = sym at i; kind = passed_kind (sym passed i) });
    }))))
    enum_found place (enum.stored {edge = edge} {op = op} s has negative at) =
        (let o = origin_at b edge in
        inr (inl (enumerated_there edge op s has place (stored_found b edge s o.form negative) at)))
    enum_found place (enum.worked {edge = edge} {op = op} s has works at) =
        inr (inl (enumerated_there edge op s has place (worked_found b edge s works) at))

    use_found : {op : Operation} {pointer : ℕ} {place : Place} → Uses op pointer place → (edge object : ℕ) (s : State)
        → HasState b edge op s → PointsTo (value_of s pointer) object → (IsOpen b edge object → ⊥)
        → IsOfAll (record { place = place; kind = Kinds.Lifetime })
    use_found (follows {to = to} {from = source} {target = target} {path = path} {place = place}) edge object s has
        points closed =
        inl (there edge (Op.Deref to source target path place) s has Kinds.Lifetime place
        (record { object = object; offset = points.offset; has = points.has; closed = closed }) refl refl)
    use_found (compares {pointer = pointer} {place = place}) edge object s has points closed =
        inl (there edge (Op.Usable pointer place) s has Kinds.Lifetime place
        (record { object = object; offset = points.offset; has = points.has; closed = closed }) refl refl)

    lifetime_found : (place : Place) → IsOfLifetime b place → IsOfAll (record { place = place; kind = Kinds.Lifetime })
    lifetime_found place (used {op = op} edge pointer object s has uses points closed) =
        use_found uses edge object s has points closed
    lifetime_found place (begun life noted at left) = inr (inr (inr (inr (inl (record {
      one = life;
      has = noted;
      opens = (left, λ i. record { place = sym at i; kind = Kinds.Lifetime });
    })))))

    comparison_found : {op : Operation} {left right : ℕ} → Compares op left right
        → (edge : ℕ) (s : State) (place : Place)
        → HasState b edge op s → (let o = origin_at b edge in o.place ≡ place) → IsMeeting s left right
        → IsOfAll (record { place = place; kind = Kinds.Member })
    comparison_found (for_value {to = to} {left = left} {right = right} {equal = equal}) edge s place has at h =
        inl (there edge (Op.BinPointers to equal left right) s has Kinds.Member place h refl (sym at))
    comparison_found (as_branch {left = left} {right = right} {equal = equal}) edge s place has at h =
        inl (there edge (Op.Assume (Tests.Pointers equal left right)) s has Kinds.Member place h refl (sym at))

    member_found : (place : Place) → IsOfMember b place → IsOfAll (record { place = place; kind = Kinds.Member })
    member_found place (moved {edge = edge} {to = to} {from = source} {cells = cells} {by = by} {minus = minus} s target
        object offset step array has form inside steps is leaves) =
        inl (there edge (Op.Move to source cells minus by place) s has Kinds.Member place (record {
          target = target;
          form = form;
          moves = record {
            object = object;
            leaves = record {
              offset = offset;
              has = inside;
              leaves = record {
                array = array;
                is = is;
                leaves = record { step = step; by = steps; leaves = leaves };
              };
            };
          };
        }) refl refl)
    member_found place (compared {op = op} {left = left} {right = right} edge s has with at h) =
        comparison_found with edge s place has at h

    open_found : (kind : Kind) (place : Place) → IsOpenByRuns b kind place
        → IsOfAll (record { place = place; kind = kind })
    open_found Kinds.Const place h = const_found place h
    open_found Kinds.Enum place h = enum_found place h
    open_found Kinds.Implementation place h = implementation_found place h
    open_found Kinds.Layout place h = absurd h
    open_found Kinds.Lifetime place h = lifetime_found place h
    open_found Kinds.Member place h = member_found place h
    open_found Kinds.Order place h = inr (inr (inr (inr (inr (refl, h)))))
    open_found Kinds.Pragma place h = absurd h
    open_found Kinds.Reserved place h = absurd h
    open_found Kinds.Restrict place h = absurd h
    open_found Kinds.Unset place h = unset_found place h

    -- ## Both ways

    order_open : (kind : Kind) (place : Place) → kind ≡ Kinds.Order → IsOfOrder b place → IsOpenByRuns b kind place
    order_open kind place e h = subst (λ k. IsOpenByRuns b k place) (sym e) h

    pub all_open : (c : Choice) → IsOfAll c ↔ IsOfBody b c
    all_open c = (
      λ x. elim x [
        | inl h ↦ edge_open h.number c h.opens
        | inr u ↦ elim u [
          | inl h ↦ enumeration_open h.number c h.opens
          | inr y ↦ elim y [
            | inl h ↦ subst (IsOfBody b) (sym h.opens.1) (an_end h.one h.has refl h.opens.0)
            | inr z ↦ elim z [
              | inl h ↦ subst (IsOfBody b) (sym h.opens.1) (passing_open h.one h.one.passed h.has refl)
              | inr w ↦ elim w [
                | inl h ↦ subst (IsOfBody b) (sym h.opens.1) (begun h.one h.has refl h.opens.0)
                | inr h ↦ order_open c.kind c.place h.0 h.1
              ]
            ]
          ]
        ]
      ],
      λ h. open_found c.kind c.place h,
    )
