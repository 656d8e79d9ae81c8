use Rattle.body_builder.specs.Fragments.{tree_in}
use Rattle.body_builder.specs.concrete_steps.NextAction.{function_at}
use Rattle.body_builder.specs.concrete_steps.Places.{rvalue_place}
use Rattle.body_builder.specs.lowering.Table.{is_same_place}
use Rattle.path_origins.proofs.+walk.Goals as goal
use Rattle.path_origins.proofs.Beside.{sequenced_noted}
use Rattle.path_origins.proofs.Calls.{left_first, left_last, left_more}
use Rattle.path_origins.proofs.Computing.{assignment_read, binary_read, compound_moved, compound_read, first_moved}
use Rattle.path_origins.proofs.Computing.{pointers_read, second_moved, step_moved, step_read, unary_read}
use Rattle.path_origins.proofs.ReadTrees.{behind_part, both_read, boxed, boxes, call_gives, call_read, choice_read}
use Rattle.path_origins.proofs.ReadTrees.{comma_read, converted_read, element_read, folded_read, folded_tested, given_is}
use Rattle.path_origins.proofs.ReadTrees.{gives_by, held_in, leaf_read, load_read, not_read, object_read, object_typed}
use Rattle.path_origins.proofs.ReadTrees.{part_read, placed_as, reaches, same_read, stands, structure_read, typed_by, walks}
use Rattle.path_origins.proofs.Values.{not_branch, right_steps}
use Rattle.path_origins.specs.Expressions.{walked}
use Rattle.path_origins.specs.Noted.{behind, Noted, one, passing_if}
use Rattle.path_origins.specs.Opens.{is_among}
use Rattle.path_origins.specs.Shown.{shown, sizes_in}
use Rattle.path_origins.specs.Types.{cast_if, chosen, computed, converted, differs, element_of, followed, given}
use Rattle.path_origins.specs.Types.{is_unsigned_by_some, member_at, number_if, pointer_to}
use Rattle.path_origins.specs.declared.origins.Form.TheVariants as Forms
use Rattle.path_origins.specs.declared.types.Given.{Given}
use Rattle.path_origins.specs.declared.types.Given.TheVariants as Gives
use Rattle.path_origins.specs.declared.walks.Wanted.TheVariants as Wants
use Rattle.path_origins.specs.reading.Reading.{AreRead, IsAddressed, IsGiven, IsRead, IsReadAgainst, IsReadRight}
use Rattle.path_origins.specs.reading.Reading.{IsTested, IsTyped}
use Rattle.path_origins.specs.reading.Walks.{by_wanted, operands_added}
use Rattle.std.proofs.Common.{ap, ap₂, arith, false, get_or, length, refl, sym, true, ◌∙◌, ◌≡◌}
use Rattle.tm_laid.specs.Layouts.{laid_tree}
use Rattle.tm_laid.specs.TypeCells.{entry_of}
use Rattle.tm_terms.specs.declared.places.Place.{Place}
use Rattle.tm_typed.proofs.CallTrees.{rvalue_tree-call}
use Rattle.tm_typed.specs.TypedTrees.{a_binary, a_choice, a_comma, a_comparison_of_pointers, a_compound}
use Rattle.tm_typed.specs.TypedTrees.{a_compound_move, a_constant, a_conversion, a_discard, a_folded, a_function_call}
use Rattle.tm_typed.specs.TypedTrees.{a_load, a_move, a_not, a_null, a_part, a_pointed, a_pointed_element}
use Rattle.tm_typed.specs.TypedTrees.{a_pointer_step, a_probe, a_structure, a_unary, a_unit_step, an_address, an_and}
use Rattle.tm_typed.specs.TypedTrees.{an_arrow, an_assignment, an_element, an_input_value, an_or, as_rvalues}
use Rattle.tm_typed.specs.TypedTrees.{lvalue_tree, rvalue_tree, the_same}
use Rattle.tm_typed.specs.declared.expressions.Rvalue.{Rvalue}
use Rattle.tm_typed.specs.declared.types.Qualified.{Qualified}
use Rattle.tm_typed.specs.declared.types.Scalar.TheVariants as Scalars

pub expressions::walk_rvalue-returns-in-Constant : goal.expressions::walk_rvalue-returns-in-Constant
expressions::walk_rvalue-returns-in-Constant t c =
    let h = c.args.here.now in
    let i = c.in-Constant in
    let k = c.note_value in
    record {
      noted = leaf_read h.laid.now h.opens.now h.sizes.now h.path k.result c.args.wanted c.args.used c.args.rvalue.now
          (a_constant i.of i.value i.place) false i.place Forms.Constant c.args.to.now k.new.to (ap rvalue_tree i.is)
          refl k.ensures.noted;
      given = gives_by h.laid.now h.opens.now h.sizes.now h.path k.result c.args.rvalue.now (a_constant i.of i.value
          i.place) Gives.Number (ap rvalue_tree i.is) k.ensures.given refl;
    }

pub expressions::walk_rvalue-returns-in_ok-_given-in-Branch :
    goal.expressions::walk_rvalue-returns-in_ok-_given-in-Branch
expressions::walk_rvalue-returns-in_ok-_given-in-Branch t c =
    let h = c.args.here.now in
    let i = c.in-Folded in
    let v = c.deref.result.now in
    let tree = boxed rvalue_tree (λ e. a_folded i.value e) c.deref.ensures (ap rvalue_tree i.is) in
    record {
      noted = folded_tested h.laid.now h.opens.now h.sizes.now h.path c.args.wanted c.args.used c.args.rvalue.now v
          i.value c.args.to.now c.walk_rvalue.new.to tree c.in-Branch.is c.in_ok-_given-in-Branch.ensures.noted;
      given = given_is h.laid.now h.opens.now h.sizes.now h.path c.args.rvalue.now _ Gives.Number tree refl;
    }

pub expressions::walk_rvalue-returns-in_ok-note-in-Value : goal.expressions::walk_rvalue-returns-in_ok-note-in-Value
expressions::walk_rvalue-returns-in_ok-note-in-Value t c =
    let h = c.args.here.now in
    let i = c.in-Folded in
    let v = c.deref-in-Value.result.now in
    let tree = boxed rvalue_tree (λ e. a_folded i.value e) c.deref-in-Value.ensures (ap rvalue_tree i.is) in
    record {
      noted = folded_read h.laid.now h.opens.now h.sizes.now h.path c.args.wanted c.args.used c.args.rvalue.now v
          i.value c.rvalue_place.result c.args.to.now c.note.new.to tree (not_branch c.args.wanted c.in-Value.is)
          c.rvalue_place.ensures c.in_ok-note-in-Value.ensures;
      given = given_is h.laid.now h.opens.now h.sizes.now h.path c.args.rvalue.now _ Gives.Number tree refl;
    }

pub expressions::walk_rvalue-returns-in-Null : goal.expressions::walk_rvalue-returns-in-Null
expressions::walk_rvalue-returns-in-Null t c =
    let h = c.args.here.now in
    let i = c.in-Null in
    let k = c.note_value-in-Null in
    record {
      noted = leaf_read h.laid.now h.opens.now h.sizes.now h.path k.result c.args.wanted c.args.used c.args.rvalue.now
          (a_null i.place) true i.place Forms.Constant c.args.to.now k.new.to (ap rvalue_tree i.is) refl
          k.ensures.noted;
      given = gives_by h.laid.now h.opens.now h.sizes.now h.path k.result c.args.rvalue.now (a_null i.place) Gives.Null
          (ap rvalue_tree i.is) k.ensures.given refl;
    }

pub expressions::walk_rvalue-returns-in_ok-of-in-Load : goal.expressions::walk_rvalue-returns-in_ok-of-in-Load
expressions::walk_rvalue-returns-in_ok-of-in-Load t c =
    let h = c.args.here.now in
    let i = c.in-Load in
    let k = c.note_value-in-Load in
    let l = c.deref-in-Load-2.result.now in
    let tree = boxed lvalue_tree (λ e. a_load i.scalar i.volatile e) c.deref-in-Load-2.ensures (ap rvalue_tree i.is) in
    record {
      noted = load_read h.laid.now h.opens.now h.sizes.now h.path k.result c.args.wanted c.args.used c.args.rvalue.now l
          c.deref-in-Load.result.now i.scalar i.volatile c.place-place.result c.is_pointer_scalar.result c.args.to.now
          c.walk_address.new.to k.new.to tree (c.deref-in-Load.ensures ∙ sym c.deref-in-Load-2.ensures)
          c.place-place.ensures c.is_pointer_scalar.ensures c.in_ok-of-in-Load.ensures.noted k.ensures.noted;
      given = gives_by h.laid.now h.opens.now h.sizes.now h.path k.result c.args.rvalue.now _ c.held_by-gives.result
          tree k.ensures.given (held_in h.laid.now h.opens.now h.sizes.now h.path l i.scalar c.in_ok-of-in-Load.of
          c.held_by-gives.result c.in_ok-of-in-Load.ensures.of c.held_by-gives.ensures);
    }

pub expressions::walk_rvalue-returns-in_ok-of-in-Address : goal.expressions::walk_rvalue-returns-in_ok-of-in-Address
unfolding IsAddressed IsTyped
expressions::walk_rvalue-returns-in_ok-of-in-Address t c =
    let h = c.args.here.now in
    let i = c.in-Address in
    let k = c.end_with in
    let l = c.deref-in-Address-2.result.now in
    let place = placed_as c.place.ensures c.deref-in-Address.ensures c.deref-in-Address-2.ensures in
    let tree = boxed lvalue_tree (λ e. an_address e i.place) c.deref-in-Address-2.ensures (ap rvalue_tree i.is) in
    record {
      noted = part_read h.laid.now h.opens.now h.sizes.now h.path k.result c.args.wanted c.args.used c.args.rvalue.now _
          true i.place (reaches h.laid.now h.opens.now h.sizes.now h.path (lvalue_tree l)) c.args.to.now
          c.walk_address-in-Address.new.to k.new.to tree refl c.in_ok-of-in-Address.ensures.noted k.ensures.noted;
      given = gives_by h.laid.now h.opens.now h.sizes.now h.path k.result c.args.rvalue.now _ c.pointer_to.result tree
          k.ensures.given (c.pointer_to.ensures (is_among h.opens.now) h.path ∙ ap₂ (λ b (q : Qualified). pointer_to
          (laid_tree h.laid.now) (is_among h.opens.now) h.path b (entry_of (laid_tree h.laid.now).file q.number).ctype
          q) (c.is_same_place-is_bare.ensures ∙ ap (is_same_place i.place) place) c.in_ok-of-in-Address.ensures.of);
    }

pub expressions::walk_rvalue-returns-in_ok-_of-in-Structure :
    goal.expressions::walk_rvalue-returns-in_ok-_of-in-Structure
expressions::walk_rvalue-returns-in_ok-_of-in-Structure t c =
    let h = c.args.here.now in
    let i = c.in-Structure in
    let k = c.end_with-in-Structure in
    let l = c.deref-in-Structure-2.result.now in
    let place = placed_as c.place-place-in-Structure.ensures c.deref-in-Structure.ensures c.deref-in-Structure-2.ensures
    in
    let tree = boxed lvalue_tree (λ e. a_structure e) c.deref-in-Structure-2.ensures (ap rvalue_tree i.is) in
    record {
      noted = structure_read h.laid.now h.opens.now h.sizes.now h.path k.result c.args.wanted c.args.used
          c.args.rvalue.now l c.place-place-in-Structure.result c.args.to.now c.walk_address-in-Structure.new.to
          k.new.to tree place c.in_ok-_of-in-Structure.ensures.noted k.ensures.noted;
      given = gives_by h.laid.now h.opens.now h.sizes.now h.path k.result c.args.rvalue.now _ Gives.Nothing tree
          k.ensures.given refl;
    }

pub expressions::walk_rvalue-returns-in-Input : goal.expressions::walk_rvalue-returns-in-Input
expressions::walk_rvalue-returns-in-Input t c =
    let h = c.args.here.now in
    let i = c.in-Input in
    let k = c.note_value-in-Input in
    record {
      noted = leaf_read h.laid.now h.opens.now h.sizes.now h.path k.result c.args.wanted c.args.used c.args.rvalue.now
          (an_input_value i.low i.high i.place) false i.place Forms.Any c.args.to.now k.new.to (ap rvalue_tree i.is)
          refl k.ensures.noted;
      given = gives_by h.laid.now h.opens.now h.sizes.now h.path k.result c.args.rvalue.now (an_input_value i.low i.high
          i.place) Gives.Number (ap rvalue_tree i.is) k.ensures.given refl;
    }

pub expressions::walk_rvalue-returns-in-Probe : goal.expressions::walk_rvalue-returns-in-Probe
expressions::walk_rvalue-returns-in-Probe t c =
    let h = c.args.here.now in
    let i = c.in-Probe in
    let k = c.note_value-in-Probe in
    record {
      noted = leaf_read h.laid.now h.opens.now h.sizes.now h.path k.result c.args.wanted c.args.used c.args.rvalue.now
          (a_probe i.mutex i.place) false i.place Forms.Probe c.args.to.now k.new.to (ap rvalue_tree i.is) refl
          k.ensures.noted;
      given = gives_by h.laid.now h.opens.now h.sizes.now h.path k.result c.args.rvalue.now (a_probe i.mutex i.place)
          Gives.Number (ap rvalue_tree i.is) k.ensures.given refl;
    }

pub expressions::walk_call-returns-in_ok-given-in-Same : goal.expressions::walk_call-returns-in_ok-given-in-Same
unfolding IsGiven
expressions::walk_call-returns-in_ok-given-in-Same t c =
    let h = c.args.here.now in
    let i = c.in-Same in
    let k = c.same_end in
    let v = c.deref.result.now in
    let from = c.in_ok-given-in-Same in
    let tree = boxed rvalue_tree (λ e. the_same e i.place) c.deref.ensures (ap rvalue_tree i.is) in
    record {
      noted = same_read h.laid.now h.opens.now h.sizes.now h.path k.result c.args.wanted c.args.used c.args.rvalue.now v
          i.place from.given c.has.result c.args.to.now c.walk_rvalue.new.to k.new.to tree from.ensures.noted
          from.ensures.given c.has.ensures k.ensures.noted;
      given = gives_by h.laid.now h.opens.now h.sizes.now h.path k.result c.args.rvalue.now _ (cast_if c.has.result
          from.given) tree k.ensures.given (ap₂ cast_if c.has.ensures from.ensures.given);
    }

pub expressions::walk_call-returns-in_ok-walk_arguments-in-Call :
    goal.expressions::walk_call-returns-in_ok-walk_arguments-in-Call
unfolding tree_in
expressions::walk_call-returns-in_ok-walk_arguments-in-Call t c =
    let h = c.args.here.now in
    let i = c.in-Call in
    let k = c.call_end in
    let es = c.deref-in-Call.result.now in
    let to = c.callee-path.result in
    let tree = boxed as_rvalues (λ xs. a_function_call i.function i.site xs i.place) c.deref-in-Call.ensures.value (ap
    rvalue_tree i.is ∙ rvalue_tree-call i.function i.site i.arguments i.place) in
    record {
      noted = call_read h.laid.now h.opens.now h.sizes.now h.path k.result c.args.wanted c.args.used c.args.rvalue.now
          i.function i.site i.place es to c.len.result c.args.to.now c.walk_arguments.new.to k.new.to tree
          c.callee-path.ensures (c.len.ensures ∙ i.arguments.ok.0 ∙ ap length (sym c.deref-in-Call.ensures.value))
          c.in_ok-walk_arguments-in-Call.ensures k.ensures.noted;
      given = call_gives h.laid.now h.opens.now h.sizes.now h.path k.result c.args.rvalue.now i.function i.site i.place
          es to tree c.callee-path.ensures k.ensures.given;
    }

pub expressions::walk_call-returns-in_ok-given-in-Convert : goal.expressions::walk_call-returns-in_ok-given-in-Convert
unfolding IsGiven
expressions::walk_call-returns-in_ok-given-in-Convert t c =
    let h = c.args.here.now in
    let i = c.in-Convert in
    let k = c.conversion_end in
    let v = c.deref-in-Convert-2.result.now in
    let same = c.deref-in-Convert.ensures ∙ sym c.deref-in-Convert-2.ensures in
    let tree = boxed rvalue_tree (λ e. a_conversion i.from i.of e i.place) c.deref-in-Convert-2.ensures (ap rvalue_tree
    i.is) in
    record {
      noted = converted_read h.laid.now h.opens.now h.sizes.now h.path k.result c.args.wanted c.args.used
          c.args.rvalue.now v c.deref-in-Convert.result.now i.from i.of i.place c.rvalue_place.result
          c.is_same_place-is_same.result c.is_conversion.result c.args.to.now c.walk_rvalue-in-Convert.new.to k.new.to
          tree same c.rvalue_place.ensures c.is_same_place-is_same.ensures c.is_conversion.ensures
          c.in_ok-given-in-Convert.ensures.noted k.ensures.noted;
      given = gives_by h.laid.now h.opens.now h.sizes.now h.path k.result c.args.rvalue.now _ c.converted-gives.result
          tree k.ensures.given (c.converted-gives.ensures ∙ ap₂ (converted i.of) (c.is_same_place-is_same.ensures ∙ ap
          (is_same_place i.place) (c.rvalue_place.ensures ∙ ap (λ (s : Rvalue). rvalue_place (rvalue_tree s)) same))
          c.in_ok-given-in-Convert.ensures.given);
    }

pub expressions::walk_call-returns-in_ok-_given-in-Discard : goal.expressions::walk_call-returns-in_ok-_given-in-Discard
unfolding IsRead
expressions::walk_call-returns-in_ok-_given-in-Discard t c =
    let h = c.args.here.now in
    let i = c.in-Discard in
    let k = c.end_with in
    let v = c.deref-in-Discard.result.now in
    let tree = boxed rvalue_tree (λ e. a_discard e i.place) c.deref-in-Discard.ensures (ap rvalue_tree i.is) in
    record {
      noted = part_read h.laid.now h.opens.now h.sizes.now h.path k.result c.args.wanted c.args.used c.args.rvalue.now _
          false i.place (walks h.laid.now h.opens.now h.sizes.now h.path false (rvalue_tree v)).value c.args.to.now
          c.walk_rvalue-in-Discard.new.to k.new.to tree refl c.in_ok-_given-in-Discard.ensures.noted k.ensures.noted;
      given = gives_by h.laid.now h.opens.now h.sizes.now h.path k.result c.args.rvalue.now _ Gives.Nothing tree
          k.ensures.given refl;
    }

pub expressions::walk_choice-returns-in_ok-given-in-Comma : goal.expressions::walk_choice-returns-in_ok-given-in-Comma
unfolding IsGiven
expressions::walk_choice-returns-in_ok-given-in-Comma t c =
    let h = c.args.here.now in
    let i = c.in-Comma in
    let k = c.end_with in
    let x = c.deref.result.now in
    let y = c.deref-in-Comma.result.now in
    let from = c.in_ok-given-in-Comma in
    let tree = boxes rvalue_tree rvalue_tree (λ e f. a_comma e f i.place) c.deref.ensures c.deref-in-Comma.ensures (ap
    rvalue_tree i.is) in
    record {
      noted = comma_read h.laid.now h.opens.now h.sizes.now h.path k.result c.args.wanted c.args.used c.args.rvalue.now
          x y i.place c.len-pending.result from.given c.is_pointer.result c.args.to.now c.walk_rvalue.new.to
          c.sequence.new.to c.walk_rvalue-in-Comma.new.to k.new.to tree (c.len-pending.ensures ∙
          c.args.to.now.pending.ok.0) c.in_ok-_first-in-Comma.ensures.noted c.sequence.ensures from.ensures.noted
          from.ensures.given c.is_pointer.ensures k.ensures.noted;
      given = gives_by h.laid.now h.opens.now h.sizes.now h.path k.result c.args.rvalue.now _ from.given tree
          k.ensures.given from.ensures.given;
    }

pub expressions::walk_choice-returns-in_ok-_given-in-Not : goal.expressions::walk_choice-returns-in_ok-_given-in-Not
expressions::walk_choice-returns-in_ok-_given-in-Not t c =
    let h = c.args.here.now in
    let i = c.in-Not in
    let k = c.fork_end in
    let v = c.deref-in-Not.result.now in
    let tree = boxed rvalue_tree (λ e. a_not e i.place) c.deref-in-Not.ensures (ap rvalue_tree i.is) in
    record {
      noted = not_read h.laid.now h.opens.now h.sizes.now h.path k.result c.args.wanted c.args.used c.args.rvalue.now v
          i.place c.args.to.now c.walk_rvalue-in-Not.new.to k.new.to tree c.in_ok-_given-in-Not.ensures.noted
          k.ensures.noted;
      given = gives_by h.laid.now h.opens.now h.sizes.now h.path k.result c.args.rvalue.now _ Gives.Number tree
          k.ensures.given refl;
    }

pub expressions::walk_choice-returns-in_ok-_second-in-And : goal.expressions::walk_choice-returns-in_ok-_second-in-And
expressions::walk_choice-returns-in_ok-_second-in-And t c =
    let h = c.args.here.now in
    let i = c.in-And in
    let k = c.both_end in
    let x = c.deref-in-And.result.now in
    let y = c.deref-in-And-2.result.now in
    let tree = boxes rvalue_tree rvalue_tree (λ e f. an_and e f i.place) c.deref-in-And.ensures c.deref-in-And-2.ensures
    (ap rvalue_tree i.is) in
    record {
      noted = both_read h.laid.now h.opens.now h.sizes.now h.path k.result c.args.wanted c.args.used c.args.rvalue.now x
          y _ i.place c.args.to.now c.walk_tested.new.to c.walk_rvalue-in-And.new.to k.new.to tree refl
          c.in_ok-walk_tested-in-And.ensures c.in_ok-_second-in-And.ensures.noted k.ensures.noted;
      given = gives_by h.laid.now h.opens.now h.sizes.now h.path k.result c.args.rvalue.now _ Gives.Number tree
          k.ensures.given refl;
    }

pub expressions::walk_choice-returns-in_ok-_second-in-Or : goal.expressions::walk_choice-returns-in_ok-_second-in-Or
expressions::walk_choice-returns-in_ok-_second-in-Or t c =
    let h = c.args.here.now in
    let i = c.in-Or in
    let k = c.both_end-in-Or in
    let x = c.deref-in-Or.result.now in
    let y = c.deref-in-Or-2.result.now in
    let tree = boxes rvalue_tree rvalue_tree (λ e f. an_or e f i.place) c.deref-in-Or.ensures c.deref-in-Or-2.ensures
    (ap rvalue_tree i.is) in
    record {
      noted = both_read h.laid.now h.opens.now h.sizes.now h.path k.result c.args.wanted c.args.used c.args.rvalue.now x
          y _ i.place c.args.to.now c.walk_tested-in-Or.new.to c.walk_rvalue-in-Or.new.to k.new.to tree refl
          c.in_ok-walk_tested-in-Or.ensures c.in_ok-_second-in-Or.ensures.noted k.ensures.noted;
      given = gives_by h.laid.now h.opens.now h.sizes.now h.path k.result c.args.rvalue.now _ Gives.Number tree
          k.ensures.given refl;
    }

pub expressions::walk_choice-returns-in_ok-other-in-Conditional :
    goal.expressions::walk_choice-returns-in_ok-other-in-Conditional
unfolding IsGiven
expressions::walk_choice-returns-in_ok-other-in-Conditional t c =
    let h = c.args.here.now in
    let i = c.in-Conditional in
    let k = c.choice_end in
    let v = c.deref-in-Conditional.result.now in
    let x = c.deref-in-Conditional-2.result.now in
    let y = c.deref-in-Conditional-3.result.now in
    let from = c.in_ok-one-in-Conditional in
    let other = c.in_ok-other-in-Conditional in
    let tree = boxes rvalue_tree rvalue_tree (λ e f. a_choice (rvalue_tree v) e f i.place)
    c.deref-in-Conditional-2.ensures c.deref-in-Conditional-3.ensures (boxed rvalue_tree (λ e. a_choice e (rvalue_tree
    i.first.value) (rvalue_tree i.second.value) i.place) c.deref-in-Conditional.ensures (ap rvalue_tree i.is)) in
    record {
      noted = choice_read h.laid.now h.opens.now h.sizes.now h.path k.result c.args.wanted c.args.used c.args.rvalue.now
          v x y i.place from.one c.has_value.result c.args.to.now c.walk_tested-in-Conditional.new.to
          c.walk_rvalue-in-Conditional.new.to c.note_if.new.to c.walk_rvalue-in-Conditional-2.new.to k.new.to tree
          c.in_ok-walk_tested-in-Conditional.ensures from.ensures.noted from.ensures.given c.has_value.ensures
          c.in_ok-note_if-in-Conditional.ensures other.ensures.noted k.ensures.noted;
      given = gives_by h.laid.now h.opens.now h.sizes.now h.path k.result c.args.rvalue.now _ (chosen from.one
          other.other) tree k.ensures.given (ap₂ chosen from.ensures.given other.ensures.given);
    }

pub expressions::walk_tested-returns : goal.expressions::walk_tested-returns
unfolding IsRead IsTested
expressions::walk_tested-returns t c =
    let h = c.args.here.now in
    sequenced_noted c.len-pending.result (shown c.args.to.now) (shown c.walk_rvalue.new.to) (shown c.sequence.new.to)
    (walks h.laid.now h.opens.now h.sizes.now h.path true (rvalue_tree c.args.rvalue.now)).fork
    (c.len-pending.ensures ∙ c.args.to.now.pending.ok.0) c.in_ok-_given.ensures.noted c.sequence.ensures

pub expressions::walk_part-returns : goal.expressions::walk_part-returns
expressions::walk_part-returns t c = record {
  noted = c.in_ok-given.ensures.noted;
  given = c.in_ok-given.ensures.given;
  edges = (c.since.ensures.first, c.since.ensures.end);
}

pub expressions::walk_against-returns : goal.expressions::walk_against-returns
unfolding IsRead IsReadAgainst
expressions::walk_against-returns t c =
    let from = c.in_ok-walked in
    let beside = c.in_ok-note_operands.ensures in
    record {
      noted = beside ∙ ap (operands_added c.args.place c.args.first from.walked.edges) from.ensures.noted;
      given = from.ensures.given;
      edges = (from.ensures.edges.0, from.ensures.edges.1 ∙ sym (ap (λ (x : Noted). x.size) beside));
    }

pub addresses::walk_address-returns-in_ok-note-in-Object : goal.addresses::walk_address-returns-in_ok-note-in-Object
addresses::walk_address-returns-in_ok-note-in-Object t c =
    let h = c.args.here.now in
    let i = c.in-Object in
    let k = c.object_type in
    record {
      noted = object_read h.laid.now h.opens.now h.sizes.now h.path k.result _ c.args.lvalue.now i.object i.place
          c.args.to.now c.note.new.to i.is c.in_ok-note-in-Object.ensures k.ensures;
      of = object_typed h.laid.now h.opens.now h.sizes.now h.path k.result c.args.lvalue.now i.object i.place i.is
          k.ensures;
    }

pub addresses::walk_address-returns-in_ok-_by-in-Element : goal.addresses::walk_address-returns-in_ok-_by-in-Element
unfolding IsTyped
addresses::walk_address-returns-in_ok-_by-in-Element t c =
    let h = c.args.here.now in
    let i = c.in-Element in
    let k = c.note_type in
    let l = c.deref.result.now in
    let y = c.deref-in-Element.result.now in
    let by = c.in_ok-_by-in-Element in
    let tree = boxes lvalue_tree rvalue_tree (λ e f. an_element e f i.length i.cells i.place) c.deref.ensures
    c.deref-in-Element.ensures (ap lvalue_tree i.is) in
    record {
      noted = behind_part h.laid.now h.opens.now h.sizes.now h.path k.result c.args.lvalue.now _ _ (one i.place
          Forms.Element) c.args.to.now c.walk_against.new.to k.new.to tree refl (element_read h.laid.now h.opens.now
          h.sizes.now h.path l y i.place c.since-base.result by._by.edges c.args.to.now c.walk_address.new.to
          c.walk_against.new.to c.in_ok-of-in-Element.ensures.noted c.since-base.ensures.first c.since-base.ensures.end
          by.ensures.noted by.ensures.edges.0 by.ensures.edges.1) k.ensures.noted;
      of = typed_by h.laid.now h.opens.now h.sizes.now h.path k.result c.args.lvalue.now _ c.element_of.result tree
          k.ensures.typed (c.element_of.ensures (is_among h.opens.now) h.path ∙ ap (element_of (laid_tree h.laid.now)
          (is_among h.opens.now) h.path) c.in_ok-of-in-Element.ensures.of);
    }

pub addresses::walk_address-returns-in_ok-_by-in-Subscript : goal.addresses::walk_address-returns-in_ok-_by-in-Subscript
unfolding IsGiven
addresses::walk_address-returns-in_ok-_by-in-Subscript t c =
    let h = c.args.here.now in
    let i = c.in-Subscript in
    let k = c.note_type_behind in
    let x = c.deref-in-Subscript.result.now in
    let y = c.deref-in-Subscript-2.result.now in
    let base = c.in_ok-base-in-Subscript in
    let by = c.in_ok-_by-in-Subscript in
    let tree = boxes rvalue_tree rvalue_tree (λ e f. a_pointed_element e f i.cells i.target i.place)
    c.deref-in-Subscript.ensures c.deref-in-Subscript-2.ensures (ap lvalue_tree i.is) in
    record {
      noted = behind_part h.laid.now h.opens.now h.sizes.now h.path k.result c.args.lvalue.now _ _ (behind (one i.place
          (Forms.Move i.target)) (one i.place Forms.Follow)) c.args.to.now c.walk_against-in-Subscript.new.to k.new.to
          tree refl (stands h.laid.now h.opens.now h.sizes.now h.path Wants.Value x y i.place base.base.edges
          by._by.edges c.args.to.now c.walk_part.new.to c.walk_against-in-Subscript.new.to base.ensures.noted
          base.ensures.edges.0 base.ensures.edges.1 by.ensures.noted by.ensures.edges.0 by.ensures.edges.1)
          k.ensures.noted;
      of = typed_by h.laid.now h.opens.now h.sizes.now h.path k.result c.args.lvalue.now _ c.followed-of.result tree
          k.ensures.typed (c.followed-of.ensures ∙ ap (λ (g : Given). followed g i.target) base.ensures.given);
    }

pub addresses::walk_address-returns-in_ok-given-in-Pointed : goal.addresses::walk_address-returns-in_ok-given-in-Pointed
unfolding IsRead IsGiven
addresses::walk_address-returns-in_ok-given-in-Pointed t c =
    let h = c.args.here.now in
    let i = c.in-Pointed in
    let k = c.note_type-in-Pointed in
    let x = c.deref-in-Pointed.result.now in
    let tree = boxed rvalue_tree (λ e. a_pointed e i.target i.place) c.deref-in-Pointed.ensures (ap lvalue_tree i.is) in
    record {
      noted = behind_part h.laid.now h.opens.now h.sizes.now h.path k.result c.args.lvalue.now _ (walks h.laid.now
          h.opens.now h.sizes.now h.path true (rvalue_tree x)).value (one i.place Forms.Follow) c.args.to.now
          c.walk_rvalue.new.to k.new.to tree refl c.in_ok-given-in-Pointed.ensures.noted k.ensures.noted;
      of = typed_by h.laid.now h.opens.now h.sizes.now h.path k.result c.args.lvalue.now _ c.followed.result tree
          k.ensures.typed (c.followed.ensures ∙ ap (λ (g : Given). followed g i.target)
          c.in_ok-given-in-Pointed.ensures.given);
    }

pub addresses::walk_address-returns-in_ok-given-in-Arrow : goal.addresses::walk_address-returns-in_ok-given-in-Arrow
unfolding IsRead IsGiven
addresses::walk_address-returns-in_ok-given-in-Arrow t c =
    let h = c.args.here.now in
    let i = c.in-Arrow in
    let k = c.note_type_behind-in-Arrow in
    let x = c.deref-in-Arrow.result.now in
    let tree = boxed rvalue_tree (λ e. an_arrow e i.target i.cell i.place) c.deref-in-Arrow.ensures (ap lvalue_tree
    i.is) in
    record {
      noted = behind_part h.laid.now h.opens.now h.sizes.now h.path k.result c.args.lvalue.now _ (walks h.laid.now
          h.opens.now h.sizes.now h.path true (rvalue_tree x)).value (behind (one i.place Forms.Follow) (one i.place
          Forms.Part)) c.args.to.now c.walk_rvalue-in-Arrow.new.to k.new.to tree refl
          c.in_ok-given-in-Arrow.ensures.noted k.ensures.noted;
      of = typed_by h.laid.now h.opens.now h.sizes.now h.path k.result c.args.lvalue.now _ c.member_at-of.result tree
          k.ensures.typed (c.member_at-of.ensures (is_among h.opens.now) h.path ∙ ap (λ (q : Qualified). member_at
          (laid_tree h.laid.now) (is_among h.opens.now) h.path q i.cell) (c.followed-in-Arrow.ensures ∙ ap (λ (g :
          Given). followed g i.target) c.in_ok-given-in-Arrow.ensures.given));
    }

pub addresses::walk_address-returns-in_ok-of-in-Member : goal.addresses::walk_address-returns-in_ok-of-in-Member
unfolding IsAddressed IsTyped
addresses::walk_address-returns-in_ok-of-in-Member t c =
    let h = c.args.here.now in
    let i = c.in-Member in
    let k = c.note_type-in-Member in
    let l = c.deref-in-Member.result.now in
    let tree = boxed lvalue_tree (λ e. a_part e i.cell i.place) c.deref-in-Member.ensures (ap lvalue_tree i.is) in
    record {
      noted = behind_part h.laid.now h.opens.now h.sizes.now h.path k.result c.args.lvalue.now _ (reaches h.laid.now
          h.opens.now h.sizes.now h.path (lvalue_tree l)) (one i.place Forms.Part) c.args.to.now
          c.walk_address-in-Member.new.to k.new.to tree refl c.in_ok-of-in-Member.ensures.noted k.ensures.noted;
      of = typed_by h.laid.now h.opens.now h.sizes.now h.path k.result c.args.lvalue.now _ c.member_at.result tree
          k.ensures.typed (c.member_at.ensures (is_among h.opens.now) h.path ∙ ap (λ (q : Qualified). member_at
          (laid_tree h.laid.now) (is_among h.opens.now) h.path q i.cell) c.in_ok-of-in-Member.ensures.of);
    }

pub operators::walk_operator-returns-in_ok-given-in-Unary : goal.operators::walk_operator-returns-in_ok-given-in-Unary
unfolding IsGiven
operators::walk_operator-returns-in_ok-given-in-Unary t c =
    let h = c.args.here.now in
    let i = c.in-Unary in
    let k = c.note_value in
    let v = c.deref.result.now in
    let from = c.in_ok-given-in-Unary in
    let tree = boxed rvalue_tree (λ e. a_unary i.operator i.of e i.place) c.deref.ensures (ap rvalue_tree i.is) in
    record {
      noted = unary_read h.laid.now h.opens.now h.sizes.now h.path k.result c.args.wanted c.args.used c.args.rvalue.now
          v i.operator i.of i.place from.given c.is_unsigned_by_some-is_enumeration.result c.args.to.now
          c.walk_rvalue.new.to k.new.to tree from.ensures.noted from.ensures.given
          c.is_unsigned_by_some-is_enumeration.ensures k.ensures.noted;
      given = gives_by h.laid.now h.opens.now h.sizes.now h.path k.result c.args.rvalue.now _ c.number_if.result tree
          k.ensures.given (c.number_if.ensures ∙ ap number_if (c.is_unsigned_by_some-is_enumeration.ensures ∙ ap
          is_unsigned_by_some from.ensures.given));
    }

pub operators::walk_operator-returns-in_ok-second-in-Binary :
    goal.operators::walk_operator-returns-in_ok-second-in-Binary
unfolding IsGiven
operators::walk_operator-returns-in_ok-second-in-Binary t c =
    let h = c.args.here.now in
    let i = c.in-Binary in
    let k = c.binary_end in
    let x = c.deref-in-Binary.result.now in
    let y = c.deref-in-Binary-2.result.now in
    let one_side = c.in_ok-first-in-Binary in
    let other = c.in_ok-second-in-Binary in
    let tree = boxes rvalue_tree rvalue_tree (λ e f. a_binary i.operator i.of e f i.place) c.deref-in-Binary.ensures
    c.deref-in-Binary-2.ensures (ap rvalue_tree i.is) in
    record {
      noted = binary_read h.laid.now h.opens.now h.sizes.now h.path k.result c.args.wanted c.args.used c.args.rvalue.now
          x y c.deref-in-Binary-3.result.now c.deref-in-Binary-4.result.now i.operator i.of i.place one_side.first.edges
          other.second.edges one_side.first.given other.second.given c.args.to.now c.walk_part.new.to
          c.walk_against.new.to k.new.to tree (c.deref-in-Binary-3.ensures ∙ sym c.deref-in-Binary.ensures)
          (c.deref-in-Binary-4.ensures ∙ sym c.deref-in-Binary-2.ensures) one_side.ensures.noted
          one_side.ensures.edges.0 one_side.ensures.edges.1 other.ensures.noted other.ensures.edges.0
          other.ensures.edges.1 one_side.ensures.given other.ensures.given k.ensures.noted;
      given = gives_by h.laid.now h.opens.now h.sizes.now h.path k.result c.args.rvalue.now _ (computed i.operator
          one_side.first.given other.second.given) tree k.ensures.given (ap₂ (computed i.operator)
          one_side.ensures.given other.ensures.given);
    }

pub operators::walk_operator-returns-in_ok-_second-in-Pointers :
    goal.operators::walk_operator-returns-in_ok-_second-in-Pointers
operators::walk_operator-returns-in_ok-_second-in-Pointers t c =
    let h = c.args.here.now in
    let i = c.in-Pointers in
    let k = c.pointers_end in
    let x = c.deref-in-Pointers.result.now in
    let y = c.deref-in-Pointers-2.result.now in
    let one_side = c.in_ok-first-in-Pointers in
    let other = c.in_ok-_second-in-Pointers in
    let tree = boxes rvalue_tree rvalue_tree (λ e f. a_comparison_of_pointers i.equal e f i.place)
    c.deref-in-Pointers.ensures c.deref-in-Pointers-2.ensures (ap rvalue_tree i.is) in
    record {
      noted = pointers_read h.laid.now h.opens.now h.sizes.now h.path k.result c.args.wanted c.args.used
          c.args.rvalue.now x y i.equal i.place one_side.first.edges other._second.edges c.args.to.now
          c.walk_part-in-Pointers.new.to c.walk_against-in-Pointers.new.to k.new.to tree one_side.ensures.noted
          one_side.ensures.edges.0 one_side.ensures.edges.1 other.ensures.noted other.ensures.edges.0
          other.ensures.edges.1 k.ensures.noted;
      given = gives_by h.laid.now h.opens.now h.sizes.now h.path k.result c.args.rvalue.now _ Gives.Number tree
          k.ensures.given refl;
    }

pub operators::walk_operator-returns-in_ok-second-in-Move : goal.operators::walk_operator-returns-in_ok-second-in-Move
unfolding IsGiven
operators::walk_operator-returns-in_ok-second-in-Move t c =
    let h = c.args.here.now in
    let i = c.in-Move in
    let k = c.note_value-then-index_first in
    let x = c.deref-then-index_first.result.now in
    let y = c.deref-then-index_first-2.result.now in
    let one_side = c.in_ok-first-in-Move in
    let other = c.in_ok-second-in-Move in
    let tree = boxes rvalue_tree rvalue_tree (λ e f. a_move i.minus i.cells true f e i.place)
    c.deref-then-index_first.ensures c.deref-then-index_first-2.ensures (ap rvalue_tree i.is ∙ ap (λ s. a_move i.minus
    i.cells s (rvalue_tree i.pointer.value) (rvalue_tree i.index.value) i.place) c.if-index_first.true) in
    record {
      noted = second_moved h.laid.now h.opens.now h.sizes.now h.path k.result c.args.wanted c.args.used
          c.args.rvalue.now x y i.minus i.cells i.place one_side.first.edges other.second.edges c.target_or.result
          other.second.given c.args.to.now c.walk_part-then-index_first.new.to c.walk_against-then-index_first.new.to
          k.new.to tree one_side.ensures.noted one_side.ensures.edges.0 one_side.ensures.edges.1 other.ensures.noted
          other.ensures.edges.0 other.ensures.edges.1 other.ensures.given c.target_or.ensures k.ensures.noted;
      given = gives_by h.laid.now h.opens.now h.sizes.now h.path k.result c.args.rvalue.now _ other.second.given tree
          k.ensures.given other.ensures.given;
    }

pub operators::walk_operator-returns-in_ok-_second-in-Move : goal.operators::walk_operator-returns-in_ok-_second-in-Move
unfolding IsGiven
operators::walk_operator-returns-in_ok-_second-in-Move t c =
    let h = c.args.here.now in
    let i = c.in-Move in
    let k = c.note_value-else-index_first in
    let x = c.deref-else-index_first.result.now in
    let y = c.deref-else-index_first-2.result.now in
    let one_side = c.in_ok-first-in-Move-2 in
    let other = c.in_ok-_second-in-Move in
    let tree = boxes rvalue_tree rvalue_tree (λ e f. a_move i.minus i.cells false e f i.place)
    c.deref-else-index_first.ensures c.deref-else-index_first-2.ensures (ap rvalue_tree i.is ∙ ap (λ s. a_move i.minus
    i.cells s (rvalue_tree i.pointer.value) (rvalue_tree i.index.value) i.place) c.if-index_first.false) in
    record {
      noted = first_moved h.laid.now h.opens.now h.sizes.now h.path k.result c.args.wanted c.args.used c.args.rvalue.now
          x y i.minus i.cells i.place one_side.first.edges other._second.edges c.target_or-else-index_first.result
          one_side.first.given c.args.to.now c.walk_part-else-index_first.new.to c.walk_against-else-index_first.new.to
          k.new.to tree one_side.ensures.noted one_side.ensures.edges.0 one_side.ensures.edges.1 other.ensures.noted
          other.ensures.edges.0 other.ensures.edges.1 one_side.ensures.given c.target_or-else-index_first.ensures
          k.ensures.noted;
      given = gives_by h.laid.now h.opens.now h.sizes.now h.path k.result c.args.rvalue.now _ one_side.first.given tree
          k.ensures.given one_side.ensures.given;
    }

pub operators::walk_change-returns-in_ok-note_passing-in-Assign :
    goal.operators::walk_change-returns-in_ok-note_passing-in-Assign
unfolding tree_in
operators::walk_change-returns-in_ok-note_passing-in-Assign t c =
    let h = c.args.here.now in
    let i = c.in-Assign in
    let k = c.store_end in
    let l = c.deref.result.now in
    let v = c.deref-in-Assign.result.now in
    let target = c.in_ok-address-in-Assign in
    let from = c.in_ok-right-in-Assign in
    let tree = boxes lvalue_tree rvalue_tree (λ e f. an_assignment i.scalar e f i.place) c.deref.ensures
    c.deref-in-Assign.ensures (ap rvalue_tree i.is) in
    record {
      noted = assignment_read h.laid.now h.opens.now h.sizes.now h.path k.result c.args.wanted c.args.used
          c.args.rvalue.now v c.deref-in-Assign-2.result.now l i.scalar i.place c.rvalue_place.result
          c.is_pointer_scalar.result c.len-pending.result c.type_at-ctype.result target.address.of from.right.given
          target.address.edges from.right.edges c.args.to.now c.walk_target.new.to c.walk_against.new.to
          c.note_passing.new.to k.new.to tree (c.deref-in-Assign-2.ensures ∙ sym c.deref-in-Assign.ensures)
          (c.len-pending.ensures ∙ c.args.to.now.pending.ok.0) target.ensures.noted target.ensures.of
          target.ensures.edges.0 target.ensures.edges.1 from.ensures.noted from.ensures.given from.ensures.edges.0
          from.ensures.edges.1 c.type_at-ctype.ensures c.rvalue_place.ensures c.in_ok-note_passing-in-Assign.ensures
          c.is_pointer_scalar.ensures k.ensures.noted;
      given = gives_by h.laid.now h.opens.now h.sizes.now h.path k.result c.args.rvalue.now _ c.held_by-gives.result
          tree k.ensures.given (held_in h.laid.now h.opens.now h.sizes.now h.path l i.scalar target.address.of
          c.held_by-gives.result target.ensures.of c.held_by-gives.ensures);
    }

pub operators::walk_change-returns-in_ok-right-in-Compound : goal.operators::walk_change-returns-in_ok-right-in-Compound
operators::walk_change-returns-in_ok-right-in-Compound t c =
    let h = c.args.here.now in
    let i = c.in-Compound in
    let k = c.changed_end in
    let l = c.deref-in-Compound.result.now in
    let v = c.deref-in-Compound-3.result.now in
    let target = c.in_ok-address-in-Compound in
    let from = c.in_ok-right-in-Compound in
    let place = placed_as c.place-load_place.ensures c.deref-in-Compound-2.ensures c.deref-in-Compound.ensures in
    let tree = boxes lvalue_tree rvalue_tree (λ e f. a_compound i.operator i.cell i.of i.volatile e f i.place)
    c.deref-in-Compound.ensures c.deref-in-Compound-3.ensures (ap rvalue_tree i.is) in
    record {
      noted = compound_read h.laid.now h.opens.now h.sizes.now h.path k.result c.args.wanted c.args.used
          c.args.rvalue.now v c.deref-in-Compound-4.result.now c.deref-in-Compound-5.result.now l i.operator i.cell i.of
          i.volatile i.place c.rvalue_place-in-Compound.result c.place-load_place.result c.len-pending.result
          c.is_either_changed.result c.is_implied-is_converted.result target.address.of from.right target.address.edges
          c.args.to.now c.walk_target-in-Compound.new.to c.walk_right.new.to k.new.to tree
          (c.deref-in-Compound-4.ensures ∙ sym c.deref-in-Compound-3.ensures) (c.deref-in-Compound-5.ensures ∙ sym
          c.deref-in-Compound-3.ensures) (c.len-pending.ensures ∙ c.args.to.now.pending.ok.0) target.ensures.noted
          target.ensures.of target.ensures.edges.0 target.ensures.edges.1 place from.ensures.noted from.ensures.given
          c.is_either_changed.ensures c.is_implied-is_converted.ensures c.rvalue_place-in-Compound.ensures
          k.ensures.noted;
      given = gives_by h.laid.now h.opens.now h.sizes.now h.path k.result c.args.rvalue.now _
          c.held_by-gives-in-Compound.result tree k.ensures.given (held_in h.laid.now h.opens.now h.sizes.now h.path l
          (Scalars.Int i.cell) target.address.of c.held_by-gives-in-Compound.result target.ensures.of
          c.held_by-gives-in-Compound.ensures);
    }

pub operators::walk_change-returns-in_ok-_right-in-CompoundMove :
    goal.operators::walk_change-returns-in_ok-_right-in-CompoundMove
operators::walk_change-returns-in_ok-_right-in-CompoundMove t c =
    let h = c.args.here.now in
    let i = c.in-CompoundMove in
    let k = c.moved_end in
    let l = c.deref-in-CompoundMove.result.now in
    let v = c.deref-in-CompoundMove-3.result.now in
    let target = c.in_ok-address-in-CompoundMove in
    let place = placed_as c.place-load_place-in-CompoundMove.ensures c.deref-in-CompoundMove-2.ensures
    c.deref-in-CompoundMove.ensures in
    let tree = boxes lvalue_tree rvalue_tree (λ e f. a_compound_move i.minus i.cells i.class e f i.place)
    c.deref-in-CompoundMove.ensures c.deref-in-CompoundMove-3.ensures (ap rvalue_tree i.is) in
    record {
      noted = compound_moved h.laid.now h.opens.now h.sizes.now h.path k.result c.args.wanted c.args.used
          c.args.rvalue.now v l i.minus i.cells i.class i.place c.place-load_place-in-CompoundMove.result
          c.len-pending.result c.class_target.result target.address.edges c.args.to.now
          c.walk_target-in-CompoundMove.new.to c.walk_right-in-CompoundMove.new.to k.new.to tree (c.len-pending.ensures
          ∙ c.args.to.now.pending.ok.0) target.ensures.noted target.ensures.edges.0 target.ensures.edges.1 place
          c.in_ok-_right-in-CompoundMove.ensures.noted c.class_target.ensures k.ensures.noted;
      given = gives_by h.laid.now h.opens.now h.sizes.now h.path k.result c.args.rvalue.now _
          c.held_by-gives-in-CompoundMove.result tree k.ensures.given (held_in h.laid.now h.opens.now h.sizes.now h.path
          l (Scalars.Pointer i.class) target.address.of c.held_by-gives-in-CompoundMove.result target.ensures.of
          c.held_by-gives-in-CompoundMove.ensures);
    }

pub operators::walk_step-returns-in_ok-changed-in-Step : goal.operators::walk_step-returns-in_ok-changed-in-Step
operators::walk_step-returns-in_ok-changed-in-Step t c =
    let h = c.args.here.now in
    let i = c.in-Step in
    let k = c.step_end in
    let l = c.deref.result.now in
    let from = c.in_ok-changed-in-Step in
    let place = placed_as c.place.ensures c.deref-in-Step.ensures c.deref.ensures in
    let tree = boxed lvalue_tree (λ e. a_unit_step i.step i.cell i.of i.volatile e i.place) c.deref.ensures (ap
    rvalue_tree i.is) in
    record {
      noted = step_read h.laid.now h.opens.now h.sizes.now h.path k.result c.args.wanted c.args.used c.args.rvalue.now l
          i.step i.cell i.of i.volatile i.place c.place.result c.len-pending.result c.is_changed.result
          c.is_conversion-is_converted.result from.changed c.args.to.now c.walk_address.new.to k.new.to tree
          (c.len-pending.ensures ∙ c.args.to.now.pending.ok.0) from.ensures.noted from.ensures.of c.is_changed.ensures
          c.is_conversion-is_converted.ensures place k.ensures.noted;
      given = gives_by h.laid.now h.opens.now h.sizes.now h.path k.result c.args.rvalue.now _ c.held_by-gives.result
          tree k.ensures.given (held_in h.laid.now h.opens.now h.sizes.now h.path l (Scalars.Int i.cell) from.changed
          c.held_by-gives.result from.ensures.of c.held_by-gives.ensures);
    }

pub operators::walk_step-returns-in_ok-changed-in-StepMove : goal.operators::walk_step-returns-in_ok-changed-in-StepMove
operators::walk_step-returns-in_ok-changed-in-StepMove t c =
    let h = c.args.here.now in
    let i = c.in-StepMove in
    let k = c.step_moved_end in
    let l = c.deref-in-StepMove.result.now in
    let from = c.in_ok-changed-in-StepMove in
    let place = placed_as c.place-in-StepMove.ensures c.deref-in-StepMove-2.ensures c.deref-in-StepMove.ensures in
    let tree = boxed lvalue_tree (λ e. a_pointer_step i.step i.cells i.class e i.place) c.deref-in-StepMove.ensures (ap
    rvalue_tree i.is) in
    record {
      noted = step_moved h.laid.now h.opens.now h.sizes.now h.path k.result c.args.wanted c.args.used c.args.rvalue.now
          l i.step i.cells i.class i.place c.place-in-StepMove.result c.len-pending.result c.class_target-to_type.result
          c.args.to.now c.walk_address-in-StepMove.new.to k.new.to tree (c.len-pending.ensures ∙
          c.args.to.now.pending.ok.0) from.ensures.noted c.class_target-to_type.ensures place k.ensures.noted;
      given = gives_by h.laid.now h.opens.now h.sizes.now h.path k.result c.args.rvalue.now _
          c.held_by-gives-in-StepMove.result tree k.ensures.given (held_in h.laid.now h.opens.now h.sizes.now h.path l
          (Scalars.Pointer i.class) from.changed c.held_by-gives-in-StepMove.result from.ensures.of
          c.held_by-gives-in-StepMove.ensures);
    }

pub operators::walk_right-returns : goal.operators::walk_right-returns
unfolding IsRead IsReadRight
operators::walk_right-returns t c =
    let h = c.args.here.now in
    let from = c.in_ok-right in
    record {
      noted = right_steps c.args.place c.args.target.edges from.right.edges (shown c.args.to.now) (shown c.note.new.to)
          (shown c.walk_part.new.to) (shown c.note_right.new.to) (one c.args.load_place Forms.Load) (by_wanted
          c.args.wanted (walks h.laid.now h.opens.now h.sizes.now h.path true (rvalue_tree c.args.value.now)))
          c.in_ok-note.ensures from.ensures.noted from.ensures.edges.0 from.ensures.edges.1 c.in_ok-note_right.ensures;
      given = from.ensures.given;
    }

pub expressions::walk_rvalue-returns-in_default : goal.expressions::walk_rvalue-returns-in_default
expressions::walk_rvalue-returns-in_default t c =
    record { noted = c.walk_call.ensures.noted; given = c.walk_call.ensures.given }

pub expressions::walk_call-returns-in_default : goal.expressions::walk_call-returns-in_default
expressions::walk_call-returns-in_default t c =
    record { noted = c.walk_choice.ensures.noted; given = c.walk_choice.ensures.given }

pub expressions::walk_choice-returns-in_default : goal.expressions::walk_choice-returns-in_default
expressions::walk_choice-returns-in_default t c =
    record { noted = c.walk_operator.ensures.noted; given = c.walk_operator.ensures.given }

pub operators::walk_operator-returns-in_default : goal.operators::walk_operator-returns-in_default
operators::walk_operator-returns-in_default t c =
    record { noted = c.walk_change.ensures.noted; given = c.walk_change.ensures.given }

pub operators::walk_change-returns-in_default : goal.operators::walk_change-returns-in_default
operators::walk_change-returns-in_default t c =
    record { noted = c.walk_step.ensures.noted; given = c.walk_step.ensures.given }

pub expressions::walk_arguments-loop-number-init : goal.expressions::walk_arguments-loop-number-init
expressions::walk_arguments-loop-number-init t c =
    let h = c.args.here.now in
    left_first (laid_tree h.laid.now) (is_among h.opens.now) (sizes_in h.sizes.now) h.path c.args.place
    (function_at (laid_tree h.laid.now) c.args.path).parameters c.args.arguments.now (shown c.args.to.now)

pub expressions::walk_arguments-loop-number-preserved : goal.expressions::walk_arguments-loop-number-preserved
unfolding IsRead IsGiven AreRead
expressions::walk_arguments-loop-number-preserved t c =
    let laid = laid_tree c.args.here.now.laid.now in
    let is_open = is_among c.args.here.now.opens.now in
    let sizes = sizes_in c.args.here.now.sizes.now in
    let path = c.args.here.now.path in
    let old = shown c.args.to.now in
    let types = (function_at laid c.args.path).parameters in
    let i = c.loop-number.number in
    let r = c.index-arguments-number.result in
    let passed = differs c.in_ok-walked.walked.given c.parameter_type-ctype.result in
    let b = shown c.loop-number.to in
    let d = shown c.walk_part.new.to in
    let is : r ≡ get_or c.args.arguments.now i r = c.index-arguments-number.is in
    let passes = ap₂ differs
    (c.in_ok-walked.ensures.given ∙ ap (λ (x : Rvalue). given laid is_open path (rvalue_tree x)) is)
    c.parameter_type-ctype.ensures in
    let read = c.in_ok-walked.ensures.noted
    ∙ ap (λ (x : Rvalue). behind b (walked laid is_open sizes path true (rvalue_tree x)).value) is in
    let name = c.rvalue_place.ensures ∙ ap (λ (x : Rvalue). rvalue_place (rvalue_tree x)) is in
    let passed_on = c.in_ok-note_passing.ensures ∙ ap (λ (p : Place). passing_if passed p d) name in
    left_more laid is_open sizes path c.args.place types c.args.arguments.now i r passed c.since-before.result
    c.in_ok-walked.walked.edges old b d (shown c.note_passing.new.to) (shown c.note_against.new.to)
    c.loop-number-test.true passes c.loop-number.invariant read passed_on c.since-before.ensures.first
    c.since-before.ensures.end c.in_ok-walked.ensures.edges.0 c.in_ok-walked.ensures.edges.1
    c.in_ok-note_against.ensures

pub expressions::walk_arguments-returns : goal.expressions::walk_arguments-returns
unfolding AreRead
expressions::walk_arguments-returns t c =
    let h = c.args.here.now in
    let before : c.len-pending.result ≡ length c.args.to.now.pending.items =
    omega (arith, c.len-pending.ensures, c.args.to.now.pending.ok.0) in
    left_last (laid_tree h.laid.now) (is_among h.opens.now) (sizes_in h.sizes.now) h.path c.args.place
    (function_at (laid_tree h.laid.now) c.args.path).parameters c.args.arguments.now c.loop-number.number
    c.len-pending.result (shown c.args.to.now) (shown c.loop-number.to) (shown c.sequence.new.to)
    c.loop-number-test.false before c.loop-number.invariant c.sequence.ensures
