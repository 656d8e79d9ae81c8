use Rattle.std.proofs.Common.{◌-◌, refl, ap, sym, ◌∙◌, List, length, map, get_or, Option, Ok, Err, option_copied, arith, Bor, Result, true, not, if◌then◌else◌}
use Rattle.std.proofs.Common.{false}
use Rattle.std.specs.Prelude.{option_map, pos}
use Rattle.tm_typed.specs.declared.types.Scalar.TheVariants as Scalars
use Rattle.tm_typed.specs.declared.expressions.Rvalue.{Rvalue}
use Rattle.tm_typed.specs.declared.expressions.Lvalue.{Lvalue}
use Rattle.tm_typed.specs.declared.statements.TypedSwitchPart.{TypedSwitchPart}
use Rattle.tm_typed.specs.TypedTrees.{a_move, rvalue_tree, lvalue_tree, lvalue_place, as_rvalues}
use Rattle.std.proofs.lemmas.Option.{slice_get_read, slice_get_past}
use Rattle.tm_typed.specs.declared.scopes.ObjectNumber.TheVariants.{Local}
use Rattle.tm_typed.specs.declared.files.TypedBody.{TypedBody}
use Rattle.tm_typed.specs.declared.statements.LocalObject.{LocalObject}
use Rattle.tm_typed.specs.declared.statements.TypedStatement.{TypedStatement}
use Rattle.tm_typed.specs.declared.statements.TypedStatement.TheVariants as Typed
use Rattle.tm_typed.specs.TypedStatements.{given_tree, typed_tree, as_typed_cases}
use Rattle.concrete_values.specs.declared.values.Value.TheVariants.{Number}
use Rattle.tm_typed.specs.TypedFiles.{typed_body_tree}
use Rattle.tm_typed.specs.Files.{no_typed_function}
use Rattle.tm_laid.specs.Layouts.{laid_tree, object_of}
use Rattle.concrete_values.specs.Values.{nothing, truth_value, is_true}
use Rattle.concrete_values.specs.Operators.{unary, binary, converted}
use Rattle.concrete_values.specs.declared.actions.Next.{Next}
use Rattle.concrete_values.specs.Pointers.{base, part, element, moved, dereferenced}
use Rattle.concrete_values.specs.Actions.{load_at, store_at}
use Rattle.concrete_steps.specs.Places.{result_type}
use Rattle.concrete_steps.specs.NextAction.{scalar_at, compound_result, step_operator}
use Rattle.task_interpreter.specs.declared.answers.Gave.{Gave}
use Rattle.task_interpreter.specs.declared.answers.Flow.TheVariants.{Goes, Breaks, Continues, Returns}
use Rattle.task_interpreter.specs.reading.Direct.{act_ran, stepped, loaded, values_then, value_ran, address_ran, arguments_ran, statement_ran, fell, called, body_ran, passed_ran, cells_ran, seat}
use Rattle.task_interpreter.specs.reading.Direct.{turn_ran, gave, run_then, calculated, comparison, subscripted, arrow, stored, changed, truth_ran, branch_ran, optional_ran, flow_then}
use Rattle.task_interpreter.specs.reading.Sizes.{statement_size}
use Rattle.task_interpreter.specs.reading.Lists.{declared_ran, values_at, listed_ran, listed_size, case_rest, default_rest}
use Rattle.task_interpreter.specs.reading.Seats.{seat_of}
use Rattle.task_interpreter.proofs.Steps.{run_ok, run_err, if_true, if_false, held_ok, held_err}
use Rattle.task_interpreter.proofs.Loops.{turn_spins, turn_stops, turn_leaves, turn_continues, turn_returns}
use Rattle.task_interpreter.proofs.Conditions.{branch_ok}
use Rattle.task_interpreter.proofs.Blocks.{block_listed, locals_listed, declared_stop, switch_goes, switch_breaks, switch_continues, switch_returns, switch_stops, switch_below}
use Rattle.task_interpreter.proofs.Bodies.{some_code, body_below}
use Rattle.task_interpreter.proofs.Calls.{call_tree, done_alike, not_done, value_of_last, passed_on, not_passed, passed_stop}
use Rattle.task_interpreter.proofs.Cells.{cells_stop}
use Rattle.task_interpreter.proofs.interpreter.Here.+next.Goals as goal

-- ## Calls

pub argument_stored-returns-in-Some : goal.argument_stored-returns-in-Some
argument_stored-returns-in-Some t c =
    let laid = laid_tree c.args.self.laid.now in
    let answers = c.args.self.answers.now in
    let object = object_of laid c.args.path (Local c.args.number) in
    let look = c.in-Some.ensures.lookup in
    c.act.ensures
    ∙ ap (λ n. act_ran laid answers n c.args.at)
    (c.store_at.ensures
    ∙ ap (λ a. store_at a c.scalar_at-scalar.result c.nothing.result c.args.place) (c.base-address.ensures ∙ ap (base laid) c.parameter-object.ensures)
    ∙ ap (λ s. store_at (base laid object) s c.nothing.result c.args.place) (c.scalar_at-scalar.ensures ∙ ap (λ k. scalar_at laid k 0) c.parameter-object.ensures))
    ∙ done_alike laid answers (base laid object) (scalar_at laid object 0) c.nothing.result
    (get_or (values_at (seat_of c.args.self) c.args.arguments.now c.args.before) c.args.number nothing) c.args.place c.args.at c.in-Some.field-0.now
    (slice_get_read answers (length answers) c.args.at c.in-Some.field-0.now refl look.3.0 look.1)

pub argument_stored-returns-in-Ok : goal.argument_stored-returns-in-Ok
argument_stored-returns-in-Ok t c =
    let laid = laid_tree c.args.self.laid.now in
    let answers = c.args.self.answers.now in
    let s = seat_of c.args.self in
    let es = c.args.arguments.now in
    let object = object_of laid c.args.path (Local c.args.number) in
    let look = c.in-None.ensures.lookup in
    ap Err
    (c.store_at-in-None.ensures
    ∙ ap (λ a. store_at a c.scalar_at-scalar.result c.in-Ok.given.value c.args.place) (c.base-address.ensures ∙ ap (base laid) c.parameter-object.ensures)
    ∙ ap (λ s. store_at (base laid object) s c.in-Ok.given.value c.args.place) (c.scalar_at-scalar.ensures ∙ ap (λ k. scalar_at laid k 0) c.parameter-object.ensures)
    ∙ ap (λ v. store_at (base laid object) (scalar_at laid object 0) v c.args.place)
    (value_of_last s es _ c.args.number c.args.before c.in-Ok.given c.requires.evaluated c.requires.within (grind arith) (sym c.leading.ensures ∙ c.in-Ok.is)))
    ∙ sym (not_done laid answers (store_at (base laid object) (scalar_at laid object 0) (get_or (values_at s es c.args.before) c.args.number nothing) c.args.place) c.args.at
    (slice_get_past answers c.args.at look.3))

pub called-returns-in-Err-passed : goal.called-returns-in-Err-passed
called-returns-in-Err-passed t c =
    let laid = laid_tree c.args.self.laid.now in
    let answers = c.args.self.answers.now in
    let s = seat_of c.args.self in
    let es = c.args.arguments.now in
    let g = c.in-Ok.given in
    sym (not_passed s laid answers (body_ran laid answers c.args.self.depth) c.args.self.path c.args.site es c.args.place c.args.at g c.in-Err-passed.next
    (sym c.leading.ensures ∙ c.in-Ok.is)
    (ap (λ q. passed_ran laid answers q 0 (values_at s es c.args.at) c.args.place g.at) (sym c.callee-path.ensures) ∙ sym c.passed.ensures ∙ c.in-Err-passed.is))

pub called-returns : goal.called-returns
called-returns t c =
    let laid = laid_tree c.args.self.laid.now in
    let answers = c.args.self.answers.now in
    let s = seat_of c.args.self in
    let es = c.args.arguments.now in
    let g = c.in-Ok.given in
    let h = c.in-Ok-passed.given in
    c.body.ensures
    ∙ ap (λ q. body_ran laid answers c.args.self.depth q h.at) c.callee-path.ensures
    ∙ sym (passed_on s laid answers (body_ran laid answers c.args.self.depth) c.args.self.path c.args.site es c.args.place c.args.at g h
    (sym c.leading.ensures ∙ c.in-Ok.is)
    (ap (λ q. passed_ran laid answers q 0 (values_at s es c.args.at) c.args.place g.at) (sym c.callee-path.ensures) ∙ sym c.passed.ensures ∙ c.in-Ok-passed.is))

-- ## Bodies

pub body-block-requires : goal.body-block-requires
body-block-requires t c =
    let laid = laid_tree c.args.self.laid.now in
    let code = sym c.body_of.ensures ∙ ap (λ (o : Option (Bor TypedBody)). option_map typed_body_tree (option_copied o)) c.in-Some.is in
    let below = body_below laid c.args.self.path c.args.self.depth c.in-Some.body.now code (omega (arith, c.if-self-eq0.false)) in
    let same = ap listed_size c.deref.ensures.value in
    (omega (arith, below, same), c.requires.runnable)

pub body-returns-in-Err : goal.body-returns-in-Err
body-returns-in-Err t c =
    let laid = laid_tree c.args.self.laid.now in
    let answers = c.args.self.answers.now in
    let inside = seat laid answers (c.args.self.depth - 1) c.args.self.path in
    let code = sym c.body_of.ensures ∙ ap (λ (o : Option (Bor TypedBody)). option_map typed_body_tree (option_copied o)) c.in-Some.is in
    sym (some_code laid answers c.args.self.depth c.args.self.path c.args.at c.in-Some.body.now (Err c.in-Err.next) (omega (arith, c.if-self-eq0.false)) code
    (ap (λ (xs : List TypedStatement). listed_ran inside xs c.args.at) (sym c.deref.ensures.value) ∙ sym c.block.ensures ∙ c.in-Err.is))

pub body-returns-in-Goes : goal.body-returns-in-Goes
body-returns-in-Goes t c =
    let laid = laid_tree c.args.self.laid.now in
    let answers = c.args.self.answers.now in
    let inside = seat laid answers (c.args.self.depth - 1) c.args.self.path in
    let code = sym c.body_of.ensures ∙ ap (λ (o : Option (Bor TypedBody)). option_map typed_body_tree (option_copied o)) c.in-Some.is in
    c.fell.ensures
    ∙ ap (λ of. fell laid answers of c.in-Goes.at) (c.result_of-of.ensures ∙ ap (λ f. result_type laid (get_or laid.file.functions f no_typed_function)) (ap (λ p. p.function) c.path_at.ensures))
    ∙ sym (some_code laid answers c.args.self.depth c.args.self.path c.args.at c.in-Some.body.now (Ok (Goes c.in-Goes.at)) (omega (arith, c.if-self-eq0.false)) code
    (ap (λ (xs : List TypedStatement). listed_ran inside xs c.args.at) (sym c.deref.ensures.value) ∙ sym c.block.ensures ∙ c.in-Ok.is ∙ ap Ok c.in-Goes.is))

pub body-returns-in-Breaks : goal.body-returns-in-Breaks
body-returns-in-Breaks t c =
    let laid = laid_tree c.args.self.laid.now in
    let answers = c.args.self.answers.now in
    let inside = seat laid answers (c.args.self.depth - 1) c.args.self.path in
    let code = sym c.body_of.ensures ∙ ap (λ (o : Option (Bor TypedBody)). option_map typed_body_tree (option_copied o)) c.in-Some.is in
    sym (some_code laid answers c.args.self.depth c.args.self.path c.args.at c.in-Some.body.now (Ok (Breaks c.in-Breaks.field-0)) (omega (arith, c.if-self-eq0.false)) code
    (ap (λ (xs : List TypedStatement). listed_ran inside xs c.args.at) (sym c.deref.ensures.value) ∙ sym c.block.ensures ∙ c.in-Ok.is ∙ ap Ok c.in-Breaks.is))

pub body-returns-in-Continues : goal.body-returns-in-Continues
body-returns-in-Continues t c =
    let laid = laid_tree c.args.self.laid.now in
    let answers = c.args.self.answers.now in
    let inside = seat laid answers (c.args.self.depth - 1) c.args.self.path in
    let code = sym c.body_of.ensures ∙ ap (λ (o : Option (Bor TypedBody)). option_map typed_body_tree (option_copied o)) c.in-Some.is in
    sym (some_code laid answers c.args.self.depth c.args.self.path c.args.at c.in-Some.body.now (Ok (Continues c.in-Continues.field-0)) (omega (arith, c.if-self-eq0.false)) code
    (ap (λ (xs : List TypedStatement). listed_ran inside xs c.args.at) (sym c.deref.ensures.value) ∙ sym c.block.ensures ∙ c.in-Ok.is ∙ ap Ok c.in-Continues.is))

pub body-returns-in-Returns : goal.body-returns-in-Returns
body-returns-in-Returns t c =
    let laid = laid_tree c.args.self.laid.now in
    let answers = c.args.self.answers.now in
    let inside = seat laid answers (c.args.self.depth - 1) c.args.self.path in
    let code = sym c.body_of.ensures ∙ ap (λ (o : Option (Bor TypedBody)). option_map typed_body_tree (option_copied o)) c.in-Some.is in
    sym (some_code laid answers c.args.self.depth c.args.self.path c.args.at c.in-Some.body.now (Ok (Returns c.in-Returns.gave)) (omega (arith, c.if-self-eq0.false)) code
    (ap (λ (xs : List TypedStatement). listed_ran inside xs c.args.at) (sym c.deref.ensures.value) ∙ sym c.block.ensures ∙ c.in-Ok.is ∙ ap Ok c.in-Returns.is))

-- ## New objects

pub cells-returns-in-Err : goal.cells-returns-in-Err
cells-returns-in-Err t c =
    let s = seat_of c.args.self in
    let count = c.cells_of-count.result in
    sym (cells_stop s c.args.object c.args.place count c.cells.cell c.cells.reached (map given_tree c.cells.rest.now) c.in-Err.next
    (omega (arith, c.cells-test.true)) (sym c.cell_set.ensures ∙ c.in-Err.is))
    ∙ c.cells.invariant.0
    ∙ ap (λ n. cells_ran s c.args.object c.args.place n 0 (map given_tree c.args.given.now) c.args.at) c.cells_of-count.ensures

pub locals-returns-in-Err : goal.locals-returns-in-Err
locals-returns-in-Err t c =
    sym (declared_stop (seat_of c.args.self) c.args.locals.now c.locals.local-index c.local-item.result c.locals.reached c.in-Err.next c.local-item.is c.locals-test.true
    (sym c.local.ensures ∙ c.in-Err.is))
    ∙ c.locals.invariant

-- ## Expressions

pub passed-returns-in-Err : goal.passed-returns-in-Err
passed-returns-in-Err t c =
    sym (passed_stop (laid_tree c.args.self.laid.now) c.args.self.answers.now c.args.path c.args.place (seat_of c.args.self) c.args.arguments.now c.args.before
    c.arguments.number c.arguments.reached c.in-Err.next c.requires.evaluated (omega (arith, c.arguments-test.true)) (sym c.argument_stored.ensures ∙ c.in-Err.is))
    ∙ c.arguments.invariant

pub value-returns-in-Call : goal.value-returns-in-Call
value-returns-in-Call t c =
    let laid = laid_tree c.args.self.laid.now in
    let answers = c.args.self.answers.now in
    let s = seat_of c.args.self in
    call_tree laid answers c.args.self.depth c.args.self.path c.args.e.now c.in-Call.function c.in-Call.site c.in-Call.arguments c.in-Call.place c.args.at c.called.result c.in-Call.is
    (c.called.ensures
    ∙ ap (λ (xs : List Rvalue). values_then (arguments_ran s (as_rvalues xs) c.args.at)
    (λ vs at1. called laid answers (body_ran laid answers c.args.self.depth) c.args.self.path c.in-Call.site vs c.in-Call.place at1)) c.deref-in-Call.ensures.value)

pub condition-returns-in-Ok : goal.condition-returns-in-Ok
condition-returns-in-Ok t c =
    c.tried.ensures
    ∙ sym (branch_ok c.args.e.now c.form_of.result c.form_of.ensures (seat_of c.args.self) c.args.at c.in-Ok.given c.in-None.is (sym c.value.ensures ∙ c.in-Ok.is))

pub assigned-returns-in-Ok-loaded-3 : goal.assigned-returns-in-Ok-loaded-3
assigned-returns-in-Ok-loaded-3 t c =
    let laid = laid_tree c.args.self.laid.now in
    let answers = c.args.self.answers.now in
    let s = seat_of c.args.self in
    let w = c.in-Step in
    let l = lvalue_tree w.target.value in
    c.stepped.ensures
    ∙ ap (λ r. stepped laid answers w.step c.in-Ok-loaded-3.given (Scalars.Int w.cell) r w.place) c.unit_step-found.ensures
    ∙ sym (held_ok (loaded laid answers (address_ran s l c.args.at) (Scalars.Int w.cell) w.volatile (lvalue_place l)) c.in-Ok-loaded-3.given
    (λ h. stepped laid answers w.step h (Scalars.Int w.cell) (compound_result (step_operator w.step) w.cell w.of h.value (Number (pos 1))) w.place)
    (ap (λ (x : Lvalue). loaded laid answers (address_ran s (lvalue_tree x) c.args.at) (Scalars.Int w.cell) w.volatile (lvalue_place (lvalue_tree x))) (sym c.deref-in-Step.ensures)
    ∙ sym c.loaded-in-Step.ensures ∙ c.in-Ok-loaded-3.is))
    ∙ sym (ap (λ (x : Rvalue). value_ran s (rvalue_tree x) c.args.at) w.is)

-- ## A `switch`

pub controlled-switch_parts-requires : goal.controlled-switch_parts-requires
controlled-switch_parts-requires t c =
    let w = c.in-Switch in
    let rest = c.start-rest.ensures ∙ ap (λ (xs : List TypedSwitchPart). case_rest c.in-Ok-value.given.value (as_typed_cases xs) (default_rest (as_typed_cases xs))) c.deref-in-Switch-2.ensures.value in
    let below = switch_below w.works_in w.value w.parts c.start-rest.result.now c.in-Ok-value.given.value rest in
    let same = ap (λ (x : TypedStatement). statement_size (typed_tree x)) w.is in
    (omega (arith, below, same), c.requires.runnable)

pub controlled-returns-in-Err-switch_parts : goal.controlled-returns-in-Err-switch_parts
controlled-returns-in-Err-switch_parts t c =
    let s = seat_of c.args.self in
    let w = c.in-Switch in
    sym (switch_stops s w.works_in w.value w.parts c.start-rest.result.now c.args.at c.in-Ok-value.given c.in-Err-switch_parts.next
    (ap (λ (x : Rvalue). value_ran s (rvalue_tree x) c.args.at) (sym c.deref-in-Switch.ensures) ∙ sym c.value.ensures ∙ c.in-Ok-value.is)
    (c.start-rest.ensures ∙ ap (λ (xs : List TypedSwitchPart). case_rest c.in-Ok-value.given.value (as_typed_cases xs) (default_rest (as_typed_cases xs))) c.deref-in-Switch-2.ensures.value)
    (sym c.switch_parts.ensures ∙ c.in-Err-switch_parts.is))
    ∙ sym (ap (λ (x : TypedStatement). statement_ran s (typed_tree x) c.args.at) w.is)

pub controlled-returns-in-Goes-2 : goal.controlled-returns-in-Goes-2
controlled-returns-in-Goes-2 t c =
    let s = seat_of c.args.self in
    let w = c.in-Switch in
    sym (switch_goes s w.works_in w.value w.parts c.start-rest.result.now c.args.at c.in-Ok-value.given c.in-Goes-2.end
    (ap (λ (x : Rvalue). value_ran s (rvalue_tree x) c.args.at) (sym c.deref-in-Switch.ensures) ∙ sym c.value.ensures ∙ c.in-Ok-value.is)
    (c.start-rest.ensures ∙ ap (λ (xs : List TypedSwitchPart). case_rest c.in-Ok-value.given.value (as_typed_cases xs) (default_rest (as_typed_cases xs))) c.deref-in-Switch-2.ensures.value)
    (sym c.switch_parts.ensures ∙ c.in-Ok-switch_parts.is ∙ ap Ok c.in-Goes-2.is))
    ∙ sym (ap (λ (x : TypedStatement). statement_ran s (typed_tree x) c.args.at) w.is)

pub controlled-returns-in-Breaks : goal.controlled-returns-in-Breaks
controlled-returns-in-Breaks t c =
    let s = seat_of c.args.self in
    let w = c.in-Switch in
    sym (switch_breaks s w.works_in w.value w.parts c.start-rest.result.now c.args.at c.in-Ok-value.given c.in-Breaks.end
    (ap (λ (x : Rvalue). value_ran s (rvalue_tree x) c.args.at) (sym c.deref-in-Switch.ensures) ∙ sym c.value.ensures ∙ c.in-Ok-value.is)
    (c.start-rest.ensures ∙ ap (λ (xs : List TypedSwitchPart). case_rest c.in-Ok-value.given.value (as_typed_cases xs) (default_rest (as_typed_cases xs))) c.deref-in-Switch-2.ensures.value)
    (sym c.switch_parts.ensures ∙ c.in-Ok-switch_parts.is ∙ ap Ok c.in-Breaks.is))
    ∙ sym (ap (λ (x : TypedStatement). statement_ran s (typed_tree x) c.args.at) w.is)

pub controlled-returns-in-Continues : goal.controlled-returns-in-Continues
controlled-returns-in-Continues t c =
    let s = seat_of c.args.self in
    let w = c.in-Switch in
    sym (switch_continues s w.works_in w.value w.parts c.start-rest.result.now c.args.at c.in-Ok-value.given c.in-Continues.end
    (ap (λ (x : Rvalue). value_ran s (rvalue_tree x) c.args.at) (sym c.deref-in-Switch.ensures) ∙ sym c.value.ensures ∙ c.in-Ok-value.is)
    (c.start-rest.ensures ∙ ap (λ (xs : List TypedSwitchPart). case_rest c.in-Ok-value.given.value (as_typed_cases xs) (default_rest (as_typed_cases xs))) c.deref-in-Switch-2.ensures.value)
    (sym c.switch_parts.ensures ∙ c.in-Ok-switch_parts.is ∙ ap Ok c.in-Continues.is))
    ∙ sym (ap (λ (x : TypedStatement). statement_ran s (typed_tree x) c.args.at) w.is)

pub controlled-returns-in-Returns : goal.controlled-returns-in-Returns
controlled-returns-in-Returns t c =
    let s = seat_of c.args.self in
    let w = c.in-Switch in
    sym (switch_returns s w.works_in w.value w.parts c.start-rest.result.now c.args.at c.in-Ok-value.given c.in-Returns.gave
    (ap (λ (x : Rvalue). value_ran s (rvalue_tree x) c.args.at) (sym c.deref-in-Switch.ensures) ∙ sym c.value.ensures ∙ c.in-Ok-value.is)
    (c.start-rest.ensures ∙ ap (λ (xs : List TypedSwitchPart). case_rest c.in-Ok-value.given.value (as_typed_cases xs) (default_rest (as_typed_cases xs))) c.deref-in-Switch-2.ensures.value)
    (sym c.switch_parts.ensures ∙ c.in-Ok-switch_parts.is ∙ ap Ok c.in-Returns.is))
    ∙ sym (ap (λ (x : TypedStatement). statement_ran s (typed_tree x) c.args.at) w.is)

pub assigned-returns-in-Ok-loaded-4 : goal.assigned-returns-in-Ok-loaded-4
assigned-returns-in-Ok-loaded-4 t c =
    let laid = laid_tree c.args.self.laid.now in
    let answers = c.args.self.answers.now in
    let s = seat_of c.args.self in
    let w = c.in-StepMove in
    let l = lvalue_tree w.target.value in
    c.stepped-in-StepMove.ensures
    ∙ ap (λ r. stepped laid answers w.step c.in-Ok-loaded-4.given (Scalars.Pointer w.class) r w.place)
    c.moved-found-in-StepMove.ensures
    ∙ sym (held_ok (loaded laid answers (address_ran s l c.args.at) (Scalars.Pointer w.class) false (lvalue_place l))
    c.in-Ok-loaded-4.given
    (λ h. stepped laid answers w.step h (Scalars.Pointer w.class)
    (moved laid w.step.minus w.cells h.value (Number (pos 1))) w.place)
    (ap (λ (x : Lvalue). loaded laid answers (address_ran s (lvalue_tree x) c.args.at) (Scalars.Pointer w.class) false
    (lvalue_place (lvalue_tree x))) (sym c.deref-in-StepMove.ensures)
    ∙ sym c.loaded-in-StepMove.ensures ∙ c.in-Ok-loaded-4.is))
    ∙ sym (ap (λ (x : Rvalue). value_ran s (rvalue_tree x) c.args.at) w.is)

pub assigned-returns-in-Err-loaded-3 : goal.assigned-returns-in-Err-loaded-3
assigned-returns-in-Err-loaded-3 t c =
    let laid = laid_tree c.args.self.laid.now in
    let answers = c.args.self.answers.now in
    let s = seat_of c.args.self in
    let w = c.in-Step in
    let l = lvalue_tree w.target.value in
    sym (held_err (loaded laid answers (address_ran s l c.args.at) (Scalars.Int w.cell) w.volatile (lvalue_place l))
    c.in-Err-loaded-3.next
    (λ h. stepped laid answers w.step h (Scalars.Int w.cell)
    (compound_result (step_operator w.step) w.cell w.of h.value (Number (pos 1))) w.place)
    (ap (λ (x : Lvalue). loaded laid answers (address_ran s (lvalue_tree x) c.args.at) (Scalars.Int w.cell) w.volatile
    (lvalue_place (lvalue_tree x))) (sym c.deref-in-Step.ensures)
    ∙ sym c.loaded-in-Step.ensures ∙ c.in-Err-loaded-3.is))
    ∙ sym (ap (λ (x : Rvalue). value_ran s (rvalue_tree x) c.args.at) w.is)

pub assigned-returns-in-Err-loaded-4 : goal.assigned-returns-in-Err-loaded-4
assigned-returns-in-Err-loaded-4 t c =
    let laid = laid_tree c.args.self.laid.now in
    let answers = c.args.self.answers.now in
    let s = seat_of c.args.self in
    let w = c.in-StepMove in
    let l = lvalue_tree w.target.value in
    sym (held_err (loaded laid answers (address_ran s l c.args.at) (Scalars.Pointer w.class) false (lvalue_place l))
    c.in-Err-loaded-4.next
    (λ h. stepped laid answers w.step h (Scalars.Pointer w.class)
    (moved laid w.step.minus w.cells h.value (Number (pos 1))) w.place)
    (ap (λ (x : Lvalue). loaded laid answers (address_ran s (lvalue_tree x) c.args.at) (Scalars.Pointer w.class) false
    (lvalue_place (lvalue_tree x))) (sym c.deref-in-StepMove.ensures)
    ∙ sym c.loaded-in-StepMove.ensures ∙ c.in-Err-loaded-4.is))
    ∙ sym (ap (λ (x : Rvalue). value_ran s (rvalue_tree x) c.args.at) w.is)

-- ## Loops

pub turns-returns-in-Err : goal.turns-returns-in-Err
turns-returns-in-Err t c =
    let s = seat_of c.args.self in
    let turn = turn_ran s (option_map rvalue_tree (option_copied c.args.before))
    (statement_ran s (typed_tree c.args.body.now)) (option_map rvalue_tree (option_copied c.args.step))
    (option_map rvalue_tree (option_copied c.args.behind)) in
    sym (turn_stops c.args.self.answers.now turn c.turns.head c.in-Err.next (sym c.turn.ensures ∙ c.in-Err.is))
    ∙ c.turns.invariant

pub turns-returns-in-Breaks : goal.turns-returns-in-Breaks
turns-returns-in-Breaks t c =
    let s = seat_of c.args.self in
    let turn = turn_ran s (option_map rvalue_tree (option_copied c.args.before))
    (statement_ran s (typed_tree c.args.body.now)) (option_map rvalue_tree (option_copied c.args.step))
    (option_map rvalue_tree (option_copied c.args.behind)) in
    sym (turn_leaves c.args.self.answers.now turn c.turns.head c.in-Breaks.out
    (sym c.turn.ensures ∙ c.in-Ok.is ∙ ap Ok c.in-Breaks.is))
    ∙ c.turns.invariant

pub turns-returns-in-Continues : goal.turns-returns-in-Continues
turns-returns-in-Continues t c =
    let s = seat_of c.args.self in
    let turn = turn_ran s (option_map rvalue_tree (option_copied c.args.before))
    (statement_ran s (typed_tree c.args.body.now)) (option_map rvalue_tree (option_copied c.args.step))
    (option_map rvalue_tree (option_copied c.args.behind)) in
    sym (turn_continues c.args.self.answers.now turn c.turns.head c.in-Continues.out
    (sym c.turn.ensures ∙ c.in-Ok.is ∙ ap Ok c.in-Continues.is))
    ∙ c.turns.invariant

pub turns-returns-in-Returns : goal.turns-returns-in-Returns
turns-returns-in-Returns t c =
    let s = seat_of c.args.self in
    let turn = turn_ran s (option_map rvalue_tree (option_copied c.args.before))
    (statement_ran s (typed_tree c.args.body.now)) (option_map rvalue_tree (option_copied c.args.step))
    (option_map rvalue_tree (option_copied c.args.behind)) in
    sym (turn_returns c.args.self.answers.now turn c.turns.head c.in-Returns.gave
    (sym c.turn.ensures ∙ c.in-Ok.is ∙ ap Ok c.in-Returns.is))
    ∙ c.turns.invariant

-- ## Values

pub value-returns-in-Null : goal.value-returns-in-Null
value-returns-in-Null t c =
    let s = seat_of c.args.self in
    let w = c.in-Null in
    sym (ap (λ (x : Rvalue). value_ran s (rvalue_tree x) c.args.at) w.is)

pub value-returns-in-Err : goal.value-returns-in-Err
value-returns-in-Err t c =
    let laid = laid_tree c.args.self.laid.now in
    let answers = c.args.self.answers.now in
    let s = seat_of c.args.self in
    let w = c.in-Load in
    sym (run_err (address_ran s (lvalue_tree w.lvalue.value) c.args.at) c.in-Err.next
    (λ u at1. act_ran laid answers (load_at u w.scalar w.volatile (lvalue_place (lvalue_tree w.lvalue.value))) at1)
    (ap (λ (z : Lvalue). address_ran s (lvalue_tree z) c.args.at) (sym c.deref.ensures)
    ∙ sym c.address.ensures ∙ c.in-Err.is))
    ∙ sym (ap (λ (x : Rvalue). value_ran s (rvalue_tree x) c.args.at) w.is)

pub value-returns-in-Ok : goal.value-returns-in-Ok
value-returns-in-Ok t c =
    let laid = laid_tree c.args.self.laid.now in
    let answers = c.args.self.answers.now in
    let s = seat_of c.args.self in
    let w = c.in-Load in
    let x = c.in-Ok.given in
    c.act.ensures
    ∙ ap (λ n. act_ran laid answers n x.at) (c.load_at.ensures
    ∙ ap (λ p. load_at x.value w.scalar w.volatile p) (c.place.ensures
    ∙ ap (λ (l : Lvalue). lvalue_place (lvalue_tree l)) c.deref-in-Load.ensures))
    ∙ sym (run_ok (address_ran s (lvalue_tree w.lvalue.value) c.args.at) x
    (λ u at1. act_ran laid answers (load_at u w.scalar w.volatile (lvalue_place (lvalue_tree w.lvalue.value))) at1)
    (ap (λ (z : Lvalue). address_ran s (lvalue_tree z) c.args.at) (sym c.deref.ensures)
    ∙ sym c.address.ensures ∙ c.in-Ok.is))
    ∙ sym (ap (λ (x : Rvalue). value_ran s (rvalue_tree x) c.args.at) w.is)

pub value-returns-in-Address : goal.value-returns-in-Address
value-returns-in-Address t c =
    let s = seat_of c.args.self in
    let w = c.in-Address in
    c.address-in-Address.ensures
    ∙ ap (λ (x : Lvalue). address_ran s (lvalue_tree x) c.args.at) c.deref-in-Address.ensures
    ∙ sym (ap (λ (x : Rvalue). value_ran s (rvalue_tree x) c.args.at) w.is)

pub value-returns-in-Err-address : goal.value-returns-in-Err-address
value-returns-in-Err-address t c =
    let s = seat_of c.args.self in
    let w = c.in-Structure in
    sym (run_err (address_ran s (lvalue_tree w.lvalue.value) c.args.at) c.in-Err-address.next
    (λ u at1. Ok (gave nothing at1))
    (ap (λ (z : Lvalue). address_ran s (lvalue_tree z) c.args.at) (sym c.deref-in-Structure.ensures)
    ∙ sym c.address-in-Structure.ensures ∙ c.in-Err-address.is))
    ∙ sym (ap (λ (x : Rvalue). value_ran s (rvalue_tree x) c.args.at) w.is)

pub value-returns-in-Ok-address : goal.value-returns-in-Ok-address
value-returns-in-Ok-address t c =
    let s = seat_of c.args.self in
    let w = c.in-Structure in
    let x = c.in-Ok-address.given in
    ap (λ v. Ok (gave v x.at)) c.nothing.ensures
    ∙ sym (run_ok (address_ran s (lvalue_tree w.lvalue.value) c.args.at) x
    (λ u at1. Ok (gave nothing at1))
    (ap (λ (z : Lvalue). address_ran s (lvalue_tree z) c.args.at) (sym c.deref-in-Structure.ensures)
    ∙ sym c.address-in-Structure.ensures ∙ c.in-Ok-address.is))
    ∙ sym (ap (λ (x : Rvalue). value_ran s (rvalue_tree x) c.args.at) w.is)

pub value-returns-in-Same : goal.value-returns-in-Same
value-returns-in-Same t c =
    let s = seat_of c.args.self in
    let w = c.in-Same in
    c.value.ensures
    ∙ ap (λ (x : Rvalue). value_ran s (rvalue_tree x) c.args.at) c.deref-in-Same.ensures
    ∙ sym (ap (λ (x : Rvalue). value_ran s (rvalue_tree x) c.args.at) w.is)

pub value-returns-in-Probe : goal.value-returns-in-Probe
value-returns-in-Probe t c =
    let s = seat_of c.args.self in
    let w = c.in-Probe in
    c.act-in-Probe.ensures
    ∙ sym (ap (λ (x : Rvalue). value_ran s (rvalue_tree x) c.args.at) w.is)

pub value-returns-in-Unary : goal.value-returns-in-Unary
value-returns-in-Unary t c =
    c.operated.ensures

pub value-returns-in-Not : goal.value-returns-in-Not
value-returns-in-Not t c =
    c.chosen.ensures

pub value-returns-in-Assign : goal.value-returns-in-Assign
value-returns-in-Assign t c =
    c.assigned.ensures

-- ## Operations

pub operated-returns-in-Err : goal.operated-returns-in-Err
operated-returns-in-Err t c =
    let answers = c.args.self.answers.now in
    let s = seat_of c.args.self in
    let w = c.in-Unary in
    sym (run_err (value_ran s (rvalue_tree w.value.value) c.args.at) c.in-Err.next
    (λ u at1. calculated answers (unary w.operator w.of u) w.place at1)
    (ap (λ (z : Rvalue). value_ran s (rvalue_tree z) c.args.at) (sym c.deref.ensures)
    ∙ sym c.value.ensures ∙ c.in-Err.is))
    ∙ sym (ap (λ (x : Rvalue). value_ran s (rvalue_tree x) c.args.at) w.is)

pub operated-returns-in-Ok : goal.operated-returns-in-Ok
operated-returns-in-Ok t c =
    let answers = c.args.self.answers.now in
    let s = seat_of c.args.self in
    let w = c.in-Unary in
    let x = c.in-Ok.given in
    c.calculated.ensures ∙ ap (λ r. calculated answers r w.place x.at) c.unary.ensures
    ∙ sym (run_ok (value_ran s (rvalue_tree w.value.value) c.args.at) x
    (λ u at1. calculated answers (unary w.operator w.of u) w.place at1)
    (ap (λ (z : Rvalue). value_ran s (rvalue_tree z) c.args.at) (sym c.deref.ensures)
    ∙ sym c.value.ensures ∙ c.in-Ok.is))
    ∙ sym (ap (λ (x : Rvalue). value_ran s (rvalue_tree x) c.args.at) w.is)

pub operated-returns-in-Err-value : goal.operated-returns-in-Err-value
operated-returns-in-Err-value t c =
    let answers = c.args.self.answers.now in
    let s = seat_of c.args.self in
    let w = c.in-Binary in
    sym (run_err (value_ran s (rvalue_tree w.left.value) c.args.at) c.in-Err-value.next
    (λ u at1. run_then (value_ran s (rvalue_tree w.right.value) at1) (λ v at2. calculated answers
    (binary w.operator w.of u v) w.place at2))
    (ap (λ (z : Rvalue). value_ran s (rvalue_tree z) c.args.at) (sym c.deref-in-Binary.ensures)
    ∙ sym c.value-in-Binary.ensures ∙ c.in-Err-value.is))
    ∙ sym (ap (λ (x : Rvalue). value_ran s (rvalue_tree x) c.args.at) w.is)

pub operated-returns-in-Err-value-2 : goal.operated-returns-in-Err-value-2
operated-returns-in-Err-value-2 t c =
    let answers = c.args.self.answers.now in
    let s = seat_of c.args.self in
    let w = c.in-Binary in
    let x = c.in-Ok-value.given in
    sym (run_err (value_ran s (rvalue_tree w.right.value) x.at) c.in-Err-value-2.next
    (λ v at2. calculated answers (binary w.operator w.of x.value v) w.place at2)
    (ap (λ (z : Rvalue). value_ran s (rvalue_tree z) x.at) (sym c.deref-in-Binary-2.ensures)
    ∙ sym c.value-in-Binary-2.ensures ∙ c.in-Err-value-2.is))
    ∙ sym (run_ok (value_ran s (rvalue_tree w.left.value) c.args.at) x
    (λ u at1. run_then (value_ran s (rvalue_tree w.right.value) at1) (λ v at2. calculated answers
    (binary w.operator w.of u v) w.place at2))
    (ap (λ (z : Rvalue). value_ran s (rvalue_tree z) c.args.at) (sym c.deref-in-Binary.ensures)
    ∙ sym c.value-in-Binary.ensures ∙ c.in-Ok-value.is))
    ∙ sym (ap (λ (x : Rvalue). value_ran s (rvalue_tree x) c.args.at) w.is)

pub operated-returns-in-Ok-value-2 : goal.operated-returns-in-Ok-value-2
operated-returns-in-Ok-value-2 t c =
    let answers = c.args.self.answers.now in
    let s = seat_of c.args.self in
    let w = c.in-Binary in
    let x = c.in-Ok-value.given in
    let y = c.in-Ok-value-2.given in
    c.calculated-in-Binary.ensures ∙ ap (λ r. calculated answers r w.place y.at) c.binary-found.ensures
    ∙ sym (run_ok (value_ran s (rvalue_tree w.right.value) x.at) y
    (λ v at2. calculated answers (binary w.operator w.of x.value v) w.place at2)
    (ap (λ (z : Rvalue). value_ran s (rvalue_tree z) x.at) (sym c.deref-in-Binary-2.ensures)
    ∙ sym c.value-in-Binary-2.ensures ∙ c.in-Ok-value-2.is))
    ∙ sym (run_ok (value_ran s (rvalue_tree w.left.value) c.args.at) x
    (λ u at1. run_then (value_ran s (rvalue_tree w.right.value) at1) (λ v at2. calculated answers
    (binary w.operator w.of u v) w.place at2))
    (ap (λ (z : Rvalue). value_ran s (rvalue_tree z) c.args.at) (sym c.deref-in-Binary.ensures)
    ∙ sym c.value-in-Binary.ensures ∙ c.in-Ok-value.is))
    ∙ sym (ap (λ (x : Rvalue). value_ran s (rvalue_tree x) c.args.at) w.is)

pub operated-returns-in-Err-value-3 : goal.operated-returns-in-Err-value-3
operated-returns-in-Err-value-3 t c =
    let answers = c.args.self.answers.now in
    let s = seat_of c.args.self in
    let w = c.in-Pointers in
    sym (run_err (value_ran s (rvalue_tree w.left.value) c.args.at) c.in-Err-value-3.next
    (λ u at1. run_then (value_ran s (rvalue_tree w.right.value) at1) (λ v at2. calculated answers
    (comparison w.equal u v) w.place at2))
    (ap (λ (z : Rvalue). value_ran s (rvalue_tree z) c.args.at) (sym c.deref-in-Pointers.ensures)
    ∙ sym c.value-in-Pointers.ensures ∙ c.in-Err-value-3.is))
    ∙ sym (ap (λ (x : Rvalue). value_ran s (rvalue_tree x) c.args.at) w.is)

pub operated-returns-in-Err-value-4 : goal.operated-returns-in-Err-value-4
operated-returns-in-Err-value-4 t c =
    let answers = c.args.self.answers.now in
    let s = seat_of c.args.self in
    let w = c.in-Pointers in
    let x = c.in-Ok-value-3.given in
    sym (run_err (value_ran s (rvalue_tree w.right.value) x.at) c.in-Err-value-4.next
    (λ v at2. calculated answers (comparison w.equal x.value v) w.place at2)
    (ap (λ (z : Rvalue). value_ran s (rvalue_tree z) x.at) (sym c.deref-in-Pointers-2.ensures)
    ∙ sym c.value-in-Pointers-2.ensures ∙ c.in-Err-value-4.is))
    ∙ sym (run_ok (value_ran s (rvalue_tree w.left.value) c.args.at) x
    (λ u at1. run_then (value_ran s (rvalue_tree w.right.value) at1) (λ v at2. calculated answers
    (comparison w.equal u v) w.place at2))
    (ap (λ (z : Rvalue). value_ran s (rvalue_tree z) c.args.at) (sym c.deref-in-Pointers.ensures)
    ∙ sym c.value-in-Pointers.ensures ∙ c.in-Ok-value-3.is))
    ∙ sym (ap (λ (x : Rvalue). value_ran s (rvalue_tree x) c.args.at) w.is)

pub operated-returns-in-Ok-value-4 : goal.operated-returns-in-Ok-value-4
operated-returns-in-Ok-value-4 t c =
    let answers = c.args.self.answers.now in
    let s = seat_of c.args.self in
    let w = c.in-Pointers in
    let x = c.in-Ok-value-3.given in
    let y = c.in-Ok-value-4.given in
    c.calculated-in-Pointers.ensures ∙ ap (λ r. calculated answers r w.place y.at) c.comparison-found.ensures
    ∙ sym (run_ok (value_ran s (rvalue_tree w.right.value) x.at) y
    (λ v at2. calculated answers (comparison w.equal x.value v) w.place at2)
    (ap (λ (z : Rvalue). value_ran s (rvalue_tree z) x.at) (sym c.deref-in-Pointers-2.ensures)
    ∙ sym c.value-in-Pointers-2.ensures ∙ c.in-Ok-value-4.is))
    ∙ sym (run_ok (value_ran s (rvalue_tree w.left.value) c.args.at) x
    (λ u at1. run_then (value_ran s (rvalue_tree w.right.value) at1) (λ v at2. calculated answers
    (comparison w.equal u v) w.place at2))
    (ap (λ (z : Rvalue). value_ran s (rvalue_tree z) c.args.at) (sym c.deref-in-Pointers.ensures)
    ∙ sym c.value-in-Pointers.ensures ∙ c.in-Ok-value-3.is))
    ∙ sym (ap (λ (x : Rvalue). value_ran s (rvalue_tree x) c.args.at) w.is)

pub operated-returns-in-Err-value-5 : goal.operated-returns-in-Err-value-5
operated-returns-in-Err-value-5 t c =
    let laid = laid_tree c.args.self.laid.now in
    let answers = c.args.self.answers.now in
    let s = seat_of c.args.self in
    let w = c.in-Move in
    sym (run_err (value_ran s (rvalue_tree w.index.value) c.args.at) c.in-Err-value-5.next
    (λ u at1. run_then (value_ran s (rvalue_tree w.pointer.value) at1) (λ v at2. calculated answers
    (moved laid w.minus w.cells v u) w.place at2))
    (ap (λ (z : Rvalue). value_ran s (rvalue_tree z) c.args.at) (sym c.deref-then-index_first.ensures)
    ∙ sym c.value-then-index_first.ensures ∙ c.in-Err-value-5.is))
    ∙ sym (ap (λ b. value_ran s (a_move w.minus w.cells b (rvalue_tree w.pointer.value)
    (rvalue_tree w.index.value) w.place) c.args.at)
    c.if-index_first.true)
    ∙ sym (ap (λ (x : Rvalue). value_ran s (rvalue_tree x) c.args.at) w.is)

pub operated-returns-in-Err-value-6 : goal.operated-returns-in-Err-value-6
operated-returns-in-Err-value-6 t c =
    let laid = laid_tree c.args.self.laid.now in
    let answers = c.args.self.answers.now in
    let s = seat_of c.args.self in
    let w = c.in-Move in
    let x = c.in-Ok-value-5.given in
    sym (run_err (value_ran s (rvalue_tree w.pointer.value) x.at) c.in-Err-value-6.next
    (λ v at2. calculated answers (moved laid w.minus w.cells v x.value) w.place at2)
    (ap (λ (z : Rvalue). value_ran s (rvalue_tree z) x.at) (sym c.deref-then-index_first-2.ensures)
    ∙ sym c.value-then-index_first-2.ensures ∙ c.in-Err-value-6.is))
    ∙ sym (run_ok (value_ran s (rvalue_tree w.index.value) c.args.at) x
    (λ u at1. run_then (value_ran s (rvalue_tree w.pointer.value) at1) (λ v at2. calculated answers
    (moved laid w.minus w.cells v u) w.place at2))
    (ap (λ (z : Rvalue). value_ran s (rvalue_tree z) c.args.at) (sym c.deref-then-index_first.ensures)
    ∙ sym c.value-then-index_first.ensures ∙ c.in-Ok-value-5.is))
    ∙ sym (ap (λ b. value_ran s (a_move w.minus w.cells b (rvalue_tree w.pointer.value)
    (rvalue_tree w.index.value) w.place) c.args.at)
    c.if-index_first.true)
    ∙ sym (ap (λ (x : Rvalue). value_ran s (rvalue_tree x) c.args.at) w.is)

pub operated-returns-in-Ok-value-6 : goal.operated-returns-in-Ok-value-6
operated-returns-in-Ok-value-6 t c =
    let laid = laid_tree c.args.self.laid.now in
    let answers = c.args.self.answers.now in
    let s = seat_of c.args.self in
    let w = c.in-Move in
    let x = c.in-Ok-value-5.given in
    let y = c.in-Ok-value-6.given in
    c.calculated-then-index_first.ensures ∙ ap (λ r. calculated answers r w.place y.at) c.moved-found.ensures
    ∙ sym (run_ok (value_ran s (rvalue_tree w.pointer.value) x.at) y
    (λ v at2. calculated answers (moved laid w.minus w.cells v x.value) w.place at2)
    (ap (λ (z : Rvalue). value_ran s (rvalue_tree z) x.at) (sym c.deref-then-index_first-2.ensures)
    ∙ sym c.value-then-index_first-2.ensures ∙ c.in-Ok-value-6.is))
    ∙ sym (run_ok (value_ran s (rvalue_tree w.index.value) c.args.at) x
    (λ u at1. run_then (value_ran s (rvalue_tree w.pointer.value) at1) (λ v at2. calculated answers
    (moved laid w.minus w.cells v u) w.place at2))
    (ap (λ (z : Rvalue). value_ran s (rvalue_tree z) c.args.at) (sym c.deref-then-index_first.ensures)
    ∙ sym c.value-then-index_first.ensures ∙ c.in-Ok-value-5.is))
    ∙ sym (ap (λ b. value_ran s (a_move w.minus w.cells b (rvalue_tree w.pointer.value)
    (rvalue_tree w.index.value) w.place) c.args.at)
    c.if-index_first.true)
    ∙ sym (ap (λ (x : Rvalue). value_ran s (rvalue_tree x) c.args.at) w.is)

pub operated-returns-in-Err-value-7 : goal.operated-returns-in-Err-value-7
operated-returns-in-Err-value-7 t c =
    let laid = laid_tree c.args.self.laid.now in
    let answers = c.args.self.answers.now in
    let s = seat_of c.args.self in
    let w = c.in-Move in
    sym (run_err (value_ran s (rvalue_tree w.pointer.value) c.args.at) c.in-Err-value-7.next
    (λ u at1. run_then (value_ran s (rvalue_tree w.index.value) at1) (λ v at2. calculated answers
    (moved laid w.minus w.cells u v) w.place at2))
    (ap (λ (z : Rvalue). value_ran s (rvalue_tree z) c.args.at) (sym c.deref-else-index_first.ensures)
    ∙ sym c.value-else-index_first.ensures ∙ c.in-Err-value-7.is))
    ∙ sym (ap (λ b. value_ran s (a_move w.minus w.cells b (rvalue_tree w.pointer.value)
    (rvalue_tree w.index.value) w.place) c.args.at)
    c.if-index_first.false)
    ∙ sym (ap (λ (x : Rvalue). value_ran s (rvalue_tree x) c.args.at) w.is)

pub operated-returns-in-Err-value-8 : goal.operated-returns-in-Err-value-8
operated-returns-in-Err-value-8 t c =
    let laid = laid_tree c.args.self.laid.now in
    let answers = c.args.self.answers.now in
    let s = seat_of c.args.self in
    let w = c.in-Move in
    let x = c.in-Ok-value-7.given in
    sym (run_err (value_ran s (rvalue_tree w.index.value) x.at) c.in-Err-value-8.next
    (λ v at2. calculated answers (moved laid w.minus w.cells x.value v) w.place at2)
    (ap (λ (z : Rvalue). value_ran s (rvalue_tree z) x.at) (sym c.deref-else-index_first-2.ensures)
    ∙ sym c.value-else-index_first-2.ensures ∙ c.in-Err-value-8.is))
    ∙ sym (run_ok (value_ran s (rvalue_tree w.pointer.value) c.args.at) x
    (λ u at1. run_then (value_ran s (rvalue_tree w.index.value) at1) (λ v at2. calculated answers
    (moved laid w.minus w.cells u v) w.place at2))
    (ap (λ (z : Rvalue). value_ran s (rvalue_tree z) c.args.at) (sym c.deref-else-index_first.ensures)
    ∙ sym c.value-else-index_first.ensures ∙ c.in-Ok-value-7.is))
    ∙ sym (ap (λ b. value_ran s (a_move w.minus w.cells b (rvalue_tree w.pointer.value)
    (rvalue_tree w.index.value) w.place) c.args.at)
    c.if-index_first.false)
    ∙ sym (ap (λ (x : Rvalue). value_ran s (rvalue_tree x) c.args.at) w.is)

pub operated-returns-in-Ok-value-8 : goal.operated-returns-in-Ok-value-8
operated-returns-in-Ok-value-8 t c =
    let laid = laid_tree c.args.self.laid.now in
    let answers = c.args.self.answers.now in
    let s = seat_of c.args.self in
    let w = c.in-Move in
    let x = c.in-Ok-value-7.given in
    let y = c.in-Ok-value-8.given in
    c.calculated-else-index_first.ensures ∙ ap
    (λ r. calculated answers r w.place y.at) c.moved-found-else-index_first.ensures
    ∙ sym (run_ok (value_ran s (rvalue_tree w.index.value) x.at) y
    (λ v at2. calculated answers (moved laid w.minus w.cells x.value v) w.place at2)
    (ap (λ (z : Rvalue). value_ran s (rvalue_tree z) x.at) (sym c.deref-else-index_first-2.ensures)
    ∙ sym c.value-else-index_first-2.ensures ∙ c.in-Ok-value-8.is))
    ∙ sym (run_ok (value_ran s (rvalue_tree w.pointer.value) c.args.at) x
    (λ u at1. run_then (value_ran s (rvalue_tree w.index.value) at1) (λ v at2. calculated answers
    (moved laid w.minus w.cells u v) w.place at2))
    (ap (λ (z : Rvalue). value_ran s (rvalue_tree z) c.args.at) (sym c.deref-else-index_first.ensures)
    ∙ sym c.value-else-index_first.ensures ∙ c.in-Ok-value-7.is))
    ∙ sym (ap (λ b. value_ran s (a_move w.minus w.cells b (rvalue_tree w.pointer.value)
    (rvalue_tree w.index.value) w.place) c.args.at)
    c.if-index_first.false)
    ∙ sym (ap (λ (x : Rvalue). value_ran s (rvalue_tree x) c.args.at) w.is)

pub operated-returns-in-Err-value-9 : goal.operated-returns-in-Err-value-9
operated-returns-in-Err-value-9 t c =
    let s = seat_of c.args.self in
    let w = c.in-Convert in
    sym (run_err (value_ran s (rvalue_tree w.value.value) c.args.at) c.in-Err-value-9.next
    (λ u at1. Ok (gave (converted w.from w.to u) at1))
    (ap (λ (z : Rvalue). value_ran s (rvalue_tree z) c.args.at) (sym c.deref-in-Convert.ensures)
    ∙ sym c.value-in-Convert.ensures ∙ c.in-Err-value-9.is))
    ∙ sym (ap (λ (x : Rvalue). value_ran s (rvalue_tree x) c.args.at) w.is)

pub operated-returns-in-Ok-value-9 : goal.operated-returns-in-Ok-value-9
operated-returns-in-Ok-value-9 t c =
    let s = seat_of c.args.self in
    let w = c.in-Convert in
    let x = c.in-Ok-value-9.given in
    ap (λ v. Ok (gave v x.at)) c.converted.ensures
    ∙ sym (run_ok (value_ran s (rvalue_tree w.value.value) c.args.at) x
    (λ u at1. Ok (gave (converted w.from w.to u) at1))
    (ap (λ (z : Rvalue). value_ran s (rvalue_tree z) c.args.at) (sym c.deref-in-Convert.ensures)
    ∙ sym c.value-in-Convert.ensures ∙ c.in-Ok-value-9.is))
    ∙ sym (ap (λ (x : Rvalue). value_ran s (rvalue_tree x) c.args.at) w.is)

pub operated-returns-in-Err-value-10 : goal.operated-returns-in-Err-value-10
operated-returns-in-Err-value-10 t c =
    let s = seat_of c.args.self in
    let w = c.in-Discard in
    sym (run_err (value_ran s (rvalue_tree w.value.value) c.args.at) c.in-Err-value-10.next
    (λ u at1. Ok (gave nothing at1))
    (ap (λ (z : Rvalue). value_ran s (rvalue_tree z) c.args.at) (sym c.deref-in-Discard.ensures)
    ∙ sym c.value-in-Discard.ensures ∙ c.in-Err-value-10.is))
    ∙ sym (ap (λ (x : Rvalue). value_ran s (rvalue_tree x) c.args.at) w.is)

pub operated-returns-in-Ok-value-10 : goal.operated-returns-in-Ok-value-10
operated-returns-in-Ok-value-10 t c =
    let s = seat_of c.args.self in
    let w = c.in-Discard in
    let x = c.in-Ok-value-10.given in
    ap (λ v. Ok (gave v x.at)) c.nothing.ensures
    ∙ sym (run_ok (value_ran s (rvalue_tree w.value.value) c.args.at) x
    (λ u at1. Ok (gave nothing at1))
    (ap (λ (z : Rvalue). value_ran s (rvalue_tree z) c.args.at) (sym c.deref-in-Discard.ensures)
    ∙ sym c.value-in-Discard.ensures ∙ c.in-Ok-value-10.is))
    ∙ sym (ap (λ (x : Rvalue). value_ran s (rvalue_tree x) c.args.at) w.is)

-- ## Choices

pub chosen-returns-in-Err : goal.chosen-returns-in-Err
chosen-returns-in-Err t c =
    let s = seat_of c.args.self in
    let w = c.in-Not in
    sym (run_err (branch_ran s (rvalue_tree w.value.value) c.args.at) c.in-Err.next
    (λ u at1. Ok (gave (truth_value (not (is_true u))) at1))
    (ap (λ (z : Rvalue). branch_ran s (rvalue_tree z) c.args.at) (sym c.deref.ensures)
    ∙ sym c.condition.ensures ∙ c.in-Err.is))
    ∙ sym (ap (λ (x : Rvalue). value_ran s (rvalue_tree x) c.args.at) w.is)

pub chosen-returns-in-Ok : goal.chosen-returns-in-Ok
chosen-returns-in-Ok t c =
    let s = seat_of c.args.self in
    let w = c.in-Not in
    let x = c.in-Ok.given in
    ap (λ v. Ok (gave v x.at)) (c.truth_value.ensures ∙ ap (λ b. truth_value (not b)) c.is_true.ensures)
    ∙ sym (run_ok (branch_ran s (rvalue_tree w.value.value) c.args.at) x
    (λ u at1. Ok (gave (truth_value (not (is_true u))) at1))
    (ap (λ (z : Rvalue). branch_ran s (rvalue_tree z) c.args.at) (sym c.deref.ensures)
    ∙ sym c.condition.ensures ∙ c.in-Ok.is))
    ∙ sym (ap (λ (x : Rvalue). value_ran s (rvalue_tree x) c.args.at) w.is)

pub chosen-returns-in-Err-condition : goal.chosen-returns-in-Err-condition
chosen-returns-in-Err-condition t c =
    let s = seat_of c.args.self in
    let w = c.in-And in
    sym (run_err (branch_ran s (rvalue_tree w.left.value) c.args.at) c.in-Err-condition.next
    (λ u at1. if is_true u then truth_ran (branch_ran s (rvalue_tree w.right.value) at1) else Ok (gave
    (truth_value false) at1))
    (ap (λ (z : Rvalue). branch_ran s (rvalue_tree z) c.args.at) (sym c.deref-in-And.ensures)
    ∙ sym c.condition-in-And.ensures ∙ c.in-Err-condition.is))
    ∙ sym (ap (λ (x : Rvalue). value_ran s (rvalue_tree x) c.args.at) w.is)

pub chosen-returns-then-is_true : goal.chosen-returns-then-is_true
chosen-returns-then-is_true t c =
    let s = seat_of c.args.self in
    let w = c.in-And in
    let x = c.in-Ok-condition.given in
    c.truth.ensures ∙ ap (λ (z : Rvalue). truth_ran (branch_ran s (rvalue_tree z) x.at)) c.deref-then-is_true.ensures
    ∙ sym (if_true (is_true x.value) (truth_ran (branch_ran s (rvalue_tree w.right.value) x.at)) (Ok (gave
    (truth_value false) x.at))
    (sym c.is_true-in-And.ensures ∙ c.if-is_true.true))
    ∙ sym (run_ok (branch_ran s (rvalue_tree w.left.value) c.args.at) x
    (λ u at1. if is_true u then truth_ran (branch_ran s (rvalue_tree w.right.value) at1) else Ok (gave
    (truth_value false) at1))
    (ap (λ (z : Rvalue). branch_ran s (rvalue_tree z) c.args.at) (sym c.deref-in-And.ensures)
    ∙ sym c.condition-in-And.ensures ∙ c.in-Ok-condition.is))
    ∙ sym (ap (λ (x : Rvalue). value_ran s (rvalue_tree x) c.args.at) w.is)

pub chosen-returns-else-is_true : goal.chosen-returns-else-is_true
chosen-returns-else-is_true t c =
    let s = seat_of c.args.self in
    let w = c.in-And in
    let x = c.in-Ok-condition.given in
    ap (λ v. Ok (gave v x.at)) c.truth_value-else-is_true.ensures
    ∙ sym (if_false (is_true x.value) (truth_ran (branch_ran s (rvalue_tree w.right.value) x.at)) (Ok (gave
    (truth_value false) x.at))
    (sym c.is_true-in-And.ensures ∙ c.if-is_true.false))
    ∙ sym (run_ok (branch_ran s (rvalue_tree w.left.value) c.args.at) x
    (λ u at1. if is_true u then truth_ran (branch_ran s (rvalue_tree w.right.value) at1) else Ok (gave
    (truth_value false) at1))
    (ap (λ (z : Rvalue). branch_ran s (rvalue_tree z) c.args.at) (sym c.deref-in-And.ensures)
    ∙ sym c.condition-in-And.ensures ∙ c.in-Ok-condition.is))
    ∙ sym (ap (λ (x : Rvalue). value_ran s (rvalue_tree x) c.args.at) w.is)

pub chosen-returns-in-Err-condition-2 : goal.chosen-returns-in-Err-condition-2
chosen-returns-in-Err-condition-2 t c =
    let s = seat_of c.args.self in
    let w = c.in-Or in
    sym (run_err (branch_ran s (rvalue_tree w.left.value) c.args.at) c.in-Err-condition-2.next
    (λ u at1. if is_true u then Ok (gave (truth_value true) at1) else truth_ran (branch_ran s
    (rvalue_tree w.right.value) at1))
    (ap (λ (z : Rvalue). branch_ran s (rvalue_tree z) c.args.at) (sym c.deref-in-Or.ensures)
    ∙ sym c.condition-in-Or.ensures ∙ c.in-Err-condition-2.is))
    ∙ sym (ap (λ (x : Rvalue). value_ran s (rvalue_tree x) c.args.at) w.is)

pub chosen-returns-then-is_true-2 : goal.chosen-returns-then-is_true-2
chosen-returns-then-is_true-2 t c =
    let s = seat_of c.args.self in
    let w = c.in-Or in
    let x = c.in-Ok-condition-2.given in
    ap (λ v. Ok (gave v x.at)) c.truth_value-then-is_true-2.ensures
    ∙ sym (if_true (is_true x.value) (Ok (gave (truth_value true) x.at)) (truth_ran (branch_ran s
    (rvalue_tree w.right.value) x.at))
    (sym c.is_true-in-Or.ensures ∙ c.if-is_true-2.true))
    ∙ sym (run_ok (branch_ran s (rvalue_tree w.left.value) c.args.at) x
    (λ u at1. if is_true u then Ok (gave (truth_value true) at1) else truth_ran (branch_ran s
    (rvalue_tree w.right.value) at1))
    (ap (λ (z : Rvalue). branch_ran s (rvalue_tree z) c.args.at) (sym c.deref-in-Or.ensures)
    ∙ sym c.condition-in-Or.ensures ∙ c.in-Ok-condition-2.is))
    ∙ sym (ap (λ (x : Rvalue). value_ran s (rvalue_tree x) c.args.at) w.is)

pub chosen-returns-else-is_true-2 : goal.chosen-returns-else-is_true-2
chosen-returns-else-is_true-2 t c =
    let s = seat_of c.args.self in
    let w = c.in-Or in
    let x = c.in-Ok-condition-2.given in
    c.truth-else-is_true-2.ensures ∙ ap (λ (z : Rvalue). truth_ran (branch_ran s
    (rvalue_tree z) x.at)) c.deref-else-is_true-2.ensures
    ∙ sym (if_false (is_true x.value) (Ok (gave (truth_value true) x.at)) (truth_ran (branch_ran s
    (rvalue_tree w.right.value) x.at))
    (sym c.is_true-in-Or.ensures ∙ c.if-is_true-2.false))
    ∙ sym (run_ok (branch_ran s (rvalue_tree w.left.value) c.args.at) x
    (λ u at1. if is_true u then Ok (gave (truth_value true) at1) else truth_ran (branch_ran s
    (rvalue_tree w.right.value) at1))
    (ap (λ (z : Rvalue). branch_ran s (rvalue_tree z) c.args.at) (sym c.deref-in-Or.ensures)
    ∙ sym c.condition-in-Or.ensures ∙ c.in-Ok-condition-2.is))
    ∙ sym (ap (λ (x : Rvalue). value_ran s (rvalue_tree x) c.args.at) w.is)

pub chosen-returns-in-Err-condition-3 : goal.chosen-returns-in-Err-condition-3
chosen-returns-in-Err-condition-3 t c =
    let s = seat_of c.args.self in
    let w = c.in-Conditional in
    sym (run_err (branch_ran s (rvalue_tree w.condition.value) c.args.at) c.in-Err-condition-3.next
    (λ u at1. if is_true u then value_ran s (rvalue_tree w.first.value) at1 else value_ran s
    (rvalue_tree w.second.value) at1)
    (ap (λ (z : Rvalue). branch_ran s (rvalue_tree z) c.args.at) (sym c.deref-in-Conditional.ensures)
    ∙ sym c.condition-in-Conditional.ensures ∙ c.in-Err-condition-3.is))
    ∙ sym (ap (λ (x : Rvalue). value_ran s (rvalue_tree x) c.args.at) w.is)

pub chosen-returns-then-is_true-3 : goal.chosen-returns-then-is_true-3
chosen-returns-then-is_true-3 t c =
    let s = seat_of c.args.self in
    let w = c.in-Conditional in
    let x = c.in-Ok-condition-3.given in
    c.value.ensures ∙ ap (λ (z : Rvalue). value_ran s (rvalue_tree z) x.at) c.deref-then-is_true-3.ensures
    ∙ sym (if_true (is_true x.value) (value_ran s (rvalue_tree w.first.value) x.at) (value_ran s
    (rvalue_tree w.second.value) x.at)
    (sym c.is_true-in-Conditional.ensures ∙ c.if-is_true-3.true))
    ∙ sym (run_ok (branch_ran s (rvalue_tree w.condition.value) c.args.at) x
    (λ u at1. if is_true u then value_ran s (rvalue_tree w.first.value) at1 else value_ran s
    (rvalue_tree w.second.value) at1)
    (ap (λ (z : Rvalue). branch_ran s (rvalue_tree z) c.args.at) (sym c.deref-in-Conditional.ensures)
    ∙ sym c.condition-in-Conditional.ensures ∙ c.in-Ok-condition-3.is))
    ∙ sym (ap (λ (x : Rvalue). value_ran s (rvalue_tree x) c.args.at) w.is)

pub chosen-returns-else-is_true-3 : goal.chosen-returns-else-is_true-3
chosen-returns-else-is_true-3 t c =
    let s = seat_of c.args.self in
    let w = c.in-Conditional in
    let x = c.in-Ok-condition-3.given in
    c.value-else-is_true-3.ensures ∙ ap (λ (z : Rvalue). value_ran s
    (rvalue_tree z) x.at) c.deref-else-is_true-3.ensures
    ∙ sym (if_false (is_true x.value) (value_ran s (rvalue_tree w.first.value) x.at) (value_ran s
    (rvalue_tree w.second.value) x.at)
    (sym c.is_true-in-Conditional.ensures ∙ c.if-is_true-3.false))
    ∙ sym (run_ok (branch_ran s (rvalue_tree w.condition.value) c.args.at) x
    (λ u at1. if is_true u then value_ran s (rvalue_tree w.first.value) at1 else value_ran s
    (rvalue_tree w.second.value) at1)
    (ap (λ (z : Rvalue). branch_ran s (rvalue_tree z) c.args.at) (sym c.deref-in-Conditional.ensures)
    ∙ sym c.condition-in-Conditional.ensures ∙ c.in-Ok-condition-3.is))
    ∙ sym (ap (λ (x : Rvalue). value_ran s (rvalue_tree x) c.args.at) w.is)

pub chosen-returns-in-Err-value : goal.chosen-returns-in-Err-value
chosen-returns-in-Err-value t c =
    let s = seat_of c.args.self in
    let w = c.in-Comma in
    sym (run_err (value_ran s (rvalue_tree w.left.value) c.args.at) c.in-Err-value.next
    (λ u at1. value_ran s (rvalue_tree w.right.value) at1)
    (ap (λ (z : Rvalue). value_ran s (rvalue_tree z) c.args.at) (sym c.deref-in-Comma.ensures)
    ∙ sym c.value-in-Comma.ensures ∙ c.in-Err-value.is))
    ∙ sym (ap (λ (x : Rvalue). value_ran s (rvalue_tree x) c.args.at) w.is)

pub chosen-returns-in-Ok-value : goal.chosen-returns-in-Ok-value
chosen-returns-in-Ok-value t c =
    let s = seat_of c.args.self in
    let w = c.in-Comma in
    let x = c.in-Ok-value.given in
    c.value-in-Comma-2.ensures ∙ ap (λ (z : Rvalue). value_ran s (rvalue_tree z) x.at) c.deref-in-Comma-2.ensures
    ∙ sym (run_ok (value_ran s (rvalue_tree w.left.value) c.args.at) x
    (λ u at1. value_ran s (rvalue_tree w.right.value) at1)
    (ap (λ (z : Rvalue). value_ran s (rvalue_tree z) c.args.at) (sym c.deref-in-Comma.ensures)
    ∙ sym c.value-in-Comma.ensures ∙ c.in-Ok-value.is))
    ∙ sym (ap (λ (x : Rvalue). value_ran s (rvalue_tree x) c.args.at) w.is)

-- ## Addresses

pub address-returns-in-Object : goal.address-returns-in-Object
address-returns-in-Object t c =
    let laid = laid_tree c.args.self.laid.now in
    let s = seat_of c.args.self in
    let w = c.in-Object in
    ap (λ v. Ok (gave v c.args.at)) (c.base.ensures ∙ ap (base laid) c.object_of.ensures)
    ∙ sym (ap (λ (x : Lvalue). address_ran s (lvalue_tree x) c.args.at) w.is)

pub address-returns-in-Err : goal.address-returns-in-Err
address-returns-in-Err t c =
    let laid = laid_tree c.args.self.laid.now in
    let answers = c.args.self.answers.now in
    let s = seat_of c.args.self in
    let w = c.in-Element in
    sym (run_err (address_ran s (lvalue_tree w.array.value) c.args.at) c.in-Err.next
    (λ u at1. run_then (value_ran s (rvalue_tree w.index.value) at1) (λ v at2. calculated answers
    (element laid w.length w.cells u v) w.place at2))
    (ap (λ (z : Lvalue). address_ran s (lvalue_tree z) c.args.at) (sym c.deref.ensures)
    ∙ sym c.address.ensures ∙ c.in-Err.is))
    ∙ sym (ap (λ (x : Lvalue). address_ran s (lvalue_tree x) c.args.at) w.is)

pub address-returns-in-Err-value : goal.address-returns-in-Err-value
address-returns-in-Err-value t c =
    let laid = laid_tree c.args.self.laid.now in
    let answers = c.args.self.answers.now in
    let s = seat_of c.args.self in
    let w = c.in-Element in
    let x = c.in-Ok.given in
    sym (run_err (value_ran s (rvalue_tree w.index.value) x.at) c.in-Err-value.next
    (λ v at2. calculated answers (element laid w.length w.cells x.value v) w.place at2)
    (ap (λ (z : Rvalue). value_ran s (rvalue_tree z) x.at) (sym c.deref-in-Element.ensures)
    ∙ sym c.value.ensures ∙ c.in-Err-value.is))
    ∙ sym (run_ok (address_ran s (lvalue_tree w.array.value) c.args.at) x
    (λ u at1. run_then (value_ran s (rvalue_tree w.index.value) at1) (λ v at2. calculated answers
    (element laid w.length w.cells u v) w.place at2))
    (ap (λ (z : Lvalue). address_ran s (lvalue_tree z) c.args.at) (sym c.deref.ensures)
    ∙ sym c.address.ensures ∙ c.in-Ok.is))
    ∙ sym (ap (λ (x : Lvalue). address_ran s (lvalue_tree x) c.args.at) w.is)

pub address-returns-in-Ok-value : goal.address-returns-in-Ok-value
address-returns-in-Ok-value t c =
    let laid = laid_tree c.args.self.laid.now in
    let answers = c.args.self.answers.now in
    let s = seat_of c.args.self in
    let w = c.in-Element in
    let x = c.in-Ok.given in
    let y = c.in-Ok-value.given in
    c.calculated.ensures ∙ ap (λ r. calculated answers r w.place y.at) c.element-found.ensures
    ∙ sym (run_ok (value_ran s (rvalue_tree w.index.value) x.at) y
    (λ v at2. calculated answers (element laid w.length w.cells x.value v) w.place at2)
    (ap (λ (z : Rvalue). value_ran s (rvalue_tree z) x.at) (sym c.deref-in-Element.ensures)
    ∙ sym c.value.ensures ∙ c.in-Ok-value.is))
    ∙ sym (run_ok (address_ran s (lvalue_tree w.array.value) c.args.at) x
    (λ u at1. run_then (value_ran s (rvalue_tree w.index.value) at1) (λ v at2. calculated answers
    (element laid w.length w.cells u v) w.place at2))
    (ap (λ (z : Lvalue). address_ran s (lvalue_tree z) c.args.at) (sym c.deref.ensures)
    ∙ sym c.address.ensures ∙ c.in-Ok.is))
    ∙ sym (ap (λ (x : Lvalue). address_ran s (lvalue_tree x) c.args.at) w.is)

pub address-returns-in-Err-value-2 : goal.address-returns-in-Err-value-2
address-returns-in-Err-value-2 t c =
    let laid = laid_tree c.args.self.laid.now in
    let answers = c.args.self.answers.now in
    let s = seat_of c.args.self in
    let w = c.in-Subscript in
    sym (run_err (value_ran s (rvalue_tree w.pointer.value) c.args.at) c.in-Err-value-2.next
    (λ u at1. run_then (value_ran s (rvalue_tree w.index.value) at1) (λ v at2. calculated answers
    (subscripted laid c.args.self.path w.cells w.target u v) w.place at2))
    (ap (λ (z : Rvalue). value_ran s (rvalue_tree z) c.args.at) (sym c.deref-in-Subscript.ensures)
    ∙ sym c.value-in-Subscript.ensures ∙ c.in-Err-value-2.is))
    ∙ sym (ap (λ (x : Lvalue). address_ran s (lvalue_tree x) c.args.at) w.is)

pub address-returns-in-Err-value-3 : goal.address-returns-in-Err-value-3
address-returns-in-Err-value-3 t c =
    let laid = laid_tree c.args.self.laid.now in
    let answers = c.args.self.answers.now in
    let s = seat_of c.args.self in
    let w = c.in-Subscript in
    let x = c.in-Ok-value-2.given in
    sym (run_err (value_ran s (rvalue_tree w.index.value) x.at) c.in-Err-value-3.next
    (λ v at2. calculated answers (subscripted laid c.args.self.path w.cells w.target x.value v) w.place at2)
    (ap (λ (z : Rvalue). value_ran s (rvalue_tree z) x.at) (sym c.deref-in-Subscript-2.ensures)
    ∙ sym c.value-in-Subscript-2.ensures ∙ c.in-Err-value-3.is))
    ∙ sym (run_ok (value_ran s (rvalue_tree w.pointer.value) c.args.at) x
    (λ u at1. run_then (value_ran s (rvalue_tree w.index.value) at1) (λ v at2. calculated answers
    (subscripted laid c.args.self.path w.cells w.target u v) w.place at2))
    (ap (λ (z : Rvalue). value_ran s (rvalue_tree z) c.args.at) (sym c.deref-in-Subscript.ensures)
    ∙ sym c.value-in-Subscript.ensures ∙ c.in-Ok-value-2.is))
    ∙ sym (ap (λ (x : Lvalue). address_ran s (lvalue_tree x) c.args.at) w.is)

pub address-returns-in-Ok-value-3 : goal.address-returns-in-Ok-value-3
address-returns-in-Ok-value-3 t c =
    let laid = laid_tree c.args.self.laid.now in
    let answers = c.args.self.answers.now in
    let s = seat_of c.args.self in
    let w = c.in-Subscript in
    let x = c.in-Ok-value-2.given in
    let y = c.in-Ok-value-3.given in
    c.calculated-in-Subscript.ensures ∙ ap (λ r. calculated answers r w.place y.at) c.subscripted-found.ensures
    ∙ sym (run_ok (value_ran s (rvalue_tree w.index.value) x.at) y
    (λ v at2. calculated answers (subscripted laid c.args.self.path w.cells w.target x.value v) w.place at2)
    (ap (λ (z : Rvalue). value_ran s (rvalue_tree z) x.at) (sym c.deref-in-Subscript-2.ensures)
    ∙ sym c.value-in-Subscript-2.ensures ∙ c.in-Ok-value-3.is))
    ∙ sym (run_ok (value_ran s (rvalue_tree w.pointer.value) c.args.at) x
    (λ u at1. run_then (value_ran s (rvalue_tree w.index.value) at1) (λ v at2. calculated answers
    (subscripted laid c.args.self.path w.cells w.target u v) w.place at2))
    (ap (λ (z : Rvalue). value_ran s (rvalue_tree z) c.args.at) (sym c.deref-in-Subscript.ensures)
    ∙ sym c.value-in-Subscript.ensures ∙ c.in-Ok-value-2.is))
    ∙ sym (ap (λ (x : Lvalue). address_ran s (lvalue_tree x) c.args.at) w.is)

pub address-returns-in-Err-value-4 : goal.address-returns-in-Err-value-4
address-returns-in-Err-value-4 t c =
    let laid = laid_tree c.args.self.laid.now in
    let answers = c.args.self.answers.now in
    let s = seat_of c.args.self in
    let w = c.in-Pointed in
    sym (run_err (value_ran s (rvalue_tree w.pointer.value) c.args.at) c.in-Err-value-4.next
    (λ u at1. calculated answers (dereferenced laid c.args.self.path w.target u) w.place at1)
    (ap (λ (z : Rvalue). value_ran s (rvalue_tree z) c.args.at) (sym c.deref-in-Pointed.ensures)
    ∙ sym c.value-in-Pointed.ensures ∙ c.in-Err-value-4.is))
    ∙ sym (ap (λ (x : Lvalue). address_ran s (lvalue_tree x) c.args.at) w.is)

pub address-returns-in-Ok-value-4 : goal.address-returns-in-Ok-value-4
address-returns-in-Ok-value-4 t c =
    let laid = laid_tree c.args.self.laid.now in
    let answers = c.args.self.answers.now in
    let s = seat_of c.args.self in
    let w = c.in-Pointed in
    let x = c.in-Ok-value-4.given in
    c.calculated-in-Pointed.ensures ∙ ap (λ r. calculated answers r w.place x.at) c.pointed-found.ensures
    ∙ sym (run_ok (value_ran s (rvalue_tree w.pointer.value) c.args.at) x
    (λ u at1. calculated answers (dereferenced laid c.args.self.path w.target u) w.place at1)
    (ap (λ (z : Rvalue). value_ran s (rvalue_tree z) c.args.at) (sym c.deref-in-Pointed.ensures)
    ∙ sym c.value-in-Pointed.ensures ∙ c.in-Ok-value-4.is))
    ∙ sym (ap (λ (x : Lvalue). address_ran s (lvalue_tree x) c.args.at) w.is)

pub address-returns-in-Err-value-5 : goal.address-returns-in-Err-value-5
address-returns-in-Err-value-5 t c =
    let laid = laid_tree c.args.self.laid.now in
    let answers = c.args.self.answers.now in
    let s = seat_of c.args.self in
    let w = c.in-Arrow in
    sym (run_err (value_ran s (rvalue_tree w.pointer.value) c.args.at) c.in-Err-value-5.next
    (λ u at1. calculated answers (arrow laid c.args.self.path w.target w.cell u) w.place at1)
    (ap (λ (z : Rvalue). value_ran s (rvalue_tree z) c.args.at) (sym c.deref-in-Arrow.ensures)
    ∙ sym c.value-in-Arrow.ensures ∙ c.in-Err-value-5.is))
    ∙ sym (ap (λ (x : Lvalue). address_ran s (lvalue_tree x) c.args.at) w.is)

pub address-returns-in-Ok-value-5 : goal.address-returns-in-Ok-value-5
address-returns-in-Ok-value-5 t c =
    let laid = laid_tree c.args.self.laid.now in
    let answers = c.args.self.answers.now in
    let s = seat_of c.args.self in
    let w = c.in-Arrow in
    let x = c.in-Ok-value-5.given in
    c.calculated-in-Arrow.ensures ∙ ap (λ r. calculated answers r w.place x.at) c.arrow-found.ensures
    ∙ sym (run_ok (value_ran s (rvalue_tree w.pointer.value) c.args.at) x
    (λ u at1. calculated answers (arrow laid c.args.self.path w.target w.cell u) w.place at1)
    (ap (λ (z : Rvalue). value_ran s (rvalue_tree z) c.args.at) (sym c.deref-in-Arrow.ensures)
    ∙ sym c.value-in-Arrow.ensures ∙ c.in-Ok-value-5.is))
    ∙ sym (ap (λ (x : Lvalue). address_ran s (lvalue_tree x) c.args.at) w.is)

pub address-returns-in-Err-address : goal.address-returns-in-Err-address
address-returns-in-Err-address t c =
    let laid = laid_tree c.args.self.laid.now in
    let s = seat_of c.args.self in
    let w = c.in-Member in
    sym (run_err (address_ran s (lvalue_tree w.structure.value) c.args.at) c.in-Err-address.next
    (λ u at1. Ok (gave (part laid w.cell u) at1))
    (ap (λ (z : Lvalue). address_ran s (lvalue_tree z) c.args.at) (sym c.deref-in-Member.ensures)
    ∙ sym c.address-in-Member.ensures ∙ c.in-Err-address.is))
    ∙ sym (ap (λ (x : Lvalue). address_ran s (lvalue_tree x) c.args.at) w.is)

pub address-returns-in-Ok-address : goal.address-returns-in-Ok-address
address-returns-in-Ok-address t c =
    let laid = laid_tree c.args.self.laid.now in
    let s = seat_of c.args.self in
    let w = c.in-Member in
    let x = c.in-Ok-address.given in
    ap (λ v. Ok (gave v x.at)) c.part.ensures
    ∙ sym (run_ok (address_ran s (lvalue_tree w.structure.value) c.args.at) x
    (λ u at1. Ok (gave (part laid w.cell u) at1))
    (ap (λ (z : Lvalue). address_ran s (lvalue_tree z) c.args.at) (sym c.deref-in-Member.ensures)
    ∙ sym c.address-in-Member.ensures ∙ c.in-Ok-address.is))
    ∙ sym (ap (λ (x : Lvalue). address_ran s (lvalue_tree x) c.args.at) w.is)

-- ## Assignments

pub assigned-returns-in-Err : goal.assigned-returns-in-Err
assigned-returns-in-Err t c =
    let laid = laid_tree c.args.self.laid.now in
    let answers = c.args.self.answers.now in
    let s = seat_of c.args.self in
    let w = c.in-Assign in
    sym (run_err (address_ran s (lvalue_tree w.target.value) c.args.at) c.in-Err.next
    (λ u at1. run_then (value_ran s (rvalue_tree w.value.value) at1)
    (λ v at2. stored laid answers u w.scalar v w.place at2))
    (ap (λ (z : Lvalue). address_ran s (lvalue_tree z) c.args.at) (sym c.deref.ensures)
    ∙ sym c.address.ensures ∙ c.in-Err.is))
    ∙ sym (ap (λ (x : Rvalue). value_ran s (rvalue_tree x) c.args.at) w.is)

pub assigned-returns-in-Err-value : goal.assigned-returns-in-Err-value
assigned-returns-in-Err-value t c =
    let laid = laid_tree c.args.self.laid.now in
    let answers = c.args.self.answers.now in
    let s = seat_of c.args.self in
    let w = c.in-Assign in
    let x = c.in-Ok.given in
    sym (run_err (value_ran s (rvalue_tree w.value.value) x.at) c.in-Err-value.next
    (λ v at2. stored laid answers x.value w.scalar v w.place at2)
    (ap (λ (z : Rvalue). value_ran s (rvalue_tree z) x.at) (sym c.deref-in-Assign.ensures)
    ∙ sym c.value.ensures ∙ c.in-Err-value.is))
    ∙ sym (run_ok (address_ran s (lvalue_tree w.target.value) c.args.at) x
    (λ u at1. run_then (value_ran s (rvalue_tree w.value.value) at1)
    (λ v at2. stored laid answers u w.scalar v w.place at2))
    (ap (λ (z : Lvalue). address_ran s (lvalue_tree z) c.args.at) (sym c.deref.ensures)
    ∙ sym c.address.ensures ∙ c.in-Ok.is))
    ∙ sym (ap (λ (x : Rvalue). value_ran s (rvalue_tree x) c.args.at) w.is)

pub assigned-returns-in-Ok-value : goal.assigned-returns-in-Ok-value
assigned-returns-in-Ok-value t c =
    let laid = laid_tree c.args.self.laid.now in
    let answers = c.args.self.answers.now in
    let s = seat_of c.args.self in
    let w = c.in-Assign in
    let x = c.in-Ok.given in
    let y = c.in-Ok-value.given in
    c.stored.ensures
    ∙ sym (run_ok (value_ran s (rvalue_tree w.value.value) x.at) y
    (λ v at2. stored laid answers x.value w.scalar v w.place at2)
    (ap (λ (z : Rvalue). value_ran s (rvalue_tree z) x.at) (sym c.deref-in-Assign.ensures)
    ∙ sym c.value.ensures ∙ c.in-Ok-value.is))
    ∙ sym (run_ok (address_ran s (lvalue_tree w.target.value) c.args.at) x
    (λ u at1. run_then (value_ran s (rvalue_tree w.value.value) at1)
    (λ v at2. stored laid answers u w.scalar v w.place at2))
    (ap (λ (z : Lvalue). address_ran s (lvalue_tree z) c.args.at) (sym c.deref.ensures)
    ∙ sym c.address.ensures ∙ c.in-Ok.is))
    ∙ sym (ap (λ (x : Rvalue). value_ran s (rvalue_tree x) c.args.at) w.is)

pub assigned-returns-in-Err-loaded : goal.assigned-returns-in-Err-loaded
assigned-returns-in-Err-loaded t c =
    let laid = laid_tree c.args.self.laid.now in
    let answers = c.args.self.answers.now in
    let s = seat_of c.args.self in
    let w = c.in-Compound in
    sym (held_err (loaded laid answers (address_ran s (lvalue_tree w.target.value) c.args.at)
    (Scalars.Int w.cell) w.volatile (lvalue_place (lvalue_tree w.target.value)))
    c.in-Err-loaded.next
    (λ h. run_then (value_ran s (rvalue_tree w.value.value) h.at)
    (λ v at2. changed laid answers h.address (Scalars.Int w.cell)
    (compound_result w.operator w.cell w.of h.value v) w.place at2))
    (ap (λ (x : Lvalue). loaded laid answers (address_ran s (lvalue_tree x) c.args.at)
    (Scalars.Int w.cell) w.volatile (lvalue_place (lvalue_tree x))) (sym c.deref-in-Compound.ensures)
    ∙ sym c.loaded.ensures ∙ c.in-Err-loaded.is))
    ∙ sym (ap (λ (x : Rvalue). value_ran s (rvalue_tree x) c.args.at) w.is)

pub assigned-returns-in-Err-value-2 : goal.assigned-returns-in-Err-value-2
assigned-returns-in-Err-value-2 t c =
    let laid = laid_tree c.args.self.laid.now in
    let answers = c.args.self.answers.now in
    let s = seat_of c.args.self in
    let w = c.in-Compound in
    let h = c.in-Ok-loaded.given in
    sym (run_err (value_ran s (rvalue_tree w.value.value) h.at) c.in-Err-value-2.next
    (λ v at2. changed laid answers h.address (Scalars.Int w.cell)
    (compound_result w.operator w.cell w.of h.value v) w.place at2)
    (ap (λ (z : Rvalue). value_ran s (rvalue_tree z) h.at) (sym c.deref-in-Compound-2.ensures)
    ∙ sym c.value-in-Compound.ensures ∙ c.in-Err-value-2.is))
    ∙ sym (held_ok (loaded laid answers (address_ran s (lvalue_tree w.target.value) c.args.at)
    (Scalars.Int w.cell) w.volatile (lvalue_place (lvalue_tree w.target.value))) h
    (λ h. run_then (value_ran s (rvalue_tree w.value.value) h.at)
    (λ v at2. changed laid answers h.address (Scalars.Int w.cell)
    (compound_result w.operator w.cell w.of h.value v) w.place at2))
    (ap (λ (x : Lvalue). loaded laid answers (address_ran s (lvalue_tree x) c.args.at)
    (Scalars.Int w.cell) w.volatile (lvalue_place (lvalue_tree x))) (sym c.deref-in-Compound.ensures)
    ∙ sym c.loaded.ensures ∙ c.in-Ok-loaded.is))
    ∙ sym (ap (λ (x : Rvalue). value_ran s (rvalue_tree x) c.args.at) w.is)

pub assigned-returns-in-Ok-value-2 : goal.assigned-returns-in-Ok-value-2
assigned-returns-in-Ok-value-2 t c =
    let laid = laid_tree c.args.self.laid.now in
    let answers = c.args.self.answers.now in
    let s = seat_of c.args.self in
    let w = c.in-Compound in
    let h = c.in-Ok-loaded.given in
    let y = c.in-Ok-value-2.given in
    c.changed.ensures
    ∙ ap (λ r. changed laid answers h.address (Scalars.Int w.cell) r w.place y.at) c.compound_result-found.ensures
    ∙ sym (run_ok (value_ran s (rvalue_tree w.value.value) h.at) y
    (λ v at2. changed laid answers h.address (Scalars.Int w.cell)
    (compound_result w.operator w.cell w.of h.value v) w.place at2)
    (ap (λ (z : Rvalue). value_ran s (rvalue_tree z) h.at) (sym c.deref-in-Compound-2.ensures)
    ∙ sym c.value-in-Compound.ensures ∙ c.in-Ok-value-2.is))
    ∙ sym (held_ok (loaded laid answers (address_ran s (lvalue_tree w.target.value) c.args.at)
    (Scalars.Int w.cell) w.volatile (lvalue_place (lvalue_tree w.target.value))) h
    (λ h. run_then (value_ran s (rvalue_tree w.value.value) h.at)
    (λ v at2. changed laid answers h.address (Scalars.Int w.cell)
    (compound_result w.operator w.cell w.of h.value v) w.place at2))
    (ap (λ (x : Lvalue). loaded laid answers (address_ran s (lvalue_tree x) c.args.at)
    (Scalars.Int w.cell) w.volatile (lvalue_place (lvalue_tree x))) (sym c.deref-in-Compound.ensures)
    ∙ sym c.loaded.ensures ∙ c.in-Ok-loaded.is))
    ∙ sym (ap (λ (x : Rvalue). value_ran s (rvalue_tree x) c.args.at) w.is)

pub assigned-returns-in-Err-loaded-2 : goal.assigned-returns-in-Err-loaded-2
assigned-returns-in-Err-loaded-2 t c =
    let laid = laid_tree c.args.self.laid.now in
    let answers = c.args.self.answers.now in
    let s = seat_of c.args.self in
    let w = c.in-CompoundMove in
    sym (held_err (loaded laid answers (address_ran s (lvalue_tree w.target.value) c.args.at)
    (Scalars.Pointer w.class) false (lvalue_place (lvalue_tree w.target.value)))
    c.in-Err-loaded-2.next
    (λ h. run_then (value_ran s (rvalue_tree w.value.value) h.at)
    (λ v at2. changed laid answers h.address (Scalars.Pointer w.class)
    (moved laid w.minus w.cells h.value v) w.place at2))
    (ap (λ (x : Lvalue). loaded laid answers (address_ran s (lvalue_tree x) c.args.at)
    (Scalars.Pointer w.class) false (lvalue_place (lvalue_tree x))) (sym c.deref-in-CompoundMove.ensures)
    ∙ sym c.loaded-in-CompoundMove.ensures ∙ c.in-Err-loaded-2.is))
    ∙ sym (ap (λ (x : Rvalue). value_ran s (rvalue_tree x) c.args.at) w.is)

pub assigned-returns-in-Err-value-3 : goal.assigned-returns-in-Err-value-3
assigned-returns-in-Err-value-3 t c =
    let laid = laid_tree c.args.self.laid.now in
    let answers = c.args.self.answers.now in
    let s = seat_of c.args.self in
    let w = c.in-CompoundMove in
    let h = c.in-Ok-loaded-2.given in
    sym (run_err (value_ran s (rvalue_tree w.value.value) h.at) c.in-Err-value-3.next
    (λ v at2. changed laid answers h.address (Scalars.Pointer w.class)
    (moved laid w.minus w.cells h.value v) w.place at2)
    (ap (λ (z : Rvalue). value_ran s (rvalue_tree z) h.at) (sym c.deref-in-CompoundMove-2.ensures)
    ∙ sym c.value-in-CompoundMove.ensures ∙ c.in-Err-value-3.is))
    ∙ sym (held_ok (loaded laid answers (address_ran s (lvalue_tree w.target.value) c.args.at)
    (Scalars.Pointer w.class) false (lvalue_place (lvalue_tree w.target.value))) h
    (λ h. run_then (value_ran s (rvalue_tree w.value.value) h.at)
    (λ v at2. changed laid answers h.address (Scalars.Pointer w.class)
    (moved laid w.minus w.cells h.value v) w.place at2))
    (ap (λ (x : Lvalue). loaded laid answers (address_ran s (lvalue_tree x) c.args.at)
    (Scalars.Pointer w.class) false (lvalue_place (lvalue_tree x))) (sym c.deref-in-CompoundMove.ensures)
    ∙ sym c.loaded-in-CompoundMove.ensures ∙ c.in-Ok-loaded-2.is))
    ∙ sym (ap (λ (x : Rvalue). value_ran s (rvalue_tree x) c.args.at) w.is)

pub assigned-returns-in-Ok-value-3 : goal.assigned-returns-in-Ok-value-3
assigned-returns-in-Ok-value-3 t c =
    let laid = laid_tree c.args.self.laid.now in
    let answers = c.args.self.answers.now in
    let s = seat_of c.args.self in
    let w = c.in-CompoundMove in
    let h = c.in-Ok-loaded-2.given in
    let y = c.in-Ok-value-3.given in
    c.changed-in-CompoundMove.ensures
    ∙ ap (λ r. changed laid answers h.address (Scalars.Pointer w.class) r w.place y.at) c.moved-found.ensures
    ∙ sym (run_ok (value_ran s (rvalue_tree w.value.value) h.at) y
    (λ v at2. changed laid answers h.address (Scalars.Pointer w.class)
    (moved laid w.minus w.cells h.value v) w.place at2)
    (ap (λ (z : Rvalue). value_ran s (rvalue_tree z) h.at) (sym c.deref-in-CompoundMove-2.ensures)
    ∙ sym c.value-in-CompoundMove.ensures ∙ c.in-Ok-value-3.is))
    ∙ sym (held_ok (loaded laid answers (address_ran s (lvalue_tree w.target.value) c.args.at)
    (Scalars.Pointer w.class) false (lvalue_place (lvalue_tree w.target.value))) h
    (λ h. run_then (value_ran s (rvalue_tree w.value.value) h.at)
    (λ v at2. changed laid answers h.address (Scalars.Pointer w.class)
    (moved laid w.minus w.cells h.value v) w.place at2))
    (ap (λ (x : Lvalue). loaded laid answers (address_ran s (lvalue_tree x) c.args.at)
    (Scalars.Pointer w.class) false (lvalue_place (lvalue_tree x))) (sym c.deref-in-CompoundMove.ensures)
    ∙ sym c.loaded-in-CompoundMove.ensures ∙ c.in-Ok-loaded-2.is))
    ∙ sym (ap (λ (x : Rvalue). value_ran s (rvalue_tree x) c.args.at) w.is)

-- ## Statements

pub statement-returns-in-Ok : goal.statement-returns-in-Ok
statement-returns-in-Ok t c =
    let s = seat_of c.args.self in
    let w = c.in-Evaluate in
    sym (ap (λ (r : Result Gave Next). flow_then r (λ v at1. Ok (Goes at1)))
    (ap (λ o. optional_ran s o c.args.at) (sym c.borrowed.ensures)
    ∙ sym c.optional.ensures ∙ c.in-Ok.is))
    ∙ sym (ap (λ (x : TypedStatement). statement_ran s (typed_tree x) c.args.at) w.is)

pub statement-returns-in-Ok-optional : goal.statement-returns-in-Ok-optional
statement-returns-in-Ok-optional t c =
    let s = seat_of c.args.self in
    let w = c.in-Return in
    sym (ap (λ (r : Result Gave Next). flow_then r (λ v at1. Ok (Returns (gave v at1))))
    (ap (λ o. optional_ran s o c.args.at) (sym c.borrowed-in-Return.ensures)
    ∙ sym c.optional-in-Return.ensures ∙ c.in-Ok-optional.is))
    ∙ sym (ap (λ (x : TypedStatement). statement_ran s (typed_tree x) c.args.at) w.is)

pub statement-returns-in-Ok-act : goal.statement-returns-in-Ok-act
statement-returns-in-Ok-act t c =
    let s = seat_of c.args.self in
    let w = c.in-Lock in
    sym (ap (λ (r : Result Gave Next). flow_then r (λ v at1. Ok (Goes at1)))
    (sym c.act.ensures ∙ c.in-Ok-act.is))
    ∙ sym (ap (λ (x : TypedStatement). statement_ran s (typed_tree x) c.args.at) w.is)

pub statement-returns-in-Ok-act-2 : goal.statement-returns-in-Ok-act-2
statement-returns-in-Ok-act-2 t c =
    let s = seat_of c.args.self in
    let w = c.in-Unlock in
    sym (ap (λ (r : Result Gave Next). flow_then r (λ v at1. Ok (Goes at1)))
    (sym c.act-in-Unlock.ensures ∙ c.in-Ok-act-2.is))
    ∙ sym (ap (λ (x : TypedStatement). statement_ran s (typed_tree x) c.args.at) w.is)

pub statement-returns-in-Ok-act-3 : goal.statement-returns-in-Ok-act-3
statement-returns-in-Ok-act-3 t c =
    let s = seat_of c.args.self in
    let w = c.in-Yield in
    sym (ap (λ (r : Result Gave Next). flow_then r (λ v at1. Ok (Goes at1)))
    (sym c.act-in-Yield.ensures ∙ c.in-Ok-act-3.is))
    ∙ sym (ap (λ (x : TypedStatement). statement_ran s (typed_tree x) c.args.at) w.is)

pub statement-returns-in-Ok-locals : goal.statement-returns-in-Ok-locals
statement-returns-in-Ok-locals t c =
    let s = seat_of c.args.self in
    let w = c.in-Declare in
    sym (locals_listed s w.locals c.args.at (Ok c.in-Ok-locals.given)
    (ap (λ (xs : List LocalObject). declared_ran s xs c.args.at) (sym c.deref.ensures.value)
    ∙ sym c.locals.ensures ∙ c.in-Ok-locals.is))
    ∙ sym (ap (λ (x : TypedStatement). statement_ran s (typed_tree x) c.args.at) w.is)

pub statement-returns-in-Err : goal.statement-returns-in-Err
statement-returns-in-Err t c =
    let s = seat_of c.args.self in
    let w = c.in-Evaluate in
    sym (ap (λ (r : Result Gave Next). flow_then r (λ v at1. Ok (Goes at1)))
    (ap (λ o. optional_ran s o c.args.at) (sym c.borrowed.ensures)
    ∙ sym c.optional.ensures ∙ c.in-Err.is))
    ∙ sym (ap (λ (x : TypedStatement). statement_ran s (typed_tree x) c.args.at) w.is)

pub statement-returns-in-Err-optional : goal.statement-returns-in-Err-optional
statement-returns-in-Err-optional t c =
    let s = seat_of c.args.self in
    let w = c.in-Return in
    sym (ap (λ (r : Result Gave Next). flow_then r (λ v at1. Ok (Returns (gave v at1))))
    (ap (λ o. optional_ran s o c.args.at) (sym c.borrowed-in-Return.ensures)
    ∙ sym c.optional-in-Return.ensures ∙ c.in-Err-optional.is))
    ∙ sym (ap (λ (x : TypedStatement). statement_ran s (typed_tree x) c.args.at) w.is)

pub statement-returns-in-Err-act : goal.statement-returns-in-Err-act
statement-returns-in-Err-act t c =
    let s = seat_of c.args.self in
    let w = c.in-Lock in
    sym (ap (λ (r : Result Gave Next). flow_then r (λ v at1. Ok (Goes at1)))
    (sym c.act.ensures ∙ c.in-Err-act.is))
    ∙ sym (ap (λ (x : TypedStatement). statement_ran s (typed_tree x) c.args.at) w.is)

pub statement-returns-in-Err-act-2 : goal.statement-returns-in-Err-act-2
statement-returns-in-Err-act-2 t c =
    let s = seat_of c.args.self in
    let w = c.in-Unlock in
    sym (ap (λ (r : Result Gave Next). flow_then r (λ v at1. Ok (Goes at1)))
    (sym c.act-in-Unlock.ensures ∙ c.in-Err-act-2.is))
    ∙ sym (ap (λ (x : TypedStatement). statement_ran s (typed_tree x) c.args.at) w.is)

pub statement-returns-in-Err-act-3 : goal.statement-returns-in-Err-act-3
statement-returns-in-Err-act-3 t c =
    let s = seat_of c.args.self in
    let w = c.in-Yield in
    sym (ap (λ (r : Result Gave Next). flow_then r (λ v at1. Ok (Goes at1)))
    (sym c.act-in-Yield.ensures ∙ c.in-Err-act-3.is))
    ∙ sym (ap (λ (x : TypedStatement). statement_ran s (typed_tree x) c.args.at) w.is)

pub statement-returns-in-Err-locals : goal.statement-returns-in-Err-locals
statement-returns-in-Err-locals t c =
    let s = seat_of c.args.self in
    let w = c.in-Declare in
    sym (locals_listed s w.locals c.args.at (Err c.in-Err-locals.next)
    (ap (λ (xs : List LocalObject). declared_ran s xs c.args.at) (sym c.deref.ensures.value)
    ∙ sym c.locals.ensures ∙ c.in-Err-locals.is))
    ∙ sym (ap (λ (x : TypedStatement). statement_ran s (typed_tree x) c.args.at) w.is)

pub statement-returns-in-Block : goal.statement-returns-in-Block
statement-returns-in-Block t c =
    let s = seat_of c.args.self in
    let w = c.in-Block in
    c.block.ensures
    ∙ ap (λ (xs : List TypedStatement). listed_ran s xs c.args.at) c.deref-in-Block.ensures.value
    ∙ sym (block_listed s w.statements c.args.at)
    ∙ sym (ap (λ (x : TypedStatement). statement_ran s (typed_tree x) c.args.at) w.is)

pub statement-returns-in-Break : goal.statement-returns-in-Break
statement-returns-in-Break t c =
    let s = seat_of c.args.self in
    sym (ap (λ (x : TypedStatement). statement_ran s (typed_tree x) c.args.at) c.in-Break.is)

pub statement-returns-in-Continue : goal.statement-returns-in-Continue
statement-returns-in-Continue t c =
    let s = seat_of c.args.self in
    sym (ap (λ (x : TypedStatement). statement_ran s (typed_tree x) c.args.at) c.in-Continue.is)

pub statement-returns-in-While : goal.statement-returns-in-While
statement-returns-in-While t c =
    c.controlled.ensures

pub statement-returns-in-Err-condition : goal.statement-returns-in-Err-condition
statement-returns-in-Err-condition t c =
    let s = seat_of c.args.self in
    let w = c.in-If in
    sym (ap (λ (r : Result Gave Next). flow_then r (λ v at1. if is_true v then statement_ran s
    (typed_tree w.first.value) at1 else Ok (Goes at1)))
    (ap (λ (x : Rvalue). branch_ran s (rvalue_tree x) c.args.at) (sym c.deref-in-None.ensures)
    ∙ sym c.condition.ensures ∙ c.in-Err-condition.is))
    ∙ sym (ap (λ o. statement_ran s (typed_tree (Typed.If w.condition w.first o)) c.args.at) c.in-None.is)
    ∙ sym (ap (λ (x : TypedStatement). statement_ran s (typed_tree x) c.args.at) w.is)

pub statement-returns-then-is_true : goal.statement-returns-then-is_true
statement-returns-then-is_true t c =
    let s = seat_of c.args.self in
    let w = c.in-If in
    let x = c.in-Ok-condition.given in
    c.statement.ensures
    ∙ ap (λ (z : TypedStatement). statement_ran s (typed_tree z) x.at) c.deref-then-is_true.ensures
    ∙ sym (if_true (is_true x.value) (statement_ran s (typed_tree w.first.value) x.at) (Ok (Goes x.at))
    (sym c.is_true.ensures ∙ c.if-is_true.true))
    ∙ sym (ap (λ (r : Result Gave Next). flow_then r (λ v at1. if is_true v then statement_ran s
    (typed_tree w.first.value) at1 else Ok (Goes at1)))
    (ap (λ (x : Rvalue). branch_ran s (rvalue_tree x) c.args.at) (sym c.deref-in-None.ensures)
    ∙ sym c.condition.ensures ∙ c.in-Ok-condition.is))
    ∙ sym (ap (λ o. statement_ran s (typed_tree (Typed.If w.condition w.first o)) c.args.at) c.in-None.is)
    ∙ sym (ap (λ (x : TypedStatement). statement_ran s (typed_tree x) c.args.at) w.is)

pub statement-returns-else-is_true : goal.statement-returns-else-is_true
statement-returns-else-is_true t c =
    let s = seat_of c.args.self in
    let w = c.in-If in
    let x = c.in-Ok-condition.given in
    sym (if_false (is_true x.value) (statement_ran s (typed_tree w.first.value) x.at) (Ok (Goes x.at))
    (sym c.is_true.ensures ∙ c.if-is_true.false))
    ∙ sym (ap (λ (r : Result Gave Next). flow_then r (λ v at1. if is_true v then statement_ran s
    (typed_tree w.first.value) at1 else Ok (Goes at1)))
    (ap (λ (x : Rvalue). branch_ran s (rvalue_tree x) c.args.at) (sym c.deref-in-None.ensures)
    ∙ sym c.condition.ensures ∙ c.in-Ok-condition.is))
    ∙ sym (ap (λ o. statement_ran s (typed_tree (Typed.If w.condition w.first o)) c.args.at) c.in-None.is)
    ∙ sym (ap (λ (x : TypedStatement). statement_ran s (typed_tree x) c.args.at) w.is)

pub statement-returns-in-Err-condition-2 : goal.statement-returns-in-Err-condition-2
statement-returns-in-Err-condition-2 t c =
    let s = seat_of c.args.self in
    let w = c.in-If in
    sym (ap (λ (r : Result Gave Next). flow_then r (λ v at1. if is_true v then statement_ran s
    (typed_tree w.first.value) at1 else statement_ran s (typed_tree c.in-Some.second.value) at1))
    (ap (λ (x : Rvalue). branch_ran s (rvalue_tree x) c.args.at) (sym c.deref-in-Some.ensures)
    ∙ sym c.condition-in-Some.ensures ∙ c.in-Err-condition-2.is))
    ∙ sym (ap (λ o. statement_ran s (typed_tree (Typed.If w.condition w.first o)) c.args.at) c.in-Some.is)
    ∙ sym (ap (λ (x : TypedStatement). statement_ran s (typed_tree x) c.args.at) w.is)

pub statement-returns-then-is_true-2 : goal.statement-returns-then-is_true-2
statement-returns-then-is_true-2 t c =
    let s = seat_of c.args.self in
    let w = c.in-If in
    let x = c.in-Ok-condition-2.given in
    c.statement-then-is_true-2.ensures
    ∙ ap (λ (z : TypedStatement). statement_ran s (typed_tree z) x.at) c.deref-then-is_true-2.ensures
    ∙ sym (if_true (is_true x.value) (statement_ran s (typed_tree w.first.value) x.at) (statement_ran s
    (typed_tree c.in-Some.second.value) x.at)
    (sym c.is_true-in-Some.ensures ∙ c.if-is_true-2.true))
    ∙ sym (ap (λ (r : Result Gave Next). flow_then r (λ v at1. if is_true v then statement_ran s
    (typed_tree w.first.value) at1 else statement_ran s (typed_tree c.in-Some.second.value) at1))
    (ap (λ (x : Rvalue). branch_ran s (rvalue_tree x) c.args.at) (sym c.deref-in-Some.ensures)
    ∙ sym c.condition-in-Some.ensures ∙ c.in-Ok-condition-2.is))
    ∙ sym (ap (λ o. statement_ran s (typed_tree (Typed.If w.condition w.first o)) c.args.at) c.in-Some.is)
    ∙ sym (ap (λ (x : TypedStatement). statement_ran s (typed_tree x) c.args.at) w.is)

pub statement-returns-else-is_true-2 : goal.statement-returns-else-is_true-2
statement-returns-else-is_true-2 t c =
    let s = seat_of c.args.self in
    let w = c.in-If in
    let x = c.in-Ok-condition-2.given in
    c.statement-else-is_true-2.ensures
    ∙ ap (λ (z : TypedStatement). statement_ran s (typed_tree z) x.at) c.deref-else-is_true-2.ensures
    ∙ sym (if_false (is_true x.value) (statement_ran s (typed_tree w.first.value) x.at) (statement_ran s
    (typed_tree c.in-Some.second.value) x.at)
    (sym c.is_true-in-Some.ensures ∙ c.if-is_true-2.false))
    ∙ sym (ap (λ (r : Result Gave Next). flow_then r (λ v at1. if is_true v then statement_ran s
    (typed_tree w.first.value) at1 else statement_ran s (typed_tree c.in-Some.second.value) at1))
    (ap (λ (x : Rvalue). branch_ran s (rvalue_tree x) c.args.at) (sym c.deref-in-Some.ensures)
    ∙ sym c.condition-in-Some.ensures ∙ c.in-Ok-condition-2.is))
    ∙ sym (ap (λ o. statement_ran s (typed_tree (Typed.If w.condition w.first o)) c.args.at) c.in-Some.is)
    ∙ sym (ap (λ (x : TypedStatement). statement_ran s (typed_tree x) c.args.at) w.is)

-- ## Loops that spin

pub turns-returns-else-left : goal.turns-returns-else-left
turns-returns-else-left t c =
    let answers = c.args.self.answers.now in
    let s = seat_of c.args.self in
    let turn = turn_ran s (option_map rvalue_tree (option_copied c.args.before))
    (statement_ran s (typed_tree c.args.body.now)) (option_map rvalue_tree (option_copied c.args.step))
    (option_map rvalue_tree (option_copied c.args.behind)) in
    ap Err c.last.ensures
    ∙ sym (turn_spins answers turn c.turns.head c.in-Goes.back
    (sym c.turn.ensures ∙ c.in-Ok.is ∙ ap Ok c.in-Goes.is)
    (omega (arith, c.left.ensures, c.left-in-Goes.ensures, c.if-left.false)))
    ∙ c.turns.invariant
