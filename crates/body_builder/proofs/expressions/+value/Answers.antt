use Rattle.std.proofs.Common.{◌≡◌, ℕ, Bool, false, Option, refl, ap, sym, subst, ◌∙◌}
use Rattle.std.specs.Prelude.{IfOk}
use Rattle.tm_cint.specs.declared.operators.BinOp.{BinOp}
use Rattle.tm_typed.specs.declared.types.Scalar.TheVariants as Scalars
use Rattle.tm_typed.specs.declared.expressions.Rvalue.{Rvalue}
use Rattle.tm_typed.specs.declared.expressions.Lvalue.{Lvalue}
use Rattle.tm_typed.specs.declared.expressions.Rvalue.TheVariants as Rvalues
use Rattle.tm_typed.specs.TypedTrees.{RvalueTree, rvalue_tree, lvalue_tree, lvalue_place, a_function_call, as_rvalues}
use Rattle.tm_typed.proofs.CallTrees.{rvalue_tree-call}
use Rattle.body_builder.specs.Fragments.{tree_in, so_far}
use Rattle.flow_graph.specs.declared.operations.Into.{Into}
use Rattle.flow_graph.specs.declared.operations.Operation.TheVariants as Op
use Rattle.lowering.specs.concrete_steps.Places.{rvalue_place, gives_pointer}
use Rattle.lowering.specs.Table.{Conversion, implied, is_same_place, has_value, into}
use Rattle.lowering.specs.Built.{Building, goto, temp_of}
use Rattle.body_builder.specs.declared.fragments.Wanted.TheVariants as Want
use Rattle.body_builder.specs.reading.Expressions.{value_at, address_at, loaded, ends, ends_new, binary_ends}
use Rattle.body_builder.specs.reading.Expressions.{pointers_ends, both_meet, either_meet, choice_ends, copied_if}
use Rattle.body_builder.specs.reading.Expressions.{stored, compound_ends, compound_move_ends, unit_step_ends}
use Rattle.body_builder.specs.reading.Expressions.{pointer_step_ends, conversion_ends, temp_if}
use Rattle.body_builder.specs.reading.Expressions.{pointed_element, pointed_part}
use Rattle.body_builder.specs.Placing.{Finds, Outcome, Given, new_value}
use Rattle.body_builder.proofs.Arms.{found_as, value_as, address_as, held_as, same_two, same_three, same_four}
use Rattle.body_builder.proofs.Arms.{same_five, same_six, given_as}
use Rattle.body_builder.proofs.Arguments.{call_found}
use Rattle.body_builder.proofs.expressions.+value.Goals as goal

pub build_value-returns-in_ok-temps-in-Call : goal.build_value-returns-in_ok-temps-in-Call
build_value-returns-in_ok-temps-in-Call t c =
    let i = c.in-Call in
    let laid = tree_in c.args.here.now.laid.now in
    let depth = c.args.here.now.depth in
    let path = c.args.here.now.path in
    let is : c.args.rvalue.now ≡ Rvalues.Call i.function i.site i.arguments i.place = i.is in
    let e = ap rvalue_tree is ∙ rvalue_tree-call i.function i.site i.arguments i.place
    ∙ ap (λ es. a_function_call i.function i.site (as_rvalues es) i.place) (sym c.deref-in-Call.ensures.value) in
    subst (λ (u : RvalueTree). IfOk c.call_ends.result (λ x. Finds (value_at laid depth path u c.args.wanted
    (so_far laid c.args.to.now)) (so_far laid c.call_ends.new.to) x)) (sym e)
    (call_found laid depth path i.function i.site i.place c.args.wanted (as_rvalues c.deref-in-Call.result.now)
    (so_far laid c.args.to.now) (so_far laid c.build_values.new.to) (so_far laid c.call_ends.new.to) _ _ _
    c.call_ends.result c.call_gives_pointer-pointer.ensures c.in_ok-temps-in-Call.ensures
    c.deref-in-Call-2.ensures.value c.call_ends.ensures)

pub build_operator-returns-in_ok-found-in-Unary : goal.build_operator-returns-in_ok-found-in-Unary
build_operator-returns-in_ok-found-in-Unary t c =
    let i = c.in-Unary in
    let laid = tree_in c.args.here.now.laid.now in
    let depth = c.args.here.now.depth in
    let path = c.args.here.now.path in
    let w = c.args.wanted in
    let b = so_far laid c.args.to.now in
    let b1 : Building = so_far laid c.build_value.new.to in
    let x = value_as laid depth path _ i.value.value Want.Value b b b1 c.in_ok-found-in-Unary.found
    c.deref.ensures refl c.in_ok-found-in-Unary.ensures in
    found_as _ _ _ _
    (same_three (λ (k f : ℕ) (z : Building). ends_new w false i.place (Op.Un k i.operator i.of f i.place) z)
    (c.temps.ensures ∙ ap (λ (z : Building). z.temps) x.0) (c.temp_of.ensures ∙ ap temp_of x.1) x.0
    ∙ sym (ap (λ (v : Rvalue). value_at laid depth path (rvalue_tree v) w b) i.is))
    c.ends_new.ensures

pub build_operator-returns-in_ok-second-in-Binary : goal.build_operator-returns-in_ok-second-in-Binary
build_operator-returns-in_ok-second-in-Binary t c =
    let i = c.in-Binary in
    let laid = tree_in c.args.here.now.laid.now in
    let depth = c.args.here.now.depth in
    let path = c.args.here.now.path in
    let w = c.args.wanted in
    let b = so_far laid c.args.to.now in
    let b1 : Building = so_far laid c.build_value-in-Binary.new.to in
    let first = value_as laid depth path _ i.left.value Want.Bare b b b1 c.in_ok-first-in-Binary.first
    c.deref-in-Binary.ensures refl c.in_ok-first-in-Binary.ensures in
    let m : Building = (value_at laid depth path (rvalue_tree i.left.value) Want.Bare b).at in
    let b2 : Building = so_far laid c.build_value-in-Binary-2.new.to in
    let second = value_as laid depth path _ i.right.value Want.Bare b1 m b2 c.in_ok-second-in-Binary.second
    c.deref-in-Binary-2.ensures first.0 c.in_ok-second-in-Binary.ensures in
    found_as _ _ _ _
    (same_five (λ (l : Conversion) (x : ℕ) (r : Conversion) (y : ℕ) (z : Building).
    binary_ends w i.operator i.of i.place l x r y z)
    (c.implied.ensures ∙ ap (λ (v : Rvalue). implied (rvalue_tree v)) c.deref-in-Binary-3.ensures)
    (c.temp_of-in-Binary.ensures ∙ ap temp_of first.1)
    (c.implied-in-Binary.ensures ∙ ap (λ (v : Rvalue). implied (rvalue_tree v)) c.deref-in-Binary-4.ensures)
    (c.temp_of-in-Binary-2.ensures ∙ ap temp_of second.1) second.0
    ∙ sym (ap (λ (v : Rvalue). value_at laid depth path (rvalue_tree v) w b) i.is))
    c.binary_ends.ensures

pub build_operator-returns-in_ok-second-in-Pointers : goal.build_operator-returns-in_ok-second-in-Pointers
build_operator-returns-in_ok-second-in-Pointers t c =
    let i = c.in-Pointers in
    let laid = tree_in c.args.here.now.laid.now in
    let depth = c.args.here.now.depth in
    let path = c.args.here.now.path in
    let w = c.args.wanted in
    let b = so_far laid c.args.to.now in
    let b1 : Building = so_far laid c.build_value-in-Pointers.new.to in
    let first = value_as laid depth path _ i.left.value Want.Value b b b1 c.in_ok-first-in-Pointers.first
    c.deref-in-Pointers.ensures refl c.in_ok-first-in-Pointers.ensures in
    let m : Building = (value_at laid depth path (rvalue_tree i.left.value) Want.Value b).at in
    let b2 : Building = so_far laid c.build_value-in-Pointers-2.new.to in
    let second = value_as laid depth path _ i.right.value Want.Value b1 m b2 c.in_ok-second-in-Pointers.second
    c.deref-in-Pointers-2.ensures first.0 c.in_ok-second-in-Pointers.ensures in
    found_as _ _ _ _
    (same_three (λ (x y : ℕ) (z : Building). pointers_ends w i.equal i.place x y z)
    (c.temp_of-in-Pointers.ensures ∙ ap temp_of first.1) (c.temp_of-in-Pointers-2.ensures ∙ ap temp_of second.1)
    second.0
    ∙ sym (ap (λ (v : Rvalue). value_at laid depth path (rvalue_tree v) w b) i.is))
    c.pointers_ends.ensures

pub build_choice-returns-in_ok-second-in-And : goal.build_choice-returns-in_ok-second-in-And
build_choice-returns-in_ok-second-in-And t c =
    let i = c.in-And in
    let laid = tree_in c.args.here.now.laid.now in
    let depth = c.args.here.now.depth in
    let path = c.args.here.now.path in
    let w = c.args.wanted in
    let b = so_far laid c.args.to.now in
    let b1 : Building = so_far laid c.build_value-in-And.new.to in
    let first = value_as laid depth path _ i.left.value Want.Branch b b b1 c.in_ok-first-in-And.first
    c.deref-in-And.ensures refl c.in_ok-first-in-And.ensures in
    let m : Building = (value_at laid depth path (rvalue_tree i.left.value) Want.Branch b).at in
    let b2 : Building = so_far laid c.build_value-in-And-2.new.to in
    let second = value_as laid depth path _ i.right.value Want.Branch b1 m b2 c.in_ok-second-in-And.second
    c.deref-in-And-2.ensures first.0 c.in_ok-second-in-And.ensures in
    found_as _ _ _ _
    (same_three (λ (x y : ℕ) (z : Building). both_meet w x y z) first.2 second.2 second.0
    ∙ sym (ap (λ (v : Rvalue). value_at laid depth path (rvalue_tree v) w b) i.is))
    c.both_meet.ensures

pub build_choice-returns-in_ok-second-in-Or : goal.build_choice-returns-in_ok-second-in-Or
build_choice-returns-in_ok-second-in-Or t c =
    let i = c.in-Or in
    let laid = tree_in c.args.here.now.laid.now in
    let depth = c.args.here.now.depth in
    let path = c.args.here.now.path in
    let w = c.args.wanted in
    let b = so_far laid c.args.to.now in
    let b1 : Building = so_far laid c.build_value-in-Or.new.to in
    let first = value_as laid depth path _ i.left.value Want.Branch b b b1 c.in_ok-first-in-Or.first
    c.deref-in-Or.ensures refl c.in_ok-first-in-Or.ensures in
    let o : Outcome = value_at laid depth path (rvalue_tree i.left.value) Want.Branch b in
    let g : Building = so_far laid c.goto-in-Or.new.to in
    let gone : g ≡ goto o.other o.at = c.goto-in-Or.ensures
    ∙ same_two (λ (n : ℕ) (z : Building). goto n z) first.2 first.0 in
    let b2 : Building = so_far laid c.build_value-in-Or-2.new.to in
    let second = value_as laid depth path _ i.right.value Want.Branch g (goto o.other o.at) b2
    c.in_ok-second-in-Or.second
    c.deref-in-Or-2.ensures gone c.in_ok-second-in-Or.ensures in
    found_as _ _ _ _
    (same_four (λ (x y other : ℕ) (z : Building). either_meet w x y other z)
    (c.node-node-in-Or.ensures ∙ ap (λ (z : Building). z.node) first.0)
    (c.node-other.ensures ∙ ap (λ (z : Building). z.node) second.0) second.2 second.0
    ∙ sym (ap (λ (v : Rvalue). value_at laid depth path (rvalue_tree v) w b) i.is))
    c.either_meet.ensures

pub build_choice-returns-in_ok-other-in-Conditional : goal.build_choice-returns-in_ok-other-in-Conditional
build_choice-returns-in_ok-other-in-Conditional t c =
    let i = c.in-Conditional in
    let laid = tree_in c.args.here.now.laid.now in
    let depth = c.args.here.now.depth in
    let path = c.args.here.now.path in
    let w = c.args.wanted in
    let b = so_far laid c.args.to.now in
    let b1 : Building = so_far laid c.build_value-in-Conditional.new.to in
    let fork = value_as laid depth path _ i.condition.value Want.Branch b b b1 c.in_ok-fork-in-Conditional.fork
    c.deref-in-Conditional-3.ensures refl c.in_ok-fork-in-Conditional.ensures in
    let o : Outcome = value_at laid depth path (rvalue_tree i.condition.value) Want.Branch b in
    let b2 : Building = so_far laid c.build_value-in-Conditional-2.new.to in
    let one = value_as laid depth path _ i.first.value Want.Value b1 o.at b2 c.in_ok-one-in-Conditional.one
    c.deref-in-Conditional-4.ensures fork.0 c.in_ok-one-in-Conditional.ensures in
    let u : Outcome = value_at laid depth path (rvalue_tree i.first.value) Want.Value o.at in
    let has = has_value laid path (rvalue_tree i.first.value) in
    let has_is = c.has_value-has.ensures
    ∙ ap (λ (v : Rvalue). has_value laid path (rvalue_tree v)) c.deref-in-Conditional.ensures in
    let gives = c.gives_pointer-pointer.ensures
    ∙ ap (λ (v : Rvalue). gives_pointer laid (rvalue_tree v)) c.deref-in-Conditional-2.ensures in
    let k : Building = copied_if has (temp_of u.temp) u.at in
    let copied = c.in_ok-copied_if-in-Conditional.ensures
    ∙ same_three (λ (h : Bool) (x : ℕ) (z : Building). copied_if h x z) has_is
    (c.temp_of.ensures ∙ ap temp_of one.1) one.0 in
    let g : Building = so_far laid c.goto-in-Conditional.new.to in
    let gone : g ≡ goto o.other k = c.goto-in-Conditional.ensures
    ∙ same_two (λ (n : ℕ) (z : Building). goto n z) fork.2 copied in
    let b3 : Building = so_far laid c.build_value-in-Conditional-3.new.to in
    let other = value_as laid depth path _ i.second.value Want.Value g (goto o.other k) b3
    c.in_ok-other-in-Conditional.other
    c.deref-in-Conditional-5.ensures gone c.in_ok-other-in-Conditional.ensures in
    found_as _ _ _ _
    (same_six (λ (n x y : ℕ) (h q : Bool) (z : Building). choice_ends w h q i.place n x y z)
    (c.node-node-in-Conditional.ensures ∙ ap (λ (z : Building). z.node) copied)
    (c.temps-temp.ensures ∙ ap (λ (z : Building). z.temps) one.0)
    (c.temp_of-in-Conditional.ensures ∙ ap temp_of other.1) has_is gives other.0
    ∙ sym (ap (λ (v : Rvalue). value_at laid depth path (rvalue_tree v) w b) i.is))
    c.choice_ends.ensures

pub build_change-returns-in_ok-found-in-Assign : goal.build_change-returns-in_ok-found-in-Assign
build_change-returns-in_ok-found-in-Assign t c =
    let i = c.in-Assign in
    let laid = tree_in c.args.here.now.laid.now in
    let depth = c.args.here.now.depth in
    let path = c.args.here.now.path in
    let w = c.args.wanted in
    let b = so_far laid c.args.to.now in
    let b1 : Building = so_far laid c.build_address.new.to in
    let a : Given = address_at laid depth path (lvalue_tree i.target.value) b in
    let to = address_as laid depth path _ i.target.value b b b1 c.in_ok-address-in-Assign.address
    c.deref-in-Assign.ensures refl c.in_ok-address-in-Assign.ensures in
    let into_is = c.in_ok-into-in-Assign.ensures
    ∙ ap (λ (l : Lvalue). into laid path (lvalue_tree l)) c.deref.ensures in
    let b2 : Building = so_far laid c.build_value.new.to in
    let x = value_as laid depth path _ i.value.value Want.Value b1 a.at b2 c.in_ok-found-in-Assign.found
    c.deref-in-Assign-2.ensures to.0 c.in_ok-found-in-Assign.ensures in
    found_as _ _ _ _
    (same_four (λ (n : Into) (x y : ℕ) (z : Building). stored w i.scalar n i.place x y z) into_is to.1
    (c.temp_of.ensures ∙ ap temp_of x.1) x.0
    ∙ sym (ap (λ (v : Rvalue). value_at laid depth path (rvalue_tree v) w b) i.is))
    c.stored.ensures

pub build_change-returns-in_ok-found-in-Compound : goal.build_change-returns-in_ok-found-in-Compound
build_change-returns-in_ok-found-in-Compound t c =
    let i = c.in-Compound in
    let laid = tree_in c.args.here.now.laid.now in
    let depth = c.args.here.now.depth in
    let path = c.args.here.now.path in
    let w = c.args.wanted in
    let b = so_far laid c.args.to.now in
    let b1 : Building = so_far laid c.build_held.new.to in
    let h = c.in_ok-held-in-Compound.held in
    let a : Given = address_at laid depth path (lvalue_tree i.target.value) b in
    let v : Given = loaded i.volatile (Scalars.Int i.cell) (lvalue_place (lvalue_tree i.target.value)) a.temp a.at in
    let held = held_as laid depth path i.volatile (Scalars.Int i.cell) _ i.target.value b b1 h
    c.deref-in-Compound.ensures c.in_ok-held-in-Compound.ensures in
    let b2 : Building = so_far laid c.build_value-in-Compound.new.to in
    let x = value_as laid depth path _ i.value.value Want.Bare b1 v.at b2 c.in_ok-found-in-Compound.found
    c.deref-in-Compound-2.ensures held.2 c.in_ok-found-in-Compound.ensures in
    found_as _ _ _ _
    (same_two (λ (n : Into) (e : Conversion). compound_ends w i.operator i.cell i.of n i.place e h.address h.value
    c.temp_of-in-Compound.result b2) held.0
    (c.implied.ensures ∙ ap (λ (v : Rvalue). implied (rvalue_tree v)) c.deref-in-Compound-3.ensures)
    ∙ same_four (λ (x y z : ℕ) (q : Building). compound_ends w i.operator i.cell i.of
    (into laid path (lvalue_tree i.target.value)) i.place (implied (rvalue_tree i.value.value)) x y z q) held.1 held.3
    (c.temp_of-in-Compound.ensures ∙ ap temp_of x.1) x.0
    ∙ sym (ap (λ (v : Rvalue). value_at laid depth path (rvalue_tree v) w b) i.is))
    c.compound_ends.ensures

pub build_change-returns-in_ok-found-in-CompoundMove : goal.build_change-returns-in_ok-found-in-CompoundMove
build_change-returns-in_ok-found-in-CompoundMove t c =
    let i = c.in-CompoundMove in
    let laid = tree_in c.args.here.now.laid.now in
    let depth = c.args.here.now.depth in
    let path = c.args.here.now.path in
    let w = c.args.wanted in
    let b = so_far laid c.args.to.now in
    let b1 : Building = so_far laid c.build_held-in-CompoundMove.new.to in
    let h = c.in_ok-held-in-CompoundMove.held in
    let a : Given = address_at laid depth path (lvalue_tree i.target.value) b in
    let v : Given = loaded false (Scalars.Pointer i.class) (lvalue_place (lvalue_tree i.target.value)) a.temp a.at in
    let held = held_as laid depth path false (Scalars.Pointer i.class) _ i.target.value b b1 h
    c.deref-in-CompoundMove.ensures c.in_ok-held-in-CompoundMove.ensures in
    let b2 : Building = so_far laid c.build_value-in-CompoundMove.new.to in
    let x = value_as laid depth path _ i.value.value Want.Value b1 v.at b2 c.in_ok-found-in-CompoundMove.found
    c.deref-in-CompoundMove-2.ensures held.2 c.in_ok-found-in-CompoundMove.ensures in
    found_as _ _ _ _
    (same_five (λ (n : Into) (x y z : ℕ) (q : Building).
    compound_move_ends w i.minus i.cells i.class n i.place x y z q)
    held.0 held.1 held.3 (c.temp_of-by.ensures ∙ ap temp_of x.1) x.0
    ∙ sym (ap (λ (v : Rvalue). value_at laid depth path (rvalue_tree v) w b) i.is))
    c.compound_move_ends.ensures

pub build_step-returns-in_ok-held-in-Step : goal.build_step-returns-in_ok-held-in-Step
build_step-returns-in_ok-held-in-Step t c =
    let i = c.in-Step in
    let laid = tree_in c.args.here.now.laid.now in
    let depth = c.args.here.now.depth in
    let path = c.args.here.now.path in
    let w = c.args.wanted in
    let b = so_far laid c.args.to.now in
    let b1 : Building = so_far laid c.build_held.new.to in
    let h = c.in_ok-held-in-Step.held in
    let a : Given = address_at laid depth path (lvalue_tree i.target.value) b in
    let v : Given = loaded i.volatile (Scalars.Int i.cell) (lvalue_place (lvalue_tree i.target.value)) a.temp a.at in
    let held = held_as laid depth path i.volatile (Scalars.Int i.cell) _ i.target.value b b1 h
    c.deref.ensures c.in_ok-held-in-Step.ensures in
    found_as _ _ _ _
    (same_five (λ (o : BinOp) (n : Into) (x y : ℕ) (q : Building).
    unit_step_ends w i.step.postfix o i.cell i.of n i.place x y q)
    c.step_operator.ensures held.0 held.1 held.3 held.2
    ∙ sym (ap (λ (v : Rvalue). value_at laid depth path (rvalue_tree v) w b) i.is))
    c.unit_step_ends.ensures

pub build_step-returns-in_ok-held-in-StepMove : goal.build_step-returns-in_ok-held-in-StepMove
build_step-returns-in_ok-held-in-StepMove t c =
    let i = c.in-StepMove in
    let laid = tree_in c.args.here.now.laid.now in
    let depth = c.args.here.now.depth in
    let path = c.args.here.now.path in
    let w = c.args.wanted in
    let b = so_far laid c.args.to.now in
    let b1 : Building = so_far laid c.build_held-in-StepMove.new.to in
    let h = c.in_ok-held-in-StepMove.held in
    let a : Given = address_at laid depth path (lvalue_tree i.target.value) b in
    let v : Given = loaded false (Scalars.Pointer i.class) (lvalue_place (lvalue_tree i.target.value)) a.temp a.at in
    let held = held_as laid depth path false (Scalars.Pointer i.class) _ i.target.value b b1 h
    c.deref-in-StepMove.ensures c.in_ok-held-in-StepMove.ensures in
    found_as _ _ _ _
    (same_four (λ (n : Into) (x y : ℕ) (q : Building).
    pointer_step_ends w i.step.postfix i.step.minus i.cells i.class n i.place x y q)
    held.0 held.1 held.3 held.2
    ∙ sym (ap (λ (v : Rvalue). value_at laid depth path (rvalue_tree v) w b) i.is))
    c.pointer_step_ends.ensures

pub build_value-returns-in_ok-second-in-Comma : goal.build_value-returns-in_ok-second-in-Comma
build_value-returns-in_ok-second-in-Comma t c =
    let i = c.in-Comma in
    let laid = tree_in c.args.here.now.laid.now in
    let depth = c.args.here.now.depth in
    let path = c.args.here.now.path in
    let w = c.args.wanted in
    let b = so_far laid c.args.to.now in
    let b1 : Building = so_far laid c.build_value-in-Comma.new.to in
    let first = value_as laid depth path _ i.left.value Want.Value b b b1 c.in_ok-_first-in-Comma._first
    c.deref-in-Comma-3.ensures refl c.in_ok-_first-in-Comma.ensures in
    let m : Building = (value_at laid depth path (rvalue_tree i.left.value) Want.Value b).at in
    let b2 : Building = so_far laid c.build_value-in-Comma-2.new.to in
    let second = value_as laid depth path _ i.right.value Want.Value b1 m b2 c.in_ok-second-in-Comma.second
    c.deref-in-Comma-4.ensures first.0 c.in_ok-second-in-Comma.ensures in
    let y : Outcome = value_at laid depth path (rvalue_tree i.right.value) Want.Value m in
    found_as _ _ _ _
    (same_three (λ (q : Bool) (o : Option ℕ) (z : Building). ends w q i.place o z)
    (c.gives_pointer-pointer.ensures
    ∙ ap (λ (v : Rvalue). gives_pointer laid (rvalue_tree v)) c.deref-in-Comma-2.ensures)
    (c.temp_if-temp.ensures ∙ same_two (λ (h : Bool) (n : ℕ). temp_if h n)
    (c.has_value-has.ensures ∙ ap (λ (v : Rvalue). has_value laid path (rvalue_tree v)) c.deref-in-Comma.ensures)
    (c.temp_of.ensures ∙ ap temp_of second.1)) second.0
    ∙ sym (ap (λ (v : Rvalue). value_at laid depth path (rvalue_tree v) w b) i.is))
    c.ends-in-Comma.ensures

pub build_value-returns-in_ok-found-in-Convert : goal.build_value-returns-in_ok-found-in-Convert
build_value-returns-in_ok-found-in-Convert t c =
    let i = c.in-Convert in
    let laid = tree_in c.args.here.now.laid.now in
    let depth = c.args.here.now.depth in
    let path = c.args.here.now.path in
    let w = c.args.wanted in
    let b = so_far laid c.args.to.now in
    let b1 : Building = so_far laid c.build_value-in-Convert.new.to in
    let x = value_as laid depth path _ i.value.value Want.Value b b b1 c.in_ok-found-in-Convert.found
    c.deref-in-Convert-2.ensures refl c.in_ok-found-in-Convert.ensures in
    found_as _ _ _ _
    (same_four (λ (s : Bool) (q : Conversion) (o : Option ℕ) (z : Building). conversion_ends w s i.place q o z)
    (c.is_same_place-is_same.ensures ∙ ap (is_same_place i.place) (c.rvalue_place.ensures
    ∙ ap (λ (v : Rvalue). rvalue_place (rvalue_tree v)) c.deref-in-Convert.ensures))
    c.conversion-conversion.ensures x.1 x.0
    ∙ sym (ap (λ (v : Rvalue). value_at laid depth path (rvalue_tree v) w b) i.is))
    c.conversion_ends.ensures

pub build_address-returns-in_ok-by-in-Element : goal.build_address-returns-in_ok-by-in-Element
build_address-returns-in_ok-by-in-Element t c =
    let i = c.in-Element in
    let laid = tree_in c.args.here.now.laid.now in
    let depth = c.args.here.now.depth in
    let path = c.args.here.now.path in
    let b = so_far laid c.args.to.now in
    let b1 : Building = so_far laid c.build_address.new.to in
    let a : Given = address_at laid depth path (lvalue_tree i.array.value) b in
    let from = address_as laid depth path _ i.array.value b b b1 c.in_ok-from-in-Element.from
    c.deref.ensures refl c.in_ok-from-in-Element.ensures in
    let b2 : Building = so_far laid c.build_value.new.to in
    let by = value_as laid depth path _ i.index.value Want.Value b1 a.at b2 c.in_ok-by-in-Element.by
    c.deref-in-Element.ensures from.0 c.in_ok-by-in-Element.ensures in
    given_as _ _ _ _
    (same_four (λ (k x y : ℕ) (z : Building). new_value (Op.Index k x i.length i.cells y i.place) z)
    (c.temps.ensures ∙ ap (λ (z : Building). z.temps) by.0) from.1
    (c.temp_of.ensures ∙ ap temp_of by.1) by.0
    ∙ sym (ap (λ (l : Lvalue). address_at laid depth path (lvalue_tree l) b) i.is))
    c.new_value.ensures

pub build_address-returns-in_ok-from-in-Member : goal.build_address-returns-in_ok-from-in-Member
build_address-returns-in_ok-from-in-Member t c =
    let i = c.in-Member in
    let laid = tree_in c.args.here.now.laid.now in
    let depth = c.args.here.now.depth in
    let path = c.args.here.now.path in
    let b = so_far laid c.args.to.now in
    let b1 : Building = so_far laid c.build_address-in-Member.new.to in
    let a : Given = address_at laid depth path (lvalue_tree i.structure.value) b in
    let from = address_as laid depth path _ i.structure.value b b b1 c.in_ok-from-in-Member.from
    c.deref-in-Member.ensures refl c.in_ok-from-in-Member.ensures in
    given_as _ _ _ _
    (same_three (λ (k x : ℕ) (z : Building). new_value (Op.Offset k x i.cell) z)
    (c.temps-in-Member.ensures ∙ ap (λ (z : Building). z.temps) from.0) from.1 from.0
    ∙ sym (ap (λ (l : Lvalue). address_at laid depth path (lvalue_tree l) b) i.is))
    c.new_value-in-Member.ensures

pub build_address-returns-in_ok-from-in-Pointed : goal.build_address-returns-in_ok-from-in-Pointed
build_address-returns-in_ok-from-in-Pointed t c =
    let i = c.in-Pointed in
    let laid = tree_in c.args.here.now.laid.now in
    let depth = c.args.here.now.depth in
    let path = c.args.here.now.path in
    let b = so_far laid c.args.to.now in
    let b1 : Building = so_far laid c.build_value-in-Pointed.new.to in
    let from = value_as laid depth path _ i.pointer.value Want.Value b b b1 c.in_ok-from-in-Pointed.from
    c.deref-in-Pointed.ensures refl c.in_ok-from-in-Pointed.ensures in
    given_as _ _ _ _
    (same_two (λ (x : ℕ) (z : Building). new_value (Op.Deref z.temps x i.target path i.place) z)
    (c.temp_of-in-Pointed.ensures ∙ ap temp_of from.1) from.0
    ∙ sym (ap (λ (l : Lvalue). address_at laid depth path (lvalue_tree l) b) i.is))
    c.followed.ensures

pub build_address-returns-in_ok-from-in-Arrow : goal.build_address-returns-in_ok-from-in-Arrow
build_address-returns-in_ok-from-in-Arrow t c =
    let i = c.in-Arrow in
    let laid = tree_in c.args.here.now.laid.now in
    let depth = c.args.here.now.depth in
    let path = c.args.here.now.path in
    let b = so_far laid c.args.to.now in
    let b1 : Building = so_far laid c.build_value-in-Arrow.new.to in
    let from = value_as laid depth path _ i.pointer.value Want.Value b b b1 c.in_ok-from-in-Arrow.from
    c.deref-in-Arrow.ensures refl c.in_ok-from-in-Arrow.ensures in
    given_as _ _ _ _
    (same_two (λ (x : ℕ) (z : Building). pointed_part path x i.target i.cell i.place z)
    (c.temp_of-in-Arrow.ensures ∙ ap temp_of from.1) from.0
    ∙ sym (ap (λ (l : Lvalue). address_at laid depth path (lvalue_tree l) b) i.is))
    c.pointed_part.ensures

pub build_address-returns-in_ok-by-in-Subscript : goal.build_address-returns-in_ok-by-in-Subscript
build_address-returns-in_ok-by-in-Subscript t c =
    let i = c.in-Subscript in
    let laid = tree_in c.args.here.now.laid.now in
    let depth = c.args.here.now.depth in
    let path = c.args.here.now.path in
    let b = so_far laid c.args.to.now in
    let b1 : Building = so_far laid c.build_value-in-Subscript.new.to in
    let from = value_as laid depth path _ i.pointer.value Want.Value b b b1 c.in_ok-from-in-Subscript.from
    c.deref-in-Subscript.ensures refl c.in_ok-from-in-Subscript.ensures in
    let m : Building = (value_at laid depth path (rvalue_tree i.pointer.value) Want.Value b).at in
    let b2 : Building = so_far laid c.build_value-in-Subscript-2.new.to in
    let by = value_as laid depth path _ i.index.value Want.Value b1 m b2 c.in_ok-by-in-Subscript.by
    c.deref-in-Subscript-2.ensures from.0 c.in_ok-by-in-Subscript.ensures in
    given_as _ _ _ _
    (same_three (λ (x y : ℕ) (z : Building). pointed_element path x i.cells y i.target i.place z)
    (c.temp_of-from.ensures ∙ ap temp_of from.1) (c.temp_of-by.ensures ∙ ap temp_of by.1) by.0
    ∙ sym (ap (λ (l : Lvalue). address_at laid depth path (lvalue_tree l) b) i.is))
    c.pointed_element.ensures
