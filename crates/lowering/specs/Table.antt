-- The lowering table: for each form of an expression and of a statement its operations in order.
use Rattle.std.specs.Prelude.{ℕ, zero, suc, pos, ◌==◌, ◌&&◌, Bool, true, false, if◌then◌else◌, List, [], ◌∷◌, Option}
use Rattle.std.specs.Prelude.{Some, None}
use Rattle.concrete_steps.specs.tm_cint.declared.int_types.IntType.{IntType}
use Rattle.concrete_steps.specs.tm_cint.declared.int_types.IntType.TheVariants as Ints
use Rattle.concrete_steps.specs.tm_cint.declared.operators.BinOp.{BinOp}
use Rattle.concrete_steps.specs.tm_cint.Conversions.{represents_all}
use Rattle.concrete_steps.specs.tm_terms.declared.places.Place.{Place}
use Rattle.concrete_steps.specs.tm_typed.declared.types.Scalar.{Scalar}
use Rattle.concrete_steps.specs.tm_typed.declared.types.Scalar.TheVariants as Scalars
use Rattle.concrete_steps.specs.tm_typed.declared.types.CType.{CType}
use Rattle.concrete_steps.specs.tm_typed.declared.types.CType.TheVariants as Types
use Rattle.concrete_steps.specs.tm_typed.declared.expressions.Step.{Step as StepBy}
use Rattle.concrete_steps.specs.tm_typed.declared.scopes.ObjectNumber.TheVariants as Numbers
use Rattle.concrete_steps.specs.tm_typed.Rules.{is_comparison}
use Rattle.concrete_steps.specs.tm_typed.TypedTrees.{RvalueTree, a_constant, a_folded, a_null, a_load, an_address}
use Rattle.concrete_steps.specs.tm_typed.TypedTrees.{a_structure}
use Rattle.concrete_steps.specs.tm_typed.TypedTrees.{the_same, a_unary, a_binary, a_comparison_of_pointers, a_move}
use Rattle.concrete_steps.specs.tm_typed.TypedTrees.{a_not, an_and}
use Rattle.concrete_steps.specs.tm_typed.TypedTrees.{an_or, a_choice, an_assignment, a_compound, a_compound_move}
use Rattle.concrete_steps.specs.tm_typed.TypedTrees.{a_unit_step}
use Rattle.concrete_steps.specs.tm_typed.TypedTrees.{a_pointer_step, a_function_call, an_input_value, a_probe, a_comma}
use Rattle.concrete_steps.specs.tm_typed.TypedTrees.{a_conversion}
use Rattle.concrete_steps.specs.tm_typed.TypedTrees.{a_discard, LvalueTree, an_object, an_element, a_pointed_element}
use Rattle.concrete_steps.specs.tm_typed.TypedTrees.{a_pointed}
use Rattle.concrete_steps.specs.tm_typed.TypedTrees.{an_arrow, a_part, RvalueTrees, no_rvalues, and_rvalue}
use Rattle.concrete_steps.specs.tm_typed.TypedTrees.{lvalue_place}
use Rattle.concrete_steps.specs.tm_typed.TypedStatements.{GivenTree, LocalInitialiserTree, LocalTree, TypedTree}
use Rattle.concrete_steps.specs.tm_typed.TypedStatements.{evaluates, declares}
use Rattle.concrete_steps.specs.tm_typed.TypedStatements.{runs_block, branches, branches_else, loops_while, loops_do}
use Rattle.concrete_steps.specs.tm_typed.TypedStatements.{loops_for}
use Rattle.concrete_steps.specs.tm_typed.TypedStatements.{selects, breaks, continues, returns, locks, unlocks, yields}
use Rattle.concrete_steps.specs.tm_typed.TypedStatements.{TypedTrees}
use Rattle.concrete_steps.specs.tm_typed.TypedStatements.{no_statements, and_statement, TypedCase, a_label}
use Rattle.concrete_steps.specs.tm_typed.TypedStatements.{a_default_label}
use Rattle.concrete_steps.specs.tm_typed.TypedStatements.{a_labelled_step, TypedCases, no_typed_cases, and_typed_case}
use Rattle.concrete_steps.specs.tm_laid.TypeCells.{entry_of}
use Rattle.concrete_steps.specs.tm_laid.Layouts.{LaidTree, callee, object_of, object_at}
use Rattle.concrete_steps.specs.concrete_values.declared.values.Value.TheVariants.{Number, Pointer as APointer}
use Rattle.concrete_steps.specs.concrete_values.declared.values.Pointer.TheVariants as Pointers
use Rattle.flow_graph.specs.declared.operations.Test.{Test}
use Rattle.flow_graph.specs.declared.operations.Test.TheVariants as Tests
use Rattle.flow_graph.specs.declared.operations.Into.{Into}
use Rattle.flow_graph.specs.declared.operations.Into.TheVariants as Intos
use Rattle.flow_graph.specs.declared.operations.Operation.{Operation}
use Rattle.flow_graph.specs.declared.operations.Operation.TheVariants as Op
use Rattle.concrete_steps.specs.Places.{rvalue_place, is_pointer_scalar, result_type, gives_pointer}
use Rattle.concrete_steps.specs.NextAction.{scalar_at, step_operator, is_given, rest_of, function_at}
use Rattle.lowering.specs.Steps.{Steps, no_more, first_then, Step, operate, value_of, only_do, truth_of, choose}
use Rattle.lowering.specs.Steps.{choose_only, call_of, Inputs, no_inputs, and_input, Code, code, Fork, fork_by}
use Rattle.lowering.specs.Steps.{converse, both_of, either_of, Plan, nothing_more, in_turn, all_steps, one_of}
use Rattle.lowering.specs.Steps.{loop_while, loop_stepping, loop_until, select, break_off, go_on, give_back, Parts}
use Rattle.lowering.specs.Steps.{no_parts, labelled, by_default, and_plan}

-- ## Conversions

-- a conversion makes an operation where the type has not all values of the one before
abbrev pub Conversion : Type 0
Conversion = Option (IntType × IntType)

abbrev pub conversion : IntType → IntType → Conversion
conversion from to = if represents_all to from then None else Some (from, to)

-- a variable is converted, where that makes an operation
abbrev pub convert_then : Conversion → ℕ → Steps → Steps
convert_then None v rest = rest
convert_then (Some c) v rest = first_then (operate (Op.Convert 0 c.0 c.1 v)) rest

-- the variable of the converted value, where n variables stand before, and how many there are then
abbrev pub converted_at : Conversion → ℕ → ℕ → ℕ
converted_at None v n = v
converted_at (Some c) v n = n

abbrev pub more_after : Conversion → ℕ → ℕ
more_after None n = n
more_after (Some c) n = suc n

abbrev pub is_same_place : Place → Place → Bool
is_same_place p q = (p.line == q.line) && (p.col == q.col)

-- Operands are converted to the type in which their operator works once all of them are evaluated. Such a conversion
-- stands at the place of its operand; one by a cast stands at the cast, and belongs to the operand.
abbrev pub implied : RvalueTree → Conversion
implied (a_conversion from to e p) = if is_same_place p (rvalue_place e) then conversion from to else None
implied e = None

-- ## Expressions

-- what an expression is lowered to: for its value; for its value without an implied conversion around it; as a branch
pub record Codes : Type 0 where
  pub value : Code
  pub bare : Code
  pub fork : Fork

-- an expression with this value, where a pointer is tested once it is known to be usable
abbrev pub valued : Bool → Place → Code → Codes
valued false p c = record { value = c; bare = c; fork = fork_by (first_then (value_of c) no_more) (Tests.Truth true 0) }
valued true p c = record {
  value = c;
  bare = c;
  fork = fork_by (first_then (value_of c) (first_then (operate (Op.Usable 0 p)) no_more)) (Tests.Truth true 0);
}

-- a truth, by control flow
abbrev pub decided : Fork → Codes
decided f = record {
  value = code (first_then (truth_of f) no_more) (Some 0);
  bare = code (first_then (truth_of f) no_more) (Some 0);
  fork = f;
}

abbrev pub tested_by : Code → Steps → Test → Codes
tested_by c steps test = record { value = c; bare = c; fork = fork_by steps test }

-- one operation
abbrev pub operation : Operation → Code
operation op = code (first_then (operate op) no_more) (Some 0)

-- both operands, then their implied conversions, and the rest with their variables and the number of variables
abbrev pub operands : Code → Conversion → Code → Conversion → (ℕ → ℕ → ℕ → Steps) → Steps
operands l cl r cr rest =
    first_then (value_of l) (first_then (value_of r)
    (convert_then cl 0 (convert_then cr 1
    (rest (converted_at cl 0 2) (converted_at cr 1 (more_after cl 2)) (more_after cr (more_after cl 2))))))

abbrev pub binary_code : BinOp → IntType → Place → Code → Conversion → Code → Conversion → Code
binary_code op t p l cl r cr = code
    (operands l cl r cr (λ x y n. first_then (operate (Op.Bin 0 op t x y p)) no_more))
    (Some (more_after cr (more_after cl 2)))

abbrev pub comparison_steps : Code → Conversion → Code → Conversion → Steps
comparison_steps l cl r cr = operands l cl r cr (λ x y n. no_more)

-- the operands of a comparison are those variables
abbrev pub comparison_test : BinOp → IntType → Conversion → Conversion → Test
comparison_test op t cl cr = Tests.Numbers op t (converted_at cl 0 2) (converted_at cr 1 (more_after cl 2))

abbrev pub binary_codes : Bool → BinOp → IntType → Place → Code → Conversion → Code → Conversion → Codes
binary_codes true op t p l cl r cr = tested_by (binary_code op t p l cl r cr) (comparison_steps l cl r cr)
    (comparison_test op t cl cr)
binary_codes false op t p l cl r cr = valued false p (binary_code op t p l cl r cr)

-- pointers are compared once both are known to be usable
abbrev pub usable_steps : Place → Code → Code → Steps → Steps
usable_steps p l r rest =
    first_then (value_of l) (first_then (value_of r)
    (first_then (operate (Op.Usable 0 p)) (first_then (operate (Op.Usable 1 p)) rest)))

abbrev pub pointers_codes : Bool → Place → Code → Code → Codes
pointers_codes equal p l r = tested_by
    (code (usable_steps p l r (first_then (operate (Op.BinPointers 0 equal 0 1)) no_more)) (Some 2))
    (usable_steps p l r no_more)
    (Tests.Pointers equal 0 1)

abbrev pub move_code : Bool → ℕ → Bool → Place → Code → Code → Code
move_code minus cells false p e i =
    code (first_then (value_of e) (first_then (value_of i)
    (first_then (operate (Op.Move 0 0 cells minus 1 p)) no_more))) (Some 2)
move_code minus cells true p e i =
    code (first_then (value_of i) (first_then (value_of e)
    (first_then (operate (Op.Move 0 1 cells minus 0 p)) no_more))) (Some 2)

abbrev pub loading : Bool → Scalar → ℕ → Place → Operation
loading false s a p = Op.Load 0 a s p
loading true s a p = Op.LoadAny 0 a s p

abbrev pub load_code : Bool → Scalar → Place → Code → Code
load_code volatile s p a = code (first_then (value_of a) (first_then (operate (loading volatile s 0 p)) no_more))
    (Some 1)

abbrev pub choice_code : Bool → Fork → Code → Code → Code
choice_code true f x y = code (first_then (choose f x y) no_more) (Some 0)
choice_code false f x y = code (first_then (choose_only f x y) no_more) None

abbrev pub comma_code : Bool → Code → Code → Code
comma_code true l r = code (first_then (only_do l) (first_then (value_of r) no_more)) (Some 0)
comma_code false l r = code (first_then (only_do l) (first_then (only_do r) no_more)) None

abbrev pub assignment_code : Scalar → Into → Place → Code → Code → Code
assignment_code s into p a e =
    code (first_then (value_of a) (first_then (value_of e) (first_then (operate (Op.Store 0 1 s into p)) no_more)))
    (Some 1)

-- behind an address 0 and its operands x and y, where n variables stand: the operator, the conversion to the type of
-- the cell, and the store
abbrev pub stored_steps : BinOp → IntType → IntType → Conversion → Into → Place → ℕ → ℕ → ℕ → Steps
stored_steps op cell of back into p x y n =
    first_then (operate (Op.Bin 0 op of x y p))
    (convert_then back n
    (first_then (operate (Op.Store 0 (converted_at back n (suc n)) (Scalars.Int cell) into p)) no_more))

-- behind an address 0, what it holds 1 and an operand 2: their conversions, the operator, and the store
abbrev pub changed_steps : Conversion → Conversion → Conversion → BinOp → IntType → IntType → Into → Place → Steps
changed_steps cx cy back op cell of into p =
    convert_then cx 1 (convert_then cy 2
    (stored_steps op cell of back into p (converted_at cx 1 3) (converted_at cy 2 (more_after cx 3))
    (more_after cy (more_after cx 3))))

-- the variable of what is stored there
abbrev pub changed_at : Conversion → Conversion → Conversion → ℕ
changed_at cx cy back = converted_at back (more_after cy (more_after cx 3)) (suc (more_after cy (more_after cx 3)))

-- `op=` on an integer, with these conversions of what is loaded and of what is stored
abbrev pub compound_with : Conversion → Conversion → BinOp → IntType → IntType → Bool → Into → Place → Place → Code
    → Code → Conversion → Code
compound_with cx back op cell of volatile into load_place p a e ce = code
    (first_then (value_of a) (first_then (operate (loading volatile (Scalars.Int cell) 0 load_place))
    (first_then (value_of e)
    (changed_steps cx ce back op cell of into p))))
    (Some (changed_at cx ce back))

abbrev pub compound_code : BinOp → IntType → IntType → Bool → Into → Place → Place → Code → Code → Conversion → Code
compound_code op cell of = compound_with (conversion cell of) (conversion of cell) op cell of

-- `++` and `--` on an integer: the value is what was loaded, or what is stored
abbrev pub unit_step_with : Conversion → Conversion → Conversion → BinOp → Bool → IntType → IntType → Bool → Into
    → Place → Place → Code → Code
unit_step_with cx c1 back op postfix cell of volatile into load_place p a = code
    (first_then (value_of a) (first_then (operate (loading volatile (Scalars.Int cell) 0 load_place))
    (first_then (operate (Op.Const 0 (Number (pos 1))))
    (changed_steps cx c1 back op cell of into p))))
    (Some (if postfix then 1 else changed_at cx c1 back))

abbrev pub unit_step_code : StepBy → IntType → IntType → Bool → Into → Place → Place → Code → Code
unit_step_code s cell of = unit_step_with (conversion cell of) (conversion Ints.Int of) (conversion of cell)
    (step_operator s) s.postfix cell of

-- `+=`, `-=`, `++` and `--` on a pointer
abbrev pub moved_code : Bool → ℕ → ℕ → Into → Place → Place → Code → Step → ℕ → Code
moved_code minus cells class into load_place p a by result = code
    (first_then (value_of a) (first_then (operate (loading false (Scalars.Pointer class) 0 load_place)) (first_then by
    (first_then (operate (Op.Move 0 1 cells minus 2 p))
    (first_then (operate (Op.Store 0 3 (Scalars.Pointer class) into p)) no_more)))))
    (Some result)

abbrev pub converted_code : Conversion → Code → Code
converted_code c e = code (first_then (value_of e) (convert_then c 0 no_more)) (Some (converted_at c 0 1))

abbrev pub call_code : Bool → ℕ → Place → Inputs → Code
call_code true site p inputs = code (first_then (call_of true site inputs p) no_more) (Some 0)
call_code false site p inputs = code (first_then (call_of false site inputs p) no_more) None

-- a function with a result of this type gives a value
abbrev pub is_value_type : CType → Bool
is_value_type (Types.Int t) = true
is_value_type (Types.Pointer q) = true
is_value_type _ = false

module _ (laid : LaidTree) (path : ℕ) where
  -- whether the call at a site gives a value
  abbrev pub call_has_value : ℕ → Bool
  call_has_value site = is_value_type (result_type laid (function_at laid (callee laid path site)))

  -- whether an expression has a value: a structure, a call of a `void` function and a cast to `void` have none
  abbrev pub has_value : RvalueTree → Bool
  has_value (a_structure l) = false
  has_value (the_same e p) = has_value e
  has_value (a_choice c x y p) = has_value x
  has_value (a_function_call f s es p) = call_has_value s
  has_value (a_comma l r p) = has_value r
  has_value (a_discard e p) = false
  has_value e = true

  -- where a store into an lvalue goes
  abbrev pub into : LvalueTree → Into
  into (an_object o p) = Intos.Object (object_of laid path o)
  into (an_element l i n c p) = into l
  into (a_pointed_element e i c t p) = Intos.Pointed
  into (a_pointed e t p) = Intos.Pointed
  into (an_arrow e t c p) = Intos.Pointed
  into (a_part l c p) = into l

  abbrev mutual
    pub codes : RvalueTree → Codes
    codes (a_constant t z p) = valued false p (operation (Op.Const 0 (Number z)))
    codes (a_folded z e) = record {
      value = operation (Op.Const 0 (Number z));
      bare = operation (Op.Const 0 (Number z));
      fork = (codes e).fork;
    }
    codes (a_null p) = valued true p (operation (Op.Const 0 (APointer Pointers.Null)))
    codes (a_load s volatile l) = valued (is_pointer_scalar s) (lvalue_place l)
        (load_code volatile s (lvalue_place l) (address_code l))
    codes (an_address l p) = valued true p (address_code l)
    codes (a_structure l) = valued false (lvalue_place l) (code (first_then (only_do (address_code l)) no_more) None)
    codes (the_same e p) = valued (gives_pointer laid e) p (codes e).value
    codes (a_unary o t e p) = valued false p
        (code (first_then (value_of (codes e).value) (first_then (operate (Op.Un 0 o t 0 p)) no_more)) (Some 1))
    codes (a_binary op t l r p) = binary_codes (is_comparison op) op t p (codes l).bare (implied l) (codes r).bare
        (implied r)
    codes (a_comparison_of_pointers equal l r p) = pointers_codes equal p (codes l).value (codes r).value
    codes (a_move minus cells first e i p) =
        valued true p (move_code minus cells first p (codes e).value (codes i).value)
    codes (a_not e p) = decided (converse (codes e).fork)
    codes (an_and l r p) = decided (both_of (codes l).fork (codes r).fork)
    codes (an_or l r p) = decided (either_of (codes l).fork (codes r).fork)
    codes (a_choice c x y p) = valued (gives_pointer laid x) p
        (choice_code (has_value x) (codes c).fork (codes x).value (codes y).value)
    codes (an_assignment s l e p) = valued (is_pointer_scalar s) p
        (assignment_code s (into l) p (address_code l) (codes e).value)
    codes (a_compound op cell of volatile l e p) =
        valued false p (compound_code op cell of volatile (into l) (lvalue_place l) p (address_code l) (codes e).bare
        (implied e))
    codes (a_compound_move minus cells class l e p) =
        valued true p (moved_code minus cells class (into l) (lvalue_place l) p (address_code l)
        (value_of (codes e).value) 3)
    codes (a_unit_step s cell of volatile l p) =
        valued false p (unit_step_code s cell of volatile (into l) (lvalue_place l) p (address_code l))
    codes (a_pointer_step s cells class l p) =
        valued true p (moved_code s.minus cells class (into l) (lvalue_place l) p (address_code l)
        (operate (Op.Const 0 (Number (pos 1)))) (if s.postfix then 1 else 3))
    codes (a_function_call f site es p) =
        valued (gives_pointer laid (a_function_call f site es p)) p
        (call_code (call_has_value site) site p (inputs es))
    codes (an_input_value low high p) = valued false p (operation (Op.Any 0 low high))
    codes (a_probe m p) = valued false p (operation (Op.Probe 0 m p))
    codes (a_comma l r p) = valued (gives_pointer laid r) p (comma_code (has_value r) (codes l).value (codes r).value)
    codes (a_conversion from to e p) =
        let c = converted_code (conversion from to) (codes e).value in
        record (valued false p c) { bare = if is_same_place p (rvalue_place e) then (codes e).value else c }
    codes (a_discard e p) = valued false p (code (first_then (only_do (codes e).value) no_more) None)

    -- the address of an lvalue
    pub address_code : LvalueTree → Code
    address_code (an_object o p) = operation (Op.Base 0 (object_of laid path o))
    address_code (an_element l i n c p) =
        code (first_then (value_of (address_code l))
        (first_then (value_of (codes i).value) (first_then (operate (Op.Index 0 0 n c 1 p)) no_more))) (Some 2)
    address_code (a_pointed_element e i c t p) =
        code (first_then (value_of (codes e).value) (first_then (value_of (codes i).value)
        (first_then (operate (Op.Move 0 0 c false 1 p)) (first_then (operate (Op.Deref 0 2 t path p)) no_more))))
        (Some 3)
    address_code (a_pointed e t p) =
        code (first_then (value_of (codes e).value) (first_then (operate (Op.Deref 0 0 t path p)) no_more)) (Some 1)
    address_code (an_arrow e t c p) =
        code (first_then (value_of (codes e).value)
        (first_then (operate (Op.Deref 0 0 t path p)) (first_then (operate (Op.Offset 0 1 c)) no_more))) (Some 2)
    address_code (a_part l c p) =
        code (first_then (value_of (address_code l)) (first_then (operate (Op.Offset 0 0 c)) no_more)) (Some 1)

    pub inputs : RvalueTrees → Inputs
    inputs no_rvalues = no_inputs
    inputs (and_rvalue e es) = and_input (codes e).value (inputs es)

  -- ## Statements

  -- a cell that no initialiser gives is zero, or null (C99 6.7.8)
  abbrev pub nothing_stored : Scalar → Code
  nothing_stored (Scalars.Int t) = operation (Op.Const 0 (Number (pos 0)))
  nothing_stored (Scalars.Pointer class) = operation (Op.Const 0 (APointer Pointers.Null))

  -- the value of a cell, which is zero or null unless it is given
  abbrev pub cell_value : Scalar → Bool → List GivenTree → Code
  cell_value s true (g ∷ gs) = (codes g.value).value
  cell_value s true [] = nothing_stored s
  cell_value s false gs = nothing_stored s

  -- a cell of a local object is stored: a scalar object at its own address
  abbrev pub cell_code : Bool → ℕ → Place → ℕ → Scalar → Code → Code
  cell_code true o p k s e = code
      (first_then (operate (Op.Base 0 o))
      (first_then (value_of e) (first_then (operate (Op.Store 0 1 s (Intos.Object o) p)) no_more))) None
  cell_code false o p k s e = code
      (first_then (operate (Op.Base 0 o)) (first_then (operate (Op.Offset 0 0 k)) (first_then (value_of e)
      (first_then (operate (Op.Store 1 2 s (Intos.Object o) p)) no_more)))) None

  abbrev pub is_scalar_object : ℕ → Bool
  is_scalar_object o = is_value_type (entry_of laid.file (object_at laid o).of.number).ctype

  -- the first cell of a scalar object
  abbrev pub is_alone : ℕ → ℕ → Bool
  is_alone o zero = is_scalar_object o
  is_alone o (suc k) = false

  -- so many cells of an object from this one on, in order; those that the initialiser gives stand in rising order
  abbrev pub cells_stored : ℕ → Place → ℕ → ℕ → List GivenTree → Steps → Steps
  cells_stored o p zero k gs rest = rest
  cells_stored o p (suc n) k gs rest =
      first_then (only_do (cell_code (is_alone o k) o p k (scalar_at laid o k)
      (cell_value (scalar_at laid o k) (is_given k gs) gs)))
      (cells_stored o p n (suc k) (rest_of (is_given k gs) gs) rest)

  abbrev pub initialised : ℕ → Option LocalInitialiserTree → Steps → Steps
  initialised o None rest = rest
  initialised o (Some i) rest = cells_stored o i.place (object_at laid o).cells 0 i.given rest

  -- a local object is cleared, and stored cell by cell where it has an initialiser
  abbrev pub local_steps : LocalTree → Steps → Steps
  local_steps l rest =
      let o = object_of laid path (Numbers.Local l.object) in
      first_then (operate (Op.Clear o)) (initialised o l.initialiser rest)

  abbrev pub locals_steps : List LocalTree → Steps
  locals_steps [] = no_more
  locals_steps (l ∷ ls) = local_steps l (locals_steps ls)

  abbrev pub effect_steps : Option RvalueTree → Steps
  effect_steps None = no_more
  effect_steps (Some e) = first_then (only_do (codes e).value) no_more

  abbrev pub optional_fork : Option RvalueTree → Option Fork
  optional_fork None = None
  optional_fork (Some e) = Some (codes e).fork

  abbrev pub optional_code : Option RvalueTree → Option Code
  optional_code None = None
  optional_code (Some e) = Some (codes e).value

  abbrev mutual
    pub plan : TypedTree → Plan
    plan (evaluates e) = all_steps (effect_steps e)
    plan (declares locals) = all_steps (locals_steps locals)
    plan (runs_block ss) = plans ss
    plan (branches c s) = one_of (codes c).fork (plan s) nothing_more
    plan (branches_else c s r) = one_of (codes c).fork (plan s) (plan r)
    plan (loops_while c s) = loop_while (codes c).fork (plan s)
    plan (loops_do s c) = loop_until (plan s) (codes c).fork
    plan (loops_for first c step s) =
        in_turn (plan first) (loop_stepping (optional_fork c) (effect_steps step) (plan s))
    plan (selects t e cases) = select (codes e).value (parts cases)
    plan breaks = break_off
    plan continues = go_on
    plan (returns e) = give_back (optional_code e)
    plan (locks m p) = all_steps (first_then (operate (Op.Lock m p)) no_more)
    plan (unlocks m p) = all_steps (first_then (operate (Op.Unlock m p)) no_more)
    plan yields = all_steps (first_then (operate Op.Yield) no_more)

    pub plans : TypedTrees → Plan
    plans no_statements = nothing_more
    plans (and_statement s ss) = in_turn (plan s) (plans ss)

    pub part_then : TypedCase → Parts → Parts
    part_then (a_label z p) rest = labelled z rest
    part_then (a_default_label p) rest = by_default rest
    part_then (a_labelled_step s) rest = and_plan (plan s) rest

    pub parts : TypedCases → Parts
    parts no_typed_cases = no_parts
    parts (and_typed_case c cs) = part_then c (parts cs)
