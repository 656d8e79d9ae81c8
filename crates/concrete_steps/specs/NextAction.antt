-- What a task does next: a plain interpreter of the typed tree, which takes what it loads, what is chosen, and that a
-- step is done, from a list of answers, and gives the action after the last of them. Each part of the program is told
-- what comes after it.
use Rattle.std.specs.Prelude.{ℕ, zero, suc, ◌==◌, pos, nat_lt, Bool, true, false, if◌then◌else◌, List, [], ◌∷◌}
use Rattle.std.specs.Prelude.{length, get_or, Result, Ok, Err, Option, Some, None}
use Rattle.tm_cint.specs.declared.Class.{Class}
use Rattle.tm_cint.specs.declared.int_types.IntType.{IntType}
use Rattle.tm_cint.specs.declared.operators.BinOp.{BinOp}
use Rattle.tm_cint.specs.declared.operators.BinOp.TheVariants as Ops
use Rattle.tm_cint.specs.IntTypes.{lo_of, hi_of}
use Rattle.tm_terms.specs.declared.places.Place.{Place}
use Rattle.concrete_values.specs.tm_typed.declared.types.CType.{CType}
use Rattle.concrete_values.specs.tm_typed.declared.types.CType.TheVariants as Types
use Rattle.concrete_values.specs.tm_typed.declared.types.Scalar.{Scalar}
use Rattle.concrete_values.specs.tm_typed.declared.types.Scalar.TheVariants as Scalars
use Rattle.concrete_values.specs.tm_typed.declared.expressions.Step.{Step}
use Rattle.concrete_values.specs.tm_typed.declared.scopes.ObjectNumber.TheVariants.{Local}
use Rattle.concrete_values.specs.tm_typed.TypedTrees.{RvalueTree, a_constant, a_folded, a_null, a_load, an_address}
use Rattle.concrete_values.specs.tm_typed.TypedTrees.{a_structure}
use Rattle.concrete_values.specs.tm_typed.TypedTrees.{the_same, a_unary, a_binary, a_comparison_of_pointers, a_move}
use Rattle.concrete_values.specs.tm_typed.TypedTrees.{a_not, an_and}
use Rattle.concrete_values.specs.tm_typed.TypedTrees.{an_or, a_choice, an_assignment, a_compound, a_compound_move}
use Rattle.concrete_values.specs.tm_typed.TypedTrees.{a_unit_step}
use Rattle.concrete_values.specs.tm_typed.TypedTrees.{a_pointer_step, a_function_call, an_input_value, a_probe, a_comma}
use Rattle.concrete_values.specs.tm_typed.TypedTrees.{a_conversion}
use Rattle.concrete_values.specs.tm_typed.TypedTrees.{a_discard, LvalueTree, an_object, an_element, a_pointed_element}
use Rattle.concrete_values.specs.tm_typed.TypedTrees.{a_pointed}
use Rattle.concrete_values.specs.tm_typed.TypedTrees.{an_arrow, a_part, lvalue_place, RvalueTrees, no_rvalues}
use Rattle.concrete_values.specs.tm_typed.TypedTrees.{and_rvalue}
use Rattle.concrete_values.specs.tm_typed.TypedStatements.{GivenTree, LocalInitialiserTree, LocalTree, TypedTree}
use Rattle.concrete_values.specs.tm_typed.TypedStatements.{evaluates, declares}
use Rattle.concrete_values.specs.tm_typed.TypedStatements.{runs_block, branches, branches_else, loops_while, loops_do}
use Rattle.concrete_values.specs.tm_typed.TypedStatements.{loops_for}
use Rattle.concrete_values.specs.tm_typed.TypedStatements.{selects, breaks, continues, returns, locks, unlocks, yields}
use Rattle.concrete_values.specs.tm_typed.TypedStatements.{TypedTrees}
use Rattle.concrete_values.specs.tm_typed.TypedStatements.{no_statements, and_statement, a_label, a_default_label}
use Rattle.concrete_values.specs.tm_typed.TypedStatements.{a_labelled_step, TypedCases, no_typed_cases, and_typed_case}
use Rattle.concrete_values.specs.tm_typed.Functions.{TypedBodyTree}
use Rattle.concrete_values.specs.tm_typed.Files.{TypedFunctionTree, no_typed_function}
use Rattle.concrete_values.specs.tm_typed.TypeRows.{is_pointer_type}
use Rattle.concrete_values.specs.tm_laid.Layouts.{LaidTree, path_at, object_at, cell_at, first_path, callee, object_of}
use Rattle.concrete_values.specs.tm_laid.Layouts.{cell_of}
use Rattle.concrete_values.specs.declared.values.Pointer.TheVariants as Pointers
use Rattle.concrete_values.specs.declared.values.Value.{Value}
use Rattle.concrete_values.specs.declared.values.Value.TheVariants.{Number, Pointer as APointer}
use Rattle.concrete_values.specs.declared.values.Answer.{Answer}
use Rattle.concrete_values.specs.declared.actions.Next.{Next}
use Rattle.concrete_values.specs.declared.actions.Next.TheVariants as Acts
use Rattle.concrete_values.specs.Values.{nothing, truth_value, is_true}
use Rattle.concrete_values.specs.Operators.{binary, unary, converted, is_case}
use Rattle.concrete_values.specs.Pointers.{base, part, element, moved, dereferenced, usable, is_compared}
use Rattle.concrete_values.specs.Actions.{load_at, store_at, clear_at, answer_of}
use Rattle.concrete_steps.specs.Places.{result_type, is_pointer_scalar, gives_pointer}

-- ## What comes after

-- what happens from some point on, with the answers that are left
abbrev pub After : Type 0
After = List Answer → Next

-- nothing follows: an answer to it does not fit
abbrev pub last : Next → After
last action [] = action
last action (a ∷ answers) = Acts.Misfit

abbrev pub fit_then : Option Value → (Value → After) → After
fit_then (Some v) go answers = go v answers
fit_then None go answers = Acts.Misfit

-- an action, and what comes after its answer
abbrev pub act_then : LaidTree → Next → (Value → After) → After
act_then laid action go [] = action
act_then laid action go (a ∷ answers) = fit_then (answer_of laid action a) go answers

-- what an operator gives, or its error at this place
abbrev pub result_then : Result Value Class → Place → (Value → After) → After
result_then (Ok v) p go = go v
result_then (Err class) p go = last (Acts.Fault class p)

-- ## Uses of an expression

-- an expression is used for its value, or to choose between two ways
pub data Use : Type 0 where
  as_value : (go : Value → After) → Use
  as_branch : (one other : After) → Use

-- a pointer that is tested must be usable
abbrev pub tested : Bool → Value → Result Value Class
tested true v = usable v
tested false v = Ok v

-- A value is used, which is a pointer where `pointer` is true: as a branch it is compared with 0 or null (C99 6.8.4.1).
abbrev pub value_used : Use → (pointer : Bool) → Place → Value → After
value_used (as_value go) pointer p v = go v
value_used (as_branch one other) pointer p v = result_then (tested pointer v) p (λ u. if is_true u then one else other)

-- the truth of a comparison, `!`, `&&` or `||` is used, whose value is 1 or 0
abbrev pub truth_used : Use → Bool → After
truth_used (as_value go) b = go (truth_value b)
truth_used (as_branch one other) b = if b then one else other

-- ## Objects

-- the type of a cell of an object
abbrev pub scalar_at : LaidTree → ℕ → ℕ → Scalar
scalar_at laid o k = (cell_at laid (cell_of laid o k)).scalar

-- zero, or the null pointer
abbrev pub zero_of : Scalar → Value
zero_of (Scalars.Int t) = Number (pos 0)
zero_of (Scalars.Pointer class) = APointer Pointers.Null

-- ## Calculations

abbrev pub converted_result : IntType → IntType → Result Value Class → Result Value Class
converted_result from to (Ok v) = Ok (converted from to v)
converted_result from to (Err class) = Err class

-- What `op=` stores where its cell holds x: the operator works in the type `of`, and its result is converted to that of
-- the cell (C99 6.5.16.2).
abbrev pub compound_result : BinOp → IntType → IntType → Value → Value → Result Value Class
compound_result op cell of x y = converted_result of cell (binary op of (converted cell of x) y)

-- the operator of `++`, or of `--`
abbrev pub step_operator : Step → BinOp
step_operator step = if step.minus then Ops.Sub else Ops.Add

-- the value of `++` or `--`: before its operand the new one, behind it the old one (C99 6.5.2.4, 6.5.3.1)
abbrev pub step_value : Step → Value → Value → Value
step_value step old new = if step.postfix then old else new

-- ## Expressions

-- Where an expression stands: the layout, the call path, and what a call does: the call at a site, with the values of
-- its arguments, at a place.
pub record Here : Type 0 where
  pub laid : LaidTree
  pub path : ℕ
  pub call : ℕ → List Value → Place → (Value → After) → After

-- the address of an object on the path
abbrev pub address_of : Here → ℕ → Value
address_of here o = base here.laid o

-- a store, whose value is what is stored
abbrev pub stored_then : LaidTree → Value → Scalar → Value → Place → (Value → After) → After
stored_then laid a s v p go = act_then laid (store_at a s v p) (λ u. go v)

-- Operands are evaluated from left to right; `&&`, `||`, `?:` and the comma as in C99 6.5.13 to 6.5.17. The second
-- operand of `&&` is evaluated where the first is true, that of `||` where it is not.
abbrev mutual
  pub expr_then : Here → RvalueTree → Use → After
  expr_then here (a_constant t z p) how = value_used how false p (Number z)
  expr_then here (a_folded z e) (as_value go) = go (Number z)
  expr_then here (a_folded z e) (as_branch one other) = expr_then here e (as_branch one other)
  expr_then here (a_null p) how = value_used how true p (APointer Pointers.Null)
  expr_then here (a_load s volatile l) how =
      address_then here l (λ a. act_then here.laid (load_at a s volatile (lvalue_place l))
      (value_used how (is_pointer_scalar s) (lvalue_place l)))
  expr_then here (an_address l p) how = address_then here l (value_used how true p)
  expr_then here (a_structure l) how = address_then here l (λ a. value_used how false (lvalue_place l) nothing)
  expr_then here (the_same e p) how = expr_then here e (as_value (value_used how (gives_pointer here.laid e) p))
  expr_then here (a_unary o t e p) how = expr_then here e
      (as_value (λ x. result_then (unary o t x) p (value_used how false p)))
  expr_then here (a_binary o t l r p) how =
      expr_then here l (as_value (λ x. expr_then here r
      (as_value (λ y. result_then (binary o t x y) p (value_used how false p)))))
  expr_then here (a_comparison_of_pointers equal l r p) how =
      expr_then here l (as_value (λ x. expr_then here r (as_value (λ y.
      result_then (usable x) p (λ u. result_then (usable y) p (λ v. truth_used how (is_compared equal u v)))))))
  expr_then here (a_move minus cells true e i p) how =
      expr_then here i (as_value (λ y. expr_then here e
      (as_value (λ x. result_then (moved here.laid minus cells x y) p (value_used how true p)))))
  expr_then here (a_move minus cells false e i p) how =
      expr_then here e (as_value (λ x. expr_then here i
      (as_value (λ y. result_then (moved here.laid minus cells x y) p (value_used how true p)))))
  expr_then here (a_not e p) how = expr_then here e (as_branch (truth_used how false) (truth_used how true))
  expr_then here (an_and l r p) how =
      expr_then here l (as_branch (expr_then here r (as_branch (truth_used how true) (truth_used how false)))
      (truth_used how false))
  expr_then here (an_or l r p) how =
      expr_then here l (as_branch (truth_used how true)
      (expr_then here r (as_branch (truth_used how true) (truth_used how false))))
  expr_then here (a_choice c x y p) how =
      expr_then here c (as_branch (expr_then here x (as_value (value_used how (gives_pointer here.laid x) p)))
      (expr_then here y (as_value (value_used how (gives_pointer here.laid x) p))))
  expr_then here (an_assignment s l e p) how =
      address_then here l (λ a. expr_then here e (as_value
      (λ v. stored_then here.laid a s v p (value_used how (is_pointer_scalar s) p))))
  expr_then here (a_compound o cell of volatile l e p) how =
      address_then here l (λ a. act_then here.laid (load_at a (Scalars.Int cell) volatile (lvalue_place l))
      (λ x. expr_then here e (as_value (λ y.
      result_then (compound_result o cell of x y) p
      (λ v. stored_then here.laid a (Scalars.Int cell) v p (value_used how false p))))))
  expr_then here (a_compound_move minus cells class l e p) how =
      address_then here l (λ a. act_then here.laid (load_at a (Scalars.Pointer class) false (lvalue_place l))
      (λ x. expr_then here e (as_value (λ y.
      result_then (moved here.laid minus cells x y) p
      (λ v. stored_then here.laid a (Scalars.Pointer class) v p (value_used how true p))))))
  expr_then here (a_unit_step step cell of volatile l p) how =
      address_then here l (λ a. act_then here.laid (load_at a (Scalars.Int cell) volatile (lvalue_place l)) (λ x.
      result_then (compound_result (step_operator step) cell of x (Number (pos 1))) p (λ v.
      stored_then here.laid a (Scalars.Int cell) v p (λ w. value_used how false p (step_value step x w)))))
  expr_then here (a_pointer_step step cells class l p) how =
      address_then here l (λ a. act_then here.laid (load_at a (Scalars.Pointer class) false (lvalue_place l)) (λ x.
      result_then (moved here.laid step.minus cells x (Number (pos 1))) p (λ v.
      stored_then here.laid a (Scalars.Pointer class) v p (λ w. value_used how true p (step_value step x w)))))
  expr_then here (a_function_call f site es p) how = arguments_then here es
      (λ vs. here.call site vs p (value_used how (is_pointer_type
      (result_type here.laid (get_or here.laid.file.functions f no_typed_function))) p))
  expr_then here (an_input_value low high p) how = act_then here.laid (Acts.Chosen low high) (value_used how false p)
  expr_then here (a_probe m p) how = act_then here.laid (Acts.Probe m p) (value_used how false p)
  expr_then here (a_comma l r p) how = expr_then here l
      (as_value (λ u. expr_then here r (as_value (value_used how (gives_pointer here.laid r) p))))
  expr_then here (a_conversion from to e p) how = expr_then here e
      (as_value (λ x. value_used how false p (converted from to x)))
  expr_then here (a_discard e p) how = expr_then here e (as_value (λ u. value_used how false p nothing))

  -- the address of an lvalue
  pub address_then : Here → LvalueTree → (Value → After) → After
  address_then here (an_object o p) go = go (address_of here (object_of here.laid here.path o))
  address_then here (an_element l i length cells p) go =
      address_then here l (λ a. expr_then here i (as_value
      (λ y. result_then (element here.laid length cells a y) p go)))
  address_then here (a_pointed_element e i cells type p) go =
      expr_then here e (as_value (λ x. expr_then here i (as_value (λ y.
      result_then (moved here.laid false cells x y) p
      (λ v. result_then (dereferenced here.laid here.path type v) p go)))))
  address_then here (a_pointed e type p) go = expr_then here e
      (as_value (λ x. result_then (dereferenced here.laid here.path type x) p go))
  address_then here (an_arrow e type cell p) go =
      expr_then here e (as_value (λ x. result_then (dereferenced here.laid here.path type x) p
      (λ a. go (part here.laid cell a))))
  address_then here (a_part l cell p) go = address_then here l (λ a. go (part here.laid cell a))

  -- the values of arguments
  pub arguments_then : Here → RvalueTrees → (List Value → After) → After
  arguments_then here no_rvalues go = go []
  arguments_then here (and_rvalue e es) go = expr_then here e
      (as_value (λ v. arguments_then here es (λ vs. go (v ∷ vs))))

-- an expression whose value is not used, if there is one
abbrev pub unused_then : Here → Option RvalueTree → After → After
unused_then here None go = go
unused_then here (Some e) go = expr_then here e (as_value (λ u. go))

-- a condition; one that is left out is true (C99 6.8.5.3)
abbrev pub condition_then : Here → Option RvalueTree → After → After → After
condition_then here None one other = one
condition_then here (Some e) one other = expr_then here e (as_branch one other)

-- ## Declarations

-- whether the first of the cells that are given is this one
abbrev pub is_given : ℕ → List GivenTree → Bool
is_given k [] = false
is_given k (g ∷ gs) = g.cell == k

-- the value of a cell, which is zero or null unless it is given
abbrev pub cell_then : Here → Scalar → Bool → List GivenTree → (Value → After) → After
cell_then here s true (g ∷ gs) go = expr_then here g.value (as_value go)
cell_then here s true [] go = go (zero_of s)
cell_then here s false gs go = go (zero_of s)

abbrev pub rest_of : Bool → List GivenTree → List GivenTree
rest_of true (g ∷ gs) = gs
rest_of true [] = []
rest_of false gs = gs

-- So many cells of an object from this one on: for each in order its value, then its store. The cells that the
-- initialiser gives stand in rising order.
abbrev pub cells_then : Here → ℕ → Place → ℕ → ℕ → List GivenTree → After → After
cells_then here o p zero k gs go = go
cells_then here o p (suc n) k gs go =
    cell_then here (scalar_at here.laid o k) (is_given k gs) gs (λ v.
    act_then here.laid (store_at (part here.laid k (base here.laid o)) (scalar_at here.laid o k) v p) (λ u.
    cells_then here o p n (suc k) (rest_of (is_given k gs) gs) go))

abbrev pub initialiser_then : Here → ℕ → Option LocalInitialiserTree → After → After
initialiser_then here o None go = go
initialiser_then here o (Some i) go = cells_then here o i.place (object_at here.laid o).cells 0 i.given go

-- the object is cleared, and then each of its cells is stored where there is an initialiser
abbrev pub local_then : Here → LocalTree → After → After
local_then here l go =
    act_then here.laid (clear_at here.laid (object_of here.laid here.path (Local l.object))) (λ u.
    initialiser_then here (object_of here.laid here.path (Local l.object)) l.initialiser go)

abbrev pub locals_then : Here → List LocalTree → After → After
locals_then here [] go = go
locals_then here (l ∷ ls) go = local_then here l (locals_then here ls go)

-- ## Statements

-- where control goes from a statement: on, or by `break`, `continue` or `return`
pub record Exits : Type 0 where
  pub on : After
  pub breaks : After
  pub continues : After
  pub returns : Value → After

-- The turns of a loop, where `turn back` is one turn, which comes back to the head by `back`. A turn that comes back
-- with as many answers as it began with has used none: the task spins. There are no more turns than answers, which
-- bound the recursion.
abbrev pub loop_then : (After → After) → ℕ → After
loop_then turn zero answers = turn (last Acts.Spins) answers
loop_then turn (suc n) answers =
    turn (λ left. if nat_lt (length left) (length answers) then loop_then turn n left else last Acts.Spins left) answers

abbrev pub loop_over : (After → After) → After
loop_over turn answers = loop_then turn (length answers) answers

abbrev pub returned_then : Here → Option RvalueTree → (Value → After) → After
returned_then here None go = go nothing
returned_then here (Some e) go = expr_then here e (as_value go)

-- the exits of the body of a loop: it goes on and continues so, and breaks to what follows the loop
abbrev pub inside : Exits → After → Exits
inside exits on = record { on = on; breaks = exits.on; continues = on; returns = exits.returns }

-- Branches go by the form of the condition.
abbrev mutual
  pub stmt_then : Here → TypedTree → Exits → After
  stmt_then here (evaluates e) exits = unused_then here e exits.on
  stmt_then here (declares ls) exits = locals_then here ls exits.on
  stmt_then here (runs_block ss) exits = block_then here ss exits
  stmt_then here (branches c s) exits = expr_then here c (as_branch (stmt_then here s exits) exits.on)
  stmt_then here (branches_else c s t) exits = expr_then here c
      (as_branch (stmt_then here s exits) (stmt_then here t exits))
  stmt_then here (loops_while c s) exits =
      loop_over (λ back. expr_then here c (as_branch (stmt_then here s (inside exits back)) exits.on))
  stmt_then here (loops_do s c) exits =
      loop_over (λ back. stmt_then here s (inside exits (expr_then here c (as_branch back exits.on))))
  stmt_then here (loops_for first c step s) exits =
      stmt_then here first (record exits {
        on =
            loop_over (λ back. condition_then here c (stmt_then here s (inside exits (unused_then here step back)))
            exits.on);
      })
  stmt_then here (selects t e cs) exits =
      expr_then here e (as_value (λ v. case_then here v cs (record exits { breaks = exits.on })
      (default_then here cs (record exits { breaks = exits.on }))))
  stmt_then here breaks exits = exits.breaks
  stmt_then here continues exits = exits.continues
  stmt_then here (returns e) exits = returned_then here e exits.returns
  stmt_then here (locks m p) exits = act_then here.laid (Acts.Lock m p) (λ u. exits.on)
  stmt_then here (unlocks m p) exits = act_then here.laid (Acts.Unlock m p) (λ u. exits.on)
  stmt_then here yields exits = act_then here.laid Acts.Yield (λ u. exits.on)

  pub block_then : Here → TypedTrees → Exits → After
  block_then here no_statements exits = exits.on
  block_then here (and_statement s ss) exits = stmt_then here s (record exits { on = block_then here ss exits })

  -- the statements of a `switch` from here on: control passes the labels by (C99 6.8.4.2)
  pub cases_then : Here → TypedCases → Exits → After
  cases_then here no_typed_cases exits = exits.on
  cases_then here (and_typed_case (a_label z p) cs) exits = cases_then here cs exits
  cases_then here (and_typed_case (a_default_label p) cs) exits = cases_then here cs exits
  cases_then here (and_typed_case (a_labelled_step s) cs) exits = stmt_then here s
      (record exits { on = cases_then here cs exits })

  -- from the first label that is the value, or else the other way
  pub case_then : Here → Value → TypedCases → Exits → After → After
  case_then here v no_typed_cases exits other = other
  case_then here v (and_typed_case (a_label z p) cs) exits other =
      if is_case z v then cases_then here cs exits else case_then here v cs exits other
  case_then here v (and_typed_case (a_default_label p) cs) exits other = case_then here v cs exits other
  case_then here v (and_typed_case (a_labelled_step s) cs) exits other = case_then here v cs exits other

  -- from the label `default` on, or else behind the `switch`
  pub default_then : Here → TypedCases → Exits → After
  default_then here no_typed_cases exits = exits.on
  default_then here (and_typed_case (a_label z p) cs) exits = default_then here cs exits
  default_then here (and_typed_case (a_default_label p) cs) exits = cases_then here cs exits
  default_then here (and_typed_case (a_labelled_step s) cs) exits = default_then here cs exits

-- ## Calls

-- the arguments are stored to the parameters of a path in order, from this one on
abbrev pub passed_then : LaidTree → ℕ → ℕ → List Value → Place → After → After
passed_then laid path k [] p go = go
passed_then laid path k (v ∷ vs) p go =
    act_then laid (store_at (base laid (object_of laid path (Local k)))
    (scalar_at laid (object_of laid path (Local k)) 0) v p) (λ u.
    passed_then laid path (suc k) vs p go)

-- A body that ends without `return`: any value of an integer result, or the invalid pointer.
abbrev pub fallen_then : LaidTree → CType → (Value → After) → After
fallen_then laid (Types.Int t) go = act_then laid (Acts.Chosen (lo_of t) (hi_of t)) go
fallen_then laid _ go = go nothing

-- the function of a path
abbrev pub function_at : LaidTree → ℕ → TypedFunctionTree
function_at laid path = get_or laid.file.functions (path_at laid path).function no_typed_function

-- no loop and no `switch` is around a body
abbrev pub exits_of : LaidTree → CType → (Value → After) → Exits
exits_of laid t go = record {
  on = fallen_then laid t go;
  breaks = last Acts.Misfit;
  continues = last Acts.Misfit;
  returns = go;
}

-- a path from which calls do so
abbrev pub here_with : LaidTree → (ℕ → (Value → After) → After) → ℕ → Here
here_with laid body path = record {
  laid = laid;
  path = path;
  call = λ site vs p go. passed_then laid (callee laid path site) 0 vs p (body (callee laid path site) go);
}

abbrev pub code_then : Here → CType → Option TypedBodyTree → (Value → After) → After
code_then here t None go = go nothing
code_then here t (Some body) go = block_then here body.statements (exits_of here.laid t go)

-- The body of a call path, up to its value. No chain of calls is as long as the depth, so that the first case does not
-- come.
abbrev pub body_then : LaidTree → ℕ → ℕ → (Value → After) → After
body_then laid zero path go = go nothing
body_then laid (suc depth) path go =
    code_then (here_with laid (body_then laid depth) path) (result_type laid (function_at laid path))
    (function_at laid path).body go

-- What the task with this number, or the initial section, whose number is the number of tasks, does after these
-- answers.
unfoldable pub next : LaidTree → ℕ → After
next laid task = body_then laid (length laid.file.functions) (first_path laid task) (λ v. last Acts.Ended)
