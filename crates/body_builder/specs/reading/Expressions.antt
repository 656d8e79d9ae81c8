-- Expressions as the code builds them, over temporaries.
use Rattle.std.specs.Prelude.{◌≡◌, ℕ, suc, ℤ, pos, Bool, true, false, if◌then◌else◌, List, [], ◌∷◌, ◌++◌, Option, Some}
use Rattle.std.specs.Prelude.{None}
use Rattle.tm_cint.specs.declared.int_types.IntType.{IntType}
use Rattle.tm_cint.specs.declared.int_types.IntType.TheVariants as Ints
use Rattle.tm_cint.specs.declared.operators.BinOp.{BinOp}
use Rattle.tm_terms.specs.declared.places.Place.{Place}
use Rattle.tm_typed.specs.declared.types.Scalar.{Scalar}
use Rattle.tm_typed.specs.declared.types.Scalar.TheVariants as Scalars
use Rattle.tm_typed.specs.Rules.{is_comparison}
use Rattle.tm_typed.specs.TypedTrees.{RvalueTree, a_constant, a_folded, a_null, a_load, an_address}
use Rattle.tm_typed.specs.TypedTrees.{a_structure}
use Rattle.tm_typed.specs.TypedTrees.{the_same, a_unary, a_binary, a_comparison_of_pointers, a_move, a_not}
use Rattle.tm_typed.specs.TypedTrees.{an_and}
use Rattle.tm_typed.specs.TypedTrees.{an_or, a_choice, an_assignment, a_compound, a_compound_move, a_unit_step}
use Rattle.tm_typed.specs.TypedTrees.{a_pointer_step, a_function_call, an_input_value, a_probe, a_comma}
use Rattle.tm_typed.specs.TypedTrees.{a_conversion}
use Rattle.tm_typed.specs.TypedTrees.{a_discard, LvalueTree, an_object, an_element, a_pointed_element}
use Rattle.tm_typed.specs.TypedTrees.{a_pointed}
use Rattle.tm_typed.specs.TypedTrees.{an_arrow, a_part, RvalueTrees, no_rvalues, and_rvalue, lvalue_place}
use Rattle.tm_laid.specs.Layouts.{LaidTree, object_of}
use Rattle.concrete_values.specs.declared.values.Value.TheVariants.{Number, Pointer as APointer}
use Rattle.concrete_values.specs.declared.values.Pointer.TheVariants as Pointers
use Rattle.concrete_values.specs.Values.{truth_value}
use Rattle.flow_graph.specs.declared.graphs.Edge.{Edge}
use Rattle.flow_graph.specs.declared.operations.Test.{Test}
use Rattle.flow_graph.specs.declared.operations.Test.TheVariants as Tests
use Rattle.flow_graph.specs.declared.operations.Into.{Into}
use Rattle.flow_graph.specs.declared.operations.Into.TheVariants as Intos
use Rattle.flow_graph.specs.declared.operations.Operation.{Operation}
use Rattle.flow_graph.specs.declared.operations.Operation.TheVariants as Op
use Rattle.lowering.specs.concrete_steps.Places.{rvalue_place, is_pointer_scalar, gives_pointer}
use Rattle.lowering.specs.concrete_steps.NextAction.{step_operator, scalar_at}
use Rattle.lowering.specs.Table.{Conversion, conversion, implied, is_same_place, has_value, call_has_value, into}
use Rattle.lowering.specs.Built.{Building, place_with, place, place_new, branch, goto, meet, temp_of}
use Rattle.body_builder.specs.declared.expressions.Held.{Held}
use Rattle.body_builder.specs.declared.fragments.Wanted.{Wanted}
use Rattle.body_builder.specs.declared.fragments.Wanted.TheVariants as Want
use Rattle.body_builder.specs.Fragments.{calls_on}
use Rattle.body_builder.specs.Placing.{Outcome, Given, tested, new_value}

-- after arguments: the temporaries of their values
pub record Listed : Type 0 where
  pub at : Building
  pub temps : List ℕ

abbrev pub Lists : Listed → Building → List ℕ → Type 0
Lists y b ts = (b ≡ y.at) × (ts ≡ y.temps)

-- ## Ends of expressions

abbrev pub with_temp : Option ℕ → Building → Outcome
with_temp t b = record { at = b; temp = t; other = 0 }

abbrev pub usable_if : Bool → Place → ℕ → Building → Building
usable_if false p t b = b
usable_if true p t b = place (Op.Usable t p) b

-- a value is there, which is tested where a branch is wanted
unfoldable pub ends : Wanted → Bool → Place → Option ℕ → Building → Outcome
ends Want.Value pointer p t b = with_temp t b
ends Want.Bare pointer p t b = with_temp t b
ends Want.Branch pointer p t b = tested (Tests.Truth true (temp_of t)) (usable_if pointer p (temp_of t) b)

-- 1 and 0 meet
abbrev pub truth_at : ℕ → Building → Building
truth_at other b =
    let b1 = place_new (λ t. Op.Const t (truth_value true)) b in
    let b2 = place (Op.Const b.temps (truth_value false)) (goto other b1) in
    meet (b1.node ∷ b2.node ∷ []) b2

-- control goes on at the present node, or at the other one
unfoldable pub ends_fork : Wanted → ℕ → Building → Outcome
ends_fork Want.Value other b = with_temp (Some b.temps) (truth_at other b)
ends_fork Want.Bare other b = with_temp (Some b.temps) (truth_at other b)
ends_fork Want.Branch other b = record { at = b; temp = None; other = other }

abbrev pub ends_new : Wanted → Bool → Place → Operation → Building → Outcome
ends_new w pointer p op b = let v = new_value op b in ends w pointer p (Some v.temp) v.at

-- a number is there, of which no branch is wanted
abbrev pub number_at : ℤ → Building → Outcome
number_at z b = let v = new_value (Op.Const b.temps (Number z)) b in with_temp (Some v.temp) v.at

-- ## Conversions

unfoldable pub converted : Conversion → ℕ → Building → Given
converted None t b = record { at = b; temp = t }
converted (Some c) t b = new_value (Op.Convert b.temps c.0 c.1 t) b

-- ## Operators

unfoldable pub operator_ends : Bool → Wanted → BinOp → IntType → Place → ℕ → ℕ → Building → Outcome
operator_ends true Want.Branch op of p x y b = tested (Tests.Numbers op of x y) b
operator_ends true Want.Value op of p x y b = ends_new Want.Value false p (Op.Bin b.temps op of x y p) b
operator_ends true Want.Bare op of p x y b = ends_new Want.Bare false p (Op.Bin b.temps op of x y p) b
operator_ends false w op of p x y b = ends_new w false p (Op.Bin b.temps op of x y p) b

unfoldable pub binary_ends : Wanted → BinOp → IntType → Place → Conversion → ℕ → Conversion → ℕ → Building → Outcome
binary_ends w op of p cl x cr y b =
    let l = converted cl x b in
    let r = converted cr y l.at in
    operator_ends (is_comparison op) w op of p l.temp r.temp r.at

abbrev pub both_usable : Place → ℕ → ℕ → Building → Building
both_usable p x y b = place (Op.Usable y p) (place (Op.Usable x p) b)

unfoldable pub pointers_ends : Wanted → Bool → Place → ℕ → ℕ → Building → Outcome
pointers_ends Want.Branch equal p x y b = tested (Tests.Pointers equal x y) (both_usable p x y b)
pointers_ends Want.Value equal p x y b =
    let c = both_usable p x y b in ends_new Want.Value false p (Op.BinPointers c.temps equal x y) c
pointers_ends Want.Bare equal p x y b =
    let c = both_usable p x y b in ends_new Want.Bare false p (Op.BinPointers c.temps equal x y) c

-- ## Loads and stores

abbrev pub load_op : Bool → Scalar → Place → ℕ → ℕ → Operation
load_op false s p a t = Op.Load t a s p
load_op true s p a t = Op.LoadAny t a s p

abbrev pub loaded : Bool → Scalar → Place → ℕ → Building → Given
loaded volatile s p a b = new_value (load_op volatile s p a b.temps) b

-- what an address holds is there
abbrev pub load_ends : Wanted → Bool → Scalar → Place → ℕ → Building → Outcome
load_ends w volatile s p a b =
    let v = loaded volatile s p a b in ends w (is_pointer_scalar s) p (Some v.temp) v.at

unfoldable pub stored : Wanted → Scalar → Into → Place → ℕ → ℕ → Building → Outcome
stored w s into p a x b = ends w (is_pointer_scalar s) p (Some x) (place (Op.Store a x s into p) b)

-- the operator on two converted operands, its conversion back, and the store
unfoldable pub changed : Conversion → Conversion → Conversion → BinOp → IntType → IntType → Into → Place → ℕ → ℕ → ℕ
    → Building → Given
changed cx cy back op cell of into p a x y b =
    let l = converted cx x b in
    let r = converted cy y l.at in
    let m = new_value (Op.Bin r.at.temps op of l.temp r.temp p) r.at in
    let v = converted back m.temp m.at in
    record { at = place (Op.Store a v.temp (Scalars.Int cell) into p) v.at; temp = v.temp }

unfoldable pub compound_ends : Wanted → BinOp → IntType → IntType → Into → Place → Conversion → ℕ → ℕ → ℕ → Building
    → Outcome
compound_ends w op cell of into p ce a x y b =
    let v = changed (conversion cell of) ce (conversion of cell) op cell of into p a x y b in
    ends w false p (Some v.temp) v.at

unfoldable pub unit_step_ends : Wanted → Bool → BinOp → IntType → IntType → Into → Place → ℕ → ℕ → Building → Outcome
unit_step_ends w postfix op cell of into p a x b =
    let one = new_value (Op.Const b.temps (Number (pos 1))) b in
    let v = changed (conversion cell of) (conversion Ints.Int of) (conversion of cell) op cell of into p a x one.temp
    one.at in
    ends w false p (Some (if postfix then x else v.temp)) v.at

-- ## Pointers

-- a pointer is moved
abbrev pub moved_ends : Wanted → Bool → ℕ → Place → ℕ → ℕ → Building → Outcome
moved_ends w minus cells p x y b = ends_new w true p (Op.Move b.temps x cells minus y p) b

-- the element behind a moved pointer, where the body of `path` is built
abbrev pub pointed_element : ℕ → ℕ → ℕ → ℕ → ℕ → Place → Building → Given
pointed_element path x cells y t p b =
    let m = new_value (Op.Move b.temps x cells false y p) b in new_value (Op.Deref m.at.temps m.temp t path p) m.at

-- the member of the structure behind a pointer
abbrev pub pointed_part : ℕ → ℕ → ℕ → ℕ → Place → Building → Given
pointed_part path x t cell p b =
    let m = new_value (Op.Deref b.temps x t path p) b in new_value (Op.Offset m.at.temps m.temp cell) m.at

-- a pointer is moved and stored
unfoldable pub moved_stored : Bool → ℕ → ℕ → Into → Place → ℕ → ℕ → ℕ → Building → Given
moved_stored minus cells class into p a x y b =
    let m = new_value (Op.Move b.temps x cells minus y p) b in
    record { at = place (Op.Store a m.temp (Scalars.Pointer class) into p) m.at; temp = m.temp }

unfoldable pub compound_move_ends : Wanted → Bool → ℕ → ℕ → Into → Place → ℕ → ℕ → ℕ → Building → Outcome
compound_move_ends w minus cells class into p a x y b =
    let v = moved_stored minus cells class into p a x y b in ends w true p (Some v.temp) v.at

unfoldable pub pointer_step_ends : Wanted → Bool → Bool → ℕ → ℕ → Into → Place → ℕ → ℕ → Building → Outcome
pointer_step_ends w postfix minus cells class into p a x b =
    let one = new_value (Op.Const b.temps (Number (pos 1))) b in
    let v = moved_stored minus cells class into p a x one.temp one.at in
    ends w true p (Some (if postfix then x else v.temp)) v.at

-- ## Choices and calls

-- a value is copied, where there is one
unfoldable pub copied_if : Bool → ℕ → Building → Building
copied_if true x b = (new_value (Op.Copy b.temps x) b).at
copied_if false x b = b

abbrev pub copied_to_if : Bool → ℕ → ℕ → Building → Building
copied_to_if true t x b = place (Op.Copy t x) b
copied_to_if false t x b = b

abbrev pub temp_if : Bool → ℕ → Option ℕ
temp_if true t = Some t
temp_if false t = None

-- both parts meet: the node of the first one's end, and the temporary of the value
unfoldable pub choice_ends : Wanted → Bool → Bool → Place → ℕ → ℕ → ℕ → Building → Outcome
choice_ends w has pointer p node t y b =
    let z = copied_to_if has t y b in
    ends w pointer p (temp_if has t) (meet (node ∷ z.node ∷ []) z)

unfoldable pub both_meet : Wanted → ℕ → ℕ → Building → Outcome
both_meet w x y b = ends_fork w b.nodes (goto b.node (meet (x ∷ y ∷ []) b))

unfoldable pub either_meet : Wanted → ℕ → ℕ → ℕ → Building → Outcome
either_meet w x y other b = ends_fork w other (meet (x ∷ y ∷ []) b)

-- a conversion, unless it is left to whoever wants the bare value
unfoldable pub conversion_ends : Wanted → Bool → Place → Conversion → Option ℕ → Building → Outcome
conversion_ends Want.Bare true p c t b = with_temp t b
conversion_ends Want.Bare false p c t b = let v = converted c (temp_of t) b in with_temp (Some v.temp) v.at
conversion_ends Want.Value same p c t b = let v = converted c (temp_of t) b in with_temp (Some v.temp) v.at
conversion_ends Want.Branch same p c t b =
    let v = converted c (temp_of t) b in ends Want.Branch false p (Some v.temp) v.at

-- a folded expression: its form counts where a branch is wanted
abbrev pub folded_ends : Wanted → ℤ → Building → Outcome → Outcome
folded_ends Want.Value z b x = number_at z b
folded_ends Want.Bare z b x = number_at z b
folded_ends Want.Branch z b x = x

-- an argument is stored to a parameter
unfoldable pub argument_stored : LaidTree → ℕ → ℕ → Place → Building → Building
argument_stored laid o v p b =
    let a = new_value (Op.Base b.temps o) b in
    place (Op.Store a.temp v (scalar_at laid o 0) (Intos.Object o) p) a.at

module _ (laid : LaidTree) (depth path : ℕ) where
  unfoldable pub call_ends : Wanted → Bool → ℕ → Place → List ℕ → Building → Outcome
  call_ends w pointer site p ts b =
      let x = calls_on laid depth path site ts p b in
      ends w pointer p (temp_if (call_has_value laid path site) (temp_of x.temp)) x.at

  abbrev mutual
    pub value_at : RvalueTree → Wanted → Building → Outcome
    value_at (a_constant t z p) w b = ends_new w false p (Op.Const b.temps (Number z)) b
    value_at (a_folded z e) w b = folded_ends w z b (value_at e Want.Branch b)
    value_at (a_null p) w b = ends_new w true p (Op.Const b.temps (APointer Pointers.Null)) b
    value_at (a_load s volatile l) w b =
        let a = address_at l b in load_ends w volatile s (lvalue_place l) a.temp a.at
    value_at (an_address l p) w b = let a = address_at l b in ends w true p (Some a.temp) a.at
    value_at (a_structure l) w b = ends w false (lvalue_place l) None (address_at l b).at
    value_at (the_same e p) w b = let x = value_at e Want.Value b in ends w (gives_pointer laid e) p x.temp x.at
    value_at (a_unary o t e p) w b =
        let x = value_at e Want.Value b in ends_new w false p (Op.Un x.at.temps o t (temp_of x.temp) p) x.at
    value_at (a_binary op of l r p) w b =
        let x = value_at l Want.Bare b in
        let y = value_at r Want.Bare x.at in
        binary_ends w op of p (implied l) (temp_of x.temp) (implied r) (temp_of y.temp) y.at
    value_at (a_comparison_of_pointers equal l r p) w b =
        let x = value_at l Want.Value b in
        let y = value_at r Want.Value x.at in
        pointers_ends w equal p (temp_of x.temp) (temp_of y.temp) y.at
    value_at (a_move minus cells false e i p) w b =
        let x = value_at e Want.Value b in
        let y = value_at i Want.Value x.at in
        moved_ends w minus cells p (temp_of x.temp) (temp_of y.temp) y.at
    value_at (a_move minus cells true e i p) w b =
        let y = value_at i Want.Value b in
        let x = value_at e Want.Value y.at in
        moved_ends w minus cells p (temp_of x.temp) (temp_of y.temp) x.at
    value_at (a_not e p) w b =
        let o = value_at e Want.Branch b in ends_fork w o.at.node (goto o.other o.at)
    value_at (an_and l r p) w b =
        let o = value_at l Want.Branch b in
        let q = value_at r Want.Branch o.at in
        both_meet w o.other q.other q.at
    value_at (an_or l r p) w b =
        let o = value_at l Want.Branch b in
        let q = value_at r Want.Branch (goto o.other o.at) in
        either_meet w o.at.node q.at.node q.other q.at
    value_at (a_choice c x y p) w b =
        let o = value_at c Want.Branch b in
        let u = value_at x Want.Value o.at in
        let has = has_value laid path x in
        let m = copied_if has (temp_of u.temp) u.at in
        let v = value_at y Want.Value (goto o.other m) in
        choice_ends w has (gives_pointer laid x) p m.node u.at.temps (temp_of v.temp) v.at
    value_at (an_assignment s l e p) w b =
        let a = address_at l b in
        let x = value_at e Want.Value a.at in
        stored w s (into laid path l) p a.temp (temp_of x.temp) x.at
    value_at (a_compound op cell of volatile l e p) w b =
        let a = address_at l b in
        let v = loaded volatile (Scalars.Int cell) (lvalue_place l) a.temp a.at in
        let x = value_at e Want.Bare v.at in
        compound_ends w op cell of (into laid path l) p (implied e) a.temp v.temp (temp_of x.temp) x.at
    value_at (a_compound_move minus cells class l e p) w b =
        let a = address_at l b in
        let v = loaded false (Scalars.Pointer class) (lvalue_place l) a.temp a.at in
        let x = value_at e Want.Value v.at in
        compound_move_ends w minus cells class (into laid path l) p a.temp v.temp (temp_of x.temp) x.at
    value_at (a_unit_step s cell of volatile l p) w b =
        let a = address_at l b in
        let v = loaded volatile (Scalars.Int cell) (lvalue_place l) a.temp a.at in
        unit_step_ends w s.postfix (step_operator s) cell of (into laid path l) p a.temp v.temp v.at
    value_at (a_pointer_step s cells class l p) w b =
        let a = address_at l b in
        let v = loaded false (Scalars.Pointer class) (lvalue_place l) a.temp a.at in
        pointer_step_ends w s.postfix s.minus cells class (into laid path l) p a.temp v.temp v.at
    value_at (a_function_call f site es p) w b =
        let x = values_at es b in
        call_ends w (gives_pointer laid (a_function_call f site no_rvalues p)) site p x.temps x.at
    value_at (an_input_value low high p) w b = ends_new w false p (Op.Any b.temps low high) b
    value_at (a_probe m p) w b = ends_new w false p (Op.Probe b.temps m p) b
    value_at (a_comma l r p) w b =
        let x = value_at l Want.Value b in
        let y = value_at r Want.Value x.at in
        ends w (gives_pointer laid r) p (temp_if (has_value laid path r) (temp_of y.temp)) y.at
    value_at (a_conversion from to e p) w b =
        let x = value_at e Want.Value b in
        conversion_ends w (is_same_place p (rvalue_place e)) p (conversion from to) x.temp x.at
    value_at (a_discard e p) w b = ends w false p None (value_at e Want.Value b).at

    pub address_at : LvalueTree → Building → Given
    address_at (an_object o p) b = new_value (Op.Base b.temps (object_of laid path o)) b
    address_at (an_element l i n c p) b =
        let a = address_at l b in
        let x = value_at i Want.Value a.at in
        new_value (Op.Index x.at.temps a.temp n c (temp_of x.temp) p) x.at
    address_at (a_pointed_element e i c t p) b =
        let x = value_at e Want.Value b in
        let y = value_at i Want.Value x.at in
        pointed_element path (temp_of x.temp) c (temp_of y.temp) t p y.at
    address_at (a_pointed e t p) b =
        let x = value_at e Want.Value b in new_value (Op.Deref x.at.temps (temp_of x.temp) t path p) x.at
    address_at (an_arrow e t c p) b =
        let x = value_at e Want.Value b in pointed_part path (temp_of x.temp) t c p x.at
    address_at (a_part l c p) b =
        let a = address_at l b in new_value (Op.Offset a.at.temps a.temp c) a.at

    -- arguments, from left to right
    pub values_at : RvalueTrees → Building → Listed
    values_at no_rvalues b = record { at = b; temps = [] }
    values_at (and_rvalue e es) b =
        let x = value_at e Want.Value b in
        let y = values_at es x.at in
        record { at = y.at; temps = temp_of x.temp ∷ y.temps }

  -- an object that is changed is loaded: where its value goes, its address, and what it holds
  abbrev pub Holds : Bool → Scalar → LvalueTree → Building → Building → Held → Type 0
  Holds volatile s l b n x =
      let a = address_at l b in
      let v = loaded volatile s (lvalue_place l) a.temp a.at in
      (x.into ≡ into laid path l) × (x.address ≡ a.temp) × (n ≡ v.at) × (x.value ≡ v.temp)
