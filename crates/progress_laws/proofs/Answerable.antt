-- Bodies that load no pointer as volatile, and whose bounds are in order, have next actions that some number answers.
use Rattle.std.proofs.Common.{◌≡◌, refl, ℕ, zero, suc, pos, Bool, true, false, if◌then◌else◌, List, [], ◌∷◌, length}
use Rattle.std.proofs.Common.{get_or, Option, Some, None, All}
use Rattle.std.specs.Prelude.{nat_lt, int_le, is_some, Result, Ok, Err}
use Rattle.std.proofs.lemmas.List.Elements.{All-head, All-tail}
use Rattle.concrete_steps.specs.tm_cint.declared.Class.{Class}
use Rattle.concrete_steps.specs.tm_cint.declared.int_types.IntType.TheVariants as Ints
use Rattle.concrete_steps.specs.tm_cint.declared.int_types.IntType.{IntType}
use Rattle.concrete_steps.specs.tm_cint.IntTypes.{lo_of, hi_of}
use Rattle.concrete_steps.specs.tm_terms.declared.places.Place.{Place}
use Rattle.concrete_steps.specs.tm_typed.declared.types.CType.{CType}
use Rattle.concrete_steps.specs.tm_typed.declared.types.CType.TheVariants as Types
use Rattle.concrete_steps.specs.tm_typed.declared.types.Scalar.{Scalar}
use Rattle.concrete_steps.specs.tm_typed.declared.types.Scalar.TheVariants as Scalars
use Rattle.concrete_steps.specs.tm_typed.declared.scopes.ObjectNumber.TheVariants.{Local}
use Rattle.concrete_steps.specs.tm_typed.TypedTrees.{RvalueTree, a_constant, a_folded, a_null, a_load, an_address}
use Rattle.concrete_steps.specs.tm_typed.TypedTrees.{a_structure, the_same, a_unary, a_binary, a_comparison_of_pointers}
use Rattle.concrete_steps.specs.tm_typed.TypedTrees.{a_move, a_not, an_and, an_or, a_choice, an_assignment, a_compound}
use Rattle.concrete_steps.specs.tm_typed.TypedTrees.{a_compound_move, a_unit_step, a_pointer_step, a_function_call}
use Rattle.concrete_steps.specs.tm_typed.TypedTrees.{an_input_value, a_probe, a_comma, a_conversion, a_discard}
use Rattle.concrete_steps.specs.tm_typed.TypedTrees.{LvalueTree, an_object, an_element, a_pointed_element, a_pointed}
use Rattle.concrete_steps.specs.tm_typed.TypedTrees.{an_arrow, a_part, lvalue_place, RvalueTrees, no_rvalues}
use Rattle.concrete_steps.specs.tm_typed.TypedTrees.{and_rvalue}
use Rattle.concrete_steps.specs.tm_typed.TypedStatements.{GivenTree, LocalInitialiserTree, LocalTree, TypedTree}
use Rattle.concrete_steps.specs.tm_typed.TypedStatements.{evaluates, declares, runs_block, branches, branches_else}
use Rattle.concrete_steps.specs.tm_typed.TypedStatements.{loops_while, loops_do, loops_for, selects, breaks, continues}
use Rattle.concrete_steps.specs.tm_typed.TypedStatements.{returns, locks, unlocks, yields, TypedTrees, no_statements}
use Rattle.concrete_steps.specs.tm_typed.TypedStatements.{and_statement, a_label, a_default_label, a_labelled_step}
use Rattle.concrete_steps.specs.tm_typed.TypedStatements.{TypedCases, no_typed_cases, and_typed_case}
use Rattle.concrete_steps.specs.tm_typed.Functions.{TypedBodyTree}
use Rattle.concrete_steps.specs.tm_typed.Files.{no_typed_function}
use Rattle.concrete_steps.specs.tm_typed.TypeRows.{is_pointer_type}
use Rattle.concrete_steps.specs.tm_laid.Layouts.{LaidTree, path_at, object_at, first_path, callee, object_of}
use Rattle.concrete_steps.specs.concrete_values.declared.values.Pointer.{Pointer}
use Rattle.concrete_steps.specs.concrete_values.Actions.{load_by, store_by, load_at, store_at, clear_at, answer_of}
use Rattle.concrete_steps.specs.concrete_values.Values.{pointer_of, nothing, truth_value, is_true}
use Rattle.concrete_steps.specs.concrete_values.Pointers.{size_of, base, part, element, moved, dereferenced, usable}
use Rattle.concrete_steps.specs.concrete_values.Pointers.{is_compared}
use Rattle.concrete_steps.specs.concrete_values.declared.values.Pointer.TheVariants as Pointers
use Rattle.concrete_steps.specs.concrete_values.declared.values.Value.{Value}
use Rattle.concrete_steps.specs.concrete_values.declared.values.Value.TheVariants.{Number, Pointer as APointer}
use Rattle.concrete_steps.specs.concrete_values.declared.values.Answer.{Answer}
use Rattle.concrete_steps.specs.concrete_values.declared.actions.Next.{Next}
use Rattle.concrete_steps.specs.concrete_values.declared.actions.Next.TheVariants as Acts
use Rattle.concrete_steps.specs.concrete_values.Operators.{binary, unary, converted, is_case}
use Rattle.concrete_steps.specs.NextAction.{After, last, fit_then, act_then, result_then, Use, as_value, as_branch}
use Rattle.concrete_steps.specs.NextAction.{tested, value_used, truth_used, scalar_at, zero_of, compound_result}
use Rattle.concrete_steps.specs.NextAction.{step_operator, step_value, Here, address_of, stored_then, expr_then}
use Rattle.concrete_steps.specs.NextAction.{address_then, arguments_then, unused_then, condition_then, is_given}
use Rattle.concrete_steps.specs.NextAction.{cell_then, rest_of, cells_then, initialiser_then, locals_then, Exits}
use Rattle.concrete_steps.specs.NextAction.{loop_then, loop_over, returned_then, inside, stmt_then, block_then}
use Rattle.concrete_steps.specs.NextAction.{cases_then, case_then, default_then, passed_then, fallen_then, function_at}
use Rattle.concrete_steps.specs.NextAction.{exits_of, here_with, code_then, body_then, next}
use Rattle.concrete_steps.specs.Places.{result_type, is_pointer_scalar, gives_pointer}
use Rattle.next_action_laws.specs.typed_file_laws.Mentions.{MayLoad, Mentions, LvalueMentions, AllMention, MayMention}
use Rattle.next_action_laws.specs.typed_file_laws.Mentions.{GivenMention, StatementMentions, StatementsMention}
use Rattle.next_action_laws.specs.typed_file_laws.Mentions.{CasesMention}
use Rattle.progress_laws.specs.Progress.{IsAnswerable}

-- ## Continuations

-- whatever the answers, some number answers the action
abbrev pub Good : After → Type 0
Good k = (l : List Answer) → IsAnswerable (k l)

last_good : (action : Next) → IsAnswerable action → Good (last action)
last_good action h [] = h
last_good action h (a ∷ l) = tt

fit_good : (o : Option Value) (go : Value → After) → ((v : Value) → Good (go v)) → Good (fit_then o go)
fit_good (Some v) go h l = h v l
fit_good None go h l = tt

act_good : (laid : LaidTree) (action : Next) (go : Value → After) → IsAnswerable action → ((v : Value) → Good (go v))
    → Good (act_then laid action go)
act_good laid action go h k [] = h
act_good laid action go h k (a ∷ l) = fit_good (answer_of laid action a) go k l

result_good : (r : Result Value Class) (p : Place) (go : Value → After) → ((v : Value) → Good (go v))
    → Good (result_then r p go)
result_good (Ok v) p go h l = h v l
result_good (Err class) p go h l = last_good (Acts.Fault class p) tt l

if_good : (b : Bool) (k k' : After) → Good k → Good k' → Good (if b then k else k')
if_good true k k' g h l = g l
if_good false k k' g h l = h l

abbrev GoodUse : Use → Type 0
GoodUse (as_value go) = (v : Value) → Good (go v)
GoodUse (as_branch one other) = Good one × Good other

value_good : (how : Use) (b : Bool) (p : Place) (v : Value) → GoodUse how → Good (value_used how b p v)
value_good (as_value go) b p v h l = h v l
value_good (as_branch one other) b p v h l =
    result_good (tested b v) p _ (λ u. if_good (is_true u) one other h.0 h.1) l

truth_good : (how : Use) (b : Bool) → GoodUse how → Good (truth_used how b)
truth_good (as_value go) b h l = h (truth_value b) l
truth_good (as_branch one other) b h l = if_good b one other h.0 h.1 l

-- ## Accesses

load_flag : (o k : ℕ) (s : Scalar) (b : Bool) (p : Place) → MayLoad s b
    → IsAnswerable (Acts.Load o k s b p)
load_flag o k (Scalars.Int t) true p h = refl
load_flag o k (Scalars.Pointer class) true p h = absurd cc
load_flag o k s false p h = tt

load_given : (x : Pointer) (s : Scalar) (b : Bool) (p : Place) → MayLoad s b
    → IsAnswerable (load_by x s b p)
load_given (Pointers.To o k) s b p h = load_flag o k s b p h
load_given Pointers.Null s b p h = tt
load_given Pointers.Invalid s b p h = tt

load_good : (a : Value) (s : Scalar) (b : Bool) (p : Place) → MayLoad s b
    → IsAnswerable (load_at a s b p)
unfolding load_at
load_good a s b p h = load_given (pointer_of a) s b p h

store_given : (x : Pointer) (s : Scalar) (v : Value) (p : Place) → IsAnswerable (store_by x s v p)
store_given (Pointers.To o k) s v p = tt
store_given Pointers.Null s v p = tt
store_given Pointers.Invalid s v p = tt

store_good : (a : Value) (s : Scalar) (v : Value) (p : Place) → IsAnswerable (store_at a s v p)
unfolding store_at
store_good a s v p = store_given (pointer_of a) s v p

clear_good : (laid : LaidTree) (o : ℕ) → IsAnswerable (clear_at laid o)
unfolding clear_at
clear_good laid o = by (is_some (size_of laid o))
  where
    by : (b : Bool) → IsAnswerable (if b then Acts.Clear o else Acts.Misfit)
    by true = tt
    by false = tt

stored_good : (laid : LaidTree) (a : Value) (s : Scalar) (v : Value) (p : Place) (go : Value → After)
    → ((u : Value) → Good (go u))
    → Good (stored_then laid a s v p go)
stored_good laid a s v p go h = act_good laid (store_at a s v p) _ (store_good a s v p) (λ u. h v)

-- ## Expressions

module _ (o : ℕ → Bool) (c : List ℕ) where
  module _ (here : Here)
      (calls : (site : ℕ) (vs : List Value) (p : Place) (go : Value → After) → ((v : Value) → Good (go v))
      → Good (here.call site vs p go)) where
    mutual
      expr_good : (e : RvalueTree) → Mentions o c e → (how : Use) → GoodUse how → Good (expr_then here e how)
      expr_good (a_constant t z p) m how u = value_good how false p (Number z) u
      expr_good (a_folded z e) m (as_value go) u = u (Number z)
      expr_good (a_folded z e) m (as_branch one other) u = expr_good e m (as_branch one other) u
      expr_good (a_null p) m how u = value_good how true p (APointer Pointers.Null) u
      expr_good (a_load s b l) m how u = address_good l m.1 _ (λ a.
          act_good here.laid (load_at a s b (lvalue_place l)) _ (load_good a s b (lvalue_place l) m.0)
          (λ v. value_good how (is_pointer_scalar s) (lvalue_place l) v u))
      expr_good (an_address l p) m how u = address_good l m _ (λ v. value_good how true p v u)
      expr_good (a_structure l) m how u = address_good l m _ (λ a. value_good how false (lvalue_place l) nothing u)
      expr_good (the_same e p) m how u =
          expr_good e m (as_value _) (λ v. value_good how (gives_pointer here.laid e) p v u)
      expr_good (a_unary q t e p) m how u =
          expr_good e m.1 (as_value _) (λ x. result_good (unary q t x) p _ (λ v. value_good how false p v u))
      expr_good (a_binary q t l r p) m how u =
          expr_good l m.0 (as_value _) (λ x. expr_good r m.1 (as_value _) (λ y.
          result_good (binary q t x y) p _ (λ v. value_good how false p v u)))
      expr_good (a_comparison_of_pointers equal l r p) m how u =
          expr_good l m.0 (as_value _) (λ x. expr_good r m.1 (as_value _) (λ y.
          result_good (usable x) p _ (λ a. result_good (usable y) p _ (λ b. truth_good how (is_compared equal a b) u))))
      expr_good (a_move minus cells true e i p) m how u =
          expr_good i m.1 (as_value _) (λ y. expr_good e m.0 (as_value _) (λ x.
          result_good (moved here.laid minus cells x y) p _ (λ v. value_good how true p v u)))
      expr_good (a_move minus cells false e i p) m how u =
          expr_good e m.0 (as_value _) (λ x. expr_good i m.1 (as_value _) (λ y.
          result_good (moved here.laid minus cells x y) p _ (λ v. value_good how true p v u)))
      expr_good (a_not e p) m how u = expr_good e m (as_branch _ _) (truth_good how false u, truth_good how true u)
      expr_good (an_and l r p) m how u = expr_good l m.0 (as_branch _ _)
          (expr_good r m.1 (as_branch _ _) (truth_good how true u, truth_good how false u), truth_good how false u)
      expr_good (an_or l r p) m how u = expr_good l m.0 (as_branch _ _)
          (truth_good how true u, expr_good r m.1 (as_branch _ _) (truth_good how true u, truth_good how false u))
      expr_good (a_choice d x y p) m how u = expr_good d m.0 (as_branch _ _) (
        expr_good x m.1 (as_value _) (λ v. value_good how (gives_pointer here.laid x) p v u),
        expr_good y m.2 (as_value _) (λ v. value_good how (gives_pointer here.laid x) p v u),
      )
      expr_good (an_assignment s l e p) m how u = address_good l m.0 _ (λ a. expr_good e m.1 (as_value _) (λ v.
          stored_good here.laid a s v p _ (λ w. value_good how (is_pointer_scalar s) p w u)))
      expr_good (a_compound q cell of volatile l e p) m how u = address_good l m.0 _ (λ a.
          act_good here.laid (load_at a (Scalars.Int cell) volatile (lvalue_place l)) _
          (load_good a (Scalars.Int cell) volatile (lvalue_place l) tt)
          (λ x. expr_good e m.1 (as_value _) (λ y.
          result_good (compound_result q cell of x y) p _ (λ v.
          stored_good here.laid a (Scalars.Int cell) v p _ (λ w. value_good how false p w u)))))
      expr_good (a_compound_move minus cells class l e p) m how u = address_good l m.0 _ (λ a.
          act_good here.laid (load_at a (Scalars.Pointer class) false (lvalue_place l)) _
          (load_good a (Scalars.Pointer class) false (lvalue_place l) refl)
          (λ x. expr_good e m.1 (as_value _) (λ y.
          result_good (moved here.laid minus cells x y) p _ (λ v.
          stored_good here.laid a (Scalars.Pointer class) v p _ (λ w. value_good how true p w u)))))
      expr_good (a_unit_step step cell of volatile l p) m how u = address_good l m _ (λ a.
          act_good here.laid (load_at a (Scalars.Int cell) volatile (lvalue_place l)) _
          (load_good a (Scalars.Int cell) volatile (lvalue_place l) tt) (λ x.
          result_good (compound_result (step_operator step) cell of x (Number (pos 1))) p _ (λ v.
          stored_good here.laid a (Scalars.Int cell) v p _ (λ w. value_good how false p (step_value step x w) u))))
      expr_good (a_pointer_step step cells class l p) m how u = address_good l m _ (λ a.
          act_good here.laid (load_at a (Scalars.Pointer class) false (lvalue_place l)) _
          (load_good a (Scalars.Pointer class) false (lvalue_place l) refl) (λ x.
          result_good (moved here.laid step.minus cells x (Number (pos 1))) p _ (λ v.
          stored_good here.laid a (Scalars.Pointer class) v p _ (λ w. value_good how true p (step_value step x w) u))))
      expr_good (a_function_call f site es p) m how u = arguments_good es m.1 _
          (λ vs. calls site vs p _ (λ v. value_good how (is_pointer_type
          (result_type here.laid (get_or here.laid.file.functions f no_typed_function))) p v u))
      expr_good (an_input_value low high p) m how u =
          act_good here.laid (Acts.Chosen low high) _ m (λ v. value_good how false p v u)
      expr_good (a_probe n p) m how u = act_good here.laid (Acts.Probe n p) _ tt (λ v. value_good how false p v u)
      expr_good (a_comma l r p) m how u = expr_good l m.0 (as_value _) (λ v. expr_good r m.1 (as_value _)
          (λ w. value_good how (gives_pointer here.laid r) p w u))
      expr_good (a_conversion from to e p) m how u =
          expr_good e m (as_value _) (λ x. value_good how false p (converted from to x) u)
      expr_good (a_discard e p) m how u = expr_good e m (as_value _) (λ v. value_good how false p nothing u)

      address_good : (l : LvalueTree) → LvalueMentions o c l → (go : Value → After) → ((v : Value) → Good (go v))
          → Good (address_then here l go)
      address_good (an_object n p) m go g = g (address_of here (object_of here.laid here.path n))
      address_good (an_element l i many cells p) m go g = address_good l m.0 _ (λ a. expr_good i m.1 (as_value _) (λ y.
          result_good (element here.laid many cells a y) p go g))
      address_good (a_pointed_element e i cells type p) m go g =
          expr_good e m.0 (as_value _) (λ x. expr_good i m.1 (as_value _) (λ y.
          result_good (moved here.laid false cells x y) p _
          (λ v. result_good (dereferenced here.laid here.path type v) p go g)))
      address_good (a_pointed e type p) m go g = expr_good e m (as_value _) (λ x.
          result_good (dereferenced here.laid here.path type x) p go g)
      address_good (an_arrow e type cell p) m go g = expr_good e m (as_value _) (λ x.
          result_good (dereferenced here.laid here.path type x) p _ (λ a. g (part here.laid cell a)))
      address_good (a_part l cell p) m go g = address_good l m _ (λ a. g (part here.laid cell a))

      arguments_good : (es : RvalueTrees) → AllMention o c es → (go : List Value → After)
          → ((vs : List Value) → Good (go vs))
          → Good (arguments_then here es go)
      arguments_good no_rvalues m go g = g []
      arguments_good (and_rvalue e es) m go g = expr_good e m.0 (as_value _)
          (λ v. arguments_good es m.1 _ (λ vs. g (v ∷ vs)))

    -- ## Declarations

    unused_good : (e : Option RvalueTree) → MayMention o c e → (go : After) → Good go → Good (unused_then here e go)
    unused_good None m go g l = g l
    unused_good (Some e) m go g l = expr_good e m (as_value _) (λ u. g) l

    condition_good : (e : Option RvalueTree) → MayMention o c e → (one other : After) → Good one → Good other
        → Good (condition_then here e one other)
    condition_good None m one other g h l = g l
    condition_good (Some e) m one other g h l = expr_good e m (as_branch one other) (g, h) l

    abbrev GivenMentioned : List GivenTree → Type 0
    GivenMentioned gs = All (λ (g : GivenTree). Mentions o c g.value) gs

    cell_good : (s : Scalar) (b : Bool) (gs : List GivenTree) → GivenMentioned gs → (go : Value → After)
        → ((v : Value) → Good (go v))
        → Good (cell_then here s b gs go)
    cell_good s true (g ∷ gs) t go h l =
        expr_good g.value (All-head (λ (g : GivenTree). Mentions o c g.value) g gs t) (as_value go) h l
    cell_good s true [] t go h l = h (zero_of s) l
    cell_good s false gs t go h l = h (zero_of s) l

    rest_mentioned : (b : Bool) (gs : List GivenTree) → GivenMentioned gs → GivenMentioned (rest_of b gs)
    rest_mentioned true (g ∷ gs) t =
        All-tail (λ (g : GivenTree). Mentions o c g.value) g gs t
    rest_mentioned true [] t = t
    rest_mentioned false gs t = t

    cells_good : (q : ℕ) (p : Place) (n k : ℕ) (gs : List GivenTree) → GivenMentioned gs → (go : After) → Good go
        → Good (cells_then here q p n k gs go)
    cells_good q p zero k gs t go h l = h l
    cells_good q p (suc n) k gs t go h l =
        cell_good (scalar_at here.laid q k) (is_given k gs) gs t _ (λ v.
        act_good here.laid (store_at (part here.laid k (base here.laid q)) (scalar_at here.laid q k) v p) _
        (store_good (part here.laid k (base here.laid q)) (scalar_at here.laid q k) v p) (λ u.
        cells_good q p n (suc k) (rest_of (is_given k gs) gs) (rest_mentioned (is_given k gs) gs t) go h)) l

    initialiser_good : (q : ℕ) (i : Option LocalInitialiserTree) → GivenMention o c i → (go : After) → Good go
        → Good (initialiser_then here q i go)
    initialiser_good q None m go h l = h l
    initialiser_good q (Some i) m go h l = cells_good q i.place (object_at here.laid q).cells 0 i.given m go h l

    locals_good : (ls : List LocalTree) → All (λ (l : LocalTree). GivenMention o c l.initialiser) ls → (go : After)
        → Good go → Good (locals_then here ls go)
    locals_good [] m go h l = h l
    locals_good (x ∷ ls) m go h l =
        act_good here.laid (clear_at here.laid (object_of here.laid here.path (Local x.object))) _
        (clear_good here.laid (object_of here.laid here.path (Local x.object))) (λ u.
        initialiser_good (object_of here.laid here.path (Local x.object)) x.initialiser
        (All-head (λ (l : LocalTree). GivenMention o c l.initialiser) x ls m) _
        (locals_good ls (All-tail (λ (l : LocalTree). GivenMention o c l.initialiser) x ls m) go h)) l

    -- ## Statements

    record GoodExits (e : Exits) : Type 0 where
      on : Good e.on
      breaks : Good e.breaks
      continues : Good e.continues
      returns : (v : Value) → Good (e.returns v)

    turns : (b : Bool) (x y : Next) → IsAnswerable x → IsAnswerable y → IsAnswerable (if b then x else y)
    turns true x y g h = g
    turns false x y g h = h

    abbrev GoodTurn : (After → After) → Type 0
    GoodTurn turn = (back : After) → Good back → Good (turn back)

    loop_good : (turn : After → After) → GoodTurn turn → (n : ℕ) → Good (loop_then turn n)
    loop_good turn t zero l = t (last Acts.Spins) (last_good Acts.Spins tt) l
    loop_good turn t (suc n) l =
        t (λ left. if nat_lt (length left) (length l) then loop_then turn n left else last Acts.Spins left)
        (λ left. turns (nat_lt (length left) (length l)) (loop_then turn n left) (last Acts.Spins left)
        (loop_good turn t n left) (last_good Acts.Spins tt left)) l

    over_good : (turn : After → After) → GoodTurn turn → Good (loop_over turn)
    over_good turn t l = loop_good turn t (length l) l

    returned_good : (e : Option RvalueTree) → MayMention o c e → (go : Value → After) → ((v : Value) → Good (go v))
        → Good (returned_then here e go)
    returned_good None m go g l = g nothing l
    returned_good (Some e) m go g l = expr_good e m (as_value go) g l

    inside_good : (e : Exits) (on : After) → GoodExits e → Good on → GoodExits (inside e on)
    inside_good e on h g = record { on = g; breaks = h.on; continues = g; returns = h.returns }

    on_good : (e : Exits) (on : After) → GoodExits e → Good on → GoodExits (record e { on = on })
    on_good e on h g = record { on = g; breaks = h.breaks; continues = h.continues; returns = h.returns }

    out_good : (e : Exits) → GoodExits e → GoodExits (record e { breaks = e.on })
    out_good e h = record { on = h.on; breaks = h.on; continues = h.continues; returns = h.returns }

    mutual
      stmt_good : (s : TypedTree) → StatementMentions o c s → (x : Exits) → GoodExits x → Good (stmt_then here s x)
      stmt_good (evaluates e) m x h = unused_good e m x.on h.on
      stmt_good (declares ls) m x h = locals_good ls m x.on h.on
      stmt_good (runs_block ss) m x h = block_good ss m x h
      stmt_good (branches e s) m x h = expr_good e m.0 (as_branch _ _) (stmt_good s m.1 x h, h.on)
      stmt_good (branches_else e s t) m x h =
          expr_good e m.0 (as_branch _ _) (stmt_good s m.1 x h, stmt_good t m.2 x h)
      stmt_good (loops_while e s) m x h = over_good _ (λ back g.
          expr_good e m.0 (as_branch _ _) (stmt_good s m.1 (inside x back) (inside_good x back h g), h.on))
      stmt_good (loops_do s e) m x h = over_good _ (λ back g.
          stmt_good s m.0 (inside x (expr_then here e (as_branch back x.on)))
          (inside_good x (expr_then here e (as_branch back x.on)) h (expr_good e m.1 (as_branch back x.on) (g, h.on))))
      stmt_good (loops_for first e d s) m x h = stmt_good first m.0 _
          (on_good x _ h (over_good _ (λ back g.
          condition_good e m.1 _ x.on
          (stmt_good s m.3 (inside x (unused_then here d back))
          (inside_good x (unused_then here d back) h (unused_good d m.2 back g))) h.on)))
      stmt_good (selects t e cs) m x h = expr_good e m.0 (as_value _) (λ v.
          case_good v cs m.1 (record x { breaks = x.on }) (out_good x h) _
          (default_good cs m.1 (record x { breaks = x.on }) (out_good x h)))
      stmt_good breaks m x h = h.breaks
      stmt_good continues m x h = h.continues
      stmt_good (returns e) m x h = returned_good e m x.returns h.returns
      stmt_good (locks n p) m x h = act_good here.laid (Acts.Lock n p) _ tt (λ u. h.on)
      stmt_good (unlocks n p) m x h = act_good here.laid (Acts.Unlock n p) _ tt (λ u. h.on)
      stmt_good yields m x h = act_good here.laid Acts.Yield _ tt (λ u. h.on)

      block_good : (ss : TypedTrees) → StatementsMention o c ss → (x : Exits) → GoodExits x
          → Good (block_then here ss x)
      block_good no_statements m x h = h.on
      block_good (and_statement s ss) m x h =
          stmt_good s m.0 _ (on_good x (block_then here ss x) h (block_good ss m.1 x h))

      cases_good : (cs : TypedCases) → CasesMention o c cs → (x : Exits) → GoodExits x → Good (cases_then here cs x)
      cases_good no_typed_cases m x h = h.on
      cases_good (and_typed_case (a_label z p) cs) m x h = cases_good cs m.1 x h
      cases_good (and_typed_case (a_default_label p) cs) m x h = cases_good cs m.1 x h
      cases_good (and_typed_case (a_labelled_step s) cs) m x h =
          stmt_good s m.0 _ (on_good x (cases_then here cs x) h (cases_good cs m.1 x h))

      case_good : (v : Value) (cs : TypedCases) → CasesMention o c cs → (x : Exits) → GoodExits x → (other : After)
          → Good other → Good (case_then here v cs x other)
      case_good v no_typed_cases m x h other g = g
      case_good v (and_typed_case (a_label z p) cs) m x h other g =
          if_good (is_case z v) _ _ (cases_good cs m.1 x h) (case_good v cs m.1 x h other g)
      case_good v (and_typed_case (a_default_label p) cs) m x h other g = case_good v cs m.1 x h other g
      case_good v (and_typed_case (a_labelled_step s) cs) m x h other g = case_good v cs m.1 x h other g

      default_good : (cs : TypedCases) → CasesMention o c cs → (x : Exits) → GoodExits x → Good (default_then here cs x)
      default_good no_typed_cases m x h = h.on
      default_good (and_typed_case (a_label z p) cs) m x h = default_good cs m.1 x h
      default_good (and_typed_case (a_default_label p) cs) m x h = cases_good cs m.1 x h
      default_good (and_typed_case (a_labelled_step s) cs) m x h = default_good cs m.1 x h

-- ## Bodies

passed_good : (laid : LaidTree) (path k : ℕ) (vs : List Value) (p : Place) (go : After) → Good go
    → Good (passed_then laid path k vs p go)
passed_good laid path k [] p go h l = h l
passed_good laid path k (v ∷ vs) p go h l =
    act_good laid (store_at (base laid (object_of laid path (Local k)))
    (scalar_at laid (object_of laid path (Local k)) 0) v p) _
    (store_good (base laid (object_of laid path (Local k))) (scalar_at laid (object_of laid path (Local k)) 0) v p)
    (λ u. passed_good laid path (suc k) vs p go h) l

in_order : (t : IntType) → int_le (lo_of t) (hi_of t) ≡ true
in_order Ints.Bool = refl
in_order Ints.Char = refl
in_order Ints.UChar = refl
in_order Ints.Short = refl
in_order Ints.UShort = refl
in_order Ints.Int = refl
in_order Ints.UInt = refl
in_order Ints.Long = refl
in_order Ints.ULong = refl
in_order Ints.LLong = refl
in_order Ints.ULLong = refl

fallen_good : (laid : LaidTree) (t : CType) (go : Value → After) → ((v : Value) → Good (go v))
    → Good (fallen_then laid t go)
fallen_good laid (Types.Int t) go h l = act_good laid (Acts.Chosen (lo_of t) (hi_of t)) go (in_order t) h l
fallen_good laid Types.Void go h l = h nothing l
fallen_good laid (Types.Pointer q) go h l = h nothing l
fallen_good laid (Types.Array e n) go h l = h nothing l
fallen_good laid (Types.Struct k) go h l = h nothing l

-- a body loads no pointer as volatile, and the bounds of its inputs are in order
abbrev pub IsAnswerableBody : Option TypedBodyTree → Type 0
IsAnswerableBody None = Unit {0}
IsAnswerableBody (Some b) = (o : ℕ → Bool) × (c : List ℕ) × StatementsMention o c b.statements

module _ (laid : LaidTree)
    (bodies : (k : ℕ) → IsAnswerableBody (get_or laid.file.functions k no_typed_function).body) where
  code_good : (here : Here)
      → ((site : ℕ) (vs : List Value) (p : Place) (go : Value → After) → ((v : Value) → Good (go v))
      → Good (here.call site vs p go))
      → (t : CType) (b : Option TypedBodyTree) → IsAnswerableBody b → (go : Value → After) → ((v : Value) → Good (go v))
      → Good (code_then here t b go)
  code_good here calls t None h go g l = g nothing l
  code_good here calls t (Some b) h go g l =
      block_good h.0 h.1 here calls b.statements h.2 (exits_of here.laid t go) (record {
        on = fallen_good here.laid t go g;
        breaks = last_good Acts.Misfit tt;
        continues = last_good Acts.Misfit tt;
        returns = g;
      }) l

  body_good : (depth path : ℕ) (go : Value → After) → ((v : Value) → Good (go v)) → Good (body_then laid depth path go)
  body_good zero path go g l = g nothing l
  body_good (suc depth) path go g l =
      code_good (here_with laid (body_then laid depth) path)
      (λ site vs p more h. passed_good laid (callee laid path site) 0 vs p
      (body_then laid depth (callee laid path site) more)
      (body_good depth (callee laid path site) more h))
      (result_type laid (function_at laid path)) (function_at laid path).body
      (bodies (let x = path_at laid path in x.function)) go g l

  pub next_good : (i : ℕ) (answers : List Answer) → IsAnswerable (next laid i answers)
  unfolding next
  next_good i answers =
      body_good (length laid.file.functions) (first_path laid i) _ (λ v. last_good Acts.Ended tt) answers
