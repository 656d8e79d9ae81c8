-- What the direct style gives is what the continuations give.
use Rattle.std.proofs.Common.{◌≡◌, ℕ, zero, suc, ◌+◌, ◌≤◌, refl, ap, sym, ◌∙◌, Bool, true, false, not, ltb, if◌then◌else◌, List, [], ◌∷◌, length, drop, slice_get, Result, Ok, Err, Option, Some, None, arith}
use Rattle.std.proofs.lemmas.List.{length-drop}
use Rattle.std.proofs.lemmas.Bool.{ltb-true}
use Rattle.std.specs.Prelude.{pos}
use Rattle.tm_cint.specs.declared.Class.{Class}
use Rattle.tm_cint.specs.IntTypes.{lo_of, hi_of}
use Rattle.tm_terms.specs.declared.places.Place.{Place}
use Rattle.tm_typed.specs.declared.types.CType.{CType}
use Rattle.tm_typed.specs.declared.types.CType.TheVariants as Types
use Rattle.tm_typed.specs.declared.types.Scalar.{Scalar}
use Rattle.tm_typed.specs.declared.types.Scalar.TheVariants as Scalars
use Rattle.tm_typed.specs.declared.expressions.Step.{Step}
use Rattle.tm_typed.specs.declared.scopes.ObjectNumber.TheVariants.{Local}
use Rattle.tm_typed.specs.TypedTrees.{RvalueTree, a_constant, a_folded, a_null, a_load, an_address}
use Rattle.tm_typed.specs.TypedTrees.{a_structure}
use Rattle.tm_typed.specs.TypedTrees.{the_same, a_unary, a_binary, a_comparison_of_pointers, a_move, a_not}
use Rattle.tm_typed.specs.TypedTrees.{an_and}
use Rattle.tm_typed.specs.TypedTrees.{an_or, a_choice, an_assignment, a_compound, a_compound_move}
use Rattle.tm_typed.specs.TypedTrees.{a_unit_step}
use Rattle.tm_typed.specs.TypedTrees.{a_pointer_step, a_function_call, an_input_value, a_probe, a_comma}
use Rattle.tm_typed.specs.TypedTrees.{a_conversion}
use Rattle.tm_typed.specs.TypedTrees.{a_discard, LvalueTree, an_object, an_element, a_pointed_element}
use Rattle.tm_typed.specs.TypedTrees.{a_pointed}
use Rattle.tm_typed.specs.TypedTrees.{an_arrow, a_part, lvalue_place, RvalueTrees, no_rvalues, and_rvalue}
use Rattle.tm_typed.specs.TypedStatements.{GivenTree, LocalInitialiserTree, LocalTree, TypedTree, evaluates}
use Rattle.tm_typed.specs.TypedStatements.{declares}
use Rattle.tm_typed.specs.TypedStatements.{runs_block, branches, branches_else, loops_while, loops_do}
use Rattle.tm_typed.specs.TypedStatements.{loops_for}
use Rattle.tm_typed.specs.TypedStatements.{selects, breaks, continues, returns, locks, unlocks, yields}
use Rattle.tm_typed.specs.TypedStatements.{TypedTrees}
use Rattle.tm_typed.specs.TypedStatements.{no_statements, and_statement, a_label, a_default_label}
use Rattle.tm_typed.specs.TypedStatements.{a_labelled_step, TypedCases, no_typed_cases, and_typed_case}
use Rattle.tm_typed.specs.Functions.{TypedBodyTree}
use Rattle.tm_laid.specs.Layouts.{LaidTree, object_at, first_path, callee, object_of}
use Rattle.concrete_values.specs.declared.values.Value.{Value}
use Rattle.concrete_values.specs.declared.values.Value.TheVariants.{Number}
use Rattle.concrete_values.specs.declared.values.Answer.{Answer}
use Rattle.concrete_values.specs.declared.actions.Next.{Next}
use Rattle.concrete_values.specs.declared.actions.Next.TheVariants as Acts
use Rattle.concrete_values.specs.Values.{truth_value, is_true}
use Rattle.concrete_values.specs.Operators.{binary, unary, is_case}
use Rattle.concrete_values.specs.Pointers.{base, part, element, moved, dereferenced, usable, compared}
use Rattle.concrete_values.specs.Pointers.{is_compared}
use Rattle.concrete_values.specs.Actions.{load_at, store_at, clear_at, answer_of}
use Rattle.concrete_steps.specs.Places.{result_type, gives_pointer, rvalue_place}
use Rattle.concrete_steps.specs.NextAction.{After, last, fit_then, act_then, result_then, Use, as_value, as_branch, tested, value_used, truth_used, scalar_at, compound_result, step_operator, step_value, Here, stored_then, expr_then, address_then, arguments_then, unused_then, condition_then, is_given, cell_then, rest_of, cells_then, initialiser_then, local_then, locals_then, Exits, loop_then, loop_over as loop_over_then, returned_then, inside, stmt_then, block_then, cases_then, case_then, default_then, passed_then, fallen_then, function_at, exits_of, here_with, code_then, body_then, next}
use Rattle.task_interpreter.specs.declared.answers.Gave.{Gave}
use Rattle.task_interpreter.specs.declared.answers.Held.{Held}
use Rattle.task_interpreter.specs.declared.answers.Flow.{Flow}
use Rattle.task_interpreter.specs.declared.answers.Flow.TheVariants.{Goes, Breaks, Continues, Returns}
use Rattle.task_interpreter.specs.reading.Direct.{gave, fit_at, act_at, act_ran, last_in, last_at, left_at, run_then, calculated, stored, changed, stepped, result_by, tried, Seat, held_by, loaded, held_then, Values, with_value, and_values, values_then, truth_ran, Wanted, a_value, a_branch, as_wanted, used_ran, address_ran, arguments_ran, value_ran, branch_ran, optional_ran, condition_ran, cell_ran, set_ran, cells_ran, initialiser_ran, local_ran, locals_ran, flow_then, goes_on, comes_back, turned, loop_ran, loop_over, came_on, behind_ran, step_ran, turn_ran, left_switch, statement_ran, block_ran, cases_ran, case_ran, default_ran, passed_ran, fell, left_body, called, code_ran, body_ran, ended, next_ran}
use Rattle.task_interpreter.proofs.Loops.{ge-ltb}

-- what comes after a part
abbrev pub after : List Answer → Result Gave Next → (Value → After) → Next
after answers (Ok g) go = go g.value (drop g.at answers)
after answers (Err n) go = n

abbrev pub after_values : List Answer → Result Values Next → (List Value → After) → Next
after_values answers (Ok vs) go = go vs.values (drop vs.at answers)
after_values answers (Err n) go = n

-- ## Answers that are left

rest_none : (answers : List Answer) (at : ℕ) → slice_get answers at ≡ None → drop at answers ≡ []
rest_none [] zero e = refl
rest_none [] (suc at) e = refl
rest_none (a ∷ answers) zero e = cc
rest_none (a ∷ answers) (suc at) e = rest_none answers at e

rest_some : (answers : List Answer) (at : ℕ) (a : Answer) → slice_get answers at ≡ Some a → drop at answers ≡ a ∷ drop (suc at) answers
rest_some [] zero a e = cc
rest_some [] (suc at) a e = cc
rest_some (b ∷ answers) zero a e = ap (λ z. z ∷ answers) (let same : b ≡ a = cc in same)
rest_some (b ∷ answers) (suc at) a e = rest_some answers at a e

fit_by : (answers : List Answer) (at : ℕ) (go : Value → After) (o : Option Value) → fit_then o go (drop (suc at) answers) ≡ after answers (fit_at o at) go
fit_by answers at go (Some v) = let same : suc at ≡ at + 1 = omega arith in ap (λ k. go v (drop k answers)) same
fit_by answers at go None = refl

act_by : (laid : LaidTree) (answers : List Answer) (n : Next) (at : ℕ) (go : Value → After) (o : Option Answer) → slice_get answers at ≡ o
    → act_then laid n go (drop at answers) ≡ after answers (act_at laid o n at) go
act_by laid answers n at go None e = ap (act_then laid n go) (rest_none answers at e)
act_by laid answers n at go (Some a) e = ap (act_then laid n go) (rest_some answers at a e) ∙ fit_by answers at go (answer_of laid n a)

last_by : (answers : List Answer) (n : Next) (at : ℕ) (o : Option Answer) → slice_get answers at ≡ o → last n (drop at answers) ≡ last_in o n
last_by answers n at None e = ap (last n) (rest_none answers at e)
last_by answers n at (Some a) e = ap (last n) (rest_some answers at a e)

last_misfit : (rest : List Answer) → last Acts.Misfit rest ≡ Acts.Misfit
last_misfit [] = refl
last_misfit (a ∷ rest) = refl

-- ## Truth

truth_law : (b : Bool) (how : Use) (p : Place) (rest : List Answer) → truth_used how b rest ≡ value_used how false p (truth_value b) rest
unfolding is_true
truth_law true (as_value go) p rest = refl
truth_law false (as_value go) p rest = refl
truth_law true (as_branch one other) p rest = refl
truth_law false (as_branch one other) p rest = refl

either_law : (b : Bool) (how : Use) (p : Place) (rest : List Answer) → (if b then truth_used how true else truth_used how false) rest ≡ value_used how false p (truth_value b) rest
either_law true how p rest = truth_law true how p rest
either_law false how p rest = truth_law false how p rest

negation_law : (b : Bool) (how : Use) (p : Place) (rest : List Answer) → (if b then truth_used how false else truth_used how true) rest ≡ value_used how false p (truth_value (not b)) rest
negation_law true how p rest = truth_law false how p rest
negation_law false how p rest = truth_law true how p rest

-- what a use does with a value
abbrev pub with_use : Use → Value → After
with_use (as_value go) v = go v
with_use (as_branch one other) v = if is_true v then one else other

abbrev pub wanted_of : Use → Wanted
wanted_of (as_value go) = a_value
wanted_of (as_branch one other) = a_branch

-- a call gives the same in both
pub record Agrees (answers : List Answer) (hc : ℕ → List Value → Place → (Value → After) → After) (sc : ℕ → List Value → Place → ℕ → Result Gave Next) : Type 0 where
  pub call : (site : ℕ) (vs : List Value) (p : Place) (at : ℕ) (go : Value → After) → hc site vs p go (drop at answers) ≡ after answers (sc site vs p at) go

-- ## Parts

module _ (laid : LaidTree) (answers : List Answer) where
  act_law : (n : Next) (go : Value → After) (at : ℕ) → act_then laid n go (drop at answers) ≡ after answers (act_ran laid answers n at) go
  unfolding act_ran
  act_law n go at = act_by laid answers n at go (slice_get answers at) refl

  last_law : (n : Next) (at : ℕ) → last n (drop at answers) ≡ last_at answers n at
  unfolding last_at
  last_law n at = last_by answers n at (slice_get answers at) refl

  after_then : (k : Value → After) (f : Value → ℕ → Result Gave Next) (go : Value → After) (r : Result Gave Next)
      → ((v : Value) (at : ℕ) → k v (drop at answers) ≡ after answers (f v at) go) → after answers r k ≡ after answers (run_then r f) go
  unfolding run_then
  after_then k f go (Ok g) h = h g.value g.at
  after_then k f go (Err n) h = refl

  same_after : (k go : Value → After) (r : Result Gave Next) → ((v : Value) (rest : List Answer) → k v rest ≡ go v rest) → after answers r k ≡ after answers r go
  same_after k go (Ok g) h = h g.value (drop g.at answers)
  same_after k go (Err n) h = refl

  calc_law : (r : Result Value Class) (p : Place) (go : Value → After) (at : ℕ) → result_then r p go (drop at answers) ≡ after answers (calculated answers r p at) go
  calc_law (Ok v) p go at = refl
  calc_law (Err class) p go at = last_law (Acts.Fault class p) at

  chain_law : (r : Result Value Class) (f : Value → Result Value Class) (p : Place) (go : Value → After) (at : ℕ)
      → result_then r p (λ v. result_then (f v) p go) (drop at answers) ≡ after answers (calculated answers (result_by r f) p at) go
  chain_law (Ok v) f p go at = calc_law (f v) p go at
  chain_law (Err class) f p go at = last_law (Acts.Fault class p) at

  map_law : (r : Result Value Class) (f : Value → Value) (p : Place) (go : Value → After) (at : ℕ)
      → result_then r p (λ v. go (f v)) (drop at answers) ≡ after answers (calculated answers (result_by r (λ v. Ok (f v))) p at) go
  map_law (Ok v) f p go at = refl
  map_law (Err class) f p go at = last_law (Acts.Fault class p) at

  compare_law : (equal : Bool) (how : Use) (p : Place) (at : ℕ) (r q : Result Value Class)
      → result_then r p (λ u. result_then q p (λ v. truth_used how (is_compared equal u v))) (drop at answers)
      ≡ after answers (calculated answers (result_by r (λ u. result_by q (λ v. Ok (compared equal u v)))) p at) (value_used how false p)
  compare_law equal how p at (Ok u) (Ok v) = truth_law (is_compared equal u v) how p (drop at answers)
  compare_law equal how p at (Ok u) (Err class) = last_law (Acts.Fault class p) at
  compare_law equal how p at (Err class) q = last_law (Acts.Fault class p) at

  stored_law : (a : Value) (s : Scalar) (v : Value) (p : Place) (k : Value → After) (at : ℕ) → stored_then laid a s v p k (drop at answers) ≡ after answers (stored laid answers a s v p at) k
  unfolding stored
  stored_law a s v p k at =
      act_law (store_at a s v p) (λ u. k v) at ∙ after_then (λ u. k v) (λ u at1. Ok (gave v at1)) k (act_ran laid answers (store_at a s v p) at) (λ u at1. refl)

  changed_law : (a : Value) (s : Scalar) (r : Result Value Class) (p : Place) (k : Value → After) (at : ℕ)
      → result_then r p (λ v. stored_then laid a s v p k) (drop at answers) ≡ after answers (changed laid answers a s r p at) k
  unfolding changed
  changed_law a s (Ok v) p k at = stored_law a s v p k at
  changed_law a s (Err class) p k at = last_law (Acts.Fault class p) at

  stepped_law : (step : Step) (a x : Value) (s : Scalar) (r : Result Value Class) (p : Place) (k : Value → After) (at : ℕ)
      → result_then r p (λ v. stored_then laid a s v p (λ w. k (step_value step x w))) (drop at answers)
      ≡ after answers (stepped laid answers step (record { address = a; value = x; at = at }) s r p) k
  unfolding stepped
  stepped_law step a x s r p k at =
      changed_law a s r p (λ w. k (step_value step x w)) at
      ∙ after_then (λ w. k (step_value step x w)) (λ w at1. Ok (gave (step_value step x w) at1)) k (changed laid answers a s r p at) (λ w at1. refl)

  held_by_law : (k : Value → After) (f : Held → Result Gave Next) (go : Value → After) (a : Value) (r : Result Gave Next)
      → ((x : Value) (at : ℕ) → k x (drop at answers) ≡ after answers (f (record { address = a; value = x; at = at })) go)
      → after answers r k ≡ after answers (held_then (held_by a r) f) go
  unfolding held_then
  held_by_law k f go a (Ok g) h = h g.value g.at
  held_by_law k f go a (Err n) h = refl

  held_law : (k : Value → Value → After) (f : Held → Result Gave Next) (go : Value → After) (s : Scalar) (volatile : Bool) (p : Place) (r : Result Gave Next)
      → ((a x : Value) (at : ℕ) → k a x (drop at answers) ≡ after answers (f (record { address = a; value = x; at = at })) go)
      → after answers r (λ a. act_then laid (load_at a s volatile p) (k a)) ≡ after answers (held_then (loaded laid answers r s volatile p) f) go
  unfolding loaded held_then
  held_law k f go s volatile p (Ok g) h =
      act_law (load_at g.value s volatile p) (k g.value) g.at
      ∙ held_by_law (k g.value) f go g.value (act_ran laid answers (load_at g.value s volatile p) g.at) (h g.value)
  held_law k f go s volatile p (Err n) h = refl

  choice_law : (b : Bool) (x y : After) (r r' : Result Gave Next) (go : Value → After) (rest : List Answer)
      → x rest ≡ after answers r go → y rest ≡ after answers r' go → (if b then x else y) rest ≡ after answers (if b then r else r') go
  choice_law true x y r r' go rest h h' = h
  choice_law false x y r r' go rest h h' = h'

  values_law : (site : ℕ) (p : Place) (go : Value → After) (hc : ℕ → List Value → Place → (Value → After) → After) (sc : ℕ → List Value → Place → ℕ → Result Gave Next)
      → Agrees answers hc sc → (r : Result Values Next)
      → after_values answers r (λ vs. hc site vs p go) ≡ after answers (values_then r (λ vs at1. sc site vs p at1)) go
  unfolding values_then
  values_law site p go hc sc agree (Ok vs) = agree.call site vs.values p vs.at go
  values_law site p go hc sc agree (Err n) = refl

  with_law : (v : Value) (go : List Value → After) (r : Result Values Next) → after_values answers r (λ vs. go (v ∷ vs)) ≡ after_values answers (with_value v r) go
  with_law v go (Ok vs) = refl
  with_law v go (Err n) = refl

  and_law : (k : Value → After) (f : ℕ → Result Values Next) (go : List Value → After) (r : Result Gave Next)
      → ((v : Value) (at : ℕ) → k v (drop at answers) ≡ after_values answers (f at) (λ vs. go (v ∷ vs)))
      → after answers r k ≡ after_values answers (and_values r f) go
  unfolding and_values
  and_law k f go (Ok g) h = h g.value g.at ∙ with_law g.value go (f g.at)
  and_law k f go (Err n) h = refl

-- ## Expressions

module _ (laid : LaidTree) (answers : List Answer) (path : ℕ) (hc : ℕ → List Value → Place → (Value → After) → After) (sc : ℕ → List Value → Place → ℕ → Result Gave Next) (agree : Agrees answers hc sc) where
  abbrev here : Here
  here = record { laid = laid; path = path; call = hc }

  abbrev s : Seat
  s = record { laid = laid; answers = answers; path = path; call = sc }

  wanted_law : (how : Use) (e : RvalueTree) (r : Result Gave Next)
      → after answers r (value_used how (gives_pointer laid e) (rvalue_place e)) ≡ after answers (as_wanted s (wanted_of how) e r) (with_use how)
  unfolding run_then tried
  wanted_law (as_value go) e (Ok g) = refl
  wanted_law (as_value go) e (Err n) = refl
  wanted_law (as_branch one other) e (Ok g) = calc_law laid answers (tested (gives_pointer laid e) g.value) (rvalue_place e) (λ u. if is_true u then one else other) g.at
  wanted_law (as_branch one other) e (Err n) = refl

  truth_then : (how : Use) (p : Place) (r : Result Gave Next)
      → after answers r (with_use (as_branch (truth_used how true) (truth_used how false))) ≡ after answers (truth_ran r) (value_used how false p)
  unfolding truth_ran
  truth_then how p r = after_then laid answers _ _ (value_used how false p) r (λ y at. either_law (is_true y) how p (drop at answers))

  mutual
    value_law : (e : RvalueTree) (how : Use) (at : ℕ) → expr_then here e how (drop at answers) ≡ after answers (used_ran s e (wanted_of how) at) (with_use how)
    value_law (a_folded z e) (as_value go) at = refl
    value_law (a_folded z e) (as_branch one other) at = value_law e (as_branch one other) at
    value_law (a_constant t z p) how at = wanted_law how (a_constant t z p) _
    value_law (a_null p) how at = wanted_law how (a_null p) _
    value_law (a_load c volatile l) how at =
        address_law l _ at ∙ after_then laid answers _ _ (value_used how (gives_pointer laid (a_load c volatile l)) (lvalue_place l)) (address_ran s l at)
        (λ a at1. act_law laid answers (load_at a c volatile (lvalue_place l)) (value_used how (gives_pointer laid (a_load c volatile l)) (lvalue_place l)) at1)
        ∙ wanted_law how (a_load c volatile l) _
    value_law (an_address l p) how at = address_law l (value_used how true p) at ∙ wanted_law how (an_address l p) (address_ran s l at)
    value_law (a_structure l) how at =
        address_law l _ at ∙ after_then laid answers _ _ (value_used how false (lvalue_place l)) (address_ran s l at) (λ a at1. refl)
        ∙ wanted_law how (a_structure l) _
    value_law (the_same e p) how at =
        value_law e (as_value (value_used how (gives_pointer laid e) p)) at
        ∙ same_after laid answers _ (value_used how (gives_pointer laid e) p) (used_ran s e a_value at) (λ v rest. refl)
        ∙ wanted_law how (the_same e p) (used_ran s e a_value at)
    value_law (a_unary o t e p) how at =
        value_law e (as_value _) at ∙ after_then laid answers _ _ (value_used how false p) (used_ran s e a_value at) (λ x at1. calc_law laid answers (unary o t x) p (value_used how false p) at1)
        ∙ wanted_law how (a_unary o t e p) _
    value_law (a_binary o t l r p) how at =
        value_law l (as_value _) at ∙ after_then laid answers _ _ (value_used how false p) (used_ran s l a_value at) (λ x at1.
        value_law r (as_value _) at1 ∙ after_then laid answers _ _ (value_used how false p) (used_ran s r a_value at1) (λ y at2. calc_law laid answers (binary o t x y) p (value_used how false p) at2))
        ∙ wanted_law how (a_binary o t l r p) _
    value_law (a_comparison_of_pointers equal l r p) how at =
        value_law l (as_value _) at ∙ after_then laid answers _ _ (value_used how false p) (used_ran s l a_value at) (λ x at1.
        value_law r (as_value _) at1 ∙ after_then laid answers _ _ (value_used how false p) (used_ran s r a_value at1) (λ y at2. compare_law laid answers equal how p at2 (usable x) (usable y)))
        ∙ wanted_law how (a_comparison_of_pointers equal l r p) _
    value_law (a_move minus cells true e i p) how at =
        value_law i (as_value _) at ∙ after_then laid answers _ _ (value_used how true p) (used_ran s i a_value at) (λ y at1.
        value_law e (as_value _) at1 ∙ after_then laid answers _ _ (value_used how true p) (used_ran s e a_value at1) (λ x at2. calc_law laid answers (moved laid minus cells x y) p (value_used how true p) at2))
        ∙ wanted_law how (a_move minus cells true e i p) _
    value_law (a_move minus cells false e i p) how at =
        value_law e (as_value _) at ∙ after_then laid answers _ _ (value_used how true p) (used_ran s e a_value at) (λ x at1.
        value_law i (as_value _) at1 ∙ after_then laid answers _ _ (value_used how true p) (used_ran s i a_value at1) (λ y at2. calc_law laid answers (moved laid minus cells x y) p (value_used how true p) at2))
        ∙ wanted_law how (a_move minus cells false e i p) _
    value_law (a_not e p) how at =
        value_law e (as_branch _ _) at ∙ after_then laid answers _ _ (value_used how false p) (used_ran s e a_branch at) (λ x at1. negation_law (is_true x) how p (drop at1 answers))
        ∙ wanted_law how (a_not e p) _
    value_law (an_and l r p) how at =
        value_law l (as_branch _ _) at ∙ after_then laid answers _ _ (value_used how false p) (used_ran s l a_branch at) (λ x at1.
        choice_law laid answers (is_true x) _ _ _ _ (value_used how false p) (drop at1 answers)
        (value_law r (as_branch (truth_used how true) (truth_used how false)) at1 ∙ truth_then how p (used_ran s r a_branch at1))
        (truth_law false how p (drop at1 answers)))
        ∙ wanted_law how (an_and l r p) _
    value_law (an_or l r p) how at =
        value_law l (as_branch _ _) at ∙ after_then laid answers _ _ (value_used how false p) (used_ran s l a_branch at) (λ x at1.
        choice_law laid answers (is_true x) _ _ _ _ (value_used how false p) (drop at1 answers)
        (truth_law true how p (drop at1 answers))
        (value_law r (as_branch (truth_used how true) (truth_used how false)) at1 ∙ truth_then how p (used_ran s r a_branch at1)))
        ∙ wanted_law how (an_or l r p) _
    value_law (a_choice c x y p) how at =
        value_law c (as_branch _ _) at ∙ after_then laid answers _ _ (value_used how (gives_pointer laid x) p) (used_ran s c a_branch at) (λ u at1.
        choice_law laid answers (is_true u) _ _ _ _ (value_used how (gives_pointer laid x) p) (drop at1 answers)
        (value_law x (as_value (value_used how (gives_pointer laid x) p)) at1 ∙ same_after laid answers _ (value_used how (gives_pointer laid x) p) (used_ran s x a_value at1) (λ v rest. refl))
        (value_law y (as_value (value_used how (gives_pointer laid x) p)) at1 ∙ same_after laid answers _ (value_used how (gives_pointer laid x) p) (used_ran s y a_value at1) (λ v rest. refl)))
        ∙ wanted_law how (a_choice c x y p) _
    value_law (an_assignment c l e p) how at =
        address_law l _ at ∙ after_then laid answers _ _ (value_used how (gives_pointer laid (an_assignment c l e p)) p) (address_ran s l at) (λ a at1.
        value_law e (as_value _) at1 ∙ after_then laid answers _ _ (value_used how (gives_pointer laid (an_assignment c l e p)) p) (used_ran s e a_value at1)
        (λ v at2. stored_law laid answers a c v p (value_used how (gives_pointer laid (an_assignment c l e p)) p) at2))
        ∙ wanted_law how (an_assignment c l e p) _
    value_law (a_compound o cell of volatile l e p) how at =
        address_law l _ at ∙ held_law laid answers _ _ (value_used how false p) (Scalars.Int cell) volatile (lvalue_place l) (address_ran s l at) (λ a x at1.
        value_law e (as_value _) at1 ∙ after_then laid answers _ _ (value_used how false p) (used_ran s e a_value at1)
        (λ y at2. changed_law laid answers a (Scalars.Int cell) (compound_result o cell of x y) p (value_used how false p) at2))
        ∙ wanted_law how (a_compound o cell of volatile l e p) _
    value_law (a_compound_move minus cells class l e p) how at =
        address_law l _ at ∙ held_law laid answers _ _ (value_used how true p) (Scalars.Pointer class) false (lvalue_place l) (address_ran s l at) (λ a x at1.
        value_law e (as_value _) at1 ∙ after_then laid answers _ _ (value_used how true p) (used_ran s e a_value at1)
        (λ y at2. changed_law laid answers a (Scalars.Pointer class) (moved laid minus cells x y) p (value_used how true p) at2))
        ∙ wanted_law how (a_compound_move minus cells class l e p) _
    value_law (a_unit_step step cell of volatile l p) how at =
        address_law l _ at ∙ held_law laid answers _ _ (value_used how false p) (Scalars.Int cell) volatile (lvalue_place l) (address_ran s l at) (λ a x at1.
        stepped_law laid answers step a x (Scalars.Int cell) (compound_result (step_operator step) cell of x (Number (pos 1))) p (value_used how false p) at1)
        ∙ wanted_law how (a_unit_step step cell of volatile l p) _
    value_law (a_pointer_step step cells class l p) how at =
        address_law l _ at ∙ held_law laid answers _ _ (value_used how true p) (Scalars.Pointer class) false (lvalue_place l) (address_ran s l at) (λ a x at1.
        stepped_law laid answers step a x (Scalars.Pointer class) (moved laid step.minus cells x (Number (pos 1))) p (value_used how true p) at1)
        ∙ wanted_law how (a_pointer_step step cells class l p) _
    value_law (a_function_call f site es p) how at =
        arguments_law es _ at ∙ values_law laid answers site p (value_used how (gives_pointer laid (a_function_call f site es p)) p) hc sc agree (arguments_ran s es at)
        ∙ wanted_law how (a_function_call f site es p) _
    value_law (an_input_value low high p) how at = act_law laid answers (Acts.Chosen low high) (value_used how false p) at ∙ wanted_law how (an_input_value low high p) _
    value_law (a_probe m p) how at = act_law laid answers (Acts.Probe m p) (value_used how false p) at ∙ wanted_law how (a_probe m p) _
    value_law (a_comma l r p) how at =
        value_law l (as_value _) at ∙ after_then laid answers _ _ (value_used how (gives_pointer laid r) p) (used_ran s l a_value at) (λ u at1.
        value_law r (as_value (value_used how (gives_pointer laid r) p)) at1 ∙ same_after laid answers _ (value_used how (gives_pointer laid r) p) (used_ran s r a_value at1) (λ v rest. refl))
        ∙ wanted_law how (a_comma l r p) _
    value_law (a_conversion from to e p) how at =
        value_law e (as_value _) at ∙ after_then laid answers _ _ (value_used how false p) (used_ran s e a_value at) (λ x at1. refl)
        ∙ wanted_law how (a_conversion from to e p) _
    value_law (a_discard e p) how at =
        value_law e (as_value _) at ∙ after_then laid answers _ _ (value_used how false p) (used_ran s e a_value at) (λ x at1. refl)
        ∙ wanted_law how (a_discard e p) _

    address_law : (l : LvalueTree) (go : Value → After) (at : ℕ) → address_then here l go (drop at answers) ≡ after answers (address_ran s l at) go
    address_law (an_object o p) go at = refl
    address_law (an_element l i n cells p) go at =
        address_law l _ at ∙ after_then laid answers _ _ go (address_ran s l at) (λ a at1.
        value_law i (as_value _) at1 ∙ after_then laid answers _ _ go (used_ran s i a_value at1) (λ y at2. calc_law laid answers (element laid n cells a y) p go at2))
    address_law (a_pointed_element e i cells type p) go at =
        value_law e (as_value _) at ∙ after_then laid answers _ _ go (used_ran s e a_value at) (λ x at1.
        value_law i (as_value _) at1 ∙ after_then laid answers _ _ go (used_ran s i a_value at1)
        (λ y at2. chain_law laid answers (moved laid false cells x y) (dereferenced laid path type) p go at2))
    address_law (a_pointed e type p) go at =
        value_law e (as_value _) at ∙ after_then laid answers _ _ go (used_ran s e a_value at) (λ x at1. calc_law laid answers (dereferenced laid path type x) p go at1)
    address_law (an_arrow e type cell p) go at =
        value_law e (as_value _) at ∙ after_then laid answers _ _ go (used_ran s e a_value at) (λ x at1. map_law laid answers (dereferenced laid path type x) (part laid cell) p go at1)
    address_law (a_part l cell p) go at =
        address_law l _ at ∙ after_then laid answers _ _ go (address_ran s l at) (λ a at1. refl)

    arguments_law : (es : RvalueTrees) (go : List Value → After) (at : ℕ) → arguments_then here es go (drop at answers) ≡ after_values answers (arguments_ran s es at) go
    arguments_law no_rvalues go at = refl
    arguments_law (and_rvalue e es) go at =
        value_law e (as_value _) at ∙ and_law laid answers _ (λ at1. arguments_ran s es at1) go (used_ran s e a_value at) (λ v at1. arguments_law es (λ vs. go (v ∷ vs)) at1)

  plain_law : (e : RvalueTree) (go : Value → After) (at : ℕ) → expr_then here e (as_value go) (drop at answers) ≡ after answers (value_ran s e at) go
  plain_law e go at = value_law e (as_value go) at ∙ same_after laid answers _ go (value_ran s e at) (λ v rest. refl)

  unused_law : (e : Option RvalueTree) (go : After) (at : ℕ) → unused_then here e go (drop at answers) ≡ after answers (optional_ran s e at) (λ u. go)
  unused_law None go at = refl
  unused_law (Some e) go at = plain_law e (λ u. go) at

  returned_law : (e : Option RvalueTree) (go : Value → After) (at : ℕ) → returned_then here e go (drop at answers) ≡ after answers (optional_ran s e at) go
  returned_law None go at = refl
  returned_law (Some e) go at = plain_law e go at

  condition_law : (e : Option RvalueTree) (one other : After) (at : ℕ)
      → condition_then here e one other (drop at answers) ≡ after answers (condition_ran s e at) (with_use (as_branch one other))
  unfolding is_true
  condition_law None one other at = refl
  condition_law (Some e) one other at = value_law e (as_branch one other) at

  -- ## Declarations

  cell_law : (c : Scalar) (b : Bool) (gs : List GivenTree) (go : Value → After) (at : ℕ) → cell_then here c b gs go (drop at answers) ≡ after answers (cell_ran s c b gs at) go
  cell_law c true (g ∷ gs) go at = plain_law g.value go at
  cell_law c true [] go at = refl
  cell_law c false gs go at = refl

  set_law : (o : ℕ) (p : Place) (k : ℕ) (gs : List GivenTree) (go : Value → After) (at : ℕ)
      → cell_then here (scalar_at laid o k) (is_given k gs) gs (λ v. act_then laid (store_at (part laid k (base laid o)) (scalar_at laid o k) v p) go) (drop at answers)
      ≡ after answers (set_ran s o p k gs at) go
  unfolding set_ran
  set_law o p k gs go at =
      cell_law (scalar_at laid o k) (is_given k gs) gs _ at
      ∙ after_then laid answers _ _ go (cell_ran s (scalar_at laid o k) (is_given k gs) gs at) (λ v at1. act_law laid answers (store_at (part laid k (base laid o)) (scalar_at laid o k) v p) go at1)

  cells_law : (o : ℕ) (p : Place) (n k : ℕ) (gs : List GivenTree) (go : After) (at : ℕ) → cells_then here o p n k gs go (drop at answers) ≡ after answers (cells_ran s o p n k gs at) (λ u. go)
  cells_law o p zero k gs go at = refl
  cells_law o p (suc n) k gs go at =
      set_law o p k gs (λ u. cells_then here o p n (suc k) (rest_of (is_given k gs) gs) go) at
      ∙ after_then laid answers _ _ (λ u. go) (set_ran s o p k gs at) (λ u at1. cells_law o p n (suc k) (rest_of (is_given k gs) gs) go at1)

  initialiser_law : (o : ℕ) (i : Option LocalInitialiserTree) (go : After) (at : ℕ) → initialiser_then here o i go (drop at answers) ≡ after answers (initialiser_ran s o i at) (λ u. go)
  initialiser_law o None go at = refl
  initialiser_law o (Some i) go at = cells_law o i.place (object_at laid o).cells 0 i.given go at

  local_law : (l : LocalTree) (go : After) (at : ℕ) → local_then here l go (drop at answers) ≡ after answers (local_ran s l at) (λ u. go)
  local_law l go at =
      act_law laid answers (clear_at laid (object_of laid path (Local l.object))) _ at
      ∙ after_then laid answers _ _ (λ u. go) (act_ran laid answers (clear_at laid (object_of laid path (Local l.object))) at)
      (λ u at1. initialiser_law (object_of laid path (Local l.object)) l.initialiser go at1)

  locals_law : (ls : List LocalTree) (go : After) (at : ℕ) → locals_then here ls go (drop at answers) ≡ after answers (locals_ran s ls at) (λ u. go)
  locals_law [] go at = refl
  locals_law (l ∷ ls) go at =
      local_law l (locals_then here ls go) at ∙ after_then laid answers _ _ (λ u. go) (local_ran s l at) (λ u at1. locals_law ls go at1)

  -- ## Statements

  abbrev leave : Result Flow Next → Exits → Next
  leave (Ok (Goes at)) exits = exits.on (drop at answers)
  leave (Ok (Breaks at)) exits = exits.breaks (drop at answers)
  leave (Ok (Continues at)) exits = exits.continues (drop at answers)
  leave (Ok (Returns g)) exits = exits.returns g.value (drop g.at answers)
  leave (Err n) exits = n

  leave_then : (k : Value → After) (f : Value → ℕ → Result Flow Next) (exits : Exits) (r : Result Gave Next)
      → ((v : Value) (at : ℕ) → k v (drop at answers) ≡ leave (f v at) exits) → after answers r k ≡ leave (flow_then r f) exits
  leave_then k f exits (Ok g) h = h g.value g.at
  leave_then k f exits (Err n) h = refl

  on_law : (k : After) (f : ℕ → Result Flow Next) (exits : Exits) (r : Result Flow Next)
      → ((at : ℕ) → k (drop at answers) ≡ leave (f at) exits) → leave r (record exits { on = k }) ≡ leave (goes_on r f) exits
  on_law k f exits (Ok (Goes at)) h = h at
  on_law k f exits (Ok (Breaks at)) h = refl
  on_law k f exits (Ok (Continues at)) h = refl
  on_law k f exits (Ok (Returns g)) h = refl
  on_law k f exits (Err n) h = refl

  choose_law : (b : Bool) (x y : After) (r r' : Result Flow Next) (exits : Exits) (rest : List Answer)
      → x rest ≡ leave r exits → y rest ≡ leave r' exits → (if b then x else y) rest ≡ leave (if b then r else r') exits
  choose_law true x y r r' exits rest h h' = h
  choose_law false x y r r' exits rest h h' = h'

  -- where control goes from a turn
  abbrev in_turn : Exits → After → Exits
  in_turn exits back = record { on = back; breaks = exits.on; continues = exits.continues; returns = exits.returns }

  came_law : (k : After) (f : ℕ → Result Flow Next) (exits : Exits) (back : After) (r : Result Flow Next)
      → ((at : ℕ) → k (drop at answers) ≡ leave (f at) (in_turn exits back))
      → leave r (inside exits k) ≡ leave (came_on r f) (in_turn exits back)
  came_law k f exits back (Ok (Goes at)) h = h at
  came_law k f exits back (Ok (Breaks at)) h = refl
  came_law k f exits back (Ok (Continues at)) h = h at
  came_law k f exits back (Ok (Returns g)) h = refl
  came_law k f exits back (Err n) h = refl

  turned_law : (again : ℕ → Result Flow Next) (back : After) (exits : Exits) (at : ℕ) (r : Result Flow Next)
      → ((at1 : ℕ) → back (drop at1 answers) ≡ leave (comes_back answers again at at1) exits) → leave r (in_turn exits back) ≡ leave (turned answers again at r) exits
  turned_law again back exits at (Ok (Goes at1)) h = h at1
  turned_law again back exits at (Ok (Breaks at1)) h = refl
  turned_law again back exits at (Ok (Continues at1)) h = refl
  turned_law again back exits at (Ok (Returns g)) h = refl
  turned_law again back exits at (Err n) h = refl

  -- a turn that comes back
  back_law : (b : Bool) (x : After) (r : Result Flow Next) (exits : Exits) (at1 : ℕ) → (b ≡ true → x (drop at1 answers) ≡ leave r exits)
      → (if b then x (drop at1 answers) else last Acts.Spins (drop at1 answers)) ≡ leave (if b then r else Err (last_at answers Acts.Spins at1)) exits
  back_law true x r exits at1 h = h refl
  back_law false x r exits at1 h = last_law laid answers Acts.Spins at1

  left_length : (at : ℕ) → length (drop at answers) ≡ left_at answers at
  unfolding left_at
  left_length at = length-drop at answers

  never : (exits : Exits) (at at1 : ℕ) → left_at answers at ≤ 0 → last Acts.Spins (drop at1 answers) ≡ leave (comes_back answers (λ k. Err Acts.Misfit) at at1) exits
  never exits at at1 h = last_law laid answers Acts.Spins at1 ∙ ap (λ b. leave (if b then Err Acts.Misfit else Err (last_at answers Acts.Spins at1)) exits) (sym (ge-ltb (left_at answers at1) (left_at answers at) (omega (arith, h))))

  loop_law : (T : After → After) (turn : ℕ → Result Flow Next) (exits : Exits)
      → ((back : After) (at : ℕ) → T back (drop at answers) ≡ leave (turn at) (in_turn exits back))
      → (n at : ℕ) → left_at answers at ≤ n → loop_then T n (drop at answers) ≡ leave (loop_ran answers turn n at) exits
  loop_law T turn exits h zero at le = h (last Acts.Spins) at ∙ turned_law (λ k. Err Acts.Misfit) (last Acts.Spins) exits at (turn at) (λ at1. never exits at at1 le)
  loop_law T turn exits h (suc n) at le =
      h _ at ∙ turned_law (loop_ran answers turn n) _ exits at (turn at) (λ at1.
      ap (λ b. if b then loop_then T n (drop at1 answers) else last Acts.Spins (drop at1 answers))
      (ap (λ k. ltb k (length (drop at answers))) (left_length at1) ∙ ap (λ k. ltb (left_at answers at1) k) (left_length at))
      ∙ back_law (ltb (left_at answers at1) (left_at answers at)) (loop_then T n) (loop_ran answers turn n at1) exits at1
      (λ e. loop_law T turn exits h n at1 (let lt = ltb-true (left_at answers at1) (left_at answers at) e in omega (arith, lt, le))))

  over_law : (T : After → After) (turn : ℕ → Result Flow Next) (exits : Exits)
      → ((back : After) (at : ℕ) → T back (drop at answers) ≡ leave (turn at) (in_turn exits back))
      → (at : ℕ) → loop_over_then T (drop at answers) ≡ leave (loop_over answers turn at) exits
  unfolding loop_over
  over_law T turn exits h at = ap (λ n. loop_then T n (drop at answers)) (left_length at) ∙ loop_law T turn exits h (left_at answers at) at (omega arith)

  -- a turn
  behind_law : (behind : Option RvalueTree) (exits : Exits) (back : After) (at : ℕ)
      → condition_then here behind back exits.on (drop at answers) ≡ leave (behind_ran s behind at) (in_turn exits back)
  behind_law behind exits back at =
      condition_law behind back exits.on at ∙ leave_then _ _ (in_turn exits back) (condition_ran s behind at) (λ x at1.
      choose_law (is_true x) _ _ (Ok (Goes at1)) (Ok (Breaks at1)) (in_turn exits back) (drop at1 answers) refl refl)

  step_law : (step behind : Option RvalueTree) (exits : Exits) (back : After) (at : ℕ)
      → unused_then here step (condition_then here behind back exits.on) (drop at answers) ≡ leave (step_ran s step behind at) (in_turn exits back)
  unfolding step_ran
  step_law step behind exits back at =
      unused_law step (condition_then here behind back exits.on) at
      ∙ leave_then _ _ (in_turn exits back) (optional_ran s step at) (λ u at1. behind_law behind exits back at1)

  turn_law : (before : Option RvalueTree) (t : TypedTree) (step behind : Option RvalueTree) (exits : Exits)
      → ((inner : Exits) (at : ℕ) → stmt_then here t inner (drop at answers) ≡ leave (statement_ran s t at) inner)
      → (back : After) (at : ℕ)
      → condition_then here before (stmt_then here t (inside exits (unused_then here step (condition_then here behind back exits.on)))) exits.on (drop at answers)
      ≡ leave (turn_ran s before (statement_ran s t) step behind at) (in_turn exits back)
  turn_law before t step behind exits h back at =
      condition_law before _ exits.on at ∙ leave_then _ _ (in_turn exits back) (condition_ran s before at) (λ x at1.
      choose_law (is_true x) _ _ (came_on (statement_ran s t at1) (step_ran s step behind)) (Ok (Breaks at1)) (in_turn exits back) (drop at1 answers)
      (h (inside exits (unused_then here step (condition_then here behind back exits.on))) at1
      ∙ came_law (unused_then here step (condition_then here behind back exits.on)) (step_ran s step behind) exits back (statement_ran s t at1) (λ at2. step_law step behind exits back at2))
      refl)

  switch_law : (exits : Exits) (r : Result Flow Next) → leave r (record exits { breaks = exits.on }) ≡ leave (left_switch r) exits
  switch_law exits (Ok (Goes at)) = refl
  switch_law exits (Ok (Breaks at)) = refl
  switch_law exits (Ok (Continues at)) = refl
  switch_law exits (Ok (Returns g)) = refl
  switch_law exits (Err n) = refl

  label_law : (b : Bool) (x y : List Answer → Next) (r r' : Result Flow Next) (exits : Exits) (rest : List Answer)
      → x rest ≡ leave r exits → y rest ≡ leave r' exits → (if b then x else y) rest ≡ leave (if b then r else r') exits
  label_law true x y r r' exits rest h h' = h
  label_law false x y r r' exits rest h h' = h'

  mutual
    stmt_law : (t : TypedTree) (exits : Exits) (at : ℕ) → stmt_then here t exits (drop at answers) ≡ leave (statement_ran s t at) exits
    stmt_law (evaluates e) exits at = unused_law e exits.on at ∙ leave_then _ _ exits (optional_ran s e at) (λ u at1. refl)
    stmt_law (declares ls) exits at = locals_law ls exits.on at ∙ leave_then _ _ exits (locals_ran s ls at) (λ u at1. refl)
    stmt_law (runs_block ss) exits at = block_law ss exits at
    stmt_law (branches c t) exits at =
        value_law c (as_branch _ _) at ∙ leave_then _ _ exits (branch_ran s c at) (λ x at1.
        choose_law (is_true x) _ _ (statement_ran s t at1) (Ok (Goes at1)) exits (drop at1 answers) (stmt_law t exits at1) refl)
    stmt_law (branches_else c t u) exits at =
        value_law c (as_branch _ _) at ∙ leave_then _ _ exits (branch_ran s c at) (λ x at1.
        choose_law (is_true x) _ _ (statement_ran s t at1) (statement_ran s u at1) exits (drop at1 answers) (stmt_law t exits at1) (stmt_law u exits at1))
    stmt_law (loops_while c t) exits at =
        over_law (λ back. expr_then here c (as_branch (stmt_then here t (inside exits back)) exits.on))
        (turn_ran s (Some c) (statement_ran s t) None None) exits
        (turn_law (Some c) t None None exits (λ inner at1. stmt_law t inner at1)) at
    stmt_law (loops_do t c) exits at =
        over_law (λ back. stmt_then here t (inside exits (expr_then here c (as_branch back exits.on))))
        (turn_ran s None (statement_ran s t) None (Some c)) exits
        (turn_law None t None (Some c) exits (λ inner at1. stmt_law t inner at1)) at
    stmt_law (loops_for first c step t) exits at =
        stmt_law first _ at ∙ on_law _ _ exits (statement_ran s first at) (λ at1.
        over_law (λ back. condition_then here c (stmt_then here t (inside exits (unused_then here step back))) exits.on)
        (turn_ran s c (statement_ran s t) step None) exits
        (turn_law c t step None exits (λ inner at2. stmt_law t inner at2)) at1)
    stmt_law (selects t e cs) exits at =
        plain_law e _ at ∙ leave_then _ _ exits (value_ran s e at) (λ v at1.
        case_law v cs (record exits { breaks = exits.on }) (default_then here cs (record exits { breaks = exits.on })) (default_ran s cs)
        (λ at2. default_law cs (record exits { breaks = exits.on }) at2) at1
        ∙ switch_law exits (case_ran s v cs (default_ran s cs) at1))
    stmt_law breaks exits at = refl
    stmt_law continues exits at = refl
    stmt_law (returns e) exits at = returned_law e exits.returns at ∙ leave_then _ _ exits (optional_ran s e at) (λ v at1. refl)
    stmt_law (locks m p) exits at = act_law laid answers (Acts.Lock m p) _ at ∙ leave_then _ _ exits (act_ran laid answers (Acts.Lock m p) at) (λ v at1. refl)
    stmt_law (unlocks m p) exits at = act_law laid answers (Acts.Unlock m p) _ at ∙ leave_then _ _ exits (act_ran laid answers (Acts.Unlock m p) at) (λ v at1. refl)
    stmt_law yields exits at = act_law laid answers Acts.Yield _ at ∙ leave_then _ _ exits (act_ran laid answers Acts.Yield at) (λ v at1. refl)

    block_law : (ts : TypedTrees) (exits : Exits) (at : ℕ) → block_then here ts exits (drop at answers) ≡ leave (block_ran s ts at) exits
    block_law no_statements exits at = refl
    block_law (and_statement t ts) exits at =
        stmt_law t _ at ∙ on_law _ _ exits (statement_ran s t at) (λ at1. block_law ts exits at1)

    cases_law : (cs : TypedCases) (exits : Exits) (at : ℕ) → cases_then here cs exits (drop at answers) ≡ leave (cases_ran s cs at) exits
    cases_law no_typed_cases exits at = refl
    cases_law (and_typed_case (a_label z p) cs) exits at = cases_law cs exits at
    cases_law (and_typed_case (a_default_label p) cs) exits at = cases_law cs exits at
    cases_law (and_typed_case (a_labelled_step t) cs) exits at =
        stmt_law t _ at ∙ on_law _ _ exits (statement_ran s t at) (λ at1. cases_law cs exits at1)

    case_law : (v : Value) (cs : TypedCases) (exits : Exits) (other : After) (other' : ℕ → Result Flow Next)
        → ((at : ℕ) → other (drop at answers) ≡ leave (other' at) exits)
        → (at : ℕ) → case_then here v cs exits other (drop at answers) ≡ leave (case_ran s v cs other' at) exits
    case_law v no_typed_cases exits other other' h at = h at
    case_law v (and_typed_case (a_label z p) cs) exits other other' h at =
        label_law (is_case z v) _ _ (cases_ran s cs at) (case_ran s v cs other' at) exits (drop at answers) (cases_law cs exits at) (case_law v cs exits other other' h at)
    case_law v (and_typed_case (a_default_label p) cs) exits other other' h at = case_law v cs exits other other' h at
    case_law v (and_typed_case (a_labelled_step t) cs) exits other other' h at = case_law v cs exits other other' h at

    default_law : (cs : TypedCases) (exits : Exits) (at : ℕ) → default_then here cs exits (drop at answers) ≡ leave (default_ran s cs at) exits
    default_law no_typed_cases exits at = refl
    default_law (and_typed_case (a_label z p) cs) exits at = default_law cs exits at
    default_law (and_typed_case (a_default_label p) cs) exits at = cases_law cs exits at
    default_law (and_typed_case (a_labelled_step t) cs) exits at = default_law cs exits at

  -- ## Bodies

  fell_law : (t : CType) (go : Value → After) (at : ℕ) → fallen_then laid t go (drop at answers) ≡ after answers (fell laid answers t at) go
  fell_law (Types.Int t) go at = act_law laid answers (Acts.Chosen (lo_of t) (hi_of t)) go at
  fell_law Types.Void go at = refl
  fell_law (Types.Pointer q) go at = refl
  fell_law (Types.Array e n) go at = refl
  fell_law (Types.Struct k) go at = refl

  left_law : (t : CType) (go : Value → After) (r : Result Flow Next) → leave r (exits_of laid t go) ≡ after answers (left_body laid answers t r) go
  left_law t go (Ok (Goes at)) = fell_law t go at
  left_law t go (Ok (Breaks at)) = last_misfit (drop at answers)
  left_law t go (Ok (Continues at)) = last_misfit (drop at answers)
  left_law t go (Ok (Returns g)) = refl
  left_law t go (Err n) = refl

  code_law : (t : CType) (body : Option TypedBodyTree) (go : Value → After) (at : ℕ) → code_then here t body go (drop at answers) ≡ after answers (code_ran s t body at) go
  code_law t None go at = refl
  code_law t (Some body) go at = block_law body.statements (exits_of laid t go) at ∙ left_law t go (block_ran s body.statements at)

-- ## Calls

passed_law : (laid : LaidTree) (answers : List Answer) (path k : ℕ) (vs : List Value) (p : Place) (go : After) (at : ℕ)
    → passed_then laid path k vs p go (drop at answers) ≡ after answers (passed_ran laid answers path k vs p at) (λ u. go)
passed_law laid answers path k [] p go at = refl
passed_law laid answers path k (v ∷ vs) p go at =
    act_law laid answers (store_at (base laid (object_of laid path (Local k))) (scalar_at laid (object_of laid path (Local k)) 0) v p) _ at
    ∙ after_then laid answers _ _ (λ u. go) (act_ran laid answers (store_at (base laid (object_of laid path (Local k))) (scalar_at laid (object_of laid path (Local k)) 0) v p) at)
    (λ u at1. passed_law laid answers path (suc k) vs p go at1)

body_law : (laid : LaidTree) (answers : List Answer) (depth path at : ℕ) (go : Value → After)
    → body_then laid depth path go (drop at answers) ≡ after answers (body_ran laid answers depth path at) go
unfolding body_ran called
body_law laid answers zero path at go = refl
body_law laid answers (suc depth) path at go =
    code_law laid answers path (here_with laid (body_then laid depth) path).call (called laid answers (body_ran laid answers depth) path)
    (record {
      call = λ site vs p at go.
          passed_law laid answers (callee laid path site) 0 vs p (body_then laid depth (callee laid path site) go) at
          ∙ after_then laid answers _ _ go (passed_ran laid answers (callee laid path site) 0 vs p at) (λ u at1. body_law laid answers depth (callee laid path site) at1 go);
    })
    (result_type laid (function_at laid path)) (function_at laid path).body go at

ended_law : (laid : LaidTree) (answers : List Answer) (r : Result Gave Next) → after answers r (λ v. last Acts.Ended) ≡ ended answers r
ended_law laid answers (Ok g) = last_law laid answers Acts.Ended g.at
ended_law laid answers (Err n) = refl

-- the next action in direct style is the definition's
pub next_law : (laid : LaidTree) (task : ℕ) (answers : List Answer) → next_ran laid task answers ≡ next laid task answers
unfolding next
next_law laid task answers =
    sym (body_law laid answers (length laid.file.functions) (first_path laid task) 0 (λ v. last Acts.Ended)
    ∙ ended_law laid answers (body_ran laid answers (length laid.file.functions) (first_path laid task) 0))
