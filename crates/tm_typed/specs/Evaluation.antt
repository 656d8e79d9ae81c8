-- Expressions in a state: their typing, and what they leave behind for later layers.
use Rattle.std.specs.Prelude.{◌+◌, ℤ, ◌++◌, Option, Some, None, Result, Ok}
use Rattle.tm_trees.specs.tm_terms.declared.refusals.Refusal.{Refusal}
use Rattle.tm_trees.specs.tm_terms.ExprTrees.{Tree}
use Rattle.tm_typed.specs.declared.operands.Fold.{Fold}
use Rattle.tm_typed.specs.declared.operands.Fold.TheVariants as Folds
use Rattle.tm_typed.specs.Scopes.{Scope}
use Rattle.tm_typed.specs.TypedTrees.{OperandTree, an_lvalue, a_value}
use Rattle.tm_typed.specs.Operands.{fold_of}
use Rattle.tm_typed.specs.Typing.{typing, calls}
use Rattle.tm_typed.specs.TypeNames.{type_of_name, prepared}
use Rattle.tm_typed.specs.Uses.{uses_of}
use Rattle.tm_typed.specs.Sizes.{sizes_of}
use Rattle.tm_typed.specs.Constants.{operand_constants}
use Rattle.tm_typed.specs.States.{State}
use Rattle.tm_typed.specs.Refusals.{then_with}

-- what an evaluated expression leaves behind
abbrev pub evaluated : State → Scope → Tree → OperandTree → State
evaluated s scope t o = record s {
  scope = scope;
  site = s.site + calls t;
  uses = s.uses ++ uses_of scope t;
  constants = s.constants ++ operand_constants o;
  sizes = s.sizes ++ sizes_of scope t;
}

-- an expression that is evaluated: a statement's, an argument's, an initialiser's
abbrev pub typed_in : State → Tree → Result (OperandTree × State) Refusal
typed_in s t = let scope = prepared s.scope t in
    then_with (typing type_of_name scope s.site t) (λ o. Ok (o, evaluated s scope t o))

-- an expression for a number that the text fixes: a length, an enumerator, a priority
abbrev pub measured : State → Tree → Result (OperandTree × State) Refusal
measured s t = let scope = prepared s.scope t in
    then_with (typing type_of_name scope s.site t) (λ o. Ok (o, record s { scope = scope; sizes = s.sizes ++ sizes_of scope t }))

abbrev pub value_of_fold : Fold → Option ℤ
value_of_fold (Folds.Value z) = Some z
value_of_fold _ = None

-- the value of a folded expression
abbrev pub folded_value : OperandTree → Option ℤ
folded_value (an_lvalue l q) = None
folded_value (a_value v) = value_of_fold (fold_of v.sort)
