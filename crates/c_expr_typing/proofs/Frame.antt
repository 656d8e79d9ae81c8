-- How the answer of a part carries over to the whole.
use Rattle.std.proofs.Common.{◌≡◌, ℕ, suc, ap, subst, sym, ◌∙◌, List, ◌++◌, Option, Result, Ok, Err, ℤ}
use Rattle.tm_terms.specs.declared.places.Place.{Place}
use Rattle.tm_terms.specs.declared.refusals.Refusal.{Refusal}
use Rattle.tm_terms.specs.declared.refusals.Fail.{Fail}
use Rattle.tm_terms.specs.declared.refusals.Fail.TheVariants as fail
use Rattle.tm_terms.specs.ExprTrees.{Arguments}
use Rattle.tm_typed.specs.declared.operands.Operand.{Operand}
use Rattle.tm_typed.specs.declared.scopes.Named.{Named}
use Rattle.tm_typed.specs.declared.types.CastType.{CastType}
use Rattle.tm_typed.specs.TypedTrees.{OperandTree, Rated, operand_tree}
use Rattle.tm_typed.specs.Refusals.{then_with, Gives}
use Rattle.tm_typed.specs.Scopes.{Scope}
use Rattle.tm_typed.specs.Rules.{callee, call_rules}
use Rattle.tm_typed.specs.Typing.{typing_all}
use Rattle.tm_typed.specs.TypeNames.{type_of_name}
use Rattle.c_expr_typing.specs.Values.{rated_items}

-- ## For any part

a_refusal : {A B C D : Type 0} (view : A → B) (whole : C → D) (f : Fail) (want : Result B Refusal) (k : B → Result D Refusal) → Gives view (Err f) want → Gives whole (Err f) (then_with want k)
a_refusal view whole (fail.Refused r) want k e = ap (λ w. then_with w k) e
a_refusal view whole fail.NoMemory want k e = tt

a_part : {B C D : Type 0} (whole : C → D) (r : Result C Fail) (want : Result B Refusal) (b : B) (k : B → Result D Refusal) → want ≡ Ok b → Gives whole r (k b) → Gives whole r (then_with want k)
a_part {B} {C} {D} whole r want b k e h = let P : Result B Refusal → Type 0 = λ w. Gives whole r (then_with w k) in subst P (sym e) h

-- ## For the parts of an expression

pub passes : (f : Fail) (want : Result OperandTree Refusal) (k : OperandTree → Result OperandTree Refusal) → Gives operand_tree (Err f) want → Gives operand_tree (Err f) (then_with want k)
passes f want k e = a_refusal operand_tree operand_tree f want k e

pub goes_on : (r : Result Operand Fail) (want : Result OperandTree Refusal) (o : OperandTree) (k : OperandTree → Result OperandTree Refusal) → want ≡ Ok o → Gives operand_tree r (k o) → Gives operand_tree r (then_with want k)
goes_on r want o k e h = a_part operand_tree r want o k e h

pub passes_number : (f : Fail) (want : Result ℤ Refusal) (k : ℤ → Result OperandTree Refusal) → Gives {A = ℤ} {B = ℤ} (λ z. z) (Err f) want → Gives operand_tree (Err f) (then_with want k)
passes_number f want k e = a_refusal {A = ℤ} {B = ℤ} (λ z. z) operand_tree f want k e

pub goes_on_number : (r : Result Operand Fail) (want : Result ℤ Refusal) (z : ℤ) (k : ℤ → Result OperandTree Refusal) → want ≡ Ok z → Gives operand_tree r (k z) → Gives operand_tree r (then_with want k)
goes_on_number r want z k e h = a_part operand_tree r want z k e h

pub passes_type : (f : Fail) (want : Result CastType Refusal) (k : CastType → Result OperandTree Refusal) → Gives {A = CastType} {B = CastType} (λ t. t) (Err f) want → Gives operand_tree (Err f) (then_with want k)
passes_type f want k e = a_refusal {A = CastType} {B = CastType} (λ t. t) operand_tree f want k e

pub goes_on_type : (r : Result Operand Fail) (want : Result CastType Refusal) (t : CastType) (k : CastType → Result OperandTree Refusal) → want ≡ Ok t → Gives operand_tree r (k t) → Gives operand_tree r (then_with want k)
goes_on_type r want t k e h = a_part operand_tree r want t k e h

pub passes_named : (f : Fail) (want : Result Named Refusal) (k : Named → Result OperandTree Refusal) → Gives {A = Named} {B = Named} (λ n. n) (Err f) want → Gives operand_tree (Err f) (then_with want k)
passes_named f want k e = a_refusal {A = Named} {B = Named} (λ n. n) operand_tree f want k e

pub goes_on_named : (r : Result Operand Fail) (want : Result Named Refusal) (n : Named) (k : Named → Result OperandTree Refusal) → want ≡ Ok n → Gives operand_tree r (k n) → Gives operand_tree r (then_with want k)
goes_on_named r want n k e h = a_part operand_tree r want n k e h

pub passes_all : (f : Fail) (want : Result (List Rated) Refusal) (k : List Rated → Result OperandTree Refusal) → Gives rated_items (Err f) want → Gives operand_tree (Err f) (then_with want k)
passes_all f want k e = a_refusal rated_items operand_tree f want k e

pub goes_on_all : (r : Result Operand Fail) (want : Result (List Rated) Refusal) (vs : List Rated) (k : List Rated → Result OperandTree Refusal) → want ≡ Ok vs → Gives operand_tree r (k vs) → Gives operand_tree r (then_with want k)
goes_on_all r want vs k e h = a_part operand_tree r want vs k e h

-- ## Calls

-- a call whose arguments are typed
pub call_goes : (r : Result Operand Fail) (place : Place) (o : Option Named) (n : Named) (scope : Scope) (site next : ℕ) (args : Arguments) (vs : List Rated)
    → callee place o ≡ Ok n → next ≡ suc site → typing_all type_of_name scope next args ≡ Ok vs → Gives operand_tree r (call_rules scope place site vs n)
    → Gives operand_tree r (then_with (callee place o) (λ g. then_with (typing_all type_of_name scope (suc site) args) (λ ws. call_rules scope place site ws g)))
call_goes r place o n scope site next args vs e s t h =
    goes_on_named r (callee place o) n (λ g. then_with (typing_all type_of_name scope (suc site) args) (λ ws. call_rules scope place site ws g)) e
    (goes_on_all r (typing_all type_of_name scope (suc site) args) vs (λ ws. call_rules scope place site ws n) (ap (λ k. typing_all type_of_name scope k args) (sym s) ∙ t) h)

-- a call of whose arguments one is refused
pub call_stops : (f : Fail) (place : Place) (o : Option Named) (n : Named) (scope : Scope) (site next : ℕ) (args : Arguments)
    → callee place o ≡ Ok n → next ≡ suc site → Gives rated_items (Err f) (typing_all type_of_name scope next args)
    → Gives operand_tree (Err f) (then_with (callee place o) (λ g. then_with (typing_all type_of_name scope (suc site) args) (λ ws. call_rules scope place site ws g)))
call_stops f place o n scope site next args e s t =
    goes_on_named (Err f) (callee place o) n (λ g. then_with (typing_all type_of_name scope (suc site) args) (λ ws. call_rules scope place site ws g)) e
    (passes_all f (typing_all type_of_name scope (suc site) args) (λ ws. call_rules scope place site ws n) (let P : ℕ → Type 0 = λ k. Gives rated_items (Err f) (typing_all type_of_name scope k args) in subst P s t))

-- ## Arguments, one after the other

-- further values, behind some
abbrev pub behind : List Rated → Result (List Rated) Refusal → Result (List Rated) Refusal
behind vs (Err r) = Err r
behind vs (Ok ws) = Ok (vs ++ ws)
