-- An element is no larger than all.
use Rattle.std.proofs.Common.{◌≡◌, ℕ, zero, suc, ◌+◌, ◌<◌, ◌≤◌, sym, subst, List, [], ◌∷◌, length, take, get_or, map, slice_get, Some, arith}
use Rattle.tm_typed.specs.declared.expressions.Rvalue.{Rvalue}
use Rattle.tm_typed.specs.declared.statements.GivenCell.{GivenCell}
use Rattle.tm_typed.specs.declared.statements.LocalObject.{LocalObject}
use Rattle.tm_typed.specs.declared.statements.TypedStatement.{TypedStatement}
use Rattle.tm_typed.specs.declared.statements.TypedSwitchPart.{TypedSwitchPart}
use Rattle.tm_typed.specs.TypedTrees.{rvalue_tree}
use Rattle.tm_typed.specs.TypedStatements.{GivenTree, given_tree, local_tree, typed_tree, typed_case}
use Rattle.concrete_steps.specs.NextAction.{is_given, rest_of}
use Rattle.std.proofs.Common.{Bool, true, false}
use Rattle.task_interpreter.specs.reading.Sizes.{rvalue_size, given_size, initialiser_size, statement_size, case_size}
use Rattle.task_interpreter.specs.reading.Lists.{leading_size, declared_size, listed_size, parts_size}

argument_below_by : (es : List Rvalue) (k : ℕ) (d : Rvalue) → k < length es → rvalue_size (rvalue_tree (get_or es k d)) ≤ leading_size es
argument_below_by [] k d h = absurd (omega (arith, h))
argument_below_by (x ∷ es) zero d h = omega arith
argument_below_by (x ∷ es) (suc k) d h = let below = argument_below_by es k d (omega (arith, h)) in omega (arith, below)

pub argument_below : (es : List Rvalue) (k : ℕ) (x : Rvalue) → x ≡ get_or es k x → k < length es → rvalue_size (rvalue_tree x) ≤ leading_size es
argument_below es k x e h = subst (λ z. rvalue_size (rvalue_tree z) ≤ leading_size es) (sym e) (argument_below_by es k x h)

pub taken_below : (es : List Rvalue) (k : ℕ) → leading_size (take k es) ≤ leading_size es
taken_below [] zero = omega arith
taken_below [] (suc k) = omega arith
taken_below (x ∷ es) zero = omega arith
taken_below (x ∷ es) (suc k) = let below = taken_below es k in omega (arith, below)

local_below_by : (ls : List LocalObject) (k : ℕ) (d : LocalObject) → k < length ls → initialiser_size (local_tree (get_or ls k d)).initialiser ≤ declared_size ls
local_below_by [] k d h = absurd (omega (arith, h))
local_below_by (x ∷ ls) zero d h = omega arith
local_below_by (x ∷ ls) (suc k) d h = let below = local_below_by ls k d (omega (arith, h)) in omega (arith, below)

pub local_below : (ls : List LocalObject) (k : ℕ) (x : LocalObject) → x ≡ get_or ls k x → k < length ls → initialiser_size (local_tree x).initialiser ≤ declared_size ls
local_below ls k x e h = subst (λ z. initialiser_size (local_tree z).initialiser ≤ declared_size ls) (sym e) (local_below_by ls k x h)

statement_below_by : (ts : List TypedStatement) (k : ℕ) (d : TypedStatement) → k < length ts → statement_size (typed_tree (get_or ts k d)) ≤ listed_size ts
statement_below_by [] k d h = absurd (omega (arith, h))
statement_below_by (x ∷ ts) zero d h = omega arith
statement_below_by (x ∷ ts) (suc k) d h = let below = statement_below_by ts k d (omega (arith, h)) in omega (arith, below)

pub statement_below : (ts : List TypedStatement) (k : ℕ) (x : TypedStatement) → x ≡ get_or ts k x → k < length ts → statement_size (typed_tree x) ≤ listed_size ts
statement_below ts k x e h = subst (λ z. statement_size (typed_tree z) ≤ listed_size ts) (sym e) (statement_below_by ts k x h)

part_below_by : (cs : List TypedSwitchPart) (k : ℕ) (d : TypedSwitchPart) → k < length cs → case_size (typed_case (get_or cs k d)) ≤ parts_size cs
part_below_by [] k d h = absurd (omega (arith, h))
part_below_by (x ∷ cs) zero d h = omega arith
part_below_by (x ∷ cs) (suc k) d h = let below = part_below_by cs k d (omega (arith, h)) in omega (arith, below)

pub part_below : (cs : List TypedSwitchPart) (k : ℕ) (x : TypedSwitchPart) → x ≡ get_or cs k x → k < length cs → case_size (typed_case x) ≤ parts_size cs
part_below cs k x e h = subst (λ z. case_size (typed_case z) ≤ parts_size cs) (sym e) (part_below_by cs k x h)

pub first_below : (gs : List GivenCell) (k : ℕ) (g : GivenCell) → slice_get gs k ≡ Some g → rvalue_size (rvalue_tree g.value.value) ≤ given_size (map given_tree gs)
first_below [] k g h = cc
first_below (x ∷ gs) zero g h = let same : x ≡ g = cc in subst (λ z. rvalue_size (rvalue_tree z.value.value) ≤ rvalue_size (rvalue_tree x.value.value) + given_size (map given_tree gs)) same (omega arith)
first_below (x ∷ gs) (suc k) g h = let below = first_below gs k g h in omega (arith, below)

rest_below_by : (gs : List GivenTree) (b : Bool) → given_size (rest_of b gs) ≤ given_size gs
rest_below_by [] true = omega arith
rest_below_by (g ∷ gs) true = omega arith
rest_below_by gs false = omega arith

pub rest_below : (gs rest : List GivenTree) (k : ℕ) → rest ≡ rest_of (is_given k gs) gs → given_size rest ≤ given_size gs
rest_below gs rest k e = subst (λ z. given_size z ≤ given_size gs) (sym e) (rest_below_by gs (is_given k gs))
