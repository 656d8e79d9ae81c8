-- Arguments as values of the parameters' types, one after the other.
use Rattle.std.proofs.Common.{◌≡◌, refl, ap, sym, ◌∙◌, ℕ, suc, ◌<◌, true, false, ◌||◌, length, get_or, drop-cons, List, [], ◌∷◌, ◌++◌, drop, map, Option, Some, None}
use Rattle.tm_typed.specs.Scopes.{Scope}
use Rattle.tm_typed.specs.declared.operands.Valued.{Valued}
use Rattle.tm_typed.specs.declared.expressions.Rvalue.{Rvalue}
use Rattle.tm_typed.specs.TypedTrees.{RvalueTrees, no_rvalues, and_rvalue, rvalue_tree, as_rvalues, rated}
use Rattle.tm_typed.specs.Operands.{is_structure, given}
use Rattle.tm_typed.specs.Rules.{and_given, all_given, has_structure}

-- further values, behind some
abbrev pub append_rvalues : RvalueTrees → RvalueTrees → RvalueTrees
append_rvalues no_rvalues fs = fs
append_rvalues (and_rvalue e es) fs = and_rvalue e (append_rvalues es fs)

abbrev pub behind_given : RvalueTrees → Option RvalueTrees → Option RvalueTrees
behind_given es None = None
behind_given es (Some fs) = Some (append_rvalues es fs)

pushed : (es : List Rvalue) (e : Rvalue) (fs : RvalueTrees) → append_rvalues (as_rvalues (es ++ e ∷ [])) fs ≡ append_rvalues (as_rvalues es) (and_rvalue (rvalue_tree e) fs)
pushed [] e fs = refl
pushed (x ∷ xs) e fs = ap (λ gs. and_rvalue (rvalue_tree x) gs) (pushed xs e fs)

behind_pushed : (es : List Rvalue) (e : Rvalue) (o : Option RvalueTrees) → behind_given (as_rvalues (es ++ e ∷ [])) o ≡ behind_given (as_rvalues es) (and_given (Some (rvalue_tree e)) o)
behind_pushed es e None = refl
behind_pushed es e (Some fs) = ap Some (pushed es e fs)

pub step : (scope : Scope) (es new : List Rvalue) (e : Rvalue) (v : Valued) (rest left : List Valued) (ns ms : List ℕ) (n : ℕ) (want : Option RvalueTrees)
    → behind_given (as_rvalues es) (all_given scope (map rated rest) ns) ≡ want
    → rest ≡ v ∷ left → ns ≡ n ∷ ms → given scope (rated v) n ≡ Some (rvalue_tree e) → new ≡ es ++ e ∷ []
    → behind_given (as_rvalues new) (all_given scope (map rated left) ms) ≡ want
step scope es new e v rest left ns ms n want h r d g p =
    ap (λ xs. behind_given (as_rvalues xs) (all_given scope (map rated left) ms)) p
    ∙ behind_pushed es e (all_given scope (map rated left) ms)
    ∙ ap (λ o. behind_given (as_rvalues es) (and_given o (all_given scope (map rated left) ms))) (sym g)
    ∙ ap (λ xs. behind_given (as_rvalues es) (all_given scope (map rated xs) (n ∷ ms))) (sym r)
    ∙ ap (λ xs. behind_given (as_rvalues es) (all_given scope (map rated rest) xs)) (sym d)
    ∙ h

all_there : (es : List Rvalue) → append_rvalues (as_rvalues es) no_rvalues ≡ as_rvalues es
all_there [] = refl
all_there (x ∷ xs) = ap (λ gs. and_rvalue (rvalue_tree x) gs) (all_there xs)

pub ended : (scope : Scope) (es : List Rvalue) (rest : List Valued) (ns : List ℕ) (want : Option RvalueTrees) → behind_given (as_rvalues es) (all_given scope (map rated rest) ns) ≡ want → rest ≡ [] → ns ≡ [] → want ≡ Some (as_rvalues es)
ended scope es rest ns want h r d =
    sym h ∙ ap (λ xs. behind_given (as_rvalues es) (all_given scope (map rated xs) ns)) r ∙ ap (λ xs. behind_given (as_rvalues es) (all_given scope [] xs)) d ∙ ap Some (all_there es)

pub too_few : (scope : Scope) (es : List Rvalue) (rest : List Valued) (ns ms : List ℕ) (n : ℕ) (want : Option RvalueTrees) → behind_given (as_rvalues es) (all_given scope (map rated rest) ns) ≡ want → rest ≡ [] → ns ≡ n ∷ ms → want ≡ None
too_few scope es rest ns ms n want h r d =
    sym h ∙ ap (λ xs. behind_given (as_rvalues es) (all_given scope (map rated xs) ns)) r ∙ ap (λ xs. behind_given (as_rvalues es) (all_given scope [] xs)) d

pub pushed_on : (es : List Rvalue) {new : List Rvalue} {x y : Rvalue} → x ≡ y → new ≡ es ++ x ∷ [] → new ≡ es ++ y ∷ []
pushed_on es e p = p ∙ ap (λ v. es ++ v ∷ []) e

-- ## Structures among the arguments

pub at_argument : (vs : List Valued) (i : ℕ) (v : Valued) → i < length vs → v ≡ get_or vs i v → has_structure (map rated (drop i vs)) ≡ (is_structure v.sort || has_structure (map rated (drop (suc i) vs)))
at_argument vs i v below e =
    ap (λ xs. has_structure (map rated xs)) (drop-cons vs i v below)
    ∙ ap (λ (x : Valued). is_structure x.sort || has_structure (map rated (drop (suc i) vs))) (sym e)

pub found_structure : (vs : List Valued) (i : ℕ) (v : Valued) → i < length vs → v ≡ get_or vs i v → is_structure v.sort ≡ true → has_structure (map rated (drop i vs)) ≡ true
found_structure vs i v below e h = at_argument vs i v below e ∙ ap (λ b. b || has_structure (map rated (drop (suc i) vs))) h

pub no_structure_here : (vs : List Valued) (i : ℕ) (v : Valued) → i < length vs → v ≡ get_or vs i v → is_structure v.sort ≡ false → has_structure (map rated (drop i vs)) ≡ has_structure (map rated (drop (suc i) vs))
no_structure_here vs i v below e h = at_argument vs i v below e ∙ ap (λ b. b || has_structure (map rated (drop (suc i) vs))) h
