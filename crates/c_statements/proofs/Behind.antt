-- Statements and parts of a `switch`, one after the other.
use Rattle.std.proofs.Common.{◌≡◌, List, [], ◌∷◌, ◌++◌, map, refl, sym, ap, subst, ◌∙◌, Result, Ok, Err}
use Rattle.tm_cint.specs.declared.int_types.IntType.{IntType}
use Rattle.tm_terms.specs.declared.refusals.Refusal.{Refusal}
use Rattle.tm_terms.specs.declared.refusals.Fail.{Fail}
use Rattle.tm_terms.specs.declared.refusals.Fail.TheVariants as Fails
use Rattle.tm_trees.specs.FileTrees.{PartTree, PartTrees, and_part, CaseTree, CaseTrees, and_case}
use Rattle.tm_typed.specs.declared.statements.TypedStatement.{TypedStatement}
use Rattle.tm_typed.specs.declared.statements.TypedSwitchPart.{TypedSwitchPart}
use Rattle.tm_typed.specs.States.{State}
use Rattle.tm_typed.specs.Refusals.{Gives, then_with}
use Rattle.tm_typed.specs.TypedStatements.{TypedTree, typed_tree, TypedTrees, no_statements}
use Rattle.tm_typed.specs.TypedStatements.{and_statement, as_typed_trees, TypedCase, typed_case}
use Rattle.tm_typed.specs.TypedStatements.{TypedCases, no_typed_cases, and_typed_case, as_typed_cases}
use Rattle.tm_typed.specs.StatementRules.{Around, Labels}
use Rattle.tm_typed.specs.StatementTyping.{part_in, parts_in, case_in, cases_in}

-- ## Statements

abbrev pub after : List TypedStatement → TypedTrees → TypedTrees
after [] ts = ts
after (s ∷ ss) ts = and_statement (typed_tree s) (after ss ts)

-- further statements, behind some
abbrev pub behind : List TypedStatement → Result (TypedTrees × State) Refusal → Result (TypedTrees × State) Refusal
behind ss (Err r) = Err r
behind ss (Ok a) = Ok (after ss a.0, a.1)

pub behind-nil : (r : Result (TypedTrees × State) Refusal) → behind [] r ≡ r
behind-nil (Err r) = refl
behind-nil (Ok a) = refl

after-push : (ss : List TypedStatement) (s : TypedStatement) (ts : TypedTrees) → after (ss ++ s ∷ []) ts ≡ after ss (and_statement (typed_tree s) ts)
after-push [] s ts = refl
after-push (x ∷ ss) s ts = ap (and_statement (typed_tree x)) (after-push ss s ts)

after-none : (ss : List TypedStatement) → after ss no_statements ≡ as_typed_trees ss
after-none [] = refl
after-none (x ∷ ss) = ap (and_statement (typed_tree x)) (after-none ss)

pub behind-none : (ss : List TypedStatement) (s : State) → behind ss (Ok (no_statements, s)) ≡ Ok (as_typed_trees ss, s)
behind-none ss s = let one : TypedTrees → Result (TypedTrees × State) Refusal = λ ts. Ok (ts, s) in ap one (after-none ss)

behind-push : (ss : List TypedStatement) (x : TypedStatement) (rest : Result (TypedTrees × State) Refusal)
    → behind (ss ++ x ∷ []) rest ≡ behind ss (then_with rest (λ b. Ok (and_statement (typed_tree x) b.0, b.1)))
behind-push ss x (Err r) = refl
behind-push ss x (Ok a) = let one : TypedTrees → Result (TypedTrees × State) Refusal = λ ts. Ok (ts, a.1) in ap one (after-push ss x a.0)

-- one more statement is typed
pub part_passed : (around : Around) (ss : List TypedStatement) (s t : State) (p : PartTree) (ps : PartTrees) (x : TypedStatement) → part_in s around p ≡ Ok (typed_tree x, t)
    → behind (ss ++ x ∷ []) (parts_in t around ps) ≡ behind ss (parts_in s around (and_part p ps))
part_passed around ss s t p ps x e =
    let k : TypedTree × State → Result (TypedTrees × State) Refusal = λ a. then_with (parts_in a.1 around ps) (λ b. Ok (and_statement a.0 b.0, b.1)) in
    behind-push ss x (parts_in t around ps) ∙ ap (λ r. behind ss (then_with r k)) (sym e)

-- one is refused
pub part_stopped : {A : Type 0} (view : A → TypedTrees × State) (part : TypedStatement → TypedTree × State) (around : Around) (ss : List TypedStatement) (s : State) (p : PartTree) (ps : PartTrees) (f : Fail)
    → Gives part (Err f) (part_in s around p) → Gives view (Err f) (behind ss (parts_in s around (and_part p ps)))
part_stopped view part around ss s p ps (Fails.Refused r) e =
    let k : TypedTree × State → Result (TypedTrees × State) Refusal = λ a. then_with (parts_in a.1 around ps) (λ b. Ok (and_statement a.0 b.0, b.1)) in
    ap (λ q. behind ss (then_with q k)) e
part_stopped view part around ss s p ps Fails.NoMemory e = tt

-- ## Parts of a `switch`

abbrev pub cases_after : List TypedSwitchPart → TypedCases → TypedCases
cases_after [] cs = cs
cases_after (c ∷ done) cs = and_typed_case (typed_case c) (cases_after done cs)

abbrev pub cases_behind : List TypedSwitchPart → Result (TypedCases × State) Refusal → Result (TypedCases × State) Refusal
cases_behind done (Err r) = Err r
cases_behind done (Ok a) = Ok (cases_after done a.0, a.1)

pub cases_behind-nil : (r : Result (TypedCases × State) Refusal) → cases_behind [] r ≡ r
cases_behind-nil (Err r) = refl
cases_behind-nil (Ok a) = refl

cases_after-push : (done : List TypedSwitchPart) (c : TypedSwitchPart) (cs : TypedCases) → cases_after (done ++ c ∷ []) cs ≡ cases_after done (and_typed_case (typed_case c) cs)
cases_after-push [] c cs = refl
cases_after-push (x ∷ done) c cs = ap (and_typed_case (typed_case x)) (cases_after-push done c cs)

cases_after-none : (done : List TypedSwitchPart) → cases_after done no_typed_cases ≡ as_typed_cases done
cases_after-none [] = refl
cases_after-none (x ∷ done) = ap (and_typed_case (typed_case x)) (cases_after-none done)

pub cases_behind-none : (done : List TypedSwitchPart) (s : State) → cases_behind done (Ok (no_typed_cases, s)) ≡ Ok (as_typed_cases done, s)
cases_behind-none done s = let one : TypedCases → Result (TypedCases × State) Refusal = λ cs. Ok (cs, s) in ap one (cases_after-none done)

cases_behind-push : (done : List TypedSwitchPart) (x : TypedSwitchPart) (rest : Result (TypedCases × State) Refusal)
    → cases_behind (done ++ x ∷ []) rest ≡ cases_behind done (then_with rest (λ b. Ok (and_typed_case (typed_case x) b.0, b.1)))
cases_behind-push done x (Err r) = refl
cases_behind-push done x (Ok a) = let one : TypedCases → Result (TypedCases × State) Refusal = λ cs. Ok (cs, a.1) in ap one (cases_after-push done x a.0)

pub case_passed : (around : Around) (of : IntType) (done : List TypedSwitchPart) (s t : State) (l m : Labels) (p : CaseTree) (ps : CaseTrees) (x : TypedSwitchPart)
    → case_in s around of l p ≡ Ok (typed_case x, m, t) → cases_behind (done ++ x ∷ []) (cases_in t around of m ps) ≡ cases_behind done (cases_in s around of l (and_case p ps))
case_passed around of done s t l m p ps x e =
    let k : TypedCase × Labels × State → Result (TypedCases × State) Refusal = λ a. then_with (cases_in a.2 around of a.1 ps) (λ b. Ok (and_typed_case a.0 b.0, b.1)) in
    cases_behind-push done x (cases_in t around of m ps) ∙ ap (λ r. cases_behind done (then_with r k)) (sym e)

pub case_stopped : {A : Type 0} (view : A → TypedCases × State) (part : TypedSwitchPart → TypedCase × Labels × State) (around : Around) (of : IntType) (done : List TypedSwitchPart) (s : State) (l : Labels) (p : CaseTree) (ps : CaseTrees) (f : Fail)
    → Gives part (Err f) (case_in s around of l p) → Gives view (Err f) (cases_behind done (cases_in s around of l (and_case p ps)))
case_stopped view part around of done s l p ps (Fails.Refused r) e =
    let k : TypedCase × Labels × State → Result (TypedCases × State) Refusal = λ a. then_with (cases_in a.2 around of a.1 ps) (λ b. Ok (and_typed_case a.0 b.0, b.1)) in
    ap (λ q. cases_behind done (then_with q k)) e
case_stopped view part around of done s l p ps Fails.NoMemory e = tt
