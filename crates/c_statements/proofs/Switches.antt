-- A `switch` whose block is typed, or refused.
use Rattle.std.proofs.Common.{◌≡◌, refl, sym, ap, subst, ◌∙◌, Result, Ok, Err}
use Rattle.tm_cint.specs.declared.int_types.IntType.{IntType}
use Rattle.tm_terms.specs.declared.refusals.Refusal.{Refusal}
use Rattle.tm_terms.specs.declared.refusals.Fail.{Fail}
use Rattle.tm_terms.specs.declared.refusals.Fail.TheVariants as Fails
use Rattle.tm_terms.specs.ExprTrees.{Tree}
use Rattle.tm_trees.specs.FileTrees.{CaseTrees, a_switch}
use Rattle.tm_typed.specs.TypedTrees.{RvalueTree}
use Rattle.tm_typed.specs.States.{State}
use Rattle.tm_typed.specs.Refusals.{Gives, then_with}
use Rattle.tm_typed.specs.TypedStatements.{TypedTree, TypedCases, selects}
use Rattle.tm_typed.specs.StatementRules.{Around, Selector, switching, no_labels}
use Rattle.tm_typed.specs.StatementTyping.{enter, leave, selector_in, statement_in, cases_in}
use Rattle.c_statements.specs.reading.SwitchBlocks.{block_cases}

-- the parts, with the state behind their scope
abbrev parts_left : State → TypedCases × State → Result (TypedCases × State) Refusal
parts_left before b = Ok (b.0, leave before b.1)

abbrev selected : State → IntType → RvalueTree → TypedCases × State → Result (TypedTree × State) Refusal
selected before t v b = Ok (selects t v b.0, leave before b.1)

-- the parts in their scope, behind the selector
ended : (before : State) (t : IntType) (v : RvalueTree) (r : Result (TypedCases × State) Refusal) (ps : TypedCases) (s : State)
    → then_with r (parts_left before) ≡ Ok (ps, s) → then_with r (selected before t v) ≡ Ok (selects t v ps, s)
ended before t v (Err e) ps s h = cc
ended before t v (Ok b) ps s h =
    let pair : TypedCases × State = (b.0, leave before b.1) in
    let same : pair ≡ (ps, s) = from_ok h in
    let one : TypedCases × State → Result (TypedTree × State) Refusal = λ p. Ok (selects t v p.0, p.1) in
    ap one same
  where
    from_ok : {x y : TypedCases × State} → (let a : Result (TypedCases × State) Refusal = Ok x in let b : Result (TypedCases × State) Refusal = Ok y in a ≡ b) → x ≡ y
    from_ok e = cc

stopped : (before : State) (t : IntType) (v : RvalueTree) (r : Result (TypedCases × State) Refusal) (f : Refusal)
    → then_with r (parts_left before) ≡ Err f → then_with r (selected before t v) ≡ Err f
stopped before t v (Err e) f h = let same : e ≡ f = from_err h in ap Err same
  where
    from_err : {x y : Refusal} → (let a : Result (TypedCases × State) Refusal = Err x in let b : Result (TypedCases × State) Refusal = Err y in a ≡ b) → x ≡ y
    from_err e = cc
stopped before t v (Ok b) f h = cc

pub switch_goes : (s before after : State) (around : Around) (t : Tree) (cases : CaseTrees) (selector : Selector) (ps : TypedCases)
    → selector_in s t ≡ Ok (selector, before) → block_cases before (switching around) selector.works_in cases ≡ Ok (ps, after)
    → statement_in s around (a_switch t cases) ≡ Ok (selects selector.works_in selector.value ps, after)
switch_goes s before after around t cases selector ps e f =
    let k : Selector × State → Result (TypedTree × State) Refusal =
    λ a. then_with (cases_in (enter a.1) (switching around) a.0.works_in no_labels cases) (λ b. Ok (selects a.0.works_in a.0.value b.0, leave a.1 b.1)) in
    ap (λ r. then_with r k) e
    ∙ ended before selector.works_in selector.value (cases_in (enter before) (switching around) selector.works_in no_labels cases) ps after f

pub switch_stops : {A B : Type 0} (view : B → TypedCases × State) (whole : A → TypedTree × State) (s before : State) (around : Around) (t : Tree) (cases : CaseTrees) (selector : Selector) (f : Fail)
    → selector_in s t ≡ Ok (selector, before) → Gives view (Err f) (block_cases before (switching around) selector.works_in cases)
    → Gives whole (Err f) (statement_in s around (a_switch t cases))
switch_stops view whole s before around t cases selector (Fails.Refused r) e h =
    let k : Selector × State → Result (TypedTree × State) Refusal =
    λ a. then_with (cases_in (enter a.1) (switching around) a.0.works_in no_labels cases) (λ b. Ok (selects a.0.works_in a.0.value b.0, leave a.1 b.1)) in
    ap (λ r. then_with r k) e
    ∙ stopped before selector.works_in selector.value (cases_in (enter before) (switching around) selector.works_in no_labels cases) r h
switch_stops view whole s before around t cases selector Fails.NoMemory e h = tt

pub selector_stops : {A B : Type 0} (view : B → Selector × State) (whole : A → TypedTree × State) (s : State) (around : Around) (t : Tree) (cases : CaseTrees) (f : Fail)
    → Gives view (Err f) (selector_in s t) → Gives whole (Err f) (statement_in s around (a_switch t cases))
selector_stops view whole s around t cases (Fails.Refused r) h =
    let k : Selector × State → Result (TypedTree × State) Refusal =
    λ a. then_with (cases_in (enter a.1) (switching around) a.0.works_in no_labels cases) (λ b. Ok (selects a.0.works_in a.0.value b.0, leave a.1 b.1)) in
    ap (λ q. then_with q k) h
selector_stops view whole s around t cases Fails.NoMemory h = tt
