-- Trees whose parts lie in vectors, as lists.
use Rattle.std.proofs.Common.{◌≡◌, ℕ, ◌+◌, ◌<◌, ◌≤◌, length, drop, get_or, refl, ap, sym, ◌∙◌, Bool, true, false, if◌then◌else◌, List, [], ◌∷◌, map, Result, Ok, Err, arith}
use Rattle.std.specs.declared.alloc.Global.{Global}
use Rattle.std.specs.declared.vec.Vec.{Vec}
use Rattle.std.specs.Prelude.{Box}
use Rattle.tm_cint.specs.declared.int_types.IntType.{IntType}
use Rattle.tm_terms.specs.declared.places.Place.{Place}
use Rattle.tm_typed.specs.declared.expressions.Rvalue.{Rvalue}
use Rattle.tm_typed.specs.declared.expressions.Rvalue.TheVariants as Rvalues
use Rattle.tm_typed.specs.declared.statements.LocalObject.{LocalObject}
use Rattle.tm_typed.specs.declared.statements.TypedStatement.{TypedStatement}
use Rattle.tm_typed.specs.declared.statements.TypedStatement.TheVariants as Typed
use Rattle.tm_typed.specs.declared.statements.TypedSwitchPart.{TypedSwitchPart}
use Rattle.tm_typed.specs.TypedTrees.{rvalue_tree, as_rvalues}
use Rattle.tm_typed.specs.TypedStatements.{TypedCase, TypedCases, no_typed_cases, and_typed_case, a_label}
use Rattle.tm_typed.specs.TypedStatements.{a_default_label, a_labelled_step, local_tree, typed_tree}
use Rattle.tm_typed.specs.TypedStatements.{typed_case, as_typed_trees, as_typed_cases}
use Rattle.std.proofs.lemmas.List.{at_drop_more}
use Rattle.task_interpreter.proofs.Steps.{run_ok, run_err}
use Rattle.tm_typed.proofs.CallTrees.{rvalue_tree-call}
use Rattle.tm_typed.proofs.TypedStatementTrees.{typed_tree-block, typed_tree-switch}
use Rattle.concrete_values.specs.declared.values.Value.{Value}
use Rattle.concrete_values.specs.declared.actions.Next.{Next}
use Rattle.concrete_values.specs.Operators.{is_case}
use Rattle.task_interpreter.specs.declared.answers.Gave.{Gave}
use Rattle.task_interpreter.specs.declared.answers.Flow.{Flow}
use Rattle.task_interpreter.specs.declared.answers.Flow.TheVariants.{Goes, Breaks, Continues, Returns}
use Rattle.task_interpreter.specs.reading.Direct.{Seat, run_then, goes_on, flow_then, left_switch, value_ran, locals_ran, local_ran, statement_ran, block_ran, cases_ran, case_ran, default_ran}
use Rattle.task_interpreter.specs.reading.Sizes.{rvalue_size, rvalues_size, initialiser_size, locals_size, statement_size, statements_size, case_size, cases_size}
use Rattle.task_interpreter.specs.reading.Lists.{leading_size, declared_ran, declared_size, listed_ran, listed_size, part_ran, parts_ran, parts_size, is_wanted, is_default, case_rest, default_rest}

-- ## What they do

module _ (s : Seat) where
  goes_alike : (f g : ℕ → Result Flow Next) (r : Result Flow Next) → ((at : ℕ) → f at ≡ g at) → goes_on r f ≡ goes_on r g
  goes_alike f g (Ok (Goes at)) h = h at
  goes_alike f g (Ok (Breaks at)) h = refl
  goes_alike f g (Ok (Continues at)) h = refl
  goes_alike f g (Ok (Returns x)) h = refl
  goes_alike f g (Err n) h = refl

  runs_alike : (f g : ℕ → Result Gave Next) (r : Result Gave Next) → ((at : ℕ) → f at ≡ g at) → run_then r (λ u at. f at) ≡ run_then r (λ u at. g at)
  unfolding run_then
  runs_alike f g (Ok x) h = h x.at
  runs_alike f g (Err n) h = refl

  listed : (ts : List TypedStatement) (at : ℕ) → block_ran s (as_typed_trees ts) at ≡ listed_ran s ts at
  listed [] at = refl
  listed (t ∷ ts) at = goes_alike (λ at1. block_ran s (as_typed_trees ts) at1) (λ at1. listed_ran s ts at1) (statement_ran s (typed_tree t) at) (λ at1. listed ts at1)

  pub block_listed : (items : Vec TypedStatement Global) (at : ℕ) → statement_ran s (typed_tree (Typed.Block items)) at ≡ listed_ran s items.items at
  block_listed items at = ap (λ t. statement_ran s t at) (typed_tree-block items) ∙ listed items.items at

  pub body_listed : (ts : List TypedStatement) (at : ℕ) → block_ran s (as_typed_trees ts) at ≡ listed_ran s ts at
  body_listed ts at = listed ts at

  declared : (ls : List LocalObject) (at : ℕ) → locals_ran s (map local_tree ls) at ≡ declared_ran s ls at
  declared [] at = refl
  declared (l ∷ ls) at = runs_alike (λ at1. locals_ran s (map local_tree ls) at1) (λ at1. declared_ran s ls at1) (local_ran s (local_tree l) at) (λ at1. declared ls at1)

  pub declared_next : (ls : List LocalObject) (k : ℕ) (x : LocalObject) (at : ℕ) (g : Gave) → x ≡ get_or ls k x → k < length ls → local_ran s (local_tree x) at ≡ Ok g
      → declared_ran s (drop k ls) at ≡ declared_ran s (drop (k + 1) ls) g.at
  declared_next ls k x at g is lt e =
      at_drop_more (λ xs. declared_ran s xs at) ls k x lt
      ∙ run_ok (local_ran s (local_tree (get_or ls k x)) at) g (λ u at1. declared_ran s (drop (k + 1) ls) at1) (ap (λ y. local_ran s (local_tree y) at) (sym is) ∙ e)

  pub declared_stop : (ls : List LocalObject) (k : ℕ) (x : LocalObject) (at : ℕ) (n : Next) → x ≡ get_or ls k x → k < length ls → local_ran s (local_tree x) at ≡ Err n
      → declared_ran s (drop k ls) at ≡ Err n
  declared_stop ls k x at n is lt e =
      at_drop_more (λ xs. declared_ran s xs at) ls k x lt
      ∙ run_err (local_ran s (local_tree (get_or ls k x)) at) n (λ u at1. declared_ran s (drop (k + 1) ls) at1) (ap (λ y. local_ran s (local_tree y) at) (sym is) ∙ e)

  pub locals_listed : (items : Vec LocalObject Global) (at : ℕ) (r : Result Gave Next) → declared_ran s items.items at ≡ r
      → statement_ran s (typed_tree (Typed.Declare items)) at ≡ flow_then r (λ u at1. Ok (Goes at1))
  locals_listed items at r e = ap (λ r. flow_then r (λ u at1. Ok (Goes at1))) (declared items.items at ∙ e)

  parts_by : (cs : TypedCases) (f : ℕ → Result Flow Next) (c : TypedCase) (at : ℕ) → ((at1 : ℕ) → cases_ran s cs at1 ≡ f at1)
      → cases_ran s (and_typed_case c cs) at ≡ goes_on (part_ran s c at) f
  parts_by cs f (a_label z p) at h = h at
  parts_by cs f (a_default_label p) at h = h at
  parts_by cs f (a_labelled_step t) at h = goes_alike (λ at1. cases_ran s cs at1) f (statement_ran s t at) h

  parts_listed : (cs : List TypedSwitchPart) (at : ℕ) → cases_ran s (as_typed_cases cs) at ≡ parts_ran s cs at
  parts_listed [] at = refl
  parts_listed (c ∷ cs) at = parts_by (as_typed_cases cs) (λ at1. parts_ran s cs at1) (typed_case c) at (λ at1. parts_listed cs at1)

  case_test : (b : Bool) (cs rest : TypedCases) (r : Result Flow Next) (at : ℕ) → r ≡ cases_ran s rest at
      → (if b then cases_ran s cs at else r) ≡ cases_ran s (if b then cs else rest) at
  case_test true cs rest r at h = refl
  case_test false cs rest r at h = h

  case_by : (v : Value) (cs other : TypedCases) (at : ℕ) → case_ran s v cs (λ at1. cases_ran s other at1) at ≡ cases_ran s (case_rest v cs other) at
  case_by v no_typed_cases other at = refl
  case_by v (and_typed_case (a_label z p) cs) other at =
      case_test (is_case z v) cs (case_rest v cs other) (case_ran s v cs (λ at1. cases_ran s other at1) at) at (case_by v cs other at)
  case_by v (and_typed_case (a_default_label p) cs) other at = case_by v cs other at
  case_by v (and_typed_case (a_labelled_step t) cs) other at = case_by v cs other at

  default_by : (cs : TypedCases) (at : ℕ) → default_ran s cs at ≡ cases_ran s (default_rest cs) at
  default_by no_typed_cases at = refl
  default_by (and_typed_case (a_label z p) cs) at = default_by cs at
  default_by (and_typed_case (a_default_label p) cs) at = refl
  default_by (and_typed_case (a_labelled_step t) cs) at = default_by cs at

  other_by : (v : Value) (cs : TypedCases) (f g : ℕ → Result Flow Next) (at : ℕ) → ((k : ℕ) → f k ≡ g k) → case_ran s v cs f at ≡ case_ran s v cs g at
  other_by v no_typed_cases f g at h = h at
  other_by v (and_typed_case (a_label z p) cs) f g at h = ap (λ r. if is_case z v then cases_ran s cs at else r) (other_by v cs f g at h)
  other_by v (and_typed_case (a_default_label p) cs) f g at h = other_by v cs f g at h
  other_by v (and_typed_case (a_labelled_step t) cs) f g at h = other_by v cs f g at h

  selected : (v : Value) (cs : TypedCases) (at : ℕ) → case_ran s v cs (default_ran s cs) at ≡ cases_ran s (case_rest v cs (default_rest cs)) at
  selected v cs at = other_by v cs (default_ran s cs) (λ at1. cases_ran s (default_rest cs) at1) at (default_by cs) ∙ case_by v cs (default_rest cs) at

  switch_ran : (t : IntType) (e : Box Rvalue Global) (items : Vec TypedSwitchPart Global) (rest : List TypedSwitchPart) (at : ℕ) (g : Gave) (r : Result Flow Next)
      → value_ran s (rvalue_tree e.value) at ≡ Ok g
      → as_typed_cases rest ≡ case_rest g.value (as_typed_cases items.items) (default_rest (as_typed_cases items.items))
      → parts_ran s rest g.at ≡ r
      → statement_ran s (typed_tree (Typed.Switch t e items)) at ≡ left_switch r
  switch_ran t e items rest at g r h f k =
      ap (λ t. statement_ran s t at) (typed_tree-switch t e items)
      ∙ ap (λ x. flow_then x (λ v at1. left_switch (case_ran s v (as_typed_cases items.items) (default_ran s (as_typed_cases items.items)) at1))) h
      ∙ ap left_switch (selected g.value (as_typed_cases items.items) g.at ∙ ap (λ cs. cases_ran s cs g.at) (sym f) ∙ parts_listed rest g.at ∙ k)

  pub switch_goes : (t : IntType) (e : Box Rvalue Global) (items : Vec TypedSwitchPart Global) (rest : List TypedSwitchPart) (at : ℕ) (g : Gave) (x : ℕ)
      → value_ran s (rvalue_tree e.value) at ≡ Ok g
      → as_typed_cases rest ≡ case_rest g.value (as_typed_cases items.items) (default_rest (as_typed_cases items.items))
      → parts_ran s rest g.at ≡ Ok (Goes x)
      → statement_ran s (typed_tree (Typed.Switch t e items)) at ≡ Ok (Goes x)
  switch_goes t e items rest at g x h f k = switch_ran t e items rest at g (Ok (Goes x)) h f k

  pub switch_breaks : (t : IntType) (e : Box Rvalue Global) (items : Vec TypedSwitchPart Global) (rest : List TypedSwitchPart) (at : ℕ) (g : Gave) (x : ℕ)
      → value_ran s (rvalue_tree e.value) at ≡ Ok g
      → as_typed_cases rest ≡ case_rest g.value (as_typed_cases items.items) (default_rest (as_typed_cases items.items))
      → parts_ran s rest g.at ≡ Ok (Breaks x)
      → statement_ran s (typed_tree (Typed.Switch t e items)) at ≡ Ok (Goes x)
  switch_breaks t e items rest at g x h f k = switch_ran t e items rest at g (Ok (Breaks x)) h f k

  pub switch_continues : (t : IntType) (e : Box Rvalue Global) (items : Vec TypedSwitchPart Global) (rest : List TypedSwitchPart) (at : ℕ) (g : Gave) (x : ℕ)
      → value_ran s (rvalue_tree e.value) at ≡ Ok g
      → as_typed_cases rest ≡ case_rest g.value (as_typed_cases items.items) (default_rest (as_typed_cases items.items))
      → parts_ran s rest g.at ≡ Ok (Continues x)
      → statement_ran s (typed_tree (Typed.Switch t e items)) at ≡ Ok (Continues x)
  switch_continues t e items rest at g x h f k = switch_ran t e items rest at g (Ok (Continues x)) h f k

  pub switch_returns : (t : IntType) (e : Box Rvalue Global) (items : Vec TypedSwitchPart Global) (rest : List TypedSwitchPart) (at : ℕ) (g : Gave) (x : Gave)
      → value_ran s (rvalue_tree e.value) at ≡ Ok g
      → as_typed_cases rest ≡ case_rest g.value (as_typed_cases items.items) (default_rest (as_typed_cases items.items))
      → parts_ran s rest g.at ≡ Ok (Returns x)
      → statement_ran s (typed_tree (Typed.Switch t e items)) at ≡ Ok (Returns x)
  switch_returns t e items rest at g x h f k = switch_ran t e items rest at g (Ok (Returns x)) h f k

  pub switch_stops : (t : IntType) (e : Box Rvalue Global) (items : Vec TypedSwitchPart Global) (rest : List TypedSwitchPart) (at : ℕ) (g : Gave) (x : Next)
      → value_ran s (rvalue_tree e.value) at ≡ Ok g
      → as_typed_cases rest ≡ case_rest g.value (as_typed_cases items.items) (default_rest (as_typed_cases items.items))
      → parts_ran s rest g.at ≡ Err x
      → statement_ran s (typed_tree (Typed.Switch t e items)) at ≡ Err x
  switch_stops t e items rest at g x h f k = switch_ran t e items rest at g (Err x) h f k

  pub switch_none : (t : IntType) (e : Box Rvalue Global) (items : Vec TypedSwitchPart Global) (at : ℕ) (n : Next)
      → value_ran s (rvalue_tree e.value) at ≡ Err n → statement_ran s (typed_tree (Typed.Switch t e items)) at ≡ Err n
  switch_none t e items at n h =
      ap (λ t. statement_ran s t at) (typed_tree-switch t e items)
      ∙ ap (λ x. flow_then x (λ v at1. left_switch (case_ran s v (as_typed_cases items.items) (default_ran s (as_typed_cases items.items)) at1))) h

-- ## Their sizes

arguments_sized : (es : List Rvalue) → rvalues_size (as_rvalues es) ≡ leading_size es
arguments_sized [] = refl
arguments_sized (e ∷ es) = ap (λ n. rvalue_size (rvalue_tree e) + n) (arguments_sized es)

call_sized : (f site : ℕ) (items : Vec Rvalue Global) (p : Place) → rvalue_size (rvalue_tree (Rvalues.Call f site items p)) ≡ 8 + leading_size items.items
call_sized f site items p = ap rvalue_size (rvalue_tree-call f site items p) ∙ ap (λ n. 8 + n) (arguments_sized items.items)

pub call_below : (e : Rvalue) (f site : ℕ) (items : Vec Rvalue Global) (p : Place) → e ≡ Rvalues.Call f site items p → leading_size items.items + 5 < rvalue_size (rvalue_tree e)
call_below e f site items p is = let all = ap (λ x. rvalue_size (rvalue_tree x)) is ∙ call_sized f site items p in omega (arith, all)

statements_sized : (ts : List TypedStatement) → statements_size (as_typed_trees ts) ≡ listed_size ts
statements_sized [] = refl
statements_sized (t ∷ ts) = ap (λ n. statement_size (typed_tree t) + n) (statements_sized ts)

pub body_sized : (ts : List TypedStatement) → statements_size (as_typed_trees ts) ≡ listed_size ts
body_sized ts = statements_sized ts

pub block_sized : (items : Vec TypedStatement Global) → statement_size (typed_tree (Typed.Block items)) ≡ 4 + listed_size items.items
block_sized items = ap statement_size (typed_tree-block items) ∙ ap (λ n. 4 + n) (statements_sized items.items)

declared_sized : (ls : List LocalObject) → locals_size (map local_tree ls) ≡ declared_size ls
declared_sized [] = refl
declared_sized (l ∷ ls) = ap (λ n. initialiser_size (local_tree l).initialiser + n) (declared_sized ls)

pub locals_sized : (items : Vec LocalObject Global) → statement_size (typed_tree (Typed.Declare items)) ≡ 4 + declared_size items.items
locals_sized items = ap (λ n. 4 + n) (declared_sized items.items)

cases_sized : (cs : List TypedSwitchPart) → cases_size (as_typed_cases cs) ≡ parts_size cs
cases_sized [] = refl
cases_sized (c ∷ cs) = ap (λ n. case_size (typed_case c) + n) (cases_sized cs)

pub switch_sized : (t : IntType) (e : Box Rvalue Global) (items : Vec TypedSwitchPart Global)
    → statement_size (typed_tree (Typed.Switch t e items)) ≡ 8 + rvalue_size (rvalue_tree e.value) + parts_size items.items
switch_sized t e items = ap statement_size (typed_tree-switch t e items) ∙ ap (λ n. 8 + rvalue_size (rvalue_tree e.value) + n) (cases_sized items.items)

test_smaller : (b : Bool) (cs rest : TypedCases) (n : ℕ) → cases_size cs ≤ n → cases_size rest ≤ n → cases_size (if b then cs else rest) ≤ n
test_smaller true cs rest n h k = h
test_smaller false cs rest n h k = k

default_smaller : (cs : TypedCases) → cases_size (default_rest cs) ≤ cases_size cs
default_smaller no_typed_cases = omega arith
default_smaller (and_typed_case c cs) =
    let below = default_smaller cs in
    test_smaller (is_default c) cs (default_rest cs) (case_size c + cases_size cs) (omega arith) (omega (arith, below))

rest_smaller : (v : Value) (cs other : TypedCases) (n : ℕ) → cases_size other ≤ n → cases_size cs ≤ n → cases_size (case_rest v cs other) ≤ n
rest_smaller v no_typed_cases other n h k = h
rest_smaller v (and_typed_case c cs) other n h k =
    test_smaller (is_wanted c v) cs (case_rest v cs other) n (omega (arith, k)) (rest_smaller v cs other n h (omega (arith, k)))

parts_behind : (v : Value) (items rest : List TypedSwitchPart) → as_typed_cases rest ≡ case_rest v (as_typed_cases items) (default_rest (as_typed_cases items))
    → parts_size rest ≤ parts_size items
parts_behind v items rest e =
    let below = rest_smaller v (as_typed_cases items) (default_rest (as_typed_cases items)) (cases_size (as_typed_cases items)) (default_smaller (as_typed_cases items)) (omega arith) in
    let here = sym (cases_sized rest) ∙ ap cases_size e in
    omega (arith, below, here, cases_sized items)

pub switch_below : (t : IntType) (e : Box Rvalue Global) (items : Vec TypedSwitchPart Global) (rest : List TypedSwitchPart) (v : Value)
    → as_typed_cases rest ≡ case_rest v (as_typed_cases items.items) (default_rest (as_typed_cases items.items))
    → parts_size rest + 1 < statement_size (typed_tree (Typed.Switch t e items))
switch_below t e items rest v h =
    let below = parts_behind v items.items rest h in
    let all = switch_sized t e items in
    omega (arith, below, all)
