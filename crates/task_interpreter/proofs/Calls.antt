-- Arguments are evaluated, and then their values are stored.
use Rattle.std.proofs.Common.{◌≡◌, ℕ, zero, suc, ◌+◌, ◌<◌, ◌≤◌, refl, ap, sym, ◌∙◌, List, [], ◌∷◌, length, take, drop, get_or, slice_get, Result, Ok, Err, Some, None, arith}
use Rattle.std.specs.declared.alloc.Global.{Global}
use Rattle.std.specs.declared.vec.Vec.{Vec}
use Rattle.tm_terms.specs.declared.places.Place.{Place}
use Rattle.tm_typed.specs.declared.types.Scalar.{Scalar}
use Rattle.tm_typed.specs.declared.expressions.Rvalue.{Rvalue}
use Rattle.tm_typed.specs.declared.expressions.Rvalue.TheVariants as Rvalues
use Rattle.tm_typed.specs.declared.scopes.ObjectNumber.TheVariants.{Local}
use Rattle.tm_typed.specs.TypedTrees.{rvalue_tree, as_rvalues}
use Rattle.std.proofs.lemmas.List.{at_drop_more}
use Rattle.task_interpreter.proofs.Steps.{run_ok, run_err}
use Rattle.tm_typed.proofs.CallTrees.{rvalue_tree-call}
use Rattle.tm_laid.specs.Layouts.{LaidTree, callee, object_of}
use Rattle.concrete_values.specs.declared.values.Pointer.{Pointer}
use Rattle.concrete_values.specs.declared.values.Pointer.TheVariants as Pointers
use Rattle.concrete_values.specs.declared.values.Value.{Value}
use Rattle.concrete_values.specs.declared.values.Answer.{Answer}
use Rattle.concrete_values.specs.declared.values.Answer.TheVariants.{Given, Done}
use Rattle.concrete_values.specs.declared.actions.Next.{Next}
use Rattle.concrete_values.specs.Values.{nothing, pointer_of}
use Rattle.concrete_values.specs.Pointers.{base}
use Rattle.concrete_values.specs.Actions.{store_at, store_by, answer_of}
use Rattle.concrete_steps.specs.NextAction.{scalar_at}
use Rattle.task_interpreter.specs.declared.answers.Gave.{Gave}
use Rattle.task_interpreter.specs.reading.Direct.{gave, act_at, act_ran, run_then, Seat, Values, with_value, and_values, values_then, value_ran, arguments_ran, passed_ran, called, body_ran, seat}
use Rattle.task_interpreter.specs.reading.Lists.{leading_ran, values_in, values_at, AreEvaluated}

call_by : (s : Seat) (f site : ℕ) (items : Vec Rvalue Global) (p : Place) (at : ℕ)
    → value_ran s (rvalue_tree (Rvalues.Call f site items p)) at ≡ values_then (arguments_ran s (as_rvalues items.items) at) (λ vs at1. s.call site vs p at1)
call_by s f site items p at = ap (λ e. value_ran s e at) (rvalue_tree-call f site items p)

pub call_tree : (laid : LaidTree) (answers : List Answer) (depth path : ℕ) (e : Rvalue) (f site : ℕ) (items : Vec Rvalue Global) (p : Place) (at : ℕ) (r : Result Gave Next)
    → e ≡ Rvalues.Call f site items p
    → r ≡ values_then (arguments_ran (seat laid answers depth path) (as_rvalues items.items) at) (λ vs at1. called laid answers (body_ran laid answers depth) path site vs p at1)
    → r ≡ value_ran (seat laid answers depth path) (rvalue_tree e) at
call_tree laid answers depth path e f site items p at r is k =
    k ∙ sym (call_by (seat laid answers depth path) f site items p at) ∙ ap (λ x. value_ran (seat laid answers depth path) (rvalue_tree x) at) (sym is)

-- ## Stores that are done

alike : (laid : LaidTree) (q : Pointer) (s : Scalar) (v w : Value) (p : Place) (at : ℕ) (a : Answer)
    → act_at laid (Some a) (store_by q s v p) at ≡ act_at laid (Some a) (store_by q s w p) at
unfolding answer_of
alike laid Pointers.Null s v w p at a = refl
alike laid Pointers.Invalid s v w p at a = refl
alike laid (Pointers.To o k) s v w p at (Given x) = refl
alike laid (Pointers.To o k) s v w p at Done = refl

pub done_alike : (laid : LaidTree) (answers : List Answer) (address : Value) (s : Scalar) (v w : Value) (p : Place) (at : ℕ) (a : Answer)
    → slice_get answers at ≡ Some a
    → act_ran laid answers (store_at address s v p) at ≡ act_ran laid answers (store_at address s w p) at
unfolding act_ran store_at
done_alike laid answers address s v w p at a e =
    ap (λ o. act_at laid o (store_by (pointer_of address) s v p) at) e
    ∙ alike laid (pointer_of address) s v w p at a
    ∙ sym (ap (λ o. act_at laid o (store_by (pointer_of address) s w p) at) e)

pub not_done : (laid : LaidTree) (answers : List Answer) (n : Next) (at : ℕ) → slice_get answers at ≡ None → act_ran laid answers n at ≡ Err n
unfolding act_ran
not_done laid answers n at e = ap (λ o. act_at laid o n at) e

-- ## Arguments

abbrev pub last_of : Value → List Value → Value
last_of v [] = v
last_of v (w ∷ ws) = last_of w ws

abbrev pub led : Value → Result Values Next → Result Gave Next
led v (Ok vs) = Ok (gave (last_of v vs.values) vs.at)
led v (Err n) = Err n

module _ (s : Seat) where
  pub leading_next : (es : List Rvalue) (k : ℕ) (x : Rvalue) (g h : Gave) → x ≡ get_or es k x → k < length es → value_ran s (rvalue_tree x) g.at ≡ Ok h
      → leading_ran s (drop k es) g ≡ leading_ran s (drop (k + 1) es) h
  leading_next es k x g h is lt e =
      at_drop_more (λ xs. leading_ran s xs g) es k x lt
      ∙ run_ok (value_ran s (rvalue_tree (get_or es k x)) g.at) h (λ v at. leading_ran s (drop (k + 1) es) (gave v at)) (ap (λ y. value_ran s (rvalue_tree y) g.at) (sym is) ∙ e)

  pub leading_stop : (es : List Rvalue) (k : ℕ) (x : Rvalue) (g : Gave) (n : Next) → x ≡ get_or es k x → k < length es → value_ran s (rvalue_tree x) g.at ≡ Err n
      → leading_ran s (drop k es) g ≡ Err n
  leading_stop es k x g n is lt e =
      at_drop_more (λ xs. leading_ran s xs g) es k x lt
      ∙ run_err (value_ran s (rvalue_tree (get_or es k x)) g.at) n (λ v at. leading_ran s (drop (k + 1) es) (gave v at)) (ap (λ y. value_ran s (rvalue_tree y) g.at) (sym is) ∙ e)

  led_with : (v w : Value) (r : Result Values Next) → led w r ≡ led v (with_value w r)
  led_with v w (Ok vs) = refl
  led_with v w (Err n) = refl

  leads_by : (es : List Rvalue) (v : Value) (r : Result Gave Next) → ((w : Value) (at : ℕ) → leading_ran s es (gave w at) ≡ led w (arguments_ran s (as_rvalues es) at))
      → run_then r (λ w at. leading_ran s es (gave w at)) ≡ led v (and_values r (λ at. arguments_ran s (as_rvalues es) at))
  unfolding run_then and_values
  leads_by es v (Ok g) h = h g.value g.at ∙ led_with v g.value (arguments_ran s (as_rvalues es) g.at)
  leads_by es v (Err n) h = refl

  leads : (es : List Rvalue) (v : Value) (at : ℕ) → leading_ran s es (gave v at) ≡ led v (arguments_ran s (as_rvalues es) at)
  leads [] v at = refl
  leads (e ∷ es) v at = leads_by es v (value_ran s (rvalue_tree e) at) (leads es)

  -- ### all are evaluated, or one stops

  evaluated_by : (es : List Rvalue) (v : Value) (at : ℕ) (g : Gave) (r : Result Values Next) → arguments_ran s (as_rvalues es) at ≡ r → led v r ≡ Ok g
      → (arguments_ran s (as_rvalues es) at ≡ Ok (values_in r)) × ((values_in r).at ≡ g.at)
  evaluated_by es v at g (Ok vs) e f = (e, (let same : gave (last_of v vs.values) vs.at ≡ g = cc in ap (λ z. z.at) same))
  evaluated_by es v at g (Err n) e f = absurd cc

  all_evaluated : (es : List Rvalue) (v : Value) (at : ℕ) (g : Gave) → leading_ran s es (gave v at) ≡ Ok g
      → (arguments_ran s (as_rvalues es) at ≡ Ok (values_in (arguments_ran s (as_rvalues es) at))) × ((values_in (arguments_ran s (as_rvalues es) at)).at ≡ g.at)
  all_evaluated es v at g e = evaluated_by es v at g (arguments_ran s (as_rvalues es) at) refl (sym (leads es v at) ∙ e)

  stopped_by : (v : Value) (n : Next) (r : Result Values Next) → led v r ≡ Err n → r ≡ Err n
  stopped_by v n (Ok vs) e = absurd cc
  stopped_by v n (Err m) e = let same : m ≡ n = cc in ap Err same

  pub are_evaluated : (es : List Rvalue) (at : ℕ) (g : Gave) → leading_ran s es (gave nothing at) ≡ Ok g → AreEvaluated s es at
  unfolding AreEvaluated
  are_evaluated es at g e = (all_evaluated es nothing at g e).0

  pub none_evaluated : (es : List Rvalue) (at : ℕ) (n : Next) (go : List Value → ℕ → Result Gave Next) → leading_ran s es (gave nothing at) ≡ Err n
      → values_then (arguments_ran s (as_rvalues es) at) go ≡ Err n
  unfolding values_then
  none_evaluated es at n go e = ap (λ r. values_then r go) (stopped_by nothing n (arguments_ran s (as_rvalues es) at) (sym (leads es nothing at) ∙ e))

  then_called : (es : List Rvalue) (at : ℕ) (g : Gave) (go : List Value → ℕ → Result Gave Next) → leading_ran s es (gave nothing at) ≡ Ok g
      → values_then (arguments_ran s (as_rvalues es) at) go ≡ go (values_at s es at) g.at
  unfolding values_then values_at
  then_called es at g go e =
      let found = all_evaluated es nothing at g e in
      ap (λ r. values_then r go) found.0 ∙ ap (go (values_in (arguments_ran s (as_rvalues es) at)).values) found.1

  pub passed_on : (laid : LaidTree) (answers : List Answer) (body : ℕ → ℕ → Result Gave Next) (path site : ℕ) (es : List Rvalue) (p : Place) (at : ℕ) (g h : Gave)
      → leading_ran s es (gave nothing at) ≡ Ok g
      → passed_ran laid answers (callee laid path site) 0 (values_at s es at) p g.at ≡ Ok h
      → values_then (arguments_ran s (as_rvalues es) at) (λ vs at1. called laid answers body path site vs p at1) ≡ body (callee laid path site) h.at
  unfolding called run_then
  passed_on laid answers body path site es p at g h e f =
      then_called es at g (λ vs at1. called laid answers body path site vs p at1) e
      ∙ ap (λ r. run_then r (λ u at1. body (callee laid path site) at1)) f

  pub not_passed : (laid : LaidTree) (answers : List Answer) (body : ℕ → ℕ → Result Gave Next) (path site : ℕ) (es : List Rvalue) (p : Place) (at : ℕ) (g : Gave) (n : Next)
      → leading_ran s es (gave nothing at) ≡ Ok g
      → passed_ran laid answers (callee laid path site) 0 (values_at s es at) p g.at ≡ Err n
      → values_then (arguments_ran s (as_rvalues es) at) (λ vs at1. called laid answers body path site vs p at1) ≡ Err n
  unfolding called run_then
  not_passed laid answers body path site es p at g n e f =
      then_called es at g (λ vs at1. called laid answers body path site vs p at1) e
      ∙ ap (λ r. run_then r (λ u at1. body (callee laid path site) at1)) f

  -- ### the value of one of them

  abbrev Reached : List Rvalue → ℕ → ℕ → Value → List Value → Type 0
  Reached es k at v vs = (end : ℕ) × (leading_ran s (take (suc k) es) (gave v at) ≡ Ok (gave (get_or vs k nothing) end))

  tail_of : (v : Value) (r : Result Values Next) (vs : Values) → with_value v r ≡ Ok vs
      → (ws : Values) × (r ≡ Ok ws) × (vs.values ≡ v ∷ ws.values)
  tail_of v (Ok ws) vs e = (ws, refl, (let same : (record { values = v ∷ ws.values; at = ws.at }) ≡ vs = cc in sym (ap (λ (z : Values). z.values) same)))
  tail_of v (Err n) vs e = absurd cc

  reached_by : (es : List Rvalue) (k at : ℕ) (v : Value) (vs : Values) (r : Result Gave Next)
      → and_values r (λ at1. arguments_ran s (as_rvalues es) at1) ≡ Ok vs
      → ((ws : Values) (j at1 : ℕ) (w : Value) → arguments_ran s (as_rvalues es) at1 ≡ Ok ws → j < length es → Reached es j at1 w ws.values)
      → k < suc (length es)
      → (end : ℕ) × (run_then r (λ w at1. leading_ran s (take k es) (gave w at1)) ≡ Ok (gave (get_or vs.values k nothing) end))
  unfolding run_then and_values
  reached_by es zero at v vs (Ok g) e h lt =
      let found = tail_of g.value (arguments_ran s (as_rvalues es) g.at) vs e in
      (g.at, ap (λ (xs : List Value). Ok (gave (get_or xs 0 nothing) g.at)) (sym found.2))
  reached_by es (suc k) at v vs (Ok g) e h lt =
      let found = tail_of g.value (arguments_ran s (as_rvalues es) g.at) vs e in
      let below = h found.0 k g.at g.value found.1 (omega (arith, lt)) in
      (below.0, below.1 ∙ ap (λ (xs : List Value). Ok (gave (get_or xs (suc k) nothing) below.0)) (sym found.2))
  reached_by es k at v vs (Err n) e h lt = absurd cc

  reached : (es : List Rvalue) (vs : Values) (k at : ℕ) (v : Value) → arguments_ran s (as_rvalues es) at ≡ Ok vs → k < length es → Reached es k at v vs.values
  reached [] vs k at v e lt = absurd (omega (arith, lt))
  reached (x ∷ es) vs k at v e lt = reached_by es k at v vs (value_ran s (rvalue_tree x) at) e (λ ws j at1 w f below. reached es ws j at1 w f below) lt

  pub last_value : (es : List Rvalue) (k at : ℕ) (g : Gave) → AreEvaluated s es at → k < length es
      → leading_ran s (take (k + 1) es) (gave nothing at) ≡ Ok g → get_or (values_at s es at) k nothing ≡ g.value
  unfolding AreEvaluated values_at
  last_value es k at g all lt e =
      let found = reached es (values_in (arguments_ran s (as_rvalues es) at)) k at nothing all lt in
      let n : k + 1 ≡ suc k = omega arith in
      let both : Ok (gave (get_or (values_in (arguments_ran s (as_rvalues es) at)).values k nothing) found.0) ≡ Ok g = sym found.1 ∙ ap (λ i. leading_ran s (take i es) (gave nothing at)) (sym n) ∙ e in
      let same : gave (get_or (values_in (arguments_ran s (as_rvalues es) at)).values k nothing) found.0 ≡ g = cc in
      ap (λ z. z.value) same

  -- the same of a part of the arguments
  pub value_of_last : (es part : List Rvalue) (k at : ℕ) (g : Gave) → AreEvaluated s es at → k < length es → part ≡ take (k + 1) es
      → leading_ran s part (gave nothing at) ≡ Ok g → g.value ≡ get_or (values_at s es at) k nothing
  value_of_last es part k at g all lt is e =
      sym (last_value es k at g all lt (ap (λ xs. leading_ran s xs (gave nothing at)) (sym is) ∙ e))

  pub has_value : (es : List Rvalue) (k at : ℕ) (n : Next) → AreEvaluated s es at → k < length es
      → leading_ran s (take (k + 1) es) (gave nothing at) ≡ Err n → ⊥
  unfolding AreEvaluated
  has_value es k at n all lt e =
      let found = reached es (values_in (arguments_ran s (as_rvalues es) at)) k at nothing all lt in
      let m : k + 1 ≡ suc k = omega arith in
      let both : Ok (gave (get_or (values_in (arguments_ran s (as_rvalues es) at)).values k nothing) found.0) ≡ Err n = sym found.1 ∙ ap (λ i. leading_ran s (take i es) (gave nothing at)) (sym m) ∙ e in
      absurd cc

  -- ### how many there are

  counted_by : (es : List Rvalue) (vs : Values) (r : Result Gave Next)
      → ((ws : Values) (at1 : ℕ) → arguments_ran s (as_rvalues es) at1 ≡ Ok ws → length ws.values ≡ length es)
      → and_values r (λ at1. arguments_ran s (as_rvalues es) at1) ≡ Ok vs → length vs.values ≡ suc (length es)
  unfolding and_values
  counted_by es vs (Ok g) h f =
      let found = tail_of g.value (arguments_ran s (as_rvalues es) g.at) vs f in
      ap length found.2 ∙ ap suc (h found.0 g.at found.1)
  counted_by es vs (Err n) h f = absurd cc

  counted : (es : List Rvalue) (at : ℕ) (vs : Values) → arguments_ran s (as_rvalues es) at ≡ Ok vs → length vs.values ≡ length es
  counted [] at vs e = let same : (record { values = []; at = at }) ≡ vs = cc in ap (λ (z : Values). length z.values) (sym same)
  counted (x ∷ es) at vs e = counted_by es vs (value_ran s (rvalue_tree x) at) (λ ws at1 f. counted es at1 ws f) e

  pub count : (es : List Rvalue) (at : ℕ) → AreEvaluated s es at → length (values_at s es at) ≡ length es
  unfolding AreEvaluated values_at
  count es at all = counted es at (values_in (arguments_ran s (as_rvalues es) at)) all

-- ## Stores of values

drop_more : (vs : List Value) (k : ℕ) → k < length vs → drop k vs ≡ get_or vs k nothing ∷ drop (suc k) vs
drop_more [] k lt = absurd (omega (arith, lt))
drop_more (v ∷ vs) zero lt = refl
drop_more (v ∷ vs) (suc k) lt = drop_more vs k (omega (arith, lt))

drop_all : (vs : List Value) (k : ℕ) → length vs ≤ k → drop k vs ≡ []
drop_all [] zero le = refl
drop_all [] (suc k) le = refl
drop_all (v ∷ vs) zero le = absurd (omega (arith, le))
drop_all (v ∷ vs) (suc k) le = drop_all vs k (omega (arith, le))

module _ (laid : LaidTree) (answers : List Answer) (path : ℕ) (vs : List Value) (p : Place) where
  abbrev stored_at : ℕ → ℕ → Result Gave Next
  stored_at k at = act_ran laid answers (store_at (base laid (object_of laid path (Local k))) (scalar_at laid (object_of laid path (Local k)) 0) (get_or vs k nothing) p) at

  pub passes_next : (k at : ℕ) (g : Gave) → k < length vs → stored_at k at ≡ Ok g
      → passed_ran laid answers path k (drop k vs) p at ≡ passed_ran laid answers path (k + 1) (drop (k + 1) vs) p g.at
  unfolding run_then
  passes_next k at g lt e =
      let n : suc k ≡ k + 1 = omega arith in
      ap (λ xs. passed_ran laid answers path k xs p at) (drop_more vs k lt)
      ∙ ap (λ r. run_then r (λ u at1. passed_ran laid answers path (suc k) (drop (suc k) vs) p at1)) e
      ∙ ap (λ i. passed_ran laid answers path i (drop i vs) p g.at) n

  pub passes_stop : (k at : ℕ) (n : Next) → k < length vs → stored_at k at ≡ Err n → passed_ran laid answers path k (drop k vs) p at ≡ Err n
  unfolding run_then
  passes_stop k at n lt e =
      ap (λ xs. passed_ran laid answers path k xs p at) (drop_more vs k lt)
      ∙ ap (λ r. run_then r (λ u at1. passed_ran laid answers path (suc k) (drop (suc k) vs) p at1)) e

  pub passes_end : (k at : ℕ) → length vs ≤ k → passed_ran laid answers path k (drop k vs) p at ≡ Ok (gave nothing at)
  passes_end k at le = ap (λ xs. passed_ran laid answers path k xs p at) (drop_all vs k le)

-- the same where the arguments are evaluated
module _ (laid : LaidTree) (answers : List Answer) (path : ℕ) (p : Place) (s : Seat) (es : List Rvalue) (before : ℕ) where
  pub passed_next : (k at : ℕ) (g : Gave) → AreEvaluated s es before → k < length es
      → act_ran laid answers (store_at (base laid (object_of laid path (Local k))) (scalar_at laid (object_of laid path (Local k)) 0) (get_or (values_at s es before) k nothing) p) at ≡ Ok g
      → passed_ran laid answers path k (drop k (values_at s es before)) p at ≡ passed_ran laid answers path (k + 1) (drop (k + 1) (values_at s es before)) p g.at
  passed_next k at g all lt e = passes_next laid answers path (values_at s es before) p k at g (omega (arith, lt, count s es before all)) e

  pub passed_stop : (k at : ℕ) (n : Next) → AreEvaluated s es before → k < length es
      → act_ran laid answers (store_at (base laid (object_of laid path (Local k))) (scalar_at laid (object_of laid path (Local k)) 0) (get_or (values_at s es before) k nothing) p) at ≡ Err n
      → passed_ran laid answers path k (drop k (values_at s es before)) p at ≡ Err n
  passed_stop k at n all lt e = passes_stop laid answers path (values_at s es before) p k at n (omega (arith, lt, count s es before all)) e

  pub passed_end : (k at : ℕ) → AreEvaluated s es before → length es ≤ k
      → passed_ran laid answers path k (drop k (values_at s es before)) p at ≡ Ok (gave nothing at)
  passed_end k at all le = passes_end laid answers path (values_at s es before) p k at (omega (arith, le, count s es before all))
