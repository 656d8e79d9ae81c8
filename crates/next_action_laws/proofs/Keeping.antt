-- Two ways to go on, of which the second is given one answer more: where the answer fits, what comes next is proper.
use Rattle.std.proofs.Common.{◌≡◌, refl, ap, sym, subst, ℕ, zero, suc, ◌<◌, ◌≤◌, Bool, true, false, List, [], ◌∷◌, ◌++◌}
use Rattle.std.proofs.Common.{length, Option, Some, None, arith}
use Rattle.std.specs.Prelude.{nat_lt, if◌then◌else◌, is_some, Result, Ok, Err}
use Rattle.std.proofs.lemmas.Bool.{false≢true, ltb-true, lt-ltb}
use Rattle.cell_layout.specs.tm_cint.declared.Class.{Class}
use Rattle.cell_layout.specs.tm_cint.declared.int_types.IntType.TheVariants as Ints
use Rattle.cell_layout.specs.tm_terms.declared.places.Place.{Place}
use Rattle.cell_layout.specs.tm_typed.declared.types.Scalar.{Scalar}
use Rattle.cell_layout.specs.tm_typed.declared.types.Scalar.TheVariants as Scalars
use Rattle.cell_layout.specs.tm_typed.WellTyped.{ValueKind, a_number, a_pointer, no_value, kind_of_scalar}
use Rattle.cell_layout.specs.tm_laid.Layouts.{LaidTree}
use Rattle.cell_types.specs.concrete_values.declared.values.Value.{Value}
use Rattle.cell_types.specs.concrete_values.declared.values.Value.TheVariants.{Number, Pointer as APointer}
use Rattle.cell_types.specs.concrete_values.declared.values.Answer.{Answer}
use Rattle.cell_types.specs.concrete_values.declared.values.Answer.TheVariants.{Given, Done}
use Rattle.cell_types.specs.concrete_values.declared.actions.Next.{Next}
use Rattle.cell_types.specs.concrete_values.declared.actions.Next.TheVariants as Acts
use Rattle.cell_types.specs.concrete_values.Values.{truth_value, is_true}
use Rattle.cell_types.specs.concrete_values.Actions.{is_of, value_if, answer_of}
use Rattle.concrete_steps.specs.NextAction.{After, last, fit_then, act_then, result_then, Use, as_value, as_branch}
use Rattle.concrete_steps.specs.NextAction.{tested, value_used, truth_used, loop_then, loop_over}
use Rattle.next_action_laws.specs.Actions.{IsProper}

-- ## Kinds of values

abbrev pub HasKind : LaidTree → ValueKind → Value → Type 0
HasKind laid (a_number t) v = is_of laid (Scalars.Int t) v ≡ true
HasKind laid a_pointer v = is_of laid (Scalars.Pointer 0) v ≡ true
HasKind laid no_value v = Unit {0}

pub of_scalar : (laid : LaidTree) (s : Scalar) (v : Value) → is_of laid s v ≡ true → HasKind laid (kind_of_scalar s) v
unfolding is_of
of_scalar laid (Scalars.Int t) v e = e
of_scalar laid (Scalars.Pointer c) (Number n) e = e
of_scalar laid (Scalars.Pointer c) (APointer p) e = e

pub to_scalar : (laid : LaidTree) (s : Scalar) (v : Value) → HasKind laid (kind_of_scalar s) v → is_of laid s v ≡ true
unfolding is_of
to_scalar laid (Scalars.Int t) v e = e
to_scalar laid (Scalars.Pointer c) (Number n) e = e
to_scalar laid (Scalars.Pointer c) (APointer p) e = e

pub truth_is : (laid : LaidTree) (b : Bool) → HasKind laid (a_number Ints.Int) (truth_value b)
unfolding is_of
truth_is laid true = refl
truth_is laid false = refl

-- ## Which answers fit

pub loaded_is : (laid : LaidTree) (o k : ℕ) (s : Scalar) (b : Bool) (p : Place) (x : Answer) (v : Value)
    → answer_of laid (Acts.Load o k s b p) x ≡ Some v → is_of laid s v ≡ true
unfolding answer_of
loaded_is laid o k s b p (Given u) v e = by_test (is_of laid s u) refl e
  where
    by_test : (t : Bool) → is_of laid s u ≡ t → value_if t u ≡ Some v → is_of laid s v ≡ true
    by_test true q f = (let P : Option Value
        → Type 0 = λ z. elim z as (λ x. Type 0) [ None ↦ ⊥ | Some y ↦ is_of laid s y ≡ true ] in subst P f q)
    by_test false q f = absurd cc
loaded_is laid o k s b p Done v e = absurd cc

module _ (laid : LaidTree) (body : ℕ) (a : Answer) where
  abbrev pub Fits : Next → Type 0
  Fits action = is_some (answer_of laid action a) ≡ true

  -- After at most so many answers the first goes on and the second is given one more.
  pub record Keeps (most : ℕ) (k j : After) : Type 0 where
    pub first : IsProper laid body (j [])
    pub more : (l : List Answer) → length l ≤ most → Fits (k l) → IsProper laid body (j (l ++ a ∷ []))

  pub keeps_less : (n m : ℕ) (k j : After) → n ≤ m → Keeps m k j → Keeps n k j
  keeps_less n m k j le h = record { first = h.first; more = λ l s f. h.more l (omega (arith, le, s)) f }

  -- ## What takes no answer

  misfit_takes : (x : Answer) → is_some (answer_of laid Acts.Misfit x) ≡ true → ⊥
  unfolding answer_of
  misfit_takes (Given v) e = false≢true e
  misfit_takes Done e = false≢true e

  fault_takes : (c : Class) (p : Place) (x : Answer) → is_some (answer_of laid (Acts.Fault c p) x) ≡ true → ⊥
  unfolding answer_of
  fault_takes c p (Given v) e = false≢true e
  fault_takes c p Done e = false≢true e

  spins_takes : (x : Answer) → is_some (answer_of laid Acts.Spins x) ≡ true → ⊥
  unfolding answer_of
  spins_takes (Given v) e = false≢true e
  spins_takes Done e = false≢true e

  ended_takes : (x : Answer) → is_some (answer_of laid Acts.Ended x) ≡ true → ⊥
  unfolding answer_of
  ended_takes (Given v) e = false≢true e
  ended_takes Done e = false≢true e

  last_keeps : (m : ℕ) (action : Next) → IsProper laid body action → (Fits action → ⊥)
      → Keeps m (last action) (last action)
  last_keeps m action proper none = record { first = proper; more = more }
    where
      more : (l : List Answer) → length l ≤ m → Fits (last action l) → IsProper laid body (last action (l ++ a ∷ []))
      more [] s f = absurd (none f)
      more (b ∷ l) s f = absurd (misfit_takes a f)

  pub fault_keeps : (m : ℕ) (c : Class) (p : Place) → Keeps m (last (Acts.Fault c p)) (last (Acts.Fault c p))
  fault_keeps m c p = last_keeps m (Acts.Fault c p) tt (fault_takes c p a)

  pub ended_keeps : (m : ℕ) → Keeps m (last Acts.Ended) (last Acts.Ended)
  ended_keeps m = last_keeps m Acts.Ended tt (ended_takes a)

  -- ## Actions

  by_answer : (m : ℕ) (action : Next) (go to : Value → After) (x : Answer) (l : List Answer) → length l ≤ m
      → ((y : Answer) (v : Value) → answer_of laid action y ≡ Some v → Keeps m (go v) (to v))
      → (o : Option Value) → answer_of laid action x ≡ o → Fits (fit_then o go l)
      → IsProper laid body (fit_then o to (l ++ a ∷ []))
  by_answer m action go to x l s h (Some v) e f = (h x v e).more l s f
  by_answer m action go to x l s h None e f = absurd (misfit_takes a f)

  answered : (m : ℕ) (action : Next) (go to : Value → After)
      → ((y : Answer) (v : Value) → answer_of laid action y ≡ Some v → Keeps m (go v) (to v)) → (o : Option Value)
      → answer_of laid action a ≡ o
      → is_some o ≡ true → IsProper laid body (fit_then o to [])
  answered m action go to h (Some v) e f = (h a v e).first
  answered m action go to h None e f = absurd (false≢true f)

  pub act_keeps : (m : ℕ) (action : Next) (go to : Value → After) → IsProper laid body action
      → ((y : Answer) (v : Value) → answer_of laid action y ≡ Some v → Keeps m (go v) (to v))
      → Keeps m (act_then laid action go) (act_then laid action to)
  act_keeps m action go to proper h = record { first = proper; more = more }
    where
      more : (l : List Answer) → length l ≤ m → Fits (act_then laid action go l)
          → IsProper laid body (act_then laid action to (l ++ a ∷ []))
      more [] s f = answered m action go to h (answer_of laid action a) refl f
      more (b ∷ l) s f = by_answer m action go to b l (omega (arith, s)) h (answer_of laid action b) refl f

  -- ## Uses

  pub result_keeps : (m : ℕ) (r : Result Value Class) (p : Place) (go to : Value → After)
      → ((v : Value) → r ≡ Ok v → Keeps m (go v) (to v)) → Keeps m (result_then r p go) (result_then r p to)
  result_keeps m (Ok v) p go to h = h v refl
  result_keeps m (Err c) p go to h = fault_keeps m c p

  pub if_keeps : (m : ℕ) (b : Bool) (one other one' other' : After) → Keeps m one one' → Keeps m other other'
      → Keeps m (if b then one else other) (if b then one' else other')
  if_keeps m true one other one' other' h g = h
  if_keeps m false one other one' other' h g = g

  abbrev pub Uses : ℕ → ValueKind → Use → Use → Type 0
  Uses m k (as_value go) (as_value to) = (v : Value) → HasKind laid k v → Keeps m (go v) (to v)
  Uses m k (as_branch one other) (as_branch one' other') = Keeps m one one' × Keeps m other other'
  Uses m k (as_value go) (as_branch one' other') = ⊥
  Uses m k (as_branch one other) (as_value to) = ⊥

  pub value_keeps : (m : ℕ) (k : ValueKind) (how how' : Use) (pointer : Bool) (p : Place) → Uses m k how how'
      → (v : Value) → HasKind laid k v → Keeps m (value_used how pointer p v) (value_used how' pointer p v)
  value_keeps m k (as_value go) (as_value to) pointer p h v x = h v x
  value_keeps m k (as_branch one other) (as_branch one' other') pointer p h v x =
      result_keeps m (tested pointer v) p (λ u. if is_true u then one else other)
      (λ u. if is_true u then one' else other') (λ u e. if_keeps m (is_true u) one other one' other' h.0 h.1)
  value_keeps m k (as_value go) (as_branch one' other') pointer p h v x = absurd h
  value_keeps m k (as_branch one other) (as_value to) pointer p h v x = absurd h

  pub truth_keeps : (m : ℕ) (how how' : Use) → Uses m (a_number Ints.Int) how how' → (b : Bool)
      → Keeps m (truth_used how b) (truth_used how' b)
  truth_keeps m (as_value go) (as_value to) h b = h (truth_value b) (truth_is laid b)
  truth_keeps m (as_branch one other) (as_branch one' other') h b = if_keeps m b one other one' other' h.0 h.1
  truth_keeps m (as_value go) (as_branch one' other') h b = absurd h
  truth_keeps m (as_branch one other) (as_value to) h b = absurd h

  -- ## Loops

  from_spins : (m : ℕ) (j : After) → IsProper laid body (j []) → Keeps m (last Acts.Spins) j
  from_spins m j h = record { first = h; more = more }
    where
      more : (l : List Answer) → length l ≤ m → Fits (last Acts.Spins l) → IsProper laid body (j (l ++ a ∷ []))
      more [] s f = absurd (spins_takes a f)
      more (b ∷ l) s f = absurd (misfit_takes a f)

  proper_if : (b : Bool) (one other : Next) → IsProper laid body one → IsProper laid body other
      → IsProper laid body (if b then one else other)
  proper_if true one other h g = h
  proper_if false one other h g = g

  abbrev back : (After → After) → ℕ → ℕ → After
  back turn n size left = if nat_lt (length left) size then loop_then turn n left else last Acts.Spins left

  module _ (m : ℕ) (turn turn' : After → After)
      (turns : (n : ℕ) → n ≤ m → (b b' : After) → Keeps n b b' → Keeps n (turn b) (turn' b')) where
    starts : (n : ℕ) → IsProper laid body (loop_then turn' n [])
    starts zero = (turns 0 (omega arith) (last Acts.Spins) (last Acts.Spins) (from_spins 0 (last Acts.Spins) tt)).first
    starts (suc n) = (turns 0 (omega arith) (last Acts.Spins) (back turn' n 0) (from_spins 0 (back turn' n 0) tt)).first

    abbrev GoOn : List Answer → Type 0
    GoOn l = (n k : ℕ) → length l ≤ n → suc (length l) ≤ k → Fits (loop_then turn n l)
        → IsProper laid body (loop_then turn' k (l ++ a ∷ []))

    longer : (l : List Answer) → length (l ++ a ∷ []) ≡ suc (length l)
    longer [] = refl
    longer (b ∷ l) = ap suc (longer l)

    back_starts : (k : ℕ) (size : ℕ) → IsProper laid body (back turn' k size [])
    back_starts k size = proper_if (nat_lt 0 size) (loop_then turn' k []) Acts.Spins (starts k) tt

    from_head : (l : List Answer) → length l ≤ m → ((left : List Answer) → length left < length l → GoOn left) → GoOn l
    from_head l s ih n zero p q f = absurd (omega (arith, q))
    from_head l s ih zero (suc k) p q f =
        let b : After = back turn' k (length (l ++ a ∷ [])) in
        (turns (length l) s (last Acts.Spins) b (from_spins (length l) b (back_starts k (length (l ++ a ∷ []))))).more l
        (omega arith) f
    from_head l s ih (suc n) (suc k) p q f =
        let b : After = back turn n (length l) in
        let b' : After = back turn' k (length (l ++ a ∷ [])) in
        (turns (length l) s b b' (record {
          first = back_starts k (length (l ++ a ∷ []));
          more = λ left t g. by_test left t (nat_lt (length left) (length l)) refl g;
        })).more l (omega arith) f
      where
        by_test : (left : List Answer) → length left ≤ length l → (t : Bool) → nat_lt (length left) (length l) ≡ t
            → Fits (if t then loop_then turn n left else last Acts.Spins left)
            → IsProper laid body (back turn' k (length (l ++ a ∷ [])) (left ++ a ∷ []))
        by_test left t true e g =
            let lt = ltb-true (length left) (length l) e in
            let x = longer left in
            let y = longer l in
            let still : nat_lt (length (left ++ a ∷ [])) (length (l ++ a ∷ [])) ≡ true =
            lt-ltb (length (left ++ a ∷ [])) (length (l ++ a ∷ [])) (omega (arith, lt, x, y)) in
            let there : IsProper laid body (loop_then turn' k (left ++ a ∷ [])) =
            ih left lt n k (omega (arith, lt, p)) (omega (arith, lt, q)) g in
            let P : Bool → Type 0 = λ z.
            IsProper laid body (if z then loop_then turn' k (left ++ a ∷ []) else
            last Acts.Spins (left ++ a ∷ [])) in
            subst P (sym still) there
        by_test left t false e g = absurd (spun left g)
          where
            spun : (x : List Answer) → Fits (last Acts.Spins x) → ⊥
            spun [] h = spins_takes a h
            spun (c ∷ x) h = misfit_takes a h

    goes_on : (size : ℕ) (l : List Answer) → length l ≤ size → length l ≤ m → GoOn l
    goes_on zero l s t = from_head l t (λ left lt. absurd (omega (arith, lt, s)))
    goes_on (suc size) l s t =
        from_head l t (λ left lt. goes_on size left (omega (arith, lt, s)) (omega (arith, lt, t)))

    pub loop_keeps : Keeps m (loop_over turn) (loop_over turn')
    loop_keeps = record {
      first = starts 0;
      more = λ l s f. goes_on m l s s (length l) (length (l ++ a ∷ [])) (omega arith)
          (let x = longer l in omega (arith, x)) f;
    }
