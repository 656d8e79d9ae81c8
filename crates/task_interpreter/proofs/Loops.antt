-- Loops go turn by turn.
use Rattle.std.proofs.Common.{◌≡◌, ℕ, zero, suc, ◌<◌, ◌≤◌, refl, ap, ◌∙◌, Bool, true, false, ltb, if◌then◌else◌, List, Result, Ok, Err, arith}
use Rattle.std.proofs.lemmas.Bool.{ltb-true, lt-ltb}
use Rattle.concrete_values.specs.declared.values.Answer.{Answer}
use Rattle.concrete_values.specs.declared.actions.Next.{Next}
use Rattle.concrete_values.specs.declared.actions.Next.TheVariants as Acts
use Rattle.task_interpreter.specs.declared.answers.Gave.{Gave}
use Rattle.task_interpreter.specs.declared.answers.Flow.{Flow}
use Rattle.task_interpreter.specs.declared.answers.Flow.TheVariants.{Goes, Breaks, Continues, Returns}
use Rattle.task_interpreter.specs.reading.Direct.{loop_over, loop_ran, turned, comes_back, left_at, last_at}
use Rattle.task_interpreter.proofs.Steps.{if_true, if_false}

by_test : (answers : List Answer) (f g : ℕ → Result Flow Next) (at1 : ℕ) (b : Bool) → (b ≡ true → f at1 ≡ g at1)
    → (if b then f at1 else Err (last_at answers Acts.Spins at1)) ≡ (if b then g at1 else Err (last_at answers Acts.Spins at1))
by_test answers f g at1 true h = h refl
by_test answers f g at1 false h = refl

by_bool : (a b : ℕ) → b ≤ a → (t : Bool) → ltb a b ≡ t → ltb a b ≡ false
by_bool a b h true e = absurd (omega (arith, h, ltb-true a b e))
by_bool a b h false e = e

pub ge-ltb : (a b : ℕ) → b ≤ a → ltb a b ≡ false
ge-ltb a b h = by_bool a b h (ltb a b) refl

-- where the turns after this one agree, so does the loop
back_same : (answers : List Answer) (f g : ℕ → Result Flow Next) (at at1 : ℕ) → ((k : ℕ) → left_at answers k < left_at answers at → f k ≡ g k)
    → comes_back answers f at at1 ≡ comes_back answers g at at1
back_same answers f g at at1 h = by_test answers f g at1 (ltb (left_at answers at1) (left_at answers at)) (λ e. h at1 (ltb-true _ _ e))

turned_same : (answers : List Answer) (f g : ℕ → Result Flow Next) (at : ℕ) → ((k : ℕ) → left_at answers k < left_at answers at → f k ≡ g k)
    → (r : Result Flow Next) → turned answers f at r ≡ turned answers g at r
turned_same answers f g at h (Ok (Goes at1)) = back_same answers f g at at1 h
turned_same answers f g at h (Ok (Breaks at1)) = refl
turned_same answers f g at h (Ok (Continues at1)) = refl
turned_same answers f g at h (Ok (Returns x)) = refl
turned_same answers f g at h (Err n) = refl

-- a bound on the turns that is large enough is as good as any other
enough : (answers : List Answer) (turn : ℕ → Result Flow Next) (n m at : ℕ) → left_at answers at ≤ n → left_at answers at ≤ m
    → loop_ran answers turn n at ≡ loop_ran answers turn m at
enough answers turn zero zero at h h' = refl
enough answers turn zero (suc m) at h h' = turned_same answers _ _ at (λ k lt. absurd (omega (arith, lt, h))) (turn at)
enough answers turn (suc n) zero at h h' = turned_same answers _ _ at (λ k lt. absurd (omega (arith, lt, h'))) (turn at)
enough answers turn (suc n) (suc m) at h h' =
    turned_same answers _ _ at (λ k lt. enough answers turn n m k (omega (arith, lt, h)) (omega (arith, lt, h'))) (turn at)

ran_turned : (answers : List Answer) (turn : ℕ → Result Flow Next) (n at : ℕ) → left_at answers at ≤ n
    → loop_ran answers turn n at ≡ turned answers (loop_over answers turn) at (turn at)
unfolding loop_over
ran_turned answers turn zero at h = turned_same answers _ _ at (λ k lt. absurd (omega (arith, lt, h))) (turn at)
ran_turned answers turn (suc n) at h =
    turned_same answers _ _ at (λ k lt. enough answers turn n (left_at answers k) k (omega (arith, lt, h)) (omega arith)) (turn at)

-- one turn
loop_turns : (answers : List Answer) (turn : ℕ → Result Flow Next) (at : ℕ)
    → loop_over answers turn at ≡ turned answers (loop_over answers turn) at (turn at)
unfolding loop_over
loop_turns answers turn at = ran_turned answers turn (left_at answers at) at (omega arith)

-- what a turn means for the loop
turn_gives : (answers : List Answer) (turn : ℕ → Result Flow Next) (at : ℕ) (r : Result Flow Next) → turn at ≡ r
    → loop_over answers turn at ≡ turned answers (loop_over answers turn) at r
turn_gives answers turn at r e = loop_turns answers turn at ∙ ap (turned answers (loop_over answers turn) at) e

pub turn_stops : (answers : List Answer) (turn : ℕ → Result Flow Next) (at : ℕ) (n : Next) → turn at ≡ Err n → loop_over answers turn at ≡ Err n
turn_stops answers turn at n e = turn_gives answers turn at (Err n) e

pub turn_leaves : (answers : List Answer) (turn : ℕ → Result Flow Next) (at out : ℕ) → turn at ≡ Ok (Breaks out) → loop_over answers turn at ≡ Ok (Goes out)
turn_leaves answers turn at out e = turn_gives answers turn at (Ok (Breaks out)) e

pub turn_continues : (answers : List Answer) (turn : ℕ → Result Flow Next) (at out : ℕ) → turn at ≡ Ok (Continues out) → loop_over answers turn at ≡ Ok (Continues out)
turn_continues answers turn at out e = turn_gives answers turn at (Ok (Continues out)) e

pub turn_returns : (answers : List Answer) (turn : ℕ → Result Flow Next) (at : ℕ) (g : Gave) → turn at ≡ Ok (Returns g) → loop_over answers turn at ≡ Ok (Returns g)
turn_returns answers turn at g e = turn_gives answers turn at (Ok (Returns g)) e

pub turn_again : (answers : List Answer) (turn : ℕ → Result Flow Next) (at back : ℕ) → turn at ≡ Ok (Goes back) → left_at answers back < left_at answers at
    → loop_over answers turn at ≡ loop_over answers turn back
turn_again answers turn at back e lt = turn_gives answers turn at (Ok (Goes back)) e ∙ if_true (ltb (left_at answers back) (left_at answers at)) _ _ (lt-ltb _ _ lt)

pub turn_spins : (answers : List Answer) (turn : ℕ → Result Flow Next) (at back : ℕ) → turn at ≡ Ok (Goes back) → left_at answers at ≤ left_at answers back
    → loop_over answers turn at ≡ Err (last_at answers Acts.Spins back)
turn_spins answers turn at back e le = turn_gives answers turn at (Ok (Goes back)) e ∙ if_false (ltb (left_at answers back) (left_at answers at)) _ _ (ge-ltb _ _ le)
