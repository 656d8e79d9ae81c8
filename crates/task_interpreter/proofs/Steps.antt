-- A part, and what comes after it.
use Rattle.std.proofs.Common.{◌≡◌, ℕ, ap, ◌∙◌, Bool, true, false, if◌then◌else◌, Result, Ok, Err, List}
use Rattle.tm_terms.specs.declared.places.Place.{Place}
use Rattle.tm_typed.specs.declared.types.Scalar.{Scalar}
use Rattle.tm_laid.specs.Layouts.{LaidTree}
use Rattle.concrete_values.specs.declared.values.Value.{Value}
use Rattle.concrete_values.specs.declared.values.Answer.{Answer}
use Rattle.concrete_values.specs.declared.actions.Next.{Next}
use Rattle.concrete_values.specs.Actions.{load_at}
use Rattle.task_interpreter.specs.declared.answers.Gave.{Gave}
use Rattle.task_interpreter.specs.declared.answers.Held.{Held}
use Rattle.task_interpreter.specs.reading.Direct.{act_ran, run_then, held_by, loaded, held_then}

pub run_ok : (r : Result Gave Next) (g : Gave) (go : Value → ℕ → Result Gave Next) → r ≡ Ok g → run_then r go ≡ go g.value g.at
unfolding run_then
run_ok r g go e = ap (λ z. run_then z go) e

pub run_err : (r : Result Gave Next) (n : Next) (go : Value → ℕ → Result Gave Next) → r ≡ Err n → run_then r go ≡ Err n
unfolding run_then
run_err r n go e = ap (λ z. run_then z go) e

pub if_true : {A : Type 0} (b : Bool) (x y : A) → b ≡ true → (if b then x else y) ≡ x
if_true b x y e = ap (λ z. if z then x else y) e

pub if_false : {A : Type 0} (b : Bool) (x y : A) → b ≡ false → (if b then x else y) ≡ y
if_false b x y e = ap (λ z. if z then x else y) e

pub held_ok : (r : Result Held Next) (h : Held) (go : Held → Result Gave Next) → r ≡ Ok h → held_then r go ≡ go h
unfolding held_then
held_ok r h go e = ap (λ z. held_then z go) e

pub held_err : (r : Result Held Next) (n : Next) (go : Held → Result Gave Next) → r ≡ Err n → held_then r go ≡ Err n
unfolding held_then
held_err r n go e = ap (λ z. held_then z go) e

pub loaded_ok : (laid : LaidTree) (answers : List Answer) (r : Result Gave Next) (s : Scalar) (volatile : Bool) (p : Place) (g h : Gave)
    → r ≡ Ok g → act_ran laid answers (load_at g.value s volatile p) g.at ≡ Ok h
    → loaded laid answers r s volatile p ≡ Ok (record { address = g.value; value = h.value; at = h.at })
unfolding loaded
loaded_ok laid answers r s volatile p g h e f =
    ap (λ z. loaded laid answers z s volatile p) e ∙ ap (held_by g.value) f

pub loaded_no_value : (laid : LaidTree) (answers : List Answer) (r : Result Gave Next) (s : Scalar) (volatile : Bool) (p : Place) (g : Gave) (n : Next)
    → r ≡ Ok g → act_ran laid answers (load_at g.value s volatile p) g.at ≡ Err n → loaded laid answers r s volatile p ≡ Err n
unfolding loaded
loaded_no_value laid answers r s volatile p g n e f =
    ap (λ z. loaded laid answers z s volatile p) e ∙ ap (held_by g.value) f

pub loaded_no_address : (laid : LaidTree) (answers : List Answer) (r : Result Gave Next) (s : Scalar) (volatile : Bool) (p : Place) (n : Next)
    → r ≡ Err n → loaded laid answers r s volatile p ≡ Err n
unfolding loaded
loaded_no_address laid answers r s volatile p n e = ap (λ z. loaded laid answers z s volatile p) e
