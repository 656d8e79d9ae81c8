-- How the answer of a part carries over to the whole.
use Rattle.std.proofs.Common.{◌≡◌, ap, subst, sym, Result, Ok, Err}
use Rattle.tm_terms.specs.declared.refusals.Refusal.{Refusal}
use Rattle.tm_terms.specs.declared.refusals.Fail.{Fail}
use Rattle.tm_terms.specs.declared.refusals.Fail.TheVariants as Fails
use Rattle.tm_typed.specs.Refusals.{Gives, then_with}

-- a refusal of a part, or want of memory
pub passes : {A B C D : Type 0} (v : A → B) (w : C → D) (f : Fail) (want : Result B Refusal) (k : B → Result D Refusal) → Gives v (Err f) want → Gives w (Err f) (then_with want k)
passes v w (Fails.Refused r) want k e = ap (λ x. then_with x k) e
passes v w Fails.NoMemory want k e = tt

-- a part that is not refused
pub goes_on : {B C D : Type 0} (w : C → D) (r : Result C Fail) (want : Result B Refusal) (b : B) (k : B → Result D Refusal) → want ≡ Ok b → Gives w r (k b) → Gives w r (then_with want k)
goes_on {B} {C} {D} w r want b k e h = let P : Result B Refusal → Type 0 = λ x. Gives w r (then_with x k) in subst P (sym e) h
