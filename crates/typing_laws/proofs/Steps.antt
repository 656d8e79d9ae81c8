-- What holds of an answer goes on from parts to the whole.
use Rattle.std.proofs.Common.{◌≡◌, subst, sym}
use Rattle.std.specs.Prelude.{Result, Ok, Err}
use Rattle.tm_typed.specs.tm_terms.declared.refusals.Refusal.{Refusal}
use Rattle.tm_typed.specs.Refusals.{then_with}
use Rattle.tm_typed.specs.WellTyped.{OnAnswer}

pub then_on : {A B : Type 0} (P : A → Type 0) (Q : B → Type 0) (r : Result A Refusal) (k : A → Result B Refusal) → OnAnswer P r → ((a : A) → P a → OnAnswer Q (k a)) → OnAnswer Q (then_with r k)
then_on P Q (Err e) k h f = tt
then_on P Q (Ok a) k h f = f a h

pub then_any : {A B : Type 0} (Q : B → Type 0) (r : Result A Refusal) (k : A → Result B Refusal) → ((a : A) → OnAnswer Q (k a)) → OnAnswer Q (then_with r k)
then_any Q (Err e) k f = tt
then_any Q (Ok a) k f = f a

pub from_answer : {A : Type 0} (P : A → Type 0) (r : Result A Refusal) (a : A) → OnAnswer P r → r ≡ Ok a → P a
from_answer {A} P r a h e = let Q : Result A Refusal → Type 0 = OnAnswer P in subst Q e h
