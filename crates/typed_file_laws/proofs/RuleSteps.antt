-- What holds of the answer of a row.
use Rattle.std.proofs.Common.{◌≡◌, refl}
use Rattle.std.specs.Prelude.{Bool, true, false, Option, Some, None, Result, Ok, Err}
use Rattle.tm_laid.specs.tm_terms.declared.places.Place.{Place}
use Rattle.tm_laid.specs.tm_terms.declared.refusals.Kind.{Kind}
use Rattle.tm_laid.specs.tm_terms.declared.refusals.Refusal.{Refusal}
use Rattle.tm_laid.specs.tm_typed.Refusals.{row, row_unless}
use Rattle.tm_laid.specs.tm_typed.WellTyped.{OnAnswer}

-- a row that does not hold
pub on_row : {A : Type 0} (P : A → Type 0) (b : Bool) (kind : Kind) (p : Place) (further : Result A Refusal) → (b ≡ false → OnAnswer P further) → OnAnswer P (row b kind p further)
on_row P true kind p further h = tt
on_row P false kind p further h = h refl

-- what holds of a value, where there is one
abbrev pub OnSome : {A : Type 0} → (A → Type 0) → Option A → Type 0
OnSome P None = Unit {0}
OnSome P (Some a) = P a

pub on_row_unless : {A B : Type 0} (P : A → Type 0) (Q : B → Type 0) (o : Option A) (kind : Kind) (p : Place) (further : A → Result B Refusal)
    → OnSome P o → ((a : A) → P a → OnAnswer Q (further a)) → OnAnswer Q (row_unless o kind p further)
on_row_unless P Q None kind p further h f = tt
on_row_unless P Q (Some a) kind p further h f = f a h

pub some_any : {A : Type 0} (o : Option A) → OnSome (λ (a : A). Unit {0}) o
some_any None = tt
some_any (Some a) = tt

pub answer_weaker : {A : Type 0} (P Q : A → Type 0) (r : Result A Refusal) → ((a : A) → P a → Q a) → OnAnswer P r → OnAnswer Q r
answer_weaker P Q (Err e) f h = tt
answer_weaker P Q (Ok a) f h = f a h
