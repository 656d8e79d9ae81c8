-- The rows of an object without linkage, before what follows them.
use Rattle.std.proofs.Common.{◌≡◌, true, false, Result, Ok, Err, refl, sym, subst}
use Rattle.tm_terms.specs.declared.refusals.Kind.TheVariants as Kinds
use Rattle.tm_terms.specs.declared.refusals.Refusal.{Refusal}
use Rattle.tm_terms.specs.declared.refusals.Fail.{Fail}
use Rattle.tm_typed.specs.States.{State}
use Rattle.tm_typed.specs.Structures.{is_no_object, is_declared_here}
use Rattle.tm_typed.specs.Refusals.{Gives, row, then_with}
use Rattle.tm_typed.specs.Declarations.{Declared, object_rules}
use Rattle.c_declarations.proofs.Frames.{passes, goes_on}

object_then : {A : Type 0} (s : State) (d : Declared) (further : Result A Refusal) → object_rules s d further ≡ then_with (object_rules s d (Ok s)) (λ t. further)
object_then {A} s d further =
    elim d.shape.left_out as (λ b. row b Kinds.Unsupported d.place (row (is_declared_here s d.name) Kinds.Redeclared d.place (row (is_no_object s.scope d.shape) Kinds.Mismatch d.place further))
    ≡ then_with (row b Kinds.Unsupported d.place (row (is_declared_here s d.name) Kinds.Redeclared d.place (row (is_no_object s.scope d.shape) Kinds.Mismatch d.place (Ok s)))) (λ t. further)) [
      | true ↦ refl
      | false ↦ elim (is_declared_here s d.name) as (λ b. row b Kinds.Redeclared d.place (row (is_no_object s.scope d.shape) Kinds.Mismatch d.place further)
          ≡ then_with (row b Kinds.Redeclared d.place (row (is_no_object s.scope d.shape) Kinds.Mismatch d.place (Ok s))) (λ t. further)) [
            | true ↦ refl
            | false ↦ elim (is_no_object s.scope d.shape) as (λ b. row b Kinds.Mismatch d.place further ≡ then_with (row b Kinds.Mismatch d.place (Ok s)) (λ t. further)) [ true ↦ refl | false ↦ refl ]
          ]
    ]

-- it is refused
pub object_passes : {A C D : Type 0} (v : A → State) (w : C → D) (f : Fail) (s : State) (d : Declared) (further : Result D Refusal)
    → Gives v (Err f) (object_rules s d (Ok s)) → Gives w (Err f) (object_rules s d further)
object_passes {A} {C} {D} v w f s d further e =
    let P : Result D Refusal → Type 0 = λ r. Gives w (Err f) r in
    subst P (sym (object_then s d further)) (passes v w f (object_rules s d (Ok s)) (λ t. further) e)

-- it is not
pub object_goes : {C D : Type 0} (w : C → D) (r : Result C Fail) (s : State) (d : Declared) (further : Result D Refusal)
    → object_rules s d (Ok s) ≡ Ok s → Gives w r further → Gives w r (object_rules s d further)
object_goes {C} {D} w r s d further e h =
    let P : Result D Refusal → Type 0 = λ x. Gives w r x in
    subst P (sym (object_then s d further)) (goes_on w r (object_rules s d (Ok s)) s (λ t. further) e h)

pub ruleset rows = (object_passes, object_goes)

pub ruleset parts = (rows, passes, goes_on)
