-- The contexts of the classes that are noted.
use Rattle.std.proofs.Common.{◌≡◌, ◌↔◌, ◌⊎◌, ap, sym, subst, ◌∙◌, Bool, true, false, IsTrue}
use Rattle.std.proofs.Common.{List, [], ◌∷◌, ◌++◌}
use Rattle.std.specs.Prelude.{Contains}
use Rattle.std.proofs.lemmas.List.Elements.{Contains-append_left, Contains-push, Contains-push_cases}
use Rattle.tm_cint.specs.declared.Class.{Class}
use Rattle.tm_cint.specs.declared.Class.TheVariants.{Race}
use Rattle.tm_terms.specs.declared.places.Place.{Place}
use Rattle.transfer_int.specs.declared.outcomes.Classes.{Classes}
use Rattle.transfer_int.specs.Outcomes.{notes}
use Rattle.access_races.proofs.Joins.{either}
use Rattle.alarm_contexts.specs.declared.exits.Exit.{Exit}
use Rattle.alarm_contexts.specs.declared.exits.Context.{Context}
use Rattle.alarm_contexts.specs.reading.Found.{context_at, IsClassAt}

-- what stands behind the others
pub pushed : {X : Type 0} (old new : List X) (x : X) → new ≡ old ++ x ∷ [] → (y : X)
    → Contains new y ↔ (Contains old y ⊎ (x ≡ y))
pushed old new x is y = (
  λ c. Contains-push_cases old x y (subst (λ l. Contains l y) is c),
  λ h. subst (λ l. Contains l y) (sym is) (either (λ o. Contains-append_left old (x ∷ []) y o)
      (λ s. subst (Contains (old ++ x ∷ [])) s (Contains-push old x)) h),
)

-- a class that is noted gives its context
pub class_noted : (place : Place) (exit : Exit) (class : Class) (noted : Bool) (x : Context) → noted ≡ true
    → (context_at place exit class ≡ x) ↔ IsClassAt place exit class noted x
class_noted place exit class noted x e = (λ h. record { noted_it = e; is = sym h }, λ h. sym h.is)

module _ (place : Place) (exit : Exit) (classes : Classes) (x : Context) where
  -- the context of a class that is noted
  abbrev pub IsNoted : Class → Type 0
  IsNoted class = IsClassAt place exit class (notes classes class) x

  pub no_race : IsNoted Race → ⊥
  no_race h = absurd (let clash : false ≡ true = h.noted_it in cc)

  pub class_of : ((class : Class) × IsNoted class)
      ↔ ((x ≡ context_at place exit x.alarm.class) × IsTrue (notes classes x.alarm.class))
  class_of = (
    λ (n : (class : Class) × IsNoted class).
        let same : n.0 ≡ x.alarm.class = sym (ap (λ (z : Context). z.alarm.class) n.1.is) in (
          n.1.is ∙ ap (context_at place exit) same,
          subst (λ k. IsTrue (notes classes k)) same n.1.noted_it,
        ),
    λ h. (x.alarm.class, record { noted_it = h.1; is = h.0 }),
  )
