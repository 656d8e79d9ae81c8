-- A run so far, and one choice more.
use Rattle.std.proofs.Common.{◌≡◌, ℕ, ◌+◌, refl, sym, ap, subst, ◌∙◌, List, [], ◌∷◌, Option, Some, None, Result, Ok, Err, arith, ◌⊎◌, inl, inr}
use Rattle.std.specs.Prelude.{Contains, IfOk}
use Rattle.tm_terms.specs.declared.places.Place.{Place}
use Rattle.tm_laid.specs.Layouts.{LaidTree}
use Rattle.concrete_steps.specs.declared.worlds.Choice.{Choice}
use Rattle.concrete_steps.specs.declared.worlds.Stepped.{Stepped}
use Rattle.concrete_steps.specs.declared.worlds.Stepped.TheVariants as Steps
use Rattle.concrete_steps.specs.Worlds.{World, start, step}
use Rattle.concrete_worlds.specs.Races.{IsRacePlace}
use Rattle.replay_lines.specs.declared.endings.Ending.{Ending}
use Rattle.replay_lines.specs.declared.endings.Ending.TheVariants as Ends
use Rattle.replay_runs.specs.Runs.{ended_by, or_later, ending_from, RacesOnWay, here, later, IsRun}
use Rattle.replay_runs.specs.reading.Turns.{AddsRaces, IsSetOf, IsSoFar}

was_done : (number : ℕ) (s : Stepped) → None ≡ ended_by number s → s ≡ Steps.Done
was_done number Steps.Done e = refl
was_done number Steps.NotAllowed e = absurd cc
was_done number (Steps.Stopped class place) e = absurd cc

-- nothing was done
pub none_done : (laid : LaidTree) (choices : List Choice) (w : World) → w ≡ start laid → IsSoFar laid choices [] 0 w choices
none_done laid choices w e = subst (λ (z : World). IsSoFar laid choices [] 0 z choices) (sym e) (record {
  found = λ p r. inr r;
  sure = λ p c. absurd (omega (arith, c.1));
  onward = λ p r. r;
  ends = refl;
})

module _ (laid : LaidTree) (p : Place) where
  race_case : {w : World} {c : Choice} {rest : List Choice} → RacesOnWay laid p w (c ∷ rest)
      → IsRacePlace laid w p ⊎ (((step laid w c).answer ≡ Steps.Done) × RacesOnWay laid p (step laid w c).world rest)
  race_case (here r) = inl r
  race_case (later e r) = inr (e, r)

  race_last : {w : World} → RacesOnWay laid p w [] → IsRacePlace laid w p
  race_last (here r) = r

module _ (laid : LaidTree) (choices : List Choice) (places places' : List Place) (done : ℕ) (w : World) (adds : AddsRaces laid w places places') where
  sure_now : (rest : List Choice) → IsSoFar laid choices places done w rest → (p : Place) → Contains places p ⊎ IsRacePlace laid w p
      → RacesOnWay laid p (start laid) choices
  sure_now rest s p (inl c) = s.sure p c
  sure_now rest s p (inr r) = s.onward p (here r)

  module _ (c : Choice) (rest : List Choice) (s : IsSoFar laid choices places done w (c ∷ rest)) where
    module _ (w' : World) (goes : (step laid w c).answer ≡ Steps.Done) (e : w' ≡ (step laid w c).world) where
      onto : (p : Place) → RacesOnWay laid p (step laid w c).world rest → RacesOnWay laid p w' rest
      onto p r = subst (λ (z : World). RacesOnWay laid p z rest) (sym e) r

      found_now : (p : Place) → Contains places p ⊎ RacesOnWay laid p w (c ∷ rest) → Contains places' p ⊎ RacesOnWay laid p w' rest
      found_now p (inl x) = inl (adds.kept p x)
      found_now p (inr r) = by (race_case laid p r)
        where
          by : IsRacePlace laid w p ⊎ (((step laid w c).answer ≡ Steps.Done) × RacesOnWay laid p (step laid w c).world rest)
              → Contains places' p ⊎ RacesOnWay laid p w' rest
          by (inl r) = inl (adds.all p r)
          by (inr q) = inr (onto p q.1)

      one_more : IsSoFar laid choices places' (done + 1) w' rest
      one_more = record {
        found = λ p r. found_now p (s.found p r);
        sure = λ p x. sure_now (c ∷ rest) s p (adds.only p x);
        onward = λ p r. s.onward p (later goes (subst (λ (z : World). RacesOnWay laid p z rest) e r));
        ends = ap (λ (z : World). ending_from laid (done + 1) z rest) e
            ∙ ap (λ (z : Stepped). or_later (ended_by (done + 1) z) (ending_from laid (done + 1) (step laid w c).world rest)) (sym goes)
            ∙ s.ends;
      }

    -- the choice was done
    pub goes_on : (w' : World) (found : Option Ending) → found ≡ ended_by (done + 1) (step laid w c).answer → found ≡ None → w' ≡ (step laid w c).world
        → IsSoFar laid choices places' (done + 1) w' rest
    goes_on w' found e f k = one_more w' (was_done (done + 1) (step laid w c).answer (sym f ∙ e)) k

    module _ (ending : Ending) (is : Some ending ≡ ended_by (done + 1) (step laid w c).answer) where
      clash : (step laid w c).answer ≡ Steps.Done → ⊥
      clash e = let same : Some ending ≡ None = is ∙ ap (ended_by (done + 1)) e in absurd cc

      all_found : (p : Place) → Contains places p ⊎ RacesOnWay laid p w (c ∷ rest) → Contains places' p
      all_found p (inl x) = adds.kept p x
      all_found p (inr r) = by (race_case laid p r)
        where
          by : IsRacePlace laid w p ⊎ (((step laid w c).answer ≡ Steps.Done) × RacesOnWay laid p (step laid w c).world rest) → Contains places' p
          by (inl r) = adds.all p r
          by (inr q) = absurd (clash q.0)

    -- the run ends by the choice
    pub ends : (set : List Place) (ending given : Ending) (found : Option Ending) → found ≡ ended_by (done + 1) (step laid w c).answer → found ≡ Some ending
        → IsSetOf places' set → given ≡ ending → IsRun laid choices set given
    ends set ending given found e f is_set g =
        let is : Some ending ≡ ended_by (done + 1) (step laid w c).answer = sym f ∙ e in
        record {
          sorted = is_set.sorted;
          all = λ p r. is_set.all p (all_found ending is p (s.found p r));
          only = λ p x. sure_now (c ∷ rest) s p (adds.only p (is_set.only p x));
          ends = g ∙ ap (λ (z : Option Ending). or_later z (ending_from laid (done + 1) (step laid w c).world rest)) is ∙ s.ends;
        }

  last_found : (p : Place) → Contains places p ⊎ RacesOnWay laid p w [] → Contains places' p
  last_found p (inl x) = adds.kept p x
  last_found p (inr r) = adds.all p (race_last laid p r)

  -- all choices were done
  pub ran : (rest : List Choice) (set : List Place) (given : Ending) → rest ≡ [] → IsSoFar laid choices places done w rest → IsSetOf places' set
      → given ≡ Ends.Ran done → IsRun laid choices set given
  ran rest set given none so_far is_set g =
      let s : IsSoFar laid choices places done w [] = subst (λ (z : List Choice). IsSoFar laid choices places done w z) none so_far in
      record {
        sorted = is_set.sorted;
        all = λ p r. is_set.all p (last_found p (s.found p r));
        only = λ p x. sure_now [] s p (adds.only p (is_set.only p x));
        ends = g ∙ s.ends;
      }

-- ## In another name of the layout

module _ (laid other : LaidTree) (same : other ≡ laid) (choices : List Choice) (places places' : List Place) (done : ℕ) (w : World) (tail : List Choice)
    (s : IsSoFar laid choices places done w tail) (adds : AddsRaces other w places places') where
  adds_there : AddsRaces laid w places places'
  adds_there = subst (λ (l : LaidTree). AddsRaces l w places places') same adds

  module _ (c : Choice) (rest : List Choice) (w' : World) (found : Option Ending) (k : tail ≡ c ∷ rest)
      (e : found ≡ ended_by (done + 1) (step other w c).answer) where
    s_there : IsSoFar laid choices places done w (c ∷ rest)
    s_there = subst (λ (z : List Choice). IsSoFar laid choices places done w z) k s

    e_there : found ≡ ended_by (done + 1) (step laid w c).answer
    e_there = subst (λ (l : LaidTree). found ≡ ended_by (done + 1) (step l w c).answer) same e

    pub goes_on_there : found ≡ None → w' ≡ (step other w c).world → IsSoFar laid choices places' (done + 1) w' rest
    goes_on_there f g =
        goes_on laid choices places places' done w adds_there c rest s_there w' found e_there f
        (subst (λ (l : LaidTree). w' ≡ (step l w c).world) same g)

    pub ends_there : (set : List Place) (ending given : Ending) → found ≡ Some ending → IsSetOf places' set → given ≡ ending → IsRun laid choices set given
    ends_there set ending given f is_set g =
        ends laid choices places places' done w adds_there c rest s_there set ending given found e_there f is_set g

  pub ran_there : (set : List Place) (given : Ending) (all : ℕ) → tail ≡ [] → all ≡ done → IsSetOf places' set → given ≡ Ends.Ran all → IsRun laid choices set given
  ran_there set given all none count is_set g =
      ran laid choices places places' done w adds_there tail set given none s is_set (g ∙ ap Ends.Ran count)

pub both_ok : {A E : Type 0} {P Q R : A → Type 0} (r : Result A E) → IfOk r P → IfOk r Q → ((a : A) → P a → Q a → R a) → IfOk r R
both_ok (Ok a) p q f = f a p q
both_ok (Err e) p q f = tt
