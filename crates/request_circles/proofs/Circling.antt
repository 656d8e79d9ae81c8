-- A request is circular exactly where it is reached from itself over those that are left.
use Rattle.std.proofs.Common.{◌⊎◌, ℕ, ◌<◌, refl, sym, subst, ◌∙◌, inl, inr, Bool, true, false, List, length, set}
use Rattle.std.proofs.lemmas.Bool.{cases_eq}
use Rattle.std.proofs.lemmas.List.{length-set}
use Rattle.tm_soundness.specs.Known.{Chain, one_step, more_steps}
use Rattle.request_circles.specs.declared.requests.Request.{Request}
use Rattle.request_circles.specs.reading.Steps.{IsMarked, IsStep, IsStepLeft, IsOnCircle, AreLeft}
use Rattle.request_circles.specs.reading.Searches.{AreReached}
use Rattle.request_circles.specs.reading.Circles.{HasCommon, HasDecided}
use Rattle.request_circles.proofs.Chains.{joined, mapped, around}
use Rattle.request_circles.proofs.Marks.{set_here, set_kept, set_only, dropped_other}
use Rattle.request_circles.proofs.Trimming.{step_ahead}

module _ (requests : List Request) where
  pub circle_within : (k : ℕ) → IsOnCircle requests k → k < length requests
  circle_within k (one_step h) = h.one
  circle_within k (more_steps h rest) = h.one

  module _ (left : List Bool) where
    steps_of : (ahead : Bool) (a b : ℕ) → Chain (IsStepLeft requests left ahead) a b → Chain (IsStep requests ahead) a b
    steps_of ahead a b c = mapped (IsStepLeft requests left ahead) (IsStep requests ahead) (λ x y h. h.step) a b c

    pub found_circular : (k : ℕ) → Chain (IsStepLeft requests left true) k k → IsOnCircle requests k
    found_circular k c = steps_of true k k c

    pub circular_found : AreLeft requests left → (k : ℕ) → IsOnCircle requests k
        → Chain (IsStepLeft requests left true) k k
    circular_found are k c =
        around (IsStep requests true) (IsMarked left) are.each (IsStepLeft requests left true)
        (λ x y m h. record { there = m; step = h }) k k c c

    -- what it reaches and what reaches it is circular
    pub both_ways : (k j : ℕ) → Chain (IsStepLeft requests left true) k j → Chain (IsStepLeft requests left false) k j
        → IsOnCircle requests j
    both_ways k j there back =
        joined (IsStep requests true) j k j
        (turned_back k j (steps_of false k j back)) (steps_of true k j there)
      where
        turned_back : (a b : ℕ) → Chain (IsStep requests false) a b → Chain (IsStep requests true) b a
        turned_back a b (one_step h) = one_step (step_ahead requests a b h)
        turned_back a b (more_steps {b = d} h rest) =
            joined (IsStep requests true) b d a (turned_back d b rest) (one_step (step_ahead requests a d h))

  module _ (number : ℕ) (left found : List Bool) (are : AreLeft requests left) where
    -- it was found, or taken away
    pub decided_before : IsMarked found number ⊎ (IsMarked left number → ⊥)
        → HasDecided requests number left left found found
    decided_before known = record {
      left_same = refl;
      same = refl;
      all_left = are;
      kept = λ k m. m;
      sound = λ k m. inl m;
      decided = λ c. elim known [ inl m ↦ m | inr n ↦ absurd (n (are.each number c)) ];
    }

    -- it is not reached from itself
    pub decided_not : (reached : List Bool) → AreReached requests left true number reached
        → (IsMarked reached number → ⊥) → HasDecided requests number left (set left number false) found found
    decided_not reached r not =
        let none : IsOnCircle requests number → ⊥ =
        λ c. not ((r.exact number).1 (circular_found left are number c)) in
        record {
          left_same = length-set left number false;
          same = refl;
          all_left = record {
            each = λ k c. elim (cases_eq k number) [
              | inl e ↦ absurd (none (subst (IsOnCircle requests) e c))
              | inr n ↦ dropped_other left number k n (are.each k c)
            ];
          };
          kept = λ k m. m;
          sound = λ k m. inl m;
          decided = λ c. absurd (none c);
        }

    -- it is
    pub decided_so : (ahead back more : List Bool) → number < length found → AreReached requests left true number ahead
        → AreReached requests left false number back → IsMarked ahead number → HasCommon ahead back found more
        → HasDecided requests number left left found (set more number true)
    decided_so ahead back more lt a b m h =
        let circle = found_circular left number ((a.exact number).0 m) in
        record {
          left_same = refl;
          same = length-set more number true ∙ h.same;
          all_left = are;
          kept = λ k o. set_kept more number k (h.kept k o);
          sound = λ k o. elim (set_only more number k o) [
            | inl p ↦ elim (h.only k p) [
              | inl q ↦ inl q
              | inr q ↦ inr (both_ways left number k ((a.exact k).0 q.0) ((b.exact k).0 q.1))
            ]
            | inr e ↦ inr (subst (IsOnCircle requests) (sym e) circle)
          ];
          decided = λ c. set_here more number (subst (λ n. number < n) (sym h.same) lt);
        }

-- both have it
pub common_none : (one other found : List Bool) → HasCommon one other found found
common_none one other found = record { same = refl; kept = λ k m. m; only = λ k m. inl m }

pub common_more : (one other first found : List Bool) (n : ℕ) → HasCommon one other first found → IsMarked one n
    → IsMarked other n → HasCommon one other first (set found n true)
common_more one other first found n h a b = record {
  same = length-set found n true ∙ h.same;
  kept = λ k m. set_kept found n k (h.kept k m);
  only = λ k m. elim (set_only found n k m) [
    | inl o ↦ h.only k o
    | inr e ↦ inr (subst (IsMarked one) (sym e) a, subst (IsMarked other) (sym e) b)
  ];
}
