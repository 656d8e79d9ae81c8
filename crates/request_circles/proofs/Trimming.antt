-- A circular request leads to a circular one, and one leads to it.
use Rattle.std.proofs.Common.{◌≡◌, ℕ, refl, subst, ◌∙◌, inl, inr, Bool, true, false, List}
use Rattle.std.proofs.Common.{set, arith}
use Rattle.std.proofs.lemmas.Bool.{cases_eq}
use Rattle.std.proofs.lemmas.List.{length-set}
use Rattle.std.specs.Int.{bit_at}
use Rattle.std.proofs.lemmas.Nat.Bits.{bit_at-zero}
use Rattle.tm_soundness.specs.Known.{Chain}
use Rattle.request_circles.specs.declared.requests.Request.{Request}
use Rattle.request_circles.specs.Requests.{LeadsTo}
use Rattle.request_circles.specs.reading.Steps.{request_at, IsMarked, IsStep, IsOnCircle, AreLeft}
use Rattle.request_circles.specs.reading.Trims.{HasStep, IsLoose, IsTrimmed}
use Rattle.request_circles.proofs.Chains.{turned, next}
use Rattle.request_circles.proofs.Marks.{dropped_other, count_dropped}

module _ (requests : List Request) where
  pub step_back : (k j : ℕ) → IsStep requests true k j → IsStep requests false j k
  step_back k j h = record { one = h.other; other = h.one; joins = h.joins }

  pub step_ahead : (k j : ℕ) → IsStep requests false k j → IsStep requests true j k
  step_ahead k j h = record { one = h.other; other = h.one; joins = h.joins }

  pub circle_back : (k : ℕ) → IsOnCircle requests k → Chain (IsStep requests false) k k
  circle_back k c = turned (IsStep requests true) (IsStep requests false) step_back k k c

  pub circle_ahead : (k : ℕ) → Chain (IsStep requests false) k k → IsOnCircle requests k
  circle_ahead k c = turned (IsStep requests false) (IsStep requests true) step_ahead k k c

  module _ (left : List Bool) (are : AreLeft requests left) where
    steps : (ahead : Bool) (k : ℕ) → IsOnCircle requests k → HasStep requests left ahead k
    steps true k c =
        let n = next (IsStep requests true) k c in
        record { to = n.0; step = record { there = are.each n.0 n.2; step = n.1 } }
    steps false k c =
        let n = next (IsStep requests false) k (circle_back k c) in
        record { to = n.0; step = record { there = are.each n.0 (circle_ahead n.0 n.2); step = n.1 } }

    -- one that is joined with none, in one direction
    pub loose : (k : ℕ) → IsMarked left k → (HasStep requests left true k → HasStep requests left false k → ⊥)
        → IsLoose requests left k
    loose k m none = record { there = m; not_circular = λ c. none (steps true k c) (steps false k c) }

    -- none leads to one that holds nothing
    pub loose_empty : (k : ℕ) → IsMarked left k → (let r = request_at requests k in r.held ≡ 0)
        → IsLoose requests left k
    loose_empty k m empty = loose k m (λ a b. never b)
      where
        never : HasStep requests left false k → ⊥
        never b =
            let r = request_at requests b.to in
            let h : IsStep requests false k b.to = (let s = b.step in s.step) in
            let joins : LeadsTo r (request_at requests k) = h.joins in
            let none : bit_at 0 r.mutex ≡ 1 = subst (λ l. bit_at l r.mutex ≡ 1) empty joins.holds in
            let zero = bit_at-zero r.mutex in omega (arith, none, zero)

  -- nothing is taken away
  pub not_trimmed : (left : List Bool) → AreLeft requests left → IsTrimmed requests left left false
  not_trimmed left are = record {
    same = refl;
    left = are;
    count = omega arith;
    fewer = λ e. absurd (cc);
  }

  -- one more is
  pub trimmed_more : (first left : List Bool) (before : Bool) (k : ℕ) → IsTrimmed requests first left before
      → IsLoose requests left k → IsTrimmed requests first (set left k false) true
  trimmed_more first left before k t h =
      let down = count_dropped left k h.there in
      let most = t.count in
      record {
        same = length-set left k false ∙ t.same;
        left = record {
          each = λ j c. elim (cases_eq j k) [
            | inl e ↦ absurd (h.not_circular (subst (IsOnCircle requests) e c))
            | inr n ↦ let l = t.left in dropped_other left k j n (l.each j c)
          ];
        };
        count = omega (arith, down, most);
        fewer = λ _. omega (arith, down, most);
      }
