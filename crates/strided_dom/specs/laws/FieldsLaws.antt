-- The fields of a set are found again from the set.
use Rattle.std.specs.Prelude.{◌≡◌, ℕ, zero, suc, Bool, true, false, cond, int_lt, refl}
use Rattle.std.proofs.Common.{ap, sym, ◌∙◌}
use Rattle.strided_dom.specs.Progression.{empty}
use Rattle.strided_dom.specs.reading.Fields.{stepped, steps_between, progression_of, fields_of, IsKept}
use Rattle.strided_dom.specs.declared.sets.Strided.TheInside.{Inside}

spread_is : (s : Inside) → IsKept s → int_lt s.hi s.lo ≡ false → (m : ℕ) → s.stride ≡ m
    → fields_of (stepped s.lo m (steps_between s.lo s.hi s.stride)) ≡ s
unfolding fields_of stepped
spread_is s h some zero e = λ i. record { lo = s.lo; hi = sym (h.flat some e) i; stride = sym e i }
spread_is s h some (suc gap) e =
    let r = h.spread some gap e in
    ap (λ n. fields_of (stepped s.lo (suc gap) n)) r.1.0 ∙ (λ i.
    record { lo = s.lo; hi = sym r.1.1 i; stride = sym e i })

none_is : (s : Inside) → IsKept s → int_lt s.hi s.lo ≡ true → fields_of empty ≡ s
unfolding fields_of
none_is s h none = let e = h.none none in λ i. record { lo = sym e.0 i; hi = sym e.1 i; stride = sym e.2 i }

either_is : (s : Inside) → IsKept s → (b : Bool) → int_lt s.hi s.lo ≡ b
    → fields_of (cond b empty (stepped s.lo s.stride (steps_between s.lo s.hi s.stride))) ≡ s
either_is s h true e = none_is s h e
either_is s h false e = spread_is s h e s.stride refl

pub fields_of-progression_of : (s : Inside) → IsKept s → fields_of (progression_of s) ≡ s
unfolding progression_of
fields_of-progression_of s h = either_is s h (int_lt s.hi s.lo) refl
