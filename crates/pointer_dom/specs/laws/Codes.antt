-- How sets of pointers and of values are told apart: by the tuples of their parts.
use Rattle.std.specs.Prelude.{◌≡◌, ◌⊎◌, ℕ, ℤ, Bool}
use Rattle.std.proofs.Common.{inl, inr, refl}
use Rattle.std.specs.Coded.{Coded, code_by, coded_ℕ, coded_ℤ, coded_bool, coded×, coded⊎}
use Rattle.std.specs.FinMap as map
use base.Stored.{coded_unit}
use Rattle.strided_dom.specs.Progression.{Progression, empty, single, row}
use Rattle.tm_lattice.specs.Tables.{Table}
use Rattle.pointer_dom.specs.OffsetSets.{OffsetSet}
use Rattle.pointer_dom.specs.PointerSets.{Pointers}
use Rattle.pointer_dom.specs.Values.{Values}

abbrev Cases : Type 0
Cases = Unit {0} ⊎ (ℤ ⊎ (ℤ × (ℕ × ℕ)))

abbrev cases : Progression → Cases
cases empty = inl tt
cases (single v) = inr (inl v)
cases (row first gap more) = inr (inr (first, (gap, more)))

abbrev progression : Cases → Progression
progression (inl e) = empty
progression (inr (inl v)) = single v
progression (inr (inr r)) = row r.0 r.1.0 r.1.1

pub progression_cases : (s : Progression) → progression (cases s) ≡ s
progression_cases empty = refl
progression_cases (single v) = refl
progression_cases (row first gap more) = refl

abbrev progression_code : Coded Progression
progression_code = code_by Cases (coded⊎ coded_unit (coded⊎ coded_ℤ
    (coded× coded_ℤ (coded× coded_ℕ coded_ℕ)))) cases progression progression_cases

abbrev offset_set_code : Coded OffsetSet
offset_set_code = code_by (ℕ × Progression) (coded× coded_ℕ progression_code) (λ o. (o.size, o.offsets))
    (λ p. record { size = p.0; offsets = p.1 }) (λ _. refl)

abbrev pub pointers_code : Coded Pointers
pointers_code =
    code_by (Bool × (Bool × Table OffsetSet)) (coded× coded_bool (coded× coded_bool (map.code coded_ℕ offset_set_code)))
    (λ p. (p.null, (p.invalid, p.objects))) (λ t. record { null = t.0; invalid = t.1.0; objects = t.1.1 }) (λ _. refl)

abbrev pub values_code : Coded Values
values_code =
    code_by (Progression × Pointers) (coded× progression_code pointers_code) (λ v. (v.numbers, v.pointers))
    (λ p. record { numbers = p.0; pointers = p.1 }) (λ _. refl)
