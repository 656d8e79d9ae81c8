-- Entries of tables.
use Rattle.std.proofs.Common.{◌≡◌, ℕ, zero, suc, T, ◌<◌, sym, ap, subst, ◌∙◌, List, [], ◌∷◌, length, Option, Some}
use Rattle.std.proofs.Common.{arith}
use Rattle.std.specs.Prelude.{Contains}
use Rattle.std.specs.FinMap as map
use Rattle.std.specs.FinMap.{find}
use Rattle.std.specs.Ordering.{nat_cmp}
use Rattle.tm_lattice.specs.Tables.{Table}
use Rattle.tm_lattice.specs.laws.Keys.{AllAbove, AllAbove-rest, is_sorted-rest, find-here, find-there}

above_contained : {V : Type 0} (k : ℕ) (es : List (ℕ × V)) → AllAbove k es → (e : ℕ × V) → Contains es e → k < e.0
above_contained {V} k [] above e (i, lt, at) = absurd (omega (arith, lt))
above_contained {V} k (x ∷ es) above e (zero, lt, at) = subst (λ (y : ℕ × V). k < y.0) at above.0
above_contained {V} k (x ∷ es) above e (suc i, lt, at) = above_contained k es above.1 e (i, omega (arith, lt), at)

sorted_found : {V : Type 0} (es : List (ℕ × V)) → T (map.is_sorted nat_cmp es) → (e : ℕ × V) → Contains es e
    → find nat_cmp e.0 es ≡ Some e.1
sorted_found {V} [] sorted e (i, lt, at) = absurd (omega (arith, lt))
sorted_found {V} (x ∷ es) sorted e (zero, lt, at) =
    find-here e.0 x es (sym (ap (λ (y : ℕ × V). y.0) at)) ∙ ap (λ (y : ℕ × V). Some y.1) at
sorted_found {V} (x ∷ es) sorted e (suc i, lt, at) =
    let rest : Contains es e = (i, omega (arith, lt), at) in
    let above = above_contained x.0 es (AllAbove-rest x es sorted) e rest in
    find-there e.0 x es (λ same. absurd (omega (arith, above, same)))
    ∙ sorted_found es (is_sorted-rest x es sorted) e rest

-- an entry is what the table has there
pub entry_there : {V : Type 0} (t : Table V) (items : List (ℕ × V)) → items ≡ map.entries t → (e : ℕ × V)
    → Contains items e → map.get t e.0 ≡ Some e.1
entry_there {V} t items whole e has =
    map.get-entries t e.0
    ∙ sorted_found (map.entries t) (map.entries_sorted t) e (subst (λ es. Contains es e) whole has)
