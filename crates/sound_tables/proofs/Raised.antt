-- What a state holds, a state above it holds too.
use Rattle.std.specs.Prelude.{◌≡◌, ℕ, Bool, true, false, List, Option, Some, None}
use Rattle.std.proofs.Common.{refl, ap, subst, arith}
use Rattle.std.specs.Int.{bit_at}
use Rattle.std.specs.FinMap.{get}
use Rattle.std.proofs.lemmas.Nat.Bits.{bit_at-lt, bit_at_or}
use Rattle.program_shape.specs.tm_typed.declared.types.Scalar.{Scalar}
use Rattle.program_shape.specs.tm_laid.Layouts.{LaidTree}
use Rattle.program_reports.specs.pointer_dom.Pointer.{ScalarValue}
use Rattle.program_reports.specs.pointer_dom.Values.{IsValueIn}
use Rattle.program_reports.proofs.low.pointer_dom.Meaning.{value_included}
use Rattle.program_shape.specs.tm_lattice.Tables.{IsBelow}
use Rattle.program_reports.specs.cell_env.Cells.{IsWithin}
use Rattle.program_reports.specs.transfer_rows.StateForms.{Temp, Cell, State, IsStateUnder, IsTempUnder, IsCellUnder}
use Rattle.program_reports.specs.transfer_rows.StateForms.{own_value, own_of}
use Rattle.program_reports.specs.transfer_rows.Accesses.{is_among}
use Rattle.program_reports.specs.transfer_rows.Meanings.{Valuation}
use Rattle.program_reports.specs.transfer_rows.Covering.{AreIn, IsCopyOf, IsPending, IsFresh, IsStored}
use Rattle.program_reports.proofs.low.transfer_rows.CoverSteps.{none_has}
use Rattle.program_reports.specs.state_fits.Fits.{FitsTemp, FitsCell, FitsPlace}
use Rattle.program_reports.specs.state_fits.Kinds.{OfTypes}

same_some : {A : Type 0} (a b : A) → Some a ≡ Some b → a ≡ b
same_some a b e = cc

true_false : (b : Bool) → b ≡ true → b ≡ false → ⊥
true_false b t f = cc

module _ (laid : LaidTree) (task : ℕ) (types : ℕ → Scalar) (live : List ℕ) (s r : State)
    (s-fits : FitsPlace laid task (OfTypes laid types) live s)
    (r-fits : FitsPlace laid task (OfTypes laid types) live r) (under : IsStateUnder s r)
  where
    temp_by : (t : ℕ) (a b : Option Temp) (e : Temp) → FitsTemp (OfTypes laid types) live t a
        → FitsTemp (OfTypes laid types) live t b → IsBelow IsTempUnder a b → b ≡ Some e
        → (d : Temp) × (a ≡ Some d) × IsTempUnder d e
    temp_by t None None e x y le is = absurd (cc)
    temp_by t None (Some d) e x y le is = absurd (true_false (is_among live t) y.0 x)
    temp_by t (Some d) None e x y le is = absurd le
    temp_by t (Some d) (Some c) e x y le is = (d, refl, subst (λ z. IsTempUnder d z) (same_some c e is) le)

    temp_below : (t : ℕ) (e : Temp) → get r.temps t ≡ Some e
        → (d : Temp) × (get s.temps t ≡ Some d) × IsTempUnder d e
    temp_below t e is =
        temp_by t (get s.temps t) (get r.temps t) e (s-fits.temps t) (r-fits.temps t) (under.temps t) is

    cell_by : (x : ℕ) (a b : Option Cell) (e : Cell) → FitsCell laid task x a → FitsCell laid task x b
        → IsBelow IsCellUnder a b → b ≡ Some e → (d : Cell) × (a ≡ Some d) × IsCellUnder d e
    cell_by x None None e h k le is = absurd (cc)
    cell_by x None (Some d) e h k le is = absurd (h k.0)
    cell_by x (Some d) None e h k le is = absurd le
    cell_by x (Some d) (Some c) e h k le is = (d, refl, subst (λ z. IsCellUnder d z) (same_some c e is) le)

    cell_below : (x : ℕ) (e : Cell) → get r.cells x ≡ Some e
        → (d : Cell) × (get s.cells x ≡ Some d) × IsCellUnder d e
    cell_below x e is =
        cell_by x (get s.cells x) (get r.cells x) e (s-fits.cells x) (r-fits.cells x) (under.cells x) is

    cell_to : (a b : Option Cell) (d : Cell) → IsBelow IsCellUnder a b → a ≡ Some d
        → (e : Cell) × (b ≡ Some e) × IsCellUnder d e
    cell_to None b d le is = absurd (cc)
    cell_to (Some c) None d le is = absurd le
    cell_to (Some c) (Some e) d le is = (e, refl, subst (λ z. IsCellUnder z e) (same_some c d is) le)

    own_by : (a b : Option Cell) (v : ScalarValue) → IsBelow IsCellUnder a b → IsValueIn (own_value a) v
        → IsValueIn (own_value b) v
    own_by None b v le h = absurd (none_has v h)
    own_by (Some c) None v le h = absurd le
    own_by (Some c) (Some d) v le h = value_included c.value d.value v le.value h

    pub up_in : (temps : Valuation) → AreIn s temps → AreIn r temps
    up_in temps h = record {
      in_value = λ t e is.
          let k = temp_below t e is in
          value_included k.0.value e.value (temps t) k.2.value (h.in_value t k.0 k.1);
    }

    pub up_own : (x : ℕ) (v : ScalarValue) → IsValueIn (own_of s x) v → IsValueIn (own_of r x) v
    up_own x v h = own_by (get s.cells x) (get r.cells x) v (under.cells x) h

    within_bit : (a b m : ℕ) → IsWithin a b → bit_at a m ≡ 1 → bit_at b m ≡ 1
    within_bit a b m w one =
        let sum = bit_at_or a b m in
        let same = ap (λ z. bit_at z m) w in
        let low = bit_at-lt b m in
        omega (arith, one, sum, same, low)

    pub up_pending : (x m : ℕ) → IsPending s x m → IsPending r x m
    up_pending x m h =
        let k = cell_to (get s.cells x) (get r.cells x) h.entry (under.cells x) h.stands in record {
          entry = k.0;
          stands = k.1;
          pending = within_bit h.entry.pending k.0.pending m k.2.pending h.pending;
        }

    pub down_fresh : (x : ℕ) → IsFresh r x → IsFresh s x
    down_fresh x h =
        let k = cell_below x h.entry h.stands in
        record { entry = k.0; stands = k.1; fresh = k.2.fresh h.fresh }

    pub down_stored : (x : ℕ) → IsStored r x → IsStored s x
    down_stored x h =
        let k = cell_below x h.entry h.stands in
        record { entry = k.0; stands = k.1; stored = k.2.stored h.stored }

    pub down_copy : (t x : ℕ) → IsCopyOf r t x → IsCopyOf s t x
    down_copy t x h =
        let k = temp_below t h.entry h.stands in
        record { entry = k.0; stands = k.1; copy = k.2.copy x h.copy }
