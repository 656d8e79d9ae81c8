-- What an operation gives is what the row of its action says.
use Rattle.std.specs.Prelude.{◌≡◌, ℕ, zero, suc, ◌^◌, ◌<◌, ◌≤◌, nat_le, nat_lt, ℤ, pos}
use Rattle.std.specs.Prelude.{negsuc}
use Rattle.std.specs.Prelude.{◌+ℤ◌, ◌-ℤ◌, Bool, true, false}
use Rattle.std.specs.Prelude.{if◌then◌else◌, ◌&&◌}
use Rattle.std.specs.Prelude.{List, [], ◌∷◌, length, get_or, slice_get, Option, Some, None, is_some, Result, Ok, Err}
use Rattle.std.proofs.Common.{refl, sym, ap, ◌∙◌, arith}
use Rattle.std.proofs.lemmas.Int.{ints}
use Rattle.std.proofs.lemmas.Bool.{and_parts, and_from}
use Rattle.program_reports.proofs.low.edge_actions.Lists.{le_from, le_test, lt_test}
use Rattle.program_shape.specs.tm_cint.declared.Class.{Class}
use Rattle.program_shape.specs.tm_cint.declared.int_types.IntType.{IntType}
use Rattle.program_shape.specs.tm_cint.declared.int_types.IntType.TheVariants as Ints
use Rattle.program_shape.specs.tm_cint.IntTypes.{IsIn}
use Rattle.program_shape.specs.tm_cint.Conversions.{converted_value}
use Rattle.program_shape.proofs.low.tm_cint.Values.{wrapped-same, wrapped-in, wrapped-turned}
use Rattle.program_shape.proofs.low.tm_cint.Ranges.{is_in-true}
use Rattle.program_reports.specs.transfer_int.Values.{ones_of}
use Rattle.program_reports.proofs.low.transfer_int.Complementing.{complement_in}
use Rattle.program_shape.specs.tm_laid.declared.objects.LaidObject.{LaidObject}
use Rattle.program_shape.specs.tm_laid.Layouts.{LaidTree, object_at, no_object, is_alive, stands_at}
use Rattle.program_shape.specs.concrete_values.declared.values.Pointer.{Pointer}
use Rattle.program_shape.specs.concrete_values.declared.values.Pointer.TheVariants as Pointers
use Rattle.program_shape.specs.concrete_values.declared.values.Value.{Value}
use Rattle.program_shape.specs.concrete_values.declared.values.Value.TheVariants.{Number, Pointer as APointer}
use Rattle.program_shape.specs.concrete_values.Values.{number_of, number_in}
use Rattle.program_shape.specs.concrete_values.Operators.{number_result}
use Rattle.program_shape.specs.concrete_values.Pointers.{cells_of_object, size_of, placed, pointer_in, shifted}
use Rattle.program_shape.specs.concrete_values.Pointers.{is_dereferenceable}
use Rattle.program_reports.specs.pointer_dom.Pointer.{null, invalid}
use Rattle.program_reports.specs.pointer_dom.Pointer.{to as leads_to}
use Rattle.program_reports.specs.pointer_dom.Offset.{IsOffset}
use Rattle.program_reports.specs.transfer_rows.Meanings.{IsMove}
use Rattle.program_reports.specs.transfer_rows.Meanings.{IsReached, Strays, strays_null, strays_invalid, strays_out}
use Rattle.program_reports.specs.transfer_rows.Meanings.{IsUnreached}
use Rattle.sound_tables.specs.Memberships.{scalar_as, address_as}
use Rattle.sound_tables.specs.Meanings.{sizes_of}
use Rattle.sound_tables.proofs.Operands.{LiesIn}

-- ## Numbers

pub number_is : (t : IntType) (v : Value) (z : ℤ) → v ≡ Number z → IsIn t z → number_in t v ≡ z
unfolding number_in number_of
number_is t v z e h =
    ap (number_in t) e ∙ ap (λ b. if b then z else pos 0) (is_in-true t z h)

pub result_is : (r : Result ℤ Class) (v : Value) → number_result r ≡ Ok v → (x : ℤ) × (r ≡ Ok x) × (v ≡ Number x)
result_is (Ok x) v e = (x, refl, let f : Number x ≡ v = cc in sym f)
result_is (Err c) v e = absurd (cc)

pub result_fails : (r : Result ℤ Class) (class : Class) → number_result r ≡ Err class → r ≡ Err class
result_fails (Ok x) class e = absurd (cc)
result_fails (Err c) class e = let f : c ≡ class = cc in ap (λ z. Err z) f

-- a value of the type stays where it is converted
pub kept_value : (t : IntType) (z : ℤ) → IsIn t z → converted_value z t ≡ z
kept_value Ints.Bool (pos zero) h = refl
kept_value Ints.Bool (pos (suc zero)) h = refl
kept_value Ints.Bool (pos (suc (suc n))) h = absurd (let most = h.at_most in omega (arith, ints, most))
kept_value Ints.Bool (negsuc n) h = absurd (let least = h.at_least in omega (arith, ints, least))
kept_value t z h = wrapped-same t z h

-- `~x` by two's complement
pub complement_value : (t : IntType) (z : ℤ) → (t ≡ Ints.Bool → ⊥) → IsIn t z
    → converted_value (negsuc 0 -ℤ z) t ≡ ones_of t -ℤ z
complement_value Ints.Bool z no-bool h = absurd (no-bool refl)
complement_value Ints.UChar z no-bool h =
    let v = negsuc 0 -ℤ z in
    let k = wrapped-turned Ints.UChar v in
    let w = wrapped-in Ints.UChar v in
    let low = w.at_least in
    let high = w.at_most in
    let z-low = h.at_least in
    let z-high = h.at_most in
    omega (arith, ints, k.1, low, high, z-low, z-high)
complement_value Ints.UShort z no-bool h =
    let v = negsuc 0 -ℤ z in
    let k = wrapped-turned Ints.UShort v in
    let w = wrapped-in Ints.UShort v in
    let low = w.at_least in
    let high = w.at_most in
    let z-low = h.at_least in
    let z-high = h.at_most in
    omega (arith, ints, k.1, low, high, z-low, z-high)
complement_value Ints.UInt z no-bool h =
    let v = negsuc 0 -ℤ z in
    let k = wrapped-turned Ints.UInt v in
    let w = wrapped-in Ints.UInt v in
    let low = w.at_least in
    let high = w.at_most in
    let z-low = h.at_least in
    let z-high = h.at_most in
    omega (arith, ints, k.1, low, high, z-low, z-high)
complement_value Ints.ULong z no-bool h =
    let v = negsuc 0 -ℤ z in
    let k = wrapped-turned Ints.ULong v in
    let w = wrapped-in Ints.ULong v in
    let low = w.at_least in
    let high = w.at_most in
    let z-low = h.at_least in
    let z-high = h.at_most in
    omega (arith, ints, k.1, low, high, z-low, z-high)
complement_value Ints.ULLong z no-bool h =
    let v = negsuc 0 -ℤ z in
    let k = wrapped-turned Ints.ULLong v in
    let w = wrapped-in Ints.ULLong v in
    let low = w.at_least in
    let high = w.at_most in
    let z-low = h.at_least in
    let z-high = h.at_most in
    omega (arith, ints, k.1, low, high, z-low, z-high)
complement_value t z no-bool h = wrapped-same t (negsuc 0 -ℤ z) (complement_in t z h)

-- ## Pointers

some_none : {A : Type 0} (a : A) → Some a ≡ None → ⊥
some_none a e = cc

pub true_false : (b : Bool) → b ≡ true → b ≡ false → ⊥
true_false b t f = cc

module _ (laid : LaidTree) where
  placed_by : (b : Bool) (o k size : ℕ) (r : Pointer) → nat_le k size ≡ b
      → (if b then Some (Pointers.To o k) else None) ≡ Some r → (r ≡ Pointers.To o k) × (k ≤ size)
  placed_by true o k size r at e = (let f : Pointers.To o k ≡ r = cc in sym f, le_from k size at)
  placed_by false o k size r at e = absurd (cc)

  placed_is : (a : Option ℕ) (o : ℕ) (y : ℤ) (r : Pointer) → placed a o y ≡ Some r
      → (size : ℕ) × (k : ℕ) × (a ≡ Some size) × (y ≡ pos k) × (r ≡ Pointers.To o k) × (k ≤ size)
  placed_is None o y r e = absurd (cc)
  placed_is (Some size) o (pos k) r e =
      let h = placed_by (nat_le k size) o k size r refl e in (size, k, refl, refl, h.0, h.1)
  placed_is (Some size) o (negsuc k) r e = absurd (cc)

  cells_by : (xs : List LaidObject) (o n : ℕ) → cells_of_object (slice_get xs o) ≡ Some n
      → n ≡ (get_or xs o no_object).cells
  cells_by [] o n e = absurd (cc)
  cells_by (x ∷ xs) zero n e = let f : x.cells ≡ n = cc in sym f
  cells_by (x ∷ xs) (suc o) n e = cells_by xs o n e

  cells_some : (xs : List LaidObject) (o : ℕ) → o < length xs
      → cells_of_object (slice_get xs o) ≡ Some (get_or xs o no_object).cells
  cells_some [] o lt = absurd (omega (arith, lt))
  cells_some (x ∷ xs) zero lt = refl
  cells_some (x ∷ xs) (suc o) lt = cells_some xs o (omega (arith, lt))

  size_by : (b : Bool) (o n : ℕ) → (if b then cells_of_object (slice_get laid.objects o) else None) ≡ Some n
      → n ≡ (object_at laid o).cells
  size_by true o n e = cells_by laid.objects o n e
  size_by false o n e = absurd (cc)

  size_is : (o n : ℕ) → size_of laid o ≡ Some n → n ≡ (object_at laid o).cells
  unfolding size_of
  size_is o n e = size_by (nat_lt o (2 ^ 32)) o n e

  pub size_some : (o : ℕ) → o < length laid.objects → length laid.objects ≤ 2 ^ 32
      → size_of laid o ≡ Some (object_at laid o).cells
  unfolding size_of
  size_some o lt few =
      ap (λ b. if b then cells_of_object (slice_get laid.objects o) else None)
      (lt_test o (2 ^ 32) (omega (arith, lt, few))) ∙ cells_some laid.objects o lt

  -- a pointer that is moved stays in its object
  pub record IsShifted (q r : Pointer) (step : ℤ) : Type 0 where
    pub object : ℕ
    pub from : ℕ
    pub offset : ℕ
    pub is_from : q ≡ Pointers.To object from
    pub is_to : r ≡ Pointers.To object offset
    pub moves : pos offset ≡ pos from +ℤ step
    pub within : offset ≤ sizes_of laid object

  pub shifted_is : (q r : Pointer) (step : ℤ) → shifted laid q step ≡ Some r → IsShifted q r step
  unfolding shifted pointer_in
  shifted_is Pointers.Null r step e = absurd (cc)
  shifted_is Pointers.Invalid r step e = absurd (cc)
  shifted_is (Pointers.To o k) r step e =
      let h = placed_is (size_of laid o) o (pos k +ℤ step) r e in
      let size = size_is o h.0 h.2 in record {
        object = o;
        from = k;
        offset = h.1;
        is_from = refl;
        is_to = h.4;
        moves = sym h.3;
        within = let le = h.5 in omega (arith, le, size);
      }

  pub is_moved : (v w : Value) (q r : Pointer) (step : ℤ) → v ≡ APointer q → w ≡ APointer r
      → shifted laid q step ≡ Some r → IsMove (sizes_of laid) step (scalar_as v) (scalar_as w)
  is_moved v w q r step e f h =
      let k = shifted_is q r step h in record {
        object = k.object;
        from = k.from;
        offset = k.offset;
        is_operand = ap scalar_as (e ∙ ap APointer k.is_from);
        is_given = ap scalar_as (f ∙ ap APointer k.is_to);
        moved = k.moves;
        within = k.within;
      }

  none_by : (size o : ℕ) (y : ℤ) → placed (Some size) o y ≡ None → IsOffset size y → ⊥
  none_by size o (pos m) e h =
      let most = h.to in
      let le : m ≤ size = omega (arith, ints, most) in
      let here : placed (Some size) o (pos m) ≡ Some (Pointers.To o m) =
      ap (λ b. if b then Some (Pointers.To o m) else None) (le_test m size le) in
      some_none (Pointers.To o m) (sym here ∙ e)
  none_by size o (negsuc m) e h = let least = h.from in omega (arith, ints, least)

  -- a pointer that cannot be moved is null, invalid or strays
  pub strays : length laid.objects ≤ 2 ^ 32 → (q : Pointer) → LiesIn laid q → (step : ℤ) → shifted laid q step ≡ None
      → Strays (sizes_of laid) step (address_as q)
  unfolding shifted pointer_in
  strays few Pointers.Null lies step e = strays_null
  strays few Pointers.Invalid lies step e = strays_invalid
  strays few (Pointers.To o k) lies step e =
      strays_out (λ h. none_by (sizes_of laid o) o (pos k +ℤ step)
      (ap (λ a. placed a o (pos k +ℤ step)) (sym (size_some o lies.0 few)) ∙ e) h)

  -- ## Dereferences

  pub is_there : length laid.objects ≤ 2 ^ 32 → (o k : ℕ) → o < length laid.objects → k ≤ sizes_of laid o
      → is_some (pointer_in laid o (pos k)) ≡ true
  unfolding pointer_in
  is_there few o k lt le =
      ap (λ a. is_some (placed a o (pos k))) (size_some o lt few)
      ∙ ap (λ b. is_some (if b then Some (Pointers.To o k) else None)) (le_test k (sizes_of laid o) le)

  pub reaches : (path target : ℕ) (q : Pointer) → is_dereferenceable laid path target q ≡ true
      → (let x = address_as q in IsReached (is_alive laid path) (λ o k. stands_at laid o k target) x x)
  unfolding is_dereferenceable
  reaches path target Pointers.Null e = absurd (cc)
  reaches path target Pointers.Invalid e = absurd (cc)
  reaches path target (Pointers.To o k) e =
      let one = and_parts (is_some (pointer_in laid o (pos k))) (is_alive laid path o && stands_at laid o k target) e in
      let two = and_parts (is_alive laid path o) (stands_at laid o k target) one.1 in
      record { x = leads_to o k; is_operand = refl; is_given = refl; reaches = (two.0, two.1) }

  pub unreached : length laid.objects ≤ 2 ^ 32 → (path target : ℕ) (q : Pointer) → LiesIn laid q
      → is_dereferenceable laid path target q ≡ false
      → IsUnreached (is_alive laid path) (λ o k. stands_at laid o k target) (address_as q)
  unfolding is_dereferenceable
  unreached few path target Pointers.Null lies e = record { x = null; is_operand = refl; fails = λ h. h }
  unreached few path target Pointers.Invalid lies e = record { x = invalid; is_operand = refl; fails = λ h. h }
  unreached few path target (Pointers.To o k) lies e = record {
    x = leads_to o k;
    is_operand = refl;
    fails = λ h. true_false (is_some (pointer_in laid o (pos k)) && (is_alive laid path o && stands_at laid o k target))
        (and_from (is_some (pointer_in laid o (pos k))) (is_alive laid path o && stands_at laid o k target)
        (is_there few o k lies.0 lies.1)
        (and_from (is_alive laid path o) (stands_at laid o k target) h.0 h.1)) e;
  }
