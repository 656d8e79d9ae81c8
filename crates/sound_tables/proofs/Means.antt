-- Each operation means what its action does.
use Rattle.std.specs.Prelude.{◌≡◌, ℕ, ◌<◌, ◌≤◌, ◌^◌, ℤ, pos, ◌*ℤ◌, ◌≤ℤ◌, ◌<ℤ◌, int_le, int_lt}
use Rattle.std.specs.Prelude.{Bool, true, false, not, if◌then◌else◌, length, is_some}
use Rattle.std.specs.Prelude.{Option, Some, None, Result, Ok, Err}
use Rattle.std.proofs.Common.{refl, sym, ap, subst, ◌∙◌, arith}
use Rattle.std.proofs.lemmas.Int.{ints}
use Rattle.std.proofs.lemmas.Bool.{and_parts, and_from}
use Rattle.std.specs.FinMap as map
use Rattle.program_reports.proofs.low.edge_actions.Lists.{le_test}
use Rattle.program_shape.specs.strided_dom.Progression.{single, Has}
use Rattle.program_shape.specs.tm_lattice.laws.TableLaws.{get-insert_here}
use Rattle.program_shape.specs.tm_cint.declared.Class.{Class}
use Rattle.program_shape.specs.tm_cint.declared.Class.TheVariants as Classes
use Rattle.program_shape.specs.tm_terms.declared.places.Place.{Place}
use Rattle.program_shape.specs.tm_laid.Layouts.{LaidTree, object_at, is_alive, stands_at}
use Rattle.program_shape.specs.concrete_values.declared.values.Pointer.{Pointer}
use Rattle.program_shape.specs.concrete_values.declared.values.Pointer.TheVariants as Pointers
use Rattle.program_shape.specs.concrete_values.declared.values.Value.{Value}
use Rattle.program_shape.specs.concrete_values.declared.values.Value.TheVariants.{Number, Pointer as APointer}
use Rattle.program_shape.specs.concrete_values.declared.actions.Next.{Next}
use Rattle.program_shape.specs.concrete_values.Values.{number_of, pointer_of}
use Rattle.program_shape.specs.concrete_values.Pointers.{shifted, base, pointer_in, placed, or_invalid, part, element}
use Rattle.program_shape.specs.concrete_values.Pointers.{moved}
use Rattle.program_shape.specs.concrete_values.Pointers.{or_class}
use Rattle.program_shape.specs.concrete_values.Pointers.{is_subscript, directed, dereferenced, is_dereferenceable}
use Rattle.program_shape.specs.flow_graph.Operations.{Temps, put_at, Silent, Asks, Breaks, effect_by}
use Rattle.program_shape.specs.flow_graph.Operations.{given_by}
use Rattle.program_shape.specs.flow_graph.Operations.{lets_through}
use Rattle.program_reports.specs.pointer_dom.Values.{IsValueIn}
use Rattle.program_reports.specs.pointer_dom.Advances.{IsSubscript}
use Rattle.program_reports.specs.pointer_dom.Advances as advances
use Rattle.program_reports.specs.transfer_rows.Actions.{Calculation, gives}
use Rattle.program_reports.specs.transfer_rows.Meanings.{IsNoSubscript, Strays, IsStray, IsUnreached}
use Rattle.program_reports.specs.transfer_rows.Meanings.{MayGive, IsMove, IsElement, IsCounted, IsReached}
use Rattle.program_reports.specs.pointer_dom.PointerSets.{offsets_or_none}
use Rattle.program_reports.specs.temporary_types.Sorts.{pointers}
use Rattle.program_reports.specs.edge_actions.Edges.{base_value, constant_value}
use Rattle.sound_tables.specs.Memberships.{scalar_as, scalars_as}
use Rattle.sound_tables.specs.Meanings.{Means, sizes_of}
use Rattle.sound_tables.proofs.Covering.{put_as}
use Rattle.sound_tables.proofs.Operands.{IsOf}
use Rattle.sound_tables.proofs.Doing.{size_some, is_moved, strays, reaches, unreached, true_false}
use Rattle.sound_tables.specs.Premises.{IsPlainValue}
use Rattle.sound_tables.proofs.Meaning.{number_of_is, pointer_of_is}

-- ## Comparisons of integers

pub int_le_from : (x y : ℤ) → int_le x y ≡ true → x ≤ℤ y
int_le_from x y e = omega (arith, ints)

int_lt_from : (x y : ℤ) → int_lt x y ≡ true → x <ℤ y
int_lt_from x y e = omega (arith, ints)

not_above : (x y : ℤ) → int_le x y ≡ false → x ≤ℤ y → ⊥
not_above x y g e = grind (arith, ints)

not_from : (x y : ℤ) → int_lt x y ≡ false → x <ℤ y → ⊥
not_from x y g e = grind (arith, ints)

pub int_le_to : (x y : ℤ) → x ≤ℤ y → int_le x y ≡ true
int_le_to x y e = by_case (int_le x y) refl
  where
    by_case : (b : Bool) → int_le x y ≡ b → int_le x y ≡ true
    by_case true g = g
    by_case false g = absurd (not_above x y g e)

int_lt_to : (x y : ℤ) → x <ℤ y → int_lt x y ≡ true
int_lt_to x y e = by_case (int_lt x y) refl
  where
    by_case : (b : Bool) → int_lt x y ≡ b → int_lt x y ≡ true
    by_case true g = g
    by_case false g = absurd (not_from x y g e)

-- ## Effects

pub silent_ok : (r : Result Value Class) (to : ℕ) (place : Place) (t t' : Temps)
    → effect_by (Some to) t (given_by place r) ≡ Silent t' → (v : Value) × (r ≡ Ok v) × (t' ≡ put_at to v t)
silent_ok (Ok v) to place t t' e = (v, refl, let f : put_at to v t ≡ t' = cc in sym f)
silent_ok (Err c) to place t t' e = absurd (cc)

pub silent_used : (r : Result Value Class) (place : Place) (t t' : Temps)
    → effect_by None t (given_by place r) ≡ Silent t' → (v : Value) × (r ≡ Ok v) × (t' ≡ t)
silent_used (Ok v) place t t' e = (v, refl, let f : t ≡ t' = cc in sym f)
silent_used (Err c) place t t' e = absurd (cc)

pub silent_through : (b : Bool) (t t' : Temps) → effect_by None t (lets_through b) ≡ Silent t' → (b ≡ true) × (t' ≡ t)
silent_through true t t' e = (refl, let f : t ≡ t' = cc in sym f)
silent_through false t t' e = absurd (cc)

pub breaks_err : (r : Result Value Class) (o : Option ℕ) (place q : Place) (t : Temps) (class : Class)
    → effect_by o t (given_by place r) ≡ Breaks class q → r ≡ Err class
breaks_err (Ok v) o place q t class e = absurd (cc)
breaks_err (Err c) o place q t class e = let f : c ≡ class = cc in ap (λ z. Err z) f

pub result_asks : (r : Result Value Class) (o : Option ℕ) (place : Place) (t : Temps) (n : Next) (f : Value → Temps)
    → effect_by o t (given_by place r) ≡ Asks n f → ⊥
result_asks (Ok v) o place t n f e = cc
result_asks (Err c) o place t n f e = cc

pub through_asks : (b : Bool) (t : Temps) (n : Next) (f : Value → Temps) → effect_by None t (lets_through b) ≡ Asks n f
    → ⊥
through_asks true t n f e = cc
through_asks false t n f e = cc

-- ## What is given

module _ (laid : LaidTree) (temps temps' : Temps) where
  abbrev sizes : ℕ → ℕ
  sizes = sizes_of laid

  -- a calculation may give the value that is put
  pub gives_value : (to : ℕ) (what : Calculation) (v : Value) → temps' ≡ put_at to v temps
      → MayGive sizes (scalars_as temps) what (scalar_as v)
      → Means sizes (gives to what) (scalars_as temps) (scalars_as temps')
  gives_value to what v e h = (scalar_as v, h, ap scalars_as e ∙ put_as temps to v)

  pub one_has : (z : ℤ) → Has (single z) z
  unfolding Has
  one_has z = refl

  -- ## Constants and addresses

  pub constant_in : (value : Value) → IsPlainValue value → IsValueIn (constant_value laid value) (scalar_as value)
  constant_in (Number z) h = one_has z
  constant_in (APointer Pointers.Null) h = refl
  constant_in (APointer Pointers.Invalid) h = refl
  constant_in (APointer (Pointers.To o k)) h = absurd h

  pub base_is : length laid.objects ≤ 2 ^ 32 → (o : ℕ) → o < length laid.objects
      → base laid o ≡ APointer (Pointers.To o 0)
  unfolding base pointer_in
  base_is few o lt =
      ap (λ a. or_invalid (placed a o (pos 0))) (size_some laid o lt few)
      ∙ ap (λ b. or_invalid (if b then Some (Pointers.To o 0) else None)) (le_test 0 (sizes_of laid o) (omega arith))

  pub base_in : (o : ℕ) → IsValueIn (base_value laid o) (scalar_as (APointer (Pointers.To o 0)))
  base_in o =
      subst (λ a. (let s = offsets_or_none a in Has s.offsets (pos 0)))
      (sym (get-insert_here map.empty o (record { size = (object_at laid o).cells; offsets = single (pos 0) }) o refl))
      (one_has (pos 0))

  some_of : {A : Type 0} (a : Option A) → is_some a ≡ true → (x : A) × (a ≡ Some x)
  some_of None h = absurd (cc)
  some_of (Some x) h = (x, refl)

  -- an address that is moved within its object
  pub part_is : (v : Value) (cells : ℕ) → IsOf laid pointers v
      → is_some (shifted laid (pointer_of v) (pos cells)) ≡ true
      → IsMove sizes (pos cells) (scalar_as v) (scalar_as (part laid cells v))
  unfolding part
  part_is v cells h there =
      let r = some_of (shifted laid (pointer_of v) (pos cells)) there in
      let at : shifted laid h.0 (pos cells) ≡ Some r.0 =
      ap (λ q. shifted laid q (pos cells)) (sym (pointer_of_is laid v h.0 h.1)) ∙ r.1 in
      is_moved laid v (or_invalid (shifted laid (pointer_of v) (pos cells))) h.0 r.0 (pos cells) h.1
      (ap or_invalid r.1) at

  -- ## Elements

  subscript_from : (count : ℕ) (i : ℤ) → is_subscript count i ≡ true → IsSubscript count i
  subscript_from count i h =
      let both = and_parts (int_le (pos 0) i) (int_lt i (pos count)) h in
      let low = int_le_from (pos 0) i both.0 in
      let high = int_lt_from i (pos count) both.1 in
      record { from = low; below = high }

  subscript_not : (count : ℕ) (i : ℤ) → is_subscript count i ≡ false → IsSubscript count i → ⊥
  subscript_not count i h k =
      let low = k.from in
      let high = k.below in
      true_false (is_subscript count i)
      (and_from (int_le (pos 0) i) (int_lt i (pos count)) (int_le_to (pos 0) i low) (int_lt_to i (pos count) high)) h

  element_by : (b : Bool) (count cells : ℕ) (v u w : Value) → is_subscript count (number_of u) ≡ b
      → IsOf laid pointers v → (i : ℤ) → u ≡ Number i
      → is_some (shifted laid (pointer_of v) (number_of u *ℤ pos cells)) ≡ true
      → (if b then Ok (or_invalid (shifted laid (pointer_of v) (number_of u *ℤ pos cells))) else Err Classes.Index)
      ≡ Ok w
      → IsElement sizes count cells (scalar_as v) (scalar_as u) (scalar_as w)
  element_by true count cells v u w sub h i is there e =
      let step = number_of u *ℤ pos cells in
      let r = some_of (shifted laid (pointer_of v) step) there in
      let at : shifted laid h.0 step ≡ Some r.0 =
      ap (λ q. shifted laid q step) (sym (pointer_of_is laid v h.0 h.1)) ∙ r.1 in
      let given : or_invalid (shifted laid (pointer_of v) step) ≡ w = cc in
      let same : number_of u ≡ i = number_of_is laid u i is in
      record {
        i = i;
        is_index = ap scalar_as is;
        subscript = subscript_from count i (ap (is_subscript count) (sym same) ∙ sub);
        element = subst (λ z. IsMove sizes (z *ℤ pos cells) (scalar_as v) (scalar_as w)) same
            (is_moved laid v w h.0 r.0 step h.1 (sym given ∙ ap or_invalid r.1) at);
      }
  element_by false count cells v u w sub h i is there e = absurd (cc)

  pub element_is : (count cells : ℕ) (v u w : Value) → IsOf laid pointers v → (i : ℤ) → u ≡ Number i
      → is_some (shifted laid (pointer_of v) (number_of u *ℤ pos cells)) ≡ true → element laid count cells v u ≡ Ok w
      → IsElement sizes count cells (scalar_as v) (scalar_as u) (scalar_as w)
  unfolding element
  element_is count cells v u w h i is there e =
      element_by (is_subscript count (number_of u)) count cells v u w refl h i is there e

  element_fails_by : (b : Bool) (count : ℕ) (u : Value) (value : Value) (class : Class)
      → is_subscript count (number_of u) ≡ b → (i : ℤ) → u ≡ Number i
      → (if b then Ok value else Err Classes.Index) ≡ Err class
      → (class ≡ Classes.Index) × IsNoSubscript count (scalar_as u)
  element_fails_by true count u value class sub i is e = absurd (cc)
  element_fails_by false count u value class sub i is e = (
    let f : Classes.Index ≡ class = cc in sym f,
    record {
      i = i;
      is_index = ap scalar_as is;
      fails = subscript_not count i (ap (is_subscript count) (sym (number_of_is laid u i is)) ∙ sub);
    },
  )

  pub element_fails : (count cells : ℕ) (v u : Value) (class : Class) → (i : ℤ) → u ≡ Number i
      → element laid count cells v u ≡ Err class → (class ≡ Classes.Index) × IsNoSubscript count (scalar_as u)
  unfolding element
  element_fails count cells v u class i is e =
      element_fails_by (is_subscript count (number_of u)) count u
      (or_invalid (shifted laid (pointer_of v) (number_of u *ℤ pos cells))) class refl i is e

  -- ## Moves

  same_direction : (minus : Bool) (cells : ℕ) → directed minus cells ≡ advances.directed (not minus) cells
  same_direction true cells = refl
  same_direction false cells = refl

  moved_some : (class : Class) (a : Option Pointer) (w : Value) → or_class class a ≡ Ok w
      → (r : Pointer) × (a ≡ Some r) × (w ≡ APointer r)
  moved_some class None w e = absurd (cc)
  moved_some class (Some r) w e = (r, refl, let f : APointer r ≡ w = cc in sym f)

  moved_none : (class other : Class) (a : Option Pointer) → or_class class a ≡ Err other
      → (a ≡ None) × (other ≡ class)
  moved_none class other None e = (refl, let f : class ≡ other = cc in sym f)
  moved_none class other (Some r) e = absurd (cc)

  pub moved_is : (minus : Bool) (cells : ℕ) (v u w : Value) → IsOf laid pointers v → (i : ℤ) → u ≡ Number i
      → moved laid minus cells v u ≡ Ok w
      → IsCounted sizes (advances.directed (not minus) cells) (scalar_as v) (scalar_as u) (scalar_as w)
  unfolding moved
  moved_is minus cells v u w h i is e =
      let step = number_of u *ℤ directed minus cells in
      let r = moved_some Classes.Pointer (shifted laid (pointer_of v) step) w e in
      let at : shifted laid h.0 step ≡ Some r.0 =
      ap (λ q. shifted laid q step) (sym (pointer_of_is laid v h.0 h.1)) ∙ r.1 in
      let same : step ≡ i *ℤ advances.directed (not minus) cells =
      ap (λ z. z *ℤ directed minus cells) (number_of_is laid u i is)
      ∙ ap (λ z. i *ℤ z) (same_direction minus cells) in
      record {
        n = i;
        is_count = ap scalar_as is;
        move = subst (λ z. IsMove sizes z (scalar_as v) (scalar_as w)) same
            (is_moved laid v w h.0 r.0 step h.1 r.2 at);
      }

  pub moved_fails : length laid.objects ≤ 2 ^ 32 → (minus : Bool) (cells : ℕ) (v u : Value) (class : Class)
      → IsOf laid pointers v → (i : ℤ) → u ≡ Number i → moved laid minus cells v u ≡ Err class
      → (class ≡ Classes.Pointer) × IsStray sizes (advances.directed (not minus) cells) (scalar_as v) (scalar_as u)
  unfolding moved
  moved_fails few minus cells v u class h i is e =
      let step = number_of u *ℤ directed minus cells in
      let r = moved_none Classes.Pointer class (shifted laid (pointer_of v) step) e in
      let at : shifted laid h.0 step ≡ None =
      ap (λ q. shifted laid q step) (sym (pointer_of_is laid v h.0 h.1)) ∙ r.0 in
      let same : step ≡ i *ℤ advances.directed (not minus) cells =
      ap (λ z. z *ℤ directed minus cells) (number_of_is laid u i is)
      ∙ ap (λ z. i *ℤ z) (same_direction minus cells) in (
        r.1,
        record {
          n = i;
          is_count = ap scalar_as is;
          strays = subst (λ z. Strays sizes z (scalar_as v)) same
              (subst (λ z. Strays sizes step (scalar_as z)) (sym h.1) (strays laid few h.0 h.2 step at));
        },
      )

  -- ## Dereferences

  deref_by : (b : Bool) (path target : ℕ) (v w : Value) (h : IsOf laid pointers v)
      → is_dereferenceable laid path target (pointer_of v) ≡ b
      → (if b then Ok (APointer (pointer_of v)) else Err Classes.Deref) ≡ Ok w
      → IsReached (is_alive laid path) (λ o k. stands_at laid o k target) (scalar_as v) (scalar_as w)
  deref_by true path target v w h is e =
      let at = pointer_of_is laid v h.0 h.1 in
      let given : APointer (pointer_of v) ≡ w = cc in
      let same : w ≡ v = sym given ∙ ap APointer at ∙ sym h.1 in
      let k = reaches laid path target h.0 (ap (is_dereferenceable laid path target) (sym at) ∙ is) in
      subst (λ z. IsReached (is_alive laid path) (λ o k. stands_at laid o k target) (scalar_as v) (scalar_as z))
      (sym same)
      (subst (λ z. IsReached (is_alive laid path) (λ o k. stands_at laid o k target) (scalar_as z) (scalar_as z))
      (sym h.1) k)
  deref_by false path target v w h is e = absurd (cc)

  pub deref_is : (path target : ℕ) (v w : Value) → IsOf laid pointers v → dereferenced laid path target v ≡ Ok w
      → IsReached (is_alive laid path) (λ o k. stands_at laid o k target) (scalar_as v) (scalar_as w)
  unfolding dereferenced
  deref_is path target v w h e =
      deref_by (is_dereferenceable laid path target (pointer_of v)) path target v w h refl e

  deref_fails_by : length laid.objects ≤ 2 ^ 32 → (b : Bool) (path target : ℕ) (v : Value) (class : Class)
      → (h : IsOf laid pointers v) → is_dereferenceable laid path target (pointer_of v) ≡ b
      → (if b then Ok (APointer (pointer_of v)) else Err Classes.Deref) ≡ Err class
      → (class ≡ Classes.Deref) × IsUnreached (is_alive laid path) (λ o k. stands_at laid o k target) (scalar_as v)
  deref_fails_by few true path target v class h is e = absurd (cc)
  deref_fails_by few false path target v class h is e = (
    let f : Classes.Deref ≡ class = cc in sym f,
    subst (λ z. IsUnreached (is_alive laid path) (λ o k. stands_at laid o k target) (scalar_as z)) (sym h.1)
        (unreached laid few path target h.0 h.2
        (ap (is_dereferenceable laid path target) (sym (pointer_of_is laid v h.0 h.1)) ∙ is)),
  )

  pub deref_fails : length laid.objects ≤ 2 ^ 32 → (path target : ℕ) (v : Value) (class : Class) → IsOf laid pointers v
      → dereferenced laid path target v ≡ Err class
      → (class ≡ Classes.Deref) × IsUnreached (is_alive laid path) (λ o k. stands_at laid o k target) (scalar_as v)
  unfolding dereferenced
  deref_fails few path target v class h e =
      deref_fails_by few (is_dereferenceable laid path target (pointer_of v)) path target v class h refl e
