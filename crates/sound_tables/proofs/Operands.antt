-- Temporaries that lie in a state are of the sorts of the state.
use Rattle.std.specs.Prelude.{◌≡◌, ℕ, ◌<◌, ◌≤◌, ℤ, pos, true, List, length, Option, Some, None}
use Rattle.std.proofs.Common.{refl, subst, arith}
use Rattle.std.proofs.lemmas.Int.{ints}
use Rattle.std.specs.FinMap.{get}
use Rattle.program_shape.specs.strided_dom.Progression.{Progression, Has}
use Rattle.program_shape.proofs.low.strided_dom.Members.{not_in_empty}
use Rattle.program_shape.specs.tm_lattice.Tables.{IsEntry}
use Rattle.program_shape.specs.tm_cint.IntTypes.{IsIn}
use Rattle.program_shape.specs.tm_laid.Layouts.{LaidTree, object_at}
use Rattle.program_shape.specs.concrete_values.declared.values.Pointer.{Pointer}
use Rattle.program_shape.specs.concrete_values.declared.values.Pointer.TheVariants as Pointers
use Rattle.program_shape.specs.concrete_values.declared.values.Value.{Value}
use Rattle.program_shape.specs.concrete_values.declared.values.Value.TheVariants.{Number, Pointer as APointer}
use Rattle.program_shape.specs.flow_graph.Operations.{Temps}
use Rattle.program_reports.specs.pointer_dom.OffsetSets.{OffsetSet, IsOffsetSet, HasNoOffset}
use Rattle.program_reports.specs.pointer_dom.PointerSets.{Pointers as PointerSet, offsets_or_none, no_pointer}
use Rattle.program_reports.specs.pointer_dom.Values.{Values, IsValueIn}
use Rattle.program_reports.specs.transfer_rows.StateForms.{Temp, State}
use Rattle.program_reports.specs.transfer_rows.Accesses.{is_among}
use Rattle.program_reports.specs.transfer_rows.Covering.{AreIn}
use Rattle.program_reports.proofs.low.transfer_rows.CoverSteps.{none_has}
use Rattle.program_reports.specs.typed_values.Types.{IsOfType}
use Rattle.program_reports.specs.temporary_types.Sorts.{type_of_sort, type_of_some, types_of}
use Rattle.program_reports.specs.state_fits.Kinds.{OfTypes}
use Rattle.program_reports.specs.state_fits.Fits.{FitsTemp, FitsPlace}
use Rattle.program_reports.specs.state_fits.laws.Exact.{wider_type}
use Rattle.program_reports.specs.temporary_types.Sorts.{Sort, numbers, pointers, Holds}
use Rattle.sound_tables.specs.Memberships.{scalar_as, scalars_as, address_as}
use Rattle.sound_tables.proofs.Arriving.{live_has}

-- the pointer leads into an object, one past its last cell included, if it leads to one
abbrev pub LiesIn : LaidTree → Pointer → Type 0
LiesIn laid Pointers.Null = Unit {0}
LiesIn laid Pointers.Invalid = Unit {0}
LiesIn laid (Pointers.To o k) = (o < length laid.objects) × (k ≤ (object_at laid o).cells)

-- a number of the type, or a pointer that lies in its object
abbrev pub IsOf : LaidTree → Sort → Value → Type 0
IsOf laid (numbers t) w = (z : ℤ) × (w ≡ Number z) × IsIn t z
IsOf laid pointers w = (q : Pointer) × (w ≡ APointer q) × LiesIn laid q

no_pointer_in : (m : Progression) (q : Pointer)
    → IsValueIn (record { numbers = m; pointers = no_pointer }) (address_as q) → ⊥
no_pointer_in m Pointers.Null h = none_has (address_as Pointers.Null) h
no_pointer_in m Pointers.Invalid h = none_has (address_as Pointers.Invalid) h
no_pointer_in m (Pointers.To o k) h = none_has (address_as (Pointers.To o k)) h

same_pointers : (u : Values) (r : Pointer) → IsValueIn u (address_as r)
    → IsValueIn (record { numbers = u.numbers; pointers = u.pointers }) (address_as r)
same_pointers u r z = z

offset_by : (laid : LaidTree) (o k : ℕ) (a : Option OffsetSet) → IsEntry IsOffsetSet HasNoOffset a
    → ((s : OffsetSet) → a ≡ Some s → (o < length laid.objects) × (s.size ≡ (object_at laid o).cells))
    → (let s = offsets_or_none a in Has s.offsets (pos k)) → LiesIn laid (Pointers.To o k)
offset_by laid o k None is objects h = absurd (not_in_empty (pos k) h)
offset_by laid o k (Some s) is objects h =
    let at = objects s refl in
    let inside = is.0.within (pos k) h in
    let most = inside.to in
    let size = at.1 in
    (at.0, omega (arith, ints, most, size))

typed_value : (laid : LaidTree) (s : Sort) (v : Values) → IsOfType laid (type_of_sort s) v → (w : Value)
    → IsValueIn v (scalar_as w) → IsOf laid s w
typed_value laid (numbers t) v h (Number z) k = (z, refl, h.0.all z k)
typed_value laid (numbers t) v h (APointer q) k =
    absurd (no_pointer_in v.numbers q (subst (λ (r : PointerSet). IsValueIn
    (record { numbers = v.numbers; pointers = r }) (address_as q)) h.1 (same_pointers v q k)))
typed_value laid pointers v h (Number z) k =
    absurd (not_in_empty z (subst (λ (r : Progression). Has r z) h.0 k))
typed_value laid pointers v h (APointer Pointers.Null) k = (Pointers.Null, refl, tt)
typed_value laid pointers v h (APointer Pointers.Invalid) k = (Pointers.Invalid, refl, tt)
typed_value laid pointers v h (APointer (Pointers.To o k')) k =
    (Pointers.To o k', refl, offset_by laid o k' (get v.pointers.objects o) (h.1 o) (h.2 o) k)

module _ (laid : LaidTree) (task : ℕ) (sorts : List Sort) (live : List ℕ) (s : State)
    (fits : FitsPlace laid task (OfTypes laid (types_of sorts)) live s) (temps : Temps)
    (ins : AreIn s (scalars_as temps)) where
  fitting : (u : ℕ) (a : Option Temp) (e : Temp) → a ≡ Some e → FitsTemp (OfTypes laid (types_of sorts)) live u a
      → IsOfType laid (types_of sorts u) e.value
  fitting u None e is h = absurd (cc)
  fitting u (Some d) e is h =
      subst (λ (z : Temp). IsOfType laid (types_of sorts u) z.value) (let f : d ≡ e = cc in f) h.1

  -- a live temporary that holds values of a sort has one of them
  pub operand : (u : ℕ) (sort : Sort) → is_among live u ≡ true → Holds sorts u sort → IsOf laid sort (temps u)
  operand u sort is h =
      let k = live_has laid task (types_of sorts) live s fits u is in
      let own : IsOfType laid (types_of sorts u) k.entry.value =
      fitting u (get s.temps u) k.entry k.stands (fits.temps u) in
      let typed : IsOfType laid (type_of_sort h.0) k.entry.value =
      subst (λ o. IsOfType laid (type_of_some o) k.entry.value) h.1 own in
      typed_value laid sort k.entry.value (wider_type laid h.0 sort k.entry.value h.2 typed) (temps u)
      (ins.in_value u k.entry k.stands)
