-- Each object of static storage with an integer cell has bounds.
use Rattle.std.proofs.Common.{◌≡◌, refl, sym, subst, ap, ◌∙◌, ℕ, ◌≤◌, ◌^◌, true, false, List, length, Option}
use Rattle.std.proofs.Common.{Some}
use Rattle.std.specs.Prelude.{ℤ, cond}
use Rattle.std.specs.FinMap as map
use Rattle.std.specs.FinMap.{get, get-empty}
use Rattle.std.specs.Ordering.{nat_cmp}
use Rattle.std.proofs.lemmas.Bool.{lt-ltb, le-leb}
use Rattle.sound_tables.specs.program_reports.cell_env.tm_lattice.laws.TableLaws.{get-insert_here}
use Rattle.sound_tables.specs.program_reports.pointer_dom.PointerSets.{Pointers, no_pointer, pointer_to}
use Rattle.sound_tables.specs.tm_typed.declared.types.Scalar.{Scalar}
use Rattle.sound_tables.specs.tm_typed.declared.types.Scalar.TheVariants as Scalars
use Rattle.sound_tables.specs.tm_laid.declared.objects.Initial.{Initial}
use Rattle.sound_tables.specs.tm_laid.declared.objects.Initial.TheVariants as Initials
use Rattle.sound_tables.specs.tm_laid.Layouts.{LaidTree, cell_at, abstract_at, object_at}
use Rattle.sound_tables.specs.interfere_set.Stores.{Interferences}
use Rattle.sound_tables.specs.transfer_rows.StateForms.{State}
use Rattle.sound_tables.specs.program_equations.Programs.{ProgramBodies, IsProgram}
use Rattle.sound_tables.specs.program_equations.Entries.{initial_value, initial_or_none}
use Rattle.sound_tables.specs.program_equations.Solutions.{tables_of as lists_of, IsPair}
use Rattle.sound_tables.specs.program_shape.Shape.{IsShared, abstract_of_cell}
use Rattle.sound_tables.specs.program_reports.typed_values.Types.{IsOfType}
use Rattle.sound_tables.specs.Starting.{LiesWithin}
use Rattle.value_ranges.specs.declared.object_bounds.ObjectBounds.{ObjectBounds}
use Rattle.value_ranges.specs.Ranges.{IsInteger, IsIntegerCell, IsNumberOf, IsListed, AreRanges}
use Rattle.value_ranges.specs.Ranges.IsToldNumber.{at_first}
use Rattle.sound_core.specs.Sound.{IsProgramFrom}
use Rattle.sound_core.proofs.Alarmed.{cells_kept, memory_kept}
use Rattle.sound_core.proofs.Within.{shared}

-- a cell without pointers at first holds a number
without_pointers : (laid : LaidTree) (i : Initial) → LiesWithin laid i
    → (let v = initial_value laid i in v.pointers ≡ no_pointer) → (n : ℤ) × (i ≡ Initials.Number n)
without_pointers laid (Initials.Number n) lies e = (n, refl)
without_pointers laid Initials.Null lies e = absurd (let clash : true ≡ false = ap (λ (q : Pointers). q.null) e in cc)
without_pointers laid (Initials.To object offset) lies e =
    let size = (object_at laid object).cells in
    let one : Pointers = pointer_to object size offset in
    let there : one ≡ no_pointer = sym (ap (λ b. cond b one no_pointer) (le-leb offset size lies)) ∙ e in
    let clash = sym (get-insert_here map.empty object _ object refl)
    ∙ ap (λ (q : Pointers). get q.objects object) there ∙ get-empty nat_cmp object in absurd cc

integer_holds : (laid : LaidTree) (s : Scalar) → IsInteger s → (i : Initial) → LiesWithin laid i
    → IsOfType laid s (initial_value laid i) → (n : ℤ) × (i ≡ Initials.Number n)
integer_holds laid (Scalars.Int t) ok i lies h = without_pointers laid i lies h.1
integer_holds laid (Scalars.Pointer class) ok i lies h = absurd ok

module _ (laid : LaidTree) (p : ProgramBodies) (from : IsProgramFrom laid p) (is : IsProgram p)
    (few : length laid.objects ≤ 2 ^ 32) (tables : List (List (Option State))) (store : Interferences)
    (pair : IsPair p tables store) where
  has_number : (object x : ℕ) → IsIntegerCell p.laid object x → (n : ℤ) × IsNumberOf p (lists_of tables) store object n
  has_number object x of =
      let kept = cells_kept laid p from in
      let some = kept.some x of.within in
      let cell = some.0 in
      let same : abstract_of_cell p.laid cell ≡ x =
      ap (λ b. cond b (cell_at p.laid cell).abstract_cell (length p.laid.abstract_cells))
      (lt-ltb cell (length p.laid.cells) some.1) ∙ some.2 in
      let memory = memory_kept laid p from is few tables store pair in
      let first = memory.statics cell (subst (IsShared p.laid) (sym same) (shared p tables store object x of)) in
      let typed = subst (λ o. (let a = abstract_at p.laid (cell_at p.laid cell).abstract_cell in
      IsOfType p.laid a.scalar (initial_or_none p.laid o))) first.is (is.initial cell first.there) in
      let here = subst (λ y. (let a = abstract_at p.laid y in
      IsOfType p.laid a.scalar (initial_value p.laid first.initial))) some.2 typed in
      let number = integer_holds p.laid (abstract_at p.laid x).scalar of.integer first.initial first.within here in (
        number.0,
        record {
          cell = x;
          of = of;
          told = at_first cell some.1 some.2 (first.is ∙ ap Some number.1);
        },
      )

  pub is_listed : (list : List ObjectBounds) → AreRanges p (lists_of tables) store list → (object x : ℕ)
      → IsIntegerCell p.laid object x → IsListed list object
  is_listed list are object x of = let h = has_number object x of in are.all object h.0 h.1
