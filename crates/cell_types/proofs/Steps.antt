-- Steps down, as the code makes them.
use Rattle.std.proofs.Common.{◌≡◌, refl, ap, sym, subst, ◌∙◌, ℕ, zero, suc, ◌+◌, ◌-◌, ◌*◌, ◌%◌, ◌<◌, ◌≤◌, inl, inr, Bool, true, false, ltb, if◌then◌else◌, List, [], ◌∷◌, length, Option, Some, None, slice_get, arith}
use Rattle.std.specs.Prelude.{All}
use Rattle.std.proofs.lemmas.Bool.{cases_lt}
use Rattle.std.proofs.lemmas.List.{get_or_past}
use Rattle.std.proofs.lemmas.List.Elements.{All-head, All-tail}
use Rattle.tm_cint.specs.declared.int_types.IntType.{IntType}
use Rattle.tm_typed.specs.declared.types.Qualified.{Qualified}
use Rattle.tm_typed.specs.declared.types.CType.TheVariants as Types
use Rattle.tm_typed.specs.declared.types.Scalar.{Scalar}
use Rattle.tm_typed.specs.declared.types.Scalar.TheVariants as Scalars
use Rattle.tm_typed.specs.declared.scopes.Member.{Member}
use Rattle.tm_typed.specs.Types.{no_type}
use Rattle.tm_typed.specs.Scopes.{cells_of}
use Rattle.tm_typed.specs.Files.{TypedFileTree}
use Rattle.tm_laid.specs.TypeCells.{entry_of, structure_in, cells_of_type}
use Rattle.tm_laid.specs.Layable.{tables_of, HasRanks, IsLayable}
use Rattle.tm_laid.specs.Layouts.{scalars_of_type}
use Rattle.tm_laid.proofs.Columns.{within}
use Rattle.cell_types.specs.declared.descents.Inside.{Inside}
use Rattle.cell_types.specs.declared.descents.Down.TheVariants.{Ends, Goes}
use Rattle.cell_types.specs.reading.Descents.{member_at, IsReached, Leads}
use Rattle.cell_types.proofs.Types.{opened_as, array_down, array_past, structure_down, structure_past}

-- a member's type has a lower rank
lower_by : (rank : ℕ → ℕ) (r : ℕ) (count : ℕ → ℕ) (m : Member) (ms : List Member) (cell : ℕ) (x : Inside) → rank m.part.of.number < r
    → (member_at count ms (cell - count m.part.of.number) ≡ Some x → rank x.of < r) → (b : Bool)
    → (if b then Some (record { of = m.part.of.number; cell = cell }) else member_at count ms (cell - count m.part.of.number)) ≡ Some x → rank x.of < r
lower_by rank r count m ms cell x here there true e =
    let same : (record { of = m.part.of.number; cell = cell }) ≡ x = cc in subst (λ (z : Inside). rank z.of < r) same here
lower_by rank r count m ms cell x here there false e = there e

pub lower_in : (rank : ℕ → ℕ) (r : ℕ) (count : ℕ → ℕ) (ms : List Member) (cell : ℕ) (x : Inside) → All (λ m. rank m.part.of.number < r) ms
    → member_at count ms cell ≡ Some x → rank x.of < r
lower_in rank r count [] cell x all e = absurd cc
lower_in rank r count (m ∷ ms) cell x all e =
    lower_by rank r count m ms cell x (All-head (λ (z : Member). rank z.part.of.number < r) m ms all)
    (lower_in rank r count ms (cell - count m.part.of.number) x (All-tail (λ (z : Member). rank z.part.of.number < r) m ms all))
    (ltb cell (count m.part.of.number)) e

module _ (file : TypedFileTree) (order : List ℕ) (h : IsLayable file order) (part : Inside) where
  pub ends_void : (entry_of file part.of).ctype ≡ Types.Void → Leads file part (Ends None)
  ends_void e = sym (ap (λ xs. slice_get xs part.cell) (opened_as file order h part.of Types.Void e) ∙ no_cell part.cell)
    where
      no_cell : (i : ℕ) → slice_get (let none : List Scalar = [] in none) i ≡ None
      no_cell zero = refl
      no_cell (suc i) = refl

  pub ends_int : (t : IntType) (found : Option Scalar) → (entry_of file part.of).ctype ≡ Types.Int t → found ≡ slice_get (Scalars.Int t ∷ []) part.cell
      → Leads file part (Ends found)
  ends_int t found e f = f ∙ sym (ap (λ xs. slice_get xs part.cell) (opened_as file order h part.of (Types.Int t) e))

  pub ends_pointer : (q : Qualified) (found : Option Scalar) → (entry_of file part.of).ctype ≡ Types.Pointer q
      → found ≡ slice_get (Scalars.Pointer (entry_of file part.of).class ∷ []) part.cell → Leads file part (Ends found)
  ends_pointer q found e f = f ∙ sym (ap (λ xs. slice_get xs part.cell) (opened_as file order h part.of (Types.Pointer q) e))

  pub array_ends : (e m : ℕ) → (entry_of file part.of).ctype ≡ Types.Array e m → cells_of_type file part.of ≤ 65536
      → m * cells_of (tables_of file) e ≤ part.cell → Leads file part (Ends None)
  array_ends e m is small ge = sym (array_past file order h part.of e m part.cell is small ge)

  array_lower : (e m : ℕ) → (entry_of file part.of).ctype ≡ Types.Array e m → (ranks : HasRanks file) → ranks.rank e < ranks.rank part.of
  array_lower e m is ranks = ranks.elements part.of e m is

  pub array_goes : (e m : ℕ) (next : Inside) → (entry_of file part.of).ctype ≡ Types.Array e m → cells_of_type file part.of ≤ 65536
      → (part.cell < m * cells_of (tables_of file) e) × (next ≡ record { of = e; cell = part.cell % cells_of (tables_of file) e }) → Leads file part (Goes next)
  array_goes e m next is small x =
      let found = array_down file order h part.of e m part.cell is small x.0 in
      subst (λ z. Leads file part (Goes z)) (sym x.1)
      (found.same, found.small, array_lower e m is, within file part.of (Types.Array e m) is (λ z. absurd cc))

  pub structure_ends : (k : ℕ) → (entry_of file part.of).ctype ≡ Types.Struct k → cells_of_type file part.of ≤ 65536
      → member_at (cells_of (tables_of file)) (structure_in file k).members part.cell ≡ None → Leads file part (Ends None)
  structure_ends k is small e = sym (structure_past file order h part.of k part.cell is small e)

  pub structure_goes : (k : ℕ) (next : Inside) → (entry_of file part.of).ctype ≡ Types.Struct k → cells_of_type file part.of ≤ 65536
      → member_at (cells_of (tables_of file)) (structure_in file k).members part.cell ≡ Some next → Leads file part (Goes next)
  structure_goes k next is small e =
      let found = structure_down file order h part.of k part.cell next is small e in (
        found.same,
        found.small,
        λ ranks. lower_in ranks.rank (ranks.rank part.of) (cells_of (tables_of file)) (structure_in file k).members part.cell next (ranks.members part.of k is) e,
        within file part.of (Types.Struct k) is (λ z. absurd cc),
      )

-- ## The way down

pub begins : (file : TypedFileTree) (n cell : ℕ) → cells_of_type file n ≤ 65536
    → IsReached file (slice_get (scalars_of_type file n) cell) (length file.types + length file.structs) (record { of = n; cell = cell })
begins file n cell small = record { same = refl; small = small; deep = λ h lt. h.deep n lt }

pub goes_on : (file : TypedFileTree) (found : Option Scalar) (depth less : ℕ) (part next : Inside) → depth ≡ suc less → IsReached file found depth part
    → Leads file part (Goes next) → IsReached file found less next
goes_on file found depth less part next e r l = record {
  same = sym l.0 ∙ r.same;
  small = l.1;
  deep = λ h lt. let a = l.2 h in let b = r.deep h l.3 in omega (arith, a, b, e);
}

pub ends_at : (file : TypedFileTree) (found result : Option Scalar) (depth : ℕ) (part : Inside) → IsReached file found depth part → Leads file part (Ends result) → result ≡ found
ends_at file found result depth part r l = l ∙ r.same

-- at depth 0 no type is left
pub too_deep : (file : TypedFileTree) (order : List ℕ) → IsLayable file order → (found : Option Scalar) (depth : ℕ) (part : Inside) → depth ≡ 0
    → IsReached file found depth part → None ≡ found
too_deep file order h found depth part e r = elim (cases_lt part.of (length file.types)) [
  | inl lt ↦ absurd (let a = r.deep h.ranks lt in omega (arith, a, e))
  | inr ge ↦ ends_void file order h part (ap (λ x. x.ctype) (get_or_past file.types part.of no_type ge)) ∙ r.same
]
