-- The columns of types count their cells, where there are at most 65,536.
use Rattle.std.proofs.Common.{◌≡◌, refl, ap, sym, subst, ◌∙◌, ℕ, zero, suc, ◌+◌, ◌*◌, ◌<◌, inl, inr, cond, List, [], ◌∷◌, length, get_or, arith}
use Rattle.std.specs.Prelude.{All, nat_le}
use Rattle.std.proofs.lemmas.Bool.{cases_Bool, cases_lt}
use Rattle.std.proofs.lemmas.List.{get_or_past}
use Rattle.tm_typed.specs.declared.types.CType.{CType}
use Rattle.tm_typed.specs.declared.types.CType.TheVariants as Types
use Rattle.tm_typed.specs.declared.types.TypeEntry.{TypeEntry}
use Rattle.tm_typed.specs.declared.scopes.Member.{Member}
use Rattle.tm_typed.specs.Types.{no_type}
use Rattle.tm_typed.specs.Scopes.{Structure, no_structure, cells_of, cells_by, abstract_cells_of, abstract_cells_by}
use Rattle.tm_typed.specs.TypeRows.{clipped, cells_in, abstract_cells_in}
use Rattle.tm_typed.specs.Files.{TypedFileTree}
use Rattle.tm_laid.specs.TypeCells.{entry_of, structure_in, is_smashed, summed, count_by, cell_count, abstract_by, abstract_count, type_depth, cells_of_type, abstract_cells_of_type}
use Rattle.tm_laid.specs.Layable.{tables_of, IsRow, IsStructure, IsLayable}

-- ## Rows

pub row_of : (file : TypedFileTree) (order : List ℕ) → IsLayable file order → (n : ℕ) → IsRow file (entry_of file n)
row_of file order h n = elim (cases_lt n (length file.types)) [
  | inl lt ↦ h.rows n no_type lt
  | inr ge ↦ (let P : TypeEntry → Type 0 = λ e. IsRow file e in subst P (sym (get_or_past file.types n no_type ge)) (record {
    founded = refl;
    structures = λ k e. absurd cc;
    cells = refl;
    abstract_cells = refl;
  }))
]

pub structure_of : (file : TypedFileTree) (order : List ℕ) → IsLayable file order → (k : ℕ) → IsStructure file (structure_in file k)
structure_of file order h k = elim (cases_lt k (length file.structs)) [
  | inl lt ↦ h.structures k no_structure lt
  | inr ge ↦ (let P : Structure → Type 0 = λ s. IsStructure file s in subst P (sym (get_or_past file.structs k no_structure ge)) (record {
    parts = tt;
    cells = refl;
    abstract_cells = refl;
  }))
]

-- a type that is made of others stands in the table
pub within : (file : TypedFileTree) (n : ℕ) (t : CType) → (entry_of file n).ctype ≡ t → (t ≡ Types.Void → ⊥) → n < length file.types
within file n t e other = elim (cases_lt n (length file.types)) [
  | inl lt ↦ lt
  | inr ge ↦ absurd (other (sym e ∙ ap (λ x. x.ctype) (get_or_past file.types n no_type ge)))
]

-- ## Clipped numbers

clip_clip : (x : ℕ) → clipped (clipped x) ≡ clipped x
clip_clip x = omega arith

clip_sum : (a b c d : ℕ) → clipped a ≡ clipped c → clipped b ≡ clipped d → clipped (a + b) ≡ clipped (c + d)
clip_sum a b c d e f = omega (arith, e, f)

clip_times : (k x y : ℕ) → clipped x ≡ clipped y → clipped (k * x) ≡ clipped (k * y)
clip_times zero x y e = let a : zero * x ≡ 0 = omega arith in let b : zero * y ≡ 0 = omega arith in omega (arith, a, b)
clip_times (suc k) x y e =
    let a : suc k * x ≡ x + k * x = omega arith in
    let b : suc k * y ≡ y + k * y = omega arith in
    ap clipped a ∙ clip_sum x (k * x) y (k * y) e (clip_times k x y e) ∙ ap clipped (sym b)

clip_members : (f g : ℕ → ℕ) (ms : List Member) → All (λ m. clipped (f m.part.of.number) ≡ g m.part.of.number) ms → clipped (summed f ms) ≡ clipped (summed g ms)
clip_members f g [] h = refl
clip_members f g (m ∷ ms) h =
    clip_sum (f m.part.of.number) (summed f ms) (g m.part.of.number) (summed g ms)
    (let e = h 0 m (omega arith) in omega (arith, e))
    (clip_members f g ms (λ k d l. h (suc k) d (omega (arith, l))))

-- ## Cells

IsDeep : (file : TypedFileTree) → (ℕ → ℕ) → ℕ → ℕ → Type 0
IsDeep file rank d n = n < length file.types → rank n < d

module _ (file : TypedFileTree) (order : List ℕ) (h : IsLayable file order) where
  Counts : ℕ → ℕ → Type 0
  Counts d n = clipped (cell_count file d n) ≡ cells_of (tables_of file) n

  by_row : (d n : ℕ) → ((m : ℕ) → h.ranks.rank m < h.ranks.rank n → Counts d m) → (t : CType) → (entry_of file n).ctype ≡ t
      → clipped (count_by file (cell_count file d) t) ≡ cells_by (tables_of file) (entry_of file n) t
  unfolding Counts
  by_row d n parts Types.Void e = sym ((row_of file order h n).cells ∙ ap (cells_in (tables_of file)) e)
  by_row d n parts (Types.Int t) e = sym ((row_of file order h n).cells ∙ ap (cells_in (tables_of file)) e)
  by_row d n parts (Types.Pointer q) e = sym ((row_of file order h n).cells ∙ ap (cells_in (tables_of file)) e)
  by_row d n parts (Types.Array element k) e =
      clip_times k (cell_count file d element) (cells_of (tables_of file) element)
      (let p = parts element (h.ranks.elements n element k e) in omega (arith, p))
      ∙ sym ((row_of file order h n).cells ∙ ap (cells_in (tables_of file)) e)
  by_row d n parts (Types.Struct k) e =
      clip_members (cell_count file d) (cells_of (tables_of file)) (structure_in file k).members
      (λ i m l. parts (get_or (structure_in file k).members i m).part.of.number (h.ranks.members n k e i m l))
      ∙ sym (structure_of file order h k).cells

  counted : (d n : ℕ) → IsDeep file h.ranks.rank d n → Counts d n
  unfolding Counts cell_count IsDeep
  counted zero n deep = elim (cases_lt n (length file.types)) [
    | inl lt ↦ absurd (let l = deep lt in omega (arith, l))
    | inr ge ↦ (let P : TypeEntry → Type 0 = λ e. clipped 0 ≡ cells_by (tables_of file) e e.ctype in subst P (sym (get_or_past file.types n no_type ge)) refl)
  ]
  counted (suc d) n deep = elim (cases_lt n (length file.types)) [
    | inl lt ↦ by_row d n (λ m l. counted d m (λ b. let r = deep lt in omega (arith, r, l))) (entry_of file n).ctype refl
    | inr ge ↦
        (let P : TypeEntry → Type 0 = λ e. clipped (count_by file (cell_count file d) e.ctype) ≡ cells_by (tables_of file) e e.ctype in
        subst P (sym (get_or_past file.types n no_type ge)) refl)
  ]

  -- the column of cells is the number of cells, where there are at most 65,536
  pub cells_counted : (n : ℕ) → clipped (cells_of_type file n) ≡ cells_of (tables_of file) n
  unfolding Counts IsDeep
  cells_counted n = counted (type_depth file) n (λ lt. h.ranks.deep n lt)

  -- ## Abstract cells

  AbstractCounts : ℕ → ℕ → Type 0
  AbstractCounts d n = clipped (abstract_count file d n) ≡ abstract_cells_of (tables_of file) n

  smashed_or : (k x y : ℕ) → clipped x ≡ y → clipped (cond (is_smashed k) x (k * x)) ≡ cond (nat_le 65 k) y (clipped (k * y))
  smashed_or k x y e = elim (cases_Bool (nat_le 65 k)) [
    | inl t ↦ ap (λ b. clipped (cond b x (k * x))) t ∙ e ∙ sym (ap (λ b. cond b y (clipped (k * y))) t)
    | inr t ↦ ap (λ b. clipped (cond b x (k * x))) t ∙ clip_times k x y (omega (arith, e)) ∙ sym (ap (λ b. cond b y (clipped (k * y))) t)
  ]

  abstract_by_row : (d n : ℕ) → ((m : ℕ) → h.ranks.rank m < h.ranks.rank n → AbstractCounts d m) → (t : CType) → (entry_of file n).ctype ≡ t
      → clipped (abstract_by file (abstract_count file d) t) ≡ abstract_cells_by (tables_of file) (entry_of file n) t
  unfolding AbstractCounts
  abstract_by_row d n parts Types.Void e = sym ((row_of file order h n).abstract_cells ∙ ap (abstract_cells_in (tables_of file)) e)
  abstract_by_row d n parts (Types.Int t) e = sym ((row_of file order h n).abstract_cells ∙ ap (abstract_cells_in (tables_of file)) e)
  abstract_by_row d n parts (Types.Pointer q) e = sym ((row_of file order h n).abstract_cells ∙ ap (abstract_cells_in (tables_of file)) e)
  abstract_by_row d n parts (Types.Array element k) e =
      smashed_or k (abstract_count file d element) (abstract_cells_of (tables_of file) element) (parts element (h.ranks.elements n element k e))
      ∙ sym ((row_of file order h n).abstract_cells ∙ ap (abstract_cells_in (tables_of file)) e)
  abstract_by_row d n parts (Types.Struct k) e =
      clip_members (abstract_count file d) (abstract_cells_of (tables_of file)) (structure_in file k).members
      (λ i m l. parts (get_or (structure_in file k).members i m).part.of.number (h.ranks.members n k e i m l))
      ∙ sym (structure_of file order h k).abstract_cells

  abstracts_found : (d n : ℕ) → IsDeep file h.ranks.rank d n → AbstractCounts d n
  unfolding AbstractCounts abstract_count IsDeep
  abstracts_found zero n deep = elim (cases_lt n (length file.types)) [
    | inl lt ↦ absurd (let l = deep lt in omega (arith, l))
    | inr ge ↦ (let P : TypeEntry → Type 0 = λ e. clipped 0 ≡ abstract_cells_by (tables_of file) e e.ctype in subst P (sym (get_or_past file.types n no_type ge)) refl)
  ]
  abstracts_found (suc d) n deep = elim (cases_lt n (length file.types)) [
    | inl lt ↦ abstract_by_row d n (λ m l. abstracts_found d m (λ b. let r = deep lt in omega (arith, r, l))) (entry_of file n).ctype refl
    | inr ge ↦
        (let P : TypeEntry → Type 0 = λ e. clipped (abstract_by file (abstract_count file d) e.ctype) ≡ abstract_cells_by (tables_of file) e e.ctype in
        subst P (sym (get_or_past file.types n no_type ge)) refl)
  ]

  -- the column of abstract cells likewise
  pub abstracts_counted : (n : ℕ) → clipped (abstract_cells_of_type file n) ≡ abstract_cells_of (tables_of file) n
  unfolding AbstractCounts IsDeep
  abstracts_counted n = abstracts_found (type_depth file) n (λ lt. h.ranks.deep n lt)
