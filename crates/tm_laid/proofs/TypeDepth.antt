-- What is computed of a type by those of which it is made needs no greater depth than there are types and structures.
use Rattle.std.proofs.Common.{◌≡◌, refl, ap, sym, subst, ◌∙◌, ℕ, zero, suc, ◌+◌, ◌*◌, ◌<◌, ◌≤◌, inl, inr, Bool, true, cond, List, [], ◌∷◌, ◌++◌, length, get_or, arith}
use Rattle.std.proofs.Math.Path.{fun_ext}
use Rattle.std.specs.Prelude.{All}
use Rattle.std.proofs.lemmas.Bool.{cases_lt}
use Rattle.std.proofs.lemmas.List.{get_or_past}
use Rattle.tm_typed.specs.declared.types.CType.{CType}
use Rattle.tm_typed.specs.declared.types.CType.TheVariants as Types
use Rattle.tm_typed.specs.declared.types.TypeEntry.{TypeEntry}
use Rattle.tm_typed.specs.declared.scopes.Member.{Member}
use Rattle.tm_typed.specs.Types.{no_type}
use Rattle.tm_typed.specs.Files.{TypedFileTree}
use Rattle.tm_laid.specs.TypeCells.{entry_of, structure_in, is_smashed, summed, count_by, cell_count, abstract_by, abstract_count, type_depth, cells_of_type, abstract_cells_of_type, elements, in_members, TypeCell, TypeAbstract, cells_by, type_cells, abstracts_by, type_abstracts}
use Rattle.tm_laid.specs.Layable.{HasRanks}

-- what is computed by depth
pub record IsByDepth (file : TypedFileTree) (h : HasRanks file) (A : Type 0) (f : ℕ → ℕ → A) : Type 0 where
  pub step : (ℕ → A) → ℕ → A
  pub opened : (d n : ℕ) → f (suc d) n ≡ step (f d) n
  pub outside : (g : ℕ → A) (n : ℕ) → length file.types ≤ n → f 0 n ≡ step g n
  pub inside : (g k : ℕ → A) (n : ℕ) → ((m : ℕ) → h.rank m < h.rank n → g m ≡ k m) → step g n ≡ step k n

module _ (file : TypedFileTree) (h : HasRanks file) (A : Type 0) (f : ℕ → ℕ → A) (b : IsByDepth file h A f) where
  pub same : (d e n : ℕ) → (n < length file.types → h.rank n < d) → (n < length file.types → h.rank n < e) → f d n ≡ f e n
  same zero zero n x y = refl
  same zero (suc e) n x y = elim (cases_lt n (length file.types)) [
    | inl lt ↦ absurd (let r = x lt in omega (arith, r))
    | inr ge ↦ b.outside (f e) n ge ∙ sym (b.opened e n)
  ]
  same (suc d) zero n x y = elim (cases_lt n (length file.types)) [
    | inl lt ↦ absurd (let r = y lt in omega (arith, r))
    | inr ge ↦ b.opened d n ∙ sym (b.outside (f d) n ge)
  ]
  same (suc d) (suc e) n x y = elim (cases_lt n (length file.types)) [
    | inl lt ↦
        b.opened d n
        ∙ b.inside (f d) (f e) n (λ m r. same d e m (λ l. let a = x lt in omega (arith, a, r)) (λ l. let a = y lt in omega (arith, a, r)))
        ∙ sym (b.opened e n)
    | inr ge ↦ b.opened d n ∙ sym (b.outside (f d) n ge) ∙ b.outside (f e) n ge ∙ sym (b.opened e n)
  ]

  -- a type opens at the full depth
  pub opens_at : (n : ℕ) → f (type_depth file) n ≡ b.step (f (type_depth file)) n
  opens_at n = same (type_depth file) (suc (type_depth file)) n (λ lt. h.deep n lt) (λ lt. let a = h.deep n lt in omega (arith, a)) ∙ b.opened (type_depth file) n

module _ (file : TypedFileTree) (h : HasRanks file) where
  -- ## Numbers of cells

  same_sums : (g k : ℕ → ℕ) (ms : List Member) → All (λ m. g m.part.of.number ≡ k m.part.of.number) ms → summed g ms ≡ summed k ms
  same_sums g k [] e = refl
  same_sums g k (m ∷ ms) e =
      ap (λ x. x + summed g ms) (e 0 m (omega arith)) ∙ ap (λ x. k m.part.of.number + x) (same_sums g k ms (λ i d l. e (suc i) d (omega (arith, l))))

  Below : ℕ → (ℕ → ℕ) → (ℕ → ℕ) → Type 0
  Below n g k = (m : ℕ) → h.rank m < h.rank n → g m ≡ k m

  count_inside : (g k : ℕ → ℕ) (n : ℕ) (t : CType) → (entry_of file n).ctype ≡ t → ((m : ℕ) → h.rank m < h.rank n → g m ≡ k m) → count_by file g t ≡ count_by file k t
  count_inside g k n Types.Void e b = refl
  count_inside g k n (Types.Int t) e b = refl
  count_inside g k n (Types.Pointer q) e b = refl
  count_inside g k n (Types.Array element c) e b = ap (λ x. c * x) (b element (h.elements n element c e))
  count_inside g k n (Types.Struct s) e b = same_sums g k (structure_in file s).members (λ i d l. b (get_or (structure_in file s).members i d).part.of.number (h.members n s e i d l))

  cells_by_depth : IsByDepth file h ℕ (cell_count file)
  unfolding cell_count
  cells_by_depth = record {
    step = λ g n. count_by file g (entry_of file n).ctype;
    opened = λ d n. refl;
    outside = λ g n ge. let P : TypeEntry → Type 0 = λ e. 0 ≡ count_by file g e.ctype in subst P (sym (get_or_past file.types n no_type ge)) refl;
    inside = λ g k n b. count_inside g k n (entry_of file n).ctype refl b;
  }

  pub cells_open : (n : ℕ) → cells_of_type file n ≡ count_by file (cells_of_type file) (entry_of file n).ctype
  unfolding cells_by_depth
  cells_open n = opens_at file h ℕ (cell_count file) cells_by_depth n

  abstract_inside : (g k : ℕ → ℕ) (n : ℕ) (t : CType) → (entry_of file n).ctype ≡ t → ((m : ℕ) → h.rank m < h.rank n → g m ≡ k m) → abstract_by file g t ≡ abstract_by file k t
  abstract_inside g k n Types.Void e b = refl
  abstract_inside g k n (Types.Int t) e b = refl
  abstract_inside g k n (Types.Pointer q) e b = refl
  abstract_inside g k n (Types.Array element c) e b = ap (λ x. cond (is_smashed c) x (c * x)) (b element (h.elements n element c e))
  abstract_inside g k n (Types.Struct s) e b = same_sums g k (structure_in file s).members (λ i d l. b (get_or (structure_in file s).members i d).part.of.number (h.members n s e i d l))

  abstracts_by_depth : IsByDepth file h ℕ (abstract_count file)
  unfolding abstract_count
  abstracts_by_depth = record {
    step = λ g n. abstract_by file g (entry_of file n).ctype;
    opened = λ d n. refl;
    outside = λ g n ge. let P : TypeEntry → Type 0 = λ e. 0 ≡ abstract_by file g e.ctype in subst P (sym (get_or_past file.types n no_type ge)) refl;
    inside = λ g k n b. abstract_inside g k n (entry_of file n).ctype refl b;
  }

  pub abstract_cells_open : (n : ℕ) → abstract_cells_of_type file n ≡ abstract_by file (abstract_cells_of_type file) (entry_of file n).ctype
  unfolding abstracts_by_depth
  abstract_cells_open n = opens_at file h ℕ (abstract_count file) abstracts_by_depth n

  -- ## Cells

  same_members : {B : Type 0} (g k : ℕ → ℕ → List B) (count : ℕ → ℕ) (ms : List Member) (start : ℕ) → All (λ m. g m.part.of.number ≡ k m.part.of.number) ms
      → in_members g count ms start ≡ in_members k count ms start
  same_members g k count [] start e = refl
  same_members g k count (m ∷ ms) start e =
      ap (λ x. x start ++ in_members g count ms (start + count m.part.of.number)) (e 0 m (omega arith))
      ∙ ap (λ x. k m.part.of.number start ++ x) (same_members g k count ms (start + count m.part.of.number) (λ i d l. e (suc i) d (omega (arith, l))))

  type_cells_inside : (g k : ℕ → ℕ → List TypeCell) (n : ℕ) (t : CType) → (entry_of file n).ctype ≡ t → ((m : ℕ) → h.rank m < h.rank n → g m ≡ k m) → (start : ℕ)
      → cells_by file g (abstract_cells_of_type file) start (entry_of file n) t ≡ cells_by file k (abstract_cells_of_type file) start (entry_of file n) t
  type_cells_inside g k n Types.Void e b start = refl
  type_cells_inside g k n (Types.Int t) e b start = refl
  type_cells_inside g k n (Types.Pointer q) e b start = refl
  type_cells_inside g k n (Types.Array element c) e b start = ap (λ x. elements x c (cond (is_smashed c) 0 (abstract_cells_of_type file element)) start) (b element (h.elements n element c e))
  type_cells_inside g k n (Types.Struct s) e b start =
      same_members g k (abstract_cells_of_type file) (structure_in file s).members start (λ i d l. b (get_or (structure_in file s).members i d).part.of.number (h.members n s e i d l))

  type_cells_by_depth : IsByDepth file h (ℕ → List TypeCell) (type_cells file)
  unfolding type_cells
  type_cells_by_depth = record {
    step = λ g n start. cells_by file g (abstract_cells_of_type file) start (entry_of file n) (entry_of file n).ctype;
    opened = λ d n. refl;
    outside = λ g n ge. fun_ext (λ start. let P : TypeEntry → Type 0 = λ e. [] ≡ cells_by file g (abstract_cells_of_type file) start e e.ctype in subst P (sym (get_or_past file.types n no_type ge)) refl);
    inside = λ g k n b. fun_ext (λ start. type_cells_inside g k n (entry_of file n).ctype refl b start);
  }

  pub type_cells_open : (n start : ℕ) → type_cells file (type_depth file) n start
      ≡ cells_by file (type_cells file (type_depth file)) (abstract_cells_of_type file) start (entry_of file n) (entry_of file n).ctype
  unfolding type_cells_by_depth
  type_cells_open n start = ap (λ x. x start) (opens_at file h (ℕ → List TypeCell) (type_cells file) type_cells_by_depth n)

  -- ## Abstract cells

  Lists : Type 0
  Lists = Bool → ℕ → ℕ → List TypeAbstract

  turned : (ℕ → Bool → ℕ → List TypeAbstract) → Bool → ℕ → ℕ → List TypeAbstract
  turned g smashed n start = g n smashed start

  abstracts_inside : (g k : ℕ → Bool → ℕ → List TypeAbstract) (n : ℕ) (t : CType) → (entry_of file n).ctype ≡ t → ((m : ℕ) → h.rank m < h.rank n → g m ≡ k m) → (smashed : Bool) (start : ℕ)
      → abstracts_by file (turned g) (cells_of_type file) smashed start (entry_of file n) t ≡ abstracts_by file (turned k) (cells_of_type file) smashed start (entry_of file n) t
  unfolding turned
  abstracts_inside g k n Types.Void e b smashed start = refl
  abstracts_inside g k n (Types.Int t) e b smashed start = refl
  abstracts_inside g k n (Types.Pointer q) e b smashed start = refl
  abstracts_inside g k n (Types.Array element c) e b smashed start =
      ap (λ x. cond (is_smashed c) (x true start) (elements (x smashed) c (cells_of_type file element) start)) (b element (h.elements n element c e))
  abstracts_inside g k n (Types.Struct s) e b smashed start =
      same_members (λ m. g m smashed) (λ m. k m smashed) (cells_of_type file) (structure_in file s).members start
      (λ i d l. ap (λ x. x smashed) (b (get_or (structure_in file s).members i d).part.of.number (h.members n s e i d l)))

  by_number : ℕ → ℕ → Bool → ℕ → List TypeAbstract
  by_number depth n smashed start = type_abstracts file depth smashed n start

  type_abstracts_by_depth : IsByDepth file h (Bool → ℕ → List TypeAbstract) by_number
  unfolding by_number turned type_abstracts
  type_abstracts_by_depth = record {
    step = λ g n smashed start. abstracts_by file (turned g) (cells_of_type file) smashed start (entry_of file n) (entry_of file n).ctype;
    opened = λ d n. refl;
    outside = λ g n ge. fun_ext (λ smashed. fun_ext (λ start.
        let P : TypeEntry → Type 0 = λ e. [] ≡ abstracts_by file (turned g) (cells_of_type file) smashed start e e.ctype in subst P (sym (get_or_past file.types n no_type ge)) refl));
    inside = λ g k n b. fun_ext (λ smashed. fun_ext (λ start. abstracts_inside g k n (entry_of file n).ctype refl b smashed start));
  }

  pub type_abstracts_open : (smashed : Bool) (n start : ℕ) → type_abstracts file (type_depth file) smashed n start
      ≡ abstracts_by file (type_abstracts file (type_depth file)) (cells_of_type file) smashed start (entry_of file n) (entry_of file n).ctype
  unfolding by_number turned type_abstracts_by_depth
  type_abstracts_open smashed n start = ap (λ x. x smashed start) (opens_at file h (Bool → ℕ → List TypeAbstract) by_number type_abstracts_by_depth n)
