-- Where types stand in objects.
use Rattle.std.proofs.Common.{◌≡◌, refl, ap, sym, ◌∙◌, ℕ, zero, suc, ◌+◌, ◌<◌, ◌≤◌, true, false, ◌&&◌, List, [], ◌∷◌, length, map, take, drop, Option, None, slice_get, arith}
use Rattle.std.specs.Prelude.{option_map}
use Rattle.std.proofs.lemmas.Option.{slice_get-map}
use Rattle.tm_typed.specs.declared.types.Scalar.{Scalar}
use Rattle.tm_typed.specs.Scopes.{cells_of}
use Rattle.tm_laid.specs.declared.cells.LaidCell.{LaidCell}
use Rattle.tm_laid.specs.TypeCells.{cells_of_type}
use Rattle.tm_laid.specs.Layable.{tables_of, IsLayable}
use Rattle.tm_laid.specs.Layouts.{LaidTree, object_at, begins_with, scalars_of_type, scalars_from}
use Rattle.tm_laid.specs.Layouts.{stands_at}
use Rattle.cell_types.specs.reading.Descents.{is_same_cell}
use Rattle.cell_types.proofs.Lists.{get_drop, get_take, past_take, begins_next, shorter, dropped_all}
use Rattle.cell_types.proofs.Types.{length_of, large, column_of}

abbrev cells_between : ℕ → ℕ → ℕ → List LaidCell → List Scalar
cells_between first n offset cells = map (λ c. c.scalar) (drop offset (take n (drop first cells)))

cell_there : (first n offset j : ℕ) (cells : List LaidCell) → offset + j < n
    → slice_get (cells_between first n offset cells) j ≡ option_map (λ (c : LaidCell). c.scalar) (slice_get cells (first + (offset + j)))
cell_there first n offset j cells h =
    slice_get-map (λ (c : LaidCell). c.scalar) (drop offset (take n (drop first cells))) j
    ∙ ap (option_map (λ (c : LaidCell). c.scalar)) (get_drop offset (take n (drop first cells)) j ∙ get_take n (drop first cells) (offset + j) h ∙ get_drop first cells (offset + j))

cell_beyond : (first n offset j : ℕ) (cells : List LaidCell) → n ≤ offset + j → slice_get (cells_between first n offset cells) j ≡ None
cell_beyond first n offset j cells h =
    slice_get-map (λ (c : LaidCell). c.scalar) (drop offset (take n (drop first cells))) j
    ∙ ap (option_map (λ (c : LaidCell). c.scalar)) (get_drop offset (take n (drop first cells)) j ∙ past_take n (drop first cells) (offset + j) h)

pub cell_inside : (laid : LaidTree) (o offset j place : ℕ) (x : Option Scalar) → offset + j < (object_at laid o).cells
    → place ≡ (object_at laid o).first_cell + (offset + j) → x ≡ option_map (λ (c : LaidCell). c.scalar) (slice_get laid.cells place)
    → x ≡ slice_get (scalars_from laid o offset) j
cell_inside laid o offset j place x h e f =
    f ∙ ap (λ z. option_map (λ (c : LaidCell). c.scalar) (slice_get laid.cells z)) e
    ∙ sym (cell_there (object_at laid o).first_cell (object_at laid o).cells offset j laid.cells h)

pub cell_outside : (laid : LaidTree) (o offset j : ℕ) → (object_at laid o).cells ≤ offset + j → None ≡ slice_get (scalars_from laid o offset) j
cell_outside laid o offset j h = sym (cell_beyond (object_at laid o).first_cell (object_at laid o).cells offset j laid.cells h)

pub no_cells : (laid : LaidTree) (o offset j : ℕ) → (object_at laid o).cells ≡ 0 → None ≡ slice_get (scalars_from laid o offset) j
no_cells laid o offset j e = cell_outside laid o offset j (omega (arith, e))

-- ## The cells one after the other

length_take : {A : Type 0} (n : ℕ) (xs : List A) → length (take n xs) ≤ length xs
length_take zero xs = omega arith
length_take (suc n) [] = omega arith
length_take (suc n) (x ∷ xs) = let e = length_take n xs in omega (arith, e)

length_dropped : {A : Type 0} (n : ℕ) (xs : List A) → length (drop n xs) ≤ length xs
length_dropped zero xs = omega arith
length_dropped (suc n) [] = omega arith
length_dropped (suc n) (x ∷ xs) = let e = length_dropped n xs in omega (arith, e)

length_mapped : {A : Type 0} {B : Type 0} (f : A → B) (xs : List A) → length (map f xs) ≡ length xs
length_mapped f [] = refl
length_mapped f (x ∷ xs) = ap suc (length_mapped f xs)

few_cells : (laid : LaidTree) (o offset : ℕ) → length (scalars_from laid o offset) ≤ length laid.cells
few_cells laid o offset =
    let a = length_mapped (λ (c : LaidCell). c.scalar) (drop offset (take (object_at laid o).cells (drop (object_at laid o).first_cell laid.cells))) in
    let b = length_dropped offset (take (object_at laid o).cells (drop (object_at laid o).first_cell laid.cells)) in
    let c = length_take (object_at laid o).cells (drop (object_at laid o).first_cell laid.cells) in
    let d = length_dropped (object_at laid o).first_cell laid.cells in
    omega (arith, a, b, c, d)

module _ (laid : LaidTree) (order : List ℕ) (h : IsLayable laid.file order) (o offset n : ℕ) where
  abbrev xs : List Scalar
  xs = scalars_from laid o offset

  abbrev ys : List Scalar
  ys = scalars_of_type laid.file n

  -- a type of more cells than there are stands nowhere
  pub too_large : 65536 < cells_of (tables_of laid.file) n → length laid.cells ≤ 65536 → stands_at laid o offset n ≡ false
  too_large l few = shorter xs ys (let a = few_cells laid o offset in let b = length_of laid.file order h n in let c = large laid.file order h n l in omega (arith, a, b, c, few))

  pub small_type : cells_of (tables_of laid.file) n ≤ 65536 → cells_of_type laid.file n ≤ 65536
  small_type s = let e = column_of laid.file order h n s in omega (arith, e, s)

  length_column : cells_of (tables_of laid.file) n ≤ 65536 → length ys ≡ cells_of (tables_of laid.file) n
  length_column s = length_of laid.file order h n ∙ column_of laid.file order h n s

  pub differs : (j : ℕ) → cells_of (tables_of laid.file) n ≤ 65536 → j < cells_of (tables_of laid.file) n
      → begins_with (drop j xs) (drop j ys) ≡ stands_at laid o offset n → is_same_cell (slice_get xs j) (slice_get ys j) ≡ false → stands_at laid o offset n ≡ false
  differs j s lt inv e =
      sym inv ∙ begins_next xs ys j (let a = length_column s in omega (arith, lt, a)) ∙ ap (λ b. b && begins_with (drop (suc j) xs) (drop (suc j) ys)) e

  pub agrees : (j k : ℕ) → cells_of (tables_of laid.file) n ≤ 65536 → j < cells_of (tables_of laid.file) n → k ≡ suc j
      → begins_with (drop j xs) (drop j ys) ≡ stands_at laid o offset n → is_same_cell (slice_get xs j) (slice_get ys j) ≡ true
      → begins_with (drop k xs) (drop k ys) ≡ stands_at laid o offset n
  agrees j k s lt q inv e =
      ap (λ z. begins_with (drop z xs) (drop z ys)) q
      ∙ sym (begins_next xs ys j (let a = length_column s in omega (arith, lt, a)) ∙ ap (λ b. b && begins_with (drop (suc j) xs) (drop (suc j) ys)) e) ∙ inv

  pub all_agree : (j : ℕ) → cells_of (tables_of laid.file) n ≤ 65536 → cells_of (tables_of laid.file) n ≤ j
      → begins_with (drop j xs) (drop j ys) ≡ stands_at laid o offset n → stands_at laid o offset n ≡ true
  all_agree j s le inv = sym inv ∙ dropped_all xs ys j (let a = length_column s in omega (arith, le, a))
