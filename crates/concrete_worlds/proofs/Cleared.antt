-- Cells that are cleared, one after the other.
use Rattle.std.proofs.Common.{◌≡◌, ◌≢◌, ℕ, zero, suc, ◌+◌, ◌≤◌, refl, ap, ◌∙◌, true, false, ◌&&◌, if◌then◌else◌, List, [], ◌∷◌, slice_set, arith, nat_lt, nat_le}
use Rattle.std.proofs.lemmas.Bool.Decides.{nat_tests}
use Rattle.tm_laid.specs.Layouts.{LaidTree, object_at, cell_at}
use Rattle.concrete_steps.specs.declared.worlds.Content.{Content}
use Rattle.concrete_steps.specs.Worlds.{each_from, cleared_content}
use Rattle.concrete_worlds.specs.reading.Clearing.{part_cleared, cleared_cells, object_cleared}

-- ## Tests

none_within : (a c : ℕ) → (nat_le a c && nat_lt c (a + 0)) ≡ false
none_within a c = grind (arith, nat_tests)

last_within : (a n : ℕ) → (nat_le a (a + n) && nat_lt (a + n) (a + (n + 1))) ≡ true
last_within a n = grind (arith, nat_tests)

others_within : (a n c : ℕ) → c ≢ a + n → (nat_le a c && nat_lt c (a + (n + 1))) ≡ (nat_le a c && nat_lt c (a + n))
others_within a n c ne = grind (arith, nat_tests)

-- ## Lists

each_same : (f g : ℕ → Content → Content) (j : ℕ) (xs : List Content) → ((c : ℕ) (x : Content) → j ≤ c → f c x ≡ g c x)
    → each_from f j xs ≡ each_from g j xs
each_same f g j [] h = refl
each_same f g j (x ∷ xs) h =
    ap (λ z. z ∷ each_from f (suc j) xs) (h j x (omega arith))
    ∙ ap (λ z. g j x ∷ z) (each_same f g (suc j) xs (λ c y l. h c y (omega (arith, l))))

each_kept : (j : ℕ) (xs : List Content) → each_from (λ c x. x) j xs ≡ xs
each_kept j [] = refl
each_kept j (x ∷ xs) = ap (λ z. x ∷ z) (each_kept (suc j) xs)

-- two ways to change the elements that differ at one number, where the first gives this
each_set : (f g : ℕ → Content → Content) (y : Content) (i j d : ℕ) (xs : List Content) → i ≡ j + d
    → ((x : Content) → f i x ≡ y) → ((c : ℕ) (x : Content) → c ≢ i → f c x ≡ g c x)
    → each_from f j xs ≡ slice_set (each_from g j xs) d y
each_set f g y i j d [] e here there = refl
each_set f g y i j zero (x ∷ xs) e here there =
    ap (λ z. z ∷ each_from f (suc j) xs) (ap (λ z. f z x) (let q : j ≡ i = omega (arith, e) in q) ∙ here x)
    ∙ ap (λ z. y ∷ z) (each_same f g (suc j) xs (λ c x l. there c x (omega (arith, l, e))))
each_set f g y i j (suc d) (x ∷ xs) e here there =
    ap (λ z. z ∷ each_from f (suc j) xs) (there j x (omega (arith, e)))
    ∙ ap (λ z. g j x ∷ z) (each_set f g y i (suc j) d xs (omega (arith, e)) here there)

-- ## Objects

pub clear_none : (laid : LaidTree) (first : ℕ) (xs : List Content) → cleared_cells laid first 0 xs ≡ xs
unfolding cleared_cells
clear_none laid first xs =
    each_same (part_cleared laid first 0) (λ c x. x) 0 xs
    (λ c x l. ap (λ b. if b then cleared_content (cell_at laid c).scalar else x) (none_within first c))
    ∙ each_kept 0 xs

pub clear_more : (laid : LaidTree) (first n : ℕ) (xs : List Content)
    → cleared_cells laid first (n + 1) xs
    ≡ slice_set (cleared_cells laid first n xs) (first + n) (cleared_content (cell_at laid (first + n)).scalar)
unfolding cleared_cells
clear_more laid first n xs =
    each_set (part_cleared laid first (n + 1)) (part_cleared laid first n) (cleared_content (cell_at laid (first + n)).scalar)
    (first + n) 0 (first + n) xs (omega arith)
    (λ x. ap (λ b. if b then cleared_content (cell_at laid (first + n)).scalar else x) (last_within first n))
    (λ c x ne. ap (λ b. if b then cleared_content (cell_at laid c).scalar else x) (others_within first n c ne))

pub of_object : (laid : LaidTree) (o : ℕ) (xs : List Content)
    → cleared_cells laid (object_at laid o).first_cell (object_at laid o).cells xs ≡ object_cleared laid o xs
unfolding cleared_cells
of_object laid o xs = refl
