-- Lists of cells to which one more is put.
use Rattle.std.specs.Prelude.{◌≡◌, ℕ, zero, suc, ◌==◌, ◌||◌, true, false, List, [], ◌∷◌, ◌++◌, length}
use Rattle.std.proofs.Common.{subst, ap, sym, inl, inr, arith}
use Rattle.std.proofs.lemmas.Bool.{eqb-true}
use Rattle.tm_laid.specs.Layouts.{LaidTree}
use Rattle.cell_placings.specs.CellLists.{is_in, cells_at}
use Rattle.cell_placings.proofs.Members.{or_cases, or_right}
use Rattle.cell_touches.specs.Touches.{Sees, AreSeen}

-- what holds of each list, and of one more, holds of each list with this one
pub each_pushed : (P : List ℕ → Type 0) (lists : List (List ℕ)) (more : List ℕ) → ((k : ℕ) → P (cells_at lists k))
    → P [] → P more → (k : ℕ) → P (cells_at (lists ++ more ∷ []) k)
each_pushed P [] more each none last zero = last
each_pushed P [] more each none last (suc k) = none
each_pushed P (xs ∷ lists) more each none last zero = each 0
each_pushed P (xs ∷ lists) more each none last (suc k) =
    each_pushed P lists more (λ n. each (suc n)) none last k

-- the same of two rows of lists
pub both_pushed : (R : List ℕ → List ℕ → Type 0) (one other : List (List ℕ)) (x y : List ℕ)
    → ((k : ℕ) → R (cells_at one k) (cells_at other k)) → R [] [] → R x y
    → length one ≡ length other → (k : ℕ) → R (cells_at (one ++ x ∷ []) k) (cells_at (other ++ y ∷ []) k)
both_pushed R [] [] x y each none last same zero = last
both_pushed R [] [] x y each none last same (suc k) = none
both_pushed R [] (o ∷ other) x y each none last same k = absurd cc
both_pushed R (o ∷ one) [] x y each none last same k = absurd cc
both_pushed R (a ∷ one) (b ∷ other) x y each none last same zero = each 0
both_pushed R (a ∷ one) (b ∷ other) x y each none last same (suc k) =
    both_pushed R one other x y (λ n. each (suc n)) none last (omega (arith, same)) k

-- the same of two rows of lists that are these
pub both_moved : (R : List ℕ → List ℕ → Type 0) (one other left right : List (List ℕ)) → one ≡ left → other ≡ right
    → ((k : ℕ) → R (cells_at left k) (cells_at right k)) → (k : ℕ) → R (cells_at one k) (cells_at other k)
both_moved R one other left right is too each =
    subst (λ ls. (k : ℕ) → R (cells_at ls k) (cells_at other k)) (sym is)
    (subst (λ ls. (k : ℕ) → R (cells_at left k) (cells_at ls k)) (sym too) each)

-- what holds of each cell of a list, and of one more, holds of each cell of the list with this one
pub all_pushed : (P : ℕ → Type 0) (xs : List ℕ) (y : ℕ) → ((x : ℕ) → is_in xs x ≡ true → P x) → P y
    → (x : ℕ) → is_in (xs ++ y ∷ []) x ≡ true → P x
all_pushed P [] y each last x e =
    elim (or_cases (y == x) false e) [ inl same ↦ subst P (eqb-true y x same) last | inr none ↦ absurd cc ]
all_pushed P (z ∷ xs) y each last x e = elim (or_cases (z == x) (is_in (xs ++ y ∷ []) x) e) [
  | inl same ↦ each x (ap (λ b. b || is_in xs x) same)
  | inr more ↦ all_pushed P xs y (λ w h. each w (or_right (z == w) (is_in xs w) h)) last x more
]

-- the body sees the cells of one more list
pub seen_pushed : (laid : LaidTree) (body : ℕ) (lists : List (List ℕ)) (more : List ℕ) → AreSeen laid body lists
    → ((x : ℕ) → is_in more x ≡ true → Sees laid body x) → AreSeen laid body (lists ++ more ∷ [])
seen_pushed laid body lists more each last =
    each_pushed (λ xs. (x : ℕ) → is_in xs x ≡ true → Sees laid body x) lists more each (λ x e. absurd cc) last
