-- Sizes that are known.
use Rattle.std.proofs.Common.{◌≡◌, ℕ, zero, suc, List, [], ◌∷◌, ◌++◌, set, sym, subst}
use Rattle.std.specs.Prelude.{Option, Some, None, slice_get}
use Rattle.tm_laid.specs.Layouts.{LaidTree}
use Rattle.body_builder.specs.declared.fragments.Size.{Size}
use Rattle.body_builder.specs.Fragments.{AreSizes, IsSize}

pub nothing_known : (laid : LaidTree) → AreSizes laid []
nothing_known laid path s e = absurd cc

-- a size that is found behind one that is not known is found before it
before_last : (sizes : List (Option Size)) (path : ℕ) (s : Size) → slice_get (sizes ++ None ∷ []) path ≡ Some (Some s)
    → slice_get sizes path ≡ Some (Some s)
before_last [] zero s e = absurd cc
before_last [] (suc path) s e = absurd cc
before_last (x ∷ xs) zero s e = e
before_last (x ∷ xs) (suc path) s e = before_last xs path s e

pub one_unknown : (laid : LaidTree) (sizes more : List (Option Size)) → AreSizes laid sizes
    → more ≡ sizes ++ None ∷ [] → AreSizes laid more
one_unknown laid sizes more h e = subst (AreSizes laid) (sym e) (λ path s f. h path s (before_last sizes path s f))

-- at some place one of them is this, and the others are as they were
found_in : (P : ℕ → Size → Type 0) (sizes : List (Option Size)) (place : ℕ) (size : Size)
    → ((path : ℕ) (s : Size) → slice_get sizes path ≡ Some (Some s) → P path s) → P place size
    → (path : ℕ) (s : Size) → slice_get (set sizes place (Some size)) path ≡ Some (Some s) → P path s
found_in P [] place size h one path s e = absurd cc
found_in P (x ∷ xs) zero size h one zero s e = subst (P zero) (let z : size ≡ s = cc in z) one
found_in P (x ∷ xs) zero size h one (suc path) s e = h (suc path) s e
found_in P (x ∷ xs) (suc place) size h one zero s e = h zero s e
found_in P (x ∷ xs) (suc place) size h one (suc path) s e =
    found_in (λ k t. P (suc k) t) xs place size (λ k t f. h (suc k) t f) one path s e

pub one_known : (laid : LaidTree) (sizes more : List (Option Size)) (path : ℕ) (size : Size) → AreSizes laid sizes
    → IsSize laid path size → more ≡ set sizes path (Some size) → AreSizes laid more
one_known laid sizes more path size h one e =
    subst (AreSizes laid) (sym e) (found_in (IsSize laid) sizes path size h one)
