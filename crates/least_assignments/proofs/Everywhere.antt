-- Lists that have one value everywhere, and lists that are lent whole and put back.
use Rattle.std.proofs.Common.{◌≡◌, ◌∙◌, ℕ, zero, suc, ◌≤◌, List, ◌++◌, length, take, drop, get_or, replicate, ap, refl, arith}
use Rattle.std.proofs.lemmas.List.{drop_all, append-nil, take_all}

-- what stands at any place, behind the end too
pub same_anywhere : {X : Type 0} (x : X) (k n : ℕ) → get_or (replicate k x) n x ≡ x
same_anywhere x zero n = refl
same_anywhere x (suc k) zero = refl
same_anywhere x (suc k) (suc n) = same_anywhere x k n

-- a list of the same length put back
pub written_back : {X : Type 0} (n : ℕ) (old new : List X) → length new ≡ length old → length old ≤ n
    → take n (new ++ drop (length new) old) ≡ new
written_back n old new same le =
    ap (λ z. take n (new ++ z)) (drop_all (length new) old (omega (arith, same)))
    ∙ ap (take n) (append-nil new) ∙ take_all n new (omega (arith, same, le))
