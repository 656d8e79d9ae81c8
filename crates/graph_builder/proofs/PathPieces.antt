-- The body of a path by the body of its function.
use Rattle.std.proofs.Common.{◌≡◌, ℕ, suc, ◌+◌, List, ap, arith}
use Rattle.tm_laid.specs.Layouts.{LaidTree}
use Rattle.body_builder.specs.concrete_steps.Places.{result_type}
use Rattle.body_builder.specs.concrete_steps.NextAction.{function_at}
use Rattle.body_builder.specs.lowering.Built.{Building, nothing_piece, function_piece, path_piece}
use Rattle.body_builder.specs.Fragments.{calls_on}

pub nothing_left : (close : List ℕ → Building → Building) (laid : LaidTree) (depth path : ℕ) (b : Building)
    → depth ≡ 0 → path_piece close laid depth path b ≡ nothing_piece b
nothing_left close laid depth path b e = ap (λ d. path_piece close laid d path b) e

pub one_call : (close : List ℕ → Building → Building) (laid : LaidTree) (depth below path : ℕ) (b : Building)
    → below + 1 ≡ depth → path_piece close laid depth path b
    ≡ function_piece (calls_on laid below path) laid path close (result_type laid (function_at laid path))
    (function_at laid path).body b
unfolding calls_on
one_call close laid depth below path b e =
    let e' : depth ≡ suc below = omega (arith, e) in
    ap (λ d. path_piece close laid d path b) e'
