use Rattle.std.proofs.Common.{◌≡◌, ℕ, ◌+◌, true, List, [], ◌∷◌, ◌++◌, length, sym, ◌∙◌, subst, arith}
use Rattle.std.proofs.lemmas.List.{length_push}
use Rattle.tm_laid.specs.Layouts.{LaidTree}
use Rattle.cell_placings.specs.CellLists.{is_in, cells_at}
use Rattle.cell_touches.specs.Touches.{AreSeen, IsWithin}
use Rattle.cell_touches.proofs.Pushed.{both_pushed, both_moved, seen_pushed}
use Rattle.cell_touches.proofs.touching.cells_of_copies.Goals as goal

pub loop-copy-preserved : goal.loop-copy-preserved
loop-copy-preserved c =
    let n = c.loop-copy.copy-index in
    let touched = c.loop-copy.touched.items in
    let carried = c.loop-copy.carried.items in
    let looked = c.loop-copy.looked.items in
    let t = c.in_ok-both.both.touched in
    let r = c.in_ok-both.both.carried in
    let l = c.in_ok-both.both.looked in
    let before = c.loop-copy.invariant in
    let same : length touched ≡ length looked = before.0 ∙ sym before.1.1.0 in
    let pushed : (xs : List (List ℕ)) (x : List ℕ) → length xs ≡ n → length (xs ++ x ∷ []) ≡ n + 1 =
    λ xs x e. (let m = length_push xs x in omega (arith, m, e)) in
    let within : (k : ℕ) → IsWithin (cells_at (touched ++ t ∷ []) k) (cells_at (looked ++ l ∷ []) k) =
    both_pushed IsWithin touched looked t l before.1.1.1.0 (λ x e. e) c.in_ok-both.ensures.within same in
    let seen : (laid : LaidTree) (body : ℕ) → AreSeen laid body c.args.cells.now
    → AreSeen laid body (looked ++ l ∷ []) =
    λ laid body all. seen_pushed laid body looked l (before.1.1.1.1.0 laid body all)
    (λ x e. all _ x (subst (λ ys. is_in ys x ≡ true) c.cells_at.ensures (c.in_ok-both.ensures.among x e))) in
    let seen_carried : (laid : LaidTree) (body : ℕ) → AreSeen laid body c.args.cells.now
    → AreSeen laid body (carried ++ r ∷ []) =
    λ laid body all. seen_pushed laid body carried r (before.1.1.1.1.1 laid body all)
    (λ x e. all _ x (subst (λ ys. is_in ys x ≡ true) c.cells_at.ensures (c.in_ok-both.ensures.carried x e))) in (
      subst (λ ts. length ts ≡ n + 1) (sym c.in_ok-push.ensures.items) (pushed touched t before.0),
      (
        subst (λ rs. length rs ≡ n + 1) (sym c.in_ok-push-2.ensures.items) (pushed carried r before.1.0),
        (
          subst (λ ls. length ls ≡ n + 1) (sym c.in_ok-push-3.ensures.items) (pushed looked l before.1.1.0),
          (
            both_moved IsWithin _ _ _ _ c.in_ok-push.ensures.items c.in_ok-push-3.ensures.items within,
            (
              λ laid body all. subst (λ ls. AreSeen laid body ls) (sym c.in_ok-push-3.ensures.items)
                  (seen laid body all),
              λ laid body all. subst (λ rs. AreSeen laid body rs) (sym c.in_ok-push-2.ensures.items)
                  (seen_carried laid body all),
            ),
          ),
        ),
      ),
    )
