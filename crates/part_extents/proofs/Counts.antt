-- Cells of types, as the code counts them.
use Rattle.std.proofs.Common.{◌≡◌, refl, ap, sym, ◌∙◌, ℕ, suc, ◌-◌, ◌<◌, arith}
use Rattle.tm_typed.specs.declared.types.CType.{CType}
use Rattle.tm_typed.specs.Files.{TypedFileTree}
use Rattle.tm_laid.specs.TypeCells.{entry_of, count_by, cell_count}

module _ (file : TypedFileTree) where
  counted : (depth n : ℕ) → cell_count file (suc depth) n ≡ count_by file (cell_count file depth) (entry_of file n).ctype
  unfolding cell_count
  counted depth n = refl

  pub none_counted : (depth n : ℕ) → depth ≡ 0 → cell_count file depth n ≡ 0
  unfolding cell_count
  none_counted depth n h = rw h refl

  pub count_opened : (depth n : ℕ) (t : CType) → 0 < depth → t ≡ (entry_of file n).ctype
      → cell_count file depth n ≡ count_by file (cell_count file (depth - 1)) t
  count_opened depth n t h e =
      let d : depth ≡ suc (depth - 1) = omega arith in
      ap (λ x. cell_count file x n) d ∙ counted (depth - 1) n ∙ ap (count_by file (cell_count file (depth - 1))) (sym e)
