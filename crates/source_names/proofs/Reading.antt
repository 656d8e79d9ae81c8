-- A type of which others are made is read to its end.
use Rattle.std.proofs.Common.{◌≡◌, ℕ, zero, suc, ◌+◌, ◌-◌, ◌<◌, true, refl, ap, sym, ◌∙◌, arith}
use Rattle.std.proofs.lemmas.Bool.{true≢false}
use Rattle.tm_typed.specs.declared.types.CType.{CType}
use Rattle.tm_typed.specs.declared.types.CType.TheVariants as Types
use Rattle.tm_typed.specs.Files.{TypedFileTree}
use Rattle.tm_laid.specs.TypeCells.{entry_of}
use Rattle.source_names.specs.TypeWords.{Outside, one_read, all_read}
use Rattle.source_names.specs.reading.Suffixes.{is_base}

one_stays : (o : Outside) (t : CType) → is_base t ≡ true → one_read o t ≡ o
one_stays o Types.Void e = refl
one_stays o (Types.Int t) e = refl
one_stays o (Types.Struct k) e = refl
one_stays o (Types.Pointer q) e = absurd (true≢false (sym e))
one_stays o (Types.Array n m) e = absurd (true≢false (sym e))

all_stays : (file : TypedFileTree) (depth : ℕ) (o : Outside) → is_base (entry_of file o.left.number).ctype ≡ true
    → all_read file depth o ≡ o
all_stays file zero o e = refl
all_stays file (suc depth) o e =
    ap (all_read file depth) (one_stays o (entry_of file o.left.number).ctype e) ∙ all_stays file depth o e

-- nothing is read of a type of which others are made
pub stops : (file : TypedFileTree) (depth : ℕ) (t : CType) (o full : Outside)
    → t ≡ (entry_of file o.left.number).ctype → is_base t ≡ true → all_read file depth o ≡ full → o ≡ full
stops file depth t o full told base e =
    sym (all_stays file depth o (ap is_base (sym told) ∙ base)) ∙ e

-- one pointer or array more is read
pub goes_on : (file : TypedFileTree) (all i : ℕ) (t : CType) (o more full : Outside) → i < all
    → t ≡ (entry_of file o.left.number).ctype → more ≡ one_read o t → all_read file (all - i) o ≡ full
    → all_read file (all - (i + 1)) more ≡ full
goes_on file all i t o more full below told read e =
    let left : all - i ≡ suc (all - (i + 1)) = omega arith in
    ap (all_read file (all - (i + 1))) (read ∙ ap (one_read o) told) ∙ sym (ap (λ n. all_read file n o) left) ∙ e
