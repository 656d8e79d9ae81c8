use Rattle.std.proofs.Common.{◌≡◌, ap, sym, subst, ◌∙◌, refl}
use Rattle.tm_typed.specs.Files.{TypedFileTree}
use Rattle.tm_typed.specs.TypedFiles.{typed_file_tree}
use Rattle.tm_laid.specs.Layouts.{LaidTree, laid_tree, layout_of}
use Rattle.tm_laid.specs.Layable.{IsLayable}
use Rattle.layout_laws.proofs.Kept.{limits_kept}
use Rattle.concrete_worlds.proofs.laws.laid_files_have_worlds.Goals as goal

file_of : (file : TypedFileTree) → (layout_of file).file ≡ file
unfolding layout_of
file_of file = refl

pub returns : goal.returns
returns c = λ scale file laid e layable.
    let kept = limits_kept scale file (laid_tree laid) e in
    let same : typed_file_tree laid.file ≡ file = ap (λ (z : LaidTree). z.file) kept.whole ∙ file_of file in
    record {
      runnable = record {
        layable = subst (λ z. IsLayable z laid.file.order.items) (sym same) layable;
        few = kept.cells;
      };
      tasks = kept.tasks;
      mutexes = kept.mutexes;
    }
