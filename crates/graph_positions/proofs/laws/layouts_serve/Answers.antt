use Rattle.std.proofs.Common.{◌≡◌, ℕ, List, ap, sym, subst}
use Rattle.std.specs.Prelude.{Ok}
use Rattle.tm_laid.specs.tm_typed.declared.files.TypedFile.{TypedFile}
use Rattle.tm_laid.specs.tm_typed.TypedFiles.{typed_file_tree}
use Rattle.tm_laid.specs.tm_typed.Files.{TypedFileTree}
use Rattle.tm_laid.specs.declared.layouts.Laid.{Laid}
use Rattle.tm_laid.specs.declared.scales.Scale.{Scale}
use Rattle.tm_laid.specs.Layouts.{LaidTree, laid_tree, layout_of, laid_out}
use Rattle.tm_laid.specs.Layable.{IsLayable}
use Rattle.layout_laws.proofs.Kept.{limits_kept}
use Rattle.graph_positions.specs.Layouts.{IsServing}
use Rattle.graph_positions.proofs.laws.layouts_serve.Goals as goal

same_file : (file : TypedFileTree) (laid : LaidTree) → laid ≡ layout_of file → laid.file ≡ file
unfolding layout_of
same_file file laid e = ap (λ l. l.file) e

serve : (scale : Scale) (typed : TypedFile) (laid : Laid) → IsLayable (typed_file_tree typed) typed.order.items → laid_out scale (typed_file_tree typed) ≡ Ok (laid_tree laid)
    → laid.file.order.items ≡ typed.order.items → IsServing laid
serve scale typed laid layable out order =
    let kept = limits_kept scale (typed_file_tree typed) (laid_tree laid) out in
    let same : typed_file_tree laid.file ≡ typed_file_tree typed = same_file (typed_file_tree typed) (laid_tree laid) kept.whole in
    record {
      layable = subst (λ (f : TypedFileTree). IsLayable f laid.file.order.items) (sym same) (subst (λ (os : List ℕ). IsLayable (typed_file_tree typed) os) (sym order) layable);
      few = kept.cells;
    }

pub returns : goal.returns
returns c = serve
