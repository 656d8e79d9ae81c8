-- A typed file that is laid out can be laid out in its own order of functions.
use Rattle.std.specs.Prelude.{◌≡◌, ℕ, ◌<◌, List, All, refl}
use Rattle.std.proofs.Common.{sym, ap, subst, ◌∙◌}
use Rattle.layout_laws.specs.tm_typed.TypedFiles.{typed_file_tree}
use Rattle.layout_laws.specs.tm_typed.Files.{TypedFileTree}
use Rattle.layout_laws.specs.tm_laid.declared.layouts.Laid.{Laid}
use Rattle.layout_laws.specs.tm_laid.Layable.{IsLayable}
use Rattle.layout_laws.specs.tm_laid.Layouts.{LaidTree, layout_of, laid_tree}
use Rattle.operation_laws.specs.call_graph.Orders.{IsWholeOrder}
use Rattle.operation_laws.proofs.low.typed_file_laws.Layable.{are_layable}
use Rattle.operation_laws.specs.lowering_laws.LaidFiles.{IsLaidFile}
use Rattle.operation_laws.proofs.low.lowering_laws.Founded.{file_layable}
use Rattle.program_laws.proofs.LaidCells.{limited}

-- the file of the layout of a file is that file
file_of_layout : (file : TypedFileTree) → (let l = layout_of file in l.file) ≡ file
unfolding layout_of
file_of_layout file = refl

pub laid_layable : (laid : LaidTree) → IsLaidFile laid → (order : List ℕ)
    → (let file = laid.file in IsWholeOrder file.calls order) → IsLayable laid.file order
laid_layable laid is order whole =
    let limits = limited laid is in
    let same : laid.file ≡ is.file = ap (λ (l : LaidTree). l.file) limits.whole ∙ file_of_layout is.file in
    let own : IsWholeOrder (let file = is.file in file.calls) order =
    subst (λ (file : TypedFileTree). IsWholeOrder file.calls order) same whole in
    let found = file_layable is.main is.items is.file is.typed in
    let layable : IsLayable is.file found.0 = found.1 in
    let many = layable.graph in
    subst (λ (file : TypedFileTree). IsLayable file order) (sym same)
    (are_layable is.main is.items is.file order is.typed own.callees_first
    (subst (λ n. All (λ f. f < n) order) many own.within)
    (λ f lt. own.whole f (subst (λ n. f < n) (sym many) lt)))

pub files_layable : (laid : Laid) → IsLaidFile (laid_tree laid)
    → (let file = typed_file_tree laid.file in IsWholeOrder file.calls laid.file.order.items)
    → IsLayable (typed_file_tree laid.file) laid.file.order.items
files_layable laid is whole = laid_layable (laid_tree laid) is laid.file.order.items whole
