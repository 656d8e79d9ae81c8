-- What is laid out of a typed file has worlds.
use Rattle.std.proofs.Common.{◌≡◌, ap, sym, subst, ◌∙◌, ℕ, ◌<◌, List, length, Option, Ok}
use Rattle.std.specs.Prelude.{All, IfSome, IfOk, Result, Err}
use Rattle.tm_terms.specs.declared.refusals.Fail.{Fail}
use Rattle.tm_terms.specs.declared.tokens.Name.{Name}
use Rattle.tm_trees.specs.FileTrees.{ItemTree}
use Rattle.tm_laid.specs.tm_typed.declared.files.TypedFile.{TypedFile}
use Rattle.tm_laid.specs.tm_typed.Files.{TypedFileTree, IsTyped}
use Rattle.tm_laid.specs.tm_typed.TypedFiles.{typed_file_tree}
use Rattle.tm_laid.specs.declared.layouts.Laid.{Laid}
use Rattle.tm_laid.specs.declared.scales.Scale.{Scale}
use Rattle.tm_laid.specs.Layouts.{laid_tree, laid_out, answer_of}
use Rattle.tm_laid.specs.Layable.{IsLayable}
use Rattle.c_typing.specs.call_graph.Graphs.{lists}
use Rattle.c_typing.specs.call_graph.Orders.{IsWholeOrder}
use Rattle.typed_file_laws.specs.Layouts.{AreLayable}
use Rattle.typed_file_laws.proofs.Layable.{comes}
use Rattle.lowering_laws.specs.LaidFiles.{IsLaidFile}
use Rattle.concrete_worlds.specs.Lawful.{HasWorlds}
use Rattle.concrete_worlds.specs.Laws.{LaidFilesHaveWorlds}

pub layable : AreLayable → (main : Option Name) (items : List ItemTree) (t : TypedFile) → IsTyped main items (Ok (typed_file_tree t)) → IsWholeOrder (lists t.calls.items) t.order.items → IsLayable (typed_file_tree t) t.order.items
layable laws main items t e o =
    let c = comes main items (typed_file_tree t) e in
    let same =
    ap (λ (f : TypedFileTree). length f.functions) c.is ∙ sym c.lawful.graph
    ∙ sym (ap (λ (f : TypedFileTree). length f.calls) c.is) in
    laws main items (typed_file_tree t) t.order.items e o.callees_first
    (subst (λ (n : ℕ). All (λ f. f < n) t.order.items) (sym same) o.within)
    (λ f h. o.whole f (subst (λ (n : ℕ). f < n) same h))

-- a layout that keeps the order of its file has worlds
pub worlds : LaidFilesHaveWorlds → (scale : Scale) (t : TypedFile) → IsLayable (typed_file_tree t) t.order.items → (r : Result Laid Fail)
    → IfSome (answer_of r) (λ answer. laid_out scale (typed_file_tree t) ≡ answer) → IfOk r (λ laid. laid.file.order.items ≡ t.order.items)
    → IfOk r (λ laid. HasWorlds laid)
worlds law scale t layable (Ok laid) told order =
    law scale (typed_file_tree t) laid told (subst (λ z. IsLayable (typed_file_tree t) z) (sym order) layable)
worlds law scale t layable (Err e) told order = tt

-- it is that of a typed file
pub laid_file : (scale : Scale) (main : Option Name) (items : List ItemTree) (t : TypedFile) → IsTyped main items (Ok (typed_file_tree t)) → (r : Result Laid Fail)
    → IfSome (answer_of r) (λ answer. laid_out scale (typed_file_tree t) ≡ answer) → IfOk r (λ laid. IsLaidFile (laid_tree laid))
laid_file scale main items t typed (Ok laid) told = record { main = main; items = items; file = typed_file_tree t; typed = typed; scale = scale; answered = told }
laid_file scale main items t typed (Err e) told = tt
