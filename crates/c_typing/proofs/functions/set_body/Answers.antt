use Rattle.std.proofs.Common.{◌≡◌, ◌<◌, ◌∙◌, ap, sym, map, length, get_or}
use Rattle.std.specs.Prelude.{slice_set, Some}
use Rattle.std.proofs.lemmas.List.{map-set, get_or-map}
use Rattle.tm_typed.specs.declared.files.TypedFunction.{TypedFunction}
use Rattle.tm_typed.specs.TypedFiles.{typed_body_tree, typed_function_tree}
use Rattle.tm_typed.specs.Files.{TypedFunctionTree, no_typed_function}
use Rattle.c_typing.proofs.functions.set_body.Goals as goal

pub returns-then-index-functions : goal.returns-then-index-functions
returns-then-index-functions c =
    let fs = c.args.functions.now in
    let n = c.args.index in
    let x : TypedFunction = c.index-functions-index.result in
    let h : n < length fs = c.if-index-functions.true in
    let e = get_or-map typed_function_tree fs n x no_typed_function h in
    map-set typed_function_tree fs n (record (get_or fs n x) { place = c.args.place; body = Some c.args.body })
    ∙ ap (λ (t : TypedFunctionTree). slice_set (map typed_function_tree fs) n (record t { place = c.args.place; body = Some (typed_body_tree c.args.body) })) (sym e)
