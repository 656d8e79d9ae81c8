use Rattle.std.proofs.Common.{◌≡◌, ◌<◌, ◌∙◌, ap, sym, map, length, arith, get_or}
use Rattle.std.specs.Prelude.{slice_set}
use Rattle.std.proofs.lemmas.List.{map-set, get_or-map}
use Rattle.tm_typed.specs.declared.files.TypedStatic.{TypedStatic}
use Rattle.tm_typed.specs.States.{Static, no_static}
use Rattle.tm_typed.specs.TypedFiles.{typed_static_tree}
use Rattle.c_typing_state.proofs.statics.give.Goals as goal

pub returns-then-index-statics : goal.returns-then-index-statics
returns-then-index-statics c =
    let xs = c.args.statics.now in
    let n = c.args.index in
    let x : TypedStatic = c.index-statics-index.result in
    let h : n < length xs = c.if-index-statics.true in
    let e = get_or-map typed_static_tree xs n x no_static h in
    map-set typed_static_tree xs n (record (get_or xs n x) { given = c.args.given })
    ∙ ap (λ (s : Static). slice_set (map typed_static_tree xs) n (record s { given = c.args.given.items })) (sym e)
