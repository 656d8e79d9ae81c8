use Rattle.std.proofs.Common.{◌≡◌, ◌<◌, ◌∙◌, ap, sym, map, length, get_or}
use Rattle.std.specs.Prelude.{Bool, ◌||◌, slice_set}
use Rattle.std.proofs.lemmas.List.{map-set, get_or-map}
use Rattle.tm_typed.specs.declared.files.TypedStatic.{TypedStatic}
use Rattle.tm_typed.specs.States.{Static, no_static}
use Rattle.tm_typed.specs.TypedFiles.{typed_static_tree}
use Rattle.c_typing_state.proofs.statics.redeclare.Goals as goal

pub returns-then-index-statics : goal.returns-then-index-statics
returns-then-index-statics c =
    let xs = c.args.statics.now in
    let n = c.args.index in
    let x : TypedStatic = c.index-statics-index.result in
    let g : TypedStatic = get_or xs n x in
    let s : Static = typed_static_tree g in
    let h : n < length xs = c.if-index-statics.true in
    let e = get_or-map typed_static_tree xs n x no_static h in
    map-set typed_static_tree xs n (record g { defined = c.either-entry.result; initialised = c.either-entry-then-index-statics.result })
    ∙ ap (λ (d : Bool). slice_set (map typed_static_tree xs) n (record s { defined = d; initialised = c.either-entry-then-index-statics.result })) c.either-entry.ensures
    ∙ ap (λ (i : Bool). slice_set (map typed_static_tree xs) n (record s { defined = g.defined || c.args.defined; initialised = i })) c.either-entry-then-index-statics.ensures
    ∙ ap (λ (t : Static). slice_set (map typed_static_tree xs) n (record t { defined = t.defined || c.args.defined; initialised = t.initialised || c.args.initialised })) (sym e)
