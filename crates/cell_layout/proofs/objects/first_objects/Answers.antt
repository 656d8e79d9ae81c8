use Rattle.std.proofs.Common.{◌≡◌, ◌+◌, ◌∙◌, ℕ, List, [], ◌∷◌, ◌++◌, length, drop, get_or, ap, sym, append_assoc}
use Rattle.std.specs.Prelude.{None}
use Rattle.std.proofs.lemmas.List.{at_drop_more}
use Rattle.tm_typed.specs.declared.files.LocalEntry.{LocalEntry}
use Rattle.tm_typed.specs.TypedFiles.{typed_file_tree}
use Rattle.tm_laid.specs.declared.paths.CallPath.{CallPath}
use Rattle.tm_laid.specs.Paths.{own_objects, first_objects_of}
use Rattle.cell_layout.proofs.objects.first_objects.Goals as goal

absent : CallPath
absent = record { body = 0; function = 0; caller = None; paths = 0 }

pub loop-path-preserved : goal.loop-path-preserved
unfolding absent
loop-path-preserved c =
    let file = typed_file_tree c.args.file.now in
    let paths : List CallPath = c.args.paths.now in
    let i : ℕ = c.loop-path.path-index in
    let x : CallPath = get_or paths i absent in
    let object : ℕ = c.loop-path.object in
    let before : List ℕ = c.loop-path.firsts.items in
    let rest : List CallPath = drop (i + 1) paths in
    let next = c.in_ok-object.object in
    let further : next ≡ object + own_objects file x.function =
    c.in_ok-object.ensures ∙ ap (λ (ls : List LocalEntry). object + length ls) c.locals_in.ensures in
    ap (λ xs. xs ++ first_objects_of file next rest) c.in_ok-push.ensures.items
    ∙ append_assoc before (object ∷ []) (first_objects_of file next rest)
    ∙ ap (λ n. before ++ object ∷ first_objects_of file n rest) further
    ∙ ap (λ xs. before ++ xs) (sym (at_drop_more (first_objects_of file object) paths i absent c.loop-path-test.true))
    ∙ c.loop-path.invariant
