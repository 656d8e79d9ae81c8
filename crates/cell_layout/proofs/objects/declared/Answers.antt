use Rattle.std.proofs.Common.{◌≡◌, ◌+◌, ◌∙◌, ℕ, suc, List, ◌++◌, drop, get_or, ap, sym, append_assoc, arith}
use Rattle.std.specs.Prelude.{None}
use Rattle.std.proofs.lemmas.List.{at_drop_more}
use Rattle.tm_typed.specs.TypedFiles.{typed_file_tree}
use Rattle.tm_laid.specs.declared.objects.DeclaredObject.{DeclaredObject}
use Rattle.tm_laid.specs.declared.paths.CallPath.{CallPath}
use Rattle.tm_laid.specs.Paths.{locals_of}
use Rattle.tm_laid.specs.Objects.{local_objects, path_objects}
use Rattle.cell_layout.proofs.objects.declared.Goals as goal

absent : CallPath
absent = record { body = 0; function = 0; caller = None; paths = 0 }

pub loop-path-preserved : goal.loop-path-preserved
unfolding absent
loop-path-preserved c =
    let file = typed_file_tree c.args.file.now in
    let paths : List CallPath = c.args.paths.now in
    let i : ℕ = c.loop-path.path-index in
    let x : CallPath = get_or paths i absent in
    let n : ℕ = c.loop-path.number in
    let before : List DeclaredObject = c.loop-path.objects.items in
    let rest : List CallPath = drop (i + 1) paths in
    let same : n ≡ i = c.loop-path.invariant.0 in
    let further : n + 1 ≡ suc n = omega arith in (
      omega (arith, same),
      ap (λ xs. xs ++ path_objects file (n + 1) rest) c.in_ok-push_locals.ensures
          ∙ append_assoc before (local_objects n (locals_of file x.function)) (path_objects file (n + 1) rest)
          ∙ ap (λ k. before ++ (local_objects n (locals_of file x.function) ++ path_objects file k rest)) further
          ∙ ap (λ xs. before ++ xs) (sym (at_drop_more (path_objects file n) paths i absent c.loop-path-test.true))
          ∙ c.loop-path.invariant.1,
    )
