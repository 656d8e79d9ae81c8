use Rattle.std.proofs.Common.{◌≡◌, ◌+◌, ◌<◌, ◌∙◌, ℕ, List, [], ◌∷◌, ◌++◌, length, drop, get_or, ap, sym}
use Rattle.std.proofs.Common.{append_assoc, false, arith}
use Rattle.std.specs.Prelude.{Some}
use Rattle.std.proofs.lemmas.List.{at_drop_more}
use Rattle.tm_typed.specs.declared.files.LocalEntry.{LocalEntry}
use Rattle.tm_typed.specs.TypedFiles.{typed_file_tree}
use Rattle.tm_laid.specs.declared.objects.DeclaredObject.{DeclaredObject}
use Rattle.tm_laid.specs.Paths.{locals_of}
use Rattle.tm_laid.specs.Objects.{local_objects}
use Rattle.cell_layout.proofs.objects.push_locals.Goals as goal

absent : LocalEntry
absent = record {
  name = record { start = 0; length = 0 };
  place = record { line = 0; col = 0 };
  of = record {
    number = 0;
    constant = false;
    volatile = false;
  };
}

pub loop-local-preserved : goal.loop-local-preserved
unfolding absent
loop-local-preserved c =
    let path : ℕ = c.args.path in
    let locals = locals_of (typed_file_tree c.args.file.now) c.args.function in
    let i : ℕ = c.loop-local.local-index in
    let x : LocalEntry = get_or c.locals_in-local-items.result.now i absent in
    let before : List DeclaredObject = c.loop-local.objects.items in
    let rest = local_objects path (drop (i + 1) locals) in
    let e : c.locals_in-local-items.result.now ≡ locals = c.locals_in-local-items.ensures in
    let lt : i < length locals = (let a = c.loop-local-test.true in let b = ap length e in omega (arith, a, b)) in
    let is : x ≡ get_or locals i absent = ap (λ (xs : List LocalEntry). get_or xs i absent) e in
    ap (λ xs. xs ++ rest) c.in_ok-push.ensures.items
    ∙ append_assoc before (record { name = x.name; place = x.place; of = x.of; owner = Some path } ∷ []) rest
    ∙ ap (λ (y : LocalEntry). before ++ record { name = y.name; place = y.place; of = y.of; owner = Some path }
    ∷ rest) is
    ∙ ap (λ xs. before ++ xs) (sym (at_drop_more (local_objects path) locals i absent lt))
    ∙ c.loop-local.invariant
