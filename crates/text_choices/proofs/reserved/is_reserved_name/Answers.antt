use Rattle.std.proofs.Common.{refl}
use Rattle.std.specs.Prelude.{codes}
use Rattle.text_choices.specs.Texts.{of_library, builtin, synchronised, atomic}
use Rattle.text_choices.proofs.DeclaredLemmas.{some_front, no_front, library_only}
use Rattle.text_choices.proofs.reserved.is_reserved_name.Goals as goal

pub returns-then-begins_with : goal.returns-then-begins_with
returns-then-begins_with c =
    let w = some_front c.args.name.now (codes "__builtin_") c.as_slice.result.now c.begins_with.result c.as_slice.ensures c.begins_with.ensures c.if-begins_with.true in
    (λ _. builtin w.0 w.1, λ _. refl)

pub returns-then-begins_with-2 : goal.returns-then-begins_with-2
returns-then-begins_with-2 c =
    let w = some_front c.args.name.now (codes "__sync_") c.as_slice-2.result.now c.begins_with-2.result c.as_slice-2.ensures c.begins_with-2.ensures c.if-begins_with-2.true in
    (λ _. synchronised w.0 w.1, λ _. refl)

pub returns-then-begins_with-3 : goal.returns-then-begins_with-3
returns-then-begins_with-3 c =
    let w = some_front c.args.name.now (codes "__atomic_") c.as_slice-3.result.now c.begins_with-3.result c.as_slice-3.ensures c.begins_with-3.ensures c.if-begins_with-3.true in
    (λ _. atomic w.0 w.1, λ _. refl)

pub returns : goal.returns
returns c =
    let text = c.args.name.now in
    let a = no_front text (codes "__builtin_") c.as_slice.result.now c.begins_with.result c.as_slice.ensures c.begins_with.ensures c.if-begins_with.false in
    let b = no_front text (codes "__sync_") c.as_slice-2.result.now c.begins_with-2.result c.as_slice-2.ensures c.begins_with-2.ensures c.if-begins_with-2.false in
    let d = no_front text (codes "__atomic_") c.as_slice-3.result.now c.begins_with-3.result c.as_slice-3.ensures c.begins_with-3.ensures c.if-begins_with-3.false in
    (λ h. of_library (c.is_of_library.ensures.0 h), λ n. c.is_of_library.ensures.1 (library_only text a b d n))
