use Rattle.std.proofs.Common.{◌≡◌, ◌∙◌, ◌<◌, refl, ap, sym, subst, List, length, get_or, arith}
use Rattle.tm_typed.specs.TypedFiles.{typed_file_tree}
use Rattle.tm_typed.specs.declared.files.TypedStatic.{TypedStatic}
use Rattle.tm_laid.specs.declared.objects.Initial.{Initial}
use Rattle.cell_layout.proofs.StaticSteps.{AreHeld, held_small, held_more, held_all}
use Rattle.cell_layout.proofs.initial.initial_cells.Goals as goal

pub loop-object-init : goal.loop-object-init
loop-object-init c =
    let file = typed_file_tree c.args.file.now in
    let P : List Initial → Type 0 = λ xs. AreHeld file c.args.numbers.now c.args.file.now.statics.items 0 xs in
    subst P (sym c.new-held.ensures.items) (record { whole = refl; cells = c.requires.cells; abstract_cells = c.requires.abstract_cells })

pub push_initial-requires-clause-cells : goal.push_initial-requires-clause-cells
push_initial-requires-clause-cells c =
    let e : c.deref-object-items.result.now ≡ c.args.file.now.statics.items = c.deref-object-items.ensures.value in
    let lt : c.loop-object.object-index < length c.args.file.now.statics.items = (let a = c.loop-object-test.true in let b = ap length e in omega (arith, a, b)) in
    let is : c.object-item.result ≡ get_or c.args.file.now.statics.items c.loop-object.object-index c.object-item.result =
    c.object-item.is ∙ ap (λ (xs : List TypedStatic). get_or xs c.loop-object.object-index c.object-item.result) e in
    (held_small (typed_file_tree c.args.file.now) c.args.numbers.now c.args.file.now.statics.items c.loop-object.object-index c.object-item.result c.loop-object.held.items lt is c.loop-object.invariant).0

pub push_initial-requires-clause-abstract_cells : goal.push_initial-requires-clause-abstract_cells
push_initial-requires-clause-abstract_cells c =
    let e : c.deref-object-items.result.now ≡ c.args.file.now.statics.items = c.deref-object-items.ensures.value in
    let lt : c.loop-object.object-index < length c.args.file.now.statics.items = (let a = c.loop-object-test.true in let b = ap length e in omega (arith, a, b)) in
    let is : c.object-item.result ≡ get_or c.args.file.now.statics.items c.loop-object.object-index c.object-item.result =
    c.object-item.is ∙ ap (λ (xs : List TypedStatic). get_or xs c.loop-object.object-index c.object-item.result) e in
    (held_small (typed_file_tree c.args.file.now) c.args.numbers.now c.args.file.now.statics.items c.loop-object.object-index c.object-item.result c.loop-object.held.items lt is c.loop-object.invariant).1

pub loop-object-preserved : goal.loop-object-preserved
loop-object-preserved c =
    let e : c.deref-object-items.result.now ≡ c.args.file.now.statics.items = c.deref-object-items.ensures.value in
    let lt : c.loop-object.object-index < length c.args.file.now.statics.items = (let a = c.loop-object-test.true in let b = ap length e in omega (arith, a, b)) in
    let is : c.object-item.result ≡ get_or c.args.file.now.statics.items c.loop-object.object-index c.object-item.result =
    c.object-item.is ∙ ap (λ (xs : List TypedStatic). get_or xs c.loop-object.object-index c.object-item.result) e in
    held_more (typed_file_tree c.args.file.now) c.args.numbers.now c.args.file.now.statics.items c.loop-object.object-index c.object-item.result c.loop-object.held.items c.push_initial.new.held.items lt is
    c.in_ok-push_initial.ensures c.loop-object.invariant

pub returns : goal.returns
returns c =
    let e : c.deref-object-items.result.now ≡ c.args.file.now.statics.items = c.deref-object-items.ensures.value in
    held_all (typed_file_tree c.args.file.now) c.args.numbers.now c.args.file.now.statics.items c.loop-object.object-index c.loop-object.held.items
    (let a = c.loop-object-test.false in let b = ap length e in omega (arith, a, b)) c.loop-object.invariant
