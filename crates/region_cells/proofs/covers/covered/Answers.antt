use Rattle.std.proofs.Common.{◌≡◌, ◌∙◌, ap, false, length, arith}
use Rattle.std.specs.Prelude.{replicate}
use Rattle.tm_laid.specs.Layouts.{laid_tree}
use Rattle.region_cells.proofs.Covered.{objects_more, objects_all}
use Rattle.region_cells.proofs.covers.covered.Goals as goal

pub loop-object-preserved : goal.loop-object-preserved
loop-object-preserved c =
    objects_more (laid_tree c.args.laid.now) c.args.marks.now c.loop-object.object c.in_ok-covered.covered.items c.loop-object.covered.items c.cover_object.new.covered.items c.loop-object.invariant
    c.cover_object.ensures

pub returns : goal.returns
returns c =
    let len : c.len.result ≡ length c.args.laid.now.abstract_cells.items = (let a = c.len.ensures in let b = c.args.laid.now.abstract_cells.ok.0 in omega (arith, a, b)) in
    let at : c.loop-object.object ≡ length c.args.laid.now.objects.items =
    (let a = c.loop-object-test.false in let b = c.loop-object.auto.object-end in let d = c.len-object-end.ensures in let e = c.args.laid.now.objects.ok.0 in omega (arith, a, b, d, e)) in
    objects_all (laid_tree c.args.laid.now) c.args.marks.now c.in_ok-covered.covered.items c.loop-object.covered.items c.loop-object.object
    (c.in_ok-covered.ensures ∙ ap (λ n. replicate n false) len) at c.loop-object.invariant
