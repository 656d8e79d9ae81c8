use Rattle.std.proofs.Common.{◌≡◌, suc, ◌+◌, length, slice_get, Some, Ok, refl, sym, ap, subst, ◌∙◌, arith}
use Rattle.std.proofs.lemmas.Bool.{false≢true}
use Rattle.std.proofs.lemmas.Option.{slice_get_read}
use Rattle.std.specs.Arc.{arc_value}
use Rattle.interfere_set.specs.Stores.{IsStoreBelow, joined_store, rounded_store}
use Rattle.post_recheck.specs.Pairs.{pair_of}
use Rattle.post_recheck.specs.reading.Joins.{added_by, joined_by, AreCoveredBelow}
use Rattle.post_recheck.specs.declared.bodies.BodyCheck.TheVariants as Bodies
use Rattle.post_recheck.proofs.Answering.{one_more, first_body, all_covered, store_uncovered}
use Rattle.post_recheck.proofs.answers.answered.Goals as goal

pub loop-body-init : goal.loop-body-init
loop-body-init c = (λ u lt. absurd (omega (arith, lt)), c.new-added.ensures)

pub loop-body-preserved : goal.loop-body-preserved
loop-body-preserved c =
    let xs = c.args.checks.now in
    let k = c.loop-body.body in
    let more = c.in-Covered.more in
    let next : suc k ≡ k + 1 = omega arith in
    let here : slice_get xs k ≡ Some (Ok (Bodies.Covered more)) =
    slice_get_read xs (length xs) k c.index-checks-body.result refl c.loop-body-test.true c.index-checks-body.is
    ∙ ap Some (c.in-Ok.is ∙ ap Ok c.in-Covered.is) in (
      subst (AreCoveredBelow xs) next (one_more xs k more c.loop-body.invariant.0 here),
      c.in_ok-added-in-Covered.ensures ∙ ap (λ s. joined_store s more) c.loop-body.invariant.1
          ∙ ap (joined_store (joined_by xs k)) (sym (ap added_by here)) ∙ ap (joined_by xs) next,
    )

pub returns-in-Uncovered : goal.returns-in-Uncovered
returns-in-Uncovered c = λ p is same fits checked.
    let xs = c.args.checks.now in
    let k = c.loop-body.body in
    let here : slice_get xs k ≡ Some (Ok (Bodies.Uncovered c.in-Uncovered.edge)) =
    slice_get_read xs (length xs) k c.index-checks-body.result refl c.loop-body-test.true c.index-checks-body.is
    ∙ ap Some (c.in-Ok.is ∙ ap Ok c.in-Uncovered.is) in
    first_body p is (pair_of c.args.tables.items (arc_value c.args.store)) fits xs checked k c.in-Uncovered.edge
    c.loop-body-test.true c.loop-body.invariant.0 here

pub returns-then-below : goal.returns-then-below
returns-then-below c = λ p is same fits checked.
    let xs = c.args.checks.now in
    let ends : c.loop-body.body ≡ length xs = omega (arith, c.loop-body-test.false, c.loop-body.auto.body-end) in
    let below = subst (λ s. IsStoreBelow (rounded_store p.marks c.loop-body.added) s) c.deref.ensures
    (subst (λ r. IsStoreBelow r c.deref.result.now)
    (c.in_ok-round.ensures ∙ ap (λ m. rounded_store m c.loop-body.added) (sym same))
    (c.below.ensures.0 c.if-below.true)) in
    all_covered p is (pair_of c.args.tables.items (arc_value c.args.store)) fits xs checked
    (subst (AreCoveredBelow xs) ends c.loop-body.invariant.0) c.loop-body.added
    (c.loop-body.invariant.1 ∙ ap (joined_by xs) ends) below c.new.result c.new.ensures

pub returns-else-below : goal.returns-else-below
returns-else-below c = λ p is same fits checked.
    let xs = c.args.checks.now in
    let ends : c.loop-body.body ≡ length xs = omega (arith, c.loop-body-test.false, c.loop-body.auto.body-end) in
    store_uncovered p is (pair_of c.args.tables.items (arc_value c.args.store)) fits xs checked
    (subst (AreCoveredBelow xs) ends c.loop-body.invariant.0) c.loop-body.added
    (c.loop-body.invariant.1 ∙ ap (joined_by xs) ends)
    (λ low. false≢true (sym c.if-below.false ∙ c.below.ensures.1
    (subst (λ r. IsStoreBelow r c.deref.result.now)
    (sym (c.in_ok-round.ensures ∙ ap (λ m. rounded_store m c.loop-body.added) (sym same)))
    (subst (λ s. IsStoreBelow (rounded_store p.marks c.loop-body.added) s) (sym c.deref.ensures) low))))
