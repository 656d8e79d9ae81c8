use Rattle.std.proofs.Common.{subst, get_or}
use Rattle.tm_laid.specs.Layouts.{laid_tree}
use Rattle.post_recheck.specs.state_fits.Kinds.{InExtents}
use Rattle.certificate_reading.specs.Rows.{IsReadRow}
use Rattle.certificate_reading.proofs.RowsOfValues.{values_more, values_stuck}
use Rattle.certificate_reading.proofs.rows.values_in.Goals as goal

pub returns-in-None : goal.returns-in-None
returns-in-None c =
    let Fits = InExtents (laid_tree c.args.laid.now) c.args.extents.now in
    let key = get_or c.args.keys.now c.loop-key.key-index 0 in
    values_stuck c.args.letters.now c.requires.letters Fits c.args.keys.now c.requires.distinct c.loop-key.key-index
    c.args.ahead.now c.loop-key.ahead c.loop-key.values.items c.loop-key-test.true c.loop-key.invariant
    (subst (λ r. IsReadRow c.args.letters.now Fits key c.loop-key.ahead r c.value_at.new.ahead) c.in-None.is
    c.in_ok-value_at.ensures)

pub loop-key-preserved : goal.loop-key-preserved
loop-key-preserved c =
    let Fits = InExtents (laid_tree c.args.laid.now) c.args.extents.now in
    let key = get_or c.args.keys.now c.loop-key.key-index 0 in
    values_more c.args.letters.now c.requires.letters Fits c.args.keys.now c.requires.distinct c.loop-key.key-index
    c.args.ahead.now c.loop-key.ahead c.value_at.new.ahead c.loop-key.values.items c.push.new.self.items c.in-Some.value
    c.loop-key-test.true c.loop-key.invariant
    (subst (λ r. IsReadRow c.args.letters.now Fits key c.loop-key.ahead r c.value_at.new.ahead) c.in-Some.is
    c.in_ok-value_at.ensures) c.in_ok-push-in-Some.ensures.items
