use Rattle.std.proofs.Common.{refl, get_or, drop, false, arith}
use Rattle.std.specs.Vec.Iter.{into_iter_items}
use Rattle.tm_laid.specs.Layouts.{laid_tree}
use Rattle.edge_actions.specs.Layouts.{is_shared_cell}
use Rattle.certificate_reading.specs.reading.Parts.{cells_of}
use Rattle.certificate_reading.specs.reading.KeptRows.{values_of}
use Rattle.certificate_reading.proofs.PuttingOver.{put_all, cells_over_more, cells_over_all}
use Rattle.certificate_reading.proofs.assembled.cells_over.Goals as goal

pub loop-at-preserved : goal.loop-at-preserved
loop-at-preserved c =
    let shared = is_shared_cell (laid_tree c.args.laid.now) in
    let seen = c.args.seen.now in
    let rows = c.args.rows.now in
    let marks = c.next_marks-marks in
    let here = c.loop-at-test.true in
    let as_rows = c.requires.rows in
    let as_fresh = c.requires.fresh in
    record {
      far = cells_over_more shared
          (put_all c.args.before.now (cells_of shared seen (values_of rows) c.args.pending.items c.args.fresh.now
          c.args.stored.items)) c.loop-at.cells c.put_over.new.cells c.loop-at.at seen rows c.index-rows-at.result
          (let r = get_or rows c.loop-at.at c.index-rows-at.result in r.value) (into_iter_items c.loop-at.pending_left) (into_iter_items marks.new.pending)
          c.args.fresh.now false (into_iter_items c.loop-at.stored_left) (into_iter_items marks.new.stored) marks.result
          here (omega (arith, here, as_rows)) (omega (arith, here, as_fresh))
          refl marks.ensures.first c.in_ok-put_over.ensures
          c.loop-at.invariant.far;
      pending = marks.ensures.sets;
    }

pub returns : goal.returns
returns c =
    let shared = is_shared_cell (laid_tree c.args.laid.now) in
    let i = c.loop-at.at in
    cells_over_all shared c.args.before.now c.loop-at.cells i c.args.seen.now c.args.rows.now
    (drop i (values_of c.args.rows.now)) c.args.pending.items (into_iter_items c.loop-at.pending_left) c.args.fresh.now
    (drop i c.args.fresh.now) c.args.stored.items (into_iter_items c.loop-at.stored_left) c.loop-at-test.false
    c.requires.rising c.requires.before c.requires.rows c.requires.fresh c.loop-at.invariant.far
