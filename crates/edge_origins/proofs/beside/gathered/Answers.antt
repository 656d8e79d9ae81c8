use Rattle.std.proofs.Common.{◌++◌, false, get_or, map, sym, ap, ◌∙◌}
use Rattle.edge_origins.specs.declared.starts.Start.{Start}
use Rattle.edge_origins.specs.reading.Gathered.{counted_on}
use Rattle.edge_origins.proofs.Lists.{flat_next}
use Rattle.edge_origins.proofs.Walked.{noted_read}
use Rattle.edge_origins.proofs.beside.gathered.Goals as goal

pub loop-start-preserved : goal.loop-start-preserved
loop-start-preserved g c =
    let none : Start = record { path = 0; at = 0; used = false } in
    let notes = c.args.notes.now in
    let start : Start = get_or c.args.starts.now c.loop-start.start-index none in
    let old = c.loop-start.to.items in
    let look = c.in-Some.ensures.lookup in
    let read = noted_read notes start.path c.in-Some.found.now look.3.0 look.1 in
    flat_next (counted_on notes g.K.Beside.listed g.K.Beside.counted) c.args.starts.now c.loop-start.start-index none
    old c.put_counted.new.to.items c.loop-start-test.true c.loop-start.invariant
    (c.in_ok-put_counted.ensures
    ∙ ap (λ l. old ++ map (g.K.Beside.counted start.at) l) (c.listed_in.ensures ∙ ap g.K.Beside.listed (sym read)))
