use Rattle.std.proofs.Common.{length, List, subst}
use Rattle.std.proofs.lemmas.Result.{IfOk-weaker}
use Rattle.tm_terms.specs.declared.places.Place.{Place}
use Rattle.program_reports.specs.post_recheck.Pairs.{lists_of}
use Rattle.value_ranges.specs.reading.Reached.{AreLeftOut}
use Rattle.value_ranges.proofs.Adding.{dead_in}
use Rattle.value_ranges.proofs.places.dead_places.Goals as goal

pub returns : goal.returns
returns c =
    let places = c.in_ok-places.places.items in
    let reached = c.in_ok-reached.reached.items in
    IfOk-weaker c.left_out.result _ _ (λ dead h.
    dead_in c.args.graphs.now c.args.configured.now (lists_of c.args.tables.now) (length c.args.tables.now) places
    reached
    dead.items c.in_ok-places.ensures c.in_ok-reached.ensures
    (subst (λ (xs : List Place). AreLeftOut xs reached dead.items) c.deref.ensures.value h)) c.left_out.ensures
