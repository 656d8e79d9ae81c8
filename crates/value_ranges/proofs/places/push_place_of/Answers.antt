use Rattle.std.proofs.lemmas.Result.{on_ok_weaker}
use Rattle.value_ranges.proofs.Adding.{place_added, no_place_added}
use Rattle.value_ranges.proofs.places.push_place_of.Goals as goal

pub returns-in-Some : goal.returns-in-Some
returns-in-Some c =
    on_ok_weaker c.push_place.result
    (λ h. place_added c.args.operation c.place_of.result c.place_of.ensures c.in-Some.place c.in-Some.is
    c.args.places.now.items c.push_place.new.places.items h) c.push_place.ensures

pub returns-in-None : goal.returns-in-None
returns-in-None c =
    no_place_added c.args.operation c.place_of.result c.place_of.ensures c.in-None.is c.args.places.now.items
