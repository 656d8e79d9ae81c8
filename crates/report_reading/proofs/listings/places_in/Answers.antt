use Rattle.std.proofs.Common.{◌≡◌, List, Some, None, sym, subst}
use Rattle.tm_terms.specs.declared.places.Place.{Place}
use Rattle.report_reading.specs.reading.Listed.{AreLeft}
use Rattle.report_reading.proofs.Listed.{left_first, left_none, left_some}
use Rattle.report_reading.proofs.listings.places_in.Goals as goal

pub loop-place-init : goal.loop-place-init
loop-place-init c = (
  c.utf8.text,
  λ places small few e.
      let Left : List Place → Type 0 = λ found. AreLeft c.args.listing places found c.args.text.now in
      subst Left (sym c.new-places.ensures.items) (left_first c.args.listing places c.args.text.now small e),
)

pub loop-place-preserved : goal.loop-place-preserved
loop-place-preserved c = (
  search (c.first_place.type_inv, c.in-Some.is),
  λ places small few e.
      let Left : List Place → Type 0 = λ found. AreLeft c.args.listing places found c.in-Some.behind.now in
      subst Left (sym c.in_ok-push.ensures.items)
      (left_some c.args.listing places c.loop-place.places.items c.loop-place.rest.now c.in-Some.place c.in-Some.behind.now few
      c.in-Some.ensures.line
      (λ n s is. let clash : Some (c.in-Some.place, c.in-Some.behind) ≡ None = c.in-Some.ensures.last n s is in absurd cc)
      (c.loop-place.invariant.1 places small few e)),
)

pub returns : goal.returns
returns c =
    λ places small few e. left_none c.args.listing places c.loop-place.places.items c.loop-place.rest.now
    c.in_default.ensures.line (c.loop-place.invariant.1 places small few e)
