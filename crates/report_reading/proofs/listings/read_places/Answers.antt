use Rattle.report_reading.proofs.Listed.{listing_utf8}
use Rattle.report_reading.proofs.listings.read_places.Goals as goal

pub returns-in_default-clause-not_listing : goal.returns-in_default-clause-not_listing
returns-in_default-clause-not_listing c =
    λ is places small few e.
    c.in_default.ensures.cases.0 (listing_utf8 c.args.listing places c.args.text.now small few e)
