use Rattle.std.proofs.Common.{Some, None, decimal, arith}
use Rattle.std.proofs.lemmas.Str.Pattern.{split_after}
use Rattle.report_reading.proofs.Listed.{line_avoids}
use Rattle.report_reading.proofs.listings.place_of.Goals as goal

pub returns-in-Some : goal.returns-in-Some
returns-in-Some c =
    λ place small e.
    let cut = split_after 58 c.args.text.now (decimal place.line) (decimal place.col) (Some (c.in-Some.line, c.in-Some.col))
    c.in-Some.ensures.cases (omega arith) e (line_avoids place small) in
    c.joined.ensures place (c.number_of.ensures place.line small.0 cut.0) (c.number_of-in-Some.ensures place.col small.1 cut.1)

pub returns-in-None : goal.returns-in-None
returns-in-None c =
    λ place small e. absurd (split_after 58 c.args.text.now (decimal place.line) (decimal place.col) None c.in-None.ensures.cases
    (omega arith) e (line_avoids place small))
