use Rattle.std.proofs.Common.{◌≡◌, ◌∷◌, ◌++◌, [], Some, None, decimal, subst, arith}
use Rattle.std.proofs.lemmas.Str.Pattern.{split_after}
use Rattle.tm_terms.specs.Texts.{place_text}
use Rattle.report_reading.specs.reading.Listed.{IsFound, count_word, word_text}
use Rattle.report_reading.proofs.Listed.{count_avoids, number_avoids, number_no_word, place_avoids, word_avoids}
use Rattle.report_reading.proofs.listings.first_place.Goals as goal

pub returns-in-Some-split_once-clause-line : goal.returns-in-Some-split_once-clause-line
returns-in-Some-split_once-clause-line c =
    λ place rest small e.
    let word = word_text c.args.listing in
    let one = split_after 32 c.args.text.now (place_text place) (word ++ (10 ∷ rest))
    (Some (c.in-Some.place, c.in-Some.behind)) c.in-Some.ensures.cases (omega arith) e (place_avoids place small) in
    let other = split_after 10 c.in-Some.behind.now word rest
    (Some (c.in-Some-split_once.word, c.in-Some-split_once.rest)) c.in-Some-split_once.ensures.cases (omega arith) one.1
    (word_avoids c.args.listing) in
    subst (IsFound c.placed.result place) other.1 (c.placed.ensures.line place small one.0 other.0)

pub returns-in-Some-split_once-clause-last : goal.returns-in-Some-split_once-clause-last
returns-in-Some-split_once-clause-last c =
    λ count small e.
    let one = split_after 32 c.args.text.now (count_word c.args.listing) (decimal count ++ (10 ∷ []))
    (Some (c.in-Some.place, c.in-Some.behind)) c.in-Some.ensures.cases (omega arith) e (count_avoids c.args.listing) in
    let other = split_after 10 c.in-Some.behind.now (decimal count) []
    (Some (c.in-Some-split_once.word, c.in-Some-split_once.rest)) c.in-Some-split_once.ensures.cases (omega arith) one.1
    (number_avoids count small) in
    c.placed.ensures.other (number_no_word c.args.listing count c.in-Some-split_once.word.now small other.0)

pub returns-in-None-split_once-clause-line : goal.returns-in-None-split_once-clause-line
returns-in-None-split_once-clause-line c =
    λ place rest small e.
    let word = word_text c.args.listing in
    let one = split_after 32 c.args.text.now (place_text place) (word ++ (10 ∷ rest))
    (Some (c.in-Some.place, c.in-Some.behind)) c.in-Some.ensures.cases (omega arith) e (place_avoids place small) in
    split_after 10 c.in-Some.behind.now word rest None c.in-None-split_once.ensures.cases (omega arith) one.1
    (word_avoids c.args.listing)

pub returns-in-None-clause-line : goal.returns-in-None-clause-line
returns-in-None-clause-line c =
    λ place rest small e.
    split_after 32 c.args.text.now (place_text place) (word_text c.args.listing ++ (10 ∷ rest)) None
    c.in-None.ensures.cases (omega arith) e (place_avoids place small)
