use Rattle.std.proofs.Common.{◌≡◌, ◌∷◌, ◌++◌, [], Some, None, decimal, subst, arith}
use Rattle.std.specs.Prelude.{codes}
use Rattle.std.proofs.lemmas.Str.Pattern.{split_after}
use Rattle.tm_terms.specs.Texts.{place_text}
use Rattle.report_reading.specs.Assumptions.{kind_text}
use Rattle.report_reading.specs.reading.Assumed.{IsTaken}
use Rattle.report_reading.proofs.Assumed.{kind_avoids, no_kind, word_avoids_blank}
use Rattle.report_reading.proofs.Listed.{number_avoids, place_avoids}
use Rattle.report_reading.proofs.assumptions.first_assumption.Goals as goal

pub returns-in-Some-split_once-clause-line : goal.returns-in-Some-split_once-clause-line
returns-in-Some-split_once-clause-line c =
    λ a rest small e.
    let word = kind_text a.kind in
    let one = split_after 32 c.args.text.now (place_text a.place) (word ++ (10 ∷ rest))
    (Some (c.in-Some.place, c.in-Some.behind)) c.in-Some.ensures.cases (omega arith) e (place_avoids a.place small) in
    let other = split_after 10 c.in-Some.behind.now word rest
    (Some (c.in-Some-split_once.word, c.in-Some-split_once.rest)) c.in-Some-split_once.ensures.cases (omega arith) one.1
    (kind_avoids a.kind) in
    subst (IsTaken c.taken.result a) other.1 (c.taken.ensures.line a small one.0 other.0)

pub returns-in-Some-split_once-clause-last : goal.returns-in-Some-split_once-clause-last
returns-in-Some-split_once-clause-last c =
    λ count small e.
    let one = split_after 32 c.args.text.now (codes "assumptions") (decimal count ++ (10 ∷ []))
    (Some (c.in-Some.place, c.in-Some.behind)) c.in-Some.ensures.cases (omega arith) e word_avoids_blank in
    let other = split_after 10 c.in-Some.behind.now (decimal count) []
    (Some (c.in-Some-split_once.word, c.in-Some-split_once.rest)) c.in-Some-split_once.ensures.cases (omega arith) one.1
    (number_avoids count small) in
    c.taken.ensures.other (no_kind count c.in-Some-split_once.word.now small other.0)

pub returns-in-None-split_once-clause-line : goal.returns-in-None-split_once-clause-line
returns-in-None-split_once-clause-line c =
    λ a rest small e.
    let word = kind_text a.kind in
    let one = split_after 32 c.args.text.now (place_text a.place) (word ++ (10 ∷ rest))
    (Some (c.in-Some.place, c.in-Some.behind)) c.in-Some.ensures.cases (omega arith) e (place_avoids a.place small) in
    split_after 10 c.in-Some.behind.now word rest None c.in-None-split_once.ensures.cases (omega arith) one.1
    (kind_avoids a.kind)

pub returns-in-None-clause-line : goal.returns-in-None-clause-line
returns-in-None-clause-line c =
    λ a rest small e.
    split_after 32 c.args.text.now (place_text a.place) (kind_text a.kind ++ (10 ∷ rest)) None
    c.in-None.ensures.cases (omega arith) e (place_avoids a.place small)
