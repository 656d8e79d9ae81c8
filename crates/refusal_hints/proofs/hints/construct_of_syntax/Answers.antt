use Rattle.std.proofs.Common.{◌≡◌, ◌∙◌, ◌++◌, Option, None, map, sym, ap, subst}
use Rattle.std.specs.Prelude.{IfOk}
use Rattle.refusal_hints.specs.declared.constructs.Construct.{Construct}
use Rattle.refusal_hints.proofs.Joined.{told_behind, told_first}
use Rattle.refusal_hints.specs.Hints.{Surroundings, construct_among}
use Rattle.refusal_hints.specs.Rows.{member_rows, name_rows, place_rows, type_rows, word_rows}
use Rattle.refusal_hints.specs.reading.Seen.{row_seen, words_seen}
use Rattle.refusal_hints.proofs.hints.construct_of_syntax.Goals as goal

pub returns-in-Some : goal.returns-in-Some
returns-in-Some c =
    let words : Surroundings = record { before = words_seen c.args.before.now; behind = words_seen c.args.behind.now } in
    told_first words word_rows (member_rows ++ (type_rows ++ (place_rows ++ name_rows))) c.in-Some.construct
    (sym c.in-Some.is ∙ c.in_ok-construct.ensures ∙ ap (construct_among words) c.word_rows.ensures)

pub returns-in-Some-2 : goal.returns-in-Some-2
returns-in-Some-2 c =
    let words : Surroundings = record { before = words_seen c.args.before.now; behind = words_seen c.args.behind.now } in
    let none_0 : None ≡ construct_among words word_rows =
    sym c.in_default.is ∙ c.in_ok-construct.ensures ∙ ap (construct_among words) c.word_rows.ensures in
    told_first words member_rows (type_rows ++ (place_rows ++ name_rows)) c.in-Some-2.construct
    (sym c.in-Some-2.is ∙ c.in_ok-construct-2.ensures ∙ ap (construct_among words) c.member_rows.ensures)
    ∙ told_behind words word_rows (member_rows ++ (type_rows ++ (place_rows ++ name_rows))) none_0

pub returns-in-Some-3 : goal.returns-in-Some-3
returns-in-Some-3 c =
    let words : Surroundings = record { before = words_seen c.args.before.now; behind = words_seen c.args.behind.now } in
    let none_0 : None ≡ construct_among words word_rows =
    sym c.in_default.is ∙ c.in_ok-construct.ensures ∙ ap (construct_among words) c.word_rows.ensures in
    let none_1 : None ≡ construct_among words member_rows =
    sym c.in_default-2.is ∙ c.in_ok-construct-2.ensures ∙ ap (construct_among words) c.member_rows.ensures in
    told_first words type_rows (place_rows ++ name_rows) c.in-Some-3.construct
    (sym c.in-Some-3.is ∙ c.in_ok-construct-3.ensures ∙ ap (construct_among words) c.type_rows.ensures)
    ∙ told_behind words member_rows (type_rows ++ (place_rows ++ name_rows)) none_1
    ∙ told_behind words word_rows (member_rows ++ (type_rows ++ (place_rows ++ name_rows))) none_0

pub returns-in-Some-4 : goal.returns-in-Some-4
returns-in-Some-4 c =
    let words : Surroundings = record { before = words_seen c.args.before.now; behind = words_seen c.args.behind.now } in
    let none_0 : None ≡ construct_among words word_rows =
    sym c.in_default.is ∙ c.in_ok-construct.ensures ∙ ap (construct_among words) c.word_rows.ensures in
    let none_1 : None ≡ construct_among words member_rows =
    sym c.in_default-2.is ∙ c.in_ok-construct-2.ensures ∙ ap (construct_among words) c.member_rows.ensures in
    let none_2 : None ≡ construct_among words type_rows =
    sym c.in_default-3.is ∙ c.in_ok-construct-3.ensures ∙ ap (construct_among words) c.type_rows.ensures in
    told_first words place_rows name_rows c.in-Some-4.construct
    (sym c.in-Some-4.is ∙ c.in_ok-construct-4.ensures ∙ ap (construct_among words) c.place_rows.ensures)
    ∙ told_behind words type_rows (place_rows ++ name_rows) none_2
    ∙ told_behind words member_rows (type_rows ++ (place_rows ++ name_rows)) none_1
    ∙ told_behind words word_rows (member_rows ++ (type_rows ++ (place_rows ++ name_rows))) none_0

pub returns : goal.returns
returns c =
    let words : Surroundings = record { before = words_seen c.args.before.now; behind = words_seen c.args.behind.now } in
    let none_0 : None ≡ construct_among words word_rows =
    sym c.in_default.is ∙ c.in_ok-construct.ensures ∙ ap (construct_among words) c.word_rows.ensures in
    let none_1 : None ≡ construct_among words member_rows =
    sym c.in_default-2.is ∙ c.in_ok-construct-2.ensures ∙ ap (construct_among words) c.member_rows.ensures in
    let none_2 : None ≡ construct_among words type_rows =
    sym c.in_default-3.is ∙ c.in_ok-construct-3.ensures ∙ ap (construct_among words) c.type_rows.ensures in
    let none_3 : None ≡ construct_among words place_rows =
    sym c.in_default-4.is ∙ c.in_ok-construct-4.ensures ∙ ap (construct_among words) c.place_rows.ensures in
    let all : construct_among words (map row_seen c.name_rows.result.now) ≡ construct_among words (word_rows ++ (member_rows ++ (type_rows ++ (place_rows ++ name_rows)))) =
    ap (construct_among words) c.name_rows.ensures
    ∙ told_behind words place_rows name_rows none_3
    ∙ told_behind words type_rows (place_rows ++ name_rows) none_2
    ∙ told_behind words member_rows (type_rows ++ (place_rows ++ name_rows)) none_1
    ∙ told_behind words word_rows (member_rows ++ (type_rows ++ (place_rows ++ name_rows))) none_0 in
    let P : Option Construct → Type 0 = λ o. IfOk c.construct_among-5.result (λ x. x ≡ o) in
    subst P all c.construct_among-5.ensures
