use Rattle.std.proofs.Common.{rules, ◌≡◌, ◌∙◌, ◌-◌, ◌++◌, ◌∷◌, [], length, take, drop, sym, ap, subst, Option, Some}
use Rattle.std.specs.Prelude.{IfOk}
use Rattle.refusal_hints.specs.declared.constructs.Construct.{Construct}
use Rattle.refusal_hints.specs.Hints.{construct_among, construct_at}
use Rattle.refusal_hints.specs.Places.{offset_of}
use Rattle.refusal_hints.specs.Rows.{rows_of}
use Rattle.refusal_hints.specs.Words.{piece_length, words_from, words_of}
use Rattle.refusal_hints.specs.reading.Seen.{words_seen}
use Rattle.refusal_hints.proofs.Surrounded.{at_place, before_is, context_is, rest}
use Rattle.refusal_hints.proofs.hints.construct_at.Goals as goal

pub construct_of-requires : goal.construct_of-requires
construct_of-requires c =
    let text = take (length c.args.text.now - c.in-Some.offset) (drop c.in-Some.offset c.args.text.now) in
    let pushed : words_seen c.deref.result.now ≡ words_seen c.in_ok-context.context.items ++ take (piece_length text) text ∷ [] = search rules in
    let count : c.len-count.result ≡ length c.in_ok-context.context.items = search rules in
    let from : words_seen c.deref-3.result.now ≡ words_from text = search rules in
    let same : c.deref.result.now ≡ c.deref-2.result.now = search rules in
    context_is c.deref.result.now c.in_ok-context.context.items c.deref-3.result.now text c.len-count.result pushed count from
    ∙ ap (λ ws. words_seen (take c.len-count.result ws) ++ take 1 (words_seen c.deref-3.result.now)) same

pub returns : goal.returns
returns c =
    let text = take (length c.args.text.now - c.in-Some.offset) (drop c.in-Some.offset c.args.text.now) in
    let pushed : words_seen c.deref.result.now ≡ words_seen c.in_ok-context.context.items ++ take (piece_length text) text ∷ [] = search rules in
    let count : c.len-count.result ≡ length c.in_ok-context.context.items = search rules in
    let from : words_seen c.deref-3.result.now ≡ words_from text = search rules in
    let same : c.deref-2.result.now ≡ c.deref.result.now = search rules in
    let old : words_seen c.in_ok-context.context.items ≡ [] ∷ words_of (take c.in-Some.offset c.args.text.now) = search rules in
    let there : offset_of c.args.text.now c.args.place ≡ Some c.in-Some.offset = sym c.offset_of.ensures.value ∙ c.in-Some.is in
    let before : words_seen (take c.len-count.result c.deref-2.result.now) ≡ [] ∷ words_of (take c.in-Some.offset c.args.text.now) =
    ap (λ ws. words_seen (take c.len-count.result ws)) same
    ∙ before_is c.deref.result.now c.in_ok-context.context.items _ c.len-count.result pushed count ∙ old in
    let told : construct_among (record { before = words_seen (take c.len-count.result c.deref-2.result.now); behind = words_seen c.deref-3.result.now }) (rows_of c.args.kind)
    ≡ construct_at c.args.text.now c.args.place c.args.kind =
    at_place c.args.text.now c.args.place c.args.kind c.in-Some.offset _ _ there before
    (from ∙ ap words_from (rest c.args.text.now c.in-Some.offset)) in
    let P : Option Construct → Type 0 = λ o. IfOk c.construct_of.result (λ x. x ≡ o) in
    subst P told c.construct_of.ensures
