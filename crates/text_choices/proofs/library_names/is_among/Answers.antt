use Rattle.std.proofs.Common.{◌≡◌, ◌∙◌, ◌-◌, length, take, drop, refl, sym, ap, false, true, arith}
use Rattle.std.proofs.lemmas.List.{take_rest, drop_all, length-drop}
use Rattle.std.specs.Prelude.{bytes_eq}
use Rattle.std.specs.List.{list_any}
use Rattle.text_choices.specs.reading.Words.{words_of}
use Rattle.text_choices.proofs.WordLemmas.{passed, met, no_words}
use Rattle.text_choices.proofs.library_names.is_among.Goals as goal

pub loop-at-init : goal.loop-at-init
loop-at-init c = record {
  within = omega arith;
  same = refl;
}

pub returns : goal.returns
returns c =
    let ended = ap (λ ys. list_any (bytes_eq c.args.name.now) (words_of ys)) (drop_all c.loop-at.at c.args.words.now (omega arith)) in
    sym (c.loop-at.invariant.same ∙ ended ∙ no_words c.args.name.now)

pub returns-then-eq : goal.returns-then-eq
returns-then-eq c =
    let words = c.args.words.now in
    let rest = take (length words - c.loop-at.at) (drop c.loop-at.at words) in
    let left : rest ≡ drop c.loop-at.at words = take_rest words c.loop-at.at in
    let same : bytes_eq c.args.name.now (take c.word_length-length.result rest) ≡ true = cc in
    sym (c.loop-at.invariant.same ∙ met c.args.name.now words rest c.loop-at.at c.word_length-length.result c.loop-at-test.true left c.word_length-length.ensures.value same)

pub loop-at-preserved : goal.loop-at-preserved
loop-at-preserved c =
    let words = c.args.words.now in
    let rest = take (length words - c.loop-at.at) (drop c.loop-at.at words) in
    let left : rest ≡ drop c.loop-at.at words = take_rest words c.loop-at.at in
    let other : bytes_eq c.args.name.now (take c.word_length-length.result rest) ≡ false = cc in
    let size = c.word_length-length.ensures.within in
    let long = ap length left ∙ length-drop c.loop-at.at words in
    record {
      within = omega arith;
      same = c.loop-at.invariant.same ∙ passed c.args.name.now words rest c.loop-at.at c.word_length-length.result c.loop-at-test.true left c.word_length-length.ensures.value other;
    }
