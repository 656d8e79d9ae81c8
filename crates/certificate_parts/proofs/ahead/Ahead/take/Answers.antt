use Rattle.std.proofs.Common.{◌∙◌, sym, refl}
use Rattle.certificate_words.specs.Lines.{words_of}
use Rattle.certificate_parts.specs.Fronts.{line_of}
use Rattle.certificate_parts.proofs.Fronting.{front_is, not_front, stepped}
use Rattle.certificate_parts.proofs.ahead.Ahead.take.Goals as goal

pub returns-then-not-are_words : goal.returns-then-not-are_words
returns-then-not-are_words c = (
  refl,
  not_front c.args.self.now (words_of c.words.result.now) (line_of c.args.letters.now c.args.numbers.now) c.words.ensures
      (λ e. (let t = sym (c.are_words.ensures.1 e) ∙ c.if-not-are_words.true in cc)),
)

pub returns : goal.returns
returns c =
    stepped c.args.self.now c.step.new.self (line_of c.args.letters.now c.args.numbers.now)
    (front_is c.args.self.now (words_of c.words.result.now) (line_of c.args.letters.now c.args.numbers.now) c.words.ensures
    (c.are_words.ensures.0 c.if-not-are_words.false)) c.in_ok-step.ensures
