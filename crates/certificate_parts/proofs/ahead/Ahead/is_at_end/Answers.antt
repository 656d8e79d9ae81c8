use Rattle.std.proofs.Common.{sym}
use Rattle.certificate_words.specs.Lines.{words_of}
use Rattle.certificate_parts.proofs.Fronting.{not_ended, ended_at}
use Rattle.certificate_parts.proofs.ahead.Ahead.is_at_end.Goals as goal

pub returns-then-self : goal.returns-then-self
returns-then-self c = (
  (λ t. (cc)),
  (λ n. absurd (not_ended c.args.self.now c.self.inside.has (words_of c.self.inside.words.items) c.self.inside.lines
      (sym c.self.view_is) c.self.invariant.0 c.if-self.true n)),
)

pub returns : goal.returns
returns c =
    ended_at c.args.self.now c.self.inside.has (words_of c.self.inside.words.items) c.self.inside.lines c.rest.result.now
    c.is_empty.result (sym c.self.view_is) c.if-self.false c.rest.ensures c.is_empty.ensures
