use Rattle.std.proofs.Common.{◌∙◌, sym}
use Rattle.certificate_words.specs.Lines.{words_of}
use Rattle.certificate_parts.proofs.Fronting.{step_over}
use Rattle.certificate_parts.proofs.ahead.Ahead.step.Goals as goal

pub returns : goal.returns
returns c =
    step_over c.args.self.now c.self.inside.has (words_of c.self.inside.words.items) c.self.inside.lines
    c.turn_to.new.self (sym c.self.view_is) c.self.invariant.0 c.if-not-self.false
    (c.in_ok-turn_to.ensures ∙ c.rest-behind.ensures)
