use Rattle.certificate_words.specs.Lines.{words_of}
use Rattle.certificate_words.proofs.NextLines.{more_held, whole_held, no_line, shorter}
use Rattle.certificate_words.proofs.lines.line_in.Goals as goal

pub returns-in-Nothing : goal.returns-in-Nothing
returns-in-Nothing c =
    no_line c.args.text.now (words_of c.words.words.items) c.words.rest.now c.words.invariant c.in-Nothing.ensures

pub words-preserved : goal.words-preserved
words-preserved c =
    more_held c.args.text.now c.words.words.items c.push.new.self.items c.in-Spaced.word c.words.rest.now
    c.in-Spaced.behind.now c.words.invariant c.in-Spaced.ensures c.in_ok-push-in-Spaced.ensures.items

pub words-smaller : goal.words-smaller
words-smaller c = shorter c.words.rest.now c.in-Spaced.behind.now c.in-Spaced.word c.in-Spaced.ensures

pub returns-in-Last : goal.returns-in-Last
returns-in-Last c =
    whole_held c.args.text.now c.words.words.items c.push-in-Last.new.self.items c.in-Last.word c.words.rest.now
    c.in-Last.behind.now c.words.invariant c.in-Last.ensures c.in_ok-push-in-Last.ensures.items
