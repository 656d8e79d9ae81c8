use Rattle.std.proofs.Common.{[]}
use Rattle.certificate_words.specs.Lines.{words_of}
use Rattle.certificate_parts.proofs.Fronting.{exact_front}
use Rattle.certificate_parts.proofs.words.are_words.Goals as goal

pub returns-in-None : goal.returns-in-None
returns-in-None c = ((λ t. (cc)), (λ e. absurd (c.in-None.ensures.never [] e)))

pub returns-in-Some : goal.returns-in-Some
returns-in-Some c =
    exact_front (words_of c.args.words.now) c.args.letters.now c.args.numbers.now c.in-Some.more.now c.is_empty.result
    c.in-Some.ensures c.is_empty.ensures
