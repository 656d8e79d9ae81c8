use Rattle.std.proofs.lemmas.Result.{IfOk-weaker}
use Rattle.cmd_words.specs.Words.{texts_of}
use Rattle.cmd_words.proofs.Within.{is_within}
use Rattle.cmd_words.proofs.words.read_words.Goals as goal

pub returns-in-Some-clause-within : goal.returns-in-Some-clause-within
returns-in-Some-clause-within c =
    IfOk-weaker c.read_named.result _ _ (λ command same. is_within c.as_str.result.now (texts_of c.in-Some.rest.now) command same)
    c.read_named.ensures
