use Rattle.std.proofs.Common.{refl, ◌∙◌}
use Rattle.tm_terms.specs.Texts.{usage_text}
use Rattle.program_streams.specs.declared.statuses.Status.TheVariants.{Usage}
use Rattle.analyser.specs.Headline.{SaysUsage}
use Rattle.analyser.proofs.AnswerLemmas.{said_whole, said_front}
use Rattle.analyser.proofs.commands.send_usage.Goals as goal

pub returns-clause-whole : goal.returns-clause-whole
returns-clause-whole g c h =
    said_whole SaysUsage _ _ usage_text c.as_bytes.result.now (c.as_bytes.ensures.value ∙ c.usage_line.ensures) Usage
    c.send.result (refl, refl) (c.send.ensures.whole h).0 (c.send.ensures.whole h).1

pub returns-clause-front : goal.returns-clause-front
returns-clause-front g c =
    said_front SaysUsage _ _ usage_text c.as_bytes.result.now (c.as_bytes.ensures.value ∙ c.usage_line.ensures) Usage
    (refl, refl) c.send.ensures.front
