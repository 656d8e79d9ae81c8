use Rattle.std.specs.Prelude.{string_bytes}
use Rattle.analyser.specs.Headline.{IsGenerated}
use Rattle.analyser.proofs.AnswerLemmas.{said_whole, said_front}
use Rattle.analyser.proofs.commands.send_source.Goals as goal

pub returns-in-Ok-clause-whole : goal.returns-in-Ok-clause-whole
returns-in-Ok-clause-whole g c h =
    said_whole (IsGenerated c.args.count) _ _ (string_bytes c.in-Ok.reply.text) c.as_bytes.result.now
    c.as_bytes.ensures.value c.in-Ok.reply.status c.send.result c.in-Ok.ensures (c.send.ensures.whole h).0
    (c.send.ensures.whole h).1

pub returns-in-Ok-clause-front : goal.returns-in-Ok-clause-front
returns-in-Ok-clause-front g c =
    said_front (IsGenerated c.args.count) _ _ (string_bytes c.in-Ok.reply.text) c.as_bytes.result.now
    c.as_bytes.ensures.value c.in-Ok.reply.status c.in-Ok.ensures c.send.ensures.front
