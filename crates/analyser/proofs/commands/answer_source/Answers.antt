use Rattle.std.proofs.Common.{subst}
use Rattle.program_streams.proofs.Sent.{known, past_limit, read_out, sent_whole, sent_front}
use Rattle.source_replays.specs.source_programs.LaidSources.{longest_source}
use Rattle.analyser.specs.reading.Asked.{AskedGives}
use Rattle.analyser.proofs.AnswerLemmas.{asked_is_whole, longer_asked}
use Rattle.analyser.proofs.commands.answer_source.Goals as goal

pub returns-in-Ok-answer_to-clause-whole : goal.returns-in-Ok-answer_to-clause-whole
returns-in-Ok-answer_to-clause-whole g c h =
    let a = c.args.asked.now in
    let reply = c.in-Ok-answer_to.reply in
    sent_whole longest_source (AskedGives a) (longer_asked a) _ _ _ reply.status _ reply.text.items
    c.deref-in-Ok-answer_to.result.now
    (known longest_source (AskedGives a) (longer_asked a) _ c.read_whole.new.bytes.items _ _ _ c.in-Ok.ensures.read.taken
    (past_limit longest_source _ _ c.in-Ok.ensures.read.whole)
    (subst (λ b. AskedGives a b reply.status reply.text.items) c.deref.ensures.value c.in-Ok-answer_to.ensures))
    c.deref-in-Ok-answer_to.ensures.value (c.send.ensures.whole h).0 (c.send.ensures.whole h).1

pub returns-in-Ok-answer_to-clause-front : goal.returns-in-Ok-answer_to-clause-front
returns-in-Ok-answer_to-clause-front g c =
    let a = c.args.asked.now in
    let reply = c.in-Ok-answer_to.reply in
    sent_front longest_source (AskedGives a) (longer_asked a) _ _ _ reply.status reply.text.items
    c.deref-in-Ok-answer_to.result.now
    (known longest_source (AskedGives a) (longer_asked a) _ c.read_whole.new.bytes.items _ _ _ c.in-Ok.ensures.read.taken
    (past_limit longest_source _ _ c.in-Ok.ensures.read.whole)
    (subst (λ b. AskedGives a b reply.status reply.text.items) c.deref.ensures.value c.in-Ok-answer_to.ensures))
    c.deref-in-Ok-answer_to.ensures.value c.send.ensures.front

pub returns-in-Ok-answer_to-clause-all : goal.returns-in-Ok-answer_to-clause-all
returns-in-Ok-answer_to-clause-all g c h =
    read_out longest_source _ c.read_whole.new.bytes.items _ c.in-Ok.ensures.read.taken
    (past_limit longest_source _ _ c.in-Ok.ensures.read.whole)

pub send-requires : goal.send-requires
send-requires g c =
    let reply = c.in-Ok-answer_to.reply in
    asked_is_whole c.args.asked.now _ reply.status reply.text.items c.in-Ok-answer_to.ensures
