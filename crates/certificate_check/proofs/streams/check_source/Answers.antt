use Rattle.std.specs.Prelude.{string_bytes}
use Rattle.program_streams.proofs.Sent.{known, past_limit, read_out, sent_whole, sent_front}
use Rattle.certificate_texts.specs.Limits.{certificate_limit}
use Rattle.certificate_check.specs.VerdictTexts.{HasChecked}
use Rattle.certificate_check.proofs.Longer.{checked_is_whole, longer_checked}
use Rattle.certificate_check.proofs.SoundChecks.{reported_is_whole, sound_answers}
use Rattle.certificate_check.proofs.streams.check_source.Goals as goal

pub returns-in-Ok-checked-clause-whole : goal.returns-in-Ok-checked-clause-whole
returns-in-Ok-checked-clause-whole g c h =
    let reply = c.in-Ok-checked.reply in
    sent_whole certificate_limit HasChecked longer_checked _ _ _ reply.status _ (string_bytes reply.text) c.as_bytes.result.now
    (known certificate_limit HasChecked longer_checked _ c.read_whole.new.bytes.items _ _ _ c.in-Ok.ensures.read.taken
    (past_limit certificate_limit _ _ c.in-Ok.ensures.read.whole)
    c.in-Ok-checked.ensures)
    c.as_bytes.ensures.value (c.send.ensures.whole h).0 (c.send.ensures.whole h).1

pub returns-in-Ok-checked-clause-front : goal.returns-in-Ok-checked-clause-front
returns-in-Ok-checked-clause-front g c =
    let reply = c.in-Ok-checked.reply in
    sent_front certificate_limit HasChecked longer_checked _ _ _ reply.status (string_bytes reply.text) c.as_bytes.result.now
    (known certificate_limit HasChecked longer_checked _ c.read_whole.new.bytes.items _ _ _ c.in-Ok.ensures.read.taken
    (past_limit certificate_limit _ _ c.in-Ok.ensures.read.whole)
    c.in-Ok-checked.ensures)
    c.as_bytes.ensures.value c.send.ensures.front

pub send-requires : goal.send-requires
send-requires g c =
    checked_is_whole _ c.in-Ok-checked.reply.status (string_bytes c.in-Ok-checked.reply.text) c.in-Ok-checked.ensures

pub returns-in-Ok-checked-clause-sound : goal.returns-in-Ok-checked-clause-sound
returns-in-Ok-checked-clause-sound g c reported =
    sound_answers _ _ _ c.send.result reported
    (returns-in-Ok-checked-clause-whole g c (reported_is_whole c.send.result reported))
