use Rattle.std.proofs.Common.{subst}
use Rattle.program_streams.proofs.Sent.{known, read_out, sent_whole, sent_front}
use Rattle.source_programs.specs.LaidSources.{longest_on}
use Rattle.source_notes.specs.Notes.{HasNotes}
use Rattle.source_notes.proofs.NotesTold.{longer_notes, notes_are_whole, past_number}
use Rattle.source_notes.proofs.streams.tell_by.Goals as goal

pub returns-in-Ok-notes_by : goal.returns-in-Ok-notes_by
returns-in-Ok-notes_by g c =
    let May = HasNotes c.args.scale c.args.note in
    let longer = longer_notes c.args.scale c.args.note in
    let reply = c.in-Ok-notes_by.reply in
    let text = reply.text.items in
    let read = c.in-Ok.ensures.read in
    let longest = longest_on c.args.scale in
    let limit = past_number longest c.most_read-most.result _ _ c.most_read-most.ensures read.whole in
    let answer = known longest May longer _ c.read_whole.new.bytes.items _ reply.status text read.taken limit
    (subst (λ b. May b reply.status text) c.deref.ensures.value c.in-Ok-notes_by.ensures) in
    let sent = c.deref-in-Ok-notes_by.result.now in
    let same = c.deref-in-Ok-notes_by.ensures.value in
    record {
      whole = λ h. sent_whole longest May longer _ _ _ reply.status _ text sent answer same
          (c.send.ensures.whole h).0 (c.send.ensures.whole h).1;
      front = sent_front longest May longer _ _ _ reply.status text sent answer same c.send.ensures.front;
      all = λ h. read_out longest _ _ _ read.taken limit;
      read = λ e. absurd (c.send.ensures.read e);
      write = c.send.ensures.write;
      source_faults = λ other. c.in-Ok.ensures.same;
      sink_faults = c.send.ensures.same;
    }

pub send-requires : goal.send-requires
send-requires g c =
    notes_are_whole c.args.scale c.args.note _ c.in-Ok-notes_by.reply.status c.in-Ok-notes_by.reply.text.items
    c.in-Ok-notes_by.ensures
