use Rattle.std.proofs.Common.{◌∙◌, ap, refl, subst, Some}
use Rattle.big_source.specs.GeneratedSources.{source_text}
use Rattle.analyser.specs.Headline.{CommandGives, HasSummary, IsGenerated, SaysUsage}
use Rattle.program_streams.specs.Streams.{IsReadOut}
use Rattle.source_findings.specs.certificate_check.VerdictTexts.{HasChecked}
use Rattle.source_findings.specs.declared.findings.Finding.TheVariants as Findings
use Rattle.analyser.specs.declared.replies.Asked.TheVariants as Asks
use Rattle.analyser.specs.reading.Asked.{AskedGives}
use Rattle.analyser.specs.reading.Manners.{IsServed}
use Rattle.analyser.proofs.CommandLemmas.{said_answers, said_takes, more_answers, more_takes}
use Rattle.analyser.proofs.CommandLemmas.{usage_of_none, answer_of_replay, answer_of_analyse, answer_of_generate}
use Rattle.analyser.proofs.CommandLemmas.{answer_of_demo, reads_none, reads_replay, reads_generate, reads_demo}
use Rattle.analyser.proofs.CommandLemmas.{reads_analyse, answer_of_waits, answer_of_ranges, reads_waits, reads_ranges}
use Rattle.analyser.proofs.CommandLemmas.{answer_of_certify, answer_of_check, reads_certify, reads_check}
use Rattle.analyser.proofs.CommandLemmas.{longest_of_check, longest_of_other}
use Rattle.analyser.proofs.commands.answer_command.Goals as goal

pub returns-in-None-clause-headline : goal.returns-in-None-clause-headline
returns-in-None-clause-headline g c h =
    said_answers (SaysUsage) (CommandGives c.args.command) (usage_of_none c.args.command c.in-None.is) _ _ _ c.send_usage.result (c.send_usage.ensures.whole h)

pub returns-in-None-clause-front : goal.returns-in-None-clause-front
returns-in-None-clause-front g c =
    said_takes (SaysUsage) (CommandGives c.args.command) (usage_of_none c.args.command c.in-None.is) _ _ _ c.send_usage.ensures.front

pub returns-in-None-clause-all : goal.returns-in-None-clause-all
returns-in-None-clause-all g c r w = absurd (reads_none c.args.command c.in-None.is r)

pub returns-in-Some-Replay-clause-headline : goal.returns-in-Some-Replay-clause-headline
returns-in-Some-Replay-clause-headline g c h =
    more_answers (AskedGives Asks.Replay) (CommandGives c.args.command) (answer_of_replay c.args.command (c.in-Some-Replay.is ∙ ap Some c.in-Some-Replay.field-0-is)) _ _ _
    c.answer_source-in-Some-Replay.result (c.answer_source-in-Some-Replay.ensures.whole h)

pub returns-in-Some-Replay-clause-front : goal.returns-in-Some-Replay-clause-front
returns-in-Some-Replay-clause-front g c =
    more_takes (AskedGives Asks.Replay) (CommandGives c.args.command) (answer_of_replay c.args.command (c.in-Some-Replay.is ∙ ap Some c.in-Some-Replay.field-0-is)) _ _ _
    c.answer_source-in-Some-Replay.ensures.front

pub returns-in-Some-Replay-clause-unread : goal.returns-in-Some-Replay-clause-unread
returns-in-Some-Replay-clause-unread g c none = absurd (none (reads_replay c.args.command (c.in-Some-Replay.is ∙ ap Some c.in-Some-Replay.field-0-is)))

pub returns-in-Some-Replay-clause-read : goal.returns-in-Some-Replay-clause-read
returns-in-Some-Replay-clause-read g c e =
    let fault = c.answer_source-in-Some-Replay.ensures.read e in
    (reads_replay c.args.command (c.in-Some-Replay.is ∙ ap Some c.in-Some-Replay.field-0-is), fault.0, fault.1)

pub returns-in-Some-Waits-clause-headline : goal.returns-in-Some-Waits-clause-headline
returns-in-Some-Waits-clause-headline g c h =
    more_answers (AskedGives (Asks.Solution Findings.Waits)) (CommandGives c.args.command) (answer_of_waits c.args.command (c.in-Some-Waits.is ∙ ap Some c.in-Some-Waits.field-0-is)) _ _ _
    c.answer_source-in-Some-Waits.result (c.answer_source-in-Some-Waits.ensures.whole h)

pub returns-in-Some-Waits-clause-front : goal.returns-in-Some-Waits-clause-front
returns-in-Some-Waits-clause-front g c =
    more_takes (AskedGives (Asks.Solution Findings.Waits)) (CommandGives c.args.command) (answer_of_waits c.args.command (c.in-Some-Waits.is ∙ ap Some c.in-Some-Waits.field-0-is)) _ _ _
    c.answer_source-in-Some-Waits.ensures.front

pub returns-in-Some-Waits-clause-unread : goal.returns-in-Some-Waits-clause-unread
returns-in-Some-Waits-clause-unread g c none = absurd (none (reads_waits c.args.command (c.in-Some-Waits.is ∙ ap Some c.in-Some-Waits.field-0-is)))

pub returns-in-Some-Waits-clause-read : goal.returns-in-Some-Waits-clause-read
returns-in-Some-Waits-clause-read g c e =
    let fault = c.answer_source-in-Some-Waits.ensures.read e in
    (reads_waits c.args.command (c.in-Some-Waits.is ∙ ap Some c.in-Some-Waits.field-0-is), fault.0, fault.1)

pub returns-in-Some-Ranges-clause-headline : goal.returns-in-Some-Ranges-clause-headline
returns-in-Some-Ranges-clause-headline g c h =
    more_answers (AskedGives (Asks.Solution Findings.Ranges)) (CommandGives c.args.command) (answer_of_ranges c.args.command (c.in-Some-Ranges.is ∙ ap Some c.in-Some-Ranges.field-0-is)) _ _ _
    c.answer_source-in-Some-Ranges.result (c.answer_source-in-Some-Ranges.ensures.whole h)

pub returns-in-Some-Ranges-clause-front : goal.returns-in-Some-Ranges-clause-front
returns-in-Some-Ranges-clause-front g c =
    more_takes (AskedGives (Asks.Solution Findings.Ranges)) (CommandGives c.args.command) (answer_of_ranges c.args.command (c.in-Some-Ranges.is ∙ ap Some c.in-Some-Ranges.field-0-is)) _ _ _
    c.answer_source-in-Some-Ranges.ensures.front

pub returns-in-Some-Ranges-clause-unread : goal.returns-in-Some-Ranges-clause-unread
returns-in-Some-Ranges-clause-unread g c none = absurd (none (reads_ranges c.args.command (c.in-Some-Ranges.is ∙ ap Some c.in-Some-Ranges.field-0-is)))

pub returns-in-Some-Ranges-clause-read : goal.returns-in-Some-Ranges-clause-read
returns-in-Some-Ranges-clause-read g c e =
    let fault = c.answer_source-in-Some-Ranges.ensures.read e in
    (reads_ranges c.args.command (c.in-Some-Ranges.is ∙ ap Some c.in-Some-Ranges.field-0-is), fault.0, fault.1)

pub returns-in-Some-Generate-clause-headline : goal.returns-in-Some-Generate-clause-headline
returns-in-Some-Generate-clause-headline g c h =
    said_answers (IsGenerated c.in-Some-Generate.count) (CommandGives c.args.command) (answer_of_generate c.args.command c.in-Some-Generate.count (c.in-Some-Generate.is ∙ ap Some c.in-Some-Generate.field-0-is)) _ _ _ c.send_source.result (c.send_source.ensures.whole h)

pub returns-in-Some-Generate-clause-front : goal.returns-in-Some-Generate-clause-front
returns-in-Some-Generate-clause-front g c =
    said_takes (IsGenerated c.in-Some-Generate.count) (CommandGives c.args.command) (answer_of_generate c.args.command c.in-Some-Generate.count (c.in-Some-Generate.is ∙ ap Some c.in-Some-Generate.field-0-is)) _ _ _ c.send_source.ensures.front

pub returns-in-Some-Generate-clause-all : goal.returns-in-Some-Generate-clause-all
returns-in-Some-Generate-clause-all g c r w = absurd (reads_generate c.args.command c.in-Some-Generate.count (c.in-Some-Generate.is ∙ ap Some c.in-Some-Generate.field-0-is) r)

pub returns-in-Some-Demo-clause-headline : goal.returns-in-Some-Demo-clause-headline
returns-in-Some-Demo-clause-headline g c h =
    said_answers (HasSummary (source_text c.in-Some-Demo.asked.count)) (CommandGives c.args.command) (answer_of_demo c.args.command c.in-Some-Demo.asked (c.in-Some-Demo.is ∙ ap Some c.in-Some-Demo.field-0-is)) _ _ _ c.send_summary.result (c.send_summary.ensures.whole h)

pub returns-in-Some-Demo-clause-front : goal.returns-in-Some-Demo-clause-front
returns-in-Some-Demo-clause-front g c =
    said_takes (HasSummary (source_text c.in-Some-Demo.asked.count)) (CommandGives c.args.command) (answer_of_demo c.args.command c.in-Some-Demo.asked (c.in-Some-Demo.is ∙ ap Some c.in-Some-Demo.field-0-is)) _ _ _ c.send_summary.ensures.front

pub returns-in-Some-Demo-clause-all : goal.returns-in-Some-Demo-clause-all
returns-in-Some-Demo-clause-all g c r w = absurd (reads_demo c.args.command c.in-Some-Demo.asked (c.in-Some-Demo.is ∙ ap Some c.in-Some-Demo.field-0-is) r)

pub returns-in-Some-Analyse-clause-headline : goal.returns-in-Some-Analyse-clause-headline
returns-in-Some-Analyse-clause-headline g c h =
    more_answers (AskedGives (Asks.Report c.in-Some-Analyse.asked)) (CommandGives c.args.command)
    (answer_of_analyse c.args.command c.in-Some-Analyse.asked (c.in-Some-Analyse.is ∙ ap Some c.in-Some-Analyse.field-0-is)) _ _ _
    c.answer_source.result (c.answer_source.ensures.whole h)

pub returns-in-Some-Analyse-clause-front : goal.returns-in-Some-Analyse-clause-front
returns-in-Some-Analyse-clause-front g c =
    more_takes (AskedGives (Asks.Report c.in-Some-Analyse.asked)) (CommandGives c.args.command)
    (answer_of_analyse c.args.command c.in-Some-Analyse.asked (c.in-Some-Analyse.is ∙ ap Some c.in-Some-Analyse.field-0-is)) _ _ _
    c.answer_source.ensures.front

pub returns-in-Some-Analyse-clause-unread : goal.returns-in-Some-Analyse-clause-unread
returns-in-Some-Analyse-clause-unread g c none =
    absurd (none (reads_analyse c.args.command c.in-Some-Analyse.asked (c.in-Some-Analyse.is ∙ ap Some c.in-Some-Analyse.field-0-is)))

pub returns-in-Some-Analyse-clause-read : goal.returns-in-Some-Analyse-clause-read
returns-in-Some-Analyse-clause-read g c e =
    let fault = c.answer_source.ensures.read e in
    (reads_analyse c.args.command c.in-Some-Analyse.asked (c.in-Some-Analyse.is ∙ ap Some c.in-Some-Analyse.field-0-is), fault.0, fault.1)

pub answer_source-requires : goal.answer_source-requires
answer_source-requires g c =
    subst (IsServed (g.V.Solver.serves c.args.solver.now)) (c.in-Some-Analyse.is ∙ ap Some c.in-Some-Analyse.field-0-is)
    c.requires.served

pub send_summary-requires : goal.send_summary-requires
send_summary-requires g c =
    subst (IsServed (g.V.Solver.serves c.args.solver.now)) (c.in-Some-Demo.is ∙ ap Some c.in-Some-Demo.field-0-is)
    c.requires.served

pub returns-in-Some-Certify-clause-headline : goal.returns-in-Some-Certify-clause-headline
returns-in-Some-Certify-clause-headline g c h =
    more_answers (AskedGives Asks.Certificate) (CommandGives c.args.command) (answer_of_certify c.args.command (c.in-Some-Certify.is ∙ ap Some c.in-Some-Certify.field-0-is)) _ _ _
    c.answer_source-in-Some-Certify.result (c.answer_source-in-Some-Certify.ensures.whole h)

pub returns-in-Some-Certify-clause-front : goal.returns-in-Some-Certify-clause-front
returns-in-Some-Certify-clause-front g c =
    more_takes (AskedGives Asks.Certificate) (CommandGives c.args.command) (answer_of_certify c.args.command (c.in-Some-Certify.is ∙ ap Some c.in-Some-Certify.field-0-is)) _ _ _
    c.answer_source-in-Some-Certify.ensures.front

pub returns-in-Some-Certify-clause-unread : goal.returns-in-Some-Certify-clause-unread
returns-in-Some-Certify-clause-unread g c none = absurd (none (reads_certify c.args.command (c.in-Some-Certify.is ∙ ap Some c.in-Some-Certify.field-0-is)))

pub returns-in-Some-Certify-clause-read : goal.returns-in-Some-Certify-clause-read
returns-in-Some-Certify-clause-read g c e =
    let fault = c.answer_source-in-Some-Certify.ensures.read e in
    (reads_certify c.args.command (c.in-Some-Certify.is ∙ ap Some c.in-Some-Certify.field-0-is), fault.0, fault.1)

pub returns-in-Some-Check-clause-headline : goal.returns-in-Some-Check-clause-headline
returns-in-Some-Check-clause-headline g c h =
    more_answers HasChecked (CommandGives c.args.command) (answer_of_check c.args.command (c.in-Some-Check.is ∙ ap Some c.in-Some-Check.field-0-is)) _ _ _
    c.check_source.result (c.check_source.ensures.whole h)

pub returns-in-Some-Check-clause-front : goal.returns-in-Some-Check-clause-front
returns-in-Some-Check-clause-front g c =
    more_takes HasChecked (CommandGives c.args.command) (answer_of_check c.args.command (c.in-Some-Check.is ∙ ap Some c.in-Some-Check.field-0-is)) _ _ _
    c.check_source.ensures.front

pub returns-in-Some-Check-clause-unread : goal.returns-in-Some-Check-clause-unread
returns-in-Some-Check-clause-unread g c none = absurd (none (reads_check c.args.command (c.in-Some-Check.is ∙ ap Some c.in-Some-Check.field-0-is)))

pub returns-in-Some-Check-clause-read : goal.returns-in-Some-Check-clause-read
returns-in-Some-Check-clause-read g c e =
    let fault = c.check_source.ensures.read e in
    (reads_check c.args.command (c.in-Some-Check.is ∙ ap Some c.in-Some-Check.field-0-is), fault.0, fault.1)

pub returns-in-Some-Analyse-clause-all : goal.returns-in-Some-Analyse-clause-all
returns-in-Some-Analyse-clause-all g c r w =
    subst (λ most. IsReadOut most (g.S.Source.left c.args.source.now) (g.S.Source.left c.answer_source.new.source))
    (longest_of_other c.args.command _ (c.in-Some-Analyse.is ∙ ap Some c.in-Some-Analyse.field-0-is) refl) (c.answer_source.ensures.all w)

pub returns-in-Some-Replay-clause-all : goal.returns-in-Some-Replay-clause-all
returns-in-Some-Replay-clause-all g c r w =
    subst (λ most. IsReadOut most (g.S.Source.left c.args.source.now) (g.S.Source.left c.answer_source-in-Some-Replay.new.source))
    (longest_of_other c.args.command _ (c.in-Some-Replay.is ∙ ap Some c.in-Some-Replay.field-0-is) refl) (c.answer_source-in-Some-Replay.ensures.all w)

pub returns-in-Some-Waits-clause-all : goal.returns-in-Some-Waits-clause-all
returns-in-Some-Waits-clause-all g c r w =
    subst (λ most. IsReadOut most (g.S.Source.left c.args.source.now) (g.S.Source.left c.answer_source-in-Some-Waits.new.source))
    (longest_of_other c.args.command _ (c.in-Some-Waits.is ∙ ap Some c.in-Some-Waits.field-0-is) refl) (c.answer_source-in-Some-Waits.ensures.all w)

pub returns-in-Some-Ranges-clause-all : goal.returns-in-Some-Ranges-clause-all
returns-in-Some-Ranges-clause-all g c r w =
    subst (λ most. IsReadOut most (g.S.Source.left c.args.source.now) (g.S.Source.left c.answer_source-in-Some-Ranges.new.source))
    (longest_of_other c.args.command _ (c.in-Some-Ranges.is ∙ ap Some c.in-Some-Ranges.field-0-is) refl) (c.answer_source-in-Some-Ranges.ensures.all w)

pub returns-in-Some-Certify-clause-all : goal.returns-in-Some-Certify-clause-all
returns-in-Some-Certify-clause-all g c r w =
    subst (λ most. IsReadOut most (g.S.Source.left c.args.source.now) (g.S.Source.left c.answer_source-in-Some-Certify.new.source))
    (longest_of_other c.args.command _ (c.in-Some-Certify.is ∙ ap Some c.in-Some-Certify.field-0-is) refl) (c.answer_source-in-Some-Certify.ensures.all w)

pub returns-in-Some-Check-clause-all : goal.returns-in-Some-Check-clause-all
returns-in-Some-Check-clause-all g c r w =
    subst (λ most. IsReadOut most (g.S.Source.left c.args.source.now) (g.S.Source.left c.check_source.new.source))
    (longest_of_check c.args.command (c.in-Some-Check.is ∙ ap Some c.in-Some-Check.field-0-is)) (c.check_source.ensures.all w)
