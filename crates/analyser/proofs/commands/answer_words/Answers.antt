use Rattle.std.proofs.Common.{sym, subst}
use Rattle.analyser.specs.Headline.{CommandGives, Reads, longest_of}
use Rattle.program_streams.specs.Streams.{IsReadOut}
use Rattle.program_streams.specs.Taken.{Answers, TakesNoMore}
use Rattle.analyser.specs.reading.Manners.{IsServed}
use Rattle.analyser.proofs.commands.answer_words.Goals as goal

pub answer_command-requires : goal.answer_command-requires
answer_command-requires g c = record {
  served = subst (IsServed (g.V.Solver.serves c.args.solver.now)) (sym c.in-Ok.ensures.command) c.requires.served;
}

pub returns-in-Ok-clause-headline : goal.returns-in-Ok-clause-headline
returns-in-Ok-clause-headline g c h =
    subst (λ k. Answers (CommandGives k) (g.S.Source.left c.args.source.now) (g.K.Sink.taken c.args.out.now)
    (g.K.Sink.taken c.answer_command.new.out) c.answer_command.result) c.in-Ok.ensures.command
    (c.answer_command.ensures.headline h)

pub returns-in-Ok-clause-front : goal.returns-in-Ok-clause-front
returns-in-Ok-clause-front g c =
    subst (λ k. TakesNoMore (CommandGives k) (g.S.Source.left c.args.source.now) (g.K.Sink.taken c.args.out.now)
    (g.K.Sink.taken c.answer_command.new.out)) c.in-Ok.ensures.command c.answer_command.ensures.front

pub returns-in-Ok-clause-all : goal.returns-in-Ok-clause-all
returns-in-Ok-clause-all g c r w =
    subst (λ k. IsReadOut (longest_of k) (g.S.Source.left c.args.source.now) (g.S.Source.left c.answer_command.new.source))
    c.in-Ok.ensures.command (c.answer_command.ensures.all (subst Reads (sym c.in-Ok.ensures.command) r) w)

pub returns-in-Ok-clause-unread : goal.returns-in-Ok-clause-unread
returns-in-Ok-clause-unread g c none =
    c.answer_command.ensures.unread (λ r. none (subst Reads c.in-Ok.ensures.command r))

pub returns-in-Ok-clause-read : goal.returns-in-Ok-clause-read
returns-in-Ok-clause-read g c e =
    let fault = c.answer_command.ensures.read e in
    (subst Reads c.in-Ok.ensures.command fault.0, fault.1, fault.2)
