use Rattle.std.proofs.Common.{inl, inr, rules, subst, sym}
use Rattle.report_baseline.specs.Answers.{IsAnswerRead}
use Rattle.report_baseline.proofs.top.answer.Goals as goal

pub returns-in-Ok-clause-shown : goal.returns-in-Ok-clause-shown
returns-in-Ok-clause-shown g c =
    let read :
    IsAnswerRead c.args.form
    (g.N.Source.left c.args.new.now) (g.N.Source.left c.read_whole.new.source)
    (g.R.Source.left c.args.remarks.now) (g.R.Source.left c.read_whole-2.new.source)
    (g.O.Source.left c.args.old.now) (g.O.Source.left c.read_whole-3.new.source)
    c.in-Ok.reply.is_worse c.in-Ok.reply.text.items =
    search rules in
    λ worse e. record {
      text = c.in-Ok.reply.text.items;
      is = subst (λ w. IsAnswerRead c.args.form
          (g.N.Source.left c.args.new.now) (g.N.Source.left c.read_whole.new.source)
          (g.R.Source.left c.args.remarks.now) (g.R.Source.left c.read_whole-2.new.source)
          (g.O.Source.left c.args.old.now) (g.O.Source.left c.read_whole-3.new.source)
          w c.in-Ok.reply.text.items) (sym (c.show.ensures.whole worse e).0) read;
      appended = (c.show.ensures.whole worse e).1;
    }

pub returns-in-Ok-clause-refused : goal.returns-in-Ok-clause-refused
returns-in-Ok-clause-refused g c = λ e. absurd (c.show.ensures.others.0 e)

pub returns-in-Ok-clause-front : goal.returns-in-Ok-clause-front
returns-in-Ok-clause-front g c =
    inr (record {
      worse = c.in-Ok.reply.is_worse;
      text = c.in-Ok.reply.text.items;
      is = search rules;
      front = search rules;
    })

pub returns-in-Ok-clause-write : goal.returns-in-Ok-clause-write
returns-in-Ok-clause-write g c = λ e. inl (c.show.ensures.write e)

pub returns-in-Err-Refused-clause-shown : goal.returns-in-Err-Refused-clause-shown
returns-in-Err-Refused-clause-shown g c = λ worse e. absurd (c.tell.ensures.others worse e)
