use Rattle.std.proofs.Common.{inl, inr, refl, rules}
use Rattle.report_page.specs.Answers.{IsPageRead}
use Rattle.report_page.proofs.top.answer.Goals as goal

pub returns-in-Ok-clause-shown : goal.returns-in-Ok-clause-shown
returns-in-Ok-clause-shown g c =
    let read :
    IsPageRead c.args.asked.name.now
    (g.R.Source.left c.args.report.now) (g.R.Source.left c.read_whole.new.source)
    (g.T.Source.left c.args.text.now) (g.T.Source.left c.read_whole-2.new.source)
    (g.A.Source.left c.args.tables.now) (g.A.Source.left c.read_whole-3.new.source)
    (g.N.Source.left c.args.notes.now) (g.N.Source.left c.read_whole-4.new.source)
    (g.L.Source.left c.args.lines.now) (g.L.Source.left c.read_whole-5.new.source)
    (g.M.Source.left c.args.remarks.now) (g.M.Source.left c.read_whole-6.new.source) c.in-Ok.page.items =
    search rules in
    λ e. record { page = c.in-Ok.page.items; is = read; appended = search (rules, c.give.ensures.whole e) }

pub returns-in-Ok-clause-refused : goal.returns-in-Ok-clause-refused
returns-in-Ok-clause-refused g c = λ e. absurd (c.give.ensures.others.0 e)

pub returns-in-Ok-clause-front : goal.returns-in-Ok-clause-front
returns-in-Ok-clause-front g c = inr (record { page = c.in-Ok.page.items; is = search rules; front = search rules })

pub returns-in-Ok-clause-write : goal.returns-in-Ok-clause-write
returns-in-Ok-clause-write g c = λ e. inl (c.give.ensures.write e)

pub returns-in-Err-Refused-clause-shown : goal.returns-in-Err-Refused-clause-shown
returns-in-Err-Refused-clause-shown g c = λ e. absurd (c.tell.ensures.others.0 e)

pub returns-in-Err-Refused-clause-others : goal.returns-in-Err-Refused-clause-others
returns-in-Err-Refused-clause-others g c = (c.tell.ensures.others.1, c.tell.ensures.others.3)

pub returns-in-Err-Refused-clause-refused : goal.returns-in-Err-Refused-clause-refused
returns-in-Err-Refused-clause-refused g c =
    λ e. (
      record {
        report = c.read_whole.new.bytes.items;
        texts = record {
          name = c.args.asked.name.now;
          text = c.read_whole-2.new.bytes.items;
          tables = c.read_whole-3.new.bytes.items;
          notes = c.read_whole-4.new.bytes.items;
          lines = c.read_whole-5.new.bytes.items;
          remarks = c.read_whole-6.new.bytes.items;
        };
        read = record {
          named = refl;
          report_read = search rules;
          text_read = search rules;
          tables_read = search rules;
          notes_read = search rules;
          lines_read = search rules;
          remarks_read = search rules;
        };
        cause = c.in-Err-Refused.cause;
        is = search rules;
        appended = search (rules, c.tell.ensures.whole e);
      },
      refl,
    )
