use Rattle.report_view.specs.reading.Seen.{answers_read}
use Rattle.report_view.proofs.Fronts.{in_front}
use Rattle.report_view.proofs.logs.answer_log.Goals as goal

pub returns-in-Ok-clause-logged : goal.returns-in-Ok-clause-logged
returns-in-Ok-clause-logged g c =
    λ e. record {
      answers = answers_read c.in-Ok.readings;
      text = c.in-Ok.readings.text.items;
      lines = c.in-Ok.readings.lines.items;
      read = c.in-Ok.ensures.read;
      holds = c.tell_log.ensures.logged e;
    }

pub returns-in-Ok-clause-refused : goal.returns-in-Ok-clause-refused
returns-in-Ok-clause-refused g c =
    λ e. (
      record {
        answers = answers_read c.in-Ok.readings;
        text = c.in-Ok.readings.text.items;
        lines = c.in-Ok.readings.lines.items;
        read = c.in-Ok.ensures.read;
        holds = (c.tell_log.ensures.refused e).0;
      },
      (c.tell_log.ensures.refused e).1,
    )

pub returns-in-Ok-clause-front : goal.returns-in-Ok-clause-front
returns-in-Ok-clause-front g c =
    in_front (λ front. record {
      answers = answers_read c.in-Ok.readings;
      text = c.in-Ok.readings.text.items;
      lines = c.in-Ok.readings.lines.items;
      read = c.in-Ok.ensures.read;
      holds = front;
    }) c.tell_log.ensures.front
