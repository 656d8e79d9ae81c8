-- What the code holds, as the definitions see it.
use Rattle.report_views.specs.Causes.{Answers}
use Rattle.report_view.specs.declared.readings.Readings.{Readings}
use Rattle.report_view.specs.declared.words.Asked.{Asked as AskedCode}
use Rattle.report_view.specs.declared.words.AskedLog.{AskedLog as AskedLogCode}
use Rattle.report_view.specs.declared.words.AskedRefusal.{AskedRefusal as AskedRefusalCode}
use Rattle.report_view.specs.Words.{Asked, AskedLog, AskedRefusal}

abbrev pub asked_seen : AskedCode → Asked
asked_seen asked = record { form = asked.form; text = asked.text.now; name = asked.name.now }

abbrev pub asked_log_seen : AskedLogCode → AskedLog
asked_log_seen asked =
    record {
      text = asked.text.now;
      name = asked.name.now;
      waits = asked.waits.now;
      dead = asked.dead.now;
      assumptions = asked.assumptions.now;
      ways = asked.ways.now;
      lines = asked.lines.now;
      folder = asked.folder.now;
      documents = asked.documents.now;
    }

abbrev pub asked_refusal_seen : AskedRefusalCode → AskedRefusal
asked_refusal_seen asked =
    record {
      text = asked.text.now;
      name = asked.name.now;
      lines = asked.lines.now;
      documents = asked.documents.now;
      line = asked.line.now;
      col = asked.col.now;
      word = asked.word.now;
      said = asked.said.now;
    }

-- the answers of the analyser that were read
abbrev pub answers_read : Readings → Answers
answers_read readings =
    record {
      report = readings.report.items;
      waits = readings.waits.items;
      dead = readings.dead.items;
      assumptions = readings.assumptions.items;
      ways = readings.ways.items;
    }
