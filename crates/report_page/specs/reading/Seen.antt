-- What the code holds, as the definitions see it.
use Rattle.report_page.specs.declared.words.Asked.{Asked as AskedCode}
use Rattle.report_page.specs.Words.{Asked}

abbrev pub asked_seen : AskedCode → Asked
asked_seen asked =
    record {
      text = asked.text.now;
      name = asked.name.now;
      tables = asked.tables.now;
      notes = asked.notes.now;
      lines = asked.lines.now;
      remarks = asked.remarks.now;
    }
