-- What the code holds, as the definitions see it.
use Rattle.std.specs.Prelude.{ℕ, List, [], Option, None, Some}
use Rattle.std.specs.Borrow.{Bor}
use Rattle.source_marks.specs.Marks.{lines_of}
use Rattle.report_pages.specs.Pages.{Texts}
use Rattle.report_pages.specs.declared.pages.Texts.{Texts as TextsCode}

abbrev pub bytes_seen : Bor (List ℕ) → List ℕ
bytes_seen bytes = bytes.now

-- the lines of what stands behind a line, if anything does
abbrev pub lines_behind : Option (Bor (List ℕ)) → List (List ℕ)
lines_behind None = []
lines_behind (Some rest) = lines_of rest.now

abbrev pub texts_seen : TextsCode → Texts
texts_seen texts =
    record {
      name = texts.name.now;
      text = texts.text.now;
      tables = texts.tables.now;
      notes = texts.notes.now;
      lines = texts.lines.now;
      remarks = texts.remarks.now;
    }
