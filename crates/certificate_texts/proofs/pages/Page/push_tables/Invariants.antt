use Rattle.std.proofs.Common.{take}
use Rattle.std.specs.List.{enumerate_from, flat_map}
use Rattle.post_recheck.specs.Pairs.{lists_of}
use Rattle.certificate_texts.specs.TableLines.{table_lines}
use Rattle.certificate_texts.specs.reading.Pages.{HasLines}
use Rattle.certificate_texts.proofs.pages.Page.push_tables.Given as goal

-- the lines of the tables so far are there
abbrev pub invariant-loop-body : goal.invariant-loop-body
invariant-loop-body l =
    HasLines l.initial.self l.self (flat_map table_lines (take l.body (enumerate_from 0 (lists_of l.tables))))
