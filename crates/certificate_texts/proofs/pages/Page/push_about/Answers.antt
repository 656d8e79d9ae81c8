use Rattle.std.proofs.Common.{sym, ap}
use Rattle.std.proofs.lemmas.Result.{on_ok_weaker}
use Rattle.certificate_texts.specs.StateLines.{cell_lines, pending_lines, fresh_lines, stored_lines}
use Rattle.certificate_texts.specs.reading.Pages.{HasLines, kind_lines}
use Rattle.certificate_texts.proofs.Adding.{as_lines}
use Rattle.certificate_texts.proofs.pages.Page.push_about.Goals as goal

pub returns-in-Own : goal.returns-in-Own
returns-in-Own c =
    on_ok_weaker c.push_own.result (λ (h : HasLines c.args.self.now c.push_own.new.self (cell_lines (c.args.cell, c.args.entry.now))).
    as_lines h (ap (λ k. kind_lines k (c.args.cell, c.args.entry.now)) (sym c.in-Own.is))) c.push_own.ensures

pub returns-in-Pending : goal.returns-in-Pending
returns-in-Pending c =
    on_ok_weaker c.push_pending.result (λ (h : HasLines c.args.self.now c.push_pending.new.self (pending_lines (c.args.cell, c.args.entry.now))).
    as_lines h (ap (λ k. kind_lines k (c.args.cell, c.args.entry.now)) (sym c.in-Pending.is))) c.push_pending.ensures

pub returns-in-Fresh : goal.returns-in-Fresh
returns-in-Fresh c =
    on_ok_weaker c.push_mark.result (λ (h : HasLines c.args.self.now c.push_mark.new.self (fresh_lines (c.args.cell, c.args.entry.now))).
    as_lines h (ap (λ k. kind_lines k (c.args.cell, c.args.entry.now)) (sym c.in-Fresh.is))) c.push_mark.ensures

pub returns-in-Stored : goal.returns-in-Stored
returns-in-Stored c =
    on_ok_weaker c.push_mark-in-Stored.result (λ (h : HasLines c.args.self.now c.push_mark-in-Stored.new.self (stored_lines (c.args.cell, c.args.entry.now))).
    as_lines h (ap (λ k. kind_lines k (c.args.cell, c.args.entry.now)) (sym c.in-Stored.is))) c.push_mark-in-Stored.ensures
