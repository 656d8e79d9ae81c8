use Rattle.std.proofs.Common.{sym, ap, subst, ◌∙◌, ◌++◌, append-nil}
use Rattle.std.specs.FinMap.{entries}
use Rattle.std.specs.Option.{MatchOption}
use Rattle.tm_lattice.specs.Tables.{IsPast, IsNext}
use Rattle.certificate_texts.specs.reading.Pages.{entries_of}
use Rattle.certificate_texts.proofs.Listing.{listed_next}
use Rattle.certificate_texts.proofs.Walking.{from_key, from_first, past_from}
use Rattle.certificate_texts.proofs.cells.listed_cells.Goals as goal

pub cells-init : goal.cells-init
cells-init c = ap (λ ls. entries_of ls ++ from_key 0 (entries c.args.cells.now)) c.new-listed.ensures.items
    ∙ from_first (entries c.args.cells.now)

pub cells-preserved : goal.cells-preserved
cells-preserved c =
    let cells = c.args.cells.now in
    let from = c.cells.from in
    let next = subst (λ o. MatchOption o (IsPast cells from) (λ e. IsNext cells from e.0 e.1.now)) c.in-Some.is
    c.in_ok-cell.ensures in
    listed_next cells c.cells.listed.items _ from c.from-from.result _ c.in_ok-push.ensures.items c.from-from.ensures next
    c.cells.invariant

pub returns : goal.returns
returns c =
    let cells = c.args.cells.now in
    let from = c.cells.from in
    let past = subst (λ o. MatchOption o (IsPast cells from) (λ e. IsNext cells from e.0 e.1.now)) c.in_default.is
    c.in_ok-cell.ensures in
    sym (append-nil (entries_of c.cells.listed.items))
    ∙ ap (λ t. entries_of c.cells.listed.items ++ t) (sym (past_from cells from past)) ∙ c.cells.invariant
