use Rattle.std.proofs.Common.{◌≡◌, ℕ, ◌≤◌, ◌<◌, ◌∙◌, ap, sym, subst, arith}
use Rattle.std.specs.FinMap.{get, remove}
use Rattle.std.specs.Option.{MatchOption}
use Rattle.tm_lattice.specs.Tables.{IsPast, IsNext}
use Rattle.edge_effects.specs.calculations.transfer_rows.StateForms.{Cell}
use Rattle.memory_effects.proofs.Changing.{none_greater, another}
use Rattle.memory_effects.proofs.changes.next_cell.Goals as goal

pub returns-in-None : goal.returns-in-None
returns-in-None c = λ key le.
    let last : ℕ = 4294967295 in
    let cells = c.args.cells.now in
    let others : c.remove.new.self ≡ remove cells last = c.in_ok-remove.ensures.ok ∙ ap (λ t. remove t last) c.in_ok-others.ensures in
    let past : IsPast c.remove.new.self last = subst (λ o. MatchOption o (IsPast c.remove.new.self last) (λ e. IsNext c.remove.new.self last e.0 e.1.now)) c.in-None.is c.entry_from-2.ensures in
    none_greater cells last (subst (λ t. IsPast t last) others past) key (omega arith)

pub returns : goal.returns
returns c =
    let last : ℕ = 4294967295 in
    let cells = c.args.cells.now in
    let others : c.remove.new.self ≡ remove cells last = c.in_ok-remove.ensures.ok ∙ ap (λ t. remove t last) c.in_ok-others.ensures in
    let next = subst (λ o. MatchOption o (IsPast c.remove.new.self last) (λ e. IsNext c.remove.new.self last e.0 e.1.now)) c.in-Some.is c.entry_from-2.ensures in
    let far = next.at_least in
    let differ = another cells last c.in-Some.cell c.in-Some.field-0-1.now (subst (λ t. IsNext t last c.in-Some.cell c.in-Some.field-0-1.now) others next) in
    absurd (differ (omega arith))
