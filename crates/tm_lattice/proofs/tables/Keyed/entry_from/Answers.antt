use Rattle.std.proofs.Common.{◌≡◌, length, sym, subst, arith}
use Rattle.tm_lattice.specs.Tables.{IsPast, IsNext}
use Rattle.tm_lattice.proofs.Search.{past_end, next_there}
use Rattle.tm_lattice.proofs.tables.Keyed.entry_from.Goals as goal

pub returns-then-at-len : goal.returns-then-at-len
returns-then-at-len g c =
    let items = c.self.inside.entries.items in
    let entry = c.index-entry.result.now in
    let len : length items ≡ c.self.inside.entries.len = sym c.self.inside.entries.ok.0 in
    subst (λ t. IsNext t c.args.key entry.0 entry.1) c.self.view_is
    (next_there items c.args.key c.place_from-at.result entry c.self.invariant.sorted (rw c.deref.ensures.value at c.place_from-at.ensures) (omega (arith, c.len.ensures)) c.index-entry.ensures)

pub returns-else-at-len : goal.returns-else-at-len
returns-else-at-len g c =
    let items = c.self.inside.entries.items in
    let len : length items ≡ c.self.inside.entries.len = sym c.self.inside.entries.ok.0 in
    subst (λ t. IsPast t c.args.key) c.self.view_is
    (past_end items c.args.key c.place_from-at.result c.self.invariant.sorted (rw c.deref.ensures.value at c.place_from-at.ensures) (omega (arith, c.len.ensures)))
