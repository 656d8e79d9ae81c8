use Rattle.std.proofs.Common.{◌∙◌, ℕ, sym, ap, Some}
use Rattle.std.specs.Ordering.{nat_cmp}
use Rattle.std.specs.FinMap.{get, get-from_sorted}
use Rattle.tm_lattice.proofs.Search.{find_at, find_gap}
use Rattle.tm_lattice.proofs.tables.Keyed.get.Goals as goal

-- the entry that was read is that of the key
pub returns-in-Ok : goal.returns-in-Ok
returns-in-Ok g c =
    let items = c.self.inside.entries.items in
    let read = c.index.result.now in
    let stands = find_at items c.args.key c.in-Ok.at read c.self.invariant.sorted (rw c.deref.ensures.value at c.in-Ok.ensures.found) in
    sym (ap (λ t. get t c.args.key) (sym c.self.view_is) ∙ get-from_sorted nat_cmp items c.args.key c.self.invariant.sorted ∙ stands
    ∙ ap (λ (e : ℕ × g.row.V.Denot). Some e.1) (sym c.index.ensures))

-- no entry has the key
pub returns-in-Err : goal.returns-in-Err
returns-in-Err g c =
    let items = c.self.inside.entries.items in
    sym (ap (λ t. get t c.args.key) (sym c.self.view_is) ∙ get-from_sorted nat_cmp items c.args.key c.self.invariant.sorted
    ∙ find_gap items c.args.key c.in-Err.field-0 (rw c.deref.ensures.value at c.in-Err.ensures.absent))
