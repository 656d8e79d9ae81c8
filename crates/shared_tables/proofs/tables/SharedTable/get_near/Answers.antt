use Rattle.std.proofs.Common.{◌≡◌, ◌∙◌, ◌<◌, length, T, sym, ap, subst, arith}
use Rattle.std.specs.Ordering.{nat_cmp}
use Rattle.std.specs.FinMap.{find, is_sorted, get, get-empty, get-entries, entries, entries_sorted}
use Rattle.std.proofs.lemmas.List.{get_or_default}
use Rattle.tm_lattice.proofs.Search.{find_at}
use Rattle.tm_lattice.specs.reading.Listed.{IsAt}
use Rattle.shared_tables.proofs.tables.SharedTable.get_near.Goals as goal

pub returns-in-None : goal.returns-in-None
returns-in-None g c =
    let none = rw c.in-None.is at c.self.view_is in
    sym (ap (λ t. get t c.args.key) (sym none) ∙ get-empty nat_cmp c.args.key)

-- the entry that was read is that of the key
pub returns-then-listed-number : goal.returns-then-listed-number
returns-then-listed-number g c =
    let table = c.args.self.now in
    let key = c.args.key in
    let number = c.args.number in
    let items = c.entries-listed.result.now in
    let some = rw c.in-Some.is at c.self.view_is in
    let same : items ≡ entries table = c.entries-listed.ensures ∙ ap entries (c.deref.ensures ∙ some) in
    let lt : number < length items = omega (arith, c.if-number-listed.true) in
    let at : IsAt items key number = record {
      in_range = lt;
      has_key = λ d. ap (λ x. x.0) (get_or_default items number d c.index-listed-number.result lt)
          ∙ c.if-listed-number.true;
    } in
    let sorted : T (is_sorted nat_cmp items) =
    subst (λ es. T (is_sorted nat_cmp es)) (sym same) (entries_sorted table) in
    sym (get-entries table key ∙ ap (find nat_cmp key) (sym same)
    ∙ find_at items key number c.index-listed-number-then-listed-number.result sorted at)
