use Rattle.std.proofs.Common.{◌≡◌, ◌∙◌, sym, subst, is_ok}
use Rattle.std.specs.List.Sorted.{IsStrictlyIncreasing}
use Rattle.cell_placings.specs.CellLists.{is_in}
use Rattle.cell_placings.proofs.Members.{has_found}
use Rattle.cell_placings.proofs.cell_sets.CellSet.has.Goals as goal

pub returns : goal.returns
returns c =
    let found = has_found c.deref.result.now c.args.cell c.binary_search.result c.binary_search.ensures.position
    (subst IsStrictlyIncreasing (sym c.deref.ensures.value) c.self.invariant) in
    c.is_ok.ensures.value
    ∙ subst (λ xs. is_ok c.binary_search.result ≡ is_in xs c.args.cell) (c.deref.ensures.value ∙ c.self.view_is) found
