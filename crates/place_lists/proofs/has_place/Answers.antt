use Rattle.std.proofs.Common.{sym, ◌∙◌}
use Rattle.place_lists.proofs.Sorting.{found}
use Rattle.place_lists.proofs.has_place.Goals as goal

pub returns : goal.returns
returns c =
    let both = found c.args.places.now c.args.place c.requires c.binary_search.result c.binary_search.ensures.bound
    c.binary_search.ensures.position in
    (λ e. both.0 (sym c.is_ok.ensures.value ∙ e), λ h. c.is_ok.ensures.value ∙ both.1 h)
