use Rattle.std.proofs.Common.{◌∙◌, ap, sym, map, take}
use Rattle.std.proofs.lemmas.List.{take-map}
use Rattle.c_scope.proofs.declarations.Declarations.truncate.Goals as goal

pub invariant_of-self : goal.invariant_of-self
invariant_of-self g c =
    let name = g.D.Declaration.name in
    c.truncate.ensures ∙ ap (λ ns. take c.args.len ns) c.self.invariant ∙ take-map name c.args.len c.self.inside.declarations.items
    ∙ ap (map name) (sym c.truncate-2.ensures.items)
