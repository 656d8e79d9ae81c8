use Rattle.std.proofs.Common.{◌≡◌, ◌∙◌, None, Some, get_or, set, refl, sym}
use Rattle.edge_origins.proofs.Putting.{nothing_there, put_one}
use Rattle.edge_origins.proofs.edges.put.Goals as goal

pub returns-else-is_some : goal.returns-else-is_some
returns-else-is_some c =
    let old = c.args.origins.now.items in
    let look = c.in-Some.ensures.item in
    let free : get_or old c.args.number None ≡ None =
    sym (look.3.1 None) ∙ nothing_there c.in-Some.place.now c.if-is_some.ensures in
    put_one old c.args.number c.args.origin look.3.0 free (set old c.args.number (Some c.args.origin)) refl
