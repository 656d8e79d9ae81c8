use Rattle.std.proofs.Common.{◌∙◌, ap, map}
use Rattle.c_scope.proofs.Latest.{found_at, found_none}
use Rattle.c_scope.proofs.declarations.Declarations.named.Goals as goal

pub returns-in-Some : goal.returns-in-Some
returns-in-Some g c =
    let name = g.D.Declaration.name in
    c.at.ensures ∙ found_at g.D.Declaration.meaning name c.args.name c.self.inside.positions c.args.self.now c.last.result c.in-Some.position (c.self.invariant ∙ ap (map name) c.self.view_is) c.last.ensures c.in-Some.is

pub returns-in-None : goal.returns-in-None
returns-in-None g c =
    let name = g.D.Declaration.name in
    found_none g.D.Declaration.meaning name c.args.name c.self.inside.positions c.args.self.now c.last.result (c.self.invariant ∙ ap (map name) c.self.view_is) c.last.ensures c.in-None.is
