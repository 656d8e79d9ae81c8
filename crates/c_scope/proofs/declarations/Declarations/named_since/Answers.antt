use Rattle.std.proofs.Common.{◌∙◌, ap, map, arith}
use Rattle.c_scope.proofs.Latest.{found_since, found_none_since}
use Rattle.c_scope.proofs.declarations.Declarations.named_since.Goals as goal

pub returns-then-position-start : goal.returns-then-position-start
returns-then-position-start g c =
    let name = g.D.Declaration.name in
    (found_since g.D.Declaration.meaning name c.args.name c.args.start c.self.inside.positions c.args.self.now c.last.result c.in-Some.position (c.self.invariant ∙ ap (map name) c.self.view_is) c.last.ensures c.in-Some.is).1 (omega arith)

pub returns-else-position-start : goal.returns-else-position-start
returns-else-position-start g c =
    let name = g.D.Declaration.name in
    c.at.ensures ∙ (found_since g.D.Declaration.meaning name c.args.name c.args.start c.self.inside.positions c.args.self.now c.last.result c.in-Some.position (c.self.invariant ∙ ap (map name) c.self.view_is) c.last.ensures c.in-Some.is).0 (omega arith)

pub returns-in-None : goal.returns-in-None
returns-in-None g c =
    let name = g.D.Declaration.name in
    found_none_since g.D.Declaration.meaning name c.args.name c.args.start c.self.inside.positions c.args.self.now c.last.result (c.self.invariant ∙ ap (map name) c.self.view_is) c.last.ensures c.in-None.is
