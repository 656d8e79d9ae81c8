use Rattle.std.proofs.Common.{List, refl, subst}
use Rattle.flow_graph.specs.declared.graphs.Edge.{Edge}
use Rattle.edge_origins.specs.declared.origins.EdgeOrigin.{EdgeOrigin}
use Rattle.edge_origins.specs.Bodies.{AreOf}
use Rattle.edge_origins.proofs.assembling.origins_along.Goals as goal

pub returns : goal.returns
returns c =
    let Es : List Edge → Type 0 = λ l. AreOf l c.deref-2.result.now in
    let Os : List EdgeOrigin → Type 0 = λ l. AreOf c.args.graph.now.edges.items l in
    record {
      edges = c.in_ok-edges.ensures;
      forms = subst Os c.deref-2.ensures.value (subst Es c.deref.ensures.value (c.if-not-are_forms.ensures.0 refl));
      operands = c.in_ok-gathered.ensures;
      reloads = c.in_ok-gathered-2.ensures;
      overwrites = c.in_ok-gathered-3.ensures;
      lives = c.in_ok-gathered-4.ensures;
      falls = c.in_ok-falls_of.ensures;
      passings = c.in_ok-gathered-5.ensures;
    }
