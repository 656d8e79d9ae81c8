use Rattle.std.proofs.Common.{refl, ◌≡◌, ◌∙◌, ◌∷◌, suc, sym, arith}
use Rattle.tm_laid.specs.Layouts.{LaidTree, laid_tree}
use Rattle.flow_graph.specs.Graphs.{Edges}
use Rattle.flow_graph.specs.Runs.{Memory}
use Rattle.graph_positions.specs.Memories.{memory_of}
use Rattle.graph_positions.proofs.Ends.{answered_on, not_awaited, no_fit, run_from}
use Rattle.graph_positions.proofs.positions.Position.answer.Goals as goal

pub returns-in_ok-used-in-Some-clause-answered : goal.returns-in_ok-used-in-Some-clause-answered
returns-in_ok-used-in-Some-clause-answered c =
    let m : Memory = memory_of c.drift.new.self in
    let more = c.in_ok-used-in-Some.ensures.one.0 in
    let u : c.in_ok-used-in-Some.used ≡ suc c.drift.new.self.used = omega (arith, more) in
    answered_on (laid_tree c.args.laid.now) c.args.graph.now.edges.items c.args.self.now.node c.drift.new.self.node c.in-Awaits.edge c.in_ok-used-in-Some.used (memory_of c.args.self.now) m
    (memory_of c.go.new.self) c.go.new.self.node c.in-Awaits.action c.args.answer c.in-Some.value c.drift.result c.in-Awaits.is c.drift.ensures.step (sym c.answer_of.ensures ∙ c.in-Some.is) u
    c.go.ensures.node c.go.ensures.memory c.drift.ensures.reaches

pub returns-in-None-clause-answered : goal.returns-in-None-clause-answered
returns-in-None-clause-answered c =
    let laid : LaidTree = laid_tree c.args.laid.now in
    let g : Edges = c.args.graph.now.edges.items in (
      c.drift.ensures.reaches,
      λ answers. run_from laid g (c.args.answer ∷ answers) c.drift.ensures.reaches
          (not_awaited laid g c.drift.new.self.node c.in-Awaits.edge (memory_of c.drift.new.self) c.in-Awaits.action c.args.answer c.drift.result c.in-Awaits.is c.drift.ensures.step
          (sym c.answer_of.ensures ∙ c.in-None.is) answers),
    )

pub returns-in_default : goal.returns-in_default
returns-in_default c =
    let laid : LaidTree = laid_tree c.args.laid.now in
    let g : Edges = c.args.graph.now.edges.items in record {
      position = c.drift.ensures.position;
      answered = (
        c.drift.ensures.reaches,
        λ answers. run_from laid g (c.args.answer ∷ answers) c.drift.ensures.reaches
            (no_fit laid g c.drift.new.self.node (memory_of c.drift.new.self) c.args.answer c.drift.result c.in_default.not-Awaits c.drift.ensures.stop c.drift.ensures.step answers),
      );
      same = tt;
      room = λ h. refl;
    }
