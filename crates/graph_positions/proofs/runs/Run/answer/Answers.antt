use Rattle.tm_laid.specs.Layouts.{laid_tree}
use Rattle.graph_positions.proofs.RunSteps.{on_err, answered_run, misfit_run, same_run, still_misfit}
use Rattle.graph_positions.proofs.runs.Run.answer.Goals as goal

pub returns-then-not-self-clause-more : goal.returns-then-not-self-clause-more
returns-then-not-self-clause-more c = λ answers after.
    still_misfit (laid_tree c.args.laid.now) c.args.graph.now.edges.items c.args.graph.now.nodes answers c.args.answer c.args.self.now c.if-not-self.true after

pub returns-in_err-answer-clause-same : goal.returns-in_err-answer-clause-same
returns-in_err-answer-clause-same c =
    on_err c.from_residual.result _ (λ answers after.
    same_run (laid_tree c.args.laid.now) c.args.graph.now.edges.items c.args.graph.now.nodes answers c.args.answer c.args.self.now c.answer.new.self c.if-not-self.false after
    c.in_err-answer.ensures.position c.in_err-answer.ensures.same)

pub returns-then-branch-clause-more : goal.returns-then-branch-clause-more
returns-then-branch-clause-more c = λ answers after.
    answered_run (laid_tree c.args.laid.now) c.args.graph.now.edges.items c.args.graph.now.nodes answers c.args.answer c.args.self.now c.answer.new.self c.advance-self.new.self
    c.advance-self.result c.in_ok-answer.field-0 c.if-not-self.false c.if-branch.true after c.in_ok-answer.ensures.answered c.advance-self.ensures.position c.advance-self.ensures.reaches
    c.advance-self.ensures.stands

pub returns-else-branch-clause-more : goal.returns-else-branch-clause-more
returns-else-branch-clause-more c = λ answers after.
    misfit_run (laid_tree c.args.laid.now) c.args.graph.now.edges.items c.args.graph.now.nodes answers c.args.answer c.args.self.now c.answer.new.self c.in_ok-answer.field-0
    c.if-not-self.false c.if-branch.false after c.in_ok-answer.ensures.answered c.in_ok-answer.ensures.position
