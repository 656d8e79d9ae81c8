use Rattle.std.proofs.Common.{rules, ap, ◌≡◌, ◌++◌, ◌-◌, ◌<◌, [], ◌∷◌, length}
use Rattle.tm_laid.specs.Layouts.{laid_tree}
use Rattle.source_names.specs.Paths.{calls_back}
use Rattle.source_names.specs.Paths.{lists_of}
use Rattle.source_names.proofs.PathCalls.{ends, goes_back}
use Rattle.source_names.proofs.paths.calls_back.Goals as goal

pub returns-in-None : goal.returns-in-None
returns-in-None c =
    let all = length c.args.laid.now.file.functions.items in
    let laid = laid_tree c.args.laid.now in
    let places = lists_of c.args.places.now in
    ends laid places (all - c.loop-step._step) c.loop-step.at c.path_at.result.caller c.loop-step.calls.items (calls_back laid places all c.args.path)
    (ap (λ p. p.caller) c.path_at.ensures) c.in-None.is c.loop-step.invariant

pub loop-step-preserved : goal.loop-step-preserved
loop-step-preserved c =
    let all = length c.args.laid.now.file.functions.items in
    let laid = laid_tree c.args.laid.now in
    let places = lists_of c.args.places.now in
    let below : c.loop-step._step < all = search rules in
    let pushed : c.push.new.self.items ≡ c.loop-step.calls.items ++ c.call_at.result ∷ [] = search rules in
    goes_back laid places all c.loop-step._step c.loop-step.at c.path_at.result.caller c.in-Some.caller c.path_at-in-Some.result.function c.call_at.result c.loop-step.calls.items c.push.new.self.items (calls_back laid places all c.args.path)
    below (ap (λ p. p.caller) c.path_at.ensures) c.in-Some.is (ap (λ p. p.function) c.path_at-in-Some.ensures) c.call_at.ensures pushed c.loop-step.invariant
