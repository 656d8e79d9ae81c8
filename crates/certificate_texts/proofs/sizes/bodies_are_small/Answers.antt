use Rattle.std.proofs.Common.{◌≡◌, ◌<◌, ◌∙◌, ℕ, List, [], ap, subst, length, get_or, arith}
use Rattle.post_recheck.specs.body_systems.Facts.{Facts}
use Rattle.certificate_texts.specs.reading.Smalls.{AreSmall}
use Rattle.certificate_texts.proofs.Smallness.{bodies_next, lists_small}
use Rattle.certificate_texts.proofs.sizes.bodies_are_small.Goals as goal

pub loop-body-preserved : goal.loop-body-preserved
loop-body-preserved c =
    let configured = c.args.program.now.configured.items in
    let facts = c.args.facts.now.bodies in
    let body = c.loop-body.body in
    let here = c.index-bodies-body.result in
    let below : body < length facts =
    (let test = c.loop-body-test.true in let same = ap length c.bodies-body-end.ensures in omega (arith, test, same)) in
    let less : body < length configured =
    (let count = c.requires.analysable.count in let all = c.requires.facts.count in omega (arith, below, count, all)) in
    let is : here ≡ get_or facts body here =
    c.index-bodies-body.is ∙ ap (λ (fs : List Facts). get_or fs body here) c.bodies.ensures in
    let live = subst (λ (ls : List (List ℕ)). (place : ℕ) → place < length ls → AreSmall (get_or ls place [])) c.live.ensures
    (lists_small c.live.result.now c.lists_are_small.ensures) in
    bodies_next configured facts body c.index.result.now here less below c.index.ensures is
    (record { nodes = c.nodes_are_small.ensures; live = live }) c.loop-body.invariant

pub returns : goal.returns
returns c = λ t c' f less.
    (let end = c.loop-body-test.false in
    let same = ap length c.bodies-body-end.ensures in
    c.loop-body.invariant t c' f (omega (arith, less, end, same)))
