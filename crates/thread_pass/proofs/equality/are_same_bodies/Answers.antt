use Rattle.std.proofs.Common.{◌≡◌, ◌<◌, length, get_or, ap, sym, ◌∙◌, arith, refl}
use Rattle.std.proofs.lemmas.Bool.{false≢true}
use Rattle.program_equality.specs.temporary_types.PointerMarks.{pointer_marks}
use Rattle.flow_graph.specs.declared.graphs.Graph.{Graph}
use Rattle.program_systems.specs.body_systems.Facts.{Facts}
use Rattle.program_equality.specs.temporary_types.Temporaries.{temporaries_in}
use Rattle.thread_pass.proofs.SameBodies.{none_yet, counts, bodies_are, one_more, all_same}
use Rattle.thread_pass.proofs.equality.are_same_bodies.Goals as goal

pub returns-then-len : goal.returns-then-len
returns-then-len c = (
  λ no. absurd (false≢true no),
  λ e. (let same = counts c.args.one.now.graphs.graphs.items c.args.other.now.graphs.graphs.items
      c.args.one.now.configured.items c.args.other.now.configured.items c.args.one_facts.now.bodies
      c.args.other_facts.now.bodies c.requires.one.count c.requires.other.count c.requires.one_facts.count
      c.requires.other_facts.count e in
      absurd (omega (
        arith,
        same,
        c.if-len.true,
        c.len.ensures,
        c.len-2.ensures,
        c.args.one.now.graphs.graphs.ok.0,
        c.args.other.now.graphs.graphs.ok.0,
      ))),
)

pub is_same_body-requires-clause-one : goal.is_same_body-requires-clause-one
is_same_body-requires-clause-one c =
    let one = c.args.one.now in
    let other = c.args.other.now in
    let ones = c.args.one_facts.now in
    let others = c.args.other_facts.now in
    let n = c.loop-number.number in
    let in_one : n < length one.graphs.graphs.items = omega (
      arith,
      c.loop-number-test.true,
      c.loop-number.auto.number-end,
      c.len-number-end.ensures,
      one.graphs.graphs.ok.0,
    ) in
    let in_other : n < length other.graphs.graphs.items = omega (
      arith,
      in_one,
      c.if-len.false,
      c.len.ensures,
      c.len-2.ensures,
      one.graphs.graphs.ok.0,
      other.graphs.graphs.ok.0,
    ) in
    let f = c.index-bodies-number.result in
    let f' = c.index-bodies-number-in-loop-number.result in
    let f-is : f ≡ get_or ones.bodies n f =
    c.index-bodies-number.is ∙ ap (λ fs. get_or fs n f) c.bodies.ensures in
    let in_facts : n < length ones.bodies = omega (arith, in_one, c.requires.one_facts.count) in
    let are = c.requires.one_facts.each n c.index.result.now c.index-in-loop-number.result.now f in_facts in
    ap (λ (z : Facts). z.pointer_marks) f-is ∙ are.pointers
    ∙ ap (λ (x : Graph). pointer_marks x.edges.items (temporaries_in x.edges.items)) (sym c.index.ensures)

pub is_same_body-requires-clause-other : goal.is_same_body-requires-clause-other
is_same_body-requires-clause-other c =
    let one = c.args.one.now in
    let other = c.args.other.now in
    let ones = c.args.one_facts.now in
    let others = c.args.other_facts.now in
    let n = c.loop-number.number in
    let in_one : n < length one.graphs.graphs.items = omega (
      arith,
      c.loop-number-test.true,
      c.loop-number.auto.number-end,
      c.len-number-end.ensures,
      one.graphs.graphs.ok.0,
    ) in
    let in_other : n < length other.graphs.graphs.items = omega (
      arith,
      in_one,
      c.if-len.false,
      c.len.ensures,
      c.len-2.ensures,
      one.graphs.graphs.ok.0,
      other.graphs.graphs.ok.0,
    ) in
    let f = c.index-bodies-number.result in
    let f' = c.index-bodies-number-in-loop-number.result in
    let f'-is : f' ≡ get_or others.bodies n f' =
    c.index-bodies-number-in-loop-number.is ∙ ap (λ fs. get_or fs n f') c.bodies-in-loop-number.ensures in
    let in_facts : n < length others.bodies = omega (arith, in_other, c.requires.other_facts.count) in
    let are = c.requires.other_facts.each n c.index-in-loop-number-2.result.now c.index-in-loop-number-3.result.now f'
    in_facts in
    ap (λ (z : Facts). z.pointer_marks) f'-is ∙ are.pointers
    ∙ ap (λ (x : Graph). pointer_marks x.edges.items (temporaries_in x.edges.items)) (sym c.index-in-loop-number-2.ensures)

pub returns-then-not-is_same_body : goal.returns-then-not-is_same_body
returns-then-not-is_same_body c =
    let one = c.args.one.now in
    let other = c.args.other.now in
    let ones = c.args.one_facts.now in
    let others = c.args.other_facts.now in
    let n = c.loop-number.number in
    let in_one : n < length one.graphs.graphs.items = omega (
      arith,
      c.loop-number-test.true,
      c.loop-number.auto.number-end,
      c.len-number-end.ensures,
      one.graphs.graphs.ok.0,
    ) in
    let in_other : n < length other.graphs.graphs.items = omega (
      arith,
      in_one,
      c.if-len.false,
      c.len.ensures,
      c.len-2.ensures,
      one.graphs.graphs.ok.0,
      other.graphs.graphs.ok.0,
    ) in
    let f = c.index-bodies-number.result in
    let f' = c.index-bodies-number-in-loop-number.result in
    let f-is : f ≡ get_or ones.bodies n f =
    c.index-bodies-number.is ∙ ap (λ fs. get_or fs n f) c.bodies.ensures in
    let f'-is : f' ≡ get_or others.bodies n f' =
    c.index-bodies-number-in-loop-number.is ∙ ap (λ fs. get_or fs n f') c.bodies-in-loop-number.ensures in (
      λ no. absurd (false≢true no),
      λ e. absurd (false≢true (sym c.if-not-is_same_body.true ∙ c.is_same_body.ensures.1
          (bodies_are one.graphs.graphs.items other.graphs.graphs.items one.configured.items other.configured.items
          ones.bodies others.bodies c.requires.one.count c.requires.other.count c.requires.one_facts.count
          c.requires.other_facts.count n in_one in_other c.index.result.now c.index-in-loop-number-2.result.now
          c.index-in-loop-number.result.now c.index-in-loop-number-3.result.now f f' c.index.ensures
          c.index-in-loop-number-2.ensures c.index-in-loop-number.ensures c.index-in-loop-number-3.ensures f-is f'-is e))),
    )

pub loop-number-init : goal.loop-number-init
loop-number-init c = none_yet c.args.one.now.graphs.graphs.items c.args.other.now.graphs.graphs.items
    c.args.one.now.configured.items c.args.other.now.configured.items c.args.one_facts.now.bodies
    c.args.other_facts.now.bodies

pub loop-number-preserved : goal.loop-number-preserved
loop-number-preserved c =
    let one = c.args.one.now in
    let other = c.args.other.now in
    let ones = c.args.one_facts.now in
    let others = c.args.other_facts.now in
    let n = c.loop-number.number in
    let in_one : n < length one.graphs.graphs.items = omega (
      arith,
      c.loop-number-test.true,
      c.loop-number.auto.number-end,
      c.len-number-end.ensures,
      one.graphs.graphs.ok.0,
    ) in
    let in_other : n < length other.graphs.graphs.items = omega (
      arith,
      in_one,
      c.if-len.false,
      c.len.ensures,
      c.len-2.ensures,
      one.graphs.graphs.ok.0,
      other.graphs.graphs.ok.0,
    ) in
    let f = c.index-bodies-number.result in
    let f' = c.index-bodies-number-in-loop-number.result in
    let f-is : f ≡ get_or ones.bodies n f =
    c.index-bodies-number.is ∙ ap (λ fs. get_or fs n f) c.bodies.ensures in
    let f'-is : f' ≡ get_or others.bodies n f' =
    c.index-bodies-number-in-loop-number.is ∙ ap (λ fs. get_or fs n f') c.bodies-in-loop-number.ensures in
    one_more one.graphs.graphs.items other.graphs.graphs.items one.configured.items other.configured.items
    ones.bodies others.bodies c.requires.one.count c.requires.other.count c.requires.one_facts.count
    c.requires.other_facts.count n in_one in_other c.index.result.now c.index-in-loop-number-2.result.now
    c.index-in-loop-number.result.now c.index-in-loop-number-3.result.now f f' c.index.ensures
    c.index-in-loop-number-2.ensures c.index-in-loop-number.ensures c.index-in-loop-number-3.ensures f-is f'-is
    c.loop-number.invariant (c.is_same_body.ensures.0 c.if-not-is_same_body.false)

pub returns : goal.returns
returns c =
    let one = c.args.one.now in
    let other = c.args.other.now in
    let same : length one.graphs.graphs.items ≡ length other.graphs.graphs.items = omega (
      arith,
      c.if-len.false,
      c.len.ensures,
      c.len-2.ensures,
      one.graphs.graphs.ok.0,
      other.graphs.graphs.ok.0,
    ) in (
      λ yes. all_same one.graphs.graphs.items other.graphs.graphs.items one.configured.items other.configured.items
          c.args.one_facts.now.bodies c.args.other_facts.now.bodies same c.requires.one.count c.requires.other.count
          c.requires.one_facts.count c.requires.other_facts.count
          (λ t x x' y y' z z' lt. c.loop-number.invariant.each t x x' y y' z z'
          (omega (
            arith,
            lt,
            c.loop-number-test.false,
            c.loop-number.auto.number-end,
            c.len-number-end.ensures,
            one.graphs.graphs.ok.0,
          ))),
      λ e. refl,
    )
