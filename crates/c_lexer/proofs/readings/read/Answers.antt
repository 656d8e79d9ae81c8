use Rattle.std.proofs.Common.{◌≡◌, ◌≤◌, length, ◌+◌, arith}
use Rattle.std.proofs.lemmas.List.{length-take, length-drop}
use Rattle.c_lexer.proofs.AnswerLemmas.{Lexes-stopped}
use Rattle.c_lexer.proofs.KeptLemmas.{Stands-start, Stands-past}
use Rattle.c_lexer.proofs.readings.read.Goals as goal

pub loop-at-init : goal.loop-at-init
loop-at-init c = record {
  within = omega arith;
  line = omega arith;
  col = omega arith;
  counted = omega arith;
  few = omega arith;
  stands = rw c.new-tokens.ensures.items (Stands-start c.args.most c.args.bytes.now);
}

pub loop-at-preserved : goal.loop-at-preserved
loop-at-preserved c =
    let size : length c.front-text.result.now ≤ c.in-Some.piece.length = rw c.front-text.ensures (omega (arith, length-take c.in-Some.piece.length c.behind-rest.result.now)) in
    let rest : length c.behind-rest.result.now + c.loop-at.at ≡ length c.args.bytes.now = rw c.behind-rest.ensures (omega (arith, length-drop c.loop-at.at c.args.bytes.now)) in
    record {
      within = omega (arith, c.in-Some.ensures.within);
      line = omega arith;
      col = omega arith;
      counted = omega arith;
      few = c.in_ok-keep.ensures.few;
      stands =
          Stands-past c.args.most c.args.bytes.now c.loop-at.at c.loop-at.place c.place_after-place.result c.loop-at.bare c.bare_after-bare.result c.loop-at.tokens.items c.keep.new.tokens.items c.in-Some.piece c.behind-rest.result.now c.front-text.result.now
          c.loop-at.invariant.stands c.behind-rest.ensures c.in-Some.ensures.value c.in_ok-keep.ensures.kept c.front-text.ensures c.place_after-place.ensures.value c.bare_after-bare.ensures;
    }

pub returns-clause-whole : goal.returns-clause-whole
returns-clause-whole c =
    let same : c.loop-at.at ≡ length c.args.bytes.now = omega arith in
    (c.loop-at.place, c.loop-at.bare, rw same at c.loop-at.invariant.stands)

pub returns-in_default-clause-stops : goal.returns-in_default-clause-stops
returns-in_default-clause-stops c =
    Lexes-stopped c.args.bytes.now c.args.most c.loop-at.at c.loop-at.place c.loop-at.bare c.loop-at.tokens.items c.behind-rest.result.now c.lexical.result
    c.loop-at.invariant.stands (omega arith) c.behind-rest.ensures c.in_default.ensures.value c.lexical.ensures
