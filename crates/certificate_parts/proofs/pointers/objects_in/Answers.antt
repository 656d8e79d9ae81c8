use Rattle.std.proofs.Common.{◌≡◌, ◌∙◌, ◌<◌, ◌+◌, ◌-◌, ap, length, take, drop, arith}
use Rattle.certificate_words.specs.Lines.{words_of}
use Rattle.certificate_parts.proofs.ObjectsRead.{objects_begin, bound_begin, lawful_from, whole_from, length_from}
use Rattle.certificate_parts.proofs.ObjectsRead.{objects_more, bound_more, objects_stuck, objects_whole}
use Rattle.certificate_parts.proofs.pointers.objects_in.Goals as goal

pub loop-at-init : goal.loop-at-init
loop-at-init c =
    record {
      front = objects_begin c.args.sizes.now (words_of c.args.words.now) c.new-objects.result c.new-objects.ensures;
      next = bound_begin c.args.sizes.now c.new-objects.result c.new-objects.ensures;
      within = omega arith;
    }

pub object_in-requires-clause-lawful : goal.object_in-requires-clause-lawful
object_in-requires-clause-lawful c =
    lawful_from (length c.args.words.now - c.loop-at.at) c.loop-at.at c.args.words.now c.requires.lawful

pub returns-in-None : goal.returns-in-None
returns-in-None c =
    let words = c.args.words.now in
    let at = c.loop-at.at in
    let n = length words - at in
    let l : at < length words = c.loop-at-test.true in
    let count : length (take n (drop at words)) ≡ n = length_from words n at (omega (arith, l)) in
    objects_stuck c.args.sizes.now words (take n (drop at words)) at c.loop-at.bound c.loop-at.objects
    c.loop-at.invariant.front c.loop-at.invariant.next (whole_from words n at (omega (arith, l))) (omega (arith, count, l))
    c.in-None.ensures.object

pub loop-at-preserved : goal.loop-at-preserved
loop-at-preserved c =
    let words = c.args.words.now in
    let at = c.loop-at.at in
    let n = length words - at in
    let l : at < length words = c.loop-at-test.true in
    let count : length (take n (drop at words)) ≡ n = length_from words n at (omega (arith, l)) in
    let long = c.in-Some.ensures.long in
    let is : take n (drop at words) ≡ drop at words = whole_from words n at (omega (arith, l)) in
    record {
      front = objects_more c.args.sizes.now words (take n (drop at words)) at c.loop-at.bound c.loop-at.objects
          c.put.new.self c.in-Some.found.0 c.in-Some.found.1 c.loop-at.invariant.front c.loop-at.invariant.next is
          c.in-Some.ensures.object c.in_ok-put-in-Some.ensures.written;
      next = ap (λ k. k + 1) c.from-bound.ensures
          ∙ bound_more c.args.sizes.now words (take n (drop at words)) at c.loop-at.bound c.loop-at.objects
          c.put.new.self c.in-Some.found.0 c.in-Some.found.1 c.loop-at.invariant.front c.loop-at.invariant.next is
          c.in-Some.ensures.object c.in_ok-put-in-Some.ensures.written;
      within = omega (arith, count, l, long);
    }

pub returns : goal.returns
returns c =
    objects_whole c.args.sizes.now c.args.words.now c.loop-at.at c.loop-at.objects c.loop-at.invariant.front
    c.loop-at-test.false
