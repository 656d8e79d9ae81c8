use Rattle.std.proofs.Common.{◌≡◌, ◌≤◌, to_z, of_z, arith, rules}
use Rattle.std.specs.Int.{w128}
use Rattle.std.proofs.lemmas.Int.{to_z-of_z}
use Rattle.certificate_words.specs.Lines.{words_of}
use Rattle.certificate_parts.proofs.ObjectsRead.{outside, next_at, long_at, object_passed}
use Rattle.certificate_parts.proofs.pointers.object_in.Goals as goal

pub returns-in-None-clause-object : goal.returns-in-None-clause-object
returns-in-None-clause-object c =
    let p : to_z w128 (of_z w128 c.in-Some.number) ≡ c.in-Some.number = search (rules, to_z-of_z) in
    outside c.args.sizes.now c.args.bound (words_of c.args.words.now) c.in-Some.number (words_of c.in-Some.behind.now)
    c.in-Some.ensures c.in-Some-size_at.object c.in-Some-size_at.size
    (object_passed c.args.sizes.now c.in-Some.number _ c.in-Some-size_at.object c.in-Some-size_at.size p c.in-Some-size_at.ensures)
    c.in-Some-set_in.found.0 _ c.in-Some-set_in.ensures
    c.in-None.ensures

pub returns-in-Some-offsets_of-clause-object : goal.returns-in-Some-offsets_of-clause-object
returns-in-Some-offsets_of-clause-object c =
    let p : to_z w128 (of_z w128 c.in-Some.number) ≡ c.in-Some.number = search (rules, to_z-of_z) in
    let rises : c.args.bound ≤ c.in-Some-size_at.object = omega (arith, c.from.ensures) in
    next_at c.args.sizes.now c.args.bound c.args.words.now c.in-Some.number (words_of c.in-Some.behind.now)
    c.in-Some.ensures c.in-Some-size_at.object c.in-Some-size_at.size
    (object_passed c.args.sizes.now c.in-Some.number _ c.in-Some-size_at.object c.in-Some-size_at.size p c.in-Some-size_at.ensures)
    c.in-Some-set_in.found.0 _ c.in-Some-set_in.ensures c.in-Some-offsets_of.offsets rises
    c.in-Some-offsets_of.ensures

pub returns-in-Some-offsets_of-clause-long : goal.returns-in-Some-offsets_of-clause-long
returns-in-Some-offsets_of-clause-long c =
    let p : to_z w128 (of_z w128 c.in-Some.number) ≡ c.in-Some.number = search (rules, to_z-of_z) in
    let rises : c.args.bound ≤ c.in-Some-size_at.object = omega (arith, c.from.ensures) in
    long_at c.args.sizes.now c.args.bound c.args.words.now c.in-Some.number (words_of c.in-Some.behind.now)
    c.in-Some.ensures c.in-Some-size_at.object c.in-Some-size_at.size
    (object_passed c.args.sizes.now c.in-Some.number _ c.in-Some-size_at.object c.in-Some-size_at.size p c.in-Some-size_at.ensures)
    c.in-Some-set_in.found.0 _ c.in-Some-set_in.ensures c.in-Some-offsets_of.offsets rises
    c.in-Some-offsets_of.ensures
