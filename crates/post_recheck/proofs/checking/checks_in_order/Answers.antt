use Rattle.std.proofs.Common.{◌<◌, subst, sym, arith}
use Rattle.std.proofs.lemmas.List.{length-map}
use Rattle.post_recheck.specs.Pairs.{pair_of}
use Rattle.post_recheck.proofs.Given.{number_small}
use Rattle.post_recheck.proofs.checking.checks_in_order.Goals as goal

pub overflow_cast-number : goal.overflow_cast-number
overflow_cast-number c =
    let tables = c.args.tables.now in
    let number = c.loop-number.number in
    let small = number_small c.args.program.now c.args.facts.now (pair_of tables c.args.store.now) c.args.entries.now
    c.requires number (subst (λ n. number < n) (sym (length-map tables (λ v. v.items))) c.loop-number-test.true) in
    omega (arith, small)
