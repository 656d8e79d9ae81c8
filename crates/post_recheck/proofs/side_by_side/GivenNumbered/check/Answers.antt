use Rattle.std.proofs.Common.{◌<◌, subst, sym, arith}
use Rattle.std.proofs.lemmas.List.{length-map}
use Rattle.post_recheck.specs.Pairs.{pair_of}
use Rattle.post_recheck.proofs.Given.{number_small}
use Rattle.post_recheck.proofs.side_by_side.GivenNumbered.check.Goals as goal

pub overflow_cast-number : goal.overflow_cast-number
overflow_cast-number c =
    let given = c.args.self.now in
    let tables = given.tables.now in
    let number = c.args.number in
    let small = number_small given.program.now given.facts.now (pair_of tables given.store.now) given.entries.now
    c.requires.1 number (subst (λ n. number < n) (sym (length-map tables (λ v. v.items))) c.requires.0) in
    omega (arith, small)
