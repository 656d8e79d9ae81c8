use Rattle.std.proofs.Common.{ap, sym, subst, ◌∙◌, ◌+◌, arith}
use Rattle.std.proofs.lemmas.Bool.{false≢true}
use Rattle.std.specs.FinMap.{entries}
use Rattle.certificate_reading.specs.Nesting.{AllBelow}
use Rattle.certificate_reading.proofs.Rising.{entries_last, below_raise, below_more}
use Rattle.certificate_reading.proofs.growing.put_behind.Goals as goal

pub returns-then-is_nothing-clause-below : goal.returns-then-is_nothing-clause-below
returns-then-is_nothing-clause-below g c =
    below_raise c.args.key (c.args.key + 1) (entries c.args.table.now) (omega arith) c.requires

pub returns-clause-some : goal.returns-clause-some
returns-clause-some g c =
    λ some. ap entries (c.in_ok-put.ensures.written some)
    ∙ entries_last c.args.table.now c.args.key c.args.value c.requires

pub returns-clause-below : goal.returns-clause-below
returns-clause-below g c =
    let some : g.V.Lattice.nothing c.args.value → ⊥ = λ none. false≢true (c.if-is_nothing.ensures.nothing.1 none) in
    subst (AllBelow (c.args.key + 1)) (sym (ap entries (c.in_ok-put.ensures.written some)
    ∙ entries_last c.args.table.now c.args.key c.args.value c.requires))
    (below_more c.args.key (entries c.args.table.now) c.args.value c.requires)
