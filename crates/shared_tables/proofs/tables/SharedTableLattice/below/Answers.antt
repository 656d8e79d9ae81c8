use Rattle.std.proofs.Common.{◌∙◌, sym, subst, refl}
use Rattle.tm_lattice.specs.Tables.{IsTableBelow}
use Rattle.shared_tables.proofs.Empties.{empty_below, below_empty, is_empty_below}
use Rattle.shared_tables.proofs.tables.SharedTableLattice.below.Goals as goal

pub returns-in-None-default : goal.returns-in-None-default
returns-in-None-default g c =
    let leq = g.V.Lattice.leq in
    let none = rw c.in-None-default.is-0 at c.self.view_is in
    (λ yes. subst (λ t. IsTableBelow leq t c.args.other.now) none (empty_below leq c.args.other.now), λ below. refl)

pub returns-in-Some-None : goal.returns-in-Some-None
returns-in-Some-None g c =
    let leq = g.V.Lattice.leq in
    let self_is = rw c.in-Some-None.is-0 at c.self.view_is in
    let none = rw c.in-Some-None.is-1 at c.other.view_is in (
      λ yes. subst (λ t. IsTableBelow leq c.args.self.now t) none
          (is_empty_below leq c.args.self.now (sym self_is ∙ sym c.deref.ensures ∙ c.is_nothing.ensures.nothing.0 yes)),
      λ below. c.is_nothing.ensures.nothing.1
          (c.deref.ensures ∙ self_is ∙ below_empty leq c.args.self.now (subst (λ t. IsTableBelow leq c.args.self.now t) (sym none) below)),
    )
