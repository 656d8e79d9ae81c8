use Rattle.pointer_dom.proofs.pointer_set.PointerSetLattice.below.Goals as goal

pub returns : goal.returns
returns c = rw (← c.self.view_is, ← c.other.view_is) (
  λ e. record {
    null = c.implies.ensures.0 c.if-not-implies.false;
    invalid = c.implies-2.ensures.0 c.if-not-implies-2.false;
    objects = c.below.ensures.0 e;
  },
  λ h. c.below.ensures.1 h.objects,
)
