use Rattle.std.proofs.Common.{sym, ◌∙◌}
use Rattle.std.proofs.lemmas.Bool.{false≢true}
use Rattle.strided_dom.proofs.Reach.{kept}
use Rattle.pointer_dom.proofs.OffsetFacts.{ends_are}
use Rattle.pointer_dom.proofs.offsets.Offsets.ends.Goals as goal

pub returns : goal.returns
returns c =
    rw (kept c.lo.ensures.in_reach, kept c.hi.ensures.in_reach)
    (ends_are c.args.self.now c.set-set.result c.lo.result c.hi.result c.set-set.ensures.value c.set-set.ensures.within
    (λ none. false≢true (sym c.if-is_empty.false ∙ c.is_empty.ensures.1 none))
    c.lo.ensures.least c.lo.ensures.value c.hi.ensures.greatest c.hi.ensures.value)
