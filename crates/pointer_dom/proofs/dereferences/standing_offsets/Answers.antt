use Rattle.std.proofs.Common.{sym, ◌∙◌}
use Rattle.std.proofs.lemmas.Bool.{false≢true}
use Rattle.pointer_dom.proofs.StandingFacts.{none_alive, none_reached, some_alive}
use Rattle.pointer_dom.proofs.dereferences.standing_offsets.Goals as goal

pub returns-then-not-is_alive-clause-offsets : goal.returns-then-not-is_alive-clause-offsets
returns-then-not-is_alive-clause-offsets g c =
    none_alive (g.L.Layout.alive c.args.layout.now) (g.L.Layout.stands c.args.layout.now) c.args.object c.args.offsets.now (λ a. false≢true (sym c.if-not-is_alive.true ∙ c.is_alive.ensures.1 a)) c.none.result c.none.ensures

pub returns-then-not-is_alive-clause-all : goal.returns-then-not-is_alive-clause-all
returns-then-not-is_alive-clause-all g c =
    none_reached (g.L.Layout.alive c.args.layout.now) (g.L.Layout.stands c.args.layout.now) c.args.object c.args.offsets.now (λ a. false≢true (sym c.if-not-is_alive.true ∙ c.is_alive.ensures.1 a)) c.set-set.result c.is_empty.result c.set-set.ensures.value c.set-set.ensures.within c.is_empty.ensures

pub returns-clause-offsets : goal.returns-clause-offsets
returns-clause-offsets g c =
    some_alive (g.L.Layout.alive c.args.layout.now) (g.L.Layout.stands c.args.layout.now) c.args.object c.args.offsets.now (c.is_alive.ensures.0 c.if-not-is_alive.false) c.standing-standing.result.0 c.size-size.result c.within.result c.set-set.ensures.within c.size-size.ensures c.standing-standing.ensures.hull c.within.ensures
