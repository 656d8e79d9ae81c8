use Rattle.calculations.specs.reading.Ends.{Alive as AliveIn, Stands as StandsIn}
use Rattle.std.proofs.Common.{sym, ◌∙◌}
use Rattle.calculations.proofs.StandingOffsets.{alive_so, so_alive}
use Rattle.std.proofs.lemmas.Bool.{false≢true}
use Rattle.pointer_dom.proofs.StandingFacts.{none_alive, none_reached, some_alive}
use Rattle.calculations.proofs.dereferences.standing_offsets.Goals as goal

pub returns-then-not-is_alive-clause-offsets : goal.returns-then-not-is_alive-clause-offsets
returns-then-not-is_alive-clause-offsets c =
    none_alive (AliveIn c.args.followed.now) (StandsIn c.args.followed.now) c.args.object c.args.offsets.now (λ a. false≢true (sym c.if-not-is_alive.true ∙ alive_so c.args.followed.now c.args.object c.is_alive.result c.is_alive.ensures a)) c.none.result c.none.ensures

pub returns-then-not-is_alive-clause-all : goal.returns-then-not-is_alive-clause-all
returns-then-not-is_alive-clause-all c =
    none_reached (AliveIn c.args.followed.now) (StandsIn c.args.followed.now) c.args.object c.args.offsets.now (λ a. false≢true (sym c.if-not-is_alive.true ∙ alive_so c.args.followed.now c.args.object c.is_alive.result c.is_alive.ensures a)) c.set-set.result c.is_empty.result c.set-set.ensures.value c.set-set.ensures.within c.is_empty.ensures

pub returns-clause-offsets : goal.returns-clause-offsets
returns-clause-offsets c =
    some_alive (AliveIn c.args.followed.now) (StandsIn c.args.followed.now) c.args.object c.args.offsets.now (so_alive c.args.followed.now c.args.object c.is_alive.result c.is_alive.ensures c.if-not-is_alive.false) c.standing-standing.result.0 c.size-size.result c.within.result c.set-set.ensures.within c.size-size.ensures c.standing-standing.ensures.hull c.within.ensures
