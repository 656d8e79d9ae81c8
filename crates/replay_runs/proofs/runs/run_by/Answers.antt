use Rattle.std.proofs.Common.{◌≡◌, ◌+◌, ◌∙◌, ap, sym, subst, drop, length, arith, ℕ, List, []}
use Rattle.std.proofs.lemmas.List.{drop_more, drop_all}
use Rattle.tm_terms.specs.declared.places.Place.{Place}
use Rattle.tm_laid.specs.Layouts.{laid_tree}
use Rattle.concrete_steps.specs.Worlds.{start}
use Rattle.concrete_worlds.specs.Views.{world_of}
use Rattle.replay_runs.specs.reading.Turns.{IsSoFar}
use Rattle.replay_runs.proofs.Turns.{none_done, goes_on_there, ends_there, ran_there, both_ok}
use Rattle.replay_runs.proofs.runs.run_by.Goals as goal

pub loop-done-preserved : goal.loop-done-preserved
loop-done-preserved c =
    let lt = c.loop-done-test.true in (
      c.in_ok-ending.ensures.laid ∙ c.loop-done.invariant.0,
      omega (arith, lt),
      goes_on_there (laid_tree c.args.laid.now) _ (ap laid_tree c.loop-done.invariant.0) c.args.choices.now c.loop-done.places.items c.turn.new.places.items
          c.loop-done.done (world_of c.loop-done.world) _ c.loop-done.invariant.2 c.in_ok-ending.ensures.races _ _ (world_of c.turn.new.world) _
          (drop_more c.args.choices.now c.loop-done.done _ lt) c.in_ok-ending.ensures.ended c.in-None.is c.in_ok-ending.ensures.world,
      c.in_ok-ending.ensures.running,
    )

pub returns-in-Some : goal.returns-in-Some
returns-in-Some c =
    both_ok c.finished.result c.finished.ensures.places c.finished.ensures.ending
    (λ run is e. ends_there (laid_tree c.args.laid.now) _ (ap laid_tree c.loop-done.invariant.0) c.args.choices.now c.loop-done.places.items c.turn.new.places.items
    c.loop-done.done (world_of c.loop-done.world) _ c.loop-done.invariant.2 c.in_ok-ending.ensures.races _ _ (world_of c.turn.new.world) _
    (drop_more c.args.choices.now c.loop-done.done _ c.loop-done-test.true) c.in_ok-ending.ensures.ended run.places.items c.in-Some.ending run.ending c.in-Some.is is e)

pub returns : goal.returns
returns c =
    let h = c.loop-done-test.false in
    let k = c.loop-done.invariant.1 in
    both_ok c.finished-2.result c.finished-2.ensures.places c.finished-2.ensures.ending
    (λ run is e. ran_there (laid_tree c.args.laid.now) _ (ap laid_tree c.loop-done.invariant.0) c.args.choices.now c.loop-done.places.items c.push_races.new.places.items
    c.loop-done.done (world_of c.loop-done.world) _ c.loop-done.invariant.2 c.in_ok-push_races.ensures run.places.items run.ending (length c.args.choices.now)
    (drop_all c.loop-done.done c.args.choices.now (omega (arith, h))) (omega (arith, h, k)) is e)

pub loop-done-init : goal.loop-done-init
loop-done-init c = (
  c.in_ok-world.ensures.laid,
  omega arith,
  subst (λ (z : List Place). IsSoFar (laid_tree c.args.laid.now) c.args.choices.now z 0 (world_of c.in_ok-world.world) c.args.choices.now)
      (sym c.new-places.ensures.items) (none_done (laid_tree c.args.laid.now) c.args.choices.now (world_of c.in_ok-world.world) c.in_ok-world.ensures.world),
  c.in_ok-world.ensures.running,
)
