use Rattle.std.proofs.Common.{◌≡◌, ◌+◌, subst}
use Rattle.tm_lattice.specs.Rounds.{up}
use Rattle.store_core.specs.Histories.{store_of}
use Rattle.store_core.proofs.Pasts.{IsLawful, version_bound, all_fit, at_below, unraised, grows, earlier, counted, history_of, quiet_closed, publication_of}
use Rattle.store_core.proofs.laws.legal_histories.Goals as goal

pub returns : goal.returns
returns g c =
    let store = g.met.P.Store.Lattice g.world.𝓛 g.world.𝓜 g.world.𝓡 ((λ s x. x), (λ x. x), (λ x. x), λ x. x) in
    let passer = g.met.P.Passer g.world.𝓛 g.world.𝓜 g.world.𝓡 ((λ s x. x), (λ x. x), (λ x. x), λ x. x) in
    let lawful : (program : g.row.P.Denot) → g.P.Passer.is_program program → IsLawful g.P.Store.Lattice g.P.Passer program = λ program is.
    record {
      order = store.order;
      join = store.join_laws;
      closure = store.closure;
      fitting = passer.fitting program is;
    } in
    let known = c.every_schedule.ensures in
    record {
      counted = λ program workers past is legal. version_bound g.P.Store.Lattice g.P.Passer program workers past legal;
      fits = λ program workers past is legal. (all_fit g.P.Store.Lattice g.P.Passer program (lawful program is) workers past legal).present;
      earlier_fits = λ program workers version past is legal. (all_fit g.P.Store.Lattice g.P.Passer program (lawful program is) workers past legal).earlier version;
      earlier_below = λ program workers version past is legal. at_below g.P.Store.Lattice g.P.Passer program (lawful program is) workers past version legal;
      marks = λ program is. (lawful program is).fitting.marks_are;
      unraised = λ program workers task version past is legal lt. unraised g.P.Store.Lattice g.P.Passer program (lawful program is) workers past task version legal lt;
      grows = λ program workers later past is legal. grows g.P.Store.Lattice g.P.Passer program (lawful program is) workers later past legal;
      publication = λ program workers worker task version after added later past is legal. publication_of g.P.Store.Lattice g.P.Passer program workers worker task version after added later past legal;
      below = λ program workers past is legal.
          let laws = lawful program is in
          subst (λ k. g.P.Store.Lattice.leq (store_of g.P.Store.Lattice g.P.Passer program past) (up g.P.Store.Lattice g.P.Passer program k))
          (counted g.P.Store.Lattice g.P.Passer program laws workers past legal)
          (known.below program (store_of g.P.Store.Lattice g.P.Passer program past) (earlier g.P.Store.Lattice g.P.Passer program laws past) is (history_of g.P.Store.Lattice g.P.Passer program laws workers past legal));
      quiet = λ program workers more past is legal quiet.
          let laws = lawful program is in
          subst (λ k. store_of g.P.Store.Lattice g.P.Passer program past ≡ up g.P.Store.Lattice g.P.Passer program (k + more))
          (counted g.P.Store.Lattice g.P.Passer program laws workers past legal)
          (known.settled program (store_of g.P.Store.Lattice g.P.Passer program past) (earlier g.P.Store.Lattice g.P.Passer program laws past) more is (history_of g.P.Store.Lattice g.P.Passer program laws workers past legal)
          (quiet_closed g.P.Store.Lattice g.P.Passer program laws workers past (passer.bottom_laws program is).rounding legal quiet));
      closed = λ program workers past is legal quiet. quiet_closed g.P.Store.Lattice g.P.Passer program (lawful program is) workers past (passer.bottom_laws program is).rounding legal quiet;
      one_end = λ program workers others one other is legal quiet legal' quiet'.
          let laws = lawful program is in
          known.one_end program (store_of g.P.Store.Lattice g.P.Passer program one) (store_of g.P.Store.Lattice g.P.Passer program other) (earlier g.P.Store.Lattice g.P.Passer program laws one) (earlier g.P.Store.Lattice g.P.Passer program laws other) is
          (history_of g.P.Store.Lattice g.P.Passer program laws workers one legal) (quiet_closed g.P.Store.Lattice g.P.Passer program laws workers one (passer.bottom_laws program is).rounding legal quiet)
          (history_of g.P.Store.Lattice g.P.Passer program laws others other legal') (quiet_closed g.P.Store.Lattice g.P.Passer program laws others other (passer.bottom_laws program is).rounding legal' quiet');
    }
