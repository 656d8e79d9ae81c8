use Rattle.std.proofs.Common.{add-one}
use Rattle.tm_lattice.proofs.Climb.{IsLawful, rises_by, round_fits, stays, below_closed}
use Rattle.tm_lattice.proofs.rounds.rounds_climb.Goals as goal

pub returns : goal.returns
returns g c =
    let store = g.met.P.Store.Lattice g.world.𝓛 g.world.𝓜 g.world.𝓡 ((λ s x. x), (λ x. x), (λ x. x), λ x. x) in
    let passer = g.met.P.Passer g.world.𝓛 g.world.𝓜 g.world.𝓡 ((λ s x. x), (λ x. x), (λ x. x), λ x. x) in
    let lawful : (program : g.row.P.Denot) → g.P.Passer.is_program program → IsLawful g.P.Store.Lattice g.P.Passer program = λ program is.
    record {
      order = store.order;
      join = store.join_laws;
      closure = store.closure;
      fitting = passer.fitting program is;
      bottom = passer.bottom_laws program is;
      monotone = passer.monotone program is;
    } in
    record {
      fit = λ program k is. round_fits g.P.Store.Lattice g.P.Passer program (lawful program is) k;
      rise = λ program k more is. rises_by g.P.Store.Lattice g.P.Passer program (lawful program is) k more;
      stay = λ program k more is same. stays g.P.Store.Lattice g.P.Passer program (lawful program is) k more (rw add-one at same);
      below_closed = λ program s k is closed. below_closed g.P.Store.Lattice g.P.Passer program (lawful program is) k s closed;
    }
