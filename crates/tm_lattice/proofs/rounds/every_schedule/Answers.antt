use Rattle.std.proofs.Common.{zero, arith}
use Rattle.tm_lattice.proofs.Climb.{IsLawful, reached, settled, one_end}
use Rattle.tm_lattice.proofs.rounds.every_schedule.Goals as goal

pub returns : goal.returns
returns g c =
    let store = g.met.P.Store.Lattice g.world.𝓛 g.world.𝓜 g.world.𝓡 ((λ s x. x), (λ x. x), (λ x. x), λ x. x) in
    let passer = g.met.P.Passer g.world.𝓛 g.world.𝓜 g.world.𝓡 ((λ s x. x), (λ x. x), (λ x. x), λ x. x) in
    let lawful : (program : g.row.P.Denot) → g.P.Passer.is_program program → IsLawful g.P.Store.Lattice g.P.Passer program = λ program is.
    record {
      order = store.order;
      join = store.join_laws;
      closure = store.closure;
      fitting = passer.fitting program is;
      bottom = passer.bottom_laws program is;
      monotone = passer.monotone program is;
    } in
    record {
      fits = λ program s earlier is history. (reached g.P.Store.Lattice g.P.Passer program (lawful program is) s earlier history zero s (omega arith)).fits;
      below = λ program s earlier is history. (reached g.P.Store.Lattice g.P.Passer program (lawful program is) s earlier history zero s (omega arith)).below;
      settled = λ program s earlier more is history closed. settled g.P.Store.Lattice g.P.Passer program (lawful program is) s earlier more history closed;
      one_end = λ program s t earlier other is history closed history' closed'. one_end g.P.Store.Lattice g.P.Passer program (lawful program is) s t earlier other history closed history' closed';
    }
