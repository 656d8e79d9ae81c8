use Rattle.table_covers.specs.laws.Closing.{closed_is_least, least_is_closed}
use Rattle.table_covers.specs.laws.Iterates.{covered_from, from_covered, least_is_least, least_is_one}
use Rattle.table_covers.proofs.laws.least_solutions.Goals as goal

pub returns : goal.returns
returns g c =
    let states = g.met.E.State.Lattice g.world.𝓛 g.world.𝓜 g.world.𝓡 ((λ s x. x), (λ x. x), (λ x. x), λ x. x) in
    record {
      covered = λ system table n is fits lt. (
        (λ covered. from_covered g.E.State.Lattice (g.E.Equations.fits system) (g.E.Equations.system_of system) states.order states.join_laws (g.met.E.Equations.lawful system is) table n lt fits covered),
        (λ below. covered_from g.E.State.Lattice (g.E.Equations.fits system) (g.E.Equations.system_of system) states.order states.join_laws (g.met.E.Equations.lawful system is) table n lt fits below),
      );
      from_closed = λ system table is closed below. closed_is_least g.E.State.Lattice (g.E.Equations.fits system) (g.E.Equations.system_of system) states.order states.join_laws (g.met.E.Equations.lawful system is) table closed below;
      is_closed = λ system table is least. least_is_closed g.E.State.Lattice (g.E.Equations.fits system) (g.E.Equations.system_of system) states.order states.join_laws (g.met.E.Equations.lawful system is) table least;
      exists = λ system is. least_is_least g.E.State.Lattice (g.E.Equations.fits system) (g.E.Equations.system_of system) states.order states.join_laws (g.met.E.Equations.lawful system is);
      one = λ system one other n is least least' lt. least_is_one g.E.State.Lattice (g.E.Equations.fits system) (g.E.Equations.system_of system) states.order states.join_laws (g.met.E.Equations.lawful system is) one other least least' n lt;
    }
