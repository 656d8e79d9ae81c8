use Rattle.std.proofs.Common.{◌∙◌, sym, ap}
use Rattle.tm_lattice.specs.Tables.{rounded_table}
use Rattle.shared_tables.proofs.Empties.{rounded_empty}
use Rattle.shared_tables.proofs.tables.SharedTableLattice.round.Goals as goal
use Rattle.shared_tables.proofs.tables.SharedTableLattice.round.Goals.{in-None, in-Some+in_ok-round-in-Some+in_ok-new-in-Some}

pub returns : goal.returns
returns g c =
    let round = g.V.Lattice.rounded c.args.marks.now in
    elim c.match-self.branch [
      | in-None w ↦
          let none = rw w.in-None.is at c.self.view_is in
          rw w.entries-is (sym (rounded_empty round) ∙ ap (rounded_table round) none)
      | in-Some+in_ok-round-in-Some+in_ok-new-in-Some w ↦
          let self_is = rw w.in-Some.is at c.self.view_is in
          rw w.entries-is (w.in_ok-new-in-Some.ensures.ok ∙ w.in_ok-round-in-Some.ensures ∙ ap (rounded_table round) (w.deref.ensures ∙ self_is))
    ]
