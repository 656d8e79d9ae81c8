use Rattle.std.proofs.Common.{◌∙◌}
use Rattle.tm_lattice.specs.Tables.{IsTable, IsTableBelow, joined_table}
use Rattle.tm_lattice.specs.laws.TableLaws.{table_order, table_join}
use Rattle.shared_tables.proofs.Bounds.{left_stays, right_stays}
use Rattle.shared_tables.proofs.Empties.{join_none_left, join_none_right, join_both}
use Rattle.shared_tables.proofs.tables.SharedTableLattice.join.Goals as goal
use Rattle.shared_tables.proofs.tables.SharedTableLattice.join.Goals.{in-None-None, in-None-Some+in_ok-try_clone-in-None-Some, in-Some-None+in_ok-try_clone-in-Some-None, in-Some-Some+then-below+in_ok-try_clone-in-Some-Some, in-Some-Some+else-below+then-below-2+in_ok-try_clone-in-Some-Some-2, in-Some-Some+else-below+else-below-2+in_ok-join-in-Some-Some+in_ok-new-in-Some-Some}

pub returns : goal.returns
returns g c =
    let v = g.V.Lattice in
    let met = g.met.V.Lattice in
    let is = IsTable v.is_value v.nothing in
    let leq = IsTableBelow v.leq in
    let join = joined_table v.joined in
    let order = table_order v.is_value v.is_marks v.leq v.joined v.rounded v.nothing met.order met.join_laws met.closure met.nothing_laws in
    let laws = table_join v.is_value v.is_marks v.leq v.joined v.rounded v.nothing met.order met.join_laws met.closure met.nothing_laws in
    let one = c.args.self.now in
    let other = c.args.other.now in
    elim c.match-self.branch [
      | in-None-None w ↦
          let none = rw w.in-None-None.is-0 at c.self.view_is in
          let none' = rw w.in-None-None.is-1 at c.other.view_is in
          rw w.entries-is (join_none_left v.joined one other _ none none')
      | in-None-Some+in_ok-try_clone-in-None-Some w ↦
          let none = rw w.in-None-Some.is-0 at c.self.view_is in
          let other_is = rw w.in-None-Some.is-1 at c.other.view_is in
          rw w.entries-is (join_none_left v.joined one other _ none (w.in_ok-try_clone-in-None-Some.ensures ∙ other_is))
      | in-Some-None+in_ok-try_clone-in-Some-None w ↦
          let one_is = rw w.in-Some-None.is-0 at c.self.view_is in
          let none = rw w.in-Some-None.is-1 at c.other.view_is in
          rw w.entries-is (join_none_right v.joined one other _ none (w.in_ok-try_clone-in-Some-None.ensures ∙ one_is))
      | in-Some-Some+then-below+in_ok-try_clone-in-Some-Some w ↦
          let one_is = rw w.in-Some-Some.is-0 at c.self.view_is in
          let other_is = rw w.in-Some-Some.is-1 at c.other.view_is in
          rw w.entries-is (left_stays is leq join order laws one other _ _ _ (w.deref.ensures ∙ one_is) (w.deref-in-Some-Some.ensures ∙ other_is)
          w.is_nothing-left.ensures.value w.is_nothing-right.ensures.value (w.below.ensures.0 w.if-below.true)
          (w.in_ok-try_clone-in-Some-Some.ensures ∙ one_is))
      | in-Some-Some+else-below+then-below-2+in_ok-try_clone-in-Some-Some-2 w ↦
          let one_is = rw w.in-Some-Some.is-0 at c.self.view_is in
          let other_is = rw w.in-Some-Some.is-1 at c.other.view_is in
          rw w.entries-is (right_stays is leq join order laws one other _ _ _ (w.deref.ensures ∙ one_is) (w.deref-in-Some-Some.ensures ∙ other_is)
          w.is_nothing-left.ensures.value w.is_nothing-right.ensures.value (w.below-else-below.ensures.0 w.if-below-2.true)
          (w.in_ok-try_clone-in-Some-Some-2.ensures ∙ other_is))
      | in-Some-Some+else-below+else-below-2+in_ok-join-in-Some-Some+in_ok-new-in-Some-Some w ↦
          let one_is = rw w.in-Some-Some.is-0 at c.self.view_is in
          let other_is = rw w.in-Some-Some.is-1 at c.other.view_is in
          rw w.entries-is (join_both v.joined one other _ _ _ (w.deref.ensures ∙ one_is) (w.deref-in-Some-Some.ensures ∙ other_is)
          (w.in_ok-new-in-Some-Some.ensures.ok ∙ w.in_ok-join-in-Some-Some.ensures))
    ]
