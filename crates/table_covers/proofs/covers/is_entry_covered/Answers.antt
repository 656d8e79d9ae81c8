use Rattle.std.proofs.Common.{◌↔◌, ◌∙◌, sym, subst, None, IsTrue, arith}
use Rattle.std.proofs.lemmas.List.{get_or_default}
use Rattle.tm_lattice.specs.Tables.{IsBelow}
use Rattle.table_covers.proofs.covers.is_entry_covered.Goals as goal

pub returns : goal.returns
returns g c =
    let law = g.met.E.Equations.lawful c.args.system.now c.requires.system in
    let some = law.some_node in
    let there = get_or_default c.args.table.now 0 None c.index-table-0.result (omega (arith, c.requires.nodes, some))
    ∙ sym c.index-table-0.is in
    subst (λ x. IsTrue c.is_below.result
    ↔ IsBelow g.E.State.Lattice.leq (g.E.Equations.system_of c.args.system.now).entry x) (sym there)
    (subst (λ x. IsTrue c.is_below.result ↔ IsBelow g.E.State.Lattice.leq x c.index-table-0.result) c.in_ok-entry.ensures
    c.is_below.ensures)
