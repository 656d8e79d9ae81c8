use Rattle.std.proofs.Common.{◌<◌, ◌∙◌, ℕ, List, Option, None, sym, ap, subst, length, get_or}
use Rattle.std.specs.Prelude.{◌≡◌, ◌+◌, replicate, MatchOption}
use Rattle.std.proofs.lemmas.List.{length-map}
use Rattle.std.proofs.lemmas.Result.{IfOk-weaker}
use Rattle.edge_actions.specs.transfer_rows.StateForms.{Temp, State}
use Rattle.task_equations.specs.Equations.{link_of}
use Rattle.least_assignments.specs.Constraints.{at}
use Rattle.table_covers.specs.tm_lattice.Tables.{Table}
use Rattle.body_systems.specs.Systems.{body_of, FitsTemps}
use Rattle.body_slots.specs.Slots.{Slots, SlotSystemOf, IsSlotSystem, sparse_of}
use Rattle.std.specs.Prelude.{IfSome}
use Rattle.front_constraints.specs.Systems.{from, row}
use Rattle.front_constraints.specs.Rules.{AllowsRule, small_at}
use Rattle.body_slots.specs.Slots.{PassesRow}
use Rattle.body_slots.specs.laws.Parts.{brought_none, brought_some}
use Rattle.body_slots.specs.laws.PartRows.{part_passes, part_rows, whole_fits}
use Rattle.body_slots.specs.reading.Small.{IsPart}
use Rattle.body_slots.proofs.Reading.{set_at, onward_match}
use Rattle.body_slots.proofs.systems.SlotSystem.row.Goals as goal

pub row_from-requires-clause-fits : goal.row_from-requires-clause-fits
row_from-requires-clause-fits c =
    let v = c.args.self.now in
    let b = body_of v.system in
    let keeps = subst IsSlotSystem c.self.view_is c.self.invariant in
    let p = subst (λ (y : Option State). MatchOption y (small_at (sparse_of v) c.args.edge (at c.args.values.now) ≡ None)
    (IsPart v c.args.edge (at c.args.values.now))) c.in-Some.is c.in_ok-small_part.ensures in
    let agree = p.agree in
    let fits = whole_fits v c.args.edge keeps c.requires.edge (at c.args.values.now) c.requires.fits p.whole p.small in
    let temps = fits.temps in
    subst (λ (f : Table Temp). FitsTemps b (from (sparse_of v) c.args.edge) (record { temps = f; cells = (let s = p.whole in s.cells) }))
    agree.temps temps

pub returns-in_ok-nothing-in-None : goal.returns-in_ok-nothing-in-None
returns-in_ok-nothing-in-None c =
    let v = c.args.self.now in
    let s = v.slots in
    let b = body_of v.system in
    let keeps = subst IsSlotSystem c.self.view_is c.self.invariant in
    let same = c.slots.view_is ∙ ap (λ (u : SlotSystemOf). u.slots) c.self.view_is in
    let none = subst (λ (y : Option State). MatchOption y (small_at (sparse_of v) c.args.edge (at c.args.values.now) ≡ None)
    (IsPart v c.args.edge (at c.args.values.now))) c.in-None.is c.in_ok-small_part.ensures in
    let touched = set_at s.graph.touched.items c.index-touched.result.now c.args.edge (length b.copies)
    (c.index-touched.ensures
    ∙ ap (λ (u : Slots). (let g = u.graph in get_or g.touched.items c.args.edge c.index-touched.result.now)) same)
    keeps.slots.touched_each (subst (λ m. c.args.edge < m) (length-map b.copies link_of) c.requires.edge) in (
      subst (λ (y : Option State). IfSome y (PassesRow v c.args.edge)) (sym none) tt,
      c.in_ok-nothing-in-None.ensures
          ∙ ap (λ (xs : List ℕ). replicate (length xs + 2) None) (c.cells.ensures.same ∙ touched)
          ∙ sym (brought_none v c.args.edge (at c.args.values.now) none),
    )

pub returns-in-Some : goal.returns-in-Some
returns-in-Some c =
    let v = c.args.self.now in
    let e = c.args.edge in
    let a = at c.args.values.now in
    let keeps = subst IsSlotSystem c.self.view_is c.self.invariant in
    let p = subst (λ (y : Option State). MatchOption y (small_at (sparse_of v) e a ≡ None) (IsPart v e a)) c.in-Some.is
    c.in_ok-small_part.ensures in
    let agree = p.agree in
    let part = c.in-Some.part in
    let fits = whole_fits v e keeps c.requires.edge a c.requires.fits p.whole p.small in
    let same = part_passes v e part p.whole (sym agree.temps) in
    IfOk-weaker c.row_from.result _ _ (onward_match (PassesRow v e part) (AllowsRule (sparse_of v) (PassesRow v) (row e) a) _ _
    (λ q. same ∙ subst (λ (y : Option State). IfSome y (PassesRow v e)) p.small q)
    (λ all h.
    let passes = sym same ∙ h.0 in (
      subst (λ (y : Option State). IfSome y (PassesRow v e)) (sym p.small) passes,
      h.1 ∙ part_rows v e keeps c.requires.edge a part p fits passes ∙ sym (brought_some v e a p.whole p.small),
    ))) c.row_from.ensures
