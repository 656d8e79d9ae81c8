use Rattle.std.proofs.Common.{◌<◌, ◌∙◌, ℕ, List, sym, ap, subst, length, get_or, arith, inl, inr}
use Rattle.std.specs.FinMap.{get}
use Rattle.std.proofs.lemmas.Bool.{cases_eq}
use Rattle.table_covers.specs.tm_lattice.Tables.{Table}
use Rattle.edge_actions.specs.transfer_rows.StateForms.{Temp, State}
use Rattle.sparse_rows.specs.Traces.{AreCopies, IsFreshAt, IsPendingAt}
use Rattle.row_checks.specs.declared.traces.Traces.{Traces}
use Rattle.row_checks.specs.TracedCells.{may_copy, may_be_fresh, may_pend}
use Rattle.body_slots.specs.Slots.{Slots, SlotSystemOf, IsSlotSystem}
use Rattle.body_slots.specs.laws.Held.{listed_small}
use Rattle.body_slots.proofs.Reading.{begins_where}
use Rattle.body_slots.proofs.solving.begins_traced.Goals as goal

pub returns : goal.returns
returns c = λ told.
    let v = c.args.system.now in
    let s = v.slots in
    let keeps = subst IsSlotSystem c.system.view_is c.system.invariant in
    let same = c.slots.view_is ∙ ap (λ (u : SlotSystemOf). u.slots) c.system.view_is in
    let traces = ap (λ (u : Slots). u.traces) same in
    let entry = ap (λ (u : SlotSystemOf). u.entry) c.system.view_is in
    let list = c.cells-cell-items.ensures.same ∙ ap (λ (u : Slots). u.cells) same in
    let copied = subst (λ (t : Table Temp). (u : ℕ)
    → AreCopies (may_copy s.traces) (may_be_fresh s.traces) (may_pend s.traces) u (get t u))
    (c.temps.ensures ∙ ap (λ (t : State). t.temps) entry)
    (subst (λ (r : Traces). (u : ℕ) → AreCopies (may_copy r) (may_be_fresh r) (may_pend r) u (get c.temps.result.now u))
    traces (c.is_traced.ensures.0 c.if-not-is_traced.false)) in
    begins_where v keeps copied (λ j lt. c.loop-cell.invariant j
    (let within = subst (λ (xs : List ℕ). j < length xs) (sym list) lt in
    let end = c.loop-cell-test.false in omega (arith, within, end)))

pub loop-cell-preserved : goal.loop-cell-preserved
loop-cell-preserved c = λ j lt.
    let v = c.args.system.now in
    let s = v.slots in
    let keeps = subst IsSlotSystem c.system.view_is c.system.invariant in
    let same = c.slots.view_is ∙ ap (λ (u : SlotSystemOf). u.slots) c.system.view_is in
    let traces = ap (λ (u : Slots). u.traces) same in
    let entry = ap (λ (u : SlotSystemOf). u.entry) c.system.view_is in
    let list = c.cells-cell-items.ensures.same ∙ ap (λ (u : Slots). u.cells) same in
    let i = c.loop-cell.cell-index in
    elim (cases_eq j i) [
      | inl is ↦ subst (λ k. (let t = v.entry in
          IsFreshAt (may_copy s.traces) (may_be_fresh s.traces) (may_pend s.traces) (get_or s.cells k 0)
          (get t.cells (get_or s.cells k 0))
          × IsPendingAt (may_copy s.traces) (may_be_fresh s.traces) (may_pend s.traces) (get_or s.cells k 0)
          (get t.cells (get_or s.cells k 0)))) (sym is)
          (subst (λ (xs : List ℕ). (let t = v.entry in
          IsFreshAt (may_copy s.traces) (may_be_fresh s.traces) (may_pend s.traces) (get_or xs i 0)
          (get t.cells (get_or xs i 0))
          × IsPendingAt (may_copy s.traces) (may_be_fresh s.traces) (may_pend s.traces) (get_or xs i 0)
          (get t.cells (get_or xs i 0)))) list
          (subst (λ (t : State). (let x = get_or c.cells-cell-items.result.now i 0 in
          IsFreshAt (may_copy s.traces) (may_be_fresh s.traces) (may_pend s.traces) x (get t.cells x)
          × IsPendingAt (may_copy s.traces) (may_be_fresh s.traces) (may_pend s.traces) x (get t.cells x))) entry
          (subst (λ (r : Traces). (let x = get_or c.cells-cell-items.result.now i 0 in
          let t = c.system.inside.entry.now in
          IsFreshAt (may_copy r) (may_be_fresh r) (may_pend r) x (get t.cells x)
          × IsPendingAt (may_copy r) (may_be_fresh r) (may_pend r) x (get t.cells x))) traces
          (c.is_held_traced.ensures.0 c.if-not-is_held_traced.false))))
      | inr differ ↦ c.loop-cell.invariant j (omega (arith, lt, differ))
    ]

pub is_held_traced-requires : goal.is_held_traced-requires
is_held_traced-requires c =
    let v = c.args.system.now in
    let s = v.slots in
    let keeps = subst IsSlotSystem c.system.view_is c.system.invariant in
    let same = c.slots.view_is ∙ ap (λ (u : SlotSystemOf). u.slots) c.system.view_is in
    let list = c.cells-cell-items.ensures.same ∙ ap (λ (u : Slots). u.cells) same in
    subst (λ (xs : List ℕ). (j : ℕ) → j < length xs → get_or xs j 0 < 4294967296) (sym list) (listed_small v keeps)
    c.loop-cell.cell-index c.loop-cell-test.true
