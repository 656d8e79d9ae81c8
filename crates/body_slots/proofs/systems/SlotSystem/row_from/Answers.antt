use Rattle.std.proofs.Common.{◌≡◌, ◌<◌, ◌∙◌, ℕ, List, None, sym, ap, subst, length, get_or, refl}
use Rattle.std.specs.Prelude.{◌+◌, is_some, replicate}
use Rattle.std.proofs.lemmas.Bool.{true≢false}
use Rattle.std.proofs.lemmas.List.{length-map}
use Rattle.task_equations.specs.Equations.{link_of}
use Rattle.body_systems.specs.Systems.{SystemOf, body_of, FitsTemps}
use Rattle.body_slots.specs.Slots.{Slots, SlotSystemOf, IsSlotSystem, sparse_of}
use Rattle.std.proofs.lemmas.List.{get_or_default}
use Rattle.edge_actions.specs.transfer_rows.Rows.{after as after_row}
use Rattle.edge_effects.specs.Effects.{IsAfter}
use Rattle.mutex_configs.specs.declared.nodes.EdgeCopy.{EdgeCopy}
use Rattle.mutex_configs.specs.declared.nodes.ConfiguredGraph.{ConfiguredGraph}
use Rattle.task_equations.specs.Bodies.{copy_at, no_copy}
use Rattle.task_equations.specs.Equations.{around_along, action_along, led}
use Rattle.body_systems.specs.Views.{IsViewOf}
use Rattle.body_slots.specs.Rows.{state_parts_at}
use Rattle.body_slots.specs.laws.Parts.{passes_here, row_some, row_none, leaves}
use Rattle.body_slots.proofs.Reading.{set_at, touched_small, led_there, led_none, led_not}
use Rattle.body_slots.proofs.systems.SlotSystem.row_from.Goals as goal
use Rattle.body_slots.proofs.systems.SlotSystem.row_from.Goals.{in_default-via-in-Some+else-leads}
use Rattle.body_slots.proofs.systems.SlotSystem.row_from.Goals.{in_default-via-in_default}

pub applied_to_part-requires-clause-fits : goal.applied_to_part-requires-clause-fits
applied_to_part-requires-clause-fits c =
    let v = c.args.self.now in
    let b = body_of v.system in
    let w-is = ap (λ (u : SlotSystemOf). u.system) c.self.view_is in
    let small = c.args.small.now in
    subst (λ (w : SystemOf). (let x = body_of w in let d = copy_at x c.args.edge in FitsTemps x d.from small)) (sym w-is)
    (subst (λ n. FitsTemps b n small) (leaves v c.args.edge c.requires.edge) c.requires.fits)

pub led_to-requires : goal.led_to-requires
led_to-requires c =
    let v = c.args.self.now in
    let s = v.slots in
    let b = body_of v.system in
    let keeps = subst IsSlotSystem c.self.view_is c.self.invariant in
    let same = c.slots.view_is ∙ ap (λ (u : SlotSystemOf). u.slots) c.self.view_is in
    let read = c.index-touched.ensures
    ∙ ap (λ (u : Slots). (let g = u.graph in get_or g.touched.items c.args.edge c.index-touched.result.now)) same in
    let is = c.cells.ensures.same ∙ set_at s.graph.touched.items c.index-touched.result.now c.args.edge (length b.copies)
    read keeps.slots.touched_each (subst (λ m. c.args.edge < m) (length-map b.copies link_of) c.requires.edge) in
    subst (λ (xs : List ℕ). (j : ℕ) → j < length xs → get_or xs j 0 < 4294967296) (sym is)
    (touched_small v keeps c.args.edge c.requires.edge)

pub returns-then-not-is_checked : goal.returns-then-not-is_checked
returns-then-not-is_checked c = λ passes.
    let v = c.args.self.now in
    let s = v.slots in
    let b = body_of v.system in
    let keeps = subst IsSlotSystem c.self.view_is c.self.invariant in
    let same = c.slots.view_is ∙ ap (λ (u : SlotSystemOf). u.slots) c.self.view_is in
    let w-is = ap (λ (u : SlotSystemOf). u.system) c.self.view_is in
    let small = c.args.small.now in
    let after = c.in_ok-after.after in
    let view-is = subst (λ (w : SystemOf). IsViewOf w (copy_at (body_of w) c.args.edge) c.view_of-view.result) w-is
    c.view_of-view.ensures.view in
    let gives = subst (λ (w : SystemOf). (let x = body_of w in let d = copy_at x c.args.edge in
    IsAfter (around_along x d) (action_along x d) small w.store after)) w-is c.in_ok-after.ensures in
    let edge-lt = subst (λ m. c.args.edge < m) (length-map b.copies link_of) c.requires.edge in
    let touched = set_at s.graph.touched.items c.index-touched.result.now c.args.edge (length b.copies)
    (c.index-touched.ensures
    ∙ ap (λ (u : Slots). (let g = u.graph in get_or g.touched.items c.args.edge c.index-touched.result.now)) same)
    keeps.slots.touched_each edge-lt in
    let carried = set_at s.graph.carried.items c.index.result.now c.args.edge (length b.copies)
    (c.index.ensures
    ∙ ap (λ (u : Slots). (let g = u.graph in get_or g.carried.items c.args.edge c.index.result.now)) same)
    keeps.slots.carried_each edge-lt in
    let looked = set_at s.graph.looked.items c.index-2.result.now c.args.edge (length b.copies)
    (c.index-2.ensures
    ∙ ap (λ (u : Slots). (let g = u.graph in get_or g.looked.items c.args.edge c.index-2.result.now)) same)
    keeps.slots.looked_each edge-lt in
    let here = passes_here v c.args.edge small c.view_of-view.result view-is c.index-touched.result.now c.index.result.now
    c.index-2.result.now after.targets.items c.slots.inside.traces c.store.result.now touched carried looked (ap (λ (u : Slots). u.traces) same)
    gives.targets (c.store.ensures.store ∙ ap (λ (w : SystemOf). w.store) w-is) in
    let passing = sym here ∙ sym c.is_checked.ensures.decides in
    true≢false (sym passes ∙ passing ∙ c.if-not-is_checked.true)

pub returns-in_ok-led_to-in-Some : goal.returns-in_ok-led_to-in-Some
returns-in_ok-led_to-in-Some c =
    let v = c.args.self.now in
    let s = v.slots in
    let b = body_of v.system in
    let keeps = subst IsSlotSystem c.self.view_is c.self.invariant in
    let same = c.slots.view_is ∙ ap (λ (u : SlotSystemOf). u.slots) c.self.view_is in
    let w-is = ap (λ (u : SlotSystemOf). u.system) c.self.view_is in
    let small = c.args.small.now in
    let after = c.in_ok-after.after in
    let view-is = subst (λ (w : SystemOf). IsViewOf w (copy_at (body_of w) c.args.edge) c.view_of-view.result) w-is
    c.view_of-view.ensures.view in
    let gives = subst (λ (w : SystemOf). (let x = body_of w in let d = copy_at x c.args.edge in
    IsAfter (around_along x d) (action_along x d) small w.store after)) w-is c.in_ok-after.ensures in
    let edge-lt = subst (λ m. c.args.edge < m) (length-map b.copies link_of) c.requires.edge in
    let touched = set_at s.graph.touched.items c.index-touched.result.now c.args.edge (length b.copies)
    (c.index-touched.ensures
    ∙ ap (λ (u : Slots). (let g = u.graph in get_or g.touched.items c.args.edge c.index-touched.result.now)) same)
    keeps.slots.touched_each edge-lt in
    let carried = set_at s.graph.carried.items c.index.result.now c.args.edge (length b.copies)
    (c.index.ensures
    ∙ ap (λ (u : Slots). (let g = u.graph in get_or g.carried.items c.args.edge c.index.result.now)) same)
    keeps.slots.carried_each edge-lt in
    let looked = set_at s.graph.looked.items c.index-2.result.now c.args.edge (length b.copies)
    (c.index-2.ensures
    ∙ ap (λ (u : Slots). (let g = u.graph in get_or g.looked.items c.args.edge c.index-2.result.now)) same)
    keeps.slots.looked_each edge-lt in
    let here = passes_here v c.args.edge small c.view_of-view.result view-is c.index-touched.result.now c.index.result.now
    c.index-2.result.now after.targets.items c.slots.inside.traces c.store.result.now touched carried looked (ap (λ (u : Slots). u.traces) same)
    gives.targets (c.store.ensures.store ∙ ap (λ (w : SystemOf). w.store) w-is) in
    let passing = sym here ∙ sym c.is_checked.ensures.decides in
    let copy = c.index-3.ensures
    ∙ ap (λ (k : ConfiguredGraph). get_or k.copies.items c.args.edge c.index-3.result.now)
    (c.configured.ensures ∙ ap (λ (w : SystemOf). w.configured) w-is)
    ∙ get_or_default b.copies c.args.edge c.index-3.result.now no_copy edge-lt in
    let leads = ap (λ (d : EdgeCopy). is_some d.to) (sym copy) ∙ sym c.is_some-leads.ensures in
    let to = (let d = copy_at b c.args.edge in d.to) in
    let reaches = (let d = copy_at b c.args.edge in after_row (around_along b d) (action_along b d) small v.system.store) in (
      passing ∙ c.if-not-is_checked.false,
      c.in_ok-led_to-in-Some.ensures
          ∙ ap (λ (xs : List ℕ). state_parts_at c.in-Some.reached xs) (c.cells.ensures.same ∙ touched)
          ∙ sym (row_some v c.args.edge c.in-Some.reached small
          (led_there to reaches (leads ∙ c.if-leads.true) ∙ sym gives.state ∙ c.in-Some.is)),
    )

pub returns-in_ok-nothing-in_default : goal.returns-in_ok-nothing-in_default
returns-in_ok-nothing-in_default c =
    let v = c.args.self.now in
    let s = v.slots in
    let b = body_of v.system in
    let keeps = subst IsSlotSystem c.self.view_is c.self.invariant in
    let same = c.slots.view_is ∙ ap (λ (u : SlotSystemOf). u.slots) c.self.view_is in
    let w-is = ap (λ (u : SlotSystemOf). u.system) c.self.view_is in
    let small = c.args.small.now in
    let after = c.in_ok-after.after in
    let view-is = subst (λ (w : SystemOf). IsViewOf w (copy_at (body_of w) c.args.edge) c.view_of-view.result) w-is
    c.view_of-view.ensures.view in
    let gives = subst (λ (w : SystemOf). (let x = body_of w in let d = copy_at x c.args.edge in
    IsAfter (around_along x d) (action_along x d) small w.store after)) w-is c.in_ok-after.ensures in
    let edge-lt = subst (λ m. c.args.edge < m) (length-map b.copies link_of) c.requires.edge in
    let touched = set_at s.graph.touched.items c.index-touched.result.now c.args.edge (length b.copies)
    (c.index-touched.ensures
    ∙ ap (λ (u : Slots). (let g = u.graph in get_or g.touched.items c.args.edge c.index-touched.result.now)) same)
    keeps.slots.touched_each edge-lt in
    let carried = set_at s.graph.carried.items c.index.result.now c.args.edge (length b.copies)
    (c.index.ensures
    ∙ ap (λ (u : Slots). (let g = u.graph in get_or g.carried.items c.args.edge c.index.result.now)) same)
    keeps.slots.carried_each edge-lt in
    let looked = set_at s.graph.looked.items c.index-2.result.now c.args.edge (length b.copies)
    (c.index-2.ensures
    ∙ ap (λ (u : Slots). (let g = u.graph in get_or g.looked.items c.args.edge c.index-2.result.now)) same)
    keeps.slots.looked_each edge-lt in
    let here = passes_here v c.args.edge small c.view_of-view.result view-is c.index-touched.result.now c.index.result.now
    c.index-2.result.now after.targets.items c.slots.inside.traces c.store.result.now touched carried looked (ap (λ (u : Slots). u.traces) same)
    gives.targets (c.store.ensures.store ∙ ap (λ (w : SystemOf). w.store) w-is) in
    let passing = sym here ∙ sym c.is_checked.ensures.decides in
    let copy = c.index-3.ensures
    ∙ ap (λ (k : ConfiguredGraph). get_or k.copies.items c.args.edge c.index-3.result.now)
    (c.configured.ensures ∙ ap (λ (w : SystemOf). w.configured) w-is)
    ∙ get_or_default b.copies c.args.edge c.index-3.result.now no_copy edge-lt in
    let leads = ap (λ (d : EdgeCopy). is_some d.to) (sym copy) ∙ sym c.is_some-leads.ensures in
    let to = (let d = copy_at b c.args.edge in d.to) in
    let reaches = (let d = copy_at b c.args.edge in after_row (around_along b d) (action_along b d) small v.system.store) in
    let none : (sparse_of v).equations.after c.args.edge small ≡ None = elim c.in_default.branch [
      | in_default-via-in-Some+else-leads w ↦ led_not to reaches (leads ∙ w.if-leads.false)
      | in_default-via-in_default w ↦ ap (led to) (sym gives.state ∙ w.in_default.is) ∙ led_none to
    ] in (
      passing ∙ c.if-not-is_checked.false,
      c.in_ok-nothing-in_default.ensures
          ∙ ap (λ (xs : List ℕ). replicate (length xs + 2) None) (c.cells-in_default.ensures.same ∙ touched)
          ∙ sym (row_none v c.args.edge None refl small none),
    )
