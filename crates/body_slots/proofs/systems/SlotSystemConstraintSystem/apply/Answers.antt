use Rattle.std.proofs.Common.{◌∙◌, ap}
use Rattle.std.proofs.lemmas.Result.{IfOk-weaker}
use Rattle.least_assignments.specs.Constraints.{at}
use Rattle.slot_numbers.specs.Numberings.{numbers_of}
use Rattle.body_slots.specs.Slots.{Slots, SlotSystemOf}
use Rattle.front_constraints.specs.Systems.{entered, row}
use Rattle.body_slots.proofs.Reading.{match_some, targets_counted, each_given}
use Rattle.body_slots.proofs.systems.SlotSystemConstraintSystem.apply.Goals as goal

pub returns-in_ok-entered-in-Entered-clause-targets : goal.returns-in_ok-entered-in-Entered-clause-targets
returns-in_ok-entered-in-Entered-clause-targets c =
    let v = c.args.self.now in
    let same = c.slots.view_is ∙ ap (λ (u : SlotSystemOf). u.slots) c.self.view_is in
    let rule = c.in-Entered.ensures ∙ ap (λ (u : Slots). (let n = numbers_of u.numbering in n.rule c.args.constraint)) same in
    targets_counted v c.args.constraint (at c.args.values.now) entered rule c.in_ok-entered-in-Entered.field-0.items
    (c.in_ok-entered-in-Entered.ensures (at c.args.values.now))

pub returns-in_ok-entered-in-Entered-clause-brought : goal.returns-in_ok-entered-in-Entered-clause-brought
returns-in_ok-entered-in-Entered-clause-brought c =
    let v = c.args.self.now in
    let same = c.slots.view_is ∙ ap (λ (u : SlotSystemOf). u.slots) c.self.view_is in
    let rule = c.in-Entered.ensures ∙ ap (λ (u : Slots). (let n = numbers_of u.numbering in n.rule c.args.constraint)) same in
    each_given v c.args.constraint (at c.args.values.now) entered rule c.in_ok-entered-in-Entered.field-0.items
    (c.in_ok-entered-in-Entered.ensures (at c.args.values.now))

pub returns-in-Row-clause-targets : goal.returns-in-Row-clause-targets
returns-in-Row-clause-targets c =
    let v = c.args.self.now in
    let same = c.slots.view_is ∙ ap (λ (u : SlotSystemOf). u.slots) c.self.view_is in
    let rule = c.in-Row.ensures ∙ ap (λ (u : Slots). (let n = numbers_of u.numbering in n.rule c.args.constraint)) same in
    IfOk-weaker c.row.result _ _ (match_some _ _ _ (λ all h. targets_counted v c.args.constraint (at c.args.values.now)
    (row c.in-Row.edge) rule all.items h.1)) c.row.ensures

pub returns-in-Row-clause-brought : goal.returns-in-Row-clause-brought
returns-in-Row-clause-brought c =
    let v = c.args.self.now in
    let same = c.slots.view_is ∙ ap (λ (u : SlotSystemOf). u.slots) c.self.view_is in
    let rule = c.in-Row.ensures ∙ ap (λ (u : Slots). (let n = numbers_of u.numbering in n.rule c.args.constraint)) same in
    IfOk-weaker c.row.result _ _ (match_some _ _ _ (λ all h. each_given v c.args.constraint (at c.args.values.now)
    (row c.in-Row.edge) rule all.items h.1)) c.row.ensures
