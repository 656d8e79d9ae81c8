use Rattle.std.proofs.Common.{◌≡◌, ◌-◌, sym, subst, rules}
use Rattle.front_constraints.specs.Systems.{front_at, open_at, slot_at}
use Rattle.slot_numbers.specs.Numberings.{VariableLists, variable_of}
use Rattle.slot_numbers.specs.reading.Building.{lists_of}
use Rattle.slot_numbers.specs.laws.Kinds.{variable_front}
use Rattle.slot_numbers.proofs.Whole.{open_read, slot_read}
use Rattle.slot_numbers.proofs.variable_numbers.VariableNumbers.variable.Goals as goal

pub returns-then-number-self : goal.returns-then-number-self
returns-then-number-self c =
    subst (λ (v : VariableLists). front_at c.args.number ≡ variable_of v c.args.number) c.self.view_is
    (sym (variable_front (lists_of c.self.inside.nodes c.self.inside.edges c.self.inside.owned.items c.self.inside.starts.items c.self.inside.slots.items)
    c.args.number (search rules)))

pub returns-then-number-self-2 : goal.returns-then-number-self-2
returns-then-number-self-2 c =
    subst (λ (v : VariableLists). open_at (c.args.number - c.self.inside.nodes) ≡ variable_of v c.args.number)
    c.self.view_is
    (open_read c.self.inside.first_slot
    (lists_of c.self.inside.nodes c.self.inside.edges c.self.inside.owned.items c.self.inside.starts.items c.self.inside.slots.items)
    c.args.number c.self.invariant.first_is (search rules) (search rules))

pub returns : goal.returns
returns c =
    subst (λ (v : VariableLists). slot_at c.index-slot.result.now.node c.index-slot.result.now.cell
    ≡ variable_of v c.args.number) c.self.view_is
    (slot_read c.self.inside.first_slot
    (lists_of c.self.inside.nodes c.self.inside.edges c.self.inside.owned.items c.self.inside.starts.items c.self.inside.slots.items)
    c.args.number c.self.invariant.first_is (search rules) (search rules) c.index-slot.result.now c.index-slot.ensures)
