use Rattle.std.proofs.Common.{◌≡◌, subst, ◌∙◌, max, length, arith}
use Rattle.interfere_set.specs.pointer_dom.Values.{joined_values, no_value}
use Rattle.alarm_contexts.specs.reading.Operands.{AreJoined}
use Rattle.alarm_contexts.proofs.Joined.{operands_more}
use Rattle.alarm_contexts.proofs.operands.joined_operands.Goals as goal

pub loop-role-preserved : goal.loop-role-preserved
loop-role-preserved c =
    let one = c.args.one.now in
    let other = c.args.other.now in
    let role = c.loop-role.role in
    let left = c.get.ensures.lookup.4 (omega arith) no_value in
    let right = c.get-in-loop-role.ensures.lookup.4 (omega arith) no_value in
    operands_more one other role c.loop-role.both.items c.push.new.self.items c.in_ok-joined_operand.field-0
    c.loop-role.invariant c.in_ok-push.ensures.items
    (c.in_ok-joined_operand.ensures ∙ (λ i. joined_values (left i) (right i)))

pub returns : goal.returns
returns c =
    let end : c.loop-role.role ≡ max (length c.args.one.now) (length c.args.other.now) = omega arith in
    subst (λ n. AreJoined c.args.one.now c.args.other.now n c.loop-role.both.items) end c.loop-role.invariant
