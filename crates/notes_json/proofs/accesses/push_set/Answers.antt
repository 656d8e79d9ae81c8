use Rattle.std.proofs.Common.{◌+◌, ◌++◌, ◌∙◌}
use Rattle.std.specs.Prelude.{decimal}
use Rattle.notes_json.specs.Accesses.{is_member, members_below}
use Rattle.notes_json.proofs.Listed.{passing_more, next_if, others_then, others_else}
use Rattle.notes_json.proofs.Sets.{same_test, whole_set}
use Rattle.notes_json.proofs.accesses.push_set.Goals.{then-others, else-others}
use Rattle.notes_json.proofs.accesses.push_set.Goals as goal

pub loop-mutex-preserved : goal.loop-mutex-preserved
loop-mutex-preserved c =
    let set = c.args.set in
    let m = c.loop-mutex.mutex in
    let others = c.loop-mutex.others in
    let after = c.if-others.others in
    let so_far = c.loop-mutex.invariant in
    let xs = members_below set m in
    let ys = members_below set (m + 1) in
    let is = is_member set m in
    let more = passing_more (is_member set) m in
    record {
      written =
          next_if 44 decimal xs ys m is others (c.args.text.now.items ++ c.args.before.now) more so_far.others
          so_far.written c.in_ok-push_member_if.ensures;
      others = elim c.if-others.branch [
        | then-others w ↦ others_then xs ys m is others after more so_far.others w.if-others.true
            (w.others-is ∙ w.if-others.true)
        | else-others w ↦
            others_else xs ys m is others after more so_far.others w.if-others.false
            (w.others-is ∙ same_test set m w.has_mutex-others.result w.has_mutex-others.ensures)
      ];
    }

pub returns : goal.returns
returns c =
    whole_set c.args.set c.loop-mutex.mutex c.args.text.now.items c.args.before.now c.loop-mutex.auto.mutex-end
    c.loop-mutex-test.false c.loop-mutex.invariant.written c.in_ok-push_bytes-2.ensures
