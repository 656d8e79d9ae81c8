use Rattle.std.proofs.Common.{append_assoc}
use Rattle.big_source.proofs.generated.push_task.Goals as goal

pub returns : goal.returns
returns c =
    let first = c.in_ok-write.ensures.bytes in
    let calls = c.in_ok-push_calls.ensures in
    let tail = c.tail_of-tail.ensures in
    let last = c.in_ok-write-2.ensures.bytes in
    rw (last, tail, calls, first) (simp append_assoc)
