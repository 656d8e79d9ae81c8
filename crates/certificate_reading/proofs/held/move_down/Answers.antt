use Rattle.std.proofs.Common.{◌≡◌, ◌+◌, ◌-◌, ◌≤◌, ◌∙◌, length, take, ℕ, arith}
use Rattle.certificate_reading.proofs.HeldTexts.{more_done, more_left, same_size}
use Rattle.certificate_reading.proofs.held.move_down.Goals as goal

pub loop-moved-preserved : goal.loop-moved-preserved
loop-moved-preserved c =
    let given = c.args.bytes.now in
    let from = c.args.from in
    let moved = c.loop-moved.moved in
    let more = c.min-more.result in
    let front = c.split_at_mut-front.result.0.now in
    let back = c.split_at_mut-front.result.1.now in
    let part = c.copy_from_slice.new.self in
    let count : ℕ = moved + more - moved in
    let split = c.split_at_mut-front.ensures.value in
    let size = c.split_at_mut-front.ensures.front_len in
    let room = c.split_at_mut-front.ensures.back_len in
    let min = c.min-more.ensures in
    let same = c.loop-moved.invariant.size in
    let here = c.loop-moved-test.true in
    let within = c.requires.within in
    let most : more ≤ from = omega (arith, min) in
    let there : more ≤ length back = omega (arith, min, room, same, here, within) in
    let copied : part ≡ take more back = c.copy_from_slice.ensures.after in
    let is : count ≡ more = omega arith in
    let done = more_done given c.loop-moved.bytes front back part from moved more count split size most there copied is
    c.loop-moved.invariant.done c.loop-moved.invariant.left in
    let left = more_left given c.loop-moved.bytes front back part from moved more count split size most there copied is
    c.loop-moved.invariant.done c.loop-moved.invariant.left in
    let sizes = same_size given c.loop-moved.bytes front back part from moved more count split size most there copied is
    c.loop-moved.invariant.done c.loop-moved.invariant.left in
    record {
      within = omega (arith, min, here);
      size = sizes ∙ same;
      done = done;
      left = left;
    }
