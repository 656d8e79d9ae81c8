use Rattle.std.proofs.lemmas.List.Sorted.{Contains-permutation, IsPermutation-sym}
use Rattle.alarm_contexts.proofs.Sorting.{rises_sorted}
use Rattle.alarm_contexts.proofs.merging.sorted.Goals as goal

pub returns : goal.returns
returns c =
    let given = c.args.given.items in
    let list = c.sort.new.self.items in
    let moved = c.in_ok-sort.ensures.permutation in record {
      same = λ x. (
        λ h. Contains-permutation list given x (IsPermutation-sym given list moved) h,
        λ h. Contains-permutation given list x moved h,
      );
      rising = rises_sorted list c.in_ok-sort.ensures.sorted;
    }
