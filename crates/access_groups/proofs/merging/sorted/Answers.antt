use Rattle.std.proofs.Common.{sym, subst}
use Rattle.std.specs.Prelude.{Contains}
use Rattle.std.proofs.lemmas.List.Sorted.{Contains-permutation, IsPermutation-sym}
use Rattle.access_groups.proofs.Sorting.{rises_sorted}
use Rattle.access_groups.proofs.merging.sorted.Goals as goal

pub returns : goal.returns
returns c =
    let given = c.in_ok-list.list.items in
    let list = c.sort.new.self.items in
    let is = c.in_ok-list.ensures.items_if_clones_equal (λ y e same. same) in
    let moved = c.in_ok-sort.ensures.permutation in record {
      same = λ e. (
        λ h. subst (λ xs. Contains xs e) is (Contains-permutation list given e (IsPermutation-sym given list moved) h),
        λ h. Contains-permutation given list e moved (subst (λ xs. Contains xs e) (sym is) h),
      );
      rising = rises_sorted list c.in_ok-sort.ensures.sorted;
    }
