use Rattle.open_choices.proofs.Rising.{held}
use Rattle.open_choices.proofs.beginnings.held_by_others.Goals as goal

pub returns : goal.returns
returns c =
    held c.args.store.now c.args.body c.add_others.new.objects.items c.sort.new.self.items c.dedup.new.self.items _
    (λ x. c.in_ok-add_others.ensures x) c.new-objects.ensures.items c.in_ok-sort.ensures.permutation
    c.in_ok-sort.ensures.sorted c.dedup.ensures.filtered
