use Rattle.std.proofs.Common.{false, pos, ap, ◌∙◌}
use Rattle.std.specs.FinMap as map
use Rattle.pointer_dom.specs.PointerSets.{Pointers}
use Rattle.pointer_dom.proofs.MeetFacts.{one_object}
use Rattle.pointer_dom.proofs.pointer_set.PointerSet.to.Goals as goal

pub returns : goal.returns
returns c =
    let table =
    one_object c.args.object c.one.result c.new-objects.result c.join_at.new.self (pos c.args.offset) (ap (λ o. o.offsets) c.one.ensures) c.new-objects.ensures c.in_ok-join_at.ensures.joined
    ∙ ap (map.insert map.empty c.args.object) c.one.ensures in
    c.from_parts.ensures ∙ ap (λ t. let set : Pointers = record { null = false; invalid = false; objects = t } in set) table
