use Rattle.std.proofs.Common.{◌≤◌, ◌∙◌, length, sym, subst, arith}
use Rattle.std.proofs.lemmas.Result.{IfOk-weaker}
use Rattle.access_races.specs.reading.Ways.{list_at}
use Rattle.access_partners.specs.reading.Found.{AreFound}
use Rattle.access_partners.proofs.Lists.{list_of, past_lists}
use Rattle.access_partners.proofs.groups.group_details.Goals as goal

pub returns-then-is_there : goal.returns-then-is_there
returns-then-is_there c =
    let by_object = c.args.by_object.now in
    let g = c.args.group.now in
    let read = c.deref-then-is_there.ensures.value
    ∙ list_of by_object g.object (omega arith) c.index-by_object-object.result c.index-by_object-object.is in
    IfOk-weaker c.object_details.result _ _
    (λ ds h. subst (λ es. AreFound c.args.ways.now es (list_at by_object g.object) ds.items) c.deref.ensures.value
    (subst (λ xs. AreFound c.args.ways.now c.deref.result.now xs ds.items) read h)) c.object_details.ensures

pub returns : goal.returns
returns c =
    let by_object = c.args.by_object.now in
    let g = c.args.group.now in
    let past : length by_object ≤ g.object = omega arith in
    let read = c.deref-3.ensures.value ∙ c.new-none.ensures.items ∙ sym (past_lists by_object g.object past) in
    IfOk-weaker c.object_details-2.result _ _
    (λ ds h. subst (λ es. AreFound c.args.ways.now es (list_at by_object g.object) ds.items) c.deref-2.ensures.value
    (subst (λ xs. AreFound c.args.ways.now c.deref-2.result.now xs ds.items) read h)) c.object_details-2.ensures
