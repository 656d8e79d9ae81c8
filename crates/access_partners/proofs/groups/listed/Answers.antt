use Rattle.std.proofs.Common.{◌≡◌, ◌<◌, ◌∙◌, length, get_or, ap, sym, subst, arith}
use Rattle.std.proofs.lemmas.List.{get_or_read}
use Rattle.access_races.specs.reading.Ways.{list_at}
use Rattle.access_partners.specs.declared.details.AccessDetails.{AccessDetails}
use Rattle.access_partners.specs.declared.partners.Partners.{Partners}
use Rattle.access_partners.specs.reading.Accesses.{AreSiteDetails}
use Rattle.access_partners.specs.reading.Found.{AreDetailsBy, AreListedDetails}
use Rattle.access_partners.proofs.Lists.{list_of, all_more, push_count}
use Rattle.access_partners.proofs.groups.listed.Goals as goal

pub loop-at-preserved : goal.loop-at-preserved
loop-at-preserved c =
    let ways = c.args.ways.now in
    let lists = c.args.lists.now in
    let partners = c.args.partners.now in
    let n = c.loop-at.at in
    let i = c.loop-at.invariant in
    let new = c.in_ok-told.told in
    let in-partners : n < length partners = omega (arith, c.requires, c.loop-at-test.true) in
    let lists-read = c.deref.ensures.value
    ∙ list_of lists n c.loop-at-test.true c.index-lists-at.result c.index-lists-at.is in
    let found = subst (λ xs. AreSiteDetails ways xs new) lists-read c.in_ok-told.ensures.found in
    let by : (s : Partners) → AreDetailsBy ways (list_at lists n) (get_or partners n s) new = λ s.
    let read = get_or_read partners n c.index-partners-at.result in-partners c.index-partners-at.is s in record {
      found = found;
      count = c.in_ok-told.ensures.count ∙ ap (λ (r : Partners). r.count) read;
      shown = c.in_ok-told.ensures.shown ∙ ap (λ (r : Partners). r.shown.items) read;
    } in record {
      count = push_count c.loop-at.details.items c.push.new.self.items new n c.in_ok-push.ensures.items i.count;
      each = λ k s d lt. subst (λ xs. AreDetailsBy ways (list_at lists k) (get_or partners k s) (get_or xs k d))
          (sym c.in_ok-push.ensures.items)
          (all_more (λ m (x : AccessDetails). AreDetailsBy ways (list_at lists m) (get_or partners m s) x) d
          c.loop-at.details.items new n i.count (λ m below. i.each m s d below) (by s) k lt);
    }

pub returns : goal.returns
returns c =
    let end : c.loop-at.at ≡ length c.args.lists.now = omega arith in
    subst (λ n. AreListedDetails c.args.ways.now c.args.lists.now c.args.partners.now n c.loop-at.details.items) end
    c.loop-at.invariant
