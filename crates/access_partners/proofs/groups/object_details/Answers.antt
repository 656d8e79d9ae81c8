use Rattle.std.proofs.Common.{◌∙◌, ◌<◌, length, ap, sym, subst, arith}
use Rattle.std.proofs.lemmas.Result.{IfOk-weaker}
use Rattle.access_partners.specs.reading.Points.{ArePointsBy}
use Rattle.access_partners.specs.reading.Pairs.{AreAllByCells, ArePartnersBy}
use Rattle.access_partners.specs.reading.Found.{AreListedDetails}
use Rattle.access_partners.proofs.groups.object_details.Goals as goal

pub partners_by_access-requires-clause-count : goal.partners_by_access-requires-clause-count
partners_by_access-requires-clause-count c =
    ap length c.deref-2.ensures.value ∙ c.in_ok-points.ensures.count ∙ ap length c.deref.ensures.value
    ∙ c.in_ok-lists.ensures.count

pub partners_by_access-requires-clause-by_cells : goal.partners_by_access-requires-clause-by_cells
partners_by_access-requires-clause-by_cells c =
    let points = c.in_ok-points.points.items in
    subst AreAllByCells (sym c.deref-2.ensures.value) (record {
      each = λ i lt.
          let within : i < length c.deref.result.now = omega (arith, lt, c.in_ok-points.ensures.count) in
          (c.in_ok-points.ensures.each i within).rising;
    })

pub listed-requires : goal.listed-requires
listed-requires c =
    ap length c.deref-4.ensures.value ∙ c.in_ok-partners.ensures.count ∙ sym c.in_ok-lists.ensures.count
    ∙ sym (ap length c.deref-3.ensures.value)

pub returns : goal.returns
returns c =
    let ways = c.args.ways.now in
    let accesses = c.args.accesses.now in
    let lists = c.in_ok-lists.lists.items in
    let points = c.in_ok-points.points.items in
    let partners = c.in_ok-partners.partners.items in
    IfOk-weaker c.listed.result _ _
    (λ ds h. record {
      lists = lists;
      points = points;
      partners = partners;
      sites_by = c.in_ok-lists.ensures;
      points_by = subst (λ ls. ArePointsBy ls points) c.deref.ensures.value c.in_ok-points.ensures;
      partners_by = subst (λ ps. ArePartnersBy accesses ps (length accesses) partners) c.deref-2.ensures.value
          c.in_ok-partners.ensures;
      details_by = subst (λ ls. AreListedDetails ways ls partners (length ls) ds.items) c.deref-3.ensures.value
          (subst (λ ps. AreListedDetails ways c.deref-3.result.now ps (length c.deref-3.result.now) ds.items)
          c.deref-4.ensures.value h);
    }) c.listed.ensures
