use Rattle.std.proofs.Common.{◌∙◌, T, take, refl, sym, subst}
use Rattle.std.proofs.lemmas.Bool.{false≢true}
use Rattle.std.proofs.lemmas.List.{take_all}
use Rattle.std.specs.Ordering.{nat_cmp}
use Rattle.std.specs.FinMap as map
use Rattle.pointer_dom.specs.Equality.{MeetAt}
use Rattle.pointer_dom.specs.PointerSets.{offsets_or_none}
use Rattle.pointer_dom.proofs.MeetFacts.{one_more}
use Rattle.pointer_dom.proofs.CommonFacts.{NoneMeets, none_meets, one_more_meets, entry_found, tables_meet, tables_apart}
use Rattle.pointer_dom.proofs.comparisons.have_common_offset.Goals as goal

pub loop-object-init : goal.loop-object-init
loop-object-init c = none_meets c.args.other.now

pub returns-then-has_common : goal.returns-then-has_common
returns-then-has_common c = (
  λ e. tables_meet c.args.one.now c.args.other.now c.loop-object-item.result
      (entry_found c.args.one.now c.entries-object-items.result.now c.loop-object.object-index c.loop-object-item.result c.entries-object-items.ensures c.loop-object-test.true c.loop-object-item.is)
      (subst (λ a. MeetAt c.loop-object-item.result.1 (offsets_or_none a)) c.get.ensures (c.has_common.ensures.0 c.if-has_common.true)),
  λ m. refl,
)

pub loop-object-preserved : goal.loop-object-preserved
loop-object-preserved c =
    let es = take c.loop-object.object-index c.entries-object-items.result.now in
    let e = c.loop-object-item.result in
    let sorted = subst (λ l. T (map.is_sorted nat_cmp l)) (sym c.entries-object-items.ensures) (map.entries_sorted c.args.one.now) in
    let next = one_more c.entries-object-items.result.now c.loop-object.object-index e sorted c.loop-object-test.true c.loop-object-item.is in
    subst (NoneMeets c.args.other.now) (sym next.0)
    (one_more_meets c.args.other.now es e next.1 c.loop-object.invariant
    (λ m. false≢true (sym c.if-has_common.false ∙ c.has_common.ensures.1 (subst (λ a. MeetAt e.1 (offsets_or_none a)) (sym c.get.ensures) m))))

pub returns : goal.returns
returns c =
    let all = take_all c.loop-object.object-index c.entries-object-items.result.now c.loop-object-test.false ∙ c.entries-object-items.ensures in (
      λ e. absurd (false≢true e),
      λ m. absurd (tables_apart c.args.one.now c.args.other.now _ all c.loop-object.invariant m),
    )
