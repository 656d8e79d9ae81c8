use Rattle.std.proofs.Common.{◌≡◌, ◌∙◌, sym, ap, List, Some, None, map}
use Rattle.unit_plans.specs.Copies.{knowns_of}
use Rattle.unit_plans.specs.Linkages.{lists_of}
use Rattle.unit_plans.specs.Plans.{cause_of, fate_of, fates_of, first_fault, open_place}
use Rattle.unit_plans.specs.Sights.{sights_of}
use Rattle.unit_plans.specs.declared.declarations.Known.{Known}
use Rattle.unit_plans.specs.declared.declarations.Sight.{Sight}
use Rattle.unit_plans.proofs.FirstCauses.{cause_fault, cause_open}
use Rattle.unit_plans.proofs.plans.fates_of_units.Goals as goal

pub returns-in-Some-clause-refused : goal.returns-in-Some-clause-refused
unfolding cause_of
returns-in-Some-clause-refused c =
    let all = sights_of c.args.borders.now c.args.tokens.now in
    let seen : c.deref.result.now ≡ all = c.deref.ensures.value ∙ c.in_ok-sights.ensures in
    cause_open all (knowns_of all) c.in-Some.place
    (ap (λ (s : List Sight). open_place s) (sym seen) ∙ sym c.in-Some.ensures)

pub returns-in-Some-first_fault-clause-refused : goal.returns-in-Some-first_fault-clause-refused
unfolding cause_of
returns-in-Some-first_fault-clause-refused c =
    let all = sights_of c.args.borders.now c.args.tokens.now in
    let seen : c.deref.result.now ≡ all = c.deref.ensures.value ∙ c.in_ok-sights.ensures in
    let known : c.in_ok-knowns.knowns.items ≡ knowns_of all =
    c.in_ok-knowns.ensures ∙ ap (λ (s : List Sight). knowns_of s) (c.deref-2.ensures.value ∙ c.in_ok-sights.ensures) in
    let third : c.deref-3.result.now ≡ knowns_of all = c.deref-3.ensures.value ∙ known in
    let fourth : c.deref-4.result.now ≡ knowns_of all = c.deref-4.ensures.value ∙ known in
    cause_fault all (knowns_of all) (Some c.in-Some-first_fault.cause)
    (ap (λ (s : List Sight). open_place s) (sym seen) ∙ sym c.in_default.ensures)
    (sym (c.in-Some-first_fault.ensures (lists_of c.deref-3.result.now) c.in_ok-tables.ensures
    ∙ ap (λ (k : List Known). first_fault k (lists_of c.deref-3.result.now) k) fourth
    ∙ ap (λ (k : List Known). first_fault (knowns_of all) (lists_of k) (knowns_of all)) third))

pub returns-clause-ok : goal.returns-clause-ok
unfolding cause_of fates_of
returns-clause-ok c =
    let all = sights_of c.args.borders.now c.args.tokens.now in
    let seen : c.deref.result.now ≡ all = c.deref.ensures.value ∙ c.in_ok-sights.ensures in
    let known : c.in_ok-knowns.knowns.items ≡ knowns_of all =
    c.in_ok-knowns.ensures ∙ ap (λ (s : List Sight). knowns_of s) (c.deref-2.ensures.value ∙ c.in_ok-sights.ensures) in
    let third : c.deref-3.result.now ≡ knowns_of all = c.deref-3.ensures.value ∙ known in
    let fourth : c.deref-4.result.now ≡ knowns_of all = c.deref-4.ensures.value ∙ known in
    let fifth : c.deref-5.result.now ≡ knowns_of all = c.deref-5.ensures.value ∙ known in
    record {
      accepted = cause_fault all (knowns_of all) None
          (ap (λ (s : List Sight). open_place s) (sym seen) ∙ sym c.in_default.ensures)
          (sym (c.in_default-first_fault.ensures (lists_of c.deref-3.result.now) c.in_ok-tables.ensures
          ∙ ap (λ (k : List Known). first_fault k (lists_of c.deref-3.result.now) k) fourth
          ∙ ap (λ (k : List Known). first_fault (knowns_of all) (lists_of k) (knowns_of all)) third));
      same = c.in_ok-fates.ensures (lists_of c.deref-3.result.now) c.in_ok-tables.ensures
          ∙ ap (λ (k : List Known). map (fate_of (lists_of c.deref-3.result.now)) k) fifth
          ∙ ap (λ (k : List Known). map (fate_of (lists_of k)) (knowns_of all)) third;
    }
