use Rattle.std.proofs.Common.{◌≡◌, length, take, get_or, sym, subst}
use Rattle.std.proofs.lemmas.Result.{IfOk-weaker}
use Rattle.access_partners.specs.declared.partners.Partners.{Partners}
use Rattle.access_partners.specs.reading.Pairs.{kept_by, HasPartners}
use Rattle.access_partners.proofs.Same.{same_partners}
use Rattle.access_partners.proofs.partners.partners_of.Goals as goal

pub returns-then-first-at : goal.returns-then-first-at
returns-then-first-at c =
    let accesses = c.args.accesses.now in
    let points = c.args.points.now in
    let at = c.args.at in
    let first = get_or c.args.firsts.now at 0 in
    let r = c.index-known-first.result in
    let of-first = subst (λ (x : Partners). HasPartners accesses points first x.count x.shown.items)
    (sym c.index-known-first.is) (c.requires.known.each first r c.if-first-at.true) in
    let of-at = same_partners accesses points at first r.count r.shown.items
    (c.requires.firsts.each at c.requires.at).same of-first in
    IfOk-weaker c.copied.result _ _
    (λ s h. subst (λ n. HasPartners accesses points at n s.shown.items) (sym h.count)
    (subst (λ l. HasPartners accesses points at r.count l) (sym h.shown) of-at)) c.copied.ensures

pub returns : goal.returns
returns c =
    let accesses = c.args.accesses.now in
    IfOk-weaker c.partners_in.result _ _
    (λ s h. record {
      pairs = c.in_ok-pairs.pairs.items;
      are = c.in_ok-pairs.ensures;
      counted = subst (λ bs. s.count ≡ length (kept_by bs accesses)) c.deref.ensures.value h.counted;
      first_eight = subst (λ bs. s.shown.items ≡ take 8 (kept_by bs accesses)) c.deref.ensures.value h.first_eight;
    }) c.partners_in.ensures
