use Rattle.std.proofs.Common.{◌≡◌, ℕ, ◌≤◌, ◌<◌, length, get_or, sym, subst, arith}
use Rattle.std.proofs.lemmas.Bool.{ltb-true, lt-ltb}
use Rattle.std.proofs.lemmas.List.{get_or_read}
use Rattle.operand_orders.specs.reading.Marks.{IsMarked, IsLast}
use Rattle.operand_orders.proofs.Lasts.{marked_between, last_behind, no_mark}
use Rattle.operand_orders.proofs.marks.Marks.is_between.Goals as goal

pub returns : goal.returns
returns c =
    let marks = c.args.self.now.marks.items in
    let lasts = c.args.self.now.lasts.items in
    let count = c.min-end.result in
    let last = c.index.result.now in
    let most = c.requires.lasts.count in
    let within : count < length lasts = omega (arith, most) in
    let at : last ≡ get_or lasts count 0 = get_or_read lasts count last within c.index.ensures 0 in
    let is : IsLast marks count last = subst (IsLast marks count) (sym at)
    (c.requires.lasts.each count (omega (arith, most))) in
    let low : count ≤ c.args.end = omega arith in
    let high : (k : ℕ) → count ≤ k → k < c.args.end → IsMarked marks k → ⊥ =
    λ k le lt. no_mark marks k (omega (arith, le, lt)) in (
      λ t. marked_between marks c.args.first c.args.end count last is low high (ltb-true c.args.first last t),
      λ h. lt-ltb c.args.first last (last_behind marks c.args.first c.args.end count last is low high h),
    )
