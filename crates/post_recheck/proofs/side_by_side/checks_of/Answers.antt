use Rattle.std.proofs.Common.{◌≡◌, ℕ, ◌+◌, ◌<◌, ◌-◌, length, get_or, IfOk, subst, sym, ap, ◌∙◌, arith}
use Rattle.std.specs.List.{AllZip, range_with_len}
use Rattle.std.specs.declared.result.Result.{Result}
use denote.Param.Members.{lent}
use Rattle.rayon.specs.Lists.{min_len_base, range_start, range_end}
use Rattle.rayon.specs.Numbers.{nat_range}
use Rattle.rayon.proofs.ToStd.{nat_range-All}
use Rattle.tm_lattice.specs.declared.memory.NoMemory.{NoMemory}
use Rattle.post_recheck.specs.declared.bodies.BodyCheck.{BodyCheck}
use Rattle.post_recheck.proofs.Ranges.{as_many, each_of}
use Rattle.post_recheck.proofs.side_by_side.checks_of.Goals as goal

pub collect-requires-clause-ready : goal.collect-requires-clause-ready
collect-requires-clause-ready g c κs within =
    let ends = c.into_par_iter.ensures in
    let inside = nat_range-All (λ i. g.N.Numbered.has c.args.of.now i) 0 c.args.count (λ i low high. c.requires i high) in
    rw (c.map.ensures.base, c.map.ensures.f, c.with_min_len.ensures.base, ends.0, ends.1)
    (λ k d lt. (inside k d lt, λ y p. tt))

pub returns-clause-count : goal.returns-clause-count
returns-clause-count g c =
    let ends = c.into_par_iter.ensures in
    let n = c.args.count in
    let whole : n - 0 ≡ n = omega arith in
    let h = c.in_ok-checks.ensures in
    let places = h.1.1 ∙ ap (λ it. nat_range (range_start (min_len_base it)) (range_end (min_len_base it)))
    c.map.ensures.base ∙ ap (λ it. nat_range (range_start it) (range_end it)) c.with_min_len.ensures.base
    ∙ (λ i. nat_range (ends.0 i) (ends.1 i)) ∙ ap (range_with_len 0) whole in
    let R = λ (t : ℕ) (r : Result BodyCheck NoMemory). IfOk r (g.N.Numbered.finds c.args.of.now t) in
    let each = subst (λ f. let q = lent f in AllZip (λ (t : ℕ) (r : Result BodyCheck NoMemory).
    IfOk r (g.N.Numbered.finds q.now.0.now t)) h.1.0 h.0) c.map.ensures.f h.1.2 in
    let zipped = subst (λ xs. AllZip R xs h.0) places each in
    ap length h.2 ∙ as_many R 0 n h.0 zipped

pub returns-clause-each : goal.returns-clause-each
returns-clause-each g c =
    let ends = c.into_par_iter.ensures in
    let n = c.args.count in
    let whole : n - 0 ≡ n = omega arith in
    let h = c.in_ok-checks.ensures in
    let places = h.1.1 ∙ ap (λ it. nat_range (range_start (min_len_base it)) (range_end (min_len_base it)))
    c.map.ensures.base ∙ ap (λ it. nat_range (range_start it) (range_end it)) c.with_min_len.ensures.base
    ∙ (λ i. nat_range (ends.0 i) (ends.1 i)) ∙ ap (range_with_len 0) whole in
    let R = λ (t : ℕ) (r : Result BodyCheck NoMemory). IfOk r (g.N.Numbered.finds c.args.of.now t) in
    let each = subst (λ f. let q = lent f in AllZip (λ (t : ℕ) (r : Result BodyCheck NoMemory).
    IfOk r (g.N.Numbered.finds q.now.0.now t)) h.1.0 h.0) c.map.ensures.f h.1.2 in
    let zipped = subst (λ xs. AllZip R xs h.0) places each in
    λ t none lt.
    subst (λ ys. R t (get_or ys t none)) (sym h.2)
    (subst (λ k. R k (get_or h.0 t none)) (let e : 0 + t ≡ t = omega arith in e)
    (each_of R 0 n h.0 zipped t none (subst (λ ys. t < length ys) h.2 lt)))
