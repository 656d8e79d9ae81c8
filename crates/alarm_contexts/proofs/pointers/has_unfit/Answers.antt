use Rattle.std.proofs.Common.{◌≡◌, ◌<◌, pos, false, refl, subst, sym, ◌∙◌, inl, inr, arith}
use Rattle.std.proofs.lemmas.Bool.{cases_eq, false≢true}
use Rattle.std.proofs.lemmas.Int.{ints}
use Rattle.strided_dom.specs.Progression.{Has}
use Rattle.tm_laid.specs.Layouts.{laid_tree, stands_at}
use Rattle.alarm_contexts.proofs.Wrong.{from_first, to_last}
use Rattle.alarm_contexts.proofs.pointers.has_unfit.Goals as goal

pub loop-offset-init : goal.loop-offset-init
loop-offset-init c = λ k lt h u.
    let least = from_first c.args.offsets.now c.args.ends.first c.args.ends.last c.requires.ends (pos k) h in
    let from = c.from-offset.ensures in
    omega (arith, ints, lt, least, from)

pub loop-offset-preserved : goal.loop-offset-preserved
loop-offset-preserved c = λ k lt h u.
    let n = c.loop-offset.offset in
    let o = c.args.offsets.now in
    elim (cases_eq k n) [
      | inl same ↦ false≢true (sym c.if-is_unfit.false ∙ c.is_unfit.ensures.1 (
        subst (λ s. Has s (pos n)) (sym c.set-set.ensures.value) (subst (λ j. Has o.offsets (pos j)) same h),
        subst (λ j. stands_at (laid_tree c.args.laid.now) c.args.object j c.args.target ≡ false) same u,
      ))
      | inr differ ↦
          let less : k < n = omega (arith, lt, differ) in
          c.loop-offset.invariant k less h u
    ]

pub returns-then-is_unfit : goal.returns-then-is_unfit
returns-then-is_unfit c =
    let both = c.is_unfit.ensures.0 c.if-is_unfit.true in (
      λ t. record {
        offset = c.loop-offset.offset;
        member = subst (λ s. Has s (pos c.loop-offset.offset)) c.set-set.ensures.value both.0;
        has = both.1;
      },
      λ h. refl,
    )

pub returns : goal.returns
returns c = (
  λ t. absurd (false≢true t),
  λ h.
      let last = to_last c.args.offsets.now c.args.ends.first c.args.ends.last c.requires.ends (pos h.offset) h.member in
      let end = c.from-offset-end.ensures in
      let test = c.loop-offset-test.false in
      let less : h.offset < c.loop-offset.offset = omega (arith, ints, last, end, test) in
      absurd (c.loop-offset.invariant h.offset less h.member h.has),
)
