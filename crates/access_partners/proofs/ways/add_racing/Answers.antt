use Rattle.std.proofs.Common.{◌≡◌, ◌∙◌, sym, inl, inr}
use Rattle.std.proofs.lemmas.Bool.{true≢false}
use Rattle.access_races.proofs.Joins.{either, pushed}
use Rattle.access_partners.specs.reading.Accesses.{IsRacingAmong}
use Rattle.access_partners.proofs.ways.add_racing.Goals as goal

pub returns-then-is_racing : goal.returns-then-is_racing
returns-then-is_racing c = λ x.
    let more = pushed c.args.racing.now.items c.push.new.self.items c.args.site c.in_ok-push.ensures.items x in (
      λ h. either (λ o. inl o) (λ same. inr (c.is_racing.ensures.0 c.if-is_racing.true, same)) (more.0 h),
      λ h. more.1 (either (λ o. inl o)
          (λ (k : IsRacingAmong c.args.ways.now c.args.site × (x ≡ c.args.site)). inr k.1) h),
    )

pub returns : goal.returns
returns c = λ x. (
  λ h. inl h,
  λ h. either (λ o. o)
      (λ (k : IsRacingAmong c.args.ways.now c.args.site × (x ≡ c.args.site)).
      absurd (true≢false (sym (c.is_racing.ensures.1 k.0) ∙ c.if-is_racing.false))) h,
)
