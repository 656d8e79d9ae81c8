use Rattle.std.proofs.Common.{◌≡◌, ◌∙◌, ap, ℕ, nat_lt, length, arith}
use Rattle.tm_terms.specs.declared.refusals.Limit.TheVariants as Limits
use Rattle.tm_laid.specs.Layouts.{laid_count}
use Rattle.tm_laid.specs.Scales.{number_on}
use Rattle.cell_layout.proofs.limits.has_too_many_mutexes.Goals as goal

pub returns : goal.returns
unfolding laid_count
returns c =
    let same : c.len.result ≡ length c.args.file.now.mutexes.items = (let a = c.len.ensures in let b = c.args.file.now.mutexes.ok.0 in omega (arith, a, b)) in
    ap (λ (n : ℕ). nat_lt n c.len.result) c.number.ensures ∙ ap (λ (n : ℕ). nat_lt (number_on c.args.scale Limits.Mutexes) n) same
