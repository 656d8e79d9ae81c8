use Rattle.std.proofs.Common.{ℕ, ◌≢◌}
use Rattle.std.proofs.lemmas.Result.{on_ok_weaker}
use Rattle.open_choices.specs.reading.Left.{IsHeldIn}
use Rattle.open_choices.proofs.Additions.{added_as}
use Rattle.open_choices.proofs.beginnings.add_task.Goals as goal

pub returns : goal.returns
returns c =
    let w = c.args.written.now in
    on_ok_weaker c.add_written.result (λ h. added_as (IsHeldIn w)
    (λ (x : ℕ). (c.args.writer ≢ c.args.body) × IsHeldIn w x) c.args.objects.now.items c.add_written.new.objects.items
    (λ x. (λ i. (c.if-writer-body.false, i), λ p. p.1)) h) c.add_written.ensures
