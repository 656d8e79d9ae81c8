use Rattle.std.proofs.Common.{◌∙◌, sym, inl}
use Rattle.std.proofs.lemmas.Bool.{true≢false}
use Rattle.operand_orders.specs.Order.{IsInitialising}
use Rattle.operand_orders.specs.reading.Views.{solved}
use Rattle.access_races.proofs.Joins.{either, pushed}
use Rattle.program_reports.proofs.Tables.{relabelled}
use Rattle.operand_orders.proofs.reached.add_change.Goals as goal

pub returns-then-is_initialising : goal.returns-then-is_initialising
returns-then-is_initialising c = λ p. (
  λ h. inl h,
  λ h. either (λ o. o) (λ k. absurd (k.0 (c.is_initialising.ensures.0 c.if-is_initialising.true))) h,
)

pub returns : goal.returns
returns c = λ p.
    let not : IsInitialising (solved c.args.view) c.args.store.first → ⊥ = λ i.
    true≢false (sym (c.is_initialising.ensures.1 i) ∙ c.if-is_initialising.false) in
    relabelled (pushed c.args.changes.now.items c.push.new.self.items c.args.store c.in_ok-push.ensures.items p)
    (λ e. (not, e), λ k. k.1)
