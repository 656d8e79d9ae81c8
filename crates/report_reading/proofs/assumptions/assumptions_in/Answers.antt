use Rattle.std.proofs.Common.{◌≡◌, List, Some, None, sym, subst}
use Rattle.report_reading.specs.declared.assumptions.Assumption.{Assumption}
use Rattle.report_reading.specs.reading.Assumed.{AreUnread}
use Rattle.report_reading.proofs.Assumed.{unread_first, unread_none, unread_some}
use Rattle.report_reading.proofs.assumptions.assumptions_in.Goals as goal

pub loop-assumption-init : goal.loop-assumption-init
loop-assumption-init c = (
  c.utf8.text,
  λ list small few e.
      let Left : List Assumption → Type 0 = λ found. AreUnread list found c.args.text.now in
      subst Left (sym c.new-list.ensures.items) (unread_first list c.args.text.now small e),
)

pub loop-assumption-preserved : goal.loop-assumption-preserved
loop-assumption-preserved c = (
  search (c.first_assumption.type_inv, c.in-Some.is),
  λ list small few e.
      let Left : List Assumption → Type 0 = λ found. AreUnread list found c.in-Some.behind.now in
      subst Left (sym c.in_ok-push.ensures.items)
      (unread_some list c.loop-assumption.list.items c.loop-assumption.rest.now c.in-Some.assumption c.in-Some.behind.now few
      (λ a rest small. c.in-Some.ensures.line a rest small.0)
      (λ n s is. let clash : Some (c.in-Some.assumption, c.in-Some.behind) ≡ None = c.in-Some.ensures.last n s is in absurd cc)
      (c.loop-assumption.invariant.1 list small few e)),
)

pub returns : goal.returns
returns c =
    λ list small few e. unread_none list c.loop-assumption.list.items c.loop-assumption.rest.now
    (λ a rest small. c.in_default.ensures.line a rest small.0) (c.loop-assumption.invariant.1 list small few e)
