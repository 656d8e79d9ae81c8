-- What a copy gives.
use Rattle.std.proofs.Common.{◌≡◌, ◌↔◌, ◌⊎◌, ℕ, ap, sym, ◌∙◌, inl, Bool, true, false, not}
use Rattle.std.proofs.Common.{Option, Some, None, IsTrue}
use Rattle.std.specs.Prelude.{is_some}
use Rattle.tm_terms.specs.declared.places.Place.{Place}
use Rattle.transfer_int.specs.Outcomes.{notes}
use Rattle.interfere_set.specs.Stores.{Interferences}
use Rattle.program_reports.specs.post_recheck.transfer_rows.StateForms.{State}
use Rattle.program_reports.specs.post_recheck.edge_effects.declared.views.After.{After}
use Rattle.program_reports.specs.post_recheck.edge_effects.Effects.{IsAfter}
use Rattle.program_reports.specs.post_recheck.task_equations.Bodies.{Body, copy_at}
use Rattle.program_reports.specs.post_recheck.task_equations.Equations.{action_along, around_along}
use Rattle.access_races.proofs.Joins.{either}
use Rattle.program_reports.specs.Reports.{place_of}
use Rattle.program_reports.specs.reading.Found.{operation_at}
use Rattle.program_reports.proofs.Tables.{alarm_given}
use Rattle.alarm_contexts.specs.declared.exits.Exit.{Exit}
use Rattle.alarm_contexts.specs.declared.exits.Context.{Context}
use Rattle.alarm_contexts.specs.reading.Found.{context_at, exit_with, exit_at, GivesContext}

none_is_some : (place : Place) → None ≡ Some place → ⊥
none_is_some place e = cc

not_not : (r s : Bool) → s ≡ not r → r ≡ not s
not_not true s e = ap not (sym e)
not_not false s e = ap not (sym e)

module _ (b : Body) (store : Interferences) (k : ℕ) (s : State) where
  -- what stands nowhere gives nothing
  pub nothing_given : {N : Type 0} (x : Context) → place_of (operation_at b k) ≡ None → (N ↔ (N ⊎ GivesContext b store k s x))
  nothing_given {N} x nowhere = (
    λ o. inl o,
    λ h. either (λ o. o) (λ g. absurd (none_is_some x.alarm.place (sym nowhere ∙ g.alarm.placed))) h,
  )

  module _ (after : After)
      (is : IsAfter (around_along b (copy_at b k)) (action_along b (copy_at b k)) s store after) where
    pub exit_is : (ends : Bool) → is_some after.state ≡ not ends → exit_with b k ends ≡ exit_at b store k s
    exit_is ends some =
        ap (exit_with b k) (not_not ends (is_some after.state) some
        ∙ ap (λ (o : Option State). not (is_some o)) is.state)

    module _ (place : Place) (placed : place_of (operation_at b k) ≡ Some place) (exit : Exit)
        (exit-is : exit ≡ exit_at b store k s) (x : Context) where
      pub context_given : ((x ≡ context_at place exit x.alarm.class) × IsTrue (notes after.classes x.alarm.class))
          ↔ GivesContext b store k s x
      context_given = (
        λ h. record {
          alarm = (alarm_given b k s store after is place placed x.alarm).0
              (ap (λ (z : Context). z.alarm.place) h.0, h.1);
          exit = ap (λ (z : Context). z.exit) h.0 ∙ exit-is;
        },
        λ g.
            let a = (alarm_given b k s store after is place placed x.alarm).1 g.alarm in
            let e = g.exit ∙ sym exit-is in (
              λ i. record { alarm = record { place = a.0 i; class = x.alarm.class }; exit = e i },
              a.1,
            ),
      )
