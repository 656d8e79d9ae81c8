-- What a table has at the node that a copy leaves, and what the copy gives there.
use Rattle.std.proofs.Common.{◌≡◌, ◌↔◌, ◌⊎◌, ℕ, ◌<◌, inl, inr, ap, sym, subst, ◌∙◌, Bool, true, false, List, length}
use Rattle.std.proofs.Common.{get_or, Option, Some, None, IfSome, IsTrue}
use Rattle.std.specs.Prelude.{Contains}
use Rattle.std.proofs.lemmas.Bool.{true≢false}
use Rattle.std.proofs.lemmas.List.{get_or_default}
use Rattle.tm_terms.specs.declared.alarms.Alarm.{Alarm}
use Rattle.tm_terms.specs.declared.places.Place.{Place}
use Rattle.transfer_int.specs.Outcomes.{notes}
use Rattle.interfere_set.specs.Stores.{Interferences}
use Rattle.post_recheck.specs.transfer_rows.StateForms.{State}
use Rattle.post_recheck.specs.edge_effects.declared.views.After.{After}
use Rattle.post_recheck.specs.edge_effects.Effects.{IsAfter}
use Rattle.mutex_configs.specs.declared.nodes.EdgeCopy.{EdgeCopy}
use Rattle.post_recheck.specs.table_covers.Solutions.{at}
use Rattle.post_recheck.specs.task_equations.Bodies.{Body, no_copy, copy_at}
use Rattle.post_recheck.specs.task_equations.Equations.{action_along, around_along}
use Rattle.post_recheck.specs.program_equations.Systems.{FitsBody}
use Rattle.access_races.specs.declared.accesses.Way.{Way}
use Rattle.access_races.specs.declared.accesses.Access.{Access}
use Rattle.access_races.proofs.Joins.{either}
use Rattle.program_reports.specs.Reports.{place_of}
use Rattle.program_reports.specs.declared.copies.BodyParts.{BodyParts}
use Rattle.program_reports.specs.reading.Found.{operation_at, way_of_copy, IsTargetIn, GivesAlarm, GivesAccess}
use Rattle.program_reports.specs.reading.Parts.{ArePartsOf, FitsTable}

Some_place : (p q : Place) → Some p ≡ Some q → p ≡ q
Some_place p q e = cc

-- what is here said in other words
pub relabelled : {N O H K : Type 0} → (N ↔ (O ⊎ H)) → (H ↔ K) → (N ↔ (O ⊎ K))
relabelled {N} {O} {H} {K} step same = (
  λ n. either (λ o. inl o) (λ h. inr (same.0 h)) (step.0 n),
  λ x. step.1 (either (λ o. inl o) (λ k. inr (same.1 k)) x),
)

-- nothing is added by what is no task
pub no_task : {O G : Type 0} (is_task : Bool) → is_task ≡ false → (O ↔ (O ⊎ ((is_task ≡ true) × G)))
no_task {O} {G} is_task e = (
  λ o. inl o,
  λ x. either (λ o. o) (λ g. absurd (true≢false (sym g.0 ∙ e))) x,
)

module _ (b : Body) (parts : BodyParts) (are : ArePartsOf b parts) (table : List (Option State))
    (fits : FitsTable b table) (k : ℕ) (lt : k < length parts.copies.now) (found : Option State)
    (found-is : found ≡ get_or table ((get_or parts.copies.now k no_copy).from) found) where
  abbrev node : ℕ
  node = (copy_at b k).from

  in_table : node < length table
  in_table =
      subst (λ n. node < n) (sym fits.count)
      ((are.each k (subst (λ (cs : List EdgeCopy). k < length cs) are.copies lt)).from)

  pub reached : at table node ≡ found
  reached =
      let there = subst (λ (cs : List EdgeCopy). found ≡ get_or table ((get_or cs k no_copy).from) found) are.copies
      found-is in
      sym (there ∙ get_or_default table node found None in_table)

  pub fits_there : (s : State) → found ≡ Some s → FitsBody b node s
  fits_there s e = subst (λ o. IfSome o (FitsBody b node)) (reached ∙ e) (fits.fits node in_table)

module _ (b : Body) (k : ℕ) (s : State) (store : Interferences) (after : After)
    (is : IsAfter (around_along b (copy_at b k)) (action_along b (copy_at b k)) s store after) (place : Place)
    (placed : place_of (operation_at b k) ≡ Some place) where
  pub alarm_given : (a : Alarm) → ((a.place ≡ place) × IsTrue (notes after.classes a.class)) ↔ GivesAlarm b k s a
  alarm_given a = (
    λ h. record { listed = (is.classes a.class).0 h.1; placed = placed ∙ ap Some (sym h.0) },
    λ h. (Some_place a.place place (sym h.placed ∙ placed), (is.classes a.class).1 h.listed),
  )

  pub access_given : (is_task : Bool) → is_task ≡ true → (way : Way) → way ≡ way_of_copy b k → (cells : List ℕ)
      → cells ≡ after.targets.items → (x : Access)
      → IsTargetIn way place cells x ↔ ((is_task ≡ true) × GivesAccess b k s x)
  access_given is_task task way way-is cells cells-is x = (
    λ h. (
      task,
      record {
        target = subst (λ ts. Contains ts x.cell) (cells-is ∙ is.targets) h.cell;
        way = h.way ∙ way-is;
        placed = placed ∙ ap Some (sym h.place);
      },
    ),
    λ g. record {
      cell = subst (λ ts. Contains ts x.cell) (sym (cells-is ∙ is.targets)) g.1.target;
      way = g.1.way ∙ sym way-is;
      place = Some_place x.place place (sym g.1.placed ∙ placed);
    },
  )
