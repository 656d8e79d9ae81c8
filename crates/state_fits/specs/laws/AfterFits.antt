-- What an edge brings fits the place to which it leads.
use Rattle.std.specs.Prelude.{◌≡◌, ℕ, Bool, true, false, List, Option, Some, None, refl}
use Rattle.std.proofs.Common.{sym, subst, ◌∙◌}
use Rattle.std.specs.FinMap.{get}
use Rattle.std.specs.Option.{option_map}
use Rattle.std.proofs.lemmas.Bool.{true≢false}
use Rattle.temporary_types.specs.tm_laid.Layouts.{LaidTree, abstract_at}
use Rattle.temporary_types.specs.flow_graph.declared.operations.Operation.{Operation}
use Rattle.edge_actions.specs.interfere_set.Stores.{Interferences}
use Rattle.edge_actions.specs.transfer_rows.StateForms.{Temp, State, IsStateForm}
use Rattle.edge_actions.specs.transfer_rows.Actions.{Around, Action}
use Rattle.edge_actions.specs.transfer_rows.Accesses.{is_among}
use Rattle.edge_actions.specs.transfer_rows.Rows.{effect, arrived, after}
use Rattle.edge_actions.proofs.low.transfer_rows.Fitting.{after_is}
use Rattle.edge_actions.specs.Edges.{action_of}
use Rattle.edge_actions.proofs.ActionForms.{edge_is}
use Rattle.state_fits.specs.Fits.{AreKinds, FitsTemp, FitsPlace, FitsStore}
use Rattle.value_heights.specs.pointer_dom.Values.{Values}
use Rattle.temporary_extents.specs.declared.extents.Extent.{Extent}
use Rattle.state_fits.specs.Kinds.{InExtents, IsClosedAt, AreInSorts}
use Rattle.state_fits.specs.laws.ExtentKinds.{extents_are_kinds}
use Rattle.state_fits.specs.laws.OperationsWithin.{operation_within, sorted}
use Rattle.state_fits.specs.Edges.{FitsEdge}
use Rattle.state_fits.specs.laws.StoresFit.{AreTyped}
use Rattle.state_fits.specs.laws.EffectsFit as E
use Rattle.state_fits.specs.laws.EffectsFit.{IsNext, NextTemp, MayBeNext}
use Rattle.state_fits.specs.laws.ActionsFit.{target_of, effect_next, arrived_fits}
use Rattle.state_fits.specs.laws.OperationsFit.{targets_are_given, loads_seen}
use Rattle.temporary_types.specs.Sorts.{Sort}

module _ (laid : LaidTree) (task tasks : ℕ) (sorts : List Sort) (extents : List Extent) (around : Around)
    (op : Operation) (live live' : List ℕ) (edge : FitsEdge laid task sorts around op live live')
    (store : Interferences) (store-fits : FitsStore laid tasks store) (inside : AreInSorts laid sorts extents)
    (closed : IsClosedAt laid extents op) where
  abbrev Holds : ℕ → Values → Type 0
  Holds = InExtents laid extents

  abbrev kinds : AreKinds laid Holds
  kinds = extents_are_kinds laid extents

  weak : (x : ℕ) → (let a = abstract_at laid x in AreTyped laid a.scalar x store.weak)
  weak x = λ j l written cells v p q r. store-fits.weak.values j l x written cells v p q r

  sync : (x : ℕ) → (let a = abstract_at laid x in AreTyped laid a.scalar x store.sync)
  sync x = λ j l written cells v p q r. store-fits.sync.values j l x written cells v p q r

  typed_of : (t : ℕ) (a : Option Temp) → FitsTemp Holds live t a → (e : Temp) → a ≡ Some e
      → Holds t e.value
  typed_of t None h e at = absurd (let k : (let n : Option Temp = None in n ≡ Some e) = at in cc)
  typed_of t (Some d) h e at = let same : d ≡ e = cc in subst (λ (x : Temp). Holds t x.value) same h.1

  next_of : (t : ℕ) (a : Option Temp) → (is_among live' t ≡ true → is_among live t ≡ true)
      → FitsTemp Holds live t a → NextTemp laid task Holds kinds around.is_live t a
  next_of t None flows h = by_live (is_among live' t) refl
    where
      by_live : (b : Bool) → is_among live' t ≡ b → around.is_live t ≡ false
      by_live true is = absurd (true≢false (sym (flows is) ∙ h))
      by_live false is = edge.arrives t ∙ is
  next_of t (Some e) flows h = h.1

  module _ (pointers answer : Bool) (s : State) (fits : FitsPlace laid task Holds live s) where
    abbrev action : Action
    action = action_of laid task pointers answer op

    begins : IsNext laid task Holds kinds around.is_live (target_of action) s
    begins = record {
      typed = λ t e at. typed_of t (get s.temps t) (fits.temps t) e at;
      temps = λ t other. next_of t (get s.temps t)
          (λ is. edge.flow t is (λ e. other (targets_are_given laid task pointers answer op ∙ e))) (fits.temps t);
      copies = fits.copies;
      cells = fits.cells;
    }

    led : MayBeNext laid task Holds kinds around.is_live (effect around action s store)
    led = effect_next laid task Holds kinds around store weak sync edge.held edge.shares s action
        (loads_seen laid task edge.seen pointers answer op)
        (operation_within laid task edge.spots sorts extents inside s
        (E.value_typed laid task Holds kinds around.is_live (target_of action) s begins) pointers answer op
        edge.operation edge.objects closed
        (sorted laid task edge.spots sorts extents inside s
        (E.value_typed laid task Holds kinds around.is_live (target_of action) s begins) pointers answer op
        edge.operation edge.objects)) begins

    arrives : (a : Option State) (t : State) → MayBeNext laid task Holds kinds around.is_live a
        → option_map (arrived around) a ≡ Some t → IsStateForm t → FitsPlace laid task Holds live' t
    arrives None t may e form = absurd (let k : (let n : Option State = None in n ≡ Some t) = e in cc)
    arrives (Some x) t may e form =
        let same : arrived around x ≡ t = cc in
        subst (FitsPlace laid task Holds live') same
        (arrived_fits laid task Holds kinds around live' edge.arrives x (may x refl)
        (subst IsStateForm (sym same) form))

    pub edge_fits : (t : State) → after around action s store ≡ Some t → FitsPlace laid task Holds live' t
    edge_fits t e = arrives (effect around action s store) t led e
        (after_is around s fits.form store store-fits.form action (edge_is laid task pointers answer op) t e)
