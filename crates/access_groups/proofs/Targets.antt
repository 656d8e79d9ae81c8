-- What a copy gives, with one more cell.
use Rattle.std.proofs.Common.{◌≡◌, ◌↔◌, ◌⊎◌, ℕ, ◌+◌, ◌<◌, refl, ap, sym, ◌∙◌, inl, inr, Bool, true, List, length, take}
use Rattle.std.proofs.Common.{get_or, Some, None, arith}
use Rattle.std.specs.Prelude.{Contains}
use Rattle.tm_terms.specs.declared.places.Place.{Place}
use Rattle.flow_graph.specs.tm_laid.Layouts.{LaidTree}
use Rattle.flow_graph.specs.declared.operations.Operation.{Operation}
use Rattle.flow_graph.specs.declared.operations.Operation.TheVariants as Op
use Rattle.mutex_configs.specs.declared.nodes.EdgeCopy.{EdgeCopy}
use Rattle.interfere_set.specs.Stores.{Interferences}
use Rattle.program_reports.specs.post_recheck.transfer_rows.StateForms.{State}
use Rattle.program_reports.specs.post_recheck.transfer_rows.Reports.{targets_of}
use Rattle.program_reports.specs.post_recheck.edge_actions.Edges.{action_of}
use Rattle.program_reports.specs.post_recheck.edge_effects.declared.views.After.{After}
use Rattle.program_reports.specs.post_recheck.edge_effects.Effects.{IsAfter}
use Rattle.program_reports.specs.post_recheck.task_equations.Bodies.{Body, no_copy, copy_at}
use Rattle.program_reports.specs.post_recheck.task_equations.Equations.{action_along, around_along, tests_pointer}
use Rattle.access_races.specs.declared.accesses.Way.{Way}
use Rattle.access_races.proofs.Joins.{either}
use Rattle.program_reports.specs.Reports.{place_of, IsWriting}
use Rattle.program_reports.specs.declared.copies.BodyParts.{BodyParts}
use Rattle.program_reports.specs.reading.Found.{operation_at, way_of_copy, is_writing}
use Rattle.program_reports.specs.reading.Parts.{ArePartsOf}
use Rattle.program_reports.proofs.Steps as steps
use Rattle.program_reports.proofs.Tables as tables
use Rattle.access_groups.specs.declared.site.Site.{Site}
use Rattle.access_groups.specs.reading.Sites.{access_place, IsTargetSite, GivesSite}

-- ## Cells

pub targets_more : (cells : List ℕ) (i : ℕ) → i < length cells → (way : Way) (place : Place) (edge : ℕ) (x : Site)
    → IsTargetSite way place edge (take (i + 1) cells) x ↔ (IsTargetSite way place edge (take i cells) x
    ⊎ (x ≡ record { access = record { cell = get_or cells i 0; way = way; place = place }; edge = edge }))
targets_more cells i lt way place edge x =
    let more = steps.targets_more cells i lt way place x.access in (
      λ h. either (λ before. inl (record { access = before; edge = h.edge }))
          (λ same. inr (λ j. record { access = same j; edge = h.edge j })) (more.0 h.access),
      λ h. either (λ (o : IsTargetSite way place edge (take i cells) x). record {
        access = more.1 (inl o.access);
        edge = o.edge;
      })
          (λ e. record {
            access = more.1 (inr (ap (λ (y : Site). y.access) e));
            edge = ap (λ (y : Site). y.edge) e;
          }) h,
    )

-- ## Operations

-- one that reaches a cell stands somewhere
pub stands : (laid : LaidTree) (task : ℕ) (pointers answer : Bool) (op : Operation) (s : State) (cell : ℕ)
    → Contains (targets_of (action_of laid task pointers answer op) s) cell
    → (place : Place) × (access_place op ≡ Some place) × (place_of op ≡ Some place)
unfolding access_place place_of targets_of
stands laid task pointers answer (Op.Load to address scalar place) s cell h = (place, refl, refl)
stands laid task pointers answer (Op.LoadAny to address scalar place) s cell h = (place, refl, refl)
stands laid task pointers answer (Op.Store address value scalar into place) s cell h = (place, refl, refl)
stands laid task pointers answer _ s cell (k, lt, e) = absurd (omega (arith, lt))

-- and stands where it is told
placed_too : (op : Operation) (place : Place) → access_place op ≡ Some place → place_of op ≡ Some place
unfolding access_place place_of
placed_too (Op.Load to address scalar there) place e = e
placed_too (Op.LoadAny to address scalar there) place e = e
placed_too (Op.Store address value scalar into there) place e = e
placed_too _ place e = absurd cc

pub writes : (op : Operation) → is_writing op ≡ true → IsWriting op
unfolding is_writing
writes (Op.Store address value scalar into place) e = tt
writes _ e = absurd cc

pub is_write : (op : Operation) → IsWriting op → is_writing op ≡ true
unfolding is_writing
is_write (Op.Store address value scalar into place) h = refl
is_write _ h = absurd h

-- ## Copies

-- the operation of a copy that reaches a cell stands somewhere
pub stands_at : (b : Body) (k : ℕ) (s : State) (cell : ℕ)
    → Contains (targets_of (action_along b (copy_at b k)) s) cell
    → (place : Place) × (access_place (operation_at b k) ≡ Some place) × (place_of (operation_at b k) ≡ Some place)
stands_at b k s cell h =
    let c = copy_at b k in
    stands b.laid b.task (tests_pointer b.pointers (operation_at b k)) c.answer (operation_at b k) s cell h

-- one that reaches none gives none
pub nothing_given : {O : Type 0} (b : Body) (k : ℕ) (s : State) (x : Site) → access_place (operation_at b k) ≡ None
    → (O ↔ (O ⊎ GivesSite b k s x))
nothing_given {O} b k s x e = (
  λ o. inl o,
  λ h. either (λ o. o)
      (λ (g : GivesSite b k s x). let there = stands_at b k s x.access.cell g.access.target in
      absurd (let clash : None ≡ Some there.0 = sym e ∙ there.1 in cc)) h,
)

-- the edge of a copy
pub edge_read : (b : Body) (parts : BodyParts) → ArePartsOf b parts → (k : ℕ)
    → (get_or parts.copies.now k no_copy).edge ≡ (let c = copy_at b k in c.edge)
edge_read b parts are k = ap (λ (cs : List EdgeCopy). (get_or cs k no_copy).edge) are.copies

module _ (b : Body) (k : ℕ) (s : State) (store : Interferences) (after : After)
    (is : IsAfter (around_along b (copy_at b k)) (action_along b (copy_at b k)) s store after) (place : Place)
    (placed : access_place (operation_at b k) ≡ Some place) where
  pub site_given : (way : Way) → way ≡ way_of_copy b k → (edge : ℕ) → edge ≡ (let c = copy_at b k in c.edge)
      → (cells : List ℕ) → cells ≡ after.targets.items → (x : Site)
      → IsTargetSite way place edge cells x ↔ GivesSite b k s x
  site_given way way-is edge edge-is cells cells-is x =
      let given = tables.access_given b k s store after is place (placed_too (operation_at b k) place placed) true refl
      way way-is cells cells-is x.access in (
        λ h. record { access = (given.0 h.access).1; edge = h.edge ∙ edge-is },
        λ g. record { access = given.1 (refl, g.access); edge = g.edge ∙ sym edge-is },
      )
