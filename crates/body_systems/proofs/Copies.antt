-- What the transfer of a copy gives by its view.
use Rattle.std.proofs.Common.{◌≡◌, refl, sym, ap, subst, ◌∙◌, ℕ, ◌<◌, ◌≤◌, List, length, Option, Some, None, arith}
use Rattle.std.specs.Prelude.{false, get_or, map, is_none}
use Rattle.std.proofs.lemmas.Bool.{true≢false}
use Rattle.std.proofs.lemmas.List.{length-map, get_or-map, get_or_default}
use Rattle.std.specs.FinMap.{get}
use Rattle.tm_laid.specs.declared.layouts.Laid.{Laid}
use Rattle.tm_laid.specs.Layouts.{laid_tree}
use Rattle.flow_graph.specs.declared.operations.Operation.{Operation}
use Rattle.interfere_set.specs.Stores.{reader_of}
use Rattle.transfer_mem.specs.edge_actions.transfer_rows.StateForms.{State}
use Rattle.transfer_mem.specs.edge_actions.transfer_rows.Actions.{Action, Around}
use Rattle.transfer_mem.specs.edge_actions.transfer_rows.Accesses.{is_among}
use Rattle.transfer_mem.specs.edge_actions.transfer_rows.Rows.{after}
use Rattle.transfer_mem.specs.edge_actions.transfer_rows.Contributions.{added}
use Rattle.transfer_mem.specs.Applicable.{IsOperable, IsApplicable}
use Rattle.transfer_mem.specs.edge_actions.Layouts.{is_shared_cell, is_smashed_cell}
use Rattle.transfer_mem.specs.edge_actions.Edges.{action_of, action_at, around_of}
use Rattle.transfer_mem.specs.edge_actions.declared.views.EdgeView.{EdgeView}
use Rattle.transfer_mem.specs.edge_effects.declared.views.After.{After}
use Rattle.transfer_mem.specs.edge_effects.Effects.{IsAfter}
use Rattle.mutex_configs.specs.declared.nodes.EdgeCopy.{EdgeCopy}
use Rattle.table_covers.specs.declared.links.Link.{Link}
use Rattle.table_covers.specs.Systems.{no_link, from_of}
use Rattle.task_equations.specs.Bodies.{Body, no_copy, edge_of, node_at, copy_at, live_at}
use Rattle.task_equations.specs.Equations.{tests_pointer, action_along, around_along, led}
use Rattle.task_equations.specs.Equations.{after_along, link_of}
use Rattle.task_equations.specs.Equations.{added_along}
use Rattle.task_equations.specs.Premises.{IsCopyOf}
use Rattle.task_equations.specs.laws.Extents.{temp_typed}
use Rattle.program_equations.specs.Systems.{FitsBody}
use Rattle.program_equations.specs.laws.ReadAlike.{action_read}
use Rattle.body_systems.specs.Systems.{SystemOf, body_of, contributed_by, IsSystemOf, FitsTemps}
use Rattle.body_systems.specs.Views.{IsViewOf}
use Rattle.body_systems.specs.laws.Applicable.{temps_operable}

module _ (v : SystemOf) (c : EdgeCopy) (view : EdgeView) (is : IsViewOf v c view) where
  abbrev body : Body
  body = body_of v

  -- the action over the whole layout is that over what is read of it
  pub shown_action : action_at view ≡ action_along body c
  shown_action =
      let e = edge_of body c in
      (λ i. action_of (laid_tree (is.laid i)) (is.task i) (is.tests i) (is.answer i) (is.operation i))
      ∙ sym (action_read (laid_tree v.laid) v.task (tests_pointer body.pointers e.op) c.answer e.op)

  pub shown_around : around_of view ≡ around_along body c
  shown_around = λ i. record {
    reader = reader_of (is.task i) (is.held i) (is.found i) (is.priorities i);
    is_shared = is_shared_cell (laid_tree (is.laid i));
    is_smashed = is_smashed_cell (laid_tree (is.laid i));
    is_live = is_among (is.live i);
  }

  module _ (s : State) (given : After) (gives : IsAfter (around_of view) (action_at view) s v.store given) where
    pub shown_state : given.state ≡ after (around_along body c) (action_along body c) s v.store
    shown_state = gives.state ∙ (λ i. after (shown_around i) (shown_action i) s v.store)

    pub shown_added : given.added ≡ added_along body c s
    shown_added = gives.added ∙ (λ i. added (shown_around i) (shown_action i) s)

    pub shown_after : IsAfter (around_along body c) (action_along body c) s v.store given
    shown_after =
        subst (λ (around : Around). IsAfter around (action_along body c) s v.store given) shown_around
        (subst (λ (action : Action). IsAfter (around_of view) action s v.store given) shown_action gives)

  -- ## When a copy may be applied

  module _ (keeps : IsSystemOf v) (copy : IsCopyOf body c) (s : State) (fits : FitsTemps body c.from s) where
    operable : (let e = edge_of body c in IsOperable e.op s)
    operable =
        let e = edge_of body c in
        let q = node_at body c.from in
        temps_operable body.laid keeps.sorts (live_at body q.place) s
        (λ t. temp_typed body keeps.sorts keeps.body (live_at body q.place) t (get s.temps t) (fits t)) e.op
        (keeps.body.operations c.edge copy.edge) (keeps.tests c.edge copy.edge)

    pub copy_applicable : IsApplicable view s v.store
    copy_applicable = record {
      task = subst (λ n. n < length view.priorities.now) (sym is.task)
          (subst (λ (ps : List ℕ). v.task < length ps) (sym is.priorities) keeps.task);
      writers = λ j written at.
          subst (λ (ps : List ℕ). j < length ps) (sym is.priorities)
          (let lt = keeps.store.weak.writers j written at in let le = keeps.writers in omega (arith, lt, le));
      layable = subst (λ (l : Laid). Rattle.tm_laid.specs.Layable.IsLayable
          (Rattle.tm_laid.specs.tm_typed.TypedFiles.typed_file_tree l.file) l.file.order.items) (sym is.laid) keeps.layable;
      few = subst (λ (l : Laid). length l.cells.items ≤ 65536) (sym is.laid) keeps.few;
      operable = subst (λ (op : Operation). IsOperable op s) (sym is.operation) operable;
    }

-- ## A copy by its number

-- a copy that leads somewhere brings what is brought
led_on : (to : Option ℕ) (x : Option State) → is_none to ≡ false → x ≡ led to x
led_on None x e = absurd (true≢false e)
led_on (Some n) x e = refl

module _ (v : SystemOf) (keeps : IsSystemOf v) (k : ℕ) (lt : k < length (map link_of v.configured.copies.items))
    (c : EdgeCopy) (read : c ≡ get_or v.configured.copies.items k c) (view : EdgeView) (is : IsViewOf v c view)
    (s : State) where
  abbrev copies : List EdgeCopy
  copies = v.configured.copies.items

  within : k < length copies
  within = subst (λ n. k < n) (length-map copies link_of) lt

  same : c ≡ copy_at (body_of v) k
  same = read ∙ get_or_default copies k c no_copy within

  leaves : from_of (map link_of copies) k ≡ c.from
  leaves =
      ap (λ (l : Link). l.from) (get_or-map link_of copies k no_copy no_link within)
      ∙ ap (λ (d : EdgeCopy). d.from) (sym same)

  pub number_applicable : FitsBody (body_of v) (from_of (map link_of copies) k) s → IsApplicable view s v.store
  number_applicable fits =
      copy_applicable v c view is keeps (subst (IsCopyOf (body_of v)) (sym same) (keeps.body.copies k within)) s
      (let h = subst (λ n. FitsBody (body_of v) n s) leaves fits in h.temps)

  module _ (given : After) (gives : IsAfter (around_of view) (action_at view) s v.store given) where
    pub number_added : given.added ≡ contributed_by v k s
    number_added = shown_added v c view is s given gives ∙ ap (λ d. added_along (body_of v) d s) same

    pub number_state : is_none c.to ≡ false → given.state ≡ after_along (body_of v) v.store (copy_at (body_of v) k) s
    number_state on =
        shown_state v c view is s given gives
        ∙ (led_on c.to (after (around_along (body_of v) c) (action_along (body_of v) c) s v.store) on
        ∙ ap (λ d. after_along (body_of v) v.store d s) same)
