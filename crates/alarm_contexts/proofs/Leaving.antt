-- What the contexts of bodies tell of tables.
use Rattle.std.proofs.Common.{◌≡◌, ℕ, ◌<◌, refl, ap, sym, subst, ◌∙◌, true, not, cond, List, [], length, map}
use Rattle.std.proofs.Common.{get_or, Option, Some, None, inl, inr, arith}
use Rattle.std.specs.Prelude.{is_some}
use Rattle.std.specs.FinMap.{get}
use Rattle.std.specs.Option.{option_map}
use Rattle.std.proofs.lemmas.Bool.{cases_lt}
use Rattle.std.proofs.lemmas.List.{length-map, get_or-map, get_or_past}
use Rattle.tm_cint.specs.declared.Class.{Class}
use Rattle.tm_terms.specs.declared.places.Place.{Place}
use Rattle.flow_graph.specs.Operations.{used}
use Rattle.flow_graph.specs.declared.operations.Operation.{Operation}
use Rattle.interfere_set.specs.pointer_dom.Values.{Values, IsValues, no_value}
use Rattle.interfere_set.specs.Stores.{Interferences}
use Rattle.interfere_set.specs.laws.Joins.{none_is}
use Rattle.cell_env.specs.tm_lattice.Tables.{IsEntry}
use Rattle.program_reports.specs.post_recheck.transfer_rows.StateForms.{Temp, State, IsTempForm, IsStateForm}
use Rattle.program_reports.specs.post_recheck.transfer_rows.StateForms.{temp_value, value_of}
use Rattle.program_reports.specs.post_recheck.transfer_rows.Actions.{Around, Action, gives, refines, locks, unlocks}
use Rattle.program_reports.specs.post_recheck.transfer_rows.Rows.{holds, after, after_lock, arrived, effect}
use Rattle.program_reports.specs.post_recheck.transfer_rows.Reports.{IsListed}
use Rattle.program_reports.specs.post_recheck.table_covers.Solutions.{NodeTable}
use Rattle.program_reports.specs.post_recheck.task_equations.Bodies.{Body, copy_at}
use Rattle.program_reports.specs.post_recheck.task_equations.Equations.{action_along, around_along}
use Rattle.program_reports.specs.post_recheck.program_equations.Programs.{ProgramBodies, body_at, IsProgram}
use Rattle.program_reports.specs.Reports.{copy_in, operation_in}
use Rattle.program_reports.specs.reading.Found.{operation_at}
use Rattle.alarm_contexts.specs.declared.exits.Exit.{Exit}
use Rattle.alarm_contexts.specs.declared.exits.Context.{Context}
use Rattle.alarm_contexts.specs.declared.flaws.ObjectFlaw.{ObjectFlaw}
use Rattle.alarm_contexts.specs.Flaws.{HasFlaw}
use Rattle.alarm_contexts.specs.Contexts.{IsContext}
use Rattle.alarm_contexts.specs.reading.Found.{context_at, exit_at, IsContextUpTo}
use Rattle.alarm_contexts.specs.reading.Operands.{values_in, operands_at, operands_of, IsFlawed}

-- ## Control

module _ (around : Around) where
  -- Where a class is not excluded, it does not depend on other tasks whether control goes on.
  pub same_after : (action : Action) (s : State) (class : Class) → IsListed around action s class
      → (store other : Interferences) → after around action s store ≡ after around action s other
  unfolding IsListed effect
  same_after (gives target calculation) s class h store other = refl
  same_after (refines filter) s class h store other = refl
  same_after (locks m) s class h store other =
      let none : (x : Interferences)
      → option_map (arrived around) (cond (holds around m) None (Some (after_lock around s x m))) ≡ None =
      λ x. ap (λ b. option_map (arrived around) (cond b None (Some (after_lock around s x m)))) h.1 in
      none store ∙ sym (none other)
  same_after (unlocks m) s class h store other = refl
  same_after _ s class h store other = absurd h

pub ends_none : (o : Option State) → not (is_some o) ≡ true → o ≡ None
ends_none None e = refl
ends_none (Some s) e = absurd cc

-- ## Values

temp_value_is : (a : Option Temp) → IsEntry IsTempForm (λ t. ⊥) a → IsValues (temp_value a)
temp_value_is None h = none_is
temp_value_is (Some t) h = h.0

value_is : (s : State) (t : ℕ) → IsStateForm s → IsValues (value_of s t)
value_is s t form = temp_value_is (get s.temps t) (form.temps t)

-- ## What is read

module _ (b : Body) (table : NodeTable State) (k : ℕ) where
  pub operands_some : (s : State) → (let c = copy_at b k in table c.from ≡ Some s) → (op : Operation)
      → op ≡ operation_at b k → (temps : List ℕ) → temps ≡ used op → (values : List Values)
      → values ≡ map (value_of s) temps → values ≡ operands_at b table k
  operands_some s found op op-is temps temps-is values values-is =
      values-is ∙ ap (map (value_of s)) (temps-is ∙ ap used op-is)
      ∙ ap (λ o. values_in o (used (operation_at b k))) (sym found)

  pub operands_none : (let c = copy_at b k in table c.from ≡ None) → (values : List Values) → values ≡ []
      → values ≡ operands_at b table k
  operands_none found values values-is = values-is ∙ ap (λ o. values_in o (used (operation_at b k))) (sym found)

-- ## Exits

module _ (p : ProgramBodies) (tables : ℕ → NodeTable State) (store : Interferences) where
  -- a context is that of a copy
  pub record IsAs (x : Context) (t k : ℕ) (s : State) : Type 0 where
    pub context : IsContext p tables x.alarm.place x.alarm.class t k s
    pub body : x.exit.body ≡ t
    pub edge : (let c = copy_in p t k in x.exit.edge ≡ c.edge)
    pub copy : x.exit.copy ≡ k
    pub ends : (let b = body_at p t in let c = copy_in p t k in
        x.exit.ends ≡ not (is_some (after (around_along b c) (action_along b c) s store)))

  module _ (is : IsProgram p) where
    number : (t : ℕ) → t < length p.bodies → (body_at p t).task ≡ t
    number t lt = (is.each t lt).numbered.number

    pub as_context : (x : Context) (h : IsContextUpTo p store tables (length p.bodies) x)
        → IsAs x h.body h.gives.copy h.gives.state
    as_context x h =
        let g = h.gives.gives in record {
          context = record {
            reached = record { body = h.below; copy = h.gives.below; state = h.gives.reached };
            listed = g.alarm.listed;
            placed = g.alarm.placed;
          };
          body = ap (λ (e : Exit). e.body) g.exit ∙ number h.body h.below;
          edge = ap (λ (e : Exit). e.edge) g.exit;
          copy = ap (λ (e : Exit). e.copy) g.exit;
          ends = ap (λ (e : Exit). e.ends) g.exit;
        }

    -- that of a copy
    abbrev pub from_copy : Place → Class → ℕ → ℕ → State → Context
    from_copy place class t k s = context_at place (exit_at (body_at p t) store k s) class

    pub found_copy : (place : Place) (class : Class) (t k : ℕ) (s : State) → IsContext p tables place class t k s
        → IsContextUpTo p store tables (length p.bodies) (from_copy place class t k s)
    found_copy place class t k s h = record {
      body = t;
      below = h.reached.body;
      gives = record {
        copy = k;
        below = h.reached.copy;
        state = s;
        reached = h.reached.state;
        gives = record { alarm = record { listed = h.listed; placed = h.placed }; exit = refl };
      };
    }

    pub as_copy : (place : Place) (class : Class) (t k : ℕ) (s : State) → IsContext p tables place class t k s
        → IsAs (from_copy place class t k s) t k s
    as_copy place class t k s h = record {
      context = h;
      body = number t h.reached.body;
      edge = refl;
      copy = refl;
      ends = refl;
    }

  -- ## Operands

  module _ (x : Context) (t k : ℕ) (s : State) (like : IsAs x t k s) where
    abbrev temps : List ℕ
    temps = used (operation_in p t k)

    operands_are : operands_of p tables x ≡ map (value_of s) temps
    operands_are =
        (λ i. operands_at (body_at p (like.body i)) (tables (like.body i)) (like.copy i))
        ∙ ap (λ o. values_in o temps) like.context.reached.state

    pub operand_count : length (operands_of p tables x) ≡ length temps
    operand_count = ap length operands_are ∙ length-map temps (value_of s)

    pub operand_is : (role : ℕ) → role < length temps
        → get_or (operands_of p tables x) role no_value ≡ value_of s (get_or temps role 0)
    operand_is role lt =
        ap (λ (l : List Values). get_or l role no_value) operands_are
        ∙ get_or-map (value_of s) temps role 0 no_value lt

    pub operands_fit : IsStateForm s → (role : ℕ) → IsValues (get_or (operands_of p tables x) role no_value)
    operands_fit form role = elim (cases_lt role (length temps)) [
      | inl lt ↦ subst IsValues (sym (operand_is role lt)) (value_is s (get_or temps role 0) form)
      | inr le ↦
          let count = operand_count in
          subst IsValues (sym (get_or_past (operands_of p tables x) role no_value (omega (arith, le, count)))) none_is
    ]

    -- ## Pointers

    flawed_is : (f : ObjectFlaw) → IsFlawed p tables x f ≡ (let operation = operation_in p t k in
        HasFlaw p.laid operation (map (value_of s) (used operation)) f)
    flawed_is f =
        (λ i. HasFlaw p.laid (operation_at (body_at p (like.body i)) (like.copy i)) (operands_of p tables x) f)
        ∙ (λ i. HasFlaw p.laid (operation_in p t k) (operands_are i) f)

    pub flawed_as : (f : ObjectFlaw) → IsFlawed p tables x f → (let operation = operation_in p t k in
        HasFlaw p.laid operation (map (value_of s) (used operation)) f)
    flawed_as f h = subst (λ A. A) (flawed_is f) h

    pub as_flawed : (f : ObjectFlaw) → (let operation = operation_in p t k in
        HasFlaw p.laid operation (map (value_of s) (used operation)) f) → IsFlawed p tables x f
    as_flawed f h = subst (λ A. A) (sym (flawed_is f)) h
