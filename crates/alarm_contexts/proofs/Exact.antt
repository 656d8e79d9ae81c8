-- The contexts that are merged are those of the tables.
use Rattle.std.proofs.Common.{◌≡◌, ◌↔◌, ℕ, ◌<◌, refl, ap, sym, subst, ◌∙◌, true, not, List, [], ◌∷◌, length, map}
use Rattle.std.proofs.Common.{get_or}
use Rattle.std.proofs.Common.{Option}
use Rattle.std.specs.Prelude.{is_some, Contains}
use Rattle.tm_terms.specs.declared.alarms.Alarm.{Alarm}
use Rattle.tm_terms.specs.Alarms.{AlarmBefore, IsStrictlySorted}
use Rattle.interfere_set.specs.pointer_dom.Values.{Values, no_value}
use Rattle.interfere_set.specs.Stores.{Interferences}
use Rattle.program_reports.specs.post_recheck.transfer_rows.StateForms.{State}
use Rattle.program_reports.specs.post_recheck.transfer_rows.Rows.{after}
use Rattle.program_reports.specs.post_recheck.table_covers.Solutions.{NodeTable}
use Rattle.program_reports.specs.post_recheck.task_equations.Equations.{action_along, around_along}
use Rattle.program_reports.specs.post_recheck.program_equations.Programs.{ProgramBodies, body_at, IsProgram}
use Rattle.program_reports.specs.Reports.{copy_in}
use Rattle.alarm_contexts.specs.declared.alarm_context.ContextEdge.{ContextEdge}
use Rattle.alarm_contexts.specs.declared.alarm_context.AlarmContexts.{AlarmContexts}
use Rattle.alarm_contexts.specs.declared.exits.Context.{Context}
use Rattle.alarm_contexts.specs.declared.flaws.ObjectFlaw.{ObjectFlaw}
use Rattle.access_races.specs.Rising.{AreRising}
use Rattle.alarm_contexts.specs.Contexts.{IsContext, IsEdge, HasOperand, IsOperand, IsFlaw, IsAlways, IsContextOf}
use Rattle.alarm_contexts.specs.Contexts.{alarm_of, AreContexts}
use Rattle.alarm_contexts.specs.reading.Found.{IsContextUpTo}
use Rattle.alarm_contexts.specs.reading.Operands.{operands_of, IsFlawed}
use Rattle.alarm_contexts.specs.reading.Merging.{IsGiven, IsEdgeOf, HasValue, IsValueOf, IsFlawOf}
use Rattle.alarm_contexts.specs.reading.Merging.{IsMerged, AreMerged}
use Rattle.access_races.proofs.Rising.{first}
use Rattle.alarm_contexts.proofs.Bounds.{least_same}
use Rattle.alarm_contexts.proofs.Leaving.{same_after, ends_none, IsAs, as_context, from_copy, found_copy, as_copy}
use Rattle.alarm_contexts.proofs.Leaving.{operand_count, operand_is, flawed_as, as_flawed}

strictly : (list : List AlarmContexts) → AreRising (λ (a b : AlarmContexts). AlarmBefore (alarm_of a) (alarm_of b)) list
    → IsStrictlySorted (map alarm_of list)
strictly [] r = tt
strictly (a ∷ []) r = tt
strictly (a ∷ b ∷ list) r = (r.0 b (first b list), strictly (b ∷ list) r.1)

module _ (p : ProgramBodies) (is : IsProgram p) (tables : ℕ → NodeTable State) (store : Interferences)
    (contexts : List Context)
    (found : (x : Context) → Contains contexts x ↔ IsContextUpTo p store tables (length p.bodies) x) where
  abbrev values : Context → List Values
  values = operands_of p tables

  abbrev Flawed : Context → ObjectFlaw → Type 0
  Flawed = IsFlawed p tables

  module _ (a : AlarmContexts) where
    abbrev Is : Context → Type 0
    Is = IsGiven contexts (alarm_of a)

    -- the copy of a context of the alarm
    record HasCopy (x : Context) : Type 0 where
      pub body : ℕ
      pub copy : ℕ
      pub state : State
      pub like : IsAs p tables store x body copy state
      pub context : IsContext p tables a.place a.class body copy state

    copy_of : (x : Context) → Is x → HasCopy x
    copy_of x g =
        let h = (found x).0 g.has in
        let like = as_context p tables store is x h in record {
          body = h.body;
          copy = h.gives.copy;
          state = h.gives.state;
          like = like;
          context = subst
              (λ (alarm : Alarm). IsContext p tables alarm.place alarm.class h.body h.gives.copy h.gives.state)
              g.alike like.context;
        }

    -- and the context of a copy
    abbrev of_copy : ℕ → ℕ → State → Context
    of_copy t k s = from_copy p tables store is a.place a.class t k s

    given : (t k : ℕ) (s : State) → IsContext p tables a.place a.class t k s → Is (of_copy t k s)
    given t k s h = record {
      has = (found (of_copy t k s)).1 (found_copy p tables store is a.place a.class t k s h);
      alike = refl;
    }

    like_copy : (t k : ℕ) (s : State) → IsContext p tables a.place a.class t k s
        → IsAs p tables store (of_copy t k s) t k s
    like_copy t k s h = as_copy p tables store is a.place a.class t k s h

    edge_from : (e : ContextEdge) → IsEdgeOf values Is e → IsEdge p tables a.place a.class e
    edge_from e h =
        let c = copy_of h.one h.is in
        let body : c.body ≡ e.body = sym c.like.body ∙ ap (λ (f : ContextEdge). f.body) h.edge in record {
          copy = c.copy;
          state = c.state;
          context = subst (λ t. IsContext p tables a.place a.class t c.copy c.state) body c.context;
          edge = subst (λ t. let d = copy_in p t c.copy in d.edge ≡ e.edge) body
              (sym c.like.edge ∙ ap (λ (f : ContextEdge). f.edge) h.edge);
        }

    edge_to : (e : ContextEdge) → IsEdge p tables a.place a.class e → IsEdgeOf values Is e
    edge_to e h =
        let like = like_copy e.body h.copy h.state h.context in record {
          one = of_copy e.body h.copy h.state;
          is = given e.body h.copy h.state h.context;
          edge = λ i. record { body = like.body i; edge = (like.edge ∙ h.edge) i };
        }

    count_from : (role : ℕ) → HasValue values Is role → HasOperand p tables a.place a.class role
    count_from role h =
        let c = copy_of h.one h.is in record {
          body = c.body;
          copy = c.copy;
          state = c.state;
          context = c.context;
          within = subst (λ n. role < n) (operand_count p tables store h.one c.body c.copy c.state c.like) h.within;
        }

    count_to : (role : ℕ) → HasOperand p tables a.place a.class role → HasValue values Is role
    count_to role h =
        let x = of_copy h.body h.copy h.state in record {
          one = x;
          is = given h.body h.copy h.state h.context;
          within = subst (λ n. role < n) (sym (operand_count p tables store x h.body h.copy h.state
              (like_copy h.body h.copy h.state h.context))) h.within;
        }

    operand_from : (role : ℕ) (v : Values) → IsValueOf values Is role v → IsOperand p tables a.place a.class role v
    operand_from role v h =
        let c = copy_of h.one h.is in
        let within = subst (λ n. role < n) (operand_count p tables store h.one c.body c.copy c.state c.like) h.within in
        record {
          body = c.body;
          copy = c.copy;
          state = c.state;
          context = c.context;
          within = within;
          value = h.value ∙ operand_is p tables store h.one c.body c.copy c.state c.like role within;
        }

    operand_to : (role : ℕ) (v : Values) → IsOperand p tables a.place a.class role v → IsValueOf values Is role v
    operand_to role v h =
        let x = of_copy h.body h.copy h.state in
        let like = like_copy h.body h.copy h.state h.context in record {
          one = x;
          is = given h.body h.copy h.state h.context;
          within = subst (λ n. role < n) (sym (operand_count p tables store x h.body h.copy h.state like)) h.within;
          value = h.value ∙ sym (operand_is p tables store x h.body h.copy h.state like role h.within);
        }

    flaw_from : (f : ObjectFlaw) → IsFlawOf Flawed Is f → IsFlaw p tables a.place a.class f
    flaw_from f h =
        let c = copy_of h.one h.is in record {
          body = c.body;
          copy = c.copy;
          state = c.state;
          context = c.context;
          flaw = flawed_as p tables store h.one c.body c.copy c.state c.like f h.flaw;
        }

    flaw_to : (f : ObjectFlaw) → IsFlaw p tables a.place a.class f → IsFlawOf Flawed Is f
    flaw_to f h =
        let x = of_copy h.body h.copy h.state in record {
          one = x;
          is = given h.body h.copy h.state h.context;
          flaw = as_flawed p tables store x h.body h.copy h.state
              (like_copy h.body h.copy h.state h.context) f h.flaw;
        }

    always_from : ((x : Context) → Is x → x.exit.ends ≡ true) → IsAlways p tables a.place a.class
    always_from all t k s h other =
        let b = body_at p t in
        let c = copy_in p t k in
        let like = like_copy t k s h in
        same_after (around_along b c) (action_along b c) s a.class h.listed other store
        ∙ ends_none (after (around_along b c) (action_along b c) s store)
        (sym like.ends ∙ all (of_copy t k s) (given t k s h))

    always_to : IsAlways p tables a.place a.class → (x : Context) → Is x → x.exit.ends ≡ true
    always_to all x g =
        let c = copy_of x g in
        c.like.ends
        ∙ ap (λ (o : Option State). not (is_some o)) (all c.body c.copy c.state c.context store)

    is_context : IsMerged values Flawed Is a → IsContextOf p tables a
    is_context h =
        let c = copy_of h.one h.is in record {
          some = record { body = c.body; copy = c.copy; state = c.state; context = c.context };
          rising = h.rising;
          edges = λ e. (λ m. edge_from e ((h.edges e).0 m), λ k. (h.edges e).1 (edge_to e k));
          count = λ role. (
            λ lt. count_from role ((h.count role).0 lt),
            λ k. (h.count role).1 (count_to role k),
          );
          operands = λ role. least_same (IsValueOf values Is role) (IsOperand p tables a.place a.class role)
              (get_or a.operands.items role no_value) (h.operands role) (operand_from role) (operand_to role);
          ordered = h.ordered;
          flaws = λ f. (λ m. flaw_from f ((h.flaws f).0 m), λ k. (h.flaws f).1 (flaw_to f k));
          always = (
            λ t. always_from (h.always.0 t),
            λ all. h.always.1 (always_to all),
          );
        }

  pub contexts_are : (list : List AlarmContexts) → AreMerged values Flawed contexts list → AreContexts p tables list
  contexts_are list h = record {
    sorted = strictly list h.rising;
    each = λ a c. is_context a (h.each a c);
    all = λ place class k.
        let x = from_copy p tables store is place class k.body k.copy k.state in
        let f = h.all x ((found x).1 (found_copy p tables store is place class k.body k.copy k.state k.context)) in
        record { one = f.0; has = f.1; is = f.2 };
  }
