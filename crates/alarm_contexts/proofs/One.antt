-- Tables have one list of alarms with their contexts, and these are the alarms of the report.
use Rattle.std.proofs.Common.{◌≡◌, ◌↔◌, ℕ, ◌<◌, ◌≤◌, refl, sym, subst, ◌∙◌, inl, inr, Bool, true, false}
use Rattle.std.proofs.Common.{List, [], ◌∷◌, length, map, get_or, pos, arith}
use Rattle.std.specs.Prelude.{Contains}
use Rattle.std.proofs.lemmas.Bool.{cases_lt}
use Rattle.std.proofs.lemmas.List.{ext_get_or}
use Rattle.tm_cint.specs.declared.Class.{Class}
use Rattle.tm_cint.specs.declared.Class.TheVariants.{Index, Pointer, Deref, Lock, Race}
use Rattle.tm_cint.specs.declared.operators.BinOp.TheVariants.{Sub}
use Rattle.tm_terms.specs.declared.alarms.Alarm.{Alarm}
use Rattle.tm_terms.specs.declared.places.Place.{Place}
use Rattle.tm_terms.specs.Alarms.{AlarmBefore, IsStrictlySorted}
use Rattle.interfere_set.specs.strided_dom.Progression.{single}
use Rattle.interfere_set.specs.pointer_dom.Values.{no_value}
use Rattle.program_reports.specs.post_recheck.transfer_rows.StateForms.{State, value_of}
use Rattle.program_reports.specs.post_recheck.transfer_rows.Actions.{Around, Action, Calculation, negated, operated}
use Rattle.program_reports.specs.post_recheck.transfer_rows.Actions.{element, moved}
use Rattle.program_reports.specs.post_recheck.transfer_rows.Actions.{dereferenced, usable, gives, refines, locks}
use Rattle.program_reports.specs.post_recheck.transfer_rows.Actions.{unlocks}
use Rattle.program_reports.specs.post_recheck.transfer_rows.Reports.{IsListed, CalculationMayFail}
use Rattle.program_reports.specs.post_recheck.transfer_rows.operator_values.Classes.{may_fail_is}
use Rattle.program_reports.specs.post_recheck.task_equations.Equations.{action_along, around_along}
use Rattle.program_reports.specs.post_recheck.table_covers.Solutions.{NodeTable}
use Rattle.program_reports.specs.post_recheck.program_equations.Programs.{ProgramBodies, body_at}
use Rattle.access_races.proofs.Joins.{either}
use Rattle.program_reports.specs.Reports.{IsAlarm, IsReport, copy_in}
use Rattle.program_reports.specs.Reports.IsAlarm.{faulty, racing}
use Rattle.alarm_contexts.specs.declared.alarm_context.ContextEdge.{ContextEdge}
use Rattle.alarm_contexts.specs.declared.alarm_context.AlarmContexts.{AlarmContexts}
use Rattle.alarm_contexts.specs.declared.flaws.ObjectFlaw.{ObjectFlaw}
use Rattle.access_races.specs.Rising.{AreRising}
use Rattle.alarm_contexts.specs.Order.{IsEdgeBefore, IsFlawBefore}
use Rattle.alarm_contexts.specs.Bounds.{IsLeastAbove}
use Rattle.alarm_contexts.specs.Contexts.{HasContext, IsEdge, HasOperand, IsOperand, IsFlaw, IsAlways, IsContextOf}
use Rattle.alarm_contexts.specs.Contexts.{alarm_of, HasAlarm, AreContexts, Content, content, contents}
use Rattle.access_races.proofs.Rising.{none, first, later, cases, equal_lists}
use Rattle.alarm_contexts.proofs.Bounds.{one_least}
use Rattle.alarm_contexts.proofs.Sorting.{alarm_trans, alarm_never, edge_trans, edge_never, flaw_trans, flaw_never}

-- ## Alarms

-- no class that is listed is that of races
calculation_unlisted : (c : Calculation) (s : State) → CalculationMayFail c s Race → ⊥
unfolding CalculationMayFail
calculation_unlisted (negated t source) s h =
    (may_fail_is Sub t (single (pos 0)) (value_of s source).numbers Race).0 h
calculation_unlisted (operated op t left right) s h =
    (may_fail_is op t (value_of s left).numbers (value_of s right).numbers Race).0 h
calculation_unlisted (element count cells source index) s h = absurd (let e : Race ≡ Index = h.0 in cc)
calculation_unlisted (moved forward cells source count) s h = absurd (let e : Race ≡ Pointer = h.0 in cc)
calculation_unlisted (dereferenced alive stands source) s h = absurd (let e : Race ≡ Deref = h.0 in cc)
calculation_unlisted _ s h = absurd h

unlisted : (around : Around) (action : Action) (s : State) → IsListed around action s Race → ⊥
unfolding IsListed
unlisted around (gives target calculation) s h = calculation_unlisted calculation s h
unlisted around (refines (usable source)) s h = absurd (let e : Race ≡ Pointer = h.0 in cc)
unlisted around (locks m) s h = absurd (let e : Race ≡ Lock = h.0 in cc)
unlisted around (unlocks m) s h = absurd (let e : Race ≡ Lock = h.0 in cc)
unlisted around _ s h = absurd h

module _ (p : ProgramBodies) (tables : ℕ → NodeTable State) where
  context_from : (alarm : Alarm) → IsAlarm p tables alarm → (alarm.class ≡ Race → ⊥)
      → HasContext p tables alarm.place alarm.class
  context_from _ (faulty {place} {class} h) other = record {
    body = h.body;
    copy = h.copy;
    state = h.state;
    context = record { reached = h.reached; listed = h.listed; placed = h.placed };
  }
  context_from _ (racing {place} h) other = absurd (other refl)

  context_of : (alarms : List AlarmContexts) → AreContexts p tables alarms → (place : Place) (class : Class)
      → HasAlarm alarms place class → HasContext p tables place class
  context_of alarms are place class h =
      subst (λ (alarm : Alarm). HasContext p tables alarm.place alarm.class) h.is (are.each h.one h.has).some

  pub report_alarms : (report : List Alarm) (alarms : List AlarmContexts) → IsReport p tables report
      → AreContexts p tables alarms → (place : Place) (class : Class) → (class ≡ Race → ⊥)
      → Contains report (record { place = place; class = class }) ↔ HasAlarm alarms place class
  report_alarms report alarms is are place class other =
      let alarm : Alarm = record { place = place; class = class } in (
        λ c. are.all place class (context_from alarm ((is.exact alarm).0 c) other),
        λ h.
            let k = context_of alarms are place class h in
            (is.exact alarm).1 (faulty (record {
              body = k.body;
              copy = k.copy;
              state = k.state;
              reached = k.context.reached;
              listed = k.context.listed;
              placed = k.context.placed;
            })),
      )

  pub no_races : (alarms : List AlarmContexts) → AreContexts p tables alarms → (place : Place)
      → HasAlarm alarms place Race → ⊥
  no_races alarms are place h =
      let k = context_of alarms are place Race h in
      let b = body_at p k.body in
      let c = copy_in p k.body k.copy in
      unlisted (around_along b c) (action_along b c) k.state k.context.listed

  -- ## Entries

  not_less : (m n : ℕ) → ((role : ℕ) → role < n → role < m) → n ≤ m
  not_less m n f = elim (cases_lt m n) [
    | inl lt ↦ absurd (let never : m < m = f m lt in omega (arith, never))
    | inr le ↦ le
  ]

  same_count : (m n : ℕ) → ((role : ℕ) → role < m → role < n) → ((role : ℕ) → role < n → role < m) → m ≡ n
  same_count m n f g = let le = not_less n m f in let ge = not_less m n g in omega (arith, le, ge)

  same_truth : (x y : Bool) → (x ≡ true → y ≡ true) → (y ≡ true → x ≡ true) → x ≡ y
  same_truth true y f g = sym (f refl)
  same_truth false true f g = g refl
  same_truth false false f g = refl

  -- what is told of an alarm
  record Told (alarm : Alarm) (a : AlarmContexts) : Type 0 where
    pub rising : AreRising IsEdgeBefore a.edges.items
    pub edges : (e : ContextEdge) → Contains a.edges.items e ↔ IsEdge p tables alarm.place alarm.class e
    pub count : (role : ℕ) → (role < length a.operands.items) ↔ HasOperand p tables alarm.place alarm.class role
    pub operands : (role : ℕ)
        → IsLeastAbove (IsOperand p tables alarm.place alarm.class role) (get_or a.operands.items role no_value)
    pub ordered : AreRising IsFlawBefore a.flaws.items
    pub flaws : (f : ObjectFlaw) → Contains a.flaws.items f ↔ IsFlaw p tables alarm.place alarm.class f
    pub always : (a.always ≡ true) ↔ IsAlways p tables alarm.place alarm.class

  told : (a : AlarmContexts) → IsContextOf p tables a → Told (alarm_of a) a
  told a h = record {
    rising = h.rising;
    edges = h.edges;
    count = h.count;
    operands = h.operands;
    ordered = h.ordered;
    flaws = h.flaws;
    always = h.always;
  }

  module _ (alarm : Alarm) (a b : AlarmContexts) (h : Told alarm a) (k : Told alarm b) where
    edges_same : a.edges.items ≡ b.edges.items
    edges_same =
        equal_lists IsEdgeBefore edge_trans edge_never a.edges.items b.edges.items h.rising k.rising
        (λ e c. (k.edges e).1 ((h.edges e).0 c)) (λ e c. (h.edges e).1 ((k.edges e).0 c))

    operands_same : a.operands.items ≡ b.operands.items
    operands_same =
        ext_get_or no_value a.operands.items b.operands.items
        (same_count (length a.operands.items) (length b.operands.items)
        (λ role lt. (k.count role).1 ((h.count role).0 lt)) (λ role lt. (h.count role).1 ((k.count role).0 lt)))
        (λ role lt. one_least (IsOperand p tables alarm.place alarm.class role) (get_or a.operands.items role no_value)
        (get_or b.operands.items role no_value) (h.operands role) (k.operands role))

    flaws_same : a.flaws.items ≡ b.flaws.items
    flaws_same =
        equal_lists IsFlawBefore flaw_trans flaw_never a.flaws.items b.flaws.items h.ordered k.ordered
        (λ f c. (k.flaws f).1 ((h.flaws f).0 c)) (λ f c. (h.flaws f).1 ((k.flaws f).0 c))

    always_same : a.always ≡ b.always
    always_same =
        same_truth a.always b.always (λ t. k.always.1 (h.always.0 t)) (λ t. h.always.1 (k.always.0 t))

  content_same : (a b : AlarmContexts) → alarm_of a ≡ alarm_of b → IsContextOf p tables a → IsContextOf p tables b
      → content a ≡ content b
  content_same a b same h k =
      let of_a = told a h in
      let of_b = subst (λ alarm. Told alarm b) (sym same) (told b k) in
      let edges = edges_same (alarm_of a) a b of_a of_b in
      let operands = operands_same (alarm_of a) a b of_a of_b in
      let flaws = flaws_same (alarm_of a) a b of_a of_b in
      let always = always_same (alarm_of a) a b of_a of_b in
      λ i. (same i, edges i, operands i, flaws i, always i)

  -- ## Lists

  abbrev Before : Content → Content → Type 0
  Before s t = AlarmBefore s.0 t.0

  contents_in : (alarms : List AlarmContexts) (a : AlarmContexts) → Contains alarms a
      → Contains (contents alarms) (content a)
  contents_in [] a c = absurd (none a c)
  contents_in (b ∷ alarms) a c =
      either (λ e. subst (λ z. Contains (contents (b ∷ alarms)) (content z)) e (first (content b) (contents alarms)))
      (λ more. later (content b) (content a) (contents alarms) (contents_in alarms a more)) (cases b a alarms c)

  contents_from : (alarms : List AlarmContexts) (t : Content) → Contains (contents alarms) t
      → (a : AlarmContexts) × Contains alarms a × (content a ≡ t)
  contents_from [] t c = absurd (none t c)
  contents_from (b ∷ alarms) t c =
      either (λ e. (b, first b alarms, e))
      (λ more. let a = contents_from alarms t more in (a.0, later b a.0 alarms a.1, a.2))
      (cases (content b) t (contents alarms) c)

  tail_sorted : (a : Alarm) (rest : List Alarm) → IsStrictlySorted (a ∷ rest) → IsStrictlySorted rest
  tail_sorted a [] s = tt
  tail_sorted a (b ∷ rest) s = s.1

  -- the first comes before the others
  all_before : (a : AlarmContexts) (alarms : List AlarmContexts) → IsStrictlySorted (map alarm_of (a ∷ alarms))
      → (t : Content) → Contains (contents alarms) t → Before (content a) t
  all_before a [] s t c = absurd (none t c)
  all_before a (b ∷ alarms) s t c =
      either (λ e. subst (Before (content a)) e s.0)
      (λ more. alarm_trans (alarm_of a) (alarm_of b) t.0 s.0 (all_before b alarms s.1 t more))
      (cases (content b) t (contents alarms) c)

  contents_rising : (alarms : List AlarmContexts) → IsStrictlySorted (map alarm_of alarms)
      → AreRising Before (contents alarms)
  contents_rising [] s = tt
  contents_rising (a ∷ alarms) s = (
    all_before a alarms s,
    contents_rising alarms (tail_sorted (alarm_of a) (map alarm_of alarms) s),
  )

  contents_too : (one other : List AlarmContexts) → AreContexts p tables one → AreContexts p tables other
      → (t : Content) → Contains (contents one) t → Contains (contents other) t
  contents_too one other h k t c =
      let a = contents_from one t c in
      let is = h.each a.0 a.1 in
      let f = k.all a.0.place a.0.class is.some in
      let same = content_same f.one a.0 f.is (k.each f.one f.has) is in
      subst (Contains (contents other)) (same ∙ a.2) (contents_in other f.one f.has)

  pub one_list : (one other : List AlarmContexts) → AreContexts p tables one → AreContexts p tables other
      → contents one ≡ contents other
  one_list one other h k =
      equal_lists Before (λ a b c. alarm_trans a.0 b.0 c.0) (λ a. alarm_never a.0) (contents one) (contents other)
      (contents_rising one h.sorted) (contents_rising other k.sorted) (contents_too one other h k)
      (contents_too other one k h)
