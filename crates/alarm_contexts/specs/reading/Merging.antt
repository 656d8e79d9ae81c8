-- How contexts are merged that are of one alarm.
use Rattle.std.specs.Prelude.{◌≡◌, ◌↔◌, ◌⊎◌, ℕ, ◌-◌, ◌<◌, true, ◌&&◌, max, List, [], ◌∷◌, ◌++◌, length, get_or, slice_get}
use Rattle.std.specs.Prelude.{Contains, Some}
use Rattle.tm_terms.specs.declared.alarms.Alarm.{Alarm}
use Rattle.tm_terms.specs.Alarms.{AlarmBefore}
use Rattle.interfere_set.specs.pointer_dom.Values.{Values, no_value}
use Rattle.alarm_contexts.specs.declared.alarm_context.ContextEdge.{ContextEdge}
use Rattle.alarm_contexts.specs.declared.alarm_context.AlarmContexts.{AlarmContexts}
use Rattle.alarm_contexts.specs.declared.exits.Exit.{Exit}
use Rattle.alarm_contexts.specs.declared.exits.Context.{Context}
use Rattle.alarm_contexts.specs.declared.flaws.ObjectFlaw.{ObjectFlaw}
use Rattle.access_races.specs.Rising.{AreRising}
use Rattle.alarm_contexts.specs.Order.{IsEdgeBefore, IsFlawBefore}
use Rattle.alarm_contexts.specs.Bounds.{IsLeastAbove}
use Rattle.alarm_contexts.specs.Contexts.{alarm_of}
use Rattle.alarm_contexts.specs.reading.Operands.{AreJoined}

-- the edge of a copy
abbrev pub edge_of : Exit → ContextEdge
edge_of x = record { body = x.body; edge = x.edge }

-- ## The order of contexts

-- by alarms, then by edges
abbrev pub IsBefore : Context → Context → Type 0
IsBefore x y = AlarmBefore x.alarm y.alarm ⊎ ((x.alarm ≡ y.alarm) × IsEdgeBefore (edge_of x.exit) (edge_of y.exit))

-- it comes before the other, or both are of one alarm and one edge
abbrev pub Precedes : Context → Context → Type 0
Precedes x y = IsBefore x y ⊎ ((x.alarm ≡ y.alarm) × (edge_of x.exit ≡ edge_of y.exit))

-- the same ones in order
pub record IsSorting (given list : List Context) : Type 0 where
  pub same : (x : Context) → Contains list x ↔ Contains given x
  pub rising : AreRising Precedes list

-- ## Flaws

-- the same ones in order, each once
pub record AreOrdered (given list : List ObjectFlaw) : Type 0 where
  pub rising : AreRising IsFlawBefore list
  pub same : (f : ObjectFlaw) → Contains list f ↔ Contains given f

-- ## One more

-- the edge is the last one
abbrev pub IsLast : List ContextEdge → ContextEdge → Type 0
IsLast edges e = slice_get edges (length edges - 1) ≡ Some e

-- the edge stands behind those before it, if it is not the last one
pub data IsEdgeAdded (old : List ContextEdge) (e : ContextEdge) (new : List ContextEdge) : Type 0 where
  stands : IsLast old e → new ≡ old → IsEdgeAdded old e new
  follows : (IsLast old e → ⊥) → new ≡ old ++ e ∷ [] → IsEdgeAdded old e new

-- a context by itself
pub record IsAlone (x : Context) (values : List Values) (wrong : List ObjectFlaw) (a : AlarmContexts) : Type 0 where
  pub alarm : alarm_of a ≡ x.alarm
  pub edges : a.edges.items ≡ edge_of x.exit ∷ []
  pub operands : a.operands.items ≡ values
  pub flaws : AreOrdered wrong a.flaws.items
  pub always : a.always ≡ x.exit.ends

-- one more of the same alarm
pub record IsJoined (last : AlarmContexts) (x : Context) (values : List Values) (wrong : List ObjectFlaw)
    (a : AlarmContexts) : Type 0 where
  pub alarm : alarm_of a ≡ alarm_of last
  pub edges : IsEdgeAdded last.edges.items (edge_of x.exit) a.edges.items
  pub operands : AreJoined last.operands.items values (max (length last.operands.items) (length values))
      a.operands.items
  pub flaws : AreOrdered (last.flaws.items ++ wrong) a.flaws.items
  pub always : a.always ≡ (last.always && x.exit.ends)

-- one more is joined with the last, where they are of one alarm, or stands behind it
pub data IsAdded (old : List AlarmContexts) (x : Context) (values : List Values) (wrong : List ObjectFlaw)
    (new : List AlarmContexts) : Type 0 where
  begins : (a : AlarmContexts) → old ≡ [] → IsAlone x values wrong a → new ≡ a ∷ [] → IsAdded old x values wrong new
  joins : (front : List AlarmContexts) (last a : AlarmContexts) → old ≡ front ++ last ∷ [] → alarm_of last ≡ x.alarm
      → IsJoined last x values wrong a → new ≡ front ++ a ∷ [] → IsAdded old x values wrong new
  behind : (front : List AlarmContexts) (last a : AlarmContexts) → old ≡ front ++ last ∷ []
      → (alarm_of last ≡ x.alarm → ⊥) → IsAlone x values wrong a → new ≡ (front ++ last ∷ []) ++ a ∷ []
      → IsAdded old x values wrong new

-- ## All of them

module _ (values : Context → List Values) (Is : Context → Type 0) where
  pub record IsEdgeOf (e : ContextEdge) : Type 0 where
    pub one : Context
    pub is : Is one
    pub edge : edge_of one.exit ≡ e

  pub record HasValue (role : ℕ) : Type 0 where
    pub one : Context
    pub is : Is one
    pub within : role < length (values one)

  pub record IsValueOf (role : ℕ) (v : Values) : Type 0 where
    pub one : Context
    pub is : Is one
    pub within : role < length (values one)
    pub value : v ≡ get_or (values one) role no_value

module _ (Flawed : Context → ObjectFlaw → Type 0) (Is : Context → Type 0) where
  pub record IsFlawOf (f : ObjectFlaw) : Type 0 where
    pub one : Context
    pub is : Is one
    pub flaw : Flawed one f

module _ (values : Context → List Values) (Flawed : Context → ObjectFlaw → Type 0) (Is : Context → Type 0) where
  -- some contexts of an alarm as one
  pub record IsMerged (a : AlarmContexts) : Type 0 where
    pub one : Context
    pub is : Is one
    pub rising : AreRising IsEdgeBefore a.edges.items
    pub edges : (e : ContextEdge) → Contains a.edges.items e ↔ IsEdgeOf values Is e
    pub count : (role : ℕ) → (role < length a.operands.items) ↔ HasValue values Is role
    pub operands : (role : ℕ) → IsLeastAbove (IsValueOf values Is role) (get_or a.operands.items role no_value)
    pub ordered : AreRising IsFlawBefore a.flaws.items
    pub flaws : (f : ObjectFlaw) → Contains a.flaws.items f ↔ IsFlawOf Flawed Is f
    pub always : (a.always ≡ true) ↔ ((x : Context) → Is x → x.exit.ends ≡ true)

-- a context of the alarm that was given
pub record IsGiven (given : List Context) (alarm : Alarm) (x : Context) : Type 0 where
  pub has : Contains given x
  pub alike : x.alarm ≡ alarm

-- all that were given, merged and in order
pub record AreMerged (values : Context → List Values) (Flawed : Context → ObjectFlaw → Type 0) (given : List Context)
    (list : List AlarmContexts) : Type 0 where
  pub rising : AreRising (λ (a b : AlarmContexts). AlarmBefore (alarm_of a) (alarm_of b)) list
  pub each : (a : AlarmContexts) → Contains list a → IsMerged values Flawed (IsGiven given (alarm_of a)) a
  pub all : (x : Context) → Contains given x
      → (a : AlarmContexts) × Contains list a × (alarm_of a ≡ x.alarm)
