-- Two operands, as the tables tell of them, and the places where something is left open.
use Rattle.std.specs.Prelude.{◌≡◌, ◌⊎◌, ℕ, List, Option, Some}
use Rattle.tm_terms.specs.declared.places.Place.{Place}
use Rattle.pointer_dom.specs.Values.{Values, IsValuesBelow}
use Rattle.post_recheck.specs.transfer_rows.StateForms.{State, own_of}
use Rattle.path_origins.specs.declared.origins.Span.{Span}
use Rattle.path_origins.specs.declared.origins.Unsequenced.{Unsequenced}
use Rattle.path_origins.specs.declared.origins.Reload.{Reload}
use Rattle.path_origins.specs.declared.origins.Overwrite.{Overwrite}
use Rattle.operand_orders.specs.declared.accesses.Accesses.{Accesses}
use Rattle.operand_orders.specs.declared.touches.Touches.{Touches}
use Rattle.operand_orders.specs.Reached.{SolvedBody, HasState, operation_at}
use Rattle.operand_orders.specs.Order.{IsAmong, Matters, SpanLoads}
use Rattle.access_races.specs.reading.Ways.{HasOne}
use Rattle.operand_orders.specs.reading.Touches.{HasAccess, IsTouched, IsMarkedIn}
use Rattle.operand_orders.specs.reading.Views.{state_at}

-- ## Tables

-- both spans access the same cell
pub record DoMeet (a : Accesses) (one : Span) (b : Accesses) (other : Span) : Type 0 where
  pub cell : ℕ
  pub here : IsTouched a one cell
  pub there : IsTouched b other cell

module _ (t : Touches) where
  -- one stores what the other one loads or stores
  abbrev pub DoOverlap : Span → Span → Type 0
  DoOverlap one other = ((DoMeet t.stores one t.loads other ⊎ DoMeet t.loads one t.stores other)
      ⊎ DoMeet t.changes one t.stores other) ⊎ DoMeet t.stores one t.changes other

  -- one waits, and the other one is seen
  abbrev pub AreSeen : Span → Span → Type 0
  AreSeen one other = (IsMarkedIn t.waits one × IsMarkedIn t.seen other)
      ⊎ (IsMarkedIn t.waits other × IsMarkedIn t.seen one)

  -- a cell that the edge loads is stored by the span
  pub record IsReloaded (load : ℕ) (right : Span) : Type 0 where
    pub cell : ℕ
    pub loads : HasAccess t.loads load cell
    pub stores : IsTouched t.stores right cell

  -- both edges store a cell
  pub record IsOverwritten (store earlier : ℕ) : Type 0 where
    pub cell : ℕ
    pub stores : HasAccess t.stores store cell
    pub before : HasAccess t.stores earlier cell

  -- ## Places

  abbrev pub IsOfReloads : List Reload → Place → Type 0
  IsOfReloads reloads place = HasOne (λ (r : Reload). (r.place ≡ place) × IsReloaded r.load r.right) reloads

  abbrev pub IsOfOverwrites : List Overwrite → Place → Type 0
  IsOfOverwrites overwrites place =
      HasOne (λ (o : Overwrite). (o.place ≡ place) × IsOverwritten o.store o.earlier) overwrites

-- ## Values

-- the value is the least one that is above those of the cell in these states
pub record IsJoinOf (Is : State → Type 0) (cell : ℕ) (joined : Values) : Type 0 where
  pub upper : (s : State) → Is s → IsValuesBelow (own_of s cell) joined
  pub least : (w : Values) → ((s : State) → Is s → IsValuesBelow (own_of s cell) w) → IsValuesBelow joined w

-- two values joined
pub record IsJoinedBy (v before after : Values) : Type 0 where
  pub kept : IsValuesBelow before after
  pub upper : IsValuesBelow v after
  pub least : (w : Values) → IsValuesBelow before w → IsValuesBelow v w → IsValuesBelow after w

-- a value joined with that of the cell in a state, if there is one
pub record IsJoinedWith (at : Option State) (cell : ℕ) (before after : Values) : Type 0 where
  pub kept : IsValuesBelow before after
  pub upper : (s : State) → at ≡ Some s → IsValuesBelow (own_of s cell) after
  pub least : (w : Values) → IsValuesBelow before w → ((s : State) → at ≡ Some s → IsValuesBelow (own_of s cell) w)
      → IsValuesBelow after w

module _ (b : SolvedBody) where
  -- a copy leaves a state in which the value of the cell is not below another one
  pub record Exceeds (cell : ℕ) (joined : Values) (copy : ℕ) : Type 0 where
    pub state : State
    pub is : state_at b copy ≡ Some state
    pub differs : IsValuesBelow (own_of state cell) joined → ⊥

  -- the cell has a value in a state of an edge that is not among those in the states of another one
  pub record HasMore (before behind cell : ℕ) : Type 0 where
    pub state : State
    pub has : HasState b before (operation_at b before) state
    pub differs : IsAmong b behind cell (own_of state cell) → ⊥

  -- the second operand loads such a cell
  pub record LoadsMore (one other : Span) : Type 0 where
    pub cell : ℕ
    pub loads : SpanLoads b other cell
    pub more : HasMore one.first other.first cell

  -- the places of operands whose order matters
  abbrev pub IsOfOperands : List Unsequenced → Place → Type 0
  IsOfOperands pairs place = HasOne (λ (u : Unsequenced). (u.place ≡ place) × Matters b u.first u.second) pairs
