-- ORDER: operands whose order C99 leaves open (C99 6.5p2, 6.5.2.2p10, 6.5.16p4, 6.7.8p23), and which touch the same.
--
-- In
--     int x; int f(void) { x = 5; return 1; }
--     __task(1) void t(void) { x += f(); }
-- the `+=` at 2:28 is listed: what is loaded of x is stored by the call on the right side.
use Rattle.std.specs.Prelude.{◌≡◌, ◌≢◌, ◌⊎◌, ℕ, Contains, Some}
use Rattle.tm_terms.specs.declared.places.Place.{Place}
use Rattle.pointer_dom.specs.Values.{Values, no_value, IsValuesBelow}
use Rattle.flow_graph.specs.declared.operations.Operation.{Operation}
use Rattle.flow_graph.specs.declared.operations.Operation.TheVariants as Op
use Rattle.post_recheck.specs.transfer_rows.StateForms.{State, own_of}
use Rattle.post_recheck.specs.transfer_rows.Contributions.{entry_at}
use Rattle.program_reports.specs.Reports.{place_of}
use Rattle.path_origins.specs.declared.origins.Form.TheVariants as Forms
use Rattle.path_origins.specs.declared.origins.Span.{Span}
use Rattle.path_origins.specs.declared.origins.Unsequenced.{Unsequenced}
use Rattle.path_origins.specs.declared.origins.Reload.{Reload}
use Rattle.path_origins.specs.declared.origins.Overwrite.{Overwrite}
use Rattle.operand_orders.specs.Reached.{SolvedBody, IsWithin, operation_at, origin_at, HasState, IsReached, IsStatic}
use Rattle.operand_orders.specs.Reached.{Loads, Stores}

-- an operation waits, or asks for a mutex
pub data Waits : Operation → Type 0 where
  locks : {mutex : ℕ} {place : _} → Waits (Op.Lock mutex place)
  unlocks : {mutex : ℕ} {place : _} → Waits (Op.Unlock mutex place)
  yields : Waits Op.Yield
  probes : {to mutex : ℕ} {place : _} → Waits (Op.Probe to mutex place)

-- an error or an access may stand there, or the operation waits
pub data IsActing (op : Operation) : Type 0 where
  placed : (place : Place) → place_of op ≡ Some place → IsActing op
  waiting : Waits op → IsActing op

module _ (b : SolvedBody) where
  -- ## What an operand does

  pub record SpanLoads (span : Span) (cell : ℕ) : Type 0 where
    pub edge : ℕ
    pub within : IsWithin edge span
    pub loads : Loads b edge cell

  pub record SpanStores (span : Span) (cell : ℕ) : Type 0 where
    pub edge : ℕ
    pub within : IsWithin edge span
    pub stores : Stores b edge cell

  pub record SpanWaits (span : Span) : Type 0 where
    pub edge : ℕ
    pub within : IsWithin edge span
    pub op : Operation
    pub state : State
    pub has : HasState b edge op state
    pub waits : Waits op

  abbrev pub IsInitialising : ℕ → Type 0
  IsInitialising edge = (let o = origin_at b edge in o.form ≡ Forms.Initialise)

  -- a task other than the body stores the cell
  pub record IsStoredByOthers (cell : ℕ) : Type 0 where
    pub task : ℕ
    pub held : ℕ
    pub other : task ≢ b.number
    pub stored : (let s = b.store in entry_at s.weak task held cell ≢ no_value)

  -- what other tasks may see, or what sees them
  pub data IsSeen (span : Span) : Type 0 where
    waiting : SpanWaits span → IsSeen span
    storing : (cell : ℕ) → IsStatic b cell → SpanStores span cell → IsSeen span
    loading : (cell : ℕ) → IsStatic b cell → IsStoredByOthers cell → SpanLoads span cell → IsSeen span

  -- ## Two operands

  -- A cell that one stores is loaded or stored by the other. Of two stores one is no initialiser's: an initialiser
  -- stores each cell once, also where an abstract cell stands for many.
  pub data Touches (one other : Span) : Type 0 where
    loaded : (cell : ℕ) → SpanStores one cell → SpanLoads other cell → Touches one other
    stored : (cell edge edge' : ℕ) → IsWithin edge one → Stores b edge cell → IsWithin edge' other
        → Stores b edge' cell → (IsInitialising edge → IsInitialising edge' → ⊥)
        → Touches one other

  -- a value of a cell in a state of an edge is among those in the states of another one, joined
  abbrev pub IsAmong : ℕ → ℕ → Values → Type 0
  IsAmong edge cell v = (w : Values)
      → ((op : Operation) (s : State) → HasState b edge op s → IsValuesBelow (own_of s cell) w)
      → IsValuesBelow v w

  -- an edge at which an error or an access may stand, or which waits, be it reached or not
  pub record Acts (span : Span) : Type 0 where
    pub edge : ℕ
    pub within : IsWithin edge span
    pub placed : IsActing (operation_at b edge)

  -- The second can read what it does not read behind the first, for that may not end: it is not reached where the first
  -- is, and does more than to give a constant; or it loads a cell that has a value where the first begins which it has
  -- not where the second begins.
  pub data ReadsMore (one other : Span) : Type 0 where
    unreached : IsReached b one.first → (IsReached b other.first → ⊥) → Acts other
        → ReadsMore one other
    differing : {op : Operation} (cell : ℕ) (s : State) → IsReached b other.first
        → SpanLoads other cell → HasState b one.first op s
        → (IsAmong other.first cell (own_of s cell) → ⊥) → ReadsMore one other

  -- ## Places

  pub data Matters (one other : Span) : Type 0 where
    touching : Touches one other ⊎ Touches other one → Matters one other
    waiting : (SpanWaits one × IsSeen other) ⊎ (SpanWaits other × IsSeen one)
        → Matters one other
    reading : ReadsMore one other → Matters one other

  pub data IsOfOrder (place : Place) : Type 0 where
    operands : (pair : Unsequenced) → (let o = b.origins in Contains o.operands.items pair)
        → pair.place ≡ place → Matters pair.first pair.second → IsOfOrder place
    -- the load of what `op=` changes, and a store by its right side
    reloaded : (cell : ℕ) (reload : Reload) → (let o = b.origins in Contains o.reloads.items reload)
        → reload.place ≡ place → Loads b reload.load cell → SpanStores reload.right cell
        → IsOfOrder place
    -- two stores with no sequence point between
    overwritten : (cell : ℕ) (pair : Overwrite) → (let o = b.origins in Contains o.overwrites.items pair)
        → pair.place ≡ place → Stores b pair.store cell → Stores b pair.earlier cell
        → IsOfOrder place
