-- LIFETIME: objects that are used outside of the scope of their declaration, and lifetimes that begin while a pointer
-- to an earlier instance may be left over (C99 6.2.4p2, p5).
--
-- In
--     int r;
--     __task(1) void t(void) { int *p; { int v = 1; p = &v; } r = *p; }
-- the `*` at 2:61 is listed: there v is not open.
use Rattle.std.specs.Prelude.{◌≡◌, ◌≢◌, ℕ, Contains}
use Rattle.tm_terms.specs.declared.places.Place.{Place}
use Rattle.tm_laid.specs.Layouts.{abstract_at}
use Rattle.strided_dom.specs.Progression.{Has}
use Rattle.pointer_dom.specs.Values.{Values}
use Rattle.pointer_dom.specs.PointerSets.{offsets_at}
use Rattle.flow_graph.specs.declared.operations.Operation.{Operation}
use Rattle.flow_graph.specs.declared.operations.Operation.TheVariants as Op
use Rattle.post_recheck.specs.transfer_rows.StateForms.{State, value_of, own_of}
use Rattle.post_recheck.specs.transfer_rows.Contributions.{entry_at}
use Rattle.path_origins.specs.declared.origins.Life.{Life}
use Rattle.operand_orders.specs.Reached.{SolvedBody, HasState, IsReached, IsOpen}

-- a value may point to an object
pub record PointsTo (v : Values) (object : ℕ) : Type 0 where
  pub offset : _
  pub has : (let o = offsets_at v.pointers object in Has o.offsets offset)

-- the pointer that an operation follows, or finds usable before it is compared or tested
pub data Uses : Operation → ℕ → Place → Type 0 where
  follows : {to from target path : ℕ} {place : Place} → Uses (Op.Deref to from target path place) from place
  compares : {pointer : ℕ} {place : Place} → Uses (Op.Usable pointer place) pointer place

-- the address through which an operation stores
pub data StoresThrough : Operation → ℕ → Type 0 where
  stores : {address value : ℕ} {scalar into : _} {place : Place}
      → StoresThrough (Op.Store address value scalar into place) address

module _ (b : SolvedBody) where
  -- where a life begins, something that can be read may point to its object: a cell of another object that is open
  -- there, a weak entry of another task, or a live temporary, apart from the one through which a parameter is stored
  pub data IsLeftOver (life : Life) : Type 0 where
    in_cell : {op : Operation} (s : State) (cell : ℕ) → HasState b life.begins op s
        → (let a = abstract_at b.laid cell in
        (a.object ≢ life.object) × IsOpen b life.begins a.object) → PointsTo (own_of s cell) life.object
        → IsLeftOver life
    in_store : (task held cell : ℕ) → IsReached b life.begins → task ≢ b.number
        → (let w = b.store in PointsTo (entry_at w.weak task held cell) life.object) → IsLeftOver life
    in_temporary : {op : Operation} (s : State) (temp : ℕ) → HasState b life.begins op s
        → (StoresThrough op temp → ⊥) → PointsTo (value_of s temp) life.object → IsLeftOver life

  pub data IsOfLifetime (place : Place) : Type 0 where
    used : {op : Operation} (edge pointer object : ℕ) (s : State) → HasState b edge op s
        → Uses op pointer place → PointsTo (value_of s pointer) object → (IsOpen b edge object → ⊥)
        → IsOfLifetime place
    begun : (life : Life) → (let o = b.origins in Contains o.lives.items life) → life.place ≡ place
        → IsLeftOver life → IsOfLifetime place
