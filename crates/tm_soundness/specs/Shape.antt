-- The shape of a program of tasks: its objects, its configured graphs, and what a calculation may do. All of it is
-- abstract.
use Rattle.std.proofs.Common.{◌≡◌, ℕ, Bool, ◌⊎◌}

-- the operation of an edge; temporaries are of type T, mutexes of type M
pub data Operation (T M : Type 0) : Type 0 where
  calculation : Operation T M
  load : (address to : T) → Operation T M
  load_any : (address : T) → Operation T M
  store : (address value : T) → Operation T M
  clear : Operation T M
  lock : (mutex : M) → Operation T M
  unlock : (mutex : M) → Operation T M
  yields : Operation T M
  probe : (mutex : M) (to : T) (answer : Bool) → Operation T M

-- what stands in a cell: a value, or an open cell, each read of which gives any value of its type
pub data Content (V : Type 0) : Type 0 where
  given : (value : V) → Content V
  open_cell : Content V

pub record Shape : Type 1 where
  pub Task : Type 0
  pub Mutex : Type 0
  pub Held : Type 0
  pub Cell : Type 0
  -- abstract cells
  pub AbstractCell : Type 0
  pub Temporary : Type 0
  pub Value : Type 0
  -- valuations of the temporaries
  pub Valuation : Type 0
  -- places with a held set and a found set, and edges between them
  pub Node : Type 0
  pub Edge : Type 0
  pub Class : Type 0
  pub Place : Type 0
  pub same_task : (i j : Task) → Dec (i ≡ j)
  pub same_mutex : (m n : Mutex) → Dec (m ≡ n)
  pub same_cell : (c d : Cell) → Dec (c ≡ d)
  pub rank : Task → ℕ
  pub Has : Held → Mutex → Type 0
  pub has : (l : Held) (m : Mutex) → Dec (Has l m)
  pub abstract_cell : Cell → AbstractCell
  pub shared : AbstractCell → Type 0
  pub owned : AbstractCell → Task → Type 0
  pub in_range : AbstractCell → Value → Type 0
  pub cleared : Cell → Content Value
  pub value_of : Valuation → Temporary → Value
  pub put : Valuation → Temporary → Value → Valuation
  -- the pointer value stands at the cell
  pub points : Value → Cell → Type 0
  pub bit : Bool → Value
  pub actor : Edge → Task
  pub from : Edge → Node
  pub to : Edge → Node
  pub operation : Edge → Operation Temporary Mutex
  pub place : Edge → Place
  -- what a calculation may do to the temporaries, and with which class it may fail
  pub does : Edge → Valuation → Valuation → Type 0
  pub fails : Edge → Valuation → Class → Type 0
  pub lock_class : Class
  -- the cell has the type of the edge's access
  pub fits : Edge → Cell → Type 0
  pub clears : Edge → Cell → Type 0
  pub entry : Task → Node
  pub held : Node → Held
  pub found : Node → Held
  -- the next action is a lock or the end of the body
  pub resting : Node → Type 0
  pub ends : Node → Type 0

module _ (P : Shape) where
  abbrev pub IsApart : P.Held → P.Held → Type 0
  IsApart l h = (m : P.Mutex) → P.Has l m → P.Has h m → ⊥

  abbrev pub Usable : P.Task → P.Cell → Type 0
  Usable i c = P.shared (P.abstract_cell c) ⊎ P.owned (P.abstract_cell c) i

  -- a read of the content may give the value
  pub data Reads (x : P.AbstractCell) : Content P.Value → P.Value → Type 0 where
    reads_given : {v : P.Value} → Reads x (given v) v
    reads_open : {v : P.Value} → P.in_range x v → Reads x open_cell v
