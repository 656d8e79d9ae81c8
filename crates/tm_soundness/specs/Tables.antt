-- The tables and the store that an analysis gave, in terms of members. All of it is abstract.
use Rattle.tm_soundness.specs.Shape.{Shape}

pub record Tables (P : Shape) : Type 1 where
  -- the table: the state of the node is not bottom and has these temporaries; and its other parts
  pub inside : P.Node → P.Valuation → Type 0
  pub own : P.Node → P.AbstractCell → P.Value → Type 0
  pub pending : P.Node → P.AbstractCell → P.Mutex → Type 0
  pub fresh : P.Node → P.AbstractCell → Type 0
  pub stored : P.Node → P.AbstractCell → Type 0
  pub copy : P.Node → P.Temporary → P.AbstractCell → Type 0
  -- the store
  pub weak : P.Task → P.Held → P.AbstractCell → P.Value → Type 0
  pub sync : P.Task → P.Mutex → P.AbstractCell → P.Value → Type 0
  -- the class of the edge is not excluded; the abstract cell is a target of the edge's access
  pub listed : P.Edge → P.Class → Type 0
  pub target : P.Edge → P.AbstractCell → Type 0
