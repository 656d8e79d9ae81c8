-- What an edge makes of each cell, by the kind of its change.
use Rattle.std.specs.Prelude.{◌≡◌, ℕ, bit_and, Bool, ◌&&◌, cond, List, Option, Some, None}
use Rattle.std.specs.FinMap.{get}
use Rattle.tm_lattice.specs.Tables.{Table}
use Rattle.tm_laid.specs.Layouts.{laid_tree}
use Rattle.pointer_dom.specs.Values.{Values}
use Rattle.edge_effects.specs.calculations.transfer_rows.StateForms.{Cell, is_no_value}
use Rattle.edge_effects.specs.calculations.transfer_rows.Accesses.{is_among}
use Rattle.edge_effects.specs.calculations.transfer_rows.Rows.{aged, cleared_to, taken}
use Rattle.edge_actions.specs.Edges.{around_of, cleared_value}
use Rattle.edge_actions.specs.declared.views.EdgeView.{EdgeView}
use Rattle.memory_effects.specs.declared.changes.Change.{Change}
use Rattle.memory_effects.specs.declared.changes.Change.TheVariants.{Wait, Keep, Take, TakeWaiting, Open}

abbrev pub change_of : EdgeView → Change → ℕ → Cell → Cell
change_of view Wait x c = aged c
change_of view (Keep set) x c = record c { pending = bit_and c.pending set }
change_of view (Take store mutex) x c = taken (around_of view) store.now mutex x c
change_of view (TakeWaiting store mutex) x c = aged (taken (around_of view) store.now mutex x c)
change_of view (Open object) x c = cleared_to (cleared_value (laid_tree view.laid.now) object x) c

-- what the code gives in place of a value or a cell, which stays as it is where there is none
abbrev pub value_or : Option Values → Values → Values
value_or None v = v
value_or (Some w) v = w

abbrev pub kept_or : Option Cell → Cell → Cell
kept_or None c = c
kept_or (Some d) c = d

-- a value that is an entry of a table: nothing is none
abbrev pub shown_value : Values → Option Values
shown_value v = cond (is_no_value v) None (Some v)

-- the value stands at the shared cells of these, and at no other
pub record IsWrittenAt (shared : ℕ → Bool) (v : Values) (xs : List ℕ) (t : Table Values) : Type 0 where
  pub at : (key : ℕ) → get t key ≡ cond (shared key && is_among xs key) (Some v) None
