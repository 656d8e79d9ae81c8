-- What layout and configured graphs give: objects, held and found sets along each edge, and where a task rests.
use Rattle.std.proofs.Common.{◌≡◌, true, false, ◌⊎◌}
use Rattle.tm_soundness.specs.Shape.{Shape, calculation, load, load_any, store, clear, lock, unlock, yields, probe}

module _ (P : Shape) where
  -- held and found sets are passed on
  pub record Passes (q q' : P.Node) : Type 0 where
    pub held_down : (n : P.Mutex) → P.Has (P.held q') n → P.Has (P.held q) n
    pub held_up : (n : P.Mutex) → P.Has (P.held q) n → P.Has (P.held q') n
    pub found_down : (n : P.Mutex) → P.Has (P.found q') n → P.Has (P.found q) n

  -- the shape of the program: objects, and the configured graph
  pub record IsShaped : Type 0 where
    pub not_both : (x : P.AbstractCell) (i : P.Task) → P.shared x → P.owned x i → ⊥
    pub one_owner : (x : P.AbstractCell) (i k : P.Task) → P.owned x i → P.owned x k → i ≡ k
    pub some_cell : (x : P.AbstractCell) (i : P.Task) → P.owned x i → (c : P.Cell) × (P.abstract_cell c ≡ x)
    pub clears_own : (e : P.Edge) (c : P.Cell) → P.clears e c → P.owned (P.abstract_cell c) (P.actor e)
    pub may_clear : (e : P.Edge) (c : P.Cell) → Dec (P.clears e c)
    pub ends_rest : (q : P.Node) → P.ends q → P.resting q
    pub locks_rest : (e : P.Edge) (m : P.Mutex) → P.operation e ≡ lock m → P.resting (P.from e)
    pub rests_lock : (e : P.Edge) → P.resting (P.from e) → (m : P.Mutex) × (P.operation e ≡ lock m)
    pub entry_held : (i : P.Task) (n : P.Mutex) → P.Has (P.held (P.entry i)) n → ⊥
    pub entry_found : (i : P.Task) (n : P.Mutex) → P.Has (P.found (P.entry i)) n → ⊥
    pub calc_passes : (e : P.Edge) → P.operation e ≡ calculation → Passes (P.from e) (P.to e)
    pub load_passes : (e : P.Edge) (a t : P.Temporary) → P.operation e ≡ load a t → Passes (P.from e) (P.to e)
    pub load_any_passes : (e : P.Edge) (a : P.Temporary) → P.operation e ≡ load_any a → Passes (P.from e) (P.to e)
    pub store_passes : (e : P.Edge) (a v : P.Temporary) → P.operation e ≡ store a v → Passes (P.from e) (P.to e)
    pub clear_passes : (e : P.Edge) → P.operation e ≡ clear → Passes (P.from e) (P.to e)
    pub held_passes : (e : P.Edge) (m : P.Mutex) (t : P.Temporary) → P.operation e ≡ probe m t true
        → Passes (P.from e) (P.to e)
    pub lock_held : (e : P.Edge) (m n : P.Mutex) → P.operation e ≡ lock m → (P.Has (P.held (P.from e)) m → ⊥)
        → P.Has (P.held (P.to e)) n → P.Has (P.held (P.from e)) n ⊎ (n ≡ m)
    pub lock_kept : (e : P.Edge) (m n : P.Mutex) → P.operation e ≡ lock m → (P.Has (P.held (P.from e)) m → ⊥)
        → P.Has (P.held (P.from e)) n → P.Has (P.held (P.to e)) n
    pub lock_found : (e : P.Edge) (m n : P.Mutex) → P.operation e ≡ lock m → (P.Has (P.held (P.from e)) m → ⊥)
        → P.Has (P.found (P.to e)) n → ⊥
    pub unlock_held : (e : P.Edge) (m n : P.Mutex) → P.operation e ≡ unlock m → P.Has (P.held (P.from e)) m
        → P.Has (P.held (P.to e)) n → P.Has (P.held (P.from e)) n
    pub unlock_kept : (e : P.Edge) (m n : P.Mutex) → P.operation e ≡ unlock m → P.Has (P.held (P.from e)) m
        → (n ≡ m → ⊥) → P.Has (P.held (P.from e)) n → P.Has (P.held (P.to e)) n
    pub unlock_found : (e : P.Edge) (m n : P.Mutex) → P.operation e ≡ unlock m → P.Has (P.held (P.from e)) m
        → P.Has (P.found (P.to e)) n → P.Has (P.found (P.from e)) n
    pub yield_held : (e : P.Edge) (n : P.Mutex) → P.operation e ≡ yields → P.Has (P.held (P.to e)) n
        → P.Has (P.held (P.from e)) n
    pub yield_kept : (e : P.Edge) (n : P.Mutex) → P.operation e ≡ yields → P.Has (P.held (P.from e)) n
        → P.Has (P.held (P.to e)) n
    pub yield_found : (e : P.Edge) (n : P.Mutex) → P.operation e ≡ yields → P.Has (P.found (P.to e)) n → ⊥
    pub free_held : (e : P.Edge) (m : P.Mutex) (t : P.Temporary) (n : P.Mutex) → P.operation e ≡ probe m t false
        → (P.Has (P.held (P.from e)) m → ⊥) → P.Has (P.held (P.to e)) n → P.Has (P.held (P.from e)) n
    pub free_kept : (e : P.Edge) (m : P.Mutex) (t : P.Temporary) (n : P.Mutex) → P.operation e ≡ probe m t false
        → (P.Has (P.held (P.from e)) m → ⊥) → P.Has (P.held (P.from e)) n → P.Has (P.held (P.to e)) n
    pub free_found : (e : P.Edge) (m : P.Mutex) (t : P.Temporary) (n : P.Mutex) → P.operation e ≡ probe m t false
        → (P.Has (P.held (P.from e)) m → ⊥) → P.Has (P.found (P.to e)) n → P.Has (P.found (P.from e)) n ⊎ (n ≡ m)
