-- Every program has a solution: the greatest table and store. So what the theorem asks of a solution can be met.
use Rattle.tm_soundness.specs.Tables.{Tables}
use Rattle.tm_soundness.specs.Shape.{Shape}
use Rattle.tm_soundness.specs.Covers.{Keeps, IsSolution}

abbrev pub top : (P : Shape) → Tables P
top P = record {
  inside = λ q ρ. Unit {0};
  own = λ q x v. Unit {0};
  pending = λ q x m. Unit {0};
  fresh = λ q x. ⊥;
  stored = λ q x. ⊥;
  copy = λ q t x. ⊥;
  weak = λ j l x v. Unit {0};
  sync = λ j m x v. Unit {0};
  listed = λ e k. Unit {0};
  target = λ e x. Unit {0};
}

module _ (P : Shape) where
  keeps : (q q' : P.Node) → Keeps P (top P) q q'
  keeps q q' = record { own = λ x v h. tt; pending = λ x m h. tt; fresh = λ x h. h; stored = λ x h. h }

  pub top_solution : IsSolution P (top P)
  top_solution = record {
    calcs = λ e ρ ρ' is i l d. record { inside = tt; own = λ x v h a. tt; copies = λ t x c. absurd c; pending = λ x m h. tt; fresh = λ x h. h; stored = λ x h. h };
    loads = λ e ρ a t c v is i x s. record { inside = tt; keeps = keeps (P.from e) (P.to e); copies = λ u y k. absurd k };
    loads_any = λ e ρ ρ' a c is i l x d. record { inside = tt; own = λ x v h a. tt; copies = λ t x c. absurd c; pending = λ x m h. tt; fresh = λ x h. h; stored = λ x h. h };
    stores = λ e ρ a v c is i x. record { inside = tt; own = tt; own_other = λ d v n h. tt; pending = λ m s h. tt; pending_other = λ d m n h. tt; fresh_other = λ d n h. h; stored_other = λ d n h. h; copies = λ t y k. absurd k; added = λ s. tt };
    clears = λ e ρ is i. record { inside = tt; own = λ c v k r. tt; own_other = λ c v n h. tt; pending = λ x m h. tt; fresh = λ x h. h; stored = λ c h. absurd h; copies = λ c t k. absurd k };
    locks = λ e ρ m is i n. record { inside = tt; keeps = keeps (P.from e) (P.to e); handed = λ x v s h. tt; fresh = λ x h. h; copies = λ t x k. k };
    unlocks = λ e ρ m is i h. record { inside = tt; own = λ x v h. tt; pending = λ x n o h. tt; fresh = λ x h. h; stored = λ x h. h; copies = λ t x k. k; added = λ x v s p h. tt };
    waits = λ e ρ is i. record { inside = tt; keeps = keeps (P.from e) (P.to e); fresh = λ x h. h; copies = λ t x k. k };
    finds_held = λ e ρ m t is i. record { inside = tt; keeps = keeps (P.from e) (P.to e); copies = λ t x k. absurd k };
    finds_free = λ e ρ m t is i n. record { inside = tt; keeps = keeps (P.from e) (P.to e); handed = λ x v s h. tt; copies = λ t x k. k };
    listed_calc = λ e ρ k is i f. tt;
    listed_lock = λ e ρ m is i h. tt;
    listed_unlock = λ e ρ m is i n. tt;
    load_target = λ e ρ a t c is i x. tt;
    load_any_target = λ e ρ a c is i x. tt;
    store_target = λ e ρ a v c is i x. tt;
  }
