-- What a state says of a cell is a lattice, part by part, for every lattice of values.
use Rattle.std.specs.Prelude.{◌≡◌, ℕ, ◌≤◌, refl}
use Rattle.std.proofs.Common.{sym, ◌∙◌, arith}
use Rattle.std.proofs.lemmas.Nat.{or_comm}
use Rattle.std.specs.Int.Bits.{or_self}
use Rattle.tm_lattice.specs.Heights.{IsHeight}
use Rattle.tm_lattice.specs.LatticeLaws.{IsOrder, IsJoin, IsClosure, IsLeastNothing}
use Rattle.cell_env.specs.declared.cells.CellState.{CellState}
use Rattle.cell_env.specs.Cells.{IsCell, IsCellBelow, joined_cell, rounded_cell, cell_height}
use Rattle.cell_env.specs.laws.Bits.{within_left, within_right, within_trans, within_least, within_le, both_left}
use Rattle.cell_env.specs.laws.Bits.{both_right, both, same, gone_falls, gone_same}

module _ {V N : Type 0} where
  module _ (is_value : V → Type 0) (leq : V → V → Type 0) (order : IsOrder is_value leq) where
    pub cell_order : IsOrder (IsCell {N = N} is_value) (IsCellBelow leq)
    cell_order = record {
      reflexive = λ c c-is. record {
        value = order.reflexive c.value c-is;
        pending = or_self c.pending;
        fresh = λ p. p;
        stored = λ p. p;
      };
      transitive = λ c d e c-is d-is e-is p q. record {
        value = order.transitive c.value d.value e.value c-is d-is e-is p.value q.value;
        pending = within_trans c.pending d.pending e.pending p.pending q.pending;
        fresh = λ t. p.fresh (q.fresh t);
        stored = λ t. p.stored (q.stored t);
      };
      antisymmetric = λ c d c-is d-is p q.
          let v = order.antisymmetric c.value d.value c-is d-is p.value q.value in
          let m : c.pending ≡ d.pending = sym q.pending ∙ or_comm d.pending c.pending ∙ p.pending in
          let f = same c.fresh d.fresh q.fresh p.fresh in
          let s = same c.stored d.stored q.stored p.stored in
          λ i. record { value = v i; pending = m i; fresh = f i; stored = s i };
    }

  module _ (is_value : V → Type 0) (leq : V → V → Type 0) (joined : V → V
      → V) (order : IsOrder is_value leq) (join : IsJoin is_value leq joined) where
    pub cell_join : IsJoin (IsCell {N = N} is_value) (IsCellBelow leq) (joined_cell joined)
    cell_join = record {
      value = λ c d c-is d-is. join.value c.value d.value c-is d-is;
      left = λ c d c-is d-is. record {
        value = join.left c.value d.value c-is d-is;
        pending = within_left c.pending d.pending;
        fresh = both_left c.fresh d.fresh;
        stored = both_left c.stored d.stored;
      };
      right = λ c d c-is d-is. record {
        value = join.right c.value d.value c-is d-is;
        pending = within_right c.pending d.pending;
        fresh = both_right c.fresh d.fresh;
        stored = both_right c.stored d.stored;
      };
      least = λ c d e c-is d-is e-is p q. record {
        value = join.least c.value d.value e.value c-is d-is e-is p.value q.value;
        pending = within_least c.pending d.pending e.pending p.pending q.pending;
        fresh = λ t. both c.fresh d.fresh (p.fresh t) (q.fresh t);
        stored = λ t. both c.stored d.stored (p.stored t) (q.stored t);
      };
    }

  module _ {M : Type 0} (is_value : V → Type 0) (is_marks : M → Type 0) (leq : V → V → Type 0) (rounded : M → V
      → V) (order : IsOrder is_value leq) (closure : IsClosure is_value is_marks leq rounded) where
    pub cell_closure : IsClosure (IsCell {N = N} is_value) is_marks (IsCellBelow leq)
        (λ marks. rounded_cell (rounded marks))
    cell_closure = record {
      value = λ marks c m c-is. closure.value marks c.value m c-is;
      extensive = λ marks c m c-is. record {
        value = closure.extensive marks c.value m c-is;
        pending = or_self c.pending;
        fresh = λ p. p;
        stored = λ p. p;
      };
      monotone = λ marks c d m c-is d-is p. record {
        value = closure.monotone marks c.value d.value m c-is d-is
            p.value;
        pending = p.pending;
        fresh = p.fresh;
        stored = p.stored;
      };
      idempotent = λ marks c m c-is. λ i. record c { value = closure.idempotent marks c.value m c-is i };
    }

  module _ {M : Type 0} (is_value : V → Type 0) (is_marks : M → Type 0) (leq : V → V → Type 0) (rounded : M → V
      → V) where
    pub cell_nothing : IsLeastNothing (IsCell {N = N} is_value) is_marks (IsCellBelow leq)
        (λ marks. rounded_cell (rounded marks)) (λ c. ⊥)
    cell_nothing = record { below = λ c d c-is d-is none. absurd none; rounding = λ marks c m c-is none. none }

module _ {V N : Type 0} (is_value : V → Type 0) (leq : V → V → Type 0) (height : V
    → ℕ) (heights : IsHeight is_value leq height) where
  -- a cell's height rises where the cell does
  pub cell_heights : IsHeight (IsCell {N = N} is_value) (IsCellBelow leq) (cell_height height)
  cell_heights = record {
    climbs = λ c d c-is d-is p.
        let v = heights.climbs c.value d.value c-is d-is p.value in
        let m = within_le c.pending d.pending p.pending in
        let f = gone_falls c.fresh d.fresh p.fresh in
        let s = gone_falls c.stored d.stored p.stored in
        omega arith;
    strictly = λ c d c-is d-is p flat.
        let v = heights.climbs c.value d.value c-is d-is p.value in
        let m = within_le c.pending d.pending p.pending in
        let f = gone_falls c.fresh d.fresh p.fresh in
        let s = gone_falls c.stored d.stored p.stored in
        let v' : c.value ≡ d.value = heights.strictly c.value d.value c-is d-is p.value (omega arith) in
        let m' : c.pending ≡ d.pending = omega arith in
        let f' = gone_same c.fresh d.fresh p.fresh (omega arith) in
        let s' = gone_same c.stored d.stored p.stored (omega arith) in
        λ i. record { value = v' i; pending = m' i; fresh = f' i; stored = s' i };
  }
