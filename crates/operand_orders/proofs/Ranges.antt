-- Which edges of a range access which cells.
use Rattle.std.proofs.Common.{◌≡◌, ◌↔◌, ℕ, ◌+◌, ◌<◌, ◌≤◌, sym, subst, List, arith}
use Rattle.std.specs.Prelude.{Contains}
use Rattle.path_origins.specs.declared.origins.Span.{Span}
use Rattle.operand_orders.specs.declared.pairs.Pair.{Pair}
use Rattle.operand_orders.specs.declared.accesses.Accesses.{Accesses}
use Rattle.operand_orders.specs.Reached.{IsWithin}
use Rattle.operand_orders.specs.reading.Pairs.{pair, swapped, HasBetween, AreRising, AreInOrder}
use Rattle.operand_orders.specs.reading.Touches.{AreAccesses, IsInOrder, HasAccess, IsTouched}

module _ (a : Accesses) (order : IsInOrder a) (cells : List Pair) (is : cells ≡ a.by_cell.items) where
  by_edge_too : (edge cell : ℕ) → Contains cells (pair cell edge) → HasAccess a edge cell
  by_edge_too edge cell h = (order.others (pair cell edge)).0 (subst (λ l. Contains l (pair cell edge)) is h)

  by_cell_too : (edge cell : ℕ) → HasAccess a edge cell → Contains cells (pair cell edge)
  by_cell_too edge cell h = subst (λ l. Contains l (pair cell edge)) (sym is) ((order.others (pair cell edge)).1 h)

  pub touched_is : (span : Span) (cell : ℕ) → HasBetween cells cell span.first span.end ↔ IsTouched a span cell
  touched_is span cell = (
    λ h. record {
      edge = h.other;
      within = record { first = h.from; end = h.to };
      has = by_edge_too h.other cell h.has;
    },
    λ t. record {
      other = t.edge;
      from = t.within.first;
      to = t.within.end;
      has = by_cell_too t.edge cell t.has;
    },
  )

  pub access_is : (edge cell : ℕ) → HasBetween cells cell edge (edge + 1) ↔ HasAccess a edge cell
  access_is edge cell = (
    λ h. let from = h.from in let to = h.to in let same : h.other ≡ edge = omega (arith, from, to) in
        subst (λ e. HasAccess a e cell) same (by_edge_too h.other cell h.has),
    λ t. record { other = edge; from = omega arith; to = omega arith; has = by_cell_too edge cell t },
  )

module _ (all part : List Pair) (edges : List Pair) (is : all ≡ edges) (p : Pair) where
  pub within_is : (span : Span)
      → (Contains part p ↔ (Contains all p × (span.first ≤ p.first) × (p.first < span.end)))
      → Contains part p ↔ (Contains edges p × IsWithin p.first span)
  within_is span exact = (
    λ h. let r = exact.0 h in (subst (λ l. Contains l p) is r.0, record { first = r.1; end = r.2 }),
    λ h. exact.1 (subst (λ l. Contains l p) (sym is) h.0, h.1.first, h.1.end),
  )

  pub of_edge_is : (edge : ℕ)
      → (Contains part p ↔ (Contains all p × (edge ≤ p.first) × (p.first < edge + 1)))
      → Contains part p ↔ (Contains edges p × (p.first ≡ edge))
  of_edge_is edge exact = (
    λ h. let r = exact.0 h in (
      subst (λ l. Contains l p) is r.0,
      (let from = r.1 in let to = r.2 in omega (arith, from, to)),
    ),
    λ h. let same = h.1 in exact.1 (
      subst (λ l. Contains l p) (sym is) h.0,
      omega (arith, same),
      omega (arith, same),
    ),
  )

pub made_is : (given by_edge others cells by_cell : List Pair) → AreInOrder given by_edge → cells ≡ by_edge
    → ((p : Pair) → Contains others p ↔ Contains cells (swapped p)) → AreInOrder others by_cell → (a : Accesses)
    → a.by_edge.items ≡ by_edge → a.by_cell.items ≡ by_cell → AreAccesses given a
made_is given by_edge others cells by_cell edges is swaps ordered a edges-is cells-is = record {
  by_edge = subst AreRising (sym edges-is) edges.rising;
  same = λ p. subst (λ l. Contains l p ↔ Contains given p) (sym edges-is) (edges.same p);
  by_cell = subst AreRising (sym cells-is) ordered.rising;
  others = λ p. (
    λ h. subst (λ l. Contains l (swapped p)) (sym edges-is)
        (subst (λ l. Contains l (swapped p)) is
        ((swaps p).0 ((ordered.same p).0 (subst (λ l. Contains l p) cells-is h)))),
    λ h. subst (λ l. Contains l p) (sym cells-is)
        ((ordered.same p).1 ((swaps p).1 (subst (λ l. Contains l (swapped p)) (sym is)
        (subst (λ l. Contains l (swapped p)) edges-is h)))),
  );
}
