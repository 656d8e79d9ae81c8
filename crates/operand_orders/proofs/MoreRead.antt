-- What the second operand reads that it does not read behind the first one.
use Rattle.std.proofs.Common.{◌≡◌, ◌↔◌, ℕ, ◌+◌, ◌<◌, ◌≤◌, refl, ap, sym, subst, ◌∙◌}
use Rattle.std.proofs.Common.{List, length, get_or, arith}
use Rattle.std.specs.Prelude.{Contains}
use Rattle.std.proofs.lemmas.Bool.{cases_eq}
use Rattle.std.proofs.lemmas.List.{get_or_default}
use Rattle.flow_graph.specs.declared.operations.Operation.{Operation}
use Rattle.path_origins.specs.declared.origins.Span.{Span}
use Rattle.post_recheck.specs.transfer_rows.StateForms.{State}
use Rattle.operand_orders.specs.declared.pairs.Pair.{Pair}
use Rattle.operand_orders.specs.declared.touches.Touches.{Touches as Tables}
use Rattle.operand_orders.specs.Reached.{SolvedBody, IsWithin, operation_at, HasState, IsReached}
use Rattle.operand_orders.specs.Order.{ReadsMore}
use Rattle.operand_orders.specs.Order.ReadsMore.{unreached, differing}
use Rattle.operand_orders.specs.reading.Pairs.{pair}
use Rattle.operand_orders.specs.reading.Touches.{AreTouches, IsMarkedIn}
use Rattle.operand_orders.specs.reading.Operands.{HasMore, LoadsMore}
use Rattle.access_races.proofs.Joins.{either}
use Rattle.operand_orders.proofs.Pairing.{acts_are}

-- it holds of none of the first, with one more
pub none_more : {X : Type 0} (Is : X → Type 0) (xs : List X) (i : ℕ) (d : X) → i < length xs
    → ((k : ℕ) (x : X) → k < i → get_or xs k x ≡ x → Is x → ⊥) → (Is (get_or xs i d) → ⊥) → (k : ℕ) (x : X)
    → k < i + 1 → get_or xs k x ≡ x → Is x → ⊥
none_more Is xs i d within before here k x lt at is =
    either
    (λ (same : k ≡ i). here (subst Is
    (sym (get_or_default xs i d x within ∙ ap (λ n. get_or xs n x) (sym same) ∙ at)) is))
    (λ other. before k x (omega (arith, lt, other)) at is) (cases_eq k i)

module _ (b : SolvedBody) (t : Tables) (are : AreTouches b t) (first second : Span) where
  module _ (ws : List Pair)
      (exact : (p : Pair) → Contains ws p
      ↔ (Contains (let a = t.loads in a.by_edge.items) p × IsWithin p.first second)) where
    pub more_loaded : (p : Pair) → Contains ws p → HasMore b first.first second.first p.second
        → LoadsMore b first second
    more_loaded p has more =
        let w = (exact p).0 has in record {
          cell = p.second;
          loads = record { edge = p.first; within = w.1; loads = (are.loads.exact p.first p.second).0 w.0 };
          more = more;
        }

    pub none_loaded : (n : ℕ) → length ws ≤ n
        → ((k : ℕ) (p : Pair) → k < n → get_or ws k p ≡ p → HasMore b first.first second.first p.second → ⊥)
        → LoadsMore b first second → ⊥
    none_loaded n le never l =
        let p = pair l.loads.edge l.cell in
        let at = (exact p).1 ((are.loads.exact l.loads.edge l.cell).1 l.loads.loads, l.loads.within) in
        never at.0 p (let lt = at.1 in omega (arith, le, lt)) at.2 l.more

  reached_by : (edge : ℕ) (op : Operation) (s : State) → HasState b edge op s → IsReached b edge
  reached_by edge op s h = record {
    state = s;
    has = record { number = h.number; copy = h.copy; is = h.is; of = h.of; state = h.state; operation = refl };
  }

  with_own : (edge : ℕ) (op : Operation) (s : State) → HasState b edge op s → HasState b edge (operation_at b edge) s
  with_own edge op s h =
      record { number = h.number; copy = h.copy; is = h.is; of = h.of; state = h.state; operation = refl }

  pub not_before : (IsReached b first.first → ⊥) → ReadsMore b first second → ⊥
  not_before never (unreached r n a) = never r
  not_before never (differing {op = op} cell s r l has d) = never (reached_by first.first op s has)

  pub not_behind : IsReached b first.first → (IsReached b second.first → ⊥)
      → IsMarkedIn t.acting second ↔ ReadsMore b first second
  not_behind r never = (λ m. unreached r never ((acts_are b t are second).0 m), back)
    where
      back : ReadsMore b first second → IsMarkedIn t.acting second
      back (unreached q n a) = (acts_are b t are second).1 a
      back (differing {op = op} cell s q l has d) = absurd (never q)

  pub both_reached : IsReached b second.first → LoadsMore b first second ↔ ReadsMore b first second
  both_reached r = (
    λ l. differing l.cell l.more.state r l.loads l.more.has l.more.differs,
    back,
  )
    where
      back : ReadsMore b first second → LoadsMore b first second
      back (unreached q n a) = absurd (n r)
      back (differing {op = op} cell s q l has d) = record {
        cell = cell;
        loads = l;
        more = record { state = s; has = with_own first.first op s has; differs = d };
      }
