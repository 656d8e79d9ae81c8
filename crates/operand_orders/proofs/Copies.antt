-- The copies of edges, and the states that they leave.
use Rattle.std.proofs.Common.{◌≡◌, ◌↔◌, ◌⊎◌, ℕ, zero, suc, ◌+◌, ◌<◌, ◌≤◌, refl, ap, sym, subst, ◌∙◌, inl, inr, List, []}
use Rattle.std.proofs.Common.{◌∷◌, length, get_or, take, true, false, Option, Some, None, arith}
use Rattle.std.specs.Prelude.{Contains, slice_get}
use Rattle.std.specs.Option.{is_some}
use Rattle.std.specs.declared.vec.Vec.{Vec}
use Rattle.std.proofs.lemmas.Bool.{true≢false, cases_lt, cases_eq}
use Rattle.std.proofs.lemmas.List.{take_all}
use Rattle.std.proofs.lemmas.Option.{slice_get-get_or}
use Rattle.mutex_configs.specs.declared.nodes.EdgeCopy.{EdgeCopy}
use Rattle.post_recheck.specs.transfer_rows.StateForms.{State}
use Rattle.post_recheck.specs.task_equations.Bodies.{no_copy}
use Rattle.operand_orders.specs.declared.views.BodyView.{BodyView}
use Rattle.operand_orders.specs.Reached.{SolvedBody, operation_at, HasState, IsReached}
use Rattle.access_races.specs.reading.Ways.{list_at}
use Rattle.operand_orders.specs.reading.Lists.{AreEmptyLists}
use Rattle.operand_orders.specs.reading.Views.{IsCopyOf, AreCopiesOf, AreCopiesBy, IsIndexed, state_from}
use Rattle.operand_orders.specs.reading.Views.{state_at}
use Rattle.operand_orders.specs.reading.Views.{IsStateIn, IsNumberAdded}
use Rattle.access_races.proofs.Joins.{either, grown}
use Rattle.operand_orders.proofs.Elements.{none, past_lists}

-- ## By edges

get_front : {X : Type 0} (xs : List X) (n k : ℕ) → k < n → slice_get (take n xs) k ≡ slice_get xs k
get_front xs zero k lt = absurd (omega (arith, lt))
get_front [] (suc n) k lt = refl
get_front (x ∷ xs) (suc n) zero lt = refl
get_front (x ∷ xs) (suc n) (suc k) lt = get_front xs n k (omega (arith, lt))

front_within : {X : Type 0} (xs : List X) (n k : ℕ) (x : X) → slice_get (take n xs) k ≡ Some x → k < n
front_within xs zero k x e = absurd cc
front_within [] (suc n) k x e = absurd cc
front_within (y ∷ xs) (suc n) zero x e = omega arith
front_within (y ∷ xs) (suc n) (suc k) x e = (let lt = front_within xs n k x e in omega (arith, lt))

same_copy : (c d : EdgeCopy) → Some c ≡ Some d → c ≡ d
same_copy c d e = cc

copy_more : (xs : List EdgeCopy) (i : ℕ) → i < length xs → (e k : ℕ) → IsCopyOf (take (i + 1) xs) e k
    ↔ (IsCopyOf (take i xs) e k ⊎ ((e ≡ (get_or xs i no_copy).edge) × (k ≡ i)))
copy_more xs i lt e k = (
  λ h. let below = front_within xs (i + 1) k h.copy h.is in
      let there : slice_get xs k ≡ Some h.copy = sym (get_front xs (i + 1) k below) ∙ h.is in
      either
      (λ (same : k ≡ i). inr (
        sym h.of ∙ ap (λ (c : EdgeCopy). c.edge) (same_copy h.copy (get_or xs i no_copy)
            (sym there ∙ ap (slice_get xs) same ∙ slice_get-get_or xs i no_copy lt)),
        same,
      ))
      (λ other. inl (record {
        copy = h.copy;
        is = get_front xs i k (omega (arith, below, other)) ∙ there;
        of = h.of;
      })) (cases_eq k i),
  λ h. either
      (λ (o : IsCopyOf (take i xs) e k). let below = front_within xs i k o.copy o.is in record {
        copy = o.copy;
        is = get_front xs (i + 1) k (omega (arith, below)) ∙ sym (get_front xs i k below) ∙ o.is;
        of = o.of;
      })
      (λ (s : (e ≡ (get_or xs i no_copy).edge) × (k ≡ i)). record {
        copy = get_or xs i no_copy;
        is = get_front xs (i + 1) k (let same = s.1 in omega (arith, same)) ∙ ap (slice_get xs) s.1
            ∙ slice_get-get_or xs i no_copy lt;
        of = sym s.0;
      }) h,
)

module _ {A : Type 0} (copies : List EdgeCopy) (most : ℕ) where
  pub copies_none : (lists : List (Vec ℕ A)) → AreEmptyLists lists most → AreCopiesBy (take 0 copies) most lists
  copies_none lists h = record {
    count = h.count;
    each = λ e lt k. (
      λ c. absurd (none k (subst (λ l. Contains l k) (h.none e) c)),
      λ o. absurd (let below = front_within copies 0 k o.copy o.is in omega (arith, below)),
    );
  }

  pub copies_more : (i : ℕ) → i < length copies → (old new : List (Vec ℕ A)) → AreCopiesBy (take i copies) most old
      → IsNumberAdded old (get_or copies i no_copy).edge i new → AreCopiesBy (take (i + 1) copies) most new
  copies_more i lt old new so_far more = record {
    count = more.count ∙ so_far.count;
    each = λ e below k. grown (more.added e (let n = so_far.count in omega (arith, below, n)) k) (so_far.each e below k)
        (copy_more copies i lt e k);
  }

  pub copies_all : (i : ℕ) → length copies ≤ i → (lists : List (Vec ℕ A)) → AreCopiesBy (take i copies) most lists
      → AreCopiesBy copies most lists
  copies_all i le lists h = subst (λ cs. AreCopiesBy cs most lists) (take_all i copies le) h

-- the list of an edge has exactly its copies, also where there is no such edge
pub copies_there : (view : BodyView) → IsIndexed view → (edge : ℕ) (numbers : List ℕ)
    → numbers ≡ list_at view.by_edge.now edge → AreCopiesOf view.copies.now edge numbers
copies_there view is edge numbers e k = either within beyond (cases_lt edge (length view.edges.now))
  where
    within : edge < length view.edges.now → Contains numbers k ↔ IsCopyOf view.copies.now edge k
    within lt = subst (λ l. Contains l k ↔ IsCopyOf view.copies.now edge k) (sym e) (is.by_edge.each edge lt k)

    beyond : length view.edges.now ≤ edge → Contains numbers k ↔ IsCopyOf view.copies.now edge k
    beyond le =
        let count = is.by_edge.count in
        let empty : numbers ≡ [] = e ∙ past_lists view.by_edge.now edge (omega (arith, count, le)) in (
          λ c. absurd (none k (subst (λ l. Contains l k) empty c)),
          λ h. absurd (let below = is.below k h.copy h.is in let of = h.of in omega (arith, le, below, of)),
        )

-- ## States

module _ (b : SolvedBody) where
  from_copy : (k : ℕ) (at : Option EdgeCopy) (s : State) → slice_get b.copies k ≡ at → state_from b at ≡ Some s
      → (copy : EdgeCopy) × (slice_get b.copies k ≡ Some copy) × (b.table copy.from ≡ Some s)
  from_copy k None s e is = absurd cc
  from_copy k (Some copy) s e is = (copy, e, is)

  pub state_read : (k : ℕ) (copy : EdgeCopy) → slice_get b.copies k ≡ Some copy → state_at b k ≡ b.table copy.from
  state_read k copy e = ap (state_from b) e

  some_state : (at : Option State) → is_some at ≡ true → (s : State) × (at ≡ Some s)
  some_state None e = absurd cc
  some_state (Some s) e = (s, refl)

  module _ (edge : ℕ) (numbers : List ℕ) (are : AreCopiesOf b.copies edge numbers) where
    pub state_of_edge : (s : State) (k : ℕ) → Contains numbers k → state_at b k ≡ Some s
        → HasState b edge (operation_at b edge) s
    state_of_edge s k has is =
        let c = (are k).0 has in record {
          number = k;
          copy = c.copy;
          is = c.is;
          of = c.of;
          state = sym (state_read k c.copy c.is) ∙ is;
          operation = refl;
        }

    pub states_in : (s : State) → HasState b edge (operation_at b edge) s → IsStateIn b numbers s
    states_in s h = record {
      one = h.number;
      has = (are h.number).1 (record { copy = h.copy; is = h.is; of = h.of });
      is = state_read h.number h.copy h.is ∙ h.state;
    }

    -- ## Being reached

    pub reached_by : (k : ℕ) → Contains numbers k → is_some (state_at b k) ≡ true → IsReached b edge
    reached_by k has h =
        let found = some_state (state_at b k) h in record {
          state = found.0;
          has = state_of_edge found.0 k has found.1;
        }

    pub not_reached : (n : ℕ) → length numbers ≤ n
        → ((k copy : ℕ) → k < n → get_or numbers k copy ≡ copy → is_some (state_at b copy) ≡ false)
        → IsReached b edge → ⊥
    not_reached n le never h =
        let found = states_in h.state h.has in
        let at = found.has in
        true≢false (ap is_some (sym found.is) ∙ never at.0 found.one (let lt = at.1 in omega (arith, le, lt)) at.2)
