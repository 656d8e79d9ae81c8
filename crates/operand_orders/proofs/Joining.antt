-- The values of a cell in the states of an edge, joined.
use Rattle.std.proofs.Common.{◌≡◌, ◌↔◌, ◌⊎◌, ℕ, ◌+◌, ◌<◌, ◌≤◌, refl, sym, subst, ◌∙◌, inl, inr, Bool, true, false}
use Rattle.std.proofs.Common.{not}
use Rattle.std.proofs.Common.{List, [], length, get_or, take, Option, Some, None}
use Rattle.std.proofs.lemmas.Bool.{true≢false}
use Rattle.std.proofs.lemmas.List.{take_all}
use Rattle.pointer_dom.specs.Values.{Values, no_value, IsValuesBelow, joined_values}
use Rattle.flow_graph.specs.declared.operations.Operation.{Operation}
use Rattle.post_recheck.specs.transfer_rows.StateForms.{State, Cell, own_of, own_value}
use Rattle.operand_orders.specs.Reached.{SolvedBody, operation_at, HasState}
use Rattle.operand_orders.specs.Order.{IsAmong}
use Rattle.access_races.specs.reading.Ways.{HasOne}
use Rattle.operand_orders.specs.reading.Views.{AreCopiesOf, state_at, IsStateIn}
use Rattle.operand_orders.specs.reading.Operands.{IsJoinOf, IsJoinedBy, IsJoinedWith, Exceeds, HasMore}
use Rattle.access_races.proofs.Joins.{either, one_more}
use Rattle.operand_orders.proofs.Elements.{has_none}
use Rattle.operand_orders.proofs.Copies.{state_of_edge, states_in}
use Rattle.operand_orders.proofs.Above.{values_same, values_through, values_left, values_right, values_least}
use Rattle.operand_orders.proofs.Above.{nothing_below}

-- ## One value

pub joined_by : (at : Option Cell) (x : Cell) → Some x ≡ at → (before after : Values)
    → after ≡ joined_values before x.value → IsJoinedBy (own_value at) before after
joined_by at x e before after is =
    subst (λ a. IsJoinedBy (own_value a) before after) e
    (subst (IsJoinedBy x.value before) (sym is) (record {
      kept = values_left before x.value;
      upper = values_right before x.value;
      least = λ w h k. values_least before x.value w h k;
    }))

pub joined_none : (at : Option Cell) → None ≡ at → (before : Values) → IsJoinedBy (own_value at) before before
joined_none at e before =
    subst (λ a. IsJoinedBy (own_value a) before before) e (record {
      kept = values_same before;
      upper = nothing_below before;
      least = λ w h k. h;
    })

same_state : (s t : State) → Some s ≡ Some t → s ≡ t
same_state s t e = cc

pub joined_there : (at : Option State) (s : State) → Some s ≡ at → (cell : ℕ) (before after : Values)
    → IsJoinedBy (own_of s cell) before after → IsJoinedWith at cell before after
joined_there at s e cell before after h = record {
  kept = h.kept;
  upper = λ t is. subst (λ u. IsValuesBelow (own_of u cell) after) (same_state s t (e ∙ is)) h.upper;
  least = λ w b k. h.least w b (k s (sym e));
}

pub joined_nowhere : (at : Option State) → None ≡ at → (cell : ℕ) (before : Values) → IsJoinedWith at cell before before
joined_nowhere at e cell before = record {
  kept = values_same before;
  upper = λ t is. absurd (let clash : None ≡ Some t = e ∙ is in cc);
  least = λ w b k. b;
}

-- ## Step by step

module _ (b : SolvedBody) (cell : ℕ) where
  pub join_first : (joined : Values) → joined ≡ no_value → IsJoinOf (IsStateIn b []) cell joined
  join_first joined is = subst (IsJoinOf (IsStateIn b []) cell) (sym is) (record {
    upper = λ s h. absurd (has_none (λ (k : ℕ). state_at b k ≡ Some s) h);
    least = λ w h. nothing_below w;
  })

  pub join_more : (numbers : List ℕ) (i : ℕ) → i < length numbers → (before after : Values)
      → IsJoinOf (IsStateIn b (take i numbers)) cell before
      → IsJoinedWith (state_at b (get_or numbers i 0)) cell before after
      → IsJoinOf (IsStateIn b (take (i + 1) numbers)) cell after
  join_more numbers i lt before after so_far more = record {
    upper = λ s h. either (λ o. values_through (own_of s cell) before after (so_far.upper s o) more.kept)
        (λ here. more.upper s here) ((step s).0 h);
    least = λ w h. more.least w (so_far.least w (λ s o. h s ((step s).1 (inl o)))) (λ s e. h s ((step s).1 (inr e)));
  }
    where
      step : (s : State) → IsStateIn b (take (i + 1) numbers) s
          ↔ (IsStateIn b (take i numbers) s ⊎ (state_at b (get_or numbers i 0) ≡ Some s))
      step s = one_more (λ (k : ℕ). state_at b k ≡ Some s) numbers i 0 lt

  pub join_all : (edge : ℕ) (numbers : List ℕ) → AreCopiesOf b.copies edge numbers → (i : ℕ) → length numbers ≤ i
      → (joined : Values) → IsJoinOf (IsStateIn b (take i numbers)) cell joined
      → IsJoinOf (HasState b edge (operation_at b edge)) cell joined
  join_all edge numbers are i le joined h =
      let all : IsJoinOf (IsStateIn b numbers) cell joined =
      subst (λ ns. IsJoinOf (IsStateIn b ns) cell joined) (take_all i numbers le) h in record {
        upper = λ s has. all.upper s (states_in b edge numbers are s has);
        least = λ w k. all.least w (λ s o. k s (state_of_edge b edge numbers are s o.one o.has o.is));
      }

-- ## More than before

module _ (b : SolvedBody) (behind cell : ℕ) (joined : Values)
    (is : IsJoinOf (HasState b behind (operation_at b behind)) cell joined) where
  with_any : (op : Operation) (s : State) → HasState b behind op s → HasState b behind (operation_at b behind) s
  with_any op s h =
      record { number = h.number; copy = h.copy; is = h.is; of = h.of; state = h.state; operation = refl }

  among_below : (v : Values) → IsAmong b behind cell v → IsValuesBelow v joined
  among_below v h = h joined (λ op s has. is.upper s (with_any op s has))

  below_among : (v : Values) → IsValuesBelow v joined → IsAmong b behind cell v
  below_among v h w k =
      values_through v joined w h (is.least w (λ s has. k (operation_at b behind) s has))

  module _ (before : ℕ) (numbers : List ℕ) (are : AreCopiesOf b.copies before numbers) where
    pub more_is : HasOne (λ (k : ℕ). Exceeds b cell joined k) numbers ↔ HasMore b before behind cell
    more_is = (
      λ h. record {
        state = h.is.state;
        has = state_of_edge b before numbers are h.is.state h.one h.has h.is.is;
        differs = λ a. h.is.differs (among_below (own_of h.is.state cell) a);
      },
      λ m. let found = states_in b before numbers are m.state m.has in record {
        one = found.one;
        has = found.has;
        is = record {
          state = m.state;
          is = found.is;
          differs = λ below. m.differs (below_among (own_of m.state cell) below);
        };
      },
    )

-- ## Whether it exceeds

pub beyond_is : (at : Option Cell) (x : Cell) → Some x ≡ at → (joined : Values) (r : Bool)
    → ((r ≡ true) ↔ IsValuesBelow x.value joined)
    → (not r ≡ true) ↔ (IsValuesBelow (own_value at) joined → ⊥)
beyond_is at x e joined true h = (
  λ t. absurd (true≢false (sym t)),
  λ n. absurd (n (subst (λ a. IsValuesBelow (own_value a) joined) e (h.0 refl))),
)
beyond_is at x e joined false h = (
  λ t below. true≢false (sym (h.1 (subst (λ a. IsValuesBelow (own_value a) joined) (sym e) below))),
  λ n. refl,
)

pub never_beyond : (at : Option Cell) → None ≡ at → (joined : Values)
    → (false ≡ true) ↔ (IsValuesBelow (own_value at) joined → ⊥)
never_beyond at e joined = (
  λ t. absurd (true≢false (sym t)),
  λ n. absurd (n (subst (λ a. IsValuesBelow (own_value a) joined) e (nothing_below joined))),
)

pub exceeds_is : (b : SolvedBody) (cell : ℕ) (joined : Values) (copy : ℕ) (s : State) → Some s ≡ state_at b copy
    → (r : Bool) → ((r ≡ true) ↔ (IsValuesBelow (own_of s cell) joined → ⊥))
    → (r ≡ true) ↔ Exceeds b cell joined copy
exceeds_is b cell joined copy s e r h = (
  λ t. record { state = s; is = sym e; differs = h.0 t },
  λ x. h.1 (subst (λ u. IsValuesBelow (own_of u cell) joined → ⊥) (same_state x.state s (sym x.is ∙ sym e)) x.differs),
)

pub never_exceeds : (b : SolvedBody) (cell : ℕ) (joined : Values) (copy : ℕ) → None ≡ state_at b copy
    → (false ≡ true) ↔ Exceeds b cell joined copy
never_exceeds b cell joined copy e = (
  λ t. absurd (true≢false (sym t)),
  λ x. absurd (let clash : None ≡ Some x.state = e ∙ x.is in cc),
)
