-- What stands at the numbers of variables and constraints, kind by kind.
use Rattle.std.proofs.Common.{◌≡◌, ℕ, ◌+◌, ◌-◌, ◌<◌, cond, List, length, refl, sym, ap, ◌∙◌, subst, arith, inl, inr}
use Rattle.std.specs.Prelude.{ltb}
use Rattle.std.proofs.lemmas.Bool.{lt-ltb, le-ltb, ne_eqb, cases_lt}
use Rattle.front_constraints.specs.Systems.{Variable, front_at, open_at, Rule, entered, row}
use Rattle.slot_numbers.specs.declared.names.FlowingCell.{FlowingCell}
use Rattle.slot_numbers.specs.Numberings.{VariableLists, variable_of, number_of, slot_in, first_slot, count_of, rule_of, flow_in}
use Rattle.slot_numbers.specs.Numbered.{AreLaid}

module _ (v : VariableLists) where
  pub variable_front : (m : ℕ) → m < v.nodes → variable_of v m ≡ front_at m
  variable_front m lt =
      ap (λ b. cond b (front_at m) (cond (ltb m (first_slot v)) (open_at (m - v.nodes)) (slot_in v.slots (m - first_slot v))))
      (lt-ltb m v.nodes lt)

  pub variable_open : (e : ℕ) → e < v.edges → variable_of v (v.nodes + e) ≡ open_at e
  variable_open e lt =
      let i = v.nodes + e in
      ap (λ b. cond b (front_at i) (cond (ltb i (first_slot v)) (open_at (i - v.nodes)) (slot_in v.slots (i - first_slot v))))
      (le-ltb i v.nodes (omega arith))
      ∙ ap (λ b. cond b (open_at (i - v.nodes)) (slot_in v.slots (i - first_slot v)))
      (lt-ltb i (first_slot v) (omega (arith, lt)))
      ∙ ap open_at (let same : i - v.nodes ≡ e = omega arith in same)

  pub variable_slot : (j : ℕ) → variable_of v (first_slot v + j) ≡ slot_in v.slots j
  variable_slot j =
      let i = first_slot v + j in
      ap (λ b. cond b (front_at i) (cond (ltb i (first_slot v)) (open_at (i - v.nodes)) (slot_in v.slots (i - first_slot v))))
      (le-ltb i v.nodes (omega arith))
      ∙ ap (λ b. cond b (open_at (i - v.nodes)) (slot_in v.slots (i - first_slot v)))
      (le-ltb i (first_slot v) (omega arith))
      ∙ ap (slot_in v.slots) (let same : i - first_slot v ≡ j = omega arith in same)

  -- what holds of fronts, edges and slots with their numbers holds of each number with its variable
  pub by_kind : (P : ℕ → Variable → Type 0) → ((m : ℕ) → m < v.nodes → P m (front_at m))
      → ((e : ℕ) → e < v.edges → P (v.nodes + e) (open_at e))
      → ((j : ℕ) → j < length v.slots → P (first_slot v + j) (slot_in v.slots j))
      → (i : ℕ) → i < count_of v → P i (variable_of v i)
  by_kind P fronts opens slots i lt =
      elim (cases_lt i v.nodes) [
        | inl l ↦ subst (P i) (sym (variable_front i l)) (fronts i l)
        | inr ge ↦ elim (cases_lt i (first_slot v)) [
          | inl l ↦ (let e = i - v.nodes in
              let same : v.nodes + e ≡ i = omega (arith, ge) in
              let below : e < v.edges = omega (arith, ge, l) in
              subst (λ z. P z (variable_of v z)) same
              (subst (P (v.nodes + e)) (sym (variable_open e below)) (opens e below)))
          | inr past ↦ (let j = i - first_slot v in
              let same : first_slot v + j ≡ i = omega (arith, past) in
              let below : j < length v.slots = omega (arith, past, lt) in
              subst (λ z. P z (variable_of v z)) same
              (subst (P (first_slot v + j)) (sym (variable_slot j)) (slots j below)))
        ]
      ]

  -- the number of the variable of a number
  pub number_back : AreLaid v.owned v.starts v.slots → (i : ℕ) → i < count_of v → number_of v (variable_of v i) ≡ i
  number_back laid =
      by_kind (λ i w. number_of v w ≡ i) (λ m lt. refl) (λ e lt. refl)
      (λ j lt. ap (λ z. first_slot v + z) (laid.place j lt))

module _ (edges : ℕ) (flows : List FlowingCell) where
  pub rule_row : (e : ℕ) → e < edges → rule_of edges flows (e + 1) ≡ row e
  rule_row e lt =
      let k = e + 1 in
      ap (λ b. cond b entered (cond (ltb k (edges + 1)) (row (k - 1)) (flow_in flows (k - (edges + 1)))))
      (ne_eqb k 0 (λ z. omega (arith, z)))
      ∙ ap (λ b. cond b (row (k - 1)) (flow_in flows (k - (edges + 1)))) (lt-ltb k (edges + 1) (omega (arith, lt)))
      ∙ ap row (let same : k - 1 ≡ e = omega arith in same)

  pub rule_flow : (j : ℕ) → rule_of edges flows (edges + 1 + j) ≡ flow_in flows j
  rule_flow j =
      let k = edges + 1 + j in
      ap (λ b. cond b entered (cond (ltb k (edges + 1)) (row (k - 1)) (flow_in flows (k - (edges + 1)))))
      (ne_eqb k 0 (λ z. omega (arith, z)))
      ∙ ap (λ b. cond b (row (k - 1)) (flow_in flows (k - (edges + 1)))) (le-ltb k (edges + 1) (omega arith))
      ∙ ap (flow_in flows) (let same : k - (edges + 1) ≡ j = omega arith in same)

  pub by_rule : (P : ℕ → Rule → Type 0) → P 0 entered → ((e : ℕ) → e < edges → P (e + 1) (row e))
      → ((j : ℕ) → j < length flows → P (edges + 1 + j) (flow_in flows j))
      → (k : ℕ) → k < edges + 1 + length flows → P k (rule_of edges flows k)
  by_rule P first rows rest k lt =
      elim (cases_lt k 1) [
        | inl l ↦ (let same : 0 ≡ k = omega (arith, l) in subst (λ z. P z (rule_of edges flows z)) same first)
        | inr ge ↦ elim (cases_lt k (edges + 1)) [
          | inl l ↦ (let e = k - 1 in
              let same : e + 1 ≡ k = omega (arith, ge) in
              let below : e < edges = omega (arith, ge, l) in
              subst (λ z. P z (rule_of edges flows z)) same
              (subst (P (e + 1)) (sym (rule_row e below)) (rows e below)))
          | inr past ↦ (let j = k - (edges + 1) in
              let same : edges + 1 + j ≡ k = omega (arith, past) in
              let below : j < length flows = omega (arith, past, lt) in
              subst (λ z. P z (rule_of edges flows z)) same
              (subst (P (edges + 1 + j)) (sym (rule_flow j)) (rest j below)))
        ]
      ]
