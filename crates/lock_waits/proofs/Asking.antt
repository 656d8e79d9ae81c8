-- The requests of one more copy, and of one more task.
use Rattle.std.proofs.Common.{◌≡◌, ◌↔◌, ◌⊎◌, ℕ, ◌+◌, refl, ap, sym, subst, ◌∙◌, inl, inr, Bool, true, false, List}
use Rattle.std.proofs.Common.{length, Option, Some, None, arith}
use Rattle.std.specs.Prelude.{cond}
use Rattle.std.proofs.lemmas.Bool.{cases_eq}
use Rattle.tm_terms.specs.declared.places.Place.{Place}
use Rattle.flow_graph.specs.declared.graphs.Edge.{Edge}
use Rattle.flow_graph.specs.declared.operations.Operation.{Operation}
use Rattle.flow_graph.specs.declared.operations.Operation.TheVariants as Op
use Rattle.mutex_configs.specs.declared.nodes.ConfiguredNode.{ConfiguredNode}
use Rattle.mutex_configs.specs.declared.nodes.EdgeCopy.{EdgeCopy}
use Rattle.mutex_configs.specs.Sets.{has}
use Rattle.request_circles.specs.declared.requests.Request.{Request}
use Rattle.program_reports.specs.post_recheck.transfer_rows.StateForms.{State}
use Rattle.program_reports.specs.post_recheck.program_equations.Programs.{ProgramBodies}
use Rattle.lock_waits.specs.reading.Copies.{asked_by, where_reached, asked_at, IsAskedBelow}
use Rattle.lock_waits.specs.reading.Bodies.{IsAskedOf, IsAskedUpTo}

-- ## Steps

-- what is new is old or here; what is old was there first or before; and before and here are so far
pub joined : {N O I F H S : Type 0} → (N ↔ (O ⊎ H)) → (O ↔ (I ⊎ F)) → (S ↔ (F ⊎ H)) → (N ↔ (I ⊎ S))
joined {N} {O} {I} {F} {H} {S} step before so_far = (
  λ n. elim (step.0 n) [
    | inl o ↦ elim (before.0 o) [ inl i ↦ inl i | inr f ↦ inr (so_far.1 (inl f)) ]
    | inr h ↦ inr (so_far.1 (inr h))
  ],
  λ x. elim x [
    | inl i ↦ step.1 (inl (before.1 (inl i)))
    | inr s ↦ elim (so_far.0 s) [ inl f ↦ step.1 (inl (before.1 (inr f))) | inr h ↦ step.1 (inr h) ]
  ],
)

-- what is new is old or here, and what is so far was before or is here
pub grown : {N O F H S : Type 0} → (N ↔ (O ⊎ H)) → (O ↔ F) → (S ↔ (F ⊎ H)) → (N ↔ S)
grown {N} {O} {F} {H} {S} step before so_far = (
  λ n. so_far.1 (elim (step.0 n) [ inl o ↦ inl (before.0 o) | inr h ↦ inr h ]),
  λ s. step.1 (elim (so_far.0 s) [ inl f ↦ inl (before.1 f) | inr h ↦ inr h ]),
)

-- ## Copies

module _ (task : ℕ) (edges : List Edge) (nodes : List ConfiguredNode) (copies : List EdgeCopy)
    (table : List (Option State)) (r : Request) where
  pub asked_none : IsAskedBelow task edges nodes copies table 0 r → ⊥
  asked_none h = let lt = h.below in omega (arith, lt)

  pub asked_more : (k : ℕ) → IsAskedBelow task edges nodes copies table (k + 1) r
      ↔ (IsAskedBelow task edges nodes copies table k r ⊎ (asked_at task edges nodes copies table k ≡ Some r))
  asked_more k = (
    λ h. elim (cases_eq h.copy k) [
      | inl same ↦ inr (subst (λ n. asked_at task edges nodes copies table n ≡ Some r) same h.asked)
      | inr other ↦ inl (record {
        copy = h.copy;
        below = (let lt = h.below in omega (arith, lt, other));
        asked = h.asked;
      })
    ],
    λ h. elim h [
      | inl o ↦ record { copy = o.copy; below = (let lt = o.below in omega (arith, lt)); asked = o.asked }
      | inr a ↦ record { copy = k; below = omega arith; asked = a }
    ],
  )

-- the same lists by other names
pub asked_as : {N O : Type 0} (task : ℕ) (es fs : List Edge) (ns ms : List ConfiguredNode) (cs ds : List EdgeCopy)
    (ts us : List (Option State)) (r : Request) → es ≡ fs → ns ≡ ms → cs ≡ ds → ts ≡ us
    → (N ↔ (O ⊎ IsAskedBelow task es ns cs ts (length cs) r)) → (N ↔ (O ⊎ IsAskedBelow task fs ms ds us (length ds) r))
asked_as {N} {O} task es fs ns ms cs ds ts us r e n c t h =
    subst (λ z. N ↔ (O ⊎ IsAskedBelow task fs ms ds z (length ds) r)) t
    (subst (λ z. N ↔ (O ⊎ IsAskedBelow task fs ms z ts (length z) r)) c
    (subst (λ z. N ↔ (O ⊎ IsAskedBelow task fs z cs ts (length cs) r)) n
    (subst (λ z. N ↔ (O ⊎ IsAskedBelow task z ns cs ts (length cs) r)) e h)))

-- ## Tasks

module _ (p : ProgramBodies) (tables : List (List (Option State))) (r : Request) where
  pub no_task : IsAskedUpTo p tables 0 r → ⊥
  no_task h = let lt = h.below in omega (arith, lt)

  pub tasks_more : (n : ℕ) → IsAskedUpTo p tables (n + 1) r ↔ (IsAskedUpTo p tables n r ⊎ IsAskedOf p tables n r)
  tasks_more n = (
    λ h. elim (cases_eq h.task n) [
      | inl same ↦ inr (subst (λ t. IsAskedOf p tables t r) same h.asked)
      | inr other ↦ inl (record {
        task = h.task;
        below = (let lt = h.below in omega (arith, lt, other));
        asked = h.asked;
      })
    ],
    λ h. elim h [
      | inl o ↦ record { task = o.task; below = (let lt = o.below in omega (arith, lt)); asked = o.asked }
      | inr a ↦ record { task = n; below = omega arith; asked = a }
    ],
  )

-- ## Operations

-- the operation locks a mutex that is not held
pub record IsAsking (op : Operation) (by held : ℕ) (r : Request) : Type 0 where
  pub mutex : ℕ
  pub place : Place
  pub locks : op ≡ Op.Lock mutex place
  pub not_held : has held mutex ≡ false
  pub is : r ≡ record { task = by; held = held; mutex = mutex; place = place }

Some_is : (r s : Request) → Some r ≡ Some s → s ≡ r
Some_is r s e = cc

pub asked_is : (op : Operation) (task held : ℕ) (r : Request) → asked_by op task held ≡ Some r → IsAsking op task held r
unfolding asked_by
asked_is (Op.Lock m q) task held r e = by_case (has held m) refl e
  where
    by_case : (b : Bool) → has held m ≡ b
        → cond b None (Some (record { task = task; held = held; mutex = m; place = q })) ≡ Some r
        → IsAsking (Op.Lock m q) task held r
    by_case true h e = absurd cc
    by_case false h e = record {
      mutex = m;
      place = q;
      locks = refl;
      not_held = h;
      is = Some_is (record { task = task; held = held; mutex = m; place = q }) r e;
    }
asked_is _ task held r e = absurd cc

pub asked_lock : (task held m : ℕ) (q : Place) → has held m ≡ false
    → asked_by (Op.Lock m q) task held ≡ Some (record { task = task; held = held; mutex = m; place = q })
unfolding asked_by
asked_lock task held m q e = ap (λ b. cond b None (Some (record { task = task; held = held; mutex = m; place = q }))) e

-- the node has a state
pub reached_is : (o : Option State) (asked : Option Request) (r : Request) → where_reached o asked ≡ Some r
    → (s : State) × (o ≡ Some s) × (asked ≡ Some r)
reached_is None asked r e = absurd cc
reached_is (Some s) asked r e = (s, refl, e)

-- the request that is found is the one that is made
pub asked_some : {N O : Type 0} (found asked : Option Request) (q r : Request) → found ≡ asked → found ≡ Some q
    → (N ↔ (O ⊎ (r ≡ q))) → (N ↔ (O ⊎ (asked ≡ Some r)))
asked_some {N} {O} found asked q r is e h = (
  λ n. elim (h.0 n) [ inl o ↦ inl o | inr same ↦ inr (sym is ∙ e ∙ ap Some (sym same)) ],
  λ x. h.1 (elim x [ inl o ↦ inl o | inr a ↦ inr (Some_is q r (sym e ∙ is ∙ a)) ]),
)
