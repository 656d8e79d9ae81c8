-- The passes of a program come to an end: a task is found whose publication makes the store higher, until there is
-- none; and the store stays below the limit.
use Rattle.std.specs.Prelude.{◌≡◌, ◌⊎◌, ℕ, zero, suc, ◌+◌, ◌<◌, ◌≤◌, List, [], ◌∷◌, refl}
use Rattle.std.proofs.Common.{subst, inl, inr, arith}
use Rattle.std.proofs.lemmas.Bool.{cases_lt}
use Rattle.program_equations.specs.tm_lattice.Rounds.{IsHistory}
use Rattle.program_equations.specs.interfere_set.Stores.{Interferences, no_interference}
use Rattle.program_equations.specs.Programs.{ProgramBodies, IsProgram}
use Rattle.program_equations.specs.Systems.{stores}
use Rattle.program_equations.specs.Solutions.{passing}
use Rattle.store_limits.specs.Limits.{store_limit, published, EndsIn}
use Rattle.store_limits.proofs.Bounded.{store_bounded}
use Rattle.store_limits.proofs.Climbing.{height_of, published_fits, published_quiet, then_published, history_fits}
use Rattle.store_limits.proofs.Climbing.{quiet_is_closed}

module _ (p : ProgramBodies) (is : IsProgram p) where
  -- a task whose publication makes the store higher
  record Raises (store : Interferences) (count : ℕ) : Type 0 where
    task : ℕ
    exists : task < count
    higher : height_of store < height_of (published p task store)

  -- no publication of a task below the number makes the store higher
  abbrev AreFlat : Interferences → ℕ → Type 0
  AreFlat store count = (t : ℕ) → t < count → height_of (published p t store) ≤ height_of store

  raises_or_flat : (store : Interferences) (count : ℕ) → Raises store count ⊎ AreFlat store count
  raises_or_flat store zero = inr (λ t lt. absurd (omega (arith, lt)))
  raises_or_flat store (suc n) = elim (cases_lt (height_of store) (height_of (published p n store))) [
    | inl more ↦ inl (record { task = n; exists = omega arith; higher = more })
    | inr flat ↦ elim (raises_or_flat store n) [
      | inl raises ↦
          let before = raises.exists in
          inl (record { task = raises.task; exists = omega (arith, before); higher = raises.higher })
      | inr before ↦ inr (λ t lt. elim (cases_lt t n) [
        | inl earlier ↦ before t earlier
        | inr last ↦
            let same : n ≡ t = omega (arith, lt, last) in
            subst (λ k. height_of (published p k store) ≤ height_of store) same flat
      ])
    ]
  ]

  -- where none makes it higher, the history has ended
  flat_ends : (store : Interferences) (earlier : List Interferences) → IsHistory stores passing p (store ∷ earlier)
      → AreFlat store p.tasks → EndsIn p
  flat_ends store earlier history flat =
      let fits = history_fits p is store earlier history in record {
        store = store;
        earlier = earlier;
        history = history;
        closed = quiet_is_closed p is store earlier history (λ t lt. published_quiet p is t lt store fits (flat t lt));
      }

  -- so many publications suffice
  ends_within : (room : ℕ) (store : Interferences) (earlier : List Interferences)
      → IsHistory stores passing p (store ∷ earlier) → store_limit p ≤ room + height_of store → EndsIn p
  ends_within zero store earlier history near = elim (raises_or_flat store p.tasks) [
    | inr flat ↦ flat_ends store earlier history flat
    | inl raises ↦
        let fits = history_fits p is store earlier history in
        let high = store_bounded p (published p raises.task store)
        (published_fits p is raises.task raises.exists store fits) in
        let more = raises.higher in
        absurd (no_room (height_of store) (height_of (published p raises.task store)) (store_limit p) near high more)
  ]
    where
      no_room : (a b limit : ℕ) → limit ≤ zero + a → b ≤ limit → a < b → ⊥
      no_room a b limit near high more = omega (arith, near, high, more)
  ends_within (suc room) store earlier history near = elim (raises_or_flat store p.tasks) [
    | inr flat ↦ flat_ends store earlier history flat
    | inl raises ↦
        ends_within room (published p raises.task store) (store ∷ earlier)
        (then_published p raises.task raises.exists store earlier history)
        (nearer_by_one (height_of store) (height_of (published p raises.task store)) (store_limit p) near raises.higher)
  ]
    where
      nearer_by_one : (a b limit : ℕ) → limit ≤ suc room + a → a < b → limit ≤ room + b
      nearer_by_one a b limit near more = omega (arith, near, more)

  pub ends : EndsIn p
  ends = ends_within (store_limit p) no_interference [] refl (at_most (store_limit p) (height_of no_interference))
    where
      at_most : (a b : ℕ) → a ≤ a + b
      at_most a b = omega arith
