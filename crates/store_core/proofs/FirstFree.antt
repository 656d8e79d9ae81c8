-- The search of the next task, slot by slot.
use Rattle.std.proofs.Common.{◌≡◌, ◌⊎◌, ℕ, ◌+◌, ◌<◌, ◌≤◌, true, false, List, get_or, Option, Some, None, sym, ap, subst, ◌∙◌, inl, inr, arith}
use Rattle.std.specs.Prelude.{IfSome, IfNone}
use Rattle.std.proofs.lemmas.Bool.{cases_Bool, cases_eq, true≢false}
use Rattle.store_core.specs.declared.slots.Slot.{Slot}
use Rattle.store_core.specs.Turns.{unread_from}

module _ {K : Type 0} (slots : List (Slot K)) (version : ℕ) where
  -- the slot of a task that is neither lent nor settled
  -- what was found among the tasks below this one
  abbrev pub IsFound : Option ℕ → ℕ → Type 0
  IsFound first below =
      IfSome first (λ task. (task < below) × ((d : Slot K) → (get_or slots task d).lent ≡ false)
      × ((d : Slot K) → (get_or slots task d).seen ≡ Some version → ⊥))
      × IfSome first (λ task. (k : ℕ) (d : Slot K) → k < below
      → (get_or slots k d).lent ≡ false → ((get_or slots k d).seen ≡ Some version → ⊥)
      → (unread_from (get_or slots task d).seen ≤ unread_from (get_or slots k d).seen)
      × (unread_from (get_or slots k d).seen ≡ unread_from (get_or slots task d).seen → task ≤ k))
      × IfNone first ((k : ℕ) (d : Slot K) → k < below
      → ((get_or slots k d).lent ≡ true) ⊎ ((get_or slots k d).seen ≡ Some version))

  below_or_is : (k task : ℕ) → k < task + 1 → (k < task) ⊎ (task ≡ k)
  below_or_is k task lt = elim (cases_eq task k) [ inl same ↦ inr same | inr differ ↦ inl (omega (arith, lt, differ)) ]

  -- a free task that comes before what was found
  pub found_here : (first : Option ℕ) (task : ℕ) → IsFound first task
      → ((d : Slot K) → (get_or slots task d).lent ≡ false) → ((d : Slot K) → (get_or slots task d).seen ≡ Some version → ⊥)
      → ((d : Slot K) → IfSome first (λ other. unread_from (get_or slots task d).seen < unread_from (get_or slots other d).seen))
      → IsFound (Some task) (task + 1)
  found_here None task found free unseen older = (
    (omega arith, free, unseen),
    λ k d lt free' unseen'. elim (below_or_is k task lt) [
      | inl below ↦ absurd (elim (found.2 k d below) [ inl lent ↦ true≢false (sym lent ∙ free') | inr seen ↦ unseen' seen ])
      | inr same ↦ subst (λ n. (unread_from (get_or slots task d).seen ≤ unread_from (get_or slots n d).seen) × (unread_from (get_or slots n d).seen ≡ unread_from (get_or slots task d).seen → task ≤ n)) same (omega arith, λ e. omega arith)
    ],
    tt,
  )
  found_here (Some other) task found free unseen older = (
    (omega arith, free, unseen),
    λ k d lt free' unseen'. elim (below_or_is k task lt) [
      | inl below ↦
          let ahead = found.1 k d below free' unseen' in
          let le = ahead.0 in
          let less = older d in
          (omega (arith, le, less), λ e. absurd (omega (arith, le, less, e)))
      | inr same ↦ subst (λ n. (unread_from (get_or slots task d).seen ≤ unread_from (get_or slots n d).seen) × (unread_from (get_or slots n d).seen ≡ unread_from (get_or slots task d).seen → task ≤ n)) same (omega arith, λ e. omega arith)
    ],
    tt,
  )

  -- a task that does not come before what was found
  pub found_before : (first : Option ℕ) (task : ℕ) → IsFound first task
      → ((d : Slot K) → IfSome first (λ other. unread_from (get_or slots task d).seen < unread_from (get_or slots other d).seen) → ⊥)
      → (d : Slot K) → IsFound first (task + 1)
  found_before None task found younger d = absurd (younger d tt)
  found_before (Some other) task found younger d = (
    (omega (arith, found.0.0), found.0.1, found.0.2),
    λ k d lt free unseen. elim (below_or_is k task lt) [
      | inl below ↦ found.1 k d below free unseen
      | inr same ↦
          let not_less = younger d in
          subst (λ n. (unread_from (get_or slots other d).seen ≤ unread_from (get_or slots n d).seen) × (unread_from (get_or slots n d).seen ≡ unread_from (get_or slots other d).seen → other ≤ n)) same
          (omega (arith, not_less), λ e. omega (arith, found.0.0))
    ],
    tt,
  )

  -- a task that is not free
  pub found_past : (first : Option ℕ) (task : ℕ) → IsFound first task
      → ((d : Slot K) → ((get_or slots task d).lent ≡ false) × ((get_or slots task d).seen ≡ Some version → ⊥) → ⊥)
      → IsFound first (task + 1)
  found_past None task found taken = (
    tt,
    tt,
    λ k d lt. elim (below_or_is k task lt) [
      | inl below ↦ found.2 k d below
      | inr same ↦ subst (λ n. ((get_or slots n d).lent ≡ true) ⊎ ((get_or slots n d).seen ≡ Some version)) same (either (get_or slots task d) (taken d))
    ],
  )
    where
      either : (slot : Slot K) → ((slot.lent ≡ false) × (slot.seen ≡ Some version → ⊥) → ⊥) → (slot.lent ≡ true) ⊎ (slot.seen ≡ Some version)
      either slot taken = elim (cases_Bool slot.lent) [
        | inl lent ↦ inl lent
        | inr free ↦ inr (seen_of slot.seen (λ unseen. taken (free, unseen)))
      ]
        where
          seen_of : (seen : Option ℕ) → ((seen ≡ Some version → ⊥) → ⊥) → seen ≡ Some version
          seen_of None not = absurd (not (λ e. let clash : None ≡ Some version = e in cc))
          seen_of (Some v) not = elim (cases_eq v version) [
            | inl same ↦ ap Some same
            | inr differ ↦ absurd (not (λ e. differ (let one : Some v ≡ Some version = e in cc)))
          ]
  found_past (Some other) task found taken = (
    (omega (arith, found.0.0), found.0.1, found.0.2),
    λ k d lt free unseen. elim (below_or_is k task lt) [
      | inl below ↦ found.1 k d below free unseen
      | inr same ↦ absurd (taken d (subst (λ n. (get_or slots n d).lent ≡ false) (sym same) free, λ seen. unseen (subst (λ n. (get_or slots n d).seen ≡ Some version) same seen)))
    ],
    tt,
  )
