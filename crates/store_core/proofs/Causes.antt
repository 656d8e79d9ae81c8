-- Each call of the core has one answer.
use Rattle.std.proofs.Common.{◌≡◌, ◌≢◌, ℕ, ◌<◌, ◌≤◌, Bool, false, ◌∷◌, None, Some, Result, Ok, Err, refl, sym, ap, ◌∙◌, inl, inr, arith}
use Rattle.std.specs.Prelude.{not, ◌==◌, set, slice_get, unwrap_or}
use Rattle.std.proofs.lemmas.Bool.{true≢false}
use Rattle.tm_lattice.specs.declared.lattices.Lattice as lattice
use Rattle.tm_lattice.specs.declared.passers.Passer as passer
use Rattle.tm_lattice.specs.declared.memory.NoMemory as memory
use Rattle.store_core.specs.declared.outcomes.Taken.{Taken}
use Rattle.store_core.specs.declared.outcomes.Taken.TheVariants.{Next, Holding, Others, AllQuiet}
use Rattle.store_core.specs.declared.outcomes.Refused.{Refused}
use Rattle.store_core.specs.declared.outcomes.Refused.TheVariants.{NotLent, Stranger, NoMemory}
use Rattle.store_core.specs.declared.outcomes.Grew.{Grew}
use Rattle.store_core.specs.Histories.{Read, Publish, Past, version_of, IsLent, is_settled, store_at, Rises}
use Rattle.store_core.specs.KeptValues.{last_read}
use Rattle.store_core.specs.Turns.{unread_from, IsNextTask}
use Rattle.store_core.specs.Cores.{Lent, Brought, Core}
use Rattle.store_core.specs.Answers.{LendsFreeTask, IsGrown, IsStranger}
use Rattle.store_core.specs.Outcomes.{Takes, Publishes}
use Rattle.store_core.proofs.Pasts.{some_pair, none_some}

module _ {P S M : Type 0} (store : lattice.Ghosts S M) (passer : passer.Ghosts P S M) where
  -- a store changes or not, so the version after it is determined
  one_version : (program : P) (before one other : ℕ) (old new : S) → Rises store passer program before one old new → Rises store passer program before other old new → one ≡ other
  one_version program before one other old new first second = elim first.cases [
    | inl same ↦ elim second.cases [
      | inl same' ↦ same.0 ∙ sym same'.0
      | inr more ↦ absurd (more.1 same.1)
    ]
    | inr more ↦ elim second.cases [
      | inl same ↦ absurd (more.1 same.1)
      | inr more' ↦ more.0 ∙ sym more'.0
    ]
  ]

module _ {S : Type 0} where
  -- of two free tasks that may both be lent next, each comes before the other: they are one
  one_next : (tasks : ℕ) (past : Past S) (one other : ℕ) → IsNextTask tasks past one → IsNextTask tasks past other
      → one < tasks → other < tasks → (IsLent past one → ⊥) → (IsLent past other → ⊥)
      → is_settled past one ≡ false → is_settled past other ≡ false → one ≡ other
  one_next tasks past one other first second exists exists' free free' unsettled unsettled' =
      let ahead : unread_from (last_read past one) ≤ unread_from (last_read past other) =
      first.oldest other exists' free' unsettled' in
      let behind : unread_from (last_read past other) ≤ unread_from (last_read past one) =
      second.oldest one exists free unsettled in
      let same : unread_from (last_read past other) ≡ unread_from (last_read past one) = omega (arith, ahead, behind) in
      let low : one ≤ other = first.lowest other exists' free' unsettled' same in
      let high : other ≤ one = second.lowest one exists free unsettled (sym same) in
      omega (arith, low, high)

module _ {P S M K : Type 0} (store : lattice.Ghosts S M) (passer : passer.Ghosts P S M) where
  one_lent : (before one other : Core P S K) (worker : ℕ) (l m : Lent P S K)
      → LendsFreeTask store passer before one worker l → LendsFreeTask store passer before other worker m
      → (l ≡ m) × (one ≡ other)
  one_lent before one other worker l m first second =
      let task : l.task ≡ m.task = one_next _ before.past l.task m.task first.next second.next first.may.task_exists
      second.may.task_exists first.may.not_lent second.may.not_lent first.may.unsettled second.may.unsettled in
      let program : l.program ≡ m.program = first.program ∙ sym second.program in
      let version : l.version ≡ m.version = first.may.present ∙ sym second.may.present in
      let over : l.store ≡ m.store = first.present ∙ sym second.present in
      let both : Some l.kept ≡ Some m.kept =
      sym first.kept ∙ ap (slice_get before.kept) task ∙ second.kept in
      let kept : l.kept ≡ m.kept = ap (λ o. unwrap_or o l.kept) both in
      let end : (task version : ℕ) → Core P S K = λ task version. record before {
        past = Read worker task version ∷ before.past;
        kept = set before.kept task None;
      } in (
        λ i. record { program = program i; task = task i; version = version i; store = over i; kept = kept i },
        first.new ∙ (λ i. end (task i) (version i)) ∙ sym second.new,
      )

  pub one_taken : (before one other : Core P S K) (worker : ℕ) (a b : Result (Taken P K S M) memory.NoMemory)
      → Takes store passer before one worker a → ((none : memory.NoMemory) → a ≢ Err none)
      → Takes store passer before other worker b → ((none : memory.NoMemory) → b ≢ Err none)
      → (a ≡ b) × (one ≡ other)
  one_taken before one other worker (Err none) b first is second is' = absurd (is none refl)
  one_taken before one other worker (Ok (Next l)) (Err none) first is second is' = absurd (is' none refl)
  one_taken before one other worker (Ok (Next l)) (Ok (Next m)) first is second is' =
      let both = one_lent before one other worker l m first second in
      (ap (λ l. Ok (Next l)) both.0, both.1)
  one_taken before one other worker (Ok (Next l)) (Ok (Holding t)) first is second is' =
      absurd (none_some _ _ first.may.idle second.lent)
  one_taken before one other worker (Ok (Next l)) (Ok Others) first is second is' =
      absurd (first.may.not_lent (second.lent l.task first.may.task_exists first.may.unsettled))
  one_taken before one other worker (Ok (Next l)) (Ok AllQuiet) first is second is' =
      absurd (true≢false (sym (second.quiet.settled l.task first.may.task_exists) ∙ first.may.unsettled))
  one_taken before one other worker (Ok (Holding t)) (Err none) first is second is' = absurd (is' none refl)
  one_taken before one other worker (Ok (Holding t)) (Ok (Next m)) first is second is' =
      absurd (none_some _ _ second.may.idle first.lent)
  one_taken before one other worker (Ok (Holding t)) (Ok (Holding u)) first is second is' = (
    ap (λ t. Ok (Holding t)) (some_pair _ t first.version u second.version first.lent second.lent).0,
    first.same ∙ sym second.same,
  )
  one_taken before one other worker (Ok (Holding t)) (Ok Others) first is second is' =
      absurd (none_some _ _ second.idle first.lent)
  one_taken before one other worker (Ok (Holding t)) (Ok AllQuiet) first is second is' =
      absurd (none_some _ _ second.idle first.lent)
  one_taken before one other worker (Ok Others) (Err none) first is second is' = absurd (is' none refl)
  one_taken before one other worker (Ok Others) (Ok (Next m)) first is second is' =
      absurd (second.may.not_lent (first.lent m.task second.may.task_exists second.may.unsettled))
  one_taken before one other worker (Ok Others) (Ok (Holding u)) first is second is' =
      absurd (none_some _ _ first.idle second.lent)
  one_taken before one other worker (Ok Others) (Ok Others) first is second is' =
      (refl, first.same ∙ sym second.same)
  one_taken before one other worker (Ok Others) (Ok AllQuiet) first is second is' = absurd (first.loud second.quiet)
  one_taken before one other worker (Ok AllQuiet) (Err none) first is second is' = absurd (is' none refl)
  one_taken before one other worker (Ok AllQuiet) (Ok (Next m)) first is second is' =
      absurd (true≢false (sym (first.quiet.settled m.task second.may.task_exists) ∙ second.may.unsettled))
  one_taken before one other worker (Ok AllQuiet) (Ok (Holding u)) first is second is' =
      absurd (none_some _ _ first.idle second.lent)
  one_taken before one other worker (Ok AllQuiet) (Ok Others) first is second is' = absurd (second.loud first.quiet)
  one_taken before one other worker (Ok AllQuiet) (Ok AllQuiet) first is second is' =
      (refl, first.same ∙ sym second.same)

  one_grown : (before one other : Core P S K) (worker : ℕ) (brought : Brought P S K) (a b : Grew) → IsGrown store passer before one worker brought a.version a.raised → IsGrown store passer before other worker brought b.version b.raised → (a ≡ b) × (one ≡ other)
  one_grown before one other worker brought a b first second =
      let read : first.read ≡ second.read = (some_pair _ brought.task first.read brought.task second.read first.may.lent second.may.lent).1 in
      let version : a.version ≡ b.version = one_version store passer before.program (version_of before.past) a.version b.version _ _ first.may.rises second.may.rises in
      let raised : a.raised ≡ b.raised = first.raised_is ∙ ap (λ v. not (v == version_of before.past)) version ∙ sym second.raised_is in
      let end : (read version : ℕ) → Core P S K = λ read version. record before { past = Publish worker brought.task read version brought.added ∷ before.past; kept = set before.kept brought.task (Some brought.kept) } in (
        λ i. record { version = version i; raised = raised i },
        first.new ∙ (λ i. end (read i) (version i)) ∙ sym second.new,
      )

  -- what was lent and is brought is not a stranger
  no_stranger : (before one other : Core P S K) (worker : ℕ) (brought : Brought P S K) (lent : Lent P S K) (version : ℕ) (raised : Bool) → IsGrown store passer before one worker brought version raised → IsStranger store passer before other worker lent brought → ⊥
  no_stranger before one other worker brought lent version raised grown stranger =
      let same = some_pair _ brought.task grown.read lent.task lent.version grown.may.lent stranger.is_lent in
      stranger.differ (
        stranger.program ∙ sym grown.program,
        sym same.0,
        stranger.over ∙ ap (store_at store passer before.program before.past) (sym same.1) ∙ sym grown.over,
      )

  one_stranger : (before one other : Core P S K) (worker : ℕ) (brought : Brought P S K) (l m : Lent P S K) → IsStranger store passer before one worker l brought → IsStranger store passer before other worker m brought → l ≡ m
  one_stranger before one other worker brought l m first second =
      let same = some_pair _ l.task l.version m.task m.version first.is_lent second.is_lent in
      let program : l.program ≡ m.program = first.program ∙ sym second.program in
      let over : l.store ≡ m.store = first.over ∙ ap (store_at store passer before.program before.past) same.1 ∙ sym second.over in
      let kept : l.kept ≡ m.kept = first.bare ∙ sym second.bare in
      λ i. record { program = program i; task = same.0 i; version = same.1 i; store = over i; kept = kept i }

  pub one_published : (before one other : Core P S K) (worker : ℕ) (brought : Brought P S K) (a b : Result Grew (Refused P K S M))
      → Publishes store passer before one worker brought a → a ≢ Err NoMemory → Publishes store passer before other worker brought b → b ≢ Err NoMemory → (a ≡ b) × (one ≡ other)
  one_published before one other worker brought (Ok a) (Ok b) first is second is' =
      let both = one_grown before one other worker brought a b first second in
      (ap Ok both.0, both.1)
  one_published before one other worker brought (Ok a) (Err NotLent) first is second is' = absurd (none_some _ _ second.idle first.may.lent)
  one_published before one other worker brought (Ok a) (Err (Stranger m back)) first is second is' = absurd (no_stranger before one other worker brought m a.version a.raised first second.0)
  one_published before one other worker brought (Ok a) (Err NoMemory) first is second is' = absurd (is' refl)
  one_published before one other worker brought (Err NotLent) (Ok b) first is second is' = absurd (none_some _ _ first.idle second.may.lent)
  one_published before one other worker brought (Err NotLent) (Err NotLent) first is second is' = (refl, first.same ∙ sym second.same)
  one_published before one other worker brought (Err NotLent) (Err (Stranger m back)) first is second is' = absurd (none_some _ _ first.idle second.0.is_lent)
  one_published before one other worker brought (Err NotLent) (Err NoMemory) first is second is' = absurd (is' refl)
  one_published before one other worker brought (Err (Stranger l front)) (Ok b) first is second is' = absurd (no_stranger before other one worker brought l b.version b.raised second first.0)
  one_published before one other worker brought (Err (Stranger l front)) (Err NotLent) first is second is' = absurd (none_some _ _ second.idle first.0.is_lent)
  one_published before one other worker brought (Err (Stranger l front)) (Err (Stranger m back)) first is second is' =
      let lent = one_stranger before one other worker brought l m first.0 second.0 in
      let same = first.1 ∙ sym second.1 in
      (λ i. Err (Stranger (lent i) (same i)), first.0.same ∙ sym second.0.same)
  one_published before one other worker brought (Err (Stranger l front)) (Err NoMemory) first is second is' = absurd (is' refl)
  one_published before one other worker brought (Err NoMemory) b first is second is' = absurd (is refl)
