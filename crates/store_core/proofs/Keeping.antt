-- How the core's fields follow its history.
use Rattle.std.proofs.Common.{◌≡◌, ◌⊎◌, ℕ, zero, suc, ◌+◌, ◌<◌, ◌≤◌, Bool, true, false, ◌==◌, List, [], ◌∷◌, ◌++◌, map, reverse, length, get_or, set, Option, Some, None, refl, sym, ap, subst, ◌∙◌, inl, inr, arith}
use Rattle.std.specs.Prelude.{unwrap_or, IfSome, slice_get, ◌↔◌, not, if◌then◌else◌}
use Rattle.std.proofs.lemmas.Bool.{eqb-false, eq-eqb, ne_eqb, cond-true, cond-false, cases_Bool, cases_eq, false≢true, true≢false}
use Rattle.std.proofs.lemmas.List.{map-set, map-append, reverse-append, length-set, get_or-set_same, get_or-set_other}
use Rattle.tm_lattice.specs.declared.lattices.Lattice as lattice
use Rattle.tm_lattice.specs.declared.passers.Passer as passer
use Rattle.store_core.specs.declared.slots.Slot.{Slot}
use Rattle.store_core.specs.Histories.{Event, Read, Publish, Past, version_of, lent_to, IsLent, is_settled, IsQuiet, with_added, store_of, store_at, MayRead, Rises, MayPublish, IsLegal}
use Rattle.store_core.specs.declared.events.Event as code
use Rattle.store_core.specs.Events.{plain_event, past_of}
use Rattle.store_core.specs.Cores.{Lent}
use Rattle.store_core.specs.KeptValues.{last_read, KeptAfter, IsKept, IsKeptNow}
use Rattle.store_core.specs.reading.Slots.{loan_at, IsSlot, IsCore}
use Rattle.store_core.specs.Turns.{unread_from, IsNextTask}
use Rattle.store_core.proofs.Pasts.{some_pair, none_some, loan_of, one_lender, present_at, stays_at, not_ahead, last_published, settled_last, published_exists}

-- one more event
pub past_push : {P S M : Type 0} (events : List (code.Event P S M)) (e : code.Event P S M) → past_of (events ++ e ∷ []) ≡ plain_event e ∷ past_of events
past_push events e = ap reverse (map-append plain_event events (e ∷ [])) ∙ reverse-append (map plain_event events) (plain_event e ∷ [])

module _ {P S M K : Type 0} (store : lattice.Ghosts S M) (passer : passer.Ghosts P S M) (made : P → ℕ → K → Type 0) (made_over : K → S) (program : P) where
  abbrev Legal : ℕ → Past S → Type 0
  Legal workers past = IsLegal store passer program workers past

  abbrev Kept : Past S → ℕ → Option ℕ → Option K → Type 0
  Kept past task seen kept = KeptAfter store passer made made_over program past task seen kept

  abbrev Here : Past S → ℕ → Slot K → Type 0
  Here past task slot = IsSlot store passer made made_over program past task slot

  abbrev Loan : Past S → Option (ℕ × ℕ) → Option (Lent P S K)
  Loan past lent = loan_at store passer made made_over program past lent

  -- what stands at an earlier version stays
  kept_on : (workers : ℕ) (e : Event S) (past : Past S) (task : ℕ) (seen : Option ℕ) (kept : Option K) → Legal workers (e ∷ past) → ((v : ℕ) → seen ≡ Some v → v ≤ version_of past) → Kept past task seen kept → Kept (e ∷ past) task seen kept
  kept_on workers e past task None kept legal le h = h
  kept_on workers e past task (Some v) None legal le h = h
  kept_on workers e past task (Some v) (Some k) legal le h = (h.0, h.1 ∙ sym (stays_at store passer program workers e past v legal (le v refl)))

  seen_behind : (workers : ℕ) (past : Past S) (task : ℕ) → Legal workers past → (v : ℕ) → last_read past task ≡ Some v → v ≤ version_of past
  seen_behind workers past task legal v last = not_ahead store passer program workers past task v legal (last_published store passer program past task v last)

  loan_on : (workers : ℕ) (e : Event S) (past : Past S) (who : ℕ) (lent : Option (ℕ × ℕ)) → Legal workers (e ∷ past) → lent_to past who ≡ lent → Loan past lent ≡ Loan (e ∷ past) lent
  loan_on workers e past who None legal is = refl
  loan_on workers e past who (Some (t, v)) legal is =
      let loan = loan_of store passer program workers past who t v legal.1 is in
      ap (λ s. Some (record { program = program; task = t; version = v; store = s; kept = None })) (sym (stays_at store passer program workers e past v legal loan.not_ahead))

  -- a loan of another worker
  same_loan : (workers : ℕ) (e : Event S) (past : Past S) (who : ℕ) → Legal workers (e ∷ past) → lent_to (e ∷ past) who ≡ lent_to past who → Loan past (lent_to past who) ≡ Loan (e ∷ past) (lent_to (e ∷ past) who)
  same_loan workers e past who legal same = loan_on workers e past who (lent_to past who) legal refl ∙ ap (λ o. Loan (e ∷ past) o) (sym same)

  -- a slot of another task
  same_slot : (workers : ℕ) (e : Event S) (past : Past S) (task : ℕ) (slot : Slot K) → Legal workers (e ∷ past)
      → (IsLent past task → IsLent (e ∷ past) task) → (IsLent (e ∷ past) task → IsLent past task) → last_read (e ∷ past) task ≡ last_read past task
      → Here past task slot → Here (e ∷ past) task slot
  same_slot workers e past task slot legal there back last h = record {
    lent = λ is. there (h.lent is);
    free = λ is lent. h.free is (back lent);
    seen = h.seen ∙ sym last;
    gone = h.gone;
    kept = λ is. kept_on workers e past task slot.seen slot.kept legal (λ v same. seen_behind workers past task legal.1 v (sym h.seen ∙ same)) (h.kept is);
  }

  -- after a task was lent
  pub core_read : (workers : ℕ) (past : Past S) (present : S) (version : ℕ) (loans : List (Option (Lent P S K))) (slots : List (Slot K)) (worker task : ℕ) (loan : Lent P S K) (slot : Slot K)
      → IsCore store passer made made_over program workers past present version loans slots
      → MayRead store passer program workers past worker task version
      → loan ≡ record { program = program; task = task; version = version; store = present; kept = None }
      → slot.lent ≡ true → slot.kept ≡ None → slot.seen ≡ last_read past task
      → IsCore store passer made made_over program workers (Read worker task version ∷ past) present version (set loans worker (Some loan)) (set slots task slot)
  core_read workers past present version loans slots worker task loan slot core may loan_is lent gone seen =
      let e : Event S = Read worker task version in
      let legal : Legal workers (e ∷ past) = (may, core.legal) in
      record {
        is_program = core.is_program;
        tasks_fit = core.tasks_fit;
        loan_count = length-set loans worker (Some loan) ∙ core.loan_count;
        slot_count = length-set slots task slot ∙ core.slot_count;
        legal = legal;
        store_is = core.store_is;
        version_is = core.version_is;
        loans_are = λ who d lt. elim (cases_eq worker who) [
          | inl same ↦
              let here : get_or (set loans worker (Some loan)) who d ≡ Some loan = ap (λ n. get_or (set loans worker (Some loan)) n d) (sym same) ∙ get_or-set_same loans worker (Some loan) d (omega (arith, core.loan_count, may.worker_exists)) in
              let at_now : store_at store passer program (e ∷ past) version ≡ present = ap (store_at store passer program (e ∷ past)) core.version_is ∙ present_at store passer program (e ∷ past) ∙ sym core.store_is in
              here ∙ ap Some loan_is ∙ ap (λ s. Some (record { program = program; task = task; version = version; store = s; kept = None })) (sym at_now)
              ∙ ap (λ o. Loan (e ∷ past) o) (sym (cond-true (worker == who) (Some (task, version)) (lent_to past who) (eq-eqb worker who same)))
          | inr differ ↦
              get_or-set_other loans worker who (Some loan) d (λ q. differ (sym q)) ∙ core.loans_are who d lt
              ∙ same_loan workers e past who legal (cond-false (worker == who) _ _ (ne_eqb worker who differ))
        ];
        slots_are = λ which d lt. elim (cases_eq task which) [
          | inl same ↦
              let here : get_or (set slots task slot) task d ≡ slot = get_or-set_same slots task slot d (omega (arith, core.slot_count, may.task_exists)) in
              let is : Here (e ∷ past) task slot = record {
                lent = λ _. record { worker = worker; version = version; by = cond-true (worker == worker) _ _ (eq-eqb worker worker refl) };
                free = λ f. absurd (true≢false (sym lent ∙ f));
                seen = seen;
                gone = λ _. gone;
                kept = λ f. absurd (true≢false (sym lent ∙ f));
              } in
              subst (λ n. Here (e ∷ past) n (get_or (set slots task slot) n d)) same (subst (Here (e ∷ past) task) (sym here) is)
          | inr differ ↦
              subst (Here (e ∷ past) which) (sym (get_or-set_other slots task which slot d (λ q. differ (sym q))))
              (same_slot workers e past which (get_or slots which d) legal
              (λ l. elim (cases_eq worker l.worker) [
                | inl same ↦ absurd (none_some (lent_to past worker) (which, l.version) may.idle (ap (lent_to past) same ∙ l.by))
                | inr other ↦ record { worker = l.worker; version = l.version; by = cond-false (worker == l.worker) _ _ (ne_eqb worker l.worker other) ∙ l.by }
              ])
              (λ l. elim (cases_Bool (worker == l.worker)) [
                | inl same ↦ absurd (differ (some_pair (lent_to (e ∷ past) l.worker) task version which l.version (cond-true (worker == l.worker) _ _ same) l.by).0)
                | inr other ↦ record { worker = l.worker; version = l.version; by = sym (cond-false (worker == l.worker) _ _ other) ∙ l.by }
              ])
              refl
              (core.slots_are which d lt))
        ];
      }

  -- after a publication
  pub core_published : (workers : ℕ) (past : Past S) (present : S) (version : ℕ) (loans : List (Option (Lent P S K))) (slots : List (Slot K)) (worker task read after : ℕ) (added new : S) (kept : K) (slot : Slot K)
      → IsCore store passer made made_over program workers past present version loans slots
      → MayPublish store passer program workers past worker task read after added
      → new ≡ with_added store passer program (store_of store passer program past) added
      → slot ≡ record { lent = false; seen = Some read; kept = Some kept }
      → made program task kept → made_over kept ≡ store_at store passer program past read
      → IsCore store passer made made_over program workers (Publish worker task read after added ∷ past) new after (set loans worker None) (set slots task slot)
  core_published workers past present version loans slots worker task read after added new kept slot core may new_is slot_is made_is over =
      let e : Event S = Publish worker task read after added in
      let legal : Legal workers (e ∷ past) = (may, core.legal) in
      let loan = loan_of store passer program workers past worker task read core.legal may.lent in
      record {
        is_program = core.is_program;
        tasks_fit = core.tasks_fit;
        loan_count = length-set loans worker None ∙ core.loan_count;
        slot_count = length-set slots task slot ∙ core.slot_count;
        legal = legal;
        store_is = new_is;
        version_is = refl;
        loans_are = λ who d lt. elim (cases_eq worker who) [
          | inl same ↦
              let here : get_or (set loans worker None) who d ≡ None = ap (λ n. get_or (set loans worker None) n d) (sym same) ∙ get_or-set_same loans worker None d (omega (arith, core.loan_count, loan.worker_exists)) in
              here ∙ ap (λ o. Loan (e ∷ past) o) (sym (cond-true (worker == who) None (lent_to past who) (eq-eqb worker who same)))
          | inr differ ↦
              get_or-set_other loans worker who None d (λ q. differ (sym q)) ∙ core.loans_are who d lt
              ∙ same_loan workers e past who legal (cond-false (worker == who) _ _ (ne_eqb worker who differ))
        ];
        slots_are = λ which d lt. elim (cases_eq task which) [
          | inl same ↦
              let here : get_or (set slots task slot) task d ≡ record { lent = false; seen = Some read; kept = Some kept } = get_or-set_same slots task slot d (omega (arith, core.slot_count, loan.task_exists)) ∙ slot_is in
              let is : Here (e ∷ past) task (record { lent = false; seen = Some read; kept = Some kept }) = record {
                lent = λ t. absurd (false≢true t);
                free = λ f l. elim (cases_Bool (worker == l.worker)) [
                  | inl same' ↦ absurd (none_some (lent_to (e ∷ past) l.worker) (task, l.version) (cond-true (worker == l.worker) _ _ same') l.by)
                  | inr other ↦ absurd (eqb-false worker l.worker other (one_lender store passer program workers past worker l.worker task read l.version core.legal may.lent (sym (cond-false (worker == l.worker) _ _ other) ∙ l.by)))
                ];
                seen = sym (cond-true (task == task) _ _ (eq-eqb task task refl));
                gone = λ t. absurd (false≢true t);
                kept = λ f. (made_is, over ∙ sym (stays_at store passer program workers e past read legal loan.not_ahead));
              } in
              subst (λ n. Here (e ∷ past) n (get_or (set slots task slot) n d)) same (subst (Here (e ∷ past) task) (sym here) is)
          | inr differ ↦
              subst (Here (e ∷ past) which) (sym (get_or-set_other slots task which slot d (λ q. differ (sym q))))
              (same_slot workers e past which (get_or slots which d) legal
              (λ l. elim (cases_eq worker l.worker) [
                | inl same ↦ absurd (differ (some_pair (lent_to past worker) task read which l.version may.lent (ap (lent_to past) same ∙ l.by)).0)
                | inr other ↦ record { worker = l.worker; version = l.version; by = cond-false (worker == l.worker) _ _ (ne_eqb worker l.worker other) ∙ l.by }
              ])
              (λ l. elim (cases_Bool (worker == l.worker)) [
                | inl same ↦ absurd (none_some (lent_to (e ∷ past) l.worker) (which, l.version) (cond-true (worker == l.worker) _ _ same) l.by)
                | inr other ↦ record { worker = l.worker; version = l.version; by = sym (cond-false (worker == l.worker) _ _ other) ∙ l.by }
              ])
              (cond-false (task == which) _ _ (ne_eqb task which differ))
              (core.slots_are which d lt))
        ];
      }

  -- a task that is not lent has what its last pass kept, over an earlier store
  pub kept_below : (past : Past S) (task : ℕ) (slot : Slot K) (present : S) → Here past task slot → (IsLent past task → ⊥) → ((v : ℕ) → passer.fits program (store_at store passer program past v)) → ((v : ℕ) → store.leq (store_at store passer program past v) present)
      → IfSome slot.kept (λ k. made program task k × passer.fits program (made_over k) × store.leq (made_over k) present)
  kept_below past task slot present is not_lent fits below =
      let free : slot.lent ≡ false = elim (cases_Bool slot.lent) [ inl t ↦ absurd (not_lent (is.lent t)) | inr f ↦ f ] in
      under slot.seen slot.kept (is.kept free)
    where
      under : (seen : Option ℕ) (kept : Option K) → Kept past task seen kept → IfSome kept (λ k. made program task k × passer.fits program (made_over k) × store.leq (made_over k) present)
      under None None h = tt
      under None (Some k) h = let e : Some k ≡ None = h in cc
      under (Some v) None h = tt
      under (Some v) (Some k) h = (h.0, subst (passer.fits program) (sym h.1) (fits v), subst (λ s. store.leq s present) (sym h.1) (below v))

  pub quiet_now : (workers : ℕ) (past : Past S) (task : ℕ) (kept : Option K) → Legal workers past → IsQuiet (passer.task_count program) past → task < passer.task_count program
      → IsKept store passer made made_over program past task kept → IsKeptNow store passer made made_over program past task kept
  quiet_now workers past task kept legal quiet exists is =
      let last = settled_last store passer program workers past task legal (quiet.settled task exists) in
      under kept (subst (λ seen. Kept past task seen kept) last (is.here (quiet.none_lent task exists)))
    where
      under : (kept : Option K) → Kept past task (Some (version_of past)) kept → IsKeptNow store passer made made_over program past task kept
      under None h = absurd h
      under (Some k) h = record { what = k; is = refl; made_is = h.0; over = h.1 ∙ present_at store passer program past }

  nothing : Slot K
  nothing = record { lent = false; seen = None; kept = None }

  module _ (workers : ℕ) (past : Past S) (present : S) (version : ℕ) (loans : List (Option (Lent P S K))) (slots : List (Slot K)) (core : IsCore store passer made made_over program workers past present version loans slots) where
    as_lent : (o : Option (ℕ × ℕ)) (l : Lent P S K) → Loan past o ≡ Some l → o ≡ Some (l.task, l.version)
    as_lent None l is = let e : None ≡ Some l = is in cc
    as_lent (Some (t, v)) l is =
        let given : Lent P S K = record { program = program; task = t; version = v; store = store_at store passer program past v; kept = None } in
        let e : Some given ≡ Some l = is in
        let same : given ≡ l = ap (λ o. unwrap_or o given) e in
        λ i. Some ((same i).task, (same i).version)

    as_idle : (o : Option (ℕ × ℕ)) → Loan past o ≡ None → o ≡ None
    as_idle None is = refl
    as_idle (Some (t, v)) is =
        let given : Lent P S K = record { program = program; task = t; version = v; store = store_at store passer program past v; kept = None } in
        let e : Some given ≡ None = is in cc

    pub lent_at : (worker : ℕ) (d : Option (Lent P S K)) (l : Lent P S K) → worker < workers → get_or loans worker d ≡ Some l → lent_to past worker ≡ Some (l.task, l.version)
    lent_at worker d l lt is = as_lent (lent_to past worker) l (sym (core.loans_are worker d lt) ∙ is)

    pub idle_at : (worker : ℕ) (d : Option (Lent P S K)) → worker < workers → get_or loans worker d ≡ None → lent_to past worker ≡ None
    idle_at worker d lt is = as_idle (lent_to past worker) (sym (core.loans_are worker d lt) ∙ is)

    seen_settled : (task : ℕ) (d : Slot K) → task < passer.task_count program → (get_or slots task d).seen ≡ Some version → is_settled past task ≡ true
    seen_settled task d lt is = last_published store passer program past task (version_of past) (sym (core.slots_are task d lt).seen ∙ is ∙ ap Some core.version_is)

    settled_seen : (task : ℕ) (d : Slot K) → task < passer.task_count program → is_settled past task ≡ true → (get_or slots task d).seen ≡ Some version
    settled_seen task d lt is = (core.slots_are task d lt).seen ∙ settled_last store passer program workers past task core.legal is ∙ ap Some (sym core.version_is)

    pub idle_outside : (worker : ℕ) → workers ≤ worker → lent_to past worker ≡ None
    idle_outside worker le = outside (lent_to past worker) refl
      where
        outside : (o : Option (ℕ × ℕ)) → lent_to past worker ≡ o → o ≡ None
        outside None is = refl
        outside (Some (t, v)) is = let loan = loan_of store passer program workers past worker t v core.legal is in absurd (omega (arith, le, loan.worker_exists))

    pub free_loud : (task : ℕ) → (task < length slots) × ((d : Slot K) → (get_or slots task d).lent ≡ false) × ((d : Slot K) → (get_or slots task d).seen ≡ Some version → ⊥)
        → IsQuiet (passer.task_count program) past → ⊥
    free_loud task free quiet =
        let exists : task < passer.task_count program = omega (arith, free.0, core.slot_count) in
        free.2 nothing (settled_seen task nothing exists (quiet.settled task exists))

    pub kept_here : (task : ℕ) (d : Slot K) → task < length slots → IsKept store passer made made_over program past task (get_or slots task d).kept
    kept_here task d lt =
        let exists : task < passer.task_count program = omega (arith, lt, core.slot_count) in
        let slot = core.slots_are task d exists in
        record {
          gone = λ lent. elim (cases_Bool (get_or slots task d).lent) [ inl t ↦ slot.gone t | inr f ↦ absurd (slot.free f lent) ];
          here = λ not_lent. elim (cases_Bool (get_or slots task d).lent) [
            | inl t ↦ absurd (not_lent (slot.lent t))
            | inr f ↦ subst (λ seen. Kept past task seen (get_or slots task d).kept) slot.seen (slot.kept f)
          ];
        }

    pub kept_outside : (task : ℕ) → length slots ≤ task → IsKept store passer made made_over program past task None
    kept_outside task le = record {
      gone = λ lent. refl;
      here = λ not_lent. under (last_read past task) refl;
    }
      where
        under : (seen : Option ℕ) → last_read past task ≡ seen → Kept past task seen None
        under None is = refl
        under (Some v) is =
            let exists = published_exists store passer program workers past task v core.legal (last_published store passer program past task v is) in
            absurd (omega (arith, exists, le, core.slot_count))

    pub free_task : (worker task : ℕ) → worker < workers → lent_to past worker ≡ None
        → (task < length slots) × ((d : Slot K) → (get_or slots task d).lent ≡ false) × ((d : Slot K) → (get_or slots task d).seen ≡ Some version → ⊥)
        → MayRead store passer program workers past worker task (version_of past)
    free_task worker task lt idle free =
        let exists : task < passer.task_count program = omega (arith, free.0, core.slot_count) in
        record {
          worker_exists = lt;
          task_exists = exists;
          idle = idle;
          not_lent = (core.slots_are task nothing exists).free (free.1 nothing);
          unsettled = elim (cases_Bool (is_settled past task)) [ inl t ↦ absurd (free.2 nothing (settled_seen task nothing exists t)) | inr f ↦ f ];
          present = refl;
        }

    pub next_task : (task : ℕ) → task < length slots
        → ((other : ℕ) (d : Slot K) → other < length slots → (get_or slots other d).lent ≡ false
        → ((get_or slots other d).seen ≡ Some version → ⊥)
        → (unread_from (get_or slots task d).seen ≤ unread_from (get_or slots other d).seen)
        × (unread_from (get_or slots other d).seen ≡ unread_from (get_or slots task d).seen → task ≤ other))
        → IsNextTask (passer.task_count program) past task
    next_task task within first =
        let exists : task < passer.task_count program = omega (arith, within, core.slot_count) in
        let seen = λ (which : ℕ) (lt : which < passer.task_count program).
        ap unread_from (core.slots_are which nothing lt).seen in
        let each = λ (other : ℕ) (lt : other < passer.task_count program) (not_lent : IsLent past other → ⊥)
        (unsettled : is_settled past other ≡ false).
        first other nothing (omega (arith, lt, core.slot_count))
        (elim (cases_Bool (get_or slots other nothing).lent) [
          | inl t ↦ absurd (not_lent ((core.slots_are other nothing lt).lent t))
          | inr f ↦ f
        ])
        (λ now. false≢true (sym unsettled ∙ seen_settled other nothing lt now)) in
        record {
          oldest = λ other lt not_lent unsettled.
              subst (λ n. n ≤ unread_from (last_read past other)) (seen task exists)
              (subst (λ n. unread_from (get_or slots task nothing).seen ≤ n) (seen other lt)
              (each other lt not_lent unsettled).0);
          lowest = λ other lt not_lent unsettled same.
              (each other lt not_lent unsettled).1 (seen other lt ∙ same ∙ sym (seen task exists));
        }

    pub unsettled_lent : ((task : ℕ) (d : Slot K) → task < length slots → ((get_or slots task d).lent ≡ true) ⊎ ((get_or slots task d).seen ≡ Some version))
        → (task : ℕ) → task < passer.task_count program → is_settled past task ≡ false → IsLent past task
    unsettled_lent none task lt unsettled = elim (none task nothing (omega (arith, lt, core.slot_count))) [
      | inl lent ↦ (core.slots_are task nothing lt).lent lent
      | inr seen ↦ absurd (false≢true (sym unsettled ∙ seen_settled task nothing lt seen))
    ]

    pub lent_loud : (task : ℕ) × (task < length slots) × ((d : Slot K) → (get_or slots task d).lent ≡ true) → IsQuiet (passer.task_count program) past → ⊥
    lent_loud some quiet =
        let exists : some.0 < passer.task_count program = omega (arith, some.1, core.slot_count) in
        quiet.none_lent some.0 exists ((core.slots_are some.0 nothing exists).lent (some.2 nothing))

    pub all_quiet : ((task : ℕ) (d : Slot K) → task < length slots → ((get_or slots task d).lent ≡ true) ⊎ ((get_or slots task d).seen ≡ Some version))
        → ((task : ℕ) (d : Slot K) → task < length slots → (get_or slots task d).lent ≡ false)
        → IsQuiet (passer.task_count program) past
    all_quiet none idle = record {
      settled = λ task lt.
          let within : task < length slots = omega (arith, lt, core.slot_count) in
          elim (none task nothing within) [
            | inl lent ↦ absurd (true≢false (sym lent ∙ idle task nothing within))
            | inr seen ↦ seen_settled task nothing lt seen
          ];
      none_lent = λ task lt. (core.slots_are task nothing lt).free (idle task nothing (omega (arith, lt, core.slot_count)));
    }

  -- whether the store changed, by a test of the order
  pub risen : (b : Bool) (after version : ℕ) (old new : S) → ((b ≡ true) ↔ store.leq new old) → (store.leq new old ↔ (new ≡ old)) → after ≡ (if not b then version + 1 else version)
      → Rises store passer program version after old new × (not b ≡ not (after == version))
  risen true after version old new tells same is = (record { cases = inl (is, same.0 (tells.0 refl)) }, ap not (sym (eq-eqb after version is)))
  risen false after version old new tells same is =
      (record { cases = inr (is, λ e. false≢true (tells.1 (same.1 e))) }, ap not (sym (ne_eqb after version (λ e. omega (arith, e, is)))))

pub kept_in : {K : Type 0} (slots : List (Slot K)) (task : ℕ) (d : Slot K) → task < length slots → slice_get (map (λ (s : Slot K). s.kept) slots) task ≡ Some (get_or slots task d).kept
kept_in [] task d lt = absurd (omega arith)
kept_in (s ∷ slots) zero d lt = refl
kept_in (s ∷ slots) (suc task) d lt = kept_in slots task d (omega arith)

pub kept_set : {K : Type 0} (slots : List (Slot K)) (task : ℕ) (s : Slot K) → map (λ (s : Slot K). s.kept) (set slots task s) ≡ set (map (λ (s : Slot K). s.kept) slots) task s.kept
kept_set {K = K} slots task s = map-set (λ (s : Slot K). s.kept) slots task s
