-- What every legal past keeps.
use Rattle.std.proofs.Common.{◌≡◌, ◌↔◌, ◌⊎◌, ℕ, zero, suc, ◌<◌, ◌≤◌, Bool, true, false, ◌&&◌, ◌==◌, List, [], ◌∷◌, ◌++◌, length, Option, Some, None, refl, sym, ap, subst, ◌∙◌, inl, inr, arith}
use Rattle.std.specs.Prelude.{◌≢◌, if◌then◌else◌, All, Contains, unwrap_or}
use Rattle.std.proofs.lemmas.Bool.{or_left, eqb-true, eqb-false, eq-eqb, ne_eqb, cond_both, cond-true, cond-false, cases_Bool, false≢true, or_right, or_from, and_left, and_right, and_from, and_parts, or_cases, cases_lt}
use Rattle.std.proofs.lemmas.List.Elements.{All-nil, All-cons}
use Rattle.tm_lattice.specs.declared.lattices.Lattice as lattice
use Rattle.tm_lattice.specs.declared.passers.Passer as passer
use Rattle.tm_lattice.specs.LatticeLaws.{IsOrder, IsJoin, IsClosure}
use Rattle.tm_lattice.specs.Fitting.{IsFitting}
use Rattle.tm_lattice.specs.Rounds.{IsPublished, IsHistory, IsClosed}
use Rattle.store_core.specs.Histories.{Event, Read, Publish, Past, worker_of, version_of, lent_to, has_published, is_settled, IsQuiet, with_added, store_of, store_at, May, IsLegal, IsPassOverItsReading}
use Rattle.store_core.specs.KeptValues.{last_read}

-- the laws of the store and of one program
pub record IsLawful {P S M : Type 0} (store : lattice.Ghosts S M) (passer : passer.Ghosts P S M) (program : P) : Type 0 where
  pub order : IsOrder store.is_value store.leq
  pub join : IsJoin store.is_value store.leq store.joined
  pub closure : IsClosure store.is_value store.is_marks store.leq store.rounded
  pub fitting : IsFitting store (passer.marks_of program) (passer.task_count program) (passer.least program) (passer.passed program) (passer.fits program)

pub some_pair : (o : Option (ℕ × ℕ)) (t v u w : ℕ) → o ≡ Some (t, v) → o ≡ Some (u, w) → (t ≡ u) × (v ≡ w)
some_pair o t v u w p q =
    let e : Some (t, v) ≡ Some (u, w) = sym p ∙ q in
    (ap (λ (o : Option (ℕ × ℕ)). (unwrap_or o (t, v)).0) e, ap (λ (o : Option (ℕ × ℕ)). (unwrap_or o (t, v)).1) e)

pub none_some : (o : Option (ℕ × ℕ)) (x : ℕ × ℕ) → o ≡ None → o ≡ Some x → ⊥
none_some o x p q = let e : None ≡ Some x = sym p ∙ q in cc

module _ {P S M : Type 0} (store : lattice.Ghosts S M) (passer : passer.Ghosts P S M) (program : P) where
  abbrev Legal : ℕ → Past S → Type 0
  Legal workers past = IsLegal store passer program workers past

  abbrev now : Past S → S
  now past = store_of store passer program past

  abbrev at : Past S → ℕ → S
  at past v = store_at store passer program past v

  -- versions count events
  pub version_bound : (workers : ℕ) (past : Past S) → Legal workers past → version_of past ≤ length past
  version_bound workers [] legal = omega arith
  version_bound workers (Read w t v ∷ past) legal = let h = version_bound workers past legal.1 in omega (arith, h)
  version_bound workers (Publish w t v a x ∷ past) legal =
      let h = version_bound workers past legal.1 in
      elim legal.0.rises.cases [
        | inl same ↦ omega (arith, h, same.0)
        | inr more ↦ omega (arith, h, more.0)
      ]

  -- what a worker is lent exists, and its version is not ahead
  pub record IsLoan (workers : ℕ) (past : Past S) (who task version : ℕ) : Type 0 where
    pub worker_exists : who < workers
    pub task_exists : task < passer.task_count program
    pub not_ahead : version ≤ version_of past

  later_loan : (workers : ℕ) (past : Past S) (e : Event S) (who task version : ℕ) → version_of past ≤ version_of (e ∷ past) → IsLoan workers past who task version → IsLoan workers (e ∷ past) who task version
  later_loan workers past e who task version le loan = record {
    worker_exists = loan.worker_exists;
    task_exists = loan.task_exists;
    not_ahead = omega (arith, loan.not_ahead, le);
  }

  pub rises_on : (workers : ℕ) (past : Past S) (e : Event S) → May store passer program workers past e → version_of past ≤ version_of (e ∷ past)
  rises_on workers past (Read w t v) may = omega arith
  rises_on workers past (Publish w t v a x) may = elim may.rises.cases [
    | inl same ↦ omega (arith, same.0)
    | inr more ↦ omega (arith, more.0)
  ]

  pub loan_of : (workers : ℕ) (past : Past S) (who task version : ℕ) → Legal workers past → lent_to past who ≡ Some (task, version) → IsLoan workers past who task version
  loan_of workers [] who task version legal lent = absurd (none_some None (task, version) refl lent)
  loan_of workers (Read w t v ∷ past) who task version legal lent =
      let on = rises_on workers past (Read w t v) legal.0 in
      elim (cases_Bool (w == who)) [
        | inl here ↦
            let pair = some_pair (lent_to (Read w t v ∷ past) who) t v task version (cond-true (w == who) _ _ here) lent in
            let same = eqb-true w who here in
            record {
              worker_exists = omega (arith, same, legal.0.worker_exists);
              task_exists = omega (arith, pair.0, legal.0.task_exists);
              not_ahead = omega (arith, pair.1, legal.0.present);
            }
        | inr there ↦ later_loan workers past (Read w t v) who task version on (loan_of workers past who task version legal.1 (sym (cond-false (w == who) _ _ there) ∙ lent))
      ]
  loan_of workers (Publish w t v a x ∷ past) who task version legal lent =
      let on = rises_on workers past (Publish w t v a x) legal.0 in
      elim (cases_Bool (w == who)) [
        | inl here ↦ absurd (none_some (lent_to (Publish w t v a x ∷ past) who) (task, version) (cond-true (w == who) _ _ here) lent)
        | inr there ↦ later_loan workers past (Publish w t v a x) who task version on (loan_of workers past who task version legal.1 (sym (cond-false (w == who) _ _ there) ∙ lent))
      ]

  -- no publication is ahead of the present version
  pub none_ahead : (workers : ℕ) (past : Past S) (task v : ℕ) → Legal workers past → version_of past < v → has_published past task v ≡ false
  none_ahead workers [] task v legal lt = refl
  none_ahead workers (Read w t u ∷ past) task v legal lt = none_ahead workers past task v legal.1 lt
  none_ahead workers (Publish w t u a x ∷ past) task v legal lt =
      let on : version_of past ≤ a = rises_on workers past (Publish w t u a x) legal.0 in
      let loan = loan_of workers past w t u legal.1 legal.0.lent in
      let rest = none_ahead workers past task v legal.1 (omega (arith, on, lt)) in
      or_from (t == task && u == v) _ (and_right (t == task) (u == v) (ne_eqb u v (λ e. omega (arith, e, loan.not_ahead, on, lt)))) rest

  -- a task is lent to one worker
  pub one_lender : (workers : ℕ) (past : Past S) (one other task v u : ℕ) → Legal workers past → lent_to past one ≡ Some (task, v) → lent_to past other ≡ Some (task, u) → one ≡ other
  one_lender workers [] one other task v u legal p q = absurd (none_some None (task, v) refl p)
  one_lender workers (Read w t r ∷ past) one other task v u legal p q =
      elim (cases_Bool (w == one)) [
        | inl here ↦ elim (cases_Bool (w == other)) [
          | inl here' ↦ sym (eqb-true w one here) ∙ eqb-true w other here'
          | inr there' ↦
              let pair = some_pair (lent_to (Read w t r ∷ past) one) t r task v (cond-true (w == one) _ _ here) p in
              let q' : lent_to past other ≡ Some (task, u) = sym (cond-false (w == other) _ _ there') ∙ q in
              absurd (legal.0.not_lent (record { worker = other; version = u; by = q' ∙ ap (λ n. Some (n, u)) (sym pair.0) }))
        ]
        | inr there ↦
            let p' : lent_to past one ≡ Some (task, v) = sym (cond-false (w == one) _ _ there) ∙ p in
            elim (cases_Bool (w == other)) [
              | inl here' ↦
                  let pair = some_pair (lent_to (Read w t r ∷ past) other) t r task u (cond-true (w == other) _ _ here') q in
                  absurd (legal.0.not_lent (record { worker = one; version = v; by = p' ∙ ap (λ n. Some (n, v)) (sym pair.0) }))
              | inr there' ↦
                  one_lender workers past one other task v u legal.1 p' (sym (cond-false (w == other) _ _ there') ∙ q)
            ]
      ]
  one_lender workers (Publish w t r a x ∷ past) one other task v u legal p q =
      elim (cases_Bool (w == one)) [
        | inl here ↦ absurd (none_some (lent_to (Publish w t r a x ∷ past) one) (task, v) (cond-true (w == one) _ _ here) p)
        | inr there ↦ elim (cases_Bool (w == other)) [
          | inl here' ↦ absurd (none_some (lent_to (Publish w t r a x ∷ past) other) (task, u) (cond-true (w == other) _ _ here') q)
          | inr there' ↦
              one_lender workers past one other task v u legal.1 (sym (cond-false (w == one) _ _ there) ∙ p) (sym (cond-false (w == other) _ _ there') ∙ q)
        ]
      ]

  -- what is lent is not settled
  pub lent_unsettled : (workers : ℕ) (past : Past S) (who task v : ℕ) → Legal workers past → lent_to past who ≡ Some (task, v) → is_settled past task ≡ false
  lent_unsettled workers [] who task v legal lent = refl
  lent_unsettled workers (Read w t r ∷ past) who task v legal lent =
      elim (cases_Bool (w == who)) [
        | inl here ↦
            let pair = some_pair (lent_to (Read w t r ∷ past) who) t r task v (cond-true (w == who) _ _ here) lent in
            subst (λ n. is_settled past n ≡ false) pair.0 legal.0.unsettled
        | inr there ↦ lent_unsettled workers past who task v legal.1 (sym (cond-false (w == who) _ _ there) ∙ lent)
      ]
  lent_unsettled workers (Publish w t r a x ∷ past) who task v legal lent =
      elim (cases_Bool (w == who)) [
        | inl here ↦ absurd (none_some (lent_to (Publish w t r a x ∷ past) who) (task, v) (cond-true (w == who) _ _ here) lent)
        | inr there ↦
            let lent' : lent_to past who ≡ Some (task, v) = sym (cond-false (w == who) _ _ there) ∙ lent in
            let other : t ≡ task → ⊥ = λ e. eqb-false w who there (one_lender workers past w who task r v legal.1 (legal.0.lent ∙ ap (λ n. Some (n, r)) e) lent') in
            let rest : has_published past task a ≡ false = elim legal.0.rises.cases [
              | inl same ↦ subst (λ n. has_published past task n ≡ false) (sym same.0) (lent_unsettled workers past who task v legal.1 lent')
              | inr more ↦ none_ahead workers past task a legal.1 (omega (arith, more.0))
            ] in
            or_from (t == task && r == a) _ (and_left (t == task) (r == a) (ne_eqb t task other)) rest
      ]

  pub present_at : (past : Past S) → at past (version_of past) ≡ now past
  present_at [] = refl
  present_at (e ∷ past) = cond-true (version_of (e ∷ past) == version_of (e ∷ past)) (now (e ∷ past)) (at past (version_of (e ∷ past))) (eq-eqb _ _ refl)

  -- the store of an earlier version stays
  pub stays_at : (workers : ℕ) (e : Event S) (past : Past S) (v : ℕ) → Legal workers (e ∷ past) → v ≤ version_of past → at (e ∷ past) v ≡ at past v
  stays_at workers (Read w t r) past v legal le =
      cond_both (version_of past == v) (now past) (at past v) (λ s. s ≡ at past v) (λ e. sym (present_at past) ∙ ap (at past) (eqb-true _ _ e)) (λ _. refl)
  stays_at workers (Publish w t r a x) past v legal le =
      cond_both (a == v) (now (Publish w t r a x ∷ past)) (at past v) (λ s. s ≡ at past v)
      (λ e. elim legal.0.rises.cases [
        | inl same ↦ same.1 ∙ sym (present_at past) ∙ ap (at past) (sym same.0 ∙ eqb-true a v e)
        | inr more ↦ let e' = eqb-true a v e in absurd (omega (arith, e', more.0, le))
      ])
      (λ _. refl)

  -- one event of another worker more
  earlier_reading : (workers : ℕ) (e : Event S) (past : Past S) (who task version : ℕ) → Legal workers (e ∷ past) → worker_of e ≢ who → lent_to past who ≡ Some (task, version)
      → (since : Past S) × (before : Past S) × (past ≡ since ++ Read who task version ∷ before) × All (λ e. worker_of e ≢ who) since × (at past version ≡ now before)
      → (since : Past S) × (before : Past S) × (e ∷ past ≡ since ++ Read who task version ∷ before) × All (λ e. worker_of e ≢ who) since × (at (e ∷ past) version ≡ now before)
  earlier_reading workers e past who task version legal other lent (since, before, read, own, same) =
      let loan = loan_of workers past who task version legal.1 lent in
      (e ∷ since, before, ap (λ p. e ∷ p) read, All-cons (λ e. worker_of e ≢ who) e since other own, stays_at workers e past version legal loan.not_ahead ∙ same)

  -- the reading of what a worker is lent, with the events since then
  pub reading_of : (workers : ℕ) (past : Past S) (who task version : ℕ) → Legal workers past → lent_to past who ≡ Some (task, version)
      → (since : Past S) × (before : Past S) × (past ≡ since ++ Read who task version ∷ before) × All (λ e. worker_of e ≢ who) since × (at past version ≡ now before)
  reading_of workers [] who task version legal lent = absurd (none_some None (task, version) refl lent)
  reading_of workers (Read w t v ∷ past) who task version legal lent =
      elim (cases_Bool (w == who)) [
        | inl here ↦
            let pair = some_pair (lent_to (Read w t v ∷ past) who) t v task version (cond-true (w == who) _ _ here) lent in
            let worker = eqb-true w who here in
            let present : version_of past ≡ version = sym legal.0.present ∙ pair.1 in
            ([], past, λ i. Read (worker i) (pair.0 i) (pair.1 i) ∷ past, All-nil (λ e. worker_of e ≢ who), cond-true (version_of past == version) _ _ (eq-eqb _ _ present))
        | inr there ↦ earlier_reading workers (Read w t v) past who task version legal (eqb-false w who there) (sym (cond-false (w == who) _ _ there) ∙ lent)
            (reading_of workers past who task version legal.1 (sym (cond-false (w == who) _ _ there) ∙ lent))
      ]
  reading_of workers (Publish w t v a x ∷ past) who task version legal lent =
      elim (cases_Bool (w == who)) [
        | inl here ↦ absurd (none_some (lent_to (Publish w t v a x ∷ past) who) (task, version) (cond-true (w == who) _ _ here) lent)
        | inr there ↦ earlier_reading workers (Publish w t v a x) past who task version legal (eqb-false w who there) (sym (cond-false (w == who) _ _ there) ∙ lent)
            (reading_of workers past who task version legal.1 (sym (cond-false (w == who) _ _ there) ∙ lent))
      ]

  -- what a publication adds is the pass over the store that the same worker read
  pub publication_of : (workers worker task version after : ℕ) (added : S) (later past : Past S) → Legal workers (later ++ Publish worker task version after added ∷ past)
      → IsPassOverItsReading store passer program past worker task version added
  publication_of workers worker task version after added [] past legal =
      let found = reading_of workers past worker task version legal.1 legal.0.lent in
      record {
        since = found.0;
        before = found.1;
        read = found.2;
        own = found.3;
        is_pass = legal.0.is_pass ∙ ap (passer.passed program task) found.4;
      }
  publication_of workers worker task version after added (e ∷ later) past legal = publication_of workers worker task version after added later past legal.1

  pub not_ahead : (workers : ℕ) (past : Past S) (task v : ℕ) → Legal workers past → has_published past task v ≡ true → v ≤ version_of past
  not_ahead workers past task v legal done = elim (cases_lt (version_of past) v) [
    | inl lt ↦ absurd (false≢true (sym (none_ahead workers past task v legal lt) ∙ done))
    | inr le ↦ le
  ]

  -- the last publication of a task stands in the past
  pub last_published : (past : Past S) (task v : ℕ) → last_read past task ≡ Some v → has_published past task v ≡ true
  last_published [] task v last = let e : None ≡ Some v = last in cc
  last_published (Read w t r ∷ past) task v last = last_published past task v last
  last_published (Publish w t r a x ∷ past) task v last = elim (cases_Bool (t == task)) [
    | inl here ↦
        let e : Some r ≡ Some v = sym (cond-true (t == task) _ _ here) ∙ last in
        let same : r ≡ v = ap (λ o. unwrap_or o r) e in
        or_left (t == task && r == v) (has_published past task v) (and_from (t == task) (r == v) here (eq-eqb r v same))
    | inr there ↦ or_right (t == task && r == v) (has_published past task v) (last_published past task v (sym (cond-false (t == task) _ _ there) ∙ last))
  ]

  -- what was published is a task of the program
  pub published_exists : (workers : ℕ) (past : Past S) (task v : ℕ) → Legal workers past → has_published past task v ≡ true → task < passer.task_count program
  published_exists workers [] task v legal done = absurd (false≢true done)
  published_exists workers (Read w t r ∷ past) task v legal done = published_exists workers past task v legal.1 done
  published_exists workers (Publish w t r a x ∷ past) task v legal done = elim (or_cases (t == task && r == v) (has_published past task v) done) [
    | inl here ↦
        let loan = loan_of workers past w t r legal.1 legal.0.lent in
        subst (λ n. n < passer.task_count program) (eqb-true t task (and_parts (t == task) (r == v) here).0) loan.task_exists
    | inr before ↦ published_exists workers past task v legal.1 before
  ]

  -- a task is settled exactly where its last publication had read the present version
  pub settled_last : (workers : ℕ) (past : Past S) (task : ℕ) → Legal workers past → is_settled past task ≡ true → last_read past task ≡ Some (version_of past)
  settled_last workers [] task legal done = absurd (false≢true done)
  settled_last workers (Read w t r ∷ past) task legal done = settled_last workers past task legal.1 done
  settled_last workers (Publish w t r a x ∷ past) task legal done =
      let before_same : a ≡ version_of past → has_published past task a ≡ true → is_settled past task ≡ true = λ e h. subst (λ n. has_published past task n ≡ true) e h in
      let before : has_published past task a ≡ true → (is_settled past task ≡ true) × (a ≡ version_of past) = λ h.
      elim legal.0.rises.cases [
        | inl same ↦ (before_same same.0 h, same.0)
        | inr more ↦ absurd (false≢true (sym (none_ahead workers past task a legal.1 (omega (arith, more.0))) ∙ h))
      ] in
      elim (cases_Bool (t == task)) [
        | inl here ↦ elim (or_cases (t == task && r == a) (has_published past task a) done) [
          | inl now ↦ cond-true (t == task) _ _ here ∙ ap Some (eqb-true r a (and_parts (t == task) (r == a) now).1)
          | inr old ↦
              let lent : lent_to past w ≡ Some (task, r) = legal.0.lent ∙ ap (λ n. Some (n, r)) (eqb-true t task here) in
              absurd (false≢true (sym (lent_unsettled workers past w task r legal.1 lent) ∙ (before old).0))
        ]
        | inr there ↦ elim (or_cases (t == task && r == a) (has_published past task a) done) [
          | inl now ↦ absurd (false≢true (sym there ∙ (and_parts (t == task) (r == a) now).0))
          | inr old ↦ cond-false (t == task) _ _ there ∙ settled_last workers past task legal.1 (before old).0 ∙ ap Some (sym (before old).1)
        ]
      ]

  module _ (laws : IsLawful store passer program) where
    abbrev Fits : S → Type 0
    Fits s = passer.fits program s

    is : (s : S) → Fits s → store.is_value s
    is s fits = laws.fitting.value s fits

    at_both : (b : Bool) (x y : S) → Fits x → Fits y → Fits (if b then x else y)
    at_both b x y p q = cond_both b x y Fits (λ _. p) (λ _. q)

    -- every store of a past fits
    pub record IsFit (past : Past S) : Type 0 where
      pub present : Fits (now past)
      pub earlier : (v : ℕ) → Fits (at past v)

    pub all_fit : (workers : ℕ) (past : Past S) → Legal workers past → IsFit past
    all_fit workers [] legal = record { present = laws.fitting.bottom_fits; earlier = λ v. laws.fitting.bottom_fits }
    all_fit workers (Read w t r ∷ past) legal =
        let rest = all_fit workers past legal.1 in
        record { present = rest.present; earlier = λ v. at_both (version_of past == v) (now past) (at past v) rest.present (rest.earlier v) }
    all_fit workers (Publish w t r a x ∷ past) legal =
        let rest = all_fit workers past legal.1 in
        let loan = loan_of workers past w t r legal.1 legal.0.lent in
        let added : Fits x = subst Fits (sym legal.0.is_pass) (laws.fitting.passed_fits t (at past r) loan.task_exists (rest.earlier r)) in
        let new : Fits (with_added store passer program (now past) x) = laws.fitting.rounded_fits _ (laws.fitting.joined_fits (now past) x rest.present added) in
        record { present = new; earlier = λ v. at_both (a == v) (with_added store passer program (now past) x) (at past v) new (rest.earlier v) }

    pub added_fits : (workers : ℕ) (past : Past S) (w t r a : ℕ) (x : S) → Legal workers (Publish w t r a x ∷ past) → Fits x
    added_fits workers past w t r a x legal =
        let rest = all_fit workers past legal.1 in
        let loan = loan_of workers past w t r legal.1 legal.0.lent in
        subst Fits (sym legal.0.is_pass) (laws.fitting.passed_fits t (at past r) loan.task_exists (rest.earlier r))

    -- adding only raises
    pub above_old : (s x : S) → Fits s → Fits x → store.leq s (with_added store passer program s x)
    above_old s x fits fits' =
        let both = laws.fitting.joined_fits s x fits fits' in
        laws.order.transitive s (store.joined s x) _ (is s fits) (is _ both) (is _ (laws.fitting.rounded_fits _ both)) (laws.join.left s x (is s fits) (is x fits')) (laws.closure.extensive (passer.marks_of program) _ laws.fitting.marks_are (is _ both))

    pub above_added : (s x : S) → Fits s → Fits x → store.leq x (with_added store passer program s x)
    above_added s x fits fits' =
        let both = laws.fitting.joined_fits s x fits fits' in
        laws.order.transitive x (store.joined s x) _ (is x fits') (is _ both) (is _ (laws.fitting.rounded_fits _ both)) (laws.join.right s x (is s fits) (is x fits')) (laws.closure.extensive (passer.marks_of program) _ laws.fitting.marks_are (is _ both))

    -- what lies below the store changes nothing, and nothing else
    pub unraised : (workers : ℕ) (past : Past S) (task v : ℕ) → Legal workers past → task < passer.task_count program
        → (store.leq (with_added store passer program (now past) (passer.passed program task (at past v))) (now past))
        ↔ (with_added store passer program (now past) (passer.passed program task (at past v)) ≡ now past)
    unraised workers past task v legal lt =
        let all = all_fit workers past legal in
        let x = passer.passed program task (at past v) in
        let added : Fits x = laws.fitting.passed_fits task (at past v) lt (all.earlier v) in
        let new : Fits (with_added store passer program (now past) x) = laws.fitting.rounded_fits _ (laws.fitting.joined_fits (now past) x all.present added) in (
          λ le. laws.order.antisymmetric _ _ (is _ new) (is _ all.present) le (above_old (now past) x all.present added),
          λ same. subst (λ s. store.leq s (now past)) (sym same) (laws.order.reflexive _ (is _ all.present)),
        )

    -- the store only grows
    pub grows_once : (workers : ℕ) (e : Event S) (past : Past S) → Legal workers (e ∷ past) → store.leq (now past) (now (e ∷ past))
    grows_once workers (Read w t r) past legal = laws.order.reflexive _ (is _ (all_fit workers past legal.1).present)
    grows_once workers (Publish w t r a x) past legal = above_old (now past) x (all_fit workers past legal.1).present (added_fits workers past w t r a x legal)

    pub grows : (workers : ℕ) (new past : Past S) → Legal workers (new ++ past) → store.leq (now past) (now (new ++ past))
    grows workers [] past legal = laws.order.reflexive _ (is _ (all_fit workers past legal).present)
    grows workers (e ∷ new) past legal =
        laws.order.transitive (now past) (now (new ++ past)) (now (e ∷ (new ++ past))) (is _ (before_fits workers new past legal.1)) (is _ (all_fit workers (new ++ past) legal.1).present) (is _ (all_fit workers (e ∷ (new ++ past)) legal).present)
        (grows workers new past legal.1) (grows_once workers e (new ++ past) legal)
      where
        before_fits : (workers : ℕ) (new past : Past S) → Legal workers (new ++ past) → Fits (now past)
        before_fits workers [] past legal = (all_fit workers past legal).present
        before_fits workers (e ∷ new) past legal = before_fits workers new past legal.1

    -- each earlier store lies below the present one
    pub at_below : (workers : ℕ) (past : Past S) (v : ℕ) → Legal workers past → store.leq (at past v) (now past)
    at_below workers [] v legal = laws.order.reflexive _ (is _ laws.fitting.bottom_fits)
    at_below workers (e ∷ past) v legal =
        let all = all_fit workers (e ∷ past) legal in
        let rest = all_fit workers past legal.1 in
        cond_both (version_of (e ∷ past) == v) (now (e ∷ past)) (at past v) (λ s. store.leq s (now (e ∷ past)))
        (λ _. laws.order.reflexive _ (is _ all.present))
        (λ _. laws.order.transitive (at past v) (now past) (now (e ∷ past)) (is _ (rest.earlier v)) (is _ rest.present) (is _ all.present) (at_below workers past v legal.1) (grows_once workers e past legal))

    -- the stores before the present one, one for each version
    abbrev pub earlier : Past S → List S
    earlier [] = []
    earlier (Read w t r ∷ past) = earlier past
    earlier (Publish w t r a x ∷ past) = if a == version_of past then earlier past else now past ∷ earlier past

    abbrev Stores : Past S → List S
    Stores past = now past ∷ earlier past

    contains_more : (s t : S) (ss : List S) → Contains ss t → Contains (s ∷ ss) t
    contains_more s t ss (k, lt, e) = (suc k, omega (arith, lt), e)

    contains_first : (s : S) (ss : List S) → Contains (s ∷ ss) s
    contains_first s ss = (zero, omega arith, refl)

    pub counted : (workers : ℕ) (past : Past S) → Legal workers past → length (earlier past) ≡ version_of past
    counted workers [] legal = refl
    counted workers (Read w t r ∷ past) legal = counted workers past legal.1
    counted workers (Publish w t r a x ∷ past) legal =
        let rest = counted workers past legal.1 in
        elim legal.0.rises.cases [
          | inl same ↦ ap length (cond-true (a == version_of past) _ _ (eq-eqb a _ same.0)) ∙ rest ∙ sym same.0
          | inr more ↦ ap length (cond-false (a == version_of past) _ (now past ∷ earlier past) (ne_eqb a _ (λ e. omega (arith, e, more.0)))) ∙ omega (arith, rest, more.0)
        ]

    -- the list of stores after a publication
    stores_on : (workers : ℕ) (past : Past S) (w t r a : ℕ) (x : S) → Legal workers (Publish w t r a x ∷ past)
        → (Stores (Publish w t r a x ∷ past) ≡ Stores past) ⊎ (Stores (Publish w t r a x ∷ past) ≡ now (Publish w t r a x ∷ past) ∷ Stores past)
    stores_on workers past w t r a x legal = elim legal.0.rises.cases [
      | inl same ↦ inl (ap (λ s. s ∷ earlier (Publish w t r a x ∷ past)) same.1 ∙ ap (λ ss. now past ∷ ss) (cond-true (a == version_of past) _ _ (eq-eqb a _ same.0)))
      | inr more ↦ inr (ap (λ ss. now (Publish w t r a x ∷ past) ∷ ss) (cond-false (a == version_of past) _ (now past ∷ earlier past) (ne_eqb a _ (λ e. omega (arith, e, more.0)))))
    ]

    pub stood : (workers : ℕ) (past : Past S) (v : ℕ) → Legal workers past → Contains (Stores past) (at past v)
    stood workers [] v legal = contains_first _ []
    stood workers (Read w t r ∷ past) v legal =
        cond_both (version_of past == v) (now past) (at past v) (Contains (Stores past)) (λ _. contains_first _ _) (λ _. stood workers past v legal.1)
    stood workers (Publish w t r a x ∷ past) v legal =
        let rest = stood workers past v legal.1 in
        cond_both (a == v) (now (Publish w t r a x ∷ past)) (at past v) (Contains (Stores (Publish w t r a x ∷ past))) (λ _. contains_first _ _)
        (λ _. elim (stores_on workers past w t r a x legal) [
          | inl same ↦ subst (λ ss. Contains ss (at past v)) (sym same) rest
          | inr more ↦ subst (λ ss. Contains ss (at past v)) (sym more) (contains_more _ (at past v) (Stores past) rest)
        ])

    -- they are a history of publications
    pub history_of : (workers : ℕ) (past : Past S) → Legal workers past → IsHistory store passer program (Stores past)
    history_of workers [] legal = refl
    history_of workers (Read w t r ∷ past) legal = history_of workers past legal.1
    history_of workers (Publish w t r a x ∷ past) legal =
        let rest = history_of workers past legal.1 in
        let loan = loan_of workers past w t r legal.1 legal.0.lent in
        let here : IsPublished store passer program (now past) (Stores past) (now (Publish w t r a x ∷ past)) = record {
          task = t;
          exists = loan.task_exists;
          read = at past r;
          stood = stood workers past r legal.1;
          joins = ap (λ y. with_added store passer program (now past) y) legal.0.is_pass;
        } in
        elim (stores_on workers past w t r a x legal) [
          | inl same ↦ subst (IsHistory store passer program) (sym same) rest
          | inr more ↦ subst (IsHistory store passer program) (sym more) (here, rest)
        ]

    -- what was published lies in the store
    pub published_below : (workers : ℕ) (past : Past S) (task v : ℕ) → Legal workers past → task < passer.task_count program → has_published past task v ≡ true
        → store.leq (passer.passed program task (at past v)) (now past)
    published_below workers [] task v legal exists done = absurd (false≢true done)
    published_below workers (Read w t r ∷ past) task v legal exists done =
        let le = not_ahead workers past task v legal.1 done in
        subst (λ s. store.leq (passer.passed program task s) (now past)) (sym (stays_at workers (Read w t r) past v legal le)) (published_below workers past task v legal.1 exists done)
    published_below workers (Publish w t r a x ∷ past) task v legal exists done =
        let rest = all_fit workers past legal.1 in
        let all = all_fit workers (Publish w t r a x ∷ past) legal in
        elim (or_cases (t == task && r == v) (has_published past task v) done) [
          | inl here ↦
              let parts = and_parts (t == task) (r == v) here in
              let loan = loan_of workers past w t r legal.1 legal.0.lent in
              let le : v ≤ version_of past = subst (λ n. n ≤ version_of past) (eqb-true r v parts.1) loan.not_ahead in
              let same : x ≡ passer.passed program task (at (Publish w t r a x ∷ past) v) =
              legal.0.is_pass ∙ ap (λ n. passer.passed program n (at past r)) (eqb-true t task parts.0) ∙ ap (λ n. passer.passed program task (at past n)) (eqb-true r v parts.1)
              ∙ ap (passer.passed program task) (sym (stays_at workers (Publish w t r a x) past v legal le)) in
              subst (λ s. store.leq s (now (Publish w t r a x ∷ past))) same (above_added (now past) x rest.present (added_fits workers past w t r a x legal))
          | inr before ↦
              let le = not_ahead workers past task v legal.1 before in
              let fits = laws.fitting.passed_fits task (at past v) exists (rest.earlier v) in
              subst (λ s. store.leq (passer.passed program task s) (now (Publish w t r a x ∷ past))) (sym (stays_at workers (Publish w t r a x) past v legal le))
              (laws.order.transitive _ (now past) _ (is _ fits) (is _ rest.present) (is _ all.present) (published_below workers past task v legal.1 exists before) (grows_once workers (Publish w t r a x) past legal))
        ]

    -- a task that is settled adds nothing
    pub settled_below : (workers : ℕ) (past : Past S) (task : ℕ) → Legal workers past → task < passer.task_count program → is_settled past task ≡ true → store.leq (passer.passed program task (now past)) (now past)
    settled_below workers past task legal exists done =
        subst (λ s. store.leq (passer.passed program task s) (now past)) (present_at past) (published_below workers past task (version_of past) legal exists done)

    pub own_rounding : (workers : ℕ) (past : Past S) → store.rounded (passer.marks_of program) (passer.least program) ≡ passer.least program → Legal workers past → store.rounded (passer.marks_of program) (now past) ≡ now past
    own_rounding workers [] bottom legal = bottom
    own_rounding workers (Read w t r ∷ past) bottom legal = own_rounding workers past bottom legal.1
    own_rounding workers (Publish w t r a x ∷ past) bottom legal =
        let rest = all_fit workers past legal.1 in
        laws.closure.idempotent (passer.marks_of program) _ laws.fitting.marks_are (is _ (laws.fitting.joined_fits (now past) x rest.present (added_fits workers past w t r a x legal)))

    -- a quiet store is closed
    pub quiet_closed : (workers : ℕ) (past : Past S) → store.rounded (passer.marks_of program) (passer.least program) ≡ passer.least program → Legal workers past → IsQuiet (passer.task_count program) past → IsClosed store passer program (now past)
    quiet_closed workers past bottom legal quiet = record {
      fits = (all_fit workers past legal).present;
      rounding = own_rounding workers past bottom legal;
      passes = λ task exists. settled_below workers past task legal exists (quiet.settled task exists);
    }
