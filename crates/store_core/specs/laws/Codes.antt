-- The plain records of the core are values of the logic: each is a tuple of its fields.
use Rattle.std.specs.Prelude.{◌≡◌, ◌⊎◌, ℕ, List, Option, refl}
use Rattle.std.specs.Coded.{Coded, code_by, coded_ℕ, coded_list, coded_option, coded×, coded⊎}
use Rattle.std.proofs.Common.{inl, inr}
use Rattle.store_core.specs.Cores.{Lent, Brought, Core}
use Rattle.store_core.specs.Histories.{Event, Read, Publish, Past}

abbrev Reading : Type 0
Reading = ℕ × (ℕ × ℕ)

abbrev Publication : Type 0 → Type 0
Publication S = ℕ × (ℕ × (ℕ × (ℕ × S)))

abbrev reading_code : Coded Reading
reading_code = coded× coded_ℕ (coded× coded_ℕ coded_ℕ)

module _ {S : Type 0} where
  abbrev event_cases : Event S → Reading ⊎ Publication S
  event_cases (Read worker task version) = inl (worker, (task, version))
  event_cases (Publish worker task version after added) = inr (worker, (task, (version, (after, added))))

  abbrev event_from : Reading ⊎ Publication S → Event S
  event_from (inl e) = Read e.0 e.1.0 e.1.1
  event_from (inr e) = Publish e.0 e.1.0 e.1.1.0 e.1.1.1.0 e.1.1.1.1

  pub event_there : (e : Event S) → event_from (event_cases e) ≡ e
  event_there (Read worker task version) = refl
  event_there (Publish worker task version after added) = refl

  abbrev publication_code : Coded S → Coded (Publication S)
  publication_code s = coded× coded_ℕ (coded× coded_ℕ (coded× coded_ℕ (coded× coded_ℕ s)))

  abbrev pub event_code : Coded S → Coded (Event S)
  event_code s =
      code_by (Reading ⊎ Publication S) (coded⊎ reading_code (publication_code s)) event_cases event_from event_there

abbrev pub lent_code : {P S K : Type 0} → Coded P → Coded S → Coded K → Coded (Lent P S K)
lent_code {P = P} {S = S} {K = K} p s k =
    code_by (P × (ℕ × (ℕ × (S × Option K)))) (coded× p (coded× coded_ℕ (coded× coded_ℕ (coded× s (coded_option k)))))
    (λ l. (l.program, (l.task, (l.version, (l.store, l.kept)))))
    (λ t. record { program = t.0; task = t.1.0; version = t.1.1.0; store = t.1.1.1.0; kept = t.1.1.1.1 }) (λ _. refl)

abbrev pub brought_code : {P S K : Type 0} → Coded P → Coded S → Coded K → Coded (Brought P S K)
brought_code {P = P} {S = S} {K = K} p s k =
    code_by (P × (ℕ × (ℕ × (S × (S × K))))) (coded× p (coded× coded_ℕ (coded× coded_ℕ (coded× s (coded× s k)))))
    (λ b. (b.program, (b.task, (b.version, (b.store, (b.added, b.kept))))))
    (λ t. record {
      program = t.0;
      task = t.1.0;
      version = t.1.1.0;
      store = t.1.1.1.0;
      added = t.1.1.1.1.0;
      kept = t.1.1.1.1.1;
    }) (λ _. refl)

abbrev pub core_code : {P S K : Type 0} → Coded P → Coded S → Coded K → Coded (Core P S K)
core_code {P = P} {S = S} {K = K} p s k =
    code_by (P × (ℕ × (Past S × List (Option K))))
    (coded× p (coded× coded_ℕ (coded× (coded_list (event_code s)) (coded_list (coded_option k)))))
    (λ c. (c.program, (c.workers, (c.past, c.kept))))
    (λ t. record { program = t.0; workers = t.1.0; past = t.1.1.0; kept = t.1.1.1 }) (λ _. refl)
