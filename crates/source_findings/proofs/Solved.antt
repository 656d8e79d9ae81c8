-- What `waits` and `ranges` tell is of a source that is accepted, and comes with the status of a report.
use Rattle.std.proofs.Common.{◌≡◌, ℕ, List, [], ◌∷◌, sym, subst, inl, inr}
use Rattle.std.specs.Prelude.{◌⊎◌, Result, Ok, Err, IfOk}
use Rattle.tm_terms.specs.declared.places.Place.{Place}
use Rattle.program_streams.specs.declared.statuses.Status.{Status}
use Rattle.program_streams.specs.declared.statuses.Status.TheVariants.{NoAlarm, Alarms}
use Rattle.source_findings.specs.Findings.{HasFinding, Solves, Tells, waits_status}
use Rattle.source_findings.specs.declared.findings.Finding.{Finding}
use Rattle.source_findings.specs.declared.findings.Finding.TheVariants.{Waits, Ranges}

-- what an answer says is what it says of another fact that follows
pub if_ok_by : {A E : Type 0} {P Q : A → Type 0} (r : Result A E) → IfOk r P → ((a : A) → P a → Q a) → IfOk r Q
if_ok_by (Ok a) h k = k a h
if_ok_by (Err e) h k = tt

-- it is told of the least solution of a program of the source
pub solved_by : (f : Finding) (bytes : List ℕ) (status : Status) (text : List ℕ) → Tells f bytes status text
    → Solves bytes
solved_by Waits bytes status text h = let finds = h.finds in finds.solves
solved_by Ranges bytes status text h = let finds = h.finds in finds.solves

waits_reported : (places : List Place) (status : Status) → status ≡ waits_status places
    → (status ≡ NoAlarm) ⊎ (status ≡ Alarms)
waits_reported [] status e = inl e
waits_reported (place ∷ places) status e = inr e

found_by : (f : Finding) (bytes : List ℕ) (status : Status) (text : List ℕ) → (status ≡ NoAlarm) ⊎ (status ≡ Alarms)
    → Tells f bytes status text → HasFinding f bytes status text
found_by f bytes status text (inl e) h =
    subst (λ s. HasFinding f bytes s text) (sym e) (subst (λ s. Tells f bytes s text) e h)
found_by f bytes status text (inr e) h =
    subst (λ s. HasFinding f bytes s text) (sym e) (subst (λ s. Tells f bytes s text) e h)

-- so it is the answer
pub found : (f : Finding) (bytes : List ℕ) (status : Status) (text : List ℕ) → Tells f bytes status text
    → HasFinding f bytes status text
found Waits bytes status text h =
    found_by Waits bytes status text (waits_reported h.places status h.comes) h
found Ranges bytes status text h = found_by Ranges bytes status text (inl h.comes) h
