-- Every list of calls keeps the history legal.
use Rattle.std.proofs.Common.{◌≡◌, List, [], ◌∷◌, ◌++◌, Ok, Err, sym, ap, subst, ◌∙◌, append_assoc}
use Rattle.tm_lattice.specs.declared.lattices.Lattice as lattice
use Rattle.tm_lattice.specs.declared.passers.Passer as passer
use Rattle.store_core.specs.declared.outcomes.Taken.TheVariants.{Next, Holding, Others, AllQuiet}
use Rattle.store_core.specs.declared.outcomes.Refused.TheVariants.{NotLent, Stranger, NoMemory}
use Rattle.store_core.specs.Histories.{Event, Read, Publish, May, IsLegal}
use Rattle.store_core.specs.Cores.{Core}
use Rattle.store_core.specs.Calls.{Call, TakeCall, PublishCall, Does, Lead, GoesOn}

module _ {P S M K : Type 0} (store : lattice.Ghosts S M) (passer : passer.Ghosts P S M) where
  abbrev Legal : Core P S K → Type 0
  Legal c = IsLegal store passer c.program c.workers c.past

  same : (before after : Core P S K) → Legal before → after ≡ before → GoesOn store passer before after
  same before after legal is = record {
    program = ap (λ c. c.program) is;
    workers = ap (λ c. c.workers) is;
    later = [];
    goes_on = ap (λ c. c.past) is;
    legal = subst Legal (sym is) legal;
  }

  one_more : (before after : Core P S K) (e : Event S) → Legal before → May store passer before.program before.workers before.past e
      → after.program ≡ before.program → after.workers ≡ before.workers → after.past ≡ e ∷ before.past → GoesOn store passer before after
  one_more before after e legal may p w past =
      let all : IsLegal store passer before.program before.workers (e ∷ before.past) = (may, legal) in
      record {
        program = p;
        workers = w;
        later = e ∷ [];
        goes_on = past;
        legal = subst (λ x. IsLegal store passer x after.workers after.past) (sym p) (subst (λ x. IsLegal store passer before.program x after.past) (sym w) (subst (λ x. IsLegal store passer before.program before.workers x) (sym past) all));
      }

  step : (before after : Core P S K) (call : Call P S M K) → Legal before → Does store passer before after call → GoesOn store passer before after
  step before after (TakeCall worker (Ok (Next lent))) legal does =
      one_more before after (Read worker lent.task lent.version) legal does.1.may (ap (λ c. c.program) does.1.new) (ap (λ c. c.workers) does.1.new) (ap (λ c. c.past) does.1.new)
  step before after (TakeCall worker (Ok (Holding task))) legal does = same before after legal does.1.same
  step before after (TakeCall worker (Ok Others)) legal does = same before after legal does.1.same
  step before after (TakeCall worker (Ok AllQuiet)) legal does = same before after legal does.1.same
  step before after (TakeCall worker (Err none)) legal does = same before after legal does.1
  step before after (PublishCall worker brought (Ok grew)) legal does =
      one_more before after (Publish worker brought.task does.read grew.version brought.added) legal does.may (ap (λ c. c.program) does.new) (ap (λ c. c.workers) does.new) (ap (λ c. c.past) does.new)
  step before after (PublishCall worker brought (Err NotLent)) legal does = same before after legal does.same
  step before after (PublishCall worker brought (Err (Stranger lent back))) legal does = same before after legal does.0.same
  step before after (PublishCall worker brought (Err NoMemory)) legal does = same before after legal does

  pub led : (before : Core P S K) (calls : List (Call P S M K)) (after : Core P S K) → Legal before → Lead store passer before calls after → GoesOn store passer before after
  led before [] after legal lead = same before after legal lead
  led before (call ∷ calls) after legal (between, does, lead) =
      let first = step before between call legal does in
      let rest = led between calls after first.legal lead in
      record {
        program = rest.program ∙ first.program;
        workers = rest.workers ∙ first.workers;
        later = rest.later ++ first.later;
        goes_on = rest.goes_on ∙ ap (λ p. rest.later ++ p) first.goes_on ∙ sym (append_assoc rest.later first.later before.past);
        legal = rest.legal;
      }
