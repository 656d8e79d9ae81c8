-- The requests of all tasks are those of the program.
use Rattle.std.proofs.Common.{◌≡◌, ◌↔◌, ℕ, refl, ap, sym, subst, ◌∙◌, List, Option, arith}
use Rattle.std.specs.Prelude.{Contains}
use Rattle.flow_graph.specs.declared.operations.Operation.TheVariants as Op
use Rattle.request_circles.specs.declared.requests.Request.{Request}
use Rattle.program_reports.specs.post_recheck.transfer_rows.StateForms.{State}
use Rattle.program_reports.specs.post_recheck.program_equations.Programs.{ProgramBodies, IsProgram}
use Rattle.program_reports.specs.post_recheck.program_equations.Solutions.{tables_of}
use Rattle.program_reports.specs.Reports.{copy_in, operation_in, left_in}
use Rattle.lock_waits.specs.Waits.{IsRequest}
use Rattle.lock_waits.specs.reading.Copies.{asked_by, where_reached}
use Rattle.lock_waits.specs.reading.Bodies.{IsAskedOf, IsAskedUpTo}
use Rattle.lock_waits.proofs.Asking.{IsAsking, asked_is, asked_lock, reached_is}

module _ (p : ProgramBodies) (is : IsProgram p) (tables : List (List (Option State))) (r : Request) where
  abbrev from_of : ℕ → ℕ → ℕ
  from_of t k = (let c = copy_in p t k in c.from)

  abbrev held_in : ℕ → ℕ → ℕ
  held_in t k = (let q = left_in p t k in q.held)

  to : IsAskedUpTo p tables p.tasks r → IsRequest p (tables_of tables) r
  to h =
      let t : ℕ = h.task in
      let one : IsAskedOf p tables t r = h.asked in
      let k : ℕ = one.copy in
      let op = operation_in p t k in
      let here = reached_is (tables_of tables t (from_of t k)) (asked_by op t (held_in t k)) r one.asked in
      let a : IsAsking op t (held_in t k) r = asked_is op t (held_in t k) r here.2 in
      let most = is.tasks in
      let lt = h.below in
      subst (IsRequest p (tables_of tables)) (sym a.is) (record {
        task = lt;
        copy = k;
        state = here.0;
        reached = record { body = omega (arith, lt, most); copy = one.below; state = here.1 };
        is = a.locks;
        held = refl;
        not_held = a.not_held;
      })

  back : IsRequest p (tables_of tables) r → IsAskedUpTo p tables p.tasks r
  back h =
      let t = r.task in
      let k = h.copy in
      let there = h.reached in
      record {
        task = t;
        below = h.task;
        asked = record {
          copy = k;
          below = there.copy;
          asked = ap (λ o. where_reached o (asked_by (operation_in p t k) t (held_in t k))) there.state
              ∙ ap (λ op. asked_by op t (held_in t k)) h.is
              ∙ ap (asked_by (Op.Lock r.mutex r.place) t) h.held
              ∙ asked_lock t r.held r.mutex r.place h.not_held;
        };
      }

  -- a list of them has exactly those of the program
  pub requested : (requests same : List Request) → same ≡ requests → (n : ℕ) → n ≡ p.tasks
      → (Contains requests r ↔ IsAskedUpTo p tables n r) → (Contains same r ↔ IsRequest p (tables_of tables) r)
  requested requests same e n end h =
      let all : Contains requests r ↔ IsAskedUpTo p tables p.tasks r =
      subst (λ m. Contains requests r ↔ IsAskedUpTo p tables m r) end h in (
        λ c. to (all.0 (subst (λ xs. Contains xs r) e c)),
        λ q. subst (λ xs. Contains xs r) (sym e) (all.1 (back q)),
      )
