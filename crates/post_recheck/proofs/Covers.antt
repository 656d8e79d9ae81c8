-- Whether what the tasks contribute is below the store.
use Rattle.std.proofs.Common.{◌≡◌, ℕ, zero, suc, ◌<◌, ◌≤◌, nat_lt, Bool, true, false, cond, List, length, map}
use Rattle.std.proofs.Common.{Some, IfSome, refl, inl, inr}
use Rattle.std.proofs.Common.{sym, ap, subst, arith}
use Rattle.std.proofs.lemmas.Bool.{cases_lt}
use Rattle.shared_programs.proofs.low.edge_actions.Lists.{lt_from, lt_test}
use Rattle.interfere_set.specs.Stores.{Interferences, IsStoreBelow, no_interference}
use Rattle.interfere_set.specs.Stores.{rounded_store}
use Rattle.interfere_set.specs.laws.StoreLaws.{store_order, store_join, store_closure}
use Rattle.shared_programs.specs.transfer_rows.StateForms.{State}
use Rattle.table_covers.specs.declared.links.Link.{Link}
use Rattle.table_covers.specs.Systems.{from_of}
use Rattle.table_covers.specs.Solutions.{NodeTable}
use Rattle.table_covers.specs.laws.AddedTotals as totals
use Rattle.shared_programs.specs.task_equations.Bodies.{copy_at}
use Rattle.shared_programs.specs.task_equations.Equations.{added_along, link_of}
use Rattle.shared_programs.specs.program_equations.Programs.{ProgramBodies, body_at, IsProgram}
use Rattle.shared_programs.specs.program_equations.Systems.{stores, FitsBody, FitsProgram, added_at}
use Rattle.shared_programs.specs.program_equations.Solutions.{tables_of, IsStoreCovered}
use Rattle.shared_programs.specs.program_equations.laws.StoresFit.{nothing_fits, joined_fits, bottom}
use Rattle.shared_programs.specs.program_equations.laws.Lawful.{program_is_lawful}
use Rattle.shared_programs.specs.program_equations.laws.Passing.{fitting}
use Rattle.post_recheck.specs.Pairs.{Pair, FitsPair}
use Rattle.post_recheck.specs.Bodies.{contributed_at}
use Rattle.post_recheck.specs.reading.Joins.{joined_below}
use Rattle.post_recheck.proofs.Fits.{table_fits, system_is_lawful, task_is, not_below}

module _ (p : ProgramBodies) (is : IsProgram p) (pair : Pair) (fits : FitsPair p pair) where
  abbrev links : ℕ → List Link
  links t = let b = body_at p t in map link_of b.copies

  abbrev pub added : ℕ → ℕ → State → Interferences
  added t e s = added_along (body_at p t) (copy_at (body_at p t) e) s

  abbrev pub table : ℕ → NodeTable State
  table t = tables_of pair.tables t

  pub in_bodies : (t : ℕ) → t < p.tasks → t < length p.bodies
  in_bodies t lt = let le = is.tasks in omega (arith, lt)

  below_all : (s : Interferences) → stores.is_value s → stores.leq no_interference s
  below_all = (bottom p.marks).below

  value : (s : Interferences) → FitsProgram p s → stores.is_value s
  value s h = h.form

  both_fit : (s s' : Interferences) → FitsProgram p s → FitsProgram p s' → FitsProgram p (stores.joined s s')
  both_fit s s' h k = joined_fits p.laid p.tasks s s' h k

  module _ (t : ℕ) (lt : t < p.tasks) where
    from_node : (e : ℕ) → e < length (links t) → from_of (links t) e < (let b = body_at p t in length b.nodes)
    from_node e within =
        let law = subst (λ sys. (k : ℕ) → k < length sys.links → from_of sys.links k < sys.node_count)
        (task_is p is pair fits t lt) (system_is_lawful p is pair fits t (in_bodies t lt)).from_node in
        law e within

    pub adds : (e : ℕ) (s : State) → e < length (links t) → table t (from_of (links t) e) ≡ Some s
        → FitsProgram p (added t e s)
    adds e s within stands =
        let n = from_of (links t) e in
        (program_is_lawful p is).added_fits t pair.store e s lt fits.fits within
        (subst (λ x. IfSome x (FitsBody (body_at p t) n)) stands
        (table_fits p is pair fits t (in_bodies t lt) n (from_node e within)))

    abbrev all : ℕ
    all = length (links t)

    pub task_fits : FitsProgram p (added_at p t (table t))
    task_fits =
        totals.total_fits stores (FitsProgram p) no_interference (links t) (added t) (table t) store_order store_join
        value
        (nothing_fits p.laid p.tasks) below_all both_fit adds all (omega arith)

    pub task_holds : (e : ℕ) (s : State) → e < all → table t (from_of (links t) e) ≡ Some s
        → stores.leq (added t e s) (added_at p t (table t))
    task_holds e s within stands =
        totals.total_holds stores (FitsProgram p) no_interference (links t) (added t) (table t) store_order store_join
        value (nothing_fits p.laid p.tasks) below_all both_fit adds all e s (omega arith) within stands

    task_least : (bound : Interferences) → FitsProgram p bound
        → ((e : ℕ) (s : State) → e < all → table t (from_of (links t) e) ≡ Some s → stores.leq (added t e s) bound)
        → stores.leq (added_at p t (table t)) bound
    task_least bound bound-fits each =
        totals.total_least stores (FitsProgram p) no_interference (links t) (added t) (table t) store_order store_join
        value (nothing_fits p.laid p.tasks) below_all both_fit adds all bound (omega arith) bound-fits
        (λ e s within stands. each e s within stands)

  -- ## All bodies

  abbrev given : Bool → ℕ → Interferences
  given b t = cond b (added_at p t (table t)) no_interference

  given_fits : (t : ℕ) (b : Bool) → nat_lt t p.tasks ≡ b → FitsProgram p (given b t)
  given_fits t true e = task_fits t (lt_from t p.tasks e)
  given_fits t false e = nothing_fits p.laid p.tasks

  contributed_fits : (t : ℕ) → FitsProgram p (contributed_at p pair t)
  contributed_fits t = given_fits t (nat_lt t p.tasks) refl

  pub task_given : (t : ℕ) → t < p.tasks → contributed_at p pair t ≡ added_at p t (table t)
  task_given t lt = ap (λ b. given b t) (lt_test t p.tasks lt)

  pub section_given : (t : ℕ) → p.tasks ≤ t → contributed_at p pair t ≡ no_interference
  section_given t past = ap (λ b. given b t) (not_below p is pair fits t (nat_lt t p.tasks) refl past)

  abbrev joined : ℕ → Interferences
  joined n = joined_below (contributed_at p pair) n

  pub all_fit : (n : ℕ) → FitsProgram p (joined n)
  all_fit zero = nothing_fits p.laid p.tasks
  all_fit (suc n) = both_fit (joined n) (contributed_at p pair n) (all_fit n) (contributed_fits n)

  all_hold : (n t : ℕ) → t < n → stores.leq (contributed_at p pair t) (joined n)
  all_hold zero t lt = absurd (omega (arith, lt))
  all_hold (suc n) t lt =
      let rest = all_fit n in
      let last = contributed_fits n in
      elim (cases_lt t n) [
        | inl before ↦
            store_order.transitive (contributed_at p pair t) (joined n) (joined (suc n)) (contributed_fits t).form
            rest.form
            (all_fit (suc n)).form (all_hold n t before)
            (store_join.left (joined n) (contributed_at p pair n) rest.form last.form)
        | inr past ↦
            let same : t ≡ n = omega (arith, lt, past) in
            subst (λ k. stores.leq (contributed_at p pair k) (joined (suc n))) (sym same)
            (store_join.right (joined n) (contributed_at p pair n) rest.form last.form)
      ]

  all_least : (n : ℕ) (bound : Interferences) → FitsProgram p bound
      → ((t : ℕ) → t < n → stores.leq (contributed_at p pair t) bound) → stores.leq (joined n) bound
  all_least zero bound bound-fits each = below_all bound bound-fits.form
  all_least (suc n) bound bound-fits each =
      store_join.least (joined n) (contributed_at p pair n) bound (all_fit n).form (contributed_fits n).form
      bound-fits.form
      (all_least n bound bound-fits (λ t lt. each t (omega (arith, lt)))) (each n (omega arith))

  -- ## The store

  abbrev whole : Interferences
  whole = joined (length p.bodies)

  -- the rounded join of what all tasks contribute is below the store: the store is covered
  pub store_covered : IsStoreBelow (rounded_store p.marks whole) pair.store
      → IsStoreCovered p (tables_of pair.tables) pair.store
  store_covered below = record {
    bound = whole;
    fits = all_fit (length p.bodies);
    holds = λ t lt e s within stands.
        let one = task_holds t lt e s within stands in
        let here = in_bodies t lt in
        store_order.transitive (added t e s) (added_at p t (table t)) whole (adds t lt e s within stands).form
        (task_fits t lt).form (all_fit (length p.bodies)).form one
        (subst (λ a. stores.leq a whole) (task_given t lt) (all_hold (length p.bodies) t here));
    rounding = below;
  }

  given_least : (bound : Interferences) → FitsProgram p bound
      → ((t : ℕ) → t < p.tasks → (e : ℕ) (s : State) → e < length (links t) → table t (from_of (links t) e) ≡ Some s
      → stores.leq (added t e s) bound) → (t : ℕ) (b : Bool) → nat_lt t p.tasks ≡ b → stores.leq (given b t) bound
  given_least bound bound-fits each t true e =
      let lt = lt_from t p.tasks e in task_least t lt bound bound-fits (each t lt)
  given_least bound bound-fits each t false e = below_all bound bound-fits.form

  -- and only then
  pub covered_store : IsStoreCovered p (tables_of pair.tables) pair.store
      → IsStoreBelow (rounded_store p.marks whole) pair.store
  covered_store c =
      let under = all_least (length p.bodies) c.bound c.fits
      (λ t lt. given_least c.bound c.fits c.holds t (nat_lt t p.tasks) refl) in
      store_order.transitive (rounded_store p.marks whole) (rounded_store p.marks c.bound) pair.store
      ((fitting p is).rounded_fits whole (all_fit (length p.bodies))).form
      ((fitting p is).rounded_fits c.bound c.fits).form fits.fits.form
      (store_closure.monotone p.marks whole c.bound tt (all_fit (length p.bodies)).form c.fits.form under)
      c.rounding
