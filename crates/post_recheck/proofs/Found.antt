-- What the equations of one body give for its check.
use Rattle.std.proofs.Common.{◌≡◌, ℕ, ◌<◌, ◌≤◌, List, [], length, map, get_or, Option, Some, IfSome, refl}
use Rattle.std.proofs.Common.{sym, ap, subst, ◌∙◌}
use Rattle.std.specs.declared.vec.Vec.{Vec}
use Rattle.std.proofs.lemmas.List.{get_or-map, length-map}
use Rattle.interfere_set.specs.Stores.{Interferences, no_interference, joined_store}
use Rattle.shared_programs.specs.transfer_rows.StateForms.{State}
use Rattle.shared_programs.specs.temporary_types.Sorts.{Sort}
use Rattle.table_covers.specs.declared.covers.Uncovered.{Uncovered}
use Rattle.table_covers.specs.declared.covers.Uncovered.TheVariants.{Entry as the_entry}
use Rattle.table_covers.specs.declared.covers.Uncovered.TheVariants.{Edge as the_edge}
use Rattle.table_covers.specs.Systems.{System}
use Rattle.table_covers.specs.Solutions.{NodeTable, at, AreFitting, IsSolution, IsFirstUncovered}
use Rattle.table_covers.specs.Passes.{added_below}
use Rattle.shared_programs.specs.task_equations.Bodies.{Body, copy_at}
use Rattle.shared_programs.specs.task_equations.Equations.{equations_of, link_of, added_along}
use Rattle.shared_programs.specs.task_equations.Premises.{IsBody}
use Rattle.shared_programs.specs.program_equations.Programs.{ProgramBodies, body_at, IsProgram}
use Rattle.shared_programs.specs.program_equations.Entries.{first_state}
use Rattle.shared_programs.specs.program_equations.Systems.{states, FitsBody, task_entry, added_at}
use Rattle.shared_programs.specs.program_equations.Solutions.{table_at, tables_of, system_at, IsSolvedAt, edge_number}
use Rattle.post_recheck.specs.Pairs.{Pair, FitsPair, lists_of}
use Rattle.post_recheck.specs.Bodies.{IsUncoveredIn, contributed_at}
use Rattle.post_recheck.specs.reading.Numbers.{number_in, IsNumberedIn}
use Rattle.post_recheck.proofs.Fits.{table_fits, task_is, section_is, is_section}
use Rattle.post_recheck.proofs.Covers.{task_given}

-- the table with a number
pub table_read : {A : Type 0} (tables : List (Vec (Option State) A)) (t : ℕ) (none : Vec (Option State) A)
    → t < length tables → (let v = get_or tables t none in table_at (lists_of tables) t ≡ v.items)
table_read tables t none lt = get_or-map (λ v. v.items) tables t none [] lt

-- there are as many tables as lists of their states
pub tables_counted : {A : Type 0} (tables : List (Vec (Option State) A)) (t : ℕ) → t < length (lists_of tables)
    → t < length tables
tables_counted tables t lt = subst (λ n. t < n) (length-map tables (λ v. v.items)) lt

-- what is the first that is not covered has a number
pub numbered : (b : Body) (sorts : List Sort) → IsBody b sorts → (entry : Option State) (store : Interferences)
    → (table : NodeTable State) (first : Uncovered)
    → IsFirstUncovered states (FitsBody b) (equations_of b entry store) table first
    → IsNumberedIn b.edges b.copies first
numbered b sorts is entry store table the_entry h = tt
numbered b sorts is entry store table (the_edge k) h =
    let within = subst (λ n. k < n) (length-map b.copies link_of) h.1 in
    (within, (is.copies k within).edge)

module _ (p : ProgramBodies) (is : IsProgram p) (pair : Pair) (fits : FitsPair p pair) (t : ℕ)
    (lt : t < length p.bodies) where
  number_is : (first : Uncovered) → (let b = body_at p t in number_in b.copies first
      ≡ edge_number p pair.tables pair.store b first)
  number_is the_entry = refl
  number_is (the_edge k) = refl

  -- the equations of a task with this body, entry and store
  pub of_task : t < p.tasks → (b : Body) (entry : Option State) (store : Interferences) → b ≡ body_at p t
      → entry ≡ task_entry p (table_at pair.tables p.tasks) t → store ≡ pair.store
      → equations_of b entry store ≡ system_at p pair.tables pair.store t
  of_task below b entry store same begins reads =
      (λ i. equations_of (same i) (begins i) (reads i)) ∙ sym (task_is p is pair fits t below)

  -- those of the initial section
  pub of_section : p.tasks ≤ t → (b : Body) (entry : Option State) (store : Interferences) → b ≡ body_at p t
      → entry ≡ Some (first_state p.laid p.tasks) → store ≡ no_interference
      → equations_of b entry store ≡ system_at p pair.tables pair.store t
  of_section past b entry store same begins reads =
      let here = same ∙ ap (body_at p) (is_section p is pair fits t lt past) in
      (λ i. equations_of (here i) (begins i) (reads i)) ∙ sym (section_is p is pair fits t past)

  module _ (b : Body) (entry : Option State) (store : Interferences) (same : b ≡ body_at p t)
      (system : equations_of b entry store ≡ system_at p pair.tables pair.store t)
      (xs : List (Option State)) (table : table_at pair.tables t ≡ xs) where
    abbrev sys : System State
    sys = equations_of b entry store

    -- as many states as nodes
    pub nodes_are : length xs ≡ length b.nodes
    nodes_are = ap length (sym table) ∙ fits.nodes t lt ∙ ap (λ q. length q.nodes) (sym same)

    -- they fit
    pub states_fit : AreFitting states (FitsBody b) sys (at xs)
    states_fit = subst (λ ys. AreFitting states (FitsBody b) sys (at ys)) table
        (subst (λ q. (n : ℕ) → n < length q.nodes → IfSome (at (table_at pair.tables t) n) (FitsBody q n)) (sym same)
        (table_fits p is pair fits t lt))

    -- a solution of them solves the body
    pub solved_is : IsSolution states (FitsBody b) sys (at xs) → IsSolvedAt p pair.tables pair.store t
    solved_is h =
        subst (λ q. IsSolution states (FitsBody q) (system_at p pair.tables pair.store t) (tables_of pair.tables t))
        same (subst (λ s. IsSolution states (FitsBody b) s (tables_of pair.tables t)) system
        (subst (λ ys. IsSolution states (FitsBody b) sys (at ys)) (sym table) h))

    first_is : (first : Uncovered) → IsFirstUncovered states (FitsBody b) sys (at xs) first
        → IsFirstUncovered states (FitsBody (body_at p t)) (system_at p pair.tables pair.store t)
        (tables_of pair.tables t) first
    first_is first h =
        subst (λ q. IsFirstUncovered states (FitsBody q) (system_at p pair.tables pair.store t)
        (tables_of pair.tables t) first) same
        (subst (λ s. IsFirstUncovered states (FitsBody b) s (tables_of pair.tables t) first) system
        (subst (λ ys. IsFirstUncovered states (FitsBody b) sys (at ys) first) (sym table) h))

    -- the first that is not covered has a number in the copies
    pub number_within : (first : Uncovered) → IsFirstUncovered states (FitsBody b) sys (at xs) first
        → (let q = body_at p t in IsNumberedIn q.edges q.copies first)
    number_within first h =
        subst (λ q. IsNumberedIn q.edges q.copies first) same
        (numbered b (is.sorts t) (subst (λ q. IsBody q (is.sorts t)) (sym same) (is.each t lt).body) entry store (at xs)
        first h)

    -- the number of the first that is not covered
    pub uncovered_is : (first : Uncovered) → IsFirstUncovered states (FitsBody b) sys (at xs) first → (edge : ℕ)
        → (let q = body_at p t in edge ≡ number_in q.copies first) → IsUncoveredIn p pair t edge
    uncovered_is first h edge number =
        record { first = first; is = first_is first h; number = number ∙ number_is first }

    -- what the edges of a task contribute
    pub contributed_is : t < p.tasks → (added : Interferences)
        → added ≡ added_below sys.links no_interference (λ k s. added_along b (copy_at b k) s) joined_store
        (length sys.links) (at xs) → added ≡ contributed_at p pair t
    contributed_is below added h =
        h ∙ ap (λ q. added_below (map link_of q.copies) no_interference (λ k s. added_along q (copy_at q k) s)
        joined_store (length (map link_of q.copies)) (at xs)) same
        ∙ ap (λ ys. added_at p t (at ys)) (sym table) ∙ sym (task_given p is pair fits t below)
