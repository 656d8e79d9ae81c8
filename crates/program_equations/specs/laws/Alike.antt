-- Tables that agree at each node are alike: solutions, or least solutions, together; and the states of a table, listed,
-- agree with it.
use Rattle.std.specs.Prelude.{◌≡◌, ℕ, zero, suc, ◌<◌, ◌≤◌, List, [], ◌∷◌, ◌++◌, length, get_or, None}
use Rattle.std.specs.Prelude.{IfSome, refl}
use Rattle.std.proofs.Common.{ap, subst, ◌∙◌, inl, inr, arith}
use Rattle.std.proofs.Math.Seq.{get_or-append_seam}
use Rattle.std.proofs.lemmas.Bool.{cases_lt}
use Rattle.std.proofs.lemmas.List.{length-append, get_or_append_left}
use Rattle.std.specs.Option.{option_map}
use Rattle.region_cells.specs.tm_lattice.declared.lattices.Lattice as lattice
use Rattle.region_cells.specs.tm_lattice.Tables.{IsBelow}
use Rattle.task_equations.specs.table_covers.declared.links.Link.{Link}
use Rattle.task_equations.specs.table_covers.Systems.{System, IsLawfulSystem, from_of}
use Rattle.task_equations.specs.table_covers.Solutions.{NodeTable, at, brought, IsSolution, IsLeastSolution}
use Rattle.task_equations.specs.table_covers.Passes.{with_added, added_below}
use Rattle.edge_filters.specs.transfer_rows.StateForms.{State}
use Rattle.program_equations.specs.Systems.{listed}

-- ## Solutions

module _ {V M : Type 0} (states : lattice.Ghosts V M) (suits : ℕ → V → Type 0) (sys : System V)
    (law : IsLawfulSystem states.is_value states.leq states.joined suits sys) (table other : NodeTable V)
    (same : (n : ℕ) → n < sys.node_count → table n ≡ other n) where
  pub solves_alike : IsSolution states suits sys table → IsSolution states suits sys other
  solves_alike h = record {
    fits = λ n lt. subst (λ a. IfSome a (suits n)) (same n lt) (h.fits n lt);
    covers = λ n lt. let c = h.covers n lt in record {
      bound = c.bound;
      is_bound = record {
        fits = c.is_bound.fits;
        entry = c.is_bound.entry;
        edges = λ e within to.
            subst (λ a. IsBelow states.leq (brought (sys.after e) a) c.bound)
            (same (from_of sys.links e) (law.from_node e within)) (c.is_bound.edges e within to);
      };
      rounding = subst (IsBelow states.leq (option_map (sys.outward n) c.bound)) (same n lt) c.rounding;
    };
  }

  pub least_alike : IsLeastSolution states suits sys table → IsLeastSolution states suits sys other
  least_alike h = record {
    solves = solves_alike h.solves;
    below = λ third solution n lt.
        subst (λ a. IsBelow states.leq a (third n)) (same n lt) (h.below third solution n lt);
  }

-- ## Contributions

module _ {V A : Type 0} (links : List Link) (nodes : ℕ) (nothing : A) (contributed : ℕ → V → A) (join : A → A → A)
    (from_node : (e : ℕ) → e < length links → from_of links e < nodes) (table other : NodeTable V)
    (same : (n : ℕ) → n < nodes → table n ≡ other n) where
  -- tables that agree contribute the same
  pub added_alike : (k : ℕ) → k ≤ length links
      → added_below links nothing contributed join k table ≡ added_below links nothing contributed join k other
  added_alike zero le = refl
  added_alike (suc e) le =
      ap (λ z. with_added links nothing contributed join e z (table (from_of links e))) (added_alike e (omega arith))
      ∙ ap (with_added links nothing contributed join e (added_below links nothing contributed join e other))
      (same (from_of links e) (from_node e (omega arith)))

-- ## Lists

module _ (table : NodeTable State) where
  pub listed_length : (n : ℕ) → length (listed n table) ≡ n
  listed_length zero = refl
  listed_length (suc n) =
      length-append (listed n table) (table n ∷ []) ∙ (let before = listed_length n in omega arith)

  -- the states of a table, listed, stand at their nodes
  pub at_listed : (n m : ℕ) → m < n → at (listed n table) m ≡ table m
  at_listed zero m lt = absurd (omega arith)
  at_listed (suc n) m lt = elim (cases_lt m n) [
    | inl before ↦
        get_or_append_left (listed n table) (table n ∷ []) None m (omega (arith, before, listed_length n))
        ∙ at_listed n m before
    | inr past ↦
        let last : m ≡ length (listed n table) = omega (arith, lt, past, listed_length n) in
        let same : n ≡ m = omega (arith, lt, past) in
        ap (λ i. get_or (listed n table ++ table n ∷ []) i None) last
        ∙ (get_or-append_seam (listed n table) (table n) [] None ∙ ap table same)
  ]
