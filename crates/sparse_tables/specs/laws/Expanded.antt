-- The expansion of fronts and slots is thin; and where every node owns every cell, sparse tables are all tables.
use Rattle.std.proofs.Common.{◌≡◌, ℕ, ◌<◌, true, false, Option, Some, None, IfSome, sym, ap, ◌∙◌, refl}
use Rattle.std.proofs.lemmas.Bool.{true≢false}
use Rattle.table_covers.specs.tm_lattice.declared.lattices.Lattice as lattice
use Rattle.table_covers.specs.Systems.{System}
use Rattle.table_covers.specs.Solutions.{NodeTable}
use Rattle.sparse_tables.specs.Sparse.{Parts, Placing, IsPlaced, IsThin, SameCell}

module _ {V F C M : Type 0} (states : lattice.Ghosts V M) (suits : ℕ → V → Type 0) (sys : System V)
    (parts : Parts V F C) (place : Placing) (fronts : ℕ → Option F) (values : ℕ → ℕ → C) where
  abbrev pub IsThere : Option F → Type 0
  IsThere x = IfSome x (λ f. Unit {0})

  abbrev pub StandsAt : ℕ → Option F → Option V → Type 0
  StandsAt n None None = Unit {0}
  StandsAt n None (Some s) = ⊥
  StandsAt n (Some f) None = ⊥
  StandsAt n (Some f) (Some s) =
      (parts.front s ≡ f) × ((x : ℕ) → parts.cell s x ≡ values (place.kept_at n x) x)

  abbrev pub IsKeptThere : Option F → Option F → Type 0
  IsKeptThere None y = Unit {0}
  IsKeptThere (Some f) None = ⊥
  IsKeptThere (Some f) (Some g) = Unit {0}

  -- at each node with a front the front, and of each cell what stands in its slot where it is kept; a node at which
  -- something is kept for one with a front has a front
  pub record IsExpansion (table : NodeTable V) : Type 0 where
    pub stands : (n : ℕ) → n < sys.node_count → StandsAt n (fronts n) (table n)
    pub whole : (n x : ℕ) → n < sys.node_count → IsKeptThere (fronts n) (fronts (place.kept_at n x))

  module _ (placed : IsPlaced states suits sys parts place) (table : NodeTable V) (expansion : IsExpansion table) where
    thin_at : (n x k : ℕ) → place.kept_at n x ≡ k → place.kept_at k x ≡ k → (f g : Option F) (s r : Option V)
        → StandsAt n f s → StandsAt k g r → IsKeptThere f g → SameCell states suits sys parts place x s r
    thin_at n x k at own f g None r here there whole = tt
    thin_at n x k at own None g (Some s) r here there whole = absurd here
    thin_at n x k at own (Some f) None (Some s) r here there whole = absurd whole
    thin_at n x k at own (Some f) (Some g) (Some s) None here there whole = absurd there
    thin_at n x k at own (Some f) (Some g) (Some s) (Some r) here there whole =
        here.1 x ∙ ap (λ m. values m x) (at ∙ sym own) ∙ sym (there.1 x)

    pub expansion_is_thin : IsThin states suits sys parts place table
    expansion_is_thin n x lt =
        let k = place.kept_at n x in
        thin_at n x k refl (placed.own k x (placed.kept n x lt)) (fronts n) (fronts k) (table n) (table k)
        (expansion.stands n lt) (expansion.stands k (placed.within n x lt)) (expansion.whole n x lt)

-- Every node owns every cell: the premises of all laws can be met.
module _ {V F C M : Type 0} (states : lattice.Ghosts V M) (suits : ℕ → V → Type 0) (sys : System V)
    (parts : Parts V F C) where
  abbrev pub everywhere : Placing
  everywhere = record {
    touches = λ e x. true;
    looks = λ e x. true;
    carries = λ e x. false;
    owns = λ n x. true;
    kept_at = λ n x. n;
  }

  pub everywhere_placed : IsPlaced states suits sys parts everywhere
  everywhere_placed = record {
    within = λ n x lt. lt;
    kept = λ n x lt. refl;
    own = λ n x own. refl;
    entry = λ x. refl;
    looked = λ e x lt touched. touched;
    untouched = λ e x lt other. absurd (true≢false other);
    uncarried = λ e x lt other. refl;
    same = λ e x lt other. absurd (true≢false other);
    plain = λ n x s lt fits other. absurd (true≢false other);
  }
