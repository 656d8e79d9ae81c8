-- A thin table is a closed one where what nodes own is met.
use Rattle.std.proofs.Common.{◌≡◌, ℕ, zero, suc, ◌<◌, Bool, true, false, Option, Some, None, IfSome, sym, subst, ◌∙◌, refl}
use Rattle.std.specs.Prelude.{if◌then◌else◌}
use Rattle.std.proofs.lemmas.Bool.{cond-false}
use Rattle.table_covers.specs.tm_lattice.declared.lattices.Lattice as lattice
use Rattle.table_covers.specs.tm_lattice.LatticeLaws.{IsOrder}
use Rattle.table_covers.specs.tm_lattice.Tables.{IsBelow}
use Rattle.table_covers.specs.Systems.{System, IsLawfulSystem, from_of, to_of}
use Rattle.table_covers.specs.Solutions.{NodeTable, brought, entry_at, edge_count, IsClosedTable}
use Rattle.sparse_tables.specs.Sparse.{Parts, Placing, AreParts, IsPlaced, IsSparseClosed, IsUnderAt}
use Rattle.sparse_tables.specs.Sparse.{IsOwnBelow, SameCell, CarriesCell}

module _ {V F C M : Type 0} (states : lattice.Ghosts V M) (suits : ℕ → V → Type 0) (sys : System V)
    (parts : Parts V F C) (place : Placing)
    (order : IsOrder states.is_value states.leq)
    (law : IsLawfulSystem states.is_value states.leq states.joined suits sys)
    (made : AreParts states suits sys parts place) (placed : IsPlaced states suits sys parts place) where
  abbrev Below : Option V → Option V → Type 0
  Below x y = IsBelow states.leq x y

  abbrev from : ℕ → ℕ
  from e = from_of sys.links e

  abbrev to : ℕ → ℕ
  to e = to_of sys.links e

  abbrev edges : ℕ
  edges = edge_count states suits sys

  abbrev Same : ℕ → Option V → Option V → Type 0
  Same x s t = SameCell states suits sys parts place x s t

  pub by_ownership : (n x : ℕ) (P : Type 0) → (place.owns n x ≡ true → P) → (place.owns n x ≡ false → P) → P
  by_ownership n x P own other =
      let split : (b : Bool) → place.owns n x ≡ b → P = λ b. elim b as (λ c. place.owns n x ≡ c → P) [
        | true ↦ own
        | false ↦ other
      ] in
      split (place.owns n x) refl

  -- what an edge does not carry it leaves as it is
  pub uncarried : (e x : ℕ) (c : C) → place.carries e x ≡ false
      → (if place.carries e x then parts.carry e x c else c) ≡ c
  uncarried e x c other = cond-false (place.carries e x) (parts.carry e x c) c other

  pub cell_reflexive : (n : ℕ) (s : V) → suits n s → (x : ℕ) → parts.cell_leq (parts.cell s x) (parts.cell s x)
  cell_reflexive n s fits x = made.cell_rises n s s fits fits (order.reflexive s (law.value n s fits)) x

  -- what is the same as the same is the same
  kept_alike : (x : ℕ) (s u : V) (y : Option V) → Same x (Some s) y → Same x (Some u) y
      → parts.cell s x ≡ parts.cell u x
  kept_alike x s u None one other = absurd one
  kept_alike x s u (Some r) one other = one ∙ sym other

  module _ (table : NodeTable V) (closed : IsSparseClosed states suits sys parts place table) where
    -- ## Rounding

    round_state : (n : ℕ) → n < sys.node_count → (x : Option V) → table n ≡ x → IfSome x (suits n)
        → ((c : ℕ) → place.owns n c ≡ true → IfSome x (λ s. parts.cell (sys.outward n s) c ≡ parts.cell s c))
        → IfSome x (λ s. sys.outward n s ≡ s)
    round_state n lt None is fits round = tt
    round_state n lt (Some s) is fits round =
        made.equal n (sys.outward n s) s (law.outward_fits n s fits) fits (made.outward_front n s fits)
        (λ c. by_ownership n c (parts.cell (sys.outward n s) c ≡ parts.cell s c) (round c)
        (placed.plain n c s lt fits))

    -- ## Edges

    met_state : (e : ℕ) → e < edges → (s t u : V) → table (from e) ≡ Some s → sys.after e s ≡ Some t
        → table (to e) ≡ Some u → suits (to e) t → suits (to e) u
        → IsUnderAt states suits sys parts place (to e) t u → states.leq t u
    met_state e lt s t u at brings stands t-fits u-fits under =
        made.below (to e) t u t-fits u-fits under.front
        (λ x. by_ownership (to e) x (parts.cell_leq (parts.cell t x) (parts.cell u x)) (under.cells x)
        (λ other.
        let framed : parts.cell t x ≡ parts.cell s x =
        subst (λ a. CarriesCell states suits sys parts place e x s a) brings
        (closed.framed e lt s at x (placed.untouched e x lt other))
        ∙ uncarried e x (parts.cell s x) (placed.uncarried e x lt other) in
        let here : Same x (Some s) (table (place.kept_at (from e) x)) =
        subst (λ a. Same x a (table (place.kept_at (from e) x))) at
        (closed.thin (from e) x (law.from_node e lt)) in
        let there : Same x (Some u) (table (place.kept_at (to e) x)) =
        subst (λ a. Same x a (table (place.kept_at (to e) x))) stands
        (closed.thin (to e) x (law.to_node e lt)) in
        let alike = kept_alike x s u (table (place.kept_at (to e) x))
        (subst (λ m. Same x (Some s) (table m)) (placed.same e x lt other) here) there in
        subst (λ c. parts.cell_leq c (parts.cell u x)) (sym (framed ∙ alike)) (cell_reflexive (to e) u u-fits x)))

    met_to : (e : ℕ) → e < edges → (s t : V) → table (from e) ≡ Some s → sys.after e s ≡ Some t → suits (to e) t
        → (y : Option V) → table (to e) ≡ y → IfSome y (suits (to e))
        → IsOwnBelow states suits sys parts place (to e) (Some t) y → Below (Some t) y
    met_to e lt s t at brings t-fits None stands u-fits under = absurd under
    met_to e lt s t at brings t-fits (Some u) stands u-fits under =
        met_state e lt s t u at brings stands t-fits u-fits under

    met_by : (e : ℕ) → e < edges → (s : V) → table (from e) ≡ Some s → (a : Option V) → sys.after e s ≡ a
        → IfSome a (suits (to e)) → IsOwnBelow states suits sys parts place (to e) a (table (to e))
        → Below a (table (to e))
    met_by e lt s at None brings fits under = tt
    met_by e lt s at (Some t) brings fits under =
        met_to e lt s t at brings fits (table (to e)) refl (closed.fits (to e) (law.to_node e lt)) under

    met_from : (e : ℕ) → e < edges → (x : Option V) → table (from e) ≡ x → IfSome x (suits (from e))
        → IsOwnBelow states suits sys parts place (to e) (brought (sys.after e) x) (table (to e))
        → Below (brought (sys.after e) x) (table (to e))
    met_from e lt None at fits under = tt
    met_from e lt (Some s) at fits under =
        met_by e lt s at (sys.after e s) refl (law.after_fits e s lt fits) under

    entry_met : (n : ℕ) → n < sys.node_count → Below (entry_at sys.entry n) (table n)
    entry_met zero lt = closed.entry
    entry_met (suc n) lt = tt

    pub sparse_is_closed : IsClosedTable states suits sys table
    sparse_is_closed = record {
      started = record {
        fits = closed.fits;
        round = λ n lt. round_state n lt (table n) refl (closed.fits n lt) (λ c own. closed.round n c lt own);
        entry = entry_met;
      };
      edges = λ e lt. met_from e lt (table (from e)) refl (closed.fits (from e) (law.from_node e lt))
          (closed.edges e lt);
    }
