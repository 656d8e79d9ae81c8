-- What code finds from the front and the touched cells alone meets an edge in what its end owns.
use Rattle.std.proofs.Common.{◌≡◌, ℕ, Bool, true, false, Option, Some, None, sym, subst, refl}
use Rattle.table_covers.specs.tm_lattice.declared.lattices.Lattice as lattice
use Rattle.table_covers.specs.Systems.{System}
use Rattle.sparse_tables.specs.Sparse.{Parts, Placing, IsFramed, IsOwnBelow, AgreeOn, GiveAlike, IsLocal}
use Rattle.sparse_tables.specs.Sparse.{CarriesCell, carried}

module _ {V F C M : Type 0} (states : lattice.Ghosts V M) (suits : ℕ → V → Type 0) (sys : System V)
    (parts : Parts V F C) (place : Placing) where
  -- What a small state, which agrees with the state where the edge may look, brings: the front and the touched cells
  -- lie below what is owned there, and so do the untouched cells of the state itself as the edge carries them.
  pub record IsMetSmall (e n : ℕ) (s t u : V) : Type 0 where
    pub front : parts.front_leq (parts.front t) (parts.front u)
    pub touched : (x : ℕ) → place.owns n x ≡ true → place.touches e x ≡ true
        → parts.cell_leq (parts.cell t x) (parts.cell u x)
    pub passed : (x : ℕ) → place.owns n x ≡ true → place.touches e x ≡ false
        → parts.cell_leq (carried states suits sys parts place e x (parts.cell s x)) (parts.cell u x)

  abbrev pub IsMetBySmall : ℕ → ℕ → V → Option V → Option V → Type 0
  IsMetBySmall e n s None y = Unit {0}
  IsMetBySmall e n s (Some t) None = ⊥
  IsMetBySmall e n s (Some t) (Some u) = IsMetSmall e n s t u

  by_touch : (e x : ℕ) (P : Type 0) → (place.touches e x ≡ true → P) → (place.touches e x ≡ false → P) → P
  by_touch e x P touched passed =
      let split : (b : Bool) → place.touches e x ≡ b → P = λ b. elim b as (λ c. place.touches e x ≡ c → P) [
        | true ↦ touched
        | false ↦ passed
      ] in
      split (place.touches e x) refl

  by_results : (e n : ℕ) → ((x : ℕ) → place.touches e x ≡ true → place.looks e x ≡ true) → (s : V)
      (a b y : Option V) → sys.after e s ≡ b → IsFramed states suits sys parts place e s
      → GiveAlike states suits sys parts place e a b → IsMetBySmall e n s a y
      → IsOwnBelow states suits sys parts place n b y
  by_results e n within s None None y is framed alike met = tt
  by_results e n within s None (Some t) y is framed alike met = absurd alike
  by_results e n within s (Some t) None y is framed alike met = tt
  by_results e n within s (Some t) (Some v) None is framed alike met = absurd met
  by_results e n within s (Some t) (Some v) (Some u) is framed alike met = record {
    front = subst (λ f. parts.front_leq f (parts.front u)) alike.front met.front;
    cells = λ x own.
        by_touch e x (parts.cell_leq (parts.cell v x) (parts.cell u x))
        (λ touches. subst (λ c. parts.cell_leq c (parts.cell u x)) (alike.cells x (within x touches)) (met.touched x own touches))
        (λ passes.
        let same : parts.cell v x ≡ carried states suits sys parts place e x (parts.cell s x) =
        subst (CarriesCell states suits sys parts place e x s) is (framed x passes) in
        subst (λ c. parts.cell_leq c (parts.cell u x)) (sym same) (met.passed x own passes));
  }

  pub small_suffices : (e n : ℕ) → ((x : ℕ) → place.touches e x ≡ true → place.looks e x ≡ true) → (small s : V)
      (y : Option V) → AgreeOn states suits sys parts place e small s
      → IsLocal states suits sys parts place e small s → IsFramed states suits sys parts place e s
      → IsMetBySmall e n s (sys.after e small) y → IsOwnBelow states suits sys parts place n (sys.after e s) y
  small_suffices e n within small s y agree local framed met =
      by_results e n within s (sys.after e small) (sys.after e s) y refl framed (local agree) met
