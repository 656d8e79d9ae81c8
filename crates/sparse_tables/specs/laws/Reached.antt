-- What holds of each node that the least solution reaches: induction along how it is reached.
use Rattle.std.proofs.Common.{◌≡◌, ℕ, zero, suc, ◌<◌, ◌≤◌, ◌==◌, Bool, true, false, Option, Some}
use Rattle.std.proofs.Common.{None, IfSome, sym, subst, refl, arith, eqb-true}
use Rattle.std.proofs.lemmas.Option.{none-some}
use Rattle.std.specs.Option.{option_map}
use Rattle.table_covers.specs.tm_lattice.declared.lattices.Lattice as lattice
use Rattle.table_covers.specs.tm_lattice.LatticeLaws.{IsOrder, IsJoin}
use Rattle.table_covers.specs.tm_lattice.Tables.{IsBelow, joined_at}
use Rattle.table_covers.specs.Systems.{System, IsLawfulSystem, from_of, to_of}
use Rattle.table_covers.specs.Solutions.{NodeTable, brought, entry_at, edge_count, along, IsNodewiseBelow}
use Rattle.table_covers.specs.Solutions.{IsSolution, IsLeastSolution, with_edge, gathered, all_applied, iterate, room_below, least_of}
use Rattle.table_covers.specs.laws.Closing as closing
use Rattle.table_covers.specs.laws.Iterates as iterates

module _ {V M : Type 0} (states : lattice.Ghosts V M) (suits : ℕ → V → Type 0) (sys : System V)
    (order : IsOrder states.is_value states.leq) (join : IsJoin states.is_value states.leq states.joined)
    (law : IsLawfulSystem states.is_value states.leq states.joined suits sys) where
  abbrev Below : Option V → Option V → Type 0
  Below x y = IsBelow states.leq x y

  abbrev from : ℕ → ℕ
  from e = from_of sys.links e

  abbrev to : ℕ → ℕ
  to e = to_of sys.links e

  abbrev edges : ℕ
  edges = edge_count states suits sys

  abbrev nodes : ℕ
  nodes = sys.node_count

  abbrev rounds : ℕ → NodeTable V
  rounds k = iterate states suits sys k

  abbrev gather : ℕ → ℕ → NodeTable V → Option V
  gather k n table = gathered states suits sys k n table

  -- each round lies below each solution
  pub rounds_below : (k : ℕ) (other : NodeTable V) → IsSolution states suits sys other
      → IsNodewiseBelow states suits sys (rounds k) other
  rounds_below zero other solution n lt = tt
  rounds_below (suc k) other solution n lt =
      let fit = solution.fits in
      closing.transitive states suits sys order join law n (rounds (suc k) n)
      (all_applied states suits sys other n) (other n)
      (iterates.rounds_fit states suits sys order join law (suc k) n lt)
      (iterates.next_fits states suits sys order join law other fit n lt)
      (fit n lt)
      (iterates.next_rises states suits sys order join law (rounds k) other
      (iterates.rounds_fit states suits sys order join law k) fit (rounds_below k other solution) n lt)
      (iterates.from_covered states suits sys order join law other n lt fit (solution.covers n lt))

  -- ## What is gathered is brought by something

  module _ (Q : Type 0) where
    abbrev If : Option V → Type 0
    If x = IfSome x (λ v. Q)

    always : (x : Option V) → Q → If x
    always None q = tt
    always (Some v) q = q

    mapped : (f : V → V) (x : Option V) → If x → If (option_map f x)
    mapped f None q = tt
    mapped f (Some v) q = q

    with_last : (b : Bool) (y z : Option V) → If y → (b ≡ true → If z) → If (with_edge states suits sys b y z)
    with_last false y z rest last = rest
    with_last true None z rest last = last refl
    with_last true (Some v) z rest last = always (joined_at states.joined (Some v) z) rest

    from_entry : (n : ℕ) (x : Option V) → entry_at sys.entry n ≡ x → (n ≡ 0 → Q) → If x
    from_entry n None is entry = tt
    from_entry zero (Some v) is entry = entry refl
    from_entry (suc n) (Some v) is entry = absurd (none-some v is)

    from_edge : (x y : Option V) → x ≡ y → ((v : V) → x ≡ Some v → Q) → If y
    from_edge x None is edge = tt
    from_edge x (Some v) is edge = edge v is

    from_gathered : (k n : ℕ) (table : NodeTable V) → k ≤ edges → (n ≡ 0 → Q)
        → ((e : ℕ) (v : V) → e < edges → to e ≡ n → along states suits sys e table ≡ Some v → Q)
        → If (gather k n table)
    from_gathered zero n table le entry edge = from_entry n (entry_at sys.entry n) refl entry
    from_gathered (suc e) n table le entry edge =
        with_last (to e == n) (gather e n table) (along states suits sys e table)
        (from_gathered e n table (omega arith) entry edge)
        (λ is. from_edge (along states suits sys e table) (along states suits sys e table) refl
        (λ v brings. edge e v (omega arith) (eqb-true (to e) n is) brings))

  -- ## Along how a node is reached

  module _ (table : NodeTable V) (solution : IsSolution states suits sys table)
      (P : ℕ → Type 0) (begins : P 0)
      (goes : (e : ℕ) → e < edges → (s t : V) → table (from e) ≡ Some s → sys.after e s ≡ Some t → P (from e)
      → P (to e)) where
    by_after : (e : ℕ) → e < edges → (w s : V) → table (from e) ≡ Some s → suits (from e) w → suits (from e) s
        → states.leq w s → P (from e) → (v : V) → sys.after e w ≡ Some v → (a : Option V) → sys.after e s ≡ a → P (to e)
    by_after e lt w s is w-fits s-fits le p v goes' None none =
        absurd (let low = law.monotone e w s lt w-fits s-fits le in
        subst (λ x. Below (Some v) x) none (subst (λ x. Below x (sys.after e s)) goes' low))
    by_after e lt w s is w-fits s-fits le p v goes' (Some t) some = goes e lt s t is some p

    by_source : (e : ℕ) → e < edges → (w v : V) → suits (from e) w → sys.after e w ≡ Some v → P (from e)
        → (x : Option V) → table (from e) ≡ x → IfSome x (suits (from e)) → Below (Some w) x → P (to e)
    by_source e lt w v w-fits goes' p None is fits le = absurd le
    by_source e lt w v w-fits goes' p (Some s) is fits le =
        by_after e lt w s is w-fits fits le p v goes' (sys.after e s) refl

    by_round : (k e : ℕ) → e < edges → (v : V) → ((x : Option V) → rounds k (from e) ≡ x → IfSome x (λ w. P (from e)))
        → (x : Option V) → rounds k (from e) ≡ x → IfSome x (suits (from e)) → Below x (table (from e))
        → brought (sys.after e) x ≡ Some v → P (to e)
    by_round k e lt v before None is fits le brings = absurd (none-some v brings)
    by_round k e lt v before (Some w) is fits le brings =
        by_source e lt w v fits brings (before (Some w) is) (table (from e)) refl
        (solution.fits (from e) (law.from_node e lt)) le

    in_round : (k n : ℕ) → n < nodes → IfSome (rounds k n) (λ v. P n)
    in_round zero n lt = tt
    in_round (suc k) n lt = mapped (P n) (sys.outward n) (gather edges n (rounds k))
        (from_gathered (P n) edges n (rounds k) (omega arith) (λ is. subst P (sym is) begins)
        (λ e v within same brings.
        subst P same (by_round k e within v
        (λ x is. subst (λ y. IfSome y (λ w. P (from e))) is (in_round k (from e) (law.from_node e within)))
        (rounds k (from e)) refl
        (iterates.rounds_fit states suits sys order join law k (from e) (law.from_node e within))
        (rounds_below k table solution (from e) (law.from_node e within)) brings)))

  pub reached : (table : NodeTable V) → IsLeastSolution states suits sys table → (P : ℕ → Type 0) → P 0
      → ((e : ℕ) → e < edges → (s t : V) → table (from e) ≡ Some s → sys.after e s ≡ Some t → P (from e) → P (to e))
      → (n : ℕ) → n < nodes → IfSome (table n) (λ s. P n)
  reached table least P begins goes n lt =
      let last = room_below states suits sys sys.node_count (λ m. None) in
      subst (λ x. IfSome x (λ s. P n))
      (iterates.least_is_one states suits sys order join law (least_of states suits sys) table
      (iterates.least_is_least states suits sys order join law) least n lt)
      (in_round table least.solves P begins goes last n lt)
