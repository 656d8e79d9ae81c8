-- Where the work list begins.
use Rattle.std.proofs.Common.{◌≡◌, ◌≢◌, ℕ, zero, suc, ◌<◌, List, Option, Some, None, IfSome, length, get_or, set, refl, sym, ap, subst, ◌∙◌, arith}
use Rattle.std.proofs.lemmas.List.{get_or-set_same, get_or-set_other, length-set}
use Rattle.std.specs.Option.{option_map}
use Rattle.tm_lattice.specs.declared.lattices.Lattice as lattice
use Rattle.tm_lattice.specs.LatticeLaws.{IsOrder, IsJoin}
use Rattle.tm_lattice.specs.Tables.{IsBelow}
use Rattle.table_covers.specs.Systems.{System, IsLawfulSystem}
use Rattle.table_covers.specs.Solutions.{NodeTable, at, entry_at, IsClosedTable}
use Rattle.least_tables.specs.Settling.{first_table}
use Rattle.least_tables.specs.reading.WorkLists.{IsStart}
use Rattle.table_covers.specs.laws.Closing as closing

module _ {V M : Type 0} (states : lattice.Ghosts V M) (suits : ℕ → V → Type 0) (sys : System V)
    (order : IsOrder states.is_value states.leq) (join : IsJoin states.is_value states.leq states.joined)
    (law : IsLawfulSystem states.is_value states.leq states.joined suits sys) where
  -- a table with what is known at its first node, and bottom elsewhere
  start_at : (table : List (Option V)) (x : Option V) → length table ≡ sys.node_count → at table 0 ≡ x → ((n : ℕ) → at table (suc n) ≡ None)
      → IfSome x (suits 0) → IfSome x (λ v. sys.outward 0 v ≡ v) → IsBelow states.leq (sys.entry) x
      → x ≡ option_map (sys.outward 0) (sys.entry)
      → ((other : NodeTable V) → IsClosedTable states suits sys other → IsBelow states.leq x (other 0)) → IsStart states suits sys table
  start_at table x nodes here there fits round above first least =
      let each : (P : ℕ → Option V → Type 0) → P 0 x → ((n : ℕ) → P (suc n) None) → (n : ℕ) → n < sys.node_count → P n (at table n) = λ P p q n lt.
      elim n as (λ m. P m (at table m)) [ zero ↦ subst (P 0) (sym here) p | suc m ↦ subst (P (suc m)) (sym (there m)) (q m) ] in
      record {
        nodes = nodes;
        first = each (λ n y. y ≡ first_table states suits sys n) first (λ n. refl);
        started = record {
          fits = each (λ n y. IfSome y (suits n)) fits (λ n. tt);
          round = each (λ n y. IfSome y (λ v. sys.outward n v ≡ v)) round (λ n. tt);
          entry = each (λ n y. IsBelow states.leq (entry_at (sys.entry) n) y) above (λ n. tt);
        };
        below = λ other closed. each (λ n y. IsBelow states.leq y (other n)) (least other closed) (λ n. tt);
      }

  pub start_none : (table : List (Option V)) (first : Option V) → length table ≡ sys.node_count → ((n : ℕ) → get_or table n None ≡ None) → first ≡ sys.entry → first ≡ None → IsStart states suits sys table
  start_none table first nodes each is none =
      start_at table None nodes (each 0) (λ n. each (suc n)) tt tt (subst (λ x. IsBelow states.leq x None) (sym none ∙ is) tt) (ap (option_map (sys.outward 0)) (sym none ∙ is)) (λ other closed. tt)

  pub start_some : (table : List (Option V)) (first : Option V) (v w : V) → length table ≡ sys.node_count → ((n : ℕ) → get_or table n None ≡ None) → first ≡ sys.entry → first ≡ Some v
      → w ≡ sys.outward 0 v → IsStart states suits sys (set table 0 (Some w))
  start_some table first v w nodes each is some rounded =
      let entry : sys.entry ≡ Some v = sym is ∙ some in
      let v-fits : suits 0 v = subst (λ x. IfSome x (suits 0)) entry law.entry_fits in
      let out : V = sys.outward 0 v in
      let at_first : at (set table 0 (Some w)) 0 ≡ Some out = get_or-set_same table 0 (Some w) None (subst (λ n. 0 < n) (sym nodes) law.some_node) ∙ ap Some rounded in
      start_at (set table 0 (Some w)) (Some out) (length-set table 0 (Some w) ∙ nodes) at_first
      (λ n. let differ : suc n ≢ 0 = omega arith in get_or-set_other table 0 (suc n) (Some w) None differ ∙ each (suc n))
      (law.outward_fits 0 v v-fits) (law.idempotent 0 v v-fits) (subst (λ x. IsBelow states.leq x (Some out)) (sym entry) (law.extensive 0 v v-fits))
      (ap (option_map (sys.outward 0)) (sym entry))
      (λ other closed.
      let o-fits = closed.started.fits 0 law.some_node in
      let above : IsBelow states.leq (Some v) (other 0) = subst (λ x. IsBelow states.leq x (other 0)) entry (closed.started.entry 0 law.some_node) in
      subst (IsBelow states.leq (Some out)) (closing.outward_round states suits sys order join law 0 (other 0) (closed.started.round 0 law.some_node))
      (closing.rising states suits sys order join law 0 (Some v) (other 0) v-fits o-fits above))
