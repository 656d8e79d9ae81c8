-- When each edge is covered.
use Rattle.std.proofs.Common.{◌≡◌, ◌≢◌, ◌↔◌, ℕ, zero, suc, ◌<◌, ◌⊎◌, Bool, true, false, IsTrue, Option, Some, None, IfSome, sym, ap, subst, ◌∙◌, inl, inr, refl, arith}
use Rattle.std.proofs.lemmas.Bool.{cases_lt, cases_eq, false≢true}
use Rattle.std.specs.Option.{option_map}
use Rattle.tm_lattice.specs.declared.lattices.Lattice as lattice
use Rattle.tm_lattice.specs.LatticeLaws.{IsOrder, IsJoin}
use Rattle.tm_lattice.specs.Tables.{IsBelow}
use Rattle.table_covers.specs.Systems.{System, IsLawfulSystem, from_of, to_of}
use Rattle.table_covers.specs.Solutions.{NodeTable, entry_at, edge_count, along, gathered, AreFitting, IsCovered, IsSolution, IsEdgeMet, IsCoveredBy, IsEdgeCovered, IsEntryCovered}
use Rattle.table_covers.specs.laws.Closing as closing
use Rattle.table_covers.specs.laws.Iterates as iterates

module _ {V M : Type 0} (states : lattice.Ghosts V M) (suits : ℕ → V → Type 0) (sys : System V)
    (order : IsOrder states.is_value states.leq) (join : IsJoin states.is_value states.leq states.joined)
    (law : IsLawfulSystem states.is_value states.leq states.joined suits sys)
    (table : NodeTable V) (fit : AreFitting states suits sys table) where
  abbrev Below : Option V → Option V → Type 0
  Below x y = IsBelow states.leq x y

  abbrev Covered : ℕ → Type 0
  Covered n = IsCovered states suits sys table n

  abbrev all : ℕ → Option V
  all n = gathered states suits sys (edge_count states suits sys) n table

  abbrev to : ℕ → ℕ
  to e = to_of (sys.links) e

  gathered_fits : (n : ℕ) → IfSome (all n) (suits n)
  gathered_fits n = iterates.gathered_fits states suits sys order join law (edge_count states suits sys) n table (omega arith) fit

  pub head_none : (n : ℕ) (x : Option V) → n < sys.node_count → x ≡ all n → x ≡ None → Covered n
  head_none n x lt is none =
      iterates.covered_from states suits sys order join law table n lt fit (subst (λ y. Below (option_map (sys.outward n) y) (table n)) (sym none ∙ is) tt)

  pub head_fits : (n : ℕ) (x : Option V) (v : V) → x ≡ all n → x ≡ Some v → suits n v
  head_fits n x v is some = subst (λ y. IfSome y (suits n)) (sym is ∙ some) (gathered_fits n)

  pub head_some : (n : ℕ) (x : Option V) (v w : V) (b : Bool) → n < sys.node_count → x ≡ all n → x ≡ Some v → w ≡ sys.outward n v → (IsTrue b ↔ Below (Some w) (table n)) → IsTrue b ↔ Covered n
  head_some n x v w b lt is some rounded told =
      let same : Some w ≡ option_map (sys.outward n) (all n) = ap Some rounded ∙ ap (option_map (sys.outward n)) (sym some ∙ is) in (
        λ yes. iterates.covered_from states suits sys order join law table n lt fit (subst (λ y. Below y (table n)) same (told.0 yes)),
        λ covered. told.1 (subst (λ y. Below y (table n)) (sym same) (iterates.from_covered states suits sys order join law table n lt fit covered)),
      )

  -- what is bounded at a covered node lies below what stands there
  under : (n : ℕ) (x : Option V) → n < sys.node_count → (c : Covered n) → IfSome x (suits n) → Below x c.bound → Below x (table n)
  under n x lt c x-fits le =
      let outer = closing.outward_fits states suits sys order join law n c.bound c.is_bound.fits in
      closing.transitive states suits sys order join law n x (option_map (sys.outward n) c.bound) (table n) x-fits outer (fit n lt)
      (closing.transitive states suits sys order join law n x c.bound (option_map (sys.outward n) c.bound) x-fits c.is_bound.fits outer le (closing.extensive states suits sys order join law n c.bound c.is_bound.fits))
      c.rounding

  pub entry_covered : IsSolution states suits sys table → IsEntryCovered states suits sys table
  entry_covered solution = under 0 (sys.entry) law.some_node (solution.covers 0 law.some_node) law.entry_fits (solution.covers 0 law.some_node).is_bound.entry

  pub edge_covered : IsSolution states suits sys table → (e : ℕ) → e < edge_count states suits sys → IsEdgeCovered states suits sys table e
  edge_covered solution e lt =
      let n-lt = law.to_node e lt in
      let c = solution.covers (to e) n-lt in
      let met : IsEdgeMet states suits sys table e =
      under (to e) (along states suits sys e table) n-lt c (closing.brought_fits states suits sys order join law e (table (from_of (sys.links) e)) lt (fit _ (law.from_node e lt))) (c.is_bound.edges e lt refl) in
      elim (sys.heads (to e)) as (λ b. IsCoveredBy states suits sys b table e) [ true ↦ c | false ↦ met ]

  -- some edge leads to the node, or none does
  into : (n k : ℕ) → ((e : ℕ) × ((e < k) × (to e ≡ n))) ⊎ ((e : ℕ) → e < k → to e ≢ n)
  into n zero = inr (λ e lt. absurd (omega arith))
  into n (suc k) = elim (into n k) [
    | inl some ↦ inl (some.0, (omega arith, some.1.1))
    | inr none ↦ elim (cases_eq (to k) n) [
      | inl same ↦ inl (k, (omega arith, same))
      | inr differ ↦ inr (λ e lt. elim (cases_lt e k) [
        | inl before ↦ none e before
        | inr last ↦ let is : k ≡ e = omega arith in subst (λ i. to i ≢ n) is differ
      ])
    ]
  ]

  at_head : (e : ℕ) → sys.heads (to e) ≡ true → IsEdgeCovered states suits sys table e → Covered (to e)
  at_head e head covered = subst (λ b. IsCoveredBy states suits sys b table e) head covered

  at_plain : (e : ℕ) → sys.heads (to e) ≡ false → IsEdgeCovered states suits sys table e → IsEdgeMet states suits sys table e
  at_plain e plain covered = subst (λ b. IsCoveredBy states suits sys b table e) plain covered

  plain_round : (n : ℕ) (x : Option V) → sys.heads n ≡ false → IfSome x (suits n) → option_map (sys.outward n) x ≡ x
  plain_round n None plain x-fits = refl
  plain_round n (Some v) plain x-fits = ap Some (law.plain n v plain x-fits)

  covers : IsEntryCovered states suits sys table → ((e : ℕ) → e < edge_count states suits sys → IsEdgeCovered states suits sys table e) → (n : ℕ) (b : Bool) → sys.heads n ≡ b → n < sys.node_count → Covered n
  covers entry each zero true head lt = absurd (false≢true (sym law.first_plain ∙ head))
  covers entry each (suc m) true head lt = elim (into (suc m) (edge_count states suits sys)) [
    | inl some ↦ subst Covered some.1.1 (at_head some.0 (ap (sys.heads) some.1.1 ∙ head) (each some.0 some.1.0))
    | inr none ↦ record { bound = None; is_bound = record { fits = tt; entry = tt; edges = λ e within same. absurd (none e within same) }; rounding = tt }
  ]
  covers entry each n false plain lt = record {
    bound = table n;
    is_bound = record {
      fits = fit n lt;
      entry = elim n as (λ m. Below (entry_at (sys.entry) m) (table m)) [ zero ↦ entry | suc m ↦ tt ];
      edges = λ e within same. subst (λ m. Below (along states suits sys e table) (table m)) same (at_plain e (ap (sys.heads) same ∙ plain) (each e within));
    };
    rounding = subst (λ x. Below x (table n)) (sym (plain_round n (table n) plain (fit n lt))) (closing.reflexive states suits sys order join law n (table n) (fit n lt));
  }

  pub solution_from : IsEntryCovered states suits sys table → ((e : ℕ) → e < edge_count states suits sys → IsEdgeCovered states suits sys table e) → IsSolution states suits sys table
  solution_from entry each = record { fits = fit; covers = λ n lt. covers entry each n (sys.heads n) refl lt }
