-- What is read of a table along an edge, and what an edge brings to the nodes.
use Rattle.std.proofs.Common.{◌≡◌, ◌∙◌, ℕ, zero, suc, ◌+◌, ◌<◌, ◌==◌, Bool, true, false, List, [], ◌∷◌, ◌++◌, length, get_or, set, take, replicate, Option, Some, None, IfSome, sym, ap, subst, refl, arith, inl, inr}
use Rattle.std.proofs.lemmas.Bool.{cases_eq, eq-eqb, ne_eqb, true≢false}
use Rattle.std.proofs.lemmas.List.{get_or_default, get_or-set_same, get_or-set_other, get_or_push, get_or_append_left, take-append-le, take_all}
use Rattle.tm_lattice.specs.declared.lattices.Lattice as lattice
use Rattle.tm_lattice.specs.Tables.{joined_at}
use Rattle.table_covers.specs.declared.links.Link.{Link}
use Rattle.table_covers.specs.Systems.{System, from_of, to_of}
use Rattle.table_covers.specs.Solutions.{at, entry_at, along, with_edge, gathered}

-- the same everywhere
pub same_anywhere : {X : Type 0} (x : X) (k n : ℕ) → get_or (replicate k x) n x ≡ x
same_anywhere x zero n = refl
same_anywhere x (suc k) zero = refl
same_anywhere x (suc k) (suc n) = same_anywhere x k n

-- ## The node that an edge leaves

module _ {V : Type 0} (ls links : List Link) (table : List (Option V)) (e n : ℕ) (same : ls ≡ links)
    (counted : length table ≡ n) (within : from_of links e < n) where
  pub left_within : from_of ls e < length table
  left_within = subst (λ (l : List Link). from_of l e < length table) (sym same)
      (subst (λ m. from_of links e < m) (sym counted) within)

  pub left_at : (x : Option V) → x ≡ get_or table (from_of ls e) x → at table (from_of links e) ≡ x
  left_at x read = subst (λ (l : List Link). at table (from_of l e) ≡ x) same
      (get_or_default table (from_of ls e) None x left_within ∙ sym read)

  pub left_fits : (x : Option V) (suits : ℕ → V → Type 0) → ((m : ℕ) → m < n → IfSome (at table m) (suits m)) → (v : V)
      → x ≡ get_or table (from_of ls e) x → x ≡ Some v → suits (from_of links e) v
  left_fits x suits fit v read is =
      subst (λ o. IfSome o (suits (from_of links e))) (left_at x read ∙ is) (fit (from_of links e) within)

-- ## The node to which an edge leads

module _ {V M : Type 0} (states : lattice.Ghosts V M) (suits : ℕ → V → Type 0) (sys : System V) (table : ℕ → Option V)
    (e : ℕ) where
  abbrev to : ℕ
  to = to_of sys.links e

  abbrev before : ℕ → Option V
  before n = gathered states suits sys e n table

  abbrev after : ℕ → Option V
  after n = gathered states suits sys (suc e) n table

  with_true : (t : Bool) (x y : Option V) → t ≡ true
      → with_edge states suits sys t x y ≡ joined_at states.joined x y
  with_true true x y h = refl
  with_true false x y h = absurd (true≢false (sym h))

  with_false : (t : Bool) (x y : Option V) → t ≡ false → with_edge states suits sys t x y ≡ x
  with_false true x y h = absurd (true≢false h)
  with_false false x y h = refl

  led : (n : ℕ) → to ≡ n → after n ≡ joined_at states.joined (before n) (along states suits sys e table)
  led n is = with_true (to == n) (before n) (along states suits sys e table) (eq-eqb to n is)

  passed_by : (n : ℕ) → (to ≡ n → ⊥) → after n ≡ before n
  passed_by n differs = with_false (to == n) (before n) (along states suits sys e table) (ne_eqb to n differs)

  -- an edge to a node that is no head brings nothing to heads
  pub other_heads : (xs : List (Option V)) → sys.heads to ≡ false
      → ((n : ℕ) → n < sys.node_count → sys.heads n ≡ true → at xs n ≡ before n)
      → (n : ℕ) → n < sys.node_count → sys.heads n ≡ true → at xs n ≡ after n
  other_heads xs plain so n lt head =
      so n lt head
      ∙ sym (passed_by n (λ is. true≢false (sym head ∙ ap sys.heads (sym is) ∙ plain)))

  -- what it brings to a head is joined to what stands there
  pub joined_head : (xs : List (Option V)) (x y z : Option V) (k : ℕ) → k ≡ to → to < length xs
      → x ≡ get_or xs k x → y ≡ along states suits sys e table → z ≡ joined_at states.joined x y
      → ((n : ℕ) → n < sys.node_count → sys.heads n ≡ true → at xs n ≡ before n)
      → (n : ℕ) → n < sys.node_count → sys.heads n ≡ true → at (set xs k z) n ≡ after n
  joined_head xs x y z k k-is lt read brings joins so n n-lt head =
      subst (λ m. at (set xs m z) n ≡ after n) (sym k-is) (elim (cases_eq to n) [
        | inl is ↦
            let here : x ≡ before n =
            read ∙ ap (λ m. get_or xs m x) k-is ∙ get_or_default xs to x None lt ∙ ap (at xs) is ∙ so n n-lt head in
            ap (at (set xs to z)) (sym is) ∙ get_or-set_same xs to z None lt ∙ joins
            ∙ ap (λ w. joined_at states.joined w y) here ∙ ap (joined_at states.joined (before n)) brings
            ∙ sym (led n is)
        | inr differs ↦ get_or-set_other xs to n z None (λ s. differs (sym s)) ∙ so n n-lt head
            ∙ sym (passed_by n differs)
      ])

-- ## Lists

-- a flag more
pub pushed_flags : (Q : ℕ → Bool → Type 0) (old new : List Bool) (x : Bool) (k : ℕ) → new ≡ old ++ x ∷ []
    → length old ≡ k → ((n : ℕ) → n < k → Q n (get_or old n false)) → Q k x
    → (n : ℕ) → n < k + 1 → Q n (get_or new n false)
pushed_flags Q old new x k is counted before here n lt = elim (cases_eq n k) [
  | inl same ↦ subst (λ b. Q n b) (sym (ap (λ xs. get_or xs n false) is ∙ get_or_push old x false n (counted ∙ sym same)))
      (subst (λ m. Q m x) (sym same) here)
  | inr differs ↦ let below : n < k = omega (arith, lt, differs) in
      subst (λ b. Q n b)
      (sym (ap (λ xs. get_or xs n false) is ∙ get_or_append_left old (x ∷ []) false n (omega (arith, below, counted))))
      (before n below)
]

-- what is written back to a whole list
pub written_back : {X : Type 0} (len : ℕ) (new rest : List X) → length new ≡ len → take len (new ++ rest) ≡ new
written_back len new rest same =
    take-append-le len new rest (omega (arith, same)) ∙ take_all len new (omega (arith, same))

-- what stands at the first node alone
pub entered_at : {V : Type 0} (xs : List (Option V)) (x y : Option V) → 0 < length xs
    → ((n : ℕ) → get_or xs n None ≡ None) → x ≡ y → (n : ℕ) → get_or (set xs 0 x) n None ≡ entry_at y n
entered_at xs x y lt none is zero = get_or-set_same xs 0 x None lt ∙ is
entered_at xs x y lt none is (suc n) = get_or-set_other xs 0 (suc n) x None (λ e. omega (arith, e)) ∙ none (suc n)
