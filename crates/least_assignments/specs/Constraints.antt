-- Systems of constraints over variables: what they are made of, and what their parts keep.
use Rattle.std.specs.Prelude.{◌≡◌, ℕ, ◌<◌, ◌≤◌, Bool, true, List, length, slice_index_or, Option, None, IfSome}
use Rattle.tm_lattice.specs.Tables.{IsBelow}

-- one value or bottom for each variable
abbrev pub Assignment : Type 0 → Type 0
Assignment V = ℕ → Option V

-- what stands at a variable in a list of values
abbrev pub at : {V : Type 0} → List (Option V) → Assignment V
at xs i = slice_index_or xs i None

-- How many variables and constraints there are; which variables a constraint reads, to which it brings values, and
-- what it brings to each of these for an assignment, where None is bottom; how a value is rounded at a variable, and
-- the height of a value with its limit at each variable.
pub record Constraints (V : Type 0) : Type 0 where
  pub variable_count : ℕ
  pub constraint_count : ℕ
  pub reads : ℕ → ℕ → Bool
  pub targets : ℕ → List ℕ
  pub gives : ℕ → Assignment V → ℕ → Option V
  pub outward : ℕ → V → V
  pub height : V → ℕ
  pub limit : ℕ → ℕ

module _ {V : Type 0} (sys : Constraints V) where
  -- how many targets a constraint has
  abbrev pub target_count : ℕ → ℕ
  target_count k = length (sys.targets k)

  -- the variable to which a constraint brings its value of this number
  abbrev pub target : ℕ → ℕ → ℕ
  target k j = slice_index_or (sys.targets k) j 0

  -- the assignments are the same as far as the constraint reads
  abbrev pub AgreeFor : ℕ → Assignment V → Assignment V → Type 0
  AgreeFor k a b = (i : ℕ) → i < sys.variable_count → sys.reads k i ≡ true → a i ≡ b i

  -- each value fits its variable
  abbrev pub AreFitting : (ℕ → V → Type 0) → Assignment V → Type 0
  AreFitting suits a = (i : ℕ) → i < sys.variable_count → IfSome (a i) (suits i)

  -- the one assignment is below the other at each variable
  abbrev pub IsPointwiseBelow : (V → V → Type 0) → Assignment V → Assignment V → Type 0
  IsPointwiseBelow leq a b = (i : ℕ) → i < sys.variable_count → IsBelow leq (a i) (b i)

module _ {V : Type 0} (is_value : V → Type 0) (leq : V → V → Type 0) (joined : V → V → V) (suits : ℕ → V → Type 0)
    (allows : ℕ → Assignment V → Type 0) (sys : Constraints V) where
  -- What the parts keep: constraints are monotone and depend on what they read alone, roundings are closures, and
  -- heights are limited. Whether a constraint may be applied at an assignment depends on what it reads, too.
  pub record AreLawful : Type 0 where
    pub value : (i : ℕ) (v : V) → suits i v → is_value v
    pub target_within : (k j : ℕ) → k < sys.constraint_count → j < target_count sys k → target sys k j < sys.variable_count
    pub gives_fits : (k : ℕ) (a : Assignment V) (j : ℕ) → k < sys.constraint_count → AreFitting sys suits a → j < target_count sys k
        → IfSome (sys.gives k a j) (suits (target sys k j))
    pub monotone : (k : ℕ) (a b : Assignment V) (j : ℕ) → k < sys.constraint_count → AreFitting sys suits a → AreFitting sys suits b
        → IsPointwiseBelow sys leq a b → j < target_count sys k → IsBelow leq (sys.gives k a j) (sys.gives k b j)
    pub local : (k : ℕ) (a b : Assignment V) (j : ℕ) → k < sys.constraint_count → AgreeFor sys k a b → j < target_count sys k
        → sys.gives k a j ≡ sys.gives k b j
    pub allows_local : (k : ℕ) (a b : Assignment V) → k < sys.constraint_count → AgreeFor sys k a b → allows k a
        → allows k b
    pub joined_fits : (i : ℕ) (v w : V) → suits i v → suits i w → suits i (joined v w)
    pub outward_fits : (i : ℕ) (v : V) → suits i v → suits i (sys.outward i v)
    pub extensive : (i : ℕ) (v : V) → suits i v → leq v (sys.outward i v)
    pub rising : (i : ℕ) (v w : V) → suits i v → suits i w → leq v w → leq (sys.outward i v) (sys.outward i w)
    pub idempotent : (i : ℕ) (v : V) → suits i v → sys.outward i (sys.outward i v) ≡ sys.outward i v
    pub within : (i : ℕ) (v : V) → suits i v → sys.height v ≤ sys.limit i
    pub climbs : (i : ℕ) (v w : V) → suits i v → suits i w → leq v w → sys.height v ≤ sys.height w
    pub strictly : (i : ℕ) (v w : V) → suits i v → suits i w → leq v w → sys.height w ≤ sys.height v → v ≡ w
