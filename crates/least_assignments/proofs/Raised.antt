-- One value joined to what stands at a variable, where it is not below that.
use Rattle.std.proofs.Common.{◌≡◌, ◌≢◌, ℕ, zero, suc, ◌+◌, ◌<◌, List, [], ◌∷◌, Option, Some, None, IfSome, length, get_or, set, sym, subst, inl, inr, arith}
use Rattle.std.proofs.lemmas.Bool.{cases_lt, cases_eq}
use Rattle.std.proofs.lemmas.List.{get_or-set_same, get_or-set_other}
use Rattle.tm_lattice.specs.declared.lattices.Lattice as lattice
use Rattle.tm_lattice.specs.LatticeLaws.{IsOrder, IsJoin}
use Rattle.tm_lattice.specs.Tables.{IsBelow, joined_value}
use Rattle.least_assignments.specs.Constraints.{Assignment, Constraints, AreLawful, IsPointwiseBelow, at}
use Rattle.least_assignments.specs.Solutions.{AreRound, IsClosed}
use Rattle.least_assignments.specs.reading.WorkLists.{room, room_at}
use Rattle.least_assignments.proofs.Options as options

module _ {V M : Type 0} (values : lattice.Ghosts V M) (suits : ℕ → V → Type 0) (allows : ℕ → Assignment V → Type 0)
    (sys : Constraints V) where
  abbrev roomy : ℕ → List (Option V) → ℕ
  roomy i xs = room values suits allows sys i xs

  abbrev space : ℕ → Option V → ℕ
  space i x = room_at values suits allows sys i x

  -- the room of a list in which one value changes
  pub room-set : (n : ℕ) (xs : List (Option V)) (i : ℕ) (y d : Option V) → i < length xs
      → roomy n (set xs i y) + space (n + i) (get_or xs i d) ≡ roomy n xs + space (n + i) y
  room-set n [] i y d lt = absurd (omega arith)
  room-set n (x ∷ xs) zero y d lt = let e : n + 0 ≡ n = omega arith in rw e (omega arith)
  room-set n (x ∷ xs) (suc i) y d lt =
      let rest = room-set (suc n) xs i y d (omega arith) in
      let e : n + suc i ≡ suc n + i = omega arith in
      rw e (omega arith)

module _ {V M : Type 0} (values : lattice.Ghosts V M) (suits : ℕ → V → Type 0) (allows : ℕ → Assignment V → Type 0)
    (sys : Constraints V) (order : IsOrder values.is_value values.leq)
    (join : IsJoin values.is_value values.leq values.joined)
    (law : AreLawful values.is_value values.leq values.joined suits allows sys)
    (xs : List (Option V)) (i : ℕ) (v : V) (variables : length xs ≡ sys.variable_count)
    (lt : i < sys.variable_count) (is_round : AreRound values suits allows sys (at xs)) (v-fits : suits i v)
    (over : IsBelow values.leq (Some v) (get_or xs i None) → ⊥) where
  abbrev Below : Option V → Option V → Type 0
  Below x y = IsBelow values.leq x y

  abbrev Fits : ℕ → Option V → Type 0
  Fits n x = IfSome x (suits n)

  abbrev Under : Assignment V → Assignment V → Type 0
  Under a b = IsPointwiseBelow sys values.leq a b

  abbrev old : Option V
  old = get_or xs i None

  abbrev old-fits : Fits i old
  old-fits = is_round.fits i lt

  joined_fits : (x : Option V) → Fits i x → suits i (joined_value values.joined x v)
  joined_fits None x-fits = v-fits
  joined_fits (Some u) x-fits = law.joined_fits i u v x-fits v-fits

  joined_left : (x : Option V) → Fits i x → Below x (Some (joined_value values.joined x v))
  joined_left None x-fits = tt
  joined_left (Some u) x-fits = join.left u v (law.value i u x-fits) (law.value i v v-fits)

  joined_right : (x : Option V) → Fits i x → values.leq v (joined_value values.joined x v)
  joined_right None x-fits = order.reflexive v (law.value i v v-fits)
  joined_right (Some u) x-fits = join.right u v (law.value i u x-fits) (law.value i v v-fits)

  joined_least : (x y : Option V) → Fits i x → Fits i y → Below x y → Below (Some v) y
      → Below (Some (joined_value values.joined x v)) y
  joined_least x None x-fits y-fits le le' = absurd le'
  joined_least None (Some w) x-fits y-fits le le' = le'
  joined_least (Some u) (Some w) x-fits y-fits le le' =
      join.least u v w (law.value i u x-fits) (law.value i v v-fits) (law.value i w y-fits) le le'

  abbrev both : V
  both = joined_value values.joined old v

  abbrev new : V
  new = sys.outward i both

  abbrev both-fits : suits i both
  both-fits = joined_fits old old-fits

  new-fits : suits i new
  new-fits = law.outward_fits i both (joined_fits old old-fits)

  both-new : values.leq both new
  both-new = law.extensive i both (joined_fits old old-fits)

  transitive : (n : ℕ) (x y z : Option V) → Fits n x → Fits n y → Fits n z → Below x y → Below y z → Below x z
  transitive n x y z = options.transitive values suits allows sys order law n x y z

  old-new : Below old (Some new)
  old-new = transitive i old (Some both) (Some new) old-fits (joined_fits old old-fits) new-fits (joined_left old old-fits) both-new

  v-new : values.leq v new
  v-new = order.transitive v both new (law.value i v v-fits) (law.value i both (joined_fits old old-fits)) (law.value i new new-fits)
      (joined_right old old-fits) both-new

  abbrev pub after : List (Option V)
  after = set xs i (Some new)

  at_new : at after i ≡ Some new
  at_new = get_or-set_same xs i (Some new) None (omega (arith, variables, lt))

  pub at_other : (n : ℕ) → n ≢ i → at after n ≡ at xs n
  at_other n differ = get_or-set_other xs i n (Some new) None differ

  -- a property of what stands at each variable
  each : (P : ℕ → Option V → Type 0) → P i (Some new) → ((n : ℕ) → n < sys.variable_count → P n (at xs n)) → (n : ℕ)
      → n < sys.variable_count → P n (at after n)
  each P here there n n-lt = elim (cases_eq n i) [
    | inl same ↦ subst (λ k. P k (at after k)) (sym same) (subst (P i) (sym at_new) here)
    | inr differ ↦ subst (P n) (sym (at_other n differ)) (there n n-lt)
  ]

  pub after_round : AreRound values suits allows sys (at after)
  after_round = record {
    fits = each Fits new-fits is_round.fits;
    round = each (λ n x. IfSome x (λ w. sys.outward n w ≡ w)) (law.idempotent i both (joined_fits old old-fits)) is_round.round;
  }

  -- nothing falls, and the value is held
  pub grows : Under (at xs) (at after)
  grows n n-lt = each (λ k x. Below (at xs k) x) old-new
      (λ k k-lt. options.reflexive values suits allows sys order law k (at xs k) (is_round.fits k k-lt)) n n-lt

  pub holds : Below (Some v) (at after i)
  holds = subst (Below (Some v)) (sym at_new) v-new

  -- a closed assignment above, which holds the value, lies above
  pub below_closed : (other : Assignment V) → IsClosed values suits allows sys other → Under (at xs) other
      → Below (Some v) (other i) → Under (at after) other
  below_closed other closed below le n n-lt =
      let other-fits = closed.round.fits i lt in
      let inside : Below (Some both) (other i) = joined_least old (other i) old-fits other-fits (below i lt) le in
      let outer : Below (Some new) (options.outward values suits allows sys order law i (other i)) =
      options.rising values suits allows sys order law i (Some both) (other i) (joined_fits old old-fits) other-fits inside in
      let here : Below (Some new) (other i) = subst (Below (Some new))
      (options.outward_round values suits allows sys order law i (other i) (closed.round.round i lt)) outer in
      each (λ k x. Below x (other k)) here below n n-lt

  -- the room falls
  falls_at : (x : Option V) → Fits i x → Below x (Some new) → (Below (Some v) x → ⊥)
      → room_at values suits allows sys i (Some new) < room_at values suits allows sys i x
  falls_at None x-fits le differ = omega (arith, law.within i new new-fits)
  falls_at (Some u) x-fits le differ =
      let bound = law.within i new new-fits in
      let climb = law.climbs i u new x-fits new-fits le in
      elim (cases_lt (sys.height u) (sys.height new)) [
        | inl higher ↦ omega arith
        | inr flat ↦ absurd (differ (subst (λ w. values.leq v w) (sym (law.strictly i u new x-fits new-fits le flat)) v-new))
      ]

  pub falls : room values suits allows sys 0 after < room values suits allows sys 0 xs
  falls =
      let sums = room-set values suits allows sys 0 xs i (Some new) None (omega (arith, variables, lt)) in
      let here = falls_at old old-fits old-new over in
      let e : 0 + i ≡ i = omega arith in
      let sums' : room values suits allows sys 0 after + room_at values suits allows sys i old
      ≡ room values suits allows sys 0 xs + room_at values suits allows sys i (Some new) = rw e at sums in
      omega arith
