-- What stands at a variable: the order with bottom, and rounding.
use Rattle.std.proofs.Common.{◌≡◌, ℕ, Option, Some, None, IfSome, ap, refl}
use Rattle.std.specs.Option.{option_map}
use Rattle.tm_lattice.specs.declared.lattices.Lattice as lattice
use Rattle.tm_lattice.specs.LatticeLaws.{IsOrder}
use Rattle.tm_lattice.specs.Tables.{IsBelow}
use Rattle.least_assignments.specs.Constraints.{Assignment, Constraints, AreLawful}

module _ {V M : Type 0} (values : lattice.Ghosts V M) (suits : ℕ → V → Type 0) (allows : ℕ → Assignment V → Type 0)
    (sys : Constraints V) (order : IsOrder values.is_value values.leq)
    (law : AreLawful values.is_value values.leq values.joined suits allows sys) where
  abbrev Below : Option V → Option V → Type 0
  Below x y = IsBelow values.leq x y

  abbrev Fits : ℕ → Option V → Type 0
  Fits i x = IfSome x (suits i)

  abbrev pub outward : ℕ → Option V → Option V
  outward i x = option_map (sys.outward i) x

  pub reflexive : (i : ℕ) (x : Option V) → Fits i x → Below x x
  reflexive i None x-fits = tt
  reflexive i (Some v) x-fits = order.reflexive v (law.value i v x-fits)

  pub transitive : (i : ℕ) (x y z : Option V) → Fits i x → Fits i y → Fits i z → Below x y → Below y z → Below x z
  transitive i None y z x-fits y-fits z-fits le le' = tt
  transitive i (Some u) None z x-fits y-fits z-fits le le' = absurd le
  transitive i (Some u) (Some v) None x-fits y-fits z-fits le le' = absurd le'
  transitive i (Some u) (Some v) (Some w) x-fits y-fits z-fits le le' =
      order.transitive u v w (law.value i u x-fits) (law.value i v y-fits) (law.value i w z-fits) le le'

  pub rising : (i : ℕ) (x y : Option V) → Fits i x → Fits i y → Below x y → Below (outward i x) (outward i y)
  rising i None y x-fits y-fits le = tt
  rising i (Some v) None x-fits y-fits le = absurd le
  rising i (Some v) (Some w) x-fits y-fits le = law.rising i v w x-fits y-fits le

  pub outward_round : (i : ℕ) (x : Option V) → IfSome x (λ v. sys.outward i v ≡ v) → outward i x ≡ x
  outward_round i None round = refl
  outward_round i (Some v) round = ap Some round
