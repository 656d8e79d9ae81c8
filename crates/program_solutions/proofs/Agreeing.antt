-- Two least solutions of a program agree at each node of each body.
use Rattle.std.specs.Prelude.{◌≡◌, ℕ, ◌<◌, length, Option, Some, None, IfSome, refl}
use Rattle.std.proofs.Common.{sym, ap, subst, inl, inr, arith}
use Rattle.std.proofs.lemmas.Bool.{cases_lt}
use Rattle.tm_lattice.specs.Tables.{IsBelow}
use Rattle.store_limits.specs.transfer_rows.StateForms.{State, IsStateForm, IsStateUnder}
use Rattle.store_limits.specs.state_fits.laws.PlacesFit.{states_order}
use Rattle.store_limits.specs.program_equations.Programs.{ProgramBodies, body_at, HasSection, IsProgram}
use Rattle.store_limits.specs.program_equations.Systems.{FitsBody}
use Rattle.store_limits.specs.program_equations.Solutions.{table_at, tables_of}
use Rattle.store_limits.specs.program_equations.laws.Lawful.{in_bodies}
use Rattle.program_reports.specs.post_recheck.Pairs.{Pair}
use Rattle.program_reports.proofs.low.post_recheck.Fits.{table_fits, is_section}
use Rattle.program_solutions.specs.LeastReports.{IsLeastPair}

module _ (p : ProgramBodies) (is : IsProgram p) where
  form : (t : ℕ) → t < length p.bodies → (n : ℕ) (s : State) → FitsBody (body_at p t) n s → IsStateForm s
  form t lt n s fits = fits.form

  -- states that lie below each other are equal
  equal : (t : ℕ) → t < length p.bodies → (n : ℕ) (x y : Option State) → IfSome x (FitsBody (body_at p t) n)
      → IfSome y (FitsBody (body_at p t) n) → IsBelow IsStateUnder x y → IsBelow IsStateUnder y x → x ≡ y
  equal t lt n None None x-fits y-fits le le' = refl
  equal t lt n None (Some v) x-fits y-fits le le' = absurd le'
  equal t lt n (Some u) None x-fits y-fits le le' = absurd le
  equal t lt n (Some u) (Some v) x-fits y-fits le le' =
      ap Some (states_order.antisymmetric u v (form t lt n u x-fits) (form t lt n v y-fits) le le')

  module _ (one other : Pair) (one-least : IsLeastPair p one) (other-least : IsLeastPair p other) where
    abbrev AreAt : ℕ → ℕ → Type 0
    AreAt t n = n < (let b = body_at p t in length b.nodes) → tables_of one.tables t n ≡ tables_of other.tables t n

    tasks_agree : (t n : ℕ) → t < p.tasks → AreAt t n
    tasks_agree t n lt within =
        let here = in_bodies p is t lt in
        equal t here n (tables_of one.tables t n) (tables_of other.tables t n)
        (table_fits p is one one-least.fits t here n within) (table_fits p is other other-least.fits t here n within)
        (one-least.least.tables_below (table_at other.tables p.tasks) (tables_of other.tables) other.store
        other-least.solution.solves t lt n within)
        (other-least.least.tables_below (table_at one.tables p.tasks) (tables_of one.tables) one.store
        one-least.solution.solves t lt n within)

    sections_agree : (n : ℕ) → HasSection p → AreAt p.tasks n
    sections_agree n has within =
        equal p.tasks has n (tables_of one.tables p.tasks n) (tables_of other.tables p.tasks n)
        (table_fits p is one one-least.fits p.tasks has n within)
        (table_fits p is other other-least.fits p.tasks has n within)
        (one-least.least.precedes (table_at other.tables p.tasks) (tables_of other.tables) other.store
        other-least.solution.solves has n within)
        (other-least.least.precedes (table_at one.tables p.tasks) (tables_of one.tables) one.store
        one-least.solution.solves has n within)

    pub tables_agree : (t n : ℕ) → t < length p.bodies → n < (let b = body_at p t in length b.nodes)
        → tables_of one.tables t n ≡ tables_of other.tables t n
    tables_agree t n lt = elim (cases_lt t p.tasks) [
      | inl below ↦ tasks_agree t n below
      | inr past ↦
          let same = is_section p is one one-least.fits t lt (omega (arith, past)) in
          subst (λ k. AreAt k n) (sym same) (sections_agree n (subst (λ k. k < length p.bodies) same lt))
    ]
