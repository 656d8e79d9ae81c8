-- Values with bottom, where the values that fit are a lattice with a rounding and limited heights.
use Rattle.std.proofs.Common.{◌≡◌, ℕ, ◌+◌, ◌≤◌, Option, Some, None, IfSome, ap, refl, arith}
use Rattle.std.specs.Option.{option_map}
use Rattle.sparse_tables.specs.table_covers.tm_lattice.declared.lattices.Lattice as lattice
use Rattle.sparse_tables.specs.table_covers.tm_lattice.LatticeLaws.{IsOrder}
use Rattle.sparse_tables.specs.table_covers.tm_lattice.Tables.{IsBelow, joined_at}
use Rattle.front_constraints.specs.Standings.{height_in}
use Rattle.front_constraints.specs.Premises.{AreValues, IsRounding}

-- where nothing fits nothing is to be shown
pub no_values : {A M : Type 0} (values : lattice.Ghosts A M) (height : A → ℕ)
    → AreValues values (λ a. ⊥) height 0
no_values values height = record {
  value = λ v fits. absurd fits;
  joined = λ v w fits fits'. fits;
  within = λ v fits. absurd fits;
  climbs = λ v w fits fits' le. absurd fits;
  strictly = λ v w fits fits' le h. absurd fits;
}

-- to leave what fits as it is is a rounding
pub no_rounding : {A M : Type 0} (values : lattice.Ghosts A M) (fits : A → Type 0)
    → ((v : A) → fits v → values.leq v v) → IsRounding values fits (λ a. a)
no_rounding values fits reflexive = record {
  rounded = λ v is. is;
  extensive = λ v is. reflexive v is;
  rising = λ v w is is' le. le;
  idempotent = λ v is. refl;
}

module _ {A M : Type 0} (lat : lattice.Ghosts A M) (fits : A → Type 0) (height : A → ℕ) (limit : ℕ)
    (outward : A → A) where
  abbrev Below : Option A → Option A → Type 0
  Below x y = IsBelow lat.leq x y

  abbrev Fits : Option A → Type 0
  Fits x = IfSome x fits

  -- what values keep that fit, with bottom
  pub record AreOptions : Type 0 where
    pub values : (x : Option A) → Fits x → IfSome x lat.is_value
    pub reflexive : (x : Option A) → Fits x → Below x x
    pub joined_fits : (x y : Option A) → Fits x → Fits y → Fits (joined_at lat.joined x y)
    pub outward_fits : (x : Option A) → Fits x → Fits (option_map outward x)
    pub extensive : (x : Option A) → Fits x → Below x (option_map outward x)
    pub rising : (x y : Option A) → Fits x → Fits y → Below x y → Below (option_map outward x) (option_map outward y)
    pub idempotent : (x : Option A) → Fits x → option_map outward (option_map outward x) ≡ option_map outward x
    pub within : (x : Option A) → Fits x → height_in height x ≤ limit + 1
    pub climbs : (x y : Option A) → Fits x → Fits y → Below x y → height_in height x ≤ height_in height y
    pub strictly : (x y : Option A) → Fits x → Fits y → Below x y → height_in height y ≤ height_in height x → x ≡ y

  module _ (order : IsOrder lat.is_value lat.leq) (are : AreValues lat fits height limit)
      (rounding : IsRounding lat fits outward) where
    are_values : (x : Option A) → Fits x → IfSome x lat.is_value
    are_values None is = tt
    are_values (Some v) is = are.value v is

    below_itself : (x : Option A) → Fits x → Below x x
    below_itself None is = tt
    below_itself (Some v) is = order.reflexive v (are.value v is)

    join_fits : (x y : Option A) → Fits x → Fits y → Fits (joined_at lat.joined x y)
    join_fits None y is is' = is'
    join_fits (Some v) None is is' = is
    join_fits (Some v) (Some w) is is' = are.joined v w is is'

    round_fits : (x : Option A) → Fits x → Fits (option_map outward x)
    round_fits None is = tt
    round_fits (Some v) is = rounding.rounded v is

    below_round : (x : Option A) → Fits x → Below x (option_map outward x)
    below_round None is = tt
    below_round (Some v) is = rounding.extensive v is

    round_rises : (x y : Option A) → Fits x → Fits y → Below x y → Below (option_map outward x) (option_map outward y)
    round_rises None y is is' le = tt
    round_rises (Some v) None is is' le = absurd le
    round_rises (Some v) (Some w) is is' le = rounding.rising v w is is' le

    round_again : (x : Option A) → Fits x → option_map outward (option_map outward x) ≡ option_map outward x
    round_again None is = refl
    round_again (Some v) is = ap Some (rounding.idempotent v is)

    is_within : (x : Option A) → Fits x → height_in height x ≤ limit + 1
    is_within None is = omega arith
    is_within (Some v) is = omega (arith, are.within v is)

    height_rises : (x y : Option A) → Fits x → Fits y → Below x y → height_in height x ≤ height_in height y
    height_rises None y is is' le = omega arith
    height_rises (Some v) None is is' le = absurd le
    height_rises (Some v) (Some w) is is' le = omega (arith, are.climbs v w is is' le)

    same_height : (x y : Option A) → Fits x → Fits y → Below x y → height_in height y ≤ height_in height x → x ≡ y
    same_height None None is is' le h = refl
    same_height None (Some w) is is' le h = absurd (omega (arith, h))
    same_height (Some v) None is is' le h = absurd le
    same_height (Some v) (Some w) is is' le h = ap Some (are.strictly v w is is' le (omega (arith, h)))

    pub are_options : AreOptions
    are_options = record {
      values = are_values;
      reflexive = below_itself;
      joined_fits = join_fits;
      outward_fits = round_fits;
      extensive = below_round;
      rising = round_rises;
      idempotent = round_again;
      within = is_within;
      climbs = height_rises;
      strictly = same_height;
    }
