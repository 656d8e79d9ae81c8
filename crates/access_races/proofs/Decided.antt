-- What it means that accesses to one cell race.
use Rattle.std.proofs.Common.{◌≡◌, ◌⊎◌, ◌==◌, ◌<◌, refl, inl, inr, Bool, true, false, not, ◌&&◌, ◌||◌}
use Rattle.std.proofs.Common.{nat_lt}
use Rattle.std.proofs.lemmas.Bool.{eq-eqb, eqb-true, ltb-true, lt-ltb}
use Rattle.interfere_set.specs.Stores.{are_apart}
use Rattle.access_races.specs.declared.accesses.Way.{Way}
use Rattle.access_races.specs.Races.{is_unhindered, do_race}

pub record Race (one other : Way) : Type 0 where
  pub tasks : one.task ≡ other.task → ⊥
  pub writes : (one.writes ≡ true) ⊎ (other.writes ≡ true)
  pub apart : are_apart one.held other.held ≡ true
  pub forth : one.priority < other.priority → are_apart one.held other.found ≡ true
  pub back : other.priority < one.priority → are_apart other.held one.found ≡ true

left_of : (x y : Bool) → (x && y) ≡ true → x ≡ true
left_of true y e = refl
left_of false y e = absurd cc

right_of : (x y : Bool) → (x && y) ≡ true → y ≡ true
right_of true y e = e
right_of false y e = absurd cc

both : (x y : Bool) → x ≡ true → y ≡ true → (x && y) ≡ true
both true y e h = h
both false y e h = absurd cc

some_of : (x y : Bool) → (x || y) ≡ true → (x ≡ true) ⊎ (y ≡ true)
some_of true y e = inl refl
some_of false y e = inr e

one_of : (x y : Bool) → (x ≡ true) ⊎ (y ≡ true) → (x || y) ≡ true
one_of true y e = refl
one_of false y (inl e) = absurd cc
one_of false y (inr e) = e

unless : (x y : Bool) → (not x || y) ≡ true → x ≡ true → y ≡ true
unless true y e h = e
unless false y e h = absurd cc

if_so : (x y : Bool) → (x ≡ true → y ≡ true) → (not x || y) ≡ true
if_so true y f = f refl
if_so false y f = refl

differs : (x : Bool) → not x ≡ true → x ≡ true → ⊥
differs true e h = absurd cc
differs false e h = absurd cc

is_not : (x : Bool) → (x ≡ true → ⊥) → not x ≡ true
is_not true f = absurd (f refl)
is_not false f = refl

module _ (one other : Way) where
  unhindered : is_unhindered one other ≡ true → one.priority < other.priority → are_apart one.held other.found ≡ true
  unhindered e lt =
      unless (nat_lt one.priority other.priority) (are_apart one.held other.found) e
      (lt-ltb one.priority other.priority lt)

  is_free : (one.priority < other.priority → are_apart one.held other.found ≡ true) → is_unhindered one other ≡ true
  is_free f =
      if_so (nat_lt one.priority other.priority) (are_apart one.held other.found)
      (λ e. f (ltb-true one.priority other.priority e))

module _ (one other : Way) where
  abbrev tasks : Bool
  tasks = not (one.task == other.task)

  abbrev writing : Bool
  writing = one.writes || other.writes

  abbrev apart : Bool
  apart = are_apart one.held other.held

  pub race_from : do_race one other ≡ true → Race one other
  race_from e =
      let four = left_of (tasks && writing && apart && is_unhindered one other) (is_unhindered other one) e in
      let three = left_of (tasks && writing && apart) (is_unhindered one other) four in
      let two = left_of (tasks && writing) apart three in record {
        tasks = λ same. differs (one.task == other.task) (left_of tasks writing two)
            (eq-eqb one.task other.task same);
        writes = some_of one.writes other.writes (right_of tasks writing two);
        apart = right_of (tasks && writing) apart three;
        forth = unhindered one other (right_of (tasks && writing && apart) (is_unhindered one other) four);
        back = unhindered other one
            (right_of (tasks && writing && apart && is_unhindered one other) (is_unhindered other one) e);
      }

  pub race_is : Race one other → do_race one other ≡ true
  race_is h =
      both (tasks && writing && apart && is_unhindered one other) (is_unhindered other one)
      (both (tasks && writing && apart) (is_unhindered one other)
      (both (tasks && writing) apart
      (both tasks writing
      (is_not (one.task == other.task) (λ e. h.tasks (eqb-true one.task other.task e)))
      (one_of one.writes other.writes h.writes)) h.apart) (is_free one other h.forth)) (is_free other one h.back)
