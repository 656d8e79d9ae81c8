-- What each kind of operation does to held and found sets.
use Rattle.std.specs.Prelude.{◌≡◌, ℕ, Bool, true, false}
use Rattle.std.proofs.Common.{refl, ap}
use Rattle.program_shape.specs.tm_terms.declared.places.Place.{Place}
use Rattle.program_shape.specs.flow_graph.declared.operations.Operation.{Operation as GraphOperation}
use Rattle.program_shape.specs.flow_graph.declared.operations.Operation.TheVariants as Op
use Rattle.program_shape.specs.mutex_configs.Sets.{with_mutex, without_mutex, held_after, found_after}
use Rattle.program_shape.specs.tm_soundness.Shape.{Operation, lock, unlock, yields, probe}
use Rattle.program_shape.specs.Shape.{operation_of}

-- kinds that leave the sets as they are
abbrev pub IsQuiet : Operation ℕ ℕ → Type 0
IsQuiet (lock m) = ⊥
IsQuiet (unlock m) = ⊥
IsQuiet yields = ⊥
IsQuiet (probe m t false) = ⊥
IsQuiet kind = Unit {0}

pub quiet_sets : (op : GraphOperation) (answer : Bool) (l u : ℕ) → IsQuiet (operation_of op answer)
    → (held_after op l ≡ l) × (found_after op answer u ≡ u)
unfolding held_after found_after
quiet_sets (Op.Lock m p) answer l u h = absurd h
quiet_sets (Op.Unlock m p) answer l u h = absurd h
quiet_sets Op.Yield answer l u h = absurd h
quiet_sets (Op.Probe to m p) true l u h = (refl, refl)
quiet_sets (Op.Probe to m p) false l u h = absurd h
quiet_sets op answer l u h = (refl, refl)

pub is_lock : (op : GraphOperation) (answer : Bool) (m : ℕ) → operation_of op answer ≡ lock m
    → (p : Place) × (op ≡ Op.Lock m p)
is_lock (Op.Lock n p) answer m h = (p, let e : n ≡ m = cc in ap (λ z. Op.Lock z p) e)
is_lock op answer m h = absurd (cc)

pub lock_sets : (op : GraphOperation) (answer : Bool) (l u m : ℕ) → operation_of op answer ≡ lock m
    → (held_after op l ≡ with_mutex l m) × (found_after op answer u ≡ 0)
unfolding held_after found_after
lock_sets (Op.Lock n p) answer l u m h = (let e : n ≡ m = cc in ap (with_mutex l) e, refl)
lock_sets op answer l u m h = absurd (cc)

pub unlock_sets : (op : GraphOperation) (answer : Bool) (l u m : ℕ) → operation_of op answer ≡ unlock m
    → (held_after op l ≡ without_mutex l m) × (found_after op answer u ≡ u)
unfolding held_after found_after
unlock_sets (Op.Unlock n p) answer l u m h = (let e : n ≡ m = cc in ap (without_mutex l) e, refl)
unlock_sets op answer l u m h = absurd (cc)

pub yield_sets : (op : GraphOperation) (answer : Bool) (l u : ℕ) → operation_of op answer ≡ yields
    → (held_after op l ≡ l) × (found_after op answer u ≡ 0)
unfolding held_after found_after
yield_sets Op.Yield answer l u h = (refl, refl)
yield_sets op answer l u h = absurd (cc)

pub free_sets : (op : GraphOperation) (answer : Bool) (l u m t : ℕ) → operation_of op answer ≡ probe m t false
    → (held_after op l ≡ l) × (found_after op answer u ≡ with_mutex u m)
unfolding held_after found_after
free_sets (Op.Probe to n p) true l u m t h = absurd (cc)
free_sets (Op.Probe to n p) false l u m t h = (refl, let e : n ≡ m = cc in ap (with_mutex u) e)
free_sets op answer l u m t h = absurd (cc)
