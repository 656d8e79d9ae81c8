-- Where the run of a task's graph stands, the configured graph stands at the node with the sets of the answers: the
-- graphs of a program run along the next actions of its tasks.
use Rattle.std.proofs.Common.{◌≡◌, ◌⊎◌, inl, inr, refl, sym, ap, subst, ◌∙◌, ℕ, ◌<◌, ◌^◌, Bool}
use Rattle.std.proofs.Common.{true, false, List, [], ◌∷◌}
use Rattle.std.proofs.Common.{◌++◌, length, Option, Some, None, is_some, arith, bit_or, eqb}
use Rattle.std.specs.Prelude.{ℤ, cond, nat_lt}
use Rattle.std.specs.Int.{bit_at}
use Rattle.std.proofs.lemmas.Bool.{lt-ltb}
use Rattle.std.proofs.lemmas.Nat.Bits.{bit_at_or, bit_at-pow_same}
use Rattle.layout_laws.specs.tm_terms.declared.places.Place.{Place}
use Rattle.layout_laws.specs.tm_typed.declared.types.Scalar.{Scalar}
use Rattle.layout_laws.specs.tm_laid.Layouts.{LaidTree, cell_at, cell_of, abstract_at, object_at, abstract_of}
use Rattle.program_shape.specs.concrete_values.declared.values.Value.{Value}
use Rattle.program_shape.specs.concrete_values.declared.values.Value.TheVariants.{Number, Pointer as APointer}
use Rattle.program_shape.specs.concrete_values.declared.values.Answer.{Answer}
use Rattle.program_shape.specs.concrete_values.declared.values.Answer.TheVariants.{Given, Done}
use Rattle.program_shape.specs.concrete_values.declared.actions.Next.{Next}
use Rattle.program_shape.specs.concrete_values.declared.actions.Next.TheVariants as Acts
use Rattle.program_shape.specs.concrete_values.Values.{truth_value, nothing}
use Rattle.program_shape.specs.concrete_values.Actions.{is_of, is_between, answer_of, value_if}
use Rattle.program_shape.specs.concrete_steps.NextAction.{After}
use Rattle.program_shape.specs.flow_graph.declared.operations.Operation.{Operation}
use Rattle.program_shape.specs.flow_graph.declared.operations.Operation.TheVariants as Op
use Rattle.program_shape.specs.flow_graph.Operations.{Temps}
use Rattle.program_shape.specs.mutex_configs.Sets.{has, with_mutex, held_after, found_after, IsOfSixteen}
use Rattle.next_action_laws.specs.Actions.{Fit, IsCell, MayUse}
use Rattle.program_shape.specs.tm_soundness.Shape.{lock}
use Rattle.program_shape.specs.tm_soundness.Shape.{unlock}
use Rattle.program_shape.specs.tm_soundness.Worlds.{Action, a_load, a_load_any, a_store, a_choose, a_clear, a_lock}
use Rattle.program_shape.specs.tm_soundness.Worlds.{a_unlock, a_yield}
use Rattle.program_shape.specs.tm_soundness.Worlds.{a_probe, a_fault, a_ended, a_spins}
use Rattle.program_shape.specs.Shape.{Parts, IsShared, IsOwned}
use Rattle.program_shape.specs.Shape.{MayChoose, operation_of, shape_of}
use Rattle.program_shape.specs.Shape.{abstract_of_cell}
use Rattle.sound_runs.specs.Sources.{action_of, Sets, is_told_held, sets_with, sets_from}
use Rattle.sound_runs.specs.Sources.{LaysCell}
use Rattle.sound_runs.proofs.Ways.{AskedBy}
use Rattle.sound_runs.proofs.Ways.{IsAsk}

-- ## Lists of answers

-- one more answer
pub sets_snoc : (answers : List Answer) (next : After) (a : Answer) (s : Sets)
    → sets_from next (answers ++ a ∷ []) s ≡ sets_with (next answers) a (sets_from next answers s)
sets_snoc [] next a s = refl
sets_snoc (b ∷ answers) next a s = sets_snoc answers (λ l. next (b ∷ l)) a (sets_with (next []) b s)

pub fit_snoc : (laid : LaidTree) (answers : List Answer) (next : After) (a : Answer) (v : Value)
    → Fit laid next answers → answer_of laid (next answers) a ≡ Some v → Fit laid next (answers ++ a ∷ [])
fit_snoc laid [] next a v fit h = (ap is_some h, tt)
fit_snoc laid (b ∷ answers) next a v fit h = (fit.0, fit_snoc laid answers (λ l. next (b ∷ l)) a v fit.1 h)

-- ## Sets along edges

abbrev pub target_sets : Operation → Bool → Sets → Sets
target_sets op b s = record { held = held_after op s.held; found = found_after op b s.found }

-- a probe is told what its copy says
abbrev pub Told : Next → Bool → Answer → Type 0
Told (Acts.Probe m p) b a = is_told_held a ≡ b
Told _ b a = Unit {0}

probe_sets : (to m : ℕ) (p : Place) (b : Bool) (s : Sets)
    → target_sets (Op.Probe to m p) b s ≡ record { held = s.held; found = cond b s.found (with_mutex s.found m) }
unfolding held_after found_after
probe_sets to m p true s = refl
probe_sets to m p false s = refl

pub asks_sets : (n : Next) (op : Operation) (t : Temps) (f : Value → Temps) → IsAsk n → AskedBy n op t f → (b : Bool)
    (a : Answer) → Told n b a → (s : Sets) → target_sets op b s ≡ sets_with n a s
unfolding held_after found_after
asks_sets (Acts.Load o k x false p) op t f ask h b a told s = ap (λ z. target_sets z b s) h.2
asks_sets (Acts.Load o k x true p) op t f ask h b a told s = ap (λ z. target_sets z b s) h.2
asks_sets (Acts.Store o k x v p) op t f ask h b a told s = ap (λ z. target_sets z b s) h.3
asks_sets (Acts.Chosen low high) op t f ask h b a told s = ap (λ z. target_sets z b s) h.1
asks_sets (Acts.Clear o) op t f ask h b a told s = ap (λ z. target_sets z b s) h.0
asks_sets (Acts.Lock m p) op t f ask h b a told s = ap (λ z. target_sets z b s) h.0
asks_sets (Acts.Unlock m p) op t f ask h b a told s = ap (λ z. target_sets z b s) h.0
asks_sets Acts.Yield op t f ask h b a told s = ap (λ z. target_sets z b s) h.0
asks_sets (Acts.Probe m p) op t f ask h b a told s =
    ap (λ z. target_sets z b s) h.1 ∙ (probe_sets h.0 m p b s
    ∙ ap (λ c. record { held = s.held; found = cond c s.found (with_mutex s.found m) }) (sym told))
asks_sets (Acts.Fault class p) op t f ask h b a told s = absurd ask
asks_sets Acts.Ended op t f ask h b a told s = absurd ask
asks_sets Acts.Spins op t f ask h b a told s = absurd ask
asks_sets Acts.Misfit op t f ask h b a told s = absurd ask

-- ## What each action of the theorem is as a next action

module _ (x : Parts) where
  abbrev Viewed : Action (shape_of x) ℕ → Next → Type 0
  Viewed (a_load c) n = (o : ℕ) × (k : ℕ) × (s : Scalar) × (p : Place) × (n ≡ Acts.Load o k s false p)
      × (cell_of x.laid o k ≡ c)
  Viewed (a_load_any c) n = (o : ℕ) × (k : ℕ) × (s : Scalar) × (p : Place) × (n ≡ Acts.Load o k s true p)
      × (cell_of x.laid o k ≡ c)
  Viewed (a_store c v) n = (o : ℕ) × (k : ℕ) × (s : Scalar) × (p : Place) × (n ≡ Acts.Store o k s v p)
      × (cell_of x.laid o k ≡ c)
  Viewed a_choose n = (low : ℤ) × (high : ℤ) × (n ≡ Acts.Chosen low high)
  Viewed (a_clear o) n = n ≡ Acts.Clear o
  Viewed (a_lock m) n = (p : Place) × (n ≡ Acts.Lock m p)
  Viewed (a_unlock m) n = (p : Place) × (n ≡ Acts.Unlock m p)
  Viewed a_yield n = n ≡ Acts.Yield
  Viewed (a_probe m) n = (p : Place) × (n ≡ Acts.Probe m p)
  Viewed (a_fault k) n = (p : Place) × (n ≡ Acts.Fault k p)
  Viewed a_ended n = n ≡ Acts.Ended
  Viewed a_spins n = Unit {0}

  view : (n : Next) → Viewed (action_of x n) n
  view (Acts.Load o k s false p) = (o, k, s, p, refl, refl)
  view (Acts.Load o k s true p) = (o, k, s, p, refl, refl)
  view (Acts.Store o k s v p) = (o, k, s, p, refl, refl)
  view (Acts.Chosen low high) = (low, high, refl)
  view (Acts.Clear o) = refl
  view (Acts.Lock m p) = (p, refl)
  view (Acts.Unlock m p) = (p, refl)
  view Acts.Yield = refl
  view (Acts.Probe m p) = (p, refl)
  view (Acts.Fault k p) = (p, refl)
  view Acts.Ended = refl
  view Acts.Spins = tt
  view Acts.Misfit = tt

  pub viewed : (n : Next) (a : Action (shape_of x) ℕ) → action_of x n ≡ a → Viewed a n
  viewed n a e = subst (λ z. Viewed z n) e (view n)

-- ## Answers that fit

pub given_fits : (laid : LaidTree) (o k : ℕ) (s : Scalar) (b : Bool) (p : Place) (v : Value) → is_of laid s v ≡ true
    → answer_of laid (Acts.Load o k s b p) (Given v) ≡ Some v
unfolding answer_of
given_fits laid o k s b p v h = ap (λ z. value_if z v) h

pub chosen_fits : (laid : LaidTree) (low high : ℤ) (v : Value) → is_between low high v ≡ true
    → answer_of laid (Acts.Chosen low high) (Given v) ≡ Some v
unfolding answer_of
chosen_fits laid low high v h = ap (λ z. value_if z v) h

pub bit_fits : (laid : LaidTree) (m : ℕ) (p : Place) (b : Bool)
    → answer_of laid (Acts.Probe m p) (Given (truth_value b)) ≡ Some (truth_value b)
unfolding answer_of
bit_fits laid m p true = refl
bit_fits laid m p false = refl

pub bit_told : (b : Bool) → is_told_held (Given (truth_value b)) ≡ b
bit_told true = refl
bit_told false = refl

pub store_fits : (laid : LaidTree) (o k : ℕ) (s : Scalar) (v : Value) (p : Place)
    → answer_of laid (Acts.Store o k s v p) Done ≡ Some nothing
unfolding answer_of
store_fits laid o k s v p = refl

pub clear_fits : (laid : LaidTree) (o : ℕ) → answer_of laid (Acts.Clear o) Done ≡ Some nothing
unfolding answer_of
clear_fits laid o = refl

pub lock_fits : (laid : LaidTree) (m : ℕ) (p : Place) → answer_of laid (Acts.Lock m p) Done ≡ Some nothing
unfolding answer_of
lock_fits laid m p = refl

pub unlock_fits : (laid : LaidTree) (m : ℕ) (p : Place) → answer_of laid (Acts.Unlock m p) Done ≡ Some nothing
unfolding answer_of
unlock_fits laid m p = refl

pub yield_fits : (laid : LaidTree) → answer_of laid Acts.Yield Done ≡ Some nothing
unfolding answer_of
yield_fits laid = refl

-- what may be chosen at a volatile load is of its type, and at a choice within its bounds
pub any_is_of : (laid : LaidTree) (o k : ℕ) (s : Scalar) (p : Place) (v : Value) → MayChoose laid (Acts.Load o k s true p) v
    → is_of laid s v ≡ true
any_is_of laid o k s p (Number n) h = h
any_is_of laid o k s p (APointer q) h = absurd h

-- ## Cells

module _ (laid : LaidTree) where
  pub abstract_is : (o k : ℕ) → LaysCell laid o k → abstract_of_cell laid (cell_of laid o k) ≡ abstract_of laid o k
  abstract_is o k h = cond_true (nat_lt (cell_of laid o k) (length laid.cells)) (lt-ltb (cell_of laid o k) (length laid.cells) h.within)
    where
      cond_true : (b : Bool) → b ≡ true
          → cond b (cell_at laid (cell_of laid o k)).abstract_cell (length laid.abstract_cells) ≡ abstract_of laid o k
      cond_true true e = refl
      cond_true false e = absurd (cc)

  usable_by : (body y : ℕ) (owner : Option ℕ) → y < length laid.abstract_cells
      → (object_at laid (abstract_at laid y).object).owner ≡ owner → MayUse laid body owner
      → IsShared laid y ⊎ IsOwned laid y body
  usable_by body y None within is h = inl (record { within = within; static = is })
  usable_by body y (Some path) within is h =
      inr (record { within = within; path = path; owner = is; own = h.same })

  pub usable_at : (body o k : ℕ) (s : Scalar) → LaysCell laid o k → IsCell laid body o k s
      → IsShared laid (abstract_of_cell laid (cell_of laid o k)) ⊎ IsOwned laid (abstract_of_cell laid (cell_of laid o k)) body
  usable_at body o k s lays h =
      subst (λ y. IsShared laid y ⊎ IsOwned laid y body) (sym (abstract_is o k lays))
      (usable_by body (abstract_of laid o k) (object_at laid o).owner lays.abstract
      (ap (λ z. (object_at laid z).owner) lays.object) h.usable)

  -- what is typed by the abstract cell is of the type of the access
  pub typed_at : (body o k : ℕ) (s : Scalar) (v : Value) → LaysCell laid o k → IsCell laid body o k s
      → is_of laid (abstract_at laid (abstract_of_cell laid (cell_of laid o k))).scalar v ≡ true
      → is_of laid s v ≡ true
  typed_at body o k s v lays h typed =
      subst (λ z. is_of laid z v ≡ true)
      (ap (λ y. (abstract_at laid y).scalar) (abstract_is o k lays) ∙ (lays.scalar ∙ h.scalar)) typed

-- ## Sets of mutexes

pub with_new : (l m : ℕ) → has (with_mutex l m) m ≡ true
with_new l m =
    let e : bit_at (bit_or l (2 ^ m)) m ≡ 1 = omega (arith, bit_at_or l (2 ^ m) m, bit_at-pow_same m) in
    ap (λ b. eqb b 1) e

-- the operation of a copy that locks, or unlocks
pub lock_is : (op : Operation) (b : Bool) (m : ℕ) → operation_of op b ≡ lock m → (p : Place) × (op ≡ Op.Lock m p)
lock_is (Op.Lock n p) b m h = let e : n ≡ m = cc in (p, ap (λ z. Op.Lock z p) e)
lock_is op b m h = absurd (cc)

pub unlock_is : (op : Operation) (b : Bool) (m : ℕ) → operation_of op b ≡ unlock m → (p : Place) × (op ≡ Op.Unlock m p)
unlock_is (Op.Unlock n p) b m h = let e : n ≡ m = cc in (p, ap (λ z. Op.Unlock z p) e)
unlock_is op b m h = absurd (cc)

pub lock_small : (m : ℕ) (p : Place) → IsOfSixteen (Op.Lock m p) → m < 16
unfolding IsOfSixteen
lock_small m p h = h

pub lock_held : (m : ℕ) (p : Place) (l : ℕ) → held_after (Op.Lock m p) l ≡ with_mutex l m
unfolding held_after
lock_held m p l = refl
