-- All hypotheses together can be met: two tasks of one priority, each of which stores into one shared cell. Their race is listed.
use Rattle.std.proofs.Common.{◌≡◌, inl, inr, Bool, true, false, IsTrue, refl, sym, ap, ◌∙◌, [], ◌∷◌}
use Rattle.tm_soundness.specs.Tables.{Tables}
use Rattle.tm_soundness.specs.Shape.{Shape, Operation, store, lock, unlock, Content, given}
use Rattle.tm_soundness.specs.GraphWorlds.{waiting}
use Rattle.tm_soundness.specs.Shaped.{Passes, IsShaped}
use Rattle.tm_soundness.specs.Covers.{IsEntered}
use Rattle.tm_soundness.specs.Reports.{IsRaceListed}
use Rattle.tm_soundness.specs.Worlds.{Action, a_load, a_load_any, a_store, a_choose, a_clear, a_lock, a_unlock, a_yield, a_probe, a_fault, a_ended, Source, World, IsReached, starts, still, Leaves, IsLowered, next_stores, IsIn}
use Rattle.tm_soundness.proofs.Top.{top, top_solution}
use Rattle.tm_soundness.proofs.Judged.{judged, next_race_listed}

same_bool : (a b : Bool) → Dec (a ≡ b)
same_bool true true = yes refl
same_bool true false = no (λ e. cc)
same_bool false true = no (λ e. cc)
same_bool false false = yes refl

same_unit : (a b : Unit {0}) → Dec (a ≡ b)
same_unit a b = yes refl

abbrev not_held : Dec ⊥
not_held = no (λ h. h)

abbrev P : Shape
P = record {
  Task = Bool;
  Mutex = Unit {0};
  Held = Unit {0};
  Cell = Unit {0};
  AbstractCell = Unit {0};
  Temporary = Unit {0};
  Value = Bool;
  Valuation = Bool;
  Node = Bool × Bool;
  Edge = Bool;
  Class = Unit {0};
  Place = Bool;
  same_task = same_bool;
  same_mutex = same_unit;
  same_cell = same_unit;
  rank = λ i. 1;
  Has = λ l m. ⊥;
  has = λ l m. not_held;
  abstract_cell = λ c. c;
  shared = λ x. Unit {0};
  owned = λ x i. ⊥;
  in_range = λ x v. Unit {0};
  cleared = λ c. given true;
  value_of = λ ρ t. ρ;
  put = λ ρ t v. v;
  points = λ v c. Unit {0};
  bit = λ b. b;
  actor = λ e. e;
  from = λ e. (e, false);
  to = λ e. (e, true);
  operation = λ e. store tt tt;
  place = λ e. e;
  does = λ e ρ σ. ⊥;
  fails = λ e ρ k. ⊥;
  lock_class = tt;
  fits = λ e c. Unit {0};
  clears = λ e c. ⊥;
  entry = λ i. (i, false);
  held = λ q. tt;
  found = λ q. tt;
  resting = λ q. IsTrue q.1;
  ends = λ q. IsTrue q.1;
}

-- what the analysis that excludes nothing gives
abbrev T : Tables P
T = top P

store_lock : (m : Unit {0}) → (let o : Operation (Unit {0}) (Unit {0}) = store tt tt in o) ≡ lock m → ⊥
store_lock m e = cc

store_unlock : (m : Unit {0}) → (let o : Operation (Unit {0}) (Unit {0}) = store tt tt in o) ≡ unlock m → ⊥
store_unlock m e = cc

false_true : IsTrue false → ⊥
false_true e = cc

passes : (q q' : Bool × Bool) → Passes P q q'
passes q q' = record { held_down = λ n h. h; held_up = λ n h. h; found_down = λ n h. h }

shape : IsShaped P
shape = record {
  not_both = λ x i s o. o;
  one_owner = λ x i k o o'. absurd o;
  some_cell = λ x i o. absurd o;
  clears_own = λ e c k. k;
  may_clear = λ e c. not_held;
  ends_rest = λ q h. h;
  locks_rest = λ e m is. absurd (store_lock m is);
  rests_lock = λ e r. absurd (false_true r);
  entry_held = λ i n h. h;
  entry_found = λ i n h. h;
  calc_passes = λ e is. passes (e, false) (e, true);
  load_passes = λ e a t is. passes (e, false) (e, true);
  load_any_passes = λ e a is. passes (e, false) (e, true);
  store_passes = λ e a v is. passes (e, false) (e, true);
  clear_passes = λ e is. passes (e, false) (e, true);
  held_passes = λ e m t is. passes (e, false) (e, true);
  lock_held = λ e m n is not h. absurd h;
  lock_kept = λ e m n is not h. h;
  lock_found = λ e m n is not h. h;
  unlock_held = λ e m n is mine h. h;
  unlock_kept = λ e m n is mine not h. h;
  unlock_found = λ e m n is mine h. h;
  yield_held = λ e n is h. h;
  yield_kept = λ e n is h. h;
  yield_found = λ e n is h. h;
  free_held = λ e m t n is not h. h;
  free_kept = λ e m t n is not h. h;
  free_found = λ e m t n is not h. absurd h;
}

abbrev memory : Unit {0} → Content Bool
memory c = given true

entered : IsEntered P T memory (λ i. true)
entered = record { inside = λ i. tt; shared = λ c s. (true, refl, λ i. tt); local = λ i c v mine r. absurd mine; fresh = λ i x h. h; stored = λ i x h. h; copies = λ i t x h. h }

abbrev next_of : Bool → Bool → Action P (Unit {0})
next_of i false = a_store tt true
next_of i true = a_ended

abbrev N : Source P
N = record {
  Answers = Bool;
  Object = Unit {0};
  none = false;
  told = λ a v. a;
  acked = λ a. true;
  next = next_of;
  place = λ i a. i;
  may_choose = λ i a v. ⊥;
  typed = λ x v. Unit {0};
  part = λ o c. ⊥;
  stands = λ i a q ρ. (q ≡ (i, a)) × (ρ ≡ true);
}

-- where the next action is none of the two
other : {A : Type 0} (i a : Bool) (x : Action P (Unit {0})) → next_of i a ≡ x → ((c : Unit {0}) (v : Bool) → a_store c v ≡ x → ⊥) → ((let y : Action P (Unit {0}) = a_ended in y) ≡ x → ⊥) → A
other i false x e f g = absurd (f tt true e)
other i true x e f g = absurd (g e)

stored_true : (i a : Bool) (c : Unit {0}) (v : Bool) → next_of i a ≡ a_store c v → (a ≡ false) × (true ≡ v)
stored_true i false c v e = (refl, same_value tt c true v e)
  where
    same_value : (c d : Unit {0}) (u v : Bool) → (let y : Action P (Unit {0}) = a_store c u in y) ≡ a_store d v → u ≡ v
    same_value c d u v e = cc
stored_true i true c v e = absurd (ended_store c v e)
  where
    ended_store : (c : Unit {0}) (v : Bool) → (let y : Action P (Unit {0}) = a_ended in y) ≡ a_store c v → ⊥
    ended_store c v e = cc

ended_true : (i a : Bool) → next_of i a ≡ a_ended → a ≡ true
ended_true i true e = refl
ended_true i false e = absurd (store_ended e)
  where
    store_ended : (let y : Action P (Unit {0}) = a_store tt true in y) ≡ a_ended → ⊥
    store_ended e = cc

owner_place : (i : Bool) (a : Bool) (q : Bool × Bool) (o : Operation (Unit {0}) (Unit {0})) → q ≡ (i, a) → (l : Leaves P N i q o) → l.edge ≡ i
owner_place i a q o is l = l.actor

lowered : IsLowered P N (λ i. true)
lowered = record {
  start = λ i. record { node = (i, false); temps = true; way = still; stands = (refl, refl) };
  at_load = λ i a q ρ c here is. other i a (a_load c) is (λ d v e. cc) (λ e. cc);
  at_load_any = λ i a q ρ c here is. other i a (a_load_any c) is (λ d v e. cc) (λ e. cc);
  at_choose = λ i a q ρ here is. other i a a_choose is (λ d v e. cc) (λ e. cc);
  at_store = λ i a q ρ c v here is.
      let s : (a ≡ false) × (true ≡ v) = stored_true i a c v is in
      (tt, tt, record { edge = i; actor = refl; from = (λ k. (i, sym s.0 k)) ∙ sym here.0; operation = refl }, record { points = tt; usable = inl tt; fits = tt }, here.1 ∙ s.1, record { node = (i, true); temps = ρ; way = still; stands = (refl, here.1) });
  at_clear = λ i a q ρ o here is. other i a (a_clear o) is (λ d v e. cc) (λ e. cc);
  at_lock = λ i a q ρ m here is. other i a (a_lock m) is (λ d v e. cc) (λ e. cc);
  at_unlock = λ i a q ρ m here is. other i a (a_unlock m) is (λ d v e. cc) (λ e. cc);
  at_yield = λ i a q ρ here is. other i a a_yield is (λ d v e. cc) (λ e. cc);
  at_held = λ i a q ρ m here is. other i a (a_probe m) is (λ d v e. cc) (λ e. cc);
  at_free = λ i a q ρ m here is. other i a (a_probe m) is (λ d v e. cc) (λ e. cc);
  at_fault = λ i a q ρ k here is. other i a (a_fault k) is (λ d v e. cc) (λ e. cc);
  at_end = λ i a q ρ here is. ap (λ (z : Bool × Bool). z.1) here.0 ∙ ended_true i a is;
  placed = λ i a q ρ o here not l. l.actor;
  lock_gets = λ e m is not. absurd (store_lock m is);
  unlock_drops = λ e m is mine h. h;
}

begin : World P N
begin = record { content = memory; answers = λ i. false; held = λ i. tt; status = λ i. waiting }

begun : IsReached P N memory begin
unfolding begin
begun = starts (record { content = λ c. refl; answers = λ i. refl; held = λ i n h. h; status = λ i. refl })

each : (i : Bool) → IsIn P N i (true ∷ (false ∷ []))
each true = inl refl
each false = inr (inl refl)

true_false : (let b : Bool = true in b) ≡ false → ⊥
true_false e = cc

-- the race of the two stores, which is there at the start, is listed
race_is_listed : (e : Bool) × (f : Bool) × (e ≡ true) × (f ≡ false) × (e ≡ true) × (f ≡ false) × IsRaceListed P T e f
unfolding begin
race_is_listed =
    next_race_listed P T N shape (top_solution P) memory (λ i. true) entered lowered begin (judged P T N shape (top_solution P) memory (λ i. true) entered lowered (true ∷ (false ∷ [])) each begin begun)
    true false true_false tt (next_stores true refl) (next_stores true refl) (inl (true, refl))
