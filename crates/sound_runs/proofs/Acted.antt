-- What a task does in one step of a run, and that it is a step of the soundness theorem's worlds.
use Rattle.std.proofs.Common.{◌≡◌, ◌≢◌, ◌⊎◌, inl, inr, refl, ap, subst, ◌∙◌, ℕ, zero, suc, ◌<◌, ◌≤◌, Bool, true}
use Rattle.std.proofs.Common.{false, List, []}
use Rattle.std.proofs.Common.{◌∷◌, ◌||◌, length, get_or, if◌then◌else◌, arith}
use Rattle.std.specs.Prelude.{ℤ, nat_lt}
use Rattle.std.proofs.lemmas.Bool.{lt-ltb}
use Rattle.layout_laws.specs.tm_terms.declared.places.Place.{Place}
use Rattle.layout_laws.specs.tm_typed.declared.types.Scalar.{Scalar}
use Rattle.layout_laws.specs.tm_laid.Layouts.{LaidTree, cell_at, cell_of}
use Rattle.program_shape.specs.concrete_values.declared.values.Value.{Value}
use Rattle.program_shape.specs.concrete_values.declared.values.Value.TheVariants.{Number}
use Rattle.program_shape.specs.concrete_values.declared.values.Answer.{Answer}
use Rattle.program_shape.specs.concrete_values.declared.values.Answer.TheVariants as Answers
use Rattle.program_shape.specs.concrete_values.declared.actions.Next.{Next}
use Rattle.program_shape.specs.concrete_values.declared.actions.Next.TheVariants as Acts
use Rattle.program_shape.specs.concrete_values.Values.{truth_value}
use Rattle.program_shape.specs.concrete_values.Actions.{is_between}
use Rattle.program_shape.specs.concrete_steps.declared.worlds.Content.TheVariants.{Is}
use Rattle.program_shape.specs.concrete_steps.declared.worlds.Status.{Status}
use Rattle.program_shape.specs.concrete_steps.declared.worlds.Status.TheVariants.{Waiting, Ready, Blocked, Done}
use Rattle.program_shape.specs.concrete_steps.declared.worlds.Choice.{Choice}
use Rattle.program_shape.specs.concrete_steps.declared.worlds.Choice.TheVariants.{Wake, Run}
use Rattle.program_shape.specs.concrete_steps.NextAction.{next}
use Rattle.program_shape.specs.concrete_steps.Worlds.{Standing, World, standing, next_at, is_section, holds}
use Rattle.program_shape.specs.concrete_steps.Worlds.{cleared_content, is_part, woken, with_status, is_taken}
use Rattle.program_shape.specs.concrete_steps.Worlds.{is_blocked_on}
use Rattle.program_shape.specs.concrete_steps.Worlds.{tasks_may_run}
use Rattle.program_shape.specs.concrete_steps.Worlds.{no_standing}
use Rattle.program_shape.specs.concrete_steps.Moves.{status_of, content_of, SameAnswers, SameHeld, SameContents}
use Rattle.program_shape.specs.concrete_steps.Moves.{OthersStand, Turn}
use Rattle.program_shape.specs.concrete_steps.Moves.{NowHolds, Reads, held_with, IsMove, wakes, loads, stores, chooses}
use Rattle.program_shape.specs.concrete_steps.Moves.{clears, takes}
use Rattle.program_shape.specs.concrete_steps.Moves.{waits_for, gives_up, gives_way, probes, goes_round}
use Rattle.program_shape.specs.flow_graph.Graphs.{Edges}
use Rattle.program_shape.specs.mutex_configs.Sets.{has}
use Rattle.next_action_laws.specs.Actions.{IsProper}
use Rattle.next_action_laws.specs.Worlds.{HoldsTypes}
use Rattle.program_shape.specs.tm_soundness.Shape.{Shape}
use Rattle.program_shape.specs.tm_soundness.Worlds.{Source, World as AWorld, Step}
use Rattle.program_shape.specs.tm_soundness.Numbered.{TaskOf}
use Rattle.program_shape.specs.Shape.{Parts, shape_of, Has}
use Rattle.sound_runs.specs.Sources.{source_of, LaysCells}
use Rattle.sound_runs.specs.Images.{parts_with, world_of}
use Rattle.sound_runs.proofs.Moved.{load_moves, store_moves, choose_moves, clear_moves, lock_moves, unlock_moves}
use Rattle.sound_runs.proofs.Moved.{probe_moves}
use Rattle.sound_runs.proofs.Sizes.{AreSizes, places_of}

-- ## What a task does

module _ (laid : LaidTree) (w w' : World) where
  abbrev keeps_held : ℕ → ℕ → Bool
  keeps_held i m = holds m (standing w i)

  pub data Does (i : ℕ) : Type 0 where
    does_load : (o k : ℕ) (s : Scalar) (b : Bool) (p : Place) (v : Value) → next_at laid w i ≡ Acts.Load o k s b p
        → Reads laid s b (content_of w (cell_of laid o k)) v → Turn laid w w' i (Answers.Given v) Ready
        → OthersStand w w' i → NowHolds laid w' i (λ m. holds m (standing w i)) → SameContents w w' → Does i
    does_store : (o k : ℕ) (s : Scalar) (p : Place) (v : Value) → next_at laid w i ≡ Acts.Store o k s v p
        → Turn laid w w' i Answers.Done Ready → OthersStand w w' i
        → NowHolds laid w' i (λ m. holds m (standing w i)) → content_of w' (cell_of laid o k) ≡ Is v
        → ((c : ℕ) → c ≢ cell_of laid o k → content_of w' c ≡ content_of w c) → Does i
    does_choose : (low high n : ℤ) → next_at laid w i ≡ Acts.Chosen low high → is_between low high (Number n) ≡ true
        → Turn laid w w' i (Answers.Given (Number n)) Ready → OthersStand w w' i
        → NowHolds laid w' i (λ m. holds m (standing w i)) → SameContents w w' → Does i
    does_clear : (o : ℕ) → next_at laid w i ≡ Acts.Clear o → Turn laid w w' i Answers.Done Ready → OthersStand w w' i
        → NowHolds laid w' i (λ m. holds m (standing w i))
        → ((c : ℕ) → c < length w.contents
        → content_of w' c ≡ (if is_part laid o c then cleared_content (cell_at laid c).scalar else content_of w c))
        → Does i
    does_lock : (m : ℕ) (p : Place) → next_at laid w i ≡ Acts.Lock m p → is_taken m w.standings ≡ false
        → Turn laid w w' i Answers.Done Ready → OthersStand w w' i
        → NowHolds laid w' i (held_with m (nat_lt m (length (standing w i).held)) (standing w i)) → SameContents w w'
        → Does i
    does_wait : (m : ℕ) (p : Place) → next_at laid w i ≡ Acts.Lock m p → holds m (standing w i) ≡ false
        → is_taken m w.standings ≡ true → status_of w i ≡ Ready
        → ((j : ℕ) → (standing w i).priority < (standing w j).priority → status_of w j ≡ Ready → ⊥)
        → status_of w' i ≡ Blocked m → OthersStand w w' i → SameAnswers w w' → SameHeld w w' → SameContents w w'
        → Does i
    does_unlock : (m : ℕ) (p : Place) → next_at laid w i ≡ Acts.Unlock m p → holds m (standing w i) ≡ true
        → Turn laid w w' i Answers.Done Ready → ((j : ℕ) → j ≢ i → status_of w' j ≡ (woken m (standing w j)).status)
        → NowHolds laid w' i (held_with m false (standing w i)) → SameContents w w' → Does i
    does_yield : next_at laid w i ≡ Acts.Yield
        → Turn laid w w' i Answers.Done (if is_section laid i then Ready else Waiting) → OthersStand w w' i
        → NowHolds laid w' i (λ m. holds m (standing w i)) → SameContents w w' → Does i
    does_probe : (m : ℕ) (p : Place) → next_at laid w i ≡ Acts.Probe m p
        → Turn laid w w' i (Answers.Given (truth_value (is_taken m w.standings))) Ready → OthersStand w w' i
        → NowHolds laid w' i (λ l. holds l (standing w i)) → SameContents w w' → Does i
    does_nothing : status_of w i ≡ Ready → w' ≡ w → Does i

  pub record IsWoken (i : ℕ) : Type 0 where
    pub may : tasks_may_run laid w ≡ true
    pub before : status_of w i ≡ Waiting
    pub after : status_of w' i ≡ Ready
    pub others : OthersStand w w' i
    pub answers : SameAnswers w w'
    pub held : SameHeld w w'
    pub contents : SameContents w w'

  abbrev pub MovesAs : Choice → Type 0
  MovesAs (Wake i) = IsWoken i
  MovesAs (Run i n) = Does i

  pub moves_as : (c : Choice) → IsMove laid w w' c → MovesAs c
  moves_as c (wakes may before after others answers held contents) = record {
    may = may;
    before = before;
    after = after;
    others = others;
    answers = answers;
    held = held;
    contents = contents;
  }
  moves_as c (loads {o = o} {k = k} {s = s} {volatile = b} {p = p} {v = v} is within r t others now same) =
      does_load o k s b p v is r t others now same
  moves_as c (stores {o = o} {k = k} {s = s} {p = p} {v = v} is within t others now new rest) =
      does_store o k s p v is t others now new rest
  moves_as c (chooses {low = low} {high = high} {n = n} is may t others now same) =
      does_choose low high n is may t others now same
  moves_as c (clears {o = o} is t others now new) = does_clear o is t others now new
  moves_as c (takes {m = m} {p = p} is free t others now same) = does_lock m p is free t others now same
  moves_as c (waits_for {m = m} {p = p} is not taken runs first now others answers held same) =
      does_wait m p is not taken runs first now others answers held same
  moves_as c (gives_up {m = m} {p = p} is mine t others now same) = does_unlock m p is mine t others now same
  moves_as c (gives_way is t others now same) = does_yield is t others now same
  moves_as c (probes {m = m} {p = p} is t others now same) = does_probe m p is t others now same
  moves_as c (goes_round is runs first same) = does_nothing runs same

  -- it is ready before
  pub was_ready : (i : ℕ) → Does i → status_of w i ≡ Ready
  was_ready i (does_load o k s b p v is r t others now same) = t.ready
  was_ready i (does_store o k s p v is t others now new rest) = t.ready
  was_ready i (does_choose low high n is may t others now same) = t.ready
  was_ready i (does_clear o is t others now new) = t.ready
  was_ready i (does_lock m p is free t others now same) = t.ready
  was_ready i (does_wait m p is not taken runs first now others answers held same) = runs
  was_ready i (does_unlock m p is mine t others now same) = t.ready
  was_ready i (does_yield is t others now same) = t.ready
  was_ready i (does_probe m p is t others now same) = t.ready
  was_ready i (does_nothing runs same) = runs

  -- what it holds then
  abbrev pub held_by : (i : ℕ) → Does i → ℕ → Bool
  held_by i (does_lock m p is free t others now same) l =
      held_with m (nat_lt m (length (standing w i).held)) (standing w i) l
  held_by i (does_unlock m p is mine t others now same) l = held_with m false (standing w i) l
  held_by i d l = holds l (standing w i)

  -- an action that is answered at once, and no yield
  abbrev pub IsPlainly : (i : ℕ) → Does i → Type 0
  IsPlainly i (does_wait m p is not taken runs first now others answers held same) = ⊥
  IsPlainly i (does_yield is t others now same) = ⊥
  IsPlainly i (does_nothing runs same) = ⊥
  IsPlainly i d = Unit {0}

  -- the turn that it takes
  pub record IsTurn (i : ℕ) (held : ℕ → Bool) : Type 0 where
    pub answer : Answer
    pub turn : Turn laid w w' i answer Ready
    pub now : NowHolds laid w' i held

  pub turn_of : (i : ℕ) → (d : Does i) → IsPlainly i d → IsTurn i (held_by i d)
  turn_of i (does_load o k s b p v is r t others now same) h = record { answer = Answers.Given v; turn = t; now = now }
  turn_of i (does_store o k s p v is t others now new rest) h = record { answer = Answers.Done; turn = t; now = now }
  turn_of i (does_choose low high n is may t others now same) h =
      record { answer = Answers.Given (Number n); turn = t; now = now }
  turn_of i (does_clear o is t others now new) h = record { answer = Answers.Done; turn = t; now = now }
  turn_of i (does_lock m p is free t others now same) h = record { answer = Answers.Done; turn = t; now = now }
  turn_of i (does_wait m p is not taken runs first now others answers held same) h = absurd h
  turn_of i (does_unlock m p is mine t others now same) h = record { answer = Answers.Done; turn = t; now = now }
  turn_of i (does_yield is t others now same) h = absurd h
  turn_of i (does_probe m p is t others now same) h =
      record { answer = Answers.Given (truth_value (is_taken m w.standings)); turn = t; now = now }
  turn_of i (does_nothing runs same) h = absurd h

  abbrev pub IsCalm : Status → Type 0
  IsCalm x = (m : ℕ) → x ≡ Blocked m → ⊥

  calm_status : (m : ℕ) (x : Status) → IsCalm x → (if is_blocked_on m x then Ready else x) ≡ x
  calm_status m Waiting h = refl
  calm_status m Ready h = refl
  calm_status m Done h = refl
  calm_status m (Blocked n) h = absurd (h n refl)

  woken_if : (b : Bool) (s : Standing) → (if b then with_status Ready s else s).status ≡ (if b then Ready else s.status)
  woken_if true s = refl
  woken_if false s = refl

  -- others that wait for no mutex stand as before
  pub others_calm : (i : ℕ) → Does i → (j : ℕ) → j ≢ i → IsCalm (status_of w j) → status_of w' j ≡ status_of w j
  others_calm i (does_load o k s b p v is r t others now same) j d calm = others.same j d
  others_calm i (does_store o k s p v is t others now new rest) j d calm = others.same j d
  others_calm i (does_choose low high n is may t others now same) j d calm = others.same j d
  others_calm i (does_clear o is t others now new) j d calm = others.same j d
  others_calm i (does_lock m p is free t others now same) j d calm = others.same j d
  others_calm i (does_wait m p is not taken runs first now others answers held same) j d calm = others.same j d
  others_calm i (does_unlock m p is mine t others now same) j d calm =
      others j d ∙ (woken_if (is_blocked_on m (status_of w j)) (standing w j) ∙ calm_status m (status_of w j) calm)
  others_calm i (does_yield is t others now same) j d calm = others.same j d
  others_calm i (does_probe m p is t others now same) j d calm = others.same j d
  others_calm i (does_nothing runs same) j d calm = ap (λ z. status_of z j) same

-- ## Which mutexes are taken

or_left : (a b : Bool) → (a || b) ≡ false → a ≡ false
or_left true b e = absurd (cc)
or_left false b e = refl

or_right : (a b : Bool) → (a || b) ≡ false → b ≡ false
or_right true b e = absurd (cc)
or_right false b e = e

pub not_taken : (m : ℕ) (ss : List Standing) (j : ℕ) → is_taken m ss ≡ false
    → holds m (get_or ss j no_standing) ≡ false
not_taken m [] j e = refl
not_taken m (s ∷ ss) zero e = or_left (holds m s) (is_taken m ss) e
not_taken m (s ∷ ss) (suc j) e = not_taken m ss j (or_right (holds m s) (is_taken m ss) e)

-- one of the tasks holds it
pub record IsHolder (m : ℕ) (ss : List Standing) : Type 0 where
  pub holder : ℕ
  pub within : holder < length ss
  pub holds_it : holds m (get_or ss holder no_standing) ≡ true

or_cases : (a b : Bool) → (a || b) ≡ true → (a ≡ true) ⊎ (b ≡ true)
or_cases true b e = inl refl
or_cases false b e = inr e

one_behind : (m : ℕ) (s : Standing) (ss : List Standing) → IsHolder m ss → IsHolder m (s ∷ ss)
one_behind m s ss h =
    let lt = h.within in record { holder = suc h.holder; within = omega (arith, lt); holds_it = h.holds_it }

pub some_taken : (m : ℕ) (ss : List Standing) → is_taken m ss ≡ true → IsHolder m ss
some_taken m [] e = absurd (cc)
some_taken m (s ∷ ss) e = by_first (or_cases (holds m s) (is_taken m ss) e) (λ f. some_taken m ss f)
  where
    by_first : (holds m s ≡ true) ⊎ (is_taken m ss ≡ true) → (is_taken m ss ≡ true → IsHolder m ss)
        → IsHolder m (s ∷ ss)
    by_first (inl h) more = record { holder = 0; within = omega arith; holds_it = h }
    by_first (inr h) more = one_behind m s ss (more h)

-- ## Steps

module _ (laid : LaidTree) (graph : ℕ → Edges) (tasks : ℕ) (number : TaskOf tasks → ℕ) (rank : ℕ → ℕ)
    (one : (i j : TaskOf tasks) → number i ≡ number j → i ≡ j) (lays : LaysCells laid)
    (few : length laid.file.mutexes ≤ 16) (w w' : World) (s : TaskOf tasks) (H H' : TaskOf tasks → ℕ)
    (ranks : (j : TaskOf tasks) → rank (number s) < rank (number j)
    → (standing w (number s)).priority < (standing w (number j)).priority)
    (same_others : (j : TaskOf tasks) → (j ≡ s → ⊥) → H' j ≡ H j)
    (has_held : (m : ℕ) → m < 16 → has (H s) m ≡ holds m (standing w (number s)))
    (types : HoldsTypes laid w) (proper : IsProper laid (number s) (next_at laid w (number s)))
    (sizes : AreSizes laid w) (there : number s < length w.standings)
    (free : (m : ℕ) → is_taken m w.standings ≡ false → (j : TaskOf tasks) → Has (H j) m → ⊥)
    (taken : (m : ℕ) → m < 16 → is_taken m w.standings ≡ true → ((j : TaskOf tasks) → Has (H j) m → ⊥) → ⊥) where
  abbrev x : Parts
  x = parts_with laid graph tasks number rank

  abbrev S : Shape
  S = shape_of x

  abbrev N : Source S
  N = source_of x (next laid)

  abbrev C : AWorld S N
  C = world_of laid graph tasks number rank w H

  abbrev C' : AWorld S N
  C' = world_of laid graph tasks number rank w' H'

  abbrev i : ℕ
  i = number s

  proper_at : (n : Next) → next_at laid w i ≡ n → IsProper laid i n
  proper_at n is = subst (λ z. IsProper laid i z) is proper

  pub mutex_small : (m : ℕ) → m < length laid.file.mutexes → m < 16
  mutex_small m lt = omega (arith, lt, few)

  pub acted : (d : Does laid w w' i) → IsPlainly laid w w' i d
      → ((m : ℕ) → m < 16 → has (H' s) m ≡ held_by laid w w' i d m) → Step S N C C'
  acted (does_load o k sc b p v is r t others now same) h new =
      load_moves laid graph tasks number rank one lays w w' s H H' ranks same_others has_held o k sc b p v is
      (proper_at (Acts.Load o k sc b p) is) types r t others new same
  acted (does_store o k sc p v is t others now at rest) h new =
      store_moves laid graph tasks number rank one lays w w' s H H' ranks same_others has_held o k sc v p is
      (proper_at (Acts.Store o k sc v p) is).0 t others new at rest
  acted (does_choose low high n is may t others now same) h new =
      choose_moves laid graph tasks number rank one lays w w' s H H' ranks same_others has_held low high n is may t
      others new same
  acted (does_clear o is t others now at) h new =
      clear_moves laid graph tasks number rank one lays w w' s H H' ranks same_others has_held o is t others new
      (λ c lt. at c (let all = sizes.contents in omega (arith, lt, all)))
  acted (does_lock m p is none t others now same) h new =
      let lt : m < length laid.file.mutexes = proper_at (Acts.Lock m p) is in
      let places : length (standing w i).held ≡ length laid.file.mutexes =
      places_of (length laid.file.mutexes) w.standings i sizes.places there in
      let within : m < length (standing w i).held = omega (arith, lt, places) in
      lock_moves laid graph tasks number rank one lays w w' s H H' ranks same_others has_held m p is (mutex_small m lt)
      (free m none) t others
      (λ n small. new n small ∙ ap (λ b. held_with m b (standing w i) n) (lt-ltb m (length (standing w i).held) within))
      same
  acted (does_wait m p is not taken' runs first now others answers held same) h new = absurd h
  acted (does_unlock m p is mine t others now same) h new =
      unlock_moves laid graph tasks number rank one lays w w' s H H' ranks same_others has_held m p is
      (mutex_small m (proper_at (Acts.Unlock m p) is)) mine t others new same
  acted (does_yield is t others now same) h new = absurd h
  acted (does_probe m p is t others now same) h new =
      probe_moves laid graph tasks number rank one lays w w' s H H' ranks same_others has_held m p
      (is_taken m w.standings) is (taken m (mutex_small m (proper_at (Acts.Probe m p) is))) (free m) t others new same
  acted (does_nothing runs same) h new = absurd h
