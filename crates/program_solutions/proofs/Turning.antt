-- Passes of the tasks in turn: where they begin, what each keeps, and where they end.
use Rattle.std.specs.Prelude.{◌≡◌, ◌⊎◌, ℕ, zero, suc, ◌+◌, ◌-◌, ◌*◌, ◌<◌, ◌≤◌, cond, List, [], ◌∷◌, ◌++◌}
use Rattle.std.specs.Prelude.{length, get_or, Option, Some, None, IfSome, refl}
use Rattle.std.proofs.Common.{sym, ap, subst, ◌∙◌, inl, inr, arith}
use Rattle.std.specs.declared.vec.Vec.{Vec}
use Rattle.std.specs.Prelude.{set}
use Rattle.std.proofs.lemmas.Bool.{cases_lt, cases_eq, lt-ltb, le-ltb}
use Rattle.std.proofs.lemmas.List.{length-map, length-set, map-set, get_or-set_same, get_or-set_other}
use Rattle.std.proofs.Math.Nat.{mul-le-mul_right}
use Rattle.interfere_set.specs.Stores.{Interferences, IsStoreBelow, no_interference, store_height}
use Rattle.interfere_set.specs.laws.StoreLaws.{store_order}
use Rattle.tm_lattice.specs.Rounds.{IsPublished}
use Rattle.store_limits.specs.transfer_rows.StateForms.{State}
use Rattle.store_limits.specs.value_heights.Heights.{value_height}
use Rattle.store_limits.specs.program_equations.Programs.{ProgramBodies, IsProgram}
use Rattle.store_limits.specs.program_equations.Systems.{stores, FitsProgram}
use Rattle.store_limits.specs.program_equations.Solutions.{passing, table_at}
use Rattle.store_limits.specs.program_equations.laws.StoresFit.{nothing_fits}
use Rattle.program_reports.specs.post_recheck.Pairs.{lists_of}
use Rattle.store_limits.specs.Limits.{store_limit, published}
use Rattle.store_limits.proofs.Climbing.{published_fits, published_above, published_nearer}
use Rattle.thread_pass.specs.Analyses.{IsLeastTable, IsStartTable}
use Rattle.thread_pass.specs.Starts.{StartOf, AreTaskValues, IsTaskStart}
use Rattle.program_solutions.specs.reading.Turns.{IsQuietTable, IsKeptTable, HasPassed, turn_after, IsUnderway}
use Rattle.program_solutions.specs.reading.Turns.{HasEnded, left}

-- ## Turns as numbers

-- the next turn is that of the next task, or that of the first after that of the last
turn_cases : (task tasks : ℕ) → task < tasks → ((turn_after task tasks ≡ task + 1) × (task + 1 < tasks))
    ⊎ ((turn_after task tasks ≡ 0) × (task + 1 ≡ tasks))
turn_cases task tasks lt = elim (cases_lt (task + 1) tasks) [
  | inl more ↦ inl (ap (λ b. cond b (task + 1) 0) (lt-ltb (task + 1) tasks more), more)
  | inr last ↦ inr (ap (λ b. cond b (task + 1) 0) (le-ltb (task + 1) tasks last), omega (arith, lt, last))
]

turn_within : (task tasks : ℕ) → task < tasks → turn_after task tasks < tasks
turn_within task tasks lt = elim (turn_cases task tasks lt) [
  | inl more ↦ subst (λ n. n < tasks) (sym more.0) more.1
  | inr last ↦ subst (λ n. n < tasks) (sym last.0) (omega (arith, lt))
]

-- another task that has passed after one turn more had passed before
passed_on : (tasks task quiet t : ℕ) → task < tasks → t < tasks → (t ≡ task → ⊥)
    → HasPassed tasks (task + 1) (quiet + 1) t → HasPassed tasks task quiet t
passed_on tasks task quiet t task-lt lt differ passed = record {
  this_time = λ before. (let here = passed.this_time (omega (arith, before)) in omega (arith, here));
  last_time = λ past. (let behind : task + 1 ≤ t = not_equal task t past differ in
      let here = passed.last_time behind in omega (arith, here));
}
  where
    not_equal : (a b : ℕ) → a ≤ b → (b ≡ a → ⊥) → a + 1 ≤ b
    not_equal a b le apart = elim (cases_lt a b) [
      | inl less ↦ omega (arith, less)
      | inr more ↦ absurd (apart (omega (arith, le, more)))
    ]

passed_round : (tasks task quiet t : ℕ) → task + 1 ≡ tasks → t < tasks → (t ≡ task → ⊥)
    → HasPassed tasks 0 (quiet + 1) t → HasPassed tasks task quiet t
passed_round tasks task quiet t last lt differ passed =
    let here = passed.last_time (omega arith) in record {
      this_time = λ before. omega (arith, here, last, before);
      last_time = λ past. absurd (differ (omega (arith, last, lt, past)));
    }

passed_before : (tasks task quiet t : ℕ) → task < tasks → t < tasks → (t ≡ task → ⊥)
    → HasPassed tasks (turn_after task tasks) (quiet + 1) t → HasPassed tasks task quiet t
passed_before tasks task quiet t task-lt lt differ passed = elim (turn_cases task tasks task-lt) [
  | inl more ↦ passed_on tasks task quiet t task-lt lt differ
      (subst (λ n. HasPassed tasks n (quiet + 1) t) more.0 passed)
  | inr last ↦ passed_round tasks task quiet t last.1 lt differ
      (subst (λ n. HasPassed tasks n (quiet + 1) t) last.0 passed)
]

-- in no turn, none has passed
none_passed : (tasks next t : ℕ) → t < tasks → HasPassed tasks next 0 t → ⊥
none_passed tasks next t lt passed = elim (cases_lt t next) [
  | inl before ↦ (let here = passed.this_time before in omega (arith, here, before))
  | inr past ↦ (let here = passed.last_time past in omega (arith, here, lt))
]

-- in as many turns as there are tasks, each has passed
all_passed : (tasks next quiet t : ℕ) → next < tasks → tasks ≤ quiet → HasPassed tasks next quiet t
all_passed tasks next quiet t within most = record {
  this_time = λ before. omega (arith, within, most);
  last_time = λ past. omega (arith, past, most);
}

-- ## Tables

-- no task has a table yet
abbrev pub AreEmpty : {A : Type 0} → List (Vec (Option State) A) → Type 0
AreEmpty xs = (t : ℕ) → table_at (lists_of xs) t ≡ []

pub no_tables : {A : Type 0} (xs : List (Vec (Option State) A)) → xs ≡ [] → AreEmpty xs
no_tables {A} xs is t = ap (λ (ys : List (Vec (Option State) A)). table_at (lists_of ys) t) is

one_more : {A : Type 0} (xs : List (Vec (Option State) A)) (x : Vec (Option State) A) → x.items ≡ [] → AreEmpty xs
    → AreEmpty (xs ++ (x ∷ []))
one_more [] x none each zero = none
one_more [] x none each (suc t) = refl
one_more (y ∷ xs) x none each zero = each zero
one_more (y ∷ xs) x none each (suc t) = one_more xs x none (λ k. each (suc k)) t

pub pushed : {A : Type 0} (xs ys : List (Vec (Option State) A)) (x : Vec (Option State) A) → ys ≡ xs ++ (x ∷ [])
    → x.items ≡ [] → AreEmpty xs → AreEmpty ys
pushed {A} xs ys x is none each =
    subst (λ (zs : List (Vec (Option State) A)). AreEmpty zs) (sym is) (one_more xs x none each)

-- a table as it is read
table_read : {A : Type 0} (xs : List (Vec (Option State) A)) (n : ℕ) (x : Vec (Option State) A) → n < length xs
    → x ≡ get_or xs n x → x.items ≡ table_at (lists_of xs) n
table_read [] n x lt e = absurd (omega (arith, lt))
table_read {A} (y ∷ xs) zero x lt e = ap (λ (v : Vec (Option State) A). v.items) e
table_read (y ∷ xs) (suc n) x lt e = table_read xs n x (omega (arith, lt)) e

-- a table that is taken out, and another in its place
module _ {A : Type 0} (xs : List (Vec (Option State) A)) (n : ℕ) (none table : Vec (Option State) A) where
  abbrev pub written : List (Vec (Option State) A)
  written = set (set xs n none) n table

  written_is : lists_of written ≡ set (set (lists_of xs) n none.items) n table.items
  written_is =
      map-set (λ (v : Vec (Option State) A). v.items) (set xs n none) n table
      ∙ ap (λ ts. set ts n table.items) (map-set (λ (v : Vec (Option State) A). v.items) xs n none)

  written_count : length (lists_of written) ≡ length (lists_of xs)
  written_count = ap length written_is ∙ length-set (set (lists_of xs) n none.items) n table.items
      ∙ length-set (lists_of xs) n none.items

  written_others : (t : ℕ) → (t ≡ n → ⊥) → table_at (lists_of written) t ≡ table_at (lists_of xs) t
  written_others t other = ap (λ ts. table_at ts t) written_is
      ∙ get_or-set_other (set (lists_of xs) n none.items) n t table.items [] other
      ∙ get_or-set_other (lists_of xs) n t none.items [] other

  written_here : n < length (lists_of xs) → table_at (lists_of written) n ≡ table.items
  written_here within = ap (λ ts. table_at ts n) written_is
      ∙ get_or-set_same (set (lists_of xs) n none.items) n table.items []
      (subst (λ k. n < k) (sym (length-set (lists_of xs) n none.items)) within)

-- ## Starts

-- no task has a start yet
abbrev pub AreUnstarted : List (Option StartOf) → Type 0
AreUnstarted ss = (t : ℕ) → get_or ss t None ≡ None

pub no_start : (ss : List (Option StartOf)) → ss ≡ [] → AreUnstarted ss
no_start ss is t = ap (λ (ys : List (Option StartOf)). get_or ys t None) is

none_more : (ss : List (Option StartOf)) → AreUnstarted ss → AreUnstarted (ss ++ (None ∷ []))
none_more [] each zero = refl
none_more [] each (suc t) = refl
none_more (s ∷ ss) each zero = each zero
none_more (s ∷ ss) each (suc t) = none_more ss (λ k. each (suc k)) t

pub none_pushed : (ss all : List (Option StartOf)) → all ≡ ss ++ (None ∷ []) → AreUnstarted ss → AreUnstarted all
none_pushed ss all is each = subst (λ (ys : List (Option StartOf)). AreUnstarted ys) (sym is) (none_more ss each)

weaker : {A : Type 0} (P Q : A → Type 0) → ((a : A) → P a → Q a) → (x : Option A) → IfSome x P → IfSome x Q
weaker P Q f None h = tt
weaker P Q f (Some a) h = f a h

-- a start that is taken out, and another in its place
module _ (ss : List (Option StartOf)) (n : ℕ) (gone start : Option StartOf) where
  abbrev pub restarted : List (Option StartOf)
  restarted = set (set ss n gone) n start

  restarted_count : length restarted ≡ length ss
  restarted_count = length-set (set ss n gone) n start ∙ length-set ss n gone

  restarted_others : (t : ℕ) → (t ≡ n → ⊥) → get_or restarted t None ≡ get_or ss t None
  restarted_others t other = get_or-set_other (set ss n gone) n t start None other
      ∙ get_or-set_other ss n t gone None other

  restarted_here : n < length ss → get_or restarted n None ≡ start
  restarted_here within = get_or-set_same (set ss n gone) n start None
      (subst (λ k. n < k) (sym (length-set ss n gone)) within)

-- ## Turns of a program

module _ (p : ProgramBodies) (is : IsProgram p) where
  begins : (tables : List (List (Option State))) → length tables ≡ p.tasks → ((t : ℕ) → table_at tables t ≡ [])
      → (starts : List (Option StartOf)) → length starts ≡ p.tasks → AreUnstarted starts
      → IsUnderway p no_interference tables starts 0 0
  begins tables count empty starts places none = record {
    earlier = [];
    history = refl;
    fits = nothing_fits p.laid p.tasks;
    count = count;
    turn = λ some. some;
    most = omega arith;
    kept = λ t lt some. absurd (some (empty t));
    places = places;
    started = λ t lt. subst (λ s. IfSome s (IsTaskStart p t no_interference)) (sym (none t)) tt;
    each = λ t lt passed. absurd (none_passed p.tasks 0 t lt passed);
  }

  -- with as many tables as there are tasks, and the least store
  pub begun : {A : Type 0} (xs : List (Vec (Option State) A)) (store : Interferences) (tasks : ℕ)
      → store ≡ no_interference → length xs ≡ tasks → AreEmpty xs → tasks ≡ p.tasks
      → (starts : List (Option StartOf)) → length starts ≡ tasks → AreUnstarted starts
      → IsUnderway p store (lists_of xs) starts 0 0
  begun {A} xs store tasks store-is count empty tasks-are starts places none =
      subst (λ s. IsUnderway p s (lists_of xs) starts 0 0) (sym store-is)
      (begins (lists_of xs) (length-map xs (λ (v : Vec (Option State) A). v.items) ∙ count ∙ tasks-are) empty
      starts (places ∙ tasks-are) none)

  -- the table of a pass over this store, and one over a store below it
  start_here : (t : ℕ) (store : Interferences) (table : List (Option State)) → FitsProgram p store
      → IsLeastTable p t store table → IsStartTable p t store table
  start_here t store table fits least = record {
    before = store;
    before_fits = fits;
    before_below = store_order.reflexive store fits.form;
    before_least = least;
  }

  start_later : (t : ℕ) (store later : Interferences) (table : List (Option State)) → FitsProgram p store
      → FitsProgram p later → IsStoreBelow store later → IsStartTable p t store table → IsStartTable p t later table
  start_later t store later table fits later-fits rises start = record {
    before = start.before;
    before_fits = start.before_fits;
    before_below = store_order.transitive start.before store later start.before_fits.form fits.form later-fits.form
        start.before_below rises;
    before_least = start.before_least;
  }

  -- what stands at the variables of a task over this store, and what stood there over one below it
  values_here : (t : ℕ) (store : Interferences) → FitsProgram p store → (start : Option StartOf)
      → IfSome start (AreTaskValues p t store) → IfSome start (IsTaskStart p t store)
  values_here t store fits start h = weaker (AreTaskValues p t store) (IsTaskStart p t store)
      (λ s values. record {
        before = store;
        before_fits = fits;
        before_below = store_order.reflexive store fits.form;
        values = values;
      }) start h

  values_later : (t : ℕ) (store later : Interferences) → FitsProgram p store → FitsProgram p later
      → IsStoreBelow store later → (start : Option StartOf) → IfSome start (IsTaskStart p t store)
      → IfSome start (IsTaskStart p t later)
  values_later t store later fits later-fits rises start h = weaker (IsTaskStart p t store) (IsTaskStart p t later)
      (λ s begun. record {
        before = begun.before;
        before_fits = begun.before_fits;
        before_below = store_order.transitive begun.before store later begun.before_fits.form fits.form later-fits.form
            begun.before_below rises;
        values = begun.values;
      }) start h

  module _ (store : Interferences) (tables : List (List (Option State))) (starts : List (Option StartOf)) (next quiet : ℕ)
      (underway : IsUnderway p store tables starts next quiet) (loud : quiet < p.tasks) where
    within : next < p.tasks
    within = underway.turn (omega (arith, loud))

    -- the pass of the next task
    module _ (later : List (List (Option State))) (same : length later ≡ length tables)
        (others : (t : ℕ) → (t ≡ next → ⊥) → table_at later t ≡ table_at tables t)
        (is-least : IsLeastTable p next store (table_at later next)) (begun : List (Option StartOf))
        (same-places : length begun ≡ length starts)
        (other-starts : (t : ℕ) → (t ≡ next → ⊥) → get_or begun t None ≡ get_or starts t None)
        (values : IfSome (get_or begun next None) (AreTaskValues p next store)) where
      kept_later : (t : ℕ) → t < p.tasks → IsKeptTable p t store (table_at later t)
      kept_later t lt = elim (cases_eq t next) [
        | inl here ↦ λ some. subst (λ k. IsStartTable p k store (table_at later k)) (sym here)
            (start_here next store (table_at later next) underway.fits is-least)
        | inr other ↦ subst (IsKeptTable p t store) (sym (others t other)) (underway.kept t lt)
      ]

      started_later : (t : ℕ) → t < p.tasks → IfSome (get_or begun t None) (IsTaskStart p t store)
      started_later t lt = elim (cases_eq t next) [
        | inl here ↦ subst (λ k. IfSome (get_or begun k None) (IsTaskStart p k store)) (sym here)
            (values_here next store underway.fits (get_or begun next None) values)
        | inr other ↦ subst (λ s. IfSome s (IsTaskStart p t store)) (sym (other-starts t other)) (underway.started t lt)
      ]

      -- it adds nothing
      quiet_turn : IsStoreBelow (published p next store) store
          → IsUnderway p store later begun (turn_after next p.tasks) (quiet + 1)
      quiet_turn quiet-below = record {
        earlier = underway.earlier;
        history = underway.history;
        fits = underway.fits;
        count = same ∙ underway.count;
        turn = λ some. turn_within next p.tasks within;
        most = omega (arith, loud);
        kept = kept_later;
        places = same-places ∙ underway.places;
        started = started_later;
        each = λ t lt passed. elim (cases_eq t next) [
          | inl here ↦ subst (λ k. IsQuietTable p k store (table_at later k)) (sym here)
              (record { least = is-least; below = quiet-below })
          | inr other ↦ subst (IsQuietTable p t store) (sym (others t other))
              (underway.each t lt (passed_before p.tasks next quiet t within lt other passed))
        ];
      }

      step : IsPublished stores passing p store (store ∷ underway.earlier) (published p next store)
      step = record {
        task = next;
        exists = within;
        read = store;
        stood = (zero, omega arith, refl);
        joins = refl;
      }

      -- it adds something
      raised_turn : (after : Interferences) → after ≡ published p next store
          → IsUnderway p after later begun (turn_after next p.tasks) 0
      raised_turn after is-after = subst (λ s. IsUnderway p s later begun (turn_after next p.tasks) 0) (sym is-after) (record {
        earlier = store ∷ underway.earlier;
        history = (step, underway.history);
        fits = published_fits p is next within store underway.fits;
        count = same ∙ underway.count;
        turn = λ some. turn_within next p.tasks within;
        most = omega arith;
        kept = λ t lt some. start_later t store (published p next store) (table_at later t) underway.fits
            (published_fits p is next within store underway.fits)
            (published_above p is next within store underway.fits) (kept_later t lt some);
        places = same-places ∙ underway.places;
        started = λ t lt. values_later t store (published p next store) underway.fits
            (published_fits p is next within store underway.fits)
            (published_above p is next within store underway.fits) (get_or begun t None) (started_later t lt);
        each = λ t lt passed. absurd (none_passed p.tasks (turn_after next p.tasks) t lt passed);
      })

    pub raised_less : (after : Interferences) → after ≡ published p next store → (IsStoreBelow after store → ⊥)
        → left p after 0 < left p store quiet
    raised_less after is-after more = subst (λ s. left p s 0 < left p store quiet) (sym is-after)
        (outweighs (store_limit p - store_height value_height (published p next store))
        (store_limit p - store_height value_height store) p.tasks quiet
        (published_nearer p is next within store underway.fits
        (λ below. more (subst (λ s. IsStoreBelow s store) (sym is-after) below))))
      where
        outweighs : (a b tasks q : ℕ) → a < b → a * (tasks + 1) + (tasks - 0) < b * (tasks + 1) + (tasks - q)
        outweighs a b tasks q lt =
            let more = mul-le-mul_right (tasks + 1) lt in
            let split : suc a * (tasks + 1) ≡ a * (tasks + 1) + (tasks + 1) = omega arith in
            omega (arith, more, split)

  -- as the code has it
  pub kept_at : {A : Type 0} (xs : List (Vec (Option State) A)) (starts : List (Option StartOf)) (store : Interferences)
      (next quiet : ℕ) → IsUnderway p store (lists_of xs) starts next quiet → quiet < p.tasks
      → (x : Vec (Option State) A) → x ≡ get_or xs next x → IsKeptTable p next store x.items
  kept_at {A} xs starts store next quiet underway loud x x-is =
      let inside = within store (lists_of xs) starts next quiet underway loud in
      let count : length xs ≡ p.tasks =
      sym (length-map xs (λ (v : Vec (Option State) A). v.items)) ∙ underway.count in
      subst (IsKeptTable p next store) (sym (table_read xs next x (subst (λ n. next < n) (sym count) inside) x-is))
      (underway.kept next inside)

  pub started_at : (tables : List (List (Option State))) (starts : List (Option StartOf)) (store : Interferences)
      (next quiet : ℕ) → IsUnderway p store tables starts next quiet → quiet < p.tasks
      → (next < length starts) × IfSome (get_or starts next None) (IsTaskStart p next store)
  started_at tables starts store next quiet underway loud =
      let inside = within store tables starts next quiet underway loud in
      (subst (λ n. next < n) (sym underway.places) inside, underway.started next inside)

  module _ {A : Type 0} (xs : List (Vec (Option State) A)) (starts : List (Option StartOf)) (store : Interferences)
      (next quiet : ℕ) (underway : IsUnderway p store (lists_of xs) starts next quiet) (loud : quiet < p.tasks)
      (none table : Vec (Option State) A) (gone start : Option StartOf)
      (values : IfSome start (AreTaskValues p next store))
      (turn tasks : ℕ) (turn-is : turn ≡ turn_after next tasks) (tasks-are : tasks ≡ p.tasks) where
    here : next < length (lists_of xs)
    here = subst (λ n. next < n) (sym underway.count) (within store (lists_of xs) starts next quiet underway loud)

    values_next : IfSome (get_or (restarted starts next gone start) next None) (AreTaskValues p next store)
    values_next = subst (λ s. IfSome s (AreTaskValues p next store))
        (sym (restarted_here starts next gone start
        (let at = started_at (lists_of xs) starts store next quiet underway loud in at.0))) values

    turned : turn_after next p.tasks ≡ turn
    turned = sym (turn-is ∙ ap (turn_after next) tasks-are)

    pub quiet_written : IsQuietTable p next store table.items
        → IsUnderway p store (lists_of (set (set xs next none) next table)) (set (set starts next gone) next start) turn
        (quiet + 1)
    quiet_written is-quiet =
        subst (λ n. IsUnderway p store (lists_of (written xs next none table)) (restarted starts next gone start) n
        (quiet + 1)) turned
        (quiet_turn store (lists_of xs) starts next quiet underway loud (lists_of (written xs next none table))
        (written_count xs next none table) (written_others xs next none table)
        (subst (IsLeastTable p next store) (sym (written_here xs next none table here)) is-quiet.least)
        (restarted starts next gone start) (restarted_count starts next gone start)
        (restarted_others starts next gone start) values_next
        is-quiet.below)

    pub raised_written : IsLeastTable p next store table.items → (after : Interferences)
        → after ≡ published p next store → IsUnderway p after (lists_of (set (set xs next none) next table))
        (set (set starts next gone) next start) turn 0
    raised_written least after is-after =
        subst (λ n. IsUnderway p after (lists_of (written xs next none table)) (restarted starts next gone start) n 0)
        turned
        (raised_turn store (lists_of xs) starts next quiet underway loud (lists_of (written xs next none table))
        (written_count xs next none table) (written_others xs next none table)
        (subst (IsLeastTable p next store) (sym (written_here xs next none table here)) least)
        (restarted starts next gone start) (restarted_count starts next gone start)
        (restarted_others starts next gone start) values_next
        after is-after)

  -- no turn is left
  pub ended : (store : Interferences) (tables : List (List (Option State))) (starts : List (Option StartOf))
      (next quiet : ℕ) → IsUnderway p store tables starts next quiet → p.tasks ≤ quiet → HasEnded p store tables
  ended store tables starts next quiet underway most = record {
    program = is;
    earlier = underway.earlier;
    history = underway.history;
    fits = underway.fits;
    count = underway.count;
    each = λ t lt. underway.each t lt
        (all_passed p.tasks next quiet t (underway.turn (omega (arith, lt))) most);
  }
