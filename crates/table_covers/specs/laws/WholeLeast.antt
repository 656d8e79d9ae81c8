-- From least tables of tasks to the least solution of the whole.
use Rattle.std.proofs.Common.{◌≡◌, ℕ, zero, suc, ◌<◌, Bool, List, ◌∷◌, Option, Some, None, IfSome, length, sym}
use Rattle.std.proofs.Common.{subst, refl, arith}
use Rattle.tm_lattice.specs.declared.lattices.Lattice as lattice
use Rattle.tm_lattice.specs.declared.passers.Passer as passer
use Rattle.tm_lattice.specs.LatticeLaws.{IsOrder, IsJoin, IsClosure}
use Rattle.tm_lattice.specs.Tables.{IsBelow}
use Rattle.tm_lattice.specs.Fitting.{IsFitting, IsBottom, IsMonotone}
use Rattle.tm_lattice.specs.Rounds.{up, IsHistory, IsClosed}
use Rattle.tm_lattice.proofs.Climb as climb
use Rattle.table_covers.specs.declared.links.Link.{Link}
use Rattle.table_covers.specs.Systems.{System, from_of, to_of}
use Rattle.table_covers.specs.Solutions.{NodeTable, brought, entry_at, IsSolution}
use Rattle.table_covers.specs.Solutions.{IsLeastSolution, IsNodewiseBelow}
use Rattle.table_covers.specs.Whole as whole
use Rattle.table_covers.specs.Whole.{local}
use Rattle.table_covers.specs.laws.Closing as closing

module _ {S V N M C P : Type 0} (states : lattice.Ghosts V N) (nodes : ℕ → ℕ) (links : ℕ → List Link)
    (after : ℕ → S → ℕ → V → Option V) (entry : C → ℕ → Option V) (outward : ℕ → ℕ → V → V) (heads : ℕ → ℕ → Bool)
    (suits : ℕ → ℕ → V → Type 0) (height : V → ℕ) (limit : ℕ → ℕ → ℕ) (added : ℕ → S → ℕ → V → S)
    (store : lattice.Ghosts S M) (passer : passer.Ghosts P S M) (program : P)
    (Precedes : C → C → Type 0) (IsBefore : C → Type 0)
    (before : C) (tables : ℕ → S → NodeTable V)
    (order : IsOrder states.is_value states.leq) (join : IsJoin states.is_value states.leq states.joined)
    (store_order : IsOrder store.is_value store.leq) (store_join : IsJoin store.is_value store.leq store.joined)
    (store_closure : IsClosure store.is_value store.is_marks store.leq store.rounded)
    (fitting : IsFitting store (passer.marks_of program) (passer.task_count program) (passer.least program)
    (passer.passed program) (passer.fits program))
    (bottom : IsBottom store (passer.marks_of program) (passer.least program))
    (law : whole.IsWholeLawful states nodes links after entry outward heads suits height limit added
    store passer program Precedes IsBefore before tables) where
  abbrev over : ℕ → S → C → System V
  over t s c = local nodes links after entry outward heads height limit t s c

  abbrev tasks : ℕ
  tasks = passer.task_count program

  abbrev Fits : S → Type 0
  Fits s = passer.fits program s

  abbrev Solves : ℕ → S → C → NodeTable V → Type 0
  Solves t s c table = IsSolution states (suits t) (over t s c) table

  abbrev Below : Option V → Option V → Type 0
  Below x y = IsBelow states.leq x y

  abbrev outer : S → S
  outer s = store.rounded (passer.marks_of program) s

  is : (s : S) → Fits s → store.is_value s
  is s s-fits = fitting.value s s-fits

  along_rises : (t : ℕ) (s s' : S) (e : ℕ) (x : Option V) → t < tasks → Fits s → Fits s' → store.leq s s'
      → e < length (links t) → IfSome x (suits t (from_of (links t) e))
      → Below (brought (after t s e) x) (brought (after t s' e) x)
  along_rises t s s' e None lt s-fits s'-fits le within x-fits = tt
  along_rises t s s' e (Some v) lt s-fits s'-fits le within x-fits = law.after_rises t s s' e v lt s-fits s'-fits le
      within x-fits

  entry_at_rises : (c c' : C) (t n : ℕ) → Below (entry c t) (entry c' t)
      → Below (entry_at (entry c t) n) (entry_at (entry c' t) n)
  entry_at_rises c c' t zero le = le
  entry_at_rises c c' t (suc n) le = tt

  -- a solution over more is a solution over less
  smaller : (t : ℕ) (s s' : S) (c c' : C) (table : NodeTable V) → t < tasks → Fits s → Fits s' → IsBefore c
      → IsBefore c' → store.leq s s' → Precedes c c' → Solves t s' c' table → Solves t s c table
  smaller t s s' c c' table lt s-fits s'-fits c-is c'-is le first solution =
      let l = law.system t s c lt s-fits c-is in
      let l' = law.system t s' c' lt s'-fits c'-is in
      record {
        fits = solution.fits;
        covers = λ n within.
            let cover = solution.covers n within in
            let b = cover.bound in
            record {
              bound = b;
              is_bound = record {
                fits = cover.is_bound.fits;
                entry = closing.transitive states (suits t) (over t s c) order join l n (entry_at (entry c t) n)
                    (entry_at (entry c' t) n) b
                    (closing.entry_fits states (suits t) (over t s c) order join l n)
                    (closing.entry_fits states (suits t) (over t s' c') order join l' n) cover.is_bound.fits
                    (entry_at_rises c c' t n (law.entry_rises c c' t lt c-is c'-is first)) cover.is_bound.entry;
                edges = λ e here same.
                    let x = table (from_of (links t) e) in
                    let x-fits = solution.fits (from_of (links t) e) (l.from_node e here) in
                    let to-fits = subst (λ m. IfSome (brought (after t s e) x) (suits t m)) same
                    (closing.brought_fits states (suits t) (over t s c) order join l e x here x-fits) in
                    let to-fits' = subst (λ m. IfSome (brought (after t s' e) x) (suits t m)) same
                    (closing.brought_fits states (suits t) (over t s' c') order join l' e x here x-fits) in
                    closing.transitive states (suits t) (over t s c) order join l n (brought (after t s e) x)
                    (brought (after t s' e) x) b to-fits to-fits' cover.is_bound.fits
                    (along_rises t s s' e x lt s-fits s'-fits le here x-fits) (cover.is_bound.edges e here same);
              };
              rounding = cover.rounding;
            };
      }

  abbrev AddedBelow : ℕ → S → NodeTable V → S → Type 0
  AddedBelow t s table bound = whole.IsAddedBelow states nodes links after entry outward heads suits height limit
      added store passer program Precedes IsBefore t s table bound

  there : (t : ℕ) (s s' : S) (e : ℕ) (v : V) (bound : S) (x : Option V) → t < tasks → Fits s → Fits s'
      → store.leq s s' → Fits bound → e < length (links t)
      → suits t (from_of (links t) e) v → IfSome x (suits t (from_of (links t) e)) → Below (Some v) x
      → ((w : V) → x ≡ Some w → store.leq (added t s' e w) bound) → store.leq (added t s e v) bound
  there t s s' e v bound None lt s-fits s'-fits le b-fits within v-fits x-fits below holds = absurd below
  there t s s' e v bound (Some w) lt s-fits s'-fits le b-fits within v-fits x-fits below holds =
      store_order.transitive (added t s e v) (added t s' e w) bound
      (is _ (law.added_fits t s e v lt s-fits within v-fits))
      (is _ (law.added_fits t s' e w lt s'-fits within x-fits)) (is _ b-fits)
      (law.added_rises t s s' e v w lt s-fits s'-fits le within v-fits x-fits below) (holds w refl)

  -- what a lesser table contributes over a lesser store
  contributions : (t : ℕ) (s s' : S) (c c' : C) (table table' : NodeTable V) (bound : S) → t < tasks → Fits s
      → Fits s' → IsBefore c → store.leq s s' → Fits bound
      → IsNodewiseBelow states (suits t) (over t s c) table table' → Solves t s c table → Solves t s' c' table'
      → AddedBelow t s' table' bound → AddedBelow t s table bound
  contributions t s s' c c' table table' bound lt s-fits s'-fits c-is le b-fits below solution solution' holds e v
      within stands =
      let l = law.system t s c lt s-fits c-is in
      let n = from_of (links t) e in
      let n-lt = l.from_node e within in
      let at_node : Below (Some v) (table' n) = subst (λ x. Below x (table' n)) stands (below n n-lt) in
      let v-fits : suits t n v = subst (λ x. IfSome x (suits t n)) stands (solution.fits n n-lt) in
      there t s s' e v bound (table' n) lt s-fits s'-fits le b-fits within v-fits (solution'.fits n n-lt) at_node
      (λ w stands'. holds e w within stands')

  abbrev self : Precedes before before
  self = law.first before law.begins

  -- the least table over less lies below each solution over more, and so does its pass
  least_below : (t : ℕ) (s s' : S) (c : C) (table : NodeTable V) → t < tasks → Fits s → Fits s' → IsBefore c
      → store.leq s s' → Solves t s' c table → IsNodewiseBelow states (suits t) (over t s before) (tables t s) table
  least_below t s s' c table lt s-fits s'-fits c-is le solution =
      (law.least t s lt s-fits).below table (smaller t s s' before c table lt s-fits s'-fits law.begins c-is le
      (law.first c c-is) solution)

  pass_below : (t : ℕ) (s s' : S) (c : C) (table : NodeTable V) (bound : S) → t < tasks → Fits s → Fits s'
      → IsBefore c → store.leq s s' → Fits bound → Solves t s' c table → AddedBelow t s' table bound
      → store.leq (passer.passed program t s) bound
  pass_below t s s' c table bound lt s-fits s'-fits c-is le b-fits solution holds =
      (law.passes t s lt s-fits).least bound b-fits
      (contributions t s s' before c (tables t s) table bound lt s-fits s'-fits law.begins le b-fits
      (least_below t s s' c table lt s-fits s'-fits c-is le solution)
      (law.least t s lt s-fits).solves solution holds)

  -- a pass over more gives more
  pub passes_rise : IsMonotone store (passer.task_count program) (passer.passed program) (passer.fits program)
  passes_rise t s s' lt s-fits s'-fits le =
      pass_below t s s' before (tables t s') (passer.passed program t s') lt s-fits s'-fits law.begins le
      (law.passes t s' lt s'-fits).fits (law.least t s' lt s'-fits).solves (law.passes t s' lt s'-fits).holds

  abbrev WholeSolution : C → (ℕ → NodeTable V) → S → Type 0
  WholeSolution c ts s = whole.IsWholeSolution states nodes links after entry outward heads suits height limit added
      store passer program Precedes IsBefore c ts s

  -- a closed store with the least tables over it is a solution
  pub closed_solves : (s : S) → IsClosed store passer program s → WholeSolution before (λ t. tables t s) s
  closed_solves s closed = record {
    begins = law.begins;
    fits = closed.fits;
    locals = λ t lt. (law.least t s lt closed.fits).solves;
    covers = record {
      bound = s;
      fits = closed.fits;
      holds = λ t lt e v within stands.
          let p = law.passes t s lt closed.fits in
          let n = from_of (links t) e in
          let n-lt = (law.system t s before lt closed.fits law.begins).from_node e within in
          let v-fits : suits t n v = subst (λ x. IfSome x (suits t n)) stands
          ((law.least t s lt closed.fits).solves.fits n n-lt) in
          store_order.transitive (added t s e v) (passer.passed program t s) s
          (is _ (law.added_fits t s e v lt closed.fits within v-fits)) (is _ p.fits) (is _ closed.fits)
          (p.holds e v within stands) (closed.passes t lt);
      rounding = subst (λ x. store.leq x s) (sym closed.rounding) (store_order.reflexive s (is s closed.fits));
    };
  }

  -- each solution has a closed store below its own
  module _ (c : C) (others : ℕ → NodeTable V) (s' : S) (solution : WholeSolution c others s') where
    abbrev bound : S
    bound = solution.covers.bound

    abbrev inner : S
    inner = outer bound

    bound-fits : Fits bound
    bound-fits = solution.covers.fits

    inner-fits : Fits inner
    inner-fits = fitting.rounded_fits bound bound-fits

    bound_inner : store.leq bound inner
    bound_inner = store_closure.extensive (passer.marks_of program) bound fitting.marks_are (is _ bound-fits)

    pub inner_below : store.leq inner s'
    inner_below = solution.covers.rounding

    pub inner_closed : IsClosed store passer program inner
    inner_closed = record {
      fits = inner-fits;
      rounding = store_closure.idempotent (passer.marks_of program) bound fitting.marks_are (is _ bound-fits);
      passes = λ t lt.
          store_order.transitive (passer.passed program t inner) bound inner
          (is _ (law.passes t inner lt inner-fits).fits) (is _ bound-fits) (is _ inner-fits)
          (pass_below t inner s' c (others t) bound lt inner-fits solution.fits solution.begins inner_below bound-fits
          (solution.locals t lt) (solution.covers.holds t lt))
          bound_inner;
    }

  climbing : climb.IsLawful store passer program
  climbing = record {
    order = store_order;
    join = store_join;
    closure = store_closure;
    fitting = fitting;
    bottom = bottom;
    monotone = passes_rise;
  }

  -- a store that ends a history and is closed, with the least tables over it, is the least solution
  pub history_is_least : (s : S) (earlier : List S) → IsHistory store passer program (s ∷ earlier)
      → IsClosed store passer program s
      → whole.IsWholeLeast states nodes links after entry outward heads suits height limit added store passer program
      Precedes IsBefore before (λ t. tables t s) s
  history_is_least s earlier history closed =
      let below : (c : C) (others : ℕ → NodeTable V) (s' : S) → WholeSolution c others s'
      → store.leq s s' = λ c others s' solution.
      let k = length earlier in
      let b = inner c others s' solution in
      let reached = climb.reached store passer program climbing s earlier history zero s (omega arith) in
      let round = up store passer program k in
      let round-fits = climb.round_fits store passer program climbing k in
      store_order.transitive s round s' (is _ closed.fits) (is _ round-fits) (is _ solution.fits) reached.below
      (store_order.transitive round b s' (is _ round-fits) (is _ (inner-fits c others s' solution)) (is _ solution.fits)
      (climb.below_closed store passer program climbing k b (inner_closed c others s' solution))
      (inner_below c others s' solution)) in
      record {
        solves = closed_solves s closed;
        precedes = λ c others s' solution. law.first c solution.begins;
        store_below = below;
        tables_below = λ c others s' solution t lt. least_below t s s' c
            (others t) lt closed.fits solution.fits solution.begins (below c others s' solution) (solution.locals t lt);
      }

  abbrev WarmStart : ℕ → S → S → NodeTable V → Type 0
  WarmStart t s s' table = whole.IsWarmStart states nodes links after entry outward heads suits height limit added
      store passer program Precedes IsBefore before t s s' table

  -- the least table over less is a start over more
  pub warm_start : (t : ℕ) (s s' : S) (table : NodeTable V) → t < tasks → Fits s → Fits s' → store.leq s s'
      → IsLeastSolution states (suits t) (over t s before) table → WarmStart t s s' table
  warm_start t s s' table lt s-fits s'-fits le least =
      let l = law.system t s before lt s-fits law.begins in
      let l' = law.system t s' before lt s'-fits law.begins in
      let closed = closing.least_is_closed states (suits t) (over t s before) order join l table least in
      record {
        started = record { fits = closed.started.fits; round = closed.started.round; entry = closed.started.entry };
        below = λ other other-closed. least.below other (smaller t s s' before before other lt s-fits s'-fits
            law.begins law.begins le self (closing.closed_solves states (suits t)
            (over t s' before) order join l' other other-closed));
        met = λ e within same. subst (λ x. Below x (table (to_of (links t) e))) same (closed.edges e within);
      }
