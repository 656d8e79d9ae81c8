-- The theorem for programs that are numbers, tests and tables: so it stands in contracts, and every layer can be read
-- as one of these.
use Rattle.std.specs.Prelude.{◌≡◌, ℕ, Bool, true, false, IsTrue, List, [], ◌∷◌}
use Rattle.std.proofs.Common.{suc, zero, ◌⊎◌, inl, inr, refl}
use native.Mathlib.Decide.{ℕ_discrete}
use Rattle.tm_soundness.specs.Shape.{Shape, Operation, Content}
use Rattle.tm_soundness.specs.Tables.{Tables}
use Rattle.tm_soundness.specs.Worlds.{Action, Source, World, IsReached}
use Rattle.tm_soundness.specs.Section.{Section, alone}
use Rattle.tm_soundness.specs.WholeWorlds.{WholeWorld, IsWholeReached}
use Rattle.tm_soundness.specs.Listing.{IsAnalysed, IsKept, AreAnalysed, ListsAll}
use Rattle.tm_soundness.specs.Known.{IsKnown, IsWholeKnown}

-- the tasks of a program that has n
abbrev pub TaskOf : ℕ → Type 0
TaskOf zero = ⊥
TaskOf (suc zero) = Unit {0}
TaskOf (suc (suc n)) = Unit {0} ⊎ TaskOf (suc n)

pub right_same : (n : ℕ) (i j : TaskOf (suc n)) → (let z : TaskOf (suc (suc n)) = inr i in z) ≡ inr j → i ≡ j
right_same n i j e = cc

pub left_right : (n : ℕ) (u : Unit {0}) (j : TaskOf (suc n)) → (let z : TaskOf (suc (suc n)) = inl u in z) ≡ inr j → ⊥
left_right n u j e = cc

pub right_left : (n : ℕ) (u : Unit {0}) (i : TaskOf (suc n)) → (let z : TaskOf (suc (suc n)) = inr i in z) ≡ inl u → ⊥
right_left n u i e = cc

abbrev pub same_right : (n : ℕ) (i j : TaskOf (suc n)) → Dec (i ≡ j)
    → Dec ((let z : TaskOf (suc (suc n)) = inr i in z) ≡ inr j)
same_right n i j (yes e) = yes (λ k. inr (e k))
same_right n i j (no d) = no (λ e. d (right_same n i j e))

abbrev pub same_task_of : (n : ℕ) (i j : TaskOf n) → Dec (i ≡ j)
same_task_of zero i j = absurd i
same_task_of (suc zero) i j = yes refl
same_task_of (suc (suc n)) (inl u) (inl w) = yes refl
same_task_of (suc (suc n)) (inl u) (inr j) = no (λ e. left_right n u j e)
same_task_of (suc (suc n)) (inr i) (inl u) = no (λ e. right_left n u i e)
same_task_of (suc (suc n)) (inr i) (inr j) = same_right n i j (same_task_of (suc n) i j)

pub record Program : Type 0 where
  pub tasks : ℕ
  pub rank : TaskOf tasks → ℕ
  pub actor : ℕ → TaskOf tasks
  pub from : ℕ → ℕ
  pub to : ℕ → ℕ
  pub operation : ℕ → Operation ℕ ℕ
  pub place : ℕ → ℕ
  pub abstract_cell : ℕ → ℕ
  pub is_shared : ℕ → Bool
  pub is_owned : ℕ → TaskOf tasks → Bool
  pub in_range : ℕ → ℕ → Bool
  pub points : ℕ → ℕ → Bool
  pub fits : ℕ → ℕ → Bool
  pub held : ℕ → ℕ → Bool
  pub found : ℕ → ℕ → Bool
  pub entry : TaskOf tasks → ℕ
  pub ends : ℕ → Bool
  pub rests : ℕ → Bool
  pub does : ℕ → (ℕ → ℕ) → (ℕ → ℕ) → Bool
  pub fails : ℕ → (ℕ → ℕ) → ℕ → Bool
  pub lock_class : ℕ
  pub clears : ℕ → ℕ → Bool
  pub cleared : ℕ → Content ℕ

pub is_true : (b : Bool) → Dec (IsTrue b)
is_true true = yes refl
is_true false = no (λ e. cc)

abbrev pub truth : (b : Bool) → Dec (IsTrue b)
truth b = is_true b

abbrev pub one_or_none : Bool → ℕ
one_or_none true = 1
one_or_none false = 0

abbrev pub put : (ℕ → ℕ) → ℕ → ℕ → ℕ → ℕ
put f t v u = elim (ℕ_discrete u t) [ yes e ↦ v | no n ↦ f u ]

abbrev pub shape_of : Program → Shape
shape_of p = record {
  Task = TaskOf p.tasks;
  Mutex = ℕ;
  Held = ℕ → Bool;
  Cell = ℕ;
  AbstractCell = ℕ;
  Temporary = ℕ;
  Value = ℕ;
  Valuation = ℕ → ℕ;
  Node = ℕ;
  Edge = ℕ;
  Class = ℕ;
  Place = ℕ;
  same_task = same_task_of p.tasks;
  same_mutex = ℕ_discrete;
  same_cell = ℕ_discrete;
  rank = p.rank;
  Has = λ l m. IsTrue (l m);
  has = λ l m. truth (l m);
  abstract_cell = p.abstract_cell;
  shared = λ x. IsTrue (p.is_shared x);
  owned = λ x i. IsTrue (p.is_owned x i);
  in_range = λ x v. IsTrue (p.in_range x v);
  cleared = p.cleared;
  value_of = λ ρ t. ρ t;
  put = put;
  points = λ v c. IsTrue (p.points v c);
  bit = one_or_none;
  actor = p.actor;
  from = p.from;
  to = p.to;
  operation = p.operation;
  place = p.place;
  does = λ e ρ σ. IsTrue (p.does e ρ σ);
  fails = λ e ρ k. IsTrue (p.fails e ρ k);
  lock_class = p.lock_class;
  fits = λ e c. IsTrue (p.fits e c);
  clears = λ e c. IsTrue (p.clears e c);
  entry = p.entry;
  held = p.held;
  found = p.found;
  resting = λ q. IsTrue (p.rests q);
  ends = λ q. IsTrue (p.ends q);
}

-- what an analysis gave: sets as tests
pub record Answer : Type 0 where
  pub reached : ℕ → Bool
  pub temps : ℕ → ℕ → ℕ → Bool
  pub own : ℕ → ℕ → ℕ → Bool
  pub pending : ℕ → ℕ → ℕ → Bool
  pub fresh : ℕ → ℕ → Bool
  pub stored : ℕ → ℕ → Bool
  pub copy : ℕ → ℕ → ℕ → Bool
  pub listed : ℕ → ℕ → Bool
  pub target : ℕ → ℕ → Bool

-- the entries of a store, by writing task
pub record Entries (p : Program) : Type 0 where
  pub weak : TaskOf p.tasks → (ℕ → Bool) → ℕ → ℕ → Bool
  pub sync : TaskOf p.tasks → ℕ → ℕ → ℕ → Bool

abbrev pub tables_of : (p : Program) → Answer → Entries p → Tables (shape_of p)
tables_of p a s = record {
  inside = λ q ρ. IsTrue (a.reached q) × ((t : ℕ) → IsTrue (a.temps q t (ρ t)));
  own = λ q x v. IsTrue (a.own q x v);
  pending = λ q x m. IsTrue (a.pending q x m);
  fresh = λ q x. IsTrue (a.fresh q x);
  stored = λ q x. IsTrue (a.stored q x);
  copy = λ q t x. IsTrue (a.copy q t x);
  weak = λ j l x v. IsTrue (s.weak j l x v);
  sync = λ j m x v. IsTrue (s.sync j m x v);
  listed = λ e k. IsTrue (a.listed e k);
  target = λ e x. IsTrue (a.target e x);
}

-- what the tasks of a shape do next, over lists of answers, newest first; a task is a number behind `number`
pub record Interpreter (P : Shape) : Type 0 where
  pub next : P.Task → List P.Value → Action P ℕ
  pub place : P.Task → List P.Value → P.Place
  pub may_choose : P.Task → List P.Value → P.Value → Bool
  pub typed : P.AbstractCell → P.Value → Bool
  pub part : ℕ → P.Cell → Bool
  pub stands : P.Task → List P.Value → P.Node → P.Valuation → Bool

abbrev pub source_of : (P : Shape) → Interpreter P → Source P
source_of P n = record {
  Answers = List P.Value;
  Object = ℕ;
  none = [];
  told = λ a v. v ∷ a;
  acked = λ a. P.bit true ∷ a;
  next = n.next;
  place = n.place;
  may_choose = λ i a v. IsTrue (n.may_choose i a v);
  typed = λ x v. IsTrue (n.typed x v);
  part = λ o c. IsTrue (n.part o c);
  stands = λ i a q ρ. IsTrue (n.stands i a q ρ);
}

-- the graph of an initial section
pub record Main : Type 0 where
  pub is_owned : ℕ → Bool
  pub from : ℕ → ℕ
  pub to : ℕ → ℕ
  pub operation : ℕ → Operation ℕ ℕ
  pub place : ℕ → ℕ
  pub does : ℕ → (ℕ → ℕ) → (ℕ → ℕ) → Bool
  pub fails : ℕ → (ℕ → ℕ) → ℕ → Bool
  pub fits : ℕ → ℕ → Bool
  pub clears : ℕ → ℕ → Bool
  pub entry : ℕ
  pub held : ℕ → ℕ → Bool
  pub found : ℕ → ℕ → Bool
  pub rests : ℕ → Bool
  pub ends : ℕ → Bool

abbrev pub section_of : (p : Program) → Main → Section (shape_of p)
section_of p x = record {
  Node = ℕ;
  Edge = ℕ;
  owned = λ y. IsTrue (x.is_owned y);
  from = x.from;
  to = x.to;
  operation = x.operation;
  place = x.place;
  does = λ e ρ σ. IsTrue (x.does e ρ σ);
  fails = λ e ρ k. IsTrue (x.fails e ρ k);
  fits = λ e c. IsTrue (x.fits e c);
  clears = λ e c. IsTrue (x.clears e c);
  entry = x.entry;
  held = x.held;
  found = x.found;
  resting = λ q. IsTrue (x.rests q);
  ends = λ q. IsTrue (x.ends q);
}

-- the section adds nothing that anybody reads
abbrev pub main_tables : (p : Program) (x : Main) → Answer → Tables (alone (shape_of p) (section_of p x))
main_tables p x a = record {
  inside = λ q ρ. IsTrue (a.reached q) × ((t : ℕ) → IsTrue (a.temps q t (ρ t)));
  own = λ q y v. IsTrue (a.own q y v);
  pending = λ q y m. IsTrue (a.pending q y m);
  fresh = λ q y. IsTrue (a.fresh q y);
  stored = λ q y. IsTrue (a.stored q y);
  copy = λ q t y. IsTrue (a.copy q t y);
  weak = λ _ _ _ _. Unit {0};
  sync = λ _ _ _ _. Unit {0};
  listed = λ e k. IsTrue (a.listed e k);
  target = λ e y. IsTrue (a.target e y);
}

-- in every reached world the parts of the invariant hold
abbrev pub KeepsTheInvariant : (p : Program) → Answer → Entries p → Interpreter (shape_of p) → Type 0
KeepsTheInvariant p a s n =
    let P = shape_of p in
    let T = tables_of p a s in
    let N = source_of P n in
    (memory : ℕ → Content ℕ) (temps : P.Task → ℕ → ℕ) → IsAnalysed P T N memory temps
    → (C : World P N) → IsReached P N memory C → IsKept P T N memory temps C

-- every error that occurs in a run that the scheduler allows is listed
abbrev pub ListsEveryError : (p : Program) → Answer → Entries p → Interpreter (shape_of p) → (x : Main) → Answer
    → Interpreter (alone (shape_of p) (section_of p x)) → Type 0
ListsEveryError p a s n x b o =
    let P = shape_of p in
    let T = tables_of p a s in
    let N = source_of P n in
    let X = section_of p x in
    let U = main_tables p x b in
    let O = source_of (alone P X) o in
    (memory : ℕ → Content ℕ) (main_temps : ℕ → ℕ) (temps : P.Task → ℕ → ℕ)
    → AreAnalysed P T N X U O memory main_temps temps
    → (w : WholeWorld P N X O) → IsWholeReached P N X O memory w → ListsAll P T N X U O w

-- of every reached world it is known where its tasks stand, that the invariant holds there, what is requested, and what
-- cells hold
abbrev pub KnowsEveryWorld : (p : Program) → Answer → Entries p → Interpreter (shape_of p) → Type 0
KnowsEveryWorld p a s n =
    let P = shape_of p in
    let T = tables_of p a s in
    let N = source_of P n in
    (memory : ℕ → Content ℕ) (temps : P.Task → ℕ → ℕ) → IsAnalysed P T N memory temps
    → (C : World P N) → IsReached P N memory C → IsKnown P T N memory temps C

-- the same with an initial section
abbrev pub KnowsEveryWholeWorld : (p : Program) → Answer → Entries p → Interpreter (shape_of p) → (x : Main) → Answer
    → Interpreter (alone (shape_of p) (section_of p x)) → Type 0
KnowsEveryWholeWorld p a s n x b o =
    let P = shape_of p in
    let T = tables_of p a s in
    let N = source_of P n in
    let X = section_of p x in
    let U = main_tables p x b in
    let O = source_of (alone P X) o in
    (memory : ℕ → Content ℕ) (main_temps : ℕ → ℕ) (temps : P.Task → ℕ → ℕ)
    → AreAnalysed P T N X U O memory main_temps temps
    → (w : WholeWorld P N X O) → IsWholeReached P N X O memory w
    → IsWholeKnown P T N X U O memory main_temps temps w
