-- One step of a run along an edge.
use Rattle.std.proofs.Common.{◌≡◌, ℕ, suc, ◌+◌, ◌<◌, ◌≤◌, ◌==◌, Bool, true, false, List, [], ◌∷◌, length, refl, ◌∙◌, ap}
use Rattle.std.proofs.Common.{subst, arith}
use Rattle.std.specs.Prelude.{if◌then◌else◌, ◌&&◌, Option, Some, None, not}
use Rattle.std.proofs.lemmas.Bool.{eq-eqb, ne_eqb, lt-leb, le-leb}
use Rattle.concrete_steps.specs.tm_laid.Layouts.{LaidTree}
use Rattle.concrete_steps.specs.concrete_values.declared.values.Value.{Value}
use Rattle.concrete_steps.specs.concrete_values.declared.values.Answer.{Answer}
use Rattle.concrete_steps.specs.concrete_values.declared.actions.Next.{Next}
use Rattle.concrete_steps.specs.concrete_values.declared.actions.Next.TheVariants.{Ended, Spins, Fault}
use Rattle.concrete_steps.specs.concrete_values.Actions.{answer_of}
use Rattle.concrete_steps.specs.NextAction.{After, last, fit_then}
use Rattle.flow_graph.specs.declared.graphs.Edge.{Edge}
use Rattle.flow_graph.specs.declared.operations.Test.{Test}
use Rattle.flow_graph.specs.declared.operations.Operation.{Operation}
use Rattle.flow_graph.specs.declared.operations.Operation.TheVariants as Op
use Rattle.flow_graph.specs.Operations.{Temps, put_at, kept_with, opposite, holds, Doing, gives, shut, asks, fails}
use Rattle.flow_graph.specs.Operations.{lets_through, Silent, effect_by, effect}
use Rattle.flow_graph.specs.Graphs.{Edges, leaving, IsTest}
use Rattle.flow_graph.specs.Runs.{Memory, arrive, is_round, Move, Goes, GoesRound, Awaits, Halts, move_by, move_along}
use Rattle.flow_graph.specs.Runs.{move, last as graph_last, Runs, goes, spins, halts, awaits, answered, unfit}
use Rattle.flow_graph.proofs.Tests.{opposite_holds}
use Rattle.lowering.specs.Built.{edge}
use Rattle.lowering.proofs.Edges.{Joins, Returns}
use Rattle.lowering.proofs.Meaning.{doing_then}

pub last_same : (n : Next) (answers : List Answer) → graph_last n answers ≡ last n answers
last_same n [] = refl
last_same n (a ∷ answers) = refl

pub put_same : {A : Type 0} (k : ℕ) (v : A) (f : ℕ → A) → put_at k v f k ≡ v
put_same k v f = ap (λ b. if b then v else f k) (eq-eqb k k refl)

pub put_above : {A : Type 0} (k : ℕ) (v : A) (f : ℕ → A) (n : ℕ) → n < k → put_at k v f n ≡ f n
put_above k v f n h = ap (λ b. if b then v else f n) (ne_eqb k n (λ e. absurd (omega arith)))

-- temporaries below b and nodes below n are as they were, and each answer that is gone was used
pub record Kept (n b : ℕ) (m m' : Memory) (answers rest : List Answer) : Type 0 where
  pub temps : (u : ℕ) → u < b → m'.temps u ≡ m.temps u
  pub seen : (k : ℕ) → k < n → m'.seen k ≡ m.seen k
  pub used : m'.used + length rest ≡ m.used + length answers
  pub fewer : length rest ≤ length answers

pub kept_then : {n b n' b' : ℕ} {m m1 m2 : Memory} {answers rest rest' : List Answer} → n ≤ n' → b ≤ b'
    → Kept n b m m1 answers rest → Kept n' b' m1 m2 rest rest' → Kept n b m m2 answers rest'
kept_then i j h k = record {
  temps = λ u l. k.temps u (omega arith) ∙ h.temps u l;
  seen = λ u l. k.seen u (omega arith) ∙ h.seen u l;
  used = k.used ∙ h.used;
  fewer = omega arith;
}

pub kept_less : {n b n' b' : ℕ} {m m1 : Memory} {answers rest : List Answer} → n ≤ n' → b ≤ b'
    → Kept n' b' m m1 answers rest → Kept n b m m1 answers rest
kept_less i j k = record {
  temps = λ u l. k.temps u (omega arith);
  seen = λ u l. k.seen u (omega arith);
  used = k.used;
  fewer = k.fewer;
}

pub kept_on : {n b : ℕ} {m m1 m2 : Memory} {answers rest rest' : List Answer} → Kept n b m m1 answers rest
    → Kept n b m1 m2 rest rest'
    → Kept n b m m2 answers rest'
kept_on {n} {b} h k = kept_then {n' = n} {b' = b} (omega arith) (omega arith) h k

pub kept_later : {n b n' : ℕ} {m m1 m2 : Memory} {answers rest rest' : List Answer} → n ≤ n'
    → Kept n b m m1 answers rest → Kept n' b m1 m2 rest rest'
    → Kept n b m m2 answers rest'
kept_later {b = b} i h k = kept_then {b' = b} i (omega arith) h k

pub kept_same : (n b : ℕ) (m : Memory) (answers : List Answer) → Kept n b m m answers answers
kept_same n b m answers = record { temps = λ u l. refl; seen = λ u l. refl; used = refl; fewer = omega arith }

pub kept_arrive : (n b node : ℕ) (t : Temps) (m : Memory) (answers : List Answer) → n ≤ node
    → ((u : ℕ) → u < b → t u ≡ m.temps u)
    → Kept n b m (arrive node m.used t m) answers answers
kept_arrive n b node t m answers i h = record {
  temps = h;
  seen = λ k l. put_above node (suc m.used) m.seen k (omega arith);
  used = refl;
  fewer = omega arith;
}

pub kept_answered : (n b node : ℕ) (t : Temps) (m : Memory) (a : Answer) (rest : List Answer) → n ≤ node
    → ((u : ℕ) → u < b → t u ≡ m.temps u)
    → Kept n b m (arrive node (suc m.used) t m) (a ∷ rest) rest
kept_answered n b node t m a rest i h = record {
  temps = h;
  seen = λ k l. put_above node (suc (suc m.used)) m.seen k (omega arith);
  used = omega arith;
  fewer = omega arith;
}

-- a temporary that is given, if one is, is none of those that are kept
abbrev pub AtLeast : ℕ → Option ℕ → Type 0
AtLeast b None = Unit {0}
AtLeast b (Some t) = b ≤ t

pub kept_below : (b : ℕ) (to : Option ℕ) (v : Value) (t : Temps) → AtLeast b to → (u : ℕ) → u < b
    → kept_with to v t u ≡ t u
kept_below b None v t h u l = refl
kept_below b (Some k) v t h u l = put_above k v t u (omega arith)

module _ (laid : LaidTree) (g : Edges) where
  only_move : (node : ℕ) {e : Edge} (m : Memory) → leaving g node ≡ e ∷ [] → move laid g node m ≡ move_by
      (effect laid e.op m.temps) e m (Halts Ended)
  only_move node m h = ap (λ es. move_along laid es m) h

  forward_is : (e : Edge) (m : Memory) → e.from < e.to → is_round e m ≡ false
  forward_is e m l = ap (λ b. b && (m.seen e.to == suc m.used)) (lt-leb e.to e.from l)

  goes_forward : (e : Edge) (m : Memory) (t : Temps) (other : Move) → e.from < e.to
      → move_by (Silent t) e m other ≡ Goes e.to (arrive e.to m.used t m)
  goes_forward e m t other l =
      ap (λ b. if b then GoesRound e.to (arrive e.to m.used t m) else Goes e.to (arrive e.to m.used t m))
      (forward_is e m l)

  pub along : {node node' : ℕ} {op : Operation} {m : Memory} {answers : List Answer} {x : Next}
      → leaving g node ≡ edge node node' op ∷ [] → node < node'
      → (t : Temps) → effect laid op m.temps ≡ Silent t → Runs laid g node' (arrive node' m.used t m) answers x
      → Runs laid g node m answers x
  along {node} {node'} {op} {m} h l t e run =
      goes (only_move node m h ∙ (ap (λ f. move_by f (edge node node' op) m (Halts Ended)) e
      ∙ goes_forward (edge node node' op) m t (Halts Ended) l)) run

  pub joins : {node node' : ℕ} {m : Memory} {answers : List Answer} {x : Next} → Joins g node node'
      → Runs laid g node' (arrive node' m.used m.temps m) answers x → Runs laid g node m answers x
  joins {m = m} j run = along j.only j.forward m.temps refl run

  fit_by : {node node' : ℕ} {m : Memory} {n : Next} {after : Value → Memory} (a : Answer) (rest : List Answer)
      (k : Value → After)
      → move laid g node m ≡ Awaits n node' after → (o : Option Value) → answer_of laid n a ≡ o
      → ((v : Value) → Runs laid g node' (after v) rest (k v rest))
      → Runs laid g node m (a ∷ rest) (fit_then o k rest)
  fit_by a rest k h (Some v) e run = answered h e (run v)
  fit_by a rest k h None e run = unfit h e

  -- one operation that is no test, and what it does
  pub does : {node node' : ℕ} {op : Operation} (n b : ℕ) (m : Memory) (answers : List Answer) (k : Value → After)
      (d : Doing) (to : Option ℕ)
      → leaving g node ≡ edge node node' op ∷ [] → node < node' → n ≤ node' → AtLeast b to
      → effect laid op m.temps ≡ effect_by to m.temps d → (d ≡ shut → ⊥)
      → ((v : Value) (m' : Memory) (rest : List Answer) → Kept n b m m' answers rest → m'.temps ≡ kept_with to v m.temps
      → Runs laid g node' m' rest (k v rest))
      → Runs laid g node m answers (doing_then laid d k answers)
  does {node} {node'} {op} n b m answers k (gives v) to only forward i l e open_ ok =
      along only forward (kept_with to v m.temps) e
      (ok v (arrive node' m.used (kept_with to v m.temps) m) answers
      (kept_arrive n b node' (kept_with to v m.temps) m answers i (kept_below b to v m.temps l)) refl)
  does n b m answers k shut to only forward i l e open_ ok = absurd (open_ refl)
  does {node} {node'} {op} n b m [] k (asks action) to only forward i l e open_ ok =
      awaits (only_move node m only ∙ ap (λ f. move_by f (edge node node' op) m (Halts Ended)) e)
  does {node} {node'} {op} n b m (a ∷ rest) k (asks action) to only forward i l e open_ ok =
      fit_by a rest k (only_move node m only ∙ ap (λ f. move_by f (edge node node' op) m (Halts Ended)) e)
      (answer_of laid action a) refl
      (λ v. ok v (arrive node' (suc m.used) (kept_with to v m.temps) m) rest
      (kept_answered n b node' (kept_with to v m.temps) m a rest i (kept_below b to v m.temps l)) refl)
  does {node} {node'} {op} n b m answers k (fails class p) to only forward i l e open_ ok =
      subst (λ z. Runs laid g node m answers z) (last_same (Fault class p) answers)
      (halts (only_move node m only ∙ ap (λ f. move_by f (edge node node' op) m (Halts Ended)) e))

  -- a test and its opposite: both ways on are good, and one is gone
  pub splits : {node one other : ℕ} {m : Memory} {answers : List Answer} (test : Test) (k k' : After) → IsTest test
      → leaving g node ≡ edge node one (Op.Assume test) ∷ edge node other (Op.Assume (opposite test)) ∷ [] → node < one
      → node < other
      → (b : Bool) → holds test m.temps ≡ b
      → Runs laid g one (arrive one m.used m.temps m) answers (k answers)
      → Runs laid g other (arrive other m.used m.temps m) answers (k' answers)
      → Runs laid g node m answers ((if b then k else k') answers)
  splits {node} {one} {other} {m} test k k' is both l l' true e run run' =
      goes (ap (λ es. move_along laid es m) both
      ∙ (ap (λ z. move_by (effect_by None m.temps (lets_through z)) (edge node one (Op.Assume test)) m
      (move_along laid (edge node other (Op.Assume (opposite test)) ∷ []) m)) e
      ∙ goes_forward (edge node one (Op.Assume test)) m m.temps
      (move_along laid (edge node other (Op.Assume (opposite test)) ∷ []) m) l)) run
  splits {node} {one} {other} {m} test k k' is both l l' false e run run' =
      goes (ap (λ es. move_along laid es m) both
      ∙ (ap (λ z. move_by (effect_by None m.temps (lets_through z)) (edge node one (Op.Assume test)) m
      (move_along laid (edge node other (Op.Assume (opposite test)) ∷ []) m)) e
      ∙ (ap (λ z. move_by (effect_by None m.temps (lets_through z)) (edge node other (Op.Assume (opposite test))) m
      (Halts Ended)) (opposite_holds test m.temps is ∙ ap not e)
      ∙ goes_forward (edge node other (Op.Assume (opposite test))) m m.temps (Halts Ended) l'))) run'

  -- back at a head with no answer since, and with some
  pub comes_round : {node head : ℕ} {m : Memory} {answers : List Answer} → Returns g node head
      → m.seen head ≡ suc m.used
      → Runs laid g node m answers (last Spins answers)
  comes_round {node} {head} {m} {answers = answers} r e =
      subst (λ z. Runs laid g node m answers z) (last_same Spins answers)
      (spins (only_move node m r.only
      ∙ ap (λ b. if b then GoesRound head (arrive head m.used m.temps m) else Goes head (arrive head m.used m.temps m))
      (ap (λ b. b && (m.seen head == suc m.used)) (le-leb head node r.back) ∙ eq-eqb (m.seen head) (suc m.used) e)))

  pub comes_again : {node head : ℕ} {m : Memory} {answers : List Answer} {x : Next} → Returns g node head
      → (m.seen head ≡ suc m.used → ⊥)
      → Runs laid g head (arrive head m.used m.temps m) answers x → Runs laid g node m answers x
  comes_again {node} {head} {m} r e run =
      goes (only_move node m r.only
      ∙ ap (λ b. if b then GoesRound head (arrive head m.used m.temps m) else Goes head (arrive head m.used m.temps m))
      (ap (λ b. b && (m.seen head == suc m.used)) (le-leb head node r.back) ∙ ne_eqb (m.seen head) (suc m.used) e)) run
