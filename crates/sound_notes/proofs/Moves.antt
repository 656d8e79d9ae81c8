-- What the moves of a run of a graph say of its edges, and where it was before its last answer.
use Rattle.std.proofs.Common.{◌≡◌, inl, inr, refl, subst, ℕ, Bool, true, false, List, [], ◌∷◌, ◌++◌}
use Rattle.std.proofs.Common.{if◌then◌else◌, Some}
use Rattle.sound_tables.specs.tm_laid.Layouts.{LaidTree}
use Rattle.sound_tables.specs.concrete_values.declared.values.Value.{Value}
use Rattle.sound_tables.specs.concrete_values.declared.values.Answer.{Answer}
use Rattle.sound_tables.specs.concrete_values.declared.actions.Next.{Next}
use Rattle.sound_tables.specs.concrete_values.Actions.{answer_of}
use Rattle.sound_tables.specs.flow_graph.declared.graphs.Edge.{Edge}
use Rattle.sound_tables.specs.flow_graph.Graphs.{Edges, Among, leaving, Leaves}
use Rattle.sound_tables.specs.flow_graph.Operations.{Effect, Silent, Closed, Asks, Breaks, effect}
use Rattle.sound_tables.specs.flow_graph.Runs.{Memory, arrive, is_round, Move, Goes, GoesRound, Awaits, Halts}
use Rattle.sound_tables.specs.flow_graph.Runs.{move_by, move_along, move}
use Rattle.sound_tables.specs.flow_graph.Positions.{Silently, Reaches, here, went, gave}
use Rattle.flow_graph.proofs.Positions.{Waits, leaves_among}

-- ## Moves along edges

abbrev Says : LaidTree → Edges → ℕ → Memory → Move → Type 0
Says laid g node m (Goes node' m') = Silently laid g node m node' m'
Says laid g node m (GoesRound node' m') = Silently laid g node m node' m'
Says laid g node m (Awaits n node' after) = Waits laid g node m n node' after
Says laid g node m (Halts n) = Unit {0}

module _ (laid : LaidTree) (g : Edges) (node : ℕ) (m : Memory) where
  says_if : (b : Bool) (node' : ℕ) (m' : Memory) → Silently laid g node m node' m'
      → Says laid g node m (if b then GoesRound node' m' else Goes node' m')
  says_if true node' m' h = h
  says_if false node' m' h = h

  says_by : (e : Edge) (other : Move) (f : Effect) → effect laid e.op m.temps ≡ f → Leaves g node e
      → Says laid g node m other → Says laid g node m (move_by f e m other)
  says_by e other (Silent t) h l k =
      says_if (is_round e m) e.to (arrive e.to m.used t m) (record { edge = e; leaves = l; there = refl; does = h })
  says_by e other Closed h l k = k
  says_by e other (Asks n after) h l k =
      record { edge = e; temps = after; leaves = l; there = refl; asks = h; gives = λ v. refl }
  says_by e other (Breaks class place) h l k = tt

  says_along : (es : Edges) → ((e : Edge) → Among e es → Leaves g node e)
      → Says laid g node m (move_along laid es m)
  says_along [] h = tt
  says_along (e ∷ es) h =
      says_by e (move_along laid es m) (effect laid e.op m.temps) refl (h e (inl refl))
      (says_along es (λ e' a. h e' (inr a)))

  says : Says laid g node m (move laid g node m)
  says = says_along (leaving g node)
      (λ e a. let h = leaves_among g node e a in record { among = h.0; from = h.1 })

  pub goes_along : (node' : ℕ) (m' : Memory) → move laid g node m ≡ Goes node' m' → Silently laid g node m node' m'
  goes_along node' m' e = subst (λ z. Says laid g node m z) e says

  pub awaits_along : (n : Next) (node' : ℕ) (after : Value → Memory) → move laid g node m ≡ Awaits n node' after
      → Waits laid g node m n node' after
  awaits_along n node' after e = subst (λ z. Says laid g node m z) e says

-- ## Before the last answer

-- the run stood at a node, where it waited for the answer, and has come from there by itself
pub record HasAsked (laid : LaidTree) (g : Edges) (n0 : ℕ) (m0 : Memory) (answers : List Answer) (a : Answer)
    (node : ℕ) (m : Memory) : Type 0 where
  pub place : ℕ
  pub memory : Memory
  pub before : Reaches laid g n0 m0 answers place memory
  pub next : Next
  pub to : ℕ
  pub after : Value → Memory
  pub waits : move laid g place memory ≡ Awaits next to after
  pub value : Value
  pub fits : answer_of laid next a ≡ Some value
  pub behind : Reaches laid g to (after value) [] node m

nil_snoc : (answers : List Answer) (a : Answer) → (let xs : List Answer = [] in xs) ≡ answers ++ a ∷ [] → ⊥
nil_snoc [] a e = cc
nil_snoc (b ∷ answers) a e = cc

head_same : (b a : Answer) (xs ys : List Answer) → b ∷ xs ≡ a ∷ ys → b ≡ a
head_same b a xs ys e = cc

tail_same : (b a : Answer) (xs ys : List Answer) → b ∷ xs ≡ a ∷ ys → xs ≡ ys
tail_same b a xs ys e = cc

module _ (laid : LaidTree) (g : Edges) where
  by_going : {n0 n1 : ℕ} {m0 m1 : Memory} {answers : List Answer} {a : Answer} {node : ℕ} {m : Memory}
      → move laid g n0 m0 ≡ Goes n1 m1 → HasAsked laid g n1 m1 answers a node m → HasAsked laid g n0 m0 answers a node m
  by_going e h = record {
    place = h.place;
    memory = h.memory;
    before = went e h.before;
    next = h.next;
    to = h.to;
    after = h.after;
    waits = h.waits;
    value = h.value;
    fits = h.fits;
    behind = h.behind;
  }

  by_giving : {n0 n1 : ℕ} {m0 : Memory} {n : Next} {after : Value → Memory} {b : Answer} {v : Value}
      {answers : List Answer} {a : Answer} {node : ℕ} {m : Memory} → move laid g n0 m0 ≡ Awaits n n1 after
      → answer_of laid n b ≡ Some v → HasAsked laid g n1 (after v) answers a node m
      → HasAsked laid g n0 m0 (b ∷ answers) a node m
  by_giving e f h = record {
    place = h.place;
    memory = h.memory;
    before = gave e f h.before;
    next = h.next;
    to = h.to;
    after = h.after;
    waits = h.waits;
    value = h.value;
    fits = h.fits;
    behind = h.behind;
  }

  -- the answer is the first of all
  by_first : {n0 n1 : ℕ} {m0 : Memory} {n : Next} {after : Value → Memory} {b : Answer} {v : Value} {a : Answer}
      {node : ℕ} {m : Memory} → move laid g n0 m0 ≡ Awaits n n1 after → answer_of laid n b ≡ Some v → b ≡ a
      → Reaches laid g n1 (after v) [] node m → HasAsked laid g n0 m0 [] a node m
  by_first {n0} {n1} {m0} {n} {after} {b} {v} e f same r = record {
    place = n0;
    memory = m0;
    before = here;
    next = n;
    to = n1;
    after = after;
    waits = e;
    value = v;
    fits = subst (λ z. answer_of laid n z ≡ Some v) same f;
    behind = r;
  }

  has_asked_by : {n0 : ℕ} {m0 : Memory} {all : List Answer} {node : ℕ} {m : Memory} (answers : List Answer)
      (a : Answer) → all ≡ answers ++ a ∷ [] → Reaches laid g n0 m0 all node m
      → HasAsked laid g n0 m0 answers a node m
  has_asked_by answers a same here = absurd (nil_snoc answers a same)
  has_asked_by answers a same (went e r) = by_going e (has_asked_by answers a same r)
  has_asked_by {node = node} {m = m} [] a same
      (gave {node1 = n1} {answers = rest} {after = after} {a = b} {v = v} e f r) =
      by_first e f (head_same b a rest [] same)
      (subst (λ z. Reaches laid g n1 (after v) z node m) (tail_same b a rest [] same) r)
  has_asked_by {n0 = n0} {m0 = m0} {node = node} {m = m} (c ∷ answers) a same
      (gave {answers = rest} {a = b} e f r) =
      subst (λ z. HasAsked laid g n0 m0 (z ∷ answers) a node m) (head_same b c rest (answers ++ a ∷ []) same)
      (by_giving e f (has_asked_by answers a (tail_same b c rest (answers ++ a ∷ []) same) r))

  pub has_asked : {n0 : ℕ} {m0 : Memory} {node : ℕ} {m : Memory} (answers : List Answer) (a : Answer)
      → Reaches laid g n0 m0 (answers ++ a ∷ []) node m → HasAsked laid g n0 m0 answers a node m
  has_asked answers a r = has_asked_by answers a refl r
