-- The run over a list of answers as positions, one answer after the other.
use Rattle.std.proofs.Common.{◌≡◌, inl, inr, ℕ, Bool, true, false, List, [], ◌∷◌, ◌++◌, refl, sym, ◌∙◌, ap, subst}
use Rattle.std.specs.Prelude.{if◌then◌else◌, ◌==◌, not, Result, Ok, Err, Option, Some, None}
use Rattle.std.proofs.lemmas.Bool.{eqb-true}
use Rattle.concrete_values.specs.tm_cint.declared.Class.{Class}
use Rattle.concrete_values.specs.tm_terms.declared.places.Place.{Place}
use Rattle.concrete_values.specs.tm_laid.Layouts.{LaidTree}
use Rattle.concrete_values.specs.declared.values.Value.{Value}
use Rattle.concrete_values.specs.declared.values.Answer.{Answer}
use Rattle.concrete_values.specs.declared.actions.Next.{Next}
use Rattle.concrete_values.specs.declared.actions.Next.TheVariants.{Fault, Ended, Spins}
use Rattle.concrete_values.specs.declared.values.Answer.TheVariants.{Given, Done}
use Rattle.concrete_values.specs.Actions.{answer_of}
use Rattle.flow_graph.specs.declared.graphs.Edge.{Edge}
use Rattle.flow_graph.specs.declared.operations.Operation.{Operation}
use Rattle.flow_graph.specs.declared.operations.Operation.TheVariants as Op
use Rattle.flow_graph.specs.Operations.{Temps, opposite, holds, given_by, lets_through, Effect, Silent, Closed, Asks}
use Rattle.flow_graph.specs.Operations.{Breaks, effect_by, effect}
use Rattle.flow_graph.specs.Graphs.{Edges, leaving, Among, Leaves, IsSure, IsOpposite, IsFork, IsPlain}
use Rattle.flow_graph.specs.Runs.{Memory, arrive, is_round, Move, Goes, GoesRound, Awaits, Halts, move_by, move_along}
use Rattle.flow_graph.specs.Runs.{move, last, Runs, goes, spins, halts, awaits, answered, unfit, at_entry}
use Rattle.flow_graph.specs.Positions.{Silently, Drifts, stays, drifts, Reaches, here, went, gave, Is, GoesOn, Stops}
use Rattle.flow_graph.specs.Positions.{asking, breaking, spinning, ending, RunsAlong}
use Rattle.flow_graph.proofs.Tests.{opposite_holds}

-- what stops a run by itself: an edge that fails, or that there is none
pub data Ending (laid : LaidTree) (g : Edges) (node : ℕ) (m : Memory) : Next → Type 0 where
  fails_at : {class : Class} {place : Place} (e : Edge) → Leaves g node e
      → effect laid e.op m.temps ≡ Breaks class place
      → Ending laid g node m (Fault class place)
  ends_at : leaving g node ≡ [] → Ending laid g node m Ended

-- an edge that waits for an answer
pub record Waits (laid : LaidTree) (g : Edges) (node : ℕ) (m : Memory) (n : Next) (node' : ℕ)
    (after : Value → Memory) : Type 0 where
  pub edge : Edge
  pub temps : Value → Temps
  pub leaves : Leaves g node edge
  pub there : edge.to ≡ node'
  pub asks : effect laid edge.op m.temps ≡ Asks n temps
  pub gives : (v : Value) → (after v).temps ≡ temps v

-- what a move says of the edges, for each kind of move
abbrev Says : LaidTree → Edges → ℕ → Memory → Move → Type 0
Says laid g node m (Goes node' m') = Silently laid g node m node' m'
Says laid g node m (GoesRound node' m') = Silently laid g node m node' m'
Says laid g node m (Awaits n node' after) = Waits laid g node m n node' after
Says laid g node m (Halts n) = Ending laid g node m n

leaves_case : (x e : Edge) (g : Edges) (node : ℕ) → (Among e (leaving g node) → Among e g × (e.from ≡ node))
    → (b : Bool) → (x.from == node) ≡ b
    → Among e (if b then x ∷ leaving g node else leaving g node) → Among e (x ∷ g) × (e.from ≡ node)
leaves_case x e g node ih true h (inl p) = (inl p, subst (λ z. z.from ≡ node) p (eqb-true x.from node h))
leaves_case x e g node ih true h (inr q) = (inr (ih q).0, (ih q).1)
leaves_case x e g node ih false h a = (inr (ih a).0, (ih a).1)

pub leaves_among : (g : Edges) (node : ℕ) (e : Edge) → Among e (leaving g node) → Among e g × (e.from ≡ node)
leaves_among [] node e a = absurd a
leaves_among (x ∷ g) node e a = leaves_case x e g node (λ q. leaves_among g node e q) (x.from == node) refl a

given_open : (laid : LaidTree) (to : Option ℕ) (t : Temps) (place : Place) (r : Result Value Class) → effect_by to t
    (given_by place r) ≡ Closed → ⊥
given_open laid to t place (Ok v) e = cc
given_open laid to t place (Err class) e = cc

-- an operation that is no test is never closed
pub sure_open : (laid : LaidTree) (op : Operation) (t : Temps) → IsSure op → effect laid op t ≡ Closed → ⊥
sure_open laid Op.Skip t s e = cc
sure_open laid (Op.Const to value) t s e = cc
sure_open laid (Op.Copy to from) t s e = cc
sure_open laid (Op.Un to operator of from place) t s e = given_open laid (Some to) t place _ e
sure_open laid (Op.Bin to operator of left right place) t s e = given_open laid (Some to) t place _ e
sure_open laid (Op.BinPointers to equal left right) t s e = cc
sure_open laid (Op.Convert to was of from) t s e = cc
sure_open laid (Op.Base to object) t s e = cc
sure_open laid (Op.Offset to from cells) t s e = cc
sure_open laid (Op.Index to from length cells by place) t s e = given_open laid (Some to) t place _ e
sure_open laid (Op.Move to from cells minus by place) t s e = given_open laid (Some to) t place _ e
sure_open laid (Op.Deref to from target path place) t s e = given_open laid (Some to) t place _ e
sure_open laid (Op.Load to address scalar place) t s e = cc
sure_open laid (Op.LoadAny to address scalar place) t s e = cc
sure_open laid (Op.Store address value scalar into place) t s e = cc
sure_open laid (Op.Any to low high) t s e = cc
sure_open laid (Op.Clear object) t s e = cc
sure_open laid (Op.Usable pointer place) t s e = given_open laid None t place _ e
sure_open laid (Op.Assume test) t s e = absurd s
sure_open laid (Op.Lock mutex place) t s e = cc
sure_open laid (Op.Unlock mutex place) t s e = cc
sure_open laid Op.Yield t s e = cc
sure_open laid (Op.Probe to mutex place) t s e = cc

let_open : (b : Bool) (t : Temps) → effect_by None t (lets_through b) ≡ Closed → b ≡ false
let_open true t e = cc
let_open false t e = refl

not_false : (b : Bool) → b ≡ false → not b ≡ false → ⊥
not_false true e f = cc
not_false false e f = cc

-- of a test and its opposite one is open
one_open : (laid : LaidTree) (op op' : Operation) (t : Temps) → IsOpposite op op' → effect laid op t ≡ Closed
    → effect laid op' t ≡ Closed → ⊥
one_open laid (Op.Assume test) op' t (is, h) e f =
    let k : effect laid (Op.Assume (opposite test)) t ≡ Closed = subst (λ z. effect laid z t ≡ Closed) h f in
    not_false (holds test t) (let_open (holds test t) t e)
    (sym (opposite_holds test t is) ∙ let_open (holds (opposite test) t) t k)
one_open laid Op.Skip op' t h e f = absurd h
one_open laid (Op.Const to value) op' t h e f = absurd h
one_open laid (Op.Copy to from) op' t h e f = absurd h
one_open laid (Op.Un to operator of from place) op' t h e f = absurd h
one_open laid (Op.Bin to operator of left right place) op' t h e f = absurd h
one_open laid (Op.BinPointers to equal left right) op' t h e f = absurd h
one_open laid (Op.Convert to was of from) op' t h e f = absurd h
one_open laid (Op.Base to object) op' t h e f = absurd h
one_open laid (Op.Offset to from cells) op' t h e f = absurd h
one_open laid (Op.Index to from length cells by place) op' t h e f = absurd h
one_open laid (Op.Move to from cells minus by place) op' t h e f = absurd h
one_open laid (Op.Deref to from target path place) op' t h e f = absurd h
one_open laid (Op.Load to address scalar place) op' t h e f = absurd h
one_open laid (Op.LoadAny to address scalar place) op' t h e f = absurd h
one_open laid (Op.Store address value scalar into place) op' t h e f = absurd h
one_open laid (Op.Any to low high) op' t h e f = absurd h
one_open laid (Op.Clear object) op' t h e f = absurd h
one_open laid (Op.Usable pointer place) op' t h e f = absurd h
one_open laid (Op.Lock mutex place) op' t h e f = absurd h
one_open laid (Op.Unlock mutex place) op' t h e f = absurd h
one_open laid Op.Yield op' t h e f = absurd h
one_open laid (Op.Probe to mutex place) op' t h e f = absurd h

-- none of these edges can be gone
abbrev AllClosed : LaidTree → Edges → Temps → Type 0
AllClosed laid [] t = Unit {0}
AllClosed laid (e ∷ es) t = (effect laid e.op t ≡ Closed) × AllClosed laid es t

none_leaves : (laid : LaidTree) (es : Edges) (t : Temps) → IsFork es → AllClosed laid es t → es ≡ []
none_leaves laid [] t f c = refl
none_leaves laid (e ∷ []) t f c = absurd (sure_open laid e.op t f c.0)
none_leaves laid (e ∷ e' ∷ []) t f c = absurd (one_open laid e.op e'.op t f c.0 c.1.0)
none_leaves laid (e ∷ e' ∷ e'' ∷ es) t f c = absurd f

module _ (laid : LaidTree) (g : Edges) (plain : IsPlain g) where
  says_if : (node : ℕ) (m : Memory) (b : Bool) (node' : ℕ) (m' : Memory) → Silently laid g node m node' m'
      → Says laid g node m (if b then GoesRound node' m' else Goes node' m')
  says_if node m true node' m' h = h
  says_if node m false node' m' h = h

  says_by : (node : ℕ) (m : Memory) (e : Edge) (other : Move) (f : Effect) → effect laid e.op m.temps ≡ f
      → Leaves g node e
      → (f ≡ Closed → Says laid g node m other) → Says laid g node m (move_by f e m other)
  says_by node m e other (Silent t) h l k =
      says_if node m (is_round e m) e.to (arrive e.to m.used t m)
      (record { edge = e; leaves = l; there = refl; does = h })
  says_by node m e other Closed h l k = k refl
  says_by node m e other (Asks n after) h l k =
      record { edge = e; temps = after; leaves = l; there = refl; asks = h; gives = λ v. refl }
  says_by node m e other (Breaks class place) h l k = fails_at e l h

  -- the moves along edges, all others being closed
  says_along : (node : ℕ) (m : Memory) (es : Edges) → ((e : Edge) → Among e es → Leaves g node e)
      → (AllClosed laid es m.temps → leaving g node ≡ []) → Says laid g node m (move_along laid es m)
  says_along node m [] h none = ends_at (none tt)
  says_along node m (e ∷ es) h none =
      says_by node m e (move_along laid es m) (effect laid e.op m.temps) refl (h e (inl refl))
      (λ closed. says_along node m es (λ e' a. h e' (inr a)) (λ c. none (closed, c)))

  -- each move is along an edge
  says : (node : ℕ) (m : Memory) → Says laid g node m (move laid g node m)
  says node m = says_along node m (leaving g node)
      (λ e a. let h = leaves_among g node e a in record { among = h.0; from = h.1 })
      (λ c. none_leaves laid (leaving g node) m.temps (plain node) c)

is_at : (mv : Move) {mv' : Move} (x : Next) → mv' ≡ mv → Is mv x → Is mv' x
is_at mv x e h = subst (λ z. Is z x) (sym e) h

-- what a move halts at takes no answer
abbrev IsLast : LaidTree → Next → Type 0
IsLast laid n = (a : Answer) → answer_of laid n a ≡ None

fault_last : (laid : LaidTree) (class : Class) (place : Place) → IsLast laid (Fault class place)
unfolding answer_of
fault_last laid class place (Given v) = refl
fault_last laid class place Done = refl

ended_last : (laid : LaidTree) → IsLast laid Ended
unfolding answer_of
ended_last laid (Given v) = refl
ended_last laid Done = refl

spins_last : (laid : LaidTree) → IsLast laid Spins
unfolding answer_of
spins_last laid (Given v) = refl
spins_last laid Done = refl

no_more : (laid : LaidTree) (n y : Next) (a : Answer) (w : Value) → y ≡ n → answer_of laid y a ≡ Some w → IsLast laid n
    → ⊥
no_more laid n y a w e f l = let k : Some w ≡ None = sym f ∙ (ap (λ z. answer_of laid z a) e ∙ l a) in cc

abbrev Last : LaidTree → Move → Type 0
Last laid (Goes node m) = Unit {0}
Last laid (GoesRound node m) = Unit {0}
Last laid (Awaits n node to) = Unit {0}
Last laid (Halts n) = IsLast laid n

last_if : (laid : LaidTree) (b : Bool) (node : ℕ) (m : Memory) → Last laid (if b then GoesRound node m else Goes node m)
last_if laid true node m = tt
last_if laid false node m = tt

last_by : (laid : LaidTree) (f : Effect) (e : Edge) (m : Memory) (other : Move) → Last laid other
    → Last laid (move_by f e m other)
last_by laid (Silent t) e m other h = last_if laid (is_round e m) e.to (arrive e.to m.used t m)
last_by laid Closed e m other h = h
last_by laid (Asks n after) e m other h = tt
last_by laid (Breaks class place) e m other h = fault_last laid class place

last_along : (laid : LaidTree) (es : Edges) (m : Memory) → Last laid (move_along laid es m)
last_along laid [] m = ended_last laid
last_along laid (e ∷ es) m = last_by laid (effect laid e.op m.temps) e m (move_along laid es m) (last_along laid es m)

module _ (laid : LaidTree) (g : Edges) where
  lasts : (node : ℕ) (m : Memory) → Last laid (move laid g node m)
  lasts node m = last_along laid (leaving g node) m

  same_goes : {node1 node2 : ℕ} {m1 m2 : Memory} {answers : List Answer} {x : Next} → Goes node1 m1 ≡ Goes node2 m2
      → Runs laid g node1 m1 answers x → Runs laid g node2 m2 answers x
  same_goes {node1} {node2} {m1} {m2} {answers} {x} e run =
      let en : node1 ≡ node2 = cc in
      let em : m1 ≡ m2 = cc in
      subst (λ z. Runs laid g z m2 answers x) en (subst (λ z. Runs laid g node1 z answers x) em run)

  same_after : {node1 node2 : ℕ} {n1 n2 : Next} {to1 to2 : Value → Memory} {answers : List Answer} {x : Next}
      (v : Value)
      → Awaits n1 node1 to1 ≡ Awaits n2 node2 to2 → Runs laid g node1 (to1 v) answers x → Runs laid g node2
      (to2 v) answers x
  same_after {node1} {node2} {n1} {n2} {to1} {to2} {answers} {x} v e run =
      let en : node1 ≡ node2 = cc in
      let em : to1 ≡ to2 = cc in
      subst (λ z. Runs laid g z (to2 v) answers x) en (subst (λ z. Runs laid g node1 (z v) answers x) em run)

  pub after_goes : {node node1 : ℕ} {m m1 : Memory} {answers : List Answer} {x : Next}
      → move laid g node m ≡ Goes node1 m1
      → Runs laid g node m answers x → Runs laid g node1 m1 answers x
  after_goes h (goes e run) = same_goes (sym e ∙ h) run
  after_goes h (spins e) = absurd (let k = sym e ∙ h in cc)
  after_goes h (halts e) = absurd (let k = sym e ∙ h in cc)
  after_goes h (awaits e) = absurd (let k = sym e ∙ h in cc)
  after_goes h (answered e f run) = absurd (let k = sym e ∙ h in cc)
  after_goes h (unfit e f) = absurd (let k = sym e ∙ h in cc)

  pub after_answer : {node node1 : ℕ} {m : Memory} {answers rest : List Answer} {x : Next} {n : Next} {to : Value
      → Memory} {a : Answer} {v : Value}
      → move laid g node m ≡ Awaits n node1 to → answer_of laid n a ≡ Some v → Runs laid g node m answers x
      → answers ≡ a ∷ rest
      → Runs laid g node1 (to v) rest x
  after_answer h f (goes e run) ea = absurd (let k = sym e ∙ h in cc)
  after_answer h f (spins e) ea = absurd (let k = sym e ∙ h in cc)
  after_answer h f (halts e) ea = absurd (let k = sym e ∙ h in cc)
  after_answer h f (awaits e) ea = absurd (cc)
  after_answer {node1 = node1} {rest = rest} {x = x} {n = n} {to = to} {a = a} {v = v} h f
      (answered {n = n'} {a = a'} {v = w} {answers = more} e f' run) ea =
      let k : Awaits n' _ _ ≡ Awaits n node1 to = sym e ∙ h in
      let en : n' ≡ n = cc in
      let ea' : a' ≡ a = cc in
      let er : more ≡ rest = cc in
      let f2 : answer_of laid n a ≡ Some w = subst (λ z. answer_of laid z a ≡ Some w) en
      (subst (λ z. answer_of laid n' z ≡ Some w) ea' f') in
      let ew : w ≡ v = cc in
      subst (λ z. Runs laid g node1 (to z) rest x) ew
      (subst (λ z. Runs laid g node1 (to w) z x) er (same_after w k run))
  after_answer {n = n} {a = a} {v = v} h f (unfit {n = n'} {a = a'} e f') ea =
      let k : Awaits n' _ _ ≡ Awaits n _ _ = sym e ∙ h in
      let en : n' ≡ n = cc in
      let ea' : a' ≡ a = cc in
      let f2 : answer_of laid n a ≡ None = subst (λ z. answer_of laid z a ≡ None) en
      (subst (λ z. answer_of laid n' z ≡ None) ea' f') in
      absurd (cc)

  -- a run from the start over these and more answers goes on from where these lead
  pub continued : {node node1 : ℕ} {m m1 : Memory} {answers : List Answer} (rest : List Answer) {x : Next}
      → Reaches laid g node m answers node1 m1
      → Runs laid g node m (answers ++ rest) x → Runs laid g node1 m1 rest x
  continued rest here run = run
  continued rest (went e r) run = continued rest r (after_goes e run)
  continued rest (gave e f r) run = continued rest r (after_answer e f run refl)

  pub reaches_then : {node node1 node2 : ℕ} {m m1 m2 : Memory} {answers rest : List Answer}
      → Reaches laid g node m answers node1 m1
      → Reaches laid g node1 m1 rest node2 m2 → Reaches laid g node m (answers ++ rest) node2 m2
  reaches_then here q = q
  reaches_then (went e r) q = went e (reaches_then r q)
  reaches_then (gave e f r) q = gave e f (reaches_then r q)

  -- with no answers a run always stops somewhere
  reached_now : {node : ℕ} {m : Memory} {answers : List Answer} {x : Next} → Runs laid g node m answers x → answers ≡ []
      → (node' : ℕ) × (m' : Memory) × Reaches laid g node m [] node' m' × Is (move laid g node' m') x
  reached_now (goes e run) a = let r = reached_now run a in (r.0, r.1, went e r.2, r.3)
  reached_now {node} {m} (spins e) a = (node, m, here, is_at _ _ e (ap (λ z. last Spins z) a))
  reached_now {node} {m} (halts {n = n} e) a = (node, m, here, is_at _ _ e (ap (λ z. last n z) a))
  reached_now {node} {m} (awaits e) a = (node, m, here, is_at _ _ e refl)
  reached_now (answered e f run) a = absurd (cc)
  reached_now (unfit e f) a = absurd (cc)

  -- one answer to what is awaited
  one_answer : {node node1 : ℕ} {m : Memory} {x n : Next} {to : Value → Memory} (a : Answer) (v : Value)
      → move laid g node m ≡ Awaits n node1 to
      → answer_of laid n a ≡ Some v → Runs laid g node m (a ∷ []) x
      → Runs laid g node1 (to v) [] x × ((node2 : ℕ) (m2 : Memory) → Reaches laid g node1 (to v) [] node2 m2
      → Reaches laid g node m (a ∷ []) node2 m2)
  one_answer a v e f run = (after_answer e f run refl, λ node2 m2 r. gave e f r)

module _ (laid : LaidTree) (g : Edges) (plain : IsPlain g) (next_is : List Answer → Next)
    (run : (answers : List Answer) → Runs laid g 0 at_entry answers (next_is answers)) where
  drift : {node node' : ℕ} {m m' : Memory} {answers : List Answer} → Reaches laid g node m answers node' m'
      → answers ≡ [] → Drifts laid g node m node' m'
  drift here a = stays
  drift {node} {m = m} (went e r) a = drifts (subst (λ z. Says laid g node m z) e (says laid g plain node m))
      (drift r a)
  drift (gave e f r) a = absurd (cc)

  goes_on : (answers : List Answer) (node : ℕ) (m : Memory) → Reaches laid g 0 at_entry answers node m
      → {n : Next} {node1 : ℕ} {to : Value → Memory}
      → move laid g node m ≡ Awaits n node1 to → (w : Waits laid g node m n node1 to) (a : Answer) (v : Value)
      → answer_of laid n a ≡ Some v
      → GoesOn laid g next_is answers w.edge (w.temps v) a
  goes_on answers node m st {node1 = node1} {to = to} e w a v f =
      let k = one_answer laid g a v e f (continued laid g (a ∷ []) st (run (answers ++ a ∷ []))) in
      let r = reached_now laid g k.0 refl in
      record {
        first = to v;
        given = w.gives v;
        node = r.0;
        memory = r.1;
        drifts = subst (λ z. Drifts laid g z (to v) r.0 r.1) (sym w.there) (drift r.2 refl);
        stands = (reaches_then laid g st (k.1 r.0 r.1 r.2), r.3);
      }

  ends_by : (answers : List Answer) (node : ℕ) (m : Memory) (n : Next) → Ending laid g node m n
      → Stops laid g next_is answers node m n
  ends_by answers node m n (fails_at e l h) = breaking e l h
  ends_by answers node m n (ends_at e) = ending e

  stops_by : (answers : List Answer) (node : ℕ) (m : Memory) → Reaches laid g 0 at_entry answers node m → (mv : Move)
      → move laid g node m ≡ mv
      → (x : Next) → Says laid g node m mv → Is mv x → Stops laid g next_is answers node m x
  stops_by answers node m st (Goes node' m') e x k i = absurd i
  stops_by answers node m st (GoesRound node' m') e x k i = subst (λ z. Stops laid g next_is answers node m z) (sym i)
      (spinning node' m' k)
  stops_by answers node m st (Awaits n node' to) e x k i = subst (λ z. Stops laid g next_is answers node m z) (sym i)
      (asking (record {
        edge = k.edge;
        after = k.temps;
        leaves = k.leaves;
        asks = k.asks;
        on =
            λ a v f. goes_on answers node m st e k a v f;
      }))
  stops_by answers node m st (Halts n) e x k i = subst (λ z. Stops laid g next_is answers node m z) (sym i)
      (ends_by answers node m n k)

  pub runs_along : RunsAlong laid g next_is
  runs_along =
      let r = reached_now laid g (run []) refl in
      record {
        node = r.0;
        memory = r.1;
        drifts = drift r.2 refl;
        stands = (r.2, r.3);
        stops = λ answers node m st. stops_by answers node m st.0 (move laid g node m) refl (next_is answers)
            (says laid g plain node m) st.1;
      }
