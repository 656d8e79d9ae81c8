-- Temporaries that no path of so many edges from a node uses before it gives them.
use Rattle.std.proofs.Common.{◌≡◌, ◌≢◌, ◌⊎◌, inl, inr, ℕ, zero, suc, ◌<◌, ◌≤◌, Bool, true, false, List, [], ◌∷◌, ◌++◌}
use Rattle.std.proofs.Common.{length, refl, sym, ap, subst, arith}
use Rattle.std.specs.Prelude.{if◌then◌else◌, ◌==◌, map, Some}
use Rattle.std.proofs.lemmas.Bool.{cases_eq, cases_lt, eq-eqb}
use Rattle.flow_graph.specs.declared.graphs.Edge.{Edge}
use Rattle.flow_graph.specs.declared.operations.Test.{Test}
use Rattle.flow_graph.specs.declared.operations.Test.TheVariants as Tests
use Rattle.flow_graph.specs.declared.operations.Operation.{Operation}
use Rattle.flow_graph.specs.declared.operations.Operation.TheVariants as Op
use Rattle.flow_graph.specs.Operations.{used, given, tested, opposite}
use Rattle.flow_graph.specs.Graphs.{Edges, Among, leaving, IsLive, by_use, by_flow}
use Rattle.lowering.specs.Built.{edge, at, renamed, renamed_test}
use Rattle.lowering.proofs.Edges.{Joins, Returns}
use Rattle.lowering.proofs.Pendings.{NotIn}
use Rattle.lowering.proofs.Scopes.{Below}

abbrev DeadEdge : (ℕ → Type 0) → ℕ → Edge → Type 0
DeadEdge P t e = (Among t (used e.op) → ⊥) × ((given e.op ≡ Some t) ⊎ P e.to)

abbrev DeadAlong : (ℕ → Type 0) → ℕ → Edges → Type 0
DeadAlong P t [] = Unit {0}
DeadAlong P t (e ∷ es) = DeadEdge P t e × DeadAlong P t es

abbrev pub DeadIn : Edges → ℕ → ℕ → ℕ → Type 0
DeadIn g t zero n = Unit {0}
DeadIn g t (suc k) n = DeadAlong (DeadIn g t k) t (leaving g n)

-- ## No path of any length makes it live

steps_of : {g : Edges} {t n : ℕ} → IsLive g t n → ℕ
steps_of (by_use e a u) = 1
steps_of (by_flow e a ng l) = suc (steps_of l)

along_case : (P : ℕ → Type 0) (t : ℕ) (x : Edge) (es : Edges) (b : Bool) → DeadAlong P t (if b then x ∷ es else es)
    → DeadAlong P t es
along_case P t x es true d = d.1
along_case P t x es false d = d

dead_at : (P : ℕ → Type 0) (t : ℕ) (g : Edges) (e : Edge) → Among e g → DeadAlong P t (leaving g e.from)
    → DeadEdge P t e
dead_at P t [] e a d = absurd a
dead_at P t (x ∷ g) e (inl i) d =
    subst (λ z. DeadEdge P t z) i
    (subst (λ b. DeadAlong P t (if b then x ∷ leaving g e.from else leaving g e.from))
    (eq-eqb x.from e.from (ap (λ z. z.from) i)) d).0
dead_at P t (x ∷ g) e (inr a) d = dead_at P t g e a (along_case P t x (leaving g e.from) (x.from == e.from) d)

not_live : {g : Edges} {t n : ℕ} → (l : IsLive g t n) → DeadIn g t (steps_of l) n → ⊥
unfolding steps_of
not_live {g} {t} (by_use e a u) d = (dead_at (DeadIn g t 0) t g e a d).0 u
not_live {g} {t} (by_flow e a ng l) d = by_case (dead_at (DeadIn g t (steps_of l)) t g e a d).1 (λ d'. not_live l d')
  where
    by_case : (given e.op ≡ Some t) ⊎ DeadIn g t (steps_of l) e.to → (DeadIn g t (steps_of l) e.to → ⊥) → ⊥
    by_case (inl i) f = ng i
    by_case (inr d') f = f d'

pub dead_not_live : (g : Edges) (t n : ℕ) → ((k : ℕ) → DeadIn g t k n) → IsLive g t n → ⊥
dead_not_live g t n h l = not_live l (h (steps_of l))

-- ## Fewer edges

along_map : (P Q : ℕ → Type 0) (t : ℕ) → ((n : ℕ) → P n → Q n) → (es : Edges) → DeadAlong P t es → DeadAlong Q t es
along_map P Q t f [] d = tt
along_map P Q t f (e ∷ es) d = ((d.0.0, by_case d.0.1), along_map P Q t f es d.1)
  where
    by_case : (given e.op ≡ Some t) ⊎ P e.to → (given e.op ≡ Some t) ⊎ Q e.to
    by_case (inl i) = inl i
    by_case (inr p) = inr (f e.to p)

less : (g : Edges) (t k n : ℕ) → DeadIn g t (suc k) n → DeadIn g t k n
less g t zero n d = tt
less g t (suc k) n d = along_map (DeadIn g t (suc k)) (DeadIn g t k) t (less g t k) (leaving g n) d

pub lower : (g : Edges) (t k' k n : ℕ) → k' ≤ k → DeadIn g t k n → DeadIn g t k' n
lower g t zero zero n l d = tt
lower g t (suc k') zero n l d = absurd (omega (arith, l))
lower g t k' (suc k) n l d = by_case (cases_lt k k') (λ i. lower g t k' k n i (less g t k n d))
  where
    by_case : (k < k') ⊎ (k' ≤ k) → (k' ≤ k → DeadIn g t k' n) → DeadIn g t k' n
    by_case (inl i) f = let e : suc k ≡ k' = omega (arith, i, l) in subst (λ z. DeadIn g t z n) e d
    by_case (inr i) f = f i

-- ## Along an edge

one_dead : (g : Edges) (t k : ℕ) {n n' : ℕ} {op : Operation} → leaving g n ≡ edge n n' op ∷ [] → (Among t (used op) → ⊥)
    → (given op ≡ Some t) ⊎ DeadIn g t k n'
    → DeadIn g t (suc k) n
one_dead g t k h u d = subst (λ es. DeadAlong (DeadIn g t k) t es) (sym h) ((u, d), tt)

pub dead_by : (g : Edges) (t k : ℕ) {n n' : ℕ} {op : Operation} → leaving g n ≡ edge n n' op ∷ []
    → (Among t (used op) → ⊥) → (given op ≡ Some t) ⊎ DeadIn g t k n'
    → DeadIn g t k n
dead_by g t k {n} h u d = less g t k n (one_dead g t k h u d)

-- a temporary that is given
pub by_new : {D : Type 0} (t' t : ℕ) → (t' ≢ t → D) → (Some t' ≡ Some t) ⊎ D
by_new {D} t' t f = by_case (cases_eq t' t)
  where
    by_case : (t' ≡ t) ⊎ (t' ≡ t → ⊥) → (Some t' ≡ Some t) ⊎ D
    by_case (inl e) = inl (ap Some e)
    by_case (inr d) = inr (f d)

opposite_tested : (test : Test) → tested (opposite test) ≡ tested test
opposite_tested (Tests.Numbers operator of left right) = refl
opposite_tested (Tests.Pointers equal left right) = refl
opposite_tested (Tests.Truth holds value) = refl
opposite_tested (Tests.Case holds label value) = refl

pub both_dead : (g : Edges) (t k : ℕ) {n one other : ℕ} (test : Test) → leaving g n ≡ edge n one
    (Op.Assume test) ∷ edge n other (Op.Assume (opposite test)) ∷ []
    → (Among t (tested test) → ⊥) → DeadIn g t k one → DeadIn g t k other → DeadIn g t k n
both_dead g t k {n} test h u d d' =
    less g t k n (subst (λ es. DeadAlong (DeadIn g t k) t es) (sym h)
    ((u, inr d), ((subst (λ us. Among t us → ⊥) (sym (opposite_tested test)) u, inr d'), tt)))

pub joins_dead : (g : Edges) (t k : ℕ) {p j : ℕ} → Joins g p j → DeadIn g t k j → DeadIn g t k p
joins_dead g t k j d = dead_by g t k j.only (λ u. u) (inr d)

-- a turn of a loop is dead where the way back is
pub loop_dead : (g : Edges) (t head k : ℕ)
    → ((k' : ℕ) → k' ≤ k → ((node : ℕ) → Returns g node head → DeadIn g t k' node) → DeadIn g t k' head)
    → (k' : ℕ) → k' ≤ k → DeadIn g t k' head
loop_dead g t head k turn zero l = tt
loop_dead g t head k turn (suc k') l =
    turn (suc k') l (λ node r. one_dead g t k' r.only (λ u. u) (inr (loop_dead g t head k turn k' (omega arith))))

-- ## Variables by their temporaries

pub at_away : (t : ℕ) (ts : List ℕ) → NotIn t ts → (v : ℕ) → v < length ts → at ts v ≢ t
at_away t [] h v l = absurd (omega (arith, l))
at_away t (u ∷ ts) h zero l = h.0
at_away t (u ∷ ts) h (suc v) l = at_away t ts h.1 v (omega arith)

used_renamed : (f : ℕ → ℕ) (to : ℕ) (op : Operation) → used (renamed f to op) ≡ map f (used op)
used_renamed f to Op.Skip = refl
used_renamed f to (Op.Const t value) = refl
used_renamed f to (Op.Copy t from) = refl
used_renamed f to (Op.Un t operator of from place) = refl
used_renamed f to (Op.Bin t operator of left right place) = refl
used_renamed f to (Op.BinPointers t equal left right) = refl
used_renamed f to (Op.Convert t was of from) = refl
used_renamed f to (Op.Base t object) = refl
used_renamed f to (Op.Offset t from cells) = refl
used_renamed f to (Op.Index t from length cells by place) = refl
used_renamed f to (Op.Move t from cells minus by place) = refl
used_renamed f to (Op.Deref t from target path place) = refl
used_renamed f to (Op.Load t address scalar place) = refl
used_renamed f to (Op.LoadAny t address scalar place) = refl
used_renamed f to (Op.Store address value scalar into place) = refl
used_renamed f to (Op.Any t low high) = refl
used_renamed f to (Op.Clear object) = refl
used_renamed f to (Op.Usable pointer place) = refl
used_renamed f to (Op.Assume (Tests.Numbers operator of left right)) = refl
used_renamed f to (Op.Assume (Tests.Pointers equal left right)) = refl
used_renamed f to (Op.Assume (Tests.Truth holds value)) = refl
used_renamed f to (Op.Assume (Tests.Case holds label value)) = refl
used_renamed f to (Op.Lock mutex place) = refl
used_renamed f to (Op.Unlock mutex place) = refl
used_renamed f to Op.Yield = refl
used_renamed f to (Op.Probe t mutex place) = refl

among_map : (t n : ℕ) (f : ℕ → ℕ) (us : List ℕ) → Below n us → ((v : ℕ) → v < n → f v ≢ t) → Among t (map f us) → ⊥
among_map t n f [] b h a = a
among_map t n f (u ∷ us) b h (inl e) = h u b.0 e
among_map t n f (u ∷ us) b h (inr a) = among_map t n f us b.1 h a

pub used_away : (t n : ℕ) (ts : List ℕ) (to : ℕ) (op : Operation) → Below n (used op) → length ts ≡ n → NotIn t ts
    → Among t (used (renamed (at ts) to op)) → ⊥
used_away t n ts to op b len h a =
    among_map t n (at ts) (used op) b (λ v l. at_away t ts h v (omega (arith, l, len)))
    (subst (λ us. Among t us) (used_renamed (at ts) to op) a)

pub tested_away : (t n : ℕ) (ts : List ℕ) (test : Test) → Below n (tested test) → length ts ≡ n → NotIn t ts
    → Among t (tested (renamed_test (at ts) test)) → ⊥
tested_away t n ts test b len h a = used_away t n ts 0 (Op.Assume test) b len h a

pub counted_end : (ts : List ℕ) (t n : ℕ) → length ts ≡ n → length (ts ++ t ∷ []) ≡ suc n
counted_end [] t n e = ap suc e
counted_end (u ∷ ts) t zero e = absurd (cc)
counted_end (u ∷ ts) t (suc n) e = ap suc (counted_end ts t n (omega (arith, e)))

pub one_away : (t from : ℕ) → from ≢ t → Among t (from ∷ []) → ⊥
one_away t from ne (inl e) = ne e
one_away t from ne (inr a) = a

pub two_away : (t a b : ℕ) → a ≢ t → b ≢ t → Among t (a ∷ b ∷ []) → ⊥
two_away t a b na nb (inl e) = na e
two_away t a b na nb (inr h) = one_away t b nb h

-- where control comes to a node, or is there
pub dead_comes : (g : Edges) (t k : ℕ) {n : ℕ} (a c : ℕ) → DeadIn g t k c → (a ≡ c) ⊎ (Joins g a c × (n ≤ c))
    → DeadIn g t k a
dead_comes g t k a c d (inl e) = subst (λ z. DeadIn g t k z) (sym e) d
dead_comes g t k a c d (inr j) = joins_dead g t k j.0 d

-- at a node that no edge leaves all are dead
pub end_dead : (g : Edges) (t k n : ℕ) → leaving g n ≡ [] → DeadIn g t k n
end_dead g t zero n h = tt
end_dead g t (suc k) n h = subst (λ es. DeadAlong (DeadIn g t k) t es) (sym h) tt
