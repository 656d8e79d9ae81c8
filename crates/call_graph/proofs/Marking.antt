-- The marking of the functions that one reaches.
use Rattle.std.proofs.Common.{◌≡◌, ℕ, ◌<◌, ◌+◌, zero, suc, Bool, true, false, not, List, [], ◌∷◌, ◌++◌, ◌⊎◌, inl, inr, length, get_or, set, take, refl, sym, ap, subst, ◌∙◌, arith, get_or-set_other, get_or-set_same}
use Rattle.tm_lattice.specs.declared.memory.NoMemory.{NoMemory}
use Rattle.std.specs.Prelude.{drop, replicate, Option, Some, None, MatchOption, Result, Ok, Err, OnOk, All, Contains}
use Rattle.call_graph.specs.Orders.{AreDefinitions}
use Rattle.call_graph.specs.Searches.{HasCycle}
use Rattle.std.proofs.lemmas.Bool.{cases_eq, cases_Bool}
use Rattle.std.proofs.lemmas.List.{length-set, length-append, take-append-drop, drop_more}
use Rattle.std.proofs.lemmas.List.Elements.{All-contains, All-push, Contains-append_left, Contains-push, Contains-push_cases, Contains-append_cases, Contains-append_right, Contains-get_or, All-weaker, All-nil}
use Rattle.call_graph.proofs.SearchSteps.{all_front}
use Rattle.tm_typed.specs.CallGraph.{Reaches, by_call, by_calls, calls_in, IsFirstRecursive}
use Rattle.call_graph.specs.Reaching.{IsMarked, unmarked, HasMarked, IsMarking}

unmarked-set : (marks : List Bool) (i : ℕ) → i < length marks → get_or marks i false ≡ false → unmarked (set marks i true) + 1 ≡ unmarked marks
unmarked-set [] i l e = absurd (omega arith)
unmarked-set (true ∷ marks) zero l e = cc
unmarked-set (false ∷ marks) zero l e = omega arith
unmarked-set (true ∷ marks) (suc i) l e = unmarked-set marks i (omega arith) e
unmarked-set (false ∷ marks) (suc i) l e = omega (arith, unmarked-set marks i (omega arith) e)

marked-set : (marks : List Bool) (i g : ℕ) → IsMarked marks g → IsMarked (set marks i true) g
marked-set [] i g m = m
marked-set (b ∷ marks) zero zero m = refl
marked-set (b ∷ marks) zero (suc g) m = m
marked-set (b ∷ marks) (suc i) zero m = m
marked-set (b ∷ marks) (suc i) (suc g) m = marked-set marks i g m

marked_by_set : (marks : List Bool) (i g : ℕ) → IsMarked (set marks i true) g → IsMarked marks g ⊎ (g ≡ i)
marked_by_set marks i g m = elim (cases_eq g i) [ inl e ↦ inr e | inr n ↦ inl (sym (get_or-set_other marks i g true false n) ∙ m) ]

-- nothing was marked
pub marks_none : (marks : List Bool) (waiting : List ℕ) → HasMarked [] marks marks waiting waiting
marks_none marks waiting = record {
  same = refl;
  kept = λ g m. m;
  marked = λ g c. absurd (omega (arith, c.1));
  only = λ g m. inl m;
  wait_on = λ g c. c;
  wait_only = λ g c. inl c;
  count = refl;
}

-- a callee that was marked already
pub marks_again : (marks : List Bool) (waiting : List ℕ) (g : ℕ) → IsMarked marks g → HasMarked (g ∷ []) marks marks waiting waiting
marks_again marks waiting g m = record {
  same = refl;
  kept = λ x n. n;
  marked = λ x c. elim (Contains-push_cases [] g x c) [ inl d ↦ absurd (omega (arith, d.1)) | inr e ↦ subst (λ (y : ℕ). IsMarked marks y) e m ];
  only = λ x n. inl n;
  wait_on = λ x c. c;
  wait_only = λ x c. inl c;
  count = refl;
}

-- a callee that was not marked
pub marks_new : (marks : List Bool) (waiting : List ℕ) (g : ℕ) → g < length marks → get_or marks g false ≡ false → HasMarked (g ∷ []) marks (set marks g true) waiting (waiting ++ g ∷ [])
marks_new marks waiting g l n = record {
  same = length-set marks g true;
  kept = λ x m. marked-set marks g x m;
  marked = λ x c. elim (Contains-push_cases [] g x c) [
    | inl d ↦ absurd (omega (arith, d.1))
    | inr e ↦ subst (λ (y : ℕ). IsMarked (set marks g true) y) e (get_or-set_same marks g true false l)
  ];
  only = λ x m. elim (marked_by_set marks g x m) [
    | inl o ↦ inl o
    | inr e ↦ inr (subst (λ (y : ℕ). Contains (g ∷ []) y) (sym e) (Contains-push [] g), subst (λ (y : ℕ). Contains (waiting ++ g ∷ []) y) (sym e) (Contains-push waiting g))
  ];
  wait_on = λ x c. Contains-append_left waiting (g ∷ []) x c;
  wait_only = λ x c. elim (Contains-push_cases waiting g x c) [
    | inl d ↦ inl d
    | inr e ↦ inr (subst (λ (y : ℕ). Contains (g ∷ []) y) e (Contains-push [] g))
  ];
  count = omega (arith, unmarked-set marks g l n, length-append waiting (g ∷ []));
}

-- some callees, and then others
pub marks_both : (cs ds : List ℕ) (a b c : List Bool) (us vs ws : List ℕ) → HasMarked cs a b us vs → HasMarked ds b c vs ws → HasMarked (cs ++ ds) a c us ws
marks_both cs ds a b c us vs ws p q = record {
  same = q.same ∙ p.same;
  kept = λ x m. q.kept x (p.kept x m);
  marked = λ x i. elim (Contains-append_cases cs ds x i) [ inl d ↦ q.kept x (p.marked x d) | inr d ↦ q.marked x d ];
  only = λ x m. elim (q.only x m) [
    | inl o ↦ elim (p.only x o) [ inl n ↦ inl n | inr n ↦ inr (Contains-append_left cs ds x n.0, q.wait_on x n.1) ]
    | inr o ↦ inr (Contains-append_right cs ds x o.0, o.1)
  ];
  wait_on = λ x i. q.wait_on x (p.wait_on x i);
  wait_only = λ x i. elim (q.wait_only x i) [
    | inl o ↦ elim (p.wait_only x o) [ inl n ↦ inl n | inr n ↦ inr (Contains-append_left cs ds x n) ]
    | inr o ↦ inr (Contains-append_right cs ds x o)
  ];
  count = q.count ∙ p.count;
}

-- ## The marking of what f reaches

all_within : (n : ℕ) (xs ys : List ℕ) → ((x : ℕ) → Contains ys x → Contains xs x ⊎ (x < n)) → All (λ x. x < n) xs → All (λ x. x < n) ys
all_within n xs ys h a = λ k d l. elim (h (get_or ys k d) (Contains-get_or ys k d l)) [ inl c ↦ All-contains (λ x. x < n) xs (get_or ys k d) a c | inr b ↦ b ]

marked_of_all : (cs : List ℕ) (marks : List Bool) → ((g : ℕ) → Contains cs g → IsMarked marks g) → All (IsMarked marks) cs
marked_of_all cs marks h = λ k d l. h (get_or cs k d) (Contains-get_or cs k d l)

nothing : (ws : List ℕ) (x : ℕ) → ws ≡ [] → Contains ws x → ⊥
nothing ws x e c = let P : List ℕ → Type 0 = λ xs. Contains xs x in let none : Contains [] x = subst P e c in omega (arith, none.1)

-- the functions that f calls were marked
pub marking_begins : (graph : List (List ℕ)) (f : ℕ) (old new : List Bool) (ws vs : List ℕ) → length old ≡ length graph → ((g : ℕ) → IsMarked old g → ⊥) → ws ≡ []
    → All (λ g. g < length graph) (calls_in graph f) → HasMarked (calls_in graph f) old new ws vs → IsMarking graph f new vs
marking_begins graph f old new ws vs l none e a h = record {
  same = h.same ∙ l;
  within = all_within (length graph) [] vs (λ x c. elim (h.wait_only x c) [ inl o ↦ absurd (nothing ws x e o) | inr o ↦ inr (All-contains (λ g. g < length graph) (calls_in graph f) x a o) ]) (All-nil (λ g. g < length graph));
  reached = λ g m. elim (h.only g m) [ inl o ↦ absurd (none g o) | inr p ↦ by_call f g p.0 ];
  started = h.marked;
  wait_marked = λ g c. elim (h.wait_only g c) [ inl o ↦ absurd (nothing ws g e o) | inr o ↦ h.marked g o ];
  closed = λ g m. elim (h.only g m) [ inl o ↦ absurd (none g o) | inr p ↦ inl p.1 ];
}

reaches_more : (calls : ℕ → List ℕ) (f g h : ℕ) → Reaches calls f g → Contains (calls g) h → Reaches calls f h
reaches_more calls _ _ h (by_call f g c) d = by_calls f g h c (by_call g h d)
reaches_more calls _ _ h (by_calls f x g c r) d = by_calls f x h c (reaches_more calls x g h r d)

still_closed : (graph : List (List ℕ)) (g x : ℕ) (old new : List Bool) (ws vs : List ℕ) → HasMarked (calls_in graph g) old new ws vs
    → Contains (ws ++ g ∷ []) x ⊎ All (IsMarked old) (calls_in graph x) → Contains vs x ⊎ All (IsMarked new) (calls_in graph x)
still_closed graph g x old new ws vs h (inl w) = elim (Contains-push_cases ws g x w) [
  | inl c ↦ inl (h.wait_on x c)
  | inr e ↦ let P : ℕ → Type 0 = λ y. All (IsMarked new) (calls_in graph y) in inr (subst P e (marked_of_all (calls_in graph g) new h.marked))
]
still_closed graph g x old new ws vs h (inr a) = inr (All-weaker (IsMarked old) (IsMarked new) h.kept (calls_in graph x) a)

-- the functions that a waiting one calls were marked
pub marking_goes_on : (graph : List (List ℕ)) (f g : ℕ) (old new : List Bool) (ws vs : List ℕ) → IsMarking graph f old (ws ++ g ∷ [])
    → All (λ h. h < length graph) (calls_in graph g) → HasMarked (calls_in graph g) old new ws vs → IsMarking graph f new vs
marking_goes_on graph f g old new ws vs m a h = record {
  same = h.same ∙ m.same;
  within = all_within (length graph) ws vs (λ x c. elim (h.wait_only x c) [ inl o ↦ inl o | inr o ↦ inr (All-contains (λ y. y < length graph) (calls_in graph g) x a o) ]) (all_front (λ y. y < length graph) ws g m.within);
  reached = λ x n. elim (h.only x n) [
    | inl o ↦ m.reached x o
    | inr p ↦ reaches_more (calls_in graph) f g x (m.reached g (m.wait_marked g (Contains-push ws g))) p.0
  ];
  started = λ x c. h.kept x (m.started x c);
  wait_marked = λ x c. elim (h.wait_only x c) [ inl o ↦ h.kept x (m.wait_marked x (Contains-append_left ws (g ∷ []) x o)) | inr o ↦ h.marked x o ];
  closed = λ x n. elim (h.only x n) [ inl o ↦ still_closed graph g x old new ws vs h (m.closed x o) | inr p ↦ inl p.1 ];
}

closed_reaches : (graph : List (List ℕ)) (marks : List Bool) → ((g : ℕ) → IsMarked marks g → All (IsMarked marks) (calls_in graph g)) → (g h : ℕ) → Reaches (calls_in graph) g h → IsMarked marks g → IsMarked marks h
closed_reaches graph marks closed _ _ (by_call f h c) m = All-contains (IsMarked marks) (calls_in graph f) h (closed f m) c
closed_reaches graph marks closed _ _ (by_calls f g h c r) m = closed_reaches graph marks closed g h r (All-contains (IsMarked marks) (calls_in graph f) g (closed f m) c)

from_start : (graph : List (List ℕ)) (f h : ℕ) (marks : List Bool) → ((g : ℕ) → IsMarked marks g → All (IsMarked marks) (calls_in graph g)) → ((g : ℕ) → Contains (calls_in graph f) g → IsMarked marks g)
    → Reaches (calls_in graph) f h → IsMarked marks h
from_start graph _ _ marks closed started (by_call f h c) = started h c
from_start graph _ _ marks closed started (by_calls f g h c r) = closed_reaches graph marks closed g h r (started g c)

-- nothing waits: what f reaches is marked
pub marking_ends : (graph : List (List ℕ)) (f h : ℕ) (marks : List Bool) (ws : List ℕ) → IsMarking graph f marks ws → ws ≡ [] → Reaches (calls_in graph) f h → IsMarked marks h
marking_ends graph f h marks ws m e r =
    from_start graph f h marks (λ g n. elim (m.closed g n) [ inl w ↦ absurd (nothing ws g e w) | inr a ↦ a ]) m.started r

-- ## What the code needs

pub pushed_mark : (r : Result (Unit {0}) NoMemory) (callees : List ℕ) (old new : List Bool) (ws vs us : List ℕ) → OnOk r (us ≡ vs) → HasMarked callees old new ws vs → OnOk r (HasMarked callees old new ws us)
pushed_mark (Err x) callees old new ws vs us e h = tt
pushed_mark (Ok x) callees old new ws vs us e h = subst (λ (xs : List ℕ). HasMarked callees old new ws xs) (sym e) h

none_marked : (n g : ℕ) → IsMarked (replicate n false) g → ⊥
none_marked zero g m = let bad : false ≡ true = m in cc
none_marked (suc n) zero m = let bad : false ≡ true = m in cc
none_marked (suc n) (suc g) m = none_marked n g m

pub unmarked_none : (n : ℕ) (marks : List Bool) → marks ≡ replicate n false → (g : ℕ) → IsMarked marks g → ⊥
unmarked_none n marks e g m = none_marked n g (subst (λ (ms : List Bool). IsMarked ms g) e m)

-- the first function that reaches itself, behind others that do not
pub first_found : (calls : ℕ → List ℕ) (fs : List ℕ) (i : ℕ) → i < length fs → All (λ f. Reaches calls f f → ⊥) (take i fs) → Reaches calls (get_or fs i 0) (get_or fs i 0) → IsFirstRecursive calls fs (get_or fs i 0)
first_found calls fs i l none r = record {
  before = take i fs;
  after = drop (i + 1) fs;
  stands = sym (take-append-drop i fs) ∙ ap (λ (xs : List ℕ). take i fs ++ xs) (drop_more fs i 0 l);
  recursive = r;
  none_before = none;
}

-- a list from which nothing can be taken
pub empty_by : (ws : List ℕ) (n : ℕ) (Q : Type 0) (P : ℕ → Type 0) (r : Option ℕ) → ((x : ℕ) → r ≡ Some x → ⊥) → MatchOption r ((n ≡ 0) × Q) P → n ≡ length ws → ws ≡ []
empty_by ws n Q P (Some x) no_more m e = absurd (no_more x refl)
empty_by [] n Q P None no_more m e = refl
empty_by (w ∷ ws) n Q P None no_more m e = absurd (omega (arith, m.0, e))

calls_some : (calls : ℕ → List ℕ) (f h : ℕ) → Reaches calls f h → 0 < length (calls f)
calls_some calls _ _ (by_call f h c) = omega (arith, c.1)
calls_some calls _ _ (by_calls f g h c r) = omega (arith, c.1)

-- a function that reaches itself is among the definitions
pub no_cycle : (graph : List (List ℕ)) (definitions : List ℕ) → AreDefinitions graph definitions → All (λ f. Reaches (calls_in graph) f f → ⊥) definitions → HasCycle graph → ⊥
no_cycle graph definitions d none cycle =
    All-contains (λ f. Reaches (calls_in graph) f f → ⊥) definitions cycle.0 none (d.defined cycle.0 (calls_some (calls_in graph) cycle.0 cycle.0 cycle.1)) cycle.1
