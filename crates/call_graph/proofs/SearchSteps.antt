-- What each step of a search keeps.
use Rattle.std.proofs.Common.{◌≡◌, ℕ, ◌<◌, ◌≤◌, ◌+◌, zero, suc, List, [], ◌∷◌, ◌++◌, ◌⊎◌, inl, inr, length, get_or, set, take, refl, sym, ap, subst, ◌∙◌, arith, get_or-set_other, get_or-set_same}
use Rattle.tm_lattice.specs.declared.memory.NoMemory.{NoMemory}
use Rattle.std.specs.Prelude.{Bool, true, false, replicate, Result, Ok, Err, IfOk, All, Contains, Option, Some, None, slice_get}
use Rattle.std.proofs.lemmas.Option.{slice_get_cases, slice_get_within, get_or_from_slice_get}
use Rattle.std.proofs.lemmas.Bool.{cases_eq}
use Rattle.std.proofs.lemmas.List.{length-replicate, append-nil, length-set, take_all, append_assoc, length-append, get_or_append_left}
use Rattle.std.proofs.lemmas.List.Elements.{All-contains, Contains-append_left, Contains-push, Contains-push_cases, All-weaker, All-push, All-more, All-nil}
use Rattle.tm_typed.specs.CallGraph.{Reaches, by_call, by_calls, AreBehind, AreCalleesFirst, calls_in}
use Rattle.call_graph.specs.declared.searches.Mark.{Mark}
use Rattle.call_graph.specs.declared.searches.Mark.TheVariants as Marks
use Rattle.call_graph.specs.Graphs.{IsGraph}
use Rattle.call_graph.specs.Searches.{IsSearch, IsSearchOf, IsPath, mark_of, KeepsMet, IsUnmet, IsAllMet, Ends, Begins}
use Rattle.call_graph.specs.Orders.{IsWholeOrder}
use Rattle.call_graph.specs.declared.searches.Search.{Search}
use Rattle.call_graph.proofs.Paths.{path_front, path_push, path_reaches}

-- ## Marks after a write

pub mark-other : (ms : List Mark) (i j : ℕ) (m : Mark) → (j ≡ i → ⊥) → mark_of (set ms i m) j ≡ mark_of ms j
mark-other ms i j m n = get_or-set_other ms i j m Marks.New n

pub mark-same : (ms : List Mark) (i : ℕ) (m : Mark) → i < length ms → mark_of (set ms i m) i ≡ m
mark-same ms i m l = get_or-set_same ms i m Marks.New l

-- ## An order with one more

nil_right : (xs : List ℕ) (x : ℕ) → Contains (xs ++ []) x → Contains xs x
nil_right xs x c = let P : List ℕ → Type 0 = λ ys. Contains ys x in subst P (append-nil xs) c

pushed_before : (xs ys : List ℕ) (g x : ℕ) → Contains (xs ++ g ∷ ys) x → Contains ((xs ++ g ∷ []) ++ ys) x
pushed_before xs ys g x c = let P : List ℕ → Type 0 = λ zs. Contains zs x in subst P (sym (append_assoc xs (g ∷ []) ys)) c

behind_push : (calls : ℕ → List ℕ) (before fs : List ℕ) (f : ℕ) → AreBehind calls before fs → All (Contains (before ++ fs)) (calls f) → AreBehind calls before (fs ++ f ∷ [])
behind_push calls before [] f h a = (All-weaker (Contains (before ++ [])) (Contains before) (nil_right before) (calls f) a, tt)
behind_push calls before (g ∷ fs) f h a = (h.0, behind_push calls (before ++ g ∷ []) fs f h.1 (All-weaker (Contains (before ++ g ∷ fs)) (Contains ((before ++ g ∷ []) ++ fs)) (pushed_before before fs g) (calls f) a))

pub all_front : (P : ℕ → Type 0) (xs : List ℕ) (y : ℕ) → All P (xs ++ y ∷ []) → All P xs
all_front P xs y a = λ k d l. let Q : ℕ → Type 0 = P in subst Q (get_or_append_left xs (y ∷ []) d k l) (a k d (simp length-append (omega arith)))

-- ## The steps

abbrev IsDone : List Mark → ℕ → Type 0
IsDone ms g = mark_of ms g ≡ Marks.Done

-- what is done stays done where another mark is written, or this one is set to done
done_kept : (ms : List Mark) (i : ℕ) (m : Mark) → (mark_of ms i ≡ Marks.Done → ⊥) → (g : ℕ) → IsDone ms g → IsDone (set ms i m) g
done_kept ms i m n g d =
    elim (cases_eq g i) [
      | inl e ↦ absurd (n (ap (mark_of ms) (sym e) ∙ d))
      | inr o ↦ mark-other ms i g m o ∙ d
    ]

done_more : (ms : List Mark) (i : ℕ) → i < length ms → (g : ℕ) → IsDone ms g → IsDone (set ms i Marks.Done) g
done_more ms i l g d =
    elim (cases_eq g i) [
      | inl e ↦ ap (mark_of (set ms i Marks.Done)) e ∙ mark-same ms i Marks.Done l
      | inr o ↦ mark-other ms i g Marks.Done o ∙ d
    ]

pub last_within : (graph : List (List ℕ)) (ms : List Mark) (ts path order : List ℕ) (f : ℕ) → IsSearch graph ms ts (path ++ f ∷ []) order → f < length graph
last_within graph ms ts path order f s = All-contains (λ g. g < length graph) (path ++ f ∷ []) f s.within (Contains-push path f)

calls_done : (graph : List (List ℕ)) (ms : List Mark) (ts path order : List ℕ) (f : ℕ)
    → IsSearch graph ms ts (path ++ f ∷ []) order → length (calls_in graph f) ≤ get_or ts f 0 → All (IsDone ms) (calls_in graph f)
calls_done graph ms ts path order f s l = let P : List ℕ → Type 0 = All (IsDone ms) in subst P (take_all (get_or ts f 0) (calls_in graph f) l) (s.taken_done f)

finished_open : (ms : List Mark) (path : List ℕ) (f g : ℕ) → f < length ms → (mark_of ms g ≡ Marks.Open → Contains (path ++ f ∷ []) g) → mark_of (set ms f Marks.Done) g ≡ Marks.Open → Contains path g
finished_open ms path f g l h o =
    elim (cases_eq g f) [
      | inl e ↦ let q : Marks.Done ≡ Marks.Open = sym (mark-same ms f Marks.Done l) ∙ ap (mark_of (set ms f Marks.Done)) (sym e) ∙ o in cc
      | inr n ↦ elim (Contains-push_cases path f g (h (sym (mark-other ms f g Marks.Done n) ∙ o))) [ inl c ↦ c | inr e ↦ absurd (n (sym e)) ]
    ]

finished_done : (ms : List Mark) (order : List ℕ) (f g : ℕ) → (mark_of ms g ≡ Marks.Done → Contains order g) → mark_of (set ms f Marks.Done) g ≡ Marks.Done → Contains (order ++ f ∷ []) g
finished_done ms order f g h d =
    elim (cases_eq g f) [
      | inl e ↦ let P : ℕ → Type 0 = λ x. Contains (order ++ f ∷ []) x in subst P (sym e) (Contains-push order f)
      | inr n ↦ Contains-append_left order (f ∷ []) g (h (sym (mark-other ms f g Marks.Done n) ∙ d))
    ]

-- the function f, all of whose calls are done, is done
pub finished : (graph : List (List ℕ)) (ms : List Mark) (ts path order : List ℕ) (f : ℕ)
    → IsSearch graph ms ts (path ++ f ∷ []) order → length (calls_in graph f) ≤ get_or ts f 0
    → IsSearch graph (set ms f Marks.Done) ts path (order ++ f ∷ [])
finished graph ms ts path order f s l =
    let in_graph : f < length graph = last_within graph ms ts path order f s in
    let in_marks : f < length ms = omega (arith, s.same_marks) in
    record {
      same_marks = length-set ms f Marks.Done ∙ s.same_marks;
      same_taken = s.same_taken;
      within = all_front (λ g. g < length graph) path f s.within;
      order_within = All-push (λ g. g < length graph) order f s.order_within in_graph;
      chain = path_front (calls_in graph) path f s.chain;
      open_on_path = λ g. finished_open ms path f g in_marks (s.open_on_path g);
      done_in_order = λ g. finished_done ms order f g (s.done_in_order g);
      callees_first = behind_push (calls_in graph) [] order f s.callees_first (All-weaker (IsDone ms) (Contains order) s.done_in_order (calls_in graph f) (calls_done graph ms ts path order f s l));
      taken_done = λ g. All-weaker (IsDone ms) (IsDone (set ms f Marks.Done)) (done_more ms f in_marks) (take (get_or ts g 0) (calls_in graph g)) (s.taken_done g);
    }

one_more_done : (graph : List (List ℕ)) (ms : List Mark) (ts : List ℕ) (f g h : ℕ) → f < length ts → get_or ts f 0 < length (calls_in graph f) → IsDone ms (get_or (calls_in graph f) (get_or ts f 0) g)
    → ((x : ℕ) → All (IsDone ms) (take (get_or ts x 0) (calls_in graph x))) → All (IsDone ms) (take (get_or (set ts f (get_or ts f 0 + 1)) h 0) (calls_in graph h))
one_more_done graph ms ts f g h l t d old =
    elim (cases_eq h f) [
      | inl e ↦
          let P : ℕ → Type 0 = λ x. All (IsDone ms) (take (get_or (set ts f (get_or ts f 0 + 1)) x 0) (calls_in graph x)) in
          let Q : ℕ → Type 0 = λ n. All (IsDone ms) (take n (calls_in graph f)) in
          subst P (sym e) (subst Q (sym (get_or-set_same ts f (get_or ts f 0 + 1) 0 l)) (All-more (IsDone ms) (calls_in graph f) (get_or ts f 0) g t (old f) d))
      | inr n ↦
          let Q : ℕ → Type 0 = λ n. All (IsDone ms) (take n (calls_in graph h)) in
          subst Q (sym (get_or-set_other ts f h (get_or ts f 0 + 1) 0 n)) (old h)
    ]

-- a call of f is done
pub taken_one : (graph : List (List ℕ)) (ms : List Mark) (ts path order : List ℕ) (f g : ℕ)
    → IsSearch graph ms ts (path ++ f ∷ []) order → get_or ts f 0 < length (calls_in graph f) → IsDone ms (get_or (calls_in graph f) (get_or ts f 0) g)
    → IsSearch graph ms (set ts f (get_or ts f 0 + 1)) (path ++ f ∷ []) order
taken_one graph ms ts path order f g s l d =
    let in_taken : f < length ts = omega (arith, s.same_taken, last_within graph ms ts path order f s) in
    record {
      same_marks = s.same_marks;
      same_taken = length-set ts f (get_or ts f 0 + 1) ∙ s.same_taken;
      within = s.within;
      order_within = s.order_within;
      chain = s.chain;
      open_on_path = s.open_on_path;
      done_in_order = s.done_in_order;
      callees_first = s.callees_first;
      taken_done = λ h. one_more_done graph ms ts f g h in_taken l d s.taken_done;
    }

opened_open : (ms : List Mark) (path : List ℕ) (g h : ℕ) → (mark_of ms h ≡ Marks.Open → Contains path h) → mark_of (set ms g Marks.Open) h ≡ Marks.Open → Contains (path ++ g ∷ []) h
opened_open ms path g h old o =
    elim (cases_eq h g) [
      | inl e ↦ let P : ℕ → Type 0 = λ x. Contains (path ++ g ∷ []) x in subst P (sym e) (Contains-push path g)
      | inr n ↦ Contains-append_left path (g ∷ []) h (old (sym (mark-other ms g h Marks.Open n) ∙ o))
    ]

opened_done : (ms : List Mark) (order : List ℕ) (g h : ℕ) → g < length ms → (mark_of ms h ≡ Marks.Done → Contains order h) → mark_of (set ms g Marks.Open) h ≡ Marks.Done → Contains order h
opened_done ms order g h l old d =
    elim (cases_eq h g) [
      | inl e ↦ let q : Marks.Open ≡ Marks.Done = sym (mark-same ms g Marks.Open l) ∙ ap (mark_of (set ms g Marks.Open)) (sym e) ∙ d in cc
      | inr n ↦ old (sym (mark-other ms g h Marks.Open n) ∙ d)
    ]

-- a call of f is of a function that was not met
pub opened : (graph : List (List ℕ)) (ms : List Mark) (ts path order : List ℕ) (f g : ℕ)
    → IsSearch graph ms ts (path ++ f ∷ []) order → Contains (calls_in graph f) g → g < length graph → mark_of ms g ≡ Marks.New
    → IsSearch graph (set ms g Marks.Open) ts ((path ++ f ∷ []) ++ g ∷ []) order
opened graph ms ts path order f g s c l n =
    let in_marks : g < length ms = omega (arith, s.same_marks) in
    record {
      same_marks = length-set ms g Marks.Open ∙ s.same_marks;
      same_taken = s.same_taken;
      order_within = s.order_within;
      callees_first = s.callees_first;
      within = All-push (λ x. x < length graph) (path ++ f ∷ []) g s.within l;
      chain = path_push (calls_in graph) path f g s.chain c;
      open_on_path = λ h. opened_open ms (path ++ f ∷ []) g h (s.open_on_path h);
      done_in_order = λ h. opened_done ms order g h in_marks (s.done_in_order h);
      taken_done = λ h. All-weaker (IsDone ms) (IsDone (set ms g Marks.Open)) (done_kept ms g Marks.Open (λ d. let q : Marks.New ≡ Marks.Done = sym n ∙ d in cc)) (take (get_or ts h 0) (calls_in graph h)) (s.taken_done h);
    }

-- a call of f is of a function that is open
pub found : (graph : List (List ℕ)) (ms : List Mark) (ts path order : List ℕ) (f g : ℕ)
    → IsSearch graph ms ts (path ++ f ∷ []) order → Contains (calls_in graph f) g → mark_of ms g ≡ Marks.Open
    → (h : ℕ) × Reaches (calls_in graph) h h
found graph ms ts path order f g s c o =
    elim (path_reaches (calls_in graph) path f g s.chain (s.open_on_path g o)) [
      | inl e ↦ (f, let P : ℕ → Type 0 = λ x. Reaches (calls_in graph) f x in subst P e (by_call f g c))
      | inr r ↦ (f, by_calls f g f c r)
    ]

-- ## Reads and writes of the code

pub past_end : (xs : List ℕ) (i : ℕ) → slice_get xs i ≡ None → length xs ≤ i
past_end xs i e = elim ((slice_get_cases xs i).1) [ inl (x, l, s, q) ↦ let bad : Some x ≡ None = sym s ∙ e in cc | inr (l, s) ↦ l ]

pub call_taken : (xs : List ℕ) (i x : ℕ) → slice_get xs i ≡ Some x → Contains xs x
call_taken xs i x e = (i, slice_get_within xs i x e, get_or_from_slice_get xs i x x e)

pub kept_by_set : (ms : List Mark) (i : ℕ) (m : Mark) → i < length ms → (m ≡ Marks.New → ⊥) → KeepsMet ms (set ms i m)
kept_by_set ms i m l n = record {
  met = λ f e.
      elim (cases_eq f i) [
        | inl q ↦ absurd (n (sym (mark-same ms i m l) ∙ ap (mark_of (set ms i m)) (sym q) ∙ e))
        | inr o ↦ sym (mark-other ms i f m o) ∙ e
      ];
}

pub met_before : (ms : List Mark) → KeepsMet ms ms
met_before ms = record { met = λ f e. e }

pub met_through : (ms ns os : List Mark) → KeepsMet ms ns → KeepsMet ns os → KeepsMet ms os
met_through ms ns os a b = record { met = λ f e. a.met f (b.met f e) }

-- a call is of one of the functions
pub call_within : (graph : List (List ℕ)) (f g : ℕ) → IsGraph graph → f < length graph → Contains (calls_in graph f) g → g < length graph
call_within graph f g h l c = All-contains (λ x. x < length graph) (calls_in graph f) g (h f [] l) c

-- a search begins at a function that was not met
pub rooted : (graph : List (List ℕ)) (ms : List Mark) (ts order : List ℕ) (f : ℕ) → IsSearch graph ms ts [] order → f < length graph → mark_of ms f ≡ Marks.New
    → IsSearch graph (set ms f Marks.Open) ts (f ∷ []) order
rooted graph ms ts order f s l n =
    let in_marks : f < length ms = omega (arith, s.same_marks) in
    record {
      same_marks = length-set ms f Marks.Open ∙ s.same_marks;
      same_taken = s.same_taken;
      within = All-push (λ x. x < length graph) [] f s.within l;
      order_within = s.order_within;
      chain = tt;
      open_on_path = λ h. opened_open ms [] f h (s.open_on_path h);
      done_in_order = λ h. opened_done ms order f h in_marks (s.done_in_order h);
      callees_first = s.callees_first;
      taken_done = λ h. All-weaker (IsDone ms) (IsDone (set ms f Marks.Open)) (done_kept ms f Marks.Open (λ d. let q : Marks.New ≡ Marks.Done = sym n ∙ d in cc)) (take (get_or ts h 0) (calls_in graph h)) (s.taken_done h);
    }

-- ## Whole searches

done_or_not : (graph : List (List ℕ)) (s : Search) (f : ℕ) → IsSearchOf graph s [] → (mark_of s.marks.items f ≡ Marks.New → ⊥) → (m : Mark) → mark_of s.marks.items f ≡ m → Contains s.order.items f
done_or_not graph s f h met Marks.New e = absurd (met e)
done_or_not graph s f h met Marks.Open e = let none = h.open_on_path f e in absurd (omega (arith, none.1))
done_or_not graph s f h met Marks.Done e = h.done_in_order f e

get_or-replicate_same : {A : Type 0} → (n i : ℕ) (a : A) → get_or (replicate n a) i a ≡ a
get_or-replicate_same zero i a = refl
get_or-replicate_same (suc n) zero a = refl
get_or-replicate_same (suc n) (suc i) a = get_or-replicate_same n i a

unmet_mark : (graph : List (List ℕ)) (s : Search) (f : ℕ) → IsUnmet s (length graph) → mark_of s.marks.items f ≡ Marks.New
unmet_mark graph s f u = ap (λ (ms : List Mark). mark_of ms f) u.0 ∙ get_or-replicate_same (length graph) f Marks.New

untaken : (graph : List (List ℕ)) (s : Search) (f : ℕ) → IsUnmet s (length graph) → get_or s.taken.items f 0 ≡ 0
untaken graph s f u = ap (λ (ts : List ℕ). get_or ts f 0) u.1 ∙ get_or-replicate_same (length graph) f 0

nothing_ordered : (graph : List (List ℕ)) (order : List ℕ) → order ≡ [] → All (λ f. f < length graph) order
nothing_ordered graph order e = subst (λ (o : List ℕ). All (λ f. f < length graph) o) (sym e) (All-nil (λ f. f < length graph))

-- nothing is met
pub unmet_search : (graph : List (List ℕ)) (s : Search) → IsUnmet s (length graph) → IsAllMet graph s 0
unmet_search graph s u = record {
  searching = record {
    same_marks = ap (length {A = Mark}) u.0 ∙ length-replicate (length graph) Marks.New;
    same_taken = ap (length {A = ℕ}) u.1 ∙ length-replicate (length graph) 0;
    within = All-nil (λ f. f < length graph);
    order_within = nothing_ordered graph s.order.items u.3;
    chain = tt;
    open_on_path = λ f e. let q : Marks.New ≡ Marks.Open = sym (unmet_mark graph s f u) ∙ e in cc;
    done_in_order = λ f e. let q : Marks.New ≡ Marks.Done = sym (unmet_mark graph s f u) ∙ e in cc;
    callees_first = subst (λ (o : List ℕ). AreCalleesFirst (calls_in graph) o) (sym u.3) tt;
    taken_done = λ f. subst (λ (n : ℕ). All (IsDone s.marks.items) (take n (calls_in graph f))) (sym (untaken graph s f u)) (All-nil (IsDone s.marks.items));
  };
  empty = u.2;
  met = λ f l. absurd (omega arith);
}

-- all functions are met, and so done
pub all_done : (graph : List (List ℕ)) (s : Search) (n : ℕ) → length graph ≤ n → IsAllMet graph s n → IsWholeOrder graph s.order.items
all_done graph s n b a = record {
  callees_first = a.searching.callees_first;
  within = a.searching.order_within;
  whole = λ f l. done_or_not graph s f a.searching (a.met f (omega arith)) (mark_of s.marks.items f) refl;
}

-- one more function is met
pub met_more : (graph : List (List ℕ)) (s : Search) (n : ℕ) → IsAllMet graph s n → (mark_of s.marks.items n ≡ Marks.New → ⊥) → IsAllMet graph s (n + 1)
met_more graph s n a h = record {
  searching = a.searching;
  empty = a.empty;
  met = λ f l. elim (cases_eq f n) [ inl e ↦ subst (λ (x : ℕ). mark_of s.marks.items x ≡ Marks.New → ⊥) (sym e) h | inr o ↦ a.met f (omega arith) ];
}

opened_met : (marks : List Mark) (n f : ℕ) → n < length marks → ((x : ℕ) → x < n → mark_of marks x ≡ Marks.New → ⊥) → f < n + 1 → mark_of (set marks n Marks.Open) f ≡ Marks.New → ⊥
opened_met marks n f l old b e =
    elim (cases_eq f n) [
      | inl q ↦ let bad : Marks.Open ≡ Marks.New = sym (mark-same marks n Marks.Open l) ∙ ap (mark_of (set marks n Marks.Open)) (sym q) ∙ e in cc
      | inr o ↦ old f (omega arith) (sym (mark-other marks n f Marks.Open o) ∙ e)
    ]

-- the search from a function on has ended
pub begun_by : (graph : List (List ℕ)) (old middle new : Search) (n : ℕ) (went : Bool) → n < length old.marks.items → IsAllMet graph old n → middle.marks.items ≡ set old.marks.items n Marks.Open
    → Ends graph middle new went → Begins graph new (n + 1) went
begun_by graph old middle new n true l a e h = record {
  searching = h.searching;
  empty = h.empty;
  met = λ f b m. opened_met old.marks.items n f l a.met b (ap (λ (ms : List Mark). mark_of ms f) (sym e) ∙ h.kept.met f m);
}
begun_by graph old middle new n false l a e h = h
