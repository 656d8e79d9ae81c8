use Rattle.std.proofs.Common.{◌≡◌, ℕ, ◌<◌, ◌≤◌, ◌+◌, List, [], ◌∷◌, ◌++◌, length, get_or, set, sym, ap, subst, ◌∙◌, arith}
use Rattle.std.specs.Prelude.{All, Contains, Option, Some, None, slice_get}
use Rattle.std.proofs.lemmas.List.{get_or_default, length-append}
use Rattle.std.proofs.lemmas.List.Elements.{All-contains}
use Rattle.std.proofs.lemmas.Option.{get_or_from_slice_get, slice_get_within}
use Rattle.call_graph.specs.declared.searches.Mark.{Mark}
use Rattle.call_graph.specs.declared.searches.Mark.TheVariants as Marks
use Rattle.tm_typed.specs.CallGraph.{calls_in}
use Rattle.call_graph.specs.Graphs.{lists}
use Rattle.call_graph.specs.Searches.{IsSearch, IsSearchOf, mark_of, pending}
use Rattle.call_graph.proofs.Works.{pending-open, pending-done, pending-taken}
use Rattle.call_graph.proofs.SearchSteps.{finished, taken_one, opened, found, past_end, call_taken, kept_by_set, met_before, last_within, call_within}
use Rattle.call_graph.proofs.searches.step.Goals as goal

pub returns-in_ok-push-in-None : goal.returns-in_ok-push-in-None
returns-in_ok-push-in-None c =
    let graph : List (List ℕ) = lists c.args.calls.now in
    let s = c.args.search.now in
    let f : ℕ = c.args.f in
    let in_graph : f < length graph = last_within graph s.marks.items s.taken.items s.path.items s.order.items f c.requires.searching in
    let in_marks : f < length s.marks.items = omega (arith, c.requires.searching.same_marks) in
    let in_taken : f < length s.taken.items = omega (arith, c.requires.searching.same_taken) in
    let taken : get_or s.taken.items f 0 ≡ c.index-taken.result.now = get_or_default s.taken.items f 0 c.index-taken.result.now in_taken ∙ sym c.index-taken.ensures in
    let past : length (calls_in graph f) ≤ c.index-taken.result.now = past_end (calls_in graph f) c.index-taken.result.now (sym c.call_at.ensures.call ∙ c.in-None.is) in
    let P : List ℕ → Type 0 = λ o. IsSearch graph (set s.marks.items f Marks.Done) s.taken.items s.path.items o in
    record {
      searching = subst P (sym c.in_ok-push-in-None.ensures) (finished graph s.marks.items s.taken.items s.path.items s.order.items f c.requires.searching (omega arith));
      less = omega (arith, pending-done s.marks.items s.taken.items graph f);
      kept = kept_by_set s.marks.items f Marks.Done in_marks (λ e. cc);
    }

pub returns-in_ok-push-in-Done : goal.returns-in_ok-push-in-Done
returns-in_ok-push-in-Done c =
    let graph : List (List ℕ) = lists c.args.calls.now in
    let s = c.args.search.now in
    let f : ℕ = c.args.f in
    let g : ℕ = c.in-Some.g in
    let t : ℕ = c.index-taken.result.now in
    let in_graph : f < length graph = last_within graph s.marks.items s.taken.items s.path.items s.order.items f c.requires.searching in
    let in_taken : f < length s.taken.items = omega (arith, c.requires.searching.same_taken) in
    let taken : get_or s.taken.items f 0 ≡ t = get_or_default s.taken.items f 0 t in_taken ∙ sym c.index-taken.ensures in
    let read : slice_get (calls_in graph f) t ≡ Some g = sym c.call_at.ensures.call ∙ c.in-Some.is in
    let g_within : g < length graph = call_within graph f g c.requires.graph in_graph (call_taken (calls_in graph f) t g read) in
    let done : mark_of s.marks.items g ≡ Marks.Done = get_or_default s.marks.items g Marks.New c.index.result.now (omega (arith, c.requires.searching.same_marks)) ∙ sym c.index.ensures ∙ c.in-Done.is in
    let T : ℕ → Type 0 = λ n. get_or s.taken.items f 0 ≡ n in
    let within : get_or s.taken.items f 0 < length (calls_in graph f) = omega (arith, slice_get_within (calls_in graph f) t g read) in
    let this : mark_of s.marks.items (get_or (calls_in graph f) (get_or s.taken.items f 0) g) ≡ Marks.Done = ap (mark_of s.marks.items) (ap (λ (n : ℕ). get_or (calls_in graph f) n g) taken ∙ get_or_from_slice_get (calls_in graph f) t g g read) ∙ done in
    let P : List ℕ → Type 0 = λ p. IsSearch graph s.marks.items (set s.taken.items f (t + 1)) p s.order.items in
    let Q : ℕ → Type 0 = λ n. IsSearch graph s.marks.items (set s.taken.items f (n + 1)) (s.path.items ++ f ∷ []) s.order.items in
    let R : ℕ → Type 0 = λ n. pending s.marks.items (set s.taken.items f (n + 1)) graph + 1 ≡ pending s.marks.items s.taken.items graph in
    let less : pending s.marks.items (set s.taken.items f (t + 1)) graph + 1 ≡ pending s.marks.items s.taken.items graph = subst R taken (pending-taken s.marks.items s.taken.items graph f in_graph c.requires.searching.same_marks c.requires.searching.same_taken within) in
    record {
      searching = subst P (sym c.in_ok-push-in-Done.ensures) (subst Q taken (taken_one graph s.marks.items s.taken.items s.path.items s.order.items f g c.requires.searching within this));
      less = rw c.in_ok-push-in-Done.ensures (omega (arith, less, length-append s.path.items (f ∷ [])));
      kept = met_before s.marks.items;
    }

pub returns-in_ok-push-in-New-2 : goal.returns-in_ok-push-in-New-2
returns-in_ok-push-in-New-2 c =
    let graph : List (List ℕ) = lists c.args.calls.now in
    let s = c.args.search.now in
    let f : ℕ = c.args.f in
    let g : ℕ = c.in-Some.g in
    let t : ℕ = c.index-taken.result.now in
    let in_graph : f < length graph = last_within graph s.marks.items s.taken.items s.path.items s.order.items f c.requires.searching in
    let read : slice_get (calls_in graph f) t ≡ Some g = sym c.call_at.ensures.call ∙ c.in-Some.is in
    let call : Contains (calls_in graph f) g = call_taken (calls_in graph f) t g read in
    let g_within : g < length graph = call_within graph f g c.requires.graph in_graph call in
    let g_marked : g < length s.marks.items = omega (arith, c.requires.searching.same_marks) in
    let unmet : mark_of s.marks.items g ≡ Marks.New = get_or_default s.marks.items g Marks.New c.index.result.now g_marked ∙ sym c.index.ensures ∙ c.in-New.is in
    let P : List ℕ → Type 0 = λ p. IsSearch graph (set s.marks.items g Marks.Open) s.taken.items p s.order.items in
    let path : c.push-in-New-2.new.items.items ≡ (s.path.items ++ f ∷ []) ++ g ∷ [] = c.in_ok-push-in-New-2.ensures ∙ ap (λ (p : List ℕ). p ++ g ∷ []) c.in_ok-push-in-New.ensures in
    record {
      searching = subst P (sym path) (opened graph s.marks.items s.taken.items s.path.items s.order.items f g c.requires.searching call g_within unmet);
      less = rw path (omega (arith, pending-open s.marks.items s.taken.items graph g g_within c.requires.searching.same_marks c.requires.searching.same_taken unmet, length-append (s.path.items ++ f ∷ []) (g ∷ []), length-append s.path.items (f ∷ [])));
      kept = kept_by_set s.marks.items g Marks.Open g_marked (λ e. cc);
    }

pub returns-in-Open : goal.returns-in-Open
returns-in-Open c =
    let graph : List (List ℕ) = lists c.args.calls.now in
    let s = c.args.search.now in
    let f : ℕ = c.args.f in
    let g : ℕ = c.in-Some.g in
    let t : ℕ = c.index-taken.result.now in
    let in_graph : f < length graph = last_within graph s.marks.items s.taken.items s.path.items s.order.items f c.requires.searching in
    let call : Contains (calls_in graph f) g = call_taken (calls_in graph f) t g (sym c.call_at.ensures.call ∙ c.in-Some.is) in
    let g_within : g < length graph = call_within graph f g c.requires.graph in_graph call in
    let open_mark : mark_of s.marks.items g ≡ Marks.Open = get_or_default s.marks.items g Marks.New c.index.result.now (omega (arith, c.requires.searching.same_marks)) ∙ sym c.index.ensures ∙ c.in-Open.is in
    found graph s.marks.items s.taken.items s.path.items s.order.items f g c.requires.searching call open_mark
