use Rattle.std.proofs.Common.{◌≡◌, ℕ, ◌<◌, List, [], ◌∷◌, ◌++◌, length, map, get_or, set, refl, sym, ap, subst, ◌∙◌, arith}
use Rattle.std.proofs.Common.{inl, inr}
use Rattle.std.specs.Vec.{with_item}
use Rattle.std.proofs.lemmas.List.{length-map, get_or_default}
use Rattle.call_graph.specs.declared.searches.Mark.{Mark}
use Rattle.call_graph.specs.declared.searches.Mark.TheVariants as Marks
use Rattle.call_graph.specs.Graphs.{lists}
use Rattle.call_graph.specs.Searches.{IsSearch, mark_of}
use Rattle.call_graph.proofs.SearchSteps.{rooted, met_more, begun_by}
use Rattle.call_graph.proofs.orders.begin.Goals as goal

pub search_on-requires-clause-searching : goal.search_on-requires-clause-searching
search_on-requires-clause-searching c =
    let graph : List (List ℕ) = lists c.args.calls.now in
    let s = c.args.search.now in
    let f : ℕ = c.args.f in
    let count : length graph ≡ length c.args.calls.now = length-map c.args.calls.now (λ v. v.items) in
    let within : f < length graph = omega (arith, c.requires.within) in
    let marked : f < length s.marks.items = omega (arith, c.requires.met.searching.same_marks) in
    let unmet : mark_of s.marks.items f ≡ Marks.New = get_or_default s.marks.items f Marks.New c.index.result.now marked ∙ sym c.index.ensures ∙ c.in-New.is in
    let path : c.push.new.items.items ≡ f ∷ [] = c.in_ok-push-in-New.ensures ∙ ap (λ (p : List ℕ). p ++ f ∷ []) c.requires.met.empty in
    let P : List ℕ → Type 0 = λ p. IsSearch graph (set s.marks.items f Marks.Open) s.taken.items p s.order.items in
    subst P (sym path) (rooted graph s.marks.items s.taken.items s.order.items f c.requires.met.searching within unmet)

pub returns-in_ok-went-in-New : goal.returns-in_ok-went-in-New
returns-in_ok-went-in-New c =
    let graph : List (List ℕ) = lists c.args.calls.now in
    let s = c.args.search.now in
    let f : ℕ = c.args.f in
    let count : length graph ≡ length c.args.calls.now = length-map c.args.calls.now (λ v. v.items) in
    let marked : f < length s.marks.items = omega (arith, c.requires.met.searching.same_marks, c.requires.within) in
    begun_by graph s (record { marks = with_item s.marks f Marks.Open; taken = s.taken; path = c.push.new.items; order = s.order }) c.search_on.new.search f c.in_ok-went-in-New.went marked c.requires.met refl c.in_ok-went-in-New.ensures

pub returns-in-Open : goal.returns-in-Open
returns-in-Open c =
    let graph : List (List ℕ) = lists c.args.calls.now in
    let s = c.args.search.now in
    let f : ℕ = c.args.f in
    let count : length graph ≡ length c.args.calls.now = length-map c.args.calls.now (λ v. v.items) in
    let marked : f < length s.marks.items = omega (arith, c.requires.met.searching.same_marks, c.requires.within) in
    let read : mark_of s.marks.items f ≡ c.index.result.now = get_or_default s.marks.items f Marks.New c.index.result.now marked ∙ sym c.index.ensures in
    met_more graph s f c.requires.met (λ e. elim c.in-Open.is [
      | inl o ↦ let bad : Marks.Open ≡ Marks.New = sym o ∙ sym read ∙ e in cc
      | inr o ↦ let bad : Marks.Done ≡ Marks.New = sym o ∙ sym read ∙ e in cc
    ])
