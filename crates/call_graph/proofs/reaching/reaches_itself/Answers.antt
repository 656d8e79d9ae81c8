use Rattle.std.proofs.Common.{◌≡◌, ℕ, ◌<◌, ◌+◌, List, [], ◌∷◌, ◌++◌, length, map, get_or, true, false, sym, ap, subst, ◌∙◌, arith}
use Rattle.std.specs.Prelude.{All, Contains, replicate}
use Rattle.std.proofs.lemmas.List.{length-map, length-replicate, get_or_default}
use Rattle.std.proofs.lemmas.List.Elements.{All-contains, Contains-push}
use Rattle.tm_typed.specs.CallGraph.{calls_in}
use Rattle.call_graph.specs.Graphs.{lists}
use Rattle.call_graph.specs.Reaching.{IsMarking, HasMarked}
use Rattle.call_graph.proofs.Marking.{marking_begins, marking_goes_on, marking_ends, unmarked_none, empty_by}
use Rattle.call_graph.proofs.reaching.reaches_itself.Goals as goal

pub loop-g-init : goal.loop-g-init
loop-g-init c =
    let graph : List (List ℕ) = lists c.args.calls.now in
    let f : ℕ = c.args.f in
    let count : length graph ≡ length c.args.calls.now = length-map c.args.calls.now (λ v. v.items) in
    let marks = c.in_ok-marks.marks.items in
    let unmarked : marks ≡ replicate (length c.args.calls.now) false = c.in_ok-marks.ensures in
    let same : length marks ≡ length graph = ap length unmarked ∙ length-replicate (length c.args.calls.now) false ∙ sym count in
    let H : List ℕ → Type 0 = λ cs. HasMarked cs marks c.mark_all.new.marks.items c.new-waiting.result.items c.mark_all.new.waiting.items in
    marking_begins graph f marks c.mark_all.new.marks.items c.new-waiting.result.items c.mark_all.new.waiting.items same (unmarked_none (length c.args.calls.now) marks unmarked) c.new-waiting.ensures.items
    (c.requires.graph f [] (omega (arith, c.requires.within))) (subst H c.calls_of.ensures c.in_ok-mark_all.ensures)

pub calls_of-requires-in-Some : goal.calls_of-requires-in-Some
calls_of-requires-in-Some c =
    let graph : List (List ℕ) = lists c.args.calls.now in
    let count : length graph ≡ length c.args.calls.now = length-map c.args.calls.now (λ v. v.items) in
    let P : List ℕ → Type 0 = All (λ g. g < length graph) in
    let within : c.in-Some.g < length graph = All-contains (λ g. g < length graph) (c.pop.new.self.items ++ c.in-Some.g ∷ []) c.in-Some.g (subst P c.in-Some.ensures.items c.loop-g.invariant.within) (Contains-push c.pop.new.self.items c.in-Some.g) in
    omega (arith, within, count)

pub loop-g-preserved : goal.loop-g-preserved
loop-g-preserved c =
    let graph : List (List ℕ) = lists c.args.calls.now in
    let g : ℕ = c.in-Some.g in
    let ws = c.pop.new.self.items in
    let M : List ℕ → Type 0 = λ w. IsMarking graph c.args.f c.loop-g.marks.items w in
    let marking : IsMarking graph c.args.f c.loop-g.marks.items (ws ++ g ∷ []) = subst M c.in-Some.ensures.items c.loop-g.invariant in
    let within : g < length graph = All-contains (λ x. x < length graph) (ws ++ g ∷ []) g marking.within (Contains-push ws g) in
    let H : List ℕ → Type 0 = λ cs. HasMarked cs c.loop-g.marks.items c.mark_all-in-Some.new.marks.items ws c.mark_all-in-Some.new.waiting.items in
    marking_goes_on graph c.args.f g c.loop-g.marks.items c.mark_all-in-Some.new.marks.items ws c.mark_all-in-Some.new.waiting.items marking
    (c.requires.graph g [] within) (subst H c.calls_of-in-Some.ensures c.in_ok-mark_all-2.ensures)

pub returns : goal.returns
returns c =
    let graph : List (List ℕ) = lists c.args.calls.now in
    let f : ℕ = c.args.f in
    let marks = c.loop-g.marks.items in
    let count : length graph ≡ length c.args.calls.now = length-map c.args.calls.now (λ v. v.items) in
    let within : f < length marks = omega (arith, c.loop-g.invariant.same, c.requires.within) in
    let read : get_or marks f false ≡ c.index.result.now = get_or_default marks f false c.index.result.now within ∙ sym c.index.ensures in
    let empty : c.loop-g.waiting.items ≡ [] = empty_by c.loop-g.waiting.items c.loop-g.waiting.len (c.pop.new.self.len ≡ 0) (λ (x : ℕ). c.pop.new.self.len + 1 ≡ c.loop-g.waiting.len) c.pop.result c.in_default.not-Some c.pop.ensures.cases c.loop-g.waiting.ok.0 in
    (λ t. c.loop-g.invariant.reached f (read ∙ t), λ r. sym read ∙ marking_ends graph f f marks c.loop-g.waiting.items c.loop-g.invariant empty r)
