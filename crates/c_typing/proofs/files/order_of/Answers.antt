use Rattle.std.proofs.Common.{◌≡◌, ℕ, ◌<◌, List, length, map, sym, subst, ◌∙◌, ap}
use Rattle.std.specs.Prelude.{All, Vec}
use Rattle.std.specs.declared.alloc.Global.{Global}
use Rattle.std.proofs.lemmas.List.{length-map}
use Rattle.tm_trees.specs.FileTrees.{file_tree}
use Rattle.call_graph.specs.Graphs.{lists, IsGraph}
use Rattle.call_graph.specs.Orders.{AreDefinitions}
use Rattle.typing_laws.proofs.Definitions.{calls_are_defined}
use Rattle.typing_laws.proofs.WithinFiles.{calls_within, definitions_within}
use Rattle.c_typing.specs.Views.{found_of}
use Rattle.c_typing.proofs.files.order_of.Goals as goal

pub call_order-requires-clause-graph : goal.call_order-requires-clause-graph
call_order-requires-clause-graph c =
    let P : List (Vec ℕ Global) → Type 0 = λ vs. IsGraph (lists vs) in
    subst P (sym c.deref.ensures.value) (calls_within (file_tree c.args.file.now) (found_of c.args.found.now) c.requires)

pub call_order-requires-clause-within : goal.call_order-requires-clause-within
call_order-requires-clause-within c =
    let calls = c.args.found.now.calls.items in
    let same : length (lists calls) ≡ length c.deref.result.now =
    length-map calls (λ (v : Vec ℕ Global). v.items) ∙ ap (λ (vs : List (Vec ℕ Global)). length vs) (sym c.deref.ensures.value) in
    let P : ℕ → Type 0 = λ n. All (λ k. k < n) c.args.found.now.definitions.items in
    let Q : List ℕ → Type 0 = λ ks. All (λ k. k < length c.deref.result.now) ks in
    subst Q (sym c.deref-2.ensures.value) (subst P same (definitions_within (file_tree c.args.file.now) (found_of c.args.found.now) c.requires))

pub call_order-requires-clause-defined : goal.call_order-requires-clause-defined
call_order-requires-clause-defined c =
    let defined : AreDefinitions (lists c.args.found.now.calls.items) c.args.found.now.definitions.items =
    record { defined = λ k h. calls_are_defined (file_tree c.args.file.now) (found_of c.args.found.now) c.requires k h } in
    let P : List (Vec ℕ Global) → Type 0 = λ vs. AreDefinitions (lists vs) c.args.found.now.definitions.items in
    let Q : List ℕ → Type 0 = λ ks. AreDefinitions (lists c.deref.result.now) ks in
    subst Q (sym c.deref-2.ensures.value) (subst P (sym c.deref.ensures.value) defined)
