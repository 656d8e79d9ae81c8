-- Items and the edges for which they stand.
use Rattle.std.proofs.Common.{◌≡◌, List, [], ◌∷◌, ◌++◌, refl, sym, ap, ◌∙◌}
use Rattle.std.proofs.lemmas.List.{append_assoc, append-nil}
use Rattle.tm_laid.specs.Layouts.{LaidTree}
use Rattle.flow_graph.specs.declared.graphs.Edge.{Edge}
use Rattle.body_builder.specs.declared.fragments.Call.{Call}
use Rattle.body_builder.specs.declared.fragments.Item.{Item}
use Rattle.body_builder.specs.declared.fragments.Item.TheVariants as Items
use Rattle.body_builder.specs.Fragments.{called_edges, edges_of}

pub edges_append : (laid : LaidTree) (xs ys : List Item) → edges_of laid (xs ++ ys) ≡ edges_of laid xs ++ edges_of laid ys
edges_append laid [] ys = refl
edges_append laid (Items.Edge e ∷ xs) ys = ap (λ z. e ∷ z) (edges_append laid xs ys)
edges_append laid (Items.Call c ∷ xs) ys =
    ap (λ z. called_edges laid c ++ z) (edges_append laid xs ys)
    ∙ sym (append_assoc (called_edges laid c) (edges_of laid xs) (edges_of laid ys))

pub edge_behind : (laid : LaidTree) (xs : List Item) (e : Edge)
    → edges_of laid (xs ++ Items.Edge e ∷ []) ≡ edges_of laid xs ++ e ∷ []
edge_behind laid xs e = edges_append laid xs (Items.Edge e ∷ [])

pub call_behind : (laid : LaidTree) (xs : List Item) (c : Call)
    → edges_of laid (xs ++ Items.Call c ∷ []) ≡ edges_of laid xs ++ called_edges laid c
call_behind laid xs c = edges_append laid xs (Items.Call c ∷ []) ∙ ap (λ z. edges_of laid xs ++ z)
    (append-nil (called_edges laid c))
