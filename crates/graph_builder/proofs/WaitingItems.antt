-- Items that wait.
use Rattle.std.proofs.Common.{◌≡◌, List, [], ◌∷◌, ◌++◌, reverse, ap, sym, ◌∙◌, length, arith}
use Rattle.std.proofs.lemmas.List.{append_assoc, append-nil, reverse-append, reverse-reverse}
use Rattle.tm_laid.specs.Layouts.{LaidTree}
use Rattle.flow_graph.specs.declared.graphs.Edge.{Edge}
use Rattle.flow_graph.specs.Graphs.{Edges}
use Rattle.body_builder.specs.lowering.Built.{Building, path_piece, function_end}
use Rattle.body_builder.specs.declared.fragments.Call.{Call}
use Rattle.body_builder.specs.declared.fragments.Item.{Item}
use Rattle.body_builder.specs.declared.fragments.Item.TheVariants as Items
use Rattle.body_builder.specs.Fragments.{starting, called_edges, edges_of}
use Rattle.body_builder.proofs.Items.{edges_append}

pub of_call : (laid : LaidTree) (c : Call) (b b' : Building) → b ≡ starting c.node c.nodes c.temps
    → b' ≡ (path_piece function_end laid c.depth c.path b).at → b'.edges ≡ called_edges laid c
unfolding called_edges
of_call laid c b b' e f = ap (λ (z : Building). z.edges) f
    ∙ ap (λ (z : Building). (path_piece function_end laid c.depth c.path z).at.edges) e

pub one_back : (is : List Item) (x : Item) → reverse (is ++ x ∷ []) ≡ x ∷ reverse is
one_back is x = reverse-append is (x ∷ [])

-- the items of a call's body, the first of them last, behind those that wait
pub opened : (laid : LaidTree) (c : Call) (is before backwards after : List Item)
    → edges_of laid is ≡ called_edges laid c → backwards ≡ reverse is → after ≡ before ++ backwards
    → edges_of laid (reverse after) ≡ called_edges laid c ++ edges_of laid (reverse before)
opened laid c is before backwards after e r a =
    ap (λ (z : List Item). edges_of laid (reverse z)) (a ∙ ap (λ (z : List Item). before ++ z) r)
    ∙ (ap (edges_of laid)
    (reverse-append before (reverse is) ∙ ap (λ (z : List Item). z ++ reverse before) (reverse-reverse is))
    ∙ (edges_append laid is (reverse before) ∙ ap (λ (z : Edges). z ++ edges_of laid (reverse before)) e))

-- an edge is taken
pub edge_taken : (laid : LaidTree) (e : Edge) (was left : List Item) (es es' w : Edges)
    → was ≡ left ++ Items.Edge e ∷ [] → es' ≡ es ++ e ∷ [] → es ++ edges_of laid (reverse was) ≡ w
    → es' ++ edges_of laid (reverse left) ≡ w
edge_taken laid e was left es es' w p q h =
    ap (λ (z : Edges). z ++ edges_of laid (reverse left)) q
    ∙ (append_assoc es (e ∷ []) (edges_of laid (reverse left))
    ∙ (sym (ap (λ (z : List Item). es ++ edges_of laid z)
    (ap reverse p ∙ one_back left (Items.Edge e))) ∙ h))

-- a call is opened
pub call_opened : (laid : LaidTree) (c : Call) (was left after : List Item) (es w : Edges)
    → was ≡ left ++ Items.Call c ∷ []
    → edges_of laid (reverse after) ≡ called_edges laid c ++ edges_of laid (reverse left)
    → es ++ edges_of laid (reverse was) ≡ w → es ++ edges_of laid (reverse after) ≡ w
call_opened laid c was left after es w p q h =
    ap (λ (z : Edges). es ++ z) q
    ∙ (sym (ap (λ (z : List Item). es ++ edges_of laid z)
    (ap reverse p ∙ one_back left (Items.Call c))) ∙ h)

-- nothing waits any more
pub all_taken : (laid : LaidTree) (was left : List Item) (es w : Edges) → was ≡ left ++ [] → length left ≡ 0
    → es ++ edges_of laid (reverse was) ≡ w → es ≡ w
all_taken laid was [] es w p z h =
    sym (append-nil es) ∙ (sym (ap (λ (y : List Item). es ++ edges_of laid (reverse y)) p) ∙ h)
all_taken laid was (i ∷ left) es w p z h = absurd (omega (arith, z))

-- in the beginning all wait
pub all_wait : (laid : LaidTree) (is was : List Item) → was ≡ reverse is
    → edges_of laid (reverse was) ≡ edges_of laid is
all_wait laid is was p = ap (λ (z : List Item). edges_of laid (reverse z)) p ∙ ap (edges_of laid) (reverse-reverse is)
