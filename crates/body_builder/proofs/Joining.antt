-- The body of a call stands in its place as it stands alone.
use Rattle.std.proofs.Common.{◌≡◌, ℕ, zero, suc, ◌+◌, List, ◌∷◌, ◌++◌, refl, sym, ap, ◌∙◌, arith, ◌<◌, length, drop, get_or}
use Rattle.std.specs.Prelude.{Option, Some, None, option_map}
use Rattle.std.proofs.lemmas.List.{append-nil, drop_more}
use Rattle.tm_terms.specs.declared.places.Place.{Place}
use Rattle.tm_typed.specs.declared.scopes.ObjectNumber.TheVariants as Numbers
use Rattle.tm_typed.specs.Functions.{TypedBodyTree}
use Rattle.tm_laid.specs.Layouts.{LaidTree, object_of}
use Rattle.lowering.specs.concrete_steps.Places.{result_type}
use Rattle.lowering.specs.concrete_steps.NextAction.{function_at}
use Rattle.flow_graph.specs.Graphs.{Edges}
use Rattle.lowering.specs.Built.{Building, AfterPart, stores_piece, function_end, function_piece, sites_of}
use Rattle.lowering.specs.Built.{path_piece}
use Rattle.body_builder.specs.declared.fragments.Call.{Call}
use Rattle.body_builder.specs.declared.fragments.Size.{Size}
use Rattle.body_builder.specs.Fragments.{starting, called_edges, IsPart, IsSize, with_call}
use Rattle.body_builder.specs.reading.Expressions.{argument_stored}
use Rattle.body_builder.specs.Placing.{new_value}
use Rattle.body_builder.proofs.Prefixes.{before, path_before}
use Rattle.body_builder.proofs.Sizes.{Further, PartFurther, path_further}

pub stores_step : (laid : LaidTree) (path k t : ℕ) (ts : List ℕ) (p : Place) (b : Building)
    → stores_piece laid path k (t ∷ ts) p b ≡ stores_piece laid path (suc k) ts p
    (argument_stored laid (object_of laid path (Numbers.Local k)) t p b)
unfolding argument_stored new_value
stores_step laid path k t ts p b = refl

-- the last node is the present one
last_node : (laid : LaidTree) (depth path : ℕ) (b : Building)
    → suc (path_piece function_end laid depth path b).at.node ≡ (path_piece function_end laid depth path b).at.nodes
last_node laid zero path b = refl
last_node laid (suc depth) path b = by_body (function_at laid path).body where
  by_body : (body : Option TypedBodyTree)
      → suc (function_piece (sites_of laid (path_piece function_end laid depth) path) laid path function_end
      (result_type laid (function_at laid path)) body b).at.node
      ≡ (function_piece (sites_of laid (path_piece function_end laid depth) path) laid path function_end
      (result_type laid (function_at laid path)) body b).at.nodes
  by_body None = refl
  by_body (Some body) = refl

same_building : {b c : Building} → b.edges ≡ c.edges → b.node ≡ c.node → b.nodes ≡ c.nodes → b.temps ≡ c.temps → b ≡ c
same_building {b} {c} e n m t = ap (λ (es : Edges). let r : Building = record
    { edges = es; node = b.node; nodes = b.nodes; temps = b.temps } in r) e
    ∙ (ap (λ (k : ℕ). let r : Building = record
    { edges = c.edges; node = k; nodes = b.nodes; temps = b.temps } in r) n
    ∙ (ap (λ (k : ℕ). let r : Building = record
    { edges = c.edges; node = c.node; nodes = k; temps = b.temps } in r) m
    ∙ ap (λ (k : ℕ). let r : Building = record
    { edges = c.edges; node = c.node; nodes = c.nodes; temps = k } in r) t))

-- the body of a path behind what is built, by its size
pub joined : (laid : LaidTree) (path : ℕ) (s : Size) (b : Building) (c : Call) (node nodes temps : ℕ) (t : Option ℕ)
    → IsSize laid path s → c.path ≡ path → c.depth ≡ s.depth → c.node ≡ b.node → c.nodes ≡ b.nodes
    → c.temps ≡ b.temps → nodes ≡ b.nodes + s.nodes → temps ≡ b.temps + s.temps → node + 1 ≡ nodes
    → t ≡ option_map (λ r. b.temps + r) s.result
    → IsPart (path_piece function_end laid s.depth path b) (with_call laid c node nodes temps b) t
unfolding with_call called_edges
joined laid path s b c node nodes temps t h cp cd cn cm ct en et el er =
    let f = path_piece function_end laid s.depth path in
    let x = f b in
    let alone = f (starting b.node b.nodes b.temps) in
    let zeros = starting 0 0 0 in
    let further : Further b.nodes b.temps zeros b = record { nodes = omega arith; temps = omega arith } in
    let size : PartFurther b.nodes b.temps (f zeros) x = path_further b.nodes b.temps laid s.depth path further in
    let behind_nil : before b.edges (starting b.node b.nodes b.temps) ≡ b = ap
    (λ (es : Edges). let r : Building = record { edges = es; node = b.node; nodes = b.nodes; temps = b.temps } in r)
    (append-nil b.edges) in
    let edges : x.at.edges ≡ b.edges ++ alone.at.edges = ap (λ (z : Building). (f z).at.edges) (sym behind_nil)
    ∙ ap (λ (y : AfterPart). y.at.edges) (path_before b.edges laid s.depth path (starting b.node b.nodes b.temps)) in
    let same : called_edges laid c ≡ alone.at.edges =
    ap (λ k. (path_piece function_end laid k c.path (starting c.node c.nodes c.temps)).at.edges) cd
    ∙ (ap (λ k. (path_piece function_end laid s.depth k (starting c.node c.nodes c.temps)).at.edges) cp
    ∙ (ap (λ k. (f (starting k c.nodes c.temps)).at.edges) cn
    ∙ (ap (λ k. (f (starting b.node k c.temps)).at.edges) cm
    ∙ ap (λ k. (f (starting b.node b.nodes k)).at.edges) ct))) in
    let all : x.at.nodes ≡ nodes = size.at.nodes ∙ (ap (λ k. b.nodes + k) h.0 ∙ sym en) in
    let last : suc x.at.node ≡ x.at.nodes = last_node laid s.depth path b in (
      same_building (ap (λ z. b.edges ++ z) same ∙ sym edges) (omega (arith, all, last, el)) (sym all)
          (et ∙ (sym (ap (λ k. b.temps + k) h.1) ∙ sym size.at.temps)),
      er ∙ (sym (ap (λ r. option_map (λ k. b.temps + k) r) h.2) ∙ sym size.temp),
    )

-- one more argument is stored
pub stores_more : (laid : LaidTree) (path k k' i o : ℕ) (xs : List ℕ) (p : Place) (b b1 w : Building) → i < length xs
    → o ≡ object_of laid path (Numbers.Local k) → b1 ≡ argument_stored laid o (get_or xs i 0) p b → k' ≡ k + 1
    → stores_piece laid path k (drop i xs) p b ≡ w → stores_piece laid path k' (drop (i + 1) xs) p b1 ≡ w
stores_more laid path k k' i o xs p b b1 w lt eo eb ek h =
    let next : k' ≡ suc k = omega (arith, ek) in
    ap (λ j. stores_piece laid path j (drop (i + 1) xs) p b1) next
    ∙ (ap (λ (z : Building). stores_piece laid path (suc k) (drop (i + 1) xs) p z)
    (eb ∙ ap (λ j. argument_stored laid j (get_or xs i 0) p b) eo)
    ∙ (sym (stores_step laid path k (get_or xs i 0) (drop (i + 1) xs) p b)
    ∙ (sym (ap (λ (ys : List ℕ). stores_piece laid path k ys p b) (drop_more xs i 0 lt)) ∙ h)))
