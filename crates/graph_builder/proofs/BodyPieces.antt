-- The body of a function, and how the code builds it.
use Rattle.std.proofs.Common.{◌≡◌, ◌<◌, ℕ, ◌+◌, refl, sym, ap, ◌∙◌, List, [], ◌∷◌, ◌++◌, length, drop, get_or, map}
use Rattle.std.proofs.Common.{false}
use Rattle.std.specs.Prelude.{Option, Some, None, option_map, if◌then◌else◌}
use Rattle.std.proofs.lemmas.List.{append_assoc, append-nil, drop_more}
use Rattle.tm_cint.specs.declared.int_types.IntType.{IntType}
use Rattle.tm_cint.specs.IntTypes.{lo_of, hi_of}
use Rattle.tm_typed.specs.declared.types.Qualified.{Qualified}
use Rattle.tm_typed.specs.declared.types.CType.{CType}
use Rattle.tm_typed.specs.declared.types.CType.TheVariants as Types
use Rattle.tm_typed.specs.Functions.{TypedBodyTree}
use Rattle.tm_laid.specs.Layouts.{LaidTree}
use Rattle.concrete_values.specs.Values.{nothing}
use Rattle.flow_graph.specs.declared.operations.Operation.{Operation}
use Rattle.flow_graph.specs.declared.operations.Operation.TheVariants as Op
use Rattle.body_builder.specs.lowering.Built.{Building, Sites, result_of, fallen_piece, place_result}
use Rattle.body_builder.specs.lowering.Built.{function_piece}
use Rattle.body_builder.specs.lowering.Built.{ByReturn, is_return, nodes_by}
use Rattle.statement_builder.specs.declared.passed.Pending.{Pending}
use Rattle.statement_builder.specs.Waiting.{way_of, waiting}
use Rattle.graph_builder.specs.reading.Bodies.{result_placed, ended, body_piece}

placed_as : (known : Option ℕ) (op : ℕ → Operation) (b : Building)
    → result_placed known (op (result_of known b)) b ≡ place_result known op b
unfolding result_placed
placed_as None op b = refl
placed_as (Some r) op b = refl

pub any_placed : (t : CType) (of : IntType) (known : Option ℕ) (temp : ℕ) (op : Operation) (b w : Building)
    → t ≡ Types.Int of → temp ≡ result_of known b → op ≡ Op.Any temp (lo_of of) (hi_of of)
    → w ≡ result_placed known op b → w ≡ fallen_piece t known b
any_placed t of known temp op b w is k o e =
    e ∙ (ap (λ (x : Operation). result_placed known x b) o
    ∙ (ap (λ n. result_placed known (Op.Any n (lo_of of) (hi_of of)) b) k
    ∙ (placed_as known (λ r. Op.Any r (lo_of of) (hi_of of)) b ∙ sym (ap (λ y. fallen_piece y known b) is))))

pub pointer_placed : (t : CType) (q : Qualified) (known : Option ℕ) (temp : ℕ) (b w : Building)
    → t ≡ Types.Pointer q → temp ≡ result_of known b → w ≡ result_placed known (Op.Const temp nothing) b
    → w ≡ fallen_piece t known b
pointer_placed t q known temp b w is k e =
    e ∙ (ap (λ n. result_placed known (Op.Const n nothing) b) k
    ∙ (placed_as known (λ r. Op.Const r nothing) b ∙ sym (ap (λ y. fallen_piece y known b) is)))

-- the statements of a body are all that is built of it
pub by_statements : (call : Sites) (laid : LaidTree) (path : ℕ) (close : List ℕ → Building → Building)
    (t : CType) (body : Option TypedBodyTree) (b : Building)
    → function_piece call laid path close t body b
    ≡ body_piece call laid path close t (option_map (λ z. z.statements) body) b
unfolding body_piece ended
by_statements call laid path close t None b = refl
by_statements call laid path close t (Some body) b = refl

-- ## Nodes that return

-- the nodes of those from this one on, of which this one returns, or does not
returns_first : (p : Pending) (ps : List Pending) → way_of p.way ≡ ByReturn
    → nodes_by is_return (map waiting (p ∷ ps)) ≡ p.node ∷ nodes_by is_return (map waiting ps)
returns_first p ps e = ap
    (λ w. if is_return w then p.node ∷ nodes_by is_return (map waiting ps) else nodes_by is_return (map waiting ps)) e

passes_first : (p : Pending) (ps : List Pending) → is_return (way_of p.way) ≡ false
    → nodes_by is_return (map waiting (p ∷ ps)) ≡ nodes_by is_return (map waiting ps)
passes_first p ps e = ap
    (λ w. if w then p.node ∷ nodes_by is_return (map waiting ps) else nodes_by is_return (map waiting ps)) e

-- one more that returns
pub one_returns : (ps : List Pending) (i : ℕ) (d : Pending) (ns ms w : List ℕ) → i < length ps
    → way_of (get_or ps i d).way ≡ ByReturn → ms ≡ ns ++ (get_or ps i d).node ∷ []
    → ns ++ nodes_by is_return (map waiting (drop i ps)) ≡ w
    → ms ++ nodes_by is_return (map waiting (drop (i + 1) ps)) ≡ w
one_returns ps i d ns ms w lt e m h =
    let rest = nodes_by is_return (map waiting (drop (i + 1) ps)) in
    ap (λ (z : List ℕ). z ++ rest) m
    ∙ (append_assoc ns ((get_or ps i d).node ∷ []) rest
    ∙ (ap (λ (z : List ℕ). ns ++ z) (sym (returns_first (get_or ps i d) (drop (i + 1) ps) e))
    ∙ (sym (ap (λ (ys : List Pending). ns ++ nodes_by is_return (map waiting ys)) (drop_more ps i d lt)) ∙ h)))

-- one more that does not
pub one_passes : (ps : List Pending) (i : ℕ) (d : Pending) (ns w : List ℕ) → i < length ps
    → is_return (way_of (get_or ps i d).way) ≡ false
    → ns ++ nodes_by is_return (map waiting (drop i ps)) ≡ w
    → ns ++ nodes_by is_return (map waiting (drop (i + 1) ps)) ≡ w
one_passes ps i d ns w lt e h =
    ap (λ (z : List ℕ). ns ++ z) (sym (passes_first (get_or ps i d) (drop (i + 1) ps) e))
    ∙ (sym (ap (λ (ys : List Pending). ns ++ nodes_by is_return (map waiting ys)) (drop_more ps i d lt)) ∙ h)

pub none_left : (ns : List ℕ) → ns ++ [] ≡ ns
none_left ns = append-nil ns
