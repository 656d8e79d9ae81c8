-- The graphs of a file that is typed and laid out have sorts, and their copies are settled.
use Rattle.std.proofs.Common.{◌≡◌, sym, subst, ℕ, ◌<◌, ◌≤◌, false, List, length, arith}
use Rattle.std.specs.Prelude.{Option, Ok}
use Rattle.std.proofs.lemmas.Option.{slice_get_within}
use Rattle.temporary_types.specs.tm_terms.declared.refusals.Limit.TheVariants as Limits
use Rattle.temporary_types.specs.tm_terms.declared.tokens.Name.{Name}
use Rattle.temporary_types.specs.tm_trees.FileTrees.{ItemTree}
use Rattle.temporary_types.specs.tm_typed.Files.{TypedFileTree, IsTyped}
use Rattle.temporary_types.specs.tm_laid.declared.scales.Scale.TheVariants as Scales
use Rattle.temporary_types.specs.tm_laid.Layouts.{LaidTree, layout_of, is_exceeded}
use Rattle.next_action_laws.proofs.low.typed_file_laws.TypedBodies.{bodies_are_well_formed}
use Rattle.next_action_laws.proofs.low.typed_file_laws.MentionFiles.{sites_stand}
use Rattle.lowering_laws.specs.lowering.Built.{built, graph_of}
use Rattle.next_action_laws.proofs.Answered.{comes_out}
use Rattle.next_action_laws.proofs.RegularFiles.{bodies_are_regular}
use Rattle.lowering_laws.specs.LaidFiles.{IsLaidFile}
use Rattle.lowering_laws.proofs.Founded.{file_layable}
use Rattle.lowering_laws.proofs.Lowered.{is_layout}
use Rattle.lowering_laws.proofs.TableGraphs.{few_mutexes}
use Rattle.temporary_types.specs.PointerMarks.{pointer_marks, Tells}
use Rattle.temporary_types.specs.Settled.{AreSettled}
use Rattle.temporary_types.proofs.Telling.{told}
use Rattle.operation_laws.specs.SortedGraphs.{HasSorts}
use Rattle.operation_laws.proofs.Following.{Follows}
use Rattle.operation_laws.proofs.BodySorts.{graph_sorts}

-- ## A layout does not exceed its limit of cells

pub few_cells : (laid : LaidTree) → (h : IsLaidFile laid) → is_exceeded Scales.Large h.file Limits.Cells ≡ false
few_cells laid h = (comes_out h.scale h.file laid h.answered).within

-- ## Files

-- the temporaries of the graph of a body have sorts and are given, and copies follow what gives their sources, and are
-- settled
abbrev IsSorted : LaidTree → ℕ → Type 0
IsSorted laid body = HasSorts laid (built laid body).temps (graph_of laid body)
    × Follows (built laid body).temps (graph_of laid body) × AreSettled (graph_of laid body)

layout_sorts : (main : Option Name) (items : List ItemTree) (file : TypedFileTree) → IsTyped main items (Ok file)
    → is_exceeded Scales.Large file Limits.Cells ≡ false → length (layout_of file).file.mutexes ≤ 16 → (body : ℕ)
    → body < length (layout_of file).bodies → IsSorted (layout_of file) body
unfolding layout_of
layout_sorts main items file typed within few body lt =
    let o = file_layable main items file typed in
    let x = graph_sorts file o.0 o.1 within body few (bodies_are_well_formed main items file typed)
    (sites_stand main items file typed) (bodies_are_regular main items file typed) lt in
    (record { sorts = x.0; each = x.1; fit = x.2 }, x.3, x.4)

pub file_sorts : (laid : LaidTree) → IsLaidFile laid → (body : ℕ) → body < length laid.bodies → IsSorted laid body
file_sorts laid h body =
    let is : layout_of h.file ≡ laid = is_layout h.scale h.file laid h.answered in
    let few : length (layout_of h.file).file.mutexes ≤ 16 =
    subst (λ (x : LaidTree). length x.file.mutexes ≤ 16) (sym is) (few_mutexes laid h) in
    subst (λ (x : LaidTree). body < length x.bodies → IsSorted x body) is
    (layout_sorts h.main h.items h.file h.typed (few_cells laid h) few body)

-- each temporary of such a graph is given, so that its mark tells what it holds
pub file_told : (laid : LaidTree) → IsLaidFile laid → (body : ℕ) → body < length laid.bodies
    → (h : HasSorts laid (built laid body).temps (graph_of laid body)) → (temp : ℕ)
    → Tells h.sorts (pointer_marks (graph_of laid body) (built laid body).temps) temp
file_told laid is body lt h temp s at =
    let f : Follows (built laid body).temps (graph_of laid body) = (file_sorts laid is body lt).1 in
    let own = slice_get_within h.sorts temp s at in
    let few : length h.sorts ≤ (built laid body).temps = omega (arith, h.each) in
    told laid h.sorts (graph_of laid body) (built laid body).temps h.fit f.copies few temp
    (f.given temp (omega (arith, own, few))) s at
