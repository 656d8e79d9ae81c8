-- Parts and elements are taken within their objects in the graphs of a file that is typed and laid out.
use Rattle.std.proofs.Common.{◌≡◌, refl, sym, subst, ◌∙◌, ℕ, ◌<◌, ◌≤◌, false, length}
use Rattle.std.specs.Prelude.{ℤ, pos, ◌*ℤ◌, List, Option, Ok, IsSome}
use Rattle.operation_laws.specs.tm_terms.declared.refusals.Limit.TheVariants as Limits
use Rattle.operation_laws.specs.tm_terms.declared.tokens.Name.{Name}
use Rattle.operation_laws.specs.tm_trees.FileTrees.{ItemTree}
use Rattle.operation_laws.specs.tm_typed.Files.{TypedFileTree, IsTyped}
use Rattle.operation_laws.specs.tm_laid.declared.scales.Scale.{Scale}
use Rattle.operation_laws.specs.tm_laid.declared.scales.Scale.TheVariants as Scales
use Rattle.operation_laws.specs.tm_laid.Layouts.{LaidTree, layout_of, is_exceeded, laid_out}
use Rattle.operation_laws.specs.concrete_values.declared.values.Pointer.{Pointer}
use Rattle.operation_laws.specs.concrete_values.declared.values.Pointer.TheVariants as Pointers
use Rattle.operation_laws.specs.concrete_values.Values.{number_of, pointer_of}
use Rattle.operation_laws.specs.concrete_values.Pointers.{size_of, pointer_in, shifted}
use Rattle.operation_laws.specs.flow_graph.declared.operations.Operation.{Operation}
use Rattle.operation_laws.specs.flow_graph.declared.operations.Operation.TheVariants as Op
use Rattle.operation_laws.specs.flow_graph.Graphs.{Edges}
use Rattle.operation_laws.specs.flow_graph.Operations.{Temps}
use Rattle.operation_laws.proofs.low.typed_file_laws.TypedBodies.{bodies_are_well_formed}
use Rattle.operation_laws.proofs.low.typed_file_laws.MentionFiles.{sites_stand}
use Rattle.operation_laws.specs.lowering.Built.{graph_of}
use Rattle.operation_laws.specs.lowering_laws.LaidFiles.{IsLaidFile}
use Rattle.operation_laws.proofs.low.lowering_laws.Founded.{file_layable}
use Rattle.operation_laws.proofs.low.lowering_laws.Lowered.{is_layout}
use Rattle.operation_laws.proofs.low.lowering_laws.GraphLaws.{none_live}
use Rattle.operation_laws.proofs.FileSorts.{few_cells}
use Rattle.sound_runs.specs.program_equations.Readings.{read_layout}
use Rattle.sound_runs.specs.program_shape.Shape.{IsAddressed}
use Rattle.sound_runs.specs.Sources.{Comes, comes_first, comes_by_itself, comes_by_answer, KeepsAddresses}
use Rattle.sound_runs.specs.Addresses.{HasKinds}
use Rattle.sound_runs.proofs.KindSteps.{keeps_addresses}
use Rattle.sound_runs.proofs.Readings.{effect_read, answer_read}
use Rattle.sound_addresses.proofs.BodyKinds.{graph_kinds}

-- ## Over what is read of a layout

shifted_read : (laid : LaidTree) (p : Pointer) (z : ℤ) → shifted (read_layout laid) p z ≡ shifted laid p z
unfolding shifted pointer_in size_of
shifted_read laid Pointers.Null z = refl
shifted_read laid Pointers.Invalid z = refl
shifted_read laid (Pointers.To o k) z = refl

addressed_read : (laid : LaidTree) (op : Operation) (t : Temps) → IsAddressed laid op t
    → IsAddressed (read_layout laid) op t
addressed_read laid (Op.Offset to from cells) t h =
    subst (λ o. IsSome o) (sym (shifted_read laid (pointer_of (t from)) (pos cells))) h
addressed_read laid (Op.Index to from length' cells by place) t h =
    subst (λ o. IsSome o) (sym (shifted_read laid (pointer_of (t from)) (number_of (t by) *ℤ pos cells))) h
addressed_read laid _ t h = tt

comes_read : (laid : LaidTree) (g : Edges) {node : ℕ} {temps : Temps} → Comes (read_layout laid) g node temps
    → Comes laid g node temps
comes_read laid g comes_first = comes_first
comes_read laid g (comes_by_itself {temps = temps} c e l goes) =
    comes_by_itself (comes_read laid g c) e l (sym (effect_read laid e.op temps) ∙ goes)
comes_read laid g (comes_by_answer {temps = temps} c e l n after is a v fits) =
    comes_by_answer (comes_read laid g c) e l n after (sym (effect_read laid e.op temps) ∙ is) a v
    (sym (answer_read laid n a) ∙ fits)

addresses_read : (laid : LaidTree) (g : Edges) → KeepsAddresses laid g → KeepsAddresses (read_layout laid) g
addresses_read laid g h node temps temps' e c l goes =
    addressed_read laid e.op temps
    (h node temps temps' e (comes_read laid g c) l (sym (effect_read laid e.op temps) ∙ goes))

-- ## Files

layout_kinds : (main : Option Name) (items : List ItemTree) (file : TypedFileTree) → IsTyped main items (Ok file)
    → is_exceeded Scales.Large file Limits.Cells ≡ false → (scale : Scale) → laid_out scale file ≡ Ok (layout_of file)
    → length (layout_of file).objects ≤ 4294967296 → (body : ℕ) → body < length (layout_of file).bodies
    → HasKinds (layout_of file) body (graph_of (layout_of file) body)
unfolding layout_of
layout_kinds main items file typed within scale out few body lt =
    let o = file_layable main items file typed in
    graph_kinds file o.0 o.1 within body (bodies_are_well_formed main items file typed)
    (sites_stand main items file typed) scale out few lt

pub file_kinds : (laid : LaidTree) → IsLaidFile laid → length laid.objects ≤ 4294967296 → (body : ℕ)
    → body < length laid.bodies → HasKinds laid body (graph_of laid body)
file_kinds laid h few body lt =
    let is : layout_of h.file ≡ laid = is_layout h.scale h.file laid h.answered in
    let P : LaidTree → Type 0 =
    λ x. laid_out h.scale h.file ≡ Ok x → length x.objects ≤ 4294967296 → body < length x.bodies
    → HasKinds x body (graph_of x body) in
    subst P is (λ out few' lt'. layout_kinds h.main h.items h.file h.typed (few_cells laid h) h.scale out few' body lt')
    h.answered few lt

pub stay_within : (laid : LaidTree) → IsLaidFile laid → length laid.objects ≤ 4294967296 → (body : ℕ)
    → body < length laid.bodies → KeepsAddresses (read_layout laid) (graph_of laid body)
stay_within laid h few body lt =
    addresses_read laid (graph_of laid body)
    (keeps_addresses laid body (graph_of laid body) (file_kinds laid h few body lt)
    (λ t live. none_live laid h body t lt live))
