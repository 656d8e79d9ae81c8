-- The graphs of a file that is typed and laid out are as the soundness of the report asks.
use Rattle.std.proofs.Common.{◌≡◌, ℕ, ◌<◌, List, length, false, subst, ◌∙◌}
use Rattle.std.specs.Prelude.{Option, Some, Ok}
use Rattle.operation_laws.specs.tm_terms.declared.refusals.Limit.TheVariants as Limits
use Rattle.operation_laws.specs.tm_terms.declared.tokens.Name.{Name}
use Rattle.operation_laws.specs.tm_trees.FileTrees.{ItemTree}
use Rattle.operation_laws.specs.tm_typed.declared.scopes.ObjectNumber.TheVariants.{Local}
use Rattle.operation_laws.specs.tm_typed.Files.{TypedFileTree, IsTyped}
use Rattle.operation_laws.specs.tm_laid.declared.scales.Scale.TheVariants as Scales
use Rattle.operation_laws.specs.tm_laid.Layouts.{LaidTree, layout_of, is_exceeded, first_path, callee, object_of}
use Rattle.operation_laws.specs.cell_layout.Laws.{GoesOnBy}
use Rattle.operation_laws.proofs.low.cell_layout.PathCalls.{calls_lead}
use Rattle.operation_laws.specs.flow_graph.declared.graphs.Edge.{Edge}
use Rattle.operation_laws.specs.flow_graph.Graphs.{Among}
use Rattle.operation_laws.specs.lowering.Built.{graph_of}
use Rattle.operation_laws.proofs.low.lowering.Demands.{Demands, Meets, AreUsual}
use Rattle.operation_laws.specs.lowering_laws.LaidFiles.{IsLaidFile}
use Rattle.operation_laws.proofs.low.lowering_laws.Founded.{file_layable}
use Rattle.operation_laws.proofs.low.lowering_laws.Lowered.{is_layout}
use Rattle.operation_laws.proofs.low.lowering_laws.TypedGraphs.{local_type, calls_of, edges_meet}
use Rattle.operation_laws.specs.typed_file_laws.Mentions.{WorksIn}
use Rattle.operation_laws.specs.next_action_laws.Actions.{IsBodyPath, IsOwn}
use Rattle.operation_laws.proofs.low.next_action_laws.PathPlaces.{first_of}
use Rattle.operation_laws.proofs.low.next_action_laws.WholeBodies.{local_place}
use Rattle.operation_laws.proofs.FileSorts.{few_cells}
use Rattle.sound_foundations.specs.Foundations.{OwnsCleared, ComplementsWork}

-- what is known of the call paths of a body
record ArePaths (laid : LaidTree) (body : ℕ) : Type 0 where
  first : IsBodyPath laid body (first_path laid body)
  goes : (path site : ℕ) → IsBodyPath laid body path → site < length (calls_of laid path)
      → IsBodyPath laid body (callee laid path site)
  owned : (path k n : ℕ) → IsBodyPath laid body path → local_type laid path k ≡ Some n
      → IsOwn laid body (object_of laid path (Local k))

layout_paths : (main : Option Name) (items : List ItemTree) (file : TypedFileTree) → IsTyped main items (Ok file)
    → is_exceeded Scales.Large file Limits.Cells ≡ false → (body : ℕ) → body < length (layout_of file).bodies
    → ArePaths (layout_of file) body
unfolding layout_of
layout_paths main items file typed within body lt =
    let o = file_layable main items file typed in
    let first = first_of file body lt in
    record {
      first = record { within = first.0; same = first.1 };
      goes = λ path site u l.
          (let g : GoesOnBy file (layout_of file) path site = calls_lead file o.0 o.1 path site u.within l in
          record { within = g.within; same = g.body ∙ u.same });
      owned = λ path k n u e. (local_place file o.0 o.1 within body path u k n e).1;
    }

paths : (laid : LaidTree) → IsLaidFile laid → (body : ℕ) → body < length laid.bodies → ArePaths laid body
paths laid h body =
    subst (λ (x : LaidTree). body < length x.bodies → ArePaths x body) (is_layout h.scale h.file laid h.answered)
    (layout_paths h.main h.items h.file h.typed (few_cells laid h) body)

-- an operation that clears, clears an object of the body's own, and `~` works in a promoted type
abbrev fitting : LaidTree → ℕ → Demands
fitting laid body = record {
  clears = IsOwn laid body;
  unary = WorksIn;
  constant = λ v. Unit {0};
  compares = λ op. Unit {0};
  label = λ z. Unit {0};
  mutex = λ m. Unit {0};
}

fits : (laid : LaidTree) → IsLaidFile laid → (body : ℕ) → body < length laid.bodies → (e : Edge)
    → Among e (graph_of laid body) → Meets (fitting laid body) e.op
fits laid h body lt e =
    let known : ArePaths laid body = paths laid h body lt in
    let usual : AreUsual (fitting laid body) = record {
      number = λ z. tt;
      null = tt;
      invalid = tt;
      comparison = λ op is. tt;
      negation = λ op c. tt;
    } in
    edges_meet laid h (fitting laid body) usual (IsBodyPath laid body) (record {
      unary = λ o t w. w;
      label = λ z n. tt;
      mutex = λ m l. tt;
      goes = known.goes;
      local = known.owned;
    }) body known.first e

pub owns_cleared : (laid : LaidTree) → IsLaidFile laid → OwnsCleared laid
owns_cleared laid h body e object lt a is = subst (Meets (fitting laid body)) is (fits laid h body lt e a)

pub complements_work : (laid : LaidTree) → IsLaidFile laid → ComplementsWork laid
complements_work laid h body e to from operator of place lt a is =
    subst (Meets (fitting laid body)) is (fits laid h body lt e a)
