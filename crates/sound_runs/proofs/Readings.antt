-- What the soundness theorem reads of a layout is all that it needs: graphs run over it as over the layout.
use Rattle.std.proofs.Common.{◌≡◌, refl, ap, subst, ◌∙◌, ℕ, Bool, true, List, [], ◌∷◌, Option, Some}
use Rattle.std.proofs.Common.{None}
use Rattle.std.proofs.Common.{◌&&◌, is_some, if◌then◌else◌, length}
use Rattle.std.specs.Prelude.{ℤ, pos, ◌*ℤ◌, Ok, Err}
use Rattle.layout_laws.specs.tm_cint.declared.Class.TheVariants as Classes
use Rattle.layout_laws.specs.tm_typed.declared.types.Scalar.{Scalar}
use Rattle.layout_laws.specs.tm_typed.declared.types.Scalar.TheVariants as Scalars
use Rattle.layout_laws.specs.tm_laid.Layouts.{LaidTree, object_at}
use Rattle.program_shape.specs.concrete_values.declared.values.Pointer.{Pointer}
use Rattle.program_shape.specs.concrete_values.declared.values.Pointer.TheVariants as Pointers
use Rattle.program_shape.specs.concrete_values.declared.values.Value.{Value}
use Rattle.program_shape.specs.concrete_values.declared.values.Value.TheVariants.{Number, Pointer as APointer}
use Rattle.program_shape.specs.concrete_values.declared.values.Answer.{Answer}
use Rattle.program_shape.specs.concrete_values.declared.values.Answer.TheVariants.{Given, Done}
use Rattle.program_shape.specs.concrete_values.declared.actions.Next.{Next}
use Rattle.program_shape.specs.concrete_values.declared.actions.Next.TheVariants as Acts
use Rattle.program_shape.specs.concrete_values.Values.{pointer_of, number_of}
use Rattle.program_shape.specs.concrete_values.Pointers.{size_of, pointer_in, shifted, base, part, element, moved}
use Rattle.program_shape.specs.concrete_values.Pointers.{is_dereferenceable}
use Rattle.program_shape.specs.concrete_values.Pointers.{dereferenced, or_invalid, is_subscript, or_class, directed}
use Rattle.program_shape.specs.concrete_values.Actions.{clear_at, is_of, value_if, answer_of}
use Rattle.program_shape.specs.concrete_steps.NextAction.{After}
use Rattle.program_shape.specs.flow_graph.declared.operations.Operation.{Operation}
use Rattle.program_shape.specs.flow_graph.declared.operations.Operation.TheVariants as Op
use Rattle.program_shape.specs.flow_graph.Graphs.{Edges, leaving}
use Rattle.program_shape.specs.flow_graph.Operations.{Temps, given, given_by, effect_by, gives, asks, doing, effect}
use Rattle.program_shape.specs.flow_graph.Runs.{Memory, move_by, move_along, move, Runs, goes, spins, halts, awaits}
use Rattle.program_shape.specs.flow_graph.Runs.{answered}
use Rattle.program_shape.specs.flow_graph.Runs.{unfit}
use Rattle.next_action_laws.specs.Actions.{Fit, IsBodyPath, MayUse, IsCell, IsOwn, IsProper}
use Rattle.program_equations.specs.Readings.{read_layout}
use Rattle.program_equations.specs.laws.ReadAlike.{stands_read, alive_read}

module _ (laid : LaidTree) where
  abbrev read : LaidTree
  read = read_layout laid

  -- ## Values and answers

  pub is_of_read : (s : Scalar) (v : Value) → is_of read s v ≡ is_of laid s v
  unfolding is_of pointer_in size_of
  is_of_read (Scalars.Int t) (Number n) = refl
  is_of_read (Scalars.Int t) (APointer p) = refl
  is_of_read (Scalars.Pointer class) (Number n) = refl
  is_of_read (Scalars.Pointer class) (APointer Pointers.Null) = refl
  is_of_read (Scalars.Pointer class) (APointer Pointers.Invalid) = refl
  is_of_read (Scalars.Pointer class) (APointer (Pointers.To o k)) = refl

  pub answer_read : (n : Next) (a : Answer) → answer_of read n a ≡ answer_of laid n a
  unfolding answer_of
  answer_read (Acts.Load o k s volatile p) (Given v) = ap (λ b. value_if b v) (is_of_read s v)
  answer_read (Acts.Store o k s x p) (Given v) = refl
  answer_read (Acts.Chosen low high) (Given v) = refl
  answer_read (Acts.Clear o) (Given v) = refl
  answer_read (Acts.Lock m p) (Given v) = refl
  answer_read (Acts.Unlock m p) (Given v) = refl
  answer_read Acts.Yield (Given v) = refl
  answer_read (Acts.Probe m p) (Given v) = refl
  answer_read (Acts.Fault class p) (Given v) = refl
  answer_read Acts.Ended (Given v) = refl
  answer_read Acts.Spins (Given v) = refl
  answer_read Acts.Misfit (Given v) = refl
  answer_read n Done = refl

  pub fit_laid : (answers : List Answer) (next : After) → Fit read next answers → Fit laid next answers
  fit_laid [] next fit = tt
  fit_laid (a ∷ answers) next fit =
      (subst (λ o. is_some o ≡ true) (answer_read (next []) a) fit.0, fit_laid answers (λ more. next (a ∷ more)) fit.1)

  -- ## What operations do

  base_read : (o : ℕ) → base read o ≡ base laid o
  unfolding base pointer_in size_of
  base_read o = refl

  shifted_read : (p : Pointer) (z : ℤ) → shifted read p z ≡ shifted laid p z
  unfolding shifted pointer_in size_of
  shifted_read Pointers.Null z = refl
  shifted_read Pointers.Invalid z = refl
  shifted_read (Pointers.To o k) z = refl

  part_read : (cell : ℕ) (a : Value) → part read cell a ≡ part laid cell a
  unfolding part
  part_read cell a = ap (λ p. or_invalid p) (shifted_read (pointer_of a) (pos cell))

  element_read : (length cells : ℕ) (a i : Value) → element read length cells a i ≡ element laid length cells a i
  unfolding element
  element_read length cells a i =
      ap (λ p. if is_subscript length (number_of i) then Ok (or_invalid p) else Err Classes.Index)
      (shifted_read (pointer_of a) (number_of i *ℤ pos cells))

  moved_read : (minus : Bool) (cells : ℕ) (p i : Value) → moved read minus cells p i ≡ moved laid minus cells p i
  unfolding moved
  moved_read minus cells p i =
      ap (λ q. or_class Classes.Pointer q) (shifted_read (pointer_of p) (number_of i *ℤ directed minus cells))

  in_read : (o : ℕ) (z : ℤ) → pointer_in read o z ≡ pointer_in laid o z
  unfolding pointer_in size_of
  in_read o z = refl

  dereferenceable_read : (path type : ℕ) (p : Pointer)
      → is_dereferenceable read path type p ≡ is_dereferenceable laid path type p
  unfolding is_dereferenceable
  dereferenceable_read path type Pointers.Null = refl
  dereferenceable_read path type Pointers.Invalid = refl
  dereferenceable_read path type (Pointers.To o k) =
      λ j. is_some (in_read o (pos k) j) && (alive_read laid path o j && stands_read laid o k type j)

  dereferenced_read : (path type : ℕ) (p : Value) → dereferenced read path type p ≡ dereferenced laid path type p
  unfolding dereferenced
  dereferenced_read path type p =
      ap (λ b. if b then Ok (APointer (pointer_of p)) else Err Classes.Deref)
      (dereferenceable_read path type (pointer_of p))

  clear_read : (o : ℕ) → clear_at read o ≡ clear_at laid o
  unfolding clear_at size_of
  clear_read o = refl

  doing_read : (op : Operation) (t : Temps) → doing read op t ≡ doing laid op t
  doing_read Op.Skip t = refl
  doing_read (Op.Const to value) t = refl
  doing_read (Op.Copy to from) t = refl
  doing_read (Op.Un to operator of from place) t = refl
  doing_read (Op.Bin to operator of left right place) t = refl
  doing_read (Op.BinPointers to equal left right) t = refl
  doing_read (Op.Convert to was of from) t = refl
  doing_read (Op.Base to object) t = ap gives (base_read object)
  doing_read (Op.Offset to from cells) t = ap gives (part_read cells (t from))
  doing_read (Op.Index to from length cells by place) t =
      ap (given_by place) (element_read length cells (t from) (t by))
  doing_read (Op.Move to from cells minus by place) t = ap (given_by place) (moved_read minus cells (t from) (t by))
  doing_read (Op.Deref to from target path place) t = ap (given_by place) (dereferenced_read path target (t from))
  doing_read (Op.Load to address scalar place) t = refl
  doing_read (Op.LoadAny to address scalar place) t = refl
  doing_read (Op.Store address value scalar into place) t = refl
  doing_read (Op.Any to low high) t = refl
  doing_read (Op.Clear object) t = ap asks (clear_read object)
  doing_read (Op.Usable pointer place) t = refl
  doing_read (Op.Assume test) t = refl
  doing_read (Op.Lock mutex place) t = refl
  doing_read (Op.Unlock mutex place) t = refl
  doing_read Op.Yield t = refl
  doing_read (Op.Probe to mutex place) t = refl

  pub effect_read : (op : Operation) (t : Temps) → effect read op t ≡ effect laid op t
  effect_read op t = ap (effect_by (given op) t) (doing_read op t)

  -- ## Runs

  along_read : (es : Edges) (m : Memory) → move_along read es m ≡ move_along laid es m
  along_read [] m = refl
  along_read (e ∷ es) m = λ j. move_by (effect_read e.op m.temps j) e m (along_read es m j)

  move_read : (g : Edges) (node : ℕ) (m : Memory) → move read g node m ≡ move laid g node m
  move_read g node m = along_read (leaving g node) m

  pub runs_read : (g : Edges) {node : ℕ} {m : Memory} {answers : List Answer} {n : Next}
      → Runs laid g node m answers n → Runs read g node m answers n
  runs_read g {node} {m} (goes h r) = goes (move_read g node m ∙ h) (runs_read g r)
  runs_read g {node} {m} (spins h) = spins (move_read g node m ∙ h)
  runs_read g {node} {m} (halts h) = halts (move_read g node m ∙ h)
  runs_read g {node} {m} (awaits h) = awaits (move_read g node m ∙ h)
  runs_read g {node} {m} (answered {n = n} {a = a} h fits r) =
      answered (move_read g node m ∙ h) (answer_read n a ∙ fits) (runs_read g r)
  runs_read g {node} {m} (unfit {n = n} {a = a} h none) =
      unfit (move_read g node m ∙ h) (answer_read n a ∙ none)

  -- ## Proper actions

  module _ (body : ℕ) where
    path_read : (path : ℕ) → IsBodyPath laid body path → IsBodyPath read body path
    path_read path h = record { within = h.within; same = h.same }

    may_read : (owner : Option ℕ) → MayUse laid body owner → MayUse read body owner
    may_read None h = tt
    may_read (Some path) h = path_read path h

    cell_read : (o k : ℕ) (s : Scalar) → IsCell laid body o k s → IsCell read body o k s
    cell_read o k s h = record {
      object = h.object;
      usable = may_read (object_at laid o).owner h.usable;
      inside = h.inside;
      scalar = h.scalar;
    }

    own_read : (o : ℕ) → IsOwn laid body o → IsOwn read body o
    own_read o h = record { object = h.object; path = h.path; owner = h.owner; own = path_read h.path h.own }

    pub proper_read : (n : Next) → IsProper laid body n → IsProper read body n
    proper_read (Acts.Load o k s volatile p) h = cell_read o k s h
    proper_read (Acts.Store o k s v p) h = (cell_read o k s h.0, is_of_read s v ∙ h.1)
    proper_read (Acts.Chosen low high) h = h
    proper_read (Acts.Clear o) h = own_read o h
    proper_read (Acts.Lock m p) h = h
    proper_read (Acts.Unlock m p) h = h
    proper_read Acts.Yield h = h
    proper_read (Acts.Probe m p) h = h
    proper_read (Acts.Fault class p) h = h
    proper_read Acts.Ended h = h
    proper_read Acts.Spins h = h
    proper_read Acts.Misfit h = h
