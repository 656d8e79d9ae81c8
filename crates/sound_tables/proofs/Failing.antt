-- The class with which an operation fails is one with which its action may.
use Rattle.std.specs.Prelude.{◌≡◌, ℕ, ◌≤◌, ◌^◌, Bool, true, false, List, length, Some}
use Rattle.std.specs.Prelude.{None}
use Rattle.std.specs.Prelude.{Err}
use Rattle.std.proofs.Common.{refl, sym, ap, ◌∙◌, inl, inr}
use Rattle.program_shape.specs.tm_cint.declared.Class.{Class}
use Rattle.program_shape.specs.tm_cint.declared.Class.TheVariants as Classes
use Rattle.program_shape.specs.tm_cint.declared.int_types.IntType.{IntType}
use Rattle.program_shape.specs.tm_terms.declared.places.Place.{Place}
use Rattle.program_shape.specs.tm_typed.declared.expressions.Unary.TheVariants.{Negate, Complement}
use Rattle.program_shape.specs.tm_laid.Layouts.{LaidTree}
use Rattle.program_shape.specs.concrete_values.declared.values.Pointer.{Pointer}
use Rattle.program_shape.specs.concrete_values.declared.values.Pointer.TheVariants as Pointers
use Rattle.program_shape.specs.concrete_values.declared.values.Value.{Value}
use Rattle.program_shape.specs.concrete_values.declared.values.Value.TheVariants.{Pointer as APointer}
use Rattle.program_shape.specs.concrete_values.Operators.{binary, unary}
use Rattle.program_shape.specs.concrete_values.Pointers.{usable, element, moved, dereferenced}
use Rattle.program_shape.specs.flow_graph.declared.operations.Operation.{Operation}
use Rattle.program_shape.specs.flow_graph.declared.operations.Operation.TheVariants as Op
use Rattle.program_shape.specs.flow_graph.Operations.{Temps, used, holds, lets_through, effect_by, Breaks}
use Rattle.program_shape.specs.flow_graph.Graphs.{Among}
use Rattle.program_reports.specs.pointer_dom.Pointer as scalars
use Rattle.program_reports.specs.transfer_rows.Meanings.{Fails as MayFail}
use Rattle.program_reports.specs.edge_actions.Edges.{action_of}
use Rattle.program_reports.specs.temporary_types.Sorts.{Sort, numbers, pointers, Works, Holds}
use Rattle.program_shape.specs.Shape.{Fails}
use Rattle.sound_tables.specs.Memberships.{scalar_as, scalars_as}
use Rattle.sound_tables.specs.Meanings.{FailsAs, sizes_of}
use Rattle.sound_tables.specs.Premises.{IsRegular}
use Rattle.sound_tables.proofs.Operands.{IsOf}
use Rattle.sound_tables.proofs.Meaning.{negated_fails, right_is, operated_fails}
use Rattle.sound_tables.proofs.Means.{breaks_err, element_fails, moved_fails, deref_fails}

through_breaks : (b : Bool) (t : Temps) (class : Class) (q : Place) → effect_by None t (lets_through b) ≡ Breaks class q
    → ⊥
through_breaks true t class q e = cc
through_breaks false t class q e = cc

never_fails : (t : IntType) (v : Value) (class : Class) → unary Complement t v ≡ Err class → ⊥
unfolding unary
never_fails t v class e = cc

usable_fails : (q : Pointer) (class : Class) → usable (APointer q) ≡ Err class
    → (class ≡ Classes.Pointer) × (scalar_as (APointer q) ≡ scalars.pointer scalars.invalid)
unfolding usable
usable_fails Pointers.Null class e = absurd (cc)
usable_fails Pointers.Invalid class e = (let f : Classes.Pointer ≡ class = cc in sym f, refl)
usable_fails (Pointers.To o k) class e = absurd (cc)

module _ (laid : LaidTree) (few : length laid.objects ≤ 2 ^ 32) (sorts : List Sort) (temps temps' : Temps)
    (class : Class) where
  pub fails_as : (task : ℕ) (told answer : Bool) (op : Operation) → Works laid sorts op → IsRegular sorts told op
      → ((u : ℕ) (s : Sort) → Among u (used op) → Holds sorts u s → IsOf laid s (temps u)) → Fails laid op temps class
      → FailsAs (sizes_of laid) (action_of laid task told answer op) (scalars_as temps) class
  unfolding MayFail
  fails_as task told answer (Op.Un to Negate of from place) works regular own h =
      negated_fails laid of (temps from) class (own from (numbers of) (inl refl) works)
      (breaks_err (unary Negate of (temps from)) (Some to) place h.place temps class h.breaks)
  fails_as task told answer (Op.Un to Complement of from place) works regular own h =
      absurd (never_fails of (temps from) class
      (breaks_err (unary Complement of (temps from)) (Some to) place h.place temps class h.breaks))
  fails_as task told answer (Op.Bin to operator of left right place) works regular own h =
      let k = right_is laid operator of (temps right) sorts right works.1 (λ s z. own right s (inr (inl refl)) z) in
      operated_fails laid operator of (temps left) (temps right) class (own left (numbers of) (inl refl) works.0) k
      (breaks_err (binary operator of (temps left) (temps right)) (Some to) place h.place temps class h.breaks)
  fails_as task told answer (Op.Index to from count cells by place) works regular own h =
      let i = own by (numbers works.1.0) (inr (inl refl)) works.1.1 in
      element_fails laid temps temps' count cells (temps from) (temps by) class i.0 i.1
      (breaks_err (element laid count cells (temps from) (temps by)) (Some to) place h.place temps class h.breaks)
  fails_as task told answer (Op.Move to from cells minus by place) works regular own h =
      let i = own by (numbers works.1.0) (inr (inl refl)) works.1.1 in
      moved_fails laid temps temps' few minus cells (temps from) (temps by) class (own from pointers (inl refl) works.0)
      i.0 i.1 (breaks_err (moved laid minus cells (temps from) (temps by)) (Some to) place h.place temps class h.breaks)
  fails_as task told answer (Op.Deref to from target path place) works regular own h =
      deref_fails laid temps temps' few path target (temps from) class (own from pointers (inl refl) works)
      (breaks_err (dereferenced laid path target (temps from)) (Some to) place h.place temps class h.breaks)
  fails_as task told answer (Op.Usable pointer place) works regular own h =
      let k = own pointer pointers (inl refl) works in
      let e = breaks_err (usable (temps pointer)) None place h.place temps class h.breaks in
      let r = usable_fails k.0 class (ap usable (sym k.1) ∙ e) in
      (r.0, ap scalar_as k.1 ∙ r.1)
  fails_as task told answer (Op.Assume test) works regular own h =
      absurd (through_breaks (holds test temps) temps class h.place h.breaks)
  fails_as task told answer op works regular own h = absurd (let e = h.breaks in cc)
