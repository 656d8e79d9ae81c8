-- The operations of a body mean what their actions do.
use Rattle.std.specs.Prelude.{◌≡◌, ℕ, ◌≤◌, ◌^◌, ℤ, int_le, Bool, true, false, not}
use Rattle.std.specs.Prelude.{List, length, slice_get, is_some, Some, None}
use Rattle.std.proofs.Common.{refl, sym, ap, subst, ◌∙◌, inl, inr}
use Rattle.std.proofs.lemmas.Bool.{and_parts}
use Rattle.program_shape.specs.tm_typed.declared.types.Scalar.{Scalar}
use Rattle.program_shape.specs.tm_typed.declared.types.Scalar.TheVariants as Scalars
use Rattle.program_shape.specs.tm_typed.declared.expressions.Unary.TheVariants.{Negate, Complement}
use Rattle.program_shape.specs.tm_laid.Layouts.{LaidTree}
use Rattle.program_shape.specs.concrete_values.declared.values.Pointer.{Pointer}
use Rattle.program_shape.specs.concrete_values.declared.values.Pointer.TheVariants as Pointers
use Rattle.program_shape.specs.concrete_values.declared.values.Value.{Value}
use Rattle.program_shape.specs.concrete_values.declared.values.Value.TheVariants.{Number, Pointer as APointer}
use Rattle.program_shape.specs.concrete_values.declared.actions.Next.{Next}
use Rattle.program_shape.specs.concrete_values.declared.actions.Next.TheVariants as Acts
use Rattle.program_shape.specs.concrete_values.Values.{pointer_of}
use Rattle.program_shape.specs.concrete_values.Operators.{binary, unary, converted}
use Rattle.program_shape.specs.concrete_values.Pointers.{usable, compared, element, moved, dereferenced}
use Rattle.program_shape.specs.concrete_values.Actions.{load_by, load_at, store_by, store_at, clear_at, is_of}
use Rattle.program_shape.specs.flow_graph.declared.operations.Test.{Test}
use Rattle.program_shape.specs.flow_graph.declared.operations.Test.TheVariants as Tests
use Rattle.program_shape.specs.flow_graph.declared.operations.Operation.{Operation}
use Rattle.program_shape.specs.flow_graph.declared.operations.Operation.TheVariants as Op
use Rattle.program_shape.specs.flow_graph.Operations.{Temps, put_at, used, Asks, holds}
use Rattle.program_shape.specs.flow_graph.Graphs.{Among}
use Rattle.program_reports.specs.pointer_dom.Values.{IsValueIn}
use Rattle.program_reports.specs.transfer_rows.Meanings.{MayGive, Passes}
use Rattle.program_reports.specs.edge_actions.Edges.{action_of, filter_of}
use Rattle.program_reports.specs.edge_actions.Layouts.{open_value}
use Rattle.program_reports.specs.temporary_types.Sorts.{Sort, numbers, pointers, Works, WorksTest, Holds}
use Rattle.program_reports.specs.temporary_types.PointerMarks.{is_pointers}
use Rattle.program_reports.specs.program_equations.Programs.{IsTested}
use Rattle.program_shape.specs.Shape.{MayChoose, Does, by_itself, by_choice}
use Rattle.sound_tables.specs.Memberships.{scalar_as, scalars_as}
use Rattle.sound_tables.specs.Meanings.{Means, sizes_of}
use Rattle.sound_tables.specs.Premises.{IsRegular}
use Rattle.sound_tables.proofs.Covering.{put_as}
use Rattle.sound_tables.proofs.Operands.{IsOf}
use Rattle.sound_tables.proofs.Openings.{typed_number, has_between}
use Rattle.sound_tables.proofs.Meaning.{negated_is, complemented_is, right_is, operated_is}
use Rattle.sound_tables.proofs.Meaning.{converted_is}
use Rattle.sound_tables.proofs.Means.{silent_ok, silent_used, silent_through, result_asks, through_asks}
use Rattle.sound_tables.proofs.Means.{gives_value, constant_in, base_is, base_in, part_is, element_is}
use Rattle.sound_tables.proofs.Means.{moved_is, deref_is}
use Rattle.program_shape.specs.concrete_values.Pointers.{base, part, size_of}
use Rattle.program_reports.specs.transfer_rows.StateForms.{only_numbers}
use Rattle.program_reports.specs.transfer_rows.Actions.{constant, copied, negated, complemented, operated}
use Rattle.program_reports.specs.transfer_rows.Actions.{compared as compared_row, converted as converted_row}
use Rattle.program_reports.specs.transfer_rows.Actions.{part as part_row}
use Rattle.program_reports.specs.transfer_rows.Actions.{element as element_row, moved as moved_row}
use Rattle.program_reports.specs.edge_actions.Edges.{constant_value, base_value, followed}
use Rattle.program_reports.specs.edge_actions.Layouts.{numbers_between}
use Rattle.std.specs.Prelude.{if◌then◌else◌}
use Rattle.sound_tables.proofs.Means.{int_le_from}
use Rattle.sound_tables.proofs.TestMeanings.{compared_is, usable_passes, within_self}
use Rattle.sound_tables.proofs.TestMeanings.{numbers_pass, pointers_pass, number_truth, pointer_truth, label_passes}

module _ (laid : LaidTree) (few : length laid.objects ≤ 2 ^ 32) (sorts : List Sort) (temps temps' : Temps) where
  abbrev sizes : ℕ → ℕ
  sizes = sizes_of laid

  abbrev Operands : Operation → Type 0
  Operands op = (u : ℕ) (s : Sort) → Among u (used op) → Holds sorts u s → IsOf laid s (temps u)

  -- ## Choices

  no_number : (c : ℕ) (z : ℤ) → is_of laid (Scalars.Pointer c) (Number z) ≡ true → ⊥
  unfolding is_of
  no_number c z h = cc

  loads_chosen : (q : Pointer) (s : Scalar) (p : _) (w : Value) → MayChoose laid (load_by q s true p) w
      → IsValueIn (open_value s) (scalar_as w)
  loads_chosen Pointers.Null s p w h = absurd h
  loads_chosen Pointers.Invalid s p w h = absurd h
  loads_chosen (Pointers.To o k) (Scalars.Int t) p (Number z) h = typed_number laid t (Number z) h
  loads_chosen (Pointers.To o k) (Scalars.Pointer c) p (Number z) h = absurd (no_number c z h)
  loads_chosen (Pointers.To o k) s p (APointer q) h = absurd h

  loads_unchosen : (q : Pointer) (s : Scalar) (p : _) (w : Value) → MayChoose laid (load_by q s false p) w → ⊥
  loads_unchosen Pointers.Null s p w h = h
  loads_unchosen Pointers.Invalid s p w h = h
  loads_unchosen (Pointers.To o k) s p w h = h

  stores_unchosen : (q : Pointer) (s : Scalar) (v : Value) (p : _) (w : Value)
      → MayChoose laid (store_by q s v p) w → ⊥
  stores_unchosen Pointers.Null s v p w h = h
  stores_unchosen Pointers.Invalid s v p w h = h
  stores_unchosen (Pointers.To o k) s v p w h = h

  clears_unchosen : (b : Bool) (o : ℕ) (w : Value) → MayChoose laid (if b then Acts.Clear o else Acts.Misfit) w → ⊥
  clears_unchosen true o w h = h
  clears_unchosen false o w h = h

  any_chosen : (low high : ℤ) (w : Value) → MayChoose laid (Acts.Chosen low high) w
      → IsValueIn (only_numbers (numbers_between low high)) (scalar_as w)
  any_chosen low high (Number z) h =
      let k = and_parts (int_le low z) (int_le z high) h in
      has_between low high z (int_le_from low z k.0) (int_le_from z high k.1)
  any_chosen low high (APointer q) h = absurd (cc)

  -- what is asked, and what comes after
  asked_is : (n m : Next) (f g : Value → Temps) → Asks n f ≡ Asks m g → (n ≡ m) × (f ≡ g)
  asked_is n m f g e = (cc, cc)

  put_of : (f : Value → Temps) (to : ℕ) (v : Value) → (let k : Value → Temps = λ w. put_at to w temps in k ≡ f)
      → temps' ≡ f v → temps' ≡ put_at to v temps
  put_of f to v e h = h ∙ ap (λ (k : Value → Temps). k v) (sym e)

  -- ## Tests

  test_passes : (test : Test) (told : Bool) → IsTested (Op.Assume test) → WorksTest sorts test
      → IsRegular sorts told (Op.Assume test) → Operands (Op.Assume test) → holds test temps ≡ true
      → Passes (scalars_as temps) (filter_of told test)
  test_passes (Tests.Numbers operator of l r) told plain works regular own e =
      numbers_pass laid temps operator plain of l r (own l (numbers of) (inl refl) works.0)
      (own r (numbers of) (inr (inl refl)) works.1) e
  test_passes (Tests.Pointers equal l r) told plain works regular own e =
      pointers_pass laid temps equal l r (own l pointers (inl refl) works.0) (own r pointers (inr (inl refl)) works.1) e
  test_passes (Tests.Truth is value) told plain works regular own e =
      by_sort works.1.0 (own value works.1.0 (inl refl) (own_sort works.1.0 works.1.1))
      (regular works.1.0 works.1.1)
    where
      own_sort : (s : Sort) → slice_get sorts value ≡ Some s → Holds sorts value s
      own_sort s at = (s, at, within_self s)

      by_sort : (s : Sort) → IsOf laid s (temps value) → told ≡ is_pointers s
          → Passes (scalars_as temps) (filter_of told (Tests.Truth is value))
      by_sort (numbers t) k flag =
          subst (λ b. Passes (scalars_as temps) (filter_of b (Tests.Truth is value))) (sym flag)
          (number_truth laid temps is value k.0 k.1 e)
      by_sort pointers k flag =
          subst (λ b. Passes (scalars_as temps) (filter_of b (Tests.Truth is value))) (sym flag)
          (pointer_truth laid temps is value k.0 k.1 e)
  test_passes (Tests.Case is label value) told plain works regular own e =
      let k = own value (numbers works.0) (inl refl) works.1 in
      label_passes laid temps told is label value k.0 k.1 e

  -- ## All operations

  pub means : (task : ℕ) (told answer : Bool) (op : Operation) → Works laid sorts op → IsRegular sorts told op
      → IsTested op → Operands op → Does laid op temps temps'
      → Means sizes (action_of laid task told answer op) (scalars_as temps) (scalars_as temps')
  unfolding MayGive load_at store_at clear_at usable
  means task told answer Op.Skip works regular plain own (by_itself a e) =
      let f : temps ≡ temps' = cc in ap scalars_as (sym f)
  means task told answer (Op.Const to value) works regular plain own (by_itself a e) =
      let f : put_at to value temps ≡ temps' = cc in
      gives_value laid temps temps' to (constant (constant_value laid value)) value (sym f)
      (constant_in laid temps temps' value regular)
  means task told answer (Op.Copy to from) works regular plain own (by_itself a e) =
      let f : put_at to (temps from) temps ≡ temps' = cc in
      gives_value laid temps temps' to (copied from) (temps from) (sym f) refl
  means task told answer (Op.Un to Negate of from place) works regular plain own (by_itself a e) =
      let r = silent_ok (unary Negate of (temps from)) to place temps temps' e in
      gives_value laid temps temps' to (negated of from) r.0 r.2
      (negated_is laid of (temps from) r.0 (own from (numbers of) (inl refl) works) r.1)
  means task told answer (Op.Un to Complement of from place) works regular plain own (by_itself a e) =
      let r = silent_ok (unary Complement of (temps from)) to place temps temps' e in
      gives_value laid temps temps' to (complemented of from) r.0 r.2
      (complemented_is laid of (regular refl) (temps from) r.0 (own from (numbers of) (inl refl) works) r.1)
  means task told answer (Op.Bin to operator of left right place) works regular plain own (by_itself a e) =
      let r = silent_ok (binary operator of (temps left) (temps right)) to place temps temps' e in
      let k = right_is laid operator of (temps right) sorts right works.1 (λ s h. own right s (inr (inl refl)) h) in
      gives_value laid temps temps' to (operated operator of left right) r.0 r.2
      (operated_is laid operator of (temps left) (temps right) r.0 (own left (numbers of) (inl refl) works.0) k r.1)
  means task told answer (Op.BinPointers to equal left right) works regular plain own (by_itself a e) =
      let v = compared equal (temps left) (temps right) in
      let f : put_at to v temps ≡ temps' = cc in
      gives_value laid temps temps' to (compared_row equal left right) v (sym f)
      (compared_is laid temps equal left right (own left pointers (inl refl) works.0)
      (own right pointers (inr (inl refl)) works.1))
  means task told answer (Op.Convert to was of from) works regular plain own (by_itself a e) =
      let v = converted was of (temps from) in
      let f : put_at to v temps ≡ temps' = cc in
      gives_value laid temps temps' to (converted_row of from) v (sym f)
      (converted_is laid was of (temps from) (own from (numbers was) (inl refl) works))
  means task told answer (Op.Base to object) works regular plain own (by_itself a e) =
      let v = base laid object in
      let f : put_at to v temps ≡ temps' = cc in
      gives_value laid temps temps' to (constant (base_value laid object)) v (sym f)
      (subst (λ z. IsValueIn (base_value laid object) (scalar_as z)) (sym (base_is laid temps temps' few object works))
      (base_in laid temps temps' object))
  means task told answer (Op.Offset to from cells) works regular plain own (by_itself a e) =
      let v = part laid cells (temps from) in
      let f : put_at to v temps ≡ temps' = cc in
      gives_value laid temps temps' to (part_row cells from) v (sym f)
      (part_is laid temps temps' (temps from) cells (own from pointers (inl refl) works) a)
  means task told answer (Op.Index to from count cells by place) works regular plain own (by_itself a e) =
      let r = silent_ok (element laid count cells (temps from) (temps by)) to place temps temps' e in
      let i = own by (numbers works.1.0) (inr (inl refl)) works.1.1 in
      gives_value laid temps temps' to (element_row count cells from by) r.0 r.2
      (element_is laid temps temps' count cells (temps from) (temps by) r.0 (own from pointers (inl refl) works.0)
      i.0 i.1 a r.1)
  means task told answer (Op.Move to from cells minus by place) works regular plain own (by_itself a e) =
      let r = silent_ok (moved laid minus cells (temps from) (temps by)) to place temps temps' e in
      let i = own by (numbers works.1.0) (inr (inl refl)) works.1.1 in
      gives_value laid temps temps' to (moved_row (not minus) cells from by) r.0 r.2
      (moved_is laid temps temps' minus cells (temps from) (temps by) r.0 (own from pointers (inl refl) works.0)
      i.0 i.1 r.1)
  means task told answer (Op.Deref to from target path place) works regular plain own (by_itself a e) =
      let r = silent_ok (dereferenced laid path target (temps from)) to place temps temps' e in
      gives_value laid temps temps' to (followed laid path target from) r.0 r.2
      (deref_is laid temps temps' path target (temps from) r.0 (own from pointers (inl refl) works) r.1)
  means task told answer (Op.Usable pointer place) works regular plain own (by_itself a e) =
      let r = silent_used (usable (temps pointer)) place temps temps' e in
      let k = own pointer pointers (inl refl) works in
      (usable_passes laid temps pointer r.0 k.0 k.1 r.1, ap scalars_as r.2)
  means task told answer (Op.Assume test) works regular plain own (by_itself a e) =
      let r = silent_through (holds test temps) temps temps' e in
      (test_passes test told plain works regular own r.0, ap scalars_as r.1)
  means task told answer (Op.Load to address scalar place) works regular plain own (by_itself a e) = absurd (cc)
  means task told answer (Op.LoadAny to address scalar place) works regular plain own (by_itself a e) = absurd (cc)
  means task told answer (Op.Store address value scalar into place) works regular plain own (by_itself a e) =
      absurd (cc)
  means task told answer (Op.Any to low high) works regular plain own (by_itself a e) = absurd (cc)
  means task told answer (Op.Clear object) works regular plain own (by_itself a e) = absurd (cc)
  means task told answer (Op.Lock mutex place) works regular plain own (by_itself a e) = absurd (cc)
  means task told answer (Op.Unlock mutex place) works regular plain own (by_itself a e) = absurd (cc)
  means task told answer Op.Yield works regular plain own (by_itself a e) = absurd (cc)
  means task told answer (Op.Probe to mutex place) works regular plain own (by_itself a e) = absurd (cc)
  means task told answer (Op.Any to low high) works regular plain own (by_choice n f v e m h) =
      let k = asked_is (Acts.Chosen low high) n (λ w. put_at to w temps) f e in
      gives_value laid temps temps' to (constant (only_numbers (numbers_between low high))) v
      (put_of f to v k.1 h) (any_chosen low high v (subst (λ z. MayChoose laid z v) (sym k.0) m))
  means task told answer (Op.LoadAny to address scalar place) works regular plain own (by_choice n f v e m h) =
      let k = asked_is (load_by (pointer_of (temps address)) scalar true place) n (λ w. put_at to w temps) f e in (
        scalar_as v,
        loads_chosen (pointer_of (temps address)) scalar place v
            (subst (λ z. MayChoose laid z v) (sym k.0) m),
        ap scalars_as (put_of f to v k.1 h) ∙ put_as temps to v,
      )
  means task told answer (Op.Load to address scalar place) works regular plain own (by_choice n f v e m h) =
      let k = asked_is (load_by (pointer_of (temps address)) scalar false place) n (λ w. put_at to w temps) f e in
      absurd (loads_unchosen (pointer_of (temps address)) scalar place v (subst (λ z. MayChoose laid z v) (sym k.0) m))
  means task told answer (Op.Store address value scalar into place) works regular plain own (by_choice n f v e m h) =
      let k = asked_is (store_by (pointer_of (temps address)) scalar (temps value) place) n (λ w. temps) f e in
      absurd (stores_unchosen (pointer_of (temps address)) scalar (temps value) place v
      (subst (λ z. MayChoose laid z v) (sym k.0) m))
  means task told answer (Op.Clear object) works regular plain own (by_choice n f v e m h) =
      let k = asked_is (if is_some (size_of laid object) then Acts.Clear object else Acts.Misfit) n (λ w. temps) f e in
      absurd (clears_unchosen (is_some (size_of laid object)) object v (subst (λ z. MayChoose laid z v) (sym k.0) m))
  means task told answer (Op.Lock mutex place) works regular plain own (by_choice n f v e m h) =
      let k = asked_is (Acts.Lock mutex place) n (λ w. temps) f e in
      absurd (subst (λ z. MayChoose laid z v) (sym k.0) m)
  means task told answer (Op.Unlock mutex place) works regular plain own (by_choice n f v e m h) =
      let k = asked_is (Acts.Unlock mutex place) n (λ w. temps) f e in
      absurd (subst (λ z. MayChoose laid z v) (sym k.0) m)
  means task told answer Op.Yield works regular plain own (by_choice n f v e m h) =
      let k = asked_is Acts.Yield n (λ w. temps) f e in
      absurd (subst (λ z. MayChoose laid z v) (sym k.0) m)
  means task told answer (Op.Probe to mutex place) works regular plain own (by_choice n f v e m h) =
      let k = asked_is (Acts.Probe mutex place) n (λ w. put_at to w temps) f e in
      absurd (subst (λ z. MayChoose laid z v) (sym k.0) m)
  means task told answer Op.Skip works regular plain own (by_choice n f v e m h) = absurd (cc)
  means task told answer (Op.Const to value) works regular plain own (by_choice n f v e m h) = absurd (cc)
  means task told answer (Op.Copy to from) works regular plain own (by_choice n f v e m h) = absurd (cc)
  means task told answer (Op.Un to operator of from place) works regular plain own (by_choice n f v e m h) =
      absurd (result_asks (unary operator of (temps from)) (Some to) place temps n f e)
  means task told answer (Op.Bin to operator of left right place) works regular plain own (by_choice n f v e m h) =
      absurd (result_asks (binary operator of (temps left) (temps right)) (Some to) place temps n f e)
  means task told answer (Op.BinPointers to equal left right) works regular plain own (by_choice n f v e m h) =
      absurd (cc)
  means task told answer (Op.Convert to was of from) works regular plain own (by_choice n f v e m h) = absurd (cc)
  means task told answer (Op.Base to object) works regular plain own (by_choice n f v e m h) = absurd (cc)
  means task told answer (Op.Offset to from cells) works regular plain own (by_choice n f v e m h) = absurd (cc)
  means task told answer (Op.Index to from count cells by place) works regular plain own (by_choice n f v e m h) =
      absurd (result_asks (element laid count cells (temps from) (temps by)) (Some to) place temps n f e)
  means task told answer (Op.Move to from cells minus by place) works regular plain own (by_choice n f v e m h) =
      absurd (result_asks (moved laid minus cells (temps from) (temps by)) (Some to) place temps n f e)
  means task told answer (Op.Deref to from target path place) works regular plain own (by_choice n f v e m h) =
      absurd (result_asks (dereferenced laid path target (temps from)) (Some to) place temps n f e)
  means task told answer (Op.Usable pointer place) works regular plain own (by_choice n f v e m h) =
      absurd (result_asks (usable (temps pointer)) None place temps n f e)
  means task told answer (Op.Assume test) works regular plain own (by_choice n f v e m h) =
      absurd (through_asks (holds test temps) temps n f e)
