-- Addresses lead to places, and accesses there are proper.
use Rattle.std.proofs.Common.{◌≡◌, refl, ap, sym, subst, ◌∙◌, ℕ, ◌+◌, ◌*◌, ◌<◌, ◌≤◌, Bool, true, false, length, Some}
use Rattle.std.proofs.Common.{None, arith, negsuc}
use Rattle.std.specs.Prelude.{pos, if◌then◌else◌, is_some, Ok, Err, int_le, int_lt, slice_get}
use Rattle.std.proofs.lemmas.Bool.{false≢true, and_parts, le-leb, lt-ltb, ltb-true}
use Rattle.std.proofs.lemmas.Option.{slice_get-get_or}
use Rattle.cell_layout.specs.tm_cint.declared.Class.TheVariants as Classes
use Rattle.cell_layout.specs.tm_cint.declared.int_types.IntType.{IntType}
use Rattle.cell_layout.specs.tm_terms.declared.places.Place.{Place}
use Rattle.cell_layout.specs.tm_typed.declared.types.Scalar.{Scalar}
use Rattle.cell_layout.specs.tm_typed.WellTyped.{a_number, a_pointer, kind_of_scalar}
use Rattle.cell_layout.specs.tm_laid.Layouts.{LaidTree, object_at, no_object}
use Rattle.cell_types.specs.concrete_values.declared.values.Pointer.TheVariants as Pointers
use Rattle.cell_types.specs.concrete_values.declared.values.Value.{Value}
use Rattle.cell_types.specs.concrete_values.declared.values.Value.TheVariants.{Number, Pointer as APointer}
use Rattle.cell_types.specs.concrete_values.declared.values.Answer.{Answer}
use Rattle.cell_types.specs.concrete_values.declared.actions.Next.TheVariants as Acts
use Rattle.cell_types.specs.concrete_values.Values.{number_of, pointer_of}
use Rattle.cell_types.specs.concrete_values.Pointers.{cells_of_object, size_of, placed, pointer_in, shifted, or_invalid}
use Rattle.cell_types.specs.concrete_values.Pointers.{base}
use Rattle.cell_types.specs.concrete_values.Pointers.{part, is_subscript, element}
use Rattle.cell_types.specs.concrete_values.Actions.{is_of, load_at, store_at, clear_at}
use Rattle.concrete_steps.specs.NextAction.{After, act_then}
use Rattle.next_action_laws.specs.Actions.{IsCell, IsOwn}
use Rattle.next_action_laws.proofs.Keeping.{HasKind, of_scalar, loaded_is, Keeps, act_keeps}

-- the address of a cell, or of what is behind the last one
abbrev pub at : ℕ → ℕ → Value
at o k = APointer (Pointers.To o k)

module _ (laid : LaidTree) (few : length laid.objects ≤ 4294967296) where
  pub size_is : (o : ℕ) → o < length laid.objects → size_of laid o ≡ Some (object_at laid o).cells
  unfolding size_of
  size_is o lt =
      ap (λ b. if b then cells_of_object (slice_get laid.objects o) else None)
      (lt-ltb o 4294967296 (omega (arith, lt, few)))
      ∙ ap cells_of_object (slice_get-get_or laid.objects o no_object lt)

  pub pointer_is : (o k : ℕ) → o < length laid.objects → k ≤ (object_at laid o).cells
      → pointer_in laid o (pos k) ≡ Some (Pointers.To o k)
  unfolding pointer_in
  pointer_is o k lt le =
      ap (λ s. placed s o (pos k)) (size_is o lt)
      ∙ ap (λ b. if b then Some (Pointers.To o k) else None) (le-leb k (object_at laid o).cells le)

  pub base_is : (o : ℕ) → o < length laid.objects → base laid o ≡ at o 0
  unfolding base
  base_is o lt = ap or_invalid (pointer_is o 0 lt (omega arith))

  pub part_is : (o k c : ℕ) → o < length laid.objects → k + c ≤ (object_at laid o).cells
      → part laid c (at o k) ≡ at o (k + c)
  unfolding part shifted pointer_of
  part_is o k c lt le = ap or_invalid (pointer_is o (k + c) lt le)

  -- a subscript that is no error is below the length
  pub record IsElement (o k length' c : ℕ) (r : Value) : Type 0 where
    pub place : ℕ
    pub below : place < length'
    pub is : o < length laid.objects → k + place * c ≤ (object_at laid o).cells → r ≡ at o (k + place * c)

  pub element_is : (t : IntType) (o k n c : ℕ) (i r : Value) → HasKind laid (a_number t) i
      → element laid n c (at o k) i ≡ Ok r → IsElement o k n c r
  unfolding element number_of shifted pointer_of is_of
  element_is t o k n c (APointer p) r h e = absurd (false≢true h)
  element_is t o k n c (Number (negsuc j)) r h e = absurd cc
  element_is t o k n c (Number (pos j)) r h e = by_test (is_subscript n (pos j)) refl e
    where
      by_test : (b : Bool) → is_subscript n (pos j) ≡ b
          → (if b then Ok (or_invalid (pointer_in laid o (pos (k + j * c)))) else Err Classes.Index) ≡ Ok r
          → IsElement o k n c r
      by_test true q f = record {
        place = j;
        below = ltb-true j n (and_parts (int_le (pos 0) (pos j)) (int_lt (pos j) (pos n)) q).1;
        is = λ lt le. let same : r ≡ or_invalid (pointer_in laid o (pos (k + j * c))) = cc in same
            ∙ ap or_invalid (pointer_is o (k + j * c) lt le);
      }
      by_test false q f = absurd cc

  pub pointer_kind : (o k : ℕ) → o < length laid.objects → k ≤ (object_at laid o).cells
      → HasKind laid a_pointer (at o k)
  unfolding is_of
  pointer_kind o k lt le = ap is_some (pointer_is o k lt le)

  -- ## Accesses

  module _ (body : ℕ) (a : Answer) where
    pub load_keeps : (m o k : ℕ) (s : Scalar) (b : Bool) (p : Place) (go to : Value → After) → IsCell laid body o k s
        → ((v : Value) → HasKind laid (kind_of_scalar s) v → Keeps laid body a m (go v) (to v))
        → Keeps laid body a m (act_then laid (load_at (at o k) s b p) go) (act_then laid (load_at (at o k) s b p) to)
    unfolding load_at pointer_of
    load_keeps m o k s b p go to cell h =
        act_keeps laid body a m (Acts.Load o k s b p) go to cell
        (λ y v e. h v (of_scalar laid s v (loaded_is laid o k s b p y v e)))

    pub store_keeps : (m o k : ℕ) (s : Scalar) (v : Value) (p : Place) (go to : Value → After) → IsCell laid body o k s
        → is_of laid s v ≡ true → ((u : Value) → Keeps laid body a m (go u) (to u))
        → Keeps laid body a m (act_then laid (store_at (at o k) s v p) go) (act_then laid (store_at (at o k) s v p) to)
    unfolding store_at pointer_of
    store_keeps m o k s v p go to cell is h =
        act_keeps laid body a m (Acts.Store o k s v p) go to (cell, is) (λ y u e. h u)

    pub clear_keeps : (m o : ℕ) (go to : Value → After) → IsOwn laid body o
        → ((u : Value) → Keeps laid body a m (go u) (to u))
        → Keeps laid body a m (act_then laid (clear_at laid o) go) (act_then laid (clear_at laid o) to)
    unfolding clear_at
    clear_keeps m o go to own h =
        let is : clear_at laid o ≡ Acts.Clear o =
        ap (λ s. if is_some s then Acts.Clear o else Acts.Misfit) (size_is o own.object) in
        subst (λ x. Keeps laid body a m (act_then laid x go) (act_then laid x to)) (sym is)
        (act_keeps laid body a m (Acts.Clear o) go to own (λ y u e. h u))
