-- What fits a layout fits what is read of it, and the other way round.
use Rattle.std.proofs.Common.{ℕ, List, Option, Some, None}
use Rattle.std.specs.FinMap.{get}
use Rattle.tm_laid.specs.Layouts.{LaidTree, abstract_at}
use Rattle.tm_typed.specs.declared.types.Scalar.{Scalar}
use Rattle.tm_typed.specs.declared.types.Scalar.TheVariants as Scalars
use Rattle.pointer_dom.specs.Values.{Values}
use Rattle.interfere_set.specs.Stores.{Nested, Interferences}
use Rattle.transfer_rows.specs.StateForms.{Temp, Cell, State}
use Rattle.post_recheck.specs.program_equations.Readings.{read_layout}
use Rattle.post_recheck.specs.state_fits.Fits.{FitsTemp, IsSeenCell, IsSeenCopy, FitsCopy, IsCellOf, FitsCell}
use Rattle.post_recheck.specs.state_fits.Fits.{FitsPlace}
use Rattle.post_recheck.specs.state_fits.Fits.{FitsNested, FitsStore}
use Rattle.post_recheck.specs.state_fits.Kinds.{InExtents}
use Rattle.temporary_extents.specs.Extents.{IsWithin, extent_at}
use Rattle.temporary_extents.specs.declared.extents.Extent.{Extent}
use Rattle.temporary_extents.specs.declared.extents.Extent.TheVariants as Extents
use Rattle.post_recheck.specs.typed_values.Types.{IsOfType}

module _ (laid : LaidTree) where
  abbrev read : LaidTree
  read = read_layout laid

  -- ## Values

  type_read : (scalar : Scalar) (v : Values) → IsOfType laid scalar v → IsOfType read scalar v
  type_read (Scalars.Int t) v h = h
  type_read (Scalars.Pointer c) v h = h

  type_laid : (scalar : Scalar) (v : Values) → IsOfType read scalar v → IsOfType laid scalar v
  type_laid (Scalars.Int t) v h = h
  type_laid (Scalars.Pointer c) v h = h

  within_read : (e : Extent) (v : Values) → IsWithin laid e v → IsWithin read e v
  within_read Extents.Nothing v h = h
  within_read (Extents.Between low high) v h = h
  within_read Extents.Pointers v h = h

  within_laid : (e : Extent) (v : Values) → IsWithin read e v → IsWithin laid e v
  within_laid Extents.Nothing v h = h
  within_laid (Extents.Between low high) v h = h
  within_laid Extents.Pointers v h = h

  -- ## Cells

  seen_read : (task x : ℕ) → IsSeenCell laid task x → IsSeenCell read task x
  seen_read task x h = record { cell = h.cell; seen = h.seen }

  seen_laid : (task x : ℕ) → IsSeenCell read task x → IsSeenCell laid task x
  seen_laid task x h = record { cell = h.cell; seen = h.seen }

  cell_read : (x : ℕ) (c : Cell) → IsCellOf laid x c → IsCellOf read x c
  cell_read x c h =
      let a = abstract_at laid x in
      record { value = type_read a.scalar c.value h.value; pending = h.pending; local = h.local; shared = h.shared }

  cell_laid : (x : ℕ) (c : Cell) → IsCellOf read x c → IsCellOf laid x c
  cell_laid x c h =
      let a = abstract_at laid x in
      record { value = type_laid a.scalar c.value h.value; pending = h.pending; local = h.local; shared = h.shared }

  -- ## Places

  module _ (task : ℕ) (extents : List Extent) (live : List ℕ) where
    temp_read : (t : ℕ) (o : Option Temp) → FitsTemp (InExtents laid extents) live t o
        → FitsTemp (InExtents read extents) live t o
    temp_read t None h = h
    temp_read t (Some e) h = (h.0, within_read (extent_at extents t) e.value h.1)

    temp_laid : (t : ℕ) (o : Option Temp) → FitsTemp (InExtents read extents) live t o
        → FitsTemp (InExtents laid extents) live t o
    temp_laid t None h = h
    temp_laid t (Some e) h = (h.0, within_laid (extent_at extents t) e.value h.1)

    copied_read : (o : Option ℕ) → IsSeenCopy laid task o → IsSeenCopy read task o
    copied_read None h = h
    copied_read (Some x) h = seen_read task x h

    copied_laid : (o : Option ℕ) → IsSeenCopy read task o → IsSeenCopy laid task o
    copied_laid None h = h
    copied_laid (Some x) h = seen_laid task x h

    copy_read : (o : Option Temp) → FitsCopy laid task o → FitsCopy read task o
    copy_read None h = h
    copy_read (Some e) h = copied_read e.copy h

    copy_laid : (o : Option Temp) → FitsCopy read task o → FitsCopy laid task o
    copy_laid None h = h
    copy_laid (Some e) h = copied_laid e.copy h

    own_read : (x : ℕ) (o : Option Cell) → FitsCell laid task x o → FitsCell read task x o
    own_read x None h = λ seen. h (seen_laid task x seen)
    own_read x (Some c) h = (seen_read task x h.0, cell_read x c h.1)

    own_laid : (x : ℕ) (o : Option Cell) → FitsCell read task x o → FitsCell laid task x o
    own_laid x None h = λ seen. h (seen_read task x seen)
    own_laid x (Some c) h = (seen_laid task x h.0, cell_laid x c h.1)

    pub place_read : (s : State) → FitsPlace laid task (InExtents laid extents) live s
        → FitsPlace read task (InExtents read extents) live s
    place_read s h = record {
      form = h.form;
      temps = λ t. temp_read t (get s.temps t) (h.temps t);
      copies = λ t. copy_read (get s.temps t) (h.copies t);
      cells = λ x. own_read x (get s.cells x) (h.cells x);
    }

    pub place_laid : (s : State) → FitsPlace read task (InExtents read extents) live s
        → FitsPlace laid task (InExtents laid extents) live s
    place_laid s h = record {
      form = h.form;
      temps = λ t. temp_laid t (get s.temps t) (h.temps t);
      copies = λ t. copy_laid (get s.temps t) (h.copies t);
      cells = λ x. own_laid x (get s.cells x) (h.cells x);
    }

  -- ## Stores

  nested_read : (tasks : ℕ) (IsSet : ℕ → Type 0) (n : Nested) → FitsNested laid tasks IsSet n
      → FitsNested read tasks IsSet n
  nested_read tasks IsSet n h = record {
    writers = h.writers;
    sets = h.sets;
    shared = h.shared;
    values = λ j l x written cells v at-j at-l at-x.
        (let a = abstract_at laid x in type_read a.scalar v (h.values j l x written cells v at-j at-l at-x));
  }

  nested_laid : (tasks : ℕ) (IsSet : ℕ → Type 0) (n : Nested) → FitsNested read tasks IsSet n
      → FitsNested laid tasks IsSet n
  nested_laid tasks IsSet n h = record {
    writers = h.writers;
    sets = h.sets;
    shared = h.shared;
    values = λ j l x written cells v at-j at-l at-x.
        (let a = abstract_at laid x in type_laid a.scalar v (h.values j l x written cells v at-j at-l at-x));
  }

  pub store_read : (tasks : ℕ) (store : Interferences) → FitsStore laid tasks store → FitsStore read tasks store
  store_read tasks store h = record {
    form = h.form;
    weak = nested_read tasks _ store.weak h.weak;
    sync = nested_read tasks _ store.sync h.sync;
  }

  pub store_laid : (tasks : ℕ) (store : Interferences) → FitsStore read tasks store → FitsStore laid tasks store
  store_laid tasks store h = record {
    form = h.form;
    weak = nested_laid tasks _ store.weak h.weak;
    sync = nested_laid tasks _ store.sync h.sync;
  }
