-- Pairs that fit one program have one list of lines.
use Rattle.std.proofs.Common.{◌≡◌, refl, sym, ap, subst, ◌∙◌, ℕ, suc, ◌<◌, List, [], ◌∷◌, ◌++◌, length, get_or}
use Rattle.std.proofs.Common.{Option, Some, None, inl, inr, lit<, arith}
use Rattle.std.specs.Prelude.{IfSome}
use Rattle.std.specs.Ordering.{nat_cmp}
use Rattle.std.specs.FinMap as map
use Rattle.std.specs.FinMap.{get, entries, get-empty, empty_of_len, len-entries}
use Rattle.strided_dom.specs.Progression.{empty}
use Rattle.tm_lattice.specs.Tables.{Table, IsEntry, IsTable}
use Rattle.pointer_dom.specs.OffsetSets.{IsOffsetSet, HasNoOffset}
use Rattle.pointer_dom.specs.PointerSets.{Pointers, IsPointers, no_pointer}
use Rattle.pointer_dom.specs.Values.{Values, IsValues, no_value}
use Rattle.interfere_set.specs.Stores.{Nested, Interferences, HasNoEntry, IsNested}
use Rattle.interfere_set.specs.laws.Joins.{IsOf, of_entry}
use Rattle.transfer_rows.specs.StateForms.{Temp, Cell, State}
use Rattle.post_recheck.specs.program_equations.Programs.{ProgramBodies, body_at, IsProgram}
use Rattle.post_recheck.specs.program_equations.Solutions.{table_at}
use Rattle.post_recheck.specs.program_equations.Systems.{FitsBody}
use Rattle.post_recheck.specs.state_fits.Fits.{FitsTemp, FitsCell, FitsPlace, FitsNested, FitsStore}
use Rattle.post_recheck.specs.state_fits.Kinds.{InExtents}
use Rattle.post_recheck.specs.state_fits.temporary_extents.Extents.{IsWithin, extent_at, extents_in}
use Rattle.post_recheck.specs.state_fits.temporary_extents.declared.extents.Extent.{Extent}
use Rattle.post_recheck.specs.state_fits.temporary_extents.declared.extents.Extent.TheVariants as Extents
use Rattle.post_recheck.specs.Pairs.{Pair, FitsPair}
use Rattle.post_recheck.specs.typed_values.Types.{AreObjects, IsOfType}
use Rattle.tm_typed.specs.declared.types.Scalar.{Scalar}
use Rattle.tm_typed.specs.declared.types.Scalar.TheVariants as Scalars
use Rattle.tm_laid.specs.Layouts.{LaidTree, abstract_at, object_at}
use Rattle.certificate_texts.specs.Certificates.{pair_lines}
use Rattle.certificate_texts.specs.StoreLines.{store_lines}
use Rattle.certificate_texts.proofs.Blocks.{AllEntries}
use Rattle.certificate_texts.proofs.OneValue.{IsOneKind}
use Rattle.certificate_texts.proofs.OneState.{IsPlainState}
use Rattle.certificate_texts.proofs.OneStore.{ArePlainCells, ArePlainSets, IsPlainNested, IsPlainStore, the_end, one_store}
use Rattle.certificate_texts.proofs.OneTable.{IsPlainTable, ArePlainTables, HaveSameNodes, one_tables}

-- ## Values

abbrev sizes_of : LaidTree → ℕ → ℕ
sizes_of laid object = (object_at laid object).cells

none_is : IsPointers no_pointer
none_is key = subst (IsEntry IsOffsetSet HasNoOffset) (sym (get-empty nat_cmp key)) tt

of_numbers : (sizes : ℕ → ℕ) (v : Values) → v.pointers ≡ no_pointer → IsOneKind sizes v
of_numbers sizes v none = record {
  pointers = subst IsPointers (sym none) none_is;
  sized = λ object o at. absurd (let h : None ≡ Some o = sym (get-empty nat_cmp object) ∙ ap (λ (p : Pointers). get p.objects object) (sym none) ∙ at in cc);
  alone = λ some. none;
}

of_pointers : (laid : LaidTree) (v : Values) → v.numbers ≡ empty → IsPointers v.pointers → AreObjects laid v.pointers
    → IsOneKind (sizes_of laid) v
of_pointers laid v none is are = record {
  pointers = is;
  sized = λ object o at. (are object o at).1;
  alone = λ some. absurd (some none);
}

of_type : (laid : LaidTree) (scalar : Scalar) (v : Values) → IsOfType laid scalar v → IsOneKind (sizes_of laid) v
of_type laid (Scalars.Int t) v h = of_numbers (sizes_of laid) v h.1
of_type laid (Scalars.Pointer c) v h = of_pointers laid v h.0 h.1 h.2

of_extent : (laid : LaidTree) (e : Extent) (v : Values) → IsWithin laid e v → IsOneKind (sizes_of laid) v
of_extent laid Extents.Nothing v h = of_numbers (sizes_of laid) v (ap (λ (w : Values). w.pointers) h)
of_extent laid (Extents.Between low high) v h = of_numbers (sizes_of laid) v h.alone
of_extent laid Extents.Pointers v h = of_pointers laid v h.0 h.1 h.2

-- ## Entries

module _ {V : Type 0} where
  all_entries : (P : ℕ × V → Type 0) (es : List (ℕ × V)) → ((e : ℕ × V) → IsOf es e → P e) → AllEntries P es
  all_entries P [] h = tt
  all_entries P (e ∷ es) h = (h e (inl refl), all_entries P es (λ f k. h f (inr k)))

  pub all_at : (P : ℕ × V → Type 0) (t : Table V) → ((k : ℕ) (v : V) → get t k ≡ Some v → P (k, v))
      → AllEntries P (entries t)
  all_at P t h = all_entries P (entries t) (λ e k. h e.0 e.1 (of_entry t e k))

  some_entry : (t : Table V) → (t ≡ map.empty → ⊥) → entries t ≡ [] → ⊥
  some_entry t some none = some (empty_of_len t (len-entries t ∙ ap length none))

  there : (P : V → Type 0) (o : Option V) (v : V) → o ≡ Some v → IfSome o P → P v
  there P o v at h = subst (λ (x : Option V). IfSome x P) at h

-- ## States

-- each value is of one kind
module _ (laid : LaidTree) where
  pub plain_state : (s : State) → ((t : ℕ) (e : Temp) → get s.temps t ≡ Some e → IsOneKind (sizes_of laid) e.value)
      → ((x : ℕ) (c : Cell) → get s.cells x ≡ Some c → IsOneKind (sizes_of laid) c.value)
      → IsPlainState (sizes_of laid) s
  plain_state s temps cells = record {
    temps = all_at (λ (e : ℕ × Temp). IsOneKind (sizes_of laid) e.1.value) s.temps temps;
    cells = all_at (λ (e : ℕ × Cell). IsOneKind (sizes_of laid) e.1.value) s.cells cells;
  }

  fits_temp : (extents : List Extent) (live : List ℕ) (t : ℕ) (at : Option Temp) (e : Temp) → at ≡ Some e
      → FitsTemp (InExtents laid extents) live t at → IsOneKind (sizes_of laid) e.value
  fits_temp extents live t None e is h = absurd (let f : (let o : Option Temp = None in o ≡ Some e) = is in cc)
  fits_temp extents live t (Some d) e is h =
      let same : d ≡ e = cc in
      subst (λ (x : Temp). IsOneKind (sizes_of laid) x.value) same (of_extent laid (extent_at extents t) d.value h.1)

  fits_cell : (task x : ℕ) (at : Option Cell) (c : Cell) → at ≡ Some c → FitsCell laid task x at
      → IsOneKind (sizes_of laid) c.value
  fits_cell task x None c is h = absurd (let f : (let o : Option Cell = None in o ≡ Some c) = is in cc)
  fits_cell task x (Some d) c is h =
      let same : d ≡ c = cc in
      let a = abstract_at laid x in
      subst (λ (y : Cell). IsOneKind (sizes_of laid) y.value) same (of_type laid a.scalar d.value h.1.value)

  fits_place : (task : ℕ) (extents : List Extent) (live : List ℕ) (s : State)
      → FitsPlace laid task (InExtents laid extents) live s → IsPlainState (sizes_of laid) s
  fits_place task extents live s h =
      plain_state s (λ t e at. fits_temp extents live t (get s.temps t) e at (h.temps t))
      (λ x c at. fits_cell task x (get s.cells x) c at (h.cells x))

  -- ## Stores

  plain_nested : (tasks : ℕ) (IsSet : ℕ → Type 0) (n : Nested) → IsNested n → FitsNested laid tasks IsSet n
      → IsPlainNested (sizes_of laid) n
  plain_nested tasks IsSet n form fits = all_at (λ (e : ℕ × Table (Table Values)). ArePlainSets (sizes_of laid) e.1) n sets
    where
      cells : (j l : ℕ) (written : Table (Table Values)) (t : Table Values) → get n j ≡ Some written
          → get written l ≡ Some t → IsTable IsValues (λ v. v ≡ no_value) t × (HasNoEntry t → ⊥)
          → ArePlainCells (sizes_of laid) t
      cells j l written t at-j at-l is = record {
        some = some_entry t is.1;
        values = all_at (λ (e : ℕ × Values). IsOneKind (sizes_of laid) e.1) t (λ x v at-x.
            (let a = abstract_at laid x in of_type laid a.scalar v (fits.values j l x written t v at-j at-l at-x)));
      }

      sets : (j : ℕ) (written : Table (Table Values)) → get n j ≡ Some written → ArePlainSets (sizes_of laid) written
      sets j written at-j =
          let is = there (λ w. IsTable (IsTable IsValues (λ v. v ≡ no_value)) HasNoEntry w × (HasNoEntry w → ⊥)) (get n j)
          written at-j (form j) in
          record {
            some = some_entry written is.1;
            cells = all_at (λ (e : ℕ × Table Values). ArePlainCells (sizes_of laid) e.1) written (λ l t at-l.
                cells j l written t at-j at-l (there (λ w. IsTable IsValues (λ v. v ≡ no_value) w × (HasNoEntry w → ⊥))
                (get written l) t at-l (is.0 l)));
          }

  plain_store : (tasks : ℕ) (store : Interferences) → FitsStore laid tasks store → IsPlainStore (sizes_of laid) store
  plain_store tasks store h = record {
    weak = plain_nested tasks _ store.weak h.form.weak h.weak;
    sync = plain_nested tasks _ store.sync h.form.sync h.sync;
  }

-- ## Tables

module _ (sizes : ℕ → ℕ) where
  plain_table : (table : List (Option State)) → ((n : ℕ) → n < length table → IfSome (get_or table n None) (IsPlainState sizes))
      → IsPlainTable sizes table
  plain_table [] each = tt
  plain_table (None ∷ table) each = plain_table table (λ n less. each (suc n) (omega (arith, less)))
  plain_table (Some s ∷ table) each = (each 0 (omega arith), plain_table table (λ n less. each (suc n) (omega (arith, less))))

  plain_tables : (tables : List (List (Option State)))
      → ((t : ℕ) → t < length tables → IsPlainTable sizes (get_or tables t [])) → ArePlainTables sizes tables
  plain_tables [] each = tt
  plain_tables (t ∷ tables) each = (each 0 (omega arith), plain_tables tables (λ n less. each (suc n) (omega (arith, less))))

same_nodes : (ts us : List (List (Option State))) → length ts ≡ length us
    → ((t : ℕ) → t < length ts → length (get_or ts t []) ≡ length (get_or us t [])) → HaveSameNodes ts us
same_nodes [] [] count each = tt
same_nodes [] (u ∷ us) count each = absurd (omega (arith, count))
same_nodes (t ∷ ts) [] count each = absurd (omega (arith, count))
same_nodes (t ∷ ts) (u ∷ us) count each =
    (each 0 (omega arith), same_nodes ts us (omega (arith, count)) (λ n less. each (suc n) (omega (arith, less))))

-- ## Pairs

mapped : {A : Type 0} (P Q : A → Type 0) → ((x : A) → P x → Q x) → (o : Option A) → IfSome o P → IfSome o Q
mapped P Q f None h = h
mapped P Q f (Some x) h = f x h

module _ (p : ProgramBodies) (is : IsProgram p) where
  plain_pair : (pair : Pair) → FitsPair p pair → ArePlainTables (sizes_of p.laid) pair.tables
  plain_pair pair fits = plain_tables (sizes_of p.laid) pair.tables (λ t less.
      (let there : t < length p.bodies = (let count = fits.count in omega (arith, less, count)) in
      plain_table (sizes_of p.laid) (table_at pair.tables t) (λ n below.
      mapped (FitsBody (body_at p t) n) (IsPlainState (sizes_of p.laid)) (fits_body t n there) _ (fits.states t n there below))))
    where
      fits_body : (t n : ℕ) → t < length p.bodies → (s : State) → FitsBody (body_at p t) n s
          → IsPlainState (sizes_of p.laid) s
      fits_body t n less s h =
          let b = body_at p t in
          let at = is.each t less in
          subst (λ (l : LaidTree). IsPlainState (sizes_of l) s) at.numbered.laid
          (fits_place b.laid b.task (extents_in b.edges) _ s h)

  pub one_pair : (pair other : Pair) → FitsPair p pair → FitsPair p other → pair_lines pair ≡ pair_lines other
      → pair ≡ other
  one_pair pair other fits fits' e =
      let nodes = same_nodes pair.tables other.tables (fits.count ∙ sym fits'.count) (λ t less.
      (let there : t < length p.bodies = (let count = fits.count in omega (arith, less, count)) in
      fits.nodes t there ∙ sym (fits'.nodes t there))) in
      let r = one_tables (sizes_of p.laid) 0 pair.tables other.tables (store_lines pair.store ++ the_end)
      (store_lines other.store ++ the_end) nodes (plain_pair pair fits) (plain_pair other fits') (lit< tt) (lit< tt) e in
      let store = one_store (sizes_of p.laid) pair.store other.store (plain_store p.laid p.tasks pair.store fits.fits)
      (plain_store p.laid p.tasks other.store fits'.fits) r.1 in
      (λ i. record { tables = r.0 i; store = store i })
