-- The lines of pairs that fit are lawful.
use Rattle.std.proofs.Common.{◌≡◌, refl, sym, ap, subst, ℕ, suc, ◌+◌, ◌-◌, ◌<◌, ◌≤◌, ◌^◌, Bool, true, false}
use Rattle.std.proofs.Common.{List, [], ◌∷◌, ◌++◌, length, get_or, Option, Some, None, inl, inr, arith, lit≤}
use Rattle.std.specs.Prelude.{codes, IfSome, min, slice_get}
use Rattle.std.proofs.Math.Pow.{pow_mono}
use Rattle.std.proofs.lemmas.Bool.{cases_eq}
use Rattle.std.proofs.lemmas.Option.{get_or_from_slice_get}
use Rattle.std.specs.List.{flat_map, enumerate_from}
use Rattle.std.specs.FinMap.{get, entries}
use Rattle.cell_env.specs.Cells.{IsWithin}
use Rattle.cell_env.specs.laws.Bits.{within_le}
use Rattle.tm_lattice.specs.Tables.{Table}
use Rattle.pointer_dom.specs.Values.{Values}
use Rattle.interfere_set.specs.Stores.{Nested, Interferences}
use Rattle.interfere_set.specs.laws.Joins.{IsOf, of_entry}
use Rattle.transfer_rows.specs.StateForms.{Temp, Cell, State}
use Rattle.transfer_rows.specs.Accesses.{is_among}
use Rattle.tm_typed.specs.declared.types.Scalar.{Scalar}
use Rattle.tm_laid.specs.Layouts.{LaidTree, abstract_at}
use Rattle.post_recheck.specs.typed_values.Types.{IsOfType}
use Rattle.post_recheck.specs.state_fits.Fits.{file_set, IsSeenCell, IsSeenCopy, FitsCopy, FitsTemp, FitsCell, FitsPlace}
use Rattle.post_recheck.specs.state_fits.Fits.{FitsNested, FitsStore}
use Rattle.post_recheck.specs.state_fits.Kinds.{OfTypes}
use Rattle.post_recheck.specs.task_equations.Bodies.{live_at, node_at}
use Rattle.post_recheck.specs.task_equations.laws.Extents.{node_typed}
use Rattle.post_recheck.specs.temporary_types.Sorts.{IsMutex, types_of}
use Rattle.post_recheck.specs.program_equations.Programs.{ProgramBodies, body_at, IsProgram}
use Rattle.post_recheck.specs.program_equations.Systems.{FitsBody}
use Rattle.post_recheck.specs.program_equations.Solutions.{table_at}
use Rattle.post_recheck.specs.Pairs.{Pair, FitsPair}
use Rattle.certificate_words.specs.Words.{tag, IsWord, Line, AreLines}
use Rattle.certificate_texts.specs.StateLines.{temp_lines, cell_lines, pending_line_of, pending_lines, marked_lines}
use Rattle.certificate_texts.specs.StateLines.{fresh_lines, stored_lines, copy_line_of, copy_lines, state_lines}
use Rattle.certificate_texts.specs.TableLines.{node_lines_of, node_lines, table_lines}
use Rattle.certificate_texts.specs.StoreLines.{entry_lines, set_lines, task_lines, nested_lines, store_lines}
use Rattle.certificate_texts.specs.Sizes.{HasSmallNumbers}
use Rattle.certificate_texts.specs.Certificates.{pair_lines}
use Rattle.certificate_texts.proofs.Telling.{pending_none, pending_some}
use Rattle.certificate_texts.proofs.OneStore.{the_end}
use Rattle.certificate_texts.proofs.LawfulValues.{lines_append, lines_flat, lawful_value}

at_most_sixteen : (n : ℕ) → 2 ^ min n 16 - 1 ≤ 65535
at_most_sixteen n =
    let few : min n 16 ≤ 16 = omega arith in
    let le : 2 ^ min n 16 ≤ 2 ^ 16 = pow_mono few in omega (arith, le)

mapped : {A : Type 0} (P Q : A → Type 0) → ((x : A) → P x → Q x) → (o : Option A) → IfSome o P → IfSome o Q
mapped P Q f None h = h
mapped P Q f (Some x) h = f x h

-- ## States

module _ (p : ProgramBodies) (is : IsProgram p) (small : HasSmallNumbers p) where
  few_cells : (task x : ℕ) → IsSeenCell p.laid task x → x < 2 ^ 64
  few_cells task x seen = let less = seen.cell in let few = is.few in omega (arith, less, few)

  -- a set of mutexes of the file
  few_mutexes : (set : ℕ) → IsWithin set (file_set p.laid) → set < 2 ^ 64
  few_mutexes set within =
      let le = within_le set (file_set p.laid) within in
      let most : file_set p.laid ≤ 65535 = at_most_sixteen (length p.laid.file.mutexes) in
      omega (arith, le, most)

  lawful_temp : (scalar : Scalar) (e : ℕ × Temp) → e.0 < 2 ^ 64 → IsOfType p.laid scalar e.1.value → AreLines (temp_lines e)
  lawful_temp scalar e key h =
      (((lit≤ tt, lit≤ tt, tt), (key, lawful_value p.laid small.objects small.cells scalar e.1.value h)), tt)

  lawful_copy : (task t : ℕ) (copy : Option ℕ) → t < 2 ^ 64 → IsSeenCopy p.laid task copy → AreLines (copy_line_of t copy)
  lawful_copy task t None key h = tt
  lawful_copy task t (Some x) key h = (((lit≤ tt, lit≤ tt, tt), (key, (few_cells task x h, tt))), tt)

  lawful_own : (e : ℕ × Cell) → e.0 < 2 ^ 64
      → (let a = abstract_at p.laid e.0 in IsOfType p.laid a.scalar e.1.value) → AreLines (cell_lines e)
  lawful_own e key h =
      let a = abstract_at p.laid e.0 in
      (((lit≤ tt, lit≤ tt, tt), (key, lawful_value p.laid small.objects small.cells a.scalar e.1.value h)), tt)

  lawful_pending : (x pending : ℕ) → x < 2 ^ 64 → pending < 2 ^ 64 → AreLines (pending_line_of x pending)
  lawful_pending x pending key set = elim (cases_eq pending 0) [
    | inl none ↦ subst AreLines (sym (pending_none x pending none)) tt
    | inr some ↦ subst AreLines (sym (pending_some x pending some)) (((lit≤ tt, lit≤ tt, tt), (key, (set, tt))), tt)
  ]

  lawful_marked : (letters : List ℕ) → IsWord (tag letters) → (mark : Bool) (x : ℕ) → x < 2 ^ 64
      → AreLines (marked_lines letters mark x)
  lawful_marked letters word true x key = ((word, (key, tt)), tt)
  lawful_marked letters word false x key = tt

  module _ (task : ℕ) (types : ℕ → Scalar) (live : List ℕ) (s : State)
      (few : (t : ℕ) → is_among live t ≡ true → t < 2 ^ 64) (fits : FitsPlace p.laid task (OfTypes p.laid types) live s) where
    temp_fits : (e : ℕ × Temp) → IsOf (entries s.temps) e → FitsTemp (OfTypes p.laid types) live e.0 (Some e.1)
    temp_fits e h = subst (FitsTemp (OfTypes p.laid types) live e.0) (of_entry s.temps e h) (fits.temps e.0)

    copy_fits : (e : ℕ × Temp) → IsOf (entries s.temps) e → FitsCopy p.laid task (Some e.1)
    copy_fits e h = subst (FitsCopy p.laid task) (of_entry s.temps e h) (fits.copies e.0)

    cell_fits : (e : ℕ × Cell) → IsOf (entries s.cells) e → FitsCell p.laid task e.0 (Some e.1)
    cell_fits e h = subst (FitsCell p.laid task e.0) (of_entry s.cells e h) (fits.cells e.0)

    cell_key : (e : ℕ × Cell) → IsOf (entries s.cells) e → e.0 < 2 ^ 64
    cell_key e h = few_cells task e.0 (cell_fits e h).0

    pub lawful_state : AreLines (state_lines s)
    lawful_state =
        lines_append (flat_map temp_lines (entries s.temps)) _
        (lines_flat temp_lines (entries s.temps) (λ e h. lawful_temp (types e.0) e (few e.0 (temp_fits e h).0) (temp_fits e h).1))
        (lines_append (flat_map cell_lines (entries s.cells)) _
        (lines_flat cell_lines (entries s.cells) (λ e h. lawful_own e (cell_key e h) (cell_fits e h).1.value))
        (lines_append (flat_map pending_lines (entries s.cells)) _
        (lines_flat pending_lines (entries s.cells) (λ e h.
        lawful_pending e.0 e.1.pending (cell_key e h) (few_mutexes e.1.pending (cell_fits e h).1.pending)))
        (lines_append (flat_map fresh_lines (entries s.cells)) _
        (lines_flat fresh_lines (entries s.cells) (λ e h.
        lawful_marked (codes "f") (lit≤ tt, lit≤ tt, tt) e.1.fresh e.0 (cell_key e h)))
        (lines_append (flat_map stored_lines (entries s.cells)) (flat_map copy_lines (entries s.temps))
        (lines_flat stored_lines (entries s.cells) (λ e h.
        lawful_marked (codes "s") (lit≤ tt, lit≤ tt, tt) e.1.stored e.0 (cell_key e h)))
        (lines_flat copy_lines (entries s.temps) (λ e h.
        lawful_copy task e.0 e.1.copy (few e.0 (temp_fits e h).0) (copy_fits e h)))))))

  -- ## Tables

  lawful_node : (node : ℕ) (at : Option State) → node < 2 ^ 64 → IfSome at (λ s. AreLines (state_lines s))
      → AreLines (node_lines_of node at)
  lawful_node node None key h = tt
  lawful_node node (Some s) key h =
      (((lit≤ tt, lit≤ tt, (lit≤ tt, lit≤ tt, (lit≤ tt, lit≤ tt, (lit≤ tt, lit≤ tt, tt)))), (key, tt)), h)

  -- elements with their numbers
  numbered_lines : {X : Type 0} (f : ℕ × X → List Line) (k : ℕ) (xs : List X)
      → ((i : ℕ) (x : X) → i < length xs → slice_get xs i ≡ Some x → AreLines (f (k + i, x)))
      → AreLines (flat_map f (enumerate_from k xs))
  numbered_lines f k [] h = tt
  numbered_lines f k (x ∷ xs) h =
      lines_append (f (k, x)) (flat_map f (enumerate_from (k + 1) xs))
      (subst (λ n. AreLines (f (n, x))) (omega arith) (h 0 x (omega arith) refl))
      (numbered_lines f (k + 1) xs (λ i y less at.
      subst (λ n. AreLines (f (n, y))) (let e : k + suc i ≡ (k + 1) + i = omega arith in e) (h (suc i) y (omega (arith, less)) at)))

  lawful_table : (t : ℕ) (table : List (Option State)) → t < 2 ^ 64 → length table < 2 ^ 64
      → ((n : ℕ) → n < length table → IfSome (get_or table n None) (λ s. AreLines (state_lines s)))
      → AreLines (table_lines (t, table))
  lawful_table t table key few each = (
    ((lit≤ tt, lit≤ tt, (lit≤ tt, lit≤ tt, (lit≤ tt, lit≤ tt, (lit≤ tt, lit≤ tt, tt)))), (key, tt)),
    numbered_lines node_lines 0 table (λ n at less stands.
        lawful_node (0 + n) at (omega (arith, less, few))
        (subst (λ o. IfSome o (λ s. AreLines (state_lines s))) (get_or_from_slice_get table n at None stands) (each n less))),
  )

  state_fits : (t n : ℕ) → t < length p.bodies → (s : State) → FitsBody (body_at p t) n s → AreLines (state_lines s)
  state_fits t n less s h =
      let b = body_at p t in
      let at = is.each t less in
      let q = node_at b n in
      let types = types_of (is.sorts t) in
      lawful_state b.task types (live_at b q.place) s (λ temp among. small.live t q.place temp less among)
      (subst (λ (l : LaidTree). FitsPlace l b.task (OfTypes l types) (live_at b q.place) s) at.numbered.laid
      (node_typed b (is.sorts t) at.body n s h))

  lawful_tables : (pair : Pair) → FitsPair p pair → AreLines (flat_map table_lines (enumerate_from 0 pair.tables))
  lawful_tables pair fits = numbered_lines table_lines 0 pair.tables (λ t table less at.
      (let count = fits.count in
      let bodies = small.bodies in
      let there : t < length p.bodies = omega (arith, less, count) in
      let is : table_at pair.tables t ≡ table = get_or_from_slice_get pair.tables t table [] at in
      let nodes = small.nodes t there in
      let size = fits.nodes t there in
      let same = ap length is in
      lawful_table (0 + t) table (omega (arith, there, bodies)) (omega (arith, nodes, size, same)) (λ n below.
      mapped (FitsBody (body_at p t) n) (λ s. AreLines (state_lines s)) (state_fits t n there) (get_or table n None)
      (subst (λ l. IfSome (get_or l n None) (FitsBody (body_at p t) n)) is
      (fits.states t n there (subst (λ l. n < length l) (sym is) below))))))

  -- ## Stores

  module _ (letters : List ℕ) (word : IsWord (tag letters)) (IsSet : ℕ → Type 0)
      (few_sets : (l : ℕ) → IsSet l → l < 2 ^ 64) (n : Nested) (fits : FitsNested p.laid p.tasks IsSet n) where
    lawful_entry : (j l : ℕ) (written : Table (Table Values)) (cells : Table Values) → get n j ≡ Some written
        → get written l ≡ Some cells → (e : ℕ × Values) → IsOf (entries cells) e → AreLines (entry_lines letters j l e)
    lawful_entry j l written cells at-j at-l e h =
        let at-x = of_entry cells e h in
        let writer = fits.writers j written at-j in
        let tasks = is.tasks in
        let bodies = small.bodies in
        let cell = (fits.shared j l e.0 written cells e.1 at-j at-l at-x).0 in
        let few = is.few in
        let a = abstract_at p.laid e.0 in (
          (
            word,
            (
              omega (arith, writer, tasks, bodies),
              (
                few_sets l (fits.sets j l written cells at-j at-l),
                (
                  omega (arith, cell, few),
                  lawful_value p.laid small.objects small.cells a.scalar e.1 (fits.values j l e.0 written cells e.1 at-j at-l at-x),
                ),
              ),
            ),
          ),
          tt,
        )

    pub lawful_nested : AreLines (nested_lines letters n)
    lawful_nested = lines_flat (task_lines letters) (entries n) (λ e h.
        (let at-j = of_entry n e h in
        lines_flat (set_lines letters e.0) (entries e.1) (λ d k.
        (let at-l = of_entry e.1 d k in
        lines_flat (entry_lines letters e.0 d.0) (entries d.1) (λ c m. lawful_entry e.0 d.0 e.1 d.1 at-j at-l c m)))))

  pub lawful_store : (store : Interferences) → FitsStore p.laid p.tasks store → AreLines (store_lines store)
  lawful_store store fits = (
    (
      (lit≤ tt, lit≤ tt, (lit≤ tt, lit≤ tt, (lit≤ tt, lit≤ tt, (lit≤ tt, lit≤ tt, (lit≤ tt, lit≤ tt, tt))))),
      tt,
    ),
    lines_append (nested_lines (codes "w") store.weak) (nested_lines (codes "y") store.sync)
        (lawful_nested (codes "w") (lit≤ tt, lit≤ tt, tt) (λ l. IsWithin l (file_set p.laid)) few_mutexes store.weak fits.weak)
        (lawful_nested (codes "y") (lit≤ tt, lit≤ tt, tt) (IsMutex p.laid) few_mutex store.sync fits.sync),
  )
    where
      few_mutex : (m : ℕ) → IsMutex p.laid m → m < 2 ^ 64
      few_mutex m is = let less = is.1 in omega (arith, less)

  -- ## Pairs

  pub lawful_pair : (pair : Pair) → FitsPair p pair → AreLines (pair_lines pair)
  lawful_pair pair fits =
      lines_append (flat_map table_lines (enumerate_from 0 pair.tables)) (store_lines pair.store ++ the_end)
      (lawful_tables pair fits) (lines_append (store_lines pair.store) the_end (lawful_store pair.store fits.fits)
      (((lit≤ tt, lit≤ tt, (lit≤ tt, lit≤ tt, (lit≤ tt, lit≤ tt, tt))), tt), tt))
