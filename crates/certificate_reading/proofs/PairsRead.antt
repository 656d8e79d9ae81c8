-- Pairs are read.
use Rattle.std.proofs.Common.{◌≡◌, refl, sym, ap, subst, ◌∙◌, ℕ, suc, ◌+◌, ◌<◌, ◌≤◌, ◌^◌, map, List, [], ◌∷◌, length}
use Rattle.std.proofs.Common.{get_or, arith}
use Rattle.std.proofs.Common.{Option, Some, None, lit≤}
use Rattle.std.specs.Prelude.{codes, MatchOption, IfSome}
use Rattle.std.specs.List.{flat_map, enumerate_from}
use Rattle.tm_laid.specs.declared.objects.LaidObject.{LaidObject}
use Rattle.tm_laid.specs.Layouts.{LaidTree, laid_tree}
use Rattle.interfere_set.specs.Stores.{Interferences}
use Rattle.transfer_rows.specs.StateForms.{State}
use Rattle.mutex_configs.specs.declared.programs.Program.{Program}
use Rattle.post_recheck.specs.state_fits.Fits.{FitsStore}
use Rattle.post_recheck.specs.program_equations.Programs.{ProgramBodies, body_at}
use Rattle.post_recheck.specs.program_equations.Systems.{FitsBody}
use Rattle.post_recheck.specs.program_equations.Solutions.{table_at}
use Rattle.post_recheck.specs.program_systems.Analysable.{IsAnalysable}
use Rattle.post_recheck.specs.program_systems.ProgramFacts.{AllFacts, AreProgramFacts, program_with}
use Rattle.post_recheck.specs.Pairs.{Pair, FitsPair}
use Rattle.post_recheck.proofs.low.program_systems.Bodies.{is_program}
use Rattle.certificate_words.specs.Words.{Word, tag, Line, IsLine, AreLines, line_onto, lines_text}
use Rattle.certificate_words.proofs.OneText as texts
use Rattle.certificate_parts.specs.Fronts.{line_of, IsNotFront}
use Rattle.certificate_parts.specs.Runs.{lines_onto}
use Rattle.certificate_parts.proofs.Running.{onto_append}
use Rattle.certificate_texts.specs.Certificates.{pair_lines}
use Rattle.certificate_texts.specs.Sizes.{HasSmallNumbers}
use Rattle.certificate_texts.proofs.Lawful.{lawful_pair}
use Rattle.certificate_reading.specs.Values.{AreSizes}
use Rattle.certificate_texts.specs.StateLines.{tagged}
use Rattle.certificate_texts.specs.StoreLines.{store_lines}
use Rattle.certificate_texts.specs.TableLines.{table_lines, node_lines_of}
use Rattle.certificate_reading.specs.declared.entries.Kind.TheVariants.{Weak, Sync}
use Rattle.certificate_reading.specs.Entries.{EndsKind}
use Rattle.certificate_reading.specs.Stores.{IsStoreIn, HasNoStore, last_lines, IsLastStore}
use Rattle.certificate_reading.specs.Series.{AllFit, AreRowsIn, HasNoRows}
use Rattle.certificate_reading.specs.Tables.{EndsNode, EndsTable, EndsAnyTable, FitsNode, lines_of_table}
use Rattle.certificate_reading.specs.Tables.{FitsBodyTable, AreReadTables}
use Rattle.certificate_reading.proofs.FirstLetters.{first_differs, lines_split, other_first, ends_state}
use Rattle.certificate_reading.proofs.SameLayouts.{store_read, store_laid}
use Rattle.certificate_reading.proofs.SeriesRead.{fit_at, fit_all}

text_onto : (ls : List Line) → lines_text ls ≡ lines_onto ls []
text_onto [] = refl
text_onto (l ∷ ls) = ap (line_onto l) (text_onto ls)

-- ## The last store

abbrev end_line : Line
end_line = tagged (codes "end") []

end_lawful : IsLine end_line
end_lawful = ((lit≤ tt, lit≤ tt, (lit≤ tt, lit≤ tt, (lit≤ tt, lit≤ tt, tt))), tt)

abbrev end_text : List ℕ
end_text = lines_onto (end_line ∷ []) []

ends_weak : EndsKind Weak end_text
ends_weak = other_first (codes "w") end_line [] (lit≤ tt, lit≤ tt, tt) (first_differs 119 101 [] _ (omega arith)) end_lawful

ends_sync : EndsKind Sync end_text
ends_sync = other_first (codes "y") end_line [] (lit≤ tt, lit≤ tt, tt) (first_differs 121 101 [] _ (omega arith)) end_lawful

module _ (laid : LaidTree) (old mid : List ℕ) where
  abbrev IsFound : Option Interferences → Type 0
  IsFound found = MatchOption found (HasNoStore laid old) (λ s. IsStoreIn laid old s mid)

  last_none : HasNoStore laid old → IsLastStore laid old None
  last_none none = λ other fits lawful e.
      none.never other end_text fits (lines_split (store_lines other) (end_line ∷ []) lawful).0
      (e ∙ onto_append (store_lines other) (end_line ∷ []) [])

  rest_is : (s other : Interferences) → IsStoreIn laid old s mid → FitsStore laid (length laid.file.tasks) other
      → AreLines (last_lines other) → old ≡ lines_onto (last_lines other) [] → end_text ≡ mid
  rest_is s other store fits lawful e =
      store.one other end_text fits (lines_split (store_lines other) (end_line ∷ []) lawful).0 ends_weak ends_sync
      (e ∙ onto_append (store_lines other) (end_line ∷ []) [])

  pub no_end : (found : Option Interferences) → IsFound found → IsNotFront (line_of (codes "end") []) mid
      → IsLastStore laid old None
  no_end None h none = last_none h
  no_end (Some s) h none = λ other fits lawful e.
      none.never [] end_lawful (sym (rest_is s other h fits lawful e))

  module _ (new : List ℕ) (begins : mid ≡ line_onto (line_of (codes "end") []) new) where
    pub not_last : (found : Option Interferences) → IsFound found → (new ≡ [] → ⊥) → IsLastStore laid old None
    not_last None h some = last_none h
    not_last (Some s) h some = λ other fits lawful e.
        some (texts.line end_line end_line new [] end_lawful end_lawful
        (sym begins ∙ sym (rest_is s other h fits lawful e))).1

    pub last : (found : Option Interferences) → IsFound found → new ≡ [] → IsLastStore laid old found
    last None h none = last_none h
    last (Some s) h none = (
      h.fits,
      h.is ∙ (ap (lines_onto (store_lines s)) (begins ∙ ap (line_onto end_line) none)
          ∙ sym (onto_append (store_lines s) (end_line ∷ []) [])),
    )

-- ## Whole pairs

abbrev first_line : Line
first_line = tagged (codes "store") []

other_store : tag (115 ∷ []) ≡ tag (codes "store") → ⊥
other_store e =
    let f : 115 ∷ [] ≡ codes "store" = ap letters e in let g = ap length f in omega (arith, g)
  where
    letters : Word → List ℕ
    letters (tag bs) = bs
    letters w = []

last_ends : (store : Interferences) → AreLines (last_lines store) → EndsTable (lines_onto (last_lines store) [])
last_ends store lawful =
    record {
      node = other_first (codes "node") first_line _
          (lit≤ tt, lit≤ tt, (lit≤ tt, lit≤ tt, (lit≤ tt, lit≤ tt, (lit≤ tt, lit≤ tt, tt))))
          (first_differs 110 115 _ _ (omega arith)) lawful.0;
      state = ends_state first_line _ lawful.0 (first_differs 112 115 [] _ (omega arith))
          (first_differs 102 115 [] _ (omega arith)) other_store (first_differs 107 115 [] _ (omega arith));
    }

abbrev tables_lines : List (List (Option State)) → List Line
tables_lines tables = flat_map table_lines (enumerate_from 0 tables)

pair_text : (pair : Pair)
    → lines_text (pair_lines pair) ≡ lines_onto (tables_lines pair.tables) (lines_onto (last_lines pair.store) [])
pair_text pair =
    text_onto (pair_lines pair) ∙ onto_append (tables_lines pair.tables) (last_lines pair.store) []

module _ (program : Program) (facts : AllFacts) (bytes : List ℕ)
    (lawful : (pair : Pair) → (let p = program_with program facts in FitsPair p pair) → AreLines (pair_lines pair)) where
  abbrev p : ProgramBodies
  p = program_with program facts

  abbrev laid : LaidTree
  laid = laid_tree program.laid

  abbrev Fit : List (List (Option State)) → Type 0
  Fit tables = AllFit lines_of_table (FitsBodyTable p) EndsAnyTable EndsTable 0 tables

  table_fits : (pair : Pair) → FitsPair p pair → (t : ℕ) → t < length pair.tables
      → FitsBodyTable p t (get_or pair.tables t [])
  table_fits pair fits t l =
      let count = fits.count in
      let there : t < length p.bodies = omega (arith, l, count) in
      let b = body_at p t in
      let table = table_at pair.tables t in (
        fits.nodes t there,
        fit_all node_lines_of (FitsNode (FitsBody b)) EndsNode EndsTable 0 table None (λ n m.
            (let e : n ≡ 0 + n = omega arith in
            subst (λ k. FitsNode (FitsBody b) k (get_or table n None)) e (fits.states t n there m))),
      )

  tables_fit : (pair : Pair) → FitsPair p pair → Fit pair.tables
  tables_fit pair fits =
      fit_all lines_of_table (FitsBodyTable p) EndsAnyTable EndsTable 0 pair.tables [] (λ t l.
      (let e : t ≡ 0 + t = omega arith in
      subst (λ k. FitsBodyTable p k (get_or pair.tables t [])) e (table_fits pair fits t l)))

  pair_fits : (tables : List (List (Option State))) (store : Interferences) → length tables ≡ length p.bodies → Fit tables
      → FitsStore laid (length laid.file.tasks) store → FitsPair p (record { tables = tables; store = store })
  pair_fits tables store count fit fits =
      record {
        count = count;
        nodes = λ t l. (table t l).0;
        states = λ t n l m. state t n l m;
        fits = store_read laid (length laid.file.tasks) store fits;
      }
    where
      table : (t : ℕ) → t < length p.bodies → FitsBodyTable p t (get_or tables t [])
      table t l =
          let e : 0 + t ≡ t = omega arith in
          subst (λ k. FitsBodyTable p k (get_or tables t [])) e
          (fit_at lines_of_table (FitsBodyTable p) EndsAnyTable EndsTable 0 t tables [] (omega (arith, l, count)) fit)

      state : (t n : ℕ) → t < length p.bodies → n < length (table_at tables t)
          → IfSome (get_or (table_at tables t) n None) (FitsBody (body_at p t) n)
      state t n l m =
          let e : 0 + n ≡ n = omega arith in
          subst (λ k. IfSome (get_or (table_at tables t) n None) (FitsBody (body_at p t) k)) e
          (fit_at node_lines_of (FitsNode (FitsBody (body_at p t))) EndsNode EndsTable 0 n (table_at tables t) None m
          (table t l).1)

  -- the parts of another pair's lines
  parts : (pair : Pair) → FitsPair p pair → AreLines (tables_lines pair.tables) × AreLines (last_lines pair.store)
  parts pair fits = lines_split (tables_lines pair.tables) (last_lines pair.store) (lawful pair fits)

  pub no_tables : HasNoRows lines_of_table (FitsBodyTable p) EndsAnyTable EndsTable (length p.bodies) bytes
      → (pair : Pair) → FitsPair p pair → bytes ≡ lines_text (pair_lines pair) → ⊥
  no_tables none pair fits e =
      let split = parts pair fits in
      none.never pair.tables (lines_onto (last_lines pair.store) []) fits.count (tables_fit pair fits) split.0
      (last_ends pair.store split.1) (e ∙ pair_text pair)

  module _ (tables : List (List (Option State))) (mid : List ℕ)
      (rows : AreRowsIn lines_of_table (FitsBodyTable p) EndsAnyTable EndsTable (length p.bodies) bytes tables mid) where
    pub no_last : IsLastStore laid mid None → (pair : Pair) → FitsPair p pair → bytes ≡ lines_text (pair_lines pair) → ⊥
    no_last none pair fits e =
        let split = parts pair fits in
        none pair.store (store_laid laid (length laid.file.tasks) pair.store fits.fits) split.1
        (sym (rows.one pair.tables (lines_onto (last_lines pair.store) []) fits.count (tables_fit pair fits) split.0
        (last_ends pair.store split.1) (e ∙ pair_text pair)))

    pub whole : (store : Interferences) → IsLastStore laid mid (Some store)
        → FitsPair p (record { tables = tables; store = store })
        × (bytes ≡ lines_text (pair_lines (record { tables = tables; store = store })))
    whole store last = (
      pair_fits tables store rows.counted rows.fits last.0,
      rows.is ∙ (ap (lines_onto (tables_lines tables)) last.1
          ∙ sym (pair_text (record { tables = tables; store = store }))),
    )

-- ## Limits of a program

sizes_length : (os : List LaidObject) → length (map (λ (o : LaidObject). o.cells) os) ≡ length os
sizes_length [] = refl
sizes_length (o ∷ os) = ap suc (sizes_length os)

pub sizes_few : (given : LaidTree) (sizes : List ℕ) → AreSizes given sizes → length given.objects ≤ 2 ^ 32
    → length sizes ≤ 2 ^ 32
sizes_few given sizes are few =
    let e : length sizes ≡ length given.objects = ap length are ∙ sizes_length given.objects in omega (arith, e, few)

module _ (program : Program) (facts : AllFacts) (analysable : IsAnalysable program)
    (known : AreProgramFacts program facts) where
  pub tasks_few : length program.laid.file.tasks.items < 2 ^ 32
  tasks_few =
      let le = analysable.tasks in let small = analysable.small in omega (arith, le, small)

  module _ (bytes : List ℕ) (small : (let p = program_with program facts in HasSmallNumbers p)) where
    all_lawful : (pair : Pair) → (let p = program_with program facts in FitsPair p pair) → AreLines (pair_lines pair)
    all_lawful pair fits =
        let p = program_with program facts in
        lawful_pair p (is_program program facts analysable known) small pair fits

    -- no pair where there are no tables
    pub pair_none : (old new : List ℕ) (found : Option (List (List (Option State)))) → old ≡ bytes
        → (let p = program_with program facts in AreReadTables (FitsBodyTable p) (length p.bodies) old found new)
        → found ≡ None → (pair : Pair) → (let p = program_with program facts in FitsPair p pair)
        → bytes ≡ lines_text (pair_lines pair) → ⊥
    pair_none old new None same rows is pair fits e =
        no_tables program facts old all_lawful rows pair fits (same ∙ e)
    pair_none old new (Some tables) same rows is pair fits e = absurd (cc)

    pub pair_no_last : (old mid : List ℕ) (tables : List (List (Option State))) → old ≡ bytes
        → (let p = program_with program facts in AreReadTables (FitsBodyTable p) (length p.bodies) old (Some tables) mid)
        → IsLastStore (laid_tree program.laid) mid None → (pair : Pair)
        → (let p = program_with program facts in FitsPair p pair) → bytes ≡ lines_text (pair_lines pair) → ⊥
    pair_no_last old mid tables same rows last pair fits e =
        no_last program facts old all_lawful tables mid rows last pair fits (same ∙ e)

    pub pair_whole : (old mid : List ℕ) (tables : List (List (Option State))) (store : Interferences) → old ≡ bytes
        → (let p = program_with program facts in AreReadTables (FitsBodyTable p) (length p.bodies) old (Some tables) mid)
        → IsLastStore (laid_tree program.laid) mid (Some store)
        → (let p = program_with program facts in FitsPair p (record { tables = tables; store = store }))
        × (bytes ≡ lines_text (pair_lines (record { tables = tables; store = store })))
    pair_whole old mid tables store same rows last =
        let w = whole program facts old all_lawful tables mid rows store last in (w.0, sym same ∙ w.1)
