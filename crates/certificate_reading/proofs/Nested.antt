-- Nested tables and their entries one after another.
use Rattle.std.proofs.Common.{◌≡◌, refl, sym, ap, subst, ◌∙◌, ℕ, ◌+◌, ◌<◌, ◌≤◌, List, [], ◌∷◌, ◌++◌, Option, Some}
use Rattle.std.proofs.Common.{T, inl, inr, lit≤, arith}
use Rattle.std.specs.Prelude.{IfSome, length, ◌*◌}
use Rattle.std.specs.List.{flat_map}
use Rattle.std.specs.Ordering.{nat_cmp}
use Rattle.std.specs.FinMap.{is_sorted, get, entries, entries_sorted, empty, empty_of_len, len-entries}
use Rattle.tm_lattice.specs.Tables.{Table, IsTable}
use Rattle.tm_lattice.specs.laws.Keys.{AllAbove, AllAbove-rest, is_sorted-rest}
use Rattle.tm_laid.specs.Layouts.{LaidTree}
use Rattle.pointer_dom.specs.Values.{Values, IsValues, no_value}
use Rattle.interfere_set.specs.Stores.{Nested, IsNested, HasNoEntry}
use Rattle.interfere_set.specs.laws.Joins.{IsOf, of_entry, entry_of}
use Rattle.post_recheck.specs.state_fits.Fits.{FitsNested}
use Rattle.certificate_words.specs.Words.{Line, AreLines}
use Rattle.certificate_parts.specs.Runs.{lines_onto}
use Rattle.certificate_parts.specs.Risings.{AreRising, entries_onto}
use Rattle.certificate_parts.proofs.Running.{onto_append}
use Rattle.certificate_texts.specs.StoreLines.{entry_lines, set_lines, task_lines, nested_lines}
use Rattle.certificate_texts.proofs.Blocks.{AllEntries}
use Rattle.certificate_texts.proofs.OnePair.{all_at}
use Rattle.certificate_reading.specs.declared.entries.Entry.{Entry}
use Rattle.certificate_reading.specs.declared.entries.Kind.{Kind}
use Rattle.certificate_reading.specs.Entries.{letters_of, IsUnder, IsNumbered, EndsKind, entry_onto, place_number}
use Rattle.certificate_reading.specs.Nesting.{place_of, numbered_entry, cell_entries, set_entries, task_entries}

-- ## Lines

lines_front : (a b : List Line) → AreLines (a ++ b) → AreLines a × AreLines b
lines_front [] b h = (tt, h)
lines_front (l ∷ a) b h = let r = lines_front a b h.1 in ((h.0, r.0), r.1)

-- ## Entries of tables

module _ {V : Type 0} where
  of_all : (P : ℕ × V → Type 0) (es : List (ℕ × V)) (e : ℕ × V) → IsOf es e → AllEntries P es → P e
  of_all P [] e h all = absurd h
  of_all P (x ∷ es) e (inl here) all = subst P (sym here) all.0
  of_all P (x ∷ es) e (inr there) all = of_all P es e there all.1

  pub at_entry : (P : ℕ × V → Type 0) (t : Table V) (k : ℕ) (v : V) → AllEntries P (entries t) → get t k ≡ Some v
      → P (k, v)
  at_entry P t k v all at = of_all P (entries t) (k, v) (entry_of t k v at) all

  there : (P : V → Type 0) (o : Option V) (v : V) → o ≡ Some v → IfSome o P → P v
  there P o v at h = subst (λ (x : Option V). IfSome x P) at h

  -- an entry of a table that has some
  pub record IsThere (t : Table V) : Type 0 where
    pub key : ℕ
    pub value : V
    pub at : get t key ≡ Some value

  pick : (t : Table V) → (t ≡ empty → ⊥) → IsThere t
  pick t some = by_list (entries t) refl
    where
      by_list : (es : List (ℕ × V)) → entries t ≡ es → IsThere t
      by_list [] e = absurd (some (empty_of_len t (len-entries t ∙ ap length e)))
      by_list (d ∷ es) e = record {
        key = d.0;
        value = d.1;
        at = of_entry t d (subst (λ (l : List (ℕ × V)). IsOf l d) (sym e) (inl refl));
      }

  -- the first key, if there is one, is this at least
  abbrev pub Starts : ℕ → List (ℕ × V) → Type 0
  Starts k [] = Unit {0}
  Starts k (e ∷ es) = k ≤ e.0

  starts_above : (k : ℕ) (es : List (ℕ × V)) → AllAbove k es → Starts (k + 1) es
  starts_above k [] h = tt
  starts_above k (e ∷ es) h = let l = h.0 in omega (arith, l)

  starts_none : (es : List (ℕ × V)) → Starts 0 es
  starts_none [] = tt
  starts_none (e ∷ es) = omega arith

  -- ## Lines

  lines_each : (f : ℕ × V → List Line) (es : List (ℕ × V)) → AreLines (flat_map f es)
      → AllEntries (λ e. AreLines (f e)) es
  lines_each f [] h = tt
  lines_each f (e ∷ es) h = let r = lines_front (f e) (flat_map f es) h in (r.0, lines_each f es r.1)

  lines_at : (f : ℕ × V → List Line) (t : Table V) (k : ℕ) (v : V) → AreLines (flat_map f (entries t))
      → get t k ≡ Some v → AreLines (f (k, v))
  lines_at f t k v h at = at_entry (λ e. AreLines (f e)) t k v (lines_each f (entries t) h) at

module _ (laid : LaidTree) (kind : Kind) where
  abbrev Onto : ℕ × Entry → List ℕ → List ℕ
  Onto = entry_onto kind

  abbrev Fits : ℕ × Entry → Type 0
  Fits = IsNumbered laid kind

  abbrev After : List ℕ → Type 0
  After = EndsKind kind

  -- ## The text of entries

  cells_text : (task set : ℕ) (es : List (ℕ × Values)) (rest : List (ℕ × Entry)) (text : List ℕ)
      → entries_onto Onto Fits After (cell_entries task set es rest) text
      ≡ lines_onto (flat_map (entry_lines (letters_of kind) task set) es) (entries_onto Onto Fits After rest text)
  cells_text task set [] rest text = refl
  cells_text task set (e ∷ es) rest text = ap (Onto (numbered_entry task set e)) (cells_text task set es rest text)

  sets_text : (task : ℕ) (es : List (ℕ × Table Values)) (rest : List (ℕ × Entry)) (text : List ℕ)
      → entries_onto Onto Fits After (set_entries task es rest) text
      ≡ lines_onto (flat_map (set_lines (letters_of kind) task) es) (entries_onto Onto Fits After rest text)
  sets_text task [] rest text = refl
  sets_text task (d ∷ es) rest text =
      cells_text task d.0 (entries d.1) (set_entries task es rest) text
      ∙ (ap (lines_onto (set_lines (letters_of kind) task d)) (sets_text task es rest text)
      ∙ sym (onto_append (set_lines (letters_of kind) task d) (flat_map (set_lines (letters_of kind) task) es)
      (entries_onto Onto Fits After rest text)))

  tasks_text : (es : List (ℕ × Table (Table Values))) (rest : List (ℕ × Entry)) (text : List ℕ)
      → entries_onto Onto Fits After (task_entries es rest) text
      ≡ lines_onto (flat_map (task_lines (letters_of kind)) es) (entries_onto Onto Fits After rest text)
  tasks_text [] rest text = refl
  tasks_text (d ∷ es) rest text =
      sets_text d.0 (entries d.1) (task_entries es rest) text
      ∙ (ap (lines_onto (task_lines (letters_of kind) d)) (tasks_text es rest text)
      ∙ sym (onto_append (task_lines (letters_of kind) d) (flat_map (task_lines (letters_of kind)) es)
      (entries_onto Onto Fits After rest text)))

  pub nested_text : (n : Nested) (text : List ℕ) → entries_onto Onto Fits After (task_entries (entries n) []) text
      ≡ lines_onto (nested_lines (letters_of kind) n) text
  nested_text n text = tasks_text (entries n) [] text

  -- ## What fits

  abbrev CellsFit : ℕ → ℕ → List (ℕ × Values) → Type 0
  CellsFit task set es = AllEntries (λ e. Fits (numbered_entry task set e)) es

  abbrev SetsFit : ℕ → List (ℕ × Table Values) → Type 0
  SetsFit task es = AllEntries (λ d. CellsFit task d.0 (entries d.1)) es

  abbrev pub TasksFit : List (ℕ × Table (Table Values)) → Type 0
  TasksFit es = AllEntries (λ d. SetsFit d.0 (entries d.1)) es

  -- entries from a number on
  record Rises (es : List (ℕ × Entry)) : Type 0 where
    bound : ℕ
    rise : AreRising Onto Fits After bound es

  cells_fit : (task set bound : ℕ) (es : List (ℕ × Values)) (rest : List (ℕ × Entry))
      → AreRising Onto Fits After bound (cell_entries task set es rest) → CellsFit task set es × Rises rest
  cells_fit task set bound [] rest h = (tt, record { bound = bound; rise = h })
  cells_fit task set bound (e ∷ es) rest h =
      let r = cells_fit task set (place_number (place_of task set e.0) + 1) es rest h.2 in ((h.0, r.0), r.1)

  sets_fit : (task bound : ℕ) (es : List (ℕ × Table Values)) (rest : List (ℕ × Entry))
      → AreRising Onto Fits After bound (set_entries task es rest) → SetsFit task es × Rises rest
  sets_fit task bound [] rest h = (tt, record { bound = bound; rise = h })
  sets_fit task bound (d ∷ es) rest h =
      let a = cells_fit task d.0 bound (entries d.1) (set_entries task es rest) h in
      let b = sets_fit task a.1.bound es rest a.1.rise in ((a.0, b.0), b.1)

  pub tasks_fit : (bound : ℕ) (es : List (ℕ × Table (Table Values)))
      → AreRising Onto Fits After bound (task_entries es []) → TasksFit es
  tasks_fit bound [] h = tt
  tasks_fit bound (d ∷ es) h =
      let a = sets_fit d.0 bound (entries d.1) (task_entries es []) h in
      (a.0, tasks_fit a.1.bound es a.1.rise)

  -- ## Nested tables fit

  module _ (n : Nested) (form : IsNested n) where
    task_is : (j : ℕ) (written : Table (Table Values)) → get n j ≡ Some written
        → IsTable (IsTable IsValues (λ v. v ≡ no_value)) HasNoEntry written × (HasNoEntry written → ⊥)
    task_is j written at =
        there (λ w. IsTable (IsTable IsValues (λ v. v ≡ no_value)) HasNoEntry w × (HasNoEntry w → ⊥)) (get n j) written at
        (form j)

    set_is : (j l : ℕ) (written : Table (Table Values)) (cells : Table Values) → get n j ≡ Some written
        → get written l ≡ Some cells → IsTable IsValues (λ v. v ≡ no_value) cells × (HasNoEntry cells → ⊥)
    set_is j l written cells at-j at-l =
        there (λ w. IsTable IsValues (λ v. v ≡ no_value) w × (HasNoEntry w → ⊥)) (get written l) cells at-l
        ((task_is j written at-j).0 l)

    value_is : (j l x : ℕ) (written : Table (Table Values)) (cells : Table Values) (v : Values) → get n j ≡ Some written
        → get written l ≡ Some cells → get cells x ≡ Some v → IsValues v × (v ≡ no_value → ⊥)
    value_is j l x written cells v at-j at-l at-x =
        there (λ w. IsValues w × (w ≡ no_value → ⊥)) (get cells x) v at-x ((set_is j l written cells at-j at-l).0 x)

    module _ (fit : TasksFit (entries n)) where
      fit_at : (j l x : ℕ) (written : Table (Table Values)) (cells : Table Values) (v : Values) → get n j ≡ Some written
          → get written l ≡ Some cells → get cells x ≡ Some v → Fits (numbered_entry j l (x, v))
      fit_at j l x written cells v at-j at-l at-x =
          at_entry (λ e. Fits (numbered_entry j l e)) cells x v
          (at_entry (λ (d : ℕ × Table Values). CellsFit j d.0 (entries d.1)) written l cells
          (at_entry (λ (d : ℕ × Table (Table Values)). SetsFit d.0 (entries d.1)) n j written fit at-j) at-l) at-x

      set_fit : (j l : ℕ) (written : Table (Table Values)) (cells : Table Values) → get n j ≡ Some written
          → get written l ≡ Some cells → (l < 65536) × (j < length laid.file.tasks) × IsUnder laid kind l
      set_fit j l written cells at-j at-l =
          let e = pick cells (set_is j l written cells at-j at-l).1 in
          let h = fit_at j l e.key written cells e.value at-j at-l e.at in
          (h.small.set, h.entry.place.task, h.entry.place.set)

      pub nested_fits : FitsNested laid (length laid.file.tasks) (IsUnder laid kind) n
      nested_fits = record {
        writers = λ j written at-j.
            (let d = pick written (task_is j written at-j).1 in (set_fit j d.key written d.value at-j d.at).1);
        sets = λ j l written cells at-j at-l. (set_fit j l written cells at-j at-l).2;
        shared = λ j l x written cells v at-j at-l at-x.
            (let h = fit_at j l x written cells v at-j at-l at-x in (h.entry.place.cell, h.entry.place.shared));
        values = λ j l x written cells v at-j at-l at-x.
            (fit_at j l x written cells v at-j at-l at-x).entry.value;
      }

    -- ## Their entries rise

    module _ (few : (l : ℕ) → IsUnder laid kind l → l < 65536) (small : length laid.abstract_cells ≤ 65536)
        (fits : FitsNested laid (length laid.file.tasks) (IsUnder laid kind) n)
        (lawful : AreLines (nested_lines (letters_of kind) n)) where
      abbrev SetsRise : ℕ → List (ℕ × Table Values) → Type 0
      SetsRise task es = AllEntries (λ d. (d.0 < 65536) × CellsFit task d.0 (entries d.1)) es

      abbrev TasksRise : List (ℕ × Table (Table Values)) → Type 0
      TasksRise es = AllEntries (λ d. SetsRise d.0 (entries d.1)) es

      entry_fits : (j l x : ℕ) (written : Table (Table Values)) (cells : Table Values) (v : Values)
          → get n j ≡ Some written → get written l ≡ Some cells → get cells x ≡ Some v
          → Fits (numbered_entry j l (x, v))
      entry_fits j l x written cells v at-j at-l at-x =
          let under = fits.sets j l written cells at-j at-l in
          let cell = fits.shared j l x written cells v at-j at-l at-x in
          let there = cell.0 in
          let line = lines_at (entry_lines (letters_of kind) j l) cells x v
          (lines_at (set_lines (letters_of kind) j) written l cells
          (lines_at (task_lines (letters_of kind)) n j written lawful at-j) at-l) at-x in
          record {
            is = refl;
            entry = record {
              place = record {
                task = fits.writers j written at-j;
                set = under;
                cell = there;
                shared = cell.1;
              };
              value = fits.values j l x written cells v at-j at-l at-x;
              some = (value_is j l x written cells v at-j at-l at-x).1;
            };
            small = record { set = few l under; cell = omega (arith, there, small) };
            lawful = line.0;
          }

      all_rise : TasksRise (entries n)
      all_rise = all_at (λ (d : ℕ × Table (Table Values)). SetsRise d.0 (entries d.1)) n (λ j written at-j.
          all_at (λ (d : ℕ × Table Values). (d.0 < 65536) × CellsFit j d.0 (entries d.1)) written (λ l cells at-l. (
            few l (fits.sets j l written cells at-j at-l),
            all_at (λ e. Fits (numbered_entry j l e)) cells (λ x v at-x. entry_fits j l x written cells v at-j at-l at-x),
          )))

      rise_cells : (task set bound k : ℕ) (es : List (ℕ × Values)) (rest : List (ℕ × Entry)) → T (is_sorted nat_cmp es)
          → Starts k es → bound ≤ (task * 65536 + set) * 65536 + k → k ≤ 65536 → CellsFit task set es
          → ((c : ℕ) → c ≤ (task * 65536 + (set + 1)) * 65536 → AreRising Onto Fits After c rest)
          → AreRising Onto Fits After bound (cell_entries task set es rest)
      rise_cells task set bound k [] rest s from le low fit after = after bound (omega (arith, le, low))
      rise_cells task set bound k (e ∷ es) rest s from le low fit after =
          let c = fit.0.small.cell in (
            fit.0,
            omega (arith, le, from),
            rise_cells task set ((task * 65536 + set) * 65536 + e.0 + 1) (e.0 + 1) es rest (is_sorted-rest e es s)
                (starts_above e.0 es (AllAbove-rest e es s)) (omega arith) (omega (arith, c)) fit.1 after,
          )

      rise_sets : (task bound k : ℕ) (es : List (ℕ × Table Values)) (rest : List (ℕ × Entry)) → T (is_sorted nat_cmp es)
          → Starts k es → bound ≤ (task * 65536 + k) * 65536 → k ≤ 65536 → SetsRise task es
          → ((c : ℕ) → c ≤ ((task + 1) * 65536) * 65536 → AreRising Onto Fits After c rest)
          → AreRising Onto Fits After bound (set_entries task es rest)
      rise_sets task bound k [] rest s from le low fit after = after bound (omega (arith, le, low))
      rise_sets task bound k (d ∷ es) rest s from le low fit after =
          let c = fit.0.0 in
          rise_cells task d.0 bound 0 (entries d.1) (set_entries task es rest) (entries_sorted d.1)
          (starts_none (entries d.1)) (omega (arith, le, from)) (lit≤ tt) fit.0.1
          (λ b less. rise_sets task b (d.0 + 1) es rest (is_sorted-rest d es s)
          (starts_above d.0 es (AllAbove-rest d es s)) less (omega (arith, c)) fit.1 after)

      rise_tasks : (bound k : ℕ) (es : List (ℕ × Table (Table Values))) → T (is_sorted nat_cmp es) → Starts k es
          → bound ≤ (k * 65536) * 65536 → TasksRise es → AreRising Onto Fits After bound (task_entries es [])
      rise_tasks bound k [] s from le fit = tt
      rise_tasks bound k (d ∷ es) s from le fit =
          rise_sets d.0 bound 0 (entries d.1) (task_entries es []) (entries_sorted d.1) (starts_none (entries d.1))
          (omega (arith, le, from)) (lit≤ tt) fit.0
          (λ b less. rise_tasks b (d.0 + 1) es (is_sorted-rest d es s) (starts_above d.0 es (AllAbove-rest d es s)) less
          fit.1)

      pub nested_rises : AreRising Onto Fits After 0 (task_entries (entries n) [])
      nested_rises = rise_tasks 0 0 (entries n) (entries_sorted n) (starts_none (entries n)) (omega arith) all_rise
