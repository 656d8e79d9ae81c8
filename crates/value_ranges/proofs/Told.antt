-- What is noted is what the tables and the store tell.
use Rattle.std.proofs.Common.{◌≡◌, ◌⊎◌, ℕ, zero, suc, ◌<◌, ◌≤◌, refl, ap, sym, subst, ◌∙◌, inl, inr, List, []}
use Rattle.std.proofs.Common.{◌∷◌, length, get_or, true, Option, Some, None, IfSome, arith}
use Rattle.std.specs.Prelude.{ℤ, nat_le, slice_get}
use Rattle.std.specs.FinMap as map
use Rattle.std.specs.FinMap.{get, entries}
use Rattle.std.proofs.lemmas.List.{get_or_default, get_or_past}
use Rattle.std.proofs.lemmas.Bool.Decides.{nat_tests}
use Rattle.std.proofs.lemmas.Option.{slice_get_within}
use native.Mathlib.Decide.{dec_lt}
use Rattle.strided_dom.specs.Progression.{Has}
use Rattle.tm_laid.specs.declared.objects.Initial.TheVariants as Initials
use Rattle.tm_laid.specs.Layouts.{LaidTree, cell_at}
use Rattle.tm_lattice.specs.Tables.{Table}
use Rattle.pointer_dom.specs.Values.{Values}
use Rattle.interfere_set.specs.Stores.{Interferences, value_or_none, left_in}
use Rattle.interfere_set.specs.laws.Joins.{IsOf, of_entry, entry_of}
use Rattle.program_reports.specs.post_recheck.transfer_rows.StateForms.{State, own_of}
use Rattle.program_reports.specs.post_recheck.transfer_rows.Contributions.{entry_at, at_task}
use Rattle.program_reports.specs.post_recheck.table_covers.Solutions.{at}
use Rattle.program_reports.specs.post_recheck.program_equations.Readings.{read_layout}
use Rattle.program_reports.specs.post_recheck.program_equations.Programs.{ProgramBodies, body_at, IsProgram}
use Rattle.program_reports.specs.post_recheck.program_equations.Solutions.{table_at, tables_of}
use Rattle.program_reports.specs.post_recheck.program_equations.laws.Lawful.{in_bodies}
use Rattle.program_reports.specs.post_recheck.Pairs.{FitsPair}
use Rattle.value_ranges.specs.declared.object_bounds.ObjectBounds.{ObjectBounds}
use Rattle.value_ranges.specs.declared.cells.IntegerCell.{IntegerCell}
use Rattle.value_ranges.specs.declared.object_bounds.Grouping.{Grouping}
use Rattle.value_ranges.specs.declared.object_bounds.Grouping.TheVariants as Groupings
use Rattle.value_ranges.specs.Ranges.{AreLeast, IsKeyOf, key_count, IsToldNumber, IsNumberBy, IsNumberOf, AreBoundsBy}
use Rattle.value_ranges.specs.Ranges.{AreBounds, AreBoundsIf, AreRising, IsListed, AreRanges, AreCellRanges}
use Rattle.value_ranges.specs.Ranges.IsToldNumber.{at_first, at_node, in_store}
use Rattle.value_ranges.specs.reading.Notes.{Noted, noted_at, IsIn, IsNamed, IsWidened, Below, IsFirst, IsFirstBelow}
use Rattle.value_ranges.specs.reading.Notes.{AreIntegerCells, no_integer_cell, IsInCell, IsInNode, IsInTable}
use Rattle.value_ranges.specs.reading.Notes.{IsInTables, IsInWeak, held_at, written_at, is_noted}
use Rattle.value_ranges.specs.reading.Notes.{AreListed, AreNotedIn}
use Rattle.value_ranges.proofs.Widening.{either, nothing_in}
use Rattle.value_ranges.proofs.Rising.{true_cases, is_raised, raised_from, looks, IsBounded, all_bounded}

le_true : (m n : ℕ) → m ≤ n → nat_le m n ≡ true
le_true m n le = grind (arith, nat_tests)

-- ## Entries by their places

of_index : {X : Type 0} (xs : List X) (i : ℕ) (d : X) → i < length xs → IsOf xs (get_or xs i d)
of_index [] i d lt = absurd (omega (arith, lt))
of_index (x ∷ xs) zero d lt = inl refl
of_index (x ∷ xs) (suc i) d lt = inr (of_index xs i d (omega (arith, lt)))

index_of : {X : Type 0} (xs : List X) (d x : X) → IsOf xs x → (i : ℕ) × (i < length xs) × (get_or xs i d ≡ x)
index_of [] d x h = absurd h
index_of (y ∷ xs) d x (inl e) = (zero, omega arith, sym e)
index_of (y ∷ xs) d x (inr h) =
    let more = index_of xs d x h in (suc more.0, (let lt = more.1 in omega (arith, lt)), more.2)

within_table : (table : List (Option State)) (n : ℕ) (s : State) → at table n ≡ Some s → n < length table
within_table table n s e = by_place (dec_lt n (length table))
  where
    by_place : Dec (n < length table) → n < length table
    by_place (yes lt) = lt
    by_place (no not_lt) =
        absurd (let clash : None ≡ Some s = sym (get_or_past table n None (omega (arith, not_lt))) ∙ e in cc)

within_tables : (tables : List (List (Option State))) (t n : ℕ) (s : State) → at (table_at tables t) n ≡ Some s
    → t < length tables
within_tables tables t n s e = by_place (dec_lt t (length tables))
  where
    by_place : Dec (t < length tables) → t < length tables
    by_place (yes lt) = lt
    by_place (no not_lt) =
        let none : table_at tables t ≡ [] = get_or_past tables t [] (omega (arith, not_lt)) in
        absurd (let clash : None ≡ Some s = ap (λ (xs : List (Option State)). at xs n) (sym none) ∙ e in cc)

-- ## Layouts

pub read_cell : (by : Grouping) (laid : LaidTree) (key x : ℕ) → IsKeyOf by laid key x → IsKeyOf by (read_layout laid) key x
read_cell Groupings.Objects laid key x h =
    record { within = h.within; of = h.of; integer = h.integer; there = h.there; static = h.static }
read_cell Groupings.Cells laid key x h = (
  h.0,
  (let of = h.1 in
      record { within = of.within; of = of.of; integer = of.integer; there = of.there; static = of.static }),
)

pub cell_read : (by : Grouping) (laid : LaidTree) (key x : ℕ) → IsKeyOf by (read_layout laid) key x → IsKeyOf by laid key x
cell_read Groupings.Objects laid key x h =
    record { within = h.within; of = h.of; integer = h.integer; there = h.there; static = h.static }
cell_read Groupings.Cells laid key x h = (
  h.0,
  (let of = h.1 in
      record { within = of.within; of = of.of; integer = of.integer; there = of.there; static = of.static }),
)

count_read : (by : Grouping) (laid : LaidTree) → key_count by (read_layout laid) ≡ key_count by laid
count_read Groupings.Objects laid = refl
count_read Groupings.Cells laid = refl

-- ## Numbers

module _ (by : Grouping) (p : ProgramBodies) (lists : List (List (Option State))) (store : Interferences) (laid : LaidTree)
    (read : p.laid ≡ read_layout laid) (cells : List IntegerCell) (are : AreIntegerCells by laid cells) where
  abbrev Told : ℕ → ℤ → Type 0
  Told object n = IsNumberBy p (tables_of lists) store by object n

  abbrev Seen : ℕ → ℤ → Type 0
  Seen object n = IsFirstBelow by laid (length laid.initial) object n
      ⊎ (IsInTables cells p lists (length lists) object n
      ⊎ IsInWeak cells store.weak (length (entries store.weak)) object n)

  in_program : (object x : ℕ) → IsKeyOf by laid object x → IsKeyOf by p.laid object x
  in_program object x h = subst (λ (m : LaidTree). IsKeyOf by m object x) (sym read) (read_cell by laid object x h)

  in_layout : (object x : ℕ) → IsKeyOf by p.laid object x → IsKeyOf by laid object x
  in_layout object x h = cell_read by laid object x (subst (λ (m : LaidTree). IsKeyOf by m object x) read h)

  first_told : (cell object : ℕ) (n : ℤ) → IsFirst by p.laid cell object n → Told object n
  first_told cell object n h = record {
    cell = (cell_at p.laid cell).abstract_cell;
    of = h.of;
    told = at_first cell h.within refl h.is;
  }

  first_in_program : (cell object : ℕ) (n : ℤ) → IsFirst by laid cell object n → IsFirst by p.laid cell object n
  first_in_program cell object n h =
      subst (λ (m : LaidTree). IsFirst by m cell object n) (sym read)
      (record { within = h.within; of = read_cell by laid object (cell_at laid cell).abstract_cell h.of; is = h.is })

  first_in_layout : (cell object : ℕ) (n : ℤ) → IsFirst by (read_layout laid) cell object n → IsFirst by laid cell object n
  first_in_layout cell object n h =
      record { within = h.within; of = cell_read by laid object (cell_at laid cell).abstract_cell h.of; is = h.is }

  cell_of : (k object : ℕ) → k < length cells → (let c = get_or cells k no_integer_cell in c.object ≡ object)
      → (let c = get_or cells k no_integer_cell in IsKeyOf by p.laid object c.cell)
  cell_of k object lt e =
      let c = get_or cells k no_integer_cell in
      let x : IntegerCell = record { cell = c.cell; object = object } in
      let same : c ≡ x = λ j. record { cell = c.cell; object = e j } in
      in_program object c.cell ((are object c.cell).0 (k, lt, get_or_default cells k x no_integer_cell lt ∙ same))

  node_told : (t node object : ℕ) (n : ℤ) → IsInNode cells (table_at lists t) object n node → Told object n
  node_told t node object n h =
      let k = h.has.0 in
      let c = get_or cells k no_integer_cell in record {
        cell = c.cell;
        of = cell_of k object h.has.1 h.has.2.of;
        told = at_node t node h.state h.is h.has.2.has;
      }

  -- what stands in an entry
  entry_is : (task held x : ℕ) (written : Table (Table Values)) (values : Table Values)
      → get store.weak task ≡ Some written → get written held ≡ Some values
      → entry_at store.weak task held x ≡ value_or_none (get values x)
  entry_is task held x written values one other =
      ap (λ o. at_task held x o) one ∙ ap (λ o. left_in x o) other

  weak_told : (j m k object : ℕ) (n : ℤ) → j < length (entries store.weak)
      → m < (let w = written_at cells store.weak j in length (entries w)) → k < length cells
      → IsInCell cells (λ x. value_or_none (get (held_at cells (written_at cells store.weak j) m) x)) object n k
      → Told object n
  weak_told j m k object n jl ml kl h =
      let one = get_or (entries store.weak) j (0, map.empty) in
      let other = get_or (entries one.1) m (0, map.empty) in
      let c = get_or cells k no_integer_cell in
      let e = entry_is one.0 other.0 c.cell one.1 other.1
      (of_entry store.weak one (of_index (entries store.weak) j (0, map.empty) jl))
      (of_entry one.1 other (of_index (entries one.1) m (0, map.empty) ml)) in record {
        cell = c.cell;
        of = cell_of k object kl h.of;
        told = in_store one.0 other.0 (subst (λ (v : Values). Has v.numbers n) (sym e) h.has);
      }

  table_told : (t object : ℕ) (n : ℤ)
      → IsInTable cells (nat_le p.tasks t) (body_at p t) (table_at lists t) object n → Told object n
  table_told t object n (inl h) = node_told t h.0 object n h.2.1
  table_told t object n (inr h) = node_told t h.2.node object n h.2.has

  pub seen_told : (object : ℕ) (n : ℤ) → Seen object n → Told object n
  seen_told object n (inl h) = first_told h.0 object n (first_in_program h.0 object n h.2)
  seen_told object n (inr (inl h)) = table_told h.0 object n h.2
  seen_told object n (inr (inr h)) = weak_told h.0 h.2.0 h.2.2.0 object n h.1 h.2.1 h.2.2.1 h.2.2.2

  -- a cell with a number is among the cells
  among : (object x : ℕ) (n : ℤ) (value : ℕ → Values) → IsKeyOf by p.laid object x
      → (let v = value x in Has v.numbers n) → Below (IsInCell cells value object n) (length cells)
  among object x n value of has =
      let c = (are object x).1 (in_layout object x of) in
      let k = c.0 in
      let e : get_or cells k no_integer_cell ≡ record { cell = x; object = object } =
      get_or_default cells k no_integer_cell (record { cell = x; object = object }) c.1 ∙ c.2 in (
        k,
        c.1,
        record {
          of = ap (λ (z : IntegerCell). z.object) e;
          has = subst (λ y. (let v = value y in Has v.numbers n)) (sym (ap (λ (z : IntegerCell). z.cell) e)) has;
        },
      )

  weak_seen : (task held x object : ℕ) (n : ℤ) → IsKeyOf by p.laid object x → (w : Option (Table (Table Values)))
      → get store.weak task ≡ w → (let v = at_task held x w in Has v.numbers n)
      → IsInWeak cells store.weak (length (entries store.weak)) object n
  weak_seen task held x object n of None e has = absurd (nothing_in n has)
  weak_seen task held x object n of (Some written) e has = by_held (get written held) refl has
    where
      found : (values : Table Values) → get written held ≡ Some values
          → (let v = value_or_none (get values x) in Has v.numbers n)
          → IsInWeak cells store.weak (length (entries store.weak)) object n
      found values f there =
          let one = index_of (entries store.weak) (0, map.empty) (task, written) (entry_of store.weak task written e) in
          let w-is : written ≡ written_at cells store.weak one.0 =
          sym (ap (λ (z : ℕ × Table (Table Values)). z.1) one.2) in
          let Rest = λ (w : Table (Table Values)). Below (λ k.
          Below (IsInCell cells (λ y. value_or_none (get (held_at cells w k) y)) object n) (length cells))
          (length (entries w)) in
          let other = index_of (entries written) (0, map.empty) (held, values) (entry_of written held values f) in
          let v-is : values ≡ held_at cells written other.0 = sym (ap (λ (z : ℕ × Table Values). z.1) other.2) in
          let inner : Rest written = (
            other.0,
            other.1,
            subst (λ (v : Table Values). Below (IsInCell cells (λ y. value_or_none (get v y)) object n) (length cells))
                v-is
                (among object x n (λ y. value_or_none (get values y)) of there),
          ) in
          (one.0, one.1, subst Rest w-is inner)

      by_held : (v : Option (Table Values)) → get written held ≡ v
          → (let u = left_in x v in Has u.numbers n)
          → IsInWeak cells store.weak (length (entries store.weak)) object n
      by_held None f there = absurd (nothing_in n there)
      by_held (Some values) f there = found values f there

  pub first_seen : (x object : ℕ) (n : ℤ) → IsKeyOf by p.laid object x → (cell : ℕ) → cell < length p.laid.cells
      → (let c = cell_at p.laid cell in c.abstract_cell ≡ x)
      → slice_get p.laid.initial cell ≡ Some (Initials.Number n) → Seen object n
  first_seen x object n of cell lt e is =
      let first : IsFirst by p.laid cell object n = record {
        within = lt;
        of = subst (λ y. IsKeyOf by p.laid object y) (sym e) of;
        is = is;
      } in
      let there = first_in_layout cell object n (subst (λ (m : LaidTree). IsFirst by m cell object n) read first) in
      inl (cell, slice_get_within laid.initial cell _ there.is, there)

  -- what stands where a table is looked at is seen
  node_seen : (t node x object : ℕ) (n : ℤ) (s : State) → at (table_at lists t) node ≡ Some s
      → IsKeyOf by p.laid object x → (let own = own_of s x in Has own.numbers n)
      → IsInNode cells (table_at lists t) object n node
  node_seen t node x object n s e of has = record { state = s; is = e; has = among object x n (own_of s) of has }

  pub looked_seen : (t node x object : ℕ) (n : ℤ) (s : State) → at (table_at lists t) node ≡ Some s
      → IsKeyOf by p.laid object x → (let own = own_of s x in Has own.numbers n)
      → looks (nat_le p.tasks t) (body_at p t) node ≡ true → Seen object n
  looked_seen t node x object n s e of has is =
      let b = body_at p t in
      let here = node_seen t node x object n s e of has in
      inr (inl (
        t,
        within_tables lists t node s e,
        elim (true_cases (is_noted (nat_le p.tasks t) b.heads b.written b.nodes node)
            (is_raised b.edges b.copies node) is) [
              | inl noted ↦ inl (node, within_table (table_at lists t) node s e, (noted, here))
              | inr raised ↦
                  let r = raised_from b.edges b.copies node raised in
                  inr (r.0, r.1, record { node = node; leads = r.2; has = here })
            ],
      ))

-- ## Lists

shifted : (b : ObjectBounds) (list : List ObjectBounds)
    → ((k l : ℕ) (d : ObjectBounds) → k < l → l < length (b ∷ list)
    → (let x = get_or (b ∷ list) k d in let y = get_or (b ∷ list) l d in x.object < y.object))
    → (k l : ℕ) (d : ObjectBounds) → k < l → l < length list
    → (let x = get_or list k d in let y = get_or list l d in x.object < y.object)
shifted b list h k l d kl lt = h (suc k) (suc l) d (omega (arith, kl)) (omega (arith, lt))

are_rising : (list : List ObjectBounds) → ((k l : ℕ) (d : ObjectBounds) → k < l → l < length list
    → (let x = get_or list k d in let y = get_or list l d in x.object < y.object)) → AreRising list
are_rising [] h = tt
are_rising (b ∷ []) h = tt
are_rising (b ∷ c ∷ list) h = (h 0 1 b (omega arith) (omega arith), are_rising (c ∷ list) (shifted b (c ∷ list) h))

pub named_in : (by : Grouping) (p : ProgramBodies) (laid : LaidTree) (lists : List (List (Option State)))
    (store : Interferences) (noted : List Noted) → AreNotedIn by laid p lists store.weak noted → (o : ℕ)
    → IsNamed o (noted_at noted o)
named_in by p laid lists store noted h o = (h.each o).named tt

module _ (by : Grouping) (p : ProgramBodies) (lists : List (List (Option State))) (store : Interferences)
    (laid : LaidTree) (read : p.laid ≡ read_layout laid) (is : IsProgram p)
    (fits : FitsPair p (record { tables = lists; store = store })) (least : AreLeast p lists store) (noted : List Noted)
    (in_all : AreNotedIn by laid p lists store.weak noted) where
  abbrev Number : ℕ → ℤ → Type 0
  Number object n = IsNumberBy p (tables_of lists) store by object n

  -- what is noted of that of which the numbers of a cell are told
  abbrev Bounds : ℕ → Noted → Type 0
  Bounds x b = (key : ℕ) × IsKeyOf by p.laid key x × (noted_at noted key ≡ b)

  looked_within : (t node : ℕ) (s : State) → at (table_at lists t) node ≡ Some s
      → looks (nat_le p.tasks t) (body_at p t) node ≡ true → IsBounded Bounds s
  looked_within t node s e is x b of n has =
      subst (λ c. IsIn c n) of.2
      ((in_all.each of.0).has n
      (looked_seen by p lists store laid read in_all.cells in_all.are t node x of.0 n s e of.1 has is))

  by_state : (t node : ℕ) (a : Option State) → at (table_at lists t) node ≡ a
      → looks (nat_le p.tasks t) (body_at p t) node ≡ true → IfSome a (IsBounded Bounds)
  by_state t node None e is = tt
  by_state t node (Some s) e is = looked_within t node s e is

  -- the numbers at each node lie within what is noted
  node_within : (t node : ℕ) (s : State) → at (table_at lists t) node ≡ Some s → IsBounded Bounds s
  node_within t node s e = by_task (dec_lt t p.tasks)
    where
      of_task : t < p.tasks → IsBounded Bounds s
      of_task lt =
          let nodes = fits.nodes t (in_bodies p is t lt) in
          let within = within_table (table_at lists t) node s e in
          subst (λ a. IfSome a (IsBounded Bounds)) e
          (all_bounded Bounds p is (table_at lists p.tasks) (tables_of lists) store least t lt (nat_le p.tasks t)
          (λ m m-lt looked. by_state t m (at (table_at lists t) m) refl looked) node (omega (arith, within, nodes)))

      by_task : Dec (t < p.tasks) → IsBounded Bounds s
      by_task (yes lt) = of_task lt
      by_task (no not_lt) =
          looked_within t node s e
          (ap (λ all. looks all (body_at p t) node) (le_true p.tasks t (omega (arith, not_lt))))

  told_in : (object : ℕ) (n : ℤ) → Number object n → IsIn (noted_at noted object) n
  told_in object n h = by_source h.cell h.of h.told
    where
      by_source : (x : ℕ) → IsKeyOf by p.laid object x
          → IsToldNumber p (tables_of lists) store x n → IsIn (noted_at noted object) n
      by_source x of (at_first cell lt e is) =
          (in_all.each object).has n
          (first_seen by p lists store laid read in_all.cells in_all.are x object n of cell lt e is)
      by_source x of (at_node t node s e has) =
          node_within t node s e x (noted_at noted object) (object, of, refl) n has
      by_source x of (in_store task held has) =
          (in_all.each object).has n
          (inr (inr (weak_seen by p lists store laid read in_all.cells in_all.are task held x object n of
          (get store.weak task) refl has)))

  told : (object : ℕ) → IsWidened (Number object) object None (noted_at noted object)
  told object =
      let w = in_all.each object in
      let there = seen_told by p lists store laid read in_all.cells in_all.are object in record {
        keeps = w.keeps;
        has = told_in object;
        low = λ n h. either (λ l. inl l) (λ k. inr (there n k)) (w.low n h);
        high = λ n h. either (λ l. inl l) (λ k. inr (there n k)) (w.high n h);
        named = w.named;
      }

  bounds_from : (object : ℕ) (b : ObjectBounds) → noted_at noted object ≡ Some b
      → AreBoundsBy p (tables_of lists) store by b.object b.low b.high
  bounds_from object b e =
      let w = subst (λ o. IsWidened (Number object) object None o) e (told object) in
      subst (λ o. AreBoundsBy p (tables_of lists) store by o b.low b.high) (sym (w.named tt)) (record {
        low_is = either (λ l. absurd l) (λ h. h) (w.low b.low refl);
        high_is = either (λ l. absurd l) (λ h. h) (w.high b.high refl);
        least = λ n h. (w.has n h).0;
        greatest = λ n h. (w.has n h).1;
      })

  bounded : (key : ℕ) (o : Noted) → noted_at noted key ≡ o → AreBoundsIf p (tables_of lists) store by key o
  bounded key None e = λ n number. (subst (λ o. IsWidened (Number key) key None o) e (told key)).has n number
  bounded key (Some b) e =
      let w = subst (λ o. IsWidened (Number key) key None o) e (told key) in
      subst (λ o. AreBoundsBy p (tables_of lists) store by o b.low b.high) (w.named tt) (bounds_from key b e)

  pub each_bounded : (key : ℕ) → AreBoundsIf p (tables_of lists) store by key (noted_at noted key)
  each_bounded key = bounded key (noted_at noted key) refl

  pub all_counted : length noted ≡ key_count by p.laid
  all_counted = in_all.count ∙ sym (count_read by laid) ∙ sym (ap (key_count by) read)

-- what is noted of objects, where it is widened by their numbers
module _ (p : ProgramBodies) (lists : List (List (Option State))) (store : Interferences) (noted : List Noted)
    (count : length noted ≡ length p.laid.objects)
    (are : (object : ℕ) → IsWidened (IsNumberOf p (tables_of lists) store object) object None (noted_at noted object))
  where
    object_bounds : (object : ℕ) (b : ObjectBounds) → noted_at noted object ≡ Some b
        → AreBounds p (tables_of lists) store b.object b.low b.high
    object_bounds object b e =
        let w = subst (λ o. IsWidened (IsNumberOf p (tables_of lists) store object) object None o) e (are object) in
        subst (λ o. AreBounds p (tables_of lists) store o b.low b.high) (sym (w.named tt)) (record {
          low_is = either (λ l. absurd l) (λ h. h) (w.low b.low refl);
          high_is = either (λ l. absurd l) (λ h. h) (w.high b.high refl);
          least = λ n h. (w.has n h).0;
          greatest = λ n h. (w.has n h).1;
        })

    module _ (list : List ObjectBounds) (h : AreListed noted (length noted) list) (object : ℕ) (n : ℤ)
        (number : IsNumberOf p (tables_of lists) store object n) where
      within : object < length noted
      within = let lt : object < length p.laid.objects = (let of = number.of in of.there) in omega (arith, lt, count)

      by_note : (o : Noted) → noted_at noted object ≡ o
          → IsWidened (IsNumberOf p (tables_of lists) store object) object None o → IsListed list object
      by_note None e w = absurd (w.has n number)
      by_note (Some b) e w =
          record { bounds = b; has = (h.exact b).1 (object, within, e); of = w.named tt }

      is_listed : IsListed list object
      is_listed = by_note (noted_at noted object) refl (are object)

    pub ranges_told : (list : List ObjectBounds) → AreListed noted (length noted) list
        → AreRanges p (tables_of lists) store list
    ranges_told list h = record {
      sorted = are_rising list h.rising;
      each = λ b c. let there = (h.exact b).0 c in object_bounds there.0 b there.2;
      all = λ object n number. is_listed list h object n number;
    }

module _ (p : ProgramBodies) (lists : List (List (Option State))) (store : Interferences) (laid : LaidTree)
    (read : p.laid ≡ read_layout laid) (is : IsProgram p) (fits : FitsPair p (record { tables = lists; store = store }))
    (least : AreLeast p lists store) (noted : List Noted) where
  pub are_ranges : AreNotedIn Groupings.Objects laid p lists store.weak noted → (list : List ObjectBounds)
      → AreListed noted (length noted) list → AreRanges p (tables_of lists) store list
  are_ranges in_all =
      ranges_told p lists store noted
      (all_counted Groupings.Objects p lists store laid read is fits least noted in_all)
      (told Groupings.Objects p lists store laid read is fits least noted in_all)

  pub are_cell_ranges : AreNotedIn Groupings.Cells laid p lists store.weak noted
      → AreCellRanges p (tables_of lists) store noted
  are_cell_ranges in_all = record {
    count = all_counted Groupings.Cells p lists store laid read is fits least noted in_all;
    each = each_bounded Groupings.Cells p lists store laid read is fits least noted in_all;
  }
