-- A pair of tables and a store that solves the equations of a program: what its tasks write and hear, and that its
-- tables cover each step.
use Rattle.std.specs.Prelude.{◌≡◌, ◌⊎◌, ℕ, zero, suc, ◌<◌, ◌&&◌, eqb, true, false, cond, List, length}
use Rattle.std.specs.Prelude.{map, get_or}
use Rattle.std.specs.Prelude.{Option, Some, None, IfSome}
use Rattle.std.proofs.Common.{refl, sym, ap, subst, ◌∙◌, inl, inr, arith}
use Rattle.std.proofs.lemmas.Bool.{and_from, and_left, and_right, eq-eqb, ne_eqb, cases_eq}
use Rattle.std.proofs.lemmas.List.{get_or-map, length-map}
use Rattle.program_shape.specs.concrete_values.declared.values.Value.{Value}
use Rattle.program_reports.specs.pointer_dom.Pointer.{ScalarValue}
use Rattle.program_reports.specs.pointer_dom.Values.{IsValueIn, no_value}
use Rattle.program_reports.specs.interfere_set.Stores.{Interferences, IsStoreBelow, rounded_store}
use Rattle.program_reports.specs.interfere_set.laws.StoreLaws.{store_closure}
use Rattle.program_reports.specs.transfer_rows.StateForms.{State}
use Rattle.program_reports.specs.transfer_rows.Actions.{Action, Around, stores as a_store, unlocks}
use Rattle.std.specs.FinMap.{get}
use Rattle.program_reports.specs.interfere_set.Stores.{no_interference, reader_of}
use Rattle.program_reports.specs.transfer_rows.Rows.{holds}
use Rattle.program_reports.specs.transfer_rows.Reports.{weak_of, sync_of, left_by}
use Rattle.program_reports.specs.transfer_rows.Contributions.{added, entry_at}
use Rattle.program_reports.proofs.low.transfer_rows.Contributing.{weak_added, sync_added}
use Rattle.program_reports.proofs.low.transfer_rows.CoverSteps.{none_has}
use Rattle.program_reports.specs.table_covers.declared.links.Link.{Link}
use Rattle.program_reports.specs.table_covers.Systems.{no_link, from_of}
use Rattle.program_reports.specs.table_covers.Solutions.{NodeTable, IsSolution}
use Rattle.program_reports.specs.state_fits.laws.FileSets.{in_sixteen}
use Rattle.program_reports.specs.task_equations.Bodies.{no_copy, copy_at}
use Rattle.program_reports.specs.task_equations.Equations.{equations_of, link_of, added_along, around_along}
use Rattle.program_reports.specs.program_equations.Programs.{ProgramBodies, body_at, HasSection, IsProgram}
use Rattle.program_reports.specs.program_equations.Systems.{states, FitsBody, task_entry, section_system}
use Rattle.program_reports.specs.program_equations.Solutions.{IsWholeSolution}
use Rattle.program_reports.specs.program_equations.laws.TaskEntries.{first_fits, task_entry_fits}
use Rattle.program_reports.specs.program_equations.laws.StoresFit.{nothing_fits}
use Rattle.program_reports.specs.program_equations.Entries.{first_state}
use Rattle.program_shape.specs.tm_soundness.Numbered.{TaskOf}
use Rattle.program_shape.specs.tm_soundness.Covers as covers
use Rattle.program_shape.specs.Shape.{Copy, number_of, shape_of, from_of as left_of}
use Rattle.sound_tables.specs.Programs.{part_of, parts_of, section_alone}
use Rattle.sound_tables.specs.Premises.{LaysCells, IsGraphOf}
use Rattle.sound_tables.specs.Meanings.{HaveMeanings}
use Rattle.sound_tables.specs.Memberships.{scalar_as, found_at, number_at, left, state_at, around_copy, action_copy}
use Rattle.sound_tables.specs.Memberships.{tables_of, section_tables}
use Rattle.sound_tables.proofs.Copies.{IsCopyNumber, copy_number}
use Rattle.sound_tables.proofs.Led.{around_is, action_is}
use Rattle.sound_tables.proofs.Entries.{entry_up, entry_of, entry_seen, entry_handed}
use Rattle.sound_tables.proofs.Hearing.{IsHeard}
use Rattle.sound_tables.proofs.Solving.{covers_all}

-- ## Tasks by number

pub number_below : (n : ℕ) (i : TaskOf n) → number_of n i < n
number_below zero i = absurd i
number_below (suc zero) i = omega arith
number_below (suc (suc n)) (inl u) = omega arith
number_below (suc (suc n)) (inr i) = omega (arith, number_below (suc n) i)

pub number_same : (n : ℕ) (i k : TaskOf n) → number_of n i ≡ number_of n k → i ≡ k
number_same zero i k e = absurd i
number_same (suc zero) i k e = refl
number_same (suc (suc n)) (inl u) (inl w) e = refl
number_same (suc (suc n)) (inl u) (inr k) e = absurd (let h = number_below (suc n) k in omega (arith, h, e))
number_same (suc (suc n)) (inr i) (inl u) e = absurd (let h = number_below (suc n) i in omega (arith, h, e))
number_same (suc (suc n)) (inr i) (inr k) e = let h = number_same (suc n) i k e in λ j. inr (h j)

-- ## What an operation adds

module _ (around : Around) (s : State) (x : ℕ) (w : ScalarValue) where
  pub weak_there : (a : Action) → IsValueIn (weak_of around a s x) w
      → IsValueIn (entry_at (added around a s).weak around.reader.task around.reader.held x) w
  unfolding weak_of
  weak_there (a_store spots address source) h =
      let t = around.reader.task in
      let l = around.reader.held in
      let here : (eqb t t && eqb l l) ≡ true = and_from (eqb t t) (eqb l l) (eq-eqb t t refl) (eq-eqb l l refl) in
      subst (λ v. IsValueIn v w) (sym (weak_added around spots address source s t l x
      ∙ ap (λ b. cond b (weak_of around (a_store spots address source) s x) no_value) here)) h
  weak_there a h = absurd (none_has w h)

  sync_by : (k m : ℕ) → (m ≡ k) ⊎ (m ≡ k → ⊥) → IsValueIn (sync_of around (unlocks k) s m x) w
      → IsValueIn (entry_at (added around (unlocks k) s).sync around.reader.task m x) w
  unfolding sync_of
  sync_by k m (inl e) h =
      let t = around.reader.task in
      let here : (eqb t t && eqb k k) ≡ true = and_from (eqb t t) (eqb k k) (eq-eqb t t refl) (eq-eqb k k refl) in
      let own : IsValueIn (sync_of around (unlocks k) s k x) w =
      subst (λ z. IsValueIn (sync_of around (unlocks k) s z x) w) e h in
      let at : IsValueIn (entry_at (added around (unlocks k) s).sync t k x) w =
      subst (λ v. IsValueIn v w) (sym (sync_added around k s t k x
      ∙ ap (λ b. cond b (sync_of around (unlocks k) s k x) no_value) here)) own in
      subst (λ z. IsValueIn (entry_at (added around (unlocks k) s).sync t z x) w) (sym e) at
  sync_by k m (inr ne) h =
      let none : (around.is_shared x && (eqb m k && holds around k)) ≡ false =
      and_right (around.is_shared x) (eqb m k && holds around k)
      (and_left (eqb m k) (holds around k) (ne_eqb m k ne)) in
      absurd (none_has w (subst (λ b. IsValueIn (cond b (left_by k (get s.cells x)) no_value) w) none h))

  pub sync_there : (a : Action) (m : ℕ) → IsValueIn (sync_of around a s m x) w
      → IsValueIn (entry_at (added around a s).sync around.reader.task m x) w
  unfolding sync_of
  sync_there (unlocks k) m h = sync_by k m (cases_eq m k) h
  sync_there a m h = absurd (none_has w h)

-- ## The tasks

module _ (p : ProgramBodies) (is : IsProgram p) (section : List (Option State)) (tables : ℕ → NodeTable State)
    (store : Interferences) (whole : IsWholeSolution p section tables store)
    (graphs : (i : TaskOf p.tasks) → IsGraphOf p (number_of p.tasks i)) where
  abbrev pub number : TaskOf p.tasks → ℕ
  number i = number_of p.tasks i

  abbrev rank : ℕ → ℕ
  rank t = get_or p.priorities t 0

  below : (i : TaskOf p.tasks) → number i < p.tasks
  below i = number_below p.tasks i

  pub within : (i : TaskOf p.tasks) → number i < length p.bodies
  within i = let a = below i in let b = is.tasks in omega (arith, a, b)

  abbrev pub entry : TaskOf p.tasks → Option State
  entry i = task_entry p section (number i)

  pub entry-fits : (i : TaskOf p.tasks) → IfSome (entry i) (FitsBody (body_at p (number i)) 0)
  entry-fits i = task_entry_fits p is section whole.begins (number i) (within i)

  pub solves : (i : TaskOf p.tasks) → IsSolution states (FitsBody (body_at p (number i)))
      (equations_of (body_at p (number i)) (entry i) store) (tables (number i))
  solves i = whole.locals (number i) (below i)

  abbrev Edges : Type 0
  Edges = Copy (part_of p p.tasks number rank)

  found_some : (table : NodeTable State) (o : Option ℕ) (s : State) → found_at table o ≡ Some s
      → (n : ℕ) × (o ≡ Some n) × (table n ≡ Some s)
  found_some table None s h = absurd (cc)
  found_some table (Some n) s h = (n, refl, h)

  -- what an edge adds lies below the bound of all contributions
  adds_below : (e : Edges) (s : State)
      → state_at p p.tasks number rank tables (left_of (part_of p p.tasks number rank) e) ≡ Some s
      → IsStoreBelow (added (around_copy p p.tasks number rank tables e) (action_copy p p.tasks number rank tables e) s)
      whole.covers.bound
  adds_below e s at =
      let i = e.actor in
      let t = number i in
      let b = body_at p t in
      let q = left p p.tasks number rank tables e in
      let here = found_some (tables t) (number_at p t q) s at in
      let copy = copy_number b (graphs i).copies q here.0 here.1 e.edge e.among refl e.answer e.answered in
      let k = copy.0 in
      let num : IsCopyNumber b q here.0 e.edge e.answer k = copy.1 in
      let link-lt : k < length (map link_of b.copies) =
      subst (λ m. k < m) (sym (length-map b.copies link_of)) num.within in
      let from : from_of (map link_of b.copies) k ≡ here.0 =
      ap (λ (l : Link). l.from) (get_or-map link_of b.copies k no_copy no_link num.within) ∙ num.from in
      let le : IsStoreBelow (added_along b (copy_at b k) s) whole.covers.bound =
      whole.covers.holds t (below i) k s link-lt (ap (tables t) from ∙ here.2) in
      subst (λ a. IsStoreBelow (added a (action_copy p p.tasks number rank tables e) s) whole.covers.bound)
      (around_is p is t (within i) q here.0 e.edge e.answer k num)
      (subst (λ a. IsStoreBelow (added (around_along b (copy_at b k)) a s) whole.covers.bound)
      (action_is p is t (within i) q here.0 e.edge e.answer k num) le)

  bound_below : IsStoreBelow whole.covers.bound (rounded_store p.marks whole.covers.bound)
  bound_below = let f = whole.covers.fits in store_closure.extensive p.marks whole.covers.bound tt f.form

  weak_up : (w : ScalarValue) (x j l : ℕ) (a : Interferences) → IsStoreBelow a whole.covers.bound
      → IsValueIn (entry_at a.weak j l x) w → IsValueIn (entry_at store.weak j l x) w
  weak_up w x j l a le h =
      let r = rounded_store p.marks whole.covers.bound in
      entry_up w x r.weak store.weak (let z = whole.covers.rounding in z.weak) j l
      (entry_up w x (let z = whole.covers.bound in z.weak) r.weak bound_below.weak j l
      (entry_up w x a.weak (let z = whole.covers.bound in z.weak) le.weak j l h))

  sync_up : (w : ScalarValue) (x j l : ℕ) (a : Interferences) → IsStoreBelow a whole.covers.bound
      → IsValueIn (entry_at a.sync j l x) w → IsValueIn (entry_at store.sync j l x) w
  sync_up w x j l a le h =
      let r = rounded_store p.marks whole.covers.bound in
      entry_up w x r.sync store.sync (let z = whole.covers.rounding in z.sync) j l
      (entry_up w x (let z = whole.covers.bound in z.sync) r.sync bound_below.sync j l
      (entry_up w x a.sync (let z = whole.covers.bound in z.sync) le.sync j l h))

  abbrev pub weak : TaskOf p.tasks → ℕ → ℕ → Value → Type 0
  weak j l x v = IsValueIn (entry_at store.weak (number j) l x) (scalar_as v)

  abbrev pub sync : TaskOf p.tasks → ℕ → ℕ → Value → Type 0
  sync j m x v = IsValueIn (entry_at store.sync (number j) m x) (scalar_as v)

  heard : IsHeard p p.tasks number rank tables store weak sync
  heard = record {
    weak_in = λ e s x v at h.
        let around = around_copy p p.tasks number rank tables e in
        let action = action_copy p p.tasks number rank tables e in
        weak_up (scalar_as v) x (number e.actor) e.held (added around action s) (adds_below e s at)
        (weak_there around s x (scalar_as v) action h);
    sync_in = λ e s m x v at h.
        let around = around_copy p p.tasks number rank tables e in
        let action = action_copy p p.tasks number rank tables e in
        sync_up (scalar_as v) x (number e.actor) m (added around action s) (adds_below e s at)
        (sync_there around s x (scalar_as v) action m h);
    weak_out = λ i j held found x l fresh v other apart why h.
        let k = entry_of (scalar_as v) x store.weak (number j) l h in
        entry_seen (reader_of (number i) held found p.priorities) fresh (number j) l
        (in_sixteen p.laid l (whole.fits.weak.sets (number j) l k.written k.cells k.at_writer k.at_set))
        (λ same. other (number_same p.tasks j i same)) apart why x store whole.fits.form (scalar_as v) h;
    sync_out = λ i j m x v other h.
        entry_handed (number i) m x (number j) store whole.fits.form
        (λ same. other (number_same p.tasks j i same)) (scalar_as v) h;
  }

  -- The tables of the tasks cover each step.
  pub tasks_covered : LaysCells p.laid → ((i : TaskOf p.tasks) → HaveMeanings p (number i) (is.sorts (number i)))
      → covers.IsSolution (shape_of (parts_of p)) (tables_of p tables store)
  tasks_covered cells means =
      covers_all p is p.tasks number rank within graphs tables store whole.fits entry entry-fits solves cells means
      weak sync heard

-- ## The initial section

module _ (p : ProgramBodies) (is : IsProgram p) (has : HasSection p) (tables : ℕ → NodeTable State)
    (solves : IsSolution states (FitsBody (body_at p p.tasks)) (section_system p) (tables p.tasks))
    (graph : IsGraphOf p p.tasks) (cells : LaysCells p.laid) (means : HaveMeanings p p.tasks (is.sorts p.tasks)) where
  alone_heard : IsHeard p 1 (λ i. p.tasks) (λ t. 0) tables no_interference (λ j l x v. Unit {0}) (λ j m x v. Unit {0})
  alone_heard = record {
    weak_in = λ e s x v at h. tt;
    sync_in = λ e s m x v at h. tt;
    weak_out = λ i j held found x l fresh v other apart why h. absurd (other refl);
    sync_out = λ i j m x v other h. absurd (other refl);
  }

  -- The table of the initial section covers each step.
  pub section_covered : covers.IsSolution (shape_of (section_alone p)) (section_tables p tables)
  section_covered =
      covers_all p is 1 (λ i. p.tasks) (λ t. 0) (λ i. has) (λ i. graph) tables no_interference
      (nothing_fits p.laid p.tasks) (λ i. Some (first_state p.laid p.tasks)) (λ i. first_fits p is p.tasks has)
      (λ i. solves) cells (λ i. means) (λ j l x v. Unit {0}) (λ j m x v. Unit {0}) alone_heard
