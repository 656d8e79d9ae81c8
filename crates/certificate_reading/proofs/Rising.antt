-- Tables that grow at their ends.
use Rattle.std.proofs.Common.{◌≡◌, refl, sym, ap, subst, ◌∙◌, ℕ, ◌+◌, ◌<◌, ◌≤◌, List, [], ◌∷◌, ◌++◌, length, arith}
use Rattle.std.specs.Ordering.{nat_cmp}
use Rattle.std.specs.Cmp.{nat_cmp_total}
use Rattle.std.specs.FinMap.{entries, insert, entries-insert, put, empty, len, len-entries, len-empty, empty_of_len}
use Rattle.tm_lattice.specs.Tables.{Table}
use Rattle.tm_lattice.proofs.Merging.{cmp_greater}
use Rattle.pointer_dom.specs.Values.{Values}
use Rattle.certificate_reading.specs.declared.entries.Entry.{Entry}
use Rattle.certificate_reading.specs.declared.entries.Place.{Place}
use Rattle.certificate_reading.specs.Entries.{place_number}
use Rattle.certificate_reading.specs.Nesting.{numbered_entry, cell_entries, set_entries, task_entries, AllBelow}

module _ {V : Type 0} where
  put_last : (es : List (ℕ × V)) (k : ℕ) (v : V) → AllBelow k es → put nat_cmp k v es ≡ es ++ (k, v) ∷ []
  put_last [] k v h = refl
  put_last (e ∷ es) k v h = rw (cmp_greater k e.0 h.0) (ap (λ fs. e ∷ fs) (put_last es k v h.1))

  pub entries_last : (t : Table V) (k : ℕ) (v : V) → AllBelow k (entries t)
      → entries (insert t k v) ≡ entries t ++ (k, v) ∷ []
  entries_last t k v h = entries-insert nat_cmp_total t k v ∙ put_last (entries t) k v h

  pub below_raise : (k l : ℕ) (es : List (ℕ × V)) → k ≤ l → AllBelow k es → AllBelow l es
  below_raise k l [] le h = tt
  below_raise k l (e ∷ es) le h = let b = h.0 in (omega (arith, b, le), below_raise k l es le h.1)

  pub below_more : (k : ℕ) (es : List (ℕ × V)) (v : V) → AllBelow k es → AllBelow (k + 1) (es ++ (k, v) ∷ [])
  below_more k [] v h = (omega arith, tt)
  below_more k (e ∷ es) v h = let b = h.0 in (omega (arith, b), below_more k es v h.1)

  nothing_in : (es : List (ℕ × V)) → length es ≡ 0 → es ≡ []
  nothing_in [] e = refl
  nothing_in (x ∷ es) e = absurd (omega (arith, e))

  pub none_listed : (t : Table V) → t ≡ empty → entries t ≡ []
  none_listed t none = nothing_in (entries t) (sym (len-entries t) ∙ (ap len none ∙ len-empty nat_cmp V))

-- ## Entries behind others

cells_onto : (task set : ℕ) (es : List (ℕ × Values)) (e : ℕ × Values) (rest : List (ℕ × Entry))
    → cell_entries task set (es ++ e ∷ []) rest ≡ cell_entries task set es (numbered_entry task set e ∷ rest)
cells_onto task set [] e rest = refl
cells_onto task set (d ∷ es) e rest = ap (λ r. numbered_entry task set d ∷ r) (cells_onto task set es e rest)

pub sets_onto : (task : ℕ) (es : List (ℕ × Table Values)) (e : ℕ × Table Values) (rest : List (ℕ × Entry))
    → set_entries task (es ++ e ∷ []) rest ≡ set_entries task es (cell_entries task e.0 (entries e.1) rest)
sets_onto task [] e rest = refl
sets_onto task (d ∷ es) e rest = ap (cell_entries task d.0 (entries d.1)) (sets_onto task es e rest)

pub tasks_onto : (es : List (ℕ × Table (Table Values))) (e : ℕ × Table (Table Values)) (rest : List (ℕ × Entry))
    → task_entries (es ++ e ∷ []) rest ≡ task_entries es (set_entries e.0 (entries e.1) rest)
tasks_onto [] e rest = refl
tasks_onto (d ∷ es) e rest = ap (set_entries d.0 (entries d.1)) (tasks_onto es e rest)

cells_append : (task set : ℕ) (es : List (ℕ × Values)) (a b : List (ℕ × Entry))
    → cell_entries task set es (a ++ b) ≡ cell_entries task set es a ++ b
cells_append task set [] a b = refl
cells_append task set (d ∷ es) a b = ap (λ r. numbered_entry task set d ∷ r) (cells_append task set es a b)

sets_append : (task : ℕ) (es : List (ℕ × Table Values)) (a b : List (ℕ × Entry))
    → set_entries task es (a ++ b) ≡ set_entries task es a ++ b
sets_append task [] a b = refl
sets_append task (d ∷ es) a b =
    ap (cell_entries task d.0 (entries d.1)) (sets_append task es a b)
    ∙ cells_append task d.0 (entries d.1) (set_entries task es a) b

tasks_append : (es : List (ℕ × Table (Table Values))) (a b : List (ℕ × Entry))
    → task_entries es (a ++ b) ≡ task_entries es a ++ b
tasks_append [] a b = refl
tasks_append (d ∷ es) a b =
    ap (set_entries d.0 (entries d.1)) (tasks_append es a b)
    ∙ sets_append d.0 (entries d.1) (task_entries es a) b

-- a cell more under the last set
pub grown_more : (ts : List (ℕ × Table (Table Values))) (task set : ℕ) (ss : List (ℕ × Table Values))
    (cs now : List (ℕ × Values)) (e : ℕ × Values) → now ≡ cs ++ e ∷ []
    → task_entries ts (set_entries task ss (cell_entries task set now []))
    ≡ task_entries ts (set_entries task ss (cell_entries task set cs [])) ++ numbered_entry task set e ∷ []
grown_more ts task set ss cs now e is =
    let last = numbered_entry task set e ∷ [] in
    ap (λ c. task_entries ts (set_entries task ss c))
    (ap (λ c. cell_entries task set c []) is ∙ (cells_onto task set cs e [] ∙ cells_append task set cs [] last))
    ∙ (ap (task_entries ts) (sets_append task ss (cell_entries task set cs []) last)
    ∙ tasks_append ts (set_entries task ss (cell_entries task set cs [])) last)

-- one onto the other: what stands behind may be anything
pub sets_rest : (task : ℕ) (es : List (ℕ × Table Values)) (rest : List (ℕ × Entry))
    → set_entries task es rest ≡ set_entries task es [] ++ rest
sets_rest task es rest = sets_append task es [] rest

-- ## The order of places

pub later_task : (a b : Place) → a.set < 65536 → b.set < 65536 → a.cell ≤ 65536 → b.cell < 65536
    → place_number a ≤ place_number b → (a.task ≡ b.task → ⊥) → a.task < b.task
later_task a b s t c d le other = omega (arith, s, t, c, d, le, other)

pub later_set : (a b : Place) → a.task ≡ b.task → a.cell ≤ 65536 → b.cell < 65536 → place_number a ≤ place_number b
    → (a.set ≡ b.set → ⊥) → a.set < b.set
later_set a b same ac bc le other = omega (arith, same, ac, bc, le, other)

pub later_cell : (a b : Place) → a.task ≡ b.task → a.set ≡ b.set → place_number a ≤ place_number b → a.cell ≤ b.cell
later_cell a b same set le = omega (arith, same, set, le)

-- ## Tables that end

module _ {V : Type 0} where
  -- a table has an entry or none
  by_entries : (t : Table V) (P : Type 0) → (t ≡ empty → P) → ((t ≡ empty → ⊥) → P) → P
  by_entries t P none some = by_list (entries t) refl
    where
      by_list : (es : List (ℕ × V)) → entries t ≡ es → P
      by_list [] e = none (empty_of_len t (len-entries t ∙ ap length e))
      by_list (d ∷ es) e = some (λ gone. (let f : d ∷ es ≡ [] = sym e ∙ none_listed t gone in cc))

pub sets_behind : (old new : Table (Table Values)) (set : ℕ) (cells : Table Values) → (cells ≡ empty → new ≡ old)
    → ((cells ≡ empty → ⊥) → entries new ≡ entries old ++ (set, cells) ∷ []) → (task : ℕ)
    → set_entries task (entries new) [] ≡ set_entries task (entries old) (cell_entries task set (entries cells) [])
sets_behind old new set cells none some task =
    by_entries cells _
    (λ gone. ap (λ t. set_entries task (entries t) []) (none gone)
    ∙ ap (λ es. set_entries task (entries old) (cell_entries task set es [])) (sym (none_listed cells gone)))
    (λ there. ap (λ es. set_entries task es []) (some there) ∙ sets_onto task (entries old) (set, cells) [])

pub tasks_behind : (old new : Table (Table (Table Values))) (task : ℕ) (sets : Table (Table Values))
    → (sets ≡ empty → new ≡ old) → ((sets ≡ empty → ⊥) → entries new ≡ entries old ++ (task, sets) ∷ [])
    → task_entries (entries new) [] ≡ task_entries (entries old) (set_entries task (entries sets) [])
tasks_behind old new task sets none some =
    by_entries sets _
    (λ gone. ap (λ t. task_entries (entries t) []) (none gone)
    ∙ ap (λ es. task_entries (entries old) (set_entries task es [])) (sym (none_listed sets gone)))
    (λ there. ap (λ es. task_entries es []) (some there) ∙ tasks_onto (entries old) (task, sets) [])

pub below_none : {V : Type 0} (k : ℕ) (t : Table V) → t ≡ empty → AllBelow k (entries t)
below_none k t none = subst (AllBelow k) (sym (none_listed t none)) tt

-- tables with nothing behind those of the tasks that are done
pub none_next : (ts : List (ℕ × Table (Table Values))) (task set : ℕ) (sets : Table (Table Values))
    (cells : Table Values) → sets ≡ empty → cells ≡ empty
    → task_entries ts (set_entries task (entries sets) (cell_entries task set (entries cells) [])) ≡ task_entries ts []
none_next ts task set sets cells s c =
    ap (λ es. task_entries ts (set_entries task es (cell_entries task set (entries cells) []))) (none_listed sets s)
    ∙ ap (λ es. task_entries ts (cell_entries task set es [])) (none_listed cells c)

pub none_grown : (tasks : Table (Table (Table Values))) (task set : ℕ) (sets : Table (Table Values))
    (cells : Table Values) → tasks ≡ empty → sets ≡ empty → cells ≡ empty
    → task_entries (entries tasks) (set_entries task (entries sets) (cell_entries task set (entries cells) [])) ≡ []
none_grown tasks task set sets cells t s c =
    none_next (entries tasks) task set sets cells s c ∙ ap (λ es. task_entries es []) (none_listed tasks t)

pub none_cells : (ts : List (ℕ × Table (Table Values))) (task set : ℕ) (sets : List (ℕ × Table Values))
    (cells : Table Values) → cells ≡ empty
    → task_entries ts (set_entries task sets (cell_entries task set (entries cells) []))
    ≡ task_entries ts (set_entries task sets [])
none_cells ts task set sets cells c =
    ap (λ es. task_entries ts (set_entries task sets (cell_entries task set es []))) (none_listed cells c)

-- the same next set by other numbers
pub grown_turned : (ts : List (ℕ × Table (Table Values))) (ss : List (ℕ × Table Values)) (cs : List (ℕ × Values))
    (task set t s : ℕ) → t ≡ task → s ≡ set
    → task_entries ts (set_entries task ss (cell_entries task set cs []))
    ≡ task_entries ts (set_entries t ss (cell_entries t s cs []))
grown_turned ts ss cs task set t s a b =
    ap (λ n. task_entries ts (set_entries n ss (cell_entries n set cs []))) (sym a)
    ∙ ap (λ m. task_entries ts (set_entries t ss (cell_entries t m cs []))) (sym b)
