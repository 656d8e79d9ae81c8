-- Stores of values of one kind have one list of lines.
use Rattle.std.proofs.Common.{◌≡◌, refl, sym, ◌∙◌, ℕ, List, [], ◌∷◌, ◌++◌, pos, lit<, append_assoc}
use Rattle.std.specs.Prelude.{codes}
use Rattle.std.specs.FinMap.{entries}
use Rattle.tm_lattice.specs.Tables.{Table}
use Rattle.pointer_dom.specs.Values.{Values}
use Rattle.interfere_set.specs.Stores.{Nested, Interferences}
use Rattle.certificate_words.specs.Words.{Word, number, Line}
use Rattle.certificate_texts.specs.ValueWords.{value_words}
use Rattle.certificate_texts.specs.StateLines.{tagged}
use Rattle.certificate_texts.specs.StoreLines.{entry_lines, set_lines, task_lines, nested_lines, store_lines}
use Rattle.certificate_texts.proofs.Blocks.{AllHave, IsBehind, behind_block, cut, flat_have, AllEntries, same_table}
use Rattle.certificate_texts.proofs.Blocks.{lines_of_some}
use Rattle.certificate_texts.proofs.OneValue.{split, IsOneKind, one_value}
use Rattle.certificate_texts.proofs.OneState.{rank, first_number, second_number, third_number, rest_of}

-- the last line
abbrev pub the_end : List Line
the_end = tagged (codes "end") [] ∷ []

module _ (sizes : ℕ → ℕ) where
  -- values of one kind each, one at least
  pub record ArePlainCells (t : Table Values) : Type 0 where
    pub some : entries t ≡ [] → ⊥
    pub values : AllEntries (λ e. IsOneKind sizes e.1) (entries t)

  pub record ArePlainSets (t : Table (Table Values)) : Type 0 where
    pub some : entries t ≡ [] → ⊥
    pub cells : AllEntries (λ e. ArePlainCells e.1) (entries t)

  abbrev pub IsPlainNested : Nested → Type 0
  IsPlainNested n = AllEntries (λ e. ArePlainSets e.1) (entries n)

  module _ (letters : List ℕ) where
    entry_told : (j l k : ℕ) (v w : Values) → IsOneKind sizes v → IsOneKind sizes w
        → entry_lines letters j l (k, v) ≡ entry_lines letters j l (k, w) → v ≡ w
    entry_told j l k v w v-is w-is e =
        let a = split (number (pos j)) (number (pos j)) _ _ (rest_of _ _ e) in
        let b = split (number (pos l)) (number (pos l)) _ _ a.1 in
        let c = split (number (pos k)) (number (pos k)) (value_words v) (value_words w) b.1 in
        one_value sizes v w v-is w-is c.1

    one_cells : (j l : ℕ) (t u : Table Values) → ArePlainCells t → ArePlainCells u
        → set_lines letters j (l, t) ≡ set_lines letters j (l, u) → t ≡ u
    one_cells j l t u t-is u-is e =
        same_table third_number (entry_lines letters j l) (λ e. (refl, tt)) (IsOneKind sizes) (λ e is none. (cc))
        (entry_told j l) t u t-is.values u-is.values e

    some_set : (j : ℕ) (e : ℕ × Table Values) → ArePlainCells e.1 → set_lines letters j e ≡ [] → ⊥
    some_set j e is none = lines_of_some (entry_lines letters j e.0) (entries e.1) (each (entries e.1)) is.some none
      where
        each : (es : List (ℕ × Values)) → AllEntries (λ d. entry_lines letters j e.0 d ≡ [] → ⊥) es
        each [] = tt
        each (d ∷ es) = ((λ none. (cc)), each es)

    set_have : (j : ℕ) (e : ℕ × Table Values) → AllHave second_number e.0 (set_lines letters j e)
    set_have j e = flat_have second_number (entry_lines letters j e.0) e.0 (λ d. (refl, tt)) (entries e.1)

    one_sets : (j : ℕ) (t u : Table (Table Values)) → ArePlainSets t → ArePlainSets u
        → task_lines letters (j, t) ≡ task_lines letters (j, u) → t ≡ u
    one_sets j t u t-is u-is e =
        same_table second_number (set_lines letters j) (set_have j) ArePlainCells (some_set j) (one_cells j) t u
        t-is.cells u-is.cells e

    some_task : (e : ℕ × Table (Table Values)) → ArePlainSets e.1 → task_lines letters e ≡ [] → ⊥
    some_task e is none = lines_of_some (set_lines letters e.0) (entries e.1) (each (entries e.1) is.cells) is.some none
      where
        each : (es : List (ℕ × Table Values)) → AllEntries (λ d. ArePlainCells d.1) es
            → AllEntries (λ d. set_lines letters e.0 d ≡ [] → ⊥) es
        each [] all = tt
        each (d ∷ es) all = (some_set e.0 d all.0, each es all.1)

    task_have : (e : ℕ × Table (Table Values)) → AllHave first_number e.0 (task_lines letters e)
    task_have e = flat_have first_number (set_lines letters e.0) e.0 each (entries e.1)
      where
        each : (d : ℕ × Table Values) → AllHave first_number e.0 (set_lines letters e.0 d)
        each d = flat_have first_number (entry_lines letters e.0 d.0) e.0 (λ c. (refl, tt)) (entries d.1)

    one_nested : (n m : Nested) → IsPlainNested n → IsPlainNested m → nested_lines letters n ≡ nested_lines letters m
        → n ≡ m
    one_nested n m n-is m-is e =
        same_table first_number (task_lines letters) task_have ArePlainSets some_task one_sets n m n-is m-is e

  -- ## Stores

  nested_ranked : (letters : List ℕ) (r : ℕ) → ((ws : List Word) → rank (tagged letters ws) ≡ r)
      → (n : Nested) → AllHave rank r (nested_lines letters n)
  nested_ranked letters r is n =
      flat_have rank (task_lines letters) r (λ e. flat_have rank (set_lines letters e.0) r
      (λ d. flat_have rank (entry_lines letters e.0 d.0) r (λ c. (is (number (pos e.0) ∷ number (pos d.0) ∷ number (pos c.0) ∷ value_words c.1), tt)) (entries d.1)) (entries e.1)) (entries n)

  weak_ranked : (n : Nested) → AllHave rank 9 (nested_lines (codes "w") n)
  weak_ranked n = nested_ranked (codes "w") 9 (λ ws. refl) n

  sync_ranked : (n : Nested) → AllHave rank 10 (nested_lines (codes "y") n)
  sync_ranked n = nested_ranked (codes "y") 10 (λ ws. refl) n

  pub record IsPlainStore (store : Interferences) : Type 0 where
    pub weak : IsPlainNested store.weak
    pub sync : IsPlainNested store.sync

  -- what stands behind the weak entries
  behind_weak : (n : Nested) → IsBehind rank 9 (nested_lines (codes "y") n ++ the_end)
  behind_weak n = behind_block rank 9 10 (nested_lines (codes "y") n) the_end (lit< tt) (sync_ranked n) (lit< tt)

  tail_of : (l m : Line) (ls ms : List Line) → l ∷ ls ≡ m ∷ ms → ls ≡ ms
  tail_of l m ls ms e = cc

  pub one_store : (s t : Interferences) → IsPlainStore s → IsPlainStore t
      → store_lines s ++ the_end ≡ store_lines t ++ the_end → s ≡ t
  one_store s t s-is t-is e =
      let w = nested_lines (codes "w") in
      let y = nested_lines (codes "y") in
      let behind = sym (append_assoc (w s.weak) (y s.sync) the_end)
      ∙ tail_of _ _ ((w s.weak ++ y s.sync) ++ the_end) ((w t.weak ++ y t.sync) ++ the_end) e
      ∙ append_assoc (w t.weak) (y t.sync) the_end in
      let a = cut rank 9 (w s.weak) (w t.weak) (y s.sync ++ the_end) (y t.sync ++ the_end) (weak_ranked s.weak)
      (weak_ranked t.weak) (behind_weak s.sync) (behind_weak t.sync) behind in
      let b = cut rank 10 (y s.sync) (y t.sync) the_end the_end (sync_ranked s.sync) (sync_ranked t.sync) (lit< tt)
      (lit< tt) a.1 in
      let weak = one_nested (codes "w") s.weak t.weak s-is.weak t-is.weak a.0 in
      let sync = one_nested (codes "y") s.sync t.sync s-is.sync t-is.sync b.0 in
      (λ i. record { weak = weak i; sync = sync i })
