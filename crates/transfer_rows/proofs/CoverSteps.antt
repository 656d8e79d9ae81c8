-- Entries of temporaries and cells before and after an operation, in terms of members.
use Rattle.std.specs.Prelude.{◌≡◌, ◌≢◌, ℕ, ◌<◌, ◌-◌, ◌^◌, Bool, true, false, cond, eqb, ◌||◌, IsTrue, bit_or, Option, Some, None, refl, pos}
use Rattle.std.specs.Prelude.{◌⊎◌, zero, suc, List, [], ◌∷◌}
use Rattle.std.specs.List.{list_all}
use Rattle.std.proofs.Common.{sym, ap, subst, ◌∙◌, inl, inr, ⊎_elim, arith}
use Rattle.std.specs.Int.{bit_at}
use Rattle.std.specs.Ordering.{nat_cmp}
use Rattle.std.specs.FinMap.{get, insert, retain_keys, get-empty}
use Rattle.std.proofs.lemmas.Bool.{cases_eq, cases_Bool, false≢true, eq-eqb, ne_eqb, eqb-true, and_parts, or_cases}
use Rattle.std.proofs.lemmas.Nat.Bits.{bit_at_and, bit_at_or, bit_at-lt}
use Rattle.interfere_set.specs.strided_dom.Progression.{Has}
use Rattle.interfere_set.proofs.low.strided_dom.Members.{not_in_empty}
use Rattle.cell_env.specs.tm_lattice.Tables.{Table, changed_table}
use Rattle.cell_env.specs.tm_lattice.laws.TableLaws.{get-insert_here, get-insert_there}
use Rattle.cell_env.specs.tm_lattice.laws.SelectedLaws.{changed_at, get-changed_table}
use Rattle.interfere_set.specs.pointer_dom.Pointer.{ScalarValue, number, pointer, null, invalid, to}
use Rattle.interfere_set.specs.pointer_dom.PointerSets.{offsets_or_none}
use Rattle.interfere_set.specs.pointer_dom.Values.{Values, IsValueIn, no_value}
use Rattle.transfer_rows.specs.StateForms.{Temp, Cell, State, is_no_value, temp_value, own_value, value_of, own_of}
use Rattle.transfer_rows.specs.Actions.{Around}
use Rattle.transfer_rows.specs.Rows.{dropped, kept_copy, without}
use Rattle.transfer_rows.specs.Meanings.{Valuation, put}
use Rattle.transfer_rows.specs.Covering.{AreIn, HasTemp, IsCopyOf, IsPending, IsFresh, IsStored, Keeps}
use Rattle.transfer_rows.proofs.TableChanges.{get-kept}
use Rattle.transfer_rows.proofs.Steps.{no_value_is}

pub none_has : (v : ScalarValue) → IsValueIn no_value v → ⊥
none_has (number n) h = not_in_empty n h
none_has (pointer null) h = false≢true h
none_has (pointer invalid) h = false≢true h
none_has (pointer (to object offset)) h = not_in_empty (pos offset) (subst (λ a. (let o = offsets_or_none a in Has o.offsets (pos offset))) (get-empty nat_cmp object) h)

-- a value with a member is something
pub member_some : (v : Values) (w : ScalarValue) → IsValueIn v w → is_no_value v ≡ false
member_some v w h = elim (cases_Bool (is_no_value v)) [ inl none ↦ absurd (none_has w (subst (λ u. IsValueIn u w) (no_value_is v none) h)) | inr some ↦ some ]

pub some_same : {A : Type 0} (o : Option A) (a b : A) → o ≡ Some a → o ≡ Some b → a ≡ b
some_same o a b e f = cc

pub none_some : {A : Type 0} (o : Option A) (a : A) → o ≡ None → o ≡ Some a → ⊥
none_some o a e f = cc

pub in_temp : (s : State) (temps : Valuation) (t : ℕ) → AreIn s temps → HasTemp s t → IsValueIn (value_of s t) (temps t)
in_temp s temps t ins live = subst (λ a. IsValueIn (temp_value a) (temps t)) (sym live.stands) (ins.in_value t live.entry live.stands)

pub own_in_cell : (s : State) (x : ℕ) (c : Cell) (w : ScalarValue) → get s.cells x ≡ Some c → IsValueIn (own_of s x) w → IsValueIn c.value w
own_in_cell s x c w at h = subst (λ a. IsValueIn (own_value a) w) at h

pub put_here : (temps : Valuation) (t u : ℕ) (w : ScalarValue) → u ≡ t → put temps t w u ≡ w
put_here temps t u w e = ap (λ b. cond b w (temps u)) (eq-eqb u t e)

pub put_there : (temps : Valuation) (t u : ℕ) (w : ScalarValue) → u ≢ t → put temps t w u ≡ temps u
put_there temps t u w n = ap (λ b. cond b w (temps u)) (ne_eqb u t n)

-- ---- tables of temporaries

abbrev pub InTable : Table Temp → Valuation → Type 0
InTable T temps = (t : ℕ) (e : Temp) → get T t ≡ Some e → IsValueIn e.value (temps t)

abbrev pub CopyIn : Table Temp → ℕ → ℕ → Type 0
CopyIn T t x = (e : Temp) × ((get T t ≡ Some e) × (e.copy ≡ Some x))

pub inserted_in : (T : Table Temp) (temps : Valuation) (t : ℕ) (v : Values) (copy : Option ℕ) (w : ScalarValue) → InTable T temps → IsValueIn v w → InTable (insert T t record { value = v; copy = copy }) (put temps t w)
inserted_in T temps t v copy w ins h u e at = elim (cases_eq u t) [
  | inl same ↦
      subst (λ k. IsValueIn k.value (put temps t w u)) (some_same _ record { value = v; copy = copy } e (get-insert_here T t record { value = v; copy = copy } u same) at)
      (subst (IsValueIn v) (sym (put_here temps t u w same)) h)
  | inr differ ↦ subst (IsValueIn e.value) (sym (put_there temps t u w differ)) (ins u e (sym (get-insert_there T t record { value = v; copy = copy } u differ) ∙ at))
]

-- a copy after a temporary is given: the new one, or one from before
pub inserted_copy : (T : Table Temp) (t : ℕ) (v : Values) (copy : Option ℕ) (u x : ℕ) → CopyIn (insert T t record { value = v; copy = copy }) u x → ((u ≡ t) × (copy ≡ Some x)) ⊎ ((u ≢ t) × CopyIn T u x)
inserted_copy T t v copy u x c = elim (cases_eq u t) [
  | inl same ↦ inl (same, ap (λ (k : Temp). k.copy) (some_same _ record { value = v; copy = copy } c.0 (get-insert_here T t record { value = v; copy = copy } u same) c.1.0) ∙ c.1.1)
  | inr differ ↦ inr (differ, (c.0, (sym (get-insert_there T t record { value = v; copy = copy } u differ) ∙ c.1.0, c.1.1)))
]

-- entries of a changed table, before and after
pub changed_after : {V : Type 0} (f : ℕ → V → V) (t : Table V) (x : ℕ) (c : V) → get t x ≡ Some c → get (changed_table f t) x ≡ Some (f x c)
changed_after f t x c at = get-changed_table f t x ∙ ap (changed_at f x) at

pub changed_before : {V : Type 0} (f : ℕ → V → V) (t : Table V) (x : ℕ) (d : V) → get (changed_table f t) x ≡ Some d → (c : V) × ((get t x ≡ Some c) × (f x c ≡ d))
changed_before {V} f t x d at = by_entry (get t x) refl (sym (get-changed_table f t x) ∙ at)
  where
    by_entry : (a : Option V) → get t x ≡ a → changed_at f x a ≡ Some d → (c : V) × ((get t x ≡ Some c) × (f x c ≡ d))
    by_entry None e k = absurd (none_some None d refl k)
    by_entry (Some c) e k = (c, (e, some_same _ (f x c) d refl k))

kept_copy_is : (test : ℕ → Bool) (c : Option ℕ) (x : ℕ) → kept_copy test c ≡ Some x → (c ≡ Some x) × (test x ≡ false)
kept_copy_is test None x e = absurd (none_some None x refl e)
kept_copy_is test (Some y) x e = by_case (test y) refl e
  where
    by_case : (b : Bool) → test y ≡ b → cond b None (Some y) ≡ Some x → (Some y ≡ Some x) × (test x ≡ false)
    by_case true is k = absurd (none_some None x refl k)
    by_case false is k = (k, ap test (sym (some_same (Some y) y x refl k)) ∙ is)

pub dropped_in : (test : ℕ → Bool) (T : Table Temp) (temps : Valuation) → InTable T temps → InTable (dropped test T) temps
dropped_in test T temps ins t e at =
    let b = changed_before _ T t e at in
    subst (λ (k : Temp). IsValueIn k.value (temps t)) b.1.1 (ins t b.0 b.1.0)

pub dropped_copy : (test : ℕ → Bool) (T : Table Temp) (t x : ℕ) → CopyIn (dropped test T) t x → CopyIn T t x × (test x ≡ false)
dropped_copy test T t x c =
    let b = changed_before _ T t c.0 c.1.0 in
    let k = kept_copy_is test b.0.copy x (ap (λ (e : Temp). e.copy) b.1.1 ∙ c.1.1) in
    ((b.0, (b.1.0, k.0)), k.1)

-- ---- temporaries that are live where the edge leads

module _ (around : Around) (T : Table Temp) where
  abbrev pub live : Table Temp
  live = retain_keys T around.is_live

  was : (t : ℕ) (e : Temp) → get live t ≡ Some e → get T t ≡ Some e
  was t e at = by_test (around.is_live t) (sym (get-kept T around.is_live t) ∙ at)
    where
      by_test : (b : Bool) → cond b (get T t) None ≡ Some e → get T t ≡ Some e
      by_test true k = k
      by_test false k = absurd (none_some None e refl k)

  pub live_in : (C : Table Cell) (temps : Valuation) → InTable T temps → AreIn (record { temps = live; cells = C }) temps
  live_in C temps ins = record { in_value = λ t e at. ins t e (was t e at) }

  pub live_copy : (C : Table Cell) (t x : ℕ) → IsCopyOf (record { temps = live; cells = C }) t x → CopyIn T t x
  live_copy C t x c = (c.entry, (was t c.entry c.stands, c.copy))

-- ---- cells that are changed one by one

module _ (s : State) (f : ℕ → Cell → Cell) where
  abbrev cells : Table Cell
  cells = changed_table f s.cells

  pub own_changed : (x : ℕ) (w : ScalarValue) → ((c : Cell) → get s.cells x ≡ Some c → IsValueIn c.value w → IsValueIn (f x c).value w) → IsValueIn (own_of s x) w → IsValueIn (own_value (get cells x)) w
  own_changed x w keeps h = subst (λ a. IsValueIn (own_value a) w) (sym (get-changed_table f s.cells x)) (by_entry (get s.cells x) refl h)
    where
      by_entry : (a : Option Cell) → get s.cells x ≡ a → IsValueIn (own_value a) w → IsValueIn (own_value (changed_at f x a)) w
      by_entry None e k = k
      by_entry (Some c) e k = keeps c e k

  -- the own value of a cell that is there
  pub own_there : (x : ℕ) (c : Cell) (w : ScalarValue) → get s.cells x ≡ Some c → IsValueIn (f x c).value w → IsValueIn (own_value (get cells x)) w
  own_there x c w at h = subst (λ a. IsValueIn (own_value a) w) (sym (changed_after f s.cells x c at)) h

  module _ (T : Table Temp) where
    abbrev pub with_cells : State
    with_cells = record { temps = T; cells = cells }

    pub pending_changed : (x m : ℕ) → ((c : Cell) → bit_at c.pending m ≡ 1 → bit_at (f x c).pending m ≡ 1) → IsPending s x m → IsPending with_cells x m
    pending_changed x m keeps p = record { entry = f x p.entry; stands = changed_after f s.cells x p.entry p.stands; pending = keeps p.entry p.pending }

    pub fresh_changed : (x : ℕ) → ((c : Cell) → IsTrue (f x c).fresh → IsTrue c.fresh) → IsFresh with_cells x → IsFresh s x
    fresh_changed x falls p =
        let b = changed_before f s.cells x p.entry p.stands in
        record { entry = b.0; stands = b.1.0; fresh = falls b.0 (subst (λ (d : Cell). IsTrue d.fresh) (sym b.1.1) p.fresh) }

    pub stored_changed : (x : ℕ) → ((c : Cell) → IsTrue (f x c).stored → IsTrue c.stored) → IsStored with_cells x → IsStored s x
    stored_changed x falls p =
        let b = changed_before f s.cells x p.entry p.stands in
        record { entry = b.0; stands = b.1.0; stored = falls b.0 (subst (λ (d : Cell). IsTrue d.stored) (sym b.1.1) p.stored) }

    -- no cell is fresh
    pub none_fresh : ((x : ℕ) (c : Cell) → (f x c).fresh ≡ false) → (x : ℕ) → IsFresh with_cells x → ⊥
    none_fresh aged x p =
        let b = changed_before f s.cells x p.entry p.stands in
        false≢true (sym (aged x b.0) ∙ subst (λ (d : Cell). IsTrue d.fresh) (sym b.1.1) p.fresh)

    pub keeps_changed : ((x : ℕ) (c : Cell) (w : ScalarValue) → get s.cells x ≡ Some c → IsValueIn c.value w → IsValueIn (f x c).value w) → ((x : ℕ) (c : Cell) (m : ℕ) → bit_at c.pending m ≡ 1 → bit_at (f x c).pending m ≡ 1)
        → ((x : ℕ) (c : Cell) → IsTrue (f x c).fresh → IsTrue c.fresh) → ((x : ℕ) (c : Cell) → IsTrue (f x c).stored → IsTrue c.stored) → Keeps s with_cells
    keeps_changed own pending fresh stored = record {
      own = λ x v h. own_changed x v (λ c at. own x c v at) h;
      pending = λ x m p. pending_changed x m (λ c. pending x c m) p;
      fresh = λ x p. fresh_changed x (fresh x) p;
      stored = λ x p. stored_changed x (stored x) p;
    }

-- cells that stay as they are
pub keeps_same : (s : State) (T : Table Temp) → Keeps s (record { temps = T; cells = s.cells })
keeps_same s T = record {
  own = λ x v h. h;
  pending = λ x m p. record { entry = p.entry; stands = p.stands; pending = p.pending };
  fresh = λ x p. record { entry = p.entry; stands = p.stands; fresh = p.fresh };
  stored = λ x p. record { entry = p.entry; stands = p.stands; stored = p.stored };
}

-- ---- pending mutexes as bits

pub bit_joined_left : (p q m : ℕ) → bit_at p m ≡ 1 → bit_at (bit_or p q) m ≡ 1
bit_joined_left p q m h = omega (arith, h, bit_at_or p q m, bit_at-lt q m)

pub bit_joined_right : (p q m : ℕ) → bit_at q m ≡ 1 → bit_at (bit_or p q) m ≡ 1
bit_joined_right p q m h = omega (arith, h, bit_at_or p q m, bit_at-lt p m)

below : ℕ → List ℕ
below zero = []
below (suc k) = k ∷ below k

abbrev stays : ℕ → ℕ → Bool
stays m n = eqb n m || eqb (bit_at (65535 - 2 ^ m) n) 1

all_stay : list_all (λ m. list_all (stays m) (below 16)) (below 16) ≡ true
unfolding below
all_stay = refl

abbrev Among : List ℕ → ℕ → Type 0
Among [] n = ⊥
Among (x ∷ xs) n = (n ≡ x) ⊎ Among xs n

of_all : (test : ℕ → Bool) (xs : List ℕ) (n : ℕ) → list_all test xs ≡ true → Among xs n → test n ≡ true
of_all test [] n h k = absurd k
of_all test (x ∷ xs) n h k =
    let parts : (test x ≡ true) × (list_all test xs ≡ true) = and_parts _ _ h in
    ⊎_elim (λ here. ap test here ∙ parts.0) (λ there. of_all test xs n parts.1 there) k

among_below : (k n : ℕ) → n < k → Among (below k) n
unfolding below
among_below zero n h = absurd (omega arith)
among_below (suc k) n h = elim (cases_eq n k) [ inl same ↦ inl same | inr differ ↦ inr (among_below k n (omega (arith, differ))) ]

pub bit_stays : (p m n : ℕ) → n ≢ m → m < 16 → n < 16 → bit_at p n ≡ 1 → bit_at (without p m) n ≡ 1
bit_stays p m n differ m_small n_small h =
    let row = of_all (λ k. list_all (stays k) (below 16)) (below 16) m all_stay (among_below 16 m m_small) in
    let at = of_all (stays m) (below 16) n row (among_below 16 n n_small) in
    let one : bit_at (65535 - 2 ^ m) n ≡ 1 = ⊎_elim (λ same. absurd (differ (eqb-true n m same))) (λ is. eqb-true _ 1 is) (or_cases _ _ at) in
    omega (arith, h, one, bit_at_and p (65535 - 2 ^ m) n)
