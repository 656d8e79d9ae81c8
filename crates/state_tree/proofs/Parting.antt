-- The table that parts are together, and what the calls of a tree do to it.
use Rattle.std.proofs.Common.{◌≡◌, ◌≢◌, ℕ, zero, suc, ◌+◌, ◌≤◌, ◌<◌, arith, cond, List, [], ◌∷◌, Option, Some, None, is_some, MatchOption, true, false, Result, Ok, Err, T, refl, sym, ap, subst, ◌∙◌, ◌⊎◌, inl, inr}
use Rattle.std.specs.Option.{option_map}
use Rattle.std.specs.Result.{OnOk, OnErr}
use Rattle.std.specs.Ordering.{nat_cmp}
use Rattle.std.proofs.lemmas.Bool.{cases_eq}
use Rattle.std.proofs.Math.Nat.{div-zero, div-mul-le_self, le-div_iff_mul-le, le_trans, le_of_eq}
use Rattle.std.specs.FinMap.{find, is_sorted, get, insert, remove, empty, entries, get-entries, get-empty, get-remove, entries_sorted}
use Rattle.tm_lattice.specs.Tables.{Table, IsEntry, IsTable, IsBelow, IsTableBelow, joined_at, joined_value, joined_table, rounded_table, with_entry, IsPast, IsNext}
use Rattle.std.specs.Cmp.{nat_cmp_total}
use Rattle.tm_lattice.specs.laws.Keys.{same_key, other_key, AllAbove-rest, AllAbove, is_sorted-rest, find-here, find-there, find_below}
use Rattle.tm_lattice.specs.laws.TableLaws.{same_table, joined_at_none, get-joined_table, get-rounded_table, get-insert_here, get-insert_there}
use Rattle.shared_tables.proofs.Empties.{past_empty}
use Rattle.state_tree.specs.reading.Parts.{part_of, in_part, together_from, together, or_empty, part_at, IsParted}

-- ## Plain tables

get-remove_here : {W : Type 0} (t : Table W) (k q : ℕ) → q ≡ k → get (remove t k) q ≡ None
get-remove_here t k q same = get-remove nat_cmp_total t k q ∙ ap (λ b. cond b None (get t q)) (same_key q k same)

get-remove_there : {W : Type 0} (t : Table W) (k q : ℕ) → q ≢ k → get (remove t k) q ≡ get t q
get-remove_there t k q differ = get-remove nat_cmp_total t k q ∙ ap (λ b. cond b None (get t q)) (other_key q k differ)

module _ {V : Type 0} where
  first : (v w : Option V) → w ≡ None → joined_at (λ a b. a) v w ≡ v
  first v w none = ap (joined_at (λ a b. a) v) none ∙ joined_at_none (λ a b. a) v

  second : (v w : Option V) → v ≡ None → joined_at (λ a b. a) v w ≡ w
  second v w none = ap (λ x. joined_at (λ a b. a) x w) none

  absent : (v : Option V) → ((w : V) → v ≡ Some w → ⊥) → v ≡ None
  absent None some = refl
  absent (Some w) some = absurd (some w refl)

  in_or_empty : (o : Option (Table V)) (key : ℕ) → get (or_empty o) key ≡ in_part o key
  in_or_empty None key = get-empty nat_cmp key
  in_or_empty (Some part) key = refl

  -- ## Another part in place of one

  empty_or_by : (m : Table V) (es : List (ℕ × V)) → entries m ≡ es → (m ≡ empty) ⊎ (m ≢ empty)
  empty_or_by m [] none = inl (same_table m empty (λ key. get-entries m key ∙ ap (find nat_cmp key) none ∙ sym (get-empty nat_cmp key)))
  empty_or_by m (e ∷ es) some = inr (λ none.
      let found : Some e.1 ≡ None = sym (find-here e.0 e es refl) ∙ ap (find nat_cmp e.0) (sym some) ∙ sym (get-entries m e.0) ∙ ap (λ t. get t e.0) none ∙ get-empty nat_cmp e.0 in cc)

  pub empty_or : (m : Table V) → (m ≡ empty) ⊎ (m ≢ empty)
  empty_or m = empty_or_by m (entries m) refl

  -- the parts after this one was put in place of the part n
  pub record IsReplaced (t t' : Table (Table V)) (n : ℕ) (part : Table V) : Type 0 where
    pub none : part ≡ empty → t' ≡ remove t n
    pub some : part ≢ empty → t' ≡ insert t n part

  module _ (t t' : Table (Table V)) (n : ℕ) (part : Table V) (r : IsReplaced t t' n part) where
    there : (q : ℕ) → q ≢ n → get t' q ≡ get t q
    there q differ = elim (empty_or part) [
      | inl none ↦ ap (λ u. get u q) (r.none none) ∙ get-remove_there t n q differ
      | inr some ↦ ap (λ u. get u q) (r.some some) ∙ get-insert_there t n part q differ
    ]

    here : (q key : ℕ) → q ≡ n → in_part (get t' q) key ≡ get part key
    here q key same = elim (empty_or part) [
      | inl none ↦ ap (λ u. in_part (get u q) key) (r.none none) ∙ ap (λ o. in_part o key) (get-remove_here t n q same)
          ∙ sym (get-empty nat_cmp key) ∙ ap (λ u. get u key) (sym none)
      | inr some ↦ ap (λ u. in_part (get u q) key) (r.some some) ∙ ap (λ o. in_part o key) (get-insert_here t n part q same)
    ]

  -- ## A part that is taken away before another is put in its place

  get-removed_twice : (t : Table (Table V)) (n k : ℕ) → get (remove (remove t n) n) k ≡ get (remove t n) k
  get-removed_twice t n k = elim (cases_eq k n) [
    | inl same ↦ get-remove_here (remove t n) n k same ∙ sym (get-remove_here t n k same)
    | inr differ ↦ get-remove_there (remove t n) n k differ
  ]

  get-inserted_again : (t : Table (Table V)) (n : ℕ) (part : Table V) (k : ℕ) → get (insert (remove t n) n part) k ≡ get (insert t n part) k
  get-inserted_again t n part k = elim (cases_eq k n) [
    | inl same ↦ get-insert_here (remove t n) n part k same ∙ sym (get-insert_here t n part k same)
    | inr differ ↦ get-insert_there (remove t n) n part k differ ∙ get-remove_there t n k differ ∙ sym (get-insert_there t n part k differ)
  ]

  removed_twice : (t s t' : Table (Table V)) (n q : ℕ) (P : Type 0) → q ≡ n → s ≡ remove t n → (P → t' ≡ remove s q) → P → t' ≡ remove t n
  removed_twice t s t' n q P same gone again h =
      again h ∙ ap (remove s) same ∙ ap (λ u. remove u n) gone ∙ same_table _ _ (get-removed_twice t n)

  inserted_again : (t s t' : Table (Table V)) (n q : ℕ) (part : Table V) (P : Type 0) → q ≡ n → s ≡ remove t n → (P → t' ≡ insert s q part)
      → P → t' ≡ insert t n part
  inserted_again t s t' n q part P same gone again h =
      again h ∙ ap (λ k. insert s k part) same ∙ ap (λ u. insert u n part) gone ∙ same_table _ _ (get-inserted_again t n part)

  -- ## Whole tables

  -- no part is empty
  abbrev pub HaveParts : Table (Table V) → Type 0
  HaveParts t = (n : ℕ) (part : Table V) → get t n ≡ Some part → part ≢ empty

  -- a part that is not empty has an entry
  some_entry_by : (m : Table V) (es : List (ℕ × V)) → entries m ≡ es → m ≢ empty → (key : ℕ) × (v : V) × (get m key ≡ Some v)
  some_entry_by m [] none some = absurd (some (same_table m empty (λ key. get-entries m key ∙ ap (find nat_cmp key) none ∙ sym (get-empty nat_cmp key))))
  some_entry_by m (e ∷ es) is some = (e.0, e.1, get-entries m e.0 ∙ ap (find nat_cmp e.0) is ∙ find-here e.0 e es refl)

  some_entry : (m : Table V) → m ≢ empty → (key : ℕ) × (v : V) × (get m key ≡ Some v)
  some_entry m some = some_entry_by m (entries m) refl some

  -- a part in which nothing stands is empty
  pub past_is_empty : (part : Table V) → IsPast part 0 → part ≡ empty
  past_is_empty part past = same_table part empty (λ key. past key (omega arith) ∙ sym (get-empty nat_cmp key))

  pub part_of_stands : (t : Table (Table V)) (n m : ℕ) (part : Table V) → HaveParts t → IsNext t n m part → IsPast part 0 → ⊥
  part_of_stands t n m part have next past = have m part next.stands (past_is_empty part past)

  -- a value written where it stands already
  pub written_again : (t : Table V) (key : ℕ) (v w : V) → get t key ≡ Some v → w ≡ v → t ≡ insert t key w
  written_again t key v w stands same = same_table _ _ (λ k. elim (cases_eq k key) [
    | inl here ↦ ap (get t) here ∙ stands ∙ ap Some (sym same) ∙ sym (get-insert_here t key w k here)
    | inr there ↦ sym (get-insert_there t key w k there)
  ])

  pub have_parts : (is_value nothing : V → Type 0) (t : Table (Table V)) → IsTable (IsTable is_value nothing) (λ part. part ≡ empty) t → HaveParts t
  have_parts is_value nothing t parts n part found none = (subst (IsEntry (IsTable is_value nothing) (λ part. part ≡ empty)) found (parts n)).1 none

-- ## Parts rise with their keys

pub part_rises : (size a b : ℕ) → a ≤ b → part_of size a ≤ part_of size b
unfolding part_of
part_rises zero a b le = le_of_eq (div-zero a ∙ sym (div-zero b))
part_rises (suc n) a b le = (le-div_iff_mul-le (omega arith)).1 (le_trans (div-mul-le_self a (suc n)) le)

between : (size a b c : ℕ) → a ≤ b → b < c → part_of size c ≡ part_of size a → part_of size b ≡ part_of size a
between size a b c low high same =
    let up = part_rises size a b low in
    let down = part_rises size b c (omega arith) in omega (arith, up, down, same)

module _ (size : ℕ) {V : Type 0} where
  -- ## What stands at a key

  -- each key of these parts stands in its part
  abbrev AreParts : List (ℕ × Table V) → Type 0
  AreParts es = (e : ℕ) (part : Table V) → find nat_cmp e es ≡ Some part → (key : ℕ) (v : V) → get part key ≡ Some v → part_of size key ≡ e

  get-from : (es : List (ℕ × Table V)) → T (is_sorted nat_cmp es) → AreParts es → (key : ℕ)
      → get (together_from es) key ≡ in_part (find nat_cmp (part_of size key) es) key
  get-from [] sorted parts key = get-empty nat_cmp key
  get-from (e ∷ es) sorted parts key =
      let rest : T (is_sorted nat_cmp es) = is_sorted-rest e es sorted in
      let above : AllAbove e.0 es = AllAbove-rest e es sorted in
      let more : AreParts es = λ n part found k v stands. elim (cases_eq n e.0) [
        | inl same ↦ absurd (let none : None ≡ Some part = sym (ap (λ q. find nat_cmp q es) same ∙ find_below e.0 es above) ∙ found in cc)
        | inr differ ↦ parts n part (find-there n e es differ ∙ found) k v stands
      ] in
      get-joined_table (λ a b. a) e.1 (together_from es) key
      ∙ elim (cases_eq (part_of size key) e.0) [
        | inl same ↦
            let none : get (together_from es) key ≡ None =
            get-from es rest more key ∙ ap (λ q. in_part (find nat_cmp q es) key) same ∙ ap (λ o. in_part o key) (find_below e.0 es above) in
            first (get e.1 key) (get (together_from es) key) none
            ∙ ap (λ o. in_part o key) (sym (find-here (part_of size key) e es same))
        | inr differ ↦
            let none : get e.1 key ≡ None = absent (get e.1 key) (λ v stands. differ (parts e.0 e.1 (find-here e.0 e es refl) key v stands)) in
            second (get e.1 key) (get (together_from es) key) none
            ∙ get-from es rest more key
            ∙ ap (λ o. in_part o key) (sym (find-there (part_of size key) e es differ))
      ]

  parts_of : (t : Table (Table V)) → IsParted size t → AreParts (entries t)
  parts_of t parted e part found = parted.keys e part (get-entries t e ∙ found)

  pub get-together : (t : Table (Table V)) → IsParted size t → (key : ℕ) → get (together t) key ≡ in_part (get t (part_of size key)) key
  unfolding together
  get-together t parted key =
      get-from (entries t) (entries_sorted t) (parts_of t parted) key ∙ ap (λ o. in_part o key) (sym (get-entries t (part_of size key)))

  pub get-part_at : (t : Table (Table V)) → IsParted size t → (key other : ℕ) → part_of size other ≡ part_of size key → get (part_at size t key) other ≡ get (together t) other
  get-part_at t parted key other same =
      in_or_empty (get t (part_of size key)) other ∙ ap (λ n. in_part (get t n) other) (sym same) ∙ sym (get-together t parted other)

  -- ## No part

  pub parted_empty : IsParted {V = V} size empty
  parted_empty = record { keys = λ n part found key v stands. absurd (let none : None ≡ Some part = sym (get-empty nat_cmp n) ∙ found in cc) }

  pub together_empty : together {V = V} empty ≡ empty
  together_empty = same_table _ _ (λ key.
      get-together empty parted_empty key ∙ ap (λ o. in_part o key) (get-empty nat_cmp (part_of size key)) ∙ sym (get-empty nat_cmp key))

  -- ## Another part in place of one

  module _ (t t' : Table (Table V)) (n : ℕ) (part : Table V) (r : IsReplaced t t' n part) (parted : IsParted size t)
      (own : (key : ℕ) (v : V) → get part key ≡ Some v → part_of size key ≡ n) where
    pub parted_replaced : IsParted size t'
    parted_replaced = record {
      keys = λ q m found key v stands. elim (cases_eq q n) [
        | inl same ↦ own key v (sym (here t t' n part r q key same) ∙ ap (λ o. in_part o key) found ∙ stands) ∙ sym same
        | inr differ ↦ parted.keys q m (sym (there t t' n part r q differ) ∙ found) key v stands
      ];
    }

    pub replaced_here : (key : ℕ) → part_of size key ≡ n → get (together t') key ≡ get part key
    replaced_here key same = get-together t' parted_replaced key ∙ here t t' n part r (part_of size key) key same

    pub replaced_there : (key : ℕ) → part_of size key ≢ n → get (together t') key ≡ get (together t) key
    replaced_there key differ =
        get-together t' parted_replaced key ∙ ap (λ o. in_part o key) (there t t' n part r (part_of size key) differ) ∙ sym (get-together t parted key)

  own_keys : (t : Table (Table V)) → IsParted size t → (key other : ℕ) (v : V) → get (part_at size t key) other ≡ Some v → part_of size other ≡ part_of size key
  own_keys t parted key other v stands = by_part (get t (part_of size key)) refl (sym (in_or_empty (get t (part_of size key)) other) ∙ stands)
    where
      by_part : (o : Option (Table V)) → get t (part_of size key) ≡ o → in_part o other ≡ Some v → part_of size other ≡ part_of size key
      by_part None found stands' = absurd (let none : None ≡ Some v = stands' in cc)
      by_part (Some m) found stands' = parted.keys (part_of size key) m found other v stands'

  -- ## A value written at a key

  module _ (t t' : Table (Table V)) (key : ℕ) (v : V) (part : Table V) (parted : IsParted size t)
      (r : IsReplaced t t' (part_of size key) part) (is : part ≡ insert (part_at size t key) key v) where
    own_written : (k : ℕ) (w : V) → get part k ≡ Some w → part_of size k ≡ part_of size key
    own_written k w stands = elim (cases_eq k key) [
      | inl same ↦ ap (part_of size) same
      | inr differ ↦ own_keys t parted key k w (sym (get-insert_there (part_at size t key) key v k differ) ∙ ap (λ m. get m k) (sym is) ∙ stands)
    ]

    pub parted_written : IsParted size t'
    parted_written = parted_replaced t t' (part_of size key) part r parted own_written

    pub together_written : together t' ≡ insert (together t) key v
    together_written = same_table _ _ (λ k. elim (cases_eq (part_of size k) (part_of size key)) [
      | inl same ↦ replaced_here t t' (part_of size key) part r parted own_written k same ∙ ap (λ m. get m k) is ∙ elim (cases_eq k key) [
        | inl here ↦ get-insert_here (part_at size t key) key v k here ∙ sym (get-insert_here (together t) key v k here)
        | inr there ↦ get-insert_there (part_at size t key) key v k there ∙ get-part_at t parted key k same ∙ sym (get-insert_there (together t) key v k there)
      ]
      | inr differ ↦ replaced_there t t' (part_of size key) part r parted own_written k differ
          ∙ sym (get-insert_there (together t) key v k (λ same. differ (ap (part_of size) same)))
    ])

  -- ## An entry taken away

  module _ (t t' : Table (Table V)) (key : ℕ) (part : Table V) (parted : IsParted size t)
      (r : IsReplaced t t' (part_of size key) part) (is : part ≡ remove (part_at size t key) key) where
    own_removed : (k : ℕ) (w : V) → get part k ≡ Some w → part_of size k ≡ part_of size key
    own_removed k w stands = elim (cases_eq k key) [
      | inl same ↦ ap (part_of size) same
      | inr differ ↦ own_keys t parted key k w (sym (get-remove_there (part_at size t key) key k differ) ∙ ap (λ m. get m k) (sym is) ∙ stands)
    ]

    pub parted_removed : IsParted size t'
    parted_removed = parted_replaced t t' (part_of size key) part r parted own_removed

    pub together_removed : together t' ≡ remove (together t) key
    together_removed = same_table _ _ (λ k. elim (cases_eq (part_of size k) (part_of size key)) [
      | inl same ↦ replaced_here t t' (part_of size key) part r parted own_removed k same ∙ ap (λ m. get m k) is ∙ elim (cases_eq k key) [
        | inl here ↦ get-remove_here (part_at size t key) key k here ∙ sym (get-remove_here (together t) key k here)
        | inr there ↦ get-remove_there (part_at size t key) key k there ∙ get-part_at t parted key k same ∙ sym (get-remove_there (together t) key k there)
      ]
      | inr differ ↦ replaced_there t t' (part_of size key) part r parted own_removed k differ
          ∙ sym (get-remove_there (together t) key k (λ same. differ (ap (part_of size) same)))
    ])

  -- ## A value joined to what stands at a key

  module _ (join : V → V → V) (t : Table (Table V)) (key : ℕ) (v : V) (part : Table V) (parted : IsParted size t)
      (is : part ≡ with_entry join (part_at size t key) key v) where
    at_key : get (part_at size t key) key ≡ get (together t) key
    at_key = get-part_at t parted key key refl

    pub together_joined : (t' : Table (Table V)) → IsReplaced t t' (part_of size key) part → together t' ≡ with_entry join (together t) key v
    together_joined t' r = together_written t t' key (joined_value join (get (part_at size t key) key) v) part parted r is
        ∙ ap (λ o. insert (together t) key (joined_value join o v)) at_key

    -- the part stays as it is: so does the table
    pub together_kept : part ≡ part_at size t key → together t ≡ with_entry join (together t) key v
    together_kept same = same_table _ _ (λ k. elim (cases_eq k key) [
      | inl here ↦
          let value : get (part_at size t key) key ≡ Some (joined_value join (get (part_at size t key) key) v) =
          ap (λ m. get m key) (sym same ∙ is) ∙ get-insert_here (part_at size t key) key (joined_value join (get (part_at size t key) key) v) key refl in
          ap (get (together t)) here ∙ sym at_key ∙ value ∙ ap (λ o. Some (joined_value join o v)) at_key
          ∙ sym (get-insert_here (together t) key (joined_value join (get (together t) key) v) k here)
      | inr there ↦ sym (get-insert_there (together t) key (joined_value join (get (together t) key) v) k there)
    ])

  -- where the part changed, the table did
  pub together_differs : (t t' : Table (Table V)) (key : ℕ) (part : Table V) → IsParted size t → IsReplaced t t' (part_of size key) part
      → ((k : ℕ) (w : V) → get part k ≡ Some w → part_of size k ≡ part_of size key) → part ≢ part_at size t key → together t' ≢ together t
  together_differs t t' key part parted r own differ same = differ (same_table _ _ (λ k. elim (cases_eq (part_of size k) (part_of size key)) [
    | inl here ↦ sym (replaced_here t t' (part_of size key) part r parted own k here) ∙ ap (λ u. get u k) same ∙ sym (get-part_at t parted key k here)
    | inr there ↦ absent (get part k) (λ w stands. there (own k w stands)) ∙ sym (absent (get (part_at size t key) k) (λ w stands. there (own_keys t parted key k w stands)))
  ]))

  -- ## The calls of a tree

  -- what stands at a key, by the part
  pub got_none : (t : Table (Table V)) (now : Table V) (n key : ℕ) → IsParted size t → together t ≡ now → n ≡ part_of size key → get t n ≡ None → None ≡ get now key
  got_none t now n key parted view number found =
      sym (ap (λ u. get u key) (sym view) ∙ get-together t parted key ∙ ap (λ q. in_part (get t q) key) (sym number) ∙ ap (λ o. in_part o key) found)

  pub got_some : (t : Table (Table V)) (now : Table V) (n key : ℕ) (part : Table V) (x : Option V) → IsParted size t → together t ≡ now → n ≡ part_of size key
      → get t n ≡ Some part → x ≡ get part key → x ≡ get now key
  got_some t now n key part x parted view number found is =
      is ∙ sym (ap (λ u. get u key) (sym view) ∙ get-together t parted key ∙ ap (λ q. in_part (get t q) key) (sym number) ∙ ap (λ o. in_part o key) found)

  pub part_none : (t : Table (Table V)) (n key : ℕ) → n ≡ part_of size key → get t n ≡ None → empty ≡ part_at size t key
  part_none t n key number found = sym (ap (λ q. or_empty (get t q)) (sym number) ∙ ap or_empty found)

  pub part_some : (t : Table (Table V)) (n key : ℕ) (part : Table V) → n ≡ part_of size key → get t n ≡ Some part → part ≡ part_at size t key
  part_some t n key part number found = sym (ap (λ q. or_empty (get t q)) (sym number) ∙ ap or_empty found)

  -- a part that is put, or whose entry is taken away, in place of the old one
  module _ (t t' : Table (Table V)) (now : Table V) (key n : ℕ) (old part : Table V) (parted : IsParted size t) (view : together t ≡ now)
      (number : n ≡ part_of size key) (old-is : old ≡ part_at size t key) (none : Type 0) (v : V)
      (removed : none → part ≡ remove old key) (written : (none → ⊥) → part ≡ insert old key v) where
    is_removed : none → part ≡ remove (part_at size t key) key
    is_removed h = removed h ∙ ap (λ m. remove m key) old-is

    is_written : (none → ⊥) → part ≡ insert (part_at size t key) key v
    is_written h = written h ∙ ap (λ m. insert m key v) old-is

    own_put : (k : ℕ) (w : V) → get part k ≡ Some w → part_of size k ≡ part_of size key
    own_put k w stands = elim (cases_eq (part_of size k) (part_of size key)) [
      | inl same ↦ same
      | inr differ ↦
          let not_none : none → ⊥ = λ h. differ (own_kept k w (λ there. sym (get-remove_there (part_at size t key) key k there) ∙ ap (λ m. get m k) (sym (is_removed h)) ∙ stands)) in
          absurd (differ (own_kept k w (λ there. sym (get-insert_there (part_at size t key) key v k there) ∙ ap (λ m. get m k) (sym (is_written not_none)) ∙ stands)))
    ]
      where
        own_kept : (k : ℕ) (w : V) → (k ≢ key → get (part_at size t key) k ≡ Some w) → part_of size k ≡ part_of size key
        own_kept k w stands = elim (cases_eq k key) [
          | inl same ↦ ap (part_of size) same
          | inr differ ↦ own_keys t parted key k w (stands differ)
        ]

    replaced_by : (part ≡ empty → t' ≡ remove t n) → (part ≢ empty → t' ≡ insert t n part) → IsReplaced t t' (part_of size key) part
    replaced_by gone some = record { none = λ h. gone h ∙ ap (remove t) number; some = λ h. some h ∙ ap (λ q. insert t q part) number }

    module _ {A E : Type 0} where
      pub put_parted : (r' : Result A E) → OnOk r' (part ≡ empty → t' ≡ remove t n) → OnOk r' (part ≢ empty → t' ≡ insert t n part) → OnErr r' (t' ≡ t) → IsParted size t'
      put_parted (Ok a) gone some err = parted_replaced t t' (part_of size key) part (replaced_by gone some) parted own_put
      put_parted (Err e) gone some err = subst (IsParted size) (sym err) parted

      pub put_nothing : (r' : Result A E) → OnOk r' (part ≡ empty → t' ≡ remove t n) → OnOk r' (part ≢ empty → t' ≡ insert t n part) → OnOk r' (none → together t' ≡ remove now key)
      put_nothing (Ok a) gone some = λ h. together_removed t t' key part parted (replaced_by gone some) (is_removed h) ∙ ap (λ u. remove u key) view
      put_nothing (Err e) gone some = tt

      pub put_written : (r' : Result A E) → OnOk r' (part ≡ empty → t' ≡ remove t n) → OnOk r' (part ≢ empty → t' ≡ insert t n part) → OnOk r' ((none → ⊥) → together t' ≡ insert now key v)
      put_written (Ok a) gone some = λ h. together_written t t' key v part parted (replaced_by gone some) (is_written h) ∙ ap (λ u. insert u key v) view
      put_written (Err e) gone some = tt

  -- the same for an entry that is taken away
  module _ (t t' : Table (Table V)) (now : Table V) (key n : ℕ) (old part : Table V) (parted : IsParted size t) (view : together t ≡ now)
      (number : n ≡ part_of size key) (old-is : old ≡ part_at size t key) (removed : part ≡ remove old key) where
    taken : part ≡ remove (part_at size t key) key
    taken = removed ∙ ap (λ m. remove m key) old-is

    put_back : (part ≡ empty → t' ≡ remove t n) → (part ≢ empty → t' ≡ insert t n part) → IsReplaced t t' (part_of size key) part
    put_back gone some = record { none = λ h. gone h ∙ ap (remove t) number; some = λ h. some h ∙ ap (λ q. insert t q part) number }

    module _ {A E : Type 0} where
      pub parted_by : (r : Result A E) → OnOk r (part ≡ empty → t' ≡ remove t n) → OnOk r (part ≢ empty → t' ≡ insert t n part) → OnErr r (t' ≡ t) → IsParted size t'
      parted_by (Ok a) gone some err = parted_removed t t' key part parted (put_back gone some) taken
      parted_by (Err e) gone some err = subst (IsParted size) (sym err) parted

      pub removed_by : (r : Result A E) → OnOk r (part ≡ empty → t' ≡ remove t n) → OnOk r (part ≢ empty → t' ≡ insert t n part) → OnOk r (together t' ≡ remove now key)
      removed_by (Ok a) gone some = together_removed t t' key part parted (put_back gone some) taken ∙ ap (λ u. remove u key) view
      removed_by (Err e) gone some = tt

  -- a part that is taken out, changed and put back
  module _ (t s t' : Table (Table V)) (now : Table V) (key n q : ℕ) (old part : Table V) (parted : IsParted size t) (view : together t ≡ now)
      (number : n ≡ part_of size key) (again : q ≡ part_of size key) (old-is : old ≡ part_at size t key) (out : s ≡ remove t n)
      (gone : part ≡ empty → t' ≡ remove s q) (some : part ≢ empty → t' ≡ insert s q part) where
    gone_at_once : part ≡ empty → t' ≡ remove t n
    gone_at_once = removed_twice t s t' n q (part ≡ empty) (again ∙ sym number) out gone

    some_at_once : part ≢ empty → t' ≡ insert t n part
    some_at_once = inserted_again t s t' n q part (part ≢ empty) (again ∙ sym number) out some

    module _ (none : Type 0) (v : V) (removed : none → part ≡ remove old key) (written : (none → ⊥) → part ≡ insert old key v) where
      pub with_parted : IsParted size t'
      with_parted = put_parted t t' now key n old part parted view number old-is none v removed written {A = Unit {0}} {E = Unit {0}} (Ok tt) gone_at_once some_at_once tt

      pub with_nothing : none → together t' ≡ remove now key
      with_nothing = put_nothing t t' now key n old part parted view number old-is none v removed written {A = Unit {0}} {E = Unit {0}} (Ok tt) gone_at_once some_at_once

      pub with_written : (none → ⊥) → together t' ≡ insert now key v
      with_written = put_written t t' now key n old part parted view number old-is none v removed written {A = Unit {0}} {E = Unit {0}} (Ok tt) gone_at_once some_at_once

    module _ (removed : part ≡ remove old key) where
      pub without_parted : IsParted size t'
      without_parted = parted_by t t' now key n old part parted view number old-is removed {A = Unit {0}} {E = Unit {0}} (Ok tt) gone_at_once some_at_once tt

      pub without_removed : together t' ≡ remove now key
      without_removed = removed_by t t' now key n old part parted view number old-is removed {A = Unit {0}} {E = Unit {0}} (Ok tt) gone_at_once some_at_once

  -- a part into which a value was joined
  module _ (join : V → V → V) (t : Table (Table V)) (now : Table V) (key : ℕ) (old part : Table V) (parted : IsParted size t) (view : together t ≡ now)
      (old-is : old ≡ part_at size t key) (none : Type 0) (v : V)
      (kept : none → part ≡ old) (joined : (none → ⊥) → part ≡ with_entry join old key v) where
    is_joined : (none → ⊥) → part ≡ with_entry join (part_at size t key) key v
    is_joined h = joined h ∙ ap (λ m. with_entry join m key v) old-is

    own_joined : (k : ℕ) (w : V) → get part k ≡ Some w → part_of size k ≡ part_of size key
    own_joined k w stands = elim (cases_eq (part_of size k) (part_of size key)) [
      | inl same ↦ same
      | inr differ ↦
          let not_none : none → ⊥ = λ h. differ (own_keys t parted key k w (ap (λ m. get m k) (sym (kept h ∙ old-is)) ∙ stands)) in
          absurd (differ (elim (cases_eq k key) [
            | inl same ↦ ap (part_of size) same
            | inr there ↦ own_keys t parted key k w (sym (get-insert_there (part_at size t key) key (joined_value join (get (part_at size t key) key) v) k there)
                ∙ ap (λ m. get m k) (sym (is_joined not_none)) ∙ stands)
          ]))
    ]

    module _ (t' : Table (Table V)) (n : ℕ) (number : n ≡ part_of size key) where
      pub joined_parted : {A E : Type 0} (r : Result A E) → OnOk r (part ≡ empty → t' ≡ remove t n) → OnOk r (part ≢ empty → t' ≡ insert t n part) → OnErr r (t' ≡ t) → IsParted size t'
      joined_parted (Ok a) gone some err = parted_replaced t t' (part_of size key) part
          (record { none = λ h. gone h ∙ ap (remove t) number; some = λ h. some h ∙ ap (λ q. insert t q part) number }) parted own_joined
      joined_parted (Err e) gone some err = subst (IsParted size) (sym err) parted

      module _ (gone : part ≡ empty → t' ≡ remove t n) (some : part ≢ empty → t' ≡ insert t n part) where
        changed : IsReplaced t t' (part_of size key) part
        changed = record { none = λ h. gone h ∙ ap (remove t) number; some = λ h. some h ∙ ap (λ q. insert t q part) number }

        pub joined_raised : (none → ⊥) → together t' ≡ with_entry join now key v
        joined_raised h = together_joined join t key v part parted (is_joined h) t' changed ∙ ap (λ u. with_entry join u key v) view

        pub joined_rose : part ≢ old → together t' ≢ now
        joined_rose differ same = together_differs t t' key part parted changed own_joined (λ e. differ (e ∙ sym old-is)) (same ∙ sym view)

    -- nothing rose
    pub joined_stays : part ≡ old → (none → ⊥) → now ≡ with_entry join now key v
    joined_stays same h = sym view ∙ together_kept join t key v part parted (is_joined h) (same ∙ old-is) ∙ ap (λ u. with_entry join u key v) view

  -- ## Whole tables

  pub together_none : (t : Table (Table V)) → IsParted size t → HaveParts t → together t ≡ empty → t ≡ empty
  together_none t parted have none = same_table t empty (λ n. absent_part n (get t n) refl ∙ sym (get-empty nat_cmp n))
    where
      absent_part : (n : ℕ) (o : Option (Table V)) → get t n ≡ o → o ≡ None
      absent_part n None found = refl
      absent_part n (Some m) found =
          let e = some_entry m (have n m found) in
          let at : get (together t) e.0 ≡ Some e.1 =
          get-together t parted e.0 ∙ ap (λ q. in_part (get t q) e.0) (parted.keys n m found e.0 e.1 e.2) ∙ ap (λ o. in_part o e.0) found ∙ e.2 in
          absurd (let no : None ≡ Some e.1 = sym (get-empty nat_cmp e.0) ∙ ap (λ u. get u e.0) (sym none) ∙ at in cc)

  pub together_some : (t : Table (Table V)) → t ≡ empty → together t ≡ empty
  together_some t none = ap together none ∙ together_empty

  module _ (is_value nothing : V → Type 0) where
    pub together_is : (t : Table (Table V)) → IsParted size t → IsTable (IsTable is_value nothing) (λ part. part ≡ empty) t → IsTable is_value nothing (together t)
    together_is t parted parts key = subst (IsEntry is_value nothing) (sym (get-together t parted key)) (entry_of (get t (part_of size key)) (parts (part_of size key)))
      where
        entry_of : (o : Option (Table V)) → IsEntry (IsTable is_value nothing) (λ part. part ≡ empty) o → IsEntry is_value nothing (in_part o key)
        entry_of None is = tt
        entry_of (Some part) is = is.0 key

  module _ (leq : V → V → Type 0) where
    below_in : (o p : Option (Table V)) (key : ℕ) → IsBelow (IsTableBelow leq) o p → IsBelow leq (in_part o key) (in_part p key)
    below_in None p key le = tt
    below_in (Some m) None key le = absurd le
    below_in (Some m) (Some k) key le = le key

    pub together_below : (s t : Table (Table V)) → IsParted size s → IsParted size t → IsTableBelow (IsTableBelow leq) s t → IsTableBelow leq (together s) (together t)
    together_below s t s-is t-is le key =
        subst (λ x. IsBelow leq x (get (together t) key)) (sym (get-together s s-is key))
        (subst (λ x. IsBelow leq (in_part (get s (part_of size key)) key) x) (sym (get-together t t-is key))
        (below_in (get s (part_of size key)) (get t (part_of size key)) key (le (part_of size key))))

    pub below_together : (s t : Table (Table V)) → IsParted size s → IsParted size t → HaveParts s → IsTableBelow leq (together s) (together t) → IsTableBelow (IsTableBelow leq) s t
    below_together s t s-is t-is have le n = by_parts (get s n) refl (get t n) refl
      where
        -- what stands at a key of a part of s lies below what stands there in t
        at_entry : (m : Table V) → get s n ≡ Some m → (key : ℕ) (v : V) → get m key ≡ Some v → IsBelow leq (Some v) (in_part (get t n) key)
        at_entry m found key v stands =
            let number : part_of size key ≡ n = s-is.keys n m found key v stands in
            let left : get (together s) key ≡ Some v = get-together s s-is key ∙ ap (λ q. in_part (get s q) key) number ∙ ap (λ o. in_part o key) found ∙ stands in
            let right : get (together t) key ≡ in_part (get t n) key = get-together t t-is key ∙ ap (λ q. in_part (get t q) key) number in
            subst (λ x. IsBelow leq x (in_part (get t n) key)) left (subst (λ x. IsBelow leq (get (together s) key) x) right (le key))

        at_each : (m k : Table V) → get s n ≡ Some m → get t n ≡ Some k → (key : ℕ) (o : Option V) → get m key ≡ o → IsBelow leq o (get k key)
        at_each m k one other key None stands = tt
        at_each m k one other key (Some v) stands = subst (λ o. IsBelow leq (Some v) (in_part o key)) other (at_entry m one key v stands)

        by_parts : (o : Option (Table V)) → get s n ≡ o → (p : Option (Table V)) → get t n ≡ p → IsBelow (IsTableBelow leq) o p
        by_parts None one p other = tt
        by_parts (Some m) one None other =
            let e = some_entry m (have n m one) in
            absurd (subst (λ o. IsBelow leq (Some e.1) (in_part o e.0)) other (at_entry m one e.0 e.1 e.2))
        by_parts (Some m) one (Some k) other = λ key. at_each m k one other key (get m key) refl

  module _ (join : V → V → V) where
    joined_in : (o p : Option (Table V)) (key : ℕ) → in_part (joined_at (joined_table join) o p) key ≡ joined_at join (in_part o key) (in_part p key)
    joined_in None p key = refl
    joined_in (Some m) None key = sym (joined_at_none join (get m key))
    joined_in (Some m) (Some k) key = get-joined_table join m k key

    pub parted_joined : (s t : Table (Table V)) → IsParted size s → IsParted size t → IsParted size (joined_table (joined_table join) s t)
    parted_joined s t s-is t-is = record {
      keys = λ n part found key v stands.
          in_either n key v (get s n) (get t n) refl refl
          (sym (joined_in (get s n) (get t n) key) ∙ ap (λ o. in_part o key) (sym (get-joined_table (joined_table join) s t n) ∙ found) ∙ stands);
    }
      where
        in_one : (u : Table (Table V)) → IsParted size u → (n key : ℕ) (v : V) (o : Option (Table V)) → get u n ≡ o → in_part o key ≡ Some v → part_of size key ≡ n
        in_one u u-is n key v None found stands = absurd (let none : None ≡ Some v = stands in cc)
        in_one u u-is n key v (Some m) found stands = u-is.keys n m found key v stands

        of_both : (n key : ℕ) (v : V) (a b : Option V) → ((w : V) → a ≡ Some w → part_of size key ≡ n) → ((w : V) → b ≡ Some w → part_of size key ≡ n)
            → joined_at join a b ≡ Some v → part_of size key ≡ n
        of_both n key v None b one other is = other v is
        of_both n key v (Some a) b one other is = one a refl

        in_either : (n key : ℕ) (v : V) (o p : Option (Table V)) → get s n ≡ o → get t n ≡ p
            → joined_at join (in_part o key) (in_part p key) ≡ Some v → part_of size key ≡ n
        in_either n key v o p one other is = of_both n key v (in_part o key) (in_part p key)
            (λ w stands. in_one s s-is n key w o one stands) (λ w stands. in_one t t-is n key w p other stands) is

    pub together_both : (s t : Table (Table V)) → IsParted size s → IsParted size t → together (joined_table (joined_table join) s t) ≡ joined_table join (together s) (together t)
    together_both s t s-is t-is = same_table _ _ (λ key.
        get-together (joined_table (joined_table join) s t) (parted_joined s t s-is t-is) key
        ∙ ap (λ o. in_part o key) (get-joined_table (joined_table join) s t (part_of size key))
        ∙ joined_in (get s (part_of size key)) (get t (part_of size key)) key
        ∙ ap (λ x. joined_at join x (in_part (get t (part_of size key)) key)) (sym (get-together s s-is key))
        ∙ ap (joined_at join (get (together s) key)) (sym (get-together t t-is key))
        ∙ sym (get-joined_table join (together s) (together t) key))

  module _ (round : V → V) where
    rounded_in : (o : Option (Table V)) (key : ℕ) → in_part (option_map (rounded_table round) o) key ≡ option_map round (in_part o key)
    rounded_in None key = refl
    rounded_in (Some m) key = get-rounded_table round m key

    pub parted_rounded : (t : Table (Table V)) → IsParted size t → IsParted size (rounded_table (rounded_table round) t)
    parted_rounded t t-is = record {
      keys = λ n part found key v stands.
          in_one n key v (get t n) refl
          (sym (rounded_in (get t n) key) ∙ ap (λ o. in_part o key) (sym (get-rounded_table (rounded_table round) t n) ∙ found) ∙ stands);
    }
      where
        of_value : (n key : ℕ) (v : V) (m : Table V) → get t n ≡ Some m → (a : Option V) → get m key ≡ a → option_map round a ≡ Some v → part_of size key ≡ n
        of_value n key v m found None stands is = absurd (let none : None ≡ Some v = is in cc)
        of_value n key v m found (Some w) stands is = t-is.keys n m found key w stands

        in_one : (n key : ℕ) (v : V) (o : Option (Table V)) → get t n ≡ o → option_map round (in_part o key) ≡ Some v → part_of size key ≡ n
        in_one n key v None found is = absurd (let none : None ≡ Some v = is in cc)
        in_one n key v (Some m) found is = of_value n key v m found (get m key) refl is

    pub together_rounded : (t : Table (Table V)) → IsParted size t → together (rounded_table (rounded_table round) t) ≡ rounded_table round (together t)
    together_rounded t t-is = same_table _ _ (λ key.
        get-together (rounded_table (rounded_table round) t) (parted_rounded t t-is) key
        ∙ ap (λ o. in_part o key) (get-rounded_table (rounded_table round) t (part_of size key))
        ∙ rounded_in (get t (part_of size key)) key
        ∙ ap (option_map round) (sym (get-together t t-is key))
        ∙ sym (get-rounded_table round (together t) key))

  -- ## The next entry

  -- the next entry of the part is that of the table
  pub next_in_part : (t : Table (Table V)) (now : Table V) (from key : ℕ) (v : V) → IsParted size t → together t ≡ now → IsNext (part_at size t from) from key v → IsNext now from key v
  next_in_part t now from key v parted view next =
      let same : part_of size key ≡ part_of size from = own_keys t parted from key v next.stands in
      record {
        at_least = next.at_least;
        stands = ap (λ u. get u key) (sym view) ∙ sym (get-part_at t parted from key same) ∙ next.stands;
        none_between = λ other low high.
            ap (λ u. get u other) (sym view) ∙ sym (get-part_at t parted from other (between size from other key low high same)) ∙ next.none_between other low high;
      }

  -- an entry of a later part, where the part has no more and none stands between
  module _ (t : Table (Table V)) (now : Table V) (from n : ℕ) (parted : IsParted size t) (view : together t ≡ now) (number : n ≡ part_of size from)
      (past : IsPast (part_at size t from) from) where
    in_between : (other : ℕ) → from ≤ other → (part_of size other ≢ part_of size from → get t (part_of size other) ≡ None) → get now other ≡ None
    in_between other low none = ap (λ u. get u other) (sym view) ∙ elim (cases_eq (part_of size other) (part_of size from)) [
      | inl same ↦ sym (get-part_at t parted from other same) ∙ past other low
      | inr differ ↦ get-together t parted other ∙ ap (λ o. in_part o other) (none differ)
    ]

    pub none_later : IsPast t (n + 1) → IsPast now from
    none_later later other low = in_between other low (λ differ.
        let up = part_rises size from other low in later (part_of size other) (omega (arith, up, differ, number)))

    pub next_later : (m key : ℕ) (part : Table V) (v : V) → IsNext t (n + 1) m part → IsNext part 0 key v → IsNext now from key v
    next_later m key part v later next =
        let same : part_of size key ≡ m = parted.keys m part later.stands key v next.stands in
        let above = later.at_least in
        record {
          at_least = by_order (λ less. let up = part_rises size key from (omega (arith, less)) in omega (arith, up, same, above, number));
          stands = ap (λ u. get u key) (sym view) ∙ get-together t parted key ∙ ap (λ q. in_part (get t q) key) same ∙ ap (λ o. in_part o key) later.stands ∙ next.stands;
          none_between = λ other low high. elim (cases_eq (part_of size other) m) [
            | inl here ↦ ap (λ u. get u other) (sym view) ∙ get-together t parted other ∙ ap (λ q. in_part (get t q) other) here ∙ ap (λ o. in_part o other) later.stands
                ∙ next.none_between other (omega arith) high
            | inr there ↦ in_between other low (λ differ.
                let up = part_rises size from other low in
                let down = part_rises size other key (omega (arith, high)) in
                later.none_between (part_of size other) (omega (arith, up, differ, number)) (omega (arith, down, same, there)))
          ];
        }
      where
        by_order : {a b : ℕ} → (b < a → ⊥) → a ≤ b
        by_order h = omega (arith, h)

  pub past_of_none : (t : Table (Table V)) (n key : ℕ) → n ≡ part_of size key → get t n ≡ None → IsPast (part_at size t key) key
  past_of_none t n key number found = subst (λ m. IsPast m key) (part_none t n key number found) (past_empty key)

-- what holds at either answer
pub at_either : {A : Type 0} (o : Option A) (P P' : Type 0) (Q Q' : A → Type 0) → MatchOption o P Q → (P → P') → ((a : A) → Q a → Q' a) → MatchOption o P' Q'
at_either None P P' Q Q' m p q = p m
at_either (Some a) P P' Q Q' m p q = q a m

-- what holds at an answer that is there
pub at_some : {A : Type 0} (o : Option A) (P P' : Type 0) (Q Q' : A → Type 0) → is_some o ≡ true → MatchOption o P Q → ((a : A) → Q a → Q' a) → MatchOption o P' Q'
at_some None P P' Q Q' is m q = absurd (let none : false ≡ true = is in cc)
at_some (Some a) P P' Q Q' is m q = q a m

-- and at one that is not
pub at_none : {A : Type 0} (o : Option A) (P : Type 0) (Q : A → Type 0) → is_some o ≡ false → MatchOption o P Q → P
at_none None P Q is m = m
at_none (Some a) P Q is m = absurd (let some : true ≡ false = is in cc)
