-- Entries are put over those of a table.
use Rattle.std.proofs.Common.{◌≡◌, ◌≢◌, refl, sym, ap, subst, ◌∙◌, ℕ, ◌+◌, ◌<◌, ◌≤◌, Bool, List, [], ◌∷◌, length, drop}
use Rattle.std.proofs.Common.{get_or, true, false, cond, zero, suc, Option, Some, None, inl, inr, arith}
use Rattle.std.specs.FinMap.{get, entries, insert}
use Rattle.std.proofs.lemmas.Bool.{cases_eq}
use Rattle.std.proofs.lemmas.List.{drop_more}
use Rattle.tm_lattice.specs.Tables.{Table}
use Rattle.tm_lattice.specs.laws.TableLaws.{get-insert_here, get-insert_there, same_table}
use Rattle.interfere_set.specs.laws.Joins.{IsOf, entry_of}
use Rattle.pointer_dom.specs.Values.{Values}
use Rattle.transfer_rows.specs.StateForms.{Cell}
use Rattle.certificate_reading.specs.declared.assembled.Marks.{Marks}
use Rattle.certificate_reading.specs.declared.kept_rows.KeptRow.{KeptRow}
use Rattle.certificate_reading.specs.reading.Shapes.{RiseFrom}
use Rattle.certificate_reading.specs.reading.Parts.{cells_of, shared_cell, local_cell}
use Rattle.certificate_reading.specs.reading.Cells.{AreSeen, cell_with}
use Rattle.certificate_reading.specs.reading.KeptRows.{values_of}
use Rattle.certificate_reading.proofs.StateKeys.{keys, key_of, of_key, keys_are, least}
use Rattle.certificate_reading.proofs.RowsAgain.{values_length}

heads : (a b : ℕ) (xs ys : List ℕ) → a ∷ xs ≡ b ∷ ys → (a ≡ b) × (xs ≡ ys)
heads a b xs ys e = ((let f : a ≡ b = cc in f), (let f : xs ≡ ys = cc in f))

no_head : (a : ℕ) (xs : List ℕ) → [] ≡ a ∷ xs → ⊥
no_head a xs e = cc

-- ## One entry

module _ {V : Type 0} where
  -- what stands there is put there again
  pub put_again : (t : Table V) (k : ℕ) (v : V) → get t k ≡ Some v → t ≡ insert t k v
  put_again t k v stands = same_table t (insert t k v) at
    where
      at : (q : ℕ) → get t q ≡ get (insert t k v) q
      at q = elim (cases_eq q k) [
        | inl here ↦ ap (get t) here ∙ (stands ∙ sym (get-insert_here t k v q here))
        | inr there ↦ sym (get-insert_there t k v q there)
      ]

  -- ## All entries

  abbrev pub put_all : Table V → List (ℕ × V) → Table V
  put_all t [] = t
  put_all t (e ∷ es) = put_all (insert t e.0 e.1) es

  -- what stands before all keys stays
  put_before : (t : Table V) (es : List (ℕ × V)) (k : ℕ) → RiseFrom (k + 1) (keys es) → get (put_all t es) k ≡ get t k
  put_before t [] k rises = refl
  put_before t (e ∷ es) k rises =
      let less = rises.0 in
      let differ : k ≢ e.0 = (λ same. omega (arith, less, same)) in
      put_before (insert t e.0 e.1) es k (rise_down (k + 1) (e.0 + 1) (keys es) (omega (arith, less)) rises.1)
      ∙ get-insert_there t e.0 e.1 k differ
    where
      rise_down : (low bound : ℕ) (ks : List ℕ) → low ≤ bound → RiseFrom bound ks → RiseFrom low ks
      rise_down low bound [] l h = tt
      rise_down low bound (k ∷ ks) l h = (let a = h.0 in omega (arith, l, a), h.1)

  -- each entry stands there
  put_there : (bound : ℕ) (t : Table V) (es : List (ℕ × V)) (e : ℕ × V) → RiseFrom bound (keys es) → IsOf es e
      → get (put_all t es) e.0 ≡ Some e.1
  put_there bound t [] e rises m = absurd m
  put_there bound t (d ∷ es) e rises (inl same) =
      ap (get (put_all (insert t d.0 d.1) es)) (ap (λ (x : ℕ × V). x.0) same)
      ∙ (put_before (insert t d.0 d.1) es d.0 rises.1
      ∙ (get-insert_here t d.0 d.1 d.0 refl ∙ ap Some (sym (ap (λ (x : ℕ × V). x.1) same))))
  put_there bound t (d ∷ es) e rises (inr m) = put_there (d.0 + 1) (insert t d.0 d.1) es e rises.1 m

  -- nothing else does but what was there
  put_only : (t : Table V) (es : List (ℕ × V)) (ks : List ℕ) → ((k : ℕ) (v : V) → get t k ≡ Some v → IsOf ks k)
      → ((k : ℕ) → IsOf (keys es) k → IsOf ks k) → (k : ℕ) (v : V) → get (put_all t es) k ≡ Some v → IsOf ks k
  put_only t [] ks only all k v is = only k v is
  put_only t (e ∷ es) ks only all k v is =
      put_only (insert t e.0 e.1) es ks next (λ x m. all x (inr m)) k v is
    where
      next : (q : ℕ) (w : V) → get (insert t e.0 e.1) q ≡ Some w → IsOf ks q
      next q w at = elim (cases_eq q e.0) [
        | inl here ↦ all q (inl here)
        | inr there ↦ only q w (sym (get-insert_there t e.0 e.1 q there) ∙ at)
      ]

  -- lists of entries with the same keys, of which the one has all that the other has, are the same
  same_lists : (bound : ℕ) (es fs : List (ℕ × V)) → keys es ≡ keys fs → RiseFrom bound (keys es)
      → ((e : ℕ × V) → IsOf es e → IsOf fs e) → es ≡ fs
  same_lists bound [] [] same rises all = refl
  same_lists bound [] (f ∷ fs) same rises all = absurd (no_head f.0 (keys fs) same)
  same_lists bound (e ∷ es) [] same rises all = absurd (no_head e.0 (keys es) (sym same))
  same_lists bound (e ∷ es) (f ∷ fs) same rises all =
      let both = heads e.0 f.0 (keys es) (keys fs) same in
      let first = both.0 in
      let rest = both.1 in
      let head : e ≡ f = by_first first rest (all e (inl refl)) in
      ap (λ d. d ∷ es) head ∙ ap (λ ds. f ∷ ds) (same_lists (e.0 + 1) es fs rest rises.1 (behind first))
    where
      by_first : e.0 ≡ f.0 → keys es ≡ keys fs → IsOf (f ∷ fs) e → e ≡ f
      by_first first rest (inl is) = is
      by_first first rest (inr m) =
          let n = subst (λ ks. IsOf ks e.0) (sym rest) (key_of fs e m) in
          absurd (let l = least (e.0 + 1) (keys es) rises.1 e.0 n in omega (arith, l))

      behind : e.0 ≡ f.0 → (d : ℕ × V) → IsOf es d → IsOf fs d
      behind first d m = by_member (all d (inr m))
        where
          by_member : IsOf (f ∷ fs) d → IsOf fs d
          by_member (inr n) = n
          by_member (inl is) =
              let l = least (e.0 + 1) (keys es) rises.1 d.0 (key_of es d m) in
              let k : d.0 ≡ f.0 = ap (λ (x : ℕ × V). x.0) is in
              absurd (omega (arith, l, k, first))

  -- over a table whose keys are among those of the entries these are all
  pub all_put : (t : Table V) (es : List (ℕ × V)) → RiseFrom 0 (keys es)
      → ((k : ℕ) (v : V) → get t k ≡ Some v → IsOf (keys es) k) → entries (put_all t es) ≡ es
  all_put t es rises only =
      let all = put_all t es in
      let same : keys (entries all) ≡ keys es = keys_are all (keys es) rises
      (put_only t es (keys es) only (λ k m. m)) there in
      sym (same_lists 0 es (entries all) (sym same) rises
      (λ e m. entry_of all e.0 e.1 (put_there 0 t es e rises m)))
    where
      there : (k : ℕ) → IsOf (keys es) k → get (put_all t es) k ≡ None → ⊥
      there k m none =
          let r = of_key es k m in
          let f : None ≡ Some r.0 = sym none ∙ put_there 0 t es (k, r.0) rises r.1 in
          cc

-- ## Cells

module _ (shared : ℕ → Bool) where
  cells_keys : (seen : List ℕ) (vs : List Values) (ps : List (Option ℕ)) (fs ss : List Bool)
      → length vs ≡ length seen → length fs ≡ length seen → keys (cells_of shared seen vs ps fs ss) ≡ seen
  cells_keys [] vs ps fs ss l m = refl
  cells_keys (x ∷ xs) [] ps fs ss l m = absurd (omega (arith, l))
  cells_keys (x ∷ xs) (v ∷ vs) ps [] ss l m = absurd (omega (arith, m))
  cells_keys (x ∷ xs) (v ∷ vs) ps (f ∷ fs) ss l m =
      let a = cells_keys xs vs (drop 1 ps) fs ss (omega (arith, l)) (omega (arith, m)) in
      let b = cells_keys xs vs ps fs (drop 1 ss) (omega (arith, l)) (omega (arith, m)) in
      by_kind (shared x) a b
    where
      by_kind : (s : Bool) → keys (cells_of shared xs vs (drop 1 ps) fs ss) ≡ xs
          → keys (cells_of shared xs vs ps fs (drop 1 ss)) ≡ xs
          → keys (cond s
          ((x, shared_cell v (get_or ps 0 None) f) ∷ cells_of shared xs vs (drop 1 ps) fs ss)
          ((x, local_cell v f (get_or ss 0 false)) ∷ cells_of shared xs vs ps fs (drop 1 ss))) ≡ x ∷ xs
      by_kind true a b = ap (λ ks. x ∷ ks) a
      by_kind false a b = ap (λ ks. x ∷ ks) b

  -- what is put first is the cell of the first number
  abbrev pub AreMarks : ℕ → List (Option ℕ) → Bool → List Bool → Marks → List (Option ℕ) → List Bool → Type 0
  AreMarks x ps f ss c qs ts = (v : Values) (xs : List ℕ) (vs : List Values) (fs : List Bool)
      → cells_of shared (x ∷ xs) (v ∷ vs) ps (f ∷ fs) ss ≡ (x, cell_with v c) ∷ cells_of shared xs vs qs fs ts

  values_at : (rows : List KeptRow) (r : KeptRow) (i : ℕ) → i < length rows
      → drop i (values_of rows) ≡ (let s = get_or rows i r in s.value) ∷ drop (i + 1) (values_of rows)
  values_at [] r i l = absurd (omega (arith, l))
  values_at (s ∷ rows) r zero l = refl
  values_at (s ∷ rows) r (suc i) l =
      let e : suc (i + 1) ≡ suc i + 1 = omega arith in
      values_at rows r i (omega (arith, l))
      ∙ ap (λ n. (let t = get_or rows i r in t.value) ∷ drop n (values_of (s ∷ rows))) e

  pub cells_over_more : (all t new : Table Cell) (i : ℕ) (seen : List ℕ) (rows : List KeptRow) (r : KeptRow)
      (v : Values) (ps qs : List (Option ℕ)) (fs : List Bool) (f : Bool) (ss ts : List Bool) (m : Marks)
      → i < length seen → i < length rows → i < length fs → v ≡ (let s = get_or rows i r in s.value)
      → AreMarks (get_or seen i 0) ps (get_or fs i f) ss m qs ts → new ≡ insert t (get_or seen i 0) (cell_with v m)
      → put_all t (cells_of shared (drop i seen) (drop i (values_of rows)) ps (drop i fs) ss) ≡ all
      → put_all new (cells_of shared (drop (i + 1) seen) (drop (i + 1) (values_of rows)) qs (drop (i + 1) fs) ts) ≡ all
  cells_over_more all t new i seen rows r v ps qs fs f ss ts m l lr lf value marks put far =
      let x = get_or seen i 0 in
      let xs = drop (i + 1) seen in
      let vs = drop (i + 1) (values_of rows) in
      let gs = drop (i + 1) fs in
      let a : cells_of shared (drop i seen) (drop i (values_of rows)) ps (drop i fs) ss
      ≡ cells_of shared (x ∷ xs) (v ∷ vs) ps (get_or fs i f ∷ gs) ss =
      (λ j. cells_of shared (drop_more seen i 0 l j) ((values_at rows r i lr ∙ ap (λ w. w ∷ vs) (sym value)) j) ps
      (drop_more fs i f lf j) ss) in
      ap (λ u. put_all u (cells_of shared xs vs qs gs ts)) put
      ∙ (ap (put_all t) (sym (a ∙ marks v xs vs gs)) ∙ far)

  -- all have been put
  pub cells_over_all : (before t : Table Cell) (i : ℕ) (seen : List ℕ) (rows : List KeptRow) (vs : List Values)
      (ps qs : List (Option ℕ)) (fs gs ss ts : List Bool) → length seen ≤ i → RiseFrom 0 seen → AreSeen seen before
      → length rows ≡ length seen → length fs ≡ length seen
      → put_all t (cells_of shared (drop i seen) vs qs gs ts)
      ≡ put_all before (cells_of shared seen (values_of rows) ps fs ss)
      → entries t ≡ cells_of shared seen (values_of rows) ps fs ss
  cells_over_all before t i seen rows vs ps qs fs gs ss ts l rises only lr lf far =
      let es = cells_of shared seen (values_of rows) ps fs ss in
      let ks : keys es ≡ seen = cells_keys seen (values_of rows) ps fs ss (values_length rows ∙ lr) lf in
      let none : drop i seen ≡ [] = drop_none seen i l in
      let t-is : t ≡ put_all before es = ap (λ xs. put_all t (cells_of shared xs vs qs gs ts)) (sym none) ∙ far in
      ap entries t-is
      ∙ all_put before es (subst (RiseFrom 0) (sym ks) rises) (λ k c e. subst (λ xs. IsOf xs k) (sym ks) (only k c e))
    where
      drop_none : (xs : List ℕ) (n : ℕ) → length xs ≤ n → drop n xs ≡ []
      drop_none [] zero le = refl
      drop_none [] (suc n) le = refl
      drop_none (x ∷ xs) zero le = absurd (omega (arith, le))
      drop_none (x ∷ xs) (suc n) le = drop_none xs n (omega (arith, le))

  -- the cells that were put are seen
  pub seen_put : (seen : List ℕ) (vs : List Values) (ps : List (Option ℕ)) (fs ss : List Bool) (t : Table Cell)
      → length vs ≡ length seen → length fs ≡ length seen → entries t ≡ cells_of shared seen vs ps fs ss
      → AreSeen seen t
  seen_put seen vs ps fs ss t lv lf is x c at =
      let es = cells_of shared seen vs ps fs ss in
      let ks : keys es ≡ seen = cells_keys seen vs ps fs ss lv lf in
      subst (λ xs. IsOf xs x) ks (key_of es (x, c) (subst (λ ds. IsOf ds (x, c)) is (entry_of t x c at)))
