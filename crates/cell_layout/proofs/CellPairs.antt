-- Which abstract cell a cell has.
use Rattle.std.proofs.Common.{◌≡◌, refl, ap, sym, subst, ◌∙◌, ℕ, zero, suc, ◌+◌, ◌-◌, ◌*◌, ◌<◌, ◌≤◌, ◌⊎◌, inl, inr, Bool, true, false, cond, List, [], ◌∷◌, ◌++◌, length, map, get_or, arith, None}
use Rattle.std.specs.Prelude.{All}
use Rattle.std.proofs.lemmas.Bool.{cases_lt, both_ways}
use Rattle.std.proofs.lemmas.List.{length-append, length-map, get_or_append_left, get_or-append-add, get_or_past}
use Rattle.tm_typed.specs.declared.types.CType.{CType}
use Rattle.tm_typed.specs.declared.types.CType.TheVariants as Types
use Rattle.tm_typed.specs.declared.types.Scalar.{Scalar}
use Rattle.tm_typed.specs.declared.types.Scalar.TheVariants as Scalars
use Rattle.tm_typed.specs.declared.scopes.Member.{Member}
use Rattle.tm_typed.specs.Types.{no_type}
use Rattle.tm_typed.specs.Files.{TypedFileTree}
use Rattle.tm_laid.specs.declared.objects.DeclaredObject.{DeclaredObject}
use Rattle.tm_laid.specs.declared.objects.LaidObject.{LaidObject}
use Rattle.tm_laid.specs.declared.cells.LaidCell.{LaidCell}
use Rattle.tm_laid.specs.declared.cells.AbstractCell.{AbstractCell}
use Rattle.tm_laid.specs.TypeCells.{entry_of, structure_in, is_smashed, summed, count_by, cell_count, abstract_by, abstract_count, type_depth, cells_of_type, abstract_cells_of_type, elements, in_members, TypeCell, TypeAbstract, cells_by, type_cells, abstracts_by, type_abstracts}
use Rattle.tm_laid.specs.Objects.{laid_cell, laid_abstract, objects_from, cells_from, abstracts_from}
use Rattle.tm_laid.specs.Paths.{paths_of}
use Rattle.tm_laid.specs.Layouts.{LaidTree, layout_of, declared_objects, object_at, cell_at, abstract_at, cell_of, abstract_of, no_object, no_cell, no_abstract_cell}
use Rattle.tm_laid.specs.Layable.{HasRanks, IsLayable}
use Rattle.tm_laid.proofs.TypeDepth.{type_cells_open, type_abstracts_open}
use Rattle.cell_layout.specs.Laws.{IsCellOf}

-- ## Lengths

elements_length : {A : Type 0} (at : ℕ → List A) (c : ℕ) → ((s : ℕ) → length (at s) ≡ c) → (n step start : ℕ) → length (elements at n step start) ≡ n * c
elements_length at c h zero step start = omega arith
elements_length at c h (suc n) step start =
    let a = length-append (at start) (elements at n step (start + step)) in
    let b = h start in
    let d = elements_length at c h n step (start + step) in
    let e : suc n * c ≡ c + n * c = omega arith in
    omega (arith, a, b, d, e)

members_length : {A : Type 0} (at : ℕ → ℕ → List A) (count step : ℕ → ℕ) → ((m s : ℕ) → length (at m s) ≡ count m) → (ms : List Member) (start : ℕ) → length (in_members at step ms start) ≡ summed count ms
members_length at count step h [] start = refl
members_length at count step h (m ∷ ms) start =
    let a = length-append (at m.part.of.number start) (in_members at step ms (start + step m.part.of.number)) in
    let b = h m.part.of.number start in
    let d = members_length at count step h ms (start + step m.part.of.number) in
    omega (arith, a, b, d)

cells_by_length : (file : TypedFileTree) (d start n : ℕ) → ((e s : ℕ) → length (type_cells file d e s) ≡ cell_count file d e) → (t : CType)
    → length (cells_by file (type_cells file d) (abstract_cells_of_type file) start (entry_of file n) t) ≡ count_by file (cell_count file d) t
cells_by_length file d start n h Types.Void = refl
cells_by_length file d start n h (Types.Int u) = refl
cells_by_length file d start n h (Types.Pointer q) = refl
cells_by_length file d start n h (Types.Array e k) = elements_length (type_cells file d e) (cell_count file d e) (h e) k (cond (is_smashed k) 0 (abstract_cells_of_type file e)) start
cells_by_length file d start n h (Types.Struct k) = members_length (type_cells file d) (cell_count file d) (abstract_cells_of_type file) h (structure_in file k).members start

pub cells_length : (file : TypedFileTree) (d n start : ℕ) → length (type_cells file d n start) ≡ cell_count file d n
unfolding type_cells cell_count
cells_length file zero n start = refl
cells_length file (suc d) n start = cells_by_length file d start n (λ e s. cells_length file d e s) (entry_of file n).ctype

one_or_all : {A : Type 0} (b : Bool) (xs ys : List A) (x y : ℕ) → length xs ≡ x → length ys ≡ y → length (cond b xs ys) ≡ cond b x y
one_or_all true xs ys x y h k = h
one_or_all false xs ys x y h k = k

abstracts_by_length : (file : TypedFileTree) (d start n : ℕ) (smashed : Bool) → ((b : Bool) (e s : ℕ) → length (type_abstracts file d b e s) ≡ abstract_count file d e) → (t : CType)
    → length (abstracts_by file (type_abstracts file d) (cells_of_type file) smashed start (entry_of file n) t) ≡ abstract_by file (abstract_count file d) t
abstracts_by_length file d start n smashed h Types.Void = refl
abstracts_by_length file d start n smashed h (Types.Int u) = refl
abstracts_by_length file d start n smashed h (Types.Pointer q) = refl
abstracts_by_length file d start n smashed h (Types.Array e k) =
    one_or_all (is_smashed k) (type_abstracts file d true e start) (elements (type_abstracts file d smashed e) k (cells_of_type file e) start) (abstract_count file d e) (k * abstract_count file d e)
    (h true e start) (elements_length (type_abstracts file d smashed e) (abstract_count file d e) (h smashed e) k (cells_of_type file e) start)
abstracts_by_length file d start n smashed h (Types.Struct k) = members_length (type_abstracts file d smashed) (abstract_count file d) (cells_of_type file) (h smashed) (structure_in file k).members start

pub abstracts_length : (file : TypedFileTree) (d : ℕ) (smashed : Bool) (n start : ℕ) → length (type_abstracts file d smashed n start) ≡ abstract_count file d n
unfolding type_abstracts abstract_count
abstracts_length file zero smashed n start = refl
abstracts_length file (suc d) smashed n start = abstracts_by_length file d start n smashed (λ b e s. abstracts_length file d b e s) (entry_of file n).ctype

-- ## Pairs

no_type_cell : TypeCell
no_type_cell = record { scalar = Scalars.Pointer 0; abstract_cell = 0 }

no_type_abstract : TypeAbstract
no_type_abstract = record { scalar = Scalars.Pointer 0; offset = 0; smashed = false }

cell : List TypeCell → ℕ → TypeCell
cell cs k = get_or cs k no_type_cell

abst : List TypeAbstract → ℕ → TypeAbstract
abst bs x = get_or bs x no_type_abstract

-- a cell at this place has an abstract cell of the list
record IsPair (start off : ℕ) (c : TypeCell) (k : ℕ) (bs : List TypeAbstract) : Type 0 where
  place : ℕ
  is : c.abstract_cell ≡ start + place
  within : place < length bs
  scalar : (abst bs place).scalar ≡ c.scalar
  one : (abst bs place).smashed ≡ false → (abst bs place).offset ≡ off + k

record ArePaired (smashed : Bool) (start off : ℕ) (cs : List TypeCell) (bs : List TypeAbstract) : Type 0 where
  pair : (k : ℕ) → k < length cs → IsPair start off (cell cs k) k bs
  all : smashed ≡ true → (x : ℕ) → x < length bs → (abst bs x).smashed ≡ true

none_paired : (smashed : Bool) (start off : ℕ) → ArePaired smashed start off [] []
none_paired smashed start off = record { pair = λ k lt. absurd (omega (arith, lt)); all = λ t x lt. absurd (omega (arith, lt)) }

single_paired : (smashed : Bool) (start off : ℕ) (s : Scalar) → ArePaired smashed start off (record { scalar = s; abstract_cell = start } ∷ []) (record { scalar = s; offset = off; smashed = smashed } ∷ [])
unfolding cell abst
single_paired smashed start off s = record { pair = pair; all = all }
  where
    pair : (k : ℕ) → k < 1 → IsPair start off (cell (record { scalar = s; abstract_cell = start } ∷ []) k) k (record { scalar = s; offset = off; smashed = smashed } ∷ [])
    pair zero lt = record { place = 0; is = omega arith; within = omega arith; scalar = refl; one = λ f. omega arith }
    pair (suc k) lt = absurd (omega (arith, lt))

    all : smashed ≡ true → (x : ℕ) → x < 1 → (abst (record { scalar = s; offset = off; smashed = smashed } ∷ []) x).smashed ≡ true
    all t zero lt = t
    all t (suc x) lt = absurd (omega (arith, lt))

cell_left : (cs ds : List TypeCell) (k : ℕ) → k < length cs → cell (cs ++ ds) k ≡ cell cs k
unfolding cell
cell_left cs ds k lt = get_or_append_left cs ds no_type_cell k lt

cell_right : (cs ds : List TypeCell) (k : ℕ) → length cs ≤ k → cell (cs ++ ds) k ≡ cell ds (k - length cs)
unfolding cell
cell_right cs ds k le =
    ap (λ i. get_or (cs ++ ds) i no_type_cell) (let e : k ≡ length cs + (k - length cs) = omega (arith, le) in e) ∙ get_or-append-add cs ds (k - length cs) no_type_cell

abst_left : (bs ds : List TypeAbstract) (k : ℕ) → k < length bs → abst (bs ++ ds) k ≡ abst bs k
unfolding abst
abst_left bs ds k lt = get_or_append_left bs ds no_type_abstract k lt

abst_right : (bs ds : List TypeAbstract) (k : ℕ) → abst (bs ++ ds) (length bs + k) ≡ abst ds k
unfolding abst
abst_right bs ds k = get_or-append-add bs ds k no_type_abstract

module _ (smashed : Bool) (start off : ℕ) (cs ds : List TypeCell) (bs es : List TypeAbstract) (h : ArePaired smashed start off cs bs) (g : ArePaired smashed (start + length bs) (off + length cs) ds es) where
  both_pair : (k : ℕ) → k < length (cs ++ ds) → IsPair start off (cell (cs ++ ds) k) k (bs ++ es)
  both_pair k lt = elim (cases_lt k (length cs)) [
    | inl l ↦
        (let p = h.pair k l in
        let P : TypeCell → Type 0 = λ c. IsPair start off c k (bs ++ es) in
        let w = p.within in
        let n = length-append bs es in
        let e = abst_left bs es p.place w in
        subst P (sym (cell_left cs ds k l)) (record {
          place = p.place;
          is = p.is;
          within = omega (arith, w, n);
          scalar = ap (λ b. b.scalar) e ∙ p.scalar;
          one = λ f. ap (λ b. b.offset) e ∙ p.one (sym (ap (λ b. b.smashed) e) ∙ f);
        }))
    | inr r ↦
        (let m = length-append cs ds in
        let p = g.pair (k - length cs) (omega (arith, lt, m, r)) in
        let P : TypeCell → Type 0 = λ c. IsPair start off c k (bs ++ es) in
        let w = p.within in
        let i = p.is in
        let n = length-append bs es in
        let e = abst_right bs es p.place in
        subst P (sym (cell_right cs ds k r)) (record {
          place = length bs + p.place;
          is = omega (arith, i);
          within = omega (arith, w, n);
          scalar = ap (λ b. b.scalar) e ∙ p.scalar;
          one = λ f. (let x = p.one (sym (ap (λ b. b.smashed) e) ∙ f) in let y = ap (λ b. b.offset) e in omega (arith, x, y, r));
        }))
  ]

  both_all : smashed ≡ true → (x : ℕ) → x < length (bs ++ es) → (abst (bs ++ es) x).smashed ≡ true
  both_all t x lt = elim (cases_lt x (length bs)) [
    | inl l ↦ ap (λ b. b.smashed) (abst_left bs es x l) ∙ h.all t x l
    | inr r ↦
        (let n = length-append bs es in
        let e : x ≡ length bs + (x - length bs) = omega (arith, r) in
        ap (λ i. (abst (bs ++ es) i).smashed) e ∙ ap (λ b. b.smashed) (abst_right bs es (x - length bs)) ∙ g.all t (x - length bs) (omega (arith, lt, n, r)))
  ]

  paired_append : ArePaired smashed start off (cs ++ ds) (bs ++ es)
  paired_append = record { pair = both_pair; all = both_all }

-- cells that share abstract cells
shared_append : (start off : ℕ) (cs ds : List TypeCell) (bs : List TypeAbstract) → ArePaired true start off cs bs → ArePaired true start off ds bs → ArePaired true start off (cs ++ ds) bs
shared_append start off cs ds bs h g = record { pair = pair; all = h.all }
  where
    pair : (k : ℕ) → k < length (cs ++ ds) → IsPair start off (cell (cs ++ ds) k) k bs
    pair k lt = elim (cases_lt k (length cs)) [
      | inl l ↦ (let P : TypeCell → Type 0 = λ c. IsPair start off c k bs in subst P (sym (cell_left cs ds k l)) (h.pair k l))
      | inr r ↦
          (let m = length-append cs ds in
          let p = g.pair (k - length cs) (omega (arith, lt, m, r)) in
          let P : TypeCell → Type 0 = λ c. IsPair start off c k bs in
          subst P (sym (cell_right cs ds k r)) (record {
            place = p.place;
            is = p.is;
            within = p.within;
            scalar = p.scalar;
            one = λ f. absurd (both_ways (abst bs p.place).smashed f (h.all refl p.place p.within));
          }))
    ]

elements_paired : (smashed : Bool) (at_c : ℕ → List TypeCell) (at_b : ℕ → List TypeAbstract) (a c : ℕ) → ((s : ℕ) → length (at_c s) ≡ c) → ((o : ℕ) → length (at_b o) ≡ a)
    → ((s o : ℕ) → ArePaired smashed s o (at_c s) (at_b o)) → (n s o : ℕ) → ArePaired smashed s o (elements at_c n a s) (elements at_b n c o)
elements_paired smashed at_c at_b a c lc lb h zero s o = none_paired smashed s o
elements_paired smashed at_c at_b a c lc lb h (suc n) s o =
    paired_append smashed s o (at_c s) (elements at_c n a (s + a)) (at_b o) (elements at_b n c (o + c)) (h s o)
    (let P : ℕ → Type 0 = λ x. ArePaired smashed (s + x) (o + length (at_c s)) (elements at_c n a (s + a)) (elements at_b n c (o + c)) in
    let Q : ℕ → Type 0 = λ x. ArePaired smashed (s + a) (o + x) (elements at_c n a (s + a)) (elements at_b n c (o + c)) in
    subst P (sym (lb o)) (subst Q (sym (lc s)) (elements_paired smashed at_c at_b a c lc lb h n (s + a) (o + c))))

smashed_paired : (at_c : ℕ → List TypeCell) (bs : List TypeAbstract) (s o : ℕ) → ArePaired true s o (at_c s) bs → (n : ℕ) → ArePaired true s o (elements at_c n 0 s) bs
smashed_paired at_c bs s o h zero = record { pair = λ k lt. absurd (omega (arith, lt)); all = h.all }
smashed_paired at_c bs s o h (suc n) =
    shared_append s o (at_c s) (elements at_c n 0 (s + 0)) bs h
    (let P : ℕ → Type 0 = λ x. ArePaired true s o (elements at_c n 0 x) bs in let e : s ≡ s + 0 = omega arith in subst P e (smashed_paired at_c bs s o h n))

weaker : (smashed : Bool) (s o : ℕ) (cs : List TypeCell) (bs : List TypeAbstract) → ArePaired true s o cs bs → ArePaired smashed s o cs bs
weaker smashed s o cs bs h = record { pair = h.pair; all = λ t. h.all refl }

members_paired : (smashed : Bool) (at_c : ℕ → ℕ → List TypeCell) (at_b : ℕ → ℕ → List TypeAbstract) (a c : ℕ → ℕ) → ((m s : ℕ) → length (at_c m s) ≡ c m) → ((m o : ℕ) → length (at_b m o) ≡ a m)
    → (ms : List Member) → All (λ m. (s o : ℕ) → ArePaired smashed s o (at_c m.part.of.number s) (at_b m.part.of.number o)) ms → (s o : ℕ) → ArePaired smashed s o (in_members at_c a ms s) (in_members at_b c ms o)
members_paired smashed at_c at_b a c lc lb [] h s o = none_paired smashed s o
members_paired smashed at_c at_b a c lc lb (m ∷ ms) h s o =
    let n : ℕ = m.part.of.number in
    paired_append smashed s o (at_c n s) (in_members at_c a ms (s + a n)) (at_b n o) (in_members at_b c ms (o + c n)) (h 0 m (omega arith) s o)
    (let P : ℕ → Type 0 = λ x. ArePaired smashed (s + x) (o + length (at_c n s)) (in_members at_c a ms (s + a n)) (in_members at_b c ms (o + c n)) in
    let Q : ℕ → Type 0 = λ x. ArePaired smashed (s + a n) (o + x) (in_members at_c a ms (s + a n)) (in_members at_b c ms (o + c n)) in
    subst P (sym (lb n o)) (subst Q (sym (lc n s))
    (members_paired smashed at_c at_b a c lc lb ms (λ i d l. h (suc i) d (omega (arith, l))) (s + a n) (o + c n))))

-- ## Types

module _ (file : TypedFileTree) (h : HasRanks file) where
  Cells : ℕ → ℕ → List TypeCell
  Cells n s = type_cells file (type_depth file) n s

  Pairs : ℕ → Type 0
  Pairs n = (smashed : Bool) (s o : ℕ) → ArePaired smashed s o (type_cells file (type_depth file) n s) (type_abstracts file (type_depth file) smashed n o)

  array_paired : (e n : ℕ) → Pairs e → (b : Bool) → (smashed : Bool) (s o : ℕ) → ArePaired smashed s o (elements (type_cells file (type_depth file) e) n (cond b 0 (abstract_cells_of_type file e)) s)
      (cond b (type_abstracts file (type_depth file) true e o) (elements (type_abstracts file (type_depth file) smashed e) n (cells_of_type file e) o))
  unfolding Pairs
  array_paired e n p true smashed s o =
      weaker smashed s o (elements (type_cells file (type_depth file) e) n 0 s) (type_abstracts file (type_depth file) true e o)
      (smashed_paired (type_cells file (type_depth file) e) (type_abstracts file (type_depth file) true e o) s o (p true s o) n)
  array_paired e n p false smashed s o =
      elements_paired smashed (type_cells file (type_depth file) e) (type_abstracts file (type_depth file) smashed e) (abstract_cells_of_type file e) (cells_of_type file e)
      (λ x. cells_length file (type_depth file) e x) (λ x. abstracts_length file (type_depth file) smashed e x) (p smashed) n s o

  by_type : (n : ℕ) (t : CType) → (entry_of file n).ctype ≡ t → ((m : ℕ) → h.rank m < h.rank n → Pairs m) → (smashed : Bool) (s o : ℕ)
      → ArePaired smashed s o (cells_by file (type_cells file (type_depth file)) (abstract_cells_of_type file) s (entry_of file n) t)
      (abstracts_by file (type_abstracts file (type_depth file)) (cells_of_type file) smashed o (entry_of file n) t)
  unfolding Pairs
  by_type n Types.Void t parts smashed s o = none_paired smashed s o
  by_type n (Types.Int u) t parts smashed s o = single_paired smashed s o (Scalars.Int u)
  by_type n (Types.Pointer q) t parts smashed s o = single_paired smashed s o (Scalars.Pointer (entry_of file n).class)
  by_type n (Types.Array e k) t parts smashed s o = array_paired e k (parts e (h.elements n e k t)) (is_smashed k) smashed s o
  by_type n (Types.Struct k) t parts smashed s o =
      members_paired smashed (type_cells file (type_depth file)) (type_abstracts file (type_depth file) smashed) (abstract_cells_of_type file) (cells_of_type file)
      (λ m x. cells_length file (type_depth file) m x) (λ m x. abstracts_length file (type_depth file) smashed m x) (structure_in file k).members
      (λ i d l. parts (get_or (structure_in file k).members i d).part.of.number (h.members n k t i d l) smashed) s o

  opened : (n : ℕ) (smashed : Bool) (s o : ℕ) → ArePaired smashed s o (cells_by file (type_cells file (type_depth file)) (abstract_cells_of_type file) s (entry_of file n) (entry_of file n).ctype)
      (abstracts_by file (type_abstracts file (type_depth file)) (cells_of_type file) smashed o (entry_of file n) (entry_of file n).ctype)
      → ArePaired smashed s o (type_cells file (type_depth file) n s) (type_abstracts file (type_depth file) smashed n o)
  opened n smashed s o p =
      let P : List TypeCell → Type 0 = λ cs. ArePaired smashed s o cs (abstracts_by file (type_abstracts file (type_depth file)) (cells_of_type file) smashed o (entry_of file n) (entry_of file n).ctype) in
      let Q : List TypeAbstract → Type 0 = λ bs. ArePaired smashed s o (type_cells file (type_depth file) n s) bs in
      subst Q (sym (type_abstracts_open file h smashed n o)) (subst P (sym (type_cells_open file h n s)) p)

  outside : (n : ℕ) → length file.types ≤ n → (entry_of file n).ctype ≡ Types.Void
  outside n ge = ap (λ e. e.ctype) (get_or_past file.types n no_type ge)

  paired_to : (fuel n : ℕ) → (n < length file.types → h.rank n < fuel) → Pairs n
  unfolding Pairs
  paired_to zero n deep smashed s o = elim (cases_lt n (length file.types)) [
    | inl lt ↦ absurd (let l = deep lt in omega (arith, l))
    | inr ge ↦ opened n smashed s o (let P : CType → Type 0 = λ t. ArePaired smashed s o (cells_by file (type_cells file (type_depth file)) (abstract_cells_of_type file) s (entry_of file n) t)
        (abstracts_by file (type_abstracts file (type_depth file)) (cells_of_type file) smashed o (entry_of file n) t) in subst P (sym (outside n ge)) (none_paired smashed s o))
  ]
  paired_to (suc fuel) n deep smashed s o = elim (cases_lt n (length file.types)) [
    | inl lt ↦ opened n smashed s o (by_type n (entry_of file n).ctype refl (λ m r. paired_to fuel m (λ x. let l = deep lt in omega (arith, l, r))) smashed s o)
    | inr ge ↦ opened n smashed s o (let P : CType → Type 0 = λ t. ArePaired smashed s o (cells_by file (type_cells file (type_depth file)) (abstract_cells_of_type file) s (entry_of file n) t)
        (abstracts_by file (type_abstracts file (type_depth file)) (cells_of_type file) smashed o (entry_of file n) t) in subst P (sym (outside n ge)) (none_paired smashed s o))
  ]

  paired : (n : ℕ) → Pairs n
  paired n = paired_to (type_depth file) n (λ lt. h.deep n lt)

-- ## Objects

get_or-mapped : {A : Type 0} {B : Type 0} (f : A → B) (xs : List A) (i : ℕ) (d : A) (e : B) → i < length xs → get_or (map f xs) i e ≡ f (get_or xs i d)
get_or-mapped f [] i d e lt = absurd (omega (arith, lt))
get_or-mapped f (x ∷ xs) zero d e lt = refl
get_or-mapped f (x ∷ xs) (suc i) d e lt = get_or-mapped f xs i d e (omega (arith, lt))

obj : List LaidObject → ℕ → LaidObject
obj os o = get_or os o no_object

-- an object of a list whose cells and abstract cells begin with these, where its number in the list is o
record IsPlaced (file : TypedFileTree) (number c a : ℕ) (os : List LaidObject) (o : ℕ) : Type 0 where
  count : (obj os o).cells ≡ cells_of_type file (obj os o).of.number
  abstract_count : (obj os o).abstract_cells ≡ abstract_cells_of_type file (obj os o).of.number
  first : c ≤ (obj os o).first_cell
  first_abstract : a ≤ (obj os o).first_abstract
  cells : (k : ℕ) → k < (obj os o).cells → get_or (cells_from file number os) ((obj os o).first_cell - c + k) no_cell
      ≡ laid_cell (number + o) (cell (type_cells file (type_depth file) (obj os o).of.number (obj os o).first_abstract) k)
  abstracts : (k : ℕ) → k < (obj os o).abstract_cells → get_or (abstracts_from file number os) ((obj os o).first_abstract - a + k) no_abstract_cell
      ≡ laid_abstract (number + o) (abst (type_abstracts file (type_depth file) false (obj os o).of.number 0) k)

placed_at : (file : TypedFileTree) (number c a : ℕ) (ds : List DeclaredObject) (o : ℕ) → o < length (objects_from file c a ds) → IsPlaced file number c a (objects_from file c a ds) o
unfolding obj cell abst
placed_at file number c a [] o lt = absurd (omega (arith, lt))
placed_at file number c a (d ∷ ds) zero lt = record {
  count = refl;
  abstract_count = refl;
  first = omega arith;
  first_abstract = omega arith;
  cells = λ k l.
      ap (λ i. get_or (map (laid_cell number) cs ++ cells_from file (suc number) os) i no_cell) (let e : c - c + k ≡ k = omega arith in e)
      ∙ get_or_append_left (map (laid_cell number) cs) (cells_from file (suc number) os) no_cell k (let m = length-map cs (laid_cell number) in let n = long in omega (arith, m, n, l))
      ∙ get_or-mapped (laid_cell number) cs k no_type_cell no_cell (let n = long in omega (arith, n, l))
      ∙ ap (λ i. laid_cell i (get_or cs k no_type_cell)) (let e : number ≡ number + 0 = omega arith in e);
  abstracts = λ k l.
      ap (λ i. get_or (map (laid_abstract number) bs ++ abstracts_from file (suc number) os) i no_abstract_cell) (let e : a - a + k ≡ k = omega arith in e)
      ∙ get_or_append_left (map (laid_abstract number) bs) (abstracts_from file (suc number) os) no_abstract_cell k (let m = length-map bs (laid_abstract number) in let n = broad in omega (arith, m, n, l))
      ∙ get_or-mapped (laid_abstract number) bs k no_type_abstract no_abstract_cell (let n = broad in omega (arith, n, l))
      ∙ ap (λ i. laid_abstract i (get_or bs k no_type_abstract)) (let e : number ≡ number + 0 = omega arith in e);
}
  where
    cs : List TypeCell
    cs = type_cells file (type_depth file) d.of.number a

    bs : List TypeAbstract
    bs = type_abstracts file (type_depth file) false d.of.number 0

    os : List LaidObject
    os = objects_from file (c + cells_of_type file d.of.number) (a + abstract_cells_of_type file d.of.number) ds

    long : length cs ≡ cells_of_type file d.of.number
    long = cells_length file (type_depth file) d.of.number a

    broad : length bs ≡ abstract_cells_of_type file d.of.number
    broad = abstracts_length file (type_depth file) false d.of.number 0
placed_at file number c a (d ∷ ds) (suc o) lt =
    further file number c a d (objects_from file (c + cells_of_type file d.of.number) (a + abstract_cells_of_type file d.of.number) ds) o
    (placed_at file (suc number) (c + cells_of_type file d.of.number) (a + abstract_cells_of_type file d.of.number) ds o (omega (arith, lt)))
  where
    further : (file' : TypedFileTree) (number' c' a' : ℕ) (d' : DeclaredObject) (os : List LaidObject) (o' : ℕ)
        → IsPlaced file' (suc number') (c' + cells_of_type file' d'.of.number) (a' + abstract_cells_of_type file' d'.of.number) os o'
        → IsPlaced file' number' c' a' (record { name = d'.name; place = d'.place; of = d'.of; owner = d'.owner; first_cell = c'; cells = cells_of_type file' d'.of.number; first_abstract = a'; abstract_cells = abstract_cells_of_type file' d'.of.number } ∷ os) (suc o')
    further file' n c' a' d' os o' p = record {
      count = p.count;
      abstract_count = p.abstract_count;
      first = (let x = p.first in omega (arith, x));
      first_abstract = (let x = p.first_abstract in omega (arith, x));
      cells = λ k l.
          ap (λ i. get_or (map (laid_cell n) cs ++ cells_from file' (suc n) os) i no_cell)
          (let x = p.first in let m = length-map cs (laid_cell n) in let y = long in
          let e : (get_or os o' no_object).first_cell - c' + k ≡ length (map (laid_cell n) cs) + ((get_or os o' no_object).first_cell - (c' + cells_of_type file' d'.of.number) + k) = omega (arith, x, m, y) in e)
          ∙ get_or-append-add (map (laid_cell n) cs) (cells_from file' (suc n) os) ((get_or os o' no_object).first_cell - (c' + cells_of_type file' d'.of.number) + k) no_cell
          ∙ p.cells k l
          ∙ ap (λ i. laid_cell i (get_or (type_cells file' (type_depth file') (get_or os o' no_object).of.number (get_or os o' no_object).first_abstract) k no_type_cell)) (let e : suc n + o' ≡ n + suc o' = omega arith in e);
      abstracts = λ k l.
          ap (λ i. get_or (map (laid_abstract n) bs ++ abstracts_from file' (suc n) os) i no_abstract_cell)
          (let x = p.first_abstract in let m = length-map bs (laid_abstract n) in let y = broad in
          let e : (get_or os o' no_object).first_abstract - a' + k ≡ length (map (laid_abstract n) bs) + ((get_or os o' no_object).first_abstract - (a' + abstract_cells_of_type file' d'.of.number) + k) = omega (arith, x, m, y) in e)
          ∙ get_or-append-add (map (laid_abstract n) bs) (abstracts_from file' (suc n) os) ((get_or os o' no_object).first_abstract - (a' + abstract_cells_of_type file' d'.of.number) + k) no_abstract_cell
          ∙ p.abstracts k l
          ∙ ap (λ i. laid_abstract i (get_or (type_abstracts file' (type_depth file') false (get_or os o' no_object).of.number 0) k no_type_abstract)) (let e : suc n + o' ≡ n + suc o' = omega arith in e);
    }
      where
        cs : List TypeCell
        cs = type_cells file' (type_depth file') d'.of.number a'

        bs : List TypeAbstract
        bs = type_abstracts file' (type_depth file') false d'.of.number 0

        long : length cs ≡ cells_of_type file' d'.of.number
        long = cells_length file' (type_depth file') d'.of.number a'

        broad : length bs ≡ abstract_cells_of_type file' d'.of.number
        broad = abstracts_length file' (type_depth file') false d'.of.number 0

pub cells_of_objects : (file : TypedFileTree) (order : List ℕ) → IsLayable file order → (o k : ℕ) → o < length (layout_of file).objects → k < (object_at (layout_of file) o).cells → IsCellOf (layout_of file) o k
unfolding layout_of obj cell abst Pairs
cells_of_objects file order h o k lo lk =
    let ds = declared_objects file (paths_of file) in
    let p = placed_at file 0 0 0 ds o lo in
    let x : LaidObject = get_or (objects_from file 0 0 ds) o no_object in
    let n : ℕ = x.of.number in
    let pc = p.count in
    let pa = p.abstract_count in
    let lc = cells_length file (type_depth file) n x.first_abstract in
    let lb = abstracts_length file (type_depth file) false n 0 in
    let q = (paired file h.ranks n false x.first_abstract 0).pair k (omega (arith, lk, pc, lc)) in
    let w = q.within in
    let c : get_or (cells_from file 0 (objects_from file 0 0 ds)) (x.first_cell + k) no_cell ≡ laid_cell (0 + o) (get_or (type_cells file (type_depth file) n x.first_abstract) k no_type_cell) =
    ap (λ i. get_or (cells_from file 0 (objects_from file 0 0 ds)) i no_cell) (let e : x.first_cell + k ≡ x.first_cell - 0 + k = omega arith in e) ∙ p.cells k lk in
    let at : (get_or (cells_from file 0 (objects_from file 0 0 ds)) (x.first_cell + k) no_cell).abstract_cell ≡ x.first_abstract + q.place = ap (λ y. y.abstract_cell) c ∙ q.is in
    let b : get_or (abstracts_from file 0 (objects_from file 0 0 ds)) (get_or (cells_from file 0 (objects_from file 0 0 ds)) (x.first_cell + k) no_cell).abstract_cell no_abstract_cell
    ≡ laid_abstract (0 + o) (get_or (type_abstracts file (type_depth file) false n 0) q.place no_type_abstract) =
    ap (λ i. get_or (abstracts_from file 0 (objects_from file 0 0 ds)) i no_abstract_cell) (at ∙ (let e : x.first_abstract + q.place ≡ x.first_abstract - 0 + q.place = omega arith in e))
    ∙ p.abstracts q.place (omega (arith, w, pa, lb)) in
    record {
      object = ap (λ y. y.object) c ∙ (let e : 0 + o ≡ o = omega arith in e);
      least = omega (arith, at);
      most = omega (arith, at, w, pa, lb);
      abstract_object = ap (λ y. y.object) b ∙ (let e : 0 + o ≡ o = omega arith in e);
      scalar = ap (λ y. y.scalar) b ∙ q.scalar ∙ sym (ap (λ y. y.scalar) c);
      alone = λ f. ap (λ y. y.offset) b ∙ q.one (sym (ap (λ y. y.smashed) b) ∙ f) ∙ (let e : 0 + k ≡ k = omega arith in e);
    }
