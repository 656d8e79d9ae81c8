-- Objects are read one after the other.
use Rattle.std.proofs.Common.{◌≡◌, refl, sym, ap, subst, ◌∙◌, ℕ, ◌+◌, ◌≤◌, ◌<◌, ℤ, pos, List, [], ◌∷◌, ◌++◌, length, get_or}
use Rattle.std.proofs.Common.{arith, drop, take, zero, suc, length-drop}
use Rattle.std.specs.Prelude.{◌≢◌}
use Rattle.std.specs.Ordering.{nat_cmp}
use Rattle.std.specs.Cmp.{nat_cmp_total}
use Rattle.std.specs.FinMap.{FinMap, entries, insert, entries-insert, put, len, len-entries, len-empty}
use Rattle.std.specs.FinMap.{empty as empty_map}
use Rattle.std.proofs.lemmas.List.{take_all}
use Rattle.tm_lattice.proofs.Merging.{cmp_greater}
use Rattle.strided_dom.specs.Progression.{Progression, empty, Has, IsSubset}
use Rattle.strided_dom.proofs.Members.{below_antisym}
use Rattle.pointer_dom.specs.Offset.{IsOffset, IsOffsetAmong}
use Rattle.pointer_dom.specs.OffsetSets.{OffsetSet, IsOffsetSet, IsOffsetsOf}
use Rattle.certificate_words.specs.declared.words.Word.{Word as Held}
use Rattle.certificate_words.specs.Words.{Word, number, AreWords}
use Rattle.certificate_words.specs.Lines.{words_of}
use Rattle.certificate_words.specs.Numbers.{progression_words}
use Rattle.certificate_words.proofs.OneSet.{one_set}
use Rattle.certificate_parts.specs.Fronts.{BeginsWithNoNumber}
use Rattle.certificate_parts.specs.Sets.{BeginsWithSet, BeginsWithNoSet}
use Rattle.certificate_parts.specs.Risings.{IsNextEntry, HasNoEntry, AreRising, entries_onto, behind_last}
use Rattle.certificate_parts.specs.Risings.{AreFrontEntries, AreEntries}
use Rattle.certificate_parts.specs.Objects.{object_onto, FitsObject, IsNoWord, HasNoObjects, IsObject, IsNoObject}
use Rattle.certificate_parts.specs.Objects.{AreAllOffsets, LeavesObject}
use Rattle.certificate_parts.proofs.Rising.{front_none, front_more, last_more}

-- ## Offsets

pub all_offsets : (size : ℕ) (s : Progression) (o : OffsetSet) → s ≢ empty → IsOffsetsOf size (IsOffsetAmong size s) o
    → IsOffsetSet o → IsSubset s o.offsets → AreAllOffsets size s o
all_offsets size s o some is within below =
    let are : o.offsets ≡ s =
    below_antisym o.offsets s (record { within = λ v h. (is.offsets.sound v h).member }) below in
    record { size_is = is.some (λ none. some (sym are ∙ none)); are = are; within = within }

pub leaves : (size : ℕ) (s : Progression) (o : OffsetSet) → IsOffsetsOf size (IsOffsetAmong size s) o
    → (IsSubset s o.offsets → ⊥) → LeavesObject size s
leaves size s o is other =
    record {
      never = λ all.
          other (record { within = λ v h. is.offsets.complete v (record { member = h; offset = all v h }) });
    }

-- ## Words

head : {a b : Word} {x y : List Word} → a ∷ x ≡ b ∷ y → a ≡ b
head e = cc

tail : {a b : Word} {x y : List Word} → a ∷ x ≡ b ∷ y → x ≡ y
tail e = cc

same_number : (a b : ℤ) → number a ≡ number b → a ≡ b
same_number a b e = cc

same_natural : (a b : ℕ) → pos a ≡ pos b → a ≡ b
same_natural a b e = cc

-- the three words of a set, and those behind them
set_front : (s t : Progression) (x y : List Word) → progression_words s ++ x ≡ progression_words t ++ y
    → (progression_words s ≡ progression_words t) × (x ≡ y)
set_front s t x y e =
    let a = head e in
    let b = head (tail e) in
    let c = head (tail (tail e)) in
    (λ i. a i ∷ b i ∷ c i ∷ [], tail (tail (tail e)))

module _ (sizes : List ℕ) (bound : ℕ) (words : List Word) where
  abbrev pub NoObject : Type 0
  NoObject = HasNoEntry object_onto (FitsObject sizes) IsNoWord bound words

  pub no_number : BeginsWithNoNumber words → NoObject
  no_number none =
      record { never = λ f more fits rises e. none.never (pos f.0) (progression_words f.1.offsets ++ more) e }

  module _ (z : ℤ) (behind : List Word) (is : words ≡ number z ∷ behind) where
    number_is : (f : ℕ × OffsetSet) (more : List Word) → words ≡ object_onto f more → z ≡ pos f.0
    number_is f more e = same_number z (pos f.0) (head (sym is ∙ e))

    behind_is : (f : ℕ × OffsetSet) (more : List Word) → words ≡ object_onto f more
        → behind ≡ progression_words f.1.offsets ++ more
    behind_is f more e = tail (sym is ∙ e)

    pub no_object : IsNoObject sizes z → NoObject
    no_object none =
        record { never = λ f more fits rises e. none.never f.0 (number_is f more e) fits.there }

    pub no_set : BeginsWithNoSet behind → NoObject
    no_set none =
        record { never = λ f more fits rises e. none.never f.1.offsets more fits.some (behind_is f more e) }

    module _ (object size : ℕ) (at : IsObject sizes z object size) where
      object_is : (f : ℕ × OffsetSet) (more : List Word) → words ≡ object_onto f more → f.0 ≡ object
      object_is f more e = same_natural f.0 object (sym (number_is f more e) ∙ at.is)

      pub too_low : object < bound → NoObject
      too_low low =
          record {
            never = λ f more fits rises e. (let o = object_is f more e in omega (arith, low, rises, o));
          }

      module _ (s : Progression) (more : List Word) (set : BeginsWithSet behind s more) where
        set_is : (f : ℕ × OffsetSet) (rest : List Word) → FitsObject sizes f → words ≡ object_onto f rest
            → (f.1.offsets ≡ s) × (rest ≡ more)
        set_is f rest fits e =
            let t = set_front f.1.offsets s rest more (sym (behind_is f rest e) ∙ set.is) in
            (one_set f.1.offsets s fits.some set.some t.0, t.1)

        size_of : (f : ℕ × OffsetSet) (rest : List Word) → FitsObject sizes f → words ≡ object_onto f rest
            → f.1.size ≡ size
        size_of f rest fits e =
            fits.size ∙ (ap (λ n. get_or sizes n 0) (object_is f rest e) ∙ sym at.size_is)

        pub outside : LeavesObject size s → NoObject
        outside none =
            record {
              never = λ f rest fits rises e.
                  none.never (λ v h.
                  subst (λ n. IsOffset n v) (size_of f rest fits e)
                  (fits.within.within v (subst (λ p. Has p v) (sym (set_is f rest fits e).0) h)));
            }

        pub next_object : (o : OffsetSet) → bound ≤ object → AreAllOffsets size s o
            → IsNextEntry object_onto (FitsObject sizes) IsNoWord bound words (object, o) more
        next_object o rises all =
            record {
              fits = record {
                there = at.there;
                size = all.size_is ∙ at.size_is;
                within = all.within;
                some = λ none. set.some (sym all.are ∙ none);
              };
              rises = rises;
              is = is ∙ (ap (λ n. number n ∷ behind) at.is
                  ∙ (ap (λ ws. number (pos object) ∷ ws) set.is
                  ∙ ap (λ p. number (pos object) ∷ (progression_words p ++ more)) (sym all.are)));
              one = λ f rest fits r e.
                  (let t = set_is f rest fits e in
                  let number = object_is f rest e in
                  let size = size_of f rest fits e ∙ sym all.size_is in
                  let offsets = t.0 ∙ sym all.are in
                  (λ i. (number i, record { size = size i; offsets = offsets i }), t.1));
            }

-- ## Lists of entries

module _ {Z : Type 0} {S : Type 0} (onto : ℕ × Z → S → S) (Fits : ℕ × Z → Type 0) (After : S → Type 0) where
  last_above : (bound : ℕ) (es : List (ℕ × Z)) → AreRising onto Fits After bound es
      → bound ≤ behind_last onto Fits After bound es
  last_above bound [] h = omega arith
  last_above bound (e ∷ es) h =
      let l = last_above (e.0 + 1) es h.2 in let b = h.1 in omega (arith, l, b)

  put_last : (bound : ℕ) (es : List (ℕ × Z)) (k : ℕ) (v : Z) → AreRising onto Fits After bound es
      → behind_last onto Fits After bound es ≤ k → put nat_cmp k v es ≡ es ++ (k, v) ∷ []
  put_last bound [] k v h l = refl
  put_last bound (e ∷ es) k v h l =
      let a = last_above (e.0 + 1) es h.2 in
      let below : e.0 < k = omega (arith, a, l) in
      rw (cmp_greater k e.0 below) (ap (λ fs. e ∷ fs) (put_last (e.0 + 1) es k v h.2 l))

  -- an entry is put behind the last
  pub entries_more : (m : FinMap nat_cmp Z) (k : ℕ) (v : Z) → AreRising onto Fits After 0 (entries m)
      → behind_last onto Fits After 0 (entries m) ≤ k → entries (insert m k v) ≡ entries m ++ (k, v) ∷ []
  entries_more m k v h l = entries-insert nat_cmp_total m k v ∙ put_last 0 (entries m) k v h l

-- ## All objects

no_word : (e : ℕ × OffsetSet) (rest : List Word) → object_onto e rest ≡ [] → ⊥
no_word e rest h = cc

pub objects_end : (sizes : List ℕ) (words : List Word) (es : List (ℕ × OffsetSet)) (rest : List Word)
    → AreFrontEntries object_onto (FitsObject sizes) IsNoWord words es rest → rest ≡ []
    → AreEntries object_onto (FitsObject sizes) IsNoWord words es []
objects_end sizes words es rest front none =
    record {
      rise = front.rise;
      is = front.is ∙ ap (entries_onto object_onto (FitsObject sizes) IsNoWord es) none;
      one = λ fs more r a i.
          (let g = front.all fs more r a i in
          (by_others fs g.others more g.are (sym none ∙ g.is), a));
    }
  where
    append-nil : (xs : List (ℕ × OffsetSet)) → xs ++ [] ≡ xs
    append-nil [] = refl
    append-nil (x ∷ xs) = ap (λ ys. x ∷ ys) (append-nil xs)

    by_others : (fs others : List (ℕ × OffsetSet)) (more : List Word) → fs ≡ es ++ others
        → [] ≡ entries_onto object_onto (FitsObject sizes) IsNoWord others more → fs ≡ es
    by_others fs [] more a i = a ∙ append-nil es
    by_others fs (g ∷ others) more a i =
        absurd (no_word g (entries_onto object_onto (FitsObject sizes) IsNoWord others more) (sym i))

pub no_objects : (sizes : List ℕ) (words : List Word) (es : List (ℕ × OffsetSet)) (rest : List Word)
    → AreFrontEntries object_onto (FitsObject sizes) IsNoWord words es rest → (rest ≡ [] → ⊥)
    → HasNoEntry object_onto (FitsObject sizes) IsNoWord (behind_last object_onto (FitsObject sizes) IsNoWord 0 es) rest
    → HasNoObjects sizes words
no_objects sizes words es rest front some none =
    record {
      never = λ fs r i.
          (let g = front.all fs [] r refl i in by_others g.others g.rise g.is);
    }
  where
    by_others : (others : List (ℕ × OffsetSet))
        → AreRising object_onto (FitsObject sizes) IsNoWord (behind_last object_onto (FitsObject sizes) IsNoWord 0 es) others
        → rest ≡ entries_onto object_onto (FitsObject sizes) IsNoWord others [] → ⊥
    by_others [] r i = some i
    by_others (g ∷ others) r i =
        none.never g (entries_onto object_onto (FitsObject sizes) IsNoWord others []) r.0 r.1 i

-- ## Four words

pub four_words : (sizes : List ℕ) (bound : ℕ) (words : List Held) (e : ℕ × OffsetSet) (more : List Word)
    → words_of words ≡ object_onto e more → (more ≡ words_of (drop 4 words)) × (4 ≤ length words)
four_words sizes bound [] e more i = absurd (cc)
four_words sizes bound (a ∷ []) e more i = absurd (let f = tail i in cc)
four_words sizes bound (a ∷ b ∷ []) e more i = absurd (let f = tail (tail i) in cc)
four_words sizes bound (a ∷ b ∷ c ∷ []) e more i = absurd (let f = tail (tail (tail i)) in cc)
four_words sizes bound (a ∷ b ∷ c ∷ d ∷ ws) e more i = (sym (tail (tail (tail (tail i)))), omega arith)

-- ## Objects in a table

none_dropped : {A : Type 0} (n : ℕ) (xs : List A) → xs ≡ [] → drop n xs ≡ []
none_dropped zero xs e = e
none_dropped (suc n) [] e = refl
none_dropped (suc n) (x ∷ xs) e = absurd (cc)

drop_more : {A : Type 0} (i j : ℕ) (xs : List A) → drop j (drop i xs) ≡ drop (i + j) xs
drop_more zero j xs = let e : 0 + j ≡ j = omega arith in ap (λ n. drop n xs) (sym e)
drop_more (suc i) j [] = none_dropped j [] refl ∙ sym (none_dropped (suc i + j) [] refl)
drop_more (suc i) j (x ∷ xs) =
    let e : suc i + j ≡ suc (i + j) = omega arith in drop_more i j xs ∙ ap (λ n. drop n (x ∷ xs)) (sym e)

module _ (sizes : List ℕ) (words rest : List Held) (at bound : ℕ) (m new : FinMap nat_cmp OffsetSet) (k : ℕ)
    (o : OffsetSet)
    (front : AreFrontEntries object_onto (FitsObject sizes) IsNoWord (words_of words) (entries m) (words_of (drop at words)))
    (from : bound ≡ behind_last object_onto (FitsObject sizes) IsNoWord 0 (entries m)) (is : rest ≡ drop at words)
    (next : IsNextEntry object_onto (FitsObject sizes) IsNoWord bound (words_of rest) (k, o) (words_of (drop 4 rest)))
    (written : (o.offsets ≡ empty → ⊥) → new ≡ insert m k o) where
  entries_now : entries new ≡ entries m ++ (k, o) ∷ []
  entries_now =
      ap entries (written next.fits.some)
      ∙ entries_more object_onto (FitsObject sizes) IsNoWord m k o front.rise (subst (λ b. b ≤ k) from next.rises)

  pub objects_more : AreFrontEntries object_onto (FitsObject sizes) IsNoWord (words_of words) (entries new)
      (words_of (drop (at + 4) words))
  objects_more =
      let step : IsNextEntry object_onto (FitsObject sizes) IsNoWord
      (behind_last object_onto (FitsObject sizes) IsNoWord 0 (entries m)) (words_of (drop at words)) (k, o)
      (words_of (drop 4 (drop at words))) =
      subst (λ b. IsNextEntry object_onto (FitsObject sizes) IsNoWord b (words_of (drop at words)) (k, o)
      (words_of (drop 4 (drop at words)))) from
      (subst (λ r. IsNextEntry object_onto (FitsObject sizes) IsNoWord bound (words_of r) (k, o) (words_of (drop 4 r))) is
      next) in
      subst (λ r. AreFrontEntries object_onto (FitsObject sizes) IsNoWord (words_of words) (entries new) (words_of r))
      (drop_more at 4 words)
      (subst (λ es. AreFrontEntries object_onto (FitsObject sizes) IsNoWord (words_of words) es
      (words_of (drop 4 (drop at words)))) (sym entries_now)
      (front_more object_onto (FitsObject sizes) IsNoWord (λ e r f. no_word e r) (entries m) (k, o) (words_of words)
      (words_of (drop at words)) (words_of (drop 4 (drop at words))) front step))

  pub bound_more : k + 1 ≡ behind_last object_onto (FitsObject sizes) IsNoWord 0 (entries new)
  bound_more =
      sym (ap (behind_last object_onto (FitsObject sizes) IsNoWord 0) entries_now
      ∙ last_more object_onto (FitsObject sizes) IsNoWord (λ e r f. no_word e r) 0 (entries m) (k, o))

-- no object stands in front of what is left
pub objects_stuck : (sizes : List ℕ) (words rest : List Held) (at bound : ℕ) (m : FinMap nat_cmp OffsetSet)
    → AreFrontEntries object_onto (FitsObject sizes) IsNoWord (words_of words) (entries m) (words_of (drop at words))
    → bound ≡ behind_last object_onto (FitsObject sizes) IsNoWord 0 (entries m) → rest ≡ drop at words → 0 < length rest
    → HasNoEntry object_onto (FitsObject sizes) IsNoWord bound (words_of rest) → HasNoObjects sizes (words_of words)
objects_stuck sizes words rest at bound m front from is some none =
    no_objects sizes (words_of words) (entries m) (words_of (drop at words)) front (λ e. empty_of rest (ap words_of is ∙ e) some)
    (subst (λ b. HasNoEntry object_onto (FitsObject sizes) IsNoWord b (words_of (drop at words))) from
    (subst (λ r. HasNoEntry object_onto (FitsObject sizes) IsNoWord bound (words_of r)) is none))
  where
    empty_of : (ws : List Held) → words_of ws ≡ [] → 0 < length ws → ⊥
    empty_of [] e l = omega (arith, l)
    empty_of (w ∷ ws) e l = cc

-- all words have been read
pub objects_whole : (sizes : List ℕ) (words : List Held) (at : ℕ) (m : FinMap nat_cmp OffsetSet)
    → AreFrontEntries object_onto (FitsObject sizes) IsNoWord (words_of words) (entries m) (words_of (drop at words))
    → length words ≤ at → AreEntries object_onto (FitsObject sizes) IsNoWord (words_of words) (entries m) []
objects_whole sizes words at m front l =
    objects_end sizes (words_of words) (entries m) (words_of (drop at words)) front (none_left words at l)
  where
    none_left : (ws : List Held) (n : ℕ) → length ws ≤ n → words_of (drop n ws) ≡ []
    none_left [] zero l = refl
    none_left [] (suc n) l = refl
    none_left (w ∷ ws) zero l = absurd (omega (arith, l))
    none_left (w ∷ ws) (suc n) l = none_left ws n (omega (arith, l))

-- ## At places of the words

nothing_in : {A : Type 0} (xs : List A) → length xs ≡ 0 → xs ≡ []
nothing_in [] e = refl
nothing_in (x ∷ xs) e = absurd (omega (arith, e))

entries_none : (m : FinMap nat_cmp OffsetSet) → m ≡ empty_map → entries m ≡ []
entries_none m e =
    nothing_in (entries m) (sym (len-entries m) ∙ (ap len e ∙ len-empty nat_cmp OffsetSet))

pub objects_begin : (sizes : List ℕ) (words : List Word) (m : FinMap nat_cmp OffsetSet) → m ≡ empty_map
    → AreFrontEntries object_onto (FitsObject sizes) IsNoWord words (entries m) words
objects_begin sizes words m e =
    subst (λ es. AreFrontEntries object_onto (FitsObject sizes) IsNoWord words es words) (sym (entries_none m e))
    (front_none object_onto (FitsObject sizes) IsNoWord (λ e r f. no_word e r) words)

pub bound_begin : (sizes : List ℕ) (m : FinMap nat_cmp OffsetSet) → m ≡ empty_map
    → 0 ≡ behind_last object_onto (FitsObject sizes) IsNoWord 0 (entries m)
bound_begin sizes m e = ap (behind_last object_onto (FitsObject sizes) IsNoWord 0) (sym (entries_none m e))

lawful_drop : (n : ℕ) (ws : List Held) → AreWords (words_of ws) → AreWords (words_of (drop n ws))
lawful_drop zero ws h = h
lawful_drop (suc n) [] h = tt
lawful_drop (suc n) (w ∷ ws) h = lawful_drop n ws h.1

lawful_take : (n : ℕ) (ws : List Held) → AreWords (words_of ws) → AreWords (words_of (take n ws))
lawful_take zero ws h = tt
lawful_take (suc n) [] h = tt
lawful_take (suc n) (w ∷ ws) h = (h.0, lawful_take n ws h.1)

pub lawful_from : (n at : ℕ) (ws : List Held) → AreWords (words_of ws) → AreWords (words_of (take n (drop at ws)))
lawful_from n at ws h = lawful_take n (drop at ws) (lawful_drop at ws h)

-- all that stands from a place on
pub whole_from : {A : Type 0} (ws : List A) (n at : ℕ) → length ws ≤ n + at → take n (drop at ws) ≡ drop at ws
whole_from ws n at l = take_all n (drop at ws) (let d = length-drop at ws in omega (arith, d, l))

pub length_from : {A : Type 0} (ws : List A) (n at : ℕ) → length ws ≡ n + at → length (take n (drop at ws)) ≡ n
length_from ws n at l =
    ap length (whole_from ws n at (omega (arith, l))) ∙ (let d = length-drop at ws in omega (arith, d, l))

-- ## The next object

pub next_at : (sizes : List ℕ) (bound : ℕ) (words : List Held) (z : ℤ) (behind : List Word)
    → words_of words ≡ number z ∷ behind → (object size : ℕ) → IsObject sizes z object size → (s : Progression)
    → (more : List Word) → BeginsWithSet behind s more → (o : OffsetSet) → bound ≤ object → AreAllOffsets size s o
    → IsNextEntry object_onto (FitsObject sizes) IsNoWord bound (words_of words) (object, o) (words_of (drop 4 words))
next_at sizes bound words z behind is object size at s more set o rises all =
    let n = next_object sizes bound (words_of words) z behind is object size at s more set o rises all in
    let t = four_words sizes bound words (object, o) more n.is in
    subst (IsNextEntry object_onto (FitsObject sizes) IsNoWord bound (words_of words) (object, o)) t.0 n

pub long_at : (sizes : List ℕ) (bound : ℕ) (words : List Held) (z : ℤ) (behind : List Word)
    → words_of words ≡ number z ∷ behind → (object size : ℕ) → IsObject sizes z object size → (s : Progression)
    → (more : List Word) → BeginsWithSet behind s more → (o : OffsetSet) → bound ≤ object → AreAllOffsets size s o
    → 4 ≤ length words
long_at sizes bound words z behind is object size at s more set o rises all =
    let n = next_object sizes bound (words_of words) z behind is object size at s more set o rises all in
    (four_words sizes bound words (object, o) more n.is).1

pub object_passed : (sizes : List ℕ) (z passed : ℤ) (object size : ℕ) → passed ≡ z → IsObject sizes passed object size
    → IsObject sizes z object size
object_passed sizes z passed object size e h = subst (λ y. IsObject sizes y object size) e h
