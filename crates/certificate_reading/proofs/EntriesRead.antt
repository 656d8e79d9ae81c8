-- The entry of a line.
use Rattle.std.proofs.Common.{◌≡◌, refl, sym, ap, subst, ◌∙◌, ℕ, ◌<◌, ◌≤◌, ◌^◌, ℤ, pos, List, ◌∷◌, length, arith}
use Rattle.tm_laid.specs.Layouts.{LaidTree, abstract_at}
use Rattle.pointer_dom.specs.Values.{Values, no_value}
use Rattle.post_recheck.specs.typed_values.Types.{IsOfType}
use Rattle.certificate_words.specs.Words.{Word, tag, number}
use Rattle.certificate_parts.specs.Fronts.{BeginsWithNoNumber, AreFront, IsBehind}
use Rattle.certificate_parts.specs.Risings.{IsNextEntry, HasNoEntry}
use Rattle.certificate_parts.proofs.Fronting.{IsFrontOf, front_is, one_front, stepped}
use Rattle.certificate_texts.specs.ValueWords.{value_words}
use Rattle.certificate_reading.specs.declared.entries.Place.{Place}
use Rattle.certificate_reading.specs.declared.entries.Entry.{Entry}
use Rattle.certificate_reading.specs.declared.entries.Kind.{Kind}
use Rattle.certificate_reading.specs.Entries.{letters_of, IsUnder, IsPlace, IsEntry, IsSmall, place_number, place_words}
use Rattle.certificate_reading.specs.Entries.{entry_words, entry_line, entry_onto, IsNumbered, EndsKind}
use Rattle.certificate_reading.specs.Entries.{BeginsWithNoNatural, BeginsWithNoPlace, AreEntryWords, HasNoEntryWords}
use Rattle.certificate_reading.specs.Values.{IsValueOf, IsNoValueOf}

-- ## Words

head : {a b : Word} {x y : List Word} → a ∷ x ≡ b ∷ y → a ≡ b
head e = cc

tail : {a b : Word} {x y : List Word} → a ∷ x ≡ b ∷ y → x ≡ y
tail e = cc

natural : (n m : ℕ) → number (pos n) ≡ number (pos m) → n ≡ m
natural n m e = let f : pos n ≡ pos m = cc in cc

same_number : (a b : ℤ) → number a ≡ number b → a ≡ b
same_number a b e = cc

pub no_natural : (words : List Word) → BeginsWithNoNumber words → BeginsWithNoNatural words
no_natural words none = record { never = λ n more small e. none.never (pos n) more e }

pub no_small : (words behind : List Word) (z : ℤ) → words ≡ number z ∷ behind
    → ((n : ℕ) → n < 2 ^ 32 → z ≡ pos n → ⊥) → BeginsWithNoNatural words
no_small words behind z is other =
    record { never = λ n more small e. other n small (same_number z (pos n) (head (sym is ∙ e))) }

module _ (words : List Word) where
  pub no_task : BeginsWithNoNatural words → BeginsWithNoPlace words
  no_task none =
      record {
        never = λ p more t s c e. none.never p.task (number (pos p.set) ∷ number (pos p.cell) ∷ more) t e;
      }

  pub no_set : (task : ℕ) (behind : List Word) → words ≡ number (pos task) ∷ behind → BeginsWithNoNatural behind
      → BeginsWithNoPlace words
  no_set task behind is none =
      record {
        never = λ p more t s c e. none.never p.set (number (pos p.cell) ∷ more) s (tail (sym is ∙ e));
      }

  pub no_cell : (task set : ℕ) (behind rest : List Word) → words ≡ number (pos task) ∷ behind
      → behind ≡ number (pos set) ∷ rest → BeginsWithNoNatural rest → BeginsWithNoPlace words
  no_cell task set behind rest is also none =
      record {
        never = λ p more t s c e. none.never p.cell more c (tail (sym also ∙ tail (sym is ∙ e)));
      }

same_place : (p q : Place) (x y : List Word) → place_words p x ≡ place_words q y → (p ≡ q) × (x ≡ y)
same_place p q x y e =
    let a = natural p.task q.task (head e) in
    let b = natural p.set q.set (head (tail e)) in
    let c = natural p.cell q.cell (head (tail (tail e))) in
    (λ i. record { task = a i; set = b i; cell = c i }, tail (tail (tail e)))

-- ## Small places

module _ (laid : LaidTree) (kind : Kind) (tasks : length laid.file.tasks < 2 ^ 32)
    (cells : length laid.abstract_cells ≤ 65536) (few : (l : ℕ) → IsUnder laid kind l → l < 65536) where
  -- the value is of the type of the cell
  abbrev pub IsOfCell : ℕ → Values → Type 0
  IsOfCell cell v = let a = abstract_at laid cell in IsOfType laid a.scalar v

  pub place_small : (p : Place) → IsPlace laid kind p → IsSmall p
  place_small p h =
      let c = h.cell in record { set = few p.set h.set; cell = omega (arith, c, cells) }

  -- ## The words of an entry

  module _ (words numbers : List Word) (is : words ≡ tag (letters_of kind) ∷ numbers) where
    pub no_place : BeginsWithNoPlace numbers → HasNoEntryWords laid kind words
    no_place none =
        record {
          never = λ f entry e.
              (let p = entry.place in
              let t = p.task in
              let c = p.cell in
              let s = few f.place.set p.set in
              none.never f.place (value_words f.value) (omega (arith, t, tasks)) (omega (arith, s))
              (omega (arith, c, cells)) (tail (sym is ∙ e)));
        }

    module _ (place : Place) (told : List Word) (at : numbers ≡ place_words place told) where
      place_is : (f : Entry) → words ≡ entry_words (letters_of kind) f
          → (place ≡ f.place) × (told ≡ value_words f.value)
      place_is f e = same_place place f.place told (value_words f.value) (sym at ∙ tail (sym is ∙ e))

      pub other_place : (IsPlace laid kind place → ⊥) → HasNoEntryWords laid kind words
      other_place other =
          record {
            never = λ f entry e. other (subst (IsPlace laid kind) (sym (place_is f e).0) entry.place);
          }

      of_cell : (f : Entry) → IsEntry laid kind f → place ≡ f.place
          → (let a = abstract_at laid place.cell in IsOfType laid a.scalar f.value)
      of_cell f entry same =
          subst (λ (p : Place). let a = abstract_at laid p.cell in IsOfType laid a.scalar f.value) (sym same) entry.value

      pub no_value_there : IsNoValueOf (IsOfCell place.cell) told → HasNoEntryWords laid kind words
      no_value_there none =
          record {
            never = λ f entry e. (let p = place_is f e in none.never f.value (of_cell f entry p.0) p.1);
          }

      module _ (v : Values) (value : IsValueOf (IsOfCell place.cell) told v) where
        value_is : (f : Entry) → IsEntry laid kind f → words ≡ entry_words (letters_of kind) f → f.value ≡ v
        value_is f entry e = let p = place_is f e in value.one f.value (of_cell f entry p.0) p.1

        pub nothing_there : v ≡ no_value → HasNoEntryWords laid kind words
        nothing_there none =
            record { never = λ f entry e. entry.some (value_is f entry e ∙ none) }

        pub entry_there : IsPlace laid kind place → (v ≡ no_value → ⊥)
            → AreEntryWords laid kind words (record { place = place; value = v })
        entry_there there some =
            record {
              entry = record { place = there; value = value.fits; some = some };
              is = is ∙ (ap (λ ws. tag (letters_of kind) ∷ ws) at
                  ∙ ap (λ ws. tag (letters_of kind) ∷ place_words place ws) value.is);
              one = λ f entry e.
                  (let p = (place_is f e).0 in
                  let w = value_is f entry e in
                  (λ i. record { place = sym p i; value = w i }));
            }

  -- ## The first line

  module _ (bound : ℕ) (old : List ℕ) (words : List Word) (front : AreFront old words) where
    abbrev pub NoEntry : Type 0
    NoEntry = HasNoEntry (entry_onto kind) (IsNumbered laid kind) (EndsKind kind) bound old

    words_are : (f : ℕ × Entry) (more : List ℕ) → IsNumbered laid kind f → old ≡ entry_onto kind f more
        → words ≡ entry_words (letters_of kind) f.1
    words_are f more fits e = one_front old words (entry_line (letters_of kind) f.1) more front fits.lawful e

    pub no_entry : HasNoEntryWords laid kind words → NoEntry
    no_entry none =
        record { never = λ f more fits rises e. none.never f.1 fits.entry (words_are f more fits e) }

    module _ (e : Entry) (found : AreEntryWords laid kind words e) where
      number_is : (f : ℕ × Entry) (more : List ℕ) → IsNumbered laid kind f → old ≡ entry_onto kind f more
          → f ≡ (place_number e.place, e)
      number_is f more fits i =
          let same = found.one f.1 fits.entry (words_are f more fits i) in
          let n = fits.is ∙ ap (λ (g : Entry). place_number g.place) same in
          (λ j. (n j, same j))

      pub too_low : place_number e.place < bound → NoEntry
      too_low low =
          record {
            never = λ f more fits rises i.
                (let n = ap (λ (g : ℕ × Entry). g.0) (number_is f more fits i) in omega (arith, low, rises, n));
          }

      front_there : IsFrontOf old (entry_line (letters_of kind) e)
      front_there = front_is old words (entry_line (letters_of kind) e) front found.is

      pub entry_next : (new : List ℕ) → IsBehind old new → bound ≤ place_number e.place
          → IsNextEntry (entry_onto kind) (IsNumbered laid kind) (EndsKind kind) bound old (place_number e.place, e) new
      entry_next new behind high =
          let there = front_there in
          record {
            fits = record {
              is = refl;
              entry = found.entry;
              small = place_small e.place found.entry.place;
              lawful = there.lawful;
            };
            rises = high;
            is = stepped old new (entry_line (letters_of kind) e) there behind;
            one = λ f more fits r i. (
              number_is f more fits i,
              sym (behind.passes (entry_line (letters_of kind) f.1) more fits.lawful i),
            );
          }
