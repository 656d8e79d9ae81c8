-- Entries are read one after the other.
use Rattle.std.proofs.Common.{◌≡◌, refl, sym, ap, subst, ◌∙◌, ℕ, ◌+◌, ◌≤◌, List, [], ◌∷◌, ◌++◌, append_assoc}
use Rattle.certificate_parts.specs.Risings.{IsNextEntry, HasNoEntry, AreRising, entries_onto, behind_last}
use Rattle.certificate_parts.specs.Risings.{GoesOn, AreFrontEntries, AreEntries}

module _ {Z : Type 0} {S : Type 0} (onto : ℕ × Z → S → S) (Fits : ℕ × Z → Type 0) (After : S → Type 0)
    (ends : (e : ℕ × Z) (rest : S) → Fits e → After (onto e rest) → ⊥) where
  pub front_none : (old : S) → AreFrontEntries onto Fits After old [] old
  front_none old =
      record {
        rise = tt;
        is = refl;
        all = λ fs more r a e. record { others = fs; are = refl; rise = r; is = e };
      }

  onto_more : (es : List (ℕ × Z)) (e : ℕ × Z) (rest : S)
      → entries_onto onto Fits After (es ++ e ∷ []) rest ≡ entries_onto onto Fits After es (onto e rest)
  onto_more [] e rest = refl
  onto_more (d ∷ es) e rest = ap (onto d) (onto_more es e rest)

  pub last_more : (bound : ℕ) (es : List (ℕ × Z)) (e : ℕ × Z)
      → behind_last onto Fits After bound (es ++ e ∷ []) ≡ e.0 + 1
  last_more bound [] e = refl
  last_more bound (d ∷ es) e = last_more (d.0 + 1) es e

  rise_more : (bound : ℕ) (es : List (ℕ × Z)) (e : ℕ × Z) → AreRising onto Fits After bound es → Fits e
      → behind_last onto Fits After bound es ≤ e.0 → AreRising onto Fits After bound (es ++ e ∷ [])
  rise_more bound [] e h f l = (f, l, tt)
  rise_more bound (d ∷ es) e h f l = (h.0, h.1, rise_more (d.0 + 1) es e h.2 f l)

  more_others : (es fs others : List (ℕ × Z)) (e : ℕ × Z) (old mid new more : S)
      → AreRising onto Fits After (behind_last onto Fits After 0 es) others
      → mid ≡ entries_onto onto Fits After others more → fs ≡ es ++ others → After more
      → IsNextEntry onto Fits After (behind_last onto Fits After 0 es) mid e new
      → GoesOn onto Fits After (es ++ e ∷ []) fs new more
  more_others es fs [] e old mid new more r i a end next =
      absurd (ends e new next.fits (subst After (sym i ∙ next.is) end))
  more_others es fs (g ∷ others) e old mid new more r i a end next =
      let t = next.one g (entries_onto onto Fits After others more) r.0 r.1 i in
      let same : g ≡ e = t.0 in
      record {
        others = others;
        are = a ∙ (ap (λ x. es ++ (x ∷ others)) same ∙ sym (append_assoc es (e ∷ []) others));
        rise = subst (λ n. AreRising onto Fits After n others)
            (ap (λ (x : ℕ × Z). x.0 + 1) same ∙ sym (last_more 0 es e)) r.2;
        is = sym t.1;
      }

  -- an entry more
  pub front_more : (es : List (ℕ × Z)) (e : ℕ × Z) (old mid new : S) → AreFrontEntries onto Fits After old es mid
      → IsNextEntry onto Fits After (behind_last onto Fits After 0 es) mid e new
      → AreFrontEntries onto Fits After old (es ++ e ∷ []) new
  front_more es e old mid new front next =
      record {
        rise = rise_more 0 es e front.rise next.fits next.rises;
        is = front.is ∙ (ap (entries_onto onto Fits After es) next.is ∙ sym (onto_more es e new));
        all = λ fs more r a i.
            (let g = front.all fs more r a i in
            more_others es fs g.others e old mid new more g.rise g.is g.are a next);
      }

  no_others : (es fs others : List (ℕ × Z)) (mid more : S)
      → AreRising onto Fits After (behind_last onto Fits After 0 es) others
      → mid ≡ entries_onto onto Fits After others more → fs ≡ es ++ others
      → HasNoEntry onto Fits After (behind_last onto Fits After 0 es) mid → (fs ≡ es) × (more ≡ mid)
  no_others es fs [] mid more r i a none = (a ∙ append-nil es, sym i)
    where
      append-nil : (xs : List (ℕ × Z)) → xs ++ [] ≡ xs
      append-nil [] = refl
      append-nil (x ∷ xs) = ap (λ ys. x ∷ ys) (append-nil xs)
  no_others es fs (g ∷ others) mid more r i a none =
      absurd (none.never g (entries_onto onto Fits After others more) r.0 r.1 i)

  -- the last entry
  pub front_all : (es : List (ℕ × Z)) (old mid : S) → AreFrontEntries onto Fits After old es mid
      → HasNoEntry onto Fits After (behind_last onto Fits After 0 es) mid → AreEntries onto Fits After old es mid
  front_all es old mid front none =
      record {
        rise = front.rise;
        is = front.is;
        one = λ fs more r a i.
            (let g = front.all fs more r a i in no_others es fs g.others mid more g.rise g.is g.are none);
      }
