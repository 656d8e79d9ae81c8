-- There is one set with these ends and this stride.
use Rattle.std.proofs.Common.{◌≡◌, refl, sym, ap, subst, ◌∙◌, ℕ, ◌+◌, ℤ, pos, List, ◌∷◌, arith}
use Rattle.std.specs.Prelude.{negsuc, ◌<ℤ◌, unsigned_abs}
use Rattle.std.proofs.lemmas.Int.{ints}
use Rattle.strided_dom.specs.Progression.{Progression, empty, single, row, Has, IsExactly, IsSpaced, IsInReach, first_of}
use Rattle.strided_dom.specs.Progression.{last_of, stride_of}
use Rattle.strided_dom.specs.reading.Fields.{AreEndsOf}
use Rattle.strided_dom.proofs.Kept.{exactly_from_span}
use Rattle.strided_dom.proofs.Members.{below_antisym}
use Rattle.certificate_words.specs.Words.{Word, number, IsWord, AreWords}
use Rattle.certificate_parts.specs.Fronts.{BeginsWithNoNumber}
use Rattle.certificate_parts.specs.Sets.{IsShort, IsSetOf, IsNoSet, BeginsWithSet, BeginsWithNoSet}

head : {a b : ℤ} {x y : List Word} → number a ∷ x ≡ number b ∷ y → a ≡ b
head e = cc

tail : {a b : Word} {x y : List Word} → a ∷ x ≡ b ∷ y → x ≡ y
tail e = cc

pub in_reach : (v : ℤ) → IsShort v → IsInReach v
in_reach (pos n) h = record { low = omega (arith, ints); high = omega (arith, ints, h) }
in_reach (negsuc n) h = record { low = omega (arith, ints, h); high = omega (arith, ints) }

some_of : (s : Progression) → (s ≡ empty → ⊥) → Has s (first_of s)
unfolding Has first_of
some_of empty h = absurd (h refl)
some_of (single v) h = refl
some_of (row first gap more) h = (0, (omega arith, omega (arith, ints)))

-- no set has a stride below 0
pub below_none : (low high stride : ℤ) → stride <ℤ pos 0 → IsNoSet low high stride
below_none low high stride h =
    record { never = λ s k. (let a = k.step in omega (arith, ints, h, a)) }

-- a set without a stride is one number
pub flat : (s : Progression) (low high : ℤ) → IsSetOf s low high (pos 0) → s ≡ single low
unfolding first_of last_of stride_of
flat empty low high k = absurd (k.some refl)
flat (single v) low high k = ap single k.first
flat (row first gap more) low high k = (let a = k.step in absurd (let f : gap + 1 ≡ 0 = cc in omega (arith, f)))

pub flat_at : (s : Progression) (low high stride : ℤ) → stride ≡ pos 0 → IsSetOf s low high stride → s ≡ single low
flat_at s low high stride e k = flat s low high (subst (λ z. IsSetOf s low high z) e k)

ends : (s : Progression) (low high stride : ℤ) → IsShort low → IsShort high → IsSetOf s low high stride
    → AreEndsOf s low high (unsigned_abs stride)
ends s low high stride a b k =
    record {
      some = some_of s k.some;
      first = sym k.first;
      last = sym k.last;
      step = sym (ap unsigned_abs k.step);
      low = in_reach low a;
      high = in_reach high b;
    }

-- a set with these ends and this stride has exactly the numbers that are spaced so
pub spaced : (s r : Progression) (low high stride : ℤ) → IsShort low → IsShort high → IsSetOf s low high stride
    → IsExactly (IsSpaced low high (unsigned_abs stride)) r → s ≡ r
spaced s r low high stride a b k e =
    let x = exactly_from_span s low high (unsigned_abs stride) (ends s low high stride a b k) in
    below_antisym s r (record { within = λ v h. e.complete v (x.sound v h) })
    (record { within = λ v h. x.complete v (e.sound v h) })

-- where the one set that may have them has others, none has them
pub none_other : (r : Progression) (low high stride : ℤ) → ((s : Progression) → IsSetOf s low high stride → s ≡ r)
    → (IsSetOf r low high stride → ⊥) → IsNoSet low high stride
none_other r low high stride one other =
    record { never = λ s k. other (subst (λ z. IsSetOf z low high stride) (one s k) k) }

-- the numbers between short ends are in reach
pub spaced_in_reach : (low high v : ℤ) (m : ℕ) → IsShort low → IsShort high → IsSpaced low high m v → IsInReach v
spaced_in_reach low high v m a b h =
    let x = in_reach low a in
    let y = in_reach high b in
    let l = x.low in
    let u = y.high in
    let f = h.from in
    let t = h.to in
    record { low = omega (arith, ints, l, f); high = omega (arith, ints, u, t) }

-- ## Words

pub short_number : (z : ℤ) → IsWord (number z) → IsShort z
short_number (pos n) h = h
short_number (negsuc n) h = h

pub lawful_behind : (words : List Word) (z : ℤ) (more : List Word) → words ≡ number z ∷ more → AreWords words
    → IsShort z × AreWords more
lawful_behind words z more e h =
    let t : IsWord (number z) × AreWords more = subst AreWords e h in (short_number z t.0, t.1)

pub set_words : (words behind_low behind_high more : List Word) (s : Progression) (low high stride : ℤ)
    → words ≡ number low ∷ behind_low → behind_low ≡ number high ∷ behind_high → behind_high ≡ number stride ∷ more
    → IsSetOf s low high stride → BeginsWithSet words s more
set_words words behind_low behind_high more s low high stride a b c k =
    record {
      some = k.some;
      is = a ∙ (ap (λ w. number low ∷ w) (b ∙ ap (λ w. number high ∷ w) c)
          ∙ λ i. number (sym k.first i) ∷ number (sym k.last i) ∷ number (sym k.step i) ∷ more);
    }

pub no_low : (words : List Word) → BeginsWithNoNumber words → BeginsWithNoSet words
no_low words none = record { never = λ s more some e. none.never (first_of s) _ e }

pub no_high : (words behind_low : List Word) (low : ℤ) → words ≡ number low ∷ behind_low
    → BeginsWithNoNumber behind_low → BeginsWithNoSet words
no_high words behind_low low a none =
    record {
      never = λ s more some e.
          (let f : behind_low ≡ number (last_of s) ∷ number (pos (stride_of s)) ∷ more = tail (sym a ∙ e) in
          none.never (last_of s) (number (pos (stride_of s)) ∷ more) f);
    }

pub no_stride : (words behind_low behind_high : List Word) (low high : ℤ) → words ≡ number low ∷ behind_low
    → behind_low ≡ number high ∷ behind_high → BeginsWithNoNumber behind_high → BeginsWithNoSet words
no_stride words behind_low behind_high low high a b none =
    record {
      never = λ s more some e.
          (let f : behind_low ≡ number (last_of s) ∷ number (pos (stride_of s)) ∷ more = tail (sym a ∙ e) in
          let g : behind_high ≡ number (pos (stride_of s)) ∷ more = tail (sym b ∙ f) in
          none.never (pos (stride_of s)) more g);
    }

pub no_set : (words behind_low behind_high more : List Word) (low high stride : ℤ) → words ≡ number low ∷ behind_low
    → behind_low ≡ number high ∷ behind_high → behind_high ≡ number stride ∷ more → IsNoSet low high stride
    → BeginsWithNoSet words
no_set words behind_low behind_high more low high stride a b c none =
    record {
      never = λ s rest some e.
          (let f : behind_low ≡ number (last_of s) ∷ number (pos (stride_of s)) ∷ rest = tail (sym a ∙ e) in
          let g : behind_high ≡ number (pos (stride_of s)) ∷ rest = tail (sym b ∙ f) in
          none.never s (record {
            some = some;
            first = sym (head (sym a ∙ e));
            last = sym (head (sym b ∙ f));
            step = sym (head (sym c ∙ g));
          }));
    }

-- ## Numbers that code passes on

pub flat_passed : (s : Progression) (low high stride passed : ℤ) (r : Progression) → stride ≡ pos 0 → passed ≡ low
    → r ≡ single passed → IsSetOf s low high stride → s ≡ r
flat_passed s low high stride passed r e p h k = flat_at s low high stride e k ∙ (ap single (sym p) ∙ sym h)

pub spaced_passed : (s r : Progression) (low high stride a b c : ℤ) → IsShort low → IsShort high
    → IsSetOf s low high stride → a ≡ low → b ≡ high → c ≡ stride → IsExactly (IsSpaced a b (unsigned_abs c)) r → s ≡ r
spaced_passed s r low high stride a b c l h k p q t e =
    spaced s r low high stride l h k
    (subst (λ z. IsExactly (IsSpaced low high (unsigned_abs z)) r) t (subst (λ z. IsExactly (IsSpaced low z (unsigned_abs c)) r) q
    (subst (λ z. IsExactly (IsSpaced z b (unsigned_abs c)) r) p e)))
