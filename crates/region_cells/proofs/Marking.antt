-- Marks.
use Rattle.std.proofs.Common.{◌≡◌, refl, sym, ap, subst, ◌∙◌, ℕ, ◌+◌, ◌<◌, ◌≤◌, ◌⊎◌, inl, inr, Bool, true, false, List, length, get_or, set, arith}
use Rattle.std.specs.Prelude.{replicate}
use Rattle.std.proofs.lemmas.Bool.{cases_eq, cases_lt, false≢true}
use Rattle.std.proofs.lemmas.List.{length-set, length-replicate, get_or-replicate, get_or_past, get_or-set_same, get_or-set_other}
use Rattle.region_cells.specs.reading.Marks.{IsMarked, HasMarked}

pub none_marked : (count s : ℕ) (marks : List Bool) → marks ≡ replicate count false → IsMarked marks s → ⊥
none_marked count s marks e m = elim (cases_lt s count) [
  | inl lt ↦ false≢true (sym (ap (λ (z : List Bool). get_or z s false) e ∙ get_or-replicate count s false false lt) ∙ m)
  | inr ge ↦ false≢true (sym (get_or_past marks s false (let a = ap length e in let b = length-replicate count false in omega (arith, a, b, ge))) ∙ m)
]

pub marked_nothing : (P : ℕ → Type 0) (marks : List Bool) → ((s : ℕ) → P s → ⊥) → HasMarked P marks marks
marked_nothing P marks none = record { same = refl; kept = λ s m. m; all = λ s p lt. absurd (none s p); only = λ s m. inl m }

pub marked_as : (P Q : ℕ → Type 0) (old new : List Bool) → ((s : ℕ) → P s → Q s) → ((s : ℕ) → s < length old → Q s → P s) → HasMarked P old new → HasMarked Q old new
marked_as P Q old new forth back h = record {
  same = h.same;
  kept = h.kept;
  all = λ s q lt. h.all s (back s lt q) lt;
  only = λ s m. elim (h.only s m) [ inl a ↦ inl a | inr p ↦ inr (forth s p) ];
}

pub marked_both : (P Q R : ℕ → Type 0) (old mid new : List Bool) → ((s : ℕ) → R s → P s ⊎ Q s) → ((s : ℕ) → P s → R s) → ((s : ℕ) → Q s → R s) → HasMarked P old mid → HasMarked Q mid new
    → HasMarked R old new
marked_both P Q R old mid new parts first second h k = record {
  same = k.same ∙ h.same;
  kept = λ s m. k.kept s (h.kept s m);
  all = λ s r lt. elim (parts s r) [ inl p ↦ k.kept s (h.all s p lt) | inr q ↦ k.all s q (let e = h.same in omega (arith, e, lt)) ];
  only = λ s m. elim (k.only s m) [
    | inl a ↦ elim (h.only s a) [ inl b ↦ inl b | inr p ↦ inr (first s p) ]
    | inr q ↦ inr (second s q)
  ];
}

-- one more mark is set
pub marked_one : (marks : List Bool) (i : ℕ) → i < length marks → HasMarked (λ s. s ≡ i) marks (set marks i true)
marked_one marks i lt = record {
  same = length-set marks i true;
  kept = λ s m. elim (cases_eq s i) [
    | inl e ↦ (let P : ℕ → Type 0 = λ k. IsMarked (set marks i true) k in subst P (sym e) (get_or-set_same marks i true false lt))
    | inr o ↦ get_or-set_other marks i s true false o ∙ m
  ];
  all = λ s e l. (let P : ℕ → Type 0 = λ k. IsMarked (set marks i true) k in subst P (sym e) (get_or-set_same marks i true false lt));
  only = λ s m. elim (cases_eq s i) [ inl e ↦ inr e | inr o ↦ inl (sym (get_or-set_other marks i s true false o) ∙ m) ];
}

-- ## The cells of a part

abbrev pub IsPassed : ℕ → ℕ → ℕ → ℕ → Type 0
IsPassed first end cell s = (first ≤ s) × (s < cell) × (s < end)

pub passed_more : (first end cell : ℕ) (old cur : List Bool) → first ≤ cell → cell < end → cell < length cur → HasMarked (IsPassed first end cell) old cur
    → HasMarked (IsPassed first end (cell + 1)) old (set cur cell true)
passed_more first end cell old cur le lt here before =
    marked_both (IsPassed first end cell) (λ s. s ≡ cell) (IsPassed first end (cell + 1)) old cur (set cur cell true)
    (λ s p. elim (cases_eq s cell) [
      | inl e ↦ inr e
      | inr o ↦ inl (p.0, (let u : s ≡ cell → ⊥ = o in let l = p.1 in omega (arith, u, l)), p.2)
    ])
    (λ s p. (p.0, (let l = p.1 in omega (arith, l)), p.2))
    (λ s e. (omega (arith, e, le), omega (arith, e), omega (arith, e, lt)))
    before (marked_one cur cell here)

pub passed_none : (first end : ℕ) (marks : List Bool) → HasMarked (IsPassed first end first) marks marks
passed_none first end marks = marked_nothing (IsPassed first end first) marks (λ s p. let a = p.0 in let b = p.1 in omega (arith, a, b))
