-- Entries whose keys rise, one after the other in words or lines.
use Rattle.std.specs.Prelude.{◌≡◌, ℕ, ◌+◌, ◌≤◌, List, [], ◌∷◌, ◌++◌}

-- What stands in front of a rest where an entry does; which entries there may be; and which rests may stand behind all.
module _ {Z : Type 0} {S : Type 0} (onto : ℕ × Z → S → S) (Fits : ℕ × Z → Type 0) (After : S → Type 0) where
  -- an entry with a key from the bound on stands in front, and the new rest behind it; and no other such entry does
  pub record IsNextEntry (bound : ℕ) (old : S) (e : ℕ × Z) (new : S) : Type 0 where
    pub fits : Fits e
    pub rises : bound ≤ e.0
    pub is : old ≡ onto e new
    pub one : (f : ℕ × Z) (more : S) → Fits f → bound ≤ f.0 → old ≡ onto f more → (f ≡ e) × (more ≡ new)

  -- no entry with a key from the bound on stands in front
  pub record HasNoEntry (bound : ℕ) (old : S) : Type 0 where
    pub never : (f : ℕ × Z) (more : S) → Fits f → bound ≤ f.0 → old ≡ onto f more → ⊥

  -- the entries may be there, and their keys rise from the bound on
  abbrev pub AreRising : ℕ → List (ℕ × Z) → Type 0
  AreRising bound [] = Unit {0}
  AreRising bound (e ∷ es) = Fits e × (bound ≤ e.0) × AreRising (e.0 + 1) es

  abbrev pub entries_onto : List (ℕ × Z) → S → S
  entries_onto [] rest = rest
  entries_onto (e ∷ es) rest = onto e (entries_onto es rest)

  -- one more than the last key
  abbrev pub behind_last : ℕ → List (ℕ × Z) → ℕ
  behind_last bound [] = bound
  behind_last bound (e ∷ es) = behind_last (e.0 + 1) es

  -- more entries stand behind those, and then the rest
  pub record GoesOn (es fs : List (ℕ × Z)) (new more : S) : Type 0 where
    pub others : List (ℕ × Z)
    pub are : fs ≡ es ++ others
    pub rise : AreRising (behind_last 0 es) others
    pub is : new ≡ entries_onto others more

  -- these entries stand in front, and the new rest behind them; and other entries that stand there begin with them
  pub record AreFrontEntries (old : S) (es : List (ℕ × Z)) (new : S) : Type 0 where
    pub rise : AreRising 0 es
    pub is : old ≡ entries_onto es new
    pub all : (fs : List (ℕ × Z)) (more : S) → AreRising 0 fs → After more → old ≡ entries_onto fs more
        → GoesOn es fs new more

  -- these entries stand in front, and the new rest behind them; and no others do
  pub record AreEntries (old : S) (es : List (ℕ × Z)) (new : S) : Type 0 where
    pub rise : AreRising 0 es
    pub is : old ≡ entries_onto es new
    pub one : (fs : List (ℕ × Z)) (more : S) → AreRising 0 fs → After more → old ≡ entries_onto fs more
        → (fs ≡ es) × (more ≡ new)
