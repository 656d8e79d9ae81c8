-- Lists of lines fall into blocks in one way.
use Rattle.std.proofs.Common.{◌≡◌, refl, sym, ap, subst, ◌∙◌, ℕ, ◌<◌, ◌≤◌, List, [], ◌∷◌, ◌++◌, arith}
use Rattle.std.proofs.Common.{T}
use Rattle.std.specs.List.{flat_map}
use Rattle.std.specs.Ordering.{nat_cmp}
use Rattle.std.specs.FinMap.{is_sorted, entries, entries_sorted, same_entries_map}
use Rattle.tm_lattice.specs.Tables.{Table}
use Rattle.tm_lattice.specs.laws.Keys.{AllAbove, AllAbove-rest, is_sorted-rest}
use Rattle.certificate_words.specs.Words.{Line}

-- ## Blocks by a number that lines have

module _ (r : Line → ℕ) where
  -- each line has this number
  abbrev pub AllHave : ℕ → List Line → Type 0
  AllHave n [] = Unit {0}
  AllHave n (l ∷ ls) = (r l ≡ n) × AllHave n ls

  -- the first line, if there is one, has a greater number
  abbrev pub IsBehind : ℕ → List Line → Type 0
  IsBehind n [] = Unit {0}
  IsBehind n (l ∷ ls) = n < r l

  pub all_append : (n : ℕ) (ls ms : List Line) → AllHave n ls → AllHave n ms → AllHave n (ls ++ ms)
  all_append n [] ms h k = k
  all_append n (l ∷ ls) ms h k = (h.0, all_append n ls ms h.1 k)

  pub behind_lower : (m n : ℕ) (ls : List Line) → m ≤ n → IsBehind n ls → IsBehind m ls
  behind_lower m n [] le h = tt
  behind_lower m n (l ∷ ls) le h = omega (arith, le, h)

  -- a block and what is behind it are both behind what has a lower number
  pub behind_block : (m n : ℕ) (ls rest : List Line) → m < n → AllHave n ls → IsBehind n rest → IsBehind m (ls ++ rest)
  behind_block m n [] rest less h k = behind_lower m n rest (omega (arith, less)) k
  behind_block m n (l ∷ ls) rest less h k = let e = h.0 in omega (arith, less, e)

  -- a block ends where the number rises
  pub cut : (n : ℕ) (ls ms rest more : List Line) → AllHave n ls → AllHave n ms → IsBehind n rest → IsBehind n more
      → ls ++ rest ≡ ms ++ more → (ls ≡ ms) × (rest ≡ more)
  cut n [] [] rest more h k b d e = (refl, e)
  cut n [] (m ∷ ms) rest more h k b d e =
      let less : n < r m = subst (IsBehind n) e b in let same = k.0 in absurd (omega (arith, less, same))
  cut n (l ∷ ls) [] rest more h k b d e =
      let less : n < r l = subst (IsBehind n) (sym e) d in let same = h.0 in absurd (omega (arith, less, same))
  cut n (l ∷ ls) (m ∷ ms) rest more h k b d e =
      let head : l ≡ m = cc in
      let tail : ls ++ rest ≡ ms ++ more = cc in
      let t = cut n ls ms rest more h.1 k.1 b d tail in
      ((λ i. head i ∷ t.0 i), t.1)

  -- lines of many elements have the number that those of each have
  pub flat_have : {A : Type 0} (f : A → List Line) (n : ℕ) → ((x : A) → AllHave n (f x)) → (xs : List A)
      → AllHave n (flat_map f xs)
  flat_have f n each [] = tt
  flat_have f n each (x ∷ xs) = all_append n (f x) (flat_map f xs) (each x) (flat_have f n each xs)

-- ## Entries

module _ {V : Type 0} where
  -- each entry is so
  abbrev pub AllEntries : (ℕ × V → Type 0) → List (ℕ × V) → Type 0
  AllEntries P [] = Unit {0}
  AllEntries P (e ∷ es) = P e × AllEntries P es

  -- two lists of entries have the same keys, and values that are alike
  abbrev pub AreAlike : (ℕ → V → V → Type 0) → List (ℕ × V) → List (ℕ × V) → Type 0
  AreAlike P [] [] = Unit {0}
  AreAlike P [] (f ∷ fs) = ⊥
  AreAlike P (e ∷ es) [] = ⊥
  AreAlike P (e ∷ es) (f ∷ fs) = (e.0 ≡ f.0) × P e.0 e.1 f.1 × AreAlike P es fs

  pub alike_both : (P Q : ℕ → V → V → Type 0) (es fs : List (ℕ × V)) → AreAlike P es fs → AreAlike Q es fs
      → AreAlike (λ k v w. P k v w × Q k v w) es fs
  alike_both P Q [] [] h k = tt
  alike_both P Q [] (f ∷ fs) h k = absurd h
  alike_both P Q (e ∷ es) [] h k = absurd h
  alike_both P Q (e ∷ es) (f ∷ fs) h k = (h.0, (h.1, k.1), alike_both P Q es fs h.2 k.2)

  pub alike_equal : (A : ℕ × V → Type 0) (P : ℕ → V → V → Type 0)
      → ((k : ℕ) (v w : V) → A (k, v) → A (k, w) → P k v w → v ≡ w) → (es fs : List (ℕ × V)) → AllEntries A es
      → AllEntries A fs → AreAlike P es fs → es ≡ fs
  alike_equal A P same [] [] a b h = refl
  alike_equal A P same [] (f ∷ fs) a b h = absurd h
  alike_equal A P same (e ∷ es) [] a b h = absurd h
  alike_equal A P same (e ∷ es) (f ∷ fs) a b h =
      let there : A (e.0, f.1) = subst (λ k. A (k, f.1)) (sym h.0) b.0 in
      let value = same e.0 e.1 f.1 a.0 there h.1 in
      let rest = alike_equal A P same es fs a.1 b.1 h.2 in
      (λ i. (h.0 i, value i) ∷ rest i)

  module _ (r : Line → ℕ) (f : ℕ × V → List Line) (ranked : (e : ℕ × V) → AllHave r e.0 (f e)) where
    -- the entries have the same keys and the same lines
    abbrev pub LinesAlike : ℕ → V → V → Type 0
    LinesAlike k v w = f (k, v) ≡ f (k, w)

    -- the lines of entries with greater keys are behind
    entries_behind : (n : ℕ) (es : List (ℕ × V)) → AllAbove n es → IsBehind r n (flat_map f es)
    entries_behind n [] above = tt
    entries_behind n (e ∷ es) above = by_lines (f e) (ranked e) (entries_behind n es above.1)
      where
        by_lines : (ls : List Line) → AllHave r e.0 ls → IsBehind r n (flat_map f es) → IsBehind r n (ls ++ flat_map f es)
        by_lines [] h behind = behind
        by_lines (l ∷ ls) h behind = let less = above.0 in let same = h.0 in omega (arith, less, same)

    -- the lines of two entries with one key, and what is behind
    first_alike : (d g : ℕ × V) (es fs : List (ℕ × V)) → AllAbove d.0 es → AllAbove g.0 fs → d.0 ≡ g.0
        → f d ++ flat_map f es ≡ f g ++ flat_map f fs → LinesAlike d.0 d.1 g.1 × (flat_map f es ≡ flat_map f fs)
    first_alike d g es fs a b key e =
        let t = cut r d.0 (f d) (f g) (flat_map f es) (flat_map f fs) (ranked d)
        (subst (λ n. AllHave r n (f g)) (sym key) (ranked g)) (entries_behind d.0 es a)
        (subst (λ n. IsBehind r n (flat_map f fs)) (sym key) (entries_behind g.0 fs b)) e in
        (t.0 ∙ ap (λ k. f (k, g.1)) (sym key), t.1)

    -- where the keys are the same, so are the lines of each entry
    pub lines_alike : (P : ℕ → V → V → Type 0) (es fs : List (ℕ × V)) → T (is_sorted nat_cmp es)
        → T (is_sorted nat_cmp fs) → AreAlike P es fs → flat_map f es ≡ flat_map f fs → AreAlike LinesAlike es fs
    lines_alike P [] [] s t keys e = tt
    lines_alike P [] (g ∷ fs) s t keys e = absurd keys
    lines_alike P (d ∷ es) [] s t keys e = absurd keys
    lines_alike P (d ∷ es) (g ∷ fs) s t keys e =
        let h = first_alike d g es fs (AllAbove-rest d es s) (AllAbove-rest g fs t) keys.0 e in
        (keys.0, h.0, lines_alike P es fs (is_sorted-rest d es s) (is_sorted-rest g fs t) keys.2 h.1)

    -- ## Entries with lines

    -- lines and what is behind them
    none_empty : (ls rest : List Line) → (ls ≡ [] → ⊥) → ls ++ rest ≡ [] → ⊥
    none_empty [] rest some e = some refl
    none_empty (l ∷ ls) rest some e = cc

    same_first : (a b : ℕ) (ls ms rest more : List Line) → AllHave r a ls → AllHave r b ms → (ls ≡ [] → ⊥)
        → (ms ≡ [] → ⊥) → ls ++ rest ≡ ms ++ more → a ≡ b
    same_first a b [] ms rest more h k some other e = absurd (some refl)
    same_first a b (l ∷ ls) [] rest more h k some other e = absurd (other refl)
    same_first a b (l ∷ ls) (m ∷ ms) rest more h k some other e =
        let head : l ≡ m = cc in sym h.0 ∙ ap r head ∙ k.0

    -- where each entry has a line, the keys are the same too
    pub entries_alike : (es fs : List (ℕ × V)) → T (is_sorted nat_cmp es) → T (is_sorted nat_cmp fs)
        → AllEntries (λ d. f d ≡ [] → ⊥) es → AllEntries (λ d. f d ≡ [] → ⊥) fs → flat_map f es ≡ flat_map f fs
        → AreAlike LinesAlike es fs
    entries_alike [] [] s t a b e = tt
    entries_alike [] (g ∷ fs) s t a b e = absurd (none_empty (f g) (flat_map f fs) b.0 (sym e))
    entries_alike (d ∷ es) [] s t a b e = absurd (none_empty (f d) (flat_map f es) a.0 e)
    entries_alike (d ∷ es) (g ∷ fs) s t a b e =
        let key : d.0 ≡ g.0 = same_first d.0 g.0 (f d) (f g) (flat_map f es) (flat_map f fs) (ranked d) (ranked g) a.0
        b.0 e in
        let h = first_alike d g es fs (AllAbove-rest d es s) (AllAbove-rest g fs t) key e in
        (key, h.0, entries_alike es fs (is_sorted-rest d es s) (is_sorted-rest g fs t) a.1 b.1 h.1)

  -- tables of entries with lines that tell each value
  pub same_table : (r : Line → ℕ) (f : ℕ × V → List Line) → ((e : ℕ × V) → AllHave r e.0 (f e)) → (A : V → Type 0)
      → ((e : ℕ × V) → A e.1 → f e ≡ [] → ⊥)
      → ((k : ℕ) (v w : V) → A v → A w → f (k, v) ≡ f (k, w) → v ≡ w) → (t u : Table V)
      → AllEntries (λ e. A e.1) (entries t) → AllEntries (λ e. A e.1) (entries u)
      → flat_map f (entries t) ≡ flat_map f (entries u) → t ≡ u
  same_table r f ranked A some told t u t-is u-is e =
      same_entries_map t u (alike_equal (λ e. A e.1) _ told (entries t) (entries u) t-is u-is
      (entries_alike r f ranked (entries t) (entries u) (entries_sorted t) (entries_sorted u) (all_some (entries t) t-is)
      (all_some (entries u) u-is) e))
    where
      all_some : (es : List (ℕ × V)) → AllEntries (λ e. A e.1) es → AllEntries (λ e. f e ≡ [] → ⊥) es
      all_some [] is = tt
      all_some (e ∷ es) is = (some e is.0, all_some es is.1)

  -- entries with lines have lines
  pub lines_of_some : (f : ℕ × V → List Line) (es : List (ℕ × V)) → AllEntries (λ e. f e ≡ [] → ⊥) es
      → (es ≡ [] → ⊥) → flat_map f es ≡ [] → ⊥
  lines_of_some f [] each some none = some refl
  lines_of_some f (e ∷ es) each some none = by_lines (f e) each.0 none
    where
      by_lines : (ls : List Line) → (ls ≡ [] → ⊥) → ls ++ flat_map f es ≡ [] → ⊥
      by_lines [] h e = h refl
      by_lines (l ∷ ls) h e = cc
