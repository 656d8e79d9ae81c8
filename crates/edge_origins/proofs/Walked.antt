-- One path more has been walked.
use Rattle.std.proofs.Common.{◌≡◌, ℕ, ◌+◌, ◌<◌, Bool, List, [], ◌∷◌, ◌++◌, length, map, get_or, sym, ap, ◌∙◌}
use Rattle.std.proofs.Common.{subst, arith, below_more}
use Rattle.std.proofs.lemmas.List.{length-map, get_or-map, map_push, get_or_append_left, get_or_push, length_push}
use Rattle.tm_terms.specs.declared.places.Place.{Place}
use Rattle.tm_laid.specs.Layouts.{LaidTree}
use Rattle.path_origins.specs.declared.origins.Notes.{Notes}
use Rattle.path_origins.specs.Noted.{Noted, nothing}
use Rattle.path_origins.specs.Shown.{shown}
use Rattle.path_origins.specs.Bodies.{noted_path}
use Rattle.edge_origins.specs.reading.PathNotes.{noted_in, AreWalked}

-- what is noted of a path is read
pub noted_read : (notes : List Notes) (path : ℕ) (one : Notes) → path < length notes → one ≡ get_or notes path one
    → noted_in notes path ≡ shown one
noted_read notes path one lt is = get_or-map shown notes path one nothing lt ∙ ap shown (sym is)

kept_before : (notes : List Notes) (one : Notes) (path : ℕ) → path < length notes
    → noted_in (notes ++ one ∷ []) path ≡ noted_in notes path
kept_before notes one path lt =
    let there : path < length (map shown notes) = subst (λ n. path < n) (sym (length-map notes shown)) lt in
    ap (λ l. get_or l path nothing) (map_push shown notes one)
    ∙ get_or_append_left (map shown notes) (shown one ∷ []) nothing path there

there_behind : (notes : List Notes) (one : Notes) (path : ℕ) → length notes ≡ path
    → noted_in (notes ++ one ∷ []) path ≡ shown one
there_behind notes one path at =
    ap (λ l. get_or l path nothing) (map_push shown notes one)
    ∙ get_or_push (map shown notes) (shown one) nothing path (length-map notes shown ∙ at)

module _ (laid : LaidTree) (is_open : Place → Bool) (sizes : ℕ → ℕ) where
  walked_behind : (path : ℕ) (notes : List Notes) (one : Notes) → AreWalked laid is_open sizes path notes
      → shown one ≡ noted_path laid is_open sizes path → sizes path ≡ one.size
      → AreWalked laid is_open sizes (path + 1) (notes ++ one ∷ [])
  walked_behind path notes one are is size =
      let Same : ℕ → Type 0 = λ p. noted_in (notes ++ one ∷ []) p ≡ noted_path laid is_open sizes p in
      let Sized : ℕ → Type 0 = λ p. sizes p ≡ (noted_in (notes ++ one ∷ []) p).size in
      let count = are.count_is in
      let here = there_behind notes one path count in
      let front = λ (p : ℕ) (lt : p < path). kept_before notes one p (subst (λ n. p < n) (sym count) lt) in
      record {
        count_is = length_push notes one ∙ ap (λ n. n + 1) count;
        noted = below_more Same path (λ p lt. front p lt ∙ are.noted p lt) (here ∙ is);
        sizes_are = below_more Sized path
            (λ p lt. are.sizes_are p lt ∙ ap (λ (x : Noted). x.size) (sym (front p lt)))
            (size ∙ ap (λ (x : Noted). x.size) (sym here));
      }

  pub walked_more : (path : ℕ) (notes new : List Notes) (one : Notes) → AreWalked laid is_open sizes path notes
      → shown one ≡ noted_path laid is_open sizes path → sizes path ≡ one.size → new ≡ notes ++ one ∷ []
      → AreWalked laid is_open sizes (path + 1) new
  walked_more path notes new one are is size pushed =
      subst (AreWalked laid is_open sizes (path + 1)) (sym pushed) (walked_behind path notes one are is size)

  pub walked_none : (notes : List Notes) → notes ≡ [] → AreWalked laid is_open sizes 0 notes
  walked_none notes none = record {
    count_is = ap length none;
    noted = λ path lt. absurd (omega (arith, lt));
    sizes_are = λ path lt. absurd (omega (arith, lt));
  }
