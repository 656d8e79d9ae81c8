-- The calls of a path, one call back at a time.
use Rattle.std.proofs.Common.{◌≡◌, ℕ, zero, suc, ◌+◌, ◌-◌, ◌<◌, List, [], ◌∷◌, ◌++◌, Option, Some, None, refl, ap, sym, ◌∙◌, arith}
use Rattle.std.proofs.lemmas.List.{append_assoc, append-nil}
use Rattle.tm_terms.specs.declared.places.Place.{Place}
use Rattle.tm_laid.specs.declared.paths.Caller.{Caller}
use Rattle.tm_laid.specs.Layouts.{LaidTree, path_at}
use Rattle.source_names.specs.Paths.{call_at, calls_by, calls_back}

no_calls : (laid : LaidTree) (places : List (List Place)) (n p : ℕ) → (path_at laid p).caller ≡ None
    → calls_back laid places n p ≡ []
no_calls laid places zero p e = refl
no_calls laid places (suc n) p e = ap (calls_by laid places (calls_back laid places n)) e

-- no call leads to a body
pub ends : (laid : LaidTree) (places : List (List Place)) (n p : ℕ) (caller : Option Caller)
    (calls full : List Place) → caller ≡ (path_at laid p).caller → caller ≡ None
    → calls ++ calls_back laid places n p ≡ full → calls ≡ full
ends laid places n p caller calls full told none e =
    sym (append-nil calls) ∙ ap (λ cs. calls ++ cs) (sym (no_calls laid places n p (sym told ∙ none))) ∙ e

-- one call more
pub goes_back : (laid : LaidTree) (places : List (List Place)) (all i p : ℕ) (caller : Option Caller) (c : Caller)
    (f : ℕ) (x : Place) (calls more full : List Place) → i < all
    → caller ≡ (path_at laid p).caller → caller ≡ Some c
    → f ≡ (path_at laid c.path).function → x ≡ call_at places f c.site → more ≡ calls ++ x ∷ []
    → calls ++ calls_back laid places (all - i) p ≡ full
    → more ++ calls_back laid places (all - (i + 1)) c.path ≡ full
goes_back laid places all i p caller c f x calls more full below told some named placed pushed e =
    let rest = calls_back laid places (all - (i + 1)) c.path in
    let left : all - i ≡ suc (all - (i + 1)) = omega arith in
    let at = placed ∙ ap (λ g. call_at places g c.site) named in
    let here : calls_back laid places (all - i) p ≡ x ∷ rest =
    ap (λ n. calls_back laid places n p) left
    ∙ ap (calls_by laid places (calls_back laid places (all - (i + 1)))) (sym told ∙ some)
    ∙ ap (λ y. y ∷ rest) (sym at) in
    ap (λ cs. cs ++ rest) pushed ∙ append_assoc calls (x ∷ []) rest ∙ ap (λ cs. calls ++ cs) (sym here) ∙ e
