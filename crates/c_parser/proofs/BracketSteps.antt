-- One step of the search for a bracket that is too deep.
use Rattle.std.proofs.Common.{◌≡◌, ℕ, suc, ◌+◌, ◌<◌, ◌≤◌, nat_lt, if◌then◌else◌, List, [], ◌∷◌, length, drop, slice_index_or, Some, None, sym, ap, ◌∙◌, arith, add-one}
use Rattle.std.proofs.Math.Seq.{drop-cons}
use Rattle.std.proofs.lemmas.Bool.{lt-ltb, le-ltb}
use Rattle.tm_terms.specs.declared.tokens.Token.{Token}
use Rattle.tm_trees.specs.Parsing.{first_deep, open_behind}

-- the tokens from an index on
from_here : (ts : List Token) (i : ℕ) (d : Token) → i < length ts → drop i ts ≡ slice_index_or ts i d ∷ drop (i + 1) ts
from_here ts i d h = drop-cons ts i d h ∙ ap (λ k. slice_index_or ts i d ∷ drop k ts) (let e : suc i ≡ i + 1 = omega arith in e)

-- this token is the first
pub deep_here : (n m : ℕ) (ts : List Token) (i : ℕ) (d : Token) → i < length ts → m ≡ open_behind n (slice_index_or ts i d).shape → 200 < m → first_deep n (drop i ts) ≡ Some (slice_index_or ts i d).place
unfolding first_deep
deep_here n m ts i d l f h =
    let t = slice_index_or ts i d in
    ap (first_deep n) (from_here ts i d l)
    ∙ ap (λ k. if nat_lt 200 k then Some t.place else first_deep k (drop (i + 1) ts)) (sym f)
    ∙ ap (λ b. if b then Some t.place else first_deep m (drop (i + 1) ts)) (lt-ltb 200 m h)

-- none is up to this token
pub deep_later : (n m : ℕ) (ts : List Token) (i : ℕ) (d : Token) → i < length ts → m ≡ open_behind n (slice_index_or ts i d).shape → m ≤ 200 → first_deep n (drop i ts) ≡ first_deep m (drop (i + 1) ts)
unfolding first_deep
deep_later n m ts i d l f h =
    let t = slice_index_or ts i d in
    ap (first_deep n) (from_here ts i d l)
    ∙ ap (λ k. if nat_lt 200 k then Some t.place else first_deep k (drop (i + 1) ts)) (sym f)
    ∙ ap (λ b. if b then Some t.place else first_deep m (drop (i + 1) ts)) (le-ltb 200 m h)

pub deep_none : (n : ℕ) (ts : List Token) → ts ≡ [] → first_deep n ts ≡ None
unfolding first_deep
deep_none n ts e = ap (first_deep n) e
