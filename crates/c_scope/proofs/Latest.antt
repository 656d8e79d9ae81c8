-- The last declaration of a name stands at the name's last position.
use Rattle.std.proofs.Common.{◌≡◌, refl, ap, sym, ◌∙◌, subst, ℕ, zero, suc, ◌<◌, ◌≤◌, Bool, true, false, cond, List, [], ◌∷◌, drop, map, Option, Some, None, arith}
use Rattle.std.specs.Prelude.{slice_get, option_map}
use Rattle.tm_terms.specs.declared.tokens.Name.{Name}
use Rattle.tm_terms.specs.Names.{is_same_name}
use Rattle.tm_typed.specs.Scopes.{or_else, last_declared}
use Rattle.c_scope.specs.reading.Positions.{last_position}

-- r is what stands at the position, if there is one
abbrev pub StandsAt : {A : Type 0} → Option ℕ → Option A → List A → Type 0
StandsAt {A} (Some i) r ds = (d : A) × (slice_get ds i ≡ Some d) × (r ≡ Some d)
StandsAt None r ds = r ≡ None

-- .. where the position is not before k
abbrev pub StandsSince : {A : Type 0} → ℕ → Option ℕ → Option A → List A → Type 0
StandsSince {A} k (Some i) r ds = (k ≤ i → (d : A) × (slice_get ds i ≡ Some d) × (r ≡ Some d)) × (i < k → r ≡ None)
StandsSince k None r ds = r ≡ None

one_more : {A : Type 0} (d : A) (ds : List A) (o : Option ℕ) (same : Bool) (r : Option A) → StandsAt o r ds → StandsAt (or_else (option_map suc o) (cond same (Some 0) None)) (or_else r (cond same (Some d) None)) (d ∷ ds)
one_more d ds (Some i) same r h = (h.0, h.1, ap (λ x. or_else x (cond same (Some d) None)) h.2)
one_more d ds None true r h = (d, refl, ap (λ x. or_else x (Some d)) h)
one_more d ds None false r h = ap (λ x. or_else x None) h

pub stands_last : {A : Type 0} (name : A → Name) (n : Name) (ds : List A) → StandsAt (last_position (map name ds) n) (last_declared name n ds) ds
stands_last name n [] = refl
stands_last name n (d ∷ ds) = one_more d ds (last_position (map name ds) n) (is_same_name (name d) n) (last_declared name n ds) (stands_last name n ds)

from_start : {A : Type 0} (o : Option ℕ) (r : Option A) (ds : List A) → StandsAt o r ds → StandsSince zero o r ds
from_start (Some i) r ds h = (λ q. h, λ q. absurd (omega (arith, q)))
from_start None r ds h = h

one_back : {A : Type 0} (d : A) (ds : List A) (k : ℕ) (o : Option ℕ) (same : Bool) (r : Option A) → StandsSince k o r ds → StandsSince (suc k) (or_else (option_map suc o) (cond same (Some 0) None)) r (d ∷ ds)
one_back d ds k (Some i) same r h = (λ q. h.0 (omega (arith, q)), λ q. h.1 (omega (arith, q)))
one_back d ds k None true r h = (λ q. absurd (omega (arith, q)), λ q. h)
one_back d ds k None false r h = h

pub stands_since : {A : Type 0} (name : A → Name) (n : Name) (k : ℕ) (ds : List A) → StandsSince k (last_position (map name ds) n) (last_declared name n (drop k ds)) ds
stands_since name n zero ds = from_start (last_position (map name ds) n) (last_declared name n ds) ds (stands_last name n ds)
stands_since name n (suc k) [] = refl
stands_since name n (suc k) (d ∷ ds) = one_back d ds k (last_position (map name ds) n) (is_same_name (name d) n) (last_declared name n (drop k ds)) (stands_since name n k ds)

-- ## What a look-up by position gives, where the positions ps are those of the declarations ds

at_place : {A B : Type 0} (g : A → B) (ds : List A) (i : ℕ) (o : Option ℕ) (r : Option A) → o ≡ Some i → StandsAt o r ds → option_map g (slice_get ds i) ≡ option_map g r
at_place {A} {B} g ds i o r e h =
    let s : StandsAt (Some i) r ds = (let P : Option ℕ → Type 0 = λ x. StandsAt x r ds in subst P e h) in
    ap (option_map g) (s.1 ∙ sym s.2)

at_none : {A B : Type 0} (g : A → B) (ds : List A) (o : Option ℕ) (r : Option A) → o ≡ None → StandsAt o r ds → None ≡ option_map g r
at_none {A} {B} g ds o r e h =
    let s : StandsAt None r ds = (let P : Option ℕ → Type 0 = λ x. StandsAt x r ds in subst P e h) in
    sym (ap (option_map g) s)

stands : {A : Type 0} (name : A → Name) (n : Name) (ps : List Name) (ds : List A) (o : Option ℕ) → ps ≡ map name ds → o ≡ last_position ps n → StandsAt o (last_declared name n ds) ds
stands name n ps ds o p q =
    let P : Option ℕ → Type 0 = λ x. StandsAt x (last_declared name n ds) ds in
    subst P (sym (q ∙ ap (λ ns. last_position ns n) p)) (stands_last name n ds)

pub found_at : {A B : Type 0} (g : A → B) (name : A → Name) (n : Name) (ps : List Name) (ds : List A) (o : Option ℕ) (i : ℕ) → ps ≡ map name ds → o ≡ last_position ps n → o ≡ Some i → option_map g (slice_get ds i) ≡ option_map g (last_declared name n ds)
found_at g name n ps ds o i p q e = at_place g ds i o (last_declared name n ds) e (stands name n ps ds o p q)

pub found_none : {A B : Type 0} (g : A → B) (name : A → Name) (n : Name) (ps : List Name) (ds : List A) (o : Option ℕ) → ps ≡ map name ds → o ≡ last_position ps n → o ≡ None → None ≡ option_map g (last_declared name n ds)
found_none g name n ps ds o p q e = at_none g ds o (last_declared name n ds) e (stands name n ps ds o p q)

stands_from : {A : Type 0} (name : A → Name) (n : Name) (k : ℕ) (ps : List Name) (ds : List A) (o : Option ℕ) → ps ≡ map name ds → o ≡ last_position ps n → StandsSince k o (last_declared name n (drop k ds)) ds
stands_from name n k ps ds o p q =
    let P : Option ℕ → Type 0 = λ x. StandsSince k x (last_declared name n (drop k ds)) ds in
    subst P (sym (q ∙ ap (λ ns. last_position ns n) p)) (stands_since name n k ds)

since_at : {A B : Type 0} (g : A → B) (k : ℕ) (ds : List A) (i : ℕ) (o : Option ℕ) (r : Option A) → o ≡ Some i → StandsSince k o r ds → (k ≤ i → option_map g (slice_get ds i) ≡ option_map g r) × (i < k → None ≡ option_map g r)
since_at {A} {B} g k ds i o r e h =
    let s : StandsSince k (Some i) r ds = (let P : Option ℕ → Type 0 = λ x. StandsSince k x r ds in subst P e h) in
    (λ q. ap (option_map g) ((s.0 q).1 ∙ sym (s.0 q).2), λ q. sym (ap (option_map g) (s.1 q)))

since_none : {A B : Type 0} (g : A → B) (k : ℕ) (ds : List A) (o : Option ℕ) (r : Option A) → o ≡ None → StandsSince k o r ds → None ≡ option_map g r
since_none {A} {B} g k ds o r e h =
    let s : StandsSince k None r ds = (let P : Option ℕ → Type 0 = λ x. StandsSince k x r ds in subst P e h) in
    sym (ap (option_map g) s)

pub found_since : {A B : Type 0} (g : A → B) (name : A → Name) (n : Name) (k : ℕ) (ps : List Name) (ds : List A) (o : Option ℕ) (i : ℕ) → ps ≡ map name ds → o ≡ last_position ps n → o ≡ Some i → (k ≤ i → option_map g (slice_get ds i) ≡ option_map g (last_declared name n (drop k ds))) × (i < k → None ≡ option_map g (last_declared name n (drop k ds)))
found_since g name n k ps ds o i p q e = since_at g k ds i o (last_declared name n (drop k ds)) e (stands_from name n k ps ds o p q)

pub found_none_since : {A B : Type 0} (g : A → B) (name : A → Name) (n : Name) (k : ℕ) (ps : List Name) (ds : List A) (o : Option ℕ) → ps ≡ map name ds → o ≡ last_position ps n → o ≡ None → None ≡ option_map g (last_declared name n (drop k ds))
found_none_since g name n k ps ds o p q e = since_none g k ds o (last_declared name n (drop k ds)) e (stands_from name n k ps ds o p q)
