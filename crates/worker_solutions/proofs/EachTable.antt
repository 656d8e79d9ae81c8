-- One table more.
use Rattle.std.specs.Prelude.{◌≡◌, ◌⊎◌, ℕ, ◌+◌, ◌<◌, ◌≤◌, List, [], ◌∷◌, ◌++◌, length, Option, Some, None, Result, Ok, Err, IfOk}
use Rattle.std.proofs.Common.{sym, ap, subst, ◌∙◌, inl, inr, arith}
use Rattle.std.specs.declared.vec.Vec.{Vec}
use Rattle.std.proofs.lemmas.Bool.{cases_lt}
use Rattle.std.proofs.lemmas.List.{length-map, map-append, get_or_append_left, get_or_push}
use Rattle.program_solutions.specs.transfer_rows.StateForms.{State}
use Rattle.program_solutions.specs.program_equations.Solutions.{table_at}
use Rattle.program_solutions.specs.post_recheck.Pairs.{lists_of}

-- what holds of each table so far, and of the next one, holds of all
module _ {A : Type 0} (P : ℕ → List (Option State) → Type 0) (xs ys : List (Vec (Option State) A))
    (x : Vec (Option State) A) (n : ℕ) (is : ys ≡ xs ++ (x ∷ [])) (count : length xs ≡ n) where
  split : lists_of ys ≡ lists_of xs ++ (x.items ∷ [])
  split = ap lists_of is ∙ map-append (λ (v : Vec (Option State) A). v.items) xs (x ∷ [])

  counted : length (lists_of xs) ≡ n
  counted = length-map xs (λ (v : Vec (Option State) A). v.items) ∙ count

  pub each_table : ((t : ℕ) → t < n → P t (table_at (lists_of xs) t)) → P n x.items → (t : ℕ) → t < n + 1
      → P t (table_at (lists_of ys) t)
  each_table each last t lt = subst (λ tables. P t (table_at tables t)) (sym split) (by_case (cases_lt t n))
    where
      by_case : (t < n) ⊎ (n ≤ t) → P t (table_at (lists_of xs ++ (x.items ∷ [])) t)
      by_case (inl below) =
          subst (P t)
          (sym (get_or_append_left (lists_of xs) (x.items ∷ []) [] t (subst (λ k. t < k) (sym counted) below)))
          (each t below)
      by_case (inr past) =
          let same : n ≡ t = omega (arith, past, lt) in
          subst (λ k. P k (table_at (lists_of xs ++ (x.items ∷ [])) k)) same
          (subst (P n) (sym (get_or_push (lists_of xs) x.items [] n counted)) last)

-- ## What was kept

-- what an answer says is what it says of another fact that follows
pub if_ok_by : {A E : Type 0} {P Q : A → Type 0} (r : Result A E) → IfOk r P → ((a : A) → P a → Q a) → IfOk r Q
if_ok_by (Ok a) h k = k a h
if_ok_by (Err e) h k = tt

pub same_some : {K : Type 0} (kept what : K) → Some kept ≡ Some what → kept ≡ what
same_some kept what e = (let r = e in cc)

pub none_some : {K : Type 0} (what : K) → None ≡ Some what → ⊥
none_some what e = (let r = e in cc)
