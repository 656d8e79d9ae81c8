-- A run comes to where it stands: it goes on to a greater node, or to one that it had not seen since the last answer.
use Rattle.std.proofs.Common.{◌≡◌, refl, sym, ap, subst, ℕ, zero, suc, ◌+◌, ◌-◌, ◌*◌, ◌<◌, ◌≤◌, inl, inr, Bool, true, false, cond, List, [], ◌∷◌, length, get_or, set, arith}
use Rattle.std.specs.Prelude.{◌==◌, leb, ◌&&◌}
use Rattle.std.proofs.lemmas.Bool.{cases_lt, eq-eqb, le-leb}
use Rattle.std.proofs.Math.Nat.{mul-le-mul_left}
use Rattle.flow_graph.specs.declared.graphs.Edge.{Edge}
use Rattle.flow_graph.specs.Runs.{Memory, is_round}

-- how many nodes were not seen since the last answer
pub unseen : ℕ → List ℕ → ℕ
unseen stamp [] = 0
unseen stamp (x ∷ xs) = cond (x == stamp) (unseen stamp xs) (suc (unseen stamp xs))

fewer : (b : Bool) (a c : ℕ) → a ≤ c → cond b a (suc a) ≤ cond b c (suc c)
fewer true a c h = h
fewer false a c h = omega (arith, h)

strictly_fewer : (b : Bool) (a c : ℕ) → a < c → cond b a (suc a) < cond b c (suc c)
strictly_fewer true a c h = h
strictly_fewer false a c h = omega (arith, h)

below_either : (b : Bool) (a : ℕ) → a ≤ cond b a (suc a)
below_either true a = omega arith
below_either false a = omega arith

below_false : (b : Bool) (a : ℕ) → b ≡ false → a < cond b a (suc a)
below_false true a e = absurd cc
below_false false a e = omega arith

stamped : (stamp a : ℕ) → cond (stamp == stamp) a (suc a) ≡ a
stamped stamp a = ap (λ b. cond b a (suc a)) (eq-eqb stamp stamp refl)

unseen_set : (stamp : ℕ) (xs : List ℕ) (i : ℕ) → unseen stamp (set xs i stamp) ≤ unseen stamp xs
unfolding unseen
unseen_set stamp [] i = omega arith
unseen_set stamp (x ∷ xs) zero = let e = stamped stamp (unseen stamp xs) in let b = below_either (x == stamp) (unseen stamp xs) in omega (arith, e, b)
unseen_set stamp (x ∷ xs) (suc i) = fewer (x == stamp) (unseen stamp (set xs i stamp)) (unseen stamp xs) (unseen_set stamp xs i)

unseen_less : (stamp : ℕ) (xs : List ℕ) (i : ℕ) → i < length xs → (get_or xs i 0 == stamp) ≡ false → unseen stamp (set xs i stamp) < unseen stamp xs
unfolding unseen
unseen_less stamp [] i lt e = absurd (omega arith)
unseen_less stamp (x ∷ xs) zero lt e = let s = stamped stamp (unseen stamp xs) in let b = below_false (x == stamp) (unseen stamp xs) e in omega (arith, s, b)
unseen_less stamp (x ∷ xs) (suc i) lt e = strictly_fewer (x == stamp) (unseen stamp (set xs i stamp)) (unseen stamp xs) (unseen_less stamp xs i (omega arith) e)

-- how far a run at a node may go on by itself
pub way : (nodes used node : ℕ) (seen : List ℕ) → ℕ
way nodes used node seen = unseen (used + 1) seen * (nodes + 1) + (nodes - node)

less_way : (n u v x y : ℕ) → u < v → x ≤ n → u * (n + 1) + x < v * (n + 1) + y
less_way n u v x y lt le =
    let a : (n + 1) * (u + 1) ≤ (n + 1) * v = mul-le-mul_left {m = u + 1} {n = v} (n + 1) (omega (arith, lt)) in
    let b : (n + 1) * (u + 1) ≡ u * (n + 1) + (n + 1) = omega arith in
    let d : (n + 1) * v ≡ v * (n + 1) = omega arith in
    omega (arith, a, b, d, le)

nearer_way : (n u v x y : ℕ) → u ≤ v → x < y → u * (n + 1) + x < v * (n + 1) + y
nearer_way n u v x y le lt =
    let a : (n + 1) * u ≤ (n + 1) * v = mul-le-mul_left {m = u} {n = v} (n + 1) le in
    let b : (n + 1) * u ≡ u * (n + 1) = omega arith in
    let d : (n + 1) * v ≡ v * (n + 1) = omega arith in
    omega (arith, a, b, d, lt)

not_seen : (b : Bool) (x : Bool) → b ≡ true → b && x ≡ false → x ≡ false
not_seen true x e h = h
not_seen false x e h = absurd cc

pub way_falls : (nodes used node node' : ℕ) (seen seen' : List ℕ) (e : Edge) (m : Memory) → m.used ≡ used → m.seen e.to ≡ get_or seen e.to 0 → e.from ≡ node → node' ≡ e.to → node < nodes → e.to < nodes
    → length seen ≡ nodes → seen' ≡ set seen e.to (used + 1) → is_round e m ≡ false → way nodes used node' seen' < way nodes used node seen
unfolding way
way_falls nodes used node node' seen seen' e m u s from there here within len is round =
    let P : List ℕ → Type 0 = λ xs. unseen (used + 1) xs * (nodes + 1) + (nodes - node') < unseen (used + 1) seen * (nodes + 1) + (nodes - node) in
    subst P (sym is) (elim (cases_lt e.from e.to) [
      | inl ahead ↦
          nearer_way nodes (unseen (used + 1) (set seen e.to (used + 1))) (unseen (used + 1) seen) (nodes - node') (nodes - node) (unseen_set (used + 1) seen e.to)
          (omega (arith, from, there, here, within, ahead))
      | inr back ↦
          (let q : (m.seen e.to == suc m.used) ≡ false = not_seen (leb e.to e.from) (m.seen e.to == suc m.used) (le-leb e.to e.from back) round in
          let same : suc m.used ≡ used + 1 = omega (arith, u) in
          let r : (get_or seen e.to 0 == used + 1) ≡ false = subst (λ (z : ℕ). (get_or seen e.to 0 == z) ≡ false) same (subst (λ (z : ℕ). (z == suc m.used) ≡ false) s q) in
          less_way nodes (unseen (used + 1) (set seen e.to (used + 1))) (unseen (used + 1) seen) (nodes - node') (nodes - node)
          (unseen_less (used + 1) seen e.to (omega (arith, len, within)) r) (omega arith))
    ])
