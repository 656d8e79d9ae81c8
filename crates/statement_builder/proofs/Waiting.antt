-- What waits.
use Rattle.std.proofs.Common.{◌≡◌, ℕ, ◌+◌, ◌<◌, ◌≤◌, Bool, true, false, List, [], ◌∷◌, ◌++◌, map, length, drop, get_or}
use Rattle.std.proofs.Common.{refl, sym, ap, ◌∙◌, arith}
use Rattle.std.specs.Prelude.{if◌then◌else◌, Option, Some, None}
use Rattle.std.proofs.lemmas.List.{append_assoc, append-nil, drop_more, drop_all}
use Rattle.tm_typed.specs.TypedTrees.{RvalueTree}
use Rattle.tm_laid.specs.Layouts.{LaidTree}
use Rattle.flow_graph.specs.declared.operations.Operation.TheVariants as Op
use Rattle.body_builder.specs.lowering.Table.{codes}
use Rattle.body_builder.specs.lowering.Built as Built
use Rattle.body_builder.specs.lowering.Built.{Building, nodes_by, still_by, meet, continued_at, place_result, result_of}
use Rattle.body_builder.specs.lowering.Built.{temp_of}
use Rattle.body_builder.specs.lowering.Built.{code_piece, ByReturn}
use Rattle.body_builder.specs.Fragments.{calls_on}
use Rattle.statement_builder.specs.declared.passed.Pending.{Pending}
use Rattle.statement_builder.specs.Waiting.{waiting}
use Rattle.statement_builder.specs.reading.Statements.{left, behind, returned}

pub waits_behind : (ps : List Pending) (q : Pending) → map waiting (ps ++ q ∷ []) ≡ map waiting ps ++ waiting q ∷ []
waits_behind [] q = refl
waits_behind (p ∷ ps) q = ap (λ (rest : List Built.Pending). waiting p ∷ rest) (waits_behind ps q)

-- ## Nodes by their ways

by_one : (b : Bool) (n : ℕ) (ns : List ℕ)
    → (if b then n ∷ ns else ns) ≡ (if b then n ∷ [] else []) ++ ns
by_one true n ns = refl
by_one false n ns = refl

still_one : (b : Bool) (q : Built.Pending) (qs : List Built.Pending)
    → (if b then q ∷ qs else qs) ≡ (if b then q ∷ [] else []) ++ qs
still_one true q qs = refl
still_one false q qs = refl

-- the nodes of what is left, behind others
pub nodes_more : (f : Built.Way → Bool) (xs : List Pending) (i : ℕ) (d : Pending) (ns ms all : List ℕ) → i < length xs
    → ms ≡ ns ++ nodes_by f (waiting (get_or xs i d) ∷ []) → ns ++ nodes_by f (map waiting (drop i xs)) ≡ all
    → ms ++ nodes_by f (map waiting (drop (i + 1) xs)) ≡ all
nodes_more f xs i d ns ms all lt em h =
    let q : Built.Pending = waiting (get_or xs i d) in
    let rest = nodes_by f (map waiting (drop (i + 1) xs)) in
    ap (λ (ks : List ℕ). ks ++ rest) em
    ∙ (append_assoc ns (nodes_by f (q ∷ [])) rest
    ∙ (ap (λ (ks : List ℕ). ns ++ ks) (sym (by_one (f q.way) q.node rest))
    ∙ (sym (ap (λ (ys : List Pending). ns ++ nodes_by f (map waiting ys)) (drop_more xs i d lt)) ∙ h)))

pub nodes_last : (f : Built.Way → Bool) (xs : List Pending) (i : ℕ) (ns all : List ℕ) → length xs ≤ i
    → ns ++ nodes_by f (map waiting (drop i xs)) ≡ all → ns ≡ all
nodes_last f xs i ns all le h =
    sym (append-nil ns) ∙ (sym (ap (λ (ys : List Pending). ns ++ nodes_by f (map waiting ys)) (drop_all i xs le)) ∙ h)

-- what is left to wait, behind others
pub still_more : (f : Built.Way → Bool) (xs : List Pending) (i : ℕ) (d : Pending) (ns ms all : List Built.Pending)
    → i < length xs → ms ≡ ns ++ still_by f (waiting (get_or xs i d) ∷ [])
    → ns ++ still_by f (map waiting (drop i xs)) ≡ all → ms ++ still_by f (map waiting (drop (i + 1) xs)) ≡ all
still_more f xs i d ns ms all lt em h =
    let q : Built.Pending = waiting (get_or xs i d) in
    let rest = still_by f (map waiting (drop (i + 1) xs)) in
    ap (λ (ks : List Built.Pending). ks ++ rest) em
    ∙ (append_assoc ns (still_by f (q ∷ [])) rest
    ∙ (ap (λ (ks : List Built.Pending). ns ++ ks) (sym (still_one (f q.way) q rest))
    ∙ (sym (ap (λ (ys : List Pending). ns ++ still_by f (map waiting ys)) (drop_more xs i d lt)) ∙ h)))

pub still_last : (f : Built.Way → Bool) (xs : List Pending) (i : ℕ) (ns all : List Built.Pending) → length xs ≤ i
    → ns ++ still_by f (map waiting (drop i xs)) ≡ all → ns ≡ all
still_last f xs i ns all le h =
    sym (append-nil ns) ∙ (sym (ap (λ (ys : List Pending). ns ++ still_by f (map waiting ys)) (drop_all i xs le)) ∙ h)

-- ## Where control comes together, or leaves

pub continued_none : (ns : List ℕ) (b : Building) → length ns ≡ 0 → continued_at ns b ≡ b
continued_none [] b e = refl
continued_none (n ∷ ns) b e = absurd cc

pub continued_some : (ns : List ℕ) (b : Building) → 0 < length ns → continued_at ns b ≡ meet (ns ++ b.node ∷ []) b
continued_some [] b lt = absurd (omega arith)
continued_some (n ∷ ns) b lt = refl

module _ (laid : LaidTree) (depth path : ℕ) where
  pub returned_none : (s : Built.Passed) → returned laid depth path None s ≡ left ByReturn s
  unfolding returned left behind
  returned_none s = refl

  pub returned_some : (e : RvalueTree) (s y : Built.Passed) (b b1 : Building) (t : Option ℕ) (r : ℕ)
      → b ≡ (code_piece (calls_on laid depth path) (codes laid path e).value s.at).at
      → t ≡ (code_piece (calls_on laid depth path) (codes laid path e).value s.at).temp
      → b1 ≡ place_result s.result (λ k. Op.Copy k (temp_of t)) b → r ≡ result_of s.result b
      → y ≡ left ByReturn (record { at = b1; pending = s.pending; result = Some r })
      → y ≡ returned laid depth path (Some e) s
  unfolding returned left behind
  returned_some e s y b b1 t r eb et e1 er h =
      let x = code_piece (calls_on laid depth path) (codes laid path e).value s.at in
      let same : b1 ≡ place_result s.result (λ k. Op.Copy k (temp_of x.temp)) x.at = e1
      ∙ (ap (λ (v : Option ℕ). place_result s.result (λ k. Op.Copy k (temp_of v)) b) et
      ∙ ap (λ (z : Building). place_result s.result (λ k. Op.Copy k (temp_of x.temp)) z) eb) in
      let value : r ≡ result_of s.result x.at = er ∙ ap (λ (z : Building). result_of s.result z) eb in
      h
      ∙ (ap (λ (z : Building). left ByReturn (record { at = z; pending = s.pending; result = Some r })) same
      ∙ ap (λ k. left ByReturn (record {
        at = place_result s.result (λ j. Op.Copy j (temp_of x.temp)) x.at;
        pending = s.pending;
        result = Some k;
      })) value)
