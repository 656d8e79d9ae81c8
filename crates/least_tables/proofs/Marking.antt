-- The edges that leave a node, one before the other.
use Rattle.std.proofs.Common.{◌≡◌, ◌≢◌, ℕ, ◌+◌, ◌<◌, List, [], ◌∷◌, ◌++◌, length, get_or, set, Option, Some, None, Bool, true, length-append, sym, ap, subst, ◌∙◌, inl, inr, refl, arith}
use Rattle.std.proofs.lemmas.Bool.{cases_lt, cases_eq, cases_order}
use Rattle.std.proofs.Math.ListN.{get_or-append}
use Rattle.std.proofs.lemmas.List.{get_or-set_same, get_or-set_other, get_or_push, length-set}
use Rattle.table_covers.specs.declared.links.Link.{Link}
use Rattle.table_covers.specs.Systems.{from_of}
use Rattle.least_tables.specs.reading.WorkLists.{IsLastBelow, IsIndex}

-- one more than the number, 0 where there is none
abbrev pub past_number : Option ℕ → ℕ
past_number None = 0
past_number (Some e) = e + 1

module _ (links : List Link) where
  -- a bound one greater, where the edge there leaves another node
  pub last_on : (n e : ℕ) (x : Option ℕ) → IsLastBelow links n e x → from_of links e ≢ n → IsLastBelow links n (e + 1) x
  last_on n e None is other = λ k lt same. elim (cases_lt k e) [
    | inl before ↦ is k before same
    | inr after ↦ let here : k ≡ e = omega arith in other (subst (λ i. from_of links i ≡ n) here same)
  ]
  last_on n e (Some f) is other = (
    (let lt : f < e = is.0 in omega arith),
    is.1,
    (λ k gt lt same. elim (cases_lt k e) [
      | inl before ↦ is.2 k gt before same
      | inr after ↦ let here : k ≡ e = omega arith in other (subst (λ i. from_of links i ≡ n) here same)
    ]),
  )

  -- or the edge there leaves this node
  pub last_here : (n e : ℕ) → from_of links e ≡ n → IsLastBelow links n (e + 1) (Some e)
  last_here n e here = (omega arith, here, λ k gt lt same. absurd (omega arith))

  -- each edge of a chain has a lesser number than the one after it
  pub chain_falls : (n e : ℕ) (x : Option ℕ) → IsLastBelow links n e x → past_number x < e + 1
  chain_falls n e None is = omega arith
  chain_falls n e (Some f) is = let lt : f < e = is.0 in omega arith

  -- how far the chain of a node has been followed: the edge is one of the node, and all later ones are marked
  pub record IsFollowed (n : ℕ) (pending : List Bool) (x : Option ℕ) : Type 0 where
    pub at_node : (e : ℕ) → x ≡ Some e → (e < length links) × (from_of links e ≡ n)
    pub marked : (k : ℕ) → k < length links → from_of links k ≡ n → ((e : ℕ) → x ≡ Some e → e < k) → get_or pending k true ≡ true

  pub first_followed : (n : ℕ) (pending : List Bool) (x : Option ℕ) → IsLastBelow links n (length links) x → IsFollowed n pending x
  first_followed n pending None is = record { at_node = λ e none. cc; marked = λ k lt same later. absurd (is k lt same) }
  first_followed n pending (Some f) is = record {
    at_node = λ e here. let same : f ≡ e = cc in (subst (λ i. i < length links) same is.0, subst (λ i. from_of links i ≡ n) same is.1);
    marked = λ k lt same later. absurd (is.2 k (later f refl) lt same);
  }

  -- the next edge of the chain, once this one is marked
  pub next_followed : (n e : ℕ) (pending pending' : List Bool) (x : Option ℕ) → IsFollowed n pending (Some e) → IsLastBelow links (from_of links e) e x → get_or pending' e true ≡ true
      → ((k : ℕ) → get_or pending k true ≡ true → get_or pending' k true ≡ true) → IsFollowed n pending' x
  next_followed n e pending pending' x followed is here kept =
      let leaves : from_of links e ≡ n = (followed.at_node e refl).1 in
      let within : e < length links = (followed.at_node e refl).0 in
      let is' : IsLastBelow links n e x = subst (λ m. IsLastBelow links m e x) leaves is in
      from_last x is' leaves within where
        from_last : (y : Option ℕ) → IsLastBelow links n e y → from_of links e ≡ n → e < length links → IsFollowed n pending' y
        from_last y is' leaves within = record {
          at_node = λ f some. at_edge f (subst (IsLastBelow links n e) some is') within;
          marked = λ k lt same later. elim (cases_order k e) [
            | inl equal ↦ subst (λ i. get_or pending' i true ≡ true) (sym equal) here
            | inr differ ↦ elim differ [
              | inl before ↦ absurd (none_between y is' k before same later)
              | inr after ↦ kept k (followed.marked k lt same (λ f some. let one : e ≡ f = cc in omega arith))
            ]
          ];
        } where
          at_edge : (f : ℕ) → IsLastBelow links n e (Some f) → e < length links → (f < length links) × (from_of links f ≡ n)
          at_edge f last within' = (let lt : f < e = last.0 in omega arith, last.1)

          none_between : (z : Option ℕ) → IsLastBelow links n e z → (k : ℕ) → k < e → from_of links k ≡ n → ((f : ℕ) → z ≡ Some f → f < k) → ⊥
          none_between None last k lt same later = last k lt same
          none_between (Some f) last k lt same later = last.2 k (later f refl) lt same

  pub all_followed : (n : ℕ) (pending : List Bool) (x : Option ℕ) → IsFollowed n pending x → x ≡ None → (k : ℕ) → k < length links → from_of links k ≡ n → get_or pending k true ≡ true
  all_followed n pending x followed none k lt same = followed.marked k lt same (λ e some. let never : None ≡ Some e = sym none ∙ some in cc)

  -- the index of the edges below a number
  pub record IsBuilt (nodes edge : ℕ) (last before : List (Option ℕ)) : Type 0 where
    pub node_count : length last ≡ nodes
    pub edge_count : length before ≡ edge
    pub ends : (n : ℕ) → n < nodes → IsLastBelow links n edge (get_or last n None)
    pub goes_on : (e : ℕ) → e < edge → IsLastBelow links (from_of links e) e (get_or before e None)

  pub built_none : (nodes : ℕ) (last : List (Option ℕ)) → length last ≡ nodes → ((n : ℕ) → get_or last n None ≡ None) → IsBuilt nodes 0 last []
  built_none nodes last count none = record {
    node_count = count;
    edge_count = refl;
    ends = λ n lt. subst (IsLastBelow links n 0) (sym (none n)) (λ e lt'. absurd (omega arith));
    goes_on = λ e lt. absurd (omega arith);
  }

  pub built_more : (nodes edge : ℕ) (last before : List (Option ℕ)) (x : Option ℕ) → from_of links edge < nodes → IsBuilt nodes edge last before → x ≡ get_or last (from_of links edge) None
      → IsBuilt nodes (edge + 1) (set last (from_of links edge) (Some edge)) (before ++ x ∷ [])
  built_more nodes edge last before x within built read = record {
    node_count = length-set last (from_of links edge) (Some edge) ∙ built.node_count;
    edge_count = length-append before (x ∷ []) ∙ ap (λ n. n + 1) built.edge_count;
    ends = λ n lt. elim (cases_eq n (from_of links edge)) [
      | inl here ↦ subst (λ m. IsLastBelow links m (edge + 1) (get_or (set last (from_of links edge) (Some edge)) m None)) (sym here)
          (subst (IsLastBelow links (from_of links edge) (edge + 1)) (sym (get_or-set_same last (from_of links edge) (Some edge) None (omega (arith, built.node_count)))) (last_here (from_of links edge) edge refl))
      | inr there ↦ subst (IsLastBelow links n (edge + 1)) (sym (get_or-set_other last (from_of links edge) n (Some edge) None there))
          (last_on n edge (get_or last n None) (built.ends n lt) (λ same. there (sym same)))
    ];
    goes_on = λ e lt. elim (cases_lt e edge) [
      | inl before' ↦ subst (IsLastBelow links (from_of links e) e) (sym (get_or-append before (x ∷ []) None e (omega (arith, built.edge_count)))) (built.goes_on e before')
      | inr after ↦
          let same : edge ≡ e = omega arith in
          subst (λ i. IsLastBelow links (from_of links i) i (get_or (before ++ x ∷ []) i None)) same
          (subst (IsLastBelow links (from_of links edge) edge) (sym read ∙ sym (get_or_push before x None edge built.edge_count)) (built.ends (from_of links edge) within))
    ];
  }

  pub built_all : (nodes edge : ℕ) (last before : List (Option ℕ)) → IsBuilt nodes edge last before → edge ≡ length links → IsIndex links nodes last before
  built_all nodes edge last before built all = record {
    node_count = built.node_count;
    edge_count = built.edge_count ∙ all;
    ends = λ n lt. subst (λ e. IsLastBelow links n e (get_or last n None)) all (built.ends n lt);
    goes_on = λ e lt. built.goes_on e (subst (λ k. e < k) (sym all) lt);
  }
