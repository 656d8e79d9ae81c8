-- Origins are put at the numbers of their edges.
use Rattle.std.proofs.Common.{◌≡◌, ◌≢◌, ◌⊎◌, ℕ, ◌+◌, ◌<◌, List, [], ◌∷◌, ◌++◌, length, map, get_or, set}
use Rattle.std.proofs.Common.{Option, Some, None, take, refl, sym, ap, ◌∙◌, subst, inl, inr, arith}
use Rattle.std.specs.Prelude.{Contains, slice_get, is_some, false}
use Rattle.std.proofs.lemmas.Bool.{cases_eq, false≢true}
use Rattle.std.specs.List.{flat_map}
use Rattle.std.proofs.lemmas.List.{get_or-set_same, get_or-set_other, map_more}
use Rattle.std.proofs.lemmas.List.Elements.{Contains-append_left, Contains-append_right, Contains-append_cases}
use Rattle.std.proofs.lemmas.List.Elements.{Contains-push, Contains-push_cases}
use Rattle.edge_origins.specs.declared.origins.EdgeOrigin.{EdgeOrigin}
use Rattle.edge_origins.specs.reading.Edges.{AtEdge, at_edge, ArePut, AreAll}
use Rattle.edge_origins.proofs.Lists.{read_all, flat_more}

pub put_none : (old : List (Option EdgeOrigin)) → ArePut old old []
put_none old = record {
  are = λ n o e. inl e;
  kept = λ n o e. e;
  there = λ n o c. let k = c.0 in let h : k < 0 = c.1 in absurd (omega (arith, h));
}

-- one list is put behind another
pub put_behind : (old mid new : List (Option EdgeOrigin)) (xs ys : List AtEdge) → ArePut old mid xs
    → ArePut mid new ys → ArePut old new (xs ++ ys)
put_behind old mid new xs ys a b = record {
  are = λ n o e. elim (b.are n o e) as (λ _. (get_or old n None ≡ Some o) ⊎ Contains (xs ++ ys) (at_edge n o)) [
    | inl m ↦ elim (a.are n o m) as (λ _. (get_or old n None ≡ Some o) ⊎ Contains (xs ++ ys) (at_edge n o)) [
      | inl f ↦ inl f
      | inr c ↦ inr (Contains-append_left xs ys (at_edge n o) c)
    ]
    | inr c ↦ inr (Contains-append_right xs ys (at_edge n o) c)
  ];
  kept = λ n o e. b.kept n o (a.kept n o e);
  there = λ n o c. elim (Contains-append_cases xs ys (at_edge n o) c) as (λ _. get_or new n None ≡ Some o) [
    | inl h ↦ b.kept n o (a.there n o h)
    | inr h ↦ b.there n o h
  ];
}

pub put_next : {A : Type 0} (f : A → AtEdge) (xs : List A) (i : ℕ) (d : A) (old mid new : List (Option EdgeOrigin))
    → i < length xs → ArePut old mid (map f (take i xs)) → ArePut mid new (f (get_or xs i d) ∷ [])
    → ArePut old new (map f (take (i + 1) xs))
put_next f xs i d old mid new lt before one =
    subst (ArePut old new) (sym (map_more f xs i d lt))
    (put_behind old mid new (map f (take i xs)) (f (get_or xs i d) ∷ []) before one)

pub put_flat : {A : Type 0} (f : A → List AtEdge) (xs : List A) (i : ℕ) (d : A)
    (old mid new : List (Option EdgeOrigin)) → i < length xs → ArePut old mid (flat_map f (take i xs))
    → ArePut mid new (f (get_or xs i d)) → ArePut old new (flat_map f (take (i + 1) xs))
put_flat f xs i d old mid new lt before more =
    subst (ArePut old new) (sym (flat_more f xs i d lt))
    (put_behind old mid new (flat_map f (take i xs)) (f (get_or xs i d)) before more)

-- ## One edge

pub nothing_there : {A : Type 0} (o : Option A) → false ≡ is_some o → o ≡ None
nothing_there None e = refl
nothing_there (Some x) e = absurd (false≢true e)

-- a list of one element
only : (m n : ℕ) (p o : EdgeOrigin) → Contains (at_edge m p ∷ []) (at_edge n o) → at_edge m p ≡ at_edge n o
only m n p o c = elim (Contains-push_cases [] (at_edge m p) (at_edge n o) c) as (λ _. at_edge m p ≡ at_edge n o) [
  | inl h ↦ let k = h.0 in let lt : k < 0 = h.1 in absurd (omega (arith, lt))
  | inr e ↦ e
]

module _ (old : List (Option EdgeOrigin)) (m : ℕ) (p : EdgeOrigin) (lt : m < length old)
    (free : get_or old m None ≡ None) where
  abbrev after : List (Option EdgeOrigin)
  after = set old m (Some p)

  here : get_or after m None ≡ Some p
  here = get_or-set_same old m (Some p) None lt

  elsewhere : (n : ℕ) → n ≢ m → get_or after n None ≡ get_or old n None
  elsewhere n other = get_or-set_other old m n (Some p) None other

  -- it is one of those before, or the new one
  abbrev IsOld : ℕ → EdgeOrigin → Type 0
  IsOld n o = (get_or old n None ≡ Some o) ⊎ Contains (at_edge m p ∷ []) (at_edge n o)

  is_put : (n : ℕ) (o : EdgeOrigin) → get_or after n None ≡ Some o → IsOld n o
  is_put n o e = elim (cases_eq n m) as (λ _. IsOld n o) [
    | inl same ↦
        let at_m : get_or after m None ≡ Some o = ap (λ k. get_or after k None) (sym same) ∙ e in
        let both : Some p ≡ Some o = sym here ∙ at_m in
        let same_origin : p ≡ o = cc in
        let edge : at_edge m p ≡ at_edge n o = ap (λ k. at_edge k p) (sym same) ∙ ap (at_edge n) same_origin in
        let P : AtEdge → Type 0 = λ x. Contains (at_edge m p ∷ []) x in
        inr (subst P edge (Contains-push [] (at_edge m p)))
    | inr other ↦ inl (sym (elsewhere n other) ∙ e)
  ]

  is_kept : (n : ℕ) (o : EdgeOrigin) → get_or old n None ≡ Some o → get_or after n None ≡ Some o
  is_kept n o e = elim (cases_eq n m) as (λ _. get_or after n None ≡ Some o) [
    | inl same ↦
        let at_m : get_or old m None ≡ Some o = ap (λ k. get_or old k None) (sym same) ∙ e in
        let both : None ≡ Some o = sym free ∙ at_m in
        absurd cc
    | inr other ↦ elsewhere n other ∙ e
  ]

  is_there : (n : ℕ) (o : EdgeOrigin) → Contains (at_edge m p ∷ []) (at_edge n o) → get_or after n None ≡ Some o
  is_there n o c =
      let edge : at_edge m p ≡ at_edge n o = only m n p o c in
      let same : m ≡ n = ap (λ (x : AtEdge). x.number) edge in
      let same_origin : p ≡ o = ap (λ (x : AtEdge). x.origin) edge in
      ap (λ k. get_or after k None) (sym same) ∙ here ∙ ap Some same_origin

  pub put_one : (new : List (Option EdgeOrigin)) → new ≡ set old m (Some p) → ArePut old new (at_edge m p ∷ [])
  put_one new written =
      let P : List (Option EdgeOrigin) → Type 0 = λ l. ArePut old l (at_edge m p ∷ []) in
      subst P (sym written) record { are = is_put; kept = is_kept; there = is_there }

-- ## All edges

-- put where nothing is, these are all
pub put_all : (empty full : List (Option EdgeOrigin)) (origins : List EdgeOrigin) (put : List AtEdge)
    → ((n : ℕ) → get_or empty n None ≡ None) → ArePut empty full put → map Some origins ≡ full → AreAll origins put
put_all empty full origins put nothing are is =
    let at : (n : ℕ) → slice_get origins n ≡ get_or full n None =
    λ n. read_all origins n ∙ ap (λ l. get_or l n None) is in
    record {
      are = λ n o. (
        λ e. elim (are.are n o (sym (at n) ∙ e)) as (λ _. Contains put (at_edge n o)) [
          | inl before ↦ (let none : None ≡ Some o = sym (nothing n) ∙ before in absurd cc)
          | inr c ↦ c
        ],
        λ c. at n ∙ are.there n o c,
      );
    }
