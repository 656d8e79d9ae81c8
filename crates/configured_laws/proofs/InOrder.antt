-- Lists of which elements stand in order and none stands twice, with the elements of other lists.
use Rattle.std.specs.Prelude.{◌≡◌, ◌⊎◌, suc, ◌≤◌, List, [], ◌∷◌, length, AllPairs, Contains}
use Rattle.std.proofs.Common.{sym, subst, inl, inr, arith}
use Rattle.std.proofs.lemmas.List.Elements.{All-nil}
use Rattle.std.proofs.lemmas.List.Kept.{AllPairs-cons}
use Rattle.configured_laws.proofs.Lists.{first_or, behind, first, none_in, all_of, after, rest}

-- elements stand in an order in which of two that differ one comes before the other
module _ {X : Type 0} (R : X → X → Type 0) (by : (x y : X) → R x y ⊎ ((x ≡ y) ⊎ R y x))
    (through : (x y z : X) → R x y → R y z → R x z) where
  -- a list in order with one more element
  record IsWith (x : X) (xs ys : List X) : Type 0 where
    pairs : AllPairs R ys
    here : Contains ys x
    kept : (z : X) → Contains xs z → Contains ys z
    only : (z : X) → Contains ys z → (x ≡ z) ⊎ Contains xs z
    long : length ys ≤ suc (length xs)

  put : (x : X) (xs : List X) → AllPairs R xs → (ys : List X) × IsWith x xs ys
  put x [] pairs = (
    x ∷ [],
    record {
      pairs = AllPairs-cons R x [] (All-nil (R x)) pairs;
      here = first x [];
      kept = λ z c. absurd (none_in z c);
      only = λ z c. first_or x [] z c;
      long = omega arith;
    },
  )
  put x (y ∷ xs) pairs = place (put x xs (rest R y xs pairs)) (by x y)
    where
      place : (ys : List X) × IsWith x xs ys → R x y ⊎ ((x ≡ y) ⊎ R y x) → (ys : List X) × IsWith x (y ∷ xs) ys
      place r (inl before) =
          let all : (z : X) → Contains (y ∷ xs) z → R x z =
          λ z c. elim (first_or y xs z c) [
            | inl e ↦ subst (R x) e before
            | inr d ↦ through x y z before (after R y xs z pairs d)
          ] in (
            x ∷ y ∷ xs,
            record {
              pairs = AllPairs-cons R x (y ∷ xs) (all_of (R x) (y ∷ xs) all) pairs;
              here = first x (y ∷ xs);
              kept = λ z c. behind x (y ∷ xs) z c;
              only = λ z c. first_or x (y ∷ xs) z c;
              long = omega arith;
            },
          )
      place r (inr (inl same)) = (
        y ∷ xs,
        record {
          pairs = pairs;
          here = subst (Contains (y ∷ xs)) (sym same) (first y xs);
          kept = λ z c. c;
          only = λ z c. inr c;
          long = omega arith;
        },
      )
      place r (inr (inr later)) =
          let ys : List X = r.0 in
          let is : IsWith x xs ys = r.1 in
          let all : (z : X) → Contains ys z → R y z =
          λ z c. elim (is.only z c) [
            | inl e ↦ subst (R y) e later
            | inr d ↦ after R y xs z pairs d
          ] in (
            y ∷ ys,
            record {
              pairs = AllPairs-cons R y ys (all_of (R y) ys all) is.pairs;
              here = behind y ys x is.here;
              kept = λ z c. elim (first_or y xs z c) [
                | inl e ↦ subst (Contains (y ∷ ys)) e (first y ys)
                | inr d ↦ behind y ys z (is.kept z d)
              ];
              only = λ z c. elim (first_or y ys z c) [
                | inl e ↦ inr (subst (Contains (y ∷ xs)) e (first y xs))
                | inr d ↦ elim (is.only z d) [
                  | inl f ↦ inl f
                  | inr f ↦ inr (behind y xs z f)
                ]
              ];
              long = (let l = is.long in omega (arith, l));
            },
          )

  -- the elements of a list in order
  pub record AreOrdered (xs ys : List X) : Type 0 where
    pub pairs : AllPairs R ys
    pub kept : (z : X) → Contains xs z → Contains ys z
    pub only : (z : X) → Contains ys z → Contains xs z
    pub long : length ys ≤ length xs

  pub ordered : (xs : List X) → (ys : List X) × AreOrdered xs ys
  ordered [] = (
    [],
    record {
      pairs = λ i j d lt within. absurd (omega (arith, within));
      kept = λ z c. c;
      only = λ z c. c;
      long = omega arith;
    },
  )
  ordered (x ∷ xs) =
      let r = ordered xs in
      let ys : List X = r.0 in
      let is : AreOrdered xs ys = r.1 in
      let s = put x ys is.pairs in
      let zs : List X = s.0 in
      let one : IsWith x ys zs = s.1 in (
        zs,
        record {
          pairs = one.pairs;
          kept = λ z c. elim (first_or x xs z c) [
            | inl e ↦ subst (Contains zs) e one.here
            | inr d ↦ one.kept z (is.kept z d)
          ];
          only = λ z c. elim (one.only z c) [
            | inl e ↦ subst (Contains (x ∷ xs)) e (first x xs)
            | inr d ↦ behind x xs z (is.only z d)
          ];
          long = (let l = is.long in let m = one.long in omega (arith, l, m));
        },
      )
