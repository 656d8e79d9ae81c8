-- Upper bounds of lists that grow, and of joins.
use Rattle.std.proofs.Common.{◌≡◌, refl, sym, ap, subst, ◌∙◌, ℕ, ◌+◌, ◌*◌, ◌<◌, ◌≤◌, List, [], ◌∷◌, ◌++◌, length, take}
use Rattle.std.proofs.Common.{get_or, zero, suc, arith}
use Rattle.std.proofs.lemmas.List.{take_all}
use Rattle.std.proofs.Math.Seq.{take-suc}
use Rattle.std.specs.Prelude.{Option, Some, None}
use Rattle.std.specs.Option.{option_map}
use Rattle.tm_lattice.specs.LatticeLaws.{IsOrder, IsJoin}
use Rattle.table_covers.specs.declared.links.Link.{Link}
use Rattle.table_covers.specs.Systems.{from_of}
use Rattle.table_covers.specs.Solutions.{NodeTable}
use Rattle.table_covers.specs.Passes.{with_added, added_below}
use Rattle.edge_contributions.specs.reading.Bounds.{AreValues, AreBelow, IsLeastAbove, HaveSameBounds, AddTo}

module _ {V : Type 0} (is_value : V → Type 0) (leq : V → V → Type 0) (joined : V → V → V)
    (order : IsOrder is_value leq) (laws : IsJoin is_value leq joined) where
  -- ## Lists one behind the other

  below_both : (xs ys : List V) (z : V) → AreBelow is_value leq xs z → AreBelow is_value leq ys z
      → AreBelow is_value leq (xs ++ ys) z
  below_both [] ys z a b = b
  below_both (x ∷ xs) ys z a b = (a.0, below_both xs ys z a.1 b)

  below_first : (xs ys : List V) (z : V) → AreBelow is_value leq (xs ++ ys) z → AreBelow is_value leq xs z
  below_first [] ys z a = tt
  below_first (x ∷ xs) ys z a = (a.0, below_first xs ys z a.1)

  below_second : (xs ys : List V) (z : V) → AreBelow is_value leq (xs ++ ys) z → AreBelow is_value leq ys z
  below_second [] ys z a = a
  below_second (x ∷ xs) ys z a = below_second xs ys z a.1

  values_both : (xs ys : List V) → AreValues is_value leq xs → AreValues is_value leq ys
      → AreValues is_value leq (xs ++ ys)
  values_both [] ys a b = b
  values_both (x ∷ xs) ys a b = (a.0, values_both xs ys a.1 b)

  -- what lies below a value lies below what is greater
  below_more : (xs : List V) (y z : V) → AreValues is_value leq xs → is_value y → is_value z → leq y z
      → AreBelow is_value leq xs y → AreBelow is_value leq xs z
  below_more [] y z v is_y is_z l b = tt
  below_more (x ∷ xs) y z v is_y is_z l b =
      (order.transitive x y z v.0 is_y is_z b.0 l, below_more xs y z v.1 is_y is_z l b.1)

  -- ## The same upper bounds

  pub same_none : HaveSameBounds is_value leq [] []
  same_none = record { values = tt; forth = λ z is b. b; back = λ z is b. b }

  pub same_self : (xs : List V) → AreValues is_value leq xs → HaveSameBounds is_value leq xs xs
  same_self xs v = record { values = v; forth = λ z is b. b; back = λ z is b. b }

  pub same_again : (xs ys zs : List V) → HaveSameBounds is_value leq xs ys → HaveSameBounds is_value leq ys zs
      → HaveSameBounds is_value leq xs zs
  same_again xs ys zs h g = record {
    values = g.values;
    forth = λ z is b. g.forth z is (h.forth z is b);
    back = λ z is b. h.back z is (g.back z is b);
  }

  -- with the join of two more
  pub same_pair : (xs ys : List V) (x y : V) → HaveSameBounds is_value leq xs ys → is_value x → is_value y
      → HaveSameBounds is_value leq (xs ++ x ∷ y ∷ []) (ys ++ joined x y ∷ [])
  same_pair xs ys x y h is_x is_y =
      let both = laws.value x y is_x is_y in record {
        values = values_both ys (joined x y ∷ []) h.values (both, tt);
        forth = λ z is b.
            let two = below_second xs (x ∷ y ∷ []) z b in
            below_both ys (joined x y ∷ []) z (h.forth z is (below_first xs (x ∷ y ∷ []) z b))
            (laws.least x y z is_x is_y is two.0 two.1.0, tt);
        back = λ z is b.
            let top = (below_second ys (joined x y ∷ []) z b).0 in
            below_both xs (x ∷ y ∷ []) z (h.back z is (below_first ys (joined x y ∷ []) z b)) (
              order.transitive x (joined x y) z is_x both is (laws.left x y is_x is_y) top,
              (order.transitive y (joined x y) z is_y both is (laws.right x y is_x is_y) top, tt),
            );
      }

  -- with one more
  pub same_one : (xs ys : List V) (x : V) → HaveSameBounds is_value leq xs ys → is_value x
      → HaveSameBounds is_value leq (xs ++ x ∷ []) (ys ++ x ∷ [])
  same_one xs ys x h is_x = record {
    values = values_both ys (x ∷ []) h.values (is_x, tt);
    forth = λ z is b. below_both ys (x ∷ []) z (h.forth z is (below_first xs (x ∷ []) z b)) (below_second xs (x ∷ []) z b);
    back = λ z is b. below_both xs (x ∷ []) z (h.back z is (below_first ys (x ∷ []) z b)) (below_second ys (x ∷ []) z b);
  }

  -- ## The least upper bound

  pub least_one : (x : V) → is_value x → IsLeastAbove is_value leq (x ∷ []) x
  least_one x is = record { value = is; above = (order.reflexive x is, tt); least = λ z is_z b. b.0 }

  pub least_more : (xs : List V) (all y : V) → AreValues is_value leq xs → IsLeastAbove is_value leq xs all → is_value y
      → IsLeastAbove is_value leq (xs ++ y ∷ []) (joined all y)
  least_more xs all y v h is =
      let both = laws.value all y h.value is in record {
        value = both;
        above = below_both xs (y ∷ []) (joined all y)
            (below_more xs all (joined all y) v h.value both (laws.left all y h.value is) h.above)
            (laws.right all y h.value is, tt);
        least = λ z is_z b. laws.least all y z h.value is is_z (h.least z is_z (below_first xs (y ∷ []) z b))
            (below_second xs (y ∷ []) z b).0;
      }

  pub least_same : (xs ys : List V) (more all : V) → HaveSameBounds is_value leq xs ys
      → IsLeastAbove is_value leq (more ∷ ys) all → IsLeastAbove is_value leq (more ∷ xs) all
  least_same xs ys more all h l = record {
    value = l.value;
    above = (l.above.0, h.back all l.value l.above.1);
    least = λ z is b. l.least z is (b.0, h.forth z is b.1);
  }

  -- ## What adds up

  pub add_none : (nothing : V) → is_value nothing → AddTo is_value leq nothing nothing []
  add_none nothing is = record {
    is = is;
    values = tt;
    above = (order.reflexive nothing is, tt);
    least = λ z is_z b. b.0;
  }

  pub add_more : (nothing total : V) (xs : List V) (y : V) → is_value nothing → AddTo is_value leq nothing total xs
      → is_value y → AddTo is_value leq nothing (joined total y) (xs ++ y ∷ [])
  add_more nothing total xs y is_nothing h is =
      let both = laws.value total y h.is is in record {
        is = both;
        values = values_both xs (y ∷ []) h.values (is, tt);
        above = below_both (nothing ∷ xs) (y ∷ []) (joined total y)
            (below_more (nothing ∷ xs) total (joined total y) (is_nothing, h.values) h.is both
            (laws.left total y h.is is) h.above) (laws.right total y h.is is, tt);
        least = λ z is_z b. laws.least total y z h.is is is_z (h.least z is_z (below_first (nothing ∷ xs) (y ∷ []) z b))
            (below_second (nothing ∷ xs) (y ∷ []) z b).0;
      }

  -- what adds up to the value is its least upper bound
  pub add_one : (nothing total top : V) (xs : List V) → AddTo is_value leq nothing total xs
      → IsLeastAbove is_value leq (nothing ∷ xs) top → top ≡ total
  add_one nothing total top xs h l =
      order.antisymmetric top total l.value h.is (l.least total h.is h.above) (h.least top l.value l.above)

  -- ## Values of lists

  take_one : (xs : List V) (i : ℕ) (x : V) → i < length xs → x ≡ get_or xs i x → take (i + 1) xs ≡ take i xs ++ x ∷ []
  take_one xs i x l e =
      let s : i + 1 ≡ suc i = omega arith in
      ap (λ n. take n xs) s ∙ take-suc xs i x l ∙ ap (λ y. take i xs ++ y ∷ []) (sym e)

  pub value_at : (xs : List V) (i : ℕ) (x : V) → AreValues is_value leq xs → i < length xs → x ≡ get_or xs i x
      → is_value x
  value_at [] i x v l e = absurd (omega (arith, l))
  value_at (y ∷ ys) zero x v l e = subst is_value (sym e) v.0
  value_at (y ∷ ys) (suc i) x v l e = value_at ys i x v.1 (omega (arith, l)) e

  pub pairs_more : (xs pairs : List V) (i : ℕ) (x y : V) → AreValues is_value leq xs → 2 * i + 1 < length xs
      → x ≡ get_or xs (2 * i) x → y ≡ get_or xs (2 * i + 1) y
      → HaveSameBounds is_value leq (take (2 * i) xs) pairs
      → HaveSameBounds is_value leq (take (2 * (i + 1)) xs) (pairs ++ joined x y ∷ [])
  pairs_more xs pairs i x y v l is_x is_y h =
      let first : 2 * i < length xs = omega (arith, l) in
      let more = same_pair (take (2 * i) xs) pairs x y h (value_at xs (2 * i) x v first is_x)
      (value_at xs (2 * i + 1) y v l is_y) in
      let n : 2 * i + 1 + 1 ≡ 2 * (i + 1) = omega arith in
      let both : take (2 * i) xs ++ x ∷ y ∷ [] ≡ take (2 * (i + 1)) xs =
      behind (take (2 * i) xs) x y
      ∙ ap (λ zs. zs ++ y ∷ []) (sym (take_one xs (2 * i) x first is_x))
      ∙ sym (take_one xs (2 * i + 1) y l is_y) ∙ ap (λ k. take k xs) n in
      subst (λ zs. HaveSameBounds is_value leq zs (pairs ++ joined x y ∷ [])) both more
    where
      behind : (zs : List V) (a b : V) → zs ++ a ∷ b ∷ [] ≡ (zs ++ a ∷ []) ++ b ∷ []
      behind [] a b = refl
      behind (z ∷ zs) a b = ap (λ ws. z ∷ ws) (behind zs a b)

  pub pairs_last : (xs pairs : List V) (i : ℕ) (x : V) → AreValues is_value leq xs → 2 * i + 1 ≡ length xs
      → x ≡ get_or xs (2 * i) x → HaveSameBounds is_value leq (take (2 * i) xs) pairs
      → HaveSameBounds is_value leq xs (pairs ++ x ∷ [])
  pairs_last xs pairs i x v n is h =
      let l : 2 * i < length xs = omega (arith, n) in
      let more = same_one (take (2 * i) xs) pairs x h (value_at xs (2 * i) x v l is) in
      let all : take (2 * i) xs ++ x ∷ [] ≡ xs =
      sym (take_one xs (2 * i) x l is) ∙ take_all (2 * i + 1) xs (omega (arith, n)) in
      subst (λ zs. HaveSameBounds is_value leq zs (pairs ++ x ∷ [])) all more

  pub pairs_all : (xs pairs : List V) (i : ℕ) → length xs ≤ 2 * i
      → HaveSameBounds is_value leq (take (2 * i) xs) pairs → HaveSameBounds is_value leq xs pairs
  pairs_all xs pairs i l h = subst (λ zs. HaveSameBounds is_value leq zs pairs) (take_all (2 * i) xs l) h

  values_front : (xs : List V) (n : ℕ) → AreValues is_value leq xs → AreValues is_value leq (take n xs)
  values_front xs zero v = tt
  values_front [] (suc n) v = tt
  values_front (x ∷ xs) (suc n) v = (v.0, values_front xs n v.1)

  pub least_next : (more : V) (xs : List V) (i : ℕ) (x all : V) → is_value more → AreValues is_value leq xs
      → i < length xs → x ≡ get_or xs i x → IsLeastAbove is_value leq (more ∷ take i xs) all
      → IsLeastAbove is_value leq (more ∷ take (i + 1) xs) (joined all x)
  least_next more xs i x all is v l e h =
      subst (λ zs. IsLeastAbove is_value leq (more ∷ zs) (joined all x)) (sym (take_one xs i x l e))
      (least_more (more ∷ take i xs) all x (is, values_front xs i v) h (value_at xs i x v l e))

  -- ## What edges contribute

  module _ {S : Type 0} (links : List Link) (nothing : V) (contributed : ℕ → S → V) (table : NodeTable S)
      (is_nothing : is_value nothing) (least : (x : V) → is_value x → leq nothing x) where
    neutral : (x : V) → is_value x → joined x nothing ≡ x
    neutral x is =
        let both = laws.value x nothing is is_nothing in
        order.antisymmetric (joined x nothing) x both is
        (laws.least x nothing x is is_nothing is (order.reflexive x is) (least x is)) (laws.left x nothing is is_nothing)

    abbrev total : ℕ → V
    total k = added_below links nothing contributed joined k table

    next : (e : ℕ) (found : Option S) → table (from_of links e) ≡ found
        → with_added links nothing contributed joined e (total e) found ≡ total (e + 1)
    next e found h =
        let s : suc e ≡ e + 1 = omega arith in
        ap (λ f. with_added links nothing contributed joined e (total e) f) (sym h) ∙ ap total s

    -- an edge that contributes nothing
    pub add_marked : (e : ℕ) (xs : List V) → ((s : S) → contributed e s ≡ nothing)
        → AddTo is_value leq nothing (total e) xs → AddTo is_value leq nothing (total (e + 1)) xs
    add_marked e xs none h = by_state (table (from_of links e)) refl
      where
        by_state : (found : Option S) → table (from_of links e) ≡ found
            → AddTo is_value leq nothing (total (e + 1)) xs
        by_state None f = subst (λ t. AddTo is_value leq nothing t xs) (next e None f) h
        by_state (Some s) f = subst (λ t. AddTo is_value leq nothing t xs)
            (sym (ap (joined (total e)) (none s) ∙ neutral (total e) h.is) ∙ next e (Some s) f) h

    -- an edge that leaves a node without a state
    pub add_without : (e : ℕ) (xs : List V) (found : Option V)
        → found ≡ option_map (contributed e) (table (from_of links e)) → found ≡ None
        → AddTo is_value leq nothing (total e) xs → AddTo is_value leq nothing (total (e + 1)) xs
    add_without e xs found is none h = by_state (table (from_of links e)) refl (sym none ∙ is)
      where
        by_state : (state : Option S) → table (from_of links e) ≡ state
            → None ≡ option_map (contributed e) (table (from_of links e))
            → AddTo is_value leq nothing (total (e + 1)) xs
        by_state None f g = subst (λ t. AddTo is_value leq nothing t xs) (next e None f) h
        by_state (Some s) f g = absurd (apart (g ∙ ap (option_map (contributed e)) f))
          where
            apart : {A : Type 0} {a : A} → None ≡ Some a → ⊥
            apart e = cc

    -- an edge that contributes
    pub add_with : (e : ℕ) (xs : List V) (found : Option V) (more : V)
        → found ≡ option_map (contributed e) (table (from_of links e)) → found ≡ Some more → is_value more
        → AddTo is_value leq nothing (total e) xs → AddTo is_value leq nothing (total (e + 1)) (xs ++ more ∷ [])
    add_with e xs found more is some is_more h = by_state (table (from_of links e)) refl (sym some ∙ is)
      where
        by_state : (state : Option S) → table (from_of links e) ≡ state
            → Some more ≡ option_map (contributed e) (table (from_of links e))
            → AddTo is_value leq nothing (total (e + 1)) (xs ++ more ∷ [])
        by_state None f g = absurd (apart (g ∙ ap (option_map (contributed e)) f))
          where
            apart : {A : Type 0} {a : A} → Some a ≡ None → ⊥
            apart e = cc
        by_state (Some s) f g =
            let same : more ≡ contributed e s = inner (g ∙ ap (option_map (contributed e)) f) in
            subst (λ t. AddTo is_value leq nothing t (xs ++ more ∷ []))
            (ap (joined (total e)) same ∙ next e (Some s) f)
            (add_more nothing (total e) xs more is_nothing h is_more)
          where
            inner : {a b : V} → Some a ≡ Some b → a ≡ b
            inner e = cc
