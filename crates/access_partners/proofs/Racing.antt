-- Points and which of them race.
use Rattle.std.proofs.Common.{◌≡◌, ◌↔◌, ℕ, ◌+◌, ◌<◌, ◌≤◌, ◌==◌, refl, ap, sym, subst, ◌∙◌, inl, inr, true, false}
use Rattle.std.proofs.Common.{◌&&◌, List, [], ◌∷◌, length, get_or, arith}
use Rattle.std.specs.Prelude.{Contains}
use Rattle.std.specs.Cmp.Lexicographic.{pointwise}
use Rattle.std.specs.List.{dedup}
use Rattle.std.specs.List.Sorted.{IsStrictlySortedBy, IsSorted, IsPermutation}
use Rattle.std.specs.List.Retain.{IsFiltered, DiffersFromLast}
use Rattle.std.specs.Ordering.{nat_cmp, ordering_then, is_eq, MatchOrdering}
use Rattle.std.specs.declared.cmp.Ordering.{Ordering}
use Rattle.std.specs.declared.cmp.Ordering.TheVariants.{Less, Equal, Greater}
use Rattle.std.proofs.lemmas.Bool.{true≢false, cases_eq, cases_lt, and_parts}
use Rattle.std.proofs.lemmas.Cmp.{ranked}
use Rattle.std.proofs.lemmas.Nat.{and_comm}
use Rattle.std.proofs.lemmas.List.{get_or_default}
use Rattle.std.proofs.lemmas.List.Filters.{dedup_is}
use Rattle.std.proofs.lemmas.List.Kept.{IsStrictlySortedBy-dedup, Contains-dedup, Contains-from_dedup}
use Rattle.std.proofs.lemmas.List.Sorted.{Contains-permutation, IsPermutation-sym}
use Rattle.std.proofs.lemmas.Map.Keys.{Less-from_sorted}
use Rattle.access_races.specs.declared.accesses.Way.{Way}
use Rattle.access_races.specs.Races.{is_unhindered, do_race}
use Rattle.access_races.proofs.Decided.{race_from, race_is}
use Rattle.access_races.proofs.Joins.{either}
use Rattle.access_groups.specs.declared.object_access.ObjectAccess.{ObjectAccess}
use Rattle.access_partners.specs.declared.points.Point.{Point}
use Rattle.access_groups.specs.declared.site.Site.{Site}
use Rattle.access_partners.specs.contracts.points.PointOrd.TheImpl.{cmp-value}
use Rattle.access_partners.specs.contracts.points.PointOrd.TheImpl.Laws.{total-law, matches_eq-law}
use Rattle.access_partners.specs.contracts.points.PointPartialEq.TheImpl.{eq-value}
use Rattle.access_partners.specs.contracts.points.PointEq.TheImpl.Laws.{laws-law}
use Rattle.access_partners.specs.reading.Points.{no_point, way_at, IsPointOf, AreByCells, ArePointsOf, IsFirstFrom, Meets}
use Rattle.access_partners.specs.reading.Points.{DoMeet, may_race}
use Rattle.access_partners.proofs.Lists.{has_at}

-- ## Sorting

cells_by : (a b : Point) (r s : Ordering) → MatchOrdering r (a.cell < b.cell) (a.cell ≡ b.cell) (b.cell < a.cell)
    → ordering_then r s ≡ Less → a.cell ≤ b.cell
cells_by a b Less s m e = omega (arith, m)
cells_by a b Equal s m e = omega (arith, m)
cells_by a b Greater s m e = absurd cc

cells_rise : (a b : Point) → cmp-value.it a b ≡ Less → a.cell ≤ b.cell
cells_rise a b e =
    cells_by a b (nat_cmp a.cell b.cell) (ordering_then (nat_cmp a.found b.found) (nat_cmp a.priority b.priority))
    (ranked a.cell b.cell (nat_cmp a.cell b.cell) refl) e

same_by : (a b : Point) (r s t : Ordering) → MatchOrdering r (a.cell < b.cell) (a.cell ≡ b.cell) (b.cell < a.cell)
    → MatchOrdering s (a.found < b.found) (a.found ≡ b.found) (b.found < a.found)
    → MatchOrdering t (a.priority < b.priority) (a.priority ≡ b.priority) (b.priority < a.priority)
    → is_eq (ordering_then r (ordering_then s t)) ≡ true → a ≡ b
same_by a b Equal Equal Equal m n o e = λ i. record { cell = m i; found = n i; priority = o i }
same_by a b Less s t m n o e = absurd cc
same_by a b Greater s t m n o e = absurd cc
same_by a b Equal Less t m n o e = absurd cc
same_by a b Equal Greater t m n o e = absurd cc
same_by a b Equal Equal Less m n o e = absurd cc
same_by a b Equal Equal Greater m n o e = absurd cc

same_point : (a b : Point) → eq-value.it a b ≡ true → a ≡ b
same_point a b e =
    same_by a b (nat_cmp a.cell b.cell) (nat_cmp a.found b.found) (nat_cmp a.priority b.priority)
    (ranked a.cell b.cell (nat_cmp a.cell b.cell) refl) (ranked a.found b.found (nat_cmp a.found b.found) refl)
    (ranked a.priority b.priority (nat_cmp a.priority b.priority) refl) (sym (matches_eq-law a b) ∙ e)

-- equal lists by the test of their elements
pub same_points : (these those : List Point) → pointwise eq-value.it these those ≡ true → these ≡ those
same_points [] [] e = refl
same_points [] (q ∷ those) e = absurd (true≢false (sym e))
same_points (q ∷ these) [] e = absurd (true≢false (sym e))
same_points (q ∷ these) (r ∷ those) e =
    let parts = and_parts (eq-value.it q r) (pointwise eq-value.it these those) e in
    let head = same_point q r parts.0 in
    let rest = same_points these those parts.1 in
    λ i. head i ∷ rest i

by_cells : (points : List Point) → IsStrictlySortedBy cmp-value.it points → AreByCells points
by_cells points sorted i j d le lt =
    either (λ (same : i ≡ j). let e = ap (λ n. (get_or points n d).cell) same in omega (arith, e))
    (λ other. cells_rise (get_or points i d) (get_or points j d)
    (Less-from_sorted cmp-value.it points i j d sorted (omega (arith, le, other)) lt)) (cases_eq i j)

module _ (given sorted once : List Point) (moved : IsPermutation given sorted) (is : IsSorted cmp-value.it sorted)
    (filtered : IsFiltered (DiffersFromLast eq-value.it) [] sorted once) (sites : List Site)
    (same : (q : Point) → Contains given q ↔ IsPointOf sites q) where
  once_is : once ≡ dedup eq-value.it sorted
  once_is = dedup_is eq-value.it sorted once filtered

  pub points_are : ArePointsOf sites once
  points_are = record {
    rising = by_cells once (subst (IsStrictlySortedBy cmp-value.it) (sym once_is)
        (IsStrictlySortedBy-dedup total-law matches_eq-law sorted is));
    exact = λ q. (
      λ h. (same q).0 (Contains-permutation sorted given q (IsPermutation-sym given sorted moved)
          (Contains-from_dedup eq-value.it sorted q (subst (λ l. Contains l q) once_is h))),
      λ h. subst (λ l. Contains l q) (sym once_is)
          (Contains-dedup laws-law same_point sorted q (Contains-permutation given sorted q moved ((same q).1 h))),
    );
  }

-- ## Halving

module _ (points : List Point) (rising : AreByCells points) (cell m : ℕ) (within : m < length points) where
  pub below_middle : (let q = get_or points m no_point in q.cell < cell) → (k : ℕ) → k < m + 1
      → (let q = get_or points k no_point in q.cell < cell)
  below_middle h k lt = let le = rising k m no_point (omega (arith, lt)) within in omega (arith, le, h)

  pub above_middle : (let q = get_or points m no_point in cell ≤ q.cell) → (k : ℕ) → m ≤ k → k < length points
      → (let q = get_or points k no_point in cell ≤ q.cell)
  above_middle h k le lt = let up = rising m k no_point le lt in omega (arith, up, h)

-- ## Races

races_back : (v w : Way) → do_race v w ≡ true → do_race w v ≡ true
races_back v w h =
    let r = race_from v w h in
    race_is w v (record {
      tasks = λ same. r.tasks (sym same);
      writes = either (λ one. inr one) (λ other. inl other) r.writes;
      apart = ap (λ n. n == 0) (and_comm w.held v.held) ∙ r.apart;
      forth = r.back;
      back = r.forth;
    })

-- two race where the other one does
pub meet_back : (e f : ObjectAccess) (these those : List Point) → DoMeet f those e these → DoMeet e these f those
meet_back e f these those h =
    let q = h.is.one in record {
      one = q;
      has = h.is.has;
      is = record {
        one = h.one;
        has = h.has;
        is = (sym h.is.is.0, races_back (way_at f h.one) (way_at e q) h.is.is.1);
      };
    }

-- where they cannot race, no points do
pub never_meet : (e f : ObjectAccess) (these those : List Point) → may_race e f ≡ false → DoMeet e these f those → ⊥
never_meet e f these those cannot h =
    let v = way_at e h.one in
    let w = way_at f h.is.one in
    let four = (and_parts (may_race e f && is_unhindered v w) (is_unhindered w v) h.is.is.1).0 in
    true≢false (sym (and_parts (may_race e f) (is_unhindered v w) four).0 ∙ cannot)

-- ## Points of the other one

-- none of the first points of another races with an access to the cell in this way
abbrev pub NoneOf : Way → ℕ → ObjectAccess → List Point → ℕ → Type 0
NoneOf w cell other points i = (k : ℕ) → k < i → (let q = get_or points k no_point in q.cell ≡ cell)
    → do_race w (way_at other (get_or points k no_point)) ≡ true → ⊥

module _ (w : Way) (cell : ℕ) (other : ObjectAccess) (points : List Point) (rising : AreByCells points) (n : ℕ)
    (first : IsFirstFrom points cell n) where
  pub none_below : NoneOf w cell other points n
  none_below k lt same race = absurd (let below = first.before k lt in omega (arith, below, same))

  pub none_more : (i : ℕ) → NoneOf w cell other points i → do_race w (way_at other (get_or points i no_point)) ≡ false → NoneOf w cell other points (i + 1)
  none_more i none differs k lt same race =
      either
      (λ (here : k ≡ i). true≢false (sym (subst (λ m. do_race w (way_at other (get_or points m no_point)) ≡ true) here
      race) ∙ differs))
      (λ before. none k (omega (arith, lt, before)) same race) (cases_eq k i)

  -- what stands at a number
  stands : (h : Meets w cell other points) → get_or points h.has.0 no_point ≡ h.one
  stands h = get_or_default points h.has.0 no_point h.one h.has.1 ∙ h.has.2

  cell_there : (h : Meets w cell other points) → (let q = get_or points h.has.0 no_point in q.cell ≡ cell)
  cell_there h = ap (λ (q : Point). q.cell) (stands h) ∙ h.is.0

  race_there : (h : Meets w cell other points) → do_race w (way_at other (get_or points h.has.0 no_point)) ≡ true
  race_there h = ap (λ q. do_race w (way_at other q)) (stands h) ∙ h.is.1

  pub none_at_end : NoneOf w cell other points (length points) → Meets w cell other points → ⊥
  none_at_end none h = none h.has.0 h.has.1 (cell_there h) (race_there h)

  -- behind another cell there is none
  pub none_behind : (i : ℕ) → n ≤ i → i < length points → NoneOf w cell other points i
      → ((let q = get_or points i no_point in q.cell ≡ cell) → ⊥) → Meets w cell other points → ⊥
  none_behind i le lt none differs h =
      let k = h.has.0 in
      let there = cell_there h in
      either (λ before. none k before there (race_there h))
      (λ behind. let up = rising i k no_point behind h.has.1 in
      let from = first.after i le lt in
      differs (omega (arith, up, from, there))) (cases_lt k i)

  pub meets_at : (i : ℕ) → i < length points → (let q = get_or points i no_point in q.cell ≡ cell)
      → do_race w (way_at other (get_or points i no_point)) ≡ true → Meets w cell other points
  meets_at i lt same race = record {
    one = get_or points i no_point;
    has = has_at points i no_point lt;
    is = (same, race);
  }

-- none of the first points, with one more
pub none_with : (Is : Point → Type 0) (points : List Point) (i : ℕ) → i < length points
    → ((k : ℕ) (q : Point) → k < i → get_or points k q ≡ q → Is q → ⊥) → (Is (get_or points i no_point) → ⊥) → (k : ℕ)
    (q : Point) → k < i + 1 → get_or points k q ≡ q → Is q → ⊥
none_with Is points i lt so_far not-here k q below e has =
    either
    (λ (same : k ≡ i). not-here
    (subst Is (sym e ∙ ap (λ m. get_or points m q) same ∙ get_or_default points i q no_point lt) has))
    (λ other. so_far k q (omega (arith, below, other)) e has) (cases_eq k i)
