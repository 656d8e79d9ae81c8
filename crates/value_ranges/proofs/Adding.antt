-- Places that are added one by one.
use Rattle.std.proofs.Common.{◌≡◌, ◌↔◌, ◌⊎◌, ℕ, ◌+◌, ◌<◌, ◌≤◌, ap, sym, subst, ◌∙◌, inl, inr, List, [], length}
use Rattle.std.proofs.Common.{get_or, true, false, Option, Some, None, is_some, Result, Ok, Err, IfOk, arith}
use Rattle.std.proofs.lemmas.List.{get_or_default}
use Rattle.std.specs.Prelude.{Contains}
use Rattle.tm_terms.specs.declared.places.Place.{Place}
use Rattle.flow_graph.specs.declared.graphs.Edge.{Edge}
use Rattle.flow_graph.specs.declared.graphs.Graph.{Graph}
use Rattle.mutex_configs.specs.declared.nodes.ConfiguredGraph.{ConfiguredGraph}
use Rattle.program_reports.specs.post_recheck.program_equations.Solutions.{table_at}
use Rattle.flow_graph.specs.declared.operations.Operation.{Operation}
use Rattle.flow_graph.specs.Graphs.{Edges}
use Rattle.mutex_configs.specs.declared.nodes.EdgeCopy.{EdgeCopy}
use Rattle.program_reports.specs.post_recheck.transfer_rows.StateForms.{State}
use Rattle.program_reports.specs.post_recheck.table_covers.Solutions.{at}
use Rattle.program_reports.specs.post_recheck.task_equations.Bodies.{no_edge, no_copy}
use Rattle.place_lists.specs.Order.{AreInOrder}
use Rattle.value_ranges.specs.Places.{ReachesAt}
use Rattle.value_ranges.specs.reading.Notes.{Below}
use Rattle.value_ranges.specs.reading.Reached.{AddsPlaces, IsOfGraphs, IsOfCopy, IsOfCopies, IsOfTables, IsLeft}
use Rattle.value_ranges.specs.reading.Reached.{AreLeftOut}
use Rattle.value_ranges.specs.reading.Reached.{edges_at, copies_at, AreCopiesIn, AreDeadIn}
use Rattle.value_ranges.proofs.Widening.{either, below_cases, below_before, below_here, none_below}

nothing_contained : (x : Place) → Contains [] x → ⊥
nothing_contained x (k, lt, e) = absurd (omega (arith, lt))

-- ## Loops

pub adds_nothing : (Q : Place → ℕ → Type 0) (xs : List Place) → AddsPlaces (λ q. Below (Q q) 0) xs xs
adds_nothing Q xs q = (λ h. inl h, λ h. either (λ c. c) (λ n. absurd (none_below (Q q) n)) h)

pub adds_more : (Q : Place → ℕ → Type 0) (i : ℕ) (xs ys zs : List Place) → AddsPlaces (λ q. Below (Q q) i) xs ys
    → AddsPlaces (λ q. Q q i) ys zs → AddsPlaces (λ q. Below (Q q) (i + 1)) xs zs
adds_more Q i xs ys zs a b q = (
  λ h. either (λ c. either (λ x. inl x) (λ x. inr (below_before (Q q) i x)) ((a q).0 c))
      (λ x. inr (below_here (Q q) i x)) ((b q).0 h),
  λ h. either (λ c. (b q).1 (inl ((a q).1 (inl c))))
      (λ n. either (λ x. (b q).1 (inl ((a q).1 (inr x)))) (λ x. (b q).1 (inr x)) (below_cases (Q q) i n)) h,
)

pub adds_same : (Q : Place → ℕ → Type 0) (i : ℕ) (xs ys : List Place) → AddsPlaces (λ q. Below (Q q) i) xs ys
    → ((q : Place) → Q q i → ⊥) → AddsPlaces (λ q. Below (Q q) (i + 1)) xs ys
adds_same Q i xs ys a none q = (
  λ h. either (λ x. inl x) (λ x. inr (below_before (Q q) i x)) ((a q).0 h),
  λ h. either (λ c. (a q).1 (inl c))
      (λ n. either (λ x. (a q).1 (inr x)) (λ x. absurd (none q x)) (below_cases (Q q) i n)) h,
)

-- places that come to none are all
pub adds_all : (P : Place → Type 0) (xs : List Place) → AddsPlaces P [] xs → (q : Place) → Contains xs q ↔ P q
adds_all P xs a q = (
  λ h. either (λ c. absurd (nothing_contained q c)) (λ p. p) ((a q).0 h),
  λ h. (a q).1 (inr h),
)

-- ## Places that are left out

-- what is true of two parts of an answer that is Ok
pub both_ok : {X E : Type 0} (A B C : X → Type 0) → ((x : X) → A x → B x → C x) → (r : Result X E) → IfOk r A → IfOk r B
    → IfOk r C
both_ok A B C f (Ok x) a b = f x a b
both_ok A B C f (Err e) a b = tt

pub left_out : (places others all left : List Place) (n : ℕ) → length places ≤ n
    → ((q : Place) → Contains all q ↔ Below (IsLeft places others q) n) → AreInOrder left
    → ((q : Place) → Contains left q ↔ Contains all q) → n ≤ length places → AreLeftOut places others left
left_out places others all left n le are sorted same ge = record {
  sorted = sorted;
  exact = λ q. (
    λ h. let b = (are q).0 ((same q).0 h) in ((b.0, (let lt = b.1 in omega (arith, lt, ge)), b.2.is), b.2.other),
    λ h. (same q).1 ((are q).1 (h.0.0, (let lt = h.0.1 in omega (arith, lt, le)), record { is = h.0.2; other = h.1 })),
  );
}

-- ## Operations

Some_place : (p q : Place) → Some p ≡ Some q → p ≡ q
Some_place p q e = cc

module _ (op : Operation) (found : Option Place) (is : (q : Place) → (found ≡ Some q) ↔ ReachesAt op q) where
  pub place_added : (place : Place) → found ≡ Some place → (xs ys : List Place)
      → ((q : Place) → Contains ys q ↔ (Contains xs q ⊎ (q ≡ place))) → AddsPlaces (λ q. ReachesAt op q) xs ys
  place_added place e xs ys h q = (
    λ c. either (λ x. inl x) (λ s. inr ((is q).0 (e ∙ ap Some (sym s)))) ((h q).0 c),
    λ c. (h q).1 (either (λ x. inl x) (λ r. inr (Some_place q place (sym ((is q).1 r) ∙ e))) c),
  )

  pub no_place_added : found ≡ None → (xs : List Place) → AddsPlaces (λ q. ReachesAt op q) xs xs
  no_place_added e xs q = (
    λ c. inl c,
    λ c. either (λ x. x) (λ r. absurd (let clash : None ≡ Some q = sym e ∙ (is q).1 r in cc)) c,
  )

-- what is added is said in other words
pub added_as : (P Q : Place → Type 0) (xs ys : List Place) → ((q : Place) → P q → Q q) → ((q : Place) → Q q → P q)
    → AddsPlaces P xs ys → AddsPlaces Q xs ys
added_as P Q xs ys there back a q = (
  λ c. either (λ x. inl x) (λ h. inr (there q h)) ((a q).0 c),
  λ c. (a q).1 (either (λ x. inl x) (λ h. inr (back q h)) c),
)

-- ## Copies

Some_state : (s t : State) → Some s ≡ Some t → s ≡ t
Some_state s t e = cc

module _ (edges : Edges) (copies : List EdgeCopy) (table : List (Option State)) (k : ℕ) where
  abbrev copy : EdgeCopy
  copy = get_or copies k no_copy

  abbrev edge : Edge
  edge = get_or edges copy.edge no_edge

  pub copy_added : (o : Option State) → at table copy.from ≡ o → is_some o ≡ true → (xs ys : List Place)
      → AddsPlaces (λ q. ReachesAt edge.op q) xs ys → AddsPlaces (λ q. IsOfCopy edges copies table q k) xs ys
  copy_added None e some xs ys a = absurd cc
  copy_added (Some s) e some xs ys a =
      added_as (λ q. ReachesAt edge.op q) (λ q. IsOfCopy edges copies table q k) xs ys
      (λ q h. record { state = s; is = e; stands = h }) (λ q h. h.stands) a

  pub no_copy_added : (o : Option State) → at table copy.from ≡ o → is_some o ≡ false → (q : Place)
      → IsOfCopy edges copies table q k → ⊥
  no_copy_added None e none q h = absurd (let clash : None ≡ Some h.state = sym e ∙ h.is in cc)
  no_copy_added (Some s) e none q h = absurd cc

-- ## Places that are left out, one by one

module _ (places others : List Place) (k : ℕ) (place : Place) (is : place ≡ get_or places k place) where
  default_at : (q : Place) → k < length places → get_or places k q ≡ place
  default_at q lt = get_or_default places k q place lt ∙ sym is

  pub left_added : k < length places → (Contains others place → ⊥) → (xs ys : List Place)
      → ((q : Place) → Contains ys q ↔ (Contains xs q ⊎ (q ≡ place))) → AddsPlaces (λ q. IsLeft places others q k) xs ys
  left_added lt not_there xs ys h q = (
    λ c. either (λ x. inl x) (λ e. inr (record {
      is = default_at q lt ∙ sym e;
      other = λ o. not_there (subst (λ z. Contains others z) e o);
    })) ((h q).0 c),
    λ c. (h q).1 (either (λ x. inl x) (λ (l : IsLeft places others q k). inr (sym l.is ∙ default_at q lt)) c),
  )

  pub none_left : k < length places → Contains others place → (q : Place) → IsLeft places others q k → ⊥
  none_left lt there q l = l.other (subst (λ z. Contains others z) (sym (default_at q lt) ∙ l.is) there)

pub left_of_same : (places others taken left : List Place) → ((q : Place) → Contains others q ↔ Contains taken q)
    → AreLeftOut places others left → AreLeftOut places taken left
left_of_same places others taken left same h = record {
  sorted = h.sorted;
  exact = λ q. (
    λ c. let b = (h.exact q).0 c in (b.0, λ t. b.1 ((same q).1 t)),
    λ b. (h.exact q).1 (b.0, λ o. b.1 ((same q).0 o)),
  );
}

module _ (graphs : List Graph) (configured : List ConfiguredGraph) (lists : List (List (Option State))) where
  pub dead_in : (n : ℕ) (places reached dead : List Place)
      → ((q : Place) → Contains places q ↔ IsOfGraphs graphs (length graphs) q)
      → ((q : Place) → Contains reached q ↔ IsOfTables graphs configured lists n q)
      → AreLeftOut places reached dead → AreDeadIn graphs configured lists n dead
  dead_in n places reached dead are there h = record {
    sorted = h.sorted;
    exact = λ q. (
      λ c. let b = (h.exact q).0 c in ((are q).0 b.0, λ t. b.1 ((there q).1 t)),
      λ d. (h.exact q).1 ((are q).1 d.0, λ r. d.1 ((there q).0 r)),
    );
  }

  -- what is read of a body
  module _ (t : ℕ) (edges : Edges) (copies : List EdgeCopy) (table : List (Option State))
      (edges-are : edges_at graphs t ≡ edges) (copies-are : copies_at configured t ≡ copies)
      (table-is : table_at lists t ≡ table) where
    pub copies_read : AreCopiesIn (edges_at graphs t) (copies_at configured t) (table_at lists t)
        → AreCopiesIn edges copies table
    copies_read h =
        subst (λ (es : Edges). AreCopiesIn es copies table) edges-are
        (subst (λ (cs : List EdgeCopy). AreCopiesIn (edges_at graphs t) cs table) copies-are
        (subst (λ (ts : List (Option State)). AreCopiesIn (edges_at graphs t) (copies_at configured t) ts) table-is h))

    pub places_read : (xs ys : List Place) → AddsPlaces (λ q. IsOfCopies edges copies table (length copies) q) xs ys
        → AddsPlaces (λ q. (let cs = copies_at configured t in
        IsOfCopies (edges_at graphs t) cs (table_at lists t) (length cs) q)) xs ys
    places_read xs ys h =
        subst (λ (es : Edges). AddsPlaces (λ q. (let cs = copies_at configured t in
        IsOfCopies es cs (table_at lists t) (length cs) q)) xs ys) (sym edges-are)
        (subst (λ (cs : List EdgeCopy). AddsPlaces (λ q. IsOfCopies edges cs (table_at lists t) (length cs) q) xs ys)
        (sym copies-are)
        (subst (λ (ts : List (Option State)). AddsPlaces (λ q. IsOfCopies edges copies ts (length copies) q) xs ys)
        (sym table-is) h))
