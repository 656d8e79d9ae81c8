-- What is put together of the paths of a body is what is noted of the body.
use Rattle.std.proofs.Common.{◌≡◌, ℕ, suc, ◌+◌, ◌<◌, Bool, true, List, [], ◌∷◌, ◌++◌, length, map, sym, ap}
use Rattle.std.proofs.Common.{◌∙◌, ◌≤◌, subst, arith, get_or, take}
use Rattle.std.specs.Prelude.{◌↔◌, Contains}
use Rattle.std.specs.List.{flat_map}
use Rattle.std.proofs.lemmas.List.{take_more, length-take-le}
use Rattle.std.proofs.lemmas.List.Elements.{All-contains}
use Rattle.tm_terms.specs.declared.places.Place.{Place}
use Rattle.tm_laid.specs.Layouts.{LaidTree, first_path}
use Rattle.flow_graph.specs.declared.graphs.Graph.{Graph}
use Rattle.body_builder.specs.concrete_steps.NextAction.{function_at}
use Rattle.path_origins.specs.declared.origins.Notes.{Notes}
use Rattle.path_origins.specs.Noted.{Noted, operands_by, reload_by, overwrite_by, life_by}
use Rattle.path_origins.specs.Bodies.{noted_path}
use Rattle.edge_origins.specs.declared.origins.EdgeOrigin.{EdgeOrigin}
use Rattle.edge_origins.specs.declared.origins.Fall.{Fall}
use Rattle.edge_origins.specs.declared.origins.BodyOrigins.{BodyOrigins}
use Rattle.edge_origins.specs.declared.starts.Start.{Start}
use Rattle.edge_origins.specs.Bodies.{Starts, first, called, IsOrigin, IsNoted, IsFall, IsBodyOrigins}
use Rattle.edge_origins.specs.Bodies.{AreBodyOriginsFrom, no_more, one_more, AreBodyOrigins}
use Rattle.edge_origins.specs.reading.PathNotes.{noted_in, AreNotes}
use Rattle.edge_origins.specs.reading.Starts.{IsReached, by_call, the_first, IsFollowed}
use Rattle.edge_origins.specs.reading.Starts.{AreFollowed}
use Rattle.edge_origins.specs.reading.Edges.{AtEdge, at_edge, edge_at, edges_on}
use Rattle.edge_origins.specs.reading.Gathered.{counted_on, fall_by, falls_on, IsAssembled, AreAssembled}
use Rattle.edge_origins.proofs.Lists.{to_mapped, from_mapped, to_flat, from_flat, from_cond}

module _ (laid : LaidTree) (is_open : Place → Bool) (sizes : ℕ → ℕ) (notes : List Notes)
    (are : AreNotes laid is_open sizes notes) where
  noted_is : (path : ℕ) → path < length notes → noted_in notes path ≡ noted_path laid is_open sizes path
  noted_is path lt = are.noted path (subst (λ n. path < n) are.count_is lt)

  -- ## Starts

  starts_there : (body : ℕ) {s : Start} → IsReached notes (first_path laid body) s
      → Starts laid is_open sizes body s.path s.at s.used
  starts_there body the_first = first
  starts_there body (by_call {s} c reached lt among) =
      let P : Noted → Type 0 = λ x. Contains x.calls c in
      called c (starts_there body reached) (subst P (noted_is s.path lt) among)

  module _ (body : ℕ) (starts : List Start) (begin : AreFollowed notes (first_path laid body) starts starts) where
    within : (s : Start) → Contains starts s → s.path < length notes
    within s c =
        let Within : Start → Type 0 = λ s. s.path < length notes in
        All-contains Within starts s begin.within c

    starts_at : (s : Start) → Contains starts s → Starts laid is_open sizes body s.path s.at s.used
    starts_at s c = starts_there body (All-contains (IsReached notes (first_path laid body)) starts s begin.reached c)

    is_start : {path at : ℕ} {used : Bool} → Starts laid is_open sizes body path at used
        → Contains starts (record { path = path; at = at; used = used })
    is_start first = begin.begins
    is_start (called {path} {at} {used} c before among) =
        let s : Start = record { path = path; at = at; used = used } in
        let i : Contains starts s = is_start before in
        let P : Noted → Type 0 = λ x. Contains x.calls c in
        let follow = All-contains (IsFollowed notes (first_path laid body) starts) starts s begin.followed i in
        follow c (subst P (sym (noted_is path (within s i))) among)

    -- ## What is noted beside edges

    module _ {A : Type 0} (of : Noted → List A) (by : ℕ → A → A) (found : A) where
      is_noted : Contains (flat_map (counted_on notes of by) starts) found → IsNoted laid is_open sizes of by body found
      is_noted c =
          let r = from_flat (counted_on notes of by) starts found c in
          let s : Start = r.0 in
          let m = from_mapped (by s.at) (of (noted_in notes s.path)) found r.2 in
          let P : Noted → Type 0 = λ x. Contains (of x) m.0 in
          record {
            path = s.path;
            at = s.at;
            used = s.used;
            starts = starts_at s r.1;
            noted = m.0;
            among = subst P (noted_is s.path (within s r.1)) m.1;
            is = m.2;
          }

      is_found : IsNoted laid is_open sizes of by body found → Contains (flat_map (counted_on notes of by) starts) found
      is_found n =
          let s : Start = record { path = n.path; at = n.at; used = n.used } in
          let i : Contains starts s = is_start n.starts in
          let P : Noted → Type 0 = λ x. Contains (of x) n.noted in
          let among = subst P (sym (noted_is n.path (within s i))) n.among in
          let there = to_mapped (by n.at) (of (noted_in notes n.path)) n.noted among in
          let Q : A → Type 0 = λ x. Contains (counted_on notes of by s) x in
          to_flat (counted_on notes of by) starts s found i (subst Q (sym n.is) there)

      noted_beside : (list : List A) → list ≡ flat_map (counted_on notes of by) starts
          → Contains list found ↔ IsNoted laid is_open sizes of by body found
      noted_beside list is =
          let P : List A → Type 0 = λ l. Contains l found in
          ((λ c. is_noted (subst P is c)), (λ n. subst P (sym is) (is_found n)))

    -- ## Ends of functions

    is_fall : (f : Fall) → Contains (flat_map (falls_on laid notes) starts) f → IsFall laid is_open sizes body f
    is_fall f c =
        let r = from_flat (falls_on laid notes) starts f c in
        let s : Start = r.0 in
        let place = (function_at laid s.path).place in
        let t = from_cond s.used (map (fall_by place s.at) (noted_in notes s.path).falls) f r.2 in
        let m = from_mapped (fall_by place s.at) (noted_in notes s.path).falls f t.1 in
        let P : Noted → Type 0 = λ x. Contains x.falls m.0 in
        let U : Bool → Type 0 = λ b. Starts laid is_open sizes body s.path s.at b in
        record {
          path = s.path;
          at = s.at;
          starts = subst U t.0 (starts_at s r.1);
          noted = m.0;
          among = subst P (noted_is s.path (within s r.1)) m.1;
          edge = ap (λ (g : Fall). g.edge) m.2;
          place = ap (λ (g : Fall). g.place) m.2;
        }

    fall_found : (f : Fall) → IsFall laid is_open sizes body f → Contains (flat_map (falls_on laid notes) starts) f
    fall_found f n =
        let s : Start = record { path = n.path; at = n.at; used = true } in
        let i : Contains starts s = is_start n.starts in
        let place = (function_at laid n.path).place in
        let P : Noted → Type 0 = λ x. Contains x.falls n.noted in
        let among = subst P (sym (noted_is n.path (within s i))) n.among in
        let there = to_mapped (fall_by place n.at) (noted_in notes n.path).falls n.noted among in
        let Q : Fall → Type 0 = λ g. Contains (falls_on laid notes s) g in
        let same : f ≡ fall_by place n.at n.noted =
        ap (λ e. let g : Fall = record { place = f.place; edge = e } in g) n.edge
        ∙ ap (λ p. let g : Fall = record { place = p; edge = n.at + n.noted } in g) n.place in
        to_flat (falls_on laid notes) starts s f i (subst Q (sym same) there)

    noted_falls : (f : Fall) (list : List Fall) → list ≡ flat_map (falls_on laid notes) starts
        → Contains list f ↔ IsFall laid is_open sizes body f
    noted_falls f list is =
        let P : List Fall → Type 0 = λ l. Contains l f in
        ((λ c. is_fall f (subst P is c)), (λ n. subst P (sym is) (fall_found f n)))

    -- ## Edges

    is_origin : (n : ℕ) (o : EdgeOrigin) → Contains (flat_map (edges_on notes) starts) (at_edge n o)
        → IsOrigin laid is_open sizes body n o
    is_origin n o c =
        let r = from_flat (edges_on notes) starts (at_edge n o) c in
        let s : Start = r.0 in
        let m = from_mapped (edge_at s.path s.at) (noted_in notes s.path).edges (at_edge n o) r.2 in
        let P : Noted → Type 0 = λ x. Contains x.edges m.0 in
        record {
          path = s.path;
          at = s.at;
          used = s.used;
          starts = starts_at s r.1;
          edge = m.0;
          among = subst P (noted_is s.path (within s r.1)) m.1;
          numbered = ap (λ (x : AtEdge). x.number) m.2;
          is = ap (λ (x : AtEdge). x.origin) m.2;
        }

    origin_found : (n : ℕ) (o : EdgeOrigin) → IsOrigin laid is_open sizes body n o
        → Contains (flat_map (edges_on notes) starts) (at_edge n o)
    origin_found n o i =
        let s : Start = record { path = i.path; at = i.at; used = i.used } in
        let h : Contains starts s = is_start i.starts in
        let P : Noted → Type 0 = λ x. Contains x.edges i.edge in
        let among = subst P (sym (noted_is i.path (within s h))) i.among in
        let there = to_mapped (edge_at i.path i.at) (noted_in notes i.path).edges i.edge among in
        let Q : AtEdge → Type 0 = λ x. Contains (edges_on notes s) x in
        let same : at_edge n o ≡ edge_at i.path i.at i.edge =
        ap (λ k. at_edge k o) i.numbered ∙ ap (at_edge (i.at + i.edge.at)) i.is in
        to_flat (edges_on notes) starts s (at_edge n o) h (subst Q (sym same) there)

  -- ## Bodies

  is_body : (body : ℕ) (g : Graph) (o : BodyOrigins) → IsAssembled laid notes body g o
      → IsBodyOrigins laid is_open sizes g body o
  is_body body g o all = record {
    edges = λ n e. (
      (λ h. is_origin body all.starts all.begin n e ((all.gathered.edges.are n e).0 h)),
      (λ i. (all.gathered.edges.are n e).1 (origin_found body all.starts all.begin n e i)),
    );
    forms = all.gathered.forms;
    operands = λ x. noted_beside body all.starts all.begin (λ y. y.operands) operands_by x o.operands.items
        all.gathered.operands;
    reloads = λ x. noted_beside body all.starts all.begin (λ y. y.reloads) reload_by x o.reloads.items
        all.gathered.reloads;
    overwrites = λ x. noted_beside body all.starts all.begin (λ y. y.overwrites) overwrite_by x o.overwrites.items
        all.gathered.overwrites;
    lives = λ x. noted_beside body all.starts all.begin (λ y. y.lives) life_by x o.lives.items
        all.gathered.lives;
    falls = λ x. noted_falls body all.starts all.begin x o.falls.items all.gathered.falls;
    passings = λ x. noted_beside body all.starts all.begin (λ y. y.passings) (λ at q. q) x o.passings.items
        all.gathered.passings;
  }

  are_bodies : (body : ℕ) (gs : List Graph) (os : List BodyOrigins) → AreAssembled laid notes body gs os
      → AreBodyOriginsFrom laid is_open sizes body gs os
  are_bodies body [] [] h = no_more
  are_bodies body [] (o ∷ os) h = absurd h
  are_bodies body (g ∷ gs) [] h = absurd h
  are_bodies body (g ∷ gs) (o ∷ os) h = one_more (is_body body g o h.0) (are_bodies (suc body) gs os h.1)

  pub all_noted : (gs : List Graph) (os : List BodyOrigins) → AreAssembled laid notes 0 gs os
      → AreBodyOrigins laid is_open gs os
  all_noted gs os h = record {
    sizes = sizes;
    are = λ path lt. are.sizes_are path lt ∙ ap (λ (x : Noted). x.size) (are.noted path lt);
    each = are_bodies 0 gs os h;
  }

-- one body more has been put together
pub assembled_more : (laid : LaidTree) (notes : List Notes) (body : ℕ) (gs : List Graph) (os : List BodyOrigins)
    (g : Graph) (o : BodyOrigins) → AreAssembled laid notes body gs os → IsAssembled laid notes (body + length gs) g o
    → AreAssembled laid notes body (gs ++ g ∷ []) (os ++ o ∷ [])
assembled_more laid notes body [] [] g o all one =
    let here : body + 0 ≡ body = omega arith in
    (subst (λ n. IsAssembled laid notes n g o) here one, tt)
assembled_more laid notes body [] (_ ∷ _) g o all one = absurd all
assembled_more laid notes body (_ ∷ _) [] g o all one = absurd all
assembled_more laid notes body (h ∷ gs) (p ∷ os) g o all one =
    let later : body + suc (length gs) ≡ suc body + length gs = omega arith in
    (all.0, assembled_more laid notes (suc body) gs os g o all.1 (subst (λ n. IsAssembled laid notes n g o) later one))

-- the body at which a loop stands
pub assembled_next : (laid : LaidTree) (notes : List Notes) (gs : List Graph) (i : ℕ) (g : Graph)
    (os new : List BodyOrigins) (o : BodyOrigins) → i < length gs → g ≡ get_or gs i g
    → AreAssembled laid notes 0 (take i gs) os → IsAssembled laid notes i g o → new ≡ os ++ o ∷ []
    → AreAssembled laid notes 0 (take (i + 1) gs) new
assembled_next laid notes gs i g os new o lt is all one pushed =
    let le : i ≤ length gs = omega (arith, lt) in
    let so_far : length (take i gs) ≡ i = length-take-le i gs le in
    let here : i ≡ 0 + length (take i gs) = omega (arith, so_far) in
    let At : ℕ → Type 0 = λ n. IsAssembled laid notes n (get_or gs i g) o in
    let Of : Graph → Type 0 = λ h. IsAssembled laid notes i h o in
    let more = assembled_more laid notes 0 (take i gs) os (get_or gs i g) o all (subst At here (subst Of is one)) in
    let Front : List Graph → Type 0 = λ l. AreAssembled laid notes 0 l (os ++ o ∷ []) in
    subst (AreAssembled laid notes 0 (take (i + 1) gs)) (sym pushed) (subst Front (sym (take_more gs i g lt)) more)
