-- Sweeps over the edges.
use Rattle.std.proofs.Common.{◌≡◌, refl, sym, ap, subst, ◌∙◌, ℕ, ◌+◌, ◌-◌, ◌*◌, ◌^◌, ◌<◌, ◌≤◌, inl, inr, Bool, true, false, cond, List, [], length, get_or, set, arith}
use Rattle.std.specs.Prelude.{Contains, replicate, ◌||◌, Vec}
use Rattle.std.specs.declared.alloc.Global.{Global}
use Rattle.std.proofs.lemmas.Bool.{cases_eq}
use Rattle.std.proofs.lemmas.List.{length-set, length-replicate, get_or-replicate, get_or-set_same, get_or-set_other, get_or_default, get_or-map}
use Rattle.std.proofs.lemmas.List.Elements.{All-nil}
use Rattle.std.proofs.lemmas.List.Sums.{sum_by-set, sum_by-le}
use Rattle.flow_graph.specs.declared.graphs.Edge.{Edge}
use Rattle.flow_graph.specs.Graphs.{Edges, Among, IsLive, by_use, by_flow}
use Rattle.graph_facts.specs.Edges.{AreInRange}
use Rattle.graph_facts.specs.Live.{AreLive}
use Rattle.graph_facts.specs.Lists.{numbers}
use Rattle.graph_facts.specs.reading.Live.{IsRisingList, HasPut, IsBrought, list_at, total, ArePartlyLive, IsMet, HasGrown, Brings, Sweeps}
use Rattle.graph_facts.proofs.Edges.{among_at, contains_among}
use Rattle.graph_facts.proofs.Rising.{rising_nil, rising_short}

none_in : (t : ℕ) → Contains [] t → ⊥
none_in t c = let b = c.1 in omega (arith, b)

no_list : IsRisingList []
no_list = record { rising = rising_nil; small = All-nil (λ x. x < 2 ^ 32) }

pub live_none : (g : Edges) (nodes : ℕ) (lists : List (List ℕ)) → lists ≡ replicate nodes [] → ArePartlyLive g nodes lists
live_none g nodes lists e = record {
  node_count = ap length e ∙ length-replicate nodes [];
  each = λ n lt. subst (λ (xs : List ℕ). IsRisingList xs) (sym (empty n lt)) no_list;
  live = λ n lt t c. absurd (none_in t (subst (λ (xs : List ℕ). Contains xs t) (empty n lt) c));
}
  where
    empty : (n : ℕ) → n < nodes → list_at lists n ≡ []
    empty n lt = ap (λ (z : List (List ℕ)). get_or z n []) e ∙ get_or-replicate nodes n [] [] lt

pub list_is : (lists : List (Vec ℕ Global)) (n : ℕ) (v : Vec ℕ Global) (xs : List ℕ) → n < length lists → v ≡ get_or lists n v → xs ≡ v.items → xs ≡ list_at (numbers lists) n
list_is lists n v xs lt is e = e ∙ ap (λ (w : Vec ℕ Global). w.items) is ∙ sym (get_or-map (λ (w : Vec ℕ Global). w.items) lists n v [] lt)

-- ## One edge

pub same_bound : (g : Edges) (nodes k : ℕ) (d e : Edge) → AreInRange g nodes → k < length g → e ≡ get_or g k d → (e.from < nodes) × (e.to < nodes)
same_bound g nodes k d e range lt is = subst (λ (x : Edge). (x.from < nodes) × (x.to < nodes)) (sym is) (range k d lt)

module _ (g : Edges) (nodes : ℕ) (e : Edge) (lists : List (List ℕ)) (list : List ℕ) (among : Among e g) (within : e.from < nodes) (to : e.to < nodes)
    (before : ArePartlyLive g nodes lists) (put : HasPut (IsBrought e.op (list_at lists e.to)) (list_at lists e.from) list) where
  here : list_at (set lists e.from list) e.from ≡ list
  here = get_or-set_same lists e.from list [] (let b = before.node_count in omega (arith, within, b))

  there : (n : ℕ) → (n ≡ e.from → ⊥) → list_at (set lists e.from list) n ≡ list_at lists n
  there n other = get_or-set_other lists e.from n list [] other

  live_here : (t : ℕ) → Contains list t → IsLive g t e.from
  live_here t c = elim (put.only t c) [
    | inl old ↦ before.live e.from within t old
    | inr new ↦ elim new [
      | inl u ↦ by_use e among u
      | inr flow ↦ by_flow e among flow.1 (before.live e.to to t flow.0)
    ]
  ]

  partly_set : ArePartlyLive g nodes (set lists e.from list)
  unfolding here
  partly_set = record {
    node_count = length-set lists e.from list ∙ before.node_count;
    each = λ n lt. elim (cases_eq n e.from) [
      | inl same ↦ (let P : ℕ → Type 0 = λ i. IsRisingList (list_at (set lists e.from list) i) in subst P (sym same) (subst (λ (xs : List ℕ). IsRisingList xs) (sym here) put.list))
      | inr other ↦ subst (λ (xs : List ℕ). IsRisingList xs) (sym (there n other)) (before.each n lt)
    ];
    live = λ n lt t c. elim (cases_eq n e.from) [
      | inl same ↦
          (let P : ℕ → Type 0 = λ i. Contains (list_at (set lists e.from list) i) t in
          let Q : ℕ → Type 0 = λ i. IsLive g t i in
          let d : Contains list t = subst (λ (xs : List ℕ). Contains xs t) here (subst P same c) in
          subst Q (sym same) (live_here t d))
      | inr other ↦ before.live n lt t (subst (λ (xs : List ℕ). Contains xs t) (there n other) c)
    ];
  }

  grown_set : length (list_at lists e.from) < length list → total lists < total (set lists e.from list)
  grown_set lt = let s = sum_by-set length lists e.from list [] (let b = before.node_count in omega (arith, within, b)) in omega (arith, s, lt)

  met_by : length list ≤ length (list_at lists e.from) → IsMet lists e
  met_by le t b = elim put.grew [
    | inl same ↦ subst (λ (xs : List ℕ). Contains xs t) same (put.put t b)
    | inr more ↦ absurd (omega (arith, more, le))
  ]

pub brings_more : (g : Edges) (nodes k : ℕ) (e : Edge) (lists now : List (List ℕ)) (list : List ℕ) → AreInRange g nodes → k < length g → e ≡ get_or g k e → now ≡ set lists e.from list
    → ArePartlyLive g nodes lists → HasPut (IsBrought e.op (list_at lists e.to)) (list_at lists e.from) list → length (list_at lists e.from) < length list → Brings g nodes k true lists now
brings_more g nodes k e lists now list range lt is n before put grew =
    let b = same_bound g nodes k e e range lt is in
    let a : Among e g = subst (λ (x : Edge). Among x g) (sym is) (among_at g k e lt) in
    subst (λ (z : List (List ℕ)). Brings g nodes k true lists z) (sym n) (record {
      partly = partly_set g nodes e lists list a b.0 b.1 before put;
      grown = grown_set g nodes e lists list a b.0 b.1 before put grew;
      met = λ h d. absurd cc;
    })

pub brings_none : (g : Edges) (nodes k : ℕ) (e : Edge) (lists : List (List ℕ)) (list : List ℕ) → AreInRange g nodes → k < length g → e ≡ get_or g k e
    → ArePartlyLive g nodes lists → HasPut (IsBrought e.op (list_at lists e.to)) (list_at lists e.from) list → length list ≤ length (list_at lists e.from) → Brings g nodes k false lists lists
brings_none g nodes k e lists list range lt is before put le =
    let b = same_bound g nodes k e e range lt is in
    let a : Among e g = subst (λ (x : Edge). Among x g) (sym is) (among_at g k e lt) in
    record {
      partly = before;
      grown = refl;
      met = λ h d. subst (λ (x : Edge). IsMet lists x) (is ∙ get_or_default g k e d lt) (met_by g nodes e lists list a b.0 b.1 before put le);
    }

-- ## All edges

pub sweeps_none : (g : Edges) (nodes k : ℕ) (lists : List (List ℕ)) → length g ≤ k → ArePartlyLive g nodes lists → Sweeps g nodes k false lists lists
sweeps_none g nodes k lists le before = record { partly = before; grown = refl; met = λ h j d a b. absurd (omega (arith, le, a, b)) }

grown_both : (m b : Bool) (old mid new : List (List ℕ)) → HasGrown m old mid → HasGrown b mid new → HasGrown (m || b) old new
grown_both true true old mid new p q = omega (arith, p, q)
grown_both true false old mid new p q = (let e = ap total q in omega (arith, p, e))
grown_both false true old mid new p q = (let e = ap total p in omega (arith, e, q))
grown_both false false old mid new p q = q ∙ p

none_of_both : (m b : Bool) → m || b ≡ false → (m ≡ false) × (b ≡ false)
none_of_both true b h = absurd cc
none_of_both false b h = (refl, h)

nothing_grown : (m : Bool) (old new : List (List ℕ)) → m ≡ false → HasGrown m old new → new ≡ old
nothing_grown true old new h p = absurd cc
nothing_grown false old new h p = p

pub sweeps_more : (g : Edges) (nodes k : ℕ) (m b : Bool) (old mid new : List (List ℕ)) → Sweeps g nodes (k + 1) m old mid → Brings g nodes k b mid new → Sweeps g nodes k (m || b) old new
sweeps_more g nodes k m b old mid new p q = record {
  partly = q.partly;
  grown = grown_both m b old mid new p.grown q.grown;
  met = λ h j d le lt. (let none = none_of_both m b h in
      elim (cases_eq j k) [
        | inl e ↦
            (let same : mid ≡ old = nothing_grown m old mid none.0 p.grown in
            let P : ℕ → Type 0 = λ i. IsMet old (get_or g i d) in
            subst P (sym e) (subst (λ (z : List (List ℕ)). IsMet z (get_or g k d)) same (q.met none.1 d)))
        | inr other ↦ p.met none.0 j d (let u : j ≡ k → ⊥ = other in omega (arith, u, le)) lt
      ]);
}

-- ## The end

all_live : (g : Edges) (nodes : ℕ) (lists : List (List ℕ)) → ((e : Edge) → Among e g → IsMet lists e) → (t n : ℕ) → IsLive g t n → Contains (list_at lists n) t
all_live g nodes lists met t _ (by_use e among u) = met e among t (inl u)
all_live g nodes lists met t _ (by_flow e among ng live) = met e among t (inr (all_live g nodes lists met t e.to live, ng))

pub swept_all : (g : Edges) (nodes : ℕ) (old new : List (List ℕ)) → Sweeps g nodes 0 false old new → AreLive g nodes new
swept_all g nodes old new s = record {
  node_count = s.partly.node_count;
  rising = λ n lt. (s.partly.each n lt).rising;
  live = λ n lt t. (s.partly.live n lt t, all_live g nodes new met t n);
}
  where
    met : (e : Edge) → Among e g → IsMet new e
    met e among =
        let c = contains_among e g among in
        subst (λ (z : List (List ℕ)). IsMet z e) (sym s.grown) (subst (λ (x : Edge). IsMet old x) c.2 (s.met refl c.0 e (omega arith) c.1))

-- as many temporaries as there can be
pub total_bound : (g : Edges) (nodes : ℕ) (lists : List (List ℕ)) → ArePartlyLive g nodes lists → total lists ≤ nodes * 2 ^ 32
total_bound g nodes lists p =
    let P : ℕ → Type 0 = λ n. total lists ≤ n * 2 ^ 32 in
    subst P p.node_count
    (sum_by-le length (2 ^ 32) lists (λ k d lt.
    let r = p.each k (let e = p.node_count in omega (arith, e, lt)) in
    let s : length (list_at lists k) ≤ 2 ^ 32 = rising_short (2 ^ 32) (list_at lists k) r.rising r.small in
    let Q : List ℕ → Type 0 = λ xs. length xs ≤ 2 ^ 32 in
    subst Q (get_or_default lists k [] d lt) s))

-- how much may be missing, and one more where another sweep follows
pub left : (room : ℕ) (more : Bool) (lists : List (List ℕ)) → ℕ
left room more lists = (room - total lists) + cond more 1 0

pub left_falls : (room : ℕ) (b : Bool) (old new : List (List ℕ)) → total new ≤ room → HasGrown b old new → left room b new < left room true old
unfolding left
left_falls room true old new le h = omega (arith, le, h)
left_falls room false old new le h = let e = ap total h in omega (arith, le, e)

pub ended : (g : Edges) (nodes : ℕ) (b : Bool) (old new : List (List ℕ)) → b ≡ false → Sweeps g nodes 0 b old new → AreLive g nodes new
ended g nodes true old new e s = absurd cc
ended g nodes false old new e s = swept_all g nodes old new s
