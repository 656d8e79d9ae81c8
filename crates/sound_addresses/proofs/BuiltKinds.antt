-- What is built from steps that fit keeps kinds: the temporaries are numbered in order, so that their kinds are a list
-- that grows at its end.
use Rattle.std.proofs.Common.{◌≡◌, refl, sym, ap, subst, ◌∙◌, ℕ, zero, suc, ◌≤◌, List, [], ◌∷◌, ◌++◌, arith}
use Rattle.std.proofs.Common.{length, Some, None, slice_get}
use Rattle.std.proofs.lemmas.Option.{none-some, same_Some}
use Rattle.operation_laws.specs.tm_laid.Layouts.{LaidTree}
use Rattle.operation_laws.specs.flow_graph.declared.operations.Operation.{Operation}
use Rattle.operation_laws.specs.flow_graph.declared.operations.Operation.TheVariants as Op
use Rattle.operation_laws.specs.flow_graph.Operations.{given}
use Rattle.operation_laws.specs.flow_graph.Graphs.{Edges}
use Rattle.operation_laws.specs.lowering.Built.{edge, at, renamed, Building, place, place_new}
use Rattle.operation_laws.proofs.Growing.{Grows, grows_on, grows_end, at_end, length_end}
use Rattle.operation_laws.proofs.Within.{given_renamed, renamed_to}
use Rattle.operation_laws.proofs.BuiltSteps.{Known, known, AreSkips, Sayings, AreTemps, AreKept}
use Rattle.sound_runs.specs.Addresses.{Kind, address_of, anything, KeepsKinds}
use Rattle.sound_addresses.proofs.Kept.{IsDull, dull_keeps}
use Rattle.sound_addresses.proofs.StepKinds.{dull_renamed, TempIs, IsAnything, kinded}

-- ## Lists of kinds

temp_grown : (ss ss' : List Kind) → Grows ss ss' → (t : ℕ) (k : Kind) → TempIs ss t k → TempIs ss' t k
temp_grown ss ss' g t (address_of n) h = g t (address_of n) h
temp_grown ss ss' g t anything h = tt

temp_is : (ss : List Kind) (t : ℕ) (k : Kind) → slice_get ss t ≡ Some k → TempIs ss t k
temp_is ss t (address_of n) h = h
temp_is ss t anything h = tt

-- kinds of all temporaries that are those of the list
abbrev pub KindsAre : List Kind → (ℕ → Kind) → Type 0
KindsAre ss kinds = (t : ℕ) (k : Kind) → slice_get ss t ≡ Some k → kinds t ≡ k

-- ## What is said

module _ (laid : LaidTree) (body : ℕ) where
  abbrev Fit : List Kind → Operation → Type 0
  Fit ss op = (kinds : ℕ → Kind) → KindsAre ss kinds → KeepsKinds laid body kinds op

  abbrev pub AllFit : List Kind → Edges → Type 0
  AllFit ss [] = Unit {0}
  AllFit ss (e ∷ g) = Fit ss e.op × AllFit ss g

  -- each temporary has a kind, and the edges so far keep them
  pub record Leads (p q : Known Kind) : Type 0 where
    pub grows : Grows p.natures q.natures
    pub each : length q.natures ≡ q.temps
    pub fit : AllFit q.natures q.edges
    pub later : p.temps ≤ q.temps

  abbrev pub MayGive : List Kind → (ℕ → Operation) → Kind → Type 0
  MayGive ss op k = (t : ℕ) (kinds : ℕ → Kind) → KindsAre ss kinds → kinds t ≡ k → KeepsKinds laid body kinds (op t)

  abbrev pub sayings : Sayings (kinded laid body)
  sayings = record {
    Leads = Leads;
    Has = λ ss n t k. TempIs ss t k;
    IsOpen = λ p n t k. slice_get p.natures t ≡ Some k;
    Gives = λ ss n op k. MayGive ss op k;
  }

  -- ## More edges

  fit_grown : (ss ss' : List Kind) → Grows ss ss' → (op : Operation) → Fit ss op → Fit ss' op
  fit_grown ss ss' g op h kinds are = h kinds (λ t k e. are t k (g t k e))

  all_append : (ss : List Kind) (a b : Edges) → AllFit ss a → AllFit ss b → AllFit ss (a ++ b)
  all_append ss [] b h k = k
  all_append ss (e ∷ a) b h k = (h.0, all_append ss a b h.1 k)

  all_grown : (ss ss' : List Kind) → Grows ss ss' → (g : Edges) → AllFit ss g → AllFit ss' g
  all_grown ss ss' k [] h = tt
  all_grown ss ss' k (e ∷ g) h = (fit_grown ss ss' k e.op h.0, all_grown ss ss' k g h.1)

  dull_none : (ss : List Kind) (op : Operation) → IsDull op → given op ≡ None → Fit ss op
  dull_none ss op d e kinds are = dull_keeps laid body kinds op d (λ t q. absurd (none-some t (sym e ∙ q)))

  all_skips : (ss : List Kind) (g : Edges) → AreSkips g → AllFit ss g
  all_skips ss [] h = tt
  all_skips ss (e ∷ g) h = (subst (Fit ss) (sym h.0) (dull_none ss Op.Skip tt refl), all_skips ss g h.1)

  more : (p : Known Kind) (ss : List Kind) (b : Building) (g : Edges) → AllFit ss g → Leads p (known ss b)
      → Leads p (record { natures = ss; edges = b.edges ++ g; temps = b.temps })
  more p ss b g h f =
      record { grows = f.grows; each = f.each; fit = all_append ss b.edges g f.fit h; later = f.later }

  -- an operation that takes no part and no element, and gives nothing, or anything
  pub dull_placed : (p : Known Kind) (ss : List Kind) (b : Building) (op : Operation) → IsDull op → given op ≡ None
      → Leads p (known ss b) → Leads p (known ss (place op b))
  dull_placed p ss b op d e f = more p ss b (edge b.node b.nodes op ∷ []) (dull_none ss op d e, tt) f

  pub dull_given : (ss : List Kind) (op : ℕ → Operation) (k : Kind) → k ≡ anything → ((t : ℕ) → IsDull (op t))
      → ((t : ℕ) → given (op t) ≡ Some t) → MayGive ss op k
  dull_given ss op k e d g t kinds are is =
      dull_keeps laid body kinds (op t) (d t) (λ u q. ap kinds (sym (same_Some t u (sym (g t) ∙ q))) ∙ is ∙ e)

  pub gives_new : (p : Known Kind) (ss : List Kind) (b : Building) (op : ℕ → Operation) (k : Kind) → MayGive ss op k
      → Leads p (known ss b) → Leads p (known (ss ++ k ∷ []) (place_new op b))
      × (slice_get (ss ++ k ∷ []) b.temps ≡ Some k)
  gives_new p ss b op k g f =
      let all : List Kind = ss ++ k ∷ [] in
      let le : p.temps ≤ b.temps = f.later in
      let new : slice_get all b.temps ≡ Some k = ap (slice_get all) (sym f.each) ∙ at_end ss k in
      let fits : Fit all (op b.temps) =
      λ kinds are. g b.temps kinds (λ t j e. are t j (grows_end ss k t j e)) (are b.temps k new) in (
        record {
          grows = grows_on p.natures ss all f.grows (grows_end ss k);
          each = length_end ss k ∙ ap suc f.each;
          fit = all_append all b.edges (edge b.node b.nodes (op b.temps) ∷ [])
              (all_grown ss all (grows_end ss k) b.edges f.fit) (fits, tt);
          later = omega (arith, le);
        },
        new,
      )

  -- ## What is kept

  same : {p q : Known Kind} → Leads p q → Leads q q
  same f = record { grows = λ t k e. e; each = f.each; fit = f.fit; later = omega arith }

  on : {p q r : Known Kind} → Leads p q → Leads q r → Leads p r
  on {p = p} {q = q} {r = r} f g =
      let le : p.temps ≤ q.temps = f.later in
      let le' : q.temps ≤ r.temps = g.later in
      record {
        grows = grows_on p.natures q.natures r.natures f.grows g.grows;
        each = g.each;
        fit = g.fit;
        later = omega (arith, le, le');
      }

  temps_at : (ss : List Kind) (n : ℕ) (ts : List ℕ) (vs : List Kind) → AreTemps (kinded laid body) sayings ss n ts vs
      → (v m : ℕ) → slice_get vs v ≡ Some (address_of m) → slice_get ss (at ts v) ≡ Some (address_of m)
  temps_at ss n [] [] h v m e = absurd (none-some (address_of m) e)
  temps_at ss n [] (x ∷ vs) h v m e = absurd h
  temps_at ss n (t ∷ ts) [] h v m e = absurd h
  temps_at ss n (t ∷ ts) (x ∷ vs) h zero m e = subst (λ k. TempIs ss t k) (same_Some x (address_of m) e) h.0
  temps_at ss n (t ∷ ts) (x ∷ vs) h (suc v) m e = temps_at ss n ts vs h.1 v m e

  variable : (ss : List Kind) (n : ℕ) (ts : List ℕ) (vs : List Kind) → AreTemps (kinded laid body) sayings ss n ts vs
      → (v : ℕ) (k : Kind) → TempIs vs v k → TempIs ss (at ts v) k
  variable ss n ts vs a v (address_of m) h = temps_at ss n ts vs a v m h
  variable ss n ts vs a v anything h = tt

  any : (ss : List Kind) (n t : ℕ) (k : Kind) → IsAnything k → TempIs ss t k
  any ss n t (address_of m) h = absurd h
  any ss n t anything h = tt

  pub kept : AreKept (kinded laid body) sayings
  kept = record {
    same = same;
    on = on;
    later = λ f. f.later;
    grown = λ {p = p} {q = q} f n t k h. temp_grown p.natures q.natures f.grows t k h;
    one_more = λ ss w n t k h. temp_grown ss (ss ++ w ∷ []) (grows_end ss w) t k h;
    earlier = λ ss n m t k le h. h;
    any = any;
    variable = variable;
    acts = λ p ss b ts vs a op e d f.
        dull_placed p ss b (renamed (at ts) 0 op) (dull_renamed (at ts) 0 op d)
        (given_renamed (at ts) 0 op ∙ ap (renamed_to 0) e) f;
    yields = λ ss n ts vs a op t k e h u kinds are is.
        h (at ts) u kinds (λ v m q. are (at ts v) (address_of m) (temps_at ss n ts vs a v m q)) is;
    skipped = λ p ss b g h f. more p ss b g (all_skips ss g h) f;
    branches = λ p ss b test w f.
        more p ss b _ (dull_none ss (Op.Assume test) tt refl, (dull_none ss _ tt refl, tt)) f;
    tested = λ ss n ts vs a test w. tt;
    cases = λ ss n t k w h z. tt;
    gives_new = gives_new;
    gives_again = λ p ss b op k n t o g f.
        more p ss b (edge b.node b.nodes (op t) ∷ []) (λ kinds are. g t kinds are (are t k (f.grows t k o)), tt) f;
    copies = λ ss n t j k h e. dull_given ss (λ u. Op.Copy u t) k e (λ u. tt) (λ u. refl);
    truths = λ ss n k e b. dull_given ss _ k e (λ u. tt) (λ u. refl);
    still_open = λ f n t k o. f.grows t k o;
    open_earlier = λ p n m t k le o. o;
    opened = λ p n t k o. temp_is p.natures t k o;
  }
