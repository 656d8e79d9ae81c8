-- What is built from steps that fit has sorts: the temporaries are numbered in order, so that their sorts are a list
-- that grows at its end. What steps copy is no older than they are, so that it is settled.
use Rattle.std.proofs.Common.{◌≡◌, refl, sym, ap, subst, ◌∙◌, ℕ, zero, suc, ◌<◌, ◌≤◌, Bool, true, false, List}
use Rattle.std.proofs.Common.{[], ◌∷◌, ◌++◌}
use Rattle.std.proofs.Common.{length, Some, None, slice_get, arith}
use Rattle.std.specs.Prelude.{All}
use Rattle.std.proofs.lemmas.Int.{ints}
use Rattle.std.proofs.lemmas.Option.{none-some, same_Some, slice_get_within}
use Rattle.std.proofs.lemmas.List.Elements.{All-nil, All-cons}
use Rattle.temporary_types.specs.tm_cint.declared.int_types.IntType.TheVariants as Ints
use Rattle.temporary_types.specs.tm_laid.Layouts.{LaidTree}
use Rattle.temporary_types.specs.concrete_values.Values.{truth_value}
use Rattle.temporary_types.specs.flow_graph.declared.graphs.Edge.{Edge}
use Rattle.temporary_types.specs.flow_graph.declared.operations.Operation.{Operation}
use Rattle.temporary_types.specs.flow_graph.declared.operations.Operation.TheVariants as Op
use Rattle.temporary_types.specs.flow_graph.Operations.{given}
use Rattle.temporary_types.specs.flow_graph.Graphs.{Edges}
use Rattle.temporary_types.specs.Sorts.{Sort, numbers, IsOfSort, Works, Gives, GivesTo, FitsSorts}
use Rattle.temporary_types.specs.PointerMarks.{IsCopyOfGiven, CopiesFollow}
use Rattle.lowering_laws.specs.lowering.Built.{edge, at, renamed, Building, place_with, place, place_new}
use Rattle.operation_laws.proofs.Growing.{Grows, grows_on, grows_same, grows_end, at_end, length_end}
use Rattle.operation_laws.proofs.Within.{holds_own, Maps, works_mapped, gives_mapped}
use Rattle.operation_laws.proofs.Within.{tests_mapped, given_renamed, gives_grown, works_grown, fits_grown}
use Rattle.operation_laws.proofs.Within.{tests_opposite, renamed_to}
use Rattle.operation_laws.proofs.Following.{Follows, follows_more, follows_new, copy_given}
use Rattle.operation_laws.proofs.Settling.{source_of, NeverCopies, Settles, never_append, settles_place, AreQuiet}
use Rattle.operation_laws.proofs.Settling.{quiet_copies, settles_quiet, works_source, source_from}
use Rattle.operation_laws.proofs.StepSorts.{sorted}
use Rattle.operation_laws.proofs.BuiltSteps.{Known, known, AreSkips, Sayings, AreTemps, AreKept}

-- 0 and 1 are of the type of truths
truth_of_sort : (b : Bool) → IsOfSort (numbers Ints.Bool) (truth_value b)
truth_of_sort true = record { at_least = omega (arith, ints); at_most = omega (arith, ints) }
truth_of_sort false = record { at_least = omega (arith, ints); at_most = omega (arith, ints) }

-- ## What is said

module _ (laid : LaidTree) where
  abbrev pub AllFit : List Sort → Edges → Type 0
  AllFit ss [] = Unit {0}
  AllFit ss (e ∷ g) = FitsSorts laid ss e.op × AllFit ss g

  -- Each temporary has a sort and is given, and the edges so far fit, copies behind what gives their sources, and
  -- settled. What is built from the first on gives no fewer temporaries, and copies none of those before it.
  pub record Leads (p q : Known Sort) : Type 0 where
    pub grows : Grows p.natures q.natures
    pub each : length q.natures ≡ q.temps
    pub fit : AllFit q.natures q.edges
    pub follows : Follows q.temps q.edges
    pub settles : Settles q.temps q.edges
    pub later : p.temps ≤ q.temps
    pub kept : (t : ℕ) → t < p.temps → NeverCopies p.edges t → NeverCopies q.edges t

  -- what gives a temporary more than once is placed before it is copied
  pub record IsOpen (p : Known Sort) (n t : ℕ) (s : Sort) : Type 0 where
    pub sort : slice_get p.natures t ≡ Some s
    pub from : n ≤ t
    pub below : t < p.temps
    pub never : NeverCopies p.edges t

  -- an operation that gives this sort, of temporaries from a number on
  pub record MayGive (ss : List Sort) (n : ℕ) (op : Operation) (t : ℕ) (s : Sort) : Type 0 where
    pub given : given op ≡ Some t
    pub works : Works laid ss op
    pub gives : Gives ss op s
    pub sources : (u : ℕ) → source_of op ≡ Some u → n ≤ u

  abbrev pub sayings : Sayings (sorted laid)
  sayings = record {
    Leads = Leads;
    Has = λ ss n t s. (slice_get ss t ≡ Some s) × (n ≤ t);
    IsOpen = IsOpen;
    Gives = λ ss n op s. (t : ℕ) → MayGive ss n (op t) t s;
  }

  -- ## More edges

  all_append : (ss : List Sort) (a b : Edges) → AllFit ss a → AllFit ss b → AllFit ss (a ++ b)
  all_append ss [] b h k = k
  all_append ss (e ∷ a) b h k = (h.0, all_append ss a b h.1 k)

  all_grown : (ss ss' : List Sort) → Grows ss ss' → (g : Edges) → AllFit ss g → AllFit ss' g
  all_grown ss ss' k [] h = tt
  all_grown ss ss' k (e ∷ g) h = (fits_grown laid ss ss' k e.op h.0, all_grown ss ss' k g h.1)

  pub all_listed : (ss : List Sort) (g : Edges) → AllFit ss g → All (λ e. FitsSorts laid ss e.op) g
  all_listed ss [] h = All-nil (λ (e : Edge). FitsSorts laid ss e.op)
  all_listed ss (e ∷ g) h = All-cons (λ (e : Edge). FitsSorts laid ss e.op) e g h.0 (all_listed ss g h.1)

  skips_fit : (ss : List Sort) (g : Edges) → AreSkips g → AllFit ss g
  skips_fit ss [] h = tt
  skips_fit ss (e ∷ g) h = (subst (λ op. FitsSorts laid ss op) (sym h.0) (tt, tt), skips_fit ss g h.1)

  skips_quiet : (g : Edges) → AreSkips g → AreQuiet g
  skips_quiet [] h = tt
  skips_quiet (e ∷ g) h = (ap given h.0, ap source_of h.0, skips_quiet g h.1)

  quiet_follow : (before g : Edges) → AreQuiet g → CopiesFollow before g
  quiet_follow before [] h = tt
  quiet_follow before (e ∷ g) h = (not_copied e.op h.1, quiet_follow (before ++ e ∷ []) g h.2)
    where
      not_copied : (op : Operation) → source_of op ≡ None → IsCopyOfGiven before op
      not_copied (Op.Copy to from) e = absurd (none-some from (sym e))
      not_copied _ e = tt

  -- edges that give and copy nothing
  quiet_leads : (p : Known Sort) (ss : List Sort) (b : Building) (g : Edges) → AllFit ss g → AreQuiet g
      → Leads p (known ss b) → Leads p (record { natures = ss; edges = b.edges ++ g; temps = b.temps })
  quiet_leads p ss b g h q f = record {
    grows = f.grows;
    each = f.each;
    fit = all_append ss b.edges g f.fit h;
    follows = follows_more b.temps b.edges g f.follows (quiet_follow b.edges g q);
    settles = settles_quiet b.temps b.edges g q f.settles;
    later = f.later;
    kept = λ t lt n. never_append b.edges g t (f.kept t lt n) (quiet_copies g t q);
  }

  -- a temporary that is copied is not the one that comes
  below : (p : Known Sort) (ss : List Sort) (b : Building) → Leads p (known ss b) → (op : Operation)
      → Works laid ss op → (t : ℕ) → source_of op ≡ Some t → t < b.temps
  below p ss b f op w t e =
      let s = works_source laid ss op w t e in
      let l : length ss ≡ b.temps = f.each in
      let lt : t < length ss = slice_get_within ss t s.0 s.1 in
      omega (arith, lt, l)

  -- an operation that gives nothing, or again what is not copied yet
  pub again : (p : Known Sort) (ss : List Sort) (b : Building) (op : Operation) → Leads p (known ss b)
      → FitsSorts laid ss op → ((t : ℕ) → source_of op ≡ Some t → p.temps ≤ t)
      → ((t : ℕ) → given op ≡ Some t → NeverCopies b.edges t × (source_of op ≡ Some t → ⊥))
      → Leads p (known ss (place op b))
  again p ss b op f h s q =
      let e : Edge = edge b.node b.nodes op in
      record {
        grows = f.grows;
        each = f.each;
        fit = all_append ss b.edges (e ∷ []) f.fit (h, tt);
        follows = follows_more b.temps b.edges (e ∷ []) f.follows
            (copy_given laid ss b.temps b.edges f.each f.follows op h.0, tt);
        settles = settles_place b.temps b.temps b.edges e (omega arith) q (below p ss b f op h.0) f.settles;
        later = f.later;
        kept = λ t lt n. never_append b.edges (e ∷ []) t (f.kept t lt n)
            (λ x. let ge = s t x in absurd (omega (arith, lt, ge)), tt);
      }

  new_is : (p : Known Sort) (ss : List Sort) (s : Sort) (b : Building) → Leads p (known ss b)
      → slice_get (ss ++ s ∷ []) b.temps ≡ Some s
  new_is p ss s b f = ap (slice_get (ss ++ s ∷ [])) (sym f.each) ∙ at_end ss s

  -- one that gives a new temporary
  anew : (p : Known Sort) (ss : List Sort) (b : Building) (op : Operation) (s : Sort) → Leads p (known ss b)
      → given op ≡ Some b.temps → Works laid ss op → Gives (ss ++ s ∷ []) op s
      → ((t : ℕ) → source_of op ≡ Some t → p.temps ≤ t)
      → Leads p (known (ss ++ s ∷ []) (place_with (suc b.temps) op b))
  anew p ss b op s f q w g src =
      let more : List Sort = ss ++ s ∷ [] in
      let e : Edge = edge b.node b.nodes op in
      let le : p.temps ≤ b.temps = f.later in
      let to : GivesTo more op (Some b.temps) = (s, new_is p ss s b f, g) in
      let h : FitsSorts laid more op =
      (works_grown laid ss more (grows_end ss s) op w, subst (λ z. GivesTo more op z) (sym q) to) in
      record {
        grows = grows_on p.natures ss more f.grows (grows_end ss s);
        each = length_end ss s ∙ ap suc f.each;
        fit = all_append more b.edges (e ∷ []) (all_grown ss more (grows_end ss s) b.edges f.fit) (h, tt);
        follows = follows_new b.temps b.edges e q f.follows
            (copy_given laid ss b.temps b.edges f.each f.follows op w);
        settles = settles_place b.temps (suc b.temps) b.edges e (omega arith)
            (λ t x. new_open t (same_Some b.temps t (sym q ∙ x)))
            (λ t x. let lt = below p ss b f op w t x in omega (arith, lt)) f.settles;
        later = omega (arith, le);
        kept = λ t lt n. never_append b.edges (e ∷ []) t (f.kept t lt n)
            (λ x. let ge = src t x in absurd (omega (arith, lt, ge)), tt);
      }
    where
      new_open : (t : ℕ) → b.temps ≡ t → NeverCopies b.edges t × (source_of op ≡ Some t → ⊥)
      new_open t e = (
        subst (λ u. NeverCopies b.edges u) e (f.settles.later b.temps (omega arith)),
        λ x. let lt = below p ss b f op w t x in absurd (omega (arith, lt, e)),
      )

  -- ## What is kept

  same : {p q : Known Sort} → Leads p q → Leads q q
  same {q = q} f = record {
    grows = grows_same q.natures;
    each = f.each;
    fit = f.fit;
    follows = f.follows;
    settles = f.settles;
    later = omega arith;
    kept = λ t lt n. n;
  }

  on : {p q r : Known Sort} → Leads p q → Leads q r → Leads p r
  on {p = p} {q = q} {r = r} f g =
      let le : p.temps ≤ q.temps = f.later in
      let le' : q.temps ≤ r.temps = g.later in
      record {
        grows = grows_on p.natures q.natures r.natures f.grows g.grows;
        each = g.each;
        fit = g.fit;
        follows = g.follows;
        settles = g.settles;
        later = omega (arith, le, le');
        kept = λ t lt n. g.kept t (omega (arith, lt, le)) (f.kept t lt n);
      }

  variable : (ss : List Sort) (n : ℕ) (ts : List ℕ) (vs : List Sort) → AreTemps (sorted laid) sayings ss n ts vs
      → (v : ℕ) (s : Sort) → slice_get vs v ≡ Some s → (slice_get ss (at ts v) ≡ Some s) × (n ≤ at ts v)
  variable ss n [] [] h v s e = absurd (none-some s e)
  variable ss n [] (x ∷ vs) h v s e = absurd h
  variable ss n (t ∷ ts) [] h v s e = absurd h
  variable ss n (t ∷ ts) (x ∷ vs) h zero s e = (h.0.0 ∙ e, h.0.1)
  variable ss n (t ∷ ts) (x ∷ vs) h (suc v) s e = variable ss n ts vs h.1 v s e

  maps : (ss : List Sort) (n : ℕ) (ts : List ℕ) (vs : List Sort) → AreTemps (sorted laid) sayings ss n ts vs
      → Maps (at ts) vs ss
  maps ss n ts vs a v s e = (variable ss n ts vs a v s e).0

  -- an operation over variables that gives nothing
  acts : (p : Known Sort) (ss : List Sort) (b : Building) (ts : List ℕ) (vs : List Sort)
      → AreTemps (sorted laid) sayings ss p.temps ts vs → (op : Operation) → given op ≡ None
      → Works laid vs op × Unit {0} → Leads p (known ss b) → Leads p (known ss (place (renamed (at ts) 0 op) b))
  acts p ss b ts vs a op e w f =
      let op' : Operation = renamed (at ts) 0 op in
      let is : given op' ≡ None = given_renamed (at ts) 0 op ∙ ap (renamed_to 0) e in
      again p ss b op' f (
        works_mapped (at ts) vs ss (maps ss p.temps ts vs a) laid 0 op w.0,
        subst (λ z. GivesTo ss op' z) (sym is) tt,
      ) (source_from laid vs op w.0 p.temps (at ts) (λ v s x. (variable ss p.temps ts vs a v s x).1) 0)
      (λ t q. absurd (none-some t (sym is ∙ q)))

  pub gives_new : (p : Known Sort) (ss : List Sort) (b : Building) (op : ℕ → Operation) (s : Sort)
      → ((t : ℕ) → MayGive ss p.temps (op t) t s) → Leads p (known ss b)
      → Leads p (known (ss ++ s ∷ []) (place_new op b))
      × IsOpen (known (ss ++ s ∷ []) (place_new op b)) b.temps b.temps s
  gives_new p ss b op s g f =
      let h : MayGive ss p.temps (op b.temps) b.temps s = g b.temps in (
        anew p ss b (op b.temps) s f h.given h.works
            (gives_grown laid ss (ss ++ s ∷ []) (grows_end ss s) (op b.temps) s h.gives) h.sources,
        record {
          sort = new_is p ss s b f;
          from = omega arith;
          below = omega arith;
          never = never_append b.edges (edge b.node b.nodes (op b.temps) ∷ []) b.temps
              (f.settles.later b.temps (omega arith))
              (λ e. let lt = below p ss b f (op b.temps) h.works b.temps e in absurd (omega (arith, lt)), tt);
        },
      )

  gives_again : (p : Known Sort) (ss : List Sort) (b : Building) (op : ℕ → Operation) (s : Sort) (n t : ℕ)
      → IsOpen p n t s → ((t : ℕ) → MayGive ss p.temps (op t) t s) → Leads p (known ss b)
      → Leads p (known ss (place (op t) b))
  gives_again p ss b op s n t o g f =
      let h : MayGive ss p.temps (op t) t s = g t in
      let lt : t < p.temps = o.below in
      again p ss b (op t) f (h.works, subst (λ z. GivesTo ss (op t) z) (sym h.given) (s, f.grows t s o.sort, h.gives))
      h.sources
      (λ u e. subst (λ x. NeverCopies b.edges x × (source_of (op t) ≡ Some x → ⊥)) (same_Some t u (sym h.given ∙ e))
      (f.kept t lt o.never, λ x. let ge = h.sources t x in absurd (omega (arith, lt, ge))))

  pub kept : AreKept (sorted laid) sayings
  kept = record {
    same = same;
    on = on;
    later = λ f. f.later;
    grown = λ f n t s h. (f.grows t s h.0, h.1);
    one_more = λ ss w n t s h. (grows_end ss w t s h.0, h.1);
    earlier = λ ss n m t s le h. let from : m ≤ t = h.1 in (h.0, omega (arith, le, from));
    any = λ ss n t s h. absurd h;
    variable = variable;
    acts = acts;
    yields = λ ss n ts vs a op t s e w u. record {
      given = given_renamed (at ts) u op ∙ ap (renamed_to u) e;
      works = works_mapped (at ts) vs ss (maps ss n ts vs a) laid u op w.0;
      gives = gives_mapped (at ts) vs ss (maps ss n ts vs a) u op s w.1;
      sources = source_from laid vs op w.0 n (at ts) (λ v x i. (variable ss n ts vs a v x i).1) u;
    };
    skipped = λ p ss b g h f. quiet_leads p ss b g (skips_fit ss g h) (skips_quiet g h) f;
    branches = λ p ss b test w f.
        quiet_leads p ss b _ ((w, tt), ((tests_opposite ss test w, tt), tt)) (refl, refl, (refl, refl, tt)) f;
    tested = λ ss n ts vs a test w. tests_mapped (at ts) vs ss (maps ss n ts vs a) test w;
    cases = λ ss n t s w h z. (w.0, (s, h.0, w.1));
    gives_new = gives_new;
    gives_again = gives_again;
    copies = λ ss n t s s' h w u. record {
      given = refl;
      works = (s, holds_own ss t s h.0);
      gives = (s, h.0, w);
      sources = λ x e. subst (λ z. n ≤ z) (same_Some t x e) h.1;
    };
    truths = λ ss n s e b t. record {
      given = refl;
      works = tt;
      gives = subst (λ z. IsOfSort z (truth_value b)) (sym e) (truth_of_sort b);
      sources = λ u x. absurd (none-some u x);
    };
    still_open = λ f n t s o. record {
      sort = f.grows t s o.sort;
      from = o.from;
      below = (let lt = o.below in let le = f.later in omega (arith, lt, le));
      never = f.kept t o.below o.never;
    };
    open_earlier = λ p n m t s le o. record {
      sort = o.sort;
      from = (let from = o.from in omega (arith, le, from));
      below = o.below;
      never = o.never;
    };
    opened = λ p n t s o. (o.sort, o.from);
  }
