-- The law of induction: what is said of edges and of the natures of temporaries holds of all that is built from steps
-- that fit, where each form of operation keeps it.
use Rattle.std.proofs.Common.{◌≡◌, refl, subst, ℕ, ◌≤◌, Bool, true, false, List, [], ◌∷◌, ◌++◌, Option, Some, None}
use Rattle.std.specs.Prelude.{ℤ}
use Rattle.temporary_types.specs.tm_terms.declared.places.Place.{Place}
use Rattle.temporary_types.specs.concrete_values.Values.{truth_value}
use Rattle.temporary_types.specs.flow_graph.declared.operations.Test.{Test}
use Rattle.temporary_types.specs.flow_graph.declared.operations.Test.TheVariants as Tested
use Rattle.temporary_types.specs.flow_graph.declared.operations.Operation.{Operation}
use Rattle.temporary_types.specs.flow_graph.declared.operations.Operation.TheVariants as Op
use Rattle.temporary_types.specs.flow_graph.Operations.{given}
use Rattle.temporary_types.specs.flow_graph.Graphs.{Edges}
use Rattle.lowering_laws.specs.lowering.Steps.{Steps, no_more, first_then, Step, operate, value_of, only_do, truth_of}
use Rattle.lowering_laws.specs.lowering.Steps.{choose, choose_only, call_of, Inputs, no_inputs, and_input, Code, code}
use Rattle.lowering_laws.specs.lowering.Steps.{Fork, fork_by, converse, both_of, either_of}
use Rattle.lowering_laws.specs.lowering.Built.{edge, at, renamed, renamed_test, Building, place, place_new, branch}
use Rattle.lowering_laws.specs.lowering.Built.{goto, skips, meet, close_loop, temp_of, with_value, only_at, operated}
use Rattle.lowering_laws.specs.lowering.Built.{truth_met, copied, copied_to, Sites, AfterSteps, AfterPart, Forked}
use Rattle.lowering_laws.specs.lowering.Built.{steps_piece, step_piece, inputs_piece, code_piece, fork_piece}
use Rattle.operation_laws.proofs.Natures.{Natures, with_var, Operates, StepsFit, StepFits, InputsFit, CodeFits}
use Rattle.operation_laws.proofs.Natures.{ForkFits}

-- what is built so far, and the natures of its temporaries
pub record Known (V : Type 0) : Type 0 where
  pub natures : List V
  pub edges : Edges
  pub temps : ℕ

abbrev pub known : {V : Type 0} → List V → Building → Known V
known ss b = record { natures = ss; edges = b.edges; temps = b.temps }

-- edges that do nothing
abbrev pub AreSkips : Edges → Type 0
AreSkips [] = Unit {0}
AreSkips (e ∷ g) = (e.op ≡ Op.Skip) × AreSkips g

are_skips : (ns : List ℕ) (j : ℕ) → AreSkips (skips ns j)
are_skips [] j = tt
are_skips (n ∷ ns) j = (refl, are_skips ns j)

-- what is said of what is built
pub record Sayings (N : Natures) : Type 1 where
  -- the one is built, and from it on the other
  pub Leads : Known N.Nature → Known N.Nature → Type 0
  -- the temporary, one of those from a number on, has the nature
  pub Has : List N.Nature → ℕ → ℕ → N.Nature → Type 0
  -- and more edges may give it
  pub IsOpen : Known N.Nature → ℕ → ℕ → N.Nature → Type 0
  -- an operation over temporaries from a number on gives one of the nature
  pub Gives : List N.Nature → ℕ → (ℕ → Operation) → N.Nature → Type 0

module _ (N : Natures) (F : Sayings N) where
  abbrev V : Type 0
  V = N.Nature

  -- temporaries of variables with these natures
  abbrev pub AreTemps : List V → ℕ → List ℕ → List V → Type 0
  AreTemps ss n [] [] = Unit {0}
  AreTemps ss n [] (v ∷ vs) = ⊥
  AreTemps ss n (t ∷ ts) [] = ⊥
  AreTemps ss n (t ∷ ts) (v ∷ vs) = F.Has ss n t v × AreTemps ss n ts vs

  -- the value has the nature, if it has one
  abbrev pub HasValue : List V → ℕ → Option ℕ → Option V → Type 0
  HasValue ss n t None = Unit {0}
  HasValue ss n t (Some v) = F.Has ss n (temp_of t) v

  -- more is built
  pub record Built (p : Known V) (b : Building) : Type 0 where
    pub natures : List V
    pub leads : F.Leads p (known natures b)

  -- and the variables have these natures
  pub record StepsBuilt (p : Known V) (x : AfterSteps) (ws : List V) : Type 0 where
    pub natures : List V
    pub leads : F.Leads p (known natures x.at)
    pub temps : AreTemps natures p.temps x.temps ws

  -- and the value has this nature
  pub record PartBuilt (p : Known V) (x : AfterPart) (o : Option V) : Type 0 where
    pub natures : List V
    pub leads : F.Leads p (known natures x.at)
    pub value : HasValue natures p.temps x.temp o

  -- and the temporary is given
  pub record Given (p : Known V) (n : ℕ) (b : Building) (t : ℕ) (v : V) : Type 0 where
    pub natures : List V
    pub leads : F.Leads p (known natures b)
    pub opened : F.IsOpen (known natures b) n t v

  -- each form keeps it
  pub record AreKept : Type 0 where
    pub same : {p q : Known V} → F.Leads p q → F.Leads q q
    pub on : {p q r : Known V} → F.Leads p q → F.Leads q r → F.Leads p r
    pub later : {p q : Known V} → F.Leads p q → p.temps ≤ q.temps
    pub grown : {p q : Known V} → F.Leads p q → (n t : ℕ) (v : V) → F.Has p.natures n t v → F.Has q.natures n t v
    pub one_more : (ss : List V) (w : V) (n t : ℕ) (v : V) → F.Has ss n t v → F.Has (ss ++ w ∷ []) n t v
    pub earlier : (ss : List V) (n m t : ℕ) (v : V) → n ≤ m → F.Has ss m t v → F.Has ss n t v
    pub any : (ss : List V) (n t : ℕ) (v : V) → N.IsAny v → F.Has ss n t v
    pub variable : (ss : List V) (n : ℕ) (ts : List ℕ) (vs : List V) → AreTemps ss n ts vs → (v : ℕ) (s : V)
        → N.Is vs v s → F.Has ss n (at ts v) s
    pub acts : (p : Known V) (ss : List V) (b : Building) (ts : List ℕ) (vs : List V) → AreTemps ss p.temps ts vs
        → (op : Operation) → given op ≡ None → N.Acts vs op → F.Leads p (known ss b)
        → F.Leads p (known ss (place (renamed (at ts) 0 op) b))
    pub yields : (ss : List V) (n : ℕ) (ts : List ℕ) (vs : List V) → AreTemps ss n ts vs → (op : Operation) (t : ℕ)
        (v : V) → given op ≡ Some t → N.Yields vs op v → F.Gives ss n (λ u. renamed (at ts) u op) v
    pub skipped : (p : Known V) (ss : List V) (b : Building) (g : Edges) → AreSkips g → F.Leads p (known ss b)
        → F.Leads p (record { natures = ss; edges = b.edges ++ g; temps = b.temps })
    pub branches : (p : Known V) (ss : List V) (b : Building) (test : Test) → N.Tests ss test → F.Leads p (known ss b)
        → F.Leads p (known ss (branch test b))
    pub tested : (ss : List V) (n : ℕ) (ts : List ℕ) (vs : List V) → AreTemps ss n ts vs → (test : Test)
        → N.Tests vs test → N.Tests ss (renamed_test (at ts) test)
    pub cases : (ss : List V) (n t : ℕ) (v : V) → N.IsCase v → F.Has ss n t v → (z : ℤ)
        → N.Tests ss (Tested.Case true z t)
    pub gives_new : (p : Known V) (ss : List V) (b : Building) (op : ℕ → Operation) (v : V) → F.Gives ss p.temps op v
        → F.Leads p (known ss b) → F.Leads p (known (ss ++ v ∷ []) (place_new op b))
        × F.IsOpen (known (ss ++ v ∷ []) (place_new op b)) b.temps b.temps v
    pub gives_again : (p : Known V) (ss : List V) (b : Building) (op : ℕ → Operation) (v : V) (n t : ℕ)
        → F.IsOpen p n t v → F.Gives ss p.temps op v → F.Leads p (known ss b) → F.Leads p (known ss (place (op t) b))
    pub copies : (ss : List V) (n t : ℕ) (v w : V) → F.Has ss n t v → N.Becomes v w
        → F.Gives ss n (λ u. Op.Copy u t) w
    pub truths : (ss : List V) (n : ℕ) (v : V) → N.IsTruth v → (b : Bool)
        → F.Gives ss n (λ t. Op.Const t (truth_value b)) v
    pub still_open : {p q : Known V} → F.Leads p q → (n t : ℕ) (v : V) → F.IsOpen p n t v → F.IsOpen q n t v
    pub open_earlier : (p : Known V) (n m t : ℕ) (v : V) → n ≤ m → F.IsOpen p m t v → F.IsOpen p n t v
    pub opened : (p : Known V) (n t : ℕ) (v : V) → F.IsOpen p n t v → F.Has p.natures n t v

  temps_end : (ss : List V) (n : ℕ) (ts : List ℕ) (vs : List V) (t : ℕ) (v : V) → AreTemps ss n ts vs
      → F.Has ss n t v → AreTemps ss n (ts ++ t ∷ []) (vs ++ v ∷ [])
  temps_end ss n [] [] t v h e = (e, tt)
  temps_end ss n [] (x ∷ vs) t v h e = absurd h
  temps_end ss n (y ∷ ts) [] t v h e = absurd h
  temps_end ss n (y ∷ ts) (x ∷ vs) t v h e = (h.0, temps_end ss n ts vs t v h.1 e)

  pub temps_by : (ss ss' : List V) (n m : ℕ) → ((t : ℕ) (v : V) → F.Has ss n t v → F.Has ss' m t v) → (ts : List ℕ)
      (vs : List V) → AreTemps ss n ts vs → AreTemps ss' m ts vs
  temps_by ss ss' n m g [] [] h = tt
  temps_by ss ss' n m g [] (x ∷ vs) h = absurd h
  temps_by ss ss' n m g (t ∷ ts) [] h = absurd h
  temps_by ss ss' n m g (t ∷ ts) (x ∷ vs) h = (g t x h.0, temps_by ss ss' n m g ts vs h.1)

  module _ (K : AreKept) where
    -- ## Edges that do nothing

    pub meets : (p : Known V) (ss : List V) (ns : List ℕ) (b : Building) → F.Leads p (known ss b)
        → F.Leads p (known ss (meet ns b))
    meets p ss ns b f = K.skipped p ss b (skips ns b.nodes) (are_skips ns b.nodes) f

    pub closes : (p : Known V) (ss : List V) (head : ℕ) (outs : List ℕ) (b : Building) → F.Leads p (known ss b)
        → F.Leads p (known ss (close_loop head outs b))
    closes p ss head outs b f =
        K.skipped p ss b (edge b.node head Op.Skip ∷ skips outs b.nodes) (refl, are_skips outs b.nodes) f

    pub skip : (p : Known V) (ss : List V) (n m : ℕ) (b : Building) → F.Leads p (known ss b)
        → F.Leads p (record { natures = ss; edges = b.edges ++ edge n m Op.Skip ∷ []; temps = b.temps })
    skip p ss n m b f = K.skipped p ss b (edge n m Op.Skip ∷ []) (refl, tt) f

    -- ## Steps

    value_built : (p : Known V) (ss : List V) (ts : List ℕ) (vs : List V) (v : V) (b : Building) (x : AfterPart)
        → F.Leads p (known ss b) → AreTemps ss p.temps ts vs → PartBuilt (known ss b) x (Some v)
        → StepsBuilt p (with_value ts x) (vs ++ v ∷ [])
    value_built p ss ts vs v b x f a y = record {
      natures = y.natures;
      leads = K.on f y.leads;
      temps = temps_end y.natures p.temps ts vs (temp_of x.temp) v
          (temps_by ss y.natures p.temps p.temps (K.grown y.leads p.temps) ts vs a)
          (K.earlier y.natures p.temps b.temps (temp_of x.temp) v (K.later f) y.value);
    }

    only_built : (p : Known V) (ss : List V) (ts : List ℕ) (vs : List V) (b c : Building) → F.Leads p (known ss b)
        → AreTemps ss p.temps ts vs → Built (known ss b) c → StepsBuilt p (only_at ts c) vs
    only_built p ss ts vs b c f a y = record {
      natures = y.natures;
      leads = K.on f y.leads;
      temps = temps_by ss y.natures p.temps p.temps (K.grown y.leads p.temps) ts vs a;
    }

    part_built : (p : Known V) (x : AfterPart) (o : Option V) → PartBuilt p x o → Built p x.at
    part_built p x o y = record { natures = y.natures; leads = y.leads }

    -- two ways, of which the one gives the temporary, and the other gives it again, come together
    ways_met : (p : Known V) (n : ℕ) (ns : List ℕ) (b c : Building) (t : ℕ) (v : V) (g : Given p n b t v)
        → (ss : List V) → F.Leads (known g.natures b) (known ss c) → p.temps ≤ n
        → PartBuilt p (record { at = meet ns c; temp = Some t }) (Some v)
    ways_met p n ns b c t v g ss f le = record {
      natures = ss;
      leads = meets p ss ns c (K.on g.leads f);
      value = K.earlier ss p.temps n t v le (K.opened (known ss c) n t v (K.still_open f n t v g.opened));
    }

    -- where a fork's two ways come together again, 1 and 0 are given to one temporary
    truth_built : (p : Known V) (o : Forked) → Built p o.at → (v : V) → N.IsTruth v
        → PartBuilt p (record { at = truth_met o; temp = Some o.at.temps }) (Some v)
    truth_built p o g v is =
        let t : ℕ = o.at.temps in
        let one : ℕ → Operation = λ u. Op.Const u (truth_value true) in
        let none : ℕ → Operation = λ u. Op.Const u (truth_value false) in
        let b1 : Building = place_new one o.at in
        let b2 : Building = place (none t) (goto o.other b1) in
        let more : List V = g.natures ++ v ∷ [] in
        let y = K.gives_new p g.natures o.at one v (K.truths g.natures p.temps v is true) g.leads in
        let f : F.Leads (known more b1) (known more b2) =
        K.gives_again (known more b1) more (goto o.other b1) none v t t y.1 (K.truths more b1.temps v is false)
        (K.same y.0) in
        ways_met p t (b1.node ∷ b2.node ∷ []) b1 b2 t v (record { natures = more; leads = y.0; opened = y.1 }) more f
        (K.later g.leads)

    operation_built : (p : Known V) (op : Operation) (g : Option ℕ) → given op ≡ g → (vs : List V) (o : Option V)
        → Operates N vs op g o → (ss : List V) (ts : List ℕ) (b : Building) → F.Leads p (known ss b)
        → AreTemps ss p.temps ts vs → StepsBuilt p (operated ts op g b) (with_var vs o)
    operation_built p op None e vs None h ss ts b f a =
        record { natures = ss; leads = K.acts p ss b ts vs a op e h f; temps = a }
    operation_built p op None e vs (Some v) h ss ts b f a = absurd h
    operation_built p op (Some t) e vs None h ss ts b f a = absurd h
    operation_built p op (Some t) e vs (Some v) h ss ts b f a =
        let more : List V = ss ++ v ∷ [] in
        let op' : ℕ → Operation = λ u. renamed (at ts) u op in
        let y = K.gives_new p ss b op' v (K.yields ss p.temps ts vs a op t v e h) f in
        record {
          natures = more;
          leads = y.0;
          temps = temps_end more p.temps ts vs b.temps v
              (temps_by ss more p.temps p.temps (K.one_more ss v p.temps) ts vs a)
              (K.earlier more p.temps b.temps b.temps v (K.later f)
              (K.opened (known more (place_new op' b)) b.temps b.temps v y.1));
        }

    module _ (Call : ℕ → List V → Option V → Type 0) (call : Sites)
        (call_built : (p : Known V) (site : ℕ) (ins : List V) (o : Option V) → Call site ins o → (ss : List V)
        (ts : List ℕ) (pl : Place) (b : Building) → F.Leads p (known ss b) → AreTemps ss p.temps ts ins
        → PartBuilt p (call site ts pl b) o) where
      mutual
        pub steps_built : (p : Known V) (steps : Steps) (vs ws : List V) → StepsFit N Call vs steps ws → (ss : List V)
            (ts : List ℕ) (b : Building) → F.Leads p (known ss b) → AreTemps ss p.temps ts vs
            → StepsBuilt p (steps_piece call steps ts b) ws
        steps_built p no_more vs ws h ss ts b f a =
            record { natures = ss; leads = f; temps = subst (λ z. AreTemps ss p.temps ts z) h a }
        steps_built p (first_then s rest) vs ws h ss ts b f a =
            let x : AfterSteps = step_piece call s ts b in
            let y : StepsBuilt p x (with_var vs h.0) = step_built p s vs h.0 h.1 ss ts b f a in
            steps_built p rest (with_var vs h.0) ws h.2 y.natures x.temps x.at y.leads y.temps

        step_built : (p : Known V) (s : Step) (vs : List V) (o : Option V) → StepFits N Call vs s o → (ss : List V)
            (ts : List ℕ) (b : Building) → F.Leads p (known ss b) → AreTemps ss p.temps ts vs
            → StepsBuilt p (step_piece call s ts b) (with_var vs o)
        step_built p (operate op) vs o h ss ts b f a =
            operation_built p op (given op) refl vs o h ss ts b f a
        step_built p (value_of c) vs (Some v) h ss ts b f a =
            value_built p ss ts vs v b (code_piece call c b) f a
            (code_built (known ss b) c (Some v) h ss b (K.same f))
        step_built p (only_do c) vs None h ss ts b f a =
            only_built p ss ts vs b (code_piece call c b).at f a
            (part_built (known ss b) (code_piece call c b) h.0
            (code_built (known ss b) c h.0 h.1 ss b (K.same f)))
        step_built p (truth_of q) vs (Some v) h ss ts b f a =
            let o : Forked = fork_piece call q b in
            value_built p ss ts vs v b (record { at = truth_met o; temp = Some o.at.temps }) f a
            (truth_built (known ss b) o (fork_built (known ss b) q h.1 ss b (K.same f)) v h.0)
        step_built p (choose q x y) vs (Some v) h ss ts b f a =
            let o : Forked = fork_piece call q b in
            let g : Built (known ss b) o.at = fork_built (known ss b) q h.2 ss b (K.same f) in
            let c : AfterPart = code_piece call x o.at in
            let k : Known V = known g.natures o.at in
            let z : PartBuilt k c (Some h.0) = code_built k x (Some h.0) h.3 g.natures o.at (K.same g.leads) in
            let t : ℕ = c.at.temps in
            let first : ℕ → Operation = λ u. Op.Copy u (temp_of c.temp) in
            let more : List V = z.natures ++ v ∷ [] in
            let i = K.gives_new k z.natures c.at first v
            (K.copies z.natures o.at.temps (temp_of c.temp) h.0 v z.value h.4) z.leads in
            let d : AfterPart = code_piece call y (goto o.other (copied c)) in
            let l : Known V = known more (copied c) in
            let w : PartBuilt l d (Some h.1) =
            code_built l y (Some h.1) h.5 more (goto o.other (copied c)) (K.same i.0) in
            let second : ℕ → Operation = λ u. Op.Copy u (temp_of d.temp) in
            let e : F.Leads l (known w.natures (copied_to t d)) =
            K.gives_again l w.natures d.at second v t t i.1
            (K.copies w.natures (copied c).temps (temp_of d.temp) h.1 v w.value h.6) w.leads in
            let j : Given (known ss b) t (copied c) t v =
            record { natures = more; leads = K.on g.leads i.0; opened = i.1 } in
            value_built p ss ts vs v b
            (record { at = meet ((copied c).node ∷ (copied_to t d).node ∷ []) (copied_to t d); temp = Some t }) f a
            (ways_met (known ss b) t ((copied c).node ∷ (copied_to t d).node ∷ []) (copied c) (copied_to t d) t v j
            w.natures e (K.later (K.on g.leads z.leads)))
        step_built p (choose_only q x y) vs None h ss ts b f a =
            let k : Known V = known ss b in
            let o : Forked = fork_piece call q b in
            let g : Built k o.at = fork_built k q h.2 ss b (K.same f) in
            let c : AfterPart = code_piece call x o.at in
            let z : PartBuilt k c h.0 = code_built k x h.0 h.3 g.natures o.at g.leads in
            let d : AfterPart = code_piece call y (goto o.other c.at) in
            let w : PartBuilt k d h.1 = code_built k y h.1 h.4 z.natures (goto o.other c.at) z.leads in
            only_built p ss ts vs b (meet (c.at.node ∷ d.at.node ∷ []) d.at) f a
            (record { natures = w.natures; leads = meets k w.natures (c.at.node ∷ d.at.node ∷ []) d.at w.leads })
        step_built p (call_of true site es pl) vs (Some v) h ss ts b f a =
            let k : Known V = known ss b in
            let x : AfterSteps = inputs_piece call es b in
            let y : StepsBuilt k x h.0 = inputs_built k es h.0 h.1 ss b (K.same f) in
            value_built p ss ts vs v b (call site x.temps pl x.at) f a
            (call_built k site h.0 (Some v) h.2 y.natures x.temps pl x.at y.leads y.temps)
        step_built p (call_of false site es pl) vs None h ss ts b f a =
            let k : Known V = known ss b in
            let x : AfterSteps = inputs_piece call es b in
            let y : StepsBuilt k x h.0 = inputs_built k es h.0 h.2 ss b (K.same f) in
            only_built p ss ts vs b (call site x.temps pl x.at).at f a
            (part_built k (call site x.temps pl x.at) h.1
            (call_built k site h.0 h.1 h.3 y.natures x.temps pl x.at y.leads y.temps))
        step_built p _ vs _ h ss ts b f a = absurd h

        inputs_built : (p : Known V) (es : Inputs) (ins : List V) → InputsFit N Call es ins → (ss : List V)
            (b : Building) → F.Leads p (known ss b) → StepsBuilt p (inputs_piece call es b) ins
        inputs_built p no_inputs [] h ss b f = record { natures = ss; leads = f; temps = tt }
        inputs_built p no_inputs (v ∷ ins) h ss b f = absurd h
        inputs_built p (and_input c es) [] h ss b f = absurd h
        inputs_built p (and_input c es) (v ∷ ins) h ss b f =
            let x : AfterPart = code_piece call c b in
            let y : PartBuilt p x (Some v) = code_built p c (Some v) h.0 ss b f in
            let k : Known V = known y.natures x.at in
            let i : AfterSteps = inputs_piece call es x.at in
            let z : StepsBuilt k i ins = inputs_built k es ins h.1 y.natures x.at (K.same y.leads) in
            record {
              natures = z.natures;
              leads = K.on y.leads z.leads;
              temps = (
                K.grown z.leads p.temps (temp_of x.temp) v y.value,
                temps_by z.natures z.natures x.at.temps p.temps
                    (λ t v. K.earlier z.natures p.temps x.at.temps t v (K.later y.leads)) i.temps ins z.temps,
              );
            }

        pub code_built : (p : Known V) (c : Code) (o : Option V) → CodeFits N Call c o → (ss : List V) (b : Building)
            → F.Leads p (known ss b) → PartBuilt p (code_piece call c b) o
        code_built p (code steps None) (Some v) h ss b f =
            let y : StepsBuilt p (steps_piece call steps [] b) h.0 = steps_built p steps [] h.0 h.1 ss [] b f tt in
            record { natures = y.natures; leads = y.leads; value = K.any y.natures p.temps 0 v h.2 }
        code_built p (code steps None) None h ss b f =
            let y : StepsBuilt p (steps_piece call steps [] b) h.0 = steps_built p steps [] h.0 h.1 ss [] b f tt in
            record { natures = y.natures; leads = y.leads; value = tt }
        code_built p (code steps (Some v)) None h ss b f = absurd h
        code_built p (code steps (Some v)) (Some s) h ss b f =
            let x : AfterSteps = steps_piece call steps [] b in
            let y : StepsBuilt p x h.0 = steps_built p steps [] h.0 h.1 ss [] b f tt in
            record {
              natures = y.natures;
              leads = y.leads;
              value = K.variable y.natures p.temps x.temps h.0 y.temps v s h.2;
            }

        pub fork_built : (p : Known V) (q : Fork) → ForkFits N Call q → (ss : List V) (b : Building)
            → F.Leads p (known ss b) → Built p (fork_piece call q b).at
        fork_built p (fork_by steps test) h ss b f =
            let x : AfterSteps = steps_piece call steps [] b in
            let y : StepsBuilt p x h.0 = steps_built p steps [] h.0 h.1 ss [] b f tt in
            record {
              natures = y.natures;
              leads = K.branches p y.natures x.at (renamed_test (at x.temps) test)
                  (K.tested y.natures p.temps x.temps h.0 y.temps test h.2) y.leads;
            }
        fork_built p (converse q) h ss b f =
            let g : Built p (fork_piece call q b).at = fork_built p q h ss b f in
            record { natures = g.natures; leads = g.leads }
        fork_built p (both_of q l) h ss b f =
            let o : Forked = fork_piece call q b in
            let g : Built p o.at = fork_built p q h.0 ss b f in
            let r : Forked = fork_piece call l o.at in
            let i : Built p r.at = fork_built p l h.1 g.natures o.at g.leads in
            record { natures = i.natures; leads = meets p i.natures (o.other ∷ r.other ∷ []) r.at i.leads }
        fork_built p (either_of q l) h ss b f =
            let o : Forked = fork_piece call q b in
            let g : Built p o.at = fork_built p q h.0 ss b f in
            let r : Forked = fork_piece call l (goto o.other o.at) in
            let i : Built p r.at = fork_built p l h.1 g.natures (goto o.other o.at) g.leads in
            record { natures = i.natures; leads = meets p i.natures (o.at.node ∷ r.at.node ∷ []) r.at i.leads }
