-- The law of induction over what is built from plans that fit.
use Rattle.std.proofs.Common.{◌≡◌, refl, sym, subst, ℕ, suc, ◌≤◌, true, List, [], ◌∷◌, ◌++◌, Option}
use Rattle.std.proofs.Common.{Some, None, arith}
use Rattle.temporary_types.specs.tm_terms.declared.places.Place.{Place}
use Rattle.temporary_types.specs.flow_graph.declared.operations.Test.TheVariants as Tested
use Rattle.temporary_types.specs.flow_graph.declared.operations.Operation.{Operation}
use Rattle.temporary_types.specs.flow_graph.declared.operations.Operation.TheVariants as Op
use Rattle.lowering_laws.specs.lowering.Steps.{Steps, Code, Fork, Plan, nothing_more, in_turn, all_steps, one_of}
use Rattle.lowering_laws.specs.lowering.Steps.{loop_while, loop_stepping, loop_until, select, break_off, go_on}
use Rattle.lowering_laws.specs.lowering.Steps.{give_back, Parts, no_parts, labelled, by_default, and_plan}
use Rattle.lowering_laws.specs.lowering.Built.{Building, place, place_new, branch, goto, meet, nowhere}
use Rattle.lowering_laws.specs.lowering.Built.{temp_of, Sites, AfterPart, Forked, Entered, Labels, Passed, steps_piece}
use Rattle.lowering_laws.specs.lowering.Built.{code_piece, fork_piece, is_break, is_continue, nodes_by, Onward, ToHead}
use Rattle.lowering_laws.specs.lowering.Built.{Later, continued_at, place_result, result_of, tests_piece}
use Rattle.lowering_laws.specs.lowering.Built.{unless_default, first_of, behind_first, entered, given_back, plan_piece}
use Rattle.lowering_laws.specs.lowering.Built.{parts_piece}
use Rattle.operation_laws.proofs.Natures.{Natures, MaybeFork, AnySteps, MaybeCode, PlanFits, PartsFit}
use Rattle.operation_laws.proofs.BuiltSteps.{Known, known, Sayings, AreTemps, Built, StepsBuilt, PartBuilt, Given}
use Rattle.operation_laws.proofs.BuiltSteps.{AreKept, meets, closes, skip, steps_built, code_built, fork_built}

module _ (N : Natures) (F : Sayings N) where
  abbrev V : Type 0
  V = N.Nature

  -- the temporary of a call's value, if there is one yet, is one of those from a number on, and more edges may give it
  abbrev pub IsResult : Known V → ℕ → Option V → Option ℕ → Type 0
  IsResult q n r None = n ≤ q.temps
  IsResult q n None (Some t) = ⊥
  IsResult q n (Some v) (Some t) = F.IsOpen q n t v

  -- after a statement of a function with such a result
  pub record Through (p : Known V) (n : ℕ) (r : Option V) (x : Passed) : Type 0 where
    pub natures : List V
    pub leads : F.Leads p (known natures x.at)
    pub result : IsResult (known natures x.at) n r x.result

  module _ (K : AreKept N F) where
    pub result_on : (p q : Known V) → F.Leads p q → (n : ℕ) (r : Option V) (res : Option ℕ) → IsResult p n r res
        → IsResult q n r res
    result_on p q f n r None h = let le : p.temps ≤ q.temps = K.later f in omega (arith, h, le)
    result_on p q f n None (Some t) h = absurd h
    result_on p q f n (Some v) (Some t) h = K.still_open f n t v h

    -- an operation that gives the value of a call
    pub result_built : (p : Known V) (n : ℕ) (res : Option ℕ) (op : ℕ → Operation) (v : V) (ss : List V)
        (b : Building) → IsResult p n (Some v) res → F.Gives ss p.temps op v → F.Leads p (known ss b)
        → Given N F p n (place_result res op b) (result_of res b) v
    result_built p n None op v ss b k g f =
        let y = K.gives_new p ss b op v g f in
        let le : p.temps ≤ b.temps = K.later f in
        record {
          natures = ss ++ v ∷ [];
          leads = y.0;
          opened = K.open_earlier (known (ss ++ v ∷ []) (place_new op b)) n b.temps b.temps v (omega (arith, k, le))
              y.1;
        }
    result_built p n (Some t) op v ss b k g f =
        let f' = K.gives_again p ss b op v n t k g f in
        record { natures = ss; leads = f'; opened = K.still_open f' n t v k }

    pub continues : (p : Known V) (ss : List V) (ns : List ℕ) (b : Building) → F.Leads p (known ss b)
        → F.Leads p (known ss (continued_at ns b))
    continues p ss [] b f = f
    continues p ss (n ∷ ns) b f = meets N F K p ss ((n ∷ ns) ++ b.node ∷ []) b f

    -- the tests of the labels of a `switch`
    tests_lead : (p : Known V) (ss : List V) (n t : ℕ) (v : V) → N.IsCase v → F.Has ss n t v → (ps : Parts)
        (b : Building) → F.Leads p (known ss b) → F.Leads p (known ss (tests_piece ps t b).at)
    tests_lead p ss n t v c h no_parts b f = f
    tests_lead p ss n t v c h (labelled z rest) b f =
        tests_lead p ss n t v c h rest (goto (suc b.nodes) (branch (Tested.Case true z t) b))
        (K.branches p ss b (Tested.Case true z t) (K.cases ss n t v c h z) f)
    tests_lead p ss n t v c h (by_default rest) b f = tests_lead p ss n t v c h rest b f
    tests_lead p ss n t v c h (and_plan s rest) b f = tests_lead p ss n t v c h rest b f

    module _ (Call : ℕ → List V → Option V → Type 0) (call : Sites)
        (call_built : (p : Known V) (site : ℕ) (ins : List V) (o : Option V) → Call site ins o → (ss : List V)
        (ts : List ℕ) (pl : Place) (b : Building) → F.Leads p (known ss b) → AreTemps N F ss p.temps ts ins
        → PartBuilt N F p (call site ts pl b) o) (n : ℕ) (r : Option V) where
      any_steps : (p : Known V) (steps : Steps) → AnySteps N Call steps → (ss : List V) (b : Building)
          → F.Leads p (known ss b) → Built N F p (steps_piece call steps [] b).at
      any_steps p steps h ss b f =
          let y : StepsBuilt N F p (steps_piece call steps [] b) h.0 =
          steps_built N F K Call call call_built p steps [] h.0 h.1 ss [] b f tt in
          record { natures = y.natures; leads = y.leads }

      entered_built : (p : Known V) (q : Option Fork) → MaybeFork N Call q → (ss : List V) (b : Building)
          → F.Leads p (known ss b) → Built N F p (entered call q b).at
      entered_built p None h ss b f = record { natures = ss; leads = f }
      entered_built p (Some q) h ss b f = fork_built N F K Call call call_built p q h ss b f

      -- more is built, which gives no value of the call
      behind : (p : Known V) (ss : List V) (b : Building) (res : Option ℕ) → F.Leads p (known ss b)
          → IsResult (known ss b) n r res → (more : List V) (z : Passed) → F.Leads (known ss b) (known more z.at)
          → z.result ≡ res → Through p n r z
      behind p ss b res f k more z g e = record {
        natures = more;
        leads = K.on f g;
        result = subst (λ t. IsResult (known more z.at) n r t) (sym e)
            (result_on (known ss b) (known more z.at) g n r res k);
      }

      given_back_built : (p : Known V) (o : Option V) → o ≡ r → (c : Option Code) → MaybeCode N Call o c
          → (res : Option ℕ) (ss : List V) (b : Building) → F.Leads p (known ss b) → IsResult (known ss b) n r res
          → Through p n r (given_back call c res b)
      given_back_built p o e None h res ss b f k = record { natures = ss; leads = f; result = k }
      given_back_built p None e (Some c) h res ss b f k = absurd h
      given_back_built p (Some v) e (Some c) h res ss b f k =
          let q : Known V = known ss b in
          let x : AfterPart = code_piece call c b in
          let y : PartBuilt N F q x (Some h.0) =
          code_built N F K Call call call_built q c (Some h.0) h.1 ss b (K.same f) in
          let op : ℕ → Operation = λ t. Op.Copy t (temp_of x.temp) in
          let z : Given N F q n (place_result res op x.at) (result_of res x.at) v =
          result_built q n res op v y.natures x.at (subst (λ o. IsResult q n o res) (sym e) k)
          (K.copies y.natures b.temps (temp_of x.temp) h.0 v y.value h.2) y.leads in
          record {
            natures = z.natures;
            leads = K.on f z.leads;
            result = subst (λ o. IsResult (known z.natures (place_result res op x.at)) n o (Some (result_of res x.at)))
                e z.opened;
          }

      mutual
        pub plan_built : (p : Known V) (s : Plan) → PlanFits N Call r s → (onward : Onward) (res : Option ℕ)
            (ss : List V) (b : Building) → F.Leads p (known ss b) → IsResult (known ss b) n r res
            → Through p n r (plan_piece call s onward res b)
        plan_built p nothing_more h onward res ss b f k = record { natures = ss; leads = f; result = k }
        plan_built p (in_turn s s') h onward res ss b f k =
            let x : Passed = plan_piece call s onward res b in
            let y : Through p n r x = plan_built p s h.0 onward res ss b f k in
            let z : Through p n r (plan_piece call s' onward x.result x.at) =
            plan_built p s' h.1 onward x.result y.natures x.at y.leads y.result in
            record { natures = z.natures; leads = z.leads; result = z.result }
        plan_built p (all_steps steps) h onward res ss b f k =
            let g : Built N F (known ss b) (steps_piece call steps [] b).at =
            any_steps (known ss b) steps h ss b (K.same f) in
            behind p ss b res f k g.natures (plan_piece call (all_steps steps) onward res b) g.leads refl
        plan_built p (one_of q s s') h onward res ss b f k =
            let l : Known V = known ss b in
            let o : Forked = fork_piece call q b in
            let g : Built N F l o.at = fork_built N F K Call call call_built l q h.0 ss b (K.same f) in
            let x : Passed = plan_piece call s onward res o.at in
            let y : Through p n r x =
            plan_built p s h.1 onward res g.natures o.at (K.on f g.leads)
            (result_on l (known g.natures o.at) g.leads n r res k) in
            let u : Passed = plan_piece call s' onward x.result (goto o.other x.at) in
            let z : Through p n r u =
            plan_built p s' h.2 onward x.result y.natures (goto o.other x.at) y.leads y.result in
            behind p z.natures u.at u.result z.leads z.result z.natures (plan_piece call (one_of q s s') onward res b)
            (meets N F K (known z.natures u.at) z.natures (x.at.node ∷ u.at.node ∷ []) u.at (K.same z.leads)) refl
        plan_built p (loop_while q s) h onward res ss b f k =
            let l : Known V = known ss b in
            let h0 : Building = place Op.Skip b in
            let f0 : F.Leads l (known ss h0) = skip N F K l ss b.node b.nodes b (K.same f) in
            let o : Forked = fork_piece call q h0 in
            let g : Built N F l o.at = fork_built N F K Call call call_built l q h.0 ss h0 f0 in
            let x : Passed = plan_piece call s (ToHead h0.node) res o.at in
            let y : Through p n r x =
            plan_built p s h.1 (ToHead h0.node) res g.natures o.at (K.on f g.leads)
            (result_on l (known g.natures o.at) g.leads n r res k) in
            behind p y.natures x.at x.result y.leads y.result y.natures (plan_piece call (loop_while q s) onward res b)
            (closes N F K (known y.natures x.at) y.natures h0.node (o.other ∷ nodes_by is_break x.pending) x.at
            (K.same y.leads)) refl
        plan_built p (loop_stepping q step s) h onward res ss b f k =
            let l : Known V = known ss b in
            let h0 : Building = place Op.Skip b in
            let f0 : F.Leads l (known ss h0) = skip N F K l ss b.node b.nodes b (K.same f) in
            let o : Entered = entered call q h0 in
            let g : Built N F l o.at = entered_built l q h.0 ss h0 f0 in
            let x : Passed = plan_piece call s Later res o.at in
            let y : Through p n r x =
            plan_built p s h.2 Later res g.natures o.at (K.on f g.leads)
            (result_on l (known g.natures o.at) g.leads n r res k) in
            let m : Known V = known y.natures x.at in
            let ns : List ℕ = nodes_by is_continue x.pending in
            let c : Building = continued_at ns x.at in
            let d : Building = (steps_piece call step [] c).at in
            let i : Built N F m d =
            any_steps m step h.1 y.natures c (continues m y.natures ns x.at (K.same y.leads)) in
            behind p y.natures x.at x.result y.leads y.result i.natures
            (plan_piece call (loop_stepping q step s) onward res b)
            (closes N F K m i.natures h0.node (o.outs ++ nodes_by is_break x.pending) d i.leads) refl
        plan_built p (loop_until s q) h onward res ss b f k =
            let l : Known V = known ss b in
            let h0 : Building = place Op.Skip b in
            let f0 : F.Leads l (known ss h0) = skip N F K l ss b.node b.nodes b (K.same f) in
            let x : Passed = plan_piece call s Later res h0 in
            let y : Through p n r x =
            plan_built p s h.0 Later res ss h0 (K.on f f0) (result_on l (known ss h0) f0 n r res k) in
            let m : Known V = known y.natures x.at in
            let ns : List ℕ = nodes_by is_continue x.pending in
            let c : Building = continued_at ns x.at in
            let o : Forked = fork_piece call q c in
            let g : Built N F m o.at =
            fork_built N F K Call call call_built m q h.1 y.natures c
            (continues m y.natures ns x.at (K.same y.leads)) in
            behind p y.natures x.at x.result y.leads y.result g.natures (plan_piece call (loop_until s q) onward res b)
            (closes N F K m g.natures h0.node (nodes_by is_break x.pending ++ o.other ∷ []) o.at g.leads) refl
        plan_built p (select c ps) h onward res ss b f k =
            let l : Known V = known ss b in
            let v : AfterPart = code_piece call c b in
            let w : PartBuilt N F l v (Some h.0) =
            code_built N F K Call call call_built l c (Some h.0) h.2 ss b (K.same f) in
            let t : ℕ = temp_of v.temp in
            let ls : Labels = tests_piece ps t v.at in
            let e : F.Leads l (known w.natures ls.at) =
            tests_lead l w.natures b.temps t h.0 h.1 w.value ps v.at w.leads in
            let x : Passed = parts_piece call ps ls.nodes ls.at.node onward res (nowhere ls.at) in
            let y : Through p n r x =
            parts_built p ps h.3 ls.nodes ls.at.node onward res w.natures (nowhere ls.at) (K.on f e)
            (result_on l (known w.natures ls.at) e n r res k) in
            behind p y.natures x.at x.result y.leads y.result y.natures (plan_piece call (select c ps) onward res b)
            (meets N F K (known y.natures x.at) y.natures
            (unless_default ps ls.at.node ++ nodes_by is_break x.pending ++ x.at.node ∷ []) x.at (K.same y.leads)) refl
        plan_built p break_off h onward res ss b f k = record { natures = ss; leads = f; result = k }
        plan_built p go_on h (ToHead m) res ss b f k =
            behind p ss b res f k ss (plan_piece call go_on (ToHead m) res b)
            (skip N F K (known ss b) ss b.node m b (K.same f)) refl
        plan_built p go_on h Later res ss b f k = record { natures = ss; leads = f; result = k }
        plan_built p (give_back c) h onward res ss b f k = given_back_built p r refl c h res ss b f k

        parts_built : (p : Known V) (ps : Parts) → PartsFit N Call r ps → (ls : List ℕ) (none : ℕ) (onward : Onward)
            (res : Option ℕ) (ss : List V) (b : Building) → F.Leads p (known ss b) → IsResult (known ss b) n r res
            → Through p n r (parts_piece call ps ls none onward res b)
        parts_built p no_parts h ls none onward res ss b f k = record { natures = ss; leads = f; result = k }
        parts_built p (labelled z rest) h ls none onward res ss b f k =
            let e : F.Leads (known ss b) (known ss (meet (first_of ls b.node) b)) =
            meets N F K (known ss b) ss (first_of ls b.node) b (K.same f) in
            parts_built p rest h (behind_first ls) none onward res ss (meet (first_of ls b.node) b) (K.on f e)
            (result_on (known ss b) (known ss (meet (first_of ls b.node) b)) e n r res k)
        parts_built p (by_default rest) h ls none onward res ss b f k =
            let e : F.Leads (known ss b) (known ss (meet (none ∷ b.node ∷ []) b)) =
            meets N F K (known ss b) ss (none ∷ b.node ∷ []) b (K.same f) in
            parts_built p rest h ls none onward res ss (meet (none ∷ b.node ∷ []) b) (K.on f e)
            (result_on (known ss b) (known ss (meet (none ∷ b.node ∷ []) b)) e n r res k)
        parts_built p (and_plan s rest) h ls none onward res ss b f k =
            let x : Passed = plan_piece call s onward res b in
            let y : Through p n r x = plan_built p s h.0 onward res ss b f k in
            let z : Through p n r (parts_piece call rest ls none onward x.result x.at) =
            parts_built p rest h.1 ls none onward x.result y.natures x.at y.leads y.result in
            record { natures = z.natures; leads = z.leads; result = z.result }
