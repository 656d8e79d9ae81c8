-- What is built for steps, forks and parts runs as they mean.
use Rattle.std.proofs.Common.{◌≡◌, ◌≢◌, ◌⊎◌, inr, ℕ, zero, suc, ◌<◌, ◌≤◌, Bool, true, false, List, [], ◌∷◌, ◌++◌}
use Rattle.std.proofs.Common.{length, refl, sym, ◌∙◌, ap, subst, arith}
use Rattle.std.specs.Prelude.{if◌then◌else◌, Option, Some, None}
use Rattle.concrete_steps.specs.tm_terms.declared.places.Place.{Place}
use Rattle.concrete_steps.specs.tm_laid.Layouts.{LaidTree}
use Rattle.concrete_steps.specs.concrete_values.declared.values.Value.{Value}
use Rattle.concrete_steps.specs.concrete_values.declared.values.Answer.{Answer}
use Rattle.concrete_steps.specs.concrete_values.declared.actions.Next.{Next}
use Rattle.concrete_steps.specs.concrete_values.Values.{truth_value}
use Rattle.concrete_steps.specs.NextAction.{After}
use Rattle.flow_graph.specs.declared.operations.Test.{Test}
use Rattle.flow_graph.specs.declared.operations.Operation.{Operation}
use Rattle.flow_graph.specs.declared.operations.Operation.TheVariants as Op
use Rattle.flow_graph.specs.Operations.{put_at, opposite, holds, gives, doing, given, used, tested, effect_by, effect}
use Rattle.flow_graph.specs.Graphs.{Edges, leaving, IsSure, IsTest}
use Rattle.flow_graph.specs.Runs.{Memory, arrive, Runs}
use Rattle.lowering.specs.Steps.{Steps, no_more, first_then, Step, operate, value_of, only_do, truth_of, choose}
use Rattle.lowering.specs.Steps.{choose_only, call_of, Inputs, no_inputs, and_input, Code, code, Fork, fork_by}
use Rattle.lowering.specs.Steps.{converse, both_of, either_of}
use Rattle.lowering.specs.Built.{renamed_test, renamed, at, Building, edge, place_with, place, place_new, branch, goto}
use Rattle.lowering.specs.Built.{meet, AfterPart, Forked, AfterSteps, temp_of, operated, truth_met, copied, copied_to}
use Rattle.lowering.specs.Built.{Sites}
use Rattle.lowering.specs.Built.{steps_piece, step_piece, inputs_piece, code_piece, fork_piece}
use Rattle.lowering.proofs.Edges.{Joins, Ext, ext_then, Fine, Follows, follows_then, follows_same, follows_ext}
use Rattle.lowering.proofs.Edges.{place_follows, branch_follows, branch_other, follows_goto, leaving_here, placed_at}
use Rattle.lowering.proofs.Pendings.{NotIn, nodes_append, present_loose, meet_placed, meet_past}
use Rattle.lowering.proofs.Dead.{DeadIn, dead_by, by_new, both_dead, joins_dead, at_away, used_away, tested_away}
use Rattle.lowering.proofs.Dead.{counted_end, one_away}
use Rattle.lowering.proofs.Meaning.{value_at, doing_then, with_given, with_called, result_value, Calls, steps_then}
use Rattle.lowering.proofs.Meaning.{step_then, inputs_then, code_then, fork_then}
use Rattle.lowering.proofs.Moves.{put_same, put_above, along, Kept, kept_then, kept_less, kept_on, kept_same}
use Rattle.lowering.proofs.Moves.{kept_arrive, does, splits, joins}
use Rattle.lowering.proofs.Renamed.{renamed_to, given_renamed, holds_renamed, doing_renamed, holds_same, doing_same}
use Rattle.lowering.proofs.Renamed.{sure_renamed, test_renamed, sure_goes}
use Rattle.lowering.proofs.Scopes.{Below, MaybeBelow, HasResult, more_by, more_called, after_step, after_steps, InScope}
use Rattle.lowering.proofs.Scopes.{StepInScope, InputsInScope, CodeInScope, ForkInScope}

-- ## Values of variables

-- the temporaries have these values, and are counted
abbrev pub In : List ℕ → List Value → Memory → ℕ → Type 0
In [] [] m n = Unit {0}
In [] (v ∷ vs) m n = ⊥
In (t ∷ ts) [] m n = ⊥
In (t ∷ ts) (v ∷ vs) m n = (m.temps t ≡ v) × (t < n) × In ts vs m n

pub in_later : (ts : List ℕ) (vs : List Value) (m m' : Memory) (n n' : ℕ) → n ≤ n'
    → ((u : ℕ) → u < n → m'.temps u ≡ m.temps u) → In ts vs m n → In ts vs m' n'
in_later [] [] m m' n n' l h i = tt
in_later [] (v ∷ vs) m m' n n' l h i = i
in_later (t ∷ ts) [] m m' n n' l h i = i
in_later (t ∷ ts) (v ∷ vs) m m' n n' l h i = (h t i.1 ∙ i.0, omega (arith, i.1), in_later ts vs m m' n n' l h i.2)

pub in_end : (ts : List ℕ) (vs : List Value) (m : Memory) (n t : ℕ) (v : Value) → In ts vs m n → m.temps t ≡ v → t < n
    → In (ts ++ t ∷ []) (vs ++ v ∷ []) m n
in_end [] [] m n t v i e l = (e, l, tt)
in_end [] (w ∷ vs) m n t v i e l = absurd i
in_end (u ∷ ts) [] m n t v i e l = absurd i
in_end (u ∷ ts) (w ∷ vs) m n t v i e l = (i.0, i.1, in_end ts vs m n t v i.2 e l)

pub in_at : (ts : List ℕ) (vs : List Value) (m : Memory) (n : ℕ) → In ts vs m n → (k : ℕ) → k < length vs
    → (m.temps (at ts k) ≡ value_at vs k) × (at ts k < n)
in_at [] [] m n i k l = absurd (omega (arith, l))
in_at [] (v ∷ vs) m n i k l = absurd i
in_at (t ∷ ts) [] m n i k l = absurd i
in_at (t ∷ ts) (v ∷ vs) m n i zero l = (i.0, i.1)
in_at (t ∷ ts) (v ∷ vs) m n i (suc k) l = in_at ts vs m n i.2 k (omega arith)

pub length_end : (vs : List Value) (v : Value) → length (vs ++ v ∷ []) ≡ suc (length vs)
length_end [] v = refl
length_end (w ∷ vs) v = ap suc (length_end vs v)

-- ## One edge

pub place_only : (t : ℕ) (op : Operation) (b : Building) (g : Edges) → Fine b → Ext (place_with t op b).edges g
    → leaving g b.node ≡ edge b.node b.nodes op ∷ []
place_only t op b g f k = k.same b.node _ [] (placed_at b.edges _ b.node f.present ∙ leaving_here b.node b.nodes op [])

pub branch_both : (test : Test) (b : Building) (g : Edges) → Fine b → Ext (branch test b).edges g
    → leaving g b.node ≡ edge b.node b.nodes (Op.Assume test) ∷ edge b.node (suc b.nodes)
    (Op.Assume (opposite test)) ∷ []
branch_both test b g f k = k.same b.node _ _ (placed_at b.edges _ b.node f.present
    ∙ (leaving_here b.node b.nodes (Op.Assume test) (edge b.node (suc b.nodes) (Op.Assume (opposite test)) ∷ [])
    ∙ ap (λ z. edge b.node b.nodes (Op.Assume test) ∷ z)
    (leaving_here b.node (suc b.nodes) (Op.Assume (opposite test)) [])))

pub new_follows : (op : ℕ → Operation) → ((t : ℕ) → IsSure (op t)) → (b : Building) → Fine b
    → Follows b (place_new op b)
new_follows op sure b f = place_follows (suc b.temps) (op b.temps) (sure b.temps) b f (omega arith)

pub one_follows : (op : Operation) → IsSure op → (b : Building) → Fine b → Follows b (place op b)
one_follows op sure b f = place_follows b.temps op sure b f (omega arith)

-- where control comes together
pub meets_run : (laid : LaidTree) (g : Edges) {n b p j : ℕ} {m : Memory} {answers : List Answer} {x : Next}
    → Joins g p j → n ≤ j
    → ((m' : Memory) → Kept n b m m' answers answers → m'.temps ≡ m.temps → Runs laid g j m' answers x)
    → Runs laid g p m answers x
meets_run laid g {n} {b} {p} {j} {m} {answers} h l ok =
    joins laid g h (ok (arrive j m.used m.temps m) (kept_arrive n b j m.temps m answers l (λ u i. refl)) refl)

module _ (laid : LaidTree) (has_at : ℕ → Bool) (call : Sites) (calls : Calls) where
  -- the value of an outcome
  abbrev pub Holds : AfterPart → Value → Memory → Type 0
  Holds x v m = (m.temps (temp_of x.temp) ≡ v) × (temp_of x.temp < x.at.temps)

  -- what is built for a call
  pub record CallPlaced (site : ℕ) (ts : List ℕ) (p : Place) (b : Building) (x : AfterPart) : Type 0 where
    pub follows : Follows b x.at
    pub runs : (g : Edges) → Ext x.at.edges g → (vs : List Value) (m : Memory) (answers : List Answer)
        (k : Value → After) → In ts vs m b.temps
        → ((v : Value) (m' : Memory) (rest : List Answer) → Kept b.nodes b.temps m m' answers rest
        → (has_at site ≡ true → Holds x v m') → Runs laid g x.at.node m' rest (k v rest))
        → Runs laid g b.node m answers (calls site vs p k answers)
    pub dead : (g : Edges) → Ext x.at.edges g → (u j : ℕ) → NotIn u ts
        → ((has_at site ≡ true → temp_of x.temp ≢ u) → DeadIn g u j x.at.node) → DeadIn g u j b.node

  abbrev pub CallsPlaced : Type 0
  CallsPlaced = (site : ℕ) (ts : List ℕ) (p : Place) (b : Building) → Fine b → CallPlaced site ts p b (call site ts p b)

  -- what is built for steps, of which n variables stand before and n' behind, and which mean this
  pub record Placed (ts : List ℕ) (b : Building) (x : AfterSteps) (n n' : ℕ)
      (means : List Value → (List Value → After) → After) : Type 0 where
    pub follows : Follows b x.at
    pub runs : (g : Edges) → Ext x.at.edges g → (vs : List Value) (m : Memory) (answers : List Answer)
        (k : List Value → After) → In ts vs m b.temps → length vs ≡ n
        → ((ws : List Value) (m' : Memory) (rest : List Answer) → Kept b.nodes b.temps m m' answers rest
        → In x.temps ws m' x.at.temps → length ws ≡ n'
        → Runs laid g x.at.node m' rest (k ws rest))
        → Runs laid g b.node m answers (means vs k answers)
    pub dead : (g : Edges) → Ext x.at.edges g → (u j : ℕ) → NotIn u ts → length ts ≡ n
        → (NotIn u x.temps → length x.temps ≡ n' → DeadIn g u j x.at.node) → DeadIn g u j b.node

  pub record InputsPlaced (b : Building) (x : AfterSteps) (es : Inputs) : Type 0 where
    pub follows : Follows b x.at
    pub runs : (g : Edges) → Ext x.at.edges g → (m : Memory) (answers : List Answer) (k : List Value → After)
        → ((vs : List Value) (m' : Memory) (rest : List Answer) → Kept b.nodes b.temps m m' answers rest
        → In x.temps vs m' x.at.temps → Runs laid g x.at.node m' rest (k vs rest))
        → Runs laid g b.node m answers (inputs_then laid calls es k answers)
    pub dead : (g : Edges) → Ext x.at.edges g → (u j : ℕ) → (NotIn u x.temps → DeadIn g u j x.at.node)
        → DeadIn g u j b.node

  pub record CodePlaced (b : Building) (x : AfterPart) (c : Code) : Type 0 where
    pub follows : Follows b x.at
    pub runs : (g : Edges) → Ext x.at.edges g → (m : Memory) (answers : List Answer) (k : Value → After)
        → ((v : Value) (m' : Memory) (rest : List Answer) → Kept b.nodes b.temps m m' answers rest
        → (HasResult c → Holds x v m') → Runs laid g x.at.node m' rest (k v rest))
        → Runs laid g b.node m answers (code_then laid calls c k answers)
    pub dead : (g : Edges) → Ext x.at.edges g → (u j : ℕ)
        → ((HasResult c → temp_of x.temp ≢ u) → DeadIn g u j x.at.node) → DeadIn g u j b.node

  abbrev pub Way : Edges → Building → Memory → List Answer → ℕ → After → Type 0
  Way g b m answers node k = (m' : Memory) (rest : List Answer) → Kept b.nodes b.temps m m' answers rest
      → Runs laid g node m' rest (k rest)

  pub record ForkPlaced (b : Building) (x : Forked) (f : Fork) : Type 0 where
    pub follows : Follows b x.at
    pub new : b.nodes ≤ x.at.node
    pub other_new : b.nodes ≤ x.other
    pub other_inside : x.other < x.at.nodes
    pub other_none : leaving x.at.edges x.other ≡ []
    pub apart : x.other ≢ x.at.node
    pub runs : (g : Edges) → Ext x.at.edges g → (m : Memory) (answers : List Answer) (one other : After)
        → Way g b m answers x.at.node one → Way g b m answers x.other other
        → Runs laid g b.node m answers (fork_then laid calls f one other answers)
    pub dead : (g : Edges) → Ext x.at.edges g → (u j : ℕ) → DeadIn g u j x.at.node → DeadIn g u j x.other
        → DeadIn g u j b.node

  -- ## Operations

  module _ (op : Operation) (ts : List ℕ) (b : Building) (f : Fine b) (n : ℕ) (below : Below n (used op))
      (sure : IsSure op) where
    renamed_effect : (to : ℕ) (m : Memory) (vs : List Value) → In ts vs m b.temps → length vs ≡ n
        → effect laid (renamed (at ts) to op) m.temps ≡ effect_by (renamed_to to (given op)) m.temps
        (doing laid op (value_at vs))
    renamed_effect to m vs i len =
        ap (λ o. effect_by o m.temps (doing laid (renamed (at ts) to op) m.temps)) (given_renamed (at ts) to op)
        ∙ ap (λ d. effect_by (renamed_to to (given op)) m.temps d)
        (doing_renamed laid (at ts) to op m.temps
        ∙ doing_same laid op (λ v. m.temps (at ts v)) (value_at vs) n below
        (λ v l. (in_at ts vs m b.temps i v (omega (arith, l, len))).0))

    operated_placed : (o : Option ℕ) → given op ≡ o
        → Placed ts b (operated ts op o b) n (more_by o n)
        (λ vs go. doing_then laid (doing laid op (value_at vs)) (λ v. go (with_given o vs v)))
    operated_placed (Some t) e = record {
      follows = new_follows (λ u. renamed (at ts) u op) (λ u. sure_renamed (at ts) u op sure) b f;
      runs = λ g k vs m answers go i len ok.
          does laid g b.nodes b.temps m answers (λ v. go (vs ++ v ∷ [])) (doing laid op (value_at vs)) (Some b.temps)
          (place_only (suc b.temps) (renamed (at ts) b.temps op) b g f k) f.inside (omega arith) (omega arith)
          (renamed_effect b.temps m vs i len
          ∙ ap (λ o. effect_by (renamed_to b.temps o) m.temps (doing laid op (value_at vs))) e)
          (sure_goes laid op (value_at vs) sure)
          (λ v m' rest kp is. ok (vs ++ v ∷ []) m' rest kp
          (in_end ts vs m' (suc b.temps) b.temps v (in_later ts vs m m' b.temps (suc b.temps) (omega arith) kp.temps i)
          (ap (λ h. h b.temps) is ∙ put_same b.temps v m.temps) (omega arith))
          (length_end vs v ∙ ap suc len));
      dead = λ g k u j nt len ok.
          dead_by g u j (place_only (suc b.temps) (renamed (at ts) b.temps op) b g f k)
          (used_away u n ts b.temps op below len nt)
          (subst (λ z. (z ≡ Some u) ⊎ DeadIn g u j b.nodes)
          (sym (given_renamed (at ts) b.temps op ∙ ap (renamed_to b.temps) e))
          (by_new b.temps u (λ ne. ok (nodes_append (λ m. m ≢ u) ts (b.temps ∷ []) nt (ne, tt))
          (counted_end ts b.temps n len))));
    }
    operated_placed None e = record {
      follows = one_follows (renamed (at ts) 0 op) (sure_renamed (at ts) 0 op sure) b f;
      runs = λ g k vs m answers go i len ok.
          does laid g b.nodes b.temps m answers (λ v. go vs) (doing laid op (value_at vs)) None
          (place_only b.temps (renamed (at ts) 0 op) b g f k) f.inside (omega arith) tt
          (renamed_effect 0 m vs i len ∙ ap (λ o. effect_by (renamed_to 0 o) m.temps (doing laid op (value_at vs))) e)
          (sure_goes laid op (value_at vs) sure)
          (λ v m' rest kp is. ok vs m' rest kp (in_later ts vs m m' b.temps b.temps (omega arith) kp.temps i) len);
      dead = λ g k u j nt len ok. dead_by g u j (place_only b.temps (renamed (at ts) 0 op) b g f k)
          (used_away u n ts 0 op below len nt) (inr (ok nt len));
    }

  -- ## Truths and choices

  -- one operation by itself, which gives a new or an old temporary
  gives_run : (g : Edges) {node node' : ℕ} {op : Operation} (n b t : ℕ) (m : Memory) (answers : List Answer) {x : Next}
      (v : Value) → leaving g node ≡ edge node node' op ∷ [] → node < node'
      → n ≤ node' → b ≤ t → effect laid op m.temps ≡ effect_by (Some t) m.temps (gives v)
      → ((m' : Memory) → Kept n b m m' answers answers → m'.temps t ≡ v → Runs laid g node' m' answers x)
      → Runs laid g node m answers x
  gives_run g {node} {node'} n b t m answers v only forward i l e ok =
      along laid g only forward (put_at t v m.temps) e
      (ok (arrive node' m.used (put_at t v m.temps) m)
      (kept_arrive n b node' (put_at t v m.temps) m answers i (λ u j. put_above t v m.temps u (omega arith)))
      (put_same t v m.temps))

  truth_placed : (f : Fork) (ts : List ℕ) (b : Building) (n : ℕ) → ForkPlaced b (fork_piece call f b) f
      → Placed ts b (record {
        at = truth_met (fork_piece call f b);
        temps =
            ts ++ (fork_piece call f b).at.temps ∷ [];
      }) n (suc n)
      (λ vs go. fork_then laid calls f (go (vs ++ truth_value true ∷ [])) (go (vs ++ truth_value false ∷ [])))
  truth_placed f ts b n o =
      let x = fork_piece call f b in
      let t = x.at.temps in
      let c1 = λ (u : ℕ). Op.Const u (truth_value true) in
      let c0 = Op.Const t (truth_value false) in
      let b2 = place_new c1 x.at in
      let f1 = new_follows c1 (λ u. tt) x.at o.follows.fine in
      let none2 : leaving b2.edges x.other ≡ [] = f1.same x.other o.other_inside o.apart ∙ o.other_none in
      let h2 : Follows b (goto x.other b2) = follows_goto x.other (follows_then o.follows f1) o.other_new
      (omega (arith, o.other_inside)) none2 in
      let f3 = one_follows c0 tt (goto x.other b2) h2.fine in
      let b3 = place c0 (goto x.other b2) in
      let h3 : Follows b b3 = follows_then h2 f3 in
      let none3 : leaving b3.edges b2.node ≡ [] = f3.same b2.node (omega arith)
      (λ e. absurd (omega (arith, o.other_inside, e))) ∙ f1.fine.present in
      let mt = meet_placed b b3 h3 (b2.node ∷ b3.node ∷ []) (
        record { away = λ k l ne e. absurd (omega (arith, o.follows.nodes, l, e)); inside = omega arith; none = none3 },
        (present_loose h3, tt),
      )
      (((λ e. absurd (omega (arith, e))), tt), (tt, tt)) in
      record {
        follows = mt.follows;
        runs = λ g k vs m answers go i len ok.
            let k3 : Ext b3.edges g = ext_then mt.ext k in
            let k2 : Ext b2.edges g = ext_then (follows_ext h2.fine f3) k3 in
            let k1 : Ext x.at.edges g = ext_then (follows_ext o.follows.fine f1) k2 in
            let js = mt.joins g k in
            let whole : (v : Value) (p : ℕ) (m1 m2 : Memory) (rest : List Answer) → Joins g p b3.nodes
            → Kept b.nodes b.temps m m1 answers rest → Kept b.nodes b.temps m1 m2 rest rest → m2.temps t ≡ v
            → Runs laid g p m2 rest (go (vs ++ v ∷ []) rest)
            = λ v p m1 m2 rest j kp1 kp2 e. meets_run laid g {n = b.nodes} {b = b.temps} j (omega (arith, h3.nodes))
            (λ m3 kp3 e3.
            ok (vs ++ v ∷ []) m3 rest (kept_on kp1 (kept_on kp2 kp3))
            (in_end ts vs m3 (suc t) t v (in_later ts vs m m3 b.temps (suc t) (omega (arith, o.follows.temps))
            (kept_on kp1 (kept_on kp2 kp3)).temps i) (ap (λ h. h t) e3 ∙ e) (omega arith))
            (length_end vs v ∙ ap suc len)) in
            o.runs g k1 m answers (go (vs ++ truth_value true ∷ [])) (go (vs ++ truth_value false ∷ []))
            (λ m1 rest kp1. gives_run g b.nodes b.temps t m1 rest (truth_value true)
            (place_only (suc t) (c1 t) x.at g o.follows.fine k2) o.follows.fine.inside
            (omega (arith, o.follows.nodes)) (omega (arith, o.follows.temps)) refl
            (λ m2 kp2 e. whole (truth_value true) b2.node m1 m2 rest js.0 kp1 kp2 e))
            (λ m1 rest kp1. gives_run g b.nodes b.temps t m1 rest (truth_value false)
            (place_only (suc t) c0 (goto x.other b2) g h2.fine k3) h2.fine.inside (omega (arith, o.follows.nodes))
            (omega (arith, o.follows.temps)) refl
            (λ m2 kp2 e. whole (truth_value false) b3.node m1 m2 rest js.1.0 kp1 kp2 e));
        dead = λ g k u j nt len ok.
            let k3 : Ext b3.edges g = ext_then mt.ext k in
            let k2 : Ext b2.edges g = ext_then (follows_ext h2.fine f3) k3 in
            let js = mt.joins g k in
            let whole : (p : ℕ) → Joins g p b3.nodes → (Some t ≡ Some u) ⊎ DeadIn g u j p
            = λ p jn. by_new t u (λ ne. joins_dead g u j jn
            (ok (nodes_append (λ m. m ≢ u) ts (t ∷ []) nt (ne, tt)) (counted_end ts t n len))) in
            o.dead g (ext_then (follows_ext o.follows.fine f1) k2) u j
            (dead_by g u j (place_only (suc t) (c1 t) x.at g o.follows.fine k2) (λ a. a) (whole b2.node js.0))
            (dead_by g u j (place_only (suc t) c0 (goto x.other b2) g h2.fine k3) (λ a. a) (whole b3.node js.1.0));
      }

  choose_placed : (f : Fork) (c d : Code) (ts : List ℕ) (b : Building) (n : ℕ) → ForkPlaced b (fork_piece call f b) f
      → ((b' : Building) → Fine b' → CodePlaced b' (code_piece call c b') c) → HasResult c
      → ((b' : Building) → Fine b' → CodePlaced b' (code_piece call d b') d) → HasResult d
      → Placed ts b (step_piece call (choose f c d) ts b) n (suc n)
      (λ vs go. fork_then laid calls f (code_then laid calls c (λ v. go (vs ++ v ∷ [])))
      (code_then laid calls d (λ v. go (vs ++ v ∷ []))))
  choose_placed f c d ts b n o pc hc pd hd =
      let x = fork_piece call f b in
      let l = pc x.at o.follows.fine in
      let y = code_piece call c x.at in
      let t = y.at.temps in
      let cop = λ (u : ℕ). Op.Copy u (temp_of y.temp) in
      let b1 = copied y in
      let f1 = new_follows cop (λ u. tt) y.at l.follows.fine in
      let hx : Follows x.at b1 = follows_then l.follows f1 in
      let none1 : leaving b1.edges x.other ≡ [] = hx.same x.other o.other_inside o.apart ∙ o.other_none in
      let hg : Follows b (goto x.other b1) = follows_goto x.other (follows_then o.follows hx) o.other_new
      (omega (arith, o.other_inside, l.follows.nodes)) none1 in
      let r = pd (goto x.other b1) hg.fine in
      let z = code_piece call d (goto x.other b1) in
      let cop' = Op.Copy t (temp_of z.temp) in
      let f2 = one_follows cop' tt z.at r.follows.fine in
      let b2 = copied_to t z in
      let hy : Follows (goto x.other b1) b2 = follows_then r.follows f2 in
      let h : Follows b b2 = follows_then hg hy in
      let none2 : leaving b2.edges b1.node ≡ [] = hy.same b1.node (omega arith)
      (λ e. absurd (omega (arith, o.other_inside, l.follows.nodes, e))) ∙ f1.fine.present in
      let mt = meet_placed b b2 h (b1.node ∷ b2.node ∷ []) (
        record {
          away = λ k i ne e. absurd (omega (arith, o.follows.nodes, l.follows.nodes, i, e));
          inside =
              omega (arith, r.follows.nodes);
          none = none2;
        },
        (present_loose h, tt),
      )
      (((λ e. absurd (omega (arith, r.follows.nodes, e))), tt), (tt, tt)) in
      record {
        follows = mt.follows;
        runs = λ g k vs m answers go i len ok.
            let k4 : Ext b2.edges g = ext_then mt.ext k in
            let k3 : Ext z.at.edges g = ext_then (follows_ext r.follows.fine f2) k4 in
            let k2 : Ext b1.edges g = ext_then (follows_ext hg.fine r.follows) k3 in
            let k1 : Ext y.at.edges g = ext_then (follows_ext l.follows.fine f1) k2 in
            let k0 : Ext x.at.edges g = ext_then (follows_ext o.follows.fine l.follows) k1 in
            let js = mt.joins g k in
            let whole : (v : Value) (p : ℕ) (m1 m2 : Memory) (rest rest' : List Answer) → Joins g p b2.nodes
            → Kept b.nodes b.temps m m1 answers rest → Kept b.nodes b.temps m1 m2 rest rest' → m2.temps t ≡ v
            → Runs laid g p m2 rest' (go (vs ++ v ∷ []) rest')
            = λ v p m1 m2 rest rest' j kp1 kp2 e. meets_run laid g {n = b.nodes} {b = b.temps} j
            (omega (arith, h.nodes)) (λ m3 kp3 e3.
            ok (vs ++ v ∷ []) m3 rest' (kept_on kp1 (kept_on kp2 kp3))
            (in_end ts vs m3 b2.temps t v (in_later ts vs m m3 b.temps b2.temps h.temps
            (kept_on kp1 (kept_on kp2 kp3)).temps i) (ap (λ u. u t) e3 ∙ e) (omega (arith, r.follows.temps)))
            (length_end vs v ∙ ap suc len)) in
            o.runs g k0 m answers (code_then laid calls c (λ v. go (vs ++ v ∷ [])))
            (code_then laid calls d (λ v. go (vs ++ v ∷ [])))
            (λ m1 rest kp1. l.runs g k1 m1 rest (λ v. go (vs ++ v ∷ [])) (λ v m2 rest' kp2 hv.
            gives_run g b.nodes b.temps t m2 rest' v
            (place_only (suc t) (cop t) y.at g l.follows.fine k2) l.follows.fine.inside
            (omega (arith, o.follows.nodes, l.follows.nodes)) (omega (arith, o.follows.temps, l.follows.temps))
            (ap (λ w. effect_by (Some t) m2.temps (gives w)) (hv hc).0)
            (λ m3 kp3 e. whole v b1.node m1 m3 rest rest' js.0 kp1
            (kept_on (kept_less {n = b.nodes} {b = b.temps} (omega (arith, o.follows.nodes))
            (omega (arith, o.follows.temps)) kp2) kp3) e)))
            (λ m1 rest kp1. r.runs g k3 m1 rest (λ v. go (vs ++ v ∷ [])) (λ v m2 rest' kp2 hv.
            gives_run g b.nodes b.temps t m2 rest' v
            (place_only z.at.temps cop' z.at g r.follows.fine k4) r.follows.fine.inside
            (omega (arith, hg.nodes, r.follows.nodes)) (omega (arith, o.follows.temps, l.follows.temps))
            (ap (λ w. effect_by (Some t) m2.temps (gives w)) (hv hd).0)
            (λ m3 kp3 e. whole v b2.node m1 m3 rest rest' js.1.0 kp1
            (kept_on (kept_less {n = b.nodes} {b = b.temps} (omega (arith, hg.nodes))
            (omega (arith, hg.temps)) kp2) kp3) e)));
        dead = λ g k u j nt len ok.
            let k4 : Ext b2.edges g = ext_then mt.ext k in
            let k3 : Ext z.at.edges g = ext_then (follows_ext r.follows.fine f2) k4 in
            let k2 : Ext b1.edges g = ext_then (follows_ext hg.fine r.follows) k3 in
            let k1 : Ext y.at.edges g = ext_then (follows_ext l.follows.fine f1) k2 in
            let js = mt.joins g k in
            let whole : (p : ℕ) → Joins g p b2.nodes → (Some t ≡ Some u) ⊎ DeadIn g u j p
            = λ p jn. by_new t u (λ ne. joins_dead g u j jn
            (ok (nodes_append (λ m. m ≢ u) ts (t ∷ []) nt (ne, tt)) (counted_end ts t n len))) in
            o.dead g (ext_then (follows_ext o.follows.fine l.follows) k1) u j
            (l.dead g k1 u j (λ away. dead_by g u j (place_only (suc t) (cop t) y.at g l.follows.fine k2)
            (one_away u (temp_of y.temp) (away hc)) (whole b1.node js.0)))
            (r.dead g k3 u j (λ away. dead_by g u j (place_only z.at.temps cop' z.at g r.follows.fine k4)
            (one_away u (temp_of z.temp) (away hd)) (whole b2.node js.1.0)));
      }

  choose_only_placed : (f : Fork) (c d : Code) (ts : List ℕ) (b : Building) (n : ℕ)
      → ForkPlaced b (fork_piece call f b) f
      → ((b' : Building) → Fine b' → CodePlaced b' (code_piece call c b') c)
      → ((b' : Building) → Fine b' → CodePlaced b' (code_piece call d b') d)
      → Placed ts b (step_piece call (choose_only f c d) ts b) n n
      (λ vs go. fork_then laid calls f (code_then laid calls c (λ v. go vs)) (code_then laid calls d (λ v. go vs)))
  choose_only_placed f c d ts b n o pc pd =
      let x = fork_piece call f b in
      let l = pc x.at o.follows.fine in
      let b1 = (code_piece call c x.at).at in
      let none1 : leaving b1.edges x.other ≡ [] = l.follows.same x.other o.other_inside o.apart ∙ o.other_none in
      let hg : Follows b (goto x.other b1) = follows_goto x.other (follows_then o.follows l.follows) o.other_new
      (omega (arith, o.other_inside, l.follows.nodes)) none1 in
      let r = pd (goto x.other b1) hg.fine in
      let b2 = (code_piece call d (goto x.other b1)).at in
      let h : Follows b b2 = follows_then hg r.follows in
      let apart1 : b1.node ≢ x.other = λ e. l.follows.away x.other o.other_inside o.apart (sym e) in
      let none2 : leaving b2.edges b1.node ≡ [] = r.follows.same b1.node l.follows.fine.inside apart1
      ∙ l.follows.fine.present in
      let mt = meet_placed b b2 h (b1.node ∷ b2.node ∷ []) (
        record {
          away = λ k i ne e. absurd (omega (arith, o.new, l.follows.low, i, e));
          inside =
              omega (arith, l.follows.fine.inside, r.follows.nodes);
          none = none2;
        },
        (present_loose h, tt),
      )
      (((λ e. r.follows.away b1.node l.follows.fine.inside apart1 (sym e)), tt), (tt, tt)) in
      record {
        follows = mt.follows;
        runs = λ g k vs m answers go i len ok.
            let k2 : Ext b2.edges g = ext_then mt.ext k in
            let k1 : Ext b1.edges g = ext_then (follows_ext hg.fine r.follows) k2 in
            let k0 : Ext x.at.edges g = ext_then (follows_ext o.follows.fine l.follows) k1 in
            let js = mt.joins g k in
            let whole : (p : ℕ) (m1 m2 : Memory) (rest rest' : List Answer) → Joins g p b2.nodes
            → Kept b.nodes b.temps m m1 answers rest → Kept b.nodes b.temps m1 m2 rest rest'
            → Runs laid g p m2 rest' (go vs rest')
            = λ p m1 m2 rest rest' j kp1 kp2. meets_run laid g {n = b.nodes} {b = b.temps} j (omega (arith, h.nodes))
            (λ m3 kp3 e3.
            ok vs m3 rest' (kept_on kp1 (kept_on kp2 kp3))
            (in_later ts vs m m3 b.temps b2.temps h.temps (kept_on kp1 (kept_on kp2 kp3)).temps i) len) in
            o.runs g k0 m answers (code_then laid calls c (λ v. go vs)) (code_then laid calls d (λ v. go vs))
            (λ m1 rest kp1. l.runs g k1 m1 rest (λ v. go vs) (λ v m2 rest' kp2 hv.
            whole b1.node m1 m2 rest rest' js.0 kp1
            (kept_less {n = b.nodes} {b = b.temps} (omega (arith, o.follows.nodes))
            (omega (arith, o.follows.temps)) kp2)))
            (λ m1 rest kp1. r.runs g k2 m1 rest (λ v. go vs) (λ v m2 rest' kp2 hv.
            whole b2.node m1 m2 rest rest' js.1.0 kp1 (kept_less {n = b.nodes} {b = b.temps} (omega (arith, hg.nodes))
            (omega (arith, hg.temps)) kp2)));
        dead = λ g k u j nt len ok.
            let k2 : Ext b2.edges g = ext_then mt.ext k in
            let k1 : Ext b1.edges g = ext_then (follows_ext hg.fine r.follows) k2 in
            let js = mt.joins g k in
            o.dead g (ext_then (follows_ext o.follows.fine l.follows) k1) u j
            (l.dead g k1 u j (λ away. joins_dead g u j js.0 (ok nt len)))
            (r.dead g k2 u j (λ away. joins_dead g u j js.1.0 (ok nt len)));
      }

  call_placed : (has : Bool) (site : ℕ) (es : Inputs) (p : Place) (ts : List ℕ) (b : Building) (n : ℕ) → CallsPlaced
      → InputsPlaced b (inputs_piece call es b) es → has ≡ has_at site
      → Placed ts b (step_piece call (call_of has site es p) ts b) n (more_called has n)
      (λ vs go. inputs_then laid calls es (λ ws. calls site ws p (λ v. go (with_called has vs v))))
  call_placed true site es p ts b n placed a same =
      let x = inputs_piece call es b in
      let c = placed site x.temps p x.at a.follows.fine in
      let h = follows_then a.follows c.follows in
      record {
        follows = h;
        runs = λ g k vs m answers go i len ok.
            a.runs g (ext_then (follows_ext a.follows.fine c.follows) k) m answers
            (λ ws. calls site ws p (λ v. go (vs ++ v ∷ []))) (λ ws m1 rest kp1 i1.
            c.runs g k ws m1 rest (λ v. go (vs ++ v ∷ [])) i1 (λ v m2 rest' kp2 hv.
            let kp : Kept b.nodes b.temps m m2 answers rest' = kept_then a.follows.nodes a.follows.temps kp1 kp2 in
            ok (vs ++ v ∷ []) m2 rest' kp
            (in_end ts vs m2 _ _ v (in_later ts vs m m2 b.temps _ h.temps kp.temps i) (hv (sym same)).0
            (hv (sym same)).1)
            (length_end vs v ∙ ap suc len)));
        dead = λ g k u j nt len ok.
            let t = temp_of (call site x.temps p x.at).temp in
            a.dead g (ext_then (follows_ext a.follows.fine c.follows) k) u j (λ away. c.dead g k u j away
            (λ ne. ok (nodes_append (λ m. m ≢ u) ts (t ∷ []) nt (ne (sym same), tt)) (counted_end ts t n len)));
      }
  call_placed false site es p ts b n placed a same =
      let x = inputs_piece call es b in
      let c = placed site x.temps p x.at a.follows.fine in
      let h = follows_then a.follows c.follows in
      record {
        follows = h;
        runs = λ g k vs m answers go i len ok.
            a.runs g (ext_then (follows_ext a.follows.fine c.follows) k) m answers (λ ws. calls site ws p (λ v. go vs))
            (λ ws m1 rest kp1 i1.
            c.runs g k ws m1 rest (λ v. go vs) i1 (λ v m2 rest' kp2 hv.
            let kp : Kept b.nodes b.temps m m2 answers rest' = kept_then a.follows.nodes a.follows.temps kp1 kp2 in
            ok vs m2 rest' kp (in_later ts vs m m2 b.temps _ h.temps kp.temps i) len));
        dead = λ g k u j nt len ok. a.dead g (ext_then (follows_ext a.follows.fine c.follows) k) u j
            (λ away. c.dead g k u j away (λ ne. ok nt len));
      }

  -- ## Forks

  fork_by_placed : (steps : Steps) (test : Test) (b : Building) → Placed [] b (steps_piece call steps [] b) 0
      (after_steps steps 0) (steps_then laid calls steps)
      → Below (after_steps steps 0) (tested test) → IsTest test → ForkPlaced b (fork_piece call (fork_by steps test) b)
      (fork_by steps test)
  fork_by_placed steps test b s below is =
      let x = steps_piece call steps [] b in
      let test' = renamed_test (at x.temps) test in
      let is' = test_renamed (at x.temps) test is in
      let f1 = branch_follows test' is' x.at s.follows.fine in
      record {
        follows = follows_then s.follows f1;
        new = s.follows.nodes;
        other_new = omega (arith, s.follows.nodes);
        other_inside = omega arith;
        other_none = branch_other test' x.at s.follows.fine;
        apart = omega arith;
        runs = λ g k m answers one other way way'.
            s.runs g (ext_then (follows_ext s.follows.fine f1) k) [] m answers
            (λ vs. if holds test (value_at vs) then one else other) tt refl (λ vs m1 rest kp1 i len.
            splits laid g test' one other is' (branch_both test' x.at g s.follows.fine k) s.follows.fine.inside
            (omega (arith, s.follows.fine.inside)) (holds test (value_at vs))
            (holds_renamed (at x.temps) test m1.temps ∙ holds_same test (λ v. m1.temps (at x.temps v)) (value_at vs)
            (after_steps steps 0) below (λ v l. (in_at x.temps vs m1 x.at.temps i v (omega (arith, l, len))).0))
            (way _ rest (kept_on kp1 (kept_arrive b.nodes b.temps x.at.nodes m1.temps m1 rest s.follows.nodes
            (λ u l. refl))))
            (way' _ rest (kept_on kp1 (kept_arrive b.nodes b.temps (suc x.at.nodes) m1.temps m1 rest
            (omega (arith, s.follows.nodes)) (λ u l. refl)))));
        dead = λ g k u j d d'.
            s.dead g (ext_then (follows_ext s.follows.fine f1) k) u j tt refl
            (λ nt len. both_dead g u j test' (branch_both test' x.at g s.follows.fine k)
            (tested_away u (after_steps steps 0) x.temps test below len nt) d d');
      }

  converse_placed : (f : Fork) (b : Building) → ForkPlaced b (fork_piece call f b) f
      → ForkPlaced b (fork_piece call (converse f) b) (converse f)
  converse_placed f b o =
      let x = fork_piece call f b in
      record {
        follows = follows_goto x.other o.follows o.other_new o.other_inside o.other_none;
        new = o.other_new;
        other_new = o.new;
        other_inside = o.follows.fine.inside;
        other_none = o.follows.fine.present;
        apart = λ e. o.apart (sym e);
        runs = λ g k m answers one other way way'. o.runs g k m answers other one way' way;
        dead = λ g k u j d d'. o.dead g k u j d' d;
      }

  both_placed : (f h : Fork) (b : Building) → ForkPlaced b (fork_piece call f b) f
      → ((b' : Building) → Fine b' → ForkPlaced b' (fork_piece call h b') h)
      → ForkPlaced b (fork_piece call (both_of f h) b) (both_of f h)
  both_placed f h b l p =
      let x = fork_piece call f b in
      let r = p x.at l.follows.fine in
      let y = fork_piece call h x.at in
      let hh : Follows b y.at = follows_then l.follows r.follows in
      let none1 : leaving y.at.edges x.other ≡ [] = r.follows.same x.other l.other_inside l.apart ∙ l.other_none in
      let mt = meet_placed b y.at hh (x.other ∷ y.other ∷ []) (
        record {
          away = λ k i ne e. absurd (omega (arith, l.other_new, i, e));
          inside =
              omega (arith, l.other_inside, r.follows.nodes);
          none = none1;
        },
        (
          record {
            away = λ k i ne e. absurd (omega (arith, l.follows.nodes, r.other_new, i, e));
            inside =
                r.other_inside;
            none = r.other_none;
          },
          tt,
        ),
      )
      (((λ e. absurd (omega (arith, l.other_inside, r.other_new, e))), tt), (tt, tt)) in
      let j = meet (x.other ∷ y.other ∷ []) y.at in
      let past : leaving j.edges y.at.node ≡ [] = meet_past (x.other ∷ y.other ∷ []) y.at y.at.node
      ((λ e. absurd (omega (arith, l.other_inside, r.new, e))), ((λ e. r.apart e), tt)) ∙ r.follows.fine.present in
      record {
        follows = follows_goto y.at.node mt.follows (omega (arith, l.follows.nodes, r.new))
            (omega (arith, r.follows.fine.inside)) past;
        new = omega (arith, l.follows.nodes, r.new);
        other_new = hh.nodes;
        other_inside = omega arith;
        other_none = mt.follows.fine.present;
        apart = λ e. absurd (omega (arith, r.follows.fine.inside, e));
        runs = λ g k m answers one other way way'.
            let k2 : Ext y.at.edges g = ext_then mt.ext k in
            let js = mt.joins g k in
            l.runs g (ext_then (follows_ext l.follows.fine r.follows) k2) m answers
            (fork_then laid calls h one other) other
            (λ m1 rest kp1. r.runs g k2 m1 rest one other
            (λ m2 rest' kp2. way m2 rest' (kept_on kp1
            (kept_less {n = b.nodes} {b = b.temps} l.follows.nodes l.follows.temps kp2)))
            (λ m2 rest' kp2. meets_run laid g {n = b.nodes} {b = b.temps} js.1.0 hh.nodes (λ m3 kp3 e3.
            way' m3 rest' (kept_on kp1 (kept_on
            (kept_less {n = b.nodes} {b = b.temps} l.follows.nodes l.follows.temps kp2) kp3)))))
            (λ m1 rest kp1. meets_run laid g {n = b.nodes} {b = b.temps} js.0 hh.nodes
            (λ m3 kp3 e3. way' m3 rest (kept_on kp1 kp3)));
        dead = λ g k u j d d'.
            let k2 : Ext y.at.edges g = ext_then mt.ext k in
            let js = mt.joins g k in
            l.dead g (ext_then (follows_ext l.follows.fine r.follows) k2) u j
            (r.dead g k2 u j d (joins_dead g u j js.1.0 d')) (joins_dead g u j js.0 d');
      }

  either_placed : (f h : Fork) (b : Building) → ForkPlaced b (fork_piece call f b) f
      → ((b' : Building) → Fine b' → ForkPlaced b' (fork_piece call h b') h)
      → ForkPlaced b (fork_piece call (either_of f h) b) (either_of f h)
  either_placed f h b l p =
      let x = fork_piece call f b in
      let hg : Follows b (goto x.other x.at) = follows_goto x.other l.follows l.other_new l.other_inside l.other_none in
      let r = p (goto x.other x.at) hg.fine in
      let y = fork_piece call h (goto x.other x.at) in
      let hh : Follows b y.at = follows_then hg r.follows in
      let none1 : leaving y.at.edges x.at.node ≡ [] = r.follows.same x.at.node l.follows.fine.inside
      (λ e. l.apart (sym e)) ∙ l.follows.fine.present in
      let mt = meet_placed b y.at hh (x.at.node ∷ y.at.node ∷ []) (
        record {
          away = λ k i ne e. absurd (omega (arith, l.new, i, e));
          inside =
              omega (arith, l.follows.fine.inside, r.follows.nodes);
          none = none1;
        },
        (present_loose hh, tt),
      )
      (((λ e. absurd (omega (arith, l.follows.fine.inside, r.new, e))), tt), (tt, tt)) in
      let still = mt.open_still y.other (record {
        loose = record {
          away = λ k i ne e. absurd (omega (arith, l.follows.nodes, r.other_new, i, e));
          inside =
              r.other_inside;
          none = r.other_none;
        };
        apart = r.apart;
      }) ((λ e. absurd (omega (arith, l.follows.fine.inside, r.other_new, e))), ((λ e. r.apart (sym e)), tt)) in
      record {
        follows = mt.follows;
        new = hh.nodes;
        other_new = omega (arith, l.follows.nodes, r.other_new);
        other_inside = omega (arith, r.other_inside);
        other_none = still.loose.none;
        apart = still.apart;
        runs = λ g k m answers one other way way'.
            let k2 : Ext y.at.edges g = ext_then mt.ext k in
            let js = mt.joins g k in
            l.runs g (ext_then (follows_ext hg.fine r.follows) k2) m answers one (fork_then laid calls h one other)
            (λ m1 rest kp1. meets_run laid g {n = b.nodes} {b = b.temps} js.0 hh.nodes
            (λ m3 kp3 e3. way m3 rest (kept_on kp1 kp3)))
            (λ m1 rest kp1. r.runs g k2 m1 rest one other
            (λ m2 rest' kp2. meets_run laid g {n = b.nodes} {b = b.temps} js.1.0 hh.nodes (λ m3 kp3 e3.
            way m3 rest' (kept_on kp1 (kept_on
            (kept_less {n = b.nodes} {b = b.temps} l.follows.nodes l.follows.temps kp2) kp3))))
            (λ m2 rest' kp2. way' m2 rest'
            (kept_on kp1 (kept_less {n = b.nodes} {b = b.temps} l.follows.nodes l.follows.temps kp2))));
        dead = λ g k u j d d'.
            let k2 : Ext y.at.edges g = ext_then mt.ext k in
            let js = mt.joins g k in
            l.dead g (ext_then (follows_ext hg.fine r.follows) k2) u j (joins_dead g u j js.0 d)
            (r.dead g k2 u j (joins_dead g u j js.1.0 d) d');
      }

  -- ## All steps

  result_holds : (steps : Steps) (result : Option ℕ) (b : Building) → MaybeBelow (after_steps steps 0) result
      → (vs : List Value) (m : Memory)
      → In (steps_piece call steps [] b).temps vs m (steps_piece call steps [] b).at.temps
      → length vs ≡ after_steps steps 0
      → HasResult (code steps result) → Holds (code_piece call (code steps result) b) (result_value vs result) m
  result_holds steps (Some v) b l vs m i len h = in_at (steps_piece call steps [] b).temps vs m
      (steps_piece call steps [] b).at.temps i v (omega (arith, l, len))
  result_holds steps None b l vs m i len h = absurd h

  result_away : (steps : Steps) (result : Option ℕ) (b : Building) → MaybeBelow (after_steps steps 0) result → (u : ℕ)
      → NotIn u (steps_piece call steps [] b).temps
      → length (steps_piece call steps [] b).temps ≡ after_steps steps 0 → HasResult (code steps result)
      → temp_of (code_piece call (code steps result) b).temp ≢ u
  result_away steps (Some v) b l u nt len h = at_away u (steps_piece call steps [] b).temps nt v (omega (arith, l, len))
  result_away steps None b l u nt len h = absurd h

  module _ (calls_placed : CallsPlaced) where
    mutual
      pub steps_placed : (steps : Steps) (n : ℕ) → InScope has_at n steps → (ts : List ℕ) (b : Building) → Fine b
          → Placed ts b (steps_piece call steps ts b) n (after_steps steps n) (steps_then laid calls steps)
      steps_placed no_more n w ts b f = record {
        follows = follows_same b f;
        runs = λ g k vs m answers go i len ok. ok vs m answers (kept_same b.nodes b.temps m answers) i len;
        dead = λ g k u j nt len ok. ok nt len;
      }
      steps_placed (first_then s rest) n w ts b f =
          let l = step_placed s n w.0 ts b f in
          let x = step_piece call s ts b in
          let r = steps_placed rest (after_step s n) w.1 x.temps x.at l.follows.fine in
          record {
            follows = follows_then l.follows r.follows;
            runs = λ g k vs m answers go i len ok.
                l.runs g (ext_then (follows_ext l.follows.fine r.follows) k) vs m answers
                (λ ws. steps_then laid calls rest ws go) i len (λ ws m1 rest' kp1 i1 len1.
                r.runs g k ws m1 rest' go i1 len1
                (λ us m2 rest'' kp2 i2 len2. ok us m2 rest''
                (kept_then l.follows.nodes l.follows.temps kp1 kp2) i2 len2));
            dead = λ g k u j nt len ok.
                l.dead g (ext_then (follows_ext l.follows.fine r.follows) k) u j nt len
                (λ nt1 len1. r.dead g k u j nt1 len1 ok);
          }

      pub step_placed : (s : Step) (n : ℕ) → StepInScope has_at n s → (ts : List ℕ) (b : Building) → Fine b
          → Placed ts b (step_piece call s ts b) n (after_step s n) (step_then laid calls s)
      step_placed (operate op) n w ts b f = operated_placed op ts b f n w.0 w.1 (given op) refl
      step_placed (value_of c) n w ts b f =
          let l = code_placed c w.0 b f in
          record {
            follows = l.follows;
            runs = λ g k vs m answers go i len ok.
                l.runs g k m answers (λ v. go (vs ++ v ∷ [])) (λ v m1 rest kp hv.
                ok (vs ++ v ∷ []) m1 rest kp (in_end ts vs m1 _ _ v
                (in_later ts vs m m1 b.temps _ l.follows.temps kp.temps i) (hv w.1).0 (hv w.1).1)
                (length_end vs v ∙ ap suc len));
            dead = λ g k u j nt len ok.
                let t = temp_of (code_piece call c b).temp in
                l.dead g k u j (λ away. ok (nodes_append (λ m. m ≢ u) ts (t ∷ []) nt (away w.1, tt))
                (counted_end ts t n len));
          }
      step_placed (only_do c) n w ts b f =
          let l = code_placed c w b f in
          record {
            follows = l.follows;
            runs = λ g k vs m answers go i len ok.
                l.runs g k m answers (λ v. go vs)
                (λ v m1 rest kp hv. ok vs m1 rest kp
                (in_later ts vs m m1 b.temps _ l.follows.temps kp.temps i) len);
            dead = λ g k u j nt len ok. l.dead g k u j (λ away. ok nt len);
          }
      step_placed (truth_of f') n w ts b f = truth_placed f' ts b n (fork_placed f' w b f)
      step_placed (choose f' c d) n w ts b f =
          choose_placed f' c d ts b n (fork_placed f' w.0 b f) (λ b' f''. code_placed c w.1 b' f'') w.2
          (λ b' f''. code_placed d w.3 b' f'') w.4
      step_placed (choose_only f' c d) n w ts b f =
          choose_only_placed f' c d ts b n (fork_placed f' w.0 b f) (λ b' f''. code_placed c w.1 b' f'')
          (λ b' f''. code_placed d w.2 b' f'')
      step_placed (call_of has site es p) n w ts b f = call_placed has site es p ts b n calls_placed
          (inputs_placed es w.0 b f) w.1

      pub inputs_placed : (es : Inputs) → InputsInScope has_at es → (b : Building) → Fine b → InputsPlaced b
          (inputs_piece call es b) es
      inputs_placed no_inputs w b f = record {
        follows = follows_same b f;
        runs = λ g k m answers go ok. ok [] m answers (kept_same b.nodes b.temps m answers) tt;
        dead = λ g k u j ok. ok tt;
      }
      inputs_placed (and_input c es) w b f =
          let l = code_placed c w.0 b f in
          let x = code_piece call c b in
          let r = inputs_placed es w.2 x.at l.follows.fine in
          record {
            follows = follows_then l.follows r.follows;
            runs = λ g k m answers go ok.
                l.runs g (ext_then (follows_ext l.follows.fine r.follows) k) m answers
                (λ v. inputs_then laid calls es (λ vs. go (v ∷ vs))) (λ v m1 rest kp1 hv.
                r.runs g k m1 rest (λ vs. go (v ∷ vs)) (λ vs m2 rest' kp2 i2.
                ok (v ∷ vs) m2 rest' (kept_then l.follows.nodes l.follows.temps kp1 kp2)
                (kp2.temps _ (hv w.1).1 ∙ (hv w.1).0, omega (arith, (hv w.1).1, r.follows.temps), i2)));
            dead = λ g k u j ok.
                l.dead g (ext_then (follows_ext l.follows.fine r.follows) k) u j
                (λ away. r.dead g k u j (λ nt. ok (away w.1, nt)));
          }

      pub code_placed : (c : Code) → CodeInScope has_at c → (b : Building) → Fine b
          → CodePlaced b (code_piece call c b) c
      code_placed (code steps result) w b f =
          let l = steps_placed steps 0 w.0 [] b f in
          record {
            follows = l.follows;
            runs = λ g k m answers go ok.
                l.runs g k [] m answers (λ vs. go (result_value vs result)) tt refl (λ vs m1 rest kp i len.
                ok (result_value vs result) m1 rest kp (result_holds steps result b w.1 vs m1 i len));
            dead = λ g k u j ok. l.dead g k u j tt refl (λ nt len. ok (λ h. result_away steps result b w.1 u nt len h));
          }

      pub fork_placed : (f' : Fork) → ForkInScope has_at f' → (b : Building) → Fine b
          → ForkPlaced b (fork_piece call f' b) f'
      fork_placed (fork_by steps test) w b f = fork_by_placed steps test b (steps_placed steps 0 w.0 [] b f) w.1 w.2
      fork_placed (converse f') w b f = converse_placed f' b (fork_placed f' w b f)
      fork_placed (both_of f' h) w b f = both_placed f' h b (fork_placed f' w.0 b f)
          (λ b' f''. fork_placed h w.1 b' f'')
      fork_placed (either_of f' h) w b f = either_placed f' h b (fork_placed f' w.0 b f)
          (λ b' f''. fork_placed h w.1 b' f'')
