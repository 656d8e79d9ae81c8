-- What is built for `switch`, and so for all statements, runs as they mean.
use Rattle.std.proofs.Common.{◌≡◌, ◌≢◌, ◌⊎◌, inl, inr, ℕ, suc, ◌<◌, ◌≤◌, Bool, true, false, List, [], ◌∷◌, ◌++◌, refl}
use Rattle.std.proofs.Common.{sym, ap, arith}
use Rattle.std.specs.Prelude.{Option}
use Rattle.concrete_steps.specs.tm_laid.Layouts.{LaidTree}
use Rattle.concrete_steps.specs.concrete_values.declared.values.Value.{Value}
use Rattle.concrete_steps.specs.concrete_values.declared.values.Answer.{Answer}
use Rattle.concrete_steps.specs.concrete_values.Operators.{is_case}
use Rattle.concrete_steps.specs.NextAction.{After, Exits}
use Rattle.flow_graph.specs.declared.operations.Test.TheVariants as Tests
use Rattle.flow_graph.specs.Graphs.{Edges}
use Rattle.flow_graph.specs.Runs.{Memory, Runs}
use Rattle.lowering.specs.Steps.{Code, Plan, nothing_more, in_turn, all_steps, one_of, loop_while, loop_stepping}
use Rattle.lowering.specs.Steps.{loop_until, select, break_off, go_on, give_back, Parts, no_parts, labelled, by_default}
use Rattle.lowering.specs.Steps.{and_plan}
use Rattle.lowering.specs.Built.{Building, branch, goto, meet, nowhere, temp_of, Sites, code_piece, is_break}
use Rattle.lowering.specs.Built.{is_continue, is_return, is_no_break, nodes_by, still_by, Onward, Passed, Labels}
use Rattle.lowering.specs.Built.{unless_default, tests_piece, plan_piece, parts_piece}
use Rattle.lowering.proofs.Edges.{Joins, Ext, ext_then, Fine, Follows, follows_then, follows_same, follows_ext}
use Rattle.lowering.proofs.Edges.{branch_follows, branch_other, follows_goto}
use Rattle.lowering.proofs.Pendings.{EachNode, EachPending, EachWay, NotIn, NoDup, Distinct, nodes_map, nodes_zip}
use Rattle.lowering.proofs.Pendings.{nodes_append, nodes_split, nodup_end, each_map, each_zip, each_append}
use Rattle.lowering.proofs.Pendings.{distinct_append, way_append, way_join, nodes_each, still_each, nodes_distinct}
use Rattle.lowering.proofs.Pendings.{still_distinct, still_apart, way_nodes, Loose, OpenAt, open_later, open_from}
use Rattle.lowering.proofs.Pendings.{present_loose, meet_placed}
use Rattle.lowering.proofs.Dead.{DeadIn, both_dead, joins_dead, one_away}
use Rattle.lowering.proofs.Meaning.{Calls, parts_then, label_then, default_part_then}
use Rattle.lowering.proofs.Moves.{Kept, kept_less, kept_on, kept_arrive, splits}
use Rattle.lowering.proofs.Scopes.{HasResult, CodeInScope, NoDefault, OneDefault, PlanInScope, PartsInScope}
use Rattle.lowering.proofs.Expressions.{branch_both, CallsPlaced, steps_placed, code_placed, fork_placed}
use Rattle.lowering.proofs.StatementParts.{way_map, OnwardOk, IsHead, OnHead, onward_later, IsResult, ResultIn}
use Rattle.lowering.proofs.StatementParts.{result_later, no_break_not_break, way_through, way_kept, continue_no_break}
use Rattle.lowering.proofs.StatementParts.{return_no_break, no_break_kept, nowhere_follows, nowhere_open, nodup_join}
use Rattle.lowering.proofs.StatementParts.{none_later, apart_by}
use Rattle.lowering.proofs.Statements as S
use Rattle.lowering.proofs.Loops.{while_placed, stepping_placed, until_placed}

module _ (laid : LaidTree) (has_at : ℕ → Bool) (call : Sites) (calls : Calls)
    (calls_placed : CallsPlaced laid has_at call calls) (valued : Bool) where
  abbrev ToOn : Edges → (n base : ℕ) → Memory → List Answer → After → ℕ → Type 0
  ToOn g n base m answers k node = S.ToOn laid has_at call calls calls_placed valued g n base m answers k node

  abbrev ToReturn : Edges → (n base r : ℕ) → Memory → List Answer → (Value → After) → ℕ → Type 0
  ToReturn g n base r m answers k node =
      S.ToReturn laid has_at call calls calls_placed valued g n base r m answers k node

  abbrev ToHeadOn : Edges → (n base : ℕ) → Memory → List Answer → After → ℕ → Type 0
  ToHeadOn g n base m answers k h = S.ToHeadOn laid has_at call calls calls_placed valued g n base m answers k h

  abbrev ExitsOk : Edges → (n base r : ℕ) → Onward → Passed → Memory → List Answer → Exits → Type 0
  ExitsOk g n base r onward x m answers exits =
      S.ExitsOk laid has_at call calls calls_placed valued g n base r onward x m answers exits

  abbrev PlanPlaced : Plan → Bool → Bool → Onward → Option ℕ → Building → Passed → Type 0
  PlanPlaced s br co onward res b x = S.PlanPlaced laid has_at call calls calls_placed valued s br co onward res b x

  abbrev DeadReturn : Edges → (u j r : ℕ) → ℕ → Type 0
  DeadReturn g u j r n = S.DeadReturn laid has_at call calls calls_placed valued g u j r n

  abbrev ExitsDead : Edges → (u j r : ℕ) → Onward → Passed → Type 0
  ExitsDead g u j r onward x = S.ExitsDead laid has_at call calls calls_placed valued g u j r onward x

  to_later : (g : Edges) {n n' base : ℕ} {m m1 : Memory} {answers rest : List Answer} {k : After} (node : ℕ) → n ≤ n'
      → Kept n base m m1 answers rest
      → ToOn g n base m answers k node → ToOn g n' base m1 rest k node
  to_later g node l kp f = S.to_later laid has_at call calls calls_placed valued g node l kp f

  return_later : (g : Edges) {n n' base r : ℕ} {m m1 : Memory} {answers rest : List Answer} {k : Value → After}
      (node : ℕ) → n ≤ n' → Kept n base m m1 answers rest
      → ToReturn g n base r m answers k node → ToReturn g n' base r m1 rest k node
  return_later g node l kp f = S.return_later laid has_at call calls calls_placed valued g node l kp f

  head_later : (g : Edges) {n n' base : ℕ} {m m1 : Memory} {answers rest : List Answer} (k : After) (onward : Onward)
      → n ≤ n' → Kept n base m m1 answers rest
      → OnHead onward (ToHeadOn g n base m answers k) → OnHead onward (ToHeadOn g n' base m1 rest k)
  head_later g k onward l kp f = S.head_later laid has_at call calls calls_placed valued g k onward l kp f

  to_joined : (g : Edges) {n base : ℕ} {m : Memory} {answers : List Answer} {k : After} (node j : ℕ) → n ≤ j
      → Joins g node j → ToOn g n base m answers k j → ToOn g n base m answers k node
  to_joined g node j l h f = S.to_joined laid has_at call calls calls_placed valued g node j l h f

  -- ## `switch`

  -- there is a node for each label
  abbrev Match : Parts → List ℕ → Type 0
  Match no_parts [] = Unit {0}
  Match no_parts (l ∷ ls) = ⊥
  Match (labelled z rest) [] = ⊥
  Match (labelled z rest) (l ∷ ls) = Match rest ls
  Match (by_default rest) ls = Match rest ls
  Match (and_plan s rest) ls = Match rest ls

  -- from the node of each label the parts behind it go on
  abbrev LabelsOk : Edges → (n base : ℕ) → Memory → List Answer → Exits → Parts → List ℕ → Type 0
  LabelsOk g n base m answers exits no_parts ls = Unit {0}
  LabelsOk g n base m answers exits (labelled z rest) [] = ⊥
  LabelsOk g n base m answers exits (labelled z rest) (l ∷ ls) =
      ToOn g n base m answers (parts_then laid calls rest exits) l × LabelsOk g n base m answers exits rest ls
  LabelsOk g n base m answers exits (by_default rest) ls = LabelsOk g n base m answers exits rest ls
  LabelsOk g n base m answers exits (and_plan s rest) ls = LabelsOk g n base m answers exits rest ls

  -- and from the node behind the tests, where there is a default
  abbrev DefaultOk : Edges → (n base : ℕ) → Memory → List Answer → Exits → Parts → ℕ → Type 0
  DefaultOk g n base m answers exits no_parts none = Unit {0}
  DefaultOk g n base m answers exits (labelled z rest) none = DefaultOk g n base m answers exits rest none
  DefaultOk g n base m answers exits (by_default rest) none =
      ToOn g n base m answers (parts_then laid calls rest exits) none
  DefaultOk g n base m answers exits (and_plan s rest) none = DefaultOk g n base m answers exits rest none

  -- and a temporary is dead there
  abbrev LabelsDead : Edges → (u j : ℕ) → Parts → List ℕ → Type 0
  LabelsDead g u j no_parts ls = Unit {0}
  LabelsDead g u j (labelled z rest) [] = ⊥
  LabelsDead g u j (labelled z rest) (l ∷ ls) = DeadIn g u j l × LabelsDead g u j rest ls
  LabelsDead g u j (by_default rest) ls = LabelsDead g u j rest ls
  LabelsDead g u j (and_plan s rest) ls = LabelsDead g u j rest ls

  abbrev DefaultDead : Edges → (u j : ℕ) → Parts → ℕ → Type 0
  DefaultDead g u j no_parts none = Unit {0}
  DefaultDead g u j (labelled z rest) none = DefaultDead g u j rest none
  DefaultDead g u j (by_default rest) none = DeadIn g u j none
  DefaultDead g u j (and_plan s rest) none = DefaultDead g u j rest none

  record TestsPlaced (ps : Parts) (t : ℕ) (b : Building) (x : Labels) : Type 0 where
    pub follows : Follows b x.at
    pub match : Match ps x.nodes
    pub waits : EachNode (OpenAt b x.at) x.nodes
    pub once : NoDup x.nodes
    pub runs : (g : Edges) → Ext x.at.edges g → (n base : ℕ) → n ≤ b.nodes → (m0 : Memory) (answers0 : List Answer)
        (exits : Exits) (other : After) (m : Memory) (answers : List Answer) (v : Value)
        → Kept n base m0 m answers0 answers → m.temps t ≡ v → LabelsOk g n base m0 answers0 exits ps x.nodes
        → ToOn g n base m0 answers0 other x.at.node
        → Runs laid g b.node m answers (label_then laid calls v ps exits other answers)
    pub dead : (g : Edges) → Ext x.at.edges g → (u j : ℕ) → t ≢ u → LabelsDead g u j ps x.nodes → DeadIn g u j x.at.node
        → DeadIn g u j b.node

  tests_placed : (ps : Parts) (t : ℕ) (b : Building) → Fine b → TestsPlaced ps t b (tests_piece ps t b)
  tests_placed no_parts t b f = record {
    follows = follows_same b f;
    match = tt;
    waits = tt;
    once = tt;
    runs = λ g k n base l m0 answers0 exits other m answers v kp e ls on. on m answers kp;
    dead = λ g k u j ne ls d. d;
  }
  tests_placed (labelled z rest) t b f =
      let test = Tests.Case true z t in
      let fb = branch_follows test tt b f in
      let o = branch test b in
      let h : Follows b (goto (suc b.nodes) o) = follows_goto (suc b.nodes) fb (omega arith) (omega arith)
      (branch_other test b f) in
      let r = tests_placed rest t (goto (suc b.nodes) o) h.fine in
      let x = tests_piece rest t (goto (suc b.nodes) o) in
      let here : OpenAt b (goto (suc b.nodes) o) b.nodes = record {
        loose = record {
          away = λ n i ne e. absurd (omega (arith, i, e));
          inside = omega arith;
          none =
              fb.fine.present;
        };
        apart = λ e. absurd (omega (arith, e));
      } in
      record {
        follows = follows_then h r.follows;
        match = r.match;
        waits = (
          open_later b.nodes r.follows here,
          nodes_map (OpenAt (goto (suc b.nodes) o) x.at)
              (OpenAt b x.at) x.nodes (λ n q. open_from n h q) r.waits,
        );
        once = (
          nodes_map (OpenAt (goto (suc b.nodes) o) x.at) (λ n. n ≢ b.nodes) x.nodes
              (λ n q e. q.loose.away b.nodes (omega arith) (λ i. absurd (omega (arith, i))) (sym e)) r.waits,
          r.once,
        );
        runs = λ g k n base l m0 answers0 exits other m answers v kp e ls on.
            splits laid g test (parts_then laid calls rest exits) (label_then laid calls v rest exits other) tt
            (branch_both test b g f (ext_then (follows_ext h.fine r.follows) k)) f.inside (omega (arith, f.inside))
            (is_case z v) (ap (λ w. is_case z w) e)
            (ls.0 _ answers (kept_on kp (kept_arrive n base b.nodes m.temps m answers l (λ u i. refl))))
            (r.runs g k n base (omega (arith, l)) m0 answers0 exits other _ answers v
            (kept_on kp (kept_arrive n base (suc b.nodes) m.temps m answers (omega (arith, l))
            (λ u i. refl))) e ls.1 on);
        dead = λ g k u j ne ls d.
            both_dead g u j test (branch_both test b g f (ext_then (follows_ext h.fine r.follows) k))
            (one_away u t ne) ls.0 (r.dead g k u j ne ls.1 d);
      }
  tests_placed (by_default rest) t b f =
      let r = tests_placed rest t b f in
      record { follows = r.follows; match = r.match; waits = r.waits; once = r.once; runs = r.runs; dead = r.dead }
  tests_placed (and_plan s rest) t b f =
      let r = tests_placed rest t b f in
      record { follows = r.follows; match = r.match; waits = r.waits; once = r.once; runs = r.runs; dead = r.dead }

  no_default_one : (ps : Parts) → NoDefault has_at ps → OneDefault has_at ps
  no_default_one no_parts w = tt
  no_default_one (labelled z rest) w = no_default_one rest w
  no_default_one (by_default rest) w = absurd w
  no_default_one (and_plan s rest) w = no_default_one rest w

  -- what is built for the parts of a `switch`, whose tests follow b0
  record PartsPlaced (b0 : Building) (ps : Parts) (ls : List ℕ) (none : ℕ) (br co : Bool) (onward : Onward)
      (res : Option ℕ) (b : Building) (x : Passed) : Type 0 where
    pub follows : Follows b0 x.at
    pub ext : Ext b.edges x.at.edges
    pub nodes : b.nodes ≤ x.at.nodes
    pub temps : b.temps ≤ x.at.temps
    pub each : EachPending (OpenAt b0 x.at) x.pending
    pub new : EachPending (λ q. (p : ℕ) → p < b.nodes → p ≢ b.node → p ≢ q) x.pending
    pub distinct : Distinct x.pending
    pub keeps : (p : ℕ) → OpenAt b0 b p → NotIn p ls → (none ≢ p) ⊎ NoDefault has_at ps → OpenAt b0 x.at p
    pub none_on : IsHead onward → EachWay is_continue (λ n. ⊥) x.pending
    pub no_conts : co ≡ false → EachWay is_continue (λ n. ⊥) x.pending
    pub stays : (r : ℕ) → IsResult x.result r → IsResult res r
    pub found : (base : ℕ) → base ≤ b.temps → ResultIn base res b → ResultIn base x.result x.at
    pub runs : (g : Edges) → Ext x.at.edges g → (n base q : ℕ) → n ≤ b.nodes → base ≤ b.temps → base ≤ q
        → IsResult x.result q → (m : Memory) (answers : List Answer) (exits : Exits)
        → ExitsOk g n base q onward x m answers exits
        → ToOn g n base m answers (parts_then laid calls ps exits) b.node × LabelsOk g n base m answers exits ps ls
        × DefaultOk g n base m answers exits ps none
    pub dead : (g : Edges) → Ext x.at.edges g → (u j q : ℕ) → IsResult x.result q → ExitsDead g u j q onward x
        → DeadIn g u j b.node × LabelsDead g u j ps ls × DefaultDead g u j ps none

  -- the node of a default, or that of a label, and where the parts before go on come together
  met_placed : (b0 b : Building) (ps rest : Parts) (l : ℕ) (ls ls' : List ℕ) (none : ℕ) (br co : Bool) (onward : Onward)
      (res : Option ℕ) (x : Passed) → Follows b0 b → OpenAt b0 b l
      → PartsPlaced b0 rest ls' none br co onward res (meet (l ∷ b.node ∷ []) b) x
      → ((p : ℕ) → OpenAt b0 b p → NotIn p ls → (none ≢ p) ⊎ NoDefault has_at ps → (l ≢ p) × NotIn p ls'
      × ((none ≢ p) ⊎ NoDefault has_at rest))
      → ((g : Edges) (n base : ℕ) (m : Memory) (answers : List Answer) (exits : Exits) → ToOn g n base m answers
      (parts_then laid calls rest exits) b.node → ToOn g n base m answers (parts_then laid calls rest exits) l
      → LabelsOk g n base m answers exits rest ls' → DefaultOk g n base m answers exits rest none
      → ToOn g n base m answers (parts_then laid calls ps exits) b.node × LabelsOk g n base m answers exits ps ls
      × DefaultOk g n base m answers exits ps none)
      → ((g : Edges) (u j : ℕ) → DeadIn g u j b.node → DeadIn g u j l → LabelsDead g u j rest ls'
      → DefaultDead g u j rest none
      → DeadIn g u j b.node × LabelsDead g u j ps ls × DefaultDead g u j ps none)
      → PartsPlaced b0 ps ls none br co onward res b x
  met_placed b0 b ps rest l ls ls' none br co onward res x h ol r keep runs dead =
      let mt = meet_placed b0 b h (l ∷ b.node ∷ []) (ol.loose, (present_loose h, tt))
      (((λ e. ol.apart (sym e)), tt), (tt, tt)) in
      record {
        follows = r.follows;
        ext = ext_then mt.ext r.ext;
        nodes = omega (arith, r.nodes);
        temps = r.temps;
        each = r.each;
        new = each_map (λ q. (p : ℕ) → p < suc b.nodes → p ≢ b.nodes → p ≢ q)
            (λ q. (p : ℕ) → p < b.nodes → p ≢ b.node → p ≢ q) x.pending
            (λ q f p i ne. f p (omega arith) (λ e. absurd (omega (arith, i, e)))) r.new;
        distinct = r.distinct;
        keeps = λ p o i w. let k = keep p o i w in
            r.keeps p (mt.open_still p o (k.0, ((λ e. o.apart (sym e)), tt))) k.1 k.2;
        none_on = r.none_on;
        no_conts = r.no_conts;
        stays = r.stays;
        found = λ base i e. r.found base i (result_later base res b _ (omega arith) e);
        runs = λ g k n base q i lb lr ir m answers exits ok.
            let a = r.runs g k n base q (omega (arith, i)) lb lr ir m answers exits ok in
            let js = mt.joins g (ext_then r.ext k) in
            runs g n base m answers exits (to_joined g b.node b.nodes i js.1.0 a.0)
            (to_joined g l b.nodes i js.0 a.0) a.1 a.2;
        dead = λ g k u j q ir d.
            let a = r.dead g k u j q ir d in
            let js = mt.joins g (ext_then r.ext k) in
            dead g u j (joins_dead g u j js.1.0 a.0) (joins_dead g u j js.0 a.0) a.1 a.2;
      }

  none_apart : (b0 b x : Building) (ls : List ℕ) (none : ℕ) (rest : Parts) (q : ℕ) → OpenAt b x q
      → (OpenAt b0 b none × NotIn none ls) ⊎ NoDefault has_at rest → (none ≢ q) ⊎ NoDefault has_at rest
  none_apart b0 b x ls none rest q o (inl d) = inl (o.loose.away none d.0.loose.inside d.0.apart)
  none_apart b0 b x ls none rest q o (inr d) = inr d

  -- the exit of a `switch` without a default
  each_unless : (P : ℕ → Type 0) (ps : Parts) (n : ℕ) → (NoDefault has_at ps → P n) → EachNode P (unless_default ps n)
  each_unless P no_parts n h = (h tt, tt)
  each_unless P (labelled z rest) n h = each_unless P rest n h
  each_unless P (by_default rest) n h = tt
  each_unless P (and_plan s rest) n h = each_unless P rest n h

  nodup_unless : (ps : Parts) (n : ℕ) → NoDup (unless_default ps n)
  nodup_unless no_parts n = (tt, tt)
  nodup_unless (labelled z rest) n = nodup_unless rest n
  nodup_unless (by_default rest) n = tt
  nodup_unless (and_plan s rest) n = nodup_unless rest n

  default_on : (g : Edges) (n base : ℕ) (m : Memory) (answers : List Answer) (exits : Exits) (ps : Parts) (none : ℕ)
      → DefaultOk g n base m answers exits ps none
      → EachNode (ToOn g n base m answers exits.on) (unless_default ps none) → ToOn g n base m answers
      (default_part_then laid calls ps exits) none
  default_on g n base m answers exits no_parts none d u = u.0
  default_on g n base m answers exits (labelled z rest) none d u = default_on g n base m answers exits rest none d u
  default_on g n base m answers exits (by_default rest) none d u = d
  default_on g n base m answers exits (and_plan s rest) none d u = default_on g n base m answers exits rest none d u

  default_dead : (g : Edges) (u j : ℕ) (ps : Parts) (none : ℕ) → DefaultDead g u j ps none → EachNode (DeadIn g u j)
      (unless_default ps none) → DeadIn g u j none
  default_dead g u j no_parts none d e = e.0
  default_dead g u j (labelled z rest) none d e = default_dead g u j rest none d e
  default_dead g u j (by_default rest) none d e = d
  default_dead g u j (and_plan s rest) none d e = default_dead g u j rest none d e

  select_placed : (c : Code) (ps : Parts) (br co : Bool) (onward : Onward) (res : Option ℕ) (b : Building) → Fine b
      → OnwardOk onward b
      → CodeInScope has_at c × HasResult c × OneDefault has_at ps × PartsInScope has_at valued true co ps
      → ((b0 : Building) (ls : List ℕ) (none : ℕ) (res : Option ℕ) (b : Building) → Follows b0 b → OnwardOk onward b
      → Match ps ls → EachNode (OpenAt b0 b) ls → NoDup ls
      → (OpenAt b0 b none × NotIn none ls) ⊎ NoDefault has_at ps → PartsPlaced b0 ps ls none true co onward res b
      (parts_piece call ps ls none onward res b))
      → PlanPlaced (select c ps) br co onward res b (plan_piece call (select c ps) onward res b)
  select_placed c ps br co onward res b fb ow w pp =
      let v = code_placed laid has_at call calls calls_placed c w.0 b fb in
      let z = code_piece call c b in
      let t = temp_of z.temp in
      let tp = tests_placed ps t z.at v.follows.fine in
      let ls = tests_piece ps t z.at in
      let none = ls.at.node in
      let b1 = nowhere ls.at in
      let f1 : Follows ls.at b1 = nowhere_follows ls.at tp.follows.fine in
      let h1 : Follows z.at b1 = follows_then tp.follows f1 in
      let on_none : OpenAt z.at b1 none = nowhere_open z.at ls.at tp.follows in
      let r = pp z.at ls.nodes none res b1 h1
      (onward_later onward b _ ow (omega (arith, v.follows.low, h1.low))) tp.match
      (nodes_map (OpenAt z.at ls.at) (OpenAt z.at b1) ls.nodes (λ p o. open_later p f1 o) tp.waits) tp.once
      (inl (on_none, nodes_map (OpenAt z.at ls.at) (λ p. p ≢ none) ls.nodes (λ p o. o.apart) tp.waits)) in
      let x = parts_piece call ps ls.nodes none onward res b1 in
      let h : Follows b x.at = follows_then v.follows r.follows in
      let breaks0 : List ℕ = nodes_by is_break x.pending in
      let firsts : List ℕ = unless_default ps none in
      let outs : List ℕ = (firsts ++ breaks0) ++ x.at.node ∷ [] in
      let each : EachPending (OpenAt b x.at) x.pending = each_map (OpenAt z.at x.at) (OpenAt b x.at) x.pending
      (λ q o. open_from q v.follows o) r.each in
      let not_none : EachPending (λ q. none ≢ q) x.pending =
      each_map (λ q. (p : ℕ) → p < b1.nodes → p ≢ b1.node → p ≢ q) (λ q. none ≢ q) x.pending
      (λ q f. f none on_none.loose.inside on_none.apart) r.new in
      let none_open : NoDefault has_at ps → OpenAt b x.at none = λ d. open_from none v.follows
      (r.keeps none on_none (nodes_map (OpenAt z.at ls.at) (λ p. p ≢ none) ls.nodes (λ p o. o.apart) tp.waits)
      (inr d)) in
      let loose : EachNode (Loose b x.at) outs = nodes_append (Loose b x.at) (firsts ++ breaks0) (x.at.node ∷ [])
      (nodes_append (Loose b x.at) firsts breaks0 (each_unless (Loose b x.at) ps none (λ d. (none_open d).loose))
      (nodes_each is_break (Loose b x.at) x.pending
      (each_map (OpenAt b x.at) (Loose b x.at) x.pending (λ q o. o.loose) each)))
      (present_loose h, tt) in
      let once : NoDup outs = nodup_end (firsts ++ breaks0) x.at.node
      (nodup_join firsts breaks0 (nodup_unless ps none) (nodes_distinct is_break x.pending r.distinct)
      (each_unless (λ p. NotIn p breaks0) ps none
      (λ d. nodes_each is_break (λ n. n ≢ none) x.pending
      (each_map (λ q. none ≢ q) (λ n. n ≢ none) x.pending (λ q f e. f (sym e)) not_none))))
      (nodes_append (λ n. n ≢ x.at.node) firsts breaks0
      (each_unless (λ n. n ≢ x.at.node) ps none (λ d. (none_open d).apart))
      (nodes_each is_break (λ n. n ≢ x.at.node) x.pending
      (each_map (OpenAt b x.at) (λ n. n ≢ x.at.node) x.pending (λ q o. o.apart) each))) in
      let mt = meet_placed b x.at h outs loose once in
      record {
        follows = mt.follows;
        stays = r.stays;
        found = λ base i e. result_later base x.result x.at _ (omega arith)
            (r.found base (omega (arith, v.follows.temps, h1.temps))
            (result_later base res b _ (omega (arith, v.follows.temps, h1.temps)) e));
        each = each_zip (OpenAt b x.at) (λ p. NotIn p breaks0 × (none ≢ p)) (OpenAt b (meet outs x.at))
            (still_by is_no_break x.pending)
            (λ q o k. mt.open_still q o (nodes_append (λ n. n ≢ q) (firsts ++ breaks0) (x.at.node ∷ [])
            (nodes_append (λ n. n ≢ q) firsts breaks0 (each_unless (λ n. n ≢ q) ps none (λ d. k.1)) k.0)
            ((λ e. o.apart (sym e)), tt)))
            (still_each is_no_break (OpenAt b x.at) x.pending each)
            (each_zip (λ p. NotIn p breaks0) (λ p. none ≢ p) (λ p. NotIn p breaks0 × (none ≢ p))
            (still_by is_no_break x.pending) (λ q a d. (a, d))
            (still_apart is_break is_no_break no_break_not_break x.pending r.distinct)
            (still_each is_no_break (λ p. none ≢ p) x.pending not_none));
        distinct = still_distinct is_no_break x.pending r.distinct;
        none_on = λ i. way_kept is_continue is_no_break (λ n. ⊥) x.pending (r.none_on i);
        no_breaks = λ e. no_break_kept (λ n. ⊥) x.pending;
        no_conts = λ e. way_kept is_continue is_no_break (λ n. ⊥) x.pending (r.no_conts e);
        runs = λ g k base q lb lr ir m answers exits ok.
            let kx : Ext x.at.edges g = ext_then mt.ext k in
            let k1 : Ext b1.edges g = ext_then r.ext kx in
            let kl : Ext ls.at.edges g = ext_then (follows_ext tp.follows.fine f1) k1 in
            let js = nodes_split (λ p. Joins g p x.at.nodes) (firsts ++ breaks0) (x.at.node ∷ []) (mt.joins g k) in
            let js' = nodes_split (λ p. Joins g p x.at.nodes) firsts breaks0 js.0 in
            let leave : (p : ℕ) → Joins g p x.at.nodes → ToOn g b.nodes base m answers exits.on p =
            λ p j. to_joined g p x.at.nodes (omega (arith, h.nodes)) j ok.on in
            let a = r.runs g kx b.nodes base q (omega (arith, v.follows.nodes, h1.nodes))
            (omega (arith, lb, v.follows.temps, h1.temps)) lr ir m answers (record exits { breaks = exits.on })
            (record {
              on = leave x.at.node js.1.0;
              breaks_on = way_nodes is_break (ToOn g b.nodes base m answers exits.on) x.pending
                  (nodes_map (λ p. Joins g p x.at.nodes) (ToOn g b.nodes base m answers exits.on) breaks0 leave js'.1);
              continues_on = way_through is_continue is_no_break continue_no_break
                  (ToOn g b.nodes base m answers exits.continues) x.pending ok.continues_on;
              head_on = ok.head_on;
              returns_on = way_through is_return is_no_break return_no_break
                  (ToReturn g b.nodes base q m answers exits.returns) x.pending ok.returns_on;
            }) in
            v.runs g (ext_then (follows_ext v.follows.fine tp.follows) kl) m answers _ (λ u m1 rest kp hv.
            tp.runs g kl b.nodes base v.follows.nodes m answers (record exits { breaks = exits.on })
            (default_part_then laid calls ps (record exits { breaks = exits.on })) m1 rest u
            (kept_less (omega arith) lb kp) (hv w.1).0 a.1
            (default_on g b.nodes base m answers (record exits { breaks = exits.on }) ps none a.2
            (nodes_map (λ p. Joins g p x.at.nodes) (ToOn g b.nodes base m answers exits.on) firsts leave js'.0)));
        dead = λ g k u j q ir d.
            let kx : Ext x.at.edges g = ext_then mt.ext k in
            let k1 : Ext b1.edges g = ext_then r.ext kx in
            let kl : Ext ls.at.edges g = ext_then (follows_ext tp.follows.fine f1) k1 in
            let js = nodes_split (λ p. Joins g p x.at.nodes) (firsts ++ breaks0) (x.at.node ∷ []) (mt.joins g k) in
            let js' = nodes_split (λ p. Joins g p x.at.nodes) firsts breaks0 js.0 in
            let leave : (p : ℕ) → Joins g p x.at.nodes → DeadIn g u j p = λ p jn. joins_dead g u j jn d.on in
            let a = r.dead g kx u j q ir (record {
              on = leave x.at.node js.1.0;
              breaks_on = way_nodes is_break (DeadIn g u j) x.pending
                  (nodes_map (λ p. Joins g p x.at.nodes) (DeadIn g u j) breaks0 leave js'.1);
              continues_on = way_through is_continue is_no_break continue_no_break
                  (DeadIn g u j) x.pending d.continues_on;
              head_on = d.head_on;
              returns_on = way_through is_return is_no_break return_no_break
                  (DeadReturn g u j q) x.pending d.returns_on;
            }) in
            v.dead g (ext_then (follows_ext v.follows.fine tp.follows) kl) u j (λ away.
            tp.dead g kl u j (away w.1) a.1
            (default_dead g u j ps none a.2
            (nodes_map (λ p. Joins g p x.at.nodes) (DeadIn g u j) firsts leave js'.0)));
      }

  -- ## All statements

  mutual
    pub plan_placed : (s : Plan) (br co : Bool) → PlanInScope has_at valued br co s → (onward : Onward) (res : Option ℕ)
        (b : Building) → Fine b → OnwardOk onward b
        → PlanPlaced s br co onward res b (plan_piece call s onward res b)
    plan_placed nothing_more br co w onward res b f ow =
        S.nothing_placed laid has_at call calls calls_placed valued br co onward res b f
    plan_placed (in_turn s s') br co w onward res b f ow =
        let l = plan_placed s br co w.0 onward res b f ow in
        let x = plan_piece call s onward res b in
        S.turn_placed laid has_at call calls calls_placed valued s s' br co onward res b l
        (plan_placed s' br co w.1 onward x.result x.at l.follows.fine (onward_later onward b _ ow l.follows.low))
    plan_placed (all_steps steps) br co w onward res b f ow =
        S.steps_plan_placed laid has_at call calls calls_placed valued steps br co onward res b
        (steps_placed laid has_at call calls calls_placed steps 0 w [] b f)
    plan_placed (one_of k s s') br co w onward res b f ow =
        S.one_placed laid has_at call calls calls_placed valued k s s' br co onward res b ow
        (fork_placed laid has_at call calls calls_placed k w.0 b f)
        (λ onward' res' b' f' ow'. plan_placed s br co w.1 onward' res' b' f' ow')
        (λ onward' res' b' f' ow'. plan_placed s' br co w.2 onward' res' b' f' ow')
    plan_placed (loop_while k s) br co w onward res b f ow =
        while_placed laid has_at call calls calls_placed valued k s br co onward res b f
        (λ b' f'. fork_placed laid has_at call calls calls_placed k w.0 b' f')
        (λ onward' res' b' f' ow'. plan_placed s true true w.1 onward' res' b' f' ow')
    plan_placed (loop_stepping k step s) br co w onward res b f ow =
        stepping_placed laid has_at call calls calls_placed valued k step s br co onward res b f w.0 w.1
        (λ onward' res' b' f' ow'. plan_placed s true true w.2 onward' res' b' f' ow')
    plan_placed (loop_until s k) br co w onward res b f ow =
        until_placed laid has_at call calls calls_placed valued s k br co onward res b f
        (λ b' f'. fork_placed laid has_at call calls calls_placed k w.1 b' f')
        (λ onward' res' b' f' ow'. plan_placed s true true w.0 onward' res' b' f' ow')
    plan_placed (select c ps) br co w onward res b f ow =
        select_placed c ps br co onward res b f ow w
        (λ b0 ls none res' b' h ow' mat waits once dn.
        parts_placed b0 ps true co onward w.3 w.2 ls none res' b' h ow' mat waits once dn)
    plan_placed break_off br co w onward res b f ow =
        S.break_placed laid has_at call calls calls_placed valued br co w onward res b f
    plan_placed go_on br co w onward res b f ow =
        S.continue_placed laid has_at call calls calls_placed valued br co w onward res b f ow
    plan_placed (give_back c) br co w onward res b f ow =
        S.return_placed laid has_at call calls calls_placed valued c br co onward res b f w

    parts_placed : (b0 : Building) (ps : Parts) (br co : Bool) (onward : Onward) → PartsInScope has_at valued br co ps
        → OneDefault has_at ps → (ls : List ℕ) (none : ℕ) (res : Option ℕ) (b : Building) → Follows b0 b
        → OnwardOk onward b
        → Match ps ls → EachNode (OpenAt b0 b) ls → NoDup ls → (OpenAt b0 b none × NotIn none ls) ⊎ NoDefault has_at ps
        → PartsPlaced b0 ps ls none br co onward res b (parts_piece call ps ls none onward res b)
    parts_placed b0 no_parts br co onward w one ls none res b h ow mat waits once dn = record {
      follows = h;
      ext = record { same = λ n e es x. x };
      nodes = omega arith;
      temps = omega arith;
      each = tt;
      new = tt;
      distinct = tt;
      keeps = λ p o i d. o;
      none_on = λ i. tt;
      no_conts = λ e. tt;
      stays = λ r i. i;
      found = λ base l e. e;
      runs = λ g k n base q i lb lr ir m answers exits ok. (ok.on, tt, tt);
      dead = λ g k u j q ir d. (d.on, tt, tt);
    }
    parts_placed b0 (labelled z rest) br co onward w one [] none res b h ow mat waits once dn = absurd mat
    parts_placed b0 (labelled z rest) br co onward w one (l ∷ ls) none res b h ow mat waits once dn =
        let mt = meet_placed b0 b h (l ∷ b.node ∷ []) (waits.0.loose, (present_loose h, tt))
        (((λ e. waits.0.apart (sym e)), tt), (tt, tt)) in
        let r = parts_placed b0 rest br co onward w one ls none res (meet (l ∷ b.node ∷ []) b) mt.follows
        (onward_later onward b _ ow (omega (arith, h.fine.inside))) mat
        (nodes_zip (OpenAt b0 b) (λ p. p ≢ l) (OpenAt b0 (meet (l ∷ b.node ∷ []) b)) ls
        (λ p o ne. mt.open_still p o ((λ e. ne (sym e)), ((λ e. o.apart (sym e)), tt))) waits.1 once.0) once.1
        (none_later dn (λ o. (mt.open_still none o.0 (o.1.0, ((λ e. o.0.apart (sym e)), tt)), o.1.1))) in
        met_placed b0 b (labelled z rest) rest l (l ∷ ls) ls none br co onward res _ h waits.0 r
        (λ p o i d. (i.0, i.1, d)) (λ g n base m answers exits fall at labels default.
        (fall, (at, labels), default))
        (λ g u j fall at labels default. (fall, (at, labels), default))
    parts_placed b0 (by_default rest) br co onward w one ls none res b h ow mat waits once (inr d) = absurd d
    parts_placed b0 (by_default rest) br co onward w one ls none res b h ow mat waits once (inl o) =
        let mt = meet_placed b0 b h (none ∷ b.node ∷ []) (o.0.loose, (present_loose h, tt))
        (((λ e. o.0.apart (sym e)), tt), (tt, tt)) in
        let r = parts_placed b0 rest br co onward w (no_default_one rest one) ls none res
        (meet (none ∷ b.node ∷ []) b) mt.follows (onward_later onward b _ ow (omega (arith, h.fine.inside))) mat
        (nodes_zip (OpenAt b0 b) (λ p. p ≢ none) (OpenAt b0 (meet (none ∷ b.node ∷ []) b)) ls
        (λ p q ne. mt.open_still p q ((λ e. ne (sym e)), ((λ e. q.apart (sym e)), tt))) waits o.1) once (inr one) in
        met_placed b0 b (by_default rest) rest none ls ls none br co onward res _ h o.0 r
        (λ p q i d. (apart_by none p d, i, inr one))
        (λ g n base m answers exits fall at labels default. (fall, labels, at))
        (λ g u j fall at labels default. (fall, labels, at))
    parts_placed b0 (and_plan s rest) br co onward w one ls none res b h ow mat waits once dn =
        let l = plan_placed s br co w.0 onward res b h.fine ow in
        let x = plan_piece call s onward res b in
        let hx : Follows b0 x.at = follows_then h l.follows in
        let r = parts_placed b0 rest br co onward w.1 one ls none x.result x.at hx
        (onward_later onward b _ ow l.follows.low) mat
        (nodes_map (OpenAt b0 b) (OpenAt b0 x.at) ls (λ p o. open_later p l.follows o) waits) once
        (none_later dn (λ o. (open_later none l.follows o.0, o.1))) in
        let y = parts_piece call rest ls none onward x.result x.at in
        record {
          follows = r.follows;
          ext = ext_then (follows_ext h.fine l.follows) r.ext;
          nodes = omega (arith, l.follows.nodes, r.nodes);
          temps = omega (arith, l.follows.temps, r.temps);
          each = each_append (OpenAt b0 y.at) x.pending y.pending
              (each_map (OpenAt b x.at) (OpenAt b0 y.at) x.pending
              (λ q o. r.keeps q (open_from q h o)
              (nodes_map (OpenAt b0 b) (λ n. n ≢ q) ls (λ p op e. o.loose.away p op.loose.inside op.apart e) waits)
              (none_apart b0 b x.at ls none rest q o dn)) l.each)
              r.each;
          new = each_append (λ q. (p : ℕ) → p < b.nodes → p ≢ b.node → p ≢ q) x.pending y.pending
              (each_map (OpenAt b x.at) (λ q. (p : ℕ) → p < b.nodes → p ≢ b.node → p ≢ q) x.pending
              (λ q o p i ne. o.loose.away p i ne) l.each)
              (each_map (λ q. (p : ℕ) → p < x.at.nodes → p ≢ x.at.node → p ≢ q)
              (λ q. (p : ℕ) → p < b.nodes → p ≢ b.node → p ≢ q) y.pending
              (λ q f p i ne. f p (omega (arith, i, l.follows.nodes)) (l.follows.away p i ne)) r.new);
          distinct = distinct_append x.pending y.pending l.distinct r.distinct
              (each_map (OpenAt b x.at) (λ p. EachPending (λ n. n ≢ p) y.pending) x.pending
              (λ p o. each_map (λ q. (p : ℕ) → p < x.at.nodes → p ≢ x.at.node → p ≢ q) (λ n. n ≢ p) y.pending
              (λ n f e. f p o.loose.inside o.apart (sym e)) r.new) l.each);
          keeps = λ p o i d. r.keeps p (open_later p l.follows o) i d;
          none_on = λ i. way_join is_continue (λ n. ⊥) x.pending y.pending (l.none_on i) (r.none_on i);
          no_conts = λ e. way_join is_continue (λ n. ⊥) x.pending y.pending (l.no_conts e) (r.no_conts e);
          stays = λ q i. l.stays q (r.stays q i);
          found = λ base i e. r.found base (omega (arith, l.follows.temps)) (l.found base i e);
          runs = λ g k n base q i lb lr ir m answers exits ok.
              let sb = way_append is_break (ToOn g n base m answers exits.breaks) x.pending y.pending ok.breaks_on in
              let sc = way_append is_continue
              (ToOn g n base m answers exits.continues) x.pending y.pending ok.continues_on in
              let sr =
              way_append is_return
              (ToReturn g n base q m answers exits.returns) x.pending y.pending ok.returns_on in
              let a = r.runs g k n base q (omega (arith, i, l.follows.nodes))
              (omega (arith, lb, l.follows.temps)) lr ir m answers exits (record {
                on = ok.on;
                breaks_on = sb.1;
                continues_on = sc.1;
                head_on = ok.head_on;
                returns_on = sr.1;
              }) in (
                (λ m1 rest1 kp. l.runs g (ext_then r.ext k) base q lb lr (r.stays q ir) m1 rest1
                    (record exits { on = parts_then laid calls rest exits }) (record {
                      on = to_later g x.at.node i kp a.0;
                      breaks_on = way_map is_break (ToOn g n base m answers exits.breaks)
                          (ToOn g b.nodes base m1 rest1 exits.breaks) x.pending (λ p f. to_later g p i kp f) sb.0;
                      continues_on = way_map is_continue (ToOn g n base m answers exits.continues)
                          (ToOn g b.nodes base m1 rest1 exits.continues) x.pending (λ p f. to_later g p i kp f) sc.0;
                      head_on = head_later g exits.continues onward i kp ok.head_on;
                      returns_on = way_map is_return (ToReturn g n base q m answers exits.returns)
                          (ToReturn g b.nodes base q m1 rest1 exits.returns) x.pending
                          (λ p f. return_later g p i kp f) sr.0;
                    })),
                a.1,
                a.2,
              );
          dead = λ g k u j q ir d.
              let sb = way_append is_break (DeadIn g u j) x.pending y.pending d.breaks_on in
              let sc = way_append is_continue (DeadIn g u j) x.pending y.pending d.continues_on in
              let sr = way_append is_return (DeadReturn g u j q) x.pending y.pending d.returns_on in
              let a = r.dead g k u j q ir (record {
                on = d.on;
                breaks_on = sb.1;
                continues_on = sc.1;
                head_on =
                    d.head_on;
                returns_on = sr.1;
              }) in (
                l.dead g (ext_then r.ext k) u j q (r.stays q ir)
                    (record {
                      on = a.0;
                      breaks_on = sb.0;
                      continues_on = sc.0;
                      head_on = d.head_on;
                      returns_on =
                          sr.0;
                    }),
                a.1,
                a.2,
              );
        }
