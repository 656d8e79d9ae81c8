-- What is built for statements runs as they mean.
use Rattle.std.proofs.Common.{◌≡◌, ◌≢◌, ℕ, ◌≤◌, Bool, true, false, List, [], ◌∷◌, refl, sym, ◌∙◌, ap, subst, arith}
use Rattle.std.specs.Prelude.{Option, Some, None}
use Rattle.std.proofs.lemmas.Bool.{cases_eq}
use Rattle.concrete_steps.specs.tm_laid.Layouts.{LaidTree}
use Rattle.concrete_steps.specs.concrete_values.declared.values.Value.{Value}
use Rattle.concrete_steps.specs.concrete_values.declared.values.Answer.{Answer}
use Rattle.concrete_steps.specs.concrete_values.Values.{nothing}
use Rattle.concrete_steps.specs.NextAction.{After, Exits}
use Rattle.flow_graph.specs.declared.operations.Operation.TheVariants as Op
use Rattle.flow_graph.specs.Operations.{put_at, gives, effect_by}
use Rattle.flow_graph.specs.Graphs.{Edges, leaving}
use Rattle.flow_graph.specs.Runs.{Memory, Runs}
use Rattle.lowering.specs.Steps.{Steps, Code, Fork, Plan, nothing_more, in_turn, all_steps, one_of, break_off, go_on}
use Rattle.lowering.specs.Steps.{give_back}
use Rattle.lowering.specs.Built.{Building, edge, goto, meet, temp_of, Sites, steps_piece, code_piece, fork_piece}
use Rattle.lowering.specs.Built.{is_break, is_continue, is_return, Onward, ToHead, Later, Passed, place_result}
use Rattle.lowering.specs.Built.{plan_piece}
use Rattle.lowering.proofs.Edges.{Joins, Returns, Ext, ext_then, Fine, Follows, follows_then, follows_same, follows_ext}
use Rattle.lowering.proofs.Edges.{follows_goto, leaving_past, leaving_here}
use Rattle.lowering.proofs.Pendings.{EachNode, EachPending, EachWay, NotIn, Distinct, each_map, each_zip, each_append}
use Rattle.lowering.proofs.Pendings.{distinct_append, way_append, way_join, Loose, OpenAt, open_later, loose_from}
use Rattle.lowering.proofs.Pendings.{open_from, present_loose, closed_follows, closed_at, meet_placed}
use Rattle.lowering.proofs.Dead.{DeadIn, dead_by, by_new, joins_dead, one_away}
use Rattle.lowering.proofs.Meaning.{Calls, steps_then, plan_then}
use Rattle.lowering.proofs.Moves.{put_same, put_above, along, Kept, kept_less, kept_on, kept_later, kept_same}
use Rattle.lowering.proofs.Moves.{kept_arrive}
use Rattle.lowering.proofs.Scopes.{after_steps, OptionalCode}
use Rattle.lowering.proofs.Expressions.{meets_run, CallsPlaced, Placed, ForkPlaced, code_placed}
use Rattle.lowering.proofs.StatementParts.{way_map, OnwardOk, IsHead, OnHead, head_map, onward_later, IsResult}
use Rattle.lowering.proofs.StatementParts.{ResultIn, result_later, result_placed, one_skip, nowhere_follows}
use Rattle.lowering.proofs.StatementParts.{nowhere_open}

module _ (laid : LaidTree) (has_at : ℕ → Bool) (call : Sites) (calls : Calls)
    (calls_placed : CallsPlaced laid has_at call calls) (valued : Bool) where
  -- from this node what follows goes on as it should, where temporaries below `base` are wanted, and nodes below n were
  -- there
  abbrev pub ToOn : Edges → (n base : ℕ) → Memory → List Answer → After → ℕ → Type 0
  ToOn g n base m answers k node = (m' : Memory) (rest : List Answer) → Kept n base m m' answers rest
      → Runs laid g node m' rest (k rest)

  abbrev pub ToReturn : Edges → (n base r : ℕ) → Memory → List Answer → (Value → After) → ℕ → Type 0
  ToReturn g n base r m answers k node =
      (m' : Memory) (rest : List Answer) (v : Value) → Kept n base m m' answers rest → (valued ≡ true → m'.temps r ≡ v)
      → Runs laid g node m' rest (k v rest)

  abbrev pub ToHeadOn : Edges → (n base : ℕ) → Memory → List Answer → After → ℕ → Type 0
  ToHeadOn g n base m answers k h = (node : ℕ) → Returns g node h → ToOn g n base m answers k node

  -- what a statement needs of where control goes from it
  pub record ExitsOk (g : Edges) (n base r : ℕ) (onward : Onward) (x : Passed) (m : Memory) (answers : List Answer)
      (exits : Exits) : Type 0 where
    pub on : ToOn g n base m answers exits.on x.at.node
    pub breaks_on : EachWay is_break (ToOn g n base m answers exits.breaks) x.pending
    pub continues_on : EachWay is_continue (ToOn g n base m answers exits.continues) x.pending
    pub head_on : OnHead onward (ToHeadOn g n base m answers exits.continues)
    pub returns_on : EachWay is_return (ToReturn g n base r m answers exits.returns) x.pending

  -- where a temporary is dead behind a statement, so that it is dead before it
  abbrev pub DeadHead : Edges → (u j : ℕ) → ℕ → Type 0
  DeadHead g u j h = (node : ℕ) → Returns g node h → DeadIn g u j node

  abbrev pub DeadReturn : Edges → (u j r : ℕ) → ℕ → Type 0
  DeadReturn g u j r n = (valued ≡ true → r ≢ u) → DeadIn g u j n

  pub record ExitsDead (g : Edges) (u j r : ℕ) (onward : Onward) (x : Passed) : Type 0 where
    pub on : DeadIn g u j x.at.node
    pub breaks_on : EachWay is_break (DeadIn g u j) x.pending
    pub continues_on : EachWay is_continue (DeadIn g u j) x.pending
    pub head_on : OnHead onward (DeadHead g u j)
    pub returns_on : EachWay is_return (DeadReturn g u j r) x.pending

  pub record PlanPlaced (s : Plan) (br co : Bool) (onward : Onward) (res : Option ℕ) (b : Building)
      (x : Passed) : Type 0 where
    pub follows : Follows b x.at
    pub each : EachPending (OpenAt b x.at) x.pending
    pub distinct : Distinct x.pending
    pub none_on : IsHead onward → EachWay is_continue (λ n. ⊥) x.pending
    pub no_breaks : br ≡ false → EachWay is_break (λ n. ⊥) x.pending
    pub no_conts : co ≡ false → EachWay is_continue (λ n. ⊥) x.pending
    pub stays : (r : ℕ) → IsResult x.result r → IsResult res r
    pub found : (base : ℕ) → base ≤ b.temps → ResultIn base res b → ResultIn base x.result x.at
    pub runs : (g : Edges) → Ext x.at.edges g → (base r : ℕ) → base ≤ b.temps → base ≤ r → IsResult x.result r
        → (m : Memory) (answers : List Answer) (exits : Exits)
        → ExitsOk g b.nodes base r onward x m answers exits → Runs laid g b.node m answers
        (plan_then laid calls s exits answers)
    pub dead : (g : Edges) → Ext x.at.edges g → (u j r : ℕ) → IsResult x.result r → ExitsDead g u j r onward x
        → DeadIn g u j b.node

  -- later in the run
  pub to_later : (g : Edges) {n n' base : ℕ} {m m1 : Memory} {answers rest : List Answer} {k : After} (node : ℕ)
      → n ≤ n' → Kept n base m m1 answers rest
      → ToOn g n base m answers k node → ToOn g n' base m1 rest k node
  to_later g node l kp f m' rest' kp' = f m' rest' (kept_later l kp kp')

  pub return_later : (g : Edges) {n n' base r : ℕ} {m m1 : Memory} {answers rest : List Answer} {k : Value → After}
      (node : ℕ) → n ≤ n' → Kept n base m m1 answers rest
      → ToReturn g n base r m answers k node → ToReturn g n' base r m1 rest k node
  return_later g node l kp f m' rest' v kp' e = f m' rest' v (kept_later l kp kp') e

  pub head_later : (g : Edges) {n n' base : ℕ} {m m1 : Memory} {answers rest : List Answer} (k : After)
      (onward : Onward) → n ≤ n' → Kept n base m m1 answers rest
      → OnHead onward (ToHeadOn g n base m answers k) → OnHead onward (ToHeadOn g n' base m1 rest k)
  head_later g {n} {n'} {base} {m} {m1} {answers} {rest} k onward l kp f =
      head_map onward (ToHeadOn g n base m answers k) (ToHeadOn g n' base m1 rest k)
      (λ h q node r. to_later g node l kp (q node r)) f

  -- from a node where control comes together on
  pub to_joined : (g : Edges) {n base : ℕ} {m : Memory} {answers : List Answer} {k : After} (node j : ℕ) → n ≤ j
      → Joins g node j → ToOn g n base m answers k j → ToOn g n base m answers k node
  to_joined g {n} {base} node j l h f m' rest kp = meets_run laid g {n = n} {b = base} h l
      (λ m2 kp2 e. f m2 rest (kept_on kp kp2))

  pub nothing_placed : (br co : Bool) (onward : Onward) (res : Option ℕ) (b : Building) → Fine b
      → PlanPlaced nothing_more br co onward res b (record { at = b; pending = []; result = res })
  nothing_placed br co onward res b f = record {
    follows = follows_same b f;
    each = tt;
    distinct = tt;
    none_on = λ i. tt;
    no_breaks = λ e. tt;
    no_conts = λ e. tt;
    stays = λ r i. i;
    found = λ base l h. h;
    runs = λ g k base r l lr ir m answers exits ok. ok.on m answers (kept_same b.nodes base m answers);
    dead = λ g k u j r ir d. d.on;
  }

  pub turn_placed : (s s' : Plan) (br co : Bool) (onward : Onward) (res : Option ℕ) (b : Building)
      → PlanPlaced s br co onward res b (plan_piece call s onward res b)
      → PlanPlaced s' br co onward (plan_piece call s onward res b).result (plan_piece call s onward res b).at
      (plan_piece call s' onward (plan_piece call s onward res b).result (plan_piece call s onward res b).at)
      → PlanPlaced (in_turn s s') br co onward res b (plan_piece call (in_turn s s') onward res b)
  turn_placed s s' br co onward res b l r =
      let x = plan_piece call s onward res b in
      let y = plan_piece call s' onward x.result x.at in
      record {
        follows = follows_then l.follows r.follows;
        stays = λ q i. l.stays q (r.stays q i);
        found = λ base i h. r.found base (omega (arith, l.follows.temps)) (l.found base i h);
        each = each_append (OpenAt b y.at) x.pending y.pending
            (each_map (OpenAt b x.at) (OpenAt b y.at) x.pending (λ n o. open_later n r.follows o) l.each)
            (each_map (OpenAt x.at y.at) (OpenAt b y.at) y.pending (λ n o. open_from n l.follows o) r.each);
        distinct = distinct_append x.pending y.pending l.distinct r.distinct
            (each_map (OpenAt b x.at) (λ p. EachPending (λ n. n ≢ p) y.pending) x.pending
            (λ p o. each_map (OpenAt x.at y.at) (λ n. n ≢ p) y.pending
            (λ n o' e. o'.loose.away p o.loose.inside o.apart (sym e)) r.each) l.each);
        none_on = λ i. way_join is_continue (λ n. ⊥) x.pending y.pending (l.none_on i) (r.none_on i);
        no_breaks = λ e. way_join is_break (λ n. ⊥) x.pending y.pending (l.no_breaks e) (r.no_breaks e);
        no_conts = λ e. way_join is_continue (λ n. ⊥) x.pending y.pending (l.no_conts e) (r.no_conts e);
        runs = λ g k base q lb lr ir m answers exits ok.
            let sb =
            way_append is_break (ToOn g b.nodes base m answers exits.breaks) x.pending y.pending ok.breaks_on in
            let sc = way_append is_continue
            (ToOn g b.nodes base m answers exits.continues) x.pending y.pending ok.continues_on in
            let sr =
            way_append is_return
            (ToReturn g b.nodes base q m answers exits.returns) x.pending y.pending ok.returns_on in
            l.runs g (ext_then (follows_ext l.follows.fine r.follows) k) base q lb lr (r.stays q ir) m answers
            (record exits { on = plan_then laid calls s' exits }) (record {
              on = λ m1 rest kp. r.runs g k base q (omega (arith, l.follows.temps)) lr ir m1 rest exits (record {
                on = to_later g y.at.node l.follows.nodes kp ok.on;
                breaks_on = way_map is_break (ToOn g b.nodes base m answers exits.breaks)
                    (ToOn g x.at.nodes base m1 rest exits.breaks) y.pending
                    (λ n f. to_later g n l.follows.nodes kp f) sb.1;
                continues_on = way_map is_continue (ToOn g b.nodes base m answers exits.continues)
                    (ToOn g x.at.nodes base m1 rest exits.continues) y.pending
                    (λ n f. to_later g n l.follows.nodes kp f) sc.1;
                head_on = head_later g exits.continues onward l.follows.nodes kp ok.head_on;
                returns_on = way_map is_return (ToReturn g b.nodes base q m answers exits.returns)
                    (ToReturn g x.at.nodes base q m1 rest exits.returns) y.pending
                    (λ n f. return_later g n l.follows.nodes kp f) sr.1;
              });
              breaks_on = sb.0;
              continues_on = sc.0;
              head_on = ok.head_on;
              returns_on = sr.0;
            });
        dead = λ g k u j q ir d.
            let sb = way_append is_break (DeadIn g u j) x.pending y.pending d.breaks_on in
            let sc = way_append is_continue (DeadIn g u j) x.pending y.pending d.continues_on in
            let sr = way_append is_return (DeadReturn g u j q) x.pending y.pending d.returns_on in
            let behind = r.dead g k u j q ir
            (record { on = d.on; breaks_on = sb.1; continues_on = sc.1; head_on = d.head_on; returns_on = sr.1 }) in
            l.dead g (ext_then (follows_ext l.follows.fine r.follows) k) u j q (r.stays q ir)
            (record { on = behind; breaks_on = sb.0; continues_on = sc.0; head_on = d.head_on; returns_on = sr.0 });
      }

  pub steps_plan_placed : (steps : Steps) (br co : Bool) (onward : Onward) (res : Option ℕ) (b : Building)
      → Placed laid has_at call calls [] b (steps_piece call steps [] b) 0 (after_steps steps 0)
      (steps_then laid calls steps)
      → PlanPlaced (all_steps steps) br co onward res b
      (record { at = (steps_piece call steps [] b).at; pending = []; result = res })
  steps_plan_placed steps br co onward res b s = record {
    follows = s.follows;
    each = tt;
    distinct = tt;
    none_on = λ i. tt;
    no_breaks = λ e. tt;
    no_conts = λ e. tt;
    stays = λ r i. i;
    found = λ base l h. result_later base res b _ s.follows.temps h;
    runs = λ g k base r l lr ir m answers exits ok.
        s.runs g k [] m answers (λ vs. exits.on) tt refl
        (λ ws m1 rest kp i len. ok.on m1 rest (kept_less (omega arith) l kp));
    dead = λ g k u j r ir d. s.dead g k u j tt refl (λ nt len. d.on);
  }

  pub one_placed : (f : Fork) (s s' : Plan) (br co : Bool) (onward : Onward) (res : Option ℕ) (b : Building)
      → OnwardOk onward b → ForkPlaced laid has_at call calls b (fork_piece call f b) f
      → ((onward : Onward) (res : Option ℕ) (b : Building) → Fine b → OnwardOk onward b
      → PlanPlaced s br co onward res b (plan_piece call s onward res b))
      → ((onward : Onward) (res : Option ℕ) (b : Building) → Fine b → OnwardOk onward b
      → PlanPlaced s' br co onward res b (plan_piece call s' onward res b))
      → PlanPlaced (one_of f s s') br co onward res b (plan_piece call (one_of f s s') onward res b)
  one_placed f s s' br co onward res b ow o ps ps' =
      let z = fork_piece call f b in
      let l = ps onward res z.at o.follows.fine (onward_later onward b _ ow o.follows.low) in
      let x = plan_piece call s onward res z.at in
      let hx : Follows b x.at = follows_then o.follows l.follows in
      let hg : Follows b (goto z.other x.at) = follows_goto z.other hx o.other_new
      (omega (arith, o.other_inside, l.follows.nodes))
      (l.follows.same z.other o.other_inside o.apart ∙ o.other_none) in
      let r = ps' onward x.result (goto z.other x.at) hg.fine (onward_later onward b _ ow hg.low) in
      let y = plan_piece call s' onward x.result (goto z.other x.at) in
      let h : Follows b y.at = follows_then hg r.follows in
      let nx : x.at.node ≢ z.other = λ e. l.follows.away z.other o.other_inside o.apart (sym e) in
      let lx : Loose b y.at x.at.node = record {
        away = hx.away;
        inside = omega (arith, hx.fine.inside, r.follows.nodes);
        none = r.follows.same x.at.node hx.fine.inside nx ∙ hx.fine.present;
      } in
      let ne : x.at.node ≢ y.at.node = r.follows.away x.at.node hx.fine.inside nx in
      let mt = meet_placed b y.at h (x.at.node ∷ y.at.node ∷ []) (lx, (present_loose h, tt))
      (((λ e. ne (sym e)), tt), (tt, tt)) in
      let w = meet (x.at.node ∷ y.at.node ∷ []) y.at in
      let xo : EachPending (OpenAt b (goto z.other x.at)) x.pending = each_map (OpenAt z.at x.at)
      (OpenAt b (goto z.other x.at)) x.pending
      (λ n q. record {
        loose = record { away = (loose_from n o.follows q.loose).away; inside = q.loose.inside; none = q.loose.none };
        apart = λ e. q.loose.away z.other o.other_inside o.apart (sym e);
      }) l.each in
      let xo2 : EachPending (OpenAt b y.at) x.pending = each_map (OpenAt b (goto z.other x.at))
      (OpenAt b y.at) x.pending (λ n q. open_later n r.follows q) xo in
      record {
        follows = mt.follows;
        stays = λ q i. l.stays q (r.stays q i);
        found = λ base i e. result_later base y.result y.at w (omega arith)
            (r.found base (omega (arith, o.follows.temps, l.follows.temps))
            (result_later base x.result x.at _ (omega arith)
            (l.found base (omega (arith, o.follows.temps)) (result_later base res b _ o.follows.temps e))));
        each = each_append (OpenAt b w) x.pending y.pending
            (each_zip (OpenAt z.at x.at) (OpenAt b y.at) (OpenAt b w) x.pending
            (λ n p q. mt.open_still n q ((λ e. p.apart (sym e)), ((λ e. q.apart (sym e)), tt))) l.each xo2)
            (each_map (OpenAt (goto z.other x.at) y.at) (OpenAt b w) y.pending
            (λ n q. mt.open_still n (open_from n hg q)
            ((q.loose.away x.at.node hx.fine.inside nx), ((λ e. q.apart (sym e)), tt))) r.each);
        distinct = distinct_append x.pending y.pending l.distinct r.distinct
            (each_map (OpenAt b (goto z.other x.at)) (λ p. EachPending (λ n. n ≢ p) y.pending) x.pending
            (λ p q. each_map (OpenAt (goto z.other x.at) y.at) (λ n. n ≢ p) y.pending
            (λ n q' e. q'.loose.away p q.loose.inside q.apart (sym e)) r.each) xo);
        none_on = λ i. way_join is_continue (λ n. ⊥) x.pending y.pending (l.none_on i) (r.none_on i);
        no_breaks = λ e. way_join is_break (λ n. ⊥) x.pending y.pending (l.no_breaks e) (r.no_breaks e);
        no_conts = λ e. way_join is_continue (λ n. ⊥) x.pending y.pending (l.no_conts e) (r.no_conts e);
        runs = λ g k base q lb lr ir m answers exits ok.
            let sb =
            way_append is_break (ToOn g b.nodes base m answers exits.breaks) x.pending y.pending ok.breaks_on in
            let sc = way_append is_continue
            (ToOn g b.nodes base m answers exits.continues) x.pending y.pending ok.continues_on in
            let sr =
            way_append is_return
            (ToReturn g b.nodes base q m answers exits.returns) x.pending y.pending ok.returns_on in
            let ky : Ext y.at.edges g = ext_then mt.ext k in
            let kx : Ext x.at.edges g = ext_then (follows_ext hg.fine r.follows) ky in
            let js = mt.joins g k in
            o.runs g (ext_then (follows_ext o.follows.fine l.follows) kx) m answers (plan_then laid calls s exits)
            (plan_then laid calls s' exits)
            (λ m1 rest kp1.
            let kp : Kept b.nodes base m m1 answers rest = kept_less (omega arith) lb kp1 in
            l.runs g kx base q (omega (arith, o.follows.temps)) lr (r.stays q ir) m1 rest exits (record {
              on = to_later g x.at.node o.follows.nodes kp
                  (to_joined g x.at.node y.at.nodes (omega (arith, h.nodes)) js.0 ok.on);
              breaks_on = way_map is_break (ToOn g b.nodes base m answers exits.breaks)
                  (ToOn g z.at.nodes base m1 rest exits.breaks) x.pending
                  (λ n f'. to_later g n o.follows.nodes kp f') sb.0;
              continues_on = way_map is_continue (ToOn g b.nodes base m answers exits.continues)
                  (ToOn g z.at.nodes base m1 rest exits.continues) x.pending
                  (λ n f'. to_later g n o.follows.nodes kp f') sc.0;
              head_on = head_later g exits.continues onward o.follows.nodes kp ok.head_on;
              returns_on = way_map is_return (ToReturn g b.nodes base q m answers exits.returns)
                  (ToReturn g z.at.nodes base q m1 rest exits.returns) x.pending
                  (λ n f'. return_later g n o.follows.nodes kp f') sr.0;
            }))
            (λ m1 rest kp1.
            let kp : Kept b.nodes base m m1 answers rest = kept_less (omega arith) lb kp1 in
            r.runs g ky base q (omega (arith, o.follows.temps, l.follows.temps)) lr ir m1 rest exits (record {
              on = to_later g y.at.node hg.nodes kp
                  (to_joined g y.at.node y.at.nodes (omega (arith, h.nodes)) js.1.0 ok.on);
              breaks_on = way_map is_break (ToOn g b.nodes base m answers exits.breaks)
                  (ToOn g x.at.nodes base m1 rest exits.breaks) y.pending (λ n f'. to_later g n hg.nodes kp f') sb.1;
              continues_on = way_map is_continue (ToOn g b.nodes base m answers exits.continues)
                  (ToOn g x.at.nodes base m1 rest exits.continues) y.pending (λ n f'. to_later g n hg.nodes kp f') sc.1;
              head_on = head_later g exits.continues onward hg.nodes kp ok.head_on;
              returns_on = way_map is_return (ToReturn g b.nodes base q m answers exits.returns)
                  (ToReturn g x.at.nodes base q m1 rest exits.returns) y.pending
                  (λ n f'. return_later g n hg.nodes kp f') sr.1;
            }));
        dead = λ g k u j q ir d.
            let sb = way_append is_break (DeadIn g u j) x.pending y.pending d.breaks_on in
            let sc = way_append is_continue (DeadIn g u j) x.pending y.pending d.continues_on in
            let sr = way_append is_return (DeadReturn g u j q) x.pending y.pending d.returns_on in
            let ky : Ext y.at.edges g = ext_then mt.ext k in
            let kx : Ext x.at.edges g = ext_then (follows_ext hg.fine r.follows) ky in
            let js = mt.joins g k in
            o.dead g (ext_then (follows_ext o.follows.fine l.follows) kx) u j
            (l.dead g kx u j q (r.stays q ir)
            (record {
              on = joins_dead g u j js.0 d.on;
              breaks_on = sb.0;
              continues_on = sc.0;
              head_on = d.head_on;
              returns_on = sr.0;
            }))
            (r.dead g ky u j q ir (record {
              on = joins_dead g u j js.1.0 d.on;
              breaks_on = sb.1;
              continues_on = sc.1;
              head_on = d.head_on;
              returns_on = sr.1;
            }));
      }

  pub break_placed : (br co : Bool) → br ≡ true → (onward : Onward) (res : Option ℕ) (b : Building) → Fine b
      → PlanPlaced break_off br co onward res b (plan_piece call break_off onward res b)
  break_placed br co is onward res b f = record {
    follows = nowhere_follows b f;
    stays = λ q i. i;
    found = λ base i e. result_later base res b _ (omega arith) e;
    each = (nowhere_open b b (follows_same b f), tt);
    distinct = (tt, tt);
    none_on = λ i. ((λ e. absurd (cc)), tt);
    no_breaks = λ e. absurd (let k : true ≡ false = sym is ∙ e in cc);
    no_conts = λ i. ((λ e. absurd (cc)), tt);
    runs = λ g k base r l lr ir m answers exits ok. ok.breaks_on.0 refl m answers (kept_same b.nodes base m answers);
    dead = λ g k u j r ir d. d.breaks_on.0 refl;
  }

  pub continue_placed : (br co : Bool) → co ≡ true → (onward : Onward) (res : Option ℕ) (b : Building) → Fine b
      → OnwardOk onward b → PlanPlaced go_on br co onward res b (plan_piece call go_on onward res b)
  continue_placed br co is (ToHead h) res b f ow =
      let fs : Follows b b = follows_same b f in
      let extra : Edges = edge b.node h Op.Skip ∷ [] in
      let loose1 : EachNode (Loose b b) (b.node ∷ []) = (present_loose fs, tt) in
      let past1 : (n : ℕ) → NotIn n (b.node ∷ []) → leaving extra n ≡ [] =
      λ n k. leaving_past b.node h Op.Skip [] n k.0 in
      record {
        follows = closed_follows b b fs (b.node ∷ []) loose1 extra past1 (λ n. one_skip b.node h n (cases_eq b.node n));
        stays = λ q i. i;
        found = λ base i e. result_later base res b _ (omega arith) e;
        each = tt;
        distinct = tt;
        none_on = λ i. tt;
        no_breaks = λ e. tt;
        no_conts = λ e. tt;
        runs = λ g k base r l lr ir m answers exits ok.
            ok.head_on b.node (record {
              only = closed_at b b fs (b.node ∷ []) loose1 extra past1 b.node
                  (present_loose fs) g k _ _ (leaving_here b.node h Op.Skip []);
              back = ow;
            }) m answers
            (kept_same b.nodes base m answers);
        dead = λ g k u j r ir d.
            d.head_on b.node (record {
              only = closed_at b b fs (b.node ∷ []) loose1 extra past1 b.node
                  (present_loose fs) g k _ _ (leaving_here b.node h Op.Skip []);
              back = ow;
            });
      }
  continue_placed br co is Later res b f ow = record {
    follows = nowhere_follows b f;
    stays = λ q i. i;
    found = λ base i e. result_later base res b _ (omega arith) e;
    each = (nowhere_open b b (follows_same b f), tt);
    distinct = (tt, tt);
    none_on = λ i. absurd i;
    no_breaks = λ e. ((λ e'. absurd (cc)), tt);
    no_conts = λ e. absurd (let k : true ≡ false = sym is ∙ e in cc);
    runs = λ g k base r l lr ir m answers exits ok. ok.continues_on.0 refl m answers (kept_same b.nodes base m answers);
    dead = λ g k u j r ir d. d.continues_on.0 refl;
  }

  pub return_placed : (c : Option Code) (br co : Bool) (onward : Onward) (res : Option ℕ) (b : Building) → Fine b
      → OptionalCode has_at valued c
      → PlanPlaced (give_back c) br co onward res b (plan_piece call (give_back c) onward res b)
  return_placed None br co onward res b f without = record {
    follows = nowhere_follows b f;
    stays = λ q i. i;
    found = λ base i e. result_later base res b _ (omega arith) e;
    each = (nowhere_open b b (follows_same b f), tt);
    distinct = (tt, tt);
    none_on = λ i. ((λ e. absurd (cc)), tt);
    no_breaks = λ i. ((λ e. absurd (cc)), tt);
    no_conts = λ i. ((λ e. absurd (cc)), tt);
    runs = λ g k base r l lr ir m answers exits ok.
        ok.returns_on.0 refl m answers nothing (kept_same b.nodes base m answers)
        (λ e. absurd (let q : true ≡ false = sym e ∙ without in cc));
    dead = λ g k u j r ir d. d.returns_on.0 refl (λ e. absurd (let q : true ≡ false = sym e ∙ without in cc));
  }
  return_placed (Some c) br co onward res b f w =
      let v = code_placed laid has_at call calls calls_placed c w.0 b f in
      let x = code_piece call c b in
      let op = λ (q : ℕ). Op.Copy q (temp_of x.temp) in
      let rp = result_placed res op (λ z. tt) x.at v.follows.fine in
      let d = place_result res op x.at in
      let h : Follows b d = follows_then v.follows rp.follows in
      record {
        follows = follows_then h (nowhere_follows d rp.follows.fine);
        each = (nowhere_open b d h, tt);
        distinct = (tt, tt);
        none_on = λ i. ((λ e. absurd (cc)), tt);
        no_breaks = λ i. ((λ e. absurd (cc)), tt);
        no_conts = λ i. ((λ e. absurd (cc)), tt);
        stays = λ q i. rp.stays q i;
        found = λ base i e. rp.found base (omega (arith, v.follows.temps))
            (result_later base res b _ v.follows.temps e);
        runs = λ g k base r l lr ir m answers exits ok.
            v.runs g (ext_then (follows_ext v.follows.fine rp.follows) k) m answers exits.returns (λ u m1 rest kp hv.
            along laid g (subst (λ z. leaving g x.at.node ≡ edge x.at.node d.node (Op.Copy z (temp_of x.temp)) ∷ []) ir
            (rp.only g k))
            (omega (arith, rp.new, v.follows.fine.inside)) (put_at r u m1.temps)
            (ap (λ z. effect_by (Some r) m1.temps (gives z)) (hv w.1).0)
            (ok.returns_on.0 refl _ rest u
            (kept_on (kept_less (omega arith) l kp) (kept_arrive b.nodes base d.node (put_at r u m1.temps) m1 rest
            (omega (arith, rp.new, v.follows.nodes)) (λ t i. put_above r u m1.temps t (omega arith))))
            (λ e. put_same r u m1.temps)));
        dead = λ g k u j r ir e.
            v.dead g (ext_then (follows_ext v.follows.fine rp.follows) k) u j (λ away.
            dead_by g u j (subst (λ z. leaving g x.at.node ≡ edge x.at.node d.node (Op.Copy z (temp_of x.temp)) ∷ []) ir
            (rp.only g k))
            (one_away u (temp_of x.temp) (away w.1)) (by_new r u (λ ne. e.returns_on.0 refl (λ is. ne))));
      }
