-- What is built for loops runs as they mean.
use Rattle.std.proofs.Common.{◌≡◌, ◌≢◌, ◌⊎◌, inl, inr, ℕ, suc, ◌≤◌, Bool, true, List, [], ◌∷◌, ◌++◌, length, refl, sym}
use Rattle.std.proofs.Common.{◌∙◌, subst, arith}
use Rattle.std.specs.Prelude.{Option, Some, None}
use Rattle.concrete_steps.specs.tm_laid.Layouts.{LaidTree}
use Rattle.concrete_steps.specs.concrete_values.declared.values.Value.{Value}
use Rattle.concrete_steps.specs.concrete_values.declared.values.Answer.{Answer}
use Rattle.concrete_steps.specs.NextAction.{After, Exits, inside}
use Rattle.flow_graph.specs.declared.operations.Operation.TheVariants as Op
use Rattle.flow_graph.specs.Graphs.{Edges}
use Rattle.flow_graph.specs.Runs.{Memory, arrive, Runs}
use Rattle.lowering.specs.Steps.{Steps, Fork, Plan, loop_while, loop_stepping, loop_until}
use Rattle.lowering.specs.Built.{Building, place, close_loop, Sites, steps_piece, fork_piece, Way, is_break}
use Rattle.lowering.specs.Built.{is_continue, is_return, nodes_by, still_by, Onward, ToHead, Later, Passed}
use Rattle.lowering.specs.Built.{continued_at, Entered, entered, plan_piece}
use Rattle.lowering.proofs.Edges.{Joins, Ext, ext_then, Fine, Follows, follows_then, follows_same, follows_ext}
use Rattle.lowering.proofs.Pendings.{EachNode, EachPending, NotIn, NoDup, nodes_map, nodes_append, nodes_split}
use Rattle.lowering.proofs.Pendings.{nodup_end, each_map, each_zip, no_continues, nodes_each, nodes_still, still_each}
use Rattle.lowering.proofs.Pendings.{nodes_distinct, still_distinct, still_apart, way_nodes, way_still, OpenAt}
use Rattle.lowering.proofs.Pendings.{open_later, open_from}
use Rattle.lowering.proofs.Dead.{DeadIn, dead_by, joins_dead, lower, loop_dead, dead_comes}
use Rattle.lowering.proofs.Meaning.{Calls, steps_then, fork_then, optional_fork_then, plan_then}
use Rattle.lowering.proofs.Moves.{put_same, along, Kept, kept_less, kept_on, kept_later, kept_same, kept_arrive}
use Rattle.lowering.proofs.Scopes.{InScope, OptionalFork}
use Rattle.lowering.proofs.Expressions.{place_only, one_follows, CallsPlaced, ForkPlaced, steps_placed, fork_placed}
use Rattle.lowering.proofs.StatementParts.{way_map, OnwardOk, OnHead, result_later, not_both, breaks_not_continues}
use Rattle.lowering.proofs.StatementParts.{returns_not_continues, no_break_returns, ContinuedPlaced, continued_placed}
use Rattle.lowering.proofs.StatementParts.{close_placed, loop_run, nodup_join}
use Rattle.lowering.proofs.Statements as S

module _ (laid : LaidTree) (has_at : ℕ → Bool) (call : Sites) (calls : Calls)
    (calls_placed : CallsPlaced laid has_at call calls) (valued : Bool) where
  abbrev ToOn : Edges → (n base : ℕ) → Memory → List Answer → After → ℕ → Type 0
  ToOn g n base m answers k node = S.ToOn laid has_at call calls calls_placed valued g n base m answers k node

  abbrev ToReturn : Edges → (n base r : ℕ) → Memory → List Answer → (Value → After) → ℕ → Type 0
  ToReturn g n base r m answers k node =
      S.ToReturn laid has_at call calls calls_placed valued g n base r m answers k node

  abbrev ToHeadOn : Edges → (n base : ℕ) → Memory → List Answer → After → ℕ → Type 0
  ToHeadOn g n base m answers k h = S.ToHeadOn laid has_at call calls calls_placed valued g n base m answers k h

  abbrev ExitsOk : Edges → (n base r : ℕ) → Onward → Passed → Memory → List Answer → Exits → Type 0
  ExitsOk g n base r onward x m answers exits =
      S.ExitsOk laid has_at call calls calls_placed valued g n base r onward x m answers exits

  abbrev PlanPlaced : Plan → Bool → Bool → Onward → Option ℕ → Building → Passed → Type 0
  PlanPlaced s br co onward res b x = S.PlanPlaced laid has_at call calls calls_placed valued s br co onward res b x

  abbrev DeadReturn : Edges → (u j r : ℕ) → ℕ → Type 0
  DeadReturn g u j r n = S.DeadReturn laid has_at call calls calls_placed valued g u j r n

  to_later : (g : Edges) {n n' base : ℕ} {m m1 : Memory} {answers rest : List Answer} {k : After} (node : ℕ) → n ≤ n'
      → Kept n base m m1 answers rest
      → ToOn g n base m answers k node → ToOn g n' base m1 rest k node
  to_later g node l kp f = S.to_later laid has_at call calls calls_placed valued g node l kp f

  return_later : (g : Edges) {n n' base r : ℕ} {m m1 : Memory} {answers rest : List Answer} {k : Value → After}
      (node : ℕ) → n ≤ n' → Kept n base m m1 answers rest
      → ToReturn g n base r m answers k node → ToReturn g n' base r m1 rest k node
  return_later g node l kp f = S.return_later laid has_at call calls calls_placed valued g node l kp f

  head_later : (g : Edges) {n n' base : ℕ} {m m1 : Memory} {answers rest : List Answer} (k : After) (onward : Onward)
      → n ≤ n' → Kept n base m m1 answers rest
      → OnHead onward (ToHeadOn g n base m answers k) → OnHead onward (ToHeadOn g n' base m1 rest k)
  head_later g k onward l kp f = S.head_later laid has_at call calls calls_placed valued g k onward l kp f

  to_joined : (g : Edges) {n base : ℕ} {m : Memory} {answers : List Answer} {k : After} (node j : ℕ) → n ≤ j
      → Joins g node j → ToOn g n base m answers k j → ToOn g n base m answers k node
  to_joined g node j l h f = S.to_joined laid has_at call calls calls_placed valued g node j l h f

  -- ## Loops

  -- from the end of the body on, where a `continue` may go there too
  comes_to : (g : Edges) {n base : ℕ} {m : Memory} {answers : List Answer} {k : After} (a c : ℕ)
      → ToOn g n base m answers k c
      → ((p : ℕ) → Joins g p c × (n ≤ c) → ToOn g n base m answers k p) → (a ≡ c) ⊎ (Joins g a c × (n ≤ c))
      → ToOn g n base m answers k a
  comes_to g {n} {base} {m} {answers} {k} a c on joined (inl e) = subst (λ z. ToOn g n base m answers k z) (sym e) on
  comes_to g a c on joined (inr j) = joined a j

  pub while_placed : (f : Fork) (s : Plan) (br co : Bool) (onward : Onward) (res : Option ℕ) (b : Building) → Fine b
      → ((b : Building) → Fine b → ForkPlaced laid has_at call calls b (fork_piece call f b) f)
      → ((onward : Onward) (res : Option ℕ) (b : Building) → Fine b → OnwardOk onward b
      → PlanPlaced s true true onward res b (plan_piece call s onward res b))
      → PlanPlaced (loop_while f s) br co onward res b (plan_piece call (loop_while f s) onward res b)
  while_placed f s br co onward res b fb pf ps =
      let h0 = place Op.Skip b in
      let fh = one_follows Op.Skip tt b fb in
      let o = pf h0 fh.fine in
      let z = fork_piece call f h0 in
      let l = ps (ToHead h0.node) res z.at o.follows.fine (omega (arith, o.new)) in
      let x = plan_piece call s (ToHead h0.node) res z.at in
      let fo : Follows b z.at = follows_then fh o.follows in
      let hx : Follows b x.at = follows_then fo l.follows in
      let breaks0 : List ℕ = nodes_by is_break x.pending in
      let outs : List ℕ = z.other ∷ breaks0 in
      let oz : OpenAt b x.at z.other = record {
        loose = record {
          away = λ n i ne e. absurd (omega (arith, o.other_new, e));
          inside = omega (arith, o.other_inside, l.follows.nodes);
          none = l.follows.same z.other o.other_inside o.apart ∙ o.other_none;
        };
        apart = l.follows.away z.other o.other_inside o.apart;
      } in
      let wait : EachNode (OpenAt b x.at) outs = (
        oz,
        nodes_each is_break (OpenAt b x.at) x.pending
            (each_map (OpenAt z.at x.at) (OpenAt b x.at) x.pending (λ n q. open_from n fo q) l.each),
      ) in
      let once : NoDup outs = (
        nodes_each is_break (λ n. n ≢ z.other) x.pending
            (each_map (OpenAt z.at x.at) (λ n. n ≢ z.other) x.pending
            (λ n q e. q.loose.away z.other o.other_inside o.apart (sym e)) l.each),
        nodes_distinct is_break x.pending l.distinct,
      ) in
      let cl = close_placed b x.at hx h0.node outs wait once in
      record {
        follows = cl.follows;
        stays = l.stays;
        found = λ base i e. result_later base x.result x.at _ (omega arith)
            (l.found base (omega (arith, o.follows.temps))
            (result_later base res b _ (omega (arith, o.follows.temps)) e));
        each = each_zip (OpenAt z.at x.at) (λ p. NotIn p breaks0) (OpenAt b (close_loop h0.node outs x.at))
            (still_by is_return x.pending)
            (λ n q k. cl.open_still n (open_from n fo q) ((q.loose.away z.other o.other_inside o.apart), k))
            (still_each is_return (OpenAt z.at x.at) x.pending l.each)
            (still_apart is_break is_return not_both x.pending l.distinct);
        distinct = still_distinct is_return x.pending l.distinct;
        none_on = λ i. no_continues (λ n. ⊥) x.pending;
        no_breaks = λ e. no_break_returns (λ n. ⊥) x.pending;
        no_conts = λ e. no_continues (λ n. ⊥) x.pending;
        runs = λ g k base q lb lr ir m answers exits ok.
            let kx : Ext x.at.edges g = ext_then cl.ext k in
            let ko : Ext z.at.edges g = ext_then (follows_ext o.follows.fine l.follows) kx in
            let kh : Ext h0.edges g = ext_then (follows_ext fh.fine o.follows) ko in
            let js = cl.joins g k in
            let bk = cl.back g k (omega (arith, o.new, l.follows.low)) in
            along laid g (place_only b.temps Op.Skip b g fb kh) fb.inside m.temps refl
            (loop_run laid g _ h0.node h0.nodes base (λ m2 r2. Kept b.nodes base m m2 answers r2) (omega arith)
            (λ m2 m3 r2 r3 kp2 kp3. kept_on kp2
            (kept_on (kept_less {n = b.nodes} {b = base} (omega arith) (omega arith) kp3)
            (kept_arrive b.nodes base h0.node m3.temps m3 r3 (omega arith) (λ u l'. refl))))
            (λ m2 r2 back kp2 back_run.
            o.runs g ko m2 r2 (plan_then laid calls s (inside exits back)) exits.on
            (λ m3 r3 kp3.
            let kh3 : Kept h0.nodes base m2 m3 r2 r3 = kept_less (omega arith) lb kp3 in
            let kb3 : Kept b.nodes base m m3 answers r3 =
            kept_on kp2 (kept_less {n = b.nodes} {b = base} (omega arith) (omega arith) kh3) in
            l.runs g kx base q (omega (arith, o.follows.temps)) lr ir m3 r3 (inside exits back) (record {
              on = λ m4 r4 kp4. back_run x.at.node m4 r4 bk (kept_later o.follows.nodes kh3 kp4);
              breaks_on = way_nodes is_break (ToOn g z.at.nodes base m3 r3 exits.on) x.pending
                  (nodes_map (λ p. Joins g p x.at.nodes) (ToOn g z.at.nodes base m3 r3 exits.on) breaks0
                  (λ n j. to_later g n (omega (arith, o.follows.nodes)) kb3
                  (to_joined g n x.at.nodes (omega (arith, hx.nodes)) j ok.on)) js.1);
              continues_on = way_map is_continue (λ n. ⊥) (ToOn g z.at.nodes base m3 r3 back) x.pending
                  (λ n i. absurd i) (l.none_on tt);
              head_on = λ n rt m4 r4 kp4. back_run n m4 r4 rt (kept_later o.follows.nodes kh3 kp4);
              returns_on = way_map is_return (ToReturn g b.nodes base q m answers exits.returns)
                  (ToReturn g z.at.nodes base q m3 r3 exits.returns) x.pending
                  (λ n f'. return_later g n (omega (arith, o.follows.nodes)) kb3 f')
                  (way_still is_return (ToReturn g b.nodes base q m answers exits.returns) x.pending ok.returns_on);
            }))
            (λ m3 r3 kp3. to_joined g z.other x.at.nodes (omega (arith, hx.nodes)) js.0 ok.on m3 r3
            (kept_on kp2 (kept_less {n = b.nodes} {b = base} (omega arith) lb kp3))))
            (length answers) (arrive h0.node m.used m.temps m) answers (omega arith)
            (put_same h0.node (suc m.used) m.seen) (kept_arrive b.nodes base h0.node m.temps m answers (omega arith)
            (λ u i. refl)));
        dead = λ g k u j q ir d.
            let kx : Ext x.at.edges g = ext_then cl.ext k in
            let ko : Ext z.at.edges g = ext_then (follows_ext o.follows.fine l.follows) kx in
            let kh : Ext h0.edges g = ext_then (follows_ext fh.fine o.follows) ko in
            let js = cl.joins g k in
            let bk = cl.back g k (omega (arith, o.new, l.follows.low)) in
            dead_by g u j (place_only b.temps Op.Skip b g fb kh) (λ a. a) (inr
            (loop_dead g u h0.node j (λ j' lj back.
            let out : DeadIn g u j' x.at.nodes = lower g u j' j x.at.nodes lj d.on in
            o.dead g ko u j'
            (l.dead g kx u j' q ir (record {
              on = back x.at.node bk;
              breaks_on = way_nodes is_break (DeadIn g u j') x.pending
                  (nodes_map (λ p. Joins g p x.at.nodes) (DeadIn g u j') breaks0
                  (λ n jn. joins_dead g u j' jn out) js.1);
              continues_on = way_map is_continue (λ n. ⊥) (DeadIn g u j') x.pending (λ n i. absurd i) (l.none_on tt);
              head_on = back;
              returns_on = way_map is_return (DeadReturn g u j q) (DeadReturn g u j' q) x.pending
                  (λ n f away. lower g u j' j n lj (f away))
                  (way_still is_return (DeadReturn g u j q) x.pending d.returns_on);
            }))
            (joins_dead g u j' js.0 out))
            j (omega arith)));
      }

  -- the test of a loop, if it has one
  record EnteredPlaced (f : Option Fork) (b : Building) (x : Entered) : Type 0 where
    pub follows : Follows b x.at
    pub waits : EachNode (OpenAt b x.at) x.outs
    pub once : NoDup x.outs
    pub runs : (g : Edges) → Ext x.at.edges g → (base : ℕ) → base ≤ b.temps → (m : Memory) (answers : List Answer)
        (one other : After) → ToOn g b.nodes base m answers one x.at.node
        → EachNode (ToOn g b.nodes base m answers other) x.outs → Runs laid g b.node m answers
        (optional_fork_then laid calls f one other answers)
    pub dead : (g : Edges) → Ext x.at.edges g → (u j : ℕ) → DeadIn g u j x.at.node → EachNode (DeadIn g u j) x.outs
        → DeadIn g u j b.node

  entered_placed : (f : Option Fork) (b : Building) → Fine b → OptionalFork has_at f → EnteredPlaced f b
      (entered call f b)
  entered_placed None b fb w = record {
    follows = follows_same b fb;
    waits = tt;
    once = tt;
    runs = λ g k base l m answers one other on outs. on m answers (kept_same b.nodes base m answers);
    dead = λ g k u j d outs. d;
  }
  entered_placed (Some f) b fb w =
      let o = fork_placed laid has_at call calls calls_placed f w b fb in
      let z = fork_piece call f b in
      record {
        follows = o.follows;
        waits = (
          record {
            loose = record {
              away = λ n i ne e. absurd (omega (arith, o.other_new, i, e));
              inside =
                  o.other_inside;
              none = o.other_none;
            };
            apart = o.apart;
          },
          tt,
        );
        once = (tt, tt);
        runs = λ g k base l m answers one other on outs.
            o.runs g k m answers one other (λ m1 rest kp. on m1 rest (kept_less (omega arith) l kp))
            (λ m1 rest kp. outs.0 m1 rest (kept_less (omega arith) l kp));
        dead = λ g k u j d outs. o.dead g k u j d outs.0;
      }

  pub stepping_placed : (f : Option Fork) (step : Steps) (s : Plan) (br co : Bool) (onward : Onward) (res : Option ℕ)
      (b : Building) → Fine b → OptionalFork has_at f → InScope has_at 0 step
      → ((onward : Onward) (res : Option ℕ) (b : Building) → Fine b → OnwardOk onward b
      → PlanPlaced s true true onward res b (plan_piece call s onward res b))
      → PlanPlaced (loop_stepping f step s) br co onward res b (plan_piece call (loop_stepping f step s) onward res b)
  stepping_placed f step s br co onward res b fb wf ws ps =
      let h0 = place Op.Skip b in
      let fh = one_follows Op.Skip tt b fb in
      let o = entered_placed f h0 fh.fine wf in
      let z = entered call f h0 in
      let l = ps Later res z.at o.follows.fine tt in
      let x = plan_piece call s Later res z.at in
      let hx0 : Follows h0 x.at = follows_then o.follows l.follows in
      let cs : List ℕ = nodes_by is_continue x.pending in
      let c : Building = continued_at cs x.at in
      let from0 : EachPending (OpenAt h0 x.at) x.pending = each_map (OpenAt z.at x.at) (OpenAt h0 x.at) x.pending
      (λ n q. open_from n o.follows q) l.each in
      let cp : ContinuedPlaced h0 x.at c cs = continued_placed h0 x.at hx0 cs
      (nodes_each is_continue (OpenAt h0 x.at) x.pending from0) (nodes_distinct is_continue x.pending l.distinct) in
      let st = steps_placed laid has_at call calls calls_placed step 0 ws [] c cp.follows.fine in
      let y = (steps_piece call step [] c).at in
      let hy : Follows b y = follows_then fh (follows_then cp.follows st.follows) in
      let breaks0 : List ℕ = nodes_by is_break x.pending in
      let outs : List ℕ = z.outs ++ breaks0 in
      -- a node that waits after the test is none that waits after the body
      let apart : (p q : ℕ) → OpenAt h0 z.at p → OpenAt z.at x.at q → q ≢ p =
      λ p q op oq e. oq.loose.away p op.loose.inside op.apart (sym e) in
      let not_in : (ways : Way → Bool) (p : ℕ) → OpenAt h0 z.at p → NotIn p (nodes_by ways x.pending) = λ ways p op.
      nodes_each ways (λ n. n ≢ p) x.pending
      (each_map (OpenAt z.at x.at) (λ n. n ≢ p) x.pending (λ n q. apart p n op q) l.each) in
      let later : (n : ℕ) → OpenAt h0 c n → OpenAt b y n = λ n q. open_from n fh (open_later n st.follows q) in
      let stay : (f' : Way → Bool) → ((w : Way) → is_continue w ≡ true → f' w ≡ true → ⊥) → EachPending (OpenAt h0 c)
      (still_by f' x.pending)
      = λ f' ex. each_zip (OpenAt h0 x.at) (λ p. NotIn p cs) (OpenAt h0 c) (still_by f' x.pending)
      (λ n q k. cp.kept n q k)
      (still_each f' (OpenAt h0 x.at) x.pending from0) (still_apart is_continue f' ex x.pending l.distinct) in
      let wait : EachNode (OpenAt b y) outs = nodes_append (OpenAt b y) z.outs breaks0
      (nodes_map (OpenAt h0 z.at) (OpenAt b y) z.outs
      (λ p op. later p (cp.kept p (open_later p l.follows op) (not_in is_continue p op))) o.waits)
      (nodes_still is_break (OpenAt b y) x.pending
      (each_map (OpenAt h0 c) (OpenAt b y) (still_by is_break x.pending) later
      (stay is_break breaks_not_continues))) in
      let once : NoDup outs = nodup_join z.outs breaks0 o.once (nodes_distinct is_break x.pending l.distinct)
      (nodes_map (OpenAt h0 z.at) (λ p. NotIn p breaks0) z.outs (λ p op. not_in is_break p op) o.waits) in
      let cl = close_placed b y hy h0.node outs wait once in
      record {
        follows = cl.follows;
        stays = l.stays;
        found = λ base i e. result_later base x.result x.at _ (omega (arith, cp.temps, st.follows.temps))
            (l.found base (omega (arith, o.follows.temps))
            (result_later base res b _ (omega (arith, o.follows.temps)) e));
        each = each_zip (OpenAt z.at x.at) (λ p. OpenAt h0 c p × NotIn p breaks0) (OpenAt b (close_loop h0.node outs y))
            (still_by is_return x.pending)
            (λ n oq k. cl.open_still n (later n k.0)
            (nodes_append (λ m. m ≢ n) z.outs breaks0
            (nodes_map (OpenAt h0 z.at) (λ m. m ≢ n) z.outs (λ p op e. apart p n op oq (sym e)) o.waits) k.1))
            (still_each is_return (OpenAt z.at x.at) x.pending l.each)
            (each_zip (OpenAt h0 c) (λ p. NotIn p breaks0) (λ p. OpenAt h0 c p × NotIn p breaks0)
            (still_by is_return x.pending) (λ n a d. (a, d))
            (stay is_return returns_not_continues) (still_apart is_break is_return not_both x.pending l.distinct));
        distinct = still_distinct is_return x.pending l.distinct;
        none_on = λ i. no_continues (λ n. ⊥) x.pending;
        no_breaks = λ e. no_break_returns (λ n. ⊥) x.pending;
        no_conts = λ e. no_continues (λ n. ⊥) x.pending;
        runs = λ g k base q lb lr ir m answers exits ok.
            let ky : Ext y.edges g = ext_then cl.ext k in
            let kc : Ext c.edges g = ext_then (follows_ext cp.follows.fine st.follows) ky in
            let kx : Ext x.at.edges g = ext_then cp.ext kc in
            let ko : Ext z.at.edges g = ext_then (follows_ext o.follows.fine l.follows) kx in
            let kh : Ext h0.edges g = ext_then (follows_ext fh.fine o.follows) ko in
            let js = nodes_split (λ p. Joins g p y.nodes) z.outs breaks0 (cl.joins g k) in
            let bk = cl.back g k (omega (arith, cp.follows.low, st.follows.low)) in
            along laid g (place_only b.temps Op.Skip b g fb kh) fb.inside m.temps refl
            (loop_run laid g _ h0.node h0.nodes base (λ m2 r2. Kept b.nodes base m m2 answers r2) (omega arith)
            (λ m2 m3 r2 r3 kp2 kp3. kept_on kp2
            (kept_on (kept_less {n = b.nodes} {b = base} (omega arith) (omega arith) kp3)
            (kept_arrive b.nodes base h0.node m3.temps m3 r3 (omega arith) (λ u l'. refl))))
            (λ m2 r2 back kp2 back_run.
            let leave : (n : ℕ) → Joins g n y.nodes → ToOn g h0.nodes base m2 r2 exits.on n
            = λ n j m3 r3 kp3. to_joined g n y.nodes (omega (arith, hy.nodes)) j ok.on m3 r3
            (kept_on kp2 (kept_less {n = b.nodes} {b = base} (omega arith) (omega arith) kp3)) in
            let stepped : ToOn g h0.nodes base m2 r2 (steps_then laid calls step [] (λ vs. back)) c.node
            = λ m3 r3 kp3. st.runs g ky [] m3 r3 (λ vs. back) tt refl
            (λ us m4 r4 kp4 i4 len4. back_run y.node m4 r4 bk
            (kept_later cp.follows.nodes kp3
            (kept_less {n = c.nodes} {b = base} (omega arith)
            (omega (arith, lb, cp.temps, l.follows.temps, o.follows.temps)) kp4))) in
            let joined : (n : ℕ) → Joins g n c.node × (h0.nodes ≤ c.node) → ToOn g h0.nodes base m2 r2
            (steps_then laid calls step [] (λ vs. back)) n
            = λ n j. to_joined g n c.node j.1 j.0 stepped in
            o.runs g ko base (omega arith) m2 r2
            (plan_then laid calls s (inside exits (steps_then laid calls step [] (λ vs. back)))) exits.on
            (λ m3 r3 kp3.
            let kb3 : Kept b.nodes base m m3 answers r3 =
            kept_on kp2 (kept_less {n = b.nodes} {b = base} (omega arith) (omega arith) kp3) in
            l.runs g kx base q (omega (arith, o.follows.temps)) lr ir m3 r3
            (inside exits (steps_then laid calls step [] (λ vs. back))) (record {
              on = to_later g x.at.node o.follows.nodes kp3
                  (comes_to g x.at.node c.node stepped joined (cp.comes g kc));
              breaks_on = way_nodes is_break (ToOn g z.at.nodes base m3 r3 exits.on) x.pending
                  (nodes_map (λ p. Joins g p y.nodes) (ToOn g z.at.nodes base m3 r3 exits.on) breaks0
                  (λ n j. to_later g n o.follows.nodes kp3 (leave n j)) js.1);
              continues_on = way_nodes is_continue
                  (ToOn g z.at.nodes base m3 r3 (steps_then laid calls step [] (λ vs. back))) x.pending
                  (nodes_map (λ p. Joins g p c.node × (h0.nodes ≤ c.node))
                  (ToOn g z.at.nodes base m3 r3 (steps_then laid calls step [] (λ vs. back))) cs
                  (λ n j. to_later g n o.follows.nodes kp3 (joined n j)) (cp.continues g kc));
              head_on = tt;
              returns_on = way_map is_return (ToReturn g b.nodes base q m answers exits.returns)
                  (ToReturn g z.at.nodes base q m3 r3 exits.returns) x.pending
                  (λ n f'. return_later g n (omega (arith, o.follows.nodes)) kb3 f')
                  (way_still is_return (ToReturn g b.nodes base q m answers exits.returns) x.pending ok.returns_on);
            }))
            (nodes_map (λ p. Joins g p y.nodes) (ToOn g h0.nodes base m2 r2 exits.on) z.outs leave js.0))
            (length answers) (arrive h0.node m.used m.temps m) answers (omega arith)
            (put_same h0.node (suc m.used) m.seen) (kept_arrive b.nodes base h0.node m.temps m answers (omega arith)
            (λ u i. refl)));
        dead = λ g k u j q ir d.
            let ky : Ext y.edges g = ext_then cl.ext k in
            let kc : Ext c.edges g = ext_then (follows_ext cp.follows.fine st.follows) ky in
            let kx : Ext x.at.edges g = ext_then cp.ext kc in
            let ko : Ext z.at.edges g = ext_then (follows_ext o.follows.fine l.follows) kx in
            let kh : Ext h0.edges g = ext_then (follows_ext fh.fine o.follows) ko in
            let js = nodes_split (λ p. Joins g p y.nodes) z.outs breaks0 (cl.joins g k) in
            let bk = cl.back g k (omega (arith, cp.follows.low, st.follows.low)) in
            dead_by g u j (place_only b.temps Op.Skip b g fb kh) (λ a. a) (inr
            (loop_dead g u h0.node j (λ j' lj back.
            let out : DeadIn g u j' y.nodes = lower g u j' j y.nodes lj d.on in
            let stepped : DeadIn g u j' c.node = st.dead g ky u j' tt refl (λ nt len. back y.node bk) in
            o.dead g ko u j'
            (l.dead g kx u j' q ir (record {
              on = dead_comes g u j' x.at.node c.node stepped (cp.comes g kc);
              breaks_on = way_nodes is_break (DeadIn g u j') x.pending
                  (nodes_map (λ p. Joins g p y.nodes) (DeadIn g u j') breaks0 (λ n jn. joins_dead g u j' jn out) js.1);
              continues_on = way_nodes is_continue (DeadIn g u j') x.pending
                  (nodes_map (λ p. Joins g p c.node × (h0.nodes ≤ c.node)) (DeadIn g u j') cs
                  (λ n jn. joins_dead g u j' jn.0 stepped) (cp.continues g kc));
              head_on = tt;
              returns_on = way_map is_return (DeadReturn g u j q) (DeadReturn g u j' q) x.pending
                  (λ n f away. lower g u j' j n lj (f away))
                  (way_still is_return (DeadReturn g u j q) x.pending d.returns_on);
            }))
            (nodes_map (λ p. Joins g p y.nodes) (DeadIn g u j') z.outs (λ n jn. joins_dead g u j' jn out) js.0))
            j (omega arith)));
      }

  pub until_placed : (s : Plan) (f : Fork) (br co : Bool) (onward : Onward) (res : Option ℕ) (b : Building) → Fine b
      → ((b : Building) → Fine b → ForkPlaced laid has_at call calls b (fork_piece call f b) f)
      → ((onward : Onward) (res : Option ℕ) (b : Building) → Fine b → OnwardOk onward b
      → PlanPlaced s true true onward res b (plan_piece call s onward res b))
      → PlanPlaced (loop_until s f) br co onward res b (plan_piece call (loop_until s f) onward res b)
  until_placed s f br co onward res b fb pf ps =
      let h0 = place Op.Skip b in
      let fh = one_follows Op.Skip tt b fb in
      let l = ps Later res h0 fh.fine tt in
      let x = plan_piece call s Later res h0 in
      let cs : List ℕ = nodes_by is_continue x.pending in
      let c : Building = continued_at cs x.at in
      let cp : ContinuedPlaced h0 x.at c cs = continued_placed h0 x.at l.follows cs
      (nodes_each is_continue (OpenAt h0 x.at) x.pending l.each)
      (nodes_distinct is_continue x.pending l.distinct) in
      let o = pf c cp.follows.fine in
      let z = fork_piece call f c in
      let hz : Follows b z.at = follows_then fh (follows_then cp.follows o.follows) in
      let breaks0 : List ℕ = nodes_by is_break x.pending in
      let outs : List ℕ = breaks0 ++ z.other ∷ [] in
      let stay : (f' : Way → Bool) → ((w : Way) → is_continue w ≡ true → f' w ≡ true → ⊥) → EachPending (OpenAt h0 c)
      (still_by f' x.pending)
      = λ f' ex. each_zip (OpenAt h0 x.at) (λ p. NotIn p cs) (OpenAt h0 c) (still_by f' x.pending)
      (λ n q k. cp.kept n q k)
      (still_each f' (OpenAt h0 x.at) x.pending l.each) (still_apart is_continue f' ex x.pending l.distinct) in
      let later : (n : ℕ) → OpenAt h0 c n → OpenAt b z.at n = λ n q. open_from n fh (open_later n o.follows q) in
      let oz : OpenAt b z.at z.other = record {
        loose = record {
          away = λ n i ne e. absurd (omega (arith, o.other_new, cp.follows.nodes, e));
          inside =
              o.other_inside;
          none = o.other_none;
        };
        apart = o.apart;
      } in
      let gone : EachPending (OpenAt h0 c) (still_by is_break x.pending) = stay is_break breaks_not_continues in
      let wait : EachNode (OpenAt b z.at) outs = nodes_append (OpenAt b z.at) breaks0 (z.other ∷ [])
      (nodes_still is_break (OpenAt b z.at) x.pending
      (each_map (OpenAt h0 c) (OpenAt b z.at) (still_by is_break x.pending) later gone)) (oz, tt) in
      let once : NoDup outs = nodup_end breaks0 z.other (nodes_distinct is_break x.pending l.distinct)
      (nodes_still is_break (λ n. n ≢ z.other) x.pending
      (each_map (OpenAt h0 c) (λ n. n ≢ z.other) (still_by is_break x.pending)
      (λ n q e. absurd (omega (arith, q.loose.inside, o.other_new, e))) gone)) in
      let cl = close_placed b z.at hz h0.node outs wait once in
      record {
        follows = cl.follows;
        stays = l.stays;
        found = λ base i e. result_later base x.result x.at _ (omega (arith, cp.temps, o.follows.temps))
            (l.found base (omega arith) (result_later base res b _ (omega arith) e));
        each = each_zip (OpenAt h0 c) (λ p. NotIn p breaks0) (OpenAt b (close_loop h0.node outs z.at))
            (still_by is_return x.pending)
            (λ n q k. cl.open_still n (later n q)
            (nodes_append (λ m. m ≢ n) breaks0 (z.other ∷ []) k
            ((λ e. absurd (omega (arith, q.loose.inside, o.other_new, e))), tt)))
            (stay is_return returns_not_continues)
            (still_apart is_break is_return not_both x.pending l.distinct);
        distinct = still_distinct is_return x.pending l.distinct;
        none_on = λ i. no_continues (λ n. ⊥) x.pending;
        no_breaks = λ e. no_break_returns (λ n. ⊥) x.pending;
        no_conts = λ e. no_continues (λ n. ⊥) x.pending;
        runs = λ g k base q lb lr ir m answers exits ok.
            let kz : Ext z.at.edges g = ext_then cl.ext k in
            let kc : Ext c.edges g = ext_then (follows_ext cp.follows.fine o.follows) kz in
            let kx : Ext x.at.edges g = ext_then cp.ext kc in
            let kh : Ext h0.edges g = ext_then (follows_ext fh.fine l.follows) kx in
            let js = nodes_split (λ p. Joins g p z.at.nodes) breaks0 (z.other ∷ []) (cl.joins g k) in
            let bk = cl.back g k (omega (arith, cp.follows.low, o.follows.low)) in
            along laid g (place_only b.temps Op.Skip b g fb kh) fb.inside m.temps refl
            (loop_run laid g _ h0.node h0.nodes base (λ m2 r2. Kept b.nodes base m m2 answers r2) (omega arith)
            (λ m2 m3 r2 r3 kp2 kp3. kept_on kp2
            (kept_on (kept_less {n = b.nodes} {b = base} (omega arith) (omega arith) kp3)
            (kept_arrive b.nodes base h0.node m3.temps m3 r3 (omega arith) (λ u l'. refl))))
            (λ m2 r2 back kp2 back_run.
            let leave : (n : ℕ) → Joins g n z.at.nodes → ToOn g h0.nodes base m2 r2 exits.on n
            = λ n j m3 r3 kp3. to_joined g n z.at.nodes (omega (arith, hz.nodes)) j ok.on m3 r3
            (kept_on kp2 (kept_less {n = b.nodes} {b = base} (omega arith) (omega arith) kp3)) in
            let tested : ToOn g h0.nodes base m2 r2 (fork_then laid calls f back exits.on) c.node
            = λ m3 r3 kp3. o.runs g kz m3 r3 back exits.on
            (λ m4 r4 kp4. back_run z.at.node m4 r4 bk
            (kept_later cp.follows.nodes kp3
            (kept_less {n = c.nodes} {b = base} (omega arith) (omega (arith, lb, cp.temps, l.follows.temps)) kp4)))
            (λ m4 r4 kp4. leave z.other js.1.0 m4 r4
            (kept_later cp.follows.nodes kp3
            (kept_less {n = c.nodes} {b = base} (omega arith)
            (omega (arith, lb, cp.temps, l.follows.temps)) kp4))) in
            let joined : (n : ℕ) → Joins g n c.node × (h0.nodes ≤ c.node) → ToOn g h0.nodes base m2 r2
            (fork_then laid calls f back exits.on) n
            = λ n j. to_joined g n c.node j.1 j.0 tested in
            l.runs g kx base q (omega arith) lr ir m2 r2 (inside exits (fork_then laid calls f back exits.on)) (record {
              on = comes_to g x.at.node c.node tested joined (cp.comes g kc);
              breaks_on = way_nodes is_break (ToOn g h0.nodes base m2 r2 exits.on) x.pending
                  (nodes_map (λ p. Joins g p z.at.nodes) (ToOn g h0.nodes base m2 r2 exits.on) breaks0 leave js.0);
              continues_on = way_nodes is_continue
                  (ToOn g h0.nodes base m2 r2 (fork_then laid calls f back exits.on)) x.pending
                  (nodes_map (λ p. Joins g p c.node × (h0.nodes ≤ c.node))
                  (ToOn g h0.nodes base m2 r2 (fork_then laid calls f back exits.on)) cs joined
                  (cp.continues g kc));
              head_on = tt;
              returns_on = way_map is_return (ToReturn g b.nodes base q m answers exits.returns)
                  (ToReturn g h0.nodes base q m2 r2 exits.returns) x.pending
                  (λ n f'. return_later g n (omega arith) kp2 f')
                  (way_still is_return (ToReturn g b.nodes base q m answers exits.returns) x.pending ok.returns_on);
            }))
            (length answers) (arrive h0.node m.used m.temps m) answers (omega arith)
            (put_same h0.node (suc m.used) m.seen) (kept_arrive b.nodes base h0.node m.temps m answers (omega arith)
            (λ u i. refl)));
        dead = λ g k u j q ir d.
            let kz : Ext z.at.edges g = ext_then cl.ext k in
            let kc : Ext c.edges g = ext_then (follows_ext cp.follows.fine o.follows) kz in
            let kx : Ext x.at.edges g = ext_then cp.ext kc in
            let kh : Ext h0.edges g = ext_then (follows_ext fh.fine l.follows) kx in
            let js = nodes_split (λ p. Joins g p z.at.nodes) breaks0 (z.other ∷ []) (cl.joins g k) in
            let bk = cl.back g k (omega (arith, cp.follows.low, o.follows.low)) in
            dead_by g u j (place_only b.temps Op.Skip b g fb kh) (λ a. a) (inr
            (loop_dead g u h0.node j (λ j' lj back.
            let out : DeadIn g u j' z.at.nodes = lower g u j' j z.at.nodes lj d.on in
            let tested : DeadIn g u j' c.node = o.dead g kz u j' (back z.at.node bk) (joins_dead g u j' js.1.0 out) in
            l.dead g kx u j' q ir (record {
              on = dead_comes g u j' x.at.node c.node tested (cp.comes g kc);
              breaks_on = way_nodes is_break (DeadIn g u j') x.pending
                  (nodes_map (λ p. Joins g p z.at.nodes) (DeadIn g u j') breaks0
                  (λ n jn. joins_dead g u j' jn out) js.0);
              continues_on = way_nodes is_continue (DeadIn g u j') x.pending
                  (nodes_map (λ p. Joins g p c.node × (h0.nodes ≤ c.node)) (DeadIn g u j') cs
                  (λ n jn. joins_dead g u j' jn.0 tested) (cp.continues g kc));
              head_on = tt;
              returns_on = way_map is_return (DeadReturn g u j q) (DeadReturn g u j' q) x.pending
                  (λ n f away. lower g u j' j n lj (f away))
                  (way_still is_return (DeadReturn g u j q) x.pending d.returns_on);
            }))
            j (omega arith)));
      }
