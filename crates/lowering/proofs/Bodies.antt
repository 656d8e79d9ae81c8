-- Whole bodies, with those of their calls inside them.
use Rattle.std.proofs.Common.{◌≡◌, ◌≢◌, ◌⊎◌, inl, inr, ℕ, zero, suc, ◌<◌, ◌≤◌, Bool, true, false, List, [], ◌∷◌, ◌++◌}
use Rattle.std.proofs.Common.{length, refl, sym, ◌∙◌, ap, subst, arith}
use Rattle.std.specs.Prelude.{if◌then◌else◌, nat_lt, Option, Some, None}
use Rattle.concrete_steps.specs.tm_cint.IntTypes.{lo_of, hi_of}
use Rattle.concrete_steps.specs.tm_terms.declared.places.Place.{Place}
use Rattle.concrete_steps.specs.tm_typed.declared.types.CType.{CType}
use Rattle.concrete_steps.specs.tm_typed.declared.types.CType.TheVariants as Types
use Rattle.concrete_steps.specs.tm_typed.declared.scopes.ObjectNumber.TheVariants.{Local}
use Rattle.concrete_steps.specs.tm_typed.Functions.{TypedBodyTree}
use Rattle.concrete_steps.specs.tm_laid.Layouts.{LaidTree, callee, object_of, first_path}
use Rattle.concrete_steps.specs.concrete_values.declared.values.Value.{Value}
use Rattle.concrete_steps.specs.concrete_values.declared.values.Answer.{Answer}
use Rattle.concrete_steps.specs.concrete_values.declared.actions.Next.TheVariants as Acts
use Rattle.concrete_steps.specs.concrete_values.Values.{nothing}
use Rattle.concrete_steps.specs.concrete_values.Pointers.{base}
use Rattle.concrete_steps.specs.concrete_values.Actions.{store_at}
use Rattle.concrete_steps.specs.Places.{result_type}
use Rattle.concrete_steps.specs.NextAction.{After, last, scalar_at, passed_then, fallen_then, function_at, exits_of}
use Rattle.concrete_steps.specs.NextAction.{here_with, code_then as body_code_then, body_then, next}
use Rattle.flow_graph.specs.declared.operations.Into.TheVariants as Intos
use Rattle.flow_graph.specs.declared.operations.Operation.TheVariants as Op
use Rattle.flow_graph.specs.Operations.{put_at, gives, asks, effect_by}
use Rattle.flow_graph.specs.Graphs.{Edges, IsPlain, IsLive}
use Rattle.flow_graph.specs.Runs.{Memory, arrive, move_along, Runs, halts, at_entry, GraphNext}
use Rattle.lowering.specs.Table.{is_value_type, call_has_value, plans}
use Rattle.lowering.specs.Lowerable.{IsBody, IsLowerable}
use Rattle.lowering.specs.Built.{Building, place, place_new, AfterPart, temp_of, is_break, is_continue, is_return}
use Rattle.lowering.specs.Built.{nodes_by, Later, result_of, plan_piece, stores_piece, fallen_piece, result_at}
use Rattle.lowering.specs.Built.{function_end, task_end, nothing_piece, function_piece, sites_of, path_piece, entry}
use Rattle.lowering.specs.Built.{built, graph_of}
use Rattle.lowering.proofs.Edges.{Joins, Ext, ext_then, Fine, Follows, follows_then, follows_same, follows_ext}
use Rattle.lowering.proofs.Pendings.{EachNode, EachPending, NotIn, NoDup, nodes_map, nodes_append, nodes_split}
use Rattle.lowering.proofs.Pendings.{nodup_end, each_map, nodes_each, nodes_distinct, way_nodes, Loose, OpenAt}
use Rattle.lowering.proofs.Pendings.{open_later, present_loose, meet_placed}
use Rattle.lowering.proofs.Dead.{DeadIn, dead_not_live, dead_by, by_new, joins_dead, two_away, dead_comes}
use Rattle.lowering.proofs.Dead.{end_dead}
use Rattle.lowering.proofs.Moves.{put_same, put_above, last_same, Kept, kept_then, kept_on, kept_same, kept_arrive}
use Rattle.lowering.proofs.Moves.{along, does}
use Rattle.lowering.proofs.Expressions.{In, in_later, place_only, one_follows, new_follows, meets_run, CallsPlaced}
use Rattle.lowering.proofs.StatementParts.{way_map, IsResult, ResultIn, result_placed, ContinuedPlaced}
use Rattle.lowering.proofs.StatementParts.{continued_placed}
use Rattle.lowering.proofs.Statements.{ToOn, ToReturn}
use Rattle.lowering.proofs.Switches.{plan_placed}
use Rattle.lowering.proofs.StatementLaw.{block_law, block_scope}

-- ## Ends

function_end_placed : (b0 b : Building) → Follows b0 b → (cs : List ℕ) → EachNode (OpenAt b0 b) cs → NoDup cs
    → ContinuedPlaced b0 b (function_end cs b) cs
function_end_placed b0 b h cs w once =
    let ns : List ℕ = cs ++ b.node ∷ [] in
    let loose : EachNode (Loose b0 b) ns = nodes_append (Loose b0 b) cs (b.node ∷ [])
    (nodes_map (OpenAt b0 b) (Loose b0 b) cs (λ n o. o.loose) w) (present_loose h, tt) in
    let once1 : NoDup ns = nodup_end cs b.node once (nodes_map (OpenAt b0 b) (λ n. n ≢ b.node) cs (λ n o. o.apart) w) in
    let mt = meet_placed b0 b h ns loose once1 in
    record {
      follows = mt.follows;
      ext = mt.ext;
      nodes = omega arith;
      temps = refl;
      kept = λ p o k. mt.open_still p o (nodes_append (λ m. m ≢ p) cs (b.node ∷ []) k ((λ e. o.apart (sym e)), tt));
      comes = λ g k. inr ((nodes_split (λ p. Joins g p b.nodes) cs (b.node ∷ []) (mt.joins g k)).1.0, h.nodes);
      continues = λ g k. nodes_map (λ p. Joins g p b.nodes) (λ p. Joins g p b.nodes × (b0.nodes ≤ b.nodes)) cs
          (λ p j. (j, h.nodes))
          (nodes_split (λ p. Joins g p b.nodes) cs (b.node ∷ []) (mt.joins g k)).0;
    }

-- how a body ends
abbrev Closes : (List ℕ → Building → Building) → Type 0
Closes close = (b0 b : Building) → Follows b0 b → (cs : List ℕ) → EachNode (OpenAt b0 b) cs → NoDup cs
    → ContinuedPlaced b0 b (close cs b) cs

module _ (laid : LaidTree) where
  -- ## Arguments

  record StoresPlaced (path k : ℕ) (ts : List ℕ) (p : Place) (b b' : Building) : Type 0 where
    pub follows : Follows b b'
    pub runs : (g : Edges) → Ext b'.edges g → (vs : List Value) (m : Memory) (answers : List Answer) (go : After)
        → In ts vs m b.temps
        → ((m' : Memory) (rest : List Answer) → Kept b.nodes b.temps m m' answers rest → Runs laid g b'.node m' rest
        (go rest))
        → Runs laid g b.node m answers (passed_then laid path k vs p go answers)
    pub dead : (g : Edges) → Ext b'.edges g → (u j : ℕ) → NotIn u ts → DeadIn g u j b'.node → DeadIn g u j b.node

  stores_placed : (path k : ℕ) (ts : List ℕ) (p : Place) (b : Building) → Fine b → StoresPlaced path k ts p b
      (stores_piece laid path k ts p b)
  stores_placed path k [] p b f = record {
    follows = follows_same b f;
    runs = λ g q vs m answers go i ok. none_run g vs m answers go i ok;
    dead = λ g q u j nt d. d;
  }
    where
      none_run : (g : Edges) (vs : List Value) (m : Memory) (answers : List Answer) (go : After) → In [] vs m b.temps
          → ((m' : Memory) (rest : List Answer) → Kept b.nodes b.temps m m' answers rest → Runs laid g b.node m' rest
          (go rest)) → Runs laid g b.node m answers (passed_then laid path k vs p go answers)
      none_run g [] m answers go i ok = ok m answers (kept_same b.nodes b.temps m answers)
      none_run g (v ∷ vs) m answers go i ok = absurd i
  stores_placed path k (t ∷ ts) p b f =
      let o = object_of laid path (Local k) in
      let op1 = λ (a : ℕ). Op.Base a o in
      let b1 = place_new op1 b in
      let f1 = new_follows op1 (λ a. tt) b f in
      let op2 = Op.Store b.temps t (scalar_at laid o 0) (Intos.Object o) p in
      let b2 = place op2 b1 in
      let f2 = one_follows op2 tt b1 f1.fine in
      let r = stores_placed path (suc k) ts p b2 f2.fine in
      record {
        follows = follows_then f1 (follows_then f2 r.follows);
        runs = λ g q vs m answers go i ok. one_run g q vs m answers go i ok r;
        dead = λ g q u j nt d.
            let q2 : Ext b2.edges g = ext_then (follows_ext f2.fine r.follows) q in
            let q1 : Ext b1.edges g = ext_then (follows_ext f1.fine f2) q2 in
            dead_by g u j (place_only (suc b.temps) (op1 b.temps) b g f q1) (λ a. a) (by_new b.temps u (λ ne.
            dead_by g u j (place_only b1.temps op2 b1 g f1.fine q2) (two_away u b.temps t ne nt.0)
            (inr (r.dead g q u j nt.1 d))));
      }
    where
      one_run : (g : Edges) → Ext (stores_piece laid path k (t ∷ ts) p b).edges g → (vs : List Value) (m : Memory)
          (answers : List Answer) (go : After) → In (t ∷ ts) vs m b.temps
          → ((m' : Memory) (rest : List Answer) → Kept b.nodes b.temps m m' answers rest
          → Runs laid g (stores_piece laid path k (t ∷ ts) p b).node m' rest (go rest))
          → StoresPlaced path (suc k) ts p
          (place (Op.Store b.temps t (scalar_at laid (object_of laid path (Local k)) 0)
          (Intos.Object (object_of laid path (Local k))) p)
          (place_new (λ a. Op.Base a (object_of laid path (Local k))) b))
          (stores_piece laid path k (t ∷ ts) p b)
          → Runs laid g b.node m answers (passed_then laid path k vs p go answers)
      one_run g q [] m answers go i ok r = absurd i
      one_run g q (v ∷ vs) m answers go i ok r =
          let o = object_of laid path (Local k) in
          let op1 = λ (a : ℕ). Op.Base a o in
          let b1 = place_new op1 b in
          let f1 = new_follows op1 (λ a. tt) b f in
          let op2 = Op.Store b.temps t (scalar_at laid o 0) (Intos.Object o) p in
          let b2 = place op2 b1 in
          let f2 = one_follows op2 tt b1 f1.fine in
          let q2 : Ext b2.edges g = ext_then (follows_ext f2.fine r.follows) q in
          let q1 : Ext b1.edges g = ext_then (follows_ext f1.fine f2) q2 in
          along laid g (place_only (suc b.temps) (op1 b.temps) b g f q1) f.inside
          (put_at b.temps (base laid o) m.temps) refl
          (let m1 : Memory = arrive b.nodes m.used (put_at b.temps (base laid o) m.temps) m in
          let kp1 : Kept b.nodes b.temps m m1 answers answers = kept_arrive b.nodes b.temps b.nodes
          (put_at b.temps (base laid o) m.temps) m answers (omega arith)
          (λ u l. put_above b.temps (base laid o) m.temps u (omega arith)) in
          does laid g b1.nodes b1.temps m1 answers (λ u. passed_then laid path (suc k) vs p go)
          (asks (store_at (base laid o) (scalar_at laid o 0) v p)) None
          (place_only b1.temps op2 b1 g f1.fine q2) f1.fine.inside (omega arith) tt
          (ap (λ z. effect_by None m1.temps (asks (store_at z (scalar_at laid o 0) (m1.temps t) p)))
          (put_same b.temps (base laid o) m.temps)
          ∙ ap (λ z. effect_by None m1.temps (asks (store_at (base laid o) (scalar_at laid o 0) z p)))
          (kp1.temps t i.1 ∙ i.0))
          (λ e. cc)
          (λ u m2 rest kp2 is.
          let kp : Kept b.nodes b.temps m m2 answers rest = kept_then (omega arith) (omega arith) kp1 kp2 in
          r.runs g q vs m2 rest go (in_later ts vs m m2 b.temps b2.temps (omega arith) kp.temps i.2)
          (λ m3 rest' kp3. ok m3 rest' (kept_then (omega arith) (omega arith) kp kp3))))

  -- ## Bodies

  record BodyPlaced (valued : Bool) (means : (Value → After) → After) (b : Building) (x : AfterPart) : Type 0 where
    pub follows : Follows b x.at
    pub runs : (g : Edges) → Ext x.at.edges g → (m : Memory) (answers : List Answer) (k : Value → After)
        → ((v : Value) (m' : Memory) (rest : List Answer) → Kept b.nodes b.temps m m' answers rest
        → (valued ≡ true → (m'.temps (temp_of x.temp) ≡ v) × (temp_of x.temp < x.at.temps))
        → Runs laid g x.at.node m' rest (k v rest))
        → Runs laid g b.node m answers (means k answers)
    pub dead : (g : Edges) → Ext x.at.edges g → (u j : ℕ)
        → ((valued ≡ true → temp_of x.temp ≢ u) → DeadIn g u j x.at.node) → DeadIn g u j b.node

  nothing_placed : (valued : Bool) (b : Building) → Fine b → BodyPlaced valued (λ k. k nothing) b (nothing_piece b)
  nothing_placed valued b f = record {
    follows = new_follows (λ t. Op.Const t nothing) (λ t. tt) b f;
    runs = λ g q m answers k ok.
        along laid g (place_only (suc b.temps) (Op.Const b.temps nothing) b g f q) f.inside
        (put_at b.temps nothing m.temps) refl
        (ok nothing _ answers (kept_arrive b.nodes b.temps b.nodes (put_at b.temps nothing m.temps) m answers
        (omega arith) (λ u l. put_above b.temps nothing m.temps u (omega arith)))
        (λ e. (put_same b.temps nothing m.temps, omega arith)));
    dead = λ g q u j ok.
        dead_by g u j (place_only (suc b.temps) (Op.Const b.temps nothing) b g f q) (λ a. a)
        (by_new b.temps u (λ ne. ok (λ e. ne)));
  }

  -- falling off the end
  record FallPlaced (t : CType) (res : Option ℕ) (b b' : Building) : Type 0 where
    pub follows : Follows b b'
    pub found : (low : ℕ) → low ≤ b.temps → ResultIn low res b → is_value_type t ≡ true → result_of res b < b'.temps
    pub runs : (g : Edges) → Ext b'.edges g → (n low : ℕ) → n ≤ b.nodes → low ≤ result_of res b
        → (m : Memory) (answers : List Answer) (k : Value → After)
        → ((v : Value) (m' : Memory) (rest : List Answer) → Kept n low m m' answers rest
        → (is_value_type t ≡ true → m'.temps (result_of res b) ≡ v) → Runs laid g b'.node m' rest (k v rest))
        → Runs laid g b.node m answers (fallen_then laid t k answers)
    pub dead : (g : Edges) → Ext b'.edges g → (u j : ℕ)
        → ((is_value_type t ≡ true → result_of res b ≢ u) → DeadIn g u j b'.node) → DeadIn g u j b.node

  no_value_placed : (t : CType) (res : Option ℕ) (b : Building) → Fine b → is_value_type t ≡ false
      → ((k : Value → After) → fallen_then laid t k ≡ k nothing) → FallPlaced t res b b
  no_value_placed t res b f without is = record {
    follows = follows_same b f;
    found = λ low l h e. absurd (let z : true ≡ false = sym e ∙ without in cc);
    runs = λ g q n low i l m answers k ok. subst (λ z. Runs laid g b.node m answers (z answers)) (sym (is k))
        (ok nothing m answers (kept_same n low m answers) (λ e. absurd (let z : true ≡ false = sym e ∙ without in cc)));
    dead = λ g q u j ok. ok (λ e. absurd (let z : true ≡ false = sym e ∙ without in cc));
  }

  fall_placed : (t : CType) (res : Option ℕ) (b : Building) → Fine b → FallPlaced t res b (fallen_piece t res b)
  fall_placed (Types.Int t) res b f =
      let op = λ (r : ℕ). Op.Any r (lo_of t) (hi_of t) in
      let rp = result_placed res op (λ r. tt) b f in
      record {
        follows = rp.follows;
        found = λ low l h e. (rp.found low l h).1;
        runs = λ g q n low i l m answers k ok.
            does laid g n low m answers k (asks (Acts.Chosen (lo_of t) (hi_of t))) (Some (result_of res b))
            (rp.only g q) (omega (arith, rp.new, f.inside)) (omega (arith, rp.new, i)) l refl (λ e. cc)
            (λ v m1 rest kp is. ok v m1 rest kp
            (λ e. ap (λ h. h (result_of res b)) is ∙ put_same (result_of res b) v m.temps));
        dead = λ g q u j ok. dead_by g u j (rp.only g q) (λ a. a) (by_new (result_of res b) u (λ ne. ok (λ e. ne)));
      }
  fall_placed (Types.Pointer c) res b f =
      let op = λ (r : ℕ). Op.Const r nothing in
      let rp = result_placed res op (λ r. tt) b f in
      record {
        follows = rp.follows;
        found = λ low l h e. (rp.found low l h).1;
        runs = λ g q n low i l m answers k ok.
            does laid g n low m answers k (gives nothing) (Some (result_of res b)) (rp.only g q)
            (omega (arith, rp.new, f.inside)) (omega (arith, rp.new, i)) l refl (λ e. cc)
            (λ v m1 rest kp is. ok v m1 rest kp
            (λ e. ap (λ h. h (result_of res b)) is ∙ put_same (result_of res b) v m.temps));
        dead = λ g q u j ok. dead_by g u j (rp.only g q) (λ a. a) (by_new (result_of res b) u (λ ne. ok (λ e. ne)));
      }
  fall_placed Types.Void res b f = no_value_placed Types.Void res b f refl (λ k. refl)
  fall_placed (Types.Array e n) res b f = no_value_placed (Types.Array e n) res b f refl (λ k. refl)
  fall_placed (Types.Struct n) res b f = no_value_placed (Types.Struct n) res b f refl (λ k. refl)

  result_is : (res : Option ℕ) (b : Building) → IsResult res (result_of res b)
  result_is None b = tt
  result_is (Some r) b = refl

  result_low : (res : Option ℕ) (b : Building) (low : ℕ) → low ≤ b.temps → ResultIn low res b → low ≤ result_of res b
  result_low None b low l h = l
  result_low (Some r) b low l h = h.0

  result_holds : (valued : Bool) (res : Option ℕ) (b c : Building) (m : Memory) (v : Value)
      → (valued ≡ true → m.temps (result_of res b) ≡ v) → (valued ≡ true → result_of res b < c.temps)
      → valued ≡ true → (m.temps (temp_of (result_at valued res b)) ≡ v) × (temp_of (result_at valued res b) < c.temps)
  result_holds true res b c m v h l e = (h e, l e)
  result_holds false res b c m v h l e = absurd (cc)

  result_apart : (valued : Bool) (res : Option ℕ) (b : Building) (u : ℕ) → (valued ≡ true → result_of res b ≢ u)
      → valued ≡ true → temp_of (result_at valued res b) ≢ u
  result_apart true res b u ne e = ne e
  result_apart false res b u ne e = absurd (cc)

  -- the code of a function on a path
  function_placed : (path : ℕ) (body : ℕ → Building → AfterPart) (meaning : ℕ → (Value → After) → After)
      → CallsPlaced laid (call_has_value laid path) (sites_of laid body path) (here_with laid meaning path).call
      → (close : List ℕ → Building → Building) → Closes close → (t : CType) (code : Option TypedBodyTree)
      → IsBody laid path (is_value_type t) code → (b : Building) → Fine b
      → BodyPlaced (is_value_type t) (body_code_then (here_with laid meaning path) t code) b
      (function_piece (sites_of laid body path) laid path close t code b)
  function_placed path body meaning placed close closes t None w b f = nothing_placed (is_value_type t) b f
  function_placed path body meaning placed close closes t (Some code) w b f =
      let call = sites_of laid body path in
      let calls = (here_with laid meaning path).call in
      let s = plans laid path code.statements in
      let l = plan_placed laid (call_has_value laid path) call calls placed (is_value_type t) s false false
      (block_scope laid path calls (is_value_type t) code.statements false false w) Later None b f tt in
      let x = plan_piece call s Later None b in
      let r = result_of x.result x.at in
      let fl = fall_placed t x.result x.at l.follows.fine in
      let y = fallen_piece t x.result x.at in
      let hy : Follows b y = follows_then l.follows fl.follows in
      let cs : List ℕ = nodes_by is_return x.pending in
      let wait : EachPending (OpenAt b y) x.pending = each_map (OpenAt b x.at) (OpenAt b y) x.pending
      (λ n q. open_later n fl.follows q) l.each in
      let cp = closes b y hy cs (nodes_each is_return (OpenAt b y) x.pending wait)
      (nodes_distinct is_return x.pending l.distinct) in
      let c = close cs y in
      let within : ResultIn b.temps x.result x.at = l.found b.temps (omega arith) tt in
      let low : b.temps ≤ r = result_low x.result x.at b.temps l.follows.temps within in
      let inside : is_value_type t ≡ true → r < c.temps =
      λ e. omega (arith, fl.found b.temps l.follows.temps within e, cp.temps) in
      record {
        follows = cp.follows;
        runs = λ g q m answers k ok.
            let qy : Ext y.edges g = ext_then cp.ext q in
            let qx : Ext x.at.edges g = ext_then (follows_ext l.follows.fine fl.follows) qy in
            let ended : (m1 : Memory) (rest : List Answer) (v : Value) → Kept b.nodes b.temps m m1 answers rest
            → (is_value_type t ≡ true → m1.temps r ≡ v) → Runs laid g c.node m1 rest (k v rest)
            = λ m1 rest v kp e. ok v m1 rest kp (result_holds (is_value_type t) x.result x.at c m1 v e inside) in
            let joined : (p : ℕ) → Joins g p c.node × (b.nodes ≤ c.node) → (m1 : Memory) (rest : List Answer)
            (v : Value) → Kept b.nodes b.temps m m1 answers rest → (is_value_type t ≡ true → m1.temps r ≡ v)
            → Runs laid g p m1 rest (k v rest)
            = λ p j m1 rest v kp e. meets_run laid g {n = b.nodes} {b = b.temps} j.0 j.1
            (λ m2 kp2 e2. ended m2 rest v (kept_on kp kp2) (λ h. ap (λ z. z r) e2 ∙ e h)) in
            subst (λ z. Runs laid g b.node m answers (z answers))
            (block_law laid path calls (is_value_type t) code.statements false false w (exits_of laid t k))
            (l.runs g qx b.temps r (omega arith) low (result_is x.result x.at) m answers (exits_of laid t k) (record {
              on = λ m1 rest kp. fl.runs g qy b.nodes b.temps l.follows.nodes low m1 rest k
                  (λ v m2 rest' kp2 e. ends_by g (kept_on kp kp2) e ended joined (cp.comes g q));
              breaks_on = way_map is_break (λ n. ⊥)
                  (ToOn laid (call_has_value laid path) call calls placed (is_value_type t) g b.nodes b.temps m answers
                  (last Acts.Misfit)) x.pending (λ n i. absurd i) (l.no_breaks refl);
              continues_on = way_map is_continue (λ n. ⊥)
                  (ToOn laid (call_has_value laid path) call calls placed (is_value_type t) g b.nodes b.temps m answers
                  (last Acts.Misfit)) x.pending (λ n i. absurd i) (l.no_conts refl);
              head_on = tt;
              returns_on = way_nodes is_return
                  (ToReturn laid (call_has_value laid path) call calls placed
                  (is_value_type t) g b.nodes b.temps r m answers k) x.pending
                  (nodes_map (λ p. Joins g p c.node × (b.nodes ≤ c.node))
                  (ToReturn laid (call_has_value laid path) call calls placed
                  (is_value_type t) g b.nodes b.temps r m answers k) cs
                  (λ p j m1 rest v kp e. joined p j m1 rest v kp e) (cp.continues g q));
            }));
        dead = λ g q u j ok.
            let qy : Ext y.edges g = ext_then cp.ext q in
            let qx : Ext x.at.edges g = ext_then (follows_ext l.follows.fine fl.follows) qy in
            let ended : (is_value_type t ≡ true → r ≢ u) → DeadIn g u j c.node =
            λ ne. ok (λ e. result_apart (is_value_type t) x.result x.at u ne e) in
            l.dead g qx u j r (result_is x.result x.at) (record {
              on = fl.dead g qy u j (λ ne. dead_comes g u j y.node c.node (ended ne) (cp.comes g q));
              breaks_on = way_map is_break (λ n. ⊥) (DeadIn g u j) x.pending (λ n i. absurd i) (l.no_breaks refl);
              continues_on = way_map is_continue (λ n. ⊥) (DeadIn g u j) x.pending (λ n i. absurd i) (l.no_conts refl);
              head_on = tt;
              returns_on = way_nodes is_return (λ n. (is_value_type t ≡ true → r ≢ u) → DeadIn g u j n) x.pending
                  (nodes_map (λ p. Joins g p c.node × (b.nodes ≤ c.node))
                  (λ n. (is_value_type t ≡ true → r ≢ u) → DeadIn g u j n) cs
                  (λ p jn ne. joins_dead g u j jn.0 (ended ne)) (cp.continues g q));
            });
      }
    where
      ends_by : (g : Edges) {n low r : ℕ} {m m2 : Memory} {answers rest : List Answer} {v : Value} {k : Value
          → After} {a c : ℕ} → Kept n low m m2 answers rest → (is_value_type t ≡ true → m2.temps r ≡ v)
          → ((m1 : Memory) (rest : List Answer) (v : Value) → Kept n low m m1 answers rest
          → (is_value_type t ≡ true → m1.temps r ≡ v) → Runs laid g c m1 rest (k v rest))
          → ((p : ℕ) → Joins g p c × (n ≤ c) → (m1 : Memory) (rest : List Answer) (v : Value)
          → Kept n low m m1 answers rest → (is_value_type t ≡ true → m1.temps r ≡ v) → Runs laid g p m1 rest
          (k v rest))
          → (a ≡ c) ⊎ (Joins g a c × (n ≤ c)) → Runs laid g a m2 rest (k v rest)
      ends_by g {m2 = m2} {rest = rest} {v = v} {k = k} kp e ended joined (inl i) =
          subst (λ z. Runs laid g z m2 rest (k v rest)) (sym i) (ended m2 rest v kp e)
      ends_by g {m2 = m2} {rest = rest} {v = v} {a = a} kp e ended joined (inr j) = joined a j m2 rest v kp e

  -- the calls on a path
  calls_placed : (path : ℕ) (body : ℕ → Building → AfterPart) (meaning : ℕ → (Value → After) → After)
      → ((site : ℕ) → callee laid path site < length laid.paths)
      → ((path : ℕ) → path < length laid.paths → (b : Building) → Fine b
      → BodyPlaced (is_value_type (result_type laid (function_at laid path))) (meaning path) b (body path b))
      → CallsPlaced laid (call_has_value laid path) (sites_of laid body path) (here_with laid meaning path).call
  calls_placed path body meaning inside placed site ts p b f =
      let to = callee laid path site in
      let st = stores_placed to 0 ts p b f in
      let b1 = stores_piece laid to 0 ts p b in
      let l = placed to (inside site) b1 st.follows.fine in
      record {
        follows = follows_then st.follows l.follows;
        runs = λ g q vs m answers k i ok.
            st.runs g (ext_then (follows_ext st.follows.fine l.follows) q) vs m answers (meaning to k) i (λ m1 rest kp1.
            l.runs g q m1 rest k (λ v m2 rest' kp2 h. ok v m2 rest'
            (kept_then st.follows.nodes st.follows.temps kp1 kp2) h));
        dead = λ g q u j nt ok. st.dead g (ext_then (follows_ext st.follows.fine l.follows) q) u j nt
            (l.dead g q u j ok);
      }

  -- a body of a call path
  body_placed : IsLowerable laid → (depth path : ℕ) → path < length laid.paths → (b : Building) → Fine b
      → BodyPlaced (is_value_type (result_type laid (function_at laid path))) (body_then laid depth path) b
      (path_piece function_end laid depth path b)
  body_placed lowerable zero path l b f = nothing_placed _ b f
  body_placed lowerable (suc depth) path l b f =
      function_placed path (path_piece function_end laid depth) (body_then laid depth)
      (calls_placed path (path_piece function_end laid depth) (body_then laid depth) (lowerable.inside path)
      (body_placed lowerable depth))
      function_end function_end_placed (result_type laid (function_at laid path)) (function_at laid path).body
      (lowerable.bodies path l) b f

  path_placed : IsLowerable laid → (close : List ℕ → Building → Building) → Closes close → (depth path : ℕ)
      → path < length laid.paths → (b : Building) → Fine b
      → BodyPlaced (is_value_type (result_type laid (function_at laid path))) (body_then laid depth path) b
      (path_piece close laid depth path b)
  path_placed lowerable close closes zero path l b f = nothing_placed _ b f
  path_placed lowerable close closes (suc depth) path l b f =
      function_placed path (path_piece function_end laid depth) (body_then laid depth)
      (calls_placed path (path_piece function_end laid depth) (body_then laid depth) (lowerable.inside path)
      (body_placed lowerable depth))
      close closes (result_type laid (function_at laid path)) (function_at laid path).body (lowerable.bodies path l) b f

  entry_fine : Fine entry
  entry_fine = record { empty = λ n l. refl; present = refl; inside = omega arith }

  closes_by : (b : Bool) → Closes (if b then task_end else function_end)
  closes_by true = continued_placed
  closes_by false = function_end_placed

  -- what is built for a body
  abbrev built_placed : IsLowerable laid → (body : ℕ)
      → BodyPlaced (is_value_type (result_type laid (function_at laid (first_path laid body))))
      (body_then laid (length laid.file.functions) (first_path laid body)) entry
      (path_piece (if nat_lt body (length laid.file.tasks) then task_end else function_end) laid
      (length laid.file.functions) (first_path laid body) entry)
  built_placed lowerable body =
      path_placed lowerable (if nat_lt body (length laid.file.tasks) then task_end else function_end)
      (closes_by (nat_lt body (length laid.file.tasks)))
      (length laid.file.functions) (first_path laid body) (lowerable.first body) entry entry_fine

  -- the graph of a body runs as the interpreter says
  pub graph_is_next : IsLowerable laid → (body : ℕ) (answers : List Answer) → GraphNext laid
      (graph_of laid body) answers (next laid body answers)
  unfolding next
  graph_is_next lowerable body answers =
      let l = built_placed lowerable body in
      let g = graph_of laid body in
      l.runs g (record { same = λ n e es z. z }) at_entry answers (λ v. last Acts.Ended) (λ v m rest kp h.
      subst (λ z. Runs laid g (built laid body).node m rest z) (last_same Acts.Ended rest)
      (halts (ap (λ es. move_along laid es m) l.follows.fine.present)))

  -- and is plain
  pub graph_is_plain : IsLowerable laid → (body : ℕ) → IsPlain (graph_of laid body)
  graph_is_plain lowerable body = (built_placed lowerable body).follows.plain (λ n. tt)

  -- and no temporary is live at its entry
  pub nothing_live : IsLowerable laid → (body t : ℕ) → IsLive (graph_of laid body) t 0 → ⊥
  nothing_live lowerable body t =
      let l = built_placed lowerable body in
      let g = graph_of laid body in
      dead_not_live g t 0 (λ k. l.dead g (record { same = λ n e es z. z }) t k
      (λ ne. end_dead g t k (built laid body).node l.follows.fine.present))
