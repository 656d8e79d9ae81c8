-- What statements have in common: the temporary of a value that is given back, nodes that wait, loop ends, and turns of
-- a loop.
use Rattle.std.proofs.Common.{◌≡◌, ◌≢◌, ◌⊎◌, inl, inr, ℕ, zero, suc, ◌<◌, ◌≤◌, Bool, true, false, List, [], ◌∷◌, ◌++◌}
use Rattle.std.proofs.Common.{length, refl, sym, ◌∙◌, ap, subst, arith}
use Rattle.std.specs.Prelude.{if◌then◌else◌, nat_lt, Option, Some, None}
use Rattle.std.proofs.lemmas.Bool.{ltb-true, ltb-false, cases_eq}
use Rattle.concrete_steps.specs.tm_laid.Layouts.{LaidTree}
use Rattle.concrete_steps.specs.concrete_values.declared.values.Answer.{Answer}
use Rattle.concrete_steps.specs.concrete_values.declared.actions.Next.TheVariants.{Spins}
use Rattle.concrete_steps.specs.NextAction.{After, last, loop_then}
use Rattle.flow_graph.specs.declared.operations.Operation.{Operation}
use Rattle.flow_graph.specs.declared.operations.Operation.TheVariants as Op
use Rattle.flow_graph.specs.Graphs.{Edges, leaving, IsSure, IsFork}
use Rattle.flow_graph.specs.Runs.{Memory, arrive, Runs}
use Rattle.lowering.specs.Built.{Building, edge, skips, nowhere, close_loop, Way, ByBreak, ByContinue, ByReturn}
use Rattle.lowering.specs.Built.{is_break, is_continue, is_return, is_no_break, Pending, still_by, Onward, ToHead}
use Rattle.lowering.specs.Built.{Later, continued_at, result_of, place_result}
use Rattle.lowering.proofs.Edges.{Joins, Returns, Ext, Fine, Follows, place_follows, leaving_past, leaving_here}
use Rattle.lowering.proofs.Pendings.{skips_fork, EachNode, EachWay, NotIn, NoDup, nodes_map, nodes_zip, nodes_append}
use Rattle.lowering.proofs.Pendings.{nodes_split, nodup_end, skips_past, skips_at, Loose, OpenAt, present_loose}
use Rattle.lowering.proofs.Pendings.{closed_follows, closed_ext, closed_at, open_closed, meet_placed}
use Rattle.lowering.proofs.Moves.{put_same, Kept, comes_round, comes_again}
use Rattle.lowering.proofs.Expressions.{place_only, one_follows}

pub way_map : (f : Way → Bool) (P Q : ℕ → Type 0) (ps : List Pending) → ((n : ℕ) → P n → Q n) → EachWay f P ps
    → EachWay f Q ps
way_map f P Q [] h k = tt
way_map f P Q (q ∷ ps) h k = ((λ e. h q.node (k.0 e)), way_map f P Q ps h k.1)

-- ## Results and ways on

abbrev pub OnwardOk : Onward → Building → Type 0
OnwardOk (ToHead h) b = h ≤ b.node
OnwardOk Later b = Unit {0}

abbrev pub IsHead : Onward → Type 0
IsHead (ToHead h) = Unit {0}
IsHead Later = ⊥

abbrev pub OnHead : Onward → (ℕ → Type 0) → Type 0
OnHead (ToHead h) P = P h
OnHead Later P = Unit {0}

pub head_map : (onward : Onward) (P Q : ℕ → Type 0) → ((h : ℕ) → P h → Q h) → OnHead onward P → OnHead onward Q
head_map (ToHead h) P Q f k = f h k
head_map Later P Q f k = tt

pub onward_later : (onward : Onward) (b b' : Building) → OnwardOk onward b → b.node ≤ b'.node → OnwardOk onward b'
onward_later (ToHead h) b b' o l = omega arith
onward_later Later b b' o l = tt

-- the temporary of a call's value, if there is one yet
abbrev pub IsResult : Option ℕ → ℕ → Type 0
IsResult None r = Unit {0}
IsResult (Some q) r = q ≡ r

abbrev pub ResultIn : ℕ → Option ℕ → Building → Type 0
ResultIn base None b = Unit {0}
ResultIn base (Some r) b = (base ≤ r) × (r < b.temps)

pub result_later : (base : ℕ) (res : Option ℕ) (b b' : Building) → b.temps ≤ b'.temps → ResultIn base res b
    → ResultIn base res b'
result_later base None b b' l h = tt
result_later base (Some r) b b' l h = (h.0, omega (arith, h.1))

-- an operation that gives it
pub record ResultPlaced (res : Option ℕ) (op : ℕ → Operation) (b b' : Building) : Type 0 where
  pub follows : Follows b b'
  pub stays : (r : ℕ) → result_of res b ≡ r → IsResult res r
  pub found : (base : ℕ) → base ≤ b.temps → ResultIn base res b → (base ≤ result_of res b)
      × (result_of res b < b'.temps)
  pub new : b'.node ≡ b.nodes
  pub only : (g : Edges) → Ext b'.edges g → leaving g b.node ≡ edge b.node b'.node (op (result_of res b)) ∷ []

pub result_placed : (res : Option ℕ) (op : ℕ → Operation) → ((t : ℕ) → IsSure (op t)) → (b : Building) → Fine b
    → ResultPlaced res op b (place_result res op b)
result_placed None op sure b f = record {
  follows = place_follows (suc b.temps) (op b.temps) (sure b.temps) b f (omega arith);
  stays = λ r e. tt;
  found = λ base l h. (l, omega arith);
  new = refl;
  only = λ g k. place_only (suc b.temps) (op b.temps) b g f k;
}
result_placed (Some q) op sure b f = record {
  follows = one_follows (op q) (sure q) b f;
  stays = λ r e. e;
  found = λ base l h. h;
  new = refl;
  only = λ g k. place_only b.temps (op q) b g f k;
}

pub not_both : (w : Way) → is_break w ≡ true → is_return w ≡ true → ⊥
not_both ByBreak a b = cc
not_both ByContinue a b = cc
not_both ByReturn a b = cc

pub no_break_not_break : (w : Way) → is_break w ≡ true → is_no_break w ≡ true → ⊥
no_break_not_break ByBreak a b = cc
no_break_not_break ByContinue a b = cc
no_break_not_break ByReturn a b = cc

pub breaks_not_continues : (w : Way) → is_continue w ≡ true → is_break w ≡ true → ⊥
breaks_not_continues ByBreak a b = cc
breaks_not_continues ByContinue a b = cc
breaks_not_continues ByReturn a b = cc

pub returns_not_continues : (w : Way) → is_continue w ≡ true → is_return w ≡ true → ⊥
returns_not_continues ByBreak a b = cc
returns_not_continues ByContinue a b = cc
returns_not_continues ByReturn a b = cc

no_break_case : (P : ℕ → Type 0) (q : Pending) (ps : List Pending) (t : Bool) → is_return q.way ≡ t
    → EachWay is_break P ps → EachWay is_break P (if t then q ∷ ps else ps)
no_break_case P q ps true e h = ((λ e'. absurd (not_both q.way e' e)), h)
no_break_case P q ps false e h = h

-- of the returns none is a break
pub no_break_returns : (P : ℕ → Type 0) (ps : List Pending) → EachWay is_break P (still_by is_return ps)
no_break_returns P [] = tt
no_break_returns P (q ∷ ps) = no_break_case P q (still_by is_return ps) (is_return q.way) refl (no_break_returns P ps)

-- what holds of those that are left holds of those that were there, where all of this way are left
way_through_case : (f f' : Way → Bool) → ((w : Way) → f w ≡ true → f' w ≡ true) → (P : ℕ → Type 0) (q : Pending)
    (still ps : List Pending) → (EachWay f P still → EachWay f P ps)
    → (t : Bool) → f' q.way ≡ t → EachWay f P (if t then q ∷ still else still) → (f q.way ≡ true → P q.node)
    × EachWay f P ps
way_through_case f f' left P q still ps more true e k = (k.0, more k.1)
way_through_case f f' left P q still ps more false e k =
    ((λ i. absurd (let j : true ≡ false = sym (left q.way i) ∙ e in cc)), more k)

pub way_through : (f f' : Way → Bool) → ((w : Way) → f w ≡ true → f' w ≡ true) → (P : ℕ → Type 0) (ps : List Pending)
    → EachWay f P (still_by f' ps) → EachWay f P ps
way_through f f' left P [] h = tt
way_through f f' left P (q ∷ ps) h = way_through_case f f' left P q (still_by f' ps) ps (way_through f f' left P ps)
    (f' q.way) refl h

way_kept_case : (f : Way → Bool) (P : ℕ → Type 0) (q : Pending) (ps : List Pending) (t : Bool)
    → (f q.way ≡ true → P q.node) → EachWay f P ps → EachWay f P (if t then q ∷ ps else ps)
way_kept_case f P q ps true h k = (h, k)
way_kept_case f P q ps false h k = k

pub way_kept : (f f' : Way → Bool) (P : ℕ → Type 0) (ps : List Pending) → EachWay f P ps → EachWay f P (still_by f' ps)
way_kept f f' P [] h = tt
way_kept f f' P (q ∷ ps) h = way_kept_case f P q (still_by f' ps) (f' q.way) h.0 (way_kept f f' P ps h.1)

pub continue_no_break : (w : Way) → is_continue w ≡ true → is_no_break w ≡ true
continue_no_break ByBreak e = absurd (cc)
continue_no_break ByContinue e = refl
continue_no_break ByReturn e = refl

pub return_no_break : (w : Way) → is_return w ≡ true → is_no_break w ≡ true
return_no_break ByBreak e = absurd (cc)
return_no_break ByContinue e = refl
return_no_break ByReturn e = refl

no_break_kept_case : (P : ℕ → Type 0) (q : Pending) (ps : List Pending) (t : Bool) → is_no_break q.way ≡ t
    → EachWay is_break P ps → EachWay is_break P (if t then q ∷ ps else ps)
no_break_kept_case P q ps true e h = ((λ e'. absurd (no_break_not_break q.way e' e)), h)
no_break_kept_case P q ps false e h = h

pub no_break_kept : (P : ℕ → Type 0) (ps : List Pending) → EachWay is_break P (still_by is_no_break ps)
no_break_kept P [] = tt
no_break_kept P (q ∷ ps) = no_break_kept_case P q (still_by is_no_break ps) (is_no_break q.way) refl
    (no_break_kept P ps)

-- ## Nodes of steps and conditions, new nodes, loop ends

-- where a continue goes to a step or a condition
pub record ContinuedPlaced (b0 b c : Building) (cs : List ℕ) : Type 0 where
  pub follows : Follows b0 c
  pub ext : Ext b.edges c.edges
  pub nodes : b.nodes ≤ c.nodes
  pub temps : c.temps ≡ b.temps
  pub kept : (p : ℕ) → OpenAt b0 b p → NotIn p cs → OpenAt b0 c p
  pub comes : (g : Edges) → Ext c.edges g → (b.node ≡ c.node) ⊎ (Joins g b.node c.node × (b0.nodes ≤ c.node))
  pub continues : (g : Edges) → Ext c.edges g → EachNode (λ p. Joins g p c.node × (b0.nodes ≤ c.node)) cs

pub continued_placed : (b0 b : Building) → Follows b0 b → (cs : List ℕ) → EachNode (OpenAt b0 b) cs → NoDup cs
    → ContinuedPlaced b0 b (continued_at cs b) cs
continued_placed b0 b h [] w once = record {
  follows = h;
  ext = record { same = λ n e es x. x };
  nodes = omega arith;
  temps = refl;
  kept = λ p o k. o;
  comes = λ g k. inl refl;
  continues = λ g k. tt;
}
continued_placed b0 b h (c ∷ cs) w once =
    let ns : List ℕ = (c ∷ cs) ++ b.node ∷ [] in
    let loose : EachNode (Loose b0 b) ns = nodes_append (Loose b0 b) (c ∷ cs) (b.node ∷ [])
    (nodes_map (OpenAt b0 b) (Loose b0 b) (c ∷ cs) (λ n o. o.loose) w) (present_loose h, tt) in
    let once1 : NoDup ns = nodup_end (c ∷ cs) b.node once
    (nodes_map (OpenAt b0 b) (λ n. n ≢ b.node) (c ∷ cs) (λ n o. o.apart) w) in
    let mt = meet_placed b0 b h ns loose once1 in
    record {
      follows = mt.follows;
      ext = mt.ext;
      nodes = omega arith;
      temps = refl;
      kept = λ p o k. mt.open_still p o
          (nodes_append (λ m. m ≢ p) (c ∷ cs) (b.node ∷ []) k ((λ e. o.apart (sym e)), tt));
      comes = λ g k. inr ((nodes_split (λ p. Joins g p b.nodes) (c ∷ cs) (b.node ∷ []) (mt.joins g k)).1.0, h.nodes);
      continues = λ g k. nodes_map (λ p. Joins g p b.nodes) (λ p. Joins g p b.nodes × (b0.nodes ≤ b.nodes)) (c ∷ cs)
          (λ p j. (j, h.nodes))
          (nodes_split (λ p. Joins g p b.nodes) (c ∷ cs) (b.node ∷ []) (mt.joins g k)).0;
    }

pub one_skip : (m h n : ℕ) → (m ≡ n) ⊎ (m ≡ n → ⊥) → IsFork (leaving (edge m h Op.Skip ∷ []) n)
one_skip m h n (inl e) = subst (λ z. IsFork (leaving (edge m h Op.Skip ∷ []) z)) e
    (subst IsFork (sym (leaving_here m h Op.Skip [])) tt)
one_skip m h n (inr d) = subst IsFork (sym (leaving_past m h Op.Skip [] n d)) tt

pub nowhere_follows : (b : Building) → Fine b → Follows b (nowhere b)
nowhere_follows b f = record {
  nodes = omega arith;
  temps = omega arith;
  same = λ n l ne. refl;
  away = λ n l ne e. absurd (omega arith);
  start = f.inside;
  low = omega (arith, f.inside);
  fine = record {
    empty = λ n l. f.empty n (omega arith);
    present = f.empty b.nodes (omega arith);
    inside =
        omega arith;
  };
  plain = λ k. k;
}

pub nowhere_open : (b0 b : Building) → Follows b0 b → OpenAt b0 (nowhere b) b.node
nowhere_open b0 b h = record {
  loose = record { away = h.away; inside = omega (arith, h.fine.inside); none = h.fine.present };
  apart = λ e. absurd (omega (arith, h.fine.inside, e));
}

-- the end of a loop: the way back from the present node, and the exit
pub record ClosePlaced (b0 b : Building) (head : ℕ) (outs : List ℕ) : Type 0 where
  pub follows : Follows b0 (close_loop head outs b)
  pub ext : Ext b.edges (close_loop head outs b).edges
  pub open_still : (p : ℕ) → OpenAt b0 b p → NotIn p outs → OpenAt b0 (close_loop head outs b) p
  pub back : (g : Edges) → Ext (close_loop head outs b).edges g → head ≤ b.node → Returns g b.node head
  pub joins : (g : Edges) → Ext (close_loop head outs b).edges g → EachNode (λ p. Joins g p b.nodes) outs

pub close_placed : (b0 b : Building) → Follows b0 b → (head : ℕ) (outs : List ℕ) → EachNode (OpenAt b0 b) outs
    → NoDup outs → ClosePlaced b0 b head outs
close_placed b0 b h head outs wait once =
    let extra : Edges = edge b.node head Op.Skip ∷ skips outs b.nodes in
    let loose : EachNode (Loose b0 b) (b.node ∷ outs) =
    (present_loose h, nodes_map (OpenAt b0 b) (Loose b0 b) outs (λ n o. o.loose) wait) in
    let past : (n : ℕ) → NotIn n (b.node ∷ outs) → leaving extra n ≡ [] = λ n k. leaving_past b.node head Op.Skip
    (skips outs b.nodes) n k.0 ∙ skips_past outs b.nodes n k.1 in
    let at_present : leaving extra b.node ≡ edge b.node head Op.Skip ∷ [] =
    leaving_here b.node head Op.Skip (skips outs b.nodes)
    ∙ ap (λ z. edge b.node head Op.Skip ∷ z)
    (skips_past outs b.nodes b.node (nodes_map (OpenAt b0 b) (λ n. n ≢ b.node) outs (λ n o. o.apart) wait)) in
    record {
      follows = closed_follows b0 b h (b.node ∷ outs) loose extra past
          (λ n. loop_fork at_present n (cases_eq b.node n));
      ext = closed_ext b0 b h (b.node ∷ outs) loose extra past;
      open_still = λ p o k. open_closed b0 b h (b.node ∷ outs) loose extra past p o ((λ e. o.apart (sym e)), k);
      back = λ g k l. record {
        only = closed_at b0 b h (b.node ∷ outs) loose extra past b.node
            (present_loose h) g k _ _ at_present;
        back = l;
      };
      joins = λ g k. nodes_zip (OpenAt b0 b) (λ p. leaving (skips outs b.nodes) p ≡ edge p b.nodes Op.Skip ∷ [])
          (λ p. Joins g p b.nodes) outs
          (λ p o e. record {
            only = closed_at b0 b h (b.node ∷ outs) loose extra past p o.loose g k _ _
                (leaving_past b.node head Op.Skip (skips outs b.nodes) p (λ i. o.apart (sym i)) ∙ e);
            forward = o.loose.inside;
          }) wait (skips_at outs b.nodes once);
    }
  where
    loop_fork : leaving (edge b.node head Op.Skip ∷ skips outs b.nodes) b.node ≡ edge b.node head Op.Skip ∷ [] → (n : ℕ)
        → (b.node ≡ n) ⊎ (b.node ≡ n → ⊥)
        → IsFork (leaving (edge b.node head Op.Skip ∷ skips outs b.nodes) n)
    loop_fork at_present n (inl e) = subst (λ z. IsFork (leaving (edge b.node head Op.Skip ∷ skips outs b.nodes) z)) e
        (subst IsFork (sym at_present) tt)
    loop_fork at_present n (inr d) = subst IsFork (sym (leaving_past b.node head Op.Skip (skips outs b.nodes) n d))
        (skips_fork outs b.nodes once n)

-- ## Turns of a loop

-- each turn that comes back with answers used goes on, and the one that comes back without spins
module _ (laid : LaidTree) (g : Edges) (turn : After → After) (head nodes b : ℕ) (Good : Memory → List Answer → Type 0)
    (inside_head : head < nodes)
    (again : (m m' : Memory) (answers rest : List Answer) → Good m answers → Kept nodes b m m' answers rest
    → Good (arrive head m'.used m'.temps m') rest)
    (turn_run : (m : Memory) (answers : List Answer) (back : After) → Good m answers
    → ((node : ℕ) (m' : Memory) (rest : List Answer) → Returns g node head → Kept nodes b m m' answers rest
    → Runs laid g node m' rest (back rest))
    → Runs laid g head m answers (turn back answers)) where
  round_by : (n : ℕ) (node : ℕ) (m m' : Memory) (answers rest : List Answer) → Returns g node head
      → m.seen head ≡ suc m.used
      → Kept nodes b m m' answers rest → (t : Bool) → nat_lt (length rest) (length answers) ≡ t
      → (t ≡ true → Runs laid g head (arrive head m'.used m'.temps m') rest (loop_then turn n rest))
      → Runs laid g node m' rest ((if t then loop_then turn n rest else last Spins rest))
  round_by n node m m' answers rest r e kp true lt more =
      comes_again laid g r
      (λ same. absurd (let f : m'.seen head ≡ m.seen head = kp.seen head inside_head in
      let l : length rest < length answers = ltb-true _ _ lt in omega arith))
      (more refl)
  round_by n node m m' answers rest r e kp false ge more =
      comes_round laid g r (let f : m'.seen head ≡ m.seen head = kp.seen head inside_head in
      let l : length answers ≤ length rest = ltb-false _ _ ge in omega arith)

  pub loop_run : (n : ℕ) (m : Memory) (answers : List Answer) → length answers ≤ n → m.seen head ≡ suc m.used
      → Good m answers
      → Runs laid g head m answers (loop_then turn n answers)
  loop_run zero m answers l e good =
      turn_run m answers (last Spins) good
      (λ node m' rest r kp. comes_round laid g r (let f : m'.seen head ≡ m.seen head = kp.seen head inside_head in
      omega arith))
  loop_run (suc n) m answers l e good =
      turn_run m answers (λ left. if nat_lt (length left) (length answers) then loop_then turn n left
      else last Spins left) good
      (λ node m' rest r kp. round_by n node m m' answers rest r e kp (nat_lt (length rest) (length answers)) refl
      (λ lt. loop_run n (arrive head m'.used m'.temps m') rest
      (let k : length rest < length answers = ltb-true _ _ lt in omega arith) (put_same head (suc m'.used) m'.seen)
      (again m m' answers rest good kp)))

pub nodup_join : (a b : List ℕ) → NoDup a → NoDup b → EachNode (λ p. NotIn p b) a → NoDup (a ++ b)
nodup_join [] b h k w = k
nodup_join (n ∷ a) b h k w = (nodes_append (λ m. m ≢ n) a b h.0 w.0, nodup_join a b h.1 k w.1)

pub none_later : {A B C : Type 0} → A ⊎ C → (A → B) → B ⊎ C
none_later (inl a) f = inl (f a)
none_later (inr c) f = inr c

pub apart_by : (none p : ℕ) → (none ≢ p) ⊎ ⊥ → none ≢ p
apart_by none p (inl d) = d
apart_by none p (inr d) = absurd d
