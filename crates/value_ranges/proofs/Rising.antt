-- Where the least tables of tasks are looked at, they show all numbers that their cells hold.
use Rattle.std.proofs.Common.{◌≡◌, ◌⊎◌, ℕ, zero, suc, ◌<◌, eqb, eq-eqb, eqb-true, Bool, true, false, cond, ◌||◌, refl}
use Rattle.std.proofs.Common.{ap, sym, subst, ◌∙◌, inl, inr, List, [], ◌∷◌, length, map, get_or, Option, Some, None}
use Rattle.std.proofs.Common.{is_some, IfSome, arith}
use Rattle.std.specs.Prelude.{slice_get, unwrap_or}
use Rattle.std.proofs.lemmas.Bool.{true≢false, or_parts, or_right}
use Rattle.std.proofs.lemmas.List.{get_or-map, length-map}
use Rattle.std.proofs.lemmas.Option.{slice_get-get_or, slice_get_within}
use Rattle.tm_lattice.specs.Tables.{IsBelow}
use Rattle.tm_laid.specs.Layouts.{LaidTree}
use Rattle.flow_graph.specs.declared.operations.Operation.{Operation}
use Rattle.flow_graph.specs.declared.operations.Operation.TheVariants as Op
use Rattle.flow_graph.specs.Graphs.{Edges}
use Rattle.mutex_configs.specs.Nodes.{entry_node}
use Rattle.mutex_configs.specs.declared.nodes.ConfiguredNode.{ConfiguredNode}
use Rattle.mutex_configs.specs.declared.nodes.EdgeCopy.{EdgeCopy}
use Rattle.interfere_set.specs.Stores.{Interferences}
use Rattle.interfere_set.specs.laws.StoreLaws.{store_order}
use Rattle.program_reports.specs.transfer_rows.StateForms.{State, own_of}
use Rattle.program_reports.specs.transfer_rows.Rows.{after}
use Rattle.program_reports.specs.edge_actions.Edges.{action_of}
use Rattle.program_reports.specs.table_covers.declared.links.Link.{Link}
use Rattle.program_reports.specs.table_covers.Systems.{IsLawfulSystem, no_link, from_of, to_of}
use Rattle.program_reports.specs.table_covers.Solutions.{NodeTable, IsLeastSolution, IsNodewiseBelow, least_of}
use Rattle.program_reports.specs.table_covers.laws.Iterates as iterates
use Rattle.program_reports.specs.state_fits.laws.PlacesFit.{states_order, states_join}
use Rattle.program_reports.specs.task_equations.Bodies.{Body, no_copy, edge_of}
use Rattle.program_reports.specs.task_equations.Equations.{action_along, around_along, led, after_along}
use Rattle.program_reports.specs.task_equations.Equations.{cells_at, link_of, tests_pointer}
use Rattle.program_reports.specs.program_equations.Programs.{ProgramBodies, body_at, IsProgram}
use Rattle.program_reports.specs.program_equations.Systems.{states, stores, FitsBody, task_entry}
use Rattle.program_reports.specs.program_equations.Systems.{task_system}
use Rattle.program_reports.specs.program_equations.Solutions.{links_in, added_in, IsStoreCovered, IsWholeSolution}
use Rattle.program_reports.specs.program_equations.Solutions.{IsWholeLeast}
use Rattle.program_reports.specs.program_equations.laws.Lawful.{program_is_lawful, in_bodies}
use Rattle.program_reports.specs.program_equations.laws.Fitting.{body_is_lawful}
use Rattle.program_reports.specs.program_equations.laws.TaskEntries.{task_entry_fits}
use Rattle.value_ranges.specs.reading.Notes.{Noted, may_raise, raised_to, is_head, is_noted}
use Rattle.value_ranges.proofs.Keeping.{IsKeptElsewhere, holds_everywhere}
use Rattle.value_ranges.proofs.Raising.{AreWithin, HasFewer, IsQuiet, quiet_fewer, under_fewer, joined_within}

-- ## The least tables of tasks

module _ (p : ProgramBodies) (is : IsProgram p) (section : List (Option State)) (tables : ℕ → NodeTable State)
    (store : Interferences) (whole : IsWholeLeast p section tables store) where
  abbrev least : ℕ → NodeTable State
  least t = least_of states (FitsBody (body_at p t)) (task_system p section store t)

  lawful : (t : ℕ) → t < p.tasks → IsLawfulSystem states.is_value states.leq states.joined (FitsBody (body_at p t))
      (task_system p section store t)
  lawful t lt = body_is_lawful p is t (in_bodies p is t lt) (task_entry p section t) store whole.solves.fits
      (task_entry_fits p is section whole.solves.begins t (in_bodies p is t lt))

  is_least : (t : ℕ) → t < p.tasks
      → IsLeastSolution states (FitsBody (body_at p t)) (task_system p section store t) (least t)
  is_least t lt = iterates.least_is_least states (FitsBody (body_at p t)) (task_system p section store t) states_order
      states_join (lawful t lt)

  module _ (t : ℕ) (lt : t < p.tasks) (e : ℕ) (within : e < length (links_in p t)) where
    abbrev from : ℕ
    from = from_of (links_in p t) e

    fits_at : (s : State) → least t from ≡ Some s → FitsBody (body_at p t) from s
    fits_at s stands = subst (λ a. IfSome a (FitsBody (body_at p t) from)) stands
        ((is_least t lt).solves.fits from ((lawful t lt).from_node e within))

    -- what an edge adds at the least table is at most what it adds at the other one
    added_less : (s : State) → least t from ≡ Some s → (a : Option State) → tables t from ≡ a
        → IfSome a (FitsBody (body_at p t) from) → IsBelow states.leq (Some s) a
        → (let c = whole.solves.covers in stores.leq (added_in p t store e s) c.bound)
    added_less s stands None at fits le = absurd le
    added_less s stands (Some w) at fits le =
        let c = whole.solves.covers in
        let all = program_is_lawful p is in
        let f = whole.solves.fits in
        store_order.transitive (added_in p t store e s) (added_in p t store e w) c.bound
        (all.added_fits t store e s lt f within (fits_at s stands)).form
        (all.added_fits t store e w lt f within fits).form
        c.fits.form
        (all.added_rises t store store e s w lt f f (store_order.reflexive store f.form) within (fits_at s stands) fits
        le)
        (c.holds t lt e w within at)

    added_bounded : (s : State) → least t from ≡ Some s
        → (let c = whole.solves.covers in stores.leq (added_in p t store e s) c.bound)
    added_bounded s stands =
        added_less s stands (tables t from) refl
        ((whole.solves.locals t lt).fits from ((lawful t lt).from_node e within))
        (subst (λ a. IsBelow states.leq a (tables t from)) stands
        ((is_least t lt).below (tables t) (whole.solves.locals t lt) from ((lawful t lt).from_node e within)))

  covered : IsStoreCovered p least store
  covered = let c = whole.solves.covers in record {
    bound = c.bound;
    fits = c.fits;
    holds = λ t lt e s within stands. added_bounded t lt e within s stands;
    rounding = c.rounding;
  }

  solves : IsWholeSolution p section least store
  solves = record {
    begins = whole.solves.begins;
    fits = whole.solves.fits;
    locals = λ t lt. (is_least t lt).solves;
    covers = covered;
  }

  -- the tables of the least solution lie below the least ones over its store
  pub tables_are_low : (t : ℕ) → t < p.tasks
      → IsNodewiseBelow states (FitsBody (body_at p t)) (task_system p section store t) (tables t) (least t)
  tables_are_low t lt = whole.tables_below section least store solves t lt

-- ## Operations

abbrev Quiet : LaidTree → ℕ → Bool → Bool → Operation → Type 0
Quiet laid task pointers answer op = IsQuiet (action_of laid task pointers answer op)

quiet_of : (laid : LaidTree) (task : ℕ) (pointers answer : Bool) (op : Operation) → may_raise op ≡ false
    → Quiet laid task pointers answer op
quiet_of laid task pointers answer Op.Skip is = tt
quiet_of laid task pointers answer (Op.Const to value) is = tt
quiet_of laid task pointers answer (Op.Copy to from) is = tt
quiet_of laid task pointers answer (Op.Un to operator of from place) is = tt
quiet_of laid task pointers answer (Op.Bin to operator of left right place) is = tt
quiet_of laid task pointers answer (Op.BinPointers to equal left right) is = tt
quiet_of laid task pointers answer (Op.Convert to was of from) is = tt
quiet_of laid task pointers answer (Op.Base to object) is = tt
quiet_of laid task pointers answer (Op.Offset to from cells) is = tt
quiet_of laid task pointers answer (Op.Index to from count cells by place) is = tt
quiet_of laid task pointers answer (Op.Move to from cells minus by place) is = tt
quiet_of laid task pointers answer (Op.Deref to from target path place) is = tt
quiet_of laid task pointers answer (Op.Load to address scalar place) is = tt
quiet_of laid task pointers answer (Op.LoadAny to address scalar place) is = tt
quiet_of laid task pointers answer (Op.Store address value scalar into place) is = absurd (true≢false is)
quiet_of laid task pointers answer (Op.Any to low high) is = tt
quiet_of laid task pointers answer (Op.Clear object) is = absurd (true≢false is)
quiet_of laid task pointers answer (Op.Usable pointer place) is = tt
quiet_of laid task pointers answer (Op.Assume test) is = tt
quiet_of laid task pointers answer (Op.Lock mutex place) is = absurd (true≢false is)
quiet_of laid task pointers answer (Op.Unlock mutex place) is = tt
quiet_of laid task pointers answer Op.Yield is = tt
quiet_of laid task pointers answer (Op.Probe to mutex place) is = absurd (true≢false is)

-- ## Nodes that are looked at

abbrev leads_to : Option ℕ → ℕ → Bool
leads_to None n = false
leads_to (Some m) n = eqb m n

-- some copy that may raise what cells hold leads to the node
abbrev pub is_raised : Edges → List EdgeCopy → ℕ → Bool
is_raised edges [] n = false
is_raised edges (c ∷ cs) n = leads_to (raised_to edges c) n || is_raised edges cs n

leads_from : (a : Option ℕ) (n : ℕ) → leads_to a n ≡ true → a ≡ Some n
leads_from None n is = absurd (true≢false (sym is))
leads_from (Some m) n is = ap Some (eqb-true m n is)

same_leads : (n : ℕ) → leads_to (Some n) n ≡ true
same_leads n = eq-eqb n n refl

pub true_cases : (a b : Bool) → (a || b) ≡ true → (a ≡ true) ⊎ (b ≡ true)
true_cases true b is = inl refl
true_cases false b is = inr is

pub raised_from : (edges : Edges) (cs : List EdgeCopy) (n : ℕ) → is_raised edges cs n ≡ true
    → (k : ℕ) × (k < length cs) × (raised_to edges (get_or cs k no_copy) ≡ Some n)
raised_from edges [] n is = absurd (true≢false (sym is))
raised_from edges (c ∷ cs) n is = elim (true_cases (leads_to (raised_to edges c) n) (is_raised edges cs n) is) [
  | inl here ↦ (0, omega arith, leads_from (raised_to edges c) n here)
  | inr more ↦ let r = raised_from edges cs n more in (suc r.0, (let lt = r.1 in omega (arith, lt)), r.2)
]

never_raised : (edges : Edges) (cs : List EdgeCopy) (n : ℕ) → is_raised edges cs n ≡ false → (k : ℕ) → k < length cs
    → raised_to edges (get_or cs k no_copy) ≡ Some n → ⊥
never_raised edges [] n is k lt e = absurd (omega (arith, lt))
never_raised edges (c ∷ cs) n is zero lt e =
    true≢false (sym (subst (λ a. leads_to a n ≡ true) (sym e) (same_leads n))
    ∙ (or_parts (leads_to (raised_to edges c) n) (is_raised edges cs n) is).0)
never_raised edges (c ∷ cs) n is (suc k) lt e =
    never_raised edges cs n (or_parts (leads_to (raised_to edges c) n) (is_raised edges cs n) is).1 k
    (omega (arith, lt)) e

module _ (all : Bool) (b : Body) where
  abbrev pub looks : ℕ → Bool
  looks n = is_noted all b.heads b.written b.nodes n || is_raised b.edges b.copies n

  looks_first : looks 0 ≡ true
  looks_first = ap (λ x. x || is_raised b.edges b.copies 0) (or_right all true refl)

  by_node : (n : ℕ) (a : Option ConfiguredNode) → slice_get b.nodes n ≡ a → is_head b.heads b.written a ≡ false
      → is_some (cells_at b n) ≡ false
  by_node n None at is = absurd (true≢false is)
  by_node n (Some q) at is =
      subst (λ a. is_head b.heads b.written a ≡ false)
      (sym (sym (slice_get-get_or b.nodes n entry_node (slice_get_within b.nodes n q at)) ∙ at)) is

  looks_plain : (n : ℕ) → looks n ≡ false → is_some (cells_at b n) ≡ false
  looks_plain n is =
      let noted = (or_parts (is_noted all b.heads b.written b.nodes n) (is_raised b.edges b.copies n) is).0 in
      by_node n (slice_get b.nodes n) refl
      (or_parts (eqb n 0) (is_head b.heads b.written (slice_get b.nodes n)) (or_parts all _ noted).1).1

  -- a copy that leads to another node raises nothing
  module _ (k : ℕ) (lt : k < length b.copies) where
    abbrev copy : EdgeCopy
    copy = get_or b.copies k no_copy

    raises_nothing : (m : ℕ) → copy.to ≡ Some m → looks m ≡ false → (r : Bool)
        → (let e = edge_of b copy in may_raise e.op ≡ r) → r ≡ false
    raises_nothing m to other false is = refl
    raises_nothing m to other true is =
        absurd (never_raised b.edges b.copies m
        (or_parts (is_noted all b.heads b.written b.nodes m) (is_raised b.edges b.copies m) other).1 k lt
        (ap (λ r. cond r copy.to None) is ∙ to))

    is_quiet : (m : ℕ) → copy.to ≡ Some m → looks m ≡ false → IsQuiet (action_along b copy)
    is_quiet m to other =
        let e = edge_of b copy in
        quiet_of b.laid b.task (tests_pointer b.pointers e.op) copy.answer e.op
        (raises_nothing m to other (may_raise e.op) refl)

    along_fewer : (store : Interferences) (s : State) (o : Option ℕ) → copy.to ≡ o
        → looks (unwrap_or o copy.from) ≡ false
        → IfSome (after_along b store copy s) (λ u. HasFewer u s)
    along_fewer store s None to other =
        subst (λ o. IfSome (led o (after (around_along b copy) (action_along b copy) s store)) (λ u. HasFewer u s))
        (sym to) tt
    along_fewer store s (Some m) to other =
        subst (λ o. IfSome (led o (after (around_along b copy) (action_along b copy) s store)) (λ u. HasFewer u s))
        (sym to) (quiet_fewer (around_along b copy) s store (action_along b copy) (is_quiet m to other))

-- ## Numbers within what is noted

module _ (bounds : ℕ → Noted → Type 0) where
  -- the numbers of each cell lie within its bounds
  abbrev pub IsBounded : State → Type 0
  IsBounded s = (x : ℕ) (b : Noted) → bounds x b → (let v = own_of s x in AreWithin b v.numbers)

  fewer_bounded : (s t : State) → HasFewer s t → IsBounded t → IsBounded s
  fewer_bounded s t le h x b of n has = h x b of n ((le x).within n has)

  fewer_all : (s : State) → IsBounded s → (a : Option State) → IfSome a (λ u. HasFewer u s) → IfSome a IsBounded
  fewer_all s h None fewer = tt
  fewer_all s h (Some u) fewer = fewer_bounded u s fewer h

  module _ (p : ProgramBodies) (is : IsProgram p) (section : List (Option State)) (tables : ℕ → NodeTable State)
      (store : Interferences) (whole : IsWholeLeast p section tables store) (t : ℕ) (lt : t < p.tasks)
      (all : Bool) where
    abbrev body : Body
    body = body_at p t

    to_is : (e : ℕ) → e < length body.copies
        → (let c = get_or body.copies e no_copy in to_of (map link_of body.copies) e ≡ unwrap_or c.to c.from)
    to_is e within = ap (λ (l : Link). l.to) (get_or-map link_of body.copies e no_copy no_link within)

    keeps : IsKeptElsewhere states (FitsBody (body_at p t)) (task_system p section store t) (looks all (body_at p t))
        IsBounded
    keeps = record {
      first = looks_first all body;
      plain = λ n other. looks_plain all body n other;
      falls = λ s u le h. fewer_bounded s u (under_fewer s u le) h;
      joined = λ s u one other x b of. joined_within b s u x (one x b of) (other x b of);
      after = λ e s within other h.
          let lt' = subst (λ n. e < n) (length-map body.copies link_of) within in
          let c = get_or body.copies e no_copy in
          fewer_all s h (after_along body store c s)
          (along_fewer all body e lt' store s c.to refl (subst (λ m. looks all body m ≡ false) (to_is e lt') other));
    }

    -- where what is looked at lies within the bounds, all does
    pub all_bounded : ((n : ℕ) → (let b = body_at p t in n < length b.nodes) → looks all (body_at p t) n ≡ true
        → IfSome (tables t n) IsBounded) → (n : ℕ) → (let b = body_at p t in n < length b.nodes)
        → IfSome (tables t n) IsBounded
    all_bounded seen =
        holds_everywhere states (FitsBody (body_at p t)) (task_system p section store t) (looks all (body_at p t))
        IsBounded states_order states_join (lawful p is section tables store whole t lt) keeps (tables t)
        (whole.solves.locals t lt) (tables_are_low p is section tables store whole t lt) seen
