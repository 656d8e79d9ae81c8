-- What one step of the work list keeps.
use Rattle.std.proofs.Common.{◌≡◌, ◌≢◌, ℕ, zero, suc, ◌+◌, ◌*◌, ◌<◌, ◌≤◌, List, [], ◌∷◌, Option, Some, None, IfSome, Bool, true, false, cond, length, get_or, set, sym, ap, subst, ◌∙◌, inl, inr, arith}
use Rattle.std.proofs.lemmas.Bool.{cases_lt, cases_eq, false≢true}
use Rattle.std.proofs.lemmas.List.{get_or-set_same, get_or-set_other, get_or_default}
use Rattle.std.proofs.lemmas.List.Sums.{sum_by-set, count_by-le-length}
use Rattle.std.proofs.Math.Nat.{mul-le-mul_right}
use Rattle.tm_lattice.specs.declared.lattices.Lattice as lattice
use Rattle.tm_lattice.specs.LatticeLaws.{IsOrder, IsJoin}
use Rattle.tm_lattice.specs.Tables.{IsBelow, joined_value}
use Rattle.table_covers.specs.declared.links.Link.{Link}
use Rattle.table_covers.specs.Systems.{System, IsLawfulSystem, from_of, to_of}
use Rattle.table_covers.specs.Solutions.{NodeTable, at, brought, entry_at, edge_count, along, IsNodewiseBelow, IsEdgeMet, IsStarted, IsClosedTable, room_at}
use Rattle.least_tables.specs.Settling.{IsMetOrPending}
use Rattle.least_tables.specs.reading.WorkLists.{room, IsStep}
use Rattle.table_covers.specs.laws.Closing as closing

module _ {V M : Type 0} (states : lattice.Ghosts V M) (suits : ℕ → V → Type 0) (sys : System V)
    (order : IsOrder states.is_value states.leq) (join : IsJoin states.is_value states.leq states.joined)
    (law : IsLawfulSystem states.is_value states.leq states.joined suits sys) where
  abbrev Below : Option V → Option V → Type 0
  Below x y = IsBelow states.leq x y

  abbrev Fits : ℕ → Option V → Type 0
  Fits n x = IfSome x (suits n)

  abbrev from : ℕ → ℕ
  from e = from_of (sys.links) e

  abbrev to : ℕ → ℕ
  to e = to_of (sys.links) e

  abbrev edges : ℕ
  edges = edge_count states suits sys

  abbrev roomy : ℕ → List (Option V) → ℕ
  roomy n xs = room states suits sys n xs

  abbrev space : ℕ → Option V → ℕ
  space n x = room_at states suits sys n x

  -- the room of a list in which one state changes
  pub room-set : (n : ℕ) (xs : List (Option V)) (i : ℕ) (y d : Option V) → i < length xs → roomy n (set xs i y) + space (n + i) (get_or xs i d) ≡ roomy n xs + space (n + i) y
  room-set n [] i y d lt = absurd (omega arith)
  room-set n (x ∷ xs) zero y d lt = let e : n + 0 ≡ n = omega arith in rw e (omega arith)
  room-set n (x ∷ xs) (suc i) y d lt =
      let rest = room-set (suc n) xs i y d (omega arith) in
      let e : n + suc i ≡ suc n + i = omega arith in
      rw e (omega arith)

  -- a pending edge is met, and is pending no longer
  pub cleared : (table : List (Option V)) (pending : List Bool) (e : ℕ) → length pending ≡ edges → e < edges → get_or pending e true ≡ true
      → IsStarted states suits sys (at table) → IsMetOrPending states suits sys (at table) pending → IsEdgeMet states suits sys (at table) e
      → IsStep states suits sys table pending table (set pending e false)
  cleared table pending e len lt is started met here = record {
    started = started;
    met = λ k within quiet. elim (cases_eq k e) [
      | inl same ↦ subst (IsEdgeMet states suits sys (at table)) (sym same) here
      | inr differ ↦ met k within (sym (get_or-set_other pending e k false true differ) ∙ quiet)
    ];
    least = λ other closed below. below;
    smaller =
        let one : Bool → ℕ = λ b. cond b 1 0 in
        let sums = sum_by-set one pending e false true (omega arith) in
        let was : one (get_or pending e true) ≡ 1 = ap one is in
        omega arith;
  }

  -- a state that is joined in where it is not below what stands there
  module _ (table : List (Option V)) (n : ℕ) (v : V) (nodes : length table ≡ sys.node_count) (lt : n < sys.node_count)
      (started : IsStarted states suits sys (at table)) (v-fits : suits n v) (over : Below (Some v) (get_or table n None) → ⊥) where
    abbrev old : Option V
    old = get_or table n None

    abbrev old-fits : Fits n old
    old-fits = started.fits n lt

    joined_fits : (x : Option V) → Fits n x → suits n (joined_value states.joined x v)
    joined_fits None x-fits = v-fits
    joined_fits (Some u) x-fits = law.joined_fits n u v x-fits v-fits

    joined_left : (x : Option V) → Fits n x → Below x (Some (joined_value states.joined x v))
    joined_left None x-fits = tt
    joined_left (Some u) x-fits = join.left u v (law.value n u x-fits) (law.value n v v-fits)

    joined_right : (x : Option V) → Fits n x → states.leq v (joined_value states.joined x v)
    joined_right None x-fits = order.reflexive v (law.value n v v-fits)
    joined_right (Some u) x-fits = join.right u v (law.value n u x-fits) (law.value n v v-fits)

    joined_least : (x y : Option V) → Fits n x → Fits n y → Below x y → Below (Some v) y → Below (Some (joined_value states.joined x v)) y
    joined_least x None x-fits y-fits le le' = absurd le'
    joined_least None (Some w) x-fits y-fits le le' = le'
    joined_least (Some u) (Some w) x-fits y-fits le le' = join.least u v w (law.value n u x-fits) (law.value n v v-fits) (law.value n w y-fits) le le'

    abbrev both : V
    both = joined_value states.joined old v

    abbrev new : V
    new = sys.outward n both

    both-fits : suits n both
    both-fits = joined_fits old old-fits

    new-fits : suits n new
    new-fits = law.outward_fits n both both-fits

    both-new : states.leq both new
    both-new = law.extensive n both both-fits

    transitive : (m : ℕ) (x y z : Option V) → Fits m x → Fits m y → Fits m z → Below x y → Below y z → Below x z
    transitive m x y z = closing.transitive states suits sys order join law m x y z

    old-new : Below old (Some new)
    old-new = transitive n old (Some both) (Some new) old-fits both-fits new-fits (joined_left old old-fits) both-new

    v-new : states.leq v new
    v-new = order.transitive v both new (law.value n v v-fits) (law.value n both both-fits) (law.value n new new-fits) (joined_right old old-fits) both-new

    abbrev pub after : List (Option V)
    after = set table n (Some new)

    at_new : at after n ≡ Some new
    at_new = get_or-set_same table n (Some new) None (omega arith)

    pub at_other : (m : ℕ) → m ≢ n → at after m ≡ at table m
    at_other m differ = get_or-set_other table n m (Some new) None differ

    -- a property of what stands at each node
    each : (P : ℕ → Option V → Type 0) → P n (Some new) → ((m : ℕ) → m < sys.node_count → P m (at table m)) → (m : ℕ) → m < sys.node_count → P m (at after m)
    each P here there m m-lt = elim (cases_eq m n) [
      | inl same ↦ subst (λ k. P k (at after k)) (sym same) (subst (P n) (sym at_new) here)
      | inr differ ↦ subst (P m) (sym (at_other m differ)) (there m m-lt)
    ]

    pub after_started : IsStarted states suits sys (at after)
    after_started = record {
      fits = each Fits new-fits started.fits;
      round = each (λ m x. IfSome x (λ w. sys.outward m w ≡ w)) (law.idempotent n both both-fits) started.round;
      entry = each (λ m x. Below (entry_at (sys.entry) m) x)
          (transitive n (entry_at (sys.entry) n) old (Some new) (closing.entry_fits states suits sys order join law n) old-fits new-fits (started.entry n lt) old-new)
          started.entry;
    }

    -- what stood at a node lies below what stands there now
    pub grows : IsNodewiseBelow states suits sys (at table) (at after)
    grows m m-lt = each (λ k x. Below (at table k) x) old-new (λ k k-lt. closing.reflexive states suits sys order join law k (at table k) (started.fits k k-lt)) m m-lt

    pub below_closed : (other : NodeTable V) → IsClosedTable states suits sys other → IsNodewiseBelow states suits sys (at table) other → Below (Some v) (other n) → IsNodewiseBelow states suits sys (at after) other
    below_closed other closed below le m m-lt =
        let other-fits = closed.started.fits n lt in
        let inside : Below (Some both) (other n) = joined_least old (other n) old-fits other-fits (below n lt) le in
        let outer : Below (Some new) (closing.outward states suits sys order join law n (other n)) = closing.rising states suits sys order join law n (Some both) (other n) both-fits other-fits inside in
        let here : Below (Some new) (other n) = subst (Below (Some new)) (closing.outward_round states suits sys order join law n (other n) (closed.started.round n lt)) outer in
        each (λ k x. Below x (other k)) here below m m-lt

    -- the room falls
    falls_at : (x : Option V) → Fits n x → Below x (Some new) → (Below (Some v) x → ⊥) → space n (Some new) < space n x
    falls_at None x-fits le differ = omega (arith, law.within n new new-fits)
    falls_at (Some u) x-fits le differ =
        let u-is = law.value n u x-fits in
        let new-is = law.value n new new-fits in
        let bound = law.within n new new-fits in
        let climb = law.climbs u new u-is new-is le in
        elim (cases_lt (sys.height u) (sys.height new)) [
          | inl higher ↦ omega arith
          | inr flat ↦ absurd (differ (subst (λ w. states.leq v w) (sym (law.strictly u new u-is new-is le flat)) v-new))
        ]

    pub falls : roomy 0 after < roomy 0 table
    falls =
        let sums = room-set 0 table n (Some new) None (omega arith) in
        let here = falls_at old old-fits old-new over in
        let e : 0 + n ≡ n = omega arith in
        let sums' : roomy 0 after + space n old ≡ roomy 0 table + space n (Some new) = rw e at sums in
        omega arith

  -- products: one less of the room outweighs all pending edges
  outweighs : (r r' e p p' : ℕ) → r' < r → p' ≤ e → r' * (e + 1) + p' < r * (e + 1) + p
  outweighs r r' e p p' lt le =
      let more = mul-le-mul_right (e + 1) lt in
      let split : suc r' * (e + 1) ≡ r' * (e + 1) + (e + 1) = omega arith in
      omega arith

  -- an edge brings what is not below what stands there: it is joined in, and the edges from there are pending
  pub raised : (table : List (Option V)) (pending pending' : List Bool) (e : ℕ) (v : V) → length table ≡ sys.node_count → length pending ≡ edges → length pending' ≡ edges → e < edges
      → IsStarted states suits sys (at table) → IsMetOrPending states suits sys (at table) pending
      → along states suits sys e (at table) ≡ Some v
      → (over : Below (Some v) (get_or table (to e) None) → ⊥)
      → ((k : ℕ) → k < edges → from k ≡ to e → get_or pending' k true ≡ true)
      → ((k : ℕ) → get_or pending' k true ≡ false → get_or (set pending e false) k true ≡ false)
      → IsStep states suits sys table pending (set table (to e) (Some (sys.outward (to e) (joined_value states.joined (get_or table (to e) None) v)))) pending'
  raised table pending pending' e v nodes len len' lt started met brings over marked others =
      let at_to = law.to_node e lt in
      let at_from = law.from_node e lt in
      let v-fits : suits (to e) v = subst (λ x. Fits (to e) x) brings (closing.brought_fits states suits sys order join law e (at table (from e)) lt (started.fits (from e) at_from)) in
      let table' = after table (to e) v nodes at_to started v-fits over in
      let grown = grows table (to e) v nodes at_to started v-fits over in
      let started' = after_started table (to e) v nodes at_to started v-fits over in
      let here : Below (Some v) (at table' (to e)) =
      subst (Below (Some v)) (sym (at_new table (to e) v nodes at_to started v-fits over)) (v-new table (to e) v nodes at_to started v-fits over) in
      record {
        started = started';
        met = λ k within quiet.
            let apart : from k ≢ to e = λ same. false≢true (sym quiet ∙ marked k within same) in
            let same_from : at table' (from k) ≡ at table (from k) = at_other table (to e) v nodes at_to started v-fits over (from k) apart in
            let k-from = law.from_node k within in
            let k-to = law.to_node k within in
            let k-fits = started.fits (from k) k-from in
            let before : Below (along states suits sys k (at table)) (at table' (to k)) = elim (cases_eq k e) [
              | inl same ↦ subst (λ i. Below (along states suits sys i (at table)) (at table' (to i))) (sym same) (subst (λ x. Below x (at table' (to e))) (sym brings) here)
              | inr differ ↦ transitive table (to e) v nodes at_to started v-fits over (to k) (along states suits sys k (at table)) (at table (to k)) (at table' (to k))
                  (closing.brought_fits states suits sys order join law k (at table (from k)) within k-fits) (started.fits (to k) k-to) (started'.fits (to k) k-to)
                  (met k within (sym (get_or-set_other pending e k false true differ) ∙ others k quiet)) (grown (to k) k-to)
            ] in
            subst (λ x. Below (brought (sys.after k) x) (at table' (to k))) (sym same_from) before;
        least = λ other closed below.
            let from-fits = started.fits (from e) at_from in
            let other-fits = closed.started.fits (from e) at_from in
            let rises = closing.brought_rises states suits sys order join law e (at table (from e)) (other (from e)) lt from-fits other-fits (below (from e) at_from) in
            let reaches : Below (along states suits sys e (at table)) (other (to e)) =
            transitive table (to e) v nodes at_to started v-fits over (to e) (along states suits sys e (at table)) (along states suits sys e other) (other (to e))
            (closing.brought_fits states suits sys order join law e (at table (from e)) lt from-fits) (closing.brought_fits states suits sys order join law e (other (from e)) lt other-fits) (closed.started.fits (to e) at_to)
            rises (closed.edges e lt) in
            below_closed table (to e) v nodes at_to started v-fits over other closed below (subst (λ x. Below x (other (to e))) brings reaches);
        smaller = outweighs _ _ _ _ _ (falls table (to e) v nodes at_to started v-fits over) (let count = count_by-le-length (λ (b : Bool). b) pending' in omega arith);
      }

  -- what the code has read of the node that an edge leaves
  pub known : (links : List Link) (table : List (Option V)) (e : ℕ) (d x : Option V) → links ≡ sys.links → e < edges → length table ≡ sys.node_count
      → get_or table (from_of links e) d ≡ x → at table (from e) ≡ x
  known links table e d x same lt nodes is =
      let at_from = law.from_node e lt in
      get_or_default table (from e) None d (omega arith) ∙ subst (λ ls. get_or table (from_of ls e) d ≡ x) same is

  pub no_state : (links : List Link) (table : List (Option V)) (e : ℕ) (d : Option V) → links ≡ sys.links → e < edges → length table ≡ sys.node_count
      → get_or table (from_of links e) d ≡ None → IsEdgeMet states suits sys (at table) e
  no_state links table e d same lt nodes is =
      subst (λ x. Below x (at table (to e))) (sym (ap (brought (sys.after e)) (known links table e d None same lt nodes is))) tt

  pub along_is : (links : List Link) (table : List (Option V)) (e : ℕ) (d : Option V) (v : V) (a : Option V) → links ≡ sys.links → e < edges → length table ≡ sys.node_count
      → get_or table (from_of links e) d ≡ Some v → a ≡ sys.after e v → along states suits sys e (at table) ≡ a
  along_is links table e d v a same lt nodes is made = ap (brought (sys.after e)) (known links table e d (Some v) same lt nodes is) ∙ sym made

  pub no_after : (table : List (Option V)) (e : ℕ) (a : Option V) → along states suits sys e (at table) ≡ a → a ≡ None → IsEdgeMet states suits sys (at table) e
  no_after table e a is none = subst (λ x. Below x (at table (to e))) (sym (is ∙ none)) tt

  pub nothing_new : (links : List Link) (table : List (Option V)) (e : ℕ) (a : Option V) (v : V) → links ≡ sys.links → along states suits sys e (at table) ≡ a → a ≡ Some v
      → Below (Some v) (get_or table (to_of links e) None) → IsEdgeMet states suits sys (at table) e
  nothing_new links table e a v same is some le =
      subst (λ x. Below x (at table (to e))) (sym (is ∙ some)) (subst (λ ls. Below (Some v) (get_or table (to_of ls e) None)) same le)

  -- as `raised`, for the list of edges that the code has read
  pub raised_along : (links : List Link) (table table' : List (Option V)) (pending pending' : List Bool) (e : ℕ) (a : Option V) (v : V) → links ≡ sys.links → length table ≡ sys.node_count → length pending ≡ edges → length pending' ≡ edges → e < edges
      → IsStarted states suits sys (at table) → IsMetOrPending states suits sys (at table) pending
      → along states suits sys e (at table) ≡ a → a ≡ Some v
      → (Below (Some v) (get_or table (to_of links e) None) → ⊥)
      → table' ≡ set table (to_of links e) (Some (sys.outward (to_of links e) (joined_value states.joined (get_or table (to_of links e) None) v)))
      → ((k : ℕ) → k < length links → from_of links k ≡ to_of links e → get_or pending' k true ≡ true)
      → ((k : ℕ) → get_or pending' k true ≡ false → get_or (set pending e false) k true ≡ false)
      → IsStep states suits sys table pending table' pending'
  raised_along links table table' pending pending' e a v same nodes len len' lt started met is some over written marked others =
      let over' = subst (λ ls. Below (Some v) (get_or table (to_of ls e) None) → ⊥) same over in
      let marked' = subst (λ ls. (k : ℕ) → k < length ls → from_of ls k ≡ to_of ls e → get_or pending' k true ≡ true) same marked in
      let written' = subst (λ ls. table' ≡ set table (to_of ls e) (Some (sys.outward (to_of ls e) (joined_value states.joined (get_or table (to_of ls e) None) v)))) same written in
      subst (λ t. IsStep states suits sys table pending t pending') (sym written') (raised table pending pending' e v nodes len len' lt started met (is ∙ some) over' marked' others)
