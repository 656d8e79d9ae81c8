-- The least table as an iterate.
use Rattle.std.proofs.Common.{◌≡◌, ◌≢◌, ℕ, zero, suc, ◌+◌, ◌<◌, ◌≤◌, ◌==◌, Bool, true, false, Option, Some}
use Rattle.std.proofs.Common.{None, IfSome, sym, ap, subst, ◌∙◌, inl, inr, refl, arith, eq-eqb, eqb-true}
use Rattle.std.proofs.Common.{add-suc, add-zero}
use Rattle.std.proofs.lemmas.Bool.{cases_lt, false≢true}
use Rattle.std.specs.Option.{option_map}
use Rattle.tm_lattice.specs.declared.lattices.Lattice as lattice
use Rattle.tm_lattice.specs.LatticeLaws.{IsOrder, IsJoin}
use Rattle.tm_lattice.specs.Tables.{IsBelow, joined_at}
use Rattle.table_covers.specs.Systems.{System, IsLawfulSystem, from_of, to_of}
use Rattle.table_covers.specs.Solutions.{NodeTable, entry_at, edge_count, along, AreFitting, IsNodewiseBelow}
use Rattle.table_covers.specs.Solutions.{IsCovered, IsSolution, IsLeastSolution, room_at, with_edge}
use Rattle.table_covers.specs.Solutions.{gathered, all_applied, iterate, room_below, least_of}
use Rattle.table_covers.specs.laws.Closing as closing

module _ {V M : Type 0} (states : lattice.Ghosts V M) (suits : ℕ → V → Type 0) (sys : System V)
    (order : IsOrder states.is_value states.leq) (join : IsJoin states.is_value states.leq states.joined)
    (law : IsLawfulSystem states.is_value states.leq states.joined suits sys) where
  abbrev Below : Option V → Option V → Type 0
  Below x y = IsBelow states.leq x y

  abbrev Fits : ℕ → Option V → Type 0
  Fits n x = IfSome x (suits n)

  abbrev from : ℕ → ℕ
  from e = from_of (sys.links) e

  abbrev to : ℕ → ℕ
  to e = to_of (sys.links) e

  abbrev edges : ℕ
  edges = edge_count states suits sys

  abbrev nodes : ℕ
  nodes = sys.node_count

  abbrev over : ℕ → NodeTable V → Option V
  over e table = along states suits sys e table

  abbrev with : Bool → Option V → Option V → Option V
  with b x y = with_edge states suits sys b x y

  abbrev gather : ℕ → ℕ → NodeTable V → Option V
  gather k n table = gathered states suits sys k n table

  abbrev IsFit : NodeTable V → Type 0
  IsFit table = AreFitting states suits sys table

  abbrev IsUnder : NodeTable V → NodeTable V → Type 0
  IsUnder s t = IsNodewiseBelow states suits sys s t

  transitive : (n : ℕ) (x y z : Option V) → Fits n x → Fits n y → Fits n z → Below x y → Below y z → Below x z
  transitive n x y z = closing.transitive states suits sys order join law n x y z

  reflexive : (n : ℕ) (x : Option V) → Fits n x → Below x x
  reflexive n x = closing.reflexive states suits sys order join law n x

  along_fits : (e : ℕ) (table : NodeTable V) → e < edges → IsFit table → Fits (to e) (over e table)
  along_fits e table lt fit = closing.brought_fits states suits sys order join law e (table (from e)) lt
      (fit (from e) (law.from_node e lt))

  along_rises : (e : ℕ) (s t : NodeTable V) → e < edges → IsFit s → IsFit t → IsUnder s t → Below (over e s) (over e t)
  along_rises e s t lt s-fit t-fit le =
      let n-lt = law.from_node e lt in
      closing.brought_rises states suits sys order join law e (s (from e)) (t (from e)) lt (s-fit (from e) n-lt)
      (t-fit (from e) n-lt) (le (from e) n-lt)

  joined_fits : (n : ℕ) (x y : Option V) → Fits n x → Fits n y → Fits n (joined_at states.joined x y)
  joined_fits n None y x-fits y-fits = y-fits
  joined_fits n (Some v) None x-fits y-fits = x-fits
  joined_fits n (Some v) (Some w) x-fits y-fits = law.joined_fits n v w x-fits y-fits

  joined_left : (n : ℕ) (x y : Option V) → Fits n x → Fits n y → Below x (joined_at states.joined x y)
  joined_left n None y x-fits y-fits = tt
  joined_left n (Some v) None x-fits y-fits = reflexive n (Some v) x-fits
  joined_left n (Some v) (Some w) x-fits y-fits = join.left v w (law.value n v x-fits) (law.value n w y-fits)

  joined_right : (n : ℕ) (x y : Option V) → Fits n x → Fits n y → Below y (joined_at states.joined x y)
  joined_right n None y x-fits y-fits = reflexive n y y-fits
  joined_right n (Some v) None x-fits y-fits = tt
  joined_right n (Some v) (Some w) x-fits y-fits = join.right v w (law.value n v x-fits) (law.value n w y-fits)

  joined_least : (n : ℕ) (x y z : Option V) → Fits n x → Fits n y → Fits n z → Below x z → Below y z
      → Below (joined_at states.joined x y) z
  joined_least n None y z x-fits y-fits z-fits le le' = le'
  joined_least n (Some v) None z x-fits y-fits z-fits le le' = le
  joined_least n (Some v) (Some w) None x-fits y-fits z-fits le le' = absurd le
  joined_least n (Some v) (Some w) (Some u) x-fits y-fits z-fits le le' = join.least v w u (law.value n v x-fits)
      (law.value n w y-fits) (law.value n u z-fits) le le'

  -- one edge more: it leads to the node, or it does not
  by_edge : (e n : ℕ) (x y : Option V) (P : Option V → Type 0) → (to e ≡ n → P (joined_at states.joined x y))
      → (to e ≢ n → P x) → P (with (to e == n) x y)
  by_edge e n x y P joins keeps =
      let split : (b : Bool) → (to e == n) ≡ b → P (with b x y) = λ b. elim b as (λ c. (to e == n) ≡ c
      → P (with c x y)) [
        | true ↦ λ is. joins (eqb-true (to e) n is)
        | false ↦ λ is. keeps (λ same. false≢true (sym is ∙ eq-eqb (to e) n same))
      ] in
      split (to e == n) refl

  edge_fits : (e n : ℕ) (table : NodeTable V) → e < edges → IsFit table → to e ≡ n → Fits n (over e table)
  edge_fits e n table lt fit same = subst (λ m. Fits m (over e table)) same (along_fits e table lt fit)

  pub gathered_fits : (k n : ℕ) (table : NodeTable V) → k ≤ edges → IsFit table → Fits n (gather k n table)
  gathered_fits zero n table le fit = closing.entry_fits states suits sys order join law n
  gathered_fits (suc e) n table le fit =
      let rest = gathered_fits e n table (omega arith) fit in
      by_edge e n (gather e n table) (over e table) (Fits n)
      (λ same. joined_fits n (gather e n table) (over e table) rest (edge_fits e n table (omega arith) fit same))
      (λ differ. rest)

  pub gathered_least : (k n : ℕ) (table : NodeTable V) (z : Option V) → k ≤ edges → IsFit table → Fits n z
      → Below (entry_at (sys.entry) n) z → ((e : ℕ) → e < k → to e ≡ n → Below (over e table) z)
      → Below (gather k n table) z
  gathered_least zero n table z le fit z-fits entry each = entry
  gathered_least (suc e) n table z le fit z-fits entry each =
      let rest = gathered_least e n table z (omega arith) fit z-fits entry (λ i lt. each i (omega arith)) in
      let rest-fits = gathered_fits e n table (omega arith) fit in
      by_edge e n (gather e n table) (over e table) (λ x. Below x z)
      (λ same. joined_least n (gather e n table) (over e table) z rest-fits
      (edge_fits e n table (omega arith) fit same) z-fits rest (each e (omega arith) same)) (λ differ. rest)

  -- what is gathered grows with each edge
  grows : (e n : ℕ) (table : NodeTable V) → e < edges → IsFit table → Below (gather e n table) (gather (suc e) n table)
  grows e n table lt fit =
      let rest-fits = gathered_fits e n table (omega arith) fit in
      by_edge e n (gather e n table) (over e table) (Below (gather e n table))
      (λ same. joined_left n (gather e n table) (over e table) rest-fits (edge_fits e n table lt fit same))
      (λ differ. reflexive n (gather e n table) rest-fits)

  pub gathered_entry : (k n : ℕ) (table : NodeTable V) → k ≤ edges → IsFit table
      → Below (entry_at (sys.entry) n) (gather k n table)
  gathered_entry zero n table le fit = reflexive n (entry_at (sys.entry) n)
      (closing.entry_fits states suits sys order join law n)
  gathered_entry (suc e) n table le fit =
      transitive n (entry_at (sys.entry) n) (gather e n table) (gather (suc e) n table)
      (closing.entry_fits states suits sys order join law n) (gathered_fits e n table (omega arith) fit)
      (gathered_fits (suc e) n table le fit)
      (gathered_entry e n table (omega arith) fit) (grows e n table (omega arith) fit)

  last_edge : (e n : ℕ) (table : NodeTable V) → e < edges → IsFit table → to e ≡ n
      → Below (over e table) (gather (suc e) n table)
  last_edge e n table lt fit same =
      by_edge e n (gather e n table) (over e table) (Below (over e table))
      (λ same'. joined_right n (gather e n table) (over e table) (gathered_fits e n table (omega arith) fit)
      (edge_fits e n table lt fit same)) (λ differ. absurd (differ same))

  pub gathered_edge : (k n e : ℕ) (table : NodeTable V) → k ≤ edges → IsFit table → e < k → to e ≡ n
      → Below (over e table) (gather k n table)
  gathered_edge zero n e table le fit lt same = absurd (omega arith)
  gathered_edge (suc k) n e table le fit lt same = elim (cases_lt e k) [
    | inl before ↦ transitive n (over e table) (gather k n table) (gather (suc k) n table)
        (edge_fits e n table (omega arith) fit same) (gathered_fits k n table (omega arith) fit)
        (gathered_fits (suc k) n table le fit)
        (gathered_edge k n e table (omega arith) fit before same) (grows k n table (omega arith) fit)
    | inr after ↦ let last : k ≡ e = omega arith in subst (λ i. Below (over e table) (gather (suc i) n table))
        (sym last) (last_edge e n table (omega arith) fit same)
  ]

  abbrev step : NodeTable V → NodeTable V
  step table = all_applied states suits sys table

  pub next_fits : (table : NodeTable V) → IsFit table → IsFit (step table)
  next_fits table fit n lt = closing.outward_fits states suits sys order join law n (gather edges n table)
      (gathered_fits edges n table (omega arith) fit)

  pub next_rises : (s t : NodeTable V) → IsFit s → IsFit t → IsUnder s t → IsUnder (step s) (step t)
  next_rises s t s-fit t-fit le n lt =
      let t-all = gathered_fits edges n t (omega arith) t-fit in
      closing.rising states suits sys order join law n (gather edges n s) (gather edges n t)
      (gathered_fits edges n s (omega arith) s-fit) t-all
      (gathered_least edges n s (gather edges n t) (omega arith) s-fit t-all
      (gathered_entry edges n t (omega arith) t-fit)
      (λ e within same. transitive n (over e s) (over e t) (gather edges n t) (edge_fits e n s within s-fit same)
      (edge_fits e n t within t-fit same) t-all (along_rises e s t within s-fit t-fit le)
      (gathered_edge edges n e t (omega arith) t-fit within same)))

  -- a node is covered exactly where the rounded join is at most what stands there
  pub covered_from : (table : NodeTable V) (n : ℕ) → n < nodes → IsFit table → Below (step table n) (table n)
      → IsCovered states suits sys table n
  covered_from table n lt fit le = record {
    bound = gather edges n table;
    is_bound = record {
      fits = gathered_fits edges n table (omega arith) fit;
      entry = gathered_entry edges n table (omega arith) fit;
      edges = λ e within same. gathered_edge edges n e table (omega arith) fit within same;
    };
    rounding = le;
  }

  pub from_covered : (table : NodeTable V) (n : ℕ) → n < nodes → IsFit table → IsCovered states suits sys table n
      → Below (step table n) (table n)
  from_covered table n lt fit c =
      let all = gathered_fits edges n table (omega arith) fit in
      let least = gathered_least edges n table c.bound (omega arith) fit c.is_bound.fits c.is_bound.entry
      (λ e within same. c.is_bound.edges e within same) in
      transitive n (step table n) (option_map (sys.outward n) c.bound) (table n) (next_fits table fit n lt)
      (closing.outward_fits states suits sys order join law n c.bound c.is_bound.fits) (fit n lt)
      (closing.rising states suits sys order join law n (gather edges n table) c.bound all c.is_bound.fits least)
      c.rounding

  abbrev rounds : ℕ → NodeTable V
  rounds k = iterate states suits sys k

  pub rounds_fit : (k : ℕ) → IsFit (rounds k)
  rounds_fit zero = λ n lt. tt
  rounds_fit (suc k) = next_fits (rounds k) (rounds_fit k)

  rounds_rise : (k : ℕ) → IsUnder (rounds k) (rounds (suc k))
  rounds_rise zero = λ n lt. tt
  rounds_rise (suc k) = next_rises (rounds k) (rounds (suc k)) (rounds_fit k) (rounds_fit (suc k)) (rounds_rise k)

  abbrev IsStable : ℕ → Type 0
  IsStable k = IsUnder (rounds (suc k)) (rounds k)

  stays : (k more : ℕ) → IsStable k → IsStable (k + more)
  stays k zero stable = rw add-zero stable
  stays k (suc more) stable =
      let before = stays k more stable in
      rw add-suc (next_rises (rounds (suc (k + more))) (rounds (k + more)) (rounds_fit (suc (k + more)))
      (rounds_fit (k + more)) before)

  abbrev space : ℕ → Option V → ℕ
  space n x = room_at states suits sys n x

  abbrev roomy : ℕ → NodeTable V → ℕ
  roomy n table = room_below states suits sys n table

  -- what rises has less room, and only equals have equal room
  space_falls : (n : ℕ) (x y : Option V) → Fits n x → Fits n y → Below x y → space n y ≤ space n x
  space_falls n None None x-fits y-fits le = omega arith
  space_falls n None (Some v) x-fits y-fits le = omega arith
  space_falls n (Some u) None x-fits y-fits le = absurd le
  space_falls n (Some u) (Some v) x-fits y-fits le = let climb = law.climbs u v (law.value n u x-fits)
      (law.value n v y-fits) le in omega arith

  space_equal : (n : ℕ) (x y : Option V) → Fits n x → Fits n y → Below x y → space n x ≤ space n y → Below y x
  space_equal n None None x-fits y-fits le le' = tt
  space_equal n None (Some v) x-fits y-fits le le' = absurd (let bound = law.within n v y-fits in omega arith)
  space_equal n (Some u) None x-fits y-fits le le' = absurd le
  space_equal n (Some u) (Some v) x-fits y-fits le le' =
      let u-is = law.value n u x-fits in
      let v-is = law.value n v y-fits in
      let bound = law.within n u x-fits in
      let bound' = law.within n v y-fits in
      let same = law.strictly u v u-is v-is le (omega arith) in
      subst (λ w. states.leq w u) same (order.reflexive u u-is)

  room_falls : (k : ℕ) (s t : NodeTable V) → k ≤ nodes → IsFit s → IsFit t → IsUnder s t → roomy k t ≤ roomy k s
  room_falls zero s t le s-fit t-fit under = omega arith
  room_falls (suc k) s t le s-fit t-fit under =
      let rest = room_falls k s t (omega arith) s-fit t-fit under in
      let lt : k < nodes = omega arith in
      let here = space_falls k (s k) (t k) (s-fit k lt) (t-fit k lt) (under k lt) in
      omega arith

  room_equal : (k : ℕ) (s t : NodeTable V) → k ≤ nodes → IsFit s → IsFit t → IsUnder s t → roomy k s ≤ roomy k t
      → (n : ℕ) → n < k → Below (t n) (s n)
  room_equal zero s t le s-fit t-fit under flat n n-lt = absurd (omega arith)
  room_equal (suc k) s t le s-fit t-fit under flat n n-lt =
      let rest = room_falls k s t (omega arith) s-fit t-fit under in
      let lt : k < nodes = omega arith in
      let here = space_falls k (s k) (t k) (s-fit k lt) (t-fit k lt) (under k lt) in
      elim (cases_lt n k) [
        | inl before ↦ room_equal k s t (omega arith) s-fit t-fit under (omega arith) n before
        | inr after ↦ let last : k ≡ n = omega arith in subst (λ i. Below (t i) (s i)) last
            (space_equal k (s k) (t k) (s-fit k lt) (t-fit k lt) (under k lt) (omega arith))
      ]

  settles : (r k : ℕ) → roomy nodes (rounds k) ≤ r → IsStable (k + r)
  settles zero k le = stays k zero (room_equal nodes (rounds k) (rounds (suc k)) (omega arith) (rounds_fit k)
      (rounds_fit (suc k)) (rounds_rise k) (omega arith))
  settles (suc r) k le = elim (cases_lt (roomy nodes (rounds (suc k))) (roomy nodes (rounds k))) [
    | inl falls ↦ let same : suc k + r ≡ k + suc r = omega arith in subst IsStable same
        (settles r (suc k) (omega arith))
    | inr flat ↦ stays k (suc r) (room_equal nodes (rounds k) (rounds (suc k)) (omega arith) (rounds_fit k)
        (rounds_fit (suc k)) (rounds_rise k) flat)
  ]

  -- the least table is a solution, and below every solution
  rounds_below : (k : ℕ) (other : NodeTable V) → IsSolution states suits sys other → IsUnder (rounds k) other
  rounds_below zero other solution n lt = tt
  rounds_below (suc k) other solution n lt =
      let fit = solution.fits in
      transitive n (step (rounds k) n) (step other n) (other n) (rounds_fit (suc k) n lt) (next_fits other fit n lt)
      (fit n lt)
      (next_rises (rounds k) other (rounds_fit k) fit (rounds_below k other solution) n lt)
      (from_covered other n lt fit (solution.covers n lt))

  -- the iterate after as many rounds as there is room is the least solution
  pub least_is_least : IsLeastSolution states suits sys (least_of states suits sys)
  least_is_least =
      let last = roomy nodes (rounds 0) in
      let e : 0 + last ≡ last = omega arith in
      let stable = subst IsStable e (settles last 0 (omega arith)) in
      record {
        solves = record {
          fits = rounds_fit last;
          covers = λ n lt. covered_from (rounds last) n lt (rounds_fit last)
              (stable n lt);
        };
        below = λ other solution. rounds_below last other solution;
      }

  equal : (n : ℕ) (x y : Option V) → Fits n x → Fits n y → Below x y → Below y x → x ≡ y
  equal n None None x-fits y-fits le le' = refl
  equal n None (Some v) x-fits y-fits le le' = absurd le'
  equal n (Some u) None x-fits y-fits le le' = absurd le
  equal n (Some u) (Some v) x-fits y-fits le le' = ap Some
      (order.antisymmetric u v (law.value n u x-fits) (law.value n v y-fits) le le')

  -- two least solutions are equal at each node
  pub least_is_one : (s t : NodeTable V) → IsLeastSolution states suits sys s → IsLeastSolution states suits sys t
      → (n : ℕ) → n < nodes → s n ≡ t n
  least_is_one s t s-least t-least n lt = equal n (s n) (t n) (s-least.solves.fits n lt) (t-least.solves.fits n lt)
      (s-least.below t t-least.solves n lt) (t-least.below s s-least.solves n lt)
