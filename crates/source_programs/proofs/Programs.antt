-- The program of a layout, its graphs, their configured graphs and thresholds is one.
use Rattle.std.specs.Prelude.{◌≡◌, ℕ, ◌<◌, ◌≤◌, ◌^◌, ℤ, List, [], ◌∷◌, length, get_or, Vec}
use Rattle.std.proofs.Common.{refl, sym, ◌∙◌, arith, BuildHasherDefault, FoldHasher, Global}
use Rattle.std.proofs.lemmas.List.{same_lists, get_or_default}
use Rattle.std.specs.HashSet.{HashSet}
use Rattle.indexmap.specs.Layout.{hash_map, key_set}
use denote.RawPtr.{null_ptr}
use Rattle.tm_laid.specs.Layouts.{LaidTree}
use Rattle.mutex_configs.specs.flow_graph.declared.graphs.Graph.{Graph}
use Rattle.mutex_configs.specs.declared.nodes.ConfiguredGraph.{ConfiguredGraph}
use Rattle.program_laws.specs.task_equations.Bodies.{Body}
use Rattle.program_laws.specs.program_equations.Programs.{ProgramBodies, body_at, no_body, IsProgramOf}
use Rattle.source_programs.specs.Laws.{ProgramsAreOne}
use Rattle.source_programs.proofs.Bodies.{body_is_one}
use Rattle.configured_laws.proofs.ConfiguredAlike.{some_graph}

-- a configured graph without nodes and copies
no_nodes : {K : Type 0} → HashSet K (BuildHasherDefault FoldHasher)
no_nodes {K} = key_set (hash_map {K = K} {X = Unit {0}} [] (record { initial = record { state = 0 } }) 0)

no_items : {X Y : Type 0} → Vec X Global → Vec Y Global
no_items v = record {
  ptr = null_ptr;
  len = 0;
  cap = 0;
  alloc = v.alloc;
  items = [];
  ok = (refl, (let z : 0 ≤ 0 = omega arith in z));
  small = (let z : 0 < 2 ^ 63 = omega arith in z);
}

nothing_configured : Graph → ConfiguredGraph
nothing_configured g = record { nodes = no_nodes; copies = no_items g.edges }

-- the first of a list; that one where there is none
some_configured : Graph → List ConfiguredGraph → ConfiguredGraph
some_configured g [] = nothing_configured g
some_configured g (c ∷ configured) = c

module _ (laid : LaidTree) (graphs : List Graph) (configured : List ConfiguredGraph) (thresholds : List ℤ)
    (p q : ProgramBodies) (one : IsProgramOf laid graphs configured thresholds p)
    (other : IsProgramOf laid graphs configured thresholds q) where
  layouts : p.laid ≡ q.laid
  layouts = one.laid ∙ sym other.laid

  marks : p.marks ≡ q.marks
  marks = one.marks ∙ sym other.marks

  tasks : p.tasks ≡ q.tasks
  tasks = one.tasks ∙ sym other.tasks

  priorities : p.priorities ≡ q.priorities
  priorities = one.priorities ∙ sym other.priorities

  counts : length p.bodies ≡ length q.bodies
  counts = one.count ∙ sym other.count

  same_body : (t : ℕ) → t < length p.bodies → body_at p t ≡ body_at q t
  same_body t lt =
      let within : t < length q.bodies = (let same = counts in omega (arith, lt, same)) in
      let count = one.count in
      let g : Graph = some_graph graphs (omega (arith, lt, count)) in
      let c : ConfiguredGraph = some_configured g configured in
      body_is_one laid (get_or graphs t g) (get_or configured t c) t p q (body_at p t) (body_at q t) layouts priorities
      marks (one.numbered t lt) (other.numbered t within) (one.bodies t g c lt) (other.bodies t g c within)

  same_bodies : p.bodies ≡ q.bodies
  same_bodies = same_lists p.bodies q.bodies counts at
    where
      at : (t : ℕ) (d : Body) → t < length p.bodies → get_or p.bodies t d ≡ get_or q.bodies t d
      at t d lt =
          let same = counts in
          get_or_default p.bodies t d (no_body p) lt ∙ same_body t lt
          ∙ sym (get_or_default q.bodies t d (no_body q) (omega (arith, lt, same)))

  same_programs : p ≡ q
  same_programs =
      let l = layouts in
      let m = marks in
      let n = tasks in
      let o = priorities in
      let b = same_bodies in
      λ i. record { laid = l i; marks = m i; tasks = n i; priorities = o i; bodies = b i }

pub programs_are_one : ProgramsAreOne
programs_are_one = same_programs
