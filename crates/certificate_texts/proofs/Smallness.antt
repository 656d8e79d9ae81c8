-- The numbers of a program with its facts.
use Rattle.std.proofs.Common.{◌≡◌, sym, ap, subst, ◌∙◌, ℕ, suc, ◌+◌, ◌<◌, ◌^◌, true, List, [], ◌∷◌}
use Rattle.std.proofs.Common.{length, get_or, inl, inr, arith, lit<}
use Rattle.std.specs.Prelude.{◌||◌}
use Rattle.std.proofs.lemmas.Bool.{cases_eq, cases_lt, ne_eqb}
use Rattle.std.proofs.lemmas.List.{get_or_past, get_or_default, length-map, get_or-map}
use Rattle.std.specs.declared.vec.Vec.{Vec}
use Rattle.std.specs.declared.alloc.Global.{Global}
use Rattle.graph_facts.specs.Lists.{numbers}
use Rattle.tm_laid.specs.declared.objects.LaidObject.{LaidObject}
use Rattle.tm_laid.specs.Layouts.{no_object}
use Rattle.mutex_configs.specs.declared.programs.Program.{Program}
use Rattle.transfer_rows.specs.Accesses.{is_among}
use Rattle.post_recheck.specs.task_equations.Bodies.{Body, live_at}
use Rattle.post_recheck.specs.program_equations.Programs.{body_at}
use Rattle.post_recheck.specs.program_systems.Analysable.{IsAnalysable}
use Rattle.post_recheck.specs.program_systems.ProgramFacts.{AllFacts, AreProgramFacts, program_with}
use Rattle.certificate_texts.specs.Sizes.{HasSmallNumbers}
use Rattle.certificate_texts.specs.reading.Smalls.{AreSmall, AreSmallLists, AreSmallObjects, AreSmallBodies, IsSmallBody}
use Rattle.post_recheck.proofs.low.program_systems.Bodies.{body_count, body_is}
use Rattle.post_recheck.specs.body_systems.Facts.{Facts}
use Rattle.mutex_configs.specs.flow_graph.declared.graphs.Graph.{Graph}
use Rattle.mutex_configs.specs.declared.nodes.ConfiguredGraph.{ConfiguredGraph}

-- some element of a list that has one
element_of : {A : Type 0} (xs : List A) (t : ℕ) → t < length xs → A
element_of [] t less = absurd (omega (arith, less))
element_of (x ∷ xs) t less = x

-- what is among small numbers is small
among_small : (list : List ℕ) → AreSmall list → (x : ℕ) → is_among list x ≡ true → x < 2 ^ 64
among_small [] small x among = absurd (cc)
among_small (y ∷ list) small x among = elim (cases_eq x y) [
  | inl same ↦ (let here = small 0 (omega arith) in omega (arith, same, here))
  | inr differ ↦
      among_small list (λ k less. small (suc k) (omega (arith, less))) x
      (sym (ap (λ b. b || is_among list x) (ne_eqb x y differ)) ∙ among)
]

at_place : (lists : List (List ℕ)) → ((place : ℕ) → place < length lists → AreSmall (get_or lists place []))
    → (place x : ℕ) → is_among (get_or lists place []) x ≡ true → x < 2 ^ 64
at_place lists small place x among = elim (cases_lt place (length lists)) [
  | inl less ↦ among_small (get_or lists place []) (small place less) x among
  | inr past ↦ absurd (let none = ap (λ l. is_among l x) (get_or_past lists place [] past) in cc)
]

-- the lists that code holds
pub lists_small : (lists : List (Vec ℕ Global)) → AreSmallLists lists (length lists)
    → (place : ℕ) → place < length (numbers lists) → AreSmall (get_or (numbers lists) place [])
lists_small lists small place below =
    let size = length-map lists (λ (v : Vec ℕ Global). v.items) in
    let less : place < length lists = omega (arith, size, below) in
    let none = element_of lists place less in
    subst AreSmall (sym (get_or-map (λ (v : Vec ℕ Global). v.items) lists place none [] less)) (small place none less)

-- one body more
pub bodies_next : (configured : List ConfiguredGraph) (facts : List Facts) (n : ℕ) (c : ConfiguredGraph) (f : Facts)
    → n < length configured → n < length facts → c ≡ get_or configured n c → f ≡ get_or facts n f → IsSmallBody c f
    → AreSmallBodies configured facts n → AreSmallBodies configured facts (n + 1)
bodies_next configured facts n c f less below c-is f-is small so t c' f' within = elim (cases_lt t n) [
  | inl before ↦ so t c' f' before
  | inr past ↦
      let same : t ≡ n = omega (arith, within, past) in
      let one : c ≡ get_or configured t c' =
      c-is ∙ get_or_default configured n c c' less ∙ ap (λ k. get_or configured k c') (sym same) in
      let two : f ≡ get_or facts t f' =
      f-is ∙ get_or_default facts n f f' below ∙ ap (λ k. get_or facts k f') (sym same) in
      subst (λ x. IsSmallBody x (get_or facts t f')) one (subst (IsSmallBody c) two small)
]

module _ (program : Program) (facts : AllFacts) (analysable : IsAnalysable program)
    (are : AreProgramFacts program facts) where
  abbrev objects : List LaidObject
  objects = program.laid.objects.items

  module _ (few : length objects < 2 ^ 64) (sizes : AreSmallObjects objects (length objects))
      (bodies : AreSmallBodies program.configured.items facts.bodies (length facts.bodies)) where
    size_small : (object : ℕ) → (let o = get_or objects object no_object in o.cells < 2 ^ 64)
    size_small object = elim (cases_lt object (length objects)) [
      | inl less ↦ sizes object no_object less
      | inr past ↦ subst (λ (o : LaidObject). o.cells < 2 ^ 64) (sym (get_or_past objects object no_object past)) (lit< tt)
    ]

    module _ (t : ℕ) (less : t < length (program_with program facts).bodies) where
      in_graphs : t < length program.graphs.graphs.items
      in_graphs = subst (λ n. t < n) (body_count program facts analysable are) less

      in_facts : t < length facts.bodies
      in_facts = let here = in_graphs in let same = are.count in omega (arith, here, same)

      in_configured : t < length program.configured.items
      in_configured = let here = in_graphs in let same = analysable.count in omega (arith, here, same)

      graph : Graph
      graph = element_of program.graphs.graphs.items t in_graphs

      configured : ConfiguredGraph
      configured = element_of program.configured.items t in_configured

      fact : Facts
      fact = element_of facts.bodies t in_facts

      small : IsSmallBody (get_or program.configured.items t configured) (get_or facts.bodies t fact)
      small = bodies t configured fact in_facts

      nodes_small : (let b = body_at (program_with program facts) t in length b.nodes < 2 ^ 64)
      nodes_small =
          subst (λ (b : Body). length b.nodes < 2 ^ 64)
          (sym (body_is program facts analysable are t graph configured fact less)) small.nodes

      live_small : (place x : ℕ) → is_among (live_at (body_at (program_with program facts) t) place) x ≡ true → x < 2 ^ 64
      live_small =
          subst (λ (b : Body). (place x : ℕ) → is_among (live_at b place) x ≡ true → x < 2 ^ 64)
          (sym (body_is program facts analysable are t graph configured fact less))
          (at_place (let f = get_or facts.bodies t fact in f.live) small.live)

    pub small_numbers : HasSmallNumbers (program_with program facts)
    small_numbers = record {
      bodies = (let count = body_count program facts analysable are in let graphs = analysable.small in omega (arith, count, graphs));
      nodes = λ t less. nodes_small t less;
      live = λ t place temp less among. live_small t less place temp among;
      objects = few;
      cells = size_small;
    }
