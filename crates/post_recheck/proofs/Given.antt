-- What the check of a body is given: a program of which the equations are solved, and entries that fit.
use Rattle.std.proofs.Common.{◌≡◌, ℕ, ◌<◌, ◌^◌, List, length, get_or, Option, None, IfSome}
use Rattle.std.proofs.Common.{sym, ap, subst, ◌∙◌, arith}
use Rattle.flow_graph.specs.declared.graphs.Graph.{Graph}
use Rattle.flow_graph.specs.Graphs.{Edges}
use Rattle.mutex_configs.specs.declared.nodes.ConfiguredGraph.{ConfiguredGraph}
use Rattle.mutex_configs.specs.declared.nodes.EdgeCopy.{EdgeCopy}
use Rattle.mutex_configs.specs.declared.programs.Program.{Program}
use Rattle.shared_programs.specs.transfer_rows.StateForms.{State}
use Rattle.shared_programs.specs.program_equations.Programs.{ProgramBodies, body_at, IsProgram}
use Rattle.shared_programs.specs.program_equations.Systems.{FitsBody, task_entry}
use Rattle.shared_programs.specs.program_equations.Solutions.{table_at}
use Rattle.shared_programs.specs.program_systems.Analysable.{IsAnalysable}
use Rattle.shared_programs.specs.program_systems.ProgramFacts.{AllFacts, AreProgramFacts, program_with}
use Rattle.shared_programs.proofs.low.program_systems.Bodies.{is_program, is_program_of, body_count}
use Rattle.post_recheck.specs.Pairs.{Pair}
use Rattle.post_recheck.specs.Bodies.{IsGiven}
use Rattle.post_recheck.proofs.Fits as tables

-- a program has fewer than 2^32 bodies
pub bodies_small : (program : Program) (facts : AllFacts) → IsAnalysable program → AreProgramFacts program facts
    → (let p = program_with program facts in length p.bodies < 2 ^ 32)
bodies_small program facts analysable are =
    subst (λ n. n < 2 ^ 32) (sym (body_count program facts analysable are)) analysable.small

module _ (program : Program) (facts : AllFacts) (pair : Pair) (entries : List (Option State))
    (given : IsGiven program facts pair entries) where
  abbrev p : ProgramBodies
  p = program_with program facts

  pub is : IsProgram p
  is = is_program program facts given.analysable given.computed

  pub count : length p.bodies ≡ length program.graphs.graphs.items
  count = body_count program facts given.analysable given.computed

  pub configured_count : length p.bodies ≡ length program.configured.items
  configured_count = count ∙ sym given.analysable.count

  pub small : length p.bodies < 2 ^ 32
  small = bodies_small program facts given.analysable given.computed

  -- each table has a number
  pub number_small : (t : ℕ) → t < length pair.tables → t < 2 ^ 32
  number_small t lt = omega (arith, lt, small, given.fits.count)

  pub in_bodies : (t : ℕ) → t < p.tasks → t < length p.bodies
  in_bodies t lt = let le = is.tasks in omega (arith, lt, le)

  pub in_tables : (t : ℕ) → t < length p.bodies → t < length pair.tables
  in_tables t lt = subst (λ n. t < n) (sym given.fits.count) lt

  pub entry_is : (t : ℕ) → t < p.tasks → get_or entries t None ≡ task_entry p (table_at pair.tables p.tasks) t
  entry_is t lt = given.begins.each t (subst (λ n. t < n) (sym given.begins.count) lt)

  pub entry_fits : (t : ℕ) → t < p.tasks → IfSome (get_or entries t None) (FitsBody (body_at p t) 0)
  entry_fits t lt = subst (λ x. IfSome x (FitsBody (body_at p t) 0)) (sym (entry_is t lt))
      (tables.entry_fits p is pair given.fits t (in_bodies t lt))

  -- what is read of a graph and its configured graph is of the body with their number
  module _ (t : ℕ) (lt : t < length p.bodies) (g : Graph) (c : ConfiguredGraph)
      (g-is : g ≡ get_or program.graphs.graphs.items t g) (c-is : c ≡ get_or program.configured.items t c) where
    pub edges_are : (edges : Edges) → edges ≡ g.edges.items → (let b = body_at p t in b.edges ≡ edges)
    edges_are edges e =
        let all = is_program_of program facts given.analysable given.computed in
        (all.bodies t g c lt).edges ∙ ap (λ (x : Graph). x.edges.items) (sym g-is) ∙ sym e

    pub copies_are : (copies : List EdgeCopy) → copies ≡ c.copies.items → (let b = body_at p t in b.copies ≡ copies)
    copies_are copies e =
        let all = is_program_of program facts given.analysable given.computed in
        (all.bodies t g c lt).copies ∙ ap (λ (x : ConfiguredGraph). x.copies.items) (sym c-is) ∙ sym e
