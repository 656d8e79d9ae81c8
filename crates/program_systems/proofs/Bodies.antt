-- A program with its facts is the program of its layout, its graphs and their configured graphs.
use Rattle.std.specs.Prelude.{◌≡◌, ℕ, zero, suc, ◌+◌, ◌<◌, List, [], ◌∷◌, length, get_or, refl}
use Rattle.std.proofs.Common.{sym, ap, subst, ◌∙◌, arith}
use Rattle.mutex_configs.specs.tm_laid.Layouts.{laid_tree}
use Rattle.mutex_configs.specs.flow_graph.declared.graphs.Graph.{Graph}
use Rattle.mutex_configs.specs.declared.nodes.ConfiguredGraph.{ConfiguredGraph}
use Rattle.mutex_configs.specs.declared.programs.Program.{Program}
use Rattle.entry_states.specs.task_equations.Bodies.{Body}
use Rattle.entry_states.specs.program_equations.Programs.{ProgramBodies, body_at, marked_from, IsBodyIn, IsNumbered}
use Rattle.entry_states.specs.program_equations.Programs.{IsProgramOf, IsProgram}
use Rattle.entry_states.specs.body_systems.Facts.{Facts}
use Rattle.program_systems.specs.Analysable.{IsAnalysable}
use Rattle.program_systems.specs.ReadPrograms.{ReadBody, ReadProgram, body_from, bodies_from, program_of}
use Rattle.program_systems.specs.ProgramFacts.{AllFacts, read_body, read_bodies, read_with, program_with, AreProgramFacts}

-- ## Lists of bodies

pub read_count : (gs : List Graph) (cs : List ConfiguredGraph) (fs : List Facts) → length cs ≡ length gs
    → length fs ≡ length gs → length (read_bodies gs cs fs) ≡ length gs
read_count [] cs fs p q = refl
read_count (g ∷ gs) [] fs p q = absurd (omega (arith, p))
read_count (g ∷ gs) (c ∷ cs) [] p q = absurd (omega (arith, q))
read_count (g ∷ gs) (c ∷ cs) (f ∷ fs) p q = ap suc (read_count gs cs fs (omega (arith, p)) (omega (arith, q)))

pub read_at : (gs : List Graph) (cs : List ConfiguredGraph) (fs : List Facts) (t : ℕ) (b : ReadBody) (g : Graph)
    (c : ConfiguredGraph) (f : Facts) → length cs ≡ length gs → length fs ≡ length gs → t < length gs
    → get_or (read_bodies gs cs fs) t b ≡ read_body (get_or gs t g) (get_or cs t c) (get_or fs t f)
read_at [] cs fs t b g c f p q lt = absurd (omega (arith, lt))
read_at (g' ∷ gs) [] fs t b g c f p q lt = absurd (omega (arith, p))
read_at (g' ∷ gs) (c' ∷ cs) [] t b g c f p q lt = absurd (omega (arith, q))
read_at (g' ∷ gs) (c' ∷ cs) (f' ∷ fs) zero b g c f p q lt = refl
read_at (g' ∷ gs) (c' ∷ cs) (f' ∷ fs) (suc t) b g c f p q lt =
    read_at gs cs fs t b g c f (omega (arith, p)) (omega (arith, q)) (omega (arith, lt))

pub from_count : (p : ReadProgram) (k : ℕ) (bs : List ReadBody) → length (bodies_from p k bs) ≡ length bs
from_count p k [] = refl
from_count p k (b ∷ bs) = ap suc (from_count p (suc k) bs)

pub from_at : (p : ReadProgram) (k : ℕ) (bs : List ReadBody) (t : ℕ) (d : Body) (b : ReadBody) → t < length bs
    → get_or (bodies_from p k bs) t d ≡ body_from p (k + t) (get_or bs t b)
from_at p k [] t d b lt = absurd (omega (arith, lt))
from_at p k (x ∷ bs) zero d b lt = ap (λ n. body_from p n x) (omega arith)
from_at p k (x ∷ bs) (suc t) d b lt =
    from_at p (suc k) bs t d b (omega (arith, lt)) ∙ ap (λ n. body_from p n (get_or bs t b)) (omega arith)

pub from_numbered : (p : ReadProgram) (k : ℕ) (bs : List ReadBody) (t : ℕ) (d : Body) → t < length bs
    → IsNumbered (program_of p) (k + t) (get_or (bodies_from p k bs) t d)
from_numbered p k [] t d lt = absurd (omega (arith, lt))
from_numbered p k (x ∷ bs) zero d lt =
    record { laid = refl; number = omega arith; priorities = refl; marks = refl }
from_numbered p k (x ∷ bs) (suc t) d lt =
    subst (λ n. IsNumbered (program_of p) n (get_or (bodies_from p (suc k) bs) t d)) (omega arith)
    (from_numbered p (suc k) bs t d (omega (arith, lt)))

-- ## Programs

module _ (program : Program) (facts : AllFacts) (analysable : IsAnalysable program)
    (are : AreProgramFacts program facts) where
  abbrev p : ProgramBodies
  p = program_with program facts

  abbrev gs : List Graph
  gs = program.graphs.graphs.items

  abbrev cs : List ConfiguredGraph
  cs = program.configured.items

  pub body_count : length p.bodies ≡ length gs
  body_count = from_count (read_with program facts) 0 (read_bodies gs cs facts.bodies)
      ∙ read_count gs cs facts.bodies analysable.count are.count

  pub body_is : (t : ℕ) (g : Graph) (c : ConfiguredGraph) (f : Facts) → t < length p.bodies
      → body_at p t ≡ body_from (read_with program facts) t
      (read_body (get_or gs t g) (get_or cs t c) (get_or facts.bodies t f))
  body_is t g c f lt =
      let within : t < length gs = subst (λ n. t < n) body_count lt in
      let first : 0 + t ≡ t = omega arith in
      from_at (read_with program facts) 0 (read_bodies gs cs facts.bodies) t _ (read_body g c f)
      (subst (λ n. t < n) (sym (read_count gs cs facts.bodies analysable.count are.count)) within)
      ∙ ap (λ n. body_from (read_with program facts) n (get_or (read_bodies gs cs facts.bodies) t (read_body g c f))) first
      ∙ ap (λ b. body_from (read_with program facts) t b)
      (read_at gs cs facts.bodies t (read_body g c f) g c f analysable.count are.count within)

  some_facts : Facts
  some_facts = record { links = []; live = []; pointer_marks = []; heads = []; written = [] }

  numbered : (t : ℕ) → t < length p.bodies → IsNumbered p t (body_at p t)
  numbered t lt =
      let first : 0 + t ≡ t = omega arith in
      subst (λ n. IsNumbered p n (body_at p t)) first
      (from_numbered (read_with program facts) 0 (read_bodies gs cs facts.bodies) t _
      (subst (λ n. t < n) (from_count (read_with program facts) 0 (read_bodies gs cs facts.bodies)) lt))

  body_in : (t : ℕ) (g : Graph) (c : ConfiguredGraph) → t < length p.bodies
      → IsBodyIn (laid_tree program.laid) (get_or gs t g) (get_or cs t c) (body_at p t)
  body_in t g c lt =
      let f = are.each t g c some_facts (subst (λ n. t < n) (body_count ∙ sym are.count) lt) in
      subst (λ b. IsBodyIn (laid_tree program.laid) (get_or gs t g) (get_or cs t c) b)
      (sym (body_is t g c some_facts lt))
      (record {
        edges = refl;
        nodes = refl;
        copies = refl;
        live = f.live;
        pointers = ap (marked_from 0) f.pointers;
        heads = f.heads;
        written = f.written;
      })

  pub is_program_of : IsProgramOf (laid_tree program.laid) gs cs program.marks p
  is_program_of = record {
    laid = refl;
    marks = refl;
    tasks = refl;
    priorities = are.priorities;
    count = body_count;
    numbered = numbered;
    bodies = body_in;
  }

  pub is_program : IsProgram p
  is_program = analysable.lawful p is_program_of
