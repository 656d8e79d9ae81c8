-- The operations of a body of a program do what the rows say.
use Rattle.std.specs.Prelude.{ℕ, ◌<◌, List, length}
use Rattle.std.proofs.Common.{subst}
use Rattle.program_shape.specs.flow_graph.declared.graphs.Edge.{Edge}
use Rattle.program_shape.specs.flow_graph.Graphs.{Among}
use Rattle.program_reports.specs.temporary_types.Sorts.{Sort, Works, FitsSorts}
use Rattle.program_reports.specs.task_equations.Bodies.{live_at}
use Rattle.program_reports.specs.task_equations.Equations.{tests_pointer}
use Rattle.program_reports.specs.program_equations.Programs.{ProgramBodies, body_at, IsTested, IsProgram}
use Rattle.sound_tables.specs.Premises.{IsGraphOf, AreRegular}
use Rattle.sound_tables.specs.Meanings.{HaveMeanings}
use Rattle.sound_tables.proofs.Copies.{IsNumbered, numbered_edge}
use Rattle.sound_tables.proofs.Operands.{operand}
use Rattle.sound_tables.proofs.Operating.{means}
use Rattle.sound_tables.proofs.Failing.{fails_as}

module _ (p : ProgramBodies) (is : IsProgram p) (t : ℕ) (lt : t < length p.bodies) (graph : IsGraphOf p t)
    (regular : AreRegular p t (is.sorts t)) where
  abbrev sorts : List Sort
  sorts = is.sorts t

  numbered : (e : Edge) → (let b = body_at p t in Among e b.edges)
      → (let b = body_at p t in IsNumbered b.nodes 0 b.edges e)
  numbered e among = let b = body_at p t in numbered_edge b.nodes 0 b.edges e among

  works : (e : Edge) → (let b = body_at p t in Among e b.edges) → Works p.laid sorts e.op
  works e among =
      let b = body_at p t in
      let k = numbered e among in
      let at = is.each t lt in
      let h : FitsSorts b.laid sorts e.op =
      subst (λ (d : Edge). FitsSorts b.laid sorts d.op) k.is (at.body.operations k.number k.within) in
      let own : FitsSorts p.laid sorts e.op = subst (λ l. FitsSorts l sorts e.op) at.numbered.laid h in
      own.0

  is_tested : (e : Edge) → (let b = body_at p t in Among e b.edges) → IsTested e.op
  is_tested e among =
      let k = numbered e among in
      let at = is.each t lt in
      subst (λ (d : Edge). IsTested d.op) k.is (at.tests k.number k.within)

  pub have_meanings : HaveMeanings p t sorts
  have_meanings = record {
    does = λ e among s fits temps temps' ins does answer.
        let b = body_at p t in
        means p.laid regular.few sorts temps temps' t (tests_pointer b.pointers e.op) answer e.op (works e among)
        (regular.each e among) (is_tested e among)
        (λ u sort h k. operand p.laid t sorts (live_at b e.from) s fits temps ins u sort (graph.uses e u among h) k)
        does;
    fails = λ e among s fits temps class ins fails answer.
        let b = body_at p t in
        fails_as p.laid regular.few sorts temps temps class t (tests_pointer b.pointers e.op) answer e.op
        (works e among) (regular.each e among)
        (λ u sort h k. operand p.laid t sorts (live_at b e.from) s fits temps ins u sort (graph.uses e u among h) k)
        fails;
  }
