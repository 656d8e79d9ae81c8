-- Where an operation leaves that is no test, nothing else leaves.
use Rattle.std.specs.Prelude.{◌≡◌, ℕ, Bool, true, false, if◌then◌else◌, [], ◌∷◌, ◌==◌}
use Rattle.std.proofs.Common.{refl, inl, inr, sym, ap, subst, ◌∙◌}
use Rattle.std.proofs.lemmas.Bool.{eq-eqb}
use Rattle.program_shape.specs.flow_graph.declared.graphs.Edge.{Edge}
use Rattle.program_shape.specs.flow_graph.declared.operations.Operation.{Operation}
use Rattle.program_shape.specs.flow_graph.declared.operations.Operation.TheVariants as Op
use Rattle.program_shape.specs.flow_graph.Graphs.{Edges, Among, leaving, Leaves, IsSure, IsOpposite, IsFork, IsPlain}

among_case : (x e : Edge) (g : Edges) (node : ℕ) → (Among e g → Among e (leaving g node)) → (b : Bool)
    → (x.from == node) ≡ b → e.from ≡ node → Among e (x ∷ g)
    → Among e (if b then x ∷ leaving g node else leaving g node)
among_case x e g node ih true h at (inl p) = inl p
among_case x e g node ih true h at (inr q) = inr (ih q)
among_case x e g node ih false h at (inl p) =
    let k : (x.from == node) ≡ true = eq-eqb x.from node (ap (λ (z : Edge). z.from) p ∙ at) in
    let l : true ≡ false = sym k ∙ h in cc
among_case x e g node ih false h at (inr q) = ih q

pub among_leaving : (g : Edges) (node : ℕ) (e : Edge) → e.from ≡ node → Among e g → Among e (leaving g node)
among_leaving [] node e at a = absurd a
among_leaving (x ∷ g) node e at a = among_case x e g node (among_leaving g node e at) (x.from == node) refl at a

opposite_sure : (o o' : Operation) → IsOpposite o o' → (IsSure o → ⊥) × (IsSure o' → ⊥)
opposite_sure (Op.Assume test) o' h = (λ s. s, λ s. subst IsSure h.1 s)
opposite_sure o o' h = absurd h

fork_alone : (l : Edges) → IsFork l → (e f : Edge) → IsSure e.op → Among e l → Among f l → f ≡ e
fork_alone [] h e f s a b = absurd a
fork_alone (x ∷ []) h e f s (inl a) (inl b) = sym b ∙ a
fork_alone (x ∷ []) h e f s (inl a) (inr b) = absurd b
fork_alone (x ∷ []) h e f s (inr a) b = absurd a
fork_alone (x ∷ y ∷ []) h e f s (inl a) b =
    absurd ((opposite_sure x.op y.op h).0 (subst (λ (z : Edge). IsSure z.op) (sym a) s))
fork_alone (x ∷ y ∷ []) h e f s (inr (inl a)) b =
    absurd ((opposite_sure x.op y.op h).1 (subst (λ (z : Edge). IsSure z.op) (sym a) s))
fork_alone (x ∷ y ∷ []) h e f s (inr (inr a)) b = absurd a
fork_alone (x ∷ y ∷ z ∷ l) h e f s a b = absurd h

pub alone : (g : Edges) → IsPlain g → (node : ℕ) (e f : Edge) → IsSure e.op → Leaves g node e → Leaves g node f
    → f ≡ e
alone g plain node e f s a b =
    fork_alone (leaving g node) (plain node) e f s (among_leaving g node e a.from a.among)
    (among_leaving g node f b.from b.among)
