-- The graph of a body clears objects of the paths of the body alone.
use Rattle.std.proofs.Common.{◌≡◌, ℕ, refl, subst}
use Rattle.concrete_steps.specs.tm_laid.Layouts.{LaidTree}
use Rattle.flow_graph.specs.declared.graphs.Edge.{Edge}
use Rattle.flow_graph.specs.declared.operations.Operation.TheVariants as Op
use Rattle.flow_graph.specs.Graphs.{Among}
use Rattle.lowering.specs.Built.{graph_of}
use Rattle.lowering.specs.Owned.{IsPathOf, from_first, by_call, IsOwnObject}
use Rattle.lowering.proofs.Demands.{Demands, Meets, AreUsual, any_statements}
use Rattle.lowering.proofs.GraphDemands.{graph_meets}

-- what is cleared is the body's own; nothing else is asked
abbrev owning : LaidTree → ℕ → Demands
owning laid body = record {
  clears = IsOwnObject laid body;
  unary = λ o t. Unit {0};
  constant = λ v. Unit {0};
  compares = λ op. Unit {0};
  label = λ z. Unit {0};
  mutex = λ m. Unit {0};
}

usual : (laid : LaidTree) (body : ℕ) → AreUsual (owning laid body)
usual laid body = record {
  number = λ z. tt;
  null = tt;
  invalid = tt;
  comparison = λ op e. tt;
  negation = λ op h. tt;
}

pub clears_own : (laid : LaidTree) (body object : ℕ) (e : Edge) → Among e (graph_of laid body)
    → e.op ≡ Op.Clear object → IsOwnObject laid body object
clears_own laid body object e a i =
    subst (Meets (owning laid body)) i
    (graph_meets (owning laid body) (usual laid body) laid (IsPathOf laid body) (λ path site. Unit {0})
    (λ path k. Unit {0}) (λ path site is s. by_call is site)
    (λ path k is l. record { path = path; is_path = is; number = k; is = refl })
    (λ path is b q. any_statements (owning laid body) (λ s. Unit {0}) (λ k. Unit {0})
    (record {
      unary = λ o t. tt;
      label = λ z. tt;
      mutex = λ m. tt;
      site = λ s. tt;
      local = λ k. tt;
    }) b.statements) body from_first e a)
