-- The operations that are built: mutexes are those of the file, constants lead to no object, and tests compare.
use Rattle.std.proofs.Common.{◌≡◌, refl, sym, subst, inl, inr, ℕ, ◌<◌, ◌≤◌, Bool, true, false, [], ◌∷◌, length}
use Rattle.std.specs.Prelude.{cond, All, find, Option, Some, None}
use Rattle.std.proofs.lemmas.Bool.{false≢true, ltb-false}
use Rattle.std.proofs.lemmas.Option.{none-some}
use Rattle.std.proofs.lemmas.List.Elements.{All-nil, All-cons}
use Rattle.call_graph.specs.tm_cint.declared.operators.BinOp.{BinOp}
use Rattle.call_graph.specs.tm_cint.declared.operators.BinOp.TheVariants as Bins
use Rattle.call_graph.specs.tm_cint.Operators.{IsComparison}
use Rattle.call_graph.specs.tm_terms.declared.refusals.Limit.{Limit}
use Rattle.call_graph.specs.tm_terms.declared.refusals.Limit.TheVariants as Limits
use Rattle.call_graph.specs.tm_typed.Rules.{is_comparison}
use Rattle.call_graph.specs.tm_typed.Files.{TypedFileTree}
use Rattle.call_graph.specs.tm_typed.WellTyped.{OnAnswer}
use Rattle.cell_layout.specs.tm_laid.declared.scales.Scale.{Scale}
use Rattle.cell_layout.specs.tm_laid.Layouts.{LaidTree, laid_count, laid_limits, is_exceeded, unless_beyond, laid_out}
use Rattle.cell_layout.proofs.LimitCounts.{within_large}
use Rattle.lowering.specs.flow_graph.declared.graphs.Edge.{Edge}
use Rattle.lowering.specs.flow_graph.declared.operations.Operation.{Operation}
use Rattle.lowering.specs.flow_graph.declared.operations.Operation.TheVariants as Op
use Rattle.lowering.specs.flow_graph.declared.operations.Test.{Test}
use Rattle.lowering.specs.flow_graph.declared.operations.Test.TheVariants as Tests
use Rattle.lowering.specs.flow_graph.Operations.{negated}
use Rattle.lowering.specs.flow_graph.Graphs.{Edges, Among}
use Rattle.lowering.specs.Built.{graph_of}
use Rattle.lowering.proofs.Demands.{Demands, TestMeets, Meets, AreUsual}
use Rattle.typed_file_laws.proofs.low.typing_laws.Steps.{from_answer}
use Rattle.typed_file_laws.specs.Lawful.{IsNumber}
use Rattle.lowering_laws.specs.LaidFiles.{IsLaidFile}
use Rattle.lowering_laws.specs.Mutexes.{HasMutex}
use Rattle.lowering_laws.specs.Operations.{IsPlainValue, IsPlainTest, HasPlainConstant, HasPlainTest}
use Rattle.lowering_laws.proofs.TypedGraphs.{file_is, edges_meet}

-- a comparison
compares : (op : BinOp) → is_comparison op ≡ true → IsComparison op
compares Bins.Lt e = tt
compares Bins.Le e = tt
compares Bins.Gt e = tt
compares Bins.Ge e = tt
compares Bins.Eq e = tt
compares Bins.Ne e = tt
compares _ e = absurd (false≢true e)

-- the opposite of a comparison is one
negated_compares : (op : BinOp) → IsComparison op → IsComparison (negated op)
negated_compares Bins.Lt h = tt
negated_compares Bins.Le h = tt
negated_compares Bins.Gt h = tt
negated_compares Bins.Ge h = tt
negated_compares Bins.Eq h = tt
negated_compares Bins.Ne h = tt
negated_compares _ h = absurd h

-- a mutex is one of so many, a constant leads to no object, and a test compares
abbrev placed : ℕ → Demands
placed count = record {
  clears = λ o. Unit {0};
  unary = λ o t. Unit {0};
  constant = IsPlainValue;
  compares = IsComparison;
  label = IsNumber;
  mutex = λ m. m < count;
}

usual : (count : ℕ) → AreUsual (placed count)
usual count = record {
  number = λ z. tt;
  null = tt;
  invalid = tt;
  comparison = compares;
  negation = negated_compares;
}

all_listed : (P : Operation → Type 0) (g : Edges) → ((e : Edge) → Among e g → P e.op) → All (λ e. P e.op) g
all_listed P [] f = All-nil (λ (e : Edge). P e.op)
all_listed P (e ∷ g) f =
    All-cons (λ (x : Edge). P x.op) e g (f e (inl refl)) (all_listed P g (λ x a. f x (inr a)))

plain_test : (count : ℕ) (test : Test) → TestMeets (placed count) test → IsPlainTest test
plain_test count (Tests.Numbers operator of left right) h = h
plain_test count (Tests.Pointers equal left right) h = tt
plain_test count (Tests.Truth holds value) h = tt
plain_test count (Tests.Case holds label value) h = h

said : (count : ℕ) (op : Operation) → Meets (placed count) op
    → HasMutex count op × HasPlainConstant op × HasPlainTest op
said count (Op.Const to value) h = (tt, h, tt)
said count (Op.Assume test) h = (tt, tt, plain_test count test h)
said count (Op.Lock mutex place) h = (h, tt, tt)
said count (Op.Unlock mutex place) h = (h, tt, tt)
said count (Op.Probe to mutex place) h = (h, tt, tt)
said count _ h = (tt, tt, tt)

-- ## Files

-- what is said of the operations of the graph of a body
operations_of : (laid : LaidTree) → IsLaidFile laid → (body : ℕ) (e : Edge) → Among e (graph_of laid body)
    → HasMutex (length laid.file.mutexes) e.op × HasPlainConstant e.op × HasPlainTest e.op
operations_of laid h body e a =
    let count : ℕ = length laid.file.mutexes in
    said count e.op (edges_meet laid h (placed count) (usual count) (λ path. Unit {0})
    (record {
      unary = λ o t w. tt;
      label = λ z n. n;
      mutex = λ m l. l;
      goes = λ path site is l. tt;
      local = λ path k n is l. tt;
    }) body tt e a)

pub mutexes_of_file : (laid : LaidTree) → IsLaidFile laid → (body : ℕ)
    → All (λ e. HasMutex (length laid.file.mutexes) e.op) (graph_of laid body)
mutexes_of_file laid h body =
    all_listed (HasMutex (length laid.file.mutexes)) (graph_of laid body) (λ e a. (operations_of laid h body e a).0)

pub constants_of_file : (laid : LaidTree) → IsLaidFile laid → (body : ℕ)
    → All (λ e. HasPlainConstant e.op) (graph_of laid body)
constants_of_file laid h body =
    all_listed HasPlainConstant (graph_of laid body) (λ e a. (operations_of laid h body e a).1)

pub tests_of_file : (laid : LaidTree) → IsLaidFile laid → (body : ℕ)
    → All (λ e. HasPlainTest e.op) (graph_of laid body)
tests_of_file laid h body =
    all_listed HasPlainTest (graph_of laid body) (λ e a. (operations_of laid h body e a).2)

-- ## At most sixteen

none_found : {A : Type 0} (b : Bool) (x : A) (rest : Option A) → cond b (Some x) rest ≡ None
    → (b ≡ false) × (rest ≡ None)
none_found true x rest e = absurd (none-some x (sym e))
none_found false x rest e = (refl, e)

abbrev FewMutexes : TypedFileTree → LaidTree → Type 0
FewMutexes file laid = length file.mutexes ≤ 16

unless_few : (scale : Scale) (file : TypedFileTree) (o : Option Limit) → find (is_exceeded scale file) laid_limits ≡ o
    → OnAnswer (FewMutexes file) (unless_beyond file o)
unfolding laid_count
unless_few scale file (Some l) e = tt
unless_few scale file None e =
    let a = none_found (is_exceeded scale file Limits.Tasks) Limits.Tasks _ e in
    let b = none_found (is_exceeded scale file Limits.Mutexes) Limits.Mutexes _ a.1 in
    ltb-false 16 (length file.mutexes) (within_large scale file Limits.Mutexes b.0)

pub few_mutexes : (laid : LaidTree) → IsLaidFile laid → length laid.file.mutexes ≤ 16
few_mutexes laid h =
    let few : length (let f : TypedFileTree = h.file in f.mutexes) ≤ 16 =
    from_answer (FewMutexes h.file) (laid_out h.scale h.file) laid
    (unless_few h.scale h.file (find (is_exceeded h.scale h.file) laid_limits) refl) h.answered in
    subst (λ (x : TypedFileTree). length x.mutexes ≤ 16) (file_is laid h) few
