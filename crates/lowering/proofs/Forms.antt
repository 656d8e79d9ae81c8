-- What is built of parts in each form, operators and loads, does what the interpreter does there.
use Rattle.std.proofs.Common.{◌≡◌, ℕ, Bool, true, false, refl, sym, ◌∙◌, ap, arith}
use Rattle.std.specs.Prelude.{if◌then◌else◌, Some, None}
use Rattle.std.proofs.Math.Path.{fun_ext}
use Rattle.concrete_steps.specs.tm_cint.declared.int_types.IntType.{IntType}
use Rattle.concrete_steps.specs.tm_cint.declared.operators.BinOp.{BinOp}
use Rattle.concrete_steps.specs.tm_cint.Operators.{IsComparison}
use Rattle.concrete_steps.specs.tm_terms.declared.places.Place.{Place}
use Rattle.concrete_steps.specs.tm_typed.declared.types.Scalar.{Scalar}
use Rattle.concrete_steps.specs.tm_typed.TypedTrees.{RvalueTree}
use Rattle.concrete_steps.specs.tm_laid.Layouts.{LaidTree}
use Rattle.concrete_steps.specs.concrete_values.declared.values.Value.{Value}
use Rattle.concrete_steps.specs.concrete_values.Values.{truth_value, is_true}
use Rattle.concrete_steps.specs.concrete_values.Operators.{binary}
use Rattle.concrete_steps.specs.concrete_values.Pointers.{usable}
use Rattle.concrete_steps.specs.concrete_values.Actions.{load_at}
use Rattle.concrete_steps.specs.NextAction.{After, act_then, result_then, Use, as_value, as_branch, value_used}
use Rattle.concrete_steps.specs.NextAction.{truth_used}
use Rattle.concrete_steps.specs.NextAction.{Here, expr_then}
use Rattle.flow_graph.specs.Operations.{given_by, is_given_true}
use Rattle.lowering.specs.Steps.{Steps, Inputs, Code, Fork}
use Rattle.lowering.specs.Steps.{fork_by}
use Rattle.lowering.specs.Table.{Conversion, implied, Codes, valued, decided, binary_code}
use Rattle.lowering.specs.Table.{comparison_steps, comparison_test, load_code}
use Rattle.lowering.specs.Table.{converted_code, call_has_value, has_value}
use Rattle.lowering.specs.Table.{codes}
use Rattle.lowering.proofs.Meaning.{doing_then, Calls, code_then, fork_then}
use Rattle.lowering.proofs.Scopes.{HasResult, InScope as StepsScope, InputsInScope as InputsScope}
use Rattle.lowering.proofs.Scopes.{CodeInScope as CodeScope, ForkInScope as ForkScope}
use Rattle.lowering.proofs.Calculations.{kept, applied, usable_law}

module _ (laid : LaidTree) (path : ℕ) (call : Calls) where
  abbrev pub here : Here
  here = record { laid = laid; path = path; call = call }

  abbrev pub InScope : ℕ → Steps → Type 0
  InScope n steps = StepsScope (call_has_value laid path) n steps

  abbrev pub InputsInScope : Inputs → Type 0
  InputsInScope es = InputsScope (call_has_value laid path) es

  abbrev pub CodeInScope : Code → Type 0
  CodeInScope c = CodeScope (call_has_value laid path) c

  abbrev pub ForkInScope : Fork → Type 0
  ForkInScope f = ForkScope (call_has_value laid path) f

  abbrev pub value_by : Code → (Value → After) → After
  value_by c k = code_then laid call c k

  -- what the codes of an expression have to be
  pub record LawFor (x : Codes) (has : Bool) (c : Conversion) (e : RvalueTree) : Type 0 where
    pub value : (go : Value → After) → code_then laid call x.value go ≡ expr_then here e
        (as_value (λ v. go (kept has v)))
    pub bare : has ≡ true → (go : Value → After) → code_then laid call x.bare (λ v. go (applied c v)) ≡ expr_then here e
        (as_value go)
    pub fork : has ≡ true → (one other : After) → fork_then laid call x.fork one other ≡ expr_then here e
        (as_branch one other)
    pub value_scope : CodeInScope x.value
    pub bare_scope : CodeInScope x.bare
    pub fork_scope : has ≡ true → ForkInScope x.fork
    pub value_result : has ≡ true → HasResult x.value
    pub bare_result : has ≡ true → HasResult x.bare

  abbrev pub Law : RvalueTree → Type 0
  Law e = LawFor (codes laid path e) (has_value laid path e) (implied e) e

  -- an expression that has a value
  pub exact : (e : RvalueTree) → Law e → has_value laid path e ≡ true → (go : Value → After)
      → code_then laid call (codes laid path e).value go ≡ expr_then here e (as_value go)
  exact e l h go = l.value go ∙ ap (λ b. expr_then here e (as_value (λ v. go (kept b v)))) h

  -- a value, with what comes after it
  pub valued_law : (e : RvalueTree) (pointer : Bool) (p : Place) (c : Code) (has : Bool) (B : (Value → After) → After)
      → ((how : Use) → expr_then here e how ≡ B (value_used how pointer p))
      → ((k : Value → After) → code_then laid call c k ≡ B (λ v. k (kept has v)))
      → CodeInScope c → (has ≡ true → HasResult c) → LawFor (valued pointer p c) has None e
  valued_law e false p c has B is h scope result = record {
    value = λ go. h go ∙ sym (is (as_value (λ v. go (kept has v))));
    bare = λ t go. (h go ∙ ap (λ b. B (λ v. go (kept b v))) t) ∙ sym (is (as_value go));
    fork = λ t one other. (h (λ v. if is_true v then one else other)
        ∙ ap (λ b. B (λ v. if is_true (kept b v) then one else other)) t) ∙ sym (is (as_branch one other));
    value_scope = scope;
    bare_scope = scope;
    fork_scope = λ t. (((scope, result t), tt), (omega arith, tt), tt);
    value_result = result;
    bare_result = result;
  }
  valued_law e true p c has B is h scope result = record {
    value = λ go. h go ∙ sym (is (as_value (λ v. go (kept has v))));
    bare = λ t go. (h go ∙ ap (λ b. B (λ v. go (kept b v))) t) ∙ sym (is (as_value go));
    fork = λ t one other.
        (ap (λ f. code_then laid call c f) (fun_ext (λ v. usable_law laid v p (λ u. if is_true u then one else other)))
        ∙ (h (λ v. result_then (usable v) p (λ u. if is_true u then one else other))
        ∙ ap (λ b. B (λ v. result_then (usable (kept b v)) p (λ u. if is_true u then one else other))) t))
        ∙ sym (is (as_branch one other));
    value_scope = scope;
    bare_scope = scope;
    fork_scope = λ t. (((scope, result t), (((omega arith, tt), tt), tt)), (omega arith, tt), tt);
    value_result = result;
    bare_result = result;
  }

  -- a truth, by control flow
  pub decided_law : (e : RvalueTree) (f : Fork) (B : After → After → After)
      → ((how : Use) → expr_then here e how ≡ B (truth_used how true) (truth_used how false))
      → ((one other : After) → fork_then laid call f one other ≡ B one other) → ForkInScope f
      → LawFor (decided f) true None e
  decided_law e f B is h scope = record {
    value = λ go. h (go (truth_value true)) (go (truth_value false)) ∙ sym (is (as_value go));
    bare = λ t go. h (go (truth_value true)) (go (truth_value false)) ∙ sym (is (as_value go));
    fork = λ t one other. h one other ∙ sym (is (as_branch one other));
    value_scope = ((scope, tt), omega arith);
    bare_scope = ((scope, tt), omega arith);
    fork_scope = λ t. scope;
    value_result = λ t. tt;
    bare_result = λ t. tt;
  }

  -- ## Operators with implied conversions

  pub binary_then : (op : BinOp) (t : IntType) (p : Place) (l : Code) (cl : Conversion) (r : Code) (cr : Conversion)
      (k : Value → After)
      → code_then laid call (binary_code op t p l cl r cr) k
      ≡ code_then laid call l (λ x. code_then laid call r
      (λ y. doing_then laid (given_by p (binary op t (applied cl x) (applied cr y))) k))
  binary_then op t p l None r None k = refl
  binary_then op t p l (Some c) r None k = refl
  binary_then op t p l None r (Some d) k = refl
  binary_then op t p l (Some c) r (Some d) k = refl

  pub comparison_then : (op : BinOp) (t : IntType) (l : Code) (cl : Conversion) (r : Code) (cr : Conversion)
      (one other : After)
      → fork_then laid call (fork_by (comparison_steps l cl r cr) (comparison_test op t cl cr)) one other
      ≡ code_then laid call l (λ x. code_then laid call r
      (λ y. if is_given_true (binary op t (applied cl x) (applied cr y)) then one else other))
  comparison_then op t l None r None one other = refl
  comparison_then op t l (Some c) r None one other = refl
  comparison_then op t l None r (Some d) one other = refl
  comparison_then op t l (Some c) r (Some d) one other = refl

  pub binary_scope : (op : BinOp) (t : IntType) (p : Place) (l : Code) (cl : Conversion) (r : Code) (cr : Conversion)
      → CodeInScope l → HasResult l → CodeInScope r → HasResult r
      → CodeInScope (binary_code op t p l cl r cr)
  binary_scope op t p l None r None sl hl sr hr =
      (((sl, hl), ((sr, hr), (((omega arith, (omega arith, tt)), tt), tt))), omega arith)
  binary_scope op t p l (Some c) r None sl hl sr hr =
      (((sl, hl), ((sr, hr), (((omega arith, tt), tt), (((omega arith, (omega arith, tt)), tt), tt)))), omega arith)
  binary_scope op t p l None r (Some d) sl hl sr hr =
      (((sl, hl), ((sr, hr), (((omega arith, tt), tt), (((omega arith, (omega arith, tt)), tt), tt)))), omega arith)
  binary_scope op t p l (Some c) r (Some d) sl hl sr hr = (
    (
      (sl, hl),
      (
        (sr, hr),
        (
          ((omega arith, tt), tt),
          (((omega arith, tt), tt), (((omega arith, (omega arith, tt)), tt), tt)),
        ),
      ),
    ),
    omega arith,
  )

  pub comparison_scope : (op : BinOp) (t : IntType) (l : Code) (cl : Conversion) (r : Code) (cr : Conversion)
      → CodeInScope l → HasResult l → CodeInScope r → HasResult r
      → IsComparison op → ForkInScope (fork_by (comparison_steps l cl r cr) (comparison_test op t cl cr))
  comparison_scope op t l None r None sl hl sr hr is =
      (((sl, hl), ((sr, hr), tt)), (omega arith, (omega arith, tt)), is)
  comparison_scope op t l (Some c) r None sl hl sr hr is =
      (((sl, hl), ((sr, hr), (((omega arith, tt), tt), tt))), (omega arith, (omega arith, tt)), is)
  comparison_scope op t l None r (Some d) sl hl sr hr is =
      (((sl, hl), ((sr, hr), (((omega arith, tt), tt), tt))), (omega arith, (omega arith, tt)), is)
  comparison_scope op t l (Some c) r (Some d) sl hl sr hr is = (
    ((sl, hl), ((sr, hr), (((omega arith, tt), tt), (((omega arith, tt), tt), tt)))),
    (omega arith, (omega arith, tt)),
    is,
  )

  -- ## Loads and stores

  pub load_then : (volatile : Bool) (s : Scalar) (p : Place) (a : Code) (k : Value → After)
      → code_then laid call (load_code volatile s p a) k ≡ code_then laid call a
      (λ x. act_then laid (load_at x s volatile p) k)
  load_then true s p a k = refl
  load_then false s p a k = refl

  pub load_scope : (volatile : Bool) (s : Scalar) (p : Place) (a : Code) → CodeInScope a → HasResult a
      → CodeInScope (load_code volatile s p a)
  load_scope true s p a sa ha = (((sa, ha), (((omega arith, tt), tt), tt)), omega arith)
  load_scope false s p a sa ha = (((sa, ha), (((omega arith, tt), tt), tt)), omega arith)

  pub load_result : (volatile : Bool) (s : Scalar) (p : Place) (a : Code) → HasResult (load_code volatile s p a)
  load_result true s p a = tt
  load_result false s p a = tt

  pub converted_then : (c : Conversion) (e : Code) (k : Value → After) → code_then laid call
      (converted_code c e) k ≡ code_then laid call e (λ x. k (applied c x))
  converted_then None e k = refl
  converted_then (Some c) e k = refl

  pub converted_scope : (c : Conversion) (e : Code) → CodeInScope e → HasResult e → CodeInScope (converted_code c e)
  converted_scope None e se he = (((se, he), tt), omega arith)
  converted_scope (Some c) e se he = (((se, he), (((omega arith, tt), tt), tt)), omega arith)
