-- The table does what the interpreter does, form by form.
use Rattle.std.proofs.Common.{◌≡◌, ℕ, Bool, true, false, pos, List, ◌∷◌, refl, sym, ◌∙◌, ap, arith}
use Rattle.std.specs.Prelude.{if◌then◌else◌, Result, Some, None}
use Rattle.std.proofs.Math.Path.{fun_ext}
use Rattle.concrete_steps.specs.tm_cint.declared.Class.{Class}
use Rattle.concrete_steps.specs.tm_cint.declared.int_types.IntType.{IntType}
use Rattle.concrete_steps.specs.tm_cint.declared.int_types.IntType.TheVariants as Ints
use Rattle.concrete_steps.specs.tm_cint.declared.operators.BinOp.{BinOp}
use Rattle.concrete_steps.specs.tm_terms.declared.places.Place.{Place}
use Rattle.concrete_steps.specs.tm_typed.declared.types.Scalar.TheVariants as Scalars
use Rattle.concrete_steps.specs.tm_typed.declared.expressions.Step.{Step as StepBy}
use Rattle.concrete_steps.specs.tm_typed.Rules.{is_comparison}
use Rattle.concrete_steps.specs.tm_typed.TypedTrees.{RvalueTree, a_constant, a_folded, a_null, a_load, an_address}
use Rattle.concrete_steps.specs.tm_typed.TypedTrees.{a_structure}
use Rattle.concrete_steps.specs.tm_typed.TypedTrees.{the_same, a_unary, a_binary, a_comparison_of_pointers, a_move}
use Rattle.concrete_steps.specs.tm_typed.TypedTrees.{a_not, an_and}
use Rattle.concrete_steps.specs.tm_typed.TypedTrees.{an_or, a_choice, an_assignment, a_compound, a_compound_move}
use Rattle.concrete_steps.specs.tm_typed.TypedTrees.{a_unit_step}
use Rattle.concrete_steps.specs.tm_typed.TypedTrees.{a_pointer_step, a_function_call, an_input_value, a_probe, a_comma}
use Rattle.concrete_steps.specs.tm_typed.TypedTrees.{a_conversion}
use Rattle.concrete_steps.specs.tm_typed.TypedTrees.{a_discard, LvalueTree, an_object, an_element, a_pointed_element}
use Rattle.concrete_steps.specs.tm_typed.TypedTrees.{a_pointed}
use Rattle.concrete_steps.specs.tm_typed.TypedTrees.{an_arrow, a_part, RvalueTrees, no_rvalues, and_rvalue}
use Rattle.concrete_steps.specs.tm_typed.TypedTrees.{lvalue_place}
use Rattle.concrete_steps.specs.tm_laid.Layouts.{LaidTree}
use Rattle.concrete_steps.specs.concrete_values.declared.values.Value.{Value}
use Rattle.concrete_steps.specs.concrete_values.declared.values.Value.TheVariants.{Number, Pointer as APointer}
use Rattle.concrete_steps.specs.concrete_values.declared.values.Pointer.TheVariants as Pointers
use Rattle.concrete_steps.specs.concrete_values.declared.actions.Next.{Next}
use Rattle.concrete_steps.specs.concrete_values.declared.actions.Next.TheVariants as Acts
use Rattle.concrete_steps.specs.concrete_values.Values.{nothing, truth_value}
use Rattle.concrete_steps.specs.concrete_values.Operators.{unary, binary, converted}
use Rattle.concrete_steps.specs.concrete_values.Pointers.{part, element, moved, dereferenced, usable, is_compared}
use Rattle.concrete_steps.specs.concrete_values.Actions.{load_at, store_at}
use Rattle.concrete_steps.specs.Places.{rvalue_place, is_pointer_scalar, gives_pointer}
use Rattle.concrete_steps.specs.NextAction.{After, act_then, result_then, as_value, as_branch, value_used}
use Rattle.concrete_steps.specs.NextAction.{compound_result, step_operator, step_value}
use Rattle.concrete_steps.specs.NextAction.{expr_then, address_then, arguments_then}
use Rattle.flow_graph.specs.Operations.{given_by, is_given_true}
use Rattle.flow_graph.specs.declared.operations.Operation.TheVariants as Op
use Rattle.lowering.specs.Steps.{no_more, first_then, operate, value_of, only_do, Code, code, Fork}
use Rattle.lowering.specs.Steps.{fork_by, converse, both_of, either_of}
use Rattle.lowering.specs.Table.{conversion, implied, is_same_place, valued, binary_code}
use Rattle.lowering.specs.Table.{comparison_steps, comparison_test, binary_codes, move_code, load_code, choice_code}
use Rattle.lowering.specs.Table.{comma_code, assignment_code, compound_code}
use Rattle.lowering.specs.Table.{unit_step_code, moved_code, converted_code, call_code, call_has_value, has_value, into}
use Rattle.lowering.specs.Table.{codes, address_code, inputs}
use Rattle.lowering.specs.Lowerable.{Valued, ValuedAt, AllValued}
use Rattle.lowering.proofs.Meaning.{doing_then, Calls, inputs_then, code_then, fork_then}
use Rattle.lowering.proofs.Scopes.{HasResult}
use Rattle.lowering.proofs.Calculations.{applied, applied_conversion, given_law, usable_law}
use Rattle.lowering.proofs.Calculations.{comparison_law, comparison_is}
use Rattle.lowering.proofs.Forms as Forms
use Rattle.lowering.proofs.CompoundForms as CompoundForms
use Rattle.lowering.proofs.StepForms as StepForms

module _ (laid : LaidTree) (path : ℕ) (call : Calls) where
  -- ## Each form

  -- what an address has to be
  pub record AddressLaw (l : LvalueTree) : Type 0 where
    pub law : (go : Value → After) → code_then laid call (address_code laid path l) go ≡ address_then
        (Forms.here laid path call) l go
    pub scope : Forms.CodeInScope laid path call (address_code laid path l)
    pub result : HasResult (address_code laid path l)

  pub record InputsLaw (es : RvalueTrees) : Type 0 where
    pub law : (go : List Value → After) → inputs_then laid call (inputs laid path es) go ≡ arguments_then
        (Forms.here laid path call) es go
    pub scope : Forms.InputsInScope laid path call (inputs laid path es)

  -- what comes after an expression, an address
  after_value : (e : RvalueTree) {f g : Value → After} → ((v : Value) → f v ≡ g v)
      → expr_then (Forms.here laid path call) e
      (as_value f) ≡ expr_then (Forms.here laid path call) e (as_value g)
  after_value e h = ap (λ k. expr_then (Forms.here laid path call) e (as_value k)) (fun_ext h)

  after_address : (l : LvalueTree) {f g : Value → After} → ((v : Value) → f v ≡ g v)
      → address_then (Forms.here laid path call) l f ≡ address_then (Forms.here laid path call) l g
  after_address l h = ap (λ k. address_then (Forms.here laid path call) l k) (fun_ext h)

  after_act : (n : Next) {f g : Value → After} → ((v : Value) → f v ≡ g v) → act_then laid n f ≡ act_then laid n g
  after_act n h = ap (λ k. act_then laid n k) (fun_ext h)

  after_result : (r : Result Value Class) (p : Place) {f g : Value → After} → ((v : Value) → f v ≡ g v)
      → result_then r p f ≡ result_then r p g
  after_result r p h = ap (λ k. result_then r p k) (fun_ext h)

  after_code : (c : Code) {f g : Value → After} → ((v : Value) → f v ≡ g v)
      → code_then laid call c f ≡ code_then laid call c g
  after_code c h = ap (λ k. code_then laid call c k) (fun_ext h)

  -- a binary operator
  binary_law : (op : BinOp) (t : IntType) (l r : RvalueTree) (p : Place) → Forms.Law laid path call l
      → has_value laid path l ≡ true → Forms.Law laid path call r
      → has_value laid path r ≡ true
      → Forms.Law laid path call (a_binary op t l r p)
  binary_law op t l r p ll hl lr hr = by_case (is_comparison op) refl
    where
      x : Code
      x = (codes laid path l).bare

      y : Code
      y = (codes laid path r).bare

      B : (Value → After) → After
      B k = expr_then (Forms.here laid path call) l
          (as_value (λ v. expr_then (Forms.here laid path call) r (as_value (λ w. result_then (binary op t v w) p k))))

      value_is : (k : Value → After) → code_then laid call (binary_code op t p x (implied l) y (implied r)) k ≡ B k
      value_is k =
          (Forms.binary_then laid path call) op t p x (implied l) y (implied r) k
          ∙ (ll.bare hl (λ v. code_then laid call y
          (λ w. doing_then laid (given_by p (binary op t v (applied (implied r) w))) k))
          ∙ after_value l (λ v. lr.bare hr (λ w. doing_then laid (given_by p (binary op t v w)) k)
          ∙ after_value r (λ w. given_law laid (binary op t v w) p k)))

      fork_is : is_comparison op ≡ true → (one other : After)
          → fork_then laid call (fork_by (comparison_steps x (implied l) y (implied r))
          (comparison_test op t (implied l) (implied r))) one other
          ≡ B (value_used (as_branch one other) false p)
      fork_is c one other =
          (Forms.comparison_then laid path call) op t x (implied l) y (implied r) one other
          ∙ (ll.bare hl (λ v. code_then laid call y (λ w. if is_given_true (binary op t v (applied (implied r) w))
          then one else other))
          ∙ after_value l (λ v. lr.bare hr (λ w. if is_given_true (binary op t v w) then one else other)
          ∙ after_value r (λ w. comparison_law op c t v w p one other)))

      scope : Forms.CodeInScope laid path call (binary_code op t p x (implied l) y (implied r))
      scope = Forms.binary_scope laid path call op t p x (implied l) y (implied r) ll.bare_scope
          (ll.bare_result hl) lr.bare_scope
          (lr.bare_result hr)

      by_case : (b : Bool) → is_comparison op ≡ b → Forms.LawFor laid path call
          (binary_codes b op t p x (implied l) y (implied r)) true None
          (a_binary op t l r p)
      by_case false e = Forms.valued_law laid path call (a_binary op t l r p) false p
          (binary_code op t p x (implied l) y (implied r)) true B
          (λ how. refl) value_is scope (λ h. tt)
      by_case true e = record {
        value = λ go. value_is go;
        bare = λ h go. value_is go;
        fork = λ h one other. fork_is e one other;
        value_scope = scope;
        bare_scope = scope;
        fork_scope = λ h. Forms.comparison_scope laid path call op t x (implied l) y (implied r) ll.bare_scope
            (ll.bare_result hl) lr.bare_scope (lr.bare_result hr) (comparison_is op e);
        value_result = λ h. tt;
        bare_result = λ h. tt;
      }

  pointers_law : (equal : Bool) (l r : RvalueTree) (p : Place) → Forms.Law laid path call l
      → has_value laid path l ≡ true
      → Forms.Law laid path call r
      → has_value laid path r ≡ true
      → Forms.Law laid path call (a_comparison_of_pointers equal l r p)
  pointers_law equal l r p ll hl lr hr = record {
    value = λ go. meets (λ v w. go (truth_value (is_compared equal v w)));
    bare = λ h go. meets (λ v w. go (truth_value (is_compared equal v w)));
    fork = λ h one other. meets (λ v w. if is_compared equal v w then one else other);
    value_scope = (
      ((
        (ll.value_scope, ll.value_result hl),
        (
          (lr.value_scope, lr.value_result hr),
          (((omega arith, tt), tt), (((omega arith, tt), tt), (((omega arith, (omega arith, tt)), tt), tt))),
        ),
      )),
      omega arith,
    );
    bare_scope = (
      ((
        (ll.value_scope, ll.value_result hl),
        (
          (lr.value_scope, lr.value_result hr),
          (((omega arith, tt), tt), (((omega arith, tt), tt), (((omega arith, (omega arith, tt)), tt), tt))),
        ),
      )),
      omega arith,
    );
    fork_scope = λ h. (
      (
        (ll.value_scope, ll.value_result hl),
        ((lr.value_scope, lr.value_result hr), (((omega arith, tt), tt), (((omega arith, tt), tt), tt))),
      ),
      (omega arith, (omega arith, tt)),
      tt,
    );
    value_result = λ h. tt;
    bare_result = λ h. tt;
  }
    where
      x : Code
      x = (codes laid path l).value

      y : Code
      y = (codes laid path r).value

      meets : (f : Value → Value → After)
          → code_then laid call x (λ v. code_then laid call y
          (λ w. doing_then laid (given_by p (usable v))
          (λ a. doing_then laid (given_by p (usable w)) (λ b. f v w))))
          ≡ expr_then (Forms.here laid path call) l (as_value (λ v. expr_then (Forms.here laid path call) r
          (as_value (λ w. result_then (usable v) p (λ a. result_then (usable w) p (λ b. f a b))))))
      meets f =
          (Forms.exact laid path call) l ll hl (λ v. code_then laid call y
          (λ w. doing_then laid (given_by p (usable v))
          (λ a. doing_then laid (given_by p (usable w)) (λ b. f v w))))
          ∙ after_value l (λ v. Forms.exact laid path call r lr hr
          (λ w. doing_then laid (given_by p (usable v)) (λ a. doing_then laid (given_by p (usable w)) (λ b. f v w)))
          ∙ after_value r (λ w. ap (λ z. doing_then laid (given_by p (usable v)) (λ a. z))
          (usable_law laid w p (λ b. f v b))
          ∙ usable_law laid v p (λ a. result_then (usable w) p (λ b. f a b))))

  move_law : (minus : Bool) (cells : ℕ) (first : Bool) (e i : RvalueTree) (p : Place) → Forms.Law laid path call e
      → has_value laid path e ≡ true → Forms.Law laid path call i → has_value laid path i ≡ true
      → Forms.Law laid path call (a_move minus cells first e i p)
  move_law minus cells false e i p le he li hi =
      (Forms.valued_law laid path call) (a_move minus cells false e i p) true p
      (move_code minus cells false p (codes laid path e).value (codes laid path i).value) true
      (λ k. expr_then (Forms.here laid path call) e (as_value
      (λ x. expr_then (Forms.here laid path call) i
      (as_value (λ y. result_then (moved laid minus cells x y) p k)))))
      (λ how. refl)
      (λ k. Forms.exact laid path call e le he (λ x. code_then laid call (codes laid path i).value
      (λ y. doing_then laid (given_by p (moved laid minus cells x y)) k))
      ∙ after_value e (λ x. Forms.exact laid path call i li hi
      (λ y. doing_then laid (given_by p (moved laid minus cells x y)) k)
      ∙ after_value i (λ y. given_law laid (moved laid minus cells x y) p k))) (
        (
          (le.value_scope, le.value_result he),
          ((li.value_scope, li.value_result hi), (((omega arith, (omega arith, tt)), tt), tt)),
        ),
        omega arith,
      ) (λ h. tt)
  move_law minus cells true e i p le he li hi =
      (Forms.valued_law laid path call) (a_move minus cells true e i p) true p
      (move_code minus cells true p (codes laid path e).value (codes laid path i).value) true
      (λ k. expr_then (Forms.here laid path call) i (as_value
      (λ y. expr_then (Forms.here laid path call) e
      (as_value (λ x. result_then (moved laid minus cells x y) p k)))))
      (λ how. refl)
      (λ k. Forms.exact laid path call i li hi (λ y. code_then laid call (codes laid path e).value
      (λ x. doing_then laid (given_by p (moved laid minus cells x y)) k))
      ∙ after_value i (λ y. Forms.exact laid path call e le he
      (λ x. doing_then laid (given_by p (moved laid minus cells x y)) k)
      ∙ after_value e (λ x. given_law laid (moved laid minus cells x y) p k))) (
        (
          (li.value_scope, li.value_result hi),
          ((le.value_scope, le.value_result he), (((omega arith, (omega arith, tt)), tt), tt)),
        ),
        omega arith,
      ) (λ h. tt)

  choice_law : (c x y : RvalueTree) (p : Place) → Forms.Law laid path call c → has_value laid path c ≡ true
      → Forms.Law laid path call x → Forms.Law laid path call y
      → has_value laid path y ≡ has_value laid path x
      → Forms.Law laid path call (a_choice c x y p)
  choice_law c x y p lc hc lx ly same = by_case (has_value laid path x) refl
    where
      F : Fork
      F = (codes laid path c).fork

      X : Code
      X = (codes laid path x).value

      Y : Code
      Y = (codes laid path y).value

      B : (Value → After) → After
      B k = expr_then (Forms.here laid path call) c (as_branch (expr_then (Forms.here laid path call) x (as_value k))
          (expr_then (Forms.here laid path call) y (as_value k)))

      both : (k : Value → After) → code_then laid call X k ≡ expr_then (Forms.here laid path call) x (as_value k)
          → code_then laid call Y k ≡ expr_then (Forms.here laid path call) y (as_value k)
          → fork_then laid call F (code_then laid call X k) (code_then laid call Y k) ≡ B k
      both k ex ey = ap (λ z. fork_then laid call F z (code_then laid call Y k)) ex
          ∙ (ap (λ z. fork_then laid call F (expr_then (Forms.here laid path call) x (as_value k)) z) ey
          ∙ lc.fork hc (expr_then (Forms.here laid path call) x (as_value k))
          (expr_then (Forms.here laid path call) y (as_value k)))

      by_case : (b : Bool) → has_value laid path x ≡ b
          → Forms.LawFor laid path call (valued (gives_pointer laid x) p (choice_code b F X Y)) b None
          (a_choice c x y p)
      by_case true e = Forms.valued_law laid path call (a_choice c x y p) (gives_pointer laid x) p
          (choice_code true F X Y) true B
          (λ how. refl)
          (λ k. both k (Forms.exact laid path call x lx e k) (Forms.exact laid path call y ly (same ∙ e) k)) (
            ((lc.fork_scope hc, lx.value_scope, lx.value_result e, ly.value_scope, ly.value_result (same ∙ e)), tt),
            omega arith,
          ) (λ h. tt)
      by_case false e = Forms.valued_law laid path call (a_choice c x y p) (gives_pointer laid x) p
          (choice_code false F X Y) false B
          (λ how. refl)
          (λ k. both (λ v. k nothing) (lx.value (λ v. k nothing)) (ly.value (λ v. k nothing)))
          (((lc.fork_scope hc, lx.value_scope, ly.value_scope), tt), tt) (λ h. absurd (cc))

  call_law : (f site : ℕ) (es : RvalueTrees) (p : Place) → InputsLaw es → Forms.Law laid path call
      (a_function_call f site es p)
  call_law f site es p li = by_case (call_has_value laid path site) refl
    where
      B : (Value → After) → After
      B k = arguments_then (Forms.here laid path call) es (λ vs. call site vs p k)

      by_case : (b : Bool) → call_has_value laid path site ≡ b
          → Forms.LawFor laid path call (valued (gives_pointer laid (a_function_call f site es p)) p
          (call_code b site p (inputs laid path es))) b None (a_function_call f site es p)
      by_case true e = Forms.valued_law laid path call (a_function_call f site es p)
          (gives_pointer laid (a_function_call f site es p)) p
          (call_code true site p (inputs laid path es)) true B (λ how. refl)
          (λ k. li.law (λ vs. call site vs p k)) (((li.scope, sym e), tt), omega arith) (λ h. tt)
      by_case false e = Forms.valued_law laid path call (a_function_call f site es p)
          (gives_pointer laid (a_function_call f site es p)) p
          (call_code false site p (inputs laid path es)) false B (λ how. refl)
          (λ k. li.law (λ vs. call site vs p (λ v. k nothing))) (((li.scope, sym e), tt), tt) (λ h. absurd (cc))

  comma_law : (l r : RvalueTree) (p : Place) → Forms.Law laid path call l → Forms.Law laid path call r
      → Forms.Law laid path call
      (a_comma l r p)
  comma_law l r p ll lr = by_case (has_value laid path r) refl
    where
      B : (Value → After) → After
      B k = expr_then (Forms.here laid path call) l
          (as_value (λ u. expr_then (Forms.here laid path call) r (as_value k)))

      by_case : (b : Bool) → has_value laid path r ≡ b
          → Forms.LawFor laid path call (valued (gives_pointer laid r) p
          (comma_code b (codes laid path l).value (codes laid path r).value)) b None (a_comma l r p)
      by_case true e = Forms.valued_law laid path call (a_comma l r p) (gives_pointer laid r) p
          (comma_code true (codes laid path l).value (codes laid path r).value) true B (λ how. refl)
          (λ k. ll.value (λ u. code_then laid call (codes laid path r).value k)
          ∙ after_value l (λ u. Forms.exact laid path call r lr e k))
          ((ll.value_scope, ((lr.value_scope, lr.value_result e), tt)), omega arith) (λ h. tt)
      by_case false e = Forms.valued_law laid path call (a_comma l r p) (gives_pointer laid r) p
          (comma_code false (codes laid path l).value (codes laid path r).value) false B (λ how. refl)
          (λ k. ll.value (λ u. code_then laid call (codes laid path r).value (λ v. k nothing))
          ∙ after_value l (λ u. lr.value (λ v. k nothing)))
          ((ll.value_scope, (lr.value_scope, tt)), tt) (λ h. absurd (cc))

  conversion_law : (from to : IntType) (e : RvalueTree) (p : Place) → Forms.Law laid path call e
      → has_value laid path e ≡ true
      → Forms.Law laid path call (a_conversion from to e p)
  conversion_law from to e p le he = by_case (is_same_place p (rvalue_place e))
    where
      E : Code
      E = (codes laid path e).value

      C : Code
      C = converted_code (conversion from to) E

      B : (Value → After) → After
      B k = expr_then (Forms.here laid path call) e (as_value (λ x. k (converted from to x)))

      is : (k : Value → After) → code_then laid call E (λ x. k (applied (conversion from to) x)) ≡ B k
      is k = Forms.exact laid path call e le he (λ x. k (applied (conversion from to) x))
          ∙ after_value e (λ x. ap k (applied_conversion from to x))

      whole : Forms.LawFor laid path call (valued false p C) true None (a_conversion from to e p)
      whole = Forms.valued_law laid path call (a_conversion from to e p) false p C true B (λ how. refl)
          (λ k. Forms.converted_then laid path call (conversion from to) E k ∙ is k)
          (Forms.converted_scope laid path call (conversion from to) E le.value_scope (le.value_result he)) (λ h. tt)

      by_case : (b : Bool) → Forms.LawFor laid path call (record (valued false p C) { bare = if b then E else C }) true
          (if b then conversion from to else None) (a_conversion from to e p)
      by_case true = record {
        value = whole.value;
        bare = λ h go. is go;
        fork = whole.fork;
        value_scope = whole.value_scope;
        bare_scope = le.value_scope;
        fork_scope = whole.fork_scope;
        value_result = whole.value_result;
        bare_result = λ h. le.value_result he;
      }
      by_case false = record {
        value = whole.value;
        bare = whole.bare;
        fork = whole.fork;
        value_scope = whole.value_scope;
        bare_scope = whole.bare_scope;
        fork_scope = whole.fork_scope;
        value_result = whole.value_result;
        bare_result = whole.bare_result;
      }

  compound_law : (o : BinOp) (cell of : IntType) (volatile : Bool) (l : LvalueTree) (e : RvalueTree) (p : Place)
      → AddressLaw l → Forms.Law laid path call e → has_value laid path e ≡ true
      → Forms.Law laid path call (a_compound o cell of volatile l e p)
  compound_law o cell of volatile l e p la le he =
      (Forms.valued_law laid path call) (a_compound o cell of volatile l e p) false p
      (compound_code o cell of volatile (into laid path l) (lvalue_place l) p (address_code laid path l)
      (codes laid path e).bare (implied e)) true
      (λ k. address_then (Forms.here laid path call) l
      (λ a. act_then laid (load_at a (Scalars.Int cell) volatile (lvalue_place l))
      (λ x. expr_then (Forms.here laid path call) e (as_value (λ y.
      result_then (compound_result o cell of x y) p
      (λ v. act_then laid (store_at a (Scalars.Int cell) v p) (λ u. k v)))))))
      (λ how. refl)
      (λ k. CompoundForms.compound_then laid path call o cell of volatile (into laid path l) (lvalue_place l) p
      (address_code laid path l)
      (codes laid path e).bare (implied e) k
      ∙ (la.law _ ∙ after_address l (λ a. after_act (load_at a (Scalars.Int cell) volatile (lvalue_place l)) (λ x.
      le.bare he (λ y. doing_then laid (given_by p (binary o of (applied (conversion cell of) x) y)) (λ v.
      act_then laid (store_at a (Scalars.Int cell) (applied (conversion of cell) v) p)
      (λ u. k (applied (conversion of cell) v))))
      ∙ after_value e (λ y. ap (λ z. doing_then laid (given_by p (binary o of z y)) (λ v.
      act_then laid (store_at a (Scalars.Int cell) (applied (conversion of cell) v) p)
      (λ u. k (applied (conversion of cell) v)))) (applied_conversion cell of x)
      ∙ CompoundForms.stored_law laid path call of cell (binary o of (converted cell of x) y) p
      (λ v. act_then laid (store_at a (Scalars.Int cell) v p) (λ u. k v)))))))
      (CompoundForms.compound_scope laid path call o cell of volatile (into laid path l) (lvalue_place l) p
      (address_code laid path l)
      (codes laid path e).bare (implied e) la.scope la.result le.bare_scope (le.bare_result he))
      (λ h. tt)

  compound_move_law : (minus : Bool) (cells class : ℕ) (l : LvalueTree) (e : RvalueTree) (p : Place) → AddressLaw l
      → Forms.Law laid path call e → has_value laid path e ≡ true
      → Forms.Law laid path call (a_compound_move minus cells class l e p)
  compound_move_law minus cells class l e p la le he =
      (Forms.valued_law laid path call) (a_compound_move minus cells class l e p) true p
      (moved_code minus cells class (into laid path l) (lvalue_place l) p (address_code laid path l)
      (value_of (codes laid path e).value) 3) true
      (λ k. address_then (Forms.here laid path call) l
      (λ a. act_then laid (load_at a (Scalars.Pointer class) false (lvalue_place l))
      (λ x. expr_then (Forms.here laid path call) e (as_value (λ y.
      result_then (moved laid minus cells x y) p (λ v. act_then laid (store_at a (Scalars.Pointer class) v p)
      (λ u. k v)))))))
      (λ how. refl)
      (λ k. la.law _ ∙ after_address l (λ a. after_act (load_at a (Scalars.Pointer class) false (lvalue_place l)) (λ x.
      (Forms.exact laid path call) e le he (λ y. doing_then laid (given_by p (moved laid minus cells x y))
      (λ v. act_then laid (store_at a (Scalars.Pointer class) v p) (λ u. k v)))
      ∙ after_value e (λ y. given_law laid (moved laid minus cells x y) p
      (λ v. act_then laid (store_at a (Scalars.Pointer class) v p) (λ u. k v)))))) (
        (
          (la.scope, la.result),
          (
            ((omega arith, tt), tt),
            (
              (le.value_scope, le.value_result he),
              (((omega arith, (omega arith, tt)), tt), (((omega arith, (omega arith, tt)), tt), tt)),
            ),
          ),
        ),
        omega arith,
      )
      (λ h. tt)

  unit_step_law : (s : StepBy) (cell of : IntType) (volatile : Bool) (l : LvalueTree) (p : Place) → AddressLaw l
      → Forms.Law laid path call (a_unit_step s cell of volatile l p)
  unit_step_law s cell of volatile l p la =
      (Forms.valued_law laid path call) (a_unit_step s cell of volatile l p) false p
      (unit_step_code s cell of volatile (into laid path l) (lvalue_place l) p (address_code laid path l)) true
      (λ k. address_then (Forms.here laid path call) l
      (λ a. act_then laid (load_at a (Scalars.Int cell) volatile (lvalue_place l)) (λ x.
      result_then (compound_result (step_operator s) cell of x (Number (pos 1))) p
      (λ v. act_then laid (store_at a (Scalars.Int cell) v p) (λ u. k (step_value s x v))))))
      (λ how. refl)
      (λ k. StepForms.unit_step_then laid path call s cell of volatile (into laid path l) (lvalue_place l) p
      (address_code laid path l) k
      ∙ (la.law _ ∙ after_address l (λ a. after_act (load_at a (Scalars.Int cell) volatile (lvalue_place l)) (λ x.
      ap (λ z. doing_then laid (given_by p
      (binary (step_operator s) of z (applied (conversion Ints.Int of) (Number (pos 1))))) (λ v.
      act_then laid (store_at a (Scalars.Int cell) (applied (conversion of cell) v) p)
      (λ u. k (step_value s x (applied (conversion of cell) v))))) (applied_conversion cell of x)
      ∙ (ap (λ z. doing_then laid (given_by p (binary (step_operator s) of (converted cell of x) z)) (λ v.
      act_then laid (store_at a (Scalars.Int cell) (applied (conversion of cell) v) p)
      (λ u. k (step_value s x (applied (conversion of cell) v))))) (StepForms.one_stays laid path call of)
      ∙ CompoundForms.stored_law laid path call of cell
      (binary (step_operator s) of (converted cell of x) (Number (pos 1))) p
      (λ v. act_then laid (store_at a (Scalars.Int cell) v p) (λ u. k (step_value s x v))))))))
      (StepForms.unit_step_scope laid path call s cell of volatile (into laid path l) (lvalue_place l) p
      (address_code laid path l) la.scope la.result)
      (λ h. tt)

  pointer_step_law : (s : StepBy) (cells class : ℕ) (l : LvalueTree) (p : Place) → AddressLaw l
      → Forms.Law laid path call (a_pointer_step s cells class l p)
  pointer_step_law s cells class l p la =
      (Forms.valued_law laid path call) (a_pointer_step s cells class l p) true p
      (moved_code s.minus cells class (into laid path l) (lvalue_place l) p (address_code laid path l)
      (operate (Op.Const 0 (Number (pos 1)))) (if s.postfix then 1 else 3)) true
      (λ k. address_then (Forms.here laid path call) l
      (λ a. act_then laid (load_at a (Scalars.Pointer class) false (lvalue_place l)) (λ x.
      result_then (moved laid s.minus cells x (Number (pos 1))) p
      (λ v. act_then laid (store_at a (Scalars.Pointer class) v p) (λ u. k (step_value s x v))))))
      (λ how. refl)
      (λ k. StepForms.pointer_step_then laid path call s cells class (into laid path l) (lvalue_place l) p
      (address_code laid path l) k
      ∙ (la.law _ ∙ after_address l (λ a. after_act (load_at a (Scalars.Pointer class) false (lvalue_place l)) (λ x.
      given_law laid (moved laid s.minus cells x (Number (pos 1))) p
      (λ v. act_then laid (store_at a (Scalars.Pointer class) v p) (λ u. k (step_value s x v)))))))
      (StepForms.pointer_step_scope laid path call s cells class (into laid path l) (lvalue_place l) p
      (address_code laid path l) la.scope la.result)
      (λ h. tt)

  mutual
    pub law : (e : RvalueTree) → Valued laid path e → Forms.Law laid path call e
    law (a_constant t z p) w = Forms.valued_law laid path call (a_constant t z p) false p _ true (λ k. k (Number z))
        (λ how. refl)
        (λ k. refl) (((tt, tt), tt), omega arith) (λ h. tt)
    law (a_folded z e) w =
        let l = law e w.0 in
        record {
          value = λ go. refl;
          bare = λ h go. refl;
          fork = λ h one other. l.fork w.1 one other;
          value_scope = (((tt, tt), tt), omega arith);
          bare_scope = (((tt, tt), tt), omega arith);
          fork_scope = λ h. l.fork_scope w.1;
          value_result = λ h. tt;
          bare_result = λ h. tt;
        }
    law (a_null p) w = Forms.valued_law laid path call (a_null p) true p _ true (λ k. k (APointer Pointers.Null))
        (λ how. refl) (λ k. refl)
        (((tt, tt), tt), omega arith) (λ h. tt)
    law (a_load s volatile l) w =
        let a = address_law l w in
        (Forms.valued_law laid path call) (a_load s volatile l) (is_pointer_scalar s) (lvalue_place l)
        (load_code volatile s (lvalue_place l) (address_code laid path l)) true
        (λ k. address_then (Forms.here laid path call) l (λ x. act_then laid (load_at x s volatile (lvalue_place l)) k))
        (λ how. refl)
        (λ k. Forms.load_then laid path call volatile s (lvalue_place l) (address_code laid path l) k ∙ a.law _)
        (Forms.load_scope laid path call volatile s (lvalue_place l) (address_code laid path l) a.scope a.result)
        (λ h. Forms.load_result laid path call volatile s (lvalue_place l) (address_code laid path l))
    law (an_address l p) w =
        let a = address_law l w in
        (Forms.valued_law laid path call) (an_address l p) true p (address_code laid path l) true
        (λ k. address_then (Forms.here laid path call) l k) (λ how. refl)
        (λ k. a.law k) a.scope (λ h. a.result)
    law (a_structure l) w =
        let a = address_law l w in
        (Forms.valued_law laid path call) (a_structure l) false (lvalue_place l)
        (code (first_then (only_do (address_code laid path l)) no_more) None) false
        (λ k. address_then (Forms.here laid path call) l (λ x. k nothing)) (λ how. refl) (λ k. a.law (λ x. k nothing))
        ((a.scope, tt), tt)
        (λ h. absurd (cc))
    law (the_same e p) w =
        let l = law e w in
        (Forms.valued_law laid path call) (the_same e p) (gives_pointer laid e) p (codes laid path e).value
        (has_value laid path e)
        (λ k. expr_then (Forms.here laid path call) e (as_value k)) (λ how. refl)
        (λ k. l.value k) l.value_scope l.value_result
    law (a_unary o t e p) w =
        let l = law e w.0 in
        (Forms.valued_law laid path call) (a_unary o t e p) false p
        (code (first_then (value_of (codes laid path e).value) (first_then (operate (Op.Un 0 o t 0 p)) no_more))
        (Some 1)) true
        (λ k. expr_then (Forms.here laid path call) e (as_value (λ x. result_then (unary o t x) p k))) (λ how. refl)
        (λ k. Forms.exact laid path call e l w.1 (λ x. doing_then laid (given_by p (unary o t x)) k)
        ∙ after_value e (λ x. given_law laid (unary o t x) p k))
        (((l.value_scope, l.value_result w.1), (((omega arith, tt), tt), tt)), omega arith) (λ h. tt)
    law (a_binary op t l r p) w = binary_law op t l r p (law l w.0.0) w.0.1 (law r w.1.0) w.1.1
    law (a_comparison_of_pointers equal l r p) w = pointers_law equal l r p (law l w.0.0) w.0.1 (law r w.1.0) w.1.1
    law (a_move minus cells first e i p) w = move_law minus cells first e i p (law e w.0.0) w.0.1 (law i w.1.0) w.1.1
    law (a_not e p) w =
        let l = law e w.0 in
        (Forms.decided_law laid path call) (a_not e p) (converse (codes laid path e).fork)
        (λ one other. expr_then (Forms.here laid path call) e (as_branch other one)) (λ how. refl)
        (λ one other. l.fork w.1 other one) (l.fork_scope w.1)
    law (an_and l r p) w =
        let x = law l w.0.0 in
        let y = law r w.1.0 in
        (Forms.decided_law laid path call) (an_and l r p) (both_of (codes laid path l).fork (codes laid path r).fork)
        (λ one other. expr_then (Forms.here laid path call) l
        (as_branch (expr_then (Forms.here laid path call) r (as_branch one other)) other)) (λ how. refl)
        (λ one other. ap (λ z. fork_then laid call (codes laid path l).fork z other) (y.fork w.1.1 one other)
        ∙ x.fork w.0.1 (expr_then (Forms.here laid path call) r (as_branch one other)) other)
        (x.fork_scope w.0.1, y.fork_scope w.1.1)
    law (an_or l r p) w =
        let x = law l w.0.0 in
        let y = law r w.1.0 in
        (Forms.decided_law laid path call) (an_or l r p) (either_of (codes laid path l).fork (codes laid path r).fork)
        (λ one other. expr_then (Forms.here laid path call) l
        (as_branch one (expr_then (Forms.here laid path call) r (as_branch one other)))) (λ how. refl)
        (λ one other. ap (λ z. fork_then laid call (codes laid path l).fork one z) (y.fork w.1.1 one other)
        ∙ x.fork w.0.1 one (expr_then (Forms.here laid path call) r (as_branch one other)))
        (x.fork_scope w.0.1, y.fork_scope w.1.1)
    law (a_choice c x y p) w = choice_law c x y p (law c w.0.0) w.0.1 (law x w.1) (law y w.2) w.3
    law (an_assignment s l e p) w =
        let a = address_law l w.0 in
        let x = law e w.1.0 in
        (Forms.valued_law laid path call) (an_assignment s l e p) (is_pointer_scalar s) p
        (assignment_code s (into laid path l) p (address_code laid path l) (codes laid path e).value) true
        (λ k. address_then (Forms.here laid path call) l
        (λ z. expr_then (Forms.here laid path call) e
        (as_value (λ v. act_then laid (store_at z s v p) (λ u. k v)))))
        (λ how. refl)
        (λ k. a.law _ ∙ after_address l
        (λ z. Forms.exact laid path call e x w.1.1 (λ v. act_then laid (store_at z s v p) (λ u. k v)))) (
          ((a.scope, a.result), ((x.value_scope, x.value_result w.1.1), (((omega arith, (omega arith, tt)), tt), tt))),
          omega arith,
        ) (λ h. tt)
    law (a_compound o cell of volatile l e p) w = compound_law o cell of volatile l e p (address_law l w.0)
        (law e w.1.0) w.1.1
    law (a_compound_move minus cells class l e p) w = compound_move_law minus cells class l e p (address_law l w.0)
        (law e w.1.0) w.1.1
    law (a_unit_step s cell of volatile l p) w = unit_step_law s cell of volatile l p (address_law l w)
    law (a_pointer_step s cells class l p) w = pointer_step_law s cells class l p (address_law l w)
    law (a_function_call f site es p) w = call_law f site es p (inputs_law es w)
    law (an_input_value low high p) w = Forms.valued_law laid path call (an_input_value low high p) false p _ true
        (λ k. act_then laid (Acts.Chosen low high) k) (λ how. refl) (λ k. refl) (((tt, tt), tt), omega arith) (λ h. tt)
    law (a_probe m p) w = Forms.valued_law laid path call (a_probe m p) false p _ true
        (λ k. act_then laid (Acts.Probe m p) k) (λ how. refl)
        (λ k. refl) (((tt, tt), tt), omega arith) (λ h. tt)
    law (a_comma l r p) w = comma_law l r p (law l w.0) (law r w.1)
    law (a_conversion from to e p) w = conversion_law from to e p (law e w.0) w.1
    law (a_discard e p) w =
        let l = law e w in
        (Forms.valued_law laid path call) (a_discard e p) false p
        (code (first_then (only_do (codes laid path e).value) no_more) None) false
        (λ k. expr_then (Forms.here laid path call) e (as_value (λ u. k nothing))) (λ how. refl)
        (λ k. l.value (λ u. k nothing))
        ((l.value_scope, tt), tt) (λ h. absurd (cc))

    pub address_law : (l : LvalueTree) → ValuedAt laid path l → AddressLaw l
    address_law (an_object o p) w = record { law = λ go. refl; scope = (((tt, tt), tt), omega arith); result = tt }
    address_law (an_element l i n c p) w =
        let a = address_law l w.0 in
        let x = law i w.1.0 in
        record {
          law = λ go. a.law _ ∙ after_address l
              (λ z. Forms.exact laid path call i x w.1.1 (λ y. doing_then laid (given_by p (element laid n c z y)) go)
              ∙ after_value i (λ y. given_law laid (element laid n c z y) p go));
          scope = (
            (
              (a.scope, a.result),
              ((x.value_scope, x.value_result w.1.1), (((omega arith, (omega arith, tt)), tt), tt)),
            ),
            omega arith,
          );
          result = tt;
        }
    address_law (a_pointed_element e i c t p) w =
        let x = law e w.0.0 in
        let y = law i w.1.0 in
        record {
          law = λ go. Forms.exact laid path call e x w.0.1 (λ v. code_then laid call (codes laid path i).value
              (λ z. doing_then laid (given_by p (moved laid false c v z))
              (λ q. doing_then laid (given_by p (dereferenced laid path t q)) go)))
              ∙ after_value e (λ v. Forms.exact laid path call i y w.1.1
              (λ z. doing_then laid (given_by p (moved laid false c v z))
              (λ q. doing_then laid (given_by p (dereferenced laid path t q)) go))
              ∙ after_value i (λ z. given_law laid (moved laid false c v z) p
              (λ q. doing_then laid (given_by p (dereferenced laid path t q)) go)
              ∙ after_result (moved laid false c v z) p (λ q. given_law laid (dereferenced laid path t q) p go)));
          scope = (
            (
              (x.value_scope, x.value_result w.0.1),
              (
                (y.value_scope, y.value_result w.1.1),
                (((omega arith, (omega arith, tt)), tt), (((omega arith, tt), tt), tt)),
              ),
            ),
            omega arith,
          );
          result = tt;
        }
    address_law (a_pointed e t p) w =
        let x = law e w.0 in
        record {
          law = λ go. Forms.exact laid path call e x w.1
              (λ v. doing_then laid (given_by p (dereferenced laid path t v)) go)
              ∙ after_value e (λ v. given_law laid (dereferenced laid path t v) p go);
          scope = (((x.value_scope, x.value_result w.1), (((omega arith, tt), tt), tt)), omega arith);
          result = tt;
        }
    address_law (an_arrow e t c p) w =
        let x = law e w.0 in
        record {
          law = λ go. Forms.exact laid path call e x w.1 (λ v. doing_then laid (given_by p (dereferenced laid path t v))
              (λ a. go (part laid c a)))
              ∙ after_value e (λ v. given_law laid (dereferenced laid path t v) p (λ a. go (part laid c a)));
          scope = (
            ((x.value_scope, x.value_result w.1), (((omega arith, tt), tt), (((omega arith, tt), tt), tt))),
            omega arith,
          );
          result = tt;
        }
    address_law (a_part l c p) w =
        let a = address_law l w in
        record {
          law = λ go. a.law (λ z. go (part laid c z));
          scope = (((a.scope, a.result), (((omega arith, tt), tt), tt)), omega arith);
          result = tt;
        }

    pub inputs_law : (es : RvalueTrees) → AllValued laid path es → InputsLaw es
    inputs_law no_rvalues w = record { law = λ go. refl; scope = tt }
    inputs_law (and_rvalue e es) w =
        let x = law e w.0.0 in
        let y = inputs_law es w.1 in
        record {
          law = λ go. Forms.exact laid path call e x w.0.1
              (λ v. inputs_then laid call (inputs laid path es) (λ vs. go (v ∷ vs)))
              ∙ after_value e (λ v. y.law (λ vs. go (v ∷ vs)));
          scope = (x.value_scope, x.value_result w.0.1, y.scope);
        }
