-- In a typed file calls stand at their sites, and what bodies name is defined.
use Rattle.std.proofs.Common.{◌≡◌, ℕ, ◌≤◌, List, [], ◌∷◌, ◌++◌, inl, inr, length, get_or, refl, sym, subst, ap, ◌∙◌, arith}
use Rattle.std.specs.Prelude.{◌+◌, Bool, true, false, cond, ◌&&◌, ◌||◌, is_some, is_none, find, option_map, All, drop, slice_get, slice_set, Option, Some, None, Result, Ok, Err}
use Rattle.std.specs.List.{filter_map, cons_option}
use Rattle.std.proofs.lemmas.Bool.{cases_lt, cases_eq, false≢true, not-false}
use Rattle.std.proofs.lemmas.Option.{none-some, same_Some}
use Rattle.std.proofs.lemmas.List.{length-append, length-set, append-nil, append_assoc, append_cancel_left, drop_at, get_or_append_left, get_or_past, get_or_push, get_or-set_same, get_or-set_other}
use Rattle.std.proofs.lemmas.List.Elements.{All-nil, All-cons}
use Rattle.tm_laid.specs.tm_terms.declared.places.Place.{Place}
use Rattle.tm_laid.specs.tm_terms.declared.tokens.Name.{Name}
use Rattle.tm_laid.specs.tm_terms.declared.refusals.Kind.TheVariants as Kinds
use Rattle.tm_laid.specs.tm_terms.declared.refusals.Refusal.{Refusal}
use Rattle.tm_laid.specs.tm_terms.ExprTrees.{Tree}
use Rattle.tm_laid.specs.tm_trees.DeclarationTrees.{declared_name, DeclarationTree}
use Rattle.tm_laid.specs.tm_trees.FileTrees.{PartTrees, ParameterTree, a_named_parameter, an_unnamed_parameter}
use Rattle.tm_laid.specs.tm_trees.FileTrees.{ParametersTree, only_void, some_parameters, FunctionTree, ItemTree}
use Rattle.tm_laid.specs.tm_trees.FileTrees.{a_declaration, a_function, an_empty_item, a_mutex, a_task}
use Rattle.tm_laid.specs.tm_typed.declared.scopes.Binding.{Binding}
use Rattle.tm_laid.specs.tm_typed.declared.scopes.Named.{Named}
use Rattle.tm_laid.specs.tm_typed.declared.scopes.Named.TheVariants as Names
use Rattle.tm_laid.specs.tm_typed.declared.specifiers.Said.{Said}
use Rattle.tm_laid.specs.tm_typed.declared.specifiers.Shape.{Shape}
use Rattle.tm_laid.specs.tm_typed.declared.uses.Use.{Use}
use Rattle.tm_laid.specs.tm_typed.declared.uses.Used.{Used}
use Rattle.tm_laid.specs.tm_typed.Types.{void_number}
use Rattle.tm_laid.specs.tm_typed.Scopes.{named_here}
use Rattle.tm_laid.specs.tm_typed.Refusals.{then_with}
use Rattle.tm_laid.specs.tm_typed.States.{State, in_scope, static}
use Rattle.tm_laid.specs.tm_typed.Evaluation.{measured, folded_value}
use Rattle.tm_laid.specs.tm_typed.Specifiers.{base}
use Rattle.tm_laid.specs.tm_typed.Declarators.{declared, declared_pointers}
use Rattle.tm_laid.specs.tm_typed.Structures.{declared_place, is_declared_here, specified}
use Rattle.tm_laid.specs.tm_typed.Declarations.{linked, file_declaration}
use Rattle.tm_laid.specs.tm_typed.StatementRules.{in_body}
use Rattle.tm_laid.specs.tm_typed.StatementTyping.{enter, parts_in}
use Rattle.tm_laid.specs.tm_typed.TypedTrees.{OperandTree}
use Rattle.tm_laid.specs.tm_typed.TypedStatements.{TypedTrees}
use Rattle.tm_laid.specs.tm_typed.CallGraph.{calls_in}
use Rattle.tm_laid.specs.tm_typed.Functions.{is_by_value, is_of_void, parameter_rules, no_name, first_place}
use Rattle.tm_laid.specs.tm_typed.Functions.{parameter_in, listed_parameters, parameters_in, left_names, to_file}
use Rattle.tm_laid.specs.tm_typed.Functions.{entered_with, names_here, body_begins, Head, with_function, number_of}
use Rattle.tm_laid.specs.tm_typed.Functions.{function_rules, called_function, called_since, function_used}
use Rattle.tm_laid.specs.tm_typed.Functions.{TypedBodyTree, FoundBody, body_in}
use Rattle.tm_laid.specs.tm_typed.Files.{TypedFunctionTree, FileState, TypedFileTree, first_file_state}
use Rattle.tm_laid.specs.tm_typed.Files.{no_typed_function, typed_function, declared_function, defined_function}
use Rattle.tm_laid.specs.tm_typed.Files.{head_of, with_body, headed, with_state, function_in, priority_of, task_scope}
use Rattle.tm_laid.specs.tm_typed.Files.{named_task_in, task_in, mutex_in, item_in, items_in, is_undefined}
use Rattle.tm_laid.specs.tm_typed.Files.{undefined_use, Closes, Ends, file_of}
use Rattle.tm_laid.specs.tm_typed.WellTyped.{OnAnswer}
use Rattle.typing_laws.proofs.Steps.{then_on, then_any}
use Rattle.typed_file_laws.specs.Mentions.{StatementsMention}
use Rattle.typed_file_laws.specs.Sites.{is_defined_object, function_of_file, is_defined_function, SitesStand}
use Rattle.typed_file_laws.proofs.RuleSteps.{on_row, on_row_unless, some_any, answer_weaker}
use Rattle.typed_file_laws.proofs.MentionTyping.{calls_of_use, IsUsed, UsesStand}
use Rattle.typed_file_laws.proofs.SameUses.{kept_in, measured_same, specified_same, declared_same}
use Rattle.typed_file_laws.proofs.MentionSteps.{Spends, AllTell, all_tell, file_declaration_quiet}

-- ## Uses that pass

-- what is used passes the test for objects or that for functions
abbrev Passes : (ℕ → Bool) → (ℕ → Bool) → Used → Type 0
Passes o p (Used.Static k) = o k ≡ true
Passes o p (Used.Function f) = p f ≡ true

abbrev UsesPass : (ℕ → Bool) → (ℕ → Bool) → List Use → Type 0
UsesPass o p [] = Unit {0}
UsesPass o p (u ∷ us) = Passes o p u.used × UsesPass o p us

first_pass : (o p : ℕ → Bool) (xs ys : List Use) → UsesPass o p (xs ++ ys) → UsesPass o p xs
first_pass o p [] ys h = tt
first_pass o p (x ∷ xs) ys h = (h.0, first_pass o p xs ys h.1)

rest_pass : (o p : ℕ → Bool) (xs ys : List Use) → UsesPass o p (xs ++ ys) → UsesPass o p ys
rest_pass o p [] ys h = h
rest_pass o p (x ∷ xs) ys h = rest_pass o p xs ys h.1

there : (pre : List ℕ) (f : ℕ) (rest : List ℕ) → slice_get (pre ++ f ∷ rest) (length pre) ≡ Some f
there [] f rest = refl
there (x ∷ pre) f rest = there pre f rest

abbrev called_in : List Use → List ℕ
called_in us = filter_map called_function us

-- uses that pass stand, where the list has the functions that they call
use_stands : (o p : ℕ → Bool) (pre : List ℕ) (x : Used) (us : List Use) (n : ℕ) → length pre ≡ n → Passes o p x
    → ((pre : List ℕ) (n : ℕ) → length pre ≡ n → UsesStand o (pre ++ called_in us) n us)
    → IsUsed o (pre ++ cons_option (function_used x) (called_in us)) n x × UsesStand o (pre ++ cons_option (function_used x) (called_in us)) (n + calls_of_use x) us
use_stands o p pre (Used.Static k) us n e a f = (a, f pre (n + 0) (omega (arith, e)))
use_stands o p pre (Used.Function g) us n e a f =
    let P : ℕ → Type 0 = λ i. slice_get (pre ++ g ∷ called_in us) i ≡ Some g in
    let Q : List ℕ → Type 0 = λ c. UsesStand o c (n + 1) us in (
      subst P e (there pre g (called_in us)),
      subst Q (append_assoc pre (g ∷ []) (called_in us)) (f (pre ++ g ∷ []) (n + 1) (let l = length-append pre (g ∷ []) in omega (arith, l, e))),
    )

-- uses that pass stand, where the list has the functions that they call
stands_all : (o p : ℕ → Bool) (pre : List ℕ) (us : List Use) (n : ℕ) → length pre ≡ n → UsesPass o p us → UsesStand o (pre ++ called_in us) n us
stands_all o p pre [] n e h = tt
stands_all o p pre (u ∷ us) n e h = use_stands o p pre u.used us n e h.0 (λ q m i. stands_all o p q us m i h.1)

one_pass : (o p : ℕ → Bool) (x : Used) (rest : List ℕ) → Passes o p x → All (λ (g : ℕ). p g ≡ true) rest → All (λ (g : ℕ). p g ≡ true) (cons_option (function_used x) rest)
one_pass o p (Used.Static k) rest a b = b
one_pass o p (Used.Function f) rest a b = All-cons (λ (g : ℕ). p g ≡ true) f rest a b

all_pass : (o p : ℕ → Bool) (us : List Use) → UsesPass o p us → All (λ (g : ℕ). p g ≡ true) (called_in us)
all_pass o p [] h = All-nil (λ (g : ℕ). p g ≡ true)
all_pass o p (u ∷ us) h = one_pass o p u.used (called_in us) h.0 (all_pass o p us h.1)

-- ## Bodies

-- where what the body uses passes, its calls stand at their sites and pass, and so does what it names
pub record BodyTold (v : State) (b : FoundBody) : Type 0 where
  pub more : List Use
  pub uses : b.state.uses ≡ v.uses ++ more
  pub told : (o p : ℕ → Bool) → UsesPass o p more → StatementsMention o b.calls b.body.statements × All (λ (g : ℕ). p g ≡ true) b.calls

body_of : State → TypedTrees × State → FoundBody
body_of v a = record {
  body = record { locals = a.1.locals; parameters = length v.locals; statements = a.0 };
  calls = called_since (length v.uses) a.1.uses;
  state = body_begins a.1;
}

tell_body : (v : State) → v.site ≡ 0 → (r : Result (TypedTrees × State) Refusal) → ((o : ℕ → Bool) (c : List ℕ) → OnAnswer (AllTell o c v) r) → OnAnswer (BodyTold v) (then_with r (λ a. Ok (body_of v a)))
unfolding body_of
tell_body v z (Err e) f = tt
tell_body v z (Ok a) f =
    let c : List ℕ = called_since (length v.uses) a.1.uses in
    let base : Spends (λ (k : ℕ). true) c v a.1 (StatementsMention (λ (k : ℕ). true) c a.0) = f (λ (k : ℕ). true) c in
    let is : c ≡ called_in base.used = ap (λ (us : List Use). called_in (drop (length v.uses) us)) base.uses ∙ ap called_in (drop_at v.uses base.used (length v.uses) refl) in
    record {
      more = base.used;
      uses = base.uses;
      told = λ o p h.
          let s : Spends o c v a.1 (StatementsMention o c a.0) = f o c in
          let same : s.used ≡ base.used = append_cancel_left v.uses s.used base.used (sym s.uses ∙ base.uses) in
          let stands : UsesStand o (called_in base.used) 0 base.used = stands_all o p [] base.used 0 refl h in
          let P : List ℕ → Type 0 = λ d. UsesStand o d 0 base.used in
          let Q : ℕ → Type 0 = λ n. UsesStand o c n base.used in
          let R : List Use → Type 0 = λ us. UsesStand o c v.site us in
          let S : List ℕ → Type 0 = λ d. All (λ (g : ℕ). p g ≡ true) d in
          (s.holds (subst R (sym same) (subst Q (sym z) (subst P (sym is) stands))), subst S (sym is) (all_pass o p base.used h));
    }

body_told : (v : State) (result : ℕ) (parts : PartTrees) → v.site ≡ 0 → OnAnswer (BodyTold v) (body_in v result parts)
unfolding body_of
body_told v result parts z = tell_body v z (parts_in v (in_body result) parts) (λ o c. all_tell o c v (in_body result) parts)

-- ## Files

abbrev Told : FileState → ℕ → TypedBodyTree → Type 0
Told f k b = (o p : ℕ → Bool) → UsesPass o p f.state.uses → StatementsMention o (calls_in f.calls k) b.statements × All (λ (g : ℕ). p g ≡ true) (calls_in f.calls k)

-- where what the file uses passes, its bodies are so
pub record Stand (f : FileState) : Type 0 where
  pub graph : length f.calls ≡ length f.functions
  pub bodies : (k : ℕ) (b : TypedBodyTree) → (typed_function f k).body ≡ Some b → Told f k b

-- more is used
more_used : (f : FileState) (t : State) (more : List Use) → t.uses ≡ f.state.uses ++ more → Stand f → Stand (with_state f t)
more_used f t more e h = record {
  graph = h.graph;
  bodies = λ k b q o p u. h.bodies k b q o p (first_pass o p f.state.uses more (let P : List Use → Type 0 = UsesPass o p in subst P e u));
}

same_used : (f : FileState) (t : State) → t.uses ≡ f.state.uses → Stand f → Stand (with_state f t)
same_used f t e h = more_used f t [] (e ∙ sym (append-nil f.state.uses)) h

-- a function is added, with its calls
added : (f : FileState) (t : State) (more : List Use) (x : TypedFunctionTree) (calls : List ℕ) → t.uses ≡ f.state.uses ++ more → Stand f
    → ((b : TypedBodyTree) → x.body ≡ Some b → (o p : ℕ → Bool) → UsesPass o p more → StatementsMention o calls b.statements × All (λ (g : ℕ). p g ≡ true) calls)
    → Stand (record f { state = t; functions = f.functions ++ x ∷ []; calls = f.calls ++ calls ∷ [] })
added f t more x calls e h new = record {
  graph = let a = length-append f.functions (x ∷ []) in let b = length-append f.calls (calls ∷ []) in let c = h.graph in omega (arith, a, b, c);
  bodies = λ k b q o p u.
      let pass : UsesPass o p (f.state.uses ++ more) = (let P : List Use → Type 0 = UsesPass o p in subst P e u) in
      let P : List ℕ → Type 0 = λ c. StatementsMention o c b.statements × All (λ (g : ℕ). p g ≡ true) c in
      elim (cases_lt k (length f.functions)) [
        | inl l ↦
            subst P (sym (get_or_append_left f.calls (calls ∷ []) [] k (let c = h.graph in omega (arith, l, c))))
            (h.bodies k b (ap (λ (y : TypedFunctionTree). y.body) (sym (get_or_append_left f.functions (x ∷ []) no_typed_function k l)) ∙ q) o p (first_pass o p f.state.uses more pass))
        | inr m ↦ elim (cases_eq (length f.functions) k) [
          | inl same ↦
              subst P (sym (get_or_push f.calls calls [] k (let c = h.graph in omega (arith, same, c))))
              (new b (ap (λ (y : TypedFunctionTree). y.body) (sym (get_or_push f.functions x no_typed_function k same)) ∙ q) o p (rest_pass o p f.state.uses more pass))
          | inr other ↦ absurd (none-some b (ap (λ (y : TypedFunctionTree). y.body) (sym (get_or_past (f.functions ++ x ∷ []) k no_typed_function (past k other m))) ∙ q))
        ]
      ];
}
  where
    past : (k : ℕ) → (length f.functions ≡ k → ⊥) → length f.functions ≤ k → length (f.functions ++ x ∷ []) ≤ k
    past k other m = elim (cases_lt (length f.functions) k) [
      | inl l ↦ let a = length-append f.functions (x ∷ []) in omega (arith, l, a)
      | inr n ↦ absurd (other (omega (arith, m, n)))
    ]

-- a body is defined
defined : (f : FileState) (k : ℕ) (q : Place) (b : FoundBody) (v : State) → v.uses ≡ f.state.uses → BodyTold v b → Stand f → Stand (defined_function f k q b (to_file b.state))
defined f k q b v e t h =
    let x : TypedFunctionTree = record (typed_function f k) { place = q; body = Some b.body } in record {
      graph = let a = length-set f.functions k x in let c = length-set f.calls k b.calls in let g = h.graph in omega (arith, a, c, g);
      bodies = λ j d r o p u.
          let all : b.state.uses ≡ f.state.uses ++ t.more = t.uses ∙ ap (λ (us : List Use). us ++ t.more) e in
          let pass : UsesPass o p (f.state.uses ++ t.more) = (let P : List Use → Type 0 = UsesPass o p in subst P all u) in
          let P : List ℕ → Type 0 = λ c. StatementsMention o c d.statements × All (λ (g : ℕ). p g ≡ true) c in
          elim (cases_eq j k) [
            | inr other ↦
                subst P (sym (get_or-set_other f.calls k j b.calls [] other))
                (h.bodies j d (ap (λ (y : TypedFunctionTree). y.body) (sym (get_or-set_other f.functions k j x no_typed_function other)) ∙ r) o p (first_pass o p f.state.uses t.more pass))
            | inl same ↦ elim (cases_lt k (length f.functions)) [
              | inl l ↦
                  let Q : ℕ → Type 0 = λ i. P (calls_in (slice_set f.calls k b.calls) i) in
                  let is : b.body ≡ d = same_Some b.body d (ap (λ (y : TypedFunctionTree). y.body) (sym (get_or-set_same f.functions k x no_typed_function l)) ∙ (let R : ℕ → Type 0 = λ i. (get_or (slice_set f.functions k x) i no_typed_function).body ≡ Some d in subst R same r)) in
                  let S : TypedBodyTree → Type 0 = λ y. StatementsMention o b.calls y.statements × All (λ (g : ℕ). p g ≡ true) b.calls in
                  subst Q (sym same) (subst P (sym (get_or-set_same f.calls k b.calls [] (let g = h.graph in omega (arith, l, g)))) (subst S is (t.told o p (rest_pass o p f.state.uses t.more pass))))
              | inr past ↦ absurd (none-some d (ap (λ (y : TypedFunctionTree). y.body) (sym (get_or_past (slice_set f.functions k x) j no_typed_function (let a = length-set f.functions k x in omega (arith, a, same, past)))) ∙ r))
            ]
          ];
    }

-- ## Items

parameter_kept : (s t : State) (b : Bool) (n : Name) (p : Place) (shape : Shape) → kept_in t ≡ kept_in s → OnAnswer (λ (u : State). kept_in u ≡ kept_in s) (parameter_rules t b n p shape)
parameter_kept s t b n p shape e =
    on_row (λ (u : State). kept_in u ≡ kept_in s) (shape.left_out || is_by_value t.scope shape) Kinds.Unsupported p _ (λ x.
    on_row (λ (u : State). kept_in u ≡ kept_in s) (b && is_declared_here t n) Kinds.Redeclared p _ (λ y.
    on_row (λ (u : State). kept_in u ≡ kept_in s) (shape.mismatch || is_of_void t.scope shape) Kinds.Mismatch p _ (λ z. e)))

one_kept : (s : State) (p : ParameterTree) → OnAnswer (λ (u : State). kept_in u ≡ kept_in s) (parameter_in s p)
one_kept s (a_named_parameter specifiers d) =
    then_on (λ (a : Said × State). kept_in a.1 ≡ kept_in s) (λ (u : State). kept_in u ≡ kept_in s) (specified s specifiers) _ (specified_same s specifiers) (λ a e.
    then_on (λ (b : Shape × State). kept_in b.1 ≡ kept_in a.1) (λ (u : State). kept_in u ≡ kept_in s) (declared a.1 (base a.0) d) _ (declared_same a.1 (base a.0) d) (λ b f.
    parameter_kept s b.1 true (declared_name d) (declared_place d) b.0 (f ∙ e)))
one_kept s (an_unnamed_parameter specifiers pointers) =
    then_on (λ (a : Said × State). kept_in a.1 ≡ kept_in s) (λ (u : State). kept_in u ≡ kept_in s) (specified s specifiers) _ (specified_same s specifiers) (λ a e.
    let b : Shape × State = declared_pointers a.1 (base a.0) pointers in
    parameter_kept s b.1 false no_name (first_place specifiers) b.0 e)

all_kept : (s : State) (ps : List ParameterTree) → OnAnswer (λ (u : State). kept_in u ≡ kept_in s) (listed_parameters s ps)
all_kept s [] = refl
all_kept s (p ∷ ps) =
    then_on (λ (u : State). kept_in u ≡ kept_in s) (λ (u : State). kept_in u ≡ kept_in s) (parameter_in s p) _ (one_kept s p) (λ t e.
    answer_weaker (λ (u : State). kept_in u ≡ kept_in t) (λ (u : State). kept_in u ≡ kept_in s) (listed_parameters t ps) (λ u f. f ∙ e) (all_kept t ps))

parameters_kept : (s : State) (ps : ParametersTree) → OnAnswer (λ (u : State). kept_in u ≡ kept_in s) (parameters_in s ps)
parameters_kept s only_void = refl
parameters_kept s (some_parameters ps) = all_kept s ps

body_stands : (f : FileState) (names : List Binding) (k : ℕ) (h : Head) (parts : Option PartTrees) → f.state.site ≡ 0 → Stand f → OnAnswer Stand (with_body f names k h parts)
body_stands f names k h None z w = same_used f _ refl w
body_stands f names k h (Some parts) z w =
    let v : State = in_scope f.state (entered_with names f.state.scope) in
    then_on (BodyTold v) Stand (body_in v h.result parts) _ (body_told v h.result parts z) (λ b t. defined f k h.place b v refl t w)

new_stands : (f : FileState) (t : State) (h : Head) → t.uses ≡ f.state.uses → Stand f
    → Stand (record f { state = t; functions = f.functions ++ record { name = h.name; place = h.place; result = h.result; parameters = h.parameters; body = None } ∷ []; calls = f.calls ++ [] ∷ [] })
new_stands f t h e w =
    added f t [] (record { name = h.name; place = h.place; result = h.result; parameters = h.parameters; body = None }) [] (e ∙ sym (append-nil f.state.uses)) w (λ b q. absurd (none-some b q))

headed_stands : (f : FileState) (t : State) (names : List Binding) (k : ℕ) (h : Head) (already : Option Named) (parts : Option PartTrees) → t.uses ≡ f.state.uses → t.site ≡ 0 → Stand f
    → OnAnswer Stand (with_body (declared_function f t h already) names k h parts)
headed_stands f t names k h (Some (Names.Function j)) parts e z w = body_stands (with_state f t) names k h parts z (same_used f t e w)
headed_stands f t names k h _ parts e z w = body_stands _ names k h parts z (new_stands f t h e w)

uses_same : (s t : State) → kept_in t ≡ kept_in s → t.uses ≡ s.uses
uses_same s t e = ap (λ (k : List Use × ℕ). k.0) e

site_same : (s t : State) → kept_in t ≡ kept_in s → t.site ≡ s.site
site_same s t e = ap (λ (k : List Use × ℕ). k.1) e

function_stands : (f : FileState) (g : FunctionTree) → Stand f → OnAnswer Stand (function_in f g)
function_stands f g w =
    then_on (λ (a : Said × State). kept_in a.1 ≡ kept_in f.state) Stand (specified f.state g.specifiers) _ (specified_same f.state g.specifiers) (λ a e.
    let result : Shape × State = declared_pointers a.1 (base a.0) g.pointers in
    let r : State = enter (body_begins result.1) in
    then_on (λ (s : State). kept_in s ≡ kept_in r) Stand (parameters_in r g.parameters) _ (parameters_kept r g.parameters) (λ s k.
    let h : Head = head_of g result.0 s.locals in
    let t : State = in_scope s (left_names s.scope) in
    let already : Option Named = named_here t.scope h.name in
    let same : s.uses ≡ f.state.uses = uses_same r s k ∙ uses_same f.state a.1 e in
    then_any Stand (function_rules t h a.0.storage result.0) (λ u. headed (with_state f t) (names_here s.scope) h g.body) (λ u.
    headed_stands (with_state f t) (in_scope t (with_function t.scope h already)) (names_here s.scope) (number_of t.scope already) h already g.body refl (site_same r s k) (same_used f t same w))))

named_task_stands : (f : FileState) (priority : ℕ) (n : Name) (q : Place) (parts : PartTrees) → Stand f → OnAnswer Stand (named_task_in f priority n q parts)
named_task_stands f priority n q parts w =
    let v : State = enter (body_begins (in_scope f.state (task_scope f.state.scope n))) in
    on_row Stand (is_declared_here f.state n || is_some (linked f.state n)) Kinds.Redeclared q _ (λ x.
    then_on (BodyTold v) Stand (body_in v void_number parts) _ (body_told v void_number parts refl) (λ b t.
    let x : TypedFunctionTree = record { name = n; place = q; result = void_number; parameters = []; body = Some b.body } in
    let s : Stand (record f { state = to_file b.state; functions = f.functions ++ x ∷ []; calls = f.calls ++ b.calls ∷ [] }) =
    added f (to_file b.state) t.more x b.calls t.uses w (λ d r o p u.
    let S : TypedBodyTree → Type 0 = λ y. StatementsMention o b.calls y.statements × All (λ (g : ℕ). p g ≡ true) b.calls in
    subst S (same_Some b.body d r) (t.told o p u)) in
    record { graph = s.graph; bodies = s.bodies }))

task_stands : (f : FileState) (t : Tree) (n : Name) (q : Place) (parts : PartTrees) (p : Place) → Stand f → OnAnswer Stand (task_in f t n q parts p)
task_stands f t n q parts p w =
    then_on (λ (a : OperandTree × State). kept_in a.1 ≡ kept_in f.state) Stand (measured f.state t) _ (measured_same f.state t) (λ a e.
    on_row_unless (λ (k : ℕ). Unit {0}) Stand (priority_of (folded_value a.0)) Kinds.BadTask p _ (some_any (priority_of (folded_value a.0))) (λ priority i.
    named_task_stands (with_state f a.1) priority n q parts (same_used f a.1 (uses_same f.state a.1 e) w)))

mutex_stands : (f : FileState) (n : Name) (p : Place) → Stand f → OnAnswer Stand (mutex_in f n p)
mutex_stands f n p w = on_row Stand (is_declared_here f.state n) Kinds.Redeclared p _ (λ e. record { graph = w.graph; bodies = w.bodies })

declaration_stands : (f : FileState) (d : DeclarationTree) → Stand f → OnAnswer Stand (then_with (file_declaration f.state d) (λ s. Ok (with_state f s)))
declaration_stands f d w =
    then_on (λ (t : State). Spends (λ (k : ℕ). true) [] f.state t (Unit {0})) Stand (file_declaration f.state d) (λ s. Ok (with_state f s)) (file_declaration_quiet (λ (k : ℕ). true) [] f.state d) (λ t s.
    more_used f t s.used s.uses w)

item_stands : (f : FileState) (i : ItemTree) → Stand f → OnAnswer Stand (item_in f i)
item_stands f (a_declaration d) w = declaration_stands f d w
item_stands f (a_function g) w = function_stands f g w
item_stands f an_empty_item w = w
item_stands f (a_mutex n p) w = mutex_stands f n p w
item_stands f (a_task t n q parts p) w = task_stands f t n q parts p w

items_stand : (f : FileState) (is : List ItemTree) → Stand f → OnAnswer Stand (items_in f is)
items_stand f [] w = w
items_stand f (i ∷ is) w = then_on Stand Stand (item_in f i) (λ g. items_in g is) (item_stands f i w) (λ g k. items_stand g is k)

first_stands : Stand first_file_state
first_stands = record { graph = refl; bodies = λ k b q. absurd (none-some b (ap (λ (y : TypedFunctionTree). y.body) (sym (get_or_past [] k no_typed_function (omega arith))) ∙ q)) }

file_stands : (items : List ItemTree) → OnAnswer Stand (items_in first_file_state items)
file_stands items = items_stand first_file_state items first_stands

-- ## Nothing is undefined

none_found : {A : Type 0} (b : Bool) (x : A) (rest : Option A) → cond b (Some x) rest ≡ None → (b ≡ false) × (rest ≡ None)
none_found true x rest e = absurd (none-some x (sym e))
none_found false x rest e = (refl, e)

none_mapped : {A B : Type 0} (f : A → B) (o : Option A) → option_map f o ≡ None → o ≡ None
none_mapped f None e = refl
none_mapped f (Some a) e = absurd (none-some (f a) (sym e))

is_there : {A : Type 0} (o : Option A) → is_none o ≡ false → is_some o ≡ true
is_there None e = absurd (false≢true (sym e))
is_there (Some a) e = refl

abbrev objects_of : FileState → ℕ → Bool
objects_of f k = (static f.state k).defined

abbrev functions_of : FileState → ℕ → Bool
functions_of f k = is_some (typed_function f k).body

use_passes : (f : FileState) (x : Used) → is_undefined f x ≡ false → Passes (objects_of f) (functions_of f) x
use_passes f (Used.Function k) e = is_there (let y : TypedFunctionTree = typed_function f k in y.body) e
use_passes f (Used.Static k) e = not-false (static f.state k).defined e

all_passes : (f : FileState) (us : List Use) → find (λ u. is_undefined f u.used) us ≡ None → UsesPass (objects_of f) (functions_of f) us
all_passes f [] e = tt
all_passes f (u ∷ us) e =
    let h = none_found (is_undefined f u.used) u (find (λ u. is_undefined f u.used) us) e in
    (use_passes f u.used h.0, all_passes f us h.1)

-- ## Whole files

pub record Found (main : Option Name) (file : TypedFileTree) : Type 0 where
  pub found : FileState
  pub stand : Stand found
  pub none_undefined : undefined_use found ≡ None
  pub is : file ≡ file_of found main

refused_is : (main : Option Name) (answer : Result TypedFileTree Refusal) (r : Refusal) → answer ≡ Err r → OnAnswer (Found main) answer
refused_is main answer r e = let P : Result TypedFileTree Refusal → Type 0 = OnAnswer (Found main) in subst P (sym e) tt

closes_by : (f : FileState) (main : Option Name) (answer : Result TypedFileTree Refusal) (o : Option Place) → undefined_use f ≡ o → Stand f → Closes f main o answer → OnAnswer (Found main) answer
closes_by f main answer (Some p) e h c = refused_is main answer _ c
closes_by f main answer None e h (inl r) = refused_is main answer _ r.answered
closes_by f main answer None e h (inr d) =
    let P : Result TypedFileTree Refusal → Type 0 = OnAnswer (Found main) in
    subst P (sym d.answered) (record { found = f; stand = h; none_undefined = e; is = refl })

ends_by : (main : Option Name) (answer : Result TypedFileTree Refusal) (r : Result FileState Refusal) → OnAnswer Stand r → Ends main r answer → OnAnswer (Found main) answer
ends_by main answer (Err r) h e = refused_is main answer r e
ends_by main answer (Ok f) h e = closes_by f main answer (undefined_use f) refl h e

sites_of : (f : FileState) (main : Option Name) → Stand f → undefined_use f ≡ None → (k : ℕ) (b : TypedBodyTree) → (typed_function f k).body ≡ Some b
    → StatementsMention (is_defined_object (file_of f main)) (calls_in f.calls k) b.statements × All (λ (g : ℕ). is_defined_function (file_of f main) g ≡ true) (calls_in f.calls k)
sites_of f main h e k b q = h.bodies k b q (objects_of f) (functions_of f) (all_passes f f.state.uses (none_mapped (λ (u : Use). u.place) (find (λ u. is_undefined f u.used) f.state.uses) e))

pub sites_stand : SitesStand
sites_stand main items file e =
    let c : Found main file = ends_by main (Ok file) (items_in first_file_state items) (file_stands items) e in
    let P : TypedFileTree → Type 0 = λ x. (k : ℕ) (b : TypedBodyTree) → (function_of_file x k).body ≡ Some b
    → StatementsMention (is_defined_object x) (calls_in x.calls k) b.statements × All (λ (g : ℕ). is_defined_function x g ≡ true) (calls_in x.calls k) in
    subst P (sym c.is) (sites_of c.found main c.stand c.none_undefined)
