-- Statements mention what their text uses, and their calls stand at their sites.
use Rattle.std.proofs.Common.{◌≡◌, ℕ, suc, List, [], ◌∷◌, ◌++◌, length, refl, sym, subst, ap, ◌∙◌, arith}
use Rattle.std.specs.Prelude.{◌+◌, ℤ, Bool, true, false, cond, not, ◌&&◌, ◌||◌, is_none, is_some, All, map, Option, Some, None, Result, Ok}
use Rattle.std.proofs.lemmas.List.{append-nil, append_assoc}
use Rattle.std.proofs.lemmas.List.Elements.{All-nil, All-cons, All-append}
use Rattle.tm_laid.specs.tm_cint.declared.int_types.IntType.{IntType}
use Rattle.tm_laid.specs.tm_terms.declared.places.Place.{Place}
use Rattle.tm_laid.specs.tm_terms.declared.refusals.Kind.TheVariants as Kinds
use Rattle.tm_laid.specs.tm_terms.declared.refusals.Refusal.{Refusal}
use Rattle.tm_laid.specs.tm_terms.declared.types_named.Storage.{Storage}
use Rattle.tm_laid.specs.tm_terms.declared.types_named.Storage.TheVariants as Storages
use Rattle.tm_laid.specs.tm_terms.ExprTrees.{Tree, place_of}
use Rattle.tm_laid.specs.tm_trees.declared.declarations.Tag.{Tag}
use Rattle.tm_laid.specs.tm_trees.DeclarationTrees.{DeclarationTree, ValueTree, an_expression, a_list, ValueTrees}
use Rattle.tm_laid.specs.tm_trees.DeclarationTrees.{no_values, and_value, InitialiserTree, InitDeclaratorTree}
use Rattle.tm_laid.specs.tm_trees.FileTrees.{ForFirstTree, by_expression, by_declaration, StatementTree, a_block}
use Rattle.tm_laid.specs.tm_trees.FileTrees.{a_value, an_if, an_if_else, a_while, a_do, a_for, a_switch, a_break}
use Rattle.tm_laid.specs.tm_trees.FileTrees.{a_continue, a_return, a_lock, an_unlock, a_yield, PartTree, a_local}
use Rattle.tm_laid.specs.tm_trees.FileTrees.{a_step, PartTrees, no_parts, and_part, CaseTree, a_case, a_default}
use Rattle.tm_laid.specs.tm_trees.FileTrees.{a_case_step, CaseTrees, no_cases, and_case}
use Rattle.tm_laid.specs.tm_typed.declared.types.Scalar.{Scalar}
use Rattle.tm_laid.specs.tm_typed.declared.operands.Sort.{Sort}
use Rattle.tm_laid.specs.tm_typed.declared.operands.Sort.TheVariants as Sorts
use Rattle.tm_laid.specs.tm_typed.declared.scopes.Named.TheVariants as Names
use Rattle.tm_laid.specs.tm_typed.declared.scopes.ObjectNumber.TheVariants as Objects
use Rattle.tm_laid.specs.tm_typed.declared.scopes.Part.{Part}
use Rattle.tm_laid.specs.tm_typed.declared.specifiers.Said.{Said}
use Rattle.tm_laid.specs.tm_typed.declared.uses.Use.{Use}
use Rattle.tm_laid.specs.tm_typed.Scopes.{ctype_of, named, named_here, tagged_here}
use Rattle.tm_laid.specs.tm_typed.TypedTrees.{RvalueTree, Rated, OperandTree}
use Rattle.tm_laid.specs.tm_cint.Conversions.{promoted_type}
use Rattle.tm_laid.specs.tm_typed.Operands.{converted, valued, given, scalar_of, is_structure, is_null, is_integer}
use Rattle.tm_laid.specs.tm_typed.Operands.{is_condition}
use Rattle.tm_laid.specs.tm_typed.Refusals.{then_with, row, row_unless}
use Rattle.tm_laid.specs.tm_typed.States.{State, static_type, static}
use Rattle.tm_laid.specs.tm_typed.Typing.{typing, calls}
use Rattle.tm_laid.specs.tm_typed.TypeNames.{is_void, type_of_name, prepared}
use Rattle.tm_laid.specs.tm_typed.TypeRows.{clipped}
use Rattle.tm_laid.specs.tm_typed.Uses.{uses_of}
use Rattle.tm_laid.specs.tm_typed.Evaluation.{evaluated, typed_in, folded_value}
use Rattle.tm_laid.specs.tm_typed.Structures.{is_no_object, is_declared_here, specified}
use Rattle.tm_laid.specs.tm_typed.StaticValues.{static_value}
use Rattle.tm_laid.specs.tm_typed.Initialisers.{part, is_aggregate, scalar_rules, lone_rules, given_behind, lone}
use Rattle.tm_laid.specs.tm_typed.Initialisers.{list_rules, initial, initials, Given}
use Rattle.tm_laid.specs.tm_typed.Declarations.{Declared, declared_by, bound_here, typedef_rules, static_cell_of}
use Rattle.tm_laid.specs.tm_typed.Declarations.{with_static, initialised_static, new_static, linked, clashes, is_other}
use Rattle.tm_laid.specs.tm_typed.Declarations.{linked_object, file_object, is_extern, is_typedef, file_rules}
use Rattle.tm_laid.specs.tm_typed.Declarations.{is_function, no_value, extern_value, extern_object, object_rules}
use Rattle.tm_laid.specs.tm_typed.Declarations.{static_object, LocalInitial, initialised_local, new_local, Locals}
use Rattle.tm_laid.specs.tm_typed.Declarations.{local_object, no_locals, local_rules, file_declared, local_declared}
use Rattle.tm_laid.specs.tm_typed.Declarations.{lone_tag, tag_rules, file_form, file_declaration, local_form}
use Rattle.tm_laid.specs.tm_typed.Declarations.{local_declaration}
use Rattle.tm_laid.specs.tm_typed.TypedStatements.{GivenTree, LocalTree, TypedTree, evaluates, declares, runs_block}
use Rattle.tm_laid.specs.tm_typed.TypedStatements.{branches, branches_else, loops_while, loops_do, loops_for, selects}
use Rattle.tm_laid.specs.tm_typed.TypedStatements.{breaks, continues, returns, locks, unlocks, TypedTrees}
use Rattle.tm_laid.specs.tm_typed.TypedStatements.{and_statement, TypedCase, a_label, a_default_label, a_labelled_step}
use Rattle.tm_laid.specs.tm_typed.TypedStatements.{TypedCases, and_typed_case}
use Rattle.tm_laid.specs.tm_typed.StatementRules.{Around, looping, switching, condition_rules, Selector, selector_rules}
use Rattle.tm_laid.specs.tm_typed.StatementRules.{Labels, no_labels, with_label, label_rules, default_rules}
use Rattle.tm_laid.specs.tm_typed.StatementRules.{return_rules, return_value_rules, mutex_rules}
use Rattle.tm_laid.specs.tm_typed.StatementTyping.{value_in, condition_in, optional_value_in, optional_condition_in}
use Rattle.tm_laid.specs.tm_typed.StatementTyping.{return_in, selector_in, label_in, first_in, enter, leave}
use Rattle.tm_laid.specs.tm_typed.StatementTyping.{statement_in, part_in, parts_in, case_in, cases_in}
use Rattle.tm_laid.specs.tm_typed.WellTyped.{OnAnswer}
use Rattle.typing_laws.proofs.Steps.{then_on, then_any}
use Rattle.typed_file_laws.specs.Mentions.{Mentions, OperandMentions, MayMention, GivenMention, StatementMentions, StatementsMention, CasesMention, CaseMentions}
use Rattle.typed_file_laws.proofs.RuleSteps.{on_row, OnSome, on_row_unless, some_any, answer_weaker}
use Rattle.typed_file_laws.proofs.MentionRules.{valued_mentions, converted_mentions, given_mentions}
use Rattle.typed_file_laws.proofs.MentionTyping.{call_count, UsesStand, count_append, stand_append, at_site, typing_told}
use Rattle.typed_file_laws.proofs.SameUses.{kept_in, specified_same, declared_by_same, typedef_same, linked_same, tag_rules_same}

module _ (o : ℕ → Bool) (c : List ℕ) where
  -- The second state stands behind these further uses and their calls, and where these stand, this holds.
  pub record Spends (s t : State) (P : Type 0) : Type 0 where
    pub used : List Use
    pub uses : t.uses ≡ s.uses ++ used
    pub site : t.site ≡ s.site + call_count used
    pub holds : UsesStand o c s.site used → P

  pub spends_none : (s : State) (P : Type 0) → P → Spends s s P
  spends_none s P h = record { used = []; uses = sym (append-nil s.uses); site = omega arith; holds = λ u. h }

  pub spends_same : (s t : State) (P : Type 0) → kept_in t ≡ kept_in s → P → Spends s t P
  spends_same s t P e h = record {
    used = [];
    uses = ap (λ (k : List Use × ℕ). k.0) e ∙ sym (append-nil s.uses);
    site = let n : t.site ≡ s.site = ap (λ (k : List Use × ℕ). k.1) e in omega (arith, n);
    holds = λ u. h;
  }

  pub spends_on : (s t u : State) (P Q R : Type 0) → Spends s t P → Spends t u Q → (P → Q → R) → Spends s u R
  spends_on s t u P Q R a b f = record {
    used = a.used ++ b.used;
    uses = b.uses ∙ ap (λ (us : List Use). us ++ b.used) a.uses ∙ append_assoc s.uses a.used b.used;
    site = let x = a.site in let y = b.site in let z = count_append a.used b.used in omega (arith, x, y, z);
    holds = λ h.
        let parts = stand_append o c s.site a.used b.used h in
        f (a.holds parts.0) (b.holds (at_site o c (s.site + call_count a.used) t.site b.used (sym a.site) parts.1));
  }

  pub spends_weaker : (s t : State) (P Q : Type 0) → Spends s t P → (P → Q) → Spends s t Q
  spends_weaker s t P Q a f = record { used = a.used; uses = a.uses; site = a.site; holds = λ h. f (a.holds h) }

  -- the same behind a state that stands behind the same uses
  pub spends_view : (s t u : State) (P : Type 0) → Spends s t P → kept_in u ≡ kept_in t → Spends s u P
  spends_view s t u P a e = record {
    used = a.used;
    uses = ap (λ (k : List Use × ℕ). k.0) e ∙ a.uses;
    site = let n : u.site ≡ t.site = ap (λ (k : List Use × ℕ). k.1) e in let m = a.site in omega (arith, n, m);
    holds = a.holds;
  }

  -- ## Expressions

  abbrev Says : State → OperandTree × State → Type 0
  Says s a = Spends s a.1 (OperandMentions o c a.0)

  typed_spends : (s : State) (t : Tree) → OnAnswer (Says s) (typed_in s t)
  typed_spends s t =
      let scope = prepared s.scope t in
      then_on (λ (a : OperandTree). (call_count (uses_of scope t) ≡ calls t) × (UsesStand o c s.site (uses_of scope t) → OperandMentions o c a)) (Says s) (typing type_of_name scope s.site t)
      (λ a. Ok (a, evaluated s scope t a)) (typing_told o c type_of_name scope s.site t) (λ a h. record {
        used = uses_of scope t;
        uses = refl;
        site = ap (λ (n : ℕ). s.site + n) (sym h.0);
        holds = h.1;
      })

  typed_on : {B : Type 0} (s : State) (t : Tree) (Q : B → Type 0) (k : OperandTree × State → Result B Refusal) → ((a : OperandTree × State) → Spends s a.1 (OperandMentions o c a.0) → OnAnswer Q (k a))
      → OnAnswer Q (then_with (typed_in s t) k)
  typed_on s t Q k f = then_on (Says s) Q (typed_in s t) k (typed_spends s t) f

  value_said : (a : OperandTree × State) → OperandMentions o c a.0 → Mentions o c (let v : Rated = valued a.1.scope a.0 in v.value)
  value_said a h = valued_mentions o c a.1.scope a.0 h

  abbrev Speaks : State → RvalueTree × State → Type 0
  Speaks s a = Spends s a.1 (Mentions o c a.0)

  abbrev MaySpeak : State → Option RvalueTree × State → Type 0
  MaySpeak s a = Spends s a.1 (MayMention o c a.0)

  value_speaks : (s : State) (t : Tree) → OnAnswer (Speaks s) (value_in s t)
  value_speaks s t = typed_on s t (Speaks s) _ (λ a h. spends_weaker s a.1 (OperandMentions o c a.0) (Mentions o c (let v : Rated = valued a.1.scope a.0 in v.value)) h (value_said a))

  test_speaks : (s : State) (t : Tree) → OnAnswer (Speaks s) (condition_in s t)
  test_speaks s t = typed_on s t (Speaks s) _ (λ a h.
      let v : Rated = valued a.1.scope a.0 in
      then_on (λ (e : RvalueTree). Spends s a.1 (Mentions o c e)) (Speaks s) (condition_rules (place_of t) v) (λ e. Ok (e, a.1))
      (on_row (λ (e : RvalueTree). Spends s a.1 (Mentions o c e)) (not (is_condition v.sort)) Kinds.Mismatch (place_of t) (Ok v.value) (λ e. spends_weaker s a.1 (OperandMentions o c a.0) (Mentions o c v.value) h (value_said a))) (λ e k. k))

  may_value : (s : State) (t : Option Tree) → OnAnswer (MaySpeak s) (optional_value_in s t)
  may_value s None = spends_none s (Unit {0}) tt
  may_value s (Some t) = then_on (Speaks s) (MaySpeak s) (value_in s t) (λ a. Ok (Some a.0, a.1)) (value_speaks s t) (λ a h. h)

  may_test : (s : State) (t : Option Tree) → OnAnswer (MaySpeak s) (optional_condition_in s t)
  may_test s None = spends_none s (Unit {0}) tt
  may_test s (Some t) = then_on (Speaks s) (MaySpeak s) (condition_in s t) (λ a. Ok (Some a.0, a.1)) (test_speaks s t) (λ a h. h)

  -- ## Initialisers

  abbrev CellsMention : List GivenTree → Type 0
  CellsMention gs = All (λ (g : GivenTree). Mentions o c g.value) gs

  abbrev Gives : State → Given → Type 0
  Gives s a = Spends s a.1 (CellsMention a.0)

  scalar_gives : (static : Bool) (s t : State) (n k : ℕ) (v : Rated) → Spends s t (Mentions o c v.value) → OnAnswer (Gives s) (scalar_rules static t n k v)
  scalar_gives static s t n k v h =
      on_row (Gives s) (is_structure v.sort) Kinds.Unsupported v.place _ (λ x.
      on_row_unless (λ (u : Scalar). Unit {0}) (Gives s) (scalar_of t.scope n) Kinds.Mismatch v.place _ (some_any (scalar_of t.scope n)) (λ u i.
      given_by u (given t.scope v n) refl))
    where
      one : (u : Scalar) (e : RvalueTree) → OnSome (Mentions o c) (Some e) → CellsMention (record { cell = k; scalar = u; value = e } ∷ [])
      one u e m = All-cons (λ (g : GivenTree). Mentions o c g.value) (record { cell = k; scalar = u; value = e }) [] m (All-nil (λ (g : GivenTree). Mentions o c g.value))

      given_by : (u : Scalar) (x : Option RvalueTree) → given t.scope v n ≡ x → OnAnswer (Gives s) (row_unless x Kinds.Mismatch v.place (λ e.
          row (static && is_none (static_value t e)) Kinds.NotConstant v.place (Ok (record { cell = k; scalar = u; value = e } ∷ [], t))))
      given_by u None q = tt
      given_by u (Some e) q =
          on_row (Gives s) (static && is_none (static_value t e)) Kinds.NotConstant v.place (Ok (record { cell = k; scalar = u; value = e } ∷ [], t)) (λ y.
          spends_weaker s t (Mentions o c v.value) (CellsMention (record { cell = k; scalar = u; value = e } ∷ [])) h (λ m.
          one u e (let P : Option RvalueTree → Type 0 = OnSome (Mentions o c) in subst P q (given_mentions o c t.scope v n m))))

  lone_by : (static : Bool) (s t : State) (n k : ℕ) (v : Rated) (b : Bool) → Spends s t (Mentions o c v.value) → OnAnswer (Gives s) (cond b (Ok ([], t)) (scalar_rules static t n k v))
  lone_by static s t n k v true h = spends_weaker s t (Mentions o c v.value) (CellsMention []) h (λ m. All-nil (λ (g : GivenTree). Mentions o c g.value))
  lone_by static s t n k v false h = scalar_gives static s t n k v h

  aggregate_by : (static : Bool) (s : State) (n k : ℕ) (t : Tree) (further : Result Given Refusal) (b : Bool) → OnAnswer (Gives s) further
      → OnAnswer (Gives s) (cond b (then_with (typed_in s t) (λ a. lone_rules static a.1 n k (valued a.1.scope a.0))) further)
  aggregate_by static s n k t further true h = typed_on s t (Gives s) _ (λ a i.
      let v : Rated = valued a.1.scope a.0 in
      lone_by static s a.1 n k v (is_integer v.sort && is_null v.sort) (spends_weaker s a.1 (OperandMentions o c a.0) (Mentions o c v.value) i (value_said a)))
  aggregate_by static s n k t further false h = h

  list_gives : (static : Bool) (s : State) (n k : ℕ) (p : Place) (q : Option Part) (t : Option Tree) (further : Result Given Refusal) → OnAnswer (Gives s) further → OnAnswer (Gives s) (list_rules static s n k p q t further)
  list_gives static s n k p (Some q) (Some t) further h = aggregate_by static s q.of.number k t further (is_aggregate s.scope q.of.number) h
  list_gives static s n k p (Some q) None further h = on_row (Gives s) (not (is_aggregate s.scope n)) Kinds.Mismatch p further (λ a. h)
  list_gives static s n k p None t further h = on_row (Gives s) (not (is_aggregate s.scope n)) Kinds.Mismatch p further (λ a. h)

  mutual
    initial_gives : (static : Bool) (s : State) (n k : ℕ) (v : ValueTree) → OnAnswer (Gives s) (initial static s n k v)
    initial_gives static s n k (an_expression t) = typed_on s t (Gives s) _ (λ a i.
        let v : Rated = valued a.1.scope a.0 in
        scalar_gives static s a.1 n k v (spends_weaker s a.1 (OperandMentions o c a.0) (Mentions o c v.value) i (value_said a)))
    initial_gives static s n k (a_list values p) = list_gives static s n k p (part s.scope n 0) (lone values) (initials static s n k 0 values p) (initials_give static s n k 0 values p)

    initials_give : (static : Bool) (s : State) (n k i : ℕ) (values : ValueTrees) (p : Place) → OnAnswer (Gives s) (initials static s n k i values p)
    initials_give static s n k i no_values p = spends_none s (CellsMention []) (All-nil (λ (g : GivenTree). Mentions o c g.value))
    initials_give static s n k i (and_value v values) p =
        on_row_unless (λ (q : Part). Unit {0}) (Gives s) (part s.scope n i) Kinds.Mismatch p _ (some_any (part s.scope n i)) (λ q u.
        then_on (Gives s) (Gives s) (initial static s q.of.number (clipped (k + q.cell)) v) (λ g. given_behind g.0 (initials static g.1 n k (suc i) values p)) (initial_gives static s q.of.number (clipped (k + q.cell)) v) (λ g h.
        then_on (Gives g.1) (Gives s) (initials static g.1 n k (suc i) values p) (λ x. Ok (g.0 ++ x.0, x.1)) (initials_give static g.1 n k (suc i) values p) (λ x j.
        spends_on s g.1 x.1 (CellsMention g.0) (CellsMention x.0) (CellsMention (g.0 ++ x.0)) h j (λ a b. All-append (λ (g : GivenTree). Mentions o c g.value) g.0 x.0 a b))))

  -- ## Declarations

  abbrev Quiet : State → State → Type 0
  Quiet s t = Spends s t (Unit {0})

  quiet_on : (s t : State) (r : Result State Refusal) → Quiet s t → OnAnswer (Quiet t) r → OnAnswer (Quiet s) r
  quiet_on s t r a h = answer_weaker (Quiet t) (Quiet s) r (λ u b. spends_on s t u (Unit {0}) (Unit {0}) (Unit {0}) a b (λ x y. tt)) h

  same_quiet : (s : State) (r : Result State Refusal) → OnAnswer (λ (t : State). kept_in t ≡ kept_in s) r → OnAnswer (Quiet s) r
  same_quiet s r h = answer_weaker (λ (t : State). kept_in t ≡ kept_in s) (Quiet s) r (λ t e. spends_same s t (Unit {0}) e tt) h

  static_quiet : (s : State) (k : ℕ) (i : Option InitialiserTree) → OnAnswer (Quiet s) (initialised_static s k i)
  static_quiet s k None = spends_none s (Unit {0}) tt
  static_quiet s k (Some i) = then_on (Gives s) (Quiet s) (initial true s (static_type s k).number 0 i.value) _ (initial_gives true s (static_type s k).number 0 i.value) (λ g h.
      spends_view s g.1 (with_static g.1 k (record (static g.1 k) { given = map (static_cell_of g.1) g.0 })) (Unit {0}) (spends_weaker s g.1 (CellsMention g.0) (Unit {0}) h (λ x. tt)) refl)

  file_object_quiet : (s : State) (b : Bool) (d : Declared) → OnAnswer (Quiet s) (file_object s b d)
  file_object_quiet s b d =
      on_row (Quiet s) d.shape.left_out Kinds.Unsupported d.place _ (λ x.
      on_row (Quiet s) (is_other (named_here s.scope d.name) (linked s d.name) || clashes s d (linked s d.name)) Kinds.Redeclared d.place _ (λ y.
      on_row (Quiet s) (is_no_object s.scope d.shape) Kinds.Mismatch d.place _ (λ z.
      let a : ℕ × State = linked_object s d (not b) (linked s d.name) in
      quiet_on s a.1 (initialised_static a.1 a.0 d.initialiser) (spends_same s a.1 (Unit {0}) (linked_same s d (not b) (linked s d.name)) tt) (static_quiet a.1 a.0 d.initialiser))))

  file_rules_quiet : (s : State) (storage : Option Storage) (d : Declared) → OnAnswer (Quiet s) (file_rules s storage d)
  file_rules_quiet s storage d = by_test (is_typedef storage)
    where
      by_test : (b : Bool) → OnAnswer (Quiet s) (cond b (typedef_rules s d) (file_object s (is_extern storage && not (is_some d.initialiser)) d))
      by_test true = same_quiet s (typedef_rules s d) (typedef_same s s d refl)
      by_test false = file_object_quiet s (is_extern storage && not (is_some d.initialiser)) d

  file_declared_quiet : (s : State) (said : Said) (ds : List InitDeclaratorTree) → OnAnswer (Quiet s) (file_declared s said ds)
  file_declared_quiet s said [] = spends_none s (Unit {0}) tt
  file_declared_quiet s said (d ∷ ds) =
      then_on (λ (a : Declared × State). kept_in a.1 ≡ kept_in s) (Quiet s) (declared_by s said d) _ (declared_by_same s said d) (λ a e.
      then_on (Quiet a.1) (Quiet s) (file_rules a.1 said.storage a.0) _ (file_rules_quiet a.1 said.storage a.0) (λ t h.
      quiet_on s t (file_declared t said ds) (spends_on s a.1 t (Unit {0}) (Unit {0}) (Unit {0}) (spends_same s a.1 (Unit {0}) e tt) h (λ x y. tt)) (file_declared_quiet t said ds)))

  file_form_quiet : (s : State) (d : DeclarationTree) (t : Option Tag) → OnAnswer (Quiet s) (file_form s d t)
  file_form_quiet s d (Some t) = same_quiet s (tag_rules s t (tagged_here s.scope t.name)) (tag_rules_same s t (tagged_here s.scope t.name))
  file_form_quiet s d None =
      then_on (λ (a : Said × State). kept_in a.1 ≡ kept_in s) (Quiet s) (specified s d.specifiers) _ (specified_same s d.specifiers) (λ a e.
      quiet_on s a.1 (file_declared a.1 a.0 d.declarators) (spends_same s a.1 (Unit {0}) e tt) (file_declared_quiet a.1 a.0 d.declarators))

  pub file_declaration_quiet : (s : State) (d : DeclarationTree) → OnAnswer (Quiet s) (file_declaration s d)
  file_declaration_quiet s d = file_form_quiet s d (lone_tag d.specifiers d.declarators)

  -- ## Declarations in blocks

  abbrev LocalsMention : List LocalTree → Type 0
  LocalsMention ls = All (λ (l : LocalTree). GivenMention o c l.initialiser) ls

  abbrev Locates : State → Locals → Type 0
  Locates s a = Spends s a.1 (LocalsMention a.0)

  none_located : (s : State) (r : Result State Refusal) → OnAnswer (Quiet s) r → OnAnswer (Locates s) (then_with r no_locals)
  none_located s r h = then_on (Quiet s) (Locates s) r no_locals h (λ t a. spends_weaker s t (Unit {0}) (LocalsMention []) a (λ x. All-nil (λ (l : LocalTree). GivenMention o c l.initialiser)))

  extern_value_quiet : (s : State) (i : Option InitialiserTree) → OnAnswer (Quiet s) (extern_value s i)
  extern_value_quiet s None = spends_none s (Unit {0}) tt
  extern_value_quiet s (Some i) = by_value i.value
    where
      by_value : (v : ValueTree) → OnAnswer (Quiet s) (no_value s v)
      by_value (an_expression t) = then_any (Quiet s) (typed_in s t) _ (λ a. tt)
      by_value (a_list vs p) = tt

  extern_quiet : (s : State) (d : Declared) → OnAnswer (Quiet s) (extern_object s d)
  extern_quiet s d =
      on_row (Quiet s) d.shape.left_out Kinds.Unsupported d.place _ (λ x.
      on_row (Quiet s) (is_other (named_here s.scope d.name) (linked s d.name) || is_function (named s.scope d.name) || clashes s d (linked s d.name)) Kinds.Redeclared d.place _ (λ y.
      on_row (Quiet s) (is_no_object s.scope d.shape) Kinds.Mismatch d.place _ (λ z.
      then_on (Quiet s) (Quiet s) (extern_value s d.initialiser) _ (extern_value_quiet s d.initialiser) (λ t h.
      let a : ℕ × State = linked_object t d false (linked t d.name) in
      spends_view s t a.1 (Unit {0}) h (linked_same t d false (linked t d.name))))))

  object_on : {A : Type 0} (s : State) (d : Declared) (Q : A → Type 0) (further : Result A Refusal) → OnAnswer Q further → OnAnswer Q (object_rules s d further)
  object_on s d Q further h =
      on_row Q d.shape.left_out Kinds.Unsupported d.place _ (λ x.
      on_row Q (is_declared_here s d.name) Kinds.Redeclared d.place _ (λ y.
      on_row Q (is_no_object s.scope d.shape) Kinds.Mismatch d.place further (λ z. h)))

  static_object_quiet : (s : State) (d : Declared) → OnAnswer (Quiet s) (static_object s d)
  static_object_quiet s d =
      let k : ℕ = length s.statics in
      let t : State = bound_here (new_static s d true) d (Names.Object (Objects.Static k) d.shape.of) in
      object_on s d (Quiet s) (initialised_static t k d.initialiser) (quiet_on s t (initialised_static t k d.initialiser) (spends_same s t (Unit {0}) refl tt) (static_quiet t k d.initialiser))

  abbrev GivesLocal : State → LocalInitial → Type 0
  GivesLocal s a = Spends s a.1 (GivenMention o c a.0)

  local_initialised : (s : State) (n : ℕ) (i : Option InitialiserTree) → OnAnswer (GivesLocal s) (initialised_local s n i)
  local_initialised s n None = spends_none s (Unit {0}) tt
  local_initialised s n (Some i) = then_on (Gives s) (GivesLocal s) (initial false s n 0 i.value) _ (initial_gives false s n 0 i.value) (λ g h. h)

  local_locates : (s : State) (d : Declared) → OnAnswer (Locates s) (local_object s d)
  local_locates s d =
      let t : State = new_local s d in
      object_on s d (Locates s) _ (then_on (GivesLocal t) (Locates s) (initialised_local t d.shape.of.number d.initialiser) (λ i. Ok (record { object = length s.locals; initialiser = i.0 } ∷ [], i.1))
      (local_initialised t d.shape.of.number d.initialiser) (λ a h.
      let l : LocalTree = record { object = length s.locals; initialiser = a.0 } in
      spends_on s t a.1 (Unit {0}) (GivenMention o c a.0) (LocalsMention (l ∷ [])) (spends_same s t (Unit {0}) refl tt) h (λ x y.
      All-cons (λ (l : LocalTree). GivenMention o c l.initialiser) l [] y (All-nil (λ (l : LocalTree). GivenMention o c l.initialiser)))))

  local_rules_locate : (s : State) (storage : Option Storage) (d : Declared) → OnAnswer (Locates s) (local_rules s storage d)
  local_rules_locate s (Some Storages.Typedef) d = none_located s (typedef_rules s d) (same_quiet s (typedef_rules s d) (typedef_same s s d refl))
  local_rules_locate s (Some Storages.Extern) d = none_located s (extern_object s d) (extern_quiet s d)
  local_rules_locate s (Some Storages.Static) d = none_located s (static_object s d) (static_object_quiet s d)
  local_rules_locate s _ d = local_locates s d

  locates_on : (s t : State) (P : Type 0) (r : Result Locals Refusal) → Spends s t P → OnAnswer (λ (a : Locals). Spends t a.1 (P → LocalsMention a.0)) r → OnAnswer (Locates s) r
  locates_on s t P r a h = answer_weaker (λ (x : Locals). Spends t x.1 (P → LocalsMention x.0)) (Locates s) r (λ x b. spends_on s t x.1 P (P → LocalsMention x.0) (LocalsMention x.0) a b (λ p f. f p)) h

  local_declared_locates : (s : State) (said : Said) (found : List LocalTree) (ds : List InitDeclaratorTree) → OnAnswer (λ (a : Locals). Spends s a.1 (LocalsMention found → LocalsMention a.0)) (local_declared s said found ds)
  local_declared_locates s said found [] = spends_none s (LocalsMention found → LocalsMention found) (λ h. h)
  local_declared_locates s said found (d ∷ ds) =
      then_on (λ (a : Declared × State). kept_in a.1 ≡ kept_in s) (λ (a : Locals). Spends s a.1 (LocalsMention found → LocalsMention a.0)) (declared_by s said d) _ (declared_by_same s said d) (λ a e.
      then_on (Locates a.1) (λ (a : Locals). Spends s a.1 (LocalsMention found → LocalsMention a.0)) (local_rules a.1 said.storage a.0) _ (local_rules_locate a.1 said.storage a.0) (λ l h.
      answer_weaker (λ (x : Locals). Spends l.1 x.1 (LocalsMention (found ++ l.0) → LocalsMention x.0)) (λ (x : Locals). Spends s x.1 (LocalsMention found → LocalsMention x.0)) (local_declared l.1 said (found ++ l.0) ds) (λ x b.
      spends_on s l.1 x.1 (LocalsMention l.0) (LocalsMention (found ++ l.0) → LocalsMention x.0) (LocalsMention found → LocalsMention x.0)
      (spends_on s a.1 l.1 (Unit {0}) (LocalsMention l.0) (LocalsMention l.0) (spends_same s a.1 (Unit {0}) e tt) h (λ u m. m)) b
      (λ m f k. f (All-append (λ (l : LocalTree). GivenMention o c l.initialiser) found l.0 k m)))
      (local_declared_locates l.1 said (found ++ l.0) ds)))

  local_form_locates : (s : State) (d : DeclarationTree) (t : Option Tag) → OnAnswer (Locates s) (local_form s d t)
  local_form_locates s d (Some t) = none_located s (tag_rules s t (tagged_here s.scope t.name)) (same_quiet s (tag_rules s t (tagged_here s.scope t.name)) (tag_rules_same s t (tagged_here s.scope t.name)))
  local_form_locates s d None =
      then_on (λ (a : Said × State). kept_in a.1 ≡ kept_in s) (Locates s) (specified s d.specifiers) _ (specified_same s d.specifiers) (λ a e.
      locates_on s a.1 (LocalsMention []) (local_declared a.1 a.0 [] d.declarators) (spends_same s a.1 (LocalsMention []) e (All-nil (λ (l : LocalTree). GivenMention o c l.initialiser))) (local_declared_locates a.1 a.0 [] d.declarators))

  local_declaration_locates : (s : State) (d : DeclarationTree) → OnAnswer (Locates s) (local_declaration s d)
  local_declaration_locates s d = local_form_locates s d (lone_tag d.specifiers d.declarators)

  -- ## Statements

  abbrev Tells : State → TypedTree × State → Type 0
  Tells s a = Spends s a.1 (StatementMentions o c a.0)

  abbrev pub AllTell : State → TypedTrees × State → Type 0
  AllTell s a = Spends s a.1 (StatementsMention o c a.0)

  abbrev CaseTells : State → TypedCase × Labels × State → Type 0
  CaseTells s a = Spends s a.2 (CaseMentions o c a.0)

  abbrev CasesTell : State → TypedCases × State → Type 0
  CasesTell s a = Spends s a.1 (CasesMention o c a.0)

  return_tells : (s : State) (around : Around) (t : Option Tree) (p : Place) → OnAnswer (Tells s) (return_in s around t p)
  return_tells s around None p =
      then_on (λ (r : TypedTree). Spends s s (StatementMentions o c r)) (Tells s) (return_rules s.scope around.result p) (λ r. Ok (r, s))
      (on_row (λ (r : TypedTree). Spends s s (StatementMentions o c r)) (not (is_void (ctype_of s.scope around.result))) Kinds.Mismatch p (Ok (returns None)) (λ e. spends_none s (Unit {0}) tt)) (λ r h. h)
  return_tells s around (Some t) p = typed_on s t (Tells s) _ (λ a h.
      let v : Rated = valued a.1.scope a.0 in
      then_on (λ (r : TypedTree). Spends s a.1 (StatementMentions o c r)) (Tells s) (return_value_rules a.1.scope around.result p v) (λ r. Ok (r, a.1))
      (on_row (λ (r : TypedTree). Spends s a.1 (StatementMentions o c r)) (is_structure v.sort) Kinds.Unsupported p _ (λ e.
      by_given a v (given a.1.scope v around.result) refl (spends_weaker s a.1 (OperandMentions o c a.0) (Mentions o c v.value) h (value_said a)))) (λ r k. k))
    where
      by_given : (a : OperandTree × State) (v : Rated) (x : Option RvalueTree) → given a.1.scope v around.result ≡ x → Spends s a.1 (Mentions o c v.value)
          → OnAnswer (λ (r : TypedTree). Spends s a.1 (StatementMentions o c r)) (row_unless x Kinds.Mismatch p (λ e. Ok (returns (Some e))))
      by_given a v None q h = tt
      by_given a v (Some e) q h = spends_weaker s a.1 (Mentions o c v.value) (Mentions o c e) h (λ m. let P : Option RvalueTree → Type 0 = OnSome (Mentions o c) in subst P q (given_mentions o c a.1.scope v around.result m))

  abbrev Selects : State → Selector × State → Type 0
  Selects s a = Spends s a.1 (Mentions o c a.0.value)

  selected : (p : Place) (v : Rated) (u : Sort) (s t : State) → Spends s t (Mentions o c v.value) → OnAnswer (λ (x : Selector). Spends s t (Mentions o c x.value)) (selector_rules p v u)
  selected p v (Sorts.Integer t f) s u h = spends_weaker s u (Mentions o c v.value) (Mentions o c (let x : Selector = record { works_in = promoted_type t; value = converted t (promoted_type t) v } in x.value)) h (converted_mentions o c t (promoted_type t) v)
  selected p v _ s u h = tt

  selector_selects : (s : State) (t : Tree) → OnAnswer (Selects s) (selector_in s t)
  selector_selects s t = typed_on s t (Selects s) _ (λ a h.
      let v : Rated = valued a.1.scope a.0 in
      then_on (λ (x : Selector). Spends s a.1 (Mentions o c x.value)) (Selects s) (selector_rules (place_of t) v v.sort) (λ x. Ok (x, a.1))
      (selected (place_of t) v v.sort s a.1 (spends_weaker s a.1 (OperandMentions o c a.0) (Mentions o c v.value) h (value_said a))) (λ x k. k))

  label_spends : (s : State) (t : IntType) (labels : List ℤ) (e : Tree) (p : Place) → OnAnswer (λ (a : ℤ × State). Quiet s a.1) (label_in s t labels e p)
  label_spends s t labels e p = typed_on s e (λ (a : ℤ × State). Quiet s a.1) _ (λ a h.
      then_any (λ (a : ℤ × State). Quiet s a.1) (label_rules t labels p (place_of e) (folded_value a.0)) (λ z. Ok (z, record a.1 { labels = a.1.labels ++ z ∷ [] })) (λ z.
      spends_view s a.1 (record a.1 { labels = a.1.labels ++ z ∷ [] }) (Unit {0}) (spends_weaker s a.1 (OperandMentions o c a.0) (Unit {0}) h (λ x. tt)) refl))

  jump_tells : (s : State) (b : Bool) (p : Place) (r : TypedTree) → StatementMentions o c r → OnAnswer (Tells s) (then_with (row b Kinds.Mismatch p (Ok r)) (λ x. Ok (x, s)))
  jump_tells s true p r h = tt
  jump_tells s false p r h = spends_none s (StatementMentions o c r) h

  declaration_tells : (s : State) (r : Result Locals Refusal) → OnAnswer (Locates s) r → OnAnswer (Tells s) (then_with r (λ a. Ok (declares a.0, a.1)))
  declaration_tells s r h = then_on (Locates s) (Tells s) r (λ a. Ok (declares a.0, a.1)) h (λ a k. k)

  first_tells : (s : State) (f : ForFirstTree) → OnAnswer (Tells s) (first_in s f)
  first_tells s (by_expression t) = then_on (MaySpeak s) (Tells s) (optional_value_in s t) (λ a. Ok (evaluates a.0, a.1)) (may_value s t) (λ a h. h)
  first_tells s (by_declaration d) = declaration_tells s (local_declaration s d) (local_declaration_locates s d)

  mutual
    statement_tells : (s : State) (around : Around) (t : StatementTree) → OnAnswer (Tells s) (statement_in s around t)
    statement_tells s around (a_block parts) =
        then_on (AllTell (enter s)) (Tells s) (parts_in (enter s) around parts) (λ b. Ok (runs_block b.0, leave s b.1)) (all_tell (enter s) around parts) (λ b h.
        spends_view s b.1 (leave s b.1) (StatementsMention o c b.0) (spends_on s (enter s) b.1 (Unit {0}) (StatementsMention o c b.0) (StatementsMention o c b.0) (spends_same s (enter s) (Unit {0}) refl tt) h (λ x y. y)) refl)
    statement_tells s around (a_value t) = first_tells s (by_expression t)
    statement_tells s around (an_if x t) =
        then_on (Speaks s) (Tells s) (condition_in s x) (λ a. then_with (statement_in a.1 around t) (λ b. Ok (branches a.0 b.0, b.1))) (test_speaks s x) (λ a h.
        then_on (Tells a.1) (Tells s) (statement_in a.1 around t) (λ b. Ok (branches a.0 b.0, b.1)) (statement_tells a.1 around t) (λ b k.
        spends_on s a.1 b.1 (Mentions o c a.0) (StatementMentions o c b.0) (StatementMentions o c (branches a.0 b.0)) h k (λ m n. (m, n))))
    statement_tells s around (an_if_else x t u) =
        then_on (Speaks s) (Tells s) (condition_in s x) (λ a. then_with (statement_in a.1 around t) (λ b. then_with (statement_in b.1 around u) (λ d. Ok (branches_else a.0 b.0 d.0, d.1)))) (test_speaks s x) (λ a h.
        then_on (Tells a.1) (Tells s) (statement_in a.1 around t) (λ b. then_with (statement_in b.1 around u) (λ d. Ok (branches_else a.0 b.0 d.0, d.1))) (statement_tells a.1 around t) (λ b k.
        then_on (Tells b.1) (Tells s) (statement_in b.1 around u) (λ d. Ok (branches_else a.0 b.0 d.0, d.1)) (statement_tells b.1 around u) (λ d l.
        spends_on s b.1 d.1 (Mentions o c a.0 × StatementMentions o c b.0) (StatementMentions o c d.0) (StatementMentions o c (branches_else a.0 b.0 d.0))
        (spends_on s a.1 b.1 (Mentions o c a.0) (StatementMentions o c b.0) (Mentions o c a.0 × StatementMentions o c b.0) h k (λ m n. (m, n))) l (λ m n. (m.0, m.1, n)))))
    statement_tells s around (a_while x t) =
        then_on (Speaks s) (Tells s) (condition_in s x) (λ a. then_with (statement_in a.1 (looping around) t) (λ b. Ok (loops_while a.0 b.0, b.1))) (test_speaks s x) (λ a h.
        then_on (Tells a.1) (Tells s) (statement_in a.1 (looping around) t) (λ b. Ok (loops_while a.0 b.0, b.1)) (statement_tells a.1 (looping around) t) (λ b k.
        spends_on s a.1 b.1 (Mentions o c a.0) (StatementMentions o c b.0) (StatementMentions o c (loops_while a.0 b.0)) h k (λ m n. (m, n))))
    statement_tells s around (a_do t x) =
        then_on (Tells s) (Tells s) (statement_in s (looping around) t) (λ a. then_with (condition_in a.1 x) (λ b. Ok (loops_do a.0 b.0, b.1))) (statement_tells s (looping around) t) (λ a h.
        then_on (Speaks a.1) (Tells s) (condition_in a.1 x) (λ b. Ok (loops_do a.0 b.0, b.1)) (test_speaks a.1 x) (λ b k.
        spends_on s a.1 b.1 (StatementMentions o c a.0) (Mentions o c b.0) (StatementMentions o c (loops_do a.0 b.0)) h k (λ m n. (m, n))))
    statement_tells s around (a_for f x step t) =
        let r : State = enter s in
        then_on (Tells r) (Tells s) (first_in r f) (λ a. then_with (optional_condition_in a.1 x) (λ b. then_with (optional_value_in b.1 step) (λ d. then_with (statement_in d.1 (looping around) t) (λ e. Ok (loops_for a.0 b.0 d.0 e.0, leave s e.1))))) (first_tells r f) (λ a h.
        then_on (MaySpeak a.1) (Tells s) (optional_condition_in a.1 x) (λ b. then_with (optional_value_in b.1 step) (λ d. then_with (statement_in d.1 (looping around) t) (λ e. Ok (loops_for a.0 b.0 d.0 e.0, leave s e.1)))) (may_test a.1 x) (λ b k.
        then_on (MaySpeak b.1) (Tells s) (optional_value_in b.1 step) (λ d. then_with (statement_in d.1 (looping around) t) (λ e. Ok (loops_for a.0 b.0 d.0 e.0, leave s e.1))) (may_value b.1 step) (λ d l.
        then_on (Tells d.1) (Tells s) (statement_in d.1 (looping around) t) (λ e. Ok (loops_for a.0 b.0 d.0 e.0, leave s e.1)) (statement_tells d.1 (looping around) t) (λ e w.
        let first : Spends s a.1 (StatementMentions o c a.0) = spends_on s r a.1 (Unit {0}) (StatementMentions o c a.0) (StatementMentions o c a.0) (spends_same s r (Unit {0}) refl tt) h (λ x y. y) in
        let second : Spends s b.1 (StatementMentions o c a.0 × MayMention o c b.0) = spends_on s a.1 b.1 (StatementMentions o c a.0) (MayMention o c b.0) (StatementMentions o c a.0 × MayMention o c b.0) first k (λ m n. (m, n)) in
        let third : Spends s d.1 (StatementMentions o c a.0 × MayMention o c b.0 × MayMention o c d.0) =
        spends_on s b.1 d.1 (StatementMentions o c a.0 × MayMention o c b.0) (MayMention o c d.0) (StatementMentions o c a.0 × MayMention o c b.0 × MayMention o c d.0) second l (λ m n. (m.0, m.1, n)) in
        spends_view s e.1 (leave s e.1) (StatementMentions o c (loops_for a.0 b.0 d.0 e.0))
        (spends_on s d.1 e.1 (StatementMentions o c a.0 × MayMention o c b.0 × MayMention o c d.0) (StatementMentions o c e.0) (StatementMentions o c (loops_for a.0 b.0 d.0 e.0)) third w (λ m n. (m.0, m.1, m.2, n))) refl))))
    statement_tells s around (a_switch t cases) =
        then_on (Selects s) (Tells s) (selector_in s t) (λ a. then_with (cases_in (enter a.1) (switching around) a.0.works_in no_labels cases) (λ b. Ok (selects a.0.works_in a.0.value b.0, leave a.1 b.1))) (selector_selects s t) (λ a h.
        then_on (CasesTell (enter a.1)) (Tells s) (cases_in (enter a.1) (switching around) a.0.works_in no_labels cases) (λ b. Ok (selects a.0.works_in a.0.value b.0, leave a.1 b.1))
        (cases_tell (enter a.1) (switching around) a.0.works_in no_labels cases) (λ b k.
        spends_view s b.1 (leave a.1 b.1) (StatementMentions o c (selects a.0.works_in a.0.value b.0))
        (spends_on s (enter a.1) b.1 (Mentions o c a.0.value) (CasesMention o c b.0) (StatementMentions o c (selects a.0.works_in a.0.value b.0)) (spends_view s a.1 (enter a.1) (Mentions o c a.0.value) h refl) k (λ m n. (m, n))) refl))
    statement_tells s around (a_break p) = jump_tells s (not (around.in_loop || around.in_switch)) p breaks tt
    statement_tells s around (a_continue p) = jump_tells s (not around.in_loop) p continues tt
    statement_tells s around (a_return t p) = return_tells s around t p
    statement_tells s around (a_lock x q p) = then_any (Tells s) (mutex_rules q (named s.scope x)) (λ k. Ok (locks k p, s)) (λ k. spends_none s (Unit {0}) tt)
    statement_tells s around (an_unlock x q p) = then_any (Tells s) (mutex_rules q (named s.scope x)) (λ k. Ok (unlocks k p, s)) (λ k. spends_none s (Unit {0}) tt)
    statement_tells s around (a_yield p) = spends_none s (Unit {0}) tt

    part_tells : (s : State) (around : Around) (t : PartTree) → OnAnswer (Tells s) (part_in s around t)
    part_tells s around (a_local d) = declaration_tells s (local_declaration s d) (local_declaration_locates s d)
    part_tells s around (a_step t) = statement_tells s around t

    pub all_tell : (s : State) (around : Around) (ts : PartTrees) → OnAnswer (AllTell s) (parts_in s around ts)
    all_tell s around no_parts = spends_none s (Unit {0}) tt
    all_tell s around (and_part t ts) =
        then_on (Tells s) (AllTell s) (part_in s around t) (λ a. then_with (parts_in a.1 around ts) (λ b. Ok (and_statement a.0 b.0, b.1))) (part_tells s around t) (λ a h.
        then_on (AllTell a.1) (AllTell s) (parts_in a.1 around ts) (λ b. Ok (and_statement a.0 b.0, b.1)) (all_tell a.1 around ts) (λ b k.
        spends_on s a.1 b.1 (StatementMentions o c a.0) (StatementsMention o c b.0) (StatementsMention o c (and_statement a.0 b.0)) h k (λ m n. (m, n))))

    case_tells : (s : State) (around : Around) (t : IntType) (labels : Labels) (x : CaseTree) → OnAnswer (CaseTells s) (case_in s around t labels x)
    case_tells s around t labels (a_case e p) =
        then_on (λ (a : ℤ × State). Quiet s a.1) (CaseTells s) (label_in s t labels.values e p) (λ a. Ok (a_label a.0 p, with_label labels a.0, a.1)) (label_spends s t labels.values e p) (λ a h. h)
    case_tells s around t labels (a_default p) = then_any (CaseTells s) (default_rules labels p) (λ l. Ok (a_default_label p, l, s)) (λ l. spends_none s (Unit {0}) tt)
    case_tells s around t labels (a_case_step u) = then_on (Tells s) (CaseTells s) (statement_in s around u) (λ a. Ok (a_labelled_step a.0, labels, a.1)) (statement_tells s around u) (λ a h. h)

    cases_tell : (s : State) (around : Around) (t : IntType) (labels : Labels) (cs : CaseTrees) → OnAnswer (CasesTell s) (cases_in s around t labels cs)
    cases_tell s around t labels no_cases = spends_none s (Unit {0}) tt
    cases_tell s around t labels (and_case x cs) =
        then_on (CaseTells s) (CasesTell s) (case_in s around t labels x) (λ a. then_with (cases_in a.2 around t a.1 cs) (λ b. Ok (and_typed_case a.0 b.0, b.1))) (case_tells s around t labels x) (λ a h.
        then_on (CasesTell a.2) (CasesTell s) (cases_in a.2 around t a.1 cs) (λ b. Ok (and_typed_case a.0 b.0, b.1)) (cases_tell a.2 around t a.1 cs) (λ b k.
        spends_on s a.2 b.1 (CaseMentions o c a.0) (CasesMention o c b.0) (CasesMention o c (and_typed_case a.0 b.0)) h k (λ m n. (m, n))))
