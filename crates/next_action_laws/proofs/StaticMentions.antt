-- What initialisers mention is used, and values for static storage are constant.
use Rattle.std.proofs.Common.{◌≡◌, refl, ap, sym, subst, ◌∙◌, ℕ, zero, suc, ◌+◌, List, [], ◌∷◌, ◌++◌, length, arith}
use Rattle.std.specs.Prelude.{Bool, true, false, cond, ◌&&◌, not, is_none, All, Option, Some, None, Result, Ok, Err}
use Rattle.std.specs.Prelude.{slice_get}
use Rattle.std.specs.List.{filter_map, cons_option}
use Rattle.std.proofs.lemmas.List.{append-nil, append_assoc, length-append}
use Rattle.std.proofs.lemmas.List.Elements.{All-nil, All-cons, All-append}
use Rattle.cell_layout.specs.tm_terms.declared.places.Place.{Place}
use Rattle.cell_layout.specs.tm_terms.declared.refusals.Kind.TheVariants as Kinds
use Rattle.cell_layout.specs.tm_terms.declared.refusals.Refusal.{Refusal}
use Rattle.cell_layout.specs.tm_terms.ExprTrees.{Tree}
use Rattle.cell_layout.specs.tm_trees.DeclarationTrees.{ValueTree, an_expression, a_list, ValueTrees, no_values}
use Rattle.cell_layout.specs.tm_trees.DeclarationTrees.{and_value}
use Rattle.cell_layout.specs.tm_typed.declared.types.Scalar.{Scalar}
use Rattle.cell_layout.specs.tm_typed.declared.scopes.Part.{Part}
use Rattle.cell_layout.specs.tm_typed.declared.uses.Use.{Use}
use Rattle.cell_layout.specs.tm_typed.declared.uses.Used.{Used}
use Rattle.cell_layout.specs.tm_typed.declared.uses.Used.TheVariants as Uses
use Rattle.cell_layout.specs.tm_typed.TypedTrees.{RvalueTree, Rated, OperandTree}
use Rattle.cell_layout.specs.tm_typed.Operands.{valued, given, scalar_of, is_structure, is_null, is_integer}
use Rattle.cell_layout.specs.tm_typed.Refusals.{then_with, row, row_unless}
use Rattle.cell_layout.specs.tm_typed.States.{State}
use Rattle.cell_layout.specs.tm_typed.Typing.{typing, calls}
use Rattle.cell_layout.specs.tm_typed.TypeNames.{type_of_name, prepared}
use Rattle.cell_layout.specs.tm_typed.TypeRows.{clipped}
use Rattle.cell_layout.specs.tm_typed.Uses.{uses_of}
use Rattle.cell_layout.specs.tm_typed.Evaluation.{evaluated, typed_in}
use Rattle.cell_layout.specs.tm_typed.StaticValues.{static_value}
use Rattle.cell_layout.specs.tm_typed.Initialisers.{part, is_aggregate, scalar_rules, lone_rules, given_behind, lone}
use Rattle.cell_layout.specs.tm_typed.Initialisers.{list_rules}
use Rattle.cell_layout.specs.tm_typed.Initialisers.{initial, initials, Given}
use Rattle.cell_layout.specs.tm_typed.Functions.{called_function, function_used}
use Rattle.cell_layout.specs.tm_typed.TypedStatements.{GivenTree}
use Rattle.cell_layout.specs.tm_typed.WellTyped.{OnAnswer}
use Rattle.typed_file_laws.proofs.low.typing_laws.Steps.{then_on}
use Rattle.typed_file_laws.specs.Mentions.{Mentions, OperandMentions}
use Rattle.typed_file_laws.proofs.RuleSteps.{on_row, OnSome, on_row_unless, some_any}
use Rattle.typed_file_laws.proofs.MentionRules.{valued_mentions, given_mentions}
use Rattle.typed_file_laws.proofs.MentionTyping.{calls_of_use, call_count, IsUsed, UsesStand, count_append}
use Rattle.typed_file_laws.proofs.MentionTyping.{stand_append}
use Rattle.typed_file_laws.proofs.MentionTyping.{at_site, typing_told}

-- ## Uses that pass a test

abbrev pub Passes : (ℕ → Bool) → Used → Type 0
Passes o (Uses.Static k) = o k ≡ true
Passes o (Uses.Function f) = Unit {0}

abbrev pub UsesPass : (ℕ → Bool) → List Use → Type 0
UsesPass o [] = Unit {0}
UsesPass o (u ∷ us) = Passes o u.used × UsesPass o us

pub first_pass : (o : ℕ → Bool) (xs ys : List Use) → UsesPass o (xs ++ ys) → UsesPass o xs
first_pass o [] ys h = tt
first_pass o (x ∷ xs) ys h = (h.0, first_pass o xs ys h.1)

pub rest_pass : (o : ℕ → Bool) (xs ys : List Use) → UsesPass o (xs ++ ys) → UsesPass o ys
rest_pass o [] ys h = h
rest_pass o (x ∷ xs) ys h = rest_pass o xs ys h.1

there : (pre : List ℕ) (f : ℕ) (rest : List ℕ) → slice_get (pre ++ f ∷ rest) (length pre) ≡ Some f
there [] f rest = refl
there (x ∷ pre) f rest = there pre f rest

abbrev called_in : List Use → List ℕ
called_in us = filter_map called_function us

use_stands : (o : ℕ → Bool) (pre : List ℕ) (x : Used) (us : List Use) (n : ℕ) → length pre ≡ n → Passes o x
    → ((pre : List ℕ) (n : ℕ) → length pre ≡ n → UsesStand o (pre ++ called_in us) n us)
    → IsUsed o (pre ++ cons_option (function_used x) (called_in us)) n x
    × UsesStand o (pre ++ cons_option (function_used x) (called_in us)) (n + calls_of_use x) us
use_stands o pre (Uses.Static k) us n e a f = (a, f pre (n + 0) (omega (arith, e)))
use_stands o pre (Uses.Function g) us n e a f = (
  subst (λ i. slice_get (pre ++ g ∷ called_in us) i ≡ Some g) e (there pre g (called_in us)),
  subst (λ c. UsesStand o c (n + 1) us) (append_assoc pre (g ∷ []) (called_in us))
      (f (pre ++ g ∷ []) (n + 1) (let l = length-append pre (g ∷ []) in omega (arith, l, e))),
)

stands_all : (o : ℕ → Bool) (pre : List ℕ) (us : List Use) (n : ℕ) → length pre ≡ n → UsesPass o us
    → UsesStand o (pre ++ called_in us) n us
stands_all o pre [] n e h = tt
stands_all o pre (u ∷ us) n e h = use_stands o pre u.used us n e h.0 (λ q m i. stands_all o q us m i h.1)

-- a list of so many numbers
zeros : ℕ → List ℕ
zeros zero = []
zeros (suc n) = 0 ∷ zeros n

zeros_long : (n : ℕ) → length (zeros n) ≡ n
unfolding zeros
zeros_long zero = refl
zeros_long (suc n) = ap suc (zeros_long n)

-- ## What is told

-- The second state stands behind these further uses, with the same objects of static storage, and where the uses stand,
-- this holds.
pub record Told (s t : State) (P : (ℕ → Bool) → List ℕ → Type 0) : Type 0 where
  pub used : List Use
  pub uses : t.uses ≡ s.uses ++ used
  pub site : t.site ≡ s.site + call_count used
  pub statics : t.statics ≡ s.statics
  pub holds : (o : ℕ → Bool) (c : List ℕ) → UsesStand o c s.site used → P o c

told_none : (s : State) (P : (ℕ → Bool) → List ℕ → Type 0) → ((o : ℕ → Bool) (c : List ℕ) → P o c) → Told s s P
told_none s P h = record {
  used = [];
  uses = sym (append-nil s.uses);
  site = omega arith;
  statics = refl;
  holds = λ o c u. h o c;
}

told_weaker : (s t : State) (P Q : (ℕ → Bool) → List ℕ → Type 0) → Told s t P
    → ((o : ℕ → Bool) (c : List ℕ) → P o c → Q o c) → Told s t Q
told_weaker s t P Q a f = record {
  used = a.used;
  uses = a.uses;
  site = a.site;
  statics = a.statics;
  holds = λ o c h. f o c (a.holds o c h);
}

told_on : (s t u : State) (P Q R : (ℕ → Bool) → List ℕ → Type 0) → Told s t P → Told t u Q
    → ((o : ℕ → Bool) (c : List ℕ) → P o c → Q o c → R o c) → Told s u R
told_on s t u P Q R a b f = record {
  used = a.used ++ b.used;
  uses = b.uses ∙ ap (λ (us : List Use). us ++ b.used) a.uses ∙ append_assoc s.uses a.used b.used;
  site = let x = a.site in let y = b.site in let z = count_append a.used b.used in omega (arith, x, y, z);
  statics = b.statics ∙ a.statics;
  holds = λ o c h.
      let parts = stand_append o c s.site a.used b.used h in
      f o c (a.holds o c parts.0)
      (b.holds o c (at_site o c (s.site + call_count a.used) t.site b.used (sym a.site) parts.1));
}

-- where what is used passes, it holds for some list of calls
pub told_passes : (s t : State) (P : (ℕ → Bool) → List ℕ → Type 0) → Told s t P → (o : ℕ → Bool) → UsesPass o t.uses
    → (c : List ℕ) × P o c
told_passes s t P a o h =
    let pass : UsesPass o a.used = rest_pass o s.uses a.used (subst (UsesPass o) a.uses h) in
    let c : List ℕ = zeros s.site ++ called_in a.used in
    (c, a.holds o c (stands_all o (zeros s.site) a.used s.site (zeros_long s.site) pass))

-- ## Expressions

all_tests : {A : Type 0} (P : (ℕ → Bool) → List ℕ → A → Type 0) (r : Result A Refusal)
    → ((o : ℕ → Bool) (c : List ℕ) → OnAnswer (P o c) r)
    → OnAnswer (λ (a : A). (o : ℕ → Bool) (c : List ℕ) → P o c a) r
all_tests P (Err e) f = tt
all_tests P (Ok a) f = f

abbrev pub Says : State → OperandTree × State → Type 0
Says s a = Told s a.1 (λ o c. OperandMentions o c a.0)

abbrev Sound : State → Tree → (ℕ → Bool) → List ℕ → OperandTree → Type 0
Sound s t o c a = (call_count (uses_of (prepared s.scope t) t) ≡ calls t)
    × (UsesStand o c s.site (uses_of (prepared s.scope t) t) → OperandMentions o c a)

pub typed_told : (s : State) (t : Tree) → OnAnswer (Says s) (typed_in s t)
typed_told s t =
    let scope = prepared s.scope t in
    then_on (λ (a : OperandTree). (o : ℕ → Bool) (c : List ℕ) → Sound s t o c a) (Says s)
    (typing type_of_name scope s.site t) (λ a. Ok (a, evaluated s scope t a))
    (all_tests (Sound s t) (typing type_of_name scope s.site t)
    (λ o c. typing_told o c type_of_name scope s.site t)) (λ a h. record {
      used = uses_of scope t;
      uses = refl;
      site = ap (λ (n : ℕ). s.site + n) (sym (h (λ k. true) []).0);
      statics = refl;
      holds = λ o c u. (h o c).1 u;
    })

typed_on : {B : Type 0} (s : State) (t : Tree) (Q : B → Type 0) (k : OperandTree × State → Result B Refusal)
    → ((a : OperandTree × State) → Says s a → OnAnswer Q (k a)) → OnAnswer Q (then_with (typed_in s t) k)
typed_on s t Q k f = then_on (Says s) Q (typed_in s t) k (typed_told s t) f

-- ## Initialisers

-- for static storage the value was found constant
abbrev pub IsConstant : Bool → GivenTree → Type 0
IsConstant static g = static ≡ true → (s : State) × (is_none (static_value s g.value) ≡ false)

abbrev pub CellsMention : List GivenTree → (ℕ → Bool) → List ℕ → Type 0
CellsMention gs o c = All (λ (g : GivenTree). Mentions o c g.value) gs

abbrev pub GivesConstants : Bool → State → Given → Type 0
GivesConstants static s a = Told s a.1 (CellsMention a.0) × All (IsConstant static) a.0

abbrev ValueMentions : Rated → (ℕ → Bool) → List ℕ → Type 0
ValueMentions v o c = Mentions o c v.value

none_given : (static : Bool) (s t : State) (v : Rated) → Told s t (ValueMentions v) → GivesConstants static s ([], t)
none_given static s t v h = (
  told_weaker s t (ValueMentions v) (CellsMention []) h (λ o c m. All-nil (λ (g : GivenTree). Mentions o c g.value)),
  All-nil (IsConstant static),
)

scalar_gives : (static : Bool) (s t : State) (n k : ℕ) (v : Rated) → Told s t (ValueMentions v)
    → OnAnswer (GivesConstants static s) (scalar_rules static t n k v)
scalar_gives static s t n k v h =
    on_row (GivesConstants static s) (is_structure v.sort) Kinds.Unsupported v.place _ (λ x.
    on_row_unless (λ (u : Scalar). Unit {0}) (GivesConstants static s) (scalar_of t.scope n) Kinds.Mismatch v.place
    _ (some_any (scalar_of t.scope n)) (λ u i. given_by u (given t.scope v n) refl))
  where
    given_by : (u : Scalar) (x : Option RvalueTree) → given t.scope v n ≡ x
        → OnAnswer (GivesConstants static s) (row_unless x Kinds.Mismatch v.place (λ e.
        row (static && is_none (static_value t e)) Kinds.NotConstant v.place
        (Ok (record { cell = k; scalar = u; value = e } ∷ [], t))))
    given_by u None q = tt
    given_by u (Some e) q =
        let g : GivenTree = record { cell = k; scalar = u; value = e } in
        on_row (GivesConstants static s) (static && is_none (static_value t e)) Kinds.NotConstant v.place
        (Ok (record { cell = k; scalar = u; value = e } ∷ [], t)) (λ y. (
          told_weaker s t (ValueMentions v) (CellsMention (g ∷ [])) h (λ o c m.
              All-cons (λ (g : GivenTree). Mentions o c g.value) g []
              (subst (λ (z : Option RvalueTree). OnSome (Mentions o c) z) q (given_mentions o c t.scope v n m))
              (All-nil (λ (g : GivenTree). Mentions o c g.value))),
          All-cons (IsConstant static) g []
              (λ z. (t, subst (λ b. (b && is_none (static_value t e)) ≡ false) z y)) (All-nil (IsConstant static)),
        ))

lone_by : (static : Bool) (s t : State) (n k : ℕ) (v : Rated) (b : Bool) → Told s t (ValueMentions v)
    → OnAnswer (GivesConstants static s) (cond b (Ok ([], t)) (scalar_rules static t n k v))
lone_by static s t n k v true h = none_given static s t v h
lone_by static s t n k v false h = scalar_gives static s t n k v h

value_told : (s : State) (a : OperandTree × State) → Says s a → Told s a.1 (ValueMentions (valued a.1.scope a.0))
value_told s a h =
    told_weaker s a.1 (λ o c. OperandMentions o c a.0) (ValueMentions (valued a.1.scope a.0)) h
    (λ o c m. valued_mentions o c a.1.scope a.0 m)

aggregate_by : (static : Bool) (s : State) (n k : ℕ) (t : Tree) (further : Result Given Refusal) (b : Bool)
    → OnAnswer (GivesConstants static s) further
    → OnAnswer (GivesConstants static s)
    (cond b (then_with (typed_in s t) (λ a. lone_rules static a.1 n k (valued a.1.scope a.0))) further)
aggregate_by static s n k t further true h = typed_on s t (GivesConstants static s) _ (λ a i.
    let v : Rated = valued a.1.scope a.0 in
    lone_by static s a.1 n k v (is_integer v.sort && is_null v.sort) (value_told s a i))
aggregate_by static s n k t further false h = h

list_gives : (static : Bool) (s : State) (n k : ℕ) (p : Place) (q : Option Part) (t : Option Tree)
    (further : Result Given Refusal) → OnAnswer (GivesConstants static s) further
    → OnAnswer (GivesConstants static s) (list_rules static s n k p q t further)
list_gives static s n k p (Some q) (Some t) further h =
    aggregate_by static s q.of.number k t further (is_aggregate s.scope q.of.number) h
list_gives static s n k p (Some q) None further h =
    on_row (GivesConstants static s) (not (is_aggregate s.scope n)) Kinds.Mismatch p further (λ a. h)
list_gives static s n k p None t further h =
    on_row (GivesConstants static s) (not (is_aggregate s.scope n)) Kinds.Mismatch p further (λ a. h)

mutual
  pub initial_constant : (static : Bool) (s : State) (n k : ℕ) (v : ValueTree)
      → OnAnswer (GivesConstants static s) (initial static s n k v)
  initial_constant static s n k (an_expression t) = typed_on s t (GivesConstants static s) _ (λ a i.
      let v : Rated = valued a.1.scope a.0 in
      scalar_gives static s a.1 n k v (value_told s a i))
  initial_constant static s n k (a_list values p) =
      list_gives static s n k p (part s.scope n 0) (lone values) (initials static s n k 0 values p)
      (initials_constant static s n k 0 values p)

  initials_constant : (static : Bool) (s : State) (n k i : ℕ) (values : ValueTrees) (p : Place)
      → OnAnswer (GivesConstants static s) (initials static s n k i values p)
  initials_constant static s n k i no_values p = (
    told_none s (CellsMention []) (λ o c. All-nil (λ (g : GivenTree). Mentions o c g.value)),
    All-nil (IsConstant static),
  )
  initials_constant static s n k i (and_value v values) p =
      on_row_unless (λ (q : Part). Unit {0}) (GivesConstants static s) (part s.scope n i) Kinds.Mismatch p
      _ (some_any (part s.scope n i)) (λ q u.
      then_on (GivesConstants static s) (GivesConstants static s)
      (initial static s q.of.number (clipped (k + q.cell)) v)
      (λ g. given_behind g.0 (initials static g.1 n k (suc i) values p))
      (initial_constant static s q.of.number (clipped (k + q.cell)) v) (λ g h.
      then_on (GivesConstants static g.1) (GivesConstants static s) (initials static g.1 n k (suc i) values p)
      (λ x. Ok (g.0 ++ x.0, x.1)) (initials_constant static g.1 n k (suc i) values p) (λ x j. (
        told_on s g.1 x.1 (CellsMention g.0) (CellsMention x.0) (CellsMention (g.0 ++ x.0)) h.0 j.0
            (λ o c a b. All-append (λ (g : GivenTree). Mentions o c g.value) g.0 x.0 a b),
        All-append (IsConstant static) g.0 x.0 h.1 j.1,
      ))))
