-- What stands in the list of a file is what its initialisers leave open, and the other way round.
use Rattle.std.proofs.Common.{◌≡◌, refl, ap, sym, ◌∙◌, subst, ◌⊎◌, inl, inr, Bool, true, false, cond, List, [], ◌∷◌, ◌++◌, map, Option, Some, None, arith}
use Rattle.std.specs.Prelude.{Contains, Result, Ok, Err, OnOk}
use Rattle.std.proofs.lemmas.List.Elements.{Contains-push, Contains-push_cases, Contains-append_left, Contains-append_right, Contains-append_cases}
use Rattle.tm_lattice.specs.declared.memory.NoMemory.{NoMemory}
use Rattle.tm_terms.specs.declared.places.Place.{Place}
use Rattle.tm_terms.specs.declared.types_named.Storage.TheVariants as Storages
use Rattle.tm_terms.specs.ExprTrees.{Tree, place_of}
use Rattle.tm_trees.specs.DeclarationTrees.{ValueTree, an_expression, a_list, ValueTrees, no_values, and_value, InitDeclaratorTree, InitialiserTree, DeclarationTree, declared_name}
use Rattle.tm_trees.specs.FileTrees.{ItemTree, a_declaration, a_function, an_empty_item, a_mutex, a_task, FunctionTree, PartTrees, no_parts, and_part, a_local, a_step}
use Rattle.tm_trees.specs.FileTrees.{StatementTree, a_block, a_value, an_if, an_if_else, a_while, a_do, a_for, a_switch, a_break, a_continue, a_return, a_lock, an_unlock, a_yield}
use Rattle.tm_trees.specs.FileTrees.{by_expression, by_declaration, CaseTrees, no_cases, and_case, a_case, a_default, a_case_step}
use Rattle.tm_typed.specs.declared.types.CType.{CType}
use Rattle.tm_laid.specs.Layouts.{LaidTree}
use Rattle.text_choices.specs.declared.kinds.Kind.{Kind}
use Rattle.text_choices.specs.declared.kinds.Kind.TheVariants as Kinds
use Rattle.text_choices.specs.declared.kinds.Choice.{Choice}
use Rattle.text_choices.specs.Choices.{Adds}
use Rattle.text_choices.specs.Texts.{has_storage, declarator_place}
use Rattle.text_choices.specs.AddressConstants.{Spot}
use Rattle.text_choices.specs.Initialisers.{named_at, scalar_type, is_lost, InValue, alone, listed, InValues, first, later as later_value, InDeclaration, InItem, of_file, of_function, of_task}
use Rattle.text_choices.specs.Initialisers.{InParts, declared, stepped, later, InStatement, in_block, in_if, in_first, in_second, in_while, in_do, in_for, in_for_first, in_switch, InCases, here, further}
use Rattle.text_choices.specs.reading.Files.{led_by, Leaves, moved, given, IsOfFile, left_at, given_to, lost_at, expression_choices, value_choices, values_choices, given_type, initialiser_choices, declarators_choices}
use Rattle.text_choices.specs.reading.Files.{local_choices, first_choices, statement_choices, parts_choices, cases_choices, body_choices, item_choices, file_choices}

-- ## Elements

none_in : {A : Type 0} (x : A) → Contains [] x → ⊥
none_in x (k, h, e) = omega arith

one_in : {A : Type 0} (x y : A) → Contains (x ∷ []) y → x ≡ y
one_in x y h = elim (Contains-push_cases [] x y h) [ inl n ↦ absurd (none_in y n) | inr e ↦ e ]

at_front : {A : Type 0} (x : A) (xs : List A) → Contains (x ∷ xs) x
at_front x xs = Contains-append_left (x ∷ []) xs x (Contains-push [] x)

behind : {A : Type 0} (x : A) (xs : List A) (y : A) → Contains xs y → Contains (x ∷ xs) y
behind x xs y h = Contains-append_right (x ∷ []) xs y h

uncons : {A : Type 0} (x : A) (xs : List A) (y : A) → Contains (x ∷ xs) y → (x ≡ y) ⊎ Contains xs y
uncons x xs y h = elim (Contains-append_cases (x ∷ []) xs y h) [ inl n ↦ inl (one_in x y n) | inr e ↦ inr e ]

-- ## Expressions

left_cases : (ps : List Place) (c : Choice) → Contains (map left_at ps) c → (c.kind ≡ Kinds.Member) × Contains ps c.place
left_cases [] c h = absurd (none_in c h)
left_cases (p ∷ ps) c h = by (λ t. left_cases ps c t) (uncons (left_at p) (map left_at ps) c h)
  where
    by : (Contains (map left_at ps) c → (c.kind ≡ Kinds.Member) × Contains ps c.place) → (left_at p ≡ c) ⊎ Contains (map left_at ps) c
        → (c.kind ≡ Kinds.Member) × Contains (p ∷ ps) c.place
    by f (inl e) = (ap (λ (x : Choice). x.kind) (sym e), subst (λ (q : Place). Contains (p ∷ ps) q) (ap (λ (x : Choice). x.place) e) (at_front p ps))
    by f (inr t) = let r = f t in (r.0, behind p ps c.place r.1)

left_there : (ps : List Place) (c : Choice) → c.kind ≡ Kinds.Member → Contains ps c.place → Contains (map left_at ps) c
left_there [] c e h = absurd (none_in c.place h)
left_there (p ∷ ps) c e h = by (λ t. left_there ps c e t) (uncons p ps c.place h)
  where
    same : left_at c.place ≡ c
    same = ap (λ (k : Kind). let x : Choice = record { place = c.place; kind = k } in x) (sym e)

    by : (Contains ps c.place → Contains (map left_at ps) c) → (p ≡ c.place) ⊎ Contains ps c.place → Contains (map left_at (p ∷ ps)) c
    by f (inl q) = subst (λ (x : Choice). Contains (map left_at (p ∷ ps)) x) (ap left_at q ∙ same) (at_front (left_at p) (map left_at ps))
    by f (inr t) = behind (left_at p) (map left_at ps) c (f t)

record IsLost (p : Place) (t : CType) (o : Option Spot) (c : Choice) : Type 0 where
  kind : c.kind ≡ Kinds.Const
  place : p ≡ c.place
  spot : Spot
  is : o ≡ Some spot
  lost : is_lost spot t ≡ true

lost_cases : (p : Place) (t : CType) (o : Option Spot) (c : Choice) → Contains (lost_at p t o) c → IsLost p t o c
lost_cases p t None c h = absurd (none_in c h)
lost_cases p t (Some s) c h = by (is_lost s t) refl h
  where
    by : (b : Bool) → is_lost s t ≡ b → Contains (cond b (record { place = p; kind = Kinds.Const } ∷ []) []) c → IsLost p t (Some s) c
    by true e g =
        let q = one_in (let x : Choice = record { place = p; kind = Kinds.Const } in x) c g in
        record { kind = ap (λ (x : Choice). x.kind) (sym q); place = ap (λ (x : Choice). x.place) q; spot = s; is = refl; lost = e }
    by false e g = absurd (none_in c g)

lost_there : (p : Place) (t : CType) (o : Option Spot) (c : Choice) → IsLost p t o c → Contains (lost_at p t o) c
lost_there p t o c l =
    subst (λ (x : Option Spot). Contains (lost_at p t x) c) (sym l.is)
    (subst (λ (b : Bool). Contains (cond b (record { place = p; kind = Kinds.Const } ∷ []) []) c) (sym l.lost)
    (subst (λ (x : Choice). Contains ((let y : Choice = record { place = p; kind = Kinds.Const } in y) ∷ []) x) same (at_front (let y : Choice = record { place = p; kind = Kinds.Const } in y) [])))
  where
    same : (let y : Choice = record { place = p; kind = Kinds.Const } in y) ≡ c
    same = ap (λ (q : Place). let y : Choice = record { place = q; kind = Kinds.Const } in y) l.place
        ∙ ap (λ (k : Kind). let y : Choice = record { place = c.place; kind = k } in y) (sym l.kind)

module _ (laid : LaidTree) where
  given_cases : (one : InitDeclaratorTree) (s : Spot) (o : Option Spot) → named_at laid (declared_name one.declarator) (declarator_place one.declarator) ≡ o
      → is_lost s (given_to laid o) ≡ true → (object : Spot) × (named_at laid (declared_name one.declarator) (declarator_place one.declarator) ≡ Some object) × (is_lost s (scalar_type laid object.of) ≡ true)
  given_cases one s None e h = absurd cc
  given_cases one s (Some object) e h = (object, e, h)

  in_expression : (one : InitDeclaratorTree) (e : Tree) (c : Choice) → Contains (expression_choices laid (given_type laid one) e) c → Leaves laid e one c
  in_expression one e c h = by (Contains-append_cases (map left_at (led_by laid e).left) (lost_at (place_of e) (given_type laid one) (led_by laid e).spot) c h)
    where
      by : Contains (map left_at (led_by laid e).left) c ⊎ Contains (lost_at (place_of e) (given_type laid one) (led_by laid e).spot) c → Leaves laid e one c
      by (inl l) = let r = left_cases (led_by laid e).left c l in moved r.0 r.1
      by (inr l) =
          let r = lost_cases (place_of e) (given_type laid one) (led_by laid e).spot c l in
          let g = given_cases one r.spot (named_at laid (declared_name one.declarator) (declarator_place one.declarator)) refl r.lost in
          given r.kind r.place r.spot g.0 r.is g.1 g.2

  out_expression : (one : InitDeclaratorTree) (e : Tree) (c : Choice) → Leaves laid e one c → Contains (expression_choices laid (given_type laid one) e) c
  out_expression one e c (moved k h) =
      Contains-append_left (map left_at (led_by laid e).left) (lost_at (place_of e) (given_type laid one) (led_by laid e).spot) c
      (left_there (led_by laid e).left c k h)
  out_expression one e c (given k p s o is named lost) =
      Contains-append_right (map left_at (led_by laid e).left) (lost_at (place_of e) (given_type laid one) (led_by laid e).spot) c
      (lost_there (place_of e) (given_type laid one) (led_by laid e).spot c
      (record { kind = k; place = p; spot = s; is = is; lost = ap (λ (x : Option Spot). is_lost s (given_to laid x)) named ∙ lost }))

  -- ## Values

  -- a choice that an expression leaves open which stands so
  record Found (stands : Tree → InitDeclaratorTree → Type 0) (c : Choice) : Type 0 where
    value : Tree
    one : InitDeclaratorTree
    is : stands value one
    leaves : Leaves laid value one c

  found_as : (P Q : Tree → InitDeclaratorTree → Type 0) (c : Choice) → ((e : Tree) (one : InitDeclaratorTree) → P e one → Q e one) → Found P c → Found Q c
  found_as P Q c f x = record { value = x.value; one = x.one; is = f x.value x.one x.is; leaves = x.leaves }

  valued_as : (one : InitDeclaratorTree) (P Q : Tree → Type 0) (c : Choice) → ((e : Tree) → P e → Q e) → (e : Tree) × (P e × Leaves laid e one c) → (e : Tree) × (Q e × Leaves laid e one c)
  valued_as one P Q c f x = (x.0, (f x.0 x.1.0, x.1.1))

  mutual
    in_value : (one : InitDeclaratorTree) (c : Choice) (v : ValueTree) → Contains (value_choices laid (given_type laid one) v) c → (e : Tree) × (InValue e v × Leaves laid e one c)
    in_value one c (an_expression e) h = (e, (alone, in_expression one e c h))
    in_value one c (a_list vs p) h = valued_as one (λ e. InValues e vs) (λ e. InValue e (a_list vs p)) c (λ e x. listed x) (in_values one c vs h)

    in_values : (one : InitDeclaratorTree) (c : Choice) (vs : ValueTrees) → Contains (values_choices laid (given_type laid one) vs) c → (e : Tree) × (InValues e vs × Leaves laid e one c)
    in_values one c no_values h = absurd (none_in c h)
    in_values one c (and_value v vs) h = elim (Contains-append_cases (value_choices laid (given_type laid one) v) (values_choices laid (given_type laid one) vs) c h) [
      | inl x ↦ valued_as one (λ e. InValue e v) (λ e. InValues e (and_value v vs)) c (λ e y. first y) (in_value one c v x)
      | inr x ↦ valued_as one (λ e. InValues e vs) (λ e. InValues e (and_value v vs)) c (λ e y. later_value y) (in_values one c vs x)
    ]

  mutual
    out_value : (one : InitDeclaratorTree) (c : Choice) (e : Tree) (v : ValueTree) → InValue e v → Leaves laid e one c → Contains (value_choices laid (given_type laid one) v) c
    out_value one c e (an_expression f) alone l = out_expression one e c l
    out_value one c e (a_list vs p) (listed x) l = out_values one c e vs x l

    out_values : (one : InitDeclaratorTree) (c : Choice) (e : Tree) (vs : ValueTrees) → InValues e vs → Leaves laid e one c → Contains (values_choices laid (given_type laid one) vs) c
    out_values one c e no_values x l = elim x [ ]
    out_values one c e (and_value v vs) (first x) l =
        Contains-append_left (value_choices laid (given_type laid one) v) (values_choices laid (given_type laid one) vs) c (out_value one c e v x l)
    out_values one c e (and_value v vs) (later_value x) l =
        Contains-append_right (value_choices laid (given_type laid one) v) (values_choices laid (given_type laid one) vs) c (out_values one c e vs x l)

  -- ## Declarations

  record InOne (e : Tree) (one : InitDeclaratorTree) (ds : List InitDeclaratorTree) : Type 0 where
    among : Contains ds one
    initialiser : InitialiserTree
    is : one.initialiser ≡ Some initialiser
    value : InValue e initialiser.value

  in_initialiser : (one : InitDeclaratorTree) (c : Choice) (o : Option InitialiserTree) → one.initialiser ≡ o → (ds : List InitDeclaratorTree) → Contains ds one
      → Contains (initialiser_choices laid (given_type laid one) o) c → Found (λ e x. InOne e x ds) c
  in_initialiser one c None e ds a h = absurd (none_in c h)
  in_initialiser one c (Some i) e ds a h =
      let r = in_value one c i.value h in
      record { value = r.0; one = one; is = record { among = a; initialiser = i; is = e; value = r.1.0 }; leaves = r.1.1 }

  in_declarators : (c : Choice) (ds : List InitDeclaratorTree) → Contains (declarators_choices laid ds) c → Found (λ e one. InOne e one ds) c
  in_declarators c [] h = absurd (none_in c h)
  in_declarators c (d ∷ ds) h = elim (Contains-append_cases (initialiser_choices laid (given_type laid d) d.initialiser) (declarators_choices laid ds) c h) [
    | inl x ↦ in_initialiser d c d.initialiser refl (d ∷ ds) (at_front d ds) x
    | inr x ↦ found_as (λ e one. InOne e one ds) (λ e one. InOne e one (d ∷ ds)) c
        (λ e one y. record { among = behind d ds one y.among; initialiser = y.initialiser; is = y.is; value = y.value }) (in_declarators c ds x)
  ]

  in_declaration : (c : Choice) (d : DeclarationTree) → Contains (declarators_choices laid d.declarators) c → Found (λ e one. InDeclaration e one d) c
  in_declaration c d h = found_as (λ e one. InOne e one d.declarators) (λ e one. InDeclaration e one d) c
      (λ e one y. record { among = y.among; initialiser = y.initialiser; is = y.is; value = y.value }) (in_declarators c d.declarators h)

  out_one : (one : InitDeclaratorTree) (c : Choice) (e : Tree) (i : InitialiserTree) → one.initialiser ≡ Some i → InValue e i.value → Leaves laid e one c
      → Contains (initialiser_choices laid (given_type laid one) one.initialiser) c
  out_one one c e i is v l = subst (λ (o : Option InitialiserTree). Contains (initialiser_choices laid (given_type laid one) o) c) (sym is) (out_value one c e i.value v l)

  out_declarators : (c : Choice) (e : Tree) (one : InitDeclaratorTree) (ds : List InitDeclaratorTree) → Contains ds one → (i : InitialiserTree) → one.initialiser ≡ Some i
      → InValue e i.value → Leaves laid e one c → Contains (declarators_choices laid ds) c
  out_declarators c e one [] a i is v l = absurd (none_in one a)
  out_declarators c e one (d ∷ ds) a i is v l = elim (uncons d ds one a) [
    | inl q ↦ Contains-append_left (initialiser_choices laid (given_type laid d) d.initialiser) (declarators_choices laid ds) c
        (subst (λ (x : InitDeclaratorTree). Contains (initialiser_choices laid (given_type laid x) x.initialiser) c) (sym q) (out_one one c e i is v l))
    | inr t ↦ Contains-append_right (initialiser_choices laid (given_type laid d) d.initialiser) (declarators_choices laid ds) c
        (out_declarators c e one ds t i is v l)
  ]

  out_declaration : (c : Choice) (e : Tree) (one : InitDeclaratorTree) (d : DeclarationTree) → InDeclaration e one d → Leaves laid e one c → Contains (declarators_choices laid d.declarators) c
  out_declaration c e one d x l = out_declarators c e one d.declarators x.among x.initialiser x.is x.value l

  -- of static storage in a block
  record InLocal (e : Tree) (one : InitDeclaratorTree) (d : DeclarationTree) : Type 0 where
    storage : has_storage Storages.Static d.specifiers ≡ true
    stands : InDeclaration e one d

  in_local : (c : Choice) (d : DeclarationTree) → Contains (local_choices laid d) c → Found (λ e one. InLocal e one d) c
  in_local c d h = by (has_storage Storages.Static d.specifiers) refl h
    where
      by : (b : Bool) → has_storage Storages.Static d.specifiers ≡ b → Contains (cond b (declarators_choices laid d.declarators) []) c → Found (λ e one. InLocal e one d) c
      by true e g = found_as (λ x one. InDeclaration x one d) (λ x one. InLocal x one d) c (λ x one y. record { storage = e; stands = y }) (in_declaration c d g)
      by false e g = absurd (none_in c g)

  out_local : (c : Choice) (e : Tree) (one : InitDeclaratorTree) (d : DeclarationTree) → has_storage Storages.Static d.specifiers ≡ true → InDeclaration e one d → Leaves laid e one c → Contains (local_choices laid d) c
  out_local c e one d s x l = subst (λ (b : Bool). Contains (cond b (declarators_choices laid d.declarators) []) c) (sym s) (out_declaration c e one d x l)

  -- ## Statements

  mutual
    in_statement : (c : Choice) (s : StatementTree) → Contains (statement_choices laid s) c → Found (λ e one. InStatement e one s) c
    in_statement c (a_block parts) h = found_as (λ e one. InParts e one parts) (λ e one. InStatement e one (a_block parts)) c (λ e one x. in_block x) (in_parts c parts h)
    in_statement c (a_value t) h = absurd (none_in c h)
    in_statement c (an_if t s) h = found_as (λ e one. InStatement e one s) (λ e one. InStatement e one (an_if t s)) c (λ e one x. in_if x) (in_statement c s h)
    in_statement c (an_if_else t s r) h = elim (Contains-append_cases (statement_choices laid s) (statement_choices laid r) c h) [
      | inl x ↦ found_as (λ e one. InStatement e one s) (λ e one. InStatement e one (an_if_else t s r)) c (λ e one y. in_first y) (in_statement c s x)
      | inr x ↦ found_as (λ e one. InStatement e one r) (λ e one. InStatement e one (an_if_else t s r)) c (λ e one y. in_second y) (in_statement c r x)
    ]
    in_statement c (a_while t s) h = found_as (λ e one. InStatement e one s) (λ e one. InStatement e one (a_while t s)) c (λ e one x. in_while x) (in_statement c s h)
    in_statement c (a_do s t) h = found_as (λ e one. InStatement e one s) (λ e one. InStatement e one (a_do s t)) c (λ e one x. in_do x) (in_statement c s h)
    in_statement c (a_for (by_expression f) t u s) h = found_as (λ e one. InStatement e one s) (λ e one. InStatement e one (a_for (by_expression f) t u s)) c (λ e one x. in_for x) (in_statement c s h)
    in_statement c (a_for (by_declaration d) t u s) h = elim (Contains-append_cases (local_choices laid d) (statement_choices laid s) c h) [
      | inl x ↦ found_as (λ e one. InLocal e one d) (λ e one. InStatement e one (a_for (by_declaration d) t u s)) c (λ e one y. in_for_first y.storage y.stands) (in_local c d x)
      | inr x ↦ found_as (λ e one. InStatement e one s) (λ e one. InStatement e one (a_for (by_declaration d) t u s)) c (λ e one y. in_for y) (in_statement c s x)
    ]
    in_statement c (a_switch v cases) h = found_as (λ e one. InCases e one cases) (λ e one. InStatement e one (a_switch v cases)) c (λ e one x. in_switch x) (in_cases c cases h)
    in_statement c (a_break p) h = absurd (none_in c h)
    in_statement c (a_continue p) h = absurd (none_in c h)
    in_statement c (a_return t p) h = absurd (none_in c h)
    in_statement c (a_lock n q p) h = absurd (none_in c h)
    in_statement c (an_unlock n q p) h = absurd (none_in c h)
    in_statement c (a_yield p) h = absurd (none_in c h)

    in_parts : (c : Choice) (ps : PartTrees) → Contains (parts_choices laid ps) c → Found (λ e one. InParts e one ps) c
    in_parts c no_parts h = absurd (none_in c h)
    in_parts c (and_part (a_local d) rest) h = elim (Contains-append_cases (local_choices laid d) (parts_choices laid rest) c h) [
      | inl x ↦ found_as (λ e one. InLocal e one d) (λ e one. InParts e one (and_part (a_local d) rest)) c (λ e one y. declared y.storage y.stands) (in_local c d x)
      | inr x ↦ found_as (λ e one. InParts e one rest) (λ e one. InParts e one (and_part (a_local d) rest)) c (λ e one y. later y) (in_parts c rest x)
    ]
    in_parts c (and_part (a_step s) rest) h = elim (Contains-append_cases (statement_choices laid s) (parts_choices laid rest) c h) [
      | inl x ↦ found_as (λ e one. InStatement e one s) (λ e one. InParts e one (and_part (a_step s) rest)) c (λ e one y. stepped y) (in_statement c s x)
      | inr x ↦ found_as (λ e one. InParts e one rest) (λ e one. InParts e one (and_part (a_step s) rest)) c (λ e one y. later y) (in_parts c rest x)
    ]

    in_cases : (c : Choice) (cs : CaseTrees) → Contains (cases_choices laid cs) c → Found (λ e one. InCases e one cs) c
    in_cases c no_cases h = absurd (none_in c h)
    in_cases c (and_case (a_case t p) rest) h = found_as (λ e one. InCases e one rest) (λ e one. InCases e one (and_case (a_case t p) rest)) c (λ e one y. further y) (in_cases c rest h)
    in_cases c (and_case (a_default p) rest) h = found_as (λ e one. InCases e one rest) (λ e one. InCases e one (and_case (a_default p) rest)) c (λ e one y. further y) (in_cases c rest h)
    in_cases c (and_case (a_case_step s) rest) h = elim (Contains-append_cases (statement_choices laid s) (cases_choices laid rest) c h) [
      | inl x ↦ found_as (λ e one. InStatement e one s) (λ e one. InCases e one (and_case (a_case_step s) rest)) c (λ e one y. here y) (in_statement c s x)
      | inr x ↦ found_as (λ e one. InCases e one rest) (λ e one. InCases e one (and_case (a_case_step s) rest)) c (λ e one y. further y) (in_cases c rest x)
    ]

  mutual
    out_statement : (c : Choice) (e : Tree) (one : InitDeclaratorTree) (s : StatementTree) → InStatement e one s → Leaves laid e one c → Contains (statement_choices laid s) c
    out_statement c e one (a_block parts) (in_block x) l = out_parts c e one parts x l
    out_statement c e one (a_value t) x l = elim x [ ]
    out_statement c e one (a_break p) x l = elim x [ ]
    out_statement c e one (a_continue p) x l = elim x [ ]
    out_statement c e one (a_return t p) x l = elim x [ ]
    out_statement c e one (a_lock n q p) x l = elim x [ ]
    out_statement c e one (an_unlock n q p) x l = elim x [ ]
    out_statement c e one (a_yield p) x l = elim x [ ]
    out_statement c e one (an_if t s) (in_if x) l = out_statement c e one s x l
    out_statement c e one (an_if_else t s r) (in_first x) l = Contains-append_left (statement_choices laid s) (statement_choices laid r) c (out_statement c e one s x l)
    out_statement c e one (an_if_else t s r) (in_second x) l = Contains-append_right (statement_choices laid s) (statement_choices laid r) c (out_statement c e one r x l)
    out_statement c e one (a_while t s) (in_while x) l = out_statement c e one s x l
    out_statement c e one (a_do s t) (in_do x) l = out_statement c e one s x l
    out_statement c e one (a_for f t u s) (in_for x) l = Contains-append_right (first_choices laid f) (statement_choices laid s) c (out_statement c e one s x l)
    out_statement c e one (a_for (by_declaration d) t u s) (in_for_first g x) l = Contains-append_left (local_choices laid d) (statement_choices laid s) c (out_local c e one d g x l)
    out_statement c e one (a_switch v cases) (in_switch x) l = out_cases c e one cases x l

    out_parts : (c : Choice) (e : Tree) (one : InitDeclaratorTree) (ps : PartTrees) → InParts e one ps → Leaves laid e one c → Contains (parts_choices laid ps) c
    out_parts c e one no_parts x l = elim x [ ]
    out_parts c e one (and_part (a_local d) rest) (declared g x) l = Contains-append_left (local_choices laid d) (parts_choices laid rest) c (out_local c e one d g x l)
    out_parts c e one (and_part (a_step s) rest) (stepped x) l = Contains-append_left (statement_choices laid s) (parts_choices laid rest) c (out_statement c e one s x l)
    out_parts c e one (and_part (a_local d) rest) (later x) l = Contains-append_right (local_choices laid d) (parts_choices laid rest) c (out_parts c e one rest x l)
    out_parts c e one (and_part (a_step s) rest) (later x) l = Contains-append_right (statement_choices laid s) (parts_choices laid rest) c (out_parts c e one rest x l)

    out_cases : (c : Choice) (e : Tree) (one : InitDeclaratorTree) (cs : CaseTrees) → InCases e one cs → Leaves laid e one c → Contains (cases_choices laid cs) c
    out_cases c e one no_cases x l = elim x [ ]
    out_cases c e one (and_case (a_case_step s) rest) (here x) l = Contains-append_left (statement_choices laid s) (cases_choices laid rest) c (out_statement c e one s x l)
    out_cases c e one (and_case (a_case_step s) rest) (further x) l = Contains-append_right (statement_choices laid s) (cases_choices laid rest) c (out_cases c e one rest x l)
    out_cases c e one (and_case (a_case t p) rest) (further x) l = out_cases c e one rest x l
    out_cases c e one (and_case (a_default p) rest) (further x) l = out_cases c e one rest x l

  -- ## Files

  in_body : (c : Choice) (f : FunctionTree) (o : Option PartTrees) → f.body ≡ o → Contains (body_choices laid o) c → Found (λ e one. InItem e one (a_function f)) c
  in_body c f None e h = absurd (none_in c h)
  in_body c f (Some parts) e h = found_as (λ x one. InParts x one parts) (λ x one. InItem x one (a_function f)) c (λ x one y. of_function parts e y) (in_parts c parts h)

  in_item : (c : Choice) (i : ItemTree) → Contains (item_choices laid i) c → Found (λ e one. InItem e one i) c
  in_item c (a_declaration d) h = found_as (λ e one. InDeclaration e one d) (λ e one. InItem e one (a_declaration d)) c (λ e one x. of_file x) (in_declaration c d h)
  in_item c (a_function f) h = in_body c f f.body refl h
  in_item c an_empty_item h = absurd (none_in c h)
  in_item c (a_mutex n p) h = absurd (none_in c h)
  in_item c (a_task t n q parts p) h = found_as (λ e one. InParts e one parts) (λ e one. InItem e one (a_task t n q parts p)) c (λ e one x. of_task x) (in_parts c parts h)

  out_item : (c : Choice) (e : Tree) (one : InitDeclaratorTree) (i : ItemTree) → InItem e one i → Leaves laid e one c → Contains (item_choices laid i) c
  out_item c e one (a_declaration d) (of_file x) l = out_declaration c e one d x l
  out_item c e one (a_function f) (of_function parts is x) l = subst (λ (o : Option PartTrees). Contains (body_choices laid o) c) (sym is) (out_parts c e one parts x l)
  out_item c e one an_empty_item x l = elim x [ ]
  out_item c e one (a_mutex n p) x l = elim x [ ]
  out_item c e one (a_task t n q parts p) (of_task x) l = out_parts c e one parts x l

  in_file : (c : Choice) (items : List ItemTree) → Contains (file_choices laid items) c → IsOfFile laid items c
  in_file c [] h = absurd (none_in c h)
  in_file c (i ∷ items) h = by (λ x. in_file c items x) (Contains-append_cases (item_choices laid i) (file_choices laid items) c h)
    where
      by : (Contains (file_choices laid items) c → IsOfFile laid items c) → Contains (item_choices laid i) c ⊎ Contains (file_choices laid items) c
          → IsOfFile laid (i ∷ items) c
      by f (inl x) =
          let r = in_item c i x in
          record { value = r.value; one = r.one; item = i; among = at_front i items; stands = r.is; leaves = r.leaves }
      by f (inr x) =
          let r = f x in
          record { value = r.value; one = r.one; item = r.item; among = behind i items r.item r.among; stands = r.stands; leaves = r.leaves }

  out_file : (c : Choice) (e : Tree) (one : InitDeclaratorTree) (items : List ItemTree) (item : ItemTree) → Contains items item → InItem e one item → Leaves laid e one c → Contains (file_choices laid items) c
  out_file c e one [] item a x l = absurd (none_in item a)
  out_file c e one (i ∷ items) item a x l = elim (uncons i items item a) [
    | inl q ↦ Contains-append_left (item_choices laid i) (file_choices laid items) c
        (out_item c e one i (subst (λ (y : ItemTree). InItem e one y) (sym q) x) l)
    | inr t ↦ Contains-append_right (item_choices laid i) (file_choices laid items) c (out_file c e one items item t x l)
  ]

  pub listed_adds : (old : List Choice) (items : List ItemTree) → Adds old (old ++ file_choices laid items) (IsOfFile laid items)
  listed_adds old items c = (to, from)
    where
      to : Contains (old ++ file_choices laid items) c → Contains old c ⊎ IsOfFile laid items c
      to h = elim (Contains-append_cases old (file_choices laid items) c h) [ inl x ↦ inl x | inr x ↦ inr (in_file c items x) ]

      from : Contains old c ⊎ IsOfFile laid items c → Contains (old ++ file_choices laid items) c
      from (inl x) = Contains-append_left old (file_choices laid items) c x
      from (inr x) = Contains-append_right old (file_choices laid items) c (out_file c x.value x.one items x.item x.among x.stands x.leaves)

  -- what adds the list adds what the file leaves open
  pub adds_file : (r : Result (Unit {0}) NoMemory) (old new : List Choice) (items : List ItemTree) → OnOk r (new ≡ old ++ file_choices laid items)
      → OnOk r (Adds old new (IsOfFile laid items))
  adds_file (Err x) old new items h = tt
  adds_file (Ok x) old new items h = subst (λ (xs : List Choice). Adds old xs (IsOfFile laid items)) (sym h) (listed_adds old items)
