-- Functions and files that are spelled, and within the height, are read.
use Rattle.std.proofs.Common.{◌≡◌, ℕ, zero, suc, ◌<◌, ◌≤◌, true, false, cond, List, [], ◌∷◌, ◌++◌, length, Option, Some, None, refl, sym, ap, ◌∙◌, subst, arith, append_assoc}
use Rattle.std.proofs.lemmas.List.{append-nil}
use Rattle.tm_terms.specs.declared.places.Place.{Place}
use Rattle.tm_terms.specs.declared.tokens.Name.{Name}
use Rattle.tm_terms.specs.declared.tokens.Word.{Word}
use Rattle.tm_terms.specs.declared.tokens.Word.TheVariants as Words
use Rattle.tm_terms.specs.declared.tokens.Sign.TheVariants as Signs
use Rattle.tm_terms.specs.declared.tokens.Shape.{Shape}
use Rattle.tm_terms.specs.declared.tokens.Shape.TheVariants as Shapes
use Rattle.tm_terms.specs.declared.tokens.Token.{Token}
use Rattle.tm_terms.specs.declared.types_named.PointerWord.{PointerWord}
use Rattle.tm_terms.specs.ExprSpelling.{BySign, ByName, SpellsPointers, BeginsWithStar, is_type_name_list}
use Rattle.c_expr_parser.specs.declared.marks.Mark.TheVariants as Marks
use Rattle.c_expr_parser.specs.reading.Parts.{then_read, after, pointer_at, begins_by, begins_type}
use Rattle.c_expr_parser.proofs.Tokens.{false_true, none_some, after_spelled}
use Rattle.tm_trees.specs.DeclarationTrees.{DeclaratorTree, declarator_height, SpecifierTree}
use Rattle.tm_trees.specs.DeclarationTrees.{SpecifierTrees, as_specifiers, count_as, specifiers_height}
use Rattle.tm_trees.specs.DeclarationTrees.{InitDeclaratorTree, init_declarators_height}
use Rattle.tm_trees.specs.DeclarationSpelling.{SpellsSpecifiers, SpellsDeclarator, SpellsInitDeclarators}
use Rattle.tm_trees.specs.DeclarationSpelling.{is_file_list, is_typedef_list, with_declared}
use Rattle.tm_trees.specs.FileTrees.{PartTrees, ParameterTree, a_named_parameter, an_unnamed_parameter}
use Rattle.tm_trees.specs.FileTrees.{ParametersTree, only_void, some_parameters, FunctionTree, ItemTree}
use Rattle.tm_trees.specs.FileTrees.{a_declaration, a_function, an_empty_item, a_mutex, a_task}
use Rattle.tm_trees.specs.FileTrees.{parameter_height, tallest_parameter, parameters_height, body_height}
use Rattle.tm_trees.specs.FileTrees.{item_height, tallest_item}
use Rattle.tm_trees.specs.FileSpelling.{SpellsParameter, SpellsMoreParameters, SpellsParameters}
use Rattle.tm_trees.specs.FileSpelling.{SpellsBody, SpellsFunction, SpellsItem, SpellsItems}
use Rattle.tm_trees.specs.Parsing.{IsFileOf}
use Rattle.c_decl_parser.specs.reading.DeclarationDescent.{pointers, specifiers}
use Rattle.c_parser.specs.reading.FileDescent.{only_void_at, declares, parameter_by, parameter_after, parameter, list_by, parameters_by, parameters, function_body_by, function_body, behind_function, function_after, function_by, behind_pointers, undeclared_by, behind_specifiers, declared_item, mutex_item, task_item, item_word, item_shape, item, is_end, items_from, file}
use Rattle.c_decl_parser.proofs.MarkReading.{mark_stops, declared_spelled}
use Rattle.c_decl_parser.proofs.ExpressionReading.{expression_complete}
use Rattle.c_decl_parser.proofs.RepetitionReading.{Separated, one_or_more_complete}
use Rattle.c_decl_parser.proofs.DeclaratorReading.{pointers_of, pointers_complete, declarator_parts, declarator_pointers, declarator_after_complete}
use Rattle.c_decl_parser.proofs.SpecifierReading.{specifier_list, as_listed, file_list_names_type, type_name_list_names_type, ends_specifiers, pointers_end, declarator_ends, specifiers_complete, specifiers_begin}
use Rattle.c_decl_parser.proofs.DeclarationReading.{pointers_no_semicolon, declarator_no_semicolon, file_declarators_complete}
use Rattle.c_parser.proofs.FirstWords.{then_read_is, and_after_is, cond_is, only_void_spelled, only_void_none, function_name_spelled, task_head_spelled}
use Rattle.c_decl_parser.proofs.SpecifierStarts.{type_no_mark}
use Rattle.c_parser.proofs.StatementComplete.{block_complete}
use Rattle.c_parser.proofs.FileStarts.{direct_declares, declaration_no_function, parameter_shorter, item_shorter}

-- ## Parameters

-- a `,` or the `)` follows a parameter
abbrev ParameterFollows : List Token → Type 0
ParameterFollows ts = (after Marks.OpenBracket ts ≡ None) × (pointer_at true ts ≡ None) × (declares ts ≡ false) × (ends_specifiers ts ≡ true)

comma_follows : (ts rest : List Token) → BySign Signs.Comma ts rest → ParameterFollows ts
comma_follows ts rest s = (ap (after Marks.OpenBracket) s.1, ap (pointer_at true) s.1, ap declares s.1, ap ends_specifiers s.1)

close_follows : (ts rest : List Token) → BySign Signs.CloseParenthesis ts rest → ParameterFollows ts
close_follows ts rest s = (ap (after Marks.OpenBracket) s.1, ap (pointer_at true) s.1, ap declares s.1, ap ends_specifiers s.1)

module _ (types : List Name) (h : ℕ) where
  abbrev IsParameter : ParameterTree → List Token → List Token → Type 0
  IsParameter p ts rest = SpellsParameter types p ts rest × (parameter_height p ≤ h)

  named_spelled : (found : List SpecifierTree) (d : DeclaratorTree) (ts a rest : List Token) → specifiers types h ts ≡ Some (found, a) → is_type_name_list (count_as (as_specifiers found)) ≡ true → SpellsDeclarator false types d a rest → declarator_height d ≤ h → after Marks.OpenBracket rest ≡ None → parameter types (suc h) ts ≡ Some (a_named_parameter (as_specifiers found) d, rest)
  unfolding parameter parameter_after
  named_spelled found d ts a rest e named s low ends =
      let q = declarator_parts false types d a rest s in
      then_read_is _ _ _ _ e (cond_is _ _ _ named
      (ap (λ (x : List PointerWord × List Token). parameter_by types h found x.0 (declares x.1) x.1) (declarator_pointers false types d a q.0 rest q.1 q.2 q.3)
      ∙ ap (λ b. parameter_by types h found (pointers_of d) b q.0) (direct_declares types d q.0 rest q.3)
      ∙ then_read_is _ _ _ _ (declarator_after_complete false types h d q.0 rest q.3 low ends) refl))

  unnamed_spelled : (found : List SpecifierTree) (words : List PointerWord) (ts a rest : List Token) → specifiers types h ts ≡ Some (found, a) → is_type_name_list (count_as (as_specifiers found)) ≡ true → SpellsPointers words a rest → BeginsWithStar words → ParameterFollows rest → parameter types (suc h) ts ≡ Some (an_unnamed_parameter (as_specifiers found) words, rest)
  unfolding parameter parameter_after
  unnamed_spelled found words ts a rest e named s star follows =
      then_read_is _ _ _ _ e (cond_is _ _ _ named
      (ap (λ (x : List PointerWord × List Token). parameter_by types h found x.0 (declares x.1) x.1) (pointers_complete words a rest s star follows.1)
      ∙ ap (λ b. parameter_by types h found words b rest) follows.2))

  listed_name : (s : SpecifierTrees) → is_type_name_list (count_as s) ≡ true → is_type_name_list (count_as (as_specifiers (specifier_list s))) ≡ true
  listed_name s named = subst (λ l. is_type_name_list (count_as l) ≡ true) (sym (as_listed s)) named

  next_parameter : (p : ParameterTree) (ts rest : List Token) → SpellsParameter types p ts rest → parameter_height p ≤ suc h → ParameterFollows rest → parameter types (suc h) ts ≡ Some (p, rest)
  next_parameter (a_named_parameter s d) ts rest r low follows =
      named_spelled (specifier_list s) d ts r.0 rest
      (specifiers_complete types h s ts r.0 r.1 (type_name_list_names_type (count_as s) r.2) (omega arith) (declarator_ends false types d r.0 rest r.3)) (listed_name s r.2) r.3 (omega arith) follows.0
      ∙ ap (λ l. Some (a_named_parameter l d, rest)) (as_listed s)
  next_parameter (an_unnamed_parameter s words) ts rest r low follows =
      unnamed_spelled (specifier_list s) words ts r.0 rest
      (specifiers_complete types h s ts r.0 r.1 (type_name_list_names_type (count_as s) r.2) (omega arith) (pointers_end words r.0 rest r.3 r.4 follows.3)) (listed_name s r.2) r.3 r.4 follows
      ∙ ap (λ l. Some (an_unnamed_parameter l words, rest)) (as_listed s)

parameter_has_node : (p : ParameterTree) → 1 ≤ parameter_height p
parameter_has_node (a_named_parameter s d) = omega arith
parameter_has_node (an_unnamed_parameter s words) = omega arith

parameter_complete : (types : List Name) (h : ℕ) (p : ParameterTree) (ts rest : List Token) → IsParameter types h p ts rest → ParameterFollows rest → parameter types h ts ≡ Some (p, rest)
parameter_complete types zero p ts rest s follows = absurd (omega (arith, parameter_has_node p, s.1))
parameter_complete types (suc h) p ts rest s follows = next_parameter types h p ts rest s.0 s.1 follows

parameter_begins : (types : List Name) (p : ParameterTree) (ts rest : List Token) → SpellsParameter types p ts rest → begins_type types ts ≡ true
parameter_begins types (a_named_parameter s d) ts rest r = specifiers_begin types s ts r.0 r.1 (type_name_list_names_type (count_as s) r.2)
parameter_begins types (an_unnamed_parameter s words) ts rest r = specifiers_begin types s ts r.0 r.1 (type_name_list_names_type (count_as s) r.2)

-- the further parameters apart from the `)`
more_split : (types : List Name) (h : ℕ) (more : List ParameterTree) (ts rest : List Token) → SpellsMoreParameters types more ts rest → tallest_parameter more ≤ h → (a : List Token) × Separated (IsParameter types h) more ts a × BySign Signs.CloseParenthesis a rest
more_split types h [] ts rest s low = (ts, refl, s)
more_split types h (p ∷ more) ts rest s low =
    let r = more_split types h more s.1 rest s.4 (omega arith) in (r.0, (s.0, s.1, s.2, (s.3, omega arith), r.1), r.2)

parameters_complete : (types : List Name) (h : ℕ) (ps : ParametersTree) (ts rest : List Token) → SpellsParameters types ps ts rest → parameters_height ps ≤ h → parameters types h ts ≡ Some (ps, rest)
unfolding parameters only_void_at
parameters_complete types h only_void ts rest s low = ap (λ o. parameters_by types h o ts) (only_void_spelled ts rest s)
parameters_complete types h (some_parameters []) ts rest s low =
    ap (λ o. parameters_by types h o ts) (ap only_void_at s.1) ∙ ap (λ o. list_by types h o ts) (after_spelled Marks.CloseParenthesis ts rest s)
parameters_complete types h (some_parameters (p ∷ more)) ts rest s low =
    let r = more_split types h more s.0 rest s.3 (omega arith) in
    ap (λ o. parameters_by types h o ts) (only_void_none ts s.1)
    ∙ ap (λ o. list_by types h o ts) (type_no_mark types Marks.CloseParenthesis ts (parameter_begins types p ts s.0 s.2))
    ∙ then_read_is _ _ _ _
    (one_or_more_complete (IsParameter types h) ParameterFollows (parameter types h) (parameter_complete types h) (λ p ts rest s. parameter_shorter types p ts rest s.0) comma_follows
    (p ∷ more) ts r.0 (s.0, (s.2, omega arith), r.1) (close_follows r.0 rest r.2) (ap (after Marks.Comma) r.2.1))
    (and_after_is _ _ _ _ (after_spelled Marks.CloseParenthesis r.0 rest r.2) refl)

-- ## Functions

body_complete : (types : List Name) (h : ℕ) (body : Option PartTrees) (ts rest : List Token) → SpellsBody types body ts rest → body_height body ≤ h → function_body types h ts ≡ Some (body, rest)
unfolding function_body
body_complete types h None ts rest s low = ap (λ o. function_body_by types h o ts) (after_spelled Marks.Semicolon ts rest s)
body_complete types h (Some trees) ts rest s low =
    ap (λ o. function_body_by types h o ts) (ap (after Marks.Semicolon) s.1.1) ∙ then_read_is _ _ _ _ (block_complete types h trees ts rest s low) refl

module _ (types : List Name) (h : ℕ) (found : List SpecifierTree) (ts a : List Token) (e : specifiers types h ts ≡ Some (found, a)) (named : is_file_list (count_as (as_specifiers found)) ≡ true) where
  function_spelled : (words : List PointerWord) (n : Name) (p : Place) (ps : ParametersTree) (body : Option PartTrees) (b c d k rest : List Token) → SpellsPointers words a b → BeginsWithStar words → ByName types n p b c → BySign Signs.OpenParenthesis c d → SpellsParameters types ps d k → parameters_height ps ≤ h → SpellsBody (behind_function types found n) body k rest → body_height body ≤ h
      → declared_item types h ts ≡ Some ((a_function (record { specifiers = as_specifiers found; pointers = words; name = n; parameters = ps; body = body; place = p }), behind_function types found n), rest)
  unfolding declared_item behind_specifiers behind_pointers function_after
  function_spelled words n p ps body b c d k rest w star name open_is s low t low2 =
      then_read_is _ _ _ _ e (cond_is _ _ _ named
      (ap (λ o. undeclared_by types h found o a) (pointers_no_semicolon words a b w star (ap (after Marks.Semicolon) name.1))
      ∙ ap (λ (x : List PointerWord × List Token). behind_pointers types h found x.0 x.1) (pointers_complete words a b w star (ap (pointer_at true) name.1))
      ∙ ap (λ o. function_by types h found words o b) (function_name_spelled types n p b d (c, name, open_is))
      ∙ then_read_is _ _ _ _ (parameters_complete types h ps d k s low)
      (then_read_is _ _ _ _ (body_complete (behind_function types found n) h body k rest t low2) refl)))

  undeclared_spelled : (rest : List Token) → BySign Signs.Semicolon a rest → declared_item types h ts ≡ Some ((a_declaration (record { specifiers = as_specifiers found; declarators = [] }), types), rest)
  unfolding declared_item behind_specifiers
  undeclared_spelled rest s =
      then_read_is _ _ _ _ e (cond_is _ _ _ named (ap (λ o. undeclared_by types h found o a) (after_spelled Marks.Semicolon a rest s)))

  declaration_spelled : (d : InitDeclaratorTree) (more : List InitDeclaratorTree) (types' : List Name) (b rest : List Token) → SpellsInitDeclarators (is_typedef_list (count_as (as_specifiers found))) types (d ∷ more) a types' b → BySign Signs.Semicolon b rest → init_declarators_height (d ∷ more) ≤ h → declared_item types h ts ≡ Some ((a_declaration (record { specifiers = as_specifiers found; declarators = d ∷ more }), types'), rest)
  unfolding declared_item behind_specifiers behind_pointers
  declaration_spelled d more types' b rest s semicolon low =
      let typedef = is_typedef_list (count_as (as_specifiers found)) in
      then_read_is _ _ _ _ e (cond_is _ _ _ named
      (ap (λ o. undeclared_by types h found o a) (declarator_no_semicolon types d.declarator a s.2.0 s.2.1)
      ∙ ap (λ o. function_by types h found (pointers a).0 o (pointers a).1) (declaration_no_function typedef types d more a types' b rest s semicolon)
      ∙ then_read_is _ _ _ _ (file_declarators_complete types h typedef d more a types' b rest s semicolon low) refl))

-- ## Items

-- specifiers begin no other item
type_declares : (types : List Name) (h : ℕ) (ts : List Token) → begins_type types ts ≡ true → item types h ts ≡ declared_item types h ts
unfolding item
type_declares types h [] e = false_true e
type_declares types h (t ∷ ts) e = go t.shape e
  where
    word : (w : Word) → begins_by types (Shapes.Word w) ≡ true → item_word types h w t.place ts (t ∷ ts) ≡ declared_item types h (t ∷ ts)
    word Words.Mutex e = false_true e
    word Words.Task e = false_true e
    word _ e = refl

    go : (shape : Shape) → begins_by types shape ≡ true → item_shape types h shape t.place ts (t ∷ ts) ≡ declared_item types h (t ∷ ts)
    go (Shapes.Word w) e = word w e
    go (Shapes.Sign sign) e = false_true e
    go _ e = refl

module _ (types : List Name) (h : ℕ) where
  listed_file : (s : SpecifierTrees) → is_file_list (count_as s) ≡ true → is_file_list (count_as (as_specifiers (specifier_list s))) ≡ true
  listed_file s named = subst (λ l. is_file_list (count_as l) ≡ true) (sym (as_listed s)) named

  declaration_item : (s : SpecifierTrees) (ds : List InitDeclaratorTree) (ts a : List Token) (types' : List Name) (b rest : List Token) → SpellsSpecifiers types false s ts a → is_file_list (count_as s) ≡ true → SpellsInitDeclarators (is_typedef_list (count_as s)) types ds a types' b → BySign Signs.Semicolon b rest → specifiers_height s ≤ h → init_declarators_height ds ≤ h
      → declared_item types h ts ≡ Some ((a_declaration (record { specifiers = s; declarators = ds }), types'), rest)
  declaration_item s [] ts a types' b rest r named i semicolon low low2 =
      undeclared_spelled types h (specifier_list s) ts a
      (specifiers_complete types h s ts a r (file_list_names_type (count_as s) named) low (ap ends_specifiers (i.1 ∙ semicolon.1))) (listed_file s named)
      rest (subst (λ l. BySign Signs.Semicolon l rest) (sym i.1) semicolon)
      ∙ ap (λ l. Some ((a_declaration (record { specifiers = l; declarators = [] }), types), rest)) (as_listed s)
      ∙ ap (λ l. Some ((a_declaration (record { specifiers = s; declarators = [] }), l), rest)) i.0
  declaration_item s (d ∷ more) ts a types' b rest r named i semicolon low low2 =
      declaration_spelled types h (specifier_list s) ts a
      (specifiers_complete types h s ts a r (file_list_names_type (count_as s) named) low (declarator_ends false types d.declarator a i.2.0 i.2.1)) (listed_file s named)
      d more types' b rest (subst (λ l. SpellsInitDeclarators (is_typedef_list (count_as l)) types (d ∷ more) a types' b) (sym (as_listed s)) i) semicolon low2
      ∙ ap (λ l. Some ((a_declaration (record { specifiers = l; declarators = d ∷ more }), types'), rest)) (as_listed s)

  function_item : (f : FunctionTree) (ts : List Token) (types' : List Name) (rest : List Token) → SpellsFunction types f ts types' rest → specifiers_height f.specifiers ≤ h → parameters_height f.parameters ≤ h → body_height f.body ≤ h → declared_item types h ts ≡ Some ((a_function f, types'), rest)
  function_item f ts types' rest s low low2 low3 =
      let behind = subst (λ l. SpellsBody l f.body s.4 rest) s.12 s.13 in
      function_spelled types h (specifier_list f.specifiers) ts s.0
      (specifiers_complete types h f.specifiers ts s.0 s.5 (file_list_names_type (count_as f.specifiers) s.6) low (pointers_end f.pointers s.0 s.1 s.7 s.8 (ap ends_specifiers s.9.1))) (listed_file f.specifiers s.6)
      f.pointers f.name f.place f.parameters f.body s.1 s.2 s.3 s.4 rest s.7 s.8 s.9 s.10 s.11 low2
      (subst (λ l. SpellsBody (with_declared (is_typedef_list (count_as l)) types f.name) f.body s.4 rest) (sym (as_listed f.specifiers)) behind) low3
      ∙ ap (λ l. Some ((a_function (record { specifiers = l; pointers = f.pointers; name = f.name; parameters = f.parameters; body = f.body; place = f.place }), with_declared (is_typedef_list (count_as l)) types f.name), rest)) (as_listed f.specifiers)
      ∙ ap (λ l. Some ((a_function f, l), rest)) (sym s.12)

  pub item_complete : (i : ItemTree) (ts : List Token) (types' : List Name) (rest : List Token) → SpellsItem types i ts types' rest → item_height i ≤ suc h → item types h ts ≡ Some ((i, types'), rest)
  unfolding item mutex_item task_item
  item_complete (a_declaration d) ts types' rest s low =
      type_declares types h ts (specifiers_begin types d.specifiers ts s.0 s.2 (file_list_names_type (count_as d.specifiers) s.3))
      ∙ declaration_item d.specifiers d.declarators ts s.0 types' s.1 rest s.2 s.3 s.4 s.5 (omega arith) (omega arith)
  item_complete (a_function f) ts types' rest s low =
      type_declares types h ts (specifiers_begin types f.specifiers ts s.0 s.5 (file_list_names_type (count_as f.specifiers) s.6))
      ∙ function_item f ts types' rest s (omega arith) (omega arith) (omega arith)
  item_complete an_empty_item ts types' rest s low =
      ap (item types h) s.1.1 ∙ ap (λ l. Some ((an_empty_item, l), rest)) s.0
  item_complete (a_mutex n p) ts types' rest s low =
      ap (item types h) s.3.1
      ∙ then_read_is _ _ _ _ (declared_spelled false types n p s.1 s.2 s.4) (and_after_is _ _ _ _ (after_spelled Marks.Semicolon s.2 rest s.5) (ap (λ l. Some ((a_mutex n p, l), rest)) s.0))
  item_complete (a_task t n q trees p) ts types' rest s low =
      ap (item types h) s.6
      ∙ and_after_is _ _ _ _ (after_spelled Marks.OpenParenthesis s.1 s.2 s.7)
      (then_read_is _ _ _ _ (expression_complete types h 2 s.2 t s.3 s.8 (omega arith) (mark_stops Marks.CloseParenthesis 2 s.3 s.4 (omega arith) s.9))
      (and_after_is _ _ _ _ (after_spelled Marks.CloseParenthesis s.3 s.4 s.9)
      (then_read_is _ _ _ _ (task_head_spelled types n q s.4 s.5 s.10)
      (then_read_is _ _ _ _ (block_complete types h trees s.5 rest s.11 (omega arith)) (ap (λ l. Some ((a_task t n q trees p, l), rest)) s.0)))))

-- ## Files

not_end : (ts rest : List Token) → length rest < length ts → is_end ts ≡ false
not_end [] rest less = absurd (omega arith)
not_end (t ∷ ts) rest less = refl

pub items_complete : (items : List ItemTree) (h n : ℕ) (types : List Name) (found : List ItemTree) (ts : List Token) → SpellsItems types items ts → tallest_item items ≤ suc h → length ts ≤ n → items_from h n types found ts ≡ Some (found ++ items)
unfolding items_from
items_complete [] h zero types found ts s low le = cond_is _ _ _ (ap is_end s) (ap Some (sym (append-nil found)))
items_complete [] h (suc n) types found ts s low le =
    ap (λ b. cond b (Some found) (then_read (item types h ts) (λ x rest. items_from h n x.1 (found ++ x.0 ∷ []) rest))) (ap is_end s) ∙ ap Some (sym (append-nil found))
items_complete (i ∷ items) h zero types found ts s low le = absurd (omega (arith, item_shorter types i ts s.0 s.1 s.2))
items_complete (i ∷ items) h (suc n) types found ts s low le =
    let less = item_shorter types i ts s.0 s.1 s.2 in
    ap (λ b. cond b (Some found) (then_read (item types h ts) (λ x rest. items_from h n x.1 (found ++ x.0 ∷ []) rest))) (not_end ts s.1 less)
    ∙ then_read_is _ _ _ _ (item_complete types h i ts s.0 s.1 s.2 (omega (arith, low)))
    (items_complete items h n s.0 (found ++ i ∷ []) s.1 s.3 (omega (arith, low)) (omega arith) ∙ ap Some (append_assoc found (i ∷ []) items))

pub file_complete : (ts : List Token) (items : List ItemTree) → IsFileOf ts items → file ts ≡ Some items
file_complete ts items f = items_complete items 498 (length ts) [] [] ts f.spelled (omega (arith, f.low)) (omega arith)

-- nothing is read only where the tokens spell no file of that height
pub file_none : (ts : List Token) → file ts ≡ None → (items : List ItemTree) → IsFileOf ts items → ⊥
file_none ts e items f = none_some (sym e ∙ file_complete ts items f)
