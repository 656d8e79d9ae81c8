-- What comes first behind the specifiers of declarations, functions and parameters, and that each of these is at least one token.
use Rattle.std.proofs.Common.{◌≡◌, ◌<◌, ◌≤◌, Bool, true, false, List, [], ◌∷◌, length, Option, Some, None, ap, ◌∙◌, arith}
use Rattle.tm_terms.specs.declared.places.Place.{Place}
use Rattle.tm_terms.specs.declared.tokens.Name.{Name}
use Rattle.tm_terms.specs.declared.tokens.Word.TheVariants as Words
use Rattle.tm_terms.specs.declared.tokens.Sign.TheVariants as Signs
use Rattle.tm_terms.specs.declared.tokens.Shape.TheVariants as Shapes
use Rattle.tm_terms.specs.declared.tokens.Token.{Token}
use Rattle.tm_terms.specs.declared.types_named.PointerWord.{PointerWord}
use Rattle.tm_terms.specs.ExprSpelling.{BySign}
use Rattle.c_expr_parser.specs.declared.marks.Mark.TheVariants as Marks
use Rattle.c_expr_parser.specs.reading.Parts.{after}
use Rattle.c_expr_parser.proofs.Tokens.{begins_shorter}
use Rattle.c_expr_parser.proofs.Sound.{shorter, by_shorter}
use Rattle.c_expr_parser.proofs.TypeReading.{pointers_shorter}
use Rattle.tm_trees.specs.DeclarationTrees.{LengthTree, DeclaratorTree, a_declared_name, a_nested}
use Rattle.tm_trees.specs.DeclarationTrees.{count_as, InitialiserTree, InitDeclaratorTree}
use Rattle.tm_trees.specs.DeclarationSpelling.{SpellsLengths, SpellsInitialiser}
use Rattle.tm_trees.specs.DeclarationSpelling.{SpellsMoreInitDeclarators, SpellsInitDeclarators}
use Rattle.tm_trees.specs.DeclarationSpelling.{is_typedef_list}
use Rattle.tm_trees.specs.FileTrees.{PartTrees, ParameterTree, a_named_parameter, an_unnamed_parameter}
use Rattle.tm_trees.specs.FileTrees.{ParametersTree, only_void, some_parameters, ItemTree, a_declaration}
use Rattle.tm_trees.specs.FileTrees.{a_function, an_empty_item, a_mutex, a_task}
use Rattle.tm_trees.specs.FileSpelling.{BeginsOnlyVoid, SpellsBlock, SpellsParameter}
use Rattle.tm_trees.specs.FileSpelling.{SpellsMoreParameters, SpellsParameters, SpellsBody}
use Rattle.tm_trees.specs.FileSpelling.{SpellsTaskHead, SpellsItem}
use Rattle.c_decl_parser.specs.reading.DeclarationDescent.{pointers}
use Rattle.c_parser.specs.reading.FileDescent.{declares, function_name}
use Rattle.c_decl_parser.proofs.MarkReading.{declared_spelled}
use Rattle.c_decl_parser.proofs.DeclaratorReading.{SpellsDirect, declarator_parts, declarator_pointers, declarator_shorter}
use Rattle.c_decl_parser.proofs.SpecifierReading.{file_list_names_type, type_name_list_names_type, specifiers_shorter}
use Rattle.c_decl_parser.proofs.DeclarationReading.{init_declarators_shorter}
use Rattle.c_parser.proofs.FirstWords.{then_read_is, and_after_none}
use Rattle.c_parser.proofs.StatementStarts.{word_shorter, parts_shorter}

-- ## Behind specifiers

pub direct_declares : (types : List Name) (d : DeclaratorTree) (ts rest : List Token) → SpellsDirect false types d ts rest → declares ts ≡ true
direct_declares types (a_declared_name words n p sizes) ts rest s = ap declares s.1.1
direct_declares types (a_nested words d sizes) ts rest s = ap declares s.3.1

-- ## A declarator in a declaration is no function: no `(` follows its name

lengths_no_function : (types : List Name) (sizes : List LengthTree) (ts rest : List Token) → SpellsLengths types sizes ts rest → after Marks.OpenParenthesis rest ≡ None → after Marks.OpenParenthesis ts ≡ None
lengths_no_function types [] ts rest s e = ap (after Marks.OpenParenthesis) s ∙ e
lengths_no_function types (l ∷ sizes) ts rest s e = ap (after Marks.OpenParenthesis) s.3

initialiser_no_function : (types : List Name) (i : Option InitialiserTree) (ts rest : List Token) → SpellsInitialiser types i ts rest → after Marks.OpenParenthesis rest ≡ None → after Marks.OpenParenthesis ts ≡ None
initialiser_no_function types None ts rest s e = ap (after Marks.OpenParenthesis) s ∙ e
initialiser_no_function types (Some i) ts rest s e = ap (after Marks.OpenParenthesis) s.1

more_no_function : (typedef : Bool) (types : List Name) (more : List InitDeclaratorTree) (ts : List Token) (types' : List Name) (a rest : List Token) → SpellsMoreInitDeclarators typedef types more ts types' a → BySign Signs.Semicolon a rest → after Marks.OpenParenthesis ts ≡ None
more_no_function typedef types [] ts types' a rest s semicolon = ap (after Marks.OpenParenthesis) (s.1 ∙ semicolon.1)
more_no_function typedef types (d ∷ more) ts types' a rest s semicolon = ap (after Marks.OpenParenthesis) s.3.1

direct_no_function : (types : List Name) (d : DeclaratorTree) (ts rest : List Token) → SpellsDirect false types d ts rest → after Marks.OpenParenthesis rest ≡ None → function_name types ts ≡ None
unfolding function_name
direct_no_function types (a_declared_name words n p sizes) ts rest s e =
    then_read_is _ _ _ _ (declared_spelled false types n p ts s.0 s.1) (and_after_none _ _ (lengths_no_function types sizes s.0 rest s.2 e))
direct_no_function types (a_nested words d sizes) ts rest s e = ap (function_name types) s.3.1

-- behind the pointer part of the first declarator
pub declaration_no_function : (typedef : Bool) (types : List Name) (d : InitDeclaratorTree) (more : List InitDeclaratorTree) (ts : List Token) (types' : List Name) (a rest : List Token) → SpellsInitDeclarators typedef types (d ∷ more) ts types' a → BySign Signs.Semicolon a rest → function_name types (pointers ts).1 ≡ None
declaration_no_function typedef types d more ts types' a rest s semicolon =
    let i = s.2 in
    let q = declarator_parts false types d.declarator ts i.0 i.1 in
    ap (λ (x : List PointerWord × List Token). function_name types x.1) (declarator_pointers false types d.declarator ts q.0 i.0 q.1 q.2 q.3)
    ∙ direct_no_function types d.declarator q.0 i.0 q.3 (initialiser_no_function s.1 d.initialiser i.0 s.0 i.3 (more_no_function typedef s.1 more s.0 types' a rest s.3 semicolon))

-- ## Lengths

pub parameter_shorter : (types : List Name) (p : ParameterTree) (ts rest : List Token) → SpellsParameter types p ts rest → length rest < length ts
parameter_shorter types (a_named_parameter specifiers d) ts rest s =
    omega (arith, specifiers_shorter types specifiers ts s.0 s.1 (type_name_list_names_type (count_as specifiers) s.2), declarator_shorter false types d s.0 rest s.3)
parameter_shorter types (an_unnamed_parameter specifiers words) ts rest s =
    omega (arith, specifiers_shorter types specifiers ts s.0 s.1 (type_name_list_names_type (count_as specifiers) s.2), pointers_shorter words s.0 rest s.3)

more_shorter : (types : List Name) (more : List ParameterTree) (ts rest : List Token) → SpellsMoreParameters types more ts rest → length rest < length ts
more_shorter types [] ts rest s = by_shorter Signs.CloseParenthesis ts rest s
more_shorter types (p ∷ more) ts rest s =
    omega (arith, by_shorter Signs.Comma ts s.0 s.2, parameter_shorter types p s.0 s.1 s.3, more_shorter types more s.1 rest s.4)

only_void_shorter : (ts rest : List Token) → BeginsOnlyVoid ts rest → length rest < length ts
only_void_shorter ts rest s = omega (arith, word_shorter Words.Void ts s.0 s.1, by_shorter Signs.CloseParenthesis s.0 rest s.2)

parameters_shorter : (types : List Name) (ps : ParametersTree) (ts rest : List Token) → SpellsParameters types ps ts rest → length rest < length ts
parameters_shorter types only_void ts rest s = only_void_shorter ts rest s
parameters_shorter types (some_parameters []) ts rest s = by_shorter Signs.CloseParenthesis ts rest s
parameters_shorter types (some_parameters (p ∷ more)) ts rest s = omega (arith, parameter_shorter types p ts s.0 s.2, more_shorter types more s.0 rest s.3)

block_shorter : (types : List Name) (trees : PartTrees) (ts rest : List Token) → SpellsBlock types trees ts rest → length rest < length ts
block_shorter types trees ts rest s = omega (arith, by_shorter Signs.OpenBrace ts s.0 s.1, parts_shorter types trees s.0 rest s.2)

body_shorter : (types : List Name) (body : Option PartTrees) (ts rest : List Token) → SpellsBody types body ts rest → length rest < length ts
body_shorter types None ts rest s = by_shorter Signs.Semicolon ts rest s
body_shorter types (Some trees) ts rest s = block_shorter types trees ts rest s

init_shorter : (typedef : Bool) (types : List Name) (ds : List InitDeclaratorTree) (ts : List Token) (types' : List Name) (rest : List Token) → SpellsInitDeclarators typedef types ds ts types' rest → length rest ≤ length ts
init_shorter typedef types [] ts types' rest s = let n : length ts ≡ length rest = ap length s.1 in omega arith
init_shorter typedef types (d ∷ more) ts types' rest s = omega (arith, init_declarators_shorter typedef types d more ts types' rest s)

task_head_shorter : (types : List Name) (n : Name) (q : Place) (ts rest : List Token) → SpellsTaskHead types n q ts rest → length rest < length ts
task_head_shorter types n q ts rest s =
    omega (arith, word_shorter Words.Void ts s.0 s.3, begins_shorter (Shapes.Name n) q s.0 s.1 s.4.1, by_shorter Signs.OpenParenthesis s.1 s.2 s.5, only_void_shorter s.2 rest s.6)

pub item_shorter : (types : List Name) (i : ItemTree) (ts : List Token) (types' : List Name) (rest : List Token) → SpellsItem types i ts types' rest → length rest < length ts
item_shorter types (a_declaration d) ts types' rest s =
    omega (arith, specifiers_shorter types d.specifiers ts s.0 s.2 (file_list_names_type (count_as d.specifiers) s.3), init_shorter (is_typedef_list (count_as d.specifiers)) types d.declarators s.0 types' s.1 s.4, by_shorter Signs.Semicolon s.1 rest s.5)
item_shorter types (a_function f) ts types' rest s =
    omega (arith, specifiers_shorter types f.specifiers ts s.0 s.5 (file_list_names_type (count_as f.specifiers) s.6), pointers_shorter f.pointers s.0 s.1 s.7, begins_shorter (Shapes.Name f.name) f.place s.1 s.2 s.9.1, by_shorter Signs.OpenParenthesis s.2 s.3 s.10, parameters_shorter types f.parameters s.3 s.4 s.11, body_shorter types' f.body s.4 rest s.13)
item_shorter types an_empty_item ts types' rest s = by_shorter Signs.Semicolon ts rest s.1
item_shorter types (a_mutex n p) ts types' rest s =
    omega (arith, word_shorter Words.Mutex ts s.1 s.3, begins_shorter (Shapes.Name n) p s.1 s.2 s.4.1, by_shorter Signs.Semicolon s.2 rest s.5)
item_shorter types (a_task t n q trees p) ts types' rest s =
    omega (arith, begins_shorter (Shapes.Word Words.Task) p ts s.1 s.6, by_shorter Signs.OpenParenthesis s.1 s.2 s.7, shorter types t s.2 s.3 s.8.0, by_shorter Signs.CloseParenthesis s.3 s.4 s.9, task_head_shorter types n q s.4 s.5 s.10, block_shorter types trees s.5 rest s.11)
