-- The descent for statements and files. `allowed` is the greatest height of what is read.
use Rattle.std.specs.Prelude.{ℕ, zero, suc, Bool, true, false, cond, List, [], ◌∷◌, ◌++◌, length, Option, Some, None}
use Rattle.tm_terms.specs.declared.places.Place.{Place}
use Rattle.tm_terms.specs.declared.tokens.Name.{Name}
use Rattle.tm_terms.specs.declared.tokens.Word.{Word}
use Rattle.tm_terms.specs.declared.tokens.Word.TheVariants as Words
use Rattle.tm_terms.specs.declared.tokens.Sign.{Sign}
use Rattle.tm_terms.specs.declared.tokens.Sign.TheVariants as Signs
use Rattle.tm_terms.specs.declared.tokens.Shape.{Shape}
use Rattle.tm_terms.specs.declared.tokens.Shape.TheVariants as Shapes
use Rattle.tm_terms.specs.declared.tokens.Token.{Token}
use Rattle.tm_terms.specs.declared.types_named.PointerWord.{PointerWord}
use Rattle.tm_terms.specs.ExprTrees.{Tree}
use Rattle.tm_terms.specs.ExprSpelling.{is_type_name_list}
use Rattle.c_expr_parser.specs.declared.marks.Mark.TheVariants as Marks
use Rattle.c_expr_parser.specs.reading.Parts.{then_read, and_after, after, begins_type}
use Rattle.tm_trees.specs.DeclarationTrees.{SpecifierTree, count_as, as_specifiers, InitDeclaratorTree}
use Rattle.tm_trees.specs.DeclarationSpelling.{is_file_list, is_typedef_list, with_declared}
use Rattle.tm_trees.specs.FileTrees.{ForFirstTree, by_expression, by_declaration, StatementTree, a_block}
use Rattle.tm_trees.specs.FileTrees.{a_value}
use Rattle.tm_trees.specs.FileTrees.{an_if, an_if_else, a_while, a_do, a_for, a_switch, a_break}
use Rattle.tm_trees.specs.FileTrees.{a_continue, a_return}
use Rattle.tm_trees.specs.FileTrees.{a_lock, an_unlock, a_yield, PartTree, a_local, a_step, PartTrees}
use Rattle.tm_trees.specs.FileTrees.{as_parts}
use Rattle.tm_trees.specs.FileTrees.{CaseTree, a_case, a_default, a_case_step, as_cases, ParameterTree}
use Rattle.tm_trees.specs.FileTrees.{a_named_parameter, an_unnamed_parameter, ParametersTree, only_void}
use Rattle.tm_trees.specs.FileTrees.{some_parameters, ItemTree, a_declaration, a_function, an_empty_item}
use Rattle.tm_trees.specs.FileTrees.{a_mutex}
use Rattle.tm_trees.specs.FileTrees.{a_task}
use Rattle.c_decl_parser.specs.declared.tokens.Keyword.TheVariants as Keywords
use Rattle.c_decl_parser.specs.reading.Parts.{after_word, declared_at, expression, until, in_parentheses}
use Rattle.c_decl_parser.specs.reading.Repetitions.{one_or_more, until_brace}
use Rattle.c_decl_parser.specs.reading.DeclarationDescent.{pointers, declarator_after, specifiers, local_declaration}
use Rattle.c_decl_parser.specs.reading.DeclarationDescent.{file_declarators}

-- ## Statements

-- an expression or nothing, and the `;`
abbrev pub closed : List Name → ℕ → List Token → Option (Option Tree × List Token)
closed types allowed ts = until types allowed 0 Marks.Semicolon ts

-- a mutex in parentheses, and the `;`
unfoldable pub mutex_in : List Name → List Token → Option ((Name × Place) × List Token)
mutex_in types ts = and_after (after Marks.OpenParenthesis ts) (λ a.
    then_read (declared_at false types a) (λ n b.
    and_after (after Marks.CloseParenthesis b) (λ c.
    and_after (after Marks.Semicolon c) (λ rest. Some (n, rest)))))

abbrev pub has_declarator : List InitDeclaratorTree → Bool
has_declarator [] = false
has_declarator (d ∷ declarators) = true

abbrev pub first_by : List Name → ℕ → Bool → List Token → Option (ForFirstTree × List Token)
first_by types allowed true ts =
    then_read (local_declaration types allowed ts)
    (λ d rest. cond (has_declarator d.declarators) (Some (by_declaration d, rest)) None)
first_by types allowed false ts = then_read (closed types allowed ts) (λ t rest. Some (by_expression t, rest))

-- what a `for` does first, and the `;`
unfoldable pub first : List Name → ℕ → List Token → Option (ForFirstTree × List Token)
first types allowed ts = first_by types allowed (begins_type types ts) ts

-- the three parts of a `for` between its parentheses
unfoldable pub for_head : List Name → ℕ → List Token → Option ((ForFirstTree × Option Tree × Option Tree) × List Token)
for_head types allowed ts = and_after (after Marks.OpenParenthesis ts) (λ a.
    then_read (first types allowed a) (λ start b.
    then_read (closed types allowed b) (λ test c.
    then_read (until types allowed 0 Marks.CloseParenthesis c) (λ step rest. Some ((start, test, step), rest)))))

-- the reading of a statement
abbrev pub Step : Type 0
Step = List Token → Option (StatementTree × List Token)

abbrev pub part_by : List Name → ℕ → Step → Bool → List Token → Option (PartTree × List Token)
part_by types allowed read true ts = then_read (local_declaration types allowed ts) (λ d rest. Some (a_local d, rest))
part_by types allowed read false ts = then_read (read ts) (λ s rest. Some (a_step s, rest))

-- a part of a block
unfoldable pub part : List Name → ℕ → Step → List Token → Option (PartTree × List Token)
part types allowed read ts = part_by types allowed read (begins_type types ts) ts

-- the parts of a block behind its `{`, and the `}`
unfoldable pub parts : List Name → ℕ → Step → List Token → Option (PartTrees × List Token)
parts types allowed read ts =
    then_read (until_brace (part types allowed read) (length ts) [] ts) (λ found rest. Some (as_parts found, rest))

abbrev pub block_by : List Name → ℕ → Step → List Token → Option (PartTrees × List Token)
block_by types allowed read ts = and_after (after Marks.OpenBrace ts) (λ a. parts types allowed read a)

abbrev pub labelled : List Name → ℕ → Place → List Token → Option (CaseTree × List Token)
labelled types zero place ts = None
labelled types (suc allowed) place ts = then_read (expression types allowed 2 ts) (λ t a.
    and_after (after Marks.Colon a) (λ rest. Some (a_case t place, rest)))

abbrev pub default_label : ℕ → Place → List Token → Option (CaseTree × List Token)
default_label zero place ts = None
default_label (suc allowed) place ts = and_after (after Marks.Colon ts) (λ rest. Some (a_default place, rest))

abbrev pub case_step : Step → List Token → Option (CaseTree × List Token)
case_step read ts = then_read (read ts) (λ s rest. Some (a_case_step s, rest))

abbrev pub case_word : List Name → ℕ → Step → Word → Place → List Token → List Token → Option (CaseTree × List Token)
case_word types allowed read Words.Case place ts whole = labelled types allowed place ts
case_word types allowed read Words.Default place ts whole = default_label allowed place ts
case_word types allowed read _ place ts whole = case_step read whole

abbrev pub case_shape : List Name → ℕ → Step → Shape → Place → List Token → List Token → Option (CaseTree × List Token)
case_shape types allowed read (Shapes.Word w) place ts whole = case_word types allowed read w place ts whole
case_shape types allowed read _ place ts whole = case_step read whole

-- a part of the block of a `switch`
unfoldable pub case_part : List Name → ℕ → Step → List Token → Option (CaseTree × List Token)
case_part types allowed read [] = None
case_part types allowed read (t ∷ ts) = case_shape types allowed read t.shape t.place ts (t ∷ ts)

abbrev pub else_by : Tree → StatementTree → Step → Option (List Token) → List Token
    → Option (StatementTree × List Token)
else_by c s read None ts = Some (an_if c s, ts)
else_by c s read (Some a) ts = then_read (read a) (λ r rest. Some (an_if_else c s r, rest))

-- after `if`
unfoldable pub if_form : List Name → ℕ → Step → List Token → Option (StatementTree × List Token)
if_form types allowed read ts = then_read (in_parentheses types allowed ts) (λ c a.
    then_read (read a) (λ s b. else_by c s read (after_word Keywords.Else b) b))

-- after `while`
unfoldable pub while_form : List Name → ℕ → Step → List Token → Option (StatementTree × List Token)
while_form types allowed read ts = then_read (in_parentheses types allowed ts) (λ c a.
    then_read (read a) (λ s rest. Some (a_while c s, rest)))

-- after `do`
unfoldable pub do_form : List Name → ℕ → Step → List Token → Option (StatementTree × List Token)
do_form types allowed read ts = then_read (read ts) (λ s a.
    and_after (after_word Keywords.While a) (λ b.
    then_read (in_parentheses types allowed b) (λ c d.
    and_after (after Marks.Semicolon d) (λ rest. Some (a_do s c, rest)))))

-- after `for`
unfoldable pub for_form : List Name → ℕ → Step → List Token → Option (StatementTree × List Token)
for_form types allowed read ts = then_read (for_head types allowed ts) (λ head a.
    then_read (read a) (λ s rest. Some (a_for head.0 head.1 head.2 s, rest)))

-- after `switch`
unfoldable pub switch_form : List Name → ℕ → Step → List Token → Option (StatementTree × List Token)
switch_form types allowed read ts = then_read (in_parentheses types allowed ts) (λ t a.
    and_after (after Marks.OpenBrace a) (λ b.
    then_read (until_brace (case_part types allowed read) (length b) [] b)
    (λ found rest. Some (a_switch t (as_cases found), rest))))

-- after a word that a `;` follows
abbrev pub word_and_semicolon : StatementTree → List Token → Option (StatementTree × List Token)
word_and_semicolon s ts = and_after (after Marks.Semicolon ts) (λ rest. Some (s, rest))

-- after `return`
unfoldable pub return_form : List Name → ℕ → Place → List Token → Option (StatementTree × List Token)
return_form types allowed place ts = then_read (closed types allowed ts) (λ t rest. Some (a_return t place, rest))

-- after `__lock`, after `__unlock`
unfoldable pub lock_form : List Name → Place → List Token → Option (StatementTree × List Token)
lock_form types place ts = then_read (mutex_in types ts) (λ n rest. Some (a_lock n.0 n.1 place, rest))

unfoldable pub unlock_form : List Name → Place → List Token → Option (StatementTree × List Token)
unlock_form types place ts = then_read (mutex_in types ts) (λ n rest. Some (an_unlock n.0 n.1 place, rest))

-- after `__yield`
unfoldable pub yield_form : Place → List Token → Option (StatementTree × List Token)
yield_form place ts = and_after (after Marks.OpenParenthesis ts) (λ a.
    and_after (after Marks.CloseParenthesis a) (λ b. word_and_semicolon (a_yield place) b))

-- an expression statement
unfoldable pub value_form : List Name → ℕ → List Token → Option (StatementTree × List Token)
value_form types allowed ts = then_read (closed types allowed ts) (λ t rest. Some (a_value t, rest))

abbrev pub statement_word : List Name → ℕ → Step → Word → Place → List Token → List Token
    → Option (StatementTree × List Token)
statement_word types allowed read Words.If place ts whole = if_form types allowed read ts
statement_word types allowed read Words.While place ts whole = while_form types allowed read ts
statement_word types allowed read Words.Do place ts whole = do_form types allowed read ts
statement_word types allowed read Words.For place ts whole = for_form types allowed read ts
statement_word types allowed read Words.Switch place ts whole = switch_form types allowed read ts
statement_word types allowed read Words.Break place ts whole = word_and_semicolon (a_break place) ts
statement_word types allowed read Words.Continue place ts whole = word_and_semicolon (a_continue place) ts
statement_word types allowed read Words.Return place ts whole = return_form types allowed place ts
statement_word types allowed read Words.Lock place ts whole = lock_form types place ts
statement_word types allowed read Words.Unlock place ts whole = unlock_form types place ts
statement_word types allowed read Words.Yield place ts whole = yield_form place ts
statement_word types allowed read _ place ts whole = value_form types allowed whole

-- a statement that is a block, of which the parts are read within one node less
abbrev pub block_form : (List Token → Option (PartTrees × List Token)) → List Token
    → Option (StatementTree × List Token)
block_form read ts = then_read (read ts) (λ found rest. Some (a_block found, rest))

abbrev pub statement_sign : List Name → ℕ → (List Token → Option (PartTrees × List Token)) → Sign → List Token
    → List Token → Option (StatementTree × List Token)
statement_sign types allowed read Signs.OpenBrace ts whole = block_form read ts
statement_sign types allowed read _ ts whole = value_form types allowed whole

abbrev pub statement_shape : List Name → ℕ → Step → (List Token → Option (PartTrees × List Token)) → Shape → Place
    → List Token → List Token → Option (StatementTree × List Token)
statement_shape types allowed read inside (Shapes.Word w) place ts whole =
    statement_word types allowed read w place ts whole
statement_shape types allowed read inside (Shapes.Sign sign) place ts whole =
    statement_sign types allowed inside sign ts whole
statement_shape types allowed read inside _ place ts whole = value_form types allowed whole

abbrev pub statement_by : List Name → ℕ → Step → (List Token → Option (PartTrees × List Token)) → List Token
    → Option (StatementTree × List Token)
statement_by types allowed read inside [] = None
statement_by types allowed read inside (t ∷ ts) = statement_shape types allowed read inside t.shape t.place ts (t ∷ ts)

unfoldable mutual
  pub statement : List Name → ℕ → Step
  statement types zero ts = None
  statement types (suc allowed) ts = statement_by types allowed (statement types allowed) (inside types allowed) ts

  -- the parts of a block behind its `{`, and the `}`; the block is a node
  pub inside : List Name → ℕ → List Token → Option (PartTrees × List Token)
  inside types zero ts = None
  inside types (suc allowed) ts = parts types allowed (statement types allowed) ts

-- a block
unfoldable pub block : List Name → ℕ → List Token → Option (PartTrees × List Token)
block types allowed ts = and_after (after Marks.OpenBrace ts) (λ a. inside types allowed a)

-- ## Functions

-- `void` alone, and the `)`
unfoldable pub only_void_at : List Token → Option (List Token)
only_void_at ts = and_after (after_word Keywords.Void ts) (λ a. after Marks.CloseParenthesis a)

abbrev pub declares_by : Shape → Bool
declares_by (Shapes.Name n) = true
declares_by (Shapes.Sign Signs.OpenParenthesis) = true
declares_by _ = false

-- behind a pointer part: a name or a declarator in parentheses follows
abbrev pub declares : List Token → Bool
declares [] = false
declares (t ∷ ts) = declares_by t.shape

abbrev pub parameter_by : List Name → ℕ → List SpecifierTree → List PointerWord → Bool → List Token
    → Option (ParameterTree × List Token)
parameter_by types allowed found words true ts =
    then_read (declarator_after false types allowed words ts)
    (λ d rest. Some (a_named_parameter (as_specifiers found) d, rest))
parameter_by types allowed found words false ts = Some (an_unnamed_parameter (as_specifiers found) words, ts)

-- a parameter whose specifiers were read
unfoldable pub parameter_after : List Name → ℕ → List SpecifierTree → List Token → Option (ParameterTree × List Token)
parameter_after types allowed found ts = cond (is_type_name_list (count_as (as_specifiers found)))
    (parameter_by types allowed found (pointers ts).0 (declares (pointers ts).1) (pointers ts).1) None

unfoldable pub parameter : List Name → ℕ → List Token → Option (ParameterTree × List Token)
parameter types zero ts = None
parameter types (suc allowed) ts =
    then_read (specifiers types allowed ts) (λ found rest. parameter_after types allowed found rest)

abbrev pub list_by : List Name → ℕ → Option (List Token) → List Token → Option (ParametersTree × List Token)
list_by types allowed (Some rest) ts = Some (some_parameters [], rest)
list_by types allowed None ts = then_read (one_or_more (parameter types allowed) ts) (λ found a.
    and_after (after Marks.CloseParenthesis a) (λ rest. Some (some_parameters found, rest)))

abbrev pub parameters_by : List Name → ℕ → Option (List Token) → List Token → Option (ParametersTree × List Token)
parameters_by types allowed (Some rest) ts = Some (only_void, rest)
parameters_by types allowed None ts = list_by types allowed (after Marks.CloseParenthesis ts) ts

-- the parameters behind the `(`, and the `)`
unfoldable pub parameters : List Name → ℕ → List Token → Option (ParametersTree × List Token)
parameters types allowed ts = parameters_by types allowed (only_void_at ts) ts

abbrev pub function_body_by : List Name → ℕ → Option (List Token) → List Token → Option (Option PartTrees × List Token)
function_body_by types allowed (Some rest) ts = Some (None, rest)
function_body_by types allowed None ts = then_read (block types allowed ts) (λ found rest. Some (Some found, rest))

-- a body, or a `;`
unfoldable pub function_body : List Name → ℕ → List Token → Option (Option PartTrees × List Token)
function_body types allowed ts = function_body_by types allowed (after Marks.Semicolon ts) ts

-- the name of a function and its `(`
unfoldable pub function_name : List Name → List Token → Option ((Name × Place) × List Token)
function_name types ts =
    then_read (declared_at false types ts) (λ n a. and_after (after Marks.OpenParenthesis a) (λ rest. Some (n, rest)))

-- the names of typedefs behind a function's parameters
abbrev pub behind_function : List Name → List SpecifierTree → Name → List Name
behind_function types found n = with_declared (is_typedef_list (count_as (as_specifiers found))) types n

-- a function behind its `(`
unfoldable pub function_after : List Name → ℕ → List SpecifierTree → List PointerWord → Name → Place → List Token
    → Option ((ItemTree × List Name) × List Token)
function_after types allowed found words n place ts = then_read (parameters types allowed ts) (λ ps a.
    then_read (function_body (behind_function types found n) allowed a) (λ body rest.
    Some (
      (
        a_function (record {
          specifiers = as_specifiers found;
          pointers = words;
          name = n;
          parameters = ps;
          body = body;
          place = place;
        }),
        behind_function types found n,
      ),
      rest,
    )))

-- ## Files

-- declarators behind the first pointer part
abbrev pub declared_by : List Name → ℕ → List SpecifierTree → List PointerWord → List Token
    → Option ((ItemTree × List Name) × List Token)
declared_by types allowed found words ts =
    then_read (file_declarators types allowed (is_typedef_list (count_as (as_specifiers found))) words ts) (λ x rest.
    Some ((a_declaration (record { specifiers = as_specifiers found; declarators = x.0 }), x.1), rest))

abbrev pub function_by : List Name → ℕ → List SpecifierTree → List PointerWord → Option ((Name × Place) × List Token)
    → List Token → Option ((ItemTree × List Name) × List Token)
function_by types allowed found words (Some x) ts = function_after types allowed found words x.0.0 x.0.1 x.1
function_by types allowed found words None ts = declared_by types allowed found words ts

-- a declaration or a function behind its specifiers and the first pointer part
unfoldable pub behind_pointers : List Name → ℕ → List SpecifierTree → List PointerWord → List Token
    → Option ((ItemTree × List Name) × List Token)
behind_pointers types allowed found words ts = function_by types allowed found words (function_name types ts) ts

abbrev pub undeclared_by : List Name → ℕ → List SpecifierTree → Option (List Token) → List Token
    → Option ((ItemTree × List Name) × List Token)
undeclared_by types allowed found (Some rest) ts =
    Some ((a_declaration (record { specifiers = as_specifiers found; declarators = [] }), types), rest)
undeclared_by types allowed found None ts = behind_pointers types allowed found (pointers ts).0 (pointers ts).1

-- a declaration or a function behind its specifiers
unfoldable pub behind_specifiers : List Name → ℕ → List SpecifierTree → List Token
    → Option ((ItemTree × List Name) × List Token)
behind_specifiers types allowed found ts = cond (is_file_list (count_as (as_specifiers found)))
    (undeclared_by types allowed found (after Marks.Semicolon ts) ts) None

-- a declaration or a function
unfoldable pub declared_item : List Name → ℕ → List Token → Option ((ItemTree × List Name) × List Token)
declared_item types allowed ts =
    then_read (specifiers types allowed ts) (λ found rest. behind_specifiers types allowed found rest)

-- after `__mutex`
unfoldable pub mutex_item : List Name → List Token → Option ((ItemTree × List Name) × List Token)
mutex_item types ts = then_read (declared_at false types ts) (λ n a.
    and_after (after Marks.Semicolon a) (λ rest. Some ((a_mutex n.0 n.1, types), rest)))

-- `void`, the name of a task, and `(void)`
unfoldable pub task_head : List Name → List Token → Option ((Name × Place) × List Token)
task_head types ts = and_after (after_word Keywords.Void ts) (λ a.
    then_read (declared_at false types a) (λ n b.
    and_after (after Marks.OpenParenthesis b) (λ c.
    and_after (only_void_at c) (λ rest. Some (n, rest)))))

-- after `__task`
unfoldable pub task_item : List Name → ℕ → Place → List Token → Option ((ItemTree × List Name) × List Token)
task_item types allowed place ts = and_after (after Marks.OpenParenthesis ts) (λ a.
    then_read (expression types allowed 2 a) (λ t b.
    and_after (after Marks.CloseParenthesis b) (λ c.
    then_read (task_head types c) (λ n d.
    then_read (block types allowed d) (λ found rest. Some ((a_task t n.0 n.1 found place, types), rest))))))

abbrev pub item_word : List Name → ℕ → Word → Place → List Token → List Token
    → Option ((ItemTree × List Name) × List Token)
item_word types allowed Words.Mutex place ts whole = mutex_item types ts
item_word types allowed Words.Task place ts whole = task_item types allowed place ts
item_word types allowed _ place ts whole = declared_item types allowed whole

abbrev pub item_sign : List Name → ℕ → Sign → List Token → List Token → Option ((ItemTree × List Name) × List Token)
item_sign types allowed Signs.Semicolon ts whole = Some ((an_empty_item, types), ts)
item_sign types allowed _ ts whole = declared_item types allowed whole

abbrev pub item_shape : List Name → ℕ → Shape → Place → List Token → List Token
    → Option ((ItemTree × List Name) × List Token)
item_shape types allowed (Shapes.Word w) place ts whole = item_word types allowed w place ts whole
item_shape types allowed (Shapes.Sign sign) place ts whole = item_sign types allowed sign ts whole
item_shape types allowed _ place ts whole = declared_item types allowed whole

-- one part of a file, whose parts have at most the allowed height, and the names of typedefs behind it
unfoldable pub item : List Name → ℕ → List Token → Option ((ItemTree × List Name) × List Token)
item types allowed [] = None
item types allowed (t ∷ ts) = item_shape types allowed t.shape t.place ts (t ∷ ts)

abbrev pub is_end : List Token → Bool
is_end [] = true
is_end (t ∷ ts) = false

-- behind those read so far the further items up to the end, at most n
unfoldable pub items_from : ℕ → ℕ → List Name → List ItemTree → List Token → Option (List ItemTree)
items_from allowed zero types found ts = cond (is_end ts) (Some found) None
items_from allowed (suc n) types found ts = cond (is_end ts) (Some found)
    (then_read (item types allowed ts) (λ x rest. items_from allowed n x.1 (found ++ x.0 ∷ []) rest))

-- a whole file of height at most 500: the file and each item are nodes
abbrev pub file : List Token → Option (List ItemTree)
file ts = items_from 498 (length ts) [] [] ts
