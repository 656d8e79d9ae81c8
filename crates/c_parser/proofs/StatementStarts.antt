-- What the first token of a statement can be, and that each is at least one token.
use Rattle.std.proofs.Common.{◌≡◌, ℕ, ◌<◌, ◌≤◌, Bool, true, false, List, ◌∷◌, length, Option, Some, None, refl, sym, ap, ◌∙◌, arith}
use Rattle.tm_terms.specs.declared.places.Place.{Place}
use Rattle.tm_terms.specs.declared.tokens.Name.{Name}
use Rattle.tm_terms.specs.declared.tokens.Word.{Word}
use Rattle.tm_terms.specs.declared.tokens.Word.TheVariants as Words
use Rattle.tm_terms.specs.declared.tokens.Sign.{Sign}
use Rattle.tm_terms.specs.declared.tokens.Sign.TheVariants as Signs
use Rattle.tm_terms.specs.declared.tokens.Shape.{Shape}
use Rattle.tm_terms.specs.declared.tokens.Shape.TheVariants as Shapes
use Rattle.tm_terms.specs.declared.tokens.Token.{Token}
use Rattle.tm_terms.specs.declared.exprs.Prefix.{Prefix}
use Rattle.tm_terms.specs.ExprTrees.{Tree}
use Rattle.tm_terms.specs.ExprSpelling.{Begins, prefix_of}
use Rattle.c_expr_parser.specs.declared.marks.Mark.TheVariants as Marks
use Rattle.c_expr_parser.specs.reading.Parts.{after, begins_type}
use Rattle.c_expr_parser.proofs.Tokens.{false_true, none_some, begins_shorter}
use Rattle.c_expr_parser.proofs.Sound.{shorter, by_shorter}
use Rattle.c_expr_parser.proofs.FirstTokens.{Starts, by_name, by_integer, by_character, by_sizeof}
use Rattle.c_expr_parser.proofs.FirstTokens.{by_input, by_islocked, by_parenthesis, by_operator}
use Rattle.c_expr_parser.proofs.FirstTokens.{started}
use Rattle.tm_trees.specs.DeclarationSpelling.{ByWord, SpellsOptional}
use Rattle.tm_trees.specs.FileTrees.{ForFirstTree, by_expression, by_declaration, StatementTree, a_block}
use Rattle.tm_trees.specs.FileTrees.{a_value, an_if, an_if_else, a_while, a_do, a_for, a_switch, a_break}
use Rattle.tm_trees.specs.FileTrees.{a_continue, a_return, a_lock, an_unlock, a_yield, PartTree, a_local}
use Rattle.tm_trees.specs.FileTrees.{a_step, PartTrees, no_parts, and_part, CaseTree, a_case, a_default}
use Rattle.tm_trees.specs.FileTrees.{a_case_step, CaseTrees, no_cases, and_case}
use Rattle.tm_trees.specs.FileSpelling.{SpellsInParentheses, SpellsClosed, SpellsMutex, SpellsFirst}
use Rattle.tm_trees.specs.FileSpelling.{SpellsStatement, SpellsPart, SpellsParts, SpellsCase, SpellsCases}
use Rattle.c_parser.specs.reading.FileDescent.{Step, case_step, case_word, case_shape, case_part, value_form, statement_shape, statement_by}
use Rattle.c_decl_parser.proofs.SpecifierStarts.{type_no_mark}
use Rattle.c_decl_parser.proofs.DeclarationReading.{local_declaration_begins, local_declaration_shorter}

-- ## First tokens

-- the words that statements begin with
abbrev pub opens_statement : Word → Bool
opens_statement Words.If = true
opens_statement Words.While = true
opens_statement Words.Do = true
opens_statement Words.For = true
opens_statement Words.Switch = true
opens_statement Words.Break = true
opens_statement Words.Continue = true
opens_statement Words.Return = true
opens_statement Words.Lock = true
opens_statement Words.Unlock = true
opens_statement Words.Yield = true
opens_statement _ = false

-- a shape that a statement can begin with
pub data Leads (types : List Name) : Shape → Type 0 where
  by_value : {shape : Shape} → Starts types shape → Leads types shape
  by_semicolon : Leads types (Shapes.Sign Signs.Semicolon)
  by_brace : Leads types (Shapes.Sign Signs.OpenBrace)
  by_word : {w : Word} → opens_statement w ≡ true → Leads types (Shapes.Word w)

abbrev pub Led : List Name → List Token → Type 0
Led types ts = (shape : Shape) × (p : Place) × (b : List Token) × Begins shape p ts b × Leads types shape

closed_led : (types : List Name) (t : Option Tree) (ts rest : List Token) → SpellsClosed types t ts rest → Led types ts
closed_led types None ts rest s = (Shapes.Sign Signs.Semicolon, s.2.0, rest, s.1 ∙ s.2.1, by_semicolon)
closed_led types (Some t) ts rest s = let a = started types t ts s.0 s.1.0 in (a.0, a.1, a.2, a.3, by_value a.4)

pub led : (types : List Name) (s : StatementTree) (ts rest : List Token) → SpellsStatement types s ts rest → Led types ts
led types (a_block parts) ts rest s = (Shapes.Sign Signs.OpenBrace, s.1.0, s.0, s.1.1, by_brace)
led types (a_value t) ts rest s = closed_led types t ts rest s
led types (an_if c t) ts rest s = (Shapes.Word Words.If, s.2.0, s.0, s.2.1, by_word refl)
led types (an_if_else c t r) ts rest s = (Shapes.Word Words.If, s.4.0, s.0, s.4.1, by_word refl)
led types (a_while c t) ts rest s = (Shapes.Word Words.While, s.2.0, s.0, s.2.1, by_word refl)
led types (a_do t c) ts rest s = (Shapes.Word Words.Do, s.4.0, s.0, s.4.1, by_word refl)
led types (a_for first c step t) ts rest s = (Shapes.Word Words.For, s.6.0, s.0, s.6.1, by_word refl)
led types (a_switch t cases) ts rest s = (Shapes.Word Words.Switch, s.3.0, s.0, s.3.1, by_word refl)
led types (a_break p) ts rest s = (Shapes.Word Words.Break, p, s.0, s.1, by_word refl)
led types (a_continue p) ts rest s = (Shapes.Word Words.Continue, p, s.0, s.1, by_word refl)
led types (a_return t p) ts rest s = (Shapes.Word Words.Return, p, s.0, s.1, by_word refl)
led types (a_lock n q p) ts rest s = (Shapes.Word Words.Lock, p, s.0, s.1, by_word refl)
led types (an_unlock n q p) ts rest s = (Shapes.Word Words.Unlock, p, s.0, s.1, by_word refl)
led types (a_yield p) ts rest s = (Shapes.Word Words.Yield, p, s.0, s.3, by_word refl)

-- an expression begins no block
starts_value : (types : List Name) (h : ℕ) (read : Step) (within : _) (shape : Shape) (p : Place) (b : List Token) → Starts types shape → statement_shape types h read within shape p b ((record { shape = shape; place = p }) ∷ b) ≡ value_form types h ((record { shape = shape; place = p }) ∷ b)
starts_value types h read within _ p b (by_name e) = refl
starts_value types h read within _ p b by_integer = refl
starts_value types h read within _ p b by_character = refl
starts_value types h read within _ p b by_sizeof = refl
starts_value types h read within _ p b by_input = refl
starts_value types h read within _ p b by_islocked = refl
starts_value types h read within _ p b by_parenthesis = refl
starts_value types h read within _ p b (by_operator {sign} op e) = go sign op e
  where
    go : (sign : Sign) (op : Prefix) → prefix_of sign ≡ Some op → statement_shape types h read within (Shapes.Sign sign) p b ((record { shape = Shapes.Sign sign; place = p }) ∷ b) ≡ value_form types h ((record { shape = Shapes.Sign sign; place = p }) ∷ b)
    go Signs.OpenBrace op e = none_some e
    go _ op e = refl

pub value_is : (types : List Name) (h : ℕ) (read : Step) (within : _) (t : Option Tree) (ts rest : List Token) → SpellsClosed types t ts rest → statement_by types h read within ts ≡ value_form types h ts
value_is types h read within None ts rest s =
    ap (statement_by types h read within) (s.1 ∙ s.2.1) ∙ ap (value_form types h) (sym (s.1 ∙ s.2.1))
value_is types h read within (Some t) ts rest s =
    let a = started types t ts s.0 s.1.0 in
    ap (statement_by types h read within) a.3 ∙ starts_value types h read within a.0 a.1 a.2 a.4 ∙ ap (value_form types h) (sym a.3)

leads_no_type : (types : List Name) (shape : Shape) (p : Place) (b : List Token) → Leads types shape → begins_type types ((record { shape = shape; place = p }) ∷ b) ≡ false
leads_no_type types _ p b (by_value (by_name e)) = e
leads_no_type types _ p b (by_value by_integer) = refl
leads_no_type types _ p b (by_value by_character) = refl
leads_no_type types _ p b (by_value by_sizeof) = refl
leads_no_type types _ p b (by_value by_input) = refl
leads_no_type types _ p b (by_value by_islocked) = refl
leads_no_type types _ p b (by_value by_parenthesis) = refl
leads_no_type types _ p b (by_value (by_operator op e)) = refl
leads_no_type types _ p b by_semicolon = refl
leads_no_type types _ p b by_brace = refl
leads_no_type types _ p b (by_word {w} e) = go w e
  where
    go : (w : Word) → opens_statement w ≡ true → begins_type types ((record { shape = Shapes.Word w; place = p }) ∷ b) ≡ false
    go Words.If e = refl
    go Words.While e = refl
    go Words.Do e = refl
    go Words.For e = refl
    go Words.Switch e = refl
    go Words.Break e = refl
    go Words.Continue e = refl
    go Words.Return e = refl
    go Words.Lock e = refl
    go Words.Unlock e = refl
    go Words.Yield e = refl
    go _ e = false_true e

-- a statement begins no declaration
pub statement_no_type : (types : List Name) (s : StatementTree) (ts rest : List Token) → SpellsStatement types s ts rest → begins_type types ts ≡ false
statement_no_type types s ts rest r =
    let a = led types s ts rest r in ap (begins_type types) a.3 ∙ leads_no_type types a.0 a.1 a.2 a.4

leads_no_end : (types : List Name) (shape : Shape) (p : Place) (b : List Token) → Leads types shape → after Marks.CloseBrace ((record { shape = shape; place = p }) ∷ b) ≡ None
leads_no_end types _ p b (by_value (by_name e)) = refl
leads_no_end types _ p b (by_value by_integer) = refl
leads_no_end types _ p b (by_value by_character) = refl
leads_no_end types _ p b (by_value by_sizeof) = refl
leads_no_end types _ p b (by_value by_input) = refl
leads_no_end types _ p b (by_value by_islocked) = refl
leads_no_end types _ p b (by_value by_parenthesis) = refl
leads_no_end types _ p b (by_value (by_operator {sign} op e)) = go sign op e
  where
    go : (sign : Sign) (op : Prefix) → prefix_of sign ≡ Some op → after Marks.CloseBrace ((record { shape = Shapes.Sign sign; place = p }) ∷ b) ≡ None
    go Signs.CloseBrace op e = none_some e
    go _ op e = refl
leads_no_end types _ p b by_semicolon = refl
leads_no_end types _ p b by_brace = refl
leads_no_end types _ p b (by_word e) = refl

-- nor ends one a block
statement_no_end : (types : List Name) (s : StatementTree) (ts rest : List Token) → SpellsStatement types s ts rest → after Marks.CloseBrace ts ≡ None
statement_no_end types s ts rest r =
    let a = led types s ts rest r in ap (after Marks.CloseBrace) a.3 ∙ leads_no_end types a.0 a.1 a.2 a.4

pub part_no_end : (types : List Name) (part : PartTree) (ts rest : List Token) → SpellsPart types part ts rest → after Marks.CloseBrace ts ≡ None
part_no_end types (a_local d) ts rest s = type_no_mark types Marks.CloseBrace ts (local_declaration_begins types d ts rest s)
part_no_end types (a_step t) ts rest s = statement_no_end types t ts rest s

pub case_no_end : (types : List Name) (part : CaseTree) (ts rest : List Token) → SpellsCase types part ts rest → after Marks.CloseBrace ts ≡ None
case_no_end types (a_case t p) ts rest s = ap (after Marks.CloseBrace) s.2
case_no_end types (a_default p) ts rest s = ap (after Marks.CloseBrace) s.1
case_no_end types (a_case_step t) ts rest s = statement_no_end types t ts rest s

leads_no_label : (types : List Name) (h : ℕ) (read : Step) (shape : Shape) (p : Place) (b : List Token) → Leads types shape → case_shape types h read shape p b ((record { shape = shape; place = p }) ∷ b) ≡ case_step read ((record { shape = shape; place = p }) ∷ b)
leads_no_label types h read _ p b (by_value (by_name e)) = refl
leads_no_label types h read _ p b (by_value by_integer) = refl
leads_no_label types h read _ p b (by_value by_character) = refl
leads_no_label types h read _ p b (by_value by_sizeof) = refl
leads_no_label types h read _ p b (by_value by_input) = refl
leads_no_label types h read _ p b (by_value by_islocked) = refl
leads_no_label types h read _ p b (by_value by_parenthesis) = refl
leads_no_label types h read _ p b (by_value (by_operator op e)) = refl
leads_no_label types h read _ p b by_semicolon = refl
leads_no_label types h read _ p b by_brace = refl
leads_no_label types h read _ p b (by_word {w} e) = go w e
  where
    go : (w : Word) → opens_statement w ≡ true → case_word types h read w p b ((record { shape = Shapes.Word w; place = p }) ∷ b) ≡ case_step read ((record { shape = Shapes.Word w; place = p }) ∷ b)
    go Words.Case e = false_true e
    go Words.Default e = false_true e
    go _ e = refl

-- a statement is no label
pub statement_no_label : (types : List Name) (h : ℕ) (read : Step) (s : StatementTree) (ts rest : List Token) → SpellsStatement types s ts rest → case_part types h read ts ≡ case_step read ts
unfolding case_part
statement_no_label types h read s ts rest r =
    let a = led types s ts rest r in ap (case_part types h read) a.3 ∙ leads_no_label types h read a.0 a.1 a.2 a.4 ∙ ap (case_step read) (sym a.3)

-- ## Lengths

pub word_shorter : (w : Word) (ts rest : List Token) → ByWord w ts rest → length rest < length ts
word_shorter w ts rest s = begins_shorter (Shapes.Word w) s.0 ts rest s.1

optional_shorter : (types : List Name) (at : ℕ) (t : Option Tree) (ts rest : List Token) → SpellsOptional types at t ts rest → length rest ≤ length ts
optional_shorter types at None ts rest s = let n : length ts ≡ length rest = ap length s in omega arith
optional_shorter types at (Some t) ts rest s = omega (arith, shorter types t ts rest s.0)

closed_shorter : (types : List Name) (t : Option Tree) (ts rest : List Token) → SpellsClosed types t ts rest → length rest < length ts
closed_shorter types t ts rest s = omega (arith, optional_shorter types 0 t ts s.0 s.1, by_shorter Signs.Semicolon s.0 rest s.2)

parenthesised_shorter : (types : List Name) (t : Tree) (ts rest : List Token) → SpellsInParentheses types t ts rest → length rest < length ts
parenthesised_shorter types t ts rest s =
    omega (arith, by_shorter Signs.OpenParenthesis ts s.0 s.2, shorter types t s.0 s.1 s.3, by_shorter Signs.CloseParenthesis s.1 rest s.4)

mutex_shorter : (types : List Name) (n : Name) (p : Place) (ts rest : List Token) → SpellsMutex types n p ts rest → length rest < length ts
mutex_shorter types n p ts rest s =
    omega (arith, by_shorter Signs.OpenParenthesis ts s.0 s.3, begins_shorter (Shapes.Name n) p s.0 s.1 s.4.1, by_shorter Signs.CloseParenthesis s.1 s.2 s.5, by_shorter Signs.Semicolon s.2 rest s.6)

first_shorter : (types : List Name) (first : ForFirstTree) (ts rest : List Token) → SpellsFirst types first ts rest → length rest < length ts
first_shorter types (by_expression t) ts rest s = closed_shorter types t ts rest s
first_shorter types (by_declaration d) ts rest s = local_declaration_shorter types d ts rest s.0

mutual
  pub statement_shorter : (types : List Name) (s : StatementTree) (ts rest : List Token) → SpellsStatement types s ts rest → length rest < length ts
  statement_shorter types (a_block parts) ts rest s = omega (arith, by_shorter Signs.OpenBrace ts s.0 s.1, parts_shorter types parts s.0 rest s.2)
  statement_shorter types (a_value t) ts rest s = closed_shorter types t ts rest s
  statement_shorter types (an_if c t) ts rest s =
      omega (arith, word_shorter Words.If ts s.0 s.2, parenthesised_shorter types c s.0 s.1 s.3, statement_shorter types t s.1 rest s.4)
  statement_shorter types (an_if_else c t r) ts rest s =
      omega (arith, word_shorter Words.If ts s.0 s.4, parenthesised_shorter types c s.0 s.1 s.5, statement_shorter types t s.1 s.2 s.6, word_shorter Words.Else s.2 s.3 s.7, statement_shorter types r s.3 rest s.8)
  statement_shorter types (a_while c t) ts rest s =
      omega (arith, word_shorter Words.While ts s.0 s.2, parenthesised_shorter types c s.0 s.1 s.3, statement_shorter types t s.1 rest s.4)
  statement_shorter types (a_do t c) ts rest s =
      omega (arith, word_shorter Words.Do ts s.0 s.4, statement_shorter types t s.0 s.1 s.5, word_shorter Words.While s.1 s.2 s.6, parenthesised_shorter types c s.2 s.3 s.7, by_shorter Signs.Semicolon s.3 rest s.8)
  statement_shorter types (a_for first c step t) ts rest s =
      omega (arith, word_shorter Words.For ts s.0 s.6, by_shorter Signs.OpenParenthesis s.0 s.1 s.7, first_shorter types first s.1 s.2 s.8, closed_shorter types c s.2 s.3 s.9, optional_shorter types 0 step s.3 s.4 s.10, by_shorter Signs.CloseParenthesis s.4 s.5 s.11, statement_shorter types t s.5 rest s.12)
  statement_shorter types (a_switch t cases) ts rest s =
      omega (arith, word_shorter Words.Switch ts s.0 s.3, parenthesised_shorter types t s.0 s.1 s.4, by_shorter Signs.OpenBrace s.1 s.2 s.5, cases_shorter types cases s.2 rest s.6)
  statement_shorter types (a_break p) ts rest s = omega (arith, begins_shorter (Shapes.Word Words.Break) p ts s.0 s.1, by_shorter Signs.Semicolon s.0 rest s.2)
  statement_shorter types (a_continue p) ts rest s = omega (arith, begins_shorter (Shapes.Word Words.Continue) p ts s.0 s.1, by_shorter Signs.Semicolon s.0 rest s.2)
  statement_shorter types (a_return t p) ts rest s = omega (arith, begins_shorter (Shapes.Word Words.Return) p ts s.0 s.1, closed_shorter types t s.0 rest s.2)
  statement_shorter types (a_lock n q p) ts rest s = omega (arith, begins_shorter (Shapes.Word Words.Lock) p ts s.0 s.1, mutex_shorter types n q s.0 rest s.2)
  statement_shorter types (an_unlock n q p) ts rest s = omega (arith, begins_shorter (Shapes.Word Words.Unlock) p ts s.0 s.1, mutex_shorter types n q s.0 rest s.2)
  statement_shorter types (a_yield p) ts rest s =
      omega (arith, begins_shorter (Shapes.Word Words.Yield) p ts s.0 s.3, by_shorter Signs.OpenParenthesis s.0 s.1 s.4, by_shorter Signs.CloseParenthesis s.1 s.2 s.5, by_shorter Signs.Semicolon s.2 rest s.6)

  pub part_shorter : (types : List Name) (part : PartTree) (ts rest : List Token) → SpellsPart types part ts rest → length rest < length ts
  part_shorter types (a_local d) ts rest s = local_declaration_shorter types d ts rest s
  part_shorter types (a_step t) ts rest s = statement_shorter types t ts rest s

  pub parts_shorter : (types : List Name) (parts : PartTrees) (ts rest : List Token) → SpellsParts types parts ts rest → length rest < length ts
  parts_shorter types no_parts ts rest s = by_shorter Signs.CloseBrace ts rest s
  parts_shorter types (and_part part parts) ts rest s = omega (arith, part_shorter types part ts s.0 s.1, parts_shorter types parts s.0 rest s.2)

  pub case_shorter : (types : List Name) (part : CaseTree) (ts rest : List Token) → SpellsCase types part ts rest → length rest < length ts
  case_shorter types (a_case t p) ts rest s =
      omega (arith, begins_shorter (Shapes.Word Words.Case) p ts s.0 s.2, shorter types t s.0 s.1 s.3.0, by_shorter Signs.Colon s.1 rest s.4)
  case_shorter types (a_default p) ts rest s = omega (arith, begins_shorter (Shapes.Word Words.Default) p ts s.0 s.1, by_shorter Signs.Colon s.0 rest s.2)
  case_shorter types (a_case_step t) ts rest s = statement_shorter types t ts rest s

  cases_shorter : (types : List Name) (cases : CaseTrees) (ts rest : List Token) → SpellsCases types cases ts rest → length rest < length ts
  cases_shorter types no_cases ts rest s = by_shorter Signs.CloseBrace ts rest s
  cases_shorter types (and_case part cases) ts rest s = omega (arith, case_shorter types part ts s.0 s.1, cases_shorter types cases s.0 rest s.2)
