-- Statements and blocks that are spelled, and within the height, are read.
use Rattle.std.proofs.Common.{◌≡◌, ℕ, zero, suc, ◌≤◌, true, false, List, [], ◌∷◌, length, Option, Some, None, refl, ap, ◌∙◌, arith}
use Rattle.tm_terms.specs.declared.places.Place.{Place}
use Rattle.tm_terms.specs.declared.tokens.Name.{Name}
use Rattle.tm_terms.specs.declared.tokens.Word.TheVariants as Words
use Rattle.tm_terms.specs.declared.tokens.Sign.TheVariants as Signs
use Rattle.tm_terms.specs.declared.tokens.Token.{Token}
use Rattle.tm_terms.specs.ExprTrees.{Tree, height}
use Rattle.tm_terms.specs.ExprSpelling.{BySign}
use Rattle.c_expr_parser.specs.declared.marks.Mark.TheVariants as Marks
use Rattle.c_expr_parser.specs.reading.Parts.{begins_type}
use Rattle.c_expr_parser.proofs.Tokens.{after_spelled}
use Rattle.c_expr_parser.proofs.FirstTokens.{no_type}
use Rattle.tm_trees.specs.DeclarationTrees.{InitDeclaratorTree, optional_height}
use Rattle.tm_trees.specs.DeclarationSpelling.{ByWord, SpellsOptional}
use Rattle.tm_trees.specs.FileTrees.{ForFirstTree, by_expression, by_declaration, StatementTree, a_block}
use Rattle.tm_trees.specs.FileTrees.{a_value, an_if, an_if_else, a_while, a_do, a_for, a_switch, a_break}
use Rattle.tm_trees.specs.FileTrees.{a_continue, a_return, a_lock, an_unlock, a_yield, PartTree, a_local}
use Rattle.tm_trees.specs.FileTrees.{a_step, PartTrees, no_parts, and_part, as_parts, CaseTree, a_case}
use Rattle.tm_trees.specs.FileTrees.{a_default, a_case_step, CaseTrees, no_cases, and_case, as_cases}
use Rattle.tm_trees.specs.FileTrees.{first_height, statement_height, part_height, parts_height}
use Rattle.tm_trees.specs.FileTrees.{case_height, cases_height, block_height}
use Rattle.tm_trees.specs.FileSpelling.{SpellsInParentheses, SpellsClosed, SpellsMutex, HasDeclarator}
use Rattle.tm_trees.specs.FileSpelling.{SpellsFirst, SpellsStatement, SpellsPart, SpellsParts, SpellsCase}
use Rattle.tm_trees.specs.FileSpelling.{SpellsCases, SpellsBlock}
use Rattle.c_decl_parser.specs.declared.tokens.Keyword.TheVariants as Keywords
use Rattle.c_decl_parser.specs.reading.Parts.{in_parentheses}
use Rattle.c_parser.specs.reading.FileDescent.{closed, has_declarator, first_by, first, for_head, Step, part_by, part, parts, case_part, else_by, if_form, while_form, do_form, for_form, switch_form, word_and_semicolon, return_form, lock_form, unlock_form, yield_form, value_form, statement_by, statement, inside, block}
use Rattle.c_decl_parser.proofs.MarkReading.{after_word_spelled, mark_stops}
use Rattle.c_decl_parser.proofs.ExpressionReading.{expression_complete, until_complete, in_parentheses_complete}
use Rattle.c_decl_parser.proofs.RepetitionReading.{UntilBrace, until_brace_complete}
use Rattle.c_decl_parser.proofs.DeclarationReading.{local_declaration_complete, local_declaration_begins}
use Rattle.c_parser.proofs.FirstWords.{then_read_is, and_after_is, cond_is, word_none, mutex_spelled}
use Rattle.c_parser.proofs.StatementStarts.{statement_no_type, part_no_end, case_no_end, statement_no_label, value_is, part_shorter, case_shorter}

-- a reading misses no statement within the height
abbrev pub IsCompleteStep : List Name → Step → ℕ → Type 0
IsCompleteStep types read limit = (s : StatementTree) (ts rest : List Token) → SpellsStatement types s ts rest → statement_height s ≤ limit → read ts ≡ Some (s, rest)

abbrev pub IsCompleteInside : List Name → ℕ → (List Token → Option (PartTrees × List Token)) → Type 0
IsCompleteInside types limit read = (parts : PartTrees) (ts rest : List Token) → SpellsParts types parts ts rest → block_height parts ≤ limit → read ts ≡ Some (parts, rest)

-- ## Lists that stand inside a tree

abbrev part_list : PartTrees → List PartTree
part_list no_parts = []
part_list (and_part p more) = p ∷ part_list more

parts_listed : (parts : PartTrees) → as_parts (part_list parts) ≡ parts
parts_listed no_parts = refl
parts_listed (and_part p more) = ap (and_part p) (parts_listed more)

abbrev case_list : CaseTrees → List CaseTree
case_list no_cases = []
case_list (and_case p more) = p ∷ case_list more

cases_listed : (cases : CaseTrees) → as_cases (case_list cases) ≡ cases
cases_listed no_cases = refl
cases_listed (and_case p more) = ap (and_case p) (cases_listed more)

-- ## Expressions and `;`

closed_complete : (types : List Name) (h : ℕ) (t : Option Tree) (ts rest : List Token) → SpellsClosed types t ts rest → optional_height t ≤ h → closed types h ts ≡ Some (t, rest)
closed_complete types h t ts rest s low = until_complete types h 0 Marks.Semicolon t ts s.0 rest refl s.1 s.2 low

parenthesised_complete : (types : List Name) (h : ℕ) (t : Tree) (ts rest : List Token) → SpellsInParentheses types t ts rest → height t ≤ h → in_parentheses types h ts ≡ Some (t, rest)
parenthesised_complete types h t ts rest s low = in_parentheses_complete types h t ts s.0 s.1 rest s.2 s.3 s.4 low

-- nothing but a `;`, or an expression, begins no type
closed_no_type : (types : List Name) (t : Option Tree) (ts rest : List Token) → SpellsClosed types t ts rest → begins_type types ts ≡ false
closed_no_type types None ts rest s = ap (begins_type types) (s.1 ∙ s.2.1)
closed_no_type types (Some t) ts rest s = no_type types t ts s.0 s.1.0

has_declarator_is : (declarators : List InitDeclaratorTree) → HasDeclarator declarators → has_declarator declarators ≡ true
has_declarator_is [] h = absurd h
has_declarator_is (d ∷ declarators) h = refl

first_complete : (types : List Name) (h : ℕ) (f : ForFirstTree) (ts rest : List Token) → SpellsFirst types f ts rest → first_height f ≤ h → first types h ts ≡ Some (f, rest)
unfolding first
first_complete types h (by_expression t) ts rest s low =
    ap (λ b. first_by types h b ts) (closed_no_type types t ts rest s) ∙ then_read_is _ _ _ _ (closed_complete types h t ts rest s low) refl
first_complete types h (by_declaration d) ts rest s low =
    ap (λ b. first_by types h b ts) (local_declaration_begins types d ts rest s.0)
    ∙ then_read_is _ _ _ _ (local_declaration_complete types h d ts rest s.0 low) (cond_is _ _ _ (has_declarator_is _ s.1) refl)

for_head_complete : (types : List Name) (h : ℕ) (f : ForFirstTree) (t u : Option Tree) (ts a b c d rest : List Token) → BySign Signs.OpenParenthesis ts a → SpellsFirst types f a b → SpellsClosed types t b c → SpellsOptional types 0 u c d → BySign Signs.CloseParenthesis d rest → first_height f ≤ h → optional_height t ≤ h → optional_height u ≤ h → for_head types h ts ≡ Some ((f, t, u), rest)
unfolding for_head
for_head_complete types h f t u ts a b c d rest open_is s r q close low low2 low3 =
    and_after_is _ _ _ _ (after_spelled Marks.OpenParenthesis ts a open_is)
    (then_read_is _ _ _ _ (first_complete types h f a b s low)
    (then_read_is _ _ _ _ (closed_complete types h t b c r low2)
    (then_read_is _ _ _ _ (until_complete types h 0 Marks.CloseParenthesis u c d rest refl q close low3) refl)))

-- ## Labels

label_complete : (types : List Name) (h : ℕ) (read : Step) (t : Tree) (p : Place) (ts rest : List Token) → SpellsCase types (a_case t p) ts rest → suc (height t) ≤ h → case_part types h read ts ≡ Some (a_case t p, rest)
unfolding case_part
label_complete types zero read t p ts rest s low = absurd (omega arith)
label_complete types (suc h) read t p ts rest s low =
    ap (case_part types (suc h) read) s.2
    ∙ then_read_is _ _ _ _ (expression_complete types h 2 s.0 t s.1 s.3 (omega arith) (mark_stops Marks.Colon 2 s.1 rest (omega arith) s.4))
    (and_after_is _ _ _ _ (after_spelled Marks.Colon s.1 rest s.4) refl)

default_complete : (types : List Name) (h : ℕ) (read : Step) (p : Place) (ts rest : List Token) → SpellsCase types (a_default p) ts rest → 1 ≤ h → case_part types h read ts ≡ Some (a_default p, rest)
unfolding case_part
default_complete types zero read p ts rest s low = absurd (omega arith)
default_complete types (suc h) read p ts rest s low =
    ap (case_part types (suc h) read) s.1 ∙ and_after_is _ _ _ _ (after_spelled Marks.Colon s.0 rest s.2) refl

module _ (types : List Name) (read : Step) (h : ℕ) (complete : IsCompleteStep types read h) where
  -- ## Blocks

  abbrev IsPart : PartTree → List Token → List Token → Type 0
  IsPart p ts rest = SpellsPart types p ts rest × (part_height p ≤ h)

  part_complete : (p : PartTree) (ts rest : List Token) → IsPart p ts rest → Unit {0} → part types h read ts ≡ Some (p, rest)
  unfolding part
  part_complete (a_local d) ts rest s any =
      ap (λ b. part_by types h read b ts) (local_declaration_begins types d ts rest s.0) ∙ then_read_is _ _ _ _ (local_declaration_complete types h d ts rest s.0 s.1) refl
  part_complete (a_step t) ts rest s any =
      ap (λ b. part_by types h read b ts) (statement_no_type types t ts rest s.0) ∙ then_read_is _ _ _ _ (complete t ts rest s.0 s.1) refl

  parts_split : (parts : PartTrees) (ts rest : List Token) → SpellsParts types parts ts rest → parts_height parts ≤ h → UntilBrace IsPart (part_list parts) ts rest
  parts_split no_parts ts rest s low = s
  parts_split (and_part p more) ts rest s low = (s.0, (s.1, omega arith), parts_split more s.0 rest s.2 (omega arith))

  parts_complete : (trees : PartTrees) (ts rest : List Token) → SpellsParts types trees ts rest → parts_height trees ≤ h → parts types h read ts ≡ Some (trees, rest)
  unfolding parts
  parts_complete trees ts rest s low =
      then_read_is _ _ _ _
      (until_brace_complete IsPart (λ (ts : List Token). Unit {0}) (part types h read) part_complete (λ p ts rest s. part_shorter types p ts rest s.0) (λ ts. tt) (λ p ts rest s. part_no_end types p ts rest s.0)
      (part_list trees) (length ts) [] ts rest (parts_split trees ts rest s low) (omega arith))
      (ap (λ found. Some (found, rest)) (parts_listed trees))

  abbrev IsCase : CaseTree → List Token → List Token → Type 0
  IsCase p ts rest = SpellsCase types p ts rest × (case_height p ≤ h)

  case_complete : (p : CaseTree) (ts rest : List Token) → IsCase p ts rest → Unit {0} → case_part types h read ts ≡ Some (p, rest)
  case_complete (a_case t p) ts rest s any = label_complete types h read t p ts rest s.0 s.1
  case_complete (a_default p) ts rest s any = default_complete types h read p ts rest s.0 s.1
  case_complete (a_case_step t) ts rest s any = statement_no_label types h read t ts rest s.0 ∙ then_read_is _ _ _ _ (complete t ts rest s.0 s.1) refl

  cases_split : (cases : CaseTrees) (ts rest : List Token) → SpellsCases types cases ts rest → cases_height cases ≤ h → UntilBrace IsCase (case_list cases) ts rest
  cases_split no_cases ts rest s low = s
  cases_split (and_case p more) ts rest s low = (s.0, (s.1, omega arith), cases_split more s.0 rest s.2 (omega arith))

  -- ## Forms of statements

  if_spelled : (c : Tree) (s : StatementTree) (ts a rest : List Token) → SpellsInParentheses types c ts a → height c ≤ h → SpellsStatement types s a rest → statement_height s ≤ h → ((after : List Token) → ByWord Words.Else rest after → ⊥) → if_form types h read ts ≡ Some (an_if c s, rest)
  unfolding if_form
  if_spelled c s ts a rest i low r low2 missing =
      then_read_is _ _ _ _ (parenthesised_complete types h c ts a i low)
      (then_read_is _ _ _ _ (complete s a rest r low2) (ap (λ o. else_by c s read o rest) (word_none Keywords.Else rest missing)))

  if_else_spelled : (c : Tree) (s r : StatementTree) (ts a b d rest : List Token) → SpellsInParentheses types c ts a → height c ≤ h → SpellsStatement types s a b → statement_height s ≤ h → ByWord Words.Else b d → SpellsStatement types r d rest → statement_height r ≤ h → if_form types h read ts ≡ Some (an_if_else c s r, rest)
  unfolding if_form
  if_else_spelled c s r ts a b d rest i low q low2 by k low3 =
      then_read_is _ _ _ _ (parenthesised_complete types h c ts a i low)
      (then_read_is _ _ _ _ (complete s a b q low2)
      (ap (λ o. else_by c s read o b) (after_word_spelled Keywords.Else b d by) ∙ then_read_is _ _ _ _ (complete r d rest k low3) refl))

  while_spelled : (c : Tree) (s : StatementTree) (ts a rest : List Token) → SpellsInParentheses types c ts a → height c ≤ h → SpellsStatement types s a rest → statement_height s ≤ h → while_form types h read ts ≡ Some (a_while c s, rest)
  unfolding while_form
  while_spelled c s ts a rest i low r low2 =
      then_read_is _ _ _ _ (parenthesised_complete types h c ts a i low) (then_read_is _ _ _ _ (complete s a rest r low2) refl)

  do_spelled : (s : StatementTree) (c : Tree) (ts a b d rest : List Token) → SpellsStatement types s ts a → statement_height s ≤ h → ByWord Words.While a b → SpellsInParentheses types c b d → height c ≤ h → BySign Signs.Semicolon d rest → do_form types h read ts ≡ Some (a_do s c, rest)
  unfolding do_form
  do_spelled s c ts a b d rest r low by i low2 semicolon =
      then_read_is _ _ _ _ (complete s ts a r low)
      (and_after_is _ _ _ _ (after_word_spelled Keywords.While a b by)
      (then_read_is _ _ _ _ (parenthesised_complete types h c b d i low2)
      (and_after_is _ _ _ _ (after_spelled Marks.Semicolon d rest semicolon) refl)))

  for_spelled : (f : ForFirstTree) (t u : Option Tree) (s : StatementTree) (ts a rest : List Token) → for_head types h ts ≡ Some ((f, t, u), a) → SpellsStatement types s a rest → statement_height s ≤ h → for_form types h read ts ≡ Some (a_for f t u s, rest)
  unfolding for_form
  for_spelled f t u s ts a rest e r low = then_read_is _ _ _ _ e (then_read_is _ _ _ _ (complete s a rest r low) refl)

  switch_spelled : (t : Tree) (cases : CaseTrees) (ts a b rest : List Token) → SpellsInParentheses types t ts a → height t ≤ h → BySign Signs.OpenBrace a b → SpellsCases types cases b rest → cases_height cases ≤ h → switch_form types h read ts ≡ Some (a_switch t cases, rest)
  unfolding switch_form
  switch_spelled t cases ts a b rest i low open_is s low2 =
      then_read_is _ _ _ _ (parenthesised_complete types h t ts a i low)
      (and_after_is _ _ _ _ (after_spelled Marks.OpenBrace a b open_is)
      (then_read_is _ _ _ _
      (until_brace_complete IsCase (λ (ts : List Token). Unit {0}) (case_part types h read) case_complete (λ p ts rest s. case_shorter types p ts rest s.0) (λ ts. tt) (λ p ts rest s. case_no_end types p ts rest s.0)
      (case_list cases) (length b) [] b rest (cases_split cases b rest s low2) (omega arith))
      (ap (λ found. Some (a_switch t found, rest)) (cases_listed cases))))

  semicolon_spelled : (s : StatementTree) (ts rest : List Token) → BySign Signs.Semicolon ts rest → word_and_semicolon s ts ≡ Some (s, rest)
  unfolding word_and_semicolon
  semicolon_spelled s ts rest semicolon = and_after_is _ _ _ _ (after_spelled Marks.Semicolon ts rest semicolon) refl

  return_spelled : (t : Option Tree) (p : Place) (ts rest : List Token) → SpellsClosed types t ts rest → optional_height t ≤ h → return_form types h p ts ≡ Some (a_return t p, rest)
  unfolding return_form
  return_spelled t p ts rest s low = then_read_is _ _ _ _ (closed_complete types h t ts rest s low) refl

  lock_spelled : (n : Name) (q p : Place) (ts rest : List Token) → SpellsMutex types n q ts rest → lock_form types p ts ≡ Some (a_lock n q p, rest)
  unfolding lock_form
  lock_spelled n q p ts rest s = then_read_is _ _ _ _ (mutex_spelled types n q ts rest s) refl

  unlock_spelled : (n : Name) (q p : Place) (ts rest : List Token) → SpellsMutex types n q ts rest → unlock_form types p ts ≡ Some (an_unlock n q p, rest)
  unfolding unlock_form
  unlock_spelled n q p ts rest s = then_read_is _ _ _ _ (mutex_spelled types n q ts rest s) refl

  yield_spelled : (p : Place) (ts a b rest : List Token) → BySign Signs.OpenParenthesis ts a → BySign Signs.CloseParenthesis a b → BySign Signs.Semicolon b rest → yield_form p ts ≡ Some (a_yield p, rest)
  unfolding yield_form
  yield_spelled p ts a b rest open_is close semicolon =
      and_after_is _ _ _ _ (after_spelled Marks.OpenParenthesis ts a open_is)
      (and_after_is _ _ _ _ (after_spelled Marks.CloseParenthesis a b close) (semicolon_spelled (a_yield p) b rest semicolon))

  value_spelled : (t : Option Tree) (ts rest : List Token) → SpellsClosed types t ts rest → optional_height t ≤ h → value_form types h ts ≡ Some (a_value t, rest)
  unfolding value_form
  value_spelled t ts rest s low = then_read_is _ _ _ _ (closed_complete types h t ts rest s low) refl

  -- ## Whole statements

  all_statements : (within : List Token → Option (PartTrees × List Token)) → IsCompleteInside types h within → (s : StatementTree) (ts rest : List Token) → SpellsStatement types s ts rest → statement_height s ≤ suc h → statement_by types h read within ts ≡ Some (s, rest)
  all_statements within blocks (a_block parts) ts rest s low =
      ap (statement_by types h read within) s.1.1 ∙ then_read_is _ _ _ _ (blocks parts s.0 rest s.2 (omega arith)) refl
  all_statements within blocks (a_value t) ts rest s low =
      value_is types h read within t ts rest s ∙ value_spelled t ts rest s (omega arith)
  all_statements within blocks (an_if c t) ts rest s low =
      ap (statement_by types h read within) s.2.1 ∙ if_spelled c t s.0 s.1 rest s.3 (omega arith) s.4 (omega arith) s.5
  all_statements within blocks (an_if_else c t r) ts rest s low =
      ap (statement_by types h read within) s.4.1 ∙ if_else_spelled c t r s.0 s.1 s.2 s.3 rest s.5 (omega arith) s.6 (omega arith) s.7 s.8 (omega arith)
  all_statements within blocks (a_while c t) ts rest s low =
      ap (statement_by types h read within) s.2.1 ∙ while_spelled c t s.0 s.1 rest s.3 (omega arith) s.4 (omega arith)
  all_statements within blocks (a_do t c) ts rest s low =
      ap (statement_by types h read within) s.4.1 ∙ do_spelled t c s.0 s.1 s.2 s.3 rest s.5 (omega arith) s.6 s.7 (omega arith) s.8
  all_statements within blocks (a_for f c step t) ts rest s low =
      ap (statement_by types h read within) s.6.1
      ∙ for_spelled f c step t s.0 s.5 rest (for_head_complete types h f c step s.0 s.1 s.2 s.3 s.4 s.5 s.7 s.8 s.9 s.10 s.11 (omega arith) (omega arith) (omega arith)) s.12 (omega arith)
  all_statements within blocks (a_switch t cases) ts rest s low =
      ap (statement_by types h read within) s.3.1 ∙ switch_spelled t cases s.0 s.1 s.2 rest s.4 (omega arith) s.5 s.6 (omega arith)
  all_statements within blocks (a_break p) ts rest s low = ap (statement_by types h read within) s.1 ∙ semicolon_spelled (a_break p) s.0 rest s.2
  all_statements within blocks (a_continue p) ts rest s low = ap (statement_by types h read within) s.1 ∙ semicolon_spelled (a_continue p) s.0 rest s.2
  all_statements within blocks (a_return t p) ts rest s low = ap (statement_by types h read within) s.1 ∙ return_spelled t p s.0 rest s.2 (omega arith)
  all_statements within blocks (a_lock n q p) ts rest s low = ap (statement_by types h read within) s.1 ∙ lock_spelled n q p s.0 rest s.2
  all_statements within blocks (an_unlock n q p) ts rest s low = ap (statement_by types h read within) s.1 ∙ unlock_spelled n q p s.0 rest s.2
  all_statements within blocks (a_yield p) ts rest s low = ap (statement_by types h read within) s.3 ∙ yield_spelled p s.0 s.1 s.2 rest s.4 s.5 s.6

has_node : (s : StatementTree) → 1 ≤ statement_height s
has_node (a_block parts) = omega arith
has_node (a_value t) = omega arith
has_node (an_if c s) = omega arith
has_node (an_if_else c s r) = omega arith
has_node (a_while c s) = omega arith
has_node (a_do s c) = omega arith
has_node (a_for f c step s) = omega arith
has_node (a_switch t cases) = omega arith
has_node (a_break p) = omega arith
has_node (a_continue p) = omega arith
has_node (a_return t p) = omega arith
has_node (a_lock n q p) = omega arith
has_node (an_unlock n q p) = omega arith
has_node (a_yield p) = omega arith

mutual
  unfolding statement inside

  pub statement_complete : (types : List Name) (h : ℕ) → IsCompleteStep types (statement types h) h
  statement_complete types zero s ts rest r low = absurd (omega (arith, has_node s))
  statement_complete types (suc h) s ts rest r low = all_statements types (statement types h) h (statement_complete types h) (inside types h) (inside_complete types h) s ts rest r low

  pub inside_complete : (types : List Name) (h : ℕ) → IsCompleteInside types h (inside types h)
  inside_complete types zero trees ts rest s low = absurd (omega arith)
  inside_complete types (suc h) trees ts rest s low = parts_complete types (statement types h) h (statement_complete types h) trees ts rest s (omega arith)

pub block_complete : (types : List Name) (h : ℕ) (trees : PartTrees) (ts rest : List Token) → SpellsBlock types trees ts rest → block_height trees ≤ h → block types h ts ≡ Some (trees, rest)
unfolding block
block_complete types h trees ts rest s low =
    and_after_is _ _ _ _ (after_spelled Marks.OpenBrace ts s.0 s.1) (inside_complete types h trees s.0 rest s.2 low)
