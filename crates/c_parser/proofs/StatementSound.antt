-- What is read of statements and blocks is spelled, and within the height.
use Rattle.std.proofs.Common.{◌≡◌, ℕ, zero, suc, ◌≤◌, Bool, true, false, List, [], ◌∷◌, length, Option, Some, None, refl, subst, arith}
use Rattle.tm_terms.specs.declared.places.Place.{Place}
use Rattle.tm_terms.specs.declared.tokens.Name.{Name}
use Rattle.tm_terms.specs.declared.tokens.Word.{Word}
use Rattle.tm_terms.specs.declared.tokens.Word.TheVariants as Words
use Rattle.tm_terms.specs.declared.tokens.Sign.{Sign}
use Rattle.tm_terms.specs.declared.tokens.Sign.TheVariants as Signs
use Rattle.tm_terms.specs.declared.tokens.Shape.{Shape}
use Rattle.tm_terms.specs.declared.tokens.Shape.TheVariants as Shapes
use Rattle.tm_terms.specs.declared.tokens.Token.{Token}
use Rattle.tm_terms.specs.ExprTrees.{Tree, height}
use Rattle.tm_terms.specs.ExprSpelling.{Begins, BySign}
use Rattle.c_expr_parser.specs.declared.marks.Mark.TheVariants as Marks
use Rattle.c_expr_parser.specs.reading.Parts.{begins_type}
use Rattle.c_expr_parser.proofs.Tokens.{none_some, from_some, after_finds, then_read_some}
use Rattle.c_expr_parser.proofs.Tokens.{and_after_some, cond_some}
use Rattle.tm_trees.specs.DeclarationTrees.{InitDeclaratorTree, optional_height}
use Rattle.tm_trees.specs.DeclarationSpelling.{ByWord, SpellsOptional}
use Rattle.tm_trees.specs.FileTrees.{ForFirstTree, by_declaration, StatementTree, a_block, a_value, an_if}
use Rattle.tm_trees.specs.FileTrees.{an_if_else, a_while, a_do, a_for, a_switch, a_break, a_continue}
use Rattle.tm_trees.specs.FileTrees.{a_return, a_lock, an_unlock, a_yield, PartTree, PartTrees, as_parts}
use Rattle.tm_trees.specs.FileTrees.{CaseTree, a_case, a_default, CaseTrees, as_cases, first_height}
use Rattle.tm_trees.specs.FileTrees.{statement_height, part_height, parts_height, case_height}
use Rattle.tm_trees.specs.FileTrees.{cases_height, block_height}
use Rattle.tm_trees.specs.FileSpelling.{SpellsInParentheses, SpellsClosed, HasDeclarator, SpellsFirst}
use Rattle.tm_trees.specs.FileSpelling.{SpellsStatement, SpellsPart, SpellsParts, SpellsCase, SpellsCases}
use Rattle.tm_trees.specs.FileSpelling.{SpellsBlock}
use Rattle.c_decl_parser.specs.declared.tokens.Keyword.TheVariants as Keywords
use Rattle.c_decl_parser.specs.reading.Parts.{after_word, in_parentheses}
use Rattle.c_parser.specs.reading.FileDescent.{closed, has_declarator, first_by, first, for_head, Step, part_by, part, parts, labelled, default_label, case_step, case_word, case_shape, case_part, else_by, if_form, while_form, do_form, for_form, switch_form, word_and_semicolon, return_form, lock_form, unlock_form, yield_form, value_form, statement_word, block_form, statement_sign, statement_shape, statement_by, statement, inside, block}
use Rattle.c_parser.proofs.FirstWords.{word_missing, mutex_finds}
use Rattle.c_decl_parser.proofs.MarkReading.{after_word_finds}
use Rattle.c_decl_parser.proofs.ExpressionReading.{expression_sound, until_sound, in_parentheses_sound}
use Rattle.c_decl_parser.proofs.RepetitionReading.{UntilBrace, all_until_brace_sound}
use Rattle.c_decl_parser.proofs.DeclarationReading.{local_declaration_sound}

-- spelled, and within the height
abbrev pub IsStatement : List Name → ℕ → List Token → StatementTree × List Token → Type 0
IsStatement types limit ts x = SpellsStatement types x.0 ts x.1 × (statement_height x.0 ≤ limit)

abbrev pub ArePartsOf : List Name → ℕ → List Token → PartTrees × List Token → Type 0
ArePartsOf types limit ts x = SpellsParts types x.0 ts x.1 × (parts_height x.0 ≤ limit)

-- a reading gives only what is spelled, within the height
abbrev pub IsSoundStep : List Name → Step → ℕ → Type 0
IsSoundStep types read limit = (ts : List Token) (x : StatementTree × List Token) → read ts ≡ Some x → IsStatement types limit ts x

-- ## Expressions and `;`

pub closed_sound : (types : List Name) (h : ℕ) (ts : List Token) (x : Option Tree × List Token) → closed types h ts ≡ Some x → SpellsClosed types x.0 ts x.1 × (optional_height x.0 ≤ h)
closed_sound types h ts x e = let f = until_sound types h 0 Marks.Semicolon ts x e in ((f.0, f.1, f.2), f.3)

has_declarator_true : (declarators : List InitDeclaratorTree) → has_declarator declarators ≡ true → HasDeclarator declarators
has_declarator_true [] e = absurd (cc)
has_declarator_true (d ∷ declarators) e = tt

abbrev IsFirst : List Name → ℕ → List Token → ForFirstTree × List Token → Type 0
IsFirst types limit ts x = SpellsFirst types x.0 ts x.1 × (first_height x.0 ≤ limit)

first_sound : (types : List Name) (h : ℕ) (ts : List Token) (x : ForFirstTree × List Token) → first types h ts ≡ Some x → IsFirst types h ts x
unfolding first
first_sound types h ts x e = go (begins_type types ts) e
  where
    go : (b : Bool) → first_by types h b ts ≡ Some x → IsFirst types h ts x
    go true e =
        let d = then_read_some _ _ _ e in
        let c = cond_some _ _ _ d.2 in
        let f = local_declaration_sound types h ts d.0 d.1 in
        subst (IsFirst types h ts) {x = (by_declaration d.0.0, d.0.1)} (from_some c.1) ((f.0, has_declarator_true _ c.0), f.1)
    go false e =
        let t = then_read_some _ _ _ e in
        subst (IsFirst types h ts) (from_some t.2) (closed_sound types h ts t.0 t.1)

parenthesised_sound : (types : List Name) (h : ℕ) (ts : List Token) (x : Tree × List Token) → in_parentheses types h ts ≡ Some x → SpellsInParentheses types x.0 ts x.1 × (height x.0 ≤ h)
parenthesised_sound types h ts x e = let f = in_parentheses_sound types h ts x e in ((f.0, f.1, f.2, f.3, f.4), f.5)

-- the three parts of a `for`, before the `)`
record ForHead (types : List Name) (h : ℕ) (ts : List Token) (x : (ForFirstTree × Option Tree × Option Tree) × List Token) : Type 0 where
  a : List Token
  b : List Token
  c : List Token
  e : List Token
  opened : BySign Signs.OpenParenthesis ts a
  first : SpellsFirst types x.0.0 a b
  test : SpellsClosed types x.0.1 b c
  step : SpellsOptional types 0 x.0.2 c e
  ended : BySign Signs.CloseParenthesis e x.1
  first_low : first_height x.0.0 ≤ h
  test_low : optional_height x.0.1 ≤ h
  step_low : optional_height x.0.2 ≤ h

for_head_sound : (types : List Name) (h : ℕ) (ts : List Token) (x : (ForFirstTree × Option Tree × Option Tree) × List Token) → for_head types h ts ≡ Some x → ForHead types h ts x
unfolding for_head
for_head_sound types h ts x e =
    let a = and_after_some _ _ _ e in
    let s = then_read_some _ _ _ a.2 in
    let t = then_read_some _ _ _ s.2 in
    let u = then_read_some _ _ _ t.2 in
    let f = first_sound types h a.0 s.0 s.1 in
    let g = closed_sound types h s.0.1 t.0 t.1 in
    let k = until_sound types h 0 Marks.CloseParenthesis t.0.1 u.0 u.1 in
    subst (ForHead types h ts) (from_some u.2) (record {
      a = a.0;
      b = s.0.1;
      c = t.0.1;
      e = k.0;
      opened = after_finds Marks.OpenParenthesis ts a.0 a.1;
      first = f.0;
      test = g.0;
      step = k.1;
      ended = k.2;
      first_low = f.1;
      test_low = g.1;
      step_low = k.3;
    })

-- ## Labels

abbrev IsCaseOf : List Name → ℕ → List Token → CaseTree × List Token → Type 0
IsCaseOf types h ts x = SpellsCase types x.0 ts x.1 × (case_height x.0 ≤ h)

label_finds : (types : List Name) (h : ℕ) (p : Place) (ts0 ts : List Token) (x : CaseTree × List Token) → Begins (Shapes.Word Words.Case) p ts0 ts → labelled types h p ts ≡ Some x → IsCaseOf types h ts0 x
label_finds types zero p ts0 ts x by e = none_some e
label_finds types (suc h) p ts0 ts x by e =
    let t = then_read_some _ _ _ e in
    let a = and_after_some _ _ _ t.2 in
    let f = expression_sound types h 2 ts t.0 t.1 in
    subst (IsCaseOf types (suc h) ts0) {x = (a_case t.0.0 p, a.0)} (from_some a.2) ((ts, t.0.1, by, f.0, after_finds Marks.Colon t.0.1 a.0 a.1), omega (arith, f.1))

default_finds : (types : List Name) (h : ℕ) (p : Place) (ts0 ts : List Token) (x : CaseTree × List Token) → Begins (Shapes.Word Words.Default) p ts0 ts → default_label h p ts ≡ Some x → IsCaseOf types h ts0 x
default_finds types zero p ts0 ts x by e = none_some e
default_finds types (suc h) p ts0 ts x by e =
    let a = and_after_some _ _ _ e in
    subst (IsCaseOf types (suc h) ts0) {x = (a_default p, a.0)} (from_some a.2) ((ts, by, after_finds Marks.Colon ts a.0 a.1), omega arith)

module _ (types : List Name) (read : Step) (h : ℕ) (sound : IsSoundStep types read h) where
  -- ## Blocks

  abbrev IsPart : PartTree → List Token → List Token → Type 0
  IsPart p ts rest = SpellsPart types p ts rest × (part_height p ≤ h)

  part_finds : (ts : List Token) (x : PartTree × List Token) → part types h read ts ≡ Some x → IsPart x.0 ts x.1
  unfolding part
  part_finds ts x e = go (begins_type types ts) e
    where
      go : (b : Bool) → part_by types h read b ts ≡ Some x → IsPart x.0 ts x.1
      go true e =
          let d = then_read_some _ _ _ e in
          subst (λ (y : PartTree × List Token). IsPart y.0 ts y.1) (from_some d.2) (local_declaration_sound types h ts d.0 d.1)
      go false e =
          let s = then_read_some _ _ _ e in
          subst (λ (y : PartTree × List Token). IsPart y.0 ts y.1) (from_some s.2) (sound ts s.0 s.1)

  parts_join : (found : List PartTree) (ts rest : List Token) → UntilBrace IsPart found ts rest → ArePartsOf types h ts (as_parts found, rest)
  parts_join [] ts rest s = (s, omega arith)
  parts_join (p ∷ found) ts rest s = let r = parts_join found s.0 rest s.2 in ((s.0, s.1.0, r.0), omega (arith, s.1.1, r.1))

  parts_find : (ts : List Token) (x : PartTrees × List Token) → parts types h read ts ≡ Some x → ArePartsOf types h ts x
  unfolding parts
  parts_find ts x e =
      let a = then_read_some _ _ _ e in
      subst (ArePartsOf types h ts) (from_some a.2) (parts_join a.0.0 ts a.0.1 (all_until_brace_sound IsPart (part types h read) part_finds (length ts) ts a.0 a.1))

  abbrev IsCase : CaseTree → List Token → List Token → Type 0
  IsCase p ts rest = SpellsCase types p ts rest × (case_height p ≤ h)

  step_case : (ts : List Token) (x : CaseTree × List Token) → case_step read ts ≡ Some x → IsCaseOf types h ts x
  step_case ts x e = let s = then_read_some _ _ _ e in subst (IsCaseOf types h ts) (from_some s.2) (sound ts s.0 s.1)

  case_word_finds : (w : Word) (p : Place) (ts : List Token) (x : CaseTree × List Token) → case_word types h read w p ts ((record { shape = Shapes.Word w; place = p }) ∷ ts) ≡ Some x → IsCaseOf types h ((record { shape = Shapes.Word w; place = p }) ∷ ts) x
  case_word_finds Words.Case p ts x e = label_finds types h p _ ts x refl e
  case_word_finds Words.Default p ts x e = default_finds types h p _ ts x refl e
  case_word_finds _ p ts x e = step_case _ x e

  case_shape_finds : (shape : Shape) (p : Place) (ts : List Token) (x : CaseTree × List Token) → case_shape types h read shape p ts ((record { shape = shape; place = p }) ∷ ts) ≡ Some x → IsCaseOf types h ((record { shape = shape; place = p }) ∷ ts) x
  case_shape_finds (Shapes.Word w) p ts x e = case_word_finds w p ts x e
  case_shape_finds _ p ts x e = step_case _ x e

  case_finds : (ts : List Token) (x : CaseTree × List Token) → case_part types h read ts ≡ Some x → IsCaseOf types h ts x
  unfolding case_part
  case_finds [] x e = none_some e
  case_finds (t ∷ ts) x e = case_shape_finds t.shape t.place ts x e

  abbrev AreCases : List Token → CaseTrees × List Token → Type 0
  AreCases ts x = SpellsCases types x.0 ts x.1 × (cases_height x.0 ≤ h)

  cases_join : (found : List CaseTree) (ts rest : List Token) → UntilBrace IsCase found ts rest → AreCases ts (as_cases found, rest)
  cases_join [] ts rest s = (s, omega arith)
  cases_join (p ∷ found) ts rest s = let r = cases_join found s.0 rest s.2 in ((s.0, s.1.0, r.0), omega (arith, s.1.1, r.1))

  -- ## Forms of statements

  else_finds : (c : Tree) (s : StatementTree) (ts0 ts a b : List Token) (x : StatementTree × List Token) → ByWord Words.If ts0 ts → SpellsInParentheses types c ts a → height c ≤ h → IsStatement types h a (s, b) → (o : Option (List Token)) → after_word Keywords.Else b ≡ o → else_by c s read o b ≡ Some x → IsStatement types (suc h) ts0 x
  else_finds c s ts0 ts a b x by f low g None o e =
      subst (IsStatement types (suc h) ts0) {x = (an_if c s, b)} (from_some e) ((ts, a, by, f, g.0, word_missing Keywords.Else b o), omega (arith, g.1))
  else_finds c s ts0 ts a b x by f low g (Some d) o e =
      let r = then_read_some _ _ _ e in
      let k = sound d r.0 r.1 in
      subst (IsStatement types (suc h) ts0) {x = (an_if_else c s r.0.0, r.0.1)} (from_some r.2) ((ts, a, b, d, by, f, g.0, after_word_finds Keywords.Else b d o, k.0), omega (arith, g.1, k.1))

  if_finds : (ts0 ts : List Token) (x : StatementTree × List Token) → ByWord Words.If ts0 ts → if_form types h read ts ≡ Some x → IsStatement types (suc h) ts0 x
  unfolding if_form
  if_finds ts0 ts x by e =
      let c = then_read_some _ _ _ e in
      let s = then_read_some _ _ _ c.2 in
      let f = parenthesised_sound types h ts c.0 c.1 in
      else_finds c.0.0 s.0.0 ts0 ts c.0.1 s.0.1 x by f.0 f.1 (sound c.0.1 s.0 s.1) (after_word Keywords.Else s.0.1) refl s.2

  while_finds : (ts0 ts : List Token) (x : StatementTree × List Token) → ByWord Words.While ts0 ts → while_form types h read ts ≡ Some x → IsStatement types (suc h) ts0 x
  unfolding while_form
  while_finds ts0 ts x by e =
      let c = then_read_some _ _ _ e in
      let s = then_read_some _ _ _ c.2 in
      let f = parenthesised_sound types h ts c.0 c.1 in
      let g = sound c.0.1 s.0 s.1 in
      subst (IsStatement types (suc h) ts0) {x = (a_while c.0.0 s.0.0, s.0.1)} (from_some s.2) ((ts, c.0.1, by, f.0, g.0), omega (arith, f.1, g.1))

  do_finds : (ts0 ts : List Token) (x : StatementTree × List Token) → ByWord Words.Do ts0 ts → do_form types h read ts ≡ Some x → IsStatement types (suc h) ts0 x
  unfolding do_form
  do_finds ts0 ts x by e =
      let s = then_read_some _ _ _ e in
      let b = and_after_some _ _ _ s.2 in
      let c = then_read_some _ _ _ b.2 in
      let d = and_after_some _ _ _ c.2 in
      let g = sound ts s.0 s.1 in
      let f = parenthesised_sound types h b.0 c.0 c.1 in
      subst (IsStatement types (suc h) ts0) {x = (a_do s.0.0 c.0.0, d.0)} (from_some d.2)
      ((ts, s.0.1, b.0, c.0.1, by, g.0, after_word_finds Keywords.While s.0.1 b.0 b.1, f.0, after_finds Marks.Semicolon c.0.1 d.0 d.1), omega (arith, f.1, g.1))

  for_finds : (ts0 ts : List Token) (x : StatementTree × List Token) → ByWord Words.For ts0 ts → for_form types h read ts ≡ Some x → IsStatement types (suc h) ts0 x
  unfolding for_form
  for_finds ts0 ts x by e =
      let k = then_read_some _ _ _ e in
      let s = then_read_some _ _ _ k.2 in
      let f = for_head_sound types h ts k.0 k.1 in
      let g = sound k.0.1 s.0 s.1 in
      subst (IsStatement types (suc h) ts0) {x = (a_for k.0.0.0 k.0.0.1 k.0.0.2 s.0.0, s.0.1)} (from_some s.2)
      ((ts, f.a, f.b, f.c, f.e, k.0.1, by, f.opened, f.first, f.test, f.step, f.ended, g.0), omega (arith, f.first_low, f.test_low, f.step_low, g.1))

  switch_finds : (ts0 ts : List Token) (x : StatementTree × List Token) → ByWord Words.Switch ts0 ts → switch_form types h read ts ≡ Some x → IsStatement types (suc h) ts0 x
  unfolding switch_form
  switch_finds ts0 ts x by e =
      let t = then_read_some _ _ _ e in
      let b = and_after_some _ _ _ t.2 in
      let s = then_read_some _ _ _ b.2 in
      let f = parenthesised_sound types h ts t.0 t.1 in
      let k = cases_join s.0.0 b.0 s.0.1 (all_until_brace_sound IsCase (case_part types h read) case_finds (length b.0) b.0 s.0 s.1) in
      subst (IsStatement types (suc h) ts0) {x = (a_switch t.0.0 (as_cases s.0.0), s.0.1)} (from_some s.2)
      ((ts, t.0.1, b.0, by, f.0, after_finds Marks.OpenBrace t.0.1 b.0 b.1, k.0), omega (arith, f.1, k.1))

  return_finds : (p : Place) (ts0 ts : List Token) (x : StatementTree × List Token) → Begins (Shapes.Word Words.Return) p ts0 ts → return_form types h p ts ≡ Some x → IsStatement types (suc h) ts0 x
  unfolding return_form
  return_finds p ts0 ts x by e =
      let t = then_read_some _ _ _ e in
      let f = closed_sound types h ts t.0 t.1 in
      subst (IsStatement types (suc h) ts0) {x = (a_return t.0.0 p, t.0.1)} (from_some t.2) ((ts, by, f.0), omega (arith, f.1))

  value_finds : (ts : List Token) (x : StatementTree × List Token) → value_form types h ts ≡ Some x → IsStatement types (suc h) ts x
  unfolding value_form
  value_finds ts x e =
      let t = then_read_some _ _ _ e in
      let f = closed_sound types h ts t.0 t.1 in
      subst (IsStatement types (suc h) ts) {x = (a_value t.0.0, t.0.1)} (from_some t.2) (f.0, omega (arith, f.1))

  semicolon_finds : (s : StatementTree) (ts : List Token) (x : StatementTree × List Token) → word_and_semicolon s ts ≡ Some x → (s ≡ x.0) × BySign Signs.Semicolon ts x.1
  unfolding word_and_semicolon
  semicolon_finds s ts x e =
      let a = and_after_some _ _ _ e in
      subst (λ (y : StatementTree × List Token). (s ≡ y.0) × BySign Signs.Semicolon ts y.1) {x = (s, a.0)} (from_some a.2) (refl, after_finds Marks.Semicolon ts a.0 a.1)

  break_finds : (p : Place) (ts0 ts : List Token) (x : StatementTree × List Token) → Begins (Shapes.Word Words.Break) p ts0 ts → word_and_semicolon (a_break p) ts ≡ Some x → IsStatement types (suc h) ts0 x
  break_finds p ts0 ts x by e =
      let a = semicolon_finds (a_break p) ts x e in
      subst (λ s. IsStatement types (suc h) ts0 (s, x.1)) a.0 ((ts, by, a.1), omega arith)

  continue_finds : (p : Place) (ts0 ts : List Token) (x : StatementTree × List Token) → Begins (Shapes.Word Words.Continue) p ts0 ts → word_and_semicolon (a_continue p) ts ≡ Some x → IsStatement types (suc h) ts0 x
  continue_finds p ts0 ts x by e =
      let a = semicolon_finds (a_continue p) ts x e in
      subst (λ s. IsStatement types (suc h) ts0 (s, x.1)) a.0 ((ts, by, a.1), omega arith)

  lock_finds : (p : Place) (ts0 ts : List Token) (x : StatementTree × List Token) → Begins (Shapes.Word Words.Lock) p ts0 ts → lock_form types p ts ≡ Some x → IsStatement types (suc h) ts0 x
  unfolding lock_form
  lock_finds p ts0 ts x by e =
      let n = then_read_some _ _ _ e in
      subst (IsStatement types (suc h) ts0) {x = (a_lock n.0.0.0 n.0.0.1 p, n.0.1)} (from_some n.2) ((ts, by, mutex_finds types ts n.0 n.1), omega arith)

  unlock_finds : (p : Place) (ts0 ts : List Token) (x : StatementTree × List Token) → Begins (Shapes.Word Words.Unlock) p ts0 ts → unlock_form types p ts ≡ Some x → IsStatement types (suc h) ts0 x
  unfolding unlock_form
  unlock_finds p ts0 ts x by e =
      let n = then_read_some _ _ _ e in
      subst (IsStatement types (suc h) ts0) {x = (an_unlock n.0.0.0 n.0.0.1 p, n.0.1)} (from_some n.2) ((ts, by, mutex_finds types ts n.0 n.1), omega arith)

  yield_finds : (p : Place) (ts0 ts : List Token) (x : StatementTree × List Token) → Begins (Shapes.Word Words.Yield) p ts0 ts → yield_form p ts ≡ Some x → IsStatement types (suc h) ts0 x
  unfolding yield_form
  yield_finds p ts0 ts x by e =
      let a = and_after_some _ _ _ e in
      let b = and_after_some _ _ _ a.2 in
      let c = semicolon_finds (a_yield p) b.0 x b.2 in
      subst (λ s. IsStatement types (suc h) ts0 (s, x.1)) c.0
      ((ts, a.0, b.0, by, after_finds Marks.OpenParenthesis ts a.0 a.1, after_finds Marks.CloseParenthesis a.0 b.0 b.1, c.1), omega arith)

  statement_word_finds : (w : Word) (p : Place) (ts : List Token) (x : StatementTree × List Token) → statement_word types h read w p ts ((record { shape = Shapes.Word w; place = p }) ∷ ts) ≡ Some x → IsStatement types (suc h) ((record { shape = Shapes.Word w; place = p }) ∷ ts) x
  statement_word_finds Words.If p ts x e = if_finds _ ts x (p, refl) e
  statement_word_finds Words.While p ts x e = while_finds _ ts x (p, refl) e
  statement_word_finds Words.Do p ts x e = do_finds _ ts x (p, refl) e
  statement_word_finds Words.For p ts x e = for_finds _ ts x (p, refl) e
  statement_word_finds Words.Switch p ts x e = switch_finds _ ts x (p, refl) e
  statement_word_finds Words.Break p ts x e = break_finds p _ ts x refl e
  statement_word_finds Words.Continue p ts x e = continue_finds p _ ts x refl e
  statement_word_finds Words.Return p ts x e = return_finds p _ ts x refl e
  statement_word_finds Words.Lock p ts x e = lock_finds p _ ts x refl e
  statement_word_finds Words.Unlock p ts x e = unlock_finds p _ ts x refl e
  statement_word_finds Words.Yield p ts x e = yield_finds p _ ts x refl e
  statement_word_finds _ p ts x e = value_finds _ x e

-- ## Whole statements

-- A block that is a statement is two nodes more than its parts, and what is read of it one less.
abbrev pub IsSoundInside : List Name → ℕ → (List Token → Option (PartTrees × List Token)) → Type 0
IsSoundInside types h read = (ts : List Token) (x : PartTrees × List Token) → read ts ≡ Some x → SpellsParts types x.0 ts x.1 × (block_height x.0 ≤ h)

module _ (types : List Name) (read : Step) (h : ℕ) (sound : IsSoundStep types read h) (within : List Token → Option (PartTrees × List Token)) (sound_within : IsSoundInside types h within) where
  block_form_finds : (ts0 ts : List Token) (x : StatementTree × List Token) → BySign Signs.OpenBrace ts0 ts → block_form within ts ≡ Some x → IsStatement types (suc h) ts0 x
  block_form_finds ts0 ts x by e =
      let a = then_read_some _ _ _ e in
      let f = sound_within ts a.0 a.1 in
      subst (IsStatement types (suc h) ts0) {x = (a_block a.0.0, a.0.1)} (from_some a.2) ((ts, by, f.0), omega (arith, f.1))

  statement_sign_finds : (sign : Sign) (p : Place) (ts : List Token) (x : StatementTree × List Token) → statement_sign types h within sign ts ((record { shape = Shapes.Sign sign; place = p }) ∷ ts) ≡ Some x → IsStatement types (suc h) ((record { shape = Shapes.Sign sign; place = p }) ∷ ts) x
  statement_sign_finds Signs.OpenBrace p ts x e = block_form_finds _ ts x (p, refl) e
  statement_sign_finds _ p ts x e = value_finds types read h sound _ x e

  statement_shape_finds : (shape : Shape) (p : Place) (ts : List Token) (x : StatementTree × List Token) → statement_shape types h read within shape p ts ((record { shape = shape; place = p }) ∷ ts) ≡ Some x → IsStatement types (suc h) ((record { shape = shape; place = p }) ∷ ts) x
  statement_shape_finds (Shapes.Word w) p ts x e = statement_word_finds types read h sound w p ts x e
  statement_shape_finds (Shapes.Sign sign) p ts x e = statement_sign_finds sign p ts x e
  statement_shape_finds _ p ts x e = value_finds types read h sound _ x e

  statement_by_finds : (ts : List Token) (x : StatementTree × List Token) → statement_by types h read within ts ≡ Some x → IsStatement types (suc h) ts x
  statement_by_finds [] x e = none_some e
  statement_by_finds (t ∷ ts) x e = statement_shape_finds t.shape t.place ts x e

mutual
  unfolding statement inside

  pub statement_sound : (types : List Name) (h : ℕ) → IsSoundStep types (statement types h) h
  statement_sound types zero ts x e = none_some e
  statement_sound types (suc h) ts x e = statement_by_finds types (statement types h) h (statement_sound types h) (inside types h) (inside_sound types h) ts x e

  pub inside_sound : (types : List Name) (h : ℕ) → IsSoundInside types h (inside types h)
  inside_sound types zero ts x e = none_some e
  inside_sound types (suc h) ts x e = let f = parts_find types (statement types h) h (statement_sound types h) ts x e in (f.0, omega (arith, f.1))

pub block_sound : (types : List Name) (h : ℕ) (ts : List Token) (x : PartTrees × List Token) → block types h ts ≡ Some x → SpellsBlock types x.0 ts x.1 × (block_height x.0 ≤ h)
unfolding block
block_sound types h ts x e =
    let a = and_after_some _ _ _ e in
    let f = inside_sound types h a.0 x a.2 in
    ((a.0, after_finds Marks.OpenBrace ts a.0 a.1, f.0), f.1)
