-- What is read of functions and files is spelled, and within the height.
use Rattle.std.proofs.Common.{◌≡◌, ℕ, zero, suc, ◌≤◌, Bool, true, false, cond, List, [], ◌∷◌, ◌++◌, length, Option, Some, None, refl, sym, ◌∙◌, subst, arith, append_assoc}
use Rattle.std.proofs.lemmas.List.{append-nil}
use Rattle.tm_terms.specs.declared.places.Place.{Place}
use Rattle.tm_terms.specs.declared.tokens.Name.{Name}
use Rattle.tm_terms.specs.declared.tokens.Word.{Word}
use Rattle.tm_terms.specs.declared.tokens.Word.TheVariants as Words
use Rattle.tm_terms.specs.declared.tokens.Sign.{Sign}
use Rattle.tm_terms.specs.declared.tokens.Sign.TheVariants as Signs
use Rattle.tm_terms.specs.declared.tokens.Shape.{Shape}
use Rattle.tm_terms.specs.declared.tokens.Shape.TheVariants as Shapes
use Rattle.tm_terms.specs.declared.tokens.Token.{Token}
use Rattle.tm_terms.specs.declared.types_named.PointerWord.{PointerWord}
use Rattle.tm_terms.specs.ExprSpelling.{Begins, BySign, SpellsPointers, BeginsWithStar, is_type_name_list}
use Rattle.c_expr_parser.specs.declared.marks.Mark.TheVariants as Marks
use Rattle.c_expr_parser.specs.reading.Parts.{then_read, after}
use Rattle.c_expr_parser.proofs.Tokens.{none_some, from_some, after_finds, then_read_some}
use Rattle.c_expr_parser.proofs.Tokens.{and_after_some, cond_some}
use Rattle.tm_trees.specs.DeclarationTrees.{SpecifierTree, as_specifiers, count_as, specifiers_height}
use Rattle.tm_trees.specs.DeclarationSpelling.{ByWord, SpellsSpecifiers, is_file_list, is_typedef_list}
use Rattle.tm_trees.specs.FileTrees.{PartTrees, ParameterTree, a_named_parameter, an_unnamed_parameter}
use Rattle.tm_trees.specs.FileTrees.{ParametersTree, only_void, some_parameters, ItemTree, a_declaration}
use Rattle.tm_trees.specs.FileTrees.{a_function, an_empty_item, a_mutex, a_task, parameter_height}
use Rattle.tm_trees.specs.FileTrees.{tallest_parameter, parameters_height, body_height, item_height}
use Rattle.tm_trees.specs.FileTrees.{tallest_item}
use Rattle.tm_trees.specs.FileSpelling.{SpellsParameter, SpellsMoreParameters, SpellsParameters}
use Rattle.tm_trees.specs.FileSpelling.{SpellsBody, SpellsItem, SpellsItems}
use Rattle.tm_trees.specs.Parsing.{IsFileOf}
use Rattle.c_decl_parser.specs.reading.DeclarationDescent.{pointers}
use Rattle.c_parser.specs.reading.FileDescent.{only_void_at, declares, parameter_by, parameter_after, parameter, list_by, parameters_by, parameters, function_body_by, function_body, function_name, behind_function, function_after, declared_by, function_by, behind_pointers, undeclared_by, behind_specifiers, declared_item, mutex_item, task_item, item_word, item_sign, item_shape, item, is_end, items_from, file}
use Rattle.c_decl_parser.proofs.MarkReading.{declared_finds}
use Rattle.c_decl_parser.proofs.ExpressionReading.{expression_sound}
use Rattle.c_decl_parser.proofs.RepetitionReading.{Separated, OneOrMore, one_or_more_sound}
use Rattle.c_decl_parser.proofs.DeclaratorReading.{pointers_sound, declarator_whole, declarator_after_sound}
use Rattle.c_decl_parser.proofs.SpecifierReading.{specifiers_sound}
use Rattle.c_decl_parser.proofs.DeclarationReading.{file_declarators_sound}
use Rattle.c_parser.proofs.FirstWords.{Named, only_void_finds, only_void_missing, function_name_finds, task_head_finds}
use Rattle.c_parser.proofs.StatementSound.{block_sound}

-- ## Parameters

-- spelled, and within the height
abbrev IsParameter : List Name → ℕ → ParameterTree → List Token → List Token → Type 0
IsParameter types h p ts rest = SpellsParameter types p ts rest × (parameter_height p ≤ h)

abbrev Parameter : List Name → ℕ → List Token → ParameterTree × List Token → Type 0
Parameter types h ts x = IsParameter types h x.0 ts x.1

parameter_after_sound : (types : List Name) (h : ℕ) (found : List SpecifierTree) (ts0 ts : List Token) (x : ParameterTree × List Token) → SpellsSpecifiers types false (as_specifiers found) ts0 ts → specifiers_height (as_specifiers found) ≤ h → parameter_after types h found ts ≡ Some x → Parameter types (suc h) ts0 x
unfolding parameter_after
parameter_after_sound types h found ts0 ts x s low e =
    let c = cond_some _ _ _ e in go (declares (pointers ts).1) c.0 c.1
  where
    go : (b : Bool) → is_type_name_list (count_as (as_specifiers found)) ≡ true → parameter_by types h found (pointers ts).0 b (pointers ts).1 ≡ Some x → Parameter types (suc h) ts0 x
    go true named e =
        let d = then_read_some _ _ _ e in
        let p = pointers_sound ts in
        let f = declarator_after_sound false types h (pointers ts).0 (pointers ts).1 d.0 d.1 in
        let w = declarator_whole false types d.0.0 ts (pointers ts).1 d.0.1 (subst (λ l. SpellsPointers l ts (pointers ts).1) (sym f.0) p.0) (subst BeginsWithStar (sym f.0) p.1) f.1 in
        subst (Parameter types (suc h) ts0) {x = (a_named_parameter (as_specifiers found) d.0.0, d.0.1)} (from_some d.2) ((ts, s, named, w), omega (arith, f.2))
    go false named e =
        let p = pointers_sound ts in
        subst (Parameter types (suc h) ts0) {x = (an_unnamed_parameter (as_specifiers found) (pointers ts).0, (pointers ts).1)} (from_some e) ((ts, s, named, p.0, p.1), omega arith)

parameter_sound : (types : List Name) (h : ℕ) (ts : List Token) (x : ParameterTree × List Token) → parameter types h ts ≡ Some x → Parameter types h ts x
unfolding parameter
parameter_sound types zero ts x e = none_some e
parameter_sound types (suc h) ts x e =
    let a = then_read_some _ _ _ e in
    let s = specifiers_sound types h ts a.0 a.1 in
    parameter_after_sound types h a.0.0 ts a.0.1 x s.0 s.1 a.2

abbrev AreParameters : List Name → ℕ → List Token → ParametersTree × List Token → Type 0
AreParameters types h ts x = SpellsParameters types x.0 ts x.1 × (parameters_height x.0 ≤ h)

more_join : (types : List Name) (h : ℕ) (found : List ParameterTree) (ts a rest : List Token) → Separated (IsParameter types h) found ts a → BySign Signs.CloseParenthesis a rest → SpellsMoreParameters types found ts rest × (tallest_parameter found ≤ h)
more_join types h [] ts a rest s close = (subst (λ l. BySign Signs.CloseParenthesis l rest) (sym s) close, omega arith)
more_join types h (p ∷ found) ts a rest s close =
    let r = more_join types h found s.1 a rest s.4 close in ((s.0, s.1, s.2, s.3.0, r.0), omega (arith, s.3.1, r.1))

list_join : (types : List Name) (h : ℕ) (found : List ParameterTree) (ts a rest : List Token) → only_void_at ts ≡ None → OneOrMore (IsParameter types h) found ts a → BySign Signs.CloseParenthesis a rest → AreParameters types h ts (some_parameters found, rest)
list_join types h [] ts a rest missing s close = absurd s
list_join types h (p ∷ found) ts a rest missing s close =
    let r = more_join types h found s.0 a rest s.2 close in
    ((s.0, λ after b. only_void_missing ts missing after b, s.1.0, r.0), omega (arith, s.1.1, r.1))

parameters_sound : (types : List Name) (h : ℕ) (ts : List Token) (x : ParametersTree × List Token) → parameters types h ts ≡ Some x → AreParameters types h ts x
unfolding parameters
parameters_sound types h ts x e = go (only_void_at ts) refl (after Marks.CloseParenthesis ts) refl e
  where
    go : (o : Option (List Token)) → only_void_at ts ≡ o → (c : Option (List Token)) → after Marks.CloseParenthesis ts ≡ c → parameters_by types h o ts ≡ Some x → AreParameters types h ts x
    go (Some rest) o c d e = subst (AreParameters types h ts) {x = (only_void, rest)} (from_some e) (only_void_finds ts rest o, omega arith)
    go None o c d e = listed c d (subst (λ k. list_by types h k ts ≡ Some x) d e)
      where
        listed : (c : Option (List Token)) → after Marks.CloseParenthesis ts ≡ c → list_by types h c ts ≡ Some x → AreParameters types h ts x
        listed (Some rest) d e = subst (AreParameters types h ts) {x = (some_parameters [], rest)} (from_some e) (after_finds Marks.CloseParenthesis ts rest d, omega arith)
        listed None d e =
            let l = then_read_some _ _ _ e in
            let a = and_after_some _ _ _ l.2 in
            let s = one_or_more_sound (IsParameter types h) (parameter types h) (parameter_sound types h) ts l.0 l.1 in
            subst (AreParameters types h ts) {x = (some_parameters l.0.0, a.0)} (from_some a.2) (list_join types h l.0.0 ts l.0.1 a.0 o s (after_finds Marks.CloseParenthesis l.0.1 a.0 a.1))

-- ## Functions

abbrev IsBody : List Name → ℕ → List Token → Option PartTrees × List Token → Type 0
IsBody types h ts x = SpellsBody types x.0 ts x.1 × (body_height x.0 ≤ h)

body_sound : (types : List Name) (h : ℕ) (ts : List Token) (x : Option PartTrees × List Token) → function_body types h ts ≡ Some x → IsBody types h ts x
unfolding function_body
body_sound types h ts x e = go (after Marks.Semicolon ts) refl e
  where
    go : (o : Option (List Token)) → after Marks.Semicolon ts ≡ o → function_body_by types h o ts ≡ Some x → IsBody types h ts x
    go (Some rest) o e = subst (IsBody types h ts) {x = (None, rest)} (from_some e) (after_finds Marks.Semicolon ts rest o, omega arith)
    go None o e =
        let b = then_read_some _ _ _ e in
        subst (IsBody types h ts) {x = (Some b.0.0, b.0.1)} (from_some b.2) (block_sound types h ts b.0 b.1)

-- ## Items

-- an item is one node more than the height of its parts
abbrev pub IsItem : List Name → ℕ → List Token → (ItemTree × List Name) × List Token → Type 0
IsItem types h ts x = SpellsItem types x.0.0 ts x.0.1 x.1 × (item_height x.0.0 ≤ suc h)

module _ (types : List Name) (h : ℕ) (found : List SpecifierTree) (ts a : List Token) (s : SpellsSpecifiers types false (as_specifiers found) ts a) (low : specifiers_height (as_specifiers found) ≤ h) (named : is_file_list (count_as (as_specifiers found)) ≡ true) where
  function_finds : (words : List PointerWord) (b c d : List Token) (n : Name) (place : Place) (x : (ItemTree × List Name) × List Token) → SpellsPointers words a b → BeginsWithStar words → Named types n place b d → function_after types h found words n place d ≡ Some x → IsItem types h ts x
  unfolding function_after
  function_finds words b c d n place x p star k e =
      let ps = then_read_some _ _ _ e in
      let body = then_read_some _ _ _ ps.2 in
      let f = parameters_sound types h d ps.0 ps.1 in
      let g = body_sound (behind_function types found n) h ps.0.1 body.0 body.1 in
      subst (IsItem types h ts)
      {x = ((a_function (record { specifiers = as_specifiers found; pointers = words; name = n; parameters = ps.0.0; body = body.0.0; place = place }), behind_function types found n), body.0.1)}
      (from_some body.2)
      ((a, b, k.0, d, ps.0.1, s, named, p, star, k.1, k.2, f.0, refl, g.0), omega (arith, f.1, g.1))

  declared_by_finds : (words : List PointerWord) (b : List Token) (x : (ItemTree × List Name) × List Token) → SpellsPointers words a b → BeginsWithStar words → declared_by types h found words b ≡ Some x → IsItem types h ts x
  declared_by_finds words b x p star e =
      let d = then_read_some _ _ _ e in
      let f = file_declarators_sound types h (is_typedef_list (count_as (as_specifiers found))) words a b d.0 p star d.1 in
      subst (IsItem types h ts) {x = ((a_declaration (record { specifiers = as_specifiers found; declarators = d.0.0.0 }), d.0.0.1), d.0.1)} (from_some d.2)
      ((a, f.0, s, named, f.1, f.2), omega (arith, f.3))

  behind_pointers_finds : (words : List PointerWord) (b : List Token) (x : (ItemTree × List Name) × List Token) → SpellsPointers words a b → BeginsWithStar words → behind_pointers types h found words b ≡ Some x → IsItem types h ts x
  unfolding behind_pointers
  behind_pointers_finds words b x p star e = go (function_name types b) refl e
    where
      go : (o : Option ((Name × Place) × List Token)) → function_name types b ≡ o → function_by types h found words o b ≡ Some x → IsItem types h ts x
      go (Some n) o e = function_finds words b b n.1 n.0.0 n.0.1 x p star (function_name_finds types b n o) e
      go None o e = declared_by_finds words b x p star e

  undeclared_finds : (o : Option (List Token)) → after Marks.Semicolon a ≡ o → (x : (ItemTree × List Name) × List Token) → undeclared_by types h found o a ≡ Some x → IsItem types h ts x
  undeclared_finds (Some rest) o x e =
      subst (IsItem types h ts) {x = ((a_declaration (record { specifiers = as_specifiers found; declarators = [] }), types), rest)} (from_some e)
      ((a, a, s, named, (refl, refl), after_finds Marks.Semicolon a rest o), omega arith)
  undeclared_finds None o x e = let p = pointers_sound a in behind_pointers_finds (pointers a).0 (pointers a).1 x p.0 p.1 e

module _ (types : List Name) (h : ℕ) where
  declared_item_finds : (ts : List Token) (x : (ItemTree × List Name) × List Token) → declared_item types h ts ≡ Some x → IsItem types h ts x
  unfolding declared_item behind_specifiers
  declared_item_finds ts x e =
      let a = then_read_some _ _ _ e in
      let s = specifiers_sound types h ts a.0 a.1 in
      let c = cond_some _ _ _ a.2 in
      undeclared_finds types h a.0.0 ts a.0.1 s.0 s.1 c.0 (after Marks.Semicolon a.0.1) refl x c.1

  mutex_item_finds : (ts0 ts : List Token) (x : (ItemTree × List Name) × List Token) → ByWord Words.Mutex ts0 ts → mutex_item types ts ≡ Some x → IsItem types h ts0 x
  unfolding mutex_item
  mutex_item_finds ts0 ts x by e =
      let n = then_read_some _ _ _ e in
      let a = and_after_some _ _ _ n.2 in
      subst (IsItem types h ts0) {x = ((a_mutex n.0.0.0 n.0.0.1, types), a.0)} (from_some a.2)
      ((refl, ts, n.0.1, by, declared_finds false types ts n.0 n.1, after_finds Marks.Semicolon n.0.1 a.0 a.1), omega arith)

  task_item_finds : (p : Place) (ts0 ts : List Token) (x : (ItemTree × List Name) × List Token) → Begins (Shapes.Word Words.Task) p ts0 ts → task_item types h p ts ≡ Some x → IsItem types h ts0 x
  unfolding task_item
  task_item_finds p ts0 ts x by e =
      let a = and_after_some _ _ _ e in
      let t = then_read_some _ _ _ a.2 in
      let c = and_after_some _ _ _ t.2 in
      let n = then_read_some _ _ _ c.2 in
      let b = then_read_some _ _ _ n.2 in
      let f = expression_sound types h 2 a.0 t.0 t.1 in
      let g = block_sound types h n.0.1 b.0 b.1 in
      subst (IsItem types h ts0) {x = ((a_task t.0.0 n.0.0.0 n.0.0.1 b.0.0 p, types), b.0.1)} (from_some b.2)
      ((refl, ts, a.0, t.0.1, c.0, n.0.1, by, after_finds Marks.OpenParenthesis ts a.0 a.1, f.0, after_finds Marks.CloseParenthesis t.0.1 c.0 c.1, task_head_finds types c.0 n.0 n.1, g.0), omega (arith, f.1, g.1))

  item_word_finds : (w : Word) (p : Place) (ts : List Token) (x : (ItemTree × List Name) × List Token) → item_word types h w p ts ((record { shape = Shapes.Word w; place = p }) ∷ ts) ≡ Some x → IsItem types h ((record { shape = Shapes.Word w; place = p }) ∷ ts) x
  item_word_finds Words.Mutex p ts x e = mutex_item_finds _ ts x (p, refl) e
  item_word_finds Words.Task p ts x e = task_item_finds p _ ts x refl e
  item_word_finds _ p ts x e = declared_item_finds _ x e

  item_sign_finds : (sign : Sign) (p : Place) (ts : List Token) (x : (ItemTree × List Name) × List Token) → item_sign types h sign ts ((record { shape = Shapes.Sign sign; place = p }) ∷ ts) ≡ Some x → IsItem types h ((record { shape = Shapes.Sign sign; place = p }) ∷ ts) x
  item_sign_finds Signs.Semicolon p ts x e = subst (IsItem types h _) {x = ((an_empty_item, types), ts)} (from_some e) ((refl, (p, refl)), omega arith)
  item_sign_finds _ p ts x e = declared_item_finds _ x e

  item_shape_finds : (shape : Shape) (p : Place) (ts : List Token) (x : (ItemTree × List Name) × List Token) → item_shape types h shape p ts ((record { shape = shape; place = p }) ∷ ts) ≡ Some x → IsItem types h ((record { shape = shape; place = p }) ∷ ts) x
  item_shape_finds (Shapes.Word w) p ts x e = item_word_finds w p ts x e
  item_shape_finds (Shapes.Sign sign) p ts x e = item_sign_finds sign p ts x e
  item_shape_finds _ p ts x e = declared_item_finds _ x e

  pub item_sound : (ts : List Token) (x : (ItemTree × List Name) × List Token) → item types h ts ≡ Some x → IsItem types h ts x
  unfolding item
  item_sound [] x e = none_some e
  item_sound (t ∷ ts) x e = item_shape_finds t.shape t.place ts x e

-- ## Files

-- the items that were read are those before and some that the tokens spell
abbrev pub ItemsRead : ℕ → List Name → List ItemTree → List Token → List ItemTree → Type 0
ItemsRead h types found ts items = (more : List ItemTree) × (items ≡ found ++ more) × SpellsItems types more ts × (tallest_item more ≤ suc h)

end_is : (b : Bool) (ts : List Token) → is_end ts ≡ b → b ≡ true → ts ≡ []
end_is b [] e f = refl
end_is b (t ∷ ts) e f = absurd (cc)

items_end : (h : ℕ) (types : List Name) (found : List ItemTree) (ts : List Token) (items : List ItemTree) → is_end ts ≡ true → found ≡ items → ItemsRead h types found ts items
items_end h types found ts items e f = ([], sym f ∙ sym (append-nil found), end_is true ts e refl, omega arith)

pub items_sound : (h n : ℕ) (types : List Name) (found : List ItemTree) (ts : List Token) (items : List ItemTree) → items_from h n types found ts ≡ Some items → ItemsRead h types found ts items
unfolding items_from
items_sound h zero types found ts items e = let c = cond_some _ _ _ e in items_end h types found ts items c.0 (from_some c.1)
items_sound h (suc n) types found ts items e = go (is_end ts) refl e (λ x rest f. items_sound h n x.1 (found ++ x.0 ∷ []) rest items f)
  where
    further : (x : (ItemTree × List Name) × List Token) → IsItem types h ts x → ItemsRead h x.0.1 (found ++ x.0.0 ∷ []) x.1 items → ItemsRead h types found ts items
    further x i r = (x.0.0 ∷ r.0, r.1 ∙ append_assoc found (x.0.0 ∷ []) r.0, (x.0.1, x.1, i.0, r.2), omega (arith, i.1, r.3))

    go : (b : Bool) → is_end ts ≡ b → cond b (Some found) (then_read (item types h ts) (λ x rest. items_from h n x.1 (found ++ x.0 ∷ []) rest)) ≡ Some items → ((x : ItemTree × List Name) (rest : List Token) → items_from h n x.1 (found ++ x.0 ∷ []) rest ≡ Some items → ItemsRead h x.1 (found ++ x.0 ∷ []) rest items) → ItemsRead h types found ts items
    go true b e ih = items_end h types found ts items b (from_some e)
    go false b e ih =
        let x = then_read_some _ _ _ e in
        further x.0 (item_sound types h ts x.0 x.1) (ih x.0.0 x.0.1 x.2)

pub file_sound : (ts : List Token) (items : List ItemTree) → file ts ≡ Some items → IsFileOf ts items
file_sound ts items e =
    let r = items_sound 498 (length ts) [] [] ts items e in
    record { spelled = subst (λ l. SpellsItems [] l ts) (sym r.1) r.2; low = subst (λ l. suc (tallest_item l) ≤ 500) (sym r.1) (omega (arith, r.3)) }
