-- Words, names and marks that come first: what the tests on them find, and that they find what is spelled.
use Rattle.std.proofs.Common.{◌≡◌, Bool, true, false, cond, List, Option, Some, None, refl, sym, ap, ◌∙◌, subst}
use Rattle.tm_terms.specs.declared.places.Place.{Place}
use Rattle.tm_terms.specs.declared.tokens.Name.{Name}
use Rattle.tm_terms.specs.declared.tokens.Sign.TheVariants as Signs
use Rattle.tm_terms.specs.declared.tokens.Token.{Token}
use Rattle.tm_terms.specs.ExprSpelling.{BySign, ByName}
use Rattle.c_expr_parser.specs.declared.marks.Mark.TheVariants as Marks
use Rattle.c_expr_parser.specs.reading.Parts.{then_read, and_after}
use Rattle.c_expr_parser.proofs.Tokens.{none_some, from_some, after_finds, after_spelled}
use Rattle.c_expr_parser.proofs.Tokens.{then_read_some, and_after_some}
use Rattle.tm_trees.specs.DeclarationSpelling.{ByWord}
use Rattle.tm_trees.specs.FileSpelling.{SpellsMutex, BeginsOnlyVoid, SpellsTaskHead}
use Rattle.c_decl_parser.specs.declared.tokens.Keyword.{Keyword}
use Rattle.c_decl_parser.specs.declared.tokens.Keyword.TheVariants as Keywords
use Rattle.c_decl_parser.specs.reading.Parts.{after_word}
use Rattle.c_decl_parser.proofs.MarkReading.{keyword_word, after_word_finds, after_word_spelled, declared_finds, declared_spelled}
use Rattle.c_parser.specs.reading.FileDescent.{mutex_in, only_void_at, function_name, task_head}

-- ## Words

-- no such word comes first
pub word_missing : (word : Keyword) (ts : List Token) → after_word word ts ≡ None → (rest : List Token) → ByWord (keyword_word word) ts rest → ⊥
word_missing word ts e rest s = none_some (sym e ∙ after_word_spelled word ts rest s)

pub word_none : (word : Keyword) (ts : List Token) → ((rest : List Token) → ByWord (keyword_word word) ts rest → ⊥) → after_word word ts ≡ None
word_none word ts missing = go (after_word word ts) refl
  where
    go : (o : Option (List Token)) → after_word word ts ≡ o → after_word word ts ≡ None
    go None e = e
    go (Some rest) e = absurd (missing rest (after_word_finds word ts rest e))

-- ## Chains of readings: an answer from those of the steps

pub then_read_is : {A B : Type 0} (o : Option (A × List Token)) (x : A × List Token) (go : A → List Token → Option B) (y : Option B) → o ≡ Some x → go x.0 x.1 ≡ y → then_read o go ≡ y
then_read_is o x go y e f = ap (λ o. then_read o go) e ∙ f

pub and_after_is : {B : Type 0} (o : Option (List Token)) (rest : List Token) (go : List Token → Option B) (y : Option B) → o ≡ Some rest → go rest ≡ y → and_after o go ≡ y
and_after_is o rest go y e f = ap (λ o. and_after o go) e ∙ f

pub and_after_none : {B : Type 0} (o : Option (List Token)) (go : List Token → Option B) → o ≡ None → and_after o go ≡ None
and_after_none o go e = ap (λ o. and_after o go) e

pub cond_is : {B : Type 0} (b : Bool) (o : Option B) (y : Option B) → b ≡ true → o ≡ y → cond b o None ≡ y
cond_is b o y e f = ap (λ b. cond b o None) e ∙ f

-- ## Words, names and marks together

pub mutex_finds : (types : List Name) (ts : List Token) (x : (Name × Place) × List Token) → mutex_in types ts ≡ Some x → SpellsMutex types x.0.0 x.0.1 ts x.1
unfolding mutex_in
mutex_finds types ts x e =
    let a = and_after_some _ _ _ e in
    let n = then_read_some _ _ _ a.2 in
    let b = and_after_some _ _ _ n.2 in
    let c = and_after_some _ _ _ b.2 in
    subst (λ (y : (Name × Place) × List Token). SpellsMutex types y.0.0 y.0.1 ts y.1) (from_some c.2)
    (a.0, n.0.1, b.0, after_finds Marks.OpenParenthesis ts a.0 a.1, declared_finds false types a.0 n.0 n.1, after_finds Marks.CloseParenthesis n.0.1 b.0 b.1, after_finds Marks.Semicolon b.0 c.0 c.1)

pub mutex_spelled : (types : List Name) (n : Name) (p : Place) (ts rest : List Token) → SpellsMutex types n p ts rest → mutex_in types ts ≡ Some ((n, p), rest)
unfolding mutex_in
mutex_spelled types n p ts rest s =
    and_after_is _ _ _ _ (after_spelled Marks.OpenParenthesis ts s.0 s.3)
    (then_read_is _ _ _ _ (declared_spelled false types n p s.0 s.1 s.4)
    (and_after_is _ _ _ _ (after_spelled Marks.CloseParenthesis s.1 s.2 s.5)
    (and_after_is _ _ _ _ (after_spelled Marks.Semicolon s.2 rest s.6) refl)))

pub only_void_finds : (ts rest : List Token) → only_void_at ts ≡ Some rest → BeginsOnlyVoid ts rest
unfolding only_void_at
only_void_finds ts rest e =
    let a = and_after_some _ _ _ e in (a.0, after_word_finds Keywords.Void ts a.0 a.1, after_finds Marks.CloseParenthesis a.0 rest a.2)

pub only_void_spelled : (ts rest : List Token) → BeginsOnlyVoid ts rest → only_void_at ts ≡ Some rest
unfolding only_void_at
only_void_spelled ts rest s = and_after_is _ _ _ _ (after_word_spelled Keywords.Void ts s.0 s.1) (after_spelled Marks.CloseParenthesis s.0 rest s.2)

pub only_void_missing : (ts : List Token) → only_void_at ts ≡ None → (rest : List Token) → BeginsOnlyVoid ts rest → ⊥
only_void_missing ts e rest s = none_some (sym e ∙ only_void_spelled ts rest s)

pub only_void_none : (ts : List Token) → ((rest : List Token) → BeginsOnlyVoid ts rest → ⊥) → only_void_at ts ≡ None
only_void_none ts missing = go (only_void_at ts) refl
  where
    go : (o : Option (List Token)) → only_void_at ts ≡ o → only_void_at ts ≡ None
    go None e = e
    go (Some rest) e = absurd (missing rest (only_void_finds ts rest e))

-- a name and the `(` after it
abbrev pub Named : List Name → Name → Place → List Token → List Token → Type 0
Named types n p ts rest = (a : List Token) × ByName types n p ts a × BySign Signs.OpenParenthesis a rest

pub function_name_finds : (types : List Name) (ts : List Token) (x : (Name × Place) × List Token) → function_name types ts ≡ Some x → Named types x.0.0 x.0.1 ts x.1
unfolding function_name
function_name_finds types ts x e =
    let n = then_read_some _ _ _ e in
    let a = and_after_some _ _ _ n.2 in
    subst (λ (y : (Name × Place) × List Token). Named types y.0.0 y.0.1 ts y.1) (from_some a.2) (n.0.1, declared_finds false types ts n.0 n.1, after_finds Marks.OpenParenthesis n.0.1 a.0 a.1)

pub function_name_spelled : (types : List Name) (n : Name) (p : Place) (ts rest : List Token) → Named types n p ts rest → function_name types ts ≡ Some ((n, p), rest)
unfolding function_name
function_name_spelled types n p ts rest s =
    then_read_is _ _ _ _ (declared_spelled false types n p ts s.0 s.1) (and_after_is _ _ _ _ (after_spelled Marks.OpenParenthesis s.0 rest s.2) refl)

pub task_head_finds : (types : List Name) (ts : List Token) (x : (Name × Place) × List Token) → task_head types ts ≡ Some x → SpellsTaskHead types x.0.0 x.0.1 ts x.1
unfolding task_head
task_head_finds types ts x e =
    let a = and_after_some _ _ _ e in
    let n = then_read_some _ _ _ a.2 in
    let b = and_after_some _ _ _ n.2 in
    let c = and_after_some _ _ _ b.2 in
    subst (λ (y : (Name × Place) × List Token). SpellsTaskHead types y.0.0 y.0.1 ts y.1) (from_some c.2)
    (a.0, n.0.1, b.0, after_word_finds Keywords.Void ts a.0 a.1, declared_finds false types a.0 n.0 n.1, after_finds Marks.OpenParenthesis n.0.1 b.0 b.1, only_void_finds b.0 c.0 c.1)

pub task_head_spelled : (types : List Name) (n : Name) (p : Place) (ts rest : List Token) → SpellsTaskHead types n p ts rest → task_head types ts ≡ Some ((n, p), rest)
unfolding task_head
task_head_spelled types n p ts rest s =
    and_after_is _ _ _ _ (after_word_spelled Keywords.Void ts s.0 s.3)
    (then_read_is _ _ _ _ (declared_spelled false types n p s.0 s.1 s.4)
    (and_after_is _ _ _ _ (after_spelled Marks.OpenParenthesis s.1 s.2 s.5)
    (and_after_is _ _ _ _ (only_void_spelled s.2 rest s.6) refl)))
