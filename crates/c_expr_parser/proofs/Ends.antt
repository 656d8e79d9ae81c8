-- What is spelled stands before what follows it.
use Rattle.std.proofs.Common.{◌≡◌, ℕ, ◌+◌, ◌≤◌, Bool, false, List, [], ◌∷◌, ◌++◌, length, sym, ap, ◌∙◌, arith}
use Rattle.tm_terms.specs.declared.places.Place.{Place}
use Rattle.tm_terms.specs.declared.tokens.Name.{Name}
use Rattle.tm_terms.specs.declared.tokens.Word.TheVariants as Words
use Rattle.tm_terms.specs.declared.tokens.Sign.{Sign}
use Rattle.tm_terms.specs.declared.tokens.Sign.TheVariants as Signs
use Rattle.tm_terms.specs.declared.tokens.Shape.{Shape}
use Rattle.tm_terms.specs.declared.tokens.Shape.TheVariants as Shapes
use Rattle.tm_terms.specs.declared.tokens.Token.{Token}
use Rattle.tm_terms.specs.declared.exprs.Prefix.{Prefix}
use Rattle.tm_terms.specs.declared.exprs.Prefix.TheVariants as Prefixes
use Rattle.tm_terms.specs.ExprTrees.{TypeTree, Tree, a_name, an_integer, a_character, in_parentheses, an_input, an_islocked, a_call, a_prefix, a_sizeof_type, a_cast, an_infix, a_conditional, a_subscript, a_member, a_postfix, Arguments, no_arguments, and_argument}
use Rattle.tm_terms.specs.ExprSpelling.{Begins, BySign, ByPrefix, access_sign, postfix_sign, SpellsTypeName, Spells, SpellsArguments, SpellsMore}
use Rattle.std.proofs.Common.{◌-◌, take, drop, append_assoc, length-append}
use Rattle.std.proofs.Math.Seq.{drop-append_seam}
use Rattle.std.proofs.lemmas.List.{take-append-drop}
use Rattle.tm_terms.specs.declared.types_named.Spec.{Spec}
use Rattle.tm_terms.specs.declared.types_named.SpecWord.{SpecWord}
use Rattle.tm_terms.specs.declared.types_named.SpecWord.TheVariants as Specs
use Rattle.tm_terms.specs.declared.types_named.PointerWord.{PointerWord}
use Rattle.tm_terms.specs.ExprSpelling.{SpellsSpec, SpellsSpecs, SpellsPointers, is_type_spec, pointer_shape, tag_word}
use Rattle.std.specs.Prelude.{◌||◌}

-- the tokens are some and then rest
abbrev Ahead : List Token → List Token → Type 0
Ahead ts rest = (front : List Token) × (ts ≡ front ++ rest)

same : (ts rest : List Token) → ts ≡ rest → Ahead ts rest
same ts rest e = ([], e)

one : (shape : Shape) (p : Place) (ts rest : List Token) → Begins shape p ts rest → Ahead ts rest
one shape p ts rest e = ((record { shape = shape; place = p }) ∷ [], e)

sign : (s : Sign) (ts rest : List Token) → BySign s ts rest → Ahead ts rest
sign s ts rest b = one (Shapes.Sign s) b.0 ts rest b.1

infixr 20 ◌▹◌
◌▹◌ : {ts mid rest : List Token} → Ahead ts mid → Ahead mid rest → Ahead ts rest
◌▹◌ {ts} {mid} {rest} a b = (a.0 ++ b.0, a.1 ∙ ap (λ l. a.0 ++ l) b.1 ∙ sym (append_assoc a.0 b.0 rest))

spec_ahead : (types : List Name) (seen : Bool) (word : SpecWord) (p : Place) (ts rest : List Token) → SpellsSpec types seen word p ts rest → Ahead ts rest
spec_ahead types seen (Specs.Tagged kind n q) p ts rest s = one (Shapes.Word (tag_word kind)) p ts s.0 s.1 ▹ one (Shapes.Name n) q s.0 rest s.2
spec_ahead types seen (Specs.Alias n) p ts rest s = one (Shapes.Name n) p ts rest s.2
spec_ahead types seen (Specs.Storage k) p ts rest s = one (Shapes.Word s.0) p ts rest s.2
spec_ahead types seen (Specs.Qualifier k) p ts rest s = one (Shapes.Word s.0) p ts rest s.2
spec_ahead types seen (Specs.Basic k) p ts rest s = one (Shapes.Word s.0) p ts rest s.2

specs_ahead : (types : List Name) (seen : Bool) (specs : List Spec) (ts rest : List Token) → SpellsSpecs types seen specs ts rest → Ahead ts rest
specs_ahead types seen [] ts rest s = same ts rest s
specs_ahead types seen (x ∷ specs) ts rest s = spec_ahead types seen x.word x.place ts s.0 s.1 ▹ specs_ahead types (seen || is_type_spec x.word) specs s.0 rest s.2

pointers_ahead : (words : List PointerWord) (ts rest : List Token) → SpellsPointers words ts rest → Ahead ts rest
pointers_ahead [] ts rest s = same ts rest s
pointers_ahead (w ∷ words) ts rest s = one (pointer_shape w) s.0 ts s.1 s.2 ▹ pointers_ahead words s.1 rest s.3

type_ahead : (types : List Name) (n : TypeTree) (ts rest : List Token) → SpellsTypeName types n ts rest → Ahead ts rest
type_ahead types n ts rest s = specs_ahead types false n.specs ts s.0 s.1 ▹ pointers_ahead n.pointers s.0 rest s.4

prefix_ahead : (op : Prefix) (p : Place) (ts rest : List Token) → ByPrefix op p ts rest → Ahead ts rest
prefix_ahead Prefixes.Sizeof p ts rest s = one (Shapes.Word Words.Sizeof) p ts rest s
prefix_ahead Prefixes.Increment p ts rest s = one (Shapes.Sign s.0) p ts rest s.2
prefix_ahead Prefixes.Decrement p ts rest s = one (Shapes.Sign s.0) p ts rest s.2
prefix_ahead Prefixes.Address p ts rest s = one (Shapes.Sign s.0) p ts rest s.2
prefix_ahead Prefixes.Dereference p ts rest s = one (Shapes.Sign s.0) p ts rest s.2
prefix_ahead Prefixes.Plus p ts rest s = one (Shapes.Sign s.0) p ts rest s.2
prefix_ahead Prefixes.Minus p ts rest s = one (Shapes.Sign s.0) p ts rest s.2
prefix_ahead Prefixes.Complement p ts rest s = one (Shapes.Sign s.0) p ts rest s.2
prefix_ahead Prefixes.Not p ts rest s = one (Shapes.Sign s.0) p ts rest s.2

mutual
  ahead : (types : List Name) (t : Tree) (ts rest : List Token) → Spells types t ts rest → Ahead ts rest
  ahead types (a_name n p) ts rest s = one (Shapes.Name n) p ts rest s.1
  ahead types (an_integer c p) ts rest s = one (Shapes.Integer c) p ts rest s
  ahead types (a_character v p) ts rest s = one (Shapes.Character v) p ts rest s
  ahead types (in_parentheses t) ts rest s =
      sign Signs.OpenParenthesis ts s.0 s.2 ▹ ahead types t s.0 s.1 s.3 ▹ sign Signs.CloseParenthesis s.1 rest s.4
  ahead types (an_input low high p) ts rest s =
      one (Shapes.Word Words.Input) p ts s.0 s.5 ▹ sign Signs.OpenParenthesis s.0 s.1 s.6 ▹ ahead types low s.1 s.2 s.7 ▹ sign Signs.Comma s.2 s.3 s.9
      ▹ ahead types high s.3 s.4 s.10 ▹ sign Signs.CloseParenthesis s.4 rest s.12
  ahead types (an_islocked n q p) ts rest s =
      one (Shapes.Word Words.Islocked) p ts s.0 s.3 ▹ sign Signs.OpenParenthesis s.0 s.1 s.4 ▹ one (Shapes.Name n) q s.1 s.2 s.5.1 ▹ sign Signs.CloseParenthesis s.2 rest s.6
  ahead types (a_call f args p) ts rest s =
      one (Shapes.Name f) p ts s.0 s.2.1 ▹ sign Signs.OpenParenthesis s.0 s.1 s.3 ▹ arguments_ahead types args s.1 rest s.4
  ahead types (a_prefix op t p) ts rest s = prefix_ahead op p ts s.0 s.1 ▹ ahead types t s.0 rest s.2
  ahead types (a_sizeof_type n p) ts rest s =
      one (Shapes.Word Words.Sizeof) p ts s.0 s.3 ▹ sign Signs.OpenParenthesis s.0 s.1 s.4 ▹ type_ahead types n s.1 s.2 s.5 ▹ sign Signs.CloseParenthesis s.2 rest s.6
  ahead types (a_cast n t p) ts rest s =
      one (Shapes.Sign Signs.OpenParenthesis) p ts s.0 s.3 ▹ type_ahead types n s.0 s.1 s.4 ▹ sign Signs.CloseParenthesis s.1 s.2 s.5 ▹ ahead types t s.2 rest s.6
  ahead types (an_infix l op p r) ts rest s =
      ahead types l ts s.0 s.2 ▹ one (Shapes.Sign s.4.0) p s.0 s.1 s.4.2 ▹ ahead types r s.1 rest s.5
  ahead types (a_conditional c p x y) ts rest s =
      ahead types c ts s.0 s.4 ▹ one (Shapes.Sign Signs.Question) p s.0 s.1 s.6 ▹ ahead types x s.1 s.2 s.7 ▹ sign Signs.Colon s.2 s.3 s.8 ▹ ahead types y s.3 rest s.9
  ahead types (a_subscript t p i) ts rest s =
      ahead types t ts s.0 s.3 ▹ one (Shapes.Sign Signs.OpenBracket) p s.0 s.1 s.5 ▹ ahead types i s.1 s.2 s.6 ▹ sign Signs.CloseBracket s.2 rest s.7
  ahead types (a_member t access p m q) ts rest s =
      ahead types t ts s.0 s.2 ▹ one (Shapes.Sign (access_sign access)) p s.0 s.1 s.4 ▹ one (Shapes.Name m) q s.1 rest s.5
  ahead types (a_postfix t op p) ts rest s =
      ahead types t ts s.0 s.1 ▹ one (Shapes.Sign (postfix_sign op)) p s.0 rest s.3

  arguments_ahead : (types : List Name) (args : Arguments) (ts rest : List Token) → SpellsArguments types args ts rest → Ahead ts rest
  arguments_ahead types no_arguments ts rest s = sign Signs.CloseParenthesis ts rest s
  arguments_ahead types (and_argument t args) ts rest s = ahead types t ts s.0 s.1 ▹ more_ahead types args s.0 rest s.3

  more_ahead : (types : List Name) (args : Arguments) (ts rest : List Token) → SpellsMore types args ts rest → Ahead ts rest
  more_ahead types no_arguments ts rest s = sign Signs.CloseParenthesis ts rest s
  more_ahead types (and_argument t args) ts rest s = sign Signs.Comma ts s.0 s.2 ▹ ahead types t s.0 s.1 s.3 ▹ more_ahead types args s.1 rest s.5

-- so what follows is the end of the tokens from some index on
pub ends_at : (types : List Name) (t : Tree) (tokens : List Token) (from : ℕ) (rest : List Token) → Spells types t (drop from tokens) rest → (length rest ≤ length tokens) × (drop (length tokens - length rest) tokens ≡ rest)
ends_at types t tokens from rest s =
    let a = ahead types t (drop from tokens) rest s in
    let before : List Token = take from tokens ++ a.0 in
    let e : tokens ≡ before ++ rest = sym (take-append-drop from tokens) ∙ ap (λ l. take from tokens ++ l) a.1 ∙ sym (append_assoc (take from tokens) a.0 rest) in
    let n : length tokens ≡ length before + length rest = ap length e ∙ length-append before rest in
    let k : length tokens - length rest ≡ length before = omega arith in
    (omega arith, ap (λ i. drop i tokens) k ∙ ap (drop (length before)) e ∙ drop-append_seam before rest)
