-- What is read is spelled: at its level, within its height.
use Rattle.std.proofs.Common.{◌≡◌, ℕ, ◌<◌, ◌≤◌, true, false, List, length, arith}
use Rattle.std.proofs.lemmas.Bool.Decides.{nat_tests}
use Rattle.std.specs.Prelude.{nat_le, nat_eq}
use Rattle.tm_terms.specs.declared.places.Place.{Place}
use Rattle.tm_terms.specs.declared.tokens.Name.{Name}
use Rattle.tm_terms.specs.declared.tokens.Word.TheVariants as Words
use Rattle.tm_terms.specs.declared.tokens.Sign.{Sign}
use Rattle.tm_terms.specs.declared.tokens.Sign.TheVariants as Signs
use Rattle.tm_terms.specs.declared.tokens.Shape.TheVariants as Shapes
use Rattle.tm_terms.specs.declared.tokens.Token.{Token}
use Rattle.tm_terms.specs.declared.exprs.Prefix.{Prefix}
use Rattle.tm_terms.specs.declared.exprs.Prefix.TheVariants as Prefixes
use Rattle.tm_terms.specs.ExprTrees.{Tree, a_name, an_integer, a_character, in_parentheses, an_input, an_islocked, a_call, a_prefix, a_sizeof_type, a_cast, an_infix, a_conditional, a_subscript, a_member, a_postfix, Arguments, no_arguments, and_argument}
use Rattle.tm_terms.specs.ExprSpelling.{BySign, ByPrefix, access_sign, postfix_sign, Spells, SpellsArguments, SpellsMore}
use Rattle.c_expr_parser.proofs.Tokens.{begins_shorter}
use Rattle.c_expr_parser.proofs.TypeReading.{type_name_shorter}

-- tests on numbers
pub le_true : (m n : ℕ) → nat_le m n ≡ true → m ≤ n
le_true m n e = grind (arith, nat_tests)

pub positive : (n : ℕ) → nat_eq n 0 ≡ false → 1 ≤ n
positive n e = grind (arith, nat_tests)

pub by_shorter : (sign : Sign) (ts rest : List Token) → BySign sign ts rest → length rest < length ts
by_shorter sign ts rest s = begins_shorter (Shapes.Sign sign) s.0 ts rest s.1

prefix_shorter : (op : Prefix) (p : Place) (ts rest : List Token) → ByPrefix op p ts rest → length rest < length ts
prefix_shorter Prefixes.Sizeof p ts rest s = begins_shorter (Shapes.Word Words.Sizeof) p ts rest s
prefix_shorter Prefixes.Increment p ts rest s = begins_shorter (Shapes.Sign s.0) p ts rest s.2
prefix_shorter Prefixes.Decrement p ts rest s = begins_shorter (Shapes.Sign s.0) p ts rest s.2
prefix_shorter Prefixes.Address p ts rest s = begins_shorter (Shapes.Sign s.0) p ts rest s.2
prefix_shorter Prefixes.Dereference p ts rest s = begins_shorter (Shapes.Sign s.0) p ts rest s.2
prefix_shorter Prefixes.Plus p ts rest s = begins_shorter (Shapes.Sign s.0) p ts rest s.2
prefix_shorter Prefixes.Minus p ts rest s = begins_shorter (Shapes.Sign s.0) p ts rest s.2
prefix_shorter Prefixes.Complement p ts rest s = begins_shorter (Shapes.Sign s.0) p ts rest s.2
prefix_shorter Prefixes.Not p ts rest s = begins_shorter (Shapes.Sign s.0) p ts rest s.2

-- each expression is at least one token
mutual
  pub shorter : (types : List Name) (t : Tree) (ts rest : List Token) → Spells types t ts rest → length rest < length ts
  shorter types (a_name n p) ts rest s = begins_shorter (Shapes.Name n) p ts rest s.1
  shorter types (an_integer c p) ts rest s = begins_shorter (Shapes.Integer c) p ts rest s
  shorter types (a_character v p) ts rest s = begins_shorter (Shapes.Character v) p ts rest s
  shorter types (in_parentheses t) ts rest s =
      let a = by_shorter Signs.OpenParenthesis ts s.0 s.2 in let b = shorter types t s.0 s.1 s.3 in
      let c = by_shorter Signs.CloseParenthesis s.1 rest s.4 in omega arith
  shorter types (an_input low high p) ts rest s =
      let a = begins_shorter (Shapes.Word Words.Input) p ts s.0 s.5 in let b = by_shorter Signs.OpenParenthesis s.0 s.1 s.6 in
      let c = shorter types low s.1 s.2 s.7 in let d = by_shorter Signs.Comma s.2 s.3 s.9 in
      let e = shorter types high s.3 s.4 s.10 in let f = by_shorter Signs.CloseParenthesis s.4 rest s.12 in omega arith
  shorter types (an_islocked n q p) ts rest s =
      let a = begins_shorter (Shapes.Word Words.Islocked) p ts s.0 s.3 in let b = by_shorter Signs.OpenParenthesis s.0 s.1 s.4 in
      let c = begins_shorter (Shapes.Name n) q s.1 s.2 s.5.1 in let d = by_shorter Signs.CloseParenthesis s.2 rest s.6 in omega arith
  shorter types (a_call f args p) ts rest s =
      let a = begins_shorter (Shapes.Name f) p ts s.0 s.2.1 in let b = by_shorter Signs.OpenParenthesis s.0 s.1 s.3 in
      let c = arguments_shorter types args s.1 rest s.4 in omega arith
  shorter types (a_prefix op t p) ts rest s =
      let a = prefix_shorter op p ts s.0 s.1 in let b = shorter types t s.0 rest s.2 in omega arith
  shorter types (a_sizeof_type n p) ts rest s =
      let a = begins_shorter (Shapes.Word Words.Sizeof) p ts s.0 s.3 in let b = by_shorter Signs.OpenParenthesis s.0 s.1 s.4 in
      let c = type_name_shorter types n s.1 s.2 s.5 in let d = by_shorter Signs.CloseParenthesis s.2 rest s.6 in omega arith
  shorter types (a_cast n t p) ts rest s =
      let a = begins_shorter (Shapes.Sign Signs.OpenParenthesis) p ts s.0 s.3 in let b = type_name_shorter types n s.0 s.1 s.4 in
      let c = by_shorter Signs.CloseParenthesis s.1 s.2 s.5 in let d = shorter types t s.2 rest s.6 in omega arith
  shorter types (an_infix l op p r) ts rest s =
      let a = shorter types l ts s.0 s.2 in let b = begins_shorter (Shapes.Sign s.4.0) p s.0 s.1 s.4.2 in
      let c = shorter types r s.1 rest s.5 in omega arith
  shorter types (a_conditional c p x y) ts rest s =
      let a = shorter types c ts s.0 s.4 in let b = begins_shorter (Shapes.Sign Signs.Question) p s.0 s.1 s.6 in
      let d = shorter types x s.1 s.2 s.7 in let e = by_shorter Signs.Colon s.2 s.3 s.8 in
      let f = shorter types y s.3 rest s.9 in omega arith
  shorter types (a_subscript t p i) ts rest s =
      let a = shorter types t ts s.0 s.3 in let b = begins_shorter (Shapes.Sign Signs.OpenBracket) p s.0 s.1 s.5 in
      let c = shorter types i s.1 s.2 s.6 in let d = by_shorter Signs.CloseBracket s.2 rest s.7 in omega arith
  shorter types (a_member t access p m q) ts rest s =
      let a = shorter types t ts s.0 s.2 in let b = begins_shorter (Shapes.Sign (access_sign access)) p s.0 s.1 s.4 in
      let c = begins_shorter (Shapes.Name m) q s.1 rest s.5 in omega arith
  shorter types (a_postfix t op p) ts rest s =
      let a = shorter types t ts s.0 s.1 in let b = begins_shorter (Shapes.Sign (postfix_sign op)) p s.0 rest s.3 in omega arith

  pub arguments_shorter : (types : List Name) (args : Arguments) (ts rest : List Token) → SpellsArguments types args ts rest → length rest < length ts
  arguments_shorter types no_arguments ts rest s = by_shorter Signs.CloseParenthesis ts rest s
  arguments_shorter types (and_argument t args) ts rest s =
      let a = shorter types t ts s.0 s.1 in let b = more_shorter types args s.0 rest s.3 in omega arith

  pub more_shorter : (types : List Name) (args : Arguments) (ts rest : List Token) → SpellsMore types args ts rest → length rest < length ts
  more_shorter types no_arguments ts rest s = by_shorter Signs.CloseParenthesis ts rest s
  more_shorter types (and_argument t args) ts rest s =
      let a = by_shorter Signs.Comma ts s.0 s.2 in let b = shorter types t s.0 s.1 s.3 in
      let c = more_shorter types args s.1 rest s.5 in omega arith
