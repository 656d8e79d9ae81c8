-- The descent for expressions. `read` stands for the reading of a part: at a level, from some tokens.
use Rattle.std.specs.Prelude.{ℕ, zero, suc, Bool, false, cond, ◌&&◌, nat_le, nat_eq, List, [], ◌∷◌, length, Option}
use Rattle.std.specs.Prelude.{Some, None}
use Rattle.tm_terms.specs.declared.places.Place.{Place}
use Rattle.tm_terms.specs.declared.tokens.Name.{Name}
use Rattle.tm_terms.specs.declared.tokens.Word.{Word}
use Rattle.tm_terms.specs.declared.tokens.Word.TheVariants as Words
use Rattle.tm_terms.specs.declared.tokens.Sign.{Sign}
use Rattle.tm_terms.specs.declared.tokens.Sign.TheVariants as Signs
use Rattle.tm_terms.specs.declared.tokens.Shape.{Shape}
use Rattle.tm_terms.specs.declared.tokens.Shape.TheVariants as Shapes
use Rattle.tm_terms.specs.declared.tokens.Token.{Token}
use Rattle.tm_terms.specs.declared.exprs.Prefix.{Prefix}
use Rattle.tm_terms.specs.declared.exprs.Prefix.TheVariants as Prefixes
use Rattle.tm_terms.specs.declared.exprs.Access.{Access}
use Rattle.tm_terms.specs.declared.exprs.Level.TheVariants as Levels
use Rattle.tm_terms.specs.Names.{is_typedef}
use Rattle.tm_terms.specs.ExprTrees.{TypeTree, Tree, a_name, an_integer, a_character, in_parentheses, an_input}
use Rattle.tm_terms.specs.ExprTrees.{an_islocked, a_call, a_prefix, a_sizeof_type, a_cast, an_infix, a_conditional}
use Rattle.tm_terms.specs.ExprTrees.{a_subscript, a_member, a_postfix, Arguments, no_arguments, and_argument, rank}
use Rattle.tm_terms.specs.ExprTrees.{right_level, operand_level, level, height}
use Rattle.tm_terms.specs.ExprSpelling.{prefix_of}
use Rattle.c_expr_parser.specs.declared.marks.Mark.TheVariants as Marks
use Rattle.c_expr_parser.specs.declared.marks.Opener.{Opener}
use Rattle.c_expr_parser.specs.declared.marks.Opener.TheVariants as Openers
use Rattle.c_expr_parser.specs.reading.Parts.{then_read, and_after, after, name_at, opener_of, opener_level}
use Rattle.c_expr_parser.specs.reading.Parts.{opener_left, type_name, begins_type}

-- the reading of a part
abbrev pub Part : Type 0
Part = ℕ → List Token → Option (Tree × List Token)

-- a further argument at the end
abbrev pub push_argument : Arguments → Tree → Arguments
push_argument no_arguments t = and_argument t no_arguments
push_argument (and_argument a args) t = and_argument a (push_argument args t)

-- what comes after an argument: a `,` and further arguments, or the `)`
abbrev pub more_by : Option (List Token) → Option (List Token) → Arguments
    → (List Token → Option (Arguments × List Token)) → Option (Arguments × List Token)
more_by (Some rest) closed args go = go rest
more_by None None args go = None
more_by None (Some rest) args go = Some (args, rest)

-- after those read so far at least one more argument, at most n
unfoldable pub arguments_from : Part → ℕ → Arguments → List Token → Option (Arguments × List Token)
arguments_from read zero args ts = None
arguments_from read (suc n) args ts = then_read (read (rank Levels.Assignment) ts) (λ t rest.
    more_by (after Marks.Comma rest) (after Marks.CloseParenthesis rest) (push_argument args t)
    (λ next. arguments_from read n (push_argument args t) next))

abbrev pub arguments_by : Part → Option (List Token) → List Token → Option (Arguments × List Token)
arguments_by read (Some rest) ts = Some (no_arguments, rest)
arguments_by read None ts = arguments_from read (length ts) no_arguments ts

-- the arguments of a call after its `(`, and the `)`
unfoldable pub arguments : Part → List Token → Option (Arguments × List Token)
arguments read ts = arguments_by read (after Marks.CloseParenthesis ts) ts

abbrev pub call_or_name : Name → Place → List Token → Option (Arguments × List Token) → Tree × List Token
call_or_name n place ts None = (a_name n place, ts)
call_or_name n place ts (Some found) = (a_call n found.0 place, found.1)

abbrev pub called : Part → Option (List Token) → Option (Arguments × List Token)
called read None = None
called read (Some rest) = arguments read rest

-- after a name: a call if arguments follow, else the name
unfoldable pub name_form : List Name → Part → Name → Place → List Token → Option (Tree × List Token)
name_form types read n place ts =
    cond (is_typedef types n) None (Some (call_or_name n place ts (called read (after Marks.OpenParenthesis ts))))

-- after an operator: its operand
unfoldable pub prefix_form : Part → Prefix → Place → List Token → Option (Tree × List Token)
prefix_form read op place ts = then_read (read (operand_level op) ts) (λ t rest. Some (a_prefix op t place, rest))

-- after a `(`: an expression and the `)`
unfoldable pub inside_form : Part → List Token → Option (Tree × List Token)
inside_form read ts = then_read (read (rank Levels.Comma) ts) (λ t rest.
    and_after (after Marks.CloseParenthesis rest) (λ next. Some (in_parentheses t, next)))

-- a type name and the `)` after it
unfoldable pub closed_type : List Name → List Token → Option (TypeTree × List Token)
closed_type types ts = then_read (type_name types ts) (λ n rest.
    and_after (after Marks.CloseParenthesis rest) (λ next. Some (n, next)))

-- after the `(` of a cast: the type, the `)` and the operand
unfoldable pub cast_form : List Name → Part → Place → List Token → Option (Tree × List Token)
cast_form types read place ts = then_read (closed_type types ts) (λ n next.
    then_read (read (rank Levels.Cast) next) (λ t rest. Some (a_cast n t place, rest)))

-- after `sizeof (`: a type and the `)`, where one node more is allowed
unfoldable pub sizeof_type_form : List Name → ℕ → Place → List Token → Option (Tree × List Token)
sizeof_type_form types allowed place ts = cond (nat_eq allowed 0) None (then_read (closed_type types ts) (λ n next.
    Some (a_sizeof_type n place, next)))

abbrev pub type_follows : List Name → Option (List Token) → Bool
type_follows types None = false
type_follows types (Some rest) = begins_type types rest

-- after `sizeof`: a type in parentheses, or an operand
unfoldable pub sizeof_form : List Name → Part → ℕ → Place → List Token → Option (Tree × List Token)
sizeof_form types read allowed place ts = cond (type_follows types (after Marks.OpenParenthesis ts))
    (and_after (after Marks.OpenParenthesis ts) (λ next. sizeof_type_form types allowed place next))
    (prefix_form read Prefixes.Sizeof place ts)

-- after `__input`: two expressions in parentheses
unfoldable pub input_form : Part → Place → List Token → Option (Tree × List Token)
input_form read place ts = and_after (after Marks.OpenParenthesis ts) (λ a.
    then_read (read (rank Levels.Condition) a) (λ low b.
    and_after (after Marks.Comma b) (λ c.
    then_read (read (rank Levels.Condition) c) (λ high d.
    and_after (after Marks.CloseParenthesis d) (λ rest. Some (an_input low high place, rest))))))

-- after `__islocked`: a name in parentheses
unfoldable pub islocked_form : List Name → Place → List Token → Option (Tree × List Token)
islocked_form types place ts = and_after (after Marks.OpenParenthesis ts) (λ a.
    then_read (name_at a) (λ m b. cond (is_typedef types m.0) None
    (and_after (after Marks.CloseParenthesis b) (λ rest. Some (an_islocked m.0 m.1 place, rest)))))

abbrev pub sign_form : List Name → Part → Option Prefix → Sign → Place → List Token → Option (Tree × List Token)
sign_form types read (Some op) sign place ts = prefix_form read op place ts
sign_form types read None Signs.OpenParenthesis place ts =
    cond (begins_type types ts) (cast_form types read place ts) (inside_form read ts)
sign_form types read None _ place ts = None

abbrev pub word_form : List Name → Part → ℕ → Word → Place → List Token → Option (Tree × List Token)
word_form types read allowed Words.Sizeof place ts = sizeof_form types read allowed place ts
word_form types read allowed Words.Input place ts = input_form read place ts
word_form types read allowed Words.Islocked place ts = islocked_form types place ts
word_form types read allowed _ place ts = None

abbrev pub form_by : List Name → Part → ℕ → Shape → Place → List Token → Option (Tree × List Token)
form_by types read allowed (Shapes.Name n) place ts = name_form types read n place ts
form_by types read allowed (Shapes.Word w) place ts = word_form types read allowed w place ts
form_by types read allowed (Shapes.Integer c) place ts = Some (an_integer c place, ts)
form_by types read allowed (Shapes.Character v) place ts = Some (a_character v place, ts)
form_by types read allowed (Shapes.Sign sign) place ts = sign_form types read (prefix_of sign) sign place ts

-- the expression that the first token begins, with no operator after it
unfoldable pub form : List Name → Part → ℕ → List Token → Option (Tree × List Token)
form types read allowed [] = None
form types read allowed (t ∷ ts) = form_by types read allowed t.shape t.place ts

-- a member of the expression t
abbrev pub continued_member : Access → Tree → Place → Option ((Name × Place) × List Token) → Option (Tree × List Token)
continued_member access t place found = then_read found (λ m rest. Some (a_member t access place m.0 m.1, rest))

-- after a token that continues the expression t: what it makes of it
unfoldable pub continued : Part → Opener → Tree → Place → List Token → Option (Tree × List Token)
continued read (Openers.Infix op) t place ts =
    then_read (read (right_level op) ts) (λ r rest. Some (an_infix t op place r, rest))
continued read Openers.Question t place ts = then_read (read (rank Levels.Comma) ts) (λ x a.
    and_after (after Marks.Colon a) (λ b.
    then_read (read (rank Levels.Condition) b) (λ y rest. Some (a_conditional t place x y, rest))))
continued read Openers.Subscript t place ts = then_read (read (rank Levels.Comma) ts) (λ i a.
    and_after (after Marks.CloseBracket a) (λ rest. Some (a_subscript t place i, rest)))
continued read (Openers.Member access) t place ts = continued_member access t place (name_at ts)
continued read (Openers.Postfix op) t place ts = Some (a_postfix t op place, ts)

-- the token may continue the expression t to one of this level or a tighter one, and of one node more
abbrev pub may_continue : ℕ → ℕ → Opener → Tree → Bool
may_continue at allowed opener t =
    nat_le at (opener_level opener) && nat_le (opener_left opener) (level t) && nat_le (height t) allowed

abbrev pub step_by : Part → ℕ → ℕ → Option Opener → Tree → Place → List Token → Option (Tree × List Token)
step_by read at allowed None t place ts = None
step_by read at allowed (Some opener) t place ts =
    cond (may_continue at allowed opener t) (continued read opener t place ts) None

-- the expression t with one operator more
unfoldable pub step : Part → ℕ → ℕ → Tree → List Token → Option (Tree × List Token)
step read at allowed t [] = None
step read at allowed t (token ∷ ts) = step_by read at allowed (opener_of token.shape) t token.place ts

abbrev pub steps_by : Option (Tree × List Token) → Tree × List Token → (Tree → List Token → Tree × List Token) → Tree
    × List Token
steps_by None stop go = stop
steps_by (Some x) stop go = go x.0 x.1

-- the expression t with all the operators that follow, at most n
unfoldable pub steps : Part → ℕ → ℕ → ℕ → Tree → List Token → Tree × List Token
steps read at allowed zero t ts = (t, ts)
steps read at allowed (suc n) t ts =
    steps_by (step read at allowed t ts) (t, ts) (λ u rest. steps read at allowed n u rest)

-- the expression at a level whose first form was read
unfoldable pub from_form : Part → ℕ → ℕ → Tree → List Token → Option (Tree × List Token)
from_form read at allowed t ts = cond (nat_le at (level t)) (Some (steps read at allowed (suc allowed) t ts)) None

-- the longest expression of at most this height at a level, and what follows it
unfoldable pub reads : List Name → ℕ → Part
reads types zero at ts = None
reads types (suc allowed) at ts =
    then_read (form types (reads types allowed) allowed ts)
    (λ t rest. from_form (reads types allowed) at allowed t rest)
