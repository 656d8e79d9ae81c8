-- What is read is spelled, form by form, where the parts are.
use Rattle.std.proofs.Common.{◌≡◌, ℕ, zero, suc, ◌≤◌, Bool, true, false, cond, List, [], ◌∷◌, length, Option, Some, None, refl, sym, ap, ◌∙◌, subst, arith}
use Rattle.std.specs.Prelude.{nat_eq}
use Rattle.tm_terms.specs.declared.places.Place.{Place}
use Rattle.tm_terms.specs.declared.tokens.Name.{Name}
use Rattle.tm_terms.specs.declared.tokens.Word.{Word}
use Rattle.tm_terms.specs.declared.tokens.Word.TheVariants as Words
use Rattle.tm_terms.specs.declared.tokens.Sign.{Sign}
use Rattle.tm_terms.specs.declared.tokens.Sign.TheVariants as Signs
use Rattle.tm_terms.specs.declared.tokens.Shape.{Shape}
use Rattle.tm_terms.specs.declared.tokens.Shape.TheVariants as Shapes
use Rattle.tm_terms.specs.declared.tokens.Token.{Token}
use Rattle.tm_terms.specs.declared.exprs.Prefix.{Prefix}
use Rattle.tm_terms.specs.declared.exprs.Prefix.TheVariants as Prefixes
use Rattle.tm_terms.specs.declared.exprs.Level.TheVariants as Levels
use Rattle.tm_terms.specs.Names.{is_typedef}
use Rattle.tm_terms.specs.ExprTrees.{TypeTree, Tree, in_parentheses, an_input, an_islocked, a_prefix, a_sizeof_type, a_cast, Arguments, no_arguments, and_argument, rank, operand_level, height, arguments_height}
use Rattle.tm_terms.specs.ExprSpelling.{Begins, BySign, ByPrefix, prefix_of, SpellsTypeName, Spells, SpellsArguments, IsFront}
use Rattle.c_expr_parser.specs.declared.marks.Mark.TheVariants as Marks
use Rattle.c_expr_parser.specs.reading.Parts.{then_read, and_after, after, name_at, type_name, begins_type}
use Rattle.c_expr_parser.specs.reading.Descent.{Part, push_argument, more_by, arguments_from, arguments_by, arguments, call_or_name, called, name_form, prefix_form, inside_form, closed_type, cast_form, sizeof_type_form, type_follows, sizeof_form, input_form, islocked_form, sign_form, word_form, form_by, form}
use Rattle.c_expr_parser.proofs.Tokens.{none_some, from_some, after_finds, name_at_finds, then_read_some, and_after_some, cond_none_some}
use Rattle.c_expr_parser.proofs.TypeReading.{type_name_finds}
use Rattle.c_expr_parser.proofs.Sound.{positive}

-- a reading gives only what is spelled, at its level and within the height
abbrev pub IsSound : List Name → Part → ℕ → Type 0
IsSound types read limit = (at : ℕ) (ts : List Token) (x : Tree × List Token) → read at ts ≡ Some x → IsFront types at limit ts x.0 x.1

-- spelled, and within the height
abbrev pub IsForm : List Name → ℕ → List Token → Tree × List Token → Type 0
IsForm types limit ts x = Spells types x.0 ts x.1 × (height x.0 ≤ limit)

-- arguments put together
abbrev pub join_arguments : Arguments → Arguments → Arguments
join_arguments no_arguments more = more
join_arguments (and_argument t args) more = and_argument t (join_arguments args more)

pub join_push : (args : Arguments) (t : Tree) (more : Arguments) → join_arguments (push_argument args t) more ≡ join_arguments args (and_argument t more)
join_push no_arguments t more = refl
join_push (and_argument a args) t more = ap (and_argument a) (join_push args t more)

pub join_none : (args : Arguments) (t : Tree) → push_argument args t ≡ join_arguments args (and_argument t no_arguments)
join_none no_arguments t = refl
join_none (and_argument a args) t = ap (and_argument a) (join_none args t)

not_sizeof : (sign : Sign) {P : Type 0} → prefix_of sign ≡ Some Prefixes.Sizeof → P
not_sizeof Signs.Dot e = cc
not_sizeof _ e = cc

-- a sign that stands for an operator begins it
by_prefix : (op : Prefix) (sign : Sign) (p : Place) (ts : List Token) → prefix_of sign ≡ Some op → ByPrefix op p ((record { shape = Shapes.Sign sign; place = p }) ∷ ts) ts
by_prefix Prefixes.Sizeof sign p ts e = not_sizeof sign e
by_prefix Prefixes.Increment sign p ts e = (sign, e, refl)
by_prefix Prefixes.Decrement sign p ts e = (sign, e, refl)
by_prefix Prefixes.Address sign p ts e = (sign, e, refl)
by_prefix Prefixes.Dereference sign p ts e = (sign, e, refl)
by_prefix Prefixes.Plus sign p ts e = (sign, e, refl)
by_prefix Prefixes.Minus sign p ts e = (sign, e, refl)
by_prefix Prefixes.Complement sign p ts e = (sign, e, refl)
by_prefix Prefixes.Not sign p ts e = (sign, e, refl)

module _ (types : List Name) (read : Part) (h : ℕ) (sound : IsSound types read h) where
  prefix_finds : (op : Prefix) (p : Place) (ts0 ts : List Token) (x : Tree × List Token) → ByPrefix op p ts0 ts → prefix_form read op p ts ≡ Some x → IsForm types (suc h) ts0 x
  unfolding prefix_form
  prefix_finds op p ts0 ts x by e =
      let a = then_read_some (read (operand_level op) ts) (λ t rest. Some (a_prefix op t p, rest)) x e in
      let f = sound (operand_level op) ts a.0 a.1 in
      subst (IsForm types (suc h) ts0) (from_some a.2) ((ts, by, f.spelled, f.fits), omega (arith, f.low))

  inside_finds : (ts0 ts : List Token) (x : Tree × List Token) → BySign Signs.OpenParenthesis ts0 ts → inside_form read ts ≡ Some x → IsForm types (suc h) ts0 x
  unfolding inside_form
  inside_finds ts0 ts x open_is e =
      let a = then_read_some (read 0 ts) (λ t rest. and_after (after Marks.CloseParenthesis rest) (λ next. Some (in_parentheses t, next))) x e in
      let b = and_after_some (after Marks.CloseParenthesis a.0.1) (λ next. Some (in_parentheses a.0.0, next)) x a.2 in
      let f = sound 0 ts a.0 a.1 in
      subst (IsForm types (suc h) ts0) (from_some b.2) ((ts, a.0.1, open_is, f.spelled, after_finds Marks.CloseParenthesis a.0.1 b.0 b.1), omega (arith, f.low))

  closed_type_finds : (ts : List Token) (x : TypeTree × List Token) → closed_type types ts ≡ Some x → (mid : List Token) × SpellsTypeName types x.0 ts mid × BySign Signs.CloseParenthesis mid x.1
  unfolding closed_type
  closed_type_finds ts x e =
      let a = then_read_some (type_name types ts) (λ n rest. and_after (after Marks.CloseParenthesis rest) (λ next. Some (n, next))) x e in
      let b = and_after_some (after Marks.CloseParenthesis a.0.1) (λ next. Some (a.0.0, next)) x a.2 in
      subst (λ (y : TypeTree × List Token). (mid : List Token) × SpellsTypeName types y.0 ts mid × BySign Signs.CloseParenthesis mid y.1) (from_some b.2)
      (a.0.1, type_name_finds types ts a.0 a.1, after_finds Marks.CloseParenthesis a.0.1 b.0 b.1)

  cast_finds : (p : Place) (ts0 ts : List Token) (x : Tree × List Token) → Begins (Shapes.Sign Signs.OpenParenthesis) p ts0 ts → cast_form types read p ts ≡ Some x → IsForm types (suc h) ts0 x
  unfolding cast_form
  cast_finds p ts0 ts x open_is e =
      let a = then_read_some (closed_type types ts) (λ n next. then_read (read (rank Levels.Cast) next) (λ t rest. Some (a_cast n t p, rest))) x e in
      let b = then_read_some (read (rank Levels.Cast) a.0.1) (λ t rest. Some (a_cast a.0.0 t p, rest)) x a.2 in
      let n = closed_type_finds ts a.0 a.1 in
      let f = sound (rank Levels.Cast) a.0.1 b.0 b.1 in
      subst (IsForm types (suc h) ts0) (from_some b.2) ((ts, n.0, a.0.1, open_is, n.1, n.2, f.spelled, f.fits), omega (arith, f.low))

  sizeof_type_finds : (p : Place) (ts0 ts next : List Token) (x : Tree × List Token) → Begins (Shapes.Word Words.Sizeof) p ts0 ts → BySign Signs.OpenParenthesis ts next → sizeof_type_form types h p next ≡ Some x → IsForm types (suc h) ts0 x
  unfolding sizeof_type_form
  sizeof_type_finds p ts0 ts next x word_is open_is e =
      let c = cond_none_some (nat_eq h 0) (then_read (closed_type types next) (λ n rest. Some (a_sizeof_type n p, rest))) x e in
      let a = then_read_some (closed_type types next) (λ n rest. Some (a_sizeof_type n p, rest)) x c.1 in
      let n = closed_type_finds next a.0 a.1 in
      subst (IsForm types (suc h) ts0) (from_some a.2) ((ts, next, n.0, word_is, open_is, n.1, n.2), omega (arith, positive h c.0))

  sizeof_finds : (p : Place) (ts0 ts : List Token) (x : Tree × List Token) → Begins (Shapes.Word Words.Sizeof) p ts0 ts → sizeof_form types read h p ts ≡ Some x → IsForm types (suc h) ts0 x
  unfolding sizeof_form
  sizeof_finds p ts0 ts x word_is e = go (after Marks.OpenParenthesis ts) refl e
    where
      typed : (next : List Token) → after Marks.OpenParenthesis ts ≡ Some next → (b : Bool) → cond b (sizeof_type_form types h p next) (prefix_form read Prefixes.Sizeof p ts) ≡ Some x → IsForm types (suc h) ts0 x
      typed next o true e = sizeof_type_finds p ts0 ts next x word_is (after_finds Marks.OpenParenthesis ts next o) e
      typed next o false e = prefix_finds Prefixes.Sizeof p ts0 ts x word_is e

      go : (o : Option (List Token)) → after Marks.OpenParenthesis ts ≡ o → cond (type_follows types o) (and_after o (λ next. sizeof_type_form types h p next)) (prefix_form read Prefixes.Sizeof p ts) ≡ Some x → IsForm types (suc h) ts0 x
      go None o e = prefix_finds Prefixes.Sizeof p ts0 ts x word_is e
      go (Some next) o e = typed next o (begins_type types next) e

  input_finds : (p : Place) (ts0 ts : List Token) (x : Tree × List Token) → Begins (Shapes.Word Words.Input) p ts0 ts → input_form read p ts ≡ Some x → IsForm types (suc h) ts0 x
  unfolding input_form
  input_finds p ts0 ts x word_is e =
      let a = and_after_some (after Marks.OpenParenthesis ts) (λ a. then_read (read (rank Levels.Condition) a) (λ low b. and_after (after Marks.Comma b) (λ c. then_read (read (rank Levels.Condition) c) (λ high d. and_after (after Marks.CloseParenthesis d) (λ rest. Some (an_input low high p, rest)))))) x e in
      let b = then_read_some (read (rank Levels.Condition) a.0) (λ low b. and_after (after Marks.Comma b) (λ c. then_read (read (rank Levels.Condition) c) (λ high d. and_after (after Marks.CloseParenthesis d) (λ rest. Some (an_input low high p, rest))))) x a.2 in
      let c = and_after_some (after Marks.Comma b.0.1) (λ c. then_read (read (rank Levels.Condition) c) (λ high d. and_after (after Marks.CloseParenthesis d) (λ rest. Some (an_input b.0.0 high p, rest)))) x b.2 in
      let d = then_read_some (read (rank Levels.Condition) c.0) (λ high d. and_after (after Marks.CloseParenthesis d) (λ rest. Some (an_input b.0.0 high p, rest))) x c.2 in
      let r = and_after_some (after Marks.CloseParenthesis d.0.1) (λ rest. Some (an_input b.0.0 d.0.0 p, rest)) x d.2 in
      let f = sound (rank Levels.Condition) a.0 b.0 b.1 in
      let g = sound (rank Levels.Condition) c.0 d.0 d.1 in
      subst (IsForm types (suc h) ts0) (from_some r.2)
      ((ts, a.0, b.0.1, c.0, d.0.1, word_is, after_finds Marks.OpenParenthesis ts a.0 a.1, f.spelled, f.fits, after_finds Marks.Comma b.0.1 c.0 c.1, g.spelled, g.fits, after_finds Marks.CloseParenthesis d.0.1 r.0 r.1), omega (arith, f.low, g.low))

  islocked_finds : (p : Place) (ts0 ts : List Token) (x : Tree × List Token) → Begins (Shapes.Word Words.Islocked) p ts0 ts → islocked_form types p ts ≡ Some x → IsForm types (suc h) ts0 x
  unfolding islocked_form
  islocked_finds p ts0 ts x word_is e =
      let a = and_after_some (after Marks.OpenParenthesis ts) (λ a. then_read (name_at a) (λ m b. cond (is_typedef types m.0) None (and_after (after Marks.CloseParenthesis b) (λ rest. Some (an_islocked m.0 m.1 p, rest))))) x e in
      let b = then_read_some (name_at a.0) (λ m b. cond (is_typedef types m.0) None (and_after (after Marks.CloseParenthesis b) (λ rest. Some (an_islocked m.0 m.1 p, rest)))) x a.2 in
      let c = cond_none_some (is_typedef types b.0.0.0) (and_after (after Marks.CloseParenthesis b.0.1) (λ rest. Some (an_islocked b.0.0.0 b.0.0.1 p, rest))) x b.2 in
      let d = and_after_some (after Marks.CloseParenthesis b.0.1) (λ rest. Some (an_islocked b.0.0.0 b.0.0.1 p, rest)) x c.1 in
      subst (IsForm types (suc h) ts0) (from_some d.2)
      ((ts, a.0, b.0.1, word_is, after_finds Marks.OpenParenthesis ts a.0 a.1, (c.0, name_at_finds a.0 b.0 b.1), after_finds Marks.CloseParenthesis b.0.1 d.0 d.1), omega arith)

  -- arguments
  abbrev ArgumentsRead : Arguments → List Token → Arguments × List Token → Type 0
  ArgumentsRead args ts x = (t : Tree) × (more : Arguments) × (x.0 ≡ join_arguments args (and_argument t more)) × SpellsArguments types (and_argument t more) ts x.1 × (arguments_height (and_argument t more) ≤ h)

  further : (args : Arguments) (ts : List Token) (y : Tree × List Token) (next : List Token) (x : Arguments × List Token) → IsFront types (rank Levels.Assignment) h ts y.0 y.1 → BySign Signs.Comma y.1 next → ArgumentsRead (push_argument args y.0) next x → ArgumentsRead args ts x
  further args ts y next x f comma r =
      (y.0, and_argument r.0 r.1, r.2 ∙ join_push args y.0 (and_argument r.0 r.1), (y.1, f.spelled, f.fits, (next, r.3.0, comma, r.3.1, r.3.2, r.3.3)), omega (arith, f.low, r.4))

  arguments_from_finds : (n : ℕ) (args : Arguments) (ts : List Token) (x : Arguments × List Token) → arguments_from read n args ts ≡ Some x → ArgumentsRead args ts x
  unfolding arguments_from
  arguments_from_finds zero args ts x e = none_some e
  arguments_from_finds (suc n) args ts x e =
      let a = then_read_some (read (rank Levels.Assignment) ts) (λ t rest. more_by (after Marks.Comma rest) (after Marks.CloseParenthesis rest) (push_argument args t) (λ next. arguments_from read n (push_argument args t) next)) x e in
      go a.0 (sound (rank Levels.Assignment) ts a.0 a.1) (after Marks.Comma a.0.1) refl (after Marks.CloseParenthesis a.0.1) refl (λ next. arguments_from_finds n (push_argument args a.0.0) next x) a.2
    where
      go : (y : Tree × List Token) → IsFront types (rank Levels.Assignment) h ts y.0 y.1 → (o : Option (List Token)) → after Marks.Comma y.1 ≡ o → (c : Option (List Token)) → after Marks.CloseParenthesis y.1 ≡ c → ((next : List Token) → arguments_from read n (push_argument args y.0) next ≡ Some x → ArgumentsRead (push_argument args y.0) next x) → more_by o c (push_argument args y.0) (λ next. arguments_from read n (push_argument args y.0) next) ≡ Some x → ArgumentsRead args ts x
      go y f (Some next) o c k ih e = further args ts y next x f (after_finds Marks.Comma y.1 next o) (ih next e)
      go y f None o (Some rest) k ih e =
          subst (ArgumentsRead args ts) (from_some e)
          (y.0, no_arguments, join_none args y.0, (y.1, f.spelled, f.fits, after_finds Marks.CloseParenthesis y.1 rest k), omega (arith, f.low))
      go y f None o None k ih e = none_some e

  abbrev pub IsArguments : List Token → Arguments × List Token → Type 0
  IsArguments ts x = SpellsArguments types x.0 ts x.1 × (arguments_height x.0 ≤ h)

  arguments_find : (ts : List Token) (x : Arguments × List Token) → arguments read ts ≡ Some x → IsArguments ts x
  unfolding arguments
  arguments_find ts x e = go (after Marks.CloseParenthesis ts) refl e
    where
      go : (o : Option (List Token)) → after Marks.CloseParenthesis ts ≡ o → arguments_by read o ts ≡ Some x → IsArguments ts x
      go (Some rest) o e = subst (IsArguments ts) (from_some e) (after_finds Marks.CloseParenthesis ts rest o, omega arith)
      go None o e =
          let r = arguments_from_finds (length ts) no_arguments ts x e in
          (subst (λ args. SpellsArguments types args ts x.1) (sym r.2) r.3, subst (λ args. arguments_height args ≤ h) (sym r.2) r.4)

  pub called_finds : (ts : List Token) (x : Arguments × List Token) → called read (after Marks.OpenParenthesis ts) ≡ Some x → (b : List Token) × BySign Signs.OpenParenthesis ts b × IsArguments b x
  called_finds ts x e = go (after Marks.OpenParenthesis ts) refl e
    where
      go : (o : Option (List Token)) → after Marks.OpenParenthesis ts ≡ o → called read o ≡ Some x → (b : List Token) × BySign Signs.OpenParenthesis ts b × IsArguments b x
      go None o e = none_some e
      go (Some b) o e = (b, after_finds Marks.OpenParenthesis ts b o, arguments_find b x e)

  name_finds : (n : Name) (p : Place) (ts0 ts : List Token) (x : Tree × List Token) → Begins (Shapes.Name n) p ts0 ts → name_form types read n p ts ≡ Some x → IsForm types (suc h) ts0 x
  unfolding name_form
  name_finds n p ts0 ts x b e =
      let c = cond_none_some (is_typedef types n) (Some (call_or_name n p ts (called read (after Marks.OpenParenthesis ts)))) x e in
      subst (IsForm types (suc h) ts0) (from_some c.1) (go (called read (after Marks.OpenParenthesis ts)) refl c.0)
    where
      go : (o : Option (Arguments × List Token)) → called read (after Marks.OpenParenthesis ts) ≡ o → is_typedef types n ≡ false → IsForm types (suc h) ts0 (call_or_name n p ts o)
      go None o c = ((c, b), omega arith)
      go (Some found) o c = let r = called_finds ts found o in ((ts, r.0, (c, b), r.1, r.2.0), omega (arith, r.2.1))

  sign_finds : (o : Option Prefix) (sign : Sign) (p : Place) (ts : List Token) (x : Tree × List Token) → prefix_of sign ≡ o → sign_form types read o sign p ts ≡ Some x → IsForm types (suc h) ((record { shape = Shapes.Sign sign; place = p }) ∷ ts) x
  sign_finds (Some op) sign p ts x o e = prefix_finds op p _ ts x (by_prefix op sign p ts o) e
  sign_finds None Signs.OpenParenthesis p ts x o e = go (begins_type types ts) e
    where
      go : (b : Bool) → cond b (cast_form types read p ts) (inside_form read ts) ≡ Some x → IsForm types (suc h) ((record { shape = Shapes.Sign Signs.OpenParenthesis; place = p }) ∷ ts) x
      go true e = cast_finds p _ ts x refl e
      go false e = inside_finds _ ts x (p, refl) e
  sign_finds None _ p ts x o e = none_some e

  word_finds : (w : Word) (p : Place) (ts : List Token) (x : Tree × List Token) → word_form types read h w p ts ≡ Some x → IsForm types (suc h) ((record { shape = Shapes.Word w; place = p }) ∷ ts) x
  word_finds Words.Sizeof p ts x e = sizeof_finds p _ ts x refl e
  word_finds Words.Input p ts x e = input_finds p _ ts x refl e
  word_finds Words.Islocked p ts x e = islocked_finds p _ ts x refl e
  word_finds _ p ts x e = none_some e

  form_by_finds : (shape : Shape) (p : Place) (ts : List Token) (x : Tree × List Token) → form_by types read h shape p ts ≡ Some x → IsForm types (suc h) ((record { shape = shape; place = p }) ∷ ts) x
  form_by_finds (Shapes.Name n) p ts x e = name_finds n p _ ts x refl e
  form_by_finds (Shapes.Word w) p ts x e = word_finds w p ts x e
  form_by_finds (Shapes.Integer c) p ts x e = subst (IsForm types (suc h) ((record { shape = Shapes.Integer c; place = p }) ∷ ts)) (from_some e) (refl, omega arith)
  form_by_finds (Shapes.Character v) p ts x e = subst (IsForm types (suc h) ((record { shape = Shapes.Character v; place = p }) ∷ ts)) (from_some e) (refl, omega arith)
  form_by_finds (Shapes.Sign sign) p ts x e = sign_finds (prefix_of sign) sign p ts x refl e

  pub form_finds : (ts : List Token) (x : Tree × List Token) → form types read h ts ≡ Some x → IsForm types (suc h) ts x
  unfolding form
  form_finds [] x e = none_some e
  form_finds (t ∷ ts) x e = form_by_finds t.shape t.place ts x e
