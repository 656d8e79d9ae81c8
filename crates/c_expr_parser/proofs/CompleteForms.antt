-- What is spelled is read, form by form: exactly, or something longer.
use Rattle.std.proofs.Common.{◌≡◌, ℕ, zero, suc, ◌<◌, ◌≤◌, ◌⊎◌, false, cond, List, length, Option, Some, None, refl, sym, ap, ◌∙◌, subst, inl, inr, arith}
use Rattle.std.specs.Prelude.{nat_eq}
use Rattle.tm_terms.specs.declared.places.Place.{Place}
use Rattle.tm_terms.specs.declared.tokens.Name.{Name}
use Rattle.tm_terms.specs.declared.tokens.Sign.TheVariants as Signs
use Rattle.tm_terms.specs.declared.tokens.Token.{Token}
use Rattle.tm_terms.specs.declared.exprs.Prefix.{Prefix}
use Rattle.tm_terms.specs.declared.exprs.Prefix.TheVariants as Prefixes
use Rattle.tm_terms.specs.declared.exprs.Level.TheVariants as Levels
use Rattle.tm_terms.specs.Names.{is_typedef}
use Rattle.tm_terms.specs.ExprTrees.{TypeTree, Tree, a_name, in_parentheses, an_input, an_islocked, a_call, a_prefix, a_sizeof_type, a_cast, Arguments, no_arguments, and_argument, rank, operand_level, level, height, arguments_height}
use Rattle.tm_terms.specs.ExprSpelling.{BySign, ByName, SpellsTypeName, Spells, SpellsArguments, GoesOn, IsFront}
use Rattle.c_expr_parser.specs.declared.marks.Mark.TheVariants as Marks
use Rattle.c_expr_parser.specs.reading.Parts.{then_read, and_after, after, name_at}
use Rattle.c_expr_parser.specs.reading.Descent.{Part, push_argument, more_by, arguments_from, arguments_by, arguments, call_or_name, called, name_form, prefix_form, inside_form, closed_type, cast_form, sizeof_type_form, type_follows, sizeof_form, input_form, islocked_form}
use Rattle.std.proofs.lemmas.Bool.Decides.{nat_tests}
use Rattle.c_expr_parser.proofs.Tokens.{after_spelled, name_at_spelled}
use Rattle.c_expr_parser.proofs.TypeReading.{type_name_spelled, type_name_begins}
use Rattle.c_expr_parser.proofs.Sound.{shorter, arguments_shorter, by_shorter}
use Rattle.c_expr_parser.proofs.SoundForms.{IsSound, called_finds, join_arguments, join_push, join_none}
use Rattle.c_expr_parser.proofs.FirstTokens.{no_close, no_type_after}
use Rattle.c_expr_parser.proofs.DescentSteps.{arguments_comma, arguments_closed}

-- something longer was read, and what follows the shorter goes on at this level
abbrev pub Past : Option (Tree × List Token) → List Token → ℕ → Type 0
Past o rest bound = (y : Tree × List Token) × (o ≡ Some y) × (length y.1 < length rest) × GoesOn bound rest

abbrev pub Outcome : Option (Tree × List Token) → Tree → List Token → ℕ → Type 0
Outcome o t rest bound = (o ≡ Some (t, rest)) ⊎ Past o rest bound

-- a reading misses nothing
abbrev pub IsComplete : List Name → Part → ℕ → Type 0
IsComplete types read limit = (at : ℕ) (ts : List Token) (t : Tree) (rest : List Token) → IsFront types at limit ts t rest → Outcome (read at ts) t rest at

-- the same of the first form, whose level stays
abbrev pub FormOutcome : Option (Tree × List Token) → Tree → List Token → ℕ → Type 0
FormOutcome o t rest bound = (o ≡ Some (t, rest)) ⊎ ((y : Tree × List Token) × (o ≡ Some y) × (level y.0 ≡ level t) × (length y.1 < length rest) × GoesOn bound rest)

-- one node round an operand
pub outcome_map : (F : Tree → Tree) (o : Option (Tree × List Token)) (t : Tree) (rest : List Token) (bound : ℕ) → Outcome o t rest bound → Outcome (then_read o (λ u r. Some (F u, r))) (F t) rest bound
outcome_map F o t rest bound (inl e) = inl (ap (λ o. then_read o (λ u r. Some (F u, r))) e)
outcome_map F o t rest bound (inr (y, e, s, g)) = inr ((F y.0, y.1), ap (λ o. then_read o (λ u r. Some (F u, r))) e, s, g)

form_map : (F : Tree → Tree) (t : Tree) → ((u : Tree) → level (F u) ≡ level (F t)) → (o : Option (Tree × List Token)) (rest : List Token) (bound : ℕ) → Outcome o t rest bound → FormOutcome (then_read o (λ u r. Some (F u, r))) (F t) rest bound
form_map F t same o rest bound (inl e) = inl (ap (λ o. then_read o (λ u r. Some (F u, r))) e)
form_map F t same o rest bound (inr (y, e, s, g)) = inr ((F y.0, y.1), ap (λ o. then_read o (λ u r. Some (F u, r))) e, same y.0, s, g)

pub form_of : (o o' : Option (Tree × List Token)) (t : Tree) (rest : List Token) (bound : ℕ) → o' ≡ o → FormOutcome o t rest bound → FormOutcome o' t rest bound
form_of o o' t rest bound e f = subst (λ x. FormOutcome x t rest bound) (sym e) f

-- the marks that continue nothing
pub close_stops : (at : ℕ) (ts rest : List Token) → BySign Signs.CloseParenthesis ts rest → GoesOn at ts → ⊥
close_stops at ts rest s g = subst (GoesOn at) s.1 g

pub bracket_stops : (at : ℕ) (ts rest : List Token) → BySign Signs.CloseBracket ts rest → GoesOn at ts → ⊥
bracket_stops at ts rest s g = subst (GoesOn at) s.1 g

pub colon_stops : (at : ℕ) (ts rest : List Token) → BySign Signs.Colon ts rest → GoesOn at ts → ⊥
colon_stops at ts rest s g = subst (GoesOn at) s.1 g

comma_stops : (at : ℕ) (ts rest : List Token) → BySign Signs.Comma ts rest → 1 ≤ at → GoesOn at ts → ⊥
comma_stops at ts rest s le g = let h : at ≤ 0 = subst (GoesOn at) s.1 g in absurd (omega arith)

opens_call : (ts rest : List Token) → BySign Signs.OpenParenthesis ts rest → GoesOn 16 ts
opens_call ts rest s = subst (GoesOn 16) (sym s.1) (omega arith)

module _ (types : List Name) (read : Part) (h : ℕ) (sound : IsSound types read h) (complete : IsComplete types read h) where
  pub exactly : (at : ℕ) (ts : List Token) (t : Tree) (rest : List Token) → IsFront types at h ts t rest → (GoesOn at rest → ⊥) → read at ts ≡ Some (t, rest)
  exactly at ts t rest f stops = go (complete at ts t rest f)
    where
      go : Outcome (read at ts) t rest at → read at ts ≡ Some (t, rest)
      go (inl e) = e
      go (inr p) = absurd (stops p.3)

  closed_type_spelled : (n : TypeTree) (ts mid rest : List Token) → SpellsTypeName types n ts mid → BySign Signs.CloseParenthesis mid rest → closed_type types ts ≡ Some (n, rest)
  unfolding closed_type
  closed_type_spelled n ts mid rest s close =
      ap (λ o. then_read o (λ n rest. and_after (after Marks.CloseParenthesis rest) (λ next. Some (n, next)))) (type_name_spelled types n ts mid rest s close)
      ∙ ap (λ o. and_after o (λ next. Some (n, next))) (after_spelled Marks.CloseParenthesis mid rest close)

  -- arguments
  arguments_from_spelled : (more : Arguments) (t : Tree) (n : ℕ) (args : Arguments) (ts rest : List Token) → SpellsArguments types (and_argument t more) ts rest → arguments_height (and_argument t more) ≤ h → length ts ≤ n → arguments_from read n args ts ≡ Some (join_arguments args (and_argument t more), rest)
  arguments_from_spelled more t zero args ts rest s low le =
      let short = shorter types t ts s.0 s.1 in absurd (omega arith)
  arguments_from_spelled no_arguments t (suc n) args ts rest s low le =
      let f : IsFront types 1 h ts t s.0 = record { spelled = s.1; fits = s.2; low = omega (arith, low) } in
      arguments_closed read (suc n) n args ts t s.0 refl (exactly 1 ts t s.0 f (close_stops 1 s.0 rest s.3)) (ap (after Marks.Comma) s.3.1)
      ∙ ap (λ o. more_by None o (push_argument args t) (λ next. None)) (after_spelled Marks.CloseParenthesis s.0 rest s.3)
      ∙ ap (λ a. Some (a, rest)) (join_none args t)
  arguments_from_spelled (and_argument u more) t (suc n) args ts rest s low le =
      let f : IsFront types 1 h ts t s.0 = record { spelled = s.1; fits = s.2; low = omega (arith, low) } in
      let m = s.3 in
      let short = shorter types t ts s.0 s.1 in
      let less = by_shorter Signs.Comma s.0 m.0 m.2 in
      arguments_comma read (suc n) n args ts t s.0 m.0 refl (exactly 1 ts t s.0 f (comma_stops 1 s.0 m.0 m.2 (omega arith))) (after_spelled Marks.Comma s.0 m.0 m.2)
      ∙ arguments_from_spelled more u n (push_argument args t) m.0 rest (m.1, m.3, m.4, m.5) (omega (arith, low)) (omega arith)
      ∙ ap (λ a. Some (a, rest)) (join_push args t (and_argument u more))

  arguments_spelled : (args : Arguments) (ts rest : List Token) → SpellsArguments types args ts rest → arguments_height args ≤ h → arguments read ts ≡ Some (args, rest)
  unfolding arguments
  arguments_spelled no_arguments ts rest s low = ap (λ o. arguments_by read o ts) (after_spelled Marks.CloseParenthesis ts rest s)
  arguments_spelled (and_argument t more) ts rest s low =
      ap (λ o. arguments_by read o ts) (no_close types t ts s.0 s.1)
      ∙ arguments_from_spelled more t (length ts) no_arguments ts rest s low (omega arith)

  pub name_spelled : (n : Name) (p : Place) (rest : List Token) → is_typedef types n ≡ false → FormOutcome (name_form types read n p rest) (a_name n p) rest 16
  unfolding name_form
  name_spelled n p rest e =
      form_of (Some (call_or_name n p rest (called read (after Marks.OpenParenthesis rest)))) _ (a_name n p) rest 16 (ap (λ b. cond b None (Some (call_or_name n p rest (called read (after Marks.OpenParenthesis rest))))) e) (go (called read (after Marks.OpenParenthesis rest)) refl)
    where
      go : (o : Option (Arguments × List Token)) → called read (after Marks.OpenParenthesis rest) ≡ o → FormOutcome (Some (call_or_name n p rest o)) (a_name n p) rest 16
      go None e = inl refl
      go (Some found) e =
          let r = called_finds types read h sound rest found e in
          let a = by_shorter Signs.OpenParenthesis rest r.0 r.1 in
          let b = arguments_shorter types found.0 r.0 found.1 r.2.0 in
          inr ((a_call n found.0 p, found.1), refl, refl, omega arith, opens_call rest r.0 r.1)

  pub call_spelled : (f : Name) (args : Arguments) (p : Place) (a b rest : List Token) → is_typedef types f ≡ false → BySign Signs.OpenParenthesis a b → SpellsArguments types args b rest → arguments_height args ≤ h → name_form types read f p a ≡ Some (a_call f args p, rest)
  unfolding name_form
  call_spelled f args p a b rest e open_is s low =
      ap (λ c. cond c None (Some (call_or_name f p a (called read (after Marks.OpenParenthesis a))))) e
      ∙ ap (λ o. Some (call_or_name f p a (called read o))) (after_spelled Marks.OpenParenthesis a b open_is)
      ∙ ap (λ o. Some (call_or_name f p a o)) (arguments_spelled args b rest s low)

  pub prefix_spelled : (op : Prefix) (t : Tree) (p : Place) (a rest : List Token) → Spells types t a rest → operand_level op ≤ level t → height t ≤ h → FormOutcome (prefix_form read op p a) (a_prefix op t p) rest (operand_level op)
  unfolding prefix_form
  prefix_spelled op t p a rest s fits low =
      form_map (λ u. a_prefix op u p) t (λ u. refl) (read (operand_level op) a) rest (operand_level op) (complete (operand_level op) a t rest (record { spelled = s; fits = fits; low = low }))

  pub inside_spelled : (t : Tree) (a b rest : List Token) → Spells types t a b → BySign Signs.CloseParenthesis b rest → height t ≤ h → inside_form read a ≡ Some (in_parentheses t, rest)
  unfolding inside_form
  inside_spelled t a b rest s close low =
      ap (λ o. then_read o (λ t rest. and_after (after Marks.CloseParenthesis rest) (λ next. Some (in_parentheses t, next)))) (exactly 0 a t b (record { spelled = s; fits = omega arith; low = low }) (close_stops 0 b rest close))
      ∙ ap (λ o. and_after o (λ next. Some (in_parentheses t, next))) (after_spelled Marks.CloseParenthesis b rest close)

  pub cast_spelled : (n : TypeTree) (t : Tree) (p : Place) (a b c rest : List Token) → SpellsTypeName types n a b → BySign Signs.CloseParenthesis b c → Spells types t c rest → 13 ≤ level t → height t ≤ h → FormOutcome (cast_form types read p a) (a_cast n t p) rest 13
  unfolding cast_form
  cast_spelled n t p a b c rest s close u fits low =
      form_of (then_read (read 13 c) (λ t rest. Some (a_cast n t p, rest))) _ (a_cast n t p) rest 13
      (ap (λ o. then_read o (λ n next. then_read (read (rank Levels.Cast) next) (λ t rest. Some (a_cast n t p, rest)))) (closed_type_spelled n a b c s close))
      (form_map (λ u. a_cast n u p) t (λ u. refl) (read 13 c) rest 13 (complete 13 c t rest (record { spelled = u; fits = fits; low = low })))

  none_false : (n : ℕ) → 1 ≤ n → nat_eq n 0 ≡ false
  none_false n le = grind (arith, nat_tests)

  pub sizeof_type_spelled : (n : TypeTree) (p : Place) (a b c rest : List Token) → BySign Signs.OpenParenthesis a b → SpellsTypeName types n b c → BySign Signs.CloseParenthesis c rest → 1 ≤ h → sizeof_form types read h p a ≡ Some (a_sizeof_type n p, rest)
  unfolding sizeof_form sizeof_type_form
  sizeof_type_spelled n p a b c rest open_is s close low =
      ap (λ o. cond (type_follows types o) (and_after o (λ next. sizeof_type_form types h p next)) (prefix_form read Prefixes.Sizeof p a)) (after_spelled Marks.OpenParenthesis a b open_is)
      ∙ ap (λ b'. cond b' (sizeof_type_form types h p b) (prefix_form read Prefixes.Sizeof p a)) (type_name_begins types n b c s)
      ∙ ap (λ z. cond z None (then_read (closed_type types b) (λ n next. Some (a_sizeof_type n p, next)))) (none_false h low)
      ∙ ap (λ o. then_read o (λ n next. Some (a_sizeof_type n p, next))) (closed_type_spelled n b c rest s close)

  pub sizeof_spelled : (t : Tree) (p : Place) (a rest : List Token) → Spells types t a rest → 14 ≤ level t → height t ≤ h → FormOutcome (sizeof_form types read h p a) (a_prefix Prefixes.Sizeof t p) rest 14
  unfolding sizeof_form
  sizeof_spelled t p a rest s fits low =
      form_of (prefix_form read Prefixes.Sizeof p a) _ (a_prefix Prefixes.Sizeof t p) rest 14
      (ap (λ b. cond b (and_after (after Marks.OpenParenthesis a) (λ next. sizeof_type_form types h p next)) (prefix_form read Prefixes.Sizeof p a)) (no_type_after types t a rest s fits))
      (prefix_spelled Prefixes.Sizeof t p a rest s fits low)

  pub input_spelled : (low high : Tree) (p : Place) (a b c d e rest : List Token) → BySign Signs.OpenParenthesis a b → IsFront types 2 h b low c → BySign Signs.Comma c d → IsFront types 2 h d high e → BySign Signs.CloseParenthesis e rest → input_form read p a ≡ Some (an_input low high p, rest)
  unfolding input_form
  input_spelled low high p a b c d e rest open_is f comma g close =
      ap (λ o. and_after o (λ a. then_read (read (rank Levels.Condition) a) (λ low b. and_after (after Marks.Comma b) (λ c. then_read (read (rank Levels.Condition) c) (λ high d. and_after (after Marks.CloseParenthesis d) (λ rest. Some (an_input low high p, rest))))))) (after_spelled Marks.OpenParenthesis a b open_is)
      ∙ ap (λ o. then_read o (λ low b. and_after (after Marks.Comma b) (λ c. then_read (read (rank Levels.Condition) c) (λ high d. and_after (after Marks.CloseParenthesis d) (λ rest. Some (an_input low high p, rest)))))) (exactly 2 b low c f (comma_stops 2 c d comma (omega arith)))
      ∙ ap (λ o. and_after o (λ c. then_read (read (rank Levels.Condition) c) (λ high d. and_after (after Marks.CloseParenthesis d) (λ rest. Some (an_input low high p, rest))))) (after_spelled Marks.Comma c d comma)
      ∙ ap (λ o. then_read o (λ high d. and_after (after Marks.CloseParenthesis d) (λ rest. Some (an_input low high p, rest)))) (exactly 2 d high e g (close_stops 2 e rest close))
      ∙ ap (λ o. and_after o (λ rest. Some (an_input low high p, rest))) (after_spelled Marks.CloseParenthesis e rest close)

  pub islocked_spelled : (n : Name) (q p : Place) (a b c rest : List Token) → BySign Signs.OpenParenthesis a b → ByName types n q b c → BySign Signs.CloseParenthesis c rest → islocked_form types p a ≡ Some (an_islocked n q p, rest)
  unfolding islocked_form
  islocked_spelled n q p a b c rest open_is s close =
      ap (λ o. and_after o (λ a. then_read (name_at a) (λ m b. cond (is_typedef types m.0) None (and_after (after Marks.CloseParenthesis b) (λ rest. Some (an_islocked m.0 m.1 p, rest)))))) (after_spelled Marks.OpenParenthesis a b open_is)
      ∙ ap (λ o. then_read o (λ m b. cond (is_typedef types m.0) None (and_after (after Marks.CloseParenthesis b) (λ rest. Some (an_islocked m.0 m.1 p, rest))))) (name_at_spelled n q b c s.1)
      ∙ ap (λ z. cond z None (and_after (after Marks.CloseParenthesis c) (λ rest. Some (an_islocked n q p, rest)))) s.0
      ∙ ap (λ o. and_after o (λ rest. Some (an_islocked n q p, rest))) (after_spelled Marks.CloseParenthesis c rest close)
