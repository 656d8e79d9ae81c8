-- What is spelled is read, operators and all: exactly, or something longer.
use Rattle.std.proofs.Common.{◌≡◌, ℕ, zero, suc, ◌+◌, ◌<◌, ◌≤◌, ◌⊎◌, true, cond, List, length, Option, Some, None, refl, sym, ap, ◌∙◌, subst, inl, inr, arith}
use Rattle.std.specs.Prelude.{◌&&◌, nat_le}
use Rattle.tm_terms.specs.declared.places.Place.{Place}
use Rattle.tm_terms.specs.declared.tokens.Name.{Name}
use Rattle.tm_terms.specs.declared.tokens.Word.TheVariants as Words
use Rattle.tm_terms.specs.declared.tokens.Sign.{Sign}
use Rattle.tm_terms.specs.declared.tokens.Sign.TheVariants as Signs
use Rattle.tm_terms.specs.declared.tokens.Shape.{Shape}
use Rattle.tm_terms.specs.declared.tokens.Shape.TheVariants as Shapes
use Rattle.tm_terms.specs.declared.tokens.Token.{Token}
use Rattle.tm_terms.specs.declared.exprs.Infix.{Infix}
use Rattle.tm_terms.specs.declared.exprs.Prefix.{Prefix}
use Rattle.tm_terms.specs.declared.exprs.Prefix.TheVariants as Prefixes
use Rattle.tm_terms.specs.declared.exprs.Postfix.{Postfix}
use Rattle.tm_terms.specs.declared.exprs.Access.{Access}
use Rattle.tm_terms.specs.declared.exprs.Level.TheVariants as Levels
use Rattle.tm_terms.specs.ExprTrees.{Tree, a_name, an_integer, a_character, in_parentheses, an_input, an_islocked, a_call, a_prefix, a_sizeof_type, a_cast, an_infix, a_conditional, a_subscript, a_member, a_postfix, rank, right_level, operand_level, level, height}
use Rattle.tm_terms.specs.ExprSpelling.{Begins, BySign, ByPrefix, prefix_of, access_sign, postfix_sign, Spells, GoesOn, IsFront, IsLongest, BeginsNone}
use Rattle.c_expr_parser.specs.declared.marks.Mark.TheVariants as Marks
use Rattle.c_expr_parser.specs.declared.marks.Opener.{Opener}
use Rattle.c_expr_parser.specs.declared.marks.Opener.TheVariants as Openers
use Rattle.c_expr_parser.specs.reading.Parts.{then_read, and_after, after, opener_level, opener_left}
use Rattle.c_expr_parser.specs.reading.Descent.{Part, prefix_form, inside_form, cast_form, sign_form, form_by, form, continued_member, continued, may_continue, step_by, step, steps, from_form, reads}
use Rattle.std.proofs.Common.{◌-◌}
use Rattle.std.proofs.lemmas.Bool.Decides.{nat_tests}
use Rattle.c_expr_parser.proofs.Tokens.{none_some, from_some, after_spelled, name_at_spelled, and_both}
use Rattle.c_expr_parser.proofs.SoundForms.{IsSound, form_finds}
use Rattle.c_expr_parser.proofs.SoundSteps.{IsOpener, step_finds, steps_find, reads_sound}
use Rattle.c_expr_parser.proofs.LevelFacts.{open_level, never_both, looser, goes_on_at, opener_spelled, opener_continues, has_height}
use Rattle.c_expr_parser.proofs.FirstTokens.{no_type}
use Rattle.c_expr_parser.proofs.CompleteForms.{Past, Outcome, IsComplete, FormOutcome, form_of, outcome_map, bracket_stops, colon_stops, exactly, name_spelled, call_spelled, prefix_spelled, inside_spelled, cast_spelled, sizeof_type_spelled, sizeof_spelled, input_spelled, islocked_spelled}
use Rattle.c_expr_parser.proofs.TypeReading.{type_name_begins}
use Rattle.c_expr_parser.proofs.DescentSteps.{steps_stop, steps_next}

pub le_is : (m n : ℕ) → m ≤ n → nat_le m n ≡ true
le_is m n le = grind (arith, nat_tests)

outcome_of : (o o' : Option (Tree × List Token)) (t : Tree) (rest : List Token) (bound : ℕ) → o' ≡ o → Outcome o t rest bound → Outcome o' t rest bound
outcome_of o o' t rest bound e f = subst (λ x. Outcome x t rest bound) (sym e) f

module _ (types : List Name) (read : Part) (h : ℕ) (sound : IsSound types read h) (complete : IsComplete types read h) where
  -- the forms that begin an expression
  abbrev FormRead : Tree → List Token → List Token → Type 0
  FormRead t ts rest = FormOutcome (form types read h ts) t rest (open_level t)

  at_token : (shape : Shape) (p : Place) (ts b : List Token) (t : Tree) (rest : List Token) → Begins shape p ts b → FormOutcome (form_by types read h shape p b) t rest (open_level t) → FormRead t ts rest
  unfolding form
  at_token shape p ts b t rest s f = form_of (form_by types read h shape p b) (form types read h ts) t rest (open_level t) (ap (form types read h) s) f

  sign_form_spelled : (op : Prefix) (sign : Sign) (t : Tree) (p : Place) (a rest : List Token) → prefix_of sign ≡ Some op → Spells types t a rest → operand_level op ≤ level t → height t ≤ h → FormOutcome (form_by types read h (Shapes.Sign sign) p a) (a_prefix op t p) rest (operand_level op)
  sign_form_spelled op sign t p a rest e s fits low =
      form_of (prefix_form read op p a) _ (a_prefix op t p) rest (operand_level op) (ap (λ o. sign_form types read o sign p a) e) (prefix_spelled types read h sound complete op t p a rest s fits low)

  prefix_read : (op : Prefix) (t : Tree) (p : Place) (ts a rest : List Token) → ByPrefix op p ts a → Spells types t a rest → operand_level op ≤ level t → height t ≤ h → FormRead (a_prefix op t p) ts rest
  prefix_read Prefixes.Sizeof t p ts a rest by s fits low = at_token (Shapes.Word Words.Sizeof) p ts a (a_prefix Prefixes.Sizeof t p) rest by (sizeof_spelled types read h sound complete t p a rest s fits low)
  prefix_read Prefixes.Increment t p ts a rest by s fits low = at_token (Shapes.Sign by.0) p ts a (a_prefix Prefixes.Increment t p) rest by.2 (sign_form_spelled Prefixes.Increment by.0 t p a rest by.1 s fits low)
  prefix_read Prefixes.Decrement t p ts a rest by s fits low = at_token (Shapes.Sign by.0) p ts a (a_prefix Prefixes.Decrement t p) rest by.2 (sign_form_spelled Prefixes.Decrement by.0 t p a rest by.1 s fits low)
  prefix_read Prefixes.Address t p ts a rest by s fits low = at_token (Shapes.Sign by.0) p ts a (a_prefix Prefixes.Address t p) rest by.2 (sign_form_spelled Prefixes.Address by.0 t p a rest by.1 s fits low)
  prefix_read Prefixes.Dereference t p ts a rest by s fits low = at_token (Shapes.Sign by.0) p ts a (a_prefix Prefixes.Dereference t p) rest by.2 (sign_form_spelled Prefixes.Dereference by.0 t p a rest by.1 s fits low)
  prefix_read Prefixes.Plus t p ts a rest by s fits low = at_token (Shapes.Sign by.0) p ts a (a_prefix Prefixes.Plus t p) rest by.2 (sign_form_spelled Prefixes.Plus by.0 t p a rest by.1 s fits low)
  prefix_read Prefixes.Minus t p ts a rest by s fits low = at_token (Shapes.Sign by.0) p ts a (a_prefix Prefixes.Minus t p) rest by.2 (sign_form_spelled Prefixes.Minus by.0 t p a rest by.1 s fits low)
  prefix_read Prefixes.Complement t p ts a rest by s fits low = at_token (Shapes.Sign by.0) p ts a (a_prefix Prefixes.Complement t p) rest by.2 (sign_form_spelled Prefixes.Complement by.0 t p a rest by.1 s fits low)
  prefix_read Prefixes.Not t p ts a rest by s fits low = at_token (Shapes.Sign by.0) p ts a (a_prefix Prefixes.Not t p) rest by.2 (sign_form_spelled Prefixes.Not by.0 t p a rest by.1 s fits low)

  -- the whole reading at this height
  run : ℕ → List Token → Option (Tree × List Token)
  run at ts = then_read (form types read h ts) (λ t rest. from_form read at h t rest)

  abbrev Reached : ℕ → Tree → List Token → List Token → Type 0
  Reached at t ts rest = ((m : ℕ) × (run at ts ≡ Some (steps read at h m t rest)) × (suc (suc h) ≤ m + height t)) ⊎ Past (run at ts) rest (open_level t)

  from_is : (at : ℕ) (t : Tree) (rest : List Token) → at ≤ level t → from_form read at h t rest ≡ Some (steps read at h (suc h) t rest)
  unfolding from_form
  from_is at t rest le = ap (λ b. cond b (Some (steps read at h (suc h) t rest)) None) (le_is at (level t) le)

  -- the first form is reached
  reach_form : (at : ℕ) (t : Tree) (ts rest : List Token) → at ≤ level t → FormRead t ts rest → Reached at t ts rest
  unfolding run
  reach_form at t ts rest le (inl e) =
      inl (suc h, ap (λ o. then_read o (λ t rest. from_form read at h t rest)) e ∙ from_is at t rest le, omega (arith, has_height t))
  reach_form at t ts rest le (inr (y, e, same, short, g)) =
      let fits : at ≤ level y.0 = omega (arith, same) in
      let f = form_finds types read h sound ts y e in
      let front : IsFront types at (suc h) ts y.0 y.1 = record { spelled = f.0; fits = fits; low = f.1 } in
      let r = steps_find types read h sound (suc h) at y.0 ts y.1 front in
      inr (steps read at h (suc h) y.0 y.1, ap (λ o. then_read o (λ t rest. from_form read at h t rest)) e ∙ from_is at y.0 y.1 fits, omega (arith, r.1), g)

  may_is : (at : ℕ) (o : Opener) (l : Tree) → at ≤ opener_level o → opener_left o ≤ level l → height l ≤ h → may_continue at h o l ≡ true
  may_is at o l a b c =
      and_both (nat_le at (opener_level o) && nat_le (opener_left o) (level l)) (nat_le (height l) h)
      (and_both (nat_le at (opener_level o)) (nat_le (opener_left o) (level l)) (le_is _ _ a) (le_is _ _ b)) (le_is _ _ c)

  step_is : (at : ℕ) (o : Opener) (l : Tree) (shape : Shape) (p : Place) (mid b : List Token) → Begins shape p mid b → IsOpener o shape → at ≤ opener_level o → opener_left o ≤ level l → height l ≤ h → step read at h l mid ≡ continued read o l p b
  unfolding step
  step_is at o l shape p mid b s is a c d =
      ap (step read at h l) s
      ∙ ap (λ x. step_by read at h x l p b) (opener_spelled o shape is)
      ∙ ap (λ x. cond x (continued read o l p b) None) (may_is at o l a c d)

  less_one : (m n : ℕ) → suc n ≤ m → m ≡ suc (m - 1)
  less_one m n le = omega arith

  -- one operator more is reached
  reach_step : (at : ℕ) (o : Opener) (l t : Tree) (shape : Shape) (p : Place) (ts mid b rest : List Token) → Spells types l ts mid → Begins shape p mid b → IsOpener o shape → at ≤ opener_level o → opener_left o ≤ level l → height l ≤ h → suc (height l) ≤ height t → Outcome (continued read o l p b) t rest (open_level t) → Reached at l ts mid → Reached at t ts rest
  reach_step at o l t shape p ts mid b rest sl s is a c low tall out (inr (y, e, short, g)) =
      let g' = opener_continues o shape p b (open_level l) is (subst (GoesOn (open_level l)) s g) in absurd (never_both l o g' c)
  reach_step at o l t shape p ts mid b rest sl s is a c low tall (inl d) (inl (m, e, le)) =
      let next = steps_next read at h m (m - 1) l mid t rest (less_one m 0 (omega arith)) (step_is at o l shape p mid b s is a c low ∙ d) in
      inl (m - 1, e ∙ ap Some next, omega arith)
  reach_step at o l t shape p ts mid b rest sl s is a c low tall (inr (y, d, short, g)) (inl (m, e, le)) =
      let stepped = step_is at o l shape p mid b s is a c low ∙ d in
      let next = steps_next read at h m (m - 1) l mid y.0 y.1 (less_one m 0 (omega arith)) stepped in
      let f = step_finds types read h sound at l ts mid y sl stepped in
      let r = steps_find types read h sound (m - 1) at y.0 ts y.1 f.front in
      inr (steps read at h (m - 1) y.0 y.1, e ∙ ap Some next, omega (arith, r.1), g)

  -- what each token makes of the expression before it
  infix_read : (op : Infix) (l r : Tree) (p : Place) (b rest : List Token) → Spells types r b rest → right_level op ≤ level r → height r ≤ h → Outcome (continued read (Openers.Infix op) l p b) (an_infix l op p r) rest (right_level op)
  unfolding continued
  infix_read op l r p b rest s fits low =
      outcome_map (λ u. an_infix l op p u) (read (right_level op) b) r rest (right_level op) (complete (right_level op) b r rest (record { spelled = s; fits = fits; low = low }))

  question_read : (c x y : Tree) (p : Place) (b d e rest : List Token) → Spells types x b d → height x ≤ h → BySign Signs.Colon d e → Spells types y e rest → 2 ≤ level y → height y ≤ h → Outcome (continued read Openers.Question c p b) (a_conditional c p x y) rest 2
  unfolding continued
  question_read c x y p b d e rest s low colon u fits low2 =
      outcome_of (then_read (read 2 e) (λ z rest. Some (a_conditional c p x z, rest))) _ (a_conditional c p x y) rest 2
      (ap (λ o. then_read o (λ x a. and_after (after Marks.Colon a) (λ b. then_read (read (rank Levels.Condition) b) (λ y rest. Some (a_conditional c p x y, rest))))) (exactly types read h sound complete 0 b x d (record { spelled = s; fits = omega arith; low = low }) (colon_stops 0 d e colon))
      ∙ ap (λ o. and_after o (λ b. then_read (read (rank Levels.Condition) b) (λ y rest. Some (a_conditional c p x y, rest)))) (after_spelled Marks.Colon d e colon))
      (outcome_map (λ z. a_conditional c p x z) (read 2 e) y rest 2 (complete 2 e y rest (record { spelled = u; fits = fits; low = low2 })))

  subscript_read : (t i : Tree) (p : Place) (b c rest : List Token) → Spells types i b c → height i ≤ h → BySign Signs.CloseBracket c rest → Outcome (continued read Openers.Subscript t p b) (a_subscript t p i) rest 17
  unfolding continued
  subscript_read t i p b c rest s low close =
      inl (ap (λ o. then_read o (λ i a. and_after (after Marks.CloseBracket a) (λ rest. Some (a_subscript t p i, rest)))) (exactly types read h sound complete 0 b i c (record { spelled = s; fits = omega arith; low = low }) (bracket_stops 0 c rest close))
      ∙ ap (λ o. and_after o (λ rest. Some (a_subscript t p i, rest))) (after_spelled Marks.CloseBracket c rest close))

  member_read : (t : Tree) (access : Access) (p : Place) (m : Name) (q : Place) (b rest : List Token) → Begins (Shapes.Name m) q b rest → Outcome (continued read (Openers.Member access) t p b) (a_member t access p m q) rest 17
  unfolding continued
  member_read t access p m q b rest s = inl (ap (continued_member access t p) (name_at_spelled m q b rest s))

  postfix_read : (t : Tree) (op : Postfix) (p : Place) (rest : List Token) → Outcome (continued read (Openers.Postfix op) t p rest) (a_postfix t op p) rest 17
  unfolding continued
  postfix_read t op p rest = inl refl

  -- every expression that is spelled is reached
  reach : (t : Tree) (at : ℕ) (ts rest : List Token) → Spells types t ts rest → at ≤ level t → height t ≤ suc h → Reached at t ts rest
  reach (a_name n p) at ts rest s le low =
      reach_form at (a_name n p) ts rest le (at_token (Shapes.Name n) p ts rest (a_name n p) rest s.1 (name_spelled types read h sound complete n p rest s.0))
  reach (an_integer c p) at ts rest s le low =
      reach_form at (an_integer c p) ts rest le (at_token (Shapes.Integer c) p ts rest (an_integer c p) rest s (inl refl))
  reach (a_character v p) at ts rest s le low =
      reach_form at (a_character v p) ts rest le (at_token (Shapes.Character v) p ts rest (a_character v p) rest s (inl refl))
  reach (in_parentheses t) at ts rest s le low =
      let e = ap (λ b. cond b (cast_form types read s.2.0 s.0) (inside_form read s.0)) (no_type types t s.0 s.1 s.3) ∙ inside_spelled types read h sound complete t s.0 s.1 rest s.3 s.4 (omega arith) in
      reach_form at (in_parentheses t) ts rest le (at_token (Shapes.Sign Signs.OpenParenthesis) s.2.0 ts s.0 (in_parentheses t) rest s.2.1 (inl e))
  reach (an_input a b p) at ts rest s le low =
      let f : IsFront types 2 h s.1 a s.2 = record { spelled = s.7; fits = s.8; low = omega arith } in
      let g : IsFront types 2 h s.3 b s.4 = record { spelled = s.10; fits = s.11; low = omega arith } in
      reach_form at (an_input a b p) ts rest le (at_token (Shapes.Word Words.Input) p ts s.0 (an_input a b p) rest s.5 (inl (input_spelled types read h sound complete a b p s.0 s.1 s.2 s.3 s.4 rest s.6 f s.9 g s.12)))
  reach (an_islocked n q p) at ts rest s le low =
      reach_form at (an_islocked n q p) ts rest le (at_token (Shapes.Word Words.Islocked) p ts s.0 (an_islocked n q p) rest s.3 (inl (islocked_spelled types read h sound complete n q p s.0 s.1 s.2 rest s.4 s.5 s.6)))
  reach (a_call f args p) at ts rest s le low =
      reach_form at (a_call f args p) ts rest le (at_token (Shapes.Name f) p ts s.0 (a_call f args p) rest s.2.1 (inl (call_spelled types read h sound complete f args p s.0 s.1 rest s.2.0 s.3 s.4 (omega arith))))
  reach (a_prefix op t p) at ts rest s le low =
      reach_form at (a_prefix op t p) ts rest le (prefix_read op t p ts s.0 rest s.1 s.2 s.3 (omega arith))
  reach (a_sizeof_type n p) at ts rest s le low =
      reach_form at (a_sizeof_type n p) ts rest le (at_token (Shapes.Word Words.Sizeof) p ts s.0 (a_sizeof_type n p) rest s.3 (inl (sizeof_type_spelled types read h sound complete n p s.0 s.1 s.2 rest s.4 s.5 s.6 (omega arith))))
  reach (a_cast n t p) at ts rest s le low =
      let e = ap (λ b. cond b (cast_form types read p s.0) (inside_form read s.0)) (type_name_begins types n s.0 s.1 s.4) in
      reach_form at (a_cast n t p) ts rest le (at_token (Shapes.Sign Signs.OpenParenthesis) p ts s.0 (a_cast n t p) rest s.3
      (form_of (cast_form types read p s.0) _ (a_cast n t p) rest 13 e (cast_spelled types read h sound complete n t p s.0 s.1 s.2 rest s.4 s.5 s.6 s.7 (omega arith))))
  reach (an_infix l op p r) at ts rest s le low =
      reach_step at (Openers.Infix op) l (an_infix l op p r) (Shapes.Sign s.4.0) p ts s.0 s.1 rest s.2 s.4.2 (s.4.0, s.4.1, refl) le s.3 (omega arith) (omega arith)
      (infix_read op l r p s.1 rest s.5 s.6 (omega arith)) (reach l at ts s.0 s.2 (omega (arith, looser (Openers.Infix op), s.3)) (omega arith))
  reach (a_conditional c p x y) at ts rest s le low =
      reach_step at Openers.Question c (a_conditional c p x y) (Shapes.Sign Signs.Question) p ts s.0 s.1 rest s.4 s.6 refl le s.5 (omega arith) (omega arith)
      (question_read c x y p s.1 s.2 s.3 rest s.7 (omega arith) s.8 s.9 s.10 (omega arith)) (reach c at ts s.0 s.4 (omega (arith, s.5)) (omega arith))
  reach (a_subscript t p i) at ts rest s le low =
      reach_step at Openers.Subscript t (a_subscript t p i) (Shapes.Sign Signs.OpenBracket) p ts s.0 s.1 rest s.3 s.5 refl le s.4 (omega arith) (omega arith)
      (subscript_read t i p s.1 s.2 rest s.6 (omega arith) s.7) (reach t at ts s.0 s.3 (omega (arith, s.4)) (omega arith))
  reach (a_member t access p m q) at ts rest s le low =
      reach_step at (Openers.Member access) t (a_member t access p m q) (Shapes.Sign (access_sign access)) p ts s.0 s.1 rest s.2 s.4 refl le s.3 (omega arith) (omega arith)
      (member_read t access p m q s.1 rest s.5) (reach t at ts s.0 s.2 (omega (arith, s.3)) (omega arith))
  reach (a_postfix t op p) at ts rest s le low =
      reach_step at (Openers.Postfix op) t (a_postfix t op p) (Shapes.Sign (postfix_sign op)) p ts s.0 rest rest s.1 s.3 refl le s.2 (omega arith) (omega arith)
      (postfix_read t op p rest) (reach t at ts s.0 s.1 (omega (arith, s.2)) (omega arith))

  -- and from there the reading stops, or goes on at the level
  finished : (at : ℕ) (t : Tree) (ts rest : List Token) → IsFront types at (suc h) ts t rest → Reached at t ts rest → Outcome (run at ts) t rest at
  finished at t ts rest f (inr (y, e, short, g)) = inr (y, e, short, goes_on_at t at rest g f.fits)
  finished at t ts rest f (inl (m, e, le)) = go (step read at h t rest) refl
    where
      go : (o : Option (Tree × List Token)) → step read at h t rest ≡ o → Outcome (run at ts) t rest at
      go None o = inl (e ∙ ap Some (steps_stop read at h m t rest o))
      go (Some z) o =
          let next = steps_next read at h m (m - 1) t rest z.0 z.1 (less_one m 0 (omega (arith, f.low))) o in
          let s = step_finds types read h sound at t ts rest z f.spelled o in
          let r = steps_find types read h sound (m - 1) at z.0 ts z.1 s.front in
          inr (steps read at h (m - 1) z.0 z.1, e ∙ ap Some next, omega (arith, r.1, s.short), s.goes_on)

  pub all_read : (at : ℕ) (t : Tree) (ts rest : List Token) → IsFront types at (suc h) ts t rest → Outcome (then_read (form types read h ts) (λ t rest. from_form read at h t rest)) t rest at
  unfolding run
  all_read at t ts rest f = finished at t ts rest f (reach t at ts rest f.spelled f.fits f.low)

-- what is spelled at a level and within a height is read, or something longer
pub reads_complete : (types : List Name) (h : ℕ) → IsComplete types (reads types h) h
unfolding reads
reads_complete types zero at ts t rest f = absurd (omega (arith, has_height t, f.low))
reads_complete types (suc h) at ts t rest f = all_read types (reads types h) h (reads_sound types h) (reads_complete types h) at t ts rest f

-- what is read is the longest
pub reads_longest : (types : List Name) (h at : ℕ) (ts : List Token) (y : Tree × List Token) → reads types h at ts ≡ Some y → IsLongest types at h ts y.0 y.1
reads_longest types h at ts y e = record {
  front = reads_sound types h at ts y e;
  only = λ other after f. go other after (reads_complete types h at ts other after f);
}
  where
    go : (other : Tree) (after : List Token) → Outcome (reads types h at ts) other after at → ((other ≡ y.0) × (after ≡ y.1)) ⊎ ((length y.1 < length after) × GoesOn at after)
    go other after (inl d) = let same = from_some (sym d ∙ e) in inl (ap (λ x. x.0) same, ap (λ x. x.1) same)
    go other after (inr (z, d, short, g)) =
        let same = from_some (sym d ∙ e) in inr (subst (λ (x : Tree × List Token). length x.1 < length after) same short, g)

-- and nothing is read only where nothing begins
pub reads_none : (types : List Name) (h at : ℕ) (ts : List Token) → reads types h at ts ≡ None → BeginsNone types at h ts
reads_none types h at ts e t rest f = go (reads_complete types h at ts t rest f)
  where
    go : Outcome (reads types h at ts) t rest at → ⊥
    go (inl d) = none_some (sym e ∙ d)
    go (inr (z, d, short, g)) = none_some (sym e ∙ d)
