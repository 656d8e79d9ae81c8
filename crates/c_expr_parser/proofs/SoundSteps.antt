-- What is read is spelled: the operators that follow, and the whole.
use Rattle.std.proofs.Common.{◌≡◌, ℕ, zero, suc, ◌<◌, ◌≤◌, List, [], ◌∷◌, length, Option, Some, None, refl, sym, ap, subst, arith}
use Rattle.std.specs.Prelude.{◌&&◌, nat_le, MatchOption}
use Rattle.tm_terms.specs.declared.places.Place.{Place}
use Rattle.tm_terms.specs.declared.tokens.Name.{Name}
use Rattle.tm_terms.specs.declared.tokens.Sign.{Sign}
use Rattle.tm_terms.specs.declared.tokens.Sign.TheVariants as Signs
use Rattle.tm_terms.specs.declared.tokens.Shape.{Shape}
use Rattle.tm_terms.specs.declared.tokens.Shape.TheVariants as Shapes
use Rattle.tm_terms.specs.declared.tokens.Token.{Token}
use Rattle.tm_terms.specs.declared.exprs.Infix.{Infix}
use Rattle.tm_terms.specs.declared.exprs.Level.TheVariants as Levels
use Rattle.tm_terms.specs.ExprTrees.{Tree, an_infix, a_conditional, a_subscript, a_member, rank, right_level, level, height}
use Rattle.tm_terms.specs.ExprSpelling.{infix_of, access_sign, postfix_sign, Spells, continued_by, continued_level, GoesOn, IsFront}
use Rattle.c_expr_parser.specs.declared.marks.Mark.TheVariants as Marks
use Rattle.c_expr_parser.specs.declared.marks.Opener.{Opener}
use Rattle.c_expr_parser.specs.declared.marks.Opener.TheVariants as Openers
use Rattle.c_expr_parser.specs.reading.Parts.{then_read, and_after, after, name_at, opener_by, opener_of, opener_level, opener_left}
use Rattle.c_expr_parser.specs.reading.Descent.{Part, form, continued, may_continue, step_by, step, steps_by, steps, from_form, reads}
use Rattle.c_expr_parser.proofs.Tokens.{none_some, from_some, shaped, after_finds, name_at_finds, then_read_some, and_after_some, cond_some, and_true, begins_shorter}
use Rattle.c_expr_parser.proofs.Sound.{le_true, shorter, by_shorter}
use Rattle.c_expr_parser.proofs.SoundForms.{IsSound, form_finds}

-- the shape of a token that continues an expression so
abbrev pub IsOpener : Opener → Shape → Type 0
IsOpener (Openers.Infix op) shape = (sign : Sign) × (infix_of sign ≡ Some op) × (shape ≡ Shapes.Sign sign)
IsOpener Openers.Question shape = shape ≡ Shapes.Sign Signs.Question
IsOpener Openers.Subscript shape = shape ≡ Shapes.Sign Signs.OpenBracket
IsOpener (Openers.Member access) shape = shape ≡ Shapes.Sign (access_sign access)
IsOpener (Openers.Postfix op) shape = shape ≡ Shapes.Sign (postfix_sign op)

abbrev Opened : Shape → Opener → Type 0
Opened shape o = IsOpener o shape × (continued_level shape ≡ Some (opener_level o))

opener_by_finds : (i : Option Infix) (sign : Sign) (o : Opener) → infix_of sign ≡ i → opener_by i sign ≡ Some o → Opened (Shapes.Sign sign) o
opener_by_finds (Some op) sign o h e = subst (Opened (Shapes.Sign sign)) (from_some e) ((sign, h, refl), ap (λ i. continued_by i sign) h)
opener_by_finds None Signs.Question o h e = subst (Opened (Shapes.Sign Signs.Question)) (from_some e) (refl, refl)
opener_by_finds None Signs.OpenBracket o h e = subst (Opened (Shapes.Sign Signs.OpenBracket)) (from_some e) (refl, refl)
opener_by_finds None Signs.Dot o h e = subst (Opened (Shapes.Sign Signs.Dot)) (from_some e) (refl, refl)
opener_by_finds None Signs.Arrow o h e = subst (Opened (Shapes.Sign Signs.Arrow)) (from_some e) (refl, refl)
opener_by_finds None Signs.PlusPlus o h e = subst (Opened (Shapes.Sign Signs.PlusPlus)) (from_some e) (refl, refl)
opener_by_finds None Signs.MinusMinus o h e = subst (Opened (Shapes.Sign Signs.MinusMinus)) (from_some e) (refl, refl)
opener_by_finds None _ o h e = none_some e

pub opener_finds : (shape : Shape) (o : Opener) → opener_of shape ≡ Some o → Opened shape o
opener_finds (Shapes.Sign sign) o e = opener_by_finds (infix_of sign) sign o refl e
opener_finds _ o e = none_some e

-- a step gives a longer expression of the opener's level, and one node more at most
record Continued (types : List Name) (limit : ℕ) (o : Opener) (ts0 b : List Token) (y : Tree × List Token) : Type 0 where
  spelled : Spells types y.0 ts0 y.1
  levelled : level y.0 ≡ opener_level o
  low : height y.0 ≤ limit
  short : length y.1 ≤ length b

-- how a step comes about
pub record Stepped (types : List Name) (at limit : ℕ) (ts0 ts : List Token) (y : Tree × List Token) : Type 0 where
  pub front : IsFront types at limit ts0 y.0 y.1
  pub short : length y.1 < length ts
  pub goes_on : GoesOn at ts

token_is : (shape other : Shape) (p : Place) (b : List Token) → shape ≡ other → (record { shape = shape; place = p }) ∷ b ≡ (record { shape = other; place = p }) ∷ b
token_is shape other p b e = shaped p b e

module _ (types : List Name) (read : Part) (h : ℕ) (sound : IsSound types read h) where
  continued_finds : (o : Opener) (t : Tree) (shape : Shape) (p : Place) (ts0 b : List Token) (y : Tree × List Token) → Spells types t ts0 ((record { shape = shape; place = p }) ∷ b) → IsOpener o shape → opener_left o ≤ level t → height t ≤ h → continued read o t p b ≡ Some y → Continued types (suc h) o ts0 b y
  unfolding continued
  continued_finds (Openers.Infix op) t shape p ts0 b y s is fits low e =
      let a = then_read_some (read (right_level op) b) (λ r rest. Some (an_infix t op p r, rest)) y e in
      let f = sound (right_level op) b a.0 a.1 in
      let less = shorter types a.0.0 b a.0.1 f.spelled in
      subst (Continued types (suc h) (Openers.Infix op) ts0 b) (from_some a.2) (record {
        spelled = ((record { shape = shape; place = p }) ∷ b, b, s, fits, (is.0, is.1, token_is shape _ p b is.2), f.spelled, f.fits);
        levelled = refl;
        low = omega (arith, f.low);
        short = omega arith;
      })
  continued_finds Openers.Question t shape p ts0 b y s is fits low e =
      let a = then_read_some (read (rank Levels.Comma) b) (λ x a. and_after (after Marks.Colon a) (λ c. then_read (read (rank Levels.Condition) c) (λ z rest. Some (a_conditional t p x z, rest)))) y e in
      let c = and_after_some (after Marks.Colon a.0.1) (λ c. then_read (read (rank Levels.Condition) c) (λ z rest. Some (a_conditional t p a.0.0 z, rest))) y a.2 in
      let d = then_read_some (read (rank Levels.Condition) c.0) (λ z rest. Some (a_conditional t p a.0.0 z, rest)) y c.2 in
      let f = sound (rank Levels.Comma) b a.0 a.1 in
      let g = sound (rank Levels.Condition) c.0 d.0 d.1 in
      let colon = after_finds Marks.Colon a.0.1 c.0 c.1 in
      let less = shorter types a.0.0 b a.0.1 f.spelled in
      let less2 = by_shorter Signs.Colon a.0.1 c.0 colon in
      let less3 = shorter types d.0.0 c.0 d.0.1 g.spelled in
      subst (Continued types (suc h) Openers.Question ts0 b) (from_some d.2) (record {
        spelled = ((record { shape = shape; place = p }) ∷ b, b, a.0.1, c.0, s, fits, token_is shape _ p b is, f.spelled, colon, g.spelled, g.fits);
        levelled = refl;
        low = omega (arith, f.low, g.low);
        short = omega arith;
      })
  continued_finds Openers.Subscript t shape p ts0 b y s is fits low e =
      let a = then_read_some (read (rank Levels.Comma) b) (λ i a. and_after (after Marks.CloseBracket a) (λ rest. Some (a_subscript t p i, rest))) y e in
      let c = and_after_some (after Marks.CloseBracket a.0.1) (λ rest. Some (a_subscript t p a.0.0, rest)) y a.2 in
      let f = sound (rank Levels.Comma) b a.0 a.1 in
      let close = after_finds Marks.CloseBracket a.0.1 c.0 c.1 in
      let less = shorter types a.0.0 b a.0.1 f.spelled in
      let less2 = by_shorter Signs.CloseBracket a.0.1 c.0 close in
      subst (Continued types (suc h) Openers.Subscript ts0 b) (from_some c.2) (record {
        spelled = ((record { shape = shape; place = p }) ∷ b, b, a.0.1, s, fits, token_is shape _ p b is, f.spelled, close);
        levelled = refl;
        low = omega (arith, f.low);
        short = omega arith;
      })
  continued_finds (Openers.Member access) t shape p ts0 b y s is fits low e =
      let a = then_read_some (name_at b) (λ m rest. Some (a_member t access p m.0 m.1, rest)) y e in
      let n = name_at_finds b a.0 a.1 in
      let less = begins_shorter (Shapes.Name a.0.0.0) a.0.0.1 b a.0.1 n in
      subst (Continued types (suc h) (Openers.Member access) ts0 b) (from_some a.2) (record {
        spelled = ((record { shape = shape; place = p }) ∷ b, b, s, fits, token_is shape _ p b is, n);
        levelled = refl;
        low = omega arith;
        short = omega arith;
      })
  continued_finds (Openers.Postfix op) t shape p ts0 b y s is fits low e =
      subst (Continued types (suc h) (Openers.Postfix op) ts0 b) (from_some e) (record {
        spelled = ((record { shape = shape; place = p }) ∷ b, s, fits, token_is shape _ p b is);
        levelled = refl;
        low = omega arith;
        short = omega arith;
      })

  goes : (at found : ℕ) (token : Token) (ts : List Token) → continued_level token.shape ≡ Some found → at ≤ found → GoesOn at (token ∷ ts)
  goes at found token ts e le = subst (λ o. MatchOption o ⊥ (λ f. at ≤ f)) (sym e) le

  pub step_finds : (at : ℕ) (t : Tree) (ts0 ts : List Token) (y : Tree × List Token) → Spells types t ts0 ts → step read at h t ts ≡ Some y → Stepped types at (suc h) ts0 ts y
  unfolding step
  step_finds at t ts0 [] y s e = none_some e
  step_finds at t ts0 (token ∷ b) y s e = go (opener_of token.shape) refl e
    where
      go : (o : Option Opener) → opener_of token.shape ≡ o → step_by read at h o t token.place b ≡ Some y → Stepped types at (suc h) ts0 (token ∷ b) y
      go None o e = none_some e
      go (Some opener) o e =
          let c = cond_some (may_continue at h opener t) (continued read opener t token.place b) y e in
          let m = and_true (nat_le at (opener_level opener) && nat_le (opener_left opener) (level t)) (nat_le (height t) h) c.0 in
          let n = and_true (nat_le at (opener_level opener)) (nat_le (opener_left opener) (level t)) m.0 in
          let is = opener_finds token.shape opener o in
          let fits = le_true at (opener_level opener) n.0 in
          let r = continued_finds opener t token.shape token.place ts0 b y s is.0 (le_true _ _ n.1) (le_true _ _ m.1) c.1 in
          let same = r.levelled in
          record {
            front = record { spelled = r.spelled; fits = omega arith; low = r.low };
            short = omega (arith, r.short);
            goes_on = goes at (opener_level opener) token b is.1 fits;
          }

  -- the operators that follow
  abbrev StepsRead : ℕ → List Token → List Token → Tree × List Token → Type 0
  StepsRead at ts0 ts y = IsFront types at (suc h) ts0 y.0 y.1 × (length y.1 ≤ length ts)

  pub steps_find : (n at : ℕ) (t : Tree) (ts0 ts : List Token) → IsFront types at (suc h) ts0 t ts → StepsRead at ts0 ts (steps read at h n t ts)
  unfolding steps
  steps_find zero at t ts0 ts f = (f, omega arith)
  steps_find (suc n) at t ts0 ts f = go (step read at h t ts) refl (λ u rest g. steps_find n at u ts0 rest g)
    where
      go : (o : Option (Tree × List Token)) → step read at h t ts ≡ o → ((u : Tree) (rest : List Token) → IsFront types at (suc h) ts0 u rest → StepsRead at ts0 rest (steps read at h n u rest)) → StepsRead at ts0 ts (steps_by o (t, ts) (λ u rest. steps read at h n u rest))
      go None o ih = (f, omega arith)
      go (Some y) o ih =
          let s = step_finds at t ts0 ts y f.spelled o in
          let r = ih y.0 y.1 s.front in (r.0, omega (arith, s.short, r.1))

  pub reading_finds : (at : ℕ) (ts : List Token) (y : Tree × List Token) → then_read (form types read h ts) (λ t rest. from_form read at h t rest) ≡ Some y → IsFront types at (suc h) ts y.0 y.1
  unfolding from_form
  reading_finds at ts y e =
      let a = then_read_some (form types read h ts) (λ t rest. from_form read at h t rest) y e in
      let c = cond_some (nat_le at (level a.0.0)) (Some (steps read at h (suc h) a.0.0 a.0.1)) y a.2 in
      let f = form_finds types read h sound ts a.0 a.1 in
      let g : IsFront types at (suc h) ts a.0.0 a.0.1 = record { spelled = f.0; fits = le_true _ _ c.0; low = f.1 } in
      subst (λ (z : Tree × List Token). IsFront types at (suc h) ts z.0 z.1) (from_some c.1) (steps_find (suc h) at a.0.0 ts a.0.1 g).0

-- what is read is spelled, at its level and within its height
pub reads_sound : (types : List Name) (h : ℕ) → IsSound types (reads types h) h
unfolding reads
reads_sound types zero at ts x e = none_some e
reads_sound types (suc h) at ts x e = reading_finds types (reads types h) h (reads_sound types h) at ts x e
