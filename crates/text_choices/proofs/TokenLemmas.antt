-- Tokens of a shape, told by a test and by their place in a list.
use Rattle.std.proofs.Common.{◌≡◌, ℕ, zero, suc, ◌+◌, ◌<◌, Bool, true, List, [], ◌∷◌, length, get_or, refl, sym, ap, ap₂, ◌∙◌, inl, inr, ◌⊎◌, arith}
use Rattle.std.specs.Prelude.{◌↔◌, Contains, IsTrue}
use Rattle.tm_terms.specs.declared.places.Place.{Place}
use Rattle.tm_terms.specs.declared.tokens.Token.{Token}
use Rattle.tm_terms.specs.declared.tokens.Shape.{Shape}
use Rattle.tm_terms.specs.declared.tokens.Shape.TheVariants as Shapes
use Rattle.tm_terms.specs.declared.tokens.Sign.TheVariants as Signs
use Rattle.tm_terms.specs.declared.tokens.Word.TheVariants as Words
use Rattle.text_choices.specs.declared.kinds.Kind.{Kind}
use Rattle.text_choices.specs.declared.kinds.Kind.TheVariants as Kinds
use Rattle.text_choices.specs.declared.kinds.Choice.{Choice}
use Rattle.text_choices.specs.Choices.{Adds, OfKind}
use Rattle.text_choices.specs.reading.Added.{AddsTo, OneBelow}
use Rattle.text_choices.specs.reading.Tokens.{is_restrict, is_open, restrict_at, open_at}
use Rattle.text_choices.proofs.Additions.{Adds-same, Adds-one_more}

restrict_only : (s : Shape) → is_restrict s ≡ true → s ≡ Shapes.Word Words.Restrict
restrict_only (Shapes.Word Words.Restrict) h = refl
restrict_only s h = cc

pub open_only : (s : Shape) → is_open s ≡ true → s ≡ Shapes.Sign Signs.OpenParenthesis
open_only (Shapes.Sign Signs.OpenParenthesis) h = refl
open_only s h = cc

token_is : (t : Token) (s : Shape) (p : Place) → t.shape ≡ s → t.place ≡ p → t ≡ record { shape = s; place = p }
token_is t s p e f = let made : Shape → Place → Token = λ a b. record { shape = a; place = b } in ap₂ made e f

pub choice_is : (x : Choice) (k : Kind) (p : Place) → x.kind ≡ k → x.place ≡ p → x ≡ record { place = p; kind = k }
choice_is x k p e f = let made : Kind → Place → Choice = λ a b. record { place = b; kind = a } in ap₂ made e f

pub restrict_added : (t : Token) (b : Bool) → b ≡ is_restrict t.shape → (x : Choice) → IsTrue b × (x ≡ record { place = t.place; kind = Kinds.Restrict })
    → OfKind Kinds.Restrict (λ place. t ≡ restrict_at place) x
restrict_added t b e x h =
    (ap (λ (y : Choice). y.kind) h.1, token_is t (Shapes.Word Words.Restrict) x.place (restrict_only t.shape (sym e ∙ h.0)) (sym (ap (λ (y : Choice). y.place) h.1)))

pub restrict_found : (t : Token) (b : Bool) → b ≡ is_restrict t.shape → (x : Choice) → OfKind Kinds.Restrict (λ place. t ≡ restrict_at place) x
    → IsTrue b × (x ≡ record { place = t.place; kind = Kinds.Restrict })
restrict_found t b e x h =
    (e ∙ ap (λ (y : Token). is_restrict y.shape) h.1, choice_is x Kinds.Restrict t.place h.0 (sym (ap (λ (y : Token). y.place) h.1)))

pub open_added : (t : Token) → is_open t.shape ≡ true → (p : Place) → p ≡ t.place → t ≡ open_at p
open_added t h p e = token_is t (Shapes.Sign Signs.OpenParenthesis) p (open_only t.shape h) (sym e)

pub open_found : (t : Token) (p : Place) → t ≡ open_at p → (is_open t.shape ≡ true) × (p ≡ t.place)
open_found t p e = (ap (λ (y : Token). is_open y.shape) e, sym (ap (λ (y : Token). y.place) e))

-- ## The token at a place of a list

get_or-default : {X : Type 0} (xs : List X) (i : ℕ) (d e : X) → i < length xs → get_or xs i d ≡ get_or xs i e
get_or-default [] i d e h = absurd (omega arith)
get_or-default (x ∷ xs) zero d e h = refl
get_or-default (x ∷ xs) (suc i) d e h = get_or-default xs i d e (omega arith)

-- what loops read past the end of tokens
abbrev pub no_token : Token
no_token = record { shape = Shapes.Name (record { start = 0; length = 0 }); place = record { line = 0; col = 0 } }

abbrev pub StandsAt : List Token → ℕ → Token → Type 0
StandsAt tokens k t = get_or tokens k t ≡ t

pub stands_here : (tokens : List Token) (i : ℕ) (t : Token) → i < length tokens → get_or tokens i no_token ≡ t → StandsAt tokens i t
stands_here tokens i t h e = get_or-default tokens i t no_token h ∙ e

pub here_stands : (tokens : List Token) (i : ℕ) (t : Token) → i < length tokens → StandsAt tokens i t → get_or tokens i no_token ≡ t
here_stands tokens i t h e = get_or-default tokens i no_token t h ∙ e

-- the words `restrict` among the first tokens, and one more
abbrev pub RestrictsBelow : List Token → ℕ → Choice → Type 0
RestrictsBelow tokens n = OneBelow n (λ k. OfKind Kinds.Restrict (λ place. StandsAt tokens k (restrict_at place)))

pub restricts_more : (tokens : List Token) (i : ℕ) (old new newer : List Choice) → i < length tokens → Adds old new (RestrictsBelow tokens i)
    → Adds new newer (OfKind Kinds.Restrict (λ place. get_or tokens i no_token ≡ restrict_at place)) → Adds old newer (RestrictsBelow tokens (i + 1))
restricts_more tokens i old new newer h before here =
    Adds-one_more old new newer i (λ k. OfKind Kinds.Restrict (λ place. StandsAt tokens k (restrict_at place))) before
    (Adds-same new newer (OfKind Kinds.Restrict (λ place. get_or tokens i no_token ≡ restrict_at place)) (OfKind Kinds.Restrict (λ place. StandsAt tokens i (restrict_at place)))
    (λ x c. (c.0, stands_here tokens i (restrict_at x.place) h c.1)) (λ x c. (c.0, here_stands tokens i (restrict_at x.place) h c.1)) here)

pub restricts_all : (tokens : List Token) (n : ℕ) (old new : List Choice) → n ≡ length tokens → Adds old new (RestrictsBelow tokens n)
    → Adds old new (OfKind Kinds.Restrict (λ place. Contains tokens (restrict_at place)))
restricts_all tokens n old new same h =
    Adds-same old new (RestrictsBelow tokens n) (OfKind Kinds.Restrict (λ place. Contains tokens (restrict_at place)))
    (λ x c. (c.2.0, (c.0, omega (arith, c.1), c.2.1))) (λ x c. (c.1.0, omega (arith, c.1.1), (c.0, c.1.2))) h

-- the same of the signs `(`
abbrev pub OpensBelow : List Token → ℕ → Place → Type 0
OpensBelow tokens n = OneBelow n (λ k place. StandsAt tokens k (open_at place))

pub opens_more : (tokens : List Token) (i : ℕ) (old new newer : List Place) → i < length tokens → AddsTo old new (OpensBelow tokens i)
    → AddsTo new newer (λ place. get_or tokens i no_token ≡ open_at place) → AddsTo old newer (OpensBelow tokens (i + 1))
opens_more tokens i old new newer h before here =
    Adds-one_more old new newer i (λ k place. StandsAt tokens k (open_at place)) before
    (Adds-same new newer (λ place. get_or tokens i no_token ≡ open_at place) (λ place. StandsAt tokens i (open_at place))
    (λ x c. stands_here tokens i (open_at x) h c) (λ x c. here_stands tokens i (open_at x) h c) here)

pub opens_all : (tokens : List Token) (n : ℕ) (places : List Place) → n ≡ length tokens → AddsTo [] places (OpensBelow tokens n)
    → (place : Place) → Contains places place ↔ Contains tokens (open_at place)
opens_all tokens n places same h place = (λ c. there ((h place).0 c), λ c. (h place).1 (inr (c.0, omega (arith, c.1), c.2)))
  where
    there : Contains [] place ⊎ OpensBelow tokens n place → Contains tokens (open_at place)
    there (inl c) = absurd (omega (arith, c.1))
    there (inr c) = (c.0, omega (arith, c.1), c.2)
