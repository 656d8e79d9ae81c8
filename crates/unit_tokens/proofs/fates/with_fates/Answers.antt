use Rattle.std.proofs.Common.{◌≡◌, ◌∙◌, ℕ, ◌+◌, ◌<◌, List, [], ◌∷◌, ◌++◌, ap, get_or, length, map, refl, sym, take}
use Rattle.std.proofs.lemmas.List.{map-append, take_all, take_more}
use Rattle.tm_terms.specs.declared.tokens.Token.{Token}
use Rattle.unit_tokens.specs.declared.fates.Fated.{Fated}
use Rattle.unit_tokens.proofs.fates.with_fates.Goals as goal

token_more : (tokens : List Token) (i : ℕ) (t : Token) (old new : List Fated) (one : Fated) → i < length tokens
    → map (λ (f : Fated). f.token) old ≡ take i tokens → new ≡ old ++ one ∷ [] → one.token ≡ get_or tokens i t
    → map (λ (f : Fated). f.token) new ≡ take (i + 1) tokens
token_more tokens i t old new one h before pushed is =
    ap (map (λ (f : Fated). f.token)) pushed ∙ map-append (λ (f : Fated). f.token) old (one ∷ [])
    ∙ ap (λ l. l ++ one.token ∷ []) before ∙ ap (λ token. take i tokens ++ token ∷ []) is
    ∙ sym (take_more tokens i t h)

pub loop-index-preserved : goal.loop-index-preserved
loop-index-preserved c =
    token_more c.args.tokens.now c.loop-index.index _ c.loop-index.made.items c.push.new.self.items _ c.loop-index-test.true
    c.loop-index.invariant c.in_ok-push.ensures.items refl

pub returns : goal.returns
returns c = c.loop-index.invariant ∙ take_all c.loop-index.index c.args.tokens.now c.loop-index-test.false
