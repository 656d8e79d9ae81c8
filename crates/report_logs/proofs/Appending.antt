-- Tokens are written one behind the other.
use Rattle.std.proofs.Common.{◌≡◌, ◌∙◌, List, [], ◌∷◌, ◌++◌, ap, refl, sym, append_assoc}
use Rattle.std.proofs.lemmas.List.{append-nil}
use Rattle.std.specs.Prelude.{OnOk, Result, Ok, Err}
use Rattle.json.specs.Token.{Token}
use Rattle.json.specs.Written.{Writes, Written}
use Rattle.report_logs.specs.reading.Written.{Appends, Completes}

-- nothing was written
pub none : {a : Written} → Appends a a []
none = record { before = refl; behind = sym (append-nil _) }

-- a token was
pub one : {E : Type 0} {a b : Written} {t : Token} → Writes {E = E} (Ok tt) a b t → Appends a b (t ∷ [])
one w = record { before = w.room.0; behind = w.ok }

-- and more behind it
pub then : {a b c : Written} {xs ys : List Token} → Appends a b xs → Appends b c ys → Appends a c (xs ++ ys)
then {a} {b} {c} {xs} {ys} f g =
    record {
      before = g.before ∙ f.before;
      behind = g.behind ∙ ap (λ t. t ++ ys) f.behind ∙ append_assoc a.tokens xs ys;
    }

-- the same tokens, by another name
pub same : {a b : Written} {xs ys : List Token} → xs ≡ ys → Appends a b xs → Appends a b ys
same {a} is f = record { before = f.before; behind = f.behind ∙ ap (λ t. a.tokens ++ t) is }

-- a token is the last
pub last : {E : Type 0} (r : Result (Unit {0}) E) {a b c : Written} {t : Token} {xs : List Token} → Writes r b c t
    → (Appends b c (t ∷ []) → Appends a c xs) → OnOk r (Appends a c xs)
last (Ok tt) w f = f (one w)
last (Err e) w f = tt

-- ## Lists

-- a list begins
pub begun : {a b : Written} {xs rest all : List Token} → Appends a b xs → all ≡ xs ++ rest → Completes a b all rest
begun {a} {b} {xs} {rest} f is =
    record {
      before = f.before;
      whole = ap (λ t. a.tokens ++ t) is ∙ sym (append_assoc a.tokens xs rest) ∙ ap (λ t. t ++ rest) (sym f.behind);
    }

-- an item more
pub more : {a b c : Written} {xs rest rest' all : List Token} → Completes a b all rest → Appends b c xs
    → rest ≡ xs ++ rest' → Completes a c all rest'
more {a} {b} {c} {xs} {rest} {rest'} f g is =
    record {
      before = g.before ∙ f.before;
      whole = f.whole ∙ ap (λ t. b.tokens ++ t) is ∙ sym (append_assoc b.tokens xs rest')
          ∙ ap (λ t. t ++ rest') (sym g.behind);
    }

-- and its end
pub ended : {a b c : Written} {xs rest all : List Token} → Completes a b all rest → Appends b c xs → rest ≡ xs
    → Appends a c all
ended {a} {b} f g is =
    record {
      before = g.before ∙ f.before;
      behind = g.behind ∙ ap (λ t. b.tokens ++ t) (sym is) ∙ sym f.whole;
    }
