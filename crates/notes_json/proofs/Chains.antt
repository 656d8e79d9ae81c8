-- Pieces of a text, appended one after the other.
use Rattle.std.proofs.Common.{◌≡◌, ap, ◌∙◌, List, ◌++◌}
use Rattle.std.proofs.lemmas.List.{append_assoc}

-- a piece more
then : {A : Type 0} (o a b : List A) {p q : List A} → p ≡ o ++ a → q ≡ p ++ b → q ≡ o ++ (a ++ b)
then o a b i j = j ∙ ap (λ x. x ++ b) i ∙ append_assoc o a b

-- two pieces and more
pub two : {A : Type 0} (o a b : List A) {p q : List A} → p ≡ o ++ a → q ≡ p ++ b → q ≡ o ++ (a ++ b)
two o a b i j = then o a b i j

pub three : {A : Type 0} (o a b c : List A) {p q r : List A} → p ≡ o ++ a → q ≡ p ++ b → r ≡ q ++ c
    → r ≡ o ++ (a ++ (b ++ c))
three o a b c i j k = then o a (b ++ c) i (then _ b c j k)

pub four : {A : Type 0} (o a b c d : List A) {p q r s : List A} → p ≡ o ++ a → q ≡ p ++ b → r ≡ q ++ c → s ≡ r ++ d
    → s ≡ o ++ (a ++ (b ++ (c ++ d)))
four o a b c d i j k l = then o a (b ++ (c ++ d)) i (three _ b c d j k l)

pub five : {A : Type 0} (o a b c d e : List A) {p q r s t : List A} → p ≡ o ++ a → q ≡ p ++ b → r ≡ q ++ c → s ≡ r ++ d
    → t ≡ s ++ e → t ≡ o ++ (a ++ (b ++ (c ++ (d ++ e))))
five o a b c d e i j k l m = then o a (b ++ (c ++ (d ++ e))) i (four _ b c d e j k l m)

pub six : {A : Type 0} (o a b c d e f : List A) {p q r s t u : List A} → p ≡ o ++ a → q ≡ p ++ b → r ≡ q ++ c
    → s ≡ r ++ d → t ≡ s ++ e → u ≡ t ++ f → u ≡ o ++ (a ++ (b ++ (c ++ (d ++ (e ++ f)))))
six o a b c d e f i j k l m n = then o a (b ++ (c ++ (d ++ (e ++ f)))) i (five _ b c d e f j k l m n)

pub seven : {A : Type 0} (o a b c d e f g : List A) {p q r s t u v : List A} → p ≡ o ++ a → q ≡ p ++ b → r ≡ q ++ c
    → s ≡ r ++ d → t ≡ s ++ e → u ≡ t ++ f → v ≡ u ++ g
    → v ≡ o ++ (a ++ (b ++ (c ++ (d ++ (e ++ (f ++ g))))))
seven o a b c d e f g i j k l m n h =
    then o a (b ++ (c ++ (d ++ (e ++ (f ++ g))))) i (six _ b c d e f g j k l m n h)
