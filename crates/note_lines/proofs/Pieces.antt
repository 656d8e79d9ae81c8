-- Pieces of a line, appended one after the other.
use Rattle.std.proofs.Common.{◌≡◌, sym, ap, ◌∙◌, List, ◌++◌}
use Rattle.std.proofs.lemmas.List.{append_assoc}

pub seven : {A : Type 0} (o a b c d e f g : List A)
    → ((((((o ++ a) ++ b) ++ c) ++ d) ++ e) ++ f) ++ g ≡ o ++ ((a ++ (b ++ (c ++ (d ++ (e ++ f))))) ++ g)
seven o a b c d e f g =
    append_assoc (((((o ++ a) ++ b) ++ c) ++ d) ++ e) f g
    ∙ append_assoc ((((o ++ a) ++ b) ++ c) ++ d) e (f ++ g)
    ∙ append_assoc (((o ++ a) ++ b) ++ c) d (e ++ (f ++ g))
    ∙ append_assoc ((o ++ a) ++ b) c (d ++ (e ++ (f ++ g)))
    ∙ append_assoc (o ++ a) b (c ++ (d ++ (e ++ (f ++ g))))
    ∙ append_assoc o a (b ++ (c ++ (d ++ (e ++ (f ++ g)))))
    ∙ ap (λ x. o ++ x) (sym (append_assoc a (b ++ (c ++ (d ++ (e ++ f)))) g
    ∙ ap (λ x. a ++ x) (append_assoc b (c ++ (d ++ (e ++ f))) g
    ∙ ap (λ x. b ++ x) (append_assoc c (d ++ (e ++ f)) g
    ∙ ap (λ x. c ++ x) (append_assoc d (e ++ f) g ∙ ap (λ x. d ++ x) (append_assoc e f g))))))

-- a line of seven pieces
pub line : {A : Type 0} (o a b c d e f g : List A) {p q r s t u v : List A} → p ≡ o ++ a → q ≡ p ++ b → r ≡ q ++ c
    → s ≡ r ++ d → t ≡ s ++ e → u ≡ t ++ f → v ≡ u ++ g
    → v ≡ o ++ ((a ++ (b ++ (c ++ (d ++ (e ++ f))))) ++ g)
line o a b c d e f g i j k l m n h =
    h ∙ ap (λ x. x ++ g) (n ∙ ap (λ x. x ++ f) (m ∙ ap (λ x. x ++ e) (l ∙ ap (λ x. x ++ d) (k ∙ ap (λ x. x ++ c)
    (j ∙ ap (λ x. x ++ b) i))))) ∙ seven o a b c d e f g

-- three, four and five pieces
pub three : {A : Type 0} (o a b c : List A) {p q r : List A} → p ≡ o ++ a → q ≡ p ++ b → r ≡ q ++ c
    → r ≡ o ++ (a ++ (b ++ c))
three o a b c i j k =
    k ∙ ap (λ x. x ++ c) (j ∙ ap (λ x. x ++ b) i) ∙ append_assoc (o ++ a) b c ∙ append_assoc o a (b ++ c)

pub four : {A : Type 0} (o a b c d : List A) {p q r s : List A} → p ≡ o ++ a → q ≡ p ++ b → r ≡ q ++ c → s ≡ r ++ d
    → s ≡ o ++ ((a ++ (b ++ c)) ++ d)
four o a b c d i j k l = l ∙ ap (λ x. x ++ d) (three o a b c i j k) ∙ append_assoc o (a ++ (b ++ c)) d

pub five : {A : Type 0} (o a b c d e : List A) {p q r s t : List A} → p ≡ o ++ a → q ≡ p ++ b → r ≡ q ++ c → s ≡ r ++ d
    → t ≡ s ++ e → t ≡ o ++ (a ++ (b ++ (c ++ (d ++ e))))
five o a b c d e i j k l m =
    m ∙ ap (λ x. x ++ e) (l ∙ ap (λ x. x ++ d) (three o a b c i j k))
    ∙ append_assoc (o ++ (a ++ (b ++ c))) d e
    ∙ append_assoc o (a ++ (b ++ c)) (d ++ e)
    ∙ ap (λ x. o ++ x) (append_assoc a (b ++ c) (d ++ e) ∙ ap (λ x. a ++ x) (append_assoc b c (d ++ e)))
