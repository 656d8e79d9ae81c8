-- What is known of a case.
use Rattle.std.proofs.Common.{◌≡◌, Bool, true, false}
use Rattle.std.specs.Prelude.{MatchBool}

pub on_false : (A B : Type 0) (b : Bool) → MatchBool b A B → b ≡ false → B
on_false A B true h e = absurd (cc)
on_false A B false h e = h

pub on_true : (A B : Type 0) (b : Bool) → MatchBool b A B → b ≡ true → A
on_true A B true h e = h
on_true A B false h e = absurd (cc)
