-- Refusals and their order: a construct is refused by the first row of its rules that it meets, and its parts come
-- before it, from left to right.
use Rattle.std.specs.Prelude.{◌≡◌, Bool, cond, Option, Some, None, Result, Ok, Err}
use Rattle.tm_trees.specs.tm_terms.declared.places.Place.{Place}
use Rattle.tm_trees.specs.tm_terms.declared.refusals.Kind.{Kind}
use Rattle.tm_trees.specs.tm_terms.declared.refusals.Refusal.{Refusal}
use Rattle.tm_trees.specs.tm_terms.declared.refusals.Fail.{Fail}
use Rattle.tm_trees.specs.tm_terms.declared.refusals.Fail.TheVariants as Fails

-- a refusal of this kind at this place
abbrev pub refused : {A : Type 0} → Kind → Place → Result A Refusal
refused kind place = Err (record { kind = kind; place = place; limit = None })

-- a part, and what comes after it: the part's refusal comes first
abbrev pub then_with : {A B : Type 0} → Result A Refusal → (A → Result B Refusal) → Result B Refusal
then_with (Err r) k = Err r
then_with (Ok a) k = k a

-- a row of the rules: where it holds the construct is refused, else the further rows
abbrev pub row : {A : Type 0} → Bool → Kind → Place → Result A Refusal → Result A Refusal
row holds kind place further = cond holds (refused kind place) further

-- a row that holds where no rule gives a value
abbrev pub row_unless : {A B : Type 0} → Option A → Kind → Place → (A → Result B Refusal) → Result B Refusal
row_unless None kind place further = refused kind place
row_unless (Some a) kind place further = further a

-- What the answer of the code says of the definition's answer: it is that one, as the view shows it, or want of memory.
abbrev pub Gives : {A B : Type 0} → (A → B) → Result A Fail → Result B Refusal → Type 0
Gives view (Ok a) want = want ≡ Ok (view a)
Gives view (Err (Fails.Refused r)) want = want ≡ Err r
Gives view (Err Fails.NoMemory) want = Unit {0}

-- The same of a call that cannot be refused: there is a value, which is the wanted one, or there is none, or want of
-- memory.
abbrev pub GivesOption : {A B E : Type 0} → (A → B) → Result (Option A) E → Option B → Type 0
GivesOption view (Ok None) want = want ≡ None
GivesOption view (Ok (Some a)) want = want ≡ Some (view a)
GivesOption view (Err e) want = Unit {0}
