use Rattle.std.proofs.Common.{◌≡◌, ℕ, List, Some, below_more, get_or, map, subst}
use Rattle.std.specs.Prelude.{slice_get}
use Rattle.std.proofs.lemmas.Option.{get_or_from_slice_get}
use Rattle.source_marks.specs.reading.Seen.{origin_seen}
use Rattle.tm_terms.specs.declared.tokens.Shape.TheVariants as shape
use Rattle.tm_terms.specs.declared.tokens.Token.{Token}
use Rattle.unit_tokens.specs.declared.fates.Fate.TheVariants as fate
use Rattle.unit_tokens.specs.declared.fates.Fated.{Fated}
use Rattle.unit_joins.specs.Joins.{IsWritten}
use Rattle.unit_joins.proofs.checks.are_written.Goals as goal

there : {A B : Type 0} (R : A → B → Type 0) (xs : List A) (ys : List B) (k : ℕ) (c : A) (d : B) → R (get_or xs k c) (get_or ys k d)
    → (x : A) (y : B) → slice_get xs k ≡ Some x → slice_get ys k ≡ Some y → R x y
there R xs ys k c d r x y at_x at_y =
    subst (λ b. R x b) (get_or_from_slice_get ys k y d at_y) (subst (λ a. R a (get_or ys k d)) (get_or_from_slice_get xs k x c at_x) r)

pub loop-k-preserved : goal.loop-k-preserved
loop-k-preserved c =
    let R = IsWritten c.args.texts.renaming.units.now c.args.texts.renaming.mark.now c.args.texts.renaming.borders.now
    (map origin_seen c.args.texts.origins.now) c.args.texts.joined.now (map origin_seen c.args.texts.joined_origins.now) in
    below_more (λ k. (f : Fated) (t : Token) → slice_get c.args.kept.now k ≡ Some f → slice_get c.args.tokens.now k ≡ Some t → R f t)
    c.loop-k.k c.loop-k.invariant
    (there R c.args.kept.now c.args.tokens.now c.loop-k.k
    (record { token = record { shape = shape.Name (record { start = 0; length = 0 }); place = record { line = 0; col = 0 } }; fate = fate.Stays })
    (record { shape = shape.Name (record { start = 0; length = 0 }); place = record { line = 0; col = 0 } })
    (c.in_ok-stands.ensures c.if-not-stands.false))
