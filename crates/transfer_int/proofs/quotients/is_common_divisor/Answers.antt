use Rattle.std.proofs.Common.{◌∙◌, sym, arith}
use Rattle.std.proofs.lemmas.Int.{ints, to_z-of_z}
use Rattle.congruence_dom.proofs.Ranges.{residue_fits, modulus_fits}
use Rattle.transfer_int.proofs.Dividing.{divides_both}
use Rattle.transfer_int.proofs.quotients.is_common_divisor.Goals as goal

pub returns : goal.returns
returns c =
    let d = to_z-of_z _ _ c.ranges.d in
    divides_both c.args.d c.args.class _ _ (λ e. c.if-d-eq0.false (rw e)) (rw (d, to_z-of_z _ _ (residue_fits c.args.class c.requires)) at c.divides.ensures) c.if-not-divides.false
    (rw (d, to_z-of_z _ _ (modulus_fits c.args.class c.requires)) at c.divides-2.ensures)

pub divides-requires-clause-divisor : goal.divides-requires-clause-divisor
divides-requires-clause-divisor c = λ e. c.if-d-eq0.false (rw (sym (to_z-of_z _ _ c.ranges.d) ∙ e))

pub divides-requires-clause-dividend : goal.divides-requires-clause-dividend
divides-requires-clause-dividend c = rw (to_z-of_z _ _ (residue_fits c.args.class c.requires))
    (omega (arith, ints, c.requires.low, c.requires.high))

pub divides-requires-2-clause-divisor : goal.divides-requires-2-clause-divisor
divides-requires-2-clause-divisor c = λ e. c.if-d-eq0.false (rw (sym (to_z-of_z _ _ c.ranges.d) ∙ e))

pub divides-requires-2-clause-dividend : goal.divides-requires-2-clause-dividend
divides-requires-2-clause-dividend c = rw (to_z-of_z _ _ (modulus_fits c.args.class c.requires))
    (omega (arith, ints, c.requires.modulus_low, c.requires.modulus_high))

pub returns-then-not-divides : goal.returns-then-not-divides
returns-then-not-divides c =
    let d = to_z-of_z _ _ c.ranges.d in
    let no = rw (c.if-not-divides.true, d, to_z-of_z _ _ (residue_fits c.args.class c.requires)) at c.divides.ensures in
    (λ h. absurd cc, λ h. no.1 h.divides.0)
