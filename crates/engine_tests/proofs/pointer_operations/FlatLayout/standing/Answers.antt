use Rattle.std.proofs.Common.{◌≡◌, ◌≤◌, pos, nat_abs, to_z, of_z, sym, subst, ◌∙◌, arith}
use Rattle.std.specs.Int.{w128}
use Rattle.std.proofs.lemmas.Int.{ints, to_z-of_z}
use Rattle.strided_dom.specs.Progression.{Has}
use Rattle.tm_numbers.proofs.Congruences.{cong_up}
use Rattle.engine_tests.proofs.pointer_operations.FlatLayout.standing.Goals as goal

pub returns-clause-hull : goal.returns-clause-hull
returns-clause-hull c =
    let top : to_z w128 (of_z w128 c.from.result) ≡ pos c.args.self.now.offsets = to_z-of_z w128 c.from.result (omega (arith, ints, c.from.ensures)) ∙ c.from.ensures in
    record {
      complete = λ v p. (let le : p.offset ≤ c.args.self.now.offsets = p.stands in c.meet-standing.ensures.complete v (
        subst (λ s. Has s v) (sym c.set-all.ensures.value) p.member,
        c.range.ensures.complete v (record { from = omega (arith, ints, p.is); to = omega (arith, ints, p.is, le, top); congruent = cong_up 1 p.offset v (pos 0) (omega (arith, ints, p.is)) }),
      ));
      least = λ t k. record {
        within = λ v m. (let x = c.meet-standing.ensures.sound v m in let q = c.range.ensures.sound v x.1 in let le : nat_abs v ≤ c.args.self.now.offsets = omega (arith, ints, q.from, q.to, top) in
            k v (record { offset = nat_abs v; is = omega (arith, ints, q.from); member = subst (λ s. Has s v) c.set-all.ensures.value x.0; stands = le }));
      };
    }

pub returns-clause-all : goal.returns-clause-all
returns-clause-all c =
    let top : to_z w128 (of_z w128 c.from.result) ≡ pos c.args.self.now.offsets = to_z-of_z w128 c.from.result (omega (arith, ints, c.from.ensures)) ∙ c.from.ensures in (
      λ e offset m. (let x = c.meet-standing.ensures.sound (pos offset) ((c.below.ensures.0 e).within (pos offset) (subst (λ s. Has s (pos offset)) (sym c.set-all.ensures.value) m)) in
          let q = c.range.ensures.sound (pos offset) x.1 in omega (arith, ints, q.to, top)),
      λ h. c.below.ensures.1 (record {
        within = λ v m. (let m' = subst (λ s. Has s v) c.set-all.ensures.value m in
            let z = (c.set-all.ensures.within.within v m').from in
            let e : v ≡ pos (nat_abs v) = omega (arith, ints, z) in
            let le : nat_abs v ≤ c.args.self.now.offsets = h (nat_abs v) (subst (Has c.args.offsets.now.offsets) e m') in
            c.meet-standing.ensures.complete v (m, c.range.ensures.complete v (record { from = z; to = omega (arith, ints, e, le, top); congruent = cong_up 1 (nat_abs v) v (pos 0) (omega (arith, ints, e)) })));
      }),
    )
