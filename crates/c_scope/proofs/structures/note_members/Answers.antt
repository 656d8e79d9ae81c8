use Rattle.std.proofs.Common.{◌≡◌, ◌∙◌, ap, sym, take, ◌++◌, [], ◌∷◌, get_or, arith, false}
use Rattle.std.proofs.lemmas.List.{take_more}
use Rattle.indexmap.specs.IndexMap.{get}
use Rattle.tm_typed.specs.declared.scopes.Member.{Member}
use Rattle.c_scope.specs.reading.Members.{is_same_key, with_members}
use Rattle.c_scope.proofs.Members.{noted}
use Rattle.c_scope.proofs.structures.note_members.Goals as goal

no_member : Member
no_member = record { name = record { start = 0; length = 0 }; part = record { of = record { number = 0; constant = false; volatile = false }; cell = 0 } }

pub loop-member-preserved : goal.loop-member-preserved
unfolding no_member
loop-member-preserved c =
    let i = c.loop-member.member-index in
    let ms = c.args.members.now in
    let m : Member = get_or ms i no_member in
    record {
      noted = λ k. noted c.args.structure (take i ms) m k (get is_same_key c.args.found.now k) (get is_same_key c.insert.new.self k) (get is_same_key c.loop-member.found k) (c.in-Ok.ensures.updates.0 k) (c.loop-member.invariant.noted k)
          ∙ ap (λ xs. with_members c.args.structure xs k (get is_same_key c.args.found.now k)) (sym (take_more ms i no_member c.loop-member-test.true));
      room = omega (arith, c.in-Ok.ensures.spare, c.loop-member.invariant.room);
    }
