use Rattle.std.proofs.Common.{◌≡◌, ◌≤◌, ◌+◌, take, length}
use Rattle.indexmap.specs.IndexMap.{get, spare}
use Rattle.c_scope.specs.declared.structures.MemberKey.{MemberKey}
use Rattle.c_scope.specs.reading.Members.{is_same_key, with_members}
use Rattle.c_scope.proofs.structures.note_members.Given as goal

abbrev pub invariant-loop-member : goal.invariant-loop-member
invariant-loop-member l = record {
  noted : (k : MemberKey) → get is_same_key l.found k ≡ with_members l.structure (take l.member-index l.members) k (get is_same_key l.initial.found k);
  room : length l.members ≤ spare l.found + l.member-index;
}
