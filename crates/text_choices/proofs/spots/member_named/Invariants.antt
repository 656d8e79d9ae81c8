use Rattle.std.proofs.Common.{◌≡◌, drop}
use Rattle.text_choices.specs.AddressConstants.{member_named}
use Rattle.text_choices.proofs.spots.member_named.Given as goal

abbrev pub invariant-loop-member : goal.invariant-loop-member
invariant-loop-member l = member_named l.name (drop l.member-index l.members) ≡ member_named l.name l.members
