use Rattle.transfer_rows.proofs.Contributing.{added_is, added_rises, weak_added, sync_added}
use Rattle.transfer_rows.proofs.rises.additions.Goals as goal

pub returns : goal.returns
returns c = record {
  form = λ around action s s-is. added_is around s s-is action;
  rise = λ around action s s' s-is s'-is le. added_rises around s s' s-is s'-is le action;
  weak = weak_added;
  sync = sync_added;
}
