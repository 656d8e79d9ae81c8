use Rattle.std.specs.Prelude.{true}
use Rattle.transfer_rows.specs.Actions.{Around}
use Rattle.transfer_rows.proofs.RowsRise.{target_rises, weak_rises, sync_rises, listed_rises}
use Rattle.transfer_rows.proofs.rises.reports_rise.Goals as goal

-- targets do not depend on what is around
somewhere : Around
somewhere = record {
  reader = record { task = 0; held = 0; found = 0; priority = λ j. 0 };
  is_shared = λ x. true;
  is_smashed = λ x. true;
  is_live = λ t. true;
}

pub returns : goal.returns
returns c = record {
  targets = λ action s s' s-is s'-is le. target_rises somewhere s s' s-is s'-is le action;
  weak = λ around action s s' x s-is s'-is le. weak_rises around s s' s-is s'-is le action x;
  sync = λ around action s s' n x s-is s'-is le. sync_rises around s s' s-is s'-is le action n x;
  classes = λ around action s s' class s-is s'-is le sizes h. listed_rises around s s' s-is s'-is le sizes action class h;
}
