use Rattle.typed_file_laws.proofs.MentionFiles.{sites_stand}
use Rattle.typed_file_laws.proofs.bodies.calls_stand_at_their_sites.Goals as goal

pub returns : goal.returns
returns c = sites_stand
