use Rattle.certificate_texts.proofs.Finishing.{begun}
use Rattle.certificate_texts.proofs.pages.Page.with_head.Goals as goal

pub returns : goal.returns
returns c = begun c.args.count _ _ _ c.new-page.ensures c.in_ok-push_numbered.ensures.text c.in_ok-push_numbered-2.ensures.text
