use Rattle.std.proofs.Common.{◌≤◌, ◌∙◌, ap, inl, inr, [], ◌∷◌, ◌++◌, length}
use Rattle.std.proofs.lemmas.Bool.{cases_lt}
use Rattle.post_recheck.specs.Pairs.{pair_of}
use Rattle.certificate_texts.specs.Limits.{certificate_limit}
use Rattle.certificate_texts.proofs.Adding.{lines_then}
use Rattle.certificate_texts.proofs.Finishing.{is_text, is_too_long}
use Rattle.certificate_texts.proofs.writing.written.Goals as goal

pub returns-then-is_full : goal.returns-then-is_full
returns-then-is_full c =
    let source = c.args.source.now in
    let all = lines_then c.in_ok-push_tables.ensures (lines_then c.in_ok-push_store.ensures c.in_ok-push_tagged.ensures) in
    is_too_long source (pair_of c.args.tables.now c.args.store.now) c.push_source.new.self.text.items
    c.push_tagged.new.self.text.items (c.in_ok-push_source.ensures ∙ ap (λ t. t ++ (source ++ (10 ∷ []))) c.in_ok-page.ensures)
    all.text (c.is_full.ensures.0 c.if-is_full.true)

pub returns : goal.returns
returns c =
    let source = c.args.source.now in
    let all = lines_then c.in_ok-push_tables.ensures (lines_then c.in_ok-push_store.ensures c.in_ok-push_tagged.ensures) in
    let fits : length c.push_tagged.new.self.text.items ≤ certificate_limit =
    elim (cases_lt certificate_limit (length c.push_tagged.new.self.text.items)) [
      | inl less ↦ absurd (let full = c.is_full.ensures.1 less in let not = c.if-is_full.false in cc)
      | inr le ↦ le
    ] in (
      is_text source (pair_of c.args.tables.now c.args.store.now) c.push_source.new.self.text.items
          c.push_tagged.new.self.text.items (c.in_ok-push_source.ensures ∙ ap (λ t. t ++ (source ++ (10 ∷ []))) c.in_ok-page.ensures)
          all.text fits,
      fits,
    )
