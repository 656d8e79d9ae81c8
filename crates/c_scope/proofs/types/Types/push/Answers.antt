use Rattle.std.proofs.Common.{◌∙◌, ap, sym, map, length, cond, [], ◌∷◌, Some, arith}
use Rattle.std.proofs.lemmas.List.{length-map, map-append, length-append}
use Rattle.std.specs.List.{position, position_or_len}
use Rattle.tm_typed.specs.declared.types.TypeEntry.{TypeEntry}
use Rattle.tm_typed.specs.contracts.types.CTypePartialEq.TheImpl.{eq-value}
use Rattle.tm_typed.specs.TypeRows.{is_same_ctype}
use Rattle.c_scope.proofs.SameTypes.{found_alike, found_pushed}
use Rattle.c_scope.proofs.types.Types.push.Goals as goal

pub invariant_of-self : goal.invariant_of-self
invariant_of-self c =
    let old = c.self.inside.entries.items in
    let t = c.args.entry.ctype in
    let ts = map (λ (e : TypeEntry). e.ctype) old in
    let rows = c.self.inside.rows.entries in
    let n = ap length c.self.view_is in (
      (λ q. found_pushed t q ts c.len-number.result _ _
          (sym (found_alike q c.insert.new.self.entries) ∙ c.in-Ok-insert.ensures.updates.0 q ∙ ap (λ o. cond (eq-value.it t q) (Some c.len-number.result) o) (found_alike q rows))
          (c.self.invariant.0 q)
          (c.len-number.ensures ∙ sym n ∙ sym (length-map old (λ (e : TypeEntry). e.ctype)))
          (ap (λ es. position_or_len (is_same_ctype t) (map (λ (e : TypeEntry). e.ctype) es)) c.self.view_is ∙ c.requires ∙ sym n ∙ sym (length-map old (λ (e : TypeEntry). e.ctype)))
          ∙ ap (λ us. position (is_same_ctype q) us) (sym (map-append (λ (e : TypeEntry). e.ctype) old (c.args.entry ∷ [])))
          ∙ ap (λ es. position (is_same_ctype q) (map (λ (e : TypeEntry). e.ctype) es)) (sym c.in-Ok.ensures.items)),
      (let m = ap length c.in-Ok.ensures.items ∙ length-append old (c.args.entry ∷ []) in omega (arith, m, c.len.ensures, n, c.if-len-ge4294967295.false)),
    )
