use Rattle.std.proofs.Common.{◌∙◌, ap, sym, map}
use Rattle.std.proofs.lemmas.List.{length-map}
use Rattle.std.specs.Prelude.{option_copied}
use Rattle.std.specs.List.{position}
use Rattle.tm_typed.specs.declared.types.TypeEntry.{TypeEntry}
use Rattle.tm_typed.specs.TypeRows.{is_same_ctype}
use Rattle.c_scope.proofs.SameTypes.{found_alike, found_number, no_number}
use Rattle.c_scope.proofs.types.Types.number.Goals as goal

pub returns-in-Some : goal.returns-in-Some
returns-in-Some c =
    let t = c.args.ctype in
    found_number t (map (λ (e : TypeEntry). e.ctype) c.args.self.now) c.in-Some.number.now
    (ap (λ es. position (is_same_ctype t) (map (λ (e : TypeEntry). e.ctype) es)) (sym c.self.view_is)
    ∙ sym (c.self.invariant.0 t) ∙ sym (found_alike t c.self.inside.rows.entries) ∙ sym c.get.ensures.value ∙ ap (λ o. option_copied o) c.in-Some.is)

pub returns-in-None : goal.returns-in-None
returns-in-None c =
    let t = c.args.ctype in
    c.len.ensures ∙ sym (length-map c.args.self.now (λ (e : TypeEntry). e.ctype)) ∙ no_number t (map (λ (e : TypeEntry). e.ctype) c.args.self.now)
    (ap (λ es. position (is_same_ctype t) (map (λ (e : TypeEntry). e.ctype) es)) (sym c.self.view_is)
    ∙ sym (c.self.invariant.0 t) ∙ sym (found_alike t c.self.inside.rows.entries) ∙ sym c.get.ensures.value ∙ ap (λ o. option_copied o) c.in-None.is)
