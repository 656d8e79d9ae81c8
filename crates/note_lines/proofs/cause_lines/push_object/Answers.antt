use Rattle.std.proofs.Common.{◌≡◌, ◌∙◌, ◌++◌, sym, subst, ap, ℕ, List, codes, Some, OnOk, slice_get}
use Rattle.std.proofs.lemmas.List.{append_assoc}
use Rattle.std.proofs.lemmas.Option.{slice_get-get_or}
use Rattle.note_lines.specs.CauseTexts.{of_object, object_named}
use Rattle.note_lines.proofs.cause_lines.push_object.Goals as goal

pub returns-in_ok-push_bytes-in-Some-get : goal.returns-in_ok-push_bytes-in-Some-get
returns-in_ok-push_bytes-in-Some-get c =
    let bytes = c.args.bytes.now in
    let objects = c.args.objects.now in
    let old = c.args.text.now.items in
    let object = c.in-Some.object in
    let found = c.in-Some-get.found.now in
    let at = c.in-Some-get.ensures.lookup in
    let there : slice_get objects object ≡ Some found =
    slice_get-get_or objects object found at.3.0 ∙ ap Some (sym at.1) in
    let name = c.text_of.result.now in
    let named : codes " of " ++ name ≡ of_object bytes objects c.args.object =
    ap (λ (z : List ℕ). codes " of " ++ z) c.text_of.ensures ∙ ap (object_named bytes) (sym there)
    ∙ ap (of_object bytes objects) (sym c.in-Some.is) in
    subst (λ (z : List ℕ). OnOk c.push_bytes-in-Some-get.result (c.push_bytes-in-Some-get.new.text.items ≡ z))
    (ap (λ (z : List ℕ). z ++ name) c.in_ok-push_bytes-in-Some-get.ensures ∙ append_assoc old (codes " of ") name
    ∙ ap (λ (z : List ℕ). old ++ z) named) c.push_bytes-in-Some-get.ensures
