use Rattle.std.proofs.Common.{◌≡◌, ◌<◌, ◌∙◌, ap, sym, map, length, arith, get_or, true}
use Rattle.std.specs.Prelude.{slice_set}
use Rattle.std.proofs.lemmas.List.{map-set, length-map}
use Rattle.indexmap.specs.IndexMap.{get}
use Rattle.tm_typed.specs.declared.scopes.StructEntry.{StructEntry}
use Rattle.tm_typed.specs.Scopes.{Structure, structure_of, no_structure}
use Rattle.std.specs.Prelude.{Option}
use Rattle.std.specs.Map.{lookup}
use Rattle.tm_typed.specs.declared.scopes.Member.{Member}
use Rattle.c_scope.specs.declared.structures.MemberKey.{MemberKey}
use Rattle.c_scope.specs.reading.Members.{is_same_key, with_members}
use Rattle.c_scope.proofs.Members.{IsIndexed, indexed_completed, entry_at}
use Rattle.c_scope.proofs.structures.Structures.complete.Goals as goal

pub invariant_of-self : goal.invariant_of-self
invariant_of-self c =
    let xs = c.self.inside.entries.items in
    let n = c.args.number in
    let v : Structure = structure_of c.args.entry in
    let found : MemberKey → Option Member = λ k. get is_same_key c.self.inside.members k in
    let after : MemberKey → Option Member = λ k. get is_same_key c.note_members.new.found k in
    let i = indexed_completed found after (map structure_of xs) (map structure_of (slice_set xs n c.args.entry)) n v
    (map-set structure_of xs n c.args.entry) (omega (arith, c.if-index-len.false, c.len.ensures, c.self.inside.entries.ok.0, length-map xs structure_of)) c.requires.complete
    (ap (λ ys. (get_or ys n no_structure).complete) c.self.view_is ∙ c.requires.incomplete)
    (λ k. c.note_members.ensures k
    ∙ ap (λ ms. with_members n ms k (get is_same_key c.reserve.new.self k)) c.deref.ensures.value
    ∙ ap (λ es. with_members n c.args.entry.members.items k (lookup (is_same_key k) es)) c.in-Ok.ensures.entries)
    (record { members = c.self.invariant.0; none = c.self.invariant.1 }) in
    (i.members, i.none)

pub returns-in-Ok-clause-ok : goal.returns-in-Ok-clause-ok
returns-in-Ok-clause-ok c = map-set structure_of c.self.inside.entries.items c.args.number c.args.entry ∙ ap (λ ys. slice_set ys c.args.number (structure_of c.args.entry)) c.self.view_is
