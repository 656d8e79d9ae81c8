use Rattle.std.proofs.Common.{rules, ◌≡◌, ◌∙◌, true, false, ap, bytes_eq, is_some, map, sym}
use Rattle.std.specs.HashMap.{get_by}
use Rattle.std.specs.List.{list_any}
use Rattle.std.proofs.lemmas.List.{map-append}
use Rattle.std.proofs.lemmas.Map.Text.{hash_map_updates_str}
use Rattle.place_details.specs.reading.Seen.{bytes_seen}
use Rattle.report_logs.proofs.Files.{new_files, new_seen, old_file, there}
use Rattle.report_logs.proofs.sarif.push_file.Goals as goal

pub returns-then-contains_key : goal.returns-then-contains_key
returns-then-contains_key c =
    λ files has.
    let here = has.known c.args.file.now in
    let old : list_any (bytes_eq c.args.file.now) files ≡ true = search (rules, here) in
    record {
      told = has.told ∙ sym (old_file files c.args.file.now old);
      known = λ q. has.known q ∙ ap (list_any (bytes_eq q)) (sym (old_file files c.args.file.now old));
    }

pub returns : goal.returns
returns c =
    λ files has.
    let here = has.known c.args.file.now in
    let new : list_any (bytes_eq c.args.file.now) files ≡ false = search (rules, here) in
    let put = hash_map_updates_str c.args.file.now c.args.seen.now c.insert.new.self _ c.in_ok-insert.ensures.updates in
    record {
      told = new_files files c.args.file.now new _ _ has.told
          (ap (map bytes_seen) c.in_ok-push.ensures.items ∙ map-append bytes_seen c.args.found.now.items _);
      known = λ q. new_seen files c.args.file.now new
          (λ p. is_some (get_by (λ k. bytes_eq p k.now) c.args.seen.now))
          (λ p. is_some (get_by (λ k. bytes_eq p k.now) c.insert.new.self)) has.known (λ p. ap is_some (put p) ∙ there (bytes_eq c.args.file.now p) _ _) q;
    }
