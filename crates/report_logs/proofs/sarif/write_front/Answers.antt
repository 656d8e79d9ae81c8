use Rattle.std.proofs.Common.{◌∙◌, ap, map}
use Rattle.serde_json.specs.Data.{array}
use Rattle.serde_json.specs.View.{items_of}
use Rattle.place_details.specs.reading.Seen.{bytes_seen}
use Rattle.report_logs.specs.Sarif.{artifact_data}
use Rattle.report_logs.specs.reading.Written.{value_tokens}
use Rattle.report_logs.proofs.Appending.{last, one, same, then}
use Rattle.report_logs.proofs.sarif.write_front.Goals as goal

pub returns : goal.returns
returns c =
    let files = same (ap (λ files. value_tokens (array (items_of (map artifact_data files))))
    (ap (map bytes_seen) c.deref.ensures.value ∙ c.in_ok-files.ensures))
    c.in_ok-write_artifacts.ensures in
    last c.begin_array-2.result c.begin_array-2.ensures
    (λ e. then (one c.in_ok-begin_object.ensures) (then c.in_ok-write_string.ensures (then (one c.in_ok-key.ensures)
    (then (one c.in_ok-begin_array.ensures) (then (one c.in_ok-begin_object-2.ensures) (then (one c.in_ok-key-2.ensures)
    (then files (then c.in_ok-write_string-2.ensures (then (one c.in_ok-key-3.ensures) e)))))))))
