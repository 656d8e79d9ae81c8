use Rattle.std.proofs.Common.{◌≡◌, ◌∙◌, [], ◌++◌, ◌<◌, ℕ, append-nil, arith, ap, length, length-append}
use Rattle.std.proofs.Common.{length-take, sym, take}
use Rattle.std.proofs.lemmas.List.{take-append-le}
use Rattle.std.specs.Io.KnownBytes.{prepend_known}
use Rattle.program_streams.proofs.input.read_piece.Given as given
use Rattle.program_streams.proofs.input.read_piece.Goals as goal

pub overflow_sub-most : goal.overflow_sub-most
overflow_sub-most g c = omega (arith, c.len.ensures, c.requires)

pub slice_bounds-buffer-end : goal.slice_bounds-buffer-end
slice_bounds-buffer-end g c = omega (arith, c.min-room.ensures)

pub returns-in-Ok-eq0-clause-read : goal.returns-in-Ok-eq0-clause-read
returns-in-Ok-eq0-clause-read g c = record {
  piece = [];
  behind = sym (append-nil c.args.bytes.now.items);
  taken = c.in-Ok-eq0.ensures.taken
      ∙ ap (λ n. prepend_known (take n c.read.new.into) (g.S.Source.left c.read.new.self)) c.in-Ok-eq0.field-0-test;
}

pub returns-in-Ok-eq0-clause-end : goal.returns-in-Ok-eq0-clause-end
returns-in-Ok-eq0-clause-end g c =
    let room : 0 < length c.read.new.into =
    omega (arith, c.requires, c.len.ensures, c.min-room.ensures, length-take {A = ℕ}) in
    λ _. c.in-Ok-eq0.ensures.end c.in-Ok-eq0.field-0-test room

pub returns-in-Ok-eq0-clause-most : goal.returns-in-Ok-eq0-clause-most
returns-in-Ok-eq0-clause-most g c = omega (arith, c.requires)

-- what was read stands behind what was there
pushed : (g : given.Over) (c : goal.In-Ok-extend_from_slice g)
    → c.extend_from_slice.new.self.items ≡ c.args.bytes.now.items ++ take c.in-Ok.count c.read.new.into
pushed g c =
    c.in-Ok-extend_from_slice.ensures.items
    ∙ ap (λ l. c.args.bytes.now.items ++ l) (take-append-le c.in-Ok.count c.read.new.into _ c.in-Ok.ensures.bound.0)

pub returns-in-Ok-extend_from_slice-clause-read : goal.returns-in-Ok-extend_from_slice-clause-read
returns-in-Ok-extend_from_slice-clause-read g c = record {
  piece = take c.in-Ok.count c.read.new.into;
  behind = pushed g c;
  taken = c.in-Ok.ensures.taken;
}

pub returns-in-Ok-extend_from_slice-clause-more : goal.returns-in-Ok-extend_from_slice-clause-more
returns-in-Ok-extend_from_slice-clause-more g c =
    let piece = take c.in-Ok.count c.read.new.into in
    let long = ap length (pushed g c) ∙ length-append c.args.bytes.now.items piece in
    λ _. omega (arith, long, c.in-Ok.ensures.bound.1, c.in-Ok.count-test.1)

pub returns-in-Ok-extend_from_slice-clause-same : goal.returns-in-Ok-extend_from_slice-clause-same
returns-in-Ok-extend_from_slice-clause-same g c = c.in-Ok.ensures.cause.succeeded

pub returns-in-Err-clause-failed : goal.returns-in-Err-clause-failed
returns-in-Err-clause-failed g c = λ _. c.in-Err.ensures.cause.failed
