-- For callers: one read or write after another, where a stream tells its bytes and where it does not.
use Rattle.std.proofs.Common.{◌≡◌, ℕ, List, [], ◌++◌, Some, None, refl, sym, ap, append_assoc, IfSome}
use Rattle.std.proofs.lemmas.List.{append-nil}
use Rattle.std.specs.declared.option.Option.{Option}
use Rattle.std.specs.Io.KnownBytes.{IsAtEnd, prepend_known, append_known}

-- nothing was read yet
pub prepend_known-nil : (known : Option (List ℕ)) → prepend_known [] known ≡ known
prepend_known-nil None = refl
prepend_known-nil (Some xs) = refl

-- bytes that were read, and then more
pub prepend_known-prepend_known : (first second : List ℕ) (known : Option (List ℕ)) → prepend_known first (prepend_known second known) ≡ prepend_known (first ++ second) known
prepend_known-prepend_known first second None = refl
prepend_known-prepend_known first second (Some xs) = ap Some (sym (append_assoc first second xs))

-- nothing was written yet
pub append_known-nil : (known : Option (List ℕ)) → append_known known [] ≡ known
append_known-nil None = refl
append_known-nil (Some xs) = ap Some (append-nil xs)

-- bytes that were written, and then more
pub append_known-append_known : (first second : List ℕ) (known : Option (List ℕ)) → append_known (append_known known first) second ≡ append_known known (first ++ second)
append_known-append_known first second None = refl
append_known-append_known first second (Some xs) = ap Some (append_assoc xs first second)

-- at the end, the bytes that were read are all that the source told
pub read_to_end : (old : Option (List ℕ)) (bytes : List ℕ) (rest : Option (List ℕ)) → old ≡ prepend_known bytes rest → IsAtEnd rest → IfSome old (λ known. known ≡ bytes)
read_to_end None bytes rest same end = tt
read_to_end (Some known) bytes None same end = cc
read_to_end (Some known) bytes (Some rest) same end = let all : known ≡ bytes ++ rest = cc in cc (all, ap (λ (l : List ℕ). bytes ++ l) end, append-nil bytes)
