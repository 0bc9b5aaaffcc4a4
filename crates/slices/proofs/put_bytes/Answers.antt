-- `slices::put_bytes` meets its contract: what is put in the middle is what it would be byte by byte.
use Rattle.std.proofs.Common.{refl, ap, ◌≡◌, ◌+◌, ◌-◌, ◌≤◌, take, drop, length, ◌++◌, arith, append_assoc}
use Rattle.std.proofs.lemmas.List.{drop-drop}
use Rattle.std.proofs.lemmas.List.Edits.{sets-eq}
use Rattle.slices.proofs.put_bytes.Goals as goal

pub returns : goal.returns
returns c =
    let a = c.args in
    let h : a.at + length a.bytes.now ≤ length a.out.now = c.requires in
    let k : a.at + (a.at + length a.bytes.now - a.at) ≡ a.at + length a.bytes.now = omega arith in
    record { end_is = refl; bytes_are = rw (sets-eq, append_assoc, drop-drop, k, c.copy_from_slice.ensures.after) refl }
