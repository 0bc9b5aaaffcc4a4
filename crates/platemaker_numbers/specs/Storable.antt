-- A ledger whose counts fit the signed numbers that they are stored in, and an answer that holds such a ledger.
use Rattle.std.specs.Prelude.{◌<◌, ◌^◌}
use Rattle.model.specs.declared.Stats.{Stats}
use Rattle.model.specs.Reference.{Tried, accepted, declined}
use Rattle.model.specs.Calls.{Reply, result, refused}

abbrev pub Storable : Stats → Type 0
Storable s =
    let f = s.figures in
    (f.start_dots < 2 ^ 63) × (f.on < 2 ^ 63) × (f.off < 2 ^ 63) × (f.swaps < 2 ^ 63)

-- it holds of the result, where there is one
abbrev pub Holds : {A : Type 0} → (A → Type 0) → Reply A → Type 0
Holds P (result a) = P a
Holds P (refused n o) = Unit {0}

abbrev pub TriedStorable : Tried → Type 0
TriedStorable (accepted s d) = Storable s
TriedStorable (declined d) = Unit {0}
