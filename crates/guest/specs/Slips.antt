-- A slip as bytes: its stamps, hut by hut, 4 bytes each, the high byte first.
use Rattle.std.specs.Prelude.{ℕ, List}
use Rattle.std.specs.List.{flat_map}
use Rattle.letters.specs.Format.{four}

abbrev pub slip_bytes : List ℕ → List ℕ
slip_bytes stamps = flat_map four stamps
