-- What a mark of two numbers is printed as.
use Rattle.std.specs.Prelude.{ℕ, List, ◌++◌, codes, decimal}
use Rattle.console.specs.declared.mark.RawMark.{RawMark}

-- the stamp and the hut
abbrev pub raw_mark_text : RawMark → List ℕ
raw_mark_text m = decimal m.stamp ++ (codes " " ++ decimal m.hut)
