-- A register file is an extent of 2,064 bytes.
use Rattle.std.specs.Prelude.{◌≡◌}
use Rattle.window.specs.declared.extent.Extent.{Extent}

abbrev pub IsFile : Extent → Type 0
IsFile e = e.max ≡ 2063
