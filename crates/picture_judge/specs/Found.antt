-- What a reader found of the header of a picture.
use Rattle.std.specs.Prelude.{false, Option, Some, None}
use Rattle.model.specs.declared.After.{After}
use Rattle.model.specs.declared.NetpbmHeader.{NetpbmHeader}
use Rattle.model.specs.PictureHeader.{PictureHeader}
use Rattle.invariants.specs.Pictures.{header_in}

abbrev pub no_header : PictureHeader
no_header = record { good = false; width = 0; height = 0; maximum = 0; at = 0 }

-- the header that is there, or none
abbrev pub header_found : Option (After NetpbmHeader) → PictureHeader
header_found None = no_header
header_found (Some h) = header_in h
